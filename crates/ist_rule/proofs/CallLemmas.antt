-- What the rule says of the calls of one caller goes on at each event. Serves the conjuncts `call`
-- and `taken`.
use Rattle.std.proofs.Common.{◌≡◌, ◌≢◌, ℕ, ◌⊎◌, true, List, [], ◌∷◌, ◌++◌, length, Option, Some, None, refl, sym, ap, ◌∙◌, subst, inl, inr, ⊎_elim, arith}
use Rattle.std.proofs.Math.ListN.{length-append}
use Rattle.ist_core.specs.declared.calls.Call.{Call}
use Rattle.ist_core.specs.declared.commands.Command.{Command}
use Rattle.ist_core.specs.declared.pairs.Pair.{Pair}
use Rattle.ist_core.specs.declared.states.ChangeRow.{ChangeRow}
use Rattle.ist_core.specs.declared.lists.Row.{Row}
use Rattle.ist_core.specs.declared.events.Event.{Event}
use Rattle.ist_core.specs.declared.events.Event.TheVariants.{Install}
use Rattle.ist_core.specs.declared.events.Who.TheVariants.{Caller}
use Rattle.ist_core.specs.WordTerms.{Change, start}
use Rattle.ist_core.specs.LogTerms.{Log, Enabled, EachEnabled, state_of, no_more, one_more, whose, Later}
use Rattle.ist_core.specs.TreeTerms.{CanInstall, IsUpdate, AllResolvedOf, changes_of, command_of, entries_by}
use Rattle.ist_rule.specs.RuleTerms.{Pending, entries_made, HasMade, IsUndecided, IsBetween, IsAtWork, IsEntered, CallStands}
use Rattle.ist_rule.proofs.StandingLemmas.{EntriesMove, same_entries, new_entry, entries_move}
use Rattle.ist_rule.proofs.UndecidedLemmas.{UndecidedComes, undecided_comes, decided_now, none_undecided, resolved_on, was_undecided, now_installed}

-- an event of another installs nothing for the caller
pub installs_not : (number : ℕ) (event : Event) → whose event ≢ Caller number
    → (base : ℕ) (rows : List Row) → event ≢ Install number base rows
installs_not number event other base rows e = other (ap whose e)

-- what is known of an Install of the caller: all before is resolved, and a put or remove is the
-- call's first
pub record MayBring (pairs : List Pair) (words : ℕ) (log : Log) (number : ℕ) (calls : List Call)
    (command : Option Command) (change : ChangeRow) : Type 0 where
  pub resolved : AllResolvedOf (state_of pairs words log) log number
  -- a put or remove is the command of the call
  pub its_command : IsUpdate change.kind → command_of change ≡ command
  -- before a put or remove the caller's entries are those that its calls make
  pub none_yet : IsUpdate change.kind → HasMade pairs words log number calls

module _ (pairs : List Pair) (words : ℕ) (number : ℕ) (calls : List Call) where
  -- between calls the entries stay, and all stays resolved, if the caller installs nothing
  pub between_on : (log : Log) (event : Event) → EachEnabled (start pairs words) (event ∷ log)
      → ((base : ℕ) (rows : List Row) → event ≢ Install number base rows)
      → IsBetween pairs words log number calls → IsBetween pairs words (event ∷ log) number calls
  between_on log event enabled idle b = record {
    made = at (entries_move pairs words log number event enabled.1);
    resolved = resolved_on pairs words log event enabled number idle b.resolved;
  }
    where
      at : EntriesMove pairs words log number event → HasMade pairs words (event ∷ log) number calls
      at (same_entries e) = e ∙ b.made
      at (new_entry by base is u entry e more) =
          absurd (none_undecided pairs words log enabled.0 number b.resolved base u)

  -- between calls all stays so, along a log that goes on by others
  pub between_later : (old log : Log) → EachEnabled (start pairs words) log
      → Later (Caller number) old log
      → IsBetween pairs words old number calls → IsBetween pairs words log number calls
  between_later old _ enabled no_more b = b
  between_later old _ enabled (one_more {log = log} event l other) b =
      between_on log event enabled (installs_not number event other)
      (between_later old log enabled.0 l b)

  -- all stays resolved along a log that goes on by others
  pub resolved_later : (old log : Log) → EachEnabled (start pairs words) log
      → Later (Caller number) old log → AllResolvedOf (state_of pairs words old) old number
      → AllResolvedOf (state_of pairs words log) log number
  resolved_later old _ enabled no_more all = all
  resolved_later old _ enabled (one_more {log = log} event l other) all =
      resolved_on pairs words log event enabled number (installs_not number event other)
      (resolved_later old log enabled.0 l all)

  module _ (log : Log) (event : Event) (enabled : EachEnabled (start pairs words) (event ∷ log))
      (command : Option Command)
      (may : (base : ℕ) (rows : List Row) → event ≡ Install number base rows
      → (h : CanInstall (start pairs words) log number base rows)
      → MayBring pairs words log number calls command h.change) where
    -- what is undecided after the event was so, or is installed now, as it may be
    abbrev ComesAs : (base : ℕ) → IsUndecided (state_of pairs words (event ∷ log)) number base
        → Type 0
    ComesAs base u =
        ((w : IsUndecided (state_of pairs words log) number base)
        × (command_of w.change ≡ command_of u.change))
        ⊎ ((m : ChangeRow) × MayBring pairs words log number calls command m × IsUpdate m.kind
        × (command_of m ≡ command_of u.change)
        × ((other : ℕ) → IsUndecided (state_of pairs words (event ∷ log)) number other
        → (base ≡ other) ⊎ IsUndecided (state_of pairs words log) number other))

    comes_from : (base : ℕ) (u : IsUndecided (state_of pairs words (event ∷ log)) number base)
        → ComesAs base u
    comes_from base u = at (undecided_comes pairs words log event enabled number base u) refl
      where
        at : {e : Event} → UndecidedComes (start pairs words) log number base (command_of u.change)
            e → event ≡ e → ComesAs base u
        at (was_undecided w same) is = inl (w, same)
        at (now_installed {rows = rows} h up same) is =
            inr (
              h.change,
              may base rows is h,
              up,
              same,
              λ other v. near other
                  (undecided_comes pairs words log event enabled number other v) is,
            )
          where
            near : (other : ℕ) {c : Option Command} {e : Event}
                → UndecidedComes (start pairs words) log number other c e
                → e ≡ Install number base rows → (base ≡ other)
                ⊎ IsUndecided (state_of pairs words log) number other
            near other (was_undecided w k) f = inr w
            near other (now_installed h2 up2 k) f = inl (sym (cc))

    -- a call that made no entry goes on so, or makes its entry now
    work_on : IsAtWork pairs words log number calls command
        → IsAtWork pairs words (event ∷ log) number calls command
        ⊎ IsEntered pairs words (event ∷ log) number calls command
    work_on w = at (entries_move pairs words log number event enabled.1)
      where
        one_now : (base other : ℕ) → IsUndecided (state_of pairs words (event ∷ log)) number base
            → IsUndecided (state_of pairs words (event ∷ log)) number other → base ≡ other
        one_now base other u v = ⊎_elim
            (λ a. ⊎_elim (λ b. w.one base other a.0 b.0)
            (λ b. ⊎_elim (λ e. sym e) (λ x. absurd
            (none_undecided pairs words log enabled.0 number b.1.resolved base a.0))
            (b.4 base u))
            (comes_from other v))
            (λ a. ⊎_elim (λ e. e) (λ x. absurd
            (none_undecided pairs words log enabled.0 number a.1.resolved other x))
            (a.4 other v))
            (comes_from base u)

        at : EntriesMove pairs words log number event
            → IsAtWork pairs words (event ∷ log) number calls command
            ⊎ IsEntered pairs words (event ∷ log) number calls command
        at (same_entries e) = inl record {
          made = e ∙ w.made;
          its_command = λ base u. ⊎_elim (λ a. sym a.1 ∙ w.its_command base a.0)
              (λ a. sym a.3 ∙ a.1.its_command a.2) (comes_from base u);
          one = one_now;
        }
        at (new_entry by base is u entry named e) = inr record {
          entry = entry;
          made = e ∙ ap (λ xs. xs ++ entry ∷ []) w.made;
          its_command = sym (w.its_command base u) ∙ named;
          none = λ other v. ⊎_elim
              (λ a. let same : other ≡ base = w.one other base a.0 u in
              decided_now pairs words log event enabled by base true is u.change
              u.pending.published v.change
              (subst (λ b. (state_of pairs words (event ∷ log)).pieces b
              ≡ Some (Change v.change)) same v.pending.published) v.pending.unset)
              (λ a. none_undecided pairs words log enabled.0 number a.1.resolved base u)
              (comes_from other v);
        }

    -- a call that made its entry goes on so
    entered_on : IsEntered pairs words log number calls command
        → IsEntered pairs words (event ∷ log) number calls command
    entered_on w = record {
      entry = w.entry;
      made = at (entries_move pairs words log number event enabled.1);
      its_command = w.its_command;
      none = λ base u. ⊎_elim (λ a. w.none base a.0)
          (λ a. let more = ap length (sym w.made ∙ a.1.none_yet a.2) in let long =
          length-append (entries_made number calls) (w.entry ∷ []) in absurd (omega arith))
          (comes_from base u);
    }
      where
        at : EntriesMove pairs words log number event
            → entries_by number (changes_of pairs words (event ∷ log)) ≡ entries_made number calls
            ++ w.entry ∷ []
        at (same_entries e) = e ∙ w.made
        at (new_entry by base is u entry named e) = absurd (w.none base u)

  -- what becomes of the caller's changes at each event, if it may install what it installs
  pub call_on : (log : Log) (event : Event) → EachEnabled (start pairs words) (event ∷ log)
      → (o : Option Pending)
      → ((base : ℕ) (rows : List Row) → event ≡ Install number base rows
      → (h : CanInstall (start pairs words) log number base rows)
      → (pending : Pending) × (o ≡ Some pending)
      × MayBring pairs words log number calls pending.command h.change)
      → CallStands pairs words log number calls o
      → CallStands pairs words (event ∷ log) number calls o
  call_on log event enabled None may b = between_on log event enabled out b
    where
      out : (base : ℕ) (rows : List Row) → event ≢ Install number base rows
      out base rows is = let it = may base rows is
          (subst (Enabled (start pairs words) log) is enabled.1) in cc (it.1)
  call_on log event enabled (Some pending) may b =
      ⊎_elim (λ w. work_on log event enabled pending.command brings w)
      (λ w. inr (entered_on log event enabled pending.command brings w)) b
    where
      brings : (base : ℕ) (rows : List Row) → event ≡ Install number base rows
          → (h : CanInstall (start pairs words) log number base rows)
          → MayBring pairs words log number calls pending.command h.change
      brings base rows is h = let it = may base rows is h in
          let same : pending ≡ it.0 = cc (it.1) in
          subst (λ p. MayBring pairs words log number calls p.command h.change) (sym same) it.2

  -- nothing that others do takes a call further than that
  pub call_by_others : (log : Log) (event : Event) → EachEnabled (start pairs words) (event ∷ log)
      → (o : Option Pending) → whose event ≢ Caller number
      → CallStands pairs words log number calls o
      → CallStands pairs words (event ∷ log) number calls o
  call_by_others log event enabled o other b = grind (arith, call_on, installs_not)
