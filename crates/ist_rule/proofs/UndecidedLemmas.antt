-- Where undecided changes come from at each event, and which stay decided. Serves the conjunct `call`.
use Rattle.std.proofs.Common.{◌≡◌, ◌≢◌, ℕ, Bool, List, [], ◌∷◌, Option, Some, sym, ap, ◌∙◌, subst, inl, inr, arith}
use Rattle.ist_core.specs.declared.commands.Command.{Command}
use Rattle.ist_core.specs.declared.pairs.Pair.{Pair}
use Rattle.ist_core.specs.declared.states.ChangeRow.{ChangeRow}
use Rattle.ist_core.specs.declared.lists.Row.{Row}
use Rattle.ist_core.specs.declared.events.Event.{Event}
use Rattle.ist_core.specs.declared.events.Event.TheVariants.{Install, Decide, Resolve}
use Rattle.ist_core.specs.WordTerms.{undecided, Change, start}
use Rattle.ist_core.specs.LogTerms.{Snapshot, Log, state, Happened, Resolves, Enabled, EachEnabled, state_of}
use Rattle.ist_core.specs.TreeTerms.{CanInstall, IsUpdate, AllResolvedOf, command_of}
use Rattle.ist_core.proofs.AllWordLemmas.{changed_at-same}
use Rattle.ist_core.proofs.AllLogLemmas.{change_there, said_something}
use Rattle.ist_core.proofs.AllEventLemmas.{grow_step, sound, sound_start}
use Rattle.ist_rule.specs.RuleTerms.{IsUndecided}
use Rattle.ist_rule.proofs.ChangeLemmas.{ChangeComes, stood, is_installed, change_comes, grows_same_change, grows_undecided}
use Rattle.laws_histories.proofs.EntryLemmas.{command_stays}

-- ---- changes that are undecided, and changes that are resolved

-- an undecided put or remove after an event was undecided, with the same command, or is the one
-- that the event installs
pub data UndecidedComes (first : Snapshot) (log : Log) (number base : ℕ)
    (command : Option Command) : Event → Type 0 where
  was_undecided : {event : Event} (u : IsUndecided (state first log) number base)
      → command_of u.change ≡ command → UndecidedComes first log number base command event
  now_installed : {rows : List Row} (h : CanInstall first log number base rows)
      → IsUpdate h.change.kind → command_of h.change ≡ command
      → UndecidedComes first log number base command (Install number base rows)

module _ (pairs : List Pair) (words : ℕ) (log : Log) (event : Event)
    (enabled : EachEnabled (start pairs words) (event ∷ log)) where
  abbrev first : Snapshot
  first = start pairs words

  -- each undecided put or remove after the event is one of these two
  pub undecided_comes : (number base : ℕ)
      (u : IsUndecided (state_of pairs words (event ∷ log)) number base)
      → UndecidedComes first log number base (command_of u.change) event
  undecided_comes number base u =
      at (change_comes first log event enabled.1
      (sound first log (sound_start pairs words) enabled.0) base u.change u.pending.published)
    where
      at : {e : Event} → ChangeComes first log base u.change e
          → UndecidedComes first log number base (command_of u.change) e
      at (stood old there g) = let same = grows_same_change g in was_undecided
          record {
            change = old;
            pending = record { published = there; unset = grows_undecided g u.pending.unset };
            owned = sym same.1 ∙ u.owned;
            update = subst IsUpdate same.0 u.update;
          }
          (sym (command_stays _ _ g))
      at (is_installed {caller = caller} {rows = rows} h g) = let same = grows_same_change g in
          by (sym h.owned ∙ sym same.1 ∙ u.owned) h (subst IsUpdate same.0 u.update)
          (sym (command_stays _ _ g))
        where
          by : {c : ℕ} → c ≡ number → (k : CanInstall first log c base rows)
              → IsUpdate k.change.kind → command_of k.change ≡ command_of u.change
              → UndecidedComes first log number base (command_of u.change) (Install c base rows)
          by {c} e = subst (λ n. (k : CanInstall first log n base rows) → IsUpdate k.change.kind
              → command_of k.change ≡ command_of u.change
              → UndecidedComes first log number base (command_of u.change) (Install n base rows))
              (sym e) (λ k up co. now_installed k up co)

  -- a change that is decided doesn't wait
  pub decided_now : (by base : ℕ) (said : Bool) → event ≡ Decide by base said → (r : ChangeRow)
      → (state_of pairs words log).pieces base ≡ Some (Change r)
      → (new : ChangeRow) → (state_of pairs words (event ∷ log)).pieces base ≡ Some (Change new)
      → new.decision ≢ undecided
  decided_now by base said is r there new now = grind (arith, changed_at-same, said_something)

-- what was resolved is decided
pub record WasDecided (t : Snapshot) (base : ℕ) : Type 0 where
  pub change : ChangeRow
  pub published : t.pieces base ≡ Some (Change change)
  pub decided : change.decision ≢ undecided

module _ (pairs : List Pair) (words : ℕ) where
  decided_on : (log : Log) (event : Event) → EachEnabled (start pairs words) (event ∷ log)
      → (base : ℕ) → WasDecided (state_of pairs words log) base
      → WasDecided (state_of pairs words (event ∷ log)) base
  decided_on log event enabled base d =
      let grow = grow_step (start pairs words) log event enabled.1
      (sound (start pairs words) log (sound_start pairs words) enabled.0) in
      let it = change_there (state_of pairs words log).pieces
      (state_of pairs words (event ∷ log)).pieces grow base d.change d.published in
      record {
        change = it.0;
        published = it.1;
        decided = λ e. d.decided (sym (it.2.decided d.decided) ∙ e);
      }

  resolved_now : (log : Log) (event : Event) → Enabled (start pairs words) log event → (base : ℕ)
      → Resolves base event → WasDecided (state_of pairs words log) base
  resolved_now log (Resolve caller change) h base is = grind arith
  resolved_now log _ h base is = absurd is

  -- a change that was resolved is decided
  pub resolved_decided : (log : Log) → EachEnabled (start pairs words) log → (base : ℕ)
      → Happened (Resolves base) log → WasDecided (state_of pairs words log) base
  resolved_decided [] enabled base is = absurd is
  resolved_decided (event ∷ log) enabled base (inl is) = grind (arith, decided_on, resolved_now)
  resolved_decided (event ∷ log) enabled base (inr is) =
      decided_on log event enabled base (resolved_decided log enabled.0 base is)

  -- if all is resolved, nothing is undecided
  pub none_undecided : (log : Log) → EachEnabled (start pairs words) log → (number : ℕ)
      → AllResolvedOf (state_of pairs words log) log number → (base : ℕ)
      → ¬ (IsUndecided (state_of pairs words log) number base)
  none_undecided log enabled number all base u =
      let d = resolved_decided log enabled base (all base u.change u.pending.published u.owned) in
      let same : d.change ≡ u.change = cc (d.published, u.pending.published) in
      d.decided (ap (λ r. r.decision) same ∙ u.pending.unset)

  -- what is resolved stays so, if the caller installs nothing
  pub resolved_on : (log : Log) (event : Event) → EachEnabled (start pairs words) (event ∷ log)
      → (number : ℕ) → ((base : ℕ) (rows : List Row) → event ≢ Install number base rows)
      → AllResolvedOf (state_of pairs words log) log number
      → AllResolvedOf (state_of pairs words (event ∷ log)) (event ∷ log) number
  resolved_on log event enabled number idle all base r there owned =
      inr (at (change_comes (start pairs words) log event enabled.1
      (sound (start pairs words) log (sound_start pairs words) enabled.0) base r there) idle)
    where
      at : {e : Event} → ChangeComes (start pairs words) log base r e
          → ((b : ℕ) (rows : List Row) → e ≢ Install number b rows) → Happened (Resolves base) log
      at (stood past was g) out = all base past was (sym (grows_same_change g).1 ∙ owned)
      at (is_installed {rows = rows} h g) out =
          absurd (out base rows (ap (λ c. Install c base rows)
          (sym h.owned ∙ sym (grows_same_change g).1 ∙ owned)))
