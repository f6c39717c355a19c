-- What one event does to the entries and the undecided changes of one caller. Serves the conjunct
-- `call` of the rule.
use Rattle.std.proofs.Common.{◌≡◌, ◌≢◌, ℕ, ◌⊎◌, ◌==◌, Bool, true, false, if◌then◌else◌, List, [], ◌∷◌, ◌++◌, Option, Some, None, refl, ap, ◌∙◌, inl, inr, append-nil, arith}
use Rattle.std.proofs.lemmas.Bool.Decides.{eqb_tells}
use Rattle.std.proofs.lemmas.List.Elements.{filter-append}
use Rattle.ist_core.specs.declared.commands.Command.{Command}
use Rattle.ist_core.specs.declared.pairs.Pair.{Pair}
use Rattle.ist_core.specs.declared.states.ChangeRow.{ChangeRow}
use Rattle.ist_core.specs.declared.events.Event.{Event}
use Rattle.ist_core.specs.declared.events.Event.TheVariants.{Decide}
use Rattle.ist_core.specs.WordTerms.{start}
use Rattle.ist_core.specs.LogTerms.{Log, Enabled, state_of}
use Rattle.ist_core.specs.TreeTerms.{IsPending, Entry, changes_of, command_of, reply_of, entry_for, entry_of, entries_by}
use Rattle.ist_core.proofs.CommandLemmas.{command_update}
use Rattle.ist_rule.specs.RuleTerms.{IsUndecided}

-- ---- commands and entries

-- the entries of an owner, of one entry
one_entry : (number : ℕ) (entry : Entry) (b : Bool) → (entry.owner == number) ≡ b
    → entries_by number (entry ∷ []) ≡ (if b then entry ∷ [] else [])
one_entry number entry b e = ap (λ x. if x then entry ∷ [] else []) e

-- what an event adds to the entries of a caller: nothing, or the entry of a put or remove that
-- waited to be decided
pub data EntriesMove (pairs : List Pair) (words : ℕ) (log : Log) (number : ℕ) (event : Event) : Type
    0 where
  same_entries : entries_by number (changes_of pairs words (event ∷ log))
      ≡ entries_by number (changes_of pairs words log) → EntriesMove pairs words log number event
  new_entry : (by base : ℕ) → event ≡ Decide by base true
      → (u : IsUndecided (state_of pairs words log) number base)
      → (entry : Entry) → command_of u.change ≡ Some entry.command
      → entries_by number (changes_of pairs words (event ∷ log))
      ≡ entries_by number (changes_of pairs words log) ++ entry ∷ []
      → EntriesMove pairs words log number event

module _ (pairs : List Pair) (words : ℕ) (log : Log) (number by base : ℕ) (r : ChangeRow)
    (there : IsPending (state_of pairs words log) base r) where
  abbrev before : List Entry
  before = entries_by number (changes_of pairs words log)

  -- the entries after a yes, by the entries of the row
  following_yes : (new : List Entry)
      → entry_of (state_of pairs words log).pieces ((state_of pairs words log).pieces base) ≡ new
      → entries_by number (changes_of pairs words (Decide by base true ∷ log)) ≡ before
      ++ entries_by number new
  following_yes new e = grind (arith, filter-append)

  -- the entries after a yes, by whether the change has a command
  with_command : (o : Option Command) → command_of r ≡ o
      → EntriesMove pairs words log number (Decide by base true)
  with_command None e =
      same_entries (following_yes [] (ap (entry_of (state_of pairs words log).pieces) there.published ∙
      ap (entry_for (state_of pairs words log).pieces r) e) ∙ append-nil before)
  with_command (Some command) e = at (eqb_tells r.owner number)
    where
      entry : Entry
      entry = record {
        owner = r.owner;
        command = command;
        reply = reply_of (state_of pairs words log).pieces r;
      }

      made : entries_by number (changes_of pairs words (Decide by base true ∷ log)) ≡ before
          ++ entries_by number (entry ∷ [])
      made = following_yes (entry ∷ []) (ap (entry_of (state_of pairs words log).pieces)
          there.published ∙ ap (entry_for (state_of pairs words log).pieces r) e)

      at : (((r.owner == number) ≡ true) × (r.owner ≡ number))
          ⊎ (((r.owner == number) ≡ false) × (r.owner ≢ number))
          → EntriesMove pairs words log number (Decide by base true)
      at (inl k) = new_entry by base refl record {
        change = r;
        pending = there;
        owned = k.1;
        update = command_update r command e;
      } entry e
          (made ∙ ap (λ xs. before ++ xs) (one_entry number entry true k.0))
      at (inr k) = same_entries (made ∙ ap (λ xs. before ++ xs) (one_entry number entry false k.0) ∙
          append-nil before)

-- what an event adds to the entries of a caller
pub entries_move : (pairs : List Pair) (words : ℕ) (log : Log) (number : ℕ) (event : Event)
    → Enabled (start pairs words) log event → EntriesMove pairs words log number event
entries_move pairs words log number (Decide by base true) h =
    with_command pairs words log number by base h.change h.pending (command_of h.change) refl
entries_move pairs words log number _ h = same_entries refl
