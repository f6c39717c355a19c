-- An update that is decided yes took effect. Serves `laws.calls_are_added`.
use Rattle.std.proofs.Common.{◌≡◌, ◌≢◌, ℕ, zero, suc, ◌+◌, ◌≤◌, ◌==◌, true, List, [], ◌∷◌, ◌++◌, length, slice_get, Some, refl, sym, ap, ◌∙◌, subst, arith, length-append, append_assoc, append-nil}
use Rattle.std.proofs.lemmas.Bool.Decides.{nat_tests}
use Rattle.std.proofs.lemmas.List.Elements.{filter-append}
use Rattle.std.proofs.lemmas.Option.{same_Some}
use Rattle.std.proofs.lemmas.List.{nil_from_length}
use Rattle.ist_core.specs.declared.calls.Call.{Call}
use Rattle.ist_core.specs.declared.commands.Command.{Command}
use Rattle.ist_core.specs.declared.pairs.Pair.{Pair}
use Rattle.ist_core.specs.declared.states.ChangeRow.{ChangeRow}
use Rattle.ist_core.specs.declared.events.Event.TheVariants.{Decide}
use Rattle.ist_core.specs.WordTerms.{decided_yes, Change, start}
use Rattle.ist_core.specs.LogTerms.{Each, Log, GoesOn, same_log, one_event, EachEnabled, CanOpen, state_of, Snapshot}
use Rattle.ist_core.specs.TreeTerms.{Entry, command_of, reply_of, entry_for, entry_of, changes_of, makes_entry, entry_by, entries_by, ChangeGrows}
use Rattle.ist_core.proofs.AllLogLemmas.{change_there, enabled_before, grow_between, goes_on_more}
use Rattle.ist_core.proofs.AllWordLemmas.{same_change}
use Rattle.laws_histories.specs.Telling.{IsEntryOf}
use Rattle.laws_histories.specs.Calls.{CameToCall}
use Rattle.laws_histories.proofs.ChangeLemmas.{changes_on, get_at}
use Rattle.laws_histories.proofs.DecisionLemmas.{Turning, turns_since}
use Rattle.laws_histories.proofs.EntryLemmas.{command_stays, entry_made, entries_change}

-- if the owner has at most one more entry, this entry of the owner is it
alone : (number : ℕ) (xs mid rest : List Entry) (entry : Entry) → entry.owner ≡ number
    → length (entries_by number ((xs ++ mid) ++ (entry ∷ rest))) ≤ length (entries_by number xs) + 1
    → entries_by number ((xs ++ mid) ++ (entry ∷ rest)) ≡ entries_by number xs ++ entry ∷ []
alone number xs mid rest entry own few = parts
    ∙ ap (λ es. (entries_by number xs ++ es) ++ (entry ∷ entries_by number rest))
    (nil_from_length (entries_by number mid) (let a = lengths in omega arith))
    ∙ ap (λ es. es ++ (entry ∷ entries_by number rest)) (append-nil (entries_by number xs))
    ∙ ap (λ es. entries_by number xs ++ (entry ∷ es))
    (nil_from_length (entries_by number rest) (let a = lengths in omega arith))
  where
    kept : entries_by number (entry ∷ rest) ≡ entry ∷ entries_by number rest
    kept = let test : (entry.owner == number) ≡ true = grind (arith, nat_tests) in rw test refl

    parts : entries_by number ((xs ++ mid) ++ (entry ∷ rest)) ≡ (entries_by number xs ++ entries_by number mid) ++ (entry ∷ entries_by number rest)
    parts = grind (arith, filter-append, kept)

    lengths : (length (entries_by number xs) + length (entries_by number mid)) + suc (length (entries_by number rest)) ≤ length (entries_by number xs) + 1
    lengths = let a = ap length parts in
        let b =
        length-append (entries_by number xs ++ entries_by number mid)
        (entry ∷ entries_by number rest) in
        let c = length-append (entries_by number xs) (entries_by number mid) in omega arith

-- one element of a list at a place
same_first : (xs : List Entry) (i : ℕ) (x y : Entry) → slice_get xs i ≡ Some x
    → slice_get xs i ≡ Some y → x ≡ y
same_first xs i x y e f = same_Some x y (sym e ∙ f)

-- what each element has, one at a place has
each_get : (P : Entry → Type 0) (xs : List Entry) (i : ℕ) (x : Entry) → Each P xs
    → slice_get xs i ≡ Some x → P x
each_get P [] i x h e = absurd (cc)
each_get P (y ∷ xs) zero x h e = subst P (same_Some y x e) h.0
each_get P (y ∷ xs) (suc i) x h e = each_get P xs i x h.1 e

module _ (pairs : List Pair) (words : ℕ) (opens : CanOpen pairs words) where
  -- an update that was decided yes since, the only one of its owner, took effect
  pub took_effect : (seen log : Log) → EachEnabled (start pairs words) log → GoesOn seen log
      → (number stamp base : ℕ) (change : ChangeRow) (command : Command)
      → (state_of pairs words log).pieces base ≡ Some (Change change)
      → change.decision ≡ decided_yes → change.owner ≡ number → command_of change ≡ Some command
      → ((old : ChangeRow) → (state_of pairs words seen).pieces base ≡ Some (Change old) → old.decision ≢ decided_yes)
      → length (entries_by number (changes_of pairs words log)) ≤ length (entries_by number (changes_of pairs words seen)) + 1
      → CameToCall pairs words seen log number stamp command change
  took_effect seen log h g number stamp base change command e said own is unsaid few = record {
    position = length front;
    call = call;
    call_is = refl;
    changes = each_get (λ entry. makes_entry entry.command entry.reply ≡ true)
        (changes_of pairs words log) (length front) (entry_by number call)
        (entries_change pairs words opens log h) (has ∙ ap (λ x. Some x) one);
    effect = record {
      earlier = turn.at;
      caller = turn.caller;
      base = base;
      since = turn.since;
      until = turn.until;
      entry = made ∙ ap (λ x. x ∷ []) one;
      position = refl;
      alone = ap (entries_by number) are
          ∙ alone number old mid.0 rest.0 first (ap (λ x. x.owner) one)
          (subst (λ es. length (entries_by number es) ≤ length (entries_by number old) + 1) are few)
          ∙ ap (λ x. entries_by number old ++ x ∷ []) one;
    };
  }
    where
      turn : Turning seen log base
      turn = turns_since pairs words seen log g h base change unsaid e said

      front : List Entry
      front = changes_of pairs words turn.at

      old : List Entry
      old = changes_of pairs words seen

      call : Call
      call =
          record { command = command; reply = reply_of (state_of pairs words log).pieces change; position = length front; stamp = stamp }

      whole : Log
      whole = Decide turn.caller base true ∷ turn.at

      on : GoesOn turn.at log
      on = goes_on_more (one_event (Decide turn.caller base true) same_log) turn.until

      t : Snapshot
      t = state_of pairs words turn.at

      m : EachEnabled (start pairs words) whole
      m = enabled_before (start pairs words) whole log turn.until h

      before : ChangeRow
      before = m.1.change

      there : (later : ChangeRow) × ((state_of pairs words log).pieces base ≡ Some (Change later)) × ChangeGrows before later
      there = change_there t.pieces (state_of pairs words log).pieces
          (grow_between pairs words turn.at log h on) base before m.1.pending.published

      -- the row had the command when it was decided
      command_was : command_of before ≡ Some command
      command_was = sym (command_stays before there.0 there.2) ∙ ap command_of
          (same_change ((state_of pairs words log).pieces base) there.0 change there.1 e) ∙ is

      -- its entry then
      first : Entry
      first = record { owner = before.owner; command = command; reply = reply_of t.pieces before }

      made : entry_of t.pieces (t.pieces base) ≡ first ∷ []
      made =
          ap (entry_of t.pieces) m.1.pending.published ∙ ap (entry_for t.pieces before) command_was

      mid : (more : List Entry) × (front ≡ old ++ more)
      mid = changes_on (start pairs words) seen turn.at turn.since

      rest : (more : List Entry) × (changes_of pairs words log ≡ changes_of pairs words whole ++ more)
      rest = changes_on (start pairs words) whole log turn.until

      following : changes_of pairs words log ≡ front ++ (first ∷ rest.0)
      following =
          rest.1 ∙ ap (λ es. (front ++ es) ++ rest.0) made ∙ append_assoc front (first ∷ []) rest.0

      are : changes_of pairs words log ≡ (old ++ mid.0) ++ (first ∷ rest.0)
      are = following ∙ ap (λ es. es ++ (first ∷ rest.0)) mid.1

      has : slice_get (changes_of pairs words log) (length front) ≡ Some first
      has = grind (arith, front, first, following, get_at)

      it : IsEntryOf pairs words log (length front) base
      it = grind (arith, entry_made, before, command_was)

      -- this entry is the one that is read from the row after the log
      one : first ≡ entry_by number call
      one =
          let same =
          same_change ((state_of pairs words log).pieces base) it.change change it.published e in
          let word =
          same_Some it.command command (sym it.command_is ∙ ap command_of same ∙ is) in
          same_first (changes_of pairs words log) (length front) first
          record { owner = it.change.owner; command = it.command; reply = reply_of (state_of pairs words log).pieces it.change }
          has it.entry
          ∙ (λ i. record {
            owner = ap (λ c. c.owner) same i;
            command = word i;
            reply = reply_of (state_of pairs words log).pieces (same i);
          })
          ∙ ap (λ o. record { owner = o; command = command; reply = reply_of (state_of pairs words log).pieces change }) own
