-- An update that is its caller's one entry since may be counted. Serves the law on Counts.
use Rattle.std.proofs.Common.{List, None, Some, ap, arith, inl, inr, length, length-append, subst, sym, true, ℕ, if◌then◌else◌, ◌++◌, ◌+◌, ◌==◌, ◌∙◌, ◌∷◌, ◌≡◌, ◌≤◌}
use Rattle.std.proofs.lemmas.Bool.Decides.{eqb_tells}
use Rattle.std.proofs.lemmas.List.Elements.{filter-append}
use Rattle.ist_core.specs.declared.commands.Command.TheVariants.{Put, Remove}
use Rattle.ist_core.specs.declared.commands.Command.{Command}
use Rattle.ist_core.specs.declared.events.Event.TheVariants.{Decide}
use Rattle.ist_core.specs.declared.events.Event.{Event}
use Rattle.ist_core.specs.declared.pairs.Pair.{Pair}
use Rattle.ist_core.specs.declared.states.ChangeRow.{ChangeRow}
use Rattle.ist_core.specs.LogTerms.{GoesOnBy, CanOpen, EachEnabled, state_of, Counts, GoesOn, Log, one_event, same_log}
use Rattle.ist_core.specs.TreeTerms.{changes_of, command_of, entry_for, entry_of, CanCount, IsUpdateOf, SaysYes, WasOnChain, IsUpdate, entries_by}
use Rattle.ist_core.specs.WordTerms.{Pieces, start, put_kind, remove_kind}
use Rattle.ist_core.proofs.AllLogLemmas.{enabled_before, grow_between, change_there, goes_on_more, goes_on_by}
use Rattle.ist_core.proofs.AllWordLemmas.{same_change}
use Rattle.laws_links.proofs.StartingLemmas.{owner_known}
use Rattle.laws_histories.proofs.ChangeLemmas.{changes_on}
use Rattle.laws_histories.proofs.DecisionLemmas.{Turning, turns_since}
use Rattle.laws_calls.proofs.AcceptedLemmas.{Met, event_by, events_after, happened_met}
use Rattle.laws_calls.specs.Counting.{CountsElsewhere, IsOneUpdate}

-- a put or remove has a command
pub update_command : (x : ChangeRow) → IsUpdate x.kind
    → (command : Command) × (command_of x ≡ Some command)
update_command x (inl put) = (
  Put x.key x.value,
  ap (λ k. if k == put_kind then Some (Put x.key x.value)
      else (if k == remove_kind then Some (Remove x.key) else None)) put,
)
update_command x (inr remove) = (
  Remove x.key,
  ap (λ k. if k == put_kind then Some (Put x.key x.value)
      else (if k == remove_kind then Some (Remove x.key) else None)) remove,
)

-- an entry of the owner is one of its entries
own_entry : (ps : Pieces) (x : ChangeRow) (caller : ℕ) → x.owner ≡ caller → (command : Command)
    → length (entries_by caller (entry_for ps x (Some command))) ≡ 1
own_entry ps x caller own command = grind (arith, eqb_tells)

module _ (pairs : List Pair) (words : ℕ) where
  -- how many entries a caller has
  entries : ℕ → Log → ℕ
  entries caller log = length (entries_by caller (changes_of pairs words log))

  -- a caller has at least as many entries in a longer log
  entries_rise : (caller : ℕ) (earlier log : Log) → GoesOn earlier log
      → entries caller earlier ≤ entries caller log
  unfolding entries
  entries_rise caller earlier log on = let it = changes_on (start pairs words) earlier log on in
      let parts = ap (entries_by caller) it.1
      ∙ filter-append (λ entry. entry.owner == caller) (changes_of pairs words earlier) it.0 in
      let lengths = ap length parts
      ∙ length-append (entries_by caller (changes_of pairs words earlier))
      (entries_by caller it.0) in
      omega arith

  -- the yes of an own update adds one entry
  yes_adds : (caller by base : ℕ) (before log : Log) → EachEnabled (start pairs words) log
      → GoesOn (Decide by base true ∷ before) log
      → IsUpdateOf (state_of pairs words log) caller base
      → entries caller (Decide by base true ∷ before) ≡ entries caller before + 1
  unfolding entries
  yes_adds caller by base before log h on update =
      let whole = enabled_before (start pairs words) (Decide by base true ∷ before) log on h in
      let ps = (state_of pairs words before).pieces in let x = whole.1.change in
      let from = goes_on_more (one_event (Decide by base true) same_log) on in
      let it = change_there ps (state_of pairs words log).pieces
      (grow_between pairs words before log h from) base x whole.1.pending.published in
      let same = same_change ((state_of pairs words log).pieces base) it.0 update.change it.1
      update.published in
      let owner = ap (λ c. c.owner) (sym it.2.others) ∙ ap (λ c. c.owner) same ∙ update.owned in
      let kind = ap (λ c. c.kind) (sym it.2.others) ∙ ap (λ c. c.kind) same in
      let command = update_command x (subst IsUpdate (sym kind) update.update) in
      let new : entry_of ps (ps base) ≡ entry_for ps x (Some command.0) =
      ap (entry_of ps) whole.1.pending.published ∙ ap (entry_for ps x) command.1 in
      let one = ap (λ es. length (entries_by caller es)) new
      ∙ own_entry ps x caller owner command.0 in
      ap length (filter-append (λ entry. entry.owner == caller) (changes_of pairs words before)
      (entry_of ps (ps base)))
      ∙ length-append (entries_by caller (changes_of pairs words before))
      (entries_by caller (entry_of ps (ps base)))
      ∙ ap (λ n. entries caller before + n) one

module _ (pairs : List Pair) (words : ℕ) (opens : CanOpen pairs words) where
  -- two yeses of own updates make two entries
  two_entries : (earlier log : Log) → EachEnabled (start pairs words) log
      → (caller by base : ℕ) (at : Log) → GoesOn earlier at
      → GoesOn (Decide by base true ∷ at) log → IsUpdateOf (state_of pairs words log) caller base
      → length (entries_by caller (changes_of pairs words log))
      ≤ length (entries_by caller (changes_of pairs words earlier)) + 1
      → (other again : ℕ) (before : Log) → GoesOn (Decide by base true ∷ at) before
      → GoesOn (Decide other again true ∷ before) log
      → IsUpdateOf (state_of pairs words log) caller again → ⊥
  unfolding entries
  two_entries earlier log h caller by base at since until update few other again before later last
      more =
      let a = entries_rise pairs words caller earlier at since in
      let b = yes_adds pairs words caller by base at log h until update in
      let c = entries_rise pairs words caller (Decide by base true ∷ at) before later in
      let d = yes_adds pairs words caller other again before log h last more in
      let e = entries_rise pairs words caller (Decide other again true ∷ before) log last in
      omega arith

  -- so after the yes of the one update no other follows
  no_other_yes : (earlier log : Log) → EachEnabled (start pairs words) log
      → (caller by base : ℕ) (at : Log) → GoesOn earlier at
      → GoesOn (Decide by base true ∷ at) log → IsUpdateOf (state_of pairs words log) caller base
      → length (entries_by caller (changes_of pairs words log))
      ≤ length (entries_by caller (changes_of pairs words earlier)) + 1
      → Met (SaysYes (state_of pairs words log) caller) (Decide by base true ∷ at) log → ⊥
  no_other_yes earlier log h caller by base at since until update few m =
      case m.event m.here m.until
    where
      case : (event : Event) → SaysYes (state_of pairs words log) caller event
          → GoesOn (event ∷ m.before) log → ⊥
      case (Decide other again true) more last =
          two_entries earlier log h caller by base at since until update few other again m.before
          m.since last more
      case _ more last = more

  -- the update may be counted
  pub may_count : (earlier log : Log) → EachEnabled (start pairs words) log
      → (caller base node : ℕ) (u : IsOneUpdate pairs words earlier log caller base)
      → WasOnChain (start pairs words) log u.change.node node
      → GoesOnBy (CountsElsewhere caller node) earlier log
      → CanCount (start pairs words) log caller node
  may_count earlier log h caller base node u on later = record {
    known = grind (arith, owner_known);
    later = following.0;
    by = turn.caller;
    base = base;
    earlier = turn.at;
    log_is = following.1;
    update = update;
    last = λ said. no_other_yes earlier log h caller turn.caller base turn.at turn.since turn.until
        update u.alone
        (subst (λ xs. Met (SaysYes (state_of pairs words log) caller) whole xs) (sym following.1)
        (happened_met (SaysYes (state_of pairs words log) caller) following.0 whole said));
    uncounted = λ counted. (
        let m = subst (λ xs. Met (Counts caller node) whole xs) (sym following.1)
        (happened_met (Counts caller node) following.0 whole counted) in
        event_by (CountsElsewhere caller node) earlier log later m.event m.before
        (goes_on_more since m.since) m.until m.here);
    on_chain = on;
  }
    where
      turn : Turning earlier log base
      turn = grind (arith, turns_since, goes_on_by)

      whole : Log
      whole = Decide turn.caller base true ∷ turn.at

      since : GoesOn earlier whole
      since = one_event (Decide turn.caller base true) turn.since

      following : (later : Log) × (log ≡ later ++ whole)
      following = events_after whole log turn.until

      update : IsUpdateOf (state_of pairs words log) caller base
      update = record {
        change = u.change;
        published = u.published;
        owned = u.owned;
        update = u.update;
      }
