-- The changes of a log are exactly the puts and removes that were decided yes. Serves `laws.updates_are_entries`.
use Rattle.std.proofs.Common.{◌≡◌, ℕ, zero, suc, ◌+◌, ◌⊎◌, true, List, [], ◌∷◌, ◌++◌, length, slice_get, Option, Some, None, option_map, refl, sym, ap, ◌∙◌, subst, inl, inr, ⊎_elim, arith, append_assoc}
use Rattle.ist_core.specs.declared.commands.Command.{Command}
use Rattle.ist_core.specs.declared.pairs.Pair.{Pair}
use Rattle.ist_core.specs.declared.states.ChangeRow.{ChangeRow}
use Rattle.ist_core.specs.declared.events.Event.TheVariants.{Decide}
use Rattle.ist_core.specs.declared.states.LeafRow.{LeafRow}
use Rattle.ist_core.specs.WordTerms.{Ref, LeafAt, ref_of, decided_yes, Pieces, Change, with_decision, start, put_kind, remove_kind, Leaf}
use Rattle.ist_core.specs.LogTerms.{Log, GoesOn, same_log, one_event, EachEnabled, CanOpen, state_of, Each, Snapshot}
use Rattle.ist_core.specs.TreeTerms.{AllGrow, ChangeGrows, Entry, command_of, value_in, value_at, reply_of, entry_for, entry_of, changes_of, makes_entry}
use Rattle.ist_core.proofs.AllLogLemmas.{leaf_there, change_there, enabled_before, grow_between, goes_on_more}
use Rattle.ist_core.proofs.AllWordLemmas.{changed_at-same, same_change, each_append}
use Rattle.ist_core.proofs.AllPlaceLemmas.{SideNames, names}
use Rattle.laws_histories.proofs.DecisionLemmas.{yes_decided}
use Rattle.laws_histories.specs.Telling.{IsEntryOf}
use Rattle.laws_histories.proofs.ChangeLemmas.{changes_on, get_at}
use Rattle.std.proofs.lemmas.Bool.Decides.{nat_tests}
use Rattle.laws_histories.proofs.LedLemmas.{HasForm, into_nothing, over_leaf, beside_low, beside_high, takes_out, begins, ends, AllNeeds}
use Rattle.laws_histories.proofs.SideLemmas.{start_commands, finish_commands}
use Rattle.laws_histories.proofs.ToldLemmas.{all_needed}

-- an element of two lists in a row
get_both : {A : Type 0} (xs ys : List A) (i : ℕ) (x : A) → slice_get (xs ++ ys) i ≡ Some x
    → (slice_get xs i ≡ Some x) ⊎ ((j : ℕ) × (i ≡ length xs + j) × (slice_get ys j ≡ Some x))
get_both [] ys i x e = inr (i, omega arith, e)
get_both (y ∷ xs) ys zero x e = inl e
get_both (y ∷ xs) ys (suc i) x e =
    ⊎_elim (λ w. inl w) (λ w. (let is = w.1 in inr (w.0, omega arith, w.2))) (get_both xs ys i x e)

-- ---- replies

-- what may be put into a slot always gives a key the same value
pub value_stays : (ps qs : Pieces) → AllGrow ps qs → (node i : ℕ) (ref : Option Ref) (key : ℕ)
    → SideNames ps node i ref → value_at qs ref key ≡ value_at ps ref key
value_stays ps qs g node i (Some (LeafAt base)) key h =
    ap (λ o. value_in o key) (leaf_there ps qs g base h.0 h.1) ∙ sym (ap (λ o. value_in o key) h.1)
value_stays ps qs g node i _ key h = refl

-- the command of a change depends on fields that stay
pub command_stays : (old new : ChangeRow) → ChangeGrows old new → command_of new ≡ command_of old
command_stays old new g = ap command_of g.others

module _ (pairs : List Pair) (words : ℕ) (opens : CanOpen pairs words) where
  -- the entry that a decision makes
  pub entry_made : (log : Log) → EachEnabled (start pairs words) log
      → (caller base : ℕ) (earlier : Log) → GoesOn (Decide caller base true ∷ earlier) log
      → (command : Command) → (old : ChangeRow)
      → (state_of pairs words earlier).pieces base ≡ Some (Change old)
      → command_of old ≡ Some command
      → IsEntryOf pairs words log (length (changes_of pairs words earlier)) base
  entry_made log h caller base earlier g command old e is = let first = start pairs words in
      let m = enabled_before first (Decide caller base true ∷ earlier) log g h in
      let t = state_of pairs words earlier in let u = state_of pairs words log in
      let now = state_of pairs words (Decide caller base true ∷ earlier) in let can = m.1 in
      let same = same_change (t.pieces base) can.change old can.pending.published e in
      let on =
      grow_between pairs words earlier log h
      (goes_on_more (one_event (Decide caller base true) same_log) g) in
      let turned : ChangeRow = record old { decision = decided_yes } in
      let there : now.pieces base ≡ Some (Change turned) =
      changed_at-same t.pieces base (with_decision decided_yes)
      ∙ ap (option_map (with_decision decided_yes)) e in
      let it =
      change_there now.pieces u.pieces
      (grow_between pairs words (Decide caller base true ∷ earlier) log h g) base turned there in
      let others : ChangeGrows old it.0 =
      record { decided = λ set. absurd (set (ap (λ c. c.decision) (sym same) ∙ can.pending.unset)); others = it.2.others } in
      let row = (names pairs words opens earlier m.0).rows base (Change old) e in
      let reply : reply_of u.pieces it.0 ≡ reply_of t.pieces old =
      ap (λ c. value_at u.pieces (ref_of c.from) c.key) it.2.others
      ∙ value_stays t.pieces u.pieces on old.node old.index (ref_of old.from) old.key row.0 in
      let made : entry_of t.pieces (t.pieces base) ≡ record { owner = old.owner; command = command; reply = reply_of t.pieces old } ∷ [] =
      ap (entry_of t.pieces) e ∙ ap (entry_for t.pieces old) is in
      let entry : Entry =
      record { owner = it.0.owner; command = command; reply = reply_of u.pieces it.0 } in
      let one : record { owner = old.owner; command = command; reply = reply_of t.pieces old } ≡ entry =
      λ i. record { owner = (ap (λ c. c.owner) (sym it.2.others)) i; command = command; reply = (sym reply) i } in
      let front = changes_of pairs words earlier in
      let following = changes_on first (Decide caller base true ∷ earlier) log g in
      let are : changes_of pairs words log ≡ front ++ (entry ∷ following.0) =
      following.1 ∙ ap (λ es. (front ++ es) ++ following.0) (made ∙ ap (λ x. x ∷ []) one)
      ∙ append_assoc front (entry ∷ []) following.0 in
      record {
        caller = caller;
        earlier = earlier;
        decided = g;
        position_is = refl;
        change = it.0;
        published = it.1;
        decision = it.2.decided (λ none. omega arith);
        command = command;
        command_is = command_stays old it.0 others ∙ is;
        entry = subst (λ es. slice_get es (length front) ≡ Some entry) (sym are)
            (get_at front following.0 entry);
      }

  -- each put or remove that was decided yes has an entry
  pub update_entry : (log : Log) → EachEnabled (start pairs words) log
      → (base : ℕ) (change : ChangeRow) (command : Command)
      → (state_of pairs words log).pieces base ≡ Some (Change change)
      → change.decision ≡ decided_yes → command_of change ≡ Some command
      → (position : ℕ) × IsEntryOf pairs words log position base
  update_entry log h base change command e said is =
      let d = yes_decided pairs words log h base change e said in
      let m =
      enabled_before (start pairs words) (Decide d.caller base true ∷ d.earlier) log d.decided h in
      let old = m.1.change in let t = state_of pairs words d.earlier in
      let it = change_there t.pieces (state_of pairs words log).pieces
      (grow_between pairs words d.earlier log h (goes_on_more (one_event (Decide d.caller base true) same_log) d.decided)) base old m.1.pending.published in
      let same = same_change ((state_of pairs words log).pieces base) it.0 change it.1 e in (
        length (changes_of pairs words d.earlier),
        entry_made log h d.caller base d.earlier d.decided command old m.1.pending.published
            (sym (command_stays old it.0 it.2) ∙ ap command_of same ∙ is),
      )

  -- the Decide that made an entry
  record Source (log : Log) (position : ℕ) : Type 0 where
    caller : ℕ
    base : ℕ
    earlier : Log
    decided : GoesOn (Decide caller base true ∷ earlier) log
    position_is : position ≡ length (changes_of pairs words earlier)
    change : ChangeRow
    published : (state_of pairs words earlier).pieces base ≡ Some (Change change)
    command : Command
    command_is : command_of change ≡ Some command

  -- each entry comes from a Decide with yes
  source : (log : Log) → EachEnabled (start pairs words) log → (position : ℕ) (entry : Entry)
      → slice_get (changes_of pairs words log) position ≡ Some entry → Source log position
  source [] h position entry e = absurd (cc)
  source (Decide caller base true ∷ log) h position entry e = let t = state_of pairs words log in
      let front = changes_of pairs words log in
      let made : entry_of t.pieces (t.pieces base) ≡ entry_for t.pieces h.1.change (command_of h.1.change) = ap (entry_of t.pieces) h.1.pending.published in
      ⊎_elim
      (λ old. (let s = source log h.0 position entry old in record {
        caller = s.caller;
        base = s.base;
        earlier = s.earlier;
        decided = one_event (Decide caller base true) s.decided;
        position_is = s.position_is;
        change = s.change;
        published = s.published;
        command = s.command;
        command_is = s.command_is;
      }))
      (λ new. at t.pieces new.0 (command_of h.1.change) refl new.1 (subst (λ es. slice_get es new.0 ≡ Some entry) made new.2))
      (get_both front (entry_of t.pieces (t.pieces base)) position entry e)
    where
      at : (ps : Pieces) (j : ℕ) (o : Option Command) → command_of h.1.change ≡ o
          → position ≡ length (changes_of pairs words log) + j
          → slice_get (entry_for ps h.1.change o) j ≡ Some entry
          → Source (Decide caller base true ∷ log) position
      at ps j None is where_it is_there = absurd (cc)
      at ps (suc j) (Some command) is where_it is_there = absurd (cc)
      at ps zero (Some command) is where_it is_there = record {
        caller = caller;
        base = base;
        earlier = log;
        decided = same_log;
        position_is = omega arith;
        change = h.1.change;
        published = h.1.pending.published;
        command = command;
        command_is = is;
      }
  source (event ∷ log) h position entry e = let s = source log h.0 position entry e in record {
    caller = s.caller;
    base = s.base;
    earlier = s.earlier;
    decided = one_event event s.decided;
    position_is = s.position_is;
    change = s.change;
    published = s.published;
    command = s.command;
    command_is = s.command_is;
  }

  -- each entry belongs to a put or remove that was decided yes
  pub entry_update : (log : Log) → EachEnabled (start pairs words) log
      → (position : ℕ) (entry : Entry)
      → slice_get (changes_of pairs words log) position ≡ Some entry
      → (base : ℕ) × IsEntryOf pairs words log position base
  entry_update log h position entry e = grind (arith, source, entry_made)

-- ---- each change of a log changes the map: a put, or a remove that takes a leaf away. Serves `laws.updates_are_entries`.

module _ (pairs : List Pair) (words : ℕ) (opens : CanOpen pairs words) where
  -- an entry of a put changes the map
  put_entry : (t : Snapshot) (change : ChangeRow) → change.kind ≡ put_kind
      → Each (λ entry. makes_entry entry.command entry.reply ≡ true)
      (entry_for t.pieces change (command_of change))
  put_entry t change kind = rw kind (refl, tt)

  -- an entry of a remove changes the map, if the leaf of its key is there
  remove_entry : (t : Snapshot) (change : ChangeRow) (leaf : ℕ) (row : LeafRow)
      → change.kind ≡ remove_kind → ref_of change.from ≡ Some (LeafAt leaf)
      → t.pieces leaf ≡ Some (Leaf row) → row.key ≡ change.key
      → Each (λ entry. makes_entry entry.command entry.reply ≡ true)
      (entry_for t.pieces change (command_of change))
  remove_entry t change leaf row kind from e key = grind (arith, nat_tests)

  -- a start and a finish make no entry
  no_entry : (t : Snapshot) (change : ChangeRow) → command_of change ≡ None
      → Each (λ entry. makes_entry entry.command entry.reply ≡ true)
      (entry_for t.pieces change (command_of change))
  no_entry t change none = rw none tt

  -- what a change in its form makes changes the map
  entry_changes : (t : Snapshot) (change : ChangeRow) → HasForm t change
      → Each (λ entry. makes_entry entry.command entry.reply ≡ true)
      (entry_for t.pieces change (command_of change))
  entry_changes t change (into_nothing leaf kind from to new) = put_entry t change kind
  entry_changes t change (over_leaf old leaf kind from is to new) = put_entry t change kind
  entry_changes t change (beside_low other k leaf pair kind from is less to p new) =
      put_entry t change kind
  entry_changes t change (beside_high other k leaf pair kind from is less to p new) =
      put_entry t change kind
  entry_changes t change (takes_out leaf kind from is to) = grind (arith, remove_entry)
  entry_changes t change (begins target rebuild kind from to has) =
      no_entry t change (start_commands change kind)
  entry_changes t change (ends rebuild row kind from e f set) =
      no_entry t change (finish_commands change kind)

  -- each entry changes the map
  pub entries_change : (log : Log) → EachEnabled (start pairs words) log
      → Each (λ entry. makes_entry entry.command entry.reply ≡ true) (changes_of pairs words log)
  unfolding AllNeeds
  entries_change [] h = tt
  entries_change (Decide caller base true ∷ log) h = let t = state_of pairs words log in
      let made : entry_of t.pieces (t.pieces base) ≡ entry_for t.pieces h.1.change (command_of h.1.change) = ap (entry_of t.pieces) h.1.pending.published in
      each_append (λ entry. makes_entry entry.command entry.reply ≡ true)
      (changes_of pairs words log) (entry_of t.pieces (t.pieces base)) (entries_change log h.0)
      (subst (λ es. Each (λ entry. makes_entry entry.command entry.reply ≡ true) es) (sym made)
      (entry_changes t h.1.change ((all_needed pairs words opens log h.0).form base h.1.change h.1.pending)))
  entries_change (event ∷ log) h = entries_change log h.0
