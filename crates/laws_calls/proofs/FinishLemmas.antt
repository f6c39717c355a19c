-- The slots of rows that were linked are set, and their leaves have strictly increasing keys.
-- Serves the finish law.
use Rattle.std.proofs.Common.{List, Option, Some, ap, arith, map, subst, sym, ℕ, ⊎_elim, ◌∙◌, ◌≡◌, ◌≢◌, length, take, ◌++◌, ◌+◌, ◌∷◌}
use Rattle.std.specs.List.Sorted.{IsStrictlyIncreasing}
use Rattle.ist_core.specs.declared.pairs.Pair.{Pair}
use Rattle.ist_core.specs.declared.events.Event.TheVariants.{Finish}
use Rattle.ist_core.specs.declared.events.Event.{Event}
use Rattle.ist_core.specs.declared.states.InnerRow.{InnerRow}
use Rattle.ist_core.specs.LogTerms.{CanOpen, EachEnabled, state_of, GoesOn, Log, Snapshot, one_event, same_log}
use Rattle.ist_core.specs.TreeTerms.{HasLeaves, PlacedLeaf, WasLinked, CountsFor, no_key, of_child, of_target, one_key, IsFinishedWith, Entry, changes_of, pair_of, IsChild, Linked, at_anchor, below, pairs_of}
use Rattle.ist_core.specs.WordTerms.{InnerAt, Ref, Unset, ref_of, unset_word, anchor, SlotHolds, logical, past_rebuild, start, Inner, finished_word}
use Rattle.ist_core.proofs.AllLogLemmas.{frozen_reads, enabled_before, finished_leaves_stay}
use Rattle.ist_core.proofs.AllPlaceLemmas.{Mentions, leaves_lie, next_from_rises, names, one_home, anchor_free, slot_once, key_of_leaf, leaves_under, same_leaves, one_parent, no_row}
use Rattle.laws_links.specs.Linking.{IsFinished}
use Rattle.laws_links.proofs.ClosedLemmas.{closed_was_linked}
use Rattle.laws_links.proofs.FinishedLemmas.{finished_slot}
use Rattle.laws_links.proofs.LinkLemmas.{linked_or_finished}
use Rattle.laws_links.proofs.UntouchedLemmas.{not_the_anchor, was_linked_parent, child_no_anchor}
use Rattle.laws_links.proofs.ContentLemmas.{linked_set, linked_some, inner_base, finished_leaves, finishing_linked}
use Rattle.laws_stability.proofs.SetLemmas.{set_later}
use Rattle.std.proofs.Math.Seq.{take-length}
use Rattle.std.proofs.lemmas.List.{take-append-le}
use Rattle.laws_links.proofs.ComesLemmas.{status_comes}
use Rattle.laws_links.proofs.PassLemmas.{StatusComes, finished_now, is_new, marked_now, status_was}
use Rattle.laws_links.proofs.KeepingContentLemmas.{leaves_step}
use Rattle.laws_histories.specs.Telling.{map_now}
use Rattle.laws_histories.proofs.ChangeLemmas.{changes_on, changes_rise}
use Rattle.laws_histories.proofs.ContentLemmas.{contents_at}
use Rattle.laws_calls.specs.Freezing.{WereThePairs}
use Rattle.ist_core.proofs.UnderLemmas as under

-- what a slot was passed with is set
passed_set : (t : Snapshot) (o : Option Ref) (k : ℕ) → CountsFor t o k
    → past_rebuild t.pieces o ≢ Some Unset
passed_set t _ _ no_key e = cc
passed_set t _ _ one_key e = cc
passed_set t _ _ (of_child f) e = cc
passed_set t _ _ (of_target h f) e = grind arith

module _ (pairs : List Pair) (words : ℕ) (opens : CanOpen pairs words) where
  -- ---- slots

  -- no slot of a row that was linked reads as Unset
  pub was_linked_set : (log : Log) → EachEnabled (start pairs words) log → (node i word : ℕ)
      → WasLinked (start pairs words) log node → SlotHolds (state_of pairs words log) node i word
      → logical (state_of pairs words log).pieces word ≢ Some Unset
  was_linked_set log h node i word was slot = ⊎_elim
      (λ l. linked_set pairs words opens log h node i word l slot)
      (λ f e. let it = finished_slot pairs words log h node i word f slot in
      passed_set (state_of pairs words log) (ref_of it.word) it.k it.counts
      (sym (frozen_reads pairs words opens log h node i it.word word it.passed slot) ∙ e))
      (linked_or_finished pairs words opens log h node was)

  -- a slot that is set stays set
  pub stays_set : (earlier log : Log) → GoesOn earlier log → EachEnabled (start pairs words) log
      → (node i word later : ℕ) → SlotHolds (state_of pairs words earlier) node i word
      → word ≢ unset_word → SlotHolds (state_of pairs words log) node i later → later ≢ unset_word
  stays_set earlier log on h node i word later was set now unset =
      let it = set_later pairs words opens on h node i record {
        word = word;
        holds = was;
        set = set;
      } in
      it.set
      (slot_once (state_of pairs words log) node i it.word later (anchor_free pairs words log h)
      it.holds now ∙ unset)

  -- a finished row was linked
  pub finished_was_linked : (log : Log) → EachEnabled (start pairs words) log → (node k : ℕ)
      → IsFinishedWith (state_of pairs words log) node k → WasLinked (start pairs words) log node
  finished_was_linked log h node k f = grind (arith, closed_was_linked)

  -- ---- increasing keys

  -- the leaves below a row that was linked have strictly increasing keys
  pub was_linked_rise : (log : Log) → EachEnabled (start pairs words) log
      → (node : ℕ) (leaves : List PlacedLeaf) → node ≢ anchor
      → WasLinked (start pairs words) log node
      → HasLeaves (state_of pairs words log).pieces (Some (InnerAt node)) leaves
      → IsStrictlyIncreasing (map (λ leaf. leaf.row.key) leaves)
  was_linked_rise log h node leaves ne was reached = let t = state_of pairs words log in
      let up = was_linked_parent pairs words opens log h node ne was in
      next_from_rises key_of_leaf leaves
      (under.leaves_under t (Some (InnerAt node)) leaves (names pairs words opens log h)
      (one_home pairs words opens log h) (anchor_free pairs words log h)
      (leaves_lie pairs words opens log h) reached up.parent up.i
      record {
        a_leaf = λ base e. absurd (cc);
        a_row = grind (arith, Mentions, inner_base);
      }).1

  -- the leaves below a finished row have strictly increasing keys
  pub finished_rise : (log : Log) → EachEnabled (start pairs words) log
      → (node : ℕ) (leaves : List PlacedLeaf) → IsFinished (state_of pairs words log) node
      → HasLeaves (state_of pairs words log).pieces (Some (InnerAt node)) leaves
      → IsStrictlyIncreasing (map (λ leaf. leaf.row.key) leaves)
  finished_rise log h node leaves f reached = was_linked_rise log h node leaves
      (not_the_anchor pairs words opens log h node f.1.row f.1.published)
      (finished_was_linked log h node f.0 f.1) reached

-- ---- what a freeze leaves: the pairs of the map at the moment when the anchor's child was finished.
-- Serves the freeze law.

-- the leaves that the row has for good are those that it had, as the anchor's child, at some moment
-- since the earlier log
record Froze (pairs : List Pair) (words : ℕ) (earlier log : Log) (node : ℕ) : Type 0 where
  at : Log
  since : GoesOn earlier at
  until : GoesOn at log
  slot : ℕ
  child : IsChild (state_of pairs words at) anchor slot node
  leaves : List PlacedLeaf
  then_had : HasLeaves (state_of pairs words at).pieces (Some (InnerAt node)) leaves
  has : HasLeaves (state_of pairs words log).pieces (Some (InnerAt node)) leaves

-- the first of two joined lists
take_front : (xs ys : List Entry) → take (length xs) (xs ++ ys) ≡ xs
take_front xs ys = take-append-le (length xs) xs ys (omega arith) ∙ take-length xs

module _ (pairs : List Pair) (words : ℕ) (opens : CanOpen pairs words) where
  -- the leaves of the anchor's child are the pairs of the map
  child_pairs : (at : Log) → EachEnabled (start pairs words) at → (node i : ℕ)
      → IsChild (state_of pairs words at) anchor i node → (leaves : List PlacedLeaf)
      → HasLeaves (state_of pairs words at).pieces (Some (InnerAt node)) leaves
      → map pair_of leaves ≡ pairs_of (map_now pairs words at)
  child_pairs at h node i c leaves has =
      grind (arith, contents_at, same_leaves, no_row, anchor_free)

  -- a linked row that was the anchor's child still is
  still_child : (earlier log : Log) → GoesOn earlier log → EachEnabled (start pairs words) log
      → (node i : ℕ) → IsChild (state_of pairs words earlier) anchor i node
      → Linked (state_of pairs words log) node
      → (j : ℕ) × IsChild (state_of pairs words log) anchor j node
  still_child earlier log on h _ i c at_anchor = grind (arith, child_no_anchor, enabled_before)
  still_child earlier log on h _ i c (below {node = node} {child = child} j l d) =
      let same = one_parent pairs words opens earlier log on h anchor i node j child c d in
      (j, subst (λ n. IsChild (state_of pairs words log) n j child) (sym same.0) d)

  -- a row that may be finished has leaves, and keeps them over its Finish
  finishing : (earlier log : Log) → GoesOn earlier log → (caller node keys : ℕ)
      → EachEnabled (start pairs words) (Finish caller node keys ∷ log) → (i : ℕ)
      → IsChild (state_of pairs words earlier) anchor i node
      → Froze pairs words earlier (Finish caller node keys ∷ log) node
  finishing earlier log on caller node keys h i c =
      let linked = finishing_linked pairs words opens log h.0 caller node keys h.1 in
      let apart = not_the_anchor pairs words opens log h.0 node h.1.row h.1.published in
      let some = linked_some pairs words opens log h.0 node apart linked in
      let is = still_child earlier log on h.0 node i c linked in record {
        at = log;
        since = on;
        until = one_event (Finish caller node keys) same_log;
        slot = is.0;
        child = is.1;
        leaves = some.leaves;
        then_had = some.reached;
        has = leaves_step pairs words opens log (Finish caller node keys) h tt (Some (InnerAt node))
            some.leaves some.reached;
      }

  froze : (earlier log : Log) → GoesOn earlier log → EachEnabled (start pairs words) log
      → (node i : ℕ) → IsChild (state_of pairs words earlier) anchor i node
      → (k : ℕ) (r : InnerRow) → (state_of pairs words log).pieces node ≡ Some (Inner r)
      → r.status ≡ finished_word k → Froze pairs words earlier log node
  froze earlier _ same_log h node i c k r e is =
      let it = finished_leaves pairs words opens earlier h node k
      record { row = r; published = e; status = is } in
      record {
        at = earlier;
        since = same_log;
        until = same_log;
        slot = i;
        child = c;
        leaves = it.0;
        then_had = it.1;
        has = it.1;
      }
  froze earlier _ (one_event {log = log} event on) h node i c k r e is =
      by_origin event h (status_comes pairs words log event h node r e)
      (λ s old same. froze earlier log on h.0 node i c k s old same)
    where
      by_origin : (event : Event) → EachEnabled (start pairs words) (event ∷ log)
          → StatusComes (start pairs words) log node r.status event
          → ((s : InnerRow) → (state_of pairs words log).pieces node ≡ Some (Inner s)
          → s.status ≡ finished_word k → Froze pairs words earlier log node)
          → Froze pairs words earlier (event ∷ log) node
      by_origin event all (status_was s old same) before = let it = before s old (sym same ∙ is) in
          let done : IsFinished (state_of pairs words log) node =
          (k, record { row = s; published = old; status = sym same ∙ is }) in
          record {
            at = it.at;
            since = it.since;
            until = one_event event it.until;
            slot = it.slot;
            child = it.child;
            leaves = it.leaves;
            then_had = it.then_had;
            has = finished_leaves_stay pairs words opens log (event ∷ log)
                (one_event event same_log) all node it.leaves done it.has;
          }
      by_origin event all (is_new none same) before = grind arith
      by_origin _ all (marked_now can same) before = grind arith
      by_origin _ all (finished_now {caller = caller} {keys = keys} can same) before =
          finishing earlier log on caller node keys all i c

  -- a finished row that was the anchor's child has the pairs of the map at some moment since
  pub frozen_pairs : (earlier log : Log) → GoesOn earlier log → EachEnabled (start pairs words) log
      → (node i : ℕ) (leaves : List PlacedLeaf)
      → IsChild (state_of pairs words earlier) anchor i node
      → IsFinished (state_of pairs words log) node
      → HasLeaves (state_of pairs words log).pieces (Some (InnerAt node)) leaves
      → WereThePairs pairs words earlier log (map pair_of leaves)
  frozen_pairs earlier log on h node i leaves c f reached =
      let it = froze earlier log on h node i c f.0 f.1.row f.1.published f.1.status in
      let then = enabled_before (start pairs words) it.at log it.until h in
      let pairs_then = child_pairs it.at then node it.slot it.child it.leaves it.then_had in
      let same = same_leaves (state_of pairs words log).pieces (Some (InnerAt node)) leaves
      it.leaves
      reached it.has in
      let more = changes_on (start pairs words) it.at log it.until in
      let front = ap (take (length (changes_of pairs words it.at))) more.1
      ∙ take_front (changes_of pairs words it.at) more.0 in
      record {
        position = length (changes_of pairs words it.at);
        from = changes_rise (start pairs words) earlier it.at it.since;
        to = changes_rise (start pairs words) it.at log it.until;
        pairs_are = grind arith;
      }
