-- What the tree gives and the changes reply after each log, by induction over the log. Serves
-- `laws.changes_are_told`.
use Rattle.std.proofs.Common.{ℕ, true, List, [], ◌∷◌, Option, refl, subst, ◌≡◌, ◌≢◌, ◌<◌, nat_lt, false, Some, sym, ap, ◌∙◌, ⊎_elim, arith}
use Rattle.ist_core.specs.declared.pairs.Pair.{Pair}
use Rattle.ist_core.specs.declared.events.Event.{Event}
use Rattle.ist_core.specs.declared.events.Event.TheVariants.{Decide}
use Rattle.ist_core.specs.declared.states.ChangeRow.{ChangeRow}
use Rattle.ist_core.specs.TreeTerms.{map_of, changes_of, map_after_entries, PlacedLeaf, HasLeaves, new_leaf, pair_over, pair_row, HasRoomFor, nothing, same_key, IsPending}
use Rattle.ist_core.specs.WordTerms.{start, LeafAt, InnerAt, ref_of, put_kind, finish_kind, rebuild_reads, past_rebuild}
use Rattle.ist_core.specs.LogTerms.{Log, EachEnabled, CanOpen, state_of, Snapshot}
use Rattle.laws_histories.specs.Finding.{Gives}
use Rattle.laws_histories.proofs.LedLemmas.{AllNeeds, IsPair, HasForm, into_nothing, over_leaf, beside_low, beside_high, takes_out, begins, ends, Needs}
use Rattle.laws_histories.proofs.FindLemmas.{gives_step}
use Rattle.laws_histories.proofs.TellLemmas.{ToldAfter, told_yes}
use Rattle.std.proofs.lemmas.Bool.{cases_lt}
use Rattle.std.proofs.lemmas.Bool.Decides.{nat_tests}
use Rattle.laws_links.proofs.FormLemmas.{IsFormed, of_leaf_put, of_pair_put, of_remove, of_start, of_finish}
use Rattle.laws_links.proofs.FormedLemmas.{rooted_is_finished, changes_are_formed}
use Rattle.laws_links.proofs.FinishedLemmas.{finished_slot, finished_down}
use Rattle.laws_links.proofs.ChangeLemmas.{undecided_stands}
use Rattle.laws_links.proofs.PairLemmas.{IsFilledPair, pair_is_filled}
use Rattle.laws_links.proofs.WholeLemmas.{finish_is_whole}
use Rattle.laws_links.proofs.ReadLemmas.{ideal_leaves, ideal_plain}
use Rattle.std.specs.FinMap as fin

-- an event that decides no change yes
abbrev pub IsNoYes : Event → Type 0
IsNoYes (Decide caller base true) = ⊥
IsNoYes _ = Unit {0}

module _ (pairs : List Pair) (words : ℕ) (opens : CanOpen pairs words)
    (needs : AllNeeds pairs words)
    (opening : (key : ℕ) → Gives (start pairs words) key (fin.get (map_of pairs) key)) where
  -- other events leave what the tree gives
  quiet_gives : (log : Log) (event : Event) → EachEnabled (start pairs words) (event ∷ log)
      → IsNoYes event → (key : ℕ) (value : Option ℕ) → Gives (state_of pairs words log) key value
      → Gives (state_of pairs words (event ∷ log)) key value
  quiet_gives log event h quiet key = grind (arith, gives_step)

  -- what the tree gives and the changes reply after each log
  pub told : (log : Log) → EachEnabled (start pairs words) log → ToldAfter pairs words log
  told [] h = record { gives = opening; legal = refl }
  told (Decide caller base true ∷ log) h =
      told_yes pairs words opens needs log caller base h (told log h.0)
  told (event ∷ log) h = let before = told log h.0 in record {
    gives =
        λ key. quiet_gives log event h tt key (fin.get (map_after_entries (map_of pairs) (changes_of pairs words log)) key) (before.gives key);
    legal = before.legal;
  }

-- ---- each lawful log has what the search law and the changes law need: the laws on linked and replaced rows give it.

module _ (pairs : List Pair) (words : ℕ) (opens : CanOpen pairs words) (log : Log)
    (h : EachEnabled (start pairs words) log) where
  -- the state after the log
  abbrev Here : Snapshot
  Here = state_of pairs words log

  -- a put into an empty slot, or in place of a leaf of its key
  form_put : (change : ChangeRow) (leaf : ℕ) → change.kind ≡ put_kind
      → HasRoomFor Here change.key change.from → ref_of change.to ≡ Some (LeafAt leaf)
      → Here.pieces leaf ≡ Some (new_leaf change) → HasForm Here change
  form_put change leaf kind (nothing e) to new = into_nothing leaf kind e to new
  form_put change leaf kind (same_key old e is) to new = over_leaf old leaf kind e is to new

  -- a put of a pair row
  form_pair : (change : ChangeRow) (pair : ℕ) → change.kind ≡ put_kind
      → ref_of change.to ≡ Some (InnerAt pair) → IsFilledPair pairs words log change pair
      → HasForm Here change
  form_pair change pair kind to f = ⊎_elim
      (λ low. beside_low f.other f.other_key f.leaf pair kind f.from f.stands low to (low_pair low f.published) f.new)
      (λ high. let less : change.key < f.other_key = (let ne = f.differs in omega arith) in
      beside_high f.other f.other_key f.leaf pair kind f.from f.stands less to (high_pair less f.published) f.new)
      (cases_lt f.other_key change.key)
    where
      low_pair : f.other_key < change.key
          → Here.pieces pair ≡ Some (pair_row change.key f.leaf f.other_key f.other)
          → IsPair Here.pieces pair change.key f.other f.leaf
      low_pair low e = grind (arith, nat_tests)

      high_pair : change.key < f.other_key
          → Here.pieces pair ≡ Some (pair_row change.key f.leaf f.other_key f.other)
          → IsPair Here.pieces pair f.other_key f.leaf f.other
      high_pair less e =
          let test : nat_lt f.other_key change.key ≡ false = grind (arith, nat_tests) in
          record { row = _; published = e ∙ ap (λ p. Some p) (pick test); keys = refl; slots = refl }
        where
          pick : nat_lt f.other_key change.key ≡ false
              → pair_row change.key f.leaf f.other_key f.other ≡ pair_over f.other_key f.leaf f.other
          pick test = rw test refl

  -- a pending change has the form of its kind
  form_of : (base : ℕ) (change : ChangeRow) → IsPending Here base change → HasForm Here change
  form_of base change p = at (changes_are_formed pairs words log h base change p.published)
    where
      at : IsFormed Here change → HasForm Here change
      at (of_leaf_put f) = form_put change f.leaf f.kind f.from f.to f.new
      at (of_pair_put f) = form_pair change f.pair f.kind f.to
          (pair_is_filled pairs words opens log h base change p.published p.unset f.kind f.pair f.to)
      at (of_remove f) = takes_out f.leaf f.kind f.from f.stands f.to
      at (of_start f) =
          begins f.row.target f.rebuild f.kind f.from f.to record { row = f.row; published = f.published; target_is = refl }
      at (of_finish f) = ends f.rebuild f.row f.kind f.from f.published f.to f.set

  -- a finish puts in a root that has the leaves of the target
  same_of : (base : ℕ) (change : ChangeRow) → IsPending Here base change → change.kind ≡ finish_kind
      → (leaves : List PlacedLeaf) × HasLeaves Here.pieces (past_rebuild Here.pieces (ref_of change.from)) leaves
      × HasLeaves Here.pieces (past_rebuild Here.pieces (ref_of change.to)) leaves
  same_of base change p kind = at (form_of base change p)
    where
      other : (k : ℕ) → change.kind ≡ k → k ≢ 4 → ⊥
      other k e ne = ne (sym e ∙ kind)

      at : HasForm Here change
          → (leaves : List PlacedLeaf) × HasLeaves Here.pieces (past_rebuild Here.pieces (ref_of change.from)) leaves
          × HasLeaves Here.pieces (past_rebuild Here.pieces (ref_of change.to)) leaves
      at (ends rebuild row is from e f set) =
          let w =
          finish_is_whole pairs words opens log h base change p.published p.unset rebuild from in
          let read : past_rebuild Here.pieces (ref_of change.from) ≡ Some (InnerAt w.row.target) =
          ap (past_rebuild Here.pieces) from ∙ ap rebuild_reads w.published in
          let root : past_rebuild Here.pieces (ref_of change.to) ≡ Some w.ref =
          ap (past_rebuild Here.pieces) w.to_is
          ∙ ideal_plain Here.pieces w.ref w.leaves w.row.target w.rows w.ideal in (
            w.leaves,
            subst (λ ref. HasLeaves Here.pieces ref w.leaves) (sym read) w.reached,
            subst (λ ref. HasLeaves Here.pieces ref w.leaves) (sym root)
                (ideal_leaves Here.pieces w.ref w.leaves w.row.target w.rows w.ideal),
          )
      at (into_nothing leaf k from to new) = absurd (other 1 k (λ e. omega arith))
      at (over_leaf old leaf k from is to new) = absurd (other 1 k (λ e. omega arith))
      at (beside_low o ok leaf pair k from is less to p new) = absurd (other 1 k (λ e. omega arith))
      at (beside_high o ok leaf pair k from is less to p new) = grind (arith, other)
      at (takes_out leaf k from is to) = absurd (other 2 k (λ e. omega arith))
      at (begins target rebuild k from to has) = absurd (other 3 k (λ e. omega arith))

  -- what is needed of the state after the log
  needed : Needs pairs words log
  needed = record {
    form = form_of;
    in_slot =
        λ base change p. undecided_stands pairs words opens log h base change p.published p.unset;
    same_leaves = λ base change p okay kind. same_of base change p kind;
    target_finished = λ rebuild row e set. rooted_is_finished pairs words log h rebuild row e set;
    passed =
        λ node i word f slot. (let it = finished_slot pairs words log h node i word f slot in (it.word, it.passed));
    finished_below = λ node i child f c. finished_down pairs words opens log h node i child f c;
  }

-- each lawful log has what is needed
pub all_needed : (pairs : List Pair) (words : ℕ) → CanOpen pairs words → AllNeeds pairs words
unfolding AllNeeds
all_needed pairs words opens = λ log h. needed pairs words opens log h
