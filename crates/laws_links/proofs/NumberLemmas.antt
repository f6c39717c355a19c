-- A finished row's number is the number of leaves below it. Serves `laws.numbers_count_leaves`.
use Rattle.std.proofs.Common.{List, Option, Some, [], ap, arith, length, length-append, refl, slice_get, subst, suc, sym, ℕ, ◌+◌, ◌∙◌, ◌∷◌, ◌≡◌}
use Rattle.ist_core.specs.declared.pairs.Pair.{Pair}
use Rattle.ist_core.specs.declared.states.InnerRow.{InnerRow}
use Rattle.ist_core.specs.LogTerms.{CanOpen, EachEnabled, state_of, Log, Snapshot}
use Rattle.ist_core.specs.TreeTerms.{HasLeaves, PlacedLeaf, SlotsHaveLeaves, leaf_here, no_slot, none_here, one_slot, row_here, ArePassed, CountsFor, no_key, of_child, of_target, one_key, one_passed, past_end, IsFinishedWith}
use Rattle.ist_core.specs.WordTerms.{Inner, Pieces, Empty, InnerAt, LeafAt, Ref, ref_of, SlotHolds, in_row, logical, past_rebuild, rebuild_reads, start}
use Rattle.ist_core.proofs.AllWordLemmas.{Has, same_inner}
use Rattle.ist_core.proofs.AllLogLemmas.{frozen_reads}
use Rattle.laws_links.proofs.FinishedLemmas.{finished_passed}

-- the reference counts for this many keys: none, a leaf, or an inner row that has its number
data CountsKeys (Has : ℕ → ℕ → Type 0) : Option Ref → ℕ → Type 0 where
  nothing_here : CountsKeys Has (Some Empty) 0
  one_leaf : {base : ℕ} → CountsKeys Has (Some (LeafAt base)) 1
  one_node : {base k : ℕ} → Has base k → CountsKeys Has (Some (InnerAt base)) k

-- the words read as what counts for this many keys in all
data CountAll (ps : Pieces) (Has : ℕ → ℕ → Type 0) : List ℕ → ℕ → Type 0 where
  count_none : CountAll ps Has [] 0
  count_one : {word here rest : ℕ} {words : List ℕ} → CountsKeys Has (logical ps word) here
      → CountAll ps Has words rest → CountAll ps Has (word ∷ words) (here + rest)

-- what counts, by the reference
abbrev CountsBy : (ℕ → ℕ → Type 0) → Option Ref → ℕ → Type 0
CountsBy Has (Some Empty) k = k ≡ 0
CountsBy Has (Some (LeafAt base)) k = k ≡ 1
CountsBy Has (Some (InnerAt base)) k = Has base k
CountsBy Has _ k = ⊥

counts_by : (Has : ℕ → ℕ → Type 0) (ref : Option Ref) (k : ℕ) → CountsKeys Has ref k
    → CountsBy Has ref k
counts_by Has _ _ nothing_here = refl
counts_by Has _ _ one_leaf = refl
counts_by Has _ _ (one_node has) = has

-- what it takes for words to count for this many keys, by the words
abbrev CountAllBy : Pieces → (ℕ → ℕ → Type 0) → List ℕ → ℕ → Type 0
CountAllBy ps Has [] k = k ≡ 0
CountAllBy ps Has (word ∷ words) k =
    (here : ℕ) × (rest : ℕ) × CountsKeys Has (logical ps word) here × CountAll ps Has words rest ×
    (k ≡ here + rest)

count_all_by : (ps : Pieces) (Has : ℕ → ℕ → Type 0) (words : List ℕ) (k : ℕ)
    → CountAll ps Has words k → CountAllBy ps Has words k
count_all_by ps Has _ _ count_none = refl
count_all_by ps Has _ _ (count_one {here = here} {rest = rest} c more) = (here, rest, c, more, refl)

-- if the number of each row is what its slots count for, a reference has as many leaves as it
-- counts for
module _ (ps : Pieces) (Has : ℕ → ℕ → Type 0)
    (all : (base k : ℕ) (r : InnerRow) → Has base k → ps base ≡ Some (Inner r) → CountAll ps Has r.slots k) where
  mutual
    leaves_counted : (ref : Option Ref) (leaves : List PlacedLeaf) → HasLeaves ps ref leaves
        → (k : ℕ) → CountsBy Has ref k → length leaves ≡ k
    leaves_counted _ _ none_here k c = sym c
    leaves_counted _ _ (leaf_here r e) k c = sym c
    leaves_counted _ _ (row_here {base = base} {leaves = leaves} r e under) k c =
        slots_counted r.slots leaves under k (all base k r c e)

    slots_counted : (words : List ℕ) (leaves : List PlacedLeaf) → SlotsHaveLeaves ps words leaves
        → (k : ℕ) → CountAll ps Has words k → length leaves ≡ k
    slots_counted _ _ no_slot k c = sym (count_all_by ps Has [] k c)
    slots_counted _ _
        (one_slot {word = word} {words = words} {here = here} {rest = rest} first more) k c =
        let it = count_all_by ps Has (word ∷ words) k c in
        let one = leaves_counted (logical ps word) here first it.0 (counts_by Has (logical ps word) it.0 it.2) in
        let others = slots_counted words rest more it.1 it.3 in
        let whole = length-append here rest in let sum_is = it.4 in omega arith

-- what a passed word counts for, by what it reads as
passed_counts : (t : Snapshot) (o : Option Ref) (k : ℕ) → CountsFor t o k
    → CountsKeys (IsFinishedWith t) (past_rebuild t.pieces o) k
passed_counts t _ _ no_key = nothing_here
passed_counts t _ _ one_key = one_leaf
passed_counts t _ _ (of_child f) = one_node f
passed_counts t _ k (of_target {rebuild = rebuild} {target = target} h f) =
    subst (λ o. CountsKeys (IsFinishedWith t) o k)
    (sym (ap rebuild_reads h.published ∙ ap (λ n. Some (InnerAt n)) h.target_is)) (one_node f)

module _ (pairs : List Pair) (words : ℕ) (opens : CanOpen pairs words) where
  -- the slots of a finished row count for its number
  passed_count : (log : Log) → EachEnabled (start pairs words) log → (node i k : ℕ) (slots : List ℕ)
      → ArePassed (state_of pairs words log) log node i slots k
      → ((j m word : ℕ) → m ≡ i + j → slice_get slots j ≡ Some word
      → SlotHolds (state_of pairs words log) node m word)
      → CountAll (state_of pairs words log).pieces (IsFinishedWith (state_of pairs words log)) slots k
  passed_count log h node i _ _ past_end get = count_none
  passed_count log h node i _ _
      (one_passed {here = here} {rest = rest} {slot = slot} {slots = slots} word p c more) get =
      let t = state_of pairs words log in count_one
      (subst (λ o. CountsKeys (IsFinishedWith t) o here) (sym (frozen_reads pairs words opens log h node i word slot p (get 0 i slot (omega arith) refl))) (passed_counts t (ref_of word) here c))
      (passed_count log h node (i + 1) rest slots more (λ j m w at e. get (suc j) m w (omega arith) e))

  -- the number of a finished row is the number of leaves below it
  pub number_is : (log : Log) → EachEnabled (start pairs words) log
      → (node k : ℕ) (leaves : List PlacedLeaf) → IsFinishedWith (state_of pairs words log) node k
      → HasLeaves (state_of pairs words log).pieces (Some (InnerAt node)) leaves → length leaves ≡ k
  number_is log h node k leaves f has = let t = state_of pairs words log in
      leaves_counted t.pieces (IsFinishedWith t)
      (λ base n r done e. let same = same_inner (t.pieces base) done.row r done.published e in
      passed_count log h base 0 n r.slots
      (finished_passed pairs words log h base n r e (ap (λ x. x.status) (sym same) ∙ done.status))
      (λ j m w at is. in_row r e (subst (λ x. slice_get r.slots x ≡ Some w) (let here : j ≡ m = omega arith in here) is)))
      (Some (InnerAt node)) leaves has k f
