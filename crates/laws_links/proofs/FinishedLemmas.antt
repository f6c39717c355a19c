-- A finished row: each slot was passed with a word that leads to a finished row, so each child is
-- finished. Serves the linked law.
use Rattle.std.proofs.Common.{List, Option, Some, [], ap, arith, length, slice_get, subst, suc, sym, zero, ℕ, ◌*◌, ◌+◌, ◌∙◌, ◌∷◌, ◌≡◌, inl, inr, refl, ◌<◌}
use Rattle.ist_core.specs.declared.events.Event.{Event}
use Rattle.ist_core.specs.declared.events.Event.TheVariants.{Finish}
use Rattle.ist_core.specs.declared.pairs.Pair.{Pair}
use Rattle.ist_core.specs.declared.states.InnerRow.{InnerRow}
use Rattle.ist_core.specs.TreeTerms.{AllGrow, IsChild, ArePassed, CountsFor, HasTarget, no_key, of_child, of_target, one_key, one_passed, past_end, HasLeaves, PlacedLeaf, SlotsHaveLeaves, leaf_here, no_slot, none_here, one_slot, row_here}
use Rattle.ist_core.specs.LogTerms.{CanOpen, EachEnabled, state_of, GoesOn, Happened, Log, Passes, one_event, same_log, Snapshot, Among, Distinct, Each}
use Rattle.ist_core.specs.WordTerms.{Inner, Pieces, InnerAt, Ref, ref_of, SlotHolds, in_anchor, in_row, past_rebuild, start, finished_word, Leaf, Piece, logical}
use Rattle.laws_links.specs.Linking.{IsFinished}
use Rattle.ist_core.proofs.AllLogLemmas.{counts_grows, frozen_reads, inner_there, rebuild_there, happened_later, grow_after}
use Rattle.ist_core.proofs.AllPlaceLemmas.{anchor_free, no_row, AreRisingKeys, key_of_leaf}
use Rattle.ist_core.proofs.AllWordLemmas.{same_inner, each_append}
use Rattle.laws_links.proofs.ComesLemmas.{status_comes, start_quiet}
use Rattle.laws_links.proofs.PassLemmas.{StatusComes, finished_now, is_new, marked_now, status_was}

-- the target of a rebuild stays its target
pub target_grows : (t u : Snapshot) → AllGrow t.pieces u.pieces → (rebuild target : ℕ)
    → HasTarget t rebuild target → HasTarget u rebuild target
target_grows t u g rebuild target h = grind (arith, rebuild_there)

-- what was passed stays passed; of the slots only their number counts
pub passed_later : (t u : Snapshot) → AllGrow t.pieces u.pieces → {earlier log : Log}
    → GoesOn earlier log
    → (node i k : ℕ) (old new : List ℕ) → length new ≡ length old → ArePassed t earlier node i old k
    → ArePassed u log node i new k
passed_later t u g on node i _ _ [] same past_end = past_end
passed_later t u g on node i _ _ (w ∷ ws) same past_end = absurd (omega arith)
passed_later t u g on node i _ _ [] same (one_passed word p c more) = absurd (omega arith)
passed_later t u g on node i _ _ (w ∷ ws) same
    (one_passed {here = here} {rest = rest} {slots = slots} word p c more) =
    one_passed word (happened_later (Passes node i word) on p)
    (counts_grows t u g (ref_of word) here c)
    (passed_later t u g on node (i + 1) rest slots ws (omega arith) more)

-- a slot was passed with some word
pub record IsPassed (t : Snapshot) (log : Log) (node i : ℕ) : Type 0 where
  pub word : ℕ
  pub passed : Happened (Passes node i word) log
  pub k : ℕ
  pub counts : CountsFor t (ref_of word) k

-- each of the slots was passed
passed_at : (t : Snapshot) (log : Log) (node i k : ℕ) (slots : List ℕ)
    → ArePassed t log node i slots k
    → (j word : ℕ) → slice_get slots j ≡ Some word → IsPassed t log node (i + j)
passed_at t log node i _ _ past_end j word e = absurd (cc)
passed_at t log node i _ _ (one_passed {here = here} w p c more) zero word e =
    let same : i ≡ i + 0 = omega arith in
    subst (λ j. IsPassed t log node j) same record { word = w; passed = p; k = here; counts = c }
passed_at t log node i _ _ (one_passed {rest = rest} {slots = slots} w p c more) (suc j) word e =
    let same : i + 1 + j ≡ i + suc j = omega arith in
    subst (λ n. IsPassed t log node n) same (passed_at t log node (i + 1) rest slots more j word e)

-- the row that a passed word leads to is finished
passed_finished : (t : Snapshot) (o : Option Ref) (k child : ℕ) → CountsFor t o k
    → past_rebuild t.pieces o ≡ Some (InnerAt child) → IsFinished t child
passed_finished t _ _ child no_key e = absurd (cc)
passed_finished t _ _ child one_key e = absurd (cc)
passed_finished t _ _ child (of_child {child = m} {k = k} f) e = grind arith
passed_finished t _ _ child (of_target {target = target} {k = k} h f) e = grind arith

-- a row keeps its number of slots
pub same_length : (ps qs : Pieces) → AllGrow ps qs → (base : ℕ) (r s : InnerRow)
    → ps base ≡ Some (Inner r) → qs base ≡ Some (Inner s) → length s.slots ≡ length r.slots
same_length ps qs g base r s e f = grind (arith, inner_there, same_inner)

module _ (pairs : List Pair) (words : ℕ) where
  -- each slot of a row that is finished with k keys was passed, and the passed words count for k
  pub finished_passed : (log : Log) → EachEnabled (start pairs words) log
      → (node k : ℕ) (r : InnerRow)
      → (state_of pairs words log).pieces node ≡ Some (Inner r) → r.status ≡ finished_word k
      → ArePassed (state_of pairs words log) log node 0 r.slots k
  finished_passed [] h node k r e is =
      let zero_status : r.status ≡ 0 = start_quiet pairs words node (Inner r) e in
      let odd : r.status ≡ 4 * k + 3 = is in absurd (omega arith)
  finished_passed (event ∷ log) h node k r e is =
      at event h e (status_comes pairs words log event h node r e) (finished_passed log h.0 node k)
    where
      at : (event : Event) → EachEnabled (start pairs words) (event ∷ log)
          → (state_of pairs words (event ∷ log)).pieces node ≡ Some (Inner r)
          → StatusComes (start pairs words) log node r.status event
          → ((s : InnerRow) → (state_of pairs words log).pieces node ≡ Some (Inner s)
          → s.status ≡ finished_word k
          → ArePassed (state_of pairs words log) log node 0 s.slots k)
          → ArePassed (state_of pairs words (event ∷ log)) (event ∷ log) node 0 r.slots k
      at event all there (status_was s old same) before =
          let g = grow_after pairs words log event all in
          passed_later (state_of pairs words log) (state_of pairs words (event ∷ log)) g
          (one_event event same_log) node 0 k s.slots r.slots
          (same_length (state_of pairs words log).pieces (state_of pairs words (event ∷ log)).pieces g node s r old there)
          (before s old (sym same ∙ is))
      at event all there (is_new none same) before = grind arith
      at _ all there (marked_now can same) before = grind arith
      at _ all there (finished_now {caller = caller} {keys = keys} can same) before =
          let g = grow_after pairs words log (Finish caller node keys) all in
          let odd : r.status ≡ 4 * k + 3 = is in let also : r.status ≡ 4 * keys + 3 = same in
          let one : keys ≡ k = omega arith in passed_later (state_of pairs words log)
          (state_of pairs words (Finish caller node keys ∷ log)) g
          (one_event (Finish caller node keys) same_log) node 0 k can.row.slots r.slots
          (same_length (state_of pairs words log).pieces (state_of pairs words (Finish caller node keys ∷ log)).pieces g node can.row r can.published there)
          (subst (λ n. ArePassed (state_of pairs words log) log node 0 can.row.slots n) one can.passed)

  -- each slot of a finished row was passed
  pub finished_slot : (log : Log) → EachEnabled (start pairs words) log → (node i word : ℕ)
      → IsFinished (state_of pairs words log) node
      → SlotHolds (state_of pairs words log) node i word
      → IsPassed (state_of pairs words log) log node i
  finished_slot log h node i word f (in_anchor a b e) = grind (arith, no_row, anchor_free)
  finished_slot log h node i word f (in_row r e g) = let t = state_of pairs words log in
      let same = same_inner (t.pieces node) f.1.row r f.1.published e in
      let first : 0 + i ≡ i = omega arith in subst (λ j. IsPassed t log node j) first
      (passed_at t log node 0 f.0 r.slots (finished_passed log h node f.0 r e (ap (λ x. x.status) (sym same) ∙ f.1.status)) i word g)

  -- each logical child of a finished row is finished
  pub finished_down : CanOpen pairs words → (log : Log) → EachEnabled (start pairs words) log
      → (node i child : ℕ)
      → IsFinished (state_of pairs words log) node → IsChild (state_of pairs words log) node i child
      → IsFinished (state_of pairs words log) child
  finished_down opens log h node i child f c = let t = state_of pairs words log in
      let p = finished_slot log h node i c.word f c.holds in
      passed_finished t (ref_of p.word) p.k child p.counts
      (sym (frozen_reads pairs words opens log h node i p.word c.word p.passed c.holds) ∙ c.reads)

-- ---- there are at most as many leaves with strictly increasing keys as a table has places. Serves the
-- laws on numbers and on draw words.

mutual
  -- each leaf that is reached is published
  pub leaves_stand : (ps : Pieces) (ref : Option Ref) (leaves : List PlacedLeaf)
      → HasLeaves ps ref leaves → Each (λ leaf. ps leaf.base ≡ Some (Leaf leaf.row)) leaves
  leaves_stand ps _ _ none_here = tt
  leaves_stand ps _ _ (leaf_here r e) = (e, tt)
  leaves_stand ps _ _ (row_here {leaves = leaves} r e under) = slots_stand ps r.slots leaves under

  slots_stand : (ps : Pieces) (words : List ℕ) (leaves : List PlacedLeaf)
      → SlotsHaveLeaves ps words leaves → Each (λ leaf. ps leaf.base ≡ Some (Leaf leaf.row)) leaves
  slots_stand ps _ _ no_slot = tt
  slots_stand ps _ _
      (one_slot {word = word} {words = words} {here = here} {rest = rest} first more) =
      each_append (λ leaf. ps leaf.base ≡ Some (Leaf leaf.row)) here rest
      (leaves_stand ps (logical ps word) here first) (slots_stand ps words rest more)

-- the bases of some leaves
abbrev pub leaf_bases : List PlacedLeaf → List ℕ
leaf_bases [] = []
leaf_bases (leaf ∷ leaves) = leaf.base ∷ leaf_bases leaves

-- a leaf whose key is above another's has another base
base_absent : (ps : Pieces) (leaf : PlacedLeaf) (leaves : List PlacedLeaf)
    → ps leaf.base ≡ Some (Leaf leaf.row) → Each (λ l. ps l.base ≡ Some (Leaf l.row)) leaves
    → Each (λ l. key_of_leaf leaf < key_of_leaf l) leaves → ¬ (Among leaf.base (leaf_bases leaves))
base_absent ps leaf [] e all above i = i
base_absent ps leaf (l ∷ leaves) e all above (inl same) = grind arith
base_absent ps leaf (l ∷ leaves) e all above (inr i) = base_absent ps leaf leaves e all.1 above.1 i

-- leaves with strictly increasing keys have distinct bases
pub bases_distinct : (ps : Pieces) (leaves : List PlacedLeaf)
    → Each (λ l. ps l.base ≡ Some (Leaf l.row)) leaves
    → AreRisingKeys key_of_leaf leaves → Distinct (leaf_bases leaves)
bases_distinct ps [] all rise = tt
bases_distinct ps (leaf ∷ leaves) all rise =
    (base_absent ps leaf leaves all.0 all.1 rise.0, bases_distinct ps leaves all.1 rise.1)

-- there is one base for each leaf
pub length-leaf_bases : (leaves : List PlacedLeaf) → length (leaf_bases leaves) ≡ length leaves
length-leaf_bases [] = refl
length-leaf_bases (leaf ∷ leaves) = let rest = length-leaf_bases leaves in omega arith

-- if all rows lie below a place, so do the bases of the leaves
pub bases_low : (ps : Pieces) (n : ℕ) → ((base : ℕ) (p : Piece) → ps base ≡ Some p → base < n)
    → (leaves : List PlacedLeaf)
    → Each (λ l. ps l.base ≡ Some (Leaf l.row)) leaves → Each (λ b. b < n) (leaf_bases leaves)
bases_low ps n low [] all = tt
bases_low ps n low (leaf ∷ leaves) all =
    (low leaf.base (Leaf leaf.row) all.0, bases_low ps n low leaves all.1)
