-- What is found below a slot: of each key the value that the leaves there have for it. Serves the changes law.
use Rattle.std.proofs.Common.{◌≡◌, ◌≢◌, ℕ, ◌<◌, ◌==◌, if◌then◌else◌, true, false, List, [], ◌∷◌, Option, Some, None, refl, sym, ap, ◌∙◌, inl, inr, arith, zero, suc, ◌+◌, ◌⊎◌, nat_le, Bool, ◌++◌, map, length, slice_get, subst, ⊎_elim}
use Rattle.std.proofs.lemmas.Bool.Decides.{nat_tests}
use Rattle.std.specs.Cmp.{nat_cmp_total}
use Rattle.std.specs.FinMap.{gets, same_map, nat_cmp-IsAntisymmetric}
use Rattle.ist_core.specs.declared.pairs.Pair.{Pair}
use Rattle.ist_core.specs.declared.states.InnerRow.{InnerRow}
use Rattle.ist_core.specs.declared.states.LeafRow.{LeafRow}
use Rattle.ist_core.specs.TreeTerms.{Map, map_of, PlacedLeaf, pair_of, HasLeaves, none_here, leaf_here, row_here, SlotsHaveLeaves, no_slot, one_slot, value_in}
use Rattle.ist_core.specs.LogTerms.{Among, Each, Snapshot}
use Rattle.ist_core.proofs.AllWordLemmas.{each-among, among_left, among_right, each_append}
use Rattle.ist_core.proofs.AllPlaceLemmas.{AreRisingKeys, WordsName, HasOneHome, key_of_leaf, LiesIn, LeavesLie, lies_above, child_is, SaysWhere, leaves_lie_in, ReadsAs, slot_reads_as}
use Rattle.std.proofs.lemmas.List.Sums.{count_by-le-length}
use Rattle.ist_core.specs.WordTerms.{child_count, anchor, Ref, LeafAt, InnerAt, Pieces, Leaf, Inner, in_row, logical}
use Rattle.ist_core.specs.Naming.{HasDegree}
use Rattle.laws_histories.specs.Finding.{Finds, in_nothing, in_leaf, in_node}
use Rattle.laws_histories.proofs.FindLemmas.{finds_once}
use Rattle.std.specs.FinMap as fin

-- ---- lists of pairs with strictly increasing keys: the value of a key, and the map that has the pairs.
-- Serves the changes law.

-- the value of the key in the list, if a pair has it
unfoldable pub value_of : ℕ → List Pair → Option ℕ
value_of key [] = None
value_of key (pair ∷ pairs) = if pair.key == key then Some pair.value else value_of key pairs

-- the map of some pairs has the values of the list
pub get-map_of : (pairs : List Pair) (key : ℕ) → fin.get (map_of pairs) key ≡ value_of key pairs
unfolding value_of
get-map_of [] key = grind (arith, nat_tests, gets)
get-map_of (pair ∷ pairs) key = grind (arith, nat_tests, gets, get-map_of pairs key)

-- a key that no pair has has no value
pub value_of-none : (key : ℕ) (pairs : List Pair) → Each (λ pair. pair.key ≢ key) pairs
    → value_of key pairs ≡ None
unfolding value_of
value_of-none key [] h = refl
value_of-none key (pair ∷ pairs) h = let ne = h.0 in
    let differs : (pair.key == key) ≡ false = grind (arith, nat_tests) in
    rw differs (value_of-none key pairs h.1)

-- if the keys are strictly increasing, each pair of the list gives its key its value
pub value_of-among : (pair : Pair) (pairs : List Pair) → AreRisingKeys (λ p. p.key) pairs → Among pair pairs
    → value_of pair.key pairs ≡ Some pair.value
unfolding value_of
value_of-among pair [] rise i = absurd i
value_of-among pair (p ∷ pairs) rise (inl e) = grind (arith, nat_tests)
value_of-among pair (p ∷ pairs) rise (inr i) =
    let less = each-among (λ q. p.key < q.key) pair pairs rise.0 i in
    let differs : (p.key == pair.key) ≡ false = grind (arith, nat_tests) in
    rw differs (value_of-among pair pairs rise.1 i)

-- two pairs of a list with strictly increasing keys are equal if they have one key
pub same_pair : (p q : Pair) (pairs : List Pair) → AreRisingKeys (λ x. x.key) pairs → Among p pairs
    → Among q pairs → p.key ≡ q.key → p ≡ q
same_pair p q [] rise i j e = absurd i
same_pair p q (x ∷ xs) rise (inl a) (inl b) e = a ∙ sym b
same_pair p q (x ∷ xs) rise (inl a) (inr j) e =
    let less = each-among (λ y. x.key < y.key) q xs rise.0 j in let k = ap (λ y. y.key) a in
    absurd (omega arith)
same_pair p q (x ∷ xs) rise (inr i) (inl b) e =
    let less = each-among (λ y. x.key < y.key) p xs rise.0 i in let k = ap (λ y. y.key) b in
    absurd (omega arith)
same_pair p q (x ∷ xs) rise (inr i) (inr j) e = same_pair p q xs rise.1 i j e

-- maps with the same look-ups are one
pub same_gets : (m n : Map) → ((key : ℕ) → fin.get m key ≡ fin.get n key) → m ≡ n
same_gets m n h = same_map nat_cmp_total nat_cmp-IsAntisymmetric m n h

-- ---- each leaf is found

-- a leaf gives its own key its value
own_value : (r : LeafRow) → value_in (Some (Leaf r)) r.key ≡ Some r.value
own_value r = let same : (r.key == r.key) ≡ true = grind (arith, nat_tests) in rw same refl

module _ (ps : Pieces) (In : ℕ → ℕ → Option Ref → Type 0) (Lies : ℕ → ℕ → ℕ → Type 0)
    (says : SaysWhere ps In Lies) where
  -- the search for the key of a leaf finds its value from the reference on
  abbrev IsFound : Option Ref → PlacedLeaf → Type 0
  IsFound ref leaf = Finds ps leaf.row.key ref (Some leaf.row.value)

  -- through the slot in which the leaves lie
  through_slot : (base j word : ℕ) (r : InnerRow) (leaves : List PlacedLeaf)
      → ps base ≡ Some (Inner r) → slice_get r.slots j ≡ Some word
      → Each (λ leaf. Lies (key_of_leaf leaf) base j) leaves
      → Each (IsFound (logical ps word)) leaves → Each (IsFound (Some (InnerAt base))) leaves
  through_slot base j word r [] e at lies found = tt
  through_slot base j word r (leaf ∷ leaves) e at lies found =
      let child = says.child base j leaf.row.key r e lies.0 in
      (in_node r e (subst (λ k. slice_get r.slots k ≡ Some word) child at) found.0, through_slot base j word r leaves e at lies.1 found.1)

  mutual
    found_in : (ref : Option Ref) (leaves : List PlacedLeaf) → HasLeaves ps ref leaves
        → (node i : ℕ) → In node i ref → Each (IsFound ref) leaves
    found_in _ _ none_here node i m = tt
    found_in _ _ (leaf_here {base = base} r e) node i m =
        (subst (λ v. Finds ps r.key (Some (LeafAt base)) v) (own_value r) (in_leaf r e), tt)
    found_in _ leaves (row_here {base = base} r e below) node i m =
        found_slots r.slots leaves below base r e 0
        (λ k j word is at. (let same : k ≡ j = omega arith in subst (λ n. slice_get r.slots n ≡ Some word) same at))

    found_slots : (words : List ℕ) (leaves : List PlacedLeaf) → SlotsHaveLeaves ps words leaves
        → (base : ℕ) (r : InnerRow) → ps base ≡ Some (Inner r) → (j : ℕ)
        → ((k m word : ℕ) → m ≡ j + k → slice_get words k ≡ Some word → slice_get r.slots m ≡ Some word) → Each (IsFound (Some (InnerAt base))) leaves
    found_slots _ _ no_slot base r e j slots = tt
    found_slots _ _ (one_slot {word = word} {words = words} {here = here} {rest = rest} first more) base r e j slots =
        let at = slots 0 j word (omega arith) refl in let reads = says.slot base j word r e at in
        let lies = leaves_lie_in ps In Lies says (logical ps word) here first base j reads in
        each_append (IsFound (Some (InnerAt base))) here rest
        (through_slot base j word r here e at lies.0 (found_in (logical ps word) here first base j reads))
        (found_slots words rest more base r e (suc j) (λ k m w is got. slots (suc k) m w (omega arith) got))

-- ---- each search ends

-- the search for a key ends with no value, or with the value of a leaf of the key
pub record IsSearchEnd (key : ℕ) (leaves : List PlacedLeaf) (value : Option ℕ) : Type 0 where
  pub cases : (value ≡ None) ⊎ ((leaf : PlacedLeaf) × Among leaf leaves × (leaf.row.key ≡ key) × (value ≡ Some leaf.row.value))

module _ (ps : Pieces) (shaped : (base : ℕ) (r : InnerRow) → ps base ≡ Some (Inner r) → HasDegree r)
    (key : ℕ) where
  -- an end in the first of two lists is one in both
  end_left : (xs ys : List PlacedLeaf) (value : Option ℕ) → IsSearchEnd key xs value
      → IsSearchEnd key (xs ++ ys) value
  end_left xs ys value h = grind (arith, among_left)

  -- an end in the second of two lists is one in both
  end_right : (xs ys : List PlacedLeaf) (value : Option ℕ) → IsSearchEnd key ys value
      → IsSearchEnd key (xs ++ ys) value
  end_right xs ys value h = grind (arith, among_right)

  -- a leaf is an end
  leaf_end : (base : ℕ) (r : LeafRow)
      → IsSearchEnd key (record { base = base; row = r } ∷ []) (value_in (Some (Leaf r)) key)
  leaf_end base r = at (r.key == key) refl
    where
      at : (v : Bool) → (r.key == key) ≡ v
          → IsSearchEnd key (record { base = base; row = r } ∷ []) (if v then Some r.value else None)
      at true e =
          record { cases = inr (record { base = base; row = r }, inl refl, (let same : r.key ≡ key = grind (arith, nat_tests) in same), refl) }
      at false e = record { cases = inl refl }

  mutual
    ends_in : (ref : Option Ref) (leaves : List PlacedLeaf) → HasLeaves ps ref leaves
        → (value : Option ℕ) × Finds ps key ref value × IsSearchEnd key leaves value
    ends_in _ _ none_here = (None, in_nothing, record { cases = inl refl })
    ends_in _ _ (leaf_here {base = base} r e) =
        (value_in (Some (Leaf r)) key, in_leaf r e, leaf_end base r)
    ends_in _ leaves (row_here {base = base} r e below) = let shape = shaped base r e in
        let keys = shape.keys in let slots = shape.slots in
        let few = count_by-le-length (λ k. nat_le k key) r.keys in
        let it = ends_slot r.slots leaves below (child_count r.keys key) (omega arith) in
        (it.1, in_node r e it.2 it.3, it.4)

    ends_slot : (words : List ℕ) (leaves : List PlacedLeaf) → SlotsHaveLeaves ps words leaves
        → (j : ℕ) → j < length words
        → (word : ℕ) × (value : Option ℕ) × (slice_get words j ≡ Some word) × Finds ps key (logical ps word) value × IsSearchEnd key leaves value
    ends_slot _ _ no_slot j short = absurd (omega arith)
    ends_slot _ _ (one_slot {word = word} {words = words} {here = here} {rest = rest} first more) zero short =
        let it = ends_in (logical ps word) here first in
        (word, it.0, refl, it.1, end_left here rest it.0 it.2)
    ends_slot _ _ (one_slot {word = word} {words = words} {here = here} {rest = rest} first more) (suc j) short =
        let it = ends_slot words rest more j (omega arith) in
        (it.0, it.1, it.2, it.3, end_right here rest it.1 it.4)

-- ---- the value of each key

-- if the keys of leaves are strictly increasing, so are the keys of their pairs
pub pairs_rise : (leaves : List PlacedLeaf) → AreRisingKeys key_of_leaf leaves
    → AreRisingKeys (λ p. p.key) (map pair_of leaves)
pairs_rise [] h = tt
pairs_rise (leaf ∷ leaves) h = (each leaves h.0, pairs_rise leaves h.1)
  where
    each : (xs : List PlacedLeaf) → Each (λ x. leaf.row.key < key_of_leaf x) xs
        → Each (λ p. leaf.row.key < p.key) (map pair_of xs)
    each [] k = tt
    each (x ∷ xs) k = (k.0, each xs k.1)

-- the pair of a leaf is among the leaves' pairs
among_pairs : (leaf : PlacedLeaf) (leaves : List PlacedLeaf) → Among leaf leaves
    → Among (pair_of leaf) (map pair_of leaves)
among_pairs leaf [] i = absurd i
among_pairs leaf (x ∷ xs) (inl e) = inl (ap pair_of e)
among_pairs leaf (x ∷ xs) (inr i) = inr (among_pairs leaf xs i)

module _ (ps : Pieces) (shaped : (base : ℕ) (r : InnerRow) → ps base ≡ Some (Inner r) → HasDegree r)
    (In : ℕ → ℕ → Option Ref → Type 0) (Lies : ℕ → ℕ → ℕ → Type 0)
    (says : SaysWhere ps In Lies) where
  -- from a reference in a slot on each key is given the value that the leaves below have for it
  pub finds_value : (ref : Option Ref) (leaves : List PlacedLeaf) → HasLeaves ps ref leaves
      → (node i : ℕ) → In node i ref → (key : ℕ)
      → Finds ps key ref (value_of key (map pair_of leaves))
  finds_value ref leaves h node i m key = let it = ends_in ps shaped key ref leaves h in
      let rise = pairs_rise leaves (leaves_lie_in ps In Lies says ref leaves h node i m).1 in
      let found = found_in ps In Lies says ref leaves h node i m in ⊎_elim
      (λ none. subst (λ v. Finds ps key ref v) (none ∙ sym (value_of-none key (map pair_of leaves) (none_has leaves (subst (λ v. Finds ps key ref v) none it.1) found))) it.1)
      (λ w.
      let value : value_of key (map pair_of leaves) ≡ Some w.0.row.value =
      ap (λ k. value_of k (map pair_of leaves)) (sym w.2)
      ∙ value_of-among (pair_of w.0) (map pair_of leaves) rise (among_pairs w.0 leaves w.1) in
      subst (λ v. Finds ps key ref v) (w.3 ∙ sym value) it.1)
      it.2.cases
    where
      clash : (value : ℕ) → Some value ≡ None → ⊥
      clash value e = cc

      none_has : (xs : List PlacedLeaf) → Finds ps key ref None
          → Each (λ leaf. Finds ps leaf.row.key ref (Some leaf.row.value)) xs
          → Each (λ p. p.key ≢ key) (map pair_of xs)
      none_has [] f found = tt
      none_has (x ∷ xs) f found =
          ((λ e. clash x.row.value (finds_once ps key ref (Some x.row.value) None (subst (λ k. Finds ps k ref (Some x.row.value)) e found.0) f)), none_has xs f found.1)

-- ---- of a table

-- what a table says of where keys lie
pub table_says : (t : Snapshot) → WordsName t → HasOneHome t → t.pieces anchor ≡ None → LeavesLie t
    → SaysWhere t.pieces (ReadsAs t) (LiesIn t)
table_says t names home free lie = record {
  leaf = λ n j base r m e. lie.each n j base (m.a_leaf base refl) r e;
  slot = λ base j word r e at. slot_reads_as t base j word names (in_row r e at);
  up =
      λ n j base k key m lies. lies_above t names home free n j base k key (m.a_row base refl) lies;
  child = λ base j key r e lies. child_is t base key j r free e lies.child_for;
}
