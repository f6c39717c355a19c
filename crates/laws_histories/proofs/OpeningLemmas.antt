-- The contents of a new table are its start pairs. Serves the changes law.
use Rattle.std.proofs.Common.{◌≡◌, ℕ, zero, suc, List, [], ◌∷◌, ◌++◌, length, take, drop, map, zip, Option, Some, refl, sym, ap, ◌∙◌, subst, inl, inr, arith}
use Rattle.std.proofs.lemmas.List.{map-append, take-append-drop}
use Rattle.std.specs.List.{flat_map}
use Rattle.ist_core.specs.declared.pairs.Pair.{Pair}
use Rattle.ist_core.specs.declared.states.LeafRow.{LeafRow}
use Rattle.ist_core.specs.WordTerms.{part_lens, anchor, first_row, Ref, ref_of, cut, parts, Pieces, Piece, Leaf, start, tree_at, placed_parts, rows_within, rows_from, past_change, past_rebuild, logical}
use Rattle.ist_core.specs.LogTerms.{Among, Each, CanOpen}
use Rattle.ist_core.specs.TreeTerms.{PlacedLeaf, pair_of, HasLeaves, none_here, leaf_here, row_here, SlotsHaveLeaves, no_slot, one_slot, HasContents}
use Rattle.ist_core.proofs.AllWordLemmas.{among_left, among_right, each-among, each_append, among-pieces_of}
use Rattle.ist_core.proofs.AllPlaceLemmas.{AreRisingKeys, key_of_leaf, Splits, split_none, split_leaf, split_row, SplitAll, no_split, one_split, rises_from_next}
use Rattle.ist_core.proofs.AllEventLemmas.{start_hangs, start_anchor}
use Rattle.laws_links.proofs.ReadLemmas.{joined, joined_parts}
use Rattle.laws_histories.proofs.BelowLemmas.{same_pair}

-- ---- the leaves of a tree over keys

-- a tree over keys reads as itself
split_plain : {A : Type 0} (key : A → ℕ) (ps : Pieces) (ref : Ref) (xs : List A) (rows : List ℕ)
    → Splits key ps ref xs rows → (word : ℕ) → ref_of word ≡ Some ref → logical ps word ≡ Some ref
split_plain key ps _ _ _ split_none word e = ap (λ x. past_rebuild ps (past_change ps x)) e
split_plain key ps _ _ _ (split_leaf r f is) word e = ap (λ x. past_rebuild ps (past_change ps x)) e
split_plain key ps _ _ _ (split_row r f two keys below) word e = grind arith

-- the reference has leaves with the keys of the list
record HasLeavesWithKeys {A : Type 0} (key : A → ℕ) (ps : Pieces) (ref : Ref) (xs : List A) : Type 0 where
  leaves : List PlacedLeaf
  reached : HasLeaves ps (Some ref) leaves
  keys : map key_of_leaf leaves ≡ map key xs

-- the slots have leaves with the keys of the lists
record HaveKeys {A : Type 0} (key : A → ℕ) (ps : Pieces) (words : List ℕ)
    (following : List (List A)) : Type 0 where
  leaves : List PlacedLeaf
  reached : SlotsHaveLeaves ps words leaves
  keys : map key_of_leaf leaves ≡ map key (joined following)

module _ {A : Type 0} (key : A → ℕ) (ps : Pieces) where
  mutual
    split_leaves : (ref : Ref) (xs : List A) (rows : List ℕ) → Splits key ps ref xs rows
        → HasLeavesWithKeys key ps ref xs
    split_leaves _ _ _ split_none = record { leaves = []; reached = none_here; keys = refl }
    split_leaves _ _ _ (split_leaf {base = base} r e is) =
        record { leaves = record { base = base; row = r } ∷ []; reached = leaf_here r e; keys = ap (λ k. k ∷ []) is }
    split_leaves _ xs _ (split_row {rows = rows} r e two keys below) =
        let it = split_all_leaves r.slots (parts xs) rows below in
        record { leaves = it.leaves; reached = row_here r e it.reached; keys = it.keys ∙ ap (map key) (joined_parts xs) }

    split_all_leaves : (words : List ℕ) (following : List (List A)) (rows : List ℕ)
        → SplitAll key ps words following rows → HaveKeys key ps words following
    split_all_leaves _ _ _ no_split = record { leaves = []; reached = no_slot; keys = refl }
    split_all_leaves _ _ _ (one_split {word = word} {words = words} {here = here} {rest = rest} {part = part} {following = following} ref e first more) =
        let one = split_leaves ref part here first in
        let others = split_all_leaves words following rest more in record {
          leaves = one.leaves ++ others.leaves;
          reached =
              one_slot (subst (λ x. HasLeaves ps x one.leaves) (sym (split_plain key ps ref part here first word e)) one.reached) others.reached;
          keys = map-append key_of_leaf one.leaves others.leaves
              ∙ ap (λ ks. ks ++ map key_of_leaf others.leaves) one.keys
              ∙ ap (λ ks. map key part ++ ks) others.keys
              ∙ sym (map-append key part (joined following));
        }

-- ---- the leaves of a new table

-- a leaf of the list has one of the pairs
abbrev IsLeafOfPairs : List Pair → ℕ × Piece → Type 0
IsLeafOfPairs pairs row =
    (r : LeafRow) → row.1 ≡ Leaf r → Among (record { key = r.key; value = r.value }) pairs

module _ {A : Type 0} where
  -- what is among the first elements is among all
  among_take : (x : A) (n : ℕ) (xs : List A) → Among x (take n xs) → Among x xs
  among_take x n xs i =
      subst (λ ys. Among x ys) (take-append-drop n xs) (among_left x (take n xs) (drop n xs) i)

  -- what is among the last elements is among all
  among_drop : (x : A) (n : ℕ) (xs : List A) → Among x (drop n xs) → Among x xs
  among_drop x n xs i =
      subst (λ ys. Among x ys) (take-append-drop n xs) (among_right x (take n xs) (drop n xs) i)

  -- an element of a piece is one of the list
  among_cut : (x : A) (part : List A) (ns : List ℕ) (xs : List A) → Among part (cut ns xs)
      → Among x part → Among x xs
  among_cut x part [] xs i j = absurd i
  among_cut x part (n ∷ ns) xs (inl e) j = among_take x n xs (subst (λ ys. Among x ys) e j)
  among_cut x part (n ∷ ns) xs (inr i) j = among_drop x n xs (among_cut x part ns (drop n xs) i j)

-- the parts of a pair of two lists are among them
among_zip : {A B : Type 0} (p : A × B) (xs : List A) (ys : List B) → Among p (zip xs ys)
    → Among p.1 ys
among_zip p [] ys i = absurd i
among_zip p (x ∷ xs) [] i = absurd i
among_zip p (x ∷ xs) (y ∷ ys) (inl e) = inl (ap (λ q. q.1) e)
among_zip p (x ∷ xs) (y ∷ ys) (inr i) = inr (among_zip p xs ys i)

-- what each part has, their concatenation has
each_flat_map : {A B : Type 0} (P : B → Type 0) (f : A → List B) (xs : List A)
    → ((x : A) → Among x xs → Each P (f x)) → Each P (flat_map f xs)
each_flat_map P f [] all = tt
each_flat_map P f (x ∷ xs) all = each_append P (f x) (flat_map f xs) (all x (inl refl))
    (each_flat_map P f xs (λ y i. all y (inr i)))

-- the rows of a tree over pairs have leaves of these pairs
rows_of : (fuel base : ℕ) (pairs all : List Pair) → ((p : Pair) → Among p pairs → Among p all)
    → Each (IsLeafOfPairs all) (rows_within fuel base pairs)
unfolding rows_within
rows_of fuel base [] all sub = tt
rows_of fuel base (pair ∷ []) all sub = grind arith
rows_of zero base (pair ∷ more ∷ pairs) all sub = tt
rows_of (suc fuel) base (pair ∷ more ∷ pairs) all sub =
    let xs = pair ∷ more ∷ pairs in (
      λ r e. absurd (cc),
      each_flat_map (IsLeafOfPairs all) (λ part. rows_within fuel part.0 part.1) (placed_parts base xs)
          (λ part i. rows_of fuel part.0 part.1 all (λ p j. sub p (among_cut p part.1 (part_lens (length xs)) xs (among_zip part _ (parts xs) i) j))),
    )

-- ---- one list

-- two lists of pairs of a strictly increasing list are equal if their keys are
same_pairs : (xs ys all : List Pair) → AreRisingKeys (λ p. p.key) all
    → map (λ p. p.key) xs ≡ map (λ p. p.key) ys
    → Each (λ p. Among p all) xs → Each (λ p. Among p all) ys → xs ≡ ys
same_pairs [] [] all rise e h k = refl
same_pairs [] (y ∷ ys) all rise e h k = absurd (cc)
same_pairs (x ∷ xs) [] all rise e h k = absurd (cc)
same_pairs (x ∷ xs) (y ∷ ys) all rise e h k = let one = same_pair x y all rise h.0 k.0 (cc) in
    let rest = same_pairs xs ys all rise (cc) h.1 k.1 in
    ap (λ p. p ∷ xs) one ∙ ap (λ ps. y ∷ ps) rest

-- each element of a list is among it
each_self : (xs all : List Pair) → ((p : Pair) → Among p xs → Among p all)
    → Each (λ p. Among p all) xs
each_self [] all h = tt
each_self (x ∷ xs) all h = (h x (inl refl), each_self xs all (λ p i. h p (inr i)))

mutual
  -- each leaf that is reached is published
  reached_of : (ps : Pieces) (all : List Pair)
      → ((base : ℕ) (r : LeafRow) → ps base ≡ Some (Leaf r) → Among (record { key = r.key; value = r.value }) all)
      → (ref : Option Ref) (leaves : List PlacedLeaf) → HasLeaves ps ref leaves
      → Each (λ p. Among p all) (map pair_of leaves)
  reached_of ps all each _ _ none_here = tt
  reached_of ps all each _ _ (leaf_here {base = base} r e) = (each base r e, tt)
  reached_of ps all each _ leaves (row_here r e below) = slots_of ps all each r.slots leaves below

  -- each leaf that is reached from slots is published
  slots_of : (ps : Pieces) (all : List Pair)
      → ((base : ℕ) (r : LeafRow) → ps base ≡ Some (Leaf r) → Among (record { key = r.key; value = r.value }) all)
      → (words : List ℕ) (leaves : List PlacedLeaf) → SlotsHaveLeaves ps words leaves
      → Each (λ p. Among p all) (map pair_of leaves)
  slots_of ps all each _ _ no_slot = tt
  slots_of ps all each _ _ (one_slot {word = word} {words = words} {here = here} {rest = rest} first more) =
      subst (λ xs. Each (λ p. Among p all) xs) (sym (map-append pair_of here rest))
      (each_append (λ p. Among p all) (map pair_of here) (map pair_of rest) (reached_of ps all each (logical ps word) here first) (slots_of ps all each words rest more))

-- the keys of leaves are the keys of their pairs
pair_keys : (leaves : List PlacedLeaf)
    → map (λ p. p.key) (map pair_of leaves) ≡ map key_of_leaf leaves
pair_keys [] = refl
pair_keys (leaf ∷ leaves) = ap (λ ks. leaf.row.key ∷ ks) (pair_keys leaves)

-- the contents of a new table are its pairs
pub start_contents : (pairs : List Pair) (words : ℕ) → CanOpen pairs words
    → HasContents (start pairs words) pairs
start_contents pairs words opens = let t = start pairs words in
    let hang = start_hangs pairs words opens anchor (omega arith) in
    let it =
    split_leaves (λ pair. pair.key) t.pieces
    (tree_at first_row pairs) pairs hang.rows hang.splits in
    let reads =
    split_plain (λ pair. pair.key) t.pieces
    (tree_at first_row pairs) pairs hang.rows hang.splits t.anchor
    (start_anchor pairs words opens) in
    let published : (base : ℕ) (r : LeafRow) → t.pieces base ≡ Some (Leaf r) → Among (record { key = r.key; value = r.value }) pairs =
    λ base r e. each-among (IsLeafOfPairs pairs) (base, Leaf r) (rows_from first_row pairs) (rows_of (length pairs) first_row pairs pairs (λ p i. i)) (among-pieces_of (rows_from first_row pairs) base (Leaf r) e) r refl in
    let rise = rises_from_next (λ pair. pair.key) pairs opens.rising in record {
      leaves = it.leaves;
      reached = subst (λ ref. HasLeaves t.pieces ref it.leaves) (sym reads) it.reached;
      pairs_are =
          sym (same_pairs (map pair_of it.leaves) pairs pairs rise (pair_keys it.leaves ∙ it.keys)
          (reached_of t.pieces pairs published (Some (tree_at first_row pairs)) it.leaves it.reached) (each_self pairs pairs (λ p i. i)));
    }
