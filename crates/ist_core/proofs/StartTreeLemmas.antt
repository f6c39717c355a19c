-- The start layout is one tree, whose rows name what they may. Serves each law from a new table on.
use Rattle.std.proofs.Common.{◌≡◌, ℕ, zero, suc, ◌+◌, ◌<◌, ◌≤◌, ◌⊎◌, List, [], ◌∷◌, ◌++◌, length, take, drop, map, zip, Some, refl, sym, ap, ◌∙◌, subst, inl, inr, ⊎_elim, arith, length-drop}
use Rattle.std.specs.List.{sum, sum_by, flat_map}
use Rattle.std.proofs.lemmas.List.{length-take-le}
use Rattle.std.proofs.lemmas.List.Sums.{sum_by-cons}
use Rattle.ist_core.specs.Types.{Pair, LeafRow}
use Rattle.ist_core.specs.WordTerms.{degree, part_lens, first_row, place_limit, inner_words, anchor, ideal_words, Ref, InnerAt, IsGoodRef, ref_of, word_of, cut, parts, Pieces, Piece, Leaf, Inner, size_of, start, tree_at, bases_from, placed_parts, top_row, rows_within, rows_from, pieces_of}
use Rattle.ist_core.specs.LogTerms.{Among, Distinct, CanOpen}
use Rattle.ist_core.proofs.OptionLemmas.{among-append, among_left, among_right, each-among, with_row-same, with_row-other, among-pieces_of}
use Rattle.ist_core.proofs.ReferenceLemmas.{ref_of-word_of}
use Rattle.ist_core.proofs.ShapeLemmas.{ideal_words_many}
use Rattle.ist_core.proofs.PartLemmas.{sum-part_lens, part_len-lt}
use Rattle.ist_core.proofs.WordLemmas.{ideal_words_one}
use Rattle.ist_core.proofs.StepLemmas.{known}
use Rattle.ist_core.proofs.PlaceLemmas.{size_positive}
use Rattle.ist_core.proofs.LayoutLemmas.{FillWords, fills_within, fills_rows, among_part_lens}
use Rattle.ist_core.proofs.SplitLemmas.{Splits, split_none, split_leaf, split_row, SplitAll, no_split, one_split}
use Rattle.ist_core.proofs.NamingLemmas.{RowNames, SlotNames, WordsName}
use Rattle.ist_core.proofs.TreeLemmas.{IsTree, AreTrees, tree_none, tree_leaf, tree_row, no_tree, one_tree, IsTreeRow, tree_rows, tree_slot}

-- rows that lie one after another are each found at their bases
pub pieces_of-among : (from to : ℕ) (rows : List (ℕ × Piece)) (base : ℕ) (p : Piece)
    → FillWords from rows to → Among (base, p) rows → pieces_of rows base ≡ Some p
pieces_of-among from to [] base p h i = absurd i
pieces_of-among from to (row ∷ rows) base p h (inl e) = grind (arith, with_row-same)
pieces_of-among from to (row ∷ rows) base p h (inr i) =
    let following = fills_within (from + size_of row.1) to rows base p h.1 i in
    let low = following.0 in let first = h.0 in let some = size_positive row.1 in
    with_row-other (pieces_of rows) row.0 base (Some row.1) (λ e. omega arith) ∙ pieces_of-among
    (from + size_of row.1) to rows base p h.1 i

-- the row is a leaf
pub data IsLeafRow : Piece → Type 0 where
  leaf_row : (r : LeafRow) → IsLeafRow (Leaf r)

-- this number of bases, from this one on, are good
abbrev pub GoodFrom : ℕ → ℕ → Type 0
GoodFrom base words = (first_row ≤ base) × (base + words ≤ place_limit)

-- the bases are strictly increasing, and lie between the two places
abbrev pub Between : ℕ → List ℕ → ℕ → Type 0
Between from [] to = from ≤ to
Between from (base ∷ bases) to = (from ≤ base) × Between (base + 1) bases to

between_wider : (low from to : ℕ) (bases : List ℕ) → low ≤ from → Between from bases to
    → Between low bases to
between_wider low from to [] le h = omega arith
between_wider low from to (base ∷ bases) le h = let first = h.0 in (omega arith, h.1)

between_append : (from mid to : ℕ) (xs ys : List ℕ) → Between from xs mid → Between mid ys to
    → Between from (xs ++ ys) to
between_append from mid to [] ys h k = between_wider from mid to ys h k
between_append from mid to (x ∷ xs) ys h k = (h.0, between_append (x + 1) mid to xs ys h.1 k)

between_above : (from to base : ℕ) (bases : List ℕ) → Between from bases to → Among base bases
    → from ≤ base
between_above from to base [] h i = absurd i
between_above from to base (b ∷ bases) h (inl e) = let first = h.0 in omega arith
between_above from to base (b ∷ bases) h (inr i) = let first = h.0 in let rest = between_above
    (b + 1) to base bases h.1 i in omega arith

-- no base is twice in a strictly increasing list
pub between_once : (from to : ℕ) (bases : List ℕ) → Between from bases to → Distinct bases
between_once from to [] h = tt
between_once from to (base ∷ bases) h = (
  (λ i. let low = between_above (base + 1) to base bases h.1 i in omega arith),
  between_once (base + 1) to bases h.1,
)

-- a tree of these rows, which lie between the two places, hangs at the reference
pub record HangsAs (ps : Pieces) (ref : Ref) (pairs : List Pair) (above : ℕ)
    (listed : List (ℕ × Piece)) (from to : ℕ) : Type 0 where
  pub rows : List ℕ
  pub tree : IsTree ps ref above rows
  pub between : Between from rows to
  -- each listed row is a leaf or one of them
  pub each : (base : ℕ) (p : Piece) → Among (base, p) listed → IsLeafRow p ⊎ Among base rows
  pub splits : Splits (λ pair. pair.key) ps ref pairs rows

-- trees of these rows hang at the words
record HangAs (ps : Pieces) (words : List ℕ) (following : List (List Pair)) (above : ℕ)
    (listed : List (ℕ × Piece)) (from to : ℕ) : Type 0 where
  rows : List ℕ
  trees : AreTrees ps words above rows
  between : Between from rows to
  each : (base : ℕ) (p : Piece) → Among (base, p) listed → IsLeafRow p ⊎ Among base rows
  splits : SplitAll (λ pair. pair.key) ps words following rows

-- a tree with at least one word lies at a good base
tree_good : (base : ℕ) (pairs : List Pair) → GoodFrom base (ideal_words (length pairs))
    → IsGoodRef (tree_at base pairs)
tree_good base [] good = tt
tree_good base (pair ∷ []) good = grind (arith, ideal_words_one)
tree_good base (pair ∷ more ∷ pairs) good = grind (arith, ideal_words_many)

module _ (ps : Pieces) where
  -- these rows are published
  abbrev Stand : List (ℕ × Piece) → Type 0
  Stand listed = (base : ℕ) (p : Piece) → Among (base, p) listed → ps base ≡ Some p

  -- the trees of the parts hang in their slots, if each tree does
  parts_hang : (fuel from above : ℕ) (ns : List ℕ) (xs : List Pair) → sum ns ≤ length xs
      → above < from → GoodFrom from (sum_by ideal_words ns)
      → Stand (flat_map (λ part. rows_within fuel part.0 part.1)
      (zip (bases_from from ns) (cut ns xs)))
      → ((n base : ℕ) (part : List Pair) → Among n ns → length part ≡ n → above < base → GoodFrom
      base (ideal_words n) → Stand (rows_within fuel base part) → HangsAs ps (tree_at base part)
      part above (rows_within fuel base part) base (base + ideal_words n))
      → HangAs ps
      (map (λ part. word_of (tree_at part.0 part.1)) (zip (bases_from from ns) (cut ns xs)))
      (cut ns xs) above
      (flat_map (λ part. rows_within fuel part.0 part.1) (zip (bases_from from ns) (cut ns xs)))
      from (from + sum_by ideal_words ns)
  parts_hang fuel from above [] xs fits higher good stand each = grind (arith, no_tree, no_split)
  parts_hang fuel from above (n ∷ ns) xs fits higher good stand each =
      let all = sum_by-cons (λ x. x) n ns in let words = sum_by-cons ideal_words n ns in
      let less = length-drop n xs in let low = good.0 in let high = good.1 in
      let long = length-take-le n xs (omega arith) in let same = ap ideal_words long in
      let here = rows_within fuel from (take n xs) in
      let more = flat_map (λ part. rows_within fuel part.0 part.1)
      (zip (bases_from (from + ideal_words n) ns) (cut ns (drop n xs))) in
      let first = each n from (take n xs) (inl refl) long higher (low, omega arith)
      (λ base p i. stand base p (among_left (base, p) here more i)) in
      let rest = parts_hang fuel (from + ideal_words n) above ns (drop n xs) (omega arith)
      (omega arith) (omega arith, omega arith)
      (λ base p i. stand base p (among_right (base, p) here more i))
      (λ m base part i e. each m base part (inr i) e) in
      record {
        rows = first.rows ++ rest.rows;
        trees = one_tree (tree_at from (take n xs))
            (ref_of-word_of (tree_at from (take n xs))
            (tree_good from (take n xs) (low, omega arith))) first.tree rest.trees;
        between = between_append from (from + ideal_words n) (from + sum_by ideal_words (n ∷ ns))
            first.rows rest.rows first.between
            (subst (λ to. Between (from + ideal_words n) rest.rows to)
            (let end : from + ideal_words n + sum_by ideal_words ns ≡ from + sum_by ideal_words
            (n ∷ ns) = omega arith in end) rest.between);
        each = λ base p i. ⊎_elim
            (λ k. ⊎_elim (λ l. inl l) (λ l. inr (among_left base first.rows rest.rows l))
            (first.each base p k))
            (λ k. ⊎_elim (λ l. inl l) (λ l. inr (among_right base first.rows rest.rows l))
            (rest.each base p k))
            (among-append (base, p) here more i);
        splits = one_split (tree_at from (take n xs))
            (ref_of-word_of (tree_at from (take n xs))
            (tree_good from (take n xs) (low, omega arith))) first.splits rest.splits;
      }

  -- the rows of a tree, one after another, make a tree
  pub rows_hang : (fuel base above : ℕ) (pairs : List Pair) → length pairs ≤ fuel → above < base
      → GoodFrom base (ideal_words (length pairs)) → Stand (rows_within fuel base pairs)
      → HangsAs ps (tree_at base pairs) pairs above (rows_within fuel base pairs) base
      (base + ideal_words (length pairs))
  unfolding rows_within
  rows_hang fuel base above [] h higher good stand = grind (arith, tree_none, split_none)
  rows_hang fuel base above (pair ∷ []) h higher good stand = record {
    rows = [];
    tree = tree_leaf record { key = pair.key; value = pair.value }
        (stand base (Leaf record { key = pair.key; value = pair.value }) (inl refl));
    between = omega arith;
    each = λ b p i. ⊎_elim (λ e. inl (subst IsLeafRow (sym (ap (λ x. x.1) e)) (leaf_row _)))
        (λ n. absurd n) i;
    splits = split_leaf record { key = pair.key; value = pair.value }
        (stand base (Leaf record { key = pair.key; value = pair.value }) (inl refl)) refl;
  }
  rows_hang zero base above (pair ∷ more ∷ pairs) h higher good stand = absurd (omega arith)
  rows_hang (suc fuel) base above (pair ∷ more ∷ pairs) h higher good stand =
      let all = pair ∷ more ∷ pairs in let n = length all in
      let from = base + inner_words (degree n) in let words = ideal_words_many n (omega arith) in
      let fits = sum-part_lens n in let low = good.0 in let high = good.1 in
      let below = flat_map (λ part. rows_within fuel part.0 part.1) (placed_parts base all) in
      let hang = parts_hang fuel from base (part_lens n) all (omega arith) (omega arith)
      (omega arith, omega arith) (λ b p i. stand b p (inr i))
      (λ m at part i e deeper ok stands. let it = among_part_lens n m i in
      let less = part_len-lt n it.0 (omega arith) in let is = it.1 in
      subst (λ k. HangsAs ps (tree_at at part) part base (rows_within fuel at part) at
      (at + ideal_words k)) e
      (rows_hang fuel at base part (omega arith) deeper
      (subst (λ k. GoodFrom at (ideal_words k)) (sym e) ok) stands)) in
      let end : from + sum_by ideal_words (part_lens n) ≡ base + ideal_words n = omega arith in
      top_hangs base above all (omega arith) higher below (stand base (top_row base all) (inl refl))
      from (base + ideal_words n) (omega arith)
      (subst (λ to. HangAs ps (map (λ part. word_of (tree_at part.0 part.1))
      (placed_parts base all)) (parts all) base below from to) end hang)
    where
      top_hangs : (base above : ℕ) (all : List Pair) → 2 ≤ length all → above < base →
          (below : List (ℕ × Piece)) → ps base ≡ Some (top_row base all)
          → (from to : ℕ) → base + 1 ≤ from → HangAs ps
          (map (λ part. word_of (tree_at part.0 part.1)) (placed_parts base all)) (parts all) base
          below from to
          → HangsAs ps (InnerAt base) all above ((base, top_row base all) ∷ below) base to
      top_hangs base above all two higher below there from to following hang = record {
        rows = base ∷ hang.rows;
        tree = tree_row _ there higher hang.trees;
        between = (omega arith, between_wider (base + 1) from to hang.rows following hang.between);
        each = λ b p i. ⊎_elim (λ e. inr (inl (ap (λ x. x.0) e)))
            (λ k. ⊎_elim (λ l. inl l) (λ l. inr (inr l)) (hang.each b p k)) i;
        splits = split_row _ there two refl hang.splits;
      }

module _ (pairs : List Pair) (words : ℕ) (opens : CanOpen pairs words) where
  -- the rows of a new table are published
  start_stands : (base : ℕ) (p : Piece) → Among (base, p) (rows_from first_row pairs)
      → (start pairs words).pieces base ≡ Some p
  start_stands base p i =
      pieces_of-among first_row (first_row + ideal_words (length pairs)) (rows_from first_row pairs)
      base p (fills_rows (length pairs) first_row pairs (omega arith)) i

  start_good : GoodFrom first_row (ideal_words (length pairs))
  start_good = let room = opens.room in let most = opens.within in (omega arith, omega arith)

  -- a new table is one tree
  pub start_hangs : (above : ℕ) → above < first_row
      → HangsAs (start pairs words).pieces (tree_at first_row pairs) pairs above
      (rows_from first_row pairs) first_row (first_row + ideal_words (length pairs))
  start_hangs above low = rows_hang (start pairs words).pieces (length pairs) first_row above pairs
      (omega arith) low start_good start_stands

  -- the word of the anchor leads to the tree
  pub start_anchor : ref_of (start pairs words).anchor ≡ Some (tree_at first_row pairs)
  start_anchor = ref_of-word_of (tree_at first_row pairs) (tree_good first_row pairs start_good)

  -- each word of a new table names what it may
  pub names_start : WordsName (start pairs words)
  names_start = let hang = start_hangs anchor (omega arith) in record {
    rows = λ base p e. ⊎_elim (λ leaf. leaf_names base p leaf)
        (λ i. let it = each-among (IsTreeRow (start pairs words).pieces) base hang.rows
        (tree_rows (start pairs words).pieces (tree_at first_row pairs) anchor hang.rows
        hang.tree) i in
        known (λ x. RowNames (start pairs words).pieces base x)
        ((start pairs words).pieces base) p (Inner it.row) e it.published it.names)
        (hang.each base p (among-pieces_of (rows_from first_row pairs) base p e));
    anchor_slot = subst (λ o. SlotNames (start pairs words).pieces anchor 0 o)
        (sym start_anchor) (tree_slot (start pairs words).pieces (tree_at first_row pairs)
        anchor hang.rows 0 hang.tree);
  }
    where
      leaf_names : (base : ℕ) (p : Piece) → IsLeafRow p → RowNames (start pairs words).pieces base p
      leaf_names base _ (leaf_row r) = tt
