-- The subtrees of the first part of a shared root are ideal. Serves `examples`.
use Rattle.std.proofs.Common.{ℕ, ◌+◌, List, [], ◌∷◌, refl, arith, ◌≡◌, ◌≤◌, ◌<◌, length, drop, Some}
use Rattle.ist_core.specs.declared.states.InnerRow.{InnerRow}
use Rattle.ist_core.specs.WordTerms.{degree, square_root, root_up_to, part_len, part_lens, ideal_words, ideal_words_within, LeafAt, InnerAt, ref_of, Pieces, with_inners, Inner, rows_within, IsIdeal, of_one, of_more, no_part, one_part, IsTop, open_word, parts, first_keys}
use Rattle.ist_core.specs.LogTerms.{state}
use Rattle.ist_core.specs.TreeTerms.{PlacedLeaf}
use Rattle.laws_histories.specs.ExampleShares.{finish_of, share_held, share_part_rows}
use Rattle.laws_histories.proofs.ShareExampleLemmas.{many}

-- the rows, with the rows of the part
abbrev pub with_part_rows : Pieces
with_part_rows = with_inners (state many share_held).pieces share_part_rows

-- the leaf of a pair
abbrev pub leaf_at : ℕ → ℕ → PlacedLeaf
leaf_at base i = record { base = base; row = record { key = i + 1; value = i } }

-- a row over two children
abbrev over_two : ℕ → ℕ → ℕ → ℕ → InnerRow
over_two size key left right = record {
  status = 0;
  count = 0;
  degree = 2;
  size = size;
  keys = key ∷ [];
  slots = left ∷ right ∷ [];
}

-- a row of the part is the top row of an ideal subtree, part by part
top_of : (base : ℕ) (r : InnerRow) (leaves : List PlacedLeaf) (above : ℕ)
    → with_part_rows base ≡ Some (Inner r) → 2 ≤ length leaves → above < base → r.status ≡ open_word
    → r.count ≡ 0 → r.degree ≡ degree (length leaves) → r.size ≡ length leaves
    → r.keys ≡ first_keys (λ leaf. leaf.row.key) (drop 1 (parts leaves))
    → IsTop with_part_rows base r leaves above
top_of base r leaves above a b c d e f g h = grind arith

-- keys 1 and 2
two_0 : IsIdeal with_part_rows (InnerAt 2138) (leaf_at 64 0 ∷ leaf_at 66 1 ∷ []) 2131 (2138 ∷ [])
unfolding finish_of ref_of rows_within degree square_root root_up_to part_len part_lens ideal_words ideal_words_within
two_0 = of_more (over_two 2 2 513 529)
    (top_of 2138 (over_two 2 2 513 529) (leaf_at 64 0 ∷ leaf_at 66 1 ∷ []) 2131 refl (omega arith) (omega arith) refl refl refl refl refl)
    (one_part (LeafAt 64) refl (of_one refl refl)
    (one_part (LeafAt 66) refl (of_one refl refl) no_part))

-- keys 3 and 4
two_2 : IsIdeal with_part_rows (InnerAt 2145) (leaf_at 75 2 ∷ leaf_at 77 3 ∷ []) 2131 (2145 ∷ [])
unfolding finish_of ref_of rows_within degree square_root root_up_to part_len part_lens ideal_words ideal_words_within
two_2 = of_more (over_two 2 4 601 617)
    (top_of 2145 (over_two 2 4 601 617) (leaf_at 75 2 ∷ leaf_at 77 3 ∷ []) 2131 refl (omega arith) (omega arith) refl refl refl refl refl)
    (one_part (LeafAt 75) refl (of_one refl refl)
    (one_part (LeafAt 77) refl (of_one refl refl) no_part))

-- the leaves of keys 1 to 4
abbrev pub leaves_0 : List PlacedLeaf
leaves_0 = leaf_at 64 0 ∷ leaf_at 66 1 ∷ leaf_at 75 2 ∷ leaf_at 77 3 ∷ []

-- their row
pub four_0 : IsIdeal with_part_rows (InnerAt 2131) leaves_0 2120 (2131 ∷ 2138 ∷ 2145 ∷ [])
unfolding finish_of ref_of rows_within degree square_root root_up_to part_len part_lens ideal_words ideal_words_within
four_0 = of_more (over_two 4 3 17106 17162)
    (top_of 2131 (over_two 4 3 17106 17162) leaves_0 2120 refl (omega arith) (omega arith) refl refl refl refl refl)
    (one_part (InnerAt 2138) refl two_0 (one_part (InnerAt 2145) refl two_2 no_part))

-- keys 5 and 6
two_4 : IsIdeal with_part_rows (InnerAt 2159) (leaf_at 93 4 ∷ leaf_at 95 5 ∷ []) 2152 (2159 ∷ [])
unfolding finish_of ref_of rows_within degree square_root root_up_to part_len part_lens ideal_words ideal_words_within
two_4 = of_more (over_two 2 6 745 761)
    (top_of 2159 (over_two 2 6 745 761) (leaf_at 93 4 ∷ leaf_at 95 5 ∷ []) 2152 refl (omega arith) (omega arith) refl refl refl refl refl)
    (one_part (LeafAt 93) refl (of_one refl refl)
    (one_part (LeafAt 95) refl (of_one refl refl) no_part))

-- keys 7 and 8
two_6 : IsIdeal with_part_rows (InnerAt 2166) (leaf_at 104 6 ∷ leaf_at 106 7 ∷ []) 2152 (2166 ∷ [])
unfolding finish_of ref_of rows_within degree square_root root_up_to part_len part_lens ideal_words ideal_words_within
two_6 = of_more (over_two 2 8 833 849)
    (top_of 2166 (over_two 2 8 833 849) (leaf_at 104 6 ∷ leaf_at 106 7 ∷ []) 2152 refl (omega arith) (omega arith) refl refl refl refl refl)
    (one_part (LeafAt 104) refl (of_one refl refl)
    (one_part (LeafAt 106) refl (of_one refl refl) no_part))

-- the leaves of keys 5 to 8
abbrev pub leaves_4 : List PlacedLeaf
leaves_4 = leaf_at 93 4 ∷ leaf_at 95 5 ∷ leaf_at 104 6 ∷ leaf_at 106 7 ∷ []

-- their row
pub four_4 : IsIdeal with_part_rows (InnerAt 2152) leaves_4 2120 (2152 ∷ 2159 ∷ 2166 ∷ [])
unfolding finish_of ref_of rows_within degree square_root root_up_to part_len part_lens ideal_words ideal_words_within
four_4 = of_more (over_two 4 7 17274 17330)
    (top_of 2152 (over_two 4 7 17274 17330) leaves_4 2120 refl (omega arith) (omega arith) refl refl refl refl refl)
    (one_part (InnerAt 2159) refl two_4 (one_part (InnerAt 2166) refl two_6 no_part))

-- keys 9 and 10
two_8 : IsIdeal with_part_rows (InnerAt 2180) (leaf_at 122 8 ∷ leaf_at 124 9 ∷ []) 2173 (2180 ∷ [])
unfolding finish_of ref_of rows_within degree square_root root_up_to part_len part_lens ideal_words ideal_words_within
two_8 = of_more (over_two 2 10 977 993)
    (top_of 2180 (over_two 2 10 977 993) (leaf_at 122 8 ∷ leaf_at 124 9 ∷ []) 2173 refl (omega arith) (omega arith) refl refl refl refl refl)
    (one_part (LeafAt 122) refl (of_one refl refl)
    (one_part (LeafAt 124) refl (of_one refl refl) no_part))

-- keys 11 and 12
two_10 : IsIdeal with_part_rows (InnerAt 2187)
    (leaf_at 133 10 ∷ leaf_at 135 11 ∷ []) 2173 (2187 ∷ [])
unfolding finish_of ref_of rows_within degree square_root root_up_to part_len part_lens ideal_words ideal_words_within
two_10 = of_more (over_two 2 12 1065 1081)
    (top_of 2187 (over_two 2 12 1065 1081) (leaf_at 133 10 ∷ leaf_at 135 11 ∷ []) 2173 refl (omega arith) (omega arith) refl refl refl refl refl)
    (one_part (LeafAt 133) refl (of_one refl refl)
    (one_part (LeafAt 135) refl (of_one refl refl) no_part))

-- the leaves of keys 9 to 12
abbrev pub leaves_8 : List PlacedLeaf
leaves_8 = leaf_at 122 8 ∷ leaf_at 124 9 ∷ leaf_at 133 10 ∷ leaf_at 135 11 ∷ []

-- their row
pub four_8 : IsIdeal with_part_rows (InnerAt 2173) leaves_8 2120 (2173 ∷ 2180 ∷ 2187 ∷ [])
unfolding finish_of ref_of rows_within degree square_root root_up_to part_len part_lens ideal_words ideal_words_within
four_8 = of_more (over_two 4 11 17442 17498)
    (top_of 2173 (over_two 4 11 17442 17498) leaves_8 2120 refl (omega arith) (omega arith) refl refl refl refl refl)
    (one_part (InnerAt 2180) refl two_8 (one_part (InnerAt 2187) refl two_10 no_part))

-- keys 13 and 14
two_12 : IsIdeal with_part_rows (InnerAt 2201)
    (leaf_at 151 12 ∷ leaf_at 153 13 ∷ []) 2194 (2201 ∷ [])
unfolding finish_of ref_of rows_within degree square_root root_up_to part_len part_lens ideal_words ideal_words_within
two_12 = of_more (over_two 2 14 1209 1225)
    (top_of 2201 (over_two 2 14 1209 1225) (leaf_at 151 12 ∷ leaf_at 153 13 ∷ []) 2194 refl (omega arith) (omega arith) refl refl refl refl refl)
    (one_part (LeafAt 151) refl (of_one refl refl)
    (one_part (LeafAt 153) refl (of_one refl refl) no_part))

-- keys 15 and 16
two_14 : IsIdeal with_part_rows (InnerAt 2208)
    (leaf_at 162 14 ∷ leaf_at 164 15 ∷ []) 2194 (2208 ∷ [])
unfolding finish_of ref_of rows_within degree square_root root_up_to part_len part_lens ideal_words ideal_words_within
two_14 = of_more (over_two 2 16 1297 1313)
    (top_of 2208 (over_two 2 16 1297 1313) (leaf_at 162 14 ∷ leaf_at 164 15 ∷ []) 2194 refl (omega arith) (omega arith) refl refl refl refl refl)
    (one_part (LeafAt 162) refl (of_one refl refl)
    (one_part (LeafAt 164) refl (of_one refl refl) no_part))

-- the leaves of keys 13 to 16
abbrev pub leaves_12 : List PlacedLeaf
leaves_12 = leaf_at 151 12 ∷ leaf_at 153 13 ∷ leaf_at 162 14 ∷ leaf_at 164 15 ∷ []

-- their row
pub four_12 : IsIdeal with_part_rows (InnerAt 2194) leaves_12 2120 (2194 ∷ 2201 ∷ 2208 ∷ [])
unfolding finish_of ref_of rows_within degree square_root root_up_to part_len part_lens ideal_words ideal_words_within
four_12 = of_more (over_two 4 15 17610 17666)
    (top_of 2194 (over_two 4 15 17610 17666) leaves_12 2120 refl (omega arith) (omega arith) refl refl refl refl refl)
    (one_part (InnerAt 2201) refl two_12 (one_part (InnerAt 2208) refl two_14 no_part))
