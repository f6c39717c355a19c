-- The leaves of a part of a node, and its first key. Serves `building`.
use Rattle.std.proofs.Common.{◌≡◌, ◌≢◌, ℕ, zero, suc, ◌+◌, ◌-◌, ◌<◌, ◌≤◌, List, [], ◌∷◌, ◌++◌, length, take, drop, Some, refl, sym, ap, ap₂, ◌∙◌, arith}
use Rattle.std.proofs.lemmas.List.{take-map, drop-map, length-take-le, length-drop, length-map}
use Rattle.ist_core.specs.WordTerms.{degree, part_len, part_start, first_keys, Leaf, inner_words}
use Rattle.ist_core.specs.LogTerms.{Each, Snapshot}
use Rattle.ist_core.specs.TreeTerms.{PlacedLeaf}
use Rattle.ist_core.proofs.AllLogLemmas.{leaf_there}
use Rattle.ist_core.proofs.AllWordLemmas.{part_end-le}
use Rattle.ist_rule.specs.RuleTerms.{own_at, now}
use Rattle.ist_rule.specs.declared.view.OwnWord.{OwnWord}
use Rattle.ist_rule.specs.declared.view.View.{View}
use Rattle.ist_build.specs.Laying.{BuiltOn, ArePlaced}
use Rattle.laws_calls.specs.Dividing.{parts_to, share_of}
use Rattle.laws_calls.proofs.PartLemmas.{keys_next}
use Rattle.ist_build.specs.Midway.{setting, words_at}
use Rattle.ist_build.proofs.BuiltLemmas.{built_grow}
use Rattle.ist_build.proofs.LayingLemmas.{words_at_more, words_at_same}
use Rattle.ist_build.proofs.RowOpenedLemmas.{at_key}

-- what holds for each element holds for each after the first n
pub each_drop : {A : Type 0} (P : A → Type 0) (n : ℕ) (xs : List A) → Each P xs → Each P (drop n xs)
each_drop P zero xs h = h
each_drop P (suc n) [] h = tt
each_drop P (suc n) (x ∷ xs) h = each_drop P n xs h.1

-- what holds for each element holds for each of the first n
pub each_take : {A : Type 0} (P : A → Type 0) (n : ℕ) (xs : List A) → Each P xs → Each P (take n xs)
each_take P zero xs h = tt
each_take P (suc n) [] h = tt
each_take P (suc n) (x ∷ xs) h = (h.0, each_take P n xs h.1)

-- leaves that are published in a view are published in each view that was built on it
pub published_on : (v w : View) → BuiltOn v w → (leaves : List PlacedLeaf)
    → Each (λ leaf. (now v).pieces leaf.base ≡ Some (Leaf leaf.row)) leaves
    → Each (λ leaf. (now w).pieces leaf.base ≡ Some (Leaf leaf.row)) leaves
published_on v w b [] h = tt
published_on v w b (leaf ∷ leaves) h = (
  leaf_there (now v).pieces (now w).pieces (built_grow v w b) leaf.base leaf.row h.0,
  published_on v w b leaves h.1,
)

-- the leaves at the bases of a part are the part of the leaves, in a later view too
pub part_placed : (v w : View) → BuiltOn v w → (n j : ℕ) (bases : List ℕ)
    (leaves : List PlacedLeaf) → ArePlaced (now v) bases leaves
    → ArePlaced (now w) (share_of n j bases) (share_of n j leaves)
part_placed v w b n j bases leaves a = record {
  bases_are = sym (take-map (λ (leaf : PlacedLeaf). leaf.base) (part_len n j)
      (drop (part_start n j) leaves))
      ∙ ap (take (part_len n j)) (sym (drop-map (λ (leaf : PlacedLeaf). leaf.base)
      (part_start n j) leaves) ∙ ap (drop (part_start n j)) a.bases_are);
  published = published_on v w b (share_of n j leaves)
      (each_take _ (part_len n j) (drop (part_start n j) leaves)
      (each_drop _ (part_start n j) leaves a.published));
}

-- the share of child j of an ideal node has `part_len` elements
pub length-share_of : {A : Type 0} (n j : ℕ) (xs : List A) → length xs ≡ n → j < degree n
    → length (share_of n j xs) ≡ part_len n j
length-share_of n j xs many less = grind (arith, part_end-le, length-drop, length-take-le)

-- a list with an element has a first one
pub some_first : {A : Type 0} (xs : List A) → 1 ≤ length xs → (x : A) × (ys : List A) × (xs ≡ x ∷ ys)
some_first [] some = absurd (omega arith)
some_first (x ∷ xs) some = (x, xs, refl)

-- ---- its first key

-- when the word and the key of a part are stored in a half-built row, the row has the first keys of one
-- part more
pub keys_set : (own : List OwnWord) (c : View) (base d j key word : ℕ) → j < d
    → (t : Snapshot) (leaves : List ℕ) (placed : List PlacedLeaf) → ArePlaced t leaves placed
    → d ≡ degree (length leaves) → 1 ≤ part_len (length leaves) j
    → ((p : ℕ) → p < base + inner_words d → p ≢ base + 3 + d + j → (1 ≤ j → p ≢ base + 3 + j)
    → own_at (setting c base d j key word).own p ≡ own_at own p)
    → words_at own (base + 4) (j - 1)
    ≡ first_keys (λ (leaf : PlacedLeaf). leaf.row.key) (drop 1 (parts_to (length leaves) j placed))
    → ((leaf : PlacedLeaf) (others : List PlacedLeaf)
    → share_of (length leaves) j placed ≡ leaf ∷ others → key ≡ leaf.row.key)
    → words_at (setting c base d j key word).own (base + 4) (j + 1 - 1)
    ≡ first_keys (λ (leaf : PlacedLeaf). leaf.row.key)
    (drop 1 (parts_to (length leaves) (j + 1) placed))
keys_set own c base d j key word less t leaves placed a degree_is some stays before key_is = at j refl
  where
    n : ℕ
    n = length leaves

    words : List OwnWord
    words = (setting c base d j key word).own

    first_part : (leaf : PlacedLeaf) × (others : List PlacedLeaf)
        × (share_of (length leaves) j placed ≡ leaf ∷ others)
    first_part = grind (arith, length-map, length-share_of, some_first)

    at : (i : ℕ) → i ≡ j → words_at (setting c base d j key word).own (base + 4) (i + 1 - 1)
        ≡ first_keys (λ (leaf : PlacedLeaf). leaf.row.key)
        (drop 1 (parts_to (length leaves) (i + 1) placed))
    at zero e = refl
    at (suc i) e = let one : 1 ≤ j = omega arith in let it = first_part in
        let place : base + 4 + (j - 1) ≡ base + 3 + j = omega arith in
        ap (words_at words (base + 4)) (let q : suc i + 1 - 1 ≡ j - 1 + 1 = omega arith in q)
        ∙ words_at_more words (base + 4) (j - 1)
        ∙ ap₂ (λ xs x. xs ++ x ∷ [])
        (words_at_same words own (base + 4) (j - 1)
        (λ p low high. stays p (omega arith) (λ f. omega arith) (λ g f. omega arith))
        ∙ before)
        (ap (own_at words) place ∙ at_key c base d j key word less one ∙ key_is it.0 it.1 it.2)
        ∙ sym (keys_next n j placed it.0 it.1 one it.2)
        ∙ ap (λ k. first_keys (λ (leaf : PlacedLeaf). leaf.row.key)
        (drop 1 (parts_to (length leaves) (k + 1) placed))) (sym e)
