-- A row keeps its length, and each reserved row has a word. Serves `laws.rows_are_known`.
use Rattle.std.proofs.Common.{◌≡◌, ℕ, zero, suc, ◌-◌, ◌<◌, List, [], ◌∷◌, ◌++◌, length, slice_set, Option, Some, None, refl, arith, length-append}
use Rattle.std.proofs.lemmas.List.{length-set, take-append-drop}
use Rattle.std.specs.List.{flat_map}
use Rattle.ist_core.specs.WordTerms.{degree, part_len, part_lens, shape, shape_within, Piece, Leaf, Inner, Change, Rebuild, size_of, inner_of, with_slot, with_status, with_decision, with_root, counted, drawn}
use Rattle.ist_core.specs.LogTerms.{Among, Each, Snapshot, IsFair, AreBuilds, no_build, last_build, stuck_build, IsBuild, build_whole, build_top, build_part, IsMerge, at_end, from_left, from_right, spare_sizes}
use Rattle.ist_core.proofs.OptionLemmas.{each_append, each-append, each-among}

-- ---- changed rows

-- writing a slot leaves the size of a row
pub size_of-with_slot : (i word : ℕ) (p : Piece) → size_of (with_slot i word p) ≡ size_of p
size_of-with_slot i word (Leaf r) = refl
size_of-with_slot i word (Inner r) =
    omega (
      arith,
      length-append r.keys (slice_set r.slots i word),
      length-append r.keys r.slots,
      length-set r.slots i word,
    )
size_of-with_slot i word (Change r) = refl
size_of-with_slot i word (Rebuild r) = refl

-- writing a status leaves the size of a row
pub size_of-with_status : (status : ℕ) (p : Piece) → size_of (with_status status p) ≡ size_of p
size_of-with_status status (Leaf r) = refl
size_of-with_status status (Inner r) = refl
size_of-with_status status (Change r) = refl
size_of-with_status status (Rebuild r) = refl

-- writing a decision leaves the size of a row
pub size_of-with_decision : (decision : ℕ) (p : Piece)
    → size_of (with_decision decision p) ≡ size_of p
size_of-with_decision decision (Leaf r) = refl
size_of-with_decision decision (Inner r) = refl
size_of-with_decision decision (Change r) = refl
size_of-with_decision decision (Rebuild r) = refl

-- writing a root leaves the size of a row
pub size_of-with_root : (word : ℕ) (p : Piece) → size_of (with_root word p) ≡ size_of p
size_of-with_root word (Leaf r) = refl
size_of-with_root word (Inner r) = refl
size_of-with_root word (Change r) = refl
size_of-with_root word (Rebuild r) = refl

-- counting a change leaves the size of a row
pub size_of-counted : (p : Piece) → size_of (counted p) ≡ size_of p
size_of-counted (Leaf r) = refl
size_of-counted (Inner r) = refl
size_of-counted (Change r) = refl
size_of-counted (Rebuild r) = refl

-- drawing a part leaves the size of a row
pub size_of-drawn : (p : Piece) → size_of (drawn p) ≡ size_of p
size_of-drawn (Leaf r) = refl
size_of-drawn (Inner r) = refl
size_of-drawn (Change r) = refl
size_of-drawn (Rebuild r) = refl

-- ---- rows that are read from words

-- how many words the row has, if there is one
size_in : Option Piece → ℕ
size_in (Some p) = size_of p
size_in None = 0

-- an inner row has the number of words that it was read from
pub size_of-inner_of : (words : List ℕ) (p : Piece) → inner_of words ≡ Some p
    → size_of p ≡ length words
unfolding size_in
size_of-inner_of [] p e = absurd (cc)
size_of-inner_of (a ∷ []) p e = absurd (cc)
size_of-inner_of (a ∷ b ∷ []) p e = absurd (cc)
size_of-inner_of (a ∷ b ∷ c ∷ []) p e = absurd (cc)
size_of-inner_of (status ∷ count ∷ degree ∷ size ∷ rest) p e = grind (arith, take-append-drop)

-- ---- reserved sizes

abbrev Positive : List ℕ → Type 0
Positive sizes = Each (λ size. 0 < size) sizes

flat_positive : (f : ℕ → List ℕ) → ((n : ℕ) → Positive (f n)) → (ns : List ℕ)
    → Positive (flat_map f ns)
flat_positive f h [] = tt
flat_positive f h (n ∷ ns) = each_append (λ size. 0 < size) (f n) (flat_map f ns) (h n)
    (flat_positive f h ns)

shape_positive : (fuel n : ℕ) → Positive (shape_within fuel n)
unfolding shape_within
shape_positive fuel zero = tt
shape_positive fuel (suc zero) = tt
shape_positive zero (suc (suc n)) = tt
shape_positive (suc fuel) (suc (suc n)) = (
  omega arith,
  flat_positive (shape_within fuel) (λ k. shape_positive fuel k) (part_lens (suc (suc n))),
)

build_positive : (k : ℕ) (sizes : List ℕ) → IsBuild k sizes → Positive sizes
unfolding shape
build_positive k _ (build_whole two few) = shape_positive k k
build_positive k _ (build_top many) = (omega arith, tt)
build_positive k _ (build_part j many below) = shape_positive (part_len k j) (part_len k j)

builds_positive : (t : Snapshot) (sizes : List ℕ) → AreBuilds t sizes → Positive sizes
builds_positive t _ no_build = tt
builds_positive t _ (last_build {sizes = sizes} rest h) =
    (each-append (λ size. 0 < size) sizes rest (build_positive h.k (sizes ++ rest) h.build)).0
builds_positive t _ (stuck_build {sizes = sizes} {more = more} s h) =
    let whole = build_positive s.building.k (sizes ++ s.next_size ∷ s.rest) s.building.build in
    each_append (λ size. 0 < size) sizes more
    (each-append (λ size. 0 < size) sizes (s.next_size ∷ s.rest) whole).0 (builds_positive t more h)

merge_positive : (sizes left right : List ℕ) → IsMerge sizes left right → Positive left
    → Positive right → Positive sizes
merge_positive _ _ _ at_end l r = tt
merge_positive _ _ _ (from_left {sizes = s} {left = a} {right = b} size h) l r =
    (l.0, merge_positive s a b h l.1 r)
merge_positive _ _ _ (from_right {sizes = s} {left = a} {right = b} size h) l r =
    (r.0, merge_positive s a b h l r.1)

spare_positive : (sizes : List ℕ) → Each (λ size. Among size spare_sizes) sizes → Positive sizes
spare_positive [] h = tt
spare_positive (size ∷ sizes) h = (
  each-among (λ n. 0 < n) size spare_sizes
      (omega arith, (omega arith, (omega arith, (omega arith, tt)))) h.0,
  spare_positive sizes
      h.1,
)

-- fair sizes are above 0
pub fair_positive : (t : Snapshot) (sizes : List ℕ) → IsFair t sizes → Positive sizes
fair_positive t sizes f = grind (arith, merge_positive, builds_positive, spare_positive)
