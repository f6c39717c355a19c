-- Shapes, the building lists of one rebuild, and each list once. Serves `shapes.rt`.
use Rattle.std.proofs.Common.{◌≡◌, ◌↔◌, ◌∙◌, ◌+◌, ◌-◌, ◌*◌, ◌<◌, ◌≤◌, ◌⊎◌, ℕ, zero, suc, Bool, true, false, nat_lt, if◌then◌else◌, List, [], ◌∷◌, ◌++◌, map, refl, sym, ap, subst, inl, inr, ⊎_elim, append_assoc, append-nil, length, take, length-append, arith}
use Rattle.std.proofs.lemmas.List.{take-append-le}
use Rattle.std.specs.BTreeSet.{BTreeSet}
use Rattle.std.specs.List.{flat_map, range_with_len}
use Rattle.std.proofs.lemmas.Bool.{cases_lt}
use Rattle.std.proofs.lemmas.Bool.Decides.{nat_tests}
use Rattle.std.proofs.lemmas.Grind.{flat_map-append}
use Rattle.std.proofs.lemmas.List.FromFn.{map-range_with_len_more}
use Rattle.ist_core.specs.WordTerms.{degree, part_len, part_lens, inner_words, shape, share_from}
use Rattle.ist_core.specs.LogTerms.{Among, IsBuild, build_whole, build_top, build_part}
use Rattle.ist_core.proofs.AllWordLemmas.{among-append, among_left, among_right, least_degree-le, part_len-long, part_len-short, shape_many}
use Rattle.check_fairness.specs.Answers.{Holds}
use Rattle.check_fairness.specs.Builds.{lists_of, AddsList, AddsLists, BeginsWith, HasShapes}

-- ---- shapes

-- the shapes of the first parts of a node
abbrev pub first_shapes : ℕ → ℕ → List ℕ
first_shapes n j = flat_map shape (map (part_len n) (range_with_len 0 j))

first_shapes_more : (n j : ℕ) → first_shapes n (j + 1) ≡ first_shapes n j ++ shape (part_len n j)
first_shapes_more n j =
    ap (flat_map shape) (map-range_with_len_more (part_len n) 0 j j (omega arith))
    ∙ flat_map-append shape (map (part_len n) (range_with_len 0 j)) (part_len n j ∷ [])
    ∙ ap (λ xs. first_shapes n j ++ xs) (append-nil (shape (part_len n j)))

-- the shape of one more part
pub shape_step : (n j len : ℕ) (base mid new : List ℕ) → mid ≡ base ++ first_shapes n j
    → new ≡ mid ++ shape len → len ≡ part_len n j → new ≡ base ++ first_shapes n (j + 1)
shape_step n j len base mid new e i l =
    i ∙ ap (λ xs. xs ++ shape len) e ∙ ap (λ k. (base ++ first_shapes n j) ++ shape k) l
    ∙ append_assoc base (first_shapes n j) (shape (part_len n j))
    ∙ ap (λ xs. base ++ xs) (sym (first_shapes_more n j))

-- the shapes of all parts after the node's own length
pub shape_whole : (n d j : ℕ) (old pushed out : List ℕ) → 2 ≤ n → d ≡ degree n → j ≡ d
    → pushed ≡ old ++ (2 * d + 3) ∷ [] → out ≡ pushed ++ first_shapes n j → out ≡ old ++ shape n
unfolding part_lens
shape_whole n d j old pushed out h e i p o =
    o ∙ ap (λ xs. xs ++ first_shapes n j) p ∙ append_assoc old ((2 * d + 3) ∷ []) (first_shapes n j)
    ∙ ap (λ k. old ++ (2 * d + 3) ∷ first_shapes n k) (i ∙ e)
    ∙ ap (λ k. old ++ (2 * k + 3) ∷ first_shapes n (degree n)) e
    ∙ ap (λ xs. old ++ xs) (sym (shape_many n h))

-- ---- the lists of one rebuild

-- a part is as long as the first one or as the last one
part_first_or_last : (k j : ℕ) → j < degree k
    → (part_len k j ≡ part_len k 0) ⊎ (part_len k j ≡ part_len k (degree k - 1))
part_first_or_last k j h = grind (arith, part_len-long, part_len-short, cases_lt)

-- a list of k keys is a build of them
pub listed_build : (k : ℕ) (l : List ℕ) → Among l (lists_of k) → IsBuild k l
listed_build k l h = small (nat_lt k 2) refl h
  where
    large : (b : Bool) → nat_lt k share_from ≡ b → 2 ≤ k
        → Among l (if b then shape k ∷ [] else (inner_words (degree k) ∷ []) ∷ shape (part_len k 0)
        ∷ shape (part_len k (degree k - 1)) ∷ []) → IsBuild k l
    large true i n (inl x) = subst (IsBuild k) (sym x) (build_whole n (grind (arith, nat_tests)))
    large true i n (inr x) = absurd x
    large false i n (inl x) = subst (IsBuild k) (sym x) (build_top (grind (arith, nat_tests)))
    large false i n (inr (inl x)) = let least = least_degree-le k in subst (IsBuild k) (sym x)
        (build_part 0 (grind (arith, nat_tests)) (omega arith))
    large false i n (inr (inr (inl x))) = let least = least_degree-le k in subst (IsBuild k) (sym x)
        (build_part (degree k - 1) (grind (arith, nat_tests)) (omega arith))
    large false i n (inr (inr (inr x))) = absurd x

    small : (b : Bool) → nat_lt k 2 ≡ b
        → Among l (if b then [] else (if nat_lt k share_from then shape k ∷ [] else
        (inner_words (degree k) ∷ []) ∷ shape (part_len k 0) ∷ shape (part_len k (degree k - 1))
        ∷ [])) → IsBuild k l
    small true i x = absurd x
    small false i x = large (nat_lt k share_from) refl (grind (arith, nat_tests)) x

in_lists : (k : ℕ) (l : List ℕ) (a b : Bool) → nat_lt k 2 ≡ a → nat_lt k share_from ≡ b
    → Among l (if a then [] else (if b then shape k ∷ [] else (inner_words (degree k) ∷ []) ∷ shape
    (part_len k 0) ∷ shape (part_len k (degree k - 1)) ∷ []))
    → Among l (lists_of k)
in_lists k l a b e i h = rw (e, i) h

-- a build of k keys has one of the building lists for k
pub build_listed : (k : ℕ) (l : List ℕ) → 2 ≤ share_from → IsBuild k l → Among l (lists_of k)
build_listed k _ two (build_whole n m) = grind (arith, in_lists, nat_tests)
build_listed k _ two (build_top n) = grind (arith, in_lists, nat_tests)
build_listed k _ two (build_part j n m) = grind (arith, in_lists, nat_tests, part_first_or_last)

-- ---- each list once

begins_same : (xs : List (List ℕ)) → BeginsWith xs xs
begins_same xs m h = (h, refl)

begins_both : (old mid new : List (List ℕ)) → BeginsWith old mid → BeginsWith mid new
    → BeginsWith old new
begins_both old mid new a b m h = grind arith

begins_pushed : (xs new : List (List ℕ)) (n : List ℕ) → new ≡ xs ++ n ∷ [] → BeginsWith xs new
begins_pushed xs new n e m h =
    let longer : length new ≡ length xs + 1 = ap length e ∙ length-append xs (n ∷ []) in
    (omega arith, ap (take m) e ∙ take-append-le m xs (n ∷ []) h)

-- what is among them needn't be added
pub list_known : (xs : List (List ℕ)) (n : List ℕ) → Among n xs → AddsList xs xs n
list_known xs n a = grind (arith, begins_same)

-- a list that was pushed was added
pub list_pushed : (xs new : List (List ℕ)) (n : List ℕ) → new ≡ xs ++ n ∷ [] → AddsList xs new n
list_pushed xs new n e = record {
  among = λ x. subst (λ ys. Among x ys ↔ (Among x xs ⊎ (x ≡ n))) (sym e) (
    (λ a. ⊎_elim inl (λ c. inr (⊎_elim (λ i. i) (λ none. absurd none) c))
        (among-append x xs (n ∷ []) a)),
    (λ h. ⊎_elim (among_left x xs (n ∷ [])) (λ i. among_right x xs (n ∷ []) (inl i)) h),
  );
  following = begins_pushed xs new n e;
}

-- adding a list is adding an equal one
pub adds_same : (old new : List (List ℕ)) (a b : List ℕ) → a ≡ b → AddsList old new a → AddsList old new b
adds_same old new a b e adds = subst (AddsList old new) e adds

-- ---- what the code adds

lists_few : (k : ℕ) → k < 2 → [] ≡ lists_of k
lists_few k n = let a : nat_lt k 2 ≡ true = grind (arith, nat_tests) in rw a refl

lists_small : (k : ℕ) → 2 ≤ k → k < share_from → shape k ∷ [] ≡ lists_of k
lists_small k n m = grind (arith, nat_tests)

lists_large : (k : ℕ) → 2 ≤ k → share_from ≤ k
    → (inner_words (degree k) ∷ []) ∷ shape (part_len k 0) ∷ shape (part_len k (degree k - 1)) ∷ []
    ≡ lists_of k
lists_large k n m = grind (arith, nat_tests)

-- of fewer than two keys there are none
pub adds_none : (k : ℕ) → k < 2 → (lists : List (List ℕ)) → AddsLists lists lists k
adds_none k n lists = grind (arith, lists_few, begins_same)

-- of few keys there is one
pub adds_one : (k : ℕ) → 2 ≤ k → k < share_from → (old new : List (List ℕ))
    → AddsList old new (shape k) → AddsLists old new k
adds_one k n m old new adds = grind (arith, lists_small)

-- for many keys there are only the top row, and the shapes of the first part and of the last
pub adds_three : (k d first last : ℕ) (old mid next new : List (List ℕ)) → 2 ≤ k → share_from ≤ k
    → d ≡ degree k → first ≡ part_len k 0 → last ≡ part_len k (d - 1)
    → AddsList old mid (inner_words d ∷ []) → AddsList mid next (shape first)
    → AddsList next new (shape last) → AddsLists old new k
adds_three k d first last old mid next new n m e f g top one two =
    grind (arith, lists_large, begins_both)

-- ---- shapes that are there

-- they are there still among more lists
pub shapes_kept : (shapes : BTreeSet ℕ) (old new : List (List ℕ)) (n : List ℕ) → AddsList old new n
    → HasShapes shapes old → HasShapes shapes new
shapes_kept shapes old new n adds has m h = (adds.among (shape m)).1 (inl (has m h))

-- and the shape that was added is there too
pub shapes_more : (before following : BTreeSet ℕ) (old new : List (List ℕ)) (n : ℕ)
    → ((q : ℕ) → Holds following q ↔ (Holds before q ⊎ (q ≡ n))) → AddsList old new (shape n)
    → HasShapes before old → HasShapes following new
shapes_more before following old new n held adds has m h = grind arith
