-- Distinct numbers: in lists put one after another, in parts of them, and sorted. Serves `gather`,
-- `open_tasks` and the law of lanes that can be gathered.
use Rattle.std.proofs.Common.{◌≡◌, inl, inr, ◌+◌, ◌<◌, ℕ, suc, false, List, [], ◌∷◌, ◌++◌, length, map, get_or, eqb, sym, subst, ◌∙◌, refl, arith, All, AllPairs, Contains}
use Rattle.std.specs.List.{flat_map, IsDistinct}
use Rattle.std.specs.List.Sorted.{IsPermutation, IsNonDecreasing, IsNonDecreasingBy, IsStrictlyIncreasing}
use Rattle.std.proofs.lemmas.Bool.{ne_eqb, eqb-true, eqb-false, eq-eqb}
use Rattle.std.proofs.lemmas.List.{get_or-map, length-map, length-append, get_or_append_left, get_or-append-add}
use Rattle.std.proofs.lemmas.List.Elements.{All-head, All-tail, All-append, All-from_recursion, recursion_from_All, Contains-get_or, Contains-append_left, Contains-append_right, Contains-append_cases}
use Rattle.std.proofs.lemmas.List.Sorted.{IsPermutation-map}
use Rattle.std.proofs.lemmas.List.Kept.{AllPairs-from_increasing}
use Rattle.std.proofs.lemmas.Map.Keys.{IsDistinct-head, IsDistinct-tail, IsDistinct-cons, IsDistinct-from_apart, IsDistinct-IsPermutation, IsStrictlyIncreasing-from_distinct, apart_from_distinct}

-- no number is in both lists
abbrev pub ShareNoNumber : List ℕ → List ℕ → Type 0
ShareNoNumber xs ys = (x : ℕ) → Contains xs x → ¬ (Contains ys x)

-- an element of the rest
pub Contains-later : {X : Type 0} (y : X) (xs : List X) (x : X) → Contains xs x
    → Contains (y ∷ xs) x
Contains-later y xs x (k, h, e) = (suc k, omega arith, e)

-- eqb is symmetric
pub eqb-flip : (x y : ℕ) → eqb x y ≡ eqb y x
eqb-flip x y = grind (arith, eq-eqb, eqb-true, ne_eqb, eqb-false)

-- strictly increasing numbers are distinct
pub IsDistinct-from_increasing : (xs : List ℕ) → IsStrictlyIncreasing xs → IsDistinct eqb xs
IsDistinct-from_increasing xs up =
    grind (arith, IsDistinct-from_apart, ne_eqb, AllPairs-from_increasing)

-- ---- one list after another

-- two lists that are each distinct, and apart, are distinct together
pub IsDistinct-append : (xs ys : List ℕ) → IsDistinct eqb xs → IsDistinct eqb ys → ShareNoNumber xs ys
    → IsDistinct eqb (xs ++ ys)
IsDistinct-append [] ys one two apart = two
IsDistinct-append (x ∷ xs) ys one two apart = let P = λ (y : ℕ). eqb x y ≡ false in
    let left : All P xs = All-from_recursion P xs (IsDistinct-head eqb x xs one) in
    let right : All P ys = λ k d h. ne_eqb x (get_or ys k d)
    (λ e. apart x (0, omega arith, refl)
    (subst (λ y. Contains ys y) (sym e) (Contains-get_or ys k d h))) in
    IsDistinct-cons eqb x (xs ++ ys)
    (recursion_from_All P (xs ++ ys) (All-append P xs ys left right))
    (IsDistinct-append xs ys (IsDistinct-tail eqb x xs one) two
    (λ y c. apart y (Contains-later x xs y c)))

-- if two lists are distinct together, the first is distinct
pub IsDistinct-front : (xs ys : List ℕ) → IsDistinct eqb (xs ++ ys) → IsDistinct eqb xs
IsDistinct-front [] ys all = IsDistinct-from_increasing [] (λ k h. absurd (omega arith))
IsDistinct-front (x ∷ xs) ys all = let P = λ (y : ℕ). eqb x y ≡ false in
    let each : All P (xs ++ ys)
    = All-from_recursion P (xs ++ ys) (IsDistinct-head eqb x (xs ++ ys) all) in
    IsDistinct-cons eqb x xs
    (recursion_from_All P xs (λ k d h. subst P (get_or_append_left xs ys d k h)
    (each k d (omega (arith, length-append xs ys)))))
    (IsDistinct-front xs ys (IsDistinct-tail eqb x (xs ++ ys) all))

-- if two lists are distinct together, the second is distinct
pub IsDistinct-back : (xs ys : List ℕ) → IsDistinct eqb (xs ++ ys) → IsDistinct eqb ys
IsDistinct-back [] ys all = all
IsDistinct-back (x ∷ xs) ys all = IsDistinct-back xs ys (IsDistinct-tail eqb x (xs ++ ys) all)

-- if two lists are distinct together, they are apart
pub Apart-from_distinct : (xs ys : List ℕ) → IsDistinct eqb (xs ++ ys) → ShareNoNumber xs ys
Apart-from_distinct xs ys all n (i, h, e) (j, k, f) =
    let here : get_or (xs ++ ys) i n ≡ n = get_or_append_left xs ys n i h ∙ e in
    let there : get_or (xs ++ ys) (length xs + j) n ≡ n = get_or-append-add xs ys j n ∙ f in
    let differ : eqb (get_or (xs ++ ys) i n) (get_or (xs ++ ys) (length xs + j) n) ≡ false
    = apart_from_distinct eqb (xs ++ ys) i (length xs + j) n all (omega arith)
    (omega (arith, length-append xs ys)) in
    eqb-false n n (subst (λ y. eqb n y ≡ false) there
    (subst (λ x. eqb x (get_or (xs ++ ys) (length xs + j) n) ≡ false) here differ)) refl

-- strictly increasing lists that are apart are distinct together
pub IsDistinct-flat_map : {X : Type 0} (f : X → List ℕ) (xs : List X)
    → All (λ x. IsStrictlyIncreasing (f x)) xs → AllPairs (λ x y. ShareNoNumber (f x) (f y)) xs
    → IsDistinct eqb (flat_map f xs)
IsDistinct-flat_map {X = X} f [] up apart = grind (arith, IsDistinct-from_increasing)
IsDistinct-flat_map {X = X} f (x ∷ xs) up apart = IsDistinct-append (f x) (flat_map f xs)
    (IsDistinct-from_increasing (f x) (All-head (λ y. IsStrictlyIncreasing (f y)) x xs up))
    (IsDistinct-flat_map f xs (All-tail (λ y. IsStrictlyIncreasing (f y)) x xs up)
    (λ i j d lt h. apart (suc i) (suc j) d (omega arith) (omega arith)))
    (together xs (λ k d h. apart 0 (suc k) d (omega arith) (omega arith)))
  where
    -- a list apart from each is apart from all together
    together : (ys : List X) → All (λ y. ShareNoNumber (f x) (f y)) ys → ShareNoNumber (f x) (flat_map f ys)
    together [] each n here (k, h, e) = absurd (omega arith)
    together (y ∷ ys) each n here there =
        elim (Contains-append_cases (f y) (flat_map f ys) n there) [
          | inl c ↦ All-head (λ z. ShareNoNumber (f x) (f z)) y ys each n here c
          | inr c ↦ together ys (All-tail (λ z. ShareNoNumber (f x) (f z)) y ys each) n here c
        ]

-- ---- a piece of each of some lists

-- the first list is a piece of the second
pub record IsPieceOf (piece xs : List ℕ) : Type 0 where
  pub front : List ℕ
  pub back : List ℕ
  pub is : xs ≡ (front ++ piece) ++ back

-- what is in the piece is in the list
pub Contains-piece : (piece xs : List ℕ) → IsPieceOf piece xs → (n : ℕ) → Contains piece n
    → Contains xs n
Contains-piece piece xs p n c = subst (λ l. Contains l n) (sym p.is)
    (Contains-append_left (p.front ++ piece) p.back n (Contains-append_right p.front piece n c))

module _ {X : Type 0} (f g : X → List ℕ) where
  -- what is in pieces of lists is in the lists
  pub Contains-pieces : (xs : List X) → All (λ x. IsPieceOf (g x) (f x)) xs → (n : ℕ)
      → Contains (flat_map g xs) n → Contains (flat_map f xs) n
  Contains-pieces [] pieces n c = c
  Contains-pieces (x ∷ xs) pieces n c =
      elim (Contains-append_cases (g x) (flat_map g xs) n c) [
        | inl here ↦ Contains-append_left (f x) (flat_map f xs) n
            (Contains-piece (g x) (f x) (All-head (λ y. IsPieceOf (g y) (f y)) x xs pieces) n here)
        | inr there ↦ Contains-append_right (f x) (flat_map f xs) n
            (Contains-pieces xs (All-tail (λ y. IsPieceOf (g y) (f y)) x xs pieces) n there)
      ]

  -- pieces of lists that are distinct together are so too
  pub IsDistinct-pieces : (xs : List X) → All (λ x. IsPieceOf (g x) (f x)) xs
      → IsDistinct eqb (flat_map f xs) → IsDistinct eqb (flat_map g xs)
  IsDistinct-pieces [] pieces all = all
  IsDistinct-pieces (x ∷ xs) pieces all =
      let rest = All-tail (λ y. IsPieceOf (g y) (f y)) x xs pieces in
      let p : IsPieceOf (g x) (f x) = All-head (λ y. IsPieceOf (g y) (f y)) x xs pieces in
      IsDistinct-append (g x) (flat_map g xs)
      (IsDistinct-back p.front (g x)
      (IsDistinct-front (p.front ++ g x) p.back
      (subst (IsDistinct eqb) p.is (IsDistinct-front (f x) (flat_map f xs) all))))
      (IsDistinct-pieces xs rest (IsDistinct-back (f x) (flat_map f xs) all))
      (λ n here there. Apart-from_distinct (f x) (flat_map f xs) all n
      (Contains-piece (g x) (f x) p n here) (Contains-pieces xs rest n there))

-- ---- sorted by distinct numbers

module _ {A : Type 0} (n : A → ℕ) where
  -- the numbers of elements that are sorted by them don't fall
  IsNonDecreasing-map : (xs : List A) → IsNonDecreasingBy n xs → IsNonDecreasing (map n xs)
  IsNonDecreasing-map [] up i j d le lt = absurd (omega arith)
  IsNonDecreasing-map (x ∷ xs) up i j d le lt =
      let within : j < length (x ∷ xs) = omega (arith, length-map xs n) in
      rw (get_or-map n (x ∷ xs) i x d (omega arith), get_or-map n (x ∷ xs) j x d within)
      (up i j x le within)

  -- elements of distinct numbers, sorted by these, are strictly increasing
  pub sorted_rises : (xs ys : List A) → IsDistinct eqb (map n xs) → IsPermutation xs ys
      → IsNonDecreasingBy n ys → IsStrictlyIncreasing (map n ys)
  sorted_rises xs ys apart same up =
      IsStrictlyIncreasing-from_distinct (map n ys) (IsNonDecreasing-map ys up)
      (IsDistinct-IsPermutation eqb eqb-flip (map n xs) (map n ys)
      (IsPermutation-map n xs ys same) apart)
