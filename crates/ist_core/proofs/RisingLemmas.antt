-- Lists with strictly increasing keys, cut into parts: the child for a key among the first keys of
-- the parts. Serves the order law.
use Rattle.std.proofs.Common.{◌≡◌, ℕ, zero, suc, ◌+◌, ◌<◌, ◌≤◌, ◌⊎◌, nat_le, true, false, cond, List, [], ◌∷◌, ◌++◌, length, take, drop, slice_get, Some, refl, sym, ap, ◌∙◌, subst, inl, inr, ⊎_elim, arith, length-drop}
use Rattle.std.proofs.lemmas.Bool.Decides.{leb_tells}
use Rattle.std.proofs.lemmas.List.{length-take-le}
use Rattle.std.proofs.lemmas.List.Sums.{sum_by-cons}
use Rattle.std.specs.List.{sum}
use Rattle.ist_core.specs.WordTerms.{child_count, cut, parts, first_keys}
use Rattle.ist_core.specs.LogTerms.{Among, Each}
use Rattle.ist_core.proofs.OptionLemmas.{each_append, each-among}
use Rattle.ist_core.proofs.PartLemmas.{sum-part_lens}
use Rattle.ist_core.proofs.LayoutLemmas.{AllSome, part_lens_some}

-- ---- the child for a key

-- a key that is at most the one looked for counts once more
pub child_count-low : (k : ℕ) (ks : List ℕ) (x : ℕ) → k ≤ x
    → child_count (k ∷ ks) x ≡ child_count ks x + 1
child_count-low k ks x h = at (leb_tells k x) (sum_by-cons (λ key. cond (nat_le key x) 1 0) k ks)
  where
    at : ((nat_le k x ≡ true) × (k ≤ x)) ⊎ ((nat_le k x ≡ false) × (x < k))
        → child_count (k ∷ ks) x ≡ cond (nat_le k x) 1 0 + child_count ks x
        → child_count (k ∷ ks) x ≡ child_count ks x + 1
    at (inl e) f = grind arith
    at (inr e) f = let high = e.1 in absurd (omega arith)

-- a key above the one looked for doesn't count
pub child_count-high : (k : ℕ) (ks : List ℕ) (x : ℕ) → x < k
    → child_count (k ∷ ks) x ≡ child_count ks x
child_count-high k ks x h = grind (arith, leb_tells, sum_by-cons)

-- if each key is above x, the child for x is the first
pub child_count-none : (ks : List ℕ) (x : ℕ) → Each (λ k. x < k) ks → child_count ks x ≡ 0
child_count-none [] x h = refl
child_count-none (k ∷ ks) x h = child_count-high k ks x h.0 ∙ child_count-none ks x h.1

-- a greater key has no earlier child
child_count_rises : (ks : List ℕ) (x y : ℕ) → x ≤ y → child_count ks x ≤ child_count ks y
child_count_rises [] x y h = omega arith
child_count_rises (k ∷ ks) x y h = at (leb_tells k x) (leb_tells k y) (child_count_rises ks x y h)
  where
    at : ((nat_le k x ≡ true) × (k ≤ x)) ⊎ ((nat_le k x ≡ false) × (x < k))
        → ((nat_le k y ≡ true) × (k ≤ y)) ⊎ ((nat_le k y ≡ false) × (y < k))
        → child_count ks x ≤ child_count ks y → child_count (k ∷ ks) x ≤ child_count (k ∷ ks) y
    at (inl e) (inl f) rest = let one = child_count-low k ks x e.1 in let two = child_count-low k ks
        y f.1 in omega arith
    at (inl e) (inr f) rest = let low = e.1 in let high = f.1 in absurd (omega arith)
    at (inr e) (inl f) rest = let one = child_count-high k ks x e.1 in let two = child_count-low k
        ks y f.1 in omega arith
    at (inr e) (inr f) rest = grind (arith, child_count-high)

-- a key of an earlier child is smaller
pub child_count_tells : (ks : List ℕ) (x y : ℕ) → child_count ks x < child_count ks y → x < y
child_count_tells ks x y h =
    ⊎_elim (λ e. let more = child_count_rises ks y x e.1 in absurd (omega arith)) (λ e. e.1)
    (leb_tells y x)

-- ---- strictly increasing lists

module _ {A : Type 0} (key : A → ℕ) where
  -- the keys are strictly increasing: each is below all later ones
  abbrev pub AreRisingKeys : List A → Type 0
  AreRisingKeys [] = Unit {0}
  AreRisingKeys (x ∷ xs) = Each (λ y. key x < key y) xs × AreRisingKeys xs

  -- each key of the first list is below each of the second
  abbrev pub AllBelow : List A → List A → Type 0
  AllBelow xs ys = Each (λ x. Each (λ y. key x < key y) ys) xs

  -- two strictly increasing lists, the first below the second, are strictly increasing together
  pub rises_append : (xs ys : List A) → AreRisingKeys xs → AreRisingKeys ys → AllBelow xs ys → AreRisingKeys (xs ++ ys)
  rises_append [] ys h k below = k
  rises_append (x ∷ xs) ys h k below =
      (each_append (λ y. key x < key y) xs ys h.0 below.0, rises_append xs ys h.1 k below.1)

  each_take : (P : A → Type 0) (n : ℕ) (xs : List A) → Each P xs → Each P (take n xs)
  each_take P zero xs h = tt
  each_take P (suc n) [] h = tt
  each_take P (suc n) (x ∷ xs) h = (h.0, each_take P n xs h.1)

  each_drop : (P : A → Type 0) (n : ℕ) (xs : List A) → Each P xs → Each P (drop n xs)
  each_drop P zero xs h = h
  each_drop P (suc n) [] h = tt
  each_drop P (suc n) (x ∷ xs) h = each_drop P n xs h.1

  rises_take : (n : ℕ) (xs : List A) → AreRisingKeys xs → AreRisingKeys (take n xs)
  rises_take zero xs h = tt
  rises_take (suc n) [] h = tt
  rises_take (suc n) (x ∷ xs) h = (each_take (λ y. key x < key y) n xs h.0, rises_take n xs h.1)

  rises_drop : (n : ℕ) (xs : List A) → AreRisingKeys xs → AreRisingKeys (drop n xs)
  rises_drop zero xs h = h
  rises_drop (suc n) [] h = tt
  rises_drop (suc n) (x ∷ xs) h = rises_drop n xs h.1

  cut_below : (n : ℕ) (xs : List A) → AreRisingKeys xs → AllBelow (take n xs) (drop n xs)
  cut_below zero xs h = tt
  cut_below (suc n) [] h = tt
  cut_below (suc n) (x ∷ xs) h = (each_drop (λ y. key x < key y) n xs h.0, cut_below n xs h.1)

  -- ---- parts

  -- P is true of each element of each part
  abbrev pub EachOf : (A → Type 0) → List (List A) → Type 0
  EachOf P ps = Each (λ part. Each P part) ps

  -- what holds of each element of a list holds of each element of its parts
  pub each_of_cut : (P : A → Type 0) (ns : List ℕ) (xs : List A) → Each P xs → EachOf P (cut ns xs)
  each_of_cut P [] xs h = tt
  each_of_cut P (n ∷ ns) xs h = (
    each_take P n xs h,
    each_of_cut P ns (drop n xs) (each_drop P n xs h),
  )

  -- what is true of each element of each part is true of each element of one part
  pub part_of_each : (P : A → Type 0) (ps : List (List A)) (j : ℕ) (part : List A) → EachOf P ps
      → slice_get ps j ≡ Some part → Each P part
  part_of_each P [] j part h e = absurd (cc)
  part_of_each P (p ∷ ps) zero part h e = grind arith
  part_of_each P (p ∷ ps) (suc j) part h e = part_of_each P ps j part h.1 e

  -- the keys of the parts are strictly increasing, and no part is empty
  abbrev pub PartsRise : List (List A) → Type 0
  PartsRise [] = Unit {0}
  PartsRise (part ∷ ps) = (0 < length part) × AreRisingKeys part × Each
      (λ x. EachOf (λ y. key x < key y) ps) part × PartsRise ps

  each_mapped : (P Q : A → Type 0) (xs : List A) → ((x : A) → P x → Q x) → Each P xs → Each Q xs
  each_mapped P Q [] f h = tt
  each_mapped P Q (x ∷ xs) f h = (f x h.0, each_mapped P Q xs f h.1)

  cut_rises : (ns : List ℕ) (xs : List A) → AllSome ns → sum ns ≤ length xs → AreRisingKeys xs
      → PartsRise (cut ns xs)
  cut_rises [] xs some fits h = tt
  cut_rises (n ∷ ns) xs some fits h = let all = sum_by-cons (λ x. x) n ns in
      let less = length-drop n xs in let long = length-take-le n xs (omega arith) in
      let one = some.0 in (
        omega arith,
        rises_take n xs h,
        each_mapped (λ x. Each (λ y. key x < key y) (drop n xs))
            (λ x. EachOf (λ y. key x < key y) (cut ns (drop n xs))) (take n xs)
            (λ x below. each_of_cut (λ y. key x < key y) ns (drop n xs) below) (cut_below n xs h),
        cut_rises ns (drop n xs) some.1 (omega arith) (rises_drop n xs h),
      )

  -- the parts of a strictly increasing list of at least two
  pub parts_rise : (xs : List A) → 2 ≤ length xs → AreRisingKeys xs → PartsRise (parts xs)
  parts_rise xs two h = grind (arith, cut_rises, part_lens_some, sum-part_lens)

  -- the keys of each part are strictly increasing
  pub part_rises : (ps : List (List A)) (j : ℕ) (part : List A) → PartsRise ps
      → slice_get ps j ≡ Some part → AreRisingKeys part
  part_rises [] j part h e = absurd (cc)
  part_rises (p ∷ ps) zero part h e = let same : p ≡ part = cc in subst (λ xs. AreRisingKeys xs) same h.1
  part_rises (p ∷ ps) (suc j) part h e = part_rises ps j part h.3 e

  -- what is true of each key is true of the first keys
  each_first_keys : (P : ℕ → Type 0) (ps : List (List A)) → EachOf (λ x. P (key x)) ps
      → Each P (first_keys key ps)
  each_first_keys P [] h = tt
  each_first_keys P ([] ∷ ps) h = each_first_keys P ps h.1
  each_first_keys P ((x ∷ xs) ∷ ps) h = (h.0.0, each_first_keys P ps h.1)

  -- if all keys of some parts are above a key, so are their first keys
  first_keys_above : (x : A) (ps : List (List A)) → EachOf (λ y. key x < key y) ps
      → Each (λ k. key x < k) (first_keys key ps)
  first_keys_above x ps h = each_first_keys (λ k. key x < k) ps h

  -- a key of part j is at least the first keys of the parts up to this one, and below the others
  child_among : (ps : List (List A)) (j : ℕ) (part : List A) (x : A) → PartsRise ps
      → slice_get ps j ≡ Some part → Among x part → child_count (first_keys key ps) (key x) ≡ suc j
  child_among [] j part x h e i = absurd (cc)
  child_among ([] ∷ ps) j part x h e i = let some = h.0 in absurd (omega arith)
  child_among ((y ∷ ys) ∷ ps) zero part x h e i = let same : y ∷ ys ≡ part = cc in
      let here = subst (λ xs. Among x xs) (sym same) i in
      let above = each-among (λ z. EachOf (λ w. key z < key w) ps) x (y ∷ ys) h.2 here in
      let low : key y ≤ key x = ⊎_elim (λ f. let g = ap key f in omega arith)
      (λ k. let g = each-among (λ z. key y < key z) x ys h.1.0 k in omega arith) here in
      child_count-low (key y) (first_keys key ps) (key x) low ∙ ap (λ n. n + 1)
      (child_count-none (first_keys key ps) (key x) (first_keys_above x ps above)) ∙ omega arith
  child_among ((y ∷ ys) ∷ ps) (suc j) part x h e i =
      let below = part_of_each (λ z. key y < key z) ps j part h.2.0 e in
      let low = each-among (λ z. key y < key z) x part below i in
      let rest = child_among ps j part x h.3 e i in
      let more = child_count-low (key y) (first_keys key ps) (key x) (omega arith) in omega arith

  -- with the first key of each part but the first as keys, the child for a key of part j is child j
  pub child_of_part : (ps : List (List A)) (j : ℕ) (part : List A) (x : A) → PartsRise ps
      → slice_get ps j ≡ Some part → Among x part
      → child_count (first_keys key (drop 1 ps)) (key x) ≡ j
  child_of_part [] j part x h e i = absurd (cc)
  child_of_part (p ∷ ps) zero part x h e i = let same : p ≡ part = cc in
      child_count-none (first_keys key ps) (key x)
      (first_keys_above x ps (each-among (λ z. EachOf (λ w. key z < key w) ps) x p h.2
      (subst (λ xs. Among x xs) (sym same) i)))
  child_of_part (p ∷ ps) (suc j) part x h e i = child_among ps j part x h.3 e i

-- the numbers are strictly increasing: each is below all later ones
abbrev pub Rising : List ℕ → Type 0
Rising ks = AreRisingKeys (λ k. k) ks

-- the first keys of parts are strictly increasing
pub first_keys_rise : {A : Type 0} (key : A → ℕ) (ps : List (List A)) → PartsRise key ps
    → Rising (first_keys key ps)
first_keys_rise key [] h = tt
first_keys_rise key ([] ∷ ps) h = first_keys_rise key ps h.3
first_keys_rise key ((x ∷ xs) ∷ ps) h =
    (first_keys_above key x ps h.2.0, first_keys_rise key ps h.3)

-- the first keys of all parts but the first are strictly increasing
pub first_keys_after_rise : {A : Type 0} (key : A → ℕ) (ps : List (List A)) → PartsRise key ps
    → Rising (first_keys key (drop 1 ps))
first_keys_after_rise key [] h = tt
first_keys_after_rise key (p ∷ ps) h = first_keys_rise key ps h.3
