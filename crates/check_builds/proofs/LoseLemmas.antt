-- What the code tests of rows that are given up is what the condition says. Serves `giving_up.rt`.
use Rattle.std.proofs.Common.{◌≡◌, ◌↔◌, ◌∙◌, ◌+◌, ◌<◌, ◌≤◌, ◌++◌, ℕ, zero, suc, List, [], ◌∷◌, Option, Some, None, length, get_or, take, refl, sym, ap, subst, inl, arith}
use Rattle.std.proofs.lemmas.List.{take_more}
use Rattle.std.specs.Global.{Vec}
use Rattle.std.specs.Option.{option_map}
use Rattle.ist_core.specs.WordTerms.{pair_words}
use Rattle.ist_core.specs.LogTerms.{Among, Distinct, Snapshot, HoldsRow, Log}
use Rattle.ist_core.specs.TreeTerms.{HoldsSizes, IsBeaten, LosesPair, LosesBuild, CanLose}
use Rattle.check_builds.specs.Losing.{HasRowAbove, IsTooLate}
use Rattle.check_fairness.specs.Searching.{AreBuilding}
use Rattle.check_fairness.proofs.AnswerLemmas.{following, first_after}

-- ---- distinct bases

-- if the first base isn't among the others, all are distinct exactly if the others are
pub distinct_first : (xs : List ℕ) → 1 ≤ length xs → ¬ (Among (get_or xs 0 0) (following xs))
    → Distinct (following xs) ↔ Distinct xs
distinct_first xs n far = grind (arith, first_after)

-- if the first base is among the others, they aren't distinct
pub distinct_not : (xs : List ℕ) → 1 ≤ length xs → Among (get_or xs 0 0) (following xs)
    → ¬ (Distinct xs)
distinct_not xs n a d = (subst Distinct (sym (first_after xs n)) d).0 a

-- ---- held sizes

-- the sizes of rows at some bases and at one more are some sizes and one more
pub record HoldsLast (t : Snapshot) (caller : ℕ) (bases : List ℕ) (base : ℕ) (sizes : List ℕ) : Type 0 where
  pub first : List ℕ
  pub size : ℕ
  pub sizes_are : sizes ≡ first ++ size ∷ []
  pub held : HoldsSizes t caller bases first
  pub last : HoldsRow t caller base size

module _ (t : Snapshot) (caller : ℕ) where
  -- sizes of rows and one more are sizes of the rows and of the last
  pub sizes_cut : (bases : List ℕ) (base : ℕ) (sizes : List ℕ)
      → HoldsSizes t caller (bases ++ base ∷ []) sizes → HoldsLast t caller bases base sizes
  sizes_cut [] base [] h = absurd h
  sizes_cut [] base (size ∷ []) h =
      record { first = []; size = size; sizes_are = refl; held = tt; last = h.0 }
  sizes_cut [] base (size ∷ other ∷ sizes) h = absurd h.1
  sizes_cut (b ∷ bases) base [] h = absurd h
  sizes_cut (b ∷ bases) base (s ∷ sizes) h = let it = sizes_cut bases base sizes h.1 in record {
    first = s ∷ it.first;
    size = it.size;
    sizes_are = ap (λ xs. s ∷ xs) it.sizes_are;
    held = (h.0, it.held);
    last = it.last;
  }

  -- sizes of rows and the size of one more are sizes of all
  pub sizes_joined : (bases sizes : List ℕ) (base size : ℕ) → HoldsSizes t caller bases sizes
      → HoldsRow t caller base size → HoldsSizes t caller (bases ++ base ∷ []) (sizes ++ size ∷ [])
  sizes_joined [] [] base size h last = (last, tt)
  sizes_joined [] (s ∷ sizes) base size h last = absurd h
  sizes_joined (b ∷ bases) [] base size h last = absurd h
  sizes_joined (b ∷ bases) (s ∷ sizes) base size h last =
      (h.0, sizes_joined bases sizes base size h.1 last)

  -- of rows at some bases each has a size
  pub each_has_size : (bases : List ℕ) (i : ℕ) (sizes : List ℕ) → i < length bases
      → HoldsSizes t caller bases sizes → (size : ℕ) × HoldsRow t caller (get_or bases i 0) size
  each_has_size [] i sizes n h = absurd (omega arith)
  each_has_size (b ∷ bases) i [] n h = absurd h
  each_has_size (b ∷ bases) zero (s ∷ sizes) n h = (s, h.0)
  each_has_size (b ∷ bases) (suc i) (s ∷ sizes) n h = each_has_size bases i sizes (omega arith) h.1

  module _ (bases : List ℕ) (i : ℕ) (within : i < length bases) where
    -- if the caller doesn't hold the row at one of the bases, they have no sizes
    pub none_are : (found : Option ℕ) → found ≡ None
        → ((size : ℕ) → (found ≡ Some size) ↔ HoldsRow t caller (get_or bases i 0) size)
        → (sizes : List ℕ) → (None ≡ Some sizes) ↔ HoldsSizes t caller bases sizes
    none_are found none row sizes = (
      (λ e. cc),
      (λ h. let it = each_has_size bases i sizes within h in let e = (row it.0).1 it.1 in cc),
    )

    -- if the next is held, its size is the last one
    pub one_more : (sizes : List ℕ) (size : ℕ) (found : Option ℕ) → found ≡ Some size
        → ((s : ℕ) → (found ≡ Some s) ↔ HoldsRow t caller (get_or bases i 0) s)
        → ((xs : List ℕ) → (sizes ≡ xs) ↔ HoldsSizes t caller (take i bases) xs) → (xs : List ℕ)
        → (sizes ++ size ∷ [] ≡ xs) ↔ HoldsSizes t caller (take (i + 1) bases) xs
    one_more sizes size found is row before xs = (to, back)
      where
        cut : take (i + 1) bases ≡ take i bases ++ get_or bases i 0 ∷ []
        cut = take_more bases i 0 within

        to : sizes ++ size ∷ [] ≡ xs → HoldsSizes t caller (take (i + 1) bases) xs
        to e = subst (HoldsSizes t caller (take (i + 1) bases)) e
            (subst (λ bs. HoldsSizes t caller bs (sizes ++ size ∷ [])) (sym cut)
            (sizes_joined (take i bases) sizes (get_or bases i 0) size ((before sizes).0 refl)
            ((row size).0 is)))

        back : HoldsSizes t caller (take (i + 1) bases) xs → sizes ++ size ∷ [] ≡ xs
        back h =
            let it = sizes_cut (take i bases) (get_or bases i 0) xs
            (subst (λ bs. HoldsSizes t caller bs xs) cut h) in
            let first : sizes ≡ it.first = (before it.first).1 it.held in
            let e = (row it.size).1 it.last in let last : size ≡ it.size = cc in
            ap (λ ys. ys ++ size ∷ []) first ∙ ap (λ s. it.first ++ s ∷ []) last
            ∙ sym it.sizes_are

-- ---- a pair row

one_base : (xs : List ℕ) → length xs ≡ 1 → xs ≡ get_or xs 0 0 ∷ []
one_base [] n = absurd (omega arith)
one_base (x ∷ []) n = refl
one_base (x ∷ y ∷ xs) n = absurd (omega arith)

module _ (t : Snapshot) (caller : ℕ) (bases : List ℕ) (one : length bases ≡ 1) where
  same_pair : (h : LosesPair t caller bases) → h.pair ≡ get_or bases 0 0
  same_pair h = cc (sym h.bases_are ∙ one_base bases one)

  -- a held pair row may be lost exactly if an inner row has a base above its own
  pub pair_is : HoldsRow t caller (get_or bases 0 0) pair_words
      → HasRowAbove t (get_or bases 0 0) ↔ LosesPair t caller bases
  pair_is held = grind (arith, one_base, same_pair)

  -- a row that isn't a held pair row isn't lost as one
  pub pair_not : ¬ (HoldsRow t caller (get_or bases 0 0) pair_words) → ¬ (LosesPair t caller bases)
  pair_not lacks h = lacks (subst (λ b. HoldsRow t caller b pair_words) (same_pair h) h.held)

-- ---- the rows of a build

module _ (t : Snapshot) (log : Log) (caller : ℕ) (bases : List ℕ) (known : caller < t.callers) where
  -- a pair row that may be lost may be given up
  pub lose_pair : LosesPair t caller bases → CanLose t log caller bases
  lose_pair p = record { known = known; cause = inl p }

  -- without such a pair row, rows may be given up exactly if they are a build that is lost
  pub lose_is : ¬ (LosesPair t caller bases) → LosesBuild t log caller bases ↔ CanLose t log caller bases
  lose_is no_pair = grind arith

-- the sizes that were found are the sizes of the rows, and there are no others
pub sizes_found : (t : Snapshot) (caller : ℕ) (bases : List ℕ) (found : Option (Vec ℕ))
    (sizes : Vec ℕ) → found ≡ Some sizes
    → ((xs : List ℕ) → (option_map (λ v. v.items) found ≡ Some xs) ↔ HoldsSizes t caller bases xs)
    → HoldsSizes t caller bases sizes.items
    × ((xs : List ℕ) → HoldsSizes t caller bases xs → sizes.items ≡ xs)
sizes_found t caller bases found sizes is exact = grind arith

-- sizes of another caller's build are too late exactly if they are a building list
pub late_is : (t : Snapshot) (log : Log) (caller : ℕ) (sizes : List ℕ) → IsBeaten caller sizes log
    → (lists : List (List ℕ)) → AreBuilding t lists
    → Among sizes lists ↔ IsTooLate t log caller sizes
late_is t log caller sizes beaten lists are = grind arith

module _ (t : Snapshot) (log : Log) (caller : ℕ) (bases sizes : List ℕ)
    (same : (others : List ℕ) → HoldsSizes t caller bases others → sizes ≡ others) where
  -- if the sizes don't come too late, no build is lost
  pub build_not : ¬ (IsTooLate t log caller sizes) → ¬ (LosesBuild t log caller bases)
  build_not early b = grind arith

  -- if the sizes come too late, a build is lost exactly if the bases are distinct
  pub build_is : HoldsSizes t caller bases sizes → IsTooLate t log caller sizes
      → Distinct bases ↔ LosesBuild t log caller bases
  build_is held late = grind arith
