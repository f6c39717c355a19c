-- What is kept of readings, and one size further. Serves `keeping.rt`.
use Rattle.std.proofs.Common.{◌≡◌, ◌↔◌, ◌∙◌, ◌⊎◌, ◌+◌, ◌<◌, ◌≤◌, true, ℕ, zero, suc, List, [], ◌∷◌, ◌++◌, length, map, take, Vec, Global, refl, sym, ap, subst, inl, inr, ⊎_elim, append_assoc, arith, length-append, Bool, false, not, nat_eq, IsTrue, Some, None, append-nil, drop}
use Rattle.std.specs.Prelude.{slice_index_or}
use Rattle.std.proofs.lemmas.List.{length-take-le, take-append-le, take_all, take-map, length-map, take-append-drop}
use Rattle.std.specs.BTreeMap.{BTreeMap}
use Rattle.ist_core.specs.LogTerms.{Among}
use Rattle.check_fairness.specs.declared.keeping.KeptReadings.{KeptReadings}
use Rattle.check_fairness.specs.declared.readings.SizeReading.{SizeReading}
use Rattle.check_fairness.specs.Searching.{Goes, all_spare}
use Rattle.check_fairness.specs.Readings.{SomeGoes, AreReadings}
use Rattle.check_fairness.specs.Builds.{BeginsWith}
use Rattle.check_fairness.specs.Keeping.{any_room, left_at, IsKept, KnowsReadings, CanBeRead, GoOnFrom, AreKeptIn}
use Rattle.check_fairness.proofs.AnswerLemmas.{finds_none, iff_trans, never, end_read}
use Rattle.std.specs.Ordering.{nat_cmp}
use Rattle.std.specs.BTreeMap as tree

-- ---- what was kept at a place

take_take : (i n : ℕ) (xs : List ℕ) → i ≤ n → take i (take n xs) ≡ take i xs
take_take zero n xs h = refl
take_take (suc i) zero xs h = absurd (omega arith)
take_take (suc i) (suc n) [] h = refl
take_take (suc i) (suc n) (x ∷ xs) h = ap (λ ys. x ∷ ys) (take_take i n xs (omega arith))

-- a number up to one more is one up to the other, or the one more
up_to : (i n : ℕ) → i ≤ n + 1 → (i ≤ n) ⊎ (i ≡ n + 1)
up_to zero n h = inl (omega arith)
up_to (suc i) zero h = inr (omega arith)
up_to (suc i) (suc n) h = ⊎_elim (λ k. inl (omega arith)) (λ e. inr (omega arith))
    (up_to i n (omega arith))

-- the readings in one of some places
abbrev pub at : List (Vec SizeReading Global) → ℕ → List SizeReading
at all i = slice_index_or (map (λ v. v.items) all) i []

at_take : (n i : ℕ) (all : List (Vec SizeReading Global)) → i < n → at (take n all) i ≡ at all i
at_take zero i all h = absurd (omega arith)
at_take (suc n) i [] h = refl
at_take (suc n) zero (v ∷ all) h = refl
at_take (suc n) (suc i) (v ∷ all) h = at_take n i all (omega arith)

at_left : (i : ℕ) (all more : List (Vec SizeReading Global)) → i < length all
    → at (all ++ more) i ≡ at all i
at_left i [] more h = absurd (omega arith)
at_left zero (v ∷ all) more h = refl
at_left (suc i) (v ∷ all) more h = at_left i all more (omega arith)

at_end : (i : ℕ) (all : List (Vec SizeReading Global)) (v : Vec SizeReading Global) → i ≡ length all
    → at (all ++ v ∷ []) i ≡ v.items
at_end zero [] v h = refl
at_end (suc i) [] v h = absurd (omega arith)
at_end zero (w ∷ all) v h = absurd (omega arith)
at_end (suc i) (w ∷ all) v h = at_end i all v (omega arith)

-- ---- kept readings

-- nothing is known if nothing is kept
pub none_kept : (all : BTreeMap ℕ KeptReadings) (lists : List (List ℕ)) → all.entries ≡ []
    → KnowsReadings all lists
none_kept all lists empty caller kept e = absurd (cc (sym (finds_none all caller empty) ∙ e))

-- what was kept is right with more lists too
kept_stays : (old new : List (List ℕ)) (kept : KeptReadings) → BeginsWith old new → IsKept old kept
    → IsKept new kept
kept_stays old new kept front k = grind arith

-- what is kept stays right when lists are added at the end
pub readings_stay : (all : BTreeMap ℕ KeptReadings) (old new : List (List ℕ)) → BeginsWith old new
    → KnowsReadings all old → KnowsReadings all new
readings_stay all old new front known caller kept e = grind (arith, kept_stays)

module _ (lists : List (List ℕ)) where
  -- readings may go on with a size
  pub left_on : (sizes : List ℕ) (size : ℕ) (old new : List SizeReading)
      → ((more : List ℕ) → SomeGoes lists any_room new more
      ↔ SomeGoes lists any_room old (size ∷ more))
      → AreReadings lists any_room sizes old → AreReadings lists any_room (sizes ++ size ∷ []) new
  left_on sizes size old new r k more =
      subst (λ xs. SomeGoes lists any_room new more
      ↔ Goes (λ l. Among l lists) any_room all_spare [] true xs)
      (sym (append_assoc sizes (size ∷ []) more)) (iff_trans (r more) (k (size ∷ more)))

-- the first of some lists, as the code takes them
pub first_is : (xs ys fs : List (Vec ℕ Global)) (m : ℕ) → xs ≡ ys
    → m ≤ length (map (λ v. v.items) ys) → (m ≤ length xs → fs ≡ take m xs)
    → map (λ v. v.items) fs ≡ take m (map (λ v. v.items) ys)
first_is xs ys fs m e h value = grind (arith, length-map, take-map)

-- ---- the kept readings after each number of sizes

module _ (lists : List (List ℕ)) where
  -- of the first ones
  pub kept_cut : (old new : KeptReadings) (n : ℕ) → new.lists ≡ old.lists
      → n ≤ length old.sizes.items → new.sizes.items ≡ take n old.sizes.items
      → new.left.items ≡ take (n + 1) old.left.items → IsKept lists old → IsKept lists new
  kept_cut old new n count fits sizes left k = grind (arith, length-take-le, take_take, at_take)

  -- of one more
  pub kept_more : (old new : KeptReadings) (size : ℕ) (next : Vec SizeReading Global)
      → new.lists ≡ old.lists → new.sizes.items ≡ old.sizes.items ++ size ∷ []
      → new.left.items ≡ old.left.items ++ next ∷ []
      → ((more : List ℕ) → SomeGoes (take old.lists lists) any_room next.items more
      ↔ SomeGoes (take old.lists lists) any_room (left_at old (length old.sizes.items))
      (size ∷ more))
      → IsKept lists old → IsKept lists new
  kept_more old new size next count sizes left r k = record {
    within = grind arith;
    long = let more : length old.left.items ≡ length old.sizes.items + 1 = k.long in
        let all : length new.left.items ≡ length old.left.items + 1 = ap length left
        ∙ length-append old.left.items (next ∷ []) in
        let longer : length new.sizes.items ≡ length old.sizes.items + 1 = many in omega arith;
    each = grind (arith, many, before, last, up_to);
  }
    where
      len : ℕ
      len = length old.sizes.items

      known : List (List ℕ)
      known = take old.lists lists

      many : length new.sizes.items ≡ len + 1
      many = ap length sizes ∙ length-append old.sizes.items (size ∷ [])

      before : (i : ℕ) → i ≤ len → AreReadings known any_room (take i new.sizes.items) (left_at new i)
      before i h = grind (arith, take-append-le, at_left, known)

      last : {i : ℕ} → i ≡ len + 1 → AreReadings known any_room (take i new.sizes.items) (left_at new i)
      last {i} e = let longer : length new.sizes.items ≡ length old.sizes.items + 1 = many in
          let here : i ≡ length old.sizes.items + 1 = e in
          let whole : take i new.sizes.items ≡ old.sizes.items ++ size ∷ [] =
          take_all i new.sizes.items (omega arith) ∙ sizes in
          let is : i ≡ length old.left.items = e ∙ sym k.long in
          let same : left_at new i ≡ next.items =
          ap (λ xs. at xs i) left ∙ at_end i old.left.items next is in
          let all = subst (λ xs. AreReadings known any_room xs (left_at old len))
          (take_all len old.sizes.items (omega arith)) (k.each len (omega arith)) in
          subst (AreReadings known any_room (take i new.sizes.items)) (sym same)
          (subst (λ xs. AreReadings known any_room xs next.items) (sym whole)
          (left_on known old.sizes.items size (left_at old len) next.items r all))

-- ---- which sizes go on from what is kept, and when that is as much as all lists allow. Serves `keeping.rt`.

-- there is a reading exactly if the sizes so far can be read
pub some_left : (lists : List (List ℕ)) (before sizes : List ℕ) (left next : List SizeReading)
    → ((more : List ℕ) → SomeGoes lists any_room next more
    ↔ SomeGoes lists any_room left (sizes ++ more))
    → AreReadings lists any_room before left
    → SomeGoes lists any_room next [] ↔ CanBeRead lists (before ++ sizes)
some_left lists before sizes left next r k =
    subst (λ xs. SomeGoes lists any_room next [] ↔ CanBeRead lists (before ++ xs))
    (append-nil sizes) (iff_trans (r []) (k (sizes ++ [])))

-- ---- what goes on

module _ (all : BTreeMap ℕ KeptReadings) (lists : List (List ℕ)) (caller : ℕ) (sizes : List ℕ) where
  -- nothing goes on if nothing is kept for the caller
  pub none_goes_on : tree.get nat_cmp all caller ≡ None → IsTrue false ↔ GoOnFrom all lists caller sizes
  none_goes_on none = grind (arith, never)

  -- what is kept for the caller decides
  pub kept_goes_on : (kept : KeptReadings) (b : Bool) → tree.get nat_cmp all caller ≡ Some kept
      → (IsTrue b ↔ CanBeRead (take kept.lists lists) sizes)
      → IsTrue b ↔ GoOnFrom all lists caller sizes
  kept_goes_on kept b found i = (
    (λ y. record { kept = kept; found = found; read = i.0 y }),
    (λ g. grind arith),
  )

  -- the sizes after those that were kept are read on from what is left there
  pub rest_goes_on : (kept : KeptReadings) (known : List (List ℕ)) (n : ℕ) (left next : List SizeReading)
      (empty : Bool) → tree.get nat_cmp all caller ≡ Some kept → IsKept lists kept
      → known ≡ take kept.lists lists → left ≡ left_at kept n → n ≤ length kept.sizes.items
      → take n kept.sizes.items ≡ take n sizes → empty ≡ nat_eq (length next) 0
      → ((more : List ℕ) → SomeGoes known any_room next more
      ↔ SomeGoes known any_room left (drop n sizes ++ more))
      → IsTrue (not empty) ↔ GoOnFrom all lists caller sizes
  rest_goes_on kept known n left next empty found k few is within same e reads =
      let here : AreReadings known any_room (take n sizes) left = rw (few, is, sym same) (k.each n within) in
      let read : SomeGoes known any_room next [] ↔ CanBeRead known sizes =
      rw (take-append-drop n sizes) at (some_left known (take n sizes) (drop n sizes) left next reads here) in
      kept_goes_on kept (not empty) found
      (rw few at (iff_trans (end_read known any_room next [] empty (omega arith) e) read))

-- ---- what is enough

module _ (lists : List (List ℕ)) where
  -- if one goes on, the sizes can be read
  pub kept_enough : (sizes : List ℕ) (kept : KeptReadings) (rs : List SizeReading) (empty : Bool)
      → kept.sizes.items ≡ sizes → rs ≡ left_at kept (length sizes) → empty ≡ nat_eq (length rs) 0
      → empty ≡ false → IsKept lists kept → AreKeptIn lists sizes kept
  kept_enough sizes kept rs empty is left e not_empty k = let known = take kept.lists lists in
      let long : length kept.sizes.items ≡ length sizes = ap length is in
      let whole : take (length sizes) kept.sizes.items ++ [] ≡ sizes =
      append-nil (take (length sizes) kept.sizes.items)
      ∙ take_all (length sizes) kept.sizes.items (omega arith) ∙ is in
      let some : SomeGoes known any_room rs [] =
      (end_read known any_room rs [] empty (omega arith) e).0 (ap not not_empty) in
      record {
        sizes_are = is;
        enough = grind arith;
      }
