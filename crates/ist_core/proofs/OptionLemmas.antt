-- One value of an option, also of a row of one kind. Serves each law that reads rows.
use Rattle.std.proofs.Common.{◌≡◌, Option, Some, None, ℕ, ◌⊎◌, ◌≢◌, List, [], ◌∷◌, option_map, refl, sym, ◌∙◌, inl, inr, ⊎_elim, arith, suc, ◌<◌, Bool, true, false, if◌then◌else◌, ◌++◌, length, map, get_or, filter, subst, slice_get, zero, ◌+◌, ◌==◌, take, drop, ap}
use Rattle.ist_core.specs.Types.{LeafRow, InnerRow, ChangeRow, RebuildRow, Row}
use Rattle.ist_core.specs.WordTerms.{Piece, Leaf, Inner, Change, Rebuild, Pieces, with_row, changed_at, with_inners, inner_of, words_of, StandsAt, pieces_of}
use Rattle.std.proofs.lemmas.Bool.Decides.{nat_tests}
use Rattle.ist_core.specs.LogTerms.{Among, bases_of, Each}

module _ {A : Type 0} where
  -- an option has one value
  pub same_value : (o : Option A) (a b : A) → o ≡ Some a → o ≡ Some b → a ≡ b
  same_value o a b e f = cc

  -- what is none has no value
  pub no_value : (o : Option A) (a : A) → o ≡ None → o ≡ Some a → ⊥
  no_value o a e f = cc

-- a piece is one leaf
pub same_leaf : (o : Option Piece) (r s : LeafRow) → o ≡ Some (Leaf r) → o ≡ Some (Leaf s) → r ≡ s
same_leaf o r s e f = cc

-- a piece is one inner row
pub same_inner : (o : Option Piece) (r s : InnerRow) → o ≡ Some (Inner r) → o ≡ Some (Inner s)
    → r ≡ s
same_inner o r s e f = cc

-- a piece is one change
pub same_change : (o : Option Piece) (r s : ChangeRow) → o ≡ Some (Change r) → o ≡ Some (Change s)
    → r ≡ s
same_change o r s e f = cc

-- a piece is one rebuild
pub same_rebuild : (o : Option Piece) (r s : RebuildRow) → o ≡ Some (Rebuild r)
    → o ≡ Some (Rebuild s) → r ≡ s
same_rebuild o r s e f = cc

-- ---- what the rows have at a base after a write. Serves each law about rows.

-- a row that was put at a base is there
pub with_row-same : (ps : Pieces) (base : ℕ) (p : Piece) → with_row ps base (Some p) base ≡ Some p
with_row-same ps base p = grind (arith, nat_tests)

-- the rows at other bases stay the same
pub with_row-other : (ps : Pieces) (base at : ℕ) (o : Option Piece) → at ≢ base
    → with_row ps base o at ≡ ps at
with_row-other ps base at None ne = refl
with_row-other ps base at (Some p) ne = grind (arith, nat_tests)

-- a row afterwards is the new row, or was there before
pub with_row-some : (ps : Pieces) (base at : ℕ) (o : Option Piece) (q : Piece)
    → with_row ps base o at ≡ Some q → ((at ≡ base) × (o ≡ Some q)) ⊎ (ps at ≡ Some q)
with_row-some ps base at None q e = inr e
with_row-some ps base at (Some p) q e = grind (arith, nat_tests)

-- the changed row is the change of what was there before
pub changed_at-same : (ps : Pieces) (base : ℕ) (f : Piece → Piece)
    → changed_at ps base f base ≡ option_map f (ps base)
changed_at-same ps base f = grind (arith, nat_tests)

-- the rows at other bases stay the same
pub changed_at-other : (ps : Pieces) (base at : ℕ) (f : Piece → Piece) → at ≢ base
    → changed_at ps base f at ≡ ps at
changed_at-other ps base at f ne = grind (arith, nat_tests)

-- a change puts no row where none was
pub changed_at-none : (ps : Pieces) (base at : ℕ) (f : Piece → Piece) → ps at ≡ None
    → changed_at ps base f at ≡ None
changed_at-none ps base at f e = grind (arith, nat_tests)

-- a row afterwards was there before, changed or not
pub changed_at-some : (ps : Pieces) (base at : ℕ) (f : Piece → Piece) (q : Piece)
    → changed_at ps base f at ≡ Some q
    → (p : Piece) × (ps at ≡ Some p) × ((q ≡ p) ⊎ ((at ≡ base) × (q ≡ f p)))
changed_at-some ps base at f q e = grind (arith, nat_tests)

-- after inner rows are published, each row is one of them or was there before
pub with_inners-some : (ps : Pieces) (rows : List Row) (at : ℕ) (q : Piece)
    → with_inners ps rows at ≡ Some q
    → ((row : Row) × Among row rows × (row.base ≡ at) × (inner_of row.words ≡ Some q)) ⊎
    (ps at ≡ Some q)
with_inners-some ps [] at q e = inr e
with_inners-some ps (row ∷ rows) at q e = ⊎_elim (λ here. inl (row, inl refl, sym here.0, here.1))
    (λ there. ⊎_elim (λ w. inl (w.0, inr w.1, w.2, w.3)) (λ w. inr w)
    (with_inners-some ps rows at q there))
    (with_row-some (with_inners ps rows) row.base at (inner_of row.words) q e)

-- at a base that none of the inner rows has, the row is the same as before
pub with_inners-other : (ps : Pieces) (rows : List Row) (at : ℕ) → ¬ (Among at (bases_of rows))
    → with_inners ps rows at ≡ ps at
with_inners-other ps [] at out = refl
with_inners-other ps (row ∷ rows) at out =
    with_row-other (with_inners ps rows) row.base at (inner_of row.words) (λ e. out (inl e)) ∙
    with_inners-other ps rows at (λ i. out (inr i))

-- ---- elements of lists. Serves each law about held rows, logs or leaves.

module _ {A : Type 0} where
  -- an element of two joined lists is one of the first or of the second
  pub among-append : (x : A) (xs ys : List A) → Among x (xs ++ ys) → Among x xs ⊎ Among x ys
  among-append x [] ys h = inr h
  among-append x (y ∷ xs) ys (inl h) = inl (inl h)
  among-append x (y ∷ xs) ys (inr h) = ⊎_elim (λ a. inl (inr a)) (λ b. inr b)
      (among-append x xs ys h)

  -- an element of the first list is one of the joined list
  pub among_left : (x : A) (xs ys : List A) → Among x xs → Among x (xs ++ ys)
  among_left x [] ys h = absurd h
  among_left x (y ∷ xs) ys (inl h) = inl h
  among_left x (y ∷ xs) ys (inr h) = inr (among_left x xs ys h)

  -- an element of the second list is one of the joined list
  pub among_right : (x : A) (xs ys : List A) → Among x ys → Among x (xs ++ ys)
  among_right x [] ys h = h
  among_right x (y ∷ xs) ys h = inr (among_right x xs ys h)

  -- what is true of each element is true of an element
  pub each-among : (P : A → Type 0) (x : A) (xs : List A) → Each P xs → Among x xs → P x
  each-among P x [] h i = absurd i
  each-among P x (y ∷ ys) h (inl e) = subst P (sym e) h.0
  each-among P x (y ∷ ys) h (inr i) = each-among P x ys h.1 i

  -- what is true of each element of two lists is true of each element of the joined list
  pub each_append : (P : A → Type 0) (xs ys : List A) → Each P xs → Each P ys → Each P (xs ++ ys)
  each_append P [] ys h k = k
  each_append P (x ∷ xs) ys h k = (h.0, each_append P xs ys h.1 k)

  -- what holds of each element of two joined lists holds of each element of both
  pub each-append : (P : A → Type 0) (xs ys : List A) → Each P (xs ++ ys) → Each P xs × Each P ys
  each-append P [] ys h = (tt, h)
  each-append P (x ∷ xs) ys h = let rest = each-append P xs ys h.1 in ((h.0, rest.0), rest.1)

  -- an element that the test keeps was an element, and passes the test
  pub among-filter : (test : A → Bool) (x : A) (xs : List A) → Among x (filter test xs)
      → Among x xs × (test x ≡ true)
  among-filter test x [] h = absurd h
  among-filter test x (y ∷ ys) h = at (among-filter test x ys) (test y) refl h
    where
      at : (Among x (filter test ys) → Among x ys × (test x ≡ true)) → (b : Bool) → test y ≡ b
          → Among x (if b then y ∷ filter test ys else filter test ys)
          → Among x (y ∷ ys) × (test x ≡ true)
      at again true e (inl i) = (inl i, subst (λ z. test z ≡ true) (sym i) e)
      at again true e (inr i) = let rest = again i in (inr rest.0, rest.1)
      at again false e i = let rest = again i in (inr rest.0, rest.1)

  -- an element that passes the test is kept
  pub among_filter : (test : A → Bool) (x : A) (xs : List A) → Among x xs → test x ≡ true
      → Among x (filter test xs)
  among_filter test x [] h e = h
  among_filter test x (y ∷ ys) h e = at (among_filter test x ys) (test y) refl h
    where
      at : (Among x ys → test x ≡ true → Among x (filter test ys)) → (b : Bool) → test y ≡ b
          → Among x (y ∷ ys) → Among x (if b then y ∷ filter test ys else filter test ys)
      at again true f (inl i) = inl i
      at again true f (inr i) = inr (again i e)
      at again false f (inl i) = absurd (cc (subst (λ z. test z ≡ true) i e))
      at again false f (inr i) = again i e

-- lists in which f sees the same at each place are the same to f
pub map_same : {X Y : Type 0} (f : X → Y) (xs ys : List X) → length ys ≡ length xs
    → ((k : ℕ) (d : X) → k < length xs → f (get_or ys k d) ≡ f (get_or xs k d))
    → map f ys ≡ map f xs
map_same f [] [] long same = refl
map_same f [] (y ∷ ys) long same = absurd (omega arith)
map_same f (x ∷ xs) [] long same = absurd (omega arith)
map_same f (x ∷ xs) (y ∷ ys) long same = let head : f y ≡ f x = same 0 x (omega arith) in
    let rest : map f ys ≡ map f xs
    = map_same f xs ys (omega arith) (λ k d h. same (suc k) d (omega arith)) in
    cc

module _ {A : Type 0} where
  -- what is true of each element alone is true of all
  pub each_of : (P : A → Type 0) (xs : List A) → ((x : A) → Among x xs → P x) → Each P xs
  each_of P [] h = tt
  each_of P (x ∷ xs) h = (h x (inl refl), each_of P xs (λ y i. h y (inr i)))

  -- an element at an index is an element
  pub get_among : (xs : List A) (i : ℕ) (x : A) → slice_get xs i ≡ Some x → Among x xs
  get_among [] i x e = absurd (cc)
  get_among (y ∷ xs) zero x e = inl (let same : y ≡ x = cc in sym same)
  get_among (y ∷ xs) (suc i) x e = inr (get_among xs i x e)

-- ---- rows of a list by their bases, and rows among the words of a table. Serves the start layout and
-- its image.

-- what is published from a list is one of its rows
pub among-pieces_of : (rows : List (ℕ × Piece)) (base : ℕ) (p : Piece)
    → pieces_of rows base ≡ Some p → Among (base, p) rows
among-pieces_of [] base p e = cc
among-pieces_of (row ∷ rows) base p e =
    elim (base == row.0) as (λ b. (base == row.0) ≡ b →
    (if b then Some row.1 else pieces_of rows base) ≡ Some p → Among (base, p) (row ∷ rows)) [
      | true ↦ λ is found. let same : base ≡ row.0 = grind (arith, nat_tests) in let here : row.1 ≡
          p = cc in inl (λ i. (same i, sym here i))
      | false ↦ λ _ found. inr (among-pieces_of rows base p found)
    ] refl e

module _ {A : Type 0} where
  -- element k after n dropped ones is element n + k
  pub slice_get-drop : (n : ℕ) (xs : List A) (k : ℕ)
      → slice_get (drop n xs) k ≡ slice_get xs (n + k)
  slice_get-drop zero xs k = let same : 0 + k ≡ k = omega arith in ap (slice_get xs) (sym same)
  slice_get-drop (suc n) [] k = grind arith
  slice_get-drop (suc n) (x ∷ xs) k = let same : suc n + k ≡ suc (n + k) = omega arith in
      slice_get-drop n xs k ∙ sym (ap (slice_get (x ∷ xs)) same)

  -- an element of the first ones
  pub slice_get-take : (n : ℕ) (xs : List A) (k : ℕ) → k < n
      → slice_get (take n xs) k ≡ slice_get xs k
  slice_get-take zero xs k h = absurd (omega arith)
  slice_get-take (suc n) [] k h = refl
  slice_get-take (suc n) (x ∷ xs) zero h = refl
  slice_get-take (suc n) (x ∷ xs) (suc k) h = slice_get-take n xs k (omega arith)

-- a row is in the words if its words are cut from them at its base
pub stands_by : (words : List ℕ) (base : ℕ) (p : Piece)
    → take (length (words_of p)) (drop base words) ≡ words_of p → StandsAt words base p
stands_by words base p e k h = sym (slice_get-drop base words k) ∙ sym
    (slice_get-take (length (words_of p)) (drop base words) k h) ∙ ap (λ ws. slice_get ws k) e
