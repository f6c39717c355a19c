-- The items of the woven history are in order. Serves `laws.calls_have_places`.
use Rattle.std.proofs.Common.{◌≡◌, ℕ, ◌+◌, ◌≤◌, ◌==◌, if◌then◌else◌, Bool, true, false, List, [], ◌∷◌, ◌++◌, map, refl, inl, arith}
use Rattle.std.proofs.lemmas.Bool.Decides.{nat_tests}
use Rattle.ist_core.specs.declared.pairs.Pair.{Pair}
use Rattle.ist_core.specs.LogTerms.{Each, Log, PassCalls, StandInPrefixes, Reading, readings, comes_first, put_in, in_order, at_position}
use Rattle.ist_core.specs.TreeTerms.{Entry, changes_of}
use Rattle.ist_core.proofs.AllWordLemmas.{each_append}
use Rattle.laws_histories.specs.Placing.{Item, change_at, reading_by, StandsBefore, AllInOrder, HasPlaces}
use Rattle.laws_histories.proofs.OnceLemmas.{placed_from, told_placed, placed_once}

-- ---- readings by their stamps

-- the stamps don't fall
StampsRise : List Reading → Type 0
StampsRise [] = Unit {0}
StampsRise (x ∷ xs) = Each (λ y. x.call.stamp ≤ y.call.stamp) xs × StampsRise xs

-- the reading that comes first has no higher stamp
first_low : (x y : Reading) → comes_first x y ≡ true → x.call.stamp ≤ y.call.stamp
first_low x y e = grind (arith, nat_tests)

-- the reading that doesn't come first has no lower stamp
last_high : (x y : Reading) → comes_first x y ≡ false → y.call.stamp ≤ x.call.stamp
last_high x y e = grind (arith, nat_tests)

-- what holds of a reading and of others holds of all after it is inserted
each_put_in : (P : Reading → Type 0) (x : Reading) (ys : List Reading) → P x → Each P ys
    → Each P (put_in x ys)
each_put_in P x [] p h = (p, tt)
each_put_in P x (y ∷ ys) p h =
    elim (comes_first x y) as (λ v. Each P (if v then x ∷ y ∷ ys else y ∷ put_in x ys)) [
      | true ↦ (p, h)
      | false ↦ (h.0, each_put_in P x ys p h.1)
    ]

-- stamps that are higher than one are higher than a lower one
each_higher : (m n : ℕ) → m ≤ n → (ys : List Reading) → Each (λ y. n ≤ y.call.stamp) ys
    → Each (λ y. m ≤ y.call.stamp) ys
each_higher m n low [] h = tt
each_higher m n low (y ∷ ys) h = (let high = h.0 in omega arith, each_higher m n low ys h.1)

-- a reading is put in at its stamp
put_in_rises : (x : Reading) (ys : List Reading) → StampsRise ys → StampsRise (put_in x ys)
unfolding StampsRise
put_in_rises x [] h = (tt, tt)
put_in_rises x (y ∷ ys) h = at (put_in_rises x ys h.1) (comes_first x y) refl
  where
    at : StampsRise (put_in x ys) → (v : Bool) → comes_first x y ≡ v
        → StampsRise (if v then x ∷ y ∷ ys else y ∷ put_in x ys)
    at rest true e = let low : x.call.stamp ≤ y.call.stamp = first_low x y e in
        ((low, each_higher x.call.stamp y.call.stamp low ys h.0), h)
    at rest false e = grind (arith, last_high, each_put_in)

-- readings in order have stamps that don't fall
in_order_rises : (xs : List Reading) → StampsRise (in_order xs)
unfolding StampsRise
in_order_rises [] = tt
in_order_rises (x ∷ xs) = put_in_rises x (in_order xs) (in_order_rises xs)

-- ---- items in order

-- the item is at the position or later
IsFrom : ℕ → Item → Type 0
IsFrom position (change_at i entry) = position ≤ i
IsFrom position (reading_by x) = position ≤ x.call.position

-- what holds of each item holds of it in a weaker form
each_item : (P Q : Item → Type 0) → ((item : Item) → P item → Q item) → (xs : List Item) → Each P xs
    → Each Q xs
each_item P Q f [] h = tt
each_item P Q f (x ∷ xs) h = (f x h.0, each_item P Q f xs h.1)

-- items in order, followed by items in order that each of them comes before, are in order
in_order_append : (xs ys : List Item) → AllInOrder xs → AllInOrder ys
    → Each (λ x. Each (StandsBefore x) ys) xs → AllInOrder (xs ++ ys)
in_order_append [] ys h k all = k
in_order_append (x ∷ xs) ys h k all =
    (each_append (StandsBefore x) xs ys h.0 all.0, in_order_append xs ys h.1 k all.1)

-- readings at a position are from it on
here_from : (position : ℕ) (xs : List Reading)
    → Each (IsFrom position) (map reading_by (at_position position xs))
unfolding IsFrom
here_from position [] = tt
here_from position (x ∷ xs) = at (here_from position xs) (x.call.position == position) refl
  where
    at : Each (IsFrom position) (map reading_by (at_position position xs)) → (v : Bool)
        → (x.call.position == position) ≡ v → Each (IsFrom position)
        (map reading_by (if v then x ∷ at_position position xs else at_position position xs))
    at rest true e = grind (arith, nat_tests)
    at rest false e = rest

-- a reading comes before the readings at its position that have no lower stamp
one_before : (position : ℕ) (x : Reading) → x.call.position ≡ position → (ys : List Reading)
    → Each (λ y. x.call.stamp ≤ y.call.stamp) ys
    → Each (StandsBefore (reading_by x)) (map reading_by (at_position position ys))
one_before position x same [] h = tt
one_before position x same (y ∷ ys) h =
    at (one_before position x same ys h.1) (y.call.position == position) refl
  where
    at : Each (StandsBefore (reading_by x)) (map reading_by (at_position position ys)) → (v : Bool)
        → (y.call.position == position) ≡ v → Each (StandsBefore (reading_by x))
        (map reading_by (if v then y ∷ at_position position ys else at_position position ys))
    at rest true e = grind (arith, nat_tests)
    at rest false e = rest

-- the readings at one position are in order of their stamps
here_in_order : (position : ℕ) (xs : List Reading) → StampsRise xs
    → AllInOrder (map reading_by (at_position position xs))
unfolding StampsRise
here_in_order position [] h = tt
here_in_order position (x ∷ xs) h =
    at (here_in_order position xs h.1) (x.call.position == position) refl
  where
    at : AllInOrder (map reading_by (at_position position xs)) → (v : Bool)
        → (x.call.position == position) ≡ v
        → AllInOrder (map reading_by (if v then x ∷ at_position position xs else at_position position xs))
    at rest true e = grind (arith, one_before, nat_tests)
    at rest false e = rest

-- readings at a position come before the change there, and before all later items
here_before : (position : ℕ) (entry : Entry) (ys : List Item) → Each (IsFrom (position + 1)) ys
    → (xs : List Reading) → Each (λ x. Each (StandsBefore x) (change_at position entry ∷ ys))
    (map reading_by (at_position position xs))
unfolding IsFrom
here_before position entry ys h [] = tt
here_before position entry ys h (x ∷ xs) =
    at (here_before position entry ys h xs) (x.call.position == position) refl
  where
    following : x.call.position ≡ position → (item : Item) → IsFrom (position + 1) item
        → StandsBefore (reading_by x) item
    following same (change_at i other) low = omega arith
    following same (reading_by y) low = inl (omega arith)

    at : Each (λ z. Each (StandsBefore z) (change_at position entry ∷ ys))
        (map reading_by (at_position position xs)) → (v : Bool) → (x.call.position == position) ≡ v
        → Each (λ z. Each (StandsBefore z) (change_at position entry ∷ ys))
        (map reading_by (if v then x ∷ at_position position xs else at_position position xs))
    at rest true e = grind (arith, nat_tests, each_item, following)
    at rest false e = rest

-- the items from a position on are at it or later
placed_high : (position : ℕ) (entries : List Entry) (xs : List Reading)
    → Each (IsFrom position) (placed_from position entries xs)
unfolding IsFrom
placed_high position [] xs = here_from position xs
placed_high position (entry ∷ entries) xs =
    each_append (IsFrom position) (map reading_by (at_position position xs))
    (change_at position entry ∷ placed_from (position + 1) entries xs) (here_from position xs)
    (omega arith, each_item (IsFrom (position + 1)) (IsFrom position) lower (placed_from (position + 1) entries xs) (placed_high (position + 1) entries xs))
  where
    lower : (item : Item) → IsFrom (position + 1) item → IsFrom position item
    lower (change_at i other) low = omega arith
    lower (reading_by y) low = omega arith

-- the items are in order
placed_in_order : (position : ℕ) (entries : List Entry) (xs : List Reading) → StampsRise xs
    → AllInOrder (placed_from position entries xs)
unfolding IsFrom
placed_in_order position [] xs h = here_in_order position xs h
placed_in_order position (entry ∷ entries) xs h =
    let rest = placed_from (position + 1) entries xs in
    let high = placed_high (position + 1) entries xs in
    in_order_append (map reading_by (at_position position xs)) (change_at position entry ∷ rest)
    (here_in_order position xs h)
    (each_item (IsFrom (position + 1)) (StandsBefore (change_at position entry)) following rest high, placed_in_order (position + 1) entries xs h)
    (here_before position entry rest high xs)
  where
    following : (item : Item) → IsFrom (position + 1) item
        → StandsBefore (change_at position entry) item
    following (change_at i other) low = omega arith
    following (reading_by y) low = omega arith

-- the woven history has its places
pub has_places : (pairs : List Pair) (words : ℕ) (log : Log) (passes : List PassCalls)
    → StandInPrefixes pairs words log passes → HasPlaces (changes_of pairs words log) passes
has_places pairs words log passes all =
    grind (arith, placed_from, told_placed, placed_once, placed_in_order, in_order_rises)
