-- The items of the woven history are each change once, and each reading once. Serves `laws.calls_have_places`.
use Rattle.std.proofs.Common.{◌≡◌, ℕ, suc, ◌+◌, ◌≤◌, ◌==◌, nat_le, not, if◌then◌else◌, Bool, true, false, List, [], ◌∷◌, ◌++◌, map, filter, length, refl, sym, ap, ◌∙◌, subst, arith, append_assoc}
use Rattle.std.proofs.lemmas.Bool.Decides.{nat_tests}
use Rattle.std.proofs.lemmas.List.{map-append}
use Rattle.std.proofs.lemmas.List.Sorted.{IsPermutation-refl, IsPermutation-sym, IsPermutation-cons, IsPermutation-map, IsPermutation-append_left, IsPermutation-append_right, IsPermutation-trans, IsPermutation-middle, IsPermutation-append_comm, IsPermutation-filter_both}
use Rattle.std.specs.List.Sorted.{IsPermutation}
use Rattle.ist_core.specs.declared.pairs.Pair.{Pair}
use Rattle.ist_core.specs.TreeTerms.{map_of, Entry, changes_of, IsRead, StandsIn}
use Rattle.ist_core.specs.LogTerms.{Among, Each, Log, GoesOn, PassCalls, StandInPrefixes, Reading, readings, comes_first, put_in, in_order, at_position, told_by_entry, told_by_reading, woven_from}
use Rattle.ist_core.specs.WordTerms.{start}
use Rattle.ist_core.proofs.AllWordLemmas.{each-among, each_of}
use Rattle.laws_histories.specs.Placing.{Item, change_at, reading_by, told_by, changes_from, items}
use Rattle.laws_histories.proofs.ChangeLemmas.{changes_on, read_on}
use Rattle.laws_histories.proofs.WovenLemmas.{of_passes, among-in_order}

-- ---- readings in order

-- inserting a reading keeps each reading once
put_in_moves : (x : Reading) (ys : List Reading) → IsPermutation (x ∷ ys) (put_in x ys)
put_in_moves x [] = IsPermutation-refl (x ∷ [])
put_in_moves x (y ∷ ys) = elim (comes_first x y) as
    (λ v. IsPermutation (x ∷ y ∷ ys) (if v then x ∷ y ∷ ys else y ∷ put_in x ys)) [
      | true ↦ IsPermutation-refl (x ∷ y ∷ ys)
      | false ↦ IsPermutation-trans (x ∷ y ∷ ys) (y ∷ x ∷ ys) (y ∷ put_in x ys)
          (IsPermutation-sym (y ∷ x ∷ ys) (x ∷ y ∷ ys) (IsPermutation-middle (y ∷ []) x ys))
          (IsPermutation-cons y (x ∷ ys) (put_in x ys) (put_in_moves x ys))
    ]

-- in order they are the same ones
in_order_moves : (xs : List Reading) → IsPermutation xs (in_order xs)
in_order_moves [] = IsPermutation-refl []
in_order_moves (x ∷ xs) = IsPermutation-trans (x ∷ xs) (x ∷ in_order xs) (put_in x (in_order xs))
    (IsPermutation-cons x xs (in_order xs) (in_order_moves xs)) (put_in_moves x (in_order xs))

-- ---- readings by position

-- the readings from a position on
from_position : ℕ → List Reading → List Reading
from_position position xs = filter (λ x. nat_le position x.call.position) xs

-- is the reading at the position
is_at : ℕ → Reading → Bool
is_at position x = x.call.position == position

-- from here on are those here, and those from the next position on
here_only : (position : ℕ) (xs : List Reading)
    → filter (is_at position) (from_position position xs) ≡ at_position position xs
unfolding from_position is_at
here_only position [] = refl
here_only position (x ∷ xs) = grind (arith, nat_tests, here_only position xs)

-- the others are those from the next position on
after_only : (position : ℕ) (xs : List Reading) → filter (λ x. not (is_at position x))
    (from_position position xs) ≡ from_position (position + 1) xs
unfolding from_position is_at
after_only position [] = refl
after_only position (x ∷ xs) = grind (arith, nat_tests, after_only position xs)

-- if no reading is past a position, the readings from it on are the readings at it
last_only : (position : ℕ) (xs : List Reading) → Each (λ x. x.call.position ≤ position) xs
    → from_position position xs ≡ at_position position xs
unfolding from_position
last_only position [] h = refl
last_only position (x ∷ xs) h = let low = h.0 in grind (arith, nat_tests, last_only position xs h.1)

-- all lie from the first position on
from_first : (xs : List Reading) → from_position 0 xs ≡ xs
unfolding from_position
from_first [] = refl
from_first (x ∷ xs) =
    let test : nat_le 0 x.call.position ≡ true =
    grind (arith, nat_tests) in rw test (ap (λ ys. x ∷ ys) (from_first xs))

-- ---- the items of a history

-- the items from a position on: the readings there, then the change there, and so on
abbrev pub placed_from : ℕ → List Entry → List Reading → List Item
placed_from position [] xs = map reading_by (at_position position xs)
placed_from position (entry ∷ entries) xs = map reading_by
    (at_position position xs) ++ (change_at position entry ∷ placed_from (position + 1) entries xs)

-- readings as items have the same commands and replies
told_readings : (xs : List Reading) → map told_by (map reading_by xs) ≡ map told_by_reading xs
told_readings [] = refl
told_readings (x ∷ xs) = ap (λ ys. told_by_reading x ∷ ys) (told_readings xs)

-- the items have the commands and replies of the woven history
pub told_placed : (position : ℕ) (entries : List Entry) (xs : List Reading)
    → map told_by (placed_from position entries xs) ≡ woven_from position entries xs
told_placed position [] xs = told_readings (at_position position xs)
told_placed position (entry ∷ entries) xs =
    map-append told_by (map reading_by (at_position position xs))
    (change_at position entry ∷ placed_from (position + 1) entries xs)
    ∙ ap (λ ys. ys ++ (told_by_entry entry ∷ map told_by (placed_from (position + 1) entries xs)))
    (told_readings (at_position position xs))
    ∙ ap (λ ys. map told_by_reading (at_position position xs) ++ (told_by_entry entry ∷ ys))
    (told_placed (position + 1) entries xs)

-- two lists before a third, in the other order
exchange : (xs ys zs : List Item) → IsPermutation (xs ++ (ys ++ zs)) (ys ++ (xs ++ zs))
exchange xs ys zs = subst (λ ls. IsPermutation ls (ys ++ (xs ++ zs))) (append_assoc xs ys zs)
    (subst (λ ls. IsPermutation ((xs ++ ys) ++ zs) ls) (append_assoc ys xs zs) (IsPermutation-append_left zs (xs ++ ys) (ys ++ xs) (IsPermutation-append_comm xs ys)))

-- readings from a position on, as items
split : (position : ℕ) (xs : List Reading)
    → IsPermutation (map reading_by (from_position position xs))
    (map reading_by (at_position position xs) ++ map reading_by (from_position (position + 1) xs))
unfolding is_at
split position xs = let ys = from_position position xs in
    let both =
    IsPermutation-filter_both (is_at position) (λ x. not (is_at position x)) (λ x. refl) ys in
    let parted =
    subst (λ bs. IsPermutation ys (at_position position xs ++ bs)) (after_only position xs)
    (subst (λ heres. IsPermutation ys (heres ++ filter (λ x. not (is_at position x)) ys)) (here_only position xs) both) in
    subst (λ ls. IsPermutation (map reading_by ys) ls)
    (map-append reading_by (at_position position xs) (from_position (position + 1) xs))
    (IsPermutation-map reading_by ys (at_position position xs ++ from_position (position + 1) xs) parted)

-- the items from a position on are the changes, and the readings from there on
placed_moves : (position : ℕ) (entries : List Entry) (xs : List Reading)
    → Each (λ x. x.call.position ≤ position + length entries) xs
    → IsPermutation (changes_from position entries ++ map reading_by (from_position position xs))
    (placed_from position entries xs)
unfolding from_position
placed_moves position [] xs h =
    let low : Each (λ x. x.call.position ≤ position) xs =
    subst (λ n. Each (λ x. x.call.position ≤ n) xs)
    (let same : position + 0 ≡ position = omega arith in same) h in
    subst (λ ys. IsPermutation (map reading_by (from_position position xs)) (map reading_by ys))
    (last_only position xs low) (IsPermutation-refl (map reading_by (from_position position xs)))
placed_moves position (entry ∷ entries) xs h = let first = change_at position entry in
    let front = changes_from (position + 1) entries in
    let from = map reading_by (from_position position xs) in
    let here = map reading_by (at_position position xs) in
    let following = map reading_by (from_position (position + 1) xs) in
    let rest = placed_from (position + 1) entries xs in
    let later : Each (λ x. x.call.position ≤ position + 1 + length entries) xs =
    subst (λ n. Each (λ x. x.call.position ≤ n) xs)
    (let same : position + suc (length entries) ≡ position + 1 + length entries = omega arith in same) h in
    let one = IsPermutation-append_right front from (here ++ following) (split position xs) in
    let two =
    IsPermutation-trans (front ++ from) (front ++ (here ++ following))
    (here ++ (front ++ following)) one (exchange front here following) in
    let three = IsPermutation-cons first (front ++ from) (here ++ (front ++ following)) two in
    let four =
    IsPermutation-sym (here ++ first ∷ (front ++ following)) (first ∷ (here ++ (front ++ following)))
    (IsPermutation-middle here first (front ++ following)) in
    let five =
    IsPermutation-append_right here (first ∷ (front ++ following)) (first ∷ rest)
    (IsPermutation-cons first (front ++ following) rest (placed_moves (position + 1) entries xs later)) in
    IsPermutation-trans (first ∷ (front ++ from)) (first ∷ (here ++ (front ++ following)))
    (here ++ first ∷ rest) three
    (IsPermutation-trans (first ∷ (here ++ (front ++ following))) (here ++ first ∷ (front ++ following)) (here ++ first ∷ rest) four five)

-- the items in order are each change and each reading, once
pub placed_once : (pairs : List Pair) (words : ℕ) (log : Log) (passes : List PassCalls)
    → StandInPrefixes pairs words log passes
    → IsPermutation (items (changes_of pairs words log) passes)
    (placed_from 0 (changes_of pairs words log) (in_order (readings passes)))
placed_once pairs words log passes all = let entries = changes_of pairs words log in
    let xs = readings passes in
    let low =
    each_of (λ x. x.call.position ≤ 0 + length entries) (in_order xs)
    (λ x i. within x (among-in_order x xs i)) in
    let moves =
    subst (λ ys. IsPermutation (changes_from 0 entries ++ map reading_by ys) (placed_from 0 entries (in_order xs))) (from_first (in_order xs)) (placed_moves 0 entries (in_order xs) low) in
    IsPermutation-trans (items entries passes)
    (changes_from 0 entries ++ map reading_by (in_order xs)) (placed_from 0 entries (in_order xs))
    (IsPermutation-append_right (changes_from 0 entries) (map reading_by xs) (map reading_by (in_order xs)) (IsPermutation-map reading_by xs (in_order xs) (in_order_moves xs))) moves
  where
    within : (x : Reading) → Among x (readings passes)
        → x.call.position ≤ 0 + length (changes_of pairs words log)
    within x i = let it = of_passes passes x i in
        let stands =
        each-among (λ pass. (prefix : Log) × GoesOn prefix log × StandsIn pairs words prefix pass.number pass.calls) it.0 passes all it.1 in
        let on = changes_on (start pairs words) stands.0 log stands.1 in
        let read : IsRead (map_of pairs) (changes_of pairs words log) x.call =
        subst (λ es. IsRead (map_of pairs) es x.call) (sym on.1)
        (read_on (map_of pairs) (changes_of pairs words stands.0) on.0 x.call (stands.2.read x.call it.2.call it.2.plain)) in
        let low = read.within in omega arith
