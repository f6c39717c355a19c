-- What is read of the leaves of a finished node, as a function of them. Serves `reading`.
use Rattle.std.proofs.Common.{◌≡◌, ℕ, zero, suc, ◌+◌, ◌-◌, ◌<◌, ◌≤◌, nat_lt, true, if◌then◌else◌, List, [], ◌∷◌, ◌++◌, length, length-append, take, drop, map, slice_set, refl, sym, ap, ◌∙◌, ⊎_elim, append-nil, append_assoc, arith}
use Rattle.std.proofs.lemmas.Bool.{cases_lt}
use Rattle.std.proofs.lemmas.Bool.Decides.{nat_tests}
use Rattle.std.proofs.lemmas.List.{drop_all, length-take-le, take_more_set, length-set}
use Rattle.ist_core.specs.TreeTerms.{PlacedLeaf}
use Rattle.ist_build.specs.declared.reading.Cursor.{Cursor}
use Rattle.ist_build.specs.Reading.{Progress, read_one, read_all, HasRead}

-- ---- reading, as a function

-- in two parts
read_both : (room : ℕ) (xs ys : List PlacedLeaf) (p : Progress)
    → read_all room (xs ++ ys) p ≡ read_all room ys (read_all room xs p)
read_both room [] ys p = refl
read_both room (x ∷ xs) ys p = read_both room xs ys (read_one room x p)

-- leaves that are left out
read_skipped : (room : ℕ) (xs : List PlacedLeaf) (skip : ℕ) (got : List ℕ) → length xs ≤ skip
    → read_all room xs record { skip = skip; got = got }
    ≡ record { skip = skip - length xs; got = got }
read_skipped room [] skip got le = grind arith
read_skipped room (x ∷ xs) skip got le =
    let first : nat_lt 0 skip ≡ true = let some : 0 < skip = omega arith in grind (arith, nat_tests) in
    ap (read_all room xs) (ap (λ b. if b then record { skip = skip - 1; got = got }
    else (if nat_lt (length got) room then record { skip = 0; got = got ++ x.base ∷ [] }
    else record { skip = skip; got = got })) first)
    ∙ read_skipped room xs (skip - 1) got (omega arith)
    ∙ ap (λ n. record { skip = n; got = got })
    (let q : skip - 1 - length xs ≡ skip - length (x ∷ xs) = omega arith in q)

-- if there is no room, nothing is read
full_one : (room : ℕ) (x : PlacedLeaf) (p : Progress) → room ≤ length p.got
    → (read_one room x p).got ≡ p.got
full_one room x p full = grind (arith, nat_tests)

full_all : (room : ℕ) (xs : List PlacedLeaf) (p : Progress) → room ≤ length p.got
    → (read_all room xs p).got ≡ p.got
full_all room [] p full = refl
full_all room (x ∷ xs) p full = let one = full_one room x p full in let many = ap length one in
    full_all room xs (read_one room x p) (omega arith) ∙ one

take_none : (n : ℕ) (xs : List ℕ) → length xs ≡ 0 → take n xs ≡ []
take_none zero xs e = refl
take_none (suc n) [] e = refl
take_none (suc n) (x ∷ xs) e = absurd (omega arith)

-- what is read in all
pub read_is : (room : ℕ) (xs : List PlacedLeaf) (skip : ℕ) (got : List ℕ) → length got ≤ room
    → (read_all room xs record { skip = skip; got = got }).got
    ≡ got ++ take (room - length got) (map (λ x. x.base) (drop skip xs))
read_is room [] skip got le =
    sym (ap (λ ys. got ++ take (room - length got) (map (λ (x : PlacedLeaf). x.base) ys))
    (drop_all skip [] (omega arith)) ∙ ap (λ ys. got ++ ys) (take_none (room - length got) [] refl)
    ∙ append-nil got)
read_is room (x ∷ xs) (suc skip) got le =
    let first : nat_lt 0 (suc skip) ≡ true = let some : 0 < suc skip = omega arith in grind (arith, nat_tests) in
    ap (λ b. (read_all room xs (if b then record { skip = suc skip - 1; got = got }
    else (if nat_lt (length got) room then record { skip = 0; got = got ++ x.base ∷ [] }
    else record { skip = suc skip; got = got }))).got) first
    ∙ ap (λ n. (read_all room xs record { skip = n; got = got }).got)
    (let q : suc skip - 1 ≡ skip = omega arith in q)
    ∙ read_is room xs skip got le
read_is room (x ∷ xs) zero got le =
    ⊎_elim (more (λ g h. read_is room xs 0 g h)) full (cases_lt (length got) room)
  where
    full : room ≤ length got → (read_all room (x ∷ xs) record { skip = 0; got = got }).got
        ≡ got ++ take (room - length got) (map (λ (y : PlacedLeaf). y.base) (x ∷ xs))
    full h = full_all room (x ∷ xs) record { skip = 0; got = got } h
        ∙ sym (ap (λ n. got ++ take n (map (λ (y : PlacedLeaf). y.base) (x ∷ xs)))
        (let q : room - length got ≡ 0 = omega arith in q) ∙ append-nil got)

    more : ((g : List ℕ) → length g ≤ room → (read_all room xs record { skip = 0; got = g }).got
        ≡ g ++ take (room - length g) (map (λ (y : PlacedLeaf). y.base) (drop 0 xs)))
        → length got < room → (read_all room (x ∷ xs) record { skip = 0; got = got }).got
        ≡ got ++ take (room - length got) (map (λ (y : PlacedLeaf). y.base) (x ∷ xs))
    more again h = let test : nat_lt (length got) room ≡ true = grind (arith, nat_tests) in
        let long = length-append got (x.base ∷ []) in
        ap (λ b. (read_all room xs (if b then record { skip = 0; got = got ++ x.base ∷ [] }
        else record { skip = 0; got = got })).got) test
        ∙ again (got ++ x.base ∷ []) (omega arith)
        ∙ append_assoc got (x.base ∷ []) (take (room - length (got ++ x.base ∷ []))
        (map (λ (y : PlacedLeaf). y.base) xs))
        ∙ ap (λ n. got ++ x.base ∷ take n (map (λ (y : PlacedLeaf). y.base) xs))
        (let q : room - length (got ++ x.base ∷ []) ≡ room - length got - 1 = omega arith in q)
        ∙ ap (λ n. got ++ take n (x.base ∷ map (λ (y : PlacedLeaf). y.base) xs))
        (let q : suc (room - length got - 1) ≡ room - length got = omega arith in q)

-- ---- what a call has read

-- nothing more
pub read_none : (old : List ℕ) (at : Cursor) → at.count ≤ length old → HasRead old at [] old at
read_none old at le = record { size = refl; within = le; got = refl; skip = λ low. refl }

-- two readings, one after another, are one reading
pub read_more : (old mid new : List ℕ) (from via to : Cursor) (xs ys : List PlacedLeaf)
    → HasRead old from xs mid via → HasRead mid via ys new to → HasRead old from (xs ++ ys) new to
read_more old mid new from via to xs ys a b =
    grind (arith, read_both, length-take-le, full_all, cases_lt)

-- leaves that are left out
pub read_left_out : (old : List ℕ) (from to : Cursor) (leaves : List PlacedLeaf)
    → from.count ≤ length old → length leaves ≤ from.skip → to.count ≡ from.count
    → to.skip ≡ from.skip - length leaves → HasRead old from leaves old to
read_left_out old from to leaves le out count skip = grind (arith, read_skipped)

-- no room is left
pub read_full : (old new : List ℕ) (from to : Cursor) (xs ys : List PlacedLeaf)
    → HasRead old from xs new to → to.count ≡ length new → HasRead old from (xs ++ ys) new to
read_full old new from to xs ys h full = grind (arith, length-take-le, full_all, read_both)

-- one leaf: left out, or with no room, or taken
pub one_left_out : (old : List ℕ) (from : Cursor) (to : Cursor) (leaf : PlacedLeaf)
    → from.count ≤ length old → 0 < from.skip → to.count ≡ from.count → to.skip ≡ from.skip - 1
    → HasRead old from (leaf ∷ []) old to
one_left_out old from to leaf le some count skip = grind (arith, read_left_out)

-- with room and nothing to skip, a leaf is written at the count
pub one_taken : (old : List ℕ) (from : Cursor) (to : Cursor) (leaf : PlacedLeaf)
    → from.count < length old → from.skip ≤ 0 → to.count ≡ from.count + 1 → to.skip ≡ 0
    → HasRead old from (leaf ∷ []) (slice_set old from.count leaf.base) to
one_taken old from to leaf low none count skip =
    grind (arith, nat_tests, length-take-le, length-set, take_more_set)
