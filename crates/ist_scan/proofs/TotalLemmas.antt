-- Totals of pairs, one pair more at a time. Serves `shots.total_at` and `shots.list`.
use Rattle.std.proofs.Common.{◌≡◌, ℕ, ◌+◌, ◌-◌, ◌<◌, ◌≤◌, List, [], ◌∷◌, ◌++◌, zero, suc, length, take, drop, slice_get, slice_set, ◌≢◌, Option, Some, None, refl, sym, ap, ◌∙◌, arith}
use Rattle.std.proofs.lemmas.Bool.{cases_lt}
use Rattle.std.proofs.lemmas.List.Sums.{sum_by_push}
use Rattle.ist_core.proofs.AllWordLemmas.{slice_get-drop}
use Rattle.ist_core.specs.declared.pairs.Pair.{Pair}
use Rattle.ist_scan.specs.Cuts.{slice_of}
use Rattle.std.proofs.lemmas.List.{length-append}
use Rattle.ist_scan.specs.declared.totals.Total.{Total}
use Rattle.ist_scan.specs.Totals.{least_with, greatest_with, least_of, greatest_of, total_of}

least_swap : (a b : ℕ) (o : Option ℕ) → least_with a (least_with b o) ≡ least_with b (least_with a o)
least_swap a b None = ap Some (omega arith)
least_swap a b (Some c) = ap Some (omega arith)

-- the least value of some pairs and one more
pub least_more : (pairs : List Pair) (x : Pair)
    → least_of (pairs ++ x ∷ []) ≡ least_with x.value (least_of pairs)
least_more [] x = refl
least_more (y ∷ pairs) x =
    ap (least_with y.value) (least_more pairs x) ∙ least_swap y.value x.value (least_of pairs)

greatest_swap : (a b : ℕ) (o : Option ℕ)
    → greatest_with a (greatest_with b o) ≡ greatest_with b (greatest_with a o)
greatest_swap a b None = ap Some (omega arith)
greatest_swap a b (Some c) = ap Some (omega arith)

-- the greatest value of some pairs and one more
pub greatest_more : (pairs : List Pair) (x : Pair)
    → greatest_of (pairs ++ x ∷ []) ≡ greatest_with x.value (greatest_of pairs)
greatest_more [] x = refl
greatest_more (y ∷ pairs) x = ap (greatest_with y.value) (greatest_more pairs x)
    ∙ greatest_swap y.value x.value (greatest_of pairs)

take_more : (pairs : List Pair) (count : ℕ) (x : Pair) → slice_get pairs count ≡ Some x
    → take (suc count) pairs ≡ take count pairs ++ x ∷ []
take_more [] count x at = cc
take_more (y ∷ pairs) zero x at = let same : y ≡ x = cc in ap (λ p. p ∷ []) same
take_more (y ∷ pairs) (suc count) x at = ap (λ l. y ∷ l) (take_more pairs count x at)

-- the part with one pair more
pub part_more : (pairs : List Pair) (low i : ℕ) (x : Pair) → low ≤ i → slice_get pairs i ≡ Some x
    → slice_of pairs low (i + 1) ≡ slice_of pairs low i ++ x ∷ []
part_more pairs low i x order at = let here : low + (i - low) ≡ i = omega arith in
    let one : i + 1 - low ≡ suc (i - low) = omega arith in ap (λ n. take n (drop low pairs)) one
    ∙ take_more (drop low pairs) (i - low) x
    (slice_get-drop low pairs (i - low) ∙ ap (slice_get pairs) here ∙ at)

-- no pair is in an empty part
pub part_none : (pairs : List Pair) (i : ℕ) → slice_of pairs i i ≡ []
part_none pairs i = ap (λ n. take n (drop i pairs)) (let e : i - i ≡ 0 = omega arith in e)

-- a total with one pair more
pub total_more : (old new : Total) (pairs : List Pair) (x : Pair) → old ≡ total_of pairs
    → new.keys ≡ old.keys + 1 → new.sum ≡ old.sum + x.value
    → new.least ≡ least_with x.value old.least → new.greatest ≡ greatest_with x.value old.greatest
    → new ≡ total_of (pairs ++ x ∷ [])
total_more old new pairs x same keys sum least greatest =
    grind (arith, length-append, sum_by_push, least_more, greatest_more)

-- the total of a part with one pair more
pub part_total_more : (pairs : List Pair) (low i : ℕ) (x : Pair) (old new : Total) → low ≤ i
    → slice_get pairs i ≡ Some x → old ≡ total_of (slice_of pairs low i) → new.keys ≡ old.keys + 1
    → new.sum ≡ old.sum + x.value → new.least ≡ least_with x.value old.least
    → new.greatest ≡ greatest_with x.value old.greatest → new ≡ total_of (slice_of pairs low (i + 1))
part_total_more pairs low i x old new order at same keys sum least greatest =
    total_more old new (slice_of pairs low i) x same keys sum least greatest
    ∙ ap total_of (sym (part_more pairs low i x order at))

-- ---- a list of totals, one of which is written

-- an entry after a write to it
pub get_set_same : (totals : List Total) (i : ℕ) (x : Total) → i < length totals
    → slice_get (slice_set totals i x) i ≡ Some x
get_set_same [] i x within = absurd (omega arith)
get_set_same (t ∷ totals) zero x within = refl
get_set_same (t ∷ totals) (suc i) x within = get_set_same totals i x (omega arith)

-- another entry after a write
pub get_set_other : (totals : List Total) (i k : ℕ) (x : Total) → k ≢ i
    → slice_get (slice_set totals i x) k ≡ slice_get totals k
get_set_other [] i k x apart = refl
get_set_other (t ∷ totals) zero zero x apart = absurd (apart refl)
get_set_other (t ∷ totals) zero (suc k) x apart = refl
get_set_other (t ∷ totals) (suc i) zero x apart = refl
get_set_other (t ∷ totals) (suc i) (suc k) x apart = get_set_other totals i k x (omega arith)

-- so one entry more is what it must be
pub totals_more : (f : ℕ → Total) (totals : List Total) (j : ℕ) (x : Total) → j < length totals → x ≡ f j
    → ((k : ℕ) → k < j → slice_get totals k ≡ Some (f k)) → (k : ℕ) → k < j + 1
    → slice_get (slice_set totals j x) k ≡ Some (f k)
totals_more f totals j x within is before k low =
    grind (arith, get_set_other, get_set_same, cases_lt)
