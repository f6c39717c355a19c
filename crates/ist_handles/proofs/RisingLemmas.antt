-- Pairs whose keys rise are those of the map after all of them were put. Serves `are_rising`.
use Rattle.std.proofs.Common.{◌≡◌, ◌∙◌, ℕ, suc, ◌<◌, Bool, true, false, cond, Option, Some, List, [], ◌∷◌, length, refl, sym, ap, arith, ◌&&◌, not, filter}
use Rattle.std.specs.Cmp.{nat_cmp_total}
use Rattle.std.specs.Ordering.{eq_by_cmp, nat_cmp, is_lt}
use Rattle.ist_core.specs.declared.pairs.Pair.{Pair}
use Rattle.ist_core.specs.TreeTerms.{Map, map_of, no_pairs, pairs_of, replay}
use Rattle.plain_map.specs.Place.{key_at}
use Rattle.plain_map.specs.Rising.{IsRising}
use Rattle.plain_map.proofs.PlaceLemmas.{pairs_of-map_of}
use Rattle.plain_map.proofs.RisingLemmas.{key_at-rises}
use Rattle.ist_handles.specs.Pairs.{pairs_given, puts_of}
use Rattle.std.specs.List.Sorted.{ties, IsStableByKey}
use Rattle.std.specs.FinMap as fin

cond_swap : (a b : Bool) (x y z : Option ℕ) → (a ≡ true → b ≡ true → ⊥) → cond a x (cond b y z) ≡ cond b y (cond a x z)
cond_swap true true x y z not_both = absurd (not_both refl refl)
cond_swap true false x y z not_both = refl
cond_swap false true x y z not_both = refl
cond_swap false false x y z not_both = refl

apart : (key p q : ℕ) → p < q → eq_by_cmp nat_cmp key q ≡ true → eq_by_cmp nat_cmp key p ≡ true → ⊥
apart key p q below is_q is_p = grind (arith, below, is_q, is_p)

-- two puts of distinct keys may change places
put_swap : (m : Map) (p q : Pair) → p.key < q.key
    → fin.insert (fin.insert m p.key p.value) q.key q.value ≡ fin.insert (fin.insert m q.key q.value) p.key p.value
put_swap m p q below = fin.same_map nat_cmp_total fin.nat_cmp-IsAntisymmetric _ _ (λ key.
    fin.get-insert nat_cmp_total (fin.insert m p.key p.value) q.key q.value key
    ∙ ap (cond (eq_by_cmp nat_cmp key q.key) (Some q.value)) (fin.get-insert nat_cmp_total m p.key p.value key)
    ∙ cond_swap (eq_by_cmp nat_cmp key q.key) (eq_by_cmp nat_cmp key p.key) _ _ _ (apart key p.key q.key below)
    ∙ sym (fin.get-insert nat_cmp_total (fin.insert m q.key q.value) p.key p.value key
    ∙ ap (cond (eq_by_cmp nat_cmp key p.key) (Some p.value)) (fin.get-insert nat_cmp_total m q.key q.value key)))

-- so a put may come after those of greater keys
put_later : (m : Map) (p : Pair) (ps : List Pair) → ((j : ℕ) → j < length ps → p.key < key_at ps j)
    → replay (fin.insert m p.key p.value) (puts_of ps) ≡ fin.insert (replay m (puts_of ps)) p.key p.value
put_later m p [] above = refl
put_later m p (q ∷ ps) above =
    ap (λ n. replay n (puts_of ps)) (put_swap m p q (above 0 (omega arith)))
    ∙ put_later (fin.insert m q.key q.value) p ps (λ j low. above (suc j) (omega (arith, low)))

all_put : (ps : List Pair) → ((i j : ℕ) → i < j → j < length ps → key_at ps i < key_at ps j)
    → replay no_pairs (puts_of ps) ≡ map_of ps
all_put [] rises = refl
all_put (p ∷ ps) rises =
    put_later no_pairs p ps (λ j low. rises 0 (suc j) (omega arith) (omega (arith, low)))
    ∙ ap (λ n. fin.insert n p.key p.value)
    (all_put ps (λ i j before low. rises (suc i) (suc j) (omega (arith, before)) (omega (arith, low))))

pub rising_given : (ps : List Pair) → IsRising ps → pairs_given ps ≡ ps
rising_given ps rising = ap pairs_of (all_put ps (key_at-rises ps rising)) ∙ pairs_of-map_of ps rising

-- ---- a stable sort of pairs by their keys changes nothing of the map after their puts.

-- the value of the last of these pairs, or this one if there are none
abbrev last_or : Option ℕ → List Pair → Option ℕ
last_or before [] = before
last_or before (e ∷ es) = last_or (Some e.value) es

-- the pair ties with the key
abbrev ties_with : ℕ → Pair → Bool
ties_with key e = ties (λ (x y : Pair). is_lt (nat_cmp x.key y.key)) (record { key = key; value = 0 }) e

ties-key : (x y : ℕ) → (not (is_lt (nat_cmp x y)) && not (is_lt (nat_cmp y x))) ≡ eq_by_cmp nat_cmp x y
ties-key x y = grind arith

last-cond : (b : Bool) (before : Option ℕ) (e : Pair) (es : List Pair)
    → last_or (cond b (Some e.value) before) es ≡ last_or before (cond b (e ∷ es) es)
last-cond true before e es = refl
last-cond false before e es = refl

-- after the puts a key has the value of the last pair with this key
get-puts : (m : Map) (es : List Pair) (key : ℕ)
    → fin.get (replay m (puts_of es)) key ≡ last_or (fin.get m key) (filter (ties_with key) es)
get-puts m [] key = refl
get-puts m (e ∷ es) key = let rest : List Pair = filter (ties_with key) es in
    get-puts (fin.insert m e.key e.value) es key
    ∙ ap (λ o. last_or o rest) (fin.get-insert nat_cmp_total m e.key e.value key
    ∙ ap (λ b. cond b (Some e.value) (fin.get m key)) (sym (ties-key key e.key)))
    ∙ last-cond (ties_with key e) (fin.get m key) e rest

-- so the puts of sorted pairs make the same map
pub sorted_given : (xs ys : List Pair) → IsStableByKey (λ (p : Pair). p.key) nat_cmp xs ys
    → pairs_given ys ≡ pairs_given xs
sorted_given xs ys stable =
    ap pairs_of (fin.same_map nat_cmp_total fin.nat_cmp-IsAntisymmetric _ _ (λ key.
    get-puts no_pairs ys key ∙ ap (last_or (fin.get no_pairs key)) (stable (record { key = key; value = 0 }))
    ∙ sym (get-puts no_pairs xs key)))
