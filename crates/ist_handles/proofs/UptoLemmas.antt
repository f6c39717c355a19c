-- The first pairs of an interval, up to one of them. Serves `read_shot`.
use Rattle.std.proofs.Common.{◌≡◌, ℕ, zero, suc, ◌<◌, ◌≤◌, nat_le, ◌&&◌, false, List, [], ◌∷◌, take, slice_get, Some, refl, sym, ap, subst, ◌∙◌, ⊎_elim, arith}
use Rattle.std.proofs.lemmas.Bool.{cases_lt}
use Rattle.ist_core.specs.declared.pairs.Pair.{Pair}
use Rattle.ist_core.specs.TreeTerms.{pairs_between}
use Rattle.ist_core.proofs.AllPlaceLemmas.{low_key, high_key, key_within, left_out, kept}

-- of two pairs the first has the lower key
abbrev pub Rise : List Pair → Type 0
Rise all = (i j : ℕ) (x y : Pair) → slice_get all i ≡ Some x → slice_get all j ≡ Some y → i < j → x.key < y.key

-- a pair is one of all, with a key between both ends
abbrev pub IsInside : List Pair → ℕ → ℕ → Pair → Type 0
IsInside all first last x = (j : ℕ) × (slice_get all j ≡ Some x) × (first ≤ x.key) × (x.key ≤ last)

-- ---- one pair before others

-- ---- a pair of an interval

later : (p : Pair) (ps : List Pair) (first last : ℕ) (x : Pair) → IsInside ps first last x
    → IsInside (p ∷ ps) first last x
later p ps first last x f = (suc f.0, f.1, f.2, f.3)

at_first : (p : Pair) (ps : List Pair) (first last : ℕ) → first ≤ p.key → p.key ≤ last
    → ((n : ℕ) (x : Pair) → slice_get (pairs_between first last ps) n ≡ Some x → IsInside ps first last x)
    → (n : ℕ) (x : Pair) → slice_get (p ∷ pairs_between first last ps) n ≡ Some x
    → IsInside (p ∷ ps) first last x
at_first p ps first last from to rest zero x at = grind arith
at_first p ps first last from to rest (suc n) x at = later p ps first last x (rest n x at)

-- a pair of an interval is one of all, between both ends
pub inside : (all : List Pair) (first last n : ℕ) (x : Pair)
    → slice_get (pairs_between first last all) n ≡ Some x → IsInside all first last x
inside [] first last n x at = absurd (cc)
inside (p ∷ ps) first last n x at =
    let Other : Type 0 = (nat_le first p.key && nat_le p.key last) ≡ false in
    let skip : Other → IsInside (p ∷ ps) first last x = λ e. later p ps first last x
    (inside ps first last n x (subst (λ l. slice_get l n ≡ Some x) (left_out first last p ps e) at)) in
    ⊎_elim (λ (low : p.key < first). skip (low_key first last p.key low))
    (λ (from : first ≤ p.key). ⊎_elim (λ (high : last < p.key). skip (high_key first last p.key high))
    (λ (to : p.key ≤ last). at_first p ps first last from to (inside ps first last) n x
    (subst (λ l. slice_get l n ≡ Some x) (kept first last p ps (key_within first last p.key from to)) at))
    (cases_lt last p.key)) (cases_lt p.key first)

-- ---- up to a pair

-- above a key there are none up to it
none_upto : (ps : List Pair) (first key : ℕ)
    → ((j : ℕ) (y : Pair) → slice_get ps j ≡ Some y → key < y.key) → pairs_between first key ps ≡ []
none_upto [] first key above = refl
none_upto (p ∷ ps) first key above =
    left_out first key p ps (high_key first key p.key (above 0 p refl))
    ∙ none_upto ps first key (λ j y at. above (suc j) y at)

module _ (p : Pair) (ps : List Pair) (first last : ℕ)
    (rest : (n : ℕ) (x : Pair) → slice_get (pairs_between first last ps) n ≡ Some x
    → take (suc n) (pairs_between first last ps) ≡ pairs_between first x.key ps) where
  -- after a pair that is left out
  upto_out : (n : ℕ) (x : Pair) → (nat_le first p.key && nat_le p.key last) ≡ false
      → (nat_le first p.key && nat_le p.key x.key) ≡ false
      → slice_get (pairs_between first last (p ∷ ps)) n ≡ Some x
      → take (suc n) (pairs_between first last (p ∷ ps)) ≡ pairs_between first x.key (p ∷ ps)
  upto_out n x out other at = grind (arith, left_out)

  -- after a pair that is kept
  upto_in : first ≤ p.key → ((j : ℕ) (y : Pair) → slice_get ps j ≡ Some y → p.key < y.key)
      → (n : ℕ) (x : Pair) → slice_get (p ∷ pairs_between first last ps) n ≡ Some x
      → take (suc n) (p ∷ pairs_between first last ps) ≡ pairs_between first x.key (p ∷ ps)
  upto_in from above zero x at = let same : p ≡ x = cc in
      subst (λ (q : Pair). p ∷ [] ≡ pairs_between first q.key (p ∷ ps)) same
      (sym (kept first p.key p ps (key_within first p.key p.key from (omega arith))
      ∙ ap (λ l. p ∷ l) (none_upto ps first p.key above)))
  upto_in from above (suc n) x at = grind (arith, inside, kept, key_within)

-- the first pairs of an interval, up to one of them, are those up to its key
pub upto : (all : List Pair) → Rise all → (first last n : ℕ) (x : Pair)
    → slice_get (pairs_between first last all) n ≡ Some x
    → take (suc n) (pairs_between first last all) ≡ pairs_between first x.key all
upto [] rises first last n x at = absurd (cc)
upto (p ∷ ps) rises first last n x at =
    let rest = upto ps (λ i j y z at_i at_j low. rises (suc i) (suc j) y z at_i at_j (omega arith)) first last in
    let here = kept first last p ps in
    ⊎_elim (λ (low : p.key < first). upto_out p ps first last rest n x (low_key first last p.key low)
    (low_key first x.key p.key low) at)
    (λ (from : first ≤ p.key). ⊎_elim (λ (high : last < p.key).
    (let to = (inside (p ∷ ps) first last n x at).3 in
    upto_out p ps first last rest n x (high_key first last p.key high)
    (high_key first x.key p.key (omega (arith, to))) at))
    (λ (to : p.key ≤ last). (let keep = here (key_within first last p.key from to) in
    ap (take (suc n)) keep
    ∙ upto_in p ps first last rest from (λ j y at_j. rises 0 (suc j) p y refl at_j (omega arith)) n x
    (subst (λ l. slice_get l n ≡ Some x) keep at)))
    (cases_lt last p.key)) (cases_lt p.key first)
