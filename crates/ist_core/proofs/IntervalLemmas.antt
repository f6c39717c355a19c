-- Tests of two conditions, and pairs between two keys. Serves the reads of several keys.
use Rattle.std.proofs.Common.{◌≡◌, ℕ, ◌<◌, ◌≤◌, nat_le, Bool, ◌&&◌, true, false, List, ◌∷◌, refl, arith}
use Rattle.std.proofs.lemmas.Bool.Decides.{nat_tests}
use Rattle.ist_core.specs.Types.{Pair}
use Rattle.ist_core.specs.TreeTerms.{pairs_between}

-- if a conjunction is true, both parts are
pub both_true : (a b : Bool) → (a && b) ≡ true → (a ≡ true) × (b ≡ true)
both_true true b e = (refl, e)
both_true false b e = absurd (cc)

-- a key below the interval isn't in it
pub low_key : (from last key : ℕ) → key < from → (nat_le from key && nat_le key last) ≡ false
low_key from last key h = grind (arith, nat_tests)

-- a key above the interval isn't in it
pub high_key : (from last key : ℕ) → last < key → (nat_le from key && nat_le key last) ≡ false
high_key from last key h = grind (arith, nat_tests)

-- a key between its ends is in it
pub key_within : (from last key : ℕ) → from ≤ key → key ≤ last
    → (nat_le from key && nat_le key last) ≡ true
key_within from last key h k = grind (arith, nat_tests)

-- a first pair that isn't in the interval is left out
pub left_out : (from last : ℕ) (x : Pair) (pairs : List Pair)
    → (nat_le from x.key && nat_le x.key last) ≡ false
    → pairs_between from last (x ∷ pairs) ≡ pairs_between from last pairs
left_out from last x pairs e = rw e refl

-- a first pair that is in the interval is kept
pub kept : (from last : ℕ) (x : Pair) (pairs : List Pair)
    → (nat_le from x.key && nat_le x.key last) ≡ true
    → pairs_between from last (x ∷ pairs) ≡ x ∷ pairs_between from last pairs
kept from last x pairs e = rw e refl
