-- Words that are set one after another. Serves `laying.rt` and `rows.rt`.
use Rattle.std.proofs.Common.{◌≡◌, ◌∙◌, ◌+◌, ◌-◌, ◌<◌, ◌≤◌, ℕ, suc, List, [], ◌∷◌, ◌++◌, length, map, refl, ap, arith}
use Rattle.std.proofs.lemmas.List.{set_comm}
use Rattle.std.specs.List.{range_with_len}
use Rattle.std.proofs.Math.ListN.{set}
use Rattle.std.proofs.lemmas.List.Edits.{sets}

-- setting two joined lists is setting the first, and then the second after it
pub sets-append : (words : List ℕ) (at : ℕ) (xs ys : List ℕ)
    → sets words at (xs ++ ys) ≡ sets (sets words at xs) (at + length xs) ys
sets-append words at [] ys = ap (λ i. sets words i ys) (let e : at ≡ at + 0 = omega arith in e)
sets-append words at (x ∷ xs) ys = sets-append (set words at x) (suc at) xs ys
    ∙ ap (λ i. sets (sets (set words at x) (suc at) xs) i ys)
    (let e : suc at + length xs ≡ at + length (x ∷ xs) = omega arith in e)

-- of words that are made by an index, the next one is set
pub set_made : (f : ℕ → ℕ) (words : List ℕ) (at next j d x : ℕ) → j < d → x ≡ f j → at + 1 ≡ next
    → sets words at (map f (range_with_len j (d - j)))
    ≡ sets (set words at x) next (map f (range_with_len (j + 1) (d - (j + 1))))
set_made f words at next j d x h e n = grind (arith, sets, set)

-- after the last one none is set
pub none_made : (f : ℕ → ℕ) (words : List ℕ) (at j d : ℕ) → j ≡ d
    → sets words at (map f (range_with_len j (d - j))) ≡ words
none_made f words at j d e = grind (arith, sets)

-- a word and words after it may be set in either order
set-sets : (words : List ℕ) (at x base : ℕ) (ys : List ℕ) → at < base
    → set (sets words base ys) at x ≡ sets (set words at x) base ys
set-sets words at x base [] h = refl
set-sets words at x base (y ∷ ys) h = set-sets (set words base y) at x (suc base) ys (omega arith)
    ∙ ap (λ ws. sets ws (suc base) ys) (set_comm words base at y x (λ same. omega arith))

-- words and others after them may be set in either order
pub sets-sets : (words : List ℕ) (at base : ℕ) (xs ys : List ℕ) → at + length xs ≤ base
    → sets (sets words base ys) at xs ≡ sets (sets words at xs) base ys
sets-sets words at base [] ys h = refl
sets-sets words at base (x ∷ xs) ys h =
    ap (λ ws. sets ws (suc at) xs) (set-sets words at x base ys (omega arith))
    ∙ sets-sets (set words at x) (suc at) base xs ys (omega arith)
