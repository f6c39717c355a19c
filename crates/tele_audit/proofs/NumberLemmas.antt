-- Numbers as eight bytes, and words as numbers one after another. Serves `numbers`, `tables` and
-- the laws.
use Rattle.std.proofs.Common.{◌≡◌, ℕ, zero, suc, ◌+◌, ◌*◌, ◌<◌, ◌≤◌, ◌^◌, List, [], ◌∷◌, ◌++◌, length, take, drop, get_or, refl, sym, ap, ◌∙◌, arith}
use Rattle.std.specs.Int.{w64, from_le_bytes}
use Rattle.std.specs.List.{flat_map}
use Rattle.std.proofs.lemmas.Nat.{le_bytes_8, from_le_bytes-to_le_bytes_8}
use Rattle.std.proofs.lemmas.List.{drop-drop, take-append-le, drop-append-le, length-take-le, length-drop, length-append, get_or-drop, take-append-drop, append_assoc, take_at, drop_at}
use Rattle.tele_audit.specs.Dumps.{number_bytes}
use Rattle.tele_audit.specs.Flaws.{number_encoded, numbers_in}
use Rattle.tele_audit.specs.Taking.{AreBytes}

-- ---- bytes

-- numbers below a bound, of which some first are taken
pub below-take : (bound n : ℕ) (xs : List ℕ) → 0 < bound → ((i : ℕ) → get_or xs i 0 < bound)
    → (i : ℕ) → get_or (take n xs) i 0 < bound
below-take bound zero xs some h i = some
below-take bound (suc n) [] some h i = some
below-take bound (suc n) (x ∷ xs) some h zero = h 0
below-take bound (suc n) (x ∷ xs) some h (suc i) = below-take bound n xs some (λ j. h (suc j)) i

-- bytes after the first n are still bytes
pub bytes-drop : (n : ℕ) (bytes : List ℕ) → AreBytes bytes → AreBytes (drop n bytes)
bytes-drop n bytes h i = rw get_or-drop (h (n + i))

-- ---- one number

-- a number is determined by its own eight bytes
pub number_encoded_front : (xs ys : List ℕ) → 8 ≤ length xs → number_encoded (xs ++ ys) ≡ number_encoded xs
unfolding number_encoded
number_encoded_front xs ys long = ap (from_le_bytes w64) (take-append-le 8 xs ys long)

-- a number that lies within the first bytes is determined by them
pub number_encoded_inside : (n : ℕ) (xs ys : List ℕ) → n + 8 ≤ length xs
    → number_encoded (drop n (xs ++ ys)) ≡ number_encoded (drop n xs)
number_encoded_inside n xs ys long =
    grind (arith, length-drop, drop-append-le, number_encoded_front)

-- eight bytes are the encoding of the number that they encode
pub number_bytes-number_encoded : (bytes : List ℕ) → AreBytes bytes → 8 ≤ length bytes
    → number_bytes (number_encoded bytes) ≡ take 8 bytes
unfolding number_bytes number_encoded
number_bytes-number_encoded bytes h long =
    le_bytes_8 (take 8 bytes) (from_le_bytes w64 (take 8 bytes)) (length-take-le 8 bytes long)
    (below-take 256 8 bytes (omega arith) h) refl

-- a number is encoded in eight bytes
pub length-number_bytes : (n : ℕ) → length (number_bytes n) ≡ 8
unfolding number_bytes
length-number_bytes n = refl

-- a number is what its eight bytes say
pub number_encoded-number_bytes : (n : ℕ) (rest : List ℕ) → n < 2 ^ 64
    → number_encoded (number_bytes n ++ rest) ≡ n
unfolding number_bytes number_encoded
number_encoded-number_bytes n rest fits = grind (arith, take_at, from_le_bytes-to_le_bytes_8)

-- ---- many numbers

-- the list has this many numbers
pub length_numbers_in : (count : ℕ) (bytes : List ℕ) → length (numbers_in count bytes) ≡ count
unfolding numbers_in
length_numbers_in zero bytes = refl
length_numbers_in (suc count) bytes = ap suc (length_numbers_in count (drop 8 bytes))

-- number i is encoded by the eight bytes from place 8 * i on
pub get_or_numbers_in : (count : ℕ) (bytes : List ℕ) (i : ℕ) → i < count
    → get_or (numbers_in count bytes) i 0 ≡ number_encoded (drop (8 * i) bytes)
unfolding numbers_in
get_or_numbers_in zero bytes i less = absurd (omega arith)
get_or_numbers_in (suc count) bytes zero less = refl
get_or_numbers_in (suc count) bytes (suc i) less = let e : 8 + 8 * i ≡ 8 * suc i = omega arith in
    get_or_numbers_in count (drop 8 bytes) i (omega arith)
    ∙ ap number_encoded (drop-drop (8 * i) 8 bytes ∙ ap (λ n. drop n bytes) e)

-- the bytes of the numbers that some bytes are
pub bytes_of_numbers : (count : ℕ) (bytes : List ℕ) → AreBytes bytes → length bytes ≡ 8 * count
    → flat_map number_bytes (numbers_in count bytes) ≡ bytes
unfolding numbers_in
bytes_of_numbers zero [] h e = refl
bytes_of_numbers zero (x ∷ xs) h e = absurd (omega arith)
bytes_of_numbers (suc count) bytes h e = let l = length-drop 8 bytes in
    let rest = numbers_in count (drop 8 bytes) in
    ap (λ (xs : List ℕ). xs ++ flat_map number_bytes rest)
    (number_bytes-number_encoded bytes h (omega arith))
    ∙ ap (λ xs. take 8 bytes ++ xs)
    (bytes_of_numbers count (drop 8 bytes) (bytes-drop 8 bytes h) (omega arith))
    ∙ take-append-drop 8 bytes

-- the numbers that the bytes of some numbers are
pub numbers_of_bytes : (numbers rest : List ℕ) → ((i : ℕ) → get_or numbers i 0 < 2 ^ 64)
    → numbers_in (length numbers) (flat_map number_bytes numbers ++ rest) ≡ numbers
unfolding numbers_in
numbers_of_bytes [] rest fit = refl
numbers_of_bytes (n ∷ numbers) rest fit = let more = flat_map number_bytes numbers in
    let e = append_assoc (number_bytes n) more rest in
    let first : number_encoded ((number_bytes n ++ more) ++ rest) ≡ n =
    ap number_encoded e ∙ number_encoded-number_bytes n (more ++ rest) (fit 0) in
    let others : drop 8 ((number_bytes n ++ more) ++ rest) ≡ more ++ rest =
    ap (drop 8) e ∙ drop_at (number_bytes n) (more ++ rest) 8 (length-number_bytes n) in
    ap (λ (x : ℕ). x ∷ numbers_in (length numbers) (drop 8 ((number_bytes n ++ more) ++ rest))) first
    ∙ ap (λ xs. n ∷ numbers_in (length numbers) xs) others
    ∙ ap (λ (xs : List ℕ). n ∷ xs) (numbers_of_bytes numbers rest (λ i. fit (suc i)))

-- the encoding of some numbers has eight bytes for each
pub length-flat_bytes : (numbers : List ℕ)
    → length (flat_map number_bytes numbers) ≡ 8 * length numbers
length-flat_bytes [] = refl
length-flat_bytes (n ∷ numbers) =
    let a = length-append (number_bytes n) (flat_map number_bytes numbers) in
    let b = length-number_bytes n in let c = length-flat_bytes numbers in omega arith

-- ---- the words of a dump

module _ (used : ℕ) (bytes words : List ℕ) (place : ℕ) (is : numbers_in used (drop 16 bytes) ≡ words)
    (within : place < length words) where
  -- a place within the words is the place of a used word
  pub place_told : place < used
  place_told = grind (arith, length_numbers_in)

  -- it follows the first 16 bytes
  pub word_told : get_or words place 0 ≡ number_encoded (drop (16 + 8 * place) bytes)
  word_told = ap (λ xs. get_or xs place 0) (sym is)
      ∙ get_or_numbers_in used (drop 16 bytes) place place_told
      ∙ ap number_encoded (drop-drop (8 * place) 16 bytes)
