-- Bytes that were taken from a source, and those that it has left.
use Rattle.std.specs.Prelude.{◌≡◌, ℕ, ◌<◌, ◌≤◌, ◌⊎◌, List, [], ◌++◌, length, get_or, Option, Some, None}

-- each element is a byte
abbrev pub AreBytes : List ℕ → Type 0
AreBytes bytes = (i : ℕ) → get_or bytes i 0 < 256

-- the new bytes are the old ones and perhaps more after them
abbrev pub Extends : List ℕ → List ℕ → Type 0
Extends old new = (more : List ℕ) × (new ≡ old ++ more)

-- the bytes that were taken, followed by those that are left, are the same as before, if the
-- source's bytes are known
abbrev pub TakesBytes : Option (List ℕ) → Option (List ℕ) → List ℕ → List ℕ → Type 0
TakesBytes (Some left) now old new =
    (rest : List ℕ) × (now ≡ Some rest) × (new ++ rest ≡ old ++ left)
TakesBytes None now old new = Unit {0}

-- this many bytes were taken, or all that the source had
abbrev pub AreEnough : Option (List ℕ) → ℕ → List ℕ → Type 0
AreEnough now count taken = (count ≤ length taken) ⊎ (now ≡ Some [])
