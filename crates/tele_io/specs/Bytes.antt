-- What one read gives and one write takes.
-- A stream whose bytes are known has `Some` of them, and any other has `None`.
use Rattle.std.specs.Prelude.{◌≡◌, ℕ, ◌+◌, ◌-◌, ◌^◌, ◌<◌, ◌≤◌, ◌⊎◌, min, List, [], ◌++◌, length, take, drop, Option, Some, None}

-- where a count stops
abbrev pub count_limit : ℕ
count_limit = 2 ^ 64 - 1

-- a count after one more
abbrev pub raised : ℕ → ℕ
raised count = min (count + 1) count_limit

-- a fault was counted since, or the count is at its end
abbrev pub HaveRisen : ℕ → ℕ → Type 0
HaveRisen before now = (before < now) ⊎ (now ≡ count_limit)

-- the buffer begins with the first n of the bytes that were left, and the others are left; giving
-- none means the end
pub record GivesFirst (bytes : List ℕ) (now : Option (List ℕ)) (n : ℕ) (buffer : List ℕ)
    : Type 0 where
  pub within : n ≤ length bytes
  pub given : take n buffer ≡ take n bytes
  pub others : now ≡ Some (drop n bytes)
  pub at_end : n ≡ 0 → bytes ≡ []

-- a read gave n bytes; which ones is known if the source's bytes are known
abbrev pub GivesBytes : Option (List ℕ) → Option (List ℕ) → ℕ → List ℕ → Type 0
GivesBytes (Some bytes) now n buffer = GivesFirst bytes now n buffer
GivesBytes None now n buffer = Unit {0}

-- a write appended these bytes to the sink's known bytes
abbrev pub Appends : Option (List ℕ) → Option (List ℕ) → List ℕ → Type 0
Appends (Some before) now bytes = now ≡ Some (before ++ bytes)
Appends None now bytes = Unit {0}

-- a write appended a prefix of these bytes to the sink's known bytes
abbrev pub AppendsPart : Option (List ℕ) → Option (List ℕ) → List ℕ → Type 0
AppendsPart before now bytes = (n : ℕ) × (n ≤ length bytes) × Appends before now (take n bytes)

-- the known bytes of a stream are unchanged
abbrev pub Keeps : Option (List ℕ) → Option (List ℕ) → Type 0
Keeps (Some before) now = now ≡ Some before
Keeps None now = Unit {0}
