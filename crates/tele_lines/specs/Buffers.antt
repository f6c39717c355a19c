-- Bytes that were taken from a source and are not yet read as lines, and where the first line ends in them.
use Rattle.std.specs.Prelude.{◌≡◌, ℕ, ◌+◌, ◌<◌, ◌≤◌, ◌==◌, ◌⊎◌, Bool, true, false, List, [], ◌++◌, length, Option, Some, None, IfSome, IsSome, option_map, if◌then◌else◌}
use Rattle.std.specs.List.{position_or_len}
use Rattle.tele_lines.specs.Lines.{newline, longest}

-- n more bytes were taken: the first of those that the source had left, appended to the old ones;
-- taking none is the end of the input
pub record FillsFrom (bytes : List ℕ) (now : Option (List ℕ)) (old new : List ℕ) (n : ℕ) : Type 0 where
  pub rest : List ℕ
  pub others : now ≡ Some rest
  pub same : new ++ rest ≡ old ++ bytes
  pub at_end : n ≡ 0 → bytes ≡ []

-- n more bytes were taken; which ones is known if the source's bytes are known
pub record Fills (left now : Option (List ℕ)) (old new : List ℕ) (n : ℕ) : Type 0 where
  pub longer : length new ≡ length old + n
  pub bytes : IfSome left (λ bytes. FillsFrom bytes now old new n)

-- the test for a newline
abbrev pub is_newline : ℕ → Bool
is_newline byte = byte == newline

-- no byte is a newline
abbrev pub IsUnbroken : List ℕ → Type 0
IsUnbroken bytes = position_or_len is_newline bytes ≡ length bytes

-- the first newline is at this place
pub record BreaksAt (bytes : List ℕ) (place : ℕ) : Type 0 where
  pub first : position_or_len is_newline bytes ≡ place
  pub within : place < length bytes

-- no newline will show where the first line ends: the input has, or the line is too long
pub record IsOpenEnded (bytes : List ℕ) (ended : Bool) : Type 0 where
  pub unbroken : IsUnbroken bytes
  pub why : (ended ≡ true) ⊎ (longest + 1 < length bytes)

-- where the first line ends: at a newline, or with the bytes
abbrev pub EndsAt : List ℕ → Bool → Option ℕ → Type 0
EndsAt bytes ended (Some place) = BreaksAt bytes place
EndsAt bytes ended None = IsOpenEnded bytes ended

-- what is still unread: the bytes in the buffer, then those that the source has left, if these are
-- known; after the end of the input the source has none
abbrev pub unread_of : List ℕ → Bool → Option (List ℕ) → Option (List ℕ)
unread_of buffer ended left = option_map (λ bytes. buffer ++ bytes) (if ended then Some [] else left)

-- the source's bytes are known, and none is left once its end was seen
pub record TellsEndOf (ended : Bool) (left : Option (List ℕ)) : Type 0 where
  pub told : IsSome left
  pub none : ended ≡ true → left ≡ Some []

-- how many bytes a read takes at most
abbrev pub piece_limit : ℕ
piece_limit = 4096

-- bytes were taken from a source that had these left, and the last read of them was made when the
-- end of the first line hadn't been taken: no newline was among the bytes kept and those taken before
pub record Refills (kept bytes : List ℕ) (now : Option (List ℕ)) : Type 0 where
  pub before : List ℕ
  pub piece : List ℕ
  pub rest : List ℕ
  pub left : now ≡ Some rest
  pub same : bytes ≡ before ++ (piece ++ rest)
  pub few : length piece ≤ piece_limit
  pub waits : IsUnbroken (kept ++ before)

-- a source that had these bytes left was read only while the end of the first line hadn't been taken
abbrev pub RefillsOnly : List ℕ → Bool → List ℕ → Option (List ℕ) → Type 0
RefillsOnly kept ended bytes now =
    (now ≡ Some bytes) ⊎ ((ended ≡ false) × Refills kept bytes now)
