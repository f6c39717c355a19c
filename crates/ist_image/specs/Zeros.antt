-- Words after those of an image.
use Rattle.std.specs.Prelude.{◌≡◌, ℕ, ◌≤◌, ◌<◌, List, length, slice_get, Some}

-- the words are 0 from a place on
abbrev pub ZerosFrom : ℕ → List ℕ → Type 0
ZerosFrom from words =
    (place : ℕ) → from ≤ place → place < length words → slice_get words place ≡ Some 0

-- the memory has so many words, of which the last image has `count`, and those after the used ones are 0
pub record IsImageMemory (words : List ℕ) (count used : ℕ) : Type 0 where
  pub held : count ≤ length words
  pub within : used ≤ length words
  pub zeros : ZerosFrom used words
