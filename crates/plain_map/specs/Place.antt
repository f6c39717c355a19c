-- The place of a key in a list of pairs, or the place where it would be inserted.
use Rattle.std.specs.Prelude.{◌≡◌, ℕ, ◌<◌, ◌≤◌, List, length, slice_index_or}
use Rattle.ist_core.specs.declared.pairs.Pair.{Pair}

-- the key of the pair at a place, and 0 past the end
abbrev pub key_at : List Pair → ℕ → ℕ
key_at pairs i = (slice_index_or pairs i (record { key = 0; value = 0 })).key

-- the pair at place i has the key
pub record IsAt (pairs : List Pair) (key i : ℕ) : Type 0 where
  pub within : i < length pairs
  pub has_key : key_at pairs i ≡ key

-- no pair has the key: it is above the keys before place i, and below those from i on
pub record IsGapFor (pairs : List Pair) (key i : ℕ) : Type 0 where
  pub within : i ≤ length pairs
  pub below : (j : ℕ) → j < i → key_at pairs j < key
  pub above : (j : ℕ) → i ≤ j → j < length pairs → key < key_at pairs j
