-- Bytes that are written piece by piece.
use Rattle.std.specs.Prelude.{◌≡◌, ℕ, List, ◌++◌, take, length, Option}
use Rattle.std.specs.List.{flat_map}
use Rattle.tele_io.specs.Bytes.{Appends}
use Rattle.tele_audit.specs.Dumps.{magic, number_bytes}

-- a prefix of the piece was written, and the rest stays
pub record MovesOut (before now : Option (List ℕ)) (old new : List ℕ) : Type 0 where
  pub moved : List ℕ
  pub writes : Appends before now moved
  pub whole : moved ++ new ≡ old

-- what was written, followed by the piece, is the dump up to this place
pub record HasDumped (before now : Option (List ℕ)) (words piece : List ℕ) (place : ℕ) : Type 0 where
  pub written : List ℕ
  pub writes : Appends before now written
  pub so_far : written ++ piece
      ≡ magic ++ number_bytes (length words) ++ flat_map number_bytes (take place words)
