-- What is written to a caller's memory. Serves `pairs.rt`, `pieces.rt` and `shot_pieces.rt`.
use Rattle.std.proofs.Common.{◌≡◌, ℕ, List, take, Option, Some, None, sym, subst, arith}
use Rattle.ist_core.specs.declared.pairs.Pair.{Pair}
use Rattle.ist_handles.specs.declared.pieces.Piece.{Piece}
use Rattle.ist_handles.specs.Results.{done, no_key}
use Rattle.ist_handles.specs.Pairs.{Wrote, wrote_pair, wrote_none, next_key}

-- a pair that there is was written
pub wrote_some : (found : Option Pair) (pair before : Pair) → found ≡ Some pair → Wrote found done before pair
wrote_some found pair before is =
    subst (λ (o : Option Pair). Wrote o done before pair) (sym is) (wrote_pair pair before)

-- if there is none, the place is as before
pub wrote_not : (found : Option Pair) (place : Pair) → found ≡ None → Wrote found no_key place place
wrote_not found place is = subst (λ (o : Option Pair). Wrote o no_key place place) (sym is) (wrote_none place)

-- what is said of the pairs written is so of those that the piece counts
pub piece_said : (Says : Option ℕ → List Pair → Type 0) (piece : Piece) (next : Option ℕ) (count : ℕ)
    (room : List Pair) → next_key piece ≡ next → piece.count ≡ count → Says next (take count room)
    → Says (next_key piece) (take piece.count room)
piece_said Says piece next count room next_is count_is says = grind arith
