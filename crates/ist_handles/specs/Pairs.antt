-- What a map has after some pairs were put, and what is written to a caller's memory.
use Rattle.std.specs.Prelude.{◌≡◌, ℕ, Bool, true, false, List, length, map, take, drop, ◌++◌, Option, Some, None}
use Rattle.ist_core.specs.Map.{no_pairs, pairs_of, replay}
use Rattle.ist_core.specs.declared.commands.Command.{Command}
use Rattle.ist_core.specs.declared.commands.Command.TheVariants.{Put}
use Rattle.ist_core.specs.declared.pairs.Pair.{Pair}
use Rattle.ist_handles.specs.declared.pieces.Piece.{Piece}
use Rattle.ist_handles.specs.Results.{done, no_key}

-- the room after the pairs were written over its first places, as many as there is room for
abbrev pub written : List Pair → List Pair → List Pair
written pairs room = take (length room) pairs ++ drop (length pairs) room

-- the puts of some pairs
abbrev pub puts_of : List Pair → List Command
puts_of pairs = map (λ p. Put p.key p.value) pairs

-- the pairs that a plain map has after all of these were put, one after another: of pairs with one
-- key the last
abbrev pub pairs_given : List Pair → List Pair
pairs_given pairs = pairs_of (replay no_pairs (puts_of pairs))

-- the pair was written to the place, or this is as before if there is none
pub data Wrote : Option Pair → ℕ → Pair → Pair → Type 0 where
  wrote_pair : (pair before : Pair) → Wrote (Some pair) done before pair
  wrote_none : (place : Pair) → Wrote None no_key place place

-- the key, if there is one
abbrev pub key_if : Bool → ℕ → Option ℕ
key_if true key = Some key
key_if false key = None

-- the key to go on from, if keys are left
abbrev pub next_key : Piece → Option ℕ
next_key piece = key_if piece.more piece.next
