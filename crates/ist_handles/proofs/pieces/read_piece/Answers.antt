-- The room has the pairs that were found so far.
use Rattle.std.proofs.Common.{take, refl, arith, ◌∙◌}
use Rattle.std.proofs.lemmas.List.{length-set, take_more_set}
use Rattle.ist_live.specs.Pieces.{IsPiece}
use Rattle.ist_live.proofs.ReadLemmas.{read_not}
use Rattle.ist_live.proofs.PieceLemmas.{read_to_none, read_on, piece_none, piece_ends, piece_full, piece_goes_on, read_to_more}
use Rattle.ist_handles.proofs.PairLemmas.{piece_said}
use Rattle.ist_handles.proofs.pieces.read_piece.Goals as goal

-- there are no keys
pub returns-then-last-first-clause-read : goal.returns-then-last-first-clause-read
returns-then-last-first-clause-read c = read_not c.args.pass.now

pub returns-then-last-first-clause-pairs : goal.returns-then-last-first-clause-pairs
returns-then-last-first-clause-pairs c = let e = c.last_piece-empty.ensures in
    piece_said (IsPiece _ _ _ _) _ _ _ c.args.room.now e.next e.count
    (piece_none c.args.pass.now c.args.first c.args.last (take 0 c.args.room.now) refl c.if-last-first.true)

-- nothing was read yet
pub pairs-init : goal.pairs-init
pairs-init c = let some = c.if-last-first.false in record {
  read = read_to_none c.args.pass.now c.args.first c.args.last (take 0 c.args.room.now) refl (omega arith);
  free = c.requires.some;
  room = refl;
}

-- there is no pair from there on
pub returns-in_default-clause-read : goal.returns-in_default-clause-read
returns-in_default-clause-read c =
    read_on _ _ _ _ _ _ _ c.pairs.invariant.read c.at_least.ensures.read

pub returns-in_default-clause-pairs : goal.returns-in_default-clause-pairs
returns-in_default-clause-pairs c = let fits = c.ranges.last.fits in
    let e = c.last_piece-rest.ensures in
    piece_said (IsPiece _ _ _ _) _ _ _ c.pairs.room e.next e.count
    (piece_ends _ _ _ _ _ _ _ c.pairs.invariant.read c.at_least.ensures.read
    (λ k low high. c.in_default.ensures.next k low (omega arith)))

-- or only beyond the last key
pub returns-then-last-pair-clause-read : goal.returns-then-last-pair-clause-read
returns-then-last-pair-clause-read c =
    read_on _ _ _ _ _ _ _ c.pairs.invariant.read c.at_least.ensures.read

pub returns-then-last-pair-clause-pairs : goal.returns-then-last-pair-clause-pairs
returns-then-last-pair-clause-pairs c = let far = c.if-last-pair.true in
    let e = c.last_piece-below.ensures in
    piece_said (IsPiece _ _ _ _) _ _ _ c.pairs.room e.next e.count
    (piece_ends _ _ _ _ _ _ _ c.pairs.invariant.read c.at_least.ensures.read
    (λ k low high. c.in-Some.ensures.next.2 k low (omega arith)))

-- it is the pair of the last key
pub returns-then-pair-last-clause-read : goal.returns-then-pair-last-clause-read
returns-then-pair-last-clause-read c =
    read_on _ _ _ _ _ _ _ c.pairs.invariant.read c.at_least.ensures.read

pub returns-then-pair-last-clause-pairs : goal.returns-then-pair-last-clause-pairs
returns-then-pair-last-clause-pairs c = let e = c.last_piece-whole.ensures in
    piece_said (IsPiece _ _ _ _) _ _ _ _ e.next e.count
    (piece_full _ _ _ _ _ _ _ c.pairs.invariant.read c.at_least.ensures.read c.in-Some.pair
    c.in-Some.ensures.next _ (take_more_set c.pairs.room c.pairs.count _ c.pairs.invariant.free)
    c.if-pair-last.true)

-- the room is full
pub returns-then-count-room-clause-read : goal.returns-then-count-room-clause-read
returns-then-count-room-clause-read c =
    read_on _ _ _ _ _ _ _ c.pairs.invariant.read c.at_least.ensures.read

pub returns-then-count-room-clause-pairs : goal.returns-then-count-room-clause-pairs
returns-then-count-room-clause-pairs c = let near = c.if-last-pair.false in
    let other = c.if-pair-last.false in let e = c.next_piece-part.ensures in
    piece_said (IsPiece _ _ _ _) _ _ _ _ e.next e.count
    (piece_goes_on _ _ _ _ _ _ _ c.pairs.invariant.read c.at_least.ensures.read c.in-Some.pair
    c.in-Some.ensures.next _ (take_more_set c.pairs.room c.pairs.count _ c.pairs.invariant.free) (omega arith))

-- it goes on after the pair
pub pairs-preserved : goal.pairs-preserved
pairs-preserved c = let near = c.if-last-pair.false in let other = c.if-pair-last.false in
    let same = length-set c.pairs.room c.pairs.count _ in record {
      read = read_to_more _ _ _ _ _ _ _ c.pairs.invariant.read c.at_least.ensures.read c.in-Some.pair
          c.in-Some.ensures.next _ (take_more_set c.pairs.room c.pairs.count _ c.pairs.invariant.free)
          (omega arith);
      free = let more = c.if-count-room.false in omega arith;
      room = same ∙ c.pairs.invariant.room;
    }
