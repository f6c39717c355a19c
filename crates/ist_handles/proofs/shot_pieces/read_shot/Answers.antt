-- The room has the first pairs of the interval in the shot.
use Rattle.std.proofs.Common.{take, refl, arith, ◌∙◌}
use Rattle.std.proofs.lemmas.List.{length-set, take_more_set}
use Rattle.ist_handles.specs.ShotPieces.{IsShotPiece}
use Rattle.ist_handles.proofs.PairLemmas.{piece_said}
use Rattle.ist_handles.proofs.ShotPieceLemmas.{read_to_none, walk_on, looked_on, read_on, bounds, piece_ends, piece_full, piece_goes_on}
use Rattle.ist_handles.proofs.shot_pieces.read_shot.Goals as goal

-- nothing was read yet
pub pairs-init : goal.pairs-init
pairs-init c = let w = c.walk-walk.ensures in record {
  read = read_to_none c.args.pass.now c.args.shot.now c.args.first c.args.last (take 0 c.args.room.now) refl;
  walk = record {
    shot_is = w.shot;
    first_is = w.first;
    last_is = w.last;
    given_is = w.given;
    way = w.way c.args.pass.now;
  };
  free = c.requires.some;
  room = refl;
}

-- the walk found no further pair
pub returns-in_default-clause-looked : goal.returns-in_default-clause-looked
returns-in_default-clause-looked c = let i = c.pairs.invariant in
    looked_on _ _ _ _ _ _ _ _ _ _ i.read i.walk c.next.ensures.looked c.next.ensures.by_pairs

pub returns-in_default-clause-pairs : goal.returns-in_default-clause-pairs
returns-in_default-clause-pairs c = let i = c.pairs.invariant in
    let e = c.last_piece-rest.ensures in
    piece_said (IsShotPiece _ _ _ _) _ _ _ c.pairs.room e.next e.count
    (piece_ends _ _ _ _ _ _ _ _ _ _ i.read i.walk c.next.ensures.looked c.next.ensures.by_pairs
    c.know.ensures.lawful c.in_default.is)

-- it found the pair of the last key
pub returns-then-pair-last-clause-looked : goal.returns-then-pair-last-clause-looked
returns-then-pair-last-clause-looked c = let i = c.pairs.invariant in
    looked_on _ _ _ _ _ _ _ _ _ _ i.read i.walk c.next.ensures.looked c.next.ensures.by_pairs

pub returns-then-pair-last-clause-pairs : goal.returns-then-pair-last-clause-pairs
returns-then-pair-last-clause-pairs c = let i = c.pairs.invariant in
    let e = c.last_piece-whole.ensures in piece_said (IsShotPiece _ _ _ _) _ _ _ _ e.next e.count
    (piece_full _ _ _ _ _ _ _ _ _ _ i.read i.walk c.next.ensures.looked c.next.ensures.by_pairs
    c.know.ensures.lawful c.requires.frozen c.in-Some.pair c.in-Some.is _
    (take_more_set c.pairs.room c.pairs.count _ i.free) c.if-pair-last.true)

-- there is a key after the pair
pub overflow_add-pair : goal.overflow_add-pair
overflow_add-pair c = let i = c.pairs.invariant in let other = c.if-pair-last.false in
    let fits = c.ranges.last.fits in
    let high = (bounds _ _ _ _ _ _ _ _ _ _ i.read i.walk c.next.ensures.looked c.next.ensures.by_pairs
    c.know.ensures.lawful c.requires.frozen c.in-Some.pair c.in-Some.is).1 in
    omega (arith, high)

-- the room is full
pub returns-then-count-room-clause-looked : goal.returns-then-count-room-clause-looked
returns-then-count-room-clause-looked c = let i = c.pairs.invariant in
    looked_on _ _ _ _ _ _ _ _ _ _ i.read i.walk c.next.ensures.looked c.next.ensures.by_pairs

pub returns-then-count-room-clause-pairs : goal.returns-then-count-room-clause-pairs
returns-then-count-room-clause-pairs c = let i = c.pairs.invariant in
    let e = c.next_piece-part.ensures in piece_said (IsShotPiece _ _ _ _) _ _ _ _ e.next e.count
    (piece_goes_on _ _ _ _ _ _ _ _ _ _ i.read i.walk c.next.ensures.looked c.next.ensures.by_pairs
    c.know.ensures.lawful c.requires.frozen c.in-Some.pair c.in-Some.is _
    (take_more_set c.pairs.room c.pairs.count _ i.free) c.if-pair-last.false)

-- it goes on after the pair
pub pairs-preserved : goal.pairs-preserved
pairs-preserved c = let i = c.pairs.invariant in
    let same = length-set c.pairs.room c.pairs.count _ in record {
      read = read_on _ _ _ _ _ _ _ _ _ _ i.read i.walk c.next.ensures.looked c.next.ensures.by_pairs
          c.know.ensures.lawful c.requires.frozen c.in-Some.pair c.in-Some.is _
          (take_more_set c.pairs.room c.pairs.count _ i.free);
      walk = walk_on _ _ _ _ _ _ _ _ i.walk c.next.ensures.one_walk c.in-Some.ensures.given
          c.next.ensures.way;
      free = let more = c.if-count-room.false in omega arith;
      room = same ∙ i.room;
    }
