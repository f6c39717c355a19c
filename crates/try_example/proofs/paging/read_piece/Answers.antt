use Rattle.std.proofs.Common.{arith}
use Rattle.ist_live.proofs.PieceLemmas.{read_to_none, read_on, piece_ends, piece_full, piece_goes_on, read_to_more}
use Rattle.try_example.proofs.paging.read_piece.Goals as goal

-- nothing was read yet
pub pairs-init : goal.pairs-init
pairs-init c = read_to_none c.args.pass.now c.args.first c.args.last _ c.new-pairs.ensures.items c.requires.some

-- there is no pair from there on
pub returns-in_default : goal.returns-in_default
returns-in_default c = let fits = c.ranges.last.fits in record {
  read = read_on _ _ _ _ _ _ _ c.pairs.invariant c.at_least.ensures.read;
  piece = piece_ends _ _ _ _ _ _ _ c.pairs.invariant c.at_least.ensures.read
      (λ k low high. c.in_default.ensures.next k low (omega arith));
}

-- or only beyond the last key
pub returns-then-last-pair : goal.returns-then-last-pair
returns-then-last-pair c = let far = c.if-last-pair.true in record {
  read = read_on _ _ _ _ _ _ _ c.pairs.invariant c.at_least.ensures.read;
  piece = piece_ends _ _ _ _ _ _ _ c.pairs.invariant c.at_least.ensures.read
      (λ k low high. c.in-Some.ensures.next.2 k low (omega arith));
}

pub returns-in_err-push-clause-read : goal.returns-in_err-push-clause-read
returns-in_err-push-clause-read c = read_on _ _ _ _ _ _ _ c.pairs.invariant c.at_least.ensures.read

-- it is the pair of the last key
pub returns-then-pair-last : goal.returns-then-pair-last
returns-then-pair-last c = record {
  read = read_on _ _ _ _ _ _ _ c.pairs.invariant c.at_least.ensures.read;
  piece = piece_full _ _ _ _ _ _ _ c.pairs.invariant c.at_least.ensures.read c.in-Some.pair
      c.in-Some.ensures.next _ c.in_ok-push.ensures.items c.if-pair-last.true;
}

-- the piece is full
pub returns-then-len-ge-PAIRS : goal.returns-then-len-ge-PAIRS
returns-then-len-ge-PAIRS c = let near = c.if-last-pair.false in let other = c.if-pair-last.false in
    record {
      read = read_on _ _ _ _ _ _ _ c.pairs.invariant c.at_least.ensures.read;
      piece = piece_goes_on _ _ _ _ _ _ _ c.pairs.invariant c.at_least.ensures.read c.in-Some.pair
          c.in-Some.ensures.next _ c.in_ok-push.ensures.items (omega arith);
    }

-- it goes on after the pair
pub pairs-preserved : goal.pairs-preserved
pairs-preserved c = let near = c.if-last-pair.false in let other = c.if-pair-last.false in
    read_to_more _ _ _ _ _ _ _ c.pairs.invariant c.at_least.ensures.read c.in-Some.pair c.in-Some.ensures.next _
    c.in_ok-push.ensures.items (omega arith)
