use Rattle.std.proofs.Common.{◌++◌, ◌∙◌, ap, subst}
use Rattle.ist_live.proofs.ReadLemmas.{read_more}
use Rattle.ist_live.specs.Pieces.{IsPiece}
use Rattle.ist_live.proofs.PieceLemmas.{pieces_join}
use Rattle.try_example.proofs.paging.read_in_pieces.Goals as goal

-- it has read on, also if memory ran out
pub returns-in_err-piece-clause-read : goal.returns-in_err-piece-clause-read
returns-in_err-piece-clause-read c =
    read_more _ _ _ c.loop-next.invariant.read c.read_piece-in-Some.ensures.read

pub returns-in_err-extend_from_slice-clause-read : goal.returns-in_err-extend_from_slice-clause-read
returns-in_err-extend_from_slice-clause-read c =
    read_more _ _ _ c.loop-next.invariant.read c.read_piece-in-Some.ensures.read

-- the pieces so far and the next one are one piece
pub loop-next-preserved : goal.loop-next-preserved
loop-next-preserved c = record {
  read = read_more _ _ _ c.loop-next.invariant.read c.read_piece-in-Some.ensures.read;
  piece = pieces_join c.args.pass.now c.loop-next.pass _ c.args.first c.in-Some.from c.args.last _
      c.loop-next.pairs.items _ _ (c.in_ok-extend_from_slice.ensures.items
      ∙ ap (λ ys. c.loop-next.pairs.items ++ ys) c.as_slice.ensures.value) c.loop-next.invariant.read
      c.read_piece-in-Some.ensures.read
      (subst (λ o. IsPiece c.args.pass.now c.loop-next.pass c.args.first c.args.last o c.loop-next.pairs.items)
      c.in-Some.is c.loop-next.invariant.piece) c.in_ok-piece.ensures.piece;
}
