use Rattle.std.proofs.Common.{subst, arith}
use Rattle.tele_io.specs.Bytes.{AppendsPart}
use Rattle.tele_io.proofs.OutcomeLemmas.{at_refusal, on_err}
use Rattle.tele_audit.proofs.PieceLemmas.{dumped_out, dumped_word, dumped_part}
use Rattle.tele_audit.proofs.dumps.write_dump.Goals as goal

-- a part of the piece was written
pub returns-in_err-make_room-clause-part : goal.returns-in_err-make_room-clause-part
returns-in_err-make_room-clause-part g c = let used = c.word-used.ensures.value in
    let less = c.loop-place-test.true in at_refusal c.from_residual.result
    (dumped_part _ _ _ _ _ _ c.loop-place.invariant.dumped (omega arith)
    c.in_err-make_room.ensures.part)

-- one more word
pub loop-place-preserved : goal.loop-place-preserved
loop-place-preserved g c = let high = c.requires.lawful.1.holds.bounds.high in
    let used = c.word-used.ensures.value in let less = c.loop-place-test.true in record {
      dumped = dumped_word _ _ _ _ _ _ _
          (dumped_out _ _ _ _ _ _ _ c.loop-place.invariant.dumped c.in_ok-make_room.ensures.moved)
          (omega arith) c.word.ensures.value c.push_number-in-loop-place.ensures.added;
      counted = omega (arith, c.loop-place.invariant.counted, c.in_ok-make_room.ensures.counted);
    }

-- a part of the last piece
pub returns-clause-part : goal.returns-clause-part
returns-clause-part g c = let used = c.word-used.ensures.value in
    let end = c.loop-place.auto.place-end in on_err c.write_whole.result c.write_whole.ensures.part
    (λ part. dumped_part _ _ _ _ _ _ c.loop-place.invariant.dumped (omega arith)
    (subst (AppendsPart (g.O.Sink.written c.loop-place.out)
    (g.O.Sink.written c.write_whole.new.out)) c.as_slice.ensures.value part))
