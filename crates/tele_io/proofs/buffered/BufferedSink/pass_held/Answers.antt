use Rattle.std.proofs.Common.{sym}
use Rattle.std.proofs.lemmas.List.{take_rest, drop-drop}
use Rattle.tele_io.proofs.BufferLemmas.{keeps_passed}
use Rattle.tele_io.proofs.buffered.BufferedSink.pass_held.Goals as goal

-- the others are held still
pub returns-else-is_ok-clause-kept : goal.returns-else-is_ok-clause-kept
returns-else-is_ok-clause-kept g c = let items = c.args.self.now.bytes.items in
    let from = c.args.self.now.from in
    let taken = rw (take_rest, c.deref.ensures.value) at c.write_out-taken.ensures.taken in
    keeps_passed _ _ _ _ c.write_out-taken.result.0 taken (sym (drop-drop c.write_out-taken.result.0 from items))
