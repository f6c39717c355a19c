use Rattle.std.proofs.Common.{◌-◌, ◌∙◌}
use Rattle.tele_lines.proofs.BufferLemmas.{filled}
use Rattle.tele_lines.proofs.buffers.Buffer.fill.Goals as goal

-- what was read follows what was moved to the front
pub returns-clause-filled : goal.returns-clause-filled
returns-clause-filled g c = let read = c.in_ok-count.ensures in
    filled c.read_after.new.bytes c.args.self.now
    (c.self.inside.end - c.self.inside.start) c.in_ok-count.count _ _
    (read.front ∙ c.to_front.ensures.moved ∙ c.self.view_is) read.within read.given
