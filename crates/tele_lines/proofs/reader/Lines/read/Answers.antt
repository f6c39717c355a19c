use Rattle.std.proofs.Common.{◌∙◌, ◌+◌, ap, take}
use Rattle.tele_lines.specs.Readings.{next_mode}
use Rattle.tele_lines.proofs.ModeLemmas.{reading-keeps}
use Rattle.tele_lines.proofs.reader.Lines.read.Goals as goal

-- no line changes the version that is in force
pub returns-in_default-clause-steady : goal.returns-in_default-clause-steady
returns-in_default-clause-steady c some = let self = c.args.self.now in
    c.mode_after-self.ensures.value ∙ ap (next_mode self.mode) c.read_line-said.ensures.value
    ∙ reading-keeps self.limit (self.count + 1) self.mode (take c.args.len c.bytes.result.now) some
