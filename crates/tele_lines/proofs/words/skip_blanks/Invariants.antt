use Rattle.std.proofs.Common.{◌≡◌, drop}
use Rattle.tele_lines.specs.Lines.{words_in_line}
use Rattle.tele_lines.proofs.words.skip_blanks.Given as goal

-- what was skipped is in no word
abbrev pub invariant-loop-place : goal.invariant-loop-place
invariant-loop-place l = words_in_line (drop l.place l.bytes) ≡ words_in_line l.fn.bytes
