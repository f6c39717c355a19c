use Rattle.std.specs.Prelude.{Option, Some, None, IfSome}
use Rattle.tele_lines.proofs.CutLemmas.{no_whole}
use Rattle.tele_lines.proofs.PlaceLemmas.{one_after}
use Rattle.tele_lines.proofs.SparingLemmas.{needed_if}
use Rattle.tele_lines.proofs.reader.Lines.advance.Goals as goal

-- what follows from two facts of a value, if there is one
from_both : {A : Type 0} {P Q R : A → Type 0} (o : Option A) → IfSome o P → IfSome o Q
    → ((x : A) → P x → Q x → R x) → IfSome o R
from_both None p q f = tt
from_both (Some x) p q f = f x p q

-- a line was read, and the reading continues after it
pub returns-in-Ok-clause-line : goal.returns-in-Ok-clause-line
returns-in-Ok-clause-line g c = from_both c.cut.result c.cut.ensures.line c.cut.ensures.place
    (λ said line place goes_on. one_after _ _ said _ _ _ _ c.in-Ok.ensures.kept (place goes_on) goes_on (line goes_on _))

-- the end of the line has not been read yet
pub returns-in-Err-clause-waiting : goal.returns-in-Err-clause-waiting
returns-in-Err-clause-waiting g c = record {
  going = c.requires.going;
  open_end = c.in-Err.ensures.waiting.1;
  no_line = no_whole c.gather.new.buffer c.in-Err.ensures.waiting.0;
}

-- the source was read while no newline was in the buffer
pub returns-in-Ok-clause-sparing : goal.returns-in-Ok-clause-sparing
returns-in-Ok-clause-sparing g c = needed_if _ _ _ _ _ c.gather.ensures.sparing

pub returns-in-Err-clause-sparing : goal.returns-in-Err-clause-sparing
returns-in-Err-clause-sparing g c = needed_if _ _ _ _ _ c.gather.ensures.sparing
