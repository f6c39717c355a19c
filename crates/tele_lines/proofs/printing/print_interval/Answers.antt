use Rattle.std.proofs.Common.{◌∙◌, subst}
use Rattle.std.proofs.lemmas.Result.{on_err_weaker}
use Rattle.tele_io.specs.Bytes.{Appends}
use Rattle.tele_io.proofs.AppendsLemmas.{AppendsPart-append}
use Rattle.tele_lines.proofs.printing.print_interval.Goals as goal

-- the first line, and then a part of the pairs
pub returns-clause-part : goal.returns-clause-part
returns-clause-part g c = let e = c.as_slice.ensures.value ∙ c.count_line-text.ensures.value in
    on_err_weaker c.print_pairs.result
    (AppendsPart-append _ _ _ _ _ (subst (Appends _ _) e c.in_ok-write_whole.ensures.whole)) c.print_pairs.ensures.part
