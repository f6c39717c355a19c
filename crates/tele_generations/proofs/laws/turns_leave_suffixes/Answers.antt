use Rattle.tele_generations.proofs.WholeLemmas.{suffixes_begin, suffixes_go_on, lanes_leave, line_leaves}
use Rattle.tele_generations.proofs.laws.turns_leave_suffixes.Goals as goal

pub returns : goal.returns
returns c = record {
  begins = suffixes_begin;
  goes_on = suffixes_go_on;
  lanes = lanes_leave;
  one_line = line_leaves;
}
