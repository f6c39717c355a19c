use Rattle.tele_audit.proofs.PackLemmas.{packed_told, packed_listed}
use Rattle.tele_audit.proofs.laws.packed_lines_are_listed.Goals as goal

pub returns : goal.returns
returns c = let lawful = c.standing_words_hold_the_map.ensures.lawful in record {
  told = packed_told lawful;
  listed = packed_listed lawful c.lawful_words_break_nowhere.ensures.nowhere
      c.pairs_are_one.ensures.one;
}
