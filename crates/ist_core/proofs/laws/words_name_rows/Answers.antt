use Rattle.std.proofs.Common.{refl}
use Rattle.ist_core.specs.WordTerms.{ref_of, Inner}
use Rattle.ist_core.specs.LogTerms.{state_of}
use Rattle.ist_core.proofs.NamingLemmas.{slot_names}
use Rattle.ist_core.proofs.OrderLemmas.{names, names_row}
use Rattle.ist_core.proofs.ShapedLemmas.{shaped}
use Rattle.ist_core.proofs.laws.words_name_rows.Goals as goal

pub returns : goal.returns
returns c = record {
  slots = λ pairs words log lawful node i word slot.
      names_row (state_of pairs words log) node i word (ref_of word) refl
      (slot_names (state_of pairs words log) node i word
      (names pairs words lawful.opens log lawful.enabled) slot);
  degree = λ pairs words log lawful node row e. shaped pairs words log lawful.enabled node
      (Inner row) e;
}
