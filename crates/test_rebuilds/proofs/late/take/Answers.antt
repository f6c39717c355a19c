use Rattle.ist_rule.specs.RuleTerms.{word_count_of}
use Rattle.ist_updates.proofs.TakeLemmas.{taken}
use Rattle.test_rebuilds.proofs.late.take.Goals as goal

-- the caller has reserved the row, or held it
pub returns-clause-gone : goal.returns-clause-gone
returns-clause-gone c =
    (taken _ _ c.args.kind (word_count_of c.args.table.now) c.requires.caller.0 c.requires.refused
    c.know.ensures.sound _ record {
      caller = c.reserve-taken.ensures.caller.0;
      number = c.reserve-taken.ensures.number;
      held = c.reserve-taken.ensures.held;
      fresh = c.reserve-taken.ensures.reserved;
      full = c.reserve-taken.ensures.full;
    }).gone
