use Rattle.ist_find.proofs.SweepingLemmas.{end_read}
use Rattle.ist_find.proofs.sweeping.sweep_end.Goals as goal

-- the pair was read by loads, and appended if its key is asked for
pub returns-clause-read : goal.returns-clause-read
returns-clause-read c =
    end_read _ _ c.args.from c.args.read.to _ _ _ c.end_pair-pair.ensures.loads _
    c.end_pair-pair.ensures.values _ c.pair_within.ensures.within c.pair_within.ensures.value
    c.push_pair.result c.push_pair.ensures.found
