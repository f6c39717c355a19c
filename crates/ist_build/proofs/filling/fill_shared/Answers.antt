use Rattle.ist_build.proofs.BackLemmas.{back_more, shared_back, shared_told, err_stopped}
use Rattle.ist_build.proofs.BlockLemmas.{fills_then}
use Rattle.ist_build.proofs.filling.fill_shared.Goals as goal

pub fill_unset-requires-clause-shared : goal.fill_unset-requires-clause-shared
fill_unset-requires-clause-shared c =
    shared_back _ _ c.args.shared c.fill_drawn.ensures.back c.requires.shared

pub returns-clause-back : goal.returns-clause-back
returns-clause-back c = back_more _ _ _ c.fill_drawn.ensures.back c.fill_unset.ensures.back

pub returns-clause-full : goal.returns-clause-full
returns-clause-full c = err_stopped _ _ _ _ _
    record { k = c.args.shared.keys; told = shared_told _ c.args.shared c.requires.shared }
    c.fill_drawn.ensures.back c.fill_unset.result c.fill_unset.ensures.full

pub returns-clause-few : goal.returns-clause-few
returns-clause-few c = fills_then _ _ c.fill_unset.new.who c.args.shared
    (c.fill_drawn.ensures.back, c.in_ok-fill_drawn.ensures.few) c.fill_unset.ensures.back
    c.fill_unset.result c.fill_unset.ensures.few
