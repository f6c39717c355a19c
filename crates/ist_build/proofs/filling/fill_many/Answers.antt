use Rattle.ist_rows.proofs.FewStepLemmas.{few_call}
use Rattle.ist_build.specs.Calls.{parts_words}
use Rattle.ist_build.proofs.BackLemmas.{back_more, err_stopped}
use Rattle.ist_build.proofs.FewLemmas.{after_back}
use Rattle.ist_build.proofs.BlockLemmas.{fills_parts}
use Rattle.ist_build.proofs.filling.fill_many.Goals as goal

pub returns : goal.returns
returns c = let e = c.shared_root-shared.ensures in let f = c.fill_shared.ensures in record {
  back = back_more _ _ _ e.back f.back;
  few = few_call c.fill_shared.result (parts_words c.args.target.keys) 0 _ _ _ e.none
      (after_back _ _ f.back)
      (rw e.keys at (fills_parts c.fill_shared.result c.shared_root-shared.new.who c.fill_shared.new.who _
      e.shared f.few));
  filled = rw e.rebuild at f.filled;
  full = err_stopped _ _ _ _ _ record { k = c.args.target.keys; told = c.requires.told } e.back
      c.fill_shared.result (rw e.rebuild at f.full);
}
