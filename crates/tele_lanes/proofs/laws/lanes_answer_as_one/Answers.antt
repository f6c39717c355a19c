use Rattle.std.proofs.Common.{sym, subst, refl}
use Rattle.tele_lanes.specs.Lanes.{ArePlainAnswers, InLineOrder}
use Rattle.tele_lanes.proofs.AloneLemmas.{ArePlainAnswers-answered, answered-from_ArePlainAnswers, InLineOrder-answered, InLineOrder-one, get-replay_lane}
use Rattle.tele_lanes.proofs.laws.lanes_answer_as_one.Goals as goal

-- one thread's answers are in line order, and lists have one line order
pub returns-clause-answers : goal.returns-clause-answers
returns-clause-answers c = λ m workers tasks some up lanes all alone.
    let own = InLineOrder-answered m workers tasks lanes some up alone in (
      (λ ordered. subst (ArePlainAnswers m tasks) (sym (InLineOrder-one lanes _ _ ordered own)) (ArePlainAnswers-answered m tasks)),
      (λ one. subst (InLineOrder lanes) (sym (answered-from_ArePlainAnswers m tasks all one)) own),
    )

pub returns-clause-values : goal.returns-clause-values
returns-clause-values c = λ m workers commands key. get-replay_lane workers key m m commands refl
