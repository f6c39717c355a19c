use Rattle.std.proofs.Common.{◌≡◌, None, IfSome, sym, subst, ◌∙◌}
use Rattle.ist_core.specs.LogTerms.{same_log}
use Rattle.ist_core.proofs.AllLogLemmas.{goes_on_more}
use Rattle.ist_map.specs.declared.hands.Hand.{Hand}
use Rattle.ist_map.specs.Hands.{seen_by}
use Rattle.ist_map.specs.Refusing.{IsRefusalOn}
use Rattle.ist_map.proofs.HandLemmas.{all_again}
use Rattle.ist_map.proofs.RefusalLemmas.{refusal_later}
use Rattle.ist_map.proofs.hands.+dismiss_all.Goals as goal

-- the first keeps its worker and its refusal, and so do the others
pub returns-in-Some-clause-done : goal.returns-in-Some-clause-done
returns-in-Some-clause-done g t c =
    let Done : Hand g.row.W.Denot → Type 0
    = λ h. h.refused ≡ None → h.stopped ≡ None → g.W.Worker.is_done h.worker in
    all_again Done Done _ _ _ _ _ c.in-Some.ensures.cases.0
    (λ done none unasked. subst g.W.Worker.is_done (sym c.dismiss.ensures.worker)
    (done (sym c.dismiss.ensures.refused ∙ none) (sym c.dismiss.ensures.left ∙ unasked)))
    c.dismiss_all.ensures.done

-- the maker has seen what all passes had seen
pub returns-in_default-clause-seen : goal.returns-in_default-clause-seen
returns-in_default-clause-seen g t c = same_log

pub returns-in-Some-clause-seen : goal.returns-in-Some-clause-seen
returns-in-Some-clause-seen g t c = goes_on_more c.dismiss_all.ensures.seen c.dismiss.ensures.seen

-- so that each refusal is one by then
pub returns-in-Some-clause-refused : goal.returns-in-Some-clause-refused
returns-in-Some-clause-refused g t c =
    all_again (λ (h : Hand g.row.W.Denot). IfSome h.refused (IsRefusalOn c.args.tree.now (seen_by h.pass)))
    (λ h. IfSome h.refused (IsRefusalOn c.args.tree.now c.dismiss.new.maker.seen))
    _ _ _ _ _ c.in-Some.ensures.cases.0
    (λ was. subst (λ r. IfSome r (IsRefusalOn c.args.tree.now c.dismiss.new.maker.seen))
    (sym c.dismiss.ensures.refused) (refusal_later _ _ _ _ c.dismiss.ensures.pass_seen was))
    (λ all k d low. refusal_later _ _ _ _ c.dismiss.ensures.seen (c.dismiss_all.ensures.refused all k d low))
