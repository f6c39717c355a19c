use Rattle.std.proofs.Common.{◌∙◌, map, IfSome, sym, ap, subst}
use Rattle.std.proofs.lemmas.List.Elements.{All-map}
use Rattle.ist_rest.specs.RestingWords.{HoldPairs}
use Rattle.ist_tree.specs.CallTerms.{TreeFace}
use Rattle.ist_map.specs.Growing.{words_for_tree}
use Rattle.ist_map.specs.Hands.{calls_by, first_stop}
use Rattle.ist_map.specs.Refusing.{WasRefusedOn}
use Rattle.ist_map.proofs.HandLemmas.{all_worked, none_asked}
use Rattle.ist_map.proofs.RunLemmas.{refused_on, run_one}
use Rattle.ist_reopen.specs.Generations.{generation_of}
use Rattle.ist_map.proofs.running.Map.run_once.Goals as goal

-- the workers ran on one tree, which was opened over the words and closed with its maker
pub returns-clause-ran : goal.returns-clause-ran
returns-clause-ran g c = let opened = c.in_ok-tree.ensures.new in let new = opened.opens.new in
    let hired = c.hire_all.ensures in let left = c.dismiss_all.ensures in
    let same_tree = left.same_tree ∙ hired.same_tree ∙ new.same_tree in
    run_one _ _ _ _ _ _ _ c.dismiss_all.new.maker
    (subst (λ (t : TreeFace). HoldPairs c.args.self.now.closed t.start) (sym same_tree) opened.opens.holds)
    (c.close.ensures.words ∙ sym c.words.ensures.value)
    (c.words.ensures.value ∙ new.words_is ∙ opened.words_is
    ∙ ap (λ (t : TreeFace). words_for_tree c.args.words t.start) (sym same_tree))
    c.close.ensures.stands
    (all_worked (λ h. g.W.Worker.told h.worker) (λ h. calls_by h.pass) _ _ _ _ _ _ _ _ c.dismiss_all.new.maker hired.told left.told
    c.work_all.ensures.told (c.work_all.auto.hands ∙ c.hire_all.auto.hands) new.made new.taken hired.made
    hired.taken left.made left.taken hired.numbers c.work_all.ensures.numbers)
    (All-map (λ r. IfSome r (WasRefusedOn (generation_of _ _ c.close.ensures.stands)))
    (λ h. h.refused) c.dismiss_all.new.hands (λ k d low. refused_on _ _ c.close.ensures.stands _ same_tree
    c.close.ensures.words _ (left.refused c.work_all.ensures.refused k d low)))

-- none stopped by a handle by which no stop is requested
pub returns-clause-unasked : goal.returns-clause-unasked
returns-clause-unasked g c never = ap first_stop c.dismiss_all.ensures.left
    ∙ none_asked (λ h. h.stopped) c.work_all.new.hands c.work_all.ensures.unasked never
