use Rattle.std.proofs.Common.{ap, subst}
use Rattle.std.specs.Mem.Slots.{slots_items}
use Rattle.ist_rule.specs.RuleTerms.{View, TokenFace, IsLast}
use Rattle.ist_rule.proofs.OpenLemmas.{closes}
use Rattle.ist_rule.proofs.opening.close.Goals as goal

-- the words after the last step
pub returns-clause-words : goal.returns-clause-words
returns-clause-words c = subst (λ (v : View). IsLast v (slots_items c.close_with.result.words))
    (ap (λ (s : TokenFace). s.view) c.token.view_is)
    (closes _ _ _ _ _ c.token.invariant.1.live c.close_with.ensures.values.2)
