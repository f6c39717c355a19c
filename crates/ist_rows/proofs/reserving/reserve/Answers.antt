use Rattle.std.proofs.Common.{sym, subst, ◌∙◌, rules}
use Rattle.ist_rule.specs.RuleTerms.{TokenFace}
use Rattle.ist_rows.specs.RowTerms.{kind_words, Reserved, MayTake}
use Rattle.ist_rows.proofs.CallerLemmas.{may_take}
use Rattle.ist_rows.proofs.CallerGoingLemmas.{caller_refused, caller_reserved}
use Rattle.ist_rows.proofs.reserving.reserve.Goals as goal

-- what the caller holds is fair with the row
pub take-requires-clause-fair : goal.take-requires-clause-fair
take-requires-clause-fair c =
    subst (MayTake c.args.who.now.token.view c.args.who.now.number) (sym c.words.ensures.value)
    (may_take c.args.who.now c.args.kind c.know.ensures.sound c.requires.caller.0
    (sym c.row.ensures.value ∙ c.in_default.is))

-- a refused caller is still a caller
pub returns-in_err-base-clause-caller : goal.returns-in_err-base-clause-caller
returns-in_err-base-clause-caller c = (
  caller_refused c.args.who.now c.take.new.token _ _ _ c.requires.caller.0 c.in_err-base.ensures.full,
  search rules,
)

-- a caller with the row is a caller
pub returns-clause-caller : goal.returns-clause-caller
returns-clause-caller c =
    let took = subst (λ size. Reserved c.args.who.now.token.view c.args.who.now.number
    c.in_ok-base.base size c.take.new.token.view) c.words.ensures.value
    c.in_ok-base.ensures.reserved in (
      caller_reserved c.args.who.now c.hold.new.self c.args.kind c.in_ok-base.base c.requires.caller.0
          (sym c.row.ensures.value ∙ c.in_default.is)
          (subst (λ (token : TokenFace). Reserved c.args.who.now.token.view c.args.who.now.number
          c.in_ok-base.base (kind_words c.args.kind) token.view) (sym c.hold.ensures.same.0) took)
          c.hold.ensures.same.1 c.hold.ensures.value,
      search rules,
    )
