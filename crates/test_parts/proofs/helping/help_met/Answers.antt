use Rattle.std.proofs.Common.{◌∙◌, ap, rules}
use Rattle.ist_rule.specs.declared.view.View.{View}
use Rattle.ist_rule.proofs.EventLemmas.{looked_goes_on}
use Rattle.ist_rule.proofs.WentOnLemmas.{went_all}
use Rattle.ist_rows.specs.RowTerms.{IsCaller}
use Rattle.ist_rows.proofs.CallerGoingLemmas.{caller_goes_on}
use Rattle.ist_rows.proofs.CallerLawLemmas.{caller_went, caller_begun}
use Rattle.ist_dcss.proofs.ResolvedLemmas.{serves_keep}
use Rattle.test_parts.proofs.PutLemmas.{put_met}
use Rattle.test_parts.proofs.helping.help_met.Goals as goal
use Rattle.test_parts.proofs.helping.help_met.Goals.{After-load_top-met}

-- a caller that began a search and made a load is still a caller
still : (c : After-load_top-met) → IsCaller (record c.args.who.now { token = c.load_top-met.new.token })
still c = caller_goes_on _ c.load_top-met.new.token (caller_begun c.args.who.now c.begin_search.new.token
    c.requires.caller.0 c.begin_search.ensures.begun) (looked_goes_on _ _ _ _ c.load_top-met.ensures.looked)

-- the caller has met the change
pub help-requires-clause-may_help : goal.help-requires-clause-may_help
help-requires-clause-may_help c =
    put_met _ _ _ _ (caller_begun c.args.who.now c.begin_search.new.token c.requires.caller.0
    c.begin_search.ensures.begun).mine c.load_top-met.ensures.looked
    (c.if-met-to_word.true ∙ c.to_word.ensures.value)

pub returns-clause-caller : goal.returns-clause-caller
returns-clause-caller c = (still (goal.at.returns-clause-caller c).After-load_top-met, search rules)

-- and so it is when it has helped
pub returns-then-met-to_word-clause-caller : goal.returns-then-met-to_word-clause-caller
returns-then-met-to_word-clause-caller c = (
  caller_went _ c.help.new.token
      (still (goal.at.returns-then-met-to_word-clause-caller c).After-load_top-met)
      (went_all _ _ (serves_keep 6) _ _ c.help.ensures.went),
  search rules,
)

pub returns-clause-in_same_call : goal.returns-clause-in_same_call
returns-clause-in_same_call c = ap (λ (v : View). v.pending) c.load_top-met.ensures.looked.view
    ∙ ap (λ (v : View). v.pending) c.begin_search.ensures.begun.view
