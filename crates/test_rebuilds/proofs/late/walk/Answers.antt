use Rattle.std.proofs.Common.{[], arith}
use Rattle.ist_rule.proofs.SearchedOnLemmas.{searched_more, searching_on, went_searched}
use Rattle.ist_rule.proofs.WentOnLemmas.{goes_on_went, went_more}
use Rattle.ist_find.proofs.SearchLemmas.{begun_comes}
use Rattle.test_rebuilds.proofs.late.walk.Goals as goal

pub step_down-top-requires-clause-come : goal.step_down-top-requires-clause-come
step_down-top-requires-clause-come c = ([], begun_comes _ _ c.args.key c.begin_search.ensures.begun)

pub step_down-child-requires-clause-come : goal.step_down-child-requires-clause-come
step_down-child-requires-clause-come c = (
  _,
  c.step_down-top.ensures.down [] _ (begun_comes _ _ c.args.key c.begin_search.ensures.begun)
      (c.inner_in.ensures.inner _ c.in-Some.is),
)

pub step_down-child-requires-clause-top : goal.step_down-child-requires-clause-top
step_down-child-requires-clause-top c is =
    let up = c.step_down-top.ensures.above _ (c.inner_in.ensures.inner _ c.in-Some.is) in absurd (omega arith)

-- whose slot holds no row
pub returns-in-None : goal.returns-in-None
returns-in-None c =
    let come = c.step_down-top.ensures.down [] _ (begun_comes _ _ c.args.key c.begin_search.ensures.begun)
    (c.inner_in.ensures.inner _ c.in-Some.is) in
    record {
      walked = record {
        went = searched_more _ _ _ _ (searching_on _ _ _ c.begin_search.ensures.begun)
            (went_searched _ _ _ (went_more _ _ _ _ (goes_on_went _ _ _ c.step_down-top.ensures.seen)
            (goes_on_went _ _ _ c.step_down-child.ensures.seen)));
        at = record {
          came = (_, c.step_down-child.ensures.stays _ come);
          child = c.step_down-child.ensures.index;
          holds = c.step_down-child.ensures.word;
          names = c.step_down-child.ensures.named;
          set = c.step_down-child.ensures.set;
          low = c.inner_in-2.ensures.no_inner c.in-None.is;
        };
      };
    }
