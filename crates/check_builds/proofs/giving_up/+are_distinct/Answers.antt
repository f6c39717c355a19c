use Rattle.std.proofs.Common.{◌↔◌, IsTrue, get_or, subst, sym}
use Rattle.ist_core.specs.LogTerms.{Among}
use Rattle.check_fairness.proofs.AnswerLemmas.{iff_trans, is_not, never, following}
use Rattle.check_events.proofs.AmongLemmas.{any_among}
use Rattle.check_builds.proofs.LoseLemmas.{distinct_first, distinct_not}
use Rattle.check_builds.proofs.giving_up.+are_distinct.Goals as goal

pub returns-then-contains : goal.returns-then-contains
returns-then-contains t c = let xs = c.args.bases.now in
    let found : IsTrue c.contains.result ↔ Among (get_or xs 0 0) (following xs) = subst
    (λ b. IsTrue b ↔ Among (get_or xs 0 0) (following xs)) (sym c.contains.ensures.value)
    (any_among (get_or xs 0 0) (following xs)) in
    record {
      exact = never (distinct_not xs c.in-len1-up.len_at_least (found.0 c.if-contains.true));
    }

pub returns-else-contains : goal.returns-else-contains
returns-else-contains t c = let xs = c.args.bases.now in
    let found : IsTrue c.contains.result ↔ Among (get_or xs 0 0) (following xs) = subst
    (λ b. IsTrue b ↔ Among (get_or xs 0 0) (following xs)) (sym c.contains.ensures.value)
    (any_among (get_or xs 0 0) (following xs)) in
    record {
      exact = iff_trans c.are_distinct.ensures.exact
          (distinct_first xs c.in-len1-up.len_at_least (is_not c.contains.result _ found
          c.if-contains.false));
    }
