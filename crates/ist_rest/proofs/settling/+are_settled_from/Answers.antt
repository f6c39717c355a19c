use borrow.Author.Gap.{counting}
use borrow.Author.Rules.{rules}
use Rattle.std.proofs.Common.{◌≤◌, refl, sym, ◌∙◌, subst, arith}
use Rattle.ist_rest.specs.Settling.{itself, AreSettledFrom}
use Rattle.ist_rest.proofs.SettleLemmas.{slot_good, child_row_good, child_in_shape, child_settled, one_more_settled, settled_by_slots}
use Rattle.laws_links.proofs.ReturnLemmas.{one_inner}
use Rattle.ist_rest.proofs.settling.+are_settled_from.Goals as goal
use Rattle.ist_rest.proofs.settling.+are_settled_from.Goals.{in-Some+else-not-are_settled_from, in_default}

-- a row that isn't settled
pub returns-then-not-is_settled_row : goal.returns-then-not-is_settled_row
returns-then-not-is_settled_row g t c = let no = c.if-not-is_settled_row.true in record {
  exact = (
    (λ no. absurd (cc)),
    (λ all. sym no ∙ c.is_settled_row.ensures.exact.1 (all c.args.base itself)),
  );
}

pub child_row-requires-clause-good : goal.child_row-requires-clause-good
child_row-requires-clause-good g t c = slot_good c.requires.row c.requires.used
    c.degree_at-degree.ensures.value c.loop-i-test.true c.slot_at.ensures.value c.requires.shape

-- a child lies above its parent, and is in good shape
pub are_settled_from-requires : goal.are_settled_from-requires
are_settled_from-requires g t c κs within =
    let good = child_row_good c.requires.row c.requires.used c.degree_at-degree.ensures.value
    c.loop-i-test.true c.slot_at.ensures.value c.in-Some.ensures.found c.requires.shape in
    let there = child_in_shape c.requires.row c.requires.used c.degree_at-degree.ensures.value
    c.loop-i-test.true c.slot_at.ensures.value c.in-Some.ensures.found c.requires.shape in
    let up = good.above in let w = good.within in let room = w.below_next in
    let used = c.requires.used in
    let m = c.decreases in (
      search (rules, counting),
      (within, (c.requires.some, (c.requires.used, (c.requires.most, (there.0, there.1))))),
    )

-- a child below which a row isn't settled
pub returns-then-not-are_settled_from : goal.returns-then-not-are_settled_from
returns-then-not-are_settled_from g t c = let no = c.if-not-are_settled_from.true in record {
  exact = (
    (λ no. absurd (cc)),
    (λ all. sym no ∙ c.are_settled_from.ensures.exact.1 (child_settled c.requires.row
        c.requires.used c.degree_at-degree.ensures.value c.loop-i-test.true
        c.slot_at.ensures.value c.in-Some.ensures.found all)),
  );
}

-- one child more
pub loop-i-preserved : goal.loop-i-preserved
loop-i-preserved g t c = one_more_settled _ c.args.base c.loop-i.i c.slot_at.ensures.value
    (λ child is. elim c.match-child_row.branch [
      | in-Some+else-not-are_settled_from w ↦ subst (AreSettledFrom _)
          (one_inner w.in-Some.child child (sym w.in-Some.ensures.found ∙ is))
          (w.are_settled_from.ensures.exact.0 w.if-not-are_settled_from.false)
      | in_default w ↦ absurd (c.child_row.ensures.none w.in_default.is child is)
    ])
    c.loop-i.invariant

-- the row, and all that is reached by its slots
pub returns : goal.returns
returns g t c = let end : c.degree_at-degree.result ≤ c.loop-i.i = omega arith in
    let settled = c.is_settled_row.ensures.exact.0 c.if-not-is_settled_row.false in record {
      exact = (
        (λ yes. settled_by_slots _ c.args.base c.requires.row c.requires.used
            c.degree_at-degree.ensures.value end settled c.loop-i.invariant),
        (λ all. refl),
      );
    }
