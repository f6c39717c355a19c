use Rattle.std.proofs.Common.{ap, rules}
use Rattle.ist_layout.specs.Meanings.{ref_meant}
use Rattle.ist_find.proofs.EdgeLemmas.{fewer_left, all_at_anchor, span_begins, span_came, span_rises, span_goes_on, span_ends}
use Rattle.ist_find.proofs.spans.find_span.Goals as goal

-- the search for each key begins at the anchor
pub look_for_all-look-requires-clause-come : goal.look_for_all-look-requires-clause-come
look_for_all-look-requires-clause-come c = (all_at_anchor _ c.know.ensures.sound _ _, c.requires.same_table)

pub loop-look-init : goal.loop-look-init
loop-look-init c = span_begins _ _ c.know.ensures.sound _ _ _ _ _ _ _ c.look_for_all-look.ensures.looked

-- it has reached the row that it read, for each key that has this child
pub look_for_all-look-requires-in-Inner-clause-come : goal.look_for_all-look-requires-in-Inner-clause-come
look_for_all-look-requires-in-Inner-clause-come c =
    (span_came _ _ _ _ _ _ _ _ c.loop-look.invariant _ (ap ref_meant c.in-Inner.is), search rules)

pub look_for_all-look-requires-in-Inner-clause-top : goal.look_for_all-look-requires-in-Inner-clause-top
look_for_all-look-requires-in-Inner-clause-top c is =
    absurd ((span_rises _ _ _ _ _ _ _ _ c.loop-look.invariant _ (ap ref_meant c.in-Inner.is)).below_anchor is)

-- which lies above the last one, and within the table
pub loop-look-smaller : goal.loop-look-smaller
loop-look-smaller c =
    fewer_left (span_rises _ _ _ _ _ _ _ _ c.loop-look.invariant _ (ap ref_meant c.in-Inner.is))
    c.look_for_all-look-in-Inner.ensures.looked.seen

pub loop-look-preserved : goal.loop-look-preserved
loop-look-preserved c =
    span_goes_on _ _ _ _ _ _ _ _ c.loop-look.invariant _ (ap ref_meant c.in-Inner.is) _ _ _ _ _
    c.look_for_all-look-in-Inner.ensures.looked

-- what each key has
pub returns : goal.returns
returns c = let p = c.end_pair-pair.ensures in let own = c.pair_within-its_pair.ensures in
    let e = span_ends _ _ _ _ _ _ _ _ c.loop-look.invariant _ _ _ p.values own.value c.requires.begun p.seen p.loads in
    record { seen = e.0; first = e.1; last = e.2; within = own.within; values = e.3; edges = e.4; loads = e.5 }
