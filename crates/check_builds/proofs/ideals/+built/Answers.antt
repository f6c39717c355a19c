use Rattle.std.proofs.Common.{◌∙◌, ap, length, Some, None, arith}
use Rattle.ist_core.specs.WordTerms.{LeafAt}
use Rattle.check_builds.proofs.BuiltLemmas as built
use Rattle.check_builds.proofs.PartCutLemmas as parts
use Rattle.check_builds.proofs.DrawLemmas as sizes
use Rattle.check_builds.proofs.ideals.+built.Goals as goal

pub built-returns-then-names_nothing-clause-exact : goal.built-returns-then-names_nothing-clause-exact
built-returns-then-names_nothing-clause-exact t c =
    built.counts_none _ _ _ _ c.if-leaves-eq0.true (c.names_nothing.ensures.exact.0 c.if-names_nothing.true)

pub built-returns-then-is_leaf_at-clause-exact : goal.built-returns-then-is_leaf_at-clause-exact
built-returns-then-is_leaf_at-clause-exact t c =
    built.counts_one _ _ _ _ _ c.if-leaves-eq1.true c.index-leaves-0.is
    (c.is_leaf_at.ensures.exact.0 c.if-is_leaf_at.true ∙ ap (λ b. Some (LeafAt b)) c.base.ensures.value)

pub built-returns-in-None-top_slots-clause-exact : goal.built-returns-in-None-top_slots-clause-exact
built-returns-in-None-top_slots-clause-exact t c =
    built.counts_no_top _ _ _ _ _ _ (omega arith) c.in-len1-up.len_at_least c.row-item.is
    c.in-Some.ensures.exact.0 c.in-None-top_slots.ensures.exact

pub built-returns-in-None-parts_built-clause-exact : goal.built-returns-in-None-parts_built-clause-exact
built-returns-in-None-parts_built-clause-exact t c =
    built.counts_no_parts _ _ _ _ _ _ (omega arith) c.in-len1-up.len_at_least c.row-item.is
    c.in-Some.ensures.exact.0 _ c.in-Some-top_slots.ensures.exact
    (sizes.parts_by_degree _ _ _ _ _ None c.degree_of.ensures.value c.in-None-parts_built.ensures.exact)

pub built-returns-in-Some-parts_built-clause-exact : goal.built-returns-in-Some-parts_built-clause-exact
built-returns-in-Some-parts_built-clause-exact t c =
    built.counts_parts _ _ _ _ _ _ (omega arith) c.in-len1-up.len_at_least c.row-item.is
    c.in-Some.ensures.exact.0 _ c.in-Some-top_slots.ensures.exact _ c.if-row-base.false
    (sizes.parts_by_degree _ _ _ _ _ (Some _) c.degree_of.ensures.value c.in-Some-parts_built.ensures.exact)

pub parts_built-built-requires : goal.parts_built-built-requires
parts_built-built-requires t c =
    let smaller = sizes.part_smaller c.args.n c.args.j c.part_end-end.result c.args.leaves.now
    (length c.args.slots.now) c.requires.two c.part_end-end.ensures.value in
    (omega (arith, c.decreases), tt)

pub parts_built-returns-then-left-eq0-clause-exact : goal.parts_built-returns-then-left-eq0-clause-exact
parts_built-returns-then-left-eq0-clause-exact t c =
    parts.parts_end _ _ _ _ _ _ _ c.in-empty.len_below c.if-left-eq0.true

pub parts_built-returns-in-None-clause-exact : goal.parts_built-returns-in-None-clause-exact
parts_built-returns-in-None-clause-exact t c =
    parts.parts_no_first _ _ _ _ _ _ _ _ c.in-len1-up.len_at_least c.if-left-eq0-2.false
    c.part_end-end.ensures.value c.in-None.ensures.exact

pub parts_built-returns-in-None-parts_built-clause-exact : goal.parts_built-returns-in-None-parts_built-clause-exact
parts_built-returns-in-None-parts_built-clause-exact t c =
    parts.parts_no_more _ _ _ _ _ _ _ _ c.in-len1-up.len_at_least c.if-left-eq0-2.false
    c.part_end-end.ensures.value _ c.in-Some.ensures.within c.in-Some.ensures.exact
    c.in-None-parts_built.ensures.exact

pub parts_built-returns-in-Some-parts_built-clause-exact : goal.parts_built-returns-in-Some-parts_built-clause-exact
parts_built-returns-in-Some-parts_built-clause-exact t c =
    parts.parts_more _ _ _ _ _ _ _ _ c.in-len1-up.len_at_least c.if-left-eq0-2.false
    c.part_end-end.ensures.value _ c.in-Some.ensures.within c.in-Some.ensures.exact _
    c.in-Some-parts_built.ensures.exact
