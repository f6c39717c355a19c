use Rattle.std.proofs.Common.{ℕ, List, ◌++◌, length, subst, arith, refl, IfOk}
use Rattle.std.specs.List.Sorted.{IsPermutation}
use Rattle.tele_lanes.proofs.LineLemmas.{IfOk-both}
use Rattle.tele_generations.specs.Counts.{lane_count}
use Rattle.tele_generations.specs.Sizes.{first_words}
use Rattle.tele_generations.proofs.CountLemmas.{some_lanes}
use Rattle.tele_generations.proofs.LeadLemmas.{tables_begin}
use Rattle.tele_generations.proofs.NextTableLemmas.{way_begins}
use Rattle.tele_generations.proofs.RoundLemmas.{some_left, after_rise, after_few, ends_plain, ends_round, last_table, ends_with, ends_for, way_goes_on, tables_go_on}
use Rattle.tele_generations.proofs.running.run_round.Goals as goal

-- before the first table
pub loop-way-init : goal.loop-way-init
loop-way-init g c = let e = c.in_ok-way.ensures in
    let lanes = lane_count c.args.workers c.args.steal in let words = c.in_ok-way.way.words in
    let first = first_words c.args.words c.args.workers (length c.args.pairs.now)
    (length c.args.tasks.now) in
    let kept = g.H.Shelf.kept c.args.shelf.now in record {
      tables = rw (e.fulls, e.pairs, e.left)
          (tables_begin lanes first c.args.pairs.now c.args.tasks.now kept words kept refl e.words);
      on = rw (e.fulls, e.answers, e.pairs, e.left)
          (way_begins lanes c.args.pairs.now c.args.tasks.now words
          (some_lanes c.args.workers c.args.steal c.requires.some) c.requires.keys c.requires.lines
          e.holds e.fits);
    }

-- a table that ran full left something
pub go_on-requires-clause-some_left : goal.go_on-requires-clause-some_left
go_on-requires-clause-some_left g c =
    some_left c.loop-way.invariant.on c.in_ok-made.ensures.ran c.in-Some.full c.in-Some.is

-- the pairs after it are strictly increasing
pub go_on-requires-clause-rising : goal.go_on-requires-clause-rising
go_on-requires-clause-rising g c =
    after_rise c.loop-way.invariant.on c.in_ok-made.ensures.ran c.in_ok-pairs.pairs.items
    c.in_ok-pairs.ensures.of_map

-- no more keys came than tasks went
pub go_on-requires-clause-few : goal.go_on-requires-clause-few
go_on-requires-clause-few g c =
    let few = after_few c.loop-way.invariant.on c.in_ok-made.ensures.ran
    c.in_ok-pairs.pairs.items c.in_ok-pairs.ensures.of_map in
    omega (arith, few, c.requires.few)

-- a table that answered all ends the round
pub returns-in_default-clause-answers : goal.returns-in_default-clause-answers
returns-in_default-clause-answers g c =
    let same = subst (λ xs. IfOk c.finish.result
    (λ v. IsPermutation (c.loop-way.way.answers.items ++ xs) v.answers.list))
    c.deref.ensures.value c.finish.ensures.answers_same in
    IfOk-both c.finish.result _ _ _
    (λ v moved rise. ends_plain c.loop-way.invariant.on c.in_ok-made.ensures.ran c.in_default.is
    c.requires.lines v.answers.list moved rise)
    same c.finish.ensures.answers_rise

pub returns-in_default-clause-generations : goal.returns-in_default-clause-generations
returns-in_default-clause-generations g c = let was = c.loop-way.invariant in
    let last = last_table c.in_ok-made.made.closed was.tables was.on c.in_ok-made.ensures.ran
    c.in_default.is in
    IfOk-both c.finish.result _ _ _ (λ v closed fulls. ends_with last closed fulls)
    c.finish.ensures.closed c.finish.ensures.fulls

pub returns-in_default-clause-closed : goal.returns-in_default-clause-closed
returns-in_default-clause-closed g c =
    let last = ends_round c.loop-way.invariant.on c.in_ok-made.ensures.ran c.in_default.is in
    IfOk-both c.finish.result _ _ _
    (λ v closed fulls. ends_for c.in_ok-made.made.closed v.closed last closed fulls)
    c.finish.ensures.closed c.finish.ensures.fulls

-- the next table has less to do
pub loop-way-smaller : goal.loop-way-smaller
loop-way-smaller g c =
    let less = (way_goes_on c.in_ok-way-2.ensures.on c.loop-way.invariant.on
    c.in_ok-made.ensures.ran c.in_ok-pairs.ensures.of_map c.in-Some.is).less in
    omega arith

pub loop-way-preserved : goal.loop-way-preserved
loop-way-preserved g c = let was = c.loop-way.invariant in let r = c.in_ok-made.ensures.ran in
    let h = c.in_ok-pairs.ensures.of_map in record {
      tables = tables_go_on c.in_ok-made.made.closed c.in_ok-way-2.ensures.on was.tables was.on r h
          c.in-Some.is c.keep.ensures.kept;
      on = (way_goes_on c.in_ok-way-2.ensures.on was.on r h c.in-Some.is).on;
    }
