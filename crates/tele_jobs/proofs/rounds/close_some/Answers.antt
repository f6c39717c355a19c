use Rattle.std.proofs.Common.{◌∙◌, ap, sym, subst, refl, length, ◌<◌}
use Rattle.ist_core.specs.TreeTerms.{map_of}
use Rattle.tele_jobs.specs.Open.{Open}
use Rattle.tele_jobs.proofs.MadeLemmas.{after_map, after_rises, after_few}
use Rattle.tele_jobs.proofs.RanLemmas.{closes_from, closes_round, runs_from, runs_round, few_from}
use Rattle.tele_jobs.proofs.rounds.close_some.Goals as goal

-- the pairs after the last table are strictly increasing
pub of-requires : goal.of-requires
of-requires g c =
    record { rising = after_rises c.in_ok-ran.ensures.closed _ c.in_ok-pairs.ensures.of_map }

-- the answers are what one thread would answer
pub returns-clause-closed : goal.returns-clause-closed
returns-clause-closed g c =
    let map_is = ap map_of c.of.ensures.value
    ∙ after_map c.in_ok-ran.ensures.closed _ c.in_ok-pairs.ensures.of_map in
    closes_from _ c.args.round.now _ c.round.view_is
    (closes_round _ _ _ _ _ c.pairs.ensures.all c.deref.ensures.value
    c.in_ok-ran.ensures.answers c.into_vec.ensures.value map_is c.clear.ensures.items)

-- the tables are those of the round
pub returns-clause-ran : goal.returns-clause-ran
returns-clause-ran g c =
    let map_is = ap map_of c.of.ensures.value
    ∙ after_map c.in_ok-ran.ensures.closed _ c.in_ok-pairs.ensures.of_map in
    let some = subst (λ (o : Open). 0 < length o.tasks) (sym c.round.view_is) c.requires.some in
    runs_from _ c.args.round.now _ _ _ c.round.view_is
    (runs_round _ _ _ _ _ _ _ _ _ _ c.pairs.ensures.all c.deref.ensures.value c.pairs.ensures.of_map
    c.take.ensures.value c.shelve.ensures.kept c.in_ok-ran.ensures.generations
    c.in_ok-ran.ensures.closed
    map_is some refl (ap length c.as_slice.ensures.value) refl refl)

-- at most one key came per task
pub returns-clause-few : goal.returns-clause-few
returns-clause-few g c =
    few_from _ c.args.round.now _ _ _ c.round.view_is c.deref.ensures.value c.of.ensures.value
    (after_few c.in_ok-ran.ensures.closed _ c.in_ok-pairs.ensures.of_map _ c.pairs.ensures.all
    c.pairs.ensures.of_map)
