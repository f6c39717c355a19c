use Rattle.std.proofs.Common.{◌<◌, ◌≤◌, map, length, arith}
use Rattle.std.proofs.lemmas.List.{length-map}
use Rattle.check_fairness.proofs.AddedLemmas.{none_added, other_added, two_added}
use Rattle.check_fairness.proofs.BuildingListLemmas.{begins_none, begins_more, begins_end}
use Rattle.check_fairness.proofs.readings.add_begun.Goals as goal

pub loop-list-init : goal.loop-list-init
loop-list-init c sizes = none_added (begins_none (map (λ v. v.items) c.args.lists.now) c.args.room
    c.args.may c.args.size sizes)

pub loop-list-preserved : goal.loop-list-preserved
loop-list-preserved c sizes = let lists = map (λ v. v.items) c.args.lists.now in
    let below : c.loop-list.list < length lists = omega (
      arith,
      length-map c.args.lists.now (λ v. v.items),
    ) in
    two_added (c.loop-list.invariant sizes) (c.in_ok-add_on.ensures.added sizes)
    (begins_more lists c.args.room c.args.may c.args.size sizes c.loop-list.list below)

pub returns : goal.returns
returns c = let lists = map (λ v. v.items) c.args.lists.now in
    let past : length lists ≤ c.loop-list.list = omega (
      arith,
      length-map c.args.lists.now (λ v. v.items),
    ) in
    record {
      added = λ sizes. other_added (c.loop-list.invariant sizes) (begins_end lists c.args.room
          c.args.may c.args.size sizes c.loop-list.list past);
    }
