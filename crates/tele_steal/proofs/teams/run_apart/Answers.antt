use Rattle.std.proofs.Common.{All, map, length, sym, ap, ◌∙◌, subst, arith}
use Rattle.tele_lanes.specs.declared.lanes.Lane.{Lane}
use Rattle.tele_steal.specs.Runs.{IsRunLane}
use Rattle.tele_steal.proofs.RunLemmas.{written_back}
use Rattle.tele_steal.proofs.teams.run_apart.Goals as goal

-- the ports keep their ties
pub returns-clause-ties : goal.returns-clause-ties
returns-clause-ties g c = let lent = c.deref_mut.ensures.value in
    let tied = map (λ (l : Lane g.row.P.Denot g.row.P-Tie.Denot). g.P.Port.tie l.port) in
    ap tied (written_back c.args.lanes.len c.run_lanes.new.lanes c.args.lanes.items
    c.args.lanes.ok.0 (omega (arith, c.run_lanes.auto.lanes, ap length lent)))
    ∙ c.run_lanes.ensures.ties ∙ ap tied lent

-- each lane was run
pub returns-clause-ran : goal.returns-clause-ran
returns-clause-ran g c = let ran = c.run_lanes.ensures in
    let all : All (IsRunLane g.P.Port.calls g.P.Port.refused) c.run_lanes.new.lanes
    = λ k d h. record {
      calls = ran.calls k d h;
      answers = ran.answers k d h;
      replies = ran.replies k d h;
      stopped = ran.stopped k d h;
      refused = ran.refused k d h;
      whole = ran.whole k d h;
    } in
    subst (All (IsRunLane g.P.Port.calls g.P.Port.refused))
    (sym (written_back c.args.lanes.len c.run_lanes.new.lanes c.args.lanes.items
    c.args.lanes.ok.0
    (omega (arith, c.run_lanes.auto.lanes, ap length c.deref_mut.ensures.value)))) all
