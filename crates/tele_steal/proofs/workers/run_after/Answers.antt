use Rattle.std.proofs.Common.{◌++◌, map, ap, ◌∙◌, sym, subst, drop, All}
use lib.Seq.{drop-append_seam}
use Rattle.std.proofs.lemmas.List.{map-append}
use Rattle.tele_steal.specs.Runs.{ticket, IsRunLane}
use Rattle.tele_steal.proofs.RunLemmas.{same_tickets}
use Rattle.tele_steal.proofs.workers.run_after.Goals as goal

-- the lanes before stay, and the lanes from there on keep their tickets
pub returns-clause-tickets : goal.returns-clause-tickets
returns-clause-tickets g c = let ran = c.run_lanes.ensures in
    let front = c.split_at_mut-following.result.0.now in
    let old = c.split_at_mut-following.result.1.now in let new = c.run_lanes.new.lanes in
    map-append (ticket g.P.Port.tie) front new
    ∙ ap (λ z. map (ticket g.P.Port.tie) front ++ z)
    (same_tickets g.P.Port.tie old new ran.numbers ran.tasks ran.ties)
    ∙ sym (map-append (ticket g.P.Port.tie) front old)
    ∙ ap (λ z. map (ticket g.P.Port.tie) z) (sym c.split_at_mut-following.ensures.value)

-- each lane from there on was run
pub returns-clause-ran : goal.returns-clause-ran
returns-clause-ran g c = let ran = c.run_lanes.ensures in let new = c.run_lanes.new.lanes in
    let all : All (IsRunLane g.P.Port.calls g.P.Port.refused) new = λ k d h. record {
      calls = ran.calls k d h;
      answers = ran.answers k d h;
      replies = ran.replies k d h;
      stopped = ran.stopped k d h;
      refused = ran.refused k d h;
      whole = ran.whole k d h;
    } in
    let parts = c.split_at_mut-following in
    subst (λ n. All (IsRunLane g.P.Port.calls g.P.Port.refused) (drop n (parts.result.0.now ++ new)))
    parts.ensures.front_len
    (subst (All (IsRunLane g.P.Port.calls g.P.Port.refused))
    (sym (drop-append_seam parts.result.0.now new)) all)
