use Rattle.std.proofs.Common.{reverse, take_all, ap, arith}
use Rattle.ist_check.proofs.ReasonLemmas.{reverse_more, refused_at, lawful_more, known_more, first_known, is_none}
use Rattle.ist_check.proofs.RoomLemmas.{has_room}
use Rattle.ist_check.proofs.judging.judge.Goals as goal

pub loop-at-init : goal.loop-at-init
loop-at-init c = let past = c.in_ok-past.ensures in
    let mirrors = rw c.from.ensures at c.in_ok-replica.ensures.mirrors in
    (first_known c.requires.opens mirrors (past.slots _ _) (past.ways _ _) (past.exact _ _), omega (arith, past.few))

pub advance-requires : goal.advance-requires
advance-requires c = let knows = c.loop-at.invariant.0 in
    let may = c.in_ok-condition.ensures.may _ _ _ knows (is_none _ c.in_default.not-Some) in
    record { room = has_room _ _ _ _ knows.mirrors c.index-log-at.result (lawful_more _ _ _ _ _ _ knows may) }

pub loop-at-preserved : goal.loop-at-preserved
loop-at-preserved c = let knows = c.loop-at.invariant.0 in
    let may = c.in_ok-condition.ensures.may _ _ _ knows (is_none _ c.in_default.not-Some) in
    let past = c.in_ok-remember.ensures in (
      known_more _ _ _ _ _ _ knows may
          (reverse_more c.args.log.now _ c.index-log-at.result c.loop-at-test.true c.index-log-at.is)
          (c.in_ok-advance.ensures.exact _) (past.exact _ _ _) past.slots past.ways
          (c.in_ok-remember_links.ensures.exact _ _ _) (c.in_ok-remember_ways.ensures.exact _ _ _),
      omega (arith, past.few),
    )

pub returns-in-Some : goal.returns-in-Some
returns-in-Some c = record {
  exact = refused_at c.args.log.now _ c.index-log-at.result c.loop-at-test.true c.index-log-at.is _ _ _
      c.loop-at.invariant.0.lawful
      (rw c.in-Some.is at (c.in_ok-condition.ensures.refused _ _ _ c.loop-at.invariant.0));
}

pub returns : goal.returns
returns c =
    let knows = rw (ap reverse (take_all c.loop-at.at c.args.log.now (omega arith))) at c.loop-at.invariant.0 in
    record { exact = (knows.lawful, c.in_ok-state_of.ensures.shown _ knows.mirrors) }
