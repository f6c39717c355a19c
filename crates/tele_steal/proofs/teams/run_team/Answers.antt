use Rattle.tele_steal.proofs.teams.run_team.Goals as goal

-- no lane was called or refused
pub run_stolen-requires-clause-empty : goal.run_stolen-requires-clause-empty
run_stolen-requires-clause-empty g c κs within k d h = (c.requires.fresh k d h).empty

pub run_stolen-requires-clause-room : goal.run_stolen-requires-clause-room
run_stolen-requires-clause-room g c κs within k d h = (c.requires.fresh k d h).room

pub run_stolen-requires-clause-no_calls : goal.run_stolen-requires-clause-no_calls
run_stolen-requires-clause-no_calls g c κs within k d h = (c.requires.fresh k d h).no_calls

pub run_stolen-requires-clause-unrefused : goal.run_stolen-requires-clause-unrefused
run_stolen-requires-clause-unrefused g c κs within k d h = (c.requires.fresh k d h).unrefused

-- each was run
pub returns-in_ok-yard-clause-ran : goal.returns-in_ok-yard-clause-ran
returns-in_ok-yard-clause-ran g c k d h = let ran = c.run_stolen.ensures in record {
  calls = ran.calls k d h;
  answers = ran.answers k d h;
  replies = ran.replies k d h;
  stopped = ran.stopped k d h;
  refused = ran.refused k d h;
  whole = ran.whole k d h;
}
