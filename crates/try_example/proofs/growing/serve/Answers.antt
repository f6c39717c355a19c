use Rattle.try_example.proofs.growing.serve.Goals as goal

-- also if the run ended early, its calls are one history
pub returns-in_err-run-clause-one : goal.returns-in_err-run-clause-one
returns-in_err-run-clause-one g c = c.runs_are_one_history.ensures.one _ _ _ _ _ _ c.run.ensures.ran
