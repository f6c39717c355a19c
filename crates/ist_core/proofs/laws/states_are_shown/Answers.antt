use Rattle.ist_core.proofs.SnapshotLemmas as snapshots
use Rattle.ist_core.proofs.laws.states_are_shown.Goals as goal

pub returns : goal.returns
returns c = record { one_state = snapshots.one_state; one_snapshot = snapshots.one_snapshot }
