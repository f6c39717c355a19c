use Rattle.ist_scan.proofs.RoomLemmas.{lone_shot_whole, lone_taken}
use Rattle.ist_scan.proofs.laws.lone_shots_are_taken.Goals as goal

pub returns : goal.returns
returns c = record { taken = lone_taken; whole = lone_shot_whole }
