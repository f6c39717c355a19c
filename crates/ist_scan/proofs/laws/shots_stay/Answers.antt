use Rattle.ist_scan.proofs.ShotLemmas.{shots_stay, later_calls}
use Rattle.ist_scan.proofs.WalkLemmas.{walks_stay}
use Rattle.ist_scan.proofs.laws.shots_stay.Goals as goal

pub returns : goal.returns
returns c = record { stay = shots_stay; walks = walks_stay; following = later_calls }
