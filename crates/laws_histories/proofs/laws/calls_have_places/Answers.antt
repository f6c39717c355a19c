use Rattle.laws_histories.proofs.PlacedLemmas.{has_places}
use Rattle.laws_histories.proofs.ItemLemmas.{calls_placed, follower_later}
use Rattle.laws_histories.proofs.laws.calls_have_places.Goals as goal

pub returns : goal.returns
returns c = record { places = has_places; among = calls_placed; later = follower_later }
