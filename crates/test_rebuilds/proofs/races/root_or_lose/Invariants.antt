use Rattle.test_rebuilds.specs.Races.{racing_at}
use Rattle.test_rebuilds.proofs.races.root_or_lose.Given as goal

-- the events are the Root of the one row that the word names, and its Lose
abbrev pub ghost-exchange_or_lose : goal.ghost-exchange_or_lose
ghost-exchange_or_lose a = racing_at a.token.now.view a.place a.new
