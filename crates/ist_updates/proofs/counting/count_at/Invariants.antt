use Rattle.std.proofs.Common.{◌-◌}
use Rattle.ist_core.specs.WordTerms.{inner_count_offset}
use Rattle.ist_updates.specs.Walking.{counting}
use Rattle.ist_updates.proofs.counting.count_at.Given as goal

-- the event is the Count of the row whose count lies there
abbrev pub ghost-add : goal.ghost-add
ghost-add a = counting a.token.now.view (a.place - inner_count_offset)
