use Rattle.std.proofs.Common.{◌-◌}
use Rattle.ist_core.specs.WordTerms.{place_limit}
use Rattle.ist_rows.specs.RowTerms.{reserving, HasReadNext}
use Rattle.ist_rows.proofs.reserving.take.Given as goal

-- the event is the reserving of the words between
abbrev pub ghost-exchange : goal.ghost-exchange
ghost-exchange a = reserving a.token.now.view a.old a.new

-- the first free word was read, after loads only
abbrev pub invariant-turns : goal.invariant-turns
invariant-turns l = HasReadNext l.fn.token.view l.next l.token.view

-- each further turn met a Reserve of another: fewer words are free
abbrev pub decreases-turns : goal.decreases-turns
decreases-turns l = place_limit - l.next
