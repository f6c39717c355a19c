use Rattle.std.proofs.Common.{◌-◌}
use Rattle.ist_core.specs.WordTerms.{place_limit}
use Rattle.ist_rule.specs.RuleTerms.{number_of}
use Rattle.ist_rows.specs.RowTerms.{HasReadNext, reservings}
use Rattle.ist_rows.proofs.block.take_all.Given as goal

-- the events are the reservings of the words between
abbrev pub ghost-exchange_all : goal.ghost-exchange_all
ghost-exchange_all g a = reservings (number_of a.token.now.view.who) a.old g.sizes

-- the first free word was read, after loads only
abbrev pub invariant-turns : goal.invariant-turns
invariant-turns g l = HasReadNext l.fn.token.view l.next l.token.view

-- each further turn met a Reserve of another: fewer words are free
abbrev pub decreases-turns : goal.decreases-turns
decreases-turns g l = place_limit - l.next
