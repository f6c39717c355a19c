use Rattle.ist_rule.specs.RuleTerms.{name_of, names}
use Rattle.ist_rule.proofs.opening.open_table_over.Given as goal

-- at the step the seat learns which table it is of
abbrev pub ghosts-load : goal.ghosts-load
ghosts-load a = record { then = names (name_of a.seat.now.table_id) }
