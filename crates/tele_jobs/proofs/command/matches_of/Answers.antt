use Rattle.std.proofs.Common.{◌≡◌, [], map, ap, subst}
use Rattle.clap.specs.Words.{fault_of, is_simple_and_free}
use Rattle.tele_jobs.proofs.NumberLemmas.{are_numbers}
use Rattle.tele_jobs.proofs.command.matches_of.Goals as goal

-- each option that was found has a number in its range
pub returns-in-Ok-try_get_matches_from-clause-numbers :
    goal.returns-in-Ok-try_get_matches_from-clause-numbers
returns-in-Ok-try_get_matches_from-clause-numbers g c =
    are_numbers _ c.in-Ok.ensures.value c.in-Ok-try_get_matches_from.matches
    c.in-Ok-try_get_matches_from.ensures.parsed

-- so none of them is at fault
pub returns-in-Ok-try_get_matches_from-clause-taken :
    goal.returns-in-Ok-try_get_matches_from-clause-taken
returns-in-Ok-try_get_matches_from-clause-taken g c _ =
    subst (λ a. fault_of a (map g.S.AsStr.text c.args.words.now) ≡ []) c.in-Ok.ensures.value
    (c.in-Ok-try_get_matches_from.ensures.kinds (ap is_simple_and_free c.in-Ok.ensures.value))
