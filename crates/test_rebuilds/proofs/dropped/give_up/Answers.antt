use Rattle.std.proofs.Common.{rules}
use Rattle.ist_rule.proofs.EventLemmas.{looked_goes_on}
use Rattle.ist_rows.specs.RowTerms.{IsCaller}
use Rattle.ist_rows.proofs.CallerGoingLemmas.{caller_goes_on}
use Rattle.ist_rows.proofs.CallerLawLemmas.{caller_begun}
use Rattle.test_rebuilds.proofs.DroppedLemmas.{below_row_in_slot}
use Rattle.test_rebuilds.proofs.dropped.give_up.Goals as goal
use Rattle.test_rebuilds.proofs.dropped.give_up.Goals.{After-load_top-word}
use Rattle.ist_layout.proofs.MeaningLemmas.{word_names}

-- a caller that has begun a search and made a load is still a caller
still : (c : After-load_top-word) → IsCaller (record c.args.who.now { token = c.load_top-word.new.token })
still c = caller_goes_on _ c.load_top-word.new.token (caller_begun c.args.who.now c.begin_search.new.token
    c.requires.caller.0 c.begin_search.ensures.begun) (looked_goes_on _ _ _ _ c.load_top-word.ensures.looked)

pub returns-in_default : goal.returns-in_default
returns-in_default c =
    record { caller = (still (goal.at.returns-in_default c).After-load_top-word, search rules) }

pub returns-in_default-2 : goal.returns-in_default-2
returns-in_default-2 c =
    record { caller = (still (goal.at.returns-in_default-2 c).After-load_top-word, search rules) }

pub drop_pair-requires-clause-caller : goal.drop_pair-requires-clause-caller
drop_pair-requires-clause-caller c =
    (still (goal.at.drop_pair-requires-clause-caller c).After-load_top-word, search rules)

pub drop_pair-requires-clause-below : goal.drop_pair-requires-clause-below
drop_pair-requires-clause-below c =
    below_row_in_slot (record c.args.who.now { token = c.begin_search.new.token }) c.load_top-word.new.token
    _ _ _ c.load_top-word.ensures.looked (word_names _ _ _ _ c.from_word.ensures.value c.in-Some-Inner.is
    c.in-Some-Inner.field-0-is) c.in-Some.is c.if-pair-base.true

pub returns-in_default-pair : goal.returns-in_default-pair
returns-in_default-pair c =
    record { caller = (still (goal.at.returns-in_default-pair c).After-load_top-word, search rules) }

pub returns-in_default-pair-2 : goal.returns-in_default-pair-2
returns-in_default-pair-2 c =
    record { caller = (still (goal.at.returns-in_default-pair-2 c).After-load_top-word, search rules) }
