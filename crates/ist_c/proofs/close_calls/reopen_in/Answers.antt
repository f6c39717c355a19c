-- An owner's handle holds the owner of the next tree, or what stayed; a handle of something else is as before.
use Rattle.std.proofs.Common.{inl, sym, ◌∙◌}
use Rattle.ist_c.specs.Closing.{none_reopens}
use Rattle.ist_c.proofs.PassLemmas.{reopened_owner, reopened_busy, reopened_closed, reopened_other}
use Rattle.ist_c.proofs.close_calls.reopen_in.Goals as goal

pub returns-then-words-gt-MOST_WORDS : goal.returns-then-words-gt-MOST_WORDS
returns-then-words-gt-MOST_WORDS c =
    record { reopens = none_reopens c.args.held.now c.args.words (inl c.if-words-gt-MOST_WORDS.true) }

pub returns-in-Ok : goal.returns-in-Ok
returns-in-Ok c = record {
  reopens = reopened_owner c.args.held.now c.open_next.new.held c.in-Owner.owner c.close.result
      c.in-Ok.closed c.args.words c.args.number c.open_next.result (sym c.replace.ensures.value ∙ c.in-Owner.is)
      c.in-Ok.is c.close.ensures.size c.close.ensures.closes c.open_next.ensures.opens;
}

pub returns-in-Err : goal.returns-in-Err
returns-in-Err c = record {
  reopens = reopened_busy c.args.held.now c.in-Owner.owner c.in-Err.owner c.close.result c.args.words c.args.number
      (sym c.replace.ensures.value ∙ c.in-Owner.is) c.in-Err.is c.close.ensures.same;
}

pub returns-in-Closed : goal.returns-in-Closed
returns-in-Closed c = record {
  reopens = reopened_closed c.args.held.now c.open_next-in-Closed.new.held c.in-Closed.closed c.args.words c.args.number
      c.open_next-in-Closed.result (sym c.replace.ensures.value ∙ c.in-Closed.is) c.open_next-in-Closed.ensures.opens;
}

pub returns-in_default : goal.returns-in_default
returns-in_default c = record {
  reopens = reopened_other c.args.held.now c.replace.result c.args.words c.args.number c.replace.ensures.value
      c.in_default.not-Owner c.in_default.not-Closed;
}
