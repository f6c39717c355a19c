use Rattle.check_state.proofs.EventLemmas.{by_event, decided_so, yes_word, no_word, nothing_written}
use Rattle.check_state.proofs.advancing.write_word.Goals as goal
use Rattle.check_state.proofs.advancing.write_word.Goals.{then-yes, else-yes}

pub returns-after-yes : goal.returns-after-yes
returns-after-yes c = record {
  exact = λ none t h. by_event c.decide.new.replica t c.args.event.now _ c.in-Decide.is
      (decided_so c.decide.new.replica t c.in-Decide.change c.if-yes.decide c.in-Decide.yes
      (elim c.if-yes.branch [
        | then-yes w ↦ yes_word c.if-yes.decide c.in-Decide.yes w.if-yes.true w.decide-is
        | else-yes w ↦ no_word c.if-yes.decide c.in-Decide.yes w.if-yes.false w.decide-is
      ]) (c.decide.ensures.exact t h));
}

pub returns-in-Count : goal.returns-in-Count
returns-in-Count c =
    record { exact = λ _ t h. by_event _ t _ _ c.in-Count.is (c.count_at.ensures.exact t h) }

pub returns-in-Mark : goal.returns-in-Mark
returns-in-Mark c =
    record { exact = λ _ t h. by_event _ t _ _ c.in-Mark.is (c.set_status.ensures.exact t h) }

pub returns-in-Finish : goal.returns-in-Finish
returns-in-Finish c =
    record { exact = λ _ t h. by_event _ t _ _ c.in-Finish.is (c.set_status-in-Finish.ensures.exact t h) }

pub returns-in-Draw : goal.returns-in-Draw
returns-in-Draw c =
    record { exact = λ _ t h. by_event _ t _ _ c.in-Draw.is (c.draw.ensures.exact t h) }

pub returns-in_default : goal.returns-in_default
returns-in_default c = let other = c.in_default in record {
  exact = λ none t h. nothing_written c.args.replica.now t c.args.event.now other.not-Enter
      other.not-Decide other.not-Resolve other.not-Count other.not-Mark other.not-Finish
      other.not-Draw none h;
}
