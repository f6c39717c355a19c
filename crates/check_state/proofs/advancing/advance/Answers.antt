use Rattle.std.proofs.lemmas.Result.{on_ok_weaker}
use Rattle.check_state.proofs.EventLemmas.{done_by, installed_given_up, takes_none}
use Rattle.check_state.proofs.advancing.advance.Goals as goal

pub returns-in_ok-install-in-Install : goal.returns-in_ok-install-in-Install
returns-in_ok-install-in-Install c = record {
  exact = done_by _ _ _ c.in-Install.is (on_ok_weaker _
      (installed_given_up c.in-Install.change c.as_slice.ensures.value c.as_slice-in-Install.ensures.value
      c.in_ok-install-in-Install.ensures.exact)
      c.give_up_rows.ensures.exact);
}

pub returns-in-Root : goal.returns-in-Root
returns-in-Root c = record {
  exact = done_by _ _ _ (rw (← c.as_slice-in-Root.ensures.value) at c.in-Root.is) c.root.ensures.exact;
}

pub returns-in-Place : goal.returns-in-Place
returns-in-Place c = record {
  exact = done_by _ _ _ (rw (← c.as_slice-in-Place.ensures.value) at c.in-Place.is) c.place.ensures.exact;
}

pub returns-in_default : goal.returns-in_default
returns-in_default c = let other = c.in_default in record {
  exact = c.write_word.ensures.exact (takes_none c.args.event.now other.not-Reserve other.not-Install
      other.not-Root other.not-Place other.not-Lose);
}
