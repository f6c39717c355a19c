use borrow.Author.Gap.{counting}
use borrow.Author.Rules.{rules}
use Rattle.std.proofs.Common.{ℕ, Some, ap, subst, ◌∙◌}
use Rattle.ist_rule.specs.declared.view.View.{View}
use Rattle.ist_rule.proofs.WentOnLemmas.{goes_on_went}
use Rattle.ist_find.specs.Searches.{Names}
use Rattle.ist_find.proofs.LoadLemmas.{not_anchor}
use Rattle.ist_updates.proofs.WayLemmas.{NoEvent, asked_went}
use Rattle.ist_updates.proofs.DescentLemmas.{IsDown, at_slot, below_walk, come_back, here_walk, refused_walk}
use Rattle.ist_updates.proofs.ResultLemmas.{none_took, not_took}
use Rattle.ist_updates.proofs.walking.+descend.Goals as goal
use Rattle.ist_updates.proofs.walking.+descend.Goals.{After-step_down-child}

-- the step down
down : (t : ℕ) (c : After-step_down-child t) → IsDown c.args.who.now c.step_down-child.new.token
    c.args.update.key c.args.update.value c.args.node c.step_down-child.result.index c.step_down-child.result.word
down t c = let e = c.step_down-child.ensures in record {
  asked = asked_went c.args.who.now c.step_down-child.new.token _ c.requires.asked.0
      (goes_on_went NoEvent _ _ e.seen);
  came = c.requires.came;
  seen = e.seen;
  child = e.index;
  holds = e.word;
  names = e.named;
  set = e.set;
  stays = e.stays;
  down = e.down;
}

-- ---- if the walk ends here

pub try_slot-requires-clause-asked : goal.try_slot-requires-clause-asked
try_slot-requires-clause-asked t c = (
  (down t (goal.at.try_slot-requires-clause-asked t c).After-step_down-child).asked,
  search rules,
)

pub try_slot-requires-clause-at_slot : goal.try_slot-requires-clause-at_slot
try_slot-requires-clause-at_slot t c =
    at_slot (down t (goal.at.try_slot-requires-clause-at_slot t c).After-step_down-child)
    (c.inner_in.ensures.no_inner c.in_default.is)

pub returns-in_default : goal.returns-in_default
returns-in_default t c = let e = c.try_slot.ensures.walk in record {
  walk = here_walk (down t (goal.at.returns-in_default t c).After-step_down-child)
      e.on e.walked e.further e.met e.missed;
}

-- ---- if it goes on from a row

pub descend-requires : goal.descend-requires
descend-requires t c = let is = c.inner_in.ensures.inner c.in-Some.row c.in-Some.is in
    let above = c.step_down-child.ensures.above c.in-Some.row is in
    let small = c.ranges.node.fits in
    let d = down t (goal.at.descend-requires t c).After-step_down-child in
    let top = c.decreases in (
      search (rules, counting),
      (
        (d.asked, ap (λ (v : View). v.table) c.step_down-child.ensures.seen.same ∙ c.requires.asked.1),
        (
          (_, d.down d.came.0 c.in-Some.row d.came.1 is),
          λ same. absurd (not_anchor _ c.step_down-child.ensures.seen.sound c.in-Some.row
              (subst (Names c.step_down-child.new.token.view) is c.step_down-child.ensures.named) same),
        ),
      ),
    )

pub returns-in_err-outcome : goal.returns-in_err-outcome
returns-in_err-outcome t c = record {
  walk = refused_walk (down t (goal.at.returns-in_err-outcome t c).After-step_down-child)
      (c.inner_in.ensures.inner _ c.in-Some.is) c.from_residual.result c.from_residual.ensures.1
      c.in_err-outcome.ensures.walk;
}

-- if the walk from there took effect
pub count_update-done-requires-clause-can : goal.count_update-done-requires-clause-can
count_update-done-requires-clause-can t c =
    (come_back (down t (goal.at.count_update-done-requires-clause-can t c).After-step_down-child)
    (c.inner_in.ensures.inner _ c.in-Some.is) (c.in-Some-2.is ∙ ap Some c.in-Took.is) c.in_ok-outcome.ensures.walk).can

pub count_update-done-requires-clause-stood : goal.count_update-done-requires-clause-stood
count_update-done-requires-clause-stood t c =
    (come_back (down t (goal.at.count_update-done-requires-clause-stood t c).After-step_down-child)
    (c.inner_in.ensures.inner _ c.in-Some.is) (c.in-Some-2.is ∙ ap Some c.in-Took.is) c.in_ok-outcome.ensures.walk).stood

pub returns-in-Took : goal.returns-in-Took
returns-in-Took t c = let e = c.count_update-done.ensures in record {
  walk = (come_back (down t (goal.at.returns-in-Took t c).After-step_down-child)
      (c.inner_in.ensures.inner _ c.in-Some.is) (c.in-Some-2.is ∙ ap Some c.in-Took.is)
      c.in_ok-outcome.ensures.walk).walk
      c.count_update-done.result c.count_update-done.new.who e.on e.counted e.reply;
}

-- and if it took none
pub returns-in_default-outcome : goal.returns-in_default-outcome
returns-in_default-outcome t c = record {
  walk = below_walk (down t (goal.at.returns-in_default-outcome t c).After-step_down-child)
      (c.inner_in.ensures.inner _ c.in-Some.is) c.in-Some-2.is
      (not_took c.in-Some-2.outcome c.in_default-outcome.not-Took) c.in_ok-outcome.ensures.walk;
}

pub returns-in-None : goal.returns-in-None
returns-in-None t c = record {
  walk = below_walk (down t (goal.at.returns-in-None t c).After-step_down-child)
      (c.inner_in.ensures.inner _ c.in-Some.is) c.in-None.is none_took c.in_ok-outcome.ensures.walk;
}
