-- A meeting is a join.
use Rattle.std.proofs.Common.{◌∙◌, sym, ap, subst}
use Rattle.ist_rule.specs.RuleTerms.{MomentsGoOn}
use Rattle.ist_rule.specs.declared.view.View.{View}
use Rattle.ist_tree.specs.CallTerms.{PassFace}
use Rattle.ist_tree.proofs.MeetingLemmas.{MeetEnds, meet_ends}
use Rattle.ist_tree.proofs.trees.Tree.meet.Goals as goal
use Rattle.ist_tree.proofs.trees.Tree.meet.Goals.{After-join}

-- what the meeting results in
ends : (c : After-join) → MeetEnds c.args.pass.now c.args.note c.pass.inside.caller c.pass.inside.refused
    c.join.new.token
ends c = meet_ends c.pass.inside.caller c.note.inside.token c.join.new.token c.pass.inside.refused
    c.pass.invariant c.note.invariant c.join.ensures.joined.0 c.join.ensures.joined.1
    c.join.ensures.later c.join.ensures.other_later c.join.ensures.heard
    (ap (λ (p : PassFace). p.tree) c.note.view_is ∙ c.requires.its_tree
    ∙ sym (ap (λ (p : PassFace). p.tree) c.pass.view_is ∙ c.requires.same_tree))
    _ _ c.pass.view_is c.note.view_is

pub invariant_of-pass : goal.invariant_of-pass
invariant_of-pass c = (ends c).pass

pub returns : goal.returns
returns c = let e = ends c in record {
  seen = e.seen;
  no_walk = ap (λ (y : View). y.searches) c.join.ensures.joined.1.view
      ∙ ap (λ (p : PassFace). p.searches) c.pass.view_is;
  calls = e.calls;
  learnt = e.learnt;
  woven = e.woven;
  note_heard = subst (λ (p : PassFace). MomentsGoOn p.moments c.join.new.token.view.moments)
      c.note.view_is c.join.ensures.other_heard;
  refused = ap (λ (p : PassFace). p.refused) c.pass.view_is;
}
