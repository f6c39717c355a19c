-- A pass meets a note. Serves `meet`.
use Rattle.std.proofs.Common.{◌≡◌, ℕ, max, [], ◌∷◌, Option, None, refl, sym, ap, ◌∙◌, subst, arith, Some, IfSome}
use Rattle.ist_core.specs.declared.ports.Full.{Full}
use Rattle.ist_core.specs.LogTerms.{same_log, Lawful, StandInPrefixes, Later}
use Rattle.ist_core.specs.TreeTerms.{StandsIn, IsFinishedWith}
use Rattle.laws_histories.proofs.ContentLemmas.{told_at}
use Rattle.laws_histories.proofs.WovenLemmas.{woven_legal}
use Rattle.laws_histories.proofs.PlacedLemmas.{has_places}
use Rattle.ist_rule.specs.RuleTerms.{TokenFace, Looked, seeing, joined, MomentsGoOn, now}
use Rattle.ist_rule.specs.declared.view.View.{View}
use Rattle.ist_rule.proofs.LaterLemmas.{later-goes_on, goes_on_more}
use Rattle.ist_rows.specs.RowTerms.{StaysReady}
use Rattle.ist_rows.specs.declared.callers.Caller.{Caller}
use Rattle.ist_tree.specs.CallTerms.{TreeFace, PassFace, calls_in, HasItsCalls, HasSeenMore, HasLearnt, WeavesWith, tree_of, face_as, pass_face, note_face, IsPassWith, IsNote, Frozen, FreezeOutcome, Rebuilt, Still, Freezes, FreezesTarget, HasMet, IsHelpShort, IsRebuiltIn, IsTargetShort, IsTopShort, Rebuilds}
use Rattle.ist_tree.proofs.GoingLemmas.{has_its_calls, IsLaterView, pass_with_later}
use Rattle.ist_layout.specs.Meanings.{ref_meant}
use Rattle.ist_rebuild.specs.Starting.{StartsDoneBut, StartsDoneSince}
use Rattle.ist_rule.proofs.WentOnLemmas.{later_by-goes_on, went_lawful, went_now}
use Rattle.ist_tree.proofs.FewFreezeLemmas.{few_helped, few_still}
use Rattle.ist_tree.proofs.FreezingLemmas.{row_was_frozen, was_frozen_on}
use Rattle.ist_tree.proofs.FreezeGoingLemmas.{rebuild_on}
use Rattle.ist_rows.proofs.GoneLemmas.{ready_more}

-- what a meeting results in, for a pass and a note with these faces
pub record MeetEnds (old note : PassFace) (who : Caller) (refused : Option Full) (token : TokenFace)
    : Type 0 where
  pub pass : IsPassWith (record who { token = token }) refused
  pub seen : HasSeenMore old (face_as token who.number refused)
  pub calls : token.view.calls ≡ old.calls
  pub learnt : HasLearnt (face_as token who.number refused) note
  pub woven : WeavesWith (face_as token who.number refused) note

-- two passes of one tree that each have their calls are woven, if one has seen what the other had
weaves : (p other : PassFace) → Lawful p.tree.start p.tree.words p.seen → HasItsCalls p
    → HasItsCalls other → HasLearnt p other → WeavesWith p other
weaves p other lawful mine theirs learnt = record {
  mine = mine;
  theirs = theirs;
  legal = woven_legal p.tree.start p.tree.words p.seen (calls_in p ∷ calls_in other ∷ [])
      (told_at p.tree.start p.tree.words lawful.opens p.seen lawful.enabled).legal prefixes;
  places = has_places p.tree.start p.tree.words p.seen (calls_in p ∷ calls_in other ∷ []) prefixes;
}
  where
    prefixes : StandInPrefixes p.tree.start p.tree.words p.seen (calls_in p ∷ calls_in other ∷ [])
    prefixes = (
      (p.seen, same_log, mine.stand),
      (
        (
          other.seen,
          learnt.seen,
          subst (λ (t : TreeFace).
              StandsIn t.start t.words other.seen other.number other.calls) learnt.tree theirs.stand,
        ),
        tt,
      ),
    )

-- the caller took in a note
module _ (who : Caller) (n token : TokenFace) (refused : Option Full)
    (p : IsPassWith who refused) (note : IsNote n.view) (word : ℕ)
    (l : Looked (joined who.token.view n.view) 0 word token.view)
    (later : Later who.token.view.who who.token.view.log token.view.log)
    (other_later : Later n.view.who n.view.log token.view.log)
    (heard : MomentsGoOn who.token.view.moments token.view.moments)
    (one_tree : tree_of n ≡ tree_of who.token) where
  abbrev v : View
  v = who.token.view

  abbrev x : View
  x = token.view

  x_is : x ≡ seeing (joined v n.view) x.log 0 word
  x_is = l.view

  later_view : IsLaterView v x
  later_view = grind (arith, x_is)

  tree_same : tree_of token ≡ tree_of who.token
  tree_same = ap (λ (y : View). record { table = y.table; start = y.start; words = y.words }) x_is

  none : x.pending ≡ None
  none = ap (λ (y : View). y.pending) x_is ∙ p.pass.in_none

  learns : HasLearnt (face_as token who.number refused) (note_face n)
  learns = grind (arith, x_is, tree_same, later-goes_on)

  mine : HasItsCalls (face_as token who.number refused)
  mine = has_its_calls x who.number l.sound (later_view.who_is ∙ p.pass.caller.mine) none

  theirs : HasItsCalls (note_face n)
  theirs = grind arith

  meet_here : MeetEnds (pass_face who refused) (note_face n) who refused token
  meet_here = let up : x.stamp ≡ max v.stamp n.view.stamp = ap (λ (y : View). y.stamp) x_is in
      record {
        pass = pass_with_later who token refused p later_view none;
        seen = record {
          tree = tree_same;
          number = refl;
          seen = later-goes_on later;
          heard = heard;
          stamp = omega arith;
        };
        calls = ap (λ (y : View). y.calls) x_is;
        learnt = learns;
        woven = weaves (face_as token who.number refused) (note_face n) l.sound.lawful mine theirs learns;
      }

  -- all of this together
  pub meet_ends : (old other : PassFace) → pass_face who refused ≡ old → note_face n ≡ other
      → MeetEnds old other who refused token
  meet_ends old other as_old as_other = grind (arith, meet_here)

-- ---- what is frozen below the anchor: what was met there as it is, or the target of a rebuild. Serves
-- `freeze_below`.

-- what was met as it is
pub still_frozen : (a c : Caller) (words : ℕ) (frozen : Frozen) → HasMet a c (Still frozen)
    → Freezes a c words record { frozen = frozen; refused = None }
still_frozen a c words frozen m = grind (arith, few_still)

-- the target of a rebuild that was met, and finished
pub target_frozen : (a b c : Caller) (words rebuild target : ℕ) (outcome : FreezeOutcome)
    → HasMet a b (Rebuilt rebuild target) → FreezesTarget b c words rebuild target outcome
    → Freezes a c words outcome
target_frozen a b c words rebuild target outcome m f = record {
  on = all;
  frozen = was_frozen_on v.start v.words v.log m.is.1.at w.log w.log lawful m.is.1.since same_log
      outcome.frozen
      (row_was_frozen v.start v.words m.is.1.at w.log lawful
      (goes_on_more m.is.1.until (later_by-goes_on f.on.gone.went.later)) outcome.frozen target
      m.is.1.child f.root_is
      (subst (λ t. IsFinishedWith t target outcome.frozen.keys)
      (went_now Rebuilds v w all.gone.went)
      f.finished));
  done = λ unrefused first done. subst (StartsDoneSince first (now w)) m.on.gone.number
      (f.done unrefused first
      (subst (λ n. StartsDoneBut first (now b.token.view) n rebuild) (sym m.on.gone.number)
      (m.done first done)));
  rebuilt = λ row e. subst (λ n. IsRebuiltIn v w words n outcome.refused)
      (cc (sym (ap ref_meant f.root_is) ∙ e))
      record {
        rebuild = rebuild;
        of = rebuild_on Rebuilds b.token.view c.token.view f.on.gone.went rebuild target m.is.0;
        replaced = f.replaced;
        short = its outcome.refused f.refused;
      };
  refused = cause outcome.refused f.refused;
  few = few_helped a b c outcome.refused outcome.frozen.keys m.on f.on m.few f.few;
}
  where
    top : (full : Full) → IsHelpShort c.token.view rebuild words full
        → IsTopShort a.token.view c.token.view words full
    top full h = record {
      rebuild = rebuild;
      target = target;
      of = rebuild_on Rebuilds b.token.view c.token.view f.on.gone.went rebuild target m.is.0;
      top = record {
        at = m.is.1.at;
        since = m.is.1.since;
        until = goes_on_more m.is.1.until (later_by-goes_on f.on.gone.went.later);
        child = m.is.1.child;
      };
      help = h;
    }

    cause : (o : Option Full) → IfSome o (IsHelpShort c.token.view rebuild words)
        → IfSome o (IsTopShort a.token.view c.token.view words)
    cause None h = tt
    cause (Some full) h = top full h

    its : (o : Option Full) → IfSome o (IsHelpShort c.token.view rebuild words)
        → IfSome o (IsTargetShort a.token.view c.token.view words target rebuild)
    its None h = tt
    its (Some full) h = record { top = top full h; row_is = refl; rebuild_is = refl }

    v : View
    v = a.token.view

    w : View
    w = c.token.view

    all : StaysReady Rebuilds a c
    all = ready_more Rebuilds a b c m.on f.on

    lawful : Lawful v.start v.words w.log
    lawful = went_lawful Rebuilds v w all.gone.went
