-- A caller that looks below the anchor, and what it has met there over further steps. Serves the
-- functions that freeze a tree.
use Rattle.std.proofs.Common.{◌≡◌, ℕ, List, Option, Some, None, Result, Ok, Err, IfOk, IfErr, refl, sym, subst, inr, arith}
use Rattle.ist_core.specs.declared.events.Event.{Event}
use Rattle.ist_core.specs.declared.pairs.Pair.{Pair}
use Rattle.ist_core.specs.declared.ports.Full.{Full}
use Rattle.ist_core.specs.LogTerms.{LaterBy, Lawful, Log, same_log, Snapshot}
use Rattle.ist_core.specs.TreeTerms.{AllGrow}
use Rattle.ist_core.specs.WordTerms.{anchor}
use Rattle.ist_core.proofs.AllLogLemmas.{rebuild_there}
use Rattle.laws_links.proofs.FinishedLemmas.{target_grows}
use Rattle.laws_links.proofs.FormLemmas.{started_grows}
use Rattle.ist_rebuild.specs.declared.answers.Started.{Started}
use Rattle.ist_rebuild.specs.declared.answers.Started.TheVariants.{Other}
use Rattle.ist_rebuild.specs.Going.{Begins}
use Rattle.ist_rebuild.specs.Lacking.{LacksKind}
use Rattle.ist_rebuild.specs.Starting.{IsStartedAt, IsStartRefused, LeavesUninstalled, LeavesUnstarted, ReservesNeeded, StartsDoneBut, StartsDoneSince, StartsNone}
use Rattle.ist_rebuild.proofs.NeedLemmas.{lacks_now, lacks_needed, takes_more, takes_none}
use Rattle.ist_rows.proofs.FewStepLemmas.{taken_keeps}
use Rattle.ist_rule.specs.RuleTerms.{WentOn, TokenFace, now, IsSound}
use Rattle.ist_rule.specs.declared.view.View.{View}
use Rattle.ist_rule.proofs.LaterLemmas.{goes_on_more}
use Rattle.ist_rule.proofs.WentOnLemmas.{later_by-goes_on, went_grow, went_lawful}
use Rattle.ist_rows.specs.RowTerms.{IsReady, StaysReady}
use Rattle.ist_rows.specs.declared.callers.Caller.{Caller}
use Rattle.ist_rebuild.specs.Needs.{TakesNeeded}
use Rattle.ist_tree.proofs.FewFreezeLemmas.{few_met}
use Rattle.ist_tree.specs.CallTerms.{Frozen, Site, Rebuilt, Still, HeldInnerRow, WasFrozen, GoesIdle, HasMet, IsBelowAnchor, IsRebuildOf, IsSite, KeepsDoneBut, MayHaveMet, WasTop, rebuild_in, IsFreezeStopped, KeepsDone, Rebuilds}
use Rattle.ist_tree.proofs.ShortLemmas.{held_on, short_now}
use Rattle.ist_tree.proofs.DueLemmas.{done_more}
use Rattle.ist_tree.proofs.FreezingLemmas.{was_frozen_on}
use Rattle.ist_tree.proofs.EventLemmas.{IsPlainHelp, none_starts_none}
use Rattle.ist_tree.proofs.FurtherLemmas.{plain_done, plain_on}
use Rattle.ist_tree.proofs.GoingLemmas.{starts_none_more, starts_none_went}
use Rattle.ist_rows.proofs.GoneLemmas.{ready_more, ready_same}

-- ---- one table

-- what is true by the table of a view that went on is true by the first view's table
pub by_table : (P : Event → Type 0) (v w : View) → WentOn P v w → (Q : List Pair → ℕ → Type 0)
    → Q w.start w.words → Q v.start v.words
by_table P v w g Q h = grind arith

-- ---- what was met

-- a row that was the anchor's child since the second view was its child since the first
pub top_more : (P : Event → Type 0) (u v : View) (log : Log) → WentOn P u v → (target : ℕ)
    → WasTop v log target → WasTop u log target
top_more P u v log g target t = grind (arith, goes_on_more, later_by-goes_on, by_table)

-- what was frozen since the second view was frozen since the first
pub frozen_more : (P : Event → Type 0) (u v : View) (log : Log) → WentOn P u v → (frozen : Frozen)
    → Lawful v.start v.words log → WasFrozen v.start v.words v.log log frozen
    → WasFrozen u.start u.words u.log log frozen
frozen_more P u v log g frozen l w =
    by_table P u v g (λ pairs words. WasFrozen pairs words u.log log frozen)
    (was_frozen_on v.start v.words u.log v.log log log l (later_by-goes_on g.later) same_log frozen w)

-- starts that are kept done, except one, are kept so from an earlier caller on
pub but_more : (a b c : Caller) (o : Option ℕ) → b.number ≡ a.number → KeepsDone a b
    → KeepsDoneBut b c o → KeepsDoneBut a c o
but_more a b c None number one two = done_more a b c number one two
but_more a b c (Some rebuild) number one two = λ first done.
    subst (λ n. StartsDoneBut first (now c.token.view) n rebuild) number
    (two first (subst (StartsDoneSince first (now b.token.view)) (sym number) (one first done)))

-- if all are done, all but one are
pub all_but : (a c : Caller) (rebuild : ℕ) → KeepsDone a c → KeepsDoneBut a c (Some rebuild)
all_but a c rebuild done = λ first was base change e own kind said other to.
    inr (done first was base change e own kind said other to)

-- ---- going on without a start

-- a caller goes on without a start to itself
pub idle_same : (who : Caller) → IsSound who.token.view → IsReady who → GoesIdle who who
idle_same who s r = grind (arith, ready_same, takes_none)

-- two such parts, one after the other, are one
pub idle_more : (a b c : Caller) → GoesIdle a b → GoesIdle b c → GoesIdle a c
idle_more a b c one two = record {
  on = ready_more Rebuilds a b c one.on two.on;
  done = done_more a b c one.on.gone.number one.done two.done;
  none = starts_none_more (now a.token.view) (now b.token.view) (now c.token.view) a.number one.none
      (subst (StartsNone (now b.token.view) (now c.token.view)) one.on.gone.number two.none);
  few = takes_more a b c one.on.gone.number one.few two.few;
}

-- steps that install nothing are such
pub plain_idle : (P : Event → Type 0) → ((event : Event) → P event → IsPlainHelp event)
    → (who : Caller) (token : TokenFace) → IsReady who → WentOn P who.token.view token.view
    → GoesIdle who (record who { token = token })
plain_idle P all who token r went = record {
  on = plain_on P all who token r went;
  done = plain_done P all who token r went;
  none = starts_none_went P who.number
      (λ event p. none_starts_none who.number event (all event p).installs) who.token.view
      token.view r.caller.mine r.quiet.resolved went;
  few = takes_none who (record who { token = token })
      (taken_keeps who.number (λ event p. (all event p).keeps)
      (subst (λ x. LaterBy x P who.token.view.log token.view.log) r.caller.mine went.later)) refl;
}

-- a start that only made reservings is idle
pub begins_idle : (old new : Caller) → StaysReady Rebuilds old new → KeepsDone old new
    → StartsNone (now old.token.view) (now new.token.view) old.number → ReservesNeeded old new
    → GoesIdle old new
begins_idle old new on done none own = record { on = on; done = done; none = none; few = own.few }

-- a start that was answered by another word started no rebuild
pub other_unstarted : (v w : View) (number : ℕ) (answer : Started) (word : ℕ)
    → answer ≡ Other word → LeavesUnstarted (now v) (now w) number (Ok answer)
    → StartsNone (now v) (now w) number
other_unstarted v w number answer word is left = grind arith

-- and it only made reservings
pub other_reserved : (old new : Caller) (answer : Started) (word : ℕ) → answer ≡ Other word
    → LeavesUninstalled old new (Ok answer) → ReservesNeeded old new
other_reserved old new answer word is left = subst (λ a. LeavesUninstalled old new (Ok a)) is left

-- ---- what was met, over further steps

-- what is met after further steps is met from the beginning
pub met_more : (a b c : Caller) (site : Site) → StaysReady Rebuilds a b → KeepsDone a b
    → TakesNeeded a b → HasMet b c site → HasMet a c site
met_more a b c site on done few m = record {
  on = ready_more Rebuilds a b c on m.on;
  is = here site m.is;
  done = but_more a b c (rebuild_in site) on.gone.number done m.done;
  few = few_met a b c on m.on few m.few;
}
  where
    lawful : Lawful b.token.view.start b.token.view.words c.token.view.log
    lawful = went_lawful Rebuilds b.token.view c.token.view m.on.gone.went

    here : (s : Site) → IsSite b.token.view c.token.view s → IsSite a.token.view c.token.view s
    here (Still frozen) w = grind (arith, frozen_more, lawful)
    here (Rebuilt rebuild target) w = grind (arith, top_more)

-- what may be met after idle steps may be met from the beginning
pub may_have_met_more : (a b c : Caller) (o : Option Site) → GoesIdle a b → MayHaveMet b c o
    → MayHaveMet a c o
may_have_met_more a b c (Some site) g m = met_more a b c site g.on g.done g.few m
may_have_met_more a b c None g m = idle_more a b c g m

-- ---- refusals

-- a start that is refused after idle steps is refused from the beginning
pub stopped_more : (a b c : Caller) (words : ℕ) (full : Full) → GoesIdle a b
    → IsFreezeStopped b c words full → IsFreezeStopped a c words full
stopped_more a b c words full g s = record {
  idle = idle_more a b c g s.idle;
  left = s.left;
  held = by_table Rebuilds a.token.view b.token.view g.on.gone.went
      (λ pairs words. HeldInnerRow pairs words a.token.view.log c.token.view.log)
      (held_on b.token.view.start b.token.view.words a.token.view.log b.token.view.log
      c.token.view.log c.token.view.log (later_by-goes_on g.on.gone.went.later) same_log s.held);
}

-- a start was refused
pub start_stopped : (old new : Caller) (words : ℕ) (full : Full) → GoesIdle old new
    → HeldInnerRow old.token.view.start old.token.view.words old.token.view.log old.token.view.log
    → IsStartRefused old.token.view words full new.token.view → LacksKind new full.asked
    → IsFreezeStopped old new words full
start_stopped old new words full g held r lacks = record {
  idle = g;
  left = short_now Begins old.token.view words full new.token.view r (λ start. record {
    start = start;
    lacks = lacks_now new g.on.gone.went.sound g.on.gone.caller g.on.gone.refused full.asked lacks;
    needs = lacks_needed new full.asked lacks start;
  });
  held = held_on old.token.view.start old.token.view.words old.token.view.log old.token.view.log
      old.token.view.log new.token.view.log same_log (later_by-goes_on g.on.gone.went.later) held;
}

-- ---- a rebuild

-- a rebuild below the anchor stays there
pub below_grows : (t u : Snapshot) → AllGrow t.pieces u.pieces → (rebuild : ℕ)
    → IsBelowAnchor t rebuild → IsBelowAnchor u rebuild
below_grows t u grow rebuild b = grind (arith, rebuild_there)

-- a rebuild of this target stays one
pub rebuild_on : (P : Event → Type 0) (v w : View) → WentOn P v w → (rebuild target : ℕ)
    → IsRebuildOf (now v) rebuild target → IsRebuildOf (now w) rebuild target
rebuild_on P v w g rebuild target r = let grow = went_grow P v w g in record {
  started = started_grows (now v) (now w) grow rebuild r.started;
  target_is = target_grows (now v) (now w) grow rebuild target r.target_is;
  below = below_grows (now v) (now w) grow rebuild r.below;
}

-- the one that was started
pub begun_of : {t : Snapshot} {rebuild index target : ℕ}
    → IsStartedAt t rebuild anchor index target → IsRebuildOf t rebuild target
begun_of s = grind arith

-- ---- results

-- a fact about a success may be replaced by one that it implies
pub ok_map : {A : Type 0} (P Q : A → Type 0) (answer : Result A Full) → ((a : A) → P a → Q a)
    → IfOk answer P → IfOk answer Q
ok_map P Q (Ok a) all h = all a h
ok_map P Q (Err full) all h = tt

-- a fact about a refusal may be replaced by one that it implies
pub err_map : {A : Type 0} (P Q : Full → Type 0) (answer : Result A Full)
    → ((full : Full) → P full → Q full) → IfErr answer P → IfErr answer Q
err_map P Q (Ok a) all h = tt
err_map P Q (Err full) all h = all full h

-- so may two facts about it
pub err_both : {A : Type 0} (P R Q : Full → Type 0) (answer : Result A Full)
    → ((full : Full) → P full → R full → Q full) → IfErr answer P → IfErr answer R → IfErr answer Q
err_both P R Q (Ok a) all h k = tt
err_both P R Q (Err full) all h k = all full h k
