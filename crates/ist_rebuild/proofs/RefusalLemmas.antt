-- What a refused caller was refused for. Serves `build_out`, `prepare` and their callers.
use Rattle.std.proofs.Common.{◌≡◌, ℕ, Result, Ok, Err, IfErr, sym, subst, ◌≢◌, ◌⊎◌, List, ◌∷◌, ap, ◌∙◌, inl, inr, arith}
use Rattle.std.specs.Result.{IsErrAnd}
use Rattle.ist_core.specs.declared.ports.Full.{Full}
use Rattle.ist_core.specs.declared.events.Event.{Event}
use Rattle.ist_core.specs.declared.events.Who.TheVariants.{Caller as CallerOf}
use Rattle.ist_core.specs.declared.events.Event.TheVariants.{Install}
use Rattle.ist_core.specs.declared.lists.Row.{Row}
use Rattle.ist_core.specs.declared.pairs.Pair.{Pair}
use Rattle.ist_core.specs.TreeTerms.{IsFinishedWith, HasTarget, as_target, IsStarted, AllResolvedOf, IsUnrefused}
use Rattle.ist_core.specs.WordTerms.{next_place, start, undecided, decided_no}
use Rattle.ist_core.proofs.AllLogLemmas.{rebuild_there}
use Rattle.laws_links.proofs.FormLemmas.{finished_with_grows}
use Rattle.ist_rule.specs.RuleTerms.{WentOn, now, GoesOnTo, TokenFace, IsResolved}
use Rattle.ist_rule.specs.declared.view.View.{View}
use Rattle.ist_rule.proofs.WentOnLemmas.{goes_on_went, looked_went, went_all, went_grow, went_more, went_now, went_lawful}
use Rattle.ist_rows.specs.RowTerms.{HasGone, IsKindRefused, IsReady, InstallsNone}
use Rattle.ist_rows.specs.declared.callers.Caller.{Caller}
use Rattle.ist_rows.specs.declared.kinds.Kind.TheVariants.{Change}
use Rattle.ist_rows.proofs.ShortLemmas.{short_from}
use Rattle.ist_build.specs.Calls.{Builds, IsForBuild, RebuildIsShort, IsBuildable}
use Rattle.ist_rebuild.specs.Going.{ServesRebuild}
use Rattle.ist_rebuild.specs.Helping.{IsAskedFor, IsHelpRefused, for_change, for_node, HasHelped}
use Rattle.ist_rebuild.specs.Lacking.{LacksNow}
use Rattle.ist_rebuild.proofs.EventLemmas.{builds_serve, helped_more, loads_helped, marks_helped, started_went}
use Rattle.ist_rebuild.proofs.NeedLemmas.{lacks_now, refused_lacks}
use Rattle.laws_links.proofs.FinishedLemmas.{target_grows}
use Rattle.ist_mark.specs.Marking.{MayMark, Marks}
use Rattle.ist_core.specs.LogTerms.{Snapshot, no_more, one_more, whose, LaterBy, CanOpen, EachEnabled, state_of, Log}
use Rattle.ist_rows.proofs.GoneLemmas.{still_ready}
use Rattle.ist_core.proofs.AllEventLemmas.{sound, sound_start}
use Rattle.laws_links.proofs.ChangeLemmas.{undecided_unresolved}
use Rattle.ist_rule.proofs.CallLemmas.{installs_not}
use Rattle.ist_rule.proofs.ChangeLemmas.{ChangeComes, stood, is_installed, change_comes, grows_same_change}
use Rattle.ist_rule.proofs.UndecidedLemmas.{resolved_on}

-- a build was refused a row
pub short_refused : (v w : View) (rebuild words : ℕ) (full : Full)
    → RebuildIsShort v rebuild words full w → IsHelpRefused v rebuild words full w
short_refused v w rebuild words full h =
    short_from (WentOn Builds) (WentOn ServesRebuild) v v serves words full w h there
  where
    serves : (x : View) → WentOn Builds v x → WentOn ServesRebuild v x
    serves = went_all Builds ServesRebuild builds_serve v

    -- what was asked for in the first view is asked for in the last
    there : IsForBuild (now v) rebuild full.asked
        → IsAskedFor (LacksNow w) (now w) rebuild full.asked
    there build = let told = build.told in
        let grow = went_grow ServesRebuild v w
        (went_more ServesRebuild v h.before w (serves h.before h.seen)
        (looked_went ServesRebuild h.before next_place full.next w h.looked)) in
        let it = rebuild_there (now v).pieces (now w).pieces grow rebuild told.row told.published in
        for_node it.0 build.k it.1
        (subst (λ n. IsFinishedWith (now w) n build.k) (sym it.2.target)
        (finished_with_grows (now v) (now w) grow told.row.target build.k told.finished))
        build.node

-- the refusal of a row for the change
pub row_refused : (old new : Caller) (rebuild words : ℕ) (full : Full)
    → IsKindRefused words Change old new full → HasGone ServesRebuild old new
    → IsHelpRefused old.token.view rebuild words full new.token.view
row_refused old new rebuild words full h gone =
    short_from GoesOnTo (WentOn ServesRebuild) old.token.view old.token.view
    (λ x. goes_on_went ServesRebuild old.token.view x) words full new.token.view h.cause
    (λ is. for_change is (lacks_now new gone.went.sound gone.caller gone.refused full.asked
    (refused_lacks words Change old new full h)))

-- the refusal of a call holds from an earlier view too, if the caller helped in between
pub refused_more : (u v w : View) (rebuild words : ℕ) (full : Full) → WentOn ServesRebuild u v
    → IsHelpRefused v rebuild words full w → IsHelpRefused u rebuild words full w
refused_more u v w rebuild words full g h = grind (arith, short_from, went_more)

-- so does that of an answer
pub answer_refused : {A : Type 0} (r : Result A Full) (u v w : View) (was rebuild words : ℕ) → was ≡ rebuild
    → WentOn ServesRebuild u v → IfErr r (λ full. IsHelpRefused v was words full w)
    → IfErr r (λ full. IsHelpRefused u rebuild words full w)
answer_refused (Ok a) u v w was rebuild words is g h = tt
answer_refused (Err full) u v w was rebuild words is g h = grind (arith, refused_more)

-- and that of an answer of a build
pub answer_short : {A : Type 0} (r : Result A Full) (u v w : View) (rebuild words : ℕ)
    → WentOn ServesRebuild u v → IfErr r (λ full. RebuildIsShort v rebuild words full w)
    → IfErr r (λ full. IsHelpRefused u rebuild words full w)
answer_short (Ok a) u v w rebuild words g h = tt
answer_short (Err full) u v w rebuild words g h = grind (arith, refused_more, short_refused)

-- ---- answers

-- what is true of the refusal that is passed on is true of the answer
pub passed_on : {A : Type 0} (answer : Result A Full) (full : Full) (P : Full → Type 0)
    → IsErrAnd answer (λ x. x ≡ full) → P full → IfErr answer P
passed_on (Ok a) full P same p = tt
passed_on (Err e) full P same p = subst P (sym same) p

-- such a refusal from an earlier view
pub passed_more : {A : Type 0} (answer : Result A Full) (full : Full) (u v w : View) (rebuild words : ℕ)
    → IsErrAnd answer (λ x. x ≡ full) → WentOn ServesRebuild u v
    → IsHelpRefused v rebuild words full w → IfErr answer (λ x. IsHelpRefused u rebuild words x w)
passed_more answer full u v w rebuild words same g h = grind (arith, passed_on, refused_more)

-- ---- a rebuild that may be built may still be built later. Serves `build_out` and `help_rebuild`.

-- a rebuild that may be built may be still
pub buildable_went : (P : Event → Type 0) (v w : View) → WentOn P v w → (rebuild : ℕ)
    → IsBuildable (now v) rebuild → IsBuildable (now w) rebuild
buildable_went P v w g rebuild b = let grow = went_grow P v w g in
    let it = rebuild_there (now v).pieces (now w).pieces grow rebuild b.told.row b.told.published in
    record {
      k = b.k;
      told = record {
        row = it.0;
        published = it.1;
        started = started_went P v w g rebuild b.told.started;
        finished = subst (λ n. IsFinishedWith (now w) n b.k) (sym it.2.target)
            (finished_with_grows (now v) (now w) grow b.told.row.target b.k b.told.finished);
      };
    }

-- one with a finished target may be built
told_buildable : (t : Snapshot) (rebuild target k : ℕ) → HasTarget t rebuild target
    → IsStarted t rebuild → IsFinishedWith t target k → IsBuildable t rebuild
told_buildable t rebuild target k h started finished = grind arith

-- the target of a started rebuild may be marked
may_mark_target : (v : View) (number rebuild target : ℕ) → v.who ≡ CallerOf number
    → HasTarget (now v) rebuild target → IsStarted (now v) rebuild → MayMark v target
may_mark_target v number rebuild target mine h started =
    record { number = number; mine = mine; called = as_target rebuild h started }

-- the target of a rebuild is still its target
target_went : (P : Event → Type 0) (v w : View) → WentOn P v w → (rebuild target : ℕ)
    → HasTarget (now v) rebuild target → HasTarget (now w) rebuild target
target_went P v w g rebuild target h =
    target_grows (now v) (now w) (went_grow P v w g) rebuild target h

-- ---- marking

-- the caller has marked the rebuild's target, so that it may be built
pub record HasMarkedForBuild (who : Caller) (token : TokenFace) (rebuild : ℕ) : Type 0 where
  pub helped : HasHelped who (record who { token = token })
  pub buildable : IsBuildable (now token.view) rebuild

-- a caller that loaded the target and marked it may build the rebuild
pub has_marked : (who : Caller) (mid token : TokenFace) (rebuild target keys : ℕ) → IsReady who
    → IsStarted (now who.token.view) rebuild → GoesOnTo who.token.view mid.view
    → HasTarget (now mid.view) rebuild target → WentOn (Marks token.view target) mid.view token.view
    → IsFinishedWith (now token.view) target keys → HasMarkedForBuild who token rebuild
has_marked who mid token rebuild target keys ready started seen h marks finished =
    let first = loads_helped who mid ready seen in
    let all = helped_more who (record who { token = mid }) (record who { token = token }) first
    (marks_helped (record who { token = mid }) token token.view target (still_ready first.on) marks) in
    record {
      helped = all;
      buildable = told_buildable (now token.view) rebuild target keys
          (target_went (Marks token.view target) mid.view token.view marks rebuild target h)
          (started_went ServesRebuild who.token.view token.view all.on.gone.went rebuild started) finished;
    }

-- the caller might mark the target
pub may_mark : (who : Caller) (mid : TokenFace) (rebuild target : ℕ) → IsReady who
    → IsStarted (now who.token.view) rebuild → GoesOnTo who.token.view mid.view
    → HasTarget (now mid.view) rebuild target → MayMark mid.view target
may_mark who mid rebuild target ready started seen h =
    let first = loads_helped who mid ready seen in
    may_mark_target mid.view who.number rebuild target first.on.gone.caller.mine h
    (started_went ServesRebuild who.token.view mid.view first.on.gone.went rebuild started)

-- ---- a caller's changes while it installs none: those that were resolved stay so, and none on a node
-- is refused. Serves `prepare`.

module _ (pairs : List Pair) (words : ℕ) (opens : CanOpen pairs words) (number node : ℕ) where
  -- an event that none of them is installed by leaves those on a node unrefused
  unrefused_on : (log : Log) (event : Event) → EachEnabled (start pairs words) (event ∷ log)
      → ((base : ℕ) (rows : List Row) → event ≢ Install number base rows)
      → AllResolvedOf (state_of pairs words log) log number
      → IsUnrefused (state_of pairs words log) number node
      → IsUnrefused (state_of pairs words (event ∷ log)) number node
  unrefused_on log event enabled idle all none base r there owned here =
      at (change_comes (start pairs words) log event enabled.1
      (sound (start pairs words) log (sound_start pairs words) enabled.0) base r there) idle
    where
      at : {e : Event} → ChangeComes (start pairs words) log base r e
          → ((b : ℕ) (rows : List Row) → e ≢ Install number b rows) → r.decision ≢ decided_no
      at (stood past was g) out = let mine = sym (grows_same_change g).1 ∙ owned in
          let set : past.decision ≢ undecided =
          λ e. undecided_unresolved pairs words opens log enabled.0 base past was e
          (all base past was mine) in
          λ refused. none base past was mine (sym (ap (λ c. c.node) g.others) ∙ here)
          (sym (g.decided set) ∙ refused)
      at (is_installed {rows = rows} h g) out =
          absurd (out base rows (ap (λ c. Install c base rows)
          (sym h.owned ∙ sym (grows_same_change g).1 ∙ owned)))

  -- resolved changes stay resolved in a longer log without an Install of theirs
  stay : (old log : Log) → EachEnabled (start pairs words) log
      → LaterBy (CallerOf number) InstallsNone old log
      → AllResolvedOf (state_of pairs words old) old number
      → AllResolvedOf (state_of pairs words log) log number
      × (IsUnrefused (state_of pairs words old) number node
      → IsUnrefused (state_of pairs words log) number node)
  stay old _ enabled no_more all = (all, λ none. none)
  stay old _ enabled (one_more {log = log} event l how) all =
      let before = stay old log enabled.0 l all in
      let idle = installs_none event how in (
        resolved_on pairs words log event enabled number idle before.0,
        λ none. unrefused_on log event enabled idle before.0 (before.1 none),
      )
    where
      installs_none : (e : Event) → (whose e ≢ CallerOf number) ⊎ InstallsNone e
          → (base : ℕ) (rows : List Row) → e ≢ Install number base rows
      installs_none e (inl other) = installs_not number e other
      installs_none e (inr is) = λ base rows same. subst InstallsNone same is

module _ (v w : View) (number : ℕ) (mine : v.who ≡ CallerOf number)
    (g : WentOn InstallsNone v w) (all : IsResolved v number) where
  later : LaterBy (CallerOf number) InstallsNone v.log w.log
  later = subst (λ who. LaterBy who InstallsNone v.log w.log) mine g.later

  -- no change on the node is refused
  pub unrefused_went : (node : ℕ) → IsUnrefused (now v) number node
      → IsUnrefused (now w) number node
  unrefused_went node none =
      subst (λ t. IsUnrefused t number node) (sym (went_now InstallsNone v w g))
      ((stay v.start v.words (went_lawful InstallsNone v w g).opens number node v.log w.log
      (went_lawful InstallsNone v w g).enabled later all).1 none)
