-- A caller as if it had begun another number of searches, and what it does each time that it begins one.
-- Serves `look_below` and `freeze`.
use Rattle.std.proofs.Common.{◌≡◌, ℕ, ◌+◌, ◌-◌, ◌<◌, ◌≤◌, None, Result, IfErr, IsErrAnd, sym, ap, subst, arith, ◌*◌, ⊎_elim, List, [], ◌∷◌, length, Option}
use Rattle.ist_core.specs.declared.events.Event.{Event}
use Rattle.ist_core.specs.declared.ports.Full.{Full}
use Rattle.ist_core.specs.declared.commands.Command.{Command}
use Rattle.ist_core.proofs.AllLogLemmas.{goes_on_more}
use Rattle.ist_rule.specs.RuleTerms.{TokenFace, WentOn, Turned, TurnedAt, beginning, searching, IsSound}
use Rattle.ist_rule.specs.declared.view.View.{View}
use Rattle.ist_rule.proofs.LaterLemmas.{later-goes_on}
use Rattle.ist_rule.proofs.SearchedOnLemmas.{searching_on}
use Rattle.ist_rule.proofs.WentOnLemmas.{later_by-goes_on}
use Rattle.ist_rows.specs.RowTerms.{IsReady, StaysReady}
use Rattle.ist_rows.specs.declared.callers.Caller.{Caller}
use Rattle.ist_rows.proofs.GoneLemmas.{still_ready}
use Rattle.laws_coming.specs.Further.{CameFurther}
use Rattle.laws_coming.proofs.FurtherLemmas.{fewer_left}
use Rattle.laws_stability.specs.Progress.{most_progress, progress}
use Rattle.laws_stability.proofs.OwnLemmas.{never_falls}
use Rattle.ist_rebuild.proofs.RefusalLemmas.{passed_on}
use Rattle.ist_updates.specs.Further.{HasWalkedFew}
use Rattle.ist_tree.specs.CallTerms.{FreezeOutcome, Site, Freezes, GoesIdle, HasMet, IsFreezeStopped, counted_as, Rebuilds, BeginsFewWalks, PassFace, changes_seen, BeginsFewRounds, face_as, pass_face}
use Rattle.ist_tree.proofs.FreezeGoingLemmas.{idle_more, met_more, plain_idle, stopped_more}
use Rattle.ist_tree.proofs.FurtherLemmas.{load_plain}
use Rattle.ist_core.specs.LogTerms.{Log}
use Rattle.laws_stability.proofs.BoundLemmas.{within_words}
use Rattle.laws_real_time.specs.Moments.{Moments}
use Rattle.ist_tree.specs.Walks.{GoesInRounds, GoesThrough, OneWalkIsFew, RoundsAddUp, WalksAddUp, last_of}
use Rattle.ist_tree.proofs.CountedLemmas.{changes_more}

-- ---- another number of searches

-- a view is as sound whatever the number
sound_counted : (v : View) (n : ℕ) → IsSound v → IsSound (record v { searches = n })
sound_counted v n s = grind arith

-- a call begins in the same way
pub turned_counted : (v b : View) (n : ℕ) → TurnedAt v (beginning v None) b
    → TurnedAt v (beginning (record v { searches = n }) None) (record b { searches = n })
turned_counted v b n t = grind (arith, sound_counted)

-- a caller is as ready
pub ready_counted : (who : Caller) (n : ℕ) → IsReady who → IsReady (counted_as who n)
ready_counted who n r = grind arith

-- and goes on in the same way
idle_counted : (a b : Caller) (n : ℕ) → GoesIdle (counted_as a b.token.view.searches) b
    → GoesIdle (counted_as a n) (counted_as b n)
idle_counted a b n g = grind (arith, ready_counted, still_ready, sound_counted)

-- ---- a search begins

-- a caller that began one more search has only gone on
pub idle_begun : (a b : Caller) (token : TokenFace) → GoesIdle (counted_as a b.token.view.searches) b
    → Turned b.token.view (searching b.token.view) token.view
    → GoesIdle (counted_as a token.view.searches) (record b { token = token })
idle_begun a b token g t = let n = token.view.searches in
    idle_more (counted_as a n) (counted_as b n) (record b { token = token }) (idle_counted a b n g)
    (plain_idle (λ event. ⊥) load_plain (counted_as b n) token (ready_counted b n (still_ready g.on))
    (searching_on (λ event. ⊥) b.token.view token.view t).went)

-- steps of rebuilding begin no search
none_begun : (b c : Caller) → StaysReady Rebuilds b c → b.token.view.searches ≡ c.token.view.searches
none_begun b c on = sym (ap (λ (y : View). y.searches) on.gone.went.same)

-- a tree that was frozen after it was frozen from the beginning on
pub froze_begun : (a b c : Caller) (words : ℕ) (outcome : FreezeOutcome) → StaysReady Rebuilds b c
    → Freezes (counted_as a b.token.view.searches) c words outcome
    → Freezes (counted_as a c.token.view.searches) c words outcome
froze_begun a b c words outcome on f = grind (arith, none_begun)

-- ---- how many searches

-- a search begins after others, in which the caller went on idly, and for which progress paid
module _ (a : Caller) {b : Caller} {token : TokenFace} (i : GoesIdle (counted_as a b.token.view.searches) b
    × (b.token.view.searches + progress a.token.view.log
    ≤ a.token.view.searches + progress b.token.view.log))
    (t : Turned b.token.view (searching b.token.view) token.view) where
  abbrev there : Caller
  there = record b { token = token }

  begun : GoesIdle (counted_as a token.view.searches) there
  begun = idle_begun a b token i.0 t

  -- the caller is ready to look
  pub look_ready : IsReady there
  look_ready = still_ready begun.on

  one : token.view.searches ≡ b.token.view.searches + 1
  one = ap (λ (y : View). y.searches) t.view

  module _ {c : Caller} where
    -- what it meets it meets from the beginning on
    pub look_met : {site : Site} → HasMet there c site
        → HasMet (counted_as a c.token.view.searches) c site
    look_met {site} m = subst (λ n. HasMet (counted_as a n) c site) (none_begun there c m.on)
        (met_more (counted_as a token.view.searches) there c site begun.on begun.done begun.few m)

    -- so is a refusal one from the beginning on
    pub look_stopped : {words : ℕ} {full : Full} (answer : Result Site Full)
        → IsErrAnd answer (λ x. x ≡ full) → IsFreezeStopped there c words full
        → IfErr answer (IsFreezeStopped (counted_as a c.token.view.searches) c words)
    look_stopped {words} {full} answer same s =
        passed_on answer full (IsFreezeStopped (counted_as a c.token.view.searches) c words) same
        (subst (λ n. IsFreezeStopped (counted_as a n) c words full) (none_begun there c s.idle.on)
        (stopped_more (counted_as a token.view.searches) there c words full begun s))

    -- few searches began
    pub look_few : StaysReady Rebuilds there c → HasWalkedFew a.token.view c.token.view
    look_few on =
        grind (arith, none_begun, never_falls, goes_on_more, later-goes_on, later_by-goes_on)

    -- if it met nothing and saw progress, the next search begins in the same way
    pub look_on : GoesIdle there c → CameFurther token.view c.token.view
        → GoesIdle (counted_as a c.token.view.searches) c
        × (c.token.view.searches + progress a.token.view.log
        ≤ a.token.view.searches + progress c.token.view.log)
    look_on idle k = let is = one in let paid = i.1 in let none = none_begun there c idle.on in
        let rise = never_falls b.token.view.log token.view.log (later-goes_on t.later) in
        let more = k.more in (
          subst (λ n. GoesIdle (counted_as a n) c) none
              (idle_more (counted_as a token.view.searches) there c begun idle),
          omega arith,
        )

-- and less progress is left
pub look_smaller : {b c : Caller} {token : TokenFace}
    → Turned b.token.view (searching b.token.view) token.view → GoesIdle (record b { token = token }) c
    → CameFurther token.view c.token.view
    → most_progress - progress c.token.view.log < most_progress - progress b.token.view.log
look_smaller {b} {c} {token} t idle k = grind (arith, never_falls, later-goes_on, fewer_left)

-- no more is begun after it
pub few_after : (P : Event → Type 0) (u w x : View) → HasWalkedFew u w → WentOn P w x
    → HasWalkedFew u x
few_after P u w x few g = grind (arith, never_falls, later_by-goes_on)

-- ---- how many walks a put or a remove begins. Serves `update`.

-- the begin and the end of a call begin no walk
pub walks_end : (who began new : Caller) (token : TokenFace) (command : Option Command)
    (turn : Log → Moments → View) (r q : Option Full) (old : PassFace)
    → TurnedAt who.token.view (beginning who.token.view command) began.token.view
    → HasWalkedFew began.token.view new.token.view → TurnedAt new.token.view turn token.view
    → token.view.searches ≡ new.token.view.searches → pass_face who r ≡ old
    → BeginsFewWalks old (face_as token new.number q)
walks_end who began new token command turn r q old begun few ended same view =
    grind (arith, never_falls, later-goes_on)

-- the walks of calls one after another
walks_sum : (p : PassFace) (steps : List PassFace) → GoesThrough p steps
    → (last_of p steps).searches + progress p.seen
    ≤ p.searches + length steps + progress (last_of p steps).seen
walks_sum p [] through = omega arith
walks_sum p (q ∷ more) through = let first = through.0 in let rest = walks_sum q more through.1 in
    omega arith

-- and progress is bounded
pub walks_bounded : WalksAddUp
walks_bounded p steps through lawful = let all = walks_sum p steps through in
    let q = last_of p steps in
    let most = within_words q.tree.start q.tree.words lawful.opens q.seen lawful.enabled in
    omega arith

-- one walk is few
pub one_walk_is_few : OneWalkIsFew
one_walk_is_few p q more one = let rise = never_falls p.seen q.seen more.seen in omega arith

-- the walks of calls one after another, of which each may begin rounds
rounds_sum : (p : PassFace) (steps : List PassFace) → GoesInRounds p steps
    → (last_of p steps).searches + (progress p.seen + 2 * length (changes_seen p))
    ≤ p.searches + 2 * length steps
    + (progress (last_of p steps).seen + 2 * length (changes_seen (last_of p steps)))
rounds_sum p [] through = omega arith
rounds_sum p (q ∷ more) through = let rise = changes_more p q through.0 in
    let first : BeginsFewRounds p q = ⊎_elim (λ few. omega arith) (λ few. few) through.1 in
    let rest = rounds_sum q more through.2 in omega arith

pub rounds_bounded : RoundsAddUp
rounds_bounded p steps through lawful = let all = rounds_sum p steps through in
    let q = last_of p steps in
    let most = within_words q.tree.start q.tree.words lawful.opens q.seen lawful.enabled in
    omega arith
