-- Loads that turn the view of their seat keep the rule. Serves the plays.
use Rattle.std.proofs.Common.{◌≡◌, ◌≢◌, ◌⊎◌, ℕ, ◌+◌, List, [], ◌∷◌, ◌++◌, ◌≤◌, map, length, slice_index, slice_set, Option, Some, None, refl, sym, ap, ◌∙◌, subst, ⊎_elim, arith, le_refl}
use mathlib.Core.Option as maybe
use Rattle.atomic_table.specs.Table.{step, keeps, Allows}
use Rattle.atomic_table.proofs.Lists.{at_set}
use Rattle.ist_core.specs.declared.calls.Call.{Call}
use Rattle.ist_core.specs.declared.commands.Command.{Command}
use Rattle.ist_core.specs.declared.events.Who.{Who}
use Rattle.ist_core.specs.declared.events.Who.TheVariants.{Caller, Spent}
use Rattle.ist_core.specs.LogTerms.{Each, no_more, Later, Log}
use Rattle.ist_rule.specs.RuleTerms.{View, Taken, Loads, Pending, About, CallStands, number_of, pending_of, HasSpoken, IsSilent, MomentsGoOn, one_moment, MomentsLater, no_later, one_later, IsNamed, IsMet, IsRetired, IsHeard, IsTimed, HasView, Fits, Kept, IsSound, Seated, begins, searches, reads, ends, gives_up, moment_seen, TurnedAt, beginning, searching, beginning_read, ending, giving_up, CanBegin, CanEnd, CanGiveUp, MayWalk}
use Rattle.ist_core.specs.TreeTerms.{changes_of, position_after}
use Rattle.ist_core.proofs.AllLogLemmas.{goes_on_by}
use Rattle.laws_real_time.specs.declared.moments.Deed.{Deed}
use Rattle.laws_real_time.specs.declared.moments.Deed.TheVariants.{Begins, Returns, GivesUp}
use Rattle.laws_real_time.specs.Moments.{Moments, in_call, ended}
use Rattle.laws_real_time.specs.Making.{calls_returned}
use Rattle.laws_real_time.specs.Keeping.{KeepsTime}
use Rattle.ist_rule.specs.Glancing.{glancing, glances}
use Rattle.laws_real_time.proofs.KeepLemmas.{ended_low}
use Rattle.ist_rule.proofs.WhoLemmas.{caller_maker}
use Rattle.ist_rule.proofs.FitLemmas.{each_map, well_made_on}
use Rattle.ist_rule.proofs.ViewPartLemmas.{well_made_but, true_but}
use Rattle.ist_rule.proofs.LookLemmas.{as_view, sound_of, GoesAtStep, quiet, looked, turns_moves}
use Rattle.ist_rule.proofs.FrameLemmas.{Table}
use Rattle.ist_rule.proofs.SpeakLemmas.{go_on_more, later_goes_on, caller_or, spoken_other, spoken_stands, working_linear}
use Rattle.ist_rule.proofs.CallLoadLemmas.{TurnsCall, with_deeds, can_begin, can_search, can_read, can_glance, can_end, can_give_up}

-- ---- a step of a call

module _ (k : About) (s : Table) (r : Kept k s) (id : ℕ) (v : View) (live : v.who ≢ Spent)
    (mine : HasView s id v) (number : ℕ) (is : v.who ≡ Caller number) (deeds : List Deed)
    (loads : Loads) (searches : ℕ) (calls : List Call) (stamp : ℕ) (pending : Option Pending)
    (t : TurnsCall k r.log v r.moments number deeds loads calls stamp pending) where
  f : Fits k r.log s.words v
  f = r.seats id v mine live

  -- the moments after the step
  abbrev all : Moments
  all = map (moment_seen v r.log) deeds ++ r.moments

  -- the new ones are the caller's
  all_are : with_deeds k.start.value.items k.words r.log number deeds r.moments ≡ all
  all_are = grind (arith, as_view, f, with_deeds)

  its_caller : number_of v.who ≡ number
  its_caller = ap number_of is

  keeps_all : KeepsTime k.start.value.items k.words r.log all
  keeps_all = subst (KeepsTime k.start.value.items k.words r.log) all_are t.keeps

  spoken_all : HasSpoken all number calls pending
  spoken_all = subst (λ ms. HasSpoken ms number calls pending) all_are t.spoken

  -- what another caller has spoken is the same
  spoken_others : (n : ℕ) (ns : List Call) (p : Option Pending) → number_of v.who ≢ n
      → HasSpoken r.moments n ns p → HasSpoken all n ns p
  spoken_others n ns p apart h = more deeds
    where
      more : (ds : List Deed) → HasSpoken (map (moment_seen v r.log) ds ++ r.moments) n ns p
      more [] = h
      more (d ∷ ds) =
          spoken_other (moment_seen v r.log d) (map (moment_seen v r.log) ds ++ r.moments) n ns p apart
          (more ds)

  -- the moments of others go on
  later_all : (w : Who) (seen : Moments) → Caller (number_of v.who) ≢ w
      → MomentsLater w seen r.moments → MomentsLater w seen all
  later_all w seen apart l = more deeds
    where
      more : (ds : List Deed) → MomentsLater w seen (map (moment_seen v r.log) ds ++ r.moments)
      more [] = l
      more (d ∷ ds) = one_later (moment_seen v r.log d) (more ds) apart

  silent_all : (n : ℕ) → number_of v.who ≢ n → IsSilent n r.moments → IsSilent n all
  silent_all n apart h = more deeds
    where
      more : (ds : List Deed) → IsSilent n (map (moment_seen v r.log) ds ++ r.moments)
      more [] = h
      more (d ∷ ds) = (apart, more ds)

  goes_all : (seen : Moments) → MomentsGoOn seen r.moments → MomentsGoOn seen all
  goes_all seen g = more deeds
    where
      more : (ds : List Deed) → MomentsGoOn seen (map (moment_seen v r.log) ds ++ r.moments)
      more [] = g
      more (d ∷ ds) = one_moment (moment_seen v r.log d) (more ds)

  -- what became of each caller's changes
  working_all : (n : ℕ)
      → CallStands k.start.value.items k.words r.log n (calls_returned n all) (pending_of (in_call n all))
  working_all n = grind (arith, caller_or, spoken_stands, spoken_all, spoken_others, its_caller)

  -- callers that were taken back are others
  taken_all : (taken : List Taken) → Each (IsRetired s) taken
      → Each (λ x. HasSpoken r.moments x.number x.calls None) taken
      → Each (λ x. HasSpoken all x.number x.calls None) taken
  taken_all [] out h = tt
  taken_all (x ∷ more) out h = (
    spoken_others x.number x.calls None (λ e. out.0 id v mine (is ∙ ap Caller (sym its_caller ∙ e))) h.0,
    taken_all more out.1 h.1,
  )

  -- the view after the step
  abbrev pub turned_view : View
  turned_view =
      record v {
        log = r.log;
        moments = all;
        loads = loads;
        searches = searches;
        calls = calls;
        stamp = stamp;
        pending = pending;
        loaded = v.loaded + 1;
      }

  timed_all : IsTimed k r.log all (slice_set s.views id turned_view)
  timed_all = record {
    kept = keeps_all;
    working = working_all;
    heard = λ i u at alive. ⊎_elim (λ e. subst (IsHeard all) e.1 own)
        (λ e. others i u e.0 e.1 alive) (at_set s.views id i turned_view u at);
  }
    where
      own : IsHeard all turned_view
      own = record {
        later = no_later;
        silent = λ e. absurd (caller_maker number (sym is ∙ e));
        taken = taken_all v.taken (r.retired id v mine live) (r.timed.heard id v mine live).taken;
      }

      others : (i : ℕ) (u : View) → i ≢ id → HasView s i u → u.who ≢ Spent → IsHeard all u
      others i u apart at alive = let h = r.timed.heard i u at alive in record {
        later = later_all u.who u.moments
            (λ e. apart (r.apart id i v u mine at (subst IsNamed (sym is) tt)
            (sym e ∙ ap Caller its_caller ∙ sym is))) h.later;
        silent = λ maker n above. silent_all n
            (λ e. r.unborn i u at maker n above id v mine (is ∙ ap Caller (sym its_caller ∙ e)))
            (h.silent maker n above);
        taken = taken_all u.taken (r.retired i u at alive) h.taken;
      }

  fits_turned : Fits k r.log s.words turned_view
  fits_turned =
      let m = well_made_on k.start.value.items k.words v r.log (goes_on_by f.later) f.well_made in
      record {
        start_is = f.start_is;
        words_is = f.words_is;
        later = no_more;
        owns = f.owns;
        well_made = well_made_but k.start.value.items k.words m refl t.stands t.stamps
            t.recalls t.in_order t.since m.taken_given
            (λ e. absurd (caller_maker number (sym is ∙ e)))
            record {
              spoken = λ n e. subst (λ i. HasSpoken all i calls pending)
                  (cc (sym is ∙ e)) spoken_all;
              silent = λ e. absurd (caller_maker number (sym is ∙ e));
              linear = (working_linear k.start.value.items k.words r.log all r.lawful keeps_all
                  working_all).linear;
            }
            (each_map (IsMet r.log v.moments) (IsMet r.log all) v.olds
            (λ met _ o. record {
              heard = go_on_more met.moments v.moments all o.heard
                  (goes_all v.moments (later_goes_on (r.timed.heard id v mine live).later));
              later = o.later;
              seen = o.seen;
            }) m.olds);
        is_true = true_but k.start.value.items k.words r.log f.is_true refl t.call;
      }

  pub sound_turned : IsSound turned_view
  sound_turned = sound_of k s.words turned_view r.lawful live fits_turned

  pub kept_turned : Kept k record {
    words = slice_set s.words 0 (slice_index s.words 0);
    homes = s.homes;
    views = slice_set s.views id turned_view;
  }
  kept_turned = quiet k s r id v turned_view mine live refl refl refl fits_turned all timed_all 0

-- what a load that turns a call learns
turned_at : (k : About) (s : Table) (r : Kept k s) (id : ℕ) (v w : View) → v.who ≢ Spent
    → HasView s id v → IsSound w → (turn : Log → Moments → View) → w.log ≡ r.log
    → w ≡ turn r.log r.moments → TurnedAt v turn w
turned_at k s r id v w live mine sound turn same is = let f = r.seats id v mine live in
    let low = as_view k r.log s.words v f
    (λ p n. Each (λ x. position_after x.call ≤ length (changes_of p n r.log)) (ended r.moments))
    (ended_low k.start.value.items k.words r.log r.moments r.timed.kept) in
    record {
      later = subst (Later v.who v.log) (sym same) f.later;
      before = r.moments;
      since = (r.timed.heard id v mine live).later;
      placed = subst (λ l. Each (λ x. position_after x.call ≤ length (changes_of v.start v.words l))
          (ended r.moments)) (sym same) low;
      view = is ∙ ap (λ l. turn l r.moments) (sym same);
      sound = sound;
    }

-- ---- the loads

-- a load that turns a call is allowed
turns_call : (k : About) (s : Table) (r : Kept k s) (id : ℕ) (me : Seated) (live : me.0.who ≢ Spent)
    (mine : HasView s id me.0) (number : ℕ) (is : me.0.who ≡ Caller number) (deeds : List Deed)
    (loads : Loads) (searches : ℕ) (calls : List Call) (stamp : ℕ) (pending : Option Pending)
    (t : TurnsCall k r.log me.0 r.moments number deeds loads calls stamp pending)
    (turn : Log → Moments → View)
    → turned_view k s r id me.0 live mine number is deeds loads searches calls stamp pending t
    ≡ turn r.log r.moments
    → GoesAtStep k s 0 id me (λ found you. TurnedAt me.0 turn you.0 × (you.1 ≡ me.1))
    (slice_index s.words 0)
turns_call k s r id me live mine number is deeds loads searches calls stamp pending t turn same = (
  turned_view k s r id me.0 live mine number is deeds loads searches calls stamp pending t,
  keeps,
  tt,
  kept_turned k s r id me.0 live mine number is deeds loads searches calls stamp pending t,
  (
    turned_at k s r id me.0
        (turned_view k s r id me.0 live mine number is deeds loads searches calls stamp pending t) live mine
        (sound_turned k s r id me.0 live mine number is deeds loads searches calls stamp pending t) turn
        refl same,
    refl,
  ),
)

-- a load that begins a call keeps the rule
pub begins_moves : (k : About) (slots id : ℕ) (me : Seated) (command : Option Command)
    → me.0.who ≢ Spent → CanBegin me.0
    → Allows (Kept k) slots id me 0 (λ n. n) (begins command (step slots 0 0 0 maybe.none) me)
begins_moves k slots id me command live can s r _ mine fits = let v = me.0 in
    turns_call k s r id me live mine can.number can.mine (Begins command ∷ []) v.loads v.searches v.calls
    v.stamp (Some record { command = command; length = length r.log })
    (can_begin k s r v can.number command can.mine can.in_none (r.seats id v mine live)
    (r.timed.heard id v mine live)) (beginning v command) refl

-- right after a search or a read began, a walk may begin
pub may_walk : (n : ℕ) (w : View) → w.searches ≡ n + 1 → w.loads.list ≡ [] → MayWalk w
may_walk n w one none = record { begun = omega arith; none = none }

-- a load that begins a search keeps the rule
pub searches_moves : (k : About) (slots id : ℕ) (me : Seated) → me.0.who ≢ Spent
    → Allows (Kept k) slots id me 0 (λ n. n) (searches (step slots 0 0 0 maybe.none) me)
searches_moves k slots id me live =
    turns_moves k slots id me (searching me.0) (searches (step slots 0 0 0 maybe.none) me) live
    (can_search me.0) (λ found w t. (t, refl))

-- a load that begins a read keeps the rule
pub reads_moves : (k : About) (slots id : ℕ) (me : Seated) → me.0.who ≢ Spent → CanBegin me.0
    → Allows (Kept k) slots id me 0 (λ n. n) (reads (step slots 0 0 0 maybe.none) me)
reads_moves k slots id me live can s r _ mine fits = let v = me.0 in
    let loads : Loads = record { since = length r.log; list = [] } in
    turns_call k s r id me live mine can.number can.mine (GivesUp ∷ Begins None ∷ [])
    loads (v.searches + 1) v.calls v.stamp None
    (can_read k s r v can.number loads tt tt (le_refl (length r.log)) can.mine can.in_none
    (r.seats id v mine live) (r.timed.heard id v mine live)) (beginning_read v)
    (ap (λ p. record (beginning_read v r.log r.moments) { pending = p }) (sym can.in_none))

-- a load that is a read of its own keeps the rule
pub glances_moves : (k : About) (slots id : ℕ) (me : Seated) → me.0.who ≢ Spent → CanBegin me.0
    → Allows (Kept k) slots id me 0 (λ n. n) (glances (step slots 0 0 0 maybe.none) me)
unfolding turns_call
glances_moves k slots id me live can s r _ mine fits = let v = me.0 in
    let f = r.seats id v mine live in
    let turned =
    turns_call k s r id me live mine can.number can.mine (GivesUp ∷ Begins None ∷ []) v.loads v.searches
    v.calls v.stamp None
    (can_glance k s r v can.number can.mine can.in_none f (r.timed.heard id v mine live)) (glancing v)
    (ap (λ p. record (glancing v r.log r.moments) { pending = p }) (sym can.in_none)) in (
      turned.0,
      turned.1,
      turned.2,
      turned.3,
      (
        record { turned = turned.4.0; stood = (looked k s r v f 0 live fits).stood },
        turned.4.1,
      ),
    )

-- a load that ends a call keeps the rule
pub ends_moves : (k : About) (slots id : ℕ) (me : Seated) (call : Call) → me.0.who ≢ Spent
    → CanEnd me.0 call
    → Allows (Kept k) slots id me 0 (λ n. n) (ends call (step slots 0 0 0 maybe.none) me)
ends_moves k slots id me call live can s r _ mine fits = let v = me.0 in
    turns_call k s r id me live mine can.number can.mine (Returns call ∷ []) v.loads v.searches
    (v.calls ++ call ∷ []) call.stamp None
    (can_end k s r v call can (r.seats id v mine live) (r.timed.heard id v mine live)) (ending v call) refl

-- a load that gives up a call keeps the rule
pub gives_up_moves : (k : About) (slots id : ℕ) (me : Seated) → me.0.who ≢ Spent → CanGiveUp me.0
    → Allows (Kept k) slots id me 0 (λ n. n) (gives_up (step slots 0 0 0 maybe.none) me)
gives_up_moves k slots id me live can s r _ mine fits = let v = me.0 in
    turns_call k s r id me live mine can.number can.mine (GivesUp ∷ []) v.loads v.searches v.calls v.stamp
    None (can_give_up k s r v can (r.seats id v mine live) (r.timed.heard id v mine live)) (giving_up v) refl
