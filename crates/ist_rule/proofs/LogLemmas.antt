-- A step that is an event of its seat: what it keeps, and what the seat learns. Serves exchanges and
-- adds.
use Rattle.std.proofs.Common.{◌≡◌, ◌≢◌, ◌⊎◌, inl, inr, ℕ, List, [], ◌∷◌, slice_index, slice_set, Some, refl, sym, ap, ◌∙◌, subst, le_refl, arith}
use Rattle.atomic_table.specs.Table.{keeps}
use Rattle.ist_core.specs.declared.events.Event.{Event}
use Rattle.ist_core.specs.declared.events.Who.TheVariants.{Caller, Spent}
use Rattle.ist_core.specs.LogTerms.{Each, Log, same_log, one_event, Enabled, EachEnabled, Lawful, state_of, no_more, one_more, whose}
use Rattle.ist_core.specs.WordTerms.{start, IsImage}
use Rattle.ist_core.specs.TreeTerms.{touch_of, touched}
use Rattle.ist_rule.specs.RuleTerms.{View, Taken, About, CallStands, pending_of, IsNamed, IsRetired, IsTimed, Owns, HasView, Fits, Kept, IsSound, Seated, logging, Logged, CanMake}
use Rattle.laws_real_time.specs.Moments.{in_call}
use Rattle.laws_real_time.specs.Making.{calls_returned}
use Rattle.laws_real_time.proofs.KeepLemmas.{kept_on}
use Rattle.ist_rule.proofs.CallLemmas.{call_by_others}
use Rattle.ist_rule.proofs.SpeakLemmas.{caller_or, heard_spoken, spoken_stands}
use Rattle.ist_rule.proofs.FrameLemmas.{timed_view, Table, moved}
use Rattle.ist_rule.proofs.EventLemmas.{author_named}
use Rattle.ist_core.proofs.AllLogLemmas.{goes_on_by}
use Rattle.ist_rule.proofs.ShownLemmas.{owns_after, image_after}
use Rattle.ist_rule.proofs.FitLemmas.{well_made_on, true_of_others, true_of_own}
use Rattle.ist_rule.proofs.ViewPartLemmas.{well_made_but, true_but}
use Rattle.ist_rule.proofs.LookLemmas.{sound_of, GoesAtStep}

-- an event of the seat, enabled after the longest log, and the words that its step leaves; the view
-- counts this many loads
module _ (k : About) (s : Table) (r : Kept k s) (id : ℕ) (me : Seated) (live : me.0.who ≢ Spent)
    (mine : HasView s id me.0) (event : Event) (make : CanMake me.0 event)
    (able : Enabled (start k.start.value.items k.words) r.log event) (words' : List ℕ) (count : ℕ)
    (words_following : touched s.words (touch_of (state_of k.start.value.items k.words r.log) event)
    ≡ words') where
  -- the seat's view before the event
  abbrev pub v : View
  v = me.0

  abbrev log' : Log
  log' = event ∷ r.log

  enabled' : EachEnabled (start k.start.value.items k.words) log'
  enabled' = (r.lawful.enabled, able)

  lawful' : Lawful k.start.value.items k.words log'
  lawful' = record { opens = r.lawful.opens; enabled = enabled' }

  f : Fits k r.log s.words v
  f = r.seats id v mine live

  owns_now : (u : View) → Fits k r.log s.words u → Owns k.start.value.items k.words log' words' u
  owns_now u g = grind (arith, owns_after, enabled')

  -- the callers that were taken back are others
  taken_by_others : (taken : List Taken) → Each (IsRetired s) taken
      → Each (λ t. whose event ≢ Caller t.number) taken
  taken_by_others [] all = tt
  taken_by_others (t ∷ more) all =
      ((λ e. all.0 id v mine (sym make.mine ∙ e)), taken_by_others more all.1)

  -- another seat
  others : (i : ℕ) (u : View) → HasView s i u → u.who ≢ Spent → (IsNamed v.who → u.who ≢ v.who)
      → Fits k r.log s.words u → Fits k log' words' u
  others i u at alive apart g =
      let other : whose event ≢ u.who =
      λ e. apart (subst IsNamed make.mine (author_named event)) (sym e ∙ make.mine) in
      record {
        start_is = g.start_is;
        words_is = g.words_is;
        later = one_more event g.later other;
        owns = owns_now u g;
        well_made = g.well_made;
        is_true = true_of_others k.start.value.items k.words r.log event enabled' u other
            (λ is number above e. r.unborn i u at is number above id v mine (sym make.mine ∙ e))
            (taken_by_others u.taken (r.retired i u at alive)) g.is_true;
      }

  -- the seat's view after the event
  abbrev pub w : View
  w = record (logging v r.log event) { loaded = count }

  fits_own : Fits k log' words' w
  fits_own =
      let m = well_made_on k.start.value.items k.words v log'
      (one_event event (goes_on_by f.later)) f.well_made in
      let t = true_of_own k.start.value.items k.words r.log event enabled' v make.mine f.later
      f.start_is f.words_is make.allowed
      (taken_by_others v.taken (r.retired id v mine live)) f.is_true in
      record {
        start_is = f.start_is;
        words_is = f.words_is;
        later = no_more;
        owns = owns_now v f;
        well_made = well_made_but k.start.value.items k.words m refl m.stands m.stamps m.recalls
            m.in_order m.since m.taken_given m.in_none m.moments m.olds;
        is_true = true_but k.start.value.items k.words log' t refl t.call;
      }

  -- the moments of all calls stay kept, and each caller's changes are known
  timed_now : IsTimed k log' r.moments (slice_set s.views id w)
  timed_now = record {
    kept = kept_on k.start.value.items k.words r.log log' r.moments
        (one_event event same_log) r.timed.kept;
    working = λ number. at number (caller_or (whose event) number);
    heard = (timed_view k r.log r.moments s.views id w r.timed
        (r.timed.heard id v mine live)).heard;
  }
    where
      at : (number : ℕ) → (whose event ≡ Caller number) ⊎ (whose event ≢ Caller number)
          → CallStands k.start.value.items k.words log' number (calls_returned number r.moments)
          (pending_of (in_call number r.moments))
      at number (inl e) = let is : v.who ≡ Caller number = sym make.mine ∙ e in
          spoken_stands k.start.value.items k.words log' r.moments number v.calls v.pending
          (heard_spoken k.start.value.items r.moments v number is f.well_made.moments
          (r.timed.heard id v mine live))
          (fits_own.is_true.call number is)
      at number (inr other) = grind (arith, call_by_others, enabled')

  -- the view after the event is sound
  pub sound_now : IsSound w
  sound_now = sound_of k words' w lawful' live fits_own

  -- the rule holds after the event
  pub kept : Kept k (record { words = words'; homes = s.homes; views = slice_set s.views id w })
  kept = moved k s r id v w s.homes mine live refl (le_refl v.given) log' words' lawful'
      (subst (IsImage (state_of k.start.value.items k.words log')) words_following
      (image_after k.start.value.items k.words r.lawful.opens r.log event enabled' s.words r.image
      v make.mine f.owns make.stored))
      others fits_own (r.retired id v mine live) r.moments timed_now

  -- the longest log is the old one with the event
  pub kept_log : kept.log ≡ log'
  unfolding kept moved
  kept_log = refl

-- a step that writes the word of the event
module _ (k : About) (s : Table) (r : Kept k s) (id : ℕ) (me : Seated) (live : me.0.who ≢ Spent)
    (mine : HasView s id me.0) (event : Event) (make : CanMake me.0 event)
    (able : Enabled (start k.start.value.items k.words) r.log event) (place found left : ℕ)
    (touches : touch_of (state_of k.start.value.items k.words r.log) event ≡ Some record {
      place = place;
      found = found;
      left = left;
    }) where
  -- the event is the last of the seat's log
  pub logged : Logged me.0 event (logging me.0 r.log event)
  logged = record {
    before = r.log;
    later = (r.seats id me.0 mine live).later;
    view = refl;
    sound = sound_now k s r id me live mine event make able (slice_set s.words place left)
        me.0.loaded (ap (touched s.words) touches);
  }

  -- an exchange or an add that is this event keeps the rule
  pub logs : (tells : ℕ → Seated → Type 0)
      → ((l : Logged me.0 event (logging me.0 r.log event)) → l.before ≡ r.log
      → tells (slice_index s.words place) (logging me.0 r.log event, me.1))
      → GoesAtStep k s place id me tells left
  unfolding logged
  logs tells told = (
    logging me.0 r.log event,
    keeps,
    tt,
    kept k s r id me live mine event make able
        (slice_set s.words place left) me.0.loaded (ap (touched s.words) touches),
    told logged refl,
  )
