-- A caller after the step that puts in place, or loses, what it built. Serves `root` and `filling`.
use Rattle.std.proofs.Common.{◌≡◌, ℕ, List, ◌∷◌, ◌++◌, refl, sym, ap, ap₂, ◌∙◌, subst, Result, Ok, Err, IfErr, arith}
use Rattle.ist_core.specs.declared.events.Event.{Event}
use Rattle.ist_core.specs.declared.lists.Row.{Row}
use Rattle.ist_core.specs.declared.ports.Full.{Full}
use Rattle.ist_core.specs.declared.events.Who.TheVariants.{Caller as CallerOf}
use Rattle.ist_core.specs.LogTerms.{after, Snapshot, bases_of, sizes_of, without, Later, Lawful, Log}
use Rattle.ist_rule.specs.RuleTerms.{TokenFace, IsSound, now, made_after, Logged, LoggedLoad, GoesOnTo}
use Rattle.ist_rule.specs.declared.view.View.{View}
use Rattle.ist_rows.specs.RowTerms.{spares_of, build_sizes, IsCaller, AreStuck, HasRefused, sizes_built, HasTakenFewIn, TakesNoWords}
use Rattle.ist_rows.specs.declared.callers.Caller.{Caller}
use Rattle.ist_rows.proofs.CallerLemmas.{comes_after}
use Rattle.ist_rows.proofs.CallerGoingLemmas.{caller_goes_on}
use Rattle.ist_rows.proofs.BuildingLemmas.{all_stuck_on}
use Rattle.ist_rows.proofs.ReserveLemmas.{ComesAfter}
use Rattle.ist_build.proofs.BuiltLemmas.{logged_laid, logged_load_laid, built_same, built_put, put_more, loads_put, put_grow}
use Rattle.ist_rule.proofs.WentOnLemmas.{goes_on_now}
use Rattle.ist_build.specs.Laying.{BuiltOn, OwnsRows}
use Rattle.ist_build.specs.Calls.{Builds, IsTold, IsBuildable, IsRooted}
use Rattle.ist_build.specs.Putting.{PutOn, IsStopped}
use Rattle.ist_build.specs.Back.{IsFreeToBuild, IsBack, HasBuilt, IsSharedAs}
use Rattle.ist_build.proofs.HeldBeforeLemmas.{refused_back, caller_back}
use Rattle.ist_build.proofs.TopBegunLemmas.{sizes_on}
use Rattle.ist_rule.proofs.EventLemmas.{goes_on_who}
use Rattle.ist_rows.proofs.FewStepLemmas.{few_call, none_more, none_seen}
use Rattle.ist_build.specs.declared.shared.SharedRoot.{SharedRoot}
use Rattle.ist_build.proofs.FewLemmas.{after_back, told_once}
use Rattle.ist_build.proofs.FilledLemmas.{rooted_on, err_stopped_on}
use Rattle.ist_build.proofs.PartSlotLemmas.{shared_on}
use Rattle.ist_build.proofs.RootReadyLemmas.{told_on}

module _ (old mid : Caller) (h : HasBuilt old mid) (rows : List Row)
    (owns : OwnsRows mid.token.view mid.number (now old.token.view).next rows)
    (sizes : sizes_built mid ≡ sizes_built old ++ sizes_of rows)
    (event : Event) (is : Builds event) (made : (n : ℕ) → made_after event n ≡ n)
    (drops : (t : Snapshot) → (after t event).held ≡ without (bases_of rows) t.held)
    (token : TokenFace) where
  abbrev v : View
  v = old.token.view

  abbrev w : View
  w = mid.token.view

  abbrev last : Caller
  last = record mid { token = token }

  owns_old : OwnsRows w old.number (now v).next rows
  owns_old = subst (λ n. OwnsRows w n (now v).next rows) h.number owns

  sizes_old : build_sizes (now w) old.number (spares_of old) ≡ sizes_built old ++ sizes_of rows
  sizes_old = ap₂ (λ n own. build_sizes (now w) n own) (sym h.number) (sym h.rows) ∙ sizes

  -- the caller is back once the event is the last of its log
  back_by : (before : Log) → Later w.who w.log before → token.view.log ≡ event ∷ before
      → token.view.start ≡ w.start → token.view.words ≡ w.words → token.view.who ≡ w.who
      → IsSound token.view → PutOn w token.view → IsBack old last
  back_by before later log_is start_is words_is who_is sound put = let b = h.built in
      let start_old = start_is ∙ ap (λ x. x.start) b.same in
      let words_old = words_is ∙ ap (λ x. x.words) b.same in
      let who_old = who_is ∙ ap (λ x. x.who) b.same in record {
        ready = record {
          caller = caller_back old h.ready.caller h.sound w b (sizes_of rows) sizes_old rows owns_old refl
              last event before later log_is start_old words_old who_old sound h.number h.rows drops;
          refused = refused_back old h.ready.caller h.sound w b (sizes_of rows) sizes_old rows owns_old
              refl last event before later log_is start_old words_old who_old sound h.number h.rows
              drops h.ready.refused;
        };
        number = h.number;
        rows = h.rows;
        put = put_more v w token.view (built_put v w b) put;
      }

  -- if it made the event
  pub back_logged : Logged w event token.view → IsBack old last
  back_logged l = back_by l.before l.later (ap (λ x. x.log) l.view) (ap (λ x. x.start) l.view)
      (ap (λ x. x.words) l.view) (ap (λ x. x.who) l.view) l.sound
      (logged_laid Builds w event token.view l is (made w.made))

  -- and if that event was made with a load
  pub back_lost : (place word : ℕ) → LoggedLoad w event place word token.view → IsBack old last
  back_lost place word l =
      back_by l.before l.later (ap (λ x. x.log) l.view) (ap (λ x. x.start) l.view)
      (ap (λ x. x.words) l.view) (ap (λ x. x.who) l.view) l.sound
      (logged_load_laid Builds w event place word token.view l is (made w.made))

-- the same holds after loads
pub back_loads : (who : Caller) (token : TokenFace) → IsFreeToBuild who → GoesOnTo who.token.view token.view
    → IsBack who (record who { token = token })
back_loads who token r g = let v = who.token.view in let c = r.caller in
    let lawful : Lawful v.start v.words token.view.log =
    subst (λ p. Lawful p v.words token.view.log) (ap (λ x. x.start) g.same)
    (subst (λ n. Lawful token.view.start n token.view.log) (ap (λ x. x.words) g.same)
    g.sound.lawful) in
    record {
      ready = record {
        caller = caller_goes_on who token c g;
        refused = subst (AreStuck (now token.view)) (sym (sizes_on who token c g))
            (all_stuck_on (now v) (now token.view)
            (subst (ComesAfter (now v)) (sym (goes_on_now v token.view g))
            (comes_after v.start v.words who.number v.log token.view.log lawful
            (subst (λ x. Later x v.log token.view.log) c.mine g.later)))
            (sizes_built who) r.refused);
      };
      number = refl;
      rows = refl;
      put = loads_put v token.view g;
    }

-- a caller that may build is back from the start
pub back_same : (who : Caller) → IsFreeToBuild who → IsSound who.token.view → IsBack who who
back_same who r s = grind (arith, built_put, built_same)

-- it stays back
pub back_more : (old mid new : Caller) → IsBack old mid → IsBack mid new → IsBack old new
back_more old mid new a b = record {
  ready = b.ready;
  number = b.number ∙ a.number;
  rows = b.rows ∙ a.rows;
  put = put_more old.token.view mid.token.view new.token.view a.put b.put;
}

-- a caller whose build was refused is back
pub back_refused : (old new : Caller) → new.number ≡ old.number → spares_of new ≡ spares_of old
    → BuiltOn old.token.view new.token.view → IsCaller new → HasRefused new → IsBack old new
back_refused old new number rows b c refused = grind (arith, built_put)

-- ---- what stays while a caller puts builds in place. Serves `root` and `filling`.

-- a shared root stays one
pub shared_back : (old new : Caller) (s : SharedRoot) → IsBack old new
    → IsSharedAs (now old.token.view) s → IsSharedAs (now new.token.view) s
shared_back old new s b h = record {
  is = shared_on (now old.token.view) (now new.token.view)
      (put_grow old.token.view new.token.view b.put) s.rebuild s.target s.root s.keys h.is;
  degree_is = h.degree_is;
}

-- a target stays finished
pub told_back : (old new : Caller) (rebuild k : ℕ) → IsBack old new
    → IsTold (now old.token.view) rebuild k → IsTold (now new.token.view) rebuild k
told_back old new rebuild k b told = told_on (now old.token.view) (now new.token.view)
    (put_grow old.token.view new.token.view b.put) rebuild k told

-- a rebuild that may be built stays one
pub buildable_back : (old new : Caller) (rebuild : ℕ) → IsBack old new
    → IsBuildable (now old.token.view) rebuild → IsBuildable (now new.token.view) rebuild
buildable_back old new rebuild b h = grind (arith, told_back)

-- a rebuild with a root keeps one
pub rooted_back : (old new : Caller) (rebuild : ℕ) → IsBack old new
    → IsRooted (now old.token.view) rebuild → IsRooted (now new.token.view) rebuild
rooted_back old new rebuild b h =
    rooted_on (now old.token.view) (now new.token.view) (put_grow old.token.view new.token.view b.put)
    rebuild h

-- the target of a shared root is finished
pub shared_told : (t : Snapshot) (s : SharedRoot) → IsSharedAs t s → IsTold t s.rebuild s.keys
shared_told t s h = grind arith

-- ---- refusals

-- what stops the caller stops it since its earlier state too
stopped_back : (old mid : Caller) (rebuild words : ℕ) → IsBuildable (now old.token.view) rebuild
    → IsBack old mid → (full : Full) (w : View) → IsStopped mid.token.view rebuild words full w
    → IsStopped old.token.view rebuild words full w
stopped_back old mid rebuild words h b full w stopped =
    err_stopped_on old.token.view mid.token.view w rebuild words h.k h.told b.put full stopped

-- the same, of a shared root
pub shared_stopped : (old mid : Caller) (s : SharedRoot) (words : ℕ)
    → IsSharedAs (now old.token.view) s → IsBack old mid → (full : Full) (w : View)
    → IsStopped mid.token.view s.rebuild words full w
    → IsStopped old.token.view s.rebuild words full w
shared_stopped old mid s words h b full w stopped = grind (arith, stopped_back, shared_told)

-- the same, of an answer
pub err_stopped : {A : Type 0} (old mid : Caller) (rebuild words : ℕ) (w : View)
    → IsBuildable (now old.token.view) rebuild → IsBack old mid → (answer : Result A Full)
    → IfErr answer (λ full. IsStopped mid.token.view rebuild words full w)
    → IfErr answer (λ full. IsStopped old.token.view rebuild words full w)
err_stopped old mid rebuild words w h b (Ok x) stopped = tt
err_stopped old mid rebuild words w h b (Err full) stopped = grind (arith, stopped_back)

-- ---- words

-- a caller that is back by loads took none
pub none_found : (old new : Caller) → IsBack old new → GoesOnTo old.token.view new.token.view
    → TakesNoWords old new
none_found old new b g =
    none_seen old new b.number (sym (goes_on_who g) ∙ b.ready.caller.mine ∙ ap CallerOf b.number) g

-- nor since an earlier state, if it took none until then
pub found_from : (old mid new : Caller) → IsBack old mid → TakesNoWords old mid → IsBack mid new
    → GoesOnTo mid.token.view new.token.view → IsBack old new × TakesNoWords old new
found_from old mid new a h b g =
    (back_more old mid new a b, none_more old mid new h (none_found mid new b g))

-- a call that comes after the target was found took few words, by the target's number of keys
pub few_found : {A : Type 0} (r : Result A Full) (words_of : ℕ → ℕ) (old mid new : Caller)
    (rebuild j : ℕ) → TakesNoWords old mid → IsBack old mid → IsBack mid new
    → IsTold (now mid.token.view) rebuild j → HasTakenFewIn r (words_of j) 0 mid new → (k : ℕ)
    → IsTold (now old.token.view) rebuild k → HasTakenFewIn r (words_of k) 0 old new
few_found r words_of old mid new rebuild j none a b found few k told =
    few_call r (words_of k) 0 old mid new none (after_back mid new b)
    (subst (λ n. HasTakenFewIn r (words_of n) 0 mid new)
    (told_once (now mid.token.view) rebuild j k found (told_back old mid rebuild k a told)) few)
