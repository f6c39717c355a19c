-- A caller that has made at most reservings. Serves `start_rows.rt` and `starting.rt`.
use Rattle.std.proofs.Common.{◌≡◌, ℕ, Option, Some, None, Result, Ok, Err, IfSome, IfErr, refl, sym, subst, inr, [], ◌∷◌, ap, ◌∙◌, arith}
use Rattle.ist_build.specs.Laying.{IsReservation}
use Rattle.ist_core.specs.declared.ports.Full.{Full}
use Rattle.ist_core.specs.declared.events.Event.TheVariants.{Install}
use Rattle.ist_core.specs.declared.events.Who.TheVariants.{Caller as CallerOf}
use Rattle.ist_core.specs.WordTerms.{rebuild_words, change_words}
use Rattle.ist_rule.specs.RuleTerms.{WentOn, now, GoesOnTo, IsSound, TokenFace}
use Rattle.ist_rule.specs.declared.view.View.{View}
use Rattle.ist_rule.proofs.WentOnLemmas.{goes_on_went, went_more, went_same, went_all}
use Rattle.ist_rows.specs.RowTerms.{HasRefused, KeepsRows, spares_of, row_of, IsCaller, IsFull, IsFreshRow, IsKindRefused, InstallsNone, IsQuiet, Spares, with_spare}
use Rattle.ist_rows.specs.declared.callers.Caller.{Caller}
use Rattle.ist_rows.specs.declared.kinds.Kind.{Kind}
use Rattle.ist_rows.specs.declared.kinds.Kind.TheVariants.{Change, Rebuild}
use Rattle.ist_rows.proofs.ReserveLemmas.{reserved_went}
use Rattle.ist_rows.proofs.CallerLawLemmas.{refused_as, refused_beside, refused_went, caller_went, resolved_went, logged_made, caller_made, refused_made}
use Rattle.ist_rebuild.specs.Going.{Begins, KeepsFresh}
use Rattle.ist_rebuild.specs.Starting.{IsStartRefused}
use Rattle.ist_rebuild.proofs.NeedLemmas.{begins_reserving, IsOfStart, row_takes, takes_more, takes_none}
use Rattle.ist_rows.proofs.ShortLemmas.{short_from, short_goes_on}
use Rattle.ist_core.specs.LogTerms.{bases_of, whose, Later}
use Rattle.ist_rows.proofs.CallerGoingLemmas.{caller_goes_on}
use Rattle.ist_dcss.specs.Helping.{Serves, IsOut}
use Rattle.ist_dcss.specs.Installing.{Filling, rows_of, IsInstalled}
use Rattle.ist_dcss.proofs.ResolvedLemmas.{resolved_helped, serves_keep}
use Rattle.ist_rebuild.specs.StartSteps.{HasStartRows, start_filling, HasReserved, filled_start}
use Rattle.ist_rebuild.proofs.StartReadyLemmas.{filled_quiet, reserved_quiet}
use Rattle.ist_rows.proofs.FewStepLemmas.{taken_later}

-- ---- what reserving the rows of a start leaves of its caller. Serves `reserve_rows`.

-- ---- one reserving

-- what a reserving answers
module _ (words : ℕ) (kind : Kind) (old new : Caller) (answer : Result ℕ Full)
    (held : IfSome (row_of kind (spares_of old)) (λ base. (answer ≡ Ok base) × (new ≡ old)))
    (fresh : IsFreshRow kind old new answer)
    (full : IfErr answer (λ f. IsKindRefused words kind old new f)) where
  -- the caller has reserved at most
  pub reserve_went : IsSound old.token.view → WentOn IsReservation old.token.view new.token.view
  reserve_went s = at (row_of kind (spares_of old)) refl held answer refl fresh full
    where
      at : (o : Option ℕ) → row_of kind (spares_of old) ≡ o
          → IfSome o (λ base. (answer ≡ Ok base) × (new ≡ old))
          → (a : Result ℕ Full) → answer ≡ a → IsFreshRow kind old new a
          → IfErr a (λ f. IsKindRefused words kind old new f)
          → WentOn IsReservation old.token.view new.token.view
      at (Some base) e h a is f r = grind (arith, went_same)
      at None e h (Ok base) is f r = grind (arith, reserved_went)
      at None e h (Err x) is f r =
          goes_on_went IsReservation old.token.view new.token.view (short_goes_on _ words x _ r.cause)

  -- the refused builds of the caller stay refused
  pub reserve_refused : IsCaller old → new.number ≡ old.number → HasRefused old → HasRefused new
  reserve_refused c number_is was = at (row_of kind (spares_of old)) refl held answer fresh full
    where
      at : (o : Option ℕ) → row_of kind (spares_of old) ≡ o
          → IfSome o (λ base. (answer ≡ Ok base) × (new ≡ old))
          → (a : Result ℕ Full) → IsFreshRow kind old new a
          → IfErr a (λ f. IsKindRefused words kind old new f) → HasRefused new
      at (Some base) e h a f r = subst HasRefused (sym h.1) was
      at None e h (Ok base) f r = refused_beside old new kind base c e (f e).0 number_is (f e).1 was
      at None e h (Err x) f r =
          refused_as new (now new.token.view) old.number (spares_of old) refl number_is r.same
          (refused_went old new.token c was
          (goes_on_went KeepsRows old.token.view new.token.view (short_goes_on _ words x _ r.cause)))

-- ---- too few words

-- the rebuild's row was refused
pub rebuild_short : (v : View) (words : ℕ) (full : Full) (w : View)
    → IsFull v words rebuild_words full w → IsStartRefused v words full w
rebuild_short v words full w f = grind (arith, short_from, goes_on_went)

-- the change's row was refused
pub change_short : (u v : View) (words : ℕ) (full : Full) (w : View) → WentOn IsReservation u v
    → IsFull v words change_words full w → IsStartRefused u words full w
change_short u v words full w g f = short_from GoesOnTo (WentOn Begins) u v
    (λ x s. went_more Begins u v x (went_all IsReservation Begins begins_reserving u v g)
    (goes_on_went Begins v x s)) words full w f inr

-- ---- what installing and helping a start leaves of its caller. Serves `put_in`.

-- ---- if the slot held another word

module _ (who : Caller) (token : TokenFace) (c : IsCaller who) (g : GoesOnTo who.token.view token.view)
  where
    -- after loads each build of which the caller holds rows is still refused
    pub loads_refused : HasRefused who → HasRefused (record who { token = token })
    loads_refused r = grind (arith, refused_went, goes_on_went)

    -- after loads a quiet caller is still quiet
    pub loads_quiet : IsQuiet who → IsQuiet (record who { token = token })
    loads_quiet q = record {
      pending = q.pending;
      in_call = ap (λ x. x.pending) g.same ∙ q.in_call;
      resolved = resolved_went who.token.view token.view who.number c.mine q.resolved
          (goes_on_went InstallsNone who.token.view token.view g);
    }

-- ---- if it was installed

-- the rows of a start are the change's and the rebuild's
pub start_bases : (number parent index target rebuild change : ℕ) (f : Filling)
    → f ≡ start_filling number parent index target rebuild
    → bases_of (rows_of f change) ≡ change ∷ rebuild ∷ []
start_bases number parent index target rebuild change f is = grind arith

module _ (who : Caller) (rebuild change : ℕ) (rows : HasStartRows who rebuild change)
    (c : IsCaller who) (f : Filling) (bases : bases_of (rows_of f change) ≡ change ∷ rebuild ∷ [])
    (token : TokenFace) (i : IsInstalled who.token.view change f token.view) where
  -- the caller before the install, and after it without the rows
  abbrev before : Caller
  before = record who { token = record who.token { view = i.before } }

  abbrev bare : TokenFace → Caller
  bare at = record who { token = at; change = None; rebuild = None }

  before_caller : IsCaller before
  before_caller = caller_goes_on who (record who.token { view = i.before }) c i.seen

  its : whose (Install i.number change (rows_of f change)) ≡ CallerOf who.number
  its = sym i.mine ∙ c.mine

  bare_caller : IsCaller (bare token)
  bare_caller = caller_made before (bare token) (Change ∷ Rebuild ∷ [])
      (Install i.number change (rows_of f change)) (change ∷ rebuild ∷ []) before_caller
      i.logged.before (logged_made i.before _ token.view i.logged) its bases
      (rows.change_is, (rows.rebuild_is, tt)) record { number = refl; rows = refl }

  bare_refused : HasRefused who → HasRefused (bare token)
  bare_refused r = refused_made before (bare token) (Change ∷ Rebuild ∷ [])
      (Install i.number change (rows_of f change)) (change ∷ rebuild ∷ []) before_caller
      i.logged.before (logged_made i.before _ token.view i.logged) its bases
      (rows.change_is, (rows.rebuild_is, tt)) record { number = refl; rows = refl }
      (loads_refused who (record who.token { view = i.before }) c i.seen r)

  module _ (last : TokenFace) (g : WentOn (Serves change) token.view last.view) where
    kept : WentOn KeepsRows token.view last.view
    kept = went_all (Serves change) KeepsRows (serves_keep change) token.view last.view g

    -- after the help it is a caller without the two rows
    pub put_caller : IsCaller (bare last)
    put_caller = caller_went (bare token) last bare_caller kept

    -- the refused builds of the caller are still refused
    pub put_refused : HasRefused who → HasRefused (bare last)
    put_refused r = refused_went (bare token) last bare_caller (bare_refused r) kept

    -- the caller is quiet again
    pub put_quiet : IsQuiet who → IsOut last.view change → IsQuiet (bare last)
    put_quiet q out = record {
      pending = q.pending;
      in_call = ap (λ x. x.pending) g.same ∙ ap (λ x. x.pending) i.logged.view
          ∙ ap (λ x. x.pending) i.seen.same ∙ q.in_call;
      resolved = resolved_helped who.token.view token.view last.view who.number change f c.mine
          q.resolved i g out;
    }

-- a caller that only made loads
pub loads_reserved : (who : Caller) (token : TokenFace) → IsCaller who → IsQuiet who
    → GoesOnTo who.token.view token.view → HasReserved who (record who { token = token })
loads_reserved who token c q g = record {
  caller = caller_goes_on who token c g;
  number = refl;
  fresh = (refl, refl);
  quiet = loads_quiet who token c g q;
  refused = loads_refused who token c g;
  went = goes_on_went IsReservation who.token.view token.view g;
  few = takes_none who (record who { token = token })
      (taken_later who.number
      (subst (λ x. Later x who.token.view.log token.view.log) c.mine g.later)) refl;
}

-- reserving twice
pub reserved_more : (old mid new : Caller) → HasReserved old mid → HasReserved mid new
    → HasReserved old new
reserved_more old mid new a b = grind (arith, went_more, takes_more)

module _ (words : ℕ) (kind : Kind) (old new : Caller) (answer : Result ℕ Full)
    (held : IfSome (row_of kind (spares_of old)) (λ base. (answer ≡ Ok base) × (new ≡ old)))
    (taken : IsFreshRow kind old new answer)
    (full : IfErr answer (λ f. IsKindRefused words kind old new f))
    (of : IsOfStart kind) (other : (base : ℕ) (own : Spares)
    → ((with_spare kind base own).leaf ≡ own.leaf) × ((with_spare kind base own).pair ≡ own.pair)) where
  -- a reserving of another kind leaves the leaf and the pair row
  row_fresh : KeepsFresh old new
  row_fresh = grind arith

  -- what the reserving of a rebuild's or a change's row leaves
  pub row_reserved : IsSound old.token.view → IsCaller old → IsQuiet old → IsCaller new
      → new.number ≡ old.number → HasReserved old new
  row_reserved s c q d same = let went = reserve_went words kind old new answer held taken full s in
      record {
        caller = d;
        number = same;
        fresh = row_fresh;
        quiet = reserved_quiet old new c same went q;
        refused = reserve_refused words kind old new answer held taken full c same;
        went = went;
        few = row_takes words kind old new answer c.mine of held taken full;
      }

-- a caller that then filled the rows of a start
pub filled_reserved : (old mid full : Caller) (rebuild change parent index target : ℕ)
    → full ≡ filled_start mid rebuild change parent index target → IsCaller full
    → IsSound full.token.view → HasReserved old mid → HasReserved old full
filled_reserved old mid full rebuild change parent index target is d s r =
    grind (arith, filled_quiet)
