-- Which events are steps of help, and which of them change nothing of what their caller holds.
-- Serves each function.
use Rattle.std.proofs.Common.{ℕ, ◌≡◌, List, Option, Some, None, Result, Ok, IfSome, refl, sym, ap, ◌∙◌, subst, arith}
use Rattle.ist_core.specs.declared.events.Event.{Event}
use Rattle.ist_core.specs.declared.events.Event.TheVariants.{Reserve, Install, Okay, Decide, Resolve, Mark, Pass, Finish, Root, Draw, Place, Lose}
use Rattle.ist_core.specs.declared.ports.Full.{Full}
use Rattle.ist_rule.specs.RuleTerms.{IsResolved, TokenFace, WentOn, now, GoesOnTo, IsSound}
use Rattle.ist_rule.specs.declared.view.View.{View}
use Rattle.ist_rule.specs.declared.view.OwnWord.{OwnWord}
use Rattle.ist_rows.specs.RowTerms.{InstallsNone, HasRefused, KeepsRows, kind_words, spares_of, with_spare, IsCaller, Reserved, IsFreshRow, IsKindRefused, with_own, IsReady}
use Rattle.ist_rows.specs.declared.callers.Caller.{Caller}
use Rattle.ist_rows.specs.declared.kinds.Kind.TheVariants.{Change}
use Rattle.ist_dcss.specs.Helping.{Serves as HelpsWith}
use Rattle.ist_mark.specs.Marking.{Marks}
use Rattle.ist_build.specs.Calls.{Builds}
use Rattle.ist_rebuild.specs.Going.{ServesRebuild}
use Rattle.ist_core.specs.TreeTerms.{IsStarted}
use Rattle.laws_links.proofs.FormLemmas.{started_grows}
use Rattle.ist_rule.proofs.WentOnLemmas.{goes_on_went, went_all, went_grow, went_same}
use Rattle.ist_rows.proofs.CallerLawLemmas.{resolved_went, refused_beside}
use Rattle.ist_rows.proofs.GoneLemmas.{kept_ready, loads_ready, own_ready, ready_all, ready_more, ready_same, still_ready}
use Rattle.ist_dcss.proofs.ResolvedLemmas.{serves_keep}
use Rattle.ist_mark.proofs.SubtreeLemmas.{marks_keep}
use Rattle.ist_rebuild.specs.Helping.{HasHelped}
use Rattle.ist_rows.proofs.ReserveLemmas.{reserved_went}
use Rattle.ist_rows.proofs.ShortLemmas.{short_goes_on}

-- help for a change
pub change_serves : (change : ℕ) (event : Event) → HelpsWith change event → ServesRebuild event
change_serves change (Okay caller other) is = tt
change_serves change (Decide caller other said) is = tt
change_serves change (Resolve caller other) is = tt
change_serves change _ is = absurd is

-- marking
pub marks_serve : (v : View) (node : ℕ) (event : Event) → Marks v node event → ServesRebuild event
marks_serve v node (Okay caller other) is = tt
marks_serve v node (Decide caller other said) is = tt
marks_serve v node (Resolve caller other) is = tt
marks_serve v node (Mark caller row) is = tt
marks_serve v node (Pass caller row i word) is = tt
marks_serve v node (Finish caller row keys) is = tt
marks_serve v node _ is = absurd is

-- building
pub builds_serve : (event : Event) → Builds event → ServesRebuild event
builds_serve (Reserve caller base size) is = tt
builds_serve (Root caller rebuild word rows) is = tt
builds_serve (Draw caller rebuild part) is = tt
builds_serve (Place caller rebuild i word rows) is = tt
builds_serve (Lose caller bases) is = tt
builds_serve _ is = absurd is

-- a build installs nothing
pub builds_install_none : (event : Event) → Builds event → InstallsNone event
builds_install_none (Install caller base rows) is = absurd is
builds_install_none _ is = tt

-- ---- a caller that helps a rebuild, after each kind of step that it makes. Serves each function.

-- ---- together

-- who does nothing has helped
pub helped_same : (who : Caller) → IsReady who → IsSound who.token.view → HasHelped who who
helped_same who ready s = record { on = ready_same ServesRebuild who s ready; fresh = (refl, refl) }

-- helping twice
pub helped_more : (a b c : Caller) → HasHelped a b → HasHelped b c → HasHelped a c
helped_more a b c h k = grind (arith, ready_more)

-- a started rebuild is started still
pub started_went : (P : Event → Type 0) (v w : View) → WentOn P v w → (rebuild : ℕ)
    → IsStarted (now v) rebuild → IsStarted (now w) rebuild
started_went P v w g rebuild s = started_grows (now v) (now w) (went_grow P v w g) rebuild s

-- ---- events that keep the caller's rows

-- a caller that went on by such events has helped
kept_helped : (who : Caller) (token : TokenFace) → IsReady who → (P : Event → Type 0)
    → ((event : Event) → P event → KeepsRows event) → ((event : Event) → P event → ServesRebuild event)
    → WentOn P who.token.view token.view → HasHelped who (record who { token = token })
kept_helped who token ready P keeps serves g = record {
  on = ready_all P ServesRebuild serves who (record who { token = token })
      (kept_ready P keeps who token ready g);
  fresh = (refl, refl);
}

-- loads
pub loads_helped : (who : Caller) (token : TokenFace) → IsReady who → GoesOnTo who.token.view token.view
    → HasHelped who (record who { token = token })
loads_helped who token ready g =
    record { on = loads_ready ServesRebuild who token ready g; fresh = (refl, refl) }

-- help for a change
pub help_helped : (who : Caller) (token : TokenFace) (change : ℕ) → IsReady who
    → WentOn (HelpsWith change) who.token.view token.view → HasHelped who (record who { token = token })
help_helped who token change ready g = grind (arith, kept_helped, serves_keep, change_serves)

-- marking
pub marks_helped : (who : Caller) (token : TokenFace) (v : View) (node : ℕ) → IsReady who
    → WentOn (Marks v node) who.token.view token.view → HasHelped who (record who { token = token })
marks_helped who token v node ready g = grind (arith, kept_helped, marks_keep, marks_serve)

-- ---- events of builds

-- a caller that made steps of building, and is still a caller, has helped
pub builds_helped : (old new : Caller) → IsReady old → IsCaller new → HasRefused new
    → new.number ≡ old.number → new.leaf ≡ old.leaf → new.pair ≡ old.pair
    → WentOn Builds old.token.view new.token.view → HasHelped old new
builds_helped old new ready c refused number leaf pair g = record {
  on = record {
    gone = record {
      caller = c;
      number = number;
      refused = refused;
      went = went_all Builds ServesRebuild builds_serve old.token.view new.token.view g;
    };
    quiet = record {
      pending = ready.quiet.pending;
      in_call = ap (λ x. x.pending) g.same ∙ ready.quiet.in_call;
      resolved = subst (IsResolved new.token.view) (sym number)
          (resolved_went old.token.view new.token.view old.number ready.caller.mine
          ready.quiet.resolved
          (went_all Builds InstallsNone builds_install_none old.token.view new.token.view g));
    };
  };
  fresh = (leaf, pair);
}

-- building
pub built_helped : (old new : Caller) → IsReady old → IsCaller new → HasRefused new
    → new.number ≡ old.number → spares_of new ≡ spares_of old
    → WentOn Builds old.token.view new.token.view → HasHelped old new
built_helped old new ready c refused number rows g = grind (arith, builds_helped)

-- ---- a change row

-- the result of reserving a change row: the caller has it, or was refused it
pub record HasRow (old new : Caller) (answer : Result ℕ Full) : Type 0 where
  pub caller : IsCaller new
  pub number : new.number ≡ old.number
  pub held : IfSome old.change (λ base. (answer ≡ Ok base) × (new ≡ old))
  pub fresh : IsFreshRow Change old new answer

-- a row was reserved
reserved_helped : (old new : Caller) (base : ℕ) → IsReady old → IsCaller new
    → new.number ≡ old.number → old.change ≡ None
    → Reserved old.token.view old.number base (kind_words Change) new.token.view
    → spares_of new ≡ with_spare Change base (spares_of old)
    → HasHelped old new × WentOn Builds old.token.view new.token.view
reserved_helped old new base ready c number none r rows = let v = old.token.view in
    let w = new.token.view in
    let went = reserved_went Builds v old.number base (kind_words Change) w r tt in (
      builds_helped old new ready c
          (refused_beside old new Change base ready.caller none r number rows ready.refused) number
          (ap (λ own. own.leaf) rows) (ap (λ own. own.pair) rows) went,
      went,
    )

-- the caller has a change row then
pub record HasTakenRow (old new : Caller) (base : ℕ) : Type 0 where
  pub helped : HasHelped old new
  pub by : WentOn Builds old.token.view new.token.view
  pub row : new.change ≡ Some base

-- a caller that may help and reserved a change row has it
pub took_row : (old new : Caller) (base : ℕ) → IsReady old → IsSound old.token.view
    → HasRow old new (Ok base) → HasTakenRow old new base
took_row old new base ready s h = at old.change refl h.held
  where
    at : (o : Option ℕ) → old.change ≡ o
        → IfSome o (λ held. (◌≡◌ {A = Result ℕ Full} (Ok base) (Ok held)) × (new ≡ old))
        → HasTakenRow old new base
    at (Some held) is k = grind (arith, helped_same, went_same)
    at None is k = grind (arith, reserved_helped)

-- a caller that was refused the row has helped
pub refused_row : (old new : Caller) (words : ℕ) (full : Full) → IsReady old
    → IsCaller new → new.number ≡ old.number → IsKindRefused words Change old new full
    → HasHelped old new
refused_row old new words full ready c number h = let v = old.token.view in
    let w = new.token.view in let g : GoesOnTo v w = short_goes_on v words full w h.cause in
    let it = still_ready (loads_ready ServesRebuild old new.token ready g) in
    builds_helped old new ready c
    (subst (HasRefused) (same new.number new.leaf new.pair new.change new.rebuild number
    (ap (λ own. own.leaf) h.same) (ap (λ own. own.pair) h.same) (ap (λ own. own.change) h.same)
    (ap (λ own. own.rebuild) h.same)) it.refused)
    number (ap (λ own. own.leaf) h.same) (ap (λ own. own.pair) h.same) (goes_on_went Builds v w g)
  where
    same : (n : ℕ) (a b c d : Option ℕ) → n ≡ old.number → a ≡ old.leaf → b ≡ old.pair
        → c ≡ old.change → d ≡ old.rebuild
        → record old { token = new.token }
        ≡ record { token = new.token; number = n; leaf = a; pair = b; change = c; rebuild = d }
    same n a b c d e f g h i = cc

-- ---- own words

-- a caller that stored words
pub own_helped : (old : Caller) (own : List OwnWord) → IsReady old
    → IsSound (with_own old own).token.view → HasHelped old (with_own old own)
own_helped old own ready s =
    record { on = own_ready ServesRebuild old own ready s; fresh = (refl, refl) }

-- loads after other steps of help
pub helped_loads : (old mid : Caller) (token : TokenFace) → HasHelped old mid
    → GoesOnTo mid.token.view token.view → HasHelped old (record mid { token = token })
helped_loads old mid token h g = helped_more old mid (record mid { token = token }) h
    (loads_helped mid token (still_ready h.on) g)

-- a caller that is ready after steps of help is ready after loads too
pub ready_loads : (old mid : Caller) (token : TokenFace) → HasHelped old mid
    → GoesOnTo mid.token.view token.view → IsReady (record mid { token = token })
ready_loads old mid token h g = still_ready (helped_loads old mid token h g).on
