-- Callers whose tokens went on. Serves the functions of the crates above.
use Rattle.std.proofs.Common.{◌≡◌, ◌≤◌, List, refl, sym, ap, ◌∙◌, subst, le_refl, arith}
use Rattle.ist_core.specs.declared.events.Event.{Event}
use Rattle.ist_core.specs.declared.events.Event.TheVariants.{Install}
use Rattle.ist_core.specs.LogTerms.{no_more, LaterBy}
use Rattle.ist_rule.specs.RuleTerms.{TokenFace, WentOn, GoesOnTo, IsSound}
use Rattle.ist_rule.specs.declared.view.OwnWord.{OwnWord}
use Rattle.ist_rule.specs.declared.view.View.{View}
use Rattle.ist_rule.proofs.WentOnLemmas.{went_all, went_more, went_same, goes_on_went}
use Rattle.ist_rows.specs.RowTerms.{Caller, HasRefused, KeepsRows, InstallsNone, with_own, IsReady, HasGone, StaysReady, IsCaller}
use Rattle.ist_rows.proofs.CallerLawLemmas.{caller_went, refused_went, resolved_went}

-- ---- going on

-- a token that stored words of its own went on
pub own_went : (P : Event → Type 0) (v w : View) → IsSound w → w ≡ record v { own = w.own }
    → WentOn P v w
own_went P v w s e = record {
  later = subst (λ l. LaterBy v.who P v.log l) (sym (ap (λ x. x.log) e)) no_more;
  sound = s;
  same = e ∙ sym (ap {B = View} (λ (x : View). record v {
    log = x.log;
    own = w.own;
    loads = x.loads;
    loaded = x.loaded;
  }) e);
  loaded = subst (λ n. v.loaded ≤ n) (sym (ap (λ x. x.loaded) e)) (le_refl v.loaded);
}

-- a caller whose token went on by events that change nothing of what it holds has gone so
pub caller_gone : (P : Event → Type 0) → ((event : Event) → P event → KeepsRows event)
    → (who : Caller) (token : TokenFace) → IsCaller who → HasRefused who
    → WentOn P who.token.view token.view → HasGone P who (record who { token = token })
caller_gone P all who token c r g =
    let kept = went_all P KeepsRows all who.token.view token.view g in record {
      caller = caller_went who token c kept;
      number = refl;
      refused = refused_went who token c r kept;
      went = g;
    }

-- so has one whose token made loads
pub loads_gone : (P : Event → Type 0) → (who : Caller) (token : TokenFace) → IsCaller who
    → HasRefused who → GoesOnTo who.token.view token.view → HasGone P who (record who { token = token })
loads_gone P who token c r g =
    let it = caller_gone (λ event. ⊥) (λ event none. absurd none) who token c r
    (goes_on_went (λ event. ⊥) who.token.view token.view g) in
    record {
      caller = it.caller;
      number = refl;
      refused = it.refused;
      went = goes_on_went P who.token.view token.view g;
    }

-- having gone twice
pub gone_more : (P : Event → Type 0) (old mid new : Caller) → HasGone P old mid → HasGone P mid new
    → HasGone P old new
gone_more P old mid new a b = grind (arith, went_more)

-- having gone by events of which more may be said
pub gone_all : (P Q : Event → Type 0) → ((event : Event) → P event → Q event) → (old new : Caller)
    → HasGone P old new → HasGone Q old new
gone_all P Q all old new a = grind (arith, went_all)

-- ---- staying ready

-- a caller that stays ready is ready
pub still_ready : {P : Event → Type 0} {old new : Caller} → StaysReady P old new → IsReady new
still_ready on = record { caller = on.gone.caller; refused = on.gone.refused; quiet = on.quiet }

-- a ready caller that does nothing stays ready
pub ready_same : (P : Event → Type 0) (who : Caller) → IsSound who.token.view → IsReady who
    → StaysReady P who who
ready_same P who s ready = grind (arith, went_same)

-- staying ready twice
pub ready_more : (P : Event → Type 0) (old mid new : Caller) → StaysReady P old mid
    → StaysReady P mid new → StaysReady P old new
ready_more P old mid new a b = grind (arith, gone_more)

-- staying ready by events of which more may be said
pub ready_all : (P Q : Event → Type 0) → ((event : Event) → P event → Q event) → (old new : Caller)
    → StaysReady P old new → StaysReady Q old new
ready_all P Q all old new a = record { gone = gone_all P Q all old new a.gone; quiet = a.quiet }

-- an event that changes nothing of what its caller holds installs nothing
pub keeping_installs_none : (event : Event) → KeepsRows event → InstallsNone event
keeping_installs_none (Install caller base rows) is = absurd is
keeping_installs_none _ is = tt

-- a ready caller whose token went on by events that change nothing of what it holds stays ready
pub kept_ready : (P : Event → Type 0) → ((event : Event) → P event → KeepsRows event)
    → (who : Caller) (token : TokenFace) → IsReady who → WentOn P who.token.view token.view
    → StaysReady P who (record who { token = token })
kept_ready P all who token ready g =
    let kept = went_all P KeepsRows all who.token.view token.view g in record {
      gone = caller_gone P all who token ready.caller ready.refused g;
      quiet = record {
        pending = ready.quiet.pending;
        in_call = ap (λ (x : View). x.pending) g.same ∙ ready.quiet.in_call;
        resolved = resolved_went who.token.view token.view who.number ready.caller.mine
            ready.quiet.resolved
            (went_all KeepsRows InstallsNone keeping_installs_none who.token.view token.view kept);
      };
    }

-- so does one whose token made loads
pub loads_ready : (P : Event → Type 0) (who : Caller) (token : TokenFace) → IsReady who
    → GoesOnTo who.token.view token.view → StaysReady P who (record who { token = token })
loads_ready P who token ready g =
    ready_all (λ event. ⊥) P (λ event none. absurd none) who (record who { token = token })
    (kept_ready (λ event. ⊥) (λ event none. absurd none) who token ready
    (goes_on_went (λ event. ⊥) who.token.view token.view g))

-- so does one that stored words
pub own_ready : (P : Event → Type 0) (who : Caller) (own : List OwnWord) → IsReady who
    → IsSound (with_own who own).token.view → StaysReady P who (with_own who own)
own_ready P who own ready s = record {
  gone = record {
    caller = record {
      mine = ready.caller.mine;
      rows = ready.caller.rows;
      builds = ready.caller.builds;
    };
    number = refl;
    refused = ready.refused;
    went = own_went P who.token.view (with_own who own).token.view s refl;
  };
  quiet = record {
    pending = ready.quiet.pending;
    in_call = ready.quiet.in_call;
    resolved = ready.quiet.resolved;
  };
}
