-- What a try promises, by what came of it at the slot. Serves the functions of `trying`.
use Rattle.std.proofs.Common.{◌≡◌, ◌≢◌, ℕ, true, false, Option, Some, None, refl, sym, ap, subst, inl, inr, ⊎_elim, arith}
use Rattle.std.specs.Prelude.{Bool, IsErrAnd, Ok, Err, Result}
use Rattle.ist_core.specs.declared.commands.Command.{Command}
use Rattle.ist_core.specs.declared.ports.Full.{Full}
use Rattle.ist_core.specs.declared.states.LeafRow.{LeafRow}
use Rattle.ist_core.specs.TreeTerms.{value_at}
use Rattle.ist_core.specs.WordTerms.{Leaf, LeafAt, ref_of}
use Rattle.ist_rule.specs.RuleTerms.{TokenFace, now, GoesOnTo, IsSound}
use Rattle.ist_rule.specs.declared.view.View.{View}
use Rattle.ist_rule.proofs.WentOnLemmas.{later_by-goes_on}
use Rattle.laws_coming.specs.Further.{CameFurther}
use Rattle.laws_histories.specs.Searching.{Searched}
use Rattle.ist_rows.specs.RowTerms.{HasGone, StaysReady}
use Rattle.ist_rows.specs.declared.callers.Caller.{Caller}
use Rattle.ist_rows.proofs.GoneLemmas.{loads_gone, gone_more, ready_same}
use Rattle.ist_updates.specs.declared.plans.Aim.{Aim}
use Rattle.ist_updates.specs.declared.plans.SlotPlan.{SlotPlan}
use Rattle.ist_updates.specs.declared.plans.SlotPlan.TheVariants as way
use Rattle.ist_updates.specs.declared.updates.Outcome.{Outcome}
use Rattle.ist_updates.specs.declared.updates.Outcome.TheVariants.{Nothing, Unmet}
use Rattle.ist_updates.specs.Answering.{HasChanged, HasTried, IsTryRefused, just_took}
use Rattle.ist_updates.specs.Asking.{command_for, IsAsked}
use Rattle.ist_updates.specs.Changing.{MayAskFor, WasAtSlot, command_by}
use Rattle.ist_updates.specs.Further.{HasAimed}
use Rattle.ist_updates.specs.Refusals.{IsUpdateRefused}
use Rattle.ist_updates.specs.Trying.{BeganSince, Tries, HasFoundNone}
use Rattle.ist_updates.proofs.StepLemmas.{asked_quiet}
use Rattle.ist_updates.proofs.AfterLemmas.{after_loads}
use Rattle.ist_updates.proofs.FurtherLemmas.{aimed_on}
use Rattle.ist_updates.proofs.TriedLemmas.{IsPutFor, err_after, ok_after, put_refused, remove_refused}
use Rattle.ist_updates.proofs.WayLemmas.{met_other}

-- ---- results

-- ---- a try without a step

module _ (who : Caller) (aim : Aim) (value : Option ℕ) (words : ℕ) (s : IsSound who.token.view)
    (a : IsAsked who (command_for aim.key value)) where
  ready : StaysReady Tries who who
  ready = grind (arith, ready_same, asked_quiet)

  -- the key has a value at which the update shouldn't take effect
  pub unmet_tried : HasTried who aim value words (Ok (Some Unmet)) who
  unmet_tried = record { on = ready; told = a; full = tt; further = λ is. absurd (cc) }

  -- there is nothing to remove
  pub nothing_tried : value ≡ None → HasFoundNone who.token.view aim.key
      → HasTried who aim value words (Ok (Some Nothing)) who
  nothing_tried none found = grind (arith, ready)

-- ---- a try with steps

module _ (old new : Caller) (aim : Aim) (value : Option ℕ) (words : ℕ) where
  abbrev command : Command
  command = command_for aim.key value

  -- the walk must begin again, and the table came further
  pub again_tried : HasGone Tries old new → IsAsked new command
      → ((first : View) → HasAimed first old.token.view aim.node aim.index aim.word
      → CameFurther first new.token.view) → HasTried old aim value words (Ok None) new
  again_tried gone still further = grind (arith, asked_quiet)

  -- the table had too few words
  pub refused_tried : (full : Full) → HasGone Tries old new
      → IsTryRefused old aim.key value words full new → HasTried old aim value words (Err full) new
  refused_tried full gone refused = grind (arith, asked_quiet)

-- a refusal that is handed on is the refusal of the try
handed_on : {old new : Caller} {aim : Aim} {value : Option ℕ} {words : ℕ} {full : Full}
    (r : Result (Option Outcome) Full) → IsErrAnd r (λ x. x ≡ full)
    → HasTried old aim value words (Err full) new → HasTried old aim value words r new
handed_on (Ok tried) same t = absurd same
handed_on {old} {new} {aim} {value} {words} (Err e) same t = grind arith

-- ---- a try by a change of the slot

module _ {old new : Caller} {aim : Aim} {x : SlotPlan} {words : ℕ} where
  -- the change was carried out or lost
  pub changed_tried : (value : Option ℕ) {taken : Bool} (tried : Option Outcome) (reply : Option ℕ)
      → command_by aim.key x ≡ command_for aim.key value → HasChanged old aim x words (Ok taken) new
      → (taken ≡ true → tried ≡ Some (just_took reply)) → (taken ≡ false → tried ≡ None)
      → value_at (now old.token.view).pieces (ref_of aim.word) aim.key ≡ reply
      → HasTried old aim value words (Ok tried) new
  changed_tried value {taken = true} tried reply is h took again told = grind arith
  changed_tried value {taken = false} tried reply is h took again told = grind arith

  -- the table had too few words for a row of a put
  put_unchanged : {full : Full} (value : Option ℕ) (given : ℕ) → value ≡ Some given
      → command_by aim.key x ≡ command_for aim.key value → HasChanged old aim x words (Err full) new
      → ((first : View) → BeganSince first old.token.view → MayAskFor x full.asked
      → IsPutFor first new.token.view aim.key full.asked) → HasTried old aim value words (Err full) new
  put_unchanged {full} value given put is h asks =
      refused_tried old new aim value words full h.on.gone record {
        still = subst (IsAsked new) is h.still;
        cause = λ first began. subst (λ o. IsUpdateRefused first aim.key o words full new.token.view)
            (sym put) (put_refused first old.token.view new.token.view words full began h.full
            aim.key given (asks first began h.full.few.asked.0));
      }

module _ {old new : Caller} {aim : Aim} {words : ℕ} {full : Full} (r : Result (Option Outcome) Full)
    (same : IsErrAnd r (λ x. x ≡ full)) where
  -- of a leaf that is put
  pub leaf_unchanged : {value : Option ℕ} {given : ℕ} → value ≡ Some given
      → HasChanged old aim (way.Leaf given) words (Err full) new → HasTried old aim value words r new
  leaf_unchanged {value} {given} put h =
      handed_on r same (put_unchanged value given put (ap (command_for aim.key) (sym put)) h
      (λ first began k. ⊎_elim (λ e. inl e) (λ e. inr (inr e)) k))

  -- of a pair row that is put in the place of a leaf of another key
  pub pair_unchanged : {value base : ℕ} {row : LeafRow} → WasAtSlot old.token.view aim
      → ref_of aim.word ≡ Some (LeafAt base) → (now old.token.view).pieces base ≡ Some (Leaf row)
      → row.key ≢ aim.key → HasChanged old aim (way.Pair value base row.key) words (Err full) new
      → HasTried old aim (Some value) words r new
  pair_unchanged {value} {base} {row} at is there differs h =
      let on = later_by-goes_on h.on.gone.went.later in
      handed_on r same (put_unchanged (Some value) value refl refl h
      (λ first began k. grind (arith, met_other)))

  -- or for the change of a remove
  pub remove_unchanged : {found : ℕ} → HasChanged old aim way.Clear words (Err full) new
      → (let v = old.token.view in
      Searched v.start v.words v.log aim.key v.loads.since aim.node (Some found))
      → HasTried old aim None words r new
  remove_unchanged {found} h searched =
      handed_on r same (refused_tried old new aim None words full h.on.gone record {
        still = h.still;
        cause = λ first began. remove_refused first old.token.view new.token.view words full began
            h.full aim.key aim.node found h.full.few.asked.0 searched;
      })

-- ---- after loads

-- a try after loads is a try that makes them first
pub loads_tried : {old : Caller} {token : TokenFace} {aim : Aim} {value asked : Option ℕ} {words : ℕ}
    {r : Result (Option Outcome) Full} {new : Caller} → IsAsked old (command_for aim.key value)
    → GoesOnTo old.token.view token.view → value ≡ asked
    → HasTried (record old { token = token }) aim asked words r new
    → HasTried old aim value words r new
loads_tried {old} {token} {aim} {value} {asked} {words} {r} {new} a g is tried =
    let t = subst (λ o. HasTried (record old { token = token }) aim o words r new) (sym is) tried in
    record {
      on = record {
        gone = gone_more Tries old (record old { token = token }) new
            (loads_gone Tries old token a.caller a.refused g) t.on.gone;
        quiet = t.on.quiet;
      };
      told = ok_after old token aim.key value a g aim.node new r t.told;
      full = err_after old token aim.key value a g words new r t.full;
      further = λ is first aimed. t.further is first
          (aimed_on first old.token.view token.view aim.node aim.index aim.word aimed
          (after_loads old.token.view token.view g));
    }
