-- A try at a slot, as its walk reports it: an update that took effect isn't yet counted. Serves `try_slot`.
use Rattle.std.proofs.Common.{◌≡◌, ◌≢◌, ℕ, List, [], ◌++◌, length, Option, Some, None, IfOk, IfErr, Result, Ok, Err, sym, ap, ◌∙◌, subst, append-nil, arith}
use Rattle.ist_core.specs.declared.commands.Command.{Command}
use Rattle.ist_core.specs.declared.events.Event.{Event}
use Rattle.ist_core.specs.declared.pairs.Pair.{Pair}
use Rattle.ist_core.specs.declared.ports.Full.{Full}
use Rattle.ist_core.specs.LogTerms.{GoesOnBy, no_more, Lawful, state_of}
use Rattle.ist_core.specs.WordTerms.{Change}
use Rattle.ist_core.proofs.AllLogLemmas.{grow_between, change_there}
use Rattle.ist_rule.specs.RuleTerms.{WentOn, now, HasMade, IsSound}
use Rattle.ist_rule.specs.declared.view.View.{View}
use Rattle.ist_core.proofs.AllWordLemmas.{no_value}
use Rattle.ist_rule.proofs.WentOnLemmas.{went_now, went_lawful, went_more, later_by-goes_on}
use Rattle.laws_calls.specs.Walking.{ComesBy}
use Rattle.laws_calls.proofs.WalkLemmas.{meeting_on}
use Rattle.laws_calls.specs.Counting.{IsOneUpdate}
use Rattle.ist_rows.specs.declared.callers.Caller.{Caller}
use Rattle.ist_find.specs.Searches.{HasCome}
use Rattle.ist_rows.proofs.GoneLemmas.{ready_all}
use Rattle.ist_updates.specs.declared.plans.Aim.{Aim}
use Rattle.ist_updates.specs.declared.updates.Outcome.{Outcome}
use Rattle.ist_updates.specs.declared.updates.Outcome.TheVariants.{Took, Nothing, Unmet}
use Rattle.ist_updates.specs.declared.updates.When.{When}
use Rattle.ist_updates.specs.Answering.{HasTried, IsTried, IsTryRefused}
use Rattle.ist_updates.specs.Asking.{Updates, IsAsked, command_for}
use Rattle.ist_updates.specs.Ending.{IsWalk}
use Rattle.ist_updates.specs.Meeting.{HasMissed, IsMetBy, IsTryMet, RepliesWith}
use Rattle.ist_updates.specs.Trying.{Tries, HasTakenEffect, IsAtSlot}
use Rattle.ist_updates.specs.Walking.{HasTriedSince, HasCounted, HasWalked}
use Rattle.ist_updates.proofs.FurtherLemmas.{slot_aimed}
use Rattle.ist_updates.proofs.OwnCountLemmas.{CountsNone, tried_none, from_none, came_none}
use Rattle.ist_updates.proofs.StepLemmas.{tries_updates}

-- what holds for a view's table holds for the table of a view that it went on to
pub went_table : (P : Event → Type 0) (v w : View) → WentOn P v w → (Q : List Pair → ℕ → Type 0)
    → Q v.start v.words → Q w.start w.words
went_table P v w g Q h = grind arith

-- of the view that one went on from, what it made by the calls of the later one
pub made_first : (P : Event → Type 0) (v w : View) → WentOn P v w → (caller : ℕ)
    → HasMade v.start v.words v.log caller v.calls → HasMade w.start w.words v.log caller w.calls
made_first P v w g caller h = grind (arith, went_table)

module _ (old : Caller) (command : Command) (a : IsAsked old command) (first : View)
    (since : HasTriedSince first old.token.view old.number) where
  abbrev v : View
  v = old.token.view

  module _ (w : View) (g : WentOn Tries v w) where
    -- its own events since the first view are tries
    pub tried_by : GoesOnBy (CountsNone old.number) first.log w.log
    tried_by = grind (arith, tried_none, went_more)

    module _ (node : ℕ) (reply : Option ℕ)
        (t : HasTakenEffect v w old.number command node reply) where
      -- it is the caller's one update since the first view
      abbrev one_update : IsOneUpdate v.start v.words first.log w.log old.number t.base
      one_update =
          let there : Lawful v.start v.words v.log = went_table Tries first v since.went
          (λ p n. Lawful p n v.log) (went_lawful Tries first v since.went) in
          let few = t.update.alone in
          let same = ap length (a.none_yet ∙ sym (made_first Tries first v since.went old.number
          since.none_yet)) in
          record {
            change = t.update.change;
            published = t.update.published;
            owned = t.update.owned;
            update = t.update.update;
            decision = t.update.decision;
            since = λ before e said.
                let it = change_there (state_of v.start v.words first.log).pieces (now v).pieces
                (grow_between v.start v.words first.log v.log there.enabled
                (later_by-goes_on since.went.later)) t.base before e in
                no_value _ (Change it.0) t.fresh it.1;
            alone = omega arith;
          }

      -- and was counted at no row yet
      pub taken_counted : (key : ℕ) (rows : List ℕ) → HasCome v key node rows
          → HasCounted v.start v.words first.log w.log old.number command rows
          record { reply = reply; due = None }
      taken_counted key rows come = record {
        base = t.base;
        update = one_update;
        command_is = t.command_is;
        reply_is = grind (arith, went_now);
        below = [];
        met = record {
          key = key;
          began = v.loads.since;
          last = come.last;
          comes = subst (λ n. ComesBy v.start v.words w.log key v.loads.since come.last n
              (rows ++ [])) (sym t.node_is)
              (subst (ComesBy v.start v.words w.log key v.loads.since come.last node)
              (sym (append-nil rows))
              (meeting_on v.start v.words v.log w.log (later_by-goes_on g.later) key
              v.loads.since come.last node rows come.comes));
        };
        so_far = from_none old.number (length rows) (rows ++ []) first.log first.log w.log
            no_more tried_by;
        counted = λ row i. absurd i;
        due = λ row k. came_none v.start v.words first.log old.number w.log tried_by row k;
      }

-- ---- the walk that ends with the try

module _ (old new : Caller) (aim : Aim) (value : Option ℕ) (words : ℕ)
    (a : IsAsked old (command_for aim.key value)) where
  -- what each result of the try means for the walk
  walked_tried : (r : Result (Option Outcome) Full) → WentOn Tries old.token.view new.token.view
      → IfOk r (λ t. IsTried old aim.key value aim.node new t)
      → IfErr r (λ full. IsTryRefused old aim.key value words full new)
      → HasWalked old aim.key value aim.node words r new
  walked_tried (Ok (Some (Took done))) went t full = λ first rows since come.
      subst (HasCounted old.token.view.start old.token.view.words first.log new.token.view.log
      old.number (command_for aim.key value) rows) (sym t.1)
      (taken_counted old (command_for aim.key value) a first since new.token.view went aim.node
      done.reply t.0 aim.key rows come)
  walked_tried (Ok (Some Nothing)) went t full = grind arith
  walked_tried (Ok (Some Unmet)) went t full = record { went = went; asked = t }
  walked_tried (Ok None) went t full = record { went = went; asked = t }
  walked_tried (Err f) went t full = (record { went = went; asked = full.still }, full.cause)

-- the try is a whole walk from its node on
pub tried_walk : {old new : Caller} {aim : Aim} {value : Option ℕ} {words : ℕ} {when : When}
    {r : Result (Option Outcome) Full} → IsAsked old (command_for aim.key value)
    → IsSound old.token.view → IsAtSlot old.token.view aim.key aim.node aim.index aim.word
    → HasTried old aim value words r new → IfOk r (IsTryMet when)
    → (r ≡ Ok (Some Unmet) → HasMissed old.token.view new.token.view aim.key when)
    → IsWalk old aim.key value when aim.node words r new
tried_walk {old} {new} {aim} {value} {words} {when} {r} a sound at t met missed = record {
  on = ready_all Tries Updates tries_updates old new t.on;
  walked = walked_tried old new aim value words a r t.on.gone.went t.told t.full;
  further = λ is first fresh. t.further is first
      (slot_aimed first old.token.view aim.key aim.node aim.index aim.word sound at fresh);
  met = met;
  missed = missed;
}

-- so is a try that missed no value
pub unmissed_walk : {old new : Caller} {aim : Aim} {value : Option ℕ} {words : ℕ} {when : When}
    {r : Result (Option Outcome) Full} → IsAsked old (command_for aim.key value)
    → IsSound old.token.view → IsAtSlot old.token.view aim.key aim.node aim.index aim.word
    → HasTried old aim value words r new → IfOk r (IsTryMet when) → r ≢ Ok (Some Unmet)
    → IsWalk old aim.key value when aim.node words r new
unmissed_walk a sound at t met unmissed = tried_walk a sound at t met (λ is. absurd (unmissed is))

-- as one that must begin again
pub again_walk : {old new : Caller} {aim : Aim} {value : Option ℕ} {words : ℕ} {when : When}
    {o : Option Outcome} → IsAsked old (command_for aim.key value) → IsSound old.token.view
    → IsAtSlot old.token.view aim.key aim.node aim.index aim.word
    → HasTried old aim value words (Ok o) new → o ≡ None
    → IsWalk old aim.key value when aim.node words (Ok o) new
again_walk {when = when} {o = o} a sound at t is =
    unmissed_walk a sound at t (subst (IsTryMet when) (sym is) tt) (λ unmet. unmet_none o is unmet)
  where
    unmet_none : (o : Option Outcome) → o ≡ None
        → ◌≡◌ {A = Result (Option Outcome) Full} (Ok o) (Ok (Some Unmet)) → ⊥
    unmet_none o none unmet = cc

-- ---- the value that the try met

-- a try that replaced this value met it
pub replied_met : (when : When) (had : Option ℕ) (r : Result (Option Outcome) Full)
    → IsMetBy when had → IfOk r (RepliesWith had) → IfOk r (IsTryMet when)
replied_met when had (Ok (Some (Took done))) met h = subst (IsMetBy when) (sym h) met
replied_met when had (Ok (Some Nothing)) met h = subst (IsMetBy when) h met
replied_met when had (Ok (Some Unmet)) met h = tt
replied_met when had (Ok None) met h = tt
replied_met when had (Err full) met h = tt

-- and missed none
pub replied_unmissed : (had : Option ℕ) (r : Result (Option Outcome) Full) → IfOk r (RepliesWith had)
    → r ≡ Ok (Some Unmet) → ⊥
replied_unmissed had r h is = subst (λ x. IfOk x (RepliesWith had)) is h
