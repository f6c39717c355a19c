-- The targets and the building lists are right after each kind of event, in the cases of the code.
-- Serves `targeting.rt`.
use Rattle.std.proofs.Common.{◌≡◌, ◌≢◌, ◌↔◌, ◌⊎◌, ◌∷◌, ◌∙◌, ℕ, Bool, true, false, List, Some, ap, refl, arith}
use Rattle.std.specs.BTreeSet.{BTreeSet}
use Rattle.ist_core.specs.declared.pairs.Pair.{Pair}
use Rattle.ist_core.specs.declared.events.Event.{Event}
use Rattle.ist_core.specs.declared.events.Event.TheVariants.{Decide, Finish, Pass}
use Rattle.ist_core.specs.LogTerms.{Snapshot, Log, Lawful, state_of}
use Rattle.check_events.specs.declared.replicas.Replica.{Replica}
use Rattle.check_fairness.specs.declared.lists.BuildingLists.{BuildingLists}
use Rattle.check_fairness.specs.Answers.{Holds, FindsOne}
use Rattle.check_events.specs.Mirroring.{Mirrors}
use Rattle.check_fairness.specs.Targets.{KnowsTargets, GainsKeys}
use Rattle.check_fairness.specs.Knowing.{KnowsLists}
use Rattle.check_fairness.proofs.TargetLemmas.{lists_stay}
use Rattle.check_state.specs.Remembered.{StartsFinished}
use Rattle.check_state.specs.Calls.{StartCalls, WordCalls}
use Rattle.check_state.proofs.EventLemmas.{at_event}
use Rattle.check_state.proofs.DecisionLemmas.{FinishesNode}
use Rattle.check_state.proofs.TargetedLemmas.{targets_kept, targets_refused, targets_more, keys_kept, keys_refused, keys_started, keys_finished}
use Rattle.check_state.proofs.CallLemmas.{RightCalls, calls_refused, calls_started, calls_passed, calls_kept}

-- an event that isn't a Finish finishes nothing
unfinished : (event : Event) → ((c n k : ℕ) → event ≢ Finish c n k) → (node k : ℕ)
    → ¬ (FinishesNode node k event)
unfinished (Finish c n j) none node k now = none c n j refl
unfinished _ none node k now = now

-- if one number has P, it is the one that is gained
pub gains_one : (t u : Snapshot) (P : ℕ → Type 0) (keys : ℕ) → FindsOne P (Some keys)
    → GainsKeys t u P → GainsKeys t u (λ k. k ≡ keys)
gains_one t u P keys found gains k = grind arith

-- if the fact that comes with the number holds, the number is the one that is gained
gains_so : (t u : Snapshot) (A : Type 0) (keys : ℕ) → A → GainsKeys t u (λ k. A × (k ≡ keys))
    → GainsKeys t u (λ k. k ≡ keys)
gains_so t u A keys a gains k = grind arith

-- ---- targets

module _ (replica : Replica) (e : Event) (old new : BTreeSet ℕ) where
  -- the event takes the set from the old one to the new one; the replica shows the state before it
  abbrev pub RemembersTarget : Type 0
  RemembersTarget = (pairs : List Pair) (words : ℕ) (log : Log) → Lawful pairs words (e ∷ log)
      → Mirrors replica (state_of pairs words log)
      → KnowsTargets old (state_of pairs words log) → KnowsTargets new (state_of pairs words (e ∷ log))

  -- a yes adds the targets of what it starts
  pub start_targets : (by base : ℕ) (said : Bool) → e ≡ Decide by base said → said ≡ true
      → ((t : Snapshot) → Mirrors replica t → (node : ℕ)
      → Holds new node ↔ (Holds old node ⊎ StartCalls t base node))
      → RemembersTarget
  start_targets by base said is so adds pairs words log law mirrors known =
      at_event pairs words log (λ l. KnowsTargets new (state_of pairs words l)) e
      (Decide by base true) (is ∙ ap (Decide by base) so) law
      (λ lawful. targets_more pairs words log by base lawful old new
      (adds (state_of pairs words log) mirrors) known)

module _ (replica : Replica) (e : Event) (targets : BTreeSet ℕ) where
  -- a no adds no target
  pub refusal_targets_none : (by base : ℕ) (said : Bool) → e ≡ Decide by base said → said ≡ false
      → RemembersTarget replica e targets targets
  refusal_targets_none by base said is so pairs words log law mirrors known =
      grind (arith, at_event, targets_refused)

  -- an event other than a Decide adds no target
  pub others_target_none : ((c b : ℕ) (x : Bool) → e ≢ Decide c b x)
      → RemembersTarget replica e targets targets
  others_target_none no_decide pairs words log law mirrors known = grind (arith, targets_kept)

-- ---- building lists

module _ (replica : Replica) (e : Event) (targets : BTreeSet ℕ) (old new : BuildingLists) where
  -- the event brings the numbers and the lists from the ones to the others, beside the replica
  -- and the targets before it
  abbrev pub RemembersLists : Type 0
  RemembersLists = (pairs : List Pair) (words : ℕ) (log : Log) → Lawful pairs words (e ∷ log)
      → Mirrors replica (state_of pairs words log) → KnowsTargets targets (state_of pairs words log)
      → KnowsLists old (state_of pairs words log) → KnowsLists new (state_of pairs words (e ∷ log))

  -- a yes adds the lists for what it starts
  pub start_lists : (by base : ℕ) (said : Bool) → e ≡ Decide by base said → said ≡ true
      → ((t u : Snapshot) → Mirrors replica t → GainsKeys t u (StartsFinished t base)
      → KnowsLists old t → KnowsLists new u)
      → RemembersLists
  start_lists by base said is so adds pairs words log law mirrors of known =
      at_event pairs words log (λ l. KnowsLists new (state_of pairs words l)) e
      (Decide by base true) (is ∙ ap (Decide by base) so) law
      (λ lawful.
      adds (state_of pairs words log) (state_of pairs words (Decide by base true ∷ log)) mirrors
      (keys_started pairs words log by base lawful) known)

  -- a Finish of a target adds the lists for its keys
  pub finish_lists : (by node keys : ℕ) → e ≡ Finish by node keys → Holds targets node
      → ((t u : Snapshot) → GainsKeys t u (λ k. k ≡ keys) → KnowsLists old t
      → KnowsLists new u)
      → RemembersLists
  finish_lists by node keys is has adds pairs words log law mirrors of known =
      at_event pairs words log (λ l. KnowsLists new (state_of pairs words l)) e
      (Finish by node keys) is law
      (λ lawful. adds (state_of pairs words log) (state_of pairs words (Finish by node keys ∷ log))
      (gains_so _ _ _ keys ((of node).0 has)
      (keys_finished pairs words log by node keys lawful)) known)

module _ (replica : Replica) (e : Event) (targets : BTreeSet ℕ) (lists : BuildingLists) where
  -- a no adds none
  pub refusal_lists_none : (by base : ℕ) (said : Bool) → e ≡ Decide by base said → said ≡ false
      → RemembersLists replica e targets lists lists
  refusal_lists_none by base said is so pairs words log law mirrors of known =
      at_event pairs words log (λ l. KnowsLists lists (state_of pairs words l)) e
      (Decide by base false) (is ∙ ap (Decide by base) so) law
      (λ lawful. lists_stay _ _ (λ k. ⊥) (keys_refused pairs words log by base lawful) lists
      (λ k none. absurd none) known)

  -- nor does a Finish of another row
  pub unlisted_finish : (by node keys : ℕ) → e ≡ Finish by node keys → ¬ (Holds targets node)
      → RemembersLists replica e targets lists lists
  unlisted_finish by node keys is lacks pairs words log law mirrors of known =
      at_event pairs words log (λ l. KnowsLists lists (state_of pairs words l)) e
      (Finish by node keys) is law
      (λ lawful. lists_stay _ _ _ (keys_finished pairs words log by node keys lawful) lists
      (λ k now. absurd (lacks ((of node).1 now.0))) known)

  -- nor does any other event
  pub others_list_none : ((c b : ℕ) (x : Bool) → e ≢ Decide c b x)
      → ((c n k : ℕ) → e ≢ Finish c n k) → RemembersLists replica e targets lists lists
  others_list_none no_decide no_finish pairs words log law mirrors of known =
      lists_stay _ _ (λ k. ⊥)
      (keys_kept pairs words log e no_decide (unfinished e no_finish) law) lists
      (λ k none. absurd none) known

-- ---- the called nodes are right after each kind of event, in the cases of the code. Serves
-- `calling.rt`.

module _ (replica : Replica) (e : Event) (old new : BTreeSet ℕ) where
  -- the event takes the set from the old one to the new one; the replica shows the state before it
  abbrev pub RemembersCall : Type 0
  RemembersCall = (pairs : List Pair) (words : ℕ) (log : Log) → Lawful pairs words (e ∷ log)
      → Mirrors replica (state_of pairs words log) → RightCalls pairs words old log
      → RightCalls pairs words new (e ∷ log)

  -- a yes adds what it starts
  pub start_calls : (by base : ℕ) (said : Bool) → e ≡ Decide by base said → said ≡ true
      → ((t : Snapshot) → Mirrors replica t → (node : ℕ)
      → Holds new node ↔ (Holds old node ⊎ StartCalls t base node))
      → RemembersCall
  start_calls by base said is so adds pairs words log law mirrors known =
      at_event pairs words log (RightCalls pairs words new) e (Decide by base true)
      (is ∙ ap (Decide by base) so) law
      (λ lawful. calls_started pairs words log by base lawful old new
      (adds (state_of pairs words log) mirrors) known)

  -- a Pass adds what its word names
  pub pass_calls : (by node i word : ℕ) → e ≡ Pass by node i word
      → ((t : Snapshot) → Mirrors replica t → (node : ℕ)
      → Holds new node ↔ (Holds old node ⊎ WordCalls t word node))
      → RemembersCall
  pass_calls by node i word is adds pairs words log law mirrors known =
      at_event pairs words log (RightCalls pairs words new) e (Pass by node i word) is law
      (λ lawful. calls_passed pairs words log by node i word lawful old new
      (adds (state_of pairs words log) mirrors) known)

module _ (replica : Replica) (e : Event) (called : BTreeSet ℕ) where
  -- a no adds nothing
  pub refusal_calls_none : (by base : ℕ) (said : Bool) → e ≡ Decide by base said → said ≡ false
      → RemembersCall replica e called called
  refusal_calls_none by base said is so pairs words log law mirrors known =
      at_event pairs words log (RightCalls pairs words called) e (Decide by base false)
      (is ∙ ap (Decide by base) so) law
      (λ lawful. calls_refused pairs words log by base lawful called known)

  -- nor does any other event
  pub others_call_none : ((c b : ℕ) (x : Bool) → e ≢ Decide c b x)
      → ((c n i w : ℕ) → e ≢ Pass c n i w) → RemembersCall replica e called called
  others_call_none no_decide no_pass pairs words log law mirrors known =
      calls_kept pairs words log e no_decide no_pass law called known
