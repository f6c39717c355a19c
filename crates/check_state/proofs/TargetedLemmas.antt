-- The targets of started rebuilds, and the numbers of keys with which they are finished, after an
-- event. Serves `targeting.rt`.
use Rattle.std.proofs.Common.{◌≡◌, ◌≢◌, ◌↔◌, ◌⊎◌, ◌∷◌, ℕ, Bool, true, false, List, sym, subst, inl, ⊎_elim, arith}
use Rattle.std.specs.BTreeSet.{BTreeSet}
use Rattle.ist_core.specs.declared.pairs.Pair.{Pair}
use Rattle.ist_core.specs.declared.events.Event.{Event}
use Rattle.ist_core.specs.declared.events.Event.TheVariants.{Decide, Finish}
use Rattle.ist_core.specs.LogTerms.{Snapshot, Log, Lawful, state_of}
use Rattle.ist_core.specs.TreeTerms.{AllGrow, IsStarted, IsFinishedWith, HasTarget}
use Rattle.ist_core.specs.WordTerms.{start}
use Rattle.ist_core.proofs.AllLogLemmas.{finished_grows}
use Rattle.check_fairness.specs.Answers.{Holds}
use Rattle.check_fairness.specs.Targets.{IsTargeted, KnowsTargets, HasFinishedTarget, GainsKeys}
use Rattle.check_state.specs.Remembered.{StartsFinished}
use Rattle.check_state.specs.Calls.{StartCalls}
use Rattle.check_state.proofs.StartedLemmas.{is_sound, rows_grow, start_stays, started_before, started_newly, start_begun}
use Rattle.check_state.proofs.CallLemmas.{target_stays, started_of}
use Rattle.check_state.proofs.DecisionLemmas.{FinishesNode, finished_before, finished_now}

module _ (pairs : List Pair) (words : ℕ) where
  -- the state after the log
  abbrev table : Log → Snapshot
  table log = state_of pairs words log

  module _ (log : Log) (event : Event) (law : Lawful pairs words (event ∷ log)) where
    -- rows only grow
    grows : AllGrow (table log).pieces (table (event ∷ log)).pieces
    grows = rows_grow pairs words log event law.enabled

    -- a target of a started rebuild stays one
    targeted_stays : (node : ℕ) → IsTargeted (table log) node → IsTargeted (table (event ∷ log)) node
    targeted_stays node it = record {
      rebuild = it.rebuild;
      of = target_stays (table log) (table (event ∷ log)) grows it.rebuild node it.of;
      started = start_stays pairs words log event law it.rebuild it.started;
    }

    -- it was one before, if its rebuild was started before
    targeted_before : (node rebuild : ℕ) → HasTarget (table (event ∷ log)) rebuild node
        → IsStarted (table log) rebuild → IsTargeted (table log) node
    targeted_before node rebuild of old = record {
      rebuild = rebuild;
      of = started_of pairs words log event law node old.base rebuild record {
        change = old.change;
        published = old.published;
        kind = old.kind;
        to = old.to;
      } of;
      started = old;
    }

    -- a finished target stays one
    keys_stay : (k : ℕ) → HasFinishedTarget (table log) k → HasFinishedTarget (table (event ∷ log)) k
    keys_stay k it = record {
      node = it.node;
      targeted = targeted_stays it.node it.targeted;
      finished = finished_grows (table log) (table (event ∷ log)) it.node k grows it.finished;
    }

    -- a row that is finished was so, or is so by the event
    row_before : (node k : ℕ) → IsFinishedWith (table (event ∷ log)) node k
        → IsFinishedWith (table log) node k ⊎ FinishesNode node k event
    row_before node k f = grind (arith, finished_before, is_sound)

    -- if each started rebuild was started before, the targets stay
    targets_stay : ((rebuild : ℕ) → IsStarted (table (event ∷ log)) rebuild
        → IsStarted (table log) rebuild)
        → (targets : BTreeSet ℕ) → KnowsTargets targets (table log)
        → KnowsTargets targets (table (event ∷ log))
    targets_stay before targets known node = (
      (λ h. targeted_stays node ((known node).0 h)),
      (λ it. (known node).1 (targeted_before node it.rebuild it.of (before it.rebuild it.started))),
    )

    -- and if the event also finishes no row, their numbers of keys stay
    no_keys : ((rebuild : ℕ) → IsStarted (table (event ∷ log)) rebuild → IsStarted (table log) rebuild)
        → ((node k : ℕ) → ¬ (FinishesNode node k event))
        → GainsKeys (table log) (table (event ∷ log)) (λ k. ⊥)
    no_keys before none k = (
      (λ it.
          inl record {
            node = it.node;
            targeted = targeted_before it.node it.targeted.rebuild it.targeted.of
                (before it.targeted.rebuild it.targeted.started);
            finished = ⊎_elim (λ old. old) (λ now. absurd (none it.node k now))
                (row_before it.node k it.finished);
          }),
      (λ s. ⊎_elim (keys_stay k) (λ no. absurd no) s),
    )

  module _ (log : Log) where
    -- ---- of other events

    -- after an event other than a Decide the set of targets stays right
    pub targets_kept : (event : Event) → ((c b : ℕ) (x : Bool) → event ≢ Decide c b x)
        → Lawful pairs words (event ∷ log) → (targets : BTreeSet ℕ)
        → KnowsTargets targets (table log) → KnowsTargets targets (table (event ∷ log))
    targets_kept event no_decide law targets known =
        targets_stay log event law (started_before pairs words log event no_decide law) targets known

    -- an event that neither decides nor finishes gains no number of keys
    pub keys_kept : (event : Event) → ((c b : ℕ) (x : Bool) → event ≢ Decide c b x)
        → ((node k : ℕ) → ¬ (FinishesNode node k event)) → Lawful pairs words (event ∷ log)
        → GainsKeys (table log) (table (event ∷ log)) (λ k. ⊥)
    keys_kept event no_decide none law =
        no_keys log event law (started_before pairs words log event no_decide law) none

    -- ---- of a no

    unstarted : (caller base : ℕ) → (law : Lawful pairs words (Decide caller base false ∷ log))
        → (rebuild : ℕ) → IsStarted (table (Decide caller base false ∷ log)) rebuild
        → IsStarted (table log) rebuild
    unstarted caller base law rebuild it = grind (arith, started_newly)

    -- after a no the set of targets stays right
    pub targets_refused : (caller base : ℕ) → Lawful pairs words (Decide caller base false ∷ log)
        → (targets : BTreeSet ℕ) → KnowsTargets targets (table log)
        → KnowsTargets targets (table (Decide caller base false ∷ log))
    targets_refused caller base law targets known = grind (arith, unstarted)

    -- a no gains no number of keys
    pub keys_refused : (caller base : ℕ) → Lawful pairs words (Decide caller base false ∷ log)
        → GainsKeys (table log) (table (Decide caller base false ∷ log)) (λ k. ⊥)
    keys_refused caller base law =
        no_keys log (Decide caller base false) law (unstarted caller base law) (λ node k now. now)

    -- ---- of a yes

    module _ (caller base : ℕ) (law : Lawful pairs words (Decide caller base true ∷ log)) where
      abbrev following : Log
      following = Decide caller base true ∷ log

      -- a target of a started rebuild was one before, or the change starts a rebuild of it
      targeted_newly : (node rebuild : ℕ) → HasTarget (table following) rebuild node
          → IsStarted (table following) rebuild
          → IsTargeted (table log) node ⊎ StartCalls (table log) base node
      targeted_newly node rebuild of begun = grind (arith, started_of, started_newly)

      -- the target of what the change starts is one after its yes
      targeted_now : (node : ℕ) → StartCalls (table log) base node → IsTargeted (table following) node
      targeted_now node k = record {
        rebuild = k.rebuild;
        of = target_stays (table log) (table following) (grows log (Decide caller base true) law)
            k.rebuild node k.of;
        started = start_begun pairs words log caller base k.rebuild k.starts;
      }

      -- with the targets of what the change starts the set is right after its yes
      pub targets_more : (old new : BTreeSet ℕ)
          → ((node : ℕ) → Holds new node ↔ (Holds old node ⊎ StartCalls (table log) base node))
          → KnowsTargets old (table log) → KnowsTargets new (table following)
      targets_more old new more known node = grind (arith, targeted_now, targeted_newly)

      -- a finished target was one before, or is the target of the rebuild that the change starts
      keys_newly : (k : ℕ) → HasFinishedTarget (table following) k
          → HasFinishedTarget (table log) k ⊎ StartsFinished (table log) base k
      keys_newly k it = grind (arith, targeted_newly)

      -- a yes gains the numbers of keys of what the change starts
      pub keys_started : GainsKeys (table log) (table following) (StartsFinished (table log) base)
      keys_started k = (
        keys_newly k,
        (λ s. ⊎_elim (keys_stay log (Decide caller base true) law k)
            (λ now. record {
              node = now.finished.target;
              targeted = targeted_now now.finished.target record {
                rebuild = now.rebuild;
                starts = now.starts;
                of = now.finished.of;
              };
              finished = finished_grows (table log) (table following) now.finished.target k
                  (grows log (Decide caller base true) law) now.finished.finished;
            })
            s),
      )

    -- ---- of a Finish

    module _ (caller node keys : ℕ) (law : Lawful pairs words (Finish caller node keys ∷ log)) where
      abbrev done : Log
      done = Finish caller node keys ∷ log

      -- a finished target was one before, or is the row that is finished now
      keys_done : (k : ℕ) → HasFinishedTarget (table done) k
          → HasFinishedTarget (table log) k ⊎ (IsTargeted (table log) node × (k ≡ keys))
      keys_done k it = grind (arith, started_before)

      -- a Finish gains its number of keys, if it finishes a target
      pub keys_finished : GainsKeys (table log) (table done)
          (λ k. IsTargeted (table log) node × (k ≡ keys))
      keys_finished k = (
        keys_done k,
        (λ s. ⊎_elim (keys_stay log (Finish caller node keys) law k)
            (λ now. record {
              node = node;
              targeted = targeted_stays log (Finish caller node keys) law node now.0;
              finished = subst (IsFinishedWith (table done) node) (sym now.1)
                  (finished_now (start pairs words) log caller node keys law.enabled.1);
            })
            s),
      )
