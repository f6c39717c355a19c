-- The set of started rebuilds after an event: only a Decide adds one. Serves `starting.rt`.
use Rattle.std.proofs.Common.{◌≡◌, ◌≢◌, ◌∙◌, ◌⊎◌, ◌↔◌, ℕ, Bool, true, false, List, ◌∷◌, option_map, refl, ap, inl, inr, ⊎_elim, arith, ◌<◌, ◌^◌}
use Rattle.std.specs.BTreeSet.{BTreeSet}
use Rattle.ist_core.specs.declared.pairs.Pair.{Pair}
use Rattle.ist_core.specs.declared.events.Event.{Event}
use Rattle.ist_core.specs.declared.events.Event.TheVariants.{Decide}
use Rattle.ist_core.specs.WordTerms.{decided_yes, with_decision, start, decided_no}
use Rattle.ist_core.specs.LogTerms.{decision_word, Log, Lawful, EachEnabled, state_of}
use Rattle.ist_core.specs.TreeTerms.{IsStarted, AllGrow}
use Rattle.ist_core.proofs.AllWordLemmas.{changed_at-same}
use Rattle.ist_core.proofs.AllEventLemmas.{HeldLieApart, sound, sound_start, known, grow_step}
use Rattle.check_fairness.specs.Answers.{Holds}
use Rattle.check_events.specs.Remembering.{KnowsStarts, HasRefusal, KnowsRefusals, pair_key}
use Rattle.check_state.specs.Remembered.{StartsRebuild, Refuses}
use Rattle.check_state.proofs.DecisionLemmas.{came_step, came_decided, decided_stays}

module _ (pairs : List Pair) (words : ℕ) (log : Log) where
  -- after an enabled log held rows lie apart
  pub is_sound : EachEnabled (start pairs words) log → HeldLieApart (state_of pairs words log)
  is_sound h = sound (start pairs words) log (sound_start pairs words) h

  -- rows only grow
  pub rows_grow : (event : Event) → EachEnabled (start pairs words) (event ∷ log)
      → AllGrow (state_of pairs words log).pieces (state_of pairs words (event ∷ log)).pieces
  rows_grow event h = grow_step (start pairs words) log event h.1 (is_sound h.0)

  -- a started rebuild stays so
  pub start_stays : (event : Event) → Lawful pairs words (event ∷ log) → (rebuild : ℕ)
      → IsStarted (state_of pairs words log) rebuild
      → IsStarted (state_of pairs words (event ∷ log)) rebuild
  start_stays event law rebuild it = record {
    base = it.base;
    change = it.change;
    published = decided_stays (start pairs words) log event law.enabled.1
        (is_sound law.enabled.0) it.base it.change it.published (λ e. let yes = it.decision in
        omega arith);
    kind = it.kind;
    decision = it.decision;
    to = it.to;
  }

  -- what is started after an event other than a Decide was started before
  pub started_before : (event : Event) → ((c b : ℕ) (x : Bool) → event ≢ Decide c b x)
      → Lawful pairs words (event ∷ log) → (rebuild : ℕ)
      → IsStarted (state_of pairs words (event ∷ log)) rebuild
      → IsStarted (state_of pairs words log) rebuild
  started_before event other law rebuild it = grind (arith, came_step, is_sound)

  -- if each started rebuild was started before, the table stays right
  starts_stay : (event : Event) → Lawful pairs words (event ∷ log) → (started : BTreeSet ℕ)
      → ((rebuild : ℕ) → IsStarted (state_of pairs words (event ∷ log)) rebuild
      → IsStarted (state_of pairs words log) rebuild)
      → KnowsStarts started (state_of pairs words log) → KnowsStarts started
      (state_of pairs words (event ∷ log))
  starts_stay event law started before known rebuild = grind (arith, start_stays, known)

  -- after an event other than a Decide the set of started rebuilds stays right
  pub starts_kept : (event : Event) → ((c b : ℕ) (x : Bool) → event ≢ Decide c b x) → Lawful pairs
      words (event ∷ log) → (started : BTreeSet ℕ)
      → KnowsStarts started (state_of pairs words log) → KnowsStarts started
      (state_of pairs words (event ∷ log))
  starts_kept event other law started known = starts_stay event law started
      (started_before event other law) known

  -- what is started after a Decide was started before, or is started by it
  pub started_newly : (caller base : ℕ) (said : Bool)
      → (law : Lawful pairs words (Decide caller base said ∷ log)) → (rebuild : ℕ)
      → IsStarted (state_of pairs words (Decide caller base said ∷ log)) rebuild
      → IsStarted (state_of pairs words log) rebuild ⊎ ((decision_word said ≡ decided_yes)
      × StartsRebuild (state_of pairs words log) base rebuild)
  started_newly caller base said law rebuild it = grind (arith, came_decided)

  -- after a no the set of started rebuilds stays right
  pub starts_refused : (caller base : ℕ)
      → (law : Lawful pairs words (Decide caller base false ∷ log)) → (started : BTreeSet ℕ)
      → KnowsStarts started (state_of pairs words log) → KnowsStarts started
      (state_of pairs words (Decide caller base false ∷ log))
  starts_refused caller base law started known = grind (arith, starts_stay, started_newly, known)

  -- a rebuild that the change starts is started after its yes
  pub start_begun : (caller base rebuild : ℕ) → StartsRebuild (state_of pairs words log) base
      rebuild → IsStarted (state_of pairs words (Decide caller base true ∷ log)) rebuild
  start_begun caller base rebuild k = let t = state_of pairs words log in record {
    base = base;
    change = record (k.change) { decision = decided_yes };
    published = changed_at-same t.pieces base (with_decision decided_yes)
        ∙ ap (option_map (with_decision decided_yes)) k.published;
    kind = k.kind;
    decision = refl;
    to = k.to;
  }

  -- with what the change starts the set is right after its yes
  pub starts_more : (caller base : ℕ) → (law : Lawful pairs words (Decide caller base true ∷ log))
      → (old new : BTreeSet ℕ)
      → ((rebuild : ℕ) → Holds new rebuild
      ↔ (Holds old rebuild ⊎ StartsRebuild (state_of pairs words log) base rebuild))
      → KnowsStarts old (state_of pairs words log) → KnowsStarts new
      (state_of pairs words (Decide caller base true ∷ log))
  starts_more caller base law old new more known rebuild = (
    (λ h. ⊎_elim (λ k. start_stays (Decide caller base true) law rebuild ((known rebuild).0 k))
        (λ k. start_begun caller base rebuild k) ((more rebuild).0 h)),
    (λ it. (more rebuild).1 (⊎_elim (λ k. inl ((known rebuild).1 k)) (λ k. inr k.1)
        (started_newly caller base true law rebuild it))),
  )

-- ---- the changes that were decided no, after an event. Serves `starting.rt`.

module _ (pairs : List Pair) (words : ℕ) (log : Log) where
  -- a refusal stays
  refusal_stays : (event : Event) → Lawful pairs words (event ∷ log) → (caller node : ℕ)
      → HasRefusal (state_of pairs words log) caller node → HasRefusal
      (state_of pairs words (event ∷ log)) caller node
  refusal_stays event law caller node it = record {
    base = it.base;
    change = it.change;
    published = decided_stays (start pairs words) log event law.enabled.1
        (is_sound pairs words log law.enabled.0) it.base it.change it.published
        (λ e. let no = it.refused in omega arith);
    owned = it.owned;
    on = it.on;
    refused = it.refused;
  }

  -- if each refusal was one before, the table stays right
  refusals_stay : (event : Event) → Lawful pairs words (event ∷ log) → (refused : BTreeSet ℕ)
      → ((caller node : ℕ) → HasRefusal (state_of pairs words (event ∷ log)) caller node
      → HasRefusal (state_of pairs words log) caller node)
      → KnowsRefusals refused (state_of pairs words log) → KnowsRefusals refused
      (state_of pairs words (event ∷ log))
  refusals_stay event law refused before known caller node fits fits_too =
      grind (arith, refusal_stays, known)

  -- after an event other than a Decide the set of refusals stays right
  pub refusals_kept : (event : Event) → ((c b : ℕ) (x : Bool) → event ≢ Decide c b x) → Lawful pairs
      words (event ∷ log) → (refused : BTreeSet ℕ)
      → KnowsRefusals refused (state_of pairs words log) → KnowsRefusals refused
      (state_of pairs words (event ∷ log))
  refusals_kept event other law refused known = refusals_stay event law refused
      (λ caller node it. record {
        base = it.base;
        change = it.change;
        published = came_step (start pairs words) log event law.enabled.1
            (is_sound pairs words log law.enabled.0) other it.base it.change it.published
            (λ e. let no = it.refused in omega arith);
        owned = it.owned;
        on = it.on;
        refused = it.refused;
      })
      known

  -- what is refused after a Decide was refused before, or is refused by it
  newly : (by base : ℕ) (said : Bool) → (law : Lawful pairs words (Decide by base said ∷ log))
      → (caller node : ℕ)
      → HasRefusal (state_of pairs words (Decide by base said ∷ log)) caller node
      → HasRefusal (state_of pairs words log) caller node ⊎ ((decision_word said ≡ decided_no)
      × Refuses (state_of pairs words log) base caller node)
  newly by base said law caller node it = grind (arith, came_decided)

  -- after a yes the set of refusals stays right
  pub refusals_accepted : (by base : ℕ) → (law : Lawful pairs words (Decide by base true ∷ log))
      → (refused : BTreeSet ℕ)
      → KnowsRefusals refused (state_of pairs words log) → KnowsRefusals refused
      (state_of pairs words (Decide by base true ∷ log))
  refusals_accepted by base law refused known = grind (arith, refusals_stay, newly, known)

  -- with the refusal of the change the set is right after its no
  pub refusals_more : (by base : ℕ) → (law : Lawful pairs words (Decide by base false ∷ log))
      → (old new : BTreeSet ℕ)
      → ((caller node : ℕ) → node < 2 ^ 64 → Holds new (pair_key caller node)
      ↔ (Holds old (pair_key caller node) ⊎ Refuses (state_of pairs words log) base caller
      node))
      → KnowsRefusals old (state_of pairs words log) → KnowsRefusals new
      (state_of pairs words (Decide by base false ∷ log))
  refusals_more by base law old new more known caller node fits fits_too = (
    (λ h. ⊎_elim (λ k. refusal_stays (Decide by base false) law caller node
        ((known caller node fits fits_too).0 k)) (λ k. made k) ((more caller node fits_too).0 h)),
    (λ it. (more caller node fits_too).1 (⊎_elim (λ k. inl ((known caller node fits fits_too).1 k))
        (λ k. inr k.1) (newly by base false law caller node it))),
  )
    where
      made : Refuses (state_of pairs words log) base caller node → HasRefusal
          (state_of pairs words (Decide by base false ∷ log)) caller node
      made k = let t = state_of pairs words log in record {
        base = base;
        change = record (k.change) { decision = decided_no };
        published = changed_at-same t.pieces base (with_decision decided_no)
            ∙ ap (option_map (with_decision decided_no)) k.published;
        owned = k.owned;
        on = k.on;
        refused = refl;
      }
