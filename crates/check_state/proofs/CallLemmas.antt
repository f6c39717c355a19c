-- The causes to mark a node, after an event: they stay, and a yes or a pass may bring one. Serves
-- `calling.rt`.
use Rattle.std.proofs.Common.{◌≡◌, ◌≢◌, ◌⊎◌, ◌↔◌, ℕ, Bool, true, false, List, [], ◌∷◌, Some, refl, sym, subst, inl, inr, ⊎_elim, arith}
use Rattle.std.specs.BTreeSet.{BTreeSet}
use Rattle.ist_core.specs.declared.pairs.Pair.{Pair}
use Rattle.ist_core.specs.declared.events.Event.{Event}
use Rattle.ist_core.specs.declared.events.Event.TheVariants.{Decide, Pass}
use Rattle.ist_core.specs.WordTerms.{RebuildAt, ref_of, Inner, Change, start}
use Rattle.ist_core.specs.LogTerms.{Snapshot, Log, Happened, Passes, Lawful, EachEnabled, CanOpen, state_of}
use Rattle.ist_core.specs.TreeTerms.{AllGrow, IsStarted, HasTarget, IsCalled, as_target, as_child, after_rebuild}
use Rattle.ist_core.proofs.AllLogLemmas.{rebuild_there}
use Rattle.ist_core.proofs.AllPlaceLemmas.{SlotNames, SideNames, IsRebuildFor, slot_grows, names}
use Rattle.ist_core.proofs.AllWordLemmas.{same_rebuild}
use Rattle.check_fairness.specs.Answers.{Holds}
use Rattle.check_events.specs.Remembering.{KnowsCalls}
use Rattle.check_builds.proofs.TableLemmas.{no_pass}
use Rattle.check_state.specs.Remembered.{StartsRebuild}
use Rattle.check_state.specs.Calls.{StartCalls, WordCalls, names_row, names_rebuild}
use Rattle.check_state.proofs.StartedLemmas.{rows_grow, start_stays, started_before, started_newly, start_begun}

-- ---- the target of a rebuild

module _ (t u : Snapshot) (grows : AllGrow t.pieces u.pieces) (rebuild node : ℕ) where
  -- a target of a rebuild stays one
  pub target_stays : HasTarget t rebuild node → HasTarget u rebuild node
  target_stays it = grind (arith, rebuild_there)

  -- and it was one before, if the rebuild was published
  target_before : {above i : ℕ} → IsRebuildFor t.pieces above i rebuild
      → HasTarget u rebuild node → HasTarget t rebuild node
  target_before here it = grind (arith, rebuild_there, same_rebuild)

module _ (pairs : List Pair) (words : ℕ) where
  -- the state after the log
  abbrev pub table : Log → Snapshot
  table log = state_of pairs words log

  -- each event of the log was enabled
  abbrev Ran : Log → Type 0
  Ran log = EachEnabled (start pairs words) log

  -- ---- what is named is published

  module _ (opens : CanOpen pairs words) where
    -- the word that is passed now names what its slot may hold
    passed_now : (log : Log) (event : Event) → Ran (event ∷ log) → (above i word : ℕ)
        → Passes above i word event → SlotNames (table log).pieces above i (ref_of word)
    passed_now log (Pass caller node j w) h above i word same = let ps = (table log).pieces in
        let row = (names pairs words opens log h.0).rows node (Inner h.1.row) h.1.published in
        subst (λ x. SlotNames ps x i (ref_of word)) same.0
        (subst (λ x. SlotNames ps node x (ref_of word)) same.1
        (subst (λ x. SlotNames ps node j (ref_of x)) same.2 (row j w h.1.in_slot)))
    passed_now log event h above i word none = absurd none

    -- each word that was passed names what it should in its slot
    passed_names : (log : Log) → Ran log → (above i word : ℕ)
        → Happened (Passes above i word) log → SlotNames (table log).pieces above i (ref_of word)
    passed_names [] h above i word none = absurd none
    passed_names (event ∷ log) h above i word d =
        slot_grows _ _ (rows_grow pairs words log event h) above i (ref_of word)
        (⊎_elim (passed_now log event h above i word) (passed_names log h.0 above i word) d)

    -- a rebuild that a passed word names is published
    passed_rebuild : (log : Log) → Ran log → (above i word rebuild : ℕ)
        → SlotNames (table log).pieces above i (ref_of word)
        → ref_of word ≡ Some (RebuildAt rebuild) → IsRebuildFor (table log).pieces above i rebuild
    passed_rebuild log h above i word rebuild named is = grind (arith, SlotNames)

    -- a rebuild that a change starts is published
    starting_rebuild : (log : Log) → Ran log → (base rebuild : ℕ)
        → (k : StartsRebuild (table log) base rebuild)
        → IsRebuildFor (table log).pieces k.change.node k.change.index rebuild
    starting_rebuild log h base rebuild k =
        let row = (names pairs words opens log h).rows base (Change k.change) k.published in
        subst (SideNames (table log).pieces k.change.node k.change.index) k.to row.1

  -- ---- causes

  module _ (log : Log) (event : Event) (law : Lawful pairs words (event ∷ log)) (node : ℕ) where
    -- rows only grow
    grows : AllGrow (table log).pieces (table (event ∷ log)).pieces
    grows = rows_grow pairs words log event law.enabled

    -- a cause stays
    call_stays : IsCalled (table log) log node → IsCalled (table (event ∷ log)) (event ∷ log) node
    call_stays (as_target rebuild of begun) =
        as_target rebuild (target_stays _ _ grows rebuild node of)
        (start_stays pairs words log event law rebuild begun)
    call_stays (as_child above i word passed is) = as_child above i word (inr passed) is
    call_stays (after_rebuild above i word rebuild passed is of) =
        after_rebuild above i word rebuild (inr passed) is (target_stays _ _ grows rebuild node of)

    -- a target of a rebuild that a word names was one before
    named_before : (above i word rebuild : ℕ) → SlotNames (table log).pieces above i (ref_of word)
        → ref_of word ≡ Some (RebuildAt rebuild)
        → HasTarget (table (event ∷ log)) rebuild node → HasTarget (table log) rebuild node
    named_before above i word rebuild named is of = target_before _ _ grows rebuild node
        (passed_rebuild law.opens log law.enabled.0 above i word rebuild named is) of

    -- a target of a rebuild that a change starts was one before, if the change was there before
    pub started_of : (base rebuild : ℕ) → StartsRebuild (table log) base rebuild
        → HasTarget (table (event ∷ log)) rebuild node → HasTarget (table log) rebuild node
    started_of base rebuild k of = target_before _ _ grows rebuild node
        (starting_rebuild law.opens log law.enabled.0 base rebuild k) of

    -- a cause after the event was one before, or a rebuild starts now, or a word is passed now
    causes : (New : Type 0)
        → ((rebuild : ℕ) → IsStarted (table (event ∷ log)) rebuild
        → HasTarget (table (event ∷ log)) rebuild node → IsStarted (table log) rebuild ⊎ New)
        → ((above i word : ℕ) → Passes above i word event → WordCalls (table log) word node → New)
        → IsCalled (table (event ∷ log)) (event ∷ log) node → IsCalled (table log) log node ⊎ New
    causes New starts passes (as_target rebuild of begun) = ⊎_elim
        (λ old.
        inl (as_target rebuild (started_of old.base rebuild (as_starts old) of) old))
        (λ new. inr new) (starts rebuild begun of)
      where
        -- a started rebuild is one that its change starts
        as_starts : {rebuild : ℕ} → (it : IsStarted (table log) rebuild)
            → StartsRebuild (table log) it.base rebuild
        as_starts it = grind arith
    causes New starts passes (as_child above i word (inl now) is) = grind arith
    causes New starts passes (as_child above i word (inr before) is) =
        inl (as_child above i word before is)
    causes New starts passes (after_rebuild above i word rebuild (inl now) is of) =
        let named = passed_now law.opens log event law.enabled above i word now in
        inr (passes above i word now
        (names_rebuild rebuild is (named_before above i word rebuild named is of)))
    causes New starts passes (after_rebuild above i word rebuild (inr before) is of) =
        let named = passed_names law.opens log law.enabled.0 above i word before in
        inl (after_rebuild above i word rebuild before is
        (named_before above i word rebuild named is of))

  -- ---- the table of calls

  -- the set is right after the log
  abbrev pub RightCalls : BTreeSet ℕ → Log → Type 0
  RightCalls called log = KnowsCalls called (table log) log

  -- if the set gets the new causes, it is right after the event
  calls_with : (log : Log) (event : Event) → Lawful pairs words (event ∷ log)
      → (old new : BTreeSet ℕ) (New : ℕ → Type 0) → ((node : ℕ) → Holds new node
      ↔ (Holds old node ⊎ New node))
      → ((node : ℕ) → IsCalled (table (event ∷ log)) (event ∷ log) node
      → IsCalled (table log) log node ⊎ New node)
      → ((node : ℕ) → New node → IsCalled (table (event ∷ log)) (event ∷ log) node)
      → RightCalls old log → RightCalls new (event ∷ log)
  calls_with log event law old new New more before now known node = (
    (λ h. ⊎_elim (λ k. call_stays log event law node ((known node).0 k)) (now node)
        ((more node).0 h)),
    (λ it. (more node).1 (⊎_elim (λ k. inl ((known node).1 k)) (λ k. inr k) (before node it))),
  )

  -- if there are no new causes, the set stays right
  calls_stay : (log : Log) (event : Event) → Lawful pairs words (event ∷ log)
      → (called : BTreeSet ℕ)
      → ((node : ℕ) → IsCalled (table (event ∷ log)) (event ∷ log) node
      → IsCalled (table log) log node ⊎ ⊥)
      → RightCalls called log → RightCalls called (event ∷ log)
  calls_stay log event law called before known = calls_with log event law called called (λ node. ⊥)
      (λ node. ((λ h. inl h), (λ s. ⊎_elim (λ h. h) (λ none. absurd none) s))) before
      (λ node none. absurd none) known

  module _ (log : Log) where
    -- after an event that neither decides nor passes the set stays right
    pub calls_kept : (event : Event) → ((c b : ℕ) (x : Bool) → event ≢ Decide c b x)
        → ((c n i w : ℕ) → event ≢ Pass c n i w)
        → Lawful pairs words (event ∷ log) → (called : BTreeSet ℕ)
        → RightCalls called log → RightCalls called (event ∷ log)
    calls_kept event no_decide passes_none law called known = calls_stay log event law called
        (λ node. causes log event law node ⊥
        (λ rebuild begun of.
        inl (started_before pairs words log event no_decide law rebuild begun))
        (λ above i word now calls. no_pass event passes_none above i word now))
        known

    -- it also stays right after a no
    pub calls_refused : (caller base : ℕ) → Lawful pairs words (Decide caller base false ∷ log)
        → (called : BTreeSet ℕ)
        → RightCalls called log → RightCalls called (Decide caller base false ∷ log)
    calls_refused caller base law called known =
        calls_stay log (Decide caller base false) law called
        (λ node. causes log (Decide caller base false) law node ⊥
        (λ rebuild begun of. ⊎_elim (λ old. inl old) (λ now. let no = now.0 in absurd (omega arith))
        (started_newly pairs words log caller base false law rebuild begun))
        (λ above i word now calls. absurd now))
        known

    -- if the set gets the targets of what the change starts, it is right after its yes
    pub calls_started : (caller base : ℕ) → Lawful pairs words (Decide caller base true ∷ log)
        → (old new : BTreeSet ℕ)
        → ((node : ℕ) → Holds new node ↔ (Holds old node ⊎ StartCalls (table log) base node))
        → RightCalls old log → RightCalls new (Decide caller base true ∷ log)
    calls_started caller base law old new more known =
        calls_with log (Decide caller base true) law old new (StartCalls (table log) base) more
        (λ node. causes log (Decide caller base true) law node (StartCalls (table log) base node)
        (λ rebuild begun of. ⊎_elim (λ old. inl old)
        (λ now. inr record {
          rebuild = rebuild;
          starts = now.1;
          of = started_of log (Decide caller base true) law node base rebuild now.1 of;
        })
        (started_newly pairs words log caller base true law rebuild begun))
        (λ above i word now calls. absurd now))
        (λ node k. as_target k.rebuild
        (target_stays _ _ (grows log (Decide caller base true) law node) k.rebuild node k.of)
        (start_begun pairs words log caller base k.rebuild k.starts))
        known

    -- if it gets what the word names, it is right after a pass with the word
    pub calls_passed : (caller above i word : ℕ)
        → Lawful pairs words (Pass caller above i word ∷ log) → (old new : BTreeSet ℕ)
        → ((node : ℕ) → Holds new node ↔ (Holds old node ⊎ WordCalls (table log) word node))
        → RightCalls old log → RightCalls new (Pass caller above i word ∷ log)
    calls_passed caller above i word law old new more known =
        calls_with log (Pass caller above i word) law old new (WordCalls (table log) word) more
        (λ node. causes log (Pass caller above i word) law node (WordCalls (table log) word node)
        (λ rebuild begun of. inl begun)
        (λ n j w now calls. subst (λ x. WordCalls (table log) x node) (sym now.2) calls))
        called_by known
      where
        following : Log
        following = Pass caller above i word ∷ log

        -- what the word names is called after the pass
        called_by : (node : ℕ) → WordCalls (table log) word node → IsCalled (table following) following
            node
        called_by node (names_row is) = as_child above i word (inl (refl, refl, refl)) is
        called_by node (names_rebuild rebuild is of) =
            after_rebuild above i word rebuild (inl (refl, refl, refl)) is of
