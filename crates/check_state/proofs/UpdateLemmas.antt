-- The last put or remove of a caller that was decided yes, after an event. Serves `updating.rt`.
use Rattle.std.proofs.Common.{◌≡◌, ◌≢◌, ◌↔◌, ℕ, Bool, true, false, List, [], ◌∷◌, ◌++◌, Option, refl, sym, ap, subst, inl, inr, ⊎_elim, arith}
use Rattle.std.specs.Ordering.{nat_cmp}
use Rattle.std.specs.BTreeMap as tree
use Rattle.std.specs.BTreeMap.{BTreeMap}
use Rattle.ist_core.specs.declared.pairs.Pair.{Pair}
use Rattle.ist_core.specs.declared.events.Event.{Event}
use Rattle.ist_core.specs.declared.events.Event.TheVariants.{Decide, Count}
use Rattle.ist_core.specs.LogTerms.{Snapshot, Log, Happened, Counts, Lawful, EachEnabled, state_of}
use Rattle.laws_links.proofs.DecisionLemmas.{Decides}
use Rattle.ist_core.specs.TreeTerms.{IsUpdateOf, SaysYes}
use Rattle.ist_core.specs.WordTerms.{start}
use Rattle.ist_core.proofs.AllLogLemmas.{change_there, happened_left}
use Rattle.check_events.specs.declared.pasts.LastUpdate.{LastUpdate}
use Rattle.check_events.specs.Remembering.{IsUncounted, LacksCount, KnowsUpdates}
use Rattle.check_state.specs.Entries.{Renews, CountsIn}
use Rattle.check_state.proofs.StartedLemmas.{rows_grow}
use Rattle.check_state.proofs.YesLemmas.{in_between, ChangeHere, update_stays, update_before, yes_kept, last_is}

-- the caller's entry, if there is one
abbrev pub entry : BTreeMap ℕ LastUpdate → ℕ → Option LastUpdate
entry updates caller = tree.get nat_cmp updates caller

module _ (pairs : List Pair) (words : ℕ) where
  -- the state after the log
  abbrev pub table : Log → Snapshot
  table log = state_of pairs words log

  -- each event of the log was enabled
  abbrev Ran : Log → Type 0
  Ran log = EachEnabled (start pairs words) log

  -- a change that is decided now is published
  decided_now : (log : Log) (event : Event) → Ran (event ∷ log) → (base : ℕ) (said : Bool)
      → Decides base said event → ChangeHere (table log).pieces base
  decided_now log (Decide caller b s) h base said same = grind (arith, ChangeHere)
  decided_now log event h base said none = absurd none

  -- a change that was decided is published
  decided_here : (log : Log) → Ran log → (base : ℕ) (said : Bool) → Happened (Decides base said) log
      → ChangeHere (table log).pieces base
  decided_here [] h base said none = absurd none
  decided_here (event ∷ log) h base said d =
      let here = ⊎_elim (decided_now log event h base said) (decided_here log h.0 base said) d in
      let grows = rows_grow pairs words log event h in
      let on = change_there _ _ grows base here.0 here.1 in (on.0, on.1)

  -- ---- one event

  module _ (log : Log) (event : Event) (law : Lawful pairs words (event ∷ log)) (caller : ℕ) where
    -- an update stays one
    stays_update : (base : ℕ) → IsUpdateOf (table log) caller base
        → IsUpdateOf (table (event ∷ log)) caller base
    stays_update base it = update_stays _ _ (rows_grow pairs words log event law.enabled) caller
        base it

    -- an update that was decided before the event was one then
    was_update : (base : ℕ) → Happened (Decides base true) log
        → IsUpdateOf (table (event ∷ log)) caller base → IsUpdateOf (table log) caller base
    was_update base d it =
        update_before _ _ (rows_grow pairs words log event law.enabled) caller base
        (decided_here log law.enabled.0 base true d) it

    module _ (none : ¬ (SaysYes (table (event ∷ log)) caller event)) (node base : ℕ) where
      -- if the event says no yes for the caller, an update that is uncounted after the event was
      -- uncounted before, and the event doesn't count it at the node
      shorter : IsUncounted (table (event ∷ log)) (event ∷ log) caller node base
          → IsUncounted (table log) log caller node base × ¬ (Counts caller node event)
      shorter it = at it.later it.log_is it.last it.uncounted
        where
          at : (later : Log) → event ∷ log ≡ later ++ Decide it.by base true ∷ it.earlier
              → ¬ (Happened (SaysYes (table (event ∷ log)) caller) later)
              → ¬ (Happened (Counts caller node) later)
              → IsUncounted (table log) log caller node base × ¬ (Counts caller node event)
          at [] is last uncounted = grind arith
          at (first ∷ later) is last uncounted = let same : event ≡ first = cc in
              let rest : log ≡ later ++ Decide it.by base true ∷ it.earlier = cc in
              let said = Decides base true in
              let then = in_between said later (Decide it.by base true) it.earlier (refl, refl) in
              let decided = subst (Happened said) (sym rest) then in (
                record {
                  later = later;
                  by = it.by;
                  earlier = it.earlier;
                  log_is = rest;
                  update = was_update base decided it.update;
                  last = λ y. last (inr (yes_kept _ _ caller later (λ b d k. stays_update b k) y));
                  uncounted = λ y. uncounted (inr y);
                },
                (λ now. uncounted (inl (subst (Counts caller node) same now))),
              )

      -- the last update before the event stays the last, and uncounted if the event doesn't count
      -- it
      longer : ¬ (Counts caller node event) → IsUncounted (table log) log caller node base
          → IsUncounted (table (event ∷ log)) (event ∷ log) caller node base
      longer no_count it = record {
        later = event ∷ it.later;
        by = it.by;
        earlier = it.earlier;
        log_is = ap (λ xs. event ∷ xs) it.log_is;
        update = stays_update base it.update;
        last = λ y. ⊎_elim none (λ old. it.last (yes_kept _ _ caller it.later was old)) y;
        uncounted = λ y. ⊎_elim no_count it.uncounted y;
      }
        where
          was : (b : ℕ) → Happened (Decides b true) it.later
              → IsUpdateOf (table (event ∷ log)) caller b → IsUpdateOf (table log) caller b
          was b d = let said = Decides b true in
              let then = happened_left said it.later (Decide it.by base true ∷ it.earlier) d in
              was_update b (subst (Happened said) (sym it.log_is) then)

      -- so an update is uncounted after the event exactly if it was before and isn't counted now
      uncounted_step : IsUncounted (table (event ∷ log)) (event ∷ log) caller node base
          ↔ (IsUncounted (table log) log caller node base × ¬ (Counts caller node event))
      uncounted_step = (shorter, (λ k. longer k.1 k.0))

  -- ---- the table of updates

  -- the map is right after the log
  abbrev pub RightUpdates : BTreeMap ℕ LastUpdate → Log → Type 0
  RightUpdates updates log = KnowsUpdates updates (table log) log

  module _ (log : Log) where
    -- if the entries are as a Count makes them, the map is right after it
    pub updates_counted : (caller node : ℕ) → Lawful pairs words (Count caller node ∷ log)
        → (old new : BTreeMap ℕ LastUpdate)
        → ((other : ℕ) → CountsIn caller node other (entry old other) (entry new other))
        → RightUpdates old log → RightUpdates new (Count caller node ∷ log)
    updates_counted caller node law old new counts known other at base =
        let step = uncounted_step log (Count caller node) law other (λ none. none) at base in
        let both = counts other at base in
        let it = known other at base in (
          (λ l. let k = both.0 l in step.1 (it.0 k.0, k.1)),
          (λ i. let k = step.0 i in both.1 (it.1 k.0, k.1)),
        )

    -- if they are as a yes makes them, it is right after the yes
    pub updates_renewed : (by change : ℕ) → Lawful pairs words (Decide by change true ∷ log)
        → (old new : BTreeMap ℕ LastUpdate)
        → ((caller : ℕ) → Renews (table log) change caller (entry old caller) (entry new caller))
        → RightUpdates old log → RightUpdates new (Decide by change true ∷ log)
    updates_renewed by change law old new renews known caller node base = at (renews caller)
      where
        following : Log
        following = Decide by change true ∷ log

        at : Renews (table log) change caller (entry old caller) (entry new caller)
            → LacksCount (entry new caller) node base
            ↔ IsUncounted (table following) following caller node base
        at (inl k) = let both = k.1 node base in
            let update = stays_update log (Decide by change true) law caller change k.0 in
            let last = last_is (table following) log by change caller node base update in
            ((λ l. last.0 (both.0 l)), (λ i. both.1 (last.1 i)))
        at (inr k) = let yes = Decide by change true in
            let here = decided_now log yes law.enabled change true (refl, refl) in
            let before = update_before _ _ (rows_grow pairs words log yes law.enabled) caller change
            here in
            let none = λ (y : IsUpdateOf (table following) caller change). k.0 (before y) in
            let step = uncounted_step log yes law caller none node base in
            let it = known caller node base in (
              (λ l. step.1 (it.0 (subst (λ o. LacksCount o node base) k.1 l), (λ none. none))),
              (λ i. subst (λ o. LacksCount o node base) (sym k.1) (it.1 (step.0 i).0)),
            )

    -- after an event that neither says yes nor counts the map stays right
    updates_stay : (event : Event) → Lawful pairs words (event ∷ log)
        → (updates : BTreeMap ℕ LastUpdate)
        → ((caller : ℕ) → ¬ (SaysYes (table (event ∷ log)) caller event))
        → ((caller node : ℕ) → ¬ (Counts caller node event))
        → RightUpdates updates log → RightUpdates updates (event ∷ log)
    updates_stay event law updates no_yes no_count known caller node base =
        let step = uncounted_step log event law caller (no_yes caller) node base in
        let it = known caller node base in
        ((λ l. step.1 (it.0 l, no_count caller node)), (λ i. it.1 (step.0 i).0))

    -- it also stays right after a no
    pub updates_refused : (by change : ℕ) → Lawful pairs words (Decide by change false ∷ log)
        → (updates : BTreeMap ℕ LastUpdate)
        → RightUpdates updates log → RightUpdates updates (Decide by change false ∷ log)
    updates_refused by change law updates known =
        updates_stay (Decide by change false) law updates (λ caller none. none)
        (λ caller node none. none) known

    -- and after an event that neither decides nor counts
    pub updates_kept : (event : Event) → ((c b : ℕ) (x : Bool) → event ≢ Decide c b x)
        → ((c n : ℕ) → event ≢ Count c n)
        → Lawful pairs words (event ∷ log) → (updates : BTreeMap ℕ LastUpdate)
        → RightUpdates updates log → RightUpdates updates (event ∷ log)
    updates_kept event no_decide no_count law updates known =
        updates_stay event law updates (says_none event no_decide (table (event ∷ log)))
        (counts_none event no_count) known
      where
        -- such an event says no yes
        says_none : (e : Event) → ((c b : ℕ) (x : Bool) → e ≢ Decide c b x) → (t : Snapshot)
            → (caller : ℕ) → ¬ (SaysYes t caller e)
        says_none (Decide c b x) other t caller y = absurd (other c b x refl)
        says_none e other t caller y = y

        -- and it counts nothing
        counts_none : (e : Event) → ((c n : ℕ) → e ≢ Count c n) → (caller node : ℕ)
            → ¬ (Counts caller node e)
        counts_none (Count c n) other caller node y = absurd (other c n refl)
        counts_none e other caller node y = y
