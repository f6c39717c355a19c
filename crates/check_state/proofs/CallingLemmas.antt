-- What the code adds to the set of called nodes is what the event calls. Serves `calling.rt`.
use Rattle.std.proofs.Common.{◌≡◌, ◌∙◌, ◌⊎◌, ◌↔◌, ℕ, Some, sym, ap, subst, inl, inr, ⊎_elim, ◌≢◌, true, false, List, ◌∷◌, refl, arith}
use Rattle.ist_core.specs.declared.states.ChangeRow.{ChangeRow}
use Rattle.ist_core.specs.declared.pairs.Pair.{Pair}
use Rattle.ist_core.specs.declared.events.Event.{Event}
use Rattle.ist_core.specs.declared.events.Event.TheVariants.{Decide}
use Rattle.ist_core.specs.WordTerms.{RebuildAt, ref_of, start_kind, Change, InnerAt, decided_yes, start}
use Rattle.ist_core.specs.LogTerms.{Snapshot, Log, same_log, one_event, CanOpen, EachEnabled, state_of}
use Rattle.ist_core.specs.TreeTerms.{HasTarget, IsChild, Linked}
use Rattle.ist_core.proofs.AllWordLemmas.{same_change, changed_at-same}
use Rattle.check_events.specs.Passing.{TargetFinishedWith}
use Rattle.check_state.specs.Remembered.{StartsFinished}
use Rattle.check_state.specs.Calls.{StartCalls, WordCalls, names_row, names_rebuild}
use Rattle.std.specs.BTreeMap.{BTreeMap}
use Rattle.ist_core.proofs.AllLogLemmas.{ever_now}
use Rattle.laws_links.proofs.ReadStepLemmas.{read_child}
use Rattle.laws_links.proofs.LinkLemmas.{yes_linked_after}
use Rattle.laws_links.proofs.ReadEventLemmas.{decide_reads}
use Rattle.check_events.specs.declared.pasts.Slot.{Slot}
use Rattle.check_events.specs.declared.replicas.Replica.{Replica}
use Rattle.check_events.specs.Mirroring.{Mirrors}
use Rattle.check_events.specs.Remembering.{WasChild, KnowsSlots}
use Rattle.check_state.specs.Hanging.{Hangs, Brings, BringsInPlace, HasSlot, AddsSlots, HangsOnce}
use Rattle.check_state.proofs.HangingLemmas.{hangs_child, hangs_linked}
use Rattle.check_state.proofs.LinkingLemmas.{HangsNew, linked_child_back}
use Rattle.check_state.proofs.YesLemmas.{hangs_once, knows, of_linked}

-- what is added may be said in other words
pub more_words : {X A P Q : Type 0} → (X ↔ (A ⊎ P)) → (P ↔ Q) → X ↔ (A ⊎ Q)
more_words x same = grind arith

-- a change that starts a rebuild calls the rebuild's targets
pub start_calls : (t : Snapshot) (base rebuild node : ℕ) (row : ChangeRow)
    → t.pieces base ≡ Some (Change row) → row.kind ≡ start_kind
    → ref_of row.to ≡ Some (RebuildAt rebuild) → HasTarget t rebuild node ↔ StartCalls t base node
start_calls t base rebuild node row e kind to = grind (arith, same_change)

-- and it starts one whose target is finished, if that rebuild's is
pub start_finished : (t : Snapshot) (base rebuild k : ℕ) (row : ChangeRow)
    → t.pieces base ≡ Some (Change row) → row.kind ≡ start_kind
    → ref_of row.to ≡ Some (RebuildAt rebuild)
    → TargetFinishedWith t rebuild k ↔ StartsFinished t base k
start_finished t base rebuild k row e kind to = grind (arith, same_change)

-- a word of a rebuild calls the rebuild's targets
pub rebuild_calls : (t : Snapshot) (word rebuild node : ℕ) → ref_of word ≡ Some (RebuildAt rebuild)
    → HasTarget t rebuild node ↔ WordCalls t word node
rebuild_calls t word rebuild node e = ((λ of. names_rebuild rebuild e of), (λ calls. at calls))
  where
    at : WordCalls t word node → HasTarget t rebuild node
    at (names_row is) = absurd (cc)
    at (names_rebuild other is of) = grind arith

-- ---- the table of slots after an event: unchanged, except that after a yes it also has what the change
-- brings. Serves `linking.rt`.

-- a no is no yes
pub no_is_no_yes : (caller base by other : ℕ) → Decide caller base false ≢ Decide by other true
no_is_no_yes caller base by other e = cc

module _ (pairs : List Pair) (words : ℕ) (opens : CanOpen pairs words) where
  -- the state after a log
  abbrev following : Log → Snapshot
  following log = state_of pairs words log

  -- ---- an event that is no yes

  -- the table stays
  pub links_kept : (log : Log) (event : Event) → EachEnabled (start pairs words) (event ∷ log)
      → ((caller base : ℕ) → event ≢ Decide caller base true)
      → (slots : BTreeMap ℕ Slot) → KnowsSlots slots (start pairs words) log
      → KnowsSlots slots (start pairs words) (event ∷ log)
  links_kept log event h other slots known = knows pairs words opens (event ∷ log) h slots
      (λ node i child. ((λ e. inr ((known.entries node i child).0 e)), (λ w. back node i child w)))
    where
      back : (node i child : ℕ) → WasChild (start pairs words) (event ∷ log) node i child
          → HasSlot slots node i child
      back node i child (inr before) = (known.entries node i child).1 before
      back node i child (inl now) = ⊎_elim
          (λ was. (known.entries node i child).1
          (ever_now (start pairs words) (λ u. Linked u node × IsChild u node i child) log was))
          (λ n. absurd (other n.brings.caller n.brings.base n.brings.event_is))
          (linked_child_back pairs words opens log event h node i child now.0 now.1)

  -- ---- a yes

  module _ (log : Log) (caller base : ℕ)
      (h : EachEnabled (start pairs words) (Decide caller base true ∷ log)) where
    -- the state after the event
    abbrev after_yes : Snapshot
    after_yes = following (Decide caller base true ∷ log)

    -- the change after the event is the one before it, with its decision
    decided_change : (x : ChangeRow) → (following log).pieces base ≡ Some (Change x)
        → after_yes.pieces base ≡ Some (Change record x { decision = decided_yes })
    decided_change x e = grind (arith, changed_at-same)

    change_is : (x : ChangeRow)
        → after_yes.pieces base ≡ Some (Change x)
        → x ≡ record h.1.change { decision = decided_yes }
    change_is x e = grind (arith, same_change, decided_change)

    -- the inner row that the change puts in is the logical child in its slot
    pub brings_in_place : BringsInPlace after_yes base
    brings_in_place x row e to = let same = change_is x e in
        let read =
        decide_reads pairs words opens log caller base h h.1.change h.1.pending.published
        (InnerAt row) (ap (λ (c : ChangeRow). ref_of c.to) (sym same) ∙ to) in
        subst (λ (c : ChangeRow). IsChild after_yes c.node c.index row) (sym same)
        (read_child after_yes h.1.change.node h.1.change.index row (InnerAt row) read refl)

    -- what it brings is linked
    brings_linked : (node i child : ℕ) → Brings after_yes base node i child
        → Linked after_yes node × IsChild after_yes node i child
    brings_linked node i child b =
        let l =
        yes_linked_after pairs words opens log caller base h h.1.change h.1.pending.published in
        let same = sym (change_is b.change b.published) in
        let top = subst (λ (c : ChangeRow). Linked after_yes c.node) same l in (
          hangs_linked after_yes b.change.node b.change.index node i child top b.hangs,
          hangs_child after_yes b.change.node b.change.index node i child b.hangs,
        )

    -- what hangs newly it brings
    new_brings : (node i child : ℕ)
        → HangsNew pairs words opens log (Decide caller base true) node i child
        → Brings after_yes base node i child
    new_brings node i child n = grind (arith, decided_change)

    -- before the table is brought forward, logical children hang once
    pub once_before : (slots : BTreeMap ℕ Slot) → KnowsSlots slots (start pairs words) log
        → HangsOnce slots after_yes
    once_before slots known = hangs_once pairs words opens log (Decide caller base true ∷ log)
        (one_event (Decide caller base true) same_log) h slots
        (of_linked pairs words opens slots log known)

    -- with what the change brings the table is right after the event
    pub links_more : (old new : BTreeMap ℕ Slot) → KnowsSlots old (start pairs words) log
        → AddsSlots old new (Brings after_yes base)
        → KnowsSlots new (start pairs words) (Decide caller base true ∷ log)
    links_more old new known adds = knows pairs words opens (Decide caller base true ∷ log) h new
        (λ node i child. (
          (λ e. ⊎_elim (λ o. inr ((known.entries node i child).0 o))
              (λ b. inl (brings_linked node i child b)) ((adds node i child).0 e)),
          (λ w. (adds node i child).1 (back node i child w)),
        ))
      where
        back : (node i child : ℕ)
            → WasChild (start pairs words) (Decide caller base true ∷ log) node i child
            → HasSlot old node i child ⊎ Brings after_yes base node i child
        back node i child (inr before) = inl ((known.entries node i child).1 before)
        back node i child (inl now) = ⊎_elim
            (λ was. inl ((known.entries node i child).1
            (ever_now (start pairs words) (λ v. Linked v node × IsChild v node i child) log was)))
            (λ n. inr (new_brings node i child n))
            (linked_child_back pairs words opens log (Decide caller base true) h node i child now.0
            now.1)

-- what one row brings in, in the words of its change
pub brings_row : (t : Snapshot) (base row : ℕ) (x : ChangeRow) → t.pieces base ≡ Some (Change x)
    → ref_of x.to ≡ Some (InnerAt row)
    → (old new : BTreeMap ℕ Slot) → AddsSlots old new (Hangs t x.node x.index)
    → AddsSlots old new (Brings t base)
brings_row t base row x e to old new adds node i child = (
  (λ h. ⊎_elim (λ o. inl o)
      (λ k. inr record { change = x; published = e; row = row; to = to; hangs = k })
      ((adds node i child).0 h)),
  (λ h. (adds node i child).1
      (⊎_elim (λ o. inl o)
      (λ b. inr (subst (λ (c : ChangeRow). Hangs t c.node c.index node i child)
      (same_change (t.pieces base) b.change x b.published e) b.hangs))
      h)),
)

-- the table is right after a yes, with what its change brings
pub links_by : (pairs : List Pair) (words : ℕ) (opens : CanOpen pairs words) (log : Log)
    (event : Event) (by base : ℕ) (replica : Replica) (old new : BTreeMap ℕ Slot)
    → event ≡ Decide by base true → EachEnabled (start pairs words) (event ∷ log)
    → Mirrors replica (state_of pairs words (event ∷ log)) → KnowsSlots old (start pairs words) log
    → ((t : Snapshot) → Mirrors replica t → HangsOnce old t → BringsInPlace t base
    → AddsSlots old new (Brings t base))
    → KnowsSlots new (start pairs words) (event ∷ log)
links_by pairs words opens log event by base replica old new is law mirrors known exact =
    let all = subst (λ e. EachEnabled (start pairs words) (e ∷ log)) is law in
    let here = subst (λ e. Mirrors replica (state_of pairs words (e ∷ log))) is mirrors in
    subst (λ e. KnowsSlots new (start pairs words) (e ∷ log)) (sym is)
    (links_more pairs words opens log by base all old new known
    (exact (state_of pairs words (Decide by base true ∷ log)) here
    (once_before pairs words opens log by base all old known)
    (brings_in_place pairs words opens log by base all)))
