-- What each event leaves in the slots and in the rows of changes. Serves the frozen-slot law and
-- the one-parent law.
use Rattle.std.proofs.Common.{◌≡◌, ◌≢◌, ℕ, ◌+◌, ◌⊎◌, ◌==◌, if◌then◌else◌, true, false, List, ◌∷◌, Some, None, option_map, refl, sym, ap, ◌∙◌, subst, arith}
use Rattle.std.proofs.lemmas.Bool.Decides.{nat_tests}
use Rattle.ist_core.specs.Types.{Row, InnerRow, ChangeRow, Event, Install, Decide, Resolve, Count, Mark, Finish, Root, Draw, Place}
use Rattle.ist_core.specs.WordTerms.{anchor, ChangeAt, word_of, unset_word, marked_word, finished_word, Pieces, Piece, Inner, Change, row_at, with_inners, changed_at, with_slot, with_status, counted, with_decision, with_root, drawn, SlotHolds, in_row}
use Rattle.ist_core.specs.LogTerms.{Snapshot, after, decision_word, side_of, resolved, Log, state, Enabled}
use Rattle.ist_core.specs.TreeTerms.{CanInstall, CanResolve, CanPlace}
use Rattle.ist_core.proofs.MoveLemmas.{HeldLieApart}
use Rattle.ist_core.proofs.InstallLemmas.{with_installed}
use Rattle.ist_core.proofs.StepLemmas.{adds_install, adds-with_inners, rows_resolved, rows_placed, holds_installed}
use Rattle.ist_core.proofs.RoomLemmas.{slot_now, slot_written, slot_kept, no_row}
use Rattle.ist_core.proofs.NamingStepLemmas.{changed_at-fixed, installed_stands}

-- ---- the events that write a slot

-- the change of an Install is published by it
pub install_stands : (first : Snapshot) (log : Log) (caller base : ℕ) (rows : List Row)
    (h : CanInstall first log caller base rows)
    → (after (state first log) (Install caller base rows)).pieces base ≡ Some (Change h.change)
install_stands first log caller base rows h =
    grind (arith, with_installed, changed_at-fixed, installed_stands)

-- slot i of the node held the old word and now holds the new one; each other slot holds what it
-- held
pub record WritesSlot (t u : Snapshot) (node i new old : ℕ) : Type 0 where
  pub here : SlotHolds t node i old
  pub now : SlotHolds u node i new
  -- what another slot held, it still holds
  pub others : (at j w : ℕ) → SlotHolds t at j w
      → ((w ≡ old) × (at ≡ node) × (j ≡ i)) ⊎ SlotHolds u at j w

-- an Install writes its change's slot: `from` becomes the change's word
pub install_writes : (first : Snapshot) (log : Log) (caller base : ℕ) (rows : List Row)
    → (h : CanInstall first log caller base rows) → HeldLieApart (state first log)
    → (state first log).pieces anchor ≡ None → WritesSlot (state first log)
    (after (state first log) (Install caller base rows)) h.change.node h.change.index
    (word_of (ChangeAt base)) h.change.from
install_writes first log caller base rows h sound free = let t = state first log in
    let qs = with_installed t.pieces base h.change h.fresh in
    let keeps = (adds_install first log caller base h.change h.fresh h.fits
    (holds_installed first log caller base rows h) sound).keeps in
    let u = after t (Install caller base (row_at base (Change h.change) ∷ h.fresh)) in
    let word = word_of (ChangeAt base) in
    subst (λ xs. WritesSlot t (after t (Install caller base xs)) h.change.node h.change.index word
    h.change.from) (sym h.rows_are)
    record {
      here = h.in_slot;
      now = slot_now t u qs h.change.node h.change.index word h.change.from free keeps refl refl
          h.in_slot;
      others = slot_written t u qs h.change.node h.change.index word h.change.from free keeps refl
          refl h.in_slot;
    }

-- a Resolve writes its change's slot: the change's word becomes its side
pub resolve_writes : (t : Snapshot) (caller base : ℕ) → (h : CanResolve t caller base)
    → t.pieces anchor ≡ None
    → WritesSlot t (after t (Resolve caller base)) h.change.node h.change.index (side_of h.change)
    (word_of (ChangeAt base))
resolve_writes t caller base h free = let u = resolved t (Some h.change) in
    let old = word_of (ChangeAt base) in
    subst (λ x. WritesSlot t x h.change.node h.change.index (side_of h.change) old)
    (sym (rows_resolved t caller base h))
    record {
      here = h.in_slot;
      now = slot_now t u t.pieces h.change.node h.change.index (side_of h.change) old free
          (λ b p e. e) refl refl h.in_slot;
      others = slot_written t u t.pieces h.change.node h.change.index (side_of h.change) old free
          (λ b p e. e) refl refl h.in_slot;
    }

-- writing a slot of another node leaves the anchor's word
pub elsewhere : (node word old : ℕ) → node ≢ anchor → old ≡ (if node == anchor then word else old)
elsewhere node word old ne = grind (arith, nat_tests)

-- a Place writes a slot of the root: Unset becomes its word
pub place_writes : (t : Snapshot) (caller rebuild i word : ℕ) (rows : List Row)
    → (h : CanPlace t caller rebuild i word rows) → HeldLieApart t → t.pieces anchor ≡ None
    → WritesSlot t (after t (Place caller rebuild i word rows)) h.root i word unset_word
place_writes t caller rebuild i word rows h sound free =
    let u = after t (Place caller rebuild i word rows) in let qs = with_inners t.pieces rows in
    let keeps = (adds-with_inners t caller rows h.held sound).keeps in
    let here : SlotHolds t h.root i unset_word = in_row h.root_row h.root_published h.free in
    let same = elsewhere h.root word t.anchor
    (λ e. no_row t.pieces h.root h.root_row free e h.root_published) in
    record {
      here = here;
      now = slot_now t u qs h.root i word unset_word free keeps
          (rows_placed t caller rebuild i word rows h) same here;
      others = slot_written t u qs h.root i word unset_word free keeps
          (rows_placed t caller rebuild i word rows h) same here;
    }

-- ---- the others

-- every event but an Install, a Resolve and a Place
abbrev pub WritesNoSlot : Event → Type 0
WritesNoSlot (Install caller change rows) = ⊥
WritesNoSlot (Resolve caller change) = ⊥
WritesNoSlot (Place caller rebuild i word rows) = ⊥
WritesNoSlot _ = Unit {0}

-- the change of a row keeps its slots, if it has any
unfoldable KeepsSlots : (Piece → Piece) → Type 0
KeepsSlots f = (r : InnerRow) → (s : InnerRow) × (f (Inner r) ≡ Inner s) × (s.slots ≡ r.slots)

-- an inner row keeps its slots when another field changes
inner_kept : (ps : Pieces) (at : ℕ) (f : Piece → Piece) → KeepsSlots f → (base : ℕ) (r : InnerRow)
    → ps base ≡ Some (Inner r)
    → (s : InnerRow) × (changed_at ps at f base ≡ Some (Inner s)) × (s.slots ≡ r.slots)
unfolding KeepsSlots
inner_kept ps at f keeps base r e =
    elim (base == at) as (λ v. (s : InnerRow) ×
    ((if v then option_map f (ps base) else ps base) ≡ Some (Inner s)) × (s.slots ≡ r.slots)) [
      | true ↦ let it = keeps r in (it.0, ap (option_map f) e ∙ ap (λ x. Some x) it.1, it.2)
      | false ↦ (r, e, refl)
    ]

slots_changed : (t u : Snapshot) (at : ℕ) (f : Piece → Piece) → u.anchor ≡ t.anchor
    → u.pieces ≡ changed_at t.pieces at f → KeepsSlots f → (node i w : ℕ) → SlotHolds t node i w
    → SlotHolds u node i w
slots_changed t u at f word pieces keeps node i w h =
    slot_kept t u word (λ base r e. subst
    (λ ps. (s : InnerRow) × (ps base ≡ Some (Inner s)) × (s.slots ≡ r.slots)) (sym pieces)
    (inner_kept t.pieces at f keeps base r e)) node i w h

slots_same : (t u : Snapshot) → u.anchor ≡ t.anchor → u.pieces ≡ t.pieces → (node i w : ℕ)
    → SlotHolds t node i w → SlotHolds u node i w
slots_same t u word pieces node i w h = slot_kept t u word
    (λ base r e. (r, subst (λ ps. ps base ≡ Some (Inner r)) (sym pieces) e, refl)) node i w h

-- an event that writes no slot leaves each as it is
pub slot_stays : (first : Snapshot) (log : Log) (event : Event) → Enabled first log event
    → HeldLieApart (state first log) → WritesNoSlot event → (node i w : ℕ)
    → SlotHolds (state first log) node i w → SlotHolds (state first (event ∷ log)) node i w
unfolding KeepsSlots
slot_stays first log (Install caller change rows) h s none = absurd none
slot_stays first log (Resolve caller change) h s none = absurd none
slot_stays first log (Place caller rebuild i word rows) h s none = absurd none
slot_stays first log (Decide caller base said) h s none = slots_changed _ _ base
    (with_decision (decision_word said)) refl refl (λ r. (r, refl, refl))
slot_stays first log (Count caller node) h s none = slots_changed _ _ node counted refl refl
    (λ r. (record r { count = r.count + 1 }, refl, refl))
slot_stays first log (Mark caller node) h s none = slots_changed _ _ node (with_status marked_word)
    refl refl (λ r. (record r { status = marked_word }, refl, refl))
slot_stays first log (Finish caller node keys) h s none = slots_changed _ _ node
    (with_status (finished_word keys)) refl refl
    (λ r. (record r { status = finished_word keys }, refl, refl))
slot_stays first log (Draw caller rebuild part) h s none = slots_changed _ _ rebuild drawn refl refl
    (λ r. (r, refl, refl))
slot_stays first log (Root caller rebuild word rows) h s none = let t = state first log in
    let keeps = (adds-with_inners t caller rows h.held s).keeps in
    slot_kept t (after t (Root caller rebuild word rows)) refl
    (λ base r e. inner_kept (with_inners t.pieces rows) rebuild (with_root word)
    (λ x. (x, refl, refl)) base r (keeps base (Inner r) e))
slot_stays first log _ h s none = slots_same _ _ refl refl

-- ---- changes

-- every event but a Decide
abbrev pub IsNoDecide : Event → Type 0
IsNoDecide (Decide caller change said) = ⊥
IsNoDecide _ = Unit {0}

-- an event that decides nothing leaves each change as it is
pub change_stays : (first : Snapshot) (log : Log) (event : Event) → Enabled first log event
    → HeldLieApart (state first log) → IsNoDecide event → (at : ℕ) (r : ChangeRow)
    → (state first log).pieces at ≡ Some (Change r)
    → (state first (event ∷ log)).pieces at ≡ Some (Change r)
change_stays first log (Install caller base rows) h s none at r e = let t = state first log in
    let qs = with_installed t.pieces base h.change h.fresh in
    let keeps = (adds_install first log caller base h.change h.fresh h.fits
    (holds_installed first log caller base rows h) s).keeps in
    subst (λ xs. (after t (Install caller base xs)).pieces at ≡ Some (Change r)) (sym h.rows_are)
    (changed_at-fixed qs h.change.node at (with_slot h.change.index (word_of (ChangeAt base)))
    (Change r) (keeps at (Change r) e) refl)
change_stays first log (Decide caller base said) h s none at r e = absurd none
change_stays first log (Resolve caller base) h s none at r e =
    grind (arith, rows_resolved, changed_at-fixed)
change_stays first log (Count caller node) h s none at r e = grind (arith, changed_at-fixed)
change_stays first log (Mark caller node) h s none at r e = grind (arith, changed_at-fixed)
change_stays first log (Finish caller node keys) h s none at r e = grind (arith, changed_at-fixed)
change_stays first log (Draw caller rebuild part) h s none at r e = grind (arith, changed_at-fixed)
change_stays first log (Root caller rebuild word rows) h s none at r e =
    grind (arith, changed_at-fixed, adds-with_inners)
change_stays first log (Place caller rebuild i word rows) h s none at r e =
    grind (arith, rows_placed, changed_at-fixed, adds-with_inners)
change_stays first log _ h s none at r e = e
