-- What the code tests of a change and its slot is what the conditions say. Serves `nodes.rt` and
-- `deciding.rt`.
use Rattle.std.proofs.Common.{◌≡◌, ◌↔◌, ◌<◌, ◌≢◌, ℕ, IsTrue, Bool, nat_eq, Some, subst, ◌∙◌, Option, None, sym, ap, ◌≤◌, is_some, true≢false, refl, arith, inl, inr}
use Rattle.ist_core.specs.declared.states.InnerRow.{InnerRow}
use Rattle.ist_core.specs.declared.states.ChangeRow.{ChangeRow}
use Rattle.ist_core.specs.declared.states.RebuildRow.{RebuildRow}
use Rattle.ist_core.specs.WordTerms.{anchor, Inner, Change, IsOpen, anchor_is, row_is, SlotHolds, in_anchor, in_row, ChangeAt, word_of, Piece, Leaf, Rebuild, as_inner, as_change, as_rebuild, IsChildFor}
use Rattle.ist_core.specs.LogTerms.{Snapshot, Log}
use Rattle.ist_core.specs.TreeTerms.{MayBe, CanOkay, CanDecide, CanResolve}
use Rattle.ist_core.proofs.AllWordLemmas.{same_change, same_inner}
use Rattle.check_events.specs.Mirroring.{RowHolds, Mirrors}
use Rattle.check_fairness.proofs.AnswerLemmas.{is_equal, iff_trans}
use Rattle.std.specs.Ordering.{nat_cmp}
use Rattle.check_events.specs.declared.replicas.Replica.{Replica}
use Rattle.std.specs.BTreeMap.{BTreeMap}
use Rattle.check_events.specs.declared.pasts.Slot.{Slot}
use Rattle.check_events.specs.Remembering.{SlotsRise, KnowsSlots}
use Rattle.check_events.specs.Ways.{Climbs, at_top, up, ClimbsBy, here, higher, IsJump}
use Rattle.check_events.proofs.WayUpLemmas.{comes_is}
use Rattle.std.specs.BTreeMap as tree

-- a node other than the anchor is open exactly if its row is
pub open_row : (t : Snapshot) (node : ℕ) (r : InnerRow) → node ≢ anchor
    → t.pieces node ≡ Some (Inner r) → IsTrue (nat_eq r.status 0) ↔ IsOpen t node
open_row t node r far e = ((λ y. row_is r e (is_equal r.status 0 y)), back)
  where
    back : IsOpen t node → IsTrue (nat_eq r.status 0)
    back (anchor_is i) = absurd (far i)
    back (row_is s i k) = grind (arith, same_inner)

-- a slot is the anchor's, or one of an inner row
pub slot_of_row : (t : Snapshot) (node i word : ℕ)
    → ¬ ((node ≡ anchor) × (i ≡ 0) × (t.anchor ≡ word)) → RowHolds t node i word ↔ SlotHolds t node
    i word
slot_of_row t node i word far = ((λ h. in_row h.row h.published h.in_slot), back)
  where
    back : SlotHolds t node i word → RowHolds t node i word
    back (in_anchor a b c) = absurd (far (a, b, c))
    back (in_row r e k) = record { row = r; published = e; in_slot = k }

-- the anchor's word is in its slot
pub slot_of_anchor : (t : Snapshot) (node i word : ℕ) → (node ≡ anchor) × (i ≡ 0)
    × (t.anchor ≡ word) → SlotHolds t node i word
slot_of_anchor t node i word h = in_anchor h.0 h.1 h.2

-- what remains to be checked of an undecided change, for each of its events
module _ (t : Snapshot) (caller base : ℕ) (change : ChangeRow) (e : t.pieces base
    ≡ Some (Change change)) (known : caller < t.callers) where
  -- an undecided change may get an Okay exactly if its node is open
  pub okay_is : change.decision ≡ 0 → IsOpen t change.node ↔ CanOkay t caller base
  okay_is u = (
    (λ o. record {
      known = known;
      change = change;
      pending = record { published = e; unset = u };
      node_open = o;
    }),
    (λ h. subst (λ x. IsOpen t x.node) (same_change (t.pieces base) h.change change
        h.pending.published e) h.node_open),
  )

  -- an undecided change may be decided this way exactly if its outcome allows it
  pub decision_is : (log : Log) (said : Bool) → change.decision ≡ 0
      → MayBe t log base change said ↔ CanDecide t log caller base said
  decision_is log said u = grind (arith, same_change)

  -- a decided change may be resolved exactly if its slot holds it
  pub resolve_is : change.decision ≢ 0
      → SlotHolds t change.node change.index (word_of (ChangeAt base)) ↔ CanResolve t caller base
  resolve_is u = (
    (λ o. record { known = known; change = change; published = e; decided = u; in_slot = o }),
    (λ h. subst (λ x. SlotHolds t x.node x.index (word_of (ChangeAt base)))
        (same_change (t.pieces base) h.change change h.published e) h.in_slot),
  )

-- ---- what a replica says of the snapshot that it mirrors: which rows are published.

as_inner-some : (o : Option Piece) (r : InnerRow) → as_inner o ≡ Some r → o ≡ Some (Inner r)
as_inner-some (Some (Inner s)) r e = let i : s ≡ r = cc in ap (λ x. Some (Inner x)) i
as_inner-some (Some (Leaf s)) r e = cc
as_inner-some (Some (Change s)) r e = cc
as_inner-some (Some (Rebuild s)) r e = cc
as_inner-some None r e = cc

as_change-some : (o : Option Piece) (r : ChangeRow) → as_change o ≡ Some r → o ≡ Some (Change r)
as_change-some (Some (Change s)) r e = let i : s ≡ r = cc in ap (λ x. Some (Change x)) i
as_change-some (Some (Leaf s)) r e = cc
as_change-some (Some (Inner s)) r e = cc
as_change-some (Some (Rebuild s)) r e = cc
as_change-some None r e = cc

as_rebuild-some : (o : Option Piece) (r : RebuildRow) → as_rebuild o ≡ Some r → o ≡ Some (Rebuild r)
as_rebuild-some (Some (Rebuild s)) r e = let i : s ≡ r = cc in ap (λ x. Some (Rebuild x)) i
as_rebuild-some (Some (Leaf s)) r e = cc
as_rebuild-some (Some (Inner s)) r e = cc
as_rebuild-some (Some (Change s)) r e = cc
as_rebuild-some None r e = cc

module _ (s : Replica) (t : Snapshot) (base : ℕ) (h : Mirrors s t) where
  -- a row that the replica has is published
  pub inner_stands : (r : InnerRow) → tree.get nat_cmp s.inners base ≡ Some r
      → t.pieces base ≡ Some (Inner r)
  inner_stands r e = as_inner-some (t.pieces base) r (sym (h.inners base) ∙ e)

  -- a change in the replica is published
  pub change_stands : (r : ChangeRow) → tree.get nat_cmp s.changes base ≡ Some r
      → t.pieces base ≡ Some (Change r)
  change_stands r e = as_change-some (t.pieces base) r (sym (h.changes base) ∙ e)

  -- a rebuild in the replica is published
  pub rebuild_stands : (r : RebuildRow) → tree.get nat_cmp s.rebuilds base ≡ Some r
      → t.pieces base ≡ Some (Rebuild r)
  rebuild_stands r e = as_rebuild-some (t.pieces base) r (sym (h.rebuilds base) ∙ e)

  -- a row that the replica lacks isn't published
  pub no_inner : tree.get nat_cmp s.inners base ≡ None → (r : InnerRow)
      → ¬ (t.pieces base ≡ Some (Inner r))
  no_inner e r i = let k = sym e ∙ h.inners base ∙ ap as_inner i in cc

  -- if the replica has no change at the base, none is published there
  pub no_change : tree.get nat_cmp s.changes base ≡ None → (r : ChangeRow)
      → ¬ (t.pieces base ≡ Some (Change r))
  no_change e r i = let k = sym e ∙ h.changes base ∙ ap as_change i in cc

-- ---- steps and jumps of a walk up by the slots in which nodes hung. Serves `climbing.rt`.

module _ (slots : BTreeMap ℕ Slot) (n : ℕ) (slot : Slot) (e : tree.get nat_cmp slots n ≡ Some slot)
  where
    -- the way up from a node continues from its slot
    pub comes_on : (x : ℕ) → n ≢ x → ClimbsBy slots x slot.node ↔ ClimbsBy slots x n
    comes_on x far = ((λ h. higher slot e h), (λ h. out n h far e))
      where
        out : (n : ℕ) → ClimbsBy slots x n → n ≢ x → tree.get nat_cmp slots n ≡ Some slot
            → ClimbsBy slots x slot.node
        out _ (here s i) f j = absurd (f refl)
        out _ (higher s i h) f j = grind arith

    -- if the node's slot is the key's, its way up is for the key exactly if its parent's is
    pub climbs_on : (t : Snapshot) (key : ℕ) → n ≢ anchor → IsChildFor t slot.node key slot.index
        → Climbs slots t key slot.node ↔ Climbs slots t key n
    climbs_on t key far child = ((λ h. up slot e child h), (λ h. out n h far e))
      where
        out : (n : ℕ) → Climbs slots t key n → n ≢ anchor → tree.get nat_cmp slots n ≡ Some slot
            → Climbs slots t key slot.node
        out _ at_top f j = absurd (f refl)
        out _ (up s i g h) f j = grind arith

    -- if the node's slot is not the one for the key, its way up is not for the key
    pub climbs_off : (t : Snapshot) (key : ℕ) → n ≢ anchor → ¬ (IsChildFor t slot.node key slot.index)
        → ¬ (Climbs slots t key n)
    climbs_off t key far other h = out n h far e
      where
        out : (n : ℕ) → Climbs slots t key n → n ≢ anchor → tree.get nat_cmp slots n ≡ Some slot → ⊥
        out _ at_top f j = f refl
        out _ (up s i g h) f j = let same : s ≡ slot = cc in other
            (subst (λ y. IsChildFor t y.node key y.index) same g)

-- if the table has no slot for a node below the anchor, its way up doesn't reach the anchor
pub climbs_none : (slots : BTreeMap ℕ Slot) (t : Snapshot) (key n : ℕ) → n ≢ anchor
    → tree.get nat_cmp slots n ≡ None → ¬ (Climbs slots t key n)
climbs_none slots t key _ far none at_top = far refl
climbs_none slots t key n far none (up s e f h) = let no : ⊥ = cc in no

-- a node without a slot has no way up
pub comes_none : (slots : BTreeMap ℕ Slot) (row n : ℕ) → tree.get nat_cmp slots n ≡ None
    → ¬ (ClimbsBy slots row n)
comes_none slots _ n none (here s e) = let no : ⊥ = cc in no
comes_none slots row n none (higher s e h) = let no : ⊥ = cc in no

-- the way up from a row passes the row itself exactly if the table has a slot for it
pub comes_here : (slots : BTreeMap ℕ Slot) (row : ℕ)
    → IsTrue (is_some (tree.get nat_cmp slots row)) ↔ ClimbsBy slots row row
comes_here slots row = at (tree.get nat_cmp slots row) refl
  where
    at : (o : Option Slot) → tree.get nat_cmp slots row ≡ o → IsTrue (is_some o) ↔ ClimbsBy slots row row
    at (Some slot) e = ((λ _. here slot e), (λ _. refl))
    at None e = ((λ y. absurd (true≢false (sym y))), (λ h. absurd (comes_none slots row row e h)))

-- ---- jumps on the way up

module _ (slots : BTreeMap ℕ Slot) (rise : SlotsRise slots) where
  -- a row that the way up passes has no higher base than the node
  pub comes_low : (row n : ℕ) → ClimbsBy slots row n → row ≤ n
  comes_low _ n (here s e) = omega arith
  comes_low row n (higher s e h) =
      let rest = comes_low row s.node h in let step = rise n s e in omega arith

  -- a row that a way up passes has a higher base than the anchor
  pub comes_high : (row n : ℕ) → ClimbsBy slots row n → anchor < row
  comes_high _ n (here s e) = let step = rise n s e in omega arith
  comes_high row n (higher s e h) = comes_high row s.node h

  -- if the way up passes one row, it passes another with no higher base exactly if the way up from
  -- the first does
  pub comes_via : (row by n : ℕ) → row ≤ by → ClimbsBy slots by n
      → ClimbsBy slots row by ↔ ClimbsBy slots row n
  comes_via row _ n low (here s e) = ((λ h. h), (λ h. h))
  comes_via row by n low (higher s e h) = let under = comes_low by s.node h in
      let step = rise n s e in let far : n ≢ row = omega arith in
      iff_trans (comes_via row by s.node low h) (comes_on slots n s e row far)

-- a jump leads up, as far as it isn't past the row
pub jump_leads : (first : Snapshot) (log : Log) (slots : BTreeMap ℕ Slot)
    → KnowsSlots slots first log → (row node jump : ℕ) → IsJump first log node jump → row ≤ jump
    → ClimbsBy slots row jump ↔ ClimbsBy slots row node
jump_leads first log slots k row node jump (inl fixed) low = (
  (λ h. let high = comes_high slots k.rises row jump h in absurd (omega arith)),
  (λ h. let high = comes_high slots k.rises row node h in absurd (omega arith)),
)
jump_leads first log slots k row node jump (inr on) low =
    comes_via slots k.rises row jump node low ((comes_is first log slots k node jump).1 on)
