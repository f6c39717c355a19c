-- The conjunct `names`: each word that names a row names a published one of its kind, and an inner
-- row above its node.
-- Serves the order law, and each law that follows a word.
use Rattle.std.proofs.Common.{◌≡◌, ℕ, ◌<◌, slice_get, Option, Some, None, sym, subst, ⊎_elim, arith}
use Rattle.ist_core.specs.Types.{LeafRow, InnerRow, ChangeRow, RebuildRow}
use Rattle.ist_core.specs.WordTerms.{anchor, Ref, Empty, Unset, LeafAt, InnerAt, ChangeAt, RebuildAt, ref_of, Pieces, Piece, Leaf, Inner, Change, Rebuild, changed_at, with_slot, with_status, counted, with_decision, drawn, SlotHolds, in_anchor, in_row}
use Rattle.ist_core.specs.LogTerms.{Snapshot}
use Rattle.ist_core.specs.TreeTerms.{AllGrow}
use Rattle.ist_core.proofs.OptionLemmas.{changed_at-some}
use Rattle.ist_core.proofs.GrowingLemmas.{leaf_there, inner_there, change_there, rebuild_there}
use Rattle.ist_core.proofs.StepLemmas.{Adds}
use Rattle.ist_core.proofs.RoomLemmas.{get-set_some}

-- ---- what a word may name

-- there is a leaf at the base
abbrev pub LeafHere : Pieces → ℕ → Type 0
LeafHere ps base = (r : LeafRow) × (ps base ≡ Some (Leaf r))

-- there is an inner row at the base
abbrev pub InnerHere : Pieces → ℕ → Type 0
InnerHere ps base = (r : InnerRow) × (ps base ≡ Some (Inner r))

-- there is a rebuild for slot i of the node at the base
pub record IsRebuildFor (ps : Pieces) (node i base : ℕ) : Type 0 where
  pub row : RebuildRow
  pub published : ps base ≡ Some (Rebuild row)
  pub parent : row.parent ≡ node
  pub index : row.index ≡ i

-- there is a change of slot i of the node at the base
pub record IsChangeFor (ps : Pieces) (node i base : ℕ) : Type 0 where
  pub row : ChangeRow
  pub published : ps base ≡ Some (Change row)
  pub node_is : row.node ≡ node
  pub index : row.index ≡ i

-- what a change of slot i of the node may take from it or put into it
abbrev pub SideNames : Pieces → ℕ → ℕ → Option Ref → Type 0
SideNames ps node i (Some Empty) = Unit {0}
SideNames ps node i (Some (LeafAt base)) = LeafHere ps base
SideNames ps node i (Some (InnerAt base)) = (node < base) × InnerHere ps base
SideNames ps node i (Some (RebuildAt base)) = IsRebuildFor ps node i base
SideNames ps node i _ = ⊥

-- what slot i of the node may hold: also a change of this slot, or nothing yet
abbrev pub SlotNames : Pieces → ℕ → ℕ → Option Ref → Type 0
SlotNames ps node i (Some Unset) = Unit {0}
SlotNames ps node i (Some (ChangeAt base)) = IsChangeFor ps node i base
SlotNames ps node i ref = SideNames ps node i ref

-- what the root of a rebuild of the target may be
abbrev pub RootNames : Pieces → ℕ → Option Ref → Type 0
RootNames ps target (Some Unset) = Unit {0}
RootNames ps target (Some Empty) = Unit {0}
RootNames ps target (Some (LeafAt base)) = LeafHere ps base
RootNames ps target (Some (InnerAt base)) = (target < base) × InnerHere ps base
RootNames ps target _ = ⊥

-- each word of the row names what it may
abbrev pub RowNames : Pieces → ℕ → Piece → Type 0
RowNames ps base (Leaf r) = Unit {0}
RowNames ps base (Inner r) = (i word : ℕ) → slice_get r.slots i ≡ Some word → SlotNames ps base i
    (ref_of word)
RowNames ps base (Change r) = SideNames ps r.node r.index (ref_of r.from) × SideNames ps r.node
    r.index (ref_of r.to)
RowNames ps base (Rebuild r) = (r.parent < r.target) × InnerHere ps r.target × RootNames ps r.target
    (ref_of r.root)

-- the words of each row of the second name rows of the first
unfoldable pub AllName : Pieces → Pieces → Type 0
AllName qs ps = (base : ℕ) (p : Piece) → ps base ≡ Some p → RowNames qs base p

-- each word of the table names what it may
pub record WordsName (t : Snapshot) : Type 0 where
  -- the words of each published row name what they may
  pub rows : (base : ℕ) (p : Piece) → t.pieces base ≡ Some p → RowNames t.pieces base p
  pub anchor_slot : SlotNames t.pieces anchor 0 (ref_of t.anchor)

-- ---- growing keeps names

-- a leaf is still at its base when rows have grown
pub leaf_here_grows : (ps qs : Pieces) → AllGrow ps qs → (base : ℕ) → LeafHere ps base
    → LeafHere qs base
leaf_here_grows ps qs g base h = (h.0, leaf_there ps qs g base h.0 h.1)

-- an inner row is still at its base when rows have grown
pub inner_here_grows : (ps qs : Pieces) → AllGrow ps qs → (base : ℕ) → InnerHere ps base
    → InnerHere qs base
inner_here_grows ps qs g base h = let it = inner_there ps qs g base h.0 h.1 in (it.0, it.1)

-- a rebuild for a slot is still at its base when rows have grown
pub rebuild_for_grows : (ps qs : Pieces) → AllGrow ps qs → (node i base : ℕ)
    → IsRebuildFor ps node i base → IsRebuildFor qs node i base
rebuild_for_grows ps qs g node i base h = grind (arith, rebuild_there)

-- a change of a slot is still at its base when rows have grown
pub change_for_grows : (ps qs : Pieces) → AllGrow ps qs → (node i base : ℕ)
    → IsChangeFor ps node i base → IsChangeFor qs node i base
change_for_grows ps qs g node i base h = grind (arith, change_there)

-- a side still names what it may when rows have grown
pub side_grows : (ps qs : Pieces) → AllGrow ps qs → (node i : ℕ) (ref : Option Ref)
    → SideNames ps node i ref → SideNames qs node i ref
side_grows ps qs g node i (Some Empty) h = tt
side_grows ps qs g node i (Some (LeafAt base)) h = leaf_here_grows ps qs g base h
side_grows ps qs g node i (Some (InnerAt base)) h = (h.0, inner_here_grows ps qs g base h.1)
side_grows ps qs g node i (Some (RebuildAt base)) h = rebuild_for_grows ps qs g node i base h
side_grows ps qs g node i (Some Unset) h = absurd h
side_grows ps qs g node i (Some (ChangeAt base)) h = absurd h
side_grows ps qs g node i None h = absurd h

-- a slot still names what it may when rows have grown
pub slot_grows : (ps qs : Pieces) → AllGrow ps qs → (node i : ℕ) (ref : Option Ref)
    → SlotNames ps node i ref → SlotNames qs node i ref
slot_grows ps qs g node i (Some Unset) h = tt
slot_grows ps qs g node i (Some (ChangeAt base)) h = change_for_grows ps qs g node i base h
slot_grows ps qs g node i (Some Empty) h = tt
slot_grows ps qs g node i (Some (LeafAt base)) h = leaf_here_grows ps qs g base h
slot_grows ps qs g node i (Some (InnerAt base)) h = (h.0, inner_here_grows ps qs g base h.1)
slot_grows ps qs g node i (Some (RebuildAt base)) h = rebuild_for_grows ps qs g node i base h
slot_grows ps qs g node i None h = absurd h

-- a root still names what it may when rows have grown
pub root_grows : (ps qs : Pieces) → AllGrow ps qs → (target : ℕ) (ref : Option Ref)
    → RootNames ps target ref → RootNames qs target ref
root_grows ps qs g target (Some Unset) h = tt
root_grows ps qs g target (Some Empty) h = tt
root_grows ps qs g target (Some (LeafAt base)) h = leaf_here_grows ps qs g base h
root_grows ps qs g target (Some (InnerAt base)) h = (h.0, inner_here_grows ps qs g base h.1)
root_grows ps qs g target (Some (ChangeAt base)) h = absurd h
root_grows ps qs g target (Some (RebuildAt base)) h = absurd h
root_grows ps qs g target None h = absurd h

-- a row still names what it may when rows have grown
pub row_grows : (ps qs : Pieces) → AllGrow ps qs → (base : ℕ) (p : Piece) → RowNames ps base p
    → RowNames qs base p
row_grows ps qs g base (Leaf r) h = tt
row_grows ps qs g base (Inner r) h = grind (arith, slot_grows)
row_grows ps qs g base (Change r) h = grind (arith, side_grows)
row_grows ps qs g base (Rebuild r) h =
    (h.0, inner_here_grows ps qs g r.target h.1, root_grows ps qs g r.target (ref_of r.root) h.2)

-- ---- writes keep names

-- words name what they may after rows are added
pub all_name_added : (ps qs : Pieces) (Born : ℕ → Piece → Type 0) → AllGrow ps qs → Adds ps qs Born
    → AllName ps ps
    → ((base : ℕ) (p : Piece) → Born base p → qs base ≡ Some p → RowNames qs base p) → AllName qs qs
unfolding AllName
all_name_added ps qs Born g adds all born base p e = ⊎_elim
    (λ old. row_grows ps qs g base p (all base p old)) (λ new. born base p new e)
    (adds.from base p e)

-- words name what they may after one row is changed
pub all_name-changed_at : (ps : Pieces) (at : ℕ) (f : Piece → Piece)
    → AllGrow ps (changed_at ps at f) → AllName ps ps
    → ((p : Piece) → ps at ≡ Some p → RowNames (changed_at ps at f) at p → RowNames
    (changed_at ps at f) at (f p))
    → AllName (changed_at ps at f) (changed_at ps at f)
unfolding AllName
all_name-changed_at ps at f g all keeps base q e = let it = changed_at-some ps at base f q e in
    let old = row_grows ps (changed_at ps at f) g base it.0 (all base it.0 it.1) in ⊎_elim
    (λ same. subst (λ x. RowNames (changed_at ps at f) base x) (sym same) old)
    (λ new. subst (λ x. RowNames (changed_at ps at f) base x) (sym new.1)
    (subst (λ b. RowNames (changed_at ps at f) b (f it.0)) (sym new.0)
    (keeps it.0 (subst (λ b. ps b ≡ Some it.0) new.0 it.1)
    (subst (λ b. RowNames (changed_at ps at f) b it.0) new.0 old))))
    it.2

-- a row names what it may after a slot of it is written with such a word
pub names-with_slot : (ps : Pieces) (node i word : ℕ) (p : Piece)
    → SlotNames ps node i (ref_of word) → RowNames ps node p → RowNames ps node (with_slot i word p)
names-with_slot ps node i word (Inner r) k h = grind (arith, get-set_some)
names-with_slot ps node i word (Leaf r) k h = h
names-with_slot ps node i word (Change r) k h = h
names-with_slot ps node i word (Rebuild r) k h = h

-- a row names what it may after its status is written
pub names-with_status : (ps : Pieces) (base status : ℕ) (p : Piece) → RowNames ps base p
    → RowNames ps base (with_status status p)
names-with_status ps base status (Inner r) h = h
names-with_status ps base status (Leaf r) h = h
names-with_status ps base status (Change r) h = h
names-with_status ps base status (Rebuild r) h = h

-- a row names what it may after a change is counted
pub names-counted : (ps : Pieces) (base : ℕ) (p : Piece) → RowNames ps base p
    → RowNames ps base (counted p)
names-counted ps base (Inner r) h = h
names-counted ps base (Leaf r) h = h
names-counted ps base (Change r) h = h
names-counted ps base (Rebuild r) h = h

-- a row names what it may after a part is drawn
pub names-drawn : (ps : Pieces) (base : ℕ) (p : Piece) → RowNames ps base p
    → RowNames ps base (drawn p)
names-drawn ps base (Inner r) h = h
names-drawn ps base (Leaf r) h = h
names-drawn ps base (Change r) h = h
names-drawn ps base (Rebuild r) h = h

-- a row names what it may after its decision is written
pub names-with_decision : (ps : Pieces) (base decision : ℕ) (p : Piece) → RowNames ps base p
    → RowNames ps base (with_decision decision p)
names-with_decision ps base decision (Inner r) h = h
names-with_decision ps base decision (Leaf r) h = h
names-with_decision ps base decision (Change r) h = h
names-with_decision ps base decision (Rebuild r) h = h

-- ---- what a slot holds

-- the word of a slot names what it may
pub slot_names : (t : Snapshot) (node i word : ℕ) → WordsName t → SlotHolds t node i word
    → SlotNames t.pieces node i (ref_of word)
slot_names t node i word h (in_anchor a b e) = grind arith
slot_names t node i word h (in_row r p e) = h.rows node (Inner r) p i word e

-- what a change may put into a slot may be in the slot
pub side_slot : (ps : Pieces) (node i : ℕ) (ref : Option Ref) → SideNames ps node i ref
    → SlotNames ps node i ref
side_slot ps node i (Some Empty) h = h
side_slot ps node i (Some (LeafAt base)) h = h
side_slot ps node i (Some (InnerAt base)) h = h
side_slot ps node i (Some (RebuildAt base)) h = h
side_slot ps node i (Some Unset) h = absurd h
side_slot ps node i (Some (ChangeAt base)) h = absurd h
side_slot ps node i None h = absurd h
