-- The leaves below what is named for a slot lie where their keys lead, with strictly increasing
-- keys. Serves the order law.
use Rattle.std.proofs.Common.{◌≡◌, ℕ, suc, ◌+◌, ◌<◌, ◌≤◌, List, [], ◌∷◌, slice_get, Option, Some, None, refl, subst, arith, ◌++◌, sym, ap, ◌∙◌}
use Rattle.ist_core.specs.Types.{LeafRow, InnerRow, Pair}
use Rattle.ist_core.specs.WordTerms.{child_count, anchor, Ref, Empty, Unset, LeafAt, InnerAt, ChangeAt, RebuildAt, ref_of, Pieces, Piece, Leaf, Inner, Change, Rebuild, SlotHolds, in_row, past_change, rebuild_reads, past_rebuild, logical}
use Rattle.ist_core.specs.LogTerms.{Each, Snapshot}
use Rattle.ist_core.specs.TreeTerms.{PlacedLeaf, HasLeaves, SlotsHaveLeaves, none_here, leaf_here, row_here, no_slot, one_slot, HasContents}
use Rattle.ist_core.proofs.OptionLemmas.{each_append, same_inner}
use Rattle.ist_core.proofs.NamingLemmas.{WordsName}
use Rattle.ist_core.proofs.HomeLemmas.{Mentions, HasOneHome}
use Rattle.ist_core.proofs.MentionLemmas.{past_change_mentioned, child_mentioned}
use Rattle.ist_core.proofs.RisingLemmas.{child_count_tells, AreRisingKeys, AllBelow, rises_append}
use Rattle.ist_core.proofs.SplitLemmas.{key_of_leaf}
use Rattle.ist_core.proofs.LeadingLemmas.{LiesIn, LeavesLie, lies_above, child_is}

-- what the rows of a tree say of where keys lie: `In` of what a slot reads as, and `Lies` of a key
-- at a slot
pub record SaysWhere (ps : Pieces) (In : ℕ → ℕ → Option Ref → Type 0) (Lies : ℕ → ℕ → ℕ → Type 0) :
    Type 0 where
  -- the key of a leaf that a slot reads as lies at that slot
  pub leaf : (node i base : ℕ) (r : LeafRow) → In node i (Some (LeafAt base)) → ps base ≡ Some
      (Leaf r) → Lies r.key node i
  -- what a slot of a row reads as is in that slot
  pub slot : (base j word : ℕ) (r : InnerRow) → ps base ≡ Some (Inner r) → slice_get r.slots j ≡
      Some word → In base j (logical ps word)
  -- a key at a slot of an inner row lies at the slot in which the row hangs
  pub up : (node i base j key : ℕ) → In node i (Some (InnerAt base)) → Lies key base j → Lies key
      node i
  -- a key lies only at the slot for it
  pub child : (base j key : ℕ) (r : InnerRow) → ps base ≡ Some (Inner r) → Lies key base j → j ≡
      child_count r.keys key

-- what follows for each element
pub each_mapped : {A : Type 0} (P Q : A → Type 0) (xs : List A) → ((x : A) → P x → Q x) → Each P xs
    → Each Q xs
each_mapped P Q [] f h = tt
each_mapped P Q (x ∷ xs) f h = (f x h.0, each_mapped P Q xs f h.1)

module _ (ps : Pieces) (In : ℕ → ℕ → Option Ref → Type 0) (Lies : ℕ → ℕ → ℕ → Type 0)
    (says : SaysWhere ps In Lies) where
  -- the leaves lie in this slot, and their keys are strictly increasing
  abbrev AreIn : List PlacedLeaf → ℕ → ℕ → Type 0
  AreIn leaves node i = Each (λ leaf. Lies (key_of_leaf leaf) node i) leaves × AreRisingKeys key_of_leaf
      leaves

  -- the leaf lies in slot j of the row, or in a later one
  abbrev IsFrom : ℕ → ℕ → PlacedLeaf → Type 0
  IsFrom base j leaf = (m : ℕ) × (j ≤ m) × Lies (key_of_leaf leaf) base m

  -- leaves of slot j come before leaves of later slots
  earlier : (base j : ℕ) (r : InnerRow) (here rest : List PlacedLeaf) → ps base ≡ Some (Inner r)
      → Each (λ leaf. Lies (key_of_leaf leaf) base j) here → Each (IsFrom base (suc j)) rest
      → AllBelow key_of_leaf here rest
  earlier base j r here rest e first more = each_mapped (λ x. Lies (key_of_leaf x) base j)
      (λ x. Each (λ y. key_of_leaf x < key_of_leaf y) rest) here
      (λ x lies. each_mapped (IsFrom base (suc j)) (λ y. key_of_leaf x < key_of_leaf y) rest
      (λ y there. let one = says.child base j (key_of_leaf x) r e lies in
      let two = says.child base there.0 (key_of_leaf y) r e there.2 in let low = there.1 in
      child_count_tells r.keys (key_of_leaf x) (key_of_leaf y) (omega arith)) more) first

  mutual
    leaves_in : (ref : Option Ref) (leaves : List PlacedLeaf) → HasLeaves ps ref leaves
        → (node i : ℕ) → In node i ref → AreIn leaves node i
    leaves_in _ _ none_here node i m = (tt, tt)
    leaves_in _ _ (leaf_here {base = base} r e) node i m =
        ((says.leaf node i base r m e, tt), (tt, tt))
    leaves_in _ leaves (row_here {base = base} r e below) node i m =
        let it = slots_in r.slots leaves below base r e 0
        (λ k j word is at. says.slot base j word r e
        (subst (λ n. slice_get r.slots n ≡ Some word) (let same : k ≡ j = omega arith in same)
        at)) in (
          each_mapped (IsFrom base 0) (λ leaf. Lies (key_of_leaf leaf) node i) leaves
              (λ leaf there. says.up node i base there.0 (key_of_leaf leaf) m there.2) it.0,
          it.1,
        )

    slots_in : (words : List ℕ) (leaves : List PlacedLeaf) → SlotsHaveLeaves ps words leaves
        → (base : ℕ) (r : InnerRow) → ps base ≡ Some (Inner r) → (j : ℕ)
        → ((k m word : ℕ) → m ≡ j + k → slice_get words k ≡ Some word → In base m (logical ps word))
        → Each (IsFrom base j) leaves × AreRisingKeys key_of_leaf leaves
    slots_in _ _ no_slot base r e j reads = (tt, tt)
    slots_in _ _ (one_slot {word = word} {words = words} {here = here} {rest = rest} first more)
        base r e j reads =
        let one = leaves_in (logical ps word) here first base j (reads 0 j word (omega arith) refl)
        in
        let others = slots_in words rest more base r e (suc j)
        (λ k m w is at. reads (suc k) m w (omega arith) at) in (
          each_append (IsFrom base j) here rest
              (each_mapped (λ leaf. Lies (key_of_leaf leaf) base j) (IsFrom base j) here
              (λ leaf lies. (j, omega arith, lies)) one.0)
              (each_mapped (IsFrom base (suc j)) (IsFrom base j) rest
              (λ leaf there. let low = there.1 in (there.0, omega arith, there.2)) others.0),
          rises_append key_of_leaf here rest one.1 others.1
              (earlier base j r here rest e one.0 others.0),
        )

  -- the leaves below a reference that is named for a slot lie in the slot, with strictly increasing
  -- keys
  pub leaves_lie_in : (ref : Option Ref) (leaves : List PlacedLeaf) → HasLeaves ps ref leaves
      → (node i : ℕ) → In node i ref → AreIn leaves node i
  leaves_lie_in ref leaves h node i m = leaves_in ref leaves h node i m

-- ---- of a table

-- what a slot reads as is named for it, if as a leaf or as an inner row
pub record ReadsAs (t : Snapshot) (node i : ℕ) (ref : Option Ref) : Type 0 where
  -- a leaf that the slot reads as is named for it
  pub a_leaf : (base : ℕ) → ref ≡ Some (LeafAt base) → Mentions t node i (LeafAt base)
  -- an inner row that the slot reads as is named for it
  pub a_row : (base : ℕ) → ref ≡ Some (InnerAt base) → Mentions t node i (InnerAt base)

-- a leaf that a slot reads as is named for it
pub leaf_mentioned : (t : Snapshot) (node i word leaf : ℕ) → WordsName t → SlotHolds t node i word
    → logical t.pieces word ≡ Some (LeafAt leaf) → Mentions t node i (LeafAt leaf)
leaf_mentioned t node i word leaf o slot e = past_change_mentioned t node i word (LeafAt leaf) o
    slot (at (past_change t.pieces (ref_of word)) e)
  where
    no_rebuild : (o : Option Piece) → rebuild_reads o ≡ Some (LeafAt leaf) → ⊥
    no_rebuild (Some (Rebuild r)) e = cc
    no_rebuild (Some (Leaf r)) e = cc
    no_rebuild (Some (Inner r)) e = cc
    no_rebuild (Some (Change r)) e = cc
    no_rebuild None e = cc

    at : (x : Option Ref) → past_rebuild t.pieces x ≡ Some (LeafAt leaf) → x ≡ Some (LeafAt leaf)
    at (Some (RebuildAt base)) e = absurd (no_rebuild (t.pieces base) e)
    at (Some Empty) e = e
    at (Some Unset) e = e
    at (Some (LeafAt base)) e = e
    at (Some (InnerAt base)) e = e
    at (Some (ChangeAt base)) e = e
    at None e = e

-- what a slot reads as is named for it
pub slot_reads_as : (t : Snapshot) (node i word : ℕ) → WordsName t → SlotHolds t node i word
    → ReadsAs t node i (logical t.pieces word)
slot_reads_as t node i word o slot = record {
  a_leaf = λ base e. leaf_mentioned t node i word base o slot e;
  a_row = λ base e. child_mentioned t node i base o record
      { word = word; holds = slot; reads = e };
}

-- if each leaf lies where its key leads, so do all leaves below what is named for a slot, with
-- strictly increasing keys
pub leaves_under : (t : Snapshot) (ref : Option Ref) (leaves : List PlacedLeaf) → WordsName t
    → HasOneHome t → t.pieces anchor ≡ None → LeavesLie t → HasLeaves t.pieces ref leaves
    → (node i : ℕ) → ReadsAs t node i ref
    → Each (λ leaf. LiesIn t (key_of_leaf leaf) node i) leaves × AreRisingKeys key_of_leaf leaves
leaves_under t ref leaves names home free lie h node i reads =
    leaves_lie_in t.pieces (ReadsAs t) (LiesIn t)
    record {
      leaf = λ n j base r m e. lie.each n j base (m.a_leaf base refl) r e;
      slot = λ base j word r e at. slot_reads_as t base j word names (in_row r e at);
      up = λ n j base k key m lies. lies_above t names home free n j base k key (m.a_row base refl)
          lies;
      child = λ base j key r e lies. child_is t base key j r free e lies.child_for;
    } ref leaves h node i reads

-- ---- the leaves below a reference are one list. Serves `laws.contents_are_one`.

-- what it takes to have these leaves, by the reference
abbrev pub Reached : Pieces → Option Ref → List PlacedLeaf → Type 0
Reached ps (Some Empty) leaves = leaves ≡ []
Reached ps (Some (LeafAt base)) leaves = (r : LeafRow) × (ps base ≡ Some (Leaf r)) ×
    (leaves ≡ record { base = base; row = r } ∷ [])
Reached ps (Some (InnerAt base)) leaves = (r : InnerRow) × (ps base ≡ Some (Inner r)) ×
    SlotsHaveLeaves ps r.slots leaves
Reached ps _ leaves = ⊥

-- the leaves below a reference are reached from it
pub reached : (ps : Pieces) (ref : Option Ref) (leaves : List PlacedLeaf) → HasLeaves ps ref leaves
    → Reached ps ref leaves
reached ps _ _ none_here = refl
reached ps _ _ (leaf_here r e) = (r, e, refl)
reached ps _ _ (row_here r e below) = (r, e, below)

-- what it takes for slots to have these leaves, by the slots
abbrev pub SlotsReached : Pieces → List ℕ → List PlacedLeaf → Type 0
SlotsReached ps [] leaves = leaves ≡ []
SlotsReached ps (word ∷ words) leaves =
    (here : List PlacedLeaf) × (rest : List PlacedLeaf) × HasLeaves ps (logical ps word) here ×
    SlotsHaveLeaves ps words rest × (leaves ≡ here ++ rest)

-- the leaves below some slots are reached from them
pub slots_reached : (ps : Pieces) (words : List ℕ) (leaves : List PlacedLeaf)
    → SlotsHaveLeaves ps words leaves → SlotsReached ps words leaves
slots_reached ps _ _ no_slot = refl
slots_reached ps _ _ (one_slot {here = here} {rest = rest} h s) = (here, rest, h, s, refl)

mutual
  -- a reference has one list of leaves
  pub same_leaves : (ps : Pieces) (ref : Option Ref) (xs ys : List PlacedLeaf) → HasLeaves ps ref xs
      → HasLeaves ps ref ys → xs ≡ ys
  same_leaves ps _ _ ys none_here other = sym (reached ps (Some Empty) ys other)
  same_leaves ps _ _ ys (leaf_here {base = base} r e) other =
      let it = reached ps (Some (LeafAt base)) ys other in let same : r ≡ it.0 = cc (it.1) in
      ap (λ x. record { base = base; row = x } ∷ []) same ∙ sym it.2
  same_leaves ps _ _ ys (row_here {base = base} r e below) other =
      let it = reached ps (Some (InnerAt base)) ys other in
      let same : r ≡ it.0 = same_inner (ps base) r it.0 e it.1 in
      same_slots ps r.slots _ ys below (subst (λ x. SlotsHaveLeaves ps x.slots ys) (sym same) it.2)

  same_slots : (ps : Pieces) (words : List ℕ) (xs ys : List PlacedLeaf)
      → SlotsHaveLeaves ps words xs → SlotsHaveLeaves ps words ys → xs ≡ ys
  same_slots ps _ _ ys no_slot other = sym (slots_reached ps [] ys other)
  same_slots ps _ _ ys (one_slot {word = word} {words = words} h s) other =
      let it = slots_reached ps (word ∷ words) ys other in
      let first = same_leaves ps (logical ps word) _ it.0 h it.2 in
      let rest = same_slots ps words _ it.1 s it.3 in (λ i. first i ++ rest i) ∙ sym it.4

-- a table has one list of contents
pub contents_are_one : (t : Snapshot) (xs ys : List Pair) → HasContents t xs → HasContents t ys
    → xs ≡ ys
contents_are_one t xs ys x y = grind (arith, same_leaves)
