-- What a slot reads as once changes are read away: each event leaves that, except a Decide with yes
-- of the change in the slot. Serves the linked law and the replacement law.
use Rattle.std.proofs.Common.{List, None, Option, Some, ap, arith, refl, sym, true, ℕ, ◌∙◌, ◌≡◌, ◌≢◌, Bool, [], drop, length, length-drop, subst, take, ◌++◌, ◌<◌, ◌∷◌}
use Rattle.std.proofs.lemmas.Bool.Decides.{nat_tests}
use Rattle.ist_core.specs.declared.events.Event.{Event}
use Rattle.ist_core.specs.declared.events.Event.TheVariants.{Decide, Place}
use Rattle.ist_core.specs.declared.lists.Row.{Row}
use Rattle.ist_core.specs.declared.states.ChangeRow.{ChangeRow}
use Rattle.ist_core.specs.declared.pairs.Pair.{Pair}
use Rattle.ist_core.specs.declared.states.InnerRow.{InnerRow}
use Rattle.ist_core.specs.LogTerms.{side_of, Log, state, Snapshot, state_of, Each}
use Rattle.ist_core.specs.TreeTerms.{CanPlace, CanDecide, HasLeaves, PlacedLeaf, SlotsHaveLeaves, leaf_here, no_slot, none_here, one_slot, row_here, IsRoot}
use Rattle.ist_core.specs.WordTerms.{Change, Inner, Leaf, Piece, Pieces, Rebuild, ChangeAt, Empty, InnerAt, LeafAt, RebuildAt, Ref, Unset, ref_of, anchor, SlotHolds, change_reads, past_change, decided_yes, undecided, part_lens, AreIdeal, IsIdeal, no_part, of_more, of_none, of_one, one_part, cut, parts, past_rebuild, IsTop}
use Rattle.ist_core.proofs.AllLogLemmas.{side_not_yes}
use Rattle.ist_core.proofs.AllPlaceLemmas.{SideNames, SlotNames, slot_once, changed_at-fixed, ideal_rows, root_rows}
use Rattle.std.proofs.lemmas.List.{take-append-drop}
use Rattle.std.proofs.lemmas.List.Sums.{sum_by-cons}
use Rattle.std.specs.List.{sum}
use Rattle.ist_core.proofs.AllWordLemmas.{sum-part_lens}
use Rattle.laws_links.proofs.NewTreeLemmas.{StandInOther}

-- slot i of the node reads as the reference, with changes read away and rebuilds not
pub record ReadsAs (t : Snapshot) (node i : ℕ) (ref : Ref) : Type 0 where
  pub word : ℕ
  pub holds : SlotHolds t node i word
  pub reads : past_change t.pieces (ref_of word) ≡ Some ref

-- the event decides yes the change of slot i of the node, which takes the reference out
pub data Turns (first : Snapshot) (log : Log) (node i : ℕ) (ref : Ref) : Event → Type 0 where
  turned_by : {caller base : ℕ} (h : CanDecide (state first log) log caller base true)
      → h.change.node ≡ node → h.change.index ≡ i → ref_of h.change.from ≡ Some ref
      → Turns first log node i ref (Decide caller base true)

-- the event puts a part into slot i of the node, which wasn't set
pub data FillsSlot (first : Snapshot) (log : Log) (node i : ℕ) (ref : Ref) : Event → Type 0 where
  filled_by : {caller rebuild j word : ℕ} {rows : List Row}
      (h : CanPlace (state first log) caller rebuild j word rows)
      → node ≡ h.root → i ≡ j → ref ≡ Unset
      → FillsSlot first log node i ref (Place caller rebuild j word rows)

-- ---- references

-- if a base reads as a change, there is a change at it
change_there_by : (o : Option Piece) (ref : Ref) → change_reads o ≡ Some ref
    → (x : ChangeRow) × (o ≡ Some (Change x))
change_there_by (Some (Change x)) ref e = (x, refl)
change_there_by (Some (Leaf x)) ref e = absurd (cc)
change_there_by (Some (Inner x)) ref e = absurd (cc)
change_there_by (Some (Rebuild x)) ref e = absurd (cc)
change_there_by None ref e = absurd (cc)

-- a reference reads as before if the change that it names, if any, reads as before
pub past_same : (ps qs : Pieces) (o : Option Ref) (ref : Ref)
    → ((base : ℕ) (x : ChangeRow) → o ≡ Some (ChangeAt base) → ps base ≡ Some (Change x)
    → (y : ChangeRow) × (qs base ≡ Some (Change y)) × (side_of y ≡ side_of x))
    → past_change ps o ≡ Some ref → past_change qs o ≡ Some ref
past_same ps qs (Some (ChangeAt base)) ref same e = grind (arith, change_there_by)
past_same ps qs (Some Empty) ref same e = e
past_same ps qs (Some Unset) ref same e = e
past_same ps qs (Some (LeafAt base)) ref same e = e
past_same ps qs (Some (InnerAt base)) ref same e = e
past_same ps qs (Some (RebuildAt base)) ref same e = e
past_same ps qs None ref same e = e

-- a slot reads as one thing
pub reads_once : (t : Snapshot) (node i : ℕ) (a b : Ref) → t.pieces anchor ≡ None
    → ReadsAs t node i a → ReadsAs t node i b → a ≡ b
reads_once t node i a b free r s = grind (arith, slot_once)

-- ---- sides

-- an undecided change leaves `from`, one that was decided no too, and one that was decided yes `to`
pub side_undecided : (x : ChangeRow) → x.decision ≡ undecided → side_of x ≡ x.from
side_undecided x none = side_not_yes x (λ e. omega arith)

-- the side of a change that was decided yes is `to`
pub side_yes : (x : ChangeRow) → x.decision ≡ decided_yes → side_of x ≡ x.to
side_yes x e = grind (arith, nat_tests)

-- a side of a change is no change
pub side_plain : (ps : Pieces) (node i : ℕ) (o : Option Ref) → SideNames ps node i o → (base : ℕ)
    → o ≢ Some (ChangeAt base)
side_plain ps node i (Some (ChangeAt at)) h base e = h
side_plain ps node i (Some Empty) h base e = absurd (cc)
side_plain ps node i (Some Unset) h base e = absurd (cc)
side_plain ps node i (Some (LeafAt at)) h base e = absurd (cc)
side_plain ps node i (Some (InnerAt at)) h base e = absurd (cc)
side_plain ps node i (Some (RebuildAt at)) h base e = absurd (cc)
side_plain ps node i None h base e = absurd (cc)

-- what a slot may hold may be put into it, if it is no change and set
pub plain_side : (ps : Pieces) (node i : ℕ) (ref : Option Ref) → SlotNames ps node i ref
    → ref ≢ Some Unset → ((base : ℕ) → ref ≢ Some (ChangeAt base)) → SideNames ps node i ref
plain_side ps node i (Some Unset) h set plain = absurd (set refl)
plain_side ps node i (Some (ChangeAt base)) h set plain = absurd (plain base refl)
plain_side ps node i (Some Empty) h set plain = h
plain_side ps node i (Some (LeafAt base)) h set plain = h
plain_side ps node i (Some (InnerAt base)) h set plain = h
plain_side ps node i (Some (RebuildAt base)) h set plain = h
plain_side ps node i _ h set plain = h

-- ---- the leaves that are reached from an ideal subtree are those that it is over. Serves the replacement law.

-- ---- parts, joined

-- lists joined one after another
abbrev pub joined : {A : Type 0} → List (List A) → List A
joined [] = []
joined (xs ∷ more) = xs ++ joined more

-- the pieces of a cut list, joined, are the list
joined_cut : {A : Type 0} (ns : List ℕ) (xs : List A) → sum ns ≡ length xs → joined (cut ns xs) ≡ xs
joined_cut [] [] e = refl
joined_cut [] (x ∷ xs) e = let none : sum [] ≡ 0 = refl in absurd (omega arith)
joined_cut (n ∷ ns) xs e = let all = sum_by-cons (λ x. x) n ns in let less = length-drop n xs in
    ap (λ ys. take n xs ++ ys) (joined_cut ns (drop n xs) (omega arith)) ∙ take-append-drop n xs

-- the parts of a list, joined, are the list
pub joined_parts : {A : Type 0} (xs : List A) → joined (parts xs) ≡ xs
joined_parts xs = joined_cut (part_lens (length xs)) xs (sum-part_lens (length xs))

-- ---- leaves

-- an ideal reference reads as itself, in any table
pub ideal_reads : (us ps : Pieces) (ref : Ref) (leaves : List PlacedLeaf) (above : ℕ)
    (rows : List ℕ)
    → IsIdeal ps ref leaves above rows → past_rebuild us (past_change us (Some ref)) ≡ Some ref
ideal_reads us ps _ _ _ _ of_none = refl
ideal_reads us ps _ _ _ _ (of_one same e) = refl
ideal_reads us ps _ _ _ _ (of_more r top under) = refl

mutual
  -- an ideal subtree has the leaves that it is over
  pub ideal_leaves : (ps : Pieces) (ref : Ref) (leaves : List PlacedLeaf) (above : ℕ)
      (rows : List ℕ) → IsIdeal ps ref leaves above rows → HasLeaves ps (Some ref) leaves
  ideal_leaves ps _ _ _ _ of_none = none_here
  ideal_leaves ps _ _ _ _ (of_one {base = base} {leaf = leaf} same e) =
      subst (λ b. HasLeaves ps (Some (LeafAt base)) (record { base = b; row = leaf.row } ∷ []))
      (sym same) (leaf_here leaf.row e)
  ideal_leaves ps _ _ above _ (of_more {base = base} {leaves = leaves} {rows = rows} r top under) =
      row_here r top.published
      (subst (λ ls. SlotsHaveLeaves ps r.slots ls) (joined_parts leaves) (parts_leaves ps r.slots (parts leaves) base rows under))

  parts_leaves : (ps : Pieces) (words : List ℕ) (following : List (List PlacedLeaf)) (above : ℕ)
      (rows : List ℕ)
      → AreIdeal ps words following above rows → SlotsHaveLeaves ps words (joined following)
  parts_leaves ps _ _ _ _ no_part = no_slot
  parts_leaves ps _ _ above _
      (one_part {word = word} {words = words} {here = here} {rest = rest} {part = part} {following = following} ref is first more) =
      one_slot
      (subst (λ o. HasLeaves ps o part) (sym (ap (λ o. past_rebuild ps (past_change ps o)) is ∙ ideal_reads ps ps ref part above here first)) (ideal_leaves ps ref part above here first))
      (parts_leaves ps words following above rest more)

-- an ideal reference is no rebuild
pub ideal_plain : (ps : Pieces) (ref : Ref) (leaves : List PlacedLeaf) (above : ℕ) (rows : List ℕ)
    → IsIdeal ps ref leaves above rows → past_rebuild ps (Some ref) ≡ Some ref
ideal_plain ps _ _ _ _ of_none = refl
ideal_plain ps _ _ _ _ (of_one same e) = refl
ideal_plain ps _ _ _ _ (of_more r top under) = refl

-- an ideal reference is no rebuild in any other table either
pub ideal_plain_in : (us ps : Pieces) (ref : Ref) (leaves : List PlacedLeaf) (above : ℕ)
    (rows : List ℕ) → IsIdeal ps ref leaves above rows → past_rebuild us (Some ref) ≡ Some ref
ideal_plain_in us ps _ _ _ _ of_none = refl
ideal_plain_in us ps _ _ _ _ (of_one same e) = refl
ideal_plain_in us ps _ _ _ _ (of_more r top under) = refl

-- its row lies above
pub ideal_above : (ps : Pieces) (ref : Ref) (leaves : List PlacedLeaf) (above : ℕ) (rows : List ℕ)
    (base : ℕ) → IsIdeal ps ref leaves above rows → ref ≡ InnerAt base → above < base
ideal_above ps _ _ _ _ base of_none e = absurd (cc)
ideal_above ps _ _ _ _ base (of_one same k) e = absurd (cc)
ideal_above ps _ _ above _ base (of_more {base = b} r top under) e = grind arith

-- a Decide leaves leaves and inner rows as they are
pub decided_stands : (pairs : List Pair) (words : ℕ) (log : Log) (caller base : ℕ) (said : Bool)
    (rows : List ℕ)
    → StandInOther (state_of pairs words log).pieces (state_of pairs words (Decide caller base said ∷ log)).pieces rows
decided_stands pairs words log caller base said rows = grind (arith, changed_at-fixed)

-- ---- the rows of a tree that is published: each is the top of an ideal subtree, and so is as it was
-- filled. Serves each law about new trees.

-- the row at the base is the top of an ideal subtree over some leaves
pub record StandsAsTop (ps : Pieces) (base : ℕ) : Type 0 where
  pub row : InnerRow
  pub leaves : List PlacedLeaf
  pub above : ℕ
  pub top : IsTop ps base row leaves above

-- each row of an ideal subtree is the top of one
pub ideal_tops : (ps : Pieces) (ref : Ref) (leaves : List PlacedLeaf) (above : ℕ) (rows : List ℕ)
    → IsIdeal ps ref leaves above rows → Each (StandsAsTop ps) rows
ideal_tops ps = grind (arith, ideal_rows)

-- each row of a root is the top of an ideal subtree
pub root_tops : (ps : Pieces) (word k : ℕ) (leaves : List PlacedLeaf) (target : ℕ) (rows : List ℕ)
    → IsRoot ps word k leaves target rows → Each (StandsAsTop ps) rows
root_tops ps = root_rows ps (StandsAsTop ps)
    (λ base r leaves above top. record { row = r; leaves = leaves; above = above; top = top })
