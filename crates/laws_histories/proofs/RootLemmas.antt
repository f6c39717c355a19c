-- A finish leaves what each key is given: its root has the leaves of its rebuild's target. Serves the changes law.
use Rattle.std.proofs.Common.{◌≡◌, ◌≢◌, ℕ, List, map, Option, Some, None, refl, sym, ap, ◌∙◌, subst, inr, arith}
use Rattle.ist_core.specs.declared.pairs.Pair.{Pair}
use Rattle.ist_core.specs.declared.states.ChangeRow.{ChangeRow}
use Rattle.ist_core.specs.declared.states.RebuildRow.{RebuildRow}
use Rattle.ist_core.specs.WordTerms.{Ref, Empty, Unset, LeafAt, InnerAt, ChangeAt, RebuildAt, ref_of, unset_word, Inner, Change, Rebuild, start, past_rebuild}
use Rattle.ist_core.specs.LogTerms.{Snapshot, Log, EachEnabled, CanOpen, state_of}
use Rattle.ist_core.specs.TreeTerms.{PlacedLeaf, pair_of, HasLeaves}
use Rattle.ist_core.proofs.AllPlaceLemmas.{anchor_free, IsRebuildFor, RootNames, SideNames, names, Mentions, one_home, shaped, LiesIn, ReadsAs, leaves_lie}
use Rattle.ist_core.proofs.AllEventLemmas.{not_unset}
use Rattle.laws_histories.specs.Finding.{Finds}
use Rattle.laws_histories.proofs.BelowLemmas.{value_of, finds_value, table_says}
use Rattle.laws_histories.proofs.FindLemmas.{finds_once}
use Rattle.laws_links.proofs.ReturnLemmas.{one_inner}

module _ (pairs : List Pair) (words : ℕ) (opens : CanOpen pairs words) (log : Log)
    (h : EachEnabled (start pairs words) log) where
  -- the state after the log
  abbrev Here : Snapshot
  Here = state_of pairs words log

  -- from what is named for a slot on each key is given what the leaves below have for it
  pub named_value : (ref : Option Ref) (leaves : List PlacedLeaf) → HasLeaves Here.pieces ref leaves
      → (node i : ℕ) → ReadsAs Here node i ref
      → (key : ℕ) → Finds Here.pieces key ref (value_of key (map pair_of leaves))
  named_value ref leaves has node i reads key =
      finds_value Here.pieces (λ base r e. shaped pairs words log h base (Inner r) e) (ReadsAs Here)
      (LiesIn Here)
      (table_says Here (names pairs words opens log h) (one_home pairs words opens log h) (anchor_free pairs words log h) (leaves_lie pairs words opens log h))
      ref leaves has node i reads key

  -- the target of a rebuild is named for its slot
  target_named : (node i base : ℕ) → IsRebuildFor Here.pieces node i base
      → ReadsAs Here node i (past_rebuild Here.pieces (Some (RebuildAt base)))
  target_named node i base is = grind (arith, one_inner)

  -- the root of a rebuild in a slot names what may be in the slot
  root_named : (node i base : ℕ) (is : IsRebuildFor Here.pieces node i base)
      → is.row.root ≢ unset_word
      → ReadsAs Here node i (past_rebuild Here.pieces (ref_of is.row.root))
  root_named node i base is set =
      let row = (names pairs words opens log h).rows base (Rebuild is.row) is.published in
      at (ref_of is.row.root) refl (not_unset is.row.root set) row.2
    where
      said : (ref : Ref) → ref_of is.row.root ≡ Some ref → Mentions Here node i ref
      said ref e = inr (base, Rebuild is.row, is.published, (sym is.parent, sym is.index, inr e))

      at : (ref : Option Ref) → ref_of is.row.root ≡ ref → ref ≢ Some Unset
          → RootNames Here.pieces is.row.target ref
          → ReadsAs Here node i (past_rebuild Here.pieces ref)
      at (Some Empty) e set n = grind arith
      at (Some (LeafAt leaf)) e set n = grind (arith, said)
      at (Some (InnerAt child)) e set n = grind (arith, said)
      at (Some Unset) e set n = absurd (set refl)
      at (Some (ChangeAt change)) e set n = absurd n
      at (Some (RebuildAt rebuild)) e set n = absurd n
      at None e set n = absurd n

  -- if root and target have the same leaves, the root gives each key what the target gives it
  pub root_finds : (base rebuild : ℕ) (change : ChangeRow) (row : RebuildRow)
      → Here.pieces base ≡ Some (Change change)
      → ref_of change.from ≡ Some (RebuildAt rebuild) → Here.pieces rebuild ≡ Some (Rebuild row)
      → change.to ≡ row.root → row.root ≢ unset_word → (leaves : List PlacedLeaf)
      → HasLeaves Here.pieces (past_rebuild Here.pieces (ref_of change.from)) leaves
      → HasLeaves Here.pieces (past_rebuild Here.pieces (ref_of change.to)) leaves
      → (key : ℕ) (value : Option ℕ)
      → Finds Here.pieces key (past_rebuild Here.pieces (ref_of change.from)) value
      → Finds Here.pieces key (past_rebuild Here.pieces (ref_of change.to)) value
  root_finds base rebuild change row e from f to set leaves old new key value found =
      let side = ((names pairs words opens log h).rows base (Change change) e).0 in
      let is : IsRebuildFor Here.pieces change.node change.index rebuild =
      subst (λ ref. SideNames Here.pieces change.node change.index ref) from side in
      let same : is.row ≡ row = cc (is.published) in
      let root : change.to ≡ is.row.root = to ∙ ap (λ r. r.root) (sym same) in
      let named =
      subst (λ ref. ReadsAs Here change.node change.index (past_rebuild Here.pieces ref))
      (sym from) (target_named change.node change.index rebuild is) in
      let also =
      subst (λ w. ReadsAs Here change.node change.index (past_rebuild Here.pieces (ref_of w)))
      (sym root)
      (root_named change.node change.index rebuild is (λ z. set (ap (λ r. r.root) (sym same) ∙ z))) in
      let one =
      finds_once Here.pieces key (past_rebuild Here.pieces (ref_of change.from))
      (value_of key (map pair_of leaves)) value
      (named_value (past_rebuild Here.pieces (ref_of change.from)) leaves old change.node change.index named key) found in
      subst (λ v. Finds Here.pieces key (past_rebuild Here.pieces (ref_of change.to)) v) one
      (named_value (past_rebuild Here.pieces (ref_of change.to)) leaves new change.node change.index also key)
