-- Only a Decide with yes of a put or remove changes the contents. Serves `laws.updates_alone_change`.
use Rattle.std.proofs.Common.{List, None, Option, Some, [], ap, arith, inl, inr, length, refl, slice_get, subst, suc, sym, true, ℕ, ⊎_elim, ◌∙◌, ◌∷◌, ◌≡◌, ◌≢◌, ◌⊎◌}
use Rattle.ist_core.specs.declared.events.Event.{Event}
use Rattle.ist_core.specs.declared.events.Event.TheVariants.{Decide}
use Rattle.ist_core.specs.declared.pairs.Pair.{Pair}
use Rattle.ist_core.specs.declared.states.InnerRow.{InnerRow}
use Rattle.ist_core.specs.declared.states.LeafRow.{LeafRow}
use Rattle.ist_core.specs.TreeTerms.{AllGrow, HasContents, HasLeaves, PlacedLeaf, SlotsHaveLeaves, leaf_here, no_slot, none_here, one_slot, row_here}
use Rattle.ist_core.specs.LogTerms.{CanOpen, EachEnabled, state_of, Log, Snapshot}
use Rattle.ist_core.specs.WordTerms.{Change, Inner, Leaf, Piece, Pieces, Rebuild, ChangeAt, Empty, InnerAt, LeafAt, RebuildAt, Ref, Unset, ref_of, anchor, SlotHolds, in_anchor, in_row, logical, past_change, past_rebuild, rebuild_reads, start}
use Rattle.ist_core.proofs.AllLogLemmas.{inner_there, leaf_there, rebuild_there, grow_after}
use Rattle.ist_core.proofs.AllPlaceLemmas.{same_leaves, anchor_free, slot_once}
use Rattle.laws_links.proofs.ReadStepLemmas.{leads_grows, leads_rebuild, reads_step}
use Rattle.laws_links.proofs.FormLemmas.{IsFormed, of_finish, of_leaf_put, of_pair_put, of_remove, of_start}
use Rattle.laws_links.proofs.FormedLemmas.{changes_are_formed}
use Rattle.laws_links.proofs.ReadEventLemmas.{decide_reads}
use Rattle.laws_links.proofs.ReadLemmas.{ReadsAs, Turns, turned_by, decided_stands, ideal_leaves, ideal_plain}
use Rattle.laws_links.proofs.NewTreeLemmas.{ideal_kept}
use Rattle.laws_links.proofs.WholeLemmas.{finish_is_whole}
use Rattle.laws_links.specs.Replacing.{LeavesContents}

-- ---- leaves, from one table to another

-- no leaves are reached from no reference, nor from a part that isn't built
pub no_leaves : (ps : Pieces) (leaves : List PlacedLeaf) → HasLeaves ps None leaves → ⊥
no_leaves ps leaves h = elim h [ ]

-- Unset has no leaves
pub unset_leaves : (ps : Pieces) (leaves : List PlacedLeaf) → HasLeaves ps (Some Unset) leaves → ⊥
unset_leaves ps leaves h = elim h [ ]

-- two slots of a row, in the first table and in the second, have the same leaves: they read alike, or the second has them anyhow
abbrev AlikeSlots : Pieces → Pieces → List ℕ → List ℕ → Type 0
AlikeSlots ps qs old new =
    (i w v : ℕ) → slice_get old i ≡ Some w → slice_get new i ≡ Some v → (leaves : List PlacedLeaf)
    → HasLeaves ps (logical ps w) leaves → (logical qs v ≡ logical ps w) ⊎ HasLeaves qs (logical qs v) leaves

-- each row is also in the second table, with such slots
pub record Alike (ps qs : Pieces) : Type 0 where
  -- a leaf is also in the second table
  pub leaf : (base : ℕ) (r : LeafRow) → ps base ≡ Some (Leaf r) → qs base ≡ Some (Leaf r)
  -- an inner row is also there, with the same number of slots, each of which has the leaves of
  -- the first one's
  pub row : (base : ℕ) (r : InnerRow) → ps base ≡ Some (Inner r)
      → (s : InnerRow) × (qs base ≡ Some (Inner s))
      × (length s.slots ≡ length r.slots) × AlikeSlots ps qs r.slots s.slots

module _ (ps qs : Pieces) (alike : Alike ps qs) where
  mutual
    -- what is reached in the first table is reached in the second
    pub leaves_move : (ref : Option Ref) (leaves : List PlacedLeaf) → HasLeaves ps ref leaves
        → HasLeaves qs ref leaves
    leaves_move _ _ none_here = none_here
    leaves_move _ _ (leaf_here {base = base} r e) = leaf_here r (alike.leaf base r e)
    leaves_move _ _ (row_here {base = base} {leaves = leaves} r e under) =
        let it = alike.row base r e in
        row_here it.0 it.1 (slots_move r.slots leaves under it.0.slots it.2 it.3)

    slots_move : (words : List ℕ) (leaves : List PlacedLeaf) → SlotsHaveLeaves ps words leaves
        → (new : List ℕ)
        → length new ≡ length words → AlikeSlots ps qs words new → SlotsHaveLeaves qs new leaves
    slots_move _ _ no_slot [] long slots = no_slot
    slots_move _ _ no_slot (v ∷ vs) long slots = absurd (omega arith)
    slots_move _ _ (one_slot first more) [] long slots = absurd (omega arith)
    slots_move _ _ (one_slot {word = word} {words = words} {here = here} {rest = rest} first more)
        (v ∷ vs) long slots =
        let moved = leaves_move (logical ps word) here first in one_slot
        (⊎_elim (λ same. subst (λ o. HasLeaves qs o here) (sym same) moved) (λ anyhow. anyhow) (slots 0 word v refl refl here first))
        (slots_move words rest more vs (omega arith) (λ i w x at now. slots (suc i) w x at now))

-- ---- one event

-- what a reference reads as, if it leads anywhere, it reads as once rows grow
pub past_rebuild_grows : (t u : Snapshot) → AllGrow t.pieces u.pieces
    → (ref : Ref) (leaves : List PlacedLeaf)
    → HasLeaves t.pieces (past_rebuild t.pieces (Some ref)) leaves
    → past_rebuild u.pieces (Some ref) ≡ past_rebuild t.pieces (Some ref)
past_rebuild_grows t u g (RebuildAt base) leaves h = at (t.pieces base) refl h
  where
    at : (o : Option Piece) → t.pieces base ≡ o → HasLeaves t.pieces (rebuild_reads o) leaves
        → rebuild_reads (u.pieces base) ≡ rebuild_reads (t.pieces base)
    at (Some (Rebuild r)) is k = let it = rebuild_there t.pieces u.pieces g base r is in
        ap rebuild_reads it.1 ∙ ap (λ n. Some (InnerAt n)) it.2.target ∙ sym (ap rebuild_reads is)
    at (Some (Leaf r)) is k = absurd (no_leaves t.pieces leaves k)
    at (Some (Inner r)) is k = absurd (no_leaves t.pieces leaves k)
    at (Some (Change r)) is k = absurd (no_leaves t.pieces leaves k)
    at None is k = absurd (no_leaves t.pieces leaves k)
past_rebuild_grows t u g Empty leaves h = refl
past_rebuild_grows t u g Unset leaves h = refl
past_rebuild_grows t u g (LeafAt base) leaves h = refl
past_rebuild_grows t u g (InnerAt base) leaves h = refl
past_rebuild_grows t u g (ChangeAt base) leaves h = refl

module _ (pairs : List Pair) (words : ℕ) (opens : CanOpen pairs words) where
  -- when a start or a finish is decided yes, its slot keeps its leaves
  turned_leaves : (log : Log) (event : Event) → EachEnabled (start pairs words) (event ∷ log)
      → LeavesContents (state_of pairs words log) event → (node i : ℕ) (ref : Ref)
      → Turns (start pairs words) log node i ref event → (v : ℕ)
      → SlotHolds (state_of pairs words (event ∷ log)) node i v → (leaves : List PlacedLeaf)
      → HasLeaves (state_of pairs words log).pieces (past_rebuild (state_of pairs words log).pieces (Some ref)) leaves
      → (logical (state_of pairs words (event ∷ log)).pieces v ≡ past_rebuild (state_of pairs words log).pieces (Some ref))
      ⊎ HasLeaves (state_of pairs words (event ∷ log)).pieces
      (logical (state_of pairs words (event ∷ log)).pieces v) leaves
  turned_leaves log _ h keeps node i ref
      (turned_by {caller = caller} {base = base} can n j from) v slot leaves has =
      by_form (changes_are_formed pairs words log h.0 base can.change can.pending.published)
    where
      -- what the slot reads as now
      reads : (to : Ref) → ref_of can.change.to ≡ Some to
          → logical (state_of pairs words (Decide caller base true ∷ log)).pieces v ≡ past_rebuild (state_of pairs words (Decide caller base true ∷ log)).pieces (Some to)
      reads to is = let u = state_of pairs words (Decide caller base true ∷ log) in
          let r =
          decide_reads pairs words opens log caller base h can.change can.pending.published to is in
          let there =
          subst (λ m. ReadsAs u m i to) n (subst (λ m. ReadsAs u can.change.node m to) j r) in
          let same = slot_once u node i v there.word (anchor_free pairs words (Decide caller base true ∷ log) h) slot there.holds in
          ap (logical u.pieces) same ∙ ap (past_rebuild u.pieces) there.reads

      by_form : IsFormed (state_of pairs words log) can.change
          → (logical (state_of pairs words (Decide caller base true ∷ log)).pieces v ≡ past_rebuild (state_of pairs words log).pieces (Some ref))
          ⊎ HasLeaves (state_of pairs words (Decide caller base true ∷ log)).pieces
          (logical (state_of pairs words (Decide caller base true ∷ log)).pieces v) leaves
      by_form (of_leaf_put f) = absurd (keeps can.change can.pending.published (inl f.kind))
      by_form (of_pair_put f) = absurd (keeps can.change can.pending.published (inl f.kind))
      by_form (of_remove f) = absurd (keeps can.change can.pending.published (inr f.kind))
      by_form (of_start f) = let t = state_of pairs words log in
          let u = state_of pairs words (Decide caller base true ∷ log) in
          let g = grow_after pairs words log (Decide caller base true) h in
          inl (reads (RebuildAt f.rebuild) f.to
          ∙ leads_grows t u g (RebuildAt f.rebuild) f.row.target
          (leads_rebuild t.pieces f.rebuild f.row f.published)
          ∙ ap (past_rebuild t.pieces) (sym f.from ∙ from))
      by_form (of_finish f) = let t = state_of pairs words log in
          let u = state_of pairs words (Decide caller base true ∷ log) in
          let w = finish_is_whole pairs words opens log h.0 base can.change can.pending.published can.pending.unset f.rebuild f.from in
          let target : past_rebuild t.pieces (Some ref) ≡ Some (InnerAt w.row.target) = ap (past_rebuild t.pieces) (sym from ∙ f.from) ∙ leads_rebuild t.pieces f.rebuild w.row w.published in
          let same : leaves ≡ w.leaves = same_leaves t.pieces (Some (InnerAt w.row.target)) leaves w.leaves (subst (λ o. HasLeaves t.pieces o leaves) target has) w.reached in
          let ideal = ideal_kept t.pieces u.pieces w.ref w.leaves w.row.target w.rows w.ideal (decided_stands pairs words log caller base true w.rows) in
          let read =
          reads w.ref w.to_is ∙ ideal_plain u.pieces w.ref w.leaves w.row.target w.rows ideal in
          inr
          (subst (λ o. HasLeaves u.pieces o leaves) (sym read) (subst (λ ls. HasLeaves u.pieces (Some w.ref) ls) (sym same) (ideal_leaves u.pieces w.ref w.leaves w.row.target w.rows ideal)))

  -- each slot has the leaves that it had
  slot_leaves : (log : Log) (event : Event) → EachEnabled (start pairs words) (event ∷ log)
      → LeavesContents (state_of pairs words log) event → (node i w v : ℕ)
      → SlotHolds (state_of pairs words log) node i w
      → SlotHolds (state_of pairs words (event ∷ log)) node i v → (leaves : List PlacedLeaf)
      → HasLeaves (state_of pairs words log).pieces (logical (state_of pairs words log).pieces w) leaves
      → (logical (state_of pairs words (event ∷ log)).pieces v ≡ logical (state_of pairs words log).pieces w)
      ⊎ HasLeaves (state_of pairs words (event ∷ log)).pieces
      (logical (state_of pairs words (event ∷ log)).pieces v) leaves
  slot_leaves log event h keeps node i w v old now leaves has =
      at (past_change (state_of pairs words log).pieces (ref_of w)) refl has
    where
      at : (o : Option Ref) → past_change (state_of pairs words log).pieces (ref_of w) ≡ o
          → HasLeaves (state_of pairs words log).pieces (past_rebuild (state_of pairs words log).pieces o) leaves
          → (logical (state_of pairs words (event ∷ log)).pieces v ≡ logical (state_of pairs words log).pieces w)
          ⊎ HasLeaves (state_of pairs words (event ∷ log)).pieces
          (logical (state_of pairs words (event ∷ log)).pieces v) leaves
      at None is k = absurd (no_leaves (state_of pairs words log).pieces leaves k)
      at (Some ref) is k = let t = state_of pairs words log in
          let u = state_of pairs words (event ∷ log) in
          let set : ref ≢ Unset = λ none. unset_leaves t.pieces leaves (subst (λ r. HasLeaves t.pieces (past_rebuild t.pieces (Some r)) leaves) none k) in
          let back : past_rebuild t.pieces (Some ref) ≡ logical t.pieces w =
          ap (past_rebuild t.pieces) (sym is) in
          ⊎_elim
          (λ r.
          let same =
          slot_once u node i v r.word (anchor_free pairs words (event ∷ log) h) now r.holds in
          inl (ap (logical u.pieces) same ∙ ap (past_rebuild u.pieces) r.reads ∙ past_rebuild_grows t u (grow_after pairs words log event h) ref leaves k ∙ back))
          (λ turn. ⊎_elim (λ same. inl (same ∙ back)) (λ anyhow. inr anyhow) (turned_leaves log event h keeps node i ref turn v now leaves k))
          (reads_step pairs words opens log event h node i ref set record { word = w; holds = old; reads = is })

  -- each row keeps its leaves at an event that decides no update yes
  rows_alike : (log : Log) (event : Event) → EachEnabled (start pairs words) (event ∷ log)
      → LeavesContents (state_of pairs words log) event
      → Alike (state_of pairs words log).pieces (state_of pairs words (event ∷ log)).pieces
  rows_alike log event h keeps = let t = state_of pairs words log in
      let u = state_of pairs words (event ∷ log) in let g = grow_after pairs words log event h in
      record {
        leaf = λ base r e. leaf_there t.pieces u.pieces g base r e;
        row = λ base r e. let it = inner_there t.pieces u.pieces g base r e in
            (it.0, it.1, it.2.slots, λ i w v at now leaves has. slot_leaves log event h keeps base i w v (in_row r e at) (in_row it.0 it.1 now) leaves has);
      }

  -- each reference keeps its leaves at such an event
  pub leaves_step : (log : Log) (event : Event) → EachEnabled (start pairs words) (event ∷ log)
      → LeavesContents (state_of pairs words log) event
      → (ref : Option Ref) (leaves : List PlacedLeaf)
      → HasLeaves (state_of pairs words log).pieces ref leaves
      → HasLeaves (state_of pairs words (event ∷ log)).pieces ref leaves
  leaves_step log event h keeps ref leaves has =
      leaves_move (state_of pairs words log).pieces (state_of pairs words (event ∷ log)).pieces
      (rows_alike log event h keeps) ref leaves has

  -- an event that decides no update yes keeps the contents
  pub contents_kept : (log : Log) (event : Event) → EachEnabled (start pairs words) (event ∷ log)
      → LeavesContents (state_of pairs words log) event → (contents : List Pair)
      → HasContents (state_of pairs words log) contents
      → HasContents (state_of pairs words (event ∷ log)) contents
  contents_kept log event h keeps contents c = let t = state_of pairs words log in
      let u = state_of pairs words (event ∷ log) in
      let moved = leaves_step log event h keeps (logical t.pieces t.anchor) c.leaves c.reached in
      record {
        leaves = c.leaves;
        reached = ⊎_elim (λ same. subst (λ o. HasLeaves u.pieces o c.leaves) (sym same) moved)
            (λ anyhow. anyhow)
            (slot_leaves log event h keeps anchor 0 t.anchor u.anchor (in_anchor refl refl refl) (in_anchor refl refl refl) c.leaves c.reached);
        pairs_are = c.pairs_are;
      }
