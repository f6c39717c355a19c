-- What the rows of an Install name. Serves the conjunct `names`.
use Rattle.std.proofs.Common.{◌≡◌, ◌≢◌, ℕ, zero, suc, ◌<◌, nat_lt, true, false, if◌then◌else◌, List, ◌∷◌, Option, Some, None, refl, sym, ap, ◌∙◌, subst, inl, inr, arith}
use Rattle.ist_core.specs.Types.{Row, InnerRow, ChangeRow}
use Rattle.ist_core.specs.WordTerms.{Ref, Empty, Unset, LeafAt, InnerAt, ChangeAt, RebuildAt, IsGoodBase, ref_of, word_of, unset_word, Pieces, Piece, Leaf, Inner, Change, Rebuild, row_at, SlotHolds}
use Rattle.ist_core.specs.LogTerms.{Snapshot, HoldsRows, Log, state}
use Rattle.ist_core.specs.TreeTerms.{new_leaf, new_rebuild, pair_row, pair_over, FitsKind, a_put, a_pair, a_remove, a_start, a_finish, AllGrow}
use Rattle.ist_core.proofs.ReferenceLemmas.{ref_of-unset, ref_of-word_of, word_of-ref_of}
use Rattle.ist_core.proofs.MoveLemmas.{HeldLieApart}
use Rattle.ist_core.proofs.InstallLemmas.{with_installed}
use Rattle.ist_core.proofs.FreshLemmas.{IsPublishedWith, fresh_stands}
use Rattle.ist_core.proofs.StepLemmas.{IsInstalledWith}
use Rattle.ist_core.proofs.GrowingLemmas.{leaf_there}
use Rattle.ist_core.proofs.NamingLemmas.{LeafHere, SideNames, SlotNames, RootNames, RowNames, WordsName, side_grows, inner_here_grows}

-- a pair row is an inner row
pub pair_is_inner : (key base other_key other : ℕ)
    → (r : InnerRow) × (pair_row key base other_key other ≡ Inner r)
pair_is_inner key base other_key other = elim (nat_lt other_key key) as
    (λ v. (r : InnerRow) × ((if v then pair_over key other base else pair_over other_key base
    other) ≡ Inner r)) [ true ↦ (_, refl) | false ↦ (_, refl) ]

-- the slots of a pair row name its two leaves
over_names : (ps : Pieces) (at key left right : ℕ) → IsGoodBase left → IsGoodBase right
    → LeafHere ps left → LeafHere ps right → RowNames ps at (pair_over key left right)
over_names ps at key left right gl gr l r zero word e =
    let is : word_of (LeafAt left) ≡ word = cc in subst (λ w. SlotNames ps at 0 (ref_of w)) is
    (subst (λ o. SlotNames ps at 0 o) (sym (ref_of-word_of (LeafAt left) gl)) l)
over_names ps at key left right gl gr l r (suc zero) word e =
    let is : word_of (LeafAt right) ≡ word = cc in subst (λ w. SlotNames ps at 1 (ref_of w)) is
    (subst (λ o. SlotNames ps at 1 o) (sym (ref_of-word_of (LeafAt right) gr)) r)
over_names ps at key left right gl gr l r (suc (suc i)) word e = absurd (cc)

-- a pair row over two leaves names them
pub pair_names : (ps : Pieces) (at key base other_key other : ℕ) → IsGoodBase base
    → IsGoodBase other → LeafHere ps base → LeafHere ps other
    → RowNames ps at (pair_row key base other_key other)
pair_names ps at key base other_key other gb go b o = elim (nat_lt other_key key) as
    (λ v. RowNames ps at (if v then pair_over key other base else pair_over other_key base
    other)) [
      | true ↦ over_names ps at key other base go gb o b
      | false ↦ over_names ps at other_key base other gb go b o
    ]

-- a word that isn't Unset isn't read so
pub not_unset : (word : ℕ) → word ≢ unset_word → ref_of word ≢ Some Unset
not_unset word ne e = let read = word_of-ref_of word Unset e in let same = read.same_word in ne
    (sym same)

-- a root that is set may be put into the slot of its rebuild
root_side : (ps : Pieces) (node i target : ℕ) (ref : Option Ref) → node < target → ref ≢ Some Unset
    → RootNames ps target ref → SideNames ps node i ref
root_side ps node i target (Some Unset) low set h = absurd (set refl)
root_side ps node i target (Some Empty) low set h = tt
root_side ps node i target (Some (LeafAt base)) low set h = h
root_side ps node i target (Some (InnerAt base)) low set h = let high = h.0 in (omega arith, h.1)
root_side ps node i target (Some (ChangeAt base)) low set h = absurd h
root_side ps node i target (Some (RebuildAt base)) low set h = absurd h
root_side ps node i target None low set h = absurd h

-- no change is taken out of a slot
pub from_plain : (first : Snapshot) (log : Log) (change : ChangeRow) (fresh : List Row)
    → FitsKind first log change fresh → (base : ℕ) → ref_of change.from ≢ Some (ChangeAt base)
from_plain first log change fresh (a_put h) base e = grind arith
from_plain first log change fresh (a_pair h) base e = grind arith
from_plain first log change fresh (a_remove h) base e = grind arith
from_plain first log change fresh (a_start h) base e = grind arith
from_plain first log change fresh (a_finish h) base e = grind arith

module _ (first : Snapshot) (log : Log) (caller at : ℕ) (change : ChangeRow) (fresh : List Row)
    (sound : HeldLieApart (state first log))
    (holds : HoldsRows (state first log) caller (row_at at (Change change) ∷ fresh))
    (in_slot : SlotHolds (state first log) change.node change.index change.from)
    (names : WordsName (state first log))
    (slot : SlotNames (state first log).pieces change.node change.index (ref_of change.from))
    (qs : Pieces) (is : qs ≡ with_installed (state first log).pieces at change fresh)
    (grows : AllGrow (state first log).pieces qs) where
  -- what a change takes out of its slot
  pub from_side : FitsKind first log change fresh
      → SideNames (state first log).pieces change.node change.index (ref_of change.from)
  from_side (a_put h) = grind (arith, SideNames)
  from_side (a_pair h) = grind (arith, SideNames)
  from_side (a_remove h) = grind (arith, SideNames)
  from_side (a_start h) = grind (arith, SideNames, SlotNames)
  from_side (a_finish h) = grind (arith, SideNames, SlotNames)

  -- a fresh row is published
  stands : (fits : FitsKind first log change fresh) (base : ℕ) (p : Piece)
      → IsPublishedWith first log change fresh fits base p → qs base ≡ Some p
  stands fits base p f = ap (λ ps. ps base) is ∙ fresh_stands first log caller at change fresh sound
      (state first log).pieces fits holds base p f

  -- what a change puts into its slot
  pub to_side : FitsKind first log change fresh
      → SideNames qs change.node change.index (ref_of change.to)
  to_side (a_put h) =
      subst (λ o. SideNames qs change.node change.index o) (sym h.to) (
        record { key = change.key; value = change.value },
        stands (a_put h) h.leaf (new_leaf change) (refl, refl),
      )
  to_side (a_pair h) = let row = pair_is_inner change.key h.leaf h.other_key h.other in
      subst (λ o. SideNames qs change.node change.index o) (sym h.to) (
        h.above,
        (
          row.0,
          stands (a_pair h) h.pair (pair_row change.key h.leaf h.other_key h.other)
              (inl (refl, refl)) ∙ ap (λ x. Some x) row.1,
        ),
      )
  to_side (a_remove h) = subst (λ o. SideNames qs change.node change.index o) (sym h.to) tt
  to_side (a_start h) = subst (λ o. SideNames qs change.node change.index o) (sym h.to)
      record {
        row = _;
        published = stands (a_start h) h.rebuild (new_rebuild change h.target) (refl, refl);
        parent = refl;
        index = refl;
      }
  to_side (a_finish h) = let row = names.rows h.rebuild (Rebuild h.row) h.published in
      let low = row.0 in let same = h.parent in
      let side = root_side (state first log).pieces change.node change.index h.row.target
      (ref_of h.row.root) (omega arith) (not_unset h.row.root h.built.set) row.2 in
      subst (λ w. SideNames qs change.node change.index (ref_of w)) (sym h.to)
      (side_grows (state first log).pieces qs grows change.node change.index (ref_of h.row.root)
      side)

  -- what the fresh rows name. A pair row names the leaf that is in the slot and the new one
  fresh_names : (fits : FitsKind first log change fresh)
      → ((base : ℕ) (p : Piece) → qs base ≡ Some p → IsGoodBase base) → (base : ℕ) (p : Piece)
      → IsPublishedWith first log change fresh fits base p → RowNames qs base p
  fresh_names (a_put h) good base p (here, new) = subst (λ x. RowNames qs base x) (sym new) tt
  fresh_names (a_pair h) good base p (inl (here, new)) =
      let leaf = stands (a_pair h) h.leaf (new_leaf change) (inr (refl, refl)) in
      let old = leaf_there (state first log).pieces qs grows h.other h.stands.row h.stands.published
      in
      subst (λ x. RowNames qs base x) (sym new)
      (pair_names qs base change.key h.leaf h.other_key h.other (good h.leaf (new_leaf change) leaf)
      (good h.other (Leaf h.stands.row) old) (_, leaf) (_, old))
  fresh_names (a_pair h) good base p (inr (here, new)) = grind (arith, RowNames)
  fresh_names (a_remove h) good base p f = absurd f
  fresh_names (a_start h) good base p (here, new) =
      let side = subst (λ o. SlotNames (state first log).pieces change.node change.index o) h.from
      slot in
      subst (λ x. RowNames qs base x) (sym new) (
        side.0,
        inner_here_grows (state first log).pieces qs grows h.target side.1,
        subst (λ o. RootNames qs h.target o) (sym ref_of-unset) tt,
      )
  fresh_names (a_finish h) good base p f = absurd f

  -- what all rows of the Install name
  pub installed_names : (fits : FitsKind first log change fresh)
      → ((base : ℕ) (p : Piece) → qs base ≡ Some p → IsGoodBase base) → (base : ℕ) (p : Piece)
      → IsInstalledWith first log at change fresh fits base p → RowNames qs base p
  installed_names fits good base p (inl (here, new)) =
      grind (arith, RowNames, side_grows, from_side, to_side)
  installed_names fits good base p (inr f) = fresh_names fits good base p f
