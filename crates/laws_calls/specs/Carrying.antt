-- Ideal subtrees among other rows than those in which they were built.
use Rattle.std.specs.Prelude.{List, None, Some, [], ℕ, ◌++◌, ◌∷◌, ◌≡◌}
use Rattle.ist_core.specs.declared.lists.Row.{Row}
use Rattle.ist_core.specs.declared.states.InnerRow.{InnerRow}
use Rattle.ist_core.specs.declared.states.LeafRow.{LeafRow}
use Rattle.ist_core.specs.Elements.{Among}
use Rattle.ist_core.specs.Ideals.{AreIdeal, IsIdeal}
use Rattle.ist_core.specs.Leaves.{PlacedLeaf}
use Rattle.ist_core.specs.Pieces.{Inner, Leaf, Pieces, with_inners}
use Rattle.ist_core.specs.References.{Ref, ref_of}
use Rattle.ist_core.specs.Snapshots.{bases_of}

-- each leaf of the first rows is also among the second
abbrev pub KeepsLeaves : Pieces → Pieces → Type 0
KeepsLeaves ps qs = (base : ℕ) (r : LeafRow) → ps base ≡ Some (Leaf r) → qs base ≡ Some (Leaf r)

-- each inner row at these bases is also among the second
abbrev pub KeepsInners : Pieces → Pieces → List ℕ → Type 0
KeepsInners ps qs bases =
    (base : ℕ) (r : InnerRow) → Among base bases → ps base ≡ Some (Inner r)
    → qs base ≡ Some (Inner r)

-- an ideal subtree stays one wherever its leaves and its own rows are
abbrev pub IdealsCarryOver : Type 0
IdealsCarryOver =
    (ps qs : Pieces) → KeepsLeaves ps qs
    → (ref : Ref) (leaves : List PlacedLeaf) (above : ℕ) (bases : List ℕ)
    → KeepsInners ps qs bases → IsIdeal ps ref leaves above bases → IsIdeal qs ref leaves above
    bases

-- parts stay ideal in the same way
abbrev pub PartsCarryOver : Type 0
PartsCarryOver =
    (ps qs : Pieces) → KeepsLeaves ps qs
    → (words : List ℕ) (following : List (List PlacedLeaf)) (above : ℕ) (bases : List ℕ)
    → KeepsInners ps qs bases → AreIdeal ps words following above bases
    → AreIdeal qs words following above bases

-- no row is at the base of one of these rows, and the two lists share no base
pub record AreFreeFor (ps : Pieces) (xs ys : List Row) : Type 0 where
  pub free : (base : ℕ) → Among base (bases_of (xs ++ ys)) → ps base ≡ None
  pub apart : (base : ℕ) → Among base (bases_of xs) → ¬ (Among base (bases_of ys))

-- some parts in published rows, and an ideal subtree in other published rows, are together one part
-- more
abbrev pub PartsJoin : Type 0
PartsJoin =
    (ps : Pieces) (xs ys : List Row) → AreFreeFor ps xs ys
    → (words : List ℕ) (following : List (List PlacedLeaf)) (above word : ℕ) (ref : Ref)
    → (part : List PlacedLeaf) → AreIdeal (with_inners ps xs) words following above (bases_of xs)
    → ref_of word ≡ Some ref → IsIdeal (with_inners ps ys) ref part above (bases_of ys)
    → AreIdeal (with_inners ps (xs ++ ys)) (words ++ word ∷ []) (following ++ part ∷ []) above
    (bases_of (xs ++ ys))
