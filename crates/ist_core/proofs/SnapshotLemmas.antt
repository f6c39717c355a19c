-- A state and the snapshot that it shows determine each other. Serves `laws.states_are_shown`.
use Rattle.std.proofs.Common.{◌≡◌, ℕ, Option, Some, None, refl, arith}
use Rattle.std.specs.Ordering.{nat_cmp}
use Rattle.std.specs.Cmp.{nat_cmp_total}
use Rattle.std.specs.FinMap as fin
use Rattle.ist_core.specs.Types.{State}
use Rattle.ist_core.specs.WordTerms.{Piece, Leaf, Inner, Change, Rebuild, as_leaf, as_inner, as_change, as_rebuild}
use Rattle.ist_core.specs.LogTerms.{Snapshot, Shows}

-- maps with the same row at each base are equal
same_rows : {X : Type 0} (m n : fin.FinMap nat_cmp X)
    → ((base : ℕ) → fin.get m base ≡ fin.get n base) → m ≡ n
same_rows m n alike = fin.same_map nat_cmp_total fin.nat_cmp-IsAntisymmetric m n alike

-- two states that show one snapshot are equal
pub one_state : (s u : State) (t : Snapshot) → Shows s t → Shows u t → s ≡ u
one_state s u t a b = grind (arith, same_rows)

-- rows that are the same by each kind are the same
same_piece : (p q : Option Piece) → as_leaf p ≡ as_leaf q → as_inner p ≡ as_inner q
    → as_change p ≡ as_change q → as_rebuild p ≡ as_rebuild q → p ≡ q
same_piece None None l i c r = refl
same_piece (Some (Leaf x)) (Some (Leaf y)) l i c r = cc
same_piece (Some (Inner x)) (Some (Inner y)) l i c r = cc
same_piece (Some (Change x)) (Some (Change y)) l i c r = cc
same_piece (Some (Rebuild x)) (Some (Rebuild y)) l i c r = cc
same_piece None (Some (Leaf y)) l i c r = absurd (cc)
same_piece None (Some (Inner y)) l i c r = absurd (cc)
same_piece None (Some (Change y)) l i c r = absurd (cc)
same_piece None (Some (Rebuild y)) l i c r = absurd (cc)
same_piece (Some (Leaf x)) _ l i c r = absurd (cc)
same_piece (Some (Inner x)) _ l i c r = absurd (cc)
same_piece (Some (Change x)) _ l i c r = absurd (cc)
same_piece (Some (Rebuild x)) _ l i c r = absurd (cc)

-- one state shows the rows of one snapshot
pub one_snapshot : (s : State) (t u : Snapshot) → Shows s t → Shows s u → (base : ℕ)
    → t.pieces base ≡ u.pieces base
one_snapshot s t u a b base = grind (arith, same_piece)
