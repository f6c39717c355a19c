-- Rows among which no change was decided no. Serves the `examples` that install a change.
use Rattle.std.proofs.Common.{◌≡◌, ℕ, ◌≢◌, Option, Some, None, option_map, refl, arith}
use Rattle.ist_core.specs.WordTerms.{decided_no, Pieces, Piece, Leaf, Inner, Change, Rebuild, with_row, changed_at, with_slot, with_status, with_decision, with_root}

-- the row is no change that was decided no
unfoldable pub NotRefused : Piece → Type 0
NotRefused (Change r) = r.decision ≢ decided_no
NotRefused _ = Unit {0}

-- no row is a change that was decided no
abbrev pub NoneDecidedNo : Pieces → Type 0
NoneDecidedNo ps = (base : ℕ) (p : Piece) → ps base ≡ Some p → NotRefused p

-- putting a row that isn't a refused change adds no refusal
pub none_refused-with_row : (ps : Pieces) (at : ℕ) (p : Piece) → NotRefused p → NoneDecidedNo ps
    → NoneDecidedNo (with_row ps at (Some p))
none_refused-with_row ps at p h all base q e = grind arith

mapped : (f : Piece → Piece) (o : Option Piece) (q : Piece) → option_map f o ≡ Some q
    → (p : Piece) × (o ≡ Some p) × (f p ≡ q)
mapped f None q e = absurd (cc)
mapped f (Some p) q e = (p, refl, (cc))

-- a change of a row that refuses nothing adds no refusal
pub none_refused-changed_at : (ps : Pieces) (at : ℕ) (f : Piece → Piece)
    → ((p : Piece) → NotRefused p → NotRefused (f p)) → NoneDecidedNo ps
    → NoneDecidedNo (changed_at ps at f)
none_refused-changed_at ps at f keeps all base q e = grind (arith, mapped)

-- writing a slot refuses nothing
pub slot_keeps : (i word : ℕ) (p : Piece) → NotRefused p → NotRefused (with_slot i word p)
unfolding NotRefused
slot_keeps i word (Leaf r) h = h
slot_keeps i word (Inner r) h = h
slot_keeps i word (Change r) h = h
slot_keeps i word (Rebuild r) h = h

-- writing a status refuses nothing
pub status_keeps : (status : ℕ) (p : Piece) → NotRefused p → NotRefused (with_status status p)
unfolding NotRefused
status_keeps status (Leaf r) h = h
status_keeps status (Inner r) h = h
status_keeps status (Change r) h = h
status_keeps status (Rebuild r) h = h

-- deciding yes refuses nothing
pub yes_keeps : (p : Piece) → NotRefused p → NotRefused (with_decision 1 p)
unfolding NotRefused
yes_keeps (Leaf r) h = h
yes_keeps (Inner r) h = h
yes_keeps (Change r) h = λ e. omega arith
yes_keeps (Rebuild r) h = h

-- writing a root refuses nothing
pub root_keeps : (word : ℕ) (p : Piece) → NotRefused p → NotRefused (with_root word p)
unfolding NotRefused
root_keeps word (Leaf r) h = h
root_keeps word (Inner r) h = h
root_keeps word (Change r) h = h
root_keeps word (Rebuild r) h = h
