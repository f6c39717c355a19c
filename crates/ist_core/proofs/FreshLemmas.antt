-- Which rows an Install publishes with its change's row, and where they are. Serves each law about
-- rows.
use Rattle.std.proofs.Common.{◌≡◌, ◌≢◌, ℕ, ◌⊎◌, ◌==◌, if◌then◌else◌, List, ◌∷◌, length, Option, Some, refl, sym, ap, ◌∙◌, subst, inl, inr, arith}
use Rattle.ist_core.specs.Types.{Row, ChangeRow}
use Rattle.ist_core.specs.WordTerms.{start_kind, Pieces, Piece, Change, words_of, row_at, leaf_of, inner_of, rebuild_of, with_row}
use Rattle.ist_core.specs.LogTerms.{Snapshot, HoldsRow, HoldsRows, Log, state, with_fresh}
use Rattle.ist_core.specs.TreeTerms.{new_leaf, new_rebuild, pair_row, FitsKind, a_put, a_pair, a_remove, a_start, a_finish}
use Rattle.ist_core.proofs.OptionLemmas.{with_row-same, with_row-some, with_row-other}
use Rattle.ist_core.proofs.MoveLemmas.{HeldLieApart}
use Rattle.ist_core.proofs.InstallLemmas.{inner_of-pair_row, with_installed}

-- the row is one that is published together with the change
abbrev pub IsPublishedWith : (first : Snapshot) (log : Log) (change : ChangeRow) (fresh : List Row)
    → FitsKind first log change fresh → ℕ → Piece → Type 0
IsPublishedWith first log change fresh (a_put h) base p = (base ≡ h.leaf) × (p ≡ new_leaf change)
IsPublishedWith first log change fresh (a_pair h) base p =
    ((base ≡ h.pair) × (p ≡ pair_row change.key h.leaf h.other_key h.other)) ⊎
    ((base ≡ h.leaf) × (p ≡ new_leaf change))
IsPublishedWith first log change fresh (a_remove h) base p = ⊥
IsPublishedWith first log change fresh (a_start h) base p = (base ≡ h.rebuild) ×
    (p ≡ new_rebuild change h.target)
IsPublishedWith first log change fresh (a_finish h) base p = ⊥

-- a fresh row is read as a rebuild at a start, and as a leaf otherwise
abbrev read_of : ℕ → List ℕ → Option Piece
read_of kind words = if kind == start_kind then rebuild_of words else leaf_of words

-- each row after one was put is the new one, or was there before
one_row : (ps : Pieces) (at base : ℕ) (o : Option Piece) (new p : Piece) → o ≡ Some new
    → with_row ps at o base ≡ Some p → ((base ≡ at) × (p ≡ new)) ⊎ (ps base ≡ Some p)
one_row ps at base o new p read e = grind (arith, with_row-some)

-- each row after the fresh rows are published is one of them, or was there before
pub fresh_from : (ps : Pieces) (first : Snapshot) (log : Log) (change : ChangeRow)
    (fresh : List Row) (fits : FitsKind first log change fresh) (base : ℕ) (p : Piece)
    → with_fresh ps change fresh base ≡ Some p
    → IsPublishedWith first log change fresh fits base p ⊎ (ps base ≡ Some p)
fresh_from ps first log change fresh (a_put h) base p e = grind (arith, one_row)
fresh_from ps first log change fresh (a_pair h) base p e = grind (arith, one_row, inner_of-pair_row)
fresh_from ps first log change fresh (a_remove h) base p e = grind arith
fresh_from ps first log change fresh (a_start h) base p e = grind (arith, one_row)
fresh_from ps first log change fresh (a_finish h) base p e = grind arith

-- a row that was put is at its base
put_stands : (ps : Pieces) (at base : ℕ) (o : Option Piece) (new p : Piece) → o ≡ Some new
    → base ≡ at → p ≡ new → with_row ps at o base ≡ Some p
put_stands ps at base o new p read here is = grind (arith, with_row-same)

-- rows of different sizes that a caller holds have different bases
pub sizes_apart : (t : Snapshot) (caller base other size more : ℕ) → HeldLieApart t
    → HoldsRow t caller base size → HoldsRow t caller other more → size ≢ more → base ≢ other
sizes_apart t caller base other size more sound h k differ same =
    differ (ap (λ row. row.size) (sound.once record { caller = caller; base = base; size = size }
    record { caller = caller; base = other; size = more } h k same))

pub pair_size : (key base other_key other : ℕ)
    → length (words_of (pair_row key base other_key other)) ≡ 7
pair_size key base other_key other = grind arith

module _ (first : Snapshot) (log : Log) (caller at : ℕ) (change : ChangeRow) (fresh : List Row)
    (sound : HeldLieApart (state first log)) where
  -- a fresh row is held, and is not at the change's base
  fresh_apart : (size : ℕ) (base : ℕ) → HoldsRow (state first log) caller at 9
      → HoldsRow (state first log) caller base size → size ≢ 9 → base ≢ at
  fresh_apart size base h k differ = sizes_apart (state first log) caller base at size 9 sound k h
      differ

  -- each fresh row is published after the Install
  pub fresh_stands : (ps : Pieces) (fits : FitsKind first log change fresh)
      → HoldsRows (state first log) caller (row_at at (Change change) ∷ fresh)
      → (base : ℕ) (p : Piece)
      → IsPublishedWith first log change fresh fits base p → with_installed ps at change fresh base ≡ Some p
  fresh_stands ps (a_put h) holds base p (here, is) =
      let held = subst (λ rows. HoldsRows (state first log) caller
      (row_at at (Change change) ∷ rows)) h.fresh_are holds in
      let read : read_of change.kind (words_of (new_leaf change)) ≡ Some (new_leaf change) = ap
      (λ k. read_of k (words_of (new_leaf change))) h.kind in
      let out = fresh_apart 2 h.leaf held.0 held.1.0 (λ e. omega arith) in
      with_row-other (with_fresh ps change fresh) at base (Some (Change change))
      (λ e. out (sym here ∙ e))
      ∙ subst (λ rows. with_fresh ps change rows base ≡ Some p) (sym h.fresh_are)
      (put_stands ps h.leaf base (read_of change.kind (words_of (new_leaf change)))
      (new_leaf change) p read here is)
  fresh_stands ps (a_pair h) holds base p (inl (here, is)) =
      let row = pair_row change.key h.leaf h.other_key h.other in
      let held = subst (λ rows. HoldsRows (state first log) caller
      (row_at at (Change change) ∷ rows)) h.fresh_are holds in
      let size = pair_size change.key h.leaf h.other_key h.other in
      let out = fresh_apart (length (words_of row)) h.pair held.0 held.1.0
      (λ e. let nine : 7 ≡ 9 = sym size ∙ e in absurd (omega arith)) in
      with_row-other (with_fresh ps change fresh) at base (Some (Change change))
      (λ e. out (sym here ∙ e))
      ∙ subst (λ rows. with_fresh ps change rows base ≡ Some p) (sym h.fresh_are)
      (put_stands (with_row ps h.leaf (Some (new_leaf change))) h.pair base
      (inner_of (words_of row)) row p (inner_of-pair_row change.key h.leaf h.other_key h.other)
      here is)
  fresh_stands ps (a_pair h) holds base p (inr (here, is)) =
      let row = pair_row change.key h.leaf h.other_key h.other in
      let held = subst (λ rows. HoldsRows (state first log) caller
      (row_at at (Change change) ∷ rows)) h.fresh_are holds in
      let size = pair_size change.key h.leaf h.other_key h.other in
      let out = fresh_apart 2 h.leaf held.0 held.1.1.0 (λ e. omega arith) in
      let beside = sizes_apart (state first log) caller h.leaf h.pair 2 (length (words_of row))
      sound held.1.1.0 held.1.0 (λ e. let seven : 2 ≡ 7 = e ∙ size in absurd (omega arith)) in
      with_row-other (with_fresh ps change fresh) at base (Some (Change change))
      (λ e. out (sym here ∙ e))
      ∙ subst (λ rows. with_fresh ps change rows base ≡ Some p) (sym h.fresh_are)
      (with_row-other (with_row ps h.leaf (Some (new_leaf change))) h.pair base
      (inner_of (words_of row)) (λ e. beside (sym here ∙ e))
      ∙ put_stands ps h.leaf base (Some (new_leaf change)) (new_leaf change) p refl here is)
  fresh_stands ps (a_remove h) holds base p f = absurd f
  fresh_stands ps (a_start h) holds base p (here, is) = let row = new_rebuild change h.target in
      let held = subst (λ rows. HoldsRows (state first log) caller
      (row_at at (Change change) ∷ rows)) h.fresh_are holds in
      let read : read_of change.kind (words_of row) ≡ Some row = ap (λ k. read_of k (words_of row))
      h.kind in
      let out = fresh_apart 5 h.rebuild held.0 held.1.0 (λ e. omega arith) in
      with_row-other (with_fresh ps change fresh) at base (Some (Change change))
      (λ e. out (sym here ∙ e))
      ∙ subst (λ rows. with_fresh ps change rows base ≡ Some p) (sym h.fresh_are)
      (put_stands ps h.rebuild base (read_of change.kind (words_of row)) row p read here is)
  fresh_stands ps (a_finish h) holds base p f = absurd f
