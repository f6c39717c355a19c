-- Rows that an Install publishes. Serves `laws.rows_are_known`.
use Rattle.std.proofs.Common.{◌≡◌, ℕ, ◌⊎◌, ◌==◌, if◌then◌else◌, List, [], ◌∷◌, length, Option, Some, refl, sym, ap, ◌∙◌, subst, inl, inr, ⊎_elim, arith}
use Rattle.ist_core.specs.Types.{Row, ChangeRow}
use Rattle.ist_core.specs.WordTerms.{start_kind, Pieces, Piece, Change, size_of, words_of, row_at, leaf_of, inner_of, rebuild_of, with_row}
use Rattle.ist_core.specs.LogTerms.{Among, Snapshot, bases_of, Log, with_fresh}
use Rattle.ist_core.specs.TreeTerms.{new_leaf, new_rebuild, pair_row, FitsKind, a_put, a_pair, a_remove, a_start, a_finish}
use Rattle.ist_core.proofs.OptionLemmas.{with_row-some, with_row-other}
use Rattle.ist_core.proofs.SizeLemmas.{size_of-inner_of}
use Rattle.ist_core.proofs.SplitLemmas.{LiesAt, stands-with_row, stands_here, PublishesRows}

-- a leaf has the number of words that it was read from
size_of-leaf_of : (words : List ℕ) (p : Piece) → leaf_of words ≡ Some p → size_of p ≡ length words
size_of-leaf_of [] p e = absurd (cc)
size_of-leaf_of (a ∷ []) p e = absurd (cc)
size_of-leaf_of (a ∷ b ∷ []) p e = grind arith
size_of-leaf_of (a ∷ b ∷ c ∷ words) p e = absurd (cc)

-- a rebuild has the number of words that it was read from
size_of-rebuild_of : (words : List ℕ) (p : Piece) → rebuild_of words ≡ Some p
    → size_of p ≡ length words
size_of-rebuild_of [] p e = absurd (cc)
size_of-rebuild_of (a ∷ []) p e = absurd (cc)
size_of-rebuild_of (a ∷ b ∷ []) p e = absurd (cc)
size_of-rebuild_of (a ∷ b ∷ c ∷ []) p e = absurd (cc)
size_of-rebuild_of (a ∷ b ∷ c ∷ d ∷ []) p e = absurd (cc)
size_of-rebuild_of (a ∷ b ∷ c ∷ d ∷ f ∷ []) p e = grind arith
size_of-rebuild_of (a ∷ b ∷ c ∷ d ∷ f ∷ g ∷ words) p e = absurd (cc)

-- what a fresh row after the change's is read as, by the kind of the change
fresh_of : ChangeRow → List ℕ → Option Piece
fresh_of change words = if change.kind == start_kind then rebuild_of words else leaf_of words

size_of-fresh_of : (change : ChangeRow) (words : List ℕ) (p : Piece)
    → fresh_of change words ≡ Some p → size_of p ≡ length words
unfolding fresh_of
size_of-fresh_of change words p e = grind (arith, size_of-rebuild_of, size_of-leaf_of)

-- each row after the fresh rows are published was there before, or is one of them
fresh-some : (ps : Pieces) (change : ChangeRow) (rows : List Row) (base : ℕ) (q : Piece)
    → with_fresh ps change rows base ≡ Some q
    → (ps base ≡ Some q) ⊎ ((row : Row) × Among row rows × (row.base ≡ base) ×
    (size_of q ≡ length row.words))
unfolding fresh_of
fresh-some ps change [] base q e = inl e
fresh-some ps change (row ∷ []) base q e = grind (arith, size_of-fresh_of, with_row-some)
fresh-some ps change (pair ∷ leaf ∷ []) base q e =
    grind (arith, size_of-inner_of, size_of-leaf_of, with_row-some)
fresh-some ps change (a ∷ b ∷ c ∷ rows) base q e = inl e

-- at a base that no fresh row has, the row is the same as before
fresh-other : (ps : Pieces) (change : ChangeRow) (rows : List Row) (base : ℕ)
    → ¬ (Among base (bases_of rows)) → with_fresh ps change rows base ≡ ps base
unfolding fresh_of
fresh-other ps change [] base out = refl
fresh-other ps change (row ∷ []) base out = grind (arith, with_row-other)
fresh-other ps change (pair ∷ leaf ∷ []) base out = grind (arith, with_row-other)
fresh-other ps change (a ∷ b ∷ c ∷ rows) base out = refl

-- a pair row is read from its words
pub inner_of-pair_row : (key base other_key other : ℕ)
    → inner_of (words_of (pair_row key base other_key other)) ≡ Some
    (pair_row key base other_key other)
inner_of-pair_row key base other_key other = grind arith

-- each fresh row of a change is published with it
fresh_named : (ps : Pieces) (first : Snapshot) (log : Log) (change : ChangeRow) (fresh : List Row)
    → FitsKind first log change fresh
    → (row : Row) → Among row fresh → LiesAt (with_fresh ps change fresh) row.base
unfolding fresh_of
fresh_named ps first log change fresh (a_put h) =
    let read = ap (λ k. if k == start_kind then rebuild_of (words_of (new_leaf change)) else leaf_of
    (words_of (new_leaf change))) h.kind in
    subst (λ rows. (row : Row) → Among row rows → LiesAt (with_fresh ps change rows) row.base)
    (sym h.fresh_are) (λ row i. one h.leaf read row i)
  where
    one : (leaf : ℕ) → fresh_of change (words_of (new_leaf change)) ≡ Some (new_leaf change)
        → (row : Row) → Among row (row_at leaf (new_leaf change) ∷ [])
        → LiesAt (with_row ps leaf (fresh_of change (words_of (new_leaf change)))) row.base
    one leaf read row (inl e) =
        subst (λ b. LiesAt (with_row ps leaf (fresh_of change (words_of (new_leaf change)))) b)
        (sym (ap (λ r. r.base) e)) (stands_here ps leaf
        (fresh_of change (words_of (new_leaf change))) (new_leaf change) read)
    one leaf read row (inr i) = absurd i
fresh_named ps first log change fresh (a_pair h) =
    subst (λ rows. (row : Row) → Among row rows → LiesAt (with_fresh ps change rows) row.base)
    (sym h.fresh_are)
    (λ row i. two (pair_row change.key h.leaf h.other_key h.other) h.pair h.leaf
    (inner_of-pair_row change.key h.leaf h.other_key h.other) row i)
  where
    two : (p : Piece) (pair leaf : ℕ) → inner_of (words_of p) ≡ Some p → (row : Row)
        → Among row (row_at pair p ∷ row_at leaf (new_leaf change) ∷ [])
        → LiesAt (with_row (with_row ps leaf (Some (new_leaf change))) pair (inner_of (words_of p)))
        row.base
    two p pair leaf read row (inl e) =
        subst (λ b. LiesAt (with_row (with_row ps leaf (Some (new_leaf change))) pair
        (inner_of (words_of p))) b) (sym (ap (λ r. r.base) e))
        (stands_here (with_row ps leaf (Some (new_leaf change))) pair (inner_of (words_of p)) p
        read)
    two p pair leaf read row (inr (inl e)) =
        subst (λ b. LiesAt (with_row (with_row ps leaf (Some (new_leaf change))) pair
        (inner_of (words_of p))) b) (sym (ap (λ r. r.base) e))
        (stands-with_row (with_row ps leaf (Some (new_leaf change))) pair leaf
        (inner_of (words_of p)) (stands_here ps leaf (Some (new_leaf change)) (new_leaf change)
        refl))
    two p pair leaf read row (inr (inr i)) = absurd i
fresh_named ps first log change fresh (a_remove h) = grind arith
fresh_named ps first log change fresh (a_start h) =
    let read = ap (λ k. if k == start_kind then rebuild_of (words_of (new_rebuild change h.target))
    else leaf_of (words_of (new_rebuild change h.target))) h.kind in
    subst (λ rows. (row : Row) → Among row rows → LiesAt (with_fresh ps change rows) row.base)
    (sym h.fresh_are) (λ row i. one (new_rebuild change h.target) h.rebuild read row i)
  where
    one : (p : Piece) (base : ℕ) → fresh_of change (words_of p) ≡ Some p → (row : Row)
        → Among row (row_at base p ∷ [])
        → LiesAt (with_row ps base (fresh_of change (words_of p))) row.base
    one p base read row (inl e) = subst
        (λ b. LiesAt (with_row ps base (fresh_of change (words_of p))) b) (sym (ap (λ r. r.base) e))
        (stands_here ps base (fresh_of change (words_of p)) p read)
    one p base read row (inr i) = absurd i
fresh_named ps first log change fresh (a_finish h) = grind arith

-- the rows with the change and its fresh rows
abbrev pub with_installed : Pieces → ℕ → ChangeRow → List Row → Pieces
with_installed ps base change fresh = with_row (with_fresh ps change fresh) base
    (Some (Change change))

-- an Install publishes the change and its fresh rows
pub publishes_install : (ps : Pieces) (first : Snapshot) (log : Log) (base : ℕ) (change : ChangeRow)
    (fresh : List Row) → FitsKind first log change fresh
    → PublishesRows ps (row_at base (Change change) ∷ fresh) (with_installed ps base change fresh)
publishes_install ps first log base change fresh fits = record {
  from = λ at q e. ⊎_elim (λ h. inr (row_at base (Change change), inl refl, sym h.0, size h.1))
      (λ h. ⊎_elim (λ k. inl k) (λ k. inr (k.0, inr k.1, k.2, k.3))
      (fresh-some ps change fresh at q h))
      (with_row-some (with_fresh ps change fresh) base at (Some (Change change)) q e);
  others = λ at out. with_row-other (with_fresh ps change fresh) base at (Some (Change change))
      (λ e. out (inl e)) ∙ fresh-other ps change fresh at (λ i. out (inr i));
  named = λ row i. each row i;
}
  where
    size : {q : Piece} → Some (Change change) ≡ Some q → size_of q ≡ 9
    size {q = q} e = let is : Change change ≡ q = cc in subst (λ p. size_of p ≡ 9) is refl

    each : (row : Row) → Among row (row_at base (Change change) ∷ fresh)
        → LiesAt (with_installed ps base change fresh) row.base
    each row (inl e) = subst (λ b. LiesAt (with_installed ps base change fresh) b)
        (sym (ap (λ r. r.base) e)) (stands_here (with_fresh ps change fresh) base
        (Some (Change change)) (Change change) refl)
    each row (inr i) = stands-with_row (with_fresh ps change fresh) base row.base
        (Some (Change change)) (fresh_named ps first log change fresh fits row i)
