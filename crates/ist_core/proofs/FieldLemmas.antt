-- A field of rows that few events write: its value after any other event is its value before.
-- Serves the order law.
use Rattle.std.proofs.Common.{◌≡◌, ◌≢◌, ℕ, ◌⊎◌, List, ◌∷◌, Some, subst, inl, inr, ⊎_elim, ◌+◌, refl, arith}
use Rattle.ist_core.specs.Types.{Row, InnerRow, ChangeRow, Event, Install, Decide, Resolve, Count, Mark, Finish, Root, Draw, Place, Pair}
use Rattle.ist_core.specs.WordTerms.{ChangeAt, word_of, open_word, marked_word, finished_word, IsTop, Pieces, Piece, Inner, with_inners, changed_at, with_slot, with_status, counted, with_decision, with_root, drawn, unset_word, Leaf, Change, Rebuild, rows_within}
use Rattle.ist_core.specs.TreeTerms.{PlacedLeaf, FitsKind, CanRoot}
use Rattle.ist_core.specs.LogTerms.{Among, Each, Snapshot, bases_of, after, Log, state, Enabled}
use Rattle.ist_core.proofs.OptionLemmas.{each-among, changed_at-some}
use Rattle.ist_core.proofs.MoveLemmas.{HeldLieApart}
use Rattle.ist_core.proofs.InstallLemmas.{with_installed}
use Rattle.ist_core.proofs.StepLemmas.{IsInstalledWith, adds_install, adds-with_inners, installed_has, rows_resolved, rows_placed, holds_installed, known}
use Rattle.ist_core.proofs.SplitLemmas.{ideal_rows, root_rows}
use Rattle.ist_core.proofs.ShapedLemmas.{rows_have}

-- what the event writes of a row that was there before leaves the field; a word in a slot and a
-- decision leave it anyway
abbrev pub LeavesField : (Piece → ℕ) → Event → Type 0
LeavesField field (Mark caller node) = (p : Piece) → field (with_status marked_word p) ≡ field p
LeavesField field (Finish caller node keys) =
    (p : Piece) → field (with_status (finished_word keys) p) ≡ field p
LeavesField field (Count caller node) = (p : Piece) → field (counted p) ≡ field p
LeavesField field (Root caller rebuild word rows) = (p : Piece) → field (with_root word p) ≡ field p
LeavesField field (Draw caller rebuild part) = (p : Piece) → field (drawn p) ≡ field p
LeavesField field _ = Unit {0}

-- the field has one value in all rows that an event publishes, and neither a word in a slot nor a
-- decision changes it
pub record IsRare (field : Piece → ℕ) (none : ℕ) : Type 0 where
  -- a word in a slot doesn't change the field
  pub slot : (i word : ℕ) (p : Piece) → field (with_slot i word p) ≡ field p
  -- a decision doesn't change the field
  pub decision : (word : ℕ) (p : Piece) → field (with_decision word p) ≡ field p
  -- an open inner row without a count has the field's first value
  pub inner : (r : InnerRow) → r.status ≡ open_word → r.count ≡ 0 → field (Inner r) ≡ none
  -- each row that an Install publishes has the field's first value
  pub install : (first : Snapshot) (log : Log) (at : ℕ) (change : ChangeRow) (fresh : List Row)
      (fits : FitsKind first log change fresh) (base : ℕ) (p : Piece)
      → IsInstalledWith first log at change fresh fits base p → field p ≡ none

module _ (field : Piece → ℕ) (none : ℕ) (rare : IsRare field none) where
  -- the row at the base has this value
  abbrev pub Has : Pieces → ℕ → ℕ → Type 0
  Has ps base value = (p : Piece) × (ps base ≡ Some p) × (field p ≡ value)

  -- a change of a row that leaves the field leaves its values
  pub has_changed : (ps : Pieces) (at : ℕ) (f : Piece → Piece)
      → ((p : Piece) → field (f p) ≡ field p) → (base value : ℕ)
      → Has (changed_at ps at f) base value → Has ps base value
  has_changed ps at f same base value h = grind (arith, changed_at-some)

  has_added : (ps qs : Pieces)
      → ((base : ℕ) (p : Piece) → qs base ≡ Some p → (ps base ≡ Some p) ⊎ (field p ≡ none))
      → (base value : ℕ) → value ≢ none → Has qs base value → Has ps base value
  has_added ps qs from base value set h = grind arith

  top_none : (ps : Pieces) (base : ℕ) (r : InnerRow) (leaves : List PlacedLeaf) (above : ℕ)
      → IsTop ps base r leaves above → Has ps base none
  top_none ps base r leaves above top = (Inner r, top.published, rare.inner r top.status top.count)

  tree_none : (ps : Pieces) (rows : List ℕ) (base : ℕ) (p : Piece)
      → Each (λ b. Has ps b none) rows → Among base rows → ps base ≡ Some p → field p ≡ none
  tree_none ps rows base p all i e = grind (arith, each-among, known)

  -- a value after the rows of a Root are published was there before
  pub has_rooted : (t : Snapshot) (caller rebuild word : ℕ) (rows : List Row)
      → CanRoot t caller rebuild word rows → HeldLieApart t → (base value : ℕ) → value ≢ none
      → Has (with_inners t.pieces rows) base value → Has t.pieces base value
  has_rooted t caller rebuild word rows h s base value set has =
      let qs = with_inners t.pieces rows in let adds = adds-with_inners t caller rows h.held s in
      has_added t.pieces qs (λ b p e. ⊎_elim (λ old. inl old)
      (λ i. inr (tree_none qs (bases_of rows) b p
      (root_rows qs (λ x. Has qs x none) (top_none qs) word h.k h.leaves h.row.target (bases_of rows)
      h.root) i e))
      (adds.from b p e)) base value set has

  -- a value after any event that leaves the field was there before
  pub has_step : (first : Snapshot) (log : Log) (event : Event) → Enabled first log event
      → HeldLieApart (state first log) → LeavesField field event → (base value : ℕ) → value ≢ none
      → Has (state first (event ∷ log)).pieces base value → Has (state first log).pieces base value
  has_step first log (Install caller at rows) h s same base value set has =
      let t = state first log in let qs = with_installed t.pieces at h.change h.fresh in
      let word = word_of (ChangeAt at) in
      let adds = adds_install first log caller at h.change h.fresh h.fits
      (holds_installed first log caller at rows h) s in
      let there : Has (changed_at qs h.change.node (with_slot h.change.index word)) base value =
      subst (λ xs. Has (after t (Install caller at xs)).pieces base value) h.rows_are has in
      has_added t.pieces qs (λ b p e. ⊎_elim (λ old. inl old)
      (λ new. inr (rare.install first log at h.change h.fresh h.fits b p new))
      (adds.from b p e)) base value set
      (has_changed qs h.change.node (with_slot h.change.index word) (rare.slot h.change.index word)
      base value there)
  has_step first log (Resolve caller change) h s same base value set has =
      grind (arith, has_changed, rows_resolved)
  has_step first log (Place caller rebuild i word rows) h s same base value set has =
      let t = state first log in let qs = with_inners t.pieces rows in
      let adds = adds-with_inners t caller rows h.held s in
      has_added t.pieces qs (λ b p e. ⊎_elim (λ old. inl old)
      (λ j. inr (tree_none qs (bases_of rows) b p
      (ideal_rows qs (λ x. Has qs x none) (top_none qs) h.ref h.part h.root (bases_of rows) h.ideal)
      j e)) (adds.from b p e))
      base value set
      (has_changed qs h.root (with_slot i word) (rare.slot i word) base value
      (subst (λ ps. Has ps base value) (rows_placed t caller rebuild i word rows h) has))
  has_step first log (Decide caller change said) h s same base value set has =
      grind (arith, has_changed)
  has_step first log (Count caller node) h s same base value set has = grind (arith, has_changed)
  has_step first log (Draw caller rebuild part) h s same base value set has = has_changed
      (state first log).pieces rebuild drawn same base value has
  has_step first log (Mark caller node) h s same base value set has = grind (arith, has_changed)
  has_step first log (Finish caller node keys) h s same base value set has = has_changed
      (state first log).pieces node (with_status (finished_word keys)) same base value has
  has_step first log (Root caller rebuild word rows) h s same base value set has =
      let t = state first log in has_rooted t caller rebuild word rows h s base value set
      (has_changed (with_inners t.pieces rows) rebuild (with_root word) same base value has)
  has_step first log _ h s same base value set has = has

-- ---- the fields of rows that few events write: the status and the count of an inner row, the root and
-- the draw word of a rebuild. Serves `StatusFieldLemmas`, `RootFieldLemmas` and `RowNumberLemmas`.

-- what the functions make of an inner row's status and count, and of a rebuild's root and draw word,
-- and `none` of other rows
abbrev pub field_in : (ℕ → ℕ → ℕ) → (ℕ → ℕ → ℕ) → ℕ → Piece → ℕ
field_in inner rebuild none (Inner r) = inner r.status r.count
field_in inner rebuild none (Rebuild r) = rebuild r.root r.draw
field_in inner rebuild none _ = none

module _ (inner rebuild : ℕ → ℕ → ℕ) (none : ℕ) where
  -- the field of a row
  abbrev field : Piece → ℕ
  field = field_in inner rebuild none

  -- ---- what leaves it

  -- a status leaves a field that isn't the status
  pub status_same : ((old new n : ℕ) → inner new n ≡ inner old n) → (status : ℕ) (p : Piece)
      → field (with_status status p) ≡ field p
  status_same same status (Inner r) = same r.status status r.count
  status_same same status (Leaf r) = refl
  status_same same status (Change r) = refl
  status_same same status (Rebuild r) = refl

  -- a Count leaves a field that isn't the count
  pub count_same : ((status n : ℕ) → inner status (n + 1) ≡ inner status n) → (p : Piece)
      → field (counted p) ≡ field p
  count_same same (Inner r) = same r.status r.count
  count_same same (Leaf r) = refl
  count_same same (Change r) = refl
  count_same same (Rebuild r) = refl

  -- a root leaves a field that isn't the root
  pub root_same : ((old new n : ℕ) → rebuild new n ≡ rebuild old n) → (word : ℕ) (p : Piece)
      → field (with_root word p) ≡ field p
  root_same same word (Inner r) = refl
  root_same same word (Leaf r) = refl
  root_same same word (Change r) = refl
  root_same same word (Rebuild r) = same r.root word r.draw

  -- a Draw leaves a field that isn't the draw word
  pub draw_same : ((root n : ℕ) → rebuild root (n + 1) ≡ rebuild root n) → (p : Piece)
      → field (drawn p) ≡ field p
  draw_same same (Inner r) = refl
  draw_same same (Leaf r) = refl
  draw_same same (Change r) = refl
  draw_same same (Rebuild r) = same r.root r.draw

  -- ---- fresh rows have none

  module _ (new_inner : inner open_word 0 ≡ none) (new_rebuild : rebuild unset_word 0 ≡ none) where
    installed_fresh : (first : Snapshot) (log : Log) (at : ℕ) (change : ChangeRow)
        (fresh : List Row) (fits : FitsKind first log change fresh) (base : ℕ) (p : Piece)
        → IsInstalledWith first log at change fresh fits base p → field p ≡ none
    installed_fresh = grind (arith, installed_has)

    -- the rows of a new tree have none
    pub rows_fresh : (fuel base : ℕ) (pairs : List Pair)
        → Each (λ row. field row.1 ≡ none) (rows_within fuel base pairs)
    rows_fresh = rows_have (λ p. field p ≡ none) (λ r. refl) (λ base all two. new_inner)

    -- few events write the field
    pub field_rare : IsRare field none
    field_rare = grind (arith, installed_fresh)
