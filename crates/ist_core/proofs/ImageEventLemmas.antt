-- What each kind of event writes into the image. Serves `laws.one_word_is_written`.
use Rattle.std.proofs.Common.{◌≡◌, ℕ, ◌+◌, ◌<◌, List, ◌∷◌, length, slice_set, Some, None, refl, sym, ap, ◌∙◌, subst, ⊎_elim, arith, length-set}
use Rattle.ist_core.specs.Types.{Row, InnerRow, RebuildRow, Enter, Reserve, Install, Resolve, Count, Root, Draw, Place}
use Rattle.ist_core.specs.WordTerms.{next_place, callers_place, anchor, anchor_status_place, anchor_slot_place, ChangeAt, word_of, unset_word, Piece, Inner, Change, Rebuild, words_of, row_at, as_inner, as_change, as_rebuild, with_inners, changed_at, counted, with_root, drawn, StandsAt, IsImage, in_row}
use Rattle.ist_core.specs.LogTerms.{Snapshot, after, side_of, resolved, Log, state}
use Rattle.ist_core.specs.TreeTerms.{CanInstall, CanResolve, CanRoot, CanPlace, touch_of, touched, touch_of_resolve, touch_of_count, touch_of_draw, touch_of_place, touch_in_root, place_of_slot, RowsStand}
use Rattle.ist_core.proofs.MoveLemmas.{HeldLieApart}
use Rattle.ist_core.proofs.InstallLemmas.{with_installed}
use Rattle.ist_core.proofs.StepLemmas.{adds_install, adds-with_inners, rows_resolved, rows_placed, holds_installed}
use Rattle.ist_core.proofs.RoomLemmas.{get-set_same, get-set_other, no_row}
use Rattle.ist_core.specs.Naming.{HasDegree}
use Rattle.ist_core.proofs.SlotStepLemmas.{elsewhere}
use Rattle.ist_core.proofs.ImageLemmas.{image_row, image_slot}
use Rattle.ist_core.proofs.HomeStepLemmas.{inners_stand, row_stands, installed_row, RowsApart}

-- ---- the events that write no word, or a fixed one

-- only what callers hold changes
pub image_same : (t u : Snapshot) (words : List ℕ) → u.words ≡ t.words → u.next ≡ t.next
    → u.callers ≡ t.callers → u.anchor ≡ t.anchor → u.pieces ≡ t.pieces → IsImage t words
    → IsImage u words
image_same t u words a b c d e image = grind arith

-- a fixed word before all rows is written
pub row_after : (words : List ℕ) (base place word : ℕ) (p : Piece) → place < base
    → StandsAt words base p → StandsAt (slice_set words place word) base p
row_after words base place word p low h k less = grind (arith, get-set_other)

-- an Enter writes one word of the image
pub image_enter : (t : Snapshot) (caller : ℕ) (words : List ℕ) → RowsApart t → IsImage t words
    → IsImage (after t (Enter caller)) (slice_set words callers_place (t.callers + 1))
image_enter t caller words a image = let low = a.low_next in record {
  size = length-set words callers_place (t.callers + 1) ∙ image.size;
  next = get-set_other words callers_place next_place (t.callers + 1) (λ e. omega arith) ∙
      image.next;
  callers = get-set_same words callers_place (t.callers + 1) t.callers image.callers;
  anchor_status = get-set_other words callers_place anchor_status_place (t.callers + 1)
      (λ e. omega arith) ∙ image.anchor_status;
  anchor_slot = get-set_other words callers_place anchor_slot_place (t.callers + 1)
      (λ e. omega arith) ∙ image.anchor_slot;
  rows = λ base p e. let in_it = a.within base p e in let bottom = in_it.after_fixed in
      row_after words base callers_place (t.callers + 1) p (omega arith) (image.rows base p e);
  free = λ place k l. get-set_other words callers_place place (t.callers + 1) (λ e. omega arith)
      ∙ image.free place k l;
}

-- a Reserve writes one word of the image
pub image_reserve : (t : Snapshot) (caller base size : ℕ) (words : List ℕ) → base ≡ t.next → RowsApart t
    → IsImage t words
    → IsImage (after t (Reserve caller base size)) (slice_set words next_place (base + size))
image_reserve t caller base size words is a image = let low = a.low_next in record {
  size = length-set words next_place (base + size) ∙ image.size;
  next = get-set_same words next_place (base + size) t.next image.next;
  callers = get-set_other words next_place callers_place (base + size) (λ e. omega arith) ∙
      image.callers;
  anchor_status = get-set_other words next_place anchor_status_place (base + size)
      (λ e. omega arith) ∙ image.anchor_status;
  anchor_slot = get-set_other words next_place anchor_slot_place (base + size)
      (λ e. omega arith) ∙ image.anchor_slot;
  rows = λ b p e. let in_it = a.within b p e in let bottom = in_it.after_fixed in row_after
      words b next_place (base + size) p (omega arith) (image.rows b p e);
  free = λ place k l. get-set_other words next_place place (base + size) (λ e. omega arith) ∙
      image.free place (omega arith) l;
}

-- ---- the events that write a word of a row

-- the image after a word of a published row is written
pub image_word : (t u : Snapshot) (words : List ℕ) (node j word : ℕ) (p : Piece) (f : Piece → Piece)
    → RowsApart u → u.words ≡ t.words → u.next ≡ t.next → u.callers ≡ t.callers
    → u.anchor ≡ t.anchor → u.pieces ≡ changed_at t.pieces node f
    → t.pieces node ≡ Some p → j < length (words_of p)
    → words_of (f p) ≡ slice_set (words_of p) j word → IsImage t words
    → IsImage u (slice_set words (node + j) word)
image_word t u words node j word p f a same next callers anchored pieces there below is image =
    image_row t u words image same next callers a.low_next a.within a.apart t.pieces node j word p f
    image.rows anchored there pieces below is

-- a Count writes one word of the image
pub image_count : (t : Snapshot) (caller node : ℕ) (words : List ℕ) (r : InnerRow)
    → t.pieces node ≡ Some (Inner r) → RowsApart (after t (Count caller node)) → IsImage t words
    → IsImage (after t (Count caller node)) (touched words (touch_of t (Count caller node)))
image_count t caller node words r e a image =
    subst (λ x. IsImage (after t (Count caller node)) (touched words (touch_of_count node x)))
    (sym (ap as_inner e))
    (image_word t (after t (Count caller node)) words node 1 (r.count + 1) (Inner r) counted a refl
    refl refl refl refl e (omega arith) refl image)

-- a Draw writes one word of the image
pub image_draw : (t : Snapshot) (caller rebuild part : ℕ) (words : List ℕ) (r : RebuildRow)
    → t.pieces rebuild ≡ Some (Rebuild r) → RowsApart (after t (Draw caller rebuild part))
    → IsImage t words → IsImage (after t (Draw caller rebuild part))
    (touched words (touch_of t (Draw caller rebuild part)))
image_draw t caller rebuild part words r e a image =
    subst (λ x. IsImage (after t (Draw caller rebuild part))
    (touched words (touch_of_draw rebuild x))) (sym (ap as_rebuild e))
    (image_word t (after t (Draw caller rebuild part)) words rebuild 4 (r.draw + 1) (Rebuild r)
    drawn a refl refl refl refl refl e (omega arith) refl image)

-- ---- the events that write a slot, and a Root

-- what a state must satisfy for its slots to be written
pub record SlotsReady (t : Snapshot) : Type 0 where
  pub free : t.pieces anchor ≡ None
  -- an inner row has `degree` slots and one key less
  pub shaped : (base : ℕ) (r : InnerRow) → t.pieces base ≡ Some (Inner r) → HasDegree r
  pub sound : HeldLieApart t

-- a Resolve writes one word of the image
pub image_resolve : (t : Snapshot) (caller base : ℕ) (words : List ℕ) (h : CanResolve t caller base)
    → SlotsReady t → RowsApart (after t (Resolve caller base)) → IsImage t words
    → IsImage (after t (Resolve caller base)) (touched words (touch_of t (Resolve caller base)))
image_resolve t caller base words h ready a image = let u = resolved t (Some h.change) in
    let b = subst RowsApart (rows_resolved t caller base h) a in
    subst (λ x. IsImage (after t (Resolve caller base)) (touched words (touch_of_resolve t base x)))
    (sym (ap as_change h.published))
    (subst (λ x. IsImage x (slice_set words (place_of_slot t h.change.node h.change.index)
    (side_of h.change))) (sym (rows_resolved t caller base h))
    (image_slot t u words image refl refl refl b.low_next b.within b.apart t.pieces h.change.node
    h.change.index (side_of h.change) (word_of (ChangeAt base))
    image.rows ready.free ready.free (λ at p e. e) ready.shaped refl refl h.in_slot))

-- a Place writes one word of the image, if its rows are in their words
pub image_place : (t : Snapshot) (caller rebuild i word : ℕ) (rows : List Row) (words : List ℕ)
    (h : CanPlace t caller rebuild i word rows)
    → SlotsReady t → RowsApart (after t (Place caller rebuild i word rows))
    → with_inners t.pieces rows anchor ≡ None → RowsStand words rows → IsImage t words
    → IsImage (after t (Place caller rebuild i word rows))
    (touched words (touch_of t (Place caller rebuild i word rows)))
image_place t caller rebuild i word rows words h ready a free stand image =
    let u = after t (Place caller rebuild i word rows) in let qs = with_inners t.pieces rows in
    let keeps = (adds-with_inners t caller rows h.held ready.sound).keeps in
    let touch = ap (λ o. touch_of_place t o i word) (ap as_rebuild h.published) ∙ ap
    (λ o. touch_in_root t o i word) h.root_is in
    subst (λ x. IsImage u (touched words x)) (sym touch)
    (image_slot t u words image refl refl refl a.low_next a.within a.apart qs h.root i word unset_word
    (inners_stand t.pieces words rows stand image.rows) ready.free free keeps ready.shaped
    (rows_placed t caller rebuild i word rows h)
    (elsewhere h.root word t.anchor
    (λ e. no_row t.pieces h.root h.root_row ready.free e h.root_published))
    (in_row h.root_row h.root_published h.free))

-- a Root writes one word of the image, if its rows are in their words
pub image_root : (t : Snapshot) (caller rebuild word : ℕ) (rows : List Row) (words : List ℕ)
    (h : CanRoot t caller rebuild word rows)
    → SlotsReady t → RowsApart (after t (Root caller rebuild word rows))
    → RowsStand words rows → IsImage t words → IsImage (after t (Root caller rebuild word rows))
    (touched words (touch_of t (Root caller rebuild word rows)))
image_root t caller rebuild word rows words h ready a stand image =
    let u = after t (Root caller rebuild word rows) in let qs = with_inners t.pieces rows in
    let keeps = (adds-with_inners t caller rows h.held ready.sound).keeps in
    image_row t u words image refl refl refl a.low_next a.within a.apart qs rebuild 3 word
    (Rebuild h.row) (with_root word) (inners_stand t.pieces words rows stand image.rows) refl
    (keeps rebuild (Rebuild h.row) h.published) refl (omega arith) refl

-- an Install writes one word of the image, if its rows are in their words
pub image_install : (first : Snapshot) (log : Log) (caller base : ℕ) (rows : List Row) (words : List ℕ)
    (h : CanInstall first log caller base rows) → SlotsReady (state first log)
    → RowsApart (after (state first log) (Install caller base rows))
    → with_installed (state first log).pieces base h.change h.fresh anchor ≡ None
    → RowsStand words rows → IsImage (state first log) words
    → IsImage (after (state first log) (Install caller base rows))
    (touched words (touch_of (state first log) (Install caller base rows)))
image_install first log caller base rows words h ready a free stand image =
    let t = state first log in let all = row_at base (Change h.change) ∷ h.fresh in
    let b = subst (λ xs. RowsApart (after t (Install caller base xs))) h.rows_are a in
    let there = subst (λ xs. RowsStand words xs) h.rows_are stand in
    let qs = with_installed t.pieces base h.change h.fresh in
    let adds = adds_install first log caller base h.change h.fresh h.fits
    (holds_installed first log caller base rows h) ready.sound in
    subst (λ xs. IsImage (after t (Install caller base xs))
    (touched words (touch_of t (Install caller base xs)))) (sym h.rows_are)
    (image_slot t (after t (Install caller base all)) words image refl refl refl b.low_next b.within
    b.apart qs h.change.node h.change.index (word_of (ChangeAt base)) h.change.from
    (λ at p e. ⊎_elim (λ old. image.rows at p old)
    (λ new. row_stands words all (row_at at p) at p there
    (installed_row first log base h.change h.fresh h.fits at p new) refl refl)
    (adds.from at p e))
    ready.free free adds.keeps ready.shaped refl refl h.in_slot)
