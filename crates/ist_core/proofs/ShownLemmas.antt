-- Which words a state shows: one at each place, which is the image's word and in no held or lost
-- row. Serves what the laws and the rule say of words.
use Rattle.std.proofs.Common.{List, Some, None, ap, arith, refl, slice_get, sym, subst, inl, inr, ℕ, ⊎_elim, ◌+◌, ◌<◌, ◌≡◌, ◌≤◌, ◌⊎◌}
use Rattle.ist_core.specs.Types.{Pair}
use Rattle.ist_core.specs.WordTerms.{IsImage, Piece, size_of, words_of, anchor_slot_place, anchor_status_place, callers_place, first_row, next_place, start, open_word}
use Rattle.ist_core.specs.LogTerms.{EachEnabled, state_of, Log, IsShown, shown_callers, shown_free, shown_next, shown_row, shown_slot, shown_status, Snapshot}
use Rattle.ist_core.specs.TreeTerms.{IsSetAside}
use Rattle.ist_core.proofs.ImageLemmas.{get_below}
use Rattle.ist_core.proofs.PlaceLemmas.{claimed_apart, claimed_set_aside, claimed_within, next_after_fixed, placed}
use Rattle.ist_core.proofs.OptionLemmas.{same_value, no_value}

-- the image has each word that is shown
pub image_shows : (t : Snapshot) (image : List ℕ) → IsImage t image → {place word : ℕ}
    → IsShown t place word → slice_get image place ≡ Some word
image_shows t image is shown_next = is.next
image_shows t image is shown_callers = is.callers
image_shows t image is shown_status = is.anchor_status
image_shows t image is shown_slot = is.anchor_slot
image_shows t image is (shown_row base p k e at) = grind (arith, get_below)
image_shows t image is (shown_free low high) = is.free _ low high

-- a word of a published row is shown at its place
pub shown_in_row : {t : Snapshot} {place word : ℕ} (base k : ℕ) (p : Piece) → t.pieces base ≡ Some p
    → place ≡ base + k → slice_get (words_of p) k ≡ Some word → IsShown t place word
shown_in_row {t = t} {word = word} base k p e at read =
    subst (λ q. IsShown t q word) (sym at) (shown_row base p k e read)

-- the anchor's word is shown in its slot
pub shown_in_anchor : {t : Snapshot} {place word : ℕ} → place ≡ anchor_slot_place → t.anchor ≡ word
    → IsShown t place word
shown_in_anchor {t = t} {word = word} at is =
    subst (λ q. IsShown t q word) (sym at) (subst (IsShown t anchor_slot_place) is shown_slot)

-- ---- one word at a place

same_get : (xs ys : List ℕ) (j k w v : ℕ) → xs ≡ ys → j ≡ k → slice_get xs j ≡ Some w
    → slice_get ys k ≡ Some v → w ≡ v
same_get xs ys j k w v e f g h = cc

module _ (pairs : List Pair) (words : ℕ) (log : Log)
    (enabled : EachEnabled (start pairs words) log) where
  -- a word of a row is the one at its place
  pub row_word : (base k w : ℕ) (p : Piece) → (state_of pairs words log).pieces base ≡ Some p
      → slice_get (words_of p) k ≡ Some w
      → (place v : ℕ) → IsShown (state_of pairs words log) place v → place ≡ base + k → v ≡ w
  row_word base k w p e there place v has same = at has same
    where
      inside : first_row ≤ base
      inside = (claimed_within pairs words log base (size_of p) enabled
          ((placed pairs words log enabled).published base p e)).after_fixed

      high : base + size_of p ≤ (state_of pairs words log).next
      high = (claimed_within pairs words log base (size_of p) enabled
          ((placed pairs words log enabled).published base p e)).below_next

      less : k < size_of p
      less = get_below (words_of p) k w there

      at : {place v : ℕ} → IsShown (state_of pairs words log) place v → place ≡ base + k → v ≡ w
      at shown_next is = let low = inside in absurd (omega arith)
      at shown_callers is = let low = inside in absurd (omega arith)
      at shown_status is = let low = inside in absurd (omega arith)
      at shown_slot is = let low = inside in absurd (omega arith)
      at (shown_free far near) is = let end = high in let short = less in absurd (omega arith)
      at (shown_row other q j f g) is = let short = get_below (words_of q) j _ g in
          let long = less in ⊎_elim
          (λ one. let base_is = one.0 in same_get (words_of q) (words_of p) j k _ w
          (ap words_of
          (same_value ((state_of pairs words log).pieces base) q p
          (subst (λ b. (state_of pairs words log).pieces b ≡ Some q) base_is f) e))
          (omega arith) g there)
          (λ two. ⊎_elim (λ before. absurd (omega arith)) (λ following. absurd (omega arith)) two.1)
          (claimed_apart pairs words log other (size_of q) base (size_of p) enabled
          ((placed pairs words log enabled).published other q f)
          ((placed pairs words log enabled).published base p e))

  -- a place below the rows has one word
  pub fixed_row : (other j : ℕ) (q : Piece) → (state_of pairs words log).pieces other ≡ Some q
      → first_row ≤ other + j
  fixed_row other j q f =
      let inside = claimed_within pairs words log other (size_of q) enabled
      ((placed pairs words log enabled).published other q f) in
      let low = inside.after_fixed in omega arith

  -- the word that is shown at `next_place` is the first free place
  pub next_word : (place v : ℕ) → IsShown (state_of pairs words log) place v → place ≡ next_place
      → v ≡ (state_of pairs words log).next
  next_word _ _ shown_next is = refl
  next_word _ _ shown_callers is = absurd (omega arith)
  next_word _ _ shown_status is = absurd (omega arith)
  next_word _ _ shown_slot is = absurd (omega arith)
  next_word _ _ (shown_free far near) is = grind (arith, next_after_fixed)
  next_word _ _ (shown_row other q j f g) is = let low = fixed_row other j q f in
      absurd (omega arith)

  -- the word that is shown at the anchor's place is the anchor's
  pub anchor_word : (place v : ℕ) → IsShown (state_of pairs words log) place v
      → place ≡ anchor_slot_place → v ≡ (state_of pairs words log).anchor
  anchor_word _ _ shown_next is = absurd (omega arith)
  anchor_word _ _ shown_callers is = absurd (omega arith)
  anchor_word _ _ shown_status is = absurd (omega arith)
  anchor_word _ _ shown_slot is = refl
  anchor_word _ _ (shown_free far near) is = grind (arith, next_after_fixed)
  anchor_word _ _ (shown_row other q j f g) is = let low = fixed_row other j q f in
      absurd (omega arith)

  -- the word that is shown at the callers' place is their number
  pub callers_word : (place v : ℕ) → IsShown (state_of pairs words log) place v → place ≡ callers_place
      → v ≡ (state_of pairs words log).callers
  callers_word _ _ shown_next is = absurd (omega arith)
  callers_word _ _ shown_callers is = refl
  callers_word _ _ shown_status is = absurd (omega arith)
  callers_word _ _ shown_slot is = absurd (omega arith)
  callers_word _ _ (shown_free far near) is = grind (arith, next_after_fixed)
  callers_word _ _ (shown_row other q j f g) is = let low = fixed_row other j q f in
      absurd (omega arith)

  -- the word that is shown at the anchor's status is the open word
  status_word : (place v : ℕ) → IsShown (state_of pairs words log) place v
      → place ≡ anchor_status_place → v ≡ open_word
  status_word _ _ shown_next is = absurd (omega arith)
  status_word _ _ shown_callers is = absurd (omega arith)
  status_word _ _ shown_status is = refl
  status_word _ _ shown_slot is = absurd (omega arith)
  status_word _ _ (shown_free far near) is = grind (arith, next_after_fixed)
  status_word _ _ (shown_row other q j f g) is = let low = fixed_row other j q f in
      absurd (omega arith)

  -- a free word is 0
  free_word : (place v : ℕ) → IsShown (state_of pairs words log) place v
      → (state_of pairs words log).next ≤ place → v ≡ 0
  free_word _ _ shown_next far = grind (arith, next_after_fixed)
  free_word _ _ shown_callers far = grind (arith, next_after_fixed)
  free_word _ _ shown_status far = grind (arith, next_after_fixed)
  free_word _ _ shown_slot far = grind (arith, next_after_fixed)
  free_word _ _ (shown_free far near) _ = refl
  free_word _ _ (shown_row other q j f g) far = let short = get_below (words_of q) j _ g in
      let inside = claimed_within pairs words log other (size_of q) enabled
      ((placed pairs words log enabled).published other q f) in
      let high = inside.below_next in absurd (omega arith)

  -- a place shows one word
  pub one_word : (place word other : ℕ) → IsShown (state_of pairs words log) place word
      → IsShown (state_of pairs words log) place other → word ≡ other
  one_word _ _ v shown_next also = sym (next_word _ v also refl)
  one_word _ _ v shown_callers also = sym (callers_word _ v also refl)
  one_word _ _ v shown_status also = sym (status_word _ v also refl)
  one_word _ _ v shown_slot also = sym (anchor_word _ v also refl)
  one_word _ _ v (shown_row base p k e at) also = sym (row_word base k _ p e at _ v also refl)
  one_word _ _ v (shown_free far near) also = sym (free_word _ v also far)

  -- ---- elsewhere

  -- a place that shows a word lies in no row that was set aside and isn't published
  pub word_elsewhere : (place word base size : ℕ) → IsShown (state_of pairs words log) place word
      → IsSetAside pairs words log base size
      → (state_of pairs words log).pieces base ≡ None → (place < base) ⊎ (base + size ≤ place)
  word_elsewhere place word base size shown aside none = at shown
    where
      low : first_row ≤ base
      low = (claimed_within pairs words log base size enabled
          (claimed_set_aside pairs words log base size aside)).after_fixed

      high : base + size ≤ (state_of pairs words log).next
      high = (claimed_within pairs words log base size enabled
          (claimed_set_aside pairs words log base size aside)).below_next

      at : {place word : ℕ} → IsShown (state_of pairs words log) place word
          → (place < base) ⊎ (base + size ≤ place)
      at shown_next = let here = low in inl (omega arith)
      at shown_callers = let here = low in inl (omega arith)
      at shown_status = let here = low in inl (omega arith)
      at shown_slot = let here = low in inl (omega arith)
      at (shown_free far near) = let end = high in inr (omega arith)
      at (shown_row other p k e read) = let inside = get_below (words_of p) k _ read in ⊎_elim
          (λ same. absurd (no_value ((state_of pairs words log).pieces base) p none
          (subst (λ b. (state_of pairs words log).pieces b ≡ Some p) same.0 e)))
          (λ apart. ⊎_elim (λ l. inl (omega arith)) (λ l. inr (omega arith)) apart.1)
          (claimed_apart pairs words log other (size_of p) base size enabled
          ((placed pairs words log enabled).published other p e)
          (claimed_set_aside pairs words log base size aside))
