-- A word of the table is written: what the words are the image of. Serves the image law.
use Rattle.std.proofs.Common.{◌≡◌, ◌≢◌, ℕ, zero, suc, ◌+◌, ◌<◌, ◌≤◌, ◌⊎◌, ◌==◌, if◌then◌else◌, Bool, true, false, List, [], ◌∷◌, ◌++◌, length, get_or, slice_get, slice_set, Some, None, option_map, refl, sym, ap, ◌∙◌, subst, inl, inr, ⊎_elim, arith, length-set, length-append}
use Rattle.std.proofs.lemmas.Bool.Decides.{nat_tests, eqb_tells}
use Rattle.std.proofs.lemmas.Option.{slice_get-get_or}
use Rattle.ist_core.specs.Types.{InnerRow}
use Rattle.ist_core.specs.WordTerms.{next_place, callers_place, anchor, anchor_status_place, anchor_slot_place, first_row, slot_place, Pieces, Piece, Inner, words_of, size_of, changed_at, with_slot, as_inner, StandsAt, IsImage, SlotHolds, in_anchor, in_row}
use Rattle.ist_core.specs.LogTerms.{Snapshot}
use Rattle.ist_core.specs.TreeTerms.{Apart, IsWithin, place_in, place_of_slot}
use Rattle.ist_core.proofs.OptionLemmas.{changed_at-same, changed_at-other, changed_at-some, same_value, no_value}
use Rattle.ist_core.proofs.RoomLemmas.{get-set_same, get-set_other, no_row}
use Rattle.ist_core.specs.Naming.{HasDegree}

-- ---- one word of a list

-- there is a word below the end
pub has_word : (xs : List ℕ) (k : ℕ) → k < length xs → (word : ℕ) × (slice_get xs k ≡ Some word)
has_word xs k h = (get_or xs k 0, slice_get-get_or xs k 0 h)

-- a write past the end of a first part is a write in the rest
set_after : (xs ys : List ℕ) (i word : ℕ)
    → slice_set (xs ++ ys) (length xs + i) word ≡ xs ++ slice_set ys i word
set_after [] ys i word = let same : 0 + i ≡ i = omega arith in ap (λ k. slice_set ys k word) same
set_after (x ∷ xs) ys i word = let same : length (x ∷ xs) + i ≡ suc (length xs + i) = omega arith in
    ap (λ k. slice_set (x ∷ (xs ++ ys)) k word) same ∙ ap (λ zs. x ∷ zs) (set_after xs ys i word)

-- a slot of an inner row is one of its words
pub words_of-with_slot : (r : InnerRow) (i word : ℕ)
    → words_of (with_slot i word (Inner r)) ≡ slice_set (words_of (Inner r))
    (4 + length r.keys + i) word
words_of-with_slot r i word =
    let same : 4 + length r.keys + i ≡ suc (suc (suc (suc (length r.keys + i)))) = omega arith in
    ap (λ zs. r.status ∷ r.count ∷ r.degree ∷ r.size ∷ zs) (sym (set_after r.keys r.slots i word))
    ∙ ap (λ k. slice_set (words_of (Inner r)) k word) (sym same)

-- a word past the end of a first part is a word of the rest
pub get_after : (xs ys : List ℕ) (i : ℕ) → slice_get (xs ++ ys) (length xs + i) ≡ slice_get ys i
get_after [] ys i = let same : 0 + i ≡ i = omega arith in ap (slice_get ys) same
get_after (x ∷ xs) ys i = let same : length (x ∷ xs) + i ≡ suc (length xs + i) = omega arith in
    ap (slice_get (x ∷ (xs ++ ys))) same ∙ get_after xs ys i

-- the slots of an inner row follow its four fields and its keys
pub get-words_of_slot : (r : InnerRow) (i : ℕ)
    → slice_get (words_of (Inner r)) (4 + length r.keys + i) ≡ slice_get r.slots i
get-words_of_slot r i = grind (arith, get_after)

-- a word that is read lies below the end
pub get_below : (xs : List ℕ) (k word : ℕ) → slice_get xs k ≡ Some word → k < length xs
get_below [] k word e = absurd (cc)
get_below (x ∷ xs) zero word e = omega arith
get_below (x ∷ xs) (suc k) word e = let rest = get_below xs k word e in omega arith

-- ---- one word of a row

-- a row at a base, one word of which is written
pub stands_set : (words : List ℕ) (base j word : ℕ) (p q : Piece) → j < length (words_of p)
    → words_of q ≡ slice_set (words_of p) j word → StandsAt words base p
    → StandsAt (slice_set words (base + j) word) base q
stands_set words base j word p q below is h k less = at (eqb_tells k j)
  where
    at : (((k == j) ≡ true) × (k ≡ j)) ⊎ (((k == j) ≡ false) × (k ≢ j))
        → slice_get (slice_set words (base + j) word) (base + k) ≡ slice_get (words_of q) k
    at (inl e) = let old = has_word (words_of p) j below in let there = h j below ∙ old.1 in
        ap (λ n. slice_get (slice_set words (base + j) word) (base + n)) e.1 ∙ get-set_same words
        (base + j) word old.0 there
        ∙ sym (ap (λ ws. slice_get ws k) is ∙ ap (λ n. slice_get (slice_set (words_of p) j word) n)
        e.1 ∙ get-set_same (words_of p) j word old.0 old.1)
    at (inr e) = let long = length-set (words_of p) j word in let lens = ap length is in
        let apart : base + k ≢ base + j = λ f. e.1 (omega arith) in
        get-set_other words (base + j) (base + k) word apart ∙ h k (omega arith) ∙ sym
        (ap (λ ws. slice_get ws k) is ∙ get-set_other (words_of p) j k word e.1)

-- a row that doesn't cover the place keeps its words when the place is written
pub stands_other : (words : List ℕ) (base place word : ℕ) (p : Piece)
    → (place < base) ⊎ (base + size_of p ≤ place) → StandsAt words base p
    → StandsAt (slice_set words place word) base p
stands_other words base place word p out h k less = grind (arith, get-set_other)

-- ---- one word of the table

module _ (t u : Snapshot) (words : List ℕ) (image : IsImage t words)
    (same_words : u.words ≡ t.words) (next : u.next ≡ t.next) (callers : u.callers ≡ t.callers)
    (low_next : first_row ≤ u.next)
    (within : (base : ℕ) (p : Piece) → u.pieces base ≡ Some p → IsWithin u base (size_of p))
    (apart : (base other : ℕ) (p q : Piece) → u.pieces base ≡ Some p → u.pieces other ≡ Some q →
    base ≢ other → Apart base (size_of p) other (size_of q)) where
  -- the image after a word of a row is written, if the rows are in the words
  pub image_row : (ps : Pieces) (node j word : ℕ) (p : Piece) (f : Piece → Piece)
      → ((base : ℕ) (q : Piece) → ps base ≡ Some q → StandsAt words base q) → u.anchor ≡ t.anchor
      → ps node ≡ Some p → u.pieces ≡ changed_at ps node f → j < length (words_of p)
      → words_of (f p) ≡ slice_set (words_of p) j word → IsImage u (slice_set words (node + j) word)
  image_row ps node j word p f stand same_anchor there pieces below is =
      let now : u.pieces node ≡ Some (f p) = subst (λ qs. qs node ≡ Some (f p)) (sym pieces)
      (changed_at-same ps node f ∙ ap (option_map f) there) in
      let inside = within node (f p) now in let low = inside.after_fixed in
      let high = inside.below_next in
      let size : size_of (f p) ≡ length (words_of p) = ap length is ∙ length-set (words_of p) j word
      in
      record {
        size = length-set words (node + j) word ∙ image.size ∙ sym same_words;
        next = get-set_other words (node + j) next_place word (λ e. omega arith) ∙ image.next ∙ ap
            (λ n. Some n) (sym next);
        callers = get-set_other words (node + j) callers_place word (λ e. omega arith) ∙
            image.callers ∙ ap (λ n. Some n) (sym callers);
        anchor_status = get-set_other words (node + j) anchor_status_place word (λ e. omega arith) ∙
            image.anchor_status;
        anchor_slot = get-set_other words (node + j) anchor_slot_place word (λ e. omega arith) ∙
            image.anchor_slot ∙ ap (λ n. Some n) (sym same_anchor);
        rows = λ base q e. ⊎_elim (λ k. here base q e now k.1)
            (λ k. elsewhere base q e now k.1 size) (eqb_tells base node);
        free = λ place k l. get-set_other words (node + j) place word (λ e. omega arith) ∙
            image.free place (omega arith) (omega arith);
      }
    where
      here : (base : ℕ) (q : Piece) → u.pieces base ≡ Some q → u.pieces node ≡ Some (f p)
          → base ≡ node → StandsAt (slice_set words (node + j) word) base q
      here base q e now k = grind (arith, same_value, stands_set)

      elsewhere : (base : ℕ) (q : Piece) → u.pieces base ≡ Some q → u.pieces node ≡ Some (f p)
          → base ≢ node → size_of (f p) ≡ length (words_of p)
          → StandsAt (slice_set words (node + j) word) base q
      elsewhere base q e now k size = grind (arith, changed_at-other, stands_other)

  -- the anchor's slot is written
  pub image_anchor : (ps : Pieces) (word : ℕ)
      → ((base : ℕ) (q : Piece) → ps base ≡ Some q → StandsAt words base q) → u.anchor ≡ word
      → ((base : ℕ) (q : Piece) → u.pieces base ≡ Some q → ps base ≡ Some q)
      → IsImage u (slice_set words anchor_slot_place word)
  image_anchor ps word stand is old = record {
    size = length-set words anchor_slot_place word ∙ image.size ∙ sym same_words;
    next = get-set_other words anchor_slot_place next_place word (λ e. omega arith) ∙ image.next
        ∙ ap (λ n. Some n) (sym next);
    callers = get-set_other words anchor_slot_place callers_place word (λ e. omega arith) ∙
        image.callers ∙ ap (λ n. Some n) (sym callers);
    anchor_status = get-set_other words anchor_slot_place anchor_status_place word
        (λ e. omega arith) ∙ image.anchor_status;
    anchor_slot = get-set_same words anchor_slot_place word t.anchor image.anchor_slot ∙ ap
        (λ n. Some n) (sym is);
    rows = λ base q e. let inside = within base q e in let low = inside.after_fixed in
        stands_other words base anchor_slot_place word q (inl (omega arith))
        (stand base q (old base q e));
    free = λ place k l.
        get-set_other words anchor_slot_place place word (λ e. omega arith) ∙ image.free place
        (omega arith) (omega arith);
  }

  -- a slot is written, of an inner row with its shape or of the anchor
  pub image_slot : (ps : Pieces) (node i word old : ℕ)
      → ((base : ℕ) (q : Piece) → ps base ≡ Some q → StandsAt words base q) → t.pieces anchor ≡ None
      → ps anchor ≡ None → ((base : ℕ) (p : Piece) → t.pieces base ≡ Some p → ps base ≡ Some p)
      → ((base : ℕ) (r : InnerRow) → t.pieces base ≡ Some (Inner r) → HasDegree r)
      → u.pieces ≡ changed_at ps node (with_slot i word)
      → u.anchor ≡ (if node == anchor then word else t.anchor) → SlotHolds t node i old
      → IsImage u (slice_set words (place_of_slot t node i) word)
  image_slot ps node i word old stand free free_there keeps shaped pieces is (in_anchor a b e) =
      let place : place_of_slot t node i ≡ anchor_slot_place = subst
      (λ n. (if n == anchor then anchor_slot_place else place_in n i (as_inner (t.pieces n))) ≡
      anchor_slot_place) (sym a) refl in
      let now : u.anchor ≡ word = is ∙ subst (λ n. (if n == anchor then word else t.anchor) ≡ word)
      (sym a) refl in
      subst (λ k. IsImage u (slice_set words k word)) (sym place)
      (image_anchor ps word stand now
      (λ base q k.
      let it = changed_at-some ps node base (with_slot i word) q
      (subst (λ qs. qs base ≡ Some q) pieces k) in
      ⊎_elim (λ same. it.1 ∙ ap (λ x. Some x) (sym same))
      (λ new. absurd (no_value (ps anchor) it.0 free_there
      (subst (λ b. ps b ≡ Some it.0) (new.0 ∙ a) it.1))) it.2))
  image_slot ps node i word old stand free free_there keeps shaped pieces is (in_row r p g) =
      let out : node ≢ anchor = λ a. no_row t.pieces node r free a p in
      let shape = shaped node r p in let keys = shape.keys in let there = keeps node (Inner r) p in
      let read : as_inner (t.pieces node) ≡ Some r = ap as_inner p in
      let place : place_of_slot t node i ≡ node + (4 + length r.keys + i) = not_there
      (place_in node i (as_inner (t.pieces node))) out ∙ ap (place_in node i) read ∙ number keys
      in
      let lens = length-append r.keys r.slots in let below = get_below r.slots i old g in
      subst (λ k. IsImage u (slice_set words k word)) (sym place)
      (image_row ps node (4 + length r.keys + i) word (Inner r) (with_slot i word) stand
      (is ∙ not_there_word out) there pieces (omega arith) (words_of-with_slot r i word))
    where
      not_there : (k : ℕ) → node ≢ anchor → (if node == anchor then anchor_slot_place else k) ≡ k
      not_there k out = grind (arith, nat_tests)

      not_there_word : node ≢ anchor → (if node == anchor then word else t.anchor) ≡ t.anchor
      not_there_word out = at (node == anchor) refl
        where
          at : (v : Bool) → (node == anchor) ≡ v → (if v then word else t.anchor) ≡ t.anchor
          at true e = let same : node ≡ anchor = grind (arith, nat_tests) in absurd (out same)
          at false e = refl

      number : length r.keys + 1 ≡ r.degree
          → slot_place node r.degree i ≡ node + (4 + length r.keys + i)
      number keys = omega arith

-- the word of a slot is at its place
pub slot_found : (t : Snapshot) (words : List ℕ) (node i word : ℕ) → IsImage t words
    → t.pieces anchor ≡ None
    → ((base : ℕ) (r : InnerRow) → t.pieces base ≡ Some (Inner r) → HasDegree r)
    → SlotHolds t node i word → slice_get words (place_of_slot t node i) ≡ Some word
slot_found t words node i word image free shaped (in_anchor a b e) = grind arith
slot_found t words node i word image free shaped (in_row r p g) =
    let out : node ≢ anchor = λ a. no_row t.pieces node r free a p in let shape = shaped node r p in
    let keys = shape.keys in let read : as_inner (t.pieces node) ≡ Some r = ap as_inner p in
    let place : place_of_slot t node i ≡ node + (4 + length r.keys + i) = not_there
    (place_in node i (as_inner (t.pieces node))) out ∙ ap (place_in node i) read ∙ number keys
    in
    let lens = length-append r.keys r.slots in let below = get_below r.slots i word g in
    ap (slice_get words) place ∙ image.rows node (Inner r) p (4 + length r.keys + i) (omega arith) ∙
    get-words_of_slot r i ∙ g
  where
    not_there : (k : ℕ) → node ≢ anchor → (if node == anchor then anchor_slot_place else k) ≡ k
    not_there k out = grind (arith, nat_tests)

    number : length r.keys + 1 ≡ r.degree
        → slot_place node r.degree i ≡ node + (4 + length r.keys + i)
    number keys = omega arith
