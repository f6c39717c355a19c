-- A table keeps its number of words, and its rows lie within it. Serves each law that reads a row's
-- word as a reference.
use Rattle.std.proofs.Common.{◌≡◌, ℕ, ◌≤◌, List, [], ◌∷◌, Option, Some, None, refl, ◌∙◌, arith, ◌≢◌, zero, suc, ◌⊎◌, ◌==◌, true, false, if◌then◌else◌, slice_get, slice_set, sym, ap, subst, inl, inr, ⊎_elim}
use Rattle.ist_core.specs.Types.{Pair, Row, ChangeRow, Event, Reserve, Install, Resolve, InnerRow}
use Rattle.ist_core.specs.WordTerms.{ChangeAt, IsGoodBase, ref_of, word_of, Piece, change_of, size_of, start, anchor, open_word, Pieces, Inner, changed_at, with_slot, SlotHolds, in_anchor, in_row, IsOpen, anchor_is, row_is}
use Rattle.ist_core.specs.LogTerms.{Snapshot, HoldsRow, with_change, installed, resolved, Log, state, Enabled, EachEnabled, CanOpen, state_of}
use Rattle.ist_core.proofs.ReferenceLemmas.{ref_of-word_of}
use Rattle.ist_core.proofs.HoldingLemmas.{next-state}
use Rattle.ist_core.proofs.PlaceLemmas.{Claimed, claimed_within, placed}
use Rattle.std.proofs.lemmas.Bool.Decides.{nat_tests, eqb_tells}
use Rattle.ist_core.proofs.OptionLemmas.{changed_at-same, changed_at-other, same_inner}

words-with_change : (t : Snapshot) (base : ℕ) (fresh : List Row) (change : Option ChangeRow)
    → (with_change t base fresh change).words ≡ t.words
words-with_change t base fresh None = refl
words-with_change t base fresh (Some change) = refl

words-installed : (t : Snapshot) (base : ℕ) (rows : List Row)
    → (installed t base rows).words ≡ t.words
words-installed t base [] = refl
words-installed t base (row ∷ fresh) = words-with_change t base fresh (change_of row.words)

words-resolved : (t : Snapshot) (change : Option ChangeRow) → (resolved t change).words ≡ t.words
words-resolved t None = refl
words-resolved t (Some change) = refl

-- no event changes how many words there are
pub words-state : (first : Snapshot) (log : Log) (event : Event)
    → (state first (event ∷ log)).words ≡ (state first log).words
words-state first log (Install caller change rows) = words-installed (state first log) change rows
words-state first log (Resolve caller change) = grind (arith, words-resolved)
words-state first log _ = refl

-- an event that reserves takes at most the free words
next_fits : (first : Snapshot) (log : Log) (event : Event) → Enabled first log event
    → (state first log).next ≤ (state first log).words
    → (state first (event ∷ log)).next ≤ (state first log).words
next_fits first log (Reserve caller base size) h le = grind arith
next_fits first log (Install caller change rows) h le = grind (arith, next-state)
next_fits first log (Resolve caller change) h le = grind (arith, next-state)
next_fits first log _ h le = le

module _ (pairs : List Pair) (words : ℕ) (opens : CanOpen pairs words) where
  -- the table keeps its number of words
  pub words_same : (log : Log) → (state_of pairs words log).words ≡ words
  words_same [] = refl
  words_same (event ∷ log) = words-state (start pairs words) log event ∙ words_same log

  -- the first free word lies within the table, or at its end
  pub next_within : (log : Log) → EachEnabled (start pairs words) log
      → (state_of pairs words log).next ≤ (state_of pairs words log).words
  next_within [] h = opens.room
  next_within (event ∷ log) h =
      let fits = next_fits (start pairs words) log event h.1 (next_within log h.0) in
      let same = words-state (start pairs words) log event in omega arith

  -- what was set aside lies at a good base
  pub claimed_good : (log : Log) (base size : ℕ) → EachEnabled (start pairs words) log
      → Claimed pairs words log base size → IsGoodBase base
  claimed_good log base size h c = grind (arith, claimed_within, next_within, words_same)

  -- each published row lies at a good base
  pub published_good : (log : Log) (base : ℕ) (p : Piece) → EachEnabled (start pairs words) log
      → (state_of pairs words log).pieces base ≡ Some p → IsGoodBase base
  published_good log base p h e = claimed_good log base (size_of p) h
      ((placed pairs words log h).published base p e)

  -- each held row lies at a good base
  pub held_good : (log : Log) (caller base size : ℕ) → EachEnabled (start pairs words) log
      → HoldsRow (state_of pairs words log) caller base size → IsGoodBase base
  held_good log caller base size h i = claimed_good log base size h
      ((placed pairs words log h).held record { caller = caller; base = base; size = size } i)

-- the word of a change at a good base is read back
pub ref_of-change : (base : ℕ) → IsGoodBase base
    → ref_of (word_of (ChangeAt base)) ≡ Some (ChangeAt base)
ref_of-change base good = ref_of-word_of (ChangeAt base) good

-- ---- what a slot holds, before and after a write. Serves each law about slots.

-- ---- words of a list

-- a word that was set is read
pub get-set_same : (xs : List ℕ) (i x word : ℕ) → slice_get xs i ≡ Some word
    → slice_get (slice_set xs i x) i ≡ Some x
get-set_same [] i x word e = absurd (cc)
get-set_same (y ∷ xs) zero x word e = refl
get-set_same (y ∷ xs) (suc i) x word e = get-set_same xs i x word e

-- the other words are read as before
pub get-set_other : (xs : List ℕ) (i j x : ℕ) → j ≢ i
    → slice_get (slice_set xs i x) j ≡ slice_get xs j
get-set_other [] i j x ne = refl
get-set_other (y ∷ xs) zero zero x ne = absurd (ne refl)
get-set_other (y ∷ xs) zero (suc j) x ne = refl
get-set_other (y ∷ xs) (suc i) zero x ne = refl
get-set_other (y ∷ xs) (suc i) (suc j) x ne = get-set_other xs i j x (λ e. ne (ap suc e))

-- a word that is read after a write is the one that was written, or was there before
pub get-set_some : (xs : List ℕ) (i j x word : ℕ) → slice_get (slice_set xs i x) j ≡ Some word
    → ((j ≡ i) × (word ≡ x)) ⊎ (slice_get xs j ≡ Some word)
get-set_some [] i j x word e = inr e
get-set_some (y ∷ xs) zero zero x word e = inl (refl, (cc))
get-set_some (y ∷ xs) zero (suc j) x word e = inr e
get-set_some (y ∷ xs) (suc i) zero x word e = inr e
get-set_some (y ∷ xs) (suc i) (suc j) x word e = ⊎_elim (λ w. inl (ap suc w.0, w.1)) (λ w. inr w)
    (get-set_some xs i j x word e)

-- ---- one word a slot

-- no row lies at the anchor
pub no_row : (ps : Pieces) (node : ℕ) (r : InnerRow) → ps anchor ≡ None → node ≡ anchor
    → ps node ≡ Some (Inner r) → ⊥
no_row ps node r none e there = cc (subst (λ b. ps b ≡ Some (Inner r)) e there)

-- a row with a status that isn't open isn't open
pub closed_not_open : (t : Snapshot) (node : ℕ) (r : InnerRow) → t.pieces anchor ≡ None
    → t.pieces node ≡ Some (Inner r) → r.status ≢ open_word → ¬ (IsOpen t node)
closed_not_open t node r free e closed (anchor_is a) = no_row t.pieces node r free a e
closed_not_open t node r free e closed (row_is s p o) = grind (arith, same_inner)

-- a place of a list has one word
same_word : (xs ys : List ℕ) (i w v : ℕ) → xs ≡ ys → slice_get xs i ≡ Some w
    → slice_get ys i ≡ Some v → w ≡ v
same_word xs ys i w v e h k = cc

-- a slot holds one word
pub slot_once : (t : Snapshot) (node i w v : ℕ) → t.pieces anchor ≡ None → SlotHolds t node i w
    → SlotHolds t node i v → w ≡ v
slot_once t node i w v none (in_anchor a b e) (in_anchor c d f) = sym e ∙ f
slot_once t node i w v none (in_anchor a b e) (in_row r p g) = grind (arith, no_row)
slot_once t node i w v none (in_row r p g) (in_anchor a b e) = grind (arith, no_row)
slot_once t node i w v none (in_row r p g) (in_row s q h) = grind (arith, same_word, same_inner)

-- the anchor has one slot
pub anchor_slot : (t : Snapshot) (node i w : ℕ) → t.pieces anchor ≡ None → SlotHolds t node i w
    → node ≡ anchor → i ≡ 0
anchor_slot t node i w none (in_anchor a b e) here = b
anchor_slot t node i w none (in_row r p g) here = absurd (no_row t.pieces node r none here p)

-- ---- a write to a slot

module _ (t u : Snapshot) (ps : Pieces) (node i new old : ℕ) (none : t.pieces anchor ≡ None)
    (keeps : (base : ℕ) (p : Piece) → t.pieces base ≡ Some p → ps base ≡ Some p)
    (pieces : u.pieces ≡ changed_at ps node (with_slot i new))
    (word : u.anchor ≡ (if node == anchor then new else t.anchor))
    (here : SlotHolds t node i old) where
  -- the row after its slot is written
  row_now : (r : InnerRow) → t.pieces node ≡ Some (Inner r)
      → u.pieces node ≡ Some (Inner record r { slots = slice_set r.slots i new })
  row_now r e = grind (arith, changed_at-same)

  -- a row at another base
  row_still : (at : ℕ) (r : InnerRow) → at ≢ node → t.pieces at ≡ Some (Inner r)
      → u.pieces at ≡ Some (Inner r)
  row_still at r ne e = grind (arith, changed_at-other)

  -- the anchor's word, written or not
  word_now : node ≡ anchor → u.anchor ≡ new
  word_now e = word ∙ subst (λ b. (if b == anchor then new else t.anchor) ≡ new) (sym e) refl

  word_still : node ≢ anchor → u.anchor ≡ t.anchor
  word_still ne = grind (arith, nat_tests)

  -- the slot holds what was written
  pub slot_now : SlotHolds u node i new
  slot_now = at here
    where
      at : SlotHolds t node i old → SlotHolds u node i new
      at (in_anchor a b e) = in_anchor a b (word_now a)
      at (in_row r p g) = in_row record r { slots = slice_set r.slots i new } (row_now r p)
          (get-set_same r.slots i new old g)

  -- each other slot holds what it held
  pub slot_written : (at j w : ℕ) → SlotHolds t at j w
      → ((w ≡ old) × (at ≡ node) × (j ≡ i)) ⊎ SlotHolds u at j w
  slot_written at j w (in_anchor a b e) =
      grind (arith, slot_once, anchor_slot, word_still, eqb_tells)
  slot_written at j w (in_row r p g) = both (eqb_tells at node) (eqb_tells j i)
    where
      both : (((at == node) ≡ true) × (at ≡ node)) ⊎ (((at == node) ≡ false) × (at ≢ node))
          → (((j == i) ≡ true) × (j ≡ i)) ⊎ (((j == i) ≡ false) × (j ≢ i))
          → ((w ≡ old) × (at ≡ node) × (j ≡ i)) ⊎ SlotHolds u at j w
      both (inr k) l = inr (in_row r (row_still at r k.1 p) g)
      both (inl k) (inl l) = grind (arith, slot_once)
      both (inl k) (inr l) =
          inr (in_row record r { slots = slice_set r.slots i new }
          (subst (λ b. u.pieces b ≡ Some (Inner record r { slots = slice_set r.slots i new }))
          (sym k.1) (row_now r (subst (λ b. t.pieces b ≡ Some (Inner r)) k.1 p)))
          (get-set_other r.slots i j new l.1 ∙ g))

-- ---- no write to a slot

-- slots hold what they held if each row keeps its slots
pub slot_kept : (t u : Snapshot) → u.anchor ≡ t.anchor
    → ((base : ℕ) (r : InnerRow) → t.pieces base ≡ Some (Inner r) → (s : InnerRow) ×
    (u.pieces base ≡ Some (Inner s)) × (s.slots ≡ r.slots))
    → (node i w : ℕ) → SlotHolds t node i w → SlotHolds u node i w
slot_kept t u word keeps node i w (in_anchor a b e) = in_anchor a b (word ∙ e)
slot_kept t u word keeps node i w (in_row r p g) = let it = keeps node r p in
    in_row it.0 it.1 (ap (λ xs. slice_get xs i) it.2 ∙ g)
