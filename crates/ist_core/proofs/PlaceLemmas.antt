-- Where rows lie after a lawful log. Serves `laws.rows_lie_apart`.
use Rattle.std.proofs.Common.{◌≡◌, ◌≢◌, ℕ, ◌+◌, ◌<◌, ◌≤◌, ◌⊎◌, List, [], ◌∷◌, length, Option, Some, None, refl, sym, ap, ◌∙◌, subst, inl, inr, ⊎_elim, arith}
use Rattle.std.proofs.lemmas.Bool.Decides.{eqb_tells}
use Rattle.ist_core.specs.Types.{Pair, HeldRow, Event, Reserve, Lose}
use Rattle.ist_core.specs.WordTerms.{first_row, anchor, ideal_words, Piece, Leaf, Inner, Change, Rebuild, size_of, start, rows_from}
use Rattle.ist_core.specs.LogTerms.{Among, Snapshot, Log, Reserves, Loses, Enabled, EachEnabled, state_of}
use Rattle.ist_core.specs.TreeTerms.{IsSetAside, at_start, by_caller, Apart, IsWithin}
use Rattle.ist_core.proofs.OptionLemmas.{among-append, among-pieces_of, same_value, no_value}
use Rattle.ist_core.proofs.MoveLemmas.{HeldLieApart, Moves}
use Rattle.ist_core.proofs.HoldingLemmas.{reserve_positive, next-state}
use Rattle.ist_core.proofs.SoundLemmas.{moves_or_reserves, sound}
use Rattle.ist_core.proofs.StepLemmas.{sound_start}
use Rattle.ist_core.proofs.LayoutLemmas.{fills_within, fills_apart, fills_rows}

-- each row has a word
pub size_positive : (p : Piece) → 0 < size_of p
size_positive (Leaf r) = omega arith
size_positive (Inner r) = omega arith
size_positive (Change r) = omega arith
size_positive (Rebuild r) = omega arith

-- an option without a value is None
pub absent : {A : Type 0} (o : Option A) → ((x : A) → o ≡ Some x → ⊥) → o ≡ None
absent None h = refl
absent (Some x) h = absurd (h x refl)

module _ (pairs : List Pair) (words : ℕ) where
  -- the same as `IsSetAside`, going back event by event
  abbrev pub Claimed : Log → ℕ → ℕ → Type 0
  Claimed [] base size = (p : Piece) × ((start pairs words).pieces base ≡ Some p) ×
      (size_of p ≡ size)
  Claimed (event ∷ log) base size = ((caller : ℕ) × Reserves caller base size event) ⊎ Claimed log
      base size

  -- words that were set aside are claimed
  pub claimed_set_aside : (log : Log) (base size : ℕ) → IsSetAside pairs words log base size
      → Claimed log base size
  claimed_set_aside [] base size (at_start p e f) = (p, e, f)
  claimed_set_aside [] base size (by_caller caller h) = absurd h
  claimed_set_aside (event ∷ log) base size (at_start p e f) = inr
      (claimed_set_aside log base size (at_start p e f))
  claimed_set_aside (event ∷ log) base size (by_caller caller (inl h)) = inl (caller, h)
  claimed_set_aside (event ∷ log) base size (by_caller caller (inr h)) = inr
      (claimed_set_aside log base size (by_caller caller h))

  -- words that are claimed were set aside
  pub set_aside_claimed : (log : Log) (base size : ℕ) → Claimed log base size
      → IsSetAside pairs words log base size
  set_aside_claimed [] base size h = at_start h.0 h.1 h.2
  set_aside_claimed (event ∷ log) base size (inl h) = by_caller h.0 (inl h.1)
  set_aside_claimed (event ∷ log) base size (inr h) = longer (set_aside_claimed log base size h)
    where
      longer : IsSetAside pairs words log base size → IsSetAside pairs words (event ∷ log) base size
      longer (at_start p e f) = at_start p e f
      longer (by_caller caller k) = by_caller caller (inr k)

  -- the first free word lies after the fixed ones
  pub next_after_fixed : (log : Log) → EachEnabled (start pairs words) log
      → first_row ≤ (state_of pairs words log).next
  next_after_fixed [] h = omega arith
  next_after_fixed (event ∷ log) h = let low = next_after_fixed log h.0 in
      let more = next-state (start pairs words) log event h.1 in omega arith

  -- what an event reserves begins at the first free word, and has a word
  reserve_place : (log : Log) (event : Event) (caller base size : ℕ)
      → Enabled (start pairs words) log event → Reserves caller base size event
      → (base ≡ (state_of pairs words log).next) × (0 < size) ×
      ((state_of pairs words (event ∷ log)).next ≡ base + size)
  reserve_place log (Reserve c b z) caller base size h r =
      let some = reserve_positive (state_of pairs words log) c b z h in let same = r.2 in
      (sym r.1 ∙ h.base_is, omega arith, (λ i. r.1 i + r.2 i))
  reserve_place log _ caller base size h r = absurd r

  -- what was set aside lies within the table
  pub claimed_within : (log : Log) (base size : ℕ) → EachEnabled (start pairs words) log
      → Claimed log base size → IsWithin (state_of pairs words log) base size
  claimed_within [] base size h c =
      let rows = fills_rows (length pairs) first_row pairs (omega arith) in
      let inside = fills_within first_row (first_row + ideal_words (length pairs))
      (rows_from first_row pairs) base c.0 rows
      (among-pieces_of (rows_from first_row pairs) base c.0 c.1) in
      let low = inside.0 in let high = inside.1 in let some = size_positive c.0 in let same = c.2 in
      record { some = omega arith; after_fixed = low; below_next = omega arith }
  claimed_within (event ∷ log) base size h (inl c) =
      let place = reserve_place log event c.0 base size h.1 c.1 in
      let low = next_after_fixed log h.0 in let here = place.0 in let next = place.2 in
      record { some = place.1; after_fixed = omega arith; below_next = omega arith }
  claimed_within (event ∷ log) base size h (inr c) =
      let before = claimed_within log base size h.0 c in let high = before.below_next in
      let more = next-state (start pairs words) log event h.1 in
      record { some = before.some; after_fixed = before.after_fixed; below_next = omega arith }

  -- two rows that were set aside are the same, or share no word
  pub claimed_apart : (log : Log) (base size other more : ℕ) → EachEnabled (start pairs words) log
      → Claimed log base size → Claimed log other more
      → ((base ≡ other) × (size ≡ more)) ⊎ ((base ≢ other) × Apart base size other more)
  claimed_apart [] base size other more h c d = ⊎_elim
      (λ e. inl (
        e.1,
        sym c.2 ∙ ap size_of
            (same_value ((start pairs words).pieces base) c.0 d.0 c.1
            (subst (λ b. (start pairs words).pieces b ≡ Some d.0) (sym e.1) d.1)) ∙ d.2,
      ))
      (λ e. let rows = fills_rows (length pairs) first_row pairs (omega arith) in
      let one = among-pieces_of (rows_from first_row pairs) base c.0 c.1 in
      let two = among-pieces_of (rows_from first_row pairs) other d.0 d.1 in
      let apart = fills_apart first_row (first_row + ideal_words (length pairs))
      (rows_from first_row pairs) base other c.0 d.0 rows one two e.1 in
      inr (
        e.1,
        subst (λ z. Apart base z other more) c.2
            (subst (λ y. Apart base (size_of c.0) other y) d.2 apart),
      ))
      (eqb_tells base other)
  claimed_apart (event ∷ log) base size other more h (inl c) (inl d) = grind (arith, reserve_place)
  claimed_apart (event ∷ log) base size other more h (inl c) (inr d) =
      grind (arith, reserve_place, claimed_within)
  claimed_apart (event ∷ log) base size other more h (inr c) (inl d) =
      grind (arith, reserve_place, claimed_within)
  claimed_apart (event ∷ log) base size other more h (inr c) (inr d) = claimed_apart log base size
      other more h.0 c d

  -- ---- published and held rows

  -- each published row and each held row was set aside
  pub record IsPlaced (log : Log) (t : Snapshot) : Type 0 where
    -- the words of a published row were set aside for it
    pub published : (base : ℕ) (p : Piece) → t.pieces base ≡ Some p → Claimed log base (size_of p)
    -- the words of a held row were set aside for it
    pub held : (h : HeldRow) → Among h t.held → Claimed log h.base h.size

  -- an event that moves rows publishes none at the base of a row that it loses
  lost_free : (log : Log) (event : Event) (base : ℕ) → Loses base event
      → (state_of pairs words log).pieces base ≡ None
      → (state_of pairs words (event ∷ log)).pieces base ≡ None
  lost_free log (Lose caller bases) base l e = e
  lost_free log _ base l e = absurd l

  placed_moves : (log : Log) (event : Event) → HeldLieApart (state_of pairs words log)
      → HeldLieApart (state_of pairs words (event ∷ log)) → IsPlaced log (state_of pairs words log)
      → Moves (state_of pairs words log) (state_of pairs words (event ∷ log)) event
      → IsPlaced (event ∷ log) (state_of pairs words (event ∷ log))
  placed_moves log event s v k m = let t = state_of pairs words log in
      let u = state_of pairs words (event ∷ log) in record {
        published = λ base p e. inr (⊎_elim (stood base p e) (was_held base p e) (m.from base p e));
        held = λ h i. inr (k.held h (m.kept h i));
      }
    where
      -- a row that was there before still has its size
      stood : (base : ℕ) (p : Piece) → (state_of pairs words (event ∷ log)).pieces base ≡ Some p
          → (q : Piece) × ((state_of pairs words log).pieces base ≡ Some q)
          → Claimed log base (size_of p)
      stood base p e q = grind (arith, same_value)

      -- a row that was held has the size that was held
      was_held : (base : ℕ) (p : Piece) → (state_of pairs words (event ∷ log)).pieces base ≡ Some p
          → (h : HeldRow) × Among h (state_of pairs words log).held × (h.base ≡ base)
          → Claimed log base (size_of p)
      was_held base p e h = grind (arith, no_value, same_value, lost_free)

  placed_reserve : (log : Log) (c b z : ℕ) → IsPlaced log (state_of pairs words log)
      → IsPlaced (Reserve c b z ∷ log) (state_of pairs words (Reserve c b z ∷ log))
  placed_reserve log c b z k = record {
    published = λ base p e. inr (k.published base p e);
    held = λ h i. ⊎_elim (λ a. inr (k.held h a))
        (λ a. ⊎_elim (λ e. inl (c, (refl, ap (λ x. x.base) (sym e), ap (λ x. x.size) (sym e))))
        (λ n. absurd n) a)
        (among-append h (state_of pairs words log).held
        (record { caller = c; base = b; size = z } ∷ []) i);
  }

  -- the rows after a log from a new table were set aside
  pub placed : (log : Log) → EachEnabled (start pairs words) log
      → IsPlaced log (state_of pairs words log)
  placed [] h = record { published = λ base p e. (p, e, refl); held = λ g i. absurd i }
  placed (event ∷ log) h = let s = sound (start pairs words) log (sound_start pairs words) h.0 in
      let v = sound (start pairs words) (event ∷ log) (sound_start pairs words) h in
      let k = placed log h.0 in ⊎_elim (λ m. placed_moves log event s v k m)
      (λ r. subst (λ e. IsPlaced (e ∷ log) (state_of pairs words (e ∷ log))) (sym r.is)
      (placed_reserve log r.caller r.base r.size k))
      (moves_or_reserves (start pairs words) log event h.1 s)

  -- no row lies at the anchor
  pub anchor_free : (log : Log) → EachEnabled (start pairs words) log
      → (state_of pairs words log).pieces anchor ≡ None
  anchor_free log h =
      absent ((state_of pairs words log).pieces anchor) (λ p e.
      let inside = claimed_within log anchor (size_of p) h ((placed log h).published anchor p e) in
      let low = inside.after_fixed in
      omega arith)
