-- What each event makes of each row, and which rows it publishes. Serves each conjunct about single
-- fields.
use Rattle.std.proofs.Common.{Bool, List, None, Option, Some, ap, refl, subst, sym, ℕ, ⊎_elim, ◌∙◌, ◌∷◌, ◌≡◌, ◌⊎◌, arith}
use Rattle.ist_core.specs.declared.events.Event.{Event}
use Rattle.ist_core.specs.declared.events.Event.TheVariants.{Count, Decide, Draw, Finish, Install, Mark, Place, Resolve, Root}
use Rattle.ist_core.specs.declared.lists.Row.{Row}
use Rattle.ist_core.specs.declared.pairs.Pair.{Pair}
use Rattle.ist_core.specs.LogTerms.{after, decision_word, side_of, Among, Enabled, EachEnabled, state_of, Log, state, Snapshot, bases_of}
use Rattle.ist_core.specs.TreeTerms.{CanDraw, CanPlace, CanRoot, CanCount, CanDecide, CanResolve, CanInstall, CanFinish, CanMark}
use Rattle.ist_core.specs.WordTerms.{Piece, Pieces, Rebuild, changed_at, counted, drawn, with_decision, with_inners, with_root, with_slot, with_status, ChangeAt, unset_word, word_of, SlotHolds, in_anchor, in_row, start, finished_word, marked_word}
use Rattle.ist_core.proofs.AllEventLemmas.{Adds, IsInstalledWith, adds-with_inners, adds_install, Born, with_installed, HeldLieApart, sound, sound_start, holds_installed, rows_placed, rows_resolved}
use Rattle.ist_core.proofs.AllPlaceLemmas.{anchor_free}
use Rattle.ist_core.proofs.AllWordLemmas.{changed_at-some, no_value}
use Rattle.ist_core.proofs.BornLemmas as born

-- what the event makes of the row p at the base is q: p itself, or p with the one field changed that the event writes
pub data BecameBy (first : Snapshot) (log : Log) (base : ℕ) (p q : Piece) : Event → Type 0 where
  as_it_was : {event : Event} → q ≡ p → BecameBy first log base p q event
  by_install : {caller change : ℕ} {rows : List Row} (h : CanInstall first log caller change rows)
      → base ≡ h.change.node → q ≡ with_slot h.change.index (word_of (ChangeAt change)) p
      → BecameBy first log base p q (Install caller change rows)
  by_resolve : {caller change : ℕ} (h : CanResolve (state first log) caller change)
      → base ≡ h.change.node → q ≡ with_slot h.change.index (side_of h.change) p
      → BecameBy first log base p q (Resolve caller change)
  by_place : {caller rebuild i word : ℕ} {rows : List Row}
      (h : CanPlace (state first log) caller rebuild i word rows)
      → base ≡ h.root → q ≡ with_slot i word p
      → BecameBy first log base p q (Place caller rebuild i word rows)
  by_decide : {caller : ℕ} {said : Bool} → CanDecide (state first log) log caller base said
      → q ≡ with_decision (decision_word said) p
      → BecameBy first log base p q (Decide caller base said)
  by_count : {caller : ℕ} → CanCount first log caller base → q ≡ counted p
      → BecameBy first log base p q (Count caller base)
  by_mark : {caller : ℕ} → CanMark (state first log) log caller base → q ≡ with_status marked_word p
      → BecameBy first log base p q (Mark caller base)
  by_finish : {caller keys : ℕ} → CanFinish (state first log) log caller base keys
      → q ≡ with_status (finished_word keys) p → BecameBy first log base p q (Finish caller base keys)
  by_root : {caller word : ℕ} {rows : List Row} → CanRoot (state first log) caller base word rows
      → q ≡ with_root word p → BecameBy first log base p q (Root caller base word rows)
  by_draw : {caller part : ℕ} → CanDraw (state first log) log caller base part → q ≡ drawn p
      → BecameBy first log base p q (Draw caller base part)

-- a row after the event was there before it, or is published by it
pub data RowCame (first : Snapshot) (log : Log) (event : Event) (base : ℕ) (q : Piece) : Type 0 where
  from_old : (p : Piece) → (state first log).pieces base ≡ Some p → BecameBy first log base p q event
      → RowCame first log event base q
  from_new : Born first log base q event → (state first log).pieces base ≡ None
      → RowCame first log event base q

-- ---- rows that are added, of which one is changed

-- a row after such an event was there before, changed or not, or is one of the added rows
abbrev Either : Pieces → Pieces → (ℕ → Piece → Type 0) → ℕ → (Piece → Piece) → ℕ → Piece → Type 0
Either ps qs New at f base q =
    ((p : Piece) × (ps base ≡ Some p) × ((q ≡ p) ⊎ ((base ≡ at) × (q ≡ f p))))
    ⊎ (New base q × (qs base ≡ Some q) × (ps base ≡ None))

added_changed : (ps qs : Pieces) (New : ℕ → Piece → Type 0) (at : ℕ) (f : Piece → Piece)
    → Adds ps qs New → (base : ℕ) (q : Piece) → changed_at qs at f base ≡ Some q
    → (base ≡ at → ps base ≡ None → ⊥) → Either ps qs New at f base q
added_changed ps qs New at f adds base q e stood = here (ps base) refl
  where
    here : (o : Option Piece) → ps base ≡ o → Either ps qs New at f base q
    here (Some p) is = grind (arith, changed_at-some)
    here None is = grind (arith, changed_at-some)

-- ---- the shapes of events

-- an event that writes one row
turned_one : (first : Snapshot) (log : Log) (event : Event) (at : ℕ) (f : Piece → Piece)
    → (state first (event ∷ log)).pieces ≡ changed_at (state first log).pieces at f
    → ((base : ℕ) (p q : Piece) → base ≡ at → q ≡ f p → BecameBy first log base p q event)
    → (base : ℕ) (q : Piece) → (state first (event ∷ log)).pieces base ≡ Some q
    → RowCame first log event base q
turned_one first log event at f pieces turned base q e =
    let it = changed_at-some (state first log).pieces at base f q (subst (λ ps. ps base ≡ Some q) pieces e) in
    from_old it.0 it.1
    (⊎_elim (λ same. as_it_was same) (λ now. turned base it.0 q now.0 now.1) it.2)

-- an event that writes no row
turned_none : (first : Snapshot) (log : Log) (event : Event)
    → (state first (event ∷ log)).pieces ≡ (state first log).pieces → (base : ℕ) (q : Piece)
    → (state first (event ∷ log)).pieces base ≡ Some q → RowCame first log event base q
turned_none first log event pieces base q e =
    from_old q (subst (λ ps. ps base ≡ Some q) pieces e) (as_it_was refl)

-- an event that publishes rows and writes one that was there before
turned_added : (first : Snapshot) (log : Log) (event : Event) (qs : Pieces)
    (New : ℕ → Piece → Type 0) (at : ℕ) (f : Piece → Piece) → Adds (state first log).pieces qs New
    → (state first (event ∷ log)).pieces ≡ changed_at qs at f
    → ((base : ℕ) (p q : Piece) → base ≡ at → q ≡ f p → BecameBy first log base p q event)
    → ((base : ℕ) (p : Piece) → New base p → qs base ≡ Some p → Born first log base p event)
    → (base : ℕ) (q : Piece) → (state first (event ∷ log)).pieces base ≡ Some q
    → (base ≡ at → (state first log).pieces base ≡ None → ⊥) → RowCame first log event base q
turned_added first log event qs New at f adds pieces turned publishes base q e stood = ⊎_elim
    (λ old. from_old old.0 old.1 (⊎_elim (λ same. as_it_was same) (λ now. turned base old.0 q now.0 now.1) old.2))
    (λ new. from_new (publishes base q new.0 new.1) new.2)
    (added_changed (state first log).pieces qs New at f adds base q (subst (λ ps. ps base ≡ Some q) pieces e) stood)

-- ---- all events

module _ (pairs : List Pair) (words : ℕ) where
  -- a node with a word in a slot is no row, or a row that was there before
  pub slot_stood : (log : Log) (event : Event) → EachEnabled (start pairs words) (event ∷ log)
      → (node i word : ℕ) → SlotHolds (state_of pairs words log) node i word
      → (base : ℕ) (q : Piece)
      → (state_of pairs words (event ∷ log)).pieces base ≡ Some q → base ≡ node
      → (state_of pairs words log).pieces base ≡ None → ⊥
  slot_stood log event h node i word (in_anchor a b c) base q e same none =
      no_value ((state_of pairs words (event ∷ log)).pieces base) q
      (subst (λ n. (state_of pairs words (event ∷ log)).pieces n ≡ None) (sym (same ∙ a)) (anchor_free pairs words (event ∷ log) h)) e
  slot_stood log event h node i word (in_row r p g) base q e same none = grind (arith, no_value)

  -- where each row after an enabled event comes from
  pub came : (log : Log) (event : Event) → EachEnabled (start pairs words) (event ∷ log)
      → (base : ℕ) (q : Piece) → (state_of pairs words (event ∷ log)).pieces base ≡ Some q
      → RowCame (start pairs words) log event base q
  came log event h base q e = at event h h.1 e
    where
      s : HeldLieApart (state_of pairs words log)
      s = sound (start pairs words) log (sound_start pairs words) h.0

      at : (event : Event) → EachEnabled (start pairs words) (event ∷ log)
          → Enabled (start pairs words) log event
          → (state_of pairs words (event ∷ log)).pieces base ≡ Some q
          → RowCame (start pairs words) log event base q
      at (Install caller change rows) all k there = let t = state_of pairs words log in
          let holds = holds_installed (start pairs words) log caller change rows k in
          turned_added (start pairs words) log (Install caller change rows)
          (with_installed t.pieces change k.change k.fresh)
          (IsInstalledWith (start pairs words) log change k.change k.fresh k.fits)
          k.change.node (with_slot k.change.index (word_of (ChangeAt change)))
          (adds_install (start pairs words) log caller change k.change k.fresh k.fits holds s)
          (ap (λ rs. (after t (Install caller change rs)).pieces) k.rows_are)
          (λ b p x here is. by_install k here is) (λ b p new there. born.by_install k new) base q there
          (slot_stood log (Install caller change rows) all k.change.node k.change.index k.change.from k.in_slot base q there)
      at (Resolve caller change) all k there =
          turned_one (start pairs words) log (Resolve caller change) k.change.node
          (with_slot k.change.index (side_of k.change))
          (ap (λ u. u.pieces) (rows_resolved (state_of pairs words log) caller change k))
          (λ b p x here is. by_resolve k here is) base q there
      at (Place caller rebuild i word rows) all k there = let t = state_of pairs words log in
          turned_added (start pairs words) log (Place caller rebuild i word rows)
          (with_inners t.pieces rows) (λ b p. Among b (bases_of rows)) k.root (with_slot i word)
          (adds-with_inners t caller rows k.held s) (rows_placed t caller rebuild i word rows k)
          (λ b p x here is. by_place k here is) (λ b p new there. born.by_place new there) base q there
          (slot_stood log (Place caller rebuild i word rows) all k.root i unset_word (in_row k.root_row k.root_published k.free) base q there)
      at (Root caller rebuild word rows) all k there = let t = state_of pairs words log in
          turned_added (start pairs words) log (Root caller rebuild word rows)
          (with_inners t.pieces rows) (λ b p. Among b (bases_of rows)) rebuild (with_root word)
          (adds-with_inners t caller rows k.held s) refl
          (λ b p x here is. subst (λ n. BecameBy (start pairs words) log n p x (Root caller rebuild word rows)) (sym here) (by_root k is)) (λ b p new there. born.by_root new there) base q there
          (λ here none. no_value (t.pieces base) (Rebuild k.row) none (subst (λ n. t.pieces n ≡ Some (Rebuild k.row)) (sym here) k.published))
      at (Decide caller change said) all k there =
          turned_one (start pairs words) log (Decide caller change said) change
          (with_decision (decision_word said)) refl
          (λ b p x here is. subst (λ n. BecameBy (start pairs words) log n p x (Decide caller change said)) (sym here) (by_decide k is)) base q there
      at (Count caller node) all k there =
          turned_one (start pairs words) log (Count caller node) node counted refl
          (λ b p x here is. subst (λ n. BecameBy (start pairs words) log n p x (Count caller node)) (sym here) (by_count k is)) base q there
      at (Mark caller node) all k there =
          turned_one (start pairs words) log (Mark caller node) node (with_status marked_word) refl
          (λ b p x here is. subst (λ n. BecameBy (start pairs words) log n p x (Mark caller node)) (sym here) (by_mark k is)) base q there
      at (Finish caller node keys) all k there =
          turned_one (start pairs words) log (Finish caller node keys) node
          (with_status (finished_word keys)) refl
          (λ b p x here is. subst (λ n. BecameBy (start pairs words) log n p x (Finish caller node keys)) (sym here) (by_finish k is)) base q there
      at (Draw caller rebuild part) all k there =
          turned_one (start pairs words) log (Draw caller rebuild part) rebuild drawn refl
          (λ b p x here is. subst (λ n. BecameBy (start pairs words) log n p x (Draw caller rebuild part)) (sym here) (by_draw k is)) base q there
      at event all k there = turned_none (start pairs words) log event refl base q there
