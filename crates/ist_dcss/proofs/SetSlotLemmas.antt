-- A slot that isn't Unset is never Unset again. Serves what an Install of a finish asks.
use Rattle.std.proofs.Common.{◌≡◌, ◌≢◌, ℕ, ◌⊎◌, List, ◌∷◌, Some, refl, sym, ◌∙◌, subst, inl, inr, ⊎_elim, arith}
use Rattle.ist_core.specs.declared.pairs.Pair.{Pair}
use Rattle.ist_core.specs.declared.lists.Row.{Row}
use Rattle.ist_core.specs.declared.states.ChangeRow.{ChangeRow}
use Rattle.ist_core.specs.declared.events.Event.{Event}
use Rattle.ist_core.specs.declared.events.Event.TheVariants.{Install, Resolve, Place}
use Rattle.ist_core.specs.WordTerms.{ChangeAt, word_of, unset_word, Change, start, SlotHolds}
use Rattle.ist_core.specs.LogTerms.{Snapshot, side_of, Log, GoesOn, same_log, one_event, EachEnabled, state_of}
use Rattle.ist_core.specs.TreeTerms.{FitsKind, a_put, a_pair, a_remove, a_start, a_finish}
use Rattle.ist_core.proofs.AllPlaceLemmas.{anchor_free, slot_once, WritesSlot, WritesNoSlot, install_writes, resolve_writes, place_writes, slot_stays}
use Rattle.ist_core.proofs.AllLogLemmas.{grow_between, slot_remains, change_set, room_set, set_by}
use Rattle.laws_links.proofs.InductionLemmas.{changes_by, sound_after}

-- neither side of the change is Unset
abbrev pub HasSides : ChangeRow → Type 0
HasSides x = (x.from ≢ unset_word) × (x.to ≢ unset_word)

-- a change of each kind has its sides
fits_sides : (first : Snapshot) (log : Log) (change : ChangeRow) (fresh : List Row)
    → FitsKind first log change fresh → HasSides change
fits_sides first log change fresh (a_put h) = grind (arith, room_set, set_by)
fits_sides first log change fresh (a_pair h) = grind (arith, set_by)
fits_sides first log change fresh (a_remove h) = grind (arith, set_by)
fits_sides first log change fresh (a_start h) = grind (arith, set_by)
fits_sides first log change fresh (a_finish h) = grind (arith, set_by)

-- each published change has such sides
sides : (pairs : List Pair) (words : ℕ) (log : Log) → EachEnabled (start pairs words) log
    → (base : ℕ) (x : ChangeRow) → (state_of pairs words log).pieces base ≡ Some (Change x)
    → HasSides x
sides pairs words = changes_by pairs words (λ log base x. HasSides x)
    (λ log event h base x old there was. was)
    (λ log caller base rows h can. fits_sides (start pairs words) log can.change can.fresh can.fits)
    (λ log caller base said h can was. was)

side_set : (x : ChangeRow) → HasSides x → side_of x ≢ unset_word
side_set x s = grind arith

module _ (pairs : List Pair) (words : ℕ) where
  -- what the slot holds after a write of another word
  written : (log : Log) (event : Event) → EachEnabled (start pairs words) (event ∷ log)
      → (at j new old : ℕ)
      → WritesSlot (state_of pairs words log) (state_of pairs words (event ∷ log)) at j new old
      → (old ≡ unset_word) ⊎ (new ≢ unset_word)
      → (node i was now : ℕ) → SlotHolds (state_of pairs words log) node i was → was ≢ unset_word
      → SlotHolds (state_of pairs words (event ∷ log)) node i now → now ≢ unset_word
  written log event h at j new old w how node i was now before set following =
      let u = state_of pairs words (event ∷ log) in
      let free = anchor_free pairs words (event ∷ log) h in ⊎_elim
      (λ here.
      let there : SlotHolds u at j now =
      subst (λ n. SlotHolds u n j now) here.1 (subst (λ k. SlotHolds u node k now) here.2
      following) in
      let same : now ≡ new = slot_once u at j now new free there w.now in
      ⊎_elim (λ e. absurd (set (here.0 ∙ e))) (λ ne. λ e. ne (sym same ∙ e)) how)
      (λ stays. λ e. set (slot_once u node i was now free stays following ∙ e))
      (w.others node i was before)

  quiet : (log : Log) (event : Event) → EachEnabled (start pairs words) (event ∷ log)
      → WritesNoSlot event
      → (node i was now : ℕ) → SlotHolds (state_of pairs words log) node i was → was ≢ unset_word
      → SlotHolds (state_of pairs words (event ∷ log)) node i now → now ≢ unset_word
  quiet log event h none node i was now before set following =
      let stays = slot_stays (start pairs words) log event h.1 (sound_after pairs words log h.0)
      none
      node i was before in
      λ e. set (slot_once (state_of pairs words (event ∷ log)) node i was now
      (anchor_free pairs words (event ∷ log) h) stays following ∙ e)

  -- an event leaves no slot Unset that wasn't
  set_on : (log : Log) (event : Event) → EachEnabled (start pairs words) (event ∷ log)
      → (node i was now : ℕ) → SlotHolds (state_of pairs words log) node i was → was ≢ unset_word
      → SlotHolds (state_of pairs words (event ∷ log)) node i now → now ≢ unset_word
  set_on log (Install caller base rows) h =
      written log (Install caller base rows) h h.1.change.node h.1.change.index
      (word_of (ChangeAt base)) h.1.change.from
      (install_writes (start pairs words) log caller base rows h.1
      (sound_after pairs words log h.0) (anchor_free pairs words log h.0))
      (inr (change_set base))
  set_on log (Resolve caller base) h =
      written log (Resolve caller base) h h.1.change.node h.1.change.index (side_of h.1.change)
      (word_of (ChangeAt base))
      (resolve_writes (state_of pairs words log) caller base h.1
      (anchor_free pairs words log h.0))
      (inr (side_set h.1.change
      (sides pairs words log h.0 base h.1.change h.1.published)))
  set_on log (Place caller rebuild j word rows) h =
      written log (Place caller rebuild j word rows) h h.1.root j word unset_word
      (place_writes (state_of pairs words log) caller rebuild j word rows h.1
      (sound_after pairs words log h.0) (anchor_free pairs words log h.0))
      (inl refl)
  set_on log event h = quiet log event h tt

  -- a slot that isn't Unset isn't Unset in a longer log
  pub set_later : (old log : Log) → GoesOn old log → EachEnabled (start pairs words) log
      → (node i : ℕ) → ((word : ℕ) → SlotHolds (state_of pairs words old) node i word
      → word ≢ unset_word)
      → ((w : ℕ) × SlotHolds (state_of pairs words old) node i w)
      → (word : ℕ) → SlotHolds (state_of pairs words log) node i word → word ≢ unset_word
  set_later old _ same_log h node i all is word slot = all word slot
  set_later old _ (one_event {log = log} event g) h node i all is word slot =
      let mid = slot_there old log g h.0 node i is in set_on log event h node i mid.0 word mid.1
      (set_later old log g h.0 node i all is mid.0 mid.1) slot
    where
      slot_there : (a b : Log) → GoesOn a b → EachEnabled (start pairs words) b → (n j : ℕ)
          → ((w : ℕ) × SlotHolds (state_of pairs words a) n j w)
          → (w : ℕ) × SlotHolds (state_of pairs words b) n j w
      slot_there a b goes e n j s = slot_remains (state_of pairs words a) (state_of pairs words b)
          (grow_between pairs words a b e goes) n j s.0 s.1
