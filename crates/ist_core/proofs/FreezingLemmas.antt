-- A slot that was passed keeps its word at each event. Serves the frozen-slot law.
use Rattle.std.proofs.Common.{◌≡◌, ◌≢◌, ℕ, ◌+◌, ◌*◌, Bool, true, false, List, ◌∷◌, Some, None, option_map, sym, ap, ◌∙◌, subst, ⊎_elim, arith}
use Rattle.std.proofs.lemmas.Bool.Decides.{nat_tests, eqb_tells}
use Rattle.ist_core.specs.Types.{Pair, Row, InnerRow, ChangeRow, Event, Install, Okay, Decide, Resolve, Count, Mark, Pass, Finish, Place}
use Rattle.ist_core.specs.WordTerms.{anchor, ChangeAt, ref_of, word_of, unset_word, open_word, decided_yes, decided_no, Inner, Change, with_decision, changed_at, start, SlotHolds, IsOpen}
use Rattle.ist_core.specs.LogTerms.{Snapshot, HoldsRow, side_of, Log, state, Happened, Okays, Enabled, EachEnabled, CanOpen, state_of}
use Rattle.ist_core.specs.TreeTerms.{CanInstall, CanOkay, CanDecide, CanResolve, CanPlace, StatusGoesOn, status_stays, is_marked, is_finished, is_closed, HasVainChange, KeepsWord, holds_it, holds_change, IsClosedOver}
use Rattle.ist_core.proofs.OptionLemmas.{changed_at-same, changed_at-other, no_value, same_change}
use Rattle.ist_core.proofs.MoveLemmas.{HeldLieApart}
use Rattle.ist_core.proofs.SoundLemmas.{sound}
use Rattle.ist_core.proofs.StepLemmas.{sound_start, grow_step, holds_installed}
use Rattle.ist_core.proofs.GrowingLemmas.{inner_there}
use Rattle.ist_core.proofs.PlaceLemmas.{anchor_free}
use Rattle.ist_core.proofs.RoomLemmas.{published_good, ref_of-change, closed_not_open}
use Rattle.ist_core.proofs.NamingLemmas.{SlotNames, slot_names}
use Rattle.ist_core.proofs.InstallNamingLemmas.{from_plain}
use Rattle.ist_core.proofs.OrderLemmas.{names}
use Rattle.ist_core.proofs.FateLemmas.{okay_published}
use Rattle.ist_core.proofs.SlotStepLemmas.{install_stands, install_writes, resolve_writes, place_writes, WritesNoSlot, slot_stays, IsNoDecide, change_stays}

-- ---- words and statuses

-- equal words name one change
pub same_change_word : (a b : ℕ) → word_of (ChangeAt a) ≡ word_of (ChangeAt b) → a ≡ b
same_change_word a b e = let numbers : a * 8 + 3 ≡ b * 8 + 3 = e in omega arith

-- a status that isn't open stays so
pub closed_on : (old new : ℕ) → StatusGoesOn old new → old ≢ open_word → new ≢ open_word
closed_on old new (status_stays e) ne = λ f. ne (sym e ∙ f)
closed_on old new (is_marked e f) ne = absurd (ne e)
closed_on old new (is_finished k e f) ne = λ g. omega arith
closed_on old new (is_closed k e f) ne = absurd (ne e)

-- a status that is open was open
pub status_open : (old new : ℕ) → StatusGoesOn old new → new ≡ open_word → old ≡ open_word
status_open old new (status_stays e) o = sym e ∙ o
status_open old new (is_marked e f) o = e
status_open old new (is_finished k e f) o = absurd (omega arith)
status_open old new (is_closed k e f) o = e

-- a change that wasn't decided yes leaves `from`
pub side_not_yes : (change : ChangeRow) → change.decision ≢ decided_yes
    → side_of change ≡ change.from
side_not_yes change ne = grind (arith, nat_tests)

-- the event keeps the word of a slot
abbrev Keeping : Snapshot → Log → Event → Snapshot → ℕ → ℕ → ℕ → Type 0
Keeping t log event u node i word = KeepsWord t log node i word → KeepsWord u (event ∷ log) node i word

-- a change in vain stays one if its row, its slot and its Okays stay
vain_on : (t u : Snapshot) (log : Log) (event : Event) (node i word : ℕ)
    (h : HasVainChange t log node i word)
    → u.pieces h.base ≡ Some (Change h.change) → SlotHolds u node i (word_of (ChangeAt h.base))
    → ¬ (Okays h.base event) → KeepsWord u (event ∷ log) node i word
vain_on t u log event node i word h there slot none = holds_change record {
  base = h.base;
  change = h.change;
  published = there;
  in_slot = slot;
  from = h.from;
  not_yes = h.not_yes;
  unseen = λ k. ⊎_elim (λ now. none now) (λ before. h.unseen before) k;
}

-- ---- each event

-- an event that writes no slot, and is neither an Okay nor a Decide
keeps_quiet : (first : Snapshot) (log : Log) (event : Event) → Enabled first log event
    → HeldLieApart (state first log) → WritesNoSlot event → IsNoDecide event
    → ((base : ℕ) → ¬ (Okays base event)) → (node i word : ℕ)
    → Keeping (state first log) log event (state first (event ∷ log)) node i word
keeps_quiet first log event h s none still unseen node i word (holds_it k) = holds_it (slot_stays first log event h s none node i word k)
keeps_quiet first log event h s none still unseen node i word (holds_change v) =
    vain_on (state first log) (state first (event ∷ log)) log event node i word v
    (change_stays first log event h s still v.base v.change v.published) (slot_stays first log event h s none node i (word_of (ChangeAt v.base)) v.in_slot) (unseen v.base)

module _ (pairs : List Pair) (words : ℕ) (opens : CanOpen pairs words) (log : Log) (enabled : EachEnabled (start pairs words) log) where
  -- held rows lie apart after the log
  rows_sound : HeldLieApart (state_of pairs words log)
  rows_sound = sound (start pairs words) log (sound_start pairs words) enabled

  free_there : (state_of pairs words log).pieces anchor ≡ None
  free_there = anchor_free pairs words log enabled

  -- the word of a published change is read as it
  pub change_read : (base : ℕ) (r : ChangeRow)
      → (state_of pairs words log).pieces base ≡ Some (Change r)
      → ref_of (word_of (ChangeAt base)) ≡ Some (ChangeAt base)
  change_read base r e = ref_of-change base (published_good pairs words opens log base (Change r) enabled e)

  -- an event that decides nothing leaves a change in vain if it leaves the change's slot
  vain_stays : (event : Event) → Enabled (start pairs words) log event → IsNoDecide event
      → (node i word : ℕ) (v : HasVainChange (state_of pairs words log) log node i word)
      → ¬ (Okays v.base event)
      → SlotHolds (state_of pairs words (event ∷ log)) node i (word_of (ChangeAt v.base))
      → KeepsWord (state_of pairs words (event ∷ log)) (event ∷ log) node i word
  vain_stays event h still node i word v none slot =
      vain_on (state_of pairs words log) (state_of pairs words (event ∷ log)) log event node i word
      v (change_stays (start pairs words) log event h rows_sound still v.base v.change
      v.published) slot none

  keeps_install : (caller base : ℕ) (rows : List Row)
      → CanInstall (start pairs words) log caller base rows → (node i word : ℕ)
      → Keeping (state_of pairs words log) log (Install caller base rows)
      (state_of pairs words (Install caller base rows ∷ log)) node i word
  keeps_install caller base rows h node i word (holds_it slot) =
      let u = state_of pairs words (Install caller base rows ∷ log) in
      let writes = install_writes (start pairs words) log caller base rows h rows_sound free_there in
      let held : HoldsRow (state_of pairs words log) caller base 9 = (holds_installed (start pairs words) log caller base rows h).0 in
      let none = rows_sound.unpublished record { caller = caller; base = base; size = 9 } held in
      let zero = h.unset in ⊎_elim
      (λ w. holds_change record {
        base = base;
        change = h.change;
        published = install_stands (start pairs words) log caller base rows h;
        in_slot = subst (λ j. SlotHolds u node j (word_of (ChangeAt base))) (sym w.2) (subst (λ n. SlotHolds u n h.change.index (word_of (ChangeAt base))) (sym w.1) writes.now);
        from = sym w.0;
        not_yes = λ e. omega arith;
        unseen = λ k. ⊎_elim (λ now. now)
            (λ before. let it = okay_published (start pairs words) log base (sound_start pairs words) enabled before in no_value ((state_of pairs words log).pieces base) (Change it.0) none it.1) k;
      })
      (λ stays. holds_it stays) (writes.others node i word slot)
  keeps_install caller base rows h node i word (holds_change v) =
      let writes = install_writes (start pairs words) log caller base rows h rows_sound free_there in
      ⊎_elim
      (λ w. absurd (from_plain (start pairs words) log h.change h.fresh h.fits v.base (ap ref_of (sym w.0) ∙ change_read v.base v.change v.published)))
      (λ stays. vain_stays (Install caller base rows) h tt node i word v (λ n. n) stays)
      (writes.others node i (word_of (ChangeAt v.base)) v.in_slot)

  keeps_resolve : (caller base : ℕ) → CanResolve (state_of pairs words log) caller base
      → (node i word : ℕ) → ((change : ℕ) → ref_of word ≢ Some (ChangeAt change))
      → Keeping (state_of pairs words log) log (Resolve caller base)
      (state_of pairs words (Resolve caller base ∷ log)) node i word
  keeps_resolve caller base h node i word plain (holds_it slot) =
      let writes = resolve_writes (state_of pairs words log) caller base h free_there in ⊎_elim
      (λ w. absurd (plain base (ap ref_of w.0 ∙ change_read base h.change h.published)))
      (λ stays. holds_it stays) (writes.others node i word slot)
  keeps_resolve caller base h node i word plain (holds_change v) =
      let u = state_of pairs words (Resolve caller base ∷ log) in
      let writes = resolve_writes (state_of pairs words log) caller base h free_there in ⊎_elim
      (λ w. let one = same_change_word v.base base w.0 in
      let row = same_change ((state_of pairs words log).pieces base) v.change h.change (subst (λ b. (state_of pairs words log).pieces b ≡ Some (Change v.change)) one v.published) h.published in
      let side = ap side_of (sym row) ∙ side_not_yes v.change v.not_yes ∙ v.from in
      holds_it (subst (λ x. SlotHolds u node i x) side
      (subst (λ j. SlotHolds u node j (side_of h.change)) (sym w.2) (subst (λ n. SlotHolds u n h.change.index (side_of h.change)) (sym w.1) writes.now))))
      (λ stays. vain_stays (Resolve caller base) h tt node i word v (λ n. n) stays)
      (writes.others node i (word_of (ChangeAt v.base)) v.in_slot)

  keeps_place : (caller rebuild j new : ℕ) (rows : List Row)
      → CanPlace (state_of pairs words log) caller rebuild j new rows → (node i word : ℕ)
      → word ≢ unset_word → Keeping (state_of pairs words log) log (Place caller rebuild j new rows)
      (state_of pairs words (Place caller rebuild j new rows ∷ log)) node i word
  keeps_place caller rebuild j new rows h node i word set (holds_it slot) =
      let writes = place_writes (state_of pairs words log) caller rebuild j new rows h rows_sound free_there in
      ⊎_elim (λ w. absurd (set w.0)) (λ stays. holds_it stays) (writes.others node i word slot)
  keeps_place caller rebuild j new rows h node i word set (holds_change v) =
      let writes = place_writes (state_of pairs words log) caller rebuild j new rows h rows_sound free_there in
      ⊎_elim (λ w. absurd (let seven : v.base * 8 + 3 ≡ 7 = w.0 in omega arith))
      (λ stays. vain_stays (Place caller rebuild j new rows) h tt node i word v (λ n. n) stays)
      (writes.others node i (word_of (ChangeAt v.base)) v.in_slot)

  keeps_decide : (caller base : ℕ) (said : Bool)
      → CanDecide (state_of pairs words log) log caller base said → (node i word : ℕ)
      → Keeping (state_of pairs words log) log (Decide caller base said)
      (state_of pairs words (Decide caller base said ∷ log)) node i word
  keeps_decide caller base said h node i word (holds_it slot) = holds_it (slot_stays (start pairs words) log (Decide caller base said) h rows_sound tt node i word slot)
  keeps_decide caller base true h node i word (holds_change v) = let t = state_of pairs words log in
      let slot = slot_stays (start pairs words) log (Decide caller base true) h rows_sound tt node i (word_of (ChangeAt v.base)) v.in_slot in
      ⊎_elim (λ e. absurd (v.unseen (subst (λ b. Happened (Okays b) log) (sym e.1) h.outcome)))
      (λ e. vain_on t (state_of pairs words (Decide caller base true ∷ log)) log (Decide caller base true) node i word v
      (changed_at-other t.pieces base v.base (with_decision decided_yes) e.1 ∙ v.published) slot (λ n. n))
      (eqb_tells v.base base)
  keeps_decide caller base false h node i word (holds_change v) =
      let t = state_of pairs words log in
      let slot = slot_stays (start pairs words) log (Decide caller base false) h rows_sound tt node i (word_of (ChangeAt v.base)) v.in_slot in
      ⊎_elim
      (λ e. holds_change record {
        base = v.base;
        change = record (v.change) { decision = decided_no };
        published = subst (λ b. changed_at t.pieces base (with_decision decided_no) b ≡ Some (Change record (v.change) { decision = decided_no })) (sym e.1)
            (changed_at-same t.pieces base (with_decision decided_no) ∙ ap (option_map (with_decision decided_no)) (subst (λ b. t.pieces b ≡ Some (Change v.change)) e.1 v.published));
        in_slot = slot;
        from = v.from;
        not_yes = λ f. omega arith;
        unseen = λ k. ⊎_elim (λ now. now) (λ before. v.unseen before) k;
      })
      (λ e. vain_on t (state_of pairs words (Decide caller base false ∷ log)) log (Decide caller base false) node i word v
      (changed_at-other t.pieces base v.base (with_decision decided_no) e.1 ∙ v.published) slot (λ n. n))
      (eqb_tells v.base base)

  -- a change in a slot is a change of this slot, so its node isn't open
  keeps_okay : (caller base : ℕ) → CanOkay (state_of pairs words log) caller base
      → (node i word : ℕ) (r : InnerRow) → (state_of pairs words log).pieces node ≡ Some (Inner r)
      → r.status ≢ open_word → Keeping (state_of pairs words log) log (Okay caller base)
      (state_of pairs words log) node i word
  keeps_okay caller base h node i word r e closed (holds_it slot) = holds_it slot
  keeps_okay caller base h node i word r e closed (holds_change v) =
      let t = state_of pairs words log in
      let here = subst (λ o. SlotNames t.pieces node i o) (change_read v.base v.change v.published)
      (slot_names t node i (word_of (ChangeAt v.base)) (names pairs words opens log enabled)
      v.in_slot) in
      vain_on t t log (Okay caller base) node i word v v.published v.in_slot
      (λ is.
      let row = same_change (t.pieces v.base) h.change here.row (subst (λ b. t.pieces b ≡ Some (Change h.change)) is h.pending.published) here.published in
      closed_not_open t node r free_there e closed (subst (λ n. IsOpen t n) (ap (λ c. c.node) row ∙ here.node_is) h.node_open))

  -- an event keeps the word of a closed slot, which is neither a change nor Unset
  pub closed_step : (event : Event) → Enabled (start pairs words) log event → (node i word : ℕ)
      → word ≢ unset_word → ((change : ℕ) → ref_of word ≢ Some (ChangeAt change))
      → IsClosedOver (state_of pairs words log) log node i word
      → IsClosedOver (state_of pairs words (event ∷ log)) (event ∷ log) node i word
  closed_step event h node i word set plain c =
      let it = inner_there (state_of pairs words log).pieces (state_of pairs words (event ∷ log)).pieces (grow_step (start pairs words) log event h rows_sound) node c.row c.published in
      record {
        row = it.0;
        published = it.1;
        closed = closed_on c.row.status it.0.status it.2.status c.closed;
        keeps = at event h c.keeps;
      }
    where
      at : (event : Event) → Enabled (start pairs words) log event
          → Keeping (state_of pairs words log) log event
          (state_of pairs words (event ∷ log)) node i word
      at (Install caller base rows) h = keeps_install caller base rows h node i word
      at (Resolve caller base) h = keeps_resolve caller base h node i word plain
      at (Place caller rebuild j new rows) h = keeps_place caller rebuild j new rows h node i word set
      at (Decide caller base said) h = keeps_decide caller base said h node i word
      at (Okay caller base) h = keeps_okay caller base h node i word c.row c.published c.closed
      at (Count caller n) h = keeps_quiet (start pairs words) log (Count caller n) h rows_sound tt tt (λ b n. n) node i word
      at (Mark caller n) h = keeps_quiet (start pairs words) log (Mark caller n) h rows_sound tt tt (λ b n. n) node i word
      at (Pass caller n j w) h = keeps_quiet (start pairs words) log (Pass caller n j w) h rows_sound tt tt (λ b n. n) node i word
      at (Finish caller n keys) h = keeps_quiet (start pairs words) log (Finish caller n keys) h rows_sound tt tt (λ b n. n) node i word
      at event h =
          keeps_quiet (start pairs words) log event h rows_sound tt tt (λ b n. n) node i word
