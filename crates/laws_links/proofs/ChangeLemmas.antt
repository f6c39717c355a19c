-- What holds of each published change: a pending one is in its slot, its node was linked, and yes
-- takes an Okay. Serves the linked law.
use Rattle.std.proofs.Common.{Bool, List, None, Some, [], ap, arith, false, inl, inr, refl, subst, sym, true, ℕ, ⊎_elim, ◌*◌, ◌+◌, ◌∙◌, ◌∷◌, ◌≡◌, ◌≢◌}
use Rattle.ist_core.specs.declared.events.Event.{Event}
use Rattle.ist_core.specs.declared.events.Event.TheVariants.{Decide, Install, Place, Resolve}
use Rattle.ist_core.specs.declared.lists.Row.{Row}
use Rattle.ist_core.specs.declared.pairs.Pair.{Pair}
use Rattle.ist_core.specs.declared.states.ChangeRow.{ChangeRow}
use Rattle.ist_core.specs.LogTerms.{decision_word, Enabled, CanOpen, EachEnabled, state_of, Ever, Happened, Log, Okays, Resolves, state, Snapshot}
use Rattle.ist_core.specs.TreeTerms.{MayBe, CanInstall, Linked, WasLinked}
use Rattle.ist_core.specs.WordTerms.{Change, ChangeAt, ref_of, word_of, SlotHolds, start, decided_yes, undecided}
use Rattle.ist_core.proofs.AllLogLemmas.{change_read, same_change_word, change_there, grow_after, said_something}
use Rattle.ist_core.proofs.AllEventLemmas.{from_plain, HeldLieApart, holds_installed}
use Rattle.ist_core.proofs.AllPlaceLemmas.{absent, anchor_free, install_writes, place_writes, resolve_writes, slot_stays}
use Rattle.ist_core.proofs.AllWordLemmas.{no_value, same_change}
use Rattle.laws_links.proofs.InductionLemmas.{changes_by, sound_after}

-- if a decision's word is yes, the decision is yes
pub said_yes : (said : Bool) → decision_word said ≡ decided_yes → said ≡ true
said_yes true e = refl
said_yes false e = let two : ◌≡◌ {A = ℕ} 2 1 = e in absurd (omega arith)

-- the change that an event resolves is published and decided
pub record IsDecidedAt (t : Snapshot) (base : ℕ) : Type 0 where
  pub row : ChangeRow
  pub published : t.pieces base ≡ Some (Change row)
  pub decided : row.decision ≢ undecided

-- a change that an enabled event resolves is decided
pub resolved_now : (first : Snapshot) (log : Log) (event : Event) (base : ℕ)
    → Enabled first log event → Resolves base event → IsDecidedAt (state first log) base
resolved_now first log (Resolve caller change) base h is = grind arith
resolved_now first log _ base h is = absurd is

-- a change that isn't published wasn't resolved
unresolved_before : (pairs : List Pair) (words : ℕ) (log : Log)
    → EachEnabled (start pairs words) log
    → (base : ℕ) → (state_of pairs words log).pieces base ≡ None → ¬ (Happened (Resolves base) log)
unresolved_before pairs words [] h base none happened = happened
unresolved_before pairs words (event ∷ log) h base none (inl now) =
    grind (arith, resolved_now, change_there, grow_after, no_value)
unresolved_before pairs words (event ∷ log) h base none (inr before) =
    unresolved_before pairs words log h.0 base (absent ((state_of pairs words log).pieces base) (λ p e.
    let on = grow_after pairs words log event h base p e in no_value ((state_of pairs words (event ∷ log)).pieces base) on.0 none on.1)) before

-- no row is published at the base at which a change is installed
pub install_free : (first : Snapshot) (log : Log) (caller base : ℕ) (rows : List Row)
    → CanInstall first log caller base rows → HeldLieApart (state first log)
    → (state first log).pieces base ≡ None
install_free first log caller base rows h s =
    s.unpublished record { caller = caller; base = base; size = 9 }
    (holds_installed first log caller base rows h).0

module _ (pairs : List Pair) (words : ℕ) (opens : CanOpen pairs words) where
  -- a change in a slot stays there until it is resolved
  pub change_slot_stays : (log : Log) (event : Event)
      → EachEnabled (start pairs words) (event ∷ log)
      → (base : ℕ) (x : ChangeRow) → (state_of pairs words log).pieces base ≡ Some (Change x)
      → ¬ (Resolves base event) → (n i : ℕ)
      → SlotHolds (state_of pairs words log) n i (word_of (ChangeAt base))
      → SlotHolds (state_of pairs words (event ∷ log)) n i (word_of (ChangeAt base))
  change_slot_stays log (Install caller change rows) h base x e unresolved n i slot =
      let writes = install_writes (start pairs words) log caller change rows h.1 (sound_after pairs words log h.0) (anchor_free pairs words log h.0) in
      ⊎_elim
      (λ w. absurd (from_plain (start pairs words) log h.1.change h.1.fresh h.1.fits base (ap ref_of (sym w.0) ∙ change_read pairs words opens log h.0 base x e)))
      (λ stays. stays) (writes.others n i (word_of (ChangeAt base)) slot)
  change_slot_stays log (Resolve caller change) h base x e unresolved n i slot =
      let writes = resolve_writes (state_of pairs words log) caller change h.1 (anchor_free pairs words log h.0) in
      ⊎_elim (λ w. absurd (unresolved (sym (same_change_word base change w.0)))) (λ stays. stays)
      (writes.others n i (word_of (ChangeAt base)) slot)
  change_slot_stays log (Place caller rebuild j word rows) h base x e unresolved n i slot =
      let writes = place_writes (state_of pairs words log) caller rebuild j word rows h.1 (sound_after pairs words log h.0) (anchor_free pairs words log h.0) in
      ⊎_elim (λ w. absurd (let seven : base * 8 + 3 ≡ 7 = w.0 in omega arith)) (λ stays. stays)
      (writes.others n i (word_of (ChangeAt base)) slot)
  change_slot_stays log event h base x e unresolved n i slot =
      slot_stays (start pairs words) log event h.1 (sound_after pairs words log h.0) tt n i
      (word_of (ChangeAt base)) slot

  -- a change that wasn't resolved is in its slot
  pub unresolved_stands : (log : Log) → EachEnabled (start pairs words) log
      → (base : ℕ) (x : ChangeRow)
      → (state_of pairs words log).pieces base ≡ Some (Change x) → ¬ (Happened (Resolves base) log)
      → SlotHolds (state_of pairs words log) x.node x.index (word_of (ChangeAt base))
  unresolved_stands = changes_by pairs words
      (λ log base x. ¬ (Happened (Resolves base) log) → SlotHolds (state_of pairs words log) x.node x.index (word_of (ChangeAt base)))
      (λ log event h base x old there stands unresolved.
      change_slot_stays log event h base x old (λ now. unresolved (inl now)) x.node x.index (stands (λ before. unresolved (inr before))))
      (λ log caller base rows h can unresolved.
      (install_writes (start pairs words) log caller base rows can (sound_after pairs words log h.0) (anchor_free pairs words log h.0)).now)
      (λ log caller base said h can stands unresolved.
      change_slot_stays log (Decide caller base said) h base can.change can.pending.published (λ now. unresolved (inl now)) can.change.node can.change.index (stands (λ before. unresolved (inr before))))

  -- an undecided change wasn't resolved
  pub undecided_unresolved : (log : Log) → EachEnabled (start pairs words) log
      → (base : ℕ) (x : ChangeRow)
      → (state_of pairs words log).pieces base ≡ Some (Change x) → x.decision ≡ undecided
      → ¬ (Happened (Resolves base) log)
  undecided_unresolved = changes_by pairs words
      (λ log base x. x.decision ≡ undecided → ¬ (Happened (Resolves base) log))
      (λ log event h base x old there before none happened. ⊎_elim
      (λ now. let it = resolved_now (start pairs words) log event base h.1 now in
      it.decided (ap (λ y. y.decision) (same_change ((state_of pairs words log).pieces base) it.row x it.published old) ∙ none))
      (λ earlier. before none earlier)
      happened)
      (λ log caller base rows h can none happened. ⊎_elim
      (λ now. now)
      (λ earlier. unresolved_before pairs words log h.0 base (install_free (start pairs words) log caller base rows can (sound_after pairs words log h.0)) earlier)
      happened)
      (λ log caller base said h can before none happened. said_something said none)

  -- an undecided change is in its slot
  pub undecided_stands : (log : Log) → EachEnabled (start pairs words) log
      → (base : ℕ) (x : ChangeRow)
      → (state_of pairs words log).pieces base ≡ Some (Change x) → x.decision ≡ undecided
      → SlotHolds (state_of pairs words log) x.node x.index (word_of (ChangeAt base))
  undecided_stands log h base x e none =
      unresolved_stands log h base x e (undecided_unresolved log h base x e none)

  -- the node of each change was linked
  pub node_was_linked : (log : Log) → EachEnabled (start pairs words) log
      → (base : ℕ) (x : ChangeRow) → (state_of pairs words log).pieces base ≡ Some (Change x)
      → WasLinked (start pairs words) log x.node
  node_was_linked =
      changes_by pairs words (λ log base x. Ever (start pairs words) (λ t. Linked t x.node) log)
      (λ log event h base x old there was. inr was) (λ log caller base rows h can. inr can.linked)
      (λ log caller base said h can was. inr was)

  -- a change that was decided yes has an Okay
  pub yes_has_okay : (log : Log) → EachEnabled (start pairs words) log → (base : ℕ) (x : ChangeRow)
      → (state_of pairs words log).pieces base ≡ Some (Change x) → x.decision ≡ decided_yes
      → Happened (Okays base) log
  yes_has_okay =
      changes_by pairs words (λ log base x. x.decision ≡ decided_yes → Happened (Okays base) log)
      (λ log event h base x old there before yes. inr (before yes))
      (λ log caller base rows h can yes. let none = can.unset in absurd (omega arith))
      (λ log caller base said h can before yes. inr (subst (λ v. MayBe (state_of pairs words log) log base can.change v) (said_yes said yes) can.outcome))
