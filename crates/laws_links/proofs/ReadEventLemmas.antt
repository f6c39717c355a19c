-- What each kind of event makes of what a slot reads as. Serves the linked law and the replacement law.
use Rattle.std.proofs.Common.{Bool, List, None, Option, Some, ap, false, inl, inr, option_map, refl, subst, sym, true, ℕ, ⊎_elim, ◌∙◌, ◌∷◌, ◌≡◌, ◌≢◌, ◌⊎◌, arith}
use Rattle.std.proofs.lemmas.Bool.Decides.{eqb_tells}
use Rattle.ist_core.specs.declared.events.Event.{Event}
use Rattle.ist_core.specs.declared.events.Event.TheVariants.{Decide, Install, Place, Resolve}
use Rattle.ist_core.specs.declared.lists.Row.{Row}
use Rattle.ist_core.specs.declared.pairs.Pair.{Pair}
use Rattle.ist_core.specs.declared.states.ChangeRow.{ChangeRow}
use Rattle.ist_core.specs.LogTerms.{decision_word, side_of, CanOpen, EachEnabled, state_of, Log}
use Rattle.ist_core.specs.WordTerms.{Change, changed_at, with_decision, ChangeAt, Empty, InnerAt, LeafAt, RebuildAt, Ref, Unset, ref_of, word_of, SlotHolds, change_reads, past_change, start, decided_no, decided_yes, undecided}
use Rattle.ist_core.proofs.AllLogLemmas.{change_read, past_no_change}
use Rattle.ist_core.proofs.AllEventLemmas.{from_plain}
use Rattle.ist_core.proofs.AllPlaceLemmas.{SlotNames, slot_names, side_names, names, anchor_free, IsNoDecide, WritesNoSlot, change_stays, install_stands, install_writes, place_writes, resolve_writes, slot_stays}
use Rattle.ist_core.proofs.AllWordLemmas.{ref_of-unset, changed_at-other, changed_at-same, same_change}
use Rattle.laws_links.proofs.ChangeLemmas.{undecided_stands}
use Rattle.laws_links.proofs.InductionLemmas.{sound_after}
use Rattle.laws_links.proofs.ReadLemmas.{FillsSlot, ReadsAs, Turns, filled_by, past_same, side_plain, side_undecided, turned_by}

-- what a slot reads as after an event
abbrev pub ReadsAfter : List Pair → ℕ → Log → ℕ → ℕ → Ref → Event → Type 0
ReadsAfter pairs words log node i ref event =
    ReadsAs (state_of pairs words (event ∷ log)) node i ref ⊎ Turns
    (start pairs words) log node i ref event

module _ (pairs : List Pair) (words : ℕ) (opens : CanOpen pairs words) where
  -- a published change in a slot reads as its side
  pub change_past : (log : Log) → EachEnabled (start pairs words) log → (base : ℕ) (x : ChangeRow)
      → (state_of pairs words log).pieces base ≡ Some (Change x)
      → past_change (state_of pairs words log).pieces (ref_of (word_of (ChangeAt base))) ≡ ref_of (side_of x)
  change_past log h base x e = grind (arith, change_read)

  -- an event that writes no slot and decides nothing
  pub reads_quiet : (log : Log) (event : Event) → EachEnabled (start pairs words) (event ∷ log)
      → WritesNoSlot event → IsNoDecide event → (node i : ℕ) (ref : Ref)
      → ReadsAs (state_of pairs words log) node i ref → ReadsAfter pairs words log node i ref event
  reads_quiet log event h none still node i ref r = let s = sound_after pairs words log h.0 in
      inl record {
        word = r.word;
        holds = slot_stays (start pairs words) log event h.1 s none node i r.word r.holds;
        reads =
            past_same (state_of pairs words log).pieces (state_of pairs words (event ∷ log)).pieces
            (ref_of r.word) ref
            (λ base x is e. (x, change_stays (start pairs words) log event h.1 s still base x e, refl)) r.reads;
      }

  -- a slot that an event leaves
  reads_left : (log : Log) (event : Event) → EachEnabled (start pairs words) (event ∷ log)
      → IsNoDecide event → (node i : ℕ) (ref : Ref)
      (r : ReadsAs (state_of pairs words log) node i ref)
      → SlotHolds (state_of pairs words (event ∷ log)) node i r.word
      → ReadsAs (state_of pairs words (event ∷ log)) node i ref
  reads_left log event h still node i ref r slot = record {
    word = r.word;
    holds = slot;
    reads = past_same (state_of pairs words log).pieces (state_of pairs words (event ∷ log)).pieces
        (ref_of r.word) ref
        (λ base x is e. (x, change_stays (start pairs words) log event h.1 (sound_after pairs words log h.0) still base x e, refl)) r.reads;
  }

  -- a change that is installed reads as what it takes out
  pub reads_install : (log : Log) (caller base : ℕ) (rows : List Row)
      → (h : EachEnabled (start pairs words) (Install caller base rows ∷ log))
      → (node i : ℕ) (ref : Ref) → ReadsAs (state_of pairs words log) node i ref
      → ReadsAfter pairs words log node i ref (Install caller base rows)
  reads_install log caller base rows h node i ref r = let t = state_of pairs words log in
      let u = state_of pairs words (Install caller base rows ∷ log) in let can = h.1 in
      let writes = install_writes (start pairs words) log caller base rows can (sound_after pairs words log h.0) (anchor_free pairs words log h.0) in
      let there = install_stands (start pairs words) log caller base rows can in ⊎_elim
      (λ w. inl record {
        word = word_of (ChangeAt base);
        holds =
            subst (λ j. SlotHolds u node j (word_of (ChangeAt base))) (sym w.2) (subst (λ n. SlotHolds u n can.change.index (word_of (ChangeAt base))) (sym w.1) writes.now);
        reads = change_past (Install caller base rows ∷ log) h base can.change there
            ∙ ap ref_of (side_undecided can.change can.unset ∙ sym w.0) ∙ sym
            (past_no_change t.pieces (ref_of r.word) (λ at e. from_plain (start pairs words) log can.change can.fresh can.fits at (ap ref_of (sym w.0) ∙ e)))
            ∙ r.reads;
      })
      (λ stays. inl (reads_left log (Install caller base rows) h tt node i ref r stays))
      (writes.others node i r.word r.holds)

  -- the word that a resolved change leaves in its slot reads as the change did
  pub reads_resolve : (log : Log) (caller base : ℕ)
      → (h : EachEnabled (start pairs words) (Resolve caller base ∷ log)) → (node i : ℕ) (ref : Ref)
      → ReadsAs (state_of pairs words log) node i ref
      → ReadsAfter pairs words log node i ref (Resolve caller base)
  reads_resolve log caller base h node i ref r = let t = state_of pairs words log in
      let u = state_of pairs words (Resolve caller base ∷ log) in let can = h.1 in
      let writes = resolve_writes t caller base can (anchor_free pairs words log h.0) in
      let row = (names pairs words opens log h.0).rows base (Change can.change) can.published in
      let side = side_names t.pieces can.change.node can.change.index can.change row.0 row.1 in
      ⊎_elim
      (λ w. inl record {
        word = side_of can.change;
        holds =
            subst (λ j. SlotHolds u node j (side_of can.change)) (sym w.2) (subst (λ n. SlotHolds u n can.change.index (side_of can.change)) (sym w.1) writes.now);
        reads = past_no_change u.pieces (ref_of (side_of can.change))
            (side_plain t.pieces can.change.node can.change.index (ref_of (side_of can.change)) side)
            ∙ sym (change_past log h.0 base can.change can.published)
            ∙ ap (λ v. past_change t.pieces (ref_of v)) (sym w.0) ∙ r.reads;
      })
      (λ stays. inl (reads_left log (Resolve caller base) h tt node i ref r stays))
      (writes.others node i r.word r.holds)

  -- a Place writes a slot that wasn't set
  pub reads_place : (log : Log) (caller rebuild j word : ℕ) (rows : List Row)
      → (h : EachEnabled (start pairs words) (Place caller rebuild j word rows ∷ log))
      → (node i : ℕ) (ref : Ref) → ReadsAs (state_of pairs words log) node i ref
      → ReadsAfter pairs words log node i ref (Place caller rebuild j word rows) ⊎ FillsSlot (start pairs words) log node i ref (Place caller rebuild j word rows)
  reads_place log caller rebuild j word rows h node i ref r = let t = state_of pairs words log in
      let writes = place_writes t caller rebuild j word rows h.1 (sound_after pairs words log h.0) (anchor_free pairs words log h.0) in
      ⊎_elim
      (λ w. inr (filled_by h.1 w.1 w.2 (cc (r.reads, ap (λ v. past_change t.pieces (ref_of v)) w.0 ∙ ap (past_change t.pieces) ref_of-unset))))
      (λ stays. inl (inl (reads_left log (Place caller rebuild j word rows) h tt node i ref r stays)))
      (writes.others node i r.word r.holds)

  -- a Decide turns the slot of its change, or leaves what it reads as
  pub reads_decide : (log : Log) (caller base : ℕ) (said : Bool)
      → EachEnabled (start pairs words) (Decide caller base said ∷ log) → (node i : ℕ) (ref : Ref)
      → ReadsAs (state_of pairs words log) node i ref
      → ReadsAfter pairs words log node i ref (Decide caller base said)
  reads_decide log caller base said h node i ref r = at said h (is_change_at (ref_of r.word) base)
    where
      -- the reference is the change's, or another
      is_change_at : (o : Option Ref) (base : ℕ)
          → (o ≡ Some (ChangeAt base)) ⊎ (o ≢ Some (ChangeAt base))
      is_change_at (Some (ChangeAt b)) base = grind (arith, eqb_tells)
      is_change_at (Some Empty) base = inr (λ e. cc)
      is_change_at (Some Unset) base = inr (λ e. cc)
      is_change_at (Some (LeafAt b)) base = inr (λ e. cc)
      is_change_at (Some (InnerAt b)) base = inr (λ e. cc)
      is_change_at (Some (RebuildAt b)) base = inr (λ e. cc)
      is_change_at None base = inr (λ e. cc)

      -- another change is left as it is
      other : (said : Bool) → EachEnabled (start pairs words) (Decide caller base said ∷ log)
          → ref_of r.word ≢ Some (ChangeAt base)
          → ReadsAs (state_of pairs words (Decide caller base said ∷ log)) node i ref
      other said h ne = let t = state_of pairs words log in
          let f = with_decision (decision_word said) in record {
            word = r.word;
            holds =
                slot_stays (start pairs words) log (Decide caller base said) h.1 (sound_after pairs words log h.0) tt node i r.word r.holds;
            reads = past_same t.pieces (changed_at t.pieces base f) (ref_of r.word) ref
                (λ b x is e. (x, changed_at-other t.pieces base b f (λ same. ne (is ∙ ap (λ n. Some (ChangeAt n)) same)) ∙ e, refl)) r.reads;
          }

      at : (said : Bool) → EachEnabled (start pairs words) (Decide caller base said ∷ log)
          → (ref_of r.word ≡ Some (ChangeAt base)) ⊎ (ref_of r.word ≢ Some (ChangeAt base))
          → ReadsAfter pairs words log node i ref (Decide caller base said)
      at said h (inr ne) = inl (other said h ne)
      at false h (inl is) = let t = state_of pairs words log in let f = with_decision decided_no in
          inl record {
            word = r.word;
            holds =
                slot_stays (start pairs words) log (Decide caller base false) h.1 (sound_after pairs words log h.0) tt node i r.word r.holds;
            reads = past_same t.pieces (changed_at t.pieces base f) (ref_of r.word) ref
                (λ b x named e. let same : b ≡ base = cc (sym named ∙ is) in
                let row = same_change (t.pieces base) x h.1.change (subst (λ n. t.pieces n ≡ Some (Change x)) same e) h.1.pending.published in (
                  record x { decision = decided_no },
                  subst (λ n. changed_at t.pieces base f n ≡ Some (Change record x { decision = decided_no })) (sym same) (changed_at-same t.pieces base f ∙ ap (option_map f) (subst (λ n. t.pieces n ≡ Some (Change x)) same e)),
                  sym (side_undecided x (ap (λ c. c.decision) row ∙ h.1.pending.unset)),
                )) r.reads;
          }
      at true h (inl is) = let t = state_of pairs words log in
          let here : SlotNames t.pieces node i (Some (ChangeAt base)) = subst (λ o. SlotNames t.pieces node i o) is (slot_names t node i r.word (names pairs words opens log h.0) r.holds) in
          let row =
          same_change (t.pieces base) h.1.change here.row h.1.pending.published here.published in
          inr (turned_by h.1 (ap (λ c. c.node) row ∙ here.node_is) (ap (λ c. c.index) row ∙ here.index)
          (ap ref_of (sym (side_undecided h.1.change h.1.pending.unset)) ∙ sym (ap change_reads h.1.pending.published) ∙ ap (past_change t.pieces) (sym is) ∙ r.reads))

  -- the slot of a change that is decided yes reads as what it puts there
  pub decide_reads : (log : Log) (caller base : ℕ)
      → EachEnabled (start pairs words) (Decide caller base true ∷ log)
      → (x : ChangeRow) → (state_of pairs words log).pieces base ≡ Some (Change x) → (ref : Ref)
      → ref_of x.to ≡ Some ref
      → ReadsAs (state_of pairs words (Decide caller base true ∷ log)) x.node x.index ref
  decide_reads log caller base h x e ref is = let t = state_of pairs words log in
      let f = with_decision decided_yes in
      let row = same_change (t.pieces base) h.1.change x h.1.pending.published e in
      let none : x.decision ≡ undecided = ap (λ c. c.decision) (sym row) ∙ h.1.pending.unset in
      record {
        word = word_of (ChangeAt base);
        holds = slot_stays (start pairs words) log (Decide caller base true) h.1
            (sound_after pairs words log h.0) tt x.node x.index (word_of (ChangeAt base))
            (undecided_stands pairs words opens log h.0 base x e none);
        reads =
            change_past (Decide caller base true ∷ log) h base (record x { decision = decided_yes }) (changed_at-same t.pieces base f ∙ ap (option_map f) e) ∙ is;
      }
