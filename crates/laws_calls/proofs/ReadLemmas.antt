-- If a slot reads as a rebuild, the rebuild was started. Serves the start law.
use Rattle.std.proofs.Common.{List, None, Option, Some, [], ap, inl, refl, subst, sym, ℕ, ⊎_elim, ◌∙◌, ◌∷◌, ◌≡◌, ◌⊎◌, arith}
use Rattle.std.proofs.lemmas.Option.{same_Some}
use Rattle.ist_core.specs.declared.events.Event.TheVariants.{Install, Place, Resolve}
use Rattle.ist_core.specs.declared.events.Event.{Event}
use Rattle.ist_core.specs.declared.pairs.Pair.{Pair}
use Rattle.ist_core.specs.LogTerms.{side_of, CanOpen, EachEnabled, state_of, Log, Snapshot, bases_of}
use Rattle.ist_core.specs.WordTerms.{Change, Inner, Leaf, Piece, Rebuild, with_inners, ChangeAt, Empty, InnerAt, LeafAt, RebuildAt, Ref, Unset, ref_of, unset_word, word_of, anchor, SlotHolds, change_reads, past_change, start}
use Rattle.ist_core.specs.TreeTerms.{IsStarted}
use Rattle.ist_core.proofs.AllPlaceLemmas.{SlotNames, slot_names, names, anchor_free, slot_once, WritesNoSlot, WritesSlot, install_writes, place_writes, resolve_writes, slot_stays}
use Rattle.ist_core.proofs.AllLogLemmas.{grow_after}
use Rattle.laws_links.proofs.FormLemmas.{started_grows}
use Rattle.laws_links.proofs.InductionLemmas.{sound_after}
use Rattle.laws_links.proofs.ComesLemmas.{start_quiet}
use Rattle.laws_links.specs.Replacing.{ReadsAsRebuild}
use Rattle.laws_calls.proofs.OwnLemmas.{ideal_no_rebuild, no_rebuild_of_change, side_started, slot_before}

module _ (pairs : List Pair) (words : ℕ) (opens : CanOpen pairs words) where
  -- ---- the law, event by event

  -- the slot keeps its word, or the rebuild was started
  Keeps : Log → Event → Type 0
  Keeps log event = (node i old word rebuild : ℕ) → SlotHolds (state_of pairs words log) node i old
      → SlotHolds (state_of pairs words (event ∷ log)) node i word
      → ref_of word ≡ Some (RebuildAt rebuild)
      → (old ≡ word) ⊎ IsStarted (state_of pairs words log) rebuild

  -- an event that writes no slot
  quiet_keeps : (log : Log) (event : Event) → EachEnabled (start pairs words) (event ∷ log)
      → WritesNoSlot event → Keeps log event
  unfolding Keeps
  quiet_keeps log event h none node i old word rebuild was now is = inl
      (slot_once (state_of pairs words (event ∷ log)) node i old word
      (anchor_free pairs words (event ∷ log) h)
      (slot_stays (start pairs words) log event h.1 (sound_after pairs words log h.0) none node i
      old was) now)

  -- an event that writes one slot
  write_keeps : (log : Log) (event : Event) → EachEnabled (start pairs words) (event ∷ log)
      → (at j new gone : ℕ)
      → WritesSlot (state_of pairs words log) (state_of pairs words (event ∷ log)) at j new gone
      → ((rebuild : ℕ) → ref_of new ≡ Some (RebuildAt rebuild)
      → IsStarted (state_of pairs words log) rebuild)
      → Keeps log event
  unfolding Keeps
  write_keeps log event h at j new gone w tells node i old word rebuild was now is = ⊎_elim
      (λ here.
      grind (arith, slot_once, free))
      (λ stays. inl (slot_once u node i old word free stays now)) (w.others node i old was)
    where
      u : Snapshot
      u = state_of pairs words (event ∷ log)

      free : u.pieces anchor ≡ None
      free = anchor_free pairs words (event ∷ log) h

  -- a slot that holds a rebuild after any event held it before, or the rebuild was started
  keeps : (log : Log) (event : Event) → EachEnabled (start pairs words) (event ∷ log)
      → Keeps log event
  keeps log (Install caller base rows) h =
      write_keeps log (Install caller base rows) h h.1.change.node h.1.change.index
      (word_of (ChangeAt base)) h.1.change.from
      (install_writes (start pairs words) log caller base rows h.1
      (sound_after pairs words log h.0) (anchor_free pairs words log h.0))
      (λ rebuild e. absurd (no_rebuild_of_change base rebuild e))
  keeps log (Resolve caller base) h =
      write_keeps log (Resolve caller base) h h.1.change.node h.1.change.index
      (side_of h.1.change) (word_of (ChangeAt base))
      (resolve_writes (state_of pairs words log) caller base h.1 (anchor_free pairs words log h.0))
      (side_started pairs words opens log h.0 base h.1.change h.1.published)
  keeps log (Place caller rebuild j word rows) h =
      write_keeps log (Place caller rebuild j word rows) h h.1.root j word unset_word
      (place_writes (state_of pairs words log) caller rebuild j word rows h.1
      (sound_after pairs words log h.0) (anchor_free pairs words log h.0))
      (λ other e. absurd
      (ideal_no_rebuild (with_inners (state_of pairs words log).pieces rows) h.1.ref h.1.part
      h.1.root
      (bases_of rows) h.1.ideal other (same_Some h.1.ref (RebuildAt other) (sym h.1.ref_is ∙ e))))
  keeps log event h = quiet_keeps log event h tt

  -- ---- the law

  -- at the start no slot names a rebuild
  none_first : (node i word rebuild : ℕ) → SlotHolds (start pairs words) node i word
      → ref_of word ≡ Some (RebuildAt rebuild) → ⊥
  none_first node i word rebuild slot is = let o = names pairs words opens [] tt in
      let named = subst (λ r. SlotNames (start pairs words).pieces node i r) is
      (slot_names (start pairs words) node i word o slot) in
      start_quiet pairs words rebuild (Rebuild named.row) named.published

  -- if a slot holds a rebuild, the rebuild was started
  slot_started : (log : Log) → EachEnabled (start pairs words) log → (node i word rebuild : ℕ)
      → SlotHolds (state_of pairs words log) node i word → ref_of word ≡ Some (RebuildAt rebuild)
      → IsStarted (state_of pairs words log) rebuild
  unfolding Keeps
  slot_started [] h node i word rebuild slot is = absurd (none_first node i word rebuild slot is)
  slot_started (event ∷ log) h node i word rebuild slot is =
      let old = slot_before pairs words opens log event h node i word rebuild slot is in
      started_grows (state_of pairs words log) (state_of pairs words (event ∷ log))
      (grow_after pairs words log event h) rebuild
      (⊎_elim
      (λ same. slot_started log h.0 node i old.0 rebuild old.1 (ap ref_of same ∙ is)) (λ k. k)
      (keeps log event h node i old.0 word rebuild old.1 slot is))

  -- if a slot reads as a rebuild, the rebuild was started
  pub read_started : (log : Log) → EachEnabled (start pairs words) log → (node i rebuild : ℕ)
      → ReadsAsRebuild (state_of pairs words log) node i rebuild
      → IsStarted (state_of pairs words log) rebuild
  read_started log h node i rebuild r = at (ref_of r.word) refl r.reads
    where
      t : Snapshot
      t = state_of pairs words log

      by_change : (base : ℕ) (o : Option Piece) → t.pieces base ≡ o
          → change_reads o ≡ Some (RebuildAt rebuild) → IsStarted t rebuild
      by_change base (Some (Change x)) e reads = grind (arith, side_started)
      by_change base (Some (Leaf x)) e reads = absurd (cc)
      by_change base (Some (Inner x)) e reads = absurd (cc)
      by_change base (Some (Rebuild x)) e reads = absurd (cc)
      by_change base None e reads = absurd (cc)

      at : (o : Option Ref) → ref_of r.word ≡ o → past_change t.pieces o ≡ Some (RebuildAt rebuild)
          → IsStarted t rebuild
      at (Some (ChangeAt base)) is reads = by_change base (t.pieces base) refl reads
      at (Some (RebuildAt base)) is reads =
          slot_started log h node i r.word rebuild r.holds (is ∙ reads)
      at (Some Empty) is reads = absurd (cc)
      at (Some Unset) is reads = absurd (cc)
      at (Some (LeafAt base)) is reads = absurd (cc)
      at (Some (InnerAt base)) is reads = absurd (cc)
      at None is reads = absurd (cc)
