-- A table is settled exactly if its words are. Serves `closed.Closed.settled`.
use Rattle.std.proofs.Common.{◌≡◌, ℕ, zero, suc, ◌+◌, ◌⊎◌, List, [], ◌∷◌, length, slice_get, Some, refl, sym, ap, ◌∙◌, subst, inl, inr, ◌↔◌, arith}
use Rattle.std.proofs.lemmas.Option.{get_or_from_slice_get}
use Rattle.ist_core.specs.declared.pairs.Pair.{Pair}
use Rattle.ist_core.specs.declared.states.InnerRow.{InnerRow}
use Rattle.ist_core.specs.WordTerms.{anchor, anchor_slot_place, InnerAt, ref_of, Inner, SlotHolds, in_anchor, in_row, logical}
use Rattle.ist_core.specs.LogTerms.{Among, Snapshot, Log, state_of}
use Rattle.ist_core.specs.TreeTerms.{IsChild, Linked, at_anchor, below, IsSettled}
use Rattle.ist_rest.specs.Settling.{ReachedFrom, itself, through, AreSettled}
use Rattle.ist_rest.proofs.SettleLemmas.{reached_on}
use Rattle.ist_core.proofs.AllPlaceLemmas.{child_mentioned, no_row, InnerHere, slot_names, mentioned_here}
use Rattle.ist_rest.specs.WordRows.{word_at, row_size, reads_in}
use Rattle.ist_rest.proofs.RowLemmas.{word_is, first_word, size_word}
use Rattle.ist_rest.proofs.PublishedLemmas.{IsStood, all_names, free, room, told, stands, shape, slots_there}

module _ {pairs : List Pair} {words : List ℕ} {log : Log} (s : IsStood pairs words log) where
  abbrev t : Snapshot
  t = state_of pairs (length words) log

  -- a word reads as it reads in the table
  same_reading : (node i word : ℕ) → SlotHolds t node i word → reads_in words word ≡ logical
      t.pieces word
  same_reading node i word slot =
      (told s node i word (ref_of word) slot refl (slot_names t node i word (all_names s) slot)).2

  anchor_word : word_at words anchor_slot_place ≡ t.anchor
  anchor_word = get_or_from_slice_get words anchor_slot_place t.anchor 0 s.image.anchor_slot

  -- the row is reached from the anchor
  abbrev IsReachedFromAnchor : ℕ → Type 0
  IsReachedFromAnchor node = (base : ℕ) × (reads_in words (word_at words anchor_slot_place) ≡ Some
      (InnerAt base)) × ReachedFrom words base node

  at_index : (xs : List ℕ) (i word : ℕ) → slice_get xs i ≡ Some word → Among word xs
  at_index [] i word e = absurd (cc)
  at_index (x ∷ xs) zero word e = let same : x ≡ word = cc in inl (sym same)
  at_index (x ∷ xs) (suc i) word e = inr (at_index xs i word e)

  index_at : (xs : List ℕ) (word : ℕ) → Among word xs → (i : ℕ) × (slice_get xs i ≡ Some word)
  index_at [] word a = absurd a
  index_at (x ∷ xs) word (inl e) = (0, ap (λ w. Some w) (sym e))
  index_at (x ∷ xs) word (inr a) = let it = index_at xs word a in (suc it.0, it.1)

  -- a linked row is reached
  linked_reached : (node : ℕ) → Linked t node → (node ≡ anchor) ⊎ IsReachedFromAnchor node
  linked_reached _ at_anchor = inl refl
  linked_reached _ (below {node = node} {child = child} i l c) =
      inr (at c.holds (linked_reached node l))
    where
      at : SlotHolds t node i c.word → (node ≡ anchor) ⊎ IsReachedFromAnchor node → IsReachedFromAnchor child
      at (in_anchor a z e) up =
          let first : SlotHolds t anchor 0 t.anchor = in_anchor refl refl refl in (
            child,
            ap (reads_in words) anchor_word ∙ same_reading anchor 0 t.anchor first
                ∙ ap (logical t.pieces) e ∙ c.reads,
            itself,
          )
      at (in_row r p g) (inl a) = absurd (no_row t.pieces node r (free s) a p)
      at (in_row r p g) (inr up) =
          let among = subst (Among c.word) (sym (slots_there s node r p))
          (at_index r.slots i c.word g) in (
            up.0,
            up.1,
            reached_on words up.0 node child c.word up.2 among
                (same_reading node i c.word c.holds ∙ c.reads),
          )

  -- a row that is reached is linked
  reached_linked : (base node : ℕ) → ReachedFrom words base node → Linked t base
      → InnerHere t.pieces base → Linked t node × InnerHere t.pieces node
  reached_linked _ node itself l h = (l, h)
  reached_linked base node (through {child = child} word a e r) l h =
      let it = index_at h.0.slots word (subst (Among word) (slots_there s base h.0 h.1) a) in
      let holds : SlotHolds t base it.0 word = in_row h.0 h.1 it.1 in
      let c : IsChild t base it.0 child = record {
        word = word;
        holds = holds;
        reads = sym (same_reading base it.0 word holds) ∙ e;
      } in
      reached_linked child node r (below it.0 l c) (mentioned_here t base it.0 child (all_names s)
      (child_mentioned t base it.0 child (all_names s) c))

  first_linked : (base : ℕ) → reads_in words (word_at words anchor_slot_place) ≡ Some
      (InnerAt base) → Linked t base × InnerHere t.pieces base
  first_linked base e = let first : SlotHolds t anchor 0 t.anchor = in_anchor refl refl refl in
      let c : IsChild t anchor 0 base = record {
        word = t.anchor;
        holds = first;
        reads = sym (same_reading anchor 0 t.anchor first) ∙ ap (reads_in words) (sym anchor_word)
            ∙ e;
      } in (
        below 0 at_anchor c,
        mentioned_here t anchor 0 base (all_names s)
            (child_mentioned t anchor 0 base (all_names s) c),
      )

  status_there : (base : ℕ) (r : InnerRow) → t.pieces base ≡ Some (Inner r)
      → word_at words base ≡ r.status
  status_there base r e = first_word words base (Inner r) (stands s base r e) (omega arith)

  count_there : (base : ℕ) (r : InnerRow) → t.pieces base ≡ Some (Inner r)
      → word_at words (base + 1) ≡ r.count
  count_there base r e = word_is words base 1 (Inner r) (stands s base r e) (omega arith)

  size_there : (base : ℕ) (r : InnerRow) → t.pieces base ≡ Some (Inner r)
      → row_size words base ≡ r.size
  size_there base r e = size_word words base r (stands s base r e) (shape s base r e)
      (room s base (Inner r) e)

  -- the table is settled exactly if its words are
  pub settled_words : AreSettled words ↔ IsSettled t
  settled_words =
      grind (
        arith,
        no_row,
        free,
        linked_reached,
        status_there,
        count_there,
        size_there,
        first_linked,
        reached_linked,
      )
