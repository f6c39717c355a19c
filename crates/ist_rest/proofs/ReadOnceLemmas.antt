-- Walks that read no row twice, before a slot more is walked. Serves the law on standing words.
-- `laws.standing_words_hold_the_map`.
use Rattle.std.proofs.Common.{◌≡◌, ℕ, ◌≤◌, ◌⊎◌, List, [], ◌∷◌, ◌++◌, length, slice_get, Option, Some, None, refl, sym, ap, subst, inl, inr, ⊎_elim, arith}
use Rattle.ist_core.specs.declared.pairs.Pair.{Pair}
use Rattle.ist_core.specs.declared.states.InnerRow.{InnerRow}
use Rattle.ist_core.specs.WordTerms.{rebuild_words, Ref, Empty, Unset, LeafAt, InnerAt, ChangeAt, RebuildAt, ref_of, Inner, Rebuild, SlotHolds, in_row, logical}
use Rattle.ist_core.specs.LogTerms.{Among, Snapshot, Log, state_of}
use Rattle.ist_core.proofs.AllWordLemmas.{word_of-ref_of}
use Rattle.ist_core.proofs.AllPlaceLemmas.{IsRebuildFor, SlotNames, slot_names, HasOneHome, one_home, LiesIn, lies_above, child_is, slot_reads_as}
use Rattle.laws_links.proofs.ResolvedLemmas.{resolved_gone}
use Rattle.ist_rest.specs.WordRows.{rows_on, Span}
use Rattle.ist_rest.specs.Walks.{Visit, Walks}
use Rattle.ist_rest.proofs.UnderLemmas.{as_rebuild, up_here, IsReadUnder, row_under, bases, AreRows, add_row}
use Rattle.ist_rest.proofs.PublishedLemmas.{IsStood, all_names, free, IsVisitOfSlot}

module _ {pairs : List Pair} {words : List ℕ} {log : Log} (s : IsStood pairs words log) where
  abbrev t : Snapshot
  t = state_of pairs (length words) log

  -- ---- the walk

  -- a walk that finds these pairs, in rows that are published, none of them twice
  pub record WalkFinds (visits : List Visit) (found : List Pair) : Type 0 where
    pub rows : List Span
    pub walk : Walks words visits rows found
    pub are : AreRows t rows

  -- none of the rows is read below the slot
  abbrev pub AreElsewhere : List Span → ℕ → ℕ → Type 0
  AreElsewhere rows n i = (b : ℕ) → Among b (bases rows) → IsReadUnder t n i b → ⊥

  -- none of the rows is read below a slot of the node from number j on
  abbrev pub AreBefore : List Span → ℕ → ℕ → Type 0
  AreBefore rows n j = (b m : ℕ) → Among b (bases rows) → j ≤ m → IsReadUnder t n m b → ⊥

  -- a longer walk: what it reads beyond the shorter one is read below the slot
  pub record Longer (visits : List Visit) (found : List Pair) (old : List Span) (n i : ℕ) : Type 0
    where
      pub finds : WalkFinds visits found
      -- each row that it reads is one of the old ones, or is read below the slot
      pub from : (b : ℕ) → Among b (bases finds.rows) → Among b (bases old) ⊎ IsReadUnder t n i b

  -- or below one of the slots of the node from number j on
  pub record LongerBy (visits : List Visit) (found : List Pair) (old : List Span) (n j : ℕ) : Type 0
    where
      pub finds : WalkFinds visits found
      -- each row that it reads is one of the old ones, or is read below such a slot
      pub from : (b : ℕ) → Among b (bases finds.rows) → Among b (bases old) ⊎ ((m : ℕ) × (j ≤ m)
          × IsReadUnder t n m b)

  -- the slots of a row are at their places
  pub at_slot : (visit : Visit) (i base : ℕ) (r : InnerRow) → IsVisitOfSlot s visit i
      → logical t.pieces visit.word ≡ Some (InnerAt base)
      → t.pieces base ≡ Some (Inner r) → (j place word : ℕ) → slice_get r.slots j ≡ Some word
      → IsVisitOfSlot s record {
        place = place;
        word = word;
        node = base;
        ways = record { keys = r.keys; index = j } ∷ visit.ways;
      } j
  at_slot visit i base r at e p j place word g = record {
    slot = in_row r p g;
    led = λ key lies. (
      sym (child_is t base key j r (free s) p lies.child_for),
      at.led key (lifted visit i base at e j key lies),
    );
  }
    where
      lifted : (visit : Visit) (i base : ℕ) → IsVisitOfSlot s visit i → logical t.pieces visit.word ≡ Some
          (InnerAt base) → (j key : ℕ) → LiesIn t key base j → LiesIn t key visit.node i
      lifted visit i base at e j key lies =
          lies_above t (all_names s) (one_home pairs (length words) s.lawful.opens log
          s.lawful.enabled)
          (free s) visit.node i base j key
          ((slot_reads_as t visit.node i visit.word (all_names s) at.slot).a_row base e) lies

  -- each row of the state has one home
  pub homes : HasOneHome t
  homes = one_home pairs (length words) s.lawful.opens log s.lawful.enabled

  -- the rebuild that a slot leads through, if there is one
  data HasWay (visit : Visit) (i : ℕ) : Type 0 where
    no_way : rows_on words (ref_of visit.word) ≡ [] → HasWay visit i
    by_rebuild : (b : ℕ) → IsRebuildFor t.pieces visit.node i b
        → rows_on words (ref_of visit.word) ≡ record { base = b; size = rebuild_words } ∷ []
        → HasWay visit i

  way_of : (visit : Visit) (i : ℕ) → IsVisitOfSlot s visit i → HasWay visit i
  way_of visit i at = by (ref_of visit.word) refl (slot_names t visit.node i visit.word
      (all_names s)
      at.slot)
    where
      by : (o : Option Ref) → ref_of visit.word ≡ o → SlotNames t.pieces visit.node i o
          → HasWay visit i
      by None e n = absurd n
      by (Some Empty) e n = no_way (ap (rows_on words) e)
      by (Some Unset) e n = no_way (ap (rows_on words) e)
      by (Some (LeafAt base)) e n = no_way (ap (rows_on words) e)
      by (Some (InnerAt base)) e n = no_way (ap (rows_on words) e)
      by (Some (ChangeAt base)) e n =
          let same = (word_of-ref_of visit.word (ChangeAt base) e).same_word in
          absurd (resolved_gone pairs (length words) s.lawful.opens log s.lawful.enabled base
          (s.resolved n.row.owner base n.row n.published refl) visit.node i
          (subst (SlotHolds t visit.node i) (sym same) at.slot))
      by (Some (RebuildAt base)) e n = by_rebuild base n (ap (rows_on words) e)

  -- the rows that a slot leads through, before others
  pub record Through (visit : Visit) (i : ℕ) (rows all : List Span) : Type 0 where
    pub are : AreRows t all
    -- each is one of the former ones, or is read below the slot
    pub from : (b : ℕ) → Among b (bases all) → Among b (bases rows) ⊎ IsReadUnder t visit.node i b

  -- the rows that a slot leads through, before rows without its rebuild, are published and distinct
  pub led_through : (visit : Visit) (i : ℕ) (at : IsVisitOfSlot s visit i) (here rows : List Span)
      → AreRows t (here ++ rows)
      → ((b : ℕ) → IsRebuildFor t.pieces visit.node i b → Among b (bases (here ++ rows)) → ⊥)
      → Through visit i (here ++ rows) ((rows_on words (ref_of visit.word) ++ here) ++ rows)
  led_through visit i at here rows are new = by (way_of visit i at)
    where
      by : HasWay visit i → Through visit i (here ++ rows)
          ((rows_on words (ref_of visit.word) ++ here) ++ rows)
      by (no_way e) = grind arith
      by (by_rebuild b h e) =
          subst (λ xs. Through visit i (here ++ rows) ((xs ++ here) ++ rows)) (sym e)
          record {
            are = add_row t b rebuild_words (Rebuild h.row) (here ++ rows) h.published
                (omega arith) (new b h) are;
            from = λ c a. ⊎_elim
                (λ same. inr (subst (IsReadUnder t visit.node i) (sym same)
                (row_under (as_rebuild h) up_here))) (λ old. inl old) a;
          }
