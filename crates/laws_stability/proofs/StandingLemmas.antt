-- The place of a row that is open and once was in a slot. Serves `laws.open_rows_stand`.
use Rattle.std.proofs.Common.{List, Option, Some, None, ap, refl, subst, sym, ℕ, ◌∙◌, ◌≡◌, ◌≢◌}
use Rattle.ist_core.specs.declared.pairs.Pair.{Pair}
use Rattle.ist_core.specs.LogTerms.{CanOpen, EachEnabled, state_of, GoesOn, Log, Snapshot}
use Rattle.ist_core.specs.TreeTerms.{Linked, WasLinked, at_anchor, below}
use Rattle.ist_core.specs.WordTerms.{ChangeAt, Empty, InnerAt, LeafAt, RebuildAt, Ref, Unset, ref_of, IsOpen, SlotHolds, past_change, past_rebuild, rebuild_reads, start}
use Rattle.ist_core.proofs.AllPlaceLemmas.{Mentions, mentioned_here, slot_mentions, child_mentioned, mentions_stay, SlotNames, slot_names, names, one_home, anchor_free, slot_once}
use Rattle.laws_links.proofs.LinkLemmas.{open_linked}
use Rattle.laws_links.proofs.UntouchedLemmas.{not_the_anchor}
use Rattle.laws_links.proofs.ReturnLemmas.{one_inner}
use Rattle.laws_stability.specs.OpenRows.{StandsAtRow, by_change, by_rebuild, its_own}

-- a row's word is no change's, and set
no_change : (row base : ℕ) → InnerAt row ≢ ChangeAt base
no_change row base e = cc

-- what a word that reads as the row stands for
stands_for : (t : Snapshot) (node i word row : ℕ) (ref : Option Ref) → ref_of word ≡ ref
    → SlotNames t.pieces node i ref
    → past_rebuild t.pieces (past_change t.pieces ref) ≡ Some (InnerAt row) → StandsAtRow t word row
stands_for t node i word row (Some (InnerAt base)) is named reads = its_own (is ∙ reads)
stands_for t node i word row (Some (ChangeAt base)) is named reads = by_change base is
stands_for t node i word row (Some (RebuildAt base)) is named reads = by_rebuild base is record {
  row = named.row;
  published = named.published;
  target_is = one_inner named.row.target row (sym (ap rebuild_reads named.published) ∙ reads);
}
stands_for t node i word row (Some Empty) is named reads = absurd (cc)
stands_for t node i word row (Some Unset) is named reads = absurd (cc)
stands_for t node i word row (Some (LeafAt base)) is named reads = absurd (cc)
stands_for t node i word row None is named reads = absurd (cc)

module _ (pairs : List Pair) (words : ℕ) (opens : CanOpen pairs words) where
  -- an open row is found in the slot that once held it
  pub open_stands_for : (earlier log : Log) → EachEnabled (start pairs words) log
      → GoesOn earlier log → (node i row old word : ℕ)
      → SlotHolds (state_of pairs words earlier) node i old → ref_of old ≡ Some (InnerAt row)
      → WasLinked (start pairs words) log row → IsOpen (state_of pairs words log) row
      → SlotHolds (state_of pairs words log) node i word
      → StandsAtRow (state_of pairs words log) word row
  open_stands_for earlier log h g node i row old word stood was_it was is here =
      at row refl (open_linked pairs words opens log h row was is)
    where
      t : Snapshot
      t = state_of pairs words log

      named : Mentions (state_of pairs words log) node i (InnerAt row)
      named = mentions_stay pairs words opens earlier log g h node i (InnerAt row) (no_change row)
          (λ e. cc)
          (slot_mentions (state_of pairs words earlier) node i old (InnerAt row) stood was_it)

      at : (child : ℕ) → child ≡ row → Linked (state_of pairs words log) child
          → StandsAtRow (state_of pairs words log) word row
      at _ same at_anchor =
          let it = mentioned_here (state_of pairs words log) node i row (names pairs words opens log h) named in
          absurd (not_the_anchor pairs words opens log h row it.0 it.1 (sym same))
      at _ same (below {node = above} {child = child} j l c) = let u = state_of pairs words log in
          let o = names pairs words opens log h in
          let mention = subst (λ n. Mentions u above j (InnerAt n)) same (child_mentioned u above j child o c) in
          let home = (one_home pairs words opens log h).one above j node i row mention named in
          let holds = subst (λ n. SlotHolds u n i c.word) home.0 (subst (λ k. SlotHolds u above k c.word) home.1 c.holds) in
          let one = slot_once u node i c.word word (anchor_free pairs words log h) holds here in
          stands_for u node i word row (ref_of word) refl (slot_names u node i word o here)
          (ap (λ w. past_rebuild u.pieces (past_change u.pieces (ref_of w))) (sym one) ∙ c.reads
          ∙ ap (λ n. Some (InnerAt n)) same)
