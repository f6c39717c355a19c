-- If each started rebuild was replaced, or hangs in a row that isn't open, each linked row is open.
-- Serves `laws.rows_are_open_at_rest`.
use Rattle.std.proofs.Common.{List, Some, ap, arith, false, inl, inr, subst, suc, sym, true, zero, ℕ, ⊎_elim, ◌<◌, ◌==◌, ◌∙◌, ◌≡◌, ◌≢◌, ◌⊎◌}
use Rattle.std.proofs.lemmas.Bool.Decides.{eqb_tells}
use Rattle.ist_core.specs.declared.pairs.Pair.{Pair}
use Rattle.ist_core.specs.declared.states.InnerRow.{InnerRow}
use Rattle.ist_core.specs.TreeTerms.{KeepsWord, holds_change, holds_it, IsChild, Linked, at_anchor, below, IsCalled, as_child, as_target, after_rebuild}
use Rattle.ist_core.specs.LogTerms.{CanOpen, EachEnabled, state_of, Happened, Log, Passes, Snapshot}
use Rattle.ist_core.specs.WordTerms.{Inner, ChangeAt, InnerAt, ref_of, word_of, anchor, IsOpen, SlotHolds, anchor_is, past_rebuild, rebuild_reads, row_is, start, open_word}
use Rattle.ist_core.proofs.AllLogLemmas.{closed, frozen_reads}
use Rattle.ist_core.proofs.AllPlaceLemmas.{Mentions, child_mentioned, child_above, names, one_home, anchor_free, closed_not_open}
use Rattle.laws_links.proofs.ClosedLemmas.{linked_now, closed_is_called}
use Rattle.laws_links.proofs.UntouchedLemmas.{not_the_anchor, was_linked_here}
use Rattle.laws_links.proofs.ReplacedLemmas.{replaced_unlinked, target_named}
use Rattle.laws_links.specs.Opening.{RebuildsAreDone}

-- a passed slot holds a word
kept_word : (t : Snapshot) (log : Log) (node i word : ℕ) → KeepsWord t log node i word
    → (w : ℕ) × SlotHolds t node i w
kept_word t log node i word (holds_it slot) = (word, slot)
kept_word t log node i word (holds_change v) = (word_of (ChangeAt v.base), v.in_slot)

module _ (pairs : List Pair) (words : ℕ) (opens : CanOpen pairs words) where
  -- the row that a passed word leads to hangs in a row that isn't open
  pub passed_closed : (log : Log) → EachEnabled (start pairs words) log
      → (node i child above j word : ℕ) → Mentions (state_of pairs words log) node i (InnerAt child)
      → Happened (Passes above j word) log
      → past_rebuild (state_of pairs words log).pieces (ref_of word) ≡ Some (InnerAt child)
      → ¬ (IsOpen (state_of pairs words log) node)
  passed_closed log h node i child above j word named p leads o =
      let t = state_of pairs words log in let c = closed pairs words opens log h above j word p in
      let slot = kept_word t log above j word c.keeps in
      let is_child : IsChild t above j child = record { word = slot.0; holds = slot.1; reads = frozen_reads pairs words opens log h above j word slot.0 p slot.1 ∙ leads } in
      let home = (one_home pairs words opens log h).one node i above j child named (child_mentioned t above j child (names pairs words opens log h) is_child) in
      closed_not_open t above c.row (anchor_free pairs words log h) c.published c.closed
      (subst (λ n. IsOpen t n) home.0 o)

  -- if rebuilds are done, a linked row that isn't open hangs in one that isn't open
  home_closed : (log : Log) → EachEnabled (start pairs words) log
      → RebuildsAreDone (state_of pairs words log)
      → (node i child : ℕ) (r : InnerRow) → Linked (state_of pairs words log) child
      → (state_of pairs words log).pieces child ≡ Some (Inner r) → r.status ≢ open_word
      → Mentions (state_of pairs words log) node i (InnerAt child)
      → ¬ (IsOpen (state_of pairs words log) node)
  home_closed log h done node i child r l e shut named o =
      by_cause (closed_is_called pairs words log h child r e shut)
    where
      by_cause : IsCalled (state_of pairs words log) log child → ⊥
      by_cause (as_target rebuild target started) = let t = state_of pairs words log in
          let here = subst (λ m. Mentions t target.row.parent target.row.index (InnerAt m)) target.target_is (target_named pairs words opens log rebuild target.row target.published) in
          let home = (one_home pairs words opens log h).one node i target.row.parent target.row.index child named here in
          ⊎_elim
          (λ k. replaced_unlinked pairs words opens log h k.base k.change k.published k.decision rebuild target.row k.from target.published (subst (λ m. Linked t m) (sym target.target_is) l))
          (λ closed_parent. closed_parent (subst (λ n. IsOpen t n) home.0 o))
          (done rebuild target.row target.published started)
      by_cause (as_child above j word p is) = passed_closed log h node i child above j word named p
          (ap (past_rebuild (state_of pairs words log).pieces) is) o
      by_cause (after_rebuild above j word rebuild p is target) =
          let t = state_of pairs words log in passed_closed log h node i child above j word named p
          (ap (past_rebuild t.pieces) is ∙ ap rebuild_reads target.published ∙ ap (λ n. Some (InnerAt n)) target.target_is) o

  -- going up by base, no linked row is closed
  none_closed : (log : Log) → EachEnabled (start pairs words) log
      → RebuildsAreDone (state_of pairs words log)
      → (fuel node : ℕ) → node < fuel → Linked (state_of pairs words log) node
      → (r : InnerRow) → (state_of pairs words log).pieces node ≡ Some (Inner r)
      → r.status ≢ open_word → ⊥
  none_closed log h done zero node low l r e shut = omega arith
  none_closed log h done (suc fuel) _ low at_anchor r e shut = grind (arith, not_the_anchor)
  none_closed log h done (suc fuel) _ low (below {node = node} {child = child} i l c) r e shut =
      let t = state_of pairs words log in let o = names pairs words opens log h in
      let higher = child_above t node i child o c in
      let closed_node = home_closed log h done node i child r (below i l c) e shut (child_mentioned t node i child o c) in
      up node l (eqb_tells node anchor) closed_node
      (λ s there still. none_closed log h done fuel node (omega arith) l s there still)
    where
      up : (node : ℕ) → Linked (state_of pairs words log) node
          → (((node == anchor) ≡ true) × (node ≡ anchor))
          ⊎ (((node == anchor) ≡ false) × (node ≢ anchor))
          → ¬ (IsOpen (state_of pairs words log) node)
          → ((s : InnerRow) → (state_of pairs words log).pieces node ≡ Some (Inner s)
          → s.status ≢ open_word → ⊥) → ⊥
      up node l (inl k) closed_node again = closed_node (anchor_is k.1)
      up node l (inr k) closed_node again =
          let row = was_linked_here pairs words opens log h node k.1 (linked_now (start pairs words) log node l) in
          again row.0 row.1 (λ is. closed_node (row_is row.0 row.1 is))

  -- each linked row is open
  pub rest_is_open : (log : Log) → EachEnabled (start pairs words) log
      → RebuildsAreDone (state_of pairs words log)
      → (node : ℕ) (r : InnerRow) → Linked (state_of pairs words log) node
      → (state_of pairs words log).pieces node ≡ Some (Inner r) → r.status ≡ open_word
  rest_is_open log h done node r l e = ⊎_elim (λ k. k.1)
      (λ k. absurd (none_closed log h done (suc node) node (omega arith) l r e k.1))
      (eqb_tells r.status open_word)
