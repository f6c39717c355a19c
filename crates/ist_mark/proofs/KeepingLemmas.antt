-- What a caller knows of nodes stays true in later views. Serves each function.
use Rattle.std.proofs.Common.{◌≡◌, ℕ, Some, ◌∙◌, ◌≢◌, ◌<◌, ◌⊎◌, List, ◌∷◌, [], sym, subst, inl, inr, ⊎_elim, arith}
use Rattle.ist_core.specs.declared.events.Event.{Event}
use Rattle.ist_core.specs.declared.states.InnerRow.{InnerRow}
use Rattle.ist_core.specs.declared.pairs.Pair.{Pair}
use Rattle.ist_core.specs.declared.states.RebuildRow.{RebuildRow}
use Rattle.ist_core.specs.WordTerms.{ref_of, Inner, Unset, open_word, marked_word, finished_word, Rebuild, start}
use Rattle.ist_core.specs.TreeTerms.{InnerGrows, IsCalled, as_target, as_child, after_rebuild, IsFrozen, CanPass}
use Rattle.ist_core.specs.LogTerms.{Happened, Passes, Log, EachEnabled, CanOpen, state_of}
use Rattle.ist_core.proofs.AllLogLemmas.{inner_there, counts_grows, closed_on, grow_after}
use Rattle.laws_links.proofs.FinishedLemmas.{target_grows}
use Rattle.laws_links.proofs.FormLemmas.{started_grows}
use Rattle.ist_rule.specs.RuleTerms.{now, WentOn}
use Rattle.ist_rule.specs.declared.view.View.{View}
use Rattle.laws_stability.proofs.LaterLemmas.{happened_later}
use Rattle.ist_rule.proofs.WentOnLemmas.{later_by-goes_on, went_grow, went_who}
use Rattle.ist_mark.specs.Marking.{MayMark}
use Rattle.ist_mark.specs.Passing.{IsClosed, MayPass, AreCounted, no_slot_yet, one_slot_more}
use Rattle.ist_core.proofs.AllPlaceLemmas.{InnerHere, SideNames, side_grows, names}
use Rattle.ist_core.proofs.AllWordLemmas.{word_of-ref_of}
use Rattle.laws_links.proofs.ComesLemmas.{status_comes, start_quiet}
use Rattle.laws_links.proofs.PassLemmas.{StatusComes, status_was, is_new, marked_now, finished_now, passing}
use Rattle.laws_links.proofs.ReadLemmas.{plain_side}

module _ (P : Event → Type 0) (v w : View) (g : WentOn P v w) where
  -- what happened in the log happened
  pub happened_went : (Q : Event → Type 0) → Happened Q v.log → Happened Q w.log
  happened_went Q h = happened_later Q (later_by-goes_on g.later) h

  -- an inner row stays an inner row
  pub inner_went : (node : ℕ) (row : InnerRow) → (now v).pieces node ≡ Some (Inner row)
      → (r : InnerRow) × ((now w).pieces node ≡ Some (Inner r)) × InnerGrows row r
  inner_went node row e = inner_there (now v).pieces (now w).pieces (went_grow P v w g) node row e

  -- a closed node is closed
  pub closed_went : (node : ℕ) → IsClosed (now v) node → IsClosed (now w) node
  closed_went node c = grind (arith, inner_went, closed_on)

  -- who might pass its slots may
  pub may_pass_went : (node degree : ℕ) → MayPass v node degree → MayPass w node degree
  may_pass_went node degree m = grind (arith, inner_went, went_who, closed_on)

  -- a cause to mark a node stays one
  pub called_went : (node : ℕ) → IsCalled (now v) v.log node → IsCalled (now w) w.log node
  called_went node (as_target rebuild t started) =
      as_target rebuild (target_grows (now v) (now w) (went_grow P v w g) rebuild node t)
      (started_grows (now v) (now w) (went_grow P v w g) rebuild started)
  called_went node (as_child above i word p is) =
      as_child above i word (happened_went (Passes above i word) p) is
  called_went node (after_rebuild above i word rebuild p is t) =
      after_rebuild above i word rebuild (happened_went (Passes above i word) p) is
      (target_grows (now v) (now w) (went_grow P v w g) rebuild node t)

  -- a caller that may mark a node still may after it went on
  pub may_mark_went : (node : ℕ) → MayMark v node → MayMark w node
  may_mark_went node m = record {
    number = m.number;
    mine = went_who P v w g ∙ m.mine;
    called = called_went node m.called;
  }

  -- slots that were counted are counted
  pub counted_went : (node i k : ℕ) → AreCounted (now v) v.log node i k
      → AreCounted (now w) w.log node i k
  counted_went node _ _ no_slot_yet = no_slot_yet
  counted_went node _ _ (one_slot_more {i = i} {k = k} {here = here} word a p c) =
      one_slot_more word (counted_went node i k a) (happened_went (Passes node i word) p)
      (counts_grows (now v) (now w) (went_grow P v w g) (ref_of word) here c)

-- ---- nodes that have a cause to be marked, what passed words name, and statuses. Serves `statuses` and
-- `passing`.

-- ---- statuses

module _ (pairs : List Pair) (words : ℕ) where
  -- a node that isn't open is marked, or finished with some number
  pub closed_status : (log : Log) → EachEnabled (start pairs words) log → (node : ℕ) (r : InnerRow)
      → (state_of pairs words log).pieces node ≡ Some (Inner r) → r.status ≢ open_word
      → (r.status ≡ marked_word) ⊎ ((k : ℕ) × (r.status ≡ finished_word k))
  closed_status [] h node r e shut = absurd (shut (start_quiet pairs words node (Inner r) e))
  closed_status (event ∷ log) h node r e shut = at (status_comes pairs words log event h node r e)
      (λ s old other. closed_status log h.0 node s old other)
    where
      at : {event : Event} → StatusComes (start pairs words) log node r.status event
          → ((s : InnerRow) → (state_of pairs words log).pieces node ≡ Some (Inner s)
          → s.status ≢ open_word
          → (s.status ≡ marked_word) ⊎ ((k : ℕ) × (s.status ≡ finished_word k)))
          → (r.status ≡ marked_word) ⊎ ((k : ℕ) × (r.status ≡ finished_word k))
      at (status_was s old same) before = ⊎_elim (λ m. inl (same ∙ m)) (λ f. inr (f.0, same ∙ f.1))
          (before s old (λ o. shut (same ∙ o)))
      at (is_new none same) before = absurd (shut same)
      at (marked_now can same) before = inl same
      at (finished_now {keys = keys} can same) before = inr (keys, same)

-- ---- words

module _ (pairs : List Pair) (words : ℕ) (opens : CanOpen pairs words) where
  -- what a word that may be passed names
  passes_side : (log : Log) → EachEnabled (start pairs words) log → (caller node i word : ℕ)
      → CanPass (state_of pairs words log) caller node i word
      → SideNames (state_of pairs words log).pieces node i (ref_of word)
  passes_side log h caller node i word can =
      plain_side (state_of pairs words log).pieces node i (ref_of word)
      ((names pairs words opens log h).rows node (Inner can.row) can.published i word can.in_slot)
      (λ e. can.set (sym (word_of-ref_of word Unset e).same_word)) can.no_change

  -- a passed word names nothing, a leaf, an inner row above the node, or a rebuild for the slot
  pub frozen_names : (log : Log) → EachEnabled (start pairs words) log → (node i word : ℕ)
      → IsFrozen log node i word → SideNames (state_of pairs words log).pieces node i (ref_of word)
  frozen_names [] h node i word p = absurd p
  frozen_names (event ∷ log) h node i word (inl now) =
      grind (arith, passing, side_grows, grow_after, passes_side)
  frozen_names (event ∷ log) h node i word (inr before) =
      side_grows (state_of pairs words log).pieces (state_of pairs words (event ∷ log)).pieces
      (grow_after pairs words log event h) node i (ref_of word)
      (frozen_names log h.0 node i word before)

  -- the target of a rebuild is a published inner row above its parent
  pub target_inner : (log : Log) → EachEnabled (start pairs words) log → (rebuild : ℕ)
      (r : RebuildRow) → (state_of pairs words log).pieces rebuild ≡ Some (Rebuild r)
      → (r.parent < r.target) × InnerHere (state_of pairs words log).pieces r.target
  target_inner log h rebuild r e =
      let it = (names pairs words opens log h).rows rebuild (Rebuild r) e in (it.0, it.1)

  -- so is a node that has a cause to be marked
  pub called_inner : (log : Log) → EachEnabled (start pairs words) log → (node : ℕ)
      → IsCalled (state_of pairs words log) log node
      → InnerHere (state_of pairs words log).pieces node
  called_inner log h node (as_target rebuild t started) = grind (arith, InnerHere, target_inner)
  called_inner log h node (after_rebuild above i word rebuild p is t) =
      grind (arith, InnerHere, target_inner)
  called_inner log h node (as_child above i word p is) =
      (subst (SideNames (state_of pairs words log).pieces above i) is
      (frozen_names log h above i word p)).1
