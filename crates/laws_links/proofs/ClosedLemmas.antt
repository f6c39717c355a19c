-- A row that isn't open was linked, and so was the row that a passed word leads to. Serves the
-- replacement law and the rest law.
use Rattle.std.proofs.Common.{Bool, List, Some, [], ap, arith, inl, inr, subst, sym, true, ℕ, ◌∙◌, ◌∷◌, ◌≡◌, ◌≢◌}
use Rattle.ist_core.specs.declared.events.Event.{Event}
use Rattle.ist_core.specs.declared.events.Event.TheVariants.{Decide, Finish, Mark}
use Rattle.ist_core.specs.declared.pairs.Pair.{Pair}
use Rattle.ist_core.specs.declared.states.ChangeRow.{ChangeRow}
use Rattle.ist_core.specs.declared.states.InnerRow.{InnerRow}
use Rattle.ist_core.specs.declared.states.RebuildRow.{RebuildRow}
use Rattle.ist_core.specs.TreeTerms.{CanDecide, MayBe, Linked, WasLinked, below, CanMark, CanPass, IsCalled, as_child, as_target, after_rebuild, IsStarted, AllGrow}
use Rattle.ist_core.specs.LogTerms.{CanOpen, EachEnabled, state_of, Happened, Log, Okays, Passes, state, Snapshot}
use Rattle.ist_core.specs.WordTerms.{Change, Inner, Rebuild, ChangeAt, InnerAt, RebuildAt, ref_of, word_of, SlotHolds, in_row, past_rebuild, start, decided_yes, open_word}
use Rattle.ist_core.proofs.AllLogLemmas.{closed, past_no_change, rebuild_there, grow_after}
use Rattle.ist_core.proofs.AllPlaceLemmas.{IsRebuildFor, SlotNames, slot_names, names}
use Rattle.ist_core.proofs.AllWordLemmas.{same_rebuild, same_inner}
use Rattle.laws_links.proofs.ChangeLemmas.{said_yes, undecided_stands}
use Rattle.laws_links.proofs.ComesLemmas.{status_comes, start_quiet}
use Rattle.laws_links.proofs.FormLemmas.{IsFormed, of_finish, of_leaf_put, of_pair_put, of_remove, of_start, started_grows}
use Rattle.laws_links.proofs.FormedLemmas.{changes_are_formed}
use Rattle.laws_links.proofs.InductionLemmas.{changes_by}
use Rattle.laws_links.proofs.LinkLemmas.{linked_or_finished, okayed_linked}
use Rattle.laws_links.proofs.PassLemmas.{StatusComes, finished_now, is_new, marked_now, status_was, passing}
use Rattle.laws_links.proofs.ReadEventLemmas.{change_past}
use Rattle.laws_links.proofs.ReadLemmas.{side_undecided}
use Rattle.laws_links.proofs.FinishedLemmas.{target_grows}

-- a row that is linked after a log was linked
pub linked_now : (first : Snapshot) (log : Log) (node : ℕ) → Linked (state first log) node
    → WasLinked first log node
linked_now first [] node l = l
linked_now first (event ∷ log) node l = inl l

-- the rebuild at the base has a target that was linked
pub record HasLinkedTarget (pairs : List Pair) (words : ℕ) (log : Log) (rebuild : ℕ) : Type 0 where
  pub row : RebuildRow
  pub published : (state_of pairs words log).pieces rebuild ≡ Some (Rebuild row)
  pub linked : WasLinked (start pairs words) log row.target

-- the row that the word leads to was linked
pub record IsLinkedAfter (pairs : List Pair) (words : ℕ) (log : Log) (word : ℕ) : Type 0 where
  -- an inner row that the word names was linked
  pub inner : (child : ℕ) → ref_of word ≡ Some (InnerAt child)
      → WasLinked (start pairs words) log child
  -- a rebuild that the word names has a target that was linked
  pub target : (rebuild : ℕ) → ref_of word ≡ Some (RebuildAt rebuild)
      → HasLinkedTarget pairs words log rebuild

module _ (pairs : List Pair) (words : ℕ) (opens : CanOpen pairs words) where
  -- what a change that was decided yes took out of its slot was linked
  pub yes_from_linked : (log : Log) → EachEnabled (start pairs words) log
      → (base : ℕ) (x : ChangeRow)
      → (state_of pairs words log).pieces base ≡ Some (Change x) → x.decision ≡ decided_yes
      → (child : ℕ) → ref_of x.from ≡ Some (InnerAt child) → WasLinked (start pairs words) log child
  yes_from_linked = changes_by pairs words
      (λ log base x. x.decision ≡ decided_yes → (child : ℕ) → ref_of x.from ≡ Some (InnerAt child) → WasLinked (start pairs words) log child)
      (λ log event h base x old there before said child from. inr (before said child from))
      (λ log caller base rows h can said child from. let none = can.unset in absurd (omega arith))
      (λ log caller base said h can before is child from. inr (linked_now (start pairs words) log child (at log caller base said h can (said_yes said is) child from)))
    where
      at : (log : Log) (caller base : ℕ) (said : Bool)
          → EachEnabled (start pairs words) (Decide caller base said ∷ log)
          → (can : CanDecide (state_of pairs words log) log caller base said) → said ≡ true
          → (child : ℕ)
          → ref_of can.change.from ≡ Some (InnerAt child) → Linked (state_of pairs words log) child
      at log caller base said h can is child from = let t = state_of pairs words log in
          let x = can.change in
          let okay : Happened (Okays base) log = subst (λ v. MayBe t log base x v) is can.outcome in
          below x.index
          (okayed_linked pairs words opens log h.0 base x can.pending.published can.pending.unset okay)
          record {
            word = word_of (ChangeAt base);
            holds =
                undecided_stands pairs words opens log h.0 base x can.pending.published can.pending.unset;
            reads =
                ap (past_rebuild t.pieces) (change_past pairs words opens log h.0 base x can.pending.published ∙ ap ref_of (side_undecided x can.pending.unset) ∙ from);
          }

  -- the target of a started rebuild was linked
  pub started_target_linked : (log : Log) → EachEnabled (start pairs words) log
      → (rebuild : ℕ) (r : RebuildRow)
      → (state_of pairs words log).pieces rebuild ≡ Some (Rebuild r)
      → IsStarted (state_of pairs words log) rebuild → WasLinked (start pairs words) log r.target
  started_target_linked log h rebuild r e s =
      at (changes_are_formed pairs words log h s.base s.change s.published)
    where
      kinds : (a b : ℕ) → s.change.kind ≡ a → s.change.kind ≡ b → a ≡ b
      kinds a b x y = sym x ∙ y

      at : IsFormed (state_of pairs words log) s.change → WasLinked (start pairs words) log r.target
      at (of_leaf_put f) = grind (arith, kinds)
      at (of_pair_put f) = grind (arith, kinds)
      at (of_remove f) = grind (arith, kinds)
      at (of_finish f) = grind (arith, kinds)
      at (of_start f) = grind (arith, same_rebuild, yes_from_linked)

  -- what is known of a word stays known
  after_later : (log : Log) (event : Event) → EachEnabled (start pairs words) (event ∷ log)
      → (word : ℕ)
      → IsLinkedAfter pairs words log word → IsLinkedAfter pairs words (event ∷ log) word
  after_later log event h word k = record {
    inner = λ child is. inr (k.inner child is);
    target = λ rebuild is. let it = k.target rebuild is in
        let on = rebuild_there (state_of pairs words log).pieces (state_of pairs words (event ∷ log)).pieces (grow_after pairs words log event h) rebuild it.row it.published in
        record { row = on.0; published = on.1; linked = inr (subst (λ n. WasLinked (start pairs words) log n) (sym on.2.target) it.linked) };
  }

  -- the word of a Pass, if its node was linked
  pass_after : (log : Log) → EachEnabled (start pairs words) log → (caller node i word : ℕ)
      → CanPass (state_of pairs words log) caller node i word
      → WasLinked (start pairs words) log node → IsLinkedAfter pairs words log word
  pass_after log h caller node i word can was = record {
    inner = λ child is. child_was child (ap (past_rebuild t.pieces) is);
    target =
        λ rebuild is. by_rebuild rebuild is (subst (λ o. SlotNames t.pieces node i o) is (slot_names t node i word (names pairs words opens log h) slot));
  }
    where
      t : Snapshot
      t = state_of pairs words log

      slot : SlotHolds (state_of pairs words log) node i word
      slot = in_row can.row can.published can.in_slot

      here : Linked (state_of pairs words log) node
      here = grind (arith, linked_or_finished, same_inner)

      child_was : (child : ℕ)
          → past_rebuild (state_of pairs words log).pieces (ref_of word) ≡ Some (InnerAt child)
          → WasLinked (start pairs words) log child
      child_was child e = linked_now (start pairs words) log child
          (below i here record { word = word; holds = slot; reads = ap (past_rebuild (state_of pairs words log).pieces) (past_no_change (state_of pairs words log).pieces (ref_of word) can.no_change) ∙ e })

      by_rebuild : (rebuild : ℕ) → ref_of word ≡ Some (RebuildAt rebuild)
          → IsRebuildFor (state_of pairs words log).pieces node i rebuild
          → HasLinkedTarget pairs words log rebuild
      by_rebuild rebuild is r = grind (arith, child_was)

  -- a row that may be marked was linked, if the rows that passed words lead to were
  pub mark_linked : (log : Log) → EachEnabled (start pairs words) log → (caller node : ℕ)
      → ((at i word : ℕ) → Happened (Passes at i word) log → IsLinkedAfter pairs words log word)
      → CanMark (state_of pairs words log) log caller node → WasLinked (start pairs words) log node
  mark_linked log h caller node passed can = cause can.called
    where
      cause : IsCalled (state_of pairs words log) log node → WasLinked (start pairs words) log node
      cause (as_target rebuild target started) = grind (arith, started_target_linked)
      cause (as_child above i word p is) = (passed above i word p).inner node is
      cause (after_rebuild above i word rebuild p is target) =
          let it = (passed above i word p).target rebuild is in
          let row = same_rebuild ((state_of pairs words log).pieces rebuild) it.row target.row it.published target.published in
          subst (λ n. WasLinked (start pairs words) log n)
          (ap (λ r. r.target) row ∙ target.target_is) it.linked

  mutual
    -- a row that isn't open was linked
    pub closed_was_linked : (log : Log) → EachEnabled (start pairs words) log
        → (node : ℕ) (r : InnerRow)
        → (state_of pairs words log).pieces node ≡ Some (Inner r) → r.status ≢ open_word
        → WasLinked (start pairs words) log node
    closed_was_linked [] h node r e closed =
        absurd (closed (start_quiet pairs words node (Inner r) e))
    closed_was_linked (event ∷ log) h node r e closed =
        closed_by event h (status_comes pairs words log event h node r e)
        (λ s old shut. closed_was_linked log h.0 node s old shut) (λ at i word p. passed_was_linked log h.0 at i word p)
      where
        closed_by : (event : Event) → EachEnabled (start pairs words) (event ∷ log)
            → StatusComes (start pairs words) log node r.status event
            → ((s : InnerRow) → (state_of pairs words log).pieces node ≡ Some (Inner s)
            → s.status ≢ open_word → WasLinked (start pairs words) log node)
            → ((at i word : ℕ) → Happened (Passes at i word) log
            → IsLinkedAfter pairs words log word)
            → WasLinked (start pairs words) (event ∷ log) node
        closed_by event all (status_was s old same) before passed =
            inr (before s old (λ o. closed (same ∙ o)))
        closed_by event all (is_new none same) before passed = absurd (closed same)
        closed_by _ all (marked_now {caller = caller} can same) before passed =
            inr (mark_linked log all.0 caller node passed can)
        closed_by _ all (finished_now can same) before passed =
            inr (before can.row can.published (λ o. let one = can.marked in omega arith))

    -- the row that a passed word leads to was linked
    pub passed_was_linked : (log : Log) → EachEnabled (start pairs words) log → (node i word : ℕ)
        → Happened (Passes node i word) log → IsLinkedAfter pairs words log word
    passed_was_linked [] h node i word p = absurd p
    passed_was_linked (event ∷ log) h node i word (inl now) =
        let it = passing (start pairs words) log event node i word h.1 now in
        after_later log event h word
        (pass_after log h.0 it.0 node i word it.1 (closed_was_linked log h.0 node it.1.row it.1.published (λ o. let one = it.1.marked in omega arith)))
    passed_was_linked (event ∷ log) h node i word (inr before) =
        after_later log event h word (passed_was_linked log h.0 node i word before)

-- ---- a row that isn't open has a cause: it is the target of a started rebuild, or was passed in a slot of a row that isn't open.
-- Serves the rest law.

-- a cause stays one
called_grows : (t u : Snapshot) → AllGrow t.pieces u.pieces → (log : Log) (event : Event) (node : ℕ)
    → IsCalled t log node → IsCalled u (event ∷ log) node
called_grows t u g log event node (as_target rebuild target started) =
    as_target rebuild (target_grows t u g rebuild node target) (started_grows t u g rebuild started)
called_grows t u g log event node (as_child above i word p is) = as_child above i word (inr p) is
called_grows t u g log event node (after_rebuild above i word rebuild p is target) =
    after_rebuild above i word rebuild (inr p) is (target_grows t u g rebuild node target)

module _ (pairs : List Pair) (words : ℕ) where
  -- each row that isn't open has a cause
  pub closed_is_called : (log : Log) → EachEnabled (start pairs words) log
      → (node : ℕ) (r : InnerRow)
      → (state_of pairs words log).pieces node ≡ Some (Inner r) → r.status ≢ open_word
      → IsCalled (state_of pairs words log) log node
  closed_is_called [] h node r e closed = absurd (closed (start_quiet pairs words node (Inner r) e))
  closed_is_called (event ∷ log) h node r e closed =
      by_origin event h (status_comes pairs words log event h node r e)
      (λ s old shut. closed_is_called log h.0 node s old shut)
    where
      by_origin : (event : Event) → EachEnabled (start pairs words) (event ∷ log)
          → StatusComes (start pairs words) log node r.status event
          → ((s : InnerRow) → (state_of pairs words log).pieces node ≡ Some (Inner s)
          → s.status ≢ open_word → IsCalled (state_of pairs words log) log node)
          → IsCalled (state_of pairs words (event ∷ log)) (event ∷ log) node
      by_origin event all (status_was s old same) before =
          called_grows (state_of pairs words log) (state_of pairs words (event ∷ log))
          (grow_after pairs words log event all) log event node
          (before s old (λ o. closed (same ∙ o)))
      by_origin event all (is_new none same) before = absurd (closed same)
      by_origin _ all (marked_now {caller = caller} can same) before =
          called_grows (state_of pairs words log) (state_of pairs words (Mark caller node ∷ log))
          (grow_after pairs words log (Mark caller node) all) log (Mark caller node) node can.called
      by_origin _ all (finished_now {caller = caller} {keys = keys} can same) before =
          called_grows (state_of pairs words log)
          (state_of pairs words (Finish caller node keys ∷ log))
          (grow_after pairs words log (Finish caller node keys) all) log
          (Finish caller node keys) node
          (before can.row can.published (λ o. let one = can.marked in omega arith))
