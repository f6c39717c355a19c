-- Rows that were linked are linked or finished; at a yes the change's node is linked. Serves `laws.linked_rows_stay` and what
-- follows from it.
use Rattle.std.proofs.Common.{Bool, List, Some, [], ap, arith, inl, inr, subst, sym, true, ℕ, ⊎_elim, ◌∙◌, ◌∷◌, ◌≡◌, ◌≢◌, ◌⊎◌}
use Rattle.ist_core.specs.declared.events.Event.{Event}
use Rattle.ist_core.specs.declared.events.Event.TheVariants.{Decide}
use Rattle.ist_core.specs.declared.pairs.Pair.{Pair}
use Rattle.ist_core.specs.declared.states.ChangeRow.{ChangeRow}
use Rattle.ist_core.specs.TreeTerms.{MayBe, KeepsWord, holds_change, holds_it, Linked, WasLinked, at_anchor, below}
use Rattle.ist_core.specs.LogTerms.{CanOpen, EachEnabled, state_of, GoesOn, Happened, Log, Okays, Passes, Resolves, one_event, same_log}
use Rattle.ist_core.specs.WordTerms.{Change, ChangeAt, ref_of, word_of, IsOpen, SlotHolds, anchor_is, row_is, start, decided_yes, undecided}
use Rattle.laws_links.specs.Linking.{IsFinished}
use Rattle.ist_core.proofs.AllLogLemmas.{enabled_before, grow_between, change_read, same_change_word, closed, change_there}
use Rattle.ist_core.proofs.AllPlaceLemmas.{anchor_free, no_row, slot_once}
use Rattle.ist_core.proofs.AllWordLemmas.{no_value, same_change, same_inner}
use Rattle.laws_links.proofs.ChangeLemmas.{install_free, node_was_linked, said_yes, undecided_stands, undecided_unresolved, unresolved_stands}
use Rattle.laws_links.proofs.ReadStepLemmas.{child_step}
use Rattle.laws_links.proofs.ComesLemmas.{change_comes}
use Rattle.laws_links.proofs.FinishedLemmas.{finished_down, finished_slot}
use Rattle.laws_links.proofs.FormedLemmas.{finished_step}
use Rattle.laws_links.proofs.InductionLemmas.{sound_after}
use Rattle.laws_links.proofs.PassLemmas.{ChangeComes, change_was, is_decided, is_installed, passed_no_change}

module _ (pairs : List Pair) (words : ℕ) (opens : CanOpen pairs words) where
  -- after the event a linked row is still linked, or is finished
  pub linked_step : (log : Log) (event : Event) → EachEnabled (start pairs words) (event ∷ log)
      → (node : ℕ) → Linked (state_of pairs words log) node
      → Linked (state_of pairs words (event ∷ log)) node ⊎ IsFinished (state_of pairs words log) node
  linked_step log event h _ at_anchor = inl at_anchor
  linked_step log event h _ (below {node = node} {child = child} i l c) =
      at (linked_step log event h node l)
    where
      at : Linked (state_of pairs words (event ∷ log)) node ⊎ IsFinished (state_of pairs words log) node
          → Linked (state_of pairs words (event ∷ log)) child ⊎ IsFinished (state_of pairs words log) child
      at (inl on) = ⊎_elim (λ d. inl (below i on d)) (λ f. inr f)
          (child_step pairs words opens log event h node i child c)
      at (inr f) = inr (finished_down pairs words opens log h.0 node i child f c)

  -- a row that was linked is linked or finished
  pub linked_or_finished : (log : Log) → EachEnabled (start pairs words) log → (node : ℕ)
      → WasLinked (start pairs words) log node
      → Linked (state_of pairs words log) node ⊎ IsFinished (state_of pairs words log) node
  linked_or_finished [] h node was = inl was
  linked_or_finished (event ∷ log) h node (inl now) = inl now
  linked_or_finished (event ∷ log) h node (inr before) = ⊎_elim
      (λ l. ⊎_elim (λ on. inl on) (λ f. inr (finished_step pairs words log event h node f)) (linked_step log event h node l))
      (λ f. inr (finished_step pairs words log event h node f))
      (linked_or_finished log h.0 node before)

  -- an open row isn't finished
  pub open_unfinished : (log : Log) → EachEnabled (start pairs words) log → (node : ℕ)
      → IsOpen (state_of pairs words log) node → IsFinished (state_of pairs words log) node → ⊥
  open_unfinished log h node (anchor_is a) f = grind (arith, no_row, anchor_free)
  open_unfinished log h node (row_is r e o) f = grind (arith, same_inner)

  -- a row that was linked and is open is linked
  pub open_linked : (log : Log) → EachEnabled (start pairs words) log → (node : ℕ)
      → WasLinked (start pairs words) log node → IsOpen (state_of pairs words log) node
      → Linked (state_of pairs words log) node
  open_linked log h node was o = ⊎_elim (λ l. l) (λ f. absurd (open_unfinished log h node o f))
      (linked_or_finished log h node was)

  -- the slot of an unresolved change with an Okay wasn't passed
  pub okayed_unpassed : (log : Log) → EachEnabled (start pairs words) log
      → (base : ℕ) (x : ChangeRow)
      → (state_of pairs words log).pieces base ≡ Some (Change x) → ¬ (Happened (Resolves base) log)
      → Happened (Okays base) log → (word : ℕ) → ¬ (Happened (Passes x.node x.index word) log)
  okayed_unpassed log h base x e unresolved okay word passed =
      keeps (closed pairs words opens log h x.node x.index word passed).keeps
    where
      -- the word of the change is all that the slot holds
      alone : (w : ℕ) → SlotHolds (state_of pairs words log) x.node x.index w
          → w ≡ word_of (ChangeAt base)
      alone w slot = grind (arith, slot_once, anchor_free, unresolved_stands)

      keeps : KeepsWord (state_of pairs words log) log x.node x.index word → ⊥
      keeps (holds_it slot) =
          passed_no_change (start pairs words) log x.node x.index word h passed base
          (ap ref_of (alone word slot) ∙ change_read pairs words opens log h base x e)
      keeps (holds_change v) = v.unseen
          (subst (λ b. Happened (Okays b) log) (sym (same_change_word v.base base (alone (word_of (ChangeAt v.base)) v.in_slot))) okay)

  -- the node of an undecided change with an Okay isn't finished
  pub okayed_unfinished : (log : Log) → EachEnabled (start pairs words) log
      → (base : ℕ) (x : ChangeRow)
      → (state_of pairs words log).pieces base ≡ Some (Change x) → x.decision ≡ undecided
      → Happened (Okays base) log → ¬ (IsFinished (state_of pairs words log) x.node)
  okayed_unfinished log h base x e none okay f =
      let p = finished_slot pairs words log h x.node x.index (word_of (ChangeAt base)) f (undecided_stands pairs words opens log h base x e none) in
      okayed_unpassed log h base x e
      (undecided_unresolved pairs words opens log h base x e none) okay p.word p.passed

  -- the node of an undecided change with an Okay is linked
  pub okayed_linked : (log : Log) → EachEnabled (start pairs words) log → (base : ℕ) (x : ChangeRow)
      → (state_of pairs words log).pieces base ≡ Some (Change x) → x.decision ≡ undecided
      → Happened (Okays base) log → Linked (state_of pairs words log) x.node
  okayed_linked log h base x e none okay =
      grind (arith, okayed_unfinished, linked_or_finished, node_was_linked)

  -- ---- a yes

  -- the change of a Decide is undecided before it
  pub deciding : (log : Log) (caller base : ℕ) (said : Bool)
      → EachEnabled (start pairs words) (Decide caller base said ∷ log)
      → (x : ChangeRow) → (state_of pairs words log).pieces base ≡ Some (Change x)
      → x.decision ≡ undecided
  deciding log caller base said h x e = grind (arith, same_change)

  -- at a yes the node of the change is linked
  pub yes_linked : (log : Log) (caller base : ℕ)
      → EachEnabled (start pairs words) (Decide caller base true ∷ log)
      → (x : ChangeRow) → (state_of pairs words log).pieces base ≡ Some (Change x)
      → Linked (state_of pairs words log) x.node
  yes_linked log caller base h x e = grind (arith, okayed_linked, deciding)

  -- the node is also linked after the Decide
  pub yes_linked_after : (log : Log) (caller base : ℕ)
      → EachEnabled (start pairs words) (Decide caller base true ∷ log)
      → (x : ChangeRow) → (state_of pairs words log).pieces base ≡ Some (Change x)
      → Linked (state_of pairs words (Decide caller base true ∷ log)) x.node
  yes_linked_after log caller base h x e = ⊎_elim (λ l. l)
      (λ f. absurd (okayed_unfinished log h.0 base x e (deciding log caller base true h x e) h.1.outcome f))
      (linked_step log (Decide caller base true) h x.node (yes_linked log caller base h x e))

  -- a change whose node is finished isn't decided yes any more
  refused_on : (earlier log : Log) → GoesOn earlier log → EachEnabled (start pairs words) log
      → (base : ℕ) (x : ChangeRow)
      → (state_of pairs words earlier).pieces base ≡ Some (Change x) → x.decision ≡ undecided
      → IsFinished (state_of pairs words earlier) x.node
      → (y : ChangeRow) → (state_of pairs words log).pieces base ≡ Some (Change y)
      → (y.decision ≢ decided_yes) × IsFinished (state_of pairs words log) y.node
  refused_on earlier _ same_log h base x e none f y there = grind (arith, same_change)
  refused_on earlier _ (one_event {log = log} event on) h base x e none f y there =
      at event h (change_comes pairs words log event h base y there)
      (refused_on earlier log on h.0 base x e none f)
    where
      at : (event : Event) → EachEnabled (start pairs words) (event ∷ log)
          → ChangeComes (start pairs words) log base y event
          → ((z : ChangeRow) → (state_of pairs words log).pieces base ≡ Some (Change z)
          → (z.decision ≢ decided_yes) × IsFinished (state_of pairs words log) z.node)
          → (y.decision ≢ decided_yes) × IsFinished (state_of pairs words (event ∷ log)) y.node
      at event all (change_was old) before =
          let it = before y old in (it.0, finished_step pairs words log event all y.node it.1)
      at _ all (is_installed {caller = caller} {rows = rows} can same) before =
          let stood = change_there (state_of pairs words earlier).pieces (state_of pairs words log).pieces (grow_between pairs words earlier log h.0 on) base x e in
          absurd
          (no_value ((state_of pairs words log).pieces base) (Change stood.0) (install_free (start pairs words) log caller base rows can (sound_after pairs words log h.0)) stood.1)
      at _ all (is_decided {caller = caller} {said = said} can same) before =
          let it = before can.change can.pending.published in (
            λ yes_word. okayed_unfinished log h.0 base can.change can.pending.published can.pending.unset
                (subst (λ v. MayBe (state_of pairs words log) log base can.change v) (said_yes said (ap (λ c. c.decision) (sym same) ∙ yes_word)) can.outcome) it.1,
            finished_step pairs words log (Decide caller base said) all y.node (subst (λ c. IsFinished (state_of pairs words log) c.node) (sym same) it.1),
          )

  -- a change that is pending while its node isn't linked is never decided yes
  pub unlinked_refused : (earlier log : Log) → GoesOn earlier log
      → EachEnabled (start pairs words) log → (base : ℕ) (x : ChangeRow)
      → (state_of pairs words earlier).pieces base ≡ Some (Change x) → x.decision ≡ undecided
      → ¬ (Linked (state_of pairs words earlier) x.node)
      → (y : ChangeRow) → (state_of pairs words log).pieces base ≡ Some (Change y)
      → y.decision ≢ decided_yes
  unlinked_refused earlier log on h base x e none unlinked y there =
      grind (arith, enabled_before, linked_or_finished, node_was_linked, refused_on)
