-- A row that was never linked stays as it was published, except for the parts that a Place puts in.
-- Serves the replacement law.
use Rattle.std.proofs.Common.{List, Some, [], arith, inl, inr, refl, slice_get, slice_set, subst, sym, ℕ, ⊎_elim, ◌∷◌, ◌≡◌, ◌≢◌}
use Rattle.ist_core.specs.declared.events.Event.{Event}
use Rattle.ist_core.specs.declared.events.Event.TheVariants.{Decide, Draw, Place, Root}
use Rattle.ist_core.specs.declared.lists.Row.{Row}
use Rattle.ist_core.specs.declared.pairs.Pair.{Pair}
use Rattle.ist_core.specs.declared.states.InnerRow.{InnerRow}
use Rattle.ist_core.specs.TreeTerms.{CanPlace, Chain, IsChild, Linked, WasLinked, WasOnChain, at_anchor, below, one_row}
use Rattle.ist_core.specs.LogTerms.{Among, CanOpen, EachEnabled, state_of, Log, state, Snapshot}
use Rattle.ist_core.specs.WordTerms.{Inner, InnerAt, unset_word, anchor, start}
use Rattle.ist_core.proofs.AllWordLemmas.{among-append, same_value, no_value, same_inner}
use Rattle.ist_core.proofs.AllLogLemmas.{inner_there, chain_linked, grow_after}
use Rattle.ist_core.proofs.AllPlaceLemmas.{Mentions, mentioned_here, child_mentioned, mentions_step, InnerHere, names, anchor_free, no_row}
use Rattle.laws_links.proofs.ChangeLemmas.{node_was_linked}
use Rattle.laws_links.proofs.ClosedLemmas.{closed_was_linked, linked_now, mark_linked, passed_was_linked}
use Rattle.laws_links.proofs.RowEventLemmas.{RowCame, BecameBy, as_it_was, by_count, by_decide, by_draw, by_finish, by_install, by_mark, by_place, by_resolve, by_root, came, from_new, from_old}
use Rattle.ist_core.specs.Links as chains

-- ---- chains

-- each row of the chain of a node is linked
on_chain_linked : (t : Snapshot) (node : ℕ) (rows : List ℕ) → Chain t node rows → (row : ℕ)
    → Among row rows → Linked t row
on_chain_linked t _ _ chains.no_row row k = absurd k
on_chain_linked t _ _ (one_row {node = node} {child = child} {rows = rows} i chain is) row k =
    ⊎_elim (λ before. on_chain_linked t node rows chain row before)
    (λ last. ⊎_elim (λ e. subst (λ b. Linked t b) (sym e) (below i (chain_linked t node rows chain) is)) (λ none. absurd none) last)
    (among-append row rows (child ∷ []) k)

-- a row that was on a chain was linked
pub on_chain_was_linked : (first : Snapshot) (log : Log) (node row : ℕ)
    → WasOnChain first log node row → WasLinked first log row
on_chain_was_linked first [] node row was = on_chain_linked first node was.0 was.1 row was.2
on_chain_was_linked first (event ∷ log) node row (inl now) = grind (arith, on_chain_linked)
on_chain_was_linked first (event ∷ log) node row (inr before) =
    inr (on_chain_was_linked first log node row before)

-- ---- how a row that was never linked changes

-- an inner row stays as it is, or gets a word into a slot that wasn't set
pub data Stays (first : Snapshot) (log : Log) (node : ℕ) (r : InnerRow) : InnerRow → Event → Type 0 where
  stays_so : {event : Event} → Stays first log node r r event
  is_filled : {caller rebuild i word : ℕ} {rows : List Row} (h : CanPlace (state first log) caller rebuild i word rows)
      → node ≡ h.root
      → Stays first log node r (record r { slots = slice_set r.slots i word }) (Place caller rebuild i word rows)

-- equal pieces have equal inner rows
pub inner_row : (r s : InnerRow) → Inner r ≡ Inner s → r ≡ s
inner_row r s e = cc

module _ (pairs : List Pair) (words : ℕ) (opens : CanOpen pairs words) where
  -- the row after an event
  untouched_turned : (log : Log) (event : Event) → EachEnabled (start pairs words) (event ∷ log)
      → (node : ℕ) (r s : InnerRow) → ¬ (WasLinked (start pairs words) log node)
      → BecameBy (start pairs words) log node (Inner r) (Inner s) event
      → Stays (start pairs words) log node r s event
  untouched_turned log event h node r s never (as_it_was is) =
      subst (λ x. Stays (start pairs words) log node r x event) (inner_row r s (sym is)) stays_so
  untouched_turned log _ h node r s never (by_install can here is) = grind arith
  untouched_turned log _ h node r s never (by_resolve {change = change} can here is) = absurd
      (never (subst (λ n. WasLinked (start pairs words) log n) (sym here) (node_was_linked pairs words opens log h.0 change can.change can.published)))
  untouched_turned log _ h node r s never
      (by_place {caller = caller} {rebuild = rebuild} {i = i} {word = word} {rows = rows} can here is) =
      subst (λ x. Stays (start pairs words) log node r x (Place caller rebuild i word rows))
      (inner_row (record r { slots = slice_set r.slots i word }) s (sym is)) (is_filled can here)
  untouched_turned log _ h node r s never (by_decide {caller = caller} {said = said} can is) =
      subst (λ x. Stays (start pairs words) log node r x (Decide caller node said))
      (inner_row r s (sym is)) stays_so
  untouched_turned log _ h node r s never (by_count can is) = grind (arith, on_chain_was_linked)
  untouched_turned log _ h node r s never (by_mark {caller = caller} can is) = absurd
      (never (mark_linked pairs words opens log h.0 caller node (λ at i word p. passed_was_linked pairs words opens log h.0 at i word p) can))
  untouched_turned log _ h node r s never (by_finish can is) = grind (arith, closed_was_linked)
  untouched_turned log _ h node r s never (by_root {caller = caller} {word = word} {rows = rows} can is) = subst (λ x. Stays (start pairs words) log node r x (Root caller node word rows)) (inner_row r s (sym is)) stays_so
  untouched_turned log _ h node r s never (by_draw {caller = caller} {part = part} can is) =
      subst (λ x. Stays (start pairs words) log node r x (Draw caller node part))
      (inner_row r s (sym is)) stays_so

  -- a row that was never linked stays as it is, except for what a Place puts in
  pub untouched : (log : Log) (event : Event) → EachEnabled (start pairs words) (event ∷ log)
      → (node : ℕ) (r : InnerRow) → (state_of pairs words log).pieces node ≡ Some (Inner r)
      → ¬ (WasLinked (start pairs words) log node) → (s : InnerRow)
      × ((state_of pairs words (event ∷ log)).pieces node ≡ Some (Inner s)) × Stays
      (start pairs words) log node r s event
  untouched log event h node r e never =
      let it = inner_there (state_of pairs words log).pieces (state_of pairs words (event ∷ log)).pieces (grow_after pairs words log event h) node r e in
      (it.0, it.1, at it.0 (came pairs words log event h node (Inner it.0) it.1))
    where
      at : (s : InnerRow) → RowCame (start pairs words) log event node (Inner s)
          → Stays (start pairs words) log node r s event
      at s (from_old p old turned) = grind (arith, same_value, untouched_turned, BecameBy)
      at s (from_new new none) = grind (arith, no_value)

-- a row without an Unset slot stays as it is
pub stays_whole : (first : Snapshot) (log : Log) (event : Event) (node : ℕ) (r s : InnerRow)
    → (state first log).pieces node ≡ Some (Inner r)
    → ((i : ℕ) → slice_get r.slots i ≢ Some unset_word) → Stays first log node r s event → s ≡ r
stays_whole first log event node r _ e set stays_so = refl
stays_whole first log _ node r _ e set (is_filled {i = i} can here) = grind (arith, same_inner)

-- ---- what was linked

module _ (pairs : List Pair) (words : ℕ) (opens : CanOpen pairs words) where
  -- a row that was linked was named for a slot of a row that was
  pub record HasLinkedParent (log : Log) (child : ℕ) : Type 0 where
    pub parent : ℕ
    pub i : ℕ
    pub linked : WasLinked (start pairs words) log parent
    pub named : Mentions (state_of pairs words log) parent i (InnerAt child)

  linked_parent : (log : Log) → EachEnabled (start pairs words) log → (child : ℕ) → child ≢ anchor
      → Linked (state_of pairs words log) child → HasLinkedParent log child
  linked_parent log h _ ne at_anchor = absurd (ne refl)
  linked_parent log h _ ne (below {node = node} {child = child} i l c) = record {
    parent = node;
    i = i;
    linked = linked_now (start pairs words) log node l;
    named =
        child_mentioned (state_of pairs words log) node i child (names pairs words opens log h) c;
  }

  -- a row that was linked has a parent that was linked
  pub was_linked_parent : (log : Log) → EachEnabled (start pairs words) log → (child : ℕ)
      → child ≢ anchor → WasLinked (start pairs words) log child → HasLinkedParent log child
  was_linked_parent [] h child ne was = linked_parent [] h child ne was
  was_linked_parent (event ∷ log) h child ne (inl now) = linked_parent (event ∷ log) h child ne now
  was_linked_parent (event ∷ log) h child ne (inr before) =
      let it = was_linked_parent log h.0 child ne before in record {
        parent = it.parent;
        i = it.i;
        linked = inr it.linked;
        named =
            mentions_step pairs words opens log event h it.parent it.i (InnerAt child) (λ base e. cc) (λ e. cc) it.named;
      }

  -- a row that was linked is published
  pub was_linked_here : (log : Log) → EachEnabled (start pairs words) log → (child : ℕ)
      → child ≢ anchor
      → WasLinked (start pairs words) log child → InnerHere (state_of pairs words log).pieces child
  was_linked_here log h child ne was = let it = was_linked_parent log h child ne was in
      mentioned_here (state_of pairs words log) it.parent it.i child
      (names pairs words opens log h) it.named

  -- no inner row lies at the anchor
  pub not_the_anchor : (log : Log) → EachEnabled (start pairs words) log → (node : ℕ) (r : InnerRow)
      → (state_of pairs words log).pieces node ≡ Some (Inner r) → node ≢ anchor
  not_the_anchor log h node r e is = grind (arith, no_row, anchor_free)

  -- so no child is the anchor
  pub child_no_anchor : (log : Log) → EachEnabled (start pairs words) log → (node i child : ℕ)
      → IsChild (state_of pairs words log) node i child → child ≢ anchor
  child_no_anchor log h node i child c = let t = state_of pairs words log in
      let o = names pairs words opens log h in
      let row = mentioned_here t node i child o (child_mentioned t node i child o c) in
      not_the_anchor log h child row.0 row.1
