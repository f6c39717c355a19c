-- What an event links: nothing, but for a yes, which links what hangs in the slot of its change.
-- Serves `linking.rt`.
use Rattle.std.proofs.Common.{◌≡◌, ◌∙◌, ◌⊎◌, ℕ, true, List, ◌∷◌, Option, Some, None, refl, sym, ap, subst, inl, inr, ⊎_elim, arith}
use Rattle.std.proofs.lemmas.Option.{same_Some}
use Rattle.ist_core.specs.declared.pairs.Pair.{Pair}
use Rattle.ist_core.specs.declared.states.ChangeRow.{ChangeRow}
use Rattle.ist_core.specs.declared.events.Event.{Event}
use Rattle.ist_core.specs.declared.events.Event.TheVariants.{Decide}
use Rattle.ist_core.specs.WordTerms.{Ref, Empty, Unset, LeafAt, InnerAt, ChangeAt, RebuildAt, ref_of, unset_word, Change, Rebuild, start, in_row, past_rebuild, past_change}
use Rattle.ist_core.specs.LogTerms.{Snapshot, Log, CanOpen, EachEnabled, state_of}
use Rattle.ist_core.specs.TreeTerms.{IsChild, Linked, at_anchor, below}
use Rattle.ist_core.proofs.AllPlaceLemmas.{mentioned_here, child_mentioned, RootNames, names, anchor_free}
use Rattle.ist_core.proofs.AllWordLemmas.{ref_of-unset}
use Rattle.ist_core.proofs.AllLogLemmas.{grow_after}
use Rattle.laws_links.proofs.ReadStepLemmas.{IsReadBy, child_read, leads_grows, leads_rebuild, read_child, Stood, Turning, filled_now, read_before, reads_back, turned_now, was_anchor, was_row}
use Rattle.laws_links.proofs.FormLemmas.{IsFormed, of_finish, of_leaf_put, of_pair_put, of_remove, of_start}
use Rattle.laws_links.proofs.FormedLemmas.{changes_are_formed}
use Rattle.laws_links.proofs.ReadEventLemmas.{decide_reads}
use Rattle.laws_links.proofs.ReadLemmas.{FillsSlot, ReadsAs, Turns, filled_by, reads_once, turned_by}
use Rattle.laws_links.proofs.ContentLemmas.{linked_set}
use Rattle.laws_links.proofs.ReturnLemmas.{leads_back, one_inner}
use Rattle.check_state.specs.Hanging.{Hangs, hangs_here}
use Rattle.check_state.proofs.HangingLemmas.{hangs_on}

module _ (pairs : List Pair) (words : ℕ) (opens : CanOpen pairs words) where
  -- the state after a log
  abbrev following : Log → Snapshot
  following log = state_of pairs words log

  -- ---- a slot of a linked node

  -- a linked node is the anchor or a published inner row
  linked_stood : (log : Log) → EachEnabled (start pairs words) log → (node : ℕ)
      → Linked (following log) node → Stood pairs words opens log node
  linked_stood log h _ at_anchor = was_anchor refl
  linked_stood log h _ (below {node = node} {child = child} i l c) = let t = following log in
      let o = names pairs words opens log h in
      was_row (mentioned_here t node i child o (child_mentioned t node i child o c))

  -- no part is put into a slot of a linked node: each is set
  unfilled : (log : Log) (event : Event) → EachEnabled (start pairs words) (event ∷ log)
      → (node i : ℕ)
      → Linked (following log) node → ¬ (FillsSlot (start pairs words) log node i Unset event)
  unfilled log _ h node i l (filled_by can here at is) = let t = following log in
      let slot = in_row can.root_row can.root_published can.free in
      linked_set pairs words opens log h.0 can.root _ unset_word (subst (λ n. Linked t n) here l)
      slot (ap (λ o. past_rebuild t.pieces (past_change t.pieces o)) ref_of-unset)

  -- the event decides yes a change of slot i of the node that puts an inner row in
  pub record BringsTo (log : Log) (event : Event) (node i : ℕ) : Type 0 where
    pub caller : ℕ
    pub base : ℕ
    pub event_is : event ≡ Decide caller base true
    pub change : ChangeRow
    pub published : (following log).pieces base ≡ Some (Change change)
    pub node_is : change.node ≡ node
    pub index_is : change.index ≡ i
    pub row : ℕ
    pub to : ref_of change.to ≡ Some (InnerAt row)

  -- a change that is decided yes and puts no inner row in leaves the child of its slot
  turned_child : (log : Log) (event : Event) → EachEnabled (start pairs words) (event ∷ log)
      → (node i child : ℕ) (was ref : Ref) → ReadsAs (following log) node i was
      → Turns (start pairs words) log node i was event
      → ReadsAs (following (event ∷ log)) node i ref
      → past_rebuild (following (event ∷ log)).pieces (Some ref) ≡ Some (InnerAt child)
      → IsChild (following log) node i child ⊎ BringsTo log event node i
  turned_child log _ h node i child was ref old
      (turned_by {caller = caller} {base = base} can n j from) r leads =
      by_form (changes_are_formed pairs words log h.0 base can.change can.pending.published)
    where
      t : Snapshot
      t = following log

      u : Snapshot
      u = following (Decide caller base true ∷ log)

      -- the slot reads as what the change puts in
      leads_to : (to : Ref) → ref_of can.change.to ≡ Some to
          → past_rebuild u.pieces (Some to) ≡ Some (InnerAt child)
      leads_to to is =
          let now =
          decide_reads pairs words opens log caller base h can.change can.pending.published to is in
          let here =
          subst (λ m. ReadsAs u m i to) n (subst (λ m. ReadsAs u can.change.node m to) j now) in
          let same =
          reads_once u node i ref to (anchor_free pairs words (Decide caller base true ∷ log) h) r
          here in
          subst (λ x. past_rebuild u.pieces (Some x) ≡ Some (InnerAt child)) same leads

      brings : (row : ℕ) → ref_of can.change.to ≡ Some (InnerAt row)
          → BringsTo log (Decide caller base true) node i
      brings row to = record {
        caller = caller;
        base = base;
        event_is = refl;
        change = can.change;
        published = can.pending.published;
        node_is = n;
        index_is = j;
        row = row;
        to = to;
      }

      by_form : IsFormed t can.change
          → IsChild t node i child ⊎ BringsTo log (Decide caller base true) node i
      by_form (of_leaf_put f) = absurd (cc (leads_to (LeafAt f.leaf) f.to))
      by_form (of_pair_put f) = inr (brings f.pair f.to)
      by_form (of_remove f) = absurd (cc (leads_to Empty f.to))
      by_form (of_start f) =
          let now =
          leads_grows t u (grow_after pairs words log (Decide caller base true) h)
          (RebuildAt f.rebuild) f.row.target (leads_rebuild t.pieces f.rebuild f.row f.published) in
          let same = one_inner f.row.target child (sym now ∙ leads_to (RebuildAt f.rebuild) f.to) in
          let here = same_Some was (InnerAt f.row.target) (sym from ∙ f.from) in inl
          (read_child t node i child was old
          (ap (λ x. past_rebuild t.pieces (Some x)) here ∙ ap (λ m. Some (InnerAt m)) same))
      by_form (of_finish f) =
          let row = (names pairs words opens log h.0).rows f.rebuild (Rebuild f.row) f.published in
          by_root (ref_of f.row.root) refl row.2
        where
          by_root : (o : Option Ref) → ref_of f.row.root ≡ o → RootNames t.pieces f.row.target o
              → IsChild t node i child ⊎ BringsTo log (Decide caller base true) node i
          by_root (Some (InnerAt b)) is k = inr (brings b (ap ref_of f.to ∙ is))
          by_root (Some Empty) is k = absurd (cc (leads_to Empty (ap ref_of f.to ∙ is)))
          by_root (Some Unset) is k = absurd (cc (leads_to Unset (ap ref_of f.to ∙ is)))
          by_root (Some (LeafAt b)) is k = absurd (cc (leads_to (LeafAt b) (ap ref_of f.to ∙ is)))
          by_root (Some (ChangeAt b)) is k = absurd k
          by_root (Some (RebuildAt b)) is k = absurd k
          by_root None is k = absurd k

  -- a child of a slot of a linked node was its child before the event, or a change that is decided
  -- yes brings it
  child_back : (log : Log) (event : Event) → EachEnabled (start pairs words) (event ∷ log)
      → (node i child : ℕ)
      → Linked (following log) node → IsChild (following (event ∷ log)) node i child
      → IsChild (following log) node i child ⊎ BringsTo log event node i
  child_back log event h node i child l c =
      at (reads_back pairs words opens log event h node i r.ref (linked_stood log h.0 node l)
      r.read)
    where
      r : IsReadBy (following (event ∷ log)) node i child
      r = child_read (following (event ∷ log)) node i child c

      at : Turning pairs words opens log node i r.ref event
          → IsChild (following log) node i child ⊎ BringsTo log event node i
      at (read_before b) =
          inl (read_child (following log) node i child r.ref b
          (leads_back pairs words opens log event h node i child r.ref b r.leads))
      at (turned_now was old turn) =
          turned_child log event h node i child was r.ref old turn r.read r.leads
      at (filled_now f) = absurd (unfilled log event h node i l f)

  -- ---- linked nodes

  -- the slot belongs to a change that the event decides yes and that puts an inner row in, and the
  -- row hangs there or below
  pub record HangsNew (log : Log) (event : Event) (node i child : ℕ) : Type 0 where
    pub top : ℕ
    pub k : ℕ
    pub brings : BringsTo log event top k
    pub hangs : Hangs (following (event ∷ log)) top k node i child

  -- the same, one row further down
  one_more : (log : Log) (event : Event) (node i row j child : ℕ) → HangsNew log event node i row
      → IsChild (following (event ∷ log)) row j child → HangsNew log event row j child
  one_more log event node i row j child n c = grind (arith, hangs_on)

  -- a child of a node that was linked or hangs newly was a child of a linked node, or hangs newly
  child_from : (log : Log) (event : Event) → EachEnabled (start pairs words) (event ∷ log)
      → (node i child : ℕ)
      → Linked (following log) node ⊎ ((up j : ℕ) × HangsNew log event up j node)
      → IsChild (following (event ∷ log)) node i child
      → (Linked (following log) node × IsChild (following log) node i child)
      ⊎ HangsNew log event node i child
  child_from log event h node i child (inl l) c = ⊎_elim (λ b. inl (l, b))
      (λ n. inr record { top = node; k = i; brings = n; hangs = hangs_here c })
      (child_back log event h node i child l c)
  child_from log event h node i child (inr n) c = grind (arith, one_more)

  -- a linked node was linked before the event, or hangs newly
  linked_back : (log : Log) (event : Event) → EachEnabled (start pairs words) (event ∷ log)
      → (node : ℕ) → Linked (following (event ∷ log)) node
      → Linked (following log) node ⊎ ((up j : ℕ) × HangsNew log event up j node)
  linked_back log event h _ at_anchor = inl at_anchor
  linked_back log event h _ (below {node = node} {child = child} i l c) =
      ⊎_elim (λ p. inl (below i p.0 p.1)) (λ n. inr (node, i, n))
      (child_from log event h node i child (linked_back log event h node l) c)

  -- a child of a linked node was one before the event, or hangs newly
  pub linked_child_back : (log : Log) (event : Event)
      → EachEnabled (start pairs words) (event ∷ log) → (node i child : ℕ)
      → Linked (following (event ∷ log)) node → IsChild (following (event ∷ log)) node i child
      → (Linked (following log) node × IsChild (following log) node i child)
      ⊎ HangsNew log event node i child
  linked_child_back log event h node i child l c = grind (arith, child_from, linked_back)
