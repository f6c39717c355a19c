-- What a slot reads as after an event, and what it read as before it. Serves the linked law, the
-- replacement law and the rest law.
use Rattle.std.proofs.Common.{List, None, Option, Some, inl, inr, refl, subst, sym, ℕ, ⊎_elim, ◌∷◌, ◌≡◌, ◌≢◌, ◌⊎◌, ap, true, ◌∙◌, arith}
use Rattle.ist_core.specs.declared.events.Event.{Event}
use Rattle.ist_core.specs.declared.events.Event.TheVariants.{Decide, Install, Place, Resolve}
use Rattle.ist_core.specs.declared.pairs.Pair.{Pair}
use Rattle.ist_core.specs.declared.states.ChangeRow.{ChangeRow}
use Rattle.ist_core.specs.declared.states.RebuildRow.{RebuildRow}
use Rattle.ist_core.specs.LogTerms.{CanOpen, EachEnabled, state_of, Log, Snapshot}
use Rattle.ist_core.specs.WordTerms.{Ref, Unset, ref_of, anchor, SlotHolds, in_anchor, in_row, past_change, start, Change, Inner, Leaf, Piece, Pieces, Rebuild, ChangeAt, Empty, InnerAt, LeafAt, RebuildAt, past_rebuild, rebuild_reads}
use Rattle.ist_core.proofs.AllPlaceLemmas.{InnerHere, SideNames, WordsName, slot_names, names, past_change_names, anchor_free, no_row}
use Rattle.ist_core.proofs.AllLogLemmas.{get_alike, grow_after, rebuild_there}
use Rattle.laws_links.proofs.FinishedLemmas.{same_length}
use Rattle.laws_links.proofs.ReadEventLemmas.{ReadsAfter, reads_decide, reads_install, reads_place, reads_quiet, reads_resolve, decide_reads}
use Rattle.laws_links.proofs.ReadLemmas.{FillsSlot, ReadsAs, Turns, filled_by, reads_once, turned_by}
use Rattle.ist_core.specs.TreeTerms.{AllGrow, IsChild}
use Rattle.laws_links.specs.Linking.{IsFinished}
use Rattle.laws_links.proofs.FormLemmas.{IsFormed, of_finish, of_leaf_put, of_pair_put, of_remove, of_start}
use Rattle.laws_links.proofs.FormedLemmas.{changes_are_formed}

module _ (pairs : List Pair) (words : ℕ) (opens : CanOpen pairs words) where
  -- a slot reads the same after each event, or the event decides its change yes, or puts a part
  -- into it
  pub reads_any : (log : Log) (event : Event) → EachEnabled (start pairs words) (event ∷ log)
      → (node i : ℕ) (ref : Ref) → ReadsAs (state_of pairs words log) node i ref
      → ReadsAfter pairs words log node i ref event ⊎ FillsSlot (start pairs words) log node i ref event
  reads_any log (Install caller base rows) h node i ref r = grind (arith, reads_install)
  reads_any log (Resolve caller base) h node i ref r = grind (arith, reads_resolve)
  reads_any log (Place caller rebuild j word rows) h node i ref r = grind (arith, reads_place)
  reads_any log (Decide caller base said) h node i ref r = grind (arith, reads_decide)
  reads_any log event h node i ref r =
      inl (reads_quiet pairs words opens log event h tt tt node i ref r)

  -- a slot that is set isn't filled
  pub reads_step : (log : Log) (event : Event) → EachEnabled (start pairs words) (event ∷ log)
      → (node i : ℕ) (ref : Ref) → ref ≢ Unset → ReadsAs (state_of pairs words log) node i ref
      → ReadsAfter pairs words log node i ref event
  reads_step log event h node i ref set r = grind (arith, reads_any, FillsSlot, filled_by)

  -- ---- before the event

  -- the node was there before: it is the anchor, or an inner row
  pub data Stood (log : Log) (node : ℕ) : Type 0 where
    was_anchor : node ≡ anchor → Stood log node
    was_row : InnerHere (state_of pairs words log).pieces node → Stood log node

  -- what each slot of a table reads as
  pub slot_reads : (log : Log) → EachEnabled (start pairs words) log → (node i word : ℕ)
      → SlotHolds (state_of pairs words log) node i word
      → (ref : Ref) × ReadsAs (state_of pairs words log) node i ref
  slot_reads log h node i word slot = at (past_change t.pieces (ref_of word)) refl
      (past_change_names t node i (ref_of word) o (slot_names t node i word o slot))
    where
      t : Snapshot
      t = state_of pairs words log

      o : WordsName (state_of pairs words log)
      o = names pairs words opens log h

      at : (o : Option Ref) → past_change (state_of pairs words log).pieces (ref_of word) ≡ o
          → SideNames (state_of pairs words log).pieces node i (past_change (state_of pairs words log).pieces (ref_of word)) ⊎ (past_change (state_of pairs words log).pieces (ref_of word) ≡ Some Unset)
          → (ref : Ref) × ReadsAs (state_of pairs words log) node i ref
      at (Some ref) is k = (ref, record { word = word; holds = slot; reads = is })
      at None is (inl side) = grind (arith, SideNames)
      at None is (inr unset) = absurd (cc)

  -- a slot of a node that was there before held a word
  pub slot_held : (log : Log) (event : Event) → EachEnabled (start pairs words) (event ∷ log)
      → (node i word : ℕ)
      → Stood log node → SlotHolds (state_of pairs words (event ∷ log)) node i word
      → (old : ℕ) × SlotHolds (state_of pairs words log) node i old
  slot_held log event h node i word stood (in_anchor a b e) =
      ((state_of pairs words log).anchor, in_anchor a b refl)
  slot_held log event h node i word (was_anchor a) (in_row r p e) = absurd
      (no_row (state_of pairs words (event ∷ log)).pieces node r (anchor_free pairs words (event ∷ log) h) a p)
  slot_held log event h node i word (was_row k) (in_row r p e) =
      let long = same_length (state_of pairs words log).pieces (state_of pairs words (event ∷ log)).pieces (grow_after pairs words log event h) node k.0 r k.1 p in
      let it = get_alike r.slots k.0.slots i word (sym long) e in (it.0, in_row k.0 k.1 it.1)

  -- how a slot gets what it reads as: it read so before, or its change is decided yes now, or it is
  -- filled now
  pub data Turning (log : Log) (node i : ℕ) (ref : Ref) (event : Event) : Type 0 where
    read_before : ReadsAs (state_of pairs words log) node i ref → Turning log node i ref event
    turned_now : (was : Ref) → ReadsAs (state_of pairs words log) node i was
        → Turns (start pairs words) log node i was event → Turning log node i ref event
    filled_now : FillsSlot (start pairs words) log node i Unset event → Turning log node i ref event

  -- how a slot got what it reads as after an event
  pub reads_back : (log : Log) (event : Event) → EachEnabled (start pairs words) (event ∷ log)
      → (node i : ℕ) (ref : Ref) → Stood log node
      → ReadsAs (state_of pairs words (event ∷ log)) node i ref → Turning log node i ref event
  reads_back log event h node i ref stood r =
      let old = slot_held log event h node i r.word stood r.holds in
      let was = slot_reads log h.0 node i old.0 old.1 in ⊎_elim
      (λ k. ⊎_elim
      (λ on.
      let same = reads_once (state_of pairs words (event ∷ log)) node i was.0 ref (anchor_free pairs words (event ∷ log) h) on r in
      read_before (subst (λ x. ReadsAs (state_of pairs words log) node i x) same was.1))
      (λ turn. turned_now was.0 was.1 turn)
      k)
      (λ f. filled event was.0 f) (reads_any log event h node i was.0 was.1)
    where
      filled : (event : Event) (was : Ref) → FillsSlot (start pairs words) log node i was event
          → Turning log node i ref event
      filled event was f = filled_now
          (subst (λ x. FillsSlot (start pairs words) log node i x event) (unset event was f) f)
        where
          unset : (event : Event) (was : Ref) → FillsSlot (start pairs words) log node i was event
              → was ≡ Unset
          unset _ was (filled_by can here at is) = is

-- ---- after each event a child is still a child, or is finished. Serves the linked law.

-- what a slot reads as, and its child
pub read_child : (t : Snapshot) (node i child : ℕ) (ref : Ref) → ReadsAs t node i ref
    → past_rebuild t.pieces (Some ref) ≡ Some (InnerAt child) → IsChild t node i child
read_child t node i child ref r e =
    record { word = r.word; holds = r.holds; reads = ap (past_rebuild t.pieces) r.reads ∙ e }

-- a child is read by a reference, which is set
pub record IsReadBy (t : Snapshot) (node i child : ℕ) : Type 0 where
  pub ref : Ref
  pub read : ReadsAs t node i ref
  pub set : ref ≢ Unset
  pub leads : past_rebuild t.pieces (Some ref) ≡ Some (InnerAt child)

-- a child is read from the word in its slot
pub child_read : (t : Snapshot) (node i child : ℕ) → IsChild t node i child
    → IsReadBy t node i child
child_read t node i child c = at (past_change t.pieces (ref_of c.word)) refl c.reads
  where
    at : (o : Option Ref) → past_change t.pieces (ref_of c.word) ≡ o
        → past_rebuild t.pieces o ≡ Some (InnerAt child) → IsReadBy t node i child
    at None is e = absurd (cc)
    at (Some ref) is e =
        record { ref = ref; read = record { word = c.word; holds = c.holds; reads = is }; set = λ unset. clash (subst (λ r. past_rebuild t.pieces (Some r) ≡ Some (InnerAt child)) unset e); leads = e }
      where
        clash : Some Unset ≡ Some (InnerAt child) → ⊥
        clash k = cc

-- a reference still leads to the same child when rows have grown
pub leads_grows : (t u : Snapshot) → AllGrow t.pieces u.pieces → (ref : Ref) (child : ℕ)
    → past_rebuild t.pieces (Some ref) ≡ Some (InnerAt child)
    → past_rebuild u.pieces (Some ref) ≡ Some (InnerAt child)
leads_grows t u g (RebuildAt base) child e = at (t.pieces base) refl e
  where
    at : (o : Option Piece) → t.pieces base ≡ o → rebuild_reads o ≡ Some (InnerAt child)
        → rebuild_reads (u.pieces base) ≡ Some (InnerAt child)
    at (Some (Rebuild r)) is k = let it = rebuild_there t.pieces u.pieces g base r is in
        ap rebuild_reads it.1 ∙ ap (λ n. Some (InnerAt n)) it.2.target ∙ k
    at (Some (Leaf r)) is k = absurd (cc)
    at (Some (Inner r)) is k = absurd (cc)
    at (Some (Change r)) is k = absurd (cc)
    at None is k = absurd (cc)
leads_grows t u g Empty child e = e
leads_grows t u g Unset child e = e
leads_grows t u g (LeafAt base) child e = e
leads_grows t u g (InnerAt base) child e = e
leads_grows t u g (ChangeAt base) child e = e

-- a rebuild leads to its target
pub leads_rebuild : (ps : Pieces) (base : ℕ) (r : RebuildRow) → ps base ≡ Some (Rebuild r)
    → past_rebuild ps (Some (RebuildAt base)) ≡ Some (InnerAt r.target)
leads_rebuild ps base r e = ap rebuild_reads e

-- what a change takes out that leads to an inner row: the change puts in what leads there too, or the row is finished
pub data TakesOut (t : Snapshot) (x : ChangeRow) (child : ℕ) : Type 0 where
  takes_none_away : (ref : Ref) → ref_of x.to ≡ Some ref
      → past_rebuild t.pieces (Some ref) ≡ Some (InnerAt child) → TakesOut t x child
  takes_finished : IsFinished t child → TakesOut t x child

-- if the `from` of a change leads to an inner row, `to` leads there too or the row is finished
pub takes : (t : Snapshot) (x : ChangeRow) (ref : Ref) (child : ℕ) → IsFormed t x
    → ref_of x.from ≡ Some ref
    → past_rebuild t.pieces (Some ref) ≡ Some (InnerAt child) → TakesOut t x child
takes t x ref child (of_leaf_put h) e leads = grind arith
takes t x ref child (of_pair_put h) e leads = grind arith
takes t x ref child (of_remove h) e leads = grind arith
takes t x ref child (of_start h) e leads = takes_none_away (RebuildAt h.rebuild) h.to
    (leads_rebuild t.pieces h.rebuild h.row h.published ∙ ap (past_rebuild t.pieces) (sym h.from ∙ e) ∙ leads)
takes t x ref child (of_finish h) e leads = grind (arith, leads_rebuild)

module _ (pairs : List Pair) (words : ℕ) (opens : CanOpen pairs words) where
  -- after the event a child is still a child, or is finished
  pub child_step : (log : Log) (event : Event) → EachEnabled (start pairs words) (event ∷ log)
      → (node i child : ℕ) → IsChild (state_of pairs words log) node i child
      → IsChild (state_of pairs words (event ∷ log)) node i child ⊎ IsFinished (state_of pairs words log) child
  child_step log event h node i child c =
      let it = child_read (state_of pairs words log) node i child c in ⊎_elim
      (λ r. inl (read_child (state_of pairs words (event ∷ log)) node i child it.ref r
      (leads_grows (state_of pairs words log) (state_of pairs words (event ∷ log)) (grow_after pairs words log event h) it.ref child it.leads)))
      (λ k. turned event h it.ref it.leads k)
      (reads_step pairs words opens log event h node i it.ref it.set it.read)
    where
      turned : (event : Event) → EachEnabled (start pairs words) (event ∷ log) → (ref : Ref)
          → past_rebuild (state_of pairs words log).pieces (Some ref) ≡ Some (InnerAt child)
          → Turns (start pairs words) log node i ref event
          → IsChild (state_of pairs words (event ∷ log)) node i child ⊎ IsFinished (state_of pairs words log) child
      turned _ h ref leads (turned_by {caller = caller} {base = base} can n j from) = by_form
          (takes (state_of pairs words log) can.change ref child (changes_are_formed pairs words log h.0 base can.change can.pending.published) from leads)
        where
          by_form : TakesOut (state_of pairs words log) can.change child
              → IsChild (state_of pairs words (Decide caller base true ∷ log)) node i child ⊎ IsFinished (state_of pairs words log) child
          by_form (takes_none_away to is on) =
              let u = state_of pairs words (Decide caller base true ∷ log) in
              let r = decide_reads pairs words opens log caller base h can.change can.pending.published to is in
              let here : IsChild u can.change.node can.change.index child =
              read_child u can.change.node can.change.index child to r
              (leads_grows (state_of pairs words log) u (grow_after pairs words log (Decide caller base true) h) to child on) in
              inl
              (subst (λ m. IsChild u m i child) n (subst (λ m. IsChild u can.change.node m child) j here))
          by_form (takes_finished f) = inr f
