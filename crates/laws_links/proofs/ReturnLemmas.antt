-- A row that was linked and isn't any more is never linked again. Serves `laws.unlinked_rows_stay_out` and the rest law.
use Rattle.std.proofs.Common.{List, None, Option, Some, ap, arith, false, inl, inr, refl, subst, suc, sym, true, zero, ℕ, ◌<◌, ◌==◌, ◌∙◌, ◌∷◌, ◌≡◌, ◌≢◌, ◌⊎◌}
use Rattle.std.proofs.lemmas.Bool.Decides.{eqb_tells}
use Rattle.ist_core.specs.declared.events.Event.{Event}
use Rattle.ist_core.specs.declared.events.Event.TheVariants.{Decide, Place}
use Rattle.ist_core.specs.declared.pairs.Pair.{Pair}
use Rattle.ist_core.specs.LogTerms.{CanOpen, EachEnabled, state_of, GoesOn, Log, one_event, same_log, Snapshot, bases_of}
use Rattle.ist_core.specs.TreeTerms.{IsChild, Linked, WasLinked, at_anchor, below}
use Rattle.ist_core.specs.WordTerms.{Inner, Rebuild, with_inners, ChangeAt, Empty, InnerAt, LeafAt, RebuildAt, Ref, Unset, ref_of, anchor, SlotHolds, past_change, past_rebuild, rebuild_reads, start}
use Rattle.ist_core.proofs.AllEventLemmas.{held_free}
use Rattle.ist_core.proofs.AllLogLemmas.{rebuild_there, grow_after}
use Rattle.ist_core.proofs.AllPlaceLemmas.{mentioned_here, child_mentioned, mentions_step, InnerHere, IsRebuildFor, RootNames, SideNames, WordsName, slot_names, child_above, names, past_change_names, one_home, anchor_free, slot_once, place_writes}
use Rattle.ist_core.proofs.AllWordLemmas.{no_value}
use Rattle.laws_links.proofs.ReadStepLemmas.{IsReadBy, child_read, leads_grows, leads_rebuild, read_child, Stood, Turning, filled_now, read_before, reads_back, turned_now, was_anchor, was_row}
use Rattle.laws_links.proofs.FormLemmas.{IsFormed, of_finish, of_leaf_put, of_pair_put, of_remove, of_start}
use Rattle.laws_links.proofs.FormedLemmas.{changes_are_formed}
use Rattle.laws_links.proofs.InductionLemmas.{sound_after}
use Rattle.laws_links.proofs.PairLemmas.{pair_is_filled}
use Rattle.laws_links.proofs.ReadEventLemmas.{decide_reads}
use Rattle.laws_links.proofs.ReadLemmas.{FillsSlot, ReadsAs, Turns, filled_by, reads_once, turned_by, ideal_reads}
use Rattle.laws_links.proofs.UntouchedLemmas.{not_the_anchor, was_linked_here, was_linked_parent}
use Rattle.laws_links.proofs.RebuiltLemmas.{finish_unreplaced}
use Rattle.laws_links.proofs.UnlinkedLemmas.{ideal_among, root_never_linked}

-- two references to inner rows are one
pub one_inner : (a b : ℕ) → Some (InnerAt a) ≡ Some (InnerAt b) → a ≡ b
one_inner a b e = cc

module _ (pairs : List Pair) (words : ℕ) (opens : CanOpen pairs words) where
  -- a child that a slot's reading leads to after the event, it led to before the event
  pub leads_back : (log : Log) (event : Event) → EachEnabled (start pairs words) (event ∷ log)
      → (node i child : ℕ) (ref : Ref) → ReadsAs (state_of pairs words log) node i ref
      → past_rebuild (state_of pairs words (event ∷ log)).pieces (Some ref) ≡ Some (InnerAt child)
      → past_rebuild (state_of pairs words log).pieces (Some ref) ≡ Some (InnerAt child)
  leads_back log event h node i child ref r leads = at ref r.reads leads
      (past_change_names t node i (ref_of r.word) o (slot_names t node i r.word o r.holds))
    where
      t : Snapshot
      t = state_of pairs words log

      o : WordsName (state_of pairs words log)
      o = names pairs words opens log h.0

      at : (ref : Ref) → past_change (state_of pairs words log).pieces (ref_of r.word) ≡ Some ref
          → past_rebuild (state_of pairs words (event ∷ log)).pieces (Some ref) ≡ Some (InnerAt child)
          → SideNames (state_of pairs words log).pieces node i (past_change (state_of pairs words log).pieces (ref_of r.word)) ⊎ (past_change (state_of pairs words log).pieces (ref_of r.word) ≡ Some Unset)
          → past_rebuild (state_of pairs words log).pieces (Some ref) ≡ Some (InnerAt child)
      at (RebuildAt base) is k (inl side) = let t = state_of pairs words log in
          let u = state_of pairs words (event ∷ log) in
          let here : IsRebuildFor t.pieces node i base =
          subst (λ x. SideNames t.pieces node i x) is side in
          let on = rebuild_there t.pieces u.pieces (grow_after pairs words log event h) base here.row here.published in
          ap rebuild_reads here.published ∙ ap (λ n. Some (InnerAt n)) (sym on.2.target) ∙ sym
          (ap rebuild_reads on.1) ∙ k
      at (RebuildAt base) is k (inr unset) = absurd (cc)
      at Empty is k side = absurd (cc)
      at Unset is k side = absurd (cc)
      at (LeafAt base) is k side = absurd (cc)
      at (InnerAt base) is k side = k
      at (ChangeAt base) is k side = absurd (cc)

  -- a row that was linked isn't brought back by a change that is decided yes
  turned_back : (log : Log) (event : Event) → EachEnabled (start pairs words) (event ∷ log)
      → (node i child : ℕ) (was ref : Ref)
      → WasLinked (start pairs words) log child → ReadsAs (state_of pairs words log) node i was
      → Turns (start pairs words) log node i was event
      → ReadsAs (state_of pairs words (event ∷ log)) node i ref
      → past_rebuild (state_of pairs words (event ∷ log)).pieces (Some ref) ≡ Some (InnerAt child)
      → IsChild (state_of pairs words log) node i child
  turned_back log _ h node i child was ref linked old
      (turned_by {caller = caller} {base = base} can n j from) r leads =
      by_form (changes_are_formed pairs words log h.0 base can.change can.pending.published)
    where
      -- the slot reads as what the change puts in
      is_to : (to : Ref) → ref_of can.change.to ≡ Some to → ref ≡ to
      is_to to is = let u = state_of pairs words (Decide caller base true ∷ log) in
          let now =
          decide_reads pairs words opens log caller base h can.change can.pending.published to is in
          reads_once u node i ref to (anchor_free pairs words (Decide caller base true ∷ log) h) r
          (subst (λ m. ReadsAs u m i to) n (subst (λ m. ReadsAs u can.change.node m to) j now))

      leads_to : (to : Ref) → ref_of can.change.to ≡ Some to
          → past_rebuild (state_of pairs words (Decide caller base true ∷ log)).pieces (Some to) ≡ Some (InnerAt child)
      leads_to to is = subst
          (λ x. past_rebuild (state_of pairs words (Decide caller base true ∷ log)).pieces (Some x) ≡ Some (InnerAt child))
          (is_to to is) leads

      by_form : IsFormed (state_of pairs words log) can.change
          → IsChild (state_of pairs words log) node i child
      by_form (of_leaf_put f) = absurd (cc (leads_to (LeafAt f.leaf) f.to))
      by_form (of_pair_put f) =
          let same = one_inner f.pair child (leads_to (InnerAt f.pair) f.to) in
          let filled = pair_is_filled pairs words opens log h.0 base can.change can.pending.published can.pending.unset f.kind f.pair f.to in
          absurd (filled.never (subst (λ m. WasLinked (start pairs words) log m) (sym same) linked))
      by_form (of_remove f) = absurd (cc (leads_to Empty f.to))
      by_form (of_start f) = let t = state_of pairs words log in
          let u = state_of pairs words (Decide caller base true ∷ log) in
          let now = leads_grows t u (grow_after pairs words log (Decide caller base true) h) (RebuildAt f.rebuild) f.row.target (leads_rebuild t.pieces f.rebuild f.row f.published) in
          let same = one_inner f.row.target child (sym now ∙ leads_to (RebuildAt f.rebuild) f.to) in
          let here : was ≡ InnerAt f.row.target =
          cc (sym from ∙ f.from) in
          read_child t node i child was old
          (ap (λ x. past_rebuild t.pieces (Some x)) here ∙ ap (λ m. Some (InnerAt m)) same)
      by_form (of_finish f) = let t = state_of pairs words log in
          let row = (names pairs words opens log h.0).rows f.rebuild (Rebuild f.row) f.published in
          let unr = finish_unreplaced pairs words opens log h.0 base can.change can.pending.published can.pending.unset f.rebuild f.from in
          absurd
          (by_root (ref_of f.row.root) refl row.2 (λ named. root_never_linked pairs words opens log h.0 f.rebuild child f.row f.published named unr linked))
        where
          by_root : (o : Option Ref) → ref_of f.row.root ≡ o
              → RootNames (state_of pairs words log).pieces f.row.target o
              → ¬ (ref_of f.row.root ≡ Some (InnerAt child)) → ⊥
          by_root (Some (InnerAt b)) is k never =
              never (is ∙ leads_to (InnerAt b) (ap ref_of f.to ∙ is))
          by_root (Some Empty) is k never = cc (leads_to Empty (ap ref_of f.to ∙ is))
          by_root (Some Unset) is k never = cc (leads_to Unset (ap ref_of f.to ∙ is))
          by_root (Some (LeafAt b)) is k never = cc (leads_to (LeafAt b) (ap ref_of f.to ∙ is))
          by_root (Some (ChangeAt b)) is k never = k
          by_root (Some (RebuildAt b)) is k never = k
          by_root None is k never = k

  -- a row that was linked isn't put into a root
  filled_back : (log : Log) (event : Event) → EachEnabled (start pairs words) (event ∷ log)
      → (node i child : ℕ) (ref : Ref) → InnerHere (state_of pairs words log).pieces child
      → FillsSlot (start pairs words) log node i Unset event
      → ReadsAs (state_of pairs words (event ∷ log)) node i ref
      → past_rebuild (state_of pairs words (event ∷ log)).pieces (Some ref) ≡ Some (InnerAt child)
      → ⊥
  filled_back log _ h node i child ref there
      (filled_by {caller = caller} {rebuild = rebuild} {j = j} {word = word} {rows = rows} can here at is) r leads =
      let t = state_of pairs words log in
      let u = state_of pairs words (Place caller rebuild j word rows ∷ log) in
      let writes = place_writes t caller rebuild j word rows can (sound_after pairs words log h.0) (anchor_free pairs words log h.0) in
      let slot = subst (λ n. SlotHolds u n i word) (sym here) (subst (λ m. SlotHolds u can.root m word) (sym at) writes.now) in
      let same = slot_once u node i r.word word (anchor_free pairs words (Place caller rebuild j word rows ∷ log) h) r.holds slot in
      let read : past_change u.pieces (Some can.ref) ≡ Some ref = ap (past_change u.pieces) (sym can.ref_is) ∙ ap (λ w. past_change u.pieces (ref_of w)) (sym same) ∙ r.reads in
      let qs = with_inners t.pieces rows in
      let child_is : Some can.ref ≡ Some (InnerAt child) =
      sym (ideal_reads u.pieces qs can.ref can.part can.root (bases_of rows) can.ideal) ∙ ap (past_rebuild u.pieces) read ∙ leads in
      let among = ideal_among qs can.ref can.part can.root (bases_of rows) child can.ideal (cc) in
      no_value (t.pieces child) (Inner there.0)
      (held_free t caller rows can.held (sound_after pairs words log h.0) child among) there.1

  -- going down by base: a row that was linked and is linked after an event is linked before it
  not_brought_back : (log : Log) (event : Event) → EachEnabled (start pairs words) (event ∷ log)
      → (fuel node : ℕ) → node < fuel
      → WasLinked (start pairs words) log node → Linked (state_of pairs words (event ∷ log)) node
      → Linked (state_of pairs words log) node
  not_brought_back log event h zero node low was l = absurd (omega arith)
  not_brought_back log event h (suc fuel) _ low was at_anchor = at_anchor
  not_brought_back log event h (suc fuel) _ low was (below {node = node} {child = child} i l c) =
      let t = state_of pairs words log in let u = state_of pairs words (event ∷ log) in
      let o = names pairs words opens (event ∷ log) h in
      let higher = child_above u node i child o c in
      let named = child_mentioned u node i child o c in
      let row = mentioned_here u node i child o named in
      let ne = not_the_anchor pairs words opens (event ∷ log) h child row.0 row.1 in
      let parent = was_linked_parent pairs words opens log h.0 child ne was in
      let on = mentions_step pairs words opens log event h parent.parent parent.i (InnerAt child) (λ base e. cc) (λ e. cc) parent.named in
      let home = (one_home pairs words opens (event ∷ log) h).one parent.parent parent.i node i child on named in
      let node_was = subst (λ n. WasLinked (start pairs words) log n) home.0 parent.linked in
      let here = not_brought_back log event h fuel node (omega arith) node_was l in below i here
      (by_reading node i child was (was_linked_here pairs words opens log h.0 child ne was) (stood node node_was (eqb_tells node anchor)) (child_read u node i child c))
    where
      stood : (node : ℕ) → WasLinked (start pairs words) log node
          → (((node == anchor) ≡ true) × (node ≡ anchor))
          ⊎ (((node == anchor) ≡ false) × (node ≢ anchor)) → Stood pairs words opens log node
      stood node was (inl k) = was_anchor k.1
      stood node was (inr k) = was_row (was_linked_here pairs words opens log h.0 node k.1 was)

      by_reading : (node i child : ℕ) → WasLinked (start pairs words) log child
          → InnerHere (state_of pairs words log).pieces child → Stood pairs words opens log node
          → IsReadBy (state_of pairs words (event ∷ log)) node i child
          → IsChild (state_of pairs words log) node i child
      by_reading node i child was there s r =
          at (reads_back pairs words opens log event h node i r.ref s r.read)
        where
          at : Turning pairs words opens log node i r.ref event
              → IsChild (state_of pairs words log) node i child
          at (read_before before) = read_child (state_of pairs words log) node i child r.ref before
              (leads_back log event h node i child r.ref before r.leads)
          at (turned_now before old turn) =
              turned_back log event h node i child before r.ref was old turn r.read r.leads
          at (filled_now fills) =
              absurd (filled_back log event h node i child r.ref there fills r.read r.leads)

  -- a row that was linked and isn't any more isn't linked by an event
  pub unlinked_step : (log : Log) (event : Event) → EachEnabled (start pairs words) (event ∷ log)
      → (node : ℕ)
      → WasLinked (start pairs words) log node → ¬ (Linked (state_of pairs words log) node)
      → ¬ (Linked (state_of pairs words (event ∷ log)) node)
  unlinked_step log event h node was unlinked l = grind (arith, not_brought_back)

  -- a row that was linked and isn't any more stays out over more events
  pub unlinked_stays : (earlier log : Log) → GoesOn earlier log
      → EachEnabled (start pairs words) log → (node : ℕ)
      → WasLinked (start pairs words) earlier node → ¬ (Linked (state_of pairs words earlier) node)
      → ¬ (Linked (state_of pairs words log) node) × WasLinked (start pairs words) log node
  unlinked_stays earlier _ same_log h node was unlinked = (unlinked, was)
  unlinked_stays earlier _ (one_event {log = log} event on) h node was unlinked =
      let before = unlinked_stays earlier log on h.0 node was unlinked in
      (unlinked_step log event h node before.1 before.0, inr before.1)
