-- A change that was resolved is in no slot any more. Serves `laws.changes_stand`.
use Rattle.std.proofs.Common.{List, Some, [], ap, false, inl, inr, subst, sym, true, ℕ, ⊎_elim, ◌==◌, ◌∙◌, ◌∷◌, ◌≡◌, ◌≢◌, ◌⊎◌, lit≤, arith, max, refl, suc, zero, ◌+◌, ◌≤◌}
use Rattle.std.proofs.lemmas.Bool.Decides.{eqb_tells}
use Rattle.ist_core.specs.declared.events.Event.{Event}
use Rattle.ist_core.specs.declared.events.Event.TheVariants.{Install, Place, Resolve}
use Rattle.ist_core.specs.declared.pairs.Pair.{Pair}
use Rattle.ist_core.specs.declared.states.ChangeRow.{ChangeRow}
use Rattle.ist_core.specs.declared.lists.Row.{Row}
use Rattle.ist_core.specs.declared.states.RebuildRow.{RebuildRow}
use Rattle.ist_core.specs.LogTerms.{side_of, CanOpen, EachEnabled, state_of, Happened, Log, Resolves, bases_of, caller_limit}
use Rattle.ist_core.specs.WordTerms.{IsIdeal, of_more, of_none, of_one, Change, Pieces, with_inners, ChangeAt, Ref, ref_of, word_of, anchor, SlotHolds, start, degree, Rebuild, unset_word, place_limit}
use Rattle.ist_core.specs.TreeTerms.{PlacedLeaf, WasLinked, CanRoot}
use Rattle.ist_core.proofs.AllLogLemmas.{change_read, same_change_word, change_there, grow_after, callers_low, few_draws}
use Rattle.ist_core.proofs.AllPlaceLemmas.{SlotNames, slot_names, side_names, names, anchor_free, slot_once, install_writes, place_writes, resolve_writes, slot_stays}
use Rattle.ist_core.proofs.AllWordLemmas.{no_value, same_change, ref_of-unset, degree-le, degree_is}
use Rattle.laws_links.proofs.ChangeLemmas.{install_free, node_was_linked, resolved_now}
use Rattle.laws_links.proofs.InductionLemmas.{sound_after, rebuilds_by}
use Rattle.laws_links.proofs.ReadLemmas.{side_plain}
use Rattle.laws_links.proofs.ReadStepLemmas.{Stood, slot_held, was_anchor, was_row}
use Rattle.laws_links.proofs.UntouchedLemmas.{was_linked_here}
use Rattle.laws_links.proofs.FormedLemmas.{rooted_is_finished}
use Rattle.laws_links.proofs.ContentLemmas.{finished_few}
use Rattle.laws_links.proofs.NewTreeLemmas.{ideal_set}

-- an ideal reference is no change
ideal_no_change : (ps : Pieces) (ref : Ref) (leaves : List PlacedLeaf) (above : ℕ) (rows : List ℕ)
    → IsIdeal ps ref leaves above rows → (base : ℕ) → Some ref ≢ Some (ChangeAt base)
ideal_no_change ps _ _ _ _ of_none base e = absurd (cc)
ideal_no_change ps _ _ _ _ (of_one same k) base e = absurd (cc)
ideal_no_change ps _ _ _ _ (of_more r top under) base e = absurd (cc)

module _ (pairs : List Pair) (words : ℕ) (opens : CanOpen pairs words) where
  -- if a slot that the event doesn't write holds the word of a change, it held it before
  kept_word : (log : Log) (event : Event) → EachEnabled (start pairs words) (event ∷ log)
      → (node i old word : ℕ) → SlotHolds (state_of pairs words (event ∷ log)) node i old
      → SlotHolds (state_of pairs words (event ∷ log)) node i word
      → SlotHolds (state_of pairs words log) node i old
      → SlotHolds (state_of pairs words log) node i word
  kept_word log event h node i old word stays now was =
      subst (λ w. SlotHolds (state_of pairs words log) node i w)
      (slot_once (state_of pairs words (event ∷ log)) node i old word (anchor_free pairs words (event ∷ log) h) stays now) was

  -- the word that a change leaves in its slot is no change
  side_no_change : (log : Log) → EachEnabled (start pairs words) log → (at : ℕ) (x : ChangeRow)
      → (state_of pairs words log).pieces at ≡ Some (Change x) → (base : ℕ)
      → ref_of (side_of x) ≢ Some (ChangeAt base)
  side_no_change log h at x e = let t = state_of pairs words log in
      let row = (names pairs words opens log h).rows at (Change x) e in
      side_plain t.pieces x.node x.index (ref_of (side_of x))
      (side_names t.pieces x.node x.index x row.0 row.1)

  -- if a change that was published is in its slot after the event, it was in the slot before
  stood_before : (log : Log) (event : Event) → EachEnabled (start pairs words) (event ∷ log)
      → (base : ℕ) (x : ChangeRow)
      → (state_of pairs words log).pieces base ≡ Some (Change x) → (node i old : ℕ)
      → SlotHolds (state_of pairs words log) node i old
      → SlotHolds (state_of pairs words (event ∷ log)) node i (word_of (ChangeAt base))
      → SlotHolds (state_of pairs words log) node i (word_of (ChangeAt base))
  stood_before log (Install caller at rows) h base x e node i old was now =
      let t = state_of pairs words log in
      let u = state_of pairs words (Install caller at rows ∷ log) in let can = h.1 in
      let writes = install_writes (start pairs words) log caller at rows can (sound_after pairs words log h.0) (anchor_free pairs words log h.0) in
      ⊎_elim
      (λ w.
      let here = subst (λ m. SlotHolds u m can.change.index (word_of (ChangeAt base))) w.1 (subst (λ j. SlotHolds u node j (word_of (ChangeAt base))) w.2 now) in
      let one = same_change_word base at (slot_once u can.change.node can.change.index (word_of (ChangeAt base)) (word_of (ChangeAt at)) (anchor_free pairs words (Install caller at rows ∷ log) h) here writes.now) in
      absurd (no_value (t.pieces at) (Change x) (install_free (start pairs words) log caller at rows can (sound_after pairs words log h.0)) (subst (λ b. t.pieces b ≡ Some (Change x)) one e)))
      (λ stays. kept_word log (Install caller at rows) h node i old (word_of (ChangeAt base)) stays now was)
      (writes.others node i old was)
  stood_before log (Resolve caller at) h base x e node i old was now =
      let t = state_of pairs words log in let u = state_of pairs words (Resolve caller at ∷ log) in
      let can = h.1 in
      let writes = resolve_writes t caller at can (anchor_free pairs words log h.0) in ⊎_elim
      (λ w.
      let here = subst (λ m. SlotHolds u m can.change.index (word_of (ChangeAt base))) w.1 (subst (λ j. SlotHolds u node j (word_of (ChangeAt base))) w.2 now) in
      let same = slot_once u can.change.node can.change.index (word_of (ChangeAt base)) (side_of can.change) (anchor_free pairs words (Resolve caller at ∷ log) h) here writes.now in
      absurd (side_no_change log h.0 at can.change can.published base (ap ref_of (sym same) ∙ change_read pairs words opens log h.0 base x e)))
      (λ stays. kept_word log (Resolve caller at) h node i old (word_of (ChangeAt base)) stays now was)
      (writes.others node i old was)
  stood_before log (Place caller rebuild j word rows) h base x e node i old was now =
      let t = state_of pairs words log in
      let u = state_of pairs words (Place caller rebuild j word rows ∷ log) in let can = h.1 in
      let writes = place_writes t caller rebuild j word rows can (sound_after pairs words log h.0) (anchor_free pairs words log h.0) in
      ⊎_elim
      (λ w.
      let here = subst (λ m. SlotHolds u m j (word_of (ChangeAt base))) w.1 (subst (λ k. SlotHolds u node k (word_of (ChangeAt base))) w.2 now) in
      let same = slot_once u can.root j (word_of (ChangeAt base)) word (anchor_free pairs words (Place caller rebuild j word rows ∷ log) h) here writes.now in
      let read : Some can.ref ≡ Some (ChangeAt base) =
      sym can.ref_is ∙ ap ref_of (sym same) ∙ change_read pairs words opens log h.0 base x e in
      absurd (ideal_no_change (with_inners t.pieces rows) can.ref can.part can.root (bases_of rows) can.ideal base read))
      (λ stays. kept_word log (Place caller rebuild j word rows) h node i old (word_of (ChangeAt base)) stays now was)
      (writes.others node i old was)
  stood_before log event h base x e node i old was now =
      kept_word log event h node i old (word_of (ChangeAt base)) (slot_stays (start pairs words)
      log event h.1 (sound_after pairs words log h.0) tt node i old was) now was

  -- a change that was resolved is published
  resolved_published : (log : Log) → EachEnabled (start pairs words) log → (base : ℕ)
      → Happened (Resolves base) log
      → (x : ChangeRow) × ((state_of pairs words log).pieces base ≡ Some (Change x))
  resolved_published [] h base happened = absurd happened
  resolved_published (event ∷ log) h base (inl now) =
      grind (arith, resolved_now, change_there, grow_after)
  resolved_published (event ∷ log) h base (inr before) =
      let it = resolved_published log h.0 base before in
      let on = change_there (state_of pairs words log).pieces (state_of pairs words (event ∷ log)).pieces (grow_after pairs words log event h) base it.0 it.1 in
      (on.0, on.1)

  -- the slot that a resolved change leaves holds its side
  left_now : (log : Log) (event : Event) → EachEnabled (start pairs words) (event ∷ log)
      → (base : ℕ) → Resolves base event → (node i : ℕ)
      → ¬ (SlotHolds (state_of pairs words (event ∷ log)) node i (word_of (ChangeAt base)))
  left_now log (Resolve caller at) h base is node i slot = let t = state_of pairs words log in
      let u = state_of pairs words (Resolve caller at ∷ log) in let can = h.1 in
      let on = change_there t.pieces u.pieces (grow_after pairs words log (Resolve caller at) h) at can.change can.published in
      let named : SlotNames u.pieces node i (Some (ChangeAt at)) =
      subst (λ o. SlotNames u.pieces node i o)
      (ap (λ b. ref_of (word_of (ChangeAt b))) (sym is) ∙ change_read pairs words opens (Resolve caller at ∷ log) h at on.0 on.1)
      (slot_names u node i (word_of (ChangeAt base)) (names pairs words opens (Resolve caller at ∷ log) h) slot) in
      let row = same_change (u.pieces at) on.0 named.row on.1 named.published in
      let n : node ≡ can.change.node =
      sym named.node_is ∙ ap (λ c. c.node) (sym row) ∙ ap (λ c. c.node) on.2.others in
      let j : i ≡ can.change.index =
      sym named.index ∙ ap (λ c. c.index) (sym row) ∙ ap (λ c. c.index) on.2.others in
      let here = subst (λ m. SlotHolds u m can.change.index (word_of (ChangeAt base))) n (subst (λ k. SlotHolds u node k (word_of (ChangeAt base))) j slot) in
      let writes = resolve_writes t caller at can (anchor_free pairs words log h.0) in
      let same = slot_once u can.change.node can.change.index (word_of (ChangeAt base)) (side_of can.change) (anchor_free pairs words (Resolve caller at ∷ log) h) here writes.now in
      side_no_change log h.0 at can.change can.published at
      (ap ref_of (sym same) ∙ ap (λ b. ref_of (word_of (ChangeAt b))) (sym is) ∙ change_read pairs words opens log h.0 at can.change can.published)
  left_now log _ h base is node i slot = absurd is

  -- a change that was resolved is in no slot
  pub resolved_gone : (log : Log) → EachEnabled (start pairs words) log → (base : ℕ)
      → Happened (Resolves base) log
      → (node i : ℕ) → ¬ (SlotHolds (state_of pairs words log) node i (word_of (ChangeAt base)))
  resolved_gone [] h base happened node i slot = absurd happened
  resolved_gone (event ∷ log) h base (inl now) node i slot =
      left_now log event h base now node i slot
  resolved_gone (event ∷ log) h base (inr before) node i slot = let t = state_of pairs words log in
      let u = state_of pairs words (event ∷ log) in
      let x = resolved_published log h.0 base before in
      let on = change_there t.pieces u.pieces (grow_after pairs words log event h) base x.0 x.1 in
      let named : SlotNames u.pieces node i (Some (ChangeAt base)) =
      subst (λ o. SlotNames u.pieces node i o) (change_read pairs words opens (event ∷ log) h base on.0 on.1) (slot_names u node i (word_of (ChangeAt base)) (names pairs words opens (event ∷ log) h) slot) in
      let row = same_change (u.pieces base) on.0 named.row on.1 named.published in
      let n : x.0.node ≡ node =
      sym (ap (λ c. c.node) on.2.others) ∙ ap (λ c. c.node) row ∙ named.node_is in
      let was = subst (λ m. WasLinked (start pairs words) log m) n (node_was_linked pairs words opens log h.0 base x.0 x.1) in
      let old = slot_held pairs words opens log event h node i (word_of (ChangeAt base)) (stood log h.0 node was (eqb_tells node anchor)) slot in
      resolved_gone log h.0 base before node i
      (stood_before log event h base x.0 x.1 node i old.0 old.1 slot)
    where
      stood : (log : Log) → EachEnabled (start pairs words) log → (node : ℕ)
          → WasLinked (start pairs words) log node → (((node == anchor) ≡ true) × (node ≡ anchor))
          ⊎ (((node == anchor) ≡ false) × (node ≢ anchor)) → Stood pairs words opens log node
      stood log h node was (inl k) = was_anchor k.1
      stood log h node was (inr k) = was_row (was_linked_here pairs words opens log h node k.1 was)

-- ---- the draw word of a rebuild is low: its target has at most as many leaves as a table has places.
-- Serves `laws.draws_stay_low`.

-- a node has at most two children, or at most as many as keys
degree_low : (k n : ℕ) → 2 ≤ n → k ≤ n → degree k ≤ n
degree_low zero n two low =
    let is = degree_is 0 0 (omega arith) (omega arith) in let most : max 2 0 ≡ 2 = refl in omega arith
degree_low (suc zero) n two low =
    let is = degree_is 1 1 (omega arith) (omega arith) in let most : max 2 1 ≡ 2 = refl in omega arith
degree_low (suc (suc k)) n two low = let few = degree-le (suc (suc k)) (omega arith) in omega arith

module _ (pairs : List Pair) (words : ℕ) (opens : CanOpen pairs words) where
  -- the word of a new root is set
  root_comes_set : (log : Log) (caller base word : ℕ) (rows : List Row)
      → CanRoot (state_of pairs words log) caller base word rows → word ≢ unset_word
  root_comes_set log caller base word rows can none = grind (arith, ideal_set, ref_of-unset)

  -- a rebuild without a root was never drawn
  rootless_undrawn : (log : Log) → EachEnabled (start pairs words) log → (base : ℕ) (r : RebuildRow)
      → (state_of pairs words log).pieces base ≡ Some (Rebuild r) → r.root ≡ unset_word → r.draw ≡ 0
  rootless_undrawn = rebuilds_by pairs words (λ log base r. r.root ≡ unset_word → r.draw ≡ 0)
      (λ log event h base r old there before none. before none)
      (λ log caller change rows h can s none. refl)
      (λ log caller base word rows h can before none. absurd (root_comes_set log caller base word rows can none))
      (λ log caller base part h can before none. absurd (can.rooted none))

  -- a draw word is at most the number of places plus the number of callers
  pub draw_low : (log : Log) → EachEnabled (start pairs words) log → (base : ℕ) (r : RebuildRow)
      → (state_of pairs words log).pieces base ≡ Some (Rebuild r)
      → r.draw ≤ place_limit + caller_limit
  draw_low log h base r e = at (eqb_tells r.root unset_word)
    where
      at : (((r.root == unset_word) ≡ true) × (r.root ≡ unset_word))
          ⊎ (((r.root == unset_word) ≡ false) × (r.root ≢ unset_word))
          → r.draw ≤ place_limit + caller_limit
      at (inl none) = let undrawn = rootless_undrawn log h base r e none.1 in omega arith
      at (inr set) = let f = rooted_is_finished pairs words log h base r e set.1 in
          let k = finished_few pairs words opens log h r.target f.0 f.1 in
          let few = few_draws pairs words base (degree f.0) log h r f.0 e f.1 refl in
          let most = degree_low f.0 place_limit (lit≤ tt) k in
          let callers = callers_low pairs words log h in omega arith
