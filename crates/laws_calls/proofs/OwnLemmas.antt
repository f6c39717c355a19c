-- Changes and the callers that install them. Serves the laws on owners.
use Rattle.std.proofs.Common.{List, Some, ap, inl, inr, refl, subst, sym, ℕ, ⊎_elim, ◌∙◌, ◌∷◌, ◌≡◌, ◌≢◌, ◌⊎◌, None, arith, false, length, slice_get, true, ◌*◌, ◌+◌, ◌==◌}
use Rattle.ist_core.specs.declared.events.Event.TheVariants.{Decide, Install}
use Rattle.ist_core.specs.declared.events.Event.{Event}
use Rattle.ist_core.specs.declared.events.Who.TheVariants.{Caller}
use Rattle.ist_core.specs.declared.pairs.Pair.{Pair}
use Rattle.ist_core.specs.declared.states.ChangeRow.{ChangeRow}
use Rattle.ist_core.specs.declared.states.InnerRow.{InnerRow}
use Rattle.ist_core.specs.LogTerms.{Later, whose, no_more, one_more, CanOpen, EachEnabled, state_of, GoesOn, Log, one_event, same_log, side_of, Snapshot}
use Rattle.ist_core.specs.TreeTerms.{AllResolvedOf, PlacedLeaf, WasLinked, IsStarted}
use Rattle.ist_core.specs.WordTerms.{Change, start, IsIdeal, of_more, of_none, of_one, Inner, Leaf, Piece, Pieces, Rebuild, ChangeAt, RebuildAt, Ref, ref_of, word_of, SlotHolds, in_anchor, in_row, decided_yes, start_kind}
use Rattle.ist_core.proofs.AllLogLemmas.{enabled_before, goes_on_by, side_not_yes, change_there, inner_there, leaf_there, rebuild_there, grow_after}
use Rattle.laws_links.proofs.ChangeLemmas.{undecided_unresolved, node_was_linked}
use Rattle.laws_links.proofs.ComesLemmas.{change_comes}
use Rattle.laws_links.proofs.PassLemmas.{ChangeComes, change_was, is_decided, is_installed}
use Rattle.laws_stability.proofs.OwnLemmas.{own_was}
use Rattle.laws_calls.specs.Owning.{HasChange, WasInstalled}
use Rattle.std.proofs.lemmas.Bool.Decides.{eqb_tells}
use Rattle.std.proofs.lemmas.Option.{slice_get_cases, slice_get_within}
use Rattle.ist_core.proofs.AllPlaceLemmas.{RootNames, SlotNames, WordsName, names}
use Rattle.ist_core.proofs.AllWordLemmas.{word_of-ref_of, no_value, same_inner}
use Rattle.laws_links.proofs.FormLemmas.{IsFormed, of_finish, of_leaf_put, of_pair_put, of_remove, of_start}
use Rattle.laws_links.proofs.FormedLemmas.{changes_are_formed}
use Rattle.laws_links.proofs.ReadLemmas.{side_yes}
use Rattle.laws_links.proofs.UntouchedLemmas.{not_the_anchor, was_linked_here}
use Rattle.laws_links.proofs.StartingLemmas.{finish_of}
use Rattle.laws_calls.proofs.SettledLemmas.{has_start}

module _ (pairs : List Pair) (words : ℕ) where
  -- ---- where changes come from

  -- an Install after the earlier log is also one in a longer log
  installed_on : (earlier log : Log) (event : Event) (caller base : ℕ)
      → WasInstalled earlier log caller base → WasInstalled earlier (event ∷ log) caller base
  installed_on earlier log event caller base w =
      record { at = w.at; rows = w.rows; since = w.since; until = one_event event w.until }

  -- a change was there before, or was installed since by its owner
  pub change_since : (earlier log : Log) → GoesOn earlier log → EachEnabled (start pairs words) log
      → (base : ℕ) (x : ChangeRow) → (state_of pairs words log).pieces base ≡ Some (Change x)
      → HasChange (state_of pairs words earlier) base ⊎ WasInstalled earlier log x.owner base
  change_since earlier _ same_log h base x e = inl (x, e)
  change_since earlier _ (one_event {log = log} event on) h base x e =
      at event (change_comes pairs words log event h base x e)
      (λ y old. change_since earlier log on h.0 base y old)
    where
      Found : Event → Type 0
      Found event = HasChange (state_of pairs words earlier) base
          ⊎ WasInstalled earlier (event ∷ log) x.owner base

      before : (event : Event) (y : ChangeRow) → y.owner ≡ x.owner
          → HasChange (state_of pairs words earlier) base ⊎ WasInstalled earlier log y.owner base
          → HasChange (state_of pairs words earlier) base
          ⊎ WasInstalled earlier (event ∷ log) x.owner base
      before event y same found = grind (arith, installed_on)

      at : (event : Event) → ChangeComes (start pairs words) log base x event
          → ((y : ChangeRow) → (state_of pairs words log).pieces base ≡ Some (Change y)
          → HasChange (state_of pairs words earlier) base ⊎ WasInstalled earlier log y.owner base)
          → HasChange (state_of pairs words earlier) base
          ⊎ WasInstalled earlier (event ∷ log) x.owner base
      at event (change_was old) rest = before event x refl (rest x old)
      at _ (is_installed {caller = caller} {rows = rows} can is) rest = inr
          (subst (λ c. WasInstalled earlier (Install caller base rows ∷ log) c base)
          (sym can.owned ∙ ap (λ y. y.owner) (sym is))
          record { at = log; rows = rows; since = on; until = same_log })
      at _ (is_decided {caller = caller} {said = said} can is) rest =
          before (Decide caller base said) can.change (ap (λ y. y.owner) (sym is))
          (rest can.change can.pending.published)

  -- if only others made further events, the change was there before
  pub others_none : (earlier log : Log) (caller : ℕ) → Later (Caller caller) earlier log
      → EachEnabled (start pairs words) log → (base : ℕ) (x : ChangeRow)
      → (state_of pairs words log).pieces base ≡ Some (Change x) → x.owner ≡ caller
      → HasChange (state_of pairs words earlier) base
  others_none earlier log caller later h base x e own =
      let it = own_was pairs words caller later h base x e own in (it.old, it.published)

module _ (pairs : List Pair) (words : ℕ) (opens : CanOpen pairs words) where
  -- if all changes of a caller were resolved, each is what it was
  pub own_change_stays : (earlier : Log) (caller : ℕ) (log : Log)
      → Later (Caller caller) earlier log → EachEnabled (start pairs words) log
      → AllResolvedOf (state_of pairs words earlier) earlier caller
      → (base : ℕ) (x : ChangeRow) → (state_of pairs words log).pieces base ≡ Some (Change x)
      → x.owner ≡ caller → (state_of pairs words earlier).pieces base ≡ Some (Change x)
  own_change_stays earlier caller _ no_more h resolved base x e own = e
  own_change_stays earlier caller _ (one_more {log = log} event later other) h resolved base x e own
      =
      at event h other (change_comes pairs words log event h base x e)
      (λ y old mine. own_change_stays earlier caller log later h.0 resolved base y old mine)
    where
      at : (event : Event) → EachEnabled (start pairs words) (event ∷ log)
          → whose event ≢ Caller caller → ChangeComes (start pairs words) log base x event
          → ((y : ChangeRow) → (state_of pairs words log).pieces base ≡ Some (Change y)
          → y.owner ≡ caller → (state_of pairs words earlier).pieces base ≡ Some (Change y))
          → (state_of pairs words earlier).pieces base ≡ Some (Change x)
      at event all else_by (change_was old) before = before x old own
      at _ all else_by (is_installed {caller = by} k is) before = grind arith
      at _ all else_by (is_decided k is) before =
          let old = before k.change k.pending.published (ap (λ y. y.owner) (sym is) ∙ own) in
          let happened = resolved base k.change old (ap (λ y. y.owner) (sym is) ∙ own) in absurd
          (undecided_unresolved pairs words opens earlier (enabled_before (start pairs words)
          earlier log (goes_on_by later) all.0) base k.change old k.pending.unset happened)

-- ---- the side of a change that is a rebuild, and what a slot that names one held before. Serves the
-- start law.

-- ---- the word that an event writes into a slot

-- the words differ: the first names a rebuild, and the second no row of that kind
pub no_rebuild_of_change : (base rebuild : ℕ)
    → ref_of (word_of (ChangeAt base)) ≡ Some (RebuildAt rebuild) → ⊥
no_rebuild_of_change base rebuild e =
    let same : rebuild * 8 + 4 ≡ base * 8 + 3 =
    (word_of-ref_of (word_of (ChangeAt base)) (RebuildAt rebuild) e).same_word in
    omega arith

-- an ideal subtree is no rebuild
pub ideal_no_rebuild : (ps : Pieces) (ref : Ref) (leaves : List PlacedLeaf) (above : ℕ)
    (rows : List ℕ) → IsIdeal ps ref leaves above rows → (rebuild : ℕ) → ref ≢ RebuildAt rebuild
ideal_no_rebuild ps _ _ above _ of_none rebuild e = cc
ideal_no_rebuild ps _ _ above _ (of_one a b) rebuild e = cc
ideal_no_rebuild ps _ _ above _ (of_more r a b) rebuild e = cc

-- a change that puts a rebuild in is a start
start_of : (t : Snapshot) → WordsName t → (x : ChangeRow) (rebuild : ℕ) → IsFormed t x
    → ref_of x.to ≡ Some (RebuildAt rebuild) → x.kind ≡ start_kind
start_of t o x rebuild (of_leaf_put f) to = absurd (cc (sym f.to ∙ to))
start_of t o x rebuild (of_pair_put f) to = absurd (cc (sym f.to ∙ to))
start_of t o x rebuild (of_remove f) to = absurd (cc (sym f.to ∙ to))
start_of t o x rebuild (of_start f) to = f.kind
start_of t o x rebuild (of_finish f) to = let row = o.rows f.rebuild (Rebuild f.row) f.published in
    absurd (subst (λ r. RootNames t.pieces f.row.target r) (ap ref_of (sym f.to) ∙ to) row.2)

module _ (pairs : List Pair) (words : ℕ) (opens : CanOpen pairs words) where
  -- ---- sides of changes

  -- if the side of a change is a rebuild, the rebuild was started
  pub side_started : (log : Log) → EachEnabled (start pairs words) log → (base : ℕ) (x : ChangeRow)
      → (state_of pairs words log).pieces base ≡ Some (Change x) → (rebuild : ℕ)
      → ref_of (side_of x) ≡ Some (RebuildAt rebuild) → IsStarted (state_of pairs words log) rebuild
  side_started log h base x e rebuild reads = at (eqb_tells x.decision decided_yes)
    where
      t : Snapshot
      t = state_of pairs words log

      formed : IsFormed t x
      formed = changes_are_formed pairs words log h base x e

      at : (((x.decision == decided_yes) ≡ true) × (x.decision ≡ decided_yes))
          ⊎ (((x.decision == decided_yes) ≡ false) × (x.decision ≢ decided_yes))
          → IsStarted t rebuild
      at (inl said) = let to = ap ref_of (sym (side_yes x said.1)) ∙ reads in record {
        base = base;
        change = x;
        published = e;
        kind = start_of t (names pairs words opens log h) x rebuild formed to;
        decision = said.1;
        to = to;
      }
      at (inr unsaid) = grind (arith, finish_of, t, formed, side_not_yes)

  -- ---- slots of rows that are published now

  -- the node of a rebuild's start was linked before the event
  start_node_linked : (log : Log) (event : Event) → EachEnabled (start pairs words) (event ∷ log)
      → (base : ℕ) (x : ChangeRow)
      → (state_of pairs words (event ∷ log)).pieces base ≡ Some (Change x)
      → WasLinked (start pairs words) log x.node
  start_node_linked log event h base x e = at event (change_comes pairs words log event h base x e)
    where
      at : (event : Event) → ChangeComes (start pairs words) log base x event
          → WasLinked (start pairs words) log x.node
      at event (change_was old) = node_was_linked pairs words opens log h.0 base x old
      at _ (is_installed can is) = grind arith
      at _ (is_decided can is) = grind (arith, node_was_linked)

  -- so a row with a slot that names a rebuild was there before the event
  pub rebuild_slot_old : (log : Log) (event : Event) → EachEnabled (start pairs words) (event ∷ log)
      → (node i word rebuild : ℕ) (r : InnerRow)
      → (state_of pairs words (event ∷ log)).pieces node ≡ Some (Inner r)
      → slice_get r.slots i ≡ Some word → ref_of word ≡ Some (RebuildAt rebuild)
      → (state_of pairs words log).pieces node ≡ None → ⊥
  rebuild_slot_old log event h node i word rebuild r e slot is none =
      let u = state_of pairs words (event ∷ log) in
      let named = subst (λ o. SlotNames u.pieces node i o) is
      ((names pairs words opens (event ∷ log) h).rows node (Inner r) e i word slot) in
      let begun = has_start pairs words (event ∷ log) h rebuild named.row named.published in
      let here = begun.1.node ∙ named.parent in
      let was = subst (λ n. WasLinked (start pairs words) log n) here
      (start_node_linked log event h begun.0 begun.1.change begun.1.published) in
      let old = was_linked_here pairs words opens log h.0 node
      (not_the_anchor pairs words opens (event ∷ log) h node r e) was in
      no_value ((state_of pairs words log).pieces node) (Inner old.0) none old.1

  -- ---- what a slot held before an event

  -- a slot of a row that was there before held some word
  row_slot_before : (log : Log) (event : Event) → EachEnabled (start pairs words) (event ∷ log)
      → (node i word : ℕ) (r : InnerRow) (p : Piece)
      → (state_of pairs words (event ∷ log)).pieces node ≡ Some (Inner r)
      → slice_get r.slots i ≡ Some word → (state_of pairs words log).pieces node ≡ Some p
      → (old : ℕ) × SlotHolds (state_of pairs words log) node i old
  row_slot_before log event h node i word r (Inner s) e slot there =
      let t = state_of pairs words log in let u = state_of pairs words (event ∷ log) in
      let it = inner_there t.pieces u.pieces (grow_after pairs words log event h) node s there in
      let same = same_inner (u.pieces node) it.0 r it.1 e in let long = it.2.slots in
      let longer = ap (λ x. length x.slots) same in
      let within = slice_get_within r.slots i word slot in
      ⊎_elim (λ k. (k.0, in_row s there k.2)) (λ k. (let past = k.0 in absurd (omega arith)))
      (slice_get_cases s.slots i).1
  row_slot_before log event h node i word r (Leaf s) e slot there =
      let it = leaf_there (state_of pairs words log).pieces
      (state_of pairs words (event ∷ log)).pieces (grow_after pairs words log event h) node s
      there in
      let both : Some (Leaf s) ≡ Some (Inner r) = sym it ∙ e in absurd (cc)
  row_slot_before log event h node i word r (Change s) e slot there =
      let it = change_there (state_of pairs words log).pieces
      (state_of pairs words (event ∷ log)).pieces (grow_after pairs words log event h) node s
      there in
      let both : Some (Change it.0) ≡ Some (Inner r) = sym it.1 ∙ e in absurd (cc)
  row_slot_before log event h node i word r (Rebuild s) e slot there =
      let it = rebuild_there (state_of pairs words log).pieces
      (state_of pairs words (event ∷ log)).pieces (grow_after pairs words log event h) node s
      there in
      let both : Some (Rebuild it.0) ≡ Some (Inner r) = sym it.1 ∙ e in absurd (cc)

  -- a slot that names a rebuild held some word
  pub slot_before : (log : Log) (event : Event) → EachEnabled (start pairs words) (event ∷ log)
      → (node i word rebuild : ℕ) → SlotHolds (state_of pairs words (event ∷ log)) node i word
      → ref_of word ≡ Some (RebuildAt rebuild)
      → (old : ℕ) × SlotHolds (state_of pairs words log) node i old
  slot_before log event h node i word rebuild (in_anchor a b e) is =
      ((state_of pairs words log).anchor, in_anchor a b refl)
  slot_before log event h node i word rebuild (in_row r e slot) is =
      grind (arith, rebuild_slot_old, row_slot_before)
