-- Decided changes after an event: they stay, and only a Decide makes one. Serves `starting.rt`.
use Rattle.std.proofs.Common.{◌≡◌, ◌≢◌, ◌∙◌, ◌⊎◌, ℕ, Bool, List, ◌∷◌, Some, refl, ap, inl, inr, ⊎_elim, option_map, arith}
use Rattle.ist_core.specs.declared.lists.Row.{Row}
use Rattle.ist_core.specs.declared.states.ChangeRow.{ChangeRow}
use Rattle.ist_core.specs.declared.events.Event.{Event}
use Rattle.ist_core.specs.declared.events.Event.TheVariants.{Install, Decide, Resolve, Count, Mark, Finish, Root, Draw, Place}
use Rattle.ist_core.specs.WordTerms.{undecided, finished_word, Pieces, Piece, Leaf, Inner, Change, Rebuild, with_inners, changed_at, with_slot, with_status, counted, with_root, drawn}
use Rattle.ist_core.specs.LogTerms.{Among, Each, Snapshot, bases_of, after, decision_word, Log, state, Enabled}
use Rattle.ist_core.specs.TreeTerms.{pair_row, FitsKind, a_put, a_pair, a_remove, a_start, a_finish, CanDecide, IsFinishedWith, CanFinish}
use Rattle.ist_core.proofs.AllWordLemmas.{each-among, changed_at-some, changed_at-same}
use Rattle.ist_core.proofs.AllEventLemmas.{HeldLieApart, with_installed, IsInstalledWith, adds_install, adds-with_inners, rows_resolved, rows_placed, holds_installed, known, grow_step}
use Rattle.ist_core.proofs.AllLogLemmas.{change_there, finished_by}
use Rattle.ist_core.proofs.AllPlaceLemmas.{IsTreeRow, root_tree, tree_of_ideal, tree_rows}

-- ---- fresh rows are undecided

-- the decision of a change, and undecided of any other row
abbrev decision_in : Piece → ℕ
decision_in (Change r) = r.decision
decision_in _ = undecided

pair_fresh : (key base other_key other : ℕ) → decision_in (pair_row key base other_key other)
    ≡ undecided
pair_fresh key base other_key other = grind arith

installed_fresh : (first : Snapshot) (log : Log) (at : ℕ) (change : ChangeRow) (fresh : List Row)
    (fits : FitsKind first log change fresh) (base : ℕ) (p : Piece) → change.decision ≡ undecided
    → IsInstalledWith first log at change fresh fits base p → decision_in p ≡ undecided
installed_fresh first log at change fresh fits base p unset (inl h) = ap decision_in h.1 ∙ unset
installed_fresh first log at change fresh (a_put f) base p unset (inr h) = ap decision_in h.1
installed_fresh first log at change fresh (a_pair f) base p unset (inr (inl h)) = ap decision_in h.1
    ∙ pair_fresh change.key f.leaf f.other_key f.other
installed_fresh first log at change fresh (a_pair f) base p unset (inr (inr h)) = ap decision_in h.1
installed_fresh first log at change fresh (a_remove f) base p unset (inr h) = absurd h
installed_fresh first log at change fresh (a_start f) base p unset (inr h) = ap decision_in h.1
installed_fresh first log at change fresh (a_finish f) base p unset (inr h) = absurd h

tree_fresh : (ps : Pieces) (rows : List ℕ) (base : ℕ) (p : Piece) → Each (IsTreeRow ps) rows
    → Among base rows → ps base ≡ Some p → decision_in p ≡ undecided
tree_fresh ps rows base p all i e = grind (arith, each-among, IsTreeRow, known)

-- ---- what each write does to a change

-- a change after the write is one before it
abbrev KeepsEachChange : (Piece → Piece) → Type 0
KeepsEachChange f = (p : Piece) (r : ChangeRow) → f p ≡ Change r → p ≡ Change r

slot_keeps : (i word : ℕ) → KeepsEachChange (with_slot i word)
slot_keeps i word (Inner r) s e = absurd (cc)
slot_keeps i word (Leaf r) s e = e
slot_keeps i word (Change r) s e = e
slot_keeps i word (Rebuild r) s e = e

status_keeps : (status : ℕ) → KeepsEachChange (with_status status)
status_keeps status (Inner r) s e = absurd (cc)
status_keeps status (Leaf r) s e = e
status_keeps status (Change r) s e = e
status_keeps status (Rebuild r) s e = e

root_keeps : (word : ℕ) → KeepsEachChange (with_root word)
root_keeps word (Inner r) s e = e
root_keeps word (Leaf r) s e = e
root_keeps word (Change r) s e = e
root_keeps word (Rebuild r) s e = absurd (cc)

counted_keeps : KeepsEachChange counted
counted_keeps (Inner r) s e = absurd (cc)
counted_keeps (Leaf r) s e = e
counted_keeps (Change r) s e = e
counted_keeps (Rebuild r) s e = e

drawn_keeps : KeepsEachChange drawn
drawn_keeps (Inner r) s e = e
drawn_keeps (Leaf r) s e = e
drawn_keeps (Change r) s e = e
drawn_keeps (Rebuild r) s e = absurd (cc)

-- ---- an event

-- each decided change of the second was the same in the first
abbrev DecidedCame : Pieces → Pieces → Type 0
DecidedCame ps qs = (base : ℕ) (r : ChangeRow) → qs base ≡ Some (Change r) → r.decision ≢ undecided
    → ps base ≡ Some (Change r)

came_changed : (ps xs qs : Pieces) (at : ℕ) (f : Piece → Piece) → qs ≡ changed_at xs at f → KeepsEachChange f
    → DecidedCame ps xs → DecidedCame ps qs
came_changed ps xs qs at f pieces keeps old base r e d = grind (arith, changed_at-some)

came_added : (ps qs : Pieces)
    → ((base : ℕ) (q : Piece) → qs base ≡ Some q → (ps base ≡ Some q) ⊎ (decision_in q ≡ undecided))
    → DecidedCame ps qs
came_added ps qs from base r e d = ⊎_elim (λ k. k) (λ k. absurd (d k)) (from base (Change r) e)

-- only a Decide decides a change
pub came_step : (first : Snapshot) (log : Log) (event : Event) → Enabled first log event
    → HeldLieApart (state first log) → ((c b : ℕ) (x : Bool) → event ≢ Decide c b x)
    → DecidedCame (state first log).pieces (state first (event ∷ log)).pieces
came_step first log (Install caller base rows) h s other =
    grind (
      arith,
      with_installed,
      adds_install,
      holds_installed,
      came_changed,
      slot_keeps,
      came_added,
      installed_fresh,
    )
came_step first log (Resolve caller base) h s other =
    grind (arith, came_changed, rows_resolved, slot_keeps)
came_step first log (Root caller at word rows) h s other = let t = state first log in
    let qs = with_inners t.pieces rows in let adds = adds-with_inners t caller rows h.held s in
    let tree = root_tree qs word h.k h.leaves h.row.target (bases_of rows) h.root in
    came_changed t.pieces qs (changed_at qs at (with_root word)) at (with_root word) refl
    (root_keeps word)
    (came_added t.pieces qs (λ b q e. ⊎_elim (λ k. inl k)
    (λ k. inr (tree_fresh qs (bases_of rows) b q (tree_rows qs tree.0 h.row.target
    (bases_of rows) tree.2) k e)) (adds.from b q e)))
came_step first log (Place caller at i word rows) h s other = let t = state first log in
    let qs = with_inners t.pieces rows in let adds = adds-with_inners t caller rows h.held s in
    let tree = tree_of_ideal qs h.ref h.part h.root (bases_of rows) h.ideal in
    came_changed t.pieces qs (after t (Place caller at i word rows)).pieces h.root
    (with_slot i word) (rows_placed t caller at i word rows h) (slot_keeps i word)
    (came_added t.pieces qs (λ b q e. ⊎_elim (λ k. inl k)
    (λ k. inr (tree_fresh qs (bases_of rows) b q (tree_rows qs h.ref h.root (bases_of rows)
    tree) k e)) (adds.from b q e)))
came_step first log (Draw caller at part) h s other = grind (arith, came_changed, drawn_keeps)
came_step first log (Count caller at) h s other = grind (arith, came_changed, counted_keeps)
came_step first log (Decide caller base said) h s other = absurd (other caller base said refl)
came_step first log (Mark caller at) h s other = grind (arith, came_changed, status_keeps)
came_step first log (Finish caller at keys) h s other = grind (arith, came_changed, status_keeps)
came_step first log _ h s other = λ b r e d. e

-- a change after a Decide was the same before, or is the decided one
pub came_decided : (first : Snapshot) (log : Log) (caller base : ℕ) (said : Bool)
    → (h : CanDecide (state first log) log caller base said) → (b : ℕ) (r : ChangeRow)
    → (state first (Decide caller base said ∷ log)).pieces b ≡ Some (Change r)
    → ((state first log).pieces b ≡ Some (Change r))
    ⊎ ((b ≡ base) × (r ≡ record (h.change) { decision = decision_word said }))
came_decided first log caller base said h b r e = grind (arith, changed_at-some)

decided_as : ℕ → ChangeRow → ChangeRow
decided_as decision r = record r { decision = decision }

-- a decided change stays as it is
pub decided_stays : (first : Snapshot) (log : Log) (event : Event) → Enabled first log event
    → HeldLieApart (state first log) → (base : ℕ) (r : ChangeRow) → (state first log).pieces base
    ≡ Some (Change r)
    → r.decision ≢ undecided → (state first (event ∷ log)).pieces base ≡ Some (Change r)
unfolding decided_as
decided_stays first log event h s base r e d =
    let on = change_there (state first log).pieces (state first (event ∷ log)).pieces
    (grow_step first log event h s) base r e in
    let grown = on.2 in
    let same : on.0 ≡ r = ap (λ x. decided_as x on.0) (grown.decided d) ∙ ap (decided_as r.decision)
    grown.others in
    on.1 ∙ ap (λ x. Some (Change x)) same

-- ---- finished rows after an event: only a Finish makes one. Serves `targeting.rt`.

-- the event finishes the node with k keys
abbrev pub FinishesNode : ℕ → ℕ → Event → Type 0
FinishesNode node k (Finish caller at keys) = (at ≡ node) × (keys ≡ k)
FinishesNode node k _ = ⊥

-- a node finished after an event was finished before, or the event finishes it
pub finished_before : (first : Snapshot) (log : Log) (node k : ℕ) (event : Event)
    → Enabled first log event → HeldLieApart (state first log)
    → IsFinishedWith (state first (event ∷ log)) node k
    → IsFinishedWith (state first log) node k ⊎ FinishesNode node k event
finished_before first log node k event h s f = grind (arith, finished_by)

-- after a Finish the node is finished
pub finished_now : (first : Snapshot) (log : Log) (caller node k : ℕ)
    → CanFinish (state first log) log caller node k
    → IsFinishedWith (state first (Finish caller node k ∷ log)) node k
finished_now first log caller node k h = let t = state first log in record {
  row = record (h.row) { status = finished_word k };
  published = changed_at-same t.pieces node (with_status (finished_word k))
      ∙ ap (option_map (with_status (finished_word k))) h.published;
  status = refl;
}
