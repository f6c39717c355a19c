-- Whose a held row is. Serves the laws on what callers hold while others make events.
use Rattle.std.proofs.Common.{◌≡◌, ℕ, List, [], ◌∷◌, length, Option, Some, None, refl, sym, ap, subst, inl, inr, ⊎_elim, ◌<◌, ◌++◌, ◌∙◌, arith, ◌+◌}
use Rattle.ist_core.specs.Types.{HeldRow, Row, ChangeRow, Event, Enter, Reserve, Install, Okay, Decide, Resolve, Count, Mark, Pass, Finish, Root, Draw, Place, Lose, Pair}
use Rattle.ist_core.specs.LogTerms.{Among, Log, Snapshot, bases_of, HoldsRow, HoldsRows, resolved, Each, sizes_held, after, decision_word, side_of, placed, with_part, state, Enabled, CanReserve, reserved_by, with_change, installed, Lawful, EachEnabled, state_of, spent}
use Rattle.ist_core.specs.TreeTerms.{HoldsSizes, CanLose, PlacedLeaf, CanInstall, CanRoot, CanPlace, IsRoot}
use Rattle.ist_core.proofs.OptionLemmas.{each-among, each-append}
use Rattle.ist_core.proofs.SplitLemmas.{row_among, LiesAt, publishes-with_inners, ideal_stands, root_rows}
use Rattle.ist_core.proofs.MoveLemmas.{HeldLieApart, Moves, moves_same, moves_changed, moves_lost, moves_published}
use Rattle.ist_core.specs.WordTerms.{ChangeAt, word_of, marked_word, finished_word, Pieces, Inner, Change, row_at, as_change, as_rebuild, with_inners, with_slot, with_status, counted, with_decision, with_root, drawn, change_of, start}
use Rattle.ist_core.proofs.SizeLemmas.{size_of-with_slot, size_of-with_status, size_of-with_decision, size_of-with_root, size_of-counted, size_of-drawn, fair_positive}
use Rattle.ist_core.proofs.InstallLemmas.{with_installed, publishes_install}

-- a held row at a base of rows that a caller holds is that caller's
pub rows_holder : (t : Snapshot) (caller : ℕ) (rows : List Row) → HeldLieApart t → HoldsRows t caller rows
    → (h : HeldRow) → Among h t.held → Among h.base (bases_of rows) → h.caller ≡ caller
rows_holder t caller rows s held h i among = let it = row_among h.base rows among in
    ap (λ x. x.caller)
    (s.once h record { caller = caller; base = it.0.base; size = length it.0.words } i
    (each-among (λ x. HoldsRow t caller x.base (length x.words)) it.0 rows held it.1) (sym it.2))

-- the same for bases with sizes
sizes_holder : (t : Snapshot) (caller : ℕ) (bases sizes : List ℕ) → HeldLieApart t
    → HoldsSizes t caller bases sizes → (h : HeldRow) → Among h t.held → Among h.base bases
    → h.caller ≡ caller
sizes_holder t caller [] sizes s held h i among = absurd among
sizes_holder t caller (base ∷ bases) [] s held h i among = absurd held
sizes_holder t caller (base ∷ bases) (size ∷ sizes) s held h i (inl e) =
    ap (λ x. x.caller) (s.once h record { caller = caller; base = base; size = size } i held.0 e)
sizes_holder t caller (base ∷ bases) (size ∷ sizes) s held h i (inr more) =
    sizes_holder t caller bases sizes s held.1 h i more

-- what is lost is the caller's own
pub lost_holder : (t : Snapshot) (log : Log) (caller : ℕ) (bases : List ℕ) → HeldLieApart t
    → CanLose t log caller bases → (h : HeldRow) → Among h t.held → Among h.base bases
    → h.caller ≡ caller
lost_holder t log caller bases s can h i among = ⊎_elim
    (λ p. sizes_holder t caller (p.pair ∷ []) (_ ∷ []) s (p.held, tt) h i
    (subst (Among h.base) p.bases_are among))
    (λ b. sizes_holder t caller bases b.sizes s b.held h i among) can.cause

-- a Resolve changes nothing of what is held
pub held-resolved : (t : Snapshot) (change : Option ChangeRow) → (resolved t change).held ≡ t.held
held-resolved t None = refl
held-resolved t (Some change) = refl

-- ---- what each event does to rows, and that held rows lie apart after a lawful log. Serves
-- `laws.rows_are_known`.

-- a reserved row has a word
pub reserve_positive : (t : Snapshot) (caller base size : ℕ) → CanReserve t caller base size
    → 0 < size
reserve_positive t caller base size h =
    (each-append (λ n. 0 < n) (sizes_held t caller) (size ∷ [])
    (fair_positive t (sizes_held t caller ++ size ∷ []) h.fair)).1.0

moves_install : (first : Snapshot) (log : Log) (caller base : ℕ) (rows : List Row)
    → CanInstall first log caller base rows → HeldLieApart (state first log)
    → Moves (state first log) (after (state first log) (Install caller base rows))
    (Install caller base rows)
moves_install first log caller base rows h sound =
    subst (λ rs. Moves (state first log) (after (state first log) (Install caller base rs))
    (Install caller base rs)) (sym h.rows_are)
    (moves_published (state first log) caller (row_at base (Change h.change) ∷ h.fresh)
    (subst (λ rs. Each (λ row. Among record
    { caller = caller; base = row.base; size = length row.words } (state first log).held) rs)
    h.rows_are h.held) sound
    (after (state first log) (Install caller base (row_at base (Change h.change) ∷ h.fresh)))
    (Install caller base (row_at base (Change h.change) ∷ h.fresh))
    (with_installed (state first log).pieces base h.change h.fresh) h.change.node
    (with_slot h.change.index (word_of (ChangeAt base)))
    (size_of-with_slot h.change.index (word_of (ChangeAt base)))
    (publishes_install (state first log).pieces first log base h.change h.fresh h.fits) refl refl
    refl)

moves_resolved : (t : Snapshot) (event : Event) (change : Option ChangeRow)
    → Moves t (resolved t change) event
moves_resolved t event None = moves_same t t event refl refl refl
moves_resolved t event (Some change) = moves_changed t (resolved t (Some change)) event change.node
    (with_slot change.index (side_of change)) (size_of-with_slot change.index (side_of change))
    refl refl refl

-- the rows of a root are published
root_stands : (ps : Pieces) (word k : ℕ) (leaves : List PlacedLeaf) (target : ℕ) (rows : List ℕ)
    → IsRoot ps word k leaves target rows → Each (λ base. LiesAt ps base) rows
root_stands ps =
    root_rows ps (λ base. LiesAt ps base) (λ base r leaves above top. (Inner r, top.published))

moves_root : (t : Snapshot) (caller rebuild word : ℕ) (rows : List Row)
    → CanRoot t caller rebuild word rows → HeldLieApart t
    → Moves t (after t (Root caller rebuild word rows)) (Root caller rebuild word rows)
moves_root t caller rebuild word rows h sound =
    moves_published t caller rows h.held sound (after t (Root caller rebuild word rows))
    (Root caller rebuild word rows) (with_inners t.pieces rows) rebuild (with_root word)
    (size_of-with_root word)
    (publishes-with_inners t.pieces rows
    (root_stands (with_inners t.pieces rows) word h.k h.leaves h.row.target (bases_of rows)
    h.root)) refl refl refl

moves_place : (t : Snapshot) (caller rebuild i word : ℕ) (rows : List Row)
    → CanPlace t caller rebuild i word rows → HeldLieApart t
    → Moves t (after t (Place caller rebuild i word rows)) (Place caller rebuild i word rows)
moves_place t caller rebuild i word rows h sound = let qs = with_inners t.pieces rows in
    moves_published t caller rows h.held sound (after t (Place caller rebuild i word rows))
    (Place caller rebuild i word rows) qs h.root (with_slot i word) (size_of-with_slot i word)
    (publishes-with_inners t.pieces rows
    (ideal_stands qs h.ref h.part h.root (bases_of rows) h.ideal)) refl refl
    (ap (λ o. placed qs o i word) (ap as_rebuild h.published) ∙ ap (λ o. with_part qs o i word)
    h.root_is)

-- each event that reserves nothing moves rows
pub moves : (first : Snapshot) (log : Log) (event : Event) → reserved_by event ≡ 0
    → Enabled first log event → HeldLieApart (state first log)
    → Moves (state first log) (state first (event ∷ log)) event
moves first log (Enter caller) z h s = moves_same _ _ _ refl refl refl
moves first log (Reserve caller base size) z h s = let some = reserve_positive (state first log)
    caller base size h in absurd (omega arith)
moves first log (Install caller change rows) z h s = moves_install first log caller change rows h s
moves first log (Okay caller change) z h s = moves_same _ _ _ refl refl refl
moves first log (Decide caller change said) z h s = moves_changed _ _ _ change
    (with_decision (decision_word said)) (size_of-with_decision (decision_word said)) refl refl refl
moves first log (Resolve caller change) z h s = moves_resolved (state first log)
    (Resolve caller change) (as_change ((state first log).pieces change))
moves first log (Count caller node) z h s = moves_changed _ _ _ node counted size_of-counted refl
    refl refl
moves first log (Mark caller node) z h s = moves_changed _ _ _ node (with_status marked_word)
    (size_of-with_status marked_word) refl refl refl
moves first log (Pass caller node i word) z h s = moves_same _ _ _ refl refl refl
moves first log (Finish caller node keys) z h s = moves_changed _ _ _ node
    (with_status (finished_word keys)) (size_of-with_status (finished_word keys)) refl refl refl
moves first log (Root caller rebuild word rows) z h s = moves_root (state first log) caller rebuild
    word rows h s
moves first log (Draw caller rebuild part) z h s = moves_changed _ _ _ rebuild drawn size_of-drawn
    refl refl refl
moves first log (Place caller rebuild i word rows) z h s = moves_place (state first log) caller
    rebuild i word rows h s
moves first log (Lose caller bases) z h s = moves_lost _ _ _ bases (λ base i. i) refl refl refl

-- ---- what is reserved is what the state says is used. Serves `laws.words_are_spent`.

next-with_change : (t : Snapshot) (base : ℕ) (fresh : List Row) (change : Option ChangeRow)
    → (with_change t base fresh change).next ≡ t.next
next-with_change t base fresh None = refl
next-with_change t base fresh (Some change) = refl

next-installed : (t : Snapshot) (base : ℕ) (rows : List Row) → (installed t base rows).next ≡ t.next
next-installed t base [] = refl
next-installed t base (row ∷ fresh) = next-with_change t base fresh (change_of row.words)

next-resolved : (t : Snapshot) (change : Option ChangeRow) → (resolved t change).next ≡ t.next
next-resolved t None = refl
next-resolved t (Some change) = refl

-- an enabled event takes what it reserves from the free words
pub next-state : (first : Snapshot) (log : Log) (event : Event) → Enabled first log event
    → (state first (event ∷ log)).next ≡ (state first log).next + reserved_by event
next-state first log (Reserve caller base size) h = ap (λ n. n + size) h.base_is
next-state first log (Install caller change rows) h = grind (arith, next-installed)
next-state first log (Resolve caller change) h = grind (arith, next-resolved)
next-state first log _ h = omega arith

spent-state : (pairs : List Pair) (words : ℕ) (log : Log) → EachEnabled (start pairs words) log
    → (state_of pairs words log).next ≡ spent pairs log
spent-state pairs words [] h = refl
spent-state pairs words (event ∷ log) h =
    next-state (start pairs words) log event h.1 ∙ ap (λ n. n + reserved_by event)
    (spent-state pairs words log h.0)

-- next is what was spent
pub words_are_spent : (pairs : List Pair) (words : ℕ) (log : Log) → Lawful pairs words log
    → (state_of pairs words log).next ≡ spent pairs log
words_are_spent pairs words log h = spent-state pairs words log h.enabled
