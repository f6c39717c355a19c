-- Each event keeps the conjunct `names`. Serves the order law.
use Rattle.std.proofs.Common.{◌≡◌, ℕ, ◌==◌, if◌then◌else◌, List, ◌∷◌, Some, None, refl, sym, subst, arith}
use Rattle.std.proofs.lemmas.Bool.Decides.{eqb_tells}
use Rattle.ist_core.specs.Types.{Row, ChangeRow, Event, Enter, Reserve, Install, Okay, Decide, Resolve, Count, Mark, Pass, Finish, Root, Draw, Place, Lose}
use Rattle.ist_core.specs.WordTerms.{anchor, ChangeAt, IsGoodBase, ref_of, word_of, marked_word, finished_word, Pieces, Piece, Change, Rebuild, row_at, with_inners, changed_at, with_slot, with_status, counted, with_decision, with_root, drawn}
use Rattle.ist_core.specs.LogTerms.{Among, Each, Snapshot, bases_of, after, decision_word, side_of, resolved, Log, state, Enabled}
use Rattle.ist_core.specs.TreeTerms.{CanInstall, CanResolve, CanRoot, CanPlace, Grows, AllGrow}
use Rattle.ist_core.proofs.OptionLemmas.{each-among, with_row-same}
use Rattle.ist_core.proofs.MoveLemmas.{HeldLieApart}
use Rattle.ist_core.proofs.InstallLemmas.{with_installed}
use Rattle.ist_core.proofs.StepLemmas.{IsInstalledWith, adds_install, adds-with_inners, grow_step, rows_resolved, rows_placed, holds_installed, known}
use Rattle.ist_core.proofs.GrowingLemmas.{all_grow_added, all_grow-changed_at, grows-with_slot, grows-with_root}
use Rattle.ist_core.proofs.RoomLemmas.{ref_of-change, anchor_slot}
use Rattle.ist_core.proofs.NamingLemmas.{AllName, SideNames, SlotNames, RootNames, RowNames, WordsName, IsChangeFor, slot_grows, root_grows, all_name_added, all_name-changed_at, names-with_slot, names-with_status, names-counted, names-drawn, names-with_decision, slot_names, side_slot}
use Rattle.ist_core.proofs.InstallNamingLemmas.{installed_names}
use Rattle.ist_core.proofs.TreeLemmas.{IsTreeRow, root_tree, tree_of_ideal, tree_slot, tree_root, tree_rows}

-- a row that the change leaves as it is stays
pub changed_at-fixed : (ps : Pieces) (at base : ℕ) (f : Piece → Piece) (p : Piece)
    → ps base ≡ Some p → f p ≡ p → changed_at ps at f base ≡ Some p
changed_at-fixed ps at base f p e same = grind arith

-- ---- the shapes of events

-- an event that changes one row, and no word that names a row
names_changed : (t u : Snapshot) (at : ℕ) (f : Piece → Piece) → AllGrow t.pieces u.pieces
    → u.pieces ≡ changed_at t.pieces at f → u.anchor ≡ t.anchor
    → ((ps : Pieces) (p : Piece) → RowNames ps at p → RowNames ps at (f p)) → WordsName t
    → WordsName u
unfolding AllName
names_changed t u at f g pieces word keeps o =
    grind (arith, RowNames, all_name-changed_at, anchor_slot, SlotNames, slot_grows)

-- an event that writes a slot keeps what words name, if the rows before the write name what they
-- may
names_written : (t u : Snapshot) (ps : Pieces) (node i word : ℕ) → AllName ps ps
    → AllGrow t.pieces u.pieces → u.pieces ≡ changed_at ps node (with_slot i word)
    → u.anchor ≡ (if node == anchor then word else t.anchor) → (node ≡ anchor → i ≡ 0)
    → SlotNames (changed_at ps node (with_slot i word)) node i (ref_of word) → WordsName t
    → WordsName u
unfolding AllName
names_written t u ps node i word all g pieces is zero_there h o =
    grind (
      arith,
      SlotNames,
      RowNames,
      all_name-changed_at,
      all_grow-changed_at,
      grows-with_slot,
      names-with_slot,
      anchor_slot,
      eqb_tells,
      slot_grows,
    )

-- ---- the events that do something

-- the change of an Install is published by it
pub installed_stands : (ps : Pieces) (base : ℕ) (change : ChangeRow) (fresh : List Row)
    → with_installed ps base change fresh base ≡ Some (Change change)
installed_stands ps base change fresh = grind (arith, with_row-same)

-- all rows of a table name what they may
pub all_name : (t : Snapshot) → WordsName t → AllName t.pieces t.pieces
unfolding AllName
all_name t o = o.rows

names_install : (first : Snapshot) (log : Log) (caller base : ℕ) (rows : List Row)
    → (h : CanInstall first log caller base rows) → HeldLieApart (state first log)
    → (state first log).pieces anchor ≡ None → IsGoodBase base
    → ((at : ℕ) (p : Piece) → with_installed (state first log).pieces base h.change h.fresh at ≡
    Some p → IsGoodBase at)
    → WordsName (state first log) → WordsName (after (state first log) (Install caller base rows))
names_install first log caller base rows h sound free good_here good o = let t = state first log in
    let holds = holds_installed first log caller base rows h in
    let qs = with_installed t.pieces base h.change h.fresh in
    let adds = adds_install first log caller base h.change h.fresh h.fits holds sound in
    let grows = all_grow_added t.pieces qs adds.keeps in
    let slot = slot_names t h.change.node h.change.index h.change.from o h.in_slot in
    let word = word_of (ChangeAt base) in
    let rs = changed_at qs h.change.node (with_slot h.change.index word) in
    let stands : qs base ≡ Some (Change h.change) = installed_stands t.pieces base h.change h.fresh
    in
    let there : IsChangeFor rs h.change.node h.change.index base = record {
      row = h.change;
      published = changed_at-fixed qs h.change.node base (with_slot h.change.index word)
          (Change h.change) stands refl;
      node_is = refl;
      index = refl;
    } in
    subst (λ xs. WordsName (after t (Install caller base xs))) (sym h.rows_are)
    (names_written t (after t (Install caller base (row_at base (Change h.change) ∷ h.fresh))) qs
    h.change.node h.change.index word
    (all_name_added t.pieces qs (IsInstalledWith first log base h.change h.fresh h.fits) grows adds
    (all_name t o)
    (λ at p born _. installed_names first log caller base h.change h.fresh sound holds h.in_slot o
    slot qs refl grows h.fits good at p born))
    (subst (λ xs. AllGrow t.pieces (after t (Install caller base xs)).pieces) h.rows_are
    (grow_step first log (Install caller base rows) h sound)) refl refl
    (anchor_slot t h.change.node h.change.index h.change.from free h.in_slot)
    (subst (λ ref. SlotNames rs h.change.node h.change.index ref)
    (sym (ref_of-change base good_here)) there) o)

-- the side that a change leaves in its slot is one of its two
pub side_names : (ps : Pieces) (node i : ℕ) (change : ChangeRow)
    → SideNames ps node i (ref_of change.from) → SideNames ps node i (ref_of change.to)
    → SideNames ps node i (ref_of (side_of change))
side_names ps node i change from to = grind (arith, SideNames)

names_resolve : (first : Snapshot) (log : Log) (caller base : ℕ)
    → (h : CanResolve (state first log) caller base) → HeldLieApart (state first log)
    → (state first log).pieces anchor ≡ None
    → WordsName (state first log) → WordsName (after (state first log) (Resolve caller base))
names_resolve first log caller base h sound free o = let t = state first log in
    let word = side_of h.change in
    let rs = changed_at t.pieces h.change.node (with_slot h.change.index word) in
    let row = o.rows base (Change h.change) h.published in
    let side = side_names t.pieces h.change.node h.change.index h.change row.0 row.1 in
    let grows = all_grow-changed_at t.pieces h.change.node (with_slot h.change.index word)
    (λ p _. grows-with_slot h.change.index word p) in
    subst WordsName (sym (rows_resolved t caller base h))
    (names_written t (resolved t (Some h.change)) t.pieces h.change.node h.change.index word
    (all_name t o) grows refl refl
    (anchor_slot t h.change.node h.change.index (word_of (ChangeAt base)) free h.in_slot)
    (slot_grows t.pieces rs grows h.change.node h.change.index (ref_of word)
    (side_slot t.pieces h.change.node h.change.index (ref_of word) side)) o)

-- the rows of a tree name what they may
tree_born : (ps : Pieces) (rows : List ℕ) → Each (IsTreeRow ps) rows → (base : ℕ) (p : Piece)
    → Among base rows → ps base ≡ Some p → RowNames ps base p
tree_born ps rows all base p i e = grind (arith, each-among, IsTreeRow, known, RowNames)

names_root : (first : Snapshot) (log : Log) (caller rebuild word : ℕ) (rows : List Row)
    → (h : CanRoot (state first log) caller rebuild word rows) → HeldLieApart (state first log)
    → WordsName (state first log)
    → WordsName (after (state first log) (Root caller rebuild word rows))
unfolding AllName
names_root first log caller rebuild word rows h sound o = let t = state first log in
    let u = after t (Root caller rebuild word rows) in let qs = with_inners t.pieces rows in
    let rs = changed_at qs rebuild (with_root word) in
    let adds = adds-with_inners t caller rows h.held sound in
    let grows = all_grow_added t.pieces qs adds.keeps in
    let tree = root_tree qs word h.k h.leaves h.row.target (bases_of rows) h.root in
    let all = all_name_added t.pieces qs (λ base p. Among base (bases_of rows)) grows adds
    (all_name t o)
    (λ base p i e. tree_born qs (bases_of rows)
    (tree_rows qs tree.0 h.row.target (bases_of rows) tree.2) base p i e) in
    let stands = adds.keeps rebuild (Rebuild h.row) h.published in
    let on : AllGrow qs rs = all_grow-changed_at qs rebuild (with_root word)
    (λ p e. known (λ x. Grows x (with_root word x)) (qs rebuild) p (Rebuild h.row) e stands
    (grows-with_root h.row word h.rootless)) in
    let root = subst (λ ref. RootNames qs h.row.target ref) (sym tree.1)
    (tree_root qs tree.0 h.row.target (bases_of rows) tree.2) in
    record {
      rows = all_name-changed_at qs rebuild (with_root word) on all
          (λ p e k. known (λ x. RowNames rs rebuild x → RowNames rs rebuild (with_root word x))
          (qs rebuild) p (Rebuild h.row) e stands
          (λ old. (old.0, old.1, root_grows qs rs on h.row.target (ref_of word) root)) k);
      anchor_slot = slot_grows t.pieces u.pieces
          (grow_step first log (Root caller rebuild word rows) h sound) anchor 0 (ref_of t.anchor)
          o.anchor_slot;
    }

names_place : (first : Snapshot) (log : Log) (caller rebuild i word : ℕ) (rows : List Row)
    → (h : CanPlace (state first log) caller rebuild i word rows) → HeldLieApart (state first log)
    → WordsName (state first log)
    → WordsName (after (state first log) (Place caller rebuild i word rows))
unfolding AllName
names_place first log caller rebuild i word rows h sound o = let t = state first log in
    let u = after t (Place caller rebuild i word rows) in let qs = with_inners t.pieces rows in
    let rs = changed_at qs h.root (with_slot i word) in
    let adds = adds-with_inners t caller rows h.held sound in
    let grows = all_grow_added t.pieces qs adds.keeps in
    let tree = tree_of_ideal qs h.ref h.part h.root (bases_of rows) h.ideal in
    let all = all_name_added t.pieces qs (λ base p. Among base (bases_of rows)) grows adds
    (all_name t o)
    (λ base p i e. tree_born qs (bases_of rows) (tree_rows qs h.ref h.root (bases_of rows) tree)
    base p i e) in
    let on : AllGrow qs rs = all_grow-changed_at qs h.root (with_slot i word)
    (λ p _. grows-with_slot i word p) in
    let slot = subst (λ ref. SlotNames qs h.root i ref) (sym h.ref_is)
    (tree_slot qs h.ref h.root (bases_of rows) i tree) in
    let names = all_name-changed_at qs h.root (with_slot i word) on all
    (λ p _ k. names-with_slot rs h.root i word p (slot_grows qs rs on h.root i (ref_of word) slot)
    k) in
    record {
      rows = subst (λ xs. AllName xs xs) (sym (rows_placed t caller rebuild i word rows h)) names;
      anchor_slot = slot_grows t.pieces u.pieces
          (grow_step first log (Place caller rebuild i word rows) h sound) anchor 0
          (ref_of t.anchor) o.anchor_slot;
    }

-- ---- all events

-- an enabled event keeps what words name, if bases are good
pub names_step : (first : Snapshot) (log : Log) (event : Event) → Enabled first log event
    → HeldLieApart (state first log) → (state first log).pieces anchor ≡ None
    → ((caller base : ℕ) (rows : List Row) (h : CanInstall first log caller base rows) → IsGoodBase
    base × ((at : ℕ) (p : Piece) → with_installed (state first log).pieces base h.change h.fresh
    at ≡ Some p → IsGoodBase at))
    → WordsName (state first log) → WordsName (state first (event ∷ log))
names_step first log (Install caller base rows) h s free good o = let ok = good caller base rows h
    in names_install first log caller base rows h s free ok.0 ok.1 o
names_step first log (Resolve caller change) h s free good o = names_resolve first log caller change
    h s free o
names_step first log (Root caller rebuild word rows) h s free good o = names_root first log caller
    rebuild word rows h s o
names_step first log (Place caller rebuild i word rows) h s free good o = names_place first log
    caller rebuild i word rows h s o
names_step first log (Decide caller base said) h s free good o =
    names_changed _ _ base (with_decision (decision_word said))
    (grow_step first log (Decide caller base said) h s) refl refl
    (λ ps p k. names-with_decision ps base (decision_word said) p k) o
names_step first log (Count caller node) h s free good o =
    names_changed _ _ node counted (grow_step first log (Count caller node) h s) refl refl
    (λ ps p k. names-counted ps node p k) o
names_step first log (Mark caller node) h s free good o =
    names_changed _ _ node (with_status marked_word) (grow_step first log (Mark caller node) h s)
    refl refl (λ ps p k. names-with_status ps node marked_word p k) o
names_step first log (Finish caller node keys) h s free good o =
    names_changed _ _ node (with_status (finished_word keys))
    (grow_step first log (Finish caller node keys) h s) refl refl
    (λ ps p k. names-with_status ps node (finished_word keys) p k) o
names_step first log (Draw caller rebuild part) h s free good o =
    names_changed _ _ rebuild drawn (grow_step first log (Draw caller rebuild part) h s) refl refl
    (λ ps p k. names-drawn ps rebuild p k) o
names_step first log (Enter caller) h s free good o = grind (arith, anchor_slot)
names_step first log (Reserve caller base size) h s free good o = grind (arith, anchor_slot)
names_step first log (Okay caller change) h s free good o = o
names_step first log (Pass caller node i word) h s free good o = o
names_step first log (Lose caller bases) h s free good o = grind (arith, anchor_slot)
