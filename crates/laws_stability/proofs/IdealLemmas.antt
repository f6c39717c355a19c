-- An ideal subtree of rows that aren't published yet is still one after others have published
-- theirs. Serves the clauses on Root and Place.
use Rattle.std.proofs.Common.{Bool, List, None, Option, Some, [], false, if◌then◌else◌, inl, inr, refl, subst, sym, true, ℕ, ◌==◌, ◌∙◌, ◌∷◌, ◌≡◌, ◌⊎◌, ap, length, ◌+◌, ◌≢◌, arith}
use Rattle.ist_core.specs.declared.lists.Row.{Row}
use Rattle.ist_core.specs.declared.states.LeafRow.{LeafRow}
use Rattle.ist_core.specs.declared.events.Event.{Event}
use Rattle.ist_core.specs.declared.events.Event.TheVariants.{Draw, Place, Root}
use Rattle.ist_core.specs.declared.events.Who.TheVariants.{Caller}
use Rattle.ist_core.specs.declared.lists.HeldRow.{HeldRow}
use Rattle.ist_core.specs.declared.pairs.Pair.{Pair}
use Rattle.ist_core.specs.TreeTerms.{IsRoot, root_top, root_whole, PlacedLeaf, CanDraw, CanPlace, CanRoot, AllGrow, HasLeaves, IsFinishedWith, touch_in_root, touch_of_place}
use Rattle.ist_core.specs.LogTerms.{Among, bases_of, CanOpen, EachEnabled, state_of, Draws, GoesOn, Happened, Log, HoldsRow, HoldsRows, Snapshot, Later, whose, IsShown}
use Rattle.ist_core.specs.WordTerms.{IsIdeal, Inner, Leaf, Piece, Pieces, inner_of, with_inners, with_row, Ref, Rebuild, as_rebuild, InnerAt, ref_of, unset_word, rebuild_draw_offset, in_row, start}
use Rattle.ist_core.proofs.AllWordLemmas.{no_value, each-among}
use Rattle.laws_links.proofs.NewTreeLemmas.{StandInOther, ideal_kept, top_kept}
use Rattle.ist_core.proofs.AllLogLemmas.{enabled_before, grow_between, inner_there, leaf_there, rebuild_there, finished_leaves_stay, row_word, goes_on_by, set_by}
use Rattle.ist_core.proofs.AllEventLemmas.{HeldLieApart, row_among}
use Rattle.ist_core.proofs.AllPlaceLemmas.{anchor_free}
use Rattle.laws_links.proofs.FormLemmas.{finished_with_grows, started_grows}
use Rattle.laws_links.proofs.FormedLemmas.{rooted_is_finished}
use Rattle.laws_links.proofs.InductionLemmas.{sound_after}
use Rattle.laws_links.specs.Linking.{IsFinished}
use Rattle.laws_stability.specs.Words.{FindsItsWord}
use Rattle.laws_stability.proofs.HoldingLemmas.{rows_later, finds, slot_later, slot_of_row}
use Rattle.laws_stability.proofs.LaterLemmas.{done_before, known_later}

-- a row after rows are put is one of them, whatever was there before, or was there before
pub put_or_stood : (ps qs : Pieces) (rows : List Row) (base : ℕ) (p : Piece)
    → with_inners ps rows base ≡ Some p → (with_inners qs rows base ≡ Some p) ⊎
    ((ps base ≡ Some p) × (with_inners qs rows base ≡ qs base))
put_or_stood ps qs [] base p e = inr (e, refl)
put_or_stood ps qs (row ∷ rows) base p e = at (inner_of row.words) e
    (put_or_stood ps qs rows base p)
  where
    at : (o : Option Piece) → with_row (with_inners ps rows) row.base o base ≡ Some p
        → (with_inners ps rows base ≡ Some p
        → (with_inners qs rows base ≡ Some p) ⊎
        ((ps base ≡ Some p) × (with_inners qs rows base ≡ qs base)))
        → (with_row (with_inners qs rows) row.base o base ≡ Some p)
        ⊎ ((ps base ≡ Some p) × (with_row (with_inners qs rows) row.base o base ≡ qs base))
    at None f rest = rest f
    at (Some x) f rest = here (base == row.base) f
      where
        here : (v : Bool) → (if v then Some x else with_inners ps rows base) ≡ Some p
            → ((if v then Some x else with_inners qs rows base) ≡ Some p)
            ⊎ ((ps base ≡ Some p) × ((if v then Some x else with_inners qs rows base) ≡ qs base))
        here true g = inl g
        here false g = rest g

module _ (ps qs : Pieces) (rows : List Row)
    (leaf : (base : ℕ) (r : LeafRow) → ps base ≡ Some (Leaf r) → qs base ≡ Some (Leaf r))
    (free : (base : ℕ) → Among base (bases_of rows) → ps base ≡ None) where
  -- a leaf that is in the first is also in the second
  leaf_put : (base : ℕ) (r : LeafRow) → with_inners ps rows base ≡ Some (Leaf r)
      → with_inners qs rows base ≡ Some (Leaf r)
  leaf_put base r e = grind (arith, put_or_stood)

  -- a row that is put in the first is also put in the second
  inner_put : (base : ℕ) (p : Piece) → Among base (bases_of rows)
      → with_inners ps rows base ≡ Some p → with_inners qs rows base ≡ Some p
  inner_put base p own e = grind (arith, no_value, put_or_stood)

  -- what is in the first of the leaves and of the rows is also in the second
  stand : StandInOther (with_inners ps rows) (with_inners qs rows) (bases_of rows)
  stand = record { leaf = leaf_put; inner = λ base r own e. inner_put base (Inner r) own e }

  -- an ideal subtree of the rows that are put stays one
  pub ideal_put : (ref : Ref) (leaves : List PlacedLeaf) (above : ℕ)
      → IsIdeal (with_inners ps rows) ref leaves above (bases_of rows)
      → IsIdeal (with_inners qs rows) ref leaves above (bases_of rows)
  ideal_put ref leaves above ideal = grind (arith, ideal_kept, stand)

  -- a root over some rows is one over others with the same leaves
  pub root_put : (word k : ℕ) (leaves : List PlacedLeaf) (target : ℕ)
      → IsRoot (with_inners ps rows) word k leaves target (bases_of rows)
      → IsRoot (with_inners qs rows) word k leaves target (bases_of rows)
  root_put word k leaves target (root_whole ref few is ideal) =
      root_whole ref few is (ideal_put ref leaves target ideal)
  root_put word k leaves target (root_top base row many is top unset one) =
      root_top base row many is
      (top_kept (with_inners ps rows) (with_inners qs rows) base row leaves target top
      (inner_put base (Inner row) (subst (Among base) (sym one) (inl refl)) top.published)) unset one

-- ---- roots, Draws and Places stay enabled under events of others. Serves their clauses.

-- a Draw of a caller is its own event
draws_own : (caller rebuild part : ℕ) (event : Event) → Draws caller rebuild part event
    → whose event ≡ Caller caller
draws_own caller rebuild part (Draw c o p) is = ap Caller is.0
draws_own caller rebuild part _ is = absurd is

-- no row is published at the base of one that a caller holds
held_free : (t : Snapshot) (caller : ℕ) (rows : List Row) → HeldLieApart t → HoldsRows t caller rows
    → (base : ℕ) → Among base (bases_of rows) → t.pieces base ≡ None
held_free t caller rows s held base among = let it = row_among base rows among in
    let row : HeldRow = record { caller = caller; base = it.0.base; size = length it.0.words } in
    subst (λ b. t.pieces b ≡ None) it.2
    (s.unpublished row
    (each-among (λ x. HoldsRow t caller x.base (length x.words)) it.0 rows held it.1))

module _ (pairs : List Pair) (words : ℕ) (opens : CanOpen pairs words) {earlier log : Log}
    (caller : ℕ) (later : Later (Caller caller) earlier log)
    (h : EachEnabled (start pairs words) log) where
  on : GoesOn earlier log
  on = goes_on_by later

  before : EachEnabled (start pairs words) earlier
  before = enabled_before (start pairs words) earlier log on h

  grows : AllGrow (state_of pairs words earlier).pieces (state_of pairs words log).pieces
  grows = grow_between pairs words earlier log h on

  -- the leaves below a finished target stay
  leaves_later : (old new : ℕ) → new ≡ old → (leaves : List PlacedLeaf)
      → IsFinished (state_of pairs words earlier) old
      → HasLeaves (state_of pairs words earlier).pieces (Some (InnerAt old)) leaves
      → HasLeaves (state_of pairs words log).pieces (Some (InnerAt new)) leaves
  leaves_later old new same leaves done reached = grind (arith, finished_leaves_stay, on)

  finished_later : (old new k : ℕ) → new ≡ old → IsFinishedWith (state_of pairs words earlier) old k
      → IsFinishedWith (state_of pairs words log) new k
  finished_later old new k same f = grind (arith, finished_with_grows, grows)

  leaf_later : (base : ℕ) (r : LeafRow) → (state_of pairs words earlier).pieces base ≡ Some (Leaf r)
      → (state_of pairs words log).pieces base ≡ Some (Leaf r)
  leaf_later = grind (arith, leaf_there, grows)

  -- a Root stays enabled if the rebuild has no root
  pub root_stays : (rebuild word : ℕ) (rows : List Row)
      → CanRoot (state_of pairs words earlier) caller rebuild word rows
      → FindsItsWord (state_of pairs words earlier) (state_of pairs words log)
      (Root caller rebuild word rows) → CanRoot (state_of pairs words log) caller rebuild word rows
  root_stays rebuild word rows can f = let t = state_of pairs words earlier in
      let u = state_of pairs words log in
      let it = rebuild_there t.pieces u.pieces grows rebuild can.row can.published in
      let has = finds t u (Root caller rebuild word rows) _ refl f in record {
        known = known_later (start pairs words) on caller can.known;
        row = it.0;
        published = it.1;
        started = started_grows t u grows rebuild can.started;
        rootless =
            sym (row_word pairs words log h rebuild 3 it.0.root
            (Rebuild it.0) it.1 refl _ _ has refl);
        k = can.k;
        finished = finished_later can.row.target it.0.target can.k it.2.target can.finished;
        leaves = can.leaves;
        reached = leaves_later can.row.target it.0.target it.2.target can.leaves
            (can.k, can.finished) can.reached;
        root = subst
            (λ n. IsRoot (with_inners u.pieces rows) word can.k can.leaves n (bases_of rows))
            (sym it.2.target)
            (root_put t.pieces u.pieces rows leaf_later
            (held_free t caller rows (sound_after pairs words earlier before) can.held)
            word can.k can.leaves can.row.target can.root);
        once = can.once;
        held = rows_later pairs words caller later h rows can.held;
      }

  -- the Draw of the part that the draw word names is enabled
  pub next_draw_stays : (rebuild part now : ℕ)
      → CanDraw (state_of pairs words earlier) earlier caller rebuild part
      → IsShown (state_of pairs words log) (rebuild + rebuild_draw_offset) now
      → CanDraw (state_of pairs words log) log caller rebuild now
  next_draw_stays rebuild part now can has = let t = state_of pairs words earlier in
      let u = state_of pairs words log in
      let it = rebuild_there t.pieces u.pieces grows rebuild can.row can.published in record {
        known = known_later (start pairs words) on caller can.known;
        row = it.0;
        published = it.1;
        rooted = λ none. can.rooted (sym (it.2.rooted can.rooted) ∙ none);
        k = can.k;
        finished = finished_later can.row.target it.0.target can.k it.2.target can.finished;
        shared = can.shared;
        part_is = row_word pairs words log h rebuild 4 it.0.draw
            (Rebuild it.0) it.1 refl _ _ has refl;
        not_past = λ old happened. can.not_past old (back old happened);
      }
    where
      back : (old : ℕ) → Happened (Draws caller rebuild old) log
          → Happened (Draws caller rebuild old) earlier
      back old is = grind (arith, done_before, draws_own)

  -- a Draw stays enabled if the draw word still names its part
  pub draw_stays : (rebuild part : ℕ) → CanDraw
      (state_of pairs words earlier) earlier caller rebuild part
      → FindsItsWord (state_of pairs words earlier) (state_of pairs words log)
      (Draw caller rebuild part) → CanDraw (state_of pairs words log) log caller rebuild part
  draw_stays rebuild part can f = grind (arith, finds, next_draw_stays)

  -- a Place stays enabled if the slot is Unset
  pub place_stays : (rebuild i word : ℕ) (rows : List Row)
      → CanPlace (state_of pairs words earlier) caller rebuild i word rows
      → FindsItsWord (state_of pairs words earlier) (state_of pairs words log)
      (Place caller rebuild i word rows)
      → CanPlace (state_of pairs words log) caller rebuild i word rows
  place_stays rebuild i word rows can f = let t = state_of pairs words earlier in
      let u = state_of pairs words log in
      let it = rebuild_there t.pieces u.pieces grows rebuild can.row can.published in
      let top = inner_there t.pieces u.pieces grows can.root can.root_row can.root_published in
      let set : can.row.root ≢ unset_word = set_by can.row.root (InnerAt can.root) can.root_is
      (λ q. cc) in
      let has = finds t u (Place caller rebuild i word rows) _
      (ap (λ o. touch_of_place t o i word) (ap as_rebuild can.published)
      ∙ ap (λ o. touch_in_root t o i word) can.root_is) f in
      record {
        known = known_later (start pairs words) on caller can.known;
        row = it.0;
        published = it.1;
        root = can.root;
        root_is = ap ref_of (it.2.rooted set) ∙ can.root_is;
        root_row = top.0;
        root_published = top.1;
        free = slot_of_row u can.root i unset_word top.0 (anchor_free pairs words log h) top.1
            (slot_later pairs words earlier log on h can.root i unset_word
            (in_row can.root_row can.root_published can.free) unset_word has);
        leaves = can.leaves;
        reached = leaves_later can.row.target it.0.target it.2.target can.leaves
            (rooted_is_finished pairs words earlier before rebuild can.row can.published set)
            can.reached;
        part = can.part;
        part_is = can.part_is;
        ref = can.ref;
        ref_is = can.ref_is;
        ideal = ideal_put t.pieces u.pieces rows leaf_later
            (held_free t caller rows (sound_after pairs words earlier before) can.held)
            can.ref can.part can.root can.ideal;
        once = can.once;
        held = rows_later pairs words caller later h rows can.held;
      }
