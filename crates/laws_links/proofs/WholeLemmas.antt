-- While a finish is undecided, and so when it is decided yes, the root is the ideal subtree over
-- exactly the leaves of the target. Serves `laws.roots_are_ideal`.
use Rattle.std.proofs.Common.{List, Some, [], ap, refl, replicate, subst, sym, ℕ, ◌∙◌, ◌∷◌, ◌≡◌, ◌≢◌, arith}
use Rattle.ist_core.specs.declared.events.Event.{Event}
use Rattle.ist_core.specs.declared.events.Event.TheVariants.{Draw, Install, Root}
use Rattle.ist_core.specs.declared.lists.Row.{Row}
use Rattle.ist_core.specs.declared.pairs.Pair.{Pair}
use Rattle.ist_core.specs.declared.states.ChangeRow.{ChangeRow}
use Rattle.ist_core.specs.declared.states.InnerRow.{InnerRow}
use Rattle.ist_core.specs.declared.states.LeafRow.{LeafRow}
use Rattle.ist_core.specs.declared.states.RebuildRow.{RebuildRow}
use Rattle.ist_core.specs.TreeTerms.{CanRoot, IsRoot, root_top, root_whole, CanInstall, FitsKind, HasLeaves, PlacedLeaf, IsReplaced}
use Rattle.ist_core.specs.WordTerms.{IsIdeal, of_more, parts, Change, Inner, Leaf, Pieces, Rebuild, changed_at, with_inners, with_root, InnerAt, RebuildAt, Ref, ref_of, unset_word, SlotHolds, in_row, past_change, start, undecided}
use Rattle.ist_core.specs.LogTerms.{CanOpen, EachEnabled, state_of, Log, Snapshot, bases_of}
use Rattle.ist_core.proofs.AllLogLemmas.{rebuild_there, leaves_kept, grow_after, said_something}
use Rattle.ist_core.proofs.AllWordLemmas.{length-parts}
use Rattle.ist_core.proofs.AllPlaceLemmas.{reached, changed_at-fixed}
use Rattle.laws_links.proofs.ComesLemmas.{rebuild_comes, start_quiet}
use Rattle.laws_links.proofs.FormedLemmas.{rooted_is_finished}
use Rattle.laws_links.proofs.InductionLemmas.{changes_by}
use Rattle.laws_links.proofs.PassLemmas.{RebuildComes, is_begun, is_drawn, is_rooted, rebuild_was}
use Rattle.laws_links.proofs.ReadLemmas.{ReadsAs}
use Rattle.laws_links.proofs.BuiltLemmas.{IsBuiltOver, partly_step, whole_step}
use Rattle.laws_links.proofs.NewTreeLemmas.{ArePartly, IsPartly, ideal_kept, in_parts, partly_all, partly_kept, partly_none, top_kept, whole}
use Rattle.laws_links.proofs.RebuiltLemmas.{finish_unreplaced, read_unreplaced, unreplaced_before}
use Rattle.ist_core.specs.Installing as kinds

-- a new root, in the table of its condition
root_partly : (ps : Pieces) (word k : ℕ) (leaves : List PlacedLeaf) (target : ℕ) (rows : List ℕ)
    → IsRoot ps word k leaves target rows → (ref : Ref) × (ref_of word ≡ Some ref)
    × (built : List ℕ) × IsPartly ps ref leaves target built
root_partly ps word k leaves target rows (root_whole ref few is ideal) =
    (ref, is, rows, whole ideal)
root_partly ps word k leaves target rows (root_top base row many is top unset one) = (
  InnerAt base,
  is,
  [],
  in_parts row top
      (subst (λ slots. ArePartly ps slots (parts leaves) base []) (ap (λ n. replicate n unset_word) (length-parts leaves) ∙ sym unset) (partly_none ps (parts leaves) base)),
)

-- a tree that is built in part stays so if all inner rows and leaves stay
partly_moved : (ps qs : Pieces) (ref : Ref) (leaves : List PlacedLeaf) (above : ℕ) (rows : List ℕ)
    → IsPartly ps ref leaves above rows
    → ((base : ℕ) (r : LeafRow) → ps base ≡ Some (Leaf r) → qs base ≡ Some (Leaf r))
    → ((base : ℕ) (r : InnerRow) → ps base ≡ Some (Inner r) → qs base ≡ Some (Inner r))
    → IsPartly qs ref leaves above rows
partly_moved ps qs _ leaves above rows (whole {ref = ref} ideal) leaf inner = whole
    (ideal_kept ps qs ref leaves above rows ideal record { leaf = leaf; inner = λ b r i e. inner b r e })
partly_moved ps qs _ leaves above rows (in_parts {base = base} r top under) leaf inner =
    in_parts r (top_kept ps qs base r leaves above top (inner base r top.published))
    (partly_kept ps qs r.slots (parts leaves) base rows under record { leaf = leaf; inner = λ b x i e. inner b x e })

module _ (pairs : List Pair) (words : ℕ) (opens : CanOpen pairs words) where
  -- the leaves below the target of a rebuild with a root stay
  pub target_leaves_kept : (log : Log) (event : Event)
      → EachEnabled (start pairs words) (event ∷ log)
      → (at : ℕ) (r : RebuildRow) → (state_of pairs words log).pieces at ≡ Some (Rebuild r)
      → r.root ≢ unset_word → (leaves : List PlacedLeaf)
      → HasLeaves (state_of pairs words log).pieces (Some (InnerAt r.target)) leaves
      → HasLeaves (state_of pairs words (event ∷ log)).pieces (Some (InnerAt r.target)) leaves
  target_leaves_kept log event h at r e set leaves reached =
      grind (arith, leaves_kept, rooted_is_finished, reached)

  -- what is built over stays so over an event that leaves the rebuild's root
  built_step : (log : Log) (event : Event) → EachEnabled (start pairs words) (event ∷ log)
      → (at : ℕ) (r : RebuildRow) → (state_of pairs words log).pieces at ≡ Some (Rebuild r)
      → r.root ≢ unset_word
      → ¬ (IsReplaced (state_of pairs words log) at) → IsBuiltOver (state_of pairs words log) r
      → IsBuiltOver (state_of pairs words (event ∷ log)) r
  built_step log event h at r e set unr b = grind (arith, partly_step, reached, target_leaves_kept)

  -- what is built when a root is given
  built_root : (log : Log) (caller at word : ℕ) (rows : List Row)
      → EachEnabled (start pairs words) (Root caller at word rows ∷ log)
      → (can : CanRoot (state_of pairs words log) caller at word rows)
      → IsBuiltOver (state_of pairs words (Root caller at word rows ∷ log)) (record (can.row) { root = word })
  built_root log caller at word rows h can = let t = state_of pairs words log in
      let qs = with_inners t.pieces rows in
      let it = root_partly qs word can.k can.leaves can.row.target (bases_of rows) can.root in
      record {
        leaves = can.leaves;
        reached =
            leaves_kept pairs words opens log (Root caller at word rows) h can.row.target can.leaves (can.k, can.finished) can.reached;
        ref = it.0;
        root_is = it.1;
        rows = it.2;
        built = partly_moved qs
            (changed_at qs at (with_root word)) it.0 can.leaves can.row.target it.2 it.3
            (λ b r e. changed_at-fixed qs at b (with_root word) (Leaf r) e refl) (λ b r e. changed_at-fixed qs at b (with_root word) (Inner r) e refl);
      }

  -- until it is replaced, a rebuild with a root is built over the leaves of its target
  pub built_over : (log : Log) → EachEnabled (start pairs words) log → (at : ℕ) (r : RebuildRow)
      → (state_of pairs words log).pieces at ≡ Some (Rebuild r) → r.root ≢ unset_word
      → ¬ (IsReplaced (state_of pairs words log) at) → IsBuiltOver (state_of pairs words log) r
  built_over [] h at r e set unr = absurd (start_quiet pairs words at (Rebuild r) e)
  built_over (event ∷ log) h at r e set unr =
      by_origin event h (rebuild_comes pairs words log event h at r e)
      (unreplaced_before pairs words opens log event h at unr)
      (λ s old has k. built_over log h.0 at s old has k)
    where
      by_origin : (event : Event) → EachEnabled (start pairs words) (event ∷ log)
          → RebuildComes (start pairs words) log at r event
          → ¬ (IsReplaced (state_of pairs words log) at)
          → ((s : RebuildRow) → (state_of pairs words log).pieces at ≡ Some (Rebuild s)
          → s.root ≢ unset_word → ¬ (IsReplaced (state_of pairs words log) at)
          → IsBuiltOver (state_of pairs words log) s)
          → IsBuiltOver (state_of pairs words (event ∷ log)) r
      by_origin event all (rebuild_was old) k before =
          built_step log event all at r old set k (before r old set k)
      by_origin _ all (is_begun can s here same) k before = absurd (set (ap (λ x. x.root) same))
      by_origin _ all (is_rooted {caller = caller} {word = word} {rows = rows} can same) k before =
          subst (λ x. IsBuiltOver (state_of pairs words (Root caller at word rows ∷ log)) x)
          (sym same) (built_root log caller at word rows all can)
      by_origin _ all (is_drawn {caller = caller} {part = part} can same) k before =
          let has : can.row.root ≢ unset_word = λ none. set (ap (λ x. x.root) same ∙ none) in
          let b = built_step log (Draw caller at part) all at can.row can.published has k (before can.row can.published has k) in
          subst (λ x. IsBuiltOver (state_of pairs words (Draw caller at part ∷ log)) x) (sym same)
          record { leaves = b.leaves; reached = b.reached; ref = b.ref; root_is = b.root_is; rows = b.rows; built = b.built }

  -- ---- finishes

  -- the change puts in the root of a rebuild, which is ideal over exactly the leaves of the target
  pub record IsWholeRoot (log : Log) (x : ChangeRow) (rebuild : ℕ) : Type 0 where
    pub row : RebuildRow
    pub published : (state_of pairs words log).pieces rebuild ≡ Some (Rebuild row)
    pub to : x.to ≡ row.root
    pub set : row.root ≢ unset_word
    pub leaves : List PlacedLeaf
    pub reached : HasLeaves (state_of pairs words log).pieces (Some (InnerAt row.target)) leaves
    pub ref : Ref
    pub to_is : ref_of x.to ≡ Some ref
    pub rows : List ℕ
    pub ideal : IsIdeal (state_of pairs words log).pieces ref leaves row.target rows

  -- until its rebuild is replaced, such a change still puts in such a root after an event
  whole_on : (log : Log) (event : Event) → EachEnabled (start pairs words) (event ∷ log)
      → (x : ChangeRow) (rebuild : ℕ)
      → ¬ (IsReplaced (state_of pairs words log) rebuild) → IsWholeRoot log x rebuild
      → IsWholeRoot (event ∷ log) x rebuild
  whole_on log event h x rebuild unr w = let t = state_of pairs words log in
      let u = state_of pairs words (event ∷ log) in
      let it = rebuild_there t.pieces u.pieces (grow_after pairs words log event h) rebuild w.row w.published in
      let root = it.2.rooted w.set in record {
        row = it.0;
        published = it.1;
        to = w.to ∙ sym root;
        set = λ none. w.set (sym root ∙ none);
        leaves = w.leaves;
        reached =
            subst (λ n. HasLeaves u.pieces (Some (InnerAt n)) w.leaves) (sym it.2.target) (target_leaves_kept log event h rebuild w.row w.published w.set w.leaves w.reached);
        ref = w.ref;
        to_is = w.to_is;
        rows = w.rows;
        ideal = subst (λ n. IsIdeal u.pieces w.ref w.leaves n w.rows) (sym it.2.target)
            (whole_step pairs words opens log event h rebuild w.row w.published unr w.leaves w.ref (ap ref_of (sym w.to) ∙ w.to_is) w.rows w.ideal);
      }

  -- a root without an Unset slot is whole
  partly_is_whole : (t : Snapshot) (ref : Ref) (leaves : List PlacedLeaf) (above : ℕ)
      (rows : List ℕ) → IsPartly t.pieces ref leaves above rows
      → ((base i word : ℕ) → ref ≡ InnerAt base → SlotHolds t base i word → word ≢ unset_word)
      → (all : List ℕ) × IsIdeal t.pieces ref leaves above all
  partly_is_whole t _ leaves above rows (whole ideal) set = (rows, ideal)
  partly_is_whole t _ leaves above rows (in_parts {base = base} r top under) set =
      (base ∷ rows, of_more r top (partly_all t.pieces r.slots (parts leaves) base rows under (λ i e. set base i unset_word refl (in_row r top.published e) refl)))

  -- a finish that is installed puts in a whole root
  whole_install : (log : Log) (caller base : ℕ) (rows : List Row)
      → EachEnabled (start pairs words) (Install caller base rows ∷ log)
      → (can : CanInstall (start pairs words) log caller base rows) → (rebuild : ℕ)
      → ref_of can.change.from ≡ Some (RebuildAt rebuild)
      → IsWholeRoot (Install caller base rows ∷ log) can.change rebuild
  whole_install log caller base rows h can rebuild from = at can.fits
    where
      at : FitsKind (start pairs words) log can.change can.fresh
          → IsWholeRoot (Install caller base rows ∷ log) can.change rebuild
      at (kinds.a_put f) = grind arith
      at (kinds.a_pair f) = absurd (cc (sym f.from ∙ from))
      at (kinds.a_remove f) = absurd (cc (sym f.from ∙ from))
      at (kinds.a_start f) = absurd (cc (sym f.from ∙ from))
      at (kinds.a_finish f) = let t = state_of pairs words log in
          let slot = subst (λ j. SlotHolds t f.row.parent j can.change.from) (sym f.index) (subst (λ n. SlotHolds t n can.change.index can.change.from) (sym f.parent) can.in_slot) in
          let reads : ReadsAs t f.row.parent f.row.index (RebuildAt f.rebuild) = record { word = can.change.from; holds = slot; reads = ap (past_change t.pieces) f.from } in
          let unr = read_unreplaced pairs words opens log h.0 f.rebuild f.row f.published reads in
          let b = built_over log h.0 f.rebuild f.row f.published f.built.set unr in
          let it = partly_is_whole t b.ref b.leaves f.row.target b.rows b.built (λ n i w same k. f.built.whole n i w (b.root_is ∙ ap (λ x. Some x) same) k) in
          let now : IsWholeRoot log can.change f.rebuild = record {
            row = f.row;
            published = f.published;
            to = f.to;
            set = f.built.set;
            leaves = b.leaves;
            reached = b.reached;
            ref = b.ref;
            to_is = ap ref_of f.to ∙ b.root_is;
            rows = it.0;
            ideal = it.1;
          } in
          subst (λ n. IsWholeRoot (Install caller base rows ∷ log) can.change n)
          (cc (sym f.from ∙ from))
          (whole_on log (Install caller base rows) h can.change f.rebuild unr now)

  -- an undecided finish puts in a whole root
  pub finish_is_whole : (log : Log) → EachEnabled (start pairs words) log
      → (base : ℕ) (x : ChangeRow)
      → (state_of pairs words log).pieces base ≡ Some (Change x) → x.decision ≡ undecided
      → (rebuild : ℕ) → ref_of x.from ≡ Some (RebuildAt rebuild) → IsWholeRoot log x rebuild
  finish_is_whole = changes_by pairs words
      (λ log base x. x.decision ≡ undecided → (rebuild : ℕ) → ref_of x.from ≡ Some (RebuildAt rebuild) → IsWholeRoot log x rebuild)
      (λ log event h base x old there before none rebuild from. whole_on log event h x rebuild (finish_unreplaced pairs words opens log h.0 base x old none rebuild from) (before none rebuild from))
      (λ log caller base rows h can none rebuild from. whole_install log caller base rows h can rebuild from)
      (λ log caller base said h can before none. absurd (said_something said none))
