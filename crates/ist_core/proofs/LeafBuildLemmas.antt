-- After a Root and a Place leaves still lie where their keys lead. Serves the order law.
use Rattle.std.proofs.Common.{◌≡◌, ℕ, ◌≤◌, List, length, drop, Some, None, option_map, refl, sym, ap, ◌∙◌, subst, inl, inr}
use Rattle.ist_core.specs.Types.{Row, LeafRow, InnerRow, RebuildRow, Root, Place}
use Rattle.ist_core.specs.WordTerms.{anchor, LeafAt, InnerAt, ref_of, parts, first_keys, Pieces, Leaf, Inner, Rebuild, with_inners, changed_at, with_slot, with_root}
use Rattle.ist_core.specs.LogTerms.{Among, Each, Snapshot, bases_of, after}
use Rattle.ist_core.specs.TreeTerms.{PlacedLeaf, HasLeaves, CanRoot, CanPlace, AllGrow}
use Rattle.ist_core.proofs.MoveLemmas.{HeldLieApart}
use Rattle.ist_core.proofs.StepLemmas.{adds-with_inners, held_free, rows_placed, known}
use Rattle.ist_core.proofs.GrowingLemmas.{inner_there}
use Rattle.ist_core.proofs.OptionLemmas.{changed_at-same, changed_at-other, same_value, no_value}
use Rattle.ist_core.proofs.SlotStepLemmas.{place_writes}
use Rattle.ist_core.proofs.NamingLemmas.{WordsName}
use Rattle.ist_core.proofs.NamingStepLemmas.{changed_at-fixed}
use Rattle.ist_core.proofs.TreeLemmas.{root_tree, tree_of_ideal, tree_rows}
use Rattle.ist_core.proofs.UnderLemmas.{same_leaves, leaves_under, each_mapped}
use Rattle.ist_core.proofs.HomeLemmas.{Mentions, HasOneHome, slot_mentions, SaysCame, AllCame, came_old, came_added, came-changed_at, came-with_slot, came-with_root, anchor_old}
use Rattle.ist_core.proofs.HomeStepLemmas.{word_new}
use Rattle.ist_core.proofs.RisingLemmas.{AreRisingKeys, parts_rise, part_rises}
use Rattle.ist_core.proofs.SplitLemmas.{key_of_leaf, ideal_splits}
use Rattle.ist_core.proofs.LeadingLemmas.{LiesIn, LeafLies, LeavesLie, parts_lie, split_lies}
use Rattle.ist_core.proofs.RootKeyLemmas.{IsCutBy}
use Rattle.ist_core.proofs.LeafStepLemmas.{LiesOn, lies_from, tree_says, root_lies}

-- the leaves of a rebuild's target lie in the slot that the rebuild is for, and their keys are
-- strictly increasing
pub target_lies : (t : Snapshot) (rebuild : ℕ) (row : RebuildRow) (leaves : List PlacedLeaf)
    → t.pieces rebuild ≡ Some (Rebuild row) → WordsName t → HasOneHome t
    → t.pieces anchor ≡ None → LeavesLie t → HasLeaves t.pieces (Some (InnerAt row.target)) leaves
    → Each (λ leaf. LiesIn t (key_of_leaf leaf) row.parent row.index) leaves × AreRisingKeys key_of_leaf
    leaves
target_lies t rebuild row leaves there names home free lie reached =
    leaves_under t (Some (InnerAt row.target)) leaves names home free lie reached row.parent
    row.index
    record {
      a_leaf = λ base e. absurd (cc);
      a_row = λ base e. inr (rebuild, Rebuild row, there, (refl, refl, inl (cc)));
    }

-- a Root puts a tree over the leaves of its target where they lie
pub lies_root : (t : Snapshot) (caller rebuild word : ℕ) (rows : List Row)
    → (h : CanRoot t caller rebuild word rows) → HeldLieApart t → WordsName t → HasOneHome t
    → t.pieces anchor ≡ None → AllGrow t.pieces (after t (Root caller rebuild word rows)).pieces
    → LiesOn t (after t (Root caller rebuild word rows)) → LeavesLie t
    → LeavesLie (after t (Root caller rebuild word rows))
lies_root t caller rebuild word rows h sound names home free grows on lie =
    let u = after t (Root caller rebuild word rows) in let qs = with_inners t.pieces rows in
    let rs = changed_at qs rebuild (with_root word) in let New = LeafLies u in
    let bases = bases_of rows in let adds = adds-with_inners t caller rows h.held sound in
    let tree = root_tree qs word h.k h.leaves h.row.target bases h.root in
    let stood = adds.keeps rebuild (Rebuild h.row) h.published in
    let now : rs rebuild ≡ Some (Rebuild record h.row { root = word }) = rooted qs stood in
    let inner : (base : ℕ) (r : InnerRow) → Among base bases → qs base ≡ Some (Inner r) → rs base ≡
    Some (Inner r) = λ base r i e. changed_at-fixed qs rebuild base (with_root word) (Inner r) e
    refl in
    let under = target_lies t rebuild h.row h.leaves h.published names home free lie h.reached in
    let led = each_mapped (λ leaf. LiesIn t (key_of_leaf leaf) h.row.parent h.row.index)
    (λ leaf. LiesIn u (key_of_leaf leaf) h.row.parent h.row.index) h.leaves
    (λ leaf lies. on (key_of_leaf leaf) h.row.parent h.row.index lies) under.0 in
    let built = root_lies u qs word h.k h.leaves h.row.target bases
    (λ base r e. changed_at-fixed qs rebuild base (with_root word) (Leaf r) e refl) inner
    under.1 h.row.parent h.row.index
    (λ ref e. inr (rebuild, Rebuild record h.row { root = word }, now, (refl, refl, inr e))) led
    h.root in
    let all = came_added LeafAt t New t.pieces qs (λ base p. Among base bases) adds
    (came_old LeafAt t New)
    (λ base p i e. tree_says t u qs bases (tree_rows qs tree.0 h.row.target bases tree.2) built.0
    inner base p i e) in
    let root = word_new LeafAt t New h.row.parent h.row.index (ref_of word) built.1 in
    lies_from t u grows on names lie
    (came-changed_at LeafAt t New qs rebuild (with_root word) all
    (λ p e old. known (λ x. SaysCame LeafAt t New rebuild x → SaysCame LeafAt t New rebuild
    (with_root word x)) (qs rebuild) p (Rebuild h.row) e stood
    (λ k. came-with_root LeafAt t New rebuild word h.row root k) old))
    (anchor_old LeafAt t u New refl)
  where
    rooted : (qs : Pieces) → qs rebuild ≡ Some (Rebuild h.row)
        → changed_at qs rebuild (with_root word) rebuild ≡ Some
        (Rebuild record h.row { root = word })
    rooted qs e = changed_at-same qs rebuild (with_root word) ∙ ap (option_map (with_root word)) e

-- a Place puts a tree over a part of these leaves into the slot of this part
pub lies_place : (t : Snapshot) (caller rebuild i word : ℕ) (rows : List Row)
    → (h : CanPlace t caller rebuild i word rows) → HeldLieApart t → WordsName t → HasOneHome t
    → t.pieces anchor ≡ None → AllGrow t.pieces (after t (Place caller rebuild i word rows)).pieces
    → LiesOn t (after t (Place caller rebuild i word rows))
    → ((node j : ℕ) → Mentions t node j (InnerAt h.root) → Mentions
    (after t (Place caller rebuild i word rows)) node j (InnerAt h.root))
    → IsCutBy t h.row.target h.root_row → LeavesLie t
    → LeavesLie (after t (Place caller rebuild i word rows))
lies_place t caller rebuild i word rows h sound names home free grows on stay cut lie =
    let u = after t (Place caller rebuild i word rows) in let qs = with_inners t.pieces rows in
    let f = with_slot i word in let New = LeafLies u in let bases = bases_of rows in
    let pieces = rows_placed t caller rebuild i word rows h in
    let adds = adds-with_inners t caller rows h.held sound in
    let tree = tree_of_ideal qs h.ref h.part h.root bases h.ideal in
    let leaf : (base : ℕ) (r : LeafRow) → qs base ≡ Some (Leaf r) → u.pieces base ≡ Some (Leaf r) =
    λ base r e. subst (λ ps. ps base ≡ Some (Leaf r)) (sym pieces)
    (changed_at-fixed qs h.root base f (Leaf r) e refl) in
    let inner : (base : ℕ) (r : InnerRow) → Among base bases → qs base ≡ Some (Inner r) → u.pieces
    base ≡ Some (Inner r) =
    λ base r k e. subst (λ ps. ps base ≡ Some (Inner r)) (sym pieces)
    (changed_at-other qs h.root base f
    (λ same. no_value (t.pieces h.root) (Inner h.root_row)
    (subst (λ b. t.pieces b ≡ None) same (held_free t caller rows h.held sound base k))
    h.root_published) ∙ e) in
    let under = target_lies t rebuild h.row h.leaves h.published names home free lie h.reached in
    let led = each_mapped (λ x. LiesIn t (key_of_leaf x) h.row.parent h.row.index)
    (λ x. LiesIn u (key_of_leaf x) h.row.parent h.row.index) h.leaves
    (λ x lies. on (key_of_leaf x) h.row.parent h.row.index lies) under.0 in
    let root = inner_there t.pieces u.pieces grows h.root h.root_row h.root_published in
    let same = same_leaves t.pieces (Some (InnerAt h.row.target)) cut.leaves h.leaves cut.reached
    h.reached in
    let two = subst (λ xs. 2 ≤ length xs) same cut.two in
    let keys = root.2.keys ∙ cut.keys ∙ ap (λ xs. first_keys key_of_leaf (drop 1 (parts xs))) same
    in
    let named : Mentions u h.row.parent h.row.index (InnerAt h.root) = stay h.row.parent h.row.index
    (inr (rebuild, Rebuild h.row, h.published, (refl, refl, inr h.root_is))) in
    let here = parts_lie key_of_leaf qs u leaf h.leaves h.row.parent h.row.index h.root root.0
    root.1 named two keys under.1 led i h.part h.part_is in
    let slot = slot_mentions u h.root i word h.ref
    (place_writes t caller rebuild i word rows h sound free).now h.ref_is in
    let built = split_lies key_of_leaf qs u leaf h.ref h.part bases
    (ideal_splits qs h.ref h.part h.root bases h.ideal) inner
    (part_rises key_of_leaf (parts h.leaves) i h.part
    (parts_rise key_of_leaf h.leaves two under.1) h.part_is) h.root i slot here in
    let all = came_added LeafAt t New t.pieces qs (λ base p. Among base bases) adds
    (came_old LeafAt t New)
    (λ base p k e. tree_says t u qs bases (tree_rows qs h.ref h.root bases tree) built.0 inner base
    p k e) in
    let written = word_new LeafAt t New h.root i (ref_of word)
    (λ x e. built.1 x (same_value (ref_of word) h.ref (LeafAt x) h.ref_is e)) in
    lies_from t u grows on names lie
    (subst (λ ps. AllCame LeafAt t New ps) (sym pieces)
    (came-changed_at LeafAt t New qs h.root f all
    (λ p _ old. came-with_slot LeafAt t New h.root i word p written old)))
    (anchor_old LeafAt t u New refl)
