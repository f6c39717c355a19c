-- After each event but an Install leaves still lie where their keys lead. Serves the order law.
use Rattle.std.proofs.Common.{◌≡◌, ℕ, zero, suc, ◌⊎◌, List, length, replicate, slice_get, Some, None, refl, sym, ap, ◌∙◌, subst, inl, inr, arith}
use Rattle.ist_core.specs.Types.{LeafRow, InnerRow, Resolve}
use Rattle.ist_core.specs.WordTerms.{degree, anchor, Ref, Unset, LeafAt, InnerAt, ChangeAt, ref_of, word_of, unset_word, Pieces, Piece, Leaf, Inner, Change, changed_at, with_slot}
use Rattle.ist_core.specs.LogTerms.{Among, Each, Snapshot, after, side_of, resolved}
use Rattle.ist_core.specs.TreeTerms.{PlacedLeaf, CanResolve, IsRoot, root_whole, root_top, AllGrow}
use Rattle.ist_core.proofs.OptionLemmas.{each-among, same_value, same_inner}
use Rattle.ist_core.proofs.ReferenceLemmas.{ref_of-unset}
use Rattle.ist_core.proofs.GrowingLemmas.{leaf_there}
use Rattle.ist_core.proofs.StepLemmas.{rows_resolved, known}
use Rattle.ist_core.proofs.RoomLemmas.{anchor_slot}
use Rattle.ist_core.proofs.NamingLemmas.{WordsName}
use Rattle.ist_core.proofs.TreeLemmas.{IsTreeRow}
use Rattle.ist_core.proofs.HomeLemmas.{Says, Mentions, WasNamedOrIsNew, SaysCame, WordCame, AllCame, came_old, came-changed_at, came-with_slot, anchor_came, anchor_old}
use Rattle.ist_core.proofs.HomeStepLemmas.{word_mentioned}
use Rattle.ist_core.proofs.RisingLemmas.{AreRisingKeys}
use Rattle.ist_core.proofs.SplitLemmas.{key_of_leaf, ideal_splits}
use Rattle.ist_core.proofs.LeadingLemmas.{LiesIn, LeafLies, LeavesLie, mentioned_leaf, RowLies, split_lies}

-- each key that leads to a slot still leads to it after the event
abbrev pub LiesOn : Snapshot → Snapshot → Type 0
LiesOn t u = (key node i : ℕ) → LiesIn t key node i → LiesIn u key node i

-- if each named leaf was named before or lies where its key leads, then all leaves lie where their
-- keys lead
pub lies_from : (t u : Snapshot) → AllGrow t.pieces u.pieces → LiesOn t u → WordsName t → LeavesLie
    t → AllCame LeafAt t (LeafLies u) u.pieces → WordCame LeafAt t (LeafLies u) anchor 0
    (ref_of u.anchor) → LeavesLie u
unfolding AllCame SaysCame WordCame
lies_from t u grows on names lie all word = record
    { each = λ node i leaf m. from node i leaf (came node i leaf m) }
  where
    came : (node i leaf : ℕ) → Mentions u node i (LeafAt leaf) → WasNamedOrIsNew LeafAt t (LeafLies u) node i
        leaf
    came node i leaf (inl h) = grind (arith, WasNamedOrIsNew, LeafLies)
    came node i leaf (inr h) = all h.0 h.1 h.2 node i leaf h.3

    from : (node i leaf : ℕ) → WasNamedOrIsNew LeafAt t (LeafLies u) node i leaf → LeafLies u node i leaf
    from node i leaf (inl m) r e = let old = mentioned_leaf t node i leaf names m in
        let same : old.0 ≡ r = cc (leaf_there t.pieces u.pieces grows leaf old.0 old.1) in
        subst (λ x. LiesIn u x.key node i) same
        (on old.0.key node i (lie.each node i leaf m old.0 old.1))
    from node i leaf (inr new) r e = new r e

-- an event that leaves the rows and the anchor
pub lies_same : (t u : Snapshot) → AllGrow t.pieces u.pieces → LiesOn t u → WordsName t → LeavesLie
    t → u.anchor ≡ t.anchor → u.pieces ≡ t.pieces → LeavesLie u
lies_same t u grows on names lie word pieces = lies_from t u grows on names lie
    (subst (λ ps. AllCame LeafAt t (LeafLies u) ps) (sym pieces)
    (came_old LeafAt t (LeafLies u))) (anchor_old LeafAt t u (LeafLies u) word)

-- an event that changes one row, and no word that names a leaf
pub lies_changed : (t u : Snapshot) (at : ℕ) (f : Piece → Piece) → AllGrow t.pieces u.pieces →
    LiesOn t u
    → WordsName t → LeavesLie t → u.anchor ≡ t.anchor → u.pieces ≡ changed_at t.pieces at f
    → ((p : Piece) → SaysCame LeafAt t (LeafLies u) at p → SaysCame LeafAt t (LeafLies u) at (f p))
    → LeavesLie u
lies_changed t u at f grows on names lie word pieces keeps = lies_from t u grows on names lie
    (subst (λ ps. AllCame LeafAt t (LeafLies u) ps) (sym pieces)
    (came-changed_at LeafAt t (LeafLies u) t.pieces at f (came_old LeafAt t (LeafLies u))
    (λ p _ old. keeps p old)))
    (anchor_old LeafAt t u (LeafLies u) word)

-- ---- Resolve

-- after a Resolve leaves still lie where their keys lead
pub lies_resolve : (t : Snapshot) (caller base : ℕ) → (h : CanResolve t caller base)
    → t.pieces anchor ≡ None → WordsName t → AllGrow t.pieces (after t (Resolve caller base)).pieces
    → LiesOn t (after t (Resolve caller base)) → LeavesLie t
    → LeavesLie (after t (Resolve caller base))
lies_resolve t caller base h free names grows on lie = let change = h.change in
    let u = resolved t (Some change) in let New = LeafLies u in
    let side = word_mentioned LeafAt t New change.node change.index (ref_of (side_of change))
    (λ leaf e. inr (base, Change change, h.published, (refl, refl, either leaf e))) in
    let is = rows_resolved t caller base h in subst LeavesLie (sym is)
    (lies_from t u (subst (λ x. AllGrow t.pieces x.pieces) is grows) (subst (λ x. LiesOn t x) is on)
    names lie
    (came-changed_at LeafAt t New t.pieces change.node (with_slot change.index (side_of change))
    (came_old LeafAt t New) (λ p _ old. came-with_slot LeafAt t New change.node change.index
    (side_of change) p side old))
    (anchor_came LeafAt t u New change.node change.index (side_of change) refl
    (anchor_slot t change.node change.index (word_of (ChangeAt base)) free h.in_slot) side))
  where
    either : (leaf : ℕ) → ref_of (side_of h.change) ≡ Some (LeafAt leaf)
        → (ref_of h.change.from ≡ Some (LeafAt leaf)) ⊎ (ref_of h.change.to ≡ Some (LeafAt leaf))
    either leaf = grind arith

-- ---- rows of a tree

-- what a row of the tree names lies where its key leads
pub tree_says : (t u : Snapshot) (ps : Pieces) (rows : List ℕ) → Each (IsTreeRow ps) rows
    → Each (RowLies u) rows
    → ((base : ℕ) (r : InnerRow) → Among base rows → ps base ≡ Some (Inner r) → u.pieces base ≡ Some
    (Inner r))
    → (base : ℕ) (p : Piece) → Among base rows → ps base ≡ Some p → SaysCame LeafAt t (LeafLies u)
    base p
unfolding SaysCame
tree_says t u ps rows all lie stand base p i e =
    let it = each-among (IsTreeRow ps) base rows all i in
    known (λ x. (node j leaf : ℕ) → Says base x node j (LeafAt leaf) → WasNamedOrIsNew LeafAt t (LeafLies u)
    node j leaf) (ps base) p (Inner it.row) e it.published
    (λ node j leaf says.
    inr (subst (λ n. LeafLies u n j leaf) (sym says.0)
    (each-among (RowLies u) base rows lie i it.row (stand base it.row i it.published) j says.1
    leaf says.2 says.3)))

-- slots that aren't set name no leaf
unset_lies : (n i word leaf : ℕ) → slice_get (replicate n unset_word) i ≡ Some word
    → ref_of word ≡ Some (LeafAt leaf) → ⊥
unset_lies zero i word leaf e f = cc
unset_lies (suc n) zero word leaf e f = cc (same_value (ref_of word) Unset (LeafAt leaf)
    (let same : unset_word ≡ word = cc in ap ref_of (sym same) ∙ ref_of-unset) f)
unset_lies (suc n) (suc i) word leaf e f = unset_lies n i word leaf e f

-- the rows of a root, and the root itself
pub root_lies : (u : Snapshot) (ps : Pieces) (word k : ℕ) (leaves : List PlacedLeaf) (target : ℕ)
    (rows : List ℕ)
    → ((base : ℕ) (r : LeafRow) → ps base ≡ Some (Leaf r) → u.pieces base ≡ Some (Leaf r))
    → ((base : ℕ) (r : InnerRow) → Among base rows → ps base ≡ Some (Inner r) → u.pieces base ≡ Some
    (Inner r))
    → AreRisingKeys key_of_leaf leaves → (node i : ℕ)
    → ((ref : Ref) → ref_of word ≡ Some ref → Mentions u node i ref)
    → Each (λ leaf. LiesIn u (key_of_leaf leaf) node i) leaves → IsRoot ps word k leaves target rows
    → Each (RowLies u) rows × ((leaf : ℕ) → ref_of word ≡ Some (LeafAt leaf) → LeafLies u node i
    leaf)
root_lies u ps word k leaves target rows leaf_stands stand rise node i named lie
    (root_whole ref few e ideal) =
    let it = split_lies key_of_leaf ps u leaf_stands ref leaves rows
    (ideal_splits ps ref leaves target rows ideal) stand rise node i (named ref e) lie in
    (it.0, λ leaf f. it.1 leaf (same_value (ref_of word) ref (LeafAt leaf) e f))
root_lies u ps word k leaves target rows leaf_stands stand rise node i named lie
    (root_top base row many e top unset one) = (
      subst (λ bs. Each (RowLies u) bs) (sym one) (
        λ r f j w leaf at reads.
            let there = stand base row (subst (λ bs. Among base bs) (sym one) (inl refl)) top.published
            in
            let same = same_inner (u.pieces base) r row f there in
            absurd (unset_lies (degree (length leaves)) j w leaf
            (subst (λ ws. slice_get ws j ≡ Some w) (ap (λ x. x.slots) same ∙ unset) at) reads),
        tt,
      ),
      λ leaf f. absurd (cc (same_value (ref_of word) (InnerAt base) (LeafAt leaf) e f)),
    )
