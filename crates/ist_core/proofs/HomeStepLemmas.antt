-- Each event keeps the conjunct `one_home`. Serves the one-parent law.
use Rattle.std.proofs.Common.{◌≡◌, ◌≢◌, ℕ, ◌⊎◌, List, Option, Some, None, refl, sym, subst, inl, inr, ◌-◌, ◌≤◌, [], ◌∷◌, ⊎_elim, arith}
use Rattle.ist_core.specs.Types.{Row, Resolve, Root, Place, Pair, ChangeRow}
use Rattle.ist_core.specs.WordTerms.{anchor, Ref, InnerAt, ChangeAt, ref_of, word_of, Pieces, Piece, Change, Rebuild, with_inners, changed_at, with_slot, with_root, first_row, words_of, size_of, row_at, inner_of, StandsAt, start}
use Rattle.ist_core.specs.LogTerms.{Among, Each, Snapshot, bases_of, after, side_of, resolved, Log, EachEnabled, state_of}
use Rattle.ist_core.specs.TreeTerms.{CanResolve, CanRoot, CanPlace, FitsKind, a_put, a_pair, a_remove, a_start, a_finish, Apart, IsWithin, RowsStand}
use Rattle.ist_core.proofs.OptionLemmas.{each-among, with_inners-some}
use Rattle.ist_core.proofs.MoveLemmas.{HeldLieApart}
use Rattle.ist_core.proofs.StepLemmas.{adds-with_inners, held_free, IsInstalledWith, rows_resolved, rows_placed, known}
use Rattle.ist_core.proofs.RoomLemmas.{anchor_slot}
use Rattle.ist_core.proofs.NamingLemmas.{WordsName}
use Rattle.ist_core.proofs.TreeLemmas.{IsTreeRow, root_tree, tree_of_ideal, tree_rows}
use Rattle.ist_core.proofs.BranchLemmas.{HangsIn, hangs_among, hangs_once}
use Rattle.ist_core.proofs.HomeLemmas.{Says, Mentions, HasOneHome, WasNamedOrIsNew, SaysCame, WordCame, AllCame, AreNew, came_old, came_added, came-changed_at, came-with_slot, came-with_root, one_home_from, anchor_came, anchor_old}
use Rattle.std.proofs.lemmas.List.{take-append-drop}
use Rattle.ist_core.proofs.PlaceLemmas.{claimed_within, claimed_apart, placed, next_after_fixed}

-- nothing new
abbrev pub NoneNew : ℕ → ℕ → ℕ → Type 0
NoneNew node i child = ⊥

none_new : (t : Snapshot) → AreNew t NoneNew
none_new t = record { unpublished = λ node i child h. absurd h; one = λ n i k j child h l. absurd h }

-- a word that names no row of the kind
pub word_of_other : (of : ℕ → Ref) (t : Snapshot) (New : ℕ → ℕ → ℕ → Type 0) (node i : ℕ) (word : Option Ref)
    (ref : Ref) → word ≡ Some ref → ((child : ℕ) → ref ≢ of child) → WordCame of t New node i word
unfolding WordCame
word_of_other of t New node i word ref e other child f = absurd (other child (cc))

-- a word that is named already
pub word_mentioned : (of : ℕ → Ref) (t : Snapshot) (New : ℕ → ℕ → ℕ → Type 0) (node i : ℕ) (word : Option Ref)
    → ((child : ℕ) → word ≡ Some (of child) → Mentions t node i (of child))
    → WordCame of t New node i word
unfolding WordCame
word_mentioned of t New node i word h child e = inl (h child e)

-- a word that is new
pub word_new : (of : ℕ → Ref) (t : Snapshot) (New : ℕ → ℕ → ℕ → Type 0) (node i : ℕ) (word : Option Ref)
    → ((child : ℕ) → word ≡ Some (of child) → New node i child) → WordCame of t New node i word
unfolding WordCame
word_new of t New node i word h child e = inr (h child e)

-- ---- one row changed

-- an event that changes one row and names nothing new leaves each inner row one home
pub one_home_changed : (t u : Snapshot) (at : ℕ) (f : Piece → Piece) → u.anchor ≡ t.anchor
    → u.pieces ≡ changed_at t.pieces at f
    → ((New : ℕ → ℕ → ℕ → Type 0) (p : Piece) → SaysCame InnerAt t New at p → SaysCame InnerAt t New at (f p))
    → WordsName t → HasOneHome t → HasOneHome u
one_home_changed t u at f word pieces keeps names home =
    one_home_from t u NoneNew home names (none_new t)
    (subst (λ ps. AllCame InnerAt t NoneNew ps) (sym pieces)
    (came-changed_at InnerAt t NoneNew t.pieces at f (came_old InnerAt t NoneNew)
    (λ p _ old. keeps NoneNew p old)))
    (anchor_old InnerAt t u NoneNew word)

-- ---- Resolve

-- a Resolve leaves each inner row one home
pub one_home_resolve : (t : Snapshot) (caller base : ℕ) → (h : CanResolve t caller base)
    → t.pieces anchor ≡ None → WordsName t → HasOneHome t
    → HasOneHome (after t (Resolve caller base))
one_home_resolve t caller base h free names home = let change = h.change in
    let side = word_mentioned InnerAt t NoneNew change.node change.index (ref_of (side_of change))
    (λ child e. inr (base, Change change, h.published, (refl, refl, either child e))) in
    let u = resolved t (Some change) in subst HasOneHome (sym (rows_resolved t caller base h))
    (one_home_from t u NoneNew home names (none_new t)
    (came-changed_at InnerAt t NoneNew t.pieces change.node
    (with_slot change.index (side_of change)) (came_old InnerAt t NoneNew)
    (λ p _ old. came-with_slot InnerAt t NoneNew change.node change.index (side_of change) p
    side old))
    (anchor_came InnerAt t u NoneNew change.node change.index (side_of change) refl
    (anchor_slot t change.node change.index (word_of (ChangeAt base)) free h.in_slot) side))
  where
    either : (child : ℕ) → ref_of (side_of h.change) ≡ Some (InnerAt child)
        → (ref_of h.change.from ≡ Some (InnerAt child)) ⊎
        (ref_of h.change.to ≡ Some (InnerAt child))
    either child = grind arith

-- ---- rows of a tree

-- what a row of the tree names hangs in the tree
tree_says : (t : Snapshot) (ps : Pieces) (parent at : ℕ) (ref : Ref) (rows : List ℕ)
    → Each (IsTreeRow ps) rows → (base : ℕ) (p : Piece) → Among base rows → ps base ≡ Some p
    → SaysCame InnerAt t (HangsIn ps parent at ref rows) base p
unfolding SaysCame
tree_says t ps parent at ref rows all base p i e =
    grind (arith, each-among, IsTreeRow, known, Says, WasNamedOrIsNew, HangsIn)

-- a Root leaves each inner row one home
pub one_home_root : (t : Snapshot) (caller rebuild word : ℕ) (rows : List Row)
    → (h : CanRoot t caller rebuild word rows) → HeldLieApart t → WordsName t → HasOneHome t
    → HasOneHome (after t (Root caller rebuild word rows))
one_home_root t caller rebuild word rows h sound names home =
    let u = after t (Root caller rebuild word rows) in let qs = with_inners t.pieces rows in
    let bases = bases_of rows in let adds = adds-with_inners t caller rows h.held sound in
    let tree = root_tree qs word h.k h.leaves h.row.target bases h.root in
    let New = HangsIn qs h.row.parent h.row.index tree.0 bases in
    let all = came_added InnerAt t New t.pieces qs (λ base p. Among base bases) adds (came_old InnerAt t New)
    (λ base p i e. tree_says t qs h.row.parent h.row.index tree.0 bases (tree_rows qs tree.0 h.row.target bases tree.2) base p i e) in
    let stands = adds.keeps rebuild (Rebuild h.row) h.published in
    let root = word_new InnerAt t New h.row.parent h.row.index (ref_of word)
    (λ child e. inl (refl, refl, (cc (tree.1)))) in
    one_home_from t u New home names
    record {
      unpublished = λ node i child x. held_free t caller rows h.held sound child
          (hangs_among qs h.row.parent h.row.index tree.0 h.row.target bases node i child tree.2 x);
      one = λ n i k j child x y. hangs_once qs h.row.parent h.row.index tree.0 h.row.target bases n i k j child tree.2 h.once x y;
    }
    (came-changed_at InnerAt t New qs rebuild (with_root word) all
    (λ p e old. known (λ x. SaysCame InnerAt t New rebuild x → SaysCame InnerAt t New rebuild
    (with_root word x)) (qs rebuild) p (Rebuild h.row) e stands
    (λ k. came-with_root InnerAt t New rebuild word h.row root k) old))
    (anchor_old InnerAt t u New refl)

-- a Place leaves each inner row one home
pub one_home_place : (t : Snapshot) (caller rebuild i word : ℕ) (rows : List Row)
    → (h : CanPlace t caller rebuild i word rows) → HeldLieApart t → WordsName t → HasOneHome t
    → HasOneHome (after t (Place caller rebuild i word rows))
one_home_place t caller rebuild i word rows h sound names home =
    let u = after t (Place caller rebuild i word rows) in let qs = with_inners t.pieces rows in
    let bases = bases_of rows in let adds = adds-with_inners t caller rows h.held sound in
    let tree = tree_of_ideal qs h.ref h.part h.root bases h.ideal in
    let New = HangsIn qs h.root i h.ref bases in
    let all = came_added InnerAt t New t.pieces qs (λ base p. Among base bases) adds (came_old InnerAt t New)
    (λ base p k e. tree_says t qs h.root i h.ref bases (tree_rows qs h.ref h.root bases tree) base p k e) in
    let slot = word_new InnerAt t New h.root i (ref_of word) (λ child e. inl (refl, refl, (cc (h.ref_is)))) in
    one_home_from t u New home names
    record {
      unpublished = λ node j child x. held_free t caller rows h.held sound child (hangs_among qs h.root i h.ref h.root bases node j child tree x);
      one = λ n l k j child x y. hangs_once qs h.root i h.ref h.root bases n l k j child tree h.once x y;
    }
    (subst (λ ps. AllCame InnerAt t New ps) (sym (rows_placed t caller rebuild i word rows h))
    (came-changed_at InnerAt t New qs h.root (with_slot i word) all (λ p _ old. came-with_slot InnerAt t New h.root i word p slot old)))
    (anchor_old InnerAt t u New refl)

-- ---- which words the rows that an event publishes have in the image, and that a state's rows lie apart.
-- Serves `laws.one_word_is_written`.

-- ---- rows that are published

-- the words of a row, if there is one
pub words_in : Option Piece → List ℕ
words_in (Some q) = words_of q
words_in None = []

-- an inner row has the words that it was read from
pub words_of-inner_of : (words : List ℕ) (p : Piece) → inner_of words ≡ Some p → words_of p ≡ words
unfolding words_in
words_of-inner_of [] p e = absurd (cc)
words_of-inner_of (a ∷ []) p e = absurd (cc)
words_of-inner_of (a ∷ b ∷ []) p e = absurd (cc)
words_of-inner_of (a ∷ b ∷ c ∷ []) p e = absurd (cc)
words_of-inner_of (status ∷ count ∷ degree ∷ size ∷ rest) p e = grind (arith, take-append-drop)

-- if the words of these rows are in the table, so is the row at a base that has the words of one of
-- them
pub row_stands : (words : List ℕ) (rows : List Row) (row : Row) (base : ℕ) (p : Piece)
    → RowsStand words rows → Among row rows → row.base ≡ base → row.words ≡ words_of p
    → StandsAt words base p
row_stands words rows row base p all i here is k less = grind (arith, each-among)

-- published inner rows are in the table
pub inners_stand : (ps : Pieces) (words : List ℕ) (rows : List Row) → RowsStand words rows
    → ((base : ℕ) (p : Piece) → ps base ≡ Some p → StandsAt words base p)
    → (base : ℕ) (p : Piece) → with_inners ps rows base ≡ Some p → StandsAt words base p
inners_stand ps words rows all old base p e =
    grind (arith, row_stands, words_of-inner_of, with_inners-some)

-- a row of an Install is one of those that it publishes
pub installed_row : (first : Snapshot) (log : Log) (at : ℕ) (change : ChangeRow) (fresh : List Row)
    (fits : FitsKind first log change fresh) (base : ℕ) (p : Piece)
    → IsInstalledWith first log at change fresh fits base p
    → Among (row_at base p) (row_at at (Change change) ∷ fresh)
installed_row first log at change fresh fits base p (inl h) = inl (λ i. row_at (h.0 i) (h.1 i))
installed_row first log at change fresh (a_put f) base p (inr h) = grind arith
installed_row first log at change fresh (a_pair f) base p (inr (inl h)) = grind arith
installed_row first log at change fresh (a_pair f) base p (inr (inr h)) = grind arith
installed_row first log at change fresh (a_remove f) base p (inr h) = absurd h
installed_row first log at change fresh (a_start f) base p (inr h) = grind arith
installed_row first log at change fresh (a_finish f) base p (inr h) = absurd h

-- ---- where the rows of a state lie

-- rows lie within the table and apart
pub record RowsApart (u : Snapshot) : Type 0 where
  pub low_next : first_row ≤ u.next
  -- each row lies after the fixed words and below the first free word
  pub within : (base : ℕ) (p : Piece) → u.pieces base ≡ Some p → IsWithin u base (size_of p)
  -- two rows at different bases share no word
  pub apart : (base other : ℕ) (p q : Piece) → u.pieces base ≡ Some p → u.pieces other ≡ Some q
      → base ≢ other → Apart base (size_of p) other (size_of q)

-- the rows after a log from a new table lie apart
pub rows_apart : (pairs : List Pair) (words : ℕ) (log : Log) → EachEnabled (start pairs words) log
    → RowsApart (state_of pairs words log)
rows_apart pairs words log h = let k = placed pairs words log h in record {
  low_next = next_after_fixed pairs words log h;
  within = λ base p e. claimed_within pairs words log base (size_of p) h (k.published base p e);
  apart = λ base other p q e f differ. ⊎_elim (λ same. absurd (differ same.0)) (λ a. a.1)
      (claimed_apart pairs words log base (size_of p) other (size_of q) h (k.published base p e)
      (k.published other q f));
}
