-- After an Install leaves still lie where their keys lead. Serves the order law.
use Rattle.std.proofs.Common.{◌≡◌, ◌≢◌, ℕ, zero, suc, ◌<◌, ◌≤◌, ◌⊎◌, nat_lt, if◌then◌else◌, true, false, List, [], ◌∷◌, slice_get, Some, refl, sym, ap, ◌∙◌, subst, inl, inr, ⊎_elim, arith}
use Rattle.ist_core.specs.Types.{Row, LeafRow, InnerRow, ChangeRow}
use Rattle.ist_core.specs.WordTerms.{child_count, Ref, Empty, LeafAt, InnerAt, RebuildAt, IsGoodBase, ref_of, word_of, Pieces, Piece, Leaf, Inner, Change, SlotHolds, of_row}
use Rattle.ist_core.specs.LogTerms.{Snapshot, Log, state}
use Rattle.ist_core.specs.TreeTerms.{new_leaf, pair_row, pair_over, ComesByKey, PutsPair, FitsKind, a_put, a_pair, a_remove, a_start, a_finish, AllGrow}
use Rattle.ist_core.proofs.ReferenceLemmas.{ref_of-unset, ref_of-word_of}
use Rattle.ist_core.proofs.GrowingLemmas.{leaf_there, inner_there}
use Rattle.ist_core.proofs.FreshLemmas.{IsPublishedWith}
use Rattle.ist_core.proofs.StepLemmas.{IsInstalledWith}
use Rattle.ist_core.proofs.HomeLemmas.{Says, Mentions, slot_mentions, WasNamedOrIsNew, SaysCame, WordCame}
use Rattle.ist_core.proofs.HomeStepLemmas.{word_of_other, word_mentioned, word_new}
use Rattle.ist_core.proofs.RisingLemmas.{child_count-low, child_count-none}
use Rattle.ist_core.proofs.LeadingLemmas.{to_child, LiesIn, LeafLies, LeavesLie}
use Rattle.ist_core.proofs.LeafStepLemmas.{LiesOn}
use Rattle.ist_core.proofs.OptionLemmas.{same_leaf}
use Rattle.std.proofs.lemmas.Bool.Decides.{leb_tells}

-- ---- a pair row

-- the key of each leaf at the base
abbrev KeyIs : Snapshot → ℕ → ℕ → Type 0
KeyIs u base key = (r : LeafRow) → u.pieces base ≡ Some (Leaf r) → r.key ≡ key

-- of two keys in order, each leads to its slot of the pair row over them
module _ (u : Snapshot) (node i pair : ℕ) (named : Mentions u node i (InnerAt pair)) where
  below_pair : (key j : ℕ) (s : InnerRow) → u.pieces pair ≡ Some (Inner s) → LiesIn u key node i
      → j ≡ child_count s.keys key → LiesIn u key pair j
  below_pair key j s e lies is = record
      { led = to_child i lies.led lies.child_for named; child_for = of_row s e is }

  over_lies : (left_key left right_key right : ℕ) (s : InnerRow)
      → u.pieces pair ≡ Some (Inner s) → s.keys ≡ right_key ∷ [] → left_key < right_key
      → IsGoodBase left → IsGoodBase right → KeyIs u left left_key → KeyIs u right right_key
      → LiesIn u left_key node i → LiesIn u right_key node i → (j word leaf : ℕ)
      → slice_get (word_of (LeafAt left) ∷ word_of (LeafAt right) ∷ []) j ≡ Some word
      → ref_of word ≡ Some (LeafAt leaf) → LeafLies u pair j leaf
  over_lies left_key left right_key right s e keys less gl gr kl kr ll lr zero word leaf at reads r
      there =
      let word_is : word_of (LeafAt left) ≡ word = cc in
      let here : left ≡ leaf = cc (sym (ref_of-word_of (LeafAt left) gl) ∙ ap ref_of word_is ∙
      reads) in
      let key = kl r (subst (λ b. u.pieces b ≡ Some (Leaf r)) (sym here) there) in
      subst (λ k. LiesIn u k pair 0) (sym key)
      (below_pair left_key 0 s e ll (sym
      (ap (λ ks. child_count ks left_key) keys ∙ child_count-none (right_key ∷ []) left_key
      (less, tt))))
  over_lies left_key left right_key right s e keys less gl gr kl kr ll lr (suc zero) word leaf at
      reads r there =
      let word_is : word_of (LeafAt right) ≡ word = cc in
      let here : right ≡ leaf = cc (sym (ref_of-word_of (LeafAt right) gr) ∙ ap ref_of word_is ∙
      reads) in
      let key = kr r (subst (λ b. u.pieces b ≡ Some (Leaf r)) (sym here) there) in
      let count : child_count (right_key ∷ []) right_key ≡ 1 = child_count-low right_key []
      right_key (omega arith) in
      subst (λ k. LiesIn u k pair 1) (sym key)
      (below_pair right_key 1 s e lr (sym (ap (λ ks. child_count ks right_key) keys ∙ count)))
  over_lies left_key left right_key right s e keys less gl gr kl kr ll lr (suc (suc j)) word leaf at
      reads r there = absurd (cc)

  -- what the pair row of a put names
  row_of : ℕ → ℕ → ℕ → InnerRow
  row_of key left right = record {
    status = 0;
    count = 0;
    degree = 2;
    size = 2;
    keys = key ∷ [];
    slots = word_of (LeafAt left) ∷ word_of (LeafAt right) ∷ [];
  }

  pair_lies : (t : Snapshot) (qs : Pieces) → AllGrow qs u.pieces
      → (key base other_key other : ℕ) → other_key ≢ key
      → qs pair ≡ Some (pair_row key base other_key other)
      → IsGoodBase base → IsGoodBase other → KeyIs u base key → KeyIs u other other_key
      → LiesIn u key node i → LiesIn u other_key node i
      → SaysCame LeafAt t (LeafLies u) pair (pair_row key base other_key other)
  unfolding SaysCame row_of
  pair_lies t qs grows key base other_key other differ stood gb go kb ko lb lo = at
      (leb_tells (suc other_key) key) stood
    where
      over : (left_key left right_key right : ℕ)
          → qs pair ≡ Some (pair_over right_key left right) → left_key < right_key
          → IsGoodBase left → IsGoodBase right → KeyIs u left left_key → KeyIs u right right_key
          → LiesIn u left_key node i → LiesIn u right_key node i
          → (n j leaf : ℕ) → Says pair (pair_over right_key left right) n j (LeafAt leaf)
          → WasNamedOrIsNew LeafAt t (LeafLies u) n j leaf
      over left_key left right_key right there less gl gr kl kr ll lr n j leaf says =
          let it = inner_there qs u.pieces grows pair (row_of right_key left right) there in
          inr (subst (λ b. LeafLies u b j leaf) (sym says.0)
          (over_lies left_key left right_key right it.0 it.1 it.2.keys less gl gr kl kr ll lr j
          says.1 leaf says.2 says.3))

      at : ((nat_lt other_key key ≡ true) × (suc other_key ≤ key)) ⊎
          ((nat_lt other_key key ≡ false) × (key < suc other_key))
          → qs pair ≡ Some (pair_row key base other_key other)
          → (n j leaf : ℕ) → Says pair (pair_row key base other_key other) n j (LeafAt leaf)
          → WasNamedOrIsNew LeafAt t (LeafLies u) n j leaf
      at (inl d) there =
          let is : pair_row key base other_key other ≡ pair_over key other base = ap
          (λ v. if v then pair_over key other base else pair_over other_key base other) d.0 in
          let less = d.1 in
          subst (λ p. (n j leaf : ℕ) → Says pair p n j (LeafAt leaf) → WasNamedOrIsNew LeafAt t (LeafLies u) n
          j leaf) (sym is)
          (over other_key other key base (there ∙ ap (λ x. Some x) is) (omega arith) go gb ko kb lo
          lb)
      at (inr d) there =
          let is : pair_row key base other_key other ≡ pair_over other_key base other = ap
          (λ v. if v then pair_over key other base else pair_over other_key base other) d.0 in
          let least = d.1 in
          subst (λ p. (n j leaf : ℕ) → Says pair p n j (LeafAt leaf) → WasNamedOrIsNew LeafAt t (LeafLies u) n
          j leaf) (sym is)
          (over key base other_key other (there ∙ ap (λ x. Some x) is) (omega arith) gb go kb ko lb
          lo)

-- ---- all rows of an Install

module _ (first : Snapshot) (log : Log) (at : ℕ) (change : ChangeRow) (fresh : List Row)
    (u : Snapshot) (qs : Pieces) (grows : AllGrow qs u.pieces)
    (old_grows : AllGrow (state first log).pieces u.pieces)
    (on : LiesOn (state first log) u) (lie : LeavesLie (state first log))
    (in_slot : SlotHolds (state first log) change.node change.index change.from)
    (stands : u.pieces at ≡ Some (Change change)) where
  -- the leaf that is taken out is named already
  from_came : WordCame LeafAt (state first log) (LeafLies u) change.node change.index
      (ref_of change.from)
  unfolding WordCame
  from_came leaf e = grind (arith, slot_mentions)

  -- the fresh leaf has the key of the put
  fresh_key : (leaf : ℕ) → qs leaf ≡ Some (new_leaf change) → KeyIs u leaf change.key
  fresh_key leaf there r e = grind (arith, same_leaf, leaf_there)

  -- a word that names no leaf
  other_came : (ref : Ref) → ref_of change.to ≡ Some ref → ((leaf : ℕ) → ref ≢ LeafAt leaf)
      → WordCame LeafAt (state first log) (LeafLies u) change.node change.index (ref_of change.to)
  other_came ref e other = grind (arith, word_of_other, LeafLies)

  module _ (led : ComesByKey first log change → LiesIn u change.key change.node change.index)
      (good : (base : ℕ) (p : Piece) → qs base ≡ Some p → IsGoodBase base) where
    to_came : (fits : FitsKind first log change fresh)
        → ((base : ℕ) (p : Piece) → IsPublishedWith first log change fresh fits base p → qs base ≡ Some p)
        → WordCame LeafAt (state first log) (LeafLies u) change.node change.index (ref_of change.to)
    to_came (a_put h) stood =
        word_new LeafAt (state first log) (LeafLies u) change.node change.index (ref_of change.to)
        (λ leaf e r there. let here : leaf ≡ h.leaf = cc (h.to) in
        subst (λ k. LiesIn u k change.node change.index)
        (sym (fresh_key leaf (stood leaf (new_leaf change) (here, refl)) r there))
        (led h.by_key))
    to_came (a_pair h) stood = other_came (InnerAt h.pair) h.to (λ leaf e. cc)
    to_came (a_remove h) stood = other_came Empty h.to (λ leaf e. cc)
    to_came (a_start h) stood = other_came (RebuildAt h.rebuild) h.to (λ leaf e. cc)
    to_came (a_finish h) stood = grind (arith, word_mentioned, LeafLies)

    -- the pair row of a put
    put_pair_lies : (h : PutsPair first log change fresh)
        → qs h.pair ≡ Some (pair_row change.key h.leaf h.other_key h.other)
        → qs h.leaf ≡ Some (new_leaf change) → qs h.other ≡ Some (Leaf h.stands.row)
        → SaysCame LeafAt (state first log) (LeafLies u) h.pair
        (pair_row change.key h.leaf h.other_key h.other)
    put_pair_lies h pair leaf other = let t = state first log in
        let old = lie.each change.node change.index h.other
        (slot_mentions t change.node change.index change.from (LeafAt h.other) in_slot h.from)
        h.stands.row h.stands.published in
        let lies = on h.stands.row.key change.node change.index old in
        pair_lies u change.node change.index h.pair
        (inr (at, Change change, stands, (refl, refl, inr h.to))) t qs grows change.key h.leaf
        h.other_key h.other h.differs pair
        (good h.leaf (new_leaf change) leaf) (good h.other (Leaf h.stands.row) other)
        (fresh_key h.leaf leaf)
        (λ r e. sym (ap (λ x. x.key) (same_leaf (u.pieces h.other) h.stands.row r
        (leaf_there qs u.pieces grows h.other h.stands.row other) e)) ∙ h.stands.key_is)
        (led h.by_key) (subst (λ k. LiesIn u k change.node change.index) h.stands.key_is lies)

    -- what all rows of an Install name
    pub installed_lies : (fits : FitsKind first log change fresh)
        → ((base : ℕ) (p : Piece) → IsPublishedWith first log change fresh fits base p → qs base ≡ Some p)
        → ((base : ℕ) (p : Piece) → (state first log).pieces base ≡ Some p → qs base ≡ Some p)
        → (base : ℕ) (p : Piece) → IsInstalledWith first log at change fresh fits base p
        → SaysCame LeafAt (state first log) (LeafLies u) base p
    unfolding SaysCame WordCame
    installed_lies fits stood kept base p (inl (here, new)) =
        subst (λ x. SaysCame LeafAt (state first log) (LeafLies u) base x) (sym new)
        (λ node i leaf says.
        subst (λ n. WasNamedOrIsNew LeafAt (state first log) (LeafLies u) n i leaf) (sym says.0)
        (subst (λ j. WasNamedOrIsNew LeafAt (state first log) (LeafLies u) change.node j leaf) (sym says.1)
        (⊎_elim (λ e. from_came leaf e) (λ e. to_came fits stood leaf e) says.2)))
    installed_lies (a_put h) stood kept base p (inr (here, new)) = grind (arith, SaysCame, LeafLies)
    installed_lies (a_pair h) stood kept base p (inr (inl (here, new))) =
        subst (λ x. SaysCame LeafAt (state first log) (LeafLies u) base x) (sym new)
        (subst (λ b. SaysCame LeafAt (state first log) (LeafLies u) b
        (pair_row change.key h.leaf h.other_key h.other)) (sym here)
        (put_pair_lies h (stood h.pair (pair_row change.key h.leaf h.other_key h.other)
        (inl (refl, refl))) (stood h.leaf (new_leaf change) (inr (refl, refl)))
        (kept h.other (Leaf h.stands.row) h.stands.published)))
    installed_lies (a_pair h) stood kept base p (inr (inr (here, new))) =
        grind (arith, SaysCame, LeafLies)
    installed_lies (a_remove h) stood kept base p (inr f) = absurd f
    installed_lies (a_start h) stood kept base p (inr (here, new)) =
        grind (arith, SaysCame, LeafLies, ref_of-unset)
    installed_lies (a_finish h) stood kept base p (inr f) = absurd f
