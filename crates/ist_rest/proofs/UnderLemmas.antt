-- Which rows a walk reads below a slot: each hangs below one slot of a node only. Serves the law
-- that rows lie apart.
use Rattle.std.proofs.Common.{◌≡◌, ℕ, ◌<◌, ◌⊎◌, List, ◌∷◌, map, Option, Some, None, refl, sym, ◌∙◌, subst, inl, inr, ⊎_elim, arith}
use Rattle.ist_core.specs.declared.states.LeafRow.{LeafRow}
use Rattle.ist_core.specs.declared.states.InnerRow.{InnerRow}
use Rattle.ist_core.specs.declared.states.RebuildRow.{RebuildRow}
use Rattle.ist_core.specs.WordTerms.{anchor, Piece, Leaf, Inner, Rebuild, size_of, IsChildFor, of_anchor, of_row}
use Rattle.ist_core.specs.LogTerms.{Among, Each, Distinct, Snapshot}
use Rattle.ist_core.specs.TreeTerms.{IsChild}
use Rattle.ist_core.proofs.AllPlaceLemmas.{WordsName, IsRebuildFor, InnerHere, HasOneHome, mentioned_here, child_mentioned, child_above, no_row, LiesIn}
use Rattle.ist_core.proofs.AllWordLemmas.{same_rebuild, same_leaf, same_inner}
use Rattle.ist_rest.specs.WordRows.{Span}

-- the row hangs in the slot, as its child or as a rebuild for it
pub data HasHome (t : Snapshot) (m k b : ℕ) : Type 0 where
  as_child : IsChild t m k b → HasHome t m k b
  as_rebuild : IsRebuildFor t.pieces m k b → HasHome t m k b

-- the second slot is the first, or lies below it
pub data Up (t : Snapshot) (n i : ℕ) : ℕ → ℕ → Type 0 where
  up_here : Up t n i n i
  up_down : {m k c : ℕ} (j : ℕ) → Up t n i m k → IsChild t m k c → Up t n i c j

-- the row is read below the slot
pub data IsReadUnder (t : Snapshot) (n i b : ℕ) : Type 0 where
  row_under : {m k : ℕ} → HasHome t m k b → Up t n i m k → IsReadUnder t n i b
  leaf_under : (r : LeafRow) → t.pieces b ≡ Some (Leaf r) → LiesIn t r.key n i → IsReadUnder t n i b

-- a rebuild isn't an inner row
pub rebuild_inner : (o : Option Piece) (r : RebuildRow) (s : InnerRow) → o ≡ Some (Rebuild r)
    → o ≡ Some (Inner s) → ⊥
rebuild_inner o r s e f = cc

module _ (t : Snapshot) (o : WordsName t) (home : HasOneHome t) (free : t.pieces anchor ≡ None)
  where
    inner_there : (m k b : ℕ) → IsChild t m k b → InnerHere t.pieces b
    inner_there m k b c = mentioned_here t m k b o (child_mentioned t m k b o c)

    -- a leaf has no such home
    pub no_home : (m k b : ℕ) (r : LeafRow) → t.pieces b ≡ Some (Leaf r) → HasHome t m k b → ⊥
    no_home m k b r e (as_child c) = let it = inner_there m k b c in cc (it.1)
    no_home m k b r e (as_rebuild h) = cc (h.published)

    -- a row has one home
    home_once : (m k n i b : ℕ) → HasHome t m k b → HasHome t n i b → (m ≡ n) × (k ≡ i)
    home_once m k n i b (as_child c) (as_child d) = home.one m k n i b (child_mentioned t m k b o c)
        (child_mentioned t n i b o d)
    home_once m k n i b (as_child c) (as_rebuild h) = let it = inner_there m k b c in
        absurd (rebuild_inner (t.pieces b) h.row it.0 h.published it.1)
    home_once m k n i b (as_rebuild h) (as_child c) = let it = inner_there n i b c in
        absurd (rebuild_inner (t.pieces b) h.row it.0 h.published it.1)
    home_once m k n i b (as_rebuild h) (as_rebuild g) = grind (arith, same_rebuild)

    -- what lies below lies in a greater node
    up_low : (n i m k : ℕ) → Up t n i m k → (n ≡ m) ⊎ (n < m)
    up_low n i _ _ up_here = inl refl
    up_low n i _ _ (up_down {m = m} {k = k} {c = c} j u child) =
        let above = child_above t m k c o child in
        ⊎_elim (λ e. inr (omega arith)) (λ l. inr (omega arith)) (up_low n i m k u)

    -- below one slot of a node only
    one_up : (n i m k : ℕ) → Up t n i m k → (p j q l : ℕ) → Up t p j q l → n ≡ p → m ≡ q → k ≡ l
        → i ≡ j
    one_up n i _ _ up_here p j _ _ up_here e f g = g
    one_up n i _ _ up_here p j _ _ (up_down {m = m} {k = k} {c = c} l u child) e f g =
        let above = child_above t m k c o child in
        absurd (⊎_elim (λ x. omega arith) (λ x. omega arith) (up_low p j m k u))
    one_up n i _ _ (up_down {m = m} {k = k} {c = c} l u child) p j _ _ up_here e f g =
        let above = child_above t m k c o child in
        absurd (⊎_elim (λ x. omega arith) (λ x. omega arith) (up_low n i m k u))
    one_up n i _ _ (up_down {m = m} {k = k} {c = c} x u child) p j _ _
        (up_down {m = q} {k = l} {c = d} y v other) e f g =
        let same = home.one m k q l c (child_mentioned t m k c o child)
        (child_mentioned t q l c o (subst (IsChild t q l) (sym f) other)) in
        one_up n i m k u p j q l v e same.0 same.1

    child_once : (n key i j : ℕ) → IsChildFor t n key i → IsChildFor t n key j → i ≡ j
    child_once n key i j (of_anchor a z) (of_anchor b y) = z ∙ sym y
    child_once n key i j (of_anchor a z) (of_row r e is) = absurd (no_row t.pieces n r free a e)
    child_once n key i j (of_row r e is) (of_anchor a z) = absurd (no_row t.pieces n r free a e)
    child_once n key i j (of_row r e is) (of_row s f also) = grind (arith, same_inner)

    -- a row is read below one slot of a node only
    pub one_under : (n i j b : ℕ) → IsReadUnder t n i b → IsReadUnder t n j b → i ≡ j
    one_under n i j b (row_under {m = m} {k = k} h u) (row_under {m = q} {k = l} g v) =
        let same = home_once m k q l b h g in one_up n i m k u n j q l v refl same.0 same.1
    one_under n i j b (row_under {m = m} {k = k} h u) (leaf_under r e lies) =
        absurd (no_home m k b r e h)
    one_under n i j b (leaf_under r e lies) (row_under {m = m} {k = k} h u) =
        absurd (no_home m k b r e h)
    one_under n i j b (leaf_under r e lies) (leaf_under s f also) =
        grind (arith, same_leaf, child_once)

    -- a row that hangs in a node isn't read below a greater one
    pub not_below : (n i b base m : ℕ) → HasHome t n i b → n < base → IsReadUnder t base m b → ⊥
    not_below n i b base m h less (row_under {m = q} {k = l} g u) =
        let same = home_once n i q l b h g in let e = same.0 in
        ⊎_elim (λ x. omega arith) (λ x. omega arith) (up_low base m q l u)
    not_below n i b base m h less (leaf_under r e lies) = no_home n i b r e h

    -- what is read below a child is read below its slot
    up_from : (n i c : ℕ) → IsChild t n i c → (j m k : ℕ) → Up t c j m k → Up t n i m k
    up_from n i c child j _ _ up_here = up_down j up_here child
    up_from n i c child j _ _ (up_down l u other) = up_down l (up_from n i c child j _ _ u) other

    -- what is read below a slot of a child is read below the slot in which the child hangs
    pub under_child : (n i c j b : ℕ) → IsChild t n i c
        → ((key : ℕ) → LiesIn t key c j → LiesIn t key n i) → IsReadUnder t c j b → IsReadUnder t n i b
    under_child n i c j b child lift (row_under {m = m} {k = k} h u) =
        row_under h (up_from n i c child j m k u)
    under_child n i c j b child lift (leaf_under r e lies) = leaf_under r e (lift r.key lies)

-- ---- rows by their bases

-- the bases of some rows
abbrev pub bases : List Span → List ℕ
bases rows = map (λ span. span.base) rows

-- each is a published row, and none occurs twice
pub record AreRows (t : Snapshot) (rows : List Span) : Type 0 where
  pub distinct : Distinct (bases rows)
  pub placed : Each (λ span. (p : Piece) × (t.pieces span.base ≡ Some p)
      × (span.size ≡ size_of p)) rows

-- published rows with one more published row of another base are published rows
pub add_row : (t : Snapshot) (base size : ℕ) (p : Piece) (rows : List Span) → t.pieces base ≡ Some
    p → size ≡ size_of p
    → (Among base (bases rows) → ⊥) → AreRows t rows
    → AreRows t (record { base = base; size = size } ∷ rows)
add_row t base size p rows e s new h = grind arith
