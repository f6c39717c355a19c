-- Trees over lists of keys: each inner row splits its list into parts by their first keys. Ideal
-- subtrees are such, and so is
-- the start layout. Serves the order law.
use Rattle.std.proofs.Common.{◌≡◌, ℕ, ◌≤◌, List, [], ◌∷◌, ◌++◌, length, drop, Some, refl, sym, subst, ◌⊎◌, ◌==◌, Bool, true, false, ◌||◌, if◌then◌else◌, Option, None, ap, inl, inr, arith}
use Rattle.ist_core.specs.Types.{LeafRow, InnerRow, Row}
use Rattle.ist_core.specs.WordTerms.{Ref, Empty, LeafAt, InnerAt, ref_of, parts, first_keys, Pieces, Leaf, Inner, IsIdeal, AreIdeal, of_none, of_one, of_more, no_part, one_part, IsTop, Piece, size_of, with_row, with_inners}
use Rattle.ist_core.specs.LogTerms.{Each, Among, bases_of}
use Rattle.ist_core.specs.TreeTerms.{PlacedLeaf, IsRoot, root_top, root_whole}
use Rattle.ist_core.proofs.OptionLemmas.{each_append, each-among, with_row-same, with_inners-some, with_inners-other}
use Rattle.ist_core.proofs.RisingLemmas.{AreRisingKeys, Rising, PartsRise, parts_rise, first_keys_after_rise}
use Rattle.std.specs.List.{list_any}
use Rattle.std.proofs.lemmas.Bool.Decides.{nat_tests}
use Rattle.ist_core.proofs.SizeLemmas.{size_of-inner_of}

-- the key of a leaf
abbrev pub key_of_leaf : PlacedLeaf → ℕ
key_of_leaf leaf = leaf.row.key

mutual
  -- the reference leads to a tree over these elements, each of which has a key; `rows` are its
  -- inner rows
  pub data Splits {A : Type 0} (key : A → ℕ) (ps : Pieces) : Ref → List A → List ℕ → Type 0 where
    split_none : Splits key ps Empty [] []
    split_leaf : {base : ℕ} {x : A} (r : LeafRow) → ps base ≡ Some (Leaf r) → r.key ≡ key x
        → Splits key ps (LeafAt base) (x ∷ []) []
    split_row : {base : ℕ} {xs : List A} {rows : List ℕ} (r : InnerRow) → ps base ≡ Some (Inner r)
        → 2 ≤ length xs
        → r.keys ≡ first_keys key (drop 1 (parts xs)) → SplitAll key ps r.slots (parts xs) rows
        → Splits key ps (InnerAt base) xs (base ∷ rows)

  -- each word leads to a tree over its part
  pub data SplitAll {A : Type 0} (key : A → ℕ) (ps : Pieces) : List ℕ → List (List A) → List ℕ →
      Type 0 where
    no_split : SplitAll key ps [] [] []
    one_split : {word : ℕ} {words here rest : List ℕ} {part : List A} {following : List (List A)}
        (ref : Ref)
        → ref_of word ≡ Some ref → Splits key ps ref part here → SplitAll key ps words following rest
        → SplitAll key ps (word ∷ words) (part ∷ following) (here ++ rest)

mutual
  -- an ideal subtree is a tree over its leaves
  pub ideal_splits : (ps : Pieces) (ref : Ref) (leaves : List PlacedLeaf) (above : ℕ)
      (rows : List ℕ) → IsIdeal ps ref leaves above rows → Splits key_of_leaf ps ref leaves rows
  ideal_splits ps _ _ _ _ of_none = split_none
  ideal_splits ps _ _ _ _ (of_one {leaf = leaf} same e) = split_leaf leaf.row e refl
  ideal_splits ps _ _ _ _ (of_more {base = base} {leaves = leaves} {rows = rows} r top below) =
      split_row r top.published top.two top.keys
      (ideal_split_all ps r.slots (parts leaves) base rows below)

  ideal_split_all : (ps : Pieces) (words : List ℕ) (following : List (List PlacedLeaf)) (above : ℕ)
      (rows : List ℕ)
      → AreIdeal ps words following above rows → SplitAll key_of_leaf ps words following rows
  ideal_split_all ps _ _ _ _ no_part = no_split
  ideal_split_all ps _ _ above _
      (one_part {words = words} {here = here} {rest = rest} {part = part} {following = following} ref e
      first more) =
      one_split ref e (ideal_splits ps ref part above here first)
      (ideal_split_all ps words following above rest more)

-- ---- increasing keys

-- there is an inner row with strictly increasing keys at the base
pub record StandsRising (ps : Pieces) (base : ℕ) : Type 0 where
  pub row : InnerRow
  pub published : ps base ≡ Some (Inner row)
  pub keys : Rising row.keys

module _ {A : Type 0} (key : A → ℕ) (ps : Pieces) where
  mutual
    -- over a strictly increasing list the keys of each row are strictly increasing
    pub split_rises : (ref : Ref) (xs : List A) (rows : List ℕ) → Splits key ps ref xs rows
        → AreRisingKeys key xs → Each (StandsRising ps) rows
    split_rises _ _ _ split_none rise = tt
    split_rises _ _ _ (split_leaf r e is) rise = tt
    split_rises _ xs _ (split_row {rows = rows} r e two keys below) rise = (
      record {
        row = r;
        published = e;
        keys = subst Rising (sym keys)
            (first_keys_after_rise key (parts xs) (parts_rise key xs two rise));
      },
      split_all_rises r.slots (parts xs) rows below (parts_rise key xs two rise),
    )

    split_all_rises : (words : List ℕ) (following : List (List A)) (rows : List ℕ)
        → SplitAll key ps words following rows → PartsRise key following → Each (StandsRising ps) rows
    split_all_rises _ _ _ no_split rise = tt
    split_all_rises _ _ _ (one_split {words = words} {here = here} {rest = rest} {part = part}
        {following = following} ref e first more) rise =
        each_append (StandsRising ps) here rest (split_rises ref part here first rise.1)
        (split_all_rises words following rest more rise.3)

-- ---- what holds of the top of each ideal subtree holds of each row of one, and of each row of a root.
-- Serves what the events publish.

module _ (ps : Pieces) (P : ℕ → Type 0)
    (top_has : (base : ℕ) (r : InnerRow) (leaves : List PlacedLeaf) (above : ℕ)
    → IsTop ps base r leaves above → P base) where
  mutual
    -- each row of an ideal subtree
    pub ideal_rows : (ref : Ref) (leaves : List PlacedLeaf) (above : ℕ) (rows : List ℕ)
        → IsIdeal ps ref leaves above rows → Each P rows
    ideal_rows _ _ _ _ of_none = tt
    ideal_rows _ _ _ _ (of_one same e) = tt
    ideal_rows _ _ above _ (of_more {base = base} {leaves = leaves} {rows = rows} r top below) =
        (top_has base r leaves above top, parts_rows r.slots (parts leaves) base rows below)

    parts_rows : (words : List ℕ) (following : List (List PlacedLeaf)) (above : ℕ) (rows : List ℕ)
        → AreIdeal ps words following above rows → Each P rows
    parts_rows _ _ _ _ no_part = tt
    parts_rows _ _ above _
        (one_part {words = words} {here = here} {rest = rest} {part = part} {following = following} ref e
        first more) =
        each_append P here rest (ideal_rows ref part above here first)
        (parts_rows words following above rest more)

  -- each row of a root
  pub root_rows : (word k : ℕ) (leaves : List PlacedLeaf) (target : ℕ) (rows : List ℕ)
      → IsRoot ps word k leaves target rows → Each P rows
  root_rows word k leaves target rows (root_whole ref few e ideal) =
      ideal_rows ref leaves target rows ideal
  root_rows word k leaves target rows (root_top base row many e top unset one) =
      subst (λ bs. Each P bs) (sym one) (top_has base row leaves target top, tt)

-- ---- rows that an event publishes. Serves `laws.rows_are_known`.

-- ---- bases

-- a base that is tested for is among the bases
pub among_bases : (base : ℕ) (bases : List ℕ) → list_any (λ b. b == base) bases ≡ true
    → Among base bases
among_bases base [] e = absurd (cc)
among_bases base (b ∷ bases) e = at (λ g. among_bases base bases g) (b == base) refl e
  where
    at : (list_any (λ x. x == base) bases ≡ true → Among base bases) → (v : Bool) → (b == base) ≡ v
        → (v || list_any (λ x. x == base) bases) ≡ true → Among base (b ∷ bases)
    at again true f g = let same : base ≡ b = grind (arith, nat_tests) in inl same
    at again false f g = inr (again g)

-- a base among the bases is tested for
pub tests_base : (base : ℕ) (bases : List ℕ) → Among base bases
    → list_any (λ b. b == base) bases ≡ true
tests_base base [] i = absurd i
tests_base base (b ∷ bases) (inl e) = grind (arith, nat_tests)
tests_base base (b ∷ bases) (inr i) = grind (arith, nat_tests, tests_base base bases i)

-- the row of a base among the bases of rows
pub row_among : (base : ℕ) (rows : List Row) → Among base (bases_of rows)
    → (row : Row) × Among row rows × (row.base ≡ base)
row_among base [] i = absurd i
row_among base (row ∷ rows) (inl e) = (row, inl refl, sym e)
row_among base (row ∷ rows) (inr i) = let it = row_among base rows i in (it.0, inr it.1, it.2)

-- the base of a row is among the bases of rows
pub base_among : (row : Row) (rows : List Row) → Among row rows → Among row.base (bases_of rows)
base_among row [] i = absurd i
base_among row (x ∷ rows) (inl e) = inl (ap (λ y. y.base) e)
base_among row (x ∷ rows) (inr i) = inr (base_among row rows i)

-- ---- rows that are published

-- there is a row at the base
abbrev pub LiesAt : Pieces → ℕ → Type 0
LiesAt ps base = (p : Piece) × (ps base ≡ Some p)

-- a row is still at its base after another one is put
pub stands-with_row : (ps : Pieces) (base at : ℕ) (o : Option Piece) → LiesAt ps at
    → LiesAt (with_row ps base o) at
stands-with_row ps base at None h = h
stands-with_row ps base at (Some p) h =
    elim (at == base) as (λ v. LiesAt (λ b. if v then Some p else ps at) at)
    [ true ↦ (p, refl) | false ↦ h ]

-- a row that is put is at its base
pub stands_here : (ps : Pieces) (base : ℕ) (o : Option Piece) (p : Piece) → o ≡ Some p
    → LiesAt (with_row ps base o) base
stands_here ps base o p e = subst (λ x. LiesAt (with_row ps base x) base) (sym e)
    (p, with_row-same ps base p)

-- ---- publishing

-- the rows are published: each row afterwards was there before or is one of them, and each of them
-- is there
pub record PublishesRows (ps : Pieces) (rows : List Row) (qs : Pieces) : Type 0 where
  -- a row that is there afterwards was there before, or is one of them, with its number of words
  pub from : (base : ℕ) (q : Piece) → qs base ≡ Some q
      → (ps base ≡ Some q) ⊎ ((row : Row) × Among row rows × (row.base ≡ base) ×
      (size_of q ≡ length row.words))
  -- nothing changes at other bases
  pub others : (base : ℕ) → ¬ (Among base (bases_of rows)) → qs base ≡ ps base
  -- each of them is there
  pub named : (row : Row) → Among row rows → LiesAt qs row.base

-- inner rows are published if each of them is found afterwards
pub publishes-with_inners : (ps : Pieces) (rows : List Row)
    → Each (λ base. LiesAt (with_inners ps rows) base) (bases_of rows)
    → PublishesRows ps rows (with_inners ps rows)
publishes-with_inners ps rows all =
    grind (arith, size_of-inner_of, with_inners-some, with_inners-other, each-among, base_among)

-- there is a published row at each base of an ideal subtree's rows
pub ideal_stands : (ps : Pieces) (ref : Ref) (leaves : List PlacedLeaf) (above : ℕ) (rows : List ℕ)
    → IsIdeal ps ref leaves above rows → Each (λ base. LiesAt ps base) rows
ideal_stands ps =
    ideal_rows ps (λ base. LiesAt ps base) (λ base r leaves above top. (Inner r, top.published))
