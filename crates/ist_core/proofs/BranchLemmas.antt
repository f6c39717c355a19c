-- In a tree that lists each of its rows once, each row hangs in one slot. Serves the conjunct
-- `one_home`.
use Rattle.std.proofs.Common.{◌≡◌, ℕ, zero, suc, ◌⊎◌, List, [], ◌∷◌, ◌++◌, slice_get, Some, refl, sym, ap, ◌∙◌, subst, inl, inr, ⊎_elim, arith}
use Rattle.ist_core.specs.Types.{InnerRow}
use Rattle.ist_core.specs.WordTerms.{Ref, InnerAt, ref_of, Pieces, Inner}
use Rattle.ist_core.specs.LogTerms.{Among, Distinct}
use Rattle.ist_core.proofs.OptionLemmas.{among-append, among_left, among_right, same_inner}
use Rattle.ist_core.proofs.TreeLemmas.{IsTree, AreTrees, tree_none, tree_unset, tree_leaf, tree_row, no_tree, one_tree}

-- ---- lists without an element twice

-- if a joined list has no element twice, neither has its first part
pub distinct_left : (xs ys : List ℕ) → Distinct (xs ++ ys) → Distinct xs
distinct_left [] ys h = tt
distinct_left (x ∷ xs) ys h = (λ i. h.0 (among_left x xs ys i), distinct_left xs ys h.1)

-- if a joined list has no element twice, neither has its second part
pub distinct_right : (xs ys : List ℕ) → Distinct (xs ++ ys) → Distinct ys
distinct_right [] ys h = h
distinct_right (x ∷ xs) ys h = distinct_right xs ys h.1

-- if a joined list has no element twice, its parts share none
pub distinct_apart : (xs ys : List ℕ) (m : ℕ) → Distinct (xs ++ ys) → Among m xs → Among m ys → ⊥
distinct_apart [] ys m h a b = a
distinct_apart (x ∷ xs) ys m h (inl e) b = grind (arith, among_right)
distinct_apart (x ∷ xs) ys m h (inr a) b = distinct_apart xs ys m h.1 a b

-- all but the first
abbrev following : List ℕ → List ℕ
following [] = []
following (x ∷ xs) = xs

among_after : (xs : List ℕ) (m : ℕ) → Among m (following xs) → Among m xs
among_after [] m h = h
among_after (x ∷ xs) m h = inr h

-- ---- where a row is named

-- slot i of the node, one of these rows, names the inner row
pub record NamesIn (ps : Pieces) (rows : List ℕ) (node i child : ℕ) : Type 0 where
  pub among : Among node rows
  pub row : InnerRow
  pub published : ps node ≡ Some (Inner row)
  pub word : ℕ
  pub in_slot : slice_get row.slots i ≡ Some word
  pub reads : ref_of word ≡ Some (InnerAt child)

-- a row that is named among some rows is named among others that have its node
within : (ps : Pieces) (rows more : List ℕ) (node i child : ℕ) → NamesIn ps rows node i child
    → Among node more → NamesIn ps more node i child
within ps rows more node i child h a = grind arith

-- the row that a tree hangs by is its first
named_first : (ps : Pieces) (ref : Ref) (above : ℕ) (rows : List ℕ) (child : ℕ)
    → IsTree ps ref above rows → ref ≡ InnerAt child → (rest : List ℕ) × (rows ≡ child ∷ rest)
named_first ps _ above _ child tree_none e = absurd (cc)
named_first ps _ above _ child tree_unset e = absurd (cc)
named_first ps _ above _ child (tree_leaf r p) e = absurd (cc)
named_first ps _ above _ child (tree_row {base = base} {rows = rows} r p higher below) e = let
    same : base ≡ child = cc in (rows, ap (λ x. x ∷ rows) same)

named_among : (ps : Pieces) (ref : Ref) (above : ℕ) (rows : List ℕ) (child : ℕ)
    → IsTree ps ref above rows → ref ≡ InnerAt child → Among child rows
named_among ps ref above rows child t e = grind (arith, named_first)

-- what a slot of the list names is one of its rows
slot_among : (ps : Pieces) (words : List ℕ) (above : ℕ) (rows : List ℕ) (i word child : ℕ)
    → AreTrees ps words above rows → slice_get words i ≡ Some word
    → ref_of word ≡ Some (InnerAt child) → Among child rows
slot_among ps _ above _ i word child no_tree e k = absurd (cc)
slot_among ps _ above _ zero word child
    (one_tree {word = w} {here = here} {rest = rest} ref is first more) e k =
    grind (arith, among_left, named_among)
slot_among ps _ above _ (suc i) word child
    (one_tree {words = words} {here = here} {rest = rest} ref is first more) e k =
    among_right child here rest (slot_among ps words above rest i word child more e k)

mutual
  -- what a row of a tree names is one of the others
  below_first : (ps : Pieces) (ref : Ref) (above : ℕ) (rows : List ℕ) (node i child : ℕ)
      → IsTree ps ref above rows → NamesIn ps rows node i child → Among child (following rows)
  below_first ps _ above _ node i child tree_none h = absurd h.among
  below_first ps _ above _ node i child tree_unset h = absurd h.among
  below_first ps _ above _ node i child (tree_leaf r p) h = absurd h.among
  below_first ps _ above _ node i child (tree_row {base = base} {rows = rows} r p higher below) h =
      ⊎_elim
      (λ here.
      let same : h.row ≡ r = same_inner (ps base) h.row r
      (subst (λ x. ps x ≡ Some (Inner h.row)) here h.published) p in
      slot_among ps r.slots base rows i h.word child below
      (subst (λ y. slice_get y.slots i ≡ Some h.word) same h.in_slot) h.reads)
      (λ there. below_all ps r.slots base rows node i child below
      (within ps (base ∷ rows) rows node i child h there))
      h.among

  below_all : (ps : Pieces) (words : List ℕ) (above : ℕ) (rows : List ℕ) (node i child : ℕ)
      → AreTrees ps words above rows → NamesIn ps rows node i child → Among child rows
  below_all ps _ above _ node i child no_tree h = absurd h.among
  below_all ps _ above _ node i child
      (one_tree {words = words} {here = here} {rest = rest} ref is first more) h =
      ⊎_elim
      (λ k. among_left child here rest
      (among_after here child (below_first ps ref above here node i child first
      (within ps (here ++ rest) here node i child h k))))
      (λ k. among_right child here rest
      (below_all ps words above rest node i child more
      (within ps (here ++ rest) rest node i child h k)))
      (among-append node here rest h.among)

-- the row that a tree hangs by is named by none of its rows
first_apart : (ps : Pieces) (ref : Ref) (above : ℕ) (rows : List ℕ) (node i child : ℕ)
    → IsTree ps ref above rows → Distinct rows → ref ≡ InnerAt child → NamesIn ps rows node i child
    → ⊥
first_apart ps ref above rows node i child t d e h =
    let it = named_first ps ref above rows child t e in
    let once : Distinct (child ∷ it.0) = subst (λ xs. Distinct xs) it.1 d in
    once.0 (subst (λ xs. Among child (following xs)) it.1
    (below_first ps ref above rows node i child t h))

-- the row that a slot of the list names is named by none of the trees' rows
slots_apart : (ps : Pieces) (words : List ℕ) (above : ℕ) (rows : List ℕ) (j word node i child : ℕ)
    → AreTrees ps words above rows → Distinct rows → slice_get words j ≡ Some word
    → ref_of word ≡ Some (InnerAt child) → NamesIn ps rows node i child → ⊥
slots_apart ps _ above _ j word node i child no_tree d e k h = absurd h.among
slots_apart ps _ above _ zero word node i child
    (one_tree {word = w} {words = words} {here = here} {rest = rest} ref is first more) d e k h =
    let same : w ≡ word = cc in let named : ref ≡ InnerAt child = cc (ap ref_of same ∙ k) in ⊎_elim
    (λ a. first_apart ps ref above here node i child first (distinct_left here rest d) named
    (within ps (here ++ rest) here node i child h a))
    (λ a. distinct_apart here rest child d (named_among ps ref above here child first named)
    (below_all ps words above rest node i child more
    (within ps (here ++ rest) rest node i child h a)))
    (among-append node here rest h.among)
slots_apart ps _ above _ (suc j) word node i child
    (one_tree {words = words} {here = here} {rest = rest} ref is first more) d e k h =
    ⊎_elim
    (λ a. distinct_apart here rest child d
    (among_after here child (below_first ps ref above here node i child first
    (within ps (here ++ rest) here node i child h a)))
    (slot_among ps words above rest j word child more e k))
    (λ a. slots_apart ps words above rest j word node i child more (distinct_right here rest d) e k
    (within ps (here ++ rest) rest node i child h a))
    (among-append node here rest h.among)

-- two slots of the list name different rows
slots_once : (ps : Pieces) (words : List ℕ) (above : ℕ) (rows : List ℕ) (i w j v child : ℕ)
    → AreTrees ps words above rows → Distinct rows → slice_get words i ≡ Some w
    → ref_of w ≡ Some (InnerAt child)
    → slice_get words j ≡ Some v → ref_of v ≡ Some (InnerAt child) → i ≡ j
slots_once ps _ above _ i w j v child no_tree d e k f l = absurd (cc)
slots_once ps _ above _ zero w zero v child (one_tree ref is first more) d e k f l = refl
slots_once ps _ above _ zero w (suc j) v child
    (one_tree {word = x} {words = words} {here = here} {rest = rest} ref is first more) d e k f l =
    let same : x ≡ w = cc in
    absurd (distinct_apart here rest child d
    (named_among ps ref above here child first
    (cc (ap ref_of same ∙ k)))
    (slot_among ps words above rest j v child more f l))
slots_once ps _ above _ (suc i) w zero v child
    (one_tree {word = x} {words = words} {here = here} {rest = rest} ref is first more) d e k f l =
    let same : x ≡ v = cc in
    absurd (distinct_apart here rest child d
    (named_among ps ref above here child first
    (cc (ap ref_of same ∙ l)))
    (slot_among ps words above rest i w child more e k))
slots_once ps _ above _ (suc i) w (suc j) v child
    (one_tree {words = words} {here = here} {rest = rest} ref is first more) d e k f l =
    ap suc (slots_once ps words above rest i w j v child more (distinct_right here rest d) e k f l)

mutual
  -- two slots of rows of a tree that name one row are one slot
  named_once : (ps : Pieces) (ref : Ref) (above : ℕ) (rows : List ℕ) (n i k j child : ℕ)
      → IsTree ps ref above rows → Distinct rows → NamesIn ps rows n i child
      → NamesIn ps rows k j child → (n ≡ k) × (i ≡ j)
  named_once ps _ above _ n i k j child tree_none d h l = absurd h.among
  named_once ps _ above _ n i k j child tree_unset d h l = absurd h.among
  named_once ps _ above _ n i k j child (tree_leaf r p) d h l = absurd h.among
  named_once ps _ above _ n i k j child (tree_row {base = base} {rows = rows} r p higher below) d h
      l =
      let slot : (x y : ℕ) (g : NamesIn ps (base ∷ rows) x y child) → x ≡ base → slice_get r.slots y
      ≡ Some g.word =
      λ x y g here. subst (λ q. slice_get q.slots y ≡ Some g.word)
      (same_inner (ps base) g.row r (subst (λ q. ps q ≡ Some (Inner g.row)) here g.published) p)
      g.in_slot in
      let deeper : (x y : ℕ) → NamesIn ps (base ∷ rows) x y child → Among x rows → NamesIn ps rows x
      y child = λ x y g a. within ps (base ∷ rows) rows x y child g a in
      ⊎_elim
      (λ a. ⊎_elim
      (λ b. (
        a ∙ sym b,
        slots_once ps r.slots base rows i h.word j l.word child below d.1
            (slot n i h a) h.reads (slot k j l b) l.reads,
      ))
      (λ b. absurd (slots_apart ps r.slots base rows i h.word k j child below d.1 (slot n i h a)
      h.reads (deeper k j l b)))
      l.among)
      (λ a. ⊎_elim
      (λ b. absurd (slots_apart ps r.slots base rows j l.word n i child below d.1 (slot k j l b)
      l.reads (deeper n i h a)))
      (λ b. named_once_all ps r.slots base rows n i k j child below d.1 (deeper n i h a)
      (deeper k j l b))
      l.among)
      h.among

  named_once_all : (ps : Pieces) (words : List ℕ) (above : ℕ) (rows : List ℕ) (n i k j child : ℕ)
      → AreTrees ps words above rows → Distinct rows → NamesIn ps rows n i child
      → NamesIn ps rows k j child → (n ≡ k) × (i ≡ j)
  named_once_all ps _ above _ n i k j child no_tree d h l = absurd h.among
  named_once_all ps _ above _ n i k j child
      (one_tree {words = words} {here = here} {rest = rest} ref is first more) d h l =
      let left : (x y : ℕ) → NamesIn ps here x y child → Among child here = λ x y g. among_after
      here child (below_first ps ref above here x y child first g) in
      let one : (x y : ℕ) → NamesIn ps (here ++ rest) x y child → Among x here → NamesIn ps here x y
      child = λ x y g a. within ps (here ++ rest) here x y child g a in
      let two : (x y : ℕ) → NamesIn ps (here ++ rest) x y child → Among x rest → NamesIn ps rest x y
      child = λ x y g a. within ps (here ++ rest) rest x y child g a in
      ⊎_elim
      (λ a. ⊎_elim
      (λ b. named_once ps ref above here n i k j child first (distinct_left here rest d)
      (one n i h a) (one k j l b))
      (λ b. absurd (distinct_apart here rest child d (left n i (one n i h a))
      (below_all ps words above rest k j child more (two k j l b))))
      (among-append k here rest l.among))
      (λ a. ⊎_elim
      (λ b. absurd (distinct_apart here rest child d (left k j (one k j l b))
      (below_all ps words above rest n i child more (two n i h a))))
      (λ b. named_once_all ps words above rest n i k j child more (distinct_right here rest d)
      (two n i h a) (two k j l b))
      (among-append k here rest l.among))
      (among-append n here rest h.among)

-- slot i of the node names the row in a tree that hangs on slot `at` of `parent`: it is this slot
-- and the tree's first row, or
-- a slot of one of its rows
abbrev pub HangsIn : Pieces → ℕ → ℕ → Ref → List ℕ → ℕ → ℕ → ℕ → Type 0
HangsIn ps parent at ref rows node i child = ((node ≡ parent) × (i ≡ at) × (ref ≡ InnerAt child)) ⊎
    NamesIn ps rows node i child

-- what hangs in a tree is one of its rows
pub hangs_among : (ps : Pieces) (parent at : ℕ) (ref : Ref) (above : ℕ) (rows : List ℕ)
    (node i child : ℕ)
    → IsTree ps ref above rows → HangsIn ps parent at ref rows node i child → Among child rows
hangs_among ps parent at ref above rows node i child t (inl h) = grind (arith, named_among)
hangs_among ps parent at ref above rows node i child t (inr h) = among_after rows child
    (below_first ps ref above rows node i child t h)

-- what hangs in a tree hangs in only one slot of it
pub hangs_once : (ps : Pieces) (parent at : ℕ) (ref : Ref) (above : ℕ) (rows : List ℕ)
    (n i k j child : ℕ) → IsTree ps ref above rows → Distinct rows
    → HangsIn ps parent at ref rows n i child → HangsIn ps parent at ref rows k j child
    → (n ≡ k) × (i ≡ j)
hangs_once ps parent at ref above rows n i k j child t d (inl h) (inl l) = grind arith
hangs_once ps parent at ref above rows n i k j child t d (inl h) (inr l) = absurd
    (first_apart ps ref above rows k j child t d h.2 l)
hangs_once ps parent at ref above rows n i k j child t d (inr h) (inl l) = absurd
    (first_apart ps ref above rows n i child t d l.2 h)
hangs_once ps parent at ref above rows n i k j child t d (inr h) (inr l) = named_once ps ref above
    rows n i k j child t d h l
