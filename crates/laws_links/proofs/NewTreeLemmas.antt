-- New trees, whole or with parts that aren't built yet: they stay if their rows stay. Serves the
-- replacement law.
use Rattle.std.proofs.Common.{List, Some, [], ap, inl, inr, length, refl, replicate, slice_get, slice_set, subst, suc, zero, ℕ, ◌++◌, ◌∙◌, ◌∷◌, ◌≡◌, ◌≢◌, arith}
use Rattle.ist_core.specs.declared.states.InnerRow.{InnerRow}
use Rattle.ist_core.specs.declared.states.LeafRow.{LeafRow}
use Rattle.ist_core.specs.LogTerms.{Among, Each}
use Rattle.ist_core.specs.WordTerms.{AreIdeal, IsIdeal, IsTop, no_part, of_more, of_none, of_one, one_part, parts, Inner, Leaf, Pieces, InnerAt, Ref, Unset, ref_of, unset_word}
use Rattle.ist_core.specs.TreeTerms.{PlacedLeaf}
use Rattle.ist_core.proofs.AllWordLemmas.{among_left, among_right, each_append, ref_of-unset}

-- ---- whole trees

-- the leaves of one table are also in the other, and so are these inner rows
pub record StandInOther (ps qs : Pieces) (rows : List ℕ) : Type 0 where
  -- a leaf of the first is also in the second
  pub leaf : (base : ℕ) (r : LeafRow) → ps base ≡ Some (Leaf r) → qs base ≡ Some (Leaf r)
  -- one of these inner rows is in the second as it is in the first
  pub inner : (base : ℕ) (r : InnerRow) → Among base rows → ps base ≡ Some (Inner r)
      → qs base ≡ Some (Inner r)

-- the top of a tree stays one if its row stays
pub top_kept : (ps qs : Pieces) (base : ℕ) (r : InnerRow) (leaves : List PlacedLeaf) (above : ℕ)
    → IsTop ps base r leaves above → qs base ≡ Some (Inner r) → IsTop qs base r leaves above
top_kept ps qs base r leaves above h e = grind arith

mutual
  -- an ideal subtree stays one if its rows stay
  pub ideal_kept : (ps qs : Pieces) (ref : Ref) (leaves : List PlacedLeaf) (above : ℕ)
      (rows : List ℕ)
      → IsIdeal ps ref leaves above rows → StandInOther ps qs rows → IsIdeal qs ref leaves above rows
  ideal_kept ps qs _ _ _ _ of_none s = of_none
  ideal_kept ps qs _ _ _ _ (of_one {base = base} {leaf = leaf} same e) s =
      of_one same (s.leaf base leaf.row e)
  ideal_kept ps qs _ _ above _
      (of_more {base = base} {leaves = leaves} {rows = rows} r top under) s =
      of_more r (top_kept ps qs base r leaves above top (s.inner base r (inl refl) top.published))
      (parts_kept ps qs r.slots (parts leaves) base rows under record { leaf = s.leaf; inner = λ b x i e. s.inner b x (inr i) e })

  -- ideal parts stay ideal if their rows stay
  pub parts_kept : (ps qs : Pieces) (words : List ℕ) (following : List (List PlacedLeaf)) (above : ℕ)
      (rows : List ℕ) → AreIdeal ps words following above rows → StandInOther ps qs rows
      → AreIdeal qs words following above rows
  parts_kept ps qs _ _ _ _ no_part s = no_part
  parts_kept ps qs _ _ above _
      (one_part {words = words} {here = here} {rest = rest} {part = part} {following = following} ref e first more) s =
      one_part ref e
      (ideal_kept ps qs ref part above here first record { leaf = s.leaf; inner = λ b x i k. s.inner b x (among_left b here rest i) k })
      (parts_kept ps qs words following above rest more record { leaf = s.leaf; inner = λ b x i k. s.inner b x (among_right b here rest i) k })

-- an ideal reference is set
pub ideal_set : (ps : Pieces) (ref : Ref) (leaves : List PlacedLeaf) (above : ℕ) (rows : List ℕ)
    → IsIdeal ps ref leaves above rows → ref ≢ Unset
ideal_set ps _ _ _ _ of_none e = cc
ideal_set ps _ _ _ _ (of_one same k) e = cc
ideal_set ps _ _ _ _ (of_more r top under) e = cc

-- no slot of an ideal row is Unset
parts_set : (ps : Pieces) (words : List ℕ) (following : List (List PlacedLeaf)) (above : ℕ)
    (rows : List ℕ)
    → AreIdeal ps words following above rows → (i : ℕ) → slice_get words i ≢ Some unset_word
parts_set ps _ _ _ _ no_part i e = absurd (cc)
parts_set ps _ _ above _
    (one_part {word = word} {here = here} {part = part} ref is first more) zero e =
    grind (arith, ideal_set, ref_of-unset)
parts_set ps _ _ above _
    (one_part {words = words} {rest = rest} {following = following} ref is first more) (suc i) e =
    parts_set ps words following above rest more i e

-- the row at the base is an inner row without an Unset slot
pub record StandsWhole (ps : Pieces) (base : ℕ) : Type 0 where
  pub row : InnerRow
  pub published : ps base ≡ Some (Inner row)
  -- none of its slots is Unset
  pub set : (i : ℕ) → slice_get row.slots i ≢ Some unset_word

mutual
  -- the rows of an ideal subtree have no Unset slot
  pub ideal_whole : (ps : Pieces) (ref : Ref) (leaves : List PlacedLeaf) (above : ℕ) (rows : List ℕ)
      → IsIdeal ps ref leaves above rows → Each (StandsWhole ps) rows
  ideal_whole ps _ _ _ _ of_none = tt
  ideal_whole ps _ _ _ _ (of_one same e) = tt
  ideal_whole ps _ _ above _ (of_more {base = base} {leaves = leaves} {rows = rows} r top under) =
      (record { row = r; published = top.published; set = parts_set ps r.slots (parts leaves) base rows under }, parts_whole ps r.slots (parts leaves) base rows under)

  parts_whole : (ps : Pieces) (words : List ℕ) (following : List (List PlacedLeaf)) (above : ℕ)
      (rows : List ℕ) → AreIdeal ps words following above rows → Each (StandsWhole ps) rows
  parts_whole ps _ _ _ _ no_part = tt
  parts_whole ps _ _ above _
      (one_part {words = words} {here = here} {rest = rest} {part = part} {following = following} ref e first more) =
      each_append (StandsWhole ps) here rest (ideal_whole ps ref part above here first)
      (parts_whole ps words following above rest more)

-- ---- trees in parts

-- each word is Unset or the ideal subtree over its part
pub data ArePartly (ps : Pieces) : List ℕ → List (List PlacedLeaf) → ℕ → List ℕ → Type 0 where
  no_more : {above : ℕ} → ArePartly ps [] [] above []
  not_built : {above : ℕ} {words rest : List ℕ} {part : List PlacedLeaf} {following : List (List PlacedLeaf)}
      → ArePartly ps words following above rest
      → ArePartly ps (unset_word ∷ words) (part ∷ following) above rest
  is_built : {word above : ℕ} {words here rest : List ℕ} {part : List PlacedLeaf} {following : List (List PlacedLeaf)}
      (ref : Ref) → ref_of word ≡ Some ref → IsIdeal ps ref part above here
      → ArePartly ps words following above rest
      → ArePartly ps (word ∷ words) (part ∷ following) above (here ++ rest)

-- the reference is an ideal subtree, or the top row of one with some parts that aren't built yet.
-- `rows` are the bases of what is built, without such a top row
pub data IsPartly (ps : Pieces) : Ref → List PlacedLeaf → ℕ → List ℕ → Type 0 where
  whole : {ref : Ref} {leaves : List PlacedLeaf} {above : ℕ} {rows : List ℕ}
      → IsIdeal ps ref leaves above rows → IsPartly ps ref leaves above rows
  in_parts : {base above : ℕ} {leaves : List PlacedLeaf} {rows : List ℕ} (r : InnerRow)
      → IsTop ps base r leaves above
      → ArePartly ps r.slots (parts leaves) base rows → IsPartly ps (InnerAt base) leaves above rows

-- what is built stays if its rows stay
pub partly_kept : (ps qs : Pieces) (words : List ℕ) (following : List (List PlacedLeaf)) (above : ℕ)
    (rows : List ℕ) → ArePartly ps words following above rows → StandInOther ps qs rows
    → ArePartly qs words following above rows
partly_kept ps qs _ _ _ _ no_more s = no_more
partly_kept ps qs _ _ above _ (not_built {words = words} {rest = rest} {following = following} more) s =
    not_built (partly_kept ps qs words following above rest more s)
partly_kept ps qs _ _ above _
    (is_built {words = words} {here = here} {rest = rest} {part = part} {following = following} ref e first more) s =
    is_built ref e
    (ideal_kept ps qs ref part above here first record { leaf = s.leaf; inner = λ b x i k. s.inner b x (among_left b here rest i) k })
    (partly_kept ps qs words following above rest more record { leaf = s.leaf; inner = λ b x i k. s.inner b x (among_right b here rest i) k })

-- the rows of what is built have no Unset slot
pub partly_whole : (ps : Pieces) (words : List ℕ) (following : List (List PlacedLeaf)) (above : ℕ)
    (rows : List ℕ) → ArePartly ps words following above rows → Each (StandsWhole ps) rows
partly_whole ps _ _ _ _ no_more = tt
partly_whole ps _ _ above _ (not_built {words = words} {rest = rest} {following = following} more) =
    partly_whole ps words following above rest more
partly_whole ps _ _ above _
    (is_built {words = words} {here = here} {rest = rest} {part = part} {following = following} ref e first more) =
    each_append (StandsWhole ps) here rest (ideal_whole ps ref part above here first)
    (partly_whole ps words following above rest more)

-- if no slot is Unset, all is built
pub partly_all : (ps : Pieces) (words : List ℕ) (following : List (List PlacedLeaf)) (above : ℕ)
    (rows : List ℕ)
    → ArePartly ps words following above rows → ((i : ℕ) → slice_get words i ≢ Some unset_word)
    → AreIdeal ps words following above rows
partly_all ps _ _ _ _ no_more set = no_part
partly_all ps _ _ above _ (not_built more) set = absurd (set 0 refl)
partly_all ps _ _ above _
    (is_built {words = words} {rest = rest} {following = following} ref e first more) set =
    one_part ref e first (partly_all ps words following above rest more (λ i k. set (suc i) k))

-- at first nothing is built
pub partly_none : (ps : Pieces) (following : List (List PlacedLeaf)) (above : ℕ)
    → ArePartly ps (replicate (length following) unset_word) following above []
partly_none ps [] above = no_more
partly_none ps (part ∷ following) above = not_built (partly_none ps following above)

-- some rows with which a tree is partly built
abbrev pub SomePartly : Pieces → List ℕ → List (List PlacedLeaf) → ℕ → Type 0
SomePartly ps words following above = (rows : List ℕ) × ArePartly ps words following above rows

-- a part is placed in its slot
pub partly_placed : (ps : Pieces) (words : List ℕ) (following : List (List PlacedLeaf)) (above : ℕ)
    (rows : List ℕ)
    → ArePartly ps words following above rows → (i word : ℕ) (part : List PlacedLeaf) (ref : Ref)
    (new : List ℕ)
    → slice_get words i ≡ Some unset_word → slice_get following i ≡ Some part → ref_of word ≡ Some ref
    → IsIdeal ps ref part above new → SomePartly ps (slice_set words i word) following above
partly_placed ps _ _ above _ no_more i word part ref new free at is ideal = absurd (cc)
partly_placed ps _ _ above _
    (not_built {rest = rest} {part = p} more) zero word part ref new free at is ideal =
    let same : part ≡ p = cc in
    (new ++ rest, is_built ref is (subst (λ q. IsIdeal ps ref q above new) same ideal) more)
partly_placed ps _ _ above _ (not_built {words = words} {rest = rest} {following = following} more)
    (suc i) word part ref new free at is ideal =
    let it = partly_placed ps words following above rest more i word part ref new free at is ideal in (it.0, not_built it.1)
partly_placed ps _ _ above _
    (is_built {rest = rest} {part = p} r e first more) zero word part ref new free at is ideal =
    let same : part ≡ p = cc in
    (new ++ rest, is_built ref is (subst (λ q. IsIdeal ps ref q above new) same ideal) more)
partly_placed ps _ _ above _
    (is_built {words = words} {here = here} {rest = rest} {following = following} r e first more)
    (suc i) word part ref new free at is ideal =
    let it = partly_placed ps words following above rest more i word part ref new free at is ideal in (here ++ it.0, is_built r e first it.1)

-- ---- what holds of each row of a tree

-- what holds of a row holds of each row that hangs in it
abbrev pub GoesDown : Pieces → (ℕ → Type 0) → Type 0
GoesDown ps P = (node : ℕ) (r : InnerRow) → P node → ps node ≡ Some (Inner r) → (j word child : ℕ)
    → slice_get r.slots j ≡ Some word → ref_of word ≡ Some (InnerAt child) → P child

module _ (ps : Pieces) (P : ℕ → Type 0) (down : GoesDown ps P) where
  mutual
    -- if P holds of the top of an ideal subtree, it holds of each row of it
    pub ideal_each : (ref : Ref) (leaves : List PlacedLeaf) (above : ℕ) (rows : List ℕ)
        → IsIdeal ps ref leaves above rows → ((base : ℕ) → ref ≡ InnerAt base → P base)
        → Each P rows
    ideal_each _ _ _ _ of_none top = tt
    ideal_each _ _ _ _ (of_one same e) top = tt
    ideal_each _ _ above _ (of_more {base = base} {leaves = leaves} {rows = rows} r head under) top = (
      top base refl,
      parts_each r.slots (parts leaves) base rows under
          (λ k word child at is. down base r (top base refl) head.published k word child at is),
    )

    parts_each : (words : List ℕ) (following : List (List PlacedLeaf)) (above : ℕ) (rows : List ℕ)
        → AreIdeal ps words following above rows
        → ((k word child : ℕ) → slice_get words k ≡ Some word → ref_of word ≡ Some (InnerAt child)
        → P child) → Each P rows
    parts_each _ _ _ _ no_part here_each = tt
    parts_each _ _ above _
        (one_part {word = word} {words = words} {here = here} {rest = rest} {part = part} {following = following} ref is first more) here_each =
        each_append P here rest
        (ideal_each ref part above here first (λ base same. here_each 0 word base refl (is ∙ ap (λ x. Some x) same)))
        (parts_each words following above rest more (λ k w child at named. here_each (suc k) w child at named))

  -- if P holds of the tops in the slots, it holds of each row that is built
  pub partly_each : (words : List ℕ) (following : List (List PlacedLeaf)) (above : ℕ) (rows : List ℕ)
      → ArePartly ps words following above rows
      → ((k word child : ℕ) → slice_get words k ≡ Some word → ref_of word ≡ Some (InnerAt child)
      → P child) → Each P rows
  partly_each _ _ _ _ no_more here_each = tt
  partly_each _ _ above _
      (not_built {words = words} {rest = rest} {following = following} more) here_each =
      partly_each words following above rest more
      (λ k w child at named. here_each (suc k) w child at named)
  partly_each _ _ above _
      (is_built {word = word} {words = words} {here = here} {rest = rest} {part = part} {following = following} ref is first more) here_each =
      each_append P here rest
      (ideal_each ref part above here first (λ base same. here_each 0 word base refl (is ∙ ap (λ x. Some x) same)))
      (partly_each words following above rest more (λ k w child at named. here_each (suc k) w child at named))
