-- What is gathered below a slot or a list of slots are its leaves. Serves `leaves.rt`.
use Rattle.std.proofs.Common.{◌≡◌, ◌∙◌, ◌≤◌, ◌-◌, ℕ, true, false, Bool, List, [], ◌∷◌, ◌++◌, length, take, get_or, Option, Some, None, sym, ap, subst, append_assoc, arith, reverse, refl}
use Rattle.std.proofs.lemmas.List.{append-nil, take_all, reverse-append, reverse-reverse}
use Rattle.std.specs.Ordering.{nat_cmp}
use Rattle.std.specs.BTreeMap as tree
use Rattle.ist_core.specs.declared.states.LeafRow.{LeafRow}
use Rattle.ist_core.specs.declared.states.InnerRow.{InnerRow}
use Rattle.ist_core.specs.WordTerms.{Ref, Empty, LeafAt, InnerAt, Pieces, Piece, Leaf, Inner, Change, Rebuild, as_leaf, logical}
use Rattle.ist_core.specs.LogTerms.{Snapshot}
use Rattle.ist_core.specs.TreeTerms.{PlacedLeaf, HasLeaves, SlotsHaveLeaves, none_here, leaf_here, row_here, no_slot, one_slot}
use Rattle.ist_core.proofs.AllPlaceLemmas.{reached, slots_reached, same_leaves}
use Rattle.check_events.specs.declared.replicas.Replica.{Replica}
use Rattle.check_events.specs.Mirroring.{Mirrors}
use Rattle.check_fairness.proofs.AnswerLemmas.{following}
use Rattle.check_builds.specs.Reading.{Gathers, LeavesLeft, GathersOn, PutsSlots}

-- words are the first and those after it
pub first_word : (xs : List ℕ) → 1 ≤ length xs → xs ≡ get_or xs 0 0 ∷ following xs
first_word [] h = absurd (omega arith)
first_word (x ∷ xs) h = grind (arith, take_all)

as_leaf-some : (o : Option Piece) (r : LeafRow) → as_leaf o ≡ Some r → o ≡ Some (Leaf r)
as_leaf-some (Some (Leaf s)) r e = let i : s ≡ r = cc in ap (λ x. Some (Leaf x)) i
as_leaf-some (Some (Inner s)) r e = cc
as_leaf-some (Some (Change s)) r e = cc
as_leaf-some (Some (Rebuild s)) r e = cc
as_leaf-some None r e = cc

-- a leaf that the replica has is published
pub leaf_stands : (s : Replica) (t : Snapshot) (base : ℕ) → Mirrors s t → (r : LeafRow)
    → tree.get nat_cmp s.leaves base ≡ Some r → t.pieces base ≡ Some (Leaf r)
leaf_stands s t base h r e = as_leaf-some (t.pieces base) r (sym (h.leaves base) ∙ e)

module _ (ps : Pieces) where
  -- a published leaf is gathered as itself
  pub gathers_leaf : (base : ℕ) (row : LeafRow) (old new : List PlacedLeaf)
      → ps base ≡ Some (Leaf row) → new ≡ old ++ record { base = base; row = row } ∷ []
      → Gathers (λ ls. HasLeaves ps (Some (LeafAt base)) ls) old true new
  gathers_leaf base row old new e is = (record { base = base; row = row } ∷ [], is, leaf_here row e)

  -- no row, no leaves
  pub no_row_gathers : (base : ℕ) → ((r : InnerRow) → ¬ (ps base ≡ Some (Inner r)))
      → (ls : List PlacedLeaf) → ¬ (HasLeaves ps (Some (InnerAt base)) ls)
  no_row_gathers base none ls has = grind (arith, reached)

  -- ---- slots

  -- if the first slot has these leaves, the leaves of the other slots are left
  first_found : (word : ℕ) (words : List ℕ) (here : List PlacedLeaf)
      → HasLeaves ps (logical ps word) here
      → LeavesLeft ps (SlotsHaveLeaves ps (word ∷ words)) here words
  first_found word words here has = record {
    all = λ rest h. one_slot has h;
    no_other = grind (arith, slots_reached, same_leaves);
  }

  -- slots of which the first has no list of leaves have none
  pub first_lacks : (word : ℕ) (words : List ℕ)
      → ((ls : List PlacedLeaf) → ¬ (HasLeaves ps (logical ps word) ls))
      → (ls : List PlacedLeaf) → ¬ (SlotsHaveLeaves ps (word ∷ words) ls)
  first_lacks word words none ls h = let it = slots_reached ps (word ∷ words) ls h in none it.0 it.2

  -- what was gathered of the first slot, of which this is the reading
  pub first_gathered : (word : ℕ) (words : List ℕ) (ref : Option Ref) (old new : List PlacedLeaf)
      (found : Bool) → logical ps word ≡ ref → Gathers (λ ls. HasLeaves ps ref ls) old found new
      → GathersOn ps (word ∷ words) old found words new
  first_gathered word words ref old new true read h = grind (arith, first_found)
  first_gathered word words ref old new false read h = grind (arith, first_lacks)

  -- a slot that reads as nothing has no leaf
  pub first_empty : (word : ℕ) (words : List ℕ) (old : List PlacedLeaf)
      → logical ps word ≡ Some Empty → GathersOn ps (word ∷ words) old true words old
  first_empty word words old read = first_gathered word words (Some Empty) old old true read
      ([], sym (append-nil old), none_here)

  -- ---- rows

  -- the leaves of an inner row are the leaves of its slots
  pub row_left : (base : ℕ) (r : InnerRow) → ps base ≡ Some (Inner r)
      → LeavesLeft ps (λ ls. HasLeaves ps (Some (InnerAt base)) ls) [] r.slots
  row_left base r e = record { all = λ rest h. row_here r e h; no_other = grind (arith, reached) }

  slots_joined : (xs ys : List ℕ) (here rest : List PlacedLeaf) → SlotsHaveLeaves ps xs here
      → SlotsHaveLeaves ps ys rest → SlotsHaveLeaves ps (xs ++ ys) (here ++ rest)
  slots_joined _ ys _ rest no_slot h = h
  slots_joined _ ys _ rest (one_slot {word = x} {words = xs} {here = here} {rest = more} a b) h =
      subst (λ ls. SlotsHaveLeaves ps (x ∷ xs ++ ys) ls) (sym (append_assoc here more rest))
      (one_slot a (slots_joined xs ys more rest b h))

  slots_split : (xs ys : List ℕ) (ls : List PlacedLeaf) → SlotsHaveLeaves ps (xs ++ ys) ls
      → (here rest : List PlacedLeaf) × (ls ≡ here ++ rest) × SlotsHaveLeaves ps xs here
      × SlotsHaveLeaves ps ys rest
  slots_split [] ys ls h = ([], ls, refl, no_slot, h)
  slots_split (x ∷ xs) ys ls h = let it = slots_reached ps (x ∷ xs ++ ys) ls h in
      let more = slots_split xs ys it.1 it.3 in (
        it.0 ++ more.0,
        more.1,
        it.4 ∙ ap (λ zs. it.0 ++ zs) more.2 ∙ sym (append_assoc it.0 more.0 more.1),
        one_slot it.2 more.3,
        more.4,
      )

  -- a slot that reads as an inner row is replaced by the row's slots, before the others
  slots_before : (word base : ℕ) (words : List ℕ) (r : InnerRow) → ps base ≡ Some (Inner r)
      → logical ps word ≡ Some (InnerAt base)
      → LeavesLeft ps (SlotsHaveLeaves ps (word ∷ words)) [] (r.slots ++ words)
  slots_before word base words r e read = record {
    all = λ rest h. let it = slots_split r.slots words rest h in
        let has = subst (λ o. HasLeaves ps o it.0) (sym read) (row_here r e it.3) in
        subst (λ ls. SlotsHaveLeaves ps (word ∷ words) ls) (sym it.2) (one_slot has it.4);
    no_other = grind (arith, slots_reached, row_left, slots_joined);
  }

  -- a row is gathered if its slots were appended to those that wait
  pub row_gathered : (word base : ℕ) (waiting new : List ℕ) (out : List PlacedLeaf) (found : Bool)
      → logical ps word ≡ Some (InnerAt base) → PutsSlots ps base waiting found new
      → GathersOn ps (word ∷ reverse waiting) out found (reverse new) out
  row_gathered word base waiting new out true read puts =
      grind (arith, reverse-append, reverse-reverse, append-nil, slots_before)
  row_gathered word base waiting new out false read none = first_lacks word (reverse waiting)
      (λ ls has. grind (arith, no_row_gathers))

  -- ---- a search, step by step

  -- what was found so far, and what is left, of the leaves with P
  abbrev pub IsFoundAndLeft : (List PlacedLeaf → Type 0) → List PlacedLeaf → List PlacedLeaf → List ℕ → Type 0
  IsFoundAndLeft P old new words =
      (found : List PlacedLeaf) × (new ≡ old ++ found) × LeavesLeft ps P found words

  -- what is left stays right when more leaves are gathered
  pub left_more : (P : List PlacedLeaf → Type 0) (old mid new : List PlacedLeaf)
      (words left : List ℕ) → IsFoundAndLeft P old mid words → GathersOn ps words mid true left new
      → IsFoundAndLeft P old new left
  left_more P old mid new words left a b = (
    a.0 ++ b.0,
    b.1 ∙ ap (λ zs. zs ++ b.0) a.1 ∙ append_assoc old a.0 b.0,
    record {
      all = λ rest h. subst P (sym (append_assoc a.0 b.0 rest)) (a.2.all (b.0 ++ rest) (b.2.all rest h));
      no_other = λ leaves p. let it = a.2.no_other leaves p in let on = b.2.no_other it.0 it.2 in
          (on.0, it.1 ∙ ap (λ zs. a.0 ++ zs) on.1 ∙ sym (append_assoc a.0 b.0 on.0), on.2);
    },
  )

  -- with no words left all leaves were found
  pub none_left : (P : List PlacedLeaf → Type 0) (old new : List PlacedLeaf) (words : List ℕ)
      → words ≡ [] → IsFoundAndLeft P old new words → Gathers P old true new
  none_left P old new words e a =
      let whole = a.2.all [] (subst (λ ws. SlotsHaveLeaves ps ws []) (sym e) no_slot) in
      (a.0, a.1, subst P (append-nil a.0) whole)

  -- if the words have no leaves, no list has P
  pub left_lacks : (P : List PlacedLeaf → Type 0) (old mid : List PlacedLeaf) (words : List ℕ)
      → IsFoundAndLeft P old mid words → ((leaves : List PlacedLeaf) → ¬ (SlotsHaveLeaves ps words leaves))
      → (leaves : List PlacedLeaf) → ¬ (P leaves)
  left_lacks P old mid words a b leaves p = let it = a.2.no_other leaves p in b it.0 it.2

  -- at first nothing was found, and the slots of the row are left
  pub begun : (base : ℕ) (none waiting : List ℕ) (out : List PlacedLeaf) → none ≡ []
      → PutsSlots ps base none true waiting
      → IsFoundAndLeft (λ ls. HasLeaves ps (Some (InnerAt base)) ls) out out (reverse waiting)
  begun base none waiting out empty puts = grind (arith, reverse-reverse, append-nil, row_left)

-- ---- words that wait

-- the last word that waits is the next one
pub next_waits : (waiting rest : List ℕ) (word : ℕ) → waiting ≡ rest ++ word ∷ []
    → reverse waiting ≡ word ∷ reverse rest
next_waits waiting rest word e = ap reverse e ∙ reverse-append rest (word ∷ [])

-- if no word waits, none is next
pub nothing_waits : (waiting rest : List ℕ) (n : ℕ) → waiting ≡ rest ++ [] → rest ≡ take (n - 1) waiting
    → n ≡ 0 → reverse waiting ≡ []
nothing_waits waiting rest n is taken none = grind (arith, append-nil)
