-- The conjunct `shaped`: an inner row has `degree` slots and one key less. Serves the image law.
use Rattle.std.proofs.Common.{◌≡◌, ◌≤◌, ℕ, zero, suc, List, [], ◌∷◌, length, replicate, Some, refl, sym, ap, ◌∙◌, subst, arith}
use Rattle.std.specs.List.{flat_map}
use Rattle.ist_core.specs.Types.{Pair, Row, InnerRow, LeafRow, ChangeRow, Event}
use Rattle.ist_core.specs.WordTerms.{degree, first_row, Ref, unset_word, open_word, parts, Pieces, Piece, Leaf, Inner, with_inners, top_row, start, placed_parts, rows_within, rows_from, IsTop, IsIdeal, AreIdeal, of_none, of_one, of_more, no_part, one_part}
use Rattle.ist_core.specs.LogTerms.{Among, Each, Snapshot, bases_of, Log, state, Enabled, EachEnabled, state_of}
use Rattle.ist_core.specs.Naming.{HasDegree}
use Rattle.ist_core.specs.TreeTerms.{PlacedLeaf, IsRoot, root_whole, root_top, FitsKind, Grows, leaf_stays, inner_grows, change_grows, rebuild_grows}
use Rattle.ist_core.proofs.OptionLemmas.{each_append, each-among, among-pieces_of}
use Rattle.ist_core.proofs.SoundLemmas.{sound}
use Rattle.ist_core.proofs.StepLemmas.{sound_start, known, IsInstalledWith, installed_has}
use Rattle.ist_core.proofs.LayoutLemmas.{keys_of_parts, length-parts, slots_of-top_row}
use Rattle.ist_core.proofs.BornLemmas.{Born, by_install, by_root, by_place, Comes, from_old, from_born, comes}

-- the row has slots and keys as its degree says, if it is an inner row
abbrev pub IsShaped : Piece → Type 0
IsShaped (Inner r) = HasDegree r
IsShaped _ = Unit {0}

-- growing keeps the shape
pub grows_shaped : (p q : Piece) → Grows p q → IsShaped p → IsShaped q
grows_shaped _ _ leaf_stays h = tt
grows_shaped _ _ (inner_grows {old = r} {new = s} g) h = grind arith
grows_shaped _ _ (change_grows g) h = tt
grows_shaped _ _ (rebuild_grows g) h = tt

-- ---- fresh rows

installed_shaped : (first : Snapshot) (log : Log) (at : ℕ) (change : ChangeRow) (fresh : List Row)
    (fits : FitsKind first log change fresh) (base : ℕ) (p : Piece)
    → IsInstalledWith first log at change fresh fits base p → IsShaped p
installed_shaped = grind (arith, installed_has)

-- there is an open inner row of this shape at the base
pub record StandsShaped (ps : Pieces) (base : ℕ) : Type 0 where
  pub row : InnerRow
  pub published : ps base ≡ Some (Inner row)
  pub shaped : HasDegree row
  pub untouched : row.status ≡ open_word

-- there are as many slots over parts as parts
slots_of_parts : (ps : Pieces) (words : List ℕ) (following : List (List PlacedLeaf)) (above : ℕ)
    (rows : List ℕ) → AreIdeal ps words following above rows → length words ≡ length following
slots_of_parts ps _ _ above _ no_part = refl
slots_of_parts ps _ _ above _ (one_part {words = words} {rest = rest} {following = following} ref e first
    more) = let rest_same = slots_of_parts ps words following above rest more in omega arith

-- the top row of an ideal subtree is shaped, if it has one slot for each part
top_shaped : (ps : Pieces) (base : ℕ) (r : InnerRow) (leaves : List PlacedLeaf) (above : ℕ)
    → IsTop ps base r leaves above → length r.slots ≡ degree (length leaves) → HasDegree r
top_shaped ps base r leaves above top slots = grind (arith, keys_of_parts)

mutual
  -- each inner row of an ideal subtree is shaped
  pub ideal_shaped : (ps : Pieces) (ref : Ref) (leaves : List PlacedLeaf) (above : ℕ)
      (rows : List ℕ) → IsIdeal ps ref leaves above rows → Each (StandsShaped ps) rows
  ideal_shaped ps _ _ _ _ of_none = tt
  ideal_shaped ps _ _ _ _ (of_one same e) = tt
  ideal_shaped ps _ _ above _ (of_more {base = base} {leaves = leaves} {rows = rows} r top below) = (
    record {
      row = r;
      published = top.published;
      shaped = top_shaped ps base r leaves above top
          (slots_of_parts ps r.slots (parts leaves) base rows below ∙ length-parts leaves);
      untouched = top.status;
    },
    parts_shaped ps r.slots (parts leaves) base rows below,
  )

  parts_shaped : (ps : Pieces) (words : List ℕ) (following : List (List PlacedLeaf)) (above : ℕ)
      (rows : List ℕ) → AreIdeal ps words following above rows → Each (StandsShaped ps) rows
  parts_shaped ps _ _ _ _ no_part = tt
  parts_shaped ps _ _ above _ (one_part {words = words} {here = here} {rest = rest} {part = part}
      {following = following} ref e first more) =
      each_append (StandsShaped ps) here rest (ideal_shaped ps ref part above here first)
      (parts_shaped ps words following above rest more)

length_unset : (n : ℕ) → length (replicate n unset_word) ≡ n
length_unset zero = refl
length_unset (suc n) = let rest = length_unset n in omega arith

-- each inner row of a root is shaped
pub root_shaped : (ps : Pieces) (word k : ℕ) (leaves : List PlacedLeaf) (target : ℕ) (rows : List ℕ)
    → IsRoot ps word k leaves target rows → Each (StandsShaped ps) rows
root_shaped ps word k leaves target rows (root_whole ref few e ideal) = grind (arith, ideal_shaped)
root_shaped ps word k leaves target rows (root_top base row many e top unset one) =
    subst (λ bs. Each (StandsShaped ps) bs) (sym one) (
      record {
        row = row;
        published = top.published;
        shaped = top_shaped ps base row leaves target
            top (ap length unset ∙ length_unset (degree (length leaves)));
        untouched = top.status;
      },
      tt,
    )

tree_shaped : (ps : Pieces) (rows : List ℕ) (base : ℕ) (p : Piece) → Each (StandsShaped ps) rows
    → Among base rows → ps base ≡ Some p → IsShaped p
tree_shaped ps rows base p all i e = grind (arith, each-among, known)

-- each row that an event publishes has its shape
born_shaped : (first : Snapshot) (log : Log) (event : Event) (base : ℕ) (p : Piece)
    → Enabled first log event → Born first log base p event → IsShaped p
born_shaped first log _ base p can (by_install {change = at} h born) = installed_shaped first log at
    h.change h.fresh h.fits base p born
born_shaped first log _ base p can (by_root {word = word} {rows = rows} i e) =
    tree_shaped (with_inners (state first log).pieces rows) (bases_of rows) base p
    (root_shaped (with_inners (state first log).pieces rows) word can.k can.leaves
    can.row.target (bases_of rows) can.root) i e
born_shaped first log _ base p can (by_place {rows = rows} i e) =
    grind (arith, tree_shaped, ideal_shaped)

-- ---- a new table

module _ {A B : Type 0} where
  -- what is true of each element of all lists is true of each element of the joined list
  pub each-flat_map : (P : B → Type 0) (f : A → List B) (xs : List A) → ((x : A) → Each P (f x))
      → Each P (flat_map f xs)
  each-flat_map P f [] all = tt
  each-flat_map P f (x ∷ xs) all = each_append P (f x) (flat_map f xs) (all x)
      (each-flat_map P f xs all)

-- what leaves and top rows have, each row of a new tree has
pub rows_have : (P : Piece → Type 0) → ((r : LeafRow) → P (Leaf r))
    → ((base : ℕ) (pairs : List Pair) → 2 ≤ length pairs → P (top_row base pairs))
    → (fuel base : ℕ) (pairs : List Pair) → Each (λ row. P row.1) (rows_within fuel base pairs)
unfolding rows_within
rows_have P leaf top fuel base [] = tt
rows_have P leaf top fuel base (pair ∷ []) = (leaf _, tt)
rows_have P leaf top zero base (pair ∷ more ∷ pairs) = tt
rows_have P leaf top (suc fuel) base (pair ∷ more ∷ pairs) =
    let all = pair ∷ more ∷ pairs in (
      top base all (omega arith),
      each-flat_map (λ row. P row.1) (λ part. rows_within fuel part.0 part.1)
          (placed_parts base all) (λ part. rows_have P leaf top fuel part.0 part.1),
    )

rows_shaped : (fuel base : ℕ) (pairs : List Pair)
    → Each (λ row. IsShaped row.1) (rows_within fuel base pairs)
rows_shaped = rows_have IsShaped (λ r. tt)
    (λ base all two.
    record { keys = keys_of_parts (λ p. p.key) all (omega arith); slots = slots_of-top_row base all })

-- each row after a log from a new table has its shape
pub shaped : (pairs : List Pair) (words : ℕ) (log : Log) → EachEnabled (start pairs words) log
    → (base : ℕ) (p : Piece) → (state_of pairs words log).pieces base ≡ Some p → IsShaped p
shaped pairs words [] h base p e =
    each-among (λ row. IsShaped row.1) (base, p) (rows_from first_row pairs)
    (rows_shaped (length pairs) first_row pairs)
    (among-pieces_of (rows_from first_row pairs) base p e)
shaped pairs words (event ∷ log) h base q e =
    at (λ p there. shaped pairs words log h.0 base p there)
    (comes (start pairs words) log event h.1
    (sound (start pairs words) log (sound_start pairs words) h.0) base q e)
  where
    at : ((p : Piece) → (state_of pairs words log).pieces base ≡ Some p → IsShaped p)
        → Comes (start pairs words) log event base q → IsShaped q
    at before (from_old p there g) = grows_shaped p q g (before p there)
    at before (from_born p born g) = grind (arith, grows_shaped, born_shaped)
