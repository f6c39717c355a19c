-- Which of a row's parts are built. What the functions inside this crate promise each other.
use Rattle.std.specs.Prelude.{◌≡◌, ℕ, zero, suc, ◌+◌, ◌-◌, ◌<◌, ◌≤◌, List, [], ◌∷◌, ◌++◌, length, map, drop, replicate, Some, nat_lt, if◌then◌else◌}
use Rattle.std.specs.List.{flat_map, range_with_len, sum}
use Rattle.ist_core.specs.declared.lists.Row.{Row}
use Rattle.ist_core.specs.declared.ports.Full.{Full}
use Rattle.ist_core.specs.Arithmetic.{degree, part_len}
use Rattle.ist_core.specs.Elements.{Each}
use Rattle.ist_core.specs.Ideals.{AreIdeal}
use Rattle.ist_core.specs.Leaves.{PlacedLeaf, HasLeaves}
use Rattle.ist_core.specs.Parts.{first_keys}
use Rattle.ist_core.specs.Pieces.{with_inners}
use Rattle.ist_core.specs.References.{InnerAt, unset_word}
use Rattle.ist_core.specs.RowLayout.{inner_words, place_limit}
use Rattle.ist_core.specs.Shapes.{shape}
use Rattle.ist_core.specs.Snapshots.{bases_of, HoldsRow}
use Rattle.laws_calls.specs.Dividing.{lens_to, parts_to, share_of}
use Rattle.ist_rule.specs.declared.view.View.{View}
use Rattle.ist_rule.specs.declared.view.OwnWord.{OwnWord}
use Rattle.ist_rule.specs.Rule.{own_at}
use Rattle.ist_rule.specs.Learning.{now, storing}
use Rattle.ist_rows.specs.declared.callers.Caller.{Caller}
use Rattle.ist_rows.specs.Rows.{spares_of, IsCaller}
use Rattle.ist_rows.specs.Building.{IsInBuild, HasRefused, sizes_built}
use Rattle.ist_rows.specs.Block.{HoldsBlock}
use Rattle.ist_build.specs.Laying.{BuiltOn, ArePlaced, OwnsRows, IsShort, IsWritten}

-- the n stored words from the place on
abbrev pub words_at : List OwnWord → ℕ → ℕ → List ℕ
words_at own place zero = []
words_at own place (suc n) = own_at own place ∷ words_at own (place + 1) n

-- each word is the ideal subtree over its part, in rows that the caller holds, from `low` on
pub record AreLaid (w : View) (number low above : ℕ) (words : List ℕ)
    (following : List (List PlacedLeaf)) : Type 0 where
  pub rows : List Row
  pub owns : OwnsRows w number low rows
  pub ideal : AreIdeal (with_inners (now w).pieces rows) words following above (bases_of rows)

-- the numbers of keys of the parts from number j on
abbrev pub lens_from : ℕ → ℕ → List ℕ
lens_from n j = map (part_len n) (range_with_len j (degree n - j))

-- the row's first words were stored
pub record IsOpened (own : List OwnWord) (base degree size : ℕ) : Type 0 where
  pub status : own_at own base ≡ 0
  pub count : own_at own (base + 1) ≡ 0
  pub degree_is : own_at own (base + 2) ≡ degree
  pub size_is : own_at own (base + 3) ≡ size

-- since its earlier state the caller reserved the row at the base, and the first j parts of it are
-- built
pub record IsMidway (old : Caller) (leaves : List ℕ) (base d j : ℕ) (who : Caller) : Type 0 where
  pub caller : IsCaller who
  pub number : who.number ≡ old.number
  pub rows : spares_of who ≡ spares_of old
  pub built : BuiltOn old.token.view who.token.view
  pub high : (now old.token.view).next ≤ base
  pub held : HoldsRow (now who.token.view) who.number base (inner_words d)
  pub opened : IsOpened who.token.view.own base d (length leaves)
  pub laid : (placed : List PlacedLeaf) → ArePlaced (now old.token.view) leaves placed
      → AreLaid who.token.view who.number (base + inner_words d) base
      (words_at who.token.view.own (base + 3 + d) j) (parts_to (length leaves) j placed)
  pub keys : (placed : List PlacedLeaf) → ArePlaced (now old.token.view) leaves placed
      → words_at who.token.view.own (base + 4) (j - 1)
      ≡ first_keys (λ leaf. leaf.row.key) (drop 1 (parts_to (length leaves) j placed))
  pub due : (stuck done rest : List ℕ) → IsInBuild old stuck done (shape (length leaves) ++ rest)
      → IsInBuild who stuck
      (done ++ inner_words d ∷ flat_map shape (lens_to (length leaves) j))
      (flat_map shape (lens_from (length leaves) j) ++ rest)

-- since its earlier state the caller has only made loads: too few words are left for the row over these
-- keys, and each build of which it holds rows was refused
pub record IsTopRowRefused (old : Caller) (words keys : ℕ) (full : Full) (who : Caller) : Type 0 where
  pub caller : IsCaller who
  pub number : who.number ≡ old.number
  pub rows : spares_of who ≡ spares_of old
  pub built : BuiltOn old.token.view who.token.view
  pub short : IsShort old.token.view words keys full who.token.view
  pub refused : HasRefused who

-- the same as `AreLaid`, in rows that end at `high` or before
pub record AreLaidBelow (w : View) (number low high above : ℕ) (words : List ℕ)
    (following : List (List PlacedLeaf)) : Type 0 where
  pub laid : AreLaid w number low above words following
  pub ends : Each (λ row. row.base + length row.words ≤ high) laid.rows

-- the caller only stored words: into the row at the base and, for the first j parts, into the rows
-- after it; the rows of the other parts begin at `next`
pub record IsLaying (old : Caller) (leaves : List ℕ) (base d j next : ℕ) (who : Caller) : Type 0 where
  pub written : IsWritten old who base next
  pub next_is : next ≡ base + inner_words d + sum (flat_map shape (lens_to (length leaves) j))
  pub low : next ≤ place_limit
  pub held : HoldsRow (now who.token.view) who.number base (inner_words d)
  pub rest : HoldsBlock (now who.token.view) who.number next
      (flat_map shape (lens_from (length leaves) j))
  pub opened : IsOpened who.token.view.own base d (length leaves)
  pub laid : (placed : List PlacedLeaf) → ArePlaced (now old.token.view) leaves placed
      → AreLaidBelow who.token.view who.number (base + inner_words d) next base
      (words_at who.token.view.own (base + 3 + d) j) (parts_to (length leaves) j placed)
  pub keys : (placed : List PlacedLeaf) → ArePlaced (now old.token.view) leaves placed
      → words_at who.token.view.own (base + 4) (j - 1)
      ≡ first_keys (λ leaf. leaf.row.key) (drop 1 (parts_to (length leaves) j placed))

-- since its earlier state the caller reserved the row at the base, and has set the first j slots of it
-- to Unset with the keys of these parts: only the top row of the target's ideal tree
pub record IsTopMidway (old : Caller) (target k base d j : ℕ) (who : Caller) : Type 0 where
  pub caller : IsCaller who
  pub number : who.number ≡ old.number
  pub rows : spares_of who ≡ spares_of old
  pub built : BuiltOn old.token.view who.token.view
  pub high : (now old.token.view).next ≤ base
  pub held : HoldsRow (now who.token.view) who.number base (inner_words d)
  pub opened : IsOpened who.token.view.own base d k
  pub slots : words_at who.token.view.own (base + 3 + d) j ≡ replicate j unset_word
  pub keys : (leaves : List PlacedLeaf)
      → HasLeaves (now old.token.view).pieces (Some (InnerAt target)) leaves
      → words_at who.token.view.own (base + 4) (j - 1)
      ≡ first_keys (λ leaf. leaf.row.key) (drop 1 (parts_to k j leaves))
  pub sizes : sizes_built who ≡ sizes_built old ++ inner_words d ∷ []

-- ---- a part

-- the slices are part j of the leaves and of their keys, of n
pub record IsPart (n j : ℕ) (leaves keys own own_keys : List ℕ) : Type 0 where
  pub less : j < degree n
  pub some : 1 ≤ part_len n j
  pub own_is : own ≡ share_of n j leaves
  pub keys_are : own_keys ≡ share_of n j keys

-- ---- stores

-- the view after storing the first words of a row
abbrev pub opening : View → ℕ → ℕ → ℕ → View
opening v base d size = storing (storing v (base + 2) d) (base + 3) size

-- the view after storing slot j of a row, and key j, if there is one
abbrev pub setting : View → ℕ → ℕ → ℕ → ℕ → ℕ → View
setting v base d j key word =
    if nat_lt 0 j then storing (storing v (base + (3 + d + j)) word) (base + (3 + j)) key
    else storing v (base + (3 + d + j)) word
