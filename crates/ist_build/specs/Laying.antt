-- Ideal subtrees in rows that a caller holds, and what it does while it builds them.
use Rattle.std.specs.Prelude.{◌≡◌, ℕ, ◌+◌, ◌<◌, ◌≤◌, List, [], ◌∷◌, ◌++◌, length, map, replicate, Some}
use Rattle.ist_core.specs.declared.events.Event.{Event}
use Rattle.ist_core.specs.declared.events.Event.TheVariants.{Reserve}
use Rattle.ist_core.specs.declared.lists.Row.{Row}
use Rattle.ist_core.specs.declared.states.InnerRow.{InnerRow}
use Rattle.ist_core.specs.declared.states.LeafRow.{LeafRow}
use Rattle.ist_core.specs.declared.states.RebuildRow.{RebuildRow}
use Rattle.ist_core.specs.declared.ports.Full.{Full}
use Rattle.ist_core.specs.Arithmetic.{degree}
use Rattle.ist_core.specs.Elements.{Each, Distinct}
use Rattle.ist_core.specs.Building.{IsRoot}
use Rattle.ist_core.specs.Ideals.{IsIdeal, IsTop}
use Rattle.ist_core.specs.Leaves.{PlacedLeaf}
use Rattle.ist_core.specs.Pieces.{Leaf, Rebuild, with_inners}
use Rattle.ist_core.specs.References.{Ref, InnerAt, ref_of, unset_word}
use Rattle.ist_core.specs.RowLayout.{inner_words}
use Rattle.ist_core.specs.Shapes.{shape}
use Rattle.ist_core.specs.Rebuilding.{IsStarted, IsFinishedWith}
use Rattle.ist_core.specs.Snapshots.{Snapshot, bases_of, sizes_of, HoldsRows}
use Rattle.ist_rule.specs.declared.view.View.{View}
use Rattle.ist_rule.specs.Rule.{IsSound, own_at}
use Rattle.ist_rule.specs.Learning.{now}
use Rattle.ist_rule.specs.Conditions.{StoredAll}
use Rattle.ist_rows.specs.Rows.{IsCaller}
use Rattle.ist_rows.specs.Shortage.{RanShort}
use Rattle.ist_rows.specs.declared.callers.Caller.{Caller}
use Rattle.ist_rows.specs.Building.{IsInBuild, sizes_built}
use Rattle.ist_core.specs.Authors.{LaterBy}

-- ---- what the caller does

-- the event is a reservation
abbrev pub IsReservation : Event → Type 0
IsReservation (Reserve caller base size) = Unit {0}
IsReservation _ = ⊥

-- from v to w the caller has only made loads, made events for which P holds, and stored words into
-- rows that it reserved since
pub record LaidOn (P : Event → Type 0) (v w : View) : Type 0 where
  pub later : LaterBy v.who P v.log w.log
  pub sound : IsSound w
  pub same : w ≡ record v { log = w.log; own = w.own; loads = w.loads; loaded = w.loaded }
  pub own : (place : ℕ) → place < (now v).next → own_at w.own place ≡ own_at v.own place
  pub loaded : v.loaded ≤ w.loaded

-- the same, with reservations as the only events
abbrev pub BuiltOn : View → View → Type 0
BuiltOn = LaidOn IsReservation

-- ---- leaves

-- these are published leaves, at these bases
pub record ArePlaced (t : Snapshot) (bases : List ℕ) (leaves : List PlacedLeaf) : Type 0 where
  pub bases_are : map (λ leaf. leaf.base) leaves ≡ bases
  pub published : Each (λ leaf. t.pieces leaf.base ≡ Some (Leaf leaf.row)) leaves

-- a leaf is published at the base
pub record IsLeaf (t : Snapshot) (base : ℕ) : Type 0 where
  pub row : LeafRow
  pub published : t.pieces base ≡ Some (Leaf row)

-- leaves are published at these bases
abbrev pub HaveLeaves : Snapshot → List ℕ → Type 0
HaveLeaves t bases = (leaves : List PlacedLeaf) × ArePlaced t bases leaves

-- the key is the published leaf's at the base
pub record IsKeyOf (t : Snapshot) (base key : ℕ) : Type 0 where
  pub row : LeafRow
  pub published : t.pieces base ≡ Some (Leaf row)
  pub key_is : key ≡ row.key

-- these are the keys of the leaves that are published at these bases, in their order
abbrev pub AreKeysOf : Snapshot → List ℕ → List ℕ → Type 0
AreKeysOf t [] [] = Unit {0}
AreKeysOf t (base ∷ bases) (key ∷ keys) = IsKeyOf t base key × AreKeysOf t bases keys
AreKeysOf t _ _ = ⊥

-- ---- what is built

-- the numbers are strictly increasing
abbrev pub Rises : List ℕ → Type 0
Rises [] = Unit {0}
Rises (x ∷ xs) = Each (λ y. x < y) xs × Rises xs

-- the caller holds these rows, which lie from `low` on in their order, with the words that it
-- stored
pub record OwnsRows (w : View) (number low : ℕ) (rows : List Row) : Type 0 where
  pub stored : StoredAll w rows
  pub held : HoldsRows (now w) number rows
  pub once : Distinct (bases_of rows)
  pub rising : Rises (bases_of rows)
  pub high : Each (λ row. low ≤ row.base) rows

-- the word is the ideal subtree over these leaves, in rows that the caller holds, from `low` on
pub record IsLaid (w : View) (number low word : ℕ) (leaves : List PlacedLeaf) : Type 0 where
  pub rows : List Row
  pub owns : OwnsRows w number low rows
  pub ref : Ref
  pub ref_is : ref_of word ≡ Some ref
  pub ideal : (above : ℕ) → above < low
      → IsIdeal (with_inners (now w).pieces rows) ref leaves above (bases_of rows)

-- the word is only the top row of the ideal tree over these leaves, with every slot Unset, in a row
-- that the caller holds, from `low` on
pub record IsTopLaid (w : View) (number low word : ℕ) (leaves : List PlacedLeaf) : Type 0 where
  pub rows : List Row
  pub owns : OwnsRows w number low rows
  pub base : ℕ
  pub row : InnerRow
  pub ref_is : ref_of word ≡ Some (InnerAt base)
  pub top : (above : ℕ) → above < low
      → IsTop (with_inners (now w).pieces rows) base row leaves above
  pub unset : row.slots ≡ replicate (degree (length leaves)) unset_word
  pub one : bases_of rows ≡ base ∷ []

-- the word is a root over these leaves of a target with k keys, in rows that the caller took since
-- its earlier state; its other rows are the ones that it had then
pub record IsRootLaid (old new : Caller) (target k word : ℕ) (leaves : List PlacedLeaf) : Type 0 where
  pub rows : List Row
  pub owns : OwnsRows new.token.view new.number (now old.token.view).next rows
  pub root : IsRoot (with_inners (now new.token.view).pieces rows) word k leaves target (bases_of rows)
  pub sizes : sizes_built new ≡ sizes_built old ++ sizes_of rows

-- ---- a build

-- the next rows of the caller's build are the rows of an ideal subtree over `keys` keys
pub record AreNextRows (who : Caller) (keys : ℕ) : Type 0 where
  pub stuck : List ℕ
  pub done : List ℕ
  pub rest : List ℕ
  pub at : IsInBuild who stuck done (shape keys ++ rest)

-- this many words are asked for, for a node over at least two keys and no more than `keys`
pub record IsForNode (keys asked : ℕ) : Type 0 where
  pub some : ℕ
  pub least : 2 ≤ some
  pub most : some ≤ keys
  pub asked_is : asked ≡ inner_words (degree some)

-- too few words are left for such a node; until then the caller built
abbrev pub IsShort : View → ℕ → ℕ → Full → View → Type 0
IsShort v words keys full w = RanShort BuiltOn (IsForNode keys) v words full w

-- ---- in rows that are held already

-- the caller only stored words, at places from `low` to below `high`
pub record IsWritten (old new : Caller) (low high : ℕ) : Type 0 where
  pub same : new
      ≡ record old {
        token = record old.token { view = record old.token.view { own = new.token.view.own } };
      }
  pub caller : IsCaller new
  pub sound : IsSound new.token.view
  pub below : (place : ℕ) → place < low → own_at new.token.view.own place
      ≡ own_at old.token.view.own place
  pub above : (place : ℕ) → high ≤ place → own_at new.token.view.own place
      ≡ own_at old.token.view.own place

-- the same as `IsLaid`, in rows that end at `high` or before
pub record IsLaidBelow (w : View) (number low high word : ℕ) (leaves : List PlacedLeaf) : Type 0 where
  pub laid : IsLaid w number low word leaves
  pub ends : Each (λ row. row.base + length row.words ≤ high) laid.rows

-- ---- a target

-- the target of a started rebuild is finished with k keys
pub record IsTarget (t : Snapshot) (target k : ℕ) : Type 0 where
  pub rebuild : ℕ
  pub row : RebuildRow
  pub published : t.pieces rebuild ≡ Some (Rebuild row)
  pub target_is : row.target ≡ target
  pub started : IsStarted t rebuild
  pub finished : IsFinishedWith t target k
