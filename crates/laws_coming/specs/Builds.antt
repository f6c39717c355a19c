-- Which Root or Place a caller may come to make for what it has built, or else lose its rows.
-- `src/laws.rt` lists the clauses.
use Rattle.std.specs.Prelude.{◌≡◌, ◌≢◌, ℕ, ◌+◌, ◌<◌, ◌≤◌, List, [], slice_get, Some}
use Rattle.ist_core.specs.declared.events.Event.{Event}
use Rattle.ist_core.specs.declared.events.Event.TheVariants.{Root, Place, Lose}
use Rattle.ist_core.specs.declared.lists.Row.{Row}
use Rattle.ist_core.specs.declared.states.InnerRow.{InnerRow}
use Rattle.ist_core.specs.declared.states.RebuildRow.{RebuildRow}
use Rattle.ist_core.specs.RowLayout.{rebuild_root_offset}
use Rattle.ist_core.specs.Shapes.{share_from}
use Rattle.ist_core.specs.References.{Ref, InnerAt, ref_of, unset_word}
use Rattle.ist_core.specs.Elements.{Distinct}
use Rattle.ist_core.specs.Parts.{parts}
use Rattle.ist_core.specs.Pieces.{Inner, Rebuild, with_inners}
use Rattle.ist_core.specs.Snapshots.{Snapshot, bases_of, HoldsRows}
use Rattle.ist_core.specs.Authors.{GoesOnBy}
use Rattle.ist_core.specs.Logs.{Log}
use Rattle.ist_core.specs.Leaves.{PlacedLeaf, HasLeaves}
use Rattle.ist_core.specs.Ideals.{IsIdeal}
use Rattle.ist_core.specs.Rebuilding.{IsStarted, IsFinishedWith}
use Rattle.ist_core.specs.Building.{IsRoot}
use Rattle.ist_core.specs.Lawful.{state_of}
use Rattle.ist_core.specs.Writing.{place_of_slot}
use Rattle.ist_rule.specs.declared.view.View.{View}
use Rattle.ist_core.specs.declared.events.Who.TheVariants.{Caller}
use Rattle.ist_core.specs.Shown.{IsShown}
use Rattle.ist_rule.specs.Rule.{IsSound}
use Rattle.ist_rule.specs.Learning.{now, Looked}
use Rattle.ist_rule.specs.Conditions.{IsKnown, StoredAll, CanExchange, CanExchangeOrLose}
use Rattle.ist_rule.specs.Going.{WentOn}

-- ---- what a caller has built

-- the caller holds the rows of a root for the rebuild, over the leaves of its finished target; that
-- the rebuild has no root yet isn't part of this
pub record IsRootBuilt (t : Snapshot) (caller rebuild word : ℕ) (rows : List Row) : Type 0 where
  pub row : RebuildRow
  pub published : t.pieces rebuild ≡ Some (Rebuild row)
  pub started : IsStarted t rebuild
  pub k : ℕ
  pub finished : IsFinishedWith t row.target k
  pub leaves : List PlacedLeaf
  pub reached : HasLeaves t.pieces (Some (InnerAt row.target)) leaves
  pub root : IsRoot (with_inners t.pieces rows) word k leaves row.target (bases_of rows)
  pub once : Distinct (bases_of rows)
  pub held : HoldsRows t caller rows

-- the caller holds the rows of a part for a shared root; that the slot is Unset isn't part of this
pub record IsPartBuilt (t : Snapshot) (caller rebuild i word : ℕ) (rows : List Row) : Type 0 where
  pub row : RebuildRow
  pub published : t.pieces rebuild ≡ Some (Rebuild row)
  pub started : IsStarted t rebuild
  pub k : ℕ
  pub finished : IsFinishedWith t row.target k
  pub shared : share_from ≤ k
  pub root : ℕ
  pub root_is : ref_of row.root ≡ Some (InnerAt root)
  pub root_row : InnerRow
  pub root_published : t.pieces root ≡ Some (Inner root_row)
  pub within : i < root_row.degree
  pub leaves : List PlacedLeaf
  pub reached : HasLeaves t.pieces (Some (InnerAt row.target)) leaves
  pub part : List PlacedLeaf
  pub part_is : slice_get (parts leaves) i ≡ Some part
  pub ref : Ref
  pub ref_is : ref_of word ≡ Some ref
  pub ideal : IsIdeal (with_inners t.pieces rows) ref part root (bases_of rows)
  pub once : Distinct (bases_of rows)
  pub held : HoldsRows t caller rows

-- ---- since when its place was watched

-- the event is a Root, a Place or a Lose of the caller
abbrev pub EndsBuild : ℕ → Event → Type 0
EndsBuild caller (Root c rebuild word rows) = c ≡ caller
EndsBuild caller (Place c rebuild i word rows) = c ≡ caller
EndsBuild caller (Lose c bases) = c ≡ caller
EndsBuild caller _ = ⊥

-- the log goes on from an earlier one, without such an event of the caller
abbrev pub EndsNone : ℕ → Log → Log → Type 0
EndsNone caller = GoesOnBy (λ event. ¬ (EndsBuild caller event))

-- the place was Unset after a prefix of the caller's log, and since then the caller has made no
-- Root, Place or Lose
pub record WasUnset (v : View) (caller place : ℕ) : Type 0 where
  pub prefix : Log
  pub since : EndsNone caller prefix v.log
  pub shown : IsShown (state_of v.start v.words prefix) place unset_word

-- ---- the laws

-- a load that gives Unset at a place that all know has seen it
abbrev pub UnsetIsSeen : Type 0
UnsetIsSeen =
    (v w : View) (caller place : ℕ) → IsKnown v place → Looked v place unset_word w
    → WasUnset w caller place

-- this stays so while the caller makes loads, and events other than a Root, a Place and a Lose
abbrev pub UnsetStaysSeen : Type 0
UnsetStaysSeen =
    (v w : View) (caller place : ℕ) → v.who ≡ Caller caller
    → WentOn (λ event. ¬ (EndsBuild caller event)) v w → WasUnset v caller place
    → WasUnset w caller place

-- an exchange of the root word may be the Root of what was built
abbrev pub RootsCome : Type 0
RootsCome =
    (v : View) → IsSound v → (number rebuild word : ℕ) (rows : List Row) → v.who ≡ Caller number
    → StoredAll v rows → IsRootBuilt (now v) number rebuild word rows
    → CanExchange v (rebuild + rebuild_root_offset) unset_word word
    (Root number rebuild word rows)

-- if it fails, it may be the Lose of the rows, if there are any and the root was seen Unset:
-- another's Root of the same sizes came first
abbrev pub RootsComeOrLose : Type 0
RootsComeOrLose =
    (v : View) → IsSound v → (number rebuild word : ℕ) (rows : List Row) → v.who ≡ Caller number
    → StoredAll v rows → rows ≢ [] → IsRootBuilt (now v) number rebuild word rows
    → WasUnset v number (rebuild + rebuild_root_offset)
    → CanExchangeOrLose v (rebuild + rebuild_root_offset) unset_word word
    (Root number rebuild word rows) (Lose number (bases_of rows))

-- an exchange of a slot of the root may be the Place of what was built
abbrev pub PartsCome : Type 0
PartsCome =
    (v : View) → IsSound v → (number rebuild i word : ℕ) (rows : List Row) → v.who ≡ Caller number
    → StoredAll v rows → (b : IsPartBuilt (now v) number rebuild i word rows) → (place : ℕ)
    → place ≡ place_of_slot (now v) b.root i
    → CanExchange v place unset_word word (Place number rebuild i word rows)

-- if it fails, it may be the Lose of the rows, if the slot was seen Unset: another's Place of the
-- same sizes came first
abbrev pub PartsComeOrLose : Type 0
PartsComeOrLose =
    (v : View) → IsSound v → (number rebuild i word : ℕ) (rows : List Row) → v.who ≡ Caller number
    → StoredAll v rows → (b : IsPartBuilt (now v) number rebuild i word rows) → (place : ℕ)
    → place ≡ place_of_slot (now v) b.root i → WasUnset v number place
    → CanExchangeOrLose v place unset_word word (Place number rebuild i word rows)
    (Lose number (bases_of rows))
