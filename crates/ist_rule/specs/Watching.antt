-- Loads that are events: of a status that shows a node open, of a slot of a marked node, and one
-- that gives up a pair row.
use Rattle.std.specs.Prelude.{◌≡◌, ℕ, ◌+◌, ◌<◌, ◌==◌, ◌&&◌, not, Bool, true, false, if◌then◌else◌, [], ◌∷◌, Option, Some, None}
use Rattle.ist_core.specs.declared.states.InnerRow.{InnerRow}
use Rattle.ist_core.specs.declared.states.ChangeRow.{ChangeRow}
use Rattle.ist_core.specs.declared.events.Event.TheVariants.{Okay, Pass, Lose}
use Rattle.ist_core.specs.RowLayout.{anchor, pair_words, inner_status_offset, slot_place}
use Rattle.ist_core.specs.References.{Ref, ChangeAt, ref_of, unset_word}
use Rattle.ist_core.specs.Statuses.{open_word, marked_word, undecided}
use Rattle.ist_core.specs.Pieces.{Inner, Change, as_inner, as_change}
use Rattle.ist_core.specs.Snapshots.{Snapshot, HoldsRow}
use Rattle.ist_core.specs.Lawful.{state_of}
use Rattle.ist_core.specs.Writing.{place_of_status}
pub use Rattle.ist_rule.specs.Speaking.{number_of}
use Rattle.ist_rule.specs.declared.view.View.{View}
use Rattle.ist_core.specs.declared.events.Who.TheVariants.{Caller}
use Rattle.ist_rule.specs.Learning.{now, Naming, LoadedAs}

-- ---- Okay

-- the node is the anchor, or a published inner row
pub data IsNode (t : Snapshot) (node : ℕ) : Type 0 where
  is_anchor : node ≡ anchor → IsNode t node
  is_inner : (r : InnerRow) → t.pieces node ≡ Some (Inner r) → IsNode t node

-- is this a change that no one has decided?
abbrev pub waits : Option ChangeRow → Bool
waits (Some change) = change.decision == undecided
waits None = false

-- the load of a status is an Okay of the change if it shows the node open and the change is
-- undecided
abbrev pub okay_of : View → ℕ → Naming
okay_of v change log word =
    if (word == open_word) && waits (as_change ((state_of v.start v.words log).pieces change))
    then Some (Okay (number_of v.who) change) else None

-- a load that may be the Okay of the change
abbrev pub LoadedOkay : View → ℕ → ℕ → ℕ → View → Type 0
LoadedOkay v change = LoadedAs v (okay_of v change)

-- a caller may check, at the place of the node's status, whether the node of an installed change is
-- open
-- Who meets it: a helper of a change, by its Install in the log
pub record CanLoadOkay (v : View) (change place : ℕ) : Type 0 where
  pub number : ℕ
  pub mine : v.who ≡ Caller number
  pub row : ChangeRow
  pub installed : (now v).pieces change ≡ Some (Change row)
  pub at : place ≡ place_of_status row.node

-- ---- Pass

-- is the row marked, and not finished?
abbrev pub is_marked : Option InnerRow → Bool
is_marked (Some row) = row.status == marked_word
is_marked None = false

-- is this a change?
abbrev pub is_change_ref : Option Ref → Bool
is_change_ref (Some (ChangeAt base)) = true
is_change_ref _ = false

-- the load of a slot is a Pass if the node is marked and the word is neither a change nor Unset
abbrev pub pass_of : View → ℕ → ℕ → Naming
pass_of v node i log word =
    if is_marked (as_inner ((state_of v.start v.words log).pieces node))
    && (not (is_change_ref (ref_of word)) && not (word == unset_word))
    then Some (Pass (number_of v.who) node i word) else None

-- a load that may be the Pass of the slot
abbrev pub LoadedPass : View → ℕ → ℕ → ℕ → ℕ → View → Type 0
LoadedPass v node i = LoadedAs v (pass_of v node i)

-- a caller may try to pass a slot of a published node, at the place of the slot
-- Who meets it: a caller that marks a subtree, at each slot of a node after its mark
pub record CanLoadPass (v : View) (node i place : ℕ) : Type 0 where
  pub number : ℕ
  pub mine : v.who ≡ Caller number
  pub row : InnerRow
  pub published : (now v).pieces node ≡ Some (Inner row)
  pub within : i < row.degree
  pub at : place ≡ slot_place node row.degree i

-- ---- Lose

-- the load of the status of a node above a held pair row is the loss of that row
abbrev pub past_of : View → ℕ → Naming
past_of v pair log word = Some (Lose (number_of v.who) (pair ∷ []))

-- a load of the status of the node that is the Lose of the pair row
abbrev pub LoadedPast : View → ℕ → ℕ → ℕ → View → Type 0
LoadedPast v pair node = LoadedAs v (past_of v pair) (node + inner_status_offset)

-- a caller may give up a pair row below a published inner row
-- Who meets it: a caller that gives up a pair row before it may be too late
pub record CanLoadPast (v : View) (pair node : ℕ) : Type 0 where
  pub number : ℕ
  pub mine : v.who ≡ Caller number
  pub held : HoldsRow (now v) number pair pair_words
  pub row : InnerRow
  pub published : (now v).pieces node ≡ Some (Inner row)
  pub above : pair < node
