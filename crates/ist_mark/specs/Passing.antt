-- What the parts of marking know of a node that isn't open, and of its slots.
use Rattle.std.specs.Prelude.{◌≡◌, ◌≢◌, ℕ, ◌+◌, ◌<◌, Some}
use Rattle.ist_core.specs.declared.states.InnerRow.{InnerRow}
use Rattle.ist_core.specs.References.{ref_of}
use Rattle.ist_core.specs.Statuses.{open_word}
use Rattle.ist_core.specs.Pieces.{Inner}
use Rattle.ist_core.specs.Snapshots.{Snapshot}
use Rattle.ist_core.specs.Logs.{Happened, Log, Resolves}
use Rattle.ist_core.specs.Marking.{IsCalled, IsFrozen, CountsFor}
use Rattle.ist_rule.specs.declared.view.View.{View}
use Rattle.ist_core.specs.declared.events.Who.TheVariants.{Caller}
use Rattle.ist_rule.specs.Faces.{TokenFace}
use Rattle.ist_rule.specs.Going.{WentOn, KeepsSearch}
use Rattle.ist_rule.specs.Learning.{now}
use Rattle.ist_dcss.specs.Helping.{MayHelp}
use Rattle.ist_mark.specs.declared.below.PassedChild.{PassedChild}
use Rattle.ist_mark.specs.declared.below.PassedChild.TheVariants.{Keys, Node}
use Rattle.ist_mark.specs.Marking.{MayMark, LeadsTo, LiesUnder, Marks}

-- the node is an inner row that isn't open
pub record IsClosed (t : Snapshot) (node : ℕ) : Type 0 where
  pub row : InnerRow
  pub published : t.pieces node ≡ Some (Inner row)
  pub closed : row.status ≢ open_word

-- a caller may pass the slots of a node that isn't open and has `degree` slots
pub record MayPass (v : View) (node degree : ℕ) : Type 0 where
  pub number : ℕ
  pub mine : v.who ≡ Caller number
  pub row : InnerRow
  pub published : (now v).pieces node ≡ Some (Inner row)
  pub closed : row.status ≢ open_word
  pub degree_is : row.degree ≡ degree

-- a caller may help a change, which is on a slot of the node and isn't resolved
pub record IsMetAt (v : View) (node change : ℕ) : Type 0 where
  pub may_help : MayHelp v change
  pub node_is : may_help.row.node ≡ node
  pub unresolved : ¬ (Happened (Resolves change) v.log)

-- the caller only marked: it has made steps of marking the subtree of the node, and kept its search
pub record HasMarked (node : ℕ) (old new : TokenFace) : Type 0 where
  pub went : WentOn (Marks new.view node) old.view new.view
  pub search : KeepsSearch old.view new.view

-- ---- what hangs below a slot

-- an inner row hangs below the node: it lies above it, has a cause to be marked, and the word leads
-- to it
pub record HangsBelow (v : View) (node word child : ℕ) : Type 0 where
  pub above : node < child
  pub called : IsCalled (now v) v.log child
  pub leads : LeadsTo (now v) word child

-- what hangs below the node by the word: a number of keys without an inner row, or an inner row
abbrev pub IsBelow : View → ℕ → ℕ → PassedChild → Type 0
IsBelow v node word (Keys keys) = CountsFor (now v) (ref_of word) keys
IsBelow v node word (Node child) = HangsBelow v node word child

-- an inner row below the node may be marked, as a row of the node's subtree
pub record MayGoOn (v : View) (node child : ℕ) : Type 0 where
  pub above : node < child
  pub may_mark : MayMark v child
  pub under : LiesUnder (now v) v.log node child

-- slot i of the node was passed, and what hangs below it is this
pub record PassedWith (v : View) (node i : ℕ) (below : PassedChild) : Type 0 where
  pub word : ℕ
  pub frozen : IsFrozen v.log node i word
  pub is : IsBelow v node word below

-- slot i of the node was passed, with a word that counts for `keys` keys
pub record IsSlotCounted (v : View) (node i keys : ℕ) : Type 0 where
  pub word : ℕ
  pub frozen : IsFrozen v.log node i word
  pub counts : CountsFor (now v) (ref_of word) keys

-- the first i slots of the node were passed, with words that count for k keys in all
pub data AreCounted (t : Snapshot) (log : Log) (node : ℕ) : ℕ → ℕ → Type 0 where
  no_slot_yet : AreCounted t log node 0 0
  one_slot_more : {i k here : ℕ} (word : ℕ) → AreCounted t log node i k → IsFrozen log node i word
      → CountsFor t (ref_of word) here → AreCounted t log node (i + 1) (k + here)

-- a caller may finish a node that isn't open with `keys` keys: all its slots were passed, with
-- words that count for that many in all
pub record MayFinish (v : View) (node keys : ℕ) : Type 0 where
  pub number : ℕ
  pub mine : v.who ≡ Caller number
  pub row : InnerRow
  pub published : (now v).pieces node ≡ Some (Inner row)
  pub closed : row.status ≢ open_word
  pub counted : AreCounted (now v) v.log node row.degree keys
