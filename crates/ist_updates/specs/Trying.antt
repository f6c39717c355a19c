-- What the functions inside this crate promise each other: where a walk is, and what a try did.
use Rattle.std.specs.Prelude.{◌≡◌, ◌≢◌, ◌≤◌, ℕ, length, Option, Some, None}
use Rattle.ist_core.specs.declared.commands.Command.{Command}
use Rattle.ist_core.specs.declared.events.Event.{Event}
use Rattle.ist_core.specs.declared.events.Event.TheVariants.{Count}
use Rattle.ist_core.specs.Changes.{command_of, reply_of}
use Rattle.ist_core.specs.References.{Unset, InnerAt, ref_of}
use Rattle.ist_core.specs.Slots.{SlotHolds, IsChildFor}
use Rattle.ist_rule.specs.declared.view.View.{View}
use Rattle.ist_rule.specs.Going.{WentOn}
use Rattle.ist_rule.specs.Learning.{now}
use Rattle.laws_histories.specs.Searching.{Searched}
use Rattle.ist_find.specs.Searches.{Came, Names}
use Rattle.laws_calls.specs.Counting.{IsOneUpdate}
use Rattle.ist_updates.specs.Asking.{Updates}

-- the event is a step of an update other than a Count
abbrev pub Tries : Event → Type 0
Tries (Count caller node) = ⊥
Tries event = Updates event

-- the caller came here from the first view by steps of an update, and began its search since
pub record BeganSince (first v : View) : Type 0 where
  pub went : WentOn Updates first v
  pub since : length first.log ≤ v.loads.since

-- the caller's search came to the node, whose child for the key is in this slot, and the slot holds
-- the word, which names no inner row
pub record IsAtSlot (v : View) (key node index word : ℕ) : Type 0 where
  pub came : Came v key node
  pub child : IsChildFor (now v) node key index
  pub holds : SlotHolds (now v) node index word
  pub names : Names v (ref_of word)
  pub set : ref_of word ≢ Some Unset
  pub low : (child : ℕ) → ref_of word ≢ Some (InnerAt child)

-- since the first view the caller's command took effect once, by a change on the node, with this
-- reply
pub record HasTakenEffect (v w : View) (caller : ℕ) (command : Command) (node : ℕ)
    (reply : Option ℕ) : Type 0 where
  pub base : ℕ
  pub fresh : (now v).pieces base ≡ None
  pub update : IsOneUpdate v.start v.words v.log w.log caller base
  pub command_is : command_of update.change ≡ Some command
  pub node_is : update.change.node ≡ node
  pub reply_is : reply ≡ reply_of (now w).pieces update.change

-- the caller's search ended and found no value for the key
pub record HasFoundNone (v : View) (key : ℕ) : Type 0 where
  pub node : ℕ
  pub searched : Searched v.start v.words v.log key v.loads.since node None
