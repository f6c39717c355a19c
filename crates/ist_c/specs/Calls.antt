-- What a call by a handle does to the pass that the handle holds.
use Rattle.std.specs.Prelude.{◌≡◌, ℕ, Option}
use Rattle.std.specs.Arc.{arc_value}
use Rattle.ist_core.specs.declared.commands.Command.{Command}
use Rattle.ist_core.specs.declared.commands.Command.TheVariants.{Get}
use Rattle.ist_core.specs.declared.ports.Full.{Full}
use Rattle.ist_updates.specs.Asking.{command_for}
use Rattle.ist_tree.specs.Calls.{HasSeenMore, AddsCall}
use Rattle.ist_tree.specs.Refusals.{IsRefused}
use Rattle.ist_handles.specs.declared.results.CallResult.{CallResult}
use Rattle.ist_handles.specs.declared.results.Shortage.{Shortage}
use Rattle.ist_handles.specs.declared.held.Held.{Held}
use Rattle.ist_handles.specs.declared.held.Held.TheVariants as of
use Rattle.ist_handles.specs.declared.owners.TreeOwner.{TreeOwner}
use Rattle.ist_handles.specs.declared.passes.TreePass.{TreePass}
use Rattle.ist_handles.specs.declared.passes.TreeNote.{TreeNote}
use Rattle.ist_handles.specs.declared.trees.NumberedTree.{NumberedTree}
use Rattle.ist_handles.specs.Results.{done, full, misuse, value_if, full_of}
use Rattle.ist_c.specs.Kinds.{IsNoPass}

-- ---- one call of a pass

-- the pass is of the same tree, and made one call more, with this command and this reply
pub record HasCalled (p q : TreePass) (command : Command) (reply : Option ℕ) : Type 0 where
  pub same_tree : arc_value q.tree ≡ arc_value p.tree
  pub seen : HasSeenMore p.pass q.pass
  pub added : AddsCall p.pass q.pass command reply

-- the pass is of the same tree, and made no call: an update of the key was refused with these numbers
pub record HasNotCalled (p q : TreePass) (key : ℕ) (value : Option ℕ) (numbers : Full) : Type 0 where
  pub same_tree : arc_value q.tree ≡ arc_value p.tree
  pub seen : HasSeenMore p.pass q.pass
  pub calls : q.pass.calls ≡ p.pass.calls
  pub cause : IsRefused p.pass q.pass key value numbers

-- ---- by a handle

-- a handle of a pass holds this pass still, which made a get with the reply in the result; only a handle
-- of something else is misused, and is as before
pub data FindsBy : Held → Held → ℕ → CallResult → Type 0 where
  pass_finds : (p q : TreePass) (key : ℕ) (said : CallResult) → said.status ≡ done
      → HasCalled p q (Get key) (value_if said.some said.value)
      → FindsBy (of.Pass p) (of.Pass q) key said
  none_finds : (held : Held) (key : ℕ) (said : CallResult) → IsNoPass held → said.status ≡ misuse
      → FindsBy held held key said

-- a handle of a pass holds this pass still, which made a put of the value, or a remove if there is none,
-- with the reply in the result, or was refused, and then the numbers are there; only a handle of
-- something else is misused, and is as before
pub data UpdatesBy : Held → Held → ℕ → Option ℕ → CallResult → Shortage → Shortage → Type 0 where
  pass_updates : (p q : TreePass) (key : ℕ) (value : Option ℕ) (said : CallResult) (short : Shortage)
      → said.status ≡ done
      → HasCalled p q (command_for key value) (value_if said.some said.value)
      → UpdatesBy (of.Pass p) (of.Pass q) key value said short short
  pass_refused : (p q : TreePass) (key : ℕ) (value : Option ℕ) (said : CallResult) (before short : Shortage)
      → said.status ≡ full → HasNotCalled p q key value (full_of short)
      → UpdatesBy (of.Pass p) (of.Pass q) key value said before short
  none_updates : (held : Held) (key : ℕ) (value : Option ℕ) (said : CallResult) (short : Shortage)
      → IsNoPass held → said.status ≡ misuse → UpdatesBy held held key value said short short

-- ---- two handles of one tree

-- if these two trees have one number, they are one tree
abbrev pub AreNumbered : NumberedTree → NumberedTree → Type 0
AreNumbered s t = s.number ≡ t.number → s ≡ t

-- so it is of an owner's tree and a pass's
abbrev pub NumbersOwner : Held → Held → Type 0
NumbersOwner owner pass =
    (o : TreeOwner) (p : TreePass) → owner ≡ of.Owner o → pass ≡ of.Pass p
    → AreNumbered (arc_value p.tree) (arc_value o.tree)

-- so it is of a pass's tree and a note's
abbrev pub NumbersPass : Held → Held → Type 0
NumbersPass pass note =
    (p : TreePass) (n : TreeNote) → pass ≡ of.Pass p → note ≡ of.Note n
    → AreNumbered (arc_value n.tree) (arc_value p.tree)
