-- What an update by a handle does that is made only if the key has an expected value.
use Rattle.std.specs.Prelude.{◌≡◌, ◌≢◌, ℕ, Option}
use Rattle.std.specs.Arc.{arc_value}
use Rattle.ist_core.specs.declared.commands.Command.TheVariants.{Get}
use Rattle.ist_updates.specs.Asking.{command_for}
use Rattle.ist_tree.specs.Calls.{HasSeenMore, AddsCall}
use Rattle.ist_handles.specs.declared.results.CallResult.{CallResult}
use Rattle.ist_handles.specs.declared.results.Shortage.{Shortage}
use Rattle.ist_handles.specs.declared.held.Held.{Held}
use Rattle.ist_handles.specs.declared.held.Held.TheVariants as of
use Rattle.ist_handles.specs.declared.passes.TreePass.{TreePass}
use Rattle.ist_c.specs.Calls.{HasNotCalled}
use Rattle.ist_c.specs.Kinds.{IsNoPass}
use Rattle.ist_handles.specs.Results.{done, full, misuse, value_if, full_of}

-- the pass is of the same tree, and made one call more, with this reply: if it is what was expected, an
-- update of the key (a put of the value, or a remove if there is none), and else a get
pub record HasCalledIf (p q : TreePass) (key : ℕ) (expected value reply : Option ℕ) : Type 0 where
  pub same_tree : arc_value q.tree ≡ arc_value p.tree
  pub seen : HasSeenMore p.pass q.pass
  pub updated : reply ≡ expected → AddsCall p.pass q.pass (command_for key value) reply
  pub got : reply ≢ expected → AddsCall p.pass q.pass (Get key) reply

-- a handle of a pass holds this pass still, which updated the key if its value was the expected one, with
-- the reply in the result, or was refused, and then the numbers are there; only a handle of something else
-- is misused, and is as before
pub data UpdatesIf : Held → Held → ℕ → Option ℕ → Option ℕ → CallResult → Shortage → Shortage
    → Type 0 where
  pass_updates_if : (p q : TreePass) (key : ℕ) (expected value : Option ℕ) (said : CallResult)
      (short : Shortage) → said.status ≡ done
      → HasCalledIf p q key expected value (value_if said.some said.value)
      → UpdatesIf (of.Pass p) (of.Pass q) key expected value said short short
  pass_refused_if : (p q : TreePass) (key : ℕ) (expected value : Option ℕ) (said : CallResult)
      (before short : Shortage) → said.status ≡ full
      → HasNotCalled p q key value (full_of short)
      → UpdatesIf (of.Pass p) (of.Pass q) key expected value said before short
  none_updates_if : (held : Held) (key : ℕ) (expected value : Option ℕ) (said : CallResult)
      (short : Shortage) → IsNoPass held → said.status ≡ misuse
      → UpdatesIf held held key expected value said short short
