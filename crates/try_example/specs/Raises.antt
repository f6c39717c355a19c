-- What a counter is after it was raised by conditional puts.
use Rattle.std.specs.Prelude.{◌≡◌, ℕ, ◌+◌, List, ◌++◌, Option, Some, None}
use Rattle.ist_core.specs.declared.calls.Call.{Call}
use Rattle.ist_core.specs.declared.commands.Command.TheVariants.{Get, Put}
use Rattle.ist_core.specs.Elements.{Each}
use Rattle.ist_tree.specs.Calls.{AddsCall, HasSeenMore}
use Rattle.ist_tree.specs.Faces.{PassFace}

-- the number of a counter: none is 0
abbrev pub counter_number : Option ℕ → ℕ
counter_number (Some number) = number
counter_number None = 0

-- the pass has seen more, and all calls that it made since are gets of this key
pub record HasOnlyGot (p q : PassFace) (key : ℕ) : Type 0 where
  pub since : HasSeenMore p q
  pub gets : List Call
  pub calls_are : q.calls ≡ p.calls ++ gets
  pub only : Each (λ call. call.command ≡ Get key) gets

-- the last call of the pass is a put of one more than the number that the counter had, and its reply is just
-- that number. So in the one history the counter goes from `before` to `before + 1` at that call. The calls
-- before it only got the counter
pub record HasRaised (p q : PassFace) (key before : ℕ) : Type 0 where
  pub tried : PassFace
  pub got : HasOnlyGot p tried key
  pub had : Option ℕ
  pub before_is : before ≡ counter_number had
  pub put : AddsCall tried q (Put key (before + 1)) had
