-- What a thread of the example did: it put its pair, and after a note it found a key.
use Rattle.std.specs.Prelude.{◌≡◌, ℕ, [], ◌∷◌, ◌++◌, Option}
use Rattle.ist_core.specs.declared.calls.Call.{Call}
use Rattle.ist_core.specs.declared.commands.Command.TheVariants.{Get, Put}
use Rattle.ist_core.specs.declared.pairs.Pair.{Pair}
use Rattle.ist_core.specs.Elements.{Each}
use Rattle.ist_core.specs.Standing.{Follows}
use Rattle.ist_tree.specs.Faces.{PassFace}

-- the second is the first after one more call, a put of the pair
pub record HasPut (p : PassFace) (pair : Pair) (q : PassFace) : Type 0 where
  pub tree : q.tree ≡ p.tree
  pub number : q.number ≡ p.number
  pub call : Call
  pub call_is : q.calls ≡ call ∷ []
  pub command_is : call.command ≡ Put pair.key pair.value

-- the last is the first after one more call, a find of the key with this reply, which comes after each
-- call that the note tells of
pub record HasFoundNext (p note : PassFace) (key : ℕ) (reply : Option ℕ) (q : PassFace) : Type 0 where
  pub tree : q.tree ≡ p.tree
  pub number : q.number ≡ p.number
  pub call : Call
  pub calls_are : q.calls ≡ p.calls ++ call ∷ []
  pub command_is : call.command ≡ Get key
  pub reply_is : call.reply ≡ reply
  pub follows : Each (λ known. Follows known call) note.calls
