-- What equations of results and truth values say. Serves `change_slot`, `descend` and `apply`.
use Rattle.std.proofs.Common.{◌≡◌, ◌≢◌, true, false}
use Rattle.std.specs.Prelude.{Bool, IsTrue, Ok, Err, None, Option, Result, Some}
use Rattle.ist_core.specs.declared.ports.Full.{Full}
use Rattle.ist_updates.specs.declared.updates.Applied.{Applied}
use Rattle.ist_updates.specs.declared.updates.Outcome.{Outcome}
use Rattle.ist_updates.specs.declared.updates.Outcome.TheVariants.{Took}

-- what is false isn't true
pub not_true : (b : Bool) → b ≡ false → IsTrue b → ⊥
not_true true e t = cc
not_true false e t = cc

-- an error is no walk
pub err_walked : (full : Full) (x : Option Outcome)
    → ◌≡◌ {A = Result (Option Outcome) Full} (Err full) (Ok x) → ⊥
err_walked full x e = cc

-- an outcome that took no effect is no walk that did
pub not_took : (o : Outcome) → ((done : Applied) → o ≢ Took done) → (done : Applied)
    → Some o ≢ Some (Took done)
not_took o none done e = none done (cc)

-- a walk that must begin again took no effect
pub none_took : (done : Applied) → ◌≡◌ {A = Option Outcome} None (Some (Took done)) → ⊥
none_took done e = cc
