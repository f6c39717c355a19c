-- What tests say of their conditions. Serves each file that goes through conditions.
use Rattle.std.proofs.Common.{◌≡◌, ◌∙◌, ◌↔◌, IsTrue, Bool, List, [], ◌∷◌, Option, Some, None, inl, inr, ⊎_elim, arith}
use Rattle.ist_check.specs.declared.conditions.Condition.{Condition}
use Rattle.ist_check.specs.declared.tested.Tested.{Tested}
use Rattle.ist_check.specs.Failing.{Stated, TellsCondition, TellsFirst, Tests}

-- one more test in front: it is of the condition that it was made with, and returns what that says
pub next : (x : Tested) {holds : Bool} {name : Condition} {says others : Type 0}
    → x ≡ record { holds = holds; name = name } → (IsTrue holds ↔ says) → others
    → (x.name ≡ name) × (IsTrue x.holds ↔ says) × others
next x {says = says} is tests rest = grind arith

-- the first test that fails names the first condition that is false
pub tells : (xs : List Tested) (ss : List Stated) (o : Option Condition) → Tests xs ss
    → TellsFirst xs o → TellsCondition ss o
tells [] [] None t f = tt
tells [] [] (Some c) t f = f
tells (x ∷ xs) (s ∷ ss) None t f = (t.1.0 f.0, tells xs ss None t.2 f.1)
tells (x ∷ xs) (s ∷ ss) (Some c) t f = ⊎_elim
    (λ here. inl (here.0 ∙ t.0, λ holds. here.1 (t.1.1 holds)))
    (λ rest. inr (t.1.0 rest.0, tells xs ss (Some c) t.2 rest.1)) f
tells [] (s ∷ ss) o t f = absurd t
tells (x ∷ xs) [] o t f = absurd t
