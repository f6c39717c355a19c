-- The first of some conditions that fails.
use Rattle.std.specs.Prelude.{◌≡◌, ◌⊎◌, ◌↔◌, IsTrue, List, [], ◌∷◌, Option, Some, None}
use Rattle.ist_check.specs.declared.conditions.Condition.{Condition}
use Rattle.ist_check.specs.declared.tested.Tested.{Tested}

-- a condition: its name and its statement
pub record Stated : Type 1 where
  pub name : Condition
  pub says : Type 0

-- the condition of this name has this statement
abbrev pub states : Condition → Type 0 → Stated
states name says = record { name = name; says = says }

-- the condition returned is false, and all before it hold; if none is returned, all hold
abbrev pub TellsCondition : List Stated → Option Condition → Type 0
TellsCondition [] None = Unit {0}
TellsCondition [] (Some named) = ⊥
TellsCondition (s ∷ ss) None = s.says × TellsCondition ss None
TellsCondition (s ∷ ss) (Some named) = ((named ≡ s.name) × ¬ s.says) ⊎ (s.says × TellsCondition ss (Some named))

-- the same for the results of tests
abbrev pub TellsFirst : List Tested → Option Condition → Type 0
TellsFirst [] None = Unit {0}
TellsFirst [] (Some named) = ⊥
TellsFirst (x ∷ xs) None = IsTrue x.holds × TellsFirst xs None
TellsFirst (x ∷ xs) (Some named) = ((named ≡ x.name) × ¬ (IsTrue x.holds)) ⊎ (IsTrue x.holds × TellsFirst xs (Some named))

-- each test is a test of the condition at its place
abbrev pub Tests : List Tested → List Stated → Type 0
Tests [] [] = Unit {0}
Tests (x ∷ xs) (s ∷ ss) = (x.name ≡ s.name) × (IsTrue x.holds ↔ s.says) × Tests xs ss
Tests _ _ = ⊥
