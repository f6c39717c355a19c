-- Readings of the sizes so far: what each leaves, and whether it continues to the end of the sizes.
use Rattle.std.specs.Prelude.{◌≡◌, ◌↔◌, ◌⊎◌, ℕ, true, List, [], ◌∷◌, ◌++◌, drop, slice_index_or}
use Rattle.ist_core.specs.Elements.{Among}
use Rattle.check_fairness.specs.declared.readings.SizeReading.{SizeReading}
use Rattle.check_fairness.specs.declared.spares.Spare.{Spare}
use Rattle.check_fairness.specs.Searching.{Goes, is_full, all_spare}

-- what is left of a list from a place on, or nothing if there is no such list
abbrev pub rest_at : List (List ℕ) → ℕ → ℕ → List ℕ
rest_at lists list at = drop at (slice_index_or lists list [])

-- the sizes can be read from what the reading leaves
abbrev pub GoesFrom : List (List ℕ) → ℕ → SizeReading → List ℕ → Type 0
GoesFrom lists room r sizes =
    Goes (λ l. Among l lists) room r.may (rest_at lists r.list r.at) r.free sizes

-- the sizes can be read from what one of the readings leaves
abbrev pub SomeGoes : List (List ℕ) → ℕ → List SizeReading → List ℕ → Type 0
SomeGoes lists room [] sizes = ⊥
SomeGoes lists room (r ∷ rs) sizes = GoesFrom lists room r sizes ⊎ SomeGoes lists room rs sizes

-- the new readings go on with the sizes with which the old ones do, and with those that have P
abbrev pub AddsReadings : List (List ℕ) → ℕ → List SizeReading → List SizeReading → (List ℕ → Type 0) → Type 0
AddsReadings lists room old new P =
    (sizes : List ℕ) → SomeGoes lists room new sizes ↔ (SomeGoes lists room old sizes ⊎ P sizes)

-- two readings leave the same
pub record LeavesSame (lists : List (List ℕ)) (a b : SizeReading) : Type 0 where
  pub may : a.may ≡ b.may
  pub rest : rest_at lists a.list a.at ≡ rest_at lists b.list b.at
  pub free : a.free ≡ b.free

-- one of the readings leaves the same as this one
abbrev pub IsLeftBefore : List (List ℕ) → List SizeReading → SizeReading → Type 0
IsLeftBefore lists [] reading = ⊥
IsLeftBefore lists (r ∷ rs) reading = LeavesSame lists r reading ⊎ IsLeftBefore lists rs reading

-- one of some lists begins with the size, and the further sizes can be read after it
pub record BeginsAmong (lists some : List (List ℕ)) (room : ℕ) (may : Spare) (size : ℕ)
    (sizes : List ℕ) : Type 0 where
  pub rest : List ℕ
  pub listed : Among (size ∷ rest) some
  pub goes : Goes (λ l. Among l lists) room may rest (is_full room rest) sizes

-- the sizes that can be read from the readings are those that can be read after the first sizes
abbrev pub AreReadings : List (List ℕ) → ℕ → List ℕ → List SizeReading → Type 0
AreReadings lists room sizes readings =
    (more : List ℕ) → SomeGoes lists room readings more
    ↔ Goes (λ l. Among l lists) room all_spare [] true (sizes ++ more)
