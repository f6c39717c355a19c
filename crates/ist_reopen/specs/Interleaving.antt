-- A history that is made of several lists of calls, each in its own order.
use Rattle.std.specs.Prelude.{◌≡◌, ℕ, ◌==◌, List, [], ◌∷◌, ◌++◌, map, filter}
use Rattle.ist_core.specs.Replies.{Answered}
use Rattle.ist_core.specs.Resting.{told_by_call}
use Rattle.ist_reopen.specs.Generations.{Generation, calls_of}

-- an answered call, with the number of the pass that made it
pub record Owned : Type 0 where
  pub owner : ℕ
  pub told : Answered

-- what the pass with this number was told, in this order
abbrev pub told_to_pass : ℕ → List Owned → List Answered
told_to_pass number xs = map (λ x. x.told) (filter (λ x. x.owner == number) xs)

-- the history is made of the lists with these numbers: each call of each list once, the calls of one
-- list in its order, and no others
pub record IsMadeOf (lists : ℕ → List Answered) (history : List Answered) : Type 0 where
  pub owned : List Owned
  pub told_are : map (λ x. x.told) owned ≡ history
  pub each : (number : ℕ) → told_to_pass number owned ≡ lists number

-- what the passes with this number were told on all trees, one tree after another
abbrev pub told_over : List Generation → ℕ → List Answered
told_over [] number = []
told_over (g ∷ more) number = map told_by_call (calls_of g number) ++ told_over more number
