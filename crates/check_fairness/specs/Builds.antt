-- The building lists of a state, as lists, and what is added to them.
use Rattle.std.specs.Prelude.{◌≡◌, ◌↔◌, ◌⊎◌, ◌≤◌, ℕ, ◌-◌, nat_lt, if◌then◌else◌, List, [], ◌∷◌, length, take}
use Rattle.std.specs.BTreeSet.{BTreeSet}
use Rattle.ist_core.specs.Arithmetic.{degree, part_len}
use Rattle.ist_core.specs.RowLayout.{inner_words}
use Rattle.ist_core.specs.Shapes.{shape, share_from}
use Rattle.ist_core.specs.Elements.{Among}
use Rattle.check_fairness.specs.Answers.{Holds}

-- the building lists of a rebuild whose target is finished with k keys. Each part has the length of
-- the first or of the last one
abbrev pub lists_of : ℕ → List (List ℕ)
lists_of k =
    if nat_lt k 2 then []
    else (if nat_lt k share_from then shape k ∷ []
    else (inner_words (degree k) ∷ []) ∷ shape (part_len k 0) ∷ shape (part_len k (degree k - 1)) ∷ [])

-- the new lists begin with the old ones
abbrev pub BeginsWith : List (List ℕ) → List (List ℕ) → Type 0
BeginsWith old new = (m : ℕ) → m ≤ length old → (m ≤ length new) × (take m new ≡ take m old)

-- one list was added after the others, unless it was one of them
pub record AddsList (old new : List (List ℕ)) (n : List ℕ) : Type 0 where
  pub among : (l : List ℕ) → Among l new ↔ (Among l old ⊎ (l ≡ n))
  pub following : BeginsWith old new

-- the building lists for k keys were added after the others, as far as they weren't among them
pub record AddsLists (old new : List (List ℕ)) (k : ℕ) : Type 0 where
  pub among : (l : List ℕ) → Among l new ↔ (Among l old ⊎ Among l (lists_of k))
  pub following : BeginsWith old new

-- the shapes of ideal trees of these numbers of keys are among the lists
abbrev pub HasShapes : BTreeSet ℕ → List (List ℕ) → Type 0
HasShapes shapes lists = (n : ℕ) → Holds shapes n → Among (shape n) lists
