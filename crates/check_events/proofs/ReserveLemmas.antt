-- A row may be reserved if it is fair to hold it too. Serves `entering.rt`.
use Rattle.std.proofs.Common.{◌≡◌, ◌↔◌, ◌+◌, ◌<◌, ◌≤◌, Bool, ℕ, IsTrue, List, [], ◌∷◌, ◌++◌, arith}
use Rattle.ist_core.specs.LogTerms.{Snapshot, sizes_held, IsFair, CanReserve}

-- a row may be reserved exactly if the sizes with it are fair
pub reserves : (t : Snapshot) (caller base size : ℕ) (xs : List ℕ) (fair : Bool)
    → caller < t.callers → base ≡ t.next
    → t.next + size ≤ t.words → xs ≡ sizes_held t caller ++ size ∷ []
    → (IsTrue fair ↔ IsFair t xs) → IsTrue fair ↔ CanReserve t caller base size
reserves t caller base size xs fair known at fits e i = grind arith
