-- Callers are only added, and only by Enters. Serves each law about known callers.
use Rattle.std.proofs.Common.{List, None, Option, Some, [], arith, inl, inr, refl, ℕ, ◌+◌, ◌<◌, ◌∷◌, ◌≡◌, ◌⊎◌}
use Rattle.ist_core.specs.Types.{Enter, Install, Resolve, Event, Maker, Row, ChangeRow}
use Rattle.ist_core.specs.LogTerms.{installed, resolved, with_change, whose, Log, state, Snapshot}
use Rattle.ist_core.specs.WordTerms.{change_of}

-- a change that is published adds no caller
callers-with_change : (t : Snapshot) (base : ℕ) (fresh : List Row) (change : Option ChangeRow)
    → (with_change t base fresh change).callers ≡ t.callers
callers-with_change t base fresh None = refl
callers-with_change t base fresh (Some change) = refl

-- the rows that an Install publishes add no caller
pub callers-installed : (t : Snapshot) (base : ℕ) (rows : List Row)
    → (installed t base rows).callers ≡ t.callers
callers-installed t base [] = refl
callers-installed t base (row ∷ fresh) = callers-with_change t base fresh (change_of row.words)

-- a change that leaves its slot adds no caller
pub callers-resolved : (t : Snapshot) (change : Option ChangeRow)
    → (resolved t change).callers ≡ t.callers
callers-resolved t None = refl
callers-resolved t (Some change) = refl

-- an event either is the maker's and enters one caller, or leaves the number of callers
pub callers_step : (first : Snapshot) (log : Log) (event : Event)
    → ((whose event ≡ Maker)
    × ((state first (event ∷ log)).callers ≡ (state first log).callers + 1))
    ⊎ ((state first (event ∷ log)).callers ≡ (state first log).callers)
callers_step first log (Enter caller) = inl (refl, refl)
callers_step first log (Install caller base rows) = grind (arith, callers-installed)
callers_step first log (Resolve caller base) = grind (arith, callers-resolved)
callers_step first log _ = inr refl

-- a known caller stays known over an event
pub known_step : (first : Snapshot) (log : Log) (event : Event) (caller : ℕ)
    → caller < (state first log).callers → caller < (state first (event ∷ log)).callers
known_step first log event caller low = grind (arith, callers_step)
