-- How far a caller has come in a build: which rows it has, and which come next.
use Rattle.std.specs.Prelude.{◌≡◌, ℕ, List, [], ◌∷◌, ◌++◌}
use Rattle.ist_core.specs.Snapshots.{Snapshot}
use Rattle.ist_core.specs.Fairness.{IsBuilding, IsStuck}
use Rattle.ist_rule.specs.Learning.{now}
use Rattle.ist_rows.specs.declared.callers.Caller.{Caller}
use Rattle.ist_rows.specs.Rows.{spares_of, build_sizes}

-- the sizes are prefixes of building lists, one after another, and each prefix is stuck
pub data AreStuck (t : Snapshot) : List ℕ → Type 0 where
  none_stuck : AreStuck t []
  stuck_more : {sizes more : List ℕ} → IsStuck t sizes → AreStuck t more
      → AreStuck t (sizes ++ more)

-- the sizes of the rows that a caller holds for its builds
abbrev pub sizes_built : Caller → List ℕ
sizes_built who = build_sizes (now who.token.view) who.number (spares_of who)

-- the caller is in a build: it holds the rows of stuck builds, and then rows of a building list
-- that goes on with the rest
pub record IsInBuild (who : Caller) (stuck done rest : List ℕ) : Type 0 where
  pub sizes : sizes_built who ≡ stuck ++ done
  pub all_stuck : AreStuck (now who.token.view) stuck
  pub building : IsBuilding (now who.token.view) (done ++ rest)

-- the next row of the build that the caller is in has this size
pub record IsNext (who : Caller) (size : ℕ) : Type 0 where
  pub stuck : List ℕ
  pub done : List ℕ
  pub rest : List ℕ
  pub at : IsInBuild who stuck done (size ∷ rest)

-- each build of which the caller holds rows was refused
abbrev pub HasRefused : Caller → Type 0
HasRefused who = AreStuck (now who.token.view) (sizes_built who)

-- the caller has taken rows of these sizes in the build that it was in
abbrev pub HasTaken : Caller → List ℕ → Caller → Type 0
HasTaken old sizes new =
    (stuck done rest : List ℕ) → IsInBuild old stuck done (sizes ++ rest)
    → IsInBuild new stuck (done ++ sizes) rest
