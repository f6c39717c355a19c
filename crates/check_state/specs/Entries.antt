-- How the entries of the table of updates change.
use Rattle.std.specs.Prelude.{◌≡◌, ◌↔◌, ◌⊎◌, ℕ, Option}
use Rattle.ist_core.specs.Snapshots.{Snapshot}
use Rattle.ist_core.specs.Deciding.{IsUpdateOf}
use Rattle.check_events.specs.declared.pasts.LastUpdate.{LastUpdate}
use Rattle.check_events.specs.Remembering.{LacksCount}

-- the entry is for the change, and has no node
abbrev pub BeginsAt : Option LastUpdate → ℕ → Type 0
BeginsAt entry change = (node base : ℕ) → LacksCount entry node base ↔ (change ≡ base)

-- what a yes of the change makes of a caller's entry: a new one for the change, if it is the
-- caller's put or remove; otherwise the entry stays
abbrev pub Renews : Snapshot → ℕ → ℕ → Option LastUpdate → Option LastUpdate → Type 0
Renews t change caller old new =
    (IsUpdateOf t caller change × BeginsAt new change)
    ⊎ (¬ (IsUpdateOf t caller change) × (new ≡ old))

-- what a Count of a caller at a node makes of an entry: it gets the node if it is that caller's,
-- and otherwise stays
abbrev pub CountsIn : ℕ → ℕ → ℕ → Option LastUpdate → Option LastUpdate → Type 0
CountsIn caller node other old new =
    (at base : ℕ)
    → LacksCount new at base ↔ (LacksCount old at base × ¬ ((caller ≡ other) × (node ≡ at)))
