-- A map as the list of its pairs, with strictly increasing keys.
use Rattle.std.specs.Prelude.{ℕ, List, map}
use Rattle.std.specs.List.Sorted.{IsStrictlyIncreasing}
use Rattle.ist_core.specs.declared.pairs.Pair.{Pair}
use Rattle.ist_core.specs.declared.commands.Command.{Command}
use Rattle.ist_core.specs.declared.commands.Command.TheVariants.{Put, Remove, Get}

-- the keys of some pairs, in their order
abbrev pub keys_of : List Pair → List ℕ
keys_of pairs = map (λ p. p.key) pairs

-- each key is below the next, so none occurs twice
abbrev pub IsRising : List Pair → Type 0
IsRising pairs = IsStrictlyIncreasing (keys_of pairs)

-- the command is a put, the only one that can run out of memory
abbrev pub IsPut : Command → Type 0
IsPut (Put key value) = Unit {0}
IsPut (Remove key) = ⊥
IsPut (Get key) = ⊥
