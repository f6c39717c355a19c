-- Which events move rows between the free words, their callers and the tree, and which write at
-- most one word.
use Rattle.ist_core.specs.declared.events.Event.{Event}
use Rattle.ist_core.specs.declared.events.Event.TheVariants.{Reserve, Install, Root, Place, Lose}

-- the event gives no row to a caller and takes none from it
abbrev pub TakesNoRows : Event → Type 0
TakesNoRows (Reserve caller base size) = ⊥
TakesNoRows (Install caller change rows) = ⊥
TakesNoRows (Root caller rebuild word rows) = ⊥
TakesNoRows (Place caller rebuild part word rows) = ⊥
TakesNoRows (Lose caller bases) = ⊥
TakesNoRows _ = Unit {0}
