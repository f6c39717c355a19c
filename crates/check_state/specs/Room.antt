-- Whether an event has room: the numbers after it fit into words, and a reserved row has a higher
-- base than the held ones. Each event that may come next after a lawful log has room.
use Rattle.std.specs.Prelude.{◌≡◌, ◌+◌, ◌^◌, ◌<◌, ℕ, Some}
use Rattle.std.specs.Ordering.{nat_cmp}
use Rattle.std.specs.BTreeMap as tree
use Rattle.ist_core.specs.declared.states.InnerRow.{InnerRow}
use Rattle.ist_core.specs.declared.states.RebuildRow.{RebuildRow}
use Rattle.ist_core.specs.declared.events.Event.{Event}
use Rattle.ist_core.specs.declared.events.Event.TheVariants.{Enter, Reserve, Install, Count, Finish, Draw}
use Rattle.check_events.specs.declared.replicas.Replica.{Replica}
use Rattle.check_events.specs.Holding.{LiesBelow}

-- one more than the largest number that fits into a word
abbrev pub word_limit : ℕ
word_limit = 2 ^ 64

-- the numbers after the event fit into words, and what it reserves has a higher base than all held
-- rows of this replica
abbrev pub HasRoom : Replica → Event → Type 0
HasRoom replica (Enter caller) = replica.callers + 1 < word_limit
HasRoom replica (Reserve caller base size) = (base + size < word_limit) × LiesBelow replica.held base
HasRoom replica (Install caller change rows) = change < 2 ^ 28
HasRoom replica (Count caller node) = (r : InnerRow) → tree.get nat_cmp replica.inners node ≡ Some r → r.count < 2 ^ 63
HasRoom replica (Finish caller node keys) = keys < 2 ^ 61
HasRoom replica (Draw caller rebuild part) = (r : RebuildRow) → tree.get nat_cmp replica.rebuilds rebuild ≡ Some r → r.draw < 2 ^ 63
HasRoom replica _ = Unit {0}
