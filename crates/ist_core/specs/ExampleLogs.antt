-- Small logs that show what the definitions mean. The newest event of a log is first.
use Rattle.std.specs.Prelude.{true, List, [], ◌∷◌}
use Rattle.ist_core.specs.declared.pairs.Pair.{Pair}
use Rattle.ist_core.specs.declared.lists.Row.{Row}
use Rattle.ist_core.specs.declared.events.Event.TheVariants.{Enter, Reserve, Install, Okay, Decide, Resolve, Count, Mark, Pass, Finish, Root}
use Rattle.ist_core.specs.Logs.{Log}

-- ---- a put of (1, 1) into an empty table

-- the rows of the put: the change at 6, and the leaf at 4
abbrev pub put_rows : List Row
put_rows =
    record { base = 6; words = 0 ∷ 1 ∷ 2 ∷ 0 ∷ 0 ∷ 33 ∷ 0 ∷ 1 ∷ 1 ∷ [] }
    ∷ record { base = 4; words = 1 ∷ 1 ∷ [] }
    ∷ []

-- caller 0 enters and reserves both rows
abbrev pub put_reserved : Log
put_reserved = Reserve 0 6 9 ∷ Reserve 0 4 2 ∷ Enter 0 ∷ []

-- the change is in the anchor's slot
abbrev pub put_installed : Log
put_installed = Install 0 6 put_rows ∷ put_reserved

-- the change is decided, once the anchor was seen open
abbrev pub put_decided : Log
put_decided = Decide 0 6 true ∷ Okay 0 6 ∷ put_installed

-- the change has left the slot
abbrev pub put_resolved : Log
put_resolved = Resolve 0 6 ∷ put_decided

-- the same without the Okay
abbrev pub put_unseen : Log
put_unseen = Resolve 0 6 ∷ Decide 0 6 true ∷ put_installed

-- ---- a start of a rebuild of the anchor's child, which isn't due

-- the pairs (10, 1) and (20, 2)
abbrev pub start_pairs : List Pair
start_pairs = record { key = 10; value = 1 } ∷ record { key = 20; value = 2 } ∷ []

-- the rows of the start: the change at 20, and the rebuild at 15 with target 4
abbrev pub start_rows : List Row
start_rows =
    record { base = 20; words = 0 ∷ 3 ∷ 2 ∷ 0 ∷ 34 ∷ 124 ∷ 0 ∷ 0 ∷ 0 ∷ [] }
    ∷ record { base = 15; words = 4 ∷ 2 ∷ 0 ∷ 7 ∷ 0 ∷ [] }
    ∷ []

-- caller 0 enters, reserves both rows and installs the start
abbrev pub start_installed : Log
start_installed = Install 0 20 start_rows ∷ Reserve 0 20 9 ∷ Reserve 0 15 5 ∷ Enter 0 ∷ []

-- ---- the whole rebuild

-- the start is decided and leaves the slot, which now holds the rebuild
abbrev pub rebuild_started : Log
rebuild_started = Resolve 0 20 ∷ Decide 0 20 true ∷ Okay 0 20 ∷ start_installed

-- the row at 4 is marked, its two leaves are passed, and it is finished with two keys
abbrev pub rebuild_finished : Log
rebuild_finished = Finish 0 4 2 ∷ Pass 0 4 1 105 ∷ Pass 0 4 0 89 ∷ Mark 0 4 ∷ rebuild_started

-- the new row at 29, over the same leaves
abbrev pub root_rows : List Row
root_rows = record { base = 29; words = 0 ∷ 0 ∷ 2 ∷ 2 ∷ 20 ∷ 89 ∷ 105 ∷ [] } ∷ []

-- the new row is reserved and becomes the rebuild's root
abbrev pub rebuild_rooted : Log
rebuild_rooted = Root 0 15 234 root_rows ∷ Reserve 0 29 7 ∷ rebuild_finished

-- the row of the finish: the change at 36
abbrev pub finish_rows : List Row
finish_rows = record { base = 36; words = 0 ∷ 4 ∷ 2 ∷ 0 ∷ 124 ∷ 234 ∷ 0 ∷ 0 ∷ 0 ∷ [] } ∷ []

-- the finish is installed
abbrev pub finish_installed : Log
finish_installed = Install 0 36 finish_rows ∷ Reserve 0 36 9 ∷ rebuild_rooted

-- it is decided and leaves the slot, which now holds the new row
abbrev pub rebuild_replaced : Log
rebuild_replaced = Resolve 0 36 ∷ Decide 0 36 true ∷ Okay 0 36 ∷ finish_installed

-- ---- an update that the rebuild overtakes

-- callers 1 and 2 enter, and caller 1 reserves the rows of a put
abbrev pub late_reserved : Log
late_reserved = Reserve 1 31 9 ∷ Reserve 1 29 2 ∷ Enter 2 ∷ Enter 1 ∷ rebuild_started

-- the rows of the put of (20, 9) in the target of the rebuild: the change at 31, and the leaf at 29
abbrev pub late_rows : List Row
late_rows =
    record { base = 31; words = 0 ∷ 1 ∷ 4 ∷ 1 ∷ 105 ∷ 233 ∷ 1 ∷ 20 ∷ 9 ∷ [] }
    ∷ record { base = 29; words = 20 ∷ 9 ∷ [] }
    ∷ []

-- the put is installed, caller 2 sees the target open, and only then caller 0 marks it
abbrev pub late_marked : Log
late_marked = Mark 0 4 ∷ Okay 2 31 ∷ Install 1 31 late_rows ∷ late_reserved

-- caller 2 decides yes all the same, and caller 0 takes the change out of the slot
abbrev pub late_resolved : Log
late_resolved = Resolve 0 31 ∷ Decide 2 31 true ∷ late_marked

-- caller 1 counts its put at the target, the only row of the chain
abbrev pub late_counted : Log
late_counted = Count 1 4 ∷ late_resolved

-- caller 0 passes both slots, the second with the new leaf, and finishes the target
abbrev pub late_finished : Log
late_finished = Finish 0 4 2 ∷ Pass 0 4 1 233 ∷ Pass 0 4 0 89 ∷ late_counted

-- the same put, installed only after the mark and decided yes
abbrev pub too_late : Log
too_late = Decide 2 31 true ∷ Install 1 31 late_rows ∷ Mark 0 4 ∷ late_reserved
