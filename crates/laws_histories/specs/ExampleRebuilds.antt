-- A log in which a row is marked while the rebuild of its child goes on.
use Rattle.std.specs.Prelude.{ℕ, true, false, List, [], ◌∷◌}
use Rattle.ist_core.specs.declared.pairs.Pair.{Pair}
use Rattle.ist_core.specs.declared.lists.Row.{Row}
use Rattle.ist_core.specs.declared.events.Event.TheVariants.{Enter, Reserve, Install, Okay, Decide, Resolve, Count, Mark, Pass, Finish, Root}
use Rattle.ist_core.specs.Logs.{Log}
use Rattle.ist_core.specs.ExampleTables.{pair}

-- three pairs: the top row at 4 leads to the left row at 11, over the leaves at 18 and 20, and to
-- the leaf at 22
abbrev pub three_pairs : List Pair
three_pairs = pair 10 1 ∷ pair 20 2 ∷ pair 30 3 ∷ []

-- ---- puts that make the left row due

-- the rows of a put of (10, 1), the value that the key already has: a change, and a leaf with the
-- word `to`
abbrev pub again_rows : ℕ → ℕ → ℕ → ℕ → List Row
again_rows leaf change from to =
    record { base = change; words = 0 ∷ 1 ∷ 11 ∷ 0 ∷ from ∷ to ∷ 0 ∷ 10 ∷ 1 ∷ [] }
    ∷ record { base = leaf; words = 10 ∷ 1 ∷ [] }
    ∷ []

-- the rows of the put are reserved
abbrev pub again_reserved : ℕ → ℕ → Log → Log
again_reserved leaf change log = Reserve 0 change 9 ∷ Reserve 0 leaf 2 ∷ log

-- the change is in the first slot of the left row
abbrev pub again_installed : ℕ → ℕ → ℕ → ℕ → Log → Log
again_installed leaf change from to log =
    Install 0 change (again_rows leaf change from to) ∷ again_reserved leaf change log

-- the left row is seen open
abbrev pub again_okayed : ℕ → ℕ → ℕ → ℕ → Log → Log
again_okayed leaf change from to log = Okay 0 change ∷ again_installed leaf change from to log

-- the change is decided yes
abbrev pub again_decided : ℕ → ℕ → ℕ → ℕ → Log → Log
again_decided leaf change from to log =
    Decide 0 change true ∷ again_okayed leaf change from to log

-- it leaves the slot
abbrev pub again_resolved : ℕ → ℕ → ℕ → ℕ → Log → Log
again_resolved leaf change from to log = Resolve 0 change ∷ again_decided leaf change from to log

-- it is counted at the left row
abbrev pub put_again : ℕ → ℕ → ℕ → ℕ → Log → Log
put_again leaf change from to log = Count 0 11 ∷ again_resolved leaf change from to log

-- callers 0 and 1 enter
abbrev pub both_entered : Log
both_entered = Enter 1 ∷ Enter 0 ∷ []

-- four puts
abbrev pub four_puts : Log
four_puts =
    put_again 57 59 369 457 (put_again 46 48 281 369
    (put_again 35 37 193 281 (put_again 24 26 145 193 both_entered)))

-- eight puts, after which the left row is due
abbrev pub eight_puts : Log
eight_puts =
    put_again 101 103 721 809 (put_again 90 92 633 721
    (put_again 79 81 545 633 (put_again 68 70 457 545 four_puts)))

-- ---- the rebuild of the left row

-- the rows of its start: the change at 117, and the rebuild at 112
abbrev pub left_rows : List Row
left_rows =
    record { base = 117; words = 0 ∷ 3 ∷ 4 ∷ 0 ∷ 90 ∷ 900 ∷ 0 ∷ 0 ∷ 0 ∷ [] }
    ∷ record { base = 112; words = 11 ∷ 4 ∷ 0 ∷ 7 ∷ 0 ∷ [] }
    ∷ []

-- its start is installed
abbrev pub left_installed : Log
left_installed = Install 0 117 left_rows ∷ Reserve 0 117 9 ∷ Reserve 0 112 5 ∷ eight_puts

-- the rebuild is in the top row's slot
abbrev pub left_started : Log
left_started = Resolve 0 117 ∷ Decide 0 117 true ∷ Okay 0 117 ∷ left_installed

-- the left row is marked, passed and finished with two keys
abbrev pub left_finished : Log
left_finished = Finish 0 11 2 ∷ Pass 0 11 1 161 ∷ Pass 0 11 0 809 ∷ Mark 0 11 ∷ left_started

-- the new row at 126, over the same leaves
abbrev pub new_left_rows : List Row
new_left_rows =
    record { base = 126; words = 0 ∷ 0 ∷ 2 ∷ 2 ∷ 20 ∷ 809 ∷ 161 ∷ [] } ∷ []

-- the new row becomes the root
abbrev pub left_rooted : Log
left_rooted = Root 0 112 1010 new_left_rows ∷ Reserve 0 126 7 ∷ left_finished

-- ---- the rebuild of the top row, and the finish of the left one

-- the rows of caller 1's start: the change at 138, and the rebuild at 133
abbrev pub top_rows : List Row
top_rows =
    record { base = 138; words = 0 ∷ 3 ∷ 2 ∷ 0 ∷ 34 ∷ 1068 ∷ 1 ∷ 0 ∷ 0 ∷ [] }
    ∷ record { base = 133; words = 4 ∷ 2 ∷ 0 ∷ 7 ∷ 0 ∷ [] }
    ∷ []

-- its start is installed
abbrev pub top_installed : Log
top_installed = Install 1 138 top_rows ∷ Reserve 1 138 9 ∷ Reserve 1 133 5 ∷ left_rooted

-- the rebuild is in the anchor's slot
abbrev pub top_started : Log
top_started = Resolve 1 138 ∷ Decide 1 138 true ∷ Okay 1 138 ∷ top_installed

-- the top row is marked, and only then caller 0 reserves the row of its finish
abbrev pub top_marked : Log
top_marked = Reserve 0 147 9 ∷ Mark 1 4 ∷ top_started

-- the row of the finish of the left rebuild: the change at 147
abbrev pub left_finish_rows : List Row
left_finish_rows =
    record { base = 147; words = 0 ∷ 4 ∷ 4 ∷ 0 ∷ 900 ∷ 1010 ∷ 0 ∷ 0 ∷ 0 ∷ [] }
    ∷ []

-- the finish is installed
abbrev pub left_finish_installed : Log
left_finish_installed = Install 0 147 left_finish_rows ∷ top_marked

-- it is decided no and leaves the slot, which holds the rebuild again
abbrev pub left_refused : Log
left_refused = Resolve 0 147 ∷ Decide 0 147 false ∷ left_finish_installed

-- the same finish, decided yes
abbrev pub left_too_late : Log
left_too_late = Decide 0 147 true ∷ left_finish_installed
