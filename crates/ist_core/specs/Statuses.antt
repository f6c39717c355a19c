-- The status of a node, and the decision and the kind of a change, as words.
use Rattle.std.specs.Prelude.{ℕ, ◌+◌, ◌*◌, ◌/◌, ◌%◌, ◌^◌, ◌==◌, ◌&&◌, nat_lt, if◌then◌else◌, Option, Some, None}

-- a node is open to updates, or marked and closed to them, or finished with its number of keys
pub data Status : Type 0 where
  Open : Status
  Marked : Status
  Finished : ℕ → Status

-- the word of an open node
abbrev pub open_word : ℕ
open_word = 0

-- the word of a marked node that is not finished
abbrev pub marked_word : ℕ
marked_word = 1

-- the word of a node that is finished with k keys
abbrev pub finished_word : ℕ → ℕ
finished_word k = 4 * k + 3

-- a node is finished with fewer keys than this
abbrev pub keys_limit : ℕ
keys_limit = 2 ^ 32

-- the word of a status
abbrev pub status_word : Status → ℕ
status_word Open = open_word
status_word Marked = marked_word
status_word (Finished k) = finished_word k

-- the status with this word, or none: a finished status must have fewer keys than the limit
unfoldable pub status_of : ℕ → Option Status
status_of word =
    if word == open_word then Some Open
    else (if word == marked_word then Some Marked
    else (if word % 4 == 3 && nat_lt (word / 4) keys_limit then Some (Finished (word / 4))
    else None))

-- ---- the decision of a change

-- no one has decided yet
abbrev pub undecided : ℕ
undecided = 0

-- the change takes effect
abbrev pub decided_yes : ℕ
decided_yes = 1

-- the change has no effect
abbrev pub decided_no : ℕ
decided_no = 2

-- ---- the kind of a change

-- it puts a key with a value
abbrev pub put_kind : ℕ
put_kind = 1

-- it takes a key away
abbrev pub remove_kind : ℕ
remove_kind = 2

-- it replaces the node that needs a rebuild by a rebuild row
abbrev pub start_kind : ℕ
start_kind = 3

-- it replaces the rebuild row by the new subtree
abbrev pub finish_kind : ℕ
finish_kind = 4
