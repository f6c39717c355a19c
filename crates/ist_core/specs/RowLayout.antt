-- Where the words of a table lie: the fixed words at its start, the rows, and the fields of a row.
-- A row is named by its base, the place of its first word. An offset counts from the base.
use Rattle.std.specs.Prelude.{ℕ, ◌+◌, ◌*◌, ◌^◌}

-- every place of a table is below this number
abbrev pub place_limit : ℕ
place_limit = 2 ^ 28

-- ---- the fixed words

-- the word that holds the place of the first free word
abbrev pub next_place : ℕ
next_place = 0

-- the word that holds how many callers have entered
abbrev pub callers_place : ℕ
callers_place = 1

-- the base of the anchor, the node without keys above the whole tree
abbrev pub anchor : ℕ
anchor = 2

-- the status of the anchor
abbrev pub anchor_status_place : ℕ
anchor_status_place = 2

-- the one slot of the anchor
abbrev pub anchor_slot_place : ℕ
anchor_slot_place = 3

-- the lowest base of a row
abbrev pub first_row : ℕ
first_row = 4

-- ---- a leaf: key, value

-- how many words a leaf takes
abbrev pub leaf_words : ℕ
leaf_words = 2

-- the key of a leaf
abbrev pub leaf_key_offset : ℕ
leaf_key_offset = 0

-- the value of a leaf
abbrev pub leaf_value_offset : ℕ
leaf_value_offset = 1

-- ---- an inner row of degree d: status, count, degree, size, then d - 1 keys, then d slots

-- how many words an inner row of degree d takes
abbrev pub inner_words : ℕ → ℕ
inner_words d = 2 * d + 3

-- how many words a pair row takes, the inner row over two leaves that an update makes
abbrev pub pair_words : ℕ
pair_words = inner_words 2

-- the status of an inner row
abbrev pub inner_status_offset : ℕ
inner_status_offset = 0

-- how many updates were counted below an inner row
abbrev pub inner_count_offset : ℕ
inner_count_offset = 1

-- how many slots an inner row has
abbrev pub inner_degree_offset : ℕ
inner_degree_offset = 2

-- how many keys an inner row was built over
abbrev pub inner_size_offset : ℕ
inner_size_offset = 3

-- key j of an inner row, counted from 1: the smallest key below slot j when the row was built
abbrev pub key_place : ℕ → ℕ → ℕ
key_place base j = base + 3 + j

-- slot i of an inner row of degree d, counted from 0
abbrev pub slot_place : ℕ → ℕ → ℕ → ℕ
slot_place base d i = base + 3 + d + i

-- ---- a change: decision, kind, node, index, from, to, owner, key, value

-- how many words a change takes
abbrev pub change_words : ℕ
change_words = 9

-- whether a change was decided, and how
abbrev pub change_decision_offset : ℕ
change_decision_offset = 0

-- what a change is for: a put, a remove, the start or the finish of a rebuild
abbrev pub change_kind_offset : ℕ
change_kind_offset = 1

-- the base of the node in whose slot a change is installed
abbrev pub change_node_offset : ℕ
change_node_offset = 2

-- the number of that slot
abbrev pub change_index_offset : ℕ
change_index_offset = 3

-- the word that a change takes out of the slot
abbrev pub change_from_offset : ℕ
change_from_offset = 4

-- the word that a change puts into the slot
abbrev pub change_to_offset : ℕ
change_to_offset = 5

-- the number of the caller that made a change
abbrev pub change_owner_offset : ℕ
change_owner_offset = 6

-- the key of the command that a change carries out, or 0
abbrev pub change_key_offset : ℕ
change_key_offset = 7

-- the value of the command that a change carries out, or 0
abbrev pub change_value_offset : ℕ
change_value_offset = 8

-- ---- a rebuild: target, parent, index, root, draw

-- how many words a rebuild takes
abbrev pub rebuild_words : ℕ
rebuild_words = 5

-- the base of the node that is rebuilt
abbrev pub rebuild_target_offset : ℕ
rebuild_target_offset = 0

-- the base of the target's parent
abbrev pub rebuild_parent_offset : ℕ
rebuild_parent_offset = 1

-- the number of the target's slot in its parent
abbrev pub rebuild_index_offset : ℕ
rebuild_index_offset = 2

-- the word that names the root of the new subtree
abbrev pub rebuild_root_offset : ℕ
rebuild_root_offset = 3

-- how many parts of a shared root have been drawn
abbrev pub rebuild_draw_offset : ℕ
rebuild_draw_offset = 4
