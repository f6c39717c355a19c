-- Arithmetic of the tree: how many children a node has, which keys each child has, when a node is
-- due for a rebuild, and in which child a key lies.
use Rattle.std.specs.Prelude.{ℕ, zero, suc, ◌+◌, ◌*◌, ◌/◌, ◌%◌, max, nat_le, nat_lt, if◌then◌else◌, List, map}
use Rattle.std.specs.List.{sum, count_by, range_with_len}

-- the largest number, up to `top`, whose square is at most n
unfoldable pub root_up_to : ℕ → ℕ → ℕ
root_up_to zero n = 0
root_up_to (suc top) n = if nat_le (suc top * suc top) n then suc top else root_up_to top n

-- the square root of n, rounded down: the largest number whose square is at most n
unfoldable pub square_root : ℕ → ℕ
square_root n = root_up_to n n

-- a node has at least this many children
abbrev pub least_degree : ℕ
least_degree = 2

-- how many children the root of an ideal tree of n keys has
unfoldable pub degree : ℕ → ℕ
degree n = max least_degree (square_root n)

-- how many of n keys child j has: an equal share, and one of the remainder for each of the first
-- children
unfoldable pub part_len : ℕ → ℕ → ℕ
part_len n j = n / degree n + (if nat_lt j (n % degree n) then 1 else 0)

-- how many of n keys each child has, from the first child to the last
unfoldable pub part_lens : ℕ → List ℕ
part_lens n = map (part_len n) (range_with_len 0 (degree n))

-- how many of n keys precede the keys of child j
unfoldable pub part_start : ℕ → ℕ → ℕ
part_start n j = sum (map (part_len n) (range_with_len 0 j))

-- a node is due for a rebuild after at least this many updates
abbrev pub least_limit : ℕ
least_limit = 8

-- how many updates make a node due for a rebuild, if it was built over `size` keys
abbrev pub limit : ℕ → ℕ
limit size = max least_limit (size / 4)

-- the child in whose range x lies, counted from 0: the number of keys that are at most x
abbrev pub child_count : List ℕ → ℕ → ℕ
child_count keys x = count_by (λ key. nat_le key x) keys
