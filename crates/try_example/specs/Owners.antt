-- What the only worker that changes a key was told about it.
use Rattle.std.specs.Prelude.{◌≡◌, ◌≢◌, ℕ, List, [], filter, slice_index_or}
use Rattle.std.specs.FinMap as fin
use Rattle.ist_core.specs.declared.pairs.Pair.{Pair}
use Rattle.ist_core.specs.Map.{map_of}
use Rattle.ist_core.specs.Replies.{Answered}
use Rattle.ist_rest.specs.RestingWords.{HoldPairs}
use Rattle.ist_map.specs.Owning.{OnlyGets, ReadBack, is_about}

-- if all others only got the key, the owner read back what it wrote: from the value that the key had
-- in the words at the beginning on
abbrev pub ReadsOwn : List ℕ → ℕ → List (List Answered) → Type 0
ReadsOwn first key told =
    (owner : ℕ)
    → ((other : ℕ) → other ≢ owner → OnlyGets key (slice_index_or told other []))
    → (pairs : List Pair) → HoldPairs first pairs
    → ReadBack (fin.get (map_of pairs) key) (filter (is_about key) (slice_index_or told owner []))
