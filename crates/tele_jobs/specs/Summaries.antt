-- The summary of some made lines, by the plain map.
use Rattle.std.specs.Prelude.{ℕ, ◌%◌, ◌^◌, List, ◌++◌, length, codes, decimal, is_some}
use Rattle.std.specs.List.{sum_by, count_by}
use Rattle.ist_core.specs.declared.pairs.Pair.{Pair}
use Rattle.ist_core.specs.Map.{no_pairs, replay, replies, pairs_of}
use Rattle.tele_jobs.specs.declared.summaries.Summary.{Summary}
use Rattle.tele_jobs.specs.Made.{made_commands}

-- the sum of the values of some pairs, modulo 2 ^ 64
abbrev pub value_sum : List Pair → ℕ
value_sum pairs = sum_by (λ p. p.value) pairs % 2 ^ 64

-- the summary of this many lines made from a seed: their number, the number of keys of the map
-- after them, how many of them get a value as their reply, and the sum of the map's values
abbrev pub summary_of : ℕ → ℕ → Summary
summary_of count seed =
    let commands = made_commands count seed in
    let pairs = pairs_of (replay no_pairs commands) in
    record {
      made = count;
      keys = length pairs;
      found = count_by is_some (replies no_pairs commands);
      sum = value_sum pairs;
    }

-- the line that is printed for a summary
abbrev pub summary_text : Summary → List ℕ
summary_text s =
    codes "made " ++ decimal s.made ++ codes " keys " ++ decimal s.keys
    ++ codes " found " ++ decimal s.found ++ codes " sum " ++ decimal s.sum ++ codes "\n"
