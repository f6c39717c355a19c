-- How many entries a call made. Serves what came of a change.
use Rattle.std.proofs.Common.{◌≡◌, ◌+◌, ◌≤◌, List, [], ◌∷◌, ◌++◌, length, length-append, ap, arith}
use Rattle.ist_core.specs.TreeTerms.{Entry}

-- and so did one that made this entry
pub one_more_entry : (xs made : List Entry) (entry : Entry) → xs ≡ made ++ entry ∷ []
    → length xs ≤ length made + 1
one_more_entry xs made entry e = let same = ap length e in
    let more = length-append made (entry ∷ []) in omega arith
