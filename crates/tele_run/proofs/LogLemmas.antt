-- How many words were spent after a log that goes on. Serves `run_on_tree`.
use Rattle.std.proofs.Common.{◌≡◌, ℕ, zero, suc, ◌≤◌, List, [], ◌∷◌, slice_get, slice_index, Some, arith}
use Rattle.ist_core.specs.declared.pairs.Pair.{Pair}
use Rattle.ist_core.specs.LogTerms.{Log, GoesOn, same_log, one_event, spent}

-- at least as many words were spent after a log that goes on
pub spent_rise : (pairs : List Pair) (earlier log : Log) → GoesOn earlier log
    → spent pairs earlier ≤ spent pairs log
spent_rise pairs earlier _ same_log = omega arith
spent_rise pairs earlier _ (one_event {log = log} event g) =
    let rest = spent_rise pairs earlier log g in omega arith

-- the word at a place
pub word_there : (xs : List ℕ) (i x : ℕ) → slice_get xs i ≡ Some x → slice_index xs i ≡ x
word_there [] i x e = absurd (cc)
word_there (y ∷ xs) zero x e = cc
word_there (y ∷ xs) (suc i) x e = word_there xs i x e
