-- The words with which slots were passed. Serves the search law.
use Rattle.std.proofs.Common.{◌≢◌, ℕ, [], ◌∷◌, Some, inl, inr, arith}
use Rattle.ist_core.specs.WordTerms.{Unset, ChangeAt, ref_of}
use Rattle.ist_core.specs.LogTerms.{Snapshot, Log, Happened, Passes, EachEnabled}
use Rattle.ist_core.proofs.AllEventLemmas.{not_unset}
use Rattle.laws_links.proofs.PassLemmas.{passing}

-- a word with which a slot may be passed: it is set, and no change
pub record IsPassable (word : ℕ) : Type 0 where
  pub set : ref_of word ≢ Some Unset
  -- it names no change
  pub no_change : (base : ℕ) → ref_of word ≢ Some (ChangeAt base)

-- a slot is passed with such a word
pub passed_plain : (first : Snapshot) (log : Log) (node i word : ℕ) → EachEnabled first log
    → Happened (Passes node i word) log → IsPassable word
passed_plain first [] node i word h p = absurd p
passed_plain first (event ∷ log) node i word h (inl now) = grind (arith, passing, not_unset)
passed_plain first (event ∷ log) node i word h (inr before) =
    passed_plain first log node i word h.0 before
