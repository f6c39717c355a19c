-- Reading slot after slot, by moments of a pass. Serves `lists` and `ends`.
use Rattle.std.specs.Prelude.{ℕ, ◌<◌, ◌≤◌, List, [], ◌++◌, Option, IfSome}
use Rattle.ist_core.specs.declared.pairs.Pair.{Pair}
use Rattle.ist_find.specs.Spans.{pair_value}
use Rattle.ist_find.specs.Sweeps.{one_of}
use Rattle.ist_tree.specs.CallTerms.{PassFace}
use Rattle.ist_live.specs.Reading as spans
use Rattle.ist_live.specs.Reading.{HasOnlyRead, Had, HadSince, ReadsUp}
use Rattle.ist_live.proofs.ReadLemmas.{had_before, had_since, read_more, read_not}

-- between the later moments the keys of one slot were read, from the first up to its end: each had what
-- the pair gives it at a position of its own, since a step after the first moment
pub record HasReadKeysOfSlot (p m q : PassFace) (first following : ℕ) (pair : Option Pair) : Type 0 where
  pub read : HasOnlyRead m q
  pub some : first < following
  pub within : IfSome pair (λ x. (first ≤ x.key) × (x.key < following))
  pub values : (k : ℕ) → first ≤ k → k < following → Had p q k (pair_value pair k)
  pub since : (k : ℕ) → first ≤ k → k < following → HadSince m q k (pair_value pair k)

-- the keys from the first up to a slot's end were read upwards, one slot after another, and the pairs were
-- found
pub data SweepsUp (p : PassFace) (first : ℕ) : PassFace → ℕ → List Pair → Type 0 where
  none_up : SweepsUp p first p first []
  later_up : {m q : PassFace} {from : ℕ} {pairs : List Pair}
      → SweepsUp p first m from pairs → HasOnlyRead m q → SweepsUp p first q from pairs
  slot_up : {m q : PassFace} {from following : ℕ} {pairs : List Pair} (pair : Option Pair)
      → SweepsUp p first m from pairs → HasReadKeysOfSlot p m q from following pair
      → SweepsUp p first q following (pairs ++ one_of pair)

-- spans are only read
spans_read : (p : PassFace) (first : ℕ) (q : PassFace) (following : ℕ) (pairs : List Pair)
    → ReadsUp p first q following pairs → HasOnlyRead p q
spans_read p first _ _ _ spans.none_up = read_not p
spans_read p first q following _ (spans.span_up {m = m} {from = from} {pairs = pairs} pair r begins s) =
    read_more p m q (spans_read p first m from pairs r) s.read

-- what was read span after span was read slot after slot
pub slots_of : (p : PassFace) (first : ℕ) (q : PassFace) (following : ℕ) (pairs : List Pair)
    → ReadsUp p first q following pairs → SweepsUp p first q following pairs
slots_of p first _ _ _ spans.none_up = none_up
slots_of p first q following _ (spans.span_up {m = m} {from = from} {pairs = pairs} pair r begins s) =
    slot_up pair (slots_of p first m from pairs r) record {
      read = s.read;
      some = s.high;
      within = s.within;
      values = λ k low high.
          had_before p m q (spans_read p first m from pairs r) k (pair_value pair k) (s.values k low high);
      since = λ k low high. had_since m q k (pair_value pair k) (s.values k low high);
    }
