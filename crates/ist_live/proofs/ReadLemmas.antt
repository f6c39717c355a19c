-- What a pass read so far, and what it read after that, together. Serves all reads.
use Rattle.std.proofs.Common.{◌≡◌, ℕ, ◌+◌, ◌≤◌, Option, Some, refl, subst, arith}
use Rattle.ist_core.specs.declared.pairs.Pair.{Pair}
use Rattle.ist_core.specs.LogTerms.{same_log}
use Rattle.laws_histories.specs.Searching.{HasPosition}
use Rattle.laws_histories.proofs.ChangeLemmas.{position_on}
use Rattle.ist_tree.specs.CallTerms.{PassFace}
use Rattle.ist_tree.proofs.HeardLemmas.{seen_more_then, seen_same, steps_from, steps_until}
use Rattle.ist_live.specs.Reading.{HasOnlyRead, Had, HadSince, HasReadSpan}

-- nothing was read yet
pub read_not : (p : PassFace) → HasOnlyRead p p
read_not p = record { seen = seen_same p; calls = refl; stamp = refl; refused = refl }

-- two reads are one
pub read_more : (p m q : PassFace) → HasOnlyRead p m → HasOnlyRead m q → HasOnlyRead p q
read_more p m q a b = grind (arith, seen_more_then)

-- what a key had after what was read so far, it had since the beginning
pub since_before : (p m q : PassFace) → HasOnlyRead p m → (k : ℕ) (value : Option ℕ)
    → HadSince m q k value → HadSince p q k value
since_before p m q r k value h =
    position_on p.tree.start p.tree.words p.seen m.seen q.seen q.seen r.seen.seen same_log k value
    (subst (λ t. HasPosition t.start t.words m.seen q.seen k value) r.seen.tree h)

-- what it had so far, it has had still
pub since_after : (p m q : PassFace) → HasOnlyRead m q → (k : ℕ) (value : Option ℕ)
    → HadSince p m k value → HadSince p q k value
since_after p m q r k value h =
    position_on p.tree.start p.tree.words p.seen p.seen m.seen q.seen same_log r.seen.seen k value h

-- since a step of the pass is since the beginning
pub had_since : (p q : PassFace) (k : ℕ) (value : Option ℕ) → Had p q k value → HadSince p q k value
had_since p q k value h =
    position_on p.tree.start p.tree.words p.seen h.at q.seen q.seen h.step.seen same_log k value
    h.position

-- a step after what was read so far is one of both
pub had_before : (p m q : PassFace) → HasOnlyRead p m → (k : ℕ) (value : Option ℕ) → Had m q k value
    → Had p q k value
had_before p m q r k value h = grind (arith, steps_from)

-- so is a step before more is read
pub had_after : (p m q : PassFace) → HasOnlyRead m q → (k : ℕ) (value : Option ℕ) → Had p m k value
    → Had p q k value
had_after p m q r k value h = record {
  at = h.at;
  step = steps_until p m q h.at h.step r.seen;
  position = position_on p.tree.start p.tree.words h.at h.at m.seen q.seen same_log r.seen.seen k
      value h.position;
}

-- a part of it up to its pair
pub up_to_pair : (p q : PassFace) (asked from following : ℕ) (x : Pair)
    → HasReadSpan p q asked from following (Some x) → from ≡ asked
    → HasReadSpan p q asked from (x.key + 1) (Some x)
up_to_pair p q asked from following x s is = grind arith

-- and down to it
pub down_to_pair : (p q : PassFace) (asked from following : ℕ) (x : Pair)
    → HasReadSpan p q asked from following (Some x) → following ≡ asked + 1
    → HasReadSpan p q asked x.key following (Some x)
down_to_pair p q asked from following x s is = grind arith
