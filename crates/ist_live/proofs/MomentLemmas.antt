-- What a tree swept between two moments of a pass, as moments of the pass. Serves `lists`.
use Rattle.std.proofs.Common.{◌≡◌, ℕ, ◌+◌, ◌<◌, List, [], ◌++◌, sym, ap, ◌∙◌, subst, arith}
use Rattle.ist_core.specs.declared.pairs.Pair.{Pair}
use Rattle.ist_core.specs.LogTerms.{Log, GoesOn, same_log}
use Rattle.ist_core.specs.WordTerms.{anchor}
use Rattle.ist_core.proofs.AllLogLemmas.{goes_on_more}
use Rattle.laws_histories.proofs.ChangeLemmas.{position_on}
use Rattle.ist_find.specs.Spans.{pair_value}
use Rattle.ist_find.specs.Sweeps.{Swept, none_swept, later_swept, row_swept, slot_swept}
use Rattle.ist_find.proofs.SweepingLemmas.{swept_on}
use Rattle.ist_tree.specs.CallTerms.{PassFace, StepsIn}
use Rattle.ist_tree.specs.Sweeps.{HasSweptOver}
use Rattle.ist_tree.proofs.HeardLemmas.{heard_same}
use Rattle.ist_live.specs.Reading.{HasOnlyRead}
use Rattle.ist_live.specs.Lists.{HasListedLive}
use Rattle.ist_live.proofs.SlotLemmas.{SweepsUp, none_up, later_up, slot_up}

-- the keys were swept between these moments of the pass, from its step on
module _ (p q : PassFace) (r : HasOnlyRead p q) (began : Log) (step : StepsIn p q began) where
  -- the pass when it would have seen this log, after its step
  abbrev seeing : Log → PassFace
  seeing log = record p { seen = log; moments = q.moments }

  -- from the beginning to the step
  to_step : HasOnlyRead p (seeing began)
  to_step = grind arith

  -- from one log to a longer one
  to_later : (a b : Log) → GoesOn a b → HasOnlyRead (seeing a) (seeing b)
  to_later a b g = grind (arith, heard_same)

  -- from a log to what the pass has seen in the end
  to_end : (a : Log) → GoesOn a q.seen → HasOnlyRead (seeing a) q
  to_end a g = grind (arith, heard_same)

  -- the step was made before each longer log was seen
  step_at : (a : Log) → GoesOn began a → StepsIn p (seeing a) began
  step_at a g = grind arith

  -- each slot was read between two of these moments
  slots_at : (first above : ℕ) (at : Log) (following row loads : ℕ) (pairs : List Pair)
      → Swept p.tree.start p.tree.words first above began at following row loads pairs
      → SweepsUp p first (seeing at) following pairs
  slots_at first above _ _ _ _ _ none_swept = later_up none_up to_step
  slots_at first above _ following row loads pairs (later_swept {at = at} {later = later} s g) =
      later_up (slots_at first above at following row loads pairs s) (to_later at later g)
  slots_at first above at following _ _ pairs (row_swept {row = row} {loads = loads} base r s e up way) =
      slots_at first above at following row loads pairs s
  slots_at first above _ following _ _ _ (slot_swept {at = at} {later = later} {low = low} {row = row} {loads = loads} {found = found} pair s begins o) =
      let on = swept_on p.tree.start p.tree.words first above began at low row loads found s in
      slot_up pair (slots_at first above at low row loads found s) record {
        read = to_later at later o.on;
        some = o.some;
        within = o.within;
        values = λ k least most. record {
          at = began;
          step = step_at later (goes_on_more on o.on);
          position = position_on p.tree.start p.tree.words began at later later on same_log k
              (pair_value pair k) (o.values k least most);
        };
        since = o.values;
      }

-- so the pass has read the keys
pub swept_up : (p q : PassFace) → HasOnlyRead p q → (first last : ℕ) (old new : List Pair) → old ≡ []
    → HasSweptOver p q first last old new → SweepsUp p first q (last + 1) new
swept_up p q r first last old new none h =
    subst (SweepsUp p first q (last + 1)) (sym (h.are ∙ ap (λ xs. xs ++ h.found) none))
    (later_up (slots_at p q r h.began h.step first anchor h.at (last + 1) 0 h.loads h.found h.swept)
    (to_end p q r h.began h.step h.at h.until))

-- and listed them
pub has_listed : (p q : PassFace) (first last : ℕ) (old new : List Pair) → old ≡ []
    → HasSweptOver p q first last old new → HasListedLive p q first last new
has_listed p q first last old new none h = grind arith

-- if there is no key to read, it listed none
pub none_listed : (p : PassFace) (first last : ℕ) → last < first → HasListedLive p p first last []
none_listed p first last less = record {
  following = first;
  past = less;
  began = p.seen;
  step = λ some. absurd (omega arith);
  at = p.seen;
  until = same_log;
  row = anchor;
  loads = 0;
  few = omega arith;
  swept = none_swept;
}
