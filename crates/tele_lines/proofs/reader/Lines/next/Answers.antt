use Rattle.std.proofs.Common.{◌∙◌, ap, arith}
use Rattle.std.specs.Prelude.{Some, Ok}
use Rattle.tele_lines.specs.declared.items.Said.TheVariants.{Skips, Chooses}
use Rattle.tele_lines.specs.Progress.{Place, place_of}
use Rattle.tele_lines.proofs.PlaceLemmas.{goes_on_if, reads_if, item_if, bad_if, skipped_if}
use Rattle.tele_lines.proofs.SkippedLemmas.{skipped_more, skipped_sparing}
use Rattle.tele_lines.proofs.reader.Lines.next.Goals as goal

-- a line that says nothing was skipped
pub loop-item-preserved-in-Ok-Some-Skips : goal.loop-item-preserved-in-Ok-Some-Skips
loop-item-preserved-in-Ok-Some-Skips g c = let met = c.in-Ok-Some-Skips.ensures in
    let line = rw c.in-Ok-Some-Skips.field-0-0-is at (rw c.in-Ok-Some-Skips.field-0-is at met.line) in
    let place = rw c.in-Ok-Some-Skips.field-0-0-is at (rw c.in-Ok-Some-Skips.field-0-is at met.place) in
    let going = rw c.in-Ok-Some-Skips.field-0-0-is at (rw c.in-Ok-Some-Skips.field-0-is at met.going) in
    let before = c.loop-item.invariant in record {
      skipped = skipped_more _ _ _ _ _ before.skipped _ Skips (line tt) (place tt) (going tt)
          met.end met.ended met.limit met.steady met.sparing;
      again = λ done. absurd (cc (met.again (before.again done).0).0);
      counted = omega (arith, before.counted, met.counted);
    }

-- a line that chooses a version was skipped
pub loop-item-preserved : goal.loop-item-preserved
loop-item-preserved g c = let met = c.in-Ok-Some-Chooses.ensures in
    let line = rw c.in-Ok-Some-Chooses.field-0-0-is at (rw c.in-Ok-Some-Chooses.field-0-is at met.line) in
    let place = rw c.in-Ok-Some-Chooses.field-0-0-is at (rw c.in-Ok-Some-Chooses.field-0-is at met.place) in
    let going = rw c.in-Ok-Some-Chooses.field-0-0-is at (rw c.in-Ok-Some-Chooses.field-0-is at met.going) in
    let before = c.loop-item.invariant in record {
      skipped = skipped_more _ _ _ _ _ before.skipped _ (Chooses _) (line tt) (place tt) (going tt)
          met.end met.ended met.limit met.steady met.sparing;
      again = λ done. absurd (cc (met.again (before.again done).0).0);
      counted = omega (arith, before.counted, met.counted);
    }

-- a line asks for something
pub returns-in-Ok-Some-Asks-clause-line : goal.returns-in-Ok-Some-Asks-clause-line
returns-in-Ok-Some-Asks-clause-line g c = let met = c.in-Ok-Some-Asks.ensures in
    let line = rw c.in-Ok-Some-Asks.field-0-0-is at (rw c.in-Ok-Some-Asks.field-0-is at met.line) in
    let place = rw c.in-Ok-Some-Asks.field-0-0-is at (rw c.in-Ok-Some-Asks.field-0-is at met.place) in
    let before = c.loop-item.invariant in
    item_if _ (place_of c.loop-item.self) _ _ c.in-Ok-Some-Asks.item _ _ (place tt) (goes_on_if _ _ _ _ _ _ _ _ _ met.ended before.skipped.passed (line tt))

-- a line is bad
pub returns-in-Ok-Some-Fails-clause-bad : goal.returns-in-Ok-Some-Fails-clause-bad
returns-in-Ok-Some-Fails-clause-bad g c number cause is going =
    let met = c.in-Ok-Some-Fails.ensures in
    let told = ap Ok (c.in-Ok-Some-Fails.field-0-is ∙ ap Some c.in-Ok-Some-Fails.field-0-0-is) in
    let before = c.loop-item.invariant in
    bad_if _ _ _ number _ cause _ (ap (λ (p : Place). p.count) (met.stop c.in-Ok-Some-Fails.cause told).1) (cc is) (cc is)
    (reads_if _ _ _ _ _ _ before.skipped.passed (met.bad c.in-Ok-Some-Fails.cause told))

pub returns-in-Ok-Some-Asks-clause-sparing : goal.returns-in-Ok-Some-Asks-clause-sparing
returns-in-Ok-Some-Asks-clause-sparing g c =
    skipped_sparing _ _ _ _ _ c.loop-item.invariant.skipped c.in-Ok-Some-Asks.ensures.sparing

pub returns-in-Ok-Some-Fails-clause-sparing : goal.returns-in-Ok-Some-Fails-clause-sparing
returns-in-Ok-Some-Fails-clause-sparing g c =
    skipped_sparing _ _ _ _ _ c.loop-item.invariant.skipped c.in-Ok-Some-Fails.ensures.sparing

pub returns-in-Ok-None-clause-sparing : goal.returns-in-Ok-None-clause-sparing
returns-in-Ok-None-clause-sparing g c =
    skipped_sparing _ _ _ _ _ c.loop-item.invariant.skipped c.in-Ok-None.ensures.sparing

pub returns-in-Err-clause-sparing : goal.returns-in-Err-clause-sparing
returns-in-Err-clause-sparing g c =
    skipped_sparing _ _ _ _ _ c.loop-item.invariant.skipped c.in-Err.ensures.sparing

-- lines before a bad one were skipped
pub returns-in-Ok-Some-Fails-clause-skipped : goal.returns-in-Ok-Some-Fails-clause-skipped
returns-in-Ok-Some-Fails-clause-skipped g c number cause is going =
    let met = c.in-Ok-Some-Fails.ensures in
    let told = ap Ok (c.in-Ok-Some-Fails.field-0-is ∙ ap Some c.in-Ok-Some-Fails.field-0-0-is) in
    skipped_if _ _ _ _ _ _ _ _ (met.stop c.in-Ok-Some-Fails.cause told).1 met.ended (met.left c.in-Ok-Some-Fails.cause told)
    c.loop-item.invariant.skipped.passed

pub returns-in-Ok-Some-Fails-clause-shown : goal.returns-in-Ok-Some-Fails-clause-shown
returns-in-Ok-Some-Fails-clause-shown g c number cause is going =
    c.in-Ok-Some-Fails.ensures.shown c.in-Ok-Some-Fails.cause
    (ap Ok (c.in-Ok-Some-Fails.field-0-is ∙ ap Some c.in-Ok-Some-Fails.field-0-0-is))
