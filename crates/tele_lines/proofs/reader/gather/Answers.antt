use Rattle.std.proofs.Common.{rules, arith, ◌∙◌, sym, subst, inl, inr}
use Rattle.std.specs.Prelude.{Result, Ok, Err, OnErr}
use Rattle.tele_io.specs.Bytes.{Keeps}
use Rattle.tele_lines.specs.Buffers.{EndsAt, IsUnbroken, unread_of}
use Rattle.tele_lines.proofs.PlaceLemmas.{still_going}
use Rattle.tele_lines.proofs.ReaderLemmas.{ends_at, unbroken, unread-ends}
use Rattle.tele_lines.proofs.SparingLemmas.{took_if, spared_if, still_if, ends_if}
use Rattle.tele_lines.proofs.reader.gather.Goals as goal
use Rattle.tele_lines.proofs.reader.gather.Goals.{then-is_some-via-then-is_some, then-is_some-via-else-is_some+then-ended, then-is_some-via-else-is_some+else-ended+then-bytes-gt-UNDECIDED}

-- a newline was found, or the input has ended, or the line is too long
pub returns-then-is_some-clause-ends : goal.returns-then-is_some-clause-ends
returns-then-is_some-clause-ends g c = let here = c.bytes-bytes.ensures.value in
    subst (λ bytes. EndsAt bytes c.loop-bytes.ended c.memchr-found.result) here
    (ends_at c.bytes-bytes.result.now c.loop-bytes.ended c.memchr-found.result
    c.memchr-found.ensures
    (elim c.then-is_some.branch [
      | then-is_some-via-then-is_some w ↦ inl (sym c.is_some.ensures ∙ w.if-is_some.true)
      | then-is_some-via-else-is_some+then-ended w ↦ inr (inl w.if-ended.true)
      | then-is_some-via-else-is_some+else-ended+then-bytes-gt-UNDECIDED w ↦ inr
          (inr w.if-bytes-gt-UNDECIDED.true)
    ]))

-- what holds anyway holds on an error
whatever_err : {A E P : Type 0} (r : Result A E) → P → OnErr r P
whatever_err (Ok a) p = tt
whatever_err (Err e) p = p

-- no newline was found, and the input has not ended
pub returns-in_err-fill-clause-waiting : goal.returns-in_err-fill-clause-waiting
returns-in_err-fill-clause-waiting g c =
    let found = subst (λ bytes. IsUnbroken bytes) c.bytes-bytes.ensures.value
    (unbroken c.bytes-bytes.result.now c.memchr-found.result c.memchr-found.ensures
    (sym c.is_some.ensures ∙ c.if-is_some.false)) in
    whatever_err c.from_residual.result
    (subst IsUnbroken (sym c.in_err-fill.ensures.kept) found, c.if-ended.false)

-- no newline was in the buffer when the source was read
pub loop-bytes-preserved : goal.loop-bytes-preserved
loop-bytes-preserved g c = let before = c.loop-bytes.invariant in let read = c.in_ok-fill.ensures in
    let found = subst (λ bytes. IsUnbroken bytes) c.bytes-bytes.ensures.value
    (unbroken c.bytes-bytes.result.now c.memchr-found.result c.memchr-found.ensures
    (sym c.is_some.ensures ∙ c.if-is_some.false)) in
    let going = still_going c.args.ended.now c.loop-bytes.ended (λ at_end. (before.again at_end).2) c.if-ended.false in
    record {
      kept = search rules;
      counted = omega (arith, before.counted, read.counted);
      end = search rules;
      took = took_if _ _ _ _ _ _ _ before.took read.filled;
      sparing = spared_if _ _ _ _ _ _ _ _ going found read.few before.took read.filled;
      again = λ at_end. absurd (cc (at_end, going));
    }

pub loop-bytes-preserved-then-branch-eq0 : goal.loop-bytes-preserved-then-branch-eq0
loop-bytes-preserved-then-branch-eq0 g c = let before = c.loop-bytes.invariant in
    let read = c.in_ok-fill.ensures in
    let found = subst (λ bytes. IsUnbroken bytes) c.bytes-bytes.ensures.value
    (unbroken c.bytes-bytes.result.now c.memchr-found.result c.memchr-found.ensures
    (sym c.is_some.ensures ∙ c.if-is_some.false)) in
    let going = still_going c.args.ended.now c.loop-bytes.ended (λ at_end. (before.again at_end).2) c.if-ended.false in
    record {
      kept = unread-ends _ _ _ _ _ _ c.if-branch-eq0.true
          (subst (λ e. Keeps (unread_of c.args.buffer.now c.args.ended.now (g.S.Source.left c.args.source.now))
          (unread_of c.loop-bytes.buffer e (g.S.Source.left c.loop-bytes.source))) c.if-ended.false before.kept)
          read.filled;
      counted = omega (arith, before.counted, read.counted);
      end = ends_if _ _ _ _ _ _ _ _ c.if-branch-eq0.true before.end read.filled;
      took = took_if _ _ _ _ _ _ _ before.took read.filled;
      sparing = spared_if _ _ _ _ _ _ _ _ going found read.few before.took read.filled;
      again = λ at_end. absurd (cc (at_end, going));
    }

-- a read that failed took nothing
pub returns-in_err-fill-clause-sparing : goal.returns-in_err-fill-clause-sparing
returns-in_err-fill-clause-sparing g c =
    still_if _ _ _ _ _ _ c.loop-bytes.invariant.took c.in_err-fill.ensures.left c.loop-bytes.invariant.sparing
