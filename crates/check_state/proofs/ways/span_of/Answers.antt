use Rattle.std.proofs.Common.{◌≡◌, ◌-◌, ◌+◌, ◌^◌, arith}
use Rattle.check_state.proofs.WayTableLemmas.{span_is}
use Rattle.check_state.proofs.ways.span_of.Goals as goal
use Rattle.check_state.proofs.ways.span_of.Goals.{then-index-eq0, else-index-eq0}

pub returns-then-index-count-2 : goal.returns-then-index-count-2
returns-then-index-count-2 c = record {
  exact = λ rise. span_is c.args.keys.now rise c.args.index c.if-index-eq0.low _ (omega arith)
      (λ some. elim c.if-index-eq0.branch [
        | then-index-eq0 w ↦ let none = w.if-index-eq0.true in absurd (omega arith)
        | else-index-eq0 w ↦ w.low-is
      ])
      (λ none. elim c.if-index-eq0.branch [
        | then-index-eq0 w ↦ w.low-is
        | else-index-eq0 w ↦ let some = w.if-index-eq0.false in absurd (omega arith)
      ])
      (λ less. let end = c.if-index-count-2.true in absurd (omega arith)) (λ end. lit);
}
  where
    lit : (2 ^ 64 - 1) + 1 ≡ 2 ^ 64
    lit = omega arith

pub returns : goal.returns
returns c = record {
  exact = λ rise. span_is c.args.keys.now rise c.args.index c.if-index-eq0.low _ (omega arith)
      (λ some. elim c.if-index-eq0.branch [
        | then-index-eq0 w ↦ let none = w.if-index-eq0.true in absurd (omega arith)
        | else-index-eq0 w ↦ w.low-is
      ])
      (λ none. elim c.if-index-eq0.branch [
        | then-index-eq0 w ↦ w.low-is
        | else-index-eq0 w ↦ let some = w.if-index-eq0.false in absurd (omega arith)
      ])
      (λ less. let some = c.if-next-eq0.false in omega arith)
      (λ end. let less = c.if-index-count-2.false in absurd (omega arith));
}
