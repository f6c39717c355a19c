-- The calls of passes in the order of their numbers. Serves `tele_run::run_on_tree` and
-- `Map::run`.
use Rattle.std.proofs.Common.{◌≡◌, ℕ, zero, suc, ◌+◌, ◌<◌, ◌==◌, true, false, List, [], ◌∷◌, length, map, refl, arith}
use Rattle.std.proofs.lemmas.Bool.Decides.{eqb_tells}
use Rattle.std.specs.List.{range_with_len}
use Rattle.std.proofs.lemmas.Bool.{ne_eqb}
use Rattle.ist_core.specs.LogTerms.{PassCalls}
use Rattle.ist_tree.specs.CallTerms.{calls_from}

-- a test of two numbers that are the same
equal : (i j : ℕ) → i ≡ j → (i == j) ≡ true
equal i j same = grind (arith, eqb_tells)

-- a pass with a lower number is passed over
from_after : (from count : ℕ) (pass : PassCalls) (more : List PassCalls) → pass.number < from
    → calls_from from count (pass ∷ more) ≡ calls_from from count more
from_after from zero pass more lt = refl
from_after from (suc count) pass more lt =
    let other : (pass.number == from) ≡ false = ne_eqb pass.number from (λ e. omega arith) in
    let rest = from_after (from + 1) count pass more (omega arith) in rw (other, rest) refl

-- passes in the order of their numbers have their calls in that order
pub calls_in_order : (from : ℕ) (passes : List PassCalls)
    → map (λ p. p.number) passes ≡ range_with_len from (length passes)
    → calls_from from (length passes) passes ≡ map (λ p. p.calls) passes
calls_in_order from [] e = refl
calls_in_order from (pass ∷ passes) e = let head : pass.number ≡ from = cc in
    let tail : map (λ p. p.number) passes ≡ range_with_len (from + 1) (length passes) = cc in
    let mine = equal pass.number from head in
    let rest = from_after (from + 1) (length passes) pass passes (omega arith) in
    rw (mine, rest, calls_in_order (from + 1) passes tail) refl
