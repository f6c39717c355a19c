use Rattle.std.proofs.Common.{◌<◌, ◌+◌, ℕ, get_or}
use Rattle.ist_rest.specs.WordRows.{row_keys}
use Rattle.tele_audit.proofs.auditing.do_rise.Given as goal

abbrev pub invariant-loop-i : goal.invariant-loop-i
invariant-loop-i g l = let keys = row_keys (g.W.WordList.list l.words) l.base in
    (k : ℕ) → k + 1 < l.i → get_or keys k 0 < get_or keys (k + 1) 0
