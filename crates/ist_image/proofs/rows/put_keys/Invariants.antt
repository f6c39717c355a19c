use Rattle.std.proofs.Common.{◌≡◌, ◌+◌, ◌-◌}
use Rattle.std.proofs.lemmas.List.Edits.{sets}
use Rattle.ist_core.specs.WordTerms.{part_start}
use Rattle.ist_image.specs.Placing.{keys_after}
use Rattle.ist_image.proofs.rows.put_keys.Given as goal

-- where the part before the next begins, and that the first keys from the next part on are still to
-- be written
abbrev pub invariant-loop-j : goal.invariant-loop-j
invariant-loop-j l = record {
  start : l.start ≡ part_start l.cut.count (l.j - 1);
  left : sets l.words (l.place + (l.j - 1)) (keys_after l.pairs l.j)
      ≡ sets l.initial.words l.place (keys_after l.pairs 1);
}
