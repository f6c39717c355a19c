use Rattle.std.proofs.Common.{◌≡◌, ◌+◌, ◌*◌, length}
use Rattle.std.proofs.lemmas.List.Edits.{sets}
use Rattle.ist_core.specs.WordTerms.{part_start}
use Rattle.ist_image.specs.Placing.{part_base, slot_base, slots_after, rows_after, row_words}
use Rattle.ist_image.proofs.laying.+laying.Given as goal

abbrev pub decreases-put_parts : goal.decreases-put_parts
decreases-put_parts l = 2 * length l.pairs.now

abbrev pub decreases-put_tree : goal.decreases-put_tree
decreases-put_tree l = 2 * length l.pairs.now + 1

-- where the next part and its tree begin, and that the slots and the parts from it on are still to
-- be written
abbrev pub invariant-put_parts-loop-j : goal.invariant-put_parts-loop-j
invariant-put_parts-loop-j l = record {
  place : l.at ≡ part_base l.base (length l.pairs) l.j;
  start : l.start ≡ part_start (length l.pairs) l.j;
  left : sets (sets l.words (l.base + 3 + l.cut.children + l.j) (slots_after l.base l.pairs l.j)) l.at
      (row_words (rows_after l.base l.pairs l.j))
      ≡ sets (sets l.initial.words (slot_base l.base (length l.pairs))
      (slots_after l.base l.pairs 0)) (part_base l.base (length l.pairs) 0)
      (row_words (rows_after l.base l.pairs 0));
}
