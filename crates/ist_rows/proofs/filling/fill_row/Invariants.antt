use Rattle.std.proofs.Common.{◌≡◌, take}
use Rattle.ist_rows.specs.RowTerms.{IsCaller, filled_with}
use Rattle.ist_rows.proofs.filling.fill_row.Given as goal

-- the words so far were stored, and nothing else was done
abbrev pub invariant-loop-word : goal.invariant-loop-word
invariant-loop-word l =
    (l.at ≡ l.word-index) × (l.who ≡ filled_with l.initial.who l.base (take l.word-index l.words))
    × IsCaller l.who
