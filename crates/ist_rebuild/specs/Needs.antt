-- How many words a caller still needs for a start.
use Rattle.std.specs.Prelude.{ℕ, ◌+◌, ◌≤◌, Option, Some, None}
use Rattle.ist_core.specs.RowLayout.{change_words, rebuild_words}
use Rattle.ist_rows.specs.declared.callers.Caller.{Caller}
use Rattle.ist_rows.specs.Taken.{taken_by}

-- how many words a row of this size takes, if none is held
abbrev pub wanting : Option ℕ → ℕ → ℕ
wanting (Some base) size = 0
wanting None size = size

-- how many words the caller still needs for a start: those of the rebuild's row and of the change,
-- apart from what it holds
abbrev pub needed : Caller → ℕ
needed who = wanting who.rebuild rebuild_words + wanting who.change change_words

-- the caller took no more words than it needs fewer
abbrev pub TakesNeeded : Caller → Caller → Type 0
TakesNeeded old new =
    taken_by old.number new.token.view.log + needed new
    ≤ taken_by old.number old.token.view.log + needed old
