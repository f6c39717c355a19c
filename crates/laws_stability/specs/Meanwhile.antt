-- What others may do between two states, a first and a second one, so that an event is no longer
-- enabled though its word stays.
use Rattle.std.specs.Prelude.{Some, ℕ, ◌≡◌, ◌≢◌}
use Rattle.ist_core.specs.declared.states.ChangeRow.{ChangeRow}
use Rattle.ist_core.specs.declared.states.InnerRow.{InnerRow}
use Rattle.ist_core.specs.Deciding.{IsPending}
use Rattle.ist_core.specs.Pieces.{Change, Inner}
use Rattle.ist_core.specs.Rebuilding.{IsUpdate}
use Rattle.ist_core.specs.Snapshots.{Snapshot}
use Rattle.ist_core.specs.Statuses.{decided_no, decided_yes, marked_word, undecided}

-- no change of the caller on the node that was pending at the first state is decided no at the
-- second
abbrev pub NoneRefused : Snapshot → Snapshot → ℕ → ℕ → Type 0
NoneRefused t u caller node =
    (base : ℕ) (old new : ChangeRow) → IsPending t base old → old.owner ≡ caller → old.node ≡ node
    → u.pieces base ≡ Some (Change new) → new.decision ≢ decided_no

-- no put or remove of the caller that was pending at the first state is decided yes at the second
abbrev pub NoneAccepted : Snapshot → Snapshot → ℕ → Type 0
NoneAccepted t u caller =
    (base : ℕ) (old new : ChangeRow) → IsPending t base old → old.owner ≡ caller → IsUpdate old.kind
    → u.pieces base ≡ Some (Change new) → new.decision ≢ decided_yes

-- the change at the base, if there is one, is undecided
abbrev pub IsStillUndecided : Snapshot → ℕ → Type 0
IsStillUndecided u base =
    (change : ChangeRow) → u.pieces base ≡ Some (Change change) → change.decision ≡ undecided

-- the inner row at the base, if there is one, is marked, and not finished
abbrev pub IsMarked : Snapshot → ℕ → Type 0
IsMarked u node = (row : InnerRow) → u.pieces node ≡ Some (Inner row) → row.status ≡ marked_word
