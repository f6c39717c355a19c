-- The laws over lawful logs that are about single rows. `src/laws.rt` lists them.
use Rattle.std.specs.Prelude.{◌≡◌, ℕ, ◌+◌, ◌≤◌, ◌≢◌, List, length, Some, None}
use Rattle.ist_core.specs.declared.pairs.Pair.{Pair}
use Rattle.ist_core.specs.declared.lists.HeldRow.{HeldRow}
use Rattle.ist_core.specs.declared.states.InnerRow.{InnerRow}
use Rattle.ist_core.specs.declared.states.RebuildRow.{RebuildRow}
use Rattle.ist_core.specs.Arithmetic.{degree}
use Rattle.ist_core.specs.RowLayout.{place_limit}
use Rattle.ist_core.specs.Elements.{Among}
use Rattle.ist_core.specs.Pieces.{Piece, Inner, Rebuild, size_of}
use Rattle.ist_core.specs.Logs.{Log, GoesOn, Happened, Loses}
use Rattle.ist_core.specs.Rebuilding.{IsFinishedWith}
use Rattle.ist_core.specs.Enabled.{caller_limit}
use Rattle.ist_core.specs.Lawful.{Lawful, state_of}
use Rattle.ist_core.specs.Rows.{IsSetAside, Apart, IsWithin}
use Rattle.ist_core.specs.Growing.{AllGrow}
use Rattle.ist_core.specs.Limits.{decided_yes_in}

-- ---- where rows lie

-- the words of each published row were set aside for it
abbrev pub PublishedRowsAreSetAside : Type 0
PublishedRowsAreSetAside =
    (pairs : List Pair) (words : ℕ) (log : Log) → Lawful pairs words log → (base : ℕ) (p : Piece)
    → (state_of pairs words log).pieces base ≡ Some p → IsSetAside pairs words log base (size_of p)

-- the words of each held row were set aside for it
abbrev pub HeldRowsAreSetAside : Type 0
HeldRowsAreSetAside =
    (pairs : List Pair) (words : ℕ) (log : Log) → Lawful pairs words log → (h : HeldRow)
    → Among h (state_of pairs words log).held → IsSetAside pairs words log h.base h.size

-- what was set aside has at least one word, and lies after the fixed words and below the first free
-- word
abbrev pub RowsLieWithin : Type 0
RowsLieWithin =
    (pairs : List Pair) (words : ℕ) (log : Log) → Lawful pairs words log → (base size : ℕ)
    → IsSetAside pairs words log base size → IsWithin (state_of pairs words log) base size

-- two rows that were set aside share no word
abbrev pub RowsLieApart : Type 0
RowsLieApart =
    (pairs : List Pair) (words : ℕ) (log : Log) → Lawful pairs words log
    → (base size other more : ℕ)
    → IsSetAside pairs words log base size → IsSetAside pairs words log other more → base ≢ other
    → Apart base size other more

-- a row has one size
abbrev pub RowsHaveOneSize : Type 0
RowsHaveOneSize =
    (pairs : List Pair) (words : ℕ) (log : Log) → Lawful pairs words log → (base size more : ℕ)
    → IsSetAside pairs words log base size → IsSetAside pairs words log base more → size ≡ more

-- ---- what becomes of a row

-- no row is published at the base of a held row
abbrev pub HeldRowsAreUnpublished : Type 0
HeldRowsAreUnpublished =
    (pairs : List Pair) (words : ℕ) (log : Log) → Lawful pairs words log → (h : HeldRow)
    → Among h (state_of pairs words log).held → (state_of pairs words log).pieces h.base ≡ None

-- no row is held twice
abbrev pub RowsAreHeldOnce : Type 0
RowsAreHeldOnce =
    (pairs : List Pair) (words : ℕ) (log : Log) → Lawful pairs words log → (g h : HeldRow)
    → Among g (state_of pairs words log).held → Among h (state_of pairs words log).held
    → g.base ≡ h.base → g ≡ h

-- no row is published at the base of a lost row
abbrev pub LostRowsAreUnpublished : Type 0
LostRowsAreUnpublished =
    (pairs : List Pair) (words : ℕ) (log : Log) → Lawful pairs words log → (base : ℕ)
    → Happened (Loses base) log → (state_of pairs words log).pieces base ≡ None

-- a row that was lost isn't held
abbrev pub LostRowsAreFree : Type 0
LostRowsAreFree =
    (pairs : List Pair) (words : ℕ) (log : Log) → Lawful pairs words log → (h : HeldRow)
    → Happened (Loses h.base) log → ¬ (Among h (state_of pairs words log).held)

-- a published row stays, and only its status, count, slots, decision, root and draw change, as
-- `Growing.antt` says
abbrev pub RowsGrow : Type 0
RowsGrow =
    (pairs : List Pair) (words : ℕ) (earlier log : Log) → Lawful pairs words log
    → GoesOn earlier log
    → AllGrow (state_of pairs words earlier).pieces (state_of pairs words log).pieces

-- ---- counts

-- a row counts at most as many changes as were decided yes
abbrev pub CountsAreFew : Type 0
CountsAreFew =
    (pairs : List Pair) (words : ℕ) (log : Log) → Lawful pairs words log → (node : ℕ) (row : InnerRow)
    → (state_of pairs words log).pieces node ≡ Some (Inner row) → row.count ≤ length (decided_yes_in log)

-- a row counts at most as many changes as a table can have places, so adding 1 to a count never
-- wraps
abbrev pub CountsAreLow : Type 0
CountsAreLow =
    (pairs : List Pair) (words : ℕ) (log : Log) → Lawful pairs words log → (node : ℕ) (row : InnerRow)
    → (state_of pairs words log).pieces node ≡ Some (Inner row) → row.count ≤ place_limit

-- if the target of a rebuild is finished with k keys, its draw word is at most the degree for k
-- keys plus the number of callers
abbrev pub DrawsAreFew : Type 0
DrawsAreFew =
    (pairs : List Pair) (words : ℕ) (log : Log) → Lawful pairs words log → (rebuild k : ℕ) (row : RebuildRow)
    → (state_of pairs words log).pieces rebuild ≡ Some (Rebuild row)
    → IsFinishedWith (state_of pairs words log) row.target k
    → row.draw ≤ degree k + (state_of pairs words log).callers

-- there are no more callers than the limit
abbrev pub CallersAreFew : Type 0
CallersAreFew =
    (pairs : List Pair) (words : ℕ) (log : Log) → Lawful pairs words log → (state_of pairs words log).callers ≤ caller_limit
