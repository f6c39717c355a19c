-- Which event a caller may come to make: what it knows of its own log is enough, whatever others do
-- meanwhile. `src/laws.rt` lists the clauses.
use Rattle.std.specs.Prelude.{◌≡◌, ◌≢◌, ℕ, ◌+◌, ◌<◌, Some}
use Rattle.ist_core.specs.declared.events.Event.{Event}
use Rattle.ist_core.specs.declared.events.Event.TheVariants.{Enter, Okay, Count, Pass, Draw, Lose}
use Rattle.ist_core.specs.declared.states.InnerRow.{InnerRow}
use Rattle.ist_core.specs.RowLayout.{inner_status_offset, inner_count_offset, rebuild_draw_offset}
use Rattle.ist_core.specs.Statuses.{open_word, marked_word, finished_word}
use Rattle.ist_core.specs.Pieces.{Piece, Inner, size_of}
use Rattle.ist_core.specs.StartLayout.{start}
use Rattle.ist_core.specs.Logs.{Log}
use Rattle.ist_core.specs.Lawful.{state_of}
use Rattle.ist_core.specs.Enabled.{Enabled}
use Rattle.ist_rule.specs.declared.view.View.{View}
use Rattle.ist_core.specs.declared.events.Who.TheVariants.{Caller}
use Rattle.ist_core.specs.Shown.{IsShown}
use Rattle.ist_rule.specs.Rule.{IsSound}
use Rattle.ist_rule.specs.Learning.{now}
use Rattle.ist_rule.specs.Conditions.{MayCome, CanMake, ComesAt, IsKnown, IsResolved, CanExchange, CanAdd}

-- ---- exchanges

-- the step of the event exchanges one word for another: an Enter, a Count and a Draw add to what
-- they find, an Okay and a Pass load, and a Lose touches no word
abbrev pub IsExchange : Event → Type 0
IsExchange (Enter caller) = ⊥
IsExchange (Okay caller change) = ⊥
IsExchange (Count caller node) = ⊥
IsExchange (Pass caller node i word) = ⊥
IsExchange (Draw caller rebuild part) = ⊥
IsExchange (Lose caller bases) = ⊥
IsExchange _ = Unit {0}

-- an exchange may be an event that is enabled in the caller's log and touches the place there
abbrev pub EnabledEventsCome : Type 0
EnabledEventsCome =
    (v : View) → IsSound v → (event : Event) → IsExchange event → CanMake v event
    → (place old new : ℕ) → ComesAt v v.log event place old new
    → CanExchange v place old new event

-- ---- words that are gone

-- the word is gone from the place for good: after no log that may come is it there
abbrev pub IsGone : View → ℕ → ℕ → Type 0
IsGone v place old =
    (log : Log) → MayCome v log → ¬ (IsShown (state_of v.start v.words log) place old)

-- an exchange may be any event of the caller's own if the word that it must find is gone
abbrev pub GoneWordsAreMissed : Type 0
GoneWordsAreMissed =
    (v : View) (event : Event) → CanMake v event → (place old new : ℕ) → IsKnown v place
    → IsGone v place old → CanExchange v place old new event

-- the words of a published row are known
abbrev pub RowsAreKnown : Type 0
RowsAreKnown =
    (v : View) → IsSound v → (base : ℕ) (p : Piece) → (now v).pieces base ≡ Some p → (k : ℕ)
    → k < size_of p → IsKnown v (base + k)

-- a node that isn't open is never open again
abbrev pub OpenIsGone : Type 0
OpenIsGone =
    (v : View) → IsSound v → (node : ℕ) (row : InnerRow) → (now v).pieces node ≡ Some (Inner row)
    → row.status ≢ open_word → IsGone v (node + inner_status_offset) open_word

-- a finished node is never marked again
abbrev pub MarkIsGone : Type 0
MarkIsGone =
    (v : View) → IsSound v → (node k : ℕ) (row : InnerRow) → (now v).pieces node ≡ Some (Inner row)
    → row.status ≡ finished_word k → IsGone v (node + inner_status_offset) marked_word

-- ---- adds

-- an add to a count may be a Count that is enabled in the caller's log, if all changes of the
-- caller are resolved there
abbrev pub CountsCome : Type 0
CountsCome =
    (v : View) → IsSound v → (number node : ℕ) → v.who ≡ Caller number → IsResolved v number
    → Enabled (start v.start v.words) v.log (Count number node)
    → CanAdd v (node + inner_count_offset) (λ found. Count number node)

-- an add to a draw word may be the Draw of the part that it finds, if a Draw is enabled in the
-- caller's log
abbrev pub DrawsCome : Type 0
DrawsCome =
    (v : View) → IsSound v → (number rebuild part : ℕ) → v.who ≡ Caller number
    → Enabled (start v.start v.words) v.log (Draw number rebuild part)
    → CanAdd v (rebuild + rebuild_draw_offset) (λ found. Draw number rebuild found)
