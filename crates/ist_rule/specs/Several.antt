-- A step that is several events of its seat's caller: the log after it, and what the seat must show
-- for it.
use Rattle.std.specs.Prelude.{◌≡◌, ◌≢◌, ℕ, ◌≤◌, List, [], ◌∷◌, length, Some}
use Rattle.ist_core.specs.declared.pairs.Pair.{Pair}
use Rattle.ist_core.specs.declared.events.Event.{Event}
use Rattle.ist_core.specs.Elements.{Each}
use Rattle.ist_core.specs.Logs.{Log}
use Rattle.ist_core.specs.StartLayout.{start}
use Rattle.ist_core.specs.Lawful.{state_of}
use Rattle.ist_core.specs.Enabled.{Enabled}
use Rattle.ist_core.specs.Writing.{touch_of}
use Rattle.ist_rule.specs.declared.view.View.{View}
use Rattle.ist_core.specs.Authors.{Later}
use Rattle.ist_core.specs.Shown.{IsShown}
use Rattle.ist_rule.specs.Rule.{IsSound}
use Rattle.ist_rule.specs.Learning.{made_after, Looked}
use Rattle.ist_rule.specs.Conditions.{CanMake, IsKnown, MayCome}

-- ---- what the step lets its seat know

-- the log with these events added one after another, the head of the list first
abbrev pub with_events : List Event → Log → Log
with_events [] log = log
with_events (event ∷ more) log = with_events more (event ∷ log)

-- how many callers the maker has entered after these events
abbrev pub made_after_all : List Event → ℕ → ℕ
made_after_all [] made = made
made_after_all (event ∷ more) made = made_after_all more (made_after event made)

-- the view after these events of its own
abbrev pub logging_all : View → Log → List Event → View
logging_all v before events =
    record v { log = with_events events before; made = made_after_all events v.made }

-- the events are the last of the log that the seat has seen, with no event of another between them,
-- and all earlier ones are seen
pub record LoggedAll (v : View) (events : List Event) (w : View) : Type 0 where
  pub before : Log
  pub later : Later v.who v.log before
  pub view : w ≡ logging_all v before events
  pub sound : IsSound w

-- an exchange that found `old` is all the events, and one that found another word is a load
abbrev pub ExchangedAll : View → List Event → ℕ → ℕ → ℕ → View → Type 0
ExchangedAll v events place old found w = (found ≡ old → LoggedAll v events w)
    × (found ≢ old → Looked v place found w)

-- ---- what the seat must show for it

-- the events may come one after another at one step on the place: each is enabled after those before
-- it, the first finds `found`, each further one finds what the one before it left, the last leaves
-- `left`
abbrev pub ComeAt : List Pair → ℕ → Log → List Event → ℕ → ℕ → ℕ → Type 0
ComeAt pairs words log [] place found left = found ≡ left
ComeAt pairs words log (event ∷ more) place found left =
    Enabled (start pairs words) log event
    × (mid : ℕ)
    × (touch_of (state_of pairs words log) event
    ≡ Some record { place = place; found = found; left = mid })
    × ComeAt pairs words (event ∷ log) more place mid left

-- an exchange of `old` for `new` is these events: any seat of their caller may make each, and after
-- each log that may come and has `old` there, they may come one after another
-- Who meets it: `ist_rows`, of the Reserves of a whole build, by the building list that the caller is in
pub record CanExchangeAll (v : View) (place old new : ℕ) (events : List Event) : Type 0 where
  pub some : 1 ≤ length events
  pub make : Each (λ event. (w : View) → w.who ≡ v.who → CanMake w event) events
  pub known : IsKnown v place
  pub comes : (log : Log) → MayCome v log → IsShown (state_of v.start v.words log) place old
      → ComeAt v.start v.words log events place old new
