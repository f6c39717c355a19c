-- What a caller holds after its own events. Serves `laws.events_move_rows` and
-- `laws.callers_go_on`.
use Rattle.std.proofs.Common.{◌≡◌, ℕ, ◌==◌, Bool, true, false, List, [], ◌∷◌, filter, refl, ap, ◌∙◌, inl, inr, arith}
use Rattle.std.proofs.lemmas.Bool.Decides.{eqb_tells}
use Rattle.std.proofs.lemmas.List.Elements.{filter-append}
use Rattle.ist_core.specs.declared.events.Event.{Event}
use Rattle.ist_core.specs.declared.events.Event.TheVariants.{Reserve, Install, Resolve, Root, Place, Lose}
use Rattle.ist_core.specs.declared.lists.HeldRow.{HeldRow}
use Rattle.ist_core.specs.declared.pairs.Pair.{Pair}
use Rattle.ist_core.specs.declared.events.Who.TheVariants.{Caller as CallerOf}
use Rattle.ist_core.specs.LogTerms.{after, no_more, one_more, whose, LaterBy, EachEnabled, Lawful, state_of, Log, GoesOn, Snapshot, without}
use Rattle.ist_core.specs.WordTerms.{as_change, start}
use Rattle.ist_core.proofs.AllWordLemmas.{among-filter, among_filter}
use Rattle.ist_core.proofs.AllLogLemmas.{grow_between, words_same, held-resolved}
use Rattle.ist_rule.proofs.EventLemmas.{next_between}
use Rattle.ist_rows.specs.RowTerms.{Spares, held_by, KeepsRows, held_after, GivesUp}
use Rattle.ist_rows.proofs.ReserveLemmas.{ComesAfter, builds_on}
use Rattle.ist_rows.proofs.CallerLemmas.{IsCallerIn}
use Rattle.ist_rows.proofs.ShortLemmas.{held_by_step, filter_here}
use Rattle.ist_rows.proofs.CallerGoingLemmas.{base_same}

-- ---- lists

-- two filters, in either order
pub filter_swap : {A : Type 0} (p q : A → Bool) (xs : List A)
    → filter p (filter q xs) ≡ filter q (filter p xs)
filter_swap p q [] = refl
filter_swap p q (x ∷ xs) = at (filter_swap p q xs) (p x) refl (q x) refl
  where
    at : filter p (filter q xs) ≡ filter q (filter p xs) → (a : Bool) → p x ≡ a → (b : Bool)
        → q x ≡ b → filter p (filter q (x ∷ xs)) ≡ filter q (filter p (x ∷ xs))
    at rest true e true f = grind (arith, filter_here)
    at rest true e false f = grind (arith, filter_here)
    at rest false e true f = grind (arith, filter_here)
    at rest false e false f = grind (arith, filter_here)

-- ---- one event

-- an event that keeps rows leaves all that is held
held_kept : (t : Snapshot) (event : Event) → KeepsRows event → (after t event).held ≡ t.held
held_kept t (Resolve caller change) is = held-resolved t (as_change (t.pieces change))
held_kept t (Reserve caller base size) is = absurd is
held_kept t (Install caller change rows) is = absurd is
held_kept t (Root caller rebuild word rows) is = absurd is
held_kept t (Place caller rebuild i word rows) is = absurd is
held_kept t (Lose caller bases) is = absurd is
held_kept t _ is = refl

-- an event of a caller changes what it holds just so
pub held_by_own : (pairs : List Pair) (words : ℕ) (log : Log) (number : ℕ) (event : Event)
    → whose event ≡ CallerOf number → held_by (state_of pairs words (event ∷ log)) number
    ≡ held_after event (held_by (state_of pairs words log) number)
held_by_own pairs words log number event mine =
    grind (arith, filter_swap, eqb_tells, filter-append, held-resolved)

-- an event that gives rows up takes just these away
pub held_after-given : (event : Event) (bases : List ℕ) (held : List HeldRow)
    → GivesUp event bases → held_after event held ≡ without bases held
held_after-given (Install caller change rows) bases held is = ap (λ b. without b held) is
held_after-given (Root caller rebuild word rows) bases held is = ap (λ b. without b held) is
held_after-given (Place caller rebuild i word rows) bases held is = ap (λ b. without b held) is
held_after-given (Lose caller lost) bases held is = ap (λ b. without b held) is
held_after-given _ bases held is = absurd is

-- ---- many events

-- what a caller holds stays, if its own events keep rows
pub held_by_went : (pairs : List Pair) (words : ℕ) (number : ℕ) (old log : Log)
    → EachEnabled (start pairs words) log → LaterBy (CallerOf number) KeepsRows old log
    → held_by (state_of pairs words log) number ≡ held_by (state_of pairs words old) number
held_by_went pairs words number old _ enabled no_more = refl
held_by_went pairs words number old _ enabled (one_more {log = log} event l (inl other)) =
    held_by_step pairs words log event number enabled other
    ∙ held_by_went pairs words number old log enabled.0 l
held_by_went pairs words number old _ enabled (one_more {log = log} event l (inr is)) =
    ap (filter (λ (h : HeldRow). h.caller == number))
    (held_kept (state_of pairs words log) event is)
    ∙ held_by_went pairs words number old log enabled.0 l

-- a later state comes after an earlier one
pub after_between : (pairs : List Pair) (words : ℕ) (old log : Log) → Lawful pairs words log
    → GoesOn old log → ComesAfter (state_of pairs words old) (state_of pairs words log)
after_between pairs words old log lawful g = grind (arith, words_same, next_between, grow_between)

-- if a caller holds the same rows, its rows are what they were
pub caller_between : (pairs : List Pair) (words : ℕ) (old log : Log) (number : ℕ) (own : Spares)
    → Lawful pairs words log → GoesOn old log
    → held_by (state_of pairs words log) number ≡ held_by (state_of pairs words old) number
    → IsCallerIn (state_of pairs words old) number own
    → IsCallerIn (state_of pairs words log) number own
caller_between pairs words old log number own lawful g same c =
    grind (arith, among-filter, among_filter, base_same, builds_on, after_between)
