-- Which Counts a caller has made in a log that goes on. Serves the walk and its Counts.
use Rattle.std.proofs.Common.{◌≡◌, ◌⊎◌, ℕ, List, ◌∷◌, refl, inl, inr, arith}
use Rattle.ist_core.specs.declared.events.Event.{Event}
use Rattle.ist_core.specs.declared.events.Event.TheVariants.{Count}
use Rattle.ist_core.specs.declared.pairs.Pair.{Pair}
use Rattle.ist_core.specs.declared.events.Who.TheVariants.{Caller as CallerOf}
use Rattle.ist_core.specs.LogTerms.{GoesOnBy, no_more, one_more, Later, LaterBy, Log, Counts, GoesOn, same_log, one_event}
use Rattle.ist_rule.proofs.LaterLemmas.{goes_on_more, goes_on_length}
use Rattle.laws_calls.specs.Counting.{CountsFrom}
use Rattle.laws_calls.proofs.AcceptedLemmas.{event_by}
use Rattle.ist_updates.specs.Counting.{CameToLimit, CountedNowhere, WasCounted}
use Rattle.ist_updates.specs.Trying.{Tries}
use Rattle.laws_stability.proofs.CountEventLemmas.{counts_own}

-- the event is no Count of the caller
abbrev pub CountsNone : ℕ → Event → Type 0
CountsNone caller event = (node : ℕ) → ¬ (Counts caller node event)

-- a try counts nothing
tries_none : (caller : ℕ) (event : Event) → Tries event → CountsNone caller event
tries_none caller (Count c n) t node h = t
tries_none caller _ t node h = h

-- what others do is no Count of the caller
pub later_none : {caller : ℕ} {a b : Log} → Later (CallerOf caller) a b
    → GoesOnBy (CountsNone caller) a b
later_none no_more = no_more
later_none {caller = caller} (one_more event l other) =
    one_more event (later_none l) (λ node h. other (counts_own caller node event h))

-- and no try is one
pub tried_none : {caller : ℕ} {a b : Log} → LaterBy (CallerOf caller) Tries a b
    → GoesOnBy (CountsNone caller) a b
tried_none no_more = no_more
tried_none {caller = caller} (one_more event l (inl other)) =
    one_more event (tried_none l) (λ node h. other (counts_own caller node event h))
tried_none {caller = caller} (one_more event l (inr tries)) =
    one_more event (tried_none l) (tries_none caller event tries)

-- ---- Counts from an index on

-- if the caller counted nothing more, its counts from an index on are unchanged
pub from_none : (caller i : ℕ) (rows : List ℕ) (earlier a b : Log)
    → GoesOnBy (CountsFrom caller rows i) earlier a → GoesOnBy (CountsNone caller) a b
    → GoesOnBy (CountsFrom caller rows i) earlier b
from_none caller i rows earlier a _ f no_more = f
from_none caller i rows earlier a _ f (one_more {log = log} event l none) =
    one_more event (from_none caller i rows earlier a log f l) (λ node h. absurd (none node h))

-- a caller none of whose events is a Count counted nowhere
pub counted_nowhere : (caller : ℕ) (earlier log : Log) → GoesOnBy (CountsNone caller) earlier log
    → CountedNowhere earlier log caller
counted_nowhere caller earlier log l node c = grind (arith, event_by)

-- ---- one Count

-- a Count of the longer log was in the earlier one, if the caller counted nothing since
count_stood : {caller node : ℕ} {at a b : Log} → GoesOnBy (CountsNone caller) a b
    → GoesOn (Count caller node ∷ at) b → GoesOn (Count caller node ∷ at) a
count_stood no_more g = g
count_stood {node = node} (one_more _ l none) same_log = absurd (none node (refl, refl))
count_stood (one_more event l none) (one_event _ sooner) = count_stood l sooner

-- an event of a log is its last or precedes it
pub last_or_sooner : (event last : Event) (a b : Log) → GoesOn (event ∷ a) (last ∷ b)
    → ((event ≡ last) × (a ≡ b)) ⊎ GoesOn (event ∷ a) b
last_or_sooner event _ a _ same_log = inl (refl, refl)
last_or_sooner event _ a _ (one_event _ sooner) = inr sooner

module _ (pairs : List Pair) (words : ℕ) (earlier : Log) (caller : ℕ) where
  -- a row that reached its limit in a log reached it in a longer log too
  pub came_on : (a b : Log) → GoesOn a b → (node : ℕ)
      → CameToLimit pairs words earlier a caller node
      → CameToLimit pairs words earlier b caller node
  came_on a b g node c = grind (arith, goes_on_more)

  -- and reached it in the earlier log, if the caller counted nothing since
  pub came_back : (a b : Log) → GoesOnBy (CountsNone caller) a b → (node : ℕ)
      → CameToLimit pairs words earlier b caller node
      → CameToLimit pairs words earlier a caller node
  came_back a b l node c = grind (arith, count_stood)

  -- no row reached its limit, if the caller counted nothing since the earlier log
  pub came_none : (log : Log) → GoesOnBy (CountsNone caller) earlier log → (node : ℕ)
      → ¬ (CameToLimit pairs words earlier log caller node)
  came_none log l node c = grind (arith, goes_on_length, count_stood)

-- what was counted was so in a longer log
pub counted_on : (earlier a b : Log) (caller node : ℕ) → GoesOn a b
    → WasCounted earlier a caller node → WasCounted earlier b caller node
counted_on earlier a b caller node g c = grind (arith, goes_on_more)
