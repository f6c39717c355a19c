-- Longer logs: what happened or was true stays so, and callers are only added. Serves each clause.
use Rattle.std.proofs.Common.{refl, ℕ, ⊎_elim, ◌<◌, ◌∙◌, ◌≡◌}
use Rattle.ist_core.specs.declared.events.Event.{Event}
use Rattle.ist_core.specs.declared.events.Who.{Who}
use Rattle.ist_core.specs.declared.events.Who.TheVariants.{Maker}
use Rattle.ist_core.specs.LogTerms.{Later, whose, no_more, one_more, GoesOn, Happened, Log, one_event, same_log, state, Snapshot}
use Rattle.ist_core.proofs.AllLogLemmas.{callers_step, known_step}
pub use Rattle.ist_core.proofs.PrefixLemmas.{happened_later, ever_later, goes_on_by as goes_on}

-- if only others made the further events, what only one's own events do was done before
pub done_before : (P : Event → Type 0) (who : Who) → ((event : Event) → P event → whose event ≡ who)
    → {earlier log : Log} → Later who earlier log → Happened P log → Happened P earlier
done_before P who own no_more h = h
done_before P who own (one_more event later other) h =
    ⊎_elim (λ now. absurd (other (own event now))) (λ old. done_before P who own later old) h

-- ---- callers

-- a known caller stays known
pub known_later : (first : Snapshot) {earlier log : Log} → GoesOn earlier log → (caller : ℕ)
    → caller < (state first earlier).callers → caller < (state first log).callers
known_later first same_log caller low = low
known_later first (one_event {log = log} event g) caller low =
    known_step first log event caller (known_later first g caller low)

-- if the maker does nothing, no caller is added
pub callers_later : (first : Snapshot) {earlier log : Log} → Later Maker earlier log
    → (state first log).callers ≡ (state first earlier).callers
callers_later first no_more = refl
callers_later first (one_more {log = log} event later other) =
    ⊎_elim (λ more. absurd (other more.0)) (λ same. same) (callers_step first log event)
    ∙ callers_later first later
