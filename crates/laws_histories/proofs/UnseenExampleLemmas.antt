-- Yes isn't lawful if nobody saw the node open. Serves `examples.a_finish_too_late_is_refused`.
use Rattle.std.proofs.Common.{◌≡◌, ◌==◌, Bool, true, false, [], ◌∷◌, ◌||◌, inl, inr, refl, subst, sym}
use Rattle.std.proofs.lemmas.Bool.{true≢false}
use Rattle.ist_core.specs.declared.events.Event.{Event}
use Rattle.ist_core.specs.declared.events.Event.TheVariants.{Okay}
use Rattle.ist_core.specs.LogTerms.{Log, Happened, Okays, Lawful}
use Rattle.laws_histories.specs.ExampleRebuilds.{three_pairs, left_finish_installed, left_too_late}

-- a test of events: an Okay of the change at 147
abbrev sees : Event → Bool
sees (Okay caller change) = change == 147
sees _ = false

-- a test of logs: has one such an Okay
abbrev seen : Log → Bool
seen [] = false
seen (event ∷ log) = sees event || seen log

-- the test finds such an Okay
okay_sees : (event : Event) → Okays 147 event → sees event ≡ true
okay_sees (Okay caller change) h = subst (λ n. (n == 147) ≡ true) (sym h) refl
okay_sees _ h = absurd h

-- a second test may be anything
or_true : (a b : Bool) → b ≡ true → (a || b) ≡ true
or_true true b h = refl
or_true false b h = h

-- one of two tests holds if the first does
true_or : (a b : Bool) → a ≡ true → (a || b) ≡ true
true_or a b h = subst (λ x. (x || b) ≡ true) (sym h) refl

-- the test finds one anywhere in the log
okay_seen : (log : Log) → Happened (Okays 147) log → seen log ≡ true
okay_seen [] k = absurd k
okay_seen (event ∷ log) (inl k) = true_or (sees event) (seen log) (okay_sees event k)
okay_seen (event ∷ log) (inr k) = or_true (sees event) (seen log) (okay_seen log k)

-- this log has no such Okay
none_seen : seen left_finish_installed ≡ false
none_seen = refl

-- so yes isn't lawful
pub left_too_late_refused : ¬ (Lawful three_pairs 200 left_too_late)
left_too_late_refused lawful =
    let found = okay_seen left_finish_installed lawful.enabled.1.outcome in
    true≢false (subst (λ b. b ≡ false) found none_seen)
