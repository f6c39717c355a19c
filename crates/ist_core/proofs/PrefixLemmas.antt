-- Prefixes of logs: a longer log, by any events or by certain ones, and what stays true of it. The
-- moments of a log are its prefixes. Serves each law about longer logs.
use Rattle.std.proofs.Common.{[], inl, inr, length, arith, ◌∷◌, ◌++◌, ◌≤◌}
use Rattle.ist_core.specs.Types.{Event}
use Rattle.ist_core.specs.LogTerms.{GoesOnBy, no_more, one_more, Ever, GoesOn, Happened, Log, one_event, same_log, state, Snapshot}

-- ---- longer logs

-- a prefix of a prefix is a prefix
pub goes_on_more : {a b c : Log} → GoesOn a b → GoesOn b c → GoesOn a c
goes_on_more p same_log = p
goes_on_more p (one_event event q) = one_event event (goes_on_more p q)

-- a prefix is no longer than its log
pub goes_on_length : {a b : Log} → GoesOn a b → length a ≤ length b
goes_on_length same_log = omega arith
goes_on_length (one_event event p) = let le = goes_on_length p in omega arith

-- a log that goes on by certain events goes on
pub goes_on_by : {P : Event → Type 0} {a b : Log} → GoesOnBy P a b → GoesOn a b
goes_on_by no_more = same_log
goes_on_by (one_more event p is) = one_event event (goes_on_by p)

-- a log is a prefix of itself with more events
pub goes_on-append : (later earlier : Log) → GoesOn earlier (later ++ earlier)
goes_on-append [] earlier = same_log
goes_on-append (event ∷ later) earlier = one_event event (goes_on-append later earlier)

-- ---- what stays true of longer logs

-- what happened in a log happened in each longer log
pub happened_later : (P : Event → Type 0) {earlier log : Log} → GoesOn earlier log
    → Happened P earlier → Happened P log
happened_later P same_log h = h
happened_later P (one_event event g) h = inr (happened_later P g h)

-- what was true at some moment of a log is so of each longer log
pub ever_later : (first : Snapshot) (P : Snapshot → Type 0) {earlier log : Log} → GoesOn earlier log
    → Ever first P earlier → Ever first P log
ever_later first P same_log h = h
ever_later first P (one_event event g) h = inr (ever_later first P g h)

-- ---- moments

-- what was true at some moment was true after some prefix
pub ever_from : (first : Snapshot) (P : Snapshot → Type 0) (log : Log) → Ever first P log
    → (at : Log) × GoesOn at log × P (state first at)
ever_from first P [] h = ([], same_log, h)
ever_from first P (event ∷ log) (inl h) = (event ∷ log, same_log, h)
ever_from first P (event ∷ log) (inr h) =
    let it = ever_from first P log h in (it.0, one_event event it.1, it.2)

-- what is true after a log was true at some moment of it
pub ever_now : (first : Snapshot) (P : Snapshot → Type 0) (log : Log) → P (state first log)
    → Ever first P log
ever_now first P [] h = h
ever_now first P (event ∷ log) h = inl h

-- what happened in the later events happened in the log
pub happened_left : (P : Event → Type 0) (more log : Log) → Happened P more
    → Happened P (more ++ log)
happened_left P [] log is = absurd is
happened_left P (event ∷ more) log (inl now) = inl now
happened_left P (event ∷ more) log (inr old) = inr (happened_left P more log old)
