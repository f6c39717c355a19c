-- Logs that have gone on, by any events or by events of others. Serves what the rule says of the
-- logs that seats have seen.
use Rattle.std.proofs.Common.{◌≢◌, ◌≤◌, length, arith}
use Rattle.ist_core.specs.declared.events.Event.{Event}
use Rattle.ist_core.specs.declared.events.Who.{Who}
use Rattle.ist_core.specs.LogTerms.{Log, GoesOn, same_log, one_event, no_more, one_more, whose, Later, IsIdleIn}
pub use Rattle.ist_core.proofs.PrefixLemmas.{goes_on_more, goes_on_length, goes_on_by as later-goes_on}

-- going on by events of others, twice
pub later_more : {who : Who} {a b c : Log} → Later who a b → Later who b c → Later who a c
later_more p no_more = p
later_more p (one_more event q ne) = one_more event (later_more p q) ne

-- of two prefixes of one log the shorter is a prefix of the longer
pub between : {a b log : Log} → GoesOn a log → GoesOn b log → length a ≤ length b → GoesOn a b
between p same_log le = p
between same_log (one_event event q) le = let short = goes_on_length q in absurd (omega arith)
between (one_event event p) (one_event _ q) le = between p q le

-- a longer prefix has the events of this one too
pub later_longer : {who : Who} {a b log : Log} → Later who a log → GoesOn b log
    → length a ≤ length b → Later who b log
later_longer p same_log le = no_more
later_longer no_more (one_event event q) le = let short = goes_on_length q in absurd (omega arith)
later_longer (one_more event p ne) (one_event _ q) le = one_more event (later_longer p q le) ne

-- who went on to a log by events of others went on so to each prefix between
pub later_before : {who : Who} {a b log : Log} → Later who a log → GoesOn a b → GoesOn b log
    → Later who a b
later_before p on same_log = p
later_before no_more on (one_event event q) = grind (arith, goes_on_length)
later_before (one_more event p ne) on (one_event _ q) = later_before p on q

-- a seat that made no event of a log has seen all of its own in any prefix
pub later_idle : {who : Who} {a log : Log} → GoesOn a log → IsIdleIn who log → Later who a log
later_idle same_log idle = no_more
later_idle (one_event event p) idle = one_more event (later_idle p idle.1) idle.0

-- a log that goes on by events which are never this seat's goes on by others
pub later_any : {who : Who} → ((event : Event) → whose event ≢ who) → {a b : Log} → GoesOn a b
    → Later who a b
later_any none same_log = no_more
later_any none (one_event event p) = one_more event (later_any none p) (none event)
