-- Seats that may have begun searches. Serves the crates above.
use Rattle.std.proofs.Common.{arith}
use Rattle.std.proofs.Math.Nat.{le_trans}
use Rattle.ist_core.specs.declared.events.Event.{Event}
use Rattle.ist_rule.specs.RuleTerms.{View, Turned, searching, WentOn, SearchedOn}
use Rattle.ist_rule.proofs.WentOnLemmas.{later_by, later_by_more, went_who, went_all}

-- a seat that began a search
pub searching_on : (P : Event → Type 0) (v w : View) → Turned v (searching v) w → SearchedOn P v w
searching_on P v w t = grind (arith, later_by)

-- a seat that began none
pub went_searched : (P : Event → Type 0) (v w : View) → WentOn P v w → SearchedOn P v w
went_searched P v w g = grind arith

-- going on twice
pub searched_more : (P : Event → Type 0) (u v w : View) → SearchedOn P u v → SearchedOn P v w
    → SearchedOn P u w
searched_more P u v w a b = grind (arith, later_by_more, went_who, le_trans)

-- what is true of all its events may be said of them
pub searched_all : (P Q : Event → Type 0) → ((event : Event) → P event → Q event) → (v w : View)
    → SearchedOn P v w → SearchedOn Q v w
searched_all P Q all v w g = record { went = went_all P Q all _ w g.went; searches = g.searches }
