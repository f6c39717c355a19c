-- How a seat goes on by steps of its own and of others: the form in which a call that makes events
-- says what it has done.
use Rattle.std.specs.Prelude.{◌≡◌, ℕ, ◌+◌, ◌<◌, ◌≤◌, List, ◌++◌}
use Rattle.ist_core.specs.declared.events.Event.{Event}
use Rattle.ist_core.specs.declared.lists.HeldRow.{HeldRow}
use Rattle.ist_core.specs.Elements.{Among}
use Rattle.ist_rule.specs.declared.view.View.{View}
use Rattle.ist_core.specs.declared.loads.Load.{Load}
use Rattle.ist_core.specs.declared.events.Who.TheVariants.{Caller}
use Rattle.ist_core.specs.Authors.{LaterBy}
use Rattle.ist_rule.specs.Rule.{own_at, IsSound}
use Rattle.ist_rule.specs.Learning.{now}

-- each row that the seat's caller held and still holds has the words that the seat had stored in it
abbrev pub KeepsWords : View → View → Type 0
KeepsWords v w =
    (h : HeldRow) → v.who ≡ Caller h.caller → Among h (now v).held → Among h (now w).held
    → (k : ℕ) → k < h.size → own_at w.own (h.base + k) ≡ own_at v.own (h.base + k)

-- the seat made loads, made events that satisfy P and stored words into its own rows. It began no
-- search, and the rest of its view is unchanged
pub record WentOn (P : Event → Type 0) (v w : View) : Type 0 where
  pub later : LaterBy v.who P v.log w.log
  pub sound : IsSound w
  pub same : w ≡ record v { log = w.log; own = w.own; loads = w.loads; loaded = w.loaded }
  pub loaded : v.loaded ≤ w.loaded

-- the seat went on in the same way, but may have begun searches: except for their number it is as
-- if it had begun none
pub record SearchedOn (P : Event → Type 0) (v w : View) : Type 0 where
  pub went : WentOn P (record v { searches = w.searches }) w
  pub searches : v.searches ≤ w.searches

-- the seat has stored no word and begun no search: the loads of its search are the loads that it
-- had made, and then more
pub record KeepsSearch (v w : View) : Type 0 where
  pub own : w.own ≡ v.own
  pub since : w.loads.since ≡ v.loads.since
  pub more : List Load
  pub loads : w.loads.list ≡ more ++ v.loads.list
