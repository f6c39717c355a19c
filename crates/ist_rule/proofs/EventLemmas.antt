-- What one event does to the number of callers and to what callers hold. Serves what the rule says
-- of other seats.
use Rattle.std.proofs.Common.{◌≡◌, ◌≢◌, ℕ, ◌≤◌, [], ◌∷◌, Option, refl, sym, subst, arith, List, ◌++◌, length, ap, ap₂, ◌∙◌, append_assoc, le_refl}
use Rattle.ist_core.specs.declared.events.Event.{Event}
use Rattle.ist_core.specs.declared.events.Event.TheVariants.{Enter, Reserve, Install, Okay, Decide, Resolve, Count, Mark, Pass, Finish, Root, Draw, Place, Lose}
use Rattle.ist_core.specs.declared.events.Who.TheVariants.{Maker, Caller, Note}
use Rattle.ist_core.specs.declared.pairs.Pair.{Pair}
use Rattle.ist_core.specs.declared.events.Who.{Who}
use Rattle.ist_core.specs.WordTerms.{start}
use Rattle.ist_core.specs.LogTerms.{Snapshot, HoldsRows, Log, state, Enabled, whose, state_of, no_more, one_more, Later, GoesOn, same_log, one_event, EachEnabled}
use Rattle.ist_core.specs.TreeTerms.{published_by}
use Rattle.ist_core.proofs.AllLogLemmas.{callers-installed, callers-resolved, next-state}
use Rattle.ist_rule.specs.RuleTerms.{IsNamed, made_after, View, IsSound, GoesOnTo, Looked, MayCome}
use Rattle.std.proofs.Math.Nat.{le_trans}
use Rattle.ist_rule.proofs.LaterLemmas.{later_more}

-- an Enter adds a caller, and no other event does
pub callers-state : (first : Snapshot) (log : Log) (event : Event)
    → (state first (event ∷ log)).callers ≡ made_after event (state first log).callers
callers-state first log (Install caller change rows) = grind (arith, callers-installed)
callers-state first log (Resolve caller change) = grind (arith, callers-resolved)
callers-state first log _ = refl

-- the number of callers never falls
pub made_after-grows : (event : Event) (made : ℕ) → made ≤ made_after event made
made_after-grows (Enter caller) made = omega arith
made_after-grows _ made = omega arith

-- an event is an Enter, which is the maker's, or is a caller's and adds no caller
pub data Authored (event : Event) : Type 0 where
  by_maker : (caller : ℕ) → event ≡ Enter caller → whose event ≡ Maker → Authored event
  by_caller : (caller : ℕ) → whose event ≡ Caller caller
      → ((made : ℕ) → made_after event made ≡ made) → Authored event

-- each event is the maker's Enter or a caller's
pub authored : (event : Event) → Authored event
authored (Enter caller) = by_maker caller refl refl
authored (Reserve caller base size) = by_caller caller refl (λ made. refl)
authored (Install caller change rows) = by_caller caller refl (λ made. refl)
authored (Okay caller change) = by_caller caller refl (λ made. refl)
authored (Decide caller change said) = by_caller caller refl (λ made. refl)
authored (Resolve caller change) = by_caller caller refl (λ made. refl)
authored (Count caller node) = by_caller caller refl (λ made. refl)
authored (Mark caller node) = by_caller caller refl (λ made. refl)
authored (Pass caller node i word) = by_caller caller refl (λ made. refl)
authored (Finish caller node keys) = by_caller caller refl (λ made. refl)
authored (Root caller rebuild word rows) = by_caller caller refl (λ made. refl)
authored (Draw caller rebuild part) = by_caller caller refl (λ made. refl)
authored (Place caller rebuild i word rows) = by_caller caller refl (λ made. refl)
authored (Lose caller bases) = by_caller caller refl (λ made. refl)

-- whose event it is has a name
pub author_named : (event : Event) → IsNamed (whose event)
author_named event = grind (arith, authored)

-- no event is a note's
pub author_no_note : (event : Event) (of : Option ℕ) → whose event ≢ Note of
author_no_note event of e = subst IsNamed e (author_named event)

-- only the maker's event adds a caller
pub made_by_others : (event : Event) (made : ℕ) → whose event ≢ Maker → made_after event made ≡ made
made_by_others event made ne = grind (arith, authored)

-- the author of the event holds the rows that it publishes
pub record Published (t : Snapshot) (event : Event) : Type 0 where
  pub caller : ℕ
  pub author_is : whose event ≡ Caller caller
  pub held : HoldsRows t caller (published_by event)

-- an event publishes no row, or its author holds the rows that it publishes
pub data PublishesHeld (t : Snapshot) (event : Event) : Type 0 where
  publishes_none : published_by event ≡ [] → PublishesHeld t event
  publishes_held : Published t event → PublishesHeld t event

-- each enabled event publishes no row, or its author holds the rows that it publishes
pub publishes : (first : Snapshot) (log : Log) (event : Event) → Enabled first log event
    → PublishesHeld (state first log) event
publishes first log (Install caller change rows) h = grind arith
publishes first log (Root caller rebuild word rows) h = grind arith
publishes first log (Place caller rebuild i word rows) h = grind arith
publishes first log _ h = publishes_none refl

-- ---- seats that went on by loads. Serves the crates above.

-- a sound seat goes on to itself
pub goes_on_same : (v : View) → IsSound v → GoesOnTo v v
goes_on_same v s = record {
  later = no_more;
  sound = s;
  same = refl;
  since = refl;
  more = [];
  loads = refl;
  loaded = le_refl v.loaded;
}

-- a load goes on
pub looked_goes_on : (v : View) (place word : ℕ) (w : View) → Looked v place word w → GoesOnTo v w
looked_goes_on v place word w l = record {
  later = l.later;
  sound = l.sound;
  same = l.view ∙ ap₂ (λ loads count. record v { log = w.log; loads = loads; loaded = count })
      (sym (ap (λ x. x.loads) l.view)) (sym (ap (λ x. x.loaded) l.view));
  since = ap (λ x. x.loads.since) l.view;
  more = record { place = place; word = word; length = length w.log } ∷ [];
  loads = ap (λ x. x.loads.list) l.view;
  loaded = let count = ap (λ x. x.loaded) l.view in omega arith;
}

-- the seat of one that went on is the same one's
pub goes_on_who : {v w : View} → GoesOnTo v w → w.who ≡ v.who
goes_on_who g = ap (λ x. x.who) g.same

-- going on twice
pub goes_on_more : (u v w : View) → GoesOnTo u v → GoesOnTo v w → GoesOnTo u w
goes_on_more u v w a b = record {
  later = later_more a.later (subst (λ x. Later x v.log w.log) (goes_on_who a) b.later);
  sound = b.sound;
  same = b.same ∙ ap {B = View} (λ (x : View). record x {
    log = w.log;
    loads = w.loads;
    loaded = w.loaded;
  }) a.same;
  since = b.since ∙ a.since;
  more = b.more ++ a.more;
  loads = b.loads ∙ ap (λ xs. b.more ++ xs) a.loads ∙ sym (append_assoc b.more a.more u.loads.list);
  loaded = le_trans a.loaded b.loaded;
}

-- what may come after a seat went on may have come before
pub may_come_before : (v w : View) → GoesOnTo v w → (log : Log) → MayCome w log → MayCome v log
may_come_before v w g log m = grind (arith, later_more, goes_on_who)

-- ---- numbers

-- a longer log has at least as many callers
pub callers_later : {who : Who} (pairs : List Pair) (words : ℕ) (old log : Log) → Later who old log
    → (state_of pairs words old).callers ≤ (state_of pairs words log).callers
callers_later pairs words old _ no_more = le_refl (state_of pairs words old).callers
callers_later pairs words old _ (one_more {log = log} event l other) =
    le_trans (callers_later pairs words old log l)
    (subst (λ n. (state_of pairs words log).callers ≤ n)
    (sym (callers-state (start pairs words) log event))
    (made_after-grows event (state_of pairs words log).callers))

-- others than the maker add none
pub callers_by_others : (pairs : List Pair) (words : ℕ) (old log : Log) → Later Maker old log
    → (state_of pairs words log).callers ≡ (state_of pairs words old).callers
callers_by_others pairs words old _ no_more = refl
callers_by_others pairs words old _ (one_more {log = log} event l other) =
    callers-state (start pairs words) log event ∙ made_by_others event
    (state_of pairs words log).callers other ∙ callers_by_others pairs words old log l

-- ---- rows that are held after one log and after a longer one. Serves seats that went on.

-- the first free word never falls along a longer log
pub next_between : (pairs : List Pair) (words : ℕ) (old log : Log)
    → EachEnabled (start pairs words) log → GoesOn old log
    → (state_of pairs words old).next ≤ (state_of pairs words log).next
next_between pairs words old _ enabled same_log = le_refl (state_of pairs words old).next
next_between pairs words old _ enabled (one_event {log = log} event g) =
    let before = next_between pairs words old log enabled.0 g in
    let more = next-state (start pairs words) log event enabled.1 in omega arith
