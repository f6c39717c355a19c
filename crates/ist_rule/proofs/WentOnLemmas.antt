-- Seats that went on by loads, by events of their own and by stores. Serves the crates above.
use Rattle.std.proofs.Common.{◌≡◌, ℕ, ◌+◌, ◌≤◌, ◌∷◌, sym, ap, subst, inl, inr, arith}
use Rattle.std.proofs.Math.Nat.{le_trans}
use Rattle.ist_core.specs.declared.events.Event.{Event}
use Rattle.ist_core.specs.declared.events.Who.{Who}
use Rattle.ist_core.specs.LogTerms.{no_more, one_more, Later, LaterBy, Log, Lawful, state_of}
use Rattle.ist_core.specs.TreeTerms.{AllGrow}
use Rattle.ist_core.proofs.AllLogLemmas.{grow_between, goes_on_by}
use Rattle.ist_rule.specs.RuleTerms.{View, IsSound, now, made_after, logging, GoesOnTo, Looked, Logged, LoggedLoad, WentOn}
use Rattle.ist_rule.proofs.EventLemmas.{goes_on_same, looked_goes_on}
pub use Rattle.ist_core.proofs.PrefixLemmas.{goes_on_by as later_by-goes_on}

-- ---- logs

-- a log that went on by events of others went on so
pub later_by : {who : Who} {P : Event → Type 0} {a b : Log} → Later who a b → LaterBy who P a b
later_by no_more = no_more
later_by (one_more event l other) = one_more event (later_by l) (inl other)

-- going on twice
pub later_by_more : {who : Who} {P : Event → Type 0} {a b c : Log} → LaterBy who P a b
    → LaterBy who P b c → LaterBy who P a c
later_by_more l no_more = l
later_by_more l (one_more event k is) = one_more event (later_by_more l k) is

-- what is true of all such events may be said of them
pub later_by_all : {who : Who} {P Q : Event → Type 0} {a b : Log}
    → ((event : Event) → P event → Q event) → LaterBy who P a b → LaterBy who Q a b
later_by_all all no_more = no_more
later_by_all all (one_more event k (inl other)) = one_more event (later_by_all all k) (inl other)
later_by_all all (one_more event k (inr is)) =
    one_more event (later_by_all all k) (inr (all event is))

-- ---- what a seat is that went on

-- the seat of one that went on is the same one's
pub went_who : (P : Event → Type 0) (v w : View) → WentOn P v w → w.who ≡ v.who
went_who P v w h = ap (λ x. x.who) h.same

-- the state after the log of a seat that went on, by the table of the first view
pub went_now : (P : Event → Type 0) (v w : View) → WentOn P v w
    → now w ≡ state_of v.start v.words w.log
went_now P v w h = grind arith

-- the log of a seat that went on is lawful for the table of the first view
pub went_lawful : (P : Event → Type 0) (v w : View) → WentOn P v w → Lawful v.start v.words w.log
went_lawful P v w h = grind arith

-- rows grow
pub went_grow : (P : Event → Type 0) (v w : View) → WentOn P v w
    → AllGrow (now v).pieces (now w).pieces
went_grow P v w h = grind (arith, went_now, grow_between, went_lawful, goes_on_by)

-- what is true of all its events may be said of them
pub went_all : (P Q : Event → Type 0) → ((event : Event) → P event → Q event) → (v w : View)
    → WentOn P v w → WentOn Q v w
went_all P Q all v w h = grind (arith, later_by_all)

-- ---- which steps make a seat go on so

-- a seat that made loads went on so
pub goes_on_went : (P : Event → Type 0) (v w : View) → GoesOnTo v w → WentOn P v w
goes_on_went P v w g = grind (arith, later_by)

-- a seat that does nothing went on
pub went_same : (P : Event → Type 0) (v : View) → IsSound v → WentOn P v v
went_same P v s = goes_on_went P v v (goes_on_same v s)

-- a seat that made one load went on
pub looked_went : (P : Event → Type 0) (v : View) (place word : ℕ) (w : View) → Looked v place word w
    → WentOn P v w
looked_went P v place word w l = goes_on_went P v w (looked_goes_on v place word w l)

-- a seat that made an event that P is true of went on, whatever it then counts
event_went : (P : Event → Type 0) (v : View) (event : Event) (w : View) (before : Log) (count : ℕ)
    → Later v.who v.log before → w ≡ record (logging v before event) { loaded = count } → IsSound w
    → v.loaded ≤ count → P event → made_after event v.made ≡ v.made → WentOn P v w
event_went P v event w before count later view sound more is made = record {
  later = subst (LaterBy v.who P v.log) (sym (ap (λ x. x.log) view))
      (one_more event (later_by later) (inr is));
  sound = sound;
  same = subst (λ (x : View). x ≡ record v {
    log = x.log;
    own = x.own;
    loads = x.loads;
    loaded = x.loaded;
  }) (sym view)
      (ap {B = View} (λ n. record v { log = event ∷ before; made = n; loaded = count }) made);
  loaded = subst (λ n. v.loaded ≤ n) (sym (ap (λ x. x.loaded) view)) more;
}

-- a seat that made an event that P is true of went on
pub logged_went : (P : Event → Type 0) (v : View) (event : Event) (w : View) → Logged v event w
    → P event → made_after event v.made ≡ v.made → WentOn P v w
logged_went P v event w l = grind (arith, event_went)

-- a seat that made a load which is such an event went on
pub logged_load_went : (P : Event → Type 0) (v : View) (event : Event) (place word : ℕ) (w : View)
    → LoggedLoad v event place word w → P event → made_after event v.made ≡ v.made → WentOn P v w
logged_load_went P v event place word w l =
    event_went P v event w l.before (v.loaded + 1) l.later l.view l.sound (omega arith)

-- a seat that only made loads: the state that it has seen, its log, and what is published
pub goes_on_now : (v w : View) → GoesOnTo v w → now w ≡ state_of v.start v.words w.log
goes_on_now v w g = went_now (λ event. ⊥) v w (goes_on_went (λ event. ⊥) v w g)

-- the log of a seat that only made loads is lawful
pub goes_on_lawful : (v w : View) → GoesOnTo v w → Lawful v.start v.words w.log
goes_on_lawful v w g = went_lawful (λ event. ⊥) v w (goes_on_went (λ event. ⊥) v w g)

-- rows grow while a seat only makes loads
pub goes_on_grow : (v w : View) → GoesOnTo v w → AllGrow (now v).pieces (now w).pieces
goes_on_grow v w g = went_grow (λ event. ⊥) v w (goes_on_went (λ event. ⊥) v w g)

-- going on twice
pub went_more : (P : Event → Type 0) (u v w : View) → WentOn P u v → WentOn P v w → WentOn P u w
went_more P u v w a b = grind (arith, later_by_more, went_who, le_trans)
