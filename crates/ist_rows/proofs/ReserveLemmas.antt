-- Reserving: when it may be made, and what it leaves. Serves `reserving`.
use Rattle.std.proofs.Common.{◌≡◌, ◌≢◌, ℕ, ◌+◌, ◌-◌, ◌<◌, ◌≤◌, [], ◌∷◌, ◌++◌, refl, sym, ap, ◌∙◌, subst, arith, not, Bool, true, false, if◌then◌else◌, List, map, filter}
use Rattle.ist_core.specs.declared.events.Event.{Event}
use Rattle.ist_core.specs.declared.events.Event.TheVariants.{Reserve}
use Rattle.ist_core.specs.declared.events.Who.TheVariants.{Caller}
use Rattle.ist_core.specs.WordTerms.{next_place, place_limit, finished_word}
use Rattle.ist_core.specs.LogTerms.{Snapshot, sizes_held, IsFair, Later, Lawful, state_of, Log, shown_next, IsBuilding, IsStuck, AreBuilds, no_build, last_build, stuck_build, IsMerge, at_end, from_left, from_right}
use Rattle.ist_core.proofs.AllLogLemmas.{next_within, words_same, next_word, inner_there, change_there, rebuild_there}
use Rattle.ist_rule.specs.RuleTerms.{IsSound, now, GoesOnTo, Looked, CanExchange, WentOn}
use Rattle.ist_rule.specs.declared.view.View.{View}
use Rattle.ist_rule.proofs.EventLemmas.{callers_later, goes_on_more, goes_on_same, goes_on_who, looked_goes_on, may_come_before, next_between}
use Rattle.ist_rule.proofs.LaterLemmas.{later-goes_on, later_more}
use Rattle.ist_rule.proofs.WentOnLemmas.{goes_on_lawful, goes_on_now, goes_on_went, logged_went, went_more}
use Rattle.ist_rows.specs.RowTerms.{MayTake, reserving, HasReadNext, Reserved}
use Rattle.ist_core.specs.TreeTerms.{AllGrow, StatusGoesOn, status_stays, is_marked, is_finished, is_closed, IsStarted, IsFinishedWith}

-- ---- what a reserving leaves

-- the log after a reserving, as a list of enabled events, and the place of the caller before
pub record Took (v : View) (number base size : ℕ) (w : View) : Type 0 where
  pub before : Log
  pub lawful : Lawful v.start v.words (Reserve number base size ∷ before)
  pub later : Later v.who v.log before
  pub now_is : now w ≡ state_of v.start v.words (Reserve number base size ∷ before)
  pub who_is : w.who ≡ v.who

-- a token that reserved a row has such a log
pub took : (v : View) (number base size : ℕ) (w : View) → Reserved v number base size w
    → Took v number base size w
took v number base size w r = grind (arith, later_more, goes_on_who)

-- so it went on by the reserving, if P is true of that
pub reserved_went : (P : Event → Type 0) (v : View) (number base size : ℕ) (w : View)
    → Reserved v number base size w → P (Reserve number base size) → WentOn P v w
reserved_went P v number base size w r is =
    went_more P v r.before w (goes_on_went P v r.before r.seen)
    (logged_went P r.before (Reserve number base size) w r.reserved is refl)

-- ---- when a row may be reserved

-- a caller may reserve what is fair and fits, whatever others do meanwhile
pub can_reserve : (v : View) (number old size : ℕ) → IsSound v → v.who ≡ Caller number
    → old + size ≤ v.words → MayTake v number size
    → CanExchange v next_place old (old + size) (Reserve number old size)
can_reserve v number old size s who room fair = record {
  make = record { mine = sym who; stored = tt; allowed = tt };
  known = λ log m. ((state_of v.start v.words log).next, shown_next);
  comes = λ log m shown.
      let is = next_word v.start v.words log m.lawful.enabled next_place old shown refl in
      let all = words_same v.start v.words m.lawful.opens log in
      let low = s.is_true.low number who in
      let more = callers_later v.start v.words v.log log m.later in record {
        enabled = record {
          known = omega arith;
          base_is = is;
          room = omega arith;
          fair = fair log m;
        };
        touches = refl;
      };
}

-- what a caller may take it may take later
pub may_take_on : (v w : View) (number size : ℕ) → GoesOnTo v w → MayTake v number size
    → MayTake w number size
may_take_on v w number size g fair log m =
    subst (λ p. IsFair (state_of p w.words log)
    (sizes_held (state_of p w.words log) number ++ size ∷ [])) (sym (ap (λ x. x.start) g.same))
    (subst (λ n. IsFair (state_of v.start n log)
    (sizes_held (state_of v.start n log) number ++ size ∷ [])) (sym (ap (λ x. x.words) g.same))
    (fair log (may_come_before v w g log m)))

-- the first free word lies within the table, which is small
pub next_low : (v : View) → IsSound v → ((now v).next ≤ v.words) × (v.words ≤ place_limit)
next_low v s = grind (arith, next_within, words_same)

-- a load of the first word gives the first free one
pub looked_next : (v : View) (word : ℕ) (w : View) → Looked v next_place word w
    → word ≡ (now w).next
looked_next v word w l = l.stood (now w).next shown_next

-- a token that read the first free word has only made loads
pub read_on : (v : View) (next : ℕ) (w : View) → HasReadNext v next w → GoesOnTo v w
read_on v next w r = goes_on_more v r.before w r.seen
    (looked_goes_on r.before next_place next w r.looked)

-- a load reads the first free word
pub read_first : (v : View) (next : ℕ) (w : View) → IsSound v → Looked v next_place next w
    → HasReadNext v next w
read_first v next w s looked = record { before = v; seen = goes_on_same v s; looked = looked }

-- a failed exchange after it reads the first free word again
pub read_again : (v : View) (next : ℕ) (u : View) (found : ℕ) (w : View) → HasReadNext v next u
    → Looked u next_place found w → HasReadNext v found w
read_again v next u found w r looked = grind (arith, read_on)

-- the token is still of its table
pub read_table : (v : View) (next : ℕ) (w : View) → HasReadNext v next w → w.table ≡ v.table
read_table v next w r = grind arith

-- the first free word never falls on the way
next_on : (v w : View) (place word : ℕ) → Looked v place word w → (now v).next ≤ (now w).next
next_on v w place word l =
    grind (arith, looked_goes_on, goes_on_lawful, goes_on_now, next_between, later-goes_on)

-- if another word is found than was read before, the first free word lies further on
pub next_risen : (u v w : View) (word found : ℕ) → Looked u next_place word v
    → Looked v next_place found w → found ≢ word → word < found
next_risen u v w word found l m ne = let here = looked_next u word v l in
    let there = looked_next v found w m in let held = next_on v w next_place found m in
    let other : found ≢ word = ne in omega arith

-- the event that the exchange of a caller names
pub reserving_is : (v : View) (number old size : ℕ) → v.who ≡ Caller number
    → reserving v old (old + size) ≡ Reserve number old size
reserving_is v number old size who = grind arith

-- ---- builds after longer logs, and how the rows of a caller are merged from builds and others. Serves
-- fairness.

-- the second state comes after the first
pub record ComesAfter (t u : Snapshot) : Type 0 where
  pub words : u.words ≡ t.words
  pub next : t.next ≤ u.next
  pub grow : AllGrow t.pieces u.pieces

-- a finished status stays
finished_stays : (old new k : ℕ) → StatusGoesOn old new → old ≡ finished_word k
    → new ≡ finished_word k
finished_stays old new k (status_stays e) is = e ∙ is
finished_stays old new k (is_marked e f) is = absurd (omega arith)
finished_stays old new k (is_finished j e f) is = absurd (omega arith)
finished_stays old new k (is_closed j e f) is = absurd (omega arith)

module _ (t u : Snapshot) (b : ComesAfter t u) where
  -- a started rebuild stays started
  started_on : (rebuild : ℕ) → IsStarted t rebuild → IsStarted u rebuild
  started_on rebuild s = grind (arith, change_there)

  -- a finished row stays finished
  finished_on : (node k : ℕ) → IsFinishedWith t node k → IsFinishedWith u node k
  finished_on node k f = grind (arith, inner_there, finished_stays)

  -- a building list stays one
  pub building_on : (sizes : List ℕ) → IsBuilding t sizes → IsBuilding u sizes
  building_on sizes h = grind (arith, rebuild_there, started_on, finished_on)

  -- what is stuck stays stuck
  pub stuck_on : (sizes : List ℕ) → IsStuck t sizes → IsStuck u sizes
  stuck_on sizes s = grind (arith, building_on)

  -- builds stay builds, and what is stuck stays stuck
  pub builds_on : (sizes : List ℕ) → AreBuilds t sizes → AreBuilds u sizes
  builds_on _ no_build = no_build
  builds_on _ (last_build {sizes = sizes} rest h) = last_build rest (building_on (sizes ++ rest) h)
  builds_on _ (stuck_build {sizes = sizes} {more = more} s a) = let size = b.words in
      let more_used = b.next in let short = s.no_room in stuck_build
      record {
        next_size = s.next_size;
        rest = s.rest;
        building = building_on (sizes ++ s.next_size ∷ s.rest) s.building;
        no_room = omega arith;
      }
      (builds_on more a)

-- ---- merging

-- a list is merged from what a test refuses and what it accepts
pub merge_filter : {A : Type 0} (f : A → ℕ) (p : A → Bool) (xs : List A)
    → IsMerge (map f xs) (map f (filter (λ x. not (p x)) xs)) (map f (filter p xs))
merge_filter f p [] = at_end
merge_filter f p (x ∷ xs) = at (merge_filter f p xs) (p x) refl
  where
    at : IsMerge (map f xs) (map f (filter (λ y. not (p y)) xs)) (map f (filter p xs)) → (b : Bool)
        → p x ≡ b → IsMerge (map f (x ∷ xs)) (map f (filter (λ y. not (p y)) (x ∷ xs)))
        (map f (filter p (x ∷ xs)))
    at rest true e =
        subst (λ v. IsMerge (map f (x ∷ xs))
        (map f (if not v then x ∷ filter (λ y. not (p y)) xs else filter (λ y. not (p y)) xs))
        (map f (if v then x ∷ filter p xs else filter p xs))) (sym e)
        (from_right (f x) rest)
    at rest false e =
        subst (λ v. IsMerge (map f (x ∷ xs))
        (map f (if not v then x ∷ filter (λ y. not (p y)) xs else filter (λ y. not (p y)) xs))
        (map f (if v then x ∷ filter p xs else filter p xs))) (sym e)
        (from_left (f x) rest)

-- one more at the end, from the right
pub merge_more : (xs left right : List ℕ) (size : ℕ) → IsMerge xs left right
    → IsMerge (xs ++ size ∷ []) left (right ++ size ∷ [])
merge_more _ _ _ size at_end = from_right size at_end
merge_more _ _ _ size (from_left {sizes = xs} {left = left} {right = right} n m) =
    from_left n (merge_more xs left right size m)
merge_more _ _ _ size (from_right {sizes = xs} {left = left} {right = right} n m) =
    from_right n (merge_more xs left right size m)

-- one more at the end, from the left
pub merge_first : (xs left right : List ℕ) (size : ℕ) → IsMerge xs left right
    → IsMerge (xs ++ size ∷ []) (left ++ size ∷ []) right
merge_first _ _ _ size at_end = from_left size at_end
merge_first _ _ _ size (from_left {sizes = xs} {left = left} {right = right} n m) =
    from_left n (merge_first xs left right size m)
merge_first _ _ _ size (from_right {sizes = xs} {left = left} {right = right} n m) =
    from_right n (merge_first xs left right size m)
