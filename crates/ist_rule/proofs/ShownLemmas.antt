-- Which words the image of a state fixes, and which it leaves to callers. Serves what the rule says
-- of words.
use Rattle.std.proofs.Common.{◌≡◌, ◌≢◌, ℕ, ◌+◌, ◌<◌, ◌≤◌, List, slice_get, slice_set, Some, None, sym, ◌∙◌, subst, ⊎_elim, arith, ◌⊎◌, [], ◌∷◌, ◌++◌, length, Option, refl, ap, inl, inr}
use Rattle.std.proofs.Math.ListN.{length-set}
use Rattle.ist_core.specs.declared.pairs.Pair.{Pair}
use Rattle.ist_core.specs.declared.lists.HeldRow.{HeldRow}
use Rattle.ist_core.specs.declared.events.Event.{Event}
use Rattle.ist_core.specs.declared.lists.Row.{Row}
use Rattle.ist_core.specs.declared.events.Event.TheVariants.{Lose}
use Rattle.ist_core.specs.declared.events.Who.TheVariants.{Caller}
use Rattle.ist_core.specs.WordTerms.{first_row, next_place, callers_place, anchor_status_place, anchor_slot_place, Piece, size_of, start, IsImage}
use Rattle.ist_core.specs.LogTerms.{Among, Snapshot, Log, Enabled, EachEnabled, CanOpen, state_of, HoldsRows, whose}
use Rattle.ist_core.specs.ImageLaws.{IsNoLose}
use Rattle.ist_core.specs.TreeTerms.{Touch, touch_of, touched, published_by, RowsStand}
use Rattle.ist_core.proofs.AllPlaceLemmas.{get-set_same, get-set_other, placed, claimed_within, claimed_apart, next_after_fixed}
use Rattle.ist_core.proofs.AllEventLemmas.{sound, sound_start, touches, moves_or_reserves, IsReserve}
use Rattle.ist_core.proofs.AllWordLemmas.{same_value, no_value, among-append}
use Rattle.ist_core.proofs.TouchLemmas.{image_step}
use Rattle.ist_rule.specs.RuleTerms.{View, own_at, Owns, StoredAll}
use Rattle.ist_rule.proofs.EventLemmas.{PublishesHeld, publishes_none, publishes_held, publishes}

-- ---- words that the image leaves to callers

-- the image says nothing of the place
pub record IsLoose (t : Snapshot) (place : ℕ) : Type 0 where
  pub low : first_row ≤ place
  pub below : place < t.next
  -- it is in no published row
  pub out : (base : ℕ) (p : Piece) → t.pieces base ≡ Some p → (k : ℕ) → k < size_of p
      → place ≢ base + k

-- a loose place may hold any word
pub loose_set : (t : Snapshot) (image : List ℕ) (place word : ℕ) → IsLoose t place → IsImage t image
    → IsImage t (slice_set image place word)
loose_set t image place word loose is = let low = loose.low in let high = loose.below in record {
  size = length-set image place word ∙ is.size;
  next = get-set_other image place next_place word (λ e. omega arith) ∙ is.next;
  callers = get-set_other image place callers_place word (λ e. omega arith) ∙ is.callers;
  anchor_status = get-set_other image place anchor_status_place word (λ e. omega arith) ∙
      is.anchor_status;
  anchor_slot = get-set_other image place anchor_slot_place word (λ e. omega arith) ∙
      is.anchor_slot;
  rows = λ base p e k less. get-set_other image place (base + k) word
      (λ f. loose.out base p e k less (sym f)) ∙ is.rows base p e k less;
  free = λ q far in_it. get-set_other image place q word (λ e. omega arith) ∙ is.free q far in_it;
}

get_there : (xs : List ℕ) (place word : ℕ) → slice_get xs place ≡ Some word → (w : ℕ)
    → slice_get (slice_set xs place w) place ≡ Some w
get_there xs place word e w = get-set_same xs place w word e

module _ (pairs : List Pair) (words : ℕ) (log : Log) (enabled : EachEnabled (start pairs words) log)
  where
    -- the words of held rows are loose
    pub held_loose : (h : HeldRow) → Among h (state_of pairs words log).held → (k : ℕ) → k < h.size
        → IsLoose (state_of pairs words log) (h.base + k)
    held_loose h i k less = let claimed = (placed pairs words log enabled).held h i in
        let inside = claimed_within pairs words log h.base h.size enabled claimed in
        let low = inside.after_fixed in let high = inside.below_next in
        let s = sound (start pairs words) log (sound_start pairs words) enabled in record {
          low = omega arith;
          below = omega arith;
          out = λ base p e j small same. ⊎_elim
              (λ one. no_value ((state_of pairs words log).pieces base) p
              (subst (λ b. (state_of pairs words log).pieces b ≡ None) one.0 (s.unpublished h i))
              e)
              (λ two. ⊎_elim (λ le. omega arith) (λ le. omega arith) two.1)
              (claimed_apart pairs words log h.base h.size base (size_of p) enabled claimed
              ((placed pairs words log enabled).published base p e));
        }

    -- no event touches a loose word: any word may be there, and the event finds one
    pub touch_tight : CanOpen pairs words → (image : List ℕ)
        → IsImage (state_of pairs words log) image
        → (event : Event) → Enabled (start pairs words) log event → IsNoLose event → (touch : Touch)
        → touch_of (state_of pairs words log) event ≡ Some touch
        → ¬ (IsLoose (state_of pairs words log) touch.place)
    touch_tight opens image is event able some touch e loose =
        let one = touches pairs words opens log enabled image is event able some in
        let here = same_value (touch_of (state_of pairs words log) event) one.touch touch one.is e in
        let found : slice_get image touch.place ≡ Some touch.found =
        subst (λ t. slice_get image t.place ≡ Some t.found) here one.found in
        let other : List ℕ = slice_set image touch.place (touch.found + 1) in
        let is' = loose_set (state_of pairs words log) image touch.place (touch.found + 1) loose is in
        let two = touches pairs words opens log enabled other is' event able some in
        let there = same_value (touch_of (state_of pairs words log) event) two.touch touch two.is e in
        let found' : slice_get other touch.place ≡ Some touch.found =
        subst (λ t. slice_get other t.place ≡ Some t.found) there two.found in
        let now = get_there image touch.place touch.found found (touch.found + 1) in
        let same : touch.found + 1 ≡ touch.found = cc (sym now ∙ found') in omega arith

-- ---- what one event does to the words: the image's, and those that a caller stored into its rows.
-- Serves the conjuncts `image` and `owns`.

-- a word that no touch is at stays
touched_other : (words : List ℕ) (o : Option Touch) (place : ℕ)
    → ((touch : Touch) → o ≡ Some touch → place ≢ touch.place)
    → slice_get (touched words o) place ≡ slice_get words place
touched_other words None place out = refl
touched_other words (Some touch) place out =
    get-set_other words touch.place place touch.left (out touch refl)

-- an event is a Lose, which touches no word, or isn't a Lose
no_lose : (t : Snapshot) (event : Event) → (touch_of t event ≡ None) ⊎ IsNoLose event
no_lose t (Lose caller bases) = inl refl
no_lose t _ = inr tt

module _ (pairs : List Pair) (words : ℕ) (opens : CanOpen pairs words) (log : Log) (event : Event)
    (enabled : EachEnabled (start pairs words) (event ∷ log))
    (image : List ℕ) (is : IsImage (state_of pairs words log) image) where
  abbrev before : Snapshot
  before = state_of pairs words log

  abbrev following : List ℕ
  following = touched image (touch_of before event)

  -- a loose word stays
  pub loose_stays : (place : ℕ) → IsLoose before place
      → slice_get following place ≡ slice_get image place
  loose_stays place loose = touched_other image (touch_of before event) place
      (λ touch e same. ⊎_elim (λ l. none_some touch (sym l ∙ e))
      (λ some. touch_tight pairs words log enabled.0 opens image is event enabled.1 some touch e
      (subst (IsLoose before) same loose))
      (no_lose before event))
    where
      none_some : (touch : Touch) → None ≡ Some touch → ⊥
      none_some touch f = cc

  -- what a caller stored into its rows stays there, and a row that it reserves now has no word yet
  pub owns_after : (v : View) → Owns pairs words log image v
      → ((place : ℕ) → before.next ≤ place → own_at v.own place ≡ 0)
      → Owns pairs words (event ∷ log) following v
  owns_after v owns fresh h i mine k less = ⊎_elim (λ m. let old = m.kept h i in stays old)
      (λ r. at r (subst (λ e. Among h (state_of pairs words (e ∷ log)).held) r.is i))
      (moves_or_reserves (start pairs words) log event enabled.1
      (sound (start pairs words) log (sound_start pairs words) enabled.0))
    where
      stays : Among h before.held → slice_get following (h.base + k) ≡ Some (own_at v.own (h.base + k))
      stays old = loose_stays (h.base + k) (held_loose pairs words log enabled.0 h old k less) ∙
          owns h old mine k less

      -- a word of the new row was free
      new : (r : IsReserve (start pairs words) log event) → h.base ≡ r.base → h.size ≡ r.size
          → slice_get following (h.base + k) ≡ Some (own_at v.own (h.base + k))
      new r base size = grind (arith, next_after_fixed, touched_other)

      at : (r : IsReserve (start pairs words) log event)
          → Among h (before.held ++ record { caller = r.caller; base = r.base; size = r.size } ∷ [])
          → slice_get following (h.base + k) ≡ Some (own_at v.own (h.base + k))
      at r j = ⊎_elim stays
          (λ m. ⊎_elim (λ e. new r (ap (λ x. x.base) e) (ap (λ x. x.size) e)) (λ n. absurd n) m)
          (among-append h before.held (record { caller = r.caller; base = r.base; size = r.size }
          ∷ []) j)

  -- the rows that the caller publishes are in the words, if it stored them
  rows_stand : (v : View) (caller : ℕ) → v.who ≡ Caller caller → Owns pairs words log image v
      → (rows : List Row) → HoldsRows before caller rows → StoredAll v rows → RowsStand image rows
  rows_stand v caller who owns [] held stored = tt
  rows_stand v caller who owns (row ∷ rows) held stored = (
    (λ k less. owns record {
      caller = caller;
      base = row.base;
      size = length row.words;
    } held.0 who k less ∙ sym (stored.0 k less)),
    rows_stand v caller who owns rows held.1 stored.1,
  )

  -- the words after an event of the seat are the image of the state after it
  pub image_after : (v : View) → whose event ≡ v.who → Owns pairs words log image v
      → StoredAll v (published_by event) → IsImage (state_of pairs words (event ∷ log)) following
  image_after v mine owns stored = image_step pairs words opens log event enabled image is
      (at (publishes (start pairs words) log event enabled.1))
    where
      at : PublishesHeld before event → RowsStand image (published_by event)
      at (publishes_none e) = subst (RowsStand image) (sym e) tt
      at (publishes_held p) = grind (arith, rows_stand)
