-- Places whose words all callers know, and words that are gone. Serves
-- `laws.gone_words_are_missed`.
use Rattle.std.proofs.Common.{◌≡◌, ◌≢◌, ℕ, ◌+◌, ◌<◌, ◌++◌, suc, length, get_or, Some, refl, sym, ap, ◌∙◌, subst, length-append, arith}
use Rattle.std.proofs.lemmas.Option.{slice_get-get_or}
use Rattle.ist_core.specs.declared.events.Event.{Event}
use Rattle.ist_core.specs.declared.states.InnerRow.{InnerRow}
use Rattle.ist_core.specs.declared.events.Event.TheVariants.{Enter, Reserve, Install, Decide, Resolve, Count, Mark, Finish, Root, Draw, Place}
use Rattle.ist_core.specs.declared.events.Who.{Who}
use Rattle.ist_core.specs.WordTerms.{next_place, anchor_slot_place, inner_status_offset, slot_place, open_word, marked_word, finished_word, Piece, Inner, words_of, size_of, SlotHolds, in_anchor, in_row, Change, Rebuild, as_change, as_rebuild, start}
use Rattle.ist_core.specs.LogTerms.{Snapshot, Log, state_of, IsShown, shown_next, shown_slot, shown_row, Later, Enabled}
use Rattle.ist_core.specs.TreeTerms.{AllGrow, Grows, leaf_stays, inner_grows, change_grows, rebuild_grows, StatusGoesOn, status_stays, is_marked, is_finished, is_closed, place_of_slot, Touch, touch_of, touch_of_resolve, touch_of_place, touch_in_root}
use Rattle.ist_core.proofs.AllLogLemmas.{inner_there, grow_between, goes_on_by}
use Rattle.ist_core.proofs.AllPlaceLemmas.{get_below, get-words_of_slot, anchor_free, shaped}
use Rattle.ist_rule.specs.RuleTerms.{IsSound, now, MayCome, CanMake, IsKnown, CanExchange, ComesAt}
use Rattle.ist_rule.specs.declared.view.View.{View}
use Rattle.ist_rule.proofs.WatchLemmas.{shown_in_row}
use Rattle.laws_stability.proofs.HoldingLemmas.{place_of_row}
use Rattle.laws_coming.specs.Coming.{IsGone, IsExchange}
use Rattle.ist_core.proofs.AllWordLemmas.{same_value}
use Rattle.laws_stability.specs.Stability.{AddsNothing}
use Rattle.laws_stability.specs.Words.{FindsItsWord}
use Rattle.laws_stability.proofs.InstallEventLemmas.{install_stays}
use Rattle.laws_stability.proofs.ChangeEventLemmas.{none_refused}
use Rattle.laws_stability.proofs.SetLemmas.{reserve_stays}
use Rattle.laws_stability.proofs.FoundWordLemmas.{touch_stays}
use Rattle.laws_stability.proofs.IdealLemmas as builds
use Rattle.laws_stability.proofs.ChangeEventLemmas as changes

-- ---- places that have a word for good

-- the place is the first one, the anchor's slot, or a word of a published row
pub data IsFast (t : Snapshot) : ℕ → Type 0 where
  at_next : IsFast t next_place
  at_anchor : IsFast t anchor_slot_place
  in_piece : (base k : ℕ) (p : Piece) → t.pieces base ≡ Some p → k < size_of p → IsFast t (base + k)

-- a row that grew has as many words
pub same_size : (p q : Piece) → Grows p q → size_of q ≡ size_of p
same_size _ _ leaf_stays = refl
same_size _ _ (inner_grows {old = old} {new = new} g) = let keys = ap length g.keys in
    let slots = g.slots in let a = length-append old.keys old.slots in
    let b = length-append new.keys new.slots in
    let more : length (new.keys ++ new.slots) ≡ length (old.keys ++ old.slots) = omega arith in
    ap (λ n. suc (suc (suc (suc n)))) more
same_size _ _ (change_grows g) = refl
same_size _ _ (rebuild_grows g) = refl

-- rows grow after each log that may come
pub grow : (v : View) (log : Log) → MayCome v log
    → AllGrow (now v).pieces (state_of v.start v.words log).pieces
grow v log m = grow_between v.start v.words v.log log m.lawful.enabled (goes_on_by m.later)

-- such a place is known
pub fast_known : (v : View) (place : ℕ) → IsFast (now v) place → IsKnown v place
fast_known v _ at_next log m = ((state_of v.start v.words log).next, shown_next)
fast_known v _ at_anchor log m = ((state_of v.start v.words log).anchor, shown_slot)
fast_known v _ (in_piece base k p e less) log m = let it = grow v log m base p e in
    let size = same_size p it.0 it.2 in let word = get_or (words_of it.0) k 0 in
    (word, shown_row base it.0 k it.1 (slice_get-get_or (words_of it.0) k 0 (omega arith)))

-- the place of a slot is such
pub slot_fast : (v : View) → IsSound v → (node i word : ℕ) → SlotHolds (now v) node i word
    → IsFast (now v) (place_of_slot (now v) node i)
slot_fast v s node i word (in_anchor a b e) =
    subst (λ n. IsFast (now v) (place_of_slot (now v) n i)) (sym a) at_anchor
slot_fast v s node i word (in_row r e at) =
    let keys = (shaped v.start v.words v.log s.lawful.enabled node (Inner r) e).keys in
    let same : node + (4 + length r.keys + i) ≡ slot_place node r.degree i = omega arith in
    subst (IsFast (now v))
    (same ∙ sym (place_of_row (now v) node i r
    (anchor_free v.start v.words v.log s.lawful.enabled) e))
    (in_piece node (4 + length r.keys + i) (Inner r) e
    (get_below (words_of (Inner r)) (4 + length r.keys + i) word (get-words_of_slot r i ∙ at)))

-- ---- words that are gone

-- an exchange whose word is gone fails, so that it may be named for any event of the caller
pub gone_missed : (v : View) (event : Event) → CanMake v event → (place old new : ℕ)
    → IsKnown v place → IsGone v place old → CanExchange v place old new event
gone_missed v event make place old new known gone = grind arith

-- what is shown as the status of a node after a log that may come is its status there
pub status_after : (v : View) (node : ℕ) (row : InnerRow) → (now v).pieces node ≡ Some (Inner row)
    → (log : Log) → MayCome v log → (word : ℕ)
    → IsShown (state_of v.start v.words log) (node + inner_status_offset) word
    → StatusGoesOn row.status word
status_after v node row e log m word shown = let u = state_of v.start v.words log in
    let on = inner_there (now v).pieces u.pieces (grow v log m) node row e in
    let is : word ≡ on.0.status =
    shown_in_row v.start v.words log m.lawful.enabled node (Inner on.0) 0 on.0.status on.1 refl
    (node + inner_status_offset) word shown refl in
    subst (StatusGoesOn row.status) (sym is) on.2.status

-- an open status was open
from_open : (old : ℕ) → StatusGoesOn old open_word → old ≡ open_word
from_open old (status_stays e) = sym e
from_open old (is_marked e f) = e
from_open old (is_finished k e f) = absurd (omega arith)
from_open old (is_closed k e f) = e

-- no finished status goes on to marked
from_finished : (k : ℕ) → StatusGoesOn (finished_word k) marked_word → ⊥
from_finished k (status_stays e) = omega arith
from_finished k (is_marked e f) = omega arith
from_finished k (is_finished n e f) = omega arith
from_finished k (is_closed n e f) = omega arith

-- a node that isn't open is never open again
pub open_gone : (v : View) (node : ℕ) (row : InnerRow) → (now v).pieces node ≡ Some (Inner row)
    → row.status ≢ open_word → IsGone v (node + inner_status_offset) open_word
open_gone v node row e shut log m shown = grind (arith, from_open, status_after)

-- a finished node is never marked again
pub mark_gone : (v : View) (node k : ℕ) (row : InnerRow) → (now v).pieces node ≡ Some (Inner row)
    → row.status ≡ finished_word k → IsGone v (node + inner_status_offset) marked_word
mark_gone v node k row e is log m shown = grind (arith, from_finished, status_after)

-- ---- an event that is enabled in the caller's log may be made, whatever others do meanwhile. Serves
-- `laws.enabled_events_come`.

module _ (v : View) (s : IsSound v) where
  -- the place that an enabled exchange touches
  touched : (place old new : ℕ) (event : Event) → ComesAt v v.log event place old new
      → (touch : Touch) → touch_of (now v) event ≡ Some touch → IsFast (now v) touch.place
      → IsFast (now v) place
  touched place old new event c touch is fast = grind (arith, same_value)

  place_fast : (place old new : ℕ) (event : Event) → IsExchange event
      → ComesAt v v.log event place old new → IsFast (now v) place
  place_fast place old new (Reserve caller base size) x c =
      touched place old new (Reserve caller base size) c _ refl at_next
  place_fast place old new (Install caller base rows) x c = let can = c.enabled in
      touched place old new (Install caller base rows) c _
      (ap (λ xs. touch_of (now v) (Install caller base xs)) can.rows_are)
      (slot_fast v s can.change.node can.change.index can.change.from can.in_slot)
  place_fast place old new (Decide caller base said) x c = let can = c.enabled in
      touched place old new (Decide caller base said) c _ refl
      (in_piece base 0 (Change can.change) can.pending.published (omega arith))
  place_fast place old new (Resolve caller base) x c = let can = c.enabled in
      touched place old new (Resolve caller base) c _
      (ap (λ o. touch_of_resolve (now v) base (as_change o)) can.published)
      (slot_fast v s can.change.node can.change.index _ can.in_slot)
  place_fast place old new (Mark caller node) x c = let can = c.enabled in
      touched place old new (Mark caller node) c _ refl
      (in_piece node 0 (Inner can.row) can.published (omega arith))
  place_fast place old new (Finish caller node keys) x c = let can = c.enabled in
      touched place old new (Finish caller node keys) c _ refl
      (in_piece node 0 (Inner can.row) can.published (omega arith))
  place_fast place old new (Root caller rebuild word rows) x c = let can = c.enabled in
      touched place old new (Root caller rebuild word rows) c _ refl
      (in_piece rebuild 3 (Rebuild can.row) can.published (omega arith))
  place_fast place old new (Place caller rebuild i word rows) x c = let can = c.enabled in
      touched place old new (Place caller rebuild i word rows) c _
      (ap (λ o. touch_of_place (now v) o i word) (ap as_rebuild can.published)
      ∙ ap (λ o. touch_in_root (now v) o i word) can.root_is)
      (slot_fast v s can.root i _ (in_row can.root_row can.root_published can.free))
  place_fast place old new _ x c = absurd x

  -- ---- after a log that may come

  module _ (log : Log) (m : MayCome v log) where
    abbrev u : Snapshot
    u = state_of v.start v.words log

    -- the further events are made by others than the caller
    others : {who : Who} → who ≡ v.who → Later who v.log log
    others mine = subst (λ who. Later who v.log log) (sym mine) m.later

    -- an enabled exchange is still enabled if its word is still there
    enabled_still : (event : Event) → IsExchange event → CanMake v event
        → Enabled (start v.start v.words) v.log event → FindsItsWord (now v) u event
        → Enabled (start v.start v.words) log event
    enabled_still (Reserve caller base size) x k can f =
        reserve_stays v.start v.words m.lawful.opens caller
        (others k.mine) m.lawful.enabled base size can f
    enabled_still (Install caller base rows) x k can f =
        install_stays v.start v.words m.lawful.opens caller
        (others k.mine) m.lawful.enabled base rows can f
        (λ change is. none_refused v.start v.words s.lawful.opens v.log s.lawful.enabled caller
        (k.allowed change is).resolved u change.node)
    enabled_still (Decide caller base said) x k can f =
        changes.decide_stays v.start v.words m.lawful.opens v.log log (goes_on_by m.later)
        m.lawful.enabled caller base said can f
    enabled_still (Resolve caller base) x k can f =
        changes.resolve_stays v.start v.words m.lawful.opens v.log log (goes_on_by m.later)
        m.lawful.enabled caller base can f
    enabled_still (Mark caller node) x k can f =
        changes.mark_stays v.start v.words v.log log (goes_on_by m.later) m.lawful.enabled caller
        node can f
    enabled_still (Finish caller node keys) x k can f =
        changes.finish_stays v.start v.words v.log log (goes_on_by m.later) m.lawful.enabled caller
        node keys can f
    enabled_still (Root caller rebuild word rows) x k can f =
        builds.root_stays v.start v.words m.lawful.opens caller
        (others k.mine) m.lawful.enabled rebuild word rows can f
    enabled_still (Place caller rebuild i word rows) x k can f =
        builds.place_stays v.start v.words m.lawful.opens caller
        (others k.mine) m.lawful.enabled rebuild i word rows can f
    enabled_still _ x k can f = absurd x

    -- an exchange adds nothing
    adds_nothing : (event : Event) → IsExchange event → AddsNothing event
    adds_nothing (Enter caller) x = absurd x
    adds_nothing (Count caller node) x = absurd x
    adds_nothing (Draw caller rebuild part) x = absurd x
    adds_nothing _ x = tt

    comes_still : (event : Event) → IsExchange event → CanMake v event → (place old new : ℕ)
        → ComesAt v v.log event place old new → IsShown u place old
        → ComesAt v log event place old new
    comes_still event x k place old new c shown =
        grind (arith, enabled_still, touch_stays, goes_on_by, adds_nothing)

  -- an enabled exchange may be made
  pub exchange_comes : (event : Event) → IsExchange event → CanMake v event → (place old new : ℕ)
      → ComesAt v v.log event place old new → CanExchange v place old new event
  exchange_comes event x k place old new c = record {
    make = k;
    known = fast_known v place (place_fast place old new event x c);
    comes = λ log m shown. comes_still log m event x k place old new c shown;
  }
