-- The slots of a shared root, and what one holds after an exchange. Serves `filling`.
use Rattle.std.proofs.Common.{◌≡◌, ◌≢◌, ℕ, ◌+◌, ◌*◌, ◌/◌, ◌%◌, ◌<◌, ◌≤◌, List, length, length-append, Some, get_or, sym, ap, ◌∙◌, subst, ⊎_elim, arith, inl, inr}
use Rattle.ist_core.specs.declared.events.Event.TheVariants.{Place, Lose, Reserve}
use Rattle.ist_core.specs.declared.lists.Row.{Row}
use Rattle.ist_core.specs.declared.pairs.Pair.{Pair}
use Rattle.ist_core.specs.declared.states.RebuildRow.{RebuildRow}
use Rattle.ist_core.specs.declared.events.Event.{Event}
use Rattle.ist_core.specs.declared.events.Who.{Who}
use Rattle.ist_core.specs.declared.events.Who.TheVariants.{Caller}
use Rattle.ist_core.specs.LogTerms.{Log, after, EachEnabled, state_of, Snapshot, IsShown, shown_row, no_more, one_more, LaterBy}
use Rattle.ist_core.specs.WordTerms.{degree, part_len, part_start, Inner, Rebuild, InnerAt, ref_of, unset_word, slot_place, share_from, share_from_is, SlotHolds, in_anchor, in_row, start}
use Rattle.ist_core.specs.TreeTerms.{AllGrow, place_of_slot}
use Rattle.ist_core.proofs.AllLogLemmas.{grow_between, inner_there, rebuild_there, set_by}
use Rattle.ist_core.proofs.AllPlaceLemmas.{get-words_of_slot, anchor_free, place_writes}
use Rattle.ist_core.proofs.AllWordLemmas.{part_len-long, part_len-short, least_degree-le, same_rebuild}
use Rattle.std.proofs.lemmas.Bool.{cases_lt}
use Rattle.std.proofs.Math.Nat.{le-div_iff_mul-le}
use Rattle.ist_core.proofs.AllEventLemmas.{sound, sound_start}
use Rattle.laws_links.proofs.FormLemmas.{finished_with_grows, started_grows}
use Rattle.laws_links.proofs.ReturnLemmas.{one_inner}
use Rattle.ist_rule.specs.RuleTerms.{IsSound, now, Looked, Logged, LoggedLoad}
use Rattle.ist_rule.specs.declared.view.View.{View}
use Rattle.ist_rule.proofs.EventLemmas.{looked_goes_on}
use Rattle.ist_rule.proofs.LaterLemmas.{later-goes_on}
use Rattle.std.proofs.lemmas.Option.{slice_get-get_or}
use Rattle.ist_dcss.proofs.SlotPlaceLemmas.{has_degree}
use Rattle.ist_mark.proofs.MarkLemmas.{before_enabled}
use Rattle.laws_stability.proofs.HoldingLemmas.{place_of_row}
use Rattle.laws_coming.specs.Builds.{WasUnset, EndsBuild, EndsNone}
use Rattle.laws_coming.proofs.KnownLemmas.{IsFast, fast_known, in_piece}
use Rattle.laws_coming.proofs.SeenLemmas.{unset_seen}
use Rattle.ist_build.specs.Calls.{MayBuild, share_part}
use Rattle.ist_build.specs.declared.shared.SharedRoot.{SharedRoot}
use Rattle.ist_build.specs.Putting.{IsRowOfDegree, IsSlotSet, IsShared}
use Rattle.ist_build.specs.Back.{IsSharedAs}
use Rattle.ist_build.proofs.BuiltLemmas.{built_grow, loads_built}
use Rattle.ist_build.proofs.FewLemmas.{degree_small}
use Rattle.laws_coming.proofs.BeatenLemmas.{others_build}
use Rattle.ist_build.specs.Laying.{IsReservation, BuiltOn}

-- ---- slots

-- a row keeps its number of slots as pieces grow
pub degree_on : (t u : Snapshot) → AllGrow t.pieces u.pieces → (node d : ℕ) → IsRowOfDegree t node d
    → IsRowOfDegree u node d
degree_on t u g node d h = grind (arith, inner_there)

-- where a slot lies
module _ (pairs : List Pair) (words : ℕ) (log : Log) (enabled : EachEnabled (start pairs words) log)
    (node d i : ℕ) (h : IsRowOfDegree (state_of pairs words log) node d) (less : i < d) where
  abbrev t : Snapshot
  t = state_of pairs words log

  abbrev offset : ℕ
  offset = 4 + length h.row.keys + i

  at_place : slot_place node d i ≡ node + offset
  at_place = grind (arith, has_degree)

  -- the row has a slot i
  pub within : i < length h.row.slots
  within = let it = has_degree pairs words log enabled node h.row h.published in
      let many = it.slots in let same = h.degree_is in omega arith

  -- slot i holds the word at i in the row's slots
  pub slot_holds : SlotHolds t node i (get_or h.row.slots i 0)
  slot_holds = in_row h.row h.published (slice_get-get_or h.row.slots i 0 within)

  -- the table shows there what it holds
  pub slot_shown : IsShown t (slot_place node d i) (get_or h.row.slots i 0)
  slot_shown = subst (λ p. IsShown t p (get_or h.row.slots i 0)) (sym at_place)
      (shown_row node (Inner h.row) offset h.published
      (get-words_of_slot h.row i ∙ slice_get-get_or h.row.slots i 0 within))

  -- all callers may read the slot's word, after each longer log too
  pub slot_fast : IsFast t (slot_place node d i)
  slot_fast = let both = length-append h.row.keys h.row.slots in let inside = within in
      subst (IsFast t) (sym at_place) (in_piece node offset (Inner h.row) h.published (omega arith))

  -- the place computed from the degree is the place of the slot
  pub slot_is_place : slot_place node d i ≡ place_of_slot t node i
  slot_is_place = grind (arith, place_of_row, anchor_free)

-- a load of it gives what it holds
pub slot_looked : (v w : View) (node d i place word : ℕ) → IsRowOfDegree (now v) node d → i < d
    → place ≡ slot_place node d i → Looked v place word w → word ≢ unset_word
    → IsSlotSet (now w) node i
slot_looked v w node d i place word h less at l set =
    let on = degree_on (now v) (now w) (built_grow v w (loads_built v w (looked_goes_on v place word w l)))
    node d h in
    let is = l.stood (get_or on.row.slots i 0)
    (subst (λ p. IsShown (now w) p (get_or on.row.slots i 0)) (sym at)
    (slot_shown w.start w.words w.log l.sound.lawful.enabled node d i on less)) in
    record {
      word = get_or on.row.slots i 0;
      holds = slot_holds w.start w.words w.log l.sound.lawful.enabled node d i on less;
      set = λ e. set (is ∙ e);
    }

-- a slot that a load found Unset was seen Unset
pub slot_unset : (v w : View) → IsSound v → (node d i place word number : ℕ)
    → IsRowOfDegree (now v) node d → i < d → place ≡ slot_place node d i → Looked v place word w
    → word ≡ unset_word → WasUnset w number (slot_place node d i)
slot_unset v w s node d i place word number h less at l is =
    unset_seen v w number (slot_place node d i)
    (fast_known v _ (slot_fast v.start v.words v.log s.lawful.enabled node d i h less))
    (subst (λ x. Looked v (slot_place node d i) x w) is (subst (λ p. Looked v p word w) at l))

-- ---- shared roots

-- a shared root stays shared as pieces grow
pub shared_on : (t u : Snapshot) → AllGrow t.pieces u.pieces → (rebuild target root k : ℕ)
    → IsShared t rebuild target root k → IsShared u rebuild target root k
shared_on t u g rebuild target root k h =
    let it = rebuild_there t.pieces u.pieces g rebuild h.row h.published in
    let set = set_by h.row.root _ h.root_is (λ q. cc) in record {
      row = it.0;
      published = it.1;
      target_is = it.2.target ∙ h.target_is;
      started = started_grows t u g rebuild h.started;
      finished = finished_with_grows t u g target k h.finished;
      shared = h.shared;
      root_is = ap ref_of (it.2.rooted set) ∙ h.root_is;
      node = degree_on t u g root (degree k) h.node;
    }

-- its root has a slot for each part
pub shared_slots : (t : Snapshot) (s : SharedRoot) → IsSharedAs t s → IsRowOfDegree t s.root s.degree
shared_slots t s h = subst (IsRowOfDegree t s.root) (sym h.degree_is) h.is.node

-- each part may be built
pub shared_share : (t : Snapshot) (s : SharedRoot) (i start len : ℕ) → IsSharedAs t s → i < s.degree
    → start ≡ part_start s.keys i → len ≡ part_len s.keys i → MayBuild t s.target start len
shared_share t s i start len h less start_is len_is = record {
  rebuild = s.rebuild;
  row = h.is.row;
  published = h.is.published;
  target_is = h.is.target_is;
  started = h.is.started;
  k = s.keys;
  finished = h.is.finished;
  share = share_part i h.is.shared (subst (λ n. i < n) h.degree_is less) start_is len_is;
}

-- a part has two keys or more
pub part_two : (k i : ℕ) → share_from ≤ k → 2 ≤ part_len k i
part_two k i many = let number = share_from_is in let half = degree_small k (omega arith) in
    let two : 2 ≤ k / degree k = twice_div k (degree k) (least_degree-le k) half in ⊎_elim
    (λ long. let is = part_len-long k i long in omega arith)
    (λ short. let is = part_len-short k i short in omega arith) (cases_lt i (k % degree k))
  where
    twice_div : (n d : ℕ) → 2 ≤ d → 2 * d ≤ n → 2 ≤ n / d
    twice_div n d some le = (le-div_iff_mul-le (omega arith)).1 le

-- ---- after the exchange

-- after a Place the slot is set
pub part_put : (v w : View) (number rebuild i word : ℕ) (rows : List Row) (root : ℕ) (row : RebuildRow)
    → (now v).pieces rebuild ≡ Some (Rebuild row) → ref_of row.root ≡ Some (InnerAt root)
    → word ≢ unset_word → Logged v (Place number rebuild i word rows) w → IsSlotSet (now w) root i
part_put v w number rebuild i word rows root row e root_is set l =
    let event = Place number rebuild i word rows in let b = state_of v.start v.words l.before in
    let enabled = before_enabled v event w l in
    let can = (subst (λ (x : View). EachEnabled (start x.start x.words) x.log) l.view
    l.sound.lawful.enabled).1 in
    let it = rebuild_there (now v).pieces b.pieces
    (grow_between v.start v.words v.log l.before enabled (later-goes_on l.later)) rebuild row e in
    let kept = it.2.rooted (set_by row.root _ root_is (λ q. cc)) in
    let row_is = same_rebuild (b.pieces rebuild) can.row it.0 can.published it.1 in
    let same : can.root ≡ root =
    one_inner can.root root (sym can.root_is ∙ ap (λ r. ref_of r.root) row_is ∙ ap ref_of kept ∙ root_is) in
    let write = place_writes b number rebuild i word rows can
    (sound (start v.start v.words) l.before (sound_start v.start v.words) enabled)
    (anchor_free v.start v.words l.before enabled) in
    let now_is : now w ≡ after b event = ap (λ x. now x) l.view in record {
      word = word;
      holds = subst (λ t. SlotHolds t root i word) (sym now_is)
          (subst (λ n. SlotHolds (after b event) n i word) same write.now);
      set = set;
    }

-- and after a Lose too
pub part_lost : (v w : View) (number place found : ℕ) (bases : List ℕ) (root d i : ℕ)
    → IsRowOfDegree (now v) root d → i < d → place ≡ slot_place root d i → found ≢ unset_word
    → LoggedLoad v (Lose number bases) place found w → IsSlotSet (now w) root i
part_lost v w number place found bases root d i h less at set l =
    let b = state_of v.start v.words l.before in
    let enabled = (subst (λ (x : View). EachEnabled (start x.start x.words) x.log) l.view
    l.sound.lawful.enabled).0 in
    let on = degree_on (now v) b (grow_between v.start v.words v.log l.before enabled
    (later-goes_on l.later)) root d h in
    let is = l.stood (get_or on.row.slots i 0)
    (subst (λ p. IsShown b p (get_or on.row.slots i 0)) (sym at)
    (slot_shown v.start v.words l.before enabled root d i on less)) in
    let there = slot_holds v.start v.words l.before enabled root d i on less in
    let now_is : now w ≡ after b (Lose number bases) = ap (λ x. now x) l.view in record {
      word = get_or on.row.slots i 0;
      holds = subst (λ t. SlotHolds t root i (get_or on.row.slots i 0)) (sym now_is)
          (lose_holds b number bases root i (get_or on.row.slots i 0) there);
      set = λ e. set (is ∙ e);
    }
  where
    lose_holds : (t : Snapshot) (caller : ℕ) (bs : List ℕ) (node j x : ℕ) → SlotHolds t node j x
        → SlotHolds (after t (Lose caller bs)) node j x
    lose_holds t caller bs node j x (in_anchor a e f) = in_anchor a e f
    lose_holds t caller bs node j x (in_row r e g) = in_row r e g

-- ---- a place that was seen Unset was seen so still when a build has been laid. Serves the calls that
-- put one in place.

-- a reserving ends no build
reserving_ends : (caller : ℕ) (event : Event) → IsReservation event → ¬ (EndsBuild caller event)
reserving_ends caller (Reserve c base size) is = λ e. e
reserving_ends caller _ is = absurd is

without_reserving : (caller : ℕ) {who : Who} {a b c : Log} → who ≡ Caller caller
    → EndsNone caller a b → LaterBy who IsReservation b c → EndsNone caller a c
without_reserving caller mine g no_more = g
without_reserving caller mine g (one_more event k (inl other)) =
    one_more event (without_reserving caller mine g k)
    (others_build caller event (λ e. other (e ∙ sym mine)))
without_reserving caller mine g (one_more event k (inr is)) =
    one_more event (without_reserving caller mine g k) (reserving_ends caller event is)

-- so a place that was seen Unset before a build counts as seen Unset after it
pub unset_built : (v w : View) (caller place : ℕ) → v.who ≡ Caller caller → BuiltOn v w
    → WasUnset v caller place → WasUnset w caller place
unset_built v w caller place mine b was = grind (arith, without_reserving)
