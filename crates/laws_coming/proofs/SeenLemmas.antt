-- How a caller has seen Unset at a place, and keeps having seen it. Serves `laws.builds_come`.
use Rattle.std.proofs.Common.{◌≡◌, ℕ, sym, ap, ap₂, ◌∙◌, subst, inl, inr, ◌≢◌, ◌<◌, List, slice_get, Some, ⊎_elim, arith}
use Rattle.ist_core.specs.WordTerms.{unset_word, degree, part_len, shape, ref_of, Inner, as_rebuild, start, SlotHolds, in_row}
use Rattle.ist_core.specs.LogTerms.{Log, state_of, no_more, one_more, LaterBy, IsShown, bases_of, sizes_of, same_log, IsBuild, build_part}
use Rattle.ist_rule.specs.RuleTerms.{now, Looked, IsKnown, WentOn, IsSound, MayCome, CanMake, StoredAll, CanExchange, LeavesAt, CanExchangeOrLose}
use Rattle.ist_rule.specs.declared.view.View.{View}
use Rattle.ist_core.specs.declared.events.Who.{Who}
use Rattle.ist_core.specs.declared.events.Who.TheVariants.{Caller}
use Rattle.ist_core.specs.declared.events.Event.TheVariants.{Place, Lose}
use Rattle.ist_core.specs.declared.lists.Row.{Row}
use Rattle.ist_rule.proofs.EventLemmas.{looked_goes_on, may_come_before}
use Rattle.laws_coming.specs.Builds.{EndsBuild, EndsNone, WasUnset, IsPartBuilt}
use Rattle.laws_coming.proofs.BeatenLemmas.{others_build, without_later}
use Rattle.std.proofs.lemmas.Bool.Decides.{eqb_tells}
use Rattle.std.proofs.lemmas.Option.{slice_get-get_or}
use Rattle.std.specs.Prelude.{get_or}
use Rattle.ist_core.specs.TreeTerms.{CanPlace, IsBeaten, place_of_slot, touch_of_place, touch_in_root}
use Rattle.ist_core.proofs.AllEventLemmas.{held_free}
use Rattle.ist_core.proofs.AllLogLemmas.{enabled_before, slot_remains, goes_on_by, set_by}
use Rattle.ist_core.proofs.AllPlaceLemmas.{anchor_free, shaped, slot_once}
use Rattle.laws_links.proofs.InductionLemmas.{sound_after}
use Rattle.laws_links.proofs.NumberLemmas.{number_is}
use Rattle.laws_stability.proofs.SetLemmas.{set_later}
use Rattle.laws_stability.proofs.HoldingLemmas.{place_later, place_of_row, slot_word}
use Rattle.laws_coming.proofs.KnownLemmas.{exchange_comes, IsFast, grow, slot_fast, fast_known, gone_missed}
use Rattle.laws_coming.proofs.FilledLemmas.{beaten_part, slot_was, part_length, part_sizes}
use Rattle.laws_coming.proofs.RootLemmas.{rows_lost}

-- a load that gives Unset has seen it
pub unset_seen : (v w : View) (caller place : ℕ) → IsKnown v place → Looked v place unset_word w
    → WasUnset w caller place
unset_seen v w caller place known l = let g = looked_goes_on v place unset_word w l in
    let it = known w.log (may_come_before v w g w.log record {
      later = no_more;
      lawful = l.sound.lawful;
    }) in
    let same : state_of v.start v.words w.log ≡ now w =
    ap₂ (λ p n. state_of p n w.log) (sym (ap (λ x. x.start) g.same))
    (sym (ap (λ x. x.words) g.same)) in
    let shown : IsShown (now w) place it.0 = subst (λ t. IsShown t place it.0) same it.1 in record {
      prefix = w.log;
      since = no_more;
      shown = subst (IsShown (now w) place) (sym (l.stood it.0 shown)) shown;
    }

-- a log that goes on by events of others, and by own ones that end no build, ends none
without_own : (caller : ℕ) {who : Who} {a b c : Log} → who ≡ Caller caller → EndsNone caller a b
    → LaterBy who (λ event. ¬ (EndsBuild caller event)) b c → EndsNone caller a c
without_own caller mine g no_more = g
without_own caller mine g (one_more event k (inl other)) =
    one_more event (without_own caller mine g k)
    (others_build caller event (λ e. other (e ∙ sym mine)))
without_own caller mine g (one_more event k (inr is)) = one_more event (without_own caller mine g k) is

-- what was seen so was seen so
pub unset_still : (v w : View) (caller place : ℕ) → v.who ≡ Caller caller
    → WentOn (λ event. ¬ (EndsBuild caller event)) v w → WasUnset v caller place
    → WasUnset w caller place
unset_still v w caller place mine g was = grind (arith, without_own)

-- ---- what was built for a part of a shared root may be put in place, or lost. Serves
-- `laws.builds_come`.

module _ (v : View) (s : IsSound v) (number rebuild i word : ℕ) (rows : List Row)
    (mine : v.who ≡ Caller number) (stored : StoredAll v rows)
    (b : IsPartBuilt (now v) number rebuild i word rows) (place : ℕ)
    (at : place ≡ place_of_slot (now v) b.root i) where
  make_place : CanMake v (Place number rebuild i word rows)
  make_place = record { mine = sym mine; stored = stored; allowed = tt }

  -- the slot has a word
  slot_now : (w : ℕ) × (slice_get b.root_row.slots i ≡ Some w)
  slot_now =
      let slots = (shaped v.start v.words v.log s.lawful.enabled b.root (Inner b.root_row)
      b.root_published).slots in
      let less = b.within in
      (get_or b.root_row.slots i 0, slice_get-get_or b.root_row.slots i 0 (omega arith))

  holds_now : SlotHolds (now v) b.root i slot_now.0
  holds_now = in_row b.root_row b.root_published slot_now.1

  -- what is shown at its place after a log that may come is its word there
  slot_after : (log : Log) → MayCome v log → (found : ℕ)
      → IsShown (state_of v.start v.words log) place found
      → SlotHolds (state_of v.start v.words log) b.root i found
  slot_after log m found shown = let u = state_of v.start v.words log in
      let there = slot_remains (now v) u (grow v log m) b.root i slot_now.0 holds_now in
      let is : place ≡ place_of_slot u b.root i =
      at ∙ sym (place_later v.start v.words v.log log (goes_on_by m.later) m.lawful.enabled
      b.root i slot_now.0 holds_now) in
      subst (SlotHolds u b.root i)
      (sym (slot_word v.start v.words log m.lawful.enabled b.root i there.0 there.1 found
      (subst (λ p. IsShown u p found) is shown))) there.1

  -- the exchange of the slot may be the Place
  pub part_comes : CanExchange v place unset_word word (Place number rebuild i word rows)
  part_comes =
      ⊎_elim (λ none. exchange_comes v s (Place number rebuild i word rows) tt make_place _ _ _
      record {
        enabled = can (slot_now.1 ∙ ap (λ w. Some w) none.1);
        touches = ap (λ o. touch_of_place (now v) o i word) (ap as_rebuild b.published)
            ∙ ap (λ o. touch_in_root (now v) o i word) b.root_is
            ∙ ap (λ p. Some record { place = p; found = unset_word; left = word }) (sym at);
      })
      (λ set. gone_missed v (Place number rebuild i word rows) make_place _ _ _
      (fast_known v place (subst (IsFast (now v)) (sym at) (slot_fast v s b.root i slot_now.0 holds_now)))
      (λ log m shown.
      let still = set_later v.start v.words s.lawful.opens (goes_on_by m.later) m.lawful.enabled
      b.root i record { word = slot_now.0; holds = holds_now; set = set.1 } in
      still.set (slot_once (state_of v.start v.words log) b.root i still.word unset_word
      (anchor_free v.start v.words log m.lawful.enabled) still.holds
      (slot_after log m unset_word shown))))
      (eqb_tells slot_now.0 unset_word)
    where
      can : slice_get b.root_row.slots i ≡ Some unset_word
          → CanPlace (now v) number rebuild i word rows
      can free = grind arith

  -- the rows have the sizes of the part
  sizes_fit : (sizes_of rows ≡ shape (part_len b.k i)) × (i < degree b.k)
  sizes_fit =
      let many = number_is v.start v.words s.lawful.opens v.log s.lawful.enabled b.row.target b.k
      b.leaves b.finished b.reached in
      let long = part_length b.leaves b.part i b.part_is in (
        part_sizes (now v).pieces rows b.ref b.part b.root b.once
            (held_free (now v) number rows b.held
            (sound_after v.start v.words v.log s.lawful.enabled)) b.ideal
            ∙ ap shape (long.1 ∙ ap (λ n. part_len n i) many),
        subst (λ n. i < degree n) many long.0,
      )

  -- the rows are lost if the slot isn't Unset any more
  part_loses : WasUnset v number place → (log : Log) → MayCome v log → (found : ℕ)
      → IsShown (state_of v.start v.words log) place found → found ≢ unset_word
      → LeavesAt v log (Lose number (bases_of rows)) place found
  part_loses was log m found shown differs =
      let since = without_later number mine was.since m.later in
      let set : b.row.root ≢ unset_word = set_by b.row.root _ b.root_is (λ q. cc) in
      let first = enabled_before (start v.start v.words) was.prefix v.log
      (goes_on_by was.since) s.lawful.enabled in
      let slot = slot_was v.start v.words was.prefix v.log (goes_on_by was.since)
      s.lawful.enabled b.root i b.root_row b.root_published b.within place unset_word was.shown
      (at ∙ place_of_row (now v) b.root i b.root_row
      (anchor_free v.start v.words v.log s.lawful.enabled) b.root_published) (λ e. omega arith) in
      rows_lost v s number rebuild b.k rows mine b.row b.published b.started b.finished b.once
      b.held (subst (IsBuild b.k) (sym sizes_fit.0) (build_part i b.shared sizes_fit.1)) log m place
      found
      (λ r there grows done. subst (λ sizes. IsBeaten number sizes log) (sym sizes_fit.0)
      (beaten_part v.start v.words s.lawful.opens number b.k log m.lawful.enabled rebuild b.root i r
      there (ap (λ w. ref_of w) (grows.rooted set) ∙ b.root_is) done was.prefix slot log since
      same_log m.lawful.enabled found (slot_after log m found shown) differs
      (λ w holds. slot_once (state_of v.start v.words was.prefix) b.root i w unset_word
      (anchor_free v.start v.words was.prefix first) holds slot)))

  -- the exchange of the slot may be the Place, or the Lose if it fails
  pub part_comes_or_loses : WasUnset v number place
      → CanExchangeOrLose v place unset_word word (Place number rebuild i word rows)
      (Lose number (bases_of rows))
  part_comes_or_loses was = grind (arith, part_comes, part_loses)
