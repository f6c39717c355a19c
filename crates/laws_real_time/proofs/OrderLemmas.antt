-- Calls that are placed in their time have an order that keeps real time. Serves
-- `laws.placed_calls_are_linearizable`.
use Rattle.std.proofs.Common.{◌≡◌, ◌⊎◌, ℕ, ◌+◌, ◌<◌, not, true, false, List, [], ◌∷◌, length, slice_get, Some, refl, sym, ap, ◌∙◌, subst, inl, inr, ⊎_elim, arith}
use Rattle.std.proofs.lemmas.Option.{slice_get_within}
use Rattle.ist_core.specs.TreeTerms.{Map, Entry, map_at, map_after_entries, is_change, entry_by}
use Rattle.ist_core.specs.LogTerms.{Among}
use Rattle.ist_core.proofs.AllWordLemmas.{each-among, among_filter, each_of}
use Rattle.laws_real_time.specs.Moments.{Moments, in_call, Ended, ended}
use Rattle.laws_real_time.specs.RealTime.{TimedCall, timed, returned_calls, IsInProgress, Precedes, IsSameCall, AreOnce, KeepRealTime, IsLinearizable}
use Rattle.laws_real_time.specs.Joining.{LinearizesTo}
use Rattle.laws_real_time.specs.Timing.{AreInTime}
use Rattle.laws_real_time.proofs.PairLemmas.{Pairwise, each_map, pairwise_filter}
use Rattle.laws_real_time.proofs.ChangeCountLemmas.{changes_rise, readings, IsByEnded, IsByBegun, OwnsChange, placed_of, HasOwners, the_owners, reading_of}
use Rattle.laws_real_time.proofs.MomentLemmas.{begun_in, ended_in, ended_before, AreApartInTime, same_call, comes_first, comes_later, ended_apart, ended_in_order}
use Rattle.laws_real_time.proofs.WeaveLemmas.{weave, IsSpot, owns, reads, woven_at, weave_pairs, owner_at, reading_among}
use Rattle.laws_real_time.proofs.ReplyLemmas.{LeavesMap, reading_leaves, weave_replied, weave_leads}
use Rattle.laws_real_time.proofs.CallTimeLemmas.{IsBefore, apart, both_read, read_first, to_past}
use Rattle.laws_histories.proofs.ItemLemmas.{among_map}

module _ (m : Map) (entries : List Entry) (moments : Moments)
    (all : AreInTime m entries moments) where
  -- the call made the change at the position
  abbrev OwnsAt : ℕ → TimedCall → Type 0
  OwnsAt = OwnsChange m entries moments all

  -- the calls of all changes
  abbrev owners : HasOwners m entries moments all 0 entries
  owners = the_owners m entries moments all

  abbrev the_order : List TimedCall
  the_order = weave 0 owners.calls (readings moments)

  pairs : Pairwise IsBefore the_order
  pairs = weave_pairs OwnsAt (readings moments) IsBefore
      (pairwise_filter (λ x y. x.time < y.time) (λ x. not (is_change x.call)) (ended moments)
      (ended_in_order moments))
      (both_read m entries moments all) (read_first m entries moments all) (apart m entries moments all) 0 owners.calls owners.own

  once_from : (ts : List TimedCall) → Pairwise IsBefore ts → AreOnce ts
  once_from [] p = tt
  once_from (t ∷ ts) p = (
    each_of (λ u. ¬ (IsSameCall t u)) ts (λ u i. (each-among (IsBefore t) u ts p.0 i).1),
    once_from ts p.1,
  )

  time_from : (ts : List TimedCall) → Pairwise IsBefore ts → KeepRealTime ts
  time_from [] p = tt
  time_from (t ∷ ts) p = (
    each_of (λ u. ¬ (Precedes u t)) ts (λ u i. (each-among (IsBefore t) u ts p.0 i).0),
    time_from ts p.1,
  )

  -- each of the order is a call of the moments
  call_of : (t : TimedCall) → Among t the_order
      → Among t (returned_calls moments) ⊎ IsInProgress moments t
  call_of t i = let it = woven_at OwnsAt (readings moments) 0 owners.calls owners.own t i in
      at it.at it.spot
    where
      is_one : (x : Ended) → Among x (ended moments) → t ≡ timed x
          → Among t (returned_calls moments)
      is_one x j e = grind (arith, among_map)

      at : (position : ℕ) → IsSpot OwnsAt (readings moments) position t
          → Among t (returned_calls moments) ⊎ IsInProgress moments t
      at position (reads x j e is) = inl (is_one x (reading_of m entries moments all x j).among is)
      at position (owns o) = ⊎_elim (λ b. inl (is_one b.call b.among b.is))
          (λ b. inr
          (subst (IsInProgress moments) (sym b.is)
          record {
            begun = b.of.begun;
            in_it = b.of.in_it;
            began = refl;
            command = b.of.command;
            returned = refl;
          })) o.by

  -- each call that returned is in the order
  change_among : (x : Ended) → Among x (ended moments) → is_change x.call ≡ true
      → Among (timed x) the_order
  change_among x i change = let made = (placed_of m entries moments all x i).made change in
      let low : x.call.position < length owners.calls
      = omega (arith, slice_get_within entries x.call.position (entry_by x.caller x.call) made, owners.long) in
      let it =
      owner_at OwnsAt (readings moments) 0 owners.calls owners.own x.call.position low in
      let here : 0 + x.call.position ≡ x.call.position = omega arith in
      at made it.call (subst (λ p. OwnsAt p it.call) here it.own) it.among
    where
      at : slice_get entries x.call.position ≡ Some (entry_by x.caller x.call) → (t : TimedCall)
          → OwnsAt x.call.position t → Among t the_order → Among (timed x) the_order
      at made t o k = ⊎_elim (λ b. subst (λ z. Among z the_order) (b.is ∙ ap timed (sym (one b))) k)
          (λ b. absurd (none b)) o.by
        where
          same : o.entry ≡ entry_by x.caller x.call
          same = cc (o.at)

          -- both are the change at one position
          one : (b : IsByEnded m entries moments all x.call.position t) → x ≡ b.call
          one b = near (ended_apart moments x b.call i b.among owners)
            where
              others : slice_get entries x.call.position ≡ Some (entry_by b.call.caller b.call.call)
              others = subst (λ p. slice_get entries p ≡ Some (entry_by b.call.caller b.call.call))
                  b.position_is ((placed_of m entries moments all b.call b.among).made b.change)

              owners : x.caller ≡ b.call.caller
              owners =
                  let same : entry_by x.caller x.call ≡ entry_by b.call.caller b.call.call = cc (made, others) in
                  ap (λ (e : Entry). e.owner) same

              near : AreApartInTime x b.call → x ≡ b.call
              near (same_call e) = e
              near (comes_first l) = let a = ended_in moments x i in
                  let c = ended_in moments b.call b.among in
                  let past = to_past m entries moments all x (placed_of m entries moments all x i) change in
                  let from = (placed_of m entries moments all b.call b.among).from in
                  let place = b.position_is in
                  let rise =
                  changes_rise moments all.never_fall x.time b.call.begun.time (omega arith)
                  (omega (arith, c.before, c.within)) in
                  absurd (omega (arith, a.changes, c.from, past, from, place, rise))
              near (comes_later l) = let a = ended_in moments b.call b.among in
                  let c = ended_in moments x i in
                  let past = to_past m entries moments all b.call (placed_of m entries moments all b.call b.among) b.change in
                  let from = (placed_of m entries moments all x i).from in
                  let place = b.position_is in
                  let rise =
                  changes_rise moments all.never_fall b.call.time x.begun.time (omega arith)
                  (omega (arith, c.before, c.within)) in
                  absurd (omega (arith, a.changes, c.from, past, from, place, rise))

          -- a call in progress made its change later
          none : IsByBegun m entries moments all x.call.position o.entry t → ⊥
          none b = let owner : o.entry.owner ≡ x.caller = ap (λ (e : Entry). e.owner) same in
              let late =
              ended_before moments x b.of.begun i
              (subst (λ n. in_call n moments ≡ Some b.of.begun) owner b.of.in_it) in
              let a = ended_in moments x i in
              let c = begun_in o.entry.owner moments b.of.begun b.of.in_it in
              let past = to_past m entries moments all x (placed_of m entries moments all x i) change in
              let from = b.of.from in
              let rise =
              changes_rise moments all.never_fall x.time b.of.begun.time (omega (arith, late)) c.within in
              absurd (omega (arith, a.changes, c.changes, past, from, rise))

  reading_in : (x : Ended) → Among x (ended moments) → is_change x.call ≡ false
      → Among (timed x) the_order
  reading_in x i plain = let read = (placed_of m entries moments all x i).read plain in
      let kept : Among x (readings moments) =
      among_filter (λ y. not (is_change y.call)) x (ended moments) i (ap not plain) in
      reading_among 0 owners.calls (readings moments) x x.call.position kept (omega arith)
      (omega (arith, read.within, owners.long))

  all_in : (x : Ended) → Among x (ended moments) → Among (timed x) the_order
  all_in x i = grind (arith, change_among, reading_in)

  -- the order has the map's replies
  legal : (x : Ended) → Among x (readings moments) → (j : ℕ) → x.call.position ≡ 0 + j
      → LeavesMap (map_at m entries j) x.call
  legal x i j e = let r = reading_of m entries moments all x i in
      let same : x.call.position ≡ j = omega arith in
      subst (λ p. LeavesMap (map_at m entries p) x.call) same
      (reading_leaves m entries x.call r.plain ((placed_of m entries moments all x r.among).read r.plain))

  pub linearizable : IsLinearizable m moments
  linearizable = record {
    well_formed = all.well_formed;
    order = the_order;
    calls = each_of (λ t. Among t (returned_calls moments) ⊎ IsInProgress moments t) the_order
        call_of;
    all = each_map (λ t. Among t the_order) timed (ended moments) all_in;
    once = once_from the_order pairs;
    legal = weave_replied 0 entries owners.calls (readings moments) m owners.told all.legal legal;
    real_time = time_from the_order pairs;
  }

  -- the order leads to the map after the changes
  pub linearizes : LinearizesTo m moments (map_after_entries m entries)
  unfolding linearizable
  linearizes = record {
    linear = linearizable;
    leads = weave_leads 0 entries owners.calls (readings moments) m owners.told legal;
  }
