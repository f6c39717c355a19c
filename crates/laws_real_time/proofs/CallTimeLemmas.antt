-- When calls that are placed in their time began and returned, and which comes before which. Serves
-- `laws.placed_calls_are_linearizable`.
-- a test isn't both
use Rattle.std.proofs.Common.{◌≡◌, ℕ, ◌+◌, ◌<◌, ◌≤◌, true, List, length, slice_get, Some, sym, ap, ◌∙◌, subst, ⊎_elim, arith}
use Rattle.std.proofs.lemmas.Option.{same_Some, none-some}
use Rattle.ist_core.specs.TreeTerms.{Map, Entry, is_change}
use Rattle.ist_core.specs.LogTerms.{Among}
use Rattle.laws_real_time.specs.Moments.{Moments, in_call, Ended, ended}
use Rattle.laws_real_time.specs.RealTime.{TimedCall, timed, Precedes, IsSameCall}
use Rattle.laws_real_time.specs.Timing.{IsInTime, IsOfBegun, AreInTime}
use Rattle.laws_real_time.proofs.ChangeCountLemmas.{changes_at, changes_rise, readings, IsByEnded, IsByBegun, OwnsChange, placed_of, IsReadingCall, reading_of}
use Rattle.laws_real_time.proofs.MomentLemmas.{begun_in, ended_in, ended_before, AreApartInTime, same_call, comes_first, comes_later, ended_apart}
use Rattle.laws_real_time.proofs.WeaveLemmas.{IsSpot, owns, reads}

-- the second did not return before the first began, and is another call
abbrev pub IsBefore : TimedCall → TimedCall → Type 0
IsBefore t u = ¬ (Precedes u t) × ¬ (IsSameCall t u)

module _ (m : Map) (entries : List Entry) (moments : Moments)
    (all : AreInTime m entries moments) where
  -- the call made the change at the position
  abbrev OwnsAt : ℕ → TimedCall → Type 0
  OwnsAt = OwnsChange m entries moments all

  -- ---- times

  -- when a call at a position began and returned
  record HasTime (position : ℕ) (t : TimedCall) : Type 0 where
    began : t.began < length moments
    from : changes_at moments t.began ≤ position
    within : (time : ℕ) → t.returned ≡ Some time → time < length moments
    to : (time : ℕ) → t.returned ≡ Some time → position ≤ changes_at moments time

  -- a returned call with the position
  ended_timed : (position : ℕ) (x : Ended) → Among x (ended moments) → x.call.position ≡ position
      → position ≤ x.changes → HasTime position (timed x)
  ended_timed position x i e low = let it = ended_in moments x i in
      let placed = placed_of m entries moments all x i in
      let from : changes_at moments x.begun.time ≤ position
      = omega (arith, it.from, placed.from, e) in
      let within = it.within in let before = it.before in record {
        began = omega arith;
        from = from;
        within = λ time r.
            (let same : x.time ≡ time = same_Some x.time time r in omega (arith, it.within, same));
        to = λ time r.
            (let same : x.time ≡ time = same_Some x.time time r in
            subst (λ n. position ≤ changes_at moments n) same (omega (arith, it.changes, low)));
      }

  -- a call that changes nothing isn't past its position when it returns
  to_here : (x : Ended) → IsInTime m entries x → x.call.position ≤ x.changes
  to_here x placed = grind arith

  -- a change is past its position then
  pub to_past : (x : Ended) → IsInTime m entries x → is_change x.call ≡ true
      → x.call.position + 1 ≤ x.changes
  to_past x placed e = rw e at placed.to

  reading_timed : (position : ℕ) (x : Ended) → IsReadingCall m entries moments all x → x.call.position ≡ position
      → HasTime position (timed x)
  reading_timed position x r e = let to = to_here x (placed_of m entries moments all x r.among) in
      ended_timed position x r.among e (omega arith)

  owner_timed : (position : ℕ) (t : TimedCall) → OwnsAt position t → HasTime position t
  owner_timed position t o = ⊎_elim returned progress o.by
    where
      returned : IsByEnded m entries moments all position t → HasTime position t
      returned b = let to = to_here b.call (placed_of m entries moments all b.call b.among) in
          let same = b.position_is in subst (HasTime position) (sym b.is)
          (ended_timed position b.call b.among b.position_is (omega arith))

      progress : IsByBegun m entries moments all position o.entry t → HasTime position t
      progress b = let it = begun_in o.entry.owner moments b.of.begun b.of.in_it in
          subst (HasTime position) (sym b.is)
          record {
            began = it.within;
            from = omega (arith, it.changes, b.of.from);
            within = λ time r. absurd (none-some time r);
            to = λ time r. absurd (none-some time r);
          }

  -- a returned call that owns a change is past it when it returns
  owner_past : (position : ℕ) (t : TimedCall) → OwnsAt position t → (time : ℕ)
      → t.returned ≡ Some time → position + 1 ≤ changes_at moments time
  owner_past position t o time r = ⊎_elim returned progress o.by
    where
      returned : IsByEnded m entries moments all position t → position + 1 ≤ changes_at moments time
      returned b = let it = ended_in moments b.call b.among in
          let to = to_past b.call (placed_of m entries moments all b.call b.among) b.change in
          let place = b.position_is in
          let same : b.call.time ≡ time =
          same_Some b.call.time time (ap (λ (z : TimedCall). z.returned) (sym b.is) ∙ r) in
          subst (λ n. position + 1 ≤ changes_at moments n) same
          (omega (arith, it.changes, to, place))

      progress : IsByBegun m entries moments all position o.entry t → position + 1 ≤ changes_at moments time
      progress b = absurd (none-some time (ap (λ (z : TimedCall). z.returned) (sym b.is) ∙ r))

  -- ---- how calls are related

  spot_timed : (position : ℕ) (t : TimedCall) → IsSpot OwnsAt (readings moments) position t
      → HasTime position t
  spot_timed position t (owns o) = owner_timed position t o
  spot_timed position t (reads x i e is) =
      subst (HasTime position) (sym is) (reading_timed position x (reading_of m entries moments all x i) e)

  -- a call at a lower position doesn't begin after one at a higher position returned
  in_time : (p q : ℕ) (t u : TimedCall) → HasTime p t → HasTime q u → p < q → ¬ (Precedes u t)
  in_time p q t u a b l h =
      let rise =
      changes_rise moments all.never_fall h.time t.began (omega (arith, h.before)) a.began in
      let to = b.to h.time h.returned in let from = a.from in absurd (omega (arith, rise, to, from))

  -- a call as one that returned, or one in progress
  data IsKnownCall (position : ℕ) (t : TimedCall) : Type 0 where
    known_ended : (x : Ended) → Among x (ended moments) → x.call.position ≡ position
        → t ≡ timed x → IsKnownCall position t
    known_begun : (entry : Entry) → slice_get entries position ≡ Some entry
        → (of : IsOfBegun moments position entry) → t.caller ≡ entry.owner
        → t.began ≡ of.begun.time → IsKnownCall position t

  spot_known : (position : ℕ) (t : TimedCall) → IsSpot OwnsAt (readings moments) position t
      → IsKnownCall position t
  spot_known position t (reads x i e is) = known_ended x (reading_of m entries moments all x i).among e is
  spot_known position t (owns o) = ⊎_elim (λ b. known_ended b.call b.among b.position_is b.is)
      (λ b. known_begun o.entry o.at b.of (ap (λ (z : TimedCall). z.caller) b.is)
      (ap (λ (z : TimedCall). z.began) b.is)) o.by

  -- one returned call: of one caller, begun at one time
  ended_one : (x y : Ended) → Among x (ended moments) → Among y (ended moments)
      → x.caller ≡ y.caller → x.begun.time ≡ y.begun.time → x ≡ y
  ended_one x y i j c b =
      grind (arith, ended_apart, AreApartInTime, same_call, comes_first, ended_in, comes_later)

  -- calls at different positions are different calls
  other_call : (p q : ℕ) (t u : TimedCall) → IsKnownCall p t → IsKnownCall q u → p < q
      → ¬ (IsSameCall t u)
  other_call p q t u (known_ended x i e is) (known_ended y j f iu) l h =
      let c : x.caller ≡ y.caller =
      ap (λ (z : TimedCall). z.caller) (sym is) ∙ h.caller ∙ ap (λ (z : TimedCall). z.caller) iu in
      let b : x.begun.time ≡ y.begun.time =
      ap (λ (z : TimedCall). z.began) (sym is) ∙ h.began ∙ ap (λ (z : TimedCall). z.began) iu in
      let same = ap (λ (z : Ended). z.call.position) (ended_one x y i j c b) in
      absurd (omega (arith, same, e, f, l))
  other_call p q t u (known_ended x i e is) (known_begun entry at of caller began) l h =
      let c : entry.owner ≡ x.caller =
      sym caller ∙ sym h.caller ∙ ap (λ (z : TimedCall). z.caller) is in
      let b : x.begun.time ≡ of.begun.time =
      ap (λ (z : TimedCall). z.began) (sym is) ∙ h.began ∙ began in
      let late =
      ended_before moments x of.begun i
      (subst (λ n. in_call n moments ≡ Some of.begun) c of.in_it) in
      let it = ended_in moments x i in absurd (omega (arith, late, b, it.before))
  other_call p q t u (known_begun entry at of caller began) (known_ended x i e is) l h =
      let c : entry.owner ≡ x.caller =
      sym caller ∙ h.caller ∙ ap (λ (z : TimedCall). z.caller) is in
      let b : x.begun.time ≡ of.begun.time =
      ap (λ (z : TimedCall). z.began) (sym is) ∙ sym h.began ∙ began in
      let late =
      ended_before moments x of.begun i
      (subst (λ n. in_call n moments ≡ Some of.begun) c of.in_it) in
      let it = ended_in moments x i in absurd (omega (arith, late, b, it.before))
  other_call p q t u (known_begun e at of caller began) (known_begun f bt og caller2 began2) l h =
      let same =
      all.once p q e f at bt (sym caller ∙ h.caller ∙ caller2) of og in
      absurd (omega (arith, same, l))

  -- ---- the order

  pub apart : (p q : ℕ) (t u : TimedCall) → IsSpot OwnsAt (readings moments) p t
      → IsSpot OwnsAt (readings moments) q u → p < q → IsBefore t u
  apart p q t u a b l = (
    in_time p q t u (spot_timed p t a) (spot_timed q u b) l,
    other_call p q t u (spot_known p t a) (spot_known q u b) l,
  )

  -- readings at one position, in the order of their returns
  pub both_read : (x y : Ended) → Among x (readings moments) → Among y (readings moments)
      → x.call.position ≡ y.call.position → x.time < y.time → IsBefore (timed x) (timed y)
  both_read x y i j e l = (
    λ h.
        (let same : y.time ≡ h.time = same_Some y.time h.time h.returned in
        let it = ended_in moments x (reading_of m entries moments all x i).among in
        absurd (omega (arith, same, h.before, it.before, l))),
    λ h.
        (let same =
        ap (λ (z : Ended). z.time)
        (ended_one x y (reading_of m entries moments all x i).among (reading_of m entries moments all y j).among h.caller h.began) in
        absurd (omega (arith, same, l))),
  )

  -- a reading comes before the change at its position
  pub read_first : (position : ℕ) (x : Ended) (t : TimedCall) → Among x (readings moments)
      → x.call.position ≡ position → OwnsAt position t → IsBefore (timed x) t
  read_first position x t i e o = (
    λ h.
        (let a = reading_timed position x (reading_of m entries moments all x i) e in
        let rise =
        changes_rise moments all.never_fall h.time x.begun.time (omega (arith, h.before)) a.began in
        let past = owner_past position t o h.time h.returned in let from = a.from in
        absurd (omega (arith, rise, past, from))),
    λ h. ⊎_elim
        (λ b.
        (let c : x.caller ≡ b.call.caller =
        h.caller ∙ ap (λ (z : TimedCall). z.caller) b.is in
        let g : x.begun.time ≡ b.call.begun.time =
        h.began ∙ ap (λ (z : TimedCall). z.began) b.is in
        let one = ended_one x b.call (reading_of m entries moments all x i).among b.among c g in
        absurd (cc (subst (λ (z : Ended). is_change z.call ≡ true) (sym one) b.change, (reading_of m entries moments all x i).plain))))
        (λ b.
        (let c : o.entry.owner ≡ x.caller =
        ap (λ (z : TimedCall). z.caller) (sym b.is) ∙ sym h.caller in
        let g : x.begun.time ≡ b.of.begun.time =
        h.began ∙ ap (λ (z : TimedCall). z.began) b.is in
        let late =
        ended_before moments x b.of.begun (reading_of m entries moments all x i).among
        (subst (λ n. in_call n moments ≡ Some b.of.begun) c b.of.in_it) in
        let it = ended_in moments x (reading_of m entries moments all x i).among in
        absurd (omega (arith, late, g, it.before))))
        o.by,
  )
