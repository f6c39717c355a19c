-- Moments after others: calls begin and return later by as many moments. Serves `laws.histories_join`.
use Rattle.std.proofs.Common.{◌≡◌, ◌≢◌, ◌⊎◌, ℕ, ◌+◌, ◌==◌, Bool, true, false, if◌then◌else◌, List, [], ◌∷◌, ◌++◌, map, length, Option, Some, None, refl, sym, ap, ◌∙◌, subst, inl, inr, append_assoc, append-nil, length-append, arith}
use Rattle.std.proofs.lemmas.Bool.Decides.{eqb_tells}
use Rattle.std.proofs.lemmas.List.{map-append}
use Rattle.laws_real_time.specs.declared.moments.Deed.{Deed}
use Rattle.laws_real_time.specs.declared.moments.Deed.TheVariants.{Begins, Returns, GivesUp}
use Rattle.laws_real_time.specs.declared.moments.Moment.{Moment}
use Rattle.laws_real_time.specs.Moments.{Moments, Begun, begun_by, in_call, Ended, ended_by, ended, MayDo, IsWellFormed}
use Rattle.laws_real_time.specs.RealTime.{TimedCall, timed, returned_calls}
use Rattle.laws_real_time.specs.Joining.{IsOver}
use Rattle.laws_real_time.specs.Making.{calls_returned}
use Rattle.laws_real_time.proofs.DeedLemmas.{calls_in, calls_in-append}

-- a call that begins later
abbrev pub begun_later : ℕ → Option Begun → Option Begun
begun_later n None = None
begun_later n (Some begun) = Some record begun { time = begun.time + n }

-- a call that begins and returns later
abbrev pub ended_later : ℕ → Ended → Ended
ended_later n x = record x { begun = record x.begun { time = x.begun.time + n }; time = x.time + n }

-- a return that is later
abbrev pub returned_later : ℕ → Option ℕ → Option ℕ
returned_later n None = None
returned_later n (Some time) = Some (time + n)

-- the same of a call in time
abbrev pub timed_later : ℕ → TimedCall → TimedCall
timed_later n t = record t { began = t.began + n; returned = returned_later n t.returned }

-- ---- moments after others

module _ (first : Moments) (over : IsOver first) where
  abbrev count : ℕ
  count = length first

  begun_by_later : (time late : ℕ) (moment : Moment) (deed : Deed) → late ≡ time + count
      → begun_by late moment deed ≡ begun_later count (begun_by time moment deed)
  begun_by_later time late moment (Begins command) e = grind arith
  begun_by_later time late moment (Returns call) e = refl
  begun_by_later time late moment GivesUp e = refl

  long : (moments : Moments) → length (moments ++ first) ≡ length moments + count
  long moments = length-append moments first

  -- the call that a caller is in
  pub in_call_later : (caller : ℕ) (moments : Moments)
      → in_call caller (moments ++ first) ≡ begun_later count (in_call caller moments)
  in_call_later caller [] = over caller
  in_call_later caller (moment ∷ moments) =
      at (in_call_later caller moments) (moment.caller == caller)
    where
      at : in_call caller (moments ++ first) ≡ begun_later count (in_call caller moments)
          → (b : Bool)
          → (if b then begun_by (length (moments ++ first)) moment moment.deed else in_call caller (moments ++ first))
          ≡ begun_later count (if b then begun_by (length moments) moment moment.deed else in_call caller moments)
      at rest true = grind (arith, begun_by_later, long)
      at rest false = rest

  ended_by_later : (o : Option Begun) (time late : ℕ) (moment : Moment) (deed : Deed)
      → late ≡ time + count → ended_by (begun_later count o) late moment deed
      ≡ map (ended_later count) (ended_by o time moment deed)
  ended_by_later (Some begun) time late moment (Returns call) e = grind arith
  ended_by_later (Some begun) time late moment (Begins command) e = refl
  ended_by_later (Some begun) time late moment GivesUp e = refl
  ended_by_later None time late moment (Returns call) e = refl
  ended_by_later None time late moment (Begins command) e = refl
  ended_by_later None time late moment GivesUp e = refl

  -- the calls that returned
  pub ended_both : (moments : Moments)
      → ended (moments ++ first) ≡ ended first ++ map (ended_later count) (ended moments)
  ended_both [] = sym (append-nil (ended first))
  ended_both (moment ∷ moments) =
      ap (λ o. ended (moments ++ first) ++ ended_by o (length (moments ++ first)) moment moment.deed)
      (in_call_later moment.caller moments) ∙ ap (λ xs. ended (moments ++ first) ++ xs)
      (ended_by_later (in_call moment.caller moments) (length moments) (length (moments ++ first)) moment moment.deed (long moments))
      ∙ ap (λ xs. xs ++ map (ended_later count) (ended_by (in_call moment.caller moments) (length moments) moment moment.deed))
      (ended_both moments) ∙ append_assoc (ended first) (map (ended_later count) (ended moments))
      (map (ended_later count) (ended_by (in_call moment.caller moments) (length moments) moment moment.deed))
      ∙ ap (λ xs. ended first ++ xs)
      (sym (map-append (ended_later count) (ended moments) (ended_by (in_call moment.caller moments) (length moments) moment moment.deed)))

  timed_both : (xs : List Ended)
      → map timed (map (ended_later count) xs) ≡ map (timed_later count) (map timed xs)
  timed_both [] = refl
  timed_both (x ∷ xs) = ap (λ ys. timed_later count (timed x) ∷ ys) (timed_both xs)

  pub returned_both : (moments : Moments) → returned_calls (moments ++ first)
      ≡ returned_calls first ++ map (timed_later count) (returned_calls moments)
  returned_both moments = grind (arith, ended_both, map-append, timed_both)

  may_later : (o : Option Begun) (deed : Deed) → MayDo o deed → MayDo (begun_later count o) deed
  may_later None (Begins command) h = tt
  may_later None (Returns call) h = absurd h
  may_later None GivesUp h = absurd h
  may_later (Some begun) (Begins command) h = absurd h
  may_later (Some begun) (Returns call) h = h
  may_later (Some begun) GivesUp h = tt

  pub formed_both : (moments : Moments) → IsWellFormed moments → IsWellFormed first
      → IsWellFormed (moments ++ first)
  formed_both [] h g = g
  formed_both (moment ∷ moments) h g = (
    subst (λ o. MayDo o moment.deed) (sym (in_call_later moment.caller moments))
        (may_later (in_call moment.caller moments) moment.deed h.0),
    formed_both moments h.1 g,
  )

-- ---- the calls of one caller

-- calls that are later are the same calls
calls_later : (n number : ℕ) (xs : List Ended)
    → calls_in number (map (ended_later n) xs) ≡ calls_in number xs
calls_later n number [] = refl
calls_later n number (x ∷ xs) = at (calls_later n number xs) (eqb_tells x.caller number)
  where
    at : calls_in number (map (ended_later n) xs) ≡ calls_in number xs
        → (((x.caller == number) ≡ true) × (x.caller ≡ number)) ⊎ (((x.caller == number) ≡ false) × (x.caller ≢ number))
        → calls_in number (map (ended_later n) (x ∷ xs)) ≡ calls_in number (x ∷ xs)
    at rest (inl t) = rw t.0 (ap (λ cs. x.call ∷ cs) rest)
    at rest (inr t) = rw t.0 rest

-- a caller's calls in both are those in the first and then those in the second
pub calls_both : (first second : Moments) → IsOver first → (number : ℕ)
    → calls_returned number (second ++ first)
    ≡ calls_returned number first ++ calls_returned number second
calls_both first second over number = ap (calls_in number) (ended_both first over second)
    ∙ calls_in-append number (ended first) (map (ended_later (length first)) (ended second))
    ∙ ap (λ cs. calls_returned number first ++ cs) (calls_later (length first) number (ended second))
