-- When calls begin and return: times, and the numbers of changes then. Serves linearizability.
use Rattle.std.proofs.Common.{◌≡◌, ◌≢◌, ◌⊎◌, ℕ, ◌<◌, ◌==◌, true, false, List, [], ◌∷◌, length, Option, Some, None, refl, sym, ap, ◌∙◌, inl, inr, ⊎_elim, arith}
use Rattle.std.proofs.lemmas.Bool.Decides.{eqb_tells}
use Rattle.ist_core.specs.declared.commands.Command.{Command}
use Rattle.ist_core.specs.LogTerms.{Among}
use Rattle.ist_core.proofs.AllWordLemmas.{among-append}
use Rattle.laws_real_time.specs.declared.moments.Deed.{Deed}
use Rattle.laws_real_time.specs.declared.moments.Deed.TheVariants.{Begins, Returns, GivesUp}
use Rattle.laws_real_time.specs.declared.moments.Moment.{Moment}
use Rattle.laws_real_time.specs.Moments.{Moments, Begun, begun_by, in_call, Ended, ended_by, ended}
use Rattle.laws_real_time.proofs.PairLemmas.{Pairwise, pairwise_append}
use Rattle.laws_real_time.proofs.ChangeCountLemmas.{changes_at, changes_here, changes_before}

-- ---- the call that a caller is in

-- a call in progress was begun at the last moment, or before it
pub data IsInCall (caller : ℕ) (begun : Begun) (moment : Moment) (moments : Moments) : Type 0 where
  begun_now : (command : Option Command) → moment.caller ≡ caller → moment.deed ≡ Begins command
      → begun.time ≡ length moments → begun.changes ≡ moment.changes → begun.length ≡ moment.length
      → IsInCall caller begun moment moments
  begun_before : moment.caller ≢ caller → in_call caller moments ≡ Some begun
      → IsInCall caller begun moment moments

-- if the last moment is the caller's own, it began the call
begun_here : (caller : ℕ) (begun : Begun) (moment : Moment) (moments : Moments) (deed : Deed)
    → moment.caller ≡ caller → moment.deed ≡ deed
    → begun_by (length moments) moment deed ≡ Some begun → IsInCall caller begun moment moments
begun_here caller begun moment moments (Begins command) mine is h =
    begun_now command mine is (ap (time_in begun) (sym h)) (ap (changes_in begun) (sym h))
    (ap (length_in begun) (sym h))
  where
    length_in : Begun → Option Begun → ℕ
    length_in d None = d.length
    length_in d (Some b) = b.length

    time_in : Begun → Option Begun → ℕ
    time_in d None = d.time
    time_in d (Some b) = b.time

    changes_in : Begun → Option Begun → ℕ
    changes_in d None = d.changes
    changes_in d (Some b) = b.changes
begun_here caller begun moment moments (Returns call) mine is h = absurd (cc)
begun_here caller begun moment moments GivesUp mine is h = absurd (cc)

pub in_call_cases : (caller : ℕ) (begun : Begun) (moment : Moment) (moments : Moments)
    → in_call caller (moment ∷ moments) ≡ Some begun → IsInCall caller begun moment moments
in_call_cases caller begun moment moments h = at (eqb_tells moment.caller caller)
  where
    at : (((moment.caller == caller) ≡ true) × (moment.caller ≡ caller)) ⊎ (((moment.caller == caller) ≡ false) × (moment.caller ≢ caller))
        → IsInCall caller begun moment moments
    at (inl t) = begun_here caller begun moment moments moment.deed t.1 refl (rw t.0 at h)
    at (inr t) = begun_before t.1 (rw t.0 at h)

-- when a call in progress began
pub record IsBegunIn (moments : Moments) (begun : Begun) : Type 0 where
  pub within : begun.time < length moments
  pub changes : changes_at moments begun.time ≡ begun.changes

pub begun_in : (caller : ℕ) (moments : Moments) (begun : Begun)
    → in_call caller moments ≡ Some begun → IsBegunIn moments begun
begun_in caller [] begun h = absurd (cc)
begun_in caller (moment ∷ moments) begun h =
    at (begun_in caller moments begun) (in_call_cases caller begun moment moments h)
  where
    at : (in_call caller moments ≡ Some begun → IsBegunIn moments begun)
        → IsInCall caller begun moment moments → IsBegunIn (moment ∷ moments) begun
    at again (begun_now command mine is time changes long) = grind (arith, changes_here)
    at again (begun_before other i) = grind (arith, changes_before)

-- ---- calls that returned

-- a call that returns at a moment
pub record ReturnsAt (o : Option Begun) (time : ℕ) (moment : Moment) (deed : Deed) (x : Ended) : Type 0 where
  pub begun : Begun
  pub in_it : o ≡ Some begun
  pub deed_is : deed ≡ Returns x.call
  pub caller_is : x.caller ≡ moment.caller
  pub begun_is : x.begun ≡ begun
  pub time_is : x.time ≡ time
  pub changes_is : x.changes ≡ moment.changes

pub ends_at : (o : Option Begun) (time : ℕ) (moment : Moment) (deed : Deed) (x : Ended)
    → Among x (ended_by o time moment deed) → ReturnsAt o time moment deed x
ends_at (Some begun) time moment (Returns call) x (inl e) = grind arith
ends_at (Some begun) time moment (Returns call) x (inr h) = absurd h
ends_at (Some begun) time moment (Begins command) x h = absurd h
ends_at (Some begun) time moment GivesUp x h = absurd h
ends_at None time moment (Returns call) x h = absurd h
ends_at None time moment (Begins command) x h = absurd h
ends_at None time moment GivesUp x h = absurd h

-- only one call returns at a moment
one_ends : (o : Option Begun) (time : ℕ) (moment : Moment) (deed : Deed) (x y : Ended)
    → Among x (ended_by o time moment deed) → Among y (ended_by o time moment deed) → x ≡ y
one_ends (Some begun) time moment (Returns call) x y (inl e) (inl f) = e ∙ sym f
one_ends (Some begun) time moment (Returns call) x y (inl e) (inr k) = absurd k
one_ends (Some begun) time moment (Returns call) x y (inr h) k = absurd h
one_ends (Some begun) time moment (Begins command) x y h k = absurd h
one_ends (Some begun) time moment GivesUp x y h k = absurd h
one_ends None time moment (Returns call) x y h k = absurd h
one_ends None time moment (Begins command) x y h k = absurd h
one_ends None time moment GivesUp x y h k = absurd h

-- when a call that returned began and returned
pub record IsEndedIn (moments : Moments) (x : Ended) : Type 0 where
  pub within : x.time < length moments
  pub before : x.begun.time < x.time
  pub changes : changes_at moments x.time ≡ x.changes
  pub from : changes_at moments x.begun.time ≡ x.begun.changes

pub ended_in : (moments : Moments) (x : Ended) → Among x (ended moments) → IsEndedIn moments x
ended_in [] x h = absurd h
ended_in (moment ∷ moments) x h =
    ⊎_elim (λ i. older (ended_in moments x i)) here (among-append x (ended moments) last h)
  where
    last : List Ended
    last = ended_by (in_call moment.caller moments) (length moments) moment moment.deed

    older : IsEndedIn moments x → IsEndedIn (moment ∷ moments) x
    older rest = grind (arith, changes_before)

    here : Among x last → IsEndedIn (moment ∷ moments) x
    here i = grind (arith, ends_at, begun_in, older, changes_here, changes_before, changes_at)

-- a caller's call that returned did so before the call that it is in began
pub ended_before : (moments : Moments) (x : Ended) (begun : Begun) → Among x (ended moments)
    → in_call x.caller moments ≡ Some begun → x.time < begun.time
ended_before [] x begun h i = absurd h
ended_before (moment ∷ moments) x begun h i = ⊎_elim
    (λ j. older (λ k. ended_before moments x begun j k)
    (in_call_cases x.caller begun moment moments i) j)
    (here (in_call_cases x.caller begun moment moments i)) (among-append x (ended moments) last h)
  where
    last : List Ended
    last = ended_by (in_call moment.caller moments) (length moments) moment moment.deed

    older : (in_call x.caller moments ≡ Some begun → x.time < begun.time)
        → IsInCall x.caller begun moment moments → Among x (ended moments) → x.time < begun.time
    older again (begun_now command mine is time changes long) j =
        let it = ended_in moments x j in omega (arith, it.within, time)
    older again (begun_before other k) j = again k

    here : IsInCall x.caller begun moment moments → Among x last → x.time < begun.time
    here (begun_now command mine is time changes long) j = grind (arith, ends_at)
    here (begun_before other k) j = grind (arith, ends_at)

-- two calls of one caller are one, or one returned before the other began
pub data AreApartInTime (x y : Ended) : Type 0 where
  same_call : x ≡ y → AreApartInTime x y
  comes_first : x.time < y.begun.time → AreApartInTime x y
  comes_later : y.time < x.begun.time → AreApartInTime x y

pub ended_apart : (moments : Moments) (x y : Ended) → Among x (ended moments)
    → Among y (ended moments) → x.caller ≡ y.caller → AreApartInTime x y
ended_apart [] x y h k same = absurd h
ended_apart (moment ∷ moments) x y h k same = ⊎_elim
    (λ i. ⊎_elim (λ j. ended_apart moments x y i j same)
    (λ j. comes_first (first x y i j same)) (among-append y (ended moments) last k))
    (λ i. ⊎_elim (λ j. comes_later (first y x j i (sym same)))
    (λ j. same_call (one_ends (in_call moment.caller moments) (length moments) moment moment.deed x y i j))
    (among-append y (ended moments) last k))
    (among-append x (ended moments) last h)
  where
    last : List Ended
    last = ended_by (in_call moment.caller moments) (length moments) moment moment.deed

    first : (a b : Ended) → Among a (ended moments) → Among b last → a.caller ≡ b.caller
        → a.time < b.begun.time
    first a b i j e = grind (arith, ends_at, ended_before)

-- calls are listed in the order of their returns
pub ended_in_order : (moments : Moments) → Pairwise (λ x y. x.time < y.time) (ended moments)
ended_in_order [] = tt
ended_in_order (moment ∷ moments) =
    pairwise_append (λ x y. x.time < y.time) (ended moments) last (ended_in_order moments)
    (single (in_call moment.caller moments) moment.deed)
    (λ x y i j. (let a = (ended_in moments x i).within in
    let b = (ends_at (in_call moment.caller moments) (length moments) moment moment.deed y j).time_is in
    omega (arith, a, b)))
  where
    last : List Ended
    last = ended_by (in_call moment.caller moments) (length moments) moment moment.deed

    single : (o : Option Begun) (deed : Deed)
        → Pairwise (λ x y. x.time < y.time) (ended_by o (length moments) moment deed)
    single (Some begun) (Returns call) = (tt, tt)
    single (Some begun) (Begins command) = tt
    single (Some begun) GivesUp = tt
    single None (Returns call) = tt
    single None (Begins command) = tt
    single None GivesUp = tt
