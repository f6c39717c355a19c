-- What one more moment makes of the calls of its caller and of others. Serves
-- `laws.kept_calls_are_linearizable`, and a rule that keeps moments.
use Rattle.std.proofs.Common.{◌≡◌, ◌≢◌, ℕ, ◌==◌, List, [], ◌∷◌, ◌++◌, map, filter, length, Option, Some, None, refl, ap, ◌∙◌, append-nil, arith}
use Rattle.std.proofs.lemmas.Bool.Decides.{eqb_tells}
use Rattle.std.proofs.lemmas.List.{map-append}
use Rattle.std.proofs.lemmas.List.Elements.{filter-append}
use Rattle.ist_core.specs.declared.calls.Call.{Call}
use Rattle.ist_core.specs.declared.commands.Command.{Command}
use Rattle.laws_real_time.specs.declared.moments.Deed.{Deed}
use Rattle.laws_real_time.specs.declared.moments.Deed.TheVariants.{Begins, Returns, GivesUp}
use Rattle.laws_real_time.specs.declared.moments.Moment.{Moment}
use Rattle.laws_real_time.specs.Moments.{Moments, Begun, begun_by, in_call, Ended, ended_by, ended}
use Rattle.laws_real_time.specs.Making.{calls_returned}

-- ---- the call that a caller is in

-- of the moment's caller
pub in_call_own : (number : ℕ) (moment : Moment) (moments : Moments) → moment.caller ≡ number
    → in_call number (moment ∷ moments) ≡ begun_by (length moments) moment moment.deed
in_call_own number moment moments mine = grind (arith, eqb_tells)

-- of another caller
pub in_call_other : (number : ℕ) (moment : Moment) (moments : Moments) → moment.caller ≢ number
    → in_call number (moment ∷ moments) ≡ in_call number moments
in_call_other number moment moments other = grind (arith, eqb_tells)

-- ---- the calls that returned

-- if the moment ends none, they are the same
pub ended_same : (moment : Moment) (moments : Moments)
    → ended_by (in_call moment.caller moments) (length moments) moment moment.deed ≡ []
    → ended (moment ∷ moments) ≡ ended moments
ended_same moment moments e = ap (λ xs. ended moments ++ xs) e ∙ append-nil (ended moments)

-- a beginning ends none
pub begins_ends_none : (o : Option Begun) (time : ℕ) (moment : Moment) (command : Option Command)
    → ended_by o time moment (Begins command) ≡ []
begins_ends_none None time moment command = refl
begins_ends_none (Some begun) time moment command = refl

-- nor does one that gives up
pub gives_up_ends_none : (o : Option Begun) (time : ℕ) (moment : Moment)
    → ended_by o time moment GivesUp ≡ []
gives_up_ends_none None time moment = refl
gives_up_ends_none (Some begun) time moment = refl

-- calls of a list that are the caller's
abbrev pub calls_in : ℕ → List Ended → List Call
calls_in number xs = map (λ x. x.call) (filter (λ x. x.caller == number) xs)

-- of two lists together they are those of the first and then those of the second
pub calls_in-append : (number : ℕ) (xs ys : List Ended)
    → calls_in number (xs ++ ys) ≡ calls_in number xs ++ calls_in number ys
calls_in-append number xs ys = grind (arith, filter-append, map-append)

-- calls of others
pub calls_of_other : (number : ℕ) (moment : Moment) (moments : Moments) → moment.caller ≢ number
    → calls_returned number (moment ∷ moments) ≡ calls_returned number moments
calls_of_other number moment moments other = calls_in-append number (ended moments) last
    ∙ ap (λ xs. calls_returned number moments ++ xs) (none (in_call moment.caller moments) moment.deed)
    ∙ append-nil (calls_returned number moments)
  where
    last : List Ended
    last = ended_by (in_call moment.caller moments) (length moments) moment moment.deed

    near : (x : Ended) → x.caller ≡ moment.caller → calls_in number (x ∷ []) ≡ []
    near x same = grind (arith, eqb_tells)

    none : (o : Option Begun) (deed : Deed)
        → calls_in number (ended_by o (length moments) moment deed) ≡ []
    none None (Begins command) = refl
    none None (Returns call) = refl
    none None GivesUp = refl
    none (Some begun) (Begins command) = refl
    none (Some begun) GivesUp = refl
    none (Some begun) (Returns call) = grind (arith, near)

-- if the moment ends none, the calls of each caller are the same
pub calls_of_same : (number : ℕ) (moment : Moment) (moments : Moments)
    → ended_by (in_call moment.caller moments) (length moments) moment moment.deed ≡ []
    → calls_returned number (moment ∷ moments) ≡ calls_returned number moments
calls_of_same number moment moments e = ap (calls_in number) (ended_same moment moments e)

-- the call that returns now
abbrev pub ended_now : Moment → Moments → Begun → Call → Ended
ended_now moment moments begun call = record {
  caller = moment.caller;
  begun = begun;
  call = call;
  time = length moments;
  changes = moment.changes;
}

-- if the moment returns a call, it is the last one that returned
pub ended_last : (moment : Moment) (moments : Moments) (begun : Begun) (call : Call)
    → moment.deed ≡ Returns call → in_call moment.caller moments ≡ Some begun
    → ended (moment ∷ moments) ≡ ended moments ++ ended_now moment moments begun call ∷ []
ended_last moment moments begun call is in_it = grind arith

-- a call that returns is the last of its caller's
pub calls_of_own : (number : ℕ) (moment : Moment) (moments : Moments) (begun : Begun) (call : Call)
    → moment.caller ≡ number → moment.deed ≡ Returns call
    → in_call moment.caller moments ≡ Some begun
    → calls_returned number (moment ∷ moments) ≡ calls_returned number moments ++ call ∷ []
calls_of_own number moment moments begun call mine is in_it =
    grind (arith, ended_last, calls_in-append, eqb_tells)
