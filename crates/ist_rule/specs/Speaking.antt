-- The moments at which calls begin and end, as a seat has seen them.
use Rattle.std.specs.Prelude.{◌≡◌, ◌≢◌, ℕ, ◌≤◌, List, ◌∷◌, Option, Some, None}
use Rattle.ist_core.specs.declared.calls.Call.{Call}
use Rattle.ist_core.specs.declared.events.Who.{Who}
use Rattle.ist_core.specs.declared.events.Who.TheVariants.{Maker, Caller}
use Rattle.ist_core.specs.declared.pairs.Pair.{Pair}
use Rattle.ist_core.specs.Map.{map_of}
use Rattle.ist_core.specs.Elements.{Each}
use Rattle.laws_real_time.specs.declared.moments.Moment.{Moment}
use Rattle.laws_real_time.specs.Moments.{Moments, Begun, in_call}
use Rattle.laws_real_time.specs.Making.{calls_returned}
use Rattle.laws_real_time.specs.RealTime.{IsLinearizable}
use Rattle.ist_rule.specs.declared.view.Pending.{Pending}

-- the caller's number, and 0 for a seat that is none's
abbrev pub number_of : Who → ℕ
number_of (Caller number) = number
number_of _ = 0

-- a call in progress, as a view has it
abbrev pub pending_of : Option Begun → Option Pending
pending_of None = None
pending_of (Some begun) = Some record { command = begun.command; length = begun.length }

-- the moments have these calls of the caller, and this one in progress
pub record HasSpoken (moments : Moments) (number : ℕ) (calls : List Call)
    (pending : Option Pending) : Type 0 where
  pub calls_are : calls_returned number moments ≡ calls
  pub pending_is : pending_of (in_call number moments) ≡ pending

-- no moment is the caller's
abbrev pub IsSilent : ℕ → Moments → Type 0
IsSilent number moments = Each (λ moment. moment.caller ≢ number) moments

-- the moments continue earlier ones
pub data MomentsGoOn (earlier : Moments) : Moments → Type 0 where
  same_moments : MomentsGoOn earlier earlier
  one_moment : {moments : Moments} (moment : Moment) → MomentsGoOn earlier moments
      → MomentsGoOn earlier (moment ∷ moments)

-- the moments continue earlier ones by moments of others only
pub data MomentsLater (who : Who) (earlier : Moments) : Moments → Type 0 where
  no_later : MomentsLater who earlier earlier
  one_later : {moments : Moments} (moment : Moment) → MomentsLater who earlier moments
      → Caller moment.caller ≢ who → MomentsLater who earlier (moment ∷ moments)

-- what a seat knows of the moments that it has seen: they have its own calls, none of a caller that
-- has no seat, and are linearizable
pub record HasMoments (pairs : List Pair) (who : Who) (given : ℕ) (moments : Moments)
    (calls : List Call) (pending : Option Pending) : Type 0 where
  pub spoken : (number : ℕ) → who ≡ Caller number → HasSpoken moments number calls pending
  pub silent : who ≡ Maker → (number : ℕ) → given ≤ number → IsSilent number moments
  pub linear : IsLinearizable (map_of pairs) moments
