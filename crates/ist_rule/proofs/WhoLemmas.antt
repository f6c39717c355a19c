-- Who makes events: the maker, and callers by their numbers. Serves seats that open, split and join.
use Rattle.std.proofs.Common.{◌≡◌, ◌≢◌, ℕ}
use Rattle.ist_core.specs.declared.events.Who.TheVariants.{Caller, Maker, Spent}

-- a caller isn't the maker
pub caller_maker : (number : ℕ) → Caller number ≡ Maker → ⊥
caller_maker number e = cc

-- the maker's seat isn't spent
pub maker_live : Maker ≢ Spent
maker_live e = cc

-- the maker is no caller
pub maker_caller : (number : ℕ) → Maker ≡ Caller number → ⊥
maker_caller number e = cc
