-- A gallop: a search between two keys that goes away from a guess by steps of one, two, four, ...,
-- and halves the distance between the two keys once it passed the key that is sought.
use Rattle.std.specs.Prelude.{◌≡◌, ℕ, suc, ◌+◌, ◌-◌, ◌*◌, ◌/◌, ◌^◌, ◌<◌, ◌≤◌, Bool, ◌&&◌, MatchBool, nat_lt, if◌then◌else◌}
use Rattle.ist_math.specs.declared.gallops.Gallop.{Gallop}

-- how many children are left to choose from
abbrev pub width : Gallop → ℕ
width g = g.high - g.low

-- the key to look at next: a step away from the guess, or the middle if a step goes too far
abbrev pub probe_of : Gallop → ℕ
probe_of g =
    if nat_lt g.step (width g) then (if g.down then g.high - g.step else g.low + g.step)
    else g.low + width g / 2

-- the step after a look: twice as far if that look was a step, and stayed on the same side
abbrev pub next_step_of : Gallop → Bool → ℕ
next_step_of g goes_on =
    if nat_lt g.step (width g) && goes_on then 2 * g.step else g.step

-- the least distance that the guess can have from the child
abbrev pub least_distance : Gallop → ℕ → ℕ
least_distance g guess = (guess - g.high) + (suc g.low - guess)

-- all keys that were looked at are at the guess, or on the side of it to which the gallop goes
abbrev pub IsOnSide : Gallop → ℕ → Type 0
IsOnSide g guess = MatchBool g.down (g.high ≤ guess) (guess ≤ g.low)

-- a gallop away from the guess has made this many looks: each but the first doubled its step, and
-- each step that was taken lies between the guess and the child; once it halves, each look halves
-- the width
pub record Gallops (g : Gallop) (guess looks : ℕ) : Type 0 where
  pub doublings : ℕ
  pub halvings : ℕ
  pub some : g.low < g.high
  pub steps : 1 ≤ g.step
  pub side : IsOnSide g guess
  pub far : 2 ^ doublings ≤ suc (least_distance g guess)
  pub away : g.step < width g → (g.step ≡ 2 ^ doublings) × (looks ≡ suc doublings)
  pub near : width g ≤ g.step
      → (width g ≤ 2 ^ halvings) × (looks + halvings ≤ 2 * doublings + 2)
