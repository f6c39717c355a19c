-- The owner's tally after what it takes back. Serves the calls of the owner.
use Rattle.std.proofs.Common.{◌≡◌, ℕ, ◌+◌, ◌-◌, ◌≤◌, List, [], ◌∷◌, ◌++◌, length, length-append, sym, refl, ap, ◌∙◌, subst, arith}
use Rattle.tele_steal.specs.declared.tallies.Tally.{Tally}
use Rattle.tele_steal.specs.Tallies.{of_owner, HasDrawn, IsOwners}

-- a tally written as an owner's is the owner's
pub is_owners : {X : Type 0} (v : Tally X) (out : ℕ) (put back : List X) → v ≡ of_owner out put back
    → IsOwners v
is_owners v out put back e = subst IsOwners (sym e) refl

-- the owner takes back what a worker took, and there is one worker fewer
pub owner_step : {X : Type 0} (v w : Tally X) (n k : ℕ) (put more : List X)
    → v ≡ of_owner n put v.back → w ≡ of_owner (v.out - 1) v.put (v.back ++ more) → n ≡ k + 1
    → w ≡ of_owner k put w.back
owner_step v w n k put more old new less = grind arith

-- the owner takes back some, and the workers stay
pub draw_step : {X : Type 0} (v w : Tally X) (put more : List X) → v ≡ of_owner 0 put v.back
    → w ≡ of_owner v.out v.put (v.back ++ more) → w ≡ of_owner 0 put w.back
draw_step v w put more old new = grind arith

-- the owner drew one: one more came back, of those that were put in
pub room_after : {X : Type 0} (Fits : X → Type 0) (v w : Tally X) (put : List X) (x : X)
    → v ≡ of_owner 0 put v.back → HasDrawn Fits v (x ∷ []) w
    → (length w.back ≡ length v.back + 1) × (length v.back + 1 ≤ length put)
room_after Fits v w put x old drawn =
    let more = ap (λ z. length z.back) drawn.tally ∙ length-append v.back (x ∷ []) in
    let all = ap (λ z. length z.put) (draw_step v w put (x ∷ []) old drawn.tally) in
    (more, omega (arith, more, all, drawn.few))
