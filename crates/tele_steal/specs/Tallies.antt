-- What the passes of a deque know, and the rule over the deque and all of them.
use Rattle.std.specs.Prelude.{◌≡◌, ℕ, ◌≤◌, true, false, List, [], ◌++◌, length, All}
use Rattle.std.specs.List.{flat_map, sum_by}
use Rattle.std.specs.List.Sorted.{IsPermutation}
use mathlib.Core.Option.{some}
use lib.ListN.{get_elem?}
use Rattle.tele_steal.specs.declared.tallies.Tally.{Tally}

module _ {X : Type 0} where
  -- the tally of the owner: how many workers have passes, what was put in, and what came back
  abbrev pub of_owner : ℕ → List X → List X → Tally X
  of_owner out put back = record {
    owner = true;
    out = out;
    busy = 0;
    put = put;
    back = back;
    taken = [];
  }

  -- the tally of a worker that took these
  abbrev pub of_worker : List X → Tally X
  of_worker taken = record { owner = false; out = 0; busy = 1; put = []; back = []; taken = taken }

  -- the tally of a pass that was taken back
  abbrev pub of_none : Tally X
  of_none = record { owner = false; out = 0; busy = 0; put = []; back = []; taken = [] }

  -- what this pass took
  abbrev pub taken_by : Tally X → List X
  taken_by v = v.taken

  -- whether this pass is a worker's, as a number
  abbrev pub busy_of : Tally X → ℕ
  busy_of v = v.busy

  -- a pass that isn't a worker's has taken nothing
  abbrev pub IdleTookNothing : Tally X → Type 0
  IdleTookNothing v = v.busy ≡ 0 → v.taken ≡ []

  -- this tally is the owner's
  abbrev pub IsOwners : Tally X → Type 0
  IsOwners v = v ≡ of_owner v.out v.put v.back

  module _ (Fits : X → Type 0) where
    -- what was put in is what is in the deque, what came back and what workers took, in some order;
    -- there is one owner, at this port, who knows how many workers have passes; and all that is in
    -- the deque fits
    pub record BalancesAt (port : ℕ) (own : Tally X) (items : List X)
        (views : List (Tally X)) : Type 0 where
      pub seated : get_elem? views port ≡ some own
      pub owners : IsOwners own
      pub alone : (j : ℕ) (u : Tally X) → get_elem? views j ≡ some u → u.owner ≡ true → j ≡ port
      pub workers : sum_by busy_of views ≡ own.out
      pub idle : All IdleTookNothing views
      pub same : IsPermutation own.put (items ++ (own.back ++ flat_map taken_by views))
      pub few : length own.put ≤ 64
      pub fit : All Fits items

    -- the same, wherever the owner is
    pub record Balances (items : List X) (views : List (Tally X)) : Type 0 where
      pub port : ℕ
      pub own : Tally X
      pub kept : BalancesAt port own items views

    -- a worker took these
    pub record HasTakenLanes (v : Tally X) (xs : List X) (w : Tally X) : Type 0 where
      pub tally : w ≡ of_worker (v.taken ++ xs)
      pub few : length w.taken ≤ 64
      pub fit : All Fits xs

    -- the owner took these back
    pub record HasDrawn (v : Tally X) (xs : List X) (w : Tally X) : Type 0 where
      pub tally : w ≡ of_owner v.out v.put (v.back ++ xs)
      pub few : length w.back ≤ length w.put
      pub fit : All Fits xs
