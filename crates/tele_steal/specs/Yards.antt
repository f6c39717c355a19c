-- What a yard is for, and that it is ready for a run.
use Rattle.std.specs.Prelude.{◌≡◌, ℕ, ◌≤◌, ◌<◌, [], List, length, All, Vec, vec_capacity}
use Rattle.std.specs.List.Sorted.{IsPermutation}
use Rattle.std.specs.declared.alloc.Global.{Global}
use Rattle.crossbeam_deque.specs.Handles.{worker_deque, stealer_deque, worker_flavor, stealer_flavor, worker_view}
use Rattle.crossbeam_deque.specs.declared.handles.Worker.{Worker}
use Rattle.crossbeam_deque.specs.declared.handles.Stealer.{Stealer}
use Rattle.tele_steal.specs.declared.tallies.Tally.{Tally}
use Rattle.tele_steal.specs.Tallies.{IsOwners}

-- for how many workers a yard is, and for how many lanes at a time
pub record YardRoom : Type 0 where
  pub workers : ℕ
  pub lanes : ℕ

-- ready for a run: no lane is in it, no worker has a pass, and each bag has room for 64 lanes
pub record IsReadyYard {X V H : Type 0} (owner : Worker X Global (Tally X) V)
    (thief : Stealer X Global (Tally X) V)
    (bags : List (Vec X Global)) (hands : Vec H Global) (kept : Vec X Global) : Type 0 where
  pub same : stealer_deque thief ≡ worker_deque owner
  pub owner_first : worker_flavor owner ≡ 0
  pub thief_first : stealer_flavor thief ≡ 0
  pub owners : IsOwners (worker_view owner)
  pub alone : (worker_view owner).out ≡ 0
  pub settled : IsPermutation (worker_view owner).put (worker_view owner).back
  pub some : 0 < length bags
  pub empty : All (λ (b : Vec X Global). b.items ≡ []) bags
  pub wide : All (λ (b : Vec X Global). 64 ≤ vec_capacity b) bags
  pub no_hands : hands.items ≡ []
  pub seats : length bags ≤ vec_capacity hands
  pub no_kept : kept.items ≡ []
  pub keeps : 64 ≤ vec_capacity kept
