use Rattle.std.proofs.Common.{◌≤◌, ◌-◌, ◌*◌, length, map}
use Rattle.ist_core.specs.LogTerms.{caller_limit}
use Rattle.ist_core.specs.WordTerms.{place_limit}
use Rattle.ist_map.specs.Running.{IsUnderway}
use Rattle.ist_map.proofs.running.Map.run_until.Given as goal

-- the trees so far are a run, and a worker was refused on the last of them
abbrev pub invariant-loop-hands : goal.invariant-loop-hands
invariant-loop-hands g l = record {
  few : length l.hands ≤ caller_limit;
  underway : IsUnderway l.fn.self.closed l.self.closed l.fn.self.words l.self.words l.words
      (map (λ h. g.W.Worker.told h.worker) l.fn.hands)
      (map (λ h. g.W.Worker.told h.worker) l.hands) (map (λ h. h.refused) l.hands);
}

-- each tree but the first has more words than the one before, and none has more than the most
abbrev pub decreases-loop-hands : goal.decreases-loop-hands
decreases-loop-hands g l = 2 * place_limit - l.words
