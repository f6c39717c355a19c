use Rattle.std.proofs.Common.{◌≡◌, ◌≤◌, ◌-◌, ◌++◌, length, map, None, vec_capacity}
use Rattle.ist_core.specs.TreeTerms.{told_by_call}
use Rattle.ist_tree.specs.CallTerms.{HasSeenMore}
use Rattle.ist_map.specs.Scripts.{told_in}
use Rattle.ist_map.proofs.scripts.ScriptWorker.work.Given as goal

-- the calls of the pass are those that were told since it began
abbrev pub invariant-loop-self : goal.invariant-loop-self
invariant-loop-self l = record {
  seen : HasSeenMore l.fn.pass l.pass;
  unrefused : l.fn.pass.refused ≡ None → l.pass.refused ≡ None;
  commands : l.self-inside.commands.items ≡ l.fn.self.commands;
  few : length l.self-inside.replies.items ≤ length l.self-inside.commands.items;
  room : length l.self-inside.commands.items ≤ vec_capacity l.self-inside.replies;
  told : told_in l.self-inside.commands.items l.self-inside.replies.items
      ≡ told_in l.fn.self.commands l.fn.self.replies ++ map told_by_call l.pass.calls;
}

abbrev pub decreases-loop-self : goal.decreases-loop-self
decreases-loop-self l = length l.self-inside.commands.items - length l.self-inside.replies.items
