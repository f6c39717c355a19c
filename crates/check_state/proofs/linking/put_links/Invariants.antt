use Rattle.std.proofs.Common.{◌≡◌, ◌↔◌, ◌⊎◌, Some, None}
use Rattle.ist_core.specs.declared.states.InnerRow.{InnerRow}
use Rattle.ist_core.specs.LogTerms.{Among, Snapshot}
use Rattle.ist_core.specs.WordTerms.{anchor, Inner}
use Rattle.check_events.specs.Mirroring.{Mirrors}
use Rattle.check_state.specs.declared.linking.Link.{Link}
use Rattle.check_state.proofs.WaitingLemmas.{HangsBefore}
use Rattle.check_state.proofs.linking.put_links.Given as goal

-- those in the slots so far wait
abbrev pub invariant-loop-index : goal.invariant-loop-index
invariant-loop-index l =
    (t : Snapshot) → Mirrors l.replica t → t.pieces anchor ≡ None → (row : InnerRow)
    → t.pieces l.node ≡ Some (Inner row)
    → (k : Link) → Among k l.waiting.items ↔ (Among k l.fn.waiting.items ⊎ HangsBefore t l.node l.index k)
