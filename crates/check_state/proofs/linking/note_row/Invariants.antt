use Rattle.ist_core.specs.TreeTerms.{IsChild}
use Rattle.ist_core.specs.LogTerms.{Snapshot}
use Rattle.check_events.specs.Mirroring.{Mirrors}
use Rattle.check_state.specs.Hanging.{HangsOnce}
use Rattle.check_state.proofs.WaitingLemmas.{Noted}
use Rattle.check_state.proofs.linking.note_row.Given as goal

-- what was remembered so far, and what waits
abbrev pub invariant-loop : goal.invariant-loop
invariant-loop l =
    (t : Snapshot) → Mirrors l.replica t → HangsOnce l.fn.slots t → IsChild t l.node l.index l.child
    → Noted t l.fn.slots l.slots l.node l.index l.waiting.items
