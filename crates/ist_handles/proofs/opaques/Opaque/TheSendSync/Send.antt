-- An opaque may go to another thread: what it is of may, and so may the right to free it. Assumes `Logic`.
use mathlib.Core.Bool.{Bool, true, false}
use mir.Raw.{raw}
use base.Shift.{Keyless}
use denote.Memory.{lone}
use denote.RawPtr.{Ptr}
use denote.Builtin.{RawPtr}
use denote.Param.Send.{IsSend, owning_send, struct_send, sendable}
use denote.Struct.Struct.{exits_of}
use denote.Struct.Owning.{shape, fields, to}
use Rattle.std_alloc.proofs.SendSync.{quiet, lies}
use Rattle.std.proofs.Crossing as crossing
use Rattle.std.proofs.alloc.Global.TheSendSync as heap
use Rattle.std.specs.contracts.impls.GlobalAllocator.TheImpl.{ghosts}
use Rattle.std.specs.declared.alloc.Global.{Global}
use Rattle.ist_handles.specs.Owning.{held_if}
use Rattle.ist_handles.specs.contracts.held.Held as held
use Rattle.ist_handles.proofs.SendLemmas.{held_send}
use Rattle.ist_handles.specs.contracts.opaques.Opaque.{the_row, the_type}

if_full : (a : Global) (full : Bool) (p : Ptr) (x : (held.the_row).Denot) → Keyless (held_if (ghosts.dealloc_token a) held.the_row full p x)
if_full a true p x = (lies held.the_row held_send p x, crossing.frees.frees a (raw (lone (held.the_row).mir)) p)
if_full a false p x = tt

pub send : IsSend the_row
send = let ps : IsSend RawPtr = search sendable in
    owning_send the_type (ps, (heap.the_field_send, tt)) (λ d. if_full d.alloc d.full d.at d.value)
    (λ k. quiet (to the_type) (exits_of k (fields the_type)) ((struct_send (shape the_type) (ps, (heap.the_field_send, tt))).leaving k))
