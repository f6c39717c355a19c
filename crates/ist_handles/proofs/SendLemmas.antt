-- What a handle holds owns nothing that names a thread. Of a closed tree these are its words, and the right to free
-- them. Serves `Opaque`. Assumes `Logic`.
use Rattle.std.proofs.Common.{arith}
use mathlib.Core.Bool.{Bool, true, false}
use mathlib.Core.List.{List, [], ◌∷◌}
use mir.Syntax.{Ty}
use mir.Raw.{raw}
use base.Fml.{Fml}
use base.Shift.{Keyless}
use denote.RattleType.{RattleType}
use denote.Memory.{lone}
use denote.RawPtr.{Ptr, block_ptr, null_ptr, room_for, in_block, ◌+ₚ◌}
use denote.Builtin.{RawPtr, usize}
use denote.Param.Send.{IsSend, sendable}
use denote.Struct.Owning.{to}
use Rattle.core.specs.Mem.Slots.Ownership.{bytes_of, slot, slots}
use Rattle.core.specs.contracts.slots.Slots as slots_row
use Rattle.core.specs.contracts.slots.Lease as lease
use Rattle.std_alloc.proofs.SendSync.{lies}
use Rattle.std.proofs.Crossing as crossing
use Rattle.std.specs.contracts.alloc.Global as heap
use Rattle.std.specs.contracts.impls.GlobalAllocator.TheImpl.{ghosts}
use Rattle.std.proofs.alloc.Global.TheSendSync as heap_crosses
use Rattle.atomic_table.specs.contracts.owned.Closed as table
use Rattle.ist_rest.specs.contracts.closed.Closed as closed
use Rattle.ist_handles.specs.contracts.closed_trees.ClosedTree as tree
use Rattle.ist_handles.specs.contracts.closed_trees.LeftPairs as left
use Rattle.ist_handles.proofs.closed_trees.LeftPairs.TheSendSync.{the_field_send as left_send}
use Rattle.ist_handles.specs.contracts.held.Held as held
use Rattle.ist_handles.specs.contracts.owners.TreeOwner as owner
use Rattle.ist_handles.proofs.owners.TreeOwner.TheSendSync.{the_field_send as owner_send}
use Rattle.ist_handles.specs.contracts.passes.TreeNote as note
use Rattle.ist_handles.proofs.passes.TreeNote.TheSendSync.{the_field_send as note_send}
use Rattle.ist_handles.specs.contracts.passes.TreePass as pass
use Rattle.ist_handles.proofs.passes.TreePass.TheSendSync.{the_field_send as pass_send}
use Rattle.ist_handles.specs.contracts.shots.TreeShot as shot
use Rattle.ist_handles.proofs.shots.TreeShot.TheSendSync.{the_send as shot_send}

-- ---- a row of places

room : (τ : Ty) (p : Ptr) → Keyless (room_for τ p)
room τ (block_ptr b o) = tt
room τ null_ptr = tt

inside : (p : Ptr) (F : Fml) → Keyless F → Keyless (in_block p F)
inside (block_ptr b o) F k = k
inside null_ptr F k = tt

-- one place
place : (R : RattleType) → IsSend R → (f : Bool) (p : Ptr) (x : R.Denot) → Keyless (slot R f p x)
place R s true p x = lies R s p x
place R s false p x = room (raw (lone R.mir)) p

-- all of them
places : (R : RattleType) → IsSend R → (p : Ptr) (xs : List R.Denot) (fs : List Bool)
    → Keyless (slots R p xs fs)
places R s p [] fs = tt
places R s p (x ∷ xs) [] = tt
places R s p (x ∷ xs) (f ∷ fs) = (place R s f p x, places R s (p +ₚ bytes_of R) xs fs)

ps : IsSend RawPtr
ps = search sendable

ns : IsSend usize
ns = search sendable

-- a row of places may go to another thread if what is in them may
slots_send : (R : RattleType) → IsSend R → IsSend (slots_row.the_field R).row
slots_send R s = grind (arith, ps, ns, inside, places)

-- and so may the right to free it
lease_send : (R : RattleType) → IsSend (lease.the_field R heap.the_row ghosts).row
lease_send R = record {
  owned = λ d vs. ((λ uss. (tt, (tt, ((tt, tt), ((λ wss. (tt, tt)), tt))))), crossing.frees.frees _ _ _);
  leaving = λ k x w. tt;
}

-- ---- the closed table

ruleset crosses = (slots_send, lease_send)

-- the memory of a table that no thread shares any more
table_send : (S : RattleType) → IsSend S → IsSend (table.the_field S heap.the_row ghosts).row
table_send S s = let h : IsSend (heap.the_field).row = heap_crosses.the_field_send in search (sendable, crosses) depth 30

ruleset tables = (table_send)

-- the words of a closed tree
pub closed_send : IsSend (closed.the_field).row
closed_send = search (sendable, tables) depth 30

-- ---- what a handle holds

-- each kind of what a handle holds may go to another thread
pub held_send : IsSend held.the_row
held_send = let o : IsSend (owner.the_field).row = owner_send in
    let p : IsSend (pass.the_field).row = pass_send in let s : IsSend shot.the_row = shot_send in
    let n : IsSend (note.the_field).row = note_send in
    let l : IsSend (left.the_field).row = left_send in
    let w : IsSend (closed.the_field).row = closed_send in
    let c : IsSend (tree.the_field).row = search sendable depth 20 in search sendable depth 20
