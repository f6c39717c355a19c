-- What making a note and meeting one do to what handles hold.
use Rattle.std.specs.Prelude.{◌≡◌, ◌≢◌, ◌⊎◌, ℕ, true, false}
use Rattle.std.specs.Arc.{arc_value}
use Rattle.ist_tree.specs.Calls.{HasSeenMore, HasLearnt, WeavesWith}
use Rattle.ist_tree.specs.Faces.{noted}
use Rattle.ist_handles.specs.declared.handles.Handle.{Handle}
use Rattle.ist_handles.specs.declared.held.Held.{Held}
use Rattle.ist_handles.specs.declared.held.Held.TheVariants as of
use Rattle.ist_handles.specs.declared.passes.TreeNote.{TreeNote}
use Rattle.ist_handles.specs.declared.passes.TreePass.{TreePass}
use Rattle.ist_c.specs.Keeping.{KeepsInHandle}
use Rattle.ist_c.specs.Kinds.{IsNoPass, IsAsBefore}
use Rattle.ist_handles.specs.Results.{done, memory, misuse}

-- the pass is the same, of the same tree
pub record IsSamePass (p q : TreePass) : Type 0 where
  pub same_tree : arc_value q.tree ≡ arc_value p.tree
  pub unchanged : q.pass ≡ p.pass

-- the note is of the pass's tree, and holds what the pass has seen
pub record IsNoteOf (p : TreePass) (n : TreeNote) : Type 0 where
  pub its_tree : arc_value n.tree ≡ arc_value p.tree
  pub holds : n.note ≡ noted p.pass

-- the pass is of the same tree, made no call, and learnt what the note of this tree holds: the calls of both
-- are woven into one legal history
pub record HasMetNote (p q : TreePass) (n : TreeNote) : Type 0 where
  pub same_tree : arc_value q.tree ≡ arc_value p.tree
  pub its_tree : arc_value n.tree ≡ arc_value p.tree
  pub seen : HasSeenMore p.pass q.pass
  pub calls : q.pass.calls ≡ p.pass.calls
  pub learnt : HasLearnt q.pass n.note
  pub woven : WeavesWith q.pass n.note

-- a handle of a pass holds this pass as it was, and the other handle, which was empty, a note of it;
-- without memory there is none. Only by a handle of something else, or into a full one, is it misuse, and
-- both are as before
pub data Notes : Held → Held → Handle → Handle → ℕ → Type 0 where
  notes_pass : (p q : TreePass) (n : TreeNote) (before out : Handle) (status : ℕ) → IsSamePass p q
      → before.full ≡ false → IsNoteOf p n → KeepsInHandle (of.Note n) before out status
      → Notes (of.Pass p) (of.Pass q) before out status
  notes_none : (p q : TreePass) (out : Handle) → IsSamePass p q → out.full ≡ false
      → Notes (of.Pass p) (of.Pass q) out out memory
  no_pass : (held : Held) (out : Handle) → (out.full ≡ true) ⊎ IsNoPass held
      → Notes held held out out misuse

-- these two aren't a pass and a note with the number of its tree
abbrev pub AreNotToMeet : Held → Handle → Type 0
AreNotToMeet pass note =
    (p : TreePass) (n : TreeNote) → pass ≡ of.Pass p → note.full ≡ true
    → note.opaque.value ≡ of.Note n → (arc_value n.tree).number ≢ (arc_value p.tree).number

-- a handle of a pass holds it still, and it learnt what the other handle's note holds; that handle is
-- empty then. Only if the two aren't a pass and a note with the number of its tree is it misuse, and both
-- are as before
pub data Meets : Held → Held → Handle → Handle → ℕ → Type 0 where
  meets_note : (p q : TreePass) (n : TreeNote) (before after : Handle) → before.full ≡ true
      → before.opaque.value ≡ of.Note n → HasMetNote p q n → after.full ≡ false
      → Meets (of.Pass p) (of.Pass q) before after done
  meets_none : (held : Held) (before after : Handle) → AreNotToMeet held before
      → IsAsBefore before after → Meets held held before after misuse
