-- What making a pass and taking it back do to what handles hold.
use Rattle.std.specs.Prelude.{◌≡◌, ◌≢◌, ◌⊎◌, ℕ, ◌+◌, [], ◌∷◌, true, false}
use Rattle.std.specs.Arc.{arc_value}
use Rattle.ist_tree.specs.Faces.{calls_in}
use Rattle.ist_handles.specs.declared.handles.Handle.{Handle}
use Rattle.ist_handles.specs.declared.held.Held.{Held}
use Rattle.ist_handles.specs.declared.held.Held.TheVariants as of
use Rattle.ist_handles.specs.declared.owners.TreeOwner.{TreeOwner}
use Rattle.ist_handles.specs.declared.passes.TreePass.{TreePass}
use Rattle.ist_handles.specs.Results.{done, memory, misuse}
use Rattle.ist_c.specs.Kinds.{IsNoOwner, IsSameOwner, IsAsBefore}

-- the owner is of the same tree, and made one pass more: this one, which has made no call
pub record HasMadePass (o q : TreeOwner) (p : TreePass) : Type 0 where
  pub same_tree : arc_value q.tree ≡ arc_value o.tree
  pub its_tree : arc_value p.tree ≡ arc_value o.tree
  pub number : p.pass.number ≡ o.maker.made
  pub no_calls : p.pass.calls ≡ []
  pub made : q.maker.made ≡ o.maker.made + 1
  pub taken : q.maker.taken ≡ o.maker.taken

-- the owner is of the same tree, and took this pass of it back with its calls
pub record HasTakenBack (o q : TreeOwner) (p : TreePass) : Type 0 where
  pub same_tree : arc_value q.tree ≡ arc_value o.tree
  pub its_tree : arc_value p.tree ≡ arc_value o.tree
  pub made : q.maker.made ≡ o.maker.made
  pub taken : q.maker.taken ≡ calls_in p.pass ∷ o.maker.taken

-- a handle of an owner holds it still, and the other handle, which was empty, holds the pass that it made;
-- without memory no pass is made. Only by a handle of something else, or into a full one, is it misuse,
-- and both are as before
pub data Makes : Held → Held → Handle → Handle → ℕ → Type 0 where
  makes_pass : (o q : TreeOwner) (p : TreePass) (before out : Handle) → HasMadePass o q p
      → before.full ≡ false → out.full ≡ true → out.opaque.value ≡ of.Pass p
      → Makes (of.Owner o) (of.Owner q) before out done
  makes_none : (o q : TreeOwner) (out : Handle) → IsSameOwner o q → out.full ≡ false
      → Makes (of.Owner o) (of.Owner q) out out memory
  no_maker : (held : Held) (out : Handle) → (out.full ≡ true) ⊎ IsNoOwner held
      → Makes held held out out misuse

-- these two aren't an owner and a pass with the number of its tree
abbrev pub AreNotToGiveBack : Held → Handle → Type 0
AreNotToGiveBack owner pass =
    (o : TreeOwner) (p : TreePass) → owner ≡ of.Owner o → pass.full ≡ true
    → pass.opaque.value ≡ of.Pass p → (arc_value p.tree).number ≢ (arc_value o.tree).number

-- a handle of an owner holds it still, and it took the other handle's pass back; that handle is empty then.
-- Only if the two aren't an owner and a pass with the number of its tree is it misuse, and both are as before
pub data TakesBack : Held → Held → Handle → Handle → ℕ → Type 0 where
  takes_pass : (o q : TreeOwner) (p : TreePass) (before after : Handle) → before.full ≡ true
      → before.opaque.value ≡ of.Pass p → HasTakenBack o q p → after.full ≡ false
      → TakesBack (of.Owner o) (of.Owner q) before after done
  takes_none : (held : Held) (before after : Handle) → AreNotToGiveBack held before
      → IsAsBefore before after → TakesBack held held before after misuse
