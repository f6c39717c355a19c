-- A handle is as it was. Serves `ist_give_back` and `ist_meet`.
use Rattle.std.proofs.Common.{◌≡◌, ◌≢◌, ℕ, Bool, true, false, Option, Some, None, IsSome, refl, sym, ◌∙◌, arith}
use Rattle.ist_handles.specs.declared.handles.Handle.{Handle}
use Rattle.ist_handles.specs.declared.held.Held.{Held}
use Rattle.ist_handles.specs.declared.trees.NumberedTree.{NumberedTree}
use Rattle.ist_c.specs.Kinds.{IsAsBefore}

not_full : (full : Bool) → (full ≡ true → ⊥) → full ≡ false
not_full true isnt = absurd (isnt refl)
not_full false isnt = refl

-- an empty one stays so
pub still_empty : (before after : Handle) → (before.full ≡ true → ⊥) → after.full ≡ false
    → IsAsBefore before after
still_empty before after isnt empty = grind (arith, not_full)

-- what was taken out is put back
pub put_back : (held : Held) (before after : Handle) → before.full ≡ true → held ≡ before.opaque.value
    → after.full ≡ true → after.opaque.value ≡ held → IsAsBefore before after
put_back held before after was is full value = (full ∙ sym was, λ f. value ∙ is)

-- an option that isn't some value isn't full
pub no_some : {X : Type 0} (o : Option X) → ((x : X) → o ≢ Some x) → IsSome o → ⊥
no_some (Some x) differs some = differs x refl
no_some None differs some = cc

-- the number of a tree
abbrev pub number : NumberedTree → ℕ
number tree = tree.number
