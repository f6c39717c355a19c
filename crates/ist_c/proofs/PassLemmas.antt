-- What an owner behind a handle made and took back.
use Rattle.std.proofs.Common.{◌≡◌, ◌≢◌, true, false, refl, sym, subst, ◌∙◌, ℕ, length, Result, Ok, Err, IfOk, IfErr, inr, ◌<◌, List, arith}
use Rattle.std.specs.Arc.{arc_value}
use Rattle.ist_handles.specs.declared.handles.Handle.{Handle}
use Rattle.ist_handles.specs.declared.held.Held.{Held}
use Rattle.ist_handles.specs.declared.owners.TreeOwner.{TreeOwner}
use Rattle.ist_handles.specs.declared.passes.TreePass.{TreePass}
use Rattle.ist_handles.specs.Results.{done, memory, misuse, busy}
use Rattle.ist_c.specs.Passes.{HasMadePass, HasTakenBack, Makes, TakesBack, makes_pass, makes_none, takes_pass, takes_none}
use Rattle.ist_c.specs.Kinds.{IsNoOwner, IsSameOwner, IsNoPass, IsNotClosed}
use Rattle.ist_c.proofs.KindLemmas.{still_empty, put_back}
use Rattle.ist_handles.specs.declared.passes.TreeNote.{TreeNote}
use Rattle.ist_c.specs.Keeping.{KeepsInHandle, keeps_it, keeps_none}
use Rattle.ist_c.specs.Notes.{IsNoteOf, IsSamePass, HasMetNote, Notes, Meets, notes_pass, notes_none, meets_note, meets_none}
use Rattle.ist_tree.specs.CallTerms.{ClosesWith, IsNewTree, IsFaultOf}
use Rattle.ist_tree.specs.declared.faults.OpenFault.{OpenFault}
use Rattle.ist_tree.specs.declared.faults.OpenFault.TheVariants.{Small, Memory}
use Rattle.ist_reopen.proofs.ReopenLemmas.{follows}
use Rattle.ist_handles.specs.declared.closed_trees.ClosedTree.{ClosedTree}
use Rattle.ist_c.specs.Closing.{Leaves, Closes, owner_closes, closed_leaves, is_busy, no_owner, OpensInHandle, opens_owner, opens_none, Reopens, owner_reopens, owner_closed, owner_busy, closed_opens, closed_stays, none_reopens, fault_status}
use Rattle.ist_core.specs.declared.pairs.Pair.{Pair}
use Rattle.ist_reopen.specs.Reopening.{as_reopen}
use Rattle.ist_c.specs.Opening.{OpensNew, opens_new, opens_small, opens_memory}
use Rattle.ist_handles.specs.declared.held.Held.TheVariants as of

-- a handle of an owner that made a pass still holds the owner, and the other handle the pass
pub made_one : (held : Held) (o q : TreeOwner) (p : TreePass) (before out : Handle)
    → held ≡ of.Owner o → HasMadePass o q p → before.full ≡ false → out.full ≡ true
    → out.opaque.value ≡ of.Pass p → Makes held (of.Owner q) before out done
made_one held o q p before out is made empty full value =
    subst (λ (h : Held). Makes h (of.Owner q) before out done) (sym is)
    (makes_pass o q p before out made empty full value)

-- if there is no memory for the pass, the owner's maker and the other handle are as before
pub made_none : (held : Held) (o q : TreeOwner) (out : Handle) → held ≡ of.Owner o → IsSameOwner o q
    → out.full ≡ false → Makes held (of.Owner q) out out memory
made_none held o q out is same empty =
    subst (λ (h : Held). Makes h (of.Owner q) out out memory) (sym is) (makes_none o q out same empty)

-- a handle of an owner that took a pass back still holds the owner, and the pass's handle is empty
pub took_one : (held : Held) (o q : TreeOwner) (p : TreePass) (before after : Handle) → held ≡ of.Owner o
    → before.full ≡ true → before.opaque.value ≡ of.Pass p → HasTakenBack o q p → after.full ≡ false
    → TakesBack held (of.Owner q) before after done
took_one held o q p before after is full pass taken empty =
    subst (λ (h : Held). TakesBack h (of.Owner q) before after done) (sym is)
    (takes_pass o q p before after full pass taken empty)

-- a handle of something else takes nothing
pub took_by_none : (held : Held) (pass : Handle) → IsNoOwner held → TakesBack held held pass pass misuse
took_by_none held pass differs =
    takes_none held pass pass (λ o p is full given. absurd (differs o is)) (refl, λ full. refl)

-- from an empty handle nothing is taken
pub took_nothing : (held : Held) (owner : TreeOwner) (before after : Handle) → held ≡ of.Owner owner
    → (before.full ≡ true → ⊥) → after.full ≡ false → TakesBack held (of.Owner owner) before after misuse
took_nothing held owner before after is isnt empty =
    subst (λ (h : Held). TakesBack held h before after misuse) is
    (takes_none held before after (λ o p its full given. absurd (isnt full))
    (still_empty before after isnt empty))

-- what isn't a pass with the number of the owner's tree is put back
pub took_not : (held given : Held) (owner : TreeOwner) (before after : Handle) → held ≡ of.Owner owner
    → ((p : TreePass) → given ≡ of.Pass p → (arc_value p.tree).number ≢ (arc_value owner.tree).number)
    → before.full ≡ true → given ≡ before.opaque.value → after.full ≡ true
    → after.opaque.value ≡ given → TakesBack held (of.Owner owner) before after misuse
took_not held given owner before after is differs was same full value =
    subst (λ (h : Held). TakesBack held h before after misuse) is
    (takes_none held before after (λ o p its f pass. let one : owner ≡ o = cc in
    subst (λ (x : TreeOwner). (arc_value p.tree).number ≢ (arc_value x.tree).number) one
    (differs p (same ∙ pass)))
    (put_back given before after was same full value))

-- so is a pass of another tree
pub took_other : (held given : Held) (owner : TreeOwner) (pass : TreePass) (before after : Handle)
    → held ≡ of.Owner owner → given ≡ of.Pass pass
    → (arc_value pass.tree).number ≢ (arc_value owner.tree).number
    → before.full ≡ true → given ≡ before.opaque.value → after.full ≡ true
    → after.opaque.value ≡ given → TakesBack held (of.Owner owner) before after misuse
took_other held given owner pass before after is its other = grind (arith, took_not)

-- ---- what a pass behind a handle noted and learnt.

-- a note of a pass behind a handle is kept by the other handle, or there is no memory for that
pub noted_one : (held : Held) (p q : TreePass) (n : TreeNote) (before out : Handle) (status : ℕ)
    → held ≡ of.Pass p → IsSamePass p q → before.full ≡ false → IsNoteOf p n
    → KeepsInHandle (of.Note n) before out status → Notes held (of.Pass q) before out status
noted_one held p q n before out status is same empty noted_is keeps =
    subst (λ (h : Held). Notes h (of.Pass q) before out status) (sym is)
    (notes_pass p q n before out status same empty noted_is keeps)

-- without memory for a note there is none
pub noted_none : (held : Held) (p q : TreePass) (out : Handle) → held ≡ of.Pass p → IsSamePass p q
    → out.full ≡ false → Notes held (of.Pass q) out out memory
noted_none held p q out is same empty =
    subst (λ (h : Held). Notes h (of.Pass q) out out memory) (sym is) (notes_none p q out same empty)

-- a pass behind a handle that met a note has learnt what it holds, and the note's handle is empty
pub met_one : (held : Held) (p q : TreePass) (n : TreeNote) (before after : Handle) → held ≡ of.Pass p
    → before.full ≡ true → before.opaque.value ≡ of.Note n → HasMetNote p q n → after.full ≡ false
    → Meets held (of.Pass q) before after done
met_one held p q n before after is full note met empty =
    subst (λ (h : Held). Meets h (of.Pass q) before after done) (sym is)
    (meets_note p q n before after full note met empty)

-- a handle of something else meets nothing
pub met_by_none : (held : Held) (note : Handle) → IsNoPass held → Meets held held note note misuse
met_by_none held note differs =
    meets_none held note note (λ p n is full told. absurd (differs p is)) (refl, λ full. refl)

-- an empty handle has nothing to meet
pub met_nothing : (held : Held) (pass : TreePass) (before after : Handle) → held ≡ of.Pass pass
    → (before.full ≡ true → ⊥) → after.full ≡ false → Meets held (of.Pass pass) before after misuse
met_nothing held pass before after is isnt empty =
    subst (λ (h : Held). Meets held h before after misuse) is
    (meets_none held before after (λ p n its full told. absurd (isnt full))
    (still_empty before after isnt empty))

-- what isn't a note with the number of the pass's tree is put back
pub met_not : (held told : Held) (pass : TreePass) (before after : Handle) → held ≡ of.Pass pass
    → ((n : TreeNote) → told ≡ of.Note n → (arc_value n.tree).number ≢ (arc_value pass.tree).number)
    → before.full ≡ true → told ≡ before.opaque.value → after.full ≡ true
    → after.opaque.value ≡ told → Meets held (of.Pass pass) before after misuse
met_not held told pass before after is differs was same full value =
    subst (λ (h : Held). Meets held h before after misuse) is
    (meets_none held before after (λ p n its f note. let one : pass ≡ p = cc in
    subst (λ (x : TreePass). (arc_value n.tree).number ≢ (arc_value x.tree).number) one
    (differs n (same ∙ note)))
    (put_back told before after was same full value))

-- so is a note of another tree
pub met_other : (held told : Held) (pass : TreePass) (note : TreeNote) (before after : Handle)
    → held ≡ of.Pass pass → told ≡ of.Note note
    → (arc_value note.tree).number ≢ (arc_value pass.tree).number
    → before.full ≡ true → told ≡ before.opaque.value → after.full ≡ true
    → after.opaque.value ≡ told → Meets held (of.Pass pass) before after misuse
met_other held told pass note before after is its other = grind (arith, met_not)

-- ---- what closing and reopening left in an owner's handle.

-- ---- the owner's tree

-- closing returned the words of the tree, or the owner with the same maker
abbrev Closed : TreeOwner → Result ClosedTree TreeOwner → Type 0
Closed owner result = IfOk result (λ c. ClosesWith owner.maker c.closed)

-- a handle of an owner whose tree was closed holds what is left of it
pub closed_owner : (held after : Held) (owner : TreeOwner) (result : Result ClosedTree TreeOwner)
    (closed : ClosedTree) (status : ℕ) → held ≡ of.Owner owner → result ≡ Ok closed → Closed owner result
    → Leaves closed.closed after status → Closes held after status
closed_owner held after owner result closed status is ok closes leaves =
    subst (λ (h : Held). Closes h after status) (sym is) (owner_closes owner closed.closed after status
    (subst (Closed owner) ok closes) leaves)

-- a handle of an owner still holds it if a pass or a note is out
pub closed_busy : (held : Held) (owner kept : TreeOwner) (result : Result ClosedTree TreeOwner)
    → held ≡ of.Owner owner → result ≡ Err kept → IfErr result (IsSameOwner owner)
    → Closes held (of.Owner kept) busy
closed_busy held owner kept result is err same =
    subst (λ (h : Held). Closes h (of.Owner kept) busy) (sym is) (is_busy owner kept
    (subst (λ (r : Result ClosedTree TreeOwner). IfErr r (IsSameOwner owner)) err same))

-- a handle of a closed tree holds what is left of it
pub closed_again : (held after : Held) (closed : ClosedTree) (status : ℕ) → held ≡ of.Closed closed
    → Leaves closed.closed after status → Closes held after status
closed_again held after closed status is leaves =
    subst (λ (h : Held). Closes h after status) (sym is) (closed_leaves closed after status leaves)

-- closing a handle of something else leaves it as it is
pub closed_other : (held other : Held) → other ≡ held → IsNoOwner other → IsNotClosed other
    → Closes held other misuse
closed_other held other is unowned unclosed =
    subst (λ (h : Held). Closes h other misuse) is (no_owner other unowned unclosed)

-- ---- the next tree

-- what was opened over an owner's closed tree begins with what its passes left
owner_opened : (owner : TreeOwner) (closed : ClosedTree) (words number : ℕ) (after : Held) (status : ℕ)
    → length closed.closed ≡ owner.maker.tree.words → ClosesWith owner.maker closed.closed
    → OpensInHandle closed words number after status
    → Reopens number (of.Owner owner) after words status
owner_opened owner closed words number _ _ size closes (opens_owner new opens numbered) =
    owner_reopens owner new words
    (follows owner.maker closed.closed words (arc_value new.tree).tree new.maker size closes opens) numbered
owner_opened owner closed words number _ _ size closes (opens_none fault within is) =
    owner_closed owner closed words fault closes within is

-- so it is of a handle of an owner whose tree was closed
pub reopened_owner : (held after : Held) (owner : TreeOwner) (result : Result ClosedTree TreeOwner)
    (closed : ClosedTree) (words number status : ℕ) → held ≡ of.Owner owner → result ≡ Ok closed
    → IfOk result (λ c. length c.closed ≡ owner.maker.tree.words) → Closed owner result
    → OpensInHandle closed words number after status → Reopens number held after words status
reopened_owner held after owner result closed words number status is ok size closes opens =
    grind (arith, owner_opened)

-- a handle of an owner still holds it if a pass or a note is out
pub reopened_busy : (held : Held) (owner kept : TreeOwner) (result : Result ClosedTree TreeOwner)
    (words number : ℕ) → held ≡ of.Owner owner → result ≡ Err kept
    → IfErr result (IsSameOwner owner) → Reopens number held (of.Owner kept) words busy
reopened_busy held owner kept result words number is err same =
    subst (λ (h : Held). Reopens number h (of.Owner kept) words busy) (sym is) (owner_busy owner kept words
    (subst (λ (r : Result ClosedTree TreeOwner). IfErr r (IsSameOwner owner)) err same))

closed_opened : (closed : ClosedTree) (words number : ℕ) (after : Held) (status : ℕ)
    → OpensInHandle closed words number after status
    → Reopens number (of.Closed closed) after words status
closed_opened closed words number _ _ (opens_owner new opens numbered) =
    closed_opens closed new words opens numbered
closed_opened closed words number _ _ (opens_none fault within is) =
    closed_stays closed words fault within is

-- a handle of a closed tree holds what was opened over it
pub reopened_closed : (held after : Held) (closed : ClosedTree) (words number status : ℕ)
    → held ≡ of.Closed closed → OpensInHandle closed words number after status
    → Reopens number held after words status
reopened_closed held after closed words number status is opens = grind (arith, closed_opened)

-- reopening a handle of something else leaves it as it is
pub reopened_other : (held other : Held) (words number : ℕ) → other ≡ held → IsNoOwner other
    → IsNotClosed other → Reopens number held other words misuse
reopened_other held other words number is unowned unclosed =
    subst (λ (h : Held). Reopens number h other words misuse) is
    (none_reopens other words (inr (unowned, unclosed)))

-- ---- what a handle holds after a tree was opened. Serves `open_numbered`.

-- a handle that keeps the owner of a new tree holds it, or is as before
pub opened_one : (words number : ℕ) (pairs : List Pair) (owner : TreeOwner) (before after : Handle) (status : ℕ)
    → IsNewTree words pairs (arc_value owner.tree).tree owner.maker → (arc_value owner.tree).number ≡ number
    → KeepsInHandle (of.Owner owner) before after status → OpensNew words pairs number before after status
opened_one words number pairs owner _ _ _ new numbered (keeps_it before after full value) =
    opens_new owner before after new numbered full value
opened_one words number pairs owner _ _ _ new numbered (keeps_none out) = opens_memory out

-- it is as before if no tree was opened
pub opened_none : (words number : ℕ) (pairs : List Pair) (out : Handle) (fault : OpenFault)
    → IsFaultOf words pairs fault → OpensNew words pairs number out out (fault_status (as_reopen fault))
opened_none words number pairs out (Small needed given) is =
    opens_small out (subst (λ n. words < n) is.0 is.2)
opened_none words number pairs out Memory is = opens_memory out
