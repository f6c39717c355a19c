-- The conditions of each kind of event, in order, each with its statement. Together they are the
-- event's enabling condition.
use Rattle.std.specs.Prelude.{◌≡◌, ◌≢◌, ◌+◌, ◌<◌, ◌≤◌, ℕ, Bool, List, [], ◌∷◌, slice_get, Option, Some}
use Rattle.ist_core.specs.declared.events.Event.{Event}
use Rattle.ist_core.specs.declared.events.Event.TheVariants.{Enter, Reserve, Install, Okay, Decide, Resolve, Count, Mark, Pass, Finish, Root as RootEvent, Draw, Place, Lose}
use Rattle.ist_core.specs.declared.states.ChangeRow.{ChangeRow}
use Rattle.ist_core.specs.declared.lists.Row.{Row}
use Rattle.ist_core.specs.References.{ChangeAt, InnerAt, ref_of, unset_word}
use Rattle.ist_core.specs.Statuses.{open_word, marked_word, undecided}
use Rattle.ist_core.specs.Shapes.{share_from}
use Rattle.ist_core.specs.Snapshots.{Snapshot, HoldsRows}
use Rattle.ist_core.specs.Logs.{Log, state}
use Rattle.ist_core.specs.Slots.{SlotHolds}
use Rattle.ist_core.specs.Links.{WasLinked}
use Rattle.ist_core.specs.Rebuilding.{IsStarted}
use Rattle.ist_core.specs.Enabled.{CanEnter, CanReserve}
use Rattle.ist_core.specs.Installing.{CanInstall, IsUnrefused}
use Rattle.ist_core.specs.Deciding.{CanOkay, CanDecide, CanResolve, CanCount}
use Rattle.ist_core.specs.Marking.{CanMark, CanPass, CanFinish}
use Rattle.ist_core.specs.Building.{CanRoot, CanDraw, CanPlace, CanLose}
use Rattle.check_events.specs.Mirroring.{RowHolds}
use Rattle.check_events.specs.Remembering.{IsUncounted}
use Rattle.ist_check.specs.declared.conditions.Condition.TheVariants as c
use Rattle.ist_check.specs.Failing.{Stated, states}
use Rattle.ist_check.specs.Published.{HasChangeRow, HasInner, HasRebuild, Any, first_change_at, IsWith, IsFinishedSo}

-- the conditions of an Enter
abbrev pub enter_says : Snapshot → ℕ → List Stated
enter_says t caller =
    states c.Number (caller ≡ t.callers)
    ∷ states c.BelowLimit (CanEnter t caller)
    ∷ []

-- the conditions of a Reserve
abbrev pub reserve_says : Snapshot → ℕ → ℕ → ℕ → List Stated
reserve_says t caller base size =
    states c.Known (caller < t.callers)
    ∷ states c.BaseIs (base ≡ t.next)
    ∷ states c.Room (t.next + size ≤ t.words)
    ∷ states c.Fair (CanReserve t caller base size)
    ∷ []

-- the conditions of an Install, if the first of its rows is this change
abbrev pub says_of_change : Snapshot → Log → ℕ → ℕ → List Row → Option ChangeRow → List Stated
says_of_change first log caller base rows named =
    let t = state first log in
    states c.Known (caller < t.callers)
    ∷ states c.RowsAre (IsWith Any named)
    ∷ states c.Held (HoldsRows t caller rows)
    ∷ states c.Owned (IsWith (λ change. change.owner ≡ caller) named)
    ∷ states c.Unset (IsWith (λ change. change.decision ≡ undecided) named)
    ∷ states c.InSlot (IsWith (λ change. SlotHolds t change.node change.index change.from) named)
    ∷ states c.Linked (IsWith (λ change. WasLinked first log change.node) named)
    ∷ states c.Unrefused (IsWith (λ change. IsUnrefused t caller change.node) named)
    ∷ states c.Fits (CanInstall first log caller base rows)
    ∷ []

-- the conditions of an Install
abbrev pub install_says : Snapshot → Log → ℕ → ℕ → List Row → List Stated
install_says first log caller base rows =
    says_of_change first log caller base rows (first_change_at rows base)

-- the conditions of an Okay
abbrev pub okay_says : Snapshot → ℕ → ℕ → List Stated
okay_says t caller base =
    states c.Known (caller < t.callers)
    ∷ states c.Published (HasChangeRow t base Any)
    ∷ states c.Unset (HasChangeRow t base (λ change. change.decision ≡ undecided))
    ∷ states c.NodeOpen (CanOkay t caller base)
    ∷ []

-- the conditions of a Decide
abbrev pub decide_says : Snapshot → Log → ℕ → ℕ → Bool → List Stated
decide_says t log caller base said =
    states c.Known (caller < t.callers)
    ∷ states c.Published (HasChangeRow t base Any)
    ∷ states c.Unset (HasChangeRow t base (λ change. change.decision ≡ undecided))
    ∷ states c.Outcome (CanDecide t log caller base said)
    ∷ []

-- the conditions of a Resolve
abbrev pub resolve_says : Snapshot → ℕ → ℕ → List Stated
resolve_says t caller base =
    states c.Known (caller < t.callers)
    ∷ states c.Published (HasChangeRow t base Any)
    ∷ states c.Decided (HasChangeRow t base (λ change. change.decision ≢ undecided))
    ∷ states c.InSlot (CanResolve t caller base)
    ∷ []

-- the conditions of a Count
abbrev pub count_says : Snapshot → Log → ℕ → ℕ → List Stated
count_says first log caller node =
    states c.Known (caller < (state first log).callers)
    ∷ states c.Uncounted ((base : ℕ) × IsUncounted (state first log) log caller node base)
    ∷ states c.OnChain (CanCount first log caller node)
    ∷ []

-- the conditions of a Mark
abbrev pub mark_says : Snapshot → Log → ℕ → ℕ → List Stated
mark_says t log caller node =
    states c.Known (caller < t.callers)
    ∷ states c.Published (HasInner t node Any)
    ∷ states c.RowOpen (HasInner t node (λ row. row.status ≡ open_word))
    ∷ states c.Called (CanMark t log caller node)
    ∷ []

-- the conditions of a Pass
abbrev pub pass_says : Snapshot → ℕ → ℕ → ℕ → ℕ → List Stated
pass_says t caller node i word =
    states c.Known (caller < t.callers)
    ∷ states c.Published (HasInner t node Any)
    ∷ states c.Marked (HasInner t node (λ row. row.status ≡ marked_word))
    ∷ states c.InSlot (HasInner t node (λ row. slice_get row.slots i ≡ Some word))
    ∷ states c.NoChange ((base : ℕ) → ref_of word ≢ Some (ChangeAt base))
    ∷ states c.Set (CanPass t caller node i word)
    ∷ []

-- the conditions of a Finish
abbrev pub finish_says : Snapshot → Log → ℕ → ℕ → ℕ → List Stated
finish_says t log caller node k =
    states c.Known (caller < t.callers)
    ∷ states c.Published (HasInner t node Any)
    ∷ states c.Marked (HasInner t node (λ row. row.status ≡ marked_word))
    ∷ states c.Passed (CanFinish t log caller node k)
    ∷ []

-- the conditions of a Root
abbrev pub root_says : Snapshot → ℕ → ℕ → ℕ → List Row → List Stated
root_says t caller rebuild word rows =
    states c.Known (caller < t.callers)
    ∷ states c.Published (HasRebuild t rebuild Any)
    ∷ states c.Started (IsStarted t rebuild)
    ∷ states c.Rootless (HasRebuild t rebuild (λ row. row.root ≡ unset_word))
    ∷ states c.Finished (HasRebuild t rebuild (λ row. IsFinishedSo t row Any))
    ∷ states c.Held (HoldsRows t caller rows)
    ∷ states c.Root (CanRoot t caller rebuild word rows)
    ∷ []

-- the conditions of a Draw
abbrev pub draw_says : Snapshot → Log → ℕ → ℕ → ℕ → List Stated
draw_says t log caller rebuild part =
    states c.Known (caller < t.callers)
    ∷ states c.Published (HasRebuild t rebuild Any)
    ∷ states c.Rooted (HasRebuild t rebuild (λ row. row.root ≢ unset_word))
    ∷ states c.Finished (HasRebuild t rebuild (λ row. IsFinishedSo t row Any))
    ∷ states c.Shared (HasRebuild t rebuild (λ row. IsFinishedSo t row (λ k. share_from ≤ k)))
    ∷ states c.PartIs (HasRebuild t rebuild (λ row. part ≡ row.draw))
    ∷ states c.NotPast (CanDraw t log caller rebuild part)
    ∷ []

-- the conditions of a Place
abbrev pub place_says : Snapshot → ℕ → ℕ → ℕ → ℕ → List Row → List Stated
place_says t caller rebuild i word rows =
    states c.Known (caller < t.callers)
    ∷ states c.Published (HasRebuild t rebuild Any)
    ∷ states c.Rooted (HasRebuild t rebuild (λ row. (root : ℕ) × (ref_of row.root ≡ Some (InnerAt root))))
    ∷ states c.Free (HasRebuild t rebuild (λ row. (root : ℕ) × (ref_of row.root ≡ Some (InnerAt root))
    × RowHolds t root i unset_word))
    ∷ states c.Held (HoldsRows t caller rows)
    ∷ states c.Ideal (CanPlace t caller rebuild i word rows)
    ∷ []

-- the conditions of a Lose
abbrev pub lose_says : Snapshot → Log → ℕ → List ℕ → List Stated
lose_says t log caller bases =
    states c.Known (caller < t.callers)
    ∷ states c.Cause (CanLose t log caller bases)
    ∷ []

-- the conditions of the event, in order, after the log
abbrev pub says_of : Snapshot → Log → Event → List Stated
says_of first log (Enter caller) = enter_says (state first log) caller
says_of first log (Reserve caller base size) = reserve_says (state first log) caller base size
says_of first log (Install caller change rows) = install_says first log caller change rows
says_of first log (Okay caller change) = okay_says (state first log) caller change
says_of first log (Decide caller change said) = decide_says (state first log) log caller change said
says_of first log (Resolve caller change) = resolve_says (state first log) caller change
says_of first log (Count caller node) = count_says first log caller node
says_of first log (Mark caller node) = mark_says (state first log) log caller node
says_of first log (Pass caller node i word) = pass_says (state first log) caller node i word
says_of first log (Finish caller node keys) = finish_says (state first log) log caller node keys
says_of first log (RootEvent caller rebuild word rows) = root_says (state first log) caller rebuild word rows
says_of first log (Draw caller rebuild part) = draw_says (state first log) log caller rebuild part
says_of first log (Place caller rebuild part word rows) = place_says (state first log) caller rebuild part word rows
says_of first log (Lose caller bases) = lose_says (state first log) log caller bases
