-- What a put or a remove has counted, what became of the rows that it made due, and which rebuilds
-- it started and finished.
use Rattle.std.specs.Prelude.{◌≡◌, ◌⊎◌, ℕ, List, ◌∷◌, Option, Some, None}
use Rattle.ist_core.specs.declared.commands.Command.{Command}
use Rattle.ist_core.specs.declared.events.Event.TheVariants.{Install}
use Rattle.ist_core.specs.declared.lists.Row.{Row}
use Rattle.ist_core.specs.declared.pairs.Pair.{Pair}
use Rattle.ist_core.specs.declared.ports.Full.{Full}
use Rattle.ist_core.specs.declared.states.ChangeRow.{ChangeRow}
use Rattle.ist_core.specs.declared.states.InnerRow.{InnerRow}
use Rattle.ist_core.specs.Lawful.{state_of}
use Rattle.ist_core.specs.Links.{IsChild, WasOnChain}
use Rattle.ist_core.specs.Logs.{Ever, GoesOn, Log}
use Rattle.ist_core.specs.Pieces.{Inner}
use Rattle.ist_core.specs.Rebuilding.{IsDue}
use Rattle.ist_core.specs.References.{InnerAt, word_of}
use Rattle.ist_core.specs.Slots.{IsOpen}
use Rattle.ist_core.specs.Snapshots.{Snapshot}
use Rattle.ist_core.specs.StartLayout.{start}
use Rattle.ist_core.specs.Statuses.{start_kind}
use Rattle.ist_core.specs.Writing.{first_change}
use Rattle.ist_rebuild.specs.Starting.{StartsDoneSince}
use Rattle.ist_updates.specs.Counting.{CountedNowhere, IsCounted, CameToLimit}
use Rattle.ist_tree.specs.Faces.{PassFace}
use Rattle.ist_tree.specs.Refusals.{IsRowRefused, IsTopRefused}

-- in the call the pass has put or removed as the command says, and counted that at each row on the
-- chain of its change
abbrev pub HasCountedInCall : PassFace → PassFace → Command → Type 0
HasCountedInCall p q command = IsCounted p.tree.start p.tree.words p.seen q.seen p.number command

-- the pass counted at no node in the call
abbrev pub CountsNowhere : PassFace → PassFace → Type 0
CountsNowhere p q = CountedNowhere p.seen q.seen p.number

-- an increment of the pass in this call brought the row's counter to its limit, or beyond it
abbrev pub CameDue : PassFace → PassFace → ℕ → Type 0
CameDue p q row = CameToLimit p.tree.start p.tree.words p.seen q.seen p.number row

-- the row reached its limit in this call, and was on the chain of each row that did
pub record IsTopmostDue (p q : PassFace) (row : ℕ) : Type 0 where
  pub came : CameDue p q row
  pub above : (other : ℕ) → CameDue p q other
      → WasOnChain (start p.tree.start p.tree.words) q.seen other row

-- the row, or the node whose child it was, isn't open in what the pass has seen
pub record IsClosedAt (p : PassFace) (row : ℕ) : Type 0 where
  pub parent : ℕ
  pub index : ℕ
  pub was_child : Ever (start p.tree.start p.tree.words) (λ t. IsChild t parent index row) p.seen
  pub closed : let t = state_of p.tree.start p.tree.words p.seen in
      (¬ (IsOpen t row)) ⊎ ¬ (IsOpen t parent)

-- the refusal that a pass keeps after it met this one: the first of all that it met
abbrev pub kept_refusal : Option Full → Full → Option Full
kept_refusal (Some first) full = Some first
kept_refusal None full = Some full

-- no row reached its limit by the counts of the call; or the topmost that did, or its parent, isn't
-- open; or too few words were left to rebuild it, and the pass keeps this refusal
pub data LeavesNoneDue (p q : PassFace) : Type 0 where
  none_came : ((row : ℕ) → ¬ (CameDue p q row)) → LeavesNoneDue p q
  is_closed : (row : ℕ) → IsTopmostDue p q row → IsClosedAt q row → LeavesNoneDue p q
  was_refused : (row : ℕ) (full : Full) → IsTopmostDue p q row → IsRowRefused p q row full
      → q.refused ≡ kept_refusal p.refused full → LeavesNoneDue p q

-- ---- which rebuilds it started

-- the word names an inner row whose count has reached its limit
pub record IsDueAt (t : Snapshot) (word : ℕ) : Type 0 where
  pub target : ℕ
  pub word_is : word ≡ word_of (InnerAt target)
  pub row : InnerRow
  pub published : t.pieces target ≡ Some (Inner row)
  pub due : IsDue row

-- each start of a rebuild that the caller installed after the earlier log was, at that moment, of a
-- row whose count had reached its limit
abbrev pub InstallsDue : List Pair → ℕ → Log → Log → ℕ → Type 0
InstallsDue pairs words earlier log caller =
    (at : Log) (base : ℕ) (rows : List Row) (change : ChangeRow) → GoesOn earlier at
    → GoesOn (Install caller base rows ∷ at) log → first_change rows ≡ Some change
    → change.kind ≡ start_kind → IsDueAt (state_of pairs words at) change.from

-- each start of a rebuild that the pass installed in the call was of a row at its limit
abbrev pub StartsOnlyDue : PassFace → PassFace → Type 0
StartsOnlyDue p q = InstallsDue p.tree.start p.tree.words p.seen q.seen p.number

-- ---- which rebuilds it finished

-- each rebuild that the pass started in the call was replaced, or is in a parent that isn't open
abbrev pub HasDoneItsStarts : PassFace → PassFace → Type 0
HasDoneItsStarts p q =
    StartsDoneSince (state_of p.tree.start p.tree.words p.seen)
    (state_of q.tree.start q.tree.words q.seen) q.number

-- the same; or the call met such a refusal of a rebuild, and the pass keeps it, or an earlier one
pub data FinishesStarts (IsMet : Full → Type 0) (p q : PassFace) : Type 0 where
  all_done : HasDoneItsStarts p q → FinishesStarts IsMet p q
  was_short : (full : Full) → IsMet full → q.refused ≡ kept_refusal p.refused full
      → FinishesStarts IsMet p q

-- a put or a remove did so, unless too few words were left in it to rebuild a row that reached its
-- limit in it
abbrev pub FinishesUpdate : PassFace → PassFace → Type 0
FinishesUpdate p q = FinishesStarts (λ full. (row : ℕ) × IsRowRefused p q row full) p q

-- a freeze did so, unless too few words were left in it to help a rebuild of what was below the anchor
abbrev pub FinishesFreeze : PassFace → PassFace → Type 0
FinishesFreeze p q = FinishesStarts (IsTopRefused p q) p q
