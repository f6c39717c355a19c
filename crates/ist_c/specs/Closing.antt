-- What closing and reopening leave in an owner's handle.
use Rattle.std.specs.Prelude.{◌≡◌, ℕ, ◌<◌, ◌≤◌, ◌⊎◌, List}
use Rattle.std.specs.Arc.{arc_value}
use Rattle.ist_core.specs.RowLayout.{place_limit}
use Rattle.ist_tree.specs.Closing.{ClosesWith}
use Rattle.ist_reopen.specs.declared.faults.ReopenFault.{ReopenFault}
use Rattle.ist_reopen.specs.declared.faults.ReopenFault.TheVariants.{Beyond, Small, Memory}
use Rattle.ist_reopen.specs.Reopening.{OpensAfter, BeginsAfter, IsReopenFaultOf}
use Rattle.ist_handles.specs.declared.closed_trees.ClosedTree.{ClosedTree}
use Rattle.ist_handles.specs.declared.closed_trees.LeftPairs.{LeftPairs}
use Rattle.ist_handles.specs.declared.held.Held.{Held}
use Rattle.ist_handles.specs.declared.held.Held.TheVariants as of
use Rattle.ist_handles.specs.declared.owners.TreeOwner.{TreeOwner}
use Rattle.ist_handles.specs.Leaving.{IsLeft}
use Rattle.ist_handles.specs.Results.{done, memory, small, busy, misuse}
use Rattle.ist_c.specs.Kinds.{IsNoOwner, IsNotClosed, IsSameOwner}

-- ---- closing

-- the handle holds what is left of a tree with these words, or the closed tree itself if there was no
-- memory for the list
pub data Leaves : List ℕ → Held → ℕ → Type 0 where
  leaves_pairs : (words : List ℕ) (left : LeftPairs) → IsLeft words left
      → Leaves words (of.Left left) done
  leaves_words : (closed : ClosedTree) → Leaves closed.closed (of.Closed closed) memory

-- a handle of an owner holds what its tree left, whose words represent the opening pairs and the calls
-- of all passes, or the owner still if a pass or a note is out; a handle of a closed tree holds what is
-- left of it; only a handle of something else is misused, and is as before
pub data Closes : Held → Held → ℕ → Type 0 where
  owner_closes : (owner : TreeOwner) (words : List ℕ) (after : Held) (status : ℕ)
      → ClosesWith owner.maker words → Leaves words after status
      → Closes (of.Owner owner) after status
  closed_leaves : (closed : ClosedTree) (after : Held) (status : ℕ)
      → Leaves closed.closed after status → Closes (of.Closed closed) after status
  is_busy : (owner kept : TreeOwner) → IsSameOwner owner kept
      → Closes (of.Owner owner) (of.Owner kept) busy
  no_owner : (held : Held) → IsNoOwner held → IsNotClosed held → Closes held held misuse

-- ---- reopening

-- the status for a fault
abbrev pub fault_status : ReopenFault → ℕ
fault_status (Beyond words) = misuse
fault_status (Small needed words) = small
fault_status Memory = memory

-- the handle holds the owner of a tree with this number, of the pairs that the closed words hold, or the
-- closed tree still if none was opened, though no more words were asked for than a tree may have
pub data OpensInHandle (closed : ClosedTree) (words number : ℕ) : Held → ℕ → Type 0 where
  opens_owner : (new : TreeOwner)
      → OpensAfter closed.closed words (arc_value new.tree).tree new.maker
      → (arc_value new.tree).number ≡ number
      → OpensInHandle closed words number (of.Owner new) done
  opens_none : (fault : ReopenFault) → words ≤ place_limit
      → IsReopenFaultOf closed.closed words fault
      → OpensInHandle closed words number (of.Closed closed) (fault_status fault)

-- a handle of an owner holds the owner of a new tree with this number, which begins with exactly the pairs
-- that all calls of the old tree's passes left; or the closed tree if none was opened, though no more words
-- were asked for than a tree may have; or the owner still if a pass or a note is out. A handle of a closed
-- tree holds the owner of a tree of its pairs with this number, or is as before. Only a handle of something
-- else, and a number of words that no tree has, is misuse, and the handle is as before
pub data Reopens (number : ℕ) : Held → Held → ℕ → ℕ → Type 0 where
  owner_reopens : (old new : TreeOwner) (words : ℕ)
      → BeginsAfter old.maker words (arc_value new.tree).tree new.maker
      → (arc_value new.tree).number ≡ number
      → Reopens number (of.Owner old) (of.Owner new) words done
  owner_closed : (old : TreeOwner) (closed : ClosedTree) (words : ℕ) (fault : ReopenFault)
      → ClosesWith old.maker closed.closed → words ≤ place_limit
      → IsReopenFaultOf closed.closed words fault
      → Reopens number (of.Owner old) (of.Closed closed) words (fault_status fault)
  owner_busy : (owner kept : TreeOwner) (words : ℕ) → IsSameOwner owner kept
      → Reopens number (of.Owner owner) (of.Owner kept) words busy
  closed_opens : (closed : ClosedTree) (new : TreeOwner) (words : ℕ)
      → OpensAfter closed.closed words (arc_value new.tree).tree new.maker
      → (arc_value new.tree).number ≡ number
      → Reopens number (of.Closed closed) (of.Owner new) words done
  closed_stays : (closed : ClosedTree) (words : ℕ) (fault : ReopenFault)
      → words ≤ place_limit → IsReopenFaultOf closed.closed words fault
      → Reopens number (of.Closed closed) (of.Closed closed) words (fault_status fault)
  none_reopens : (held : Held) (words : ℕ)
      → (place_limit < words) ⊎ (IsNoOwner held × IsNotClosed held) → Reopens number held held words misuse
