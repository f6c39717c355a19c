-- What opening a tree leaves in a handle.
use Rattle.std.specs.Prelude.{◌≡◌, ℕ, ◌<◌, ◌≤◌, ◌^◌, ◌⊎◌, true, List, length}
use Rattle.std.specs.Arc.{arc_value}
use Rattle.ist_core.specs.RowLayout.{place_limit}
use Rattle.ist_core.specs.declared.pairs.Pair.{Pair}
use Rattle.ist_tree.specs.Opening.{IsNewTree, words_for}
use Rattle.ist_handles.specs.declared.handles.Handle.{Handle}
use Rattle.ist_handles.specs.declared.held.Held.TheVariants as of
use Rattle.ist_handles.specs.declared.owners.TreeOwner.{TreeOwner}
use Rattle.ist_handles.specs.Results.{done, memory, small, misuse}

-- this is how many words a tree takes at least, of any pairs of this number
abbrev pub AreWordsFor : ℕ → ℕ → Type 0
AreWordsFor count words = (pairs : List Pair) → length pairs ≡ count → words ≡ words_for pairs

-- the handle holds the owner of a new tree with this number, which begins with exactly these pairs and has
-- this many words, and whose maker has made no pass. Or it is as before: if the pairs take more words, if there was
-- no memory, or if there are too many words or pairs for any tree
pub data OpensNew (words : ℕ) (pairs : List Pair) (number : ℕ) : Handle → Handle → ℕ → Type 0 where
  opens_new : (owner : TreeOwner) (before after : Handle)
      → IsNewTree words pairs (arc_value owner.tree).tree owner.maker
      → (arc_value owner.tree).number ≡ number → after.full ≡ true
      → after.opaque.value ≡ of.Owner owner → OpensNew words pairs number before after done
  opens_small : (out : Handle) → words < words_for pairs → OpensNew words pairs number out out small
  opens_memory : (out : Handle) → OpensNew words pairs number out out memory
  opens_misuse : (out : Handle) → (place_limit < words) ⊎ (2 ^ 32 ≤ length pairs)
      → OpensNew words pairs number out out misuse
