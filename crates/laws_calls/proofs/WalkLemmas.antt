-- The rows that a search or a walk meets are the chain of the node that it reaches. Serves the walk
-- law.
use Rattle.std.proofs.Common.{List, Some, [], ap, arith, inl, inr, length, refl, slice_get, subst, suc, sym, zero, ℕ, ⊎_elim, ◌++◌, ◌+◌, ◌<◌, ◌∙◌, ◌∷◌, ◌≡◌, ◌≢◌, ◌≤◌, ◌⊎◌}
use Rattle.ist_core.specs.declared.pairs.Pair.{Pair}
use Rattle.ist_core.specs.LogTerms.{Among, CanOpen, EachEnabled, state_of, GoesOn, Log, Snapshot}
use Rattle.ist_core.specs.TreeTerms.{Chain, IsChild, Linked, WasLinked, WasOnChain, at_anchor, below, no_row, one_row}
use Rattle.ist_core.specs.WordTerms.{InnerAt, anchor, start}
use Rattle.ist_core.proofs.AllLogLemmas.{enabled_before, goes_on_more, ever_from, ever_later}
use Rattle.ist_core.proofs.AllPlaceLemmas.{one_parent, get_below}
use Rattle.ist_core.proofs.AllWordLemmas.{get_among}
use Rattle.laws_links.specs.Linking.{IsFinished}
use Rattle.laws_links.proofs.ClosedLemmas.{closed_was_linked, linked_now}
use Rattle.laws_links.proofs.FinishedLemmas.{finished_down}
use Rattle.laws_links.proofs.LinkLemmas.{linked_or_finished}
use Rattle.laws_links.proofs.UntouchedLemmas.{child_no_anchor}
use Rattle.laws_histories.specs.Loads.{log_at}
use Rattle.laws_histories.specs.Searching.{ComesTo, begins, goes_down}
use Rattle.laws_histories.proofs.DecisionLemmas.{prefixes}
use Rattle.laws_histories.proofs.LoadLemmas.{comes_of, look_of}
use Rattle.laws_histories.proofs.ChangeLemmas.{at_on, look_on}
use Rattle.laws_histories.proofs.ToldLemmas.{all_needed}
use Rattle.laws_histories.proofs.PositionLemmas.{node_met}
use Rattle.laws_histories.proofs.SearchLemmas.{ever_at, seen}
use Rattle.laws_calls.specs.Walking.{ComesBy, IsChainOf, WalksTo, at_top, begins_by, goes_by, walks_down}

-- a walk by children, each of which hung in its slot at some moment
data MeetsRows (pairs : List Pair) (words : ℕ) (log : Log) : ℕ → List ℕ → Type 0 where
  no_meeting : MeetsRows pairs words log anchor []
  one_meeting : {node child : ℕ} {rows : List ℕ} (at : Log) (i : ℕ) → GoesOn at log
      → MeetsRows pairs words log node rows → IsChild (state_of pairs words at) node i child
      → MeetsRows pairs words log child (rows ++ child ∷ [])

-- ---- searches with their rows

-- what met rows in this way is a search
pub meeting_comes : (pairs : List Pair) (words : ℕ) (log : Log) (key began last node : ℕ)
    (rows : List ℕ) → ComesBy pairs words log key began last node rows
    → ComesTo pairs words log key began last node
meeting_comes pairs words log key began _ _ _ begins_by = begins
meeting_comes pairs words log key began _ _ _ (goes_by {least = least} {node = node} {rows = rows} c
    look) =
    goes_down (meeting_comes pairs words log key began least node rows c) look

-- each search met some rows
pub search_meets : (pairs : List Pair) (words : ℕ) (log : Log) (key began last node : ℕ)
    → ComesTo pairs words log key began last node
    → (rows : List ℕ) × ComesBy pairs words log key began last node rows
search_meets pairs words log key began _ _ begins = ([], begins_by)
search_meets pairs words log key began _ _ (goes_down {least = least} {node = node} {child = child}
    c look) =
    let it = search_meets pairs words log key began least node c in
    (it.0 ++ child ∷ [], goes_by it.1 look)

-- a search met the same rows in a longer log
pub meeting_on : (pairs : List Pair) (words : ℕ) (log longer : Log) → GoesOn log longer
    → (key began last node : ℕ) (rows : List ℕ) → ComesBy pairs words log key began last node rows
    → ComesBy pairs words longer key began last node rows
meeting_on pairs words log longer g key began _ _ _ begins_by = begins_by
meeting_on pairs words log longer g key began _ _ _ (goes_by {least = least} {last = last}
    {node = node} {child = child} {rows = rows} c look) =
    goes_by (meeting_on pairs words log longer g key began least node rows c)
    (look_on pairs words log longer g key least last node (InnerAt child) look)

-- ---- chains

-- a row on a chain hangs in a node with the chain above it
chain_up : (t : Snapshot) (x : ℕ) (others : List ℕ) → Chain t x others → x ≢ anchor
    → (parent : ℕ) × (i : ℕ) × (above : List ℕ) × Chain t parent above × IsChild t parent i x
    × (others ≡ above ++ x ∷ [])
chain_up t _ _ no_row ne = absurd (ne refl)
chain_up t _ _ (one_row {node = node} {child = child} {rows = rows} i chain c) ne = grind arith

-- a linked node has a chain
linked_chain : (t : Snapshot) (node : ℕ) → Linked t node → (rows : List ℕ) × Chain t node rows
linked_chain t _ at_anchor = ([], no_row)
linked_chain t _ (below {node = node} {child = child} i l c) =
    let it = linked_chain t node l in (it.0 ++ child ∷ [], one_row i it.1 c)

-- each row of a node's chain was on it
pub chain_rows : (pairs : List Pair) (words : ℕ) (log : Log) (node : ℕ) (rows : List ℕ)
    → IsChainOf pairs words log node rows → (row : ℕ) → Among row rows
    → WasOnChain (start pairs words) log node row
chain_rows pairs words log node rows is row i = grind (arith, ever_from, ever_at)

-- an element of a list with one more appended is an element of the list, or the last
pub get_last : (xs : List ℕ) (last i x : ℕ) → slice_get (xs ++ last ∷ []) i ≡ Some x
    → (slice_get xs i ≡ Some x) ⊎ ((i ≡ length xs) × (last ≡ x))
get_last [] last zero x e = inr (refl, cc)
get_last [] last (suc i) x e = absurd (cc)
get_last (y ∷ xs) last zero x e = inl e
get_last (y ∷ xs) last (suc i) x e =
    ⊎_elim (λ k. inl k) (λ k. (let is = k.0 in inr (omega arith, k.1))) (get_last xs last i x e)

-- a row of a chain has a chain itself, with those above it
chain_upper : (t : Snapshot) (node : ℕ) (rows : List ℕ) → Chain t node rows
    → (i j upper row : ℕ) → i ≤ j → slice_get rows i ≡ Some upper → slice_get rows j ≡ Some row
    → (xs : List ℕ) × Chain t row xs × Among upper xs
chain_upper t _ _ no_row i j upper row le e f = absurd (cc)
chain_upper t _ _ (one_row {node = node} {child = child} {rows = rows} k chain c) i j upper row le e
    f =
    at (get_last rows child j row f) (get_last rows child i upper e)
    (λ a b. chain_upper t node rows chain i j upper row le a b)
  where
    at : (slice_get rows j ≡ Some row) ⊎ ((j ≡ length rows) × (child ≡ row))
        → (slice_get rows i ≡ Some upper) ⊎ ((i ≡ length rows) × (child ≡ upper))
        → (slice_get rows i ≡ Some upper → slice_get rows j ≡ Some row → (xs : List ℕ) × Chain t row
        xs × Among upper xs)
        → (xs : List ℕ) × Chain t row xs × Among upper xs
    at (inl a) (inl b) above = above b a
    at (inl a) (inr b) above = grind (arith, get_below)
    at (inr a) b above = (
      rows ++ child ∷ [],
      subst (λ n. Chain t n (rows ++ child ∷ [])) a.1 (one_row k chain c),
      get_among (rows ++ child ∷ []) i upper e,
    )

-- each row was on the chain of each row of the list that isn't higher
pub upper_rows : (pairs : List Pair) (words : ℕ) (log : Log) (node : ℕ) (rows : List ℕ)
    → IsChainOf pairs words log node rows → (i j upper row : ℕ) → i ≤ j
    → slice_get rows i ≡ Some upper → slice_get rows j ≡ Some row
    → WasOnChain (start pairs words) log row upper
upper_rows pairs words log node rows is i j upper row le e f =
    grind (arith, ever_from, ever_at, chain_upper)

module _ (pairs : List Pair) (words : ℕ) (opens : CanOpen pairs words) where
  -- the anchor has no row on its chain
  anchor_chain : (at : Log) → EachEnabled (start pairs words) at → (node : ℕ) (others : List ℕ)
      → Chain (state_of pairs words at) node others → node ≡ anchor → others ≡ []
  anchor_chain at h _ _ no_row e = refl
  anchor_chain at h _ _ (one_row {node = node} {child = child} {rows = rows} i chain c) e =
      absurd (child_no_anchor pairs words opens at h node i child c e)

  -- a child hangs in one node at all moments
  parents_agree : (log a b : Log) → EachEnabled (start pairs words) log → GoesOn a log
      → GoesOn b log → (node i other j child : ℕ) → IsChild (state_of pairs words a) node i child
      → IsChild (state_of pairs words b) other j child → node ≡ other
  parents_agree log a b h ga gb node i other j child c d = ⊎_elim
      (λ g. (one_parent pairs words opens a b g (enabled_before (start pairs words) b log gb h) node
      i other j child c d).0)
      (λ g. sym (one_parent pairs words opens b a g (enabled_before (start pairs words) a log ga h)
      other j node i child d c).0)
      (prefixes a b log ga gb)

  -- the rows that were met are the chain of the node at each moment
  meets_only : (log : Log) → EachEnabled (start pairs words) log → (node : ℕ) (rows : List ℕ)
      → MeetsRows pairs words log node rows → (at : Log) → GoesOn at log → (others : List ℕ)
      → Chain (state_of pairs words at) node others → others ≡ rows
  meets_only log h _ _ no_meeting at g others chain = grind (arith, anchor_chain, enabled_before)
  meets_only log h _ _ (one_meeting {node = node} {child = child} {rows = rows} was i k m c) at g
      others chain =
      let ne = child_no_anchor pairs words opens was (enabled_before (start pairs words) was log k
      h) node i child c in
      let up = chain_up (state_of pairs words at) child others chain ne in
      let same = parents_agree log at was h g k up.0 up.1 node i child up.4 c in
      let above = meets_only log h node rows m at g up.2
      (subst (λ n. Chain (state_of pairs words at) n up.2) same up.3) in
      up.5 ∙ ap (λ xs. xs ++ child ∷ []) above

  -- they are the node's chain, if it was linked
  meets_chain : (log : Log) → EachEnabled (start pairs words) log → (node : ℕ) (rows : List ℕ)
      → MeetsRows pairs words log node rows → WasLinked (start pairs words) log node
      → IsChainOf pairs words log node rows
  meets_chain log h node rows m was = grind (arith, ever_from, linked_chain, ever_at, meets_only)

  -- ---- a search

  -- each row that a search met hung in the one before it at some moment
  comes_meets : (log : Log) → EachEnabled (start pairs words) log
      → (key began last node : ℕ) (rows : List ℕ)
      → ComesBy pairs words log key began last node rows → MeetsRows pairs words log node rows
  comes_meets log h key began _ _ _ begins_by = no_meeting
  comes_meets log h key began _ _ _ (goes_by {least = least} {last = last} {node = node}
      {child = child} {rows = rows} c look) =
      let to = meeting_comes pairs words log key began least node rows c in
      let s =
      seen pairs words opens (all_needed pairs words opens) key (log_at log began)
      (log_at log least)
      (log_at log last) node (Some (InnerAt child)) (enabled_before (start pairs words)
      (log_at log last) log (at_on log last) h)
      (comes_of pairs words opens log h key began least node to)
      (look_of pairs words opens log h key least last node (InnerAt child) look) in
      one_meeting s.at s.index (goes_on_more s.until (at_on log last))
      (comes_meets log h key began least node rows c)
      record { word = s.read.word; holds = s.read.holds; reads = s.read.reads }

  -- the rows that a search met are the chain of the node that it reached
  pub met_chain : (log : Log) → EachEnabled (start pairs words) log
      → (key began last node : ℕ) (rows : List ℕ)
      → ComesBy pairs words log key began last node rows → IsChainOf pairs words log node rows
  met_chain log h key began last node rows c =
      grind (arith, meeting_comes, meets_chain, comes_meets, node_met)

  -- ---- a walk

  walk_meets : (log at : Log) → GoesOn at log → (node : ℕ) (rows : List ℕ)
      → WalksTo pairs words at node rows → MeetsRows pairs words log node rows
  walk_meets log _ g _ _ at_top = no_meeting
  walk_meets log _ g _ _ (walks_down {before = before} {at = at} {node = node} {child = child}
      {rows = rows} i w k c) =
      one_meeting at i g (walk_meets log before (goes_on_more k g) node rows w) c

  -- the node that a walk reaches was linked
  walk_linked : (at : Log) → EachEnabled (start pairs words) at → (node : ℕ) (rows : List ℕ)
      → WalksTo pairs words at node rows → WasLinked (start pairs words) at node
  walk_linked _ h _ _ (at_top {at = at}) = linked_now (start pairs words) at anchor at_anchor
  walk_linked _ h _ _ (walks_down {before = before} {at = at} {node = node} {child = child}
      {rows = rows} i w k c) =
      let was = ever_later (start pairs words) (λ t. Linked t node) k
      (walk_linked before (enabled_before (start pairs words) before at k h) node rows w) in
      ⊎_elim (λ l. linked_now (start pairs words) at child (below i l c))
      (λ f. finished_was (finished_down pairs words opens at h node i child f c))
      (linked_or_finished pairs words opens at h node was)
    where
      finished_was : IsFinished (state_of pairs words at) child → WasLinked (start pairs words) at
          child
      finished_was f = grind (arith, closed_was_linked)

  -- the rows that a walk met are the chain of the node that it reached
  pub walked_chain : (log at : Log) → EachEnabled (start pairs words) log → GoesOn at log
      → (node : ℕ) (rows : List ℕ) → WalksTo pairs words at node rows
      → IsChainOf pairs words log node rows
  walked_chain log at h g node rows w =
      grind (arith, meets_chain, walk_meets, ever_later, walk_linked, enabled_before)
