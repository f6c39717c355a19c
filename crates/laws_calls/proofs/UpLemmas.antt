-- The bases of a chain's rows are strictly increasing, so Counts from the lowest row up are each at
-- a new row. Serves the law on Counts.
use Rattle.std.proofs.Common.{List, Some, ap, arith, inl, inr, length, slice_get, ℕ, ⊎_elim, ◌+◌, ◌<◌, ◌∙◌, ◌∷◌, ◌≡◌, ◌≤◌, ◌⊎◌, [], refl, subst, sym}
use Rattle.std.proofs.lemmas.Option.{slice_get_within}
use Rattle.ist_core.specs.declared.events.Event.TheVariants.{Count}
use Rattle.ist_core.specs.declared.events.Event.{Event}
use Rattle.ist_core.specs.declared.pairs.Pair.{Pair}
use Rattle.ist_core.specs.declared.lists.Row.{Row}
use Rattle.ist_core.specs.declared.states.ChangeRow.{ChangeRow}
use Rattle.ist_core.specs.declared.states.InnerRow.{InnerRow}
use Rattle.ist_core.specs.LogTerms.{GoesOnBy, no_more, one_more, CanOpen, EachEnabled, state_of, Counts, GoesOn, Log, Among, Each, Enabled, state, Snapshot, bases_of}
use Rattle.ist_core.specs.TreeTerms.{CanCount, Chain, no_row, one_row, Grows, StatusGoesOn, change_grows, inner_grows, is_closed, is_finished, is_marked, leaf_stays, rebuild_grows, status_stays, FitsKind, PlacedLeaf}
use Rattle.ist_core.specs.WordTerms.{start, IsTop, Inner, Piece, Pieces, with_inners, first_row, place_limit, rows_from, rows_within, Finished, Marked, Open, Status, status_of, status_word}
use Rattle.ist_core.proofs.AllLogLemmas.{enabled_before, ever_from}
use Rattle.ist_core.proofs.AllPlaceLemmas.{child_above, names, rows_have, ideal_rows, root_rows}
use Rattle.ist_core.proofs.AllWordLemmas.{get_among, each-among, among-pieces_of, least_degree-le, status_of-finished_word, status_of-marked, status_of-open}
use Rattle.laws_calls.proofs.CountedLemmas.{may_count}
use Rattle.laws_calls.specs.Counting.{CountsElsewhere, CountsFrom, IsOneUpdate}
use Rattle.laws_calls.proofs.WalkLemmas.{chain_rows, get_last}
use Rattle.laws_calls.specs.Walking.{IsChainOf}
use Rattle.ist_core.proofs.AllEventLemmas.{IsInstalledWith, installed_has, Born, Comes, by_install, by_place, by_root, comes, from_born, from_old, sound, sound_start, known}
use Rattle.laws_links.proofs.ContentLemmas.{finished_few}
use Rattle.laws_calls.specs.Sizing.{IsSizedRow}

-- the event of a Count is one of its caller at its node
counted_node : (caller a b : ℕ) → Counts caller a (Count caller b) → b ≡ a
counted_node caller a b counts = counts.1

-- what is counted from an index on is counted from the one before on
from_before : (caller i : ℕ) (rows : List ℕ) (event : Event) → CountsFrom caller rows (i + 1) event
    → CountsFrom caller rows i event
from_before caller i rows event from node counts = grind arith

-- what is counted from an index on by all events is counted from the index before on
all_before : (caller i : ℕ) (rows : List ℕ) (earlier log : Log)
    → GoesOnBy (CountsFrom caller rows (i + 1)) earlier log
    → GoesOnBy (CountsFrom caller rows i) earlier log
all_before caller i rows earlier _ no_more = no_more
all_before caller i rows earlier _ (one_more {log = log} event later from) =
    one_more event (all_before caller i rows earlier log later)
    (from_before caller i rows event from)

-- after a Count at the row at the index, all Counts were at this index or later
pub counts_from : (earlier log : Log) (caller i row : ℕ) (rows : List ℕ)
    → slice_get rows i ≡ Some row → GoesOnBy (CountsFrom caller rows (i + 1)) earlier log
    → GoesOnBy (CountsFrom caller rows i) earlier (Count caller row ∷ log)
counts_from earlier log caller i row rows e later =
    one_more (Count caller row) (all_before caller i rows earlier log later)
    (λ node counts. grind (arith, counted_node))

module _ (pairs : List Pair) (words : ℕ) (opens : CanOpen pairs words) where
  -- no row of a node's chain lies above the node
  chain_low : (at : Log) → EachEnabled (start pairs words) at → (node : ℕ) (rows : List ℕ)
      → Chain (state_of pairs words at) node rows → (i row : ℕ) → slice_get rows i ≡ Some row
      → row ≤ node
  chain_low at h _ _ no_row i row e = absurd (cc)
  chain_low at h _ _ (one_row {node = node} {child = child} {rows = rows} k chain c) i row e =
      let high = child_above (state_of pairs words at) node k child (names pairs words opens at h)
      c in
      ⊎_elim (λ above. (let low = chain_low at h node rows chain i row above in omega arith))
      (λ last. (let same = last.1 in omega arith)) (get_last rows child i row e)

  -- the bases of a chain's rows are strictly increasing
  chain_rises : (at : Log) → EachEnabled (start pairs words) at → (node : ℕ) (rows : List ℕ)
      → Chain (state_of pairs words at) node rows → (i j upper row : ℕ) → i < j
      → slice_get rows i ≡ Some upper → slice_get rows j ≡ Some row → upper < row
  chain_rises at h _ _ no_row i j upper row lt e f = absurd (cc)
  chain_rises at h _ _ (one_row {node = node} {child = child} {rows = rows} k chain c) i j upper row
      lt e f =
      case (get_last rows child i upper e) (get_last rows child j row f)
      (λ a b. chain_rises at h node rows chain i j upper row lt a b)
    where
      case : (slice_get rows i ≡ Some upper) ⊎ ((i ≡ length rows) × (child ≡ upper))
          → (slice_get rows j ≡ Some row) ⊎ ((j ≡ length rows) × (child ≡ row))
          → (slice_get rows i ≡ Some upper → slice_get rows j ≡ Some row → upper < row)
          → upper < row
      case (inl a) (inl b) again = again a b
      case (inl a) (inr b) again = let low = chain_low at h node rows chain i upper a in
          let high = child_above (state_of pairs words at) node k child
          (names pairs words opens at h) c in
          let same = b.1 in omega arith
      case (inr a) (inl b) again = grind (arith, slice_get_within)
      case (inr a) (inr b) again = let is = a.0 in let too = b.0 in absurd (omega arith)

  -- the update may be counted at the row, if only later rows of the list were counted at
  pub may_count_up : (earlier log : Log) → EachEnabled (start pairs words) log
      → (caller base : ℕ) (u : IsOneUpdate pairs words earlier log caller base) (rows : List ℕ)
      → IsChainOf pairs words log u.change.node rows → (i row : ℕ) → slice_get rows i ≡ Some row
      → GoesOnBy (CountsFrom caller rows (i + 1)) earlier log
      → CanCount (start pairs words) log caller row
  may_count_up earlier log h caller base u rows is i row e later =
      may_count pairs words opens earlier log h caller base row u
      (chain_rows pairs words log u.change.node rows is row (get_among rows i row e))
      (elsewhere earlier log later)
    where
      was : (at : Log) × GoesOn at log × Chain (state_of pairs words at) u.change.node rows
      was = ever_from (start pairs words) (λ t. Chain t u.change.node rows) log is.was

      not_here : (event : Event) → CountsFrom caller rows (i + 1) event
          → CountsElsewhere caller row event
      not_here event from counts = let it = from row counts in let high = it.1 in
          let rises = chain_rises was.0 (enabled_before (start pairs words) was.0 log was.1 h)
          u.change.node rows was.2 i it.0 row row (omega arith) e it.2 in
          omega arith

      elsewhere : (earlier log : Log) → GoesOnBy (CountsFrom caller rows (i + 1)) earlier log
          → GoesOnBy (CountsElsewhere caller row) earlier log
      elsewhere earlier _ no_more = no_more
      elsewhere earlier _ (one_more {log = log} event later from) =
          one_more event (elsewhere earlier log later) (not_here event from)

-- ---- each inner row has a degree and a size of at least 2, and a status. Serves the law on sizes.

-- the word is the word of a status
abbrev HasStatus : ℕ → Type 0
HasStatus word = (status : Status) × (word ≡ status_word status)

-- an inner row with two slots or more, over two leaves or more, and with the word of a status
record HasRowNumbers (r : InnerRow) : Type 0 where
  degree : 2 ≤ r.degree
  size : 2 ≤ r.size
  status : Status
  status_is : r.status ≡ status_word status

-- an inner row is sized
abbrev IsSized : Piece → Type 0
IsSized (Inner r) = HasRowNumbers r
IsSized _ = Unit {0}

-- what a status goes on to is the word of a status
status_on : (old new : ℕ) → StatusGoesOn old new → HasStatus old → HasStatus new
status_on old new (status_stays e) h = subst HasStatus (sym e) h
status_on old new (is_marked a b) h = (Marked, b)
status_on old new (is_finished k a b) h = (Finished k, b)
status_on old new (is_closed k a b) h = (Finished k, b)

-- a row that grows keeps its numbers
grows_sized : (p q : Piece) → Grows p q → IsSized p → IsSized q
grows_sized _ _ leaf_stays h = tt
grows_sized _ _ (inner_grows {old = r} {new = s} g) h = let d = g.degree in let z = g.size in
    let a = h.degree in let b = h.size in
    let on = status_on r.status s.status g.status (h.status, h.status_is) in
    record { degree = omega arith; size = omega arith; status = on.0; status_is = on.1 }
grows_sized _ _ (change_grows g) h = tt
grows_sized _ _ (rebuild_grows g) h = tt

-- ---- fresh rows

-- what an Install publishes
installed_sized : (first : Snapshot) (log : Log) (at : ℕ) (change : ChangeRow) (fresh : List Row)
    (fits : FitsKind first log change fresh) (base : ℕ) (p : Piece)
    → IsInstalledWith first log at change fresh fits base p → IsSized p
installed_sized = grind (arith, installed_has)

-- the row at the base is an inner row, and is sized
record StandsSized (ps : Pieces) (base : ℕ) : Type 0 where
  row : InnerRow
  published : ps base ≡ Some (Inner row)
  sized : HasRowNumbers row

-- a top row
top_sized : (ps : Pieces) (base : ℕ) (r : InnerRow) (leaves : List PlacedLeaf) (above : ℕ) → IsTop
    ps base r leaves above → HasRowNumbers r
top_sized ps base r leaves above top = grind (arith, least_degree-le)

-- a top row is one of these
top_stands : (ps : Pieces) (base : ℕ) (r : InnerRow) (leaves : List PlacedLeaf) (above : ℕ)
    → IsTop ps base r leaves above → StandsSized ps base
top_stands ps base r leaves above top =
    record { row = r; published = top.published; sized = top_sized ps base r leaves above top }

-- a row among these
tree_sized : (ps : Pieces) (rows : List ℕ) (base : ℕ) (p : Piece) → Each (StandsSized ps) rows
    → Among base rows → ps base ≡ Some p → IsSized p
tree_sized ps rows base p all i e = grind (arith, each-among, known)

-- what an event publishes
born_sized : (first : Snapshot) (log : Log) (event : Event) (base : ℕ) (p : Piece)
    → Enabled first log event → Born first log base p event → IsSized p
born_sized first log _ base p can (by_install {change = at} h born) = grind (arith, installed_sized)
born_sized first log _ base p can (by_root {word = word} {rows = rows} i e) =
    let qs = with_inners (state first log).pieces rows in tree_sized qs (bases_of rows) base p
    (root_rows qs (StandsSized qs) (top_stands qs) word can.k can.leaves can.row.target
    (bases_of rows) can.root) i e
born_sized first log _ base p can (by_place {rows = rows} i e) =
    let qs = with_inners (state first log).pieces rows in tree_sized qs (bases_of rows) base p
    (ideal_rows qs (StandsSized qs) (top_stands qs) can.ref can.part can.root (bases_of rows)
    can.ideal) i e

-- the rows at the start
rows_sized : (fuel base : ℕ) (pairs : List Pair) → Each (λ row. IsSized row.1)
    (rows_within fuel base pairs)
rows_sized = rows_have IsSized (λ r. tt) (λ base all two. grind (arith, least_degree-le))

-- each inner row after a lawful log has its degree, its size and a status
sized : (pairs : List Pair) (words : ℕ) (log : Log) → EachEnabled (start pairs words) log
    → (base : ℕ) (p : Piece) → (state_of pairs words log).pieces base ≡ Some p → IsSized p
sized pairs words [] h base p e =
    each-among (λ row. IsSized row.1) (base, p) (rows_from first_row pairs)
    (rows_sized (length pairs) first_row pairs) (among-pieces_of (rows_from first_row pairs) base p
    e)
sized pairs words (event ∷ log) h base q e =
    at (λ p there. sized pairs words log h.0 base p there) (comes (start pairs words) log event h.1
    (sound (start pairs words) log (sound_start pairs words) h.0) base q e)
  where
    at : ((p : Piece) → (state_of pairs words log).pieces base ≡ Some p → IsSized p)
        → Comes (start pairs words) log event base q → IsSized q
    at before (from_old p there g) = grows_sized p q g (before p there)
    at before (from_born p born g) = grind (arith, grows_sized, born_sized)

-- a status with few keys is read back from its word
told_status : (status : Status) → ((k : ℕ) → status ≡ Finished k → k ≤ place_limit)
    → status_of (status_word status) ≡ Some status
told_status Open few = status_of-open
told_status Marked few = status_of-marked
told_status (Finished k) few = let low = few k refl in status_of-finished_word k (omega arith)

-- so each published inner row is sized: a finished one has few keys
pub row_sized : (pairs : List Pair) (words : ℕ) → CanOpen pairs words → (log : Log)
    → EachEnabled (start pairs words) log → (node : ℕ) (row : InnerRow)
    → (state_of pairs words log).pieces node ≡ Some (Inner row) → IsSizedRow row
row_sized pairs words opens log h node row e =
    let it = sized pairs words log h node (Inner row) e in record {
      degree = it.degree;
      size = it.size;
      status = it.status;
      status_is = ap status_of it.status_is
          ∙ told_status it.status
          (λ k is. finished_few pairs words opens log h node k
          record { row = row; published = e; status = it.status_is ∙ ap status_word is });
    }
