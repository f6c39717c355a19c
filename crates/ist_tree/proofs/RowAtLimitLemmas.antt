-- The rows that reached their limits by the counts of a call, and the closed rows above them.
-- Serves `update`.
use Rattle.std.proofs.Common.{◌≡◌, ℕ, ◌⊎◌, List, [], ◌∷◌, ◌++◌, refl, sym, subst, inl, inr, ⊎_elim, arith}
use Rattle.ist_core.specs.declared.events.Event.{Event}
use Rattle.ist_core.specs.declared.events.Event.TheVariants.{Count}
use Rattle.ist_core.specs.declared.pairs.Pair.{Pair}
use Rattle.ist_core.specs.LogTerms.{GoesOnBy, no_more, one_more, Among, CanOpen, EachEnabled, Lawful, state_of, Ever, GoesOn, Log, one_event, same_log, Snapshot}
use Rattle.ist_core.specs.TreeTerms.{Chain, IsChild, WasOnChain, no_row, one_row}
use Rattle.ist_core.specs.WordTerms.{anchor, anchor_is, start}
use Rattle.ist_core.proofs.AllWordLemmas.{among-append, among_left, among_right}
use Rattle.ist_core.proofs.AllLogLemmas.{enabled_before, ever_from, ever_now}
use Rattle.ist_core.proofs.AllPlaceLemmas.{one_parent}
use Rattle.laws_calls.specs.Settling.{CountsNothing, DueRowsAreClosed, HasClosedAbove, MadeDue, due_before, due_now}
use Rattle.laws_calls.proofs.ClosedLemmas.{closed_above_stays}
use Rattle.laws_stability.proofs.LaterLemmas.{ever_later}
use Rattle.ist_rule.proofs.LaterLemmas.{goes_on_length, goes_on_more}
use Rattle.ist_updates.specs.Counting.{CameToLimit}
use Rattle.ist_tree.specs.CallTerms.{IsShut}
use Rattle.laws_histories.proofs.DecisionLemmas.{prefixes}

-- ---- prefixes

-- a prefix of a log with one event more is one of the log, or is the whole
pub whole_or_before : (whole : Log) (other : Event) (log : Log) → GoesOn whole (other ∷ log)
    → (whole ≡ other ∷ log) ⊎ GoesOn whole log
whole_or_before _ other log same_log = inl refl
whole_or_before whole other log (one_event _ on) = inr on

-- an event of a log that went on was in the log before, or is one of those by which it went on
pub event_since : (P : Event → Type 0) (event : Event) (w at : Log) (x : Log) → GoesOnBy P w x
    → GoesOn (event ∷ at) x → GoesOn (event ∷ at) w ⊎ P event
event_since P event w at _ no_more on = inl on
event_since P event w at _ (one_more {log = log} other later p) on =
    ⊎_elim (λ e. inr (subst P (cc) p)) (λ more. event_since P event w at log later more)
    (whole_or_before (event ∷ at) other log on)

-- a prefix of a log with one event more that doesn't have that event is one of the log
up_to : (event : Event) (at before : Log) → GoesOn before (event ∷ at)
    → ¬ (GoesOn (event ∷ at) before) → GoesOn before at
up_to event at before on never = grind (arith, whole_or_before)

-- ---- rows that reached their limits

module _ (pairs : List Pair) (words number : ℕ) where
  -- a row that reached its limit in a part of a log did so in all of it
  pub came_within : (earlier before log longer : Log) → GoesOn earlier before → GoesOn log longer
      → (node : ℕ) → CameToLimit pairs words before log number node
      → CameToLimit pairs words earlier longer number node
  came_within earlier before log longer g h node c = grind (arith, goes_on_more)

  -- and the other way round, if nothing was counted before and after
  pub came_inside : (P Q : Event → Type 0) → ((event : Event) → P event → CountsNothing number event)
      → ((event : Event) → Q event → CountsNothing number event)
      → (earlier before log longer : Log) → GoesOnBy P earlier before → GoesOn before log
      → GoesOnBy Q log longer → (node : ℕ) → CameToLimit pairs words earlier longer number node
      → CameToLimit pairs words before log number node
  came_inside P Q none nothing earlier before log longer g on h node c = record {
    at = c.at;
    since = begun (prefixes _ _ _ inside on);
    until = inside;
    row = c.row;
    published = c.published;
    reached = c.reached;
  }
    where
      inside : GoesOn (Count number node ∷ c.at) log
      inside = ⊎_elim (λ k. k) (λ q. absurd (nothing (Count number node) q node (refl, refl)))
          (event_since Q (Count number node) log c.at longer h c.until)

      low : GoesOn earlier c.at → GoesOn (Count number node ∷ c.at) earlier → ⊥
      low a b = let x = goes_on_length a in let y = goes_on_length b in omega arith

      later : GoesOn (Count number node ∷ c.at) before → ⊥
      later k = ⊎_elim (λ e. low c.since e) (λ p. none (Count number node) p node (refl, refl))
          (event_since P (Count number node) earlier c.at before g k)

      begun : GoesOn (Count number node ∷ c.at) before ⊎ GoesOn before (Count number node ∷ c.at)
          → GoesOn before c.at
      begun (inl k) = absurd (later k)
      begun (inr k) = up_to (Count number node) c.at before k later

  -- a row that was made due was made so before, or reached its limit since
  pub made_or_came : (earlier log : Log) → GoesOn earlier log → (node : ℕ)
      → MadeDue (start pairs words) number node log
      → MadeDue (start pairs words) number node earlier
      ⊎ CameToLimit pairs words earlier log number node
  made_or_came earlier _ same_log node made = inl made
  made_or_came earlier _ (one_event {log = log} event on) node made =
      at event made (made_or_came earlier log on node)
    where
      more : (event : Event) → CameToLimit pairs words earlier log number node
          → CameToLimit pairs words earlier (event ∷ log) number node
      more event c =
          came_within earlier earlier log (event ∷ log) same_log (one_event event same_log) node c

      at : (event : Event) → MadeDue (start pairs words) number node (event ∷ log)
          → (MadeDue (start pairs words) number node log
          → MadeDue (start pairs words) number node earlier
          ⊎ CameToLimit pairs words earlier log number node)
          → MadeDue (start pairs words) number node earlier
          ⊎ CameToLimit pairs words earlier (event ∷ log) number node
      at _ (due_now row e reached) before = inr record {
        at = log;
        since = on;
        until = same_log;
        row = row;
        published = e;
        reached = reached;
      }
      at event (due_before _ m) before = ⊎_elim (λ k. inl k) (λ c. inr (more event c)) (before m)

  -- so all rows that were made due have a closed row above, if each that reached its limit since
  -- has one
  pub due_since : (earlier log : Log) → Lawful pairs words log → GoesOn earlier log
      → ((node : ℕ) → CameToLimit pairs words earlier log number node
      → HasClosedAbove (start pairs words) log node)
      → DueRowsAreClosed (start pairs words) earlier number
      → DueRowsAreClosed (start pairs words) log number
  due_since earlier log l on came closed node made = grind (arith, closed_above_stays, made_or_came)

-- ---- the row above

-- a node is the anchor, or the last on its chain
on_own_chain : (t : Snapshot) (node : ℕ) (rows : List ℕ) → Chain t node rows
    → (node ≡ anchor) ⊎ Among node rows
on_own_chain t _ _ no_row = inl refl
on_own_chain t _ _ (one_row {child = child} {rows = rows} i chain c) =
    inr (among_right child rows (child ∷ []) (inl refl))

module _ (pairs : List Pair) (words : ℕ) (l : CanOpen pairs words) (log : Log)
    (enabled : EachEnabled (start pairs words) log) where
  -- two nodes that had one child in one log are one
  same_parent : (m p : Log) → GoesOn m log → GoesOn p log → (a i b j child : ℕ)
      → IsChild (state_of pairs words m) a i child → IsChild (state_of pairs words p) b j child
      → a ≡ b
  same_parent m p on to a i b j child c d = ⊎_elim
      (λ g. (one_parent pairs words l m p g (enabled_before (start pairs words) p log to enabled)
      a i b j child c d).0)
      (λ g. sym (one_parent pairs words l p m g (enabled_before (start pairs words) m log on enabled)
      b j a i child d c).0)
      (prefixes _ _ _ on to)

  -- the parent of a row on a chain is on it, or is the anchor
  chain_parent : (m p : Log) → GoesOn m log → GoesOn p log → (row parent index : ℕ)
      → IsChild (state_of pairs words p) parent index row → (node : ℕ) (rows : List ℕ)
      → Chain (state_of pairs words m) node rows → Among row rows
      → (parent ≡ anchor) ⊎ Among parent rows
  chain_parent m p on to row parent index d _ _ no_row i = absurd i
  chain_parent m p on to row parent index d _ _
      (one_row {node = above} {child = child} {rows = rows} i chain c) among =
      ⊎_elim
      (λ k. ⊎_elim (λ a. inl a) (λ b. inr (among_left parent rows (child ∷ []) b))
      (chain_parent m p on to row parent index d above rows chain k))
      (λ k. ⊎_elim (λ e. top (at_child e)) (λ none. absurd none) k)
      (among-append row rows (child ∷ []) among)
    where
      at_child : row ≡ child → above ≡ parent
      at_child e = same_parent m p on to above i parent index child c
          (subst (λ n. IsChild (state_of pairs words p) parent index n) e d)

      top : above ≡ parent → (parent ≡ anchor) ⊎ Among parent (rows ++ child ∷ [])
      top e = grind (arith, among_left, on_own_chain)

  -- so if a row on a chain or its parent isn't open, some row on the chain isn't
  pub closed_above : (node row parent index : ℕ) → WasOnChain (start pairs words) log node row
      → Ever (start pairs words) (λ t. IsChild t parent index row) log
      → IsShut (state_of pairs words log) parent row → HasClosedAbove (start pairs words) log node
  closed_above node row parent index on_chain child (inl shut) =
      record { row = row; on_chain = on_chain; closed = shut }
  closed_above node row parent index on_chain child (inr shut) =
      let m = ever_from (start pairs words) (λ t. (rows : List ℕ) × Chain t node rows × Among row
      rows) log on_chain in
      let p = ever_from (start pairs words) (λ t. IsChild t parent index row) log child in record {
        row = parent;
        on_chain =
            ever_later (start pairs words) (λ t. (rows : List ℕ) × Chain t node rows × Among parent
            rows) m.1
            (ever_now (start pairs words) (λ t. (rows : List ℕ) × Chain t node rows × Among parent
            rows) m.0
            (⊎_elim (λ a. absurd (shut (anchor_is a))) (λ i. (m.2.0, m.2.1, i))
            (chain_parent m.0 p.0 m.1 p.1 row parent index p.2 node m.2.0 m.2.1 m.2.2)));
        closed = shut;
      }
