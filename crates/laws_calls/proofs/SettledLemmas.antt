-- If callers have done what they began, the table is settled. Serves the settled law.
use Rattle.std.proofs.Common.{List, Some, [], ap, arith, inl, inr, refl, subst, sym, ℕ, ⊎_elim, ◌<◌, ◌∙◌, ◌∷◌, ◌≡◌, ◌≢◌, ◌≤◌, None, ◌⊎◌}
use Rattle.std.proofs.lemmas.Bool.Decides.{eqb_tells}
use Rattle.ist_core.specs.declared.pairs.Pair.{Pair}
use Rattle.ist_core.specs.declared.states.InnerRow.{InnerRow}
use Rattle.ist_core.specs.declared.events.Event.TheVariants.{Install, Root}
use Rattle.ist_core.specs.declared.events.Event.{Event}
use Rattle.ist_core.specs.declared.lists.Row.{Row}
use Rattle.ist_core.specs.declared.states.ChangeRow.{ChangeRow}
use Rattle.ist_core.specs.declared.states.RebuildRow.{RebuildRow}
use Rattle.ist_core.specs.WordTerms.{limit, Inner, anchor, IsOpen, anchor_is, row_is, start, Change, Rebuild, RebuildAt, ref_of}
use Rattle.ist_core.specs.LogTerms.{Among, CanOpen, EachEnabled, state_of, GoesOn, Log}
use Rattle.ist_core.specs.TreeTerms.{Chain, IsChild, Linked, at_anchor, below, no_row, one_row, IsSettled}
use Rattle.ist_core.proofs.AllWordLemmas.{among-append, same_rebuild, no_value}
use Rattle.ist_core.proofs.AllLogLemmas.{enabled_before, ever_from, change_there, grow_after}
use Rattle.ist_core.proofs.AllPlaceLemmas.{one_parent, names, install_stands}
use Rattle.laws_links.proofs.ClosedLemmas.{linked_now}
use Rattle.laws_links.proofs.UntouchedLemmas.{child_no_anchor, was_linked_here}
use Rattle.laws_links.specs.Opening.{RebuildsAreDone}
use Rattle.laws_links.proofs.OpenRowLemmas.{rest_is_open}
use Rattle.laws_links.proofs.StartingLemmas.{side_rebuild, start_new, owner_known}
use Rattle.laws_calls.proofs.DueLemmas.{due_was_made}
use Rattle.laws_calls.specs.Settling.{DueRowsAreClosed, StartsAreDone}
use Rattle.laws_links.proofs.ComesLemmas.{change_comes, start_quiet}
use Rattle.laws_links.proofs.InductionLemmas.{rebuilds_by}
use Rattle.laws_links.proofs.PassLemmas.{ChangeComes, change_was, is_decided, is_installed}
use Rattle.laws_calls.specs.Starting.{IsStartFor}

module _ (pairs : List Pair) (words : ℕ) (opens : CanOpen pairs words) where
  -- ---- chains

  -- the parent that a linked row had is linked
  parent_linked : (at log : Log) → GoesOn at log → EachEnabled (start pairs words) log
      → (node i child : ℕ) → IsChild (state_of pairs words at) node i child → child ≢ anchor
      → Linked (state_of pairs words log) child → Linked (state_of pairs words log) node
  parent_linked at log on h node i _ was ne at_anchor = absurd (ne refl)
  parent_linked at log on h node i _ was ne (below {node = other} {child = child} j l c) =
      subst (λ n. Linked (state_of pairs words log) n)
      (sym (one_parent pairs words opens at log on h node i other j child was c).0) l

  -- each row that was on the chain of a linked row is linked
  pub chain_row_linked : (at log : Log) → GoesOn at log → EachEnabled (start pairs words) log
      → (node : ℕ) (rows : List ℕ) → Chain (state_of pairs words at) node rows
      → Linked (state_of pairs words log) node
      → (row : ℕ) → Among row rows → Linked (state_of pairs words log) row
  chain_row_linked at log on h _ _ no_row l row i = absurd i
  chain_row_linked at log on h _ _ (one_row {node = node} {child = child} {rows = rows} i chain c) l
      row k =
      let before = enabled_before (start pairs words) at log on h in ⊎_elim
      (λ above. chain_row_linked at log on h node rows chain
      (parent_linked at log on h node i child c (child_no_anchor pairs words opens at before node i
      child c) l) row above)
      (λ last. grind arith) (among-append row rows (child ∷ []) k)

  -- ---- at rest

  -- if each caller's starts are done, rebuilds are done
  rebuilds_done : (log : Log) → EachEnabled (start pairs words) log
      → ((caller : ℕ) → caller < (state_of pairs words log).callers
      → StartsAreDone (state_of pairs words log) caller)
      → RebuildsAreDone (state_of pairs words log)
  rebuilds_done log h starts rebuild row e s = let t = state_of pairs words log in
      let it = side_rebuild t (names pairs words opens log h) s.base s.change s.published rebuild
      (inr s.to) in
      let same = same_rebuild (t.pieces rebuild) it.row row it.published e in ⊎_elim (λ k. inl k)
      (λ k. inr (subst (λ n. ¬ (IsOpen t n)) (sym it.parent ∙ ap (λ x. x.parent) same) k))
      (starts s.change.owner (owner_known pairs words log h s.base s.change s.published) s.base
      s.change s.published refl s.kind s.decision rebuild s.to)

  -- each linked node is open then
  linked_open : (log : Log) → EachEnabled (start pairs words) log
      → RebuildsAreDone (state_of pairs words log) → (node : ℕ)
      → Linked (state_of pairs words log) node → IsOpen (state_of pairs words log) node
  linked_open log h done node l = ⊎_elim (λ k. anchor_is k.1)
      (λ k.
      let row = was_linked_here pairs words opens log h node k.1
      (linked_now (start pairs words) log node l) in
      row_is row.0 row.1 (rest_is_open pairs words opens log h done node row.0 l row.1))
      (eqb_tells node anchor)

  -- no linked row is due
  not_due : (log : Log) → EachEnabled (start pairs words) log
      → RebuildsAreDone (state_of pairs words log)
      → ((caller : ℕ) → caller < (state_of pairs words log).callers
      → DueRowsAreClosed (start pairs words) log caller)
      → (node : ℕ) (row : InnerRow) → Linked (state_of pairs words log) node
      → (state_of pairs words log).pieces node ≡ Some (Inner row) → ¬ (limit row.size ≤ row.count)
  not_due log h done closed node row l e due =
      let it = due_was_made pairs words opens log h node row e due in
      let up = closed it.caller it.known node it.made in
      let was = ever_from (start pairs words) (λ t. (rows : List ℕ) × Chain t node rows × Among
      up.row rows) log up.on_chain in
      up.closed
      (linked_open log h done up.row (chain_row_linked was.0 log was.1 h node was.2.0 was.2.1 l
      up.row was.2.2))

  below_limit : (a b : ℕ) → ¬ (b ≤ a) → a < b
  below_limit a b high = omega arith

  -- the table is settled
  pub settled : (log : Log) → EachEnabled (start pairs words) log
      → ((caller : ℕ) → caller < (state_of pairs words log).callers
      → StartsAreDone (state_of pairs words log) caller)
      → ((caller : ℕ) → caller < (state_of pairs words log).callers
      → DueRowsAreClosed (start pairs words) log caller)
      → IsSettled (state_of pairs words log)
  settled log h starts closed = let done = rebuilds_done log h starts in record {
    all_open = rest_is_open pairs words opens log h done;
    none_due = grind (arith, below_limit, not_due);
  }

-- ---- a rebuild has one start, and is in its slot until it is replaced. Serves the start law.

module _ (pairs : List Pair) (words : ℕ) where
  -- ---- each rebuild has a start

  start_grows : (log : Log) (event : Event) → EachEnabled (start pairs words) (event ∷ log)
      → (rebuild : ℕ) (old row : RebuildRow) → row.target ≡ old.target → row.parent ≡ old.parent
      → row.index ≡ old.index → (base : ℕ) × IsStartFor (state_of pairs words log) rebuild old base
      → (base : ℕ) × IsStartFor (state_of pairs words (event ∷ log)) rebuild row base
  start_grows log event h rebuild old row target parent index s =
      let it = change_there (state_of pairs words log).pieces
      (state_of pairs words (event ∷ log)).pieces (grow_after pairs words log event h) s.0
      s.1.change s.1.published in
      let same = it.2.others in (
        s.0,
        record {
          change = it.0;
          published = it.1;
          kind = ap (λ c. c.kind) same ∙ s.1.kind;
          node = ap (λ c. c.node) same ∙ s.1.node ∙ sym parent;
          index = ap (λ c. c.index) same ∙ s.1.index ∙ sym index;
          from = grind arith;
          to = ap (λ c. ref_of c.to) same ∙ s.1.to;
        },
      )

  -- each published rebuild has a start
  pub has_start : (log : Log) → EachEnabled (start pairs words) log
      → (rebuild : ℕ) (row : RebuildRow)
      → (state_of pairs words log).pieces rebuild ≡ Some (Rebuild row)
      → (base : ℕ) × IsStartFor (state_of pairs words log) rebuild row base
  has_start = rebuilds_by pairs words
      (λ log rebuild row. (base : ℕ) × IsStartFor (state_of pairs words log) rebuild row base)
      (λ log event h rebuild row old there before. start_grows log event h rebuild row row refl refl
      refl before)
      (λ log caller change rows h can s. (
        change,
        record {
          change = can.change;
          published = install_stands (start pairs words) log caller change rows can;
          kind = s.kind;
          node = refl;
          index = refl;
          from = s.from;
          to = s.to;
        },
      ))
      (λ log caller rebuild word rows h can before.
      start_grows log (Root caller rebuild word rows) h rebuild can.row
      (record (can.row) { root = word }) refl refl refl before)
      (λ log caller rebuild part h can before.
      grind (arith, start_grows))

module _ (pairs : List Pair) (words : ℕ) (opens : CanOpen pairs words) where
  -- ---- one start

  -- a change that puts the rebuild into a slot was there before the event and did so, or the event
  -- installs it while the rebuild is new
  record StoodBefore (log : Log) (base rebuild : ℕ) : Type 0 where
    change : ChangeRow
    published : (state_of pairs words log).pieces base ≡ Some (Change change)
    to : ref_of change.to ≡ Some (RebuildAt rebuild)

  record IsNewRebuild (log : Log) (event : Event) (base rebuild : ℕ) : Type 0 where
    caller : ℕ
    rows : List Row
    is : event ≡ Install caller base rows
    none : (state_of pairs words log).pieces rebuild ≡ None

  stood_or_new : (log : Log) (event : Event) → EachEnabled (start pairs words) (event ∷ log)
      → (base rebuild : ℕ) (x : ChangeRow) → ref_of x.to ≡ Some (RebuildAt rebuild)
      → ChangeComes (start pairs words) log base x event
      → StoodBefore log base rebuild ⊎ IsNewRebuild log event base rebuild
  stood_or_new log event h base rebuild x to (change_was old) =
      inl record { change = x; published = old; to = to }
  stood_or_new log _ h base rebuild x to (is_installed {caller = caller} {rows = rows} k is) =
      inr record {
        caller = caller;
        rows = rows;
        is = refl;
        none = start_new pairs words opens log caller base rows h k rebuild
            (ap (λ c. ref_of c.to) (sym is) ∙ to);
      }
  stood_or_new log _ h base rebuild x to (is_decided k is) = inl record {
    change = k.change;
    published = k.pending.published;
    to = ap (λ c. ref_of c.to) (sym is) ∙ to;
  }

  -- a rebuild that a change puts into its slot is published
  put_published : (log : Log) → EachEnabled (start pairs words) log → (base rebuild : ℕ)
      → StoodBefore log base rebuild → (state_of pairs words log).pieces rebuild ≡ None → ⊥
  put_published log h base rebuild s none =
      let it = side_rebuild (state_of pairs words log) (names pairs words opens log h) base s.change
      s.published rebuild (inr s.to) in
      no_value ((state_of pairs words log).pieces rebuild) (Rebuild it.row) none it.published

  one_install : (a b c d : ℕ) (xs ys : List Row) → Install a b xs ≡ Install c d ys → b ≡ d
  one_install a b c d xs ys e = cc

  -- two changes that put a rebuild into a slot are one
  pub starts_are_one : (log : Log) → EachEnabled (start pairs words) log
      → (rebuild base other : ℕ) (x y : ChangeRow)
      → (state_of pairs words log).pieces base ≡ Some (Change x)
      → (state_of pairs words log).pieces other ≡ Some (Change y)
      → ref_of x.to ≡ Some (RebuildAt rebuild) → ref_of y.to ≡ Some (RebuildAt rebuild)
      → base ≡ other
  starts_are_one [] h rebuild base other x y e f a b =
      absurd (start_quiet pairs words base (Change x) e)
  starts_are_one (event ∷ log) h rebuild base other x y e f a b = both
      (stood_or_new log event h base rebuild x a (change_comes pairs words log event h base x e))
      (stood_or_new log event h other rebuild y b (change_comes pairs words log event h other y f))
      (λ s t. starts_are_one log h.0 rebuild base other s.change t.change s.published t.published
      s.to t.to)
    where
      both : StoodBefore log base rebuild ⊎ IsNewRebuild log event base rebuild
          → StoodBefore log other rebuild ⊎ IsNewRebuild log event other rebuild
          → (StoodBefore log base rebuild → StoodBefore log other rebuild → base ≡ other)
          → base ≡ other
      both (inl s) (inl t) again = again s t
      both (inl s) (inr n) again = absurd (put_published log h.0 base rebuild s n.none)
      both (inr n) (inl t) again = absurd (put_published log h.0 other rebuild t n.none)
      both (inr m) (inr n) again = grind (arith, one_install)
