-- A node that isn't open never is again. Serves the laws on refused changes and on a settled table.
use Rattle.std.proofs.Common.{List, ap, ℕ, ⊎_elim, ◌∙◌, ◌≡◌, Some, arith, inl, inr, refl, subst, sym, ◌+◌, ◌<◌, ◌∷◌, ◌≢◌, ◌≤◌, ◌⊎◌, Bool, false, true}
use Rattle.std.proofs.lemmas.Bool.Decides.{eqb_tells}
use Rattle.ist_core.specs.declared.pairs.Pair.{Pair}
use Rattle.ist_core.specs.declared.events.Event.TheVariants.{Count, Install, Decide}
use Rattle.ist_core.specs.declared.events.Event.{Event}
use Rattle.ist_core.specs.declared.events.Who.TheVariants.{Caller}
use Rattle.ist_core.specs.declared.states.ChangeRow.{ChangeRow}
use Rattle.ist_core.specs.declared.states.InnerRow.{InnerRow}
use Rattle.ist_core.specs.LogTerms.{CanOpen, EachEnabled, state_of, GoesOn, Log, GoesOnBy, whose, no_more, one_more, one_event, same_log, decision_word}
use Rattle.ist_core.specs.TreeTerms.{WasLinked, AllResolvedOf, first_change, CanDecide, IsUnrefused}
use Rattle.ist_core.specs.WordTerms.{anchor, IsOpen, anchor_is, row_is, start, limit, Change, Inner, start_kind, decided_no}
use Rattle.ist_core.proofs.AllLogLemmas.{enabled_before, grow_between, inner_there, status_open, ever_later, goes_on_by}
use Rattle.ist_core.proofs.AllWordLemmas.{same_inner}
use Rattle.laws_links.proofs.UntouchedLemmas.{was_linked_here, on_chain_was_linked}
use Rattle.laws_links.proofs.ChangeLemmas.{node_was_linked, undecided_unresolved}
use Rattle.laws_links.proofs.ComesLemmas.{change_comes}
use Rattle.laws_links.proofs.FormLemmas.{replaced_grows}
use Rattle.laws_links.proofs.PassLemmas.{ChangeComes, change_was, is_decided, is_installed}
use Rattle.laws_calls.specs.Settling.{CountsNothing, DueRowsAreClosed, HasClosedAbove, InstallsNoStart, IsDoneStart, MadeDue, StartsAreDone, due_before, due_now}
use Rattle.laws_links.proofs.InductionLemmas.{changes_by}

module _ (pairs : List Pair) (words : ℕ) (opens : CanOpen pairs words) where
  -- a node that was linked and isn't open is never open
  pub closed_stays : (earlier log : Log) → GoesOn earlier log → EachEnabled (start pairs words) log
      → (node : ℕ) → WasLinked (start pairs words) earlier node
      → ¬ (IsOpen (state_of pairs words earlier) node) → ¬ (IsOpen (state_of pairs words log) node)
  closed_stays earlier log on h node was shut (anchor_is e) = shut (anchor_is e)
  closed_stays earlier log on h node was shut (row_is r p o) =
      let before = enabled_before (start pairs words) earlier log on h in
      ⊎_elim (λ k. shut (anchor_is k.1))
      (λ k. let old = was_linked_here pairs words opens earlier before node k.1 was in
      let it = inner_there (state_of pairs words earlier).pieces (state_of pairs words log).pieces
      (grow_between pairs words earlier log h on) node old.0 old.1 in
      let same = same_inner ((state_of pairs words log).pieces node) it.0 r it.1 p in
      shut (row_is old.0 old.1 (status_open old.0.status it.0.status it.2.status
      (ap (λ x. x.status) same ∙ o))))
      (eqb_tells node anchor)

-- ---- what a caller has done stays done. Serves the settled law.

module _ (pairs : List Pair) (words : ℕ) (opens : CanOpen pairs words) where
  -- a start that is done stays so
  pub done_stays : (earlier log : Log) → GoesOn earlier log → EachEnabled (start pairs words) log
      → (base : ℕ) (x : ChangeRow) (rebuild : ℕ)
      → (state_of pairs words earlier).pieces base ≡ Some (Change x)
      → IsDoneStart (state_of pairs words earlier) x rebuild → IsDoneStart (state_of pairs words log) x
      rebuild
  done_stays earlier log on h base x rebuild e done = ⊎_elim
      (λ k. inl (replaced_grows (state_of pairs words earlier) (state_of pairs words log)
      (grow_between pairs words earlier log h on) rebuild k))
      (λ k. inr (closed_stays pairs words opens earlier log on h x.node
      (node_was_linked pairs words opens earlier (enabled_before (start pairs words) earlier log on
      h) base x e) k))
      done

  -- if all changes of a caller were resolved and it installs no other start, each of its starts is
  -- what it was
  pub own_start_stays : (P : Event → Type 0) (earlier : Log) (caller : ℕ)
      → ((event : Event) → P event → InstallsNoStart caller event) → (log : Log)
      → GoesOnBy P earlier log → EachEnabled (start pairs words) log
      → AllResolvedOf (state_of pairs words earlier) earlier caller
      → (base : ℕ) (x : ChangeRow) → (state_of pairs words log).pieces base ≡ Some (Change x)
      → x.owner ≡ caller → x.kind ≡ start_kind
      → (state_of pairs words earlier).pieces base ≡ Some (Change x)
  own_start_stays P earlier caller no_start _ no_more h resolved base x e own kind = e
  own_start_stays P earlier caller no_start _ (one_more {log = log} event later p) h resolved base x
      e own kind =
      at event h (no_start event p) (change_comes pairs words log event h base x e)
      (λ y old mine starts. own_start_stays P earlier caller no_start log later h.0 resolved base y
      old mine starts)
    where
      at : (event : Event) → EachEnabled (start pairs words) (event ∷ log)
          → InstallsNoStart caller event → ChangeComes (start pairs words) log base x event
          → ((y : ChangeRow) → (state_of pairs words log).pieces base ≡ Some (Change y)
          → y.owner ≡ caller → y.kind ≡ start_kind
          → (state_of pairs words earlier).pieces base ≡ Some (Change y))
          → (state_of pairs words earlier).pieces base ≡ Some (Change x)
      at event all none (change_was old) before = before x old own kind
      at _ all none (is_installed {caller = by} can is) before = absurd
          (none (sym can.owned ∙ ap (λ y. y.owner) (sym is) ∙ own) can.change
          (ap first_change can.rows_are) (ap (λ y. y.kind) (sym is) ∙ kind))
      at _ all none (is_decided can is) before = let mine = ap (λ y. y.owner) (sym is) ∙ own in
          let old = before can.change can.pending.published mine
          (ap (λ y. y.kind) (sym is) ∙ kind) in
          absurd
          (undecided_unresolved pairs words opens earlier
          (enabled_before (start pairs words) earlier log (goes_on_by later) all.0) base can.change old
          can.pending.unset (resolved base can.change old mine))

  -- if its changes were resolved and it installs no other start, a caller's starts stay done
  pub starts_stay : (P : Event → Type 0) (earlier log : Log) (caller : ℕ)
      → ((event : Event) → P event → InstallsNoStart caller event)
      → GoesOnBy P earlier log → EachEnabled (start pairs words) log
      → AllResolvedOf (state_of pairs words earlier) earlier caller
      → StartsAreDone (state_of pairs words earlier) caller
      → StartsAreDone (state_of pairs words log) caller
  starts_stay P earlier log caller no_start later h resolved done base x e own kind said rebuild to
      =
      let old = own_start_stays P earlier caller no_start log later h resolved base x e own kind in
      done_stays earlier log (goes_on_by later) h base x rebuild old
      (done base x old own kind said rebuild to)

  -- what isn't a Count of the caller makes no row due in its name
  made_before : (P : Event → Type 0) (earlier : Log) (caller node : ℕ)
      → ((event : Event) → P event → CountsNothing caller event) → (log : Log)
      → GoesOnBy P earlier log → MadeDue (start pairs words) caller node log
      → MadeDue (start pairs words) caller node earlier
  made_before P earlier caller node no_count _ no_more made = made
  made_before P earlier caller node no_count _ (one_more {log = log} event later p) made =
      at event (no_count event p) made (λ m. made_before P earlier caller node no_count log later m)
    where
      at : (event : Event) → CountsNothing caller event
          → MadeDue (start pairs words) caller node (event ∷ log)
          → (MadeDue (start pairs words) caller node log
          → MadeDue (start pairs words) caller node earlier)
          → MadeDue (start pairs words) caller node earlier
      at _ none (due_now r p l) before = absurd (none node (refl, refl))
      at _ none (due_before e m) before = before m

  -- a node keeps a row on its chain that isn't open
  pub closed_above_stays : (earlier log : Log) → GoesOn earlier log
      → EachEnabled (start pairs words) log → (node : ℕ)
      → HasClosedAbove (start pairs words) earlier node
      → HasClosedAbove (start pairs words) log node
  closed_above_stays earlier log on h node it = record {
    row = it.row;
    on_chain = grind (arith, ever_later);
    closed = closed_stays pairs words opens earlier log on h it.row
        (on_chain_was_linked (start pairs words) earlier node it.row it.on_chain) it.closed;
  }

  -- if the caller counts nothing, each row that it made due keeps such a row
  pub due_stay : (P : Event → Type 0) (earlier log : Log) (caller : ℕ)
      → ((event : Event) → P event → CountsNothing caller event)
      → GoesOnBy P earlier log → EachEnabled (start pairs words) log
      → DueRowsAreClosed (start pairs words) earlier caller
      → DueRowsAreClosed (start pairs words) log caller
  due_stay P earlier log caller no_count later h closed node made =
      grind (arith, closed_above_stays, goes_on_by, made_before)

  -- a Count also keeps this if it leaves the count below the limit, or if a row on the chain isn't
  -- open after it
  pub count_keeps : (log : Log) (caller node : ℕ)
      → EachEnabled (start pairs words) (Count caller node ∷ log) → (r : InnerRow)
      → (state_of pairs words log).pieces node ≡ Some (Inner r) → (r.count + 1 < limit r.size)
      ⊎ HasClosedAbove (start pairs words) (Count caller node ∷ log) node
      → DueRowsAreClosed (start pairs words) log caller
      → DueRowsAreClosed (start pairs words) (Count caller node ∷ log) caller
  count_keeps log caller node h r e low closed other made =
      at other (Count caller node ∷ log) made refl
    where
      over : (a b : ℕ) → b < a → a ≤ b → ⊥
      over a b few reached = omega arith

      same_node : (a b : ℕ) (xs ys : Log)
          → (Count caller a ∷ xs) ≡ (Count caller b ∷ ys) → (a ≡ b) × (xs ≡ ys)
      same_node a b xs ys q = (cc, cc)

      at : (other : ℕ) (whole : Log) → MadeDue (start pairs words) caller other whole
          → whole ≡ (Count caller node ∷ log)
          → HasClosedAbove (start pairs words) (Count caller node ∷ log) other
      at other _ (due_now {log = before} s there due) is =
          grind (arith, same_node, same_inner, over)
      at other _ (due_before {log = before} event made) is = let same : before ≡ log = cc in
          closed_above_stays log (Count caller node ∷ log)
          (one_event (Count caller node) same_log) h other
          (closed other (subst (λ xs. MadeDue (start pairs words) caller other xs) same made))

-- ---- events of others

-- an event of another is no Install of the caller, of a start or of anything
pub others_start_nothing : (caller : ℕ) (event : Event) → whose event ≢ Caller caller
    → InstallsNoStart caller event
others_start_nothing caller (Install by base rows) other = grind arith
others_start_nothing caller _ other = tt

-- an event of others is no Count of the caller
pub others_count_nothing : (caller : ℕ) (event : Event) → whose event ≢ Caller caller
    → CountsNothing caller event
others_count_nothing caller (Count by at) other node counts = other (ap Caller counts.0)
others_count_nothing caller _ other node counts = counts

-- ---- the node of a change that was decided no isn't open. Serves the law on refused changes.

module _ (pairs : List Pair) (words : ℕ) (opens : CanOpen pairs words) where
  -- a node of a change keeps from being open over one more event
  still_closed : (log : Log) (event : Event) → EachEnabled (start pairs words) (event ∷ log)
      → (base : ℕ) (x : ChangeRow) → (state_of pairs words log).pieces base ≡ Some (Change x)
      → ¬ (IsOpen (state_of pairs words log) x.node)
      → ¬ (IsOpen (state_of pairs words (event ∷ log)) x.node)
  still_closed log event h base x e shut =
      closed_stays pairs words opens log (event ∷ log) (one_event event same_log) h x.node
      (node_was_linked pairs words opens log h.0 base x e) shut

  -- the node of a change that was decided no isn't open
  pub refused_closed : (log : Log) → EachEnabled (start pairs words) log
      → (base : ℕ) (x : ChangeRow) → (state_of pairs words log).pieces base ≡ Some (Change x)
      → x.decision ≡ decided_no → ¬ (IsOpen (state_of pairs words log) x.node)
  refused_closed = changes_by pairs words
      (λ log base x. x.decision ≡ decided_no → ¬ (IsOpen (state_of pairs words log) x.node))
      (λ log event h base x old there before said.
      still_closed log event h base x old (before said))
      (λ log caller base rows h can said. let none = can.unset in absurd (omega arith))
      (λ log caller base said h can before refused. at log caller base said h can refused)
    where
      at : (log : Log) (caller base : ℕ) (said : Bool)
          → EachEnabled (start pairs words) (Decide caller base said ∷ log)
          → (can : CanDecide (state_of pairs words log) log caller base said)
          → decision_word said ≡ decided_no
          → ¬ (IsOpen (state_of pairs words (Decide caller base said ∷ log)) can.change.node)
      at log caller base true h can refused = absurd (omega arith)
      at log caller base false h can refused =
          still_closed log (Decide caller base false) h base can.change can.pending.published
          can.outcome

  -- no change on an open node was decided no
  pub open_unrefused : (log : Log) → EachEnabled (start pairs words) log → (caller node : ℕ)
      → IsOpen (state_of pairs words log) node → IsUnrefused (state_of pairs words log) caller node
  open_unrefused log h caller node is_open base x e own on refused =
      refused_closed log h base x e refused
      (subst (λ n. IsOpen (state_of pairs words log) n) (sym on) is_open)
