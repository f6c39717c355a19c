-- Which row an update may be counted at next: the lowest of those at which it wasn't counted yet. Serves
-- `descend` and `count_update`.
use Rattle.std.proofs.Common.{◌≡◌, ℕ, ◌+◌, List, [], ◌∷◌, ◌++◌, length, slice_get, Some, refl, subst, append_assoc, length-append, ◌≤◌, Bool, true, false, Option, None, sym, ap, ◌∙◌, inr, ⊎_elim, arith}
use Rattle.ist_core.specs.declared.commands.Command.{Command}
use Rattle.ist_core.specs.declared.pairs.Pair.{Pair}
use Rattle.ist_core.specs.declared.events.Event.TheVariants.{Count}
use Rattle.ist_core.specs.declared.states.InnerRow.{InnerRow}
use Rattle.ist_core.specs.LogTerms.{GoesOnBy, EachEnabled, CanOpen, Log, one_more, state_of, GoesOn, same_log, one_event}
use Rattle.ist_core.specs.TreeTerms.{CanCount, AllResolvedOf, Linked, IsDue}
use Rattle.ist_core.specs.WordTerms.{start, limit, Inner, counted}
use Rattle.laws_calls.specs.Walking.{IsChainOf, ComesBy}
use Rattle.laws_calls.proofs.WalkLemmas.{met_chain, meeting_on, upper_rows}
use Rattle.laws_calls.specs.Counting.{CountsFrom}
use Rattle.laws_calls.proofs.UpLemmas.{may_count_up, counts_from}
use Rattle.ist_updates.specs.declared.updates.Applied.{Applied}
use Rattle.ist_updates.specs.Walking.{HasCounted, HasCountedAt, HasStood, IsTopmost, IsDueBy}
use Rattle.std.proofs.Math.Nat.{le_trans}
use Rattle.ist_core.proofs.AllLogLemmas.{enabled_before, grow_between, inner_there, goes_on_by}
use Rattle.ist_core.proofs.AllWordLemmas.{changed_at-same}
use Rattle.ist_rule.proofs.LaterLemmas.{goes_on_more, later-goes_on}
use Rattle.ist_rule.proofs.WentOnLemmas.{later_by, later_by_more}
use Rattle.laws_histories.specs.Calls.{MadeNoEntry}
use Rattle.laws_stability.proofs.LaterLemmas.{ever_later}
use Rattle.laws_calls.proofs.AcceptedLemmas.{installed_no_entry, event_by}
use Rattle.ist_updates.specs.declared.updates.Due.{Due}
use Rattle.ist_updates.specs.Counting.{WasCounted, CameToLimit}
use Rattle.ist_updates.proofs.StepLemmas.{no_yes_by}
use Rattle.ist_updates.proofs.FurtherLemmas.{yes_stays, reply_stays}
use Rattle.ist_updates.proofs.OwnCountLemmas.{later_none, from_none, last_or_sooner, came_on, came_back, counted_on}

-- the element after the front of a list
pub get_here : (xs ys : List ℕ) (x : ℕ) → slice_get (xs ++ x ∷ ys) (length xs) ≡ Some x
get_here [] ys x = refl
get_here (y ∷ xs) ys x = get_here xs ys x

module _ (pairs : List Pair) (words : ℕ) (opens : CanOpen pairs words) (earlier log : Log)
    (h : EachEnabled (start pairs words) log) (caller : ℕ) (command : Command) (rows : List ℕ)
    (row : ℕ) (done : Applied)
    (x : HasCounted pairs words earlier log caller command (rows ++ row ∷ []) done) where
  -- the rows of the chain, with this one in the middle
  all_rows : (rows ++ row ∷ []) ++ x.below ≡ rows ++ row ∷ x.below
  all_rows = append_assoc rows (row ∷ []) x.below

  its_chain : IsChainOf pairs words log x.update.change.node (rows ++ row ∷ x.below)
  its_chain = grind (arith, all_rows, met_chain)

  -- the rows after it were counted at
  pub counted_after : GoesOnBy (CountsFrom caller (rows ++ row ∷ x.below) (length rows + 1)) earlier log
  counted_after = subst (λ n. GoesOnBy (CountsFrom caller (rows ++ row ∷ x.below) n) earlier log)
      (length-append rows (row ∷ []))
      (subst (λ all. GoesOnBy (CountsFrom caller all (length (rows ++ row ∷ []))) earlier log)
      all_rows x.so_far)

  -- the next row up may be counted at
  pub may_count_next : CanCount (start pairs words) log caller row
  may_count_next =
      may_count_up pairs words opens earlier log h caller x.base x.update (rows ++ row ∷ x.below)
      its_chain (length rows) row (get_here rows x.below row) counted_after

-- ---- one Count on the way back: what was counted after it, and which row is due. Serves `counting`.

-- ---- a Count

module _ (pairs : List Pair) (words : ℕ) (opens : CanOpen pairs words) (earlier log longer : Log)
    (h : EachEnabled (start pairs words) longer) (caller row : ℕ) (reached : Bool)
    (c : HasCountedAt pairs words log caller row reached longer) where
  -- the log goes on by the Count
  pub counted_log : GoesOn log longer
  counted_log = goes_on_more (later-goes_on c.later)
      (goes_on_more (one_event (Count caller row) same_log) (later-goes_on c.more))

  before : EachEnabled (start pairs words) log
  before = enabled_before (start pairs words) log longer counted_log h

  -- it makes no entry
  no_entry : AllResolvedOf (state_of pairs words log) log caller
      → MadeNoEntry pairs words caller log longer
  no_entry resolved = let t = state_of pairs words longer in
      installed_no_entry pairs words opens log longer h caller
      (no_yes_by t caller log longer
      (later_by_more (one_more (Count caller row) (later_by c.later) (inr tt)) (later_by c.more)))
      resolved

  -- the Count is after the earlier log
  pub count_was : GoesOn earlier log → WasCounted earlier longer caller row
  count_was since = grind (arith, goes_on_more, later-goes_on)

  -- a row that a slot held was held by it in the longer log too
  pub stood_on : (parent index target : ℕ) → HasStood pairs words log parent index target
      → HasStood pairs words longer parent index target
  stood_on parent index target s = record {
    prefix = s.prefix;
    goes_on = goes_on_more s.goes_on counted_log;
    stood = s.stood;
    linked = ever_later (start pairs words) (λ t. Linked t parent) counted_log s.linked;
  }

  -- the row is due if the Count reached its limit
  row_due : reached ≡ true → (r : InnerRow)
      × ((state_of pairs words longer).pieces row ≡ Some (Inner r)) × IsDue r
  row_due hit = let t = state_of pairs words c.at in
      let u = state_of pairs words (Count caller row ∷ c.at) in
      let made : u.pieces row ≡ Some (Inner record c.inner { count = c.inner.count + 1 }) =
      grind (arith, changed_at-same) in
      let it = inner_there u.pieces (state_of pairs words longer).pieces
      (grow_between pairs words (Count caller row ∷ c.at) longer h (later-goes_on c.more)) row
      record c.inner { count = c.inner.count + 1 } made in (
        it.0,
        it.1,
        subst (λ n. limit n ≤ it.0.count) (sym it.2.size) (le_trans (c.yes hit) it.2.count),
      )

  -- ---- if the count reached no limit

  -- a row that reached its limit reached it before
  came_before : reached ≡ false → (node : ℕ) → CameToLimit pairs words earlier longer caller node
      → CameToLimit pairs words earlier log caller node
  came_before miss node k =
      let here = came_back pairs words earlier caller (Count caller row ∷ c.at) longer
      (later_none c.more) node k in
      ⊎_elim
      (λ (same : (Count caller node ≡ Count caller row) × (here.at ≡ c.at)).
      grind arith)
      (λ sooner. grind (arith, came_back, later_none))
      (last_or_sooner (Count caller node) (Count caller row) here.at c.at here.until)

  -- and the row that was due is still due
  pub due_before : reached ≡ false → (due : Option Due) → IsDueBy pairs words earlier log caller due
      → IsDueBy pairs words earlier longer caller due
  due_before miss None none = λ node k. none node (came_before miss node k)
  due_before miss (Some due) d =
      let it = inner_there (state_of pairs words log).pieces (state_of pairs words longer).pieces
      (grow_between pairs words log longer h counted_log) due.target d.row d.published in
      record {
        stood = stood_on due.parent due.index due.target d.stood;
        row = it.0;
        published = it.1;
        is_due = grind (arith, le_trans);
        came = grind (arith, came_on, counted_log);
        top = grind (arith, ever_later, counted_log, came_before);
      }

  -- ---- one row more

  module _ (command : Command) (rows : List ℕ) (done : Applied)
      (x : HasCounted pairs words earlier log caller command (rows ++ row ∷ []) done) where
    comes_longer : ComesBy pairs words longer x.met.key x.met.began x.met.last x.update.change.node
        (rows ++ row ∷ x.below)
    comes_longer =
        subst (ComesBy pairs words longer x.met.key x.met.began x.met.last x.update.change.node)
        (append_assoc rows (row ∷ []) x.below)
        (meeting_on pairs words log longer counted_log x.met.key x.met.began x.met.last
        x.update.change.node ((rows ++ row ∷ []) ++ x.below) x.met.comes)

    so_far_longer : GoesOnBy (CountsFrom caller (rows ++ row ∷ x.below) (length rows)) earlier longer
    so_far_longer = let all = rows ++ row ∷ x.below in
        from_none caller (length rows) all earlier (Count caller row ∷ c.at) longer
        (counts_from earlier c.at caller (length rows) row all (get_here rows x.below row)
        (from_none caller (length rows + 1) all earlier log c.at
        (counted_after pairs words opens earlier log before caller command rows row done x)
        (later_none c.later)))
        (later_none c.more)

    -- the row is the topmost that reached its limit
    pub due_here : reached ≡ true → (parent index : ℕ)
        → HasStood pairs words log parent index row
        → IsTopmost pairs words earlier longer caller
        record { parent = parent; index = index; target = row }
    due_here hit parent index s = let it = row_due hit in let all = rows ++ row ∷ x.below in
        record {
          stood = stood_on parent index row s;
          row = it.0;
          published = it.1;
          is_due = it.2;
          came = grind (arith, goes_on_more, goes_on_by, later-goes_on);
          top = λ node k.
              let from = event_by (CountsFrom caller all (length rows)) earlier longer so_far_longer
              (Count caller node) k.at k.since k.until node (refl, refl) in
              upper_rows pairs words longer x.update.change.node all
              (met_chain pairs words opens longer h x.met.key x.met.began x.met.last
              x.update.change.node all comes_longer) (length rows) from.0 row node from.1
              (get_here rows x.below row) from.2;
        }

    -- the update was counted at one row more
    pub counted_more : AllResolvedOf (state_of pairs words log) log caller → (more : Applied)
        → more.reply ≡ done.reply → IsDueBy pairs words earlier longer caller more.due
        → HasCounted pairs words earlier longer caller command rows more
    counted_more resolved more same due = let same_entries = ap length (no_entry resolved) in
        let few = x.update.alone in record {
          base = x.base;
          update = record {
            change = x.update.change;
            published = yes_stays pairs words opens log longer h counted_log x.base x.update.change
                x.update.published x.update.decision;
            owned = x.update.owned;
            update = x.update.update;
            decision = x.update.decision;
            since = x.update.since;
            alone = omega arith;
          };
          command_is = x.command_is;
          reply_is = same ∙ x.reply_is
              ∙ sym (reply_stays pairs words opens log longer h counted_log before x.base
              x.update.change x.update.published);
          below = row ∷ x.below;
          met = grind (arith, comes_longer);
          so_far = so_far_longer;
          counted = λ node i. ⊎_elim
              (λ e. subst (WasCounted earlier longer caller) (sym e)
              (count_was (goes_on_by x.so_far)))
              (λ j. counted_on earlier log longer caller node counted_log (x.counted node j)) i;
          due = due;
        }
