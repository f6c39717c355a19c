-- The result of carrying out an update, with the rebuild of the row that it made due. Serves
-- `rebuild_topmost` and `apply_in_call`.
use Rattle.std.proofs.Common.{arith, ◌≡◌, ◌≢◌, ℕ, ◌⊎◌, true, List, Option, Some, None, Result, Ok, Err, IfErr, OnOk, sym, ap, ◌∙◌, subst, ⊎_elim}
use Rattle.std.specs.Result.{result_err}
use Rattle.ist_core.specs.declared.commands.Command.{Command}
use Rattle.ist_core.specs.declared.pairs.Pair.{Pair}
use Rattle.ist_core.specs.declared.ports.Full.{Full}
use Rattle.ist_core.specs.declared.states.InnerRow.{InnerRow}
use Rattle.ist_core.specs.declared.events.Who.TheVariants.{Caller as CallerOf}
use Rattle.ist_core.specs.LogTerms.{no_more, whose, LaterBy, Lawful, state_of, Among, Ever, GoesOn, Log, same_log}
use Rattle.ist_core.specs.WordTerms.{Inner, InnerAt, word_of, SlotHolds, past_rebuild, past_change, start}
use Rattle.ist_core.specs.TreeTerms.{Chain, IsChild, makes_entry}
use Rattle.ist_core.proofs.AllWordLemmas.{ref_of-word_of}
use Rattle.ist_core.proofs.AllLogLemmas.{published_good, ever_now}
use Rattle.laws_calls.specs.Settling.{DueRowsAreClosed}
use Rattle.laws_stability.proofs.LaterLemmas.{ever_later}
use Rattle.ist_rule.specs.RuleTerms.{CanGiveUp, IsResolved, SearchedOn, WentOn, now}
use Rattle.ist_rule.specs.declared.view.View.{View}
use Rattle.ist_rule.proofs.SearchedOnLemmas.{searched_all, searched_more, went_searched}
use Rattle.ist_updates.specs.Further.{HasWalkedFew}
use Rattle.laws_stability.proofs.OwnLemmas.{never_falls}
use Rattle.ist_rule.proofs.LaterLemmas.{goes_on_more}
use Rattle.ist_rule.proofs.WentOnLemmas.{later_by-goes_on, went_all, went_grow, went_lawful, went_more, went_now}
use Rattle.ist_rows.specs.RowTerms.{HasRefused, IsCaller, IsQuiet, StaysReady}
use Rattle.ist_rows.specs.declared.callers.Caller.{Caller}
use Rattle.std.specs.Prelude.{IfSome}
use Rattle.ist_rebuild.specs.Starting.{MayStart}
use Rattle.ist_updates.specs.declared.updates.Due.{Due}
use Rattle.ist_updates.specs.declared.updates.Outcome.{Outcome}
use Rattle.ist_updates.specs.Asking.{MayEnd, Updates}
use Rattle.ist_updates.specs.Counting.{CameToLimit, CountedNowhere, IsCounted, LeavesDue}
use Rattle.laws_calls.proofs.ClosedLemmas.{others_count_nothing}
use Rattle.ist_updates.specs.Meeting.{due_in, reply_in}
use Rattle.ist_tree.specs.Working.{none_came, was_refused}
use Rattle.ist_tree.specs.CallTerms.{Applies, CarriesOut, IsDueRefused, IsLetGo, IsShut, IsTopCame, IsTopShut, KeepsDone, LeavesShut, Rebuilds, Works, is_shut}
use Rattle.ist_tree.proofs.RowAtLimitLemmas.{came_inside, came_within, closed_above, due_since}
use Rattle.ist_tree.proofs.UpdateKeptLemmas.{counted_on, may_end_on}
use Rattle.ist_tree.proofs.DueLemmas.{done_more}
use Rattle.ist_tree.proofs.EventLemmas.{rebuilds_count_none, rebuilds_work, updates_start_none, updates_work}
use Rattle.ist_tree.proofs.FreezeGoingLemmas.{by_table}
use Rattle.ist_tree.proofs.FurtherLemmas.{starts_went}
use Rattle.ist_tree.proofs.GoingLemmas.{starts_none_went}
use Rattle.ist_tree.proofs.ShortLemmas.{due_refused_more}
use Rattle.ist_rows.proofs.GoneLemmas.{still_ready}

-- ---- what an update that was applied leaves

-- an update that ended, and met no other value, was applied
pub applies_by : (old mid : Caller) (command : Command) (o : Outcome) (reply : Option ℕ)
    (due : Option Due) → reply ≡ reply_in o → due ≡ due_in o
    → IsCaller mid → HasRefused mid → IsQuiet mid → mid.number ≡ old.number
    → SearchedOn Updates old.token.view mid.token.view → HasWalkedFew old.token.view mid.token.view
    → MayEnd mid command (reply_in o)
    → (makes_entry command (reply_in o) ≡ true
    → IsCounted old.token.view.start old.token.view.words old.token.view.log mid.token.view.log
    old.number command)
    → LeavesDue old.token.view mid.token.view old.number (due_in o)
    → Applies old mid command reply due
applies_by old mid command o reply due reply_is due_is c r q n w few may counted left = grind arith

-- a rebuild of the row that it made due may be started
pub due_may_start : (v w : View) (n : ℕ) (due : Option Due) → LeavesDue v w n due
    → IfSome due (λ d. MayStart w d.parent d.index d.target)
due_may_start v w n None h = tt
due_may_start v w n (Some due) h = h.may

-- it starts no rebuild
applied_done : (old mid : Caller) → old.token.view.who ≡ CallerOf old.number
    → IsResolved old.token.view old.number → SearchedOn Updates old.token.view mid.token.view
    → KeepsDone old mid
applied_done old mid mine resolved went =
    starts_went Updates old.number _ mid.token.view mine went.went
    (updates_start_none old.number) resolved

-- if no row reached its limit, the rows that were made due still have a closed row above
none_due : (old : Caller) (w : View) → SearchedOn Updates old.token.view w
    → ((row : ℕ) → ¬ (CameToLimit old.token.view.start old.token.view.words old.token.view.log w.log
    old.number row))
    → DueRowsAreClosed (start old.token.view.start old.token.view.words) old.token.view.log old.number
    → DueRowsAreClosed (start old.token.view.start old.token.view.words) w.log old.number
none_due old w went came = let v = old.token.view in
    due_since v.start v.words old.number v.log w.log (went_lawful Updates _ w went.went)
    (later_by-goes_on went.went.later) (λ node c. absurd (came node c))

-- it was carried out, and made no row due
pub carried_none : (old mid : Caller) (words : ℕ) (command : Command) (reply : Option ℕ)
    → old.token.view.who ≡ CallerOf old.number → IsResolved old.token.view old.number
    → Applies old mid command reply None → CarriesOut old mid words command reply None
carried_none old mid words command reply mine resolved a = record {
  ready = record { caller = a.caller; refused = a.refused; quiet = a.quiet };
  number = a.number;
  went = searched_all Updates Works updates_work old.token.view mid.token.view a.went;
  few_walks = a.few_walks;
  may = a.may;
  counted = a.counted;
  shut = none_came a.due;
  starts = λ unrefused. applied_done old mid mine resolved a.went;
  due = λ unrefused. none_due old mid.token.view a.went a.due;
}

-- it took no effect
pub let_go : (old new : Caller) → old.token.view.who ≡ CallerOf old.number
    → IsResolved old.token.view old.number → IsCaller new → HasRefused new → new.number ≡ old.number
    → SearchedOn Updates old.token.view new.token.view → HasWalkedFew old.token.view new.token.view
    → CanGiveUp new.token.view → LeavesDue old.token.view new.token.view old.number None
    → CountedNowhere old.token.view.log new.token.view.log old.number → IsLetGo old new
let_go old new mine resolved c refused number went few can due uncounted = record {
  caller = c;
  refused = refused;
  number = number;
  went = searched_all Updates Works updates_work old.token.view new.token.view went;
  few_walks = few;
  can = can;
  none_came = due;
  uncounted = uncounted;
  unstarted = starts_none_went Updates old.number (updates_start_none old.number) _ new.token.view
      mine resolved went.went;
  starts = applied_done old new mine resolved went;
  due = none_due old new.token.view went due;
}

-- ---- a row was made due

-- a rebuild begins no walk
few_with : (u v w : View) → HasWalkedFew u v → WentOn Rebuilds v w → HasWalkedFew u w
few_with u v w few g = grind (arith, never_falls, later_by-goes_on)

-- a row in whose slot the target stood was its parent
stood_child : (pairs : List Pair) (words : ℕ) (m log longer : Log) → Lawful pairs words log
    → GoesOn m log → GoesOn log longer → (parent index target : ℕ) (row : InnerRow)
    → (state_of pairs words log).pieces target ≡ Some (Inner row)
    → SlotHolds (state_of pairs words m) parent index (word_of (InnerAt target))
    → Ever (start pairs words) (λ t. IsChild t parent index target) longer
stood_child pairs words m log longer l on to parent index target row e holds =
    let good = published_good pairs words l.opens log target (Inner row) l.enabled e in
    let ps = (state_of pairs words m).pieces in
    ever_later (start pairs words) (λ t. IsChild t parent index target) (goes_on_more on to)
    (ever_now (start pairs words) (λ t. IsChild t parent index target) m
    record {
      word = word_of (InnerAt target);
      holds = holds;
      reads = ap (λ o. past_rebuild ps (past_change ps o)) (ref_of-word_of (InnerAt target) good);
    })

-- the rebuild of the row that was made due was tried
module _ (old mid new : Caller) (words : ℕ) (command : Command) (reply : Option ℕ) (due : Due)
    (mine : old.token.view.who ≡ CallerOf old.number) (resolved : IsResolved old.token.view old.number)
    (a : Applies old mid command reply (Some due)) (on : StaysReady Rebuilds mid new) where
  abbrev w : View
  w = mid.token.view

  -- what was known before, as if as many searches had been begun
  abbrev v : View
  v = record old.token.view { searches = w.searches }

  abbrev x : View
  x = new.token.view

  all_went : WentOn Works v x
  all_went = went_more Works v w x (went_all Updates Works updates_work v w a.went.went)
      (went_all Rebuilds Works rebuilds_work w x on.gone.went)

  lawful : Lawful v.start v.words x.log
  lawful = went_lawful Works v x all_went

  longer : GoesOn w.log x.log
  longer = later_by-goes_on on.gone.went.later

  -- a row that reached its limit did so before the rebuild
  came_before : (row : ℕ) → CameToLimit v.start v.words v.log x.log old.number row
      → CameToLimit v.start v.words v.log w.log old.number row
  came_before row = came_inside v.start v.words old.number (λ event. ⊥)
      (λ event. (whose event ≢ CallerOf old.number) ⊎ Rebuilds event) (λ event never. absurd never)
      (λ event. ⊎_elim (others_count_nothing old.number event)
      (rebuilds_count_none old.number event))
      v.log v.log w.log x.log no_more (later_by-goes_on a.went.went.later)
      (subst (λ n. LaterBy (CallerOf n) Rebuilds w.log x.log) a.number
      (subst (λ who. LaterBy who Rebuilds w.log x.log) a.caller.mine on.gone.went.later)) row

  -- the row is the topmost that reached its limit
  top_came : IsTopCame old.token.view x old.number due.target
  top_came = record {
    came = came_within v.start v.words old.number v.log v.log w.log x.log same_log longer due.target
        a.due.came;
    top = λ other c.
        ever_later (start v.start v.words) (λ t. (rows : List ℕ) × Chain t other rows
        × Among due.target rows) longer (a.due.top other (came_before other c));
  }

  -- the row was in the slot of its parent
  due_child : Ever (start v.start v.words) (λ t. IsChild t due.parent due.index due.target) x.log
  due_child = by_table Updates v w a.went.went
      (λ p n. Ever (start p n) (λ t. IsChild t due.parent due.index due.target) x.log)
      (stood_child w.start w.words a.due.may.prefix w.log x.log a.went.went.sound.lawful
      a.due.may.goes_on longer due.parent due.index due.target a.due.may.row a.due.may.published
      a.due.may.stood)

  -- the row or its parent isn't open
  top_shut : IsShut (now x) due.parent due.target → IsTopShut old.token.view x old.number due.target
  top_shut shut = record {
    came = top_came.came;
    top = top_came.top;
    parent = due.parent;
    index = due.index;
    was_child = due_child;
    shut = subst (λ t. IsShut t due.parent due.target) (went_now Works v x all_went) shut;
  }

  -- each row that was made due then has a closed row above
  due_closed : IsTopShut old.token.view x old.number due.target
      → DueRowsAreClosed (start v.start v.words) v.log old.number
      → DueRowsAreClosed (start v.start v.words) x.log old.number
  due_closed t =
      due_since v.start v.words old.number v.log x.log lawful (later_by-goes_on all_went.later)
      (λ node c. closed_above v.start v.words lawful.opens x.log lawful.enabled node due.target
      t.parent t.index (t.top node c) t.was_child t.shut)

  -- it was carried out, and the row was rebuilt
  pub carried_some : (answer : Result (Unit {0}) Full) (refused : Option Full)
      → refused ≡ result_err answer
      → OnOk answer (IsShut (now x) due.parent due.target) → OnOk answer (KeepsDone mid new)
      → IfErr answer (λ full. IsDueRefused (now w) x due words full)
      → CarriesOut old new words command reply refused
  carried_some answer refused is shut done full = record {
    ready = still_ready on;
    number = on.gone.number ∙ a.number;
    went = searched_more Works old.token.view w x (searched_all Updates Works updates_work old.token.view w a.went)
        (went_searched Works w x (went_all Rebuilds Works rebuilds_work w x on.gone.went));
    few_walks = few_with old.token.view w x a.few_walks on.gone.went;
    may = may_end_on mid new command reply a.caller.mine on a.may;
    counted = λ entry. counted_on v.start v.words v.log v.log w.log x.log same_log
        (later_by-goes_on a.went.went.later) longer lawful old.number command (a.counted entry);
    shut = subst (LeavesShut old.token.view x old.number words) (sym is) (outcome answer shut full);
    starts = λ unrefused. starts_done answer (sym is ∙ unrefused) done;
    due = λ unrefused. rows_closed answer (sym is ∙ unrefused) shut;
  }
    where
      outcome : (r : Result (Unit {0}) Full) → OnOk r (IsShut (now x) due.parent due.target)
          → IfErr r (λ f. IsDueRefused (now w) x due words f)
          → LeavesShut old.token.view x old.number words (result_err r)
      outcome (Ok u) s f = is_shut due.target (top_shut s)
      outcome (Err e) s f = was_refused e due top_came due_child
          (due_refused_more (now v) (now w) (went_grow Updates v w a.went.went) x due words e f)

      starts_done : (r : Result (Unit {0}) Full) → result_err r ≡ None → OnOk r (KeepsDone mid new)
          → KeepsDone old new
      starts_done (Ok u) none d =
          done_more old mid new a.number (applied_done old mid mine resolved a.went) d
      starts_done (Err e) none d = absurd (cc)

      rows_closed : (r : Result (Unit {0}) Full) → result_err r ≡ None
          → OnOk r (IsShut (now x) due.parent due.target)
          → DueRowsAreClosed (start v.start v.words) v.log old.number
          → DueRowsAreClosed (start v.start v.words) x.log old.number
      rows_closed (Ok u) none s = due_closed (top_shut s)
      rows_closed (Err e) none s = absurd (cc)
