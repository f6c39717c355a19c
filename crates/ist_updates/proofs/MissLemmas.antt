-- An update that met a value at which it shouldn't take effect: which value its search found, and at
-- which position. Serves `trying`, `descend` and `apply`.
use Rattle.std.proofs.Common.{◌≡◌, ℕ, ◌∙◌, Option, Some, None, length, sym, ap, subst, ⊎_elim, ◌≢◌, ◌+◌, ◌≤◌, List, refl, arith}
use Rattle.std.proofs.Math.Nat.{le_trans}
use Rattle.std.proofs.lemmas.Bool.Decides.{eqb_tells}
use Rattle.ist_core.specs.declared.events.Event.{Event}
use Rattle.ist_core.specs.declared.states.LeafRow.{LeafRow}
use Rattle.ist_core.specs.declared.calls.Call.{Call}
use Rattle.ist_core.specs.declared.commands.Command.{Command}
use Rattle.ist_core.specs.declared.commands.Command.TheVariants.{Remove}
use Rattle.ist_core.specs.declared.pairs.Pair.{Pair}
use Rattle.ist_core.specs.declared.states.ChangeRow.{ChangeRow}
use Rattle.ist_core.specs.TreeTerms.{value_in, changes_of, entries_by}
use Rattle.ist_core.specs.LogTerms.{GoesOn, EachEnabled, Lawful, state_of}
use Rattle.ist_core.specs.WordTerms.{Leaf, Empty, LeafAt, ref_of, start, Change, decided_yes}
use Rattle.laws_histories.specs.Loads.{log_at}
use Rattle.ist_rule.specs.RuleTerms.{WentOn, now, GoesOnTo, CanEnd}
use Rattle.ist_rule.specs.declared.view.View.{View}
use Rattle.laws_histories.proofs.ChangeLemmas.{changes_rise, at_prefix}
use Rattle.laws_histories.proofs.PositionLemmas.{search_position, search_added}
use Rattle.ist_rule.proofs.WentOnLemmas.{later_by-goes_on, went_lawful}
use Rattle.ist_updates.specs.declared.plans.Aim.{Aim}
use Rattle.ist_updates.specs.declared.updates.When.{When}
use Rattle.ist_updates.specs.Changing.{WasAtSlot}
use Rattle.ist_updates.specs.Meeting.{IsMissedBy, HasMissed, WasMissed}
use Rattle.ist_updates.proofs.TriedLemmas.{found_nothing, found_key, found_other}
use Rattle.ist_core.proofs.AllLogLemmas.{enabled_before}
use Rattle.laws_histories.specs.Calls.{MadeNoEntry, HasCalls, CameToCall, IsAdded}
use Rattle.laws_histories.specs.Searching.{SearchIsAdded}
use Rattle.laws_histories.proofs.CallLemmas.{add_update}
use Rattle.laws_histories.proofs.EffectLemmas.{took_effect}
use Rattle.ist_rule.proofs.LaterLemmas.{goes_on_more}
use Rattle.ist_rows.specs.RowTerms.{IsCaller, IsQuiet}
use Rattle.ist_rows.specs.declared.callers.Caller.{Caller}
use Rattle.ist_updates.specs.declared.updates.Applied.{Applied}
use Rattle.ist_updates.specs.Asking.{Updates, IsAsked, MayEnd}
use Rattle.ist_updates.specs.Trying.{Tries, HasFoundNone}
use Rattle.ist_updates.specs.Walking.{HasCounted}
use Rattle.ist_updates.proofs.FurtherLemmas.{yes_stays}
use Rattle.ist_updates.proofs.TriedWalkLemmas.{went_table}

module _ (v w : View) (g : GoesOnTo v w) (aim : Aim) (at : WasAtSlot w aim) (when : When) where
  -- nothing in the slot gives the key no value
  pub none_missed : ref_of aim.word ≡ Some Empty → IsMissedBy when None → HasMissed v w aim.key when
  none_missed is missed = let found = found_nothing w aim at is in record {
    node = found.node;
    had = None;
    missed = missed;
    searched = found.searched;
    since = g.since;
  }

  -- a leaf gives it the value that was compared
  pub leaf_missed : (base : ℕ) (row : LeafRow) → ref_of aim.word ≡ Some (LeafAt base)
      → (now w).pieces base ≡ Some (Leaf row) → (had : Option ℕ)
      → had ≡ value_in (Some (Leaf row)) aim.key → IsMissedBy when had → HasMissed v w aim.key when
  leaf_missed base row is there had had_is missed = ⊎_elim
      (λ k. record {
        node = aim.node;
        had = Some row.value;
        missed = grind arith;
        searched = found_key w aim at base row is there k.1;
        since = g.since;
      })
      (λ k. let found = found_other w aim at base row is there k.1 in record {
        node = found.node;
        had = None;
        missed = grind arith;
        searched = found.searched;
        since = g.since;
      })
      (eqb_tells row.key aim.key)

-- a search that missed a value after loads missed it with them
pub missed_loads : (v w x : View) (key : ℕ) (when : When) → GoesOnTo v w → HasMissed w x key when
    → HasMissed v x key when
missed_loads v w x key when g m = grind arith

-- the value that a search missed has a position, if the search began after the first view
pub missed_since : (P : Event → Type 0) (first v w : View) (key : ℕ) (when : When)
    → GoesOn first.log v.log → v.loads.since ≡ length v.log → WentOn P v w → HasMissed v w key when
    → WasMissed first w key when
missed_since P first v w key when before began went m = let lawful = went.sound.lawful in
    let at : log_at w.log w.loads.since ≡ v.log =
    grind (arith, at_prefix, later_by-goes_on) in
    let p = search_position w.start w.words lawful.opens w.log lawful.enabled key w.loads.since m.node
    m.had m.searched in
    let rise = changes_rise (start w.start w.words) first.log (log_at w.log w.loads.since)
    (subst (GoesOn first.log) (sym at) before) in
    record {
      had = m.had;
      missed = m.missed;
      position = grind (arith, le_trans);
    }

-- ---- what an update may return: its yes if it took effect, and its search if there was nothing to remove.
-- Serves `apply`.

-- what holds for a view's table, calls and stamp holds for a view's that it went on to
went_calls : (P : Event → Type 0) (v w : View) → WentOn P v w
    → (Q : List Pair → ℕ → ℕ → List Call → Type 0) → Q v.start v.words v.stamp v.calls
    → Q w.start w.words w.stamp w.calls
went_calls P v w g Q h = grind (arith, went_table)

-- a call that is added to the calls of an asked caller may end there
added_ends : {P : Event → Type 0} (old new : Caller) (command : Command) (a : IsAsked old command)
    → WentOn P old.token.view new.token.view → IsCaller new → new.number ≡ old.number → IsQuiet new
    → (call : Call) → call.command ≡ command → call.stamp ≡ old.token.view.stamp + 1
    → IsAdded old.token.view.start old.token.view.words a.seen new.token.view.log old.number
    old.token.view.stamp old.token.view.calls call → CanEnd new.token.view call
added_ends {P = P} old new command a g c same q call command_is stamp_is added =
    grind (arith, went_calls, goes_on_more, later_by-goes_on)

-- ---- an update that took effect

module _ (old new : Caller) (command : Command) (a : IsAsked old command)
    (g : WentOn Updates old.token.view new.token.view) (rows : List ℕ) (done : Applied)
    (x : HasCounted old.token.view.start old.token.view.words old.token.view.log new.token.view.log
    old.number command rows done) where
  abbrev v : View
  v = old.token.view

  abbrev w : View
  w = new.token.view

  lawful : Lawful v.start v.words w.log
  lawful = went_lawful Updates v w g

  before : EachEnabled (start v.start v.words) v.log
  before = grind (arith, enabled_before, later_by-goes_on)

  -- it wasn't decided yes when the call began
  not_yet : (o : ChangeRow) → (state_of v.start v.words a.seen).pieces x.base ≡ Some (Change o)
      → o.decision ≢ decided_yes
  not_yet o e said = grind (arith, yes_stays, before)

  few : length (entries_by old.number (changes_of v.start v.words w.log))
      ≤ length (entries_by old.number (changes_of v.start v.words a.seen)) + 1
  few = grind arith

  came : CameToCall v.start v.words a.seen w.log old.number (v.stamp + 1) command x.update.change
  came = grind (arith, took_effect, goes_on_more, later_by-goes_on, not_yet, few)

  -- the call may end with its reply
  pub taken_ends : IsCaller new → new.number ≡ old.number → IsQuiet new
      → MayEnd new command done.reply
  taken_ends c same q =
      let stamp_is : came.call.stamp ≡ v.stamp + 1 = ap (λ (k : Call). k.stamp) came.call_is in
      let command_is : came.call.command ≡ command = ap (λ (k : Call). k.command) came.call_is in
      record {
        call = came.call;
        command_is = command_is;
        reply_is = grind arith;
        can = added_ends old new command a g c same q came.call command_is stamp_is
            (add_update v.start v.words a.seen w.log old.number v.stamp v.calls came.call a.had
            came.effect came.changes (omega arith));
      }

-- ---- a remove that found nothing

module _ (old new : Caller) (key : ℕ) (a : IsAsked old (Remove key)) (b : IsAsked new (Remove key))
    (g : WentOn Tries old.token.view new.token.view) (same : new.number ≡ old.number)
    (began : old.token.view.loads.since ≡ length old.token.view.log)
    (since : new.token.view.loads.since ≡ old.token.view.loads.since)
    (found : HasFoundNone new.token.view key) where
  abbrev v2 : View
  v2 = old.token.view

  abbrev w2 : View
  w2 = new.token.view

  had_there : HasCalls w2.start w2.words a.seen old.number w2.stamp w2.calls
  had_there = grind (arith, went_calls)

  -- it made no entry
  no_entry : MadeNoEntry w2.start w2.words old.number a.seen w2.log
  no_entry = grind arith

  -- the search began after all that was seen
  following : GoesOn a.seen (log_at w2.log w2.loads.since)
  following = grind (arith, at_prefix, later_by-goes_on)

  its_search : SearchIsAdded w2.start w2.words a.seen w2.log old.number w2.stamp w2.calls (Remove key)
      None
  its_search = let lawful = g.sound.lawful in
      search_added w2.start w2.words lawful.opens w2.log lawful.enabled a.seen old.number w2.stamp
      w2.calls had_there no_entry w2.loads.since found.node following (Remove key) None refl
      found.searched

  -- the call may end without a value
  pub nothing_ends : IsCaller new → IsQuiet new → MayEnd new (Remove key) None
  nothing_ends c q = let k = its_search in
      let added = went_back (λ p n stamp calls. IsAdded p n a.seen w2.log old.number stamp calls
      k.call) k.added in
      record {
        call = k.call;
        command_is = k.command_is;
        reply_is = k.reply_is;
        can = added_ends old new (Remove key) a g c same q k.call k.command_is
            (k.stamp_is ∙ ap (λ n. n + 1) (ap (λ x. x.stamp) g.same)) added;
      }
    where
      went_back : (Q : List Pair → ℕ → ℕ → List Call → Type 0)
          → Q w2.start w2.words w2.stamp w2.calls → Q v2.start v2.words v2.stamp v2.calls
      went_back Q h = grind arith
