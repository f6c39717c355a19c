-- A find: its call may end at the position that the search has, and is then added to the calls of
-- its pass. Serves `find`.
use Rattle.std.proofs.Common.{◌≡◌, ℕ, ◌+◌, ◌≤◌, Option, Some, None, List, [], ◌∷◌, ◌++◌, length, refl, sym, ap, subst, arith, length-append}
use Rattle.ist_core.specs.declared.calls.Call.{Call}
use Rattle.ist_core.specs.declared.commands.Command.TheVariants.{Get}
use Rattle.ist_core.specs.declared.pairs.Pair.{Pair}
use Rattle.ist_core.specs.declared.events.Who.TheVariants.{Caller as CallerOf}
use Rattle.ist_core.specs.TreeTerms.{map_of, changes_of, IsRead, IsFresh}
use Rattle.ist_core.specs.LogTerms.{Log, GoesOn, same_log, Lawful, Later}
use Rattle.ist_core.specs.WordTerms.{start}
use Rattle.laws_histories.specs.Calls.{HasCalls}
use Rattle.laws_histories.specs.Searching.{HasPosition}
use Rattle.laws_histories.proofs.CallLemmas.{add_reading}
use Rattle.laws_histories.proofs.ChangeLemmas.{changes_on, at_prefix}
use Rattle.laws_real_time.specs.Moments.{Moments}
use Rattle.ist_rule.specs.RuleTerms.{IsSound, CanEnd}
use Rattle.ist_rule.specs.declared.view.View.{View}
use Rattle.ist_rule.specs.declared.view.Loads.{Loads}
use Rattle.ist_rule.proofs.LaterLemmas.{later-goes_on, later_more}
use Rattle.ist_tree.proofs.GoingLemmas.{between_after, no_entry_after, has_its_calls}
use Rattle.ist_tree.proofs.PositionLemmas.{position_of, IsPlace, first_place, found_call}

-- a longer log has no fewer changes
pub changes_rise : (pairs : List Pair) (words : ℕ) (earlier log : Log) → GoesOn earlier log
    → length (changes_of pairs words earlier) ≤ length (changes_of pairs words log)
changes_rise pairs words earlier log g = let on = changes_on (start pairs words) earlier log g in
    let same = ap length on.1 in omega (arith, length-append (changes_of pairs words earlier) on.0)

-- a view that began to get the key when it had seen the earlier log, and then searched
abbrev pub searched_view : View → ℕ → Log → Log → Loads → ℕ → ℕ → Moments → View
searched_view v key earlier log loads loaded searches moments =
    record v {
      log = log;
      moments = moments;
      loads = loads;
      loaded = loaded;
      searches = searches;
      pending = Some record { command = Some (Get key); length = length earlier };
    }

-- the call that its caller then makes, if it has found this value
abbrev pub get_call : View → ℕ → Log → Log → Option ℕ → Call
get_call v key earlier log value = record {
  command = Get key;
  reply = value;
  position = position_of v.start v.words earlier log key value;
  stamp = v.stamp + 1;
}

-- a caller that began to get the key when it had seen the earlier log, and then searched
module _ (v : View) (number key : ℕ) (s : IsSound v) (mine : v.who ≡ CallerOf number)
    (none : v.pending ≡ None) (earlier log : Log) (before : Later (CallerOf number) v.log earlier)
    (later : Later (CallerOf number) earlier log) (lawful : Lawful v.start v.words log)
    (value : Option ℕ) (has : HasPosition v.start v.words earlier log key value) where
  its_place : IsPlace v.start v.words earlier log key value
      (position_of v.start v.words earlier log key value)
  its_place = first_place v.start v.words earlier log key value has

  all_later : Later (CallerOf number) v.log log
  all_later = later_more before later

  its_read : IsRead (map_of v.start) (changes_of v.start v.words log) (get_call v key earlier log value)
  its_read = record { within = its_place.to; reply = its_place.value_is }

  -- it is fresh for all that the caller had seen before
  pub its_fresh : (seen : Log) → GoesOn seen earlier
      → IsFresh v.start v.words seen v.stamp (get_call v key earlier log value)
  its_fresh seen g = let rise = changes_rise v.start v.words seen earlier g in
      let from = its_place.from in record { position = omega arith; later = omega arith }

  -- and is added to its calls
  pub its_calls : HasCalls v.start v.words log number (v.stamp + 1) (v.calls ++ (get_call v key earlier log value) ∷ [])
  its_calls =
      add_reading v.start v.words v.log log number v.stamp v.calls (get_call v key earlier log value)
      (has_its_calls v number s mine none) (later-goes_on all_later)
      (no_entry_after v number s mine none log lawful all_later) refl
      (its_fresh v.log (later-goes_on before)) its_read

  -- the call is the one that is picked
  pub found_is : (loads : Loads) (loaded searches : ℕ) (moments : Moments)
      → found_call (searched_view v key earlier log loads loaded searches moments) value
      ≡ get_call v key earlier log value
  found_is loads loaded searches moments = grind (arith, at_prefix, later-goes_on)

  -- and the view may end it
  pub may_end : (loads : Loads) (loaded searches : ℕ) (moments : Moments)
      → CanEnd (searched_view v key earlier log loads loaded searches moments)
      (found_call (searched_view v key earlier log loads loaded searches moments) value)
  may_end loads loaded searches moments =
      subst (CanEnd (searched_view v key earlier log loads loaded searches moments)) (sym (found_is loads loaded searches moments))
      record {
        number = number;
        mine = mine;
        pending = record { command = Some (Get key); length = length earlier };
        in_call = refl;
        command_is = refl;
        stamp_is = refl;
        resolved = (between_after v number s mine none log lawful all_later).resolved;
        stand = its_calls.stand;
        seen = earlier;
        goes_on = later-goes_on later;
        length_is = refl;
        fresh = its_fresh earlier same_log;
      }
