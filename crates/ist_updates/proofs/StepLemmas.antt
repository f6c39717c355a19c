-- Which steps are steps of a try, and which install nothing. Serves each part of a try.
use Rattle.std.proofs.Common.{◌≡◌, ℕ, sym, ◌∙◌, arith, ◌≢◌, List, ◌∷◌, ap, subst, inl, inr, ◌+◌, ◌≤◌, length, Option, Some, None, refl}
use Rattle.ist_core.specs.declared.events.Event.{Event}
use Rattle.ist_core.specs.declared.events.Event.TheVariants.{Enter, Reserve, Install, Okay, Decide, Resolve, Count, Lose}
use Rattle.ist_core.specs.declared.commands.Command.{Command}
use Rattle.ist_core.specs.declared.pairs.Pair.{Pair}
use Rattle.ist_core.specs.declared.events.Who.TheVariants.{Caller as CallerOf}
use Rattle.ist_core.specs.WordTerms.{finish_kind, start, Piece}
use Rattle.ist_rows.specs.RowTerms.{InstallsNone, IsQuiet, HasGone}
use Rattle.ist_rows.specs.declared.callers.Caller.{Caller}
use Rattle.ist_rows.proofs.GoneLemmas.{keeping_installs_none}
use Rattle.ist_dcss.proofs.ResolvedLemmas.{serves_keep}
use Rattle.ist_dcss.specs.Helping.{Serves as Helps}
use Rattle.ist_rebuild.specs.Going.{ServesRebuild}
use Rattle.ist_updates.specs.Asking.{Updates, IsAsked}
use Rattle.ist_updates.specs.Changing.{Prepares}
use Rattle.ist_updates.specs.Trying.{Tries, HasTakenEffect}
use Rattle.ist_updates.proofs.StandingLemmas.{no_finish, installed_row}
use Rattle.ist_core.specs.LogTerms.{GoesOnBy, no_more, one_more, whose, LaterBy, EachEnabled, state_of, Log, GoesOn, same_log, one_event, Snapshot}
use Rattle.ist_core.specs.TreeTerms.{first_change, changes_of, entries_by}
use Rattle.ist_core.proofs.AllLogLemmas.{enabled_before, grow_between, change_there}
use Rattle.ist_rule.specs.RuleTerms.{IsResolved, now}
use Rattle.ist_rule.specs.declared.view.View.{View}
use Rattle.ist_core.proofs.AllWordLemmas.{same_change}
use Rattle.ist_rule.proofs.LaterLemmas.{goes_on_more}
use Rattle.ist_rule.proofs.WentOnLemmas.{later_by_all, later_by-goes_on, went_lawful, went_all, went_grow}
use Rattle.ist_rows.proofs.CallerLawLemmas.{resolved_went}
use Rattle.laws_histories.specs.Calls.{MadeNoEntry}
use Rattle.laws_calls.specs.Accepting.{InstallsNoYes}
use Rattle.laws_calls.proofs.AcceptedLemmas.{installed_no_entry}

-- ---- steps of help

-- a step of help is one of a try
pub help_tries : (base : ℕ) (event : Event) → Helps base event → Tries event
help_tries base (Okay c b) is = tt
help_tries base (Decide c b d) is = tt
help_tries base (Resolve c b) is = tt
help_tries base _ is = absurd is

-- and installs nothing
pub help_installs_none : (base : ℕ) (event : Event) → Helps base event → InstallsNone event
help_installs_none base event is = keeping_installs_none event (serves_keep base event is)

-- ---- steps of preparing

-- they install nothing
pub prepares_none : (event : Event) → Prepares event → InstallsNone event
prepares_none (Reserve c b z) is = tt
prepares_none (Lose c bases) is = tt
prepares_none _ is = absurd is

-- and are steps of a try
pub prepares_tries : (event : Event) → Prepares event → Tries event
prepares_tries (Reserve c b z) is = tt
prepares_tries (Lose c bases) is = tt
prepares_tries _ is = absurd is

-- ---- of a try

-- a step of a try is one of an update
pub tries_updates : (event : Event) → Tries event → Updates event
tries_updates (Count c n) is = absurd is
tries_updates _ is = is

-- a step of help of a rebuild is one of a try
pub serves_tries : (event : Event) → ServesRebuild event → Tries event
serves_tries (Install c b rows) is = grind arith
serves_tries (Enter c) is = absurd is
serves_tries (Count c n) is = absurd is
serves_tries _ is = tt

-- a preparing step is a step of an update
pub prepares_updates : (event : Event) → Prepares event → Updates event
prepares_updates event is = tries_updates event (prepares_tries event is)

-- ---- callers that are still asked: nothing of their call took effect. Serves each step of a try.

-- ---- events that make no entry

-- another's event installs nothing of the caller
other_no_yes : (t : Snapshot) (number : ℕ) (event : Event) → whose event ≢ CallerOf number
    → InstallsNoYes t number event
other_no_yes t number (Install by base rows) other = λ same. absurd (other (ap CallerOf same))
other_no_yes t number _ other = tt

-- an event that installs nothing installs no yes
pub none_no_yes : (t : Snapshot) (number : ℕ) (event : Event) → InstallsNone event
    → InstallsNoYes t number event
none_no_yes t number (Install by base rows) none = absurd none
none_no_yes t number _ none = tt

-- a log that went on by others, and by own events that install no yes, went on by such events
pub no_yes_by : (t : Snapshot) (number : ℕ) (earlier log : Log)
    → LaterBy (CallerOf number) (InstallsNoYes t number) earlier log
    → GoesOnBy (InstallsNoYes t number) earlier log
no_yes_by t number earlier _ no_more = no_more
no_yes_by t number earlier _ (one_more {log = log} event l (inl other)) =
    one_more event (no_yes_by t number earlier log l) (other_no_yes t number event other)
no_yes_by t number earlier _ (one_more {log = log} event l (inr is)) =
    one_more event (no_yes_by t number earlier log l) is

-- ---- the help of a rebuild

module _ (pairs : List Pair) (words : ℕ) (last : Log) (h : EachEnabled (start pairs words) last)
    (number : ℕ) where
  -- it installs finishes, which are no updates
  finish_no_yes : (log : Log) (event : Event) → GoesOn (event ∷ log) last → ServesRebuild event
      → InstallsNoYes (state_of pairs words last) number event
  finish_no_yes log (Install by base rows) until is = λ same_caller change there update.
      let enabled = enabled_before (start pairs words) (Install by base rows ∷ log) last until h in
      let row = enabled.1.change in
      let on = change_there (state_of pairs words (Install by base rows ∷ log)).pieces
      (state_of pairs words last).pieces
      (grow_between pairs words (Install by base rows ∷ log) last h until) base row
      (installed_row pairs words log by base rows enabled.1) in
      let same = same_change ((state_of pairs words last).pieces base) on.0 change on.1 there in
      let kind : row.kind ≡ finish_kind = is row (ap first_change enabled.1.rows_are) in
      absurd (no_finish (sym (ap (λ c. c.kind) same) ∙ ap (λ c. c.kind) on.2.others ∙ kind) update)
  finish_no_yes log _ until is = tt

  -- a caller that only helped a rebuild installed no update that was decided yes
  pub served_no_yes : (earlier log : Log) → GoesOn log last
      → LaterBy (CallerOf number) ServesRebuild earlier log
      → GoesOnBy (InstallsNoYes (state_of pairs words last) number) earlier log
  served_no_yes earlier _ until no_more = no_more
  served_no_yes earlier _ until (one_more {log = log} event l (inl other)) = one_more event
      (served_no_yes earlier log (goes_on_more (one_event event same_log) until) l)
      (other_no_yes (state_of pairs words last) number event other)
  served_no_yes earlier _ until (one_more {log = log} event l (inr is)) = one_more event
      (served_no_yes earlier log (goes_on_more (one_event event same_log) until) l)
      (finish_no_yes log event until is)

-- ---- asked still

module _ (P : Event → Type 0) (old new : Caller) (command : Command) (a : IsAsked old command)
    (h : HasGone P old new) where
  abbrev v : View
  v = old.token.view

  abbrev w : View
  w = new.token.view

  -- a caller that went on, made no entry and resolved its changes is asked still
  pub asked_still : IsResolved w old.number → MadeNoEntry v.start v.words old.number v.log w.log
      → IsAsked new command
  asked_still resolved none = grind (arith, goes_on_more, later_by-goes_on)

  -- a caller that installed nothing is still asked
  pub asked_gone : ((event : Event) → P event → InstallsNone event) → IsAsked new command
  asked_gone all = let lawful = went_lawful P v w h.went in
      let t = state_of v.start v.words w.log in asked_still
      (resolved_went v w old.number a.caller.mine a.resolved (went_all P InstallsNone all v w h.went))
      (installed_no_entry v.start v.words lawful.opens v.log w.log lawful.enabled old.number
      (no_yes_by t old.number v.log w.log
      (subst (λ who. LaterBy who (InstallsNoYes t old.number) v.log w.log) a.caller.mine
      (later_by_all (λ event is. none_no_yes t old.number event (all event is)) h.went.later)))
      a.resolved)

-- a caller that helped a rebuild is still asked
pub asked_served : (old new : Caller) (command : Command) → IsAsked old command
    → HasGone ServesRebuild old new → IsResolved new.token.view new.number → IsAsked new command
asked_served old new command a h resolved = let v = old.token.view in let w = new.token.view in
    let lawful = went_lawful ServesRebuild v w h.went in
    asked_still ServesRebuild old new command a h (subst (IsResolved w) h.number resolved)
    (installed_no_entry v.start v.words lawful.opens v.log w.log lawful.enabled old.number
    (served_no_yes v.start v.words w.log lawful.enabled old.number v.log w.log same_log
    (subst (λ who. LaterBy who ServesRebuild v.log w.log) a.caller.mine h.went.later))
    a.resolved)

-- who is asked is in a call, and has resolved its changes
pub asked_quiet : (who : Caller) (command : Command) → IsAsked who command → IsQuiet who
asked_quiet who command a = grind arith

-- ---- an update that took effect since a later view took effect since an earlier one. Serves `change_slot`
-- and the tries above it.

-- an update that took effect since a later view took effect since an earlier one
pub taken_since : (old mid : Caller) (command : Command) → IsAsked old command → IsAsked mid command
    → HasGone Prepares old mid → (w : View) (node : ℕ) (told reply : Option ℕ) → reply ≡ told
    → HasTakenEffect mid.token.view w mid.number command node told
    → HasTakenEffect old.token.view w old.number command node reply
taken_since old mid command a b h w node told reply same_reply t = let v = old.token.view in
    let x = mid.token.view in let change = t.update.change in
    let fresh : (now v).pieces t.base ≡ None = none_before ((now v).pieces t.base) refl in record {
      base = t.base;
      fresh = fresh;
      update = grind (arith, alone);
      command_is = t.command_is;
      node_is = t.node_is;
      reply_is = same_reply ∙ t.reply_is;
    }
  where
    none_before : (o : Option Piece) → (now old.token.view).pieces t.base ≡ o → o ≡ None
    none_before None e = refl
    none_before (Some p) e = grind (arith, went_grow)

    alone : length (entries_by old.number (changes_of old.token.view.start old.token.view.words w.log))
        ≤ length (entries_by old.number
        (changes_of old.token.view.start old.token.view.words old.token.view.log)) + 1
    alone = grind arith
