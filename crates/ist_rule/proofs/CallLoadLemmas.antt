-- The five loads that turn a call or a search: the view that each takes fits. Serves `begin_call`,
-- `begin_search`, `begin_read`, `end_call` and `give_up`.
use Rattle.std.proofs.Common.{◌≡◌, ℕ, ◌+◌, ◌≤◌, List, [], ◌∷◌, ◌++◌, map, length, Option, Some, None, refl, sym, ap, ◌∙◌, subst, inl, arith}
use Rattle.ist_core.specs.declared.calls.Call.{Call}
use Rattle.ist_core.specs.declared.commands.Command.{Command}
use Rattle.ist_core.specs.declared.pairs.Pair.{Pair}
use Rattle.ist_core.specs.declared.events.Who.{Who}
use Rattle.ist_core.specs.declared.events.Who.TheVariants.{Caller}
use Rattle.ist_core.specs.LogTerms.{Log, GoesOn, same_log, one_event, Lawful, state_of, Each, Among}
use Rattle.ist_core.specs.TreeTerms.{AllResolvedOf, StandsIn, entry_by, IsFresh, map_of, changes_of}
use Rattle.ist_core.proofs.AllWordLemmas.{each_append, among_right}
use Rattle.ist_rule.specs.RuleTerms.{View, Loads, Pending, About, StandsInPrefix, HasMade, IsBetween, CallStands, entries_made, KeepsCalls, its_own, noted, Recalls, NeverFall, IsHeard, Fits, Kept, searching, HasSpoken, CanEnd, CanGiveUp}
use Rattle.ist_core.proofs.AllLogLemmas.{goes_on_by, goes_on_more, goes_on_length}
use Rattle.ist_core.specs.WordTerms.{start}
use Rattle.laws_histories.proofs.ChangeLemmas.{changes_on, get_left, read_on}
use Rattle.laws_real_time.specs.declared.moments.Deed.{Deed}
use Rattle.laws_real_time.specs.declared.moments.Deed.TheVariants.{Begins, Returns, GivesUp}
use Rattle.laws_real_time.specs.Moments.{Moments, in_call}
use Rattle.laws_real_time.specs.Keeping.{moment_now, KeepsTime, IsPlacedCall}
use Rattle.laws_real_time.proofs.DeedLemmas.{in_call_own}
use Rattle.laws_real_time.proofs.KeepLemmas.{begun_counted, begins_keep, returns_keep, gives_up_keeps}
use Rattle.ist_rule.proofs.LaterLemmas.{between}
use Rattle.ist_rule.proofs.FrameLemmas.{Table}
use Rattle.ist_rule.proofs.SpeakLemmas.{heard_spoken, out_of_call, begun_as, spoken_begins, spoken_returns, spoken_gives_up}
use Rattle.ist_rule.proofs.UndecidedLemmas.{none_undecided}
use Rattle.ist_rule.proofs.CallLemmas.{between_later}
use Rattle.ist_rule.proofs.FitLemmas.{each_map, stands_on, well_made_on}
use Rattle.ist_rule.proofs.ViewPartLemmas.{fits_loads}
use Rattle.ist_rule.proofs.LookLemmas.{as_table, CanTurn}

-- a caller keeps its own calls
keeps_own : (number other : ℕ) (w : Who) → KeepsCalls number w → w ≡ Caller other → number ≡ other
keeps_own number other _ its_own e = cc
keeps_own number other _ noted e = absurd (cc)

-- what became of the changes of a caller, when it is between calls and begins one
begun : (pairs : List Pair) (words : ℕ) (log : Log) → Lawful pairs words log
    → (number : ℕ) (calls : List Call) (pending : Pending) → IsBetween pairs words log number calls
    → CallStands pairs words log number calls (Some pending)
begun pairs words log lawful number calls pending b = inl record {
  made = b.made;
  its_command = λ base u. absurd (none_undecided pairs words log lawful.enabled number
      b.resolved base u);
  one = λ base other u _. absurd (none_undecided pairs words log lawful.enabled number
      b.resolved base u);
}

-- what became of the changes of a caller whose call is over
ended : (k : About) (log : Log) (image : List ℕ) (v : View) → Lawful k.start.value.items k.words log
    → Fits k log image v → (number : ℕ) → v.who ≡ Caller number → (calls : List Call)
    → HasMade k.start.value.items k.words v.log number calls
    → AllResolvedOf (state_of v.start v.words v.log) v.log number
    → (n : ℕ) → v.who ≡ Caller n → IsBetween k.start.value.items k.words log n calls
ended k log image v lawful f number mine calls made resolved n is =
    grind (arith, between_later, as_table)

-- any seat may begin a search
pub can_search : (v : View) → CanTurn v (searching v)
can_search v = record {
  who = λ log. refl;
  given = λ log. refl;
  taken = λ log. refl;
  log_is = λ log. refl;
  moments = λ log. refl;
  fits = λ k log image lawful f. fits_loads k log image v
      record { since = length log; list = [] } (v.loaded + 1) (v.searches + 1) f tt tt
      (omega arith);
}

-- the moments with what the caller did now, the last first
abbrev pub with_deeds : List Pair → ℕ → Log → ℕ → List Deed → Moments → Moments
with_deeds pairs words log number deeds moments = map (moment_now pairs words log number) deeds ++ moments

-- what a step of a call shows of the calls, the loads and the call in progress that it leaves, and of
-- its moments
pub record TurnsCall (k : About) (log : Log) (v : View) (moments : Moments) (number : ℕ)
    (deeds : List Deed) (loads : Loads) (calls : List Call) (stamp : ℕ) (pending : Option Pending)
    : Type 0 where
  pub recalls : Each (Recalls k.start.value.items k.words log) loads.list
  pub in_order : NeverFall loads.since loads.list
  pub since : loads.since ≤ length log
  pub stands : (n : ℕ) → KeepsCalls n v.who → StandsInPrefix k.start.value.items k.words log n calls
  pub stamps : Each (λ call. call.stamp ≤ stamp) calls
  pub call : (n : ℕ) → v.who ≡ Caller n → CallStands k.start.value.items k.words log n calls pending
  pub keeps : KeepsTime k.start.value.items k.words log
      (with_deeds k.start.value.items k.words log number deeds moments)
  pub spoken : HasSpoken (with_deeds k.start.value.items k.words log number deeds moments) number
      calls pending

-- ---- the steps

-- a caller between calls may begin one
pub can_begin : (k : About) (s : Table) (r : Kept k s) (v : View) (number : ℕ)
    (command : Option Command)
    → v.who ≡ Caller number → v.pending ≡ None → Fits k r.log s.words v → IsHeard r.moments v
    → TurnsCall k r.log v r.moments number (Begins command ∷ []) v.loads v.calls v.stamp
    (Some record { command = command; length = length r.log })
can_begin k s r v number command who none f h =
    let m = well_made_on k.start.value.items k.words v r.log (goes_on_by f.later) f.well_made in
    let spoken = heard_spoken k.start.value.items r.moments v number who f.well_made.moments h in
    let free : HasSpoken r.moments number v.calls None =
    subst (HasSpoken r.moments number v.calls) none spoken in
    let between = subst (CallStands k.start.value.items k.words r.log number v.calls) none
    (f.is_true.call number who) in
    record {
      recalls = m.recalls;
      in_order = m.in_order;
      since = m.since;
      stands = λ n keeps. stands_on k.start.value.items k.words v.log r.log n v.calls
          (goes_on_by f.later) (f.well_made.stands n keeps);
      stamps = f.well_made.stamps;
      call = λ n is. begun k.start.value.items k.words r.log r.lawful n v.calls
          record { command = command; length = length r.log }
          (subst (CallStands k.start.value.items k.words r.log n v.calls) none
          (f.is_true.call n is));
      keeps = begins_keep k.start.value.items k.words r.log r.moments number command
          (out_of_call (in_call number r.moments) free.pending_is)
          (between.made ∙ ap (entries_made number) (sym free.calls_are)) r.timed.kept;
      spoken = spoken_begins k.start.value.items k.words r.log r.moments number v.calls command free;
    }

-- a caller between calls may read, and keep these loads
pub can_read : (k : About) (s : Table) (r : Kept k s) (v : View) (number : ℕ) (loads : Loads)
    → Each (Recalls k.start.value.items k.words r.log) loads.list
    → NeverFall loads.since loads.list → loads.since ≤ length r.log
    → v.who ≡ Caller number → v.pending ≡ None → Fits k r.log s.words v → IsHeard r.moments v
    → TurnsCall k r.log v r.moments number (GivesUp ∷ Begins None ∷ []) loads v.calls v.stamp None
can_read k s r v number loads recalls in_order since who none f h = let ps = k.start.value.items in
    let b = can_begin k s r v number None who none f h in
    let moment = moment_now ps k.words r.log number (Begins None) in record {
      recalls = recalls;
      in_order = in_order;
      since = since;
      stands = b.stands;
      stamps = b.stamps;
      call = λ n is. subst (CallStands ps k.words r.log n v.calls) none (f.is_true.call n is);
      keeps = gives_up_keeps ps k.words r.log (moment ∷ r.moments) number _
          (in_call_own number moment r.moments refl) b.keeps;
      spoken = spoken_gives_up ps k.words r.log (moment ∷ r.moments) number v.calls _ b.spoken;
    }

-- its loads may stay as they are
pub can_glance : (k : About) (s : Table) (r : Kept k s) (v : View) (number : ℕ)
    → v.who ≡ Caller number → v.pending ≡ None → Fits k r.log s.words v → IsHeard r.moments v
    → TurnsCall k r.log v r.moments number (GivesUp ∷ Begins None ∷ []) v.loads v.calls v.stamp None
can_glance k s r v number who none f h =
    let m = well_made_on k.start.value.items k.words v r.log (goes_on_by f.later) f.well_made in
    can_read k s r v number v.loads m.recalls m.in_order m.since who none f h

-- a prefix that is no shorter is the log itself
same_length : {a b : Log} → GoesOn a b → length a ≡ length b → a ≡ b
same_length same_log e = refl
same_length (one_event event l) e = let short = goes_on_length l in absurd (omega arith)

-- a prefix of a log is told by its length
same_prefix : (a b log : Log) → GoesOn a log → GoesOn b log → length a ≡ length b → a ≡ b
same_prefix a b log p q e = same_length (between p q (omega arith)) e

-- a caller's call may end
pub can_end : (k : About) (s : Table) (r : Kept k s) (v : View) (call : Call) (can : CanEnd v call)
    → Fits k r.log s.words v → IsHeard r.moments v
    → TurnsCall k r.log v r.moments can.number (Returns call ∷ []) v.loads (v.calls ++ call ∷ [])
    call.stamp None
can_end k s r v call can f h =
    let m = well_made_on k.start.value.items k.words v r.log (goes_on_by f.later) f.well_made in
    let ps = k.start.value.items in
    let spoken = heard_spoken ps r.moments v can.number can.mine f.well_made.moments h in
    let entered = begun_as (in_call can.number r.moments) can.pending
    (spoken.pending_is ∙ can.in_call) in
    let stand = as_table k r.log s.words v f
    (λ p n. StandsIn p n v.log can.number (v.calls ++ call ∷ [])) can.stand in
    let fresh = as_table k r.log s.words v f (λ p n. IsFresh p n can.seen v.stamp call) can.fresh in
    let next = can.stamp_is in
    let noted = begun_counted ps k.words r.log r.moments r.timed.kept.counted can.number entered.begun
    entered.in_it in
    let seen : noted.0 ≡ can.seen = same_prefix noted.0 can.seen r.log noted.1
    (goes_on_more can.goes_on (goes_on_by f.later))
    (sym noted.2 ∙ entered.length_is ∙ can.length_is) in
    let low : entered.begun.changes ≡ length (changes_of ps k.words can.seen) =
    noted.3 ∙ ap (λ l. length (changes_of ps k.words l)) seen in
    let from = fresh.position in
    let more = changes_on (start ps k.words) v.log r.log (goes_on_by f.later) in
    let last : Among call (v.calls ++ call ∷ []) =
    among_right call v.calls (call ∷ []) (inl refl) in
    let placed : IsPlacedCall (map_of ps) (changes_of ps k.words r.log) can.number call =
    subst (λ es. IsPlacedCall (map_of ps) es can.number call) (sym more.1)
    record {
      made = λ e. get_left (changes_of ps k.words v.log) more.0 call.position
          (entry_by can.number call) (stand.made call last e);
      read = λ e. read_on (map_of ps) (changes_of ps k.words v.log) more.0 call
          (stand.read call last e);
    } in
    record {
      recalls = m.recalls;
      in_order = m.in_order;
      since = m.since;
      stands = λ n keeps. subst (λ i. StandsInPrefix ps k.words r.log i (v.calls ++ call ∷ []))
          (sym (keeps_own n can.number v.who keeps can.mine))
          record { prefix = v.log; goes_on = goes_on_by f.later; stands = stand };
      stamps = each_append (λ c. c.stamp ≤ call.stamp) v.calls (call ∷ [])
          (each_map (λ c. c.stamp ≤ v.stamp) (λ c. c.stamp ≤ call.stamp) v.calls
          (λ c _ le. omega arith) f.well_made.stamps) (omega arith, tt);
      call = ended k r.log s.words v r.lawful f can.number can.mine (v.calls ++ call ∷ [])
          stand.exactly can.resolved;
      keeps = returns_keep ps k.words r.log r.moments can.number entered.begun call entered.in_it
          (entered.command ∙ can.command_is) (omega arith) placed r.timed.kept;
      spoken = spoken_returns ps k.words r.log r.moments can.number v.calls entered.begun call v.pending
          entered.in_it spoken;
    }

-- a caller's call may be given up
pub can_give_up : (k : About) (s : Table) (r : Kept k s) (v : View) (can : CanGiveUp v)
    → Fits k r.log s.words v → IsHeard r.moments v
    → TurnsCall k r.log v r.moments can.number (GivesUp ∷ []) v.loads v.calls v.stamp None
can_give_up k s r v can f h =
    let m = well_made_on k.start.value.items k.words v r.log (goes_on_by f.later) f.well_made in
    let ps = k.start.value.items in
    let spoken = heard_spoken ps r.moments v can.number can.mine f.well_made.moments h in
    let entered = begun_as (in_call can.number r.moments) can.pending
    (spoken.pending_is ∙ can.in_call) in
    record {
      recalls = m.recalls;
      in_order = m.in_order;
      since = m.since;
      stands = λ n keeps. stands_on ps k.words v.log r.log n v.calls (goes_on_by f.later)
          (f.well_made.stands n keeps);
      stamps = f.well_made.stamps;
      call = ended k r.log s.words v r.lawful f can.number can.mine v.calls
          (as_table k r.log s.words v f (λ p n. HasMade p n v.log can.number v.calls) can.none)
          can.resolved;
      keeps = gives_up_keeps ps k.words r.log r.moments can.number entered.begun entered.in_it r.timed.kept;
      spoken = spoken_gives_up ps k.words r.log r.moments can.number v.calls v.pending spoken;
    }
