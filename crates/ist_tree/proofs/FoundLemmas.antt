-- A find from its beginning to its end, in the words of its steps. Serves `find`.
use Rattle.std.proofs.Common.{◌≡◌, ℕ, ◌+◌, ◌≤◌, Option, Some, None, [], ◌∷◌, ◌++◌, refl, sym, ap, ap₂, ◌∙◌, subst, arith}
use Rattle.std.specs.List.{sum_by}
use Rattle.ist_core.specs.declared.calls.Call.{Call}
use Rattle.ist_core.specs.declared.commands.Command.TheVariants.{Get}
use Rattle.ist_core.specs.declared.ports.Full.{Full}
use Rattle.ist_core.specs.declared.events.Who.TheVariants.{Caller as CallerOf}
use Rattle.ist_core.specs.LogTerms.{Log, GoesOn, Lawful, state_of, Later}
use Rattle.ist_core.specs.TreeTerms.{IsFresh}
use Rattle.ist_core.proofs.AllLogLemmas.{grow_between}
use Rattle.laws_calls.specs.Walking.{IsChainOf}
use Rattle.laws_histories.specs.Calls.{HasCalls}
use Rattle.laws_histories.specs.Searching.{HasPosition, Searched}
use Rattle.laws_histories.proofs.ChangeLemmas.{end_on, position_on}
use Rattle.laws_histories.proofs.WovenLemmas.{learnt_first}
use Rattle.ist_rule.specs.RuleTerms.{TokenFace, IsSound, moment_seen, TurnedAt, beginning, ending, CanEnd}
use Rattle.ist_rule.specs.declared.view.View.{View}
use Rattle.ist_rule.specs.declared.view.Loads.{Loads}
use Rattle.laws_real_time.specs.declared.moments.Deed.TheVariants.{Begins, Returns}
use Rattle.laws_real_time.specs.Moments.{Moments}
use Rattle.ist_tree.specs.CallTerms.{ReturnsInTime, PassFace, HasStartedNone, HasSeenMore, AddsCall, row_loads, HasLoadedFew, face_as, pass_face, IsPass, IsPassWith}
use Rattle.ist_rule.proofs.LaterLemmas.{goes_on_length, later-goes_on, later_more}
use Rattle.ist_rows.specs.declared.callers.Caller.{Caller}
use Rattle.ist_find.specs.Searches.{HasSearched, HasFound, HasFewLoads}
use Rattle.ist_rule.proofs.SpeakLemmas.{go_on_more}
use Rattle.ist_tree.proofs.HeardLemmas.{heard_same, heard_turned, runs_at_once}
use Rattle.ist_tree.proofs.GoingLemmas.{between_calls, has_its_calls, IsLaterView, lawful_after, pass_with_later, starts_none_later}
use Rattle.ist_tree.proofs.LoadingLemmas.{chain_on, costs_rise}
use Rattle.ist_tree.proofs.PositionLemmas.{found_call}
use Rattle.ist_tree.proofs.FindingLemmas.{searched_view, get_call, its_fresh, may_end, found_is}

-- what a find results in, for a pass with this face
pub record FindEnds (old : PassFace) (who : Caller) (refused : Option Full) (token : TokenFace)
    (key : ℕ) (value : Option ℕ) : Type 0 where
  pub pass : IsPassWith (record who { token = token }) refused
  pub seen : HasSeenMore old (face_as token who.number refused)
  pub added : AddsCall old (face_as token who.number refused) (Get key) value
  pub timed : ReturnsInTime old (face_as token who.number refused) (Get key) value
  pub position : HasPosition old.tree.start old.tree.words old.seen token.view.log key value
  pub loads : HasLoadedFew old (face_as token who.number refused) key value
  pub others : Later (CallerOf old.number) old.seen token.view.log
  pub unstarted : HasStartedNone old (face_as token who.number refused)

-- the view after a find
abbrev pub ended_view : View → Log → Log → Call → Loads → ℕ → ℕ → Moments → View
ended_view v log last call loads loaded searches moments =
    record v {
      log = last;
      moments = moments;
      calls = v.calls ++ call ∷ [];
      stamp = v.stamp + 1;
      loads = loads;
      loaded = loaded;
      searches = searches;
      pending = None;
    }

-- the caller began a get and searched
module _ (who : Caller) (key : ℕ) (value : Option ℕ) (b w : View) (s : IsSound who.token.view)
    (p : IsPass who) (begun : TurnedAt who.token.view (beginning who.token.view (Some (Get key))) b)
    (seen : HasSearched b w) (has : HasPosition w.start w.words b.log w.log key value) where
  -- the view before the find
  abbrev v : View
  v = who.token.view

  -- what became of its view
  abbrev pub seen_moments : Moments
  seen_moments = moment_seen v b.log (Begins (Some (Get key))) ∷ begun.before

  pub w_is : w ≡ searched_view v key b.log w.log w.loads w.loaded w.searches seen_moments
  w_is = grind arith

  -- others made the events up to the beginning of the find
  pub before : Later (CallerOf who.number) v.log b.log
  before = subst (λ x. Later x v.log b.log) p.caller.mine begun.later

  b_who : b.who ≡ CallerOf who.number
  b_who = ap (λ (y : View). y.who) begun.view ∙ p.caller.mine

  -- others made the events during the search
  pub later : Later (CallerOf who.number) b.log w.log
  later = subst (λ x. Later x b.log w.log) b_who seen.later

  -- the log after the search is lawful
  pub lawful : Lawful v.start v.words w.log
  lawful = subst (λ (y : View). Lawful y.start y.words w.log) w_is seen.sound.lawful

  -- the key had the value at a position of the find
  pub its_position : HasPosition v.start v.words b.log w.log key value
  its_position = subst (λ (y : View). HasPosition y.start y.words b.log w.log key value) w_is has

  abbrev call : Call
  call = get_call v key b.log w.log value

  call_is : found_call w value ≡ call
  call_is = ap (λ (y : View). found_call y value) w_is
      ∙ found_is v who.number key s p.caller.mine p.in_none b.log w.log before later lawful value
      its_position w.loads w.loaded w.searches seen_moments

  -- it may end its call
  pub can_end : CanEnd w (found_call w value)
  can_end = grind (arith, found_call, w_is, may_end, before, later, lawful, its_position)

  fresh : IsFresh v.start v.words v.log v.stamp call
  fresh = grind (arith, its_fresh, before, later, lawful, its_position, later-goes_on)

  -- and ended it
  module _ (token : TokenFace) (refused : Option Full) (all : IsPassWith who refused)
      (ended : TurnedAt w (ending w (found_call w value)) token.view) where
    -- the view after the find
    abbrev x : View
    x = token.view

    x_is : x ≡ ended_view v w.log x.log call w.loads (w.loaded + 1) w.searches
        (moment_seen v x.log (Returns call) ∷ ended.before)
    x_is = ended.view ∙ ap₂ (λ (y : View) (c : Call). ending y c x.log ended.before) w_is call_is

    all_later : Later (CallerOf who.number) v.log x.log
    all_later = grind (arith, later_more)

    -- the view after the find is a later one
    pub later_view : IsLaterView v x
    later_view = grind (arith, x_is, all_later)

    -- it is a pass still
    pub ended_pass : IsPassWith (record who { token = token }) refused
    ended_pass =
        pass_with_later who token refused all later_view (ap (λ (y : View). y.pending) x_is)

    -- its call was made in real time
    pub in_time : ReturnsInTime (pass_face who refused) (face_as token who.number refused) (Get key) value
    in_time = grind (arith, x_is)

    -- which has seen more
    pub has_seen_more : HasSeenMore (pass_face who refused) (face_as token who.number refused)
    has_seen_more = record {
      tree = tree_same;
      number = refl;
      seen = later-goes_on all_later;
      heard = go_on_more v.moments b.moments x.moments
          (heard_turned begun _ (ap (λ (y : View). y.moments) begun.view))
          (go_on_more b.moments w.moments x.moments
          (heard_same (ap (λ (y : View). y.moments) seen.same))
          (heard_turned ended _ (ap (λ (y : View). y.moments) ended.view)));
      stamp = let up = ap (λ (y : View). y.stamp) x_is in omega arith;
    }
      where
        tree_same : (face_as token who.number refused).tree ≡ (pass_face who refused).tree
        tree_same = grind (arith, x_is)

    its_calls_now : HasCalls v.start v.words x.log who.number (v.stamp + 1) (v.calls ++ call ∷ [])
    its_calls_now = grind (arith, x_is, has_its_calls)

    -- and has one more call
    pub adds_call : AddsCall (pass_face who refused) (face_as token who.number refused) (Get key) value
    adds_call = record {
      call = call;
      command_is = refl;
      reply_is = refl;
      stamp_is = sym (ap (λ (y : View). y.stamp) x_is);
      calls_are = ap (λ (y : View). y.calls) x_is;
      timed = runs_at_once (pass_face who refused) (face_as token who.number refused) (Get key) value
          (s.well_made.moments.spoken who.number p.caller.mine).calls_are in_time;
      added = record { has_calls = its_calls_now; fresh = fresh };
      learnt = λ other l h. learnt_first v.start v.words other.seen v.log other.number other.stamp
          v.stamp other.calls call
          (subst (λ t. HasCalls t.start t.words other.seen other.number other.stamp other.calls)
          l.tree h) l.seen l.stamp fresh;
    }

    -- the reply is the map's at a position that is no lower than what the pass had seen
    pub has_position : HasPosition v.start v.words v.log x.log key value
    has_position = grind (arith, position_on, later-goes_on)

    longer : GoesOn w.log x.log
    longer = grind (arith, later-goes_on)

    -- and few loads were made
    pub has_loaded_few : (node index : ℕ) → HasFound w key node index value → HasFewLoads b w key node
        → HasLoadedFew (pass_face who refused) (face_as token who.number refused) key value
    has_loaded_few node index found few = let now_lawful = lawful_after v x later_view in
        let searched = subst (λ (y : View). Searched y.start y.words w.log key w.loads.since node value)
        w_is found.searched in
        let chain = subst (λ (y : View). IsChainOf y.start y.words w.log node few.rows) w_is few.chain
        in
        let cost = subst (λ (y : View). w.loaded ≤ b.loaded + 10
        + sum_by (row_loads (state_of y.start y.words w.log) key) few.rows) w_is few.few in
        let rise = costs_rise (state_of v.start v.words w.log) (state_of v.start v.words x.log)
        (grow_between v.start v.words w.log x.log now_lawful.enabled longer) key few.rows in
        let first = ap (λ (y : View). y.loaded) begun.view in
        let early = goes_on_length (later-goes_on before) in let late = seen.since in
        let more = seen.searches in let none = ap (λ (y : View). y.searches) begun.view in
        subst (λ (y : View). HasLoadedFew (pass_face who refused)
        (face_as record { view = y } who.number refused) key value) (sym x_is)
        record {
          once = omega (arith, more, none);
          began = w.loads.since;
          since = omega (arith, early, late);
          node = node;
          searched = end_on v.start v.words w.log x.log longer key w.loads.since node value searched;
          rows = few.rows;
          chain = chain_on v.start v.words w.log x.log now_lawful longer node few.rows chain;
          few = omega arith;
        }

    -- all of this together, for a pass with this face
    pub find_ends : (old : PassFace) → pass_face who refused ≡ old → (node index : ℕ)
        → HasFound w key node index value → HasFewLoads b w key node
        → FindEnds old who refused token key value
    find_ends old view node index found few =
        subst (λ (o : PassFace). FindEnds o who refused token key value) view
        record {
          pass = ended_pass;
          seen = has_seen_more;
          added = adds_call;
          timed = in_time;
          position = has_position;
          loads = has_loaded_few node index found few;
          others = all_later;
          unstarted = starts_none_later v x later_view who.number p.caller.mine
              (between_calls v who.number s p.caller.mine p.in_none).resolved;
        }
