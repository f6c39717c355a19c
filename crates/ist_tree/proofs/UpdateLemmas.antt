-- What a put or a remove results in for its pass, if it wasn't refused. Serves `update`.
use Rattle.std.proofs.Common.{◌≡◌, ◌≢◌, ℕ, ◌≤◌, List, [], ◌∷◌, ◌++◌, length, Option, Some, None, refl, sym, ap, ◌∙◌, subst, inl, inr, ⊎_elim, arith}
use Rattle.std.specs.Option.{option_or}
use Rattle.ist_core.specs.declared.calls.Call.{Call}
use Rattle.ist_core.specs.declared.commands.Command.{Command}
use Rattle.ist_core.specs.declared.events.Event.TheVariants.{Count}
use Rattle.ist_core.specs.declared.ports.Full.{Full}
use Rattle.ist_core.specs.declared.events.Who.TheVariants.{Caller as CallerOf}
use Rattle.ist_core.specs.LogTerms.{Among, state_of, Ever, GoesOn, Log, one_event, same_log, Snapshot, whose}
use Rattle.ist_core.specs.TreeTerms.{Chain, IsChild, WasOnChain, IsFresh}
use Rattle.ist_core.specs.WordTerms.{IsOpen, SlotHolds, in_anchor, in_row, start}
use Rattle.ist_core.proofs.AllLogLemmas.{grow_between, inner_there, ever_from}
use Rattle.ist_dcss.proofs.DecideLemmas.{closed_node_stays}
use Rattle.laws_histories.specs.Calls.{HasCalls}
use Rattle.laws_histories.proofs.WovenLemmas.{learnt_first}
use Rattle.laws_calls.proofs.ClosedLemmas.{others_count_nothing}
use Rattle.laws_stability.proofs.LaterLemmas.{ever_later}
use Rattle.ist_rule.specs.RuleTerms.{CanEnd, TokenFace, TurnedAt, beginning, ending, now, IsNode, is_anchor, is_inner}
use Rattle.ist_rule.specs.declared.view.View.{View}
use Rattle.ist_tree.specs.CallTerms.{ReturnsInTime, AddsCall, CameDue, HasCountedInCall, IsClosedAt, IsTopmostDue, LeavesNoneDue, kept_refusal, is_closed, none_came, was_refused, PassFace, face_as, pass_face, IsRowRefused}
use Rattle.ist_rule.proofs.LaterLemmas.{between, goes_on_length, goes_on_more}
use Rattle.ist_rows.specs.declared.callers.Caller.{Caller}
use Rattle.ist_updates.specs.declared.updates.Due.{Due}
use Rattle.ist_updates.specs.Counting.{CameToLimit, IsCounted}
use Rattle.ist_tree.specs.Working as working
use Rattle.ist_tree.proofs.HeardLemmas.{runs_at_once}
use Rattle.ist_tree.proofs.GoingLemmas.{has_its_calls}
use Rattle.ist_tree.proofs.RowAtLimitLemmas.{came_inside, came_within}
use Rattle.ist_tree.proofs.UpdateKeptLemmas.{counted_on}
use Rattle.ist_tree.proofs.FindingLemmas.{changes_rise}
use Rattle.ist_tree.proofs.RefusalLemmas.{row_was_refused}
use Rattle.ist_tree.proofs.FinishLemmas as way

module _ (who began new : Caller) (token : TokenFace) (command : Command)
    (it : way.IsUpdateCall who began new token command) (r q : Option Full) where
  -- the pass before the call
  abbrev before : PassFace
  before = pass_face who r

  -- the pass after the call
  abbrev following : PassFace
  following = face_as token new.number q

  -- the view before the call
  abbrev v : View
  v = who.token.view

  -- the view when the call has begun
  abbrev b : View
  b = began.token.view

  -- the view after the work
  abbrev w : View
  w = new.token.view

  -- the view after the call
  abbrev x : View
  x = token.view

  -- ---- what was counted

  -- what the work counted is counted in the call
  pub has_counted : IsCounted b.start b.words b.log w.log began.number command
      → HasCountedInCall before following command
  has_counted c =
      counted_on v.start v.words v.log b.log w.log x.log (way.v_to_b who began new token command it)
      (way.b_to_w who began new token command it) (way.w_to_x who began new token command it)
      (way.lawful_x who began new token command it) who.number command
      (subst (λ n. IsCounted v.start v.words b.log w.log n command) it.began_number
      (subst (λ pairs. IsCounted pairs v.words b.log w.log began.number command)
      (way.b_start who began new token command it)
      (subst (λ words. IsCounted b.start words b.log w.log began.number command)
      (way.b_words who began new token command it) c)))

  -- a row that reached its limit in the call did so in its work
  came_at_work : (row : ℕ) → CameToLimit v.start v.words v.log x.log who.number row
      → CameToLimit v.start v.words b.log w.log began.number row
  came_at_work row c =
      subst (λ n. CameToLimit v.start v.words b.log w.log n row) (sym it.began_number)
      (came_inside v.start v.words who.number (λ event. whose event ≢ CallerOf who.number)
      (λ event. whose event ≢ CallerOf who.number) (others_count_nothing who.number)
      (others_count_nothing who.number) v.log b.log w.log x.log
      (way.later_b who began new token command it) (way.b_to_w who began new token command it)
      (way.later_x who began new token command it) row c)

  -- and the other way round
  came_in_call : (row : ℕ) → CameToLimit v.start v.words b.log w.log began.number row
      → CameToLimit v.start v.words v.log x.log who.number row
  came_in_call row c = came_within v.start v.words who.number v.log b.log w.log x.log
      (way.v_to_b who began new token command it) (way.w_to_x who began new token command it) row
      (subst (λ n. CameToLimit v.start v.words b.log w.log n row) it.began_number c)

  -- ---- rows that aren't open

  -- a node that had a child, or was counted at, stays shut
  parent_is_node : (t : Snapshot) (parent index row : ℕ) → IsChild t parent index row
      → IsNode t parent
  parent_is_node t parent index row c = at c.holds
    where
      at : SlotHolds t parent index c.word → IsNode t parent
      at (in_anchor a e f) = is_anchor a
      at (in_row s e f) = is_inner s e

  stays_shut : (m : Log) → GoesOn m w.log → (node : ℕ) → IsNode (state_of v.start v.words m) node
      → ¬ (IsOpen (state_of v.start v.words w.log) node)
      → ¬ (IsOpen (state_of v.start v.words x.log) node)
  stays_shut m on node is =
      closed_node_stays v.start v.words w.log x.log (way.lawful_x who began new token command it)
      (way.w_to_x who began new token command it) node (later is)
    where
      later : IsNode (state_of v.start v.words m) node → IsNode (state_of v.start v.words w.log) node
      later (is_anchor e) = is_anchor e
      later (is_inner s e) =
          let k = inner_there (state_of v.start v.words m).pieces (state_of v.start v.words w.log).pieces
          (grow_between v.start v.words m w.log (way.lawful_w who began new token command it).enabled on)
          node s e in
          is_inner k.0 k.1

  -- the topmost row that reached its limit in the work did so in the call
  topmost : (row : ℕ) → CameToLimit v.start v.words b.log w.log began.number row
      → ((other : ℕ) → CameToLimit v.start v.words b.log w.log began.number other
      → WasOnChain (start v.start v.words) w.log other row)
      → IsTopmostDue before following row
  topmost row came top = record {
    came = came_in_call row came;
    above = λ other c.
        ever_later (start v.start v.words) (λ s. (rows : List ℕ) × Chain s other rows
        × Among row rows) (way.w_to_x who began new token command it)
        (top other (came_at_work other c));
  }

  -- the topmost row that reached its limit, or its parent, isn't open
  top_is_shut : (row : ℕ) → working.IsTopShut (record (beginning v (Some command) b.log it.begun.before) {
    log = b.log;
  }) w began.number row
      → LeavesNoneDue before following
  top_is_shut row t =
      let child = ever_from (start v.start v.words) (λ s. IsChild s t.parent t.index row) w.log
      t.was_child in
      is_closed row (topmost row t.came t.top)
      (in_view record {
        parent = t.parent;
        index = t.index;
        was_child = ever_later (start v.start v.words) (λ s. IsChild s t.parent t.index row)
            (way.w_to_x who began new token command it) t.was_child;
        closed = ⊎_elim
            (λ k. inl (stays_shut t.came.at
            (goes_on_more (one_event (Count began.number row) same_log) t.came.until) row
            (is_inner t.came.row t.came.published) k))
            (λ k. inr (stays_shut child.0 child.1 t.parent
            (parent_is_node (state_of v.start v.words child.0) t.parent t.index row child.2) k))
            t.shut;
      })
    where
      in_view : IsClosedAt (record following { tree = before.tree }) row → IsClosedAt following row
      in_view = grind arith

  -- if the work brought no row to its limit, the call didn't
  pub came_nowhere : ((row : ℕ) → ¬ (CameToLimit b.start b.words b.log w.log began.number row))
      → (row : ℕ) → ¬ (CameDue before following row)
  came_nowhere none row c = none row
      (subst (λ (y : View). CameToLimit y.start y.words b.log w.log began.number row)
      (sym it.begun.view) (came_at_work row c))

  -- the topmost row that reached its limit in the work, by the first view's table
  top_here : (row : ℕ) → working.IsTopCame b w began.number row
      → working.IsTopCame (record (beginning v (Some command) b.log it.begun.before) { log = b.log }) w began.number
      row
  top_here row t = grind arith

  -- its rebuild was refused in the call, if it was in the work
  pub row_refused : (words : ℕ) (full : Full) → words ≡ v.words → (due : Due)
      → working.IsTopCame b w began.number due.target
      → Ever (start b.start b.words) (λ s. IsChild s due.parent due.index due.target) w.log
      → working.IsDueRefused (now b) w due words full → IsRowRefused before following due.target full
  row_refused words full same due t child d =
      row_was_refused who began new token command it r q words full same due
      (subst (λ n. CameToLimit v.start v.words b.log w.log n due.target) it.began_number
      (top_here due.target t).came)
      (subst (λ (y : View). Ever (start y.start y.words)
      (λ s. IsChild s due.parent due.index due.target) w.log) it.begun.view child)
      d

  -- what became of the rows that reached their limits
  pub leaves_none_due : (words : ℕ) (met : Option Full) → words ≡ v.words → q ≡ option_or r met
      → working.LeavesShut b w began.number words met → LeavesNoneDue before following
  leaves_none_due words _ same is (working.none_came none) = none_came (came_nowhere none)
  leaves_none_due words _ same is (working.was_refused full due t child d) =
      was_refused due.target full
      (topmost due.target (top_here due.target t).came (top_here due.target t).top)
      (row_refused words full same due t child d) (is ∙ first r)
    where
      first : (o : Option Full) → option_or o (Some full) ≡ kept_refusal o full
      first None = refl
      first (Some f) = refl
  leaves_none_due words _ same is (working.is_shut row t) = top_is_shut row
      (subst (λ (y : View). working.IsTopShut (record y { log = b.log }) w began.number row)
      it.begun.view t)

  -- ---- the call that was answered

  -- it ended as this call, which may end
  module _ (call : Call) (c : CanEnd w call) (command_is : call.command ≡ command)
      (ended : TurnedAt w (ending w call) x) where
    x_calls : x.calls ≡ v.calls ++ call ∷ []
    x_calls = grind arith

    w_stamp : w.stamp ≡ v.stamp
    w_stamp = ap (λ (y : View). y.stamp) it.went.went.same ∙ ap (λ (y : View). y.stamp) it.begun.view

    x_stamp : x.stamp ≡ call.stamp
    x_stamp = ap (λ (y : View). y.stamp) ended.view

    -- the stamp doesn't fall
    pub stamp_up : v.stamp ≤ x.stamp
    stamp_up = let a = w_stamp in let e = x_stamp in let f = c.stamp_is in omega arith

    -- what had been seen when it began is no shorter than what the pass had seen
    seen_before : GoesOn v.log c.seen
    seen_before =
        between (goes_on_more (way.v_to_b who began new token command it)
        (way.b_to_w who began new token command it)) c.goes_on
        (let low = goes_on_length (way.v_to_b who began new token command it) in
        let same : c.pending.length ≡ length b.log = cc (sym pending_is ∙ c.in_call) in
        let long = c.length_is in
        omega arith)
      where
        pending_is : w.pending ≡ Some record { command = Some command; length = length b.log }
        pending_is = grind arith

    fresh : IsFresh v.start v.words v.log v.stamp call
    fresh = grind (arith, w_stamp, changes_rise, seen_before)

    -- it was made in real time
    pub in_time : ReturnsInTime before following command call.reply
    in_time = grind arith

    -- it is one call more of the pass
    pub adds_call : AddsCall before following command call.reply
    adds_call = record {
      call = call;
      command_is = command_is;
      reply_is = refl;
      stamp_is = sym x_stamp;
      calls_are = x_calls;
      timed = runs_at_once before following command call.reply
          (it.sound.well_made.moments.spoken who.number it.pass.caller.mine).calls_are in_time;
      added = record { has_calls = has_calls; fresh = fresh };
      learnt = λ other l h. learnt_first v.start v.words other.seen v.log other.number other.stamp
          v.stamp other.calls call
          (subst (λ t. HasCalls t.start t.words other.seen other.number other.stamp other.calls)
          l.tree h) l.seen l.stamp fresh;
    }
      where
        has_calls : HasCalls v.start v.words x.log who.number call.stamp (v.calls ++ call ∷ [])
        has_calls = grind (arith, x_stamp, x_calls, has_its_calls)
