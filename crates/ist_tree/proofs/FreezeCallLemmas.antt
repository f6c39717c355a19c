-- A freeze from the beginning of its call to its end, and the pass after it. Serves `begin` and
-- `freeze`.
use Rattle.std.proofs.Common.{◌≡◌, ℕ, List, length, Option, None, sym, ap, ◌∙◌, subst, arith}
use Rattle.ist_core.specs.declared.pairs.Pair.{Pair}
use Rattle.ist_core.specs.declared.ports.Full.{Full}
use Rattle.ist_core.specs.TreeTerms.{AllResolvedOf}
use Rattle.ist_core.specs.LogTerms.{Lawful, state_of, GoesOn, Log, Later}
use Rattle.ist_core.specs.WordTerms.{start}
use Rattle.ist_rule.specs.RuleTerms.{IsResolved, TokenFace, TurnedAt, beginning, giving_up, moment_seen, IsSound, IsBetween, MomentsGoOn, number_of}
use Rattle.ist_rule.specs.declared.view.View.{View}
use Rattle.ist_rule.proofs.LaterLemmas.{goes_on_more, later-goes_on}
use Rattle.ist_rule.proofs.WentOnLemmas.{later_by-goes_on}
use Rattle.ist_rows.specs.RowTerms.{IsReady, StaysReady}
use Rattle.ist_rows.specs.declared.callers.Caller.{Caller}
use Rattle.laws_calls.specs.Settling.{DueRowsAreClosed}
use Rattle.ist_tree.specs.CallTerms.{HasSeenMore, HasSettled, IsPass, IsPassWith, face_as, pass_face, KeepsDone, Rebuilds, StepsIn}
use Rattle.ist_tree.proofs.GoingLemmas.{between_after, IsLaterView, caller_on, lawful_after, settled_later, keeps_all}
use Rattle.ist_tree.proofs.EventLemmas.{rebuilds_count_none}
use Rattle.laws_real_time.specs.declared.moments.Deed.TheVariants.{Begins}
use Rattle.laws_real_time.specs.Moments.{Moments}
use Rattle.ist_rule.proofs.SpeakLemmas.{go_on_more, later_goes_on}
use Rattle.ist_tree.proofs.HeardLemmas.{heard_same, heard_turned}
use Rattle.ist_tree.proofs.FurtherLemmas.{due_went}

-- ---- the beginning

-- the view that has begun a call without a command, as if it had begun this many searches before
abbrev pub beginning_as : View → ℕ → Log → Moments → View
beginning_as v n = beginning (record v { searches = n }) None

module _ (who : Caller) (token : TokenFace) (s : IsSound who.token.view) (p : IsPass who)
    (n : ℕ) (begun : TurnedAt who.token.view (beginning_as who.token.view n) token.view) where
  begun_view : IsLaterView who.token.view token.view
  begun_view = grind arith

  begun_between : IsBetween who.token.view.start who.token.view.words token.view.log who.number
      who.token.view.calls
  begun_between = grind (arith, between_after, lawful_after, begun_view)

  -- the caller has all its changes resolved
  pub begun_ready : IsReady (record who { token = token })
  begun_ready = let it = caller_on who token p.caller p.refused begun_view in record {
    caller = it.caller;
    refused = it.refused;
    quiet = record {
      pending = record { command = None; length = length token.view.log };
      in_call = ap (λ (y : View). y.pending) begun.view;
      resolved =
          subst (λ (y : View). AllResolvedOf (state_of y.start y.words token.view.log) token.view.log
          who.number) (sym begun.view) begun_between.resolved;
    };
  }

-- ---- the way of a freeze

-- the pass began a call, worked in it by steps of rebuilding, and gave it up. It is told as if all the
-- searches of the call had been begun before it
pub record IsFreezeCall (who began new : Caller) (token : TokenFace) : Type 0 where
  pub sound : IsSound who.token.view
  pub pass : IsPass who
  pub began_number : began.number ≡ who.number
  pub n : ℕ
  pub begun : TurnedAt who.token.view (beginning_as who.token.view n) began.token.view
  pub ready : IsReady began
  pub on : StaysReady Rebuilds began new
  pub given : TurnedAt new.token.view (giving_up new.token.view) token.view

module _ (who began new : Caller) (token : TokenFace) (it : IsFreezeCall who began new token) where
  -- the view before the call
  abbrev v : View
  v = who.token.view

  -- the view when the call has begun
  abbrev b : View
  b = began.token.view

  -- the view after the work
  abbrev w : View
  w = new.token.view

  -- the view after the call
  abbrev x : View
  x = token.view

  -- the begun view is later than the first
  pub b_view : IsLaterView v b
  b_view = begun_view who began.token it.sound it.pass it.n it.begun

  -- the last view is later than the view after the work
  pub x_view : IsLaterView w x
  x_view = grind arith

  -- the start pairs are the same after the work
  pub w_start : w.start ≡ v.start
  w_start = ap (λ (y : View). y.start) it.on.gone.went.same ∙ b_view.start_is

  -- the number of words is the same after the work
  pub w_words : w.words ≡ v.words
  w_words = ap (λ (y : View). y.words) it.on.gone.went.same ∙ b_view.words_is

  -- the start pairs are the same after the call
  pub x_start : x.start ≡ v.start
  x_start = x_view.start_is ∙ w_start

  -- the number of words is the same after the call
  pub x_words : x.words ≡ v.words
  x_words = x_view.words_is ∙ w_words

  -- it is the view of one table
  x_table : x.table ≡ v.table
  x_table = grind arith

  -- the log goes on while the call begins
  pub v_to_b : GoesOn v.log b.log
  v_to_b = later-goes_on it.begun.later

  -- the log goes on during the work
  pub b_to_w : GoesOn b.log w.log
  b_to_w = later_by-goes_on it.on.gone.went.later

  -- the log goes on while the call ends
  pub w_to_x : GoesOn w.log x.log
  w_to_x = later-goes_on it.given.later

  -- what is true by the last view's table is true by the first's
  by_first : (Q : List Pair → ℕ → Type 0) → Q x.start x.words → Q v.start v.words
  by_first Q h = subst (λ pairs. Q pairs v.words) x_start (subst (λ words. Q x.start words) x_words h)

  -- what is true by the table after the work is true by the first view's table
  pub by_middle : (Q : List Pair → ℕ → Type 0) → Q w.start w.words → Q v.start v.words
  by_middle Q h = subst (λ pairs. Q pairs v.words) w_start (subst (λ words. Q w.start words) w_words h)

  -- the log after the work is lawful
  pub lawful_w : Lawful v.start v.words w.log
  lawful_w = by_middle (λ pairs words. Lawful pairs words w.log) it.on.gone.went.sound.lawful

  -- the log after the call is lawful
  pub lawful_x : Lawful v.start v.words x.log
  lawful_x = by_first (λ pairs words. Lawful pairs words x.log) it.given.sound.lawful

  -- the caller keeps its number
  pub number_is : new.number ≡ who.number
  number_is = it.on.gone.number ∙ it.began_number

  -- ---- the pass after it

  -- the caller is a pass again
  pub ended_pass : IsPass (record new { token = token })
  ended_pass = let c = caller_on new token it.on.gone.caller it.on.gone.refused x_view in record {
    caller = c.caller;
    refused = c.refused;
    in_none = ap (λ (y : View). y.pending) it.given.view;
  }

  -- if its starts are done, all that was settled is still settled
  settled_w : KeepsDone began new → HasSettled v.start v.words v.log who.number
      → HasSettled w.start w.words w.log new.number
  settled_w done h = let mine_v = it.pass.caller.mine in
      let first = settled_later v.start v.words v.log b.log (lawful_after v b b_view) who.number
      (subst (λ y. Later y v.log b.log) mine_v it.begun.later) h in
      let at_b : HasSettled b.start b.words b.log began.number =
      subst (λ n. HasSettled b.start b.words b.log n) (sym it.began_number)
      (subst (λ pairs. HasSettled pairs b.words b.log who.number) (sym b_view.start_is)
      (subst (λ words. HasSettled v.start words b.log who.number) (sym b_view.words_is) first)) in
      subst (λ n. HasSettled w.start w.words w.log n) (sym it.on.gone.number)
      record {
        resolved = subst (IsResolved w) it.on.gone.number it.on.quiet.resolved;
        starts = keeps_all began new done at_b.starts;
        due = subst (λ (y : View). DueRowsAreClosed (start y.start y.words) w.log began.number)
            (sym it.on.gone.went.same)
            (due_went Rebuilds began.number b w it.ready.caller.mine it.on.gone.went
            (rebuilds_count_none began.number) at_b.due);
      }

  -- the caller is a pass again, and all of its own is settled if no rebuild was refused
  pub ended_pass_with : (r q : Option Full) → IsPassWith who r → (q ≡ None → r ≡ None)
      → (q ≡ None → KeepsDone began new) → IsPassWith (record new { token = token }) q
  ended_pass_with r q all old done = record {
    pass = ended_pass;
    settled = λ unrefused.
        subst (λ pairs. HasSettled pairs x.words x.log new.number) (sym x_view.start_is)
        (subst (λ words. HasSettled w.start words x.log new.number) (sym x_view.words_is)
        (settled_later w.start w.words w.log x.log (lawful_after w x x_view) new.number
        (subst (λ y. Later y w.log x.log) it.on.gone.caller.mine it.given.later)
        (settled_w (done unrefused) (all.settled (old unrefused)))));
  }

  -- it has seen more
  pub has_seen_more : (r q : Option Full)
      → HasSeenMore (pass_face who r) (face_as token new.number q)
  has_seen_more r q =
      let stamps = ap (λ (y : View). y.stamp) it.given.view
      ∙ ap (λ (y : View). y.stamp) it.on.gone.went.same
      ∙ ap (λ (y : View). y.stamp) it.begun.view in
      record {
        tree = trees;
        number = number_is;
        seen = goes_on_more v_to_b (goes_on_more b_to_w w_to_x);
        heard = go_on_more v.moments b.moments x.moments
            (heard_turned it.begun _ (ap (λ (y : View). y.moments) it.begun.view))
            (go_on_more b.moments w.moments x.moments
            (heard_same (ap (λ (y : View). y.moments) it.on.gone.went.same))
            (heard_turned it.given _ (ap (λ (y : View). y.moments) it.given.view)));
        stamp = omega arith;
      }
    where
      trees : (face_as token new.number q).tree ≡ (pass_face who r).tree
      trees = grind (arith, x_table, x_start, x_words)

  -- since the step at which its call began
  pub begin_step : (r q : Option Full) → StepsIn (pass_face who r) (face_as token new.number q) b.log
  begin_step r q = record {
    before = it.begun.before;
    since = later_goes_on it.begun.since;
    step = moment_seen v b.log (Begins None);
    step_by = ap number_of it.pass.caller.mine;
    heard = subst (λ ms. MomentsGoOn ms x.moments) (ap (λ (y : View). y.moments) it.begun.view)
        (go_on_more b.moments w.moments x.moments
        (heard_same (ap (λ (y : View). y.moments) it.on.gone.went.same))
        (heard_turned it.given _ (ap (λ (y : View). y.moments) it.given.view)));
    seen = v_to_b;
    until = goes_on_more b_to_w w_to_x;
    placed = it.begun.placed;
  }

  -- with the same calls
  pub calls_are : x.calls ≡ v.calls
  calls_are = grind arith
