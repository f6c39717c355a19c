-- The rebuilds that a pass started in a call: each was finished, or one was refused. Serves
-- `apply_in_call`, `run_rounds` and `freeze`.
use Rattle.std.proofs.Common.{◌≡◌, ℕ, Option, Some, None, refl, sym, ap, ◌∙◌, subst, inl, inr, ⊎_elim, ◌≤◌, ap₂, arith}
use Rattle.std.specs.Option.{option_or}
use Rattle.ist_core.specs.declared.ports.Full.{Full}
use Rattle.ist_core.specs.declared.commands.Command.{Command}
use Rattle.ist_core.specs.declared.events.Who.TheVariants.{Caller as CallerOf}
use Rattle.ist_core.specs.LogTerms.{state_of, Lawful, GoesOn, Later}
use Rattle.ist_rebuild.specs.Starting.{StartsNone, StartsDoneSince}
use Rattle.ist_tree.specs.CallTerms.{FinishesStarts, FinishesUpdate, HasDoneItsStarts, all_done, kept_refusal, was_short, PassFace, IsRowRefused, HasNoEffect, HasSeenMore, HasSettled, IsPass, face_as, pass_face, tree_of, KeepsDone, Works}
use Rattle.ist_tree.proofs.GoingLemmas.{since_none, keeps_all, since_later, starts_none_later, starts_none_more, IsLaterView, caller_on, lawful_after, between_calls, settled_later}
use Rattle.ist_core.specs.TreeTerms.{AllResolvedOf}
use Rattle.ist_core.proofs.AllLogLemmas.{enabled_before}
use Rattle.ist_core.specs.WordTerms.{start}
use Rattle.laws_calls.specs.Settling.{DueRowsAreClosed, StartsAreDone}
use Rattle.ist_rule.specs.RuleTerms.{IsResolved, TokenFace, SearchedOn, TurnedAt, beginning, now, IsSound, MomentsGoOn}
use Rattle.ist_rule.specs.declared.view.View.{View}
use Rattle.ist_rule.proofs.LaterLemmas.{goes_on_more, later-goes_on}
use Rattle.ist_rule.proofs.SpeakLemmas.{go_on_more}
use Rattle.ist_rule.proofs.WentOnLemmas.{later_by-goes_on}
use Rattle.ist_rows.specs.RowTerms.{HasRefused, IsCaller}
use Rattle.ist_rows.specs.declared.callers.Caller.{Caller}
use Rattle.ist_tree.proofs.UpdateKeptLemmas.{begun_view}
use Rattle.ist_tree.proofs.HeardLemmas.{heard_same, heard_turned}

-- what a call keeps that met this refusal is the first of both
pub first_kept : (o : Option Full) (full : Full) → option_or o (Some full) ≡ kept_refusal o full
first_kept None full = refl
first_kept (Some first) full = refl

-- a call that met no refusal has finished its starts, and one that met a refusal keeps it
pub finishes : (IsMet : Full → Type 0) (p q : PassFace) (met : Option Full)
    → q.refused ≡ option_or p.refused met → (met ≡ None → HasDoneItsStarts p q)
    → ((full : Full) → met ≡ Some full → IsMet full) → FinishesStarts IsMet p q
finishes IsMet p q None is done cause = all_done (done refl)
finishes IsMet p q (Some full) is done cause =
    was_short full (cause full refl) (is ∙ first_kept p.refused full)

-- a call without effect has nothing to finish
pub idle_finishes : (p q : PassFace) → HasNoEffect p q → FinishesUpdate p q
idle_finishes p q i = grind (arith, since_none)

-- what a call finished after another without effect was finished since the beginning of that
pub finish_from : (p m q : PassFace) → HasNoEffect p m → q.number ≡ m.number
    → ((row : ℕ) (full : Full) → IsRowRefused m q row full → IsRowRefused p q row full)
    → FinishesUpdate m q → FinishesUpdate p q
finish_from p m q i number refused (all_done d) =
    all_done (λ base change e own kind said rebuild to.
    ⊎_elim (λ was. inl (i.unstarted base change was (own ∙ number ∙ i.seen.number) kind said))
    (λ k. inr k) (d base change e own kind said rebuild to))
finish_from p m q i number refused (was_short full row kept) =
    was_short full (row.0, refused row.0 full row.1)
    (kept ∙ ap (λ o. kept_refusal o full) i.refused)

-- ---- the way of a pass through the call of a put or a remove: what it has seen, and what of its own is
-- settled then. Serves `update`.

-- a pass began its call, worked, and ended it or gave it up
pub record IsUpdateCall (who began new : Caller) (token : TokenFace) (command : Command) : Type 0 where
  pub sound : IsSound who.token.view
  pub pass : IsPass who
  pub begun : TurnedAt who.token.view (beginning who.token.view (Some command)) began.token.view
  pub began_number : began.number ≡ who.number
  pub went : SearchedOn Works began.token.view new.token.view
  pub number : new.number ≡ began.number
  pub caller : IsCaller new
  pub refused : HasRefused new
  pub last : IsLaterView new.token.view token.view
  pub heard : MomentsGoOn new.token.view.moments token.view.moments
  pub none : token.view.pending ≡ None
  pub table : token.view.table ≡ new.token.view.table

module _ (who began new : Caller) (token : TokenFace) (command : Command)
    (way : IsUpdateCall who began new token command) where
  -- the view before the call
  abbrev v : View
  v = who.token.view

  -- the view when the call has begun
  abbrev b : View
  b = began.token.view

  -- the view after the work
  abbrev w : View
  w = new.token.view

  -- the view after the call
  abbrev x : View
  x = token.view

  -- the caller keeps its number
  pub number_is : new.number ≡ who.number
  number_is = way.number ∙ way.began_number

  -- the begun view is later than the first
  pub b_view : IsLaterView v b
  b_view = begun_view who began.token command way.sound way.pass way.begun

  -- the start pairs are the same when the call has begun
  pub b_start : b.start ≡ v.start
  b_start = ap (λ (y : View). y.start) way.begun.view

  -- the number of words is the same when the call has begun
  pub b_words : b.words ≡ v.words
  b_words = ap (λ (y : View). y.words) way.begun.view

  -- the start pairs are the same after the work
  pub w_start : w.start ≡ v.start
  w_start = ap (λ (y : View). y.start) way.went.went.same ∙ b_start

  -- the number of words is the same after the work
  pub w_words : w.words ≡ v.words
  w_words = ap (λ (y : View). y.words) way.went.went.same ∙ b_words

  -- the start pairs are the same after the call
  pub x_start : x.start ≡ v.start
  x_start = way.last.start_is ∙ w_start

  -- the number of words is the same after the call
  pub x_words : x.words ≡ v.words
  x_words = way.last.words_is ∙ w_words

  -- it is the view of one table
  x_table : x.table ≡ v.table
  x_table = grind arith

  -- the log goes on while the call begins
  pub v_to_b : GoesOn v.log b.log
  v_to_b = later-goes_on b_view.later

  -- the log goes on during the work
  pub b_to_w : GoesOn b.log w.log
  b_to_w = later_by-goes_on way.went.went.later

  -- the log goes on while the call ends
  pub w_to_x : GoesOn w.log x.log
  w_to_x = later-goes_on way.last.later

  -- the log goes on during the whole call
  pub v_to_x : GoesOn v.log x.log
  v_to_x = goes_on_more (goes_on_more v_to_b b_to_w) w_to_x

  -- the log after the call is lawful
  pub lawful_x : Lawful v.start v.words x.log
  lawful_x = grind (arith, x_start, x_words)

  -- the log after the work is lawful
  pub lawful_w : Lawful v.start v.words w.log
  lawful_w = grind (arith, enabled_before, w_to_x)

  -- the view is still the caller's after the work
  pub w_mine : w.who ≡ CallerOf who.number
  w_mine = way.caller.mine ∙ ap CallerOf number_is

  -- others made the events while the call began
  pub later_b : Later (CallerOf who.number) v.log b.log
  later_b = subst (λ a. Later a v.log b.log) way.pass.caller.mine b_view.later

  -- others made the events while the call ended
  pub later_x : Later (CallerOf who.number) w.log x.log
  later_x = subst (λ a. Later a w.log x.log) w_mine way.last.later

  -- it has heard more
  v_to_x_heard : MomentsGoOn v.moments x.moments
  v_to_x_heard = go_on_more v.moments b.moments x.moments
      (heard_turned way.begun _ (ap (λ (y : View). y.moments) way.begun.view))
      (go_on_more b.moments w.moments x.moments
      (heard_same (ap (λ (y : View). y.moments) way.went.went.same)) way.heard)

  -- it is a pass in no call again
  pub final_pass : IsPass (record new { token = token })
  final_pass = let it = caller_on new token way.caller way.refused way.last in
      record { caller = it.caller; refused = it.refused; in_none = way.none }

  -- of its tree
  pub same_tree : tree_of token ≡ tree_of who.token
  same_tree = grind (arith, x_table, x_words, x_start)

  -- which has seen more
  pub seen_more : (r q : Option Full) → v.stamp ≤ x.stamp
      → HasSeenMore (pass_face who r) (face_as token new.number q)
  seen_more r q up = grind (arith, same_tree, number_is, v_to_x, v_to_x_heard)

  -- if the work started no rebuild, none was started in the call
  pub none_started : IsResolved w new.number → StartsNone (now b) (now w) began.number
      → StartsNone (now v) (now x) who.number
  none_started resolved none = starts_none_more (now v) (now b) (now x) who.number
      (starts_none_later v b b_view who.number way.pass.caller.mine
      (between_calls v who.number way.sound way.pass.caller.mine way.pass.in_none).resolved)
      (starts_none_more (now b) (now w) (now x) who.number
      (subst (StartsNone (now b) (now w)) way.began_number none)
      (subst (StartsNone (now w) (now x)) number_is
      (starts_none_later w x way.last new.number way.caller.mine resolved)))

  -- each rebuild that it started in the call is done, if the work kept its starts done
  pub started_since : IsResolved w new.number → KeepsDone began new
      → StartsDoneSince (now v) (now x) new.number
  started_since resolved keeps =
      let at_b = since_none (now v) (now b) who.number
      (starts_none_later v b b_view who.number way.pass.caller.mine
      (between_calls v who.number way.sound way.pass.caller.mine way.pass.in_none).resolved) in
      let at_w = keeps (now v)
      (subst (StartsDoneSince (now v) (now b)) (sym way.began_number) at_b) in
      since_later w x way.last new.number way.caller.mine resolved (now v)
      (subst (StartsDoneSince (now v) (now w)) (sym way.number) at_w)

  -- what it had settled is settled, if the work kept it so
  pub settled_then : IsResolved w new.number → KeepsDone began new
      → (DueRowsAreClosed (start b.start b.words) b.log began.number
      → DueRowsAreClosed (start b.start b.words) w.log began.number)
      → HasSettled v.start v.words v.log who.number → HasSettled x.start x.words x.log new.number
  settled_then resolved starts due old =
      let at_b = settled_later v.start v.words v.log b.log (lawful_after v b b_view) who.number
      later_b old in
      let of_b = subst (λ (y : View). HasSettled y.start y.words b.log who.number) (sym way.begun.view)
      at_b in
      let its_b = subst (HasSettled b.start b.words b.log) (sym way.began_number) of_b in
      let at_w : HasSettled v.start v.words w.log who.number =
      record {
        resolved = subst (λ n. AllResolvedOf (state_of v.start v.words w.log) w.log n) number_is
            (subst (λ t. AllResolvedOf t w.log new.number) now_w resolved);
        starts = subst (StartsAreDone (state_of v.start v.words w.log)) way.began_number
            (subst (λ t. StartsAreDone t began.number) now_w (keeps_all began new starts its_b.starts));
        due = subst (DueRowsAreClosed (start v.start v.words) w.log) way.began_number
            (subst (λ pairs. DueRowsAreClosed (start pairs v.words) w.log began.number) b_start
            (subst (λ words. DueRowsAreClosed (start b.start words) w.log began.number) b_words
            (due its_b.due)));
      } in
      let at_x = settled_later v.start v.words w.log x.log lawful_x who.number later_x at_w in
      subst (HasSettled x.start x.words x.log) (sym number_is)
      (subst (λ pairs. HasSettled pairs x.words x.log who.number) (sym x_start)
      (subst (λ words. HasSettled v.start words x.log who.number) (sym x_words) at_x))
    where
      now_w : now w ≡ state_of v.start v.words w.log
      now_w = ap₂ (λ pairs words. state_of pairs words w.log) w_start w_words
