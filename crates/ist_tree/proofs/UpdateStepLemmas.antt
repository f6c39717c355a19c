-- A put or a remove from its beginning to its end, in the words of its steps. Serves `update`.
use Rattle.std.proofs.Common.{◌≡◌, ℕ, true, length, Option, Some, None, refl, sym, ap, ◌∙◌, subst, arith}
use Rattle.std.specs.Option.{option_or}
use Rattle.ist_core.specs.declared.calls.Call.{Call}
use Rattle.ist_core.specs.declared.commands.Command.{Command}
use Rattle.ist_core.specs.declared.ports.Full.{Full}
use Rattle.ist_core.specs.declared.events.Who.TheVariants.{Caller as CallerOf}
use Rattle.ist_core.specs.LogTerms.{Log}
use Rattle.ist_core.specs.TreeTerms.{makes_entry}
use Rattle.laws_histories.specs.Calls.{HasCalls}
use Rattle.laws_histories.specs.Loads.{log_at}
use Rattle.laws_histories.proofs.ChangeLemmas.{at_prefix}
use Rattle.ist_rule.specs.RuleTerms.{CanEnd, TokenFace, SearchedOn, TurnedAt, beginning, ending, IsSound}
use Rattle.ist_rule.specs.declared.view.Pending.{Pending}
use Rattle.ist_rule.specs.declared.view.View.{View}
use Rattle.ist_rule.proofs.WentOnLemmas.{later_by-goes_on}
use Rattle.ist_rows.specs.declared.callers.Caller.{Caller}
use Rattle.ist_updates.specs.Asking.{MayEnd}
use Rattle.ist_tree.specs.CallTerms.{AddsCall, HasSeenMore, FinishesUpdate, HasCountedInCall, LeavesNoneDue, StartsOnlyDue, PassFace, IsPass, IsPassWith, face_as, pass_face, IsRowRefused, KeepsRowRefusal, CarriesOut, Works, StartsDue, ReturnsInTime}
use Rattle.ist_tree.specs.Working as working
use Rattle.ist_tree.proofs.InstallLemmas.{way_starts}
use Rattle.ist_tree.proofs.UpdateKeptLemmas.{begun_calls}
use Rattle.ist_tree.proofs.EndingLemmas.{can_end_so, ended_call, ending_in}
use Rattle.ist_tree.proofs.HeardLemmas.{heard_turned}
use Rattle.ist_tree.proofs.RefusalLemmas.{keeps_first}
use Rattle.ist_tree.proofs.UpdateLemmas.{adds_call, in_time, has_counted, leaves_none_due, row_refused, stamp_up}
use Rattle.ist_tree.proofs.FinishLemmas.{finishes, IsUpdateCall, final_pass, seen_more, settled_then, started_since}

-- ---- the call that ends

-- the reply of the call that is picked is the one that it is picked for
ending_reply : (v : View) (p : Option Pending) (reply : Option ℕ)
    → reply ≡ (ending_in v p reply).reply
ending_reply v None reply = refl
ending_reply v (Some pending) reply = refl

-- the command of a call that may end is that in progress
its_command : (w : View) (call : Call) (command : Command) (n : ℕ) → CanEnd w call
    → w.pending ≡ Some record { command = Some command; length = n } → call.command ≡ command
its_command w call command n c is = cc (sym is ∙ c.in_call, c.command_is)

-- a pass began its call, and its work is done
module _ (who began new : Caller) (command : Command) (s : IsSound who.token.view) (p : IsPass who)
    (begun : TurnedAt who.token.view (beginning who.token.view (Some command)) began.token.view)
    (began_number : began.number ≡ who.number)
    (went : SearchedOn Works began.token.view new.token.view) (number : new.number ≡ began.number) where
  pending_is : new.token.view.pending
      ≡ Some record { command = Some command; length = length began.token.view.log }
  pending_is = ap (λ (y : View). y.pending) went.went.same ∙ ap (λ (y : View). y.pending) begun.view

  -- its calls are placed in what it had seen when it began
  had : (call : Call) (c : CanEnd new.token.view call) → new.token.view.who ≡ CallerOf who.number
      → HasCalls new.token.view.start new.token.view.words c.seen c.number new.token.view.stamp
      new.token.view.calls
  had call c mine = let b = began.token.view in let w = new.token.view in
      let old = begun_calls who began.token command s p begun in
      let same_seen = seen_is w.log c.seen b.log (at_prefix c.seen w.log c.goes_on)
      (at_prefix b.log w.log (later_by-goes_on went.went.later)) (lengths c.pending (sym pending_is
      ∙ c.in_call) c.length_is) in
      subst (λ n. HasCalls w.start w.words c.seen n w.stamp w.calls) (cc (sym mine ∙ c.mine))
      (subst (λ (l : Log). HasCalls w.start w.words l who.number w.stamp w.calls) (sym same_seen)
      (subst (λ (y : View). HasCalls y.start y.words b.log who.number y.stamp y.calls)
      (sym went.went.same) old))
    where
      lengths : (q : Pending)
          → Some record { command = Some command; length = length began.token.view.log } ≡ Some q
          → {n : ℕ} → q.length ≡ n → n ≡ length began.token.view.log
      lengths q e f = cc

      seen_is : (l seen b : Log) → log_at l (length seen) ≡ seen → log_at l (length b) ≡ b
          → length seen ≡ length b → seen ≡ b
      seen_is l seen b e f same = sym e ∙ ap (log_at l) same ∙ f

  -- so the call that is picked may end
  pub picked_ends : new.token.view.who ≡ CallerOf new.number → (reply : Option ℕ)
      → MayEnd new command reply → CanEnd new.token.view (ended_call new.token.view reply)
      × (reply ≡ (ended_call new.token.view reply).reply)
  picked_ends mine reply m = (
    subst (λ r. CanEnd new.token.view (ended_call new.token.view r)) m.reply_is
        (can_end_so new.token.view m.call m.can
        (had m.call m.can (mine ∙ ap CallerOf (number ∙ began_number)))),
    ending_reply new.token.view new.token.view.pending reply,
  )

-- ---- the call was answered

-- what a put or a remove results in, for a pass with this face
pub record UpdateEnds (old : PassFace) (new : Caller) (token : TokenFace) (q : Option Full)
    (command : Command) (reply : Option ℕ) : Type 0 where
  pub pass : IsPassWith (record new { token = token }) q
  pub seen : HasSeenMore old (face_as token new.number q)
  pub added : AddsCall old (face_as token new.number q) command reply
  pub timed : ReturnsInTime old (face_as token new.number q) command reply
  -- a command that took effect is counted at each row on the chain of its change
  pub counted : makes_entry command reply ≡ true
      → HasCountedInCall old (face_as token new.number q) command
  pub due : LeavesNoneDue old (face_as token new.number q)
  pub refused : KeepsRowRefusal old (face_as token new.number q)
  pub finished : FinishesUpdate old (face_as token new.number q)

-- if no refusal is kept, none was met
none_kept : (r met : Option Full) → option_or r met ≡ None → (r ≡ None) × (met ≡ None)
none_kept None met e = (refl, e)
none_kept (Some full) met e = absurd (cc)

module _ (who began new : Caller) (token : TokenFace) (command : Command) (s : IsSound who.token.view)
    (r : Option Full) (p : IsPassWith who r)
    (begun : TurnedAt who.token.view (beginning who.token.view (Some command)) began.token.view)
    (began_number : began.number ≡ who.number) (words : ℕ)
    (same_words : words ≡ who.token.view.words) where
  module _ (reply : Option ℕ) (met : Option Full) (c : CarriesOut began new words command reply met)
      (ended : TurnedAt new.token.view (ending new.token.view (ended_call new.token.view reply)) token.view)
      (q : Option Full) (kept : q ≡ option_or r met) where
    it : IsUpdateCall who began new token command
    it = record {
      sound = s;
      pass = p.pass;
      begun = begun;
      began_number = began_number;
      went = c.went;
      number = c.number;
      caller = c.ready.caller;
      refused = c.ready.refused;
      last = record {
        who_is = ap (λ (y : View). y.who) ended.view;
        start_is = ap (λ (y : View). y.start) ended.view;
        words_is = ap (λ (y : View). y.words) ended.view;
        later = ended.later;
        sound = ended.sound;
      };
      heard = heard_turned ended _ (ap (λ (y : View). y.moments) ended.view);
      none = ap (λ (y : View). y.pending) ended.view;
      table = ap (λ (y : View). y.table) ended.view;
    }

    picked : CanEnd new.token.view (ended_call new.token.view reply)
        × (reply ≡ (ended_call new.token.view reply).reply)
    picked = picked_ends who began new command s p.pass begun began_number c.went c.number
        c.ready.caller.mine reply c.may

    is_command : (ended_call new.token.view reply).command ≡ command
    is_command = grind (arith, its_command, ended_call)

    ends_here : UpdateEnds (pass_face who r) new token q command reply
    ends_here = record {
      pass = record {
        pass = final_pass who began new token command it;
        settled = λ unrefused.
            (let both = none_kept r met (sym kept ∙ unrefused) in
            settled_then who began new token command it c.ready.quiet.resolved (c.starts both.1)
            (c.due both.1) (p.settled both.0));
      };
      seen = seen_more who began new token command it r q
          (stamp_up who began new token command it r q (ended_call new.token.view reply) picked.0
          is_command ended);
      added = subst (AddsCall (pass_face who r) (face_as token new.number q) command) (sym picked.1)
          (adds_call who began new token command it r q (ended_call new.token.view reply) picked.0
          is_command ended);
      timed =
          subst (ReturnsInTime (pass_face who r) (face_as token new.number q) command) (sym picked.1)
          (in_time who began new token command it r q (ended_call new.token.view reply) picked.0
          is_command ended);
      counted = λ entry. has_counted who began new token command it r q (c.counted entry);
      due = leaves_none_due who began new token command it r q words met same_words kept c.shut;
      refused = keeps_first who began new token command it r q met kept
          (λ full e. cause met c.shut full e);
      finished =
          finishes (λ full. (row : ℕ)
          × IsRowRefused (pass_face who r) (face_as token new.number q) row full)
          (pass_face who r) (face_as token new.number q) met kept
          (λ none. started_since who began new token command it c.ready.quiet.resolved
          (c.starts none))
          (λ full e. cause met c.shut full e);
    }
      where
        cause : (o : Option Full)
            → working.LeavesShut began.token.view new.token.view began.number words o
            → (full : Full) → o ≡ Some full
            → (row : ℕ) × IsRowRefused (pass_face who r) (face_as token new.number q) row full
        cause _ (working.was_refused f due t child d) full e = (
          due.target,
          subst (IsRowRefused (pass_face who r) (face_as token new.number q) due.target) (cc)
              (row_refused who began new token command it r q words f same_words due t child d),
        )
        cause _ (working.none_came none) full e = absurd (cc)
        cause _ (working.is_shut row t) full e = absurd (cc)

    -- for a pass with this face
    pub update_ends : (old : PassFace) → pass_face who r ≡ old
        → UpdateEnds old new token q command reply
    update_ends old view = grind (arith, ends_here)

    -- each rebuild that the pass started in the call was of a row at its limit
    pub update_starts : StartsDue began new → (old : PassFace) → pass_face who r ≡ old
        → StartsOnlyDue old (face_as token new.number q)
    update_starts d old view =
        subst (λ (o : PassFace). StartsOnlyDue o (face_as token new.number q)) view
        (way_starts who began new token command it r q d)
