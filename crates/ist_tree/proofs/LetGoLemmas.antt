-- A put or a remove that took no effect, from its beginning to its end, in the words of its steps.
-- Serves `apply_in_call`.
use Rattle.std.proofs.Common.{◌≡◌, ℕ, Option, Some, ap, ◌∙◌, subst, arith}
use Rattle.ist_core.specs.declared.commands.Command.{Command}
use Rattle.ist_core.specs.declared.ports.Full.{Full}
use Rattle.ist_rule.specs.RuleTerms.{IsResolved, TokenFace, TurnedAt, beginning, giving_up, IsSound}
use Rattle.ist_rule.specs.declared.view.View.{View}
use Rattle.ist_rows.specs.declared.callers.Caller.{Caller}
use Rattle.ist_updates.specs.declared.updates.When.{When}
use Rattle.ist_updates.specs.Meeting.{WasMissed}
use Rattle.ist_updates.specs.Refusals.{WasRefused}
use Rattle.laws_histories.specs.Searching.{HasPosition}
use Rattle.laws_histories.proofs.ChangeLemmas.{position_on}
use Rattle.ist_tree.specs.CallTerms.{HasSeenMore, CameDue, CountsNowhere, StartsOnlyDue, HasItsCalls, PassFace, HasStartedNone, IsPassWith, face_as, pass_face, IsRefused, HadMissed, HasLetGo, IsLetGo, StartsDue}
use Rattle.ist_tree.proofs.HeardLemmas.{heard_turned}
use Rattle.ist_tree.proofs.GoingLemmas.{has_its_calls}
use Rattle.ist_tree.proofs.CountedLemmas.{way_counted}
use Rattle.ist_tree.proofs.InstallLemmas.{way_starts}
use Rattle.ist_tree.proofs.RefusalLemmas.{update_was_refused}
use Rattle.ist_tree.proofs.UpdateLemmas.{came_nowhere}
use Rattle.ist_tree.proofs.FinishLemmas.{IsUpdateCall, final_pass, none_started, seen_more, settled_then, v_to_b, w_start, w_to_x, w_words}

module _ (who began new : Caller) (token : TokenFace) (command : Command) (s : IsSound who.token.view)
    (r : Option Full) (p : IsPassWith who r)
    (begun : TurnedAt who.token.view (beginning who.token.view (Some command)) began.token.view)
    (began_number : began.number ≡ who.number) (words : ℕ)
    (same_words : words ≡ who.token.view.words) where
  module _ (d : IsLetGo began new)
      (given : TurnedAt new.token.view (giving_up new.token.view) token.view) where
    stops : IsUpdateCall who began new token command
    stops = record {
      sound = s;
      pass = p.pass;
      begun = begun;
      began_number = began_number;
      went = d.went;
      number = d.number;
      caller = d.caller;
      refused = d.refused;
      last = record {
        who_is = ap (λ (y : View). y.who) given.view;
        start_is = ap (λ (y : View). y.start) given.view;
        words_is = ap (λ (y : View). y.words) given.view;
        later = given.later;
        sound = given.sound;
      };
      heard = heard_turned given _ (ap (λ (y : View). y.moments) given.view);
      none = ap (λ (y : View). y.pending) given.view;
      table = ap (λ (y : View). y.table) given.view;
    }

    -- each change of the caller is resolved
    resolved : IsResolved new.token.view new.number
    resolved = grind arith

    -- the caller is a pass again
    pub stopped_pass : IsPassWith (record new { token = token }) r
    stopped_pass = record {
      pass = final_pass who began new token command stops;
      settled = λ unrefused. settled_then who began new token command stops resolved d.starts d.due
          (p.settled unrefused);
    }

    stopped_stamp : token.view.stamp ≡ who.token.view.stamp
    stopped_stamp = grind arith

    -- the pass has seen more
    pub stopped_seen : (old : PassFace) → pass_face who r ≡ old
        → HasSeenMore old (face_as token new.number r)
    stopped_seen old view =
        subst (λ (o : PassFace). HasSeenMore o (face_as token new.number r)) view
        (seen_more who began new token command stops r r (let e = stopped_stamp in omega arith))

    -- each rebuild that the pass started in the call was of a row at its limit
    pub stopped_starts : StartsDue began new → (old : PassFace) → pass_face who r ≡ old
        → StartsOnlyDue old (face_as token new.number r)
    stopped_starts due old view =
        subst (λ (o : PassFace). StartsOnlyDue o (face_as token new.number r)) view
        (way_starts who began new token command stops r r due)

    -- no row reached its limit by it
    none_came_here : (old : PassFace) → pass_face who r ≡ old
        → (row : ℕ) → ¬ (CameDue old (face_as token new.number r) row)
    none_came_here old view =
        subst (λ (o : PassFace). (row : ℕ) → ¬ (CameDue o (face_as token new.number r) row)) view
        (came_nowhere who began new token command stops r r d.none_came)

    -- it counted nowhere
    pub stopped_counted : (old : PassFace) → pass_face who r ≡ old
        → CountsNowhere old (face_as token new.number r)
    stopped_counted old view =
        subst (λ (o : PassFace). CountsNowhere o (face_as token new.number r)) view
        (way_counted who began new token command stops r r d.uncounted)

    -- its calls are placed in what it has seen then
    pub stopped_placed : HasItsCalls (face_as token new.number r)
    stopped_placed = grind (arith, has_its_calls)

    -- for a pass with this face: it is let go
    pub stopped : StartsDue began new → (old : PassFace) → pass_face who r ≡ old
        → HasLetGo old (face_as token new.number r)
    stopped due old view = record {
      idle = record {
        seen = stopped_seen old view;
        refused = ap (λ (o : PassFace). o.refused) view;
        none_came = none_came_here old view;
        uncounted = stopped_counted old view;
        starts = stopped_starts due old view;
        unstarted = subst (λ (o : PassFace). HasStartedNone o (face_as token new.number r)) view
            (none_started who began new token command stops resolved d.unstarted);
      };
      calls = ap (λ (y : View). y.calls) given.view ∙ ap (λ (y : View). y.calls) d.went.went.same
          ∙ ap (λ (y : View). y.calls) begun.view ∙ ap (λ (o : PassFace). o.calls) view;
      stamp = stopped_stamp ∙ ap (λ (o : PassFace). o.stamp) view;
    }

    -- it was refused
    pub stopped_full : (key : ℕ) (value : Option ℕ) (full : Full)
        → WasRefused began.token.view key value words full new.token.view
        → (old : PassFace) → pass_face who r ≡ old
        → IsRefused old (face_as token new.number r) key value full
    stopped_full key value full cause old view =
        subst (λ (o : PassFace). IsRefused o (face_as token new.number r) key value full) view
        (update_was_refused who began new token command stops r r words key value full same_words
        cause)

    -- or it met another value
    pub stopped_missed : (key : ℕ) (when : When)
        → WasMissed began.token.view new.token.view key when → (old : PassFace) → pass_face who r ≡ old
        → HadMissed old (face_as token new.number r) key when
    stopped_missed key when m old view =
        subst (λ (o : PassFace). HadMissed o (face_as token new.number r) key when) view
        record {
          had = m.had;
          missed = m.missed;
          position = position_on who.token.view.start who.token.view.words who.token.view.log
              began.token.view.log new.token.view.log token.view.log
              (v_to_b who began new token command stops) (w_to_x who began new token command stops) key
              m.had
              (subst (λ pairs. HasPosition pairs who.token.view.words began.token.view.log
              new.token.view.log key m.had) (w_start who began new token command stops)
              (subst (λ n. HasPosition new.token.view.start n began.token.view.log new.token.view.log key
              m.had) (w_words who began new token command stops) m.position));
        }
