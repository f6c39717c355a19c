-- In the place of which rows the starts of a call stood when they were installed. Serves `update`.
use Rattle.std.proofs.Common.{◌≡◌, ◌≢◌, ℕ, ◌⊎◌, List, ◌∷◌, Option, Some, refl, sym, ap, ◌∙◌, subst, inl, inr, ⊎_elim, arith, ◌+◌, None, Result, Ok, Err, IfSome, IfErr}
use Rattle.ist_core.specs.declared.commands.Command.{Command}
use Rattle.ist_core.specs.declared.events.Event.{Event}
use Rattle.ist_core.specs.declared.events.Event.TheVariants.{Install}
use Rattle.ist_core.specs.declared.pairs.Pair.{Pair}
use Rattle.ist_core.specs.declared.ports.Full.{Full}
use Rattle.ist_core.specs.declared.states.InnerRow.{InnerRow}
use Rattle.ist_core.specs.declared.events.Who.TheVariants.{Caller as CallerOf}
use Rattle.ist_core.specs.declared.states.RebuildRow.{RebuildRow}
use Rattle.ist_core.specs.LogTerms.{GoesOnBy, LaterBy, whose, EachEnabled, state_of, GoesOn, Log}
use Rattle.ist_core.specs.WordTerms.{Inner, InnerAt, word_of, start, anchor_is, change_words, shape}
use Rattle.ist_core.specs.TreeTerms.{IsDue, as_target, IsFinishedWith, IsReplaced}
use Rattle.ist_core.proofs.AllLogLemmas.{enabled_before, grow_between, inner_there, due_later}
use Rattle.laws_calls.specs.Settling.{InstallsNoStart}
use Rattle.ist_rule.specs.RuleTerms.{SearchedOn, WentOn, TokenFace, now}
use Rattle.ist_rule.specs.declared.view.View.{View}
use Rattle.ist_rule.proofs.LaterLemmas.{goes_on_length}
use Rattle.ist_rule.proofs.WentOnLemmas.{later_by-goes_on, went_lawful, went_all, went_grow, went_more}
use Rattle.ist_rows.specs.RowTerms.{IsCaller, HasTakenFewIn, IsReady, StaysReady}
use Rattle.ist_rows.specs.declared.callers.Caller.{Caller}
use Rattle.ist_rebuild.specs.Going.{StartsAt, ServesRebuild}
use Rattle.laws_calls.proofs.ClosedLemmas.{others_start_nothing}
use Rattle.ist_updates.specs.declared.updates.Due.{Due}
use Rattle.ist_updates.specs.Asking.{Updates}
use Rattle.ist_updates.specs.Counting.{HasMadeDue}
use Rattle.ist_tree.specs.CallTerms.{InstallsDue, IsDueAt, StartsOnlyDue, face_as, pass_face, StartsDue, FreezesTarget, HasTakenFewUnless, IsHelpShort, IsRebuildOf, Rebuilds}
use Rattle.ist_tree.proofs.RowAtLimitLemmas.{event_since, whole_or_before}
use Rattle.ist_tree.proofs.EventLemmas.{updates_start_none, IsPlainHelp, serves_rebuild}
use Rattle.laws_histories.proofs.DecisionLemmas.{prefixes}
use Rattle.std.specs.Result.{result_err}
use Rattle.ist_core.proofs.AllWordLemmas.{same_rebuild}
use Rattle.laws_links.proofs.FormLemmas.{finished_with_grows}
use Rattle.ist_mark.specs.Marking.{MayMark, Marks}
use Rattle.ist_mark.proofs.SubtreeLemmas.{marks_keep}
use Rattle.ist_rebuild.specs.declared.answers.Helped.{Helped}
use Rattle.ist_rebuild.specs.declared.answers.Helped.TheVariants.{ParentMarked, Replaced}
use Rattle.ist_rebuild.specs.Helping.{IsHelpRefused, IsLeftToParent}
use Rattle.ist_rows.proofs.GoneLemmas.{keeping_installs_none, ready_more}
use Rattle.ist_rebuild.proofs.EventLemmas.{marks_serve}
use Rattle.std.specs.List.{sum}
use Rattle.ist_rows.proofs.FewStepLemmas.{few_call, none_kept}
use Rattle.ist_build.specs.Calls.{IsTold}
use Rattle.ist_tree.proofs.FewFreezeLemmas.{after_ready, few_unless, told_of}
use Rattle.ist_tree.proofs.DueLemmas.{helped_either}
use Rattle.ist_tree.proofs.FreezeGoingLemmas.{below_grows, rebuild_on}
use Rattle.ist_tree.proofs.FurtherLemmas.{plain_on, all_done}
use Rattle.ist_tree.proofs.ShortLemmas.{short_now}
use Rattle.ist_tree.proofs.FinishLemmas as way
use Rattle.ist_layout.specs.declared.references.Ref.TheVariants as layout

module _ (pairs : List Pair) (words caller : ℕ) where
  -- an event after a log isn't in it
  pub not_before : (event : Event) (earlier at : Log) → GoesOn earlier at
      → ¬ (GoesOn (event ∷ at) earlier)
  not_before event earlier at a b = grind (arith, goes_on_length)

  -- if no start was installed, each start was of a due row: there is none
  pub none_due : (Q : Event → Type 0) → ((event : Event) → Q event → InstallsNoStart caller event)
      → (earlier log : Log) → GoesOnBy Q earlier log → InstallsDue pairs words earlier log caller
  none_due Q none earlier log g at base rows change since until is kind =
      grind (arith, not_before, event_since)

  -- if this holds of two parts of a log, one after the other, it holds of both together
  pub due_more : (a b c : Log) → GoesOn b c → InstallsDue pairs words a b caller
      → InstallsDue pairs words b c caller → InstallsDue pairs words a c caller
  due_more a b c g one two at base rows change since until is kind =
      grind (arith, whole_or_before, prefixes)

  -- if all starts are of one row that was due before, each was of a due row
  pub aimed_due : (earlier log : Log) → EachEnabled (start pairs words) log → (target : ℕ)
      → LaterBy (CallerOf caller) (StartsAt target) earlier log → (row : InnerRow)
      → (state_of pairs words earlier).pieces target ≡ Some (Inner row) → IsDue row
      → InstallsDue pairs words earlier log caller
  aimed_due earlier log enabled target g row e due at base rows change since until is kind =
      ⊎_elim (λ k. absurd (not_before (Install caller base rows) earlier at since k))
      (λ q. ⊎_elim (λ other. absurd (other refl)) (λ aims. there (aims change is kind)) q)
      (event_since (λ event. (whose event ≢ CallerOf caller) ⊎ StartsAt target event)
      (Install caller base rows) earlier at log g until)
    where
      before : EachEnabled (start pairs words) at
      before = grind (arith, enabled_before)

      there : change.from ≡ word_of (InnerAt target) → IsDueAt (state_of pairs words at) change.from
      there word_is =
          let it = inner_there (state_of pairs words earlier).pieces (state_of pairs words at).pieces
          (grow_between pairs words earlier at before since) target row e in
          record {
            target = target;
            word_is = word_is;
            row = it.0;
            published = it.1;
            due = due_later row it.0 it.2 due;
          }

-- ---- by callers

-- steps that install no start of the caller
unstarted : (P : Event → Type 0) (number : ℕ)
    → ((event : Event) → P event → InstallsNoStart number event) → (event : Event)
    → (whose event ≢ CallerOf number) ⊎ P event → InstallsNoStart number event
unstarted P number none event either = grind (arith, others_start_nothing)

-- an update by itself starts nothing
pub applied_starts : (old mid : Caller) → old.token.view.who ≡ CallerOf old.number
    → SearchedOn Updates old.token.view mid.token.view → StartsDue old mid
applied_starts old mid mine went = let v = old.token.view in none_due v.start v.words old.number
    (λ event. (whose event ≢ CallerOf old.number) ⊎ Updates event)
    (unstarted Updates old.number (updates_start_none old.number)) v.log mid.token.view.log
    (subst (λ x. LaterBy x Updates v.log mid.token.view.log) mine went.went.later)

-- and the rebuild after it is of the row that it made due
pub carried_starts : (old mid new : Caller) (due : Due) → old.token.view.who ≡ CallerOf old.number
    → IsCaller mid → mid.number ≡ old.number → SearchedOn Updates old.token.view mid.token.view
    → HasMadeDue old.token.view mid.token.view old.number due.parent due.index due.target
    → WentOn (StartsAt due.target) mid.token.view new.token.view → StartsDue old new
carried_starts old mid new due mine c number went made aims = let v = old.token.view in
    let m = mid.token.view in let w = new.token.view in
    due_more v.start v.words old.number v.log m.log w.log (later_by-goes_on aims.later)
    (applied_starts old mid mine went)
    (subst (λ pairs. InstallsDue pairs v.words m.log w.log old.number)
    (ap (λ (x : View). x.start) went.went.same)
    (subst (λ words. InstallsDue m.start words m.log w.log old.number)
    (ap (λ (x : View). x.words) went.went.same)
    (aimed_due m.start m.words old.number m.log w.log
    (went_lawful (StartsAt due.target) m w aims).enabled due.target
    (subst (λ x. LaterBy x (StartsAt due.target) m.log w.log) (c.mine ∙ ap CallerOf number)
    aims.later)
    made.may.row made.may.published made.due)))

-- ---- by passes

module _ (who began new : Caller) (token : TokenFace) (command : Command)
    (it : way.IsUpdateCall who began new token command) (r q : Option Full) where
  others_none : (event : Event) → whose event ≢ CallerOf who.number
      → InstallsNoStart who.number event
  others_none event other = others_start_nothing who.number event other

  -- what the work of a call started the call did
  pub way_starts : StartsDue began new → StartsOnlyDue (pass_face who r) (face_as token new.number q)
  way_starts d = let v = who.token.view in let b = began.token.view in let w = new.token.view in
      let x = token.view in
      due_more v.start v.words who.number v.log w.log x.log (way.w_to_x who began new token command it)
      (due_more v.start v.words who.number v.log b.log w.log (way.b_to_w who began new token command it)
      (none_due v.start v.words who.number (λ event. whose event ≢ CallerOf who.number) others_none
      v.log b.log (way.later_b who began new token command it))
      (subst (λ n. InstallsDue v.start v.words b.log w.log n) it.began_number
      (subst (λ pairs. InstallsDue pairs v.words b.log w.log began.number)
      (way.b_start who began new token command it)
      (subst (λ words. InstallsDue b.start words b.log w.log began.number)
      (way.b_words who began new token command it) d))))
      (none_due v.start v.words who.number (λ event. whose event ≢ CallerOf who.number) others_none
      w.log x.log (way.later_x who began new token command it))

-- ---- marking the target of a rebuild, and then helping the rebuild. Serves `freeze_target`.

-- a step of marking installs nothing and leaves all rows
pub marks_plain : (v : View) (node : ℕ) (event : Event) → Marks v node event → IsPlainHelp event
marks_plain v node event is =
    grind (arith, marks_keep, serves_rebuild, marks_serve, keeping_installs_none)

-- the target of a started rebuild may be marked
pub target_may_mark : (who : Caller) (rebuild target : ℕ) → IsReady who
    → IsRebuildOf (now who.token.view) rebuild target → MayMark who.token.view target
target_may_mark who rebuild target ready r = record {
  number = who.number;
  mine = ready.caller.mine;
  called = as_target rebuild r.target_is r.started;
}

-- a caller that marked it goes on
pub marked : (old : Caller) (token : TokenFace) (target : ℕ) → IsReady old
    → WentOn (Marks token.view target) old.token.view token.view
    → StaysReady Rebuilds old (record old { token = token })
marked old token target ready went = grind (arith, plain_on, marks_plain)

-- the target is finished, and its rebuild was helped
pub target_froze : (old : Caller) (token : TokenFace) (new : Caller) (words rebuild target keys : ℕ)
    → IsReady old → IsRebuildOf (now old.token.view) rebuild target
    → WentOn (Marks token.view target) old.token.view token.view
    → IsFinishedWith (now token.view) target keys
    → StaysReady Rebuilds (record old { token = token }) new
    → WentOn ServesRebuild token.view new.token.view → (answer : Result Helped Full)
    → (refused : Option Full) → refused ≡ result_err answer
    → (answer ≡ Ok Replaced → IsReplaced (now new.token.view) rebuild)
    → (answer ≡ Ok ParentMarked → IsLeftToParent (now new.token.view) rebuild)
    → IfErr answer (λ full. IsHelpRefused token.view rebuild words full new.token.view)
    → ((k : ℕ) → IsTold (now token.view) rebuild k
    → HasTakenFewIn answer (sum (shape k) + change_words) 0 (record old { token = token }) new)
    → FreezesTarget old new words rebuild target
    record { frozen = record { root = layout.Inner target; keys = keys }; refused = refused }
target_froze old token new words rebuild target keys ready of went f on serves answer refused is replaced
    left full few =
    record {
      on = ready_more Rebuilds old (record old { token = token }) new
          (marked old token target ready went) on;
      root_is = refl;
      finished = finished_with_grows (now token.view) (now new.token.view)
          (went_grow ServesRebuild token.view new.token.view serves) target keys f;
      done = λ unrefused first but.
          all_done old.number old.token.view new.token.view ready.caller.mine ready.quiet.resolved
          (went_more ServesRebuild old.token.view token.view new.token.view
          (went_all (Marks token.view target) ServesRebuild (marks_serve token.view target) old.token.view
          token.view went) serves)
          rebuild first but (helped answer refl (sym is ∙ unrefused));
      replaced = λ unrefused. alone (helped answer refl (sym is ∙ unrefused));
      refused = subst (λ o. IfSome o (IsHelpShort new.token.view rebuild words)) (sym is)
          (cause answer full);
      few = let mid = record old { token = token } in
          subst (λ o. HasTakenFewUnless o (sum (shape keys) + change_words) old new) (sym is)
          (few_unless answer (sum (shape keys) + change_words) old new
          (few_call answer (sum (shape keys) + change_words) 0 old mid new
          (none_kept (Marks token.view target) (marks_keep token.view target) old mid refl
          ready.caller.mine went) (after_ready mid new on)
          (few keys (told_of (now token.view) rebuild target keys
          (rebuild_on (Marks token.view target) old.token.view token.view went rebuild target of) f))));
    }
  where
    -- the anchor is never closed
    alone : IsReplaced (now new.token.view) rebuild ⊎ IsLeftToParent (now new.token.view) rebuild
        → IsReplaced (now new.token.view) rebuild
    alone (inl k) = k
    alone (inr l) =
        let b = below_grows (now token.view) (now new.token.view)
        (went_grow ServesRebuild token.view new.token.view serves) rebuild
        (below_grows (now old.token.view) (now token.view)
        (went_grow (Marks token.view target) old.token.view token.view went) rebuild of.below) in
        let one = same_rebuild ((now new.token.view).pieces rebuild) l.row b.row l.published b.published
        in
        absurd (l.closed (anchor_is (ap (λ (x : RebuildRow). x.parent) one ∙ b.parent_is)))

    helped : (r : Result Helped Full) → answer ≡ r → result_err r ≡ None
        → IsReplaced (now new.token.view) rebuild ⊎ IsLeftToParent (now new.token.view) rebuild
    helped (Ok h) e none = grind (arith, helped_either)
    helped (Err full) e none = absurd (cc)

    cause : (r : Result Helped Full)
        → IfErr r (λ full. IsHelpRefused token.view rebuild words full new.token.view)
        → IfSome (result_err r) (IsHelpShort new.token.view rebuild words)
    cause (Ok h) k = tt
    cause (Err full) k =
        short_now ServesRebuild token.view words full new.token.view k (λ asked. asked)
