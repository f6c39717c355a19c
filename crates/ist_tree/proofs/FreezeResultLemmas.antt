-- What a freeze returns, put together: if it returns a tree, and if it is refused. Serves `freeze`.
use Rattle.std.proofs.Common.{◌≡◌, ℕ, ◌⊎◌, Option, Some, None, IfSome, refl, sym, ap, subst, inl, inr, arith}
use Rattle.std.specs.Option.{option_or}
use Rattle.ist_core.specs.declared.ports.Full.{Full}
use Rattle.ist_core.specs.TreeTerms.{HasTarget, IsReplaced, IsStarted}
use Rattle.laws_links.proofs.FinishedLemmas.{target_grows}
use Rattle.laws_links.proofs.FormLemmas.{replaced_grows, started_grows}
use Rattle.ist_core.specs.LogTerms.{state_of}
use Rattle.ist_rule.specs.RuleTerms.{TokenFace, CanGiveUp, TurnedAt, beginning, giving_up, now, IsSound}
use Rattle.ist_rule.specs.declared.view.View.{View}
use Rattle.ist_rows.specs.RowTerms.{IsReady, StaysReady}
use Rattle.ist_rows.specs.declared.callers.Caller.{Caller}
use Rattle.ist_updates.specs.Further.{HasWalkedFew}
use Rattle.ist_tree.specs.CallTerms.{Frozen, FreezeOutcome, FinishesFreeze, all_done, Freezes, HasTakenFewUnless, counted_as, IsFreezeStopped, IsTargetShort, IsTopShort, BeginsFewWalks, HasSeenMore, PassFace, TreeFace, FreezesInFew, words_of_freeze, HasFrozen, HasStartedNone, IsFreezeRefused, IsFrozenFor, IsLeftShort, LeavesRebuilt, IsPassWith, face_as, pass_face, HasStartsDone, IsTopRefused, KeepsRefusal, Rebuilds}
use Rattle.ist_tree.proofs.FinishLemmas.{finishes, first_kept}
use Rattle.ist_tree.proofs.FreezeCallLemmas.{IsFreezeCall}
use Rattle.ist_tree.proofs.FreezeCallLemmas as way
use Rattle.ist_tree.proofs.FewFreezeCallLemmas.{few_in_call, out_in_call}
use Rattle.ist_tree.proofs.FreezeEndLemmas.{freeze_refused, frozen_for, has_frozen, has_started_none, in_last, keeps_refusal, started_since, top_refused}
use Rattle.ist_tree.proofs.GoingLemmas.{words_are}
use Rattle.ist_tree.proofs.SearchCountLemmas.{ready_counted, turned_counted, walks_end}
use Rattle.ist_tree.proofs.ShortLemmas.{some_is}

-- the tree was frozen in the call, with the map's pairs of that moment, and stays so; its rebuild
-- was replaced, or refused in the call
pub record FreezesAll (p q : PassFace) (frozen : Frozen) : Type 0 where
  pub seen : HasSeenMore p q
  pub still : IsFrozenFor q frozen
  pub pairs : HasFrozen p q frozen
  pub rebuilt : LeavesRebuilt p q frozen
  pub few : FreezesInFew p q frozen
  pub calls : q.calls ≡ p.calls
  pub refused : KeepsRefusal p q
  pub finished : FinishesFreeze p q
  pub done : HasStartsDone q

-- too few words were left for a start, and the pass started none
pub record StopsFreeze (p q : PassFace) (full : Full) : Type 0 where
  pub seen : HasSeenMore p q
  pub cause : IsFreezeRefused p q full
  pub unstarted : HasStartedNone p q
  pub calls : q.calls ≡ p.calls
  pub unrefused : q.refused ≡ p.refused
  pub refused : KeepsRefusal p q
  pub finished : FinishesFreeze p q
  pub done : HasStartsDone q

-- the freeze was answered
pub record FreezeEnds (old : PassFace) (new : Caller) (token : TokenFace) (q : Option Full)
    (frozen : Frozen) : Type 0 where
  pub pass : IsPassWith (record new { token = token }) q
  pub froze : FreezesAll old (face_as token new.number q) frozen

-- a freeze that succeeds ends so
freeze_ends : (who began new : Caller) (token : TokenFace) (it : IsFreezeCall who began new token)
    (r q : Option Full) → IsPassWith who r → (words : ℕ) → words ≡ who.token.view.words
    → (outcome : FreezeOutcome) → Freezes began new words outcome
    → q ≡ option_or r outcome.refused → (old : PassFace) → pass_face who r ≡ old
    → FreezeEnds old new token q outcome.frozen
freeze_ends who began new token it r q all words same outcome f is old view =
    let had = has_frozen who began new token it r (option_or r outcome.refused) outcome.frozen
    f.frozen in
    let all_now = way.ended_pass_with who began new token it r (option_or r outcome.refused) all
    (λ none. (both r outcome.refused none).0) (λ none. f.done (both r outcome.refused none).1) in
    subst (λ (o : PassFace). FreezeEnds o new token q outcome.frozen) view
    (subst (λ o. FreezeEnds (pass_face who r) new token o outcome.frozen) (sym is) record {
      pass = all_now;
      froze = record {
        seen = way.has_seen_more who began new token it r (option_or r outcome.refused);
        still = frozen_for who began new token it (option_or r outcome.refused) outcome.frozen
            had.was.frozen_is;
        pairs = had;
        rebuilt = λ row e.
            (let k = f.rebuilt row e in record {
              rebuild = k.rebuild;
              started = in_last who began new token it (λ t. IsStarted t k.rebuild)
                  (λ t u g. started_grows t u g k.rebuild) k.of.started;
              target = in_last who began new token it (λ t. HasTarget t k.rebuild row)
                  (λ t u g. target_grows t u g k.rebuild row) k.of.target_is;
              replaced = either row k.rebuild outcome.refused k.replaced k.short;
            });
        few = in_few outcome.refused refl f.few;
        calls = way.calls_are who began new token it;
        refused = keeps_refusal who began new token it r outcome.refused words same f.refused;
        finished =
            finishes (IsTopRefused (pass_face who r)
            (face_as token new.number (option_or r outcome.refused))) (pass_face who r)
            (face_as token new.number (option_or r outcome.refused)) outcome.refused refl
            (λ none. started_since who began new token it (f.done none))
            (λ full e. top_refused who began new token it r (option_or r outcome.refused) words full
            same (some_is outcome.refused full (IsTopShort began.token.view new.token.view words) e
            f.refused));
        done = λ none. (all_now.settled none).starts;
      };
    })
  where
    or_none : (o : Option Full) → option_or o None ≡ o
    or_none None = refl
    or_none (Some full) = refl

    -- without a refusal all was rebuilt
    in_few : (o : Option Full) → outcome.refused ≡ o
        → HasTakenFewUnless o (words_of_freeze outcome.frozen.keys) began new
        → FreezesInFew (pass_face who r) (face_as token new.number (option_or r o)) outcome.frozen
    in_few None e h = few_in_call who began new token it r (option_or r None) outcome.frozen
        (λ row is. let k = f.rebuilt row is in record {
          rebuild = k.rebuild;
          started = in_last who began new token it (λ t. IsStarted t k.rebuild)
              (λ t u g. started_grows t u g k.rebuild) k.of.started;
          target = in_last who began new token it (λ t. HasTarget t k.rebuild row)
              (λ t u g. target_grows t u g k.rebuild row) k.of.target_is;
          replaced = in_last who began new token it (λ t. IsReplaced t k.rebuild)
              (λ t u g. replaced_grows t u g k.rebuild) (k.replaced e);
        }) (or_none r) h
    in_few (Some full) e h =
        out_in_call who began new token it r (option_or r (Some full)) outcome.frozen h

    both : (a c : Option Full) → option_or a c ≡ None → (a ≡ None) × (c ≡ None)
    both None c e = (refl, e)
    both (Some full) c e = absurd (cc)

    either : (row rebuild : ℕ) (o : Option Full) → (o ≡ None → IsReplaced (now new.token.view) rebuild)
        → IfSome o (IsTargetShort began.token.view new.token.view words row rebuild)
        → IsReplaced (state_of token.view.start token.view.words token.view.log) rebuild
        ⊎ IsLeftShort (pass_face who r) (face_as token new.number (option_or r o)) row rebuild
    either row rebuild None replaced s =
        inl (in_last who began new token it (λ t. IsReplaced t rebuild)
        (λ t u g. replaced_grows t u g rebuild) (replaced refl))
    either row rebuild (Some full) replaced s = inr record {
      full = full;
      cause = top_refused who began new token it r (option_or r (Some full)) words full same s.top;
      row_is = s.row_is;
      rebuild_is = s.rebuild_is;
      kept = first_kept r full;
    }

-- it was refused
pub record StopEnds (old : PassFace) (new : Caller) (token : TokenFace) (r : Option Full) (full : Full)
    : Type 0 where
  pub pass : IsPassWith (record new { token = token }) r
  pub stopped : StopsFreeze old (face_as token new.number r) full

-- a freeze that is refused ends so
stop_ends : (who began new : Caller) (token : TokenFace) (it : IsFreezeCall who began new token)
    (r : Option Full) → IsPassWith who r → (words : ℕ) → words ≡ who.token.view.words
    → (full : Full) → IsFreezeStopped began new words full
    → (old : PassFace) → pass_face who r ≡ old → StopEnds old new token r full
stop_ends who began new token it r all words same full s old view =
    let all_now = way.ended_pass_with who began new token it r r all (λ none. none)
    (λ none. s.idle.done) in
    subst (λ (o : PassFace). StopEnds o new token r full) view record {
      pass = all_now;
      stopped = record {
        seen = way.has_seen_more who began new token it r r;
        cause = freeze_refused who began new token it r r words full same s.left s.idle.few s.held;
        unstarted = has_started_none who began new token it s.idle.none;
        calls = way.calls_are who began new token it;
        unrefused = refl;
        refused = record { stays = λ first e. e; cause = λ first e. inl e };
        finished = all_done (started_since who began new token it s.idle.done);
        done = λ none. (all_now.settled none).starts;
      };
    }

-- ---- from the beginning of its call

-- a pass began the call
pub record BeginsFreeze (who began : Caller) (r : Option Full) : Type 0 where
  pub sound : IsSound who.token.view
  pub pass : IsPassWith who r
  pub begun : TurnedAt who.token.view (beginning who.token.view None) began.token.view
  pub number : began.number ≡ who.number
  pub ready : IsReady began

-- so it begins it
pub begins_freeze : {who began : Caller} {r : Option Full} → IsSound who.token.view
    → IsPassWith who r → TurnedAt who.token.view (beginning who.token.view None) began.token.view
    → began.number ≡ who.number → IsReady began → BeginsFreeze who began r
begins_freeze s pass begun number ready = grind arith

module _ {who began : Caller} {r : Option Full} (b : BeginsFreeze who began r) (new : Caller) where
  -- the caller that began, as if it had begun all the searches then
  abbrev was : Caller
  was = counted_as began new.token.view.searches

  -- the call may be given up
  pub freeze_may_stop : StaysReady Rebuilds was new → CanGiveUp new.token.view
  freeze_may_stop on = grind (arith, turned_counted, ready_counted)

  module _ (token : TokenFace)
      (given : TurnedAt new.token.view (giving_up new.token.view) token.view)
      (few : HasWalkedFew began.token.view new.token.view) where
    its_way : StaysReady Rebuilds was new → IsFreezeCall who was new token
    its_way on = grind (arith, turned_counted, ready_counted)

    few_walks : (q : Option Full) (old : PassFace) → pass_face who r ≡ old
        → BeginsFewWalks old (face_as token new.number q)
    few_walks q old view =
        walks_end who began new token None (giving_up new.token.view) r q old b.begun few given
        (ap (λ (y : View). y.searches) given.view) view

    -- what it leaves if it succeeds, on the tree whose pass it is
    pub freeze_ended : {outcome : FreezeOutcome} {q : Option Full} {old : PassFace} {t u : TreeFace}
        → Freezes was new u.words outcome → q ≡ option_or r outcome.refused
        → pass_face who r ≡ old → old.tree ≡ t → u ≡ t
        → FreezeEnds old new token q outcome.frozen × BeginsFewWalks old (face_as token new.number q)
    freeze_ended {outcome} {q} {old} {t} {u} f is view same tree = (
      freeze_ends who was new token (its_way f.on) r q b.pass u.words
          (words_are who r old t u view same tree) outcome f is old view,
      few_walks q old view,
    )

    -- and if it is refused
    pub freeze_stopped : {full : Full} {old : PassFace} {t u : TreeFace}
        → IsFreezeStopped was new u.words full → pass_face who r ≡ old → old.tree ≡ t → u ≡ t
        → StopEnds old new token r full × BeginsFewWalks old (face_as token new.number r)
    freeze_stopped {full} {old} {t} {u} s view same tree = (
      stop_ends who was new token (its_way s.idle.on) r b.pass u.words
          (words_are who r old t u view same tree) full s old view,
      few_walks r old view,
    )
