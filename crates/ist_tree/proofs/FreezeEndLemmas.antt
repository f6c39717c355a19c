-- What a freeze returns, in the words of its pass. Serves `freeze`.
use Rattle.std.proofs.Common.{◌≡◌, ℕ, ◌+◌, ◌≤◌, ◌⊎◌, length, Option, Some, None, IfSome, sym, ap, subst, inl, inr, arith}
use Rattle.std.specs.Option.{option_or}
use Rattle.ist_core.specs.declared.ports.Full.{Full}
use Rattle.ist_core.specs.LogTerms.{state_of, Log, same_log, Snapshot}
use Rattle.ist_core.specs.TreeTerms.{changes_of, AllGrow, IsChild, HasTarget, IsFinishedWith, IsStarted}
use Rattle.ist_core.specs.WordTerms.{anchor, change_words, rebuild_words}
use Rattle.ist_core.proofs.AllLogLemmas.{grow_between}
use Rattle.laws_links.proofs.FinishedLemmas.{target_grows}
use Rattle.laws_links.proofs.FormLemmas.{started_grows}
use Rattle.laws_calls.specs.Finishing.{puts_in}
use Rattle.laws_calls.proofs.NumberLemmas.{finished_few}
use Rattle.ist_rows.specs.RowTerms.{LeavesTooFew, taken_by}
use Rattle.ist_rows.specs.declared.callers.Caller.{Caller}
use Rattle.ist_rebuild.specs.Helping.{IsAskedFor, for_change, for_node}
use Rattle.ist_rebuild.specs.Lacking.{LacksNow}
use Rattle.ist_rebuild.specs.Starting.{StartsDoneSince, StartsNone}
use Rattle.ist_rebuild.specs.Needs.{TakesNeeded, needed}
use Rattle.ist_rebuild.proofs.NeedLemmas.{needed_most}
use Rattle.ist_rows.proofs.FewStepLemmas.{taken_later}
use Rattle.ist_rule.specs.RuleTerms.{TokenFace, now}
use Rattle.ist_rule.specs.declared.view.View.{View}
use Rattle.ist_rule.proofs.LaterLemmas.{goes_on_more}
use Rattle.ist_tree.specs.CallTerms.{Frozen, IsForNeeded, IsTopShort, HasFrozen, HeldInnerRow, IsFreezeRefused, IsFrozenIn, IsFrozenFor, WasFrozen, face_as, pass_face, KeepsDone, HadTooFew, IsForRebuild, IsTopRefused, KeepsRefusal, LackedAt}
use Rattle.ist_tree.proofs.ShortLemmas.{asked_grows, asked_same, held_on, lacked_then, puts_rise, left_same}
use Rattle.ist_tree.proofs.FreezingLemmas.{was_frozen_on}
use Rattle.ist_tree.proofs.FreezeCallLemmas.{IsFreezeCall}
use Rattle.ist_tree.proofs.FreezeCallLemmas as way
use Rattle.ist_tree.proofs.GoingLemmas.{between_calls, since_later, since_none, starts_none_later, starts_none_more}

module _ (who began new : Caller) (token : TokenFace) (it : IsFreezeCall who began new token) where
  -- the view before the call
  abbrev v : View
  v = who.token.view

  -- the view when the call has begun
  abbrev b : View
  b = began.token.view

  -- the view after the work
  abbrev w : View
  w = new.token.view

  -- the view after the call
  abbrev x : View
  x = token.view

  -- ---- what it returns

  -- a tree that the work froze was frozen in the call
  pub has_frozen : (r q : Option Full) (frozen : Frozen)
      → WasFrozen b.start b.words b.log w.log frozen
      → HasFrozen (pass_face who r) (face_as token new.number q) frozen
  has_frozen r q frozen was = let l = way.b_view who began new token it in record {
    at = b.log;
    step = way.begin_step who began new token it r q;
    was =
        was_frozen_on v.start v.words b.log b.log w.log x.log (way.lawful_x who began new token it)
        same_log (way.w_to_x who began new token it) frozen
        (subst (λ pairs. WasFrozen pairs v.words b.log w.log frozen) l.start_is
        (subst (λ words. WasFrozen b.start words b.log w.log frozen) l.words_is was));
  }

  -- the tree is frozen by the table that the pass has then
  pub frozen_for : (q : Option Full) (frozen : Frozen) → IsFrozenIn v.start v.words x.log frozen
      → IsFrozenFor (face_as token new.number q) frozen
  frozen_for q frozen f = grind arith

  -- ---- refusals

  abbrev had_too_few : {A : ℕ → Type 0} {B : Log → ℕ → Type 0} (r q : Option Full) (words : ℕ)
      (full : Full) → words ≡ v.words → LeavesTooFew A w.start words w.log full
      → (A full.asked → B w.log full.asked)
      → HadTooFew B (pass_face who r) (face_as token new.number q) full
  had_too_few r q words full same s to = record {
    at = w.log;
    since = goes_on_more (way.v_to_b who began new token it) (way.b_to_w who began new token it);
    until = (way.w_to_x who began new token it);
    left = left_same full (way.w_start who began new token it) same s to;
  }

  -- the call took at most the rows of a start
  took_needed : (asked : ℕ) → TakesNeeded began new → asked ≤ needed new
      → taken_by who.number x.log + asked ≤ taken_by who.number v.log + (rebuild_words + change_words)
  took_needed asked few needs = grind (arith, taken_later, needed_most)

  -- a start that was refused in the work was refused in the call
  pub freeze_refused : (r q : Option Full) (words : ℕ) (full : Full) → words ≡ v.words
      → LeavesTooFew (IsForNeeded new) w.start words w.log full → TakesNeeded began new
      → HeldInnerRow b.start b.words b.log w.log
      → IsFreezeRefused (pass_face who r) (face_as token new.number q) full
  freeze_refused r q words full same s few held = let l = way.b_view who began new token it in
      record {
        had = had_too_few r q words full same s (λ for. record {
          start = for.start;
          lacked = lacked_then new token it.on.gone.caller (way.x_view who began new token it) q
              full.asked for.lacks;
          few = took_needed full.asked few for.needs;
        });
        held = held_on v.start v.words v.log b.log w.log x.log (way.v_to_b who began new token it)
            (way.w_to_x who began new token it)
            (subst (λ pairs. HeldInnerRow pairs v.words b.log w.log) l.start_is
            (subst (λ words. HeldInnerRow b.start words b.log w.log) l.words_is held));
      }

  -- if it started no rebuild, none was started in the call
  pub has_started_none : StartsNone (now b) (now w) began.number
      → StartsNone (now v) (now x) who.number
  has_started_none none = starts_none_more (now v) (now b) (now x) who.number
      (starts_none_later v b (way.b_view who began new token it) who.number it.pass.caller.mine
      (between_calls v who.number it.sound it.pass.caller.mine it.pass.in_none).resolved)
      (starts_none_more (now b) (now w) (now x) who.number
      (subst (StartsNone (now b) (now w)) it.began_number none)
      (subst (StartsNone (now w) (now x)) (way.number_is who began new token it)
      (starts_none_later w x (way.x_view who began new token it) new.number
      it.on.gone.caller.mine it.on.quiet.resolved)))

  -- each rebuild that it started in the call is done, if the work kept its starts done
  pub started_since : KeepsDone began new → StartsDoneSince (now v) (now x) new.number
  started_since keeps = let l = way.x_view who began new token it in
      let at_b = since_none (now v) (now b) who.number
      (starts_none_later v b (way.b_view who began new token it) who.number it.pass.caller.mine
      (between_calls v who.number it.sound it.pass.caller.mine it.pass.in_none).resolved) in
      let at_w = keeps (now v)
      (subst (StartsDoneSince (now v) (now b)) (sym it.began_number) at_b) in
      since_later w x l new.number it.on.gone.caller.mine it.on.quiet.resolved (now v)
      (subst (StartsDoneSince (now v) (now w)) (sym it.on.gone.number) at_w)

  -- what helping a rebuild took
  pub asked_for_rebuild : (r q : Option Full) (rebuild asked : ℕ)
      → IsAskedFor (LacksNow w) (now w) rebuild asked → IsForRebuild (face_as token new.number q) asked
  asked_for_rebuild r q rebuild asked (for_change e lacks) = inl e
  asked_for_rebuild r q rebuild asked (for_node row k e fin node) =
      let l = way.lawful_w who began new token it in
      let here = way.by_middle who began new token it
      (λ pairs words. IsFinishedWith (state_of pairs words w.log) row.target k) fin in
      let most = finished_few v.start v.words l.opens w.log l.enabled row.target k here.row
      here.published here.status in
      let rise = puts_rise v.start v.words w.log x.log (way.w_to_x who began new token it) in
      let some = node.some in let le = node.most in inr record {
        some = some;
        least = node.least;
        most = subst (λ words. some ≤ length x.start + puts_in (changes_of x.start words x.log))
            (sym (way.x_words who began new token it))
            (subst (λ pairs. some ≤ length pairs + puts_in (changes_of pairs v.words x.log))
            (sym (way.x_start who began new token it)) (omega arith));
        asked_is = node.asked_is;
      }

  -- what is true of the state after the work, and of each that grows from it, is true after the call
  pub in_last : (Q : Snapshot → Type 0)
      → ((t u : Snapshot) → AllGrow t.pieces u.pieces → Q t → Q u) → Q (now w)
      → Q (state_of x.start x.words x.log)
  in_last Q grows h =
      subst (λ words. Q (state_of x.start words x.log)) (sym (way.x_words who began new token it))
      (subst (λ pairs. Q (state_of pairs v.words x.log)) (sym (way.x_start who began new token it))
      (grows (state_of v.start v.words w.log) (state_of v.start v.words x.log)
      (grow_between v.start v.words w.log x.log (way.lawful_x who began new token it).enabled
      (way.w_to_x who began new token it))
      (way.by_middle who began new token it (λ pairs words. Q (state_of pairs words w.log)) h)))

  -- helping the rebuild of what was below the anchor was refused
  abbrev pub top_refused : (r q : Option Full) (words : ℕ) (full : Full) → words ≡ v.words
      → IsTopShort b w words full → IsTopRefused (pass_face who r) (face_as token new.number q) full
  top_refused r q words full same d = let l = way.b_view who began new token it in record {
    row = d.target;
    at = d.top.at;
    since = goes_on_more (way.v_to_b who began new token it) d.top.since;
    until = goes_on_more d.top.until (way.w_to_x who began new token it);
    child = subst (λ pairs. IsChild (state_of pairs v.words d.top.at) anchor 0 d.target) l.start_is
        (subst (λ words. IsChild (state_of b.start words d.top.at) anchor 0 d.target) l.words_is
        d.top.child);
    had = had_too_few r q words full same d.help (λ asked. record {
      rebuild = d.rebuild;
      started = in_last (λ t. IsStarted t d.rebuild)
          (λ t u g. started_grows t u g d.rebuild) d.of.started;
      target = in_last (λ t. HasTarget t d.rebuild d.target)
          (λ t u g. target_grows t u g d.rebuild d.target) d.of.target_is;
      size = asked_for_rebuild r q d.rebuild full.asked asked;
      help = in_last (λ t. IsAskedFor (LackedAt (face_as token new.number q) w.log) t d.rebuild
          full.asked)
          (λ t u g. asked_grows (LackedAt (face_as token new.number q) w.log)
          (LackedAt (face_as token new.number q) w.log) t u g d.rebuild full.asked
          (λ lacked. lacked))
          (asked_same (LacksNow w) (LackedAt (face_as token new.number q) w.log) (now w) d.rebuild
          full.asked (lacked_then new token it.on.gone.caller (way.x_view who began new token it) q
          full.asked) asked);
    });
  }

  -- the first refusal is kept
  pub keeps_refusal : (r met : Option Full) (words : ℕ) → words ≡ v.words
      → IfSome met (IsTopShort b w words)
      → KeepsRefusal (pass_face who r) (face_as token new.number (option_or r met))
  keeps_refusal r met words same cause = record {
    stays = λ full e. ap (λ o. option_or o met) e;
    cause = λ full e. from r met cause full e;
  }
    where
      from : (o m : Option Full) → IfSome m (IsTopShort b w words) → (full : Full)
          → option_or o m ≡ Some full → (o ≡ Some full) ⊎ IsTopRefused (pass_face who r)
          (face_as token new.number (option_or r met)) full
      from (Some first) m c full e = inl e
      from None (Some other) c full e =
          inr (top_refused r (option_or r met) words full same
          (subst (IsTopShort b w words) (cc) c))
      from None None c full e = absurd (cc)
