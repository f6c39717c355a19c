-- Refusals, in the words of a pass. Serves `update`.
use Rattle.std.proofs.Common.{◌≡◌, ℕ, ◌+◌, ◌≤◌, length, Option, Some, sym, subst, inl, inr, arith}
use Rattle.std.specs.Option.{option_or}
use Rattle.ist_core.specs.declared.commands.Command.{Command}
use Rattle.ist_core.specs.declared.ports.Full.{Full}
use Rattle.ist_core.specs.TreeTerms.{changes_of, AllGrow, IsChild, HasTarget, IsFinishedWith, IsReplaced, IsStarted}
use Rattle.ist_core.specs.LogTerms.{state_of, Ever, Log, Snapshot}
use Rattle.ist_core.specs.WordTerms.{start}
use Rattle.ist_core.proofs.AllLogLemmas.{grow_between}
use Rattle.laws_calls.specs.Finishing.{puts_in}
use Rattle.laws_calls.proofs.NumberLemmas.{finished_few}
use Rattle.laws_histories.specs.Searching.{HasPosition}
use Rattle.laws_links.proofs.FinishedLemmas.{target_grows}
use Rattle.laws_links.proofs.FormLemmas.{replaced_grows, started_grows}
use Rattle.ist_rule.specs.RuleTerms.{TokenFace, now}
use Rattle.ist_rule.specs.declared.view.View.{View}
use Rattle.ist_rule.proofs.LaterLemmas.{goes_on_more}
use Rattle.ist_rows.specs.RowTerms.{LeavesTooFew}
use Rattle.ist_rows.specs.declared.callers.Caller.{Caller}
use Rattle.laws_stability.proofs.LaterLemmas.{ever_later}
use Rattle.ist_rebuild.specs.Helping.{IsAskedFor, for_change, for_node}
use Rattle.ist_rebuild.specs.Lacking.{LacksNow}
use Rattle.ist_updates.specs.declared.updates.Due.{Due}
use Rattle.ist_updates.specs.Asking.{Updates}
use Rattle.ist_updates.specs.Counting.{CameToLimit}
use Rattle.ist_updates.specs.Refusals as updates
use Rattle.ist_updates.proofs.WayLemmas.{met_wider, way_longer}
use Rattle.ist_tree.specs.CallTerms.{PassFace, face_as, pass_face, HadTooFew, IsAskedForRow, IsAskedIn, IsForHelp, IsForRebuild, IsInSlotOf, IsOnKeysWay, IsRefused, IsRowRefused, KeepsRowRefusal, LackedAt, for_leaf, for_other, for_own, for_pair, for_put, for_remove, for_rebuild, for_start}
use Rattle.ist_tree.specs.Working as working
use Rattle.laws_histories.proofs.ChangeLemmas.{position_on}
use Rattle.ist_tree.proofs.ShortLemmas.{asked_grows, asked_same, lacked_then, puts_rise, due_slot_grows, left_same, short_now}
use Rattle.ist_tree.proofs.GoingLemmas.{lawful_after}
use Rattle.ist_tree.proofs.FinishLemmas.{IsUpdateCall, b_start, b_view, b_words, b_to_w, lawful_w, lawful_x, v_to_b, w_start, w_to_x, w_words, x_start, x_words}

module _ (who began new : Caller) (token : TokenFace) (command : Command)
    (it : IsUpdateCall who began new token command) (r q : Option Full) where
  -- the pass before the call
  abbrev before : PassFace
  before = pass_face who r

  -- the pass after the call
  abbrev following : PassFace
  following = face_as token new.number q

  -- the view before the call
  abbrev v : View
  v = who.token.view

  -- the view after the work
  abbrev w : View
  w = new.token.view

  -- the view after the call
  abbrev x : View
  x = token.view

  -- there were too few words at the end of the work
  abbrev had_too_few : {A : ℕ → Type 0} {B : Log → ℕ → Type 0} (words : ℕ) (full : Full)
      → words ≡ v.words → LeavesTooFew A w.start words w.log full
      → (A full.asked → B w.log full.asked) → HadTooFew B before following full
  had_too_few words full same s to = record {
    at = w.log;
    since = goes_on_more (v_to_b who began new token command it) (b_to_w who began new token command it);
    until = w_to_x who began new token command it;
    left = left_same full (w_start who began new token command it) same s to;
  }

  -- the state after the work, by the pass's table
  now_w : now w ≡ state_of v.start v.words w.log
  now_w = grind (arith, w_start, w_words)

  -- what helping a rebuild took
  asked_for_rebuild : (rebuild asked : ℕ) → IsAskedFor (LacksNow w) (now w) rebuild asked
      → IsForRebuild following asked
  asked_for_rebuild rebuild asked (for_change e lacks) = inl e
  asked_for_rebuild rebuild asked (for_node row k e fin node) =
      let lawful = lawful_w who began new token command it in
      let here = subst (λ t. IsFinishedWith t row.target k) now_w fin in
      let most = finished_few v.start v.words lawful.opens w.log lawful.enabled row.target k here.row
      here.published here.status in
      let rise = puts_rise v.start v.words w.log x.log (w_to_x who began new token command it) in
      let some = node.some in let le = node.most in inr record {
        some = some;
        least = node.least;
        most = subst (λ words. some ≤ length x.start + puts_in (changes_of x.start words x.log))
            (sym (x_words who began new token command it))
            (subst (λ pairs. some ≤ length pairs + puts_in (changes_of pairs v.words x.log))
            (sym (x_start who began new token command it)) (omega arith));
        asked_is = node.asked_is;
      }

  -- what is true of the state after the work, and of each that grows from it, is true after the call
  in_last : (Q : Snapshot → Type 0)
      → ((t u : Snapshot) → AllGrow t.pieces u.pieces → Q t → Q u) → Q (now w)
      → Q (state_of x.start x.words x.log)
  in_last Q grows h =
      subst (λ words. Q (state_of x.start words x.log)) (sym (x_words who began new token command it))
      (subst (λ pairs. Q (state_of pairs v.words x.log)) (sym (x_start who began new token command it))
      (grows (state_of v.start v.words w.log) (state_of v.start v.words x.log)
      (grow_between v.start v.words w.log x.log (lawful_x who began new token command it).enabled
      (w_to_x who began new token command it)) (subst Q now_w h)))

  -- a row that the caller lacked after the work
  lacked_last : (asked : ℕ) → LacksNow w asked → LackedAt following w.log asked
  lacked_last asked lacks = lacked_then new token it.caller it.last q asked lacks

  -- and of this very rebuild
  for_help : (rebuild asked : ℕ) → IsAskedFor (LacksNow w) (now w) rebuild asked
      → IsForHelp following w.log rebuild asked
  for_help rebuild asked a = in_last (λ t. IsAskedFor (LackedAt following w.log) t rebuild asked)
      (λ t u g. asked_grows (LackedAt following w.log) (LackedAt following w.log) t u g rebuild asked
      (λ lacked. lacked))
      (asked_same (LacksNow w) (LackedAt following w.log) (now w) rebuild asked (lacked_last asked) a)

  -- a rebuild that was started is started after the call
  started_last : (rebuild : ℕ) → IsStarted (now w) rebuild
      → IsStarted (state_of x.start x.words x.log) rebuild
  started_last rebuild = in_last (λ t. IsStarted t rebuild) (λ t u g. started_grows t u g rebuild)

  -- one that wasn't replaced when the call had begun wasn't before
  unreplaced_first : (rebuild : ℕ) → ¬ (IsReplaced (now began.token.view) rebuild)
      → ¬ (IsReplaced (now v) rebuild)
  unreplaced_first rebuild unreplaced k = unreplaced
      (subst (λ t. IsReplaced t rebuild) (sym now_b)
      (replaced_grows (now v) (state_of v.start v.words began.token.view.log)
      (grow_between v.start v.words v.log began.token.view.log
      (lawful_after v began.token.view (b_view who began new token command it)).enabled
      (v_to_b who began new token command it)) rebuild k))
    where
      now_b : now began.token.view ≡ state_of v.start v.words began.token.view.log
      now_b = grind (arith, b_start, b_words)

  -- a rebuild that was started in the slot of the due row
  in_slot : (due : Due)
      → Ever (start v.start v.words) (λ t. IsChild t due.parent due.index due.target) w.log
      → (rebuild : ℕ) → working.IsInDueSlot (now w) rebuild due
      → IsInSlotOf following rebuild due.target
  in_slot due child rebuild slot =
      let s = in_last (λ t. working.IsInDueSlot t rebuild due)
      (λ t u g. due_slot_grows t u g rebuild due) slot in
      record {
        site = s.site;
        published = s.published;
        was_child =
            subst (λ n. Ever (start x.start x.words) (λ t. IsChild t n s.site.index due.target) x.log)
            (sym s.parent_is)
            (subst (λ i. Ever (start x.start x.words) (λ t. IsChild t due.parent i due.target) x.log)
            (sym s.index_is)
            (subst (λ n. Ever (start x.start n) (λ t. IsChild t due.parent due.index due.target) x.log)
            (sym (x_words who began new token command it))
            (subst (λ pairs. Ever (start pairs v.words)
            (λ t. IsChild t due.parent due.index due.target) x.log)
            (sym (x_start who began new token command it))
            (ever_later (start v.start v.words) (λ t. IsChild t due.parent due.index due.target)
            (w_to_x who began new token command it) child))));
      }

  -- the rebuild of a row that reached its limit in the work was refused
  pub row_was_refused : (words : ℕ) (full : Full) → words ≡ v.words → (due : Due)
      → CameToLimit v.start v.words began.token.view.log w.log who.number due.target
      → Ever (start v.start v.words) (λ t. IsChild t due.parent due.index due.target) w.log
      → working.IsDueRefused (now began.token.view) w due words full
      → IsRowRefused before following due.target full
  row_was_refused words full same due c child d = record {
    came = record {
      at = c.at;
      since = goes_on_more (v_to_b who began new token command it) c.since;
      until = goes_on_more c.until (w_to_x who began new token command it);
      row = c.row;
      published = c.published;
      reached = c.reached;
    };
    had = had_too_few words full same d asked;
    after = c.until;
  }
    where
      asked : working.IsAskedToRebuild (now began.token.view) w due full.asked
          → IsAskedForRow before following w.log due.target full.asked
      asked (working.for_start e lacks) = for_start e (lacked_last full.asked lacks)
      asked (working.for_own rebuild started of a) = for_own
          record {
            rebuild = rebuild;
            started = started_last rebuild started;
            target = in_last (λ t. HasTarget t rebuild due.target)
                (λ t u g. target_grows t u g rebuild due.target) of;
            size = asked_for_rebuild rebuild full.asked a;
            help = for_help rebuild full.asked a;
          }
      asked (working.for_other rebuild started unreplaced slot a) = for_other
          record {
            rebuild = rebuild;
            started = started_last rebuild started;
            unreplaced = unreplaced_first rebuild unreplaced;
          }
          (in_slot due child rebuild slot)
          (asked_for_rebuild rebuild full.asked a) (for_help rebuild full.asked a)

  -- the update itself was
  pub update_was_refused : (words key : ℕ) (value : Option ℕ) (full : Full) → words ≡ v.words
      → updates.WasRefused began.token.view key value words full w
      → IsRefused before following key value full
  update_was_refused words key value full same d = had_too_few
      {A = updates.IsAskedBy (record began.token.view { searches = w.searches }) w key value}
      words full same
      (short_now Updates (record began.token.view { searches = w.searches }) words full w d
      (λ for. for))
      (asked value full.asked)
    where
      asked : (value : Option ℕ) (n : ℕ)
          → updates.IsAskedBy (record began.token.view { searches = w.searches }) w key value n
          → IsAskedIn before following w.log key value n
      asked _ n (updates.for_leaf e lacks) = for_leaf e (lacked_last n lacks)
      asked _ n (updates.for_pair e lacks met) = for_pair e (lacked_last n lacks)
          (met_wider v.start v.words v.log began.token.view.log w.log x.log
          (v_to_b who began new token command it) (w_to_x who began new token command it) key
          (subst (λ pairs. updates.MetOtherLeaf pairs v.words began.token.view.log w.log key)
          (b_start who began new token command it)
          (subst (λ words. updates.MetOtherLeaf began.token.view.start words began.token.view.log w.log
          key) (b_words who began new token command it) met)))
      asked _ n (updates.for_put e lacks) = for_put e (lacked_last n lacks)
      asked _ n (updates.for_remove found has e lacks) = for_remove found
          (position_on v.start v.words v.log began.token.view.log w.log x.log
          (v_to_b who began new token command it) (w_to_x who began new token command it) key
          (Some found)
          (subst (λ pairs. HasPosition pairs v.words began.token.view.log w.log key (Some found))
          (b_start who began new token command it)
          (subst (λ words. HasPosition began.token.view.start words began.token.view.log w.log key
          (Some found)) (b_words who began new token command it) has)))
          e (lacked_last n lacks)
      asked value n (updates.for_rebuild rebuild started unreplaced way a) = for_rebuild
          record {
            rebuild = rebuild;
            started = started_last rebuild started;
            unreplaced = unreplaced_first rebuild unreplaced;
          }
          (on_its_way way) (asked_for_rebuild rebuild n a) (for_help rebuild n a)
        where
          on_its_way : updates.IsOnWay began.token.view.start began.token.view.words w.log key rebuild
              → IsOnKeysWay following key rebuild
          on_its_way way = subst (λ words. updates.IsOnWay x.start words x.log key rebuild)
              (sym (x_words who began new token command it))
              (subst (λ pairs. updates.IsOnWay pairs v.words x.log key rebuild)
              (sym (x_start who began new token command it))
              (way_longer v.start v.words w.log x.log (lawful_x who began new token command it)
              (w_to_x who began new token command it) key rebuild
              (subst (λ pairs. updates.IsOnWay pairs v.words w.log key rebuild)
              (b_start who began new token command it)
              (subst (λ words. updates.IsOnWay began.token.view.start words w.log key rebuild)
              (b_words who began new token command it) way))))

  -- the first refusal of a rebuild is kept
  pub keeps_first : (met : Option Full) → q ≡ option_or r met
      → ((full : Full) → met ≡ Some full → (row : ℕ) × IsRowRefused before following row full)
      → KeepsRowRefusal before following
  keeps_first met is cause = grind arith
