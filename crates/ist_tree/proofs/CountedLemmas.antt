-- What a caller counted in a log, by what it counted in the parts of it. Serves `apply_in_call` and
-- `run_rounds`.
use Rattle.std.proofs.Common.{◌≡◌, ◌-◌, ℕ, ◌+◌, ◌<◌, ◌≤◌, length, Option, sym, ap, subst, arith, ◌⊎◌, ◌∷◌, refl, inl, inr, ⊎_elim, Some, None, ◌∙◌}
use Rattle.ist_core.specs.declared.commands.Command.{Command}
use Rattle.ist_core.specs.declared.events.Event.TheVariants.{Count}
use Rattle.ist_core.specs.declared.events.Who.TheVariants.{Caller as CallerOf}
use Rattle.ist_core.specs.declared.ports.Full.{Full}
use Rattle.ist_core.specs.declared.commands.Command.TheVariants.{Get}
use Rattle.ist_core.specs.WordTerms.{place_limit, start}
use Rattle.laws_histories.proofs.ChangeLemmas.{changes_rise, position_on}
use Rattle.laws_stability.proofs.OwnLemmas.{never_falls}
use Rattle.ist_rule.specs.RuleTerms.{TurnedAt, beginning, TokenFace, CanGiveUp, moment_seen, giving_up, IsSound}
use Rattle.ist_rule.specs.declared.view.View.{View}
use Rattle.ist_find.specs.Searches.{HasSearched}
use Rattle.ist_tree.specs.CallTerms.{BeginsFewWalks, HasSeenMore, PassFace, changes_seen, BeginsFewRounds, PaysForWalks, CountsNowhere, face_as, pass_face, KeepsRowRefusal, HasNoEffect, HadValue, HasStartedNone, IsPass, IsPassWith}
use Rattle.ist_core.specs.LogTerms.{Later, whose, GoesOn, Log, same_log}
use Rattle.laws_calls.proofs.ClosedLemmas.{others_count_nothing, others_start_nothing}
use Rattle.ist_rule.proofs.LaterLemmas.{goes_on_more, later-goes_on, later_more}
use Rattle.ist_rows.specs.declared.callers.Caller.{Caller}
use Rattle.ist_updates.specs.Counting.{CountedNowhere}
use Rattle.ist_tree.proofs.RowAtLimitLemmas.{event_since, whole_or_before}
use Rattle.ist_tree.proofs.InstallLemmas.{not_before, none_due}
use Rattle.laws_histories.proofs.DecisionLemmas.{prefixes}
use Rattle.laws_histories.specs.Searching.{HasPosition}
use Rattle.laws_real_time.specs.declared.moments.Deed.TheVariants.{GivesUp}
use Rattle.ist_rule.proofs.SpeakLemmas.{go_on_more}
use Rattle.ist_tree.proofs.HeardLemmas.{heard_same, heard_turned}
use Rattle.ist_tree.proofs.GoingLemmas.{between_after, between_calls, starts_none_later, IsLaterView, pass_with_later}
use Rattle.ist_tree.proofs.FindingLemmas.{searched_view}
use Rattle.ist_tree.proofs.FoundLemmas.{before, its_position, later, lawful, seen_moments, w_is}
use Rattle.ist_tree.proofs.FinishLemmas as way

-- ---- how many walks the rounds of a conditional update begin. Serves `run_rounds`.

-- a pass that has seen more has seen no fewer changes
pub changes_more : (p q : PassFace) → HasSeenMore p q
    → length (changes_seen p) ≤ length (changes_seen q)
changes_more p q m = grind (arith, changes_rise)

-- before the first round no walk began
pub pays_none : (p : PassFace) → PaysForWalks p p
pays_none p = omega arith

-- a round that saw one change more paid for its walks
pub pays_on : (p m n q : PassFace) → PaysForWalks p m → BeginsFewWalks m n → HasSeenMore n q
    → q.searches ≡ n.searches + 1
    → place_limit - length (changes_seen q) < place_limit - length (changes_seen m)
    → PaysForWalks p q
pays_on p m n q paid few more one fewer = grind (arith, never_falls)

-- a last round that took effect
pub few_taken : (p m q : PassFace) → PaysForWalks p m → BeginsFewWalks m q → HasSeenMore m q
    → BeginsFewRounds p q
few_taken p m q paid few more = let rise = changes_more m q more in omega arith

-- a last round that found another value
pub few_found : (p m n q : PassFace) → PaysForWalks p m → BeginsFewWalks m n → HasSeenMore m n
    → HasSeenMore n q → q.searches ≡ n.searches + 1 → BeginsFewRounds p q
few_found p m n q paid few first more one = grind (arith, never_falls, changes_more)

-- a find in a call of its own begins one walk
pub one_search : (v b w x : View) (n : ℕ) {command : Option Command}
    → TurnedAt v (beginning v command) b → HasSearched b w → x.searches ≡ w.searches
    → v.searches ≡ n → x.searches ≡ n + 1
one_search v b w x n begun seen last first = grind (arith, before)

module _ (number : ℕ) where
  -- if the caller counted nowhere in two parts of a log, it did so nowhere in both together
  pub counted_more : (a b c : Log) → GoesOn b c → CountedNowhere a b number
      → CountedNowhere b c number → CountedNowhere a c number
  counted_more a b c g one two node k =
      ⊎_elim (λ u. one node record { at = k.at; since = k.since; until = u })
      (λ u. following (whole_or_before b (Count number node) k.at u)) (prefixes _ _ _ k.until g)
    where
      following : (b ≡ Count number node ∷ k.at) ⊎ GoesOn b k.at → ⊥
      following (inl e) = one node
          record {
            at = k.at;
            since = k.since;
            until = subst (GoesOn (Count number node ∷ k.at)) (sym e) same_log;
          }
      following (inr s) = two node record { at = k.at; since = s; until = k.until }

  -- what others do is no Count of the caller
  pub others_counted : (a b : Log) → Later (CallerOf number) a b → CountedNowhere a b number
  others_counted a b l node k = grind (arith, not_before, others_count_nothing, event_since)

-- a call whose work counted nowhere counted nowhere
pub way_counted : (who began new : Caller) (token : TokenFace) (command : Command)
    → way.IsUpdateCall who began new token command → (r q : Option Full)
    → CountedNowhere began.token.view.log new.token.view.log began.number
    → CountsNowhere (pass_face who r) (face_as token new.number q)
way_counted who began new token command it r q none = let v = who.token.view.log in
    let b = began.token.view.log in let w = new.token.view.log in let x = token.view.log in
    let n = who.number in counted_more n v b x
    (goes_on_more (way.b_to_w who began new token command it) (way.w_to_x who began new token command it))
    (others_counted n v b (way.later_b who began new token command it))
    (counted_more n b w x (way.w_to_x who began new token command it)
    (subst (λ m. CountedNowhere b w m) it.began_number none)
    (others_counted n w x (way.later_x who began new token command it)))

-- ---- a find that is given up at its end, in the words of its steps, and what it leaves. Serves `find_unless` and `update_if`.

-- what a find that is given up results in, for a pass with this face
pub record FindLeaves (old : PassFace) (who : Caller) (refused : Option Full) (token : TokenFace)
    (key : ℕ) (value : Option ℕ) : Type 0 where
  pub pass : IsPassWith (record who { token = token }) refused
  pub seen : HasSeenMore old (face_as token who.number refused)
  pub others : Later (CallerOf old.number) old.seen token.view.log
  pub calls : token.view.calls ≡ old.calls
  pub stamp : token.view.stamp ≡ old.stamp
  pub position : HadValue old (face_as token who.number refused) key value
  pub unstarted : HasStartedNone old (face_as token who.number refused)
  pub one_walk : token.view.searches ≡ old.searches + 1

-- the caller began a get and searched
module _ (who : Caller) (key : ℕ) (value : Option ℕ) (b w : View) (s : IsSound who.token.view)
    (p : IsPass who) (begun : TurnedAt who.token.view (beginning who.token.view (Some (Get key))) b)
    (seen : HasSearched b w) (has : HasPosition w.start w.words b.log w.log key value) where
  -- the view before the find
  abbrev v : View
  v = who.token.view

  is_w : w ≡ searched_view v key b.log w.log w.loads w.loaded w.searches
      (seen_moments who key value b w s p begun seen has)
  is_w = w_is who key value b w s p begun seen has

  -- it may give its call up
  pub can_leave : CanGiveUp w
  can_leave = grind (arith, between_after, lawful, later_more, before, later, is_w)

  -- and gave it up
  module _ (token : TokenFace) (refused : Option Full) (all : IsPassWith who refused)
      (given : TurnedAt w (giving_up w) token.view) where
    -- the view after the find
    abbrev x : View
    x = token.view

    x_is : x ≡ record v {
      log = x.log;
      moments = moment_seen v x.log GivesUp ∷ given.before;
      loads = w.loads;
      loaded = w.loaded + 1;
      searches = w.searches;
      pending = None;
    }
    x_is = given.view ∙ ap (λ (y : View). giving_up y x.log given.before) is_w

    w_to_x : Later (CallerOf who.number) w.log x.log
    w_to_x = grind arith

    all_later : Later (CallerOf who.number) v.log x.log
    all_later = later_more (later_more (before who key value b w s p begun seen has) (later who key value b w s p begun seen has)) w_to_x

    later_view : IsLaterView v x
    later_view = grind (arith, x_is, later, all_later)

    -- a find that is given up results in this
    pub find_leaves : (old : PassFace) → pass_face who refused ≡ old
        → FindLeaves old who refused token key value
    find_leaves old view = subst (λ (o : PassFace). FindLeaves o who refused token key value) view
        record {
          pass = pass_with_later who token refused all later_view (ap (λ (y : View). y.pending) x_is);
          seen = record {
            tree = ap (λ (y : View). record { table = y.table; start = y.start; words = y.words })
                x_is;
            number = refl;
            seen = later-goes_on all_later;
            heard = go_on_more v.moments b.moments x.moments
                (heard_turned begun _ (ap (λ (y : View). y.moments) begun.view))
                (go_on_more b.moments w.moments x.moments
                (heard_same (ap (λ (y : View). y.moments) seen.same))
                (heard_turned given _ (ap (λ (y : View). y.moments) given.view)));
            stamp = let same = ap (λ (y : View). y.stamp) x_is in omega arith;
          };
          others = all_later;
          calls = ap (λ (y : View). y.calls) x_is;
          stamp = ap (λ (y : View). y.stamp) x_is;
          position = position_on v.start v.words v.log b.log w.log x.log (later-goes_on (before who key value b w s p begun seen has))
              (later-goes_on w_to_x) key value (its_position who key value b w s p begun seen has);
          unstarted = starts_none_later v x later_view who.number p.caller.mine
              (between_calls v who.number s p.caller.mine p.in_none).resolved;
          one_walk = one_search v b w x v.searches begun seen
              (ap (λ (y : View). y.searches) given.view) refl;
        }

-- ---- what only saw more had no effect

-- what had no effect keeps the refusal that there was
pub idle_keeps : (p q : PassFace) → HasNoEffect p q → KeepsRowRefusal p q
idle_keeps p q i = grind arith

-- a pass that only saw more had no effect
pub only_saw : (p q : PassFace) → HasSeenMore p q → q.refused ≡ p.refused
    → Later (CallerOf p.number) p.seen q.seen → HasStartedNone p q → HasNoEffect p q
only_saw p q s r l none =
    grind (arith, before, not_before, event_since, none_due, others_start_nothing)
