-- A pass goes on while others make events. Serves `find` and `meet`.
use Rattle.std.proofs.Common.{ℕ, List, [], arith, ◌≡◌, ◌≢◌, Some, ◌==◌, not, Option, None, map, filter, sym, ap₂, ◌∙◌, subst, ◌⊎◌, inl, inr, ⊎_elim}
use Rattle.ist_core.specs.declared.pairs.Pair.{Pair}
use Rattle.ist_core.specs.declared.states.ChangeRow.{ChangeRow}
use Rattle.ist_core.specs.declared.events.Who.TheVariants.{Caller as CallerOf}
use Rattle.ist_core.specs.declared.lists.HeldRow.{HeldRow}
use Rattle.ist_core.specs.declared.ports.Full.{Full}
use Rattle.ist_core.specs.declared.events.Event.{Event}
use Rattle.ist_core.specs.LogTerms.{whose, Later, IsIdleIn, Lawful, state_of, Log, Snapshot, LaterBy}
use Rattle.ist_core.specs.WordTerms.{Change, start, start_kind}
use Rattle.laws_links.proofs.StartingLemmas.{owner_known}
use Rattle.ist_rule.proofs.CallLemmas.{resolved_later, between_later}
use Rattle.ist_rule.proofs.LaterLemmas.{later_idle, later-goes_on}
use Rattle.ist_rule.proofs.SplitLemmas.{empty_prefix}
use Rattle.laws_calls.specs.Settling.{MadeDue, InstallsNoStart, IsDoneStart, StartsAreDone}
use Rattle.laws_calls.proofs.ClosedLemmas.{due_stay, others_count_nothing, others_start_nothing, starts_stay, done_stays, own_start_stays}
use Rattle.ist_tree.specs.CallTerms.{HasSettled, TreeFace, PassFace, pass_face, IsPass, IsPassWith, KeepsDone}
use Rattle.ist_rule.specs.RuleTerms.{TokenFace, IsSound, now, GoesOnTo, IsResolved, WentOn, KeepsCalls, its_own, IsBetween}
use Rattle.ist_rule.specs.declared.view.View.{View}
use Rattle.ist_rows.specs.RowTerms.{spares_of, is_spare, IsCaller, AreStuck, HasRefused}
use Rattle.ist_rows.specs.declared.callers.Caller.{Caller}
use Rattle.ist_rows.proofs.BuildingLemmas.{all_stuck_on}
use Rattle.ist_rows.proofs.CallerLemmas.{IsCallerIn, caller_later, comes_after}
use Rattle.ist_rows.proofs.ShortLemmas.{held_by_later}
use Rattle.ist_rule.proofs.WentOnLemmas.{went_lawful, went_now}
use Rattle.ist_rebuild.specs.Starting.{StartsDoneSince, StartsNone}
use Rattle.laws_histories.specs.Calls.{MadeNoEntry, HasCalls}
use Rattle.laws_histories.proofs.CallLemmas.{stand_on}

-- ---- what a pass has settled stays so while others go on; a new pass has nothing to settle. Serves all
-- calls of a pass, and `close`.

module _ (pairs : List Pair) (words : ℕ) where
  -- what a caller has settled stays so while others go on
  pub settled_later : (old log : Log) → Lawful pairs words log → (number : ℕ)
      → Later (CallerOf number) old log → HasSettled pairs words old number
      → HasSettled pairs words log number
  settled_later old log l number later h = record {
    resolved = resolved_later pairs words number [] old log l.enabled later h.resolved;
    starts = starts_stay pairs words l.opens (λ event. whose event ≢ CallerOf number) old log number
        (others_start_nothing number) later l.enabled h.resolved h.starts;
    due = due_stay pairs words l.opens (λ event. whose event ≢ CallerOf number) old log number
        (others_count_nothing number) later l.enabled h.due;
  }

  -- at the beginning nothing is anyone's
  first_settled : Lawful pairs words [] → (number : ℕ) → HasSettled pairs words [] number
  first_settled l number = record {
    resolved = λ base change e own. absurd (none base change e);
    starts = λ base change e own kind said rebuild to. absurd (none base change e);
    due = λ node made. absurd (no_count node made);
  }
    where
      none : (base : ℕ) (change : ChangeRow)
          → (state_of pairs words []).pieces base ≡ Some (Change change) → ⊥
      none base change e = let low = owner_known pairs words [] tt base change e in omega arith

      no_count : (node : ℕ) → MadeDue (start pairs words) number node [] → ⊥
      no_count node made = grind arith

  -- so a caller that made no event has settled all
  pub idle_settled : (log : Log) → Lawful pairs words log → (number : ℕ)
      → IsIdleIn (CallerOf number) log → HasSettled pairs words log number
  idle_settled log l number idle =
      settled_later [] log l number (later_idle (empty_prefix log) idle)
      (first_settled record { opens = l.opens; enabled = tt } number)

-- the second view is a later one of the same caller, which made no event since
pub record IsLaterView (v w : View) : Type 0 where
  pub who_is : w.who ≡ v.who
  pub start_is : w.start ≡ v.start
  pub words_is : w.words ≡ v.words
  pub later : Later v.who v.log w.log
  pub sound : IsSound w

-- it is one after loads
pub goes_later : (v w : View) → GoesOnTo v w → IsLaterView v w
goes_later v w g = grind arith

-- its log is lawful by the table of the first
pub lawful_after : (v w : View) → IsLaterView v w → Lawful v.start v.words w.log
lawful_after v w l = grind arith

-- a caller, with the fact that its builds were refused
pub record IsCallerWith (who : Caller) : Type 0 where
  pub caller : IsCaller who
  pub refused : HasRefused who

-- is one still
pub caller_on : (who : Caller) (token : TokenFace) → IsCaller who → HasRefused who
    → IsLaterView who.token.view token.view → IsCallerWith (record who { token = token })
caller_on who token c refused l = let v = who.token.view in let w = token.view in
    let lawful = lawful_after v w l in
    let later : Later (CallerOf who.number) v.log w.log =
    subst (λ x. Later x v.log w.log) c.mine l.later in
    let it = caller_later v.start v.words v.log w.log who.number (spares_of who) lawful later record {
      rows = c.rows;
      builds = c.builds;
    } in
    let now_is : state_of v.start v.words w.log ≡ now w =
    ap₂ (λ q n. state_of q n w.log) (sym l.start_is) (sym l.words_is) in
    let there = subst (λ t. IsCallerIn t who.number (spares_of who)) now_is it in
    let stuck : AreStuck (state_of v.start v.words w.log)
    (map (λ (h : HeldRow). h.size) (filter (λ (h : HeldRow). not (is_spare (spares_of who) h.base))
    (filter (λ (h : HeldRow). h.caller == who.number) (state_of v.start v.words w.log).held))) =
    subst (λ held. AreStuck (state_of v.start v.words w.log)
    (map (λ (h : HeldRow). h.size) (filter (λ (h : HeldRow). not (is_spare (spares_of who) h.base)) held)))
    (sym (held_by_later v.start v.words who.number v.log w.log lawful.enabled later))
    (all_stuck_on (now v) (state_of v.start v.words w.log)
    (comes_after v.start v.words who.number v.log w.log lawful later) _ refused) in
    record {
      caller = record { mine = l.who_is ∙ c.mine; rows = there.rows; builds = there.builds };
      refused = subst (λ (t : Snapshot). AreStuck t
          (map (λ (h : HeldRow). h.size)
          (filter (λ (h : HeldRow). not (is_spare (spares_of who) h.base))
          (filter (λ (h : HeldRow). h.caller == who.number) t.held)))) now_is stuck;
    }

-- a caller in no call is still a pass's caller
pub pass_later : (who : Caller) (token : TokenFace) → IsPass who
    → IsLaterView who.token.view token.view → token.view.pending ≡ None
    → IsPass (record who { token = token })
pass_later who token p l none = let it = caller_on who token p.caller p.refused l in
    record { caller = it.caller; refused = it.refused; in_none = none }

-- a caller in no call is still a pass's caller, and what it has settled is still settled
pub pass_with_later : (who : Caller) (token : TokenFace) (refused : Option Full)
    → IsPassWith who refused → IsLaterView who.token.view token.view → token.view.pending ≡ None
    → IsPassWith (record who { token = token }) refused
pass_with_later who token refused p l none = let v = who.token.view in let w = token.view in
    record {
      pass = pass_later who token p.pass l none;
      settled = λ unrefused.
          subst (λ pairs. HasSettled pairs w.words w.log who.number) (sym l.start_is)
          (subst (λ words. HasSettled v.start words w.log who.number) (sym l.words_is)
          (settled_later v.start v.words v.log w.log (lawful_after v w l) who.number
          (subst (λ x. Later x v.log w.log) p.pass.caller.mine l.later) (p.settled unrefused)));
    }

-- ---- one table

-- a pass steps on the table of its tree
pub table_is : (who : Caller) (refused : Option Full) (p : PassFace) (t u : TreeFace)
    → pass_face who refused ≡ p → p.tree ≡ t → u ≡ t → who.token.view.table ≡ u.table
table_is who refused p t u view same tree = grind arith

-- the tree has as many words as its pass knows
pub words_are : (who : Caller) (refused : Option Full) (p : PassFace) (t u : TreeFace)
    → pass_face who refused ≡ p → p.tree ≡ t → u ≡ t → u.words ≡ who.token.view.words
words_are who refused p t u view same tree = grind arith

-- ---- a caller that starts no rebuild: its starts were there before. Serves `rebuild_due` and `freeze`.

-- two parts in which the caller started none, one after the other, are one such part
pub starts_none_more : (t u w : Snapshot) (number : ℕ) → StartsNone t u number
    → StartsNone u w number → StartsNone t w number
starts_none_more t u w number one two base x e own kind said = grind arith

module _ (P : Event → Type 0) (number : ℕ)
    (none : (event : Event) → P event → InstallsNoStart number event) (v w : View)
    (mine : v.who ≡ CallerOf number) (resolved : IsResolved v number) (went : WentOn P v w) where
  -- a start that the caller has after its steps was there before, if none of the steps installs one
  pub own_start_was : (base : ℕ) (change : ChangeRow) → (now w).pieces base ≡ Some (Change change)
      → change.owner ≡ number → change.kind ≡ start_kind
      → (now v).pieces base ≡ Some (Change change)
  own_start_was base change e own kind = let lawful = went_lawful P v w went in
      own_start_stays v.start v.words lawful.opens
      (λ event. (whose event ≢ CallerOf number) ⊎ P event) v.log number
      (λ event. ⊎_elim (others_start_nothing number event) (none event))
      w.log (subst (λ x. LaterBy x P v.log w.log) mine went.later) lawful.enabled resolved base
      change (subst (λ t. t.pieces base ≡ Some (Change change)) (went_now P v w went) e) own kind

  -- so the caller has started none
  pub starts_none_went : StartsNone (now v) (now w) number
  starts_none_went base change e own kind said = own_start_was base change e own kind

-- ---- starts that are done

-- a state without rows
abbrev no_rows : Snapshot → Snapshot
no_rows t = record t { pieces = λ base. None }

-- starts that are kept done since any state are done
pub keeps_all : (old new : Caller) → KeepsDone old new
    → StartsAreDone (now old.token.view) old.number → StartsAreDone (now new.token.view) old.number
keeps_all old new keeps done base change e own kind said rebuild to =
    ⊎_elim (λ was. absurd (cc)) (λ d. d)
    (keeps (no_rows (now old.token.view))
    (λ base change e own kind said rebuild to. inr (done base change e own kind said rebuild to))
    base change e own kind said rebuild to)

-- a start that was decided yes before isn't one since
pub since_none : (t u : Snapshot) (number : ℕ) → StartsNone t u number → StartsDoneSince t u number
since_none t u number none base change e own kind said rebuild to = grind arith

-- the caller has started none if only others made events
pub starts_none_later : (v w : View) → IsLaterView v w → (number : ℕ) → v.who ≡ CallerOf number
    → IsResolved v number → StartsNone (now v) (now w) number
starts_none_later v w l number mine resolved base x e own kind said =
    let lawful = lawful_after v w l in
    own_start_stays v.start v.words lawful.opens (λ event. whose event ≢ CallerOf number) v.log
    number (others_start_nothing number) w.log
    (subst (λ who. Later who v.log w.log) mine l.later) lawful.enabled resolved base x
    (subst (λ pairs. (state_of pairs v.words w.log).pieces base ≡ Some (Change x)) l.start_is
    (subst (λ words. (state_of w.start words w.log).pieces base ≡ Some (Change x)) l.words_is e))
    own kind

-- starts that are done since a state stay so while others make events
pub since_later : (v w : View) → IsLaterView v w → (number : ℕ) → v.who ≡ CallerOf number
    → IsResolved v number → (first : Snapshot) → StartsDoneSince first (now v) number
    → StartsDoneSince first (now w) number
since_later v w l number mine resolved first done base change e own kind said rebuild to =
    let lawful = lawful_after v w l in
    let old = starts_none_later v w l number mine resolved base change e own kind said in
    ⊎_elim (λ was. inl was)
    (λ d. inr (there (done_stays v.start v.words lawful.opens v.log w.log (later-goes_on l.later)
    lawful.enabled base change rebuild old d)))
    (done base change old own kind said rebuild to)
  where
    there : IsDoneStart (state_of v.start v.words w.log) change rebuild
        → IsDoneStart (now w) change rebuild
    there d =
        subst (λ words. IsDoneStart (state_of w.start words w.log) change rebuild) (sym l.words_is)
        (subst (λ pairs. IsDoneStart (state_of pairs v.words w.log) change rebuild) (sym l.start_is) d)

-- ---- a caller between calls: its calls are placed in the log that it has seen, and in each log that
-- goes on from it by others. Serves all calls of a pass.

module _ (v : View) (number : ℕ) (s : IsSound v) (mine : v.who ≡ CallerOf number)
    (none : v.pending ≡ None) where
  -- the entries of the caller are its calls' entries, and its changes are resolved
  pub between_calls : IsBetween v.start v.words v.log number v.calls
  between_calls = grind arith

  -- this stays so in a log that goes on by others
  pub between_after : (log : Log) → Lawful v.start v.words log → Later (CallerOf number) v.log log
      → IsBetween v.start v.words log number v.calls
  between_after log lawful l =
      between_later v.start v.words number v.calls v.log log lawful.enabled l between_calls

  -- the caller has no more entries there
  pub no_entry_after : (log : Log) → Lawful v.start v.words log
      → Later (CallerOf number) v.log log → MadeNoEntry v.start v.words number v.log log
  no_entry_after log lawful l = (between_after log lawful l).made ∙ sym between_calls.made

  -- its calls are placed in all that it has seen, and have stamps up to its own
  pub has_its_calls : HasCalls v.start v.words v.log number v.stamp v.calls
  has_its_calls =
      let at = s.well_made.stands number (subst (KeepsCalls number) (sym mine) its_own) in record {
        stand = stand_on v.start v.words at.prefix v.log number v.calls at.goes_on
            (between_calls.made ∙ sym at.stands.exactly) at.stands;
        stamps = s.well_made.stamps;
      }
