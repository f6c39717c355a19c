-- A pass that has let calls go: what its next call does holds since the beginning too. Serves
-- `run_rounds`.
use Rattle.std.proofs.Common.{◌≡◌, ℕ, ◌∷◌, Option, sym, ◌∙◌, subst, refl, ⊎_elim, arith}
use Rattle.std.proofs.Math.Nat.{le_trans}
use Rattle.ist_core.specs.declared.commands.Command.{Command}
use Rattle.ist_core.specs.declared.events.Event.TheVariants.{Count, Install}
use Rattle.ist_core.specs.declared.ports.Full.{Full}
use Rattle.ist_core.specs.LogTerms.{Lawful, state_of, GoesOn, Log, same_log}
use Rattle.ist_core.specs.WordTerms.{start}
use Rattle.laws_histories.proofs.ChangeLemmas.{changes_rise}
use Rattle.laws_histories.proofs.DecisionLemmas.{prefixes}
use Rattle.ist_rule.specs.RuleTerms.{MomentsGoOn}
use Rattle.ist_rule.proofs.LaterLemmas.{goes_on_more}
use Rattle.ist_rule.proofs.SpeakLemmas.{go_on_more}
use Rattle.ist_rebuild.specs.Starting.{StartsNone}
use Rattle.ist_tree.specs.CallTerms.{AddsCall, HasSeenMore, CameDue, CountsNowhere, HasCountedInCall, IsTopmostDue, LeavesNoneDue, StartsOnlyDue, is_closed, none_came, was_refused, PassFace, IsRefused, IsRowRefused, KeepsRowRefusal, HasLetGo, HasNoEffect}
use Rattle.ist_updates.specs.Counting.{CountedNowhere}
use Rattle.laws_real_time.specs.Moments.{Moments}
use Rattle.ist_tree.proofs.RowAtLimitLemmas.{whole_or_before}
use Rattle.ist_tree.proofs.CountedLemmas.{counted_more}
use Rattle.ist_tree.proofs.HeardLemmas.{seen_more_then, seen_same}
use Rattle.ist_tree.proofs.InstallLemmas.{due_more, not_before}
use Rattle.ist_tree.proofs.GoingLemmas.{starts_none_more}
use Rattle.ist_tree.proofs.UpdateKeptLemmas.{not_yes_before}
use Rattle.ist_tree.proofs.LoadingLemmas.{keeps_since, let_go_at, refused_since, row_since}

module _ (p : PassFace) (seen : Log) (loaded searches : ℕ) (moments : Moments) (g : GoesOn p.seen seen) (q : PassFace) where
  -- the pass between the two parts
  abbrev m : PassFace
  m = let_go_at p seen loaded searches moments

  -- ---- calls and counts

  adds_since : MomentsGoOn p.moments moments → (command : Command) (reply : Option ℕ)
      → AddsCall m q command reply → AddsCall p q command reply
  adds_since heard command reply a = grind (arith, go_on_more, le_trans, changes_rise, goes_on_more)

  counted_since : Lawful p.tree.start p.tree.words seen → (command : Command)
      → HasCountedInCall m q command → HasCountedInCall p q command
  counted_since lawful command c = record {
    base = c.base;
    change = c.change;
    published = c.published;
    owned = c.owned;
    command_is = c.command_is;
    decision = c.decision;
    since = not_yes_before p.tree.start p.tree.words p.seen seen g lawful.enabled c.base c.since;
    rows = c.rows;
    chain = c.chain;
    counted = λ row i. let it = c.counted row i in
        record { at = it.at; since = goes_on_more g it.since; until = it.until };
  }

  -- ---- rows that reached their limits

  module _ (none : (row : ℕ) → ¬ (CameDue p m row)) (longer : GoesOn seen q.seen) where
    came_then : (row : ℕ) → CameDue p q row → CameDue m q row
    came_then row c = ⊎_elim (λ before. absurd (none row (early before)))
        (λ since. ⊎_elim
        (λ whole. absurd (none row (early (subst (GoesOn (Count p.number row ∷ c.at)) (sym whole) same_log))))
        (λ on. record {
          at = c.at;
          since = on;
          until = c.until;
          row = c.row;
          published = c.published;
          reached = c.reached;
        })
        (whole_or_before seen (Count p.number row) c.at since))
        (prefixes _ _ _ c.until longer)
      where
        early : GoesOn (Count p.number row ∷ c.at) seen → CameDue p m row
        early before = grind arith

    came_since : (row : ℕ) → CameDue m q row → CameDue p q row
    came_since row c = grind (arith, goes_on_more)

    none_since : ((row : ℕ) → ¬ (CameDue m q row)) → (row : ℕ) → ¬ (CameDue p q row)
    none_since quiet row c = quiet row (came_then row c)

    top_since : (row : ℕ) → IsTopmostDue m q row → IsTopmostDue p q row
    top_since row t = grind (arith, came_since, came_then)

    due_since : Lawful p.tree.start p.tree.words seen → LeavesNoneDue m q → LeavesNoneDue p q
    due_since lawful (none_came quiet) = none_came (none_since quiet)
    due_since lawful (is_closed row t closed) = is_closed row (top_since row t) closed
    due_since lawful (was_refused row full t r e) =
        was_refused row full (top_since row t) (row_since p seen loaded searches moments g q lawful row full r) e

  starts_since : StartsOnlyDue p m → GoesOn seen q.seen → StartsOnlyDue m q → StartsOnlyDue p q
  starts_since before longer then = grind (arith, due_more)

-- ---- in the words of what was let go

module _ (p m : PassFace) (h : HasLetGo p m) where
  g : GoesOn p.seen m.seen
  g = h.idle.seen.seen

  -- the pass differs by its log, its loads and its walks only
  pub is_let_go : m ≡ let_go_at p m.seen m.loaded m.searches m.moments
  is_let_go = grind arith

  back : (Q : PassFace → Type 0) → Q m → Q (let_go_at p m.seen m.loaded m.searches m.moments)
  back Q = subst Q is_let_go

  none : (row : ℕ) → ¬ (CameDue p (let_go_at p m.seen m.loaded m.searches m.moments) row)
  none = back (λ (x : PassFace). (row : ℕ) → ¬ (CameDue p x row)) h.idle.none_came

  starts : StartsOnlyDue p (let_go_at p m.seen m.loaded m.searches m.moments)
  starts = back (λ (x : PassFace). StartsOnlyDue p x) h.idle.starts

  module _ (q : PassFace) where
    -- the pass has seen more since the first part
    pub seen_from : HasSeenMore m q → HasSeenMore p q
    seen_from s = seen_more_then p m q h.idle.seen s

    -- a call that the second part adds is added since the first part
    pub adds_from : (command : Command) (reply : Option ℕ) → AddsCall m q command reply
        → AddsCall p q command reply
    adds_from command reply a =
        adds_since p m.seen m.loaded m.searches m.moments g q h.idle.seen.heard command reply
        (back (λ (x : PassFace). AddsCall x q command reply) a)

    -- what the second part counted is counted since the first part
    pub counted_from : Lawful m.tree.start m.tree.words m.seen → (command : Command)
        → HasCountedInCall m q command → HasCountedInCall p q command
    counted_from lawful command c = counted_since p m.seen m.loaded m.searches m.moments g q
        (back (λ (x : PassFace). Lawful x.tree.start x.tree.words m.seen) lawful) command
        (back (λ (x : PassFace). HasCountedInCall x q command) c)

    -- if the second part leaves no row due, none is left due since the first part
    pub due_from : Lawful m.tree.start m.tree.words m.seen → GoesOn m.seen q.seen
        → LeavesNoneDue m q → LeavesNoneDue p q
    due_from lawful longer d = due_since p m.seen m.loaded m.searches m.moments g q none longer
        (back (λ (x : PassFace). Lawful x.tree.start x.tree.words m.seen) lawful) (back (λ (x : PassFace). LeavesNoneDue x q) d)

    -- rebuilds started since the first part were of rows at their limits
    pub starts_from : GoesOn m.seen q.seen → StartsOnlyDue m q → StartsOnlyDue p q
    starts_from longer d =
        starts_since p m.seen m.loaded m.searches m.moments g q starts longer (back (λ (x : PassFace). StartsOnlyDue x q) d)

    -- a refusal in the second part is one since the first part
    pub refused_from : Lawful m.tree.start m.tree.words m.seen → (key : ℕ) (value : Option ℕ)
        (full : Full) → IsRefused m q key value full → IsRefused p q key value full
    refused_from lawful key value full r = refused_since p m.seen m.loaded m.searches m.moments g q
        (back (λ (x : PassFace). Lawful x.tree.start x.tree.words m.seen) lawful) key value full
        (back (λ (x : PassFace). IsRefused x q key value full) r)

    -- a refusal of a rebuild is kept since the first part
    pub keeps_from : Lawful m.tree.start m.tree.words m.seen → KeepsRowRefusal m q
        → KeepsRowRefusal p q
    keeps_from lawful k = grind (arith, keeps_since)

    -- a refusal to rebuild a row in the second part is one since the first part
    pub row_from : Lawful m.tree.start m.tree.words m.seen → (row : ℕ) (full : Full)
        → IsRowRefused m q row full → IsRowRefused p q row full
    row_from lawful row full r = row_since p m.seen m.loaded m.searches m.moments g q
        (back (λ (x : PassFace). Lawful x.tree.start x.tree.words m.seen) lawful) row full
        (back (λ (x : PassFace). IsRowRefused x q row full) r)

    -- if the second part counted nowhere, nothing was counted since the first part
    pub nowhere_from : GoesOn m.seen q.seen → CountsNowhere m q → CountsNowhere p q
    nowhere_from longer none = counted_more p.number p.seen m.seen q.seen longer h.idle.uncounted
        (subst (λ n. CountedNowhere m.seen q.seen n) h.idle.seen.number none)

    -- what had no effect had none since the beginning
    pub idle_from : HasNoEffect m q → HasNoEffect p q
    idle_from i = record {
      seen = seen_from i.seen;
      refused = i.refused ∙ h.idle.refused;
      none_came = none_since p m.seen m.loaded m.searches m.moments g q none i.seen.seen
          (back (λ (x : PassFace). (row : ℕ) → ¬ (CameDue x q row)) i.none_came);
      uncounted = nowhere_from i.seen.seen i.uncounted;
      starts = starts_from i.seen.seen i.starts;
      unstarted = starts_none_more (state_of p.tree.start p.tree.words p.seen)
          (state_of m.tree.start m.tree.words m.seen)
          (state_of q.tree.start q.tree.words q.seen) p.number h.idle.unstarted
          (subst (StartsNone (state_of m.tree.start m.tree.words m.seen)
          (state_of q.tree.start q.tree.words q.seen)) h.idle.seen.number i.unstarted);
    }

    -- if the second part is given up too, nothing took effect since the first part
    pub let_go_from : HasLetGo m q → HasLetGo p q
    let_go_from l = grind (arith, idle_from)

-- a pass that did nothing has let go
pub let_go_none : (p : PassFace) → HasLetGo p p
let_go_none p = record {
  idle = record {
    seen = seen_same p;
    refused = refl;
    none_came = λ row c. not_before p.tree.start p.tree.words p.number (Count p.number row) p.seen c.at c.since c.until;
    uncounted = λ row c. not_before p.tree.start p.tree.words p.number (Count p.number row) p.seen c.at c.since c.until;
    starts = λ at base rows change since until is kind.
        absurd (not_before p.tree.start p.tree.words p.number (Install p.number base rows) p.seen at since until);
    unstarted = λ base change e own kind said. e;
  };
  calls = refl;
  stamp = refl;
}
