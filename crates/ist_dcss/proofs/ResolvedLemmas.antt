-- A caller that installs a change and helps it has no change that isn't resolved. Serves
-- `laws.helped_changes_are_resolved`.
use Rattle.std.proofs.Common.{◌≡◌, ◌⊎◌, ℕ, List, [], ◌∷◌, Some, refl, sym, ap, ◌∙◌, subst, inl, inr, ⊎_elim, Bool, true, false, arith}
use Rattle.ist_core.specs.declared.events.Event.{Event}
use Rattle.ist_core.specs.declared.events.Event.TheVariants.{Install, Reserve, Root, Place, Lose, Okay, Decide}
use Rattle.ist_core.specs.declared.lists.Row.{Row}
use Rattle.ist_core.specs.declared.pairs.Pair.{Pair}
use Rattle.ist_core.specs.declared.states.ChangeRow.{ChangeRow}
use Rattle.ist_core.specs.declared.events.Who.TheVariants.{Caller}
use Rattle.ist_core.specs.LogTerms.{no_more, one_more, LaterBy, EachEnabled, state_of, Log, Happened, Resolves, Snapshot, decision_word, same_log, one_event, Okays, Enabled}
use Rattle.ist_core.specs.TreeTerms.{AllResolvedOf, ChangeGrows, CanDecide}
use Rattle.ist_core.specs.WordTerms.{Change, start, undecided, decided_yes, decided_no, IsOpen}
use Rattle.ist_core.proofs.AllEventLemmas.{sound, sound_start}
use Rattle.ist_rule.specs.RuleTerms.{IsResolved, WentOn, now}
use Rattle.ist_rule.specs.declared.view.View.{View}
use Rattle.ist_rule.proofs.CallLemmas.{installs_not, resolved_later}
use Rattle.ist_rule.proofs.ChangeLemmas.{ChangeComes, stood, is_installed, change_comes, grows_same_change}
use Rattle.ist_rule.proofs.EventLemmas.{goes_on_who}
use Rattle.ist_rule.proofs.LaterLemmas.{later_more}
use Rattle.ist_rule.proofs.WentOnLemmas.{went_now, went_lawful, went_grow}
use Rattle.ist_dcss.specs.Helping.{Serves, IsOut, WasSeen}
use Rattle.ist_dcss.specs.Installing.{Filling, rows_of, IsInstalled}
use Rattle.ist_core.proofs.AllLogLemmas.{change_there}
use Rattle.ist_rows.specs.RowTerms.{KeepsRows}
use Rattle.laws_links.proofs.InductionLemmas.{changes_by}

-- each change of the caller except one has left its slot
abbrev AllResolvedBut : List Pair → ℕ → Log → ℕ → ℕ → Type 0
AllResolvedBut pairs words log number base =
    (b : ℕ) (r : ChangeRow) → (state_of pairs words log).pieces b ≡ Some (Change r)
    → r.owner ≡ number → (b ≡ base) ⊎ Happened (Resolves b) log

-- after an event that installs no change of the caller but this one, all others are resolved
resolved_but_on : (pairs : List Pair) (words : ℕ) (log : Log) (event : Event) (number base : ℕ)
    → EachEnabled (start pairs words) (event ∷ log)
    → ((b : ℕ) (rows : List Row) → event ≡ Install number b rows → b ≡ base)
    → AllResolvedBut pairs words log number base
    → AllResolvedBut pairs words (event ∷ log) number base
resolved_but_on pairs words log event number base enabled only all b r there owned =
    at (change_comes (start pairs words) log event enabled.1
    (sound (start pairs words) log (sound_start pairs words) enabled.0) b r there) refl
  where
    at : {e : Event} → ChangeComes (start pairs words) log b r e → event ≡ e
        → (b ≡ base) ⊎ Happened (Resolves b) (event ∷ log)
    at (stood old was g) is = ⊎_elim (λ k. inl k) (λ h. inr (inr h))
        (all b old was (sym (grows_same_change g).1 ∙ owned))
    at (is_installed {rows = rows} h g) is = grind (arith, grows_same_change)

-- all others stay resolved while the caller only makes steps that serve the change
resolved_but_later : (pairs : List Pair) (words : ℕ) (number base : ℕ) (old log : Log)
    → EachEnabled (start pairs words) log → LaterBy (Caller number) (Serves base) old log
    → AllResolvedBut pairs words old number base → AllResolvedBut pairs words log number base
resolved_but_later pairs words number base old _ enabled no_more all = all
resolved_but_later pairs words number base old _ enabled
    (one_more {log = log} event l (inl other)) all =
    resolved_but_on pairs words log event number base enabled
    (λ b rows e. absurd (installs_not number event other b rows e))
    (resolved_but_later pairs words number base old log enabled.0 l all)
resolved_but_later pairs words number base old _ enabled
    (one_more {log = log} event l (inr is)) all =
    resolved_but_on pairs words log event number base enabled
    (λ b rows e. absurd (subst (Serves base) e is))
    (resolved_but_later pairs words number base old log enabled.0 l all)

module _ (v w x : View) (number base : ℕ) (f : Filling) (mine : v.who ≡ Caller number)
    (all : IsResolved v number) (i : IsInstalled v base f w) (g : WentOn (Serves base) w x) where
  abbrev event : Event
  event = Install i.number base (rows_of f base)

  start_is : w.start ≡ v.start
  start_is = ap (λ y. y.start) i.logged.view ∙ ap (λ y. y.start) i.seen.same

  words_is : w.words ≡ v.words
  words_is = ap (λ y. y.words) i.logged.view ∙ ap (λ y. y.words) i.seen.same

  who_is : w.who ≡ Caller number
  who_is = ap (λ y. y.who) i.logged.view ∙ ap (λ y. y.who) i.seen.same ∙ mine

  log_is : w.log ≡ event ∷ i.logged.before
  log_is = ap (λ y. y.log) i.logged.view

  enabled : EachEnabled (start w.start w.words) (event ∷ i.logged.before)
  enabled = subst (EachEnabled (start w.start w.words)) log_is i.logged.sound.lawful.enabled

  -- all was resolved before the change was installed
  before : AllResolvedOf (state_of w.start w.words i.logged.before) i.logged.before number
  before = grind (arith, resolved_later, later_more, goes_on_who, start_is, words_is)

  -- after it all other changes are resolved
  following : AllResolvedBut w.start w.words w.log number base
  following = subst (λ log. AllResolvedBut w.start w.words log number base) (sym log_is)
      (resolved_but_on w.start w.words i.logged.before event number base enabled
      (λ b rows e. base_is b rows e)
      (λ b r there owned. inr (before b r there owned)))
    where
      base_is : (b : ℕ) (rows : List Row) → event ≡ Install number b rows → b ≡ base
      base_is b rows e = cc

  -- once it is out of its slot, all is
  pub resolved_helped : IsOut x base → IsResolved x number
  resolved_helped out b r there owned =
      ⊎_elim (λ e. subst (λ n. Happened (Resolves n) x.log) (sym e) out.resolved) (λ h. h)
      (resolved_but_later w.start w.words number base w.log x.log
      (went_lawful (Serves base) w x g).enabled
      (subst (λ y. LaterBy y (Serves base) w.log x.log) who_is g.later) following b r
      (subst (λ t. t.pieces b ≡ Some (Change r)) (went_now (Serves base) w x g) there) owned)

-- ---- an installed change stays installed, and who might help it may help it, as callers go on. Serves
-- `helping`.

-- an installed change is installed still
pub went_row : (P : Event → Type 0) (change : ℕ) (v w : View) → WentOn P v w → (row : ChangeRow)
    → (now v).pieces change ≡ Some (Change row)
    → (r : ChangeRow) × ((now w).pieces change ≡ Some (Change r)) × ChangeGrows row r
went_row P change v w h row e = grind (arith, change_there, went_grow)

-- no step of help changes what its caller holds
pub serves_keep : (change : ℕ) (event : Event) → Serves change event → KeepsRows event
serves_keep change (Reserve caller base size) is = absurd is
serves_keep change (Install caller base rows) is = absurd is
serves_keep change (Root caller rebuild word rows) is = absurd is
serves_keep change (Place caller rebuild i word rows) is = absurd is
serves_keep change (Lose caller bases) is = absurd is
serves_keep change _ is = tt

-- ---- how a change was decided, and what the node was when it was. Serves `help`.

-- what was seen was seen
pub seen_on : (P : Snapshot → ℕ → Type 0) (pairs : List Pair) (words : ℕ) (log : Log)
    (event : Event)
    (change : ℕ) → WasSeen P pairs words log change → WasSeen P pairs words (event ∷ log) change
seen_on P pairs words log event change s = record {
  prefix = s.prefix;
  goes_on = one_event event s.goes_on;
  row = s.row;
  installed = s.installed;
  node = s.node;
}

-- the node is not open
abbrev pub IsNotOpen : Snapshot → ℕ → Type 0
IsNotOpen t node = ¬ (IsOpen t node)

-- a change is undecided, or decided yes, or decided no and its node was seen not to be open
abbrev pub HasFate : List Pair → ℕ → Log → ℕ → ChangeRow → Type 0
HasFate pairs words log base x =
    (x.decision ≡ undecided) ⊎ ((x.decision ≡ decided_yes) ⊎ ((x.decision ≡ decided_no)
    × WasSeen IsNotOpen pairs words log base))

module _ (pairs : List Pair) (words : ℕ) where
  fate_kept : (log : Log) (event : Event) (base : ℕ) (x : ChangeRow)
      → HasFate pairs words log base x → HasFate pairs words (event ∷ log) base x
  fate_kept log event base x (inl e) = inl e
  fate_kept log event base x (inr (inl e)) = inr (inl e)
  fate_kept log event base x (inr (inr k)) = grind (arith, seen_on)

  fate_decided : (log : Log) (caller base : ℕ) (said : Bool)
      → (h : CanDecide (state_of pairs words log) log caller base said)
      → HasFate pairs words (Decide caller base said ∷ log) base
      (record (h.change) { decision = decision_word said })
  fate_decided log caller base true h = inr (inl refl)
  fate_decided log caller base false h =
      inr (inr (
        refl,
        record {
          prefix = log;
          goes_on = one_event (Decide caller base false) same_log;
          row = h.change;
          installed = h.pending.published;
          node = h.outcome;
        },
      ))

  -- each change has a fate
  pub fate : (log : Log) → EachEnabled (start pairs words) log → (base : ℕ) (x : ChangeRow)
      → (state_of pairs words log).pieces base ≡ Some (Change x) → HasFate pairs words log base x
  fate = changes_by pairs words (HasFate pairs words)
      (λ log event h base x old there was. fate_kept log event base x was)
      (λ log caller base rows h can. inl can.unset)
      (λ log caller base said h can was. fate_decided log caller base said can)

  -- an Okay sees the node open
  okay_now : (log : Log) (event : Event) (base : ℕ) → Enabled (start pairs words) log event
      → Okays base event → WasSeen IsOpen pairs words (event ∷ log) base
  okay_now log (Okay caller change) base h is = record {
    prefix = log;
    goes_on = one_event (Okay caller change) same_log;
    row = h.change;
    installed = subst (λ b. (state_of pairs words log).pieces b ≡ Some (Change h.change)) is
        h.pending.published;
    node = h.node_open;
  }
  okay_now log _ base h is = absurd is

  -- a change that has an Okay was seen with its node open
  pub okay_seen : (log : Log) → EachEnabled (start pairs words) log → (base : ℕ)
      → Happened (Okays base) log → WasSeen IsOpen pairs words log base
  okay_seen [] h base happened = absurd happened
  okay_seen (event ∷ log) h base (inl is) = okay_now log event base h.1 is
  okay_seen (event ∷ log) h base (inr before) =
      seen_on IsOpen pairs words log event base (okay_seen log h.0 base before)
