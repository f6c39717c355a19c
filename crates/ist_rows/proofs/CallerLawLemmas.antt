-- A caller whose token went on by its own events, in terms of its views. Serves `laws`.
use Rattle.std.proofs.Common.{◌≡◌, ℕ, not, List, ◌∷◌, map, filter, sym, ap, ◌∙◌, subst, inl, inr, None, arith}
use Rattle.ist_core.specs.declared.events.Event.{Event}
use Rattle.ist_core.specs.declared.lists.HeldRow.{HeldRow}
use Rattle.ist_core.specs.declared.pairs.Pair.{Pair}
use Rattle.ist_core.specs.declared.events.Who.TheVariants.{Caller as CallerOf}
use Rattle.ist_core.specs.declared.events.Event.TheVariants.{Reserve}
use Rattle.ist_core.specs.LogTerms.{no_more, one_more, whose, Later, LaterBy, EachEnabled, Lawful, state_of, Log, same_log, one_event, Snapshot}
use Rattle.ist_core.specs.TreeTerms.{AllResolvedOf}
use Rattle.ist_core.specs.WordTerms.{start}
use Rattle.ist_rule.specs.RuleTerms.{IsResolved, TokenFace, WentOn, now, Logged, LoggedLoad, Turned, searching}
use Rattle.ist_rule.specs.declared.view.View.{View}
use Rattle.ist_rule.proofs.CallLemmas.{installs_not}
use Rattle.ist_rule.proofs.LaterLemmas.{later-goes_on}
use Rattle.ist_rule.proofs.UndecidedLemmas.{resolved_on}
use Rattle.ist_rule.proofs.WentOnLemmas.{later_by-goes_on, went_who, went_now, went_lawful}
use Rattle.ist_rule.proofs.SearchedOnLemmas.{searching_on}
use Rattle.ist_rows.specs.RowTerms.{Caller, Kind, spares_of, is_spare, held_by, build_sizes, IsCaller, AreStuck, HasRefused, KeepsRows, InstallsNone, held_after, GivesUp, AreBasesOf, without_rows, IsWithout, sizes_built, kind_words, Spares, row_of, with_spare, Reserved}
use Rattle.ist_rows.proofs.ReserveLemmas.{ComesAfter, Took, took}
use Rattle.ist_rows.proofs.BuildingLemmas.{all_stuck_on}
use Rattle.ist_rows.proofs.CallerLemmas.{IsCallerIn, caller_later}
use Rattle.ist_rows.proofs.GivenRowsLemmas.{sizes_given, caller_given}
use Rattle.ist_rows.proofs.HeldAfterLemmas.{held_by_own, held_by_went, after_between, caller_between}
use Rattle.ist_rows.proofs.ShortLemmas.{held_by_later}
use Rattle.ist_rows.proofs.CallerGoingLemmas.{sizes_taken}

-- ---- many events

-- what the caller holds stays
same_held : (who : Caller) (token : TokenFace) → IsCaller who
    → WentOn KeepsRows who.token.view token.view
    → held_by (now token.view) who.number ≡ held_by (now who.token.view) who.number
same_held who token c g = grind (arith, went_now, held_by_went, went_lawful)

-- a caller whose token went on by events that keep rows is still a caller
pub caller_went : (who : Caller) (token : TokenFace) → IsCaller who
    → WentOn KeepsRows who.token.view token.view → IsCaller (record who { token = token })
caller_went who token c g = let v = who.token.view in
    let lawful = went_lawful KeepsRows v token.view g in
    let is = went_now KeepsRows v token.view g in
    let it = caller_between v.start v.words v.log token.view.log who.number (spares_of who) lawful
    (later_by-goes_on g.later) (ap (λ t. held_by t who.number) (sym is) ∙ same_held who token c g)
    record { rows = c.rows; builds = c.builds } in
    let there = subst (λ t. IsCallerIn t who.number (spares_of who)) (sym is) it in record {
      mine = went_who KeepsRows v token.view g ∙ c.mine;
      rows = there.rows;
      builds = there.builds;
    }

-- the refused builds of such a caller are still refused
pub refused_went : (who : Caller) (token : TokenFace) → IsCaller who → HasRefused who
    → WentOn KeepsRows who.token.view token.view → HasRefused (record who { token = token })
refused_went who token c r g =
    grind (
      arith,
      went_lawful,
      ComesAfter,
      went_now,
      after_between,
      later_by-goes_on,
      same_held,
      all_stuck_on,
    )

-- changes that are resolved stay so if the caller installs none
resolved_by : (pairs : List Pair) (words : ℕ) (number : ℕ) (old log : Log)
    → EachEnabled (start pairs words) log → LaterBy (CallerOf number) InstallsNone old log
    → AllResolvedOf (state_of pairs words old) old number
    → AllResolvedOf (state_of pairs words log) log number
resolved_by pairs words number old _ enabled no_more all = all
resolved_by pairs words number old _ enabled (one_more {log = log} event l (inl other)) all =
    resolved_on pairs words log event enabled number (installs_not number event other)
    (resolved_by pairs words number old log enabled.0 l all)
resolved_by pairs words number old _ enabled (one_more {log = log} event l (inr is)) all =
    resolved_on pairs words log event enabled number (λ base rows e. subst InstallsNone e is)
    (resolved_by pairs words number old log enabled.0 l all)

-- resolved changes stay resolved, if the token installs none
pub resolved_went : (v w : View) (number : ℕ) → v.who ≡ CallerOf number → IsResolved v number
    → WentOn InstallsNone v w → IsResolved w number
resolved_went v w number mine all g = grind (arith, went_now, resolved_by, went_lawful)

-- ---- one event

-- a token has made the event after this log
pub record HasLogged (v : View) (event : Event) (before : Log) (w : View) : Type 0 where
  pub later : Later v.who v.log before
  pub lawful : Lawful v.start v.words (event ∷ before)
  pub now_is : now w ≡ state_of v.start v.words (event ∷ before)
  pub who_is : w.who ≡ v.who

-- a token that logged an event has made it
pub logged_made : (v : View) (event : Event) (w : View) (l : Logged v event w)
    → HasLogged v event l.before w
logged_made v event w l = grind arith

-- a token that logged an event at a load has made it
pub loaded_made : (v : View) (event : Event) (place word : ℕ) (w : View)
    → (l : LoggedLoad v event place word w) → HasLogged v event l.before w
loaded_made v event place word w l = grind arith

-- the event changes what its caller holds in exactly this way
pub held_made : (v w : View) (number : ℕ) (event : Event) (before : Log) → v.who ≡ CallerOf number
    → whose event ≡ CallerOf number → HasLogged v event before w
    → held_by (now w) number ≡ held_after event (held_by (now v) number)
held_made v w number event before mine its m = grind (arith, held_by_own, held_by_later)

module _ (old new : Caller) (kinds : List Kind) (event : Event) (bases : List ℕ) (c : IsCaller old)
    (before : Log) (m : HasLogged old.token.view event before new.token.view)
    (its : whose event ≡ CallerOf old.number) (gives : GivesUp event bases)
    (a : AreBasesOf kinds (spares_of old) bases) (without : IsWithout kinds old new) where
  abbrev v : View
  v = old.token.view

  later : Later (CallerOf old.number) v.log before
  later = subst (λ who. Later who v.log before) c.mine m.later

  lawful_before : Lawful v.start v.words before
  lawful_before = record { opens = m.lawful.opens; enabled = m.lawful.enabled.0 }

  caller_before : IsCallerIn (state_of v.start v.words before) old.number (spares_of old)
  caller_before = caller_later v.start v.words v.log before old.number (spares_of old) lawful_before
      later record { rows = c.rows; builds = c.builds }

  -- a caller that gave up rows of some kinds is a caller without them
  pub caller_made : IsCaller new
  caller_made =
      let it = caller_given v.start v.words before event m.lawful old.number its bases gives kinds
      (spares_of old) a caller_before in
      let there = subst (λ own. IsCallerIn (now new.token.view) new.number own) (sym without.rows)
      (subst (λ n. IsCallerIn (now new.token.view) n (without_rows kinds (spares_of old)))
      (sym without.number)
      (subst (λ t. IsCallerIn t old.number (without_rows kinds (spares_of old))) (sym m.now_is)
      it)) in
      record {
        mine = m.who_is ∙ c.mine ∙ ap CallerOf (sym without.number);
        rows = there.rows;
        builds = there.builds;
      }

  -- the refused builds of such a caller are still refused
  pub refused_made : HasRefused old → HasRefused new
  refused_made r = let t = state_of v.start v.words before in
      let u = state_of v.start v.words (event ∷ before) in
      let on = after_between v.start v.words before (event ∷ before) m.lawful
      (one_event event same_log) in
      let first = after_between v.start v.words v.log before lawful_before (later-goes_on later) in
      let was : AreStuck t (build_sizes t old.number (spares_of old)) =
      subst (λ held. AreStuck t
      (map (λ (h : HeldRow). h.size) (filter (λ h. not (is_spare (spares_of old) h.base)) held)))
      (sym (held_by_later v.start v.words old.number v.log before lawful_before.enabled later))
      (all_stuck_on (now v) t first _ r) in
      let is : AreStuck u (build_sizes u old.number (without_rows kinds (spares_of old))) =
      subst (AreStuck u)
      (sym (sizes_given v.start v.words before event m.lawful old.number its bases gives kinds
      (spares_of old) a caller_before))
      (all_stuck_on t u on _ was) in
      subst (λ own. AreStuck (now new.token.view) (build_sizes (now new.token.view) new.number own))
      (sym without.rows)
      (subst (λ n. AreStuck (now new.token.view)
      (build_sizes (now new.token.view) n (without_rows kinds (spares_of old)))) (sym without.number)
      (subst (λ x. AreStuck x (build_sizes x old.number (without_rows kinds (spares_of old))))
      (sym m.now_is) is))

-- a caller that began a search is still a caller
pub caller_begun : (who : Caller) (token : TokenFace) → IsCaller who
    → Turned who.token.view (searching who.token.view) token.view → IsCaller (record who { token = token })
caller_begun who token c t = let n = token.view.searches in
    caller_went (record who { token = record who.token { view = record who.token.view { searches = n } } })
    token record { mine = c.mine; rows = c.rows; builds = c.builds }
    (searching_on KeepsRows who.token.view token.view t).went

-- ---- a caller that reserved a spare row: what was refused to its builds stays refused. Serves the crates
-- above.

-- refused builds depend only on the state, the number and the spare rows
pub refused_as : (new : Caller) (t : Snapshot) (number : ℕ) (own : Spares)
    → now new.token.view ≡ t → new.number ≡ number → spares_of new ≡ own
    → AreStuck t (build_sizes t number own) → HasRefused new
refused_as new t number own now_is number_is rows_are r = grind arith

-- refused builds stay refused if a spare row is reserved
pub refused_beside : (old new : Caller) (kind : Kind) (base : ℕ) → IsCaller old
    → row_of kind (spares_of old) ≡ None
    → Reserved old.token.view old.number base (kind_words kind) new.token.view
    → new.number ≡ old.number → spares_of new ≡ with_spare kind base (spares_of old)
    → HasRefused old → HasRefused new
refused_beside old new kind base c none r number_is rows_are refused =
    refused_as new t old.number (with_spare kind base (spares_of old)) it.now_is number_is rows_are
    (subst (AreStuck t) (sym sizes) (all_stuck_on (now v) t comes (sizes_built old) refused))
  where
    v : View
    v = old.token.view

    event : Event
    event = Reserve old.number base (kind_words kind)

    it : Took v old.number base (kind_words kind) new.token.view
    it = took v old.number base (kind_words kind) new.token.view r

    t : Snapshot
    t = state_of v.start v.words (event ∷ it.before)

    later : Later (CallerOf old.number) v.log it.before
    later = subst (λ who. Later who v.log it.before) c.mine it.later

    comes : ComesAfter (now v) t
    comes = grind (arith, after_between, event, later-goes_on, later)

    sizes : build_sizes t old.number (with_spare kind base (spares_of old)) ≡ sizes_built old
    sizes = grind (arith, sizes_taken, held_by_later, later)
