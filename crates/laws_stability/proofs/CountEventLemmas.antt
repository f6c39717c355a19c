-- A Count stays enabled under events of others, if none decides a put or remove of its caller yes.
-- Serves its clause.
use Rattle.std.proofs.Common.{List, Some, [], ap, inl, inr, option_map, refl, subst, sym, true, ℕ, ⊎_elim, ◌++◌, ◌∙◌, ◌∷◌, ◌≡◌, ◌≢◌}
use Rattle.std.proofs.lemmas.Bool.Decides.{eqb_tells}
use Rattle.ist_core.specs.declared.events.Event.{Event}
use Rattle.ist_core.specs.declared.events.Event.TheVariants.{Count, Decide}
use Rattle.ist_core.specs.declared.events.Who.TheVariants.{Caller}
use Rattle.ist_core.specs.declared.pairs.Pair.{Pair}
use Rattle.ist_core.specs.declared.states.ChangeRow.{ChangeRow}
use Rattle.ist_core.specs.TreeTerms.{CanCount, IsUpdateOf, SaysYes, AllGrow, WasOnChain, IsUpdate}
use Rattle.ist_core.specs.LogTerms.{EachEnabled, state_of, Counts, Happened, Log, Snapshot, Later, whose, no_more, one_more}
use Rattle.laws_links.proofs.DecisionLemmas.{Decides}
use Rattle.ist_core.specs.WordTerms.{Change, with_decision, start, decided_yes, undecided}
use Rattle.ist_core.proofs.AllLogLemmas.{change_there, known_step, happened_left, grow_after}
use Rattle.ist_core.proofs.AllWordLemmas.{changed_at-same, same_change}
use Rattle.laws_stability.specs.Meanwhile.{NoneAccepted}
use Rattle.laws_stability.proofs.OwnLemmas.{Was, own_was}

-- a Count of a caller is its own event
pub counts_own : (caller node : ℕ) (event : Event) → Counts caller node event
    → whose event ≡ Caller caller
counts_own caller node (Count c n) is = ap Caller is.0
counts_own caller node _ is = absurd is

-- ---- changes that are decided yes

-- the change at the base is decided yes
record IsYes (t : Snapshot) (base : ℕ) : Type 0 where
  change : ChangeRow
  published : t.pieces base ≡ Some (Change change)
  decision : change.decision ≡ decided_yes

yes_grows : (t u : Snapshot) → AllGrow t.pieces u.pieces → (base : ℕ) → IsYes t base → IsYes u base
yes_grows t u g base y = let it = change_there t.pieces u.pieces g base y.change y.published in
    record {
      change = it.0;
      published = it.1;
      decision = it.2.decided (λ none. clash (sym y.decision ∙ none)) ∙ y.decision;
    }
  where
    clash : decided_yes ≡ undecided → ⊥
    clash e = cc

-- a change without its decision
abbrev blank : ChangeRow → ChangeRow
blank change = record change { decision = undecided }

-- a change without its decision stays
blank_same : (t u : Snapshot) → AllGrow t.pieces u.pieces → (base : ℕ) (x y : ChangeRow)
    → t.pieces base ≡ Some (Change x) → u.pieces base ≡ Some (Change y) → blank x ≡ blank y
blank_same t u g base x y e f = let it = change_there t.pieces u.pieces g base x e in
    sym it.2.others ∙ ap blank (same_change (u.pieces base) it.0 y it.1 f)

-- a put or remove of the caller stays one
update_grows : (t u : Snapshot) → AllGrow t.pieces u.pieces → (caller base : ℕ)
    → IsUpdateOf t caller base → IsUpdateOf u caller base
update_grows t u g caller base h =
    let it = change_there t.pieces u.pieces g base h.change h.published in record {
      change = it.0;
      published = it.1;
      owned = ap (λ c. c.owner) it.2.others ∙ h.owned;
      update = subst IsUpdate (sym (ap (λ c. c.kind) it.2.others)) h.update;
    }

-- an update of the caller was one before, if its row was decided yes before
update_was : (t u : Snapshot) → AllGrow t.pieces u.pieces → (caller base : ℕ) → IsYes t base
    → IsUpdateOf u caller base → IsUpdateOf t caller base
update_was t u g caller base y h =
    let same : blank y.change ≡ blank h.change =
    blank_same t u g base y.change h.change y.published h.published in
    record {
      change = y.change;
      published = y.published;
      owned = ap (λ c. c.owner) same ∙ h.owned;
      update = subst IsUpdate (sym (ap (λ c. c.kind) same)) h.update;
    }

-- ---- events that say yes

says_back : (t u : Snapshot) (caller : ℕ) (event : Event)
    → ((base : ℕ) → Decides base true event → IsUpdateOf u caller base → IsUpdateOf t caller base)
    → SaysYes u caller event → SaysYes t caller event
says_back t u caller (Decide c base true) back is = back base (refl, refl) is
says_back t u caller _ back is = absurd is

-- if the updates are the same, an event that says yes to one in the later state says so in the
-- earlier state
happened_back : (t u : Snapshot) (caller : ℕ) (log : Log)
    → ((base : ℕ) → Happened (Decides base true) log → IsUpdateOf u caller base
    → IsUpdateOf t caller base)
    → Happened (SaysYes u caller) log → Happened (SaysYes t caller) log
happened_back t u caller [] back is = absurd is
happened_back t u caller (event ∷ log) back (inl now) =
    inl (says_back t u caller event (λ b d. back b (inl d)) now)
happened_back t u caller (event ∷ log) back (inr old) =
    inr (happened_back t u caller log (λ b d. back b (inr d)) old)

module _ (pairs : List Pair) (words : ℕ) where
  -- the change of a Decide with yes is decided yes after it
  yes_now : (log : Log) (event : Event) → EachEnabled (start pairs words) (event ∷ log) → (base : ℕ)
      → Decides base true event → IsYes (state_of pairs words (event ∷ log)) base
  yes_now log (Decide c d x) h base is = let change = h.1.change in
      let ps = (state_of pairs words log).pieces in
      subst (λ b. IsYes (state_of pairs words (Decide c d x ∷ log)) b) is.0
      (subst (λ s. IsYes (state_of pairs words (Decide c d s ∷ log)) d) (sym is.1)
      record {
        change = record change { decision = decided_yes };
        published = changed_at-same ps d (with_decision decided_yes)
            ∙ ap (option_map (with_decision decided_yes)) h.1.pending.published;
        decision = refl;
      })
  yes_now log _ h base is = absurd is

  -- a change that was decided yes stays so
  yes_after : (log : Log) → EachEnabled (start pairs words) log → (base : ℕ)
      → Happened (Decides base true) log → IsYes (state_of pairs words log) base
  yes_after [] h base is = absurd is
  yes_after (event ∷ log) h base (inl now) = yes_now log event h base now
  yes_after (event ∷ log) h base (inr old) =
      yes_grows (state_of pairs words log) (state_of pairs words (event ∷ log))
      (grow_after pairs words log event h) base (yes_after log h.0 base old)

  module _ (caller : ℕ) where
    -- if another's event says yes to an update of the caller, the update was pending when others
    -- began
    yes_meanwhile : {earlier log : Log} (event : Event) → Later (Caller caller) earlier log
        → EachEnabled (start pairs words) (event ∷ log)
        → NoneAccepted (state_of pairs words earlier) (state_of pairs words (event ∷ log)) caller
        → ¬ (SaysYes (state_of pairs words (event ∷ log)) caller event)
    yes_meanwhile {earlier = earlier} {log = log} (Decide c base true) later h none up =
        let x : ChangeRow = h.1.change in
        let there : (state_of pairs words log).pieces base ≡ Some (Change x) =
        h.1.pending.published in
        let same : blank x ≡ blank up.change =
        blank_same (state_of pairs words log) (state_of pairs words (Decide c base true ∷ log))
        (grow_after pairs words log (Decide c base true) h) base x up.change there up.published in
        let owner : x.owner ≡ caller = ap (λ y. y.owner) same ∙ up.owned in
        let was : Was (state_of pairs words earlier) (state_of pairs words log) base x =
        own_was pairs words caller later h.0 base x there owner in
        let kind : was.old.kind ≡ up.change.kind = ap (λ y. y.kind) (sym was.grew.others)
        ∙ ap (λ y. y.kind) same in
        let own : was.old.owner ≡ caller = ap (λ y. y.owner) (sym was.grew.others) ∙ owner in
        let yes = yes_now log (Decide c base true) h base (refl, refl) in
        let is : up.change ≡ yes.change =
        same_change ((state_of pairs words (Decide c base true ∷ log)).pieces base) up.change
        yes.change up.published yes.published in
        ⊎_elim
        (λ pending.
        none base was.old up.change record { published = was.published; unset = pending.1 } own
        (subst IsUpdate (sym kind) up.update) up.published (ap (λ y. y.decision) is ∙ yes.decision))
        (λ decided. decided.1 (sym (was.grew.decided decided.1) ∙ h.1.pending.unset))
        (eqb_tells was.old.decision undecided)
    yes_meanwhile _ later h none up = absurd up

    -- a Count stays enabled over one event of another
    count_step : (log : Log) (event : Event) → EachEnabled (start pairs words) (event ∷ log)
        → whose event ≢ Caller caller → ¬ (SaysYes (state_of pairs words (event ∷ log)) caller event)
        → (node : ℕ) → CanCount (start pairs words) log caller node
        → CanCount (start pairs words) (event ∷ log) caller node
    unfolding update_grows
    count_step log event h other none node can = let t = state_of pairs words log in
        let u = state_of pairs words (event ∷ log) in let g = grow_after pairs words log event h in
        let it = change_there t.pieces u.pieces g can.base can.update.change can.update.published in
        record {
          known = known_step (start pairs words) log event caller can.known;
          later = event ∷ can.later;
          by = can.by;
          base = can.base;
          earlier = can.earlier;
          log_is = ap (λ xs. event ∷ xs) can.log_is;
          update = update_grows t u g caller can.base can.update;
          last = λ is. ⊎_elim none
              (λ old. can.last (happened_back t u caller can.later
              (λ b d up. update_was t u g caller b
              (yes_after log h.0 b (subst (Happened (Decides b true)) (sym can.log_is)
              (happened_left (Decides b true) can.later
              (Decide can.by can.base true ∷ can.earlier) d))) up)
              old))
              is;
          uncounted =
              λ is. ⊎_elim (λ now. other (counts_own caller node event now)) can.uncounted is;
          on_chain =
              inr (subst (λ n. WasOnChain (start pairs words) log n node)
              (sym (ap (λ x. x.node) it.2.others)) can.on_chain);
        }

    -- a Count stays enabled if no put or remove of the caller is decided yes
    pub count_stays : {earlier log : Log} → Later (Caller caller) earlier log
        → EachEnabled (start pairs words) log → (node : ℕ)
        → CanCount (start pairs words) earlier caller node
        → NoneAccepted (state_of pairs words earlier) (state_of pairs words log) caller
        → CanCount (start pairs words) log caller node
    count_stays no_more h node can none = can
    count_stays {earlier = earlier} (one_more {log = log} event later other) h node can none =
        count_step log event h other (yes_meanwhile event later h none) node
        (count_stays later h.0 node can
        (λ base old new pending own update e yes.
        let now = yes_grows (state_of pairs words log) (state_of pairs words (event ∷ log))
        (grow_after pairs words log event h) base
        record { change = new; published = e; decision = yes } in
        none base old now.change pending own update now.published now.decision))
