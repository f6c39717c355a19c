-- How a change was decided, and what a help says of it. Serves `decide` and `help`.
use Rattle.std.proofs.Common.{◌≡◌, ◌≢◌, ℕ, ◌+◌, ◌⊎◌, ◌==◌, Bool, true, false, if◌then◌else◌, ◌∷◌, option_map, Some, refl, sym, ap, ◌∙◌, subst, inl, inr, arith}
use Rattle.std.proofs.lemmas.Bool.Decides.{eqb_tells}
use Rattle.ist_core.specs.declared.states.ChangeRow.{ChangeRow}
use Rattle.ist_core.specs.declared.events.Event.TheVariants.{Decide}
use Rattle.ist_core.specs.WordTerms.{change_decision_offset, undecided, decided_yes, Change, with_decision}
use Rattle.ist_core.specs.LogTerms.{decision_word, state_of, IsShown, shown_row}
use Rattle.ist_core.proofs.AllWordLemmas.{changed_at-same}
use Rattle.ist_rule.specs.RuleTerms.{IsSound, CanExchange, now, Looked, Logged, Exchanged, WentOn}
use Rattle.ist_rule.specs.declared.view.View.{View}
use Rattle.ist_dcss.specs.Helping.{Serves, IsDecided, WasOpen, WasClosed}
use Rattle.ist_dcss.specs.HelpEvents.{standing, deciding}
use Rattle.ist_rule.proofs.WentOnLemmas.{looked_went, logged_went, went_now, went_more}
use Rattle.ist_dcss.proofs.DecideLemmas.{MayDecide, can_decide, deciding_is}
use Rattle.ist_dcss.proofs.ResolvedLemmas.{went_row, HasFate, fate, okay_seen}
use Rattle.laws_links.proofs.ChangeLemmas.{yes_has_okay}
use Rattle.ist_core.proofs.AllLogLemmas.{said_something}

-- ---- what the exchange of the decision says

-- a caller that exchanged the decision helped, and the change has the decision that holds
pub decide_tells : (v : View) (change number : ℕ) (said : Bool) (place stood : ℕ) (w : View)
    (row : ChangeRow) → (now v).pieces change ≡ Some (Change row)
    → place ≡ change + change_decision_offset
    → Exchanged v (Decide number change said) place undecided stood w
    → WentOn (Serves change) v w × ((r : ChangeRow) × ((now w).pieces change ≡ Some (Change r))
    × (r.decision ≡ standing (decision_word said) stood) × (r.decision ≢ undecided))
decide_tells v change number said place stood w row there at x = by_word (eqb_tells stood undecided)
  where
    by_word : (((stood == undecided) ≡ true) × (stood ≡ undecided))
        ⊎ (((stood == undecided) ≡ false) × (stood ≢ undecided))
        → WentOn (Serves change) v w × ((r : ChangeRow) × ((now w).pieces change ≡ Some (Change r))
        × (r.decision ≡ standing (decision_word said) stood) × (r.decision ≢ undecided))
    by_word (inl k) = let l : Logged v (Decide number change said) w = x.0 k.1 in
        let went = logged_went (Serves change) v (Decide number change said) w l refl refl in
        let t = state_of v.start v.words l.before in
        let can = (subst IsSound l.view l.sound).lawful.enabled.1 in
        let is : now w ≡ state_of v.start v.words (Decide number change said ∷ l.before) =
        went_now (Serves change) v w went ∙ ap (λ y. state_of v.start v.words y.log) l.view in
        let piece : (now w).pieces change
        ≡ Some (Change record (can.change) { decision = decision_word said }) =
        ap (λ u. u.pieces change) is
        ∙ changed_at-same t.pieces change (with_decision (decision_word said))
        ∙ ap (option_map (with_decision (decision_word said))) can.pending.published in (
          went,
          (
            record (can.change) { decision = decision_word said },
            piece,
            ap (λ b. if b then decision_word said else stood) (sym k.0),
            said_something said,
          ),
        )
    by_word (inr k) = let l : Looked v place stood w = x.1 k.1 in
        let went = looked_went (Serves change) v place stood w l in
        let on = went_row (Serves change) change v w went row there in
        let same : stood ≡ on.0.decision = l.stood on.0.decision
        (subst (λ p. IsShown (now w) p on.0.decision) (sym at)
        (shown_row change (Change on.0) 0 on.1 refl)) in (
          went,
          (
            on.0,
            on.1,
            sym same
                ∙ ap (λ b. if b then decision_word said else stood) (sym k.0),
            (λ e. k.1 (same ∙ e)),
          ),
        )

-- ---- the answer

-- a change whose decision isn't undecided is decided as the test of it says
pub decided_as : (v : View) → IsSound v → (change : ℕ) (row : ChangeRow)
    → (now v).pieces change ≡ Some (Change row) → row.decision ≢ undecided
    → (said : Bool) → said ≡ (row.decision == decided_yes) → IsDecided v change said
decided_as v s change row there set said is = grind (arith, fate, HasFate)

-- a helper that loaded the status of the change's node
module _ (v : View) (change number : ℕ) (said : Bool) (u : View)
    (m : MayDecide change number said v u) (base new : ℕ) (at : base ≡ change)
    (is : new ≡ decision_word said) where
  names : deciding u (base + change_decision_offset) new ≡ Decide number change said
  names = deciding_is u number change (base + change_decision_offset) new said m.mine (omega arith) is

  -- may exchange the decision
  pub helper_can_decide : IsSound u → CanExchange u (base + change_decision_offset) undecided new
      (deciding u (base + change_decision_offset) new)
  helper_can_decide s = grind (arith, names, can_decide)

  -- has then served the change, which is decided as the test of the two words says
  pub helper_decided : (stood : ℕ) (w : View)
      → Exchanged u (deciding u (base + change_decision_offset) new) (base + change_decision_offset)
      undecided stood w → (answer : Bool) → answer ≡ (standing new stood == decided_yes)
      → WentOn (Serves change) v w × IsDecided w change answer
  helper_decided stood w x answer asked = let place = base + change_decision_offset in
      let tells = decide_tells u change number said place stood w m.row m.published (omega arith)
      (subst (λ e. Exchanged u e place undecided stood w) names x) in
      let r = tells.1 in (
        went_more (Serves change) v u w m.went tells.0,
        decided_as w tells.0.sound change r.0 r.1 r.3 answer
            (asked ∙ ap (λ n. standing n stood == decided_yes) is
            ∙ ap (λ d. d == decided_yes) (sym r.2)),
      )

-- ---- what a help says

-- a change with this decision keeps it
pub decided_on : (change : ℕ) (v w : View) → WentOn (Serves change) v w → (said : Bool)
    → IsDecided v change said → IsDecided w change said
decided_on change v w h said d = grind (arith, went_row, said_something)

-- if a change is decided yes, its node was seen open
pub yes_seen : (v : View) → IsSound v → (change : ℕ) → IsDecided v change true → WasOpen v change
yes_seen v s change d = grind (arith, okay_seen, yes_has_okay)

-- if it is decided no, its node was seen not to be open
pub no_seen : (v : View) → IsSound v → (change : ℕ) → IsDecided v change false → WasClosed v change
no_seen v s change d = grind (arith, fate, HasFate)
