-- Resolving: when it may be made, and what it lets it know. Serves `resolve`.
use Rattle.std.proofs.Common.{◌≡◌, ◌≢◌, ℕ, ◌/◌, ◌⊎◌, Bool, true, false, [], ◌∷◌, Some, refl, sym, ap, ap₂, ◌∙◌, subst, inl, inr, ⊎_elim, arith}
use Rattle.std.proofs.lemmas.Bool.Decides.{eqb_tells}
use Rattle.ist_core.specs.declared.states.ChangeRow.{ChangeRow}
use Rattle.ist_core.specs.declared.events.Event.{Event}
use Rattle.ist_core.specs.declared.events.Event.TheVariants.{Resolve}
use Rattle.ist_core.specs.declared.events.Who.TheVariants.{Caller}
use Rattle.ist_core.specs.WordTerms.{ChangeAt, word_of, tag_count, undecided, Change, as_change, SlotHolds}
use Rattle.ist_core.specs.TreeTerms.{ChangeGrows, place_of_slot, touch_of_resolve}
use Rattle.ist_core.specs.LogTerms.{side_of, decision_word, Log, Happened, Resolves, state_of, IsShown}
use Rattle.ist_core.proofs.AllLogLemmas.{grow_between, slot_remains, said_something}
use Rattle.laws_links.proofs.ChangeLemmas.{unresolved_stands}
use Rattle.laws_links.proofs.ResolvedLemmas.{resolved_gone}
use Rattle.ist_rule.specs.RuleTerms.{IsSound, now, Looked, Logged, Exchanged, MayCome, CanExchange, WentOn}
use Rattle.ist_rule.specs.declared.view.View.{View}
use Rattle.ist_rule.proofs.LaterLemmas.{later-goes_on}
use Rattle.ist_dcss.specs.Helping.{MayHelp, Serves, IsDecided, IsOut}
use Rattle.ist_dcss.specs.HelpEvents.{resolving, IsField, IsSlotOf, outcome_offset_of}
use Rattle.ist_rule.proofs.WentOnLemmas.{looked_went, logged_went, later_by-goes_on, went_more, went_who, went_now, went_lawful}
use Rattle.ist_dcss.proofs.ResolvedLemmas.{went_row}
use Rattle.ist_dcss.proofs.SlotPlaceLemmas.{change_slot, slot_shown, shown_in_slot, slot_place_later}
use Rattle.ist_dcss.proofs.FieldLemmas.{field_now}
use Rattle.ist_dcss.proofs.DecideLemmas.{row_after, number_low}

-- an event resolves the change or doesn't
resolves_now : (base : ℕ) (event : Event) → Resolves base event ⊎ ¬ (Resolves base event)
resolves_now base (Resolve caller change) = grind (arith, eqb_tells)
resolves_now base _ = inr (λ e. e)

-- the change was resolved or wasn't
resolved_or_not : (base : ℕ) (log : Log) → Happened (Resolves base) log
    ⊎ ¬ (Happened (Resolves base) log)
resolved_or_not base [] = inr (λ e. e)
resolved_or_not base (event ∷ log) = ⊎_elim (λ k. inl (inl k))
    (λ no. ⊎_elim (λ k. inl (inr k)) (λ none. inr (λ h. ⊎_elim no none h))
    (resolved_or_not base log))
    (resolves_now base event)

-- a change that was resolved is out
out : (v : View) → IsSound v → (change : ℕ) → Happened (Resolves change) v.log → IsOut v change
out v s change h = record {
  resolved = h;
  gone = resolved_gone v.start v.words s.lawful.opens v.log s.lawful.enabled change h;
}

-- a caller may take a decided change out of its slot, whatever others do meanwhile
module _ (v : View) (s : IsSound v) (change number : ℕ) (mine : v.who ≡ Caller number)
    (row : ChangeRow) (installed : (now v).pieces change ≡ Some (Change row)) where
  -- the slot after a log that may come
  slot_after : (log : Log) → MayCome v log
      → (word : ℕ) × SlotHolds (state_of v.start v.words log) row.node row.index word
  slot_after log m =
      let it = change_slot v.start v.words v.log s.lawful.enabled change row installed in
      slot_remains (now v) (state_of v.start v.words log)
      (grow_between v.start v.words v.log log m.lawful.enabled (later-goes_on m.later)) row.node
      row.index it.0 it.1

  -- the place of the slot is the same
  place_after : (log : Log) (m : MayCome v log)
      → place_of_slot (state_of v.start v.words log) row.node row.index
      ≡ place_of_slot (now v) row.node row.index
  place_after log m =
      let it = change_slot v.start v.words v.log s.lawful.enabled change row installed in
      slot_place_later v.start v.words v.log log s.lawful.enabled m.lawful.enabled
      (grow_between v.start v.words v.log log m.lawful.enabled (later-goes_on m.later)) row.node
      row.index it.0 it.1

  -- what the slot's word is once the change is decided
  side_after : row.decision ≢ undecided → (r : ChangeRow) → ChangeGrows row r
      → side_of r ≡ side_of row
  side_after set r g = grind arith

  -- the exchange of the slot may be the Resolve
  pub can_resolve : row.decision ≢ undecided → (place old side : ℕ)
      → place ≡ place_of_slot (now v) row.node row.index → old ≡ word_of (ChangeAt change)
      → side ≡ side_of row → CanExchange v place old side (Resolve number change)
  can_resolve set place old side at old_is side_is = record {
    make = record { mine = sym mine; stored = tt; allowed = tt };
    known = λ log m. let slot = slot_after log m in
        let u = state_of v.start v.words log in (
          slot.0,
          subst (λ p. IsShown u p slot.0) (place_after log m ∙ sym at)
              (slot_shown v.start v.words log m.lawful.enabled row.node row.index slot.0
              slot.1),
        );
    comes = λ log m shown. let u = state_of v.start v.words log in
        let r = row_after v s change number mine row installed log m in
        let slot = slot_after log m in
        let same : old ≡ slot.0 =
        shown_in_slot v.start v.words log m.lawful.enabled row.node row.index slot.0 old
        slot.1 (subst (λ p. IsShown u p old) (at ∙ sym (place_after log m)) shown) in
        let holds : SlotHolds u row.node row.index (word_of (ChangeAt change)) =
        subst (SlotHolds u row.node row.index) (sym same ∙ old_is) slot.1 in
        let node : r.0.node ≡ row.node = ap (λ x. x.node) r.2.others in
        let index : r.0.index ≡ row.index = ap (λ x. x.index) r.2.others in
        let place_is : place_of_slot u r.0.node r.0.index ≡ place =
        ap₂ (place_of_slot u) node index ∙ place_after log m ∙ sym at in
        record {
          enabled = record {
            known = number_low v s change number mine row installed log m;
            change = r.0;
            published = r.1;
            decided = λ e. set (sym (r.2.decided set) ∙ e);
            in_slot = subst (λ n. SlotHolds u n r.0.index (word_of (ChangeAt change)))
                (sym node) (subst (λ i. SlotHolds u row.node i (word_of (ChangeAt change)))
                (sym index) holds);
          };
          touches = ap (λ o. touch_of_resolve u change (as_change o)) r.1
              ∙ ap (λ p. Some record {
                place = p;
                found = word_of (ChangeAt change);
                left = side_of r.0;
              }) place_is
              ∙ ap₂ (λ f l. Some record { place = place; found = f; left = l }) (sym old_is)
              (side_after set r.0 r.2 ∙ sym side_is);
        };
  }

-- a caller that exchanged the slot helped, and the change is out
pub resolve_tells : (v : View) (s : IsSound v) (change number place old found : ℕ) (w : View)
    (row : ChangeRow) → (now v).pieces change ≡ Some (Change row)
    → place ≡ place_of_slot (now v) row.node row.index → old ≡ word_of (ChangeAt change)
    → Exchanged v (Resolve number change) place old found w
    → WentOn (Serves change) v w × IsOut w change
resolve_tells v s change number place old found w row there at old_is x =
    ⊎_elim (λ k. hit k.1) (λ k. miss k.1) (eqb_tells found old)
  where
    hit : found ≡ old → WentOn (Serves change) v w × IsOut w change
    hit e =
        let l : Logged v (Resolve number change) w = x.0 e in (
          logged_went (Serves change) v (Resolve number change) w l refl refl,
          out w l.sound change (subst (Happened (Resolves change)) (sym (ap (λ y. y.log) l.view))
              (inl refl)),
        )

    miss : found ≢ old → WentOn (Serves change) v w × IsOut w change
    miss ne = let l : Looked v place found w = x.1 ne in
        let went = looked_went (Serves change) v place found w l in
        let on = went_row (Serves change) change v w went row there in
        let node : on.0.node ≡ row.node = ap (λ y. y.node) on.2.others in
        let index : on.0.index ≡ row.index = ap (λ y. y.index) on.2.others in
        let was = change_slot v.start v.words v.log s.lawful.enabled change row there in
        let moved : place_of_slot (now w) row.node row.index
        ≡ place_of_slot (now v) row.node row.index =
        ap (λ t. place_of_slot t row.node row.index) (went_now (Serves change) v w went)
        ∙ slot_place_later v.start v.words v.log w.log s.lawful.enabled
        (went_lawful (Serves change) v w went).enabled
        (grow_between v.start v.words v.log w.log (went_lawful (Serves change) v w went).enabled
        (later_by-goes_on went.later))
        row.node row.index was.0 was.1 in (
          went,
          ⊎_elim (λ h. out w l.sound change h)
              (λ none.
              let holds = unresolved_stands w.start w.words l.sound.lawful.opens w.log
              l.sound.lawful.enabled change on.0 on.1 none in
              let shown = slot_shown w.start w.words w.log l.sound.lawful.enabled on.0.node
              on.0.index (word_of (ChangeAt change)) holds in
              absurd (ne (l.stood (word_of (ChangeAt change))
              (subst (λ p. IsShown (now w) p (word_of (ChangeAt change)))
              (ap₂ (place_of_slot (now w)) node index ∙ moved ∙ sym at) shown) ∙ sym old_is)))
              (resolved_or_not change w.log),
        )

-- ---- what a helper knows before the exchange

-- the row is decided, its slot lies there, and this is the word that the slot gets
pub record MayResolve (change number place side : ℕ) (v w : View) : Type 0 where
  pub went : WentOn (Serves change) v w
  pub mine : w.who ≡ Caller number
  pub row : ChangeRow
  pub published : (now w).pieces change ≡ Some (Change row)
  pub decided : row.decision ≢ undecided
  pub at : place ≡ place_of_slot (now w) row.node row.index
  pub side_is : side ≡ side_of row

-- the word of a change that its decision leaves in the slot
side_by : (v : View) (change side : ℕ) (said : Bool) → IsField v change (outcome_offset_of said) side
    → (row : ChangeRow) → (now v).pieces change ≡ Some (Change row)
    → row.decision ≡ decision_word said → side ≡ side_of row
side_by v change side true field row there is = grind (arith, field_now)
side_by v change side false field row there is = grind (arith, field_now)

-- a helper that loaded the slot's place and the word to leave may resolve
pub may_resolve : (v : View) (change : ℕ) (m : MayHelp v change) (said : Bool)
    → IsDecided v change said → (u : View) → WentOn (Serves change) v u → (place : ℕ)
    → IsSlotOf u change place → (w : View) → WentOn (Serves change) u w → (side offset : ℕ)
    → IsField w change offset side → offset ≡ outcome_offset_of said
    → MayResolve change m.number place side v w
may_resolve v change m said d u h place slot w k side offset field offset_is = let s = h.sound in
    let all = went_more (Serves change) v u w h k in
    let on = went_row (Serves change) change v w all d.row d.published in
    let more = went_row (Serves change) change u w k slot.row slot.published in
    let set : d.row.decision ≢ undecided = λ e. said_something said (sym d.decision ∙ e) in
    let is : on.0.decision ≡ decision_word said = on.2.decided set ∙ d.decision in
    let one : on.0 ≡ more.0 = cc (on.1, more.1) in
    let node : more.0.node ≡ slot.row.node = ap (λ x. x.node) more.2.others in
    let index : more.0.index ≡ slot.row.index = ap (λ x. x.index) more.2.others in
    let was = change_slot u.start u.words u.log s.lawful.enabled change slot.row slot.published in
    let moved : place_of_slot (now w) slot.row.node slot.row.index
    ≡ place_of_slot (now u) slot.row.node slot.row.index =
    ap (λ t. place_of_slot t slot.row.node slot.row.index) (went_now (Serves change) u w k)
    ∙ slot_place_later u.start u.words u.log w.log s.lawful.enabled
    (went_lawful (Serves change) u w k).enabled
    (grow_between u.start u.words u.log w.log (went_lawful (Serves change) u w k).enabled
    (later_by-goes_on k.later))
    slot.row.node slot.row.index was.0 was.1 in
    record {
      went = all;
      mine = went_who (Serves change) v w all ∙ m.mine;
      row = on.0;
      published = on.1;
      decided = λ e. said_something said (sym is ∙ e);
      at = slot.at ∙ sym moved
          ∙ sym (ap₂ (place_of_slot (now w)) (ap (λ x. x.node) one ∙ node)
          (ap (λ x. x.index) one ∙ index));
      side_is = side_by w change side said (subst (λ n. IsField w change n side) offset_is field) on.0 on.1 is;
    }

-- the event that the exchange of a slot names
pub resolving_is : (v : View) (number change old : ℕ) → v.who ≡ Caller number
    → old ≡ word_of (ChangeAt change) → resolving v (old / tag_count) ≡ Resolve number change
resolving_is v number change old who is = grind arith

-- a helper that may resolve
module _ (v : View) (change number place side : ℕ) (u : View)
    (m : MayResolve change number place side v u) (s : IsSound u) (word : ℕ)
    (is : word ≡ word_of (ChangeAt change)) where
  names : resolving u (word / tag_count) ≡ Resolve number change
  names = resolving_is u number change word m.mine is

  -- may exchange the word of the slot
  pub helper_can_resolve : CanExchange u place word side (resolving u (word / tag_count))
  helper_can_resolve = subst (CanExchange u place word side) (sym names)
      (can_resolve u s change number m.mine m.row m.published m.decided place word side m.at is m.side_is)

  -- has then served the change, which is out of its slot
  pub helper_resolved : (found : ℕ) (w : View)
      → Exchanged u (resolving u (word / tag_count)) place word found w
      → WentOn (Serves change) v w × IsOut w change
  helper_resolved found w x =
      let tells = resolve_tells u s change number place word found w m.row m.published m.at is
      (subst (λ e. Exchanged u e place word found w) names x) in
      (went_more (Serves change) v u w m.went tells.0, tells.1)
