-- Installing: when it may be made, whatever others do meanwhile. Serves `install`.
use Rattle.std.proofs.Common.{◌≡◌, ◌≢◌, ℕ, ◌+◌, ◌<◌, ◌≤◌, List, length, slice_get, Some, refl, sym, ap, ap₂, ◌∙◌, subst, arith}
use Rattle.ist_core.specs.declared.pairs.Pair.{Pair}
use Rattle.ist_core.specs.declared.lists.HeldRow.{HeldRow}
use Rattle.ist_core.specs.declared.states.ChangeRow.{ChangeRow}
use Rattle.ist_core.specs.declared.events.Event.{Event}
use Rattle.ist_core.specs.declared.events.Event.TheVariants.{Install}
use Rattle.ist_core.specs.declared.events.Who.TheVariants.{Caller}
use Rattle.ist_core.specs.WordTerms.{ChangeAt, word_of, undecided, first_row, Change, words_of, start, SlotHolds}
use Rattle.ist_core.specs.LogTerms.{Among, HoldsRow, HoldsRows, Log, EachEnabled, state_of, no_more, one_more, whose, Later, IsShown}
use Rattle.ist_core.specs.TreeTerms.{Linked, AllResolvedOf, IsUnrefused, place_of_slot, first_change}
use Rattle.ist_core.proofs.AllEventLemmas.{sound, sound_start}
use Rattle.ist_core.proofs.AllLogLemmas.{change_there, slot_remains, grow_between, next_within, words_same, ever_later}
use Rattle.ist_rule.specs.RuleTerms.{IsSound, own_at, now, GoesOnTo, Looked, MayCome, MayInstall, CanExchange}
use Rattle.ist_rule.specs.declared.view.View.{View}
use Rattle.ist_rule.specs.declared.view.Loads.{Loads}
use Rattle.ist_rule.proofs.LaterLemmas.{later-goes_on, later_more}
use Rattle.ist_rule.proofs.EventLemmas.{callers_later, looked_goes_on}
use Rattle.ist_rule.proofs.FitLemmas.{each_map}
use Rattle.ist_rule.proofs.ShownLemmas.{held_loose}
use Rattle.ist_rule.proofs.WatchLemmas.{held_later}
use Rattle.ist_rule.proofs.ChangeLemmas.{ChangeComes, stood, is_installed, change_comes}
use Rattle.ist_rule.proofs.UndecidedLemmas.{resolved_decided}
use Rattle.ist_rule.proofs.CallLemmas.{between_later, resolved_later}
use Rattle.ist_dcss.specs.Installing.{Filling, rows_of, IsInstallable}
use Rattle.ist_dcss.specs.HelpEvents.{HasFilled, IsSlot}
use Rattle.ist_rule.proofs.WentOnLemmas.{goes_on_now, goes_on_lawful, goes_on_grow}
use Rattle.ist_dcss.proofs.SlotPlaceLemmas.{slot_shown, shown_in_slot, slot_place_later, fits_later}

-- ---- rows that a caller has filled

-- a held row is held still once the caller made loads
pub held_on : (v w : View) → GoesOnTo v w → (h : HeldRow) → v.who ≡ Caller h.caller
    → Among h (now v).held → Among h (now w).held
held_on v w g h who i = grind (arith, goes_on_now, held_later, goes_on_lawful)

-- what was filled is filled
pub filled_on : (v w : View) → GoesOnTo v w → (base : ℕ) (words : List ℕ) → HasFilled v base words
    → HasFilled w base words
filled_on v w g base words f = record {
  number = f.number;
  mine = ap (λ x. x.who) g.same ∙ f.mine;
  held = held_on v w g record { caller = f.number; base = base; size = length words } f.mine f.held;
  stored = λ k less. f.stored k less
      ∙ ap (λ own. Some (own_at own (base + k))) (sym (ap (λ x. x.own) g.same));
}

-- a load of such a word gives it
pub own_tells : (v : View) (place word : ℕ) (w : View) → Looked v place word w → (base : ℕ)
    (words : List ℕ) → HasFilled v base words → (k : ℕ) → k < length words → place ≡ base + k
    → slice_get words k ≡ Some word
own_tells v place word w l base words f k less at =
    let row : HeldRow = record { caller = f.number; base = base; size = length words } in
    let is = l.mine row (held_on v w (looked_goes_on v place word w l) row f.mine f.held) f.mine k
    less at in
    f.stored k less ∙ ap (λ p. Some (own_at v.own p)) (sym at) ∙ ap Some (sym is)

-- such a word lies within the table
pub own_low : (v : View) → IsSound v → (base : ℕ) (words : List ℕ) → HasFilled v base words → (k : ℕ)
    → k < length words → base + k < v.words
own_low v s base words f k less =
    let loose = held_loose v.start v.words v.log s.lawful.enabled
    record { caller = f.number; base = base; size = length words } f.held k less in
    let below = loose.below in
    let low = next_within v.start v.words s.lawful.opens v.log s.lawful.enabled in
    let all = words_same v.start v.words s.lawful.opens v.log in omega arith

-- and after the fixed words
pub own_above : (v : View) → IsSound v → (base : ℕ) (words : List ℕ) → HasFilled v base words → (k : ℕ)
    → k < length words → first_row ≤ base + k
own_above v s base words f k less =
    (held_loose v.start v.words v.log s.lawful.enabled
    record { caller = f.number; base = base; size = length words } f.held k less).low

-- the change's row is filled
pub filled : (v : View) (base : ℕ) (f : Filling) → IsInstallable v base f
    → HasFilled v base (words_of (Change f.change))
filled v base f m = grind arith

-- a slot is still a slot
pub slot_on : (v w : View) → GoesOnTo v w → (node i word : ℕ) → SlotHolds (now v) node i word
    → IsSlot w node i
slot_on v w g node i word s =
    let it = slot_remains (now v) (now w) (goes_on_grow v w g) node i word s
    in
    record { word = it.0; holds = it.1 }

-- ---- what stays of the caller's changes

-- a change of the caller was published before others went on
came_before : (pairs : List Pair) (words number : ℕ) (old log : Log)
    → EachEnabled (start pairs words) log → Later (Caller number) old log → (base : ℕ)
    (r : ChangeRow) → (state_of pairs words log).pieces base ≡ Some (Change r) → r.owner ≡ number
    → (x : ChangeRow) × ((state_of pairs words old).pieces base ≡ Some (Change x))
came_before pairs words number old _ h no_more base r e own = (r, e)
came_before pairs words number old _ h (one_more {log = log} event l other) base r e own =
    at event other (λ x there mine. came_before pairs words number old log h.0 l base x there mine)
    (change_comes (start pairs words) log event h.1
    (sound (start pairs words) log (sound_start pairs words) h.0) base r e)
  where
    at : (ev : Event) → whose ev ≢ Caller number
        → ((x : ChangeRow) → (state_of pairs words log).pieces base ≡ Some (Change x)
        → x.owner ≡ number → (y : ChangeRow) × ((state_of pairs words old).pieces base ≡ Some
        (Change y)))
        → ChangeComes (start pairs words) log base r ev
        → (x : ChangeRow) × ((state_of pairs words old).pieces base ≡ Some (Change x))
    at ev ne before (stood x there g) = before x there (sym (ap (λ y. y.owner) g.others) ∙ own)
    at _ ne before (is_installed {caller = caller} k g) = grind arith

-- if all changes of a caller are resolved and none on the node was decided no, none is later
unrefused_later : (pairs : List Pair) (words number node : ℕ) (old log : Log)
    → EachEnabled (start pairs words) old → EachEnabled (start pairs words) log
    → Later (Caller number) old log → AllResolvedOf (state_of pairs words old) old number
    → IsUnrefused (state_of pairs words old) number node
    → IsUnrefused (state_of pairs words log) number node
unrefused_later pairs words number node old log before h l all none base r e own at =
    let t = state_of pairs words old in let u = state_of pairs words log in
    let was = came_before pairs words number old log h l base r e own in
    let on = change_there t.pieces u.pieces (grow_between pairs words old log h (later-goes_on l))
    base
    was.0 was.1 in
    let same : on.0 ≡ r = cc (on.1) in
    let owner : was.0.owner ≡ number =
    sym (ap (λ x. x.owner) on.2.others) ∙ ap (λ x. x.owner) same ∙ own in
    let node_is : was.0.node ≡ node =
    sym (ap (λ x. x.node) on.2.others) ∙ ap (λ x. x.node) same ∙ at in
    let d = resolved_decided pairs words old before base (all base was.0 was.1 owner) in
    let was_is : d.change ≡ was.0 = cc (d.published, was.1) in
    let set : was.0.decision ≢ undecided = λ x. d.decided (ap (λ y. y.decision) was_is ∙ x) in
    λ no. none base was.0 was.1 owner node_is
    (sym (on.2.decided set) ∙ ap (λ x. x.decision) same ∙ no)

-- ---- the exchange

-- a caller that may install a change may still once it made loads, whatever others do meanwhile
module _ (v : View) (base : ℕ) (f : Filling) (m : IsInstallable v base f) (sv : IsSound v) (l : Log)
    (ls : Loads) (k : ℕ) (seen : Later v.who v.log l)
    (s : IsSound (record v { log = l; loads = ls; loaded = k })) where
  abbrev w : View
  w = record v { log = l; loads = ls; loaded = k }

  abbrev number : ℕ
  number = m.number

  later_all : (log : Log) → Later v.who l log → Later (Caller number) v.log log
  later_all log more = subst (λ x. Later x v.log log) m.mine (later_more seen more)

  rows_held : (log : Log) → MayCome w log → HoldsRows (state_of v.start v.words log) number
      (rows_of f base)
  rows_held log c = each_map (λ row. HoldsRow (now v) number row.base (length row.words))
      (λ row. HoldsRow (state_of v.start v.words log) number row.base (length row.words))
      (rows_of f base)
      (λ row _ h. held_later v.start v.words
      record { caller = number; base = row.base; size = length row.words } v.log log
      c.lawful.enabled (later_all log c.later) h) m.held

  -- the call allows it
  call_allows : MayInstall w number f.change
  call_allows = grind (arith, later_all, resolved_later, between_later)

  one_change : (x : ChangeRow) → first_change (rows_of f base) ≡ Some x → f.change ≡ x
  one_change x e = let same : Some f.change ≡ Some x = e in cc

  -- the slot after a log that may come
  slot_there : (log : Log) → MayCome w log
      → (word : ℕ) × SlotHolds (state_of v.start v.words log) f.change.node f.change.index word
  slot_there log c = slot_remains (now v) (state_of v.start v.words log)
      (grow_between v.start v.words v.log log c.lawful.enabled
      (later-goes_on (later_all log c.later))) f.change.node f.change.index m.word m.slot

  place_there : (log : Log) → MayCome w log
      → place_of_slot (state_of v.start v.words log) f.change.node f.change.index
      ≡ place_of_slot (now v) f.change.node f.change.index
  place_there log c = slot_place_later v.start v.words v.log log sv.lawful.enabled c.lawful.enabled
      (grow_between v.start v.words v.log log c.lawful.enabled
      (later-goes_on (later_all log c.later))) f.change.node f.change.index m.word m.slot

  -- the exchange of the slot may be the Install
  pub can_install_here : (place old new : ℕ)
      → place ≡ place_of_slot (now w) f.change.node f.change.index → old ≡ f.change.from
      → new ≡ word_of (ChangeAt base)
      → CanExchange w place old new (Install number base (rows_of f base))
  can_install_here place old new at_w old_is new_is =
      let at : place ≡ place_of_slot (now v) f.change.node f.change.index =
      at_w ∙ place_there l record { later = no_more; lawful = s.lawful } in
      record {
        make = record {
          mine = sym m.mine;
          stored = m.stored;
          allowed = λ x e. subst (MayInstall w number) (one_change x e) call_allows;
        };
        known = λ log c.
            let slot = slot_there log c in (
              slot.0,
              subst (λ p. IsShown (state_of v.start v.words log) p slot.0)
                  (place_there log c ∙ sym at)
                  (slot_shown v.start v.words log c.lawful.enabled f.change.node f.change.index
                  slot.0 slot.1),
            );
        comes = λ log c shown. let u = state_of v.start v.words log in
            let slot = slot_there log c in let on = later-goes_on (later_all log c.later) in
            let same : old ≡ slot.0 =
            shown_in_slot v.start v.words log c.lawful.enabled f.change.node f.change.index
            slot.0 old slot.1 (subst (λ p. IsShown u p old) (at ∙ sym (place_there log c)) shown) in
            let low = s.is_true.low number m.mine in
            let more = callers_later v.start v.words l log c.later in record {
              enabled = record {
                known = omega arith;
                change = f.change;
                fresh = f.fresh;
                rows_are = refl;
                held = rows_held log c;
                owned = m.owned;
                unset = m.unset;
                in_slot = subst (SlotHolds u f.change.node f.change.index) (sym same ∙ old_is)
                    slot.1;
                linked = ever_later (start v.start v.words) (λ t. Linked t f.change.node) on m.linked;
                unrefused = unrefused_later v.start v.words number f.change.node v.log log
                    sv.lawful.enabled c.lawful.enabled (later_all log c.later) m.allowed.resolved
                    m.unrefused;
                fits = fits_later v.start v.words c.lawful.opens v.log log c.lawful.enabled on
                    f.change f.fresh m.fits;
              };
              touches = ap (λ p. Some record {
                place = p;
                found = f.change.from;
                left = word_of (ChangeAt base);
              }) (place_there log c ∙ sym at)
                  ∙ ap₂ (λ a b. Some record { place = place; found = a; left = b }) (sym old_is)
                  (sym new_is);
            };
      }

-- the exchange of the slot may be the Install, for a caller that went on
pub can_install : (v : View) (base : ℕ) (f : Filling) (m : IsInstallable v base f) → IsSound v
    → (w : View) → GoesOnTo v w → (place old new : ℕ)
    → place ≡ place_of_slot (now w) f.change.node f.change.index → old ≡ f.change.from
    → new ≡ word_of (ChangeAt base)
    → CanExchange w place old new (Install m.number base (rows_of f base))
can_install v base f m sv w g place old new at old_is new_is =
    subst (λ x. CanExchange x place old new (Install m.number base (rows_of f base))) (sym g.same)
    (can_install_here v base f m sv w.log w.loads w.loaded g.later (subst IsSound g.same g.sound)
    place old new
    (subst (λ x. place ≡ place_of_slot (now x) f.change.node f.change.index) g.same at) old_is
    new_is)
