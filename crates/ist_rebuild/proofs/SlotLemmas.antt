-- What a load of a rebuild's slot says of the rebuild. Serves `slot_word`, `settle` and `conclude`.
use Rattle.std.proofs.Common.{◌≡◌, ◌≢◌, ℕ, ◌<◌, Some, sym, ap, ◌∙◌, subst, ⊎_elim, arith}
use Rattle.ist_core.specs.declared.events.Event.{Event}
use Rattle.ist_core.specs.WordTerms.{anchor, anchor_slot_place, size_of, words_of, ChangeAt, RebuildAt, ref_of, word_of, SlotHolds, IsOpen, past_change}
use Rattle.ist_core.specs.TreeTerms.{IsReplaced, place_of_slot}
use Rattle.ist_core.specs.LogTerms.{IsShown, shown_next, shown_callers, shown_status, shown_slot, shown_row, shown_free}
use Rattle.ist_core.proofs.AllPlaceLemmas.{get_below, anchor_free, placed, claimed_within, slot_once}
use Rattle.ist_core.proofs.AllWordLemmas.{word_of-ref_of}
use Rattle.ist_core.proofs.AllLogLemmas.{next_within, words_same, past_no_change}
use Rattle.laws_links.proofs.RebuiltLemmas.{started_reads, read_unreplaced}
use Rattle.ist_rule.specs.RuleTerms.{WentOn, now, GoesOnTo, Looked, IsSound}
use Rattle.ist_rule.specs.declared.view.View.{View}
use Rattle.ist_rule.proofs.EventLemmas.{looked_goes_on}
use Rattle.ist_rule.proofs.WentOnLemmas.{went_now, went_lawful, later_by-goes_on}
use Rattle.ist_rule.proofs.WatchLemmas.{place_inner}
use Rattle.ist_dcss.specs.HelpEvents.{IsSlot}
use Rattle.ist_dcss.proofs.FieldLemmas.{row_above}
use Rattle.ist_dcss.proofs.InstallLemmas.{slot_on}
use Rattle.ist_dcss.proofs.CallingLemmas.{place_on}
use Rattle.ist_dcss.proofs.DecideLemmas.{closed_node_stays}
use Rattle.ist_dcss.proofs.SlotPlaceLemmas.{slot_shown}
use Rattle.ist_rebuild.specs.declared.sites.PlannedFinish.{PlannedFinish}
use Rattle.ist_rebuild.specs.Finishing.{IsPlan}
use Rattle.ist_rebuild.specs.Helping.{IsLeftToParent}
use Rattle.ist_rebuild.proofs.SiteLemmas.{parent_node, parent_slot, plan_on}

-- ---- the load

-- a word that is shown is in the table
pub shown_low : (v : View) → IsSound v → (place word : ℕ) → IsShown (now v) place word
    → place < v.words
shown_low v s _ _ shown_next = let room = s.lawful.opens.room in omega arith
shown_low v s _ _ shown_callers = let room = s.lawful.opens.room in omega arith
shown_low v s _ _ shown_status = let room = s.lawful.opens.room in omega arith
shown_low v s _ _ shown_slot = let room = s.lawful.opens.room in omega arith
shown_low v s _ word (shown_row base p k there got) =
    let high = (claimed_within v.start v.words v.log base (size_of p) s.lawful.enabled
    ((placed v.start v.words v.log s.lawful.enabled).published base p there)).below_next in
    let less = get_below (words_of p) k word got in
    let low = next_within v.start v.words s.lawful.opens v.log s.lawful.enabled in
    let all = words_same v.start v.words s.lawful.opens v.log in omega arith
shown_low v s _ _ (shown_free far inside) = grind (arith, words_same)

-- a word in a slot is in the table
pub slot_low : (v : View) → IsSound v → (node i place : ℕ) → IsSlot v node i
    → place ≡ place_of_slot (now v) node i → place < v.words
slot_low v s node i place slot at = subst (λ p. p < v.words) (sym at)
    (shown_low v s (place_of_slot (now v) node i) slot.word
    (slot_shown v.start v.words v.log s.lawful.enabled node i slot.word slot.holds))

-- and isn't the anchor's slot, unless the node is the anchor
pub slot_off : (v : View) → IsSound v → (node i place : ℕ) → IsSlot v node i → node ≢ anchor
    → place ≡ place_of_slot (now v) node i → place ≢ anchor_slot_place
slot_off v s node i place slot ne at = grind (arith, place_inner, row_above)

-- a load of the slot gives its word
pub slot_told : (v : View) → IsSound v → (node i place : ℕ) → IsSlot v node i
    → place ≡ place_of_slot (now v) node i → (word : ℕ) (w : View) → Looked v place word w
    → SlotHolds (now w) node i word
slot_told v s node i place before at word w l = let more = looked_goes_on v place word w l in
    let slot = slot_on v w more node i before.word before.holds in
    let shown = slot_shown w.start w.words w.log l.sound.lawful.enabled node i slot.word slot.holds
    in
    let same : word ≡ slot.word = l.stood slot.word
    (subst (λ p. IsShown (now w) p slot.word)
    (place_on v w s more node i before.word before.holds ∙ sym at) shown) in
    subst (SlotHolds (now w) node i) (sym same) slot.holds

-- the place of a plan's slot, as it was reckoned after more loads
module _ (u v : View) (s : IsSound v) (plan : PlannedFinish) (p : IsPlan u plan) (g : GoesOnTo u v)
    (node place : ℕ) (is : node ≡ plan.parent) (at : place ≡ place_of_slot (now v) node plan.index)
  where
    slot : IsSlot v plan.parent plan.index
    slot = parent_slot v s plan (plan_on u v g plan p)

    place_is : place ≡ place_of_slot (now v) plan.parent plan.index
    place_is = at ∙ ap (λ n. place_of_slot (now v) n plan.index) is

    -- it lies in the table
    pub plan_slot_low : place < v.words
    plan_slot_low = slot_low v s plan.parent plan.index place slot place_is

    -- and isn't the anchor's slot, unless the parent is the anchor
    pub plan_slot_off : plan.parent ≢ anchor → place ≢ anchor_slot_place
    plan_slot_off other = slot_off v s plan.parent plan.index place slot other place_is

    -- a load of it gives what the slot holds
    pub plan_slot_told : (word : ℕ) (w : View) → Looked v place word w
        → SlotHolds (now w) plan.parent plan.index word
    plan_slot_told word w l = slot_told v s plan.parent plan.index place slot place_is word w l

-- ---- what the word says

-- a word that isn't the rebuild's own doesn't read as the rebuild
pub not_itself : (rebuild word : ℕ) → word ≢ word_of (RebuildAt rebuild)
    → ¬ (ref_of word ≡ Some (RebuildAt rebuild))
not_itself rebuild word other is =
    other (sym (word_of-ref_of word (RebuildAt rebuild) is).same_word)

module _ (v : View) (s : IsSound v) (plan : PlannedFinish) (p : IsPlan v plan) (word : ℕ)
    (holds : SlotHolds (now v) plan.parent plan.index word) where
  -- the slot, by the words of the rebuild's row
  in_row_words : SlotHolds (now v) p.row.parent p.row.index word
  in_row_words = subst (λ n. SlotHolds (now v) n p.row.index word) (sym p.parent_is)
      (subst (λ i. SlotHolds (now v) plan.parent i word) (sym p.index_is) holds)

  -- any other word that is no change's: the rebuild was replaced
  pub tells_replaced : ((change : ℕ) → ref_of word ≢ Some (ChangeAt change))
      → ref_of word ≢ Some (RebuildAt plan.rebuild) → IsReplaced (now v) plan.rebuild
  tells_replaced no_change another = ⊎_elim (λ k. k)
      (λ r.
      let same : r.word ≡ word =
      slot_once (now v) p.row.parent p.row.index r.word word
      (anchor_free v.start v.words v.log s.lawful.enabled) r.holds in_row_words in
      absurd (another
      (sym (past_no_change (now v).pieces (ref_of word) no_change)
      ∙ ap (λ n. past_change (now v).pieces (ref_of n)) (sym same) ∙ r.reads)))
      (started_reads v.start v.words s.lawful.opens v.log s.lawful.enabled plan.rebuild p.row
      p.published p.started)

  -- the rebuild's own: the rebuild is there
  pub tells_left : ref_of word ≡ Some (RebuildAt plan.rebuild) → ¬ (IsOpen (now v) plan.parent)
      → IsLeftToParent (now v) plan.rebuild
  tells_left itself closed = record {
    row = p.row;
    published = p.published;
    closed = λ o. closed (subst (IsOpen (now v)) p.parent_is o);
    stands = read_unreplaced v.start v.words s.lawful.opens v.log s.lawful.enabled plan.rebuild
        p.row p.published
        record {
          word = word;
          holds = in_row_words;
          reads = ap (past_change (now v).pieces) itself;
        };
  }

-- ---- what stays

-- a closed parent stays closed
pub closed_went : (P : Event → Type 0) (v w : View) → WentOn P v w → IsSound v → (plan : PlannedFinish)
    → IsPlan v plan → ¬ (IsOpen (now v) plan.parent) → ¬ (IsOpen (now w) plan.parent)
closed_went P v w g s plan p closed = subst (λ t. ¬ (IsOpen t plan.parent)) (sym (went_now P v w g))
    (closed_node_stays v.start v.words v.log w.log (went_lawful P v w g)
    (later_by-goes_on g.later) plan.parent (parent_node v s plan p) closed)
