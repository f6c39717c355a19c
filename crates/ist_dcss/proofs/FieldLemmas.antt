-- Loads of words of published rows. Serves `field` and `slot_of`.
use Rattle.std.proofs.Common.{◌≡◌, ◌≢◌, ℕ, ◌+◌, ◌<◌, ◌≤◌, length, slice_get, Some, refl, sym, ap, ap₂, ◌∙◌, subst, arith, ◌^◌}
use Rattle.std.proofs.lemmas.Option.{slice_get-get_or, same_Some}
use Rattle.std.specs.Prelude.{get_or}
use Rattle.ist_core.specs.declared.states.InnerRow.{InnerRow}
use Rattle.ist_core.specs.declared.states.ChangeRow.{ChangeRow}
use Rattle.ist_core.specs.declared.states.RebuildRow.{RebuildRow}
use Rattle.ist_core.specs.WordTerms.{first_row, place_limit, anchor, change_words, change_node_offset, change_index_offset, inner_degree_offset, slot_place, Piece, Inner, Change, words_of, size_of, IsGoodBase, SlotHolds, in_anchor, in_row, Rebuild}
use Rattle.ist_core.specs.TreeTerms.{place_of_slot, ChangeGrows, HasTarget, IsStarted}
use Rattle.ist_core.proofs.AllLogLemmas.{inner_there, next_within, words_same, rebuild_there, published_good}
use Rattle.ist_core.proofs.AllPlaceLemmas.{get_below, get-words_of_slot, placed, claimed_within, IsRebuildFor, SideNames, names}
use Rattle.ist_rule.specs.RuleTerms.{IsSound, now, GoesOnTo, Looked, WentOn}
use Rattle.ist_rule.specs.declared.view.View.{View}
use Rattle.ist_core.specs.LogTerms.{IsShown, shown_row}
use Rattle.ist_core.proofs.AllWordLemmas.{same_value}
use Rattle.ist_rule.proofs.WatchLemmas.{place_inner}
use Rattle.ist_dcss.specs.Helping.{MayHelp, Serves}
use Rattle.ist_dcss.specs.HelpEvents.{IsField, IsSlot, IsSlotOf}
use Rattle.ist_rule.proofs.EventLemmas.{looked_goes_on}
use Rattle.ist_rule.proofs.WentOnLemmas.{goes_on_went, looked_went, goes_on_grow}
use Rattle.ist_dcss.proofs.ResolvedLemmas.{went_row}
use Rattle.ist_dcss.proofs.SlotPlaceLemmas.{change_slot, has_degree, no_anchor}
use Rattle.ist_dcss.specs.Reading.{IsRebuildRow}

-- a word of a published row lies within the table, which is small
pub row_low : (v : View) → IsSound v → (base : ℕ) (p : Piece) → (now v).pieces base ≡ Some p
    → (k : ℕ) → k < size_of p → (base + k < v.words) × (v.words ≤ place_limit)
row_low v s base p there k less =
    let high = (claimed_within v.start v.words v.log base (size_of p) s.lawful.enabled
    ((placed v.start v.words v.log s.lawful.enabled).published base p there)).below_next in
    let low = next_within v.start v.words s.lawful.opens v.log s.lawful.enabled in
    let all = words_same v.start v.words s.lawful.opens v.log in
    (omega arith, s.lawful.opens.within)

-- a published row lies after the fixed words
pub row_above : (v : View) → IsSound v → (base : ℕ) (p : Piece) → (now v).pieces base ≡ Some p
    → first_row ≤ base
row_above v s base p there =
    (claimed_within v.start v.words v.log base (size_of p) s.lawful.enabled
    ((placed v.start v.words v.log s.lawful.enabled).published base p there)).after_fixed

-- a load of such a word gives it
pub looked_row : (v : View) (place word : ℕ) (w : View) → Looked v place word w
    → (base : ℕ) (p : Piece) (k x : ℕ) → (now w).pieces base ≡ Some p
    → slice_get (words_of p) k ≡ Some x → place ≡ base + k → word ≡ x
looked_row v place word w l base p k x there got at =
    l.stood x (subst (λ q. IsShown (now w) q x) (sym at) (shown_row base p k there got))

-- a load of a word of an installed change gives one of its words
pub looked_field : (v : View) (place word : ℕ) (w : View) → Looked v place word w
    → (change offset : ℕ) → MayHelp v change → offset < change_words → place ≡ change + offset
    → IsField w change offset word
looked_field v place word w l change offset m less at =
    let on = went_row (Serves change) change v w (looked_went (Serves change) v place word w l) m.row m.installed in
    let words = words_of (Change on.0) in
    let got : slice_get words offset ≡ Some (get_or words offset 0) =
    slice_get-get_or words offset 0 less in
    let same = looked_row v place word w l change (Change on.0) offset (get_or words offset 0) on.1
    got at in
    record { row = on.0; published = on.1; is = got ∙ ap Some (sym same) }

pub one_change : (p q : ChangeRow) → Change p ≡ Change q → p ≡ q
one_change p q e = cc

-- a word of the change's row, by its name
pub field_now : (v : View) (change offset word : ℕ) → IsField v change offset word
    → (f : ChangeRow → ℕ) → ((r : ChangeRow) → slice_get (words_of (Change r)) offset ≡ Some (f r))
    → (row : ChangeRow) → (now v).pieces change ≡ Some (Change row) → word ≡ f row
field_now v change offset word i f at row there = grind (arith, one_change, same_value, same_Some)

-- a word of the change that doesn't change is the same in each later view
pub field_is : (v : View) (change offset word : ℕ) → IsField v change offset word
    → (f : ChangeRow → ℕ) → ((r : ChangeRow) → slice_get (words_of (Change r)) offset ≡ Some (f r))
    → ((a b : ChangeRow) → ChangeGrows a b → f b ≡ f a) → (w : View) → WentOn (Serves change) v w
    → (row : ChangeRow) → (now w).pieces change ≡ Some (Change row) → word ≡ f row
field_is v change offset word i f at stays w h row there =
    let on = went_row (Serves change) change v w h i.row i.published in
    let same : on.0 ≡ row = one_change on.0 row
    (same_value ((now w).pieces change) (Change on.0) (Change row) on.1 there) in
    same_Some word (f i.row) (sym i.is ∙ at i.row) ∙ sym (stays i.row on.0 on.2) ∙ ap f same

-- ---- the place of a slot

-- what a caller needs of the inner row in which a slot lies
pub record HasPlace (v : View) (node i : ℕ) : Type 0 where
  pub row : InnerRow
  pub published : (now v).pieces node ≡ Some (Inner row)
  pub index : i < row.degree
  pub degree : row.degree < place_limit
  pub above : first_row ≤ node
  pub low : node + 2 < v.words
  pub small : v.words ≤ place_limit

-- a slot that isn't the anchor's lies in an inner row
pub has_place : (v : View) → IsSound v → (node i : ℕ) → IsSlot v node i → node ≢ anchor
    → HasPlace v node i
has_place v s node i slot ne = at slot.word slot.holds
  where
    at : (word : ℕ) → SlotHolds (now v) node i word → HasPlace v node i
    at word (in_anchor e f g) = absurd (ne e)
    at word (in_row r e got) = let d = has_degree v.start v.words v.log s.lawful.enabled node r e in
        let keys = d.keys in let slots = d.slots in let less = get_below r.slots i word got in
        let far = get_below (words_of (Inner r)) (4 + length r.keys + i) word
        (get-words_of_slot r i ∙ got) in
        let low = row_low v s node (Inner r) e (4 + length r.keys + i) far in let place = low.0 in
        let all = low.1 in record {
          row = r;
          published = e;
          index = omega arith;
          degree = omega arith;
          above = row_above v s node (Inner r) e;
          low = omega arith;
          small = all;
        }

-- what the load of the degree says
pub record TellsSlot (v : View) (node i degree : ℕ) : Type 0 where
  pub index_low : i < degree
  pub degree_low : degree < place_limit
  pub place : slot_place node degree i ≡ place_of_slot (now v) node i

-- a load of the degree gives the place of the slot
pub tells_slot : (v : View) (node i : ℕ) → HasPlace v node i → (degree : ℕ) (w : View)
    → Looked v (node + inner_degree_offset) degree w → TellsSlot w node i degree
tells_slot v node i k degree w l =
    let g = looked_goes_on v (node + inner_degree_offset) degree w l in
    let r = inner_there (now v).pieces (now w).pieces (goes_on_grow v w g) node k.row k.published in
    let is : degree ≡ r.0.degree = looked_row v (node + inner_degree_offset) degree w l node
    (Inner r.0) 2 r.0.degree r.1 refl refl in
    let same : r.0.degree ≡ k.row.degree = r.2.degree in let less = k.index in let low = k.degree in
    record {
      index_low = omega arith;
      degree_low = omega arith;
      place = ap (λ d. slot_place node d i) is
          ∙ sym (place_inner (now w) node i r.0 r.1
          (no_anchor w.start w.words w.log l.sound.lawful.enabled node r.0 r.1));
    }

-- the words of an installed change name its slot
pub record NamesSlot (v : View) (change node index : ℕ) : Type 0 where
  pub row : ChangeRow
  pub published : (now v).pieces change ≡ Some (Change row)
  pub node_is : node ≡ row.node
  pub index_is : index ≡ row.index
  pub slot : IsSlot v node index

-- the words of a change that name its slot name a slot
pub names_slot : (u : View) (change node : ℕ) → IsField u change change_node_offset node
    → (v : View)
    → WentOn (Serves change) u v → (index : ℕ) → IsField v change change_index_offset index
    → NamesSlot v change node index
names_slot u change node first v h index second = let row = second.row in let s = h.sound in
    let node_is : node ≡ row.node = field_is u change change_node_offset node first (λ r. r.node)
    (λ r. refl) (λ a b g. ap (λ x. x.node) g.others) v h row second.published in
    let index_is = field_now v change change_index_offset index second (λ r. r.index) (λ r. refl)
    row
    second.published in
    let slot = change_slot v.start v.words v.log s.lawful.enabled change row second.published in
    record {
      row = row;
      published = second.published;
      node_is = node_is;
      index_is = index_is;
      slot = record {
        word = slot.0;
        holds = subst (λ n. SlotHolds (now v) n index slot.0)
            (sym node_is) (subst (λ i. SlotHolds (now v) row.node i slot.0) (sym index_is) slot.1);
      };
    }

-- after more loads, the place of that slot is the place of the change's slot
pub place_of_change : (v : View) (change node index : ℕ) → NamesSlot v change node index
    → (w : View) → GoesOnTo v w → (place : ℕ) → place ≡ place_of_slot (now w) node index
    → IsSlotOf w change place
place_of_change v change node index k w g place at =
    let on = went_row (Serves change) change v w (goes_on_went (Serves change) v w g) k.row k.published in
    record {
      row = on.0;
      published = on.1;
      at = at ∙ ap₂ (place_of_slot (now w)) (k.node_is ∙ sym (ap (λ x. x.node) on.2.others))
          (k.index_is ∙ sym (ap (λ x. x.index) on.2.others));
    }

-- a published row lies at a good base
pub good_base : (v : View) → IsSound v → (base : ℕ) (p : Piece) → (now v).pieces base ≡ Some p
    → 0 < size_of p → IsGoodBase base
good_base v s base p there some =
    let claim = claimed_within v.start v.words v.log base (size_of p) s.lawful.enabled
    ((placed v.start v.words v.log s.lawful.enabled).published base p there) in
    let low = row_low v s base p there 0 some in let place = low.0 in let all = low.1 in
    record { after_fixed = claim.after_fixed; below_limit = omega arith }

-- ---- the targets of rebuilds, and rebuilds that are started. Serves `target_of` and its callers.

-- ---- a started rebuild

-- a started rebuild is published, in the slot of its start
pub started_row : (v : View) → IsSound v → (rebuild : ℕ) → (s : IsStarted (now v) rebuild)
    → IsRebuildFor (now v).pieces s.change.node s.change.index rebuild
started_row v s rebuild h = subst (SideNames (now v).pieces h.change.node h.change.index) h.to
    ((names v.start v.words s.lawful.opens v.log s.lawful.enabled).rows h.base (Change h.change)
    h.published).1

-- a started rebuild is published
pub started_rebuild : (v : View) → IsSound v → (rebuild : ℕ) → IsStarted (now v) rebuild
    → IsRebuildRow (now v) rebuild
started_rebuild v s rebuild h =
    let it = started_row v s rebuild h in record { row = it.row; published = it.published }

-- ---- the target

-- the target and the parent of a rebuild fit in 32 bits
pub record AreLow (row : RebuildRow) : Type 0 where
  pub target : row.target < 2 ^ 32
  pub parent : row.parent < 2 ^ 32

-- the target and the parent of a published rebuild fit in 32 bits
pub fields_low : (v : View) → IsSound v → (rebuild : ℕ) (row : RebuildRow)
    → (now v).pieces rebuild ≡ Some (Rebuild row) → AreLow row
fields_low v s rebuild row e =
    let it = (names v.start v.words s.lawful.opens v.log s.lawful.enabled).rows rebuild
    (Rebuild row) e in
    let less = it.0 in
    let good = published_good v.start v.words s.lawful.opens v.log row.target (Inner it.1.0)
    s.lawful.enabled it.1.1 in
    let low = good.below_limit in record { target = omega arith; parent = omega arith }

-- the rebuild after a load of its target
rebuild_after : (v : View) (place word : ℕ) (w : View) → Looked v place word w → (rebuild : ℕ)
    → IsRebuildRow (now v) rebuild → place ≡ rebuild + 0
    → (r : RebuildRow) × ((now w).pieces rebuild ≡ Some (Rebuild r)) × (word ≡ r.target)
rebuild_after v place word w l rebuild b at =
    let it = rebuild_there (now v).pieces (now w).pieces
    (goes_on_grow v w (looked_goes_on v place word w l)) rebuild b.row b.published in (
      it.0,
      it.1,
      looked_row v place word w l rebuild (Rebuild it.0) 0 it.0.target it.1 refl at,
    )

-- the load gives the target
pub target_told : (v : View) (place word : ℕ) (w : View) → Looked v place word w → (rebuild : ℕ)
    → IsRebuildRow (now v) rebuild → place ≡ rebuild + 0 → HasTarget (now w) rebuild word
target_told v place word w l rebuild b at = let it = rebuild_after v place word w l rebuild b at in
    record { row = it.0; published = it.1; target_is = sym it.2 }

-- which fits in 32 bits
pub target_low : (v : View) (place word : ℕ) (w : View) → Looked v place word w → (rebuild : ℕ)
    → IsRebuildRow (now v) rebuild → place ≡ rebuild + 0 → word < 2 ^ 32
target_low v place word w l rebuild b at = let it = rebuild_after v place word w l rebuild b at in
    let low = (fields_low w l.sound rebuild it.0 it.1).target in
    subst (λ n. n < 2 ^ 32) (sym it.2) low
