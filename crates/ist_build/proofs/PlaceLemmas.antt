-- Where the words lie that are loaded. Serves `reading`, `filling` and `root`.
use Rattle.std.proofs.Common.{◌≡◌, ◌≢◌, ℕ, ◌+◌, ◌<◌, ◌≤◌, length, length-append, Some, ap, arith, ◌*◌, ◌/◌, get_or, refl, sym, ◌∙◌, subst}
use Rattle.ist_core.specs.WordTerms.{Piece, Inner, size_of, anchor_slot_place, place_limit, slot_place, Change, Ref, InnerAt, ChangeAt, ref_of, word_of, SlotHolds, in_row, past_rebuild}
use Rattle.ist_rule.specs.RuleTerms.{IsSound, now, GoesOnTo, Looked}
use Rattle.ist_rule.specs.declared.view.TableName.{TableName}
use Rattle.ist_rule.specs.declared.view.View.{View}
use Rattle.ist_dcss.proofs.FieldLemmas.{row_low, row_above, looked_row, good_base}
use Rattle.ist_dcss.proofs.SlotPlaceLemmas.{has_degree}
use Rattle.ist_build.specs.Putting.{IsRowOfDegree}
use Rattle.std.proofs.lemmas.Option.{slice_get-get_or}
use Rattle.ist_core.specs.declared.states.ChangeRow.{ChangeRow}
use Rattle.ist_core.specs.TreeTerms.{KeepsWord, holds_it, holds_change, IsFrozen, IsFinishedWith}
use Rattle.ist_core.specs.LogTerms.{Passes}
use Rattle.ist_core.proofs.AllLogLemmas.{closed, frozen_reads, inner_there, change_there}
use Rattle.ist_core.proofs.AllPlaceLemmas.{get-words_of_slot, anchor_free, slot_once}
use Rattle.ist_core.proofs.AllWordLemmas.{ref_of-word_of, same_inner}
use Rattle.laws_links.specs.Linking.{IsFinished}
use Rattle.laws_links.proofs.FinishedLemmas.{finished_slot, finished_down}
use Rattle.laws_links.proofs.FormLemmas.{finished_with_grows}
use Rattle.laws_links.proofs.PassLemmas.{passed_no_change}
use Rattle.ist_rule.proofs.EventLemmas.{looked_goes_on, goes_on_more}
use Rattle.ist_rule.proofs.WentOnLemmas.{goes_on_went, goes_on_grow}
use Rattle.ist_mark.proofs.KeepingLemmas.{happened_went}
use Rattle.ist_build.specs.Laying.{IsReservation}
use Rattle.ist_dcss.specs.Reading.{IsNoChange}
use Rattle.ist_build.specs.Reading.{HasSlots, SlotReads}

-- a word of a published row lies within the table, after the anchor's slot
pub word_there : {v : View} {name table : TableName} → IsSound v → v.words ≡ name.words → name ≡ table
    → (base : ℕ) (p : Piece) → (now v).pieces base ≡ Some p → (k place : ℕ) → k < size_of p
    → place ≡ base + k → (place < table.words) × (place ≢ anchor_slot_place)
word_there {v} s is same base p e k place less at = let low = (row_low v s base p e k less).0 in
    let above = row_above v s base p e in let words = ap (λ t. t.words) same in
    (omega arith, λ there. absurd (omega arith))

-- a node's slots lie within the table, and there are few
pub degree_low : (v : View) → IsSound v → (node d : ℕ) → IsRowOfDegree (now v) node d
    → (d < place_limit) × (node + 3 + d + d ≤ v.words)
degree_low v s node d h =
    let it = has_degree v.start v.words v.log s.lawful.enabled node h.row h.published in
    let many = it.slots in let keys = it.keys in let same = h.degree_is in
    let both = length-append h.row.keys h.row.slots in
    let low = row_low v s node (Inner h.row) h.published
    (3 + length h.row.keys + length h.row.slots) (omega arith) in
    let place = low.0 in let all = low.1 in (omega arith, omega arith)

-- so does a slot
pub slot_there : {v : View} {name table : TableName} → IsSound v → v.words ≡ name.words → name ≡ table
    → (node d i place : ℕ) → IsRowOfDegree (now v) node d → i < d → place ≡ slot_place node d i
    → (place < table.words) × (place ≢ anchor_slot_place)
slot_there {v} s is same node d i place h less at = let low = (degree_low v s node d h).1 in
    let above = row_above v s node (Inner h.row) h.published in
    let words = ap (λ t. t.words) same in (omega arith, λ there. absurd (omega arith))

-- ---- slots of finished nodes: what they were passed with, and what hangs below. Serves `reading`.

-- ---- the node

-- a finished node is finished, with its slots
pub slots_on : (v w : View) → GoesOnTo v w → (node degree : ℕ) → HasSlots v node degree
    → HasSlots w node degree
slots_on v w g node degree h = let grow = goes_on_grow v w g in
    let it = inner_there (now v).pieces (now w).pieces grow node h.row h.published in
    let f = finished_with_grows (now v) (now w) grow node h.keys
    record { row = h.row; published = h.published; status = h.finished } in
    let same = same_inner ((now w).pieces node) it.0 f.row it.1 f.published in record {
      row = it.0;
      published = it.1;
      keys = h.keys;
      finished = ap (λ r. r.status) same ∙ f.status;
      degree_is = it.2.degree ∙ h.degree_is;
    }

-- a node with slots to read is finished
pub slots_finished : (v : View) (node degree : ℕ) → HasSlots v node degree → IsFinished (now v) node
slots_finished v node degree h = grind arith

-- and a row with as many
pub slots_row : (v : View) (node degree : ℕ) → HasSlots v node degree → IsRowOfDegree (now v) node degree
slots_row v node degree h = record { row = h.row; published = h.published; degree_is = h.degree_is }

-- a finished node stays finished after loads
pub finished_on : (v w : View) → GoesOnTo v w → (node k : ℕ) → IsFinishedWith (now v) node k
    → IsFinishedWith (now w) node k
finished_on v w g node k f = finished_with_grows (now v) (now w) (goes_on_grow v w g) node k f

-- a load of its status gives its number of keys
pub keys_told : (v : View) (place word : ℕ) (w : View) → Looked v place word w → (node : ℕ)
    → IsFinished (now v) node → place ≡ node → IsFinishedWith (now w) node (word / 4)
keys_told v place word w l node done at =
    let f = finished_on v w (looked_goes_on v place word w l) node done.0 done.1 in
    let is = looked_row v place word w l node (Inner f.row) 0 f.row.status f.published refl (omega arith) in
    let status : f.row.status ≡ 4 * done.0 + 3 = f.status in
    let keys : word / 4 ≡ done.0 = omega arith in subst (IsFinishedWith (now w) node) (sym keys) f

-- and one of its degree its slots
pub degree_told : (v : View) (place word : ℕ) (w : View) → Looked v place word w → (node : ℕ)
    → IsFinished (now v) node → place ≡ node + 2 → HasSlots w node word
degree_told v place word w l node done at =
    let f = finished_on v w (looked_goes_on v place word w l) node done.0 done.1 in record {
      row = f.row;
      published = f.published;
      keys = done.0;
      finished = f.status;
      degree_is = sym (looked_row v place word w l node (Inner f.row) 2 f.row.degree f.published refl at);
    }

-- two loads, one after the other, go on
pub looked_twice : {u v w : View} {place other word found : ℕ} → Looked u place word v
    → Looked v other found w → GoesOnTo u w
looked_twice {u} {v} {w} l m =
    goes_on_more u v w (looked_goes_on u _ _ v l) (looked_goes_on v _ _ w m)

-- a passed slot stays passed after loads
pub frozen_on : (v w : View) → GoesOnTo v w → (node i word : ℕ) → IsFrozen v.log node i word
    → IsFrozen w.log node i word
frozen_on v w g node i word p =
    happened_went IsReservation v w (goes_on_went IsReservation v w g) (Passes node i word) p

-- ---- slots

-- each slot holds some word
pub slot_some : (v : View) → IsSound v → (node degree i : ℕ) → HasSlots v node degree → i < degree
    → (word : ℕ) × SlotHolds (now v) node i word
slot_some v s node degree i h less =
    let d = has_degree v.start v.words v.log s.lawful.enabled node h.row h.published in
    let many = d.slots in
    let same = h.degree_is in (
      get_or h.row.slots i 0,
      in_row h.row h.published (slice_get-get_or h.row.slots i 0 (omega arith)),
    )

-- there are few
pub few_slots : (v : View) → IsSound v → (node degree : ℕ) → HasSlots v node degree
    → (degree < place_limit) × (node + 3 + degree + degree ≤ v.words)
few_slots v s node degree h = degree_low v s node degree (slots_row v node degree h)

-- a load of a slot's place gives what it holds
pub slot_told : (v : View) (place word : ℕ) (w : View) → Looked v place word w
    → (node degree i : ℕ) → HasSlots v node degree → i < degree → place ≡ slot_place node degree i
    → SlotHolds (now w) node i word
slot_told v place word w l node degree i before less at =
    let h = slots_on v w (looked_goes_on v place word w l) node degree before in let s = l.sound in
    let d = has_degree w.start w.words w.log s.lawful.enabled node h.row h.published in
    let many = d.slots in let keys = d.keys in let same = h.degree_is in
    let got = slice_get-get_or h.row.slots i 0 (omega arith) in
    let is = looked_row v place word w l node (Inner h.row) (4 + length h.row.keys + i)
    (get_or h.row.slots i 0) h.published (get-words_of_slot h.row i ∙ got) (omega arith) in
    in_row h.row h.published (got ∙ ap (λ x. Some x) (sym is))

module _ {v : View} {place word : ℕ} {w : View} (l : Looked v place word w) {node degree i : ℕ}
    (before : HasSlots v node degree) (less : i < degree) (at_slot : place ≡ slot_place node degree i) where
  h : HasSlots w node degree
  h = slots_on v w (looked_goes_on v place word w l) node degree before

  slot : SlotHolds (now w) node i word
  slot = slot_told v place word w l node degree i before less at_slot

  s : IsSound w
  s = l.sound

  -- the word with which it was passed
  passed : (p : ℕ) × IsFrozen w.log node i p
  passed =
      let it = finished_slot w.start w.words w.log s.lawful.enabled node i word
      (slots_finished w node degree h) slot in (it.word, it.passed)

  keeps : KeepsWord (now w) w.log node i passed.0
  keeps = (closed w.start w.words s.lawful.opens w.log s.lawful.enabled node i passed.0
      passed.1).keeps

  once : (other : ℕ) → SlotHolds (now w) node i other → word ≡ other
  once other o = grind (arith, slot_once, anchor_free, slot)

  -- a word that is no change is that word
  pub passed_plain : IsNoChange word → IsFrozen w.log node i word
  passed_plain none = at keeps
    where
      at : KeepsWord (now w) w.log node i passed.0 → IsFrozen w.log node i word
      at (holds_it k) = subst (λ x. IsFrozen w.log node i x) (sym (once passed.0 k)) passed.1
      at (holds_change x) =
          absurd (none x.base (ap ref_of (once (word_of (ChangeAt x.base)) x.in_slot)
          ∙ ref_of-word_of (ChangeAt x.base)
          (good_base w s x.base (Change x.change) x.published (omega arith))))

  -- and a change would take it out
  pub passed_change : {change : ℕ} → ref_of word ≡ Some (ChangeAt change)
      → (row : ChangeRow) × ((now w).pieces change ≡ Some (Change row))
      × IsFrozen w.log node i row.from
  passed_change {change} is = at keeps
    where
      at : KeepsWord (now w) w.log node i passed.0
          → (row : ChangeRow) × ((now w).pieces change ≡ Some (Change row))
          × IsFrozen w.log node i row.from
      at (holds_it k) =
          absurd (passed_no_change _ w.log node i passed.0 s.lawful.enabled passed.1 change
          (ap ref_of (sym (once passed.0 k)) ∙ is))
      at (holds_change x) =
          let same : change ≡ x.base =
          cc (sym is ∙ ap ref_of (once (word_of (ChangeAt x.base)) x.in_slot)
          ∙ ref_of-word_of (ChangeAt x.base)
          (good_base w s x.base (Change x.change) x.published (omega arith))) in (
            x.change,
            ap (now w).pieces same ∙ x.published,
            subst (λ y. IsFrozen w.log node i y) (sym x.from) passed.1,
          )

-- a load of that word gives the word with which the slot was passed
pub from_frozen : {v : View} {place word : ℕ} {w : View} → Looked v place word w → (node i change : ℕ)
    → (row : ChangeRow) × ((now v).pieces change ≡ Some (Change row)) × IsFrozen v.log node i row.from
    → place ≡ change + 4 → IsFrozen w.log node i word
from_frozen {v} {place} {word} {w} l node i change it at =
    let g = looked_goes_on v place word w l in
    let on = change_there (now v).pieces (now w).pieces (goes_on_grow v w g) change it.0 it.1 in
    let is = looked_row v place word w l change (Change on.0) 4 on.0.from on.1 refl at
    ∙ ap (λ r. r.from) on.2.others in
    subst (IsFrozen w.log node i) (sym is) (frozen_on v w g node i it.0.from it.2)

-- ---- what hangs below

-- a slot reads as the word that it was passed with
pub frozen_slot_reads : (v : View) → IsSound v → (node i word : ℕ) (ref : Ref)
    → IsFrozen v.log node i word → past_rebuild (now v).pieces (ref_of word) ≡ Some ref
    → SlotReads (now v) node i ref
frozen_slot_reads v s node i word ref p is held slot =
    frozen_reads v.start v.words s.lawful.opens v.log s.lawful.enabled node i word held p slot ∙ is

-- the child of a finished node is finished
pub child_finished : (v : View) → IsSound v → (node degree i child : ℕ) → HasSlots v node degree
    → i < degree → SlotReads (now v) node i (InnerAt child) → IsFinished (now v) child
child_finished v s node degree i child h less reads = let it = slot_some v s node degree i h less in
    finished_down v.start v.words s.lawful.opens v.log s.lawful.enabled node i child
    (slots_finished v node degree h) record { word = it.0; holds = it.1; reads = reads it.0 it.1 }
