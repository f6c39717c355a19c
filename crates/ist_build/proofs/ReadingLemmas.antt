-- The reading of a finished node, slot by slot. Serves `reading`.
use Rattle.std.proofs.Common.{◌≡◌, ℕ, zero, suc, ◌+◌, ◌<◌, ◌≤◌, List, [], ◌∷◌, ◌++◌, length, drop, slice_get, get_or, Option, Some, None, refl, sym, ap, ◌∙◌, subst, append-nil, append_assoc, arith}
use Rattle.std.proofs.lemmas.Option.{slice_get-get_or}
use Rattle.std.proofs.lemmas.List.{length-drop, drop_more, drop_all}
use Rattle.ist_core.specs.TreeTerms.{PlacedLeaf, HasLeaves, SlotsHaveLeaves, none_here, leaf_here, row_here, no_slot, one_slot, IsFinishedWith}
use Rattle.ist_core.specs.WordTerms.{Piece, Pieces, Inner, Leaf, Rebuild, Ref, Empty, LeafAt, InnerAt, RebuildAt, ref_of, SlotHolds, in_row, logical, past_rebuild, rebuild_reads}
use Rattle.ist_core.proofs.AllLogLemmas.{frozen_reads, inner_there, rebuild_there, leaf_there, finished_leaves_stay}
use Rattle.ist_core.proofs.AllPlaceLemmas.{reached, slots_reached}
use Rattle.ist_core.proofs.AllWordLemmas.{same_inner}
use Rattle.laws_links.specs.Linking.{IsFinished}
use Rattle.laws_links.proofs.FinishedLemmas.{finished_slot}
use Rattle.laws_links.proofs.NumberLemmas.{number_is}
use Rattle.ist_rule.specs.RuleTerms.{IsSound, now, GoesOnTo}
use Rattle.ist_rule.specs.declared.view.View.{View}
use Rattle.ist_dcss.proofs.SlotPlaceLemmas.{has_degree}
use Rattle.ist_rule.proofs.WentOnLemmas.{goes_on_went, went_now, went_lawful, later_by-goes_on, goes_on_grow}
use Rattle.ist_build.specs.declared.reading.Cursor.{Cursor}
use Rattle.ist_build.specs.Laying.{IsReservation}
use Rattle.ist_build.specs.Reading.{HasSlots, SlotReads, HasRead, SlotsFrom, IsReading}
use Rattle.ist_build.proofs.PlaceLemmas.{slots_on, slots_finished, slot_some, frozen_on, child_finished}
use Rattle.ist_build.proofs.ReadLemmas.{read_full, read_more, read_none}

-- ---- leaves stay

-- a reference that a finished node's slot reads as has the same leaves later
ref_leaves_on : (v w : View) → IsSound v → GoesOnTo v w → (ref : Ref) (leaves : List PlacedLeaf)
    → ((child : ℕ) → ref ≡ InnerAt child → IsFinished (now v) child)
    → HasLeaves (now v).pieces (Some ref) leaves → HasLeaves (now w).pieces (Some ref) leaves
ref_leaves_on v w s g _ _ done none_here = none_here
ref_leaves_on v w s g _ _ done (leaf_here {base = base} r e) =
    leaf_here r (leaf_there (now v).pieces (now w).pieces
    (goes_on_grow v w g) base r e)
ref_leaves_on v w s g _ leaves done (row_here {base = base} r e slots) =
    let b = goes_on_went IsReservation v w g in let f = done base refl in
    subst (λ t. HasLeaves t.pieces (Some (InnerAt base)) leaves) (sym (went_now IsReservation v w b))
    (finished_leaves_stay v.start v.words s.lawful.opens v.log w.log (later_by-goes_on b.later)
    (went_lawful IsReservation v w b).enabled base leaves f (row_here r e slots))

-- what was passed reads as the same later
past_later : (v w : View) → GoesOnTo v w → (o : Option Ref) (ref : Ref)
    → past_rebuild (now v).pieces o ≡ Some ref → past_rebuild (now w).pieces o ≡ Some ref
past_later v w g (Some (RebuildAt base)) ref e = at ((now v).pieces base) refl e
  where
    at : (o : Option Piece) → (now v).pieces base ≡ o → rebuild_reads o ≡ Some ref
        → rebuild_reads ((now w).pieces base) ≡ Some ref
    at (Some (Rebuild r)) there is =
        let it = rebuild_there (now v).pieces (now w).pieces (goes_on_grow v w g) base r there in
        ap rebuild_reads it.1 ∙ ap (λ n. Some (InnerAt n)) it.2.target ∙ is
    at (Some (Inner r)) there is = cc
    at (Some (Leaf r)) there is = cc
    at _ there is = absurd (cc)
past_later v w g _ ref e = e

some_ref : (o : Option Ref) (ps : Pieces) (leaves : List PlacedLeaf) → HasLeaves ps o leaves
    → (ref : Ref) × (o ≡ Some ref)
some_ref (Some ref) ps leaves h = (ref, refl)
some_ref None ps leaves h = absurd (reached ps None leaves h)

-- a slot of a finished node has the same leaves later
pub slot_leaves_on : (v w : View) → IsSound v → GoesOnTo v w → (node degree i : ℕ)
    → HasSlots v node degree → i < degree → (word : ℕ) (leaves : List PlacedLeaf)
    → SlotHolds (now v) node i word → HasLeaves (now v).pieces (logical (now v).pieces word) leaves
    → (other : ℕ) → SlotHolds (now w) node i other
    → HasLeaves (now w).pieces (logical (now w).pieces other) leaves
slot_leaves_on v w s g node degree i h less word leaves slot has other there =
    let f = slots_finished v node degree h in
    let it = finished_slot v.start v.words v.log s.lawful.enabled node i word f slot in
    let reads = frozen_reads v.start v.words s.lawful.opens v.log s.lawful.enabled node i it.word word
    it.passed slot in
    let ref = some_ref (logical (now v).pieces word) (now v).pieces leaves has in
    let is : past_rebuild (now v).pieces (ref_of it.word) ≡ Some ref.0 = sym reads ∙ ref.1 in
    let r = g.sound in
    let later = frozen_reads w.start w.words r.lawful.opens w.log r.lawful.enabled node i it.word other
    (frozen_on v w g node i it.word it.passed) there ∙ past_later v w g (ref_of it.word) ref.0 is in
    subst (λ o. HasLeaves (now w).pieces o leaves) (sym later)
    (ref_leaves_on v w s g ref.0 leaves
    (λ child e. child_finished v s node degree i child h less
    (λ held sl. frozen_reads v.start v.words s.lawful.opens v.log s.lawful.enabled node i it.word held
    it.passed sl ∙ is ∙ ap (λ x. Some x) e))
    (subst (λ o. HasLeaves (now v).pieces o leaves) ref.1 has))

-- ---- the slots from one on

get_none : (xs : List ℕ) (m : ℕ) → length xs ≡ 0 → slice_get xs m ≡ None
get_none [] zero e = refl
get_none [] (suc m) e = refl
get_none (x ∷ xs) m e = absurd (omega arith)

get_drop : (n : ℕ) (xs : List ℕ) (k : ℕ) → slice_get (drop n xs) k ≡ slice_get xs (n + k)
get_drop zero xs k = ap (slice_get xs) (let q : k ≡ 0 + k = omega arith in q)
get_drop (suc n) [] k = get_none [] k refl ∙ sym (get_none [] (suc n + k) refl)
get_drop (suc n) (x ∷ xs) k =
    get_drop n xs k ∙ ap (slice_get (x ∷ xs)) (let q : suc (n + k) ≡ suc n + k = omega arith in q)

module _ (v w : View) (s : IsSound v) (g : GoesOnTo v w) (node degree : ℕ)
    (h : HasSlots v node degree) where
  slots_leaves_on : (i : ℕ) (words others : List ℕ) (leaves : List PlacedLeaf)
      → length others ≡ length words → i + length words ≤ degree
      → ((k word : ℕ) → slice_get words k ≡ Some word → SlotHolds (now v) node (i + k) word)
      → ((k word : ℕ) → slice_get others k ≡ Some word → SlotHolds (now w) node (i + k) word)
      → SlotsHaveLeaves (now v).pieces words leaves → SlotsHaveLeaves (now w).pieces others leaves
  slots_leaves_on i _ [] _ same within a b no_slot = no_slot
  slots_leaves_on i _ (other ∷ others) _ same within a b no_slot = absurd (omega arith)
  slots_leaves_on i _ [] _ same within a b (one_slot has more) = absurd (omega arith)
  slots_leaves_on i _ (other ∷ others) _ same within a b
      (one_slot {word = word} {words = words} {here = here} {rest = rest} has more) =
      let first : i + 0 ≡ i = omega arith in one_slot
      (slot_leaves_on v w s g node degree i h (omega arith) word here
      (subst (λ k. SlotHolds (now v) node k word) first (a 0 word refl)) has other
      (subst (λ k. SlotHolds (now w) node k other) first (b 0 other refl)))
      (slots_leaves_on (i + 1) words others rest (omega arith) (omega arith)
      (λ k x e. subst (λ m. SlotHolds (now v) node m x) (let q : i + suc k ≡ i + 1 + k = omega arith in q) (a (suc k) x e))
      (λ k x e. subst (λ m. SlotHolds (now w) node m x) (let q : i + suc k ≡ i + 1 + k = omega arith in q) (b (suc k) x e))
      more)

  -- the leaves from slot i on are the same after the caller went on
  pub from_on : (i : ℕ) (leaves : List PlacedLeaf) → i ≤ degree → SlotsFrom (now v) node i leaves
      → SlotsFrom (now w) node i leaves
  from_on i leaves le f =
      let it = inner_there (now v).pieces (now w).pieces
      (goes_on_grow v w g) node f.row f.published in
      let d = has_degree v.start v.words v.log s.lawful.enabled node f.row f.published in
      let same_row = same_inner ((now v).pieces node) f.row h.row f.published h.published in
      let deg = ap (λ r. r.degree) same_row ∙ h.degree_is in let many = d.slots in
      let one = length-drop i f.row.slots in let two = length-drop i it.0.slots in
      let same = it.2.slots in record {
        row = it.0;
        published = it.1;
        slots = slots_leaves_on i (drop i f.row.slots) (drop i it.0.slots) leaves (omega arith)
            (omega arith) (λ k x e. in_row f.row f.published (sym (get_drop i f.row.slots k) ∙ e))
            (λ k x e. in_row it.0 it.1 (sym (get_drop i it.0.slots k) ∙ e)) f.slots;
      }

-- ---- the reading of a node

-- at the first slot
pub reading_first : (leaves : List PlacedLeaf) (into : List ℕ) (at : Cursor) (v : View) (node : ℕ)
    → at.count ≤ length into → HasLeaves (now v).pieces (Some (InnerAt node)) leaves
    → IsReading leaves into at v node 0 into at
reading_first leaves into at v node le has = grind (arith, reached, read_none)

-- loads keep the reading
pub reading_on : (leaves : List PlacedLeaf) (old : List ℕ) (from : Cursor) (v w : View)
    (node degree i : ℕ) (new : List ℕ) (to : Cursor) → IsSound v → GoesOnTo v w
    → HasSlots v node degree → i ≤ degree → IsReading leaves old from v node i new to
    → IsReading leaves old from w node i new to
reading_on leaves old from v w node degree i new to s g h le r = record {
  seen = r.seen;
  rest = r.rest;
  both = r.both;
  following = from_on v w s g node degree h i r.rest le r.following;
  read = r.read;
}

-- the reading after one more slot
pub reading_more : (leaves : List PlacedLeaf) (old : List ℕ) (from : Cursor) (v w : View)
    (node degree i : ℕ) (mid : List ℕ) (via : Cursor) (new : List ℕ) (to : Cursor) → IsSound v
    → GoesOnTo v w → HasSlots v node degree → i < degree
    → IsReading leaves old from v node i mid via
    → ((word : ℕ) (here : List PlacedLeaf) → SlotHolds (now v) node i word
    → HasLeaves (now v).pieces (logical (now v).pieces word) here → HasRead mid via here new to)
    → IsReading leaves old from w node (i + 1) new to
reading_more leaves old from v w node degree i mid via new to s g h less r one =
    let f = r.following in
    let d = has_degree v.start v.words v.log s.lawful.enabled node f.row f.published in
    let same_row = same_inner ((now v).pieces node) f.row h.row f.published h.published in
    let deg = ap (λ x. x.degree) same_row ∙ h.degree_is in let many = d.slots in
    let within : i < length f.row.slots = omega arith in let word = get_or f.row.slots i 0 in
    let parts = slots_reached (now v).pieces (word ∷ drop (i + 1) f.row.slots) r.rest
    (subst (λ ws. SlotsHaveLeaves (now v).pieces ws r.rest) (drop_more f.row.slots i 0 within) f.slots) in
    let slot : SlotHolds (now v) node i word =
    in_row f.row f.published (slice_get-get_or f.row.slots i 0 within) in
    record {
      seen = r.seen ++ parts.0;
      rest = parts.1;
      both = r.both ∙ ap (λ xs. r.seen ++ xs) parts.4 ∙ sym (append_assoc r.seen parts.0 parts.1);
      following = from_on v w s g node degree h (i + 1) parts.1 (omega arith)
          record { row = f.row; published = f.published; slots = parts.3 };
      read = read_more old mid new from via to r.seen parts.0 r.read (one word parts.0 slot parts.2);
    }

-- without room the reading is complete
pub reading_full : (leaves : List PlacedLeaf) (old : List ℕ) (from : Cursor) (v : View)
    (node i : ℕ) (new : List ℕ) (to : Cursor) → IsReading leaves old from v node i new to
    → to.count ≡ length new → HasRead old from leaves new to
reading_full leaves old from v node i new to r full = grind (arith, read_full)

-- after the last slot all leaves were read
pub reading_last : (leaves : List PlacedLeaf) (old : List ℕ) (from : Cursor) (v : View)
    (node degree i : ℕ) (new : List ℕ) (to : Cursor) → IsSound v → HasSlots v node degree
    → degree ≤ i → IsReading leaves old from v node i new to → HasRead old from leaves new to
reading_last leaves old from v node degree i new to s h all r = let f = r.following in
    let d = has_degree v.start v.words v.log s.lawful.enabled node f.row f.published in
    let same_row = same_inner ((now v).pieces node) f.row h.row f.published h.published in
    let deg = ap (λ x. x.degree) same_row ∙ h.degree_is in let many = d.slots in
    let none : drop i f.row.slots ≡ [] = drop_all i f.row.slots (omega arith) in
    let rest : r.rest ≡ [] =
    slots_reached (now v).pieces [] r.rest
    (subst (λ ws. SlotsHaveLeaves (now v).pieces ws r.rest) none f.slots) in
    subst (λ xs. HasRead old from xs new to)
    (sym (r.both ∙ ap (λ xs. r.seen ++ xs) rest ∙ append-nil r.seen)) r.read

-- ---- one slot

-- the leaves below a slot are the leaves of what it reads as
pub under_leaves : (v w : View) → IsSound v → GoesOnTo v w → (node degree i : ℕ)
    → HasSlots v node degree → i < degree → (ref : Ref) → SlotReads (now w) node i ref
    → (word : ℕ) (leaves : List PlacedLeaf) → SlotHolds (now v) node i word
    → HasLeaves (now v).pieces (logical (now v).pieces word) leaves
    → HasLeaves (now w).pieces (Some ref) leaves
under_leaves v w s g node degree i h less ref reads word leaves slot has =
    let it = slot_some w g.sound node degree i (slots_on v w g node degree h) less in
    subst (λ o. HasLeaves (now w).pieces o leaves) (reads it.0 it.1)
    (slot_leaves_on v w s g node degree i h less word leaves slot has it.0 it.1)

-- a finished node has as many leaves as keys
pub leaves_number : (v : View) → IsSound v → (node k : ℕ) → IsFinishedWith (now v) node k
    → (leaves : List PlacedLeaf) → HasLeaves (now v).pieces (Some (InnerAt node)) leaves
    → length leaves ≡ k
leaves_number v s node k f leaves has =
    number_is v.start v.words s.lawful.opens v.log s.lawful.enabled node k leaves f has

-- the reading at the first slot, after a load
pub reading_begun : (into : List ℕ) (at : Cursor) (v w : View) (node : ℕ) → IsSound v → GoesOnTo v w
    → IsFinished (now v) node → at.count ≤ length into → (leaves : List PlacedLeaf)
    → HasLeaves (now v).pieces (Some (InnerAt node)) leaves → IsReading leaves into at w node 0 into at
reading_begun into at v w node s g f le leaves has =
    reading_on leaves into at v w node f.1.row.degree 0 into at s g
    record {
      row = f.1.row;
      published = f.1.published;
      keys = f.0;
      finished = f.1.status;
      degree_is = refl;
    }
    (omega arith) (reading_first leaves into at v node le has)

-- no leaf was read
pub nothing_read : (v : View) (into : List ℕ) (at : Cursor) (leaves : List PlacedLeaf)
    → at.count ≤ length into → HasLeaves (now v).pieces (Some Empty) leaves
    → HasRead into at leaves into at
nothing_read v into at leaves le has = grind (arith, reached, read_none)

-- one was
pub leaf_read : (v : View) (old new : List ℕ) (from to : Cursor) (base : ℕ) (leaves : List PlacedLeaf)
    → ((leaf : PlacedLeaf) → leaf.base ≡ base → HasRead old from (leaf ∷ []) new to)
    → HasLeaves (now v).pieces (Some (LeafAt base)) leaves → HasRead old from leaves new to
leaf_read v old new from to base leaves one has =
    let it = reached (now v).pieces (Some (LeafAt base)) leaves has in
    subst (λ xs. HasRead old from xs new to) (sym it.2) (one record { base = base; row = it.0 } refl)
