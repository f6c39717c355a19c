-- A slot of a root that was seen Unset, and what has become of it since. Serves `laws.builds_come`.
use Rattle.std.proofs.Common.{◌≡◌, ◌≢◌, ℕ, ◌+◌, ◌*◌, ◌<◌, List, ◌∷◌, map, length, slice_get, get_or, option_map, Some, None, sym, ap, ◌∙◌, ⊎_elim, arith, ◌≤◌, refl, subst, inl, length-append}
use Rattle.std.proofs.lemmas.List.FromFn.{get_or-map-range_with_len}
use Rattle.std.proofs.lemmas.Option.{slice_get-map, slice_get_within, get_or_from_slice_get}
use Rattle.ist_core.specs.declared.events.Event.{Event}
use Rattle.ist_core.specs.declared.events.Event.TheVariants.{Install, Resolve, Place}
use Rattle.ist_core.specs.declared.lists.Row.{Row}
use Rattle.ist_core.specs.declared.pairs.Pair.{Pair}
use Rattle.ist_core.specs.declared.states.ChangeRow.{ChangeRow}
use Rattle.ist_core.specs.declared.states.InnerRow.{InnerRow}
use Rattle.ist_core.specs.declared.states.RebuildRow.{RebuildRow}
use Rattle.ist_core.specs.WordTerms.{degree, part_len, part_lens, shape, ChangeAt, Ref, unset_word, word_of, parts, Pieces, with_inners, start, IsIdeal, SlotHolds, first_row, slot_place, InnerAt, ref_of, Piece, Inner, Rebuild, size_of, words_of, in_row}
use Rattle.ist_core.specs.LogTerms.{Among, Distinct, Snapshot, bases_of, sizes_of, Log, state, EachEnabled, state_of, no_more, one_more, GoesOn, same_log, one_event, CanOpen, IsShown, shown_next, shown_callers, shown_status, shown_slot, shown_row, shown_free}
use Rattle.ist_core.specs.TreeTerms.{PlacedLeaf, FitsKind, a_put, a_pair, a_remove, a_start, a_finish, CanPlace, Grows, inner_grows, InnerGrows, IsFinishedWith, IsBeaten}
use Rattle.ist_core.proofs.AllWordLemmas.{length-parts, same_value, same_rebuild}
use Rattle.ist_core.proofs.AllPlaceLemmas.{anchor_free, slot_once, WritesSlot, WritesNoSlot, install_writes, place_writes, resolve_writes, slot_stays, get_below, get-words_of_slot, claimed_apart, claimed_within, placed, shaped}
use Rattle.ist_core.proofs.AllEventLemmas.{ideal_stands, held_free}
use Rattle.ist_core.proofs.AllLogLemmas.{set_by, change_set, room_set, grow_between, rebuild_there, slot_remains, goes_on_more, goes_on_by, finished_once}
use Rattle.laws_links.proofs.InductionLemmas.{sound_after}
use Rattle.laws_coming.proofs.SizeLemmas.{ideal_sizes, published_sizes, lengths_of_parts}
use Rattle.std.proofs.lemmas.Bool.Decides.{eqb_tells}
use Rattle.laws_links.proofs.FormLemmas.{finished_with_grows}
use Rattle.laws_links.proofs.FormedLemmas.{rooted_is_finished}
use Rattle.laws_links.proofs.BuiltLemmas.{root_once}
use Rattle.laws_links.proofs.NumberLemmas.{number_is}
use Rattle.laws_coming.specs.Builds.{EndsBuild, EndsNone}
use Rattle.laws_coming.proofs.BeatenLemmas.{beaten_on}
use Rattle.laws_coming.proofs.KnownLemmas.{same_size}

-- ---- where a slot of a root was Unset and is set, another's Place of the same sizes lies between.
-- Serves `laws.builds_come`.

-- ---- sizes

-- part i of some leaves is as long as the arithmetic says
pub part_length : (leaves part : List PlacedLeaf) (i : ℕ) → slice_get (parts leaves) i ≡ Some part
    → (i < degree (length leaves)) × (length part ≡ part_len (length leaves) i)
unfolding part_lens
part_length leaves part i at = let n = length leaves in
    let inside = slice_get_within (parts leaves) i part at in let many = length-parts leaves in
    let less : i < degree n = omega arith in
    let here : slice_get (map length (parts leaves)) i ≡ Some (length part) =
    slice_get-map length (parts leaves) i ∙ ap (option_map length) at in (
      less,
      sym (get_or_from_slice_get (map length (parts leaves)) i (length part) 0 here)
          ∙ ap (λ xs. get_or xs i 0) (lengths_of_parts leaves)
          ∙ get_or-map-range_with_len (part_len n) 0 (degree n) i i 0 less (omega arith),
    )

-- the rows of a part have the sizes of its shape
pub part_sizes : (ps : Pieces) (rows : List Row) (ref : Ref) (part : List PlacedLeaf) (above : ℕ)
    → Distinct (bases_of rows) → ((base : ℕ) → Among base (bases_of rows) → ps base ≡ None)
    → IsIdeal (with_inners ps rows) ref part above (bases_of rows)
    → sizes_of rows ≡ shape (length part)
part_sizes ps rows ref part above once free ideal =
    grind (arith, published_sizes, ideal_stands, ideal_sizes)

-- ---- slots

-- the word that a change takes away isn't Unset
from_set : (first : Snapshot) (log : Log) (change : ChangeRow) (fresh : List Row)
    → FitsKind first log change fresh → change.from ≢ unset_word
from_set first log change fresh (a_put f) = room_set _ change.key change.from f.from
from_set first log change fresh (a_pair f) = set_by change.from _ f.from (λ q. cc)
from_set first log change fresh (a_remove f) = set_by change.from _ f.from (λ q. cc)
from_set first log change fresh (a_start f) = set_by change.from _ f.from (λ q. cc)
from_set first log change fresh (a_finish f) = set_by change.from _ f.from (λ q. cc)

-- the event is a Place into this slot
pub data IsPlaceIn (first : Snapshot) (log : Log) (node i : ℕ) : Event → Type 0 where
  is_place : {caller rebuild j word : ℕ} {rows : List Row}
      (can : CanPlace (state first log) caller rebuild j word rows) → node ≡ can.root → i ≡ j
      → IsPlaceIn first log node i (Place caller rebuild j word rows)

module _ (pairs : List Pair) (words : ℕ) where
  -- a slot that was Unset and is set was written by a Place
  stays_unset : (log : Log) (event : Event) → EachEnabled (start pairs words) (event ∷ log)
      → (node i w : ℕ) → SlotHolds (state_of pairs words (event ∷ log)) node i unset_word
      → SlotHolds (state_of pairs words (event ∷ log)) node i w → w ≢ unset_word
      → IsPlaceIn (start pairs words) log node i event
  stays_unset log event h node i w stays now set =
      absurd (set (slot_once (state_of pairs words (event ∷ log)) node i w unset_word
      (anchor_free pairs words (event ∷ log) h) now stays))

  written : (log : Log) (event : Event) → EachEnabled (start pairs words) (event ∷ log)
      → (at j new old : ℕ)
      → WritesSlot (state_of pairs words log) (state_of pairs words (event ∷ log)) at j new old
      → old ≢ unset_word → (node i w : ℕ) → SlotHolds (state_of pairs words log) node i unset_word
      → SlotHolds (state_of pairs words (event ∷ log)) node i w → w ≢ unset_word
      → IsPlaceIn (start pairs words) log node i event
  written log event h at j new old x other node i w before now set =
      ⊎_elim (λ here. absurd (other (sym here.0)))
      (λ stays. stays_unset log event h node i w stays now set) (x.others node i unset_word before)

  quiet : (log : Log) (event : Event) → EachEnabled (start pairs words) (event ∷ log)
      → WritesNoSlot event → (node i w : ℕ) → SlotHolds (state_of pairs words log) node i unset_word
      → SlotHolds (state_of pairs words (event ∷ log)) node i w → w ≢ unset_word
      → IsPlaceIn (start pairs words) log node i event
  quiet log event h none node i w before now set = stays_unset log event h node i w
      (slot_stays (start pairs words) log event h.1 (sound_after pairs words log h.0) none node i
      unset_word before) now set

  -- an event that sets an Unset slot is a Place into it
  pub filled : (log : Log) (event : Event) → EachEnabled (start pairs words) (event ∷ log)
      → (node i w : ℕ) → SlotHolds (state_of pairs words log) node i unset_word
      → SlotHolds (state_of pairs words (event ∷ log)) node i w → w ≢ unset_word
      → IsPlaceIn (start pairs words) log node i event
  filled log (Install caller base rows) h node i w before now set =
      written log (Install caller base rows) h h.1.change.node h.1.change.index
      (word_of (ChangeAt base)) h.1.change.from
      (install_writes (start pairs words) log caller base rows h.1
      (sound_after pairs words log h.0) (anchor_free pairs words log h.0))
      (from_set (start pairs words) log h.1.change h.1.fresh h.1.fits) node i w before now set
  filled log (Resolve caller base) h node i w before now set =
      written log (Resolve caller base) h h.1.change.node h.1.change.index _
      (word_of (ChangeAt base))
      (resolve_writes (state_of pairs words log) caller base h.1 (anchor_free pairs words log h.0))
      (change_set base) node i w before now set
  filled log (Place caller rebuild j word rows) h node i w before now set =
      ⊎_elim (λ here. is_place h.1 here.1 here.2)
      (λ stays. stays_unset log (Place caller rebuild j word rows) h node i w stays now set)
      ((place_writes (state_of pairs words log) caller rebuild j word rows h.1
      (sound_after pairs words log h.0) (anchor_free pairs words log h.0)).others node i unset_word
      before)
  filled log event h node i w before now set = quiet log event h tt node i w before now set

-- ---- the slot after a prefix

-- what grew into an inner row was one
was_inner : (p : Piece) (r : InnerRow) → Grows p (Inner r) → (old : InnerRow) × (p ≡ Inner old)
    × InnerGrows old r
was_inner _ r (inner_grows {old = old} g) = (old, refl, g)

module _ (pairs : List Pair) (words : ℕ) (prefix log : Log) (on : GoesOn prefix log)
    (h : EachEnabled (start pairs words) log) (node i : ℕ) (row : InnerRow)
    (published : (state_of pairs words log).pieces node ≡ Some (Inner row))
    (within : i < row.degree) where
  -- a word that is shown at the place of a slot, and isn't 0, is the slot's
  pub slot_was : (place word : ℕ) → IsShown (state_of pairs words prefix) place word
      → place ≡ slot_place node row.degree i → word ≢ 0
      → SlotHolds (state_of pairs words prefix) node i word
  slot_was place word shown at some = by place word shown at some
    where
      inside : first_row ≤ node
      inside = (claimed_within pairs words log node (size_of (Inner row)) h
          ((placed pairs words log h).published node (Inner row) published)).after_fixed

      by : (q w : ℕ) → IsShown (state_of pairs words prefix) q w
          → q ≡ slot_place node row.degree i → w ≢ 0
          → SlotHolds (state_of pairs words prefix) node i w
      by _ _ shown_next is some = let low = inside in absurd (omega arith)
      by _ _ shown_callers is some = let low = inside in absurd (omega arith)
      by _ _ shown_status is some = let low = inside in absurd (omega arith)
      by _ _ shown_slot is some = let low = inside in absurd (omega arith)
      by _ _ (shown_free far near) is some = absurd (some refl)
      by _ w (shown_row base p k e got) is some =
          let g = grow_between pairs words prefix log h on in let it = g base p e in
          let size = same_size p it.0 it.2 in let less = get_below (words_of p) k w got in
          let keys = (shaped pairs words log h node (Inner row) published).keys in
          let slots = (shaped pairs words log h node (Inner row) published).slots in
          let whole = inner_size row in ⊎_elim
          (λ one.
          let here = same_value ((state_of pairs words log).pieces node) it.0 (Inner row)
          (subst (λ b. (state_of pairs words log).pieces b ≡ Some it.0) one.0 it.1) published in
          let old = was_inner p row (subst (Grows p) here it.2) in
          let same_keys = ap length old.2.keys in let base_is = one.0 in
          let offset : k ≡ 4 + length old.0.keys + i = omega arith in in_row old.0
          (subst (λ b. (state_of pairs words prefix).pieces b ≡ Some (Inner old.0)) one.0
          (e ∙ ap (λ x. Some x) old.1))
          (sym (get-words_of_slot old.0 i)
          ∙ ap (λ x. slice_get (words_of x) (4 + length old.0.keys + i)) (sym old.1)
          ∙ ap (slice_get (words_of p)) (sym offset) ∙ got))
          (λ two. grind arith)
          (claimed_apart pairs words log base (size_of it.0) node (size_of (Inner row)) h
          ((placed pairs words log h).published base it.0 it.1)
          ((placed pairs words log h).published node (Inner row) published))
        where
          inner_size : (r : InnerRow) → size_of (Inner r) ≡ 4 + length r.keys + length r.slots
          inner_size r = let both = length-append r.keys r.slots in omega arith

-- ---- Places

module _ (pairs : List Pair) (words : ℕ) (opens : CanOpen pairs words) (number k : ℕ) (last : Log)
    (h : EachEnabled (start pairs words) last) (rebuild root i : ℕ) (row : RebuildRow)
    (published : (state_of pairs words last).pieces rebuild ≡ Some (Rebuild row))
    (root_is : ref_of row.root ≡ Some (InnerAt root))
    (done : IsFinishedWith (state_of pairs words last) row.target k) where
  -- a Place into the root has the sizes of the part
  placed_sizes : (log : Log) → GoesOn log last → EachEnabled (start pairs words) log
      → (caller other word : ℕ) (rows : List Row)
      → (can : CanPlace (state_of pairs words log) caller other i word rows) → root ≡ can.root
      → sizes_of rows ≡ shape (part_len k i)
  placed_sizes log on enabled caller other word rows can same = let t = state_of pairs words log in
      let u = state_of pairs words last in let g = grow_between pairs words log last h on in
      let set : can.row.root ≢ unset_word = set_by can.row.root _ can.root_is (λ q. cc) in
      let it = rebuild_there t.pieces u.pieces g other can.row can.published in
      let one : other ≡ rebuild =
      grind (arith, root_once) in
      let target : it.0.target ≡ row.target =
      grind (arith, same_rebuild) in
      let number_of = rooted_is_finished pairs words log enabled other can.row can.published set in
      let number_is_k : number_of.0 ≡ k =
      finished_once u row.target number_of.0 k
      (subst (λ n. IsFinishedWith u n number_of.0) (sym it.2.target ∙ target)
      (finished_with_grows t u g can.row.target number_of.0 number_of.1)) done in
      let many : length can.leaves ≡ k =
      number_is pairs words opens log enabled can.row.target number_of.0 can.leaves number_of.1
      can.reached ∙ number_is_k in
      part_sizes t.pieces rows can.ref can.part can.root can.once
      (held_free t caller rows can.held (sound_after pairs words log enabled)) can.ideal
      ∙ ap shape ((part_length can.leaves can.part i can.part_is).1 ∙ ap (λ n. part_len n i) many)

  -- a slot that was Unset and is set was set by another's Place of the same sizes
  pub beaten_part : (prefix : Log) → SlotHolds (state_of pairs words prefix) root i unset_word
      → (log : Log) → EndsNone number prefix log → GoesOn log last
      → EachEnabled (start pairs words) log → (w : ℕ)
      → SlotHolds (state_of pairs words log) root i w → w ≢ unset_word
      → (one : (v : ℕ) → SlotHolds (state_of pairs words prefix) root i v → v ≡ unset_word)
      → IsBeaten number (shape (part_len k i)) log
  beaten_part prefix was _ no_more on enabled w now set one = absurd (set (one w now))
  beaten_part prefix was _ (one_more {log = log} event g out) on enabled w now set one =
      let before = goes_on_more (one_event event same_log) on in
      let there = slot_remains (state_of pairs words prefix) (state_of pairs words log)
      (grow_between pairs words prefix log enabled.0 (goes_on_by g)) root i unset_word was in
      ⊎_elim
      (λ unset. at event out before
      (filled pairs words log event enabled root i w
      (subst (SlotHolds (state_of pairs words log) root i) unset.1 there.1) now set))
      (λ other. beaten_on number (shape (part_len k i)) log event out
      (beaten_part prefix was log g before enabled.0 there.0 there.1 other.1 one))
      (eqb_tells there.0 unset_word)
    where
      at : (event : Event) → ¬ (EndsBuild number event) → GoesOn log last
          → IsPlaceIn (start pairs words) log root i event
          → IsBeaten number (shape (part_len k i)) (event ∷ log)
      at _ out before (is_place {caller = caller} {rebuild = other} {word = word} {rows = rows} can
          same here) = (
            out,
            inl (placed_sizes log before enabled.0 caller other word rows
                (subst (λ j. CanPlace (state_of pairs words log) caller other j word rows) (sym here)
                can) (same)),
          )
