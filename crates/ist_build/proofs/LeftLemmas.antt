-- The words that the slots of a shared root still take: they only get fewer. Serves `filling`.
use Rattle.std.proofs.Common.{◌≡◌, ◌≢◌, ℕ, zero, suc, ◌+◌, ◌<◌, ◌≤◌, Bool, true, false, if◌then◌else◌, Option, Some, None, slice_get, get_or, refl, sym, ap, ◌∙◌, subst, ⊎_elim, arith}
use Rattle.std.specs.List.{flat_map, sum}
use Rattle.std.proofs.lemmas.Bool.{cases_lt}
use Rattle.std.proofs.lemmas.Bool.Decides.{nat_tests}
use Rattle.std.proofs.lemmas.List.Sums.{sum_by-append, sum_by-cons}
use Rattle.ist_core.specs.declared.states.InnerRow.{InnerRow}
use Rattle.ist_core.specs.WordTerms.{degree, part_len, part_lens, Piece, Inner, unset_word, inner_words, slot_place, shape, share_from, SlotHolds, in_anchor, in_row}
use Rattle.ist_core.specs.LogTerms.{Snapshot, IsShown}
use Rattle.ist_core.proofs.AllPlaceLemmas.{anchor_free}
use Rattle.ist_core.proofs.AllWordLemmas.{shape_many}
use Rattle.laws_calls.specs.Dividing.{lens_to}
use Rattle.laws_calls.proofs.PartLemmas.{lens_all}
use Rattle.ist_rule.specs.RuleTerms.{IsSound, now, Looked}
use Rattle.ist_rule.specs.declared.view.View.{View}
use Rattle.ist_rule.proofs.EventLemmas.{looked_goes_on}
use Rattle.ist_build.specs.declared.shared.SharedRoot.{SharedRoot}
use Rattle.ist_build.specs.Calls.{parts_words, root_words}
use Rattle.ist_build.specs.Left.{left_in, slot_is_set, word_is_set, words_left}
use Rattle.ist_build.specs.Putting.{IsRowOfDegree, IsSlotSet, PutOn}
use Rattle.ist_build.proofs.BuiltLemmas.{built_grow, loads_built}
use Rattle.ist_build.proofs.FewLemmas.{root_few, root_many, many_two}
use Rattle.ist_build.proofs.FillLemmas.{set_on}
use Rattle.ist_build.proofs.PartSlotLemmas.{degree_on, slot_holds, slot_shown}
use Rattle.ist_build.proofs.PartsLemmas.{sizes_next}

-- ---- sums

-- no more than all parts take
pub left_all : (set : ℕ → Bool) (k j : ℕ) → words_left set k j ≤ sum (flat_map shape (lens_to k j))
left_all set k zero = omega arith
left_all set k (suc j) = let before = left_all set k j in let one : suc j ≡ j + 1 = omega arith in
    let all = ap (λ n. sum (flat_map shape (lens_to k n))) one ∙ ap sum (sizes_next k j)
    ∙ sum_by-append (λ x. x) (flat_map shape (lens_to k j)) (shape (part_len k j)) in
    let here = at_most (set j) (sum (shape (part_len k j))) in omega arith
  where
    at_most : (b : Bool) (n : ℕ) → (if b then 0 else n) ≤ n
    at_most true n = omega arith
    at_most false n = omega arith

module _ (set more : ℕ → Bool) (on : (i : ℕ) → set i ≡ true → more i ≡ true) (k : ℕ) where
  less : (b c : Bool) (n : ℕ) → (b ≡ true → c ≡ true) → (if c then 0 else n) ≤ (if b then 0 else n)
  less true true n to = omega arith
  less true false n to = absurd (let same = to refl in cc)
  less false true n to = omega arith
  less false false n to = omega arith

  -- as more slots are set, fewer words are left
  pub left_falls : (j : ℕ) → words_left more k j ≤ words_left set k j
  left_falls zero = omega arith
  left_falls (suc j) = let before = left_falls j in
      let here = less (set j) (more j) (sum (shape (part_len k j))) (on j) in omega arith

  whole : (b c : Bool) (n : ℕ) → b ≡ false → c ≡ true
      → (if c then 0 else n) + n ≤ (if b then 0 else n)
  whole b c n e f = grind arith

  -- a slot that is set meanwhile leaves the words of its part
  pub left_part : (i : ℕ) → set i ≡ false → more i ≡ true → (j : ℕ) → i < j
      → words_left more k j + sum (shape (part_len k i)) ≤ words_left set k j
  left_part i vacant shut zero low = absurd (omega arith)
  left_part i vacant shut (suc j) low = ⊎_elim
      (λ under. let before = left_part i vacant shut j under in
      let here = less (set j) (more j) (sum (shape (part_len k j))) (on j) in
      let h : words_left more k (suc j) + sum (shape (part_len k i)) ≤ words_left set k (suc j)
      = omega arith in
      h)
      (λ over. let same : i ≡ j = omega arith in let before = left_falls j in
      let here = subst (λ n. (if more n then 0 else sum (shape (part_len k n)))
      + sum (shape (part_len k n)) ≤ (if set n then 0 else sum (shape (part_len k n)))) same
      (whole (set i) (more i) (sum (shape (part_len k i))) vacant shut) in
      let cost = ap (λ n. sum (shape (part_len k n))) same in
      let h : words_left more k (suc j) + sum (shape (part_len k i)) ≤ words_left set k (suc j)
      = omega arith in
      h)
      (cases_lt i j)

-- a slot that isn't set leaves the words of its part
pub left_has : (set : ℕ → Bool) (k i : ℕ) → set i ≡ false → (j : ℕ) → i < j
    → sum (shape (part_len k i)) ≤ words_left set k j
left_has set k i vacant j low =
    let all = left_part set (λ n. true) (λ n e. refl) k i vacant refl j low in omega arith

-- ---- slots

-- a word is set if it isn't Unset
word_set : (word : ℕ) → word ≢ unset_word → word_is_set (Some word) ≡ true
word_set word set = grind (arith, nat_tests)

set_word : (word : ℕ) → word_is_set (Some word) ≡ true → word ≢ unset_word
set_word word is = grind (arith, nat_tests)

word_unset : (word : ℕ) → word ≡ unset_word → word_is_set (Some word) ≡ false
word_unset word is = grind (arith, nat_tests)

-- what a row's slot is
row_slot : (t : Snapshot) (node i word : ℕ) (r : InnerRow) → t.pieces node ≡ Some (Inner r)
    → slice_get r.slots i ≡ Some word → slot_is_set (t.pieces node) i ≡ word_is_set (Some word)
row_slot t node i word r e got = ap (λ p. slot_is_set p i) e ∙ ap word_is_set got

module _ (v : View) (s : IsSound v) where
  -- a slot that holds Unset isn't set
  pub unset_open : (node i word : ℕ) → SlotHolds (now v) node i word → word ≡ unset_word
      → slot_is_set ((now v).pieces node) i ≡ false
  unset_open node i word (in_anchor a b e) is = grind (arith, anchor_free)
  unset_open node i word (in_row r e got) is = grind (arith, row_slot, word_unset)

  -- a slot of a row that is set is so
  pub set_shut : (node i : ℕ) (row : InnerRow) → (now v).pieces node ≡ Some (Inner row)
      → IsSlotSet (now v) node i → slot_is_set ((now v).pieces node) i ≡ true
  set_shut node i row there h = grind (arith, anchor_free, row_slot, word_set)

-- and the other way round
shut_set : (t : Snapshot) (node i : ℕ) → slot_is_set (t.pieces node) i ≡ true → IsSlotSet t node i
shut_set t node i is = at (t.pieces node) refl is
  where
    in_slots : (r : InnerRow) → t.pieces node ≡ Some (Inner r) → (o : Option ℕ)
        → slice_get r.slots i ≡ o → word_is_set o ≡ true → IsSlotSet t node i
    in_slots r e (Some word) got is = record { word = word; holds = in_row r e got; set = set_word word is }
    in_slots r e None got is = absurd (let b = is in cc)

    at : (o : Option Piece) → t.pieces node ≡ o → slot_is_set o i ≡ true → IsSlotSet t node i
    at (Some (Inner r)) e is = in_slots r e (slice_get r.slots i) refl is
    at _ e is = absurd (let b = is in cc)

-- ---- a shared root

module _ (v w : View) (b : PutOn v w) (shared : SharedRoot) (row : InnerRow)
    (there : (now w).pieces shared.root ≡ Some (Inner row)) where
  -- what is set stays set
  stays : (i : ℕ) → slot_is_set ((now v).pieces shared.root) i ≡ true
      → slot_is_set ((now w).pieces shared.root) i ≡ true
  stays i is = set_shut w b.sound shared.root i row there
      (set_on v w b shared.root i (shut_set (now v) shared.root i is))

  -- so no more words are left
  pub left_on : left_in (now w) shared ≤ left_in (now v) shared
  left_on = left_falls (slot_is_set ((now v).pieces shared.root))
      (slot_is_set ((now w).pieces shared.root)) stays shared.keys (degree shared.keys)

  -- and those of a slot less that is set meanwhile
  pub left_less : (i : ℕ) → i < degree shared.keys
      → slot_is_set ((now v).pieces shared.root) i ≡ false → IsSlotSet (now w) shared.root i
      → left_in (now w) shared + sum (shape (part_len shared.keys i)) ≤ left_in (now v) shared
  left_less i low vacant set = left_part (slot_is_set ((now v).pieces shared.root))
      (slot_is_set ((now w).pieces shared.root)) stays shared.keys i vacant
      (set_shut w b.sound shared.root i row there set) (degree shared.keys) low

-- at most all that isn't the root's
pub left_most : (t : Snapshot) (shared : SharedRoot) → share_from ≤ shared.keys
    → left_in t shared ≤ parts_words shared.keys
left_most t shared many = let k = shared.keys in
    let most = left_all (slot_is_set (t.pieces shared.root)) k (degree k) in
    let lens = ap (λ xs. sum (flat_map shape xs)) (lens_all k) in
    let all = ap sum (shape_many k (many_two k many))
    ∙ sum_by-cons (λ x. x) (inner_words (degree k)) (flat_map shape (part_lens k)) in
    let root = root_many k many in omega arith

-- a load of a slot that holds Unset
pub slot_open : (v w : View) (node d i place word : ℕ) → IsRowOfDegree (now v) node d → i < d
    → place ≡ slot_place node d i → Looked v place word w → word ≡ unset_word
    → slot_is_set ((now w).pieces node) i ≡ false
slot_open v w node d i place word h less at l is =
    let on = degree_on (now v) (now w)
    (built_grow v w (loads_built v w (looked_goes_on v place word w l))) node d h in
    let enabled = l.sound.lawful.enabled in
    let there = l.stood (get_or on.row.slots i 0)
    (subst (λ p. IsShown (now w) p (get_or on.row.slots i 0)) (sym at)
    (slot_shown w.start w.words w.log enabled node d i on less)) in
    unset_open w l.sound node i (get_or on.row.slots i 0)
    (slot_holds w.start w.words w.log enabled node d i on less) (sym there ∙ is)

-- ---- the root

-- the root takes no more than the whole
pub root_most : (k : ℕ) → root_words k ≤ sum (shape k)
root_most k = ⊎_elim
    (λ few. let is = root_few k few in let h : root_words k ≤ sum (shape k) = omega arith in h)
    (λ many.
    let all = ap sum (shape_many k (many_two k many))
    ∙ sum_by-cons (λ x. x) (inner_words (degree k)) (flat_map shape (part_lens k)) in
    let is = root_many k many in let h : root_words k ≤ sum (shape k) = omega arith in
    h)
    (cases_lt k share_from)
