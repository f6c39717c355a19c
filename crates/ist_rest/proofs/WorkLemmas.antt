-- The work that is left falls with each slot that is visited. Serves `listing.list_words`.
use Rattle.std.proofs.Common.{◌≡◌, ℕ, zero, suc, ◌+◌, ◌-◌, ◌<◌, ◌≤◌, List, [], ◌∷◌, length, map, drop, slice_range, Some, refl, sym, ap, ◌∙◌, subst, arith}
use Rattle.std.proofs.lemmas.List.Sums.{sum_by-cons, sum_by-take-drop}
use Rattle.std.specs.List.{sum_by}
use Rattle.ist_core.specs.WordTerms.{child_count, next_place, Ref, Empty, Unset, LeafAt, InnerAt, ChangeAt, RebuildAt}
use Rattle.ist_rest.specs.declared.slots.SlotLeft.{SlotLeft}
use Rattle.ist_rest.specs.WordRows.{word_at, row_keys, row_slots, reads_in}
use Rattle.ist_rest.specs.Walks.{Visit, IsGoodAs}
use Rattle.ist_rest.specs.Steps.{slots_at, work, work_of, work_left, slot_of, slots_between, IsGoodSlot}

-- a sum of greater numbers
sum_mono : (f g : ℕ → ℕ) → ((x : ℕ) → f x ≤ g x) → (xs : List ℕ) → sum_by f xs ≤ sum_by g xs
sum_mono f g h [] = omega arith
sum_mono f g h (x ∷ xs) = let one = h x in let rest = sum_mono f g h xs in
    let a = sum_by-cons f x xs in let b = sum_by-cons g x xs in omega arith

-- a sum over a part
sum_part : (f : ℕ → ℕ) (from to : ℕ) (xs : List ℕ) → sum_by f (slice_range xs from to) ≤ sum_by f xs
sum_part f from to xs = let a = sum_by-take-drop f xs from in
    let b = sum_by-take-drop f (drop from xs) (to - from) in omega arith

-- a sum over slots of one node
sum_slots : (words : List ℕ) (base : ℕ) (xs : List ℕ)
    → sum_by (work_of words) (map (λ word. record { word = word; node = base }) xs) ≡ sum_by
    (work words (length words - base)) xs
sum_slots words base [] = refl
sum_slots words base (x ∷ xs) = sum_by-cons (work_of words) record { word = x; node = base }
    (map (λ word. record { word = word; node = base }) xs)
    ∙ ap (λ n. work words (length words - base) x + n) (sum_slots words base xs)
    ∙ sym (sum_by-cons (work words (length words - base)) x xs)

-- more levels are no less work
more_levels : (words : List ℕ) (levels word : ℕ) → work words levels word ≤ work words
    (suc levels) word
unfolding work
more_levels words zero word = omega arith
more_levels words (suc levels) word =
    let rest = sum_mono (work words levels) (work words (suc levels))
    (λ x. more_levels words levels x) (slots_at words (reads_in words word)) in
    omega arith

levels_add : (words : List ℕ) (levels more word : ℕ) → work words levels word ≤ work words
    (more + levels) word
levels_add words levels zero word = grind arith
levels_add words levels (suc more) word = let a = levels_add words levels more word in
    let b = more_levels words (more + levels) word in
    let e : suc (more + levels) ≡ suc more + levels = omega arith in
    subst (λ n. work words levels word ≤ work words n word) e (omega arith)

levels_rise : (words : List ℕ) (a b word : ℕ) → a ≤ b → work words a word ≤ work words b word
levels_rise words a b word h = let e : (b - a) + a ≡ b = omega arith in
    subst (λ n. work words a word ≤ work words n word) e (levels_add words a (b - a) word)

some_work : (words : List ℕ) (levels word : ℕ) → 0 < work words levels word
unfolding work
some_work words zero word = omega arith
some_work words (suc levels) word = omega arith

level_work : (words : List ℕ) (levels word : ℕ) → work words (suc levels) word ≡ suc
    (sum_by (work words levels) (slots_at words (reads_in words word)))
unfolding work
level_work words levels word = refl

falls : (words : List ℕ) (visit : Visit) (first last : ℕ) (ref : Ref) → word_at words next_place ≤
    length words → reads_in words visit.word ≡ Some ref → IsGoodAs words visit ref
    → work_left words (slots_between words first last (Some ref)) < work_of words (slot_of visit)
falls words visit first last (InnerAt base) used e good = let w = good.within in
    let b = w.below_next in let up = good.above in let levels = length words - visit.node - 1 in
    let more : length words - visit.node ≡ suc levels = omega arith in
    let here : work_of words (slot_of visit) ≡ suc
    (sum_by (work words levels) (row_slots words base)) =
    ap (λ n. work words n visit.word) more ∙ level_work words levels visit.word
    ∙ ap (λ o. suc (sum_by (work words levels) (slots_at words o))) e in
    let from = child_count (row_keys words base) first in
    let to = child_count (row_keys words base) last + 1 in
    let there = sum_slots words base (slice_range (row_slots words base) from to) in
    let part = sum_part (work words (length words - base)) from to (row_slots words base) in
    let rise = sum_mono (work words (length words - base)) (work words levels)
    (λ x. levels_rise words (length words - base) levels x (omega arith)) (row_slots words base) in
    omega arith
falls words visit first last Empty used e good = grind (arith, some_work)
falls words visit first last Unset used e good = grind (arith, some_work)
falls words visit first last (LeafAt base) used e good = grind (arith, some_work)
falls words visit first last (ChangeAt base) used e good = grind (arith, some_work)
falls words visit first last (RebuildAt base) used e good = grind (arith, some_work)

-- the slots below a slot are less work than the slot
pub work_falls : (words : List ℕ) (slot : SlotLeft) (first last : ℕ) → word_at words next_place ≤
    length words → IsGoodSlot words slot
    → work_left words (slots_between words first last (reads_in words slot.word)) < work_of words
    slot
work_falls words slot first last used g = grind (arith, falls)

-- all slots of the row that a slot reads as are less work than the slot
pub row_falls : (words : List ℕ) (word node base : ℕ) → base < length words → node < base
    → reads_in words word ≡ Some (InnerAt base)
    → work_left words (map (λ w. record { word = w; node = base }) (row_slots words base)) <
    work_of words record { word = word; node = node }
row_falls words word node base here up e = let levels = length words - node - 1 in
    let more : length words - node ≡ suc levels = omega arith in
    let all : work words (length words - node) word ≡ suc
    (sum_by (work words levels) (row_slots words base)) =
    ap (λ n. work words n word) more ∙ level_work words levels word
    ∙ ap (λ o. suc (sum_by (work words levels) (slots_at words o))) e in
    let there = sum_slots words base (row_slots words base) in
    let rise = sum_mono (work words (length words - base)) (work words levels)
    (λ x. levels_rise words (length words - base) levels x (omega arith)) (row_slots words base) in
    omega arith

-- each slot is some work
pub slot_work : (words : List ℕ) (slot : SlotLeft) → 0 < work_of words slot
slot_work words slot = some_work words (length words - slot.node) slot.word
