-- Parts that are cut out of the pairs, and what one of them adds. Serves `laying.rt` and `rows.rt`.
use Rattle.std.proofs.Common.{◌≡◌, ◌∙◌, ◌+◌, ◌-◌, ◌<◌, ◌≤◌, ℕ, List, [], ◌∷◌, ◌++◌, length, map, take, drop, get_or, refl, sym, ap, subst, arith, length-drop, length-append, append_assoc}
use Rattle.std.specs.List.{range_with_len}
use Rattle.std.proofs.lemmas.List.{length-take-le}
use Rattle.std.proofs.Math.ListN.{set}
use Rattle.std.proofs.lemmas.List.Edits.{sets}
use Rattle.ist_core.specs.declared.pairs.Pair.{Pair}
use Rattle.ist_core.specs.WordTerms.{degree, part_len, part_start, inner_words, ideal_words, word_of, parts, first_keys, Piece, words_of, size_of, tree_at, placed_parts, top_row, rows_within, rows_from}
use Rattle.ist_core.proofs.AllWordLemmas.{part_end-le, ideal_words_one, FillWords, fills_rows, keys_of_parts, slots_of-top_row}
use Rattle.ist_image.specs.Placing.{part_of, part_base, slot_base, slots_after, rows_after, row_words, tree_words, row_head}
use Rattle.ist_image.proofs.PlacingLemmas.{placed_by_index, rows_from-many, rows_after-first, rows_after-last}
use Rattle.ist_image.proofs.SettingLemmas.{sets-append, sets-sets, set_made, none_made}
use Rattle.std.proofs.lemmas.List.FromFn.{length-map-range_with_len}

-- ---- parts

-- a part that is cut out by its start and its length
pub cut_part : (pairs : List Pair) (j start len : ℕ) → start ≡ part_start (length pairs) j
    → len ≡ part_len (length pairs) j
    → take (start + len - start) (drop start pairs) ≡ part_of pairs j
cut_part pairs j start len e i = grind arith

-- cutting out a part gives its length
pub length-cut_part : (pairs : List Pair) (start len : ℕ) → start + len ≤ length pairs
    → length (take (start + len - start) (drop start pairs)) ≡ len
length-cut_part pairs start len h = let whole : start + len - start ≡ len = omega arith in
    let left = length-drop start pairs in
    ap (λ k. length (take k (drop start pairs))) whole ∙ length-take-le len (drop start pairs)
    (omega arith)

-- ---- slots

-- the number of a part's pairs is its length
pub length-part_of : (pairs : List Pair) (n j : ℕ) → length pairs ≡ n → j < degree n
    → length (part_of pairs j) ≡ part_len n j
length-part_of pairs n j e h = subst (λ m. j < degree m → length (part_of pairs j) ≡ part_len m j) e
    (λ k. let m = length pairs in let end = part_end-le m j k in
    let left = length-drop (part_start m j) pairs in
    length-take-le (part_len m j) (drop (part_start m j) pairs) (omega arith))
    h

-- the word for the tree of part j
abbrev pub slot_word : ℕ → List Pair → ℕ → ℕ
slot_word base pairs i = word_of (tree_at (part_base base (length pairs) i) (part_of pairs i))

-- the slots are the words for all parts
pub slots_are : (base n : ℕ) (pairs : List Pair) → length pairs ≡ n
    → map (λ i. word_of (tree_at (part_base base n i) (part_of pairs i)))
    (range_with_len 0 (degree n))
    ≡ map (λ part. word_of (tree_at part.0 part.1)) (placed_parts base pairs)
slots_are base n pairs e =
    ap (λ m. map (λ i. word_of (tree_at (part_base base m i) (part_of pairs i)))
    (range_with_len 0 (degree m))) (sym e)
    ∙ twice (range_with_len 0 (degree (length pairs)))
    ∙ ap (map (λ (part : ℕ × List Pair). word_of (tree_at part.0 part.1)))
    (sym (placed_by_index base pairs))
  where
    twice : (js : List ℕ)
        → map (λ i. word_of (tree_at (part_base base (length pairs) i) (part_of pairs i))) js
        ≡ map (λ (part : ℕ × List Pair). word_of (tree_at part.0 part.1))
        (map (λ i. (part_base base (length pairs) i, part_of pairs i)) js)
    twice [] = refl
    twice (j ∷ js) = ap (λ ws. slot_word base pairs j ∷ ws) (twice js)

-- ---- words

-- the words of two lists of rows
pub row_words-append : (xs ys : List (ℕ × Piece)) → row_words (xs ++ ys) ≡ row_words xs ++ row_words ys
row_words-append [] ys = refl
row_words-append (x ∷ xs) ys = ap (λ ws. words_of x.1 ++ ws) (row_words-append xs ys)
    ∙ sym (append_assoc (words_of x.1) (row_words xs) (row_words ys))

-- rows that fill the words from one place to another have all these words
length-row_words : (from to : ℕ) (rows : List (ℕ × Piece)) → FillWords from rows to
    → from + length (row_words rows) ≡ to
length-row_words from to [] h = omega arith
length-row_words from to (row ∷ rows) h =
    let rest = length-row_words (from + size_of row.1) to rows h.1 in
    let both = length-append (words_of row.1) (row_words rows) in omega arith

-- the number of a tree's words is its size
pub length-tree_words : (base : ℕ) (pairs : List Pair)
    → length (tree_words base pairs) ≡ ideal_words (length pairs)
length-tree_words base pairs = let n = length pairs in
    let filled = length-row_words base (base + ideal_words n) (rows_from base pairs)
    (fills_rows n base pairs (omega arith)) in
    omega arith

-- the number of a top row's words follows from its degree
pub length-top_words : (base : ℕ) (pairs : List Pair) → 2 ≤ length pairs
    → length (words_of (top_row base pairs)) ≡ inner_words (degree (length pairs))
length-top_words base pairs two = let keys = keys_of_parts (λ pair. pair.key) pairs two in
    let slots = slots_of-top_row base pairs in
    let both = length-append (first_keys (λ pair. pair.key) (drop 1 (parts pairs)))
    (map (λ part. word_of (tree_at part.0 part.1)) (placed_parts base pairs)) in
    omega arith

-- the words of a top row: four fields, then the keys, then the slots
pub row_set : (old mid new : List ℕ) (base d : ℕ) (pairs : List Pair) → 2 ≤ length pairs
    → d ≡ degree (length pairs)
    → mid ≡ sets (set (set (set (set old base 0) (base + 1) 0) (base + 2) d) (base + 3)
    (length pairs)) (base + 4) (first_keys (λ pair. pair.key) (drop 1 (parts pairs)))
    → new ≡ sets mid (base + 3 + d)
    (map (λ part. word_of (tree_at part.0 part.1)) (placed_parts base pairs))
    → new ≡ sets old base (words_of (top_row base pairs))
row_set old mid new base d pairs two e i m = grind (arith, keys_of_parts, set, sets, sets-append)

-- there is room for the two words of one pair
pub leaf_room : (base n whole : ℕ) → 1 ≤ n → n < 2 → base + ideal_words n ≤ whole → base + 2 ≤ whole
leaf_room base n whole least most room = grind (arith, ideal_words_one)

-- the words of no pair, and of one
pub nothing_set : (words : List ℕ) (base : ℕ) (pairs : List Pair) → length pairs < 1
    → words ≡ sets words base (tree_words base pairs)
unfolding rows_within
nothing_set words base [] none = refl
nothing_set words base (p ∷ pairs) none = absurd (omega arith)

-- writing the key and the value of one pair writes its tree
pub leaf_set : (words : List ℕ) (base : ℕ) (pairs : List Pair) (default : Pair) → length pairs ≡ 1
    → set (set words base (get_or pairs 0 default).key) (base + 1) (get_or pairs 0 default).value
    ≡ sets words base (tree_words base pairs)
unfolding rows_within
leaf_set words base [] default one = absurd (omega arith)
leaf_set words base (p ∷ []) default one = grind (arith, set)
leaf_set words base (p ∷ q ∷ pairs) default one = absurd (omega arith)

-- the words of at least two pairs: the top row's, then the parts'
pub tree_set : (old mid new : List ℕ) (base : ℕ) (pairs : List Pair) → 2 ≤ length pairs
    → mid ≡ sets old base (words_of (top_row base pairs))
    → new ≡ sets mid (part_base base (length pairs) 0) (row_words (rows_after base pairs 0))
    → new ≡ sets old base (tree_words base pairs)
tree_set old mid new base pairs two e i =
    grind (arith, length-top_words, sets, sets-append, rows_from-many)

-- of the words of the parts, the next part's are set
pub part_set : (old new : List ℕ) (base at next j : ℕ) (pairs part : List Pair)
    → j < degree (length pairs) → at ≡ part_base base (length pairs) j → part ≡ part_of pairs j
    → new ≡ sets old at (tree_words at part) → at + ideal_words (length part) ≡ next
    → sets old at (row_words (rows_after base pairs j))
    ≡ sets new next (row_words (rows_after base pairs (j + 1)))
part_set old new base at next j pairs part h e i set n =
    grind (arith, length-tree_words, sets, rows_after-first, row_words-append, sets-append, set)

-- after the last part none are set
pub no_part_set : (words : List ℕ) (base at j : ℕ) (pairs : List Pair) → j ≡ degree (length pairs)
    → sets words at (row_words (rows_after base pairs j)) ≡ words
no_part_set words base at j pairs e = grind (arith, sets, rows_after-last)

-- of the slots and the words of the parts, the next part's are set
pub slot_and_part_set : (old new : List ℕ) (base slot next_slot at next j x : ℕ)
    (pairs part : List Pair) → j < degree (length pairs) → at ≡ part_base base (length pairs) j
    → part ≡ part_of pairs j → slot + (degree (length pairs) - j) ≤ at
    → x ≡ slot_word base pairs j → slot + 1 ≡ next_slot
    → new ≡ sets (set old slot x) at (tree_words at part) → at + ideal_words (length part) ≡ next
    → sets (sets old slot (slots_after base pairs j)) at (row_words (rows_after base pairs j))
    ≡ sets (sets new next_slot (slots_after base pairs (j + 1))) next
    (row_words (rows_after base pairs (j + 1)))
slot_and_part_set old new base slot next_slot at next j x pairs part h e i room is n put m =
    grind (arith, set, length-map-range_with_len, sets, set_made, part_set, sets-sets)

-- after the last part neither slots nor words of parts are set
pub none_set : (words : List ℕ) (base slot at j : ℕ) (pairs : List Pair) → j ≡ degree (length pairs)
    → sets (sets words slot (slots_after base pairs j)) at (row_words (rows_after base pairs j))
    ≡ words
none_set words base slot at j pairs e = grind (arith, no_part_set, sets, none_made)

-- the words of at least two pairs: the top row's fields and keys, then its slots and the parts
pub head_set : (old mid new : List ℕ) (base : ℕ) (pairs : List Pair) → 2 ≤ length pairs
    → mid ≡ row_head old base pairs
    → new ≡ sets (sets mid (slot_base base (length pairs)) (slots_after base pairs 0))
    (part_base base (length pairs) 0) (row_words (rows_after base pairs 0))
    → new ≡ sets old base (tree_words base pairs)
head_set old mid new base pairs two e i = let n = length pairs in
    let slots = sets mid (slot_base base n) (slots_after base pairs 0) in
    let all : degree n - 0 ≡ degree n = omega arith in tree_set old slots new base pairs two
    (row_set old mid slots base (degree n) pairs two refl e
    (ap (λ d. sets mid (slot_base base n) (map (slot_word base pairs) (range_with_len 0 d))) all
    ∙ ap (sets mid (slot_base base n)) (slots_are base n pairs refl)))
    i

-- at first all slots and all parts are still to be set
pub all_left : (words : List ℕ) (base slot at : ℕ) (pairs : List Pair)
    → slot ≡ slot_base base (length pairs) → at ≡ part_base base (length pairs) 0
    → sets (sets words slot (slots_after base pairs 0)) at (row_words (rows_after base pairs 0))
    ≡ sets (sets words (slot_base base (length pairs)) (slots_after base pairs 0))
    (part_base base (length pairs) 0) (row_words (rows_after base pairs 0))
all_left words base slot at pairs s e = grind (arith, sets)

-- so the slot of a part and its tree are written
pub part_put : (old mid new : List ℕ) (base d j at next : ℕ) (pairs part : List Pair)
    → d ≡ degree (length pairs) → j < degree (length pairs) → base + inner_words d ≤ at
    → at ≡ part_base base (length pairs) j → part ≡ part_of pairs j
    → mid ≡ set old (base + 3 + d + j) (word_of (tree_at at part))
    → new ≡ sets mid at (tree_words at part) → next ≡ at + ideal_words (length part)
    → sets (sets new (base + 3 + d + (j + 1)) (slots_after base pairs (j + 1))) next
    (row_words (rows_after base pairs (j + 1)))
    ≡ sets (sets old (base + 3 + d + j) (slots_after base pairs j)) at (row_words (rows_after base pairs j))
part_put old mid new base d j at next pairs part e h row place is slot tree n =
    grind (arith, slot_and_part_set, sets)
