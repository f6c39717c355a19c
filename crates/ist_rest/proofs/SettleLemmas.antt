-- Rows that are reached from a row, and whether they are settled. Serves `settling`.
use Rattle.std.proofs.Common.{◌≡◌, ℕ, zero, suc, ◌+◌, ◌<◌, ◌≤◌, List, [], ◌∷◌, ◌++◌, length, get_or, Some, refl, sym, ap, ◌∙◌, subst, inl, inr, ◌≢◌, arith}
use Rattle.std.proofs.lemmas.Bool.Decides.{leb_tells, eqb_tells}
use Rattle.ist_core.specs.declared.pairs.Pair.{Pair}
use Rattle.ist_core.specs.WordTerms.{InnerAt, next_place}
use Rattle.ist_core.specs.LogTerms.{Among, Each}
use Rattle.ist_core.proofs.AllWordLemmas.{each-append}
use Rattle.ist_rest.specs.WordRows.{Span, word_at, row_degree, row_keys, row_slots, reads_in}
use Rattle.ist_rest.specs.Walks.{Way, Visit, IsGood, IsGoodRow, visits_from, visits_below, Walks, ends, goes_on, first_visit}
use Rattle.ist_rest.specs.RestingWords.{HoldPairs}
use Rattle.ist_rest.specs.Steps.{IsRowHere}
use Rattle.ist_rest.proofs.WordRowLemmas.{row_lengths}
use Rattle.ist_rest.specs.Settling.{ReachedFrom, itself, through, IsSettledRow, AreSettledFrom, AreInShapeFrom}

element : (xs : List ℕ) (i : ℕ) → i < length xs → Among (get_or xs i 0) xs
element [] i h = absurd (omega arith)
element (x ∷ xs) zero h = inl refl
element (x ∷ xs) (suc i) h = inr (element xs i (omega arith))

position : (w : ℕ) (xs : List ℕ) → Among w xs → (i : ℕ) × (i < length xs) × (get_or xs i 0 ≡ w)
position w [] h = absurd h
position w (x ∷ xs) (inl e) = (0, omega arith, sym e)
position w (x ∷ xs) (inr a) = let it = position w xs a in let l = it.1 in
    (suc it.0, omega arith, it.2)

-- a slot of a row in good shape, by its number
pub slot_among : (words : List ℕ) (base degree i word : ℕ) → IsRowHere words base
    → word_at words next_place ≤ length words → degree ≡ row_degree words base → i < degree
    → word ≡ get_or (row_slots words base) i 0 → Among word (row_slots words base)
slot_among words base degree i word row used d less e = let within = row.within.below_next in
    let two = row.degree in let long = (row_lengths words base (omega arith) (omega arith)).1 in
    subst (λ w. Among w (row_slots words base)) (sym e)
    (element (row_slots words base) i (omega arith))

-- the number of one
pub slot_number : (words : List ℕ) (base word : ℕ) → IsRowHere words base
    → word_at words next_place ≤ length words → Among word (row_slots words base)
    → (i : ℕ) × (i < row_degree words base) × (get_or (row_slots words base) i 0 ≡ word)
slot_number words base word row used a = let within = row.within.below_next in
    let two = row.degree in let long = (row_lengths words base (omega arith) (omega arith)).1 in
    let it = position word (row_slots words base) a in let less = it.1 in (it.0, omega arith, it.2)

-- ---- the shape of rows that are reached

-- if all rows from a row on are in good shape, so are those from its child on
pub shape_child : (words : List ℕ) (base child word : ℕ) → AreInShapeFrom words base
    → Among word (row_slots words base)
    → reads_in words word ≡ Some (InnerAt child) → AreInShapeFrom words child
shape_child words base child word h a e node r = h node (through word a e r)

-- a slot in good shape that reads as an inner row
pub good_child : (words : List ℕ) (visit : Visit) (child : ℕ) → IsGood words visit
    → reads_in words visit.word ≡ Some (InnerAt child) → IsGoodRow words visit.node child
good_child words visit child g e = grind arith

-- a good row for a slot is an inner row in good shape
pub row_here : (words : List ℕ) (node base : ℕ) → IsGoodRow words node base → IsRowHere words base
row_here words node base g = record { within = g.within; degree = g.degree; keys = g.keys }

-- a child of a row in good shape is a good row for its slot
pub child_good : (words : List ℕ) (base child word : ℕ) → AreInShapeFrom words base
    → Among word (row_slots words base)
    → reads_in words word ≡ Some (InnerAt child) → IsGoodRow words base child
child_good words base child word h a e = let it = (h base itself).slots word a in
    subst (λ n. IsGoodRow words n child) it.2
    (good_child words it.0 child it.3 (ap (reads_in words) it.1 ∙ e))

-- ---- settled rows

-- a row is settled with all below it if it is settled and its children are with all below them
pub settled_all : (words : List ℕ) (base : ℕ) → IsSettledRow words base
    → ((word child : ℕ) → Among word (row_slots words base) → reads_in words word ≡ Some
    (InnerAt child) → AreSettledFrom words child)
    → AreSettledFrom words base
settled_all words base row all _ itself = row
settled_all words base row all node (through {child = child} word a e r) = all word child a e node r

-- ---- shape by a walk

-- the slot and each row that is reached through it are in good shape
abbrev AllGood : List ℕ → Visit → Type 0
AllGood words visit = IsGood words visit
    × ((base : ℕ) → reads_in words visit.word ≡ Some (InnerAt base) → AreInShapeFrom words base)

-- each slot of a row is visited
visit_of : (words : List ℕ) (base : ℕ) (ways : List Way) (keys : List ℕ) (i place : ℕ)
    (slots : List ℕ) → Each (AllGood words) (visits_from base ways keys i place slots) → (word : ℕ)
    → Among word slots
    → (visit : Visit) × (visit.word ≡ word) × (visit.node ≡ base) × AllGood words visit
visit_of words base ways keys i place [] h word a = absurd a
visit_of words base ways keys i place (s ∷ slots) h word (inl e) = grind arith
visit_of words base ways keys i place (s ∷ slots) h word (inr a) = visit_of words base ways keys
    (i + 1) (place + 1) slots h.1 word a

shape_from : (words : List ℕ) (visit : Visit) (base : ℕ) → IsGoodRow words visit.node base
    → Each (AllGood words) (visits_below words visit (InnerAt base)) → AreInShapeFrom words base
shape_from words visit base g h _ itself = record {
  row = row_here words visit.node base g;
  slots = λ word a.
      let it = visit_of words base visit.ways (row_keys words base) 0
      (base + 3 + row_degree words base) (row_slots words base) h word a in
      (it.0, it.1, it.2, it.3.0);
}
shape_from words visit base g h node (through {child = child} word a e r) =
    let it = visit_of words base visit.ways (row_keys words base) 0
    (base + 3 + row_degree words base) (row_slots words base) h word a in
    it.3.1 child (ap (reads_in words) it.1 ∙ e) node r

walk_good : (words : List ℕ) (zs : List Visit) (rows : List Span) (pairs : List Pair)
    → Walks words zs rows pairs → Each (AllGood words) zs
walk_good words _ _ _ ends = tt
walk_good words _ _ _ (goes_on {visit = visit} {visits = visits} {rows = rows} {pairs = pairs} at
    w) =
    let it = each-append (AllGood words) (visits_below words visit at.ref) visits
    (walk_good words (visits_below words visit at.ref ++ visits) rows pairs w) in (
      (
        at,
        λ base e. let same : Some at.ref ≡ Some (InnerAt base) = sym at.reads.is ∙ e in
            let same : at.ref ≡ InnerAt base = cc in
            shape_from words visit base (good_child words visit base at e)
            (subst (λ r. Each (AllGood words) (visits_below words visit r)) same it.0),
      ),
      it.1,
    )

-- if the words hold some pairs, all slots from the anchor's on are in good shape
pub first_good : (words : List ℕ) (pairs : List Pair) → HoldPairs words pairs
    → AllGood words (first_visit words)
first_good words pairs h = (walk_good words (first_visit words ∷ []) h.rows pairs h.walk).0

-- a number below i + 1 other than i is below i
pub below_more : (k i : ℕ) → k < i + 1 → k ≢ i → k < i
below_more k i less other = grind (arith, leb_tells, eqb_tells)

-- one row further
pub reached_on : (words : List ℕ) (base node child word : ℕ) → ReachedFrom words base node
    → Among word (row_slots words node)
    → reads_in words word ≡ Some (InnerAt child) → ReachedFrom words base child
reached_on words _ node child word itself a e = through word a e itself
reached_on words _ node child word (through {child = c} w b f r) a e =
    through w b f (reached_on words c node child word r a e)

-- ---- one slot of an inner row in good shape, and the row that it reads as. Serves `settling.rt`.

-- what the first slots read as, if it is an inner row, is settled with all that is reached from it
abbrev pub AreSettledTo : List ℕ → ℕ → ℕ → Type 0
AreSettledTo words base i = (k child : ℕ) → k < i
    → reads_in words (get_or (row_slots words base) k 0) ≡ Some (InnerAt child)
    → AreSettledFrom words child

module _ {words : List ℕ} {base degree i word : ℕ} (row : IsRowHere words base)
    (used : word_at words next_place ≤ length words) (d : degree ≡ row_degree words base)
    (less : i < degree) (e : word ≡ get_or (row_slots words base) i 0) where
  among : Among word (row_slots words base)
  among = slot_among words base degree i word row used d less e

  -- the slot is in good shape
  pub slot_good : AreInShapeFrom words base
      → (visit : Visit) × (visit.word ≡ word) × IsGood words visit
  slot_good shape = let it = (shape base itself).slots word among in (it.0, it.1, it.3)

  module _ {child : ℕ} (is : reads_in words word ≡ Some (InnerAt child)) where
    -- a row that it reads as is a good one
    pub child_row_good : AreInShapeFrom words base → IsGoodRow words base child
    child_row_good shape = child_good words base child word shape among is

    -- and the rows reached from it are in good shape
    pub child_in_shape : AreInShapeFrom words base
        → IsRowHere words child × AreInShapeFrom words child
    child_in_shape shape = (
      row_here words base child (child_row_good shape),
      shape_child words base child word shape among is,
    )

    -- what is settled from the row is settled from the one that the slot reads as
    pub child_settled : AreSettledFrom words base → AreSettledFrom words child
    child_settled all node r = all node (through word among is r)

-- the slots so far, and one more
pub one_more_settled : (words : List ℕ) (base i : ℕ) {word : ℕ}
    → word ≡ get_or (row_slots words base) i 0
    → ((child : ℕ) → reads_in words word ≡ Some (InnerAt child) → AreSettledFrom words child)
    → AreSettledTo words base i → AreSettledTo words base (i + 1)
one_more_settled words base i e one so_far k child less is = grind (arith, below_more, eqb_tells)

-- a settled row, all of whose slots are
pub settled_by_slots : (words : List ℕ) (base : ℕ) {degree i : ℕ} → IsRowHere words base
    → word_at words next_place ≤ length words → degree ≡ row_degree words base → degree ≤ i
    → IsSettledRow words base → AreSettledTo words base i → AreSettledFrom words base
settled_by_slots words base row used d end settled so_far = settled_all words base settled
    (λ word child a is. let it = slot_number words base word row used a in let less = it.1 in
    so_far it.0 child (omega arith) (ap (reads_in words) it.2 ∙ is))
