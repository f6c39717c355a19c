-- What one part more adds to a list made by an index, and to the rows of a new table. Serves `opening.rt`.
use Rattle.std.proofs.Common.{◌≡◌, ◌+◌, ◌-◌, ◌<◌, ◌≤◌, ℕ, List, [], ◌∷◌, ◌++◌, Some, None, refl, ap, arith, ◌∙◌, length, map, get_or, sym, subst}
use Rattle.ist_core.specs.WordTerms.{part_len, ideal_words, Piece, Pieces, with_row, pieces_of, degree, first_row, word_of, Leaf, Inner, tree_at, placed_parts, top_row, rows_within, rows_from}
use Rattle.ist_image.specs.Placing.{part_base, part_of, rows_after}
use Rattle.ist_image.proofs.PlacingSizeLemmas.{part_base-suc}
use Rattle.check_state.specs.Laying.{with_pieces, Publishes}
use Rattle.std.specs.List.{range_with_len}
use Rattle.std.proofs.lemmas.List.FromFn.{map-range_with_len_more}
use Rattle.ist_core.specs.declared.pairs.Pair.{Pair}
use Rattle.ist_core.specs.declared.states.InnerRow.{InnerRow}
use Rattle.ist_core.specs.LogTerms.{Snapshot}
use Rattle.check_events.specs.declared.replicas.Replica.{Replica}
use Rattle.check_events.specs.Mirroring.{Mirrors}
use Rattle.ist_image.proofs.PlacingLemmas.{rows_from-many, rows_after-first, rows_after-last}
use Rattle.ist_image.proofs.PlacedLemmas.{length-part_of, slots_are}

-- ---- lists of rows that are published, and where the tree of the previous part is. Serves
-- `opening.rt`.

-- rows published on an empty table are the rows of the list
pub with_pieces-none : (rows : List (ℕ × Piece)) → with_pieces (λ base. None) rows ≡ pieces_of rows
with_pieces-none [] = refl
with_pieces-none (row ∷ rows) = ap (λ ps. with_row ps row.0 (Some row.1)) (with_pieces-none rows)

-- two lists are published one after the other
pub with_pieces-append : (ps : Pieces) (xs ys : List (ℕ × Piece))
    → with_pieces ps (xs ++ ys) ≡ with_pieces (with_pieces ps ys) xs
with_pieces-append ps [] ys = refl
with_pieces-append ps (x ∷ xs) ys = ap (λ qs. with_row qs x.0 (Some x.1))
    (with_pieces-append ps xs ys)

-- the tree of the previous part ends where this one begins
pub part_before : (base n : ℕ) {j at len words : ℕ} → 0 < j → at ≡ part_base base n j
    → len ≡ part_len n (j - 1)
    → words ≡ ideal_words len → (words ≤ at) × (at - words ≡ part_base base n (j - 1))
part_before base n {j = j} some e i w = let one = part_base-suc base n (j - 1) in
    let same : j - 1 + 1 ≡ j = omega arith in let here = ap (part_base base n) same in
    let size = ap ideal_words i in (omega arith, omega arith)

-- a list made by an index, with one more
pub made_more : (f : ℕ → ℕ) (a j here x : ℕ) (old new : List ℕ) → old ≡ map f (range_with_len a j)
    → new ≡ old ++ x ∷ [] → a + j ≡ here → x ≡ f here → new ≡ map f (range_with_len a (j + 1))
made_more f a j here x old new e i at v = grind (arith, map-range_with_len_more)

-- ---- slots

-- the words for the trees of the first j parts, whatever the pairs are
abbrev pub SlotsTo : ℕ → ℕ → ℕ → List ℕ → Type 0
SlotsTo base n j slots = (pairs : List Pair) → length pairs ≡ n
    → slots ≡ map (λ i. word_of (tree_at (part_base base n i) (part_of pairs i)))
    (range_with_len 0 j)

-- the word for the tree of one part more
pub slot_more : (base : ℕ) {n j at len word : ℕ} {old new : List ℕ} → j < degree n
    → at ≡ part_base base n j → len ≡ part_len n j
    → ((pairs : List Pair) → length pairs ≡ len → word ≡ word_of (tree_at at pairs))
    → new ≡ old ++ word ∷ [] → SlotsTo base n j old → SlotsTo base n (j + 1) new
slot_more base {n = n} {j = j} {word = word} {old = old} {new = new} below e i is pushed
    so_far pairs long =
    made_more (λ i. word_of (tree_at (part_base base n i) (part_of pairs i))) 0 j j word old new
    (so_far pairs long) pushed (omega arith)
    (is (part_of pairs j) (length-part_of pairs n j long below ∙ sym i)
    ∙ ap (λ b. word_of (tree_at b (part_of pairs j))) e)

-- the words of all parts are the slots of the top row
pub slots_whole : (base : ℕ) {n j : ℕ} {slots : List ℕ} → j ≡ degree n → SlotsTo base n j slots
    → (pairs : List Pair) → length pairs ≡ n
    → slots ≡ map (λ part. word_of (tree_at part.0 part.1)) (placed_parts base pairs)
slots_whole base {n = n} end all pairs long = grind (arith, slots_are)

-- ---- rows

-- the rows of the last part and those after it
laid_in_front : (r : Replica) (t : Snapshot) (base at j : ℕ) (pairs part : List Pair)
    → j < degree (length pairs)
    → at ≡ part_base base (length pairs) j → part ≡ part_of pairs j
    → Mirrors r (record t {
      pieces = with_pieces
          (with_pieces t.pieces (rows_after base pairs (j + 1))) (rows_from at part);
    })
    → Mirrors r (record t { pieces = with_pieces t.pieces (rows_after base pairs j) })
laid_in_front r t base at j pairs part h e i m = grind (arith, with_pieces-append, rows_after-first)

-- the rows of the parts from part j on, and then those of the part before them
pub part_laid : (base : ℕ) (pairs : List Pair) {r s u : Replica} {at j : ℕ} {part : List Pair} → 0 < j
    → j ≤ degree (length pairs) → at ≡ part_base base (length pairs) (j - 1)
    → part ≡ part_of pairs (j - 1) → Publishes r s (rows_after base pairs j)
    → Publishes s u (rows_from at part) → Publishes r u (rows_after base pairs (j - 1))
part_laid base pairs {s = s} {u = u} {at = at} {j = j} {part = part} some most e i so_far here t m =
    let next : j ≡ j - 1 + 1 = omega arith in
    let there = subst (λ k. Mirrors s (record t {
      pieces = with_pieces t.pieces (rows_after base pairs k);
    })) next (so_far t m) in
    laid_in_front u t base at (j - 1) pairs part (omega arith) e i
    (here (record t { pieces = with_pieces t.pieces (rows_after base pairs (j - 1 + 1)) }) there)

-- after the last part nothing is published
pub none_laid : (base : ℕ) (pairs : List Pair) {r : Replica} {d : ℕ} → d ≡ degree (length pairs)
    → Publishes r r (rows_after base pairs d)
none_laid base pairs {r = r} e t m = grind (arith, rows_after-last)

-- the top row is published last
pub top_laid : (base : ℕ) (pairs : List Pair) {r s u : Replica} {row : InnerRow}
    → 2 ≤ length pairs → Inner row ≡ top_row base pairs
    → Publishes r s (rows_after base pairs 0)
    → ((t : Snapshot) → Mirrors s t
    → Mirrors u (record t { pieces = with_row t.pieces base (Some (Inner row)) }))
    → Publishes r u (rows_from base pairs)
top_laid base pairs {u = u} two e parts put t m = let following = rows_after base pairs 0 in
    subst (λ rows. Mirrors u (record t { pieces = with_pieces t.pieces rows }))
    (sym (rows_from-many base pairs two))
    (subst (λ p. Mirrors u (record t {
      pieces = with_row (with_pieces t.pieces following) base (Some p);
    })) e (put (record t { pieces = with_pieces t.pieces following }) (parts t m)))

-- the one row of a pair, and none of no pair
pub leaf_laid : (base : ℕ) (pairs : List Pair) (default : Pair) {r s : Replica} → length pairs ≡ 1
    → ((t : Snapshot) → Mirrors r t → Mirrors s (record t {
      pieces = with_row t.pieces base
          (Some (Leaf record {
            key = (get_or pairs 0 default).key;
            value = (get_or pairs 0 default).value;
          }));
    }))
    → Publishes r s (rows_from base pairs)
unfolding rows_within
leaf_laid base [] default one put t m = absurd (omega arith)
leaf_laid base (p ∷ []) default one put t m = put t m
leaf_laid base (p ∷ q ∷ pairs) default one put t m = absurd (omega arith)

-- for no pairs nothing is published
pub nothing_laid : (base : ℕ) (pairs : List Pair) {r : Replica} → length pairs < 1
    → Publishes r r (rows_from base pairs)
unfolding rows_within
nothing_laid base [] none t m = m
nothing_laid base (p ∷ pairs) none t m = absurd (omega arith)

-- the rows of a whole table
all_laid : (r : Replica) (t : Snapshot) (rows : List (ℕ × Piece))
    → Mirrors r (record t { pieces = with_pieces (λ base. None) rows })
    → Mirrors r (record t { pieces = pieces_of rows })
all_laid r t rows m = subst (λ ps. Mirrors r (record t { pieces = ps })) (with_pieces-none rows) m

-- a whole table, if the rows were published from the first row of a table on
pub opened : (r : Replica) (t : Snapshot) (first : ℕ) (pairs : List Pair) → first ≡ first_row
    → Mirrors r (record t { pieces = with_pieces (λ base. None) (rows_from first pairs) })
    → Mirrors r (record t { pieces = pieces_of (rows_from first_row pairs) })
opened r t first pairs e m = grind (arith, all_laid)
