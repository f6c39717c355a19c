-- A caller's loads in terms of one log, as the laws on searches need them. Serves `reading` and
-- `finding`.
use Rattle.std.proofs.Common.{◌≡◌, ℕ, ◌≤◌, List, length, refl, sym, ap, subst, ◌≢◌, zero, suc, ◌+◌, ◌<◌, [], ◌∷◌, ◌++◌, slice_get, get_or, Some, ◌∙◌, arith, length-append}
use Rattle.ist_core.specs.declared.pairs.Pair.{Pair}
use Rattle.ist_core.specs.LogTerms.{Log, GoesOn, state_of, IsShown}
use Rattle.ist_rule.specs.RuleTerms.{GoesOnTo, Looked, IsSound, now}
use Rattle.ist_rule.specs.declared.view.View.{View}
use Rattle.ist_rule.specs.declared.view.TableName.{TableName}
use Rattle.ist_core.proofs.AllLogLemmas.{goes_on_length, inner_there}
use Rattle.ist_rule.proofs.LaterLemmas.{later-goes_on}
use Rattle.laws_histories.specs.Loads.{IsLoad}
use Rattle.laws_histories.proofs.ChangeLemmas.{at_prefix, load_on}
use Rattle.ist_find.specs.Reads.{loaded_in}
use Rattle.std.proofs.lemmas.Option.{slice_get-get_or}
use Rattle.std.specs.List.Sorted.{IsStrictlyIncreasing}
use Rattle.ist_core.specs.WordTerms.{anchor, anchor_slot_place, first_row, place_limit, inner_degree_offset, key_place, slot_place, child_count, Piece, Inner, size_of, as_inner, SlotHolds, in_row, IsChildFor, of_row}
use Rattle.ist_core.proofs.AllPlaceLemmas.{get-words_of_slot, keys_rising, next_from_rising, anchor_free, no_row}
use Rattle.ist_math.specs.Guess.{guess_in, distance}
use Rattle.ist_rule.proofs.EventLemmas.{looked_goes_on}
use Rattle.ist_rule.proofs.WentOnLemmas.{goes_on_grow}
use Rattle.ist_dcss.proofs.SlotPlaceLemmas.{has_degree}
use Rattle.ist_dcss.proofs.FieldLemmas.{row_low, row_above, looked_row}
use Rattle.ist_find.specs.Searches.{IsRow, keys_in, keys_at}

-- ---- the table and the log of a caller that went on

-- what holds for the first view's table holds for the second's
pub by_table : (v w : View) → GoesOnTo v w → (P : List Pair → ℕ → Type 0) → P v.start v.words
    → P w.start w.words
by_table v w g P h = grind arith

-- its log goes on
pub goes_log : (v w : View) → GoesOnTo v w → GoesOn v.log w.log
goes_log v w g = later-goes_on g.later

-- the log grows no shorter by loads
pub goes_length : (v w : View) → GoesOnTo v w → length v.log ≤ length w.log
goes_length v w g = goes_on_length (goes_log v w g)

-- ---- loads

-- a word that is the only one shown after a caller's log is a load of that log
pub shown_load : (pairs : List Pair) (words : ℕ) (log : Log) (place word least : ℕ)
    → ((shown : ℕ) → IsShown (state_of pairs words log) place shown → word ≡ shown)
    → least ≤ length log
    → IsLoad pairs words log place least record { place = place; word = word; length = length log }
shown_load pairs words log place word least stood low = grind (arith, at_prefix)

-- what a load of the caller gave is a load of that log
pub looked_load : (v : View) (place word : ℕ) (w : View) → Looked v place word w → (at : ℕ)
    → place ≡ at → (least : ℕ) → least ≤ length w.log
    → IsLoad w.start w.words w.log at least (loaded_in w at word)
looked_load v place word w l at is least low = grind (arith, shown_load)

-- a load stays one when the caller goes on
pub load_later : (v w : View) → GoesOnTo v w → (at word least : ℕ)
    → IsLoad v.start v.words v.log at least (loaded_in v at word)
    → IsLoad w.start w.words w.log at least (loaded_in v at word)
load_later v w g at word least h =
    load_on w.start w.words v.log w.log (goes_log v w g) at least (loaded_in v at word)
    (by_table v w g (λ p n. IsLoad p n v.log at least (loaded_in v at word)) h)

-- ---- published rows stay when a caller goes on by loads, and where their words lie. Serves `keys` and
-- `children`.

-- a published inner row is published still
pub row_on : (v w : View) → GoesOnTo v w → (node : ℕ) → IsRow v node → IsRow w node
row_on v w g node r =
    let on = inner_there (now v).pieces (now w).pieces (goes_on_grow v w g) node r.row r.published in
    record { row = on.0; published = on.1 }

-- a published row isn't the anchor
pub not_anchor : (v : View) → IsSound v → (base : ℕ) → IsRow v base → base ≢ anchor
not_anchor v s base r e = grind (arith, no_row, anchor_free)

-- the keys of a node are its row's
pub keys_are : (v : View) (node : ℕ) (r : IsRow v node) → keys_at v node ≡ r.row.keys
keys_are v node r = ap (λ p. keys_in (as_inner p)) r.published

-- they stay
pub keys_on : (v w : View) → GoesOnTo v w → (node : ℕ) → IsRow v node
    → keys_at w node ≡ keys_at v node
keys_on v w g node r =
    let on = inner_there (now v).pieces (now w).pieces (goes_on_grow v w g) node r.row r.published in
    ap (λ p. keys_in (as_inner p)) on.1 ∙ on.2.keys ∙ sym (keys_are v node r)

-- a key is found among the keys and slots of its row, after the four fields
after_fields : (keys slots : List ℕ) (j : ℕ) → j < length keys
    → slice_get (keys ++ slots) j ≡ Some (get_or keys j 0)
after_fields [] slots j h = absurd (omega arith)
after_fields (k ∷ keys) slots zero h = refl
after_fields (k ∷ keys) slots (suc j) h = after_fields keys slots j (omega arith)

-- a word of a published row lies within the table, and isn't the anchor's slot
pub may_load : {v : View} {table : TableName} {p : Piece} → IsSound v → v.words ≡ v.table.words → v.table ≡ table
    → (base : ℕ) → (now v).pieces base ≡ Some p → (k : ℕ) → k < size_of p → (place : ℕ) → place ≡ base + k
    → (place < table.words) × (place ≢ anchor_slot_place)
may_load {v = v} {p = p} sound words is base there k less place at =
    let low = (row_low v sound base p there k less).0 in
    let above = row_above v sound base p there in let same = ap (λ x. x.words) is in
    (omega arith, λ fixed. absurd (omega arith))

-- what a caller knows of an inner row
pub record KnowsRow (v : View) (node count : ℕ) : Type 0 where
  pub row : IsRow v node
  pub count_is : count ≡ length row.row.keys
  pub degree : row.row.degree ≡ count + 1
  pub slots : length row.row.slots ≡ count + 1
  pub above : first_row ≤ node
  pub low : node + (5 + count + count) ≤ v.words
  pub small : v.words ≤ place_limit

-- a published inner row has this many keys, and its words lie in the table
pub knows_row : (v : View) → IsSound v → (node : ℕ) → IsRow v node
    → KnowsRow v node (length (keys_at v node))
knows_row v s node r =
    let d = has_degree v.start v.words v.log s.lawful.enabled node r.row r.published in
    let keys = d.keys in let slots = d.slots in
    let same : length (keys_at v node) ≡ length r.row.keys = ap length (keys_are v node r) in
    let all : size_of (Inner r.row) ≡ 4 + (length r.row.keys + length r.row.slots) =
    ap (λ n. suc (suc (suc (suc n)))) (length-append r.row.keys r.row.slots) ∙ omega arith in
    let last : 4 + (length r.row.keys + length r.row.keys) < size_of (Inner r.row) = omega arith in
    let low = row_low v s node (Inner r.row) r.published
    (4 + (length r.row.keys + length r.row.keys)) last in
    let place = low.0 in record {
      row = r;
      count_is = same;
      degree = omega arith;
      slots = omega arith;
      above = row_above v s node (Inner r.row) r.published;
      low = omega arith;
      small = low.1;
    }

-- the keys of a row rise
pub keys_rise : (v : View) → IsSound v → (node : ℕ) → IsRow v node
    → IsStrictlyIncreasing (keys_at v node)
keys_rise v s node r = subst IsStrictlyIncreasing (sym (keys_are v node r))
    (next_from_rising r.row.keys
    (keys_rising v.start v.words s.lawful.opens v.log s.lawful.enabled node (Inner r.row)
    r.published))

-- a load of the degree gives one more than there are keys
pub degree_told : (v : View) → IsSound v → (node : ℕ) → IsRow v node → (place degree : ℕ) (w : View)
    → Looked v place degree w → place ≡ node + inner_degree_offset
    → degree ≡ length (keys_at v node) + 1
degree_told v s node r place degree w l at =
    let d = has_degree v.start v.words v.log s.lawful.enabled node r.row r.published in
    let on = inner_there (now v).pieces (now w).pieces
    (goes_on_grow v w (looked_goes_on v place degree w l)) node r.row r.published in
    looked_row v place degree w l node (Inner on.0) 2 on.0.degree on.1 refl at
    ∙ on.2.degree ∙ sym d.keys ∙ ap (λ n. n + 1) (sym (ap length (keys_are v node r)))

-- a load of a key gives it
pub key_told : (v : View) (node : ℕ) → IsRow v node → (j place word : ℕ) (w : View)
    → Looked v place word w → place ≡ key_place node (j + 1) → j < length (keys_at v node)
    → word ≡ get_or (keys_at v node) j 0
key_told v node r j place word w l at less = let g = looked_goes_on v place word w l in
    let on = row_on v w g node r in
    let same : on.row.keys ≡ keys_at v node =
    sym (keys_are w node on) ∙ keys_on v w g node r in
    let count = ap length same in let here : place ≡ node + suc (suc (suc (suc j))) = omega arith in
    looked_row v place word w l node (Inner on.row) (suc (suc (suc (suc j))))
    (get_or on.row.keys j 0) on.published (after_fields on.row.keys on.row.slots j (omega arith))
    here
    ∙ ap (λ ks. get_or ks j 0) same

-- a load of a slot gives what it holds
pub slot_told : (v : View) (node : ℕ) → IsRow v node → (i place word : ℕ) (w : View)
    → Looked v place word w → place ≡ slot_place node (length (keys_at v node) + 1) i
    → i ≤ length (keys_at v node) → SlotHolds (now w) node i word
slot_told v node r i place word w l at less = let g = looked_goes_on v place word w l in
    let k = knows_row w l.sound node (row_on v w g node r) in let row = k.row.row in
    let same = ap length (keys_on v w g node r) in let count = k.count_is in let slots = k.slots in
    let got : slice_get row.slots i ≡ Some (get_or row.slots i 0) =
    slice_get-get_or row.slots i 0 (omega arith) in
    let here : place ≡ node + (4 + length row.keys + i) = omega arith in
    let is = looked_row v place word w l node (Inner row) (4 + length row.keys + i)
    (get_or row.slots i 0) k.row.published (get-words_of_slot row i ∙ got) here in
    in_row row k.row.published (got ∙ ap Some (sym is))

-- and the child for a key is the number of keys that are at most it
pub child_is : (v : View) (node : ℕ) → IsRow v node → (key i : ℕ)
    → i ≡ child_count (keys_at v node) key → IsChildFor (now v) node key i
child_is v node r key i is =
    of_row r.row r.published (is ∙ ap (λ ks. child_count ks key) (keys_are v node r))

-- the number of its keys stays when the caller goes on by loads
pub count_on : (v w : View) → GoesOnTo v w → (node : ℕ) → IsRow v node → (count : ℕ)
    → count ≡ length (keys_at v node) → count ≡ length (keys_at w node)
count_on v w g node r count is = is ∙ sym (ap length (keys_on v w g node r))

-- and so does the distance of the guess from a child
pub distance_on : (v w : View) → GoesOnTo v w → (node : ℕ) → IsRow v node → (key i : ℕ)
    → distance (guess_in (keys_at w node) key) i ≡ distance (guess_in (keys_at v node) key) i
distance_on v w g node r key i = ap (λ ks. distance (guess_in ks key) i) (keys_on v w g node r)
