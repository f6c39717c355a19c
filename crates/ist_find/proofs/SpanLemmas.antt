-- One search for all keys that have the same children: what holds for each of them. Serves `spans`.
use Rattle.std.proofs.Common.{◌≡◌, ◌≢◌, ℕ, ◌+◌, ◌≤◌, ◌⊎◌, ◌==◌, if◌then◌else◌, true, false, List, [], ◌∷◌, ◌++◌, length, Option, Some, None, refl, sym, ap, ◌∙◌, subst, inl, inr, arith, length-append}
use Rattle.std.proofs.Math.Nat.{le_trans}
use Rattle.std.proofs.lemmas.Bool.Decides.{eqb_tells}
use Rattle.ist_core.specs.declared.pairs.Pair.{Pair}
use Rattle.ist_core.specs.WordTerms.{child_count, anchor, leaf_key_offset, leaf_value_offset, Ref, Empty, Unset, LeafAt, InnerAt, ChangeAt, RebuildAt, Inner, Leaf, IsChildFor, of_anchor, of_row}
use Rattle.ist_core.proofs.AllLogLemmas.{fixed_row, child_remains, leaf_there}
use Rattle.ist_rule.specs.RuleTerms.{IsSound, now, GoesOnTo, Looked, IsNode, is_anchor, is_inner}
use Rattle.ist_rule.specs.declared.view.View.{View}
use Rattle.ist_rule.proofs.EventLemmas.{goes_on_more, looked_goes_on}
use Rattle.laws_histories.specs.Searching.{LooksAt, HasPosition, of_other}
use Rattle.ist_dcss.proofs.FieldLemmas.{looked_row}
use Rattle.ist_find.specs.Searches.{HasBegunSearch, IsRow, SeesLeaf, keys_at, row_cost}
use Rattle.ist_find.specs.Reads.{HasLooked, IsFoundAs, TellsValue, loaded_in}
use Rattle.ist_find.specs.Spans.{pair_value, IsPairOf, AllCome, AllLooked, LooksFewOver, HasFewSpanLoads}
use Rattle.ist_find.proofs.LoadLemmas.{by_table, goes_log, goes_length, looked_load, load_later, row_on, keys_are, keys_on}
use Rattle.laws_calls.proofs.WalkLemmas.{met_chain}
use Rattle.ist_rule.proofs.WentOnLemmas.{goes_on_grow}
use Rattle.ist_find.proofs.CostLemmas.{rows_met, cost_on, cost_more}
use Rattle.ist_find.proofs.LookLemmas.{comes_later, look_comes}
use Rattle.ist_find.proofs.ReadLemmas.{leaf_on, value_told}
use Rattle.ist_find.proofs.SearchLemmas.{look_later, has_found, found_since}

-- ---- which keys have a child

-- a key has the child of another key if the row's keys say so later
pub child_shared : (u w : View) → IsSound u → GoesOnTo u w → (node key k i : ℕ)
    → IsChildFor (now u) node key i → IsChildFor (now w) node k i → IsChildFor (now u) node k i
child_shared u w s g node key k i (of_anchor e f) later = of_anchor e f
child_shared u w s g node key k i (of_row r e f) (of_anchor a b) = grind (arith, fixed_row)
child_shared u w s g node key k i (of_row r e f) (of_row q d h) =
    let row : IsRow u node = record { row = r; published = e } in
    let same : q.keys ≡ r.keys =
    sym (keys_are w node record { row = q; published = d }) ∙ keys_on u w g node row
    ∙ keys_are u node row in
    of_row r e (h ∙ ap (λ ks. child_count ks k) same)

-- ---- a look, later

-- a look stays one when the caller goes on by loads
pub looked_later : (v w : View) → GoesOnTo v w → (key node i : ℕ) (rows : List ℕ) (ref : Ref)
    → HasLooked v key node i rows ref → HasLooked w key node i rows ref
looked_later v w g key node i rows ref h =
    let look = by_table v w g
    (λ p n. (y : LooksAt p n v.log key h.least h.last node ref) × (y.index ≡ i))
    (h.look, h.index_is) in
    let later = look_later w.start w.words v.log w.log (goes_log v w g) key h.least h.last node i ref
    look.0 look.1 in
    record {
      least = h.least;
      last = h.last;
      until = le_trans h.until (goes_length v w g);
      comes = comes_later v w g key h.least node rows h.comes;
      look = later.0;
      index_is = later.1;
    }

-- ---- the pair of a leaf

-- a leaf gives each key what its pair gives
pub pair_told : (v u w : View) (base key value p q : ℕ) → Looked v p key u
    → p ≡ base + leaf_key_offset → Looked u q value w → q ≡ base + leaf_value_offset
    → (k : ℕ) → TellsValue v w k (LeafAt base) (pair_value (Some record { key = key; value = value }) k)
pair_told v u w base key value p q first at second there k = choose (eqb_tells key k)
  where
    g : GoesOnTo v u
    g = looked_goes_on v p key u first

    h : GoesOnTo u w
    h = looked_goes_on u q value w second

    choose : (((key == k) ≡ true) × (key ≡ k)) ⊎ (((key == k) ≡ false) × (key ≢ k))
        → TellsValue v w k (LeafAt base) (if key == k then Some value else None)
    choose (inl a) =
        subst (λ b. TellsValue v w k (LeafAt base) (if b then Some value else None)) (sym a.0)
        (value_told v u w k base key value p q first at a.1 second there)
    choose (inr a) =
        subst (λ b. TellsValue v w k (LeafAt base) (if b then Some value else None)) (sym a.0)
        record {
          seen = goes_on_more v u w g h;
          has = λ least low. of_other (loaded_in u (base + leaf_key_offset) key)
              (load_later u w h (base + leaf_key_offset) key least
              (looked_load v p key u first (base + leaf_key_offset) at least
              (le_trans low (goes_length v u g)))) a.1;
        }

-- its words are its pair
pub leaf_pair_is : (v u w : View) (base key value p q : ℕ) → SeesLeaf v base → Looked v p key u
    → p ≡ base + 0 → Looked u q value w → q ≡ base + 1
    → IsPairOf (now v) base record { key = key; value = value }
leaf_pair_is v u w base key value p q r first at second there =
    let g = looked_goes_on v p key u first in let h = looked_goes_on u q value w second in
    let row = r.row in
    let in_u = leaf_there (now v).pieces (now u).pieces (goes_on_grow v u g) base row r.published in
    let in_w = leaf_there (now u).pieces (now w).pieces (goes_on_grow u w h) base row in_u in
    record {
      row = row;
      published = r.published;
      key_is = looked_row v p key u first base (Leaf row) 0 row.key in_u refl at;
      value_is = looked_row u q value w second base (Leaf row) 1 row.value in_w refl there;
    }

-- ---- the end

-- each key for which the search looked at the slot has its value at a position
pub span_position : (v x w : View) → HasBegunSearch v → GoesOnTo v x
    → (first last node i : ℕ) (ref : Ref) (pair : Option Pair) → AllLooked x first last node i ref
    → ((k : ℕ) → TellsValue x w k ref (pair_value pair k)) → (k : ℕ) → first ≤ k → k ≤ last
    → HasPosition w.start w.words v.log w.log k (pair_value pair k)
span_position v x w begun g first last node i ref pair looked told k low high =
    let one = looked k low high in let tells = told k in
    found_since v w begun (goes_on_more v x w g tells.seen) k node i (pair_value pair k)
    (has_found x w k node i one.0 ref (pair_value pair k) one.1 tells)

-- and if it read an inner row, the search for each key reached that row
pub all_came : (v : View) (first last node i base : ℕ)
    → AllLooked v first last node i (InnerAt base) → AllCome v first last base
all_came v first last node i base looked k low high = let one = looked k low high in
    (one.0 ++ base ∷ [], look_comes v k node i one.0 base one.1)

-- ---- how few loads it made

-- at the anchor's slot it has met no row
pub over_first : (w : View) (key node i : ℕ) (ref : Ref) → HasLooked w key node i [] ref
    → LooksFewOver w w key node i ref
over_first w key node i ref h = record { rows = []; looked = h; few = omega arith }

-- it goes on to the row that it read
pub over_on : (u v w : View) → IsSound v → GoesOnTo v w → (key node i base j : ℕ) (ref : Ref)
    → (l : LooksFewOver u v key node i (InnerAt base))
    → HasLooked w key base j (l.rows ++ base ∷ []) ref
    → w.loaded ≤ v.loaded + row_cost v key base + 3 → LooksFewOver u w key base j ref
over_on u v w s g key node i base j ref l h more =
    let came = look_comes v key node i l.rows base l.looked in
    let met = rows_met v s key came.last base (l.rows ++ base ∷ []) came.comes in
    let same = cost_on v w g key (l.rows ++ base ∷ []) met in
    let sum = cost_more v key l.rows base in
    let long : length (l.rows ++ base ∷ []) ≡ length l.rows + 1 = length-append l.rows (base ∷ []) in
    let few = l.few in record { rows = l.rows ++ base ∷ []; looked = h; few = omega arith }

-- at its end it made few
pub few_over : (v u w x : View) → IsSound w → (key node i : ℕ) (ref : Ref) (value : Option ℕ)
    → TellsValue w x key ref value → u.loaded ≤ v.loaded + 4 → LooksFewOver u w key node i ref
    → x.loaded ≤ w.loaded + 2 → HasFewSpanLoads v x key value
few_over v u w x s key node i ref value tells first l last = let g = tells.seen in
    let met = rows_met w s key l.looked.least node l.rows l.looked.comes in
    let same = cost_on w x g key l.rows met in let few = l.few in record {
      node = node;
      index = i;
      found = has_found w x key node i l.rows ref value l.looked tells;
      rows = l.rows;
      chain = met_chain x.start x.words g.sound.lawful.opens x.log g.sound.lawful.enabled key
          x.loads.since l.looked.least node l.rows
          (comes_later w x g key l.looked.least node l.rows l.looked.comes);
      few = omega arith;
    }

-- ---- the node

-- the anchor's child is the one for each key
pub anchor_child : (v : View) → IsSound v → (node key k i : ℕ) → node ≡ anchor
    → IsChildFor (now v) node key i → IsChildFor (now v) node k i
anchor_child v s node key k i is (of_anchor e f) = of_anchor e f
anchor_child v s node key k i is (of_row r e f) =
    let high = fixed_row v.start v.words v.log s.lawful.enabled node 0 (Inner r) e in
    absurd (omega arith)

-- a node other than the anchor is a row, whose keys determine its children
pub node_row : (v : View) (node : ℕ) → node ≢ anchor → IsNode (now v) node → IsRow v node
node_row v node other (is_anchor e) = absurd (other e)
node_row v node other (is_inner r e) = record { row = r; published = e }

-- the child for a key in such a row is the number of its keys that are at most the key
pub row_child : (v : View) (node key i : ℕ) → node ≢ anchor → IsChildFor (now v) node key i
    → i ≡ child_count (keys_at v node) key
row_child v node key i other (of_anchor e f) = absurd (other e)
row_child v node key i other (of_row r e f) = grind (arith, keys_are)

-- a node stays one when the caller goes on by loads, with the same child for a key
pub node_later : (v w : View) → GoesOnTo v w → (node : ℕ) → IsNode (now v) node
    → IsNode (now w) node
node_later v w g node (is_anchor e) = is_anchor e
node_later v w g node (is_inner r e) =
    let on = row_on v w g node record { row = r; published = e } in is_inner on.row on.published

-- the child for a key stays the same
pub child_on : (v w : View) → GoesOnTo v w → (node key i : ℕ) → IsChildFor (now v) node key i
    → IsChildFor (now w) node key i
child_on v w g node key i h = child_remains (now v) (now w) (goes_on_grow v w g) node key i h

-- what a slot may read as it may still read as
pub found_on : (v w : View) → GoesOnTo v w → (ref : Ref) → IsFoundAs v ref → IsFoundAs w ref
found_on v w g Empty h = tt
found_on v w g Unset h = tt
found_on v w g (LeafAt base) h = leaf_on v w g base h
found_on v w g (InnerAt base) h = row_on v w g base h
found_on v w g (ChangeAt base) h = absurd h
found_on v w g (RebuildAt base) h = absurd h
