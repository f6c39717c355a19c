-- What the rows of a search cost, and that it makes few loads. Serves `find_from_anchor`.
use Rattle.std.proofs.Common.{◌≡◌, ℕ, ◌+◌, ◌^◌, ◌<◌, ◌≤◌, List, [], ◌∷◌, ◌++◌, refl, sym, ap, ap₂, ◌∙◌, arith}
use Rattle.std.proofs.lemmas.List.Sums.{sum_by-append}
use Rattle.ist_core.specs.WordTerms.{child_count, Inner, Ref, InnerAt, anchor, IsChildFor, of_anchor, of_row}
use Rattle.ist_core.specs.LogTerms.{Each}
use Rattle.ist_core.proofs.AllLogLemmas.{fixed_row}
use Rattle.ist_rule.specs.RuleTerms.{IsSound, now, GoesOnTo, IsNode, is_anchor, is_inner}
use Rattle.ist_rule.specs.declared.view.View.{View}
use Rattle.laws_histories.proofs.PositionLemmas.{look_up}
use Rattle.laws_calls.specs.Walking.{ComesBy, begins_by, goes_by}
use Rattle.laws_calls.proofs.WalkLemmas.{meeting_comes, met_chain}
use Rattle.ist_math.specs.Guess.{guess_in, distance}
use Rattle.ist_find.specs.Searches.{IsRow, HasFewLoads, keys_at, row_cost, cost_of}
use Rattle.ist_find.specs.Reads.{HasLooked, LooksFew}
use Rattle.ist_find.specs.Looks.{HasSpent}
use Rattle.ist_find.proofs.LookLemmas.{come_node, comes_later, look_comes}
use Rattle.ist_find.proofs.LoadLemmas.{keys_are, keys_on}

-- ---- the rows are published

each_more : (P : ℕ → Type 0) (xs : List ℕ) (y : ℕ) → Each P xs → P y → Each P (xs ++ y ∷ [])
each_more P [] y h p = (p, tt)
each_more P (x ∷ xs) y h p = (h.0, each_more P xs y h.1 p)

module _ (v : View) (s : IsSound v) (key : ℕ) where
  -- no node to which a search has come lies below the anchor
  node_high : (last node : ℕ) (rows : List ℕ)
      → ComesBy v.start v.words v.log key v.loads.since last node rows → anchor ≤ node
  node_high _ _ _ begins_by = omega arith
  node_high _ child _ (goes_by {least = least} {last = last} {node = node} {rows = rows} c look) =
      let high = node_high least node rows c in
      let up = look_up v.start v.words s.lawful.opens v.log s.lawful.enabled key v.loads.since least
      last node child (meeting_comes v.start v.words v.log key v.loads.since least node rows c) look
      in
      omega arith

  -- a row by way of which a search came is published
  row_met : (least last node child : ℕ) (rows : List ℕ)
      → ComesBy v.start v.words v.log key v.loads.since least node rows → node < child
      → IsNode (now v) child → IsRow v child
  row_met least last node child rows c up (is_inner r e) = record { row = r; published = e }
  row_met least last node child rows c up (is_anchor e) = grind (arith, node_high)

  -- and all rows that the search met are published
  pub rows_met : (last node : ℕ) (rows : List ℕ)
      → ComesBy v.start v.words v.log key v.loads.since last node rows → Each (IsRow v) rows
  rows_met _ _ _ begins_by = tt
  rows_met _ child _ (goes_by {least = least} {last = last} {node = node} {rows = rows} c look) =
      let up = look_up v.start v.words s.lawful.opens v.log s.lawful.enabled key v.loads.since least
      last node child (meeting_comes v.start v.words v.log key v.loads.since least node rows c) look
      in
      each_more (IsRow v) rows child (rows_met least node rows c)
      (row_met least last node child rows c up
      (come_node v s key last child (rows ++ child ∷ []) (goes_by c look)))

-- ---- what they cost

-- a published row costs the same in a later log
row_cost_on : (v w : View) → GoesOnTo v w → (key row : ℕ) → IsRow v row
    → row_cost w key row ≡ row_cost v key row
row_cost_on v w g key row r = grind (arith, keys_on)

-- so do rows together
pub cost_on : (v w : View) → GoesOnTo v w → (key : ℕ) (rows : List ℕ) → Each (IsRow v) rows
    → cost_of w key rows ≡ cost_of v key rows
cost_on v w g key [] h = refl
cost_on v w g key (row ∷ rows) h = sum_by-append (row_cost w key) (row ∷ []) rows
    ∙ ap₂ (λ a b. (0 + a) + b) (row_cost_on v w g key row h.0) (cost_on v w g key rows h.1)
    ∙ sym (sum_by-append (row_cost v key) (row ∷ []) rows)

-- one row more costs what it costs
pub cost_more : (v : View) (key : ℕ) (rows : List ℕ) (row : ℕ)
    → cost_of v key (rows ++ row ∷ []) ≡ cost_of v key rows + row_cost v key row
cost_more v key rows row = grind (arith, sum_by-append)

-- ---- a look

-- a look at a row makes no more loads than the row costs: what its child took, and three
pub look_cost : (v u : View) (m n : ℕ) → IsSound v → GoesOnTo v u → (key node i : ℕ) → IsRow v node
    → IsChildFor (now u) node key i
    → m ≤ distance (guess_in (keys_at v node) key) i + 7 → n ≤ m + 3 → n ≤ row_cost v key node
look_cost v u m n s g key node i r (of_anchor e f) first more =
    let high = fixed_row v.start v.words v.log s.lawful.enabled node 0 (Inner r.row) r.published in
    absurd (omega arith)
look_cost v u m n s g key node i r (of_row row e is) first more = let keys = keys_on v u g node r in
    let same : i ≡ child_count (keys_at v node) key =
    is ∙ ap (λ ks. child_count ks key) (sym (keys_are u node record { row = row; published = e }) ∙ keys) in
    let near = ap (λ j. distance (guess_in (keys_at v node) key) j) same in omega arith

-- ---- how many they are

-- a look at a row above is counted too
pub spent_on : (v w u : View) (node base loads more : ℕ) → HasSpent v w node loads → node < base
    → base < 2 ^ 28 → u.loaded ≡ w.loaded + more → more < 2 ^ 31 → HasSpent v u base (loads + more)
spent_on v w u node base loads more h up low count less = grind arith

-- ---- the search

-- a search that has looked at the anchor's slot has met no row
pub looks_first : (w : View) (key node i : ℕ) (ref : Ref) → HasLooked w key node i [] ref
    → LooksFew w w key node i ref
looks_first w key node i ref h = record { rows = []; looked = h; few = omega arith }

-- it goes on to the row that it read
pub looks_on : (u v w : View) → IsSound v → GoesOnTo v w → (key node i base j : ℕ) (ref : Ref)
    → (l : LooksFew u v key node i (InnerAt base))
    → HasLooked w key base j (l.rows ++ base ∷ []) ref
    → w.loaded ≤ v.loaded + row_cost v key base → LooksFew u w key base j ref
looks_on u v w s g key node i base j ref l h more =
    let came = look_comes v key node i l.rows base l.looked in
    let met = rows_met v s key came.last base (l.rows ++ base ∷ []) came.comes in
    let same = cost_on v w g key (l.rows ++ base ∷ []) met in
    let sum = cost_more v key l.rows base in let few = l.few in
    record { rows = l.rows ++ base ∷ []; looked = h; few = omega arith }

-- at its end it made few loads
pub few_loads : (v u w x : View) → IsSound w → GoesOnTo w x → (key node i : ℕ) (ref : Ref)
    → u.loaded ≤ v.loaded + 5 → LooksFew u w key node i ref
    → x.loaded ≤ w.loaded + 2 → HasFewLoads v x key node
few_loads v u w x s g key node i ref first l last =
    let met = rows_met w s key l.looked.least node l.rows l.looked.comes in
    let same = cost_on w x g key l.rows met in let few = l.few in record {
      rows = l.rows;
      chain = met_chain x.start x.words g.sound.lawful.opens x.log g.sound.lawful.enabled key
          x.loads.since l.looked.least node l.rows
          (comes_later w x g key l.looked.least node l.rows l.looked.comes);
      few = omega arith;
    }
