-- The ends of a span are keys of rows, and stay so. Serves `spans`.
use Rattle.std.proofs.Common.{◌≡◌, ℕ, zero, suc, ◌+◌, ◌^◌, ◌<◌, ◌≤◌, List, [], ◌∷◌, length, get_or, sym, ◌∙◌, subst, inl, inr, arith, ◌≢◌, ◌-◌, ◌++◌, Option, ap, refl}
use Rattle.std.proofs.lemmas.Bool.{cases_lt}
use Rattle.ist_core.specs.LogTerms.{Among, Snapshot}
use Rattle.ist_rule.specs.RuleTerms.{now, GoesOnTo, IsSound, Turned, searching}
use Rattle.ist_rule.specs.declared.view.View.{View}
use Rattle.ist_find.specs.Searches.{IsRow, keys_at, Came, HasSearched, HasFewLoads, HasFound, HasBegunSearch}
use Rattle.ist_find.specs.Spans.{IsEdge, EndAtEdges, pair_value, AllCome, AllLooked, HasFewSpanLoads, LooksFewOver}
use Rattle.ist_find.proofs.LoadLemmas.{row_on, keys_are, keys_on, not_anchor}
use Rattle.ist_core.specs.WordTerms.{Inner, Ref, InnerAt, anchor, IsChildFor, start}
use Rattle.ist_dcss.proofs.FieldLemmas.{row_low}
use Rattle.ist_rule.proofs.EventLemmas.{goes_on_more}
use Rattle.ist_core.specs.TreeTerms.{WasLinked}
use Rattle.laws_histories.specs.Searching.{HasPosition}
use Rattle.ist_find.specs.Reads.{IsReached, LooksFew, TellsValue}
use Rattle.ist_find.specs.Looks.{LooksAtChild, SearchIsAt, LooksForAll, SpanIsAt}
use Rattle.ist_find.proofs.CostLemmas.{looks_first, looks_on, few_loads, spent_on}
use Rattle.ist_find.proofs.LookLemmas.{look_comes}
use Rattle.ist_find.proofs.SearchLemmas.{begun_comes, has_searched, has_found, found_position, found_linked, found_child, at_anchor}
use Rattle.std.proofs.Math.Nat.{le_trans}
use Rattle.ist_core.specs.declared.pairs.Pair.{Pair}
use Rattle.ist_find.proofs.SpanLemmas.{all_came, span_position, over_first, over_on, few_over}

-- a key at a place of a list is among its keys
pub key_among : (keys : List ℕ) (i x : ℕ) → i < length keys → x ≡ get_or keys i 0 → Among x keys
key_among [] i x less is = absurd (omega arith)
key_among (key ∷ keys) zero x less is = inl is
key_among (key ∷ keys) (suc i) x less is = inr (key_among keys i x (omega arith) is)

-- an edge stays one when the caller goes on by loads
edge_on : (v w : View) → GoesOnTo v w → (key : ℕ) → IsEdge (now v) key → IsEdge (now w) key
edge_on v w g key e = let row : IsRow v e.base = record { row = e.row; published = e.published } in
    let on = row_on v w g e.base row in record {
      base = e.base;
      row = on.row;
      published = on.published;
      among = subst (Among key) (sym (keys_are v e.base row) ∙ sym (keys_on v w g e.base row)
          ∙ keys_are w e.base on) e.among;
    }

-- a range that ends at edges still does when the caller goes on by loads
pub edges_on : (v w : View) → GoesOnTo v w → (first last : ℕ) → EndAtEdges (now v) first last
    → EndAtEdges (now w) first last
edges_on v w g first last h =
    ((λ some. edge_on v w g first (h.0 some)), (λ more. edge_on v w g (last + 1) (h.1 more)))

-- all keys end at no edge
pub no_edges : (t : Snapshot) (last : ℕ) → 2 ^ 64 ≤ last + 1 → EndAtEdges t 0 last
no_edges t last top = ((λ some. absurd (omega arith)), (λ more. absurd (omega arith)))

-- the keys of a row narrow the ends to edges
row_edge : (v : View) (node key : ℕ) → IsRow v node → Among key (keys_at v node)
    → IsEdge (now v) key
row_edge v node key r among = grind (arith, keys_are)

-- a range that is narrowed to keys of a row still ends at edges
pub edges_row : (v : View) (node : ℕ) → IsRow v node → (first last low high : ℕ)
    → EndAtEdges (now v) first last → first ≤ low → high ≤ last
    → (first < low → Among low (keys_at v node))
    → (high < last → Among (high + 1) (keys_at v node)) → EndAtEdges (now v) low high
edges_row v node r first last low high h from to left right = grind (arith, row_edge, cases_lt)

-- ---- a search for a key, look after look, and what it ends with. Serves `finding`.

-- a row that a search has reached lies above the node, and within the table, which is small. It isn't
-- the anchor
pub record LiesAbove (v : View) (node base : ℕ) : Type 0 where
  pub up : node < base
  pub below_anchor : base ≢ anchor
  pub inside : base < v.words
  pub small : base < 2 ^ 28

-- each inner row that is reached from the node lies above it, and within the table
pub row_above : (v : View) → IsSound v → (node base : ℕ) → IsReached v node (InnerAt base)
    → LiesAbove v node base
row_above v s node base r =
    let low = row_low v s base (Inner r.1.row) r.1.published 0 (omega arith) in let place = low.0 in
    let small = low.1 in record {
      up = r.0;
      below_anchor = not_anchor v s base r.1;
      inside = omega arith;
      small = omega arith;
    }

-- it begins with a look at the anchor's slot
pub search_begins : (v b w : View) → Turned v (searching v) b → (key i n : ℕ) (ref : Ref)
    → LooksAtChild b w anchor key i n ref → SearchIsAt v w key anchor i (n + 1) ref
search_begins v b w t key i n ref l = let begun = ap (λ x. x.loaded) t.view in
    let count = l.counted in let four = l.anchor_loads refl in record {
      begun = b;
      turned = t;
      seen = l.seen;
      first = w;
      few_first = omega arith;
      looks = looks_first w key anchor i ref (l.looked [] (begun_comes v b key t));
      reached = l.reached;
      spent = record { count = omega arith; few = omega arith; low = omega arith };
    }

-- fewer words lie after it than after the node
pub fewer_left : {w x : View} {node base : ℕ} → LiesAbove w node base → GoesOnTo w x
    → x.words - base < w.words - node
fewer_left lies g = grind arith

module _ (v w : View) (key node i loads : ℕ) (ref : Ref) (h : SearchIsAt v w key node i loads ref) where
  -- if it read an inner row, it has come there
  pub search_came : (base : ℕ) → ref ≡ InnerAt base → Came w key base
  search_came base is = let l = subst (LooksFew h.first w key node i) is h.looks in
      (l.rows ++ base ∷ [], look_comes w key node i l.rows base l.looked)

  -- and that row lies above
  pub search_rises : (base : ℕ) → ref ≡ InnerAt base → LiesAbove w node base
  search_rises base is = row_above w h.seen.sound node base (subst (IsReached w node) is h.reached)

  -- it goes on with a look at the row
  pub search_goes_on : (base : ℕ) → ref ≡ InnerAt base → (x : View) (j n : ℕ) (other : Ref)
      → LooksAtChild w x base key j n other → SearchIsAt v x key base j (loads + n) other
  search_goes_on base is x j n other l =
      let few = subst (LooksFew h.first w key node i) is h.looks in
      let reached = subst (IsReached w node) is h.reached in let lies = search_rises base is in
      let cost = l.row_loads reached.1 in let count = l.counted in record {
        begun = h.begun;
        turned = h.turned;
        seen = goes_on_more h.begun w x h.seen l.seen;
        first = h.first;
        few_first = h.few_first;
        looks = looks_on h.first w x h.seen.sound l.seen key node i base j other few
            (l.looked (few.rows ++ base ∷ []) (look_comes w key node i few.rows base few.looked)) (omega arith);
        reached = l.reached;
        spent = spent_on v w x node base loads n h.spent lies.up lies.small count l.fits;
      }

  -- once a value was loaded, by at most two loads, the value is what it found, by few loads
  pub search_ends : (x : View) (value : Option ℕ) → IsSound x → TellsValue w x key ref value
      → x.loaded ≤ w.loaded + 2
      → HasSearched v x × HasPosition x.start x.words v.log x.log key value × HasFound x key node i value
      × WasLinked (start x.start x.words) x.log node × IsChildFor (now x) node key i × HasFewLoads v x key node
  search_ends x value s t last = let g = goes_on_more h.begun w x h.seen t.seen in
      let found = has_found w x key node i h.looks.rows ref value h.looks.looked t in (
        has_searched v h.begun x h.turned g,
        found_position v h.begun x h.turned g key node i value found,
        found,
        found_linked x s key node i value found,
        found_child x s key node i value found,
        few_loads v h.first w x h.seen.sound t.seen key node i ref h.few_first h.looks last,
      )

-- ---- a search for all keys of a slot, look after look, and what it ends with. Serves `spans`.

-- the search for each key comes to the anchor first
pub all_at_anchor : (v : View) → IsSound v → (low high : ℕ) → AllCome v low high anchor
all_at_anchor v s low high k least most = ([], at_anchor v k s)

-- it begins with a look at the anchor's slot, for all keys
pub span_begins : (v w : View) → IsSound v → (key first last i low high : ℕ) (ref : Ref)
    → LooksForAll v w anchor key first last i low high ref → SpanIsAt v w key anchor i low high ref
span_begins v w s key first last i low high ref l = let four = l.anchor_loads refl in record {
  seen = l.seen;
  first = w;
  few_first = omega arith;
  below = l.below;
  above = l.above;
  edges = l.edges;
  looked = λ k least most. ([], l.looked k [] least most (at_anchor v k s));
  looks = over_first w key anchor i ref (l.looked key [] l.below l.above (at_anchor v key s));
  reached = l.reached;
}

module _ (v w : View) (key node i low high : ℕ) (ref : Ref) (h : SpanIsAt v w key node i low high ref) where
  -- if it read an inner row, the search for each of its keys has come there
  pub span_came : (base : ℕ) → ref ≡ InnerAt base → AllCome w low high base
  span_came base is = all_came w low high node i base (subst (AllLooked w low high node i) is h.looked)

  -- and that row lies above
  pub span_rises : (base : ℕ) → ref ≡ InnerAt base → LiesAbove w node base
  span_rises base is = row_above w h.seen.sound node base (subst (IsReached w node) is h.reached)

  -- it goes on with a look at the row
  pub span_goes_on : (base : ℕ) → ref ≡ InnerAt base → (x : View) (j least most : ℕ) (other : Ref)
      → LooksForAll w x base key low high j least most other → SpanIsAt v x key base j least most other
  span_goes_on base is x j least most other l =
      let few = subst (LooksFewOver h.first w key node i) is h.looks in
      let reached = subst (IsReached w node) is h.reached in record {
        seen = goes_on_more v w x h.seen l.seen;
        first = h.first;
        few_first = h.few_first;
        below = l.below;
        above = l.above;
        edges = l.edges;
        looked = λ k from to.
            let come = span_came base is k (le_trans l.from from) (le_trans to l.to) in
            (come.0, l.looked k come.0 from to come.1);
        looks = over_on h.first w x h.seen.sound l.seen key node i base j other few
            (l.looked key (few.rows ++ base ∷ []) l.below l.above
            (look_comes w key node i few.rows base few.looked)) (l.row_loads reached.1);
        reached = l.reached;
      }

  -- once the pair at its end was loaded, by at most two loads, each key of the slot has what the pair gives it
  pub span_ends : (x : View) (pair own : Option Pair) → ((k : ℕ) → TellsValue w x k ref (pair_value pair k))
      → ((k : ℕ) → low ≤ k → k ≤ high → pair_value own k ≡ pair_value pair k)
      → HasBegunSearch v → GoesOnTo w x → x.loaded ≤ w.loaded + 2
      → GoesOnTo v x × (low ≤ key) × (key ≤ high)
      × ((k : ℕ) → low ≤ k → k ≤ high → HasPosition x.start x.words v.log x.log k (pair_value own k))
      × EndAtEdges (now x) low high × HasFewSpanLoads v x key (pair_value own key)
  span_ends x pair own tells same begun g last = (
    goes_on_more v w x h.seen g,
    h.below,
    h.above,
    λ k least most. subst (HasPosition x.start x.words v.log x.log k) (sym (same k least most))
        (span_position v w x begun h.seen low high node i ref pair h.looked tells k least most),
    edges_on w x g low high h.edges,
    subst (HasFewSpanLoads v x key) (sym (same key h.below h.above))
        (few_over v h.first w x h.seen.sound key node i ref (pair_value pair key) (tells key) h.few_first
        h.looks last),
  )
