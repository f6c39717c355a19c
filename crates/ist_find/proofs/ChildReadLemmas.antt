-- A read of the slot for a key, as a look of the searches for all keys that have this slot. Serves `children`,
-- `finding` and `spans`.
use Rattle.std.proofs.Common.{◌≡◌, ℕ, ◌+◌, ◌<◌, ◌≤◌, ◌^◌, arith}
use Rattle.ist_core.specs.WordTerms.{Ref, anchor, SlotHolds, IsChildFor}
use Rattle.ist_math.specs.Guess.{guess_in, distance}
use Rattle.ist_rule.specs.RuleTerms.{IsSound, now, GoesOnTo, IsNode}
use Rattle.ist_rule.specs.declared.view.View.{View}
use Rattle.ist_rule.proofs.EventLemmas.{goes_on_more}
use Rattle.ist_find.specs.Searches.{IsRow, Came, keys_at}
use Rattle.ist_find.specs.Reads.{TellsSide, TellsTarget}
use Rattle.ist_find.specs.Spans.{EndAtEdges}
use Rattle.ist_find.specs.Looks.{ReadsChild, LooksAtChild, LooksForAll}
use Rattle.ist_find.proofs.CostLemmas.{look_cost}
use Rattle.ist_find.proofs.LookLemmas.{come_node, look_told, look_reaches}
use Rattle.ist_find.proofs.SpanLemmas.{child_shared, child_on, looked_later, found_on}

-- the slot's word, its side and its target together are a read of the slot
pub child_read : (v u t w : View) (key node i word side m n o : ℕ) (ref : Ref) → IsSound v → GoesOnTo v u
    → IsChildFor (now u) node key i → SlotHolds (now u) node i word → u.loaded ≡ v.loaded + m
    → (node ≡ anchor → m ≤ 1) → (IsRow v node → m ≤ distance (guess_in (keys_at v node) key) i + 7)
    → m < 2 ^ 30 → TellsSide u t word side → t.loaded ≡ u.loaded + n → n ≤ 2 → TellsTarget t w side ref
    → w.loaded ≡ t.loaded + o → o ≤ 1 → ReadsChild v w node key i (m + n + o) ref
child_read v u t w key node i word side m n o ref s a child holds first at_anchor at_row fits told second two
    target third one =
    let later = goes_on_more u t w told.seen target.seen in record {
      seen = goes_on_more v u w a later;
      child = child_on u w later node key i child;
      looked = λ k rows its come. look_told v u t w k node i word side ref rows come a
          (child_shared u w a.sound later node key k i child its) holds told target;
      found = target.found;
      counted = omega arith;
      anchor_loads = λ at. let few = at_anchor at in omega arith;
      row_loads = λ row. look_cost v u m (m + n + o) s a key node i row child (at_row row) (omega arith);
      fits = omega arith;
    }

-- a search that has come somewhere has come to a node
pub came_node : (v : View) → IsSound v → (key node : ℕ) → Came v key node → IsNode (now v) node
came_node v s key node came = come_node v s key came.1.last node came.0 came.1.comes

-- it is a look of the search for the key
pub looks_at_child : (v w : View) (node key i loads : ℕ) (ref : Ref) → Came v key node
    → ReadsChild v w node key i loads ref → LooksAtChild v w node key i loads ref
looks_at_child v w node key i loads ref came r = record {
  seen = r.seen;
  looked = λ rows come. r.looked key rows r.child come;
  counted = r.counted;
  anchor_loads = r.anchor_loads;
  row_loads = r.row_loads;
  fits = r.fits;
  reached = look_reaches w r.seen.sound key node i came.0 ref (r.looked key came.0 r.child came.1) r.found;
}

-- and of the search for each key that has this child
pub looks_for_all : (v u w : View) (node key first last i low high loads : ℕ) (ref : Ref) → Came v key node
    → ReadsChild v u node key i loads ref → GoesOnTo u w → first ≤ low → low ≤ key → key ≤ high → high ≤ last
    → EndAtEdges (now w) low high → ((k : ℕ) → low ≤ k → k ≤ high → IsChildFor (now u) node k i)
    → w.loaded ≤ u.loaded + 3 → (node ≡ anchor → w.loaded ≡ u.loaded)
    → LooksForAll v w node key first last i low high ref
looks_for_all v u w node key first last i low high loads ref came r g from below above to edges share few none =
    let counted = r.counted in record {
      seen = goes_on_more v u w r.seen g;
      below = below;
      above = above;
      from = from;
      to = to;
      edges = edges;
      looked = λ k rows least most come.
          looked_later u w g k node i rows ref (r.looked k rows (share k least most) come);
      anchor_loads = λ at. let four = r.anchor_loads at in let same = none at in omega arith;
      row_loads = λ row. let cost = r.row_loads row in omega arith;
      reached = look_reaches w g.sound key node i came.0 ref
          (looked_later u w g key node i came.0 ref (r.looked key came.0 r.child came.1))
          (found_on u w g ref r.found);
    }
