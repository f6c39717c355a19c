-- Words that represent some pairs and calls hold the pairs of the map, in rows that share no word.
-- Serves `laws.standing_words_hold_the_map`.
use Rattle.std.proofs.Common.{◌≡◌, ℕ, suc, ◌+◌, List, [], ◌∷◌, ◌++◌, length, map, slice_get, Option, Some, refl, sym, ap, ◌∙◌, subst, inl, inr, ⊎_elim, ◌≢◌, arith, length-append}
use Rattle.std.proofs.lemmas.Option.{get_or_from_slice_get}
use Rattle.std.proofs.lemmas.List.{append_assoc, append-nil, map-append}
use Rattle.ist_core.specs.declared.pairs.Pair.{Pair}
use Rattle.ist_core.specs.declared.states.InnerRow.{InnerRow}
use Rattle.ist_core.specs.WordTerms.{anchor_slot_place, inner_words, leaf_words, Ref, Empty, LeafAt, InnerAt, Piece, Leaf, Inner, Rebuild, size_of, in_anchor, logical}
use Rattle.ist_core.specs.LogTerms.{Among, Each, Snapshot, Log, state_of}
use Rattle.ist_core.specs.TreeTerms.{IsChild, PlacedLeaf, pair_of, HasLeaves, SlotsHaveLeaves, none_here, leaf_here, row_here, no_slot, one_slot, HasContents, Apart}
use Rattle.ist_core.proofs.AllPlaceLemmas.{claimed_apart, placed, child_above, lies_above, slot_reads_as, leaves_lie}
use Rattle.ist_rest.specs.WordRows.{word_at, row_degree, row_slots, Span}
use Rattle.ist_rest.specs.Walks.{Visit, IsGood, rows_read, pairs_read, visits_from, visits_below, Walks, ends, goes_on, first_visit, IsApartFrom, AreApart}
use Rattle.ist_rest.specs.RestingWords.{HoldPairs, AreLawful}
use Rattle.ist_rest.proofs.UnderLemmas.{HasHome, as_child, as_rebuild, up_here, IsReadUnder, row_under, leaf_under, rebuild_inner, no_home, one_under, not_below, under_child, bases, AreRows, add_row}
use Rattle.ist_rest.proofs.RowLemmas.{word_is, first_word}
use Rattle.ist_rest.proofs.PublishedLemmas.{IsStood, all_names, free, good_bounds, IsVisitOfSlot, reading, good_leaf, shape, keys_there, slots_there, degree_there, good_row}
use Rattle.ist_rest.proofs.ReadOnceLemmas.{WalkFinds, AreElsewhere, AreBefore, Longer, LongerBy, at_slot, homes, led_through}

module _ {pairs : List Pair} {words : List ℕ} {log : Log} (s : IsStood pairs words log) where
  abbrev t : Snapshot
  t = state_of pairs (length words) log

  mutual
    walk_ref : (ref : Option Ref) (leaves : List PlacedLeaf) → HasLeaves t.pieces ref leaves
        → (visit : Visit) (i : ℕ) → IsVisitOfSlot s visit i
        → logical t.pieces visit.word ≡ ref → (visits : List Visit) (more : List Pair)
        (w : WalkFinds s visits more) → AreElsewhere s w.rows visit.node i
        → Longer s (visit ∷ visits) (map pair_of leaves ++ more) w.rows visit.node i
    walk_ref _ _ none_here visit i at e visits more w apart =
        let good : IsGood words visit = record {
          ref = Empty;
          reads = reading s visit i Empty at e;
          good = tt;
        } in
        let it = led_through s visit i at [] w.rows w.are
        (λ b h a. apart b a (row_under (as_rebuild h) up_here)) in
        record {
          finds = record {
            rows = rows_read words visit Empty ++ w.rows;
            walk = goes_on good w.walk;
            are = it.are;
          };
          from = it.from;
        }
    walk_ref _ _ (leaf_here {base = base} r p) visit i at e visits more w apart =
        let stand = s.image.rows base (Leaf r) p in
        let key = first_word words base (Leaf r) stand (omega arith) in
        let value = word_is words base 1 (Leaf r) stand (omega arith) in
        let good : IsGood words visit = record {
          ref = LeafAt base;
          reads = reading s visit i (LeafAt base) at e;
          good = good_leaf s visit i base r at e p key;
        } in
        let same : pairs_read words (LeafAt base) ≡ pair_of record { base = base; row = r } ∷ [] =
        cc in
        let mentions = (slot_reads_as t visit.node i visit.word (all_names s) at.slot).a_leaf base
        e in
        let lies = (leaves_lie pairs (length words) s.lawful.opens log s.lawful.enabled).each
        visit.node i base mentions r p in
        let under : IsReadUnder t visit.node i base = leaf_under r p lies in
        let are = add_row t base leaf_words (Leaf r) w.rows p (omega arith)
        (λ a. apart base a under) w.are in
        let it = led_through s visit i at (record { base = base; size = leaf_words } ∷ []) w.rows
        are
        (λ b h a. ⊎_elim (λ is. no_home t (all_names s) (homes s) (free s) visit.node i base r p
        (subst (HasHome t visit.node i) is (as_rebuild h)))
        (λ old. apart b old (row_under (as_rebuild h) up_here)) a) in
        record {
          finds = record {
            rows = rows_read words visit (LeafAt base) ++ w.rows;
            walk = subst (λ ps. Walks words (visit ∷ visits) (rows_read words visit (LeafAt base)
                ++ w.rows) (ps ++ more)) same (goes_on good w.walk);
            are = it.are;
          };
          from = λ b a. ⊎_elim
              (λ x. ⊎_elim (λ is. inr (subst (IsReadUnder t visit.node i) (sym is) under))
              (λ old. inl old) x) (λ u. inr u) (it.from b a);
        }
    walk_ref _ leaves (row_here {base = base} r p slots) visit i at e visits more w apart =
        let good : IsGood words visit = record {
          ref = InnerAt base;
          reads = reading s visit i (InnerAt base) at e;
          good = good_row s visit i base r at e p;
        } in
        let child : IsChild t visit.node i base = record {
          word = visit.word;
          holds = at.slot;
          reads = e;
        } in
        let mentions = (slot_reads_as t visit.node i visit.word (all_names s) at.slot).a_row base
        e in
        let lift : (b m : ℕ) → IsReadUnder t base m b → IsReadUnder t visit.node i b =
        λ b m u. under_child t (all_names s) (homes s) (free s) visit.node i base m b child
        (λ key lies. lies_above t (all_names s) (homes s) (free s) visit.node i base m key mentions
        lies)
        u in
        let higher = child_above t visit.node i base (all_names s) child in
        let it = walk_slots r.slots leaves slots visit i base r at e p 0
        (base + 3 + row_degree words base)
        (λ k word g. let same : 0 + k ≡ k = omega arith in ap (slice_get r.slots) same ∙ g) visits
        more w (λ b m a l u. apart b a (lift b m u)) in
        let f = it.finds in
        let all : Walks words (visits_below words visit (InnerAt base) ++ visits) f.rows
        (map pair_of leaves ++ more) =
        subst (λ ks. Walks words
        (visits_from base visit.ways ks 0 (base + 3 + row_degree words base)
        (row_slots words base) ++ visits) f.rows (map pair_of leaves ++ more))
        (sym (keys_there s base r p))
        (subst (λ ss. Walks words (visits_from base visit.ways r.keys 0
        (base + 3 + row_degree words base) ss ++ visits) f.rows (map pair_of leaves ++ more))
        (sym (slots_there s base r p)) f.walk) in
        let under : IsReadUnder t visit.node i base = row_under (as_child child) up_here in
        let gone : (b : ℕ) → HasHome t visit.node i b → Among b (bases f.rows) → ⊥ =
        λ b h a. ⊎_elim (λ old. apart b old (row_under h up_here))
        (λ x. not_below t (all_names s) (homes s) (free s) visit.node i b base x.0 h higher x.2)
        (it.from b a) in
        let d = degree_there s base r p in let ks = (shape s base r p).keys in
        let ss = (shape s base r p).slots in let long = length-append r.keys r.slots in
        let are = add_row t base (inner_words (row_degree words base)) (Inner r) f.rows p
        (omega arith) (gone base (as_child child)) f.are in
        let on = led_through s visit i at
        (record { base = base; size = inner_words (row_degree words base) } ∷ []) f.rows are
        (λ b h a. ⊎_elim (λ is. rebuild_inner (t.pieces base) h.row r
        (subst (λ x. t.pieces x ≡ Some (Rebuild h.row)) is h.published) p)
        (λ old. gone b (as_rebuild h) old) a) in
        record {
          finds = record {
            rows = rows_read words visit (InnerAt base) ++ f.rows;
            walk = goes_on good all;
            are = on.are;
          };
          from = λ b a. ⊎_elim
              (λ x. ⊎_elim (λ is. inr (subst (IsReadUnder t visit.node i) (sym is) under))
              (λ old. ⊎_elim (λ y. inl y) (λ y. inr (lift b y.0 y.2)) (it.from b old)) x)
              (λ u. inr u) (on.from b a);
        }

    walk_slots : (ws : List ℕ) (leaves : List PlacedLeaf) → SlotsHaveLeaves t.pieces ws leaves
        → (visit : Visit) (i base : ℕ) (r : InnerRow)
        → IsVisitOfSlot s visit i → logical t.pieces visit.word ≡ Some (InnerAt base) → t.pieces base ≡ Some
        (Inner r) → (j place : ℕ)
        → ((k word : ℕ) → slice_get ws k ≡ Some word → slice_get r.slots (j + k) ≡ Some word)
        → (visits : List Visit) (more : List Pair) (w : WalkFinds s visits more)
        → AreBefore s w.rows base j
        → LongerBy s (visits_from base visit.ways r.keys j place ws ++ visits)
        (map pair_of leaves ++ more) w.rows base j
    walk_slots _ _ no_slot visit i base r at e p j place reads visits more w apart =
        record { finds = w; from = λ b a. inl a }
    walk_slots _ _ (one_slot {word = word} {words = ws} {here = here} {rest = rest} first others)
        visit i base r at e p j place reads visits more w apart =
        let it = walk_slots ws rest others visit i base r at e p (j + 1) (place + 1)
        (λ k wd g. let same : j + 1 + k ≡ j + suc k = omega arith in ap (slice_get r.slots) same
        ∙ reads (suc k) wd g) visits more w
        (λ b m a l u. apart b m a (omega arith) u) in
        let same : j ≡ j + 0 = omega arith in
        let now = at_slot s visit i base r at e p j place word (ap (slice_get r.slots) same
        ∙ reads 0 word refl) in
        let all = walk_ref (logical t.pieces word) here first
        record {
          place = place;
          word = word;
          node = base;
          ways = record { keys = r.keys; index = j } ∷ visit.ways;
        } j now refl
        (visits_from base visit.ways r.keys (j + 1) (place + 1) ws ++ visits)
        (map pair_of rest ++ more) it.finds
        (λ b a u. ⊎_elim (λ old. apart b j old (omega arith) u)
        (λ x. let one = one_under t (all_names s) (homes s) (free s) base j x.0 b u x.2 in let l =
        x.1 in
        omega arith) (it.from b a)) in
        let joined : map pair_of here ++ (map pair_of rest ++ more) ≡ map pair_of (here ++ rest)
        ++ more =
        sym (append_assoc (map pair_of here) (map pair_of rest) more) ∙ ap (λ ps. ps ++ more)
        (sym (map-append pair_of here rest)) in
        subst (λ ps. LongerBy s (visits_from base visit.ways r.keys j place (word ∷ ws) ++ visits)
        ps w.rows base j) joined
        record {
          finds = all.finds;
          from = λ b a. ⊎_elim (λ old. ⊎_elim (λ x. inl x) (λ x. let l = x.1 in
              inr (x.0, omega arith, x.2)) (it.from b old)) (λ u. inr (j, omega arith, u))
              (all.from b a);
        }

  -- ---- rows that share no word

  two_apart : (a b : Span) (p q : Piece) → t.pieces a.base ≡ Some p → a.size ≡ size_of p
      → t.pieces b.base ≡ Some q → b.size ≡ size_of q
      → a.base ≢ b.base → Apart a.base a.size b.base b.size
  two_apart a b p q e long f wide ne =
      let held = placed pairs (length words) log s.lawful.enabled in
      let it : Apart a.base (size_of p) b.base (size_of q) =
      ⊎_elim (λ same. absurd (ne same.0)) (λ x. x.1)
      (claimed_apart pairs (length words) log a.base (size_of p) b.base (size_of q) s.lawful.enabled
      (held.published a.base p e) (held.published b.base q f)) in
      subst (λ n. Apart a.base n b.base b.size) (sym long)
      (subst (λ n. Apart a.base (size_of p) b.base n) (sym wide) it)

  abbrev IsPlacedRow : Span → Type 0
  IsPlacedRow span = (p : Piece) × (t.pieces span.base ≡ Some p) × (span.size ≡ size_of p)

  apart_from : (seen : List Span) (span : Span) → Each IsPlacedRow seen → IsPlacedRow span
      → (Among span.base (bases seen) → ⊥) → IsApartFrom seen span
  apart_from [] span all one new = tt
  apart_from (other ∷ seen) span all one new = (
    two_apart other span all.0.0 one.0 all.0.1 all.0.2 one.1 one.2 (λ e. new (inl (sym e))),
    apart_from seen span all.1 one (λ a. new (inr a)),
  )

  rows_apart : (seen rows : List Span) → Each IsPlacedRow seen → AreRows t rows
      → ((b : ℕ) → Among b (bases seen) → Among b (bases rows) → ⊥) → AreApart seen rows
  rows_apart seen [] all are new = tt
  rows_apart seen (span ∷ rows) all are new = (
    apart_from seen span all are.placed.0 (λ a. new span.base a (inl refl)),
    rows_apart (span ∷ seen) rows (are.placed.0, all) record {
      distinct = are.distinct.1;
      placed = are.placed.1;
    }
        (λ b a c. ⊎_elim (λ is. are.distinct.0 (subst (λ x. Among x (bases rows)) is c))
        (λ old. new b old (inr c)) a),
  )

  -- the words hold the contents, in rows that share no word
  pub lawful_contents : (contents : List Pair) → HasContents t contents → AreLawful words contents
  lawful_contents contents h =
      let a : word_at words anchor_slot_place ≡ t.anchor = get_or_from_slice_get words
      anchor_slot_place t.anchor 0 s.image.anchor_slot in
      let at : IsVisitOfSlot s (first_visit words) 0 = record {
        slot = in_anchor refl refl (sym a);
        led = λ key lies. tt;
      } in
      let it = walk_ref (logical t.pieces t.anchor) h.leaves h.reached (first_visit words) 0 at
      (ap (logical t.pieces) a) [] []
      record { rows = []; walk = ends; are = record { distinct = tt; placed = tt } }
      (λ b none u. absurd none) in
      let same : map pair_of h.leaves ++ [] ≡ contents = append-nil (map pair_of h.leaves)
      ∙ sym h.pairs_are in
      record {
        holds = record {
          bounds = (good_bounds s);
          rows = it.finds.rows;
          walk = subst (λ ps. Walks words (first_visit words ∷ []) it.finds.rows ps) same
              it.finds.walk;
        };
        apart = rows_apart [] it.finds.rows tt it.finds.are (λ b none c. absurd none);
      }

  -- the words hold the contents
  pub hold_contents : (contents : List Pair) → HasContents t contents → HoldPairs words contents
  hold_contents contents h = let it = lawful_contents contents h in it.holds
