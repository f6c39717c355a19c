-- Shots, while their pass goes on. Serves `laws.shots_stay` and each look at a shot.
use Rattle.std.proofs.Common.{◌≡◌, ℕ, ◌≤◌, List, ◌++◌, length, take, refl, sym, ap, ◌∙◌, subst, arith, ◌+◌, ◌-◌, ◌<◌, nat_le, ◌&&◌, false, [], ◌∷◌, zero, suc, drop}
use Rattle.std.proofs.lemmas.List.{take-append-le, length-append}
use Rattle.ist_core.specs.declared.pairs.Pair.{Pair}
use Rattle.ist_core.specs.TreeTerms.{map_at, map_after_entries, changes_of, map_of, pairs_of, pairs_between}
use Rattle.ist_core.specs.LogTerms.{Lawful, GoesOn}
use Rattle.ist_core.specs.WordTerms.{start}
use Rattle.laws_histories.proofs.ChangeLemmas.{changes_on}
use Rattle.ist_tree.specs.CallTerms.{HasSeenMore, TreeFace, PassFace, changes_seen, IsFrozenIn, IsFrozenFor, HasFrozenPairs, HasFrozen}
use Rattle.ist_tree.specs.declared.freezing.Frozen.{Frozen}
use Rattle.ist_tree.proofs.FreezingLemmas.{frozen_pairs_are_one, frozen_pairs_stay, frozen_stays, has_its_pairs}
use Rattle.ist_tree.proofs.HeardLemmas.{seen_more_then, seen_same}
use Rattle.ist_scan.specs.Shots.{ArePairsOf, map_seen, IsOf, HasTakenShot, HasOnlyLooked, ShotsStay, LaterCallsComeAfter}
use Rattle.std.proofs.lemmas.Bool.Decides.{nat_tests}
use Rattle.ist_core.proofs.AllPlaceLemmas.{low_key, high_key, key_within, left_out, kept}
use Rattle.ist_scan.specs.Cuts.{CutsAt, IsCut, slice_of}

-- the pass has seen more, and what it has seen is lawful
pub record GoesOnWell (p q : PassFace) : Type 0 where
  pub tree : q.tree ≡ p.tree
  pub seen : GoesOn p.seen q.seen
  pub lawful : Lawful q.tree.start q.tree.words q.seen

module _ (p q : PassFace) (on : GoesOnWell p q) where
  -- what is frozen stays so
  pub frozen_on : (shot : Frozen) → IsFrozenFor p shot → IsFrozenFor q shot
  frozen_on shot f = grind (arith, frozen_stays)

  -- the shot keeps its frozen pairs
  pairs_on : (shot : Frozen) (pairs : List Pair) → IsFrozenFor p shot
      → HasFrozenPairs p.tree.start p.tree.words p.seen shot pairs
      → HasFrozenPairs q.tree.start q.tree.words q.seen shot pairs
  pairs_on shot pairs f h = grind (arith, frozen_pairs_stay)

  -- a shot keeps its pairs
  pub has_on : (shot : Frozen) (pairs : List Pair) → ArePairsOf p shot pairs → ArePairsOf q shot pairs
  has_on shot pairs h = grind (arith, frozen_on, pairs_on)

  -- the changes that it had seen come first, so that the map at one of their positions is the same
  pub map_on : (position : ℕ) → position ≤ length (changes_seen p)
      → map_seen q position ≡ map_seen p position
  map_on position within =
      let front = changes_on (start p.tree.start p.tree.words) p.seen q.seen on.seen in
      ap (λ (t : TreeFace). map_at (map_of t.start) (changes_of t.start t.words q.seen) position) on.tree
      ∙ ap (λ es. map_after_entries (map_of p.tree.start) (take position es)) front.1
      ∙ ap (map_after_entries (map_of p.tree.start)) (take-append-le position (changes_seen p) front.0 within)

  -- its positions are among the changes that the pass has seen then
  pub more_on : (position : ℕ) → position ≤ length (changes_seen p) → position ≤ length (changes_seen q)
  more_on position within =
      let front = changes_on (start p.tree.start p.tree.words) p.seen q.seen on.seen in
      let same : length (changes_seen q) ≡ length (changes_seen p ++ front.0)
      = ap (λ (t : TreeFace). length (changes_of t.start t.words q.seen)) on.tree ∙ ap length front.1 in
      let long = length-append (changes_seen p) front.0 in omega arith

  -- a shot keeps its positions
  pub of_on : (position : ℕ) (shot : Frozen) → IsOf p position shot → IsOf q position shot
  of_on position shot o = record {
    within = more_on position o.within;
    frozen = frozen_on shot o.frozen;
    pairs = subst (λ m. HasFrozenPairs q.tree.start q.tree.words q.seen shot (pairs_of m))
        (sym (map_on position o.within)) (pairs_on shot _ o.frozen o.pairs);
    number = subst (λ m. length (pairs_of m) ≡ shot.keys) (sym (map_on position o.within)) o.number;
  }

-- shots stay
pub shots_stay : ShotsStay
shots_stay p q tree seen lawful position shot o =
    let on : GoesOnWell p q = record { tree = tree; seen = seen; lawful = lawful } in
    (of_on p q on position shot o, map_on p q on position o.within)

-- later calls come after the shot
pub later_calls : LaterCallsComeAfter
later_calls p q position shot command reply o added = let within = o.within in
    let fresh = added.added.fresh.position in omega arith

-- a pass that looked
pub looked : (p q : PassFace) → HasSeenMore p q → q.calls ≡ p.calls → q.refused ≡ p.refused
    → Lawful q.tree.start q.tree.words q.seen → HasOnlyLooked p q
looked p q seen calls refused lawful =
    let on : GoesOnWell p q = record { tree = seen.tree; seen = seen.seen; lawful = lawful } in
    record {
      seen = seen;
      calls = calls;
      refused = refused;
      frozen = frozen_on p q on;
      stays = of_on p q on;
      pairs = has_on p q on;
    }

-- a shot of a position has the pairs of the map there
pub of_pairs : (p : PassFace) (position : ℕ) (shot : Frozen)
    → Lawful p.tree.start p.tree.words p.seen → IsOf p position shot
    → ArePairsOf p shot (pairs_of (map_seen p position))
of_pairs p position shot lawful o =
    let it = has_its_pairs p.tree.start p.tree.words p.seen lawful shot o.frozen in
    let same = frozen_pairs_are_one p.tree.start p.tree.words p.seen shot it.found
    (pairs_of (map_seen p position)) it.has o.pairs in
    subst (ArePairsOf p shot) same record {
      frozen = o.frozen;
      has = it.has;
      number = it.number;
      rising = it.rising;
    }

-- what a freeze answers is of a position
pub taken : (p q : PassFace) (shot : Frozen) → q.tree ≡ p.tree
    → Lawful q.tree.start q.tree.words q.seen → HasFrozen p q shot → HasTakenShot p q shot
taken p q shot tree lawful h = let place = h.was.were.position in
    let frozen = subst (λ (t : TreeFace). IsFrozenIn t.start t.words q.seen shot) (sym tree) h.was.frozen_is in
    let pairs = subst (λ (t : TreeFace). HasFrozenPairs t.start t.words q.seen shot
    (pairs_of (map_at (map_of t.start) (changes_of t.start t.words q.seen) place)))
    (sym tree) (subst (HasFrozenPairs p.tree.start p.tree.words q.seen shot) h.was.were.pairs_are h.was.has) in
    let it = has_its_pairs q.tree.start q.tree.words q.seen lawful shot frozen in
    let one = frozen_pairs_are_one q.tree.start q.tree.words q.seen shot it.found
    (pairs_of (map_seen q place)) it.has pairs in
    record {
      at = h.at;
      step = h.step;
      position = place;
      fresh = h.was.were.from;
      is_of = record {
        within = subst (λ (t : TreeFace). place ≤ length (changes_of t.start t.words q.seen))
            (sym tree) h.was.were.to;
        frozen = frozen;
        pairs = pairs;
        number = subst (λ found. length found ≡ shot.keys) one it.number;
      };
    }

-- a frozen shot has pairs
pub some_pairs : (p : PassFace) (shot : Frozen) → Lawful p.tree.start p.tree.words p.seen
    → IsFrozenFor p shot → (pairs : List Pair) × ArePairsOf p shot pairs
some_pairs p shot lawful f =
    let it = has_its_pairs p.tree.start p.tree.words p.seen lawful shot f in
    (it.found, record { frozen = f; has = it.has; number = it.number; rising = it.rising })

-- a shot has one list of pairs
pub one_pairs : (p : PassFace) (shot : Frozen) (found others : List Pair) → ArePairsOf p shot found
    → ArePairsOf p shot others → found ≡ others
one_pairs p shot found others h k =
    frozen_pairs_are_one p.tree.start p.tree.words p.seen shot found others h.has k.has

-- a pass that did nothing, and one that looked twice
pub looked_not : (p : PassFace) → HasOnlyLooked p p
looked_not p = record {
  seen = seen_same p;
  calls = refl;
  refused = refl;
  frozen = λ shot f. f;
  stays = λ position shot o. o;
  pairs = λ shot pairs h. h;
}

-- a pass that looked twice has looked
pub looked_more : (p q r : PassFace) → HasOnlyLooked p q → HasOnlyLooked q r → HasOnlyLooked p r
looked_more p q r a b = record {
  seen = seen_more_then p q r a.seen b.seen;
  calls = b.calls ∙ a.calls;
  refused = b.refused ∙ a.refused;
  frozen = λ shot f. b.frozen shot (a.frozen shot f);
  stays = λ position shot o. b.stays position shot (a.stays position shot o);
  pairs = λ shot pairs h. b.pairs shot pairs (a.pairs shot pairs h);
}

-- ---- where an interval cuts a list of pairs. Serves `looking.rt` and `walks.rt`.

-- the cut of the pairs after the first
cut_after : (x : Pair) (pairs : List Pair) (key count : ℕ) → CutsAt (x ∷ pairs) key (suc count)
    → CutsAt pairs key count
cut_after x pairs key count c = let within = c.within in record {
  within = omega arith;
  below = λ i pair low at. c.below (suc i) pair (omega arith) at;
  above = λ i pair high at. c.above (suc i) pair (omega arith) at;
}

cut_none : (x : Pair) (pairs : List Pair) (key : ℕ) → CutsAt (x ∷ pairs) key 0 → CutsAt pairs key 0
cut_none x pairs key c = record {
  within = omega arith;
  below = λ i pair low at. absurd (omega arith);
  above = λ i pair high at. c.above (suc i) pair (omega arith) at;
}

-- if both ends of an interval cut the pairs, its pairs are those between the cuts
pub cut_is : (pairs : List Pair) (from to low high : ℕ) → from < to → CutsAt pairs from low
    → CutsAt pairs to high → IsCut pairs from to low high
cut_is [] from to low high some c d = grind arith
cut_is (x ∷ pairs) from to zero zero some c d = let above = d.above 0 x (omega arith) refl in
    let rest = cut_is pairs from to 0 0 some (cut_none x pairs from c) (cut_none x pairs to d) in
    record {
      order = omega arith;
      within = omega arith;
      between = left_out from (to - 1) x pairs (high_key from (to - 1) x.key (omega arith))
          ∙ rest.between;
    }
cut_is (x ∷ pairs) from to zero (suc high) some c d = let above = c.above 0 x (omega arith) refl in
    let below = d.below 0 x (omega arith) refl in
    let rest = cut_is pairs from to 0 high some (cut_none x pairs from c)
    (cut_after x pairs to high d) in
    record {
      order = omega arith;
      within = d.within;
      between = kept from (to - 1) x pairs (key_within from (to - 1) x.key above (omega arith))
          ∙ ap (λ l. x ∷ l) rest.between
          ∙ ap (λ n. take n (x ∷ pairs)) (let e : suc (high - 0) ≡ suc high - 0 = omega arith in e);
    }
cut_is (x ∷ pairs) from to (suc low) zero some c d = let below = c.below 0 x (omega arith) refl in
    let above = d.above 0 x (omega arith) refl in absurd (omega arith)
cut_is (x ∷ pairs) from to (suc low) (suc high) some c d =
    let below = c.below 0 x (omega arith) refl in
    let rest = cut_is pairs from to low high some (cut_after x pairs from low c)
    (cut_after x pairs to high d) in
    let same : suc high - suc low ≡ high - low = omega arith in let order = rest.order in record {
      order = omega arith;
      within = d.within;
      between = left_out from (to - 1) x pairs (low_key from (to - 1) x.key below)
          ∙ rest.between ∙ ap (λ n. take n (drop low pairs)) (sym same);
    }

-- the pairs of an interval that was cut, by its last key
pub between_is : (pairs : List Pair) (first last from to low high : ℕ) → from ≡ first
    → to ≡ last + 1 → IsCut pairs from to low high
    → pairs_between first last pairs ≡ slice_of pairs low high
between_is pairs first last from to low high begins ends c = grind arith

outside : (from last key : ℕ) → last < from → (nat_le from key && nat_le key last) ≡ false
outside from last key h = grind (arith, nat_tests)

-- an interval whose last key is below its first has no pairs
pub none_between : (pairs : List Pair) (first last : ℕ) → last < first
    → pairs_between first last pairs ≡ []
none_between [] first last less = refl
none_between (x ∷ pairs) first last less =
    left_out first last x pairs (outside first last x.key less) ∙ none_between pairs first last less
