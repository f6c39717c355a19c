-- A walk: the place of its next pair, and that it stays there. Serves `walks.rt` and
-- `laws.shots_stay`.
use Rattle.std.proofs.Common.{◌≡◌, ℕ, ◌+◌, ◌-◌, ◌<◌, ◌≤◌, List, [], ◌∷◌, zero, suc, length, map, slice_get, Some, None, refl, sym, ap, ◌∙◌, subst, ⊎_elim, arith}
use Rattle.std.specs.List.Sorted.{IsStrictlyIncreasing}
use Rattle.std.proofs.lemmas.Bool.{cases_lt}
use Rattle.std.proofs.lemmas.List.{length-take}
use Rattle.std.proofs.lemmas.Option.{slice_get_past}
use Rattle.ist_core.proofs.AllWordLemmas.{slice_get-drop, slice_get-take}
use Rattle.ist_core.specs.declared.pairs.Pair.{Pair}
use Rattle.ist_core.specs.TreeTerms.{pairs_between}
use Rattle.ist_tree.specs.CallTerms.{PassFace}
use Rattle.ist_tree.specs.declared.freezing.Frozen.{Frozen}
use Rattle.ist_scan.specs.Cuts.{CutsAt, IsCut, slice_of}
use Rattle.ist_scan.specs.Shots.{HasOnlyLooked, ArePairsOf}
use Rattle.ist_scan.specs.Walks.{WalkFace, AreOneWalk, WalkHasBegun, WalksStay}
use Rattle.ist_scan.proofs.ShotLemmas.{cut_is, between_is, none_between, GoesOnWell, has_on, one_pairs}
use Rattle.ist_scan.proofs.PairLemmas.{rise}

-- walks stay
pub walks_stay : WalksStay
walks_stay p q tree seen lawful w h =
    let on : GoesOnWell p q = record { tree = tree; seen = seen; lawful = lawful } in record {
      fresh = h.fresh;
      way = λ begun. (let b = h.way begun in record {
        pairs = b.pairs;
        has = has_on p q on w.shot b.pairs b.has;
        start = b.start;
        cut = b.cut;
        next_is = b.next_is;
      });
    }

-- ---- a key cuts pairs with increasing keys

-- a key cuts pairs with increasing keys somewhere
some_cut : (pairs : List Pair) (key : ℕ)
    → ((i j : ℕ) (x y : Pair) → slice_get pairs i ≡ Some x → slice_get pairs j ≡ Some y → i < j
    → x.key < y.key)
    → (count : ℕ) × CutsAt pairs key count
some_cut [] key rises = grind arith
some_cut (x ∷ pairs) key rises =
    let rest = some_cut pairs key (λ i j y z at_i at_j low. rises (suc i) (suc j) y z at_i at_j (omega arith)) in
    ⊎_elim (λ (less : x.key < key). (suc rest.0, cut_more x pairs key rest.0 less rest.1))
    (λ (more : key ≤ x.key). (0, cut_here x pairs key more (λ i y at. rises 0 (suc i) x y refl at (omega arith))))
    (cases_lt x.key key)
  where
    cut_more : (x : Pair) (pairs : List Pair) (key count : ℕ) → x.key < key → CutsAt pairs key count
        → CutsAt (x ∷ pairs) key (suc count)
    cut_more x pairs key count less c = grind arith

    cut_here : (x : Pair) (pairs : List Pair) (key : ℕ) → key ≤ x.key
        → ((i : ℕ) (y : Pair) → slice_get pairs i ≡ Some y → x.key < y.key)
        → CutsAt (x ∷ pairs) key 0
    cut_here x pairs key more rest =
        record { within = omega arith; below = λ i pair low at. absurd (omega arith); above = above }
      where
        above : (i : ℕ) (pair : Pair) → 0 ≤ i → slice_get (x ∷ pairs) i ≡ Some pair → key ≤ pair.key
        above zero pair high at = let same : x ≡ pair = cc in subst (λ (p : Pair). key ≤ p.key) same more
        above (suc i) pair high at = let low = rest i pair at in omega (arith, low)

-- ---- the next pair

-- an interval that isn't empty is cut out of pairs with increasing keys
cut_of : (pairs : List Pair) → IsStrictlyIncreasing (map (λ p. p.key) pairs) → (first last start : ℕ)
    → first ≤ last → CutsAt pairs first start
    → (high : ℕ) × CutsAt pairs (last + 1) high × IsCut pairs first (last + 1) start high
cut_of pairs rising first last start order c =
    let above = some_cut pairs (last + 1) (rise pairs rising) in
    (above.0, above.1, cut_is pairs first (last + 1) start above.0 (omega arith) c above.1)

-- a pair of a part, by its number there
pub get_part : (pairs : List Pair) (low high given : ℕ) → given < high - low
    → slice_get (slice_of pairs low high) given ≡ slice_get pairs (low + given)
get_part pairs low high given less = grind (arith, slice_get-take, slice_get-drop)

-- there is no pair after the end of a part
pub none_after : (pairs : List Pair) (low high given : ℕ) → high - low ≤ given
    → slice_get (slice_of pairs low high) given ≡ None
none_after pairs low high given more = grind (arith, length-take, slice_get_past)

module _ (pairs : List Pair) (rising : IsStrictlyIncreasing (map (λ p. p.key) pairs))
    (first last start given : ℕ) (c : CutsAt pairs first start) where
  -- no pair comes once the pairs of the interval were given
  none_within : ((high : ℕ) → CutsAt pairs (last + 1) high → high ≤ start + given)
      → slice_get (pairs_between first last pairs) given ≡ None
  none_within following = ⊎_elim
      (λ (less : last < first). ap (λ l. slice_get l given) (none_between pairs first last less))
      (λ (order : first ≤ last).
      (let cut = cut_of pairs rising first last start order c in
      let passed = following cut.0 cut.1 in ap (λ l. slice_get l given)
      (between_is pairs first last first (last + 1) start cut.0 refl refl cut.2)
      ∙ none_after pairs start cut.0 given (omega arith)))
      (cases_lt last first)

  -- a pair that isn't above the interval is the next one
  pub next_is : (x : Pair) → slice_get pairs (start + given) ≡ Some x → x.key ≤ last
      → slice_get (pairs_between first last pairs) given ≡ Some x
  next_is x at low = let from = c.above (start + given) x (omega arith) at in
      let cut = cut_of pairs rising first last start (omega (arith, from, low)) c in
      let less : given < cut.0 - start = ⊎_elim (λ (l : start + given < cut.0). omega arith)
      (λ (h : cut.0 ≤ start + given). (let more = cut.1.above (start + given) x h at in
      absurd (omega (arith, more, low)))) (cases_lt (start + given) cut.0) in
      ap (λ l. slice_get l given) (between_is pairs first last first (last + 1) start cut.0 refl refl cut.2)
      ∙ get_part pairs start cut.0 given less ∙ at

  -- if a pair is above the interval, no pair comes
  pub none_above : (x : Pair) → slice_get pairs (start + given) ≡ Some x → last < x.key
      → slice_get (pairs_between first last pairs) given ≡ None
  none_above x at over = grind (arith, none_within, cases_lt)

  -- if all pairs were given, no pair comes
  pub none_left : length pairs ≤ start + given
      → slice_get (pairs_between first last pairs) given ≡ None
  none_left all = none_within (λ high cut. (let within = cut.within in omega arith))

-- ---- walks

-- the pairs cut a walk that has begun
record HasBegunBy (pairs : List Pair) (w : WalkFace) : Type 0 where
  start : ℕ
  cut : CutsAt pairs w.first start
  next_is : w.next ≡ start + w.given

-- what comes next in a walk that has begun, by the pair whose number it has reached; stated of the
-- walk as it was, and of the pass before it looked
module _ (p q : PassFace) (shot : Frozen) (v w : WalkFace) (looked : HasOnlyLooked p q)
    (b : WalkHasBegun q w) (one : AreOneWalk v w) (given : w.given ≡ v.given) (its : v.shot ≡ shot)
    (pairs : List Pair) (before : ArePairsOf p shot pairs) where
  -- they are the pairs of the shot of the walk too
  its_pairs : ArePairsOf q w.shot pairs
  its_pairs = subst (λ s. ArePairsOf q s pairs) (sym (one.shot ∙ its)) (looked.pairs shot pairs before)

  -- the pairs that the walk was cut by
  these : HasBegunBy pairs w
  these = let same = one_pairs q w.shot b.pairs pairs b.has its_pairs in
      record { start = b.start; cut = subst (λ l. CutsAt l w.first b.start) same b.cut; next_is = b.next_is }

  as_it_was : slice_get (pairs_between w.first w.last pairs) w.given
      ≡ slice_get (pairs_between v.first v.last pairs) v.given
  as_it_was = grind arith

  -- the pair that was looked at is the one that the walk has reached
  reached : (u : WalkFace) (now : Frozen) (x : Pair) → u ≡ w → now ≡ shot
      → ((found : List Pair) → ArePairsOf q now found → slice_get found u.next ≡ Some x)
      → slice_get pairs (these.start + w.given) ≡ Some x
  reached u now x is same at = grind arith

  -- if the pair is in the interval, it is the next one
  pub comes : (u : WalkFace) (now : Frozen) (x : Pair) → u ≡ w → now ≡ shot
      → ((found : List Pair) → ArePairsOf q now found → slice_get found u.next ≡ Some x)
      → x.key ≤ u.last → Some x ≡ slice_get (pairs_between v.first v.last pairs) v.given
  comes u now x is same at low =
      sym (next_is pairs its_pairs.rising w.first w.last these.start w.given these.cut x
      (reached u now x is same at) (subst (λ v. x.key ≤ v.last) is low)) ∙ as_it_was

  -- if the pair is above the interval, no pair comes next
  pub ends_above : (u : WalkFace) (now : Frozen) (x : Pair) → u ≡ w → now ≡ shot
      → ((found : List Pair) → ArePairsOf q now found → slice_get found u.next ≡ Some x)
      → u.last < x.key → None ≡ slice_get (pairs_between v.first v.last pairs) v.given
  ends_above u now x is same at over =
      sym (none_above pairs its_pairs.rising w.first w.last these.start w.given these.cut x
      (reached u now x is same at) (subst (λ v. v.last < x.key) is over)) ∙ as_it_was

  -- if all pairs were given, no pair comes next
  pub ends_with_all : (u : WalkFace) (now : Frozen) → u ≡ w → now ≡ shot → now.keys ≤ u.next
      → None ≡ slice_get (pairs_between v.first v.last pairs) v.given
  ends_with_all u now is same all = let long = before.number in
      let keys : now.keys ≡ shot.keys = ap (λ s. s.keys) same in
      let next : u.next ≡ these.start + w.given = ap (λ v. v.next) is ∙ these.next_is in
      sym (none_left pairs its_pairs.rising w.first w.last these.start w.given these.cut (omega arith))
      ∙ as_it_was
