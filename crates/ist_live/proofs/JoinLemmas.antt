-- Two lists of neighbouring keys, read one after the other, are one list. Serves whoever reads in pieces.
use Rattle.std.proofs.Common.{◌≡◌, ℕ, ◌<◌, ◌≤◌, List, Option, Some, None, ⊎_elim, inl, inr, sym, ap, ◌∙◌, subst, arith, suc, ◌+◌, ◌-◌, ◌==◌, if◌then◌else◌, [], ◌∷◌, ◌++◌, map, get_or, refl, append-nil, append_assoc}
use Rattle.ist_core.specs.declared.pairs.Pair.{Pair}
use Rattle.ist_core.specs.LogTerms.{Among, Each}
use Rattle.ist_core.proofs.AllWordLemmas.{among-append, each-among, each_append}
use Rattle.ist_tree.specs.CallTerms.{PassFace}
use Rattle.ist_find.specs.Sweeps.{one_of}
use Rattle.ist_live.specs.Reading.{HasOnlyRead, HadSince, Had}
use Rattle.ist_live.specs.Lists.{HadInTurn, value_among, AreLive, AreInTurn}
use Rattle.ist_live.proofs.SlotLemmas.{HasReadKeysOfSlot, SweepsUp, none_up, later_up, slot_up}
use Rattle.ist_live.proofs.ReadLemmas.{read_more, since_before, since_after, had_before, had_after, had_since}
use Rattle.ist_live.proofs.ListLemmas.{all_swept, other_first, each_higher, rises_on}
use Rattle.ist_live.proofs.EndLemmas.{own_key}
use Rattle.std.proofs.lemmas.Bool.{cases_lt}
use Rattle.std.proofs.lemmas.Bool.Decides.{eqb_tells}
use Rattle.std.specs.List.Sorted.{IsStrictlyIncreasing}

-- ---- of two pairs that were read upwards, the greater was read later. Serves `lists`.

-- a span has one pair at most
one_same : (pair : Option Pair) (x y : Pair) → Among x (one_of pair) → Among y (one_of pair) → x ≡ y
one_same (Some z) x y (inl a) (inl b) = a ∙ sym b
one_same (Some z) x y (inl a) (inr b) = absurd b
one_same (Some z) x y (inr a) b = absurd a
one_same None x y a b = absurd a

-- which was in the map at a position of its search
span_had : (p m q : PassFace) (from following : ℕ) (pair : Option Pair)
    → HasReadKeysOfSlot p m q from following pair → (x : Pair) → Among x (one_of pair)
    → (from ≤ x.key) × HadSince m q x.key (Some x.value)
span_had p m q from following (Some y) s x (inl e) =
    subst (λ z. (from ≤ z.key) × HadSince m q z.key (Some z.value)) (sym e)
    (s.within.0, subst (HadSince m q y.key) (own_key y) (s.since y.key s.within.0 s.within.1))
span_had p m q from following (Some y) s x (inr a) = absurd a
span_had p m q from following None s x a = absurd a

-- both were in turn at a later moment too
pub turn_later : (p m q : PassFace) (x y : Pair) → HasOnlyRead m q → HadInTurn p m x y → HadInTurn p q x y
turn_later p m q x y r t = grind (arith, read_more, since_after)

module _ (p : PassFace) (first : ℕ) where
  -- each pair that was read was in the map at a position
  pair_had : (q : PassFace) (following : ℕ) (pairs : List Pair) → SweepsUp p first q following pairs
      → (x : Pair) → Among x pairs → HadSince p q x.key (Some x.value)
  pair_had _ _ _ none_up x a = absurd a
  pair_had q following pairs (later_up {m = m} s r) x a =
      since_after p m q r x.key (Some x.value) (pair_had m following pairs s x a)
  pair_had q following _ (slot_up {m = m} {from = from} {pairs = pairs} pair r s) x a = ⊎_elim
      (λ b. since_after p m q s.read x.key (Some x.value) (pair_had m from pairs r x b))
      (λ b. since_before p m q (all_swept p first m from pairs r).read x.key (Some x.value)
      (span_had p m q from following pair s x b).1)
      (among-append x pairs (one_of pair) a)

  -- and the greater of two at no earlier one
  pub in_turn : (q : PassFace) (following : ℕ) (pairs : List Pair) → SweepsUp p first q following pairs
      → (x y : Pair) → Among x pairs → Among y pairs → x.key < y.key → HadInTurn p q x y
  in_turn _ _ _ none_up x y a b less = absurd a
  in_turn q following pairs (later_up {m = m} s r) x y a b less =
      turn_later p m q x y r (in_turn m following pairs s x y a b less)
  in_turn q following _ (slot_up {m = m} {from = from} {pairs = pairs} pair r s) x y a b less =
      ⊎_elim
      (λ c. ⊎_elim (λ d. both_old (in_turn m from pairs r x y c d less)) (λ d. new_and_old c d) (among-append y pairs (one_of pair) b))
      (λ c. ⊎_elim (λ d. absurd (wrong_way c d))
      (λ d. let same = ap (λ (z : Pair). z.key) (one_same pair x y c d) in absurd (omega arith))
      (among-append y pairs (one_of pair) b))
      (among-append x pairs (one_of pair) a)
    where
      both_old : HadInTurn p m x y → HadInTurn p q x y
      both_old = turn_later p m q x y s.read

      new_and_old : Among x pairs → Among y (one_of pair) → HadInTurn p q x y
      new_and_old c d = record {
        between = m;
        before = (all_swept p first m from pairs r).read;
        after = s.read;
        one_had = pair_had m from pairs r x c;
        other_had = (span_had p m q from following pair s y d).1;
      }

      wrong_way : Among x (one_of pair) → Among y pairs → ⊥
      wrong_way c d = grind (arith, span_had, each-among, all_swept)

-- ---- keys that rise

abbrev keys : List Pair → List ℕ
keys pairs = map (λ (p : Pair). p.key) pairs

-- what holds of each pair, by its key
each_by : (P Q : ℕ → Type 0) → ((k : ℕ) → P k → Q k) → (pairs : List Pair) → Each (λ p. P p.key) pairs
    → Each (λ p. Q p.key) pairs
each_by P Q f [] h = tt
each_by P Q f (p ∷ pairs) h = (f p.key h.0, each_by P Q f pairs h.1)

-- the keys after the first one rise
tail_rises : (x : Pair) (pairs : List Pair) → IsStrictlyIncreasing (keys (x ∷ pairs))
    → IsStrictlyIncreasing (keys pairs)
tail_rises x pairs h k less = let place : suc k + 1 ≡ suc (k + 1) = omega arith in
    subst (λ n. get_or (keys pairs) k 0 < get_or (keys (x ∷ pairs)) n 0) place (h (suc k) (omega arith))

-- and lie above it
tail_above : (x : Pair) (pairs : List Pair) → IsStrictlyIncreasing (keys (x ∷ pairs))
    → Each (λ p. x.key < p.key) pairs
tail_above x [] h = tt
tail_above x (y ∷ pairs) h =
    let up : x.key < y.key = h 0 (omega arith) in (
      up,
      each_by (λ k. y.key < k) (λ k. x.key < k) (λ k more. omega arith) pairs
          (tail_above y pairs (tail_rises x (y ∷ pairs) h)),
    )

-- keys that rise below another one, and keys that rise from it on, rise together
joined_rise : (ys xs : List Pair) (from : ℕ) → IsStrictlyIncreasing (keys xs) → Each (λ p. p.key < from) xs
    → IsStrictlyIncreasing (keys ys) → Each (λ p. from ≤ p.key) ys → IsStrictlyIncreasing (keys (xs ++ ys))
joined_rise [] xs from a low b high = subst (λ ps. IsStrictlyIncreasing (keys ps)) (sym (append-nil xs)) a
joined_rise (y ∷ ys) xs from a low b high = let least = high.0 in
    subst (λ ps. IsStrictlyIncreasing (keys ps)) (append_assoc xs (y ∷ []) ys)
    (joined_rise ys (xs ++ y ∷ []) (y.key + 1) (rises_on xs y from low least a)
    (each_append (λ p. p.key < y.key + 1) xs (y ∷ [])
    (each_higher xs from (y.key + 1) (omega arith) low) (omega arith, tt))
    (tail_rises y ys b)
    (each_by (λ k. y.key < k) (λ k. y.key + 1 ≤ k) (λ k more. omega arith) ys (tail_above y ys b)))

-- ---- what they give a key

-- pairs above a key give it nothing
among_over : (pairs : List Pair) (from k : ℕ) → Each (λ p. from ≤ p.key) pairs → k < from
    → value_among pairs k ≡ None
among_over [] from k high h = refl
among_over (p ∷ pairs) from k high h = let more = high.0 in
    other_first p pairs k (λ e. omega arith) ∙ among_over pairs from k high.1 h

-- so below them the others decide
among_left : (xs ys : List Pair) (from k : ℕ) → Each (λ p. from ≤ p.key) ys → k < from
    → value_among (xs ++ ys) k ≡ value_among xs k
among_left [] ys from k high h = among_over ys from k high h
among_left (x ∷ xs) ys from k high h =
    ap (λ o. if x.key == k then Some x.value else o) (among_left xs ys from k high h)

-- and from there on they do
among_right : (xs ys : List Pair) (from k : ℕ) → Each (λ p. p.key < from) xs → from ≤ k
    → value_among (xs ++ ys) k ≡ value_among ys k
among_right [] ys from k low h = refl
among_right (x ∷ xs) ys from k low h = let less = low.0 in
    other_first x (xs ++ ys) k (λ e. omega arith) ∙ among_right xs ys from k low.1 h

-- a pair of a list whose keys rise is what the list gives its key
among_own : (pairs : List Pair) (x : Pair) → IsStrictlyIncreasing (keys pairs) → Among x pairs
    → value_among pairs x.key ≡ Some x.value
among_own [] x rise a = absurd a
among_own (y ∷ pairs) x rise (inl e) = grind (arith, eqb_tells)
among_own (y ∷ pairs) x rise (inr a) =
    let up = each-among (λ (p : Pair). y.key < p.key) x pairs (tail_above y pairs rise) a in
    other_first y pairs x.key (λ e. omega arith) ∙ among_own pairs x (tail_rises y pairs rise) a

-- ---- two lists

-- a pair of a live list was in the map at a position
live_had : (p q : PassFace) (first last : ℕ) (pairs : List Pair) → AreLive p q first last pairs → (x : Pair)
    → Among x pairs → Had p q x.key (Some x.value)
live_had p q first last pairs h x a = grind (arith, each-among, among_own)

module _ (p m q : PassFace) (first from last : ℕ) (xs ys : List Pair) (r : HasOnlyRead p m) (s : HasOnlyRead m q)
    (low : first < from) (high : from ≤ last) (a : AreLive p m first (from - 1) xs)
    (b : AreLive m q from last ys) where
  below : Each (λ x. x.key < from) xs
  below = under xs a.within
    where
      under : (zs : List Pair) → Each (λ z. (first ≤ z.key) × (z.key ≤ from - 1)) zs → Each (λ z. z.key < from) zs
      under [] h = tt
      under (z ∷ zs) h = let most = h.0.1 in (omega arith, under zs h.1)

  above : Each (λ y. from ≤ y.key) ys
  above = over ys b.within
    where
      over : (zs : List Pair) → Each (λ z. (from ≤ z.key) × (z.key ≤ last)) zs → Each (λ z. from ≤ z.key) zs
      over [] h = tt
      over (z ∷ zs) h = (h.0.0, over zs h.1)

  -- the pairs of two neighbouring ranges, read one after the other, are those of both
  pub live_join : AreLive p q first last (xs ++ ys)
  live_join = record {
    rise = joined_rise ys xs from a.rise below b.rise above;
    within = each_append (λ z. (first ≤ z.key) × (z.key ≤ last)) xs ys (wider xs a.within)
        (wide ys b.within);
    values = λ k least most. ⊎_elim
        (λ (l : k < from). subst (Had p q k) (sym (among_left xs ys from k above l))
        (had_after p m q s k (value_among xs k) (a.values k least (omega arith))))
        (λ (l : from ≤ k). subst (Had p q k) (sym (among_right xs ys from k below l))
        (had_before p m q r k (value_among ys k) (b.values k l most)))
        (cases_lt k from);
  }
    where
      wider : (zs : List Pair) → Each (λ z. (first ≤ z.key) × (z.key ≤ from - 1)) zs
          → Each (λ z. (first ≤ z.key) × (z.key ≤ last)) zs
      wider [] h = tt
      wider (z ∷ zs) h = let most = h.0.1 in ((h.0.0, omega arith), wider zs h.1)

      wide : (zs : List Pair) → Each (λ z. (from ≤ z.key) × (z.key ≤ last)) zs
          → Each (λ z. (first ≤ z.key) × (z.key ≤ last)) zs
      wide [] h = tt
      wide (z ∷ zs) h = let least = h.0.0 in ((omega arith, h.0.1), wide zs h.1)

  -- and time never goes back along all of them
  pub turn_join : AreInTurn p m xs → AreInTurn m q ys → AreInTurn p q (xs ++ ys)
  turn_join c d x y i j less = ⊎_elim
      (λ e. ⊎_elim (λ f. turn_later p m q x y s (c x y e f less)) (λ f. both e f) (among-append y xs ys j))
      (λ e. ⊎_elim (λ f. absurd (wrong_way e f)) (λ f. earlier (d x y e f less)) (among-append y xs ys j))
      (among-append x xs ys i)
    where
      both : Among x xs → Among y ys → HadInTurn p q x y
      both e f = grind (arith, had_since, live_had)

      earlier : HadInTurn m q x y → HadInTurn p q x y
      earlier t = record {
        between = t.between;
        before = read_more p m t.between r t.before;
        after = t.after;
        one_had = since_before p m t.between r x.key (Some x.value) t.one_had;
        other_had = t.other_had;
      }

      wrong_way : Among x ys → Among y xs → ⊥
      wrong_way e f = grind (arith, each-among, above, below)
