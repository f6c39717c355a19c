-- Words that agree at each place hold the same. Serves `laws.zeros_change_nothing`.
use Rattle.std.proofs.Common.{◌≡◌, ℕ, ◌+◌, ◌≤◌, List, [], ◌∷◌, ◌++◌, slice_range, Option, Some, None, refl, sym, ap, ◌∙◌, subst, arith}
use Rattle.ist_core.specs.declared.pairs.Pair.{Pair}
use Rattle.ist_core.specs.WordTerms.{next_place, Ref, Empty, Unset, LeafAt, InnerAt, ChangeAt, RebuildAt, ref_of}
use Rattle.ist_core.specs.LogTerms.{Each}
use Rattle.ist_rest.specs.WordRows.{word_at, row_degree, row_keys, row_slots, side_in, past_change_in, past_rebuild_in, reads_in, rows_on, change_on, rebuild_on, Span, IsWithinUsed}
use Rattle.ist_rest.specs.Walks.{Visit, HasDecision, IsGoodRow, IsGoodAs, IsGood, row_read, rows_read, pairs_read, visits_below, Walks, ends, goes_on, AreApart}
use Rattle.ist_rest.specs.RestingWords.{read_on, BreaksFirstAt, breaks, later}

-- the words agree at each place, and in each range that is in use
pub record AreAlike (a b : List ℕ) : Type 0 where
  -- the words at a place are equal, and those beyond an end count as 0
  pub same : (place : ℕ) → word_at a place ≡ word_at b place
  -- ranges that end at the first free word or before are equal
  pub range : (from to : ℕ) → to ≤ word_at a next_place → slice_range a from to ≡ slice_range b
      from to

-- words that agree also agree the other way round
pub flip : (a b : List ℕ) → AreAlike a b → AreAlike b a
flip a b h = grind arith

module _ (a b : List ℕ) (h : AreAlike a b) where
  side_same : (base : ℕ) → side_in a base ≡ side_in b base
  side_same base = grind arith

  change_same : (o : Option Ref) → past_change_in a o ≡ past_change_in b o
  change_same None = refl
  change_same (Some Empty) = refl
  change_same (Some Unset) = refl
  change_same (Some (LeafAt base)) = refl
  change_same (Some (InnerAt base)) = refl
  change_same (Some (ChangeAt base)) = ap ref_of (side_same base)
  change_same (Some (RebuildAt base)) = refl

  rebuild_same : (o : Option Ref) → past_rebuild_in a o ≡ past_rebuild_in b o
  rebuild_same None = refl
  rebuild_same (Some Empty) = refl
  rebuild_same (Some Unset) = refl
  rebuild_same (Some (LeafAt base)) = refl
  rebuild_same (Some (InnerAt base)) = refl
  rebuild_same (Some (ChangeAt base)) = refl
  rebuild_same (Some (RebuildAt base)) = ap (λ target. Some (InnerAt target)) (h.same base)

  reads_same : (word : ℕ) → reads_in a word ≡ reads_in b word
  reads_same word = grind (arith, rebuild_same, change_same)

  on_same : (o : Option Ref) → rows_on a o ≡ rows_on b o
  on_same o = ap (λ x. change_on o ++ rebuild_on x) (change_same o)

  decision_same : (o : Option Ref) → HasDecision a o → HasDecision b o
  decision_same None d = tt
  decision_same (Some Empty) d = tt
  decision_same (Some Unset) d = tt
  decision_same (Some (LeafAt base)) d = tt
  decision_same (Some (InnerAt base)) d = tt
  decision_same (Some (ChangeAt base)) d = let e = h.same base in omega arith
  decision_same (Some (RebuildAt base)) d = tt

  within_same : (span : Span) → IsWithinUsed a span → IsWithinUsed b span
  within_same span w = grind arith

  all_within : (spans : List Span) → Each (IsWithinUsed a) spans → Each (IsWithinUsed b) spans
  all_within [] w = tt
  all_within (span ∷ spans) w = (within_same span w.0, all_within spans w.1)

  degree_same : (base : ℕ) → row_degree a base ≡ row_degree b base
  degree_same base = h.same (base + 2)

  keys_same : (visit : Visit) (base : ℕ) → IsGoodRow a visit.node base
      → row_keys a base ≡ row_keys b base
  keys_same visit base g = grind (arith, degree_same)

  slots_same : (visit : Visit) (base : ℕ) → IsGoodRow a visit.node base
      → row_slots a base ≡ row_slots b base
  slots_same visit base g = grind (arith, degree_same)

  good_same : (visit : Visit) (ref : Ref) → IsGoodAs a visit ref → IsGoodAs b visit ref
  good_same visit Empty g = tt
  good_same visit Unset g = g
  good_same visit (LeafAt base) g = grind (arith, within_same)
  good_same visit (InnerAt base) g = grind (arith, degree_same, keys_same)
  good_same visit (ChangeAt base) g = g
  good_same visit (RebuildAt base) g = g

  abbrev shape_same : (visit : Visit) (at : IsGood a visit) → IsGood b visit
  shape_same visit at = record {
    ref = at.ref;
    reads = record {
      decision = decision_same (ref_of visit.word) at.reads.decision;
      through = subst (Each (IsWithinUsed b)) (on_same (ref_of visit.word))
          (all_within (rows_on a (ref_of visit.word)) at.reads.through);
      is = sym (reads_same visit.word) ∙ at.reads.is;
    };
    good = good_same visit at.ref at.good;
  }

  read_same : (ref : Ref) → row_read a ref ≡ row_read b ref
  read_same (InnerAt base) = grind (arith, degree_same)
  read_same Empty = refl
  read_same Unset = refl
  read_same (LeafAt base) = refl
  read_same (ChangeAt base) = refl
  read_same (RebuildAt base) = refl

  -- words that agree have the same rows at a slot
  pub rows_same : (visit : Visit) (ref : Ref) → rows_read a visit ref ≡ rows_read b visit ref
  rows_same visit ref = grind (arith, on_same, read_same)

  pairs_same : (ref : Ref) → pairs_read a ref ≡ pairs_read b ref
  pairs_same (LeafAt base) = grind arith
  pairs_same Empty = refl
  pairs_same Unset = refl
  pairs_same (InnerAt base) = refl
  pairs_same (ChangeAt base) = refl
  pairs_same (RebuildAt base) = refl

  -- words that agree have the same slots below a slot in good shape
  pub below_same : (visit : Visit) (ref : Ref) → IsGoodAs a visit ref → visits_below a visit
      ref ≡ visits_below b visit ref
  below_same visit (InnerAt base) g = grind (arith, keys_same, degree_same, slots_same)
  below_same visit Empty g = refl
  below_same visit Unset g = refl
  below_same visit (LeafAt base) g = refl
  below_same visit (ChangeAt base) g = refl
  below_same visit (RebuildAt base) g = refl

  -- a walk over some words is a walk over words that agree with them
  pub walk_same : (zs : List Visit) (rows : List Span) (pairs : List Pair) → Walks a zs rows pairs
      → Walks b zs rows pairs
  walk_same _ _ _ ends = ends
  walk_same _ _ _ (goes_on {visit = visit} {visits = visits} {rows = rows} {pairs = pairs} at w) =
      let on = subst (λ vs. Walks b (vs ++ visits) rows pairs) (below_same visit at.ref at.good)
      (walk_same (visits_below a visit at.ref ++ visits) rows pairs w) in
      subst (λ rs. Walks b (visit ∷ visits) (rs ++ rows) (pairs_read a at.ref ++ pairs))
      (sym (rows_same visit at.ref))
      (subst (λ ps. Walks b (visit ∷ visits) (rows_read b visit at.ref ++ rows) (ps ++ pairs))
      (sym (pairs_same at.ref)) (goes_on (shape_same visit at) on))

-- words that agree break at the same place
pub break_same : (a b : List ℕ) → AreAlike a b → (seen : List Span) (zs : List Visit) (place : ℕ)
    → BreaksFirstAt a seen zs place → BreaksFirstAt b seen zs place
break_same a b h seen _ _ (breaks {visit = visit} not) =
    breaks (λ at apart. not (shape_same b a (flip a b h) visit at)
    (subst (AreApart seen) (rows_same b a (flip a b h) visit at.ref) apart))
break_same a b h seen _ place (later {visit = visit} {visits = visits} at so on) =
    let r = rows_same a b h visit at.ref in
    later (shape_same a b h visit at) (subst (AreApart seen) r so)
    (subst (λ rs. BreaksFirstAt b (read_on seen rs) (visits_below b visit at.ref ++ visits) place) r
    (subst (λ vs. BreaksFirstAt b (read_on seen (rows_read a visit at.ref)) (vs ++ visits) place)
    (below_same a b h visit at.ref at.good)
    (break_same a b h (read_on seen (rows_read a visit at.ref))
    (visits_below a visit at.ref ++ visits) place on)))
