-- Which pairs of an interval some slots give, slot by slot. Serves `listing.list_words`.
use Rattle.std.proofs.Common.{◌≡◌, ℕ, zero, suc, ◌+◌, ◌-◌, ◌<◌, ◌≤◌, ◌⊎◌, nat_le, true, false, List, [], ◌∷◌, ◌++◌, map, take, drop, Some, refl, sym, ap, ◌∙◌, subst, inl, inr, arith}
use Rattle.std.proofs.lemmas.Bool.Decides.{leb_tells}
use Rattle.std.proofs.lemmas.List.{append_assoc, append-nil}
use Rattle.ist_core.specs.declared.pairs.Pair.{Pair}
use Rattle.ist_core.specs.WordTerms.{child_count, Ref, Empty, Unset, LeafAt, InnerAt, ChangeAt, RebuildAt}
use Rattle.ist_core.specs.TreeTerms.{pairs_between}
use Rattle.ist_core.specs.LogTerms.{Each}
use Rattle.ist_rest.specs.declared.slots.SlotLeft.{SlotLeft}
use Rattle.ist_rest.specs.WordRows.{Span, reads_in}
use Rattle.ist_rest.specs.Walks.{Way, Visit, LeadsBy, IsGood, pairs_read, visits_from, visits_below, Walks, ends, goes_on}
use Rattle.ist_rest.specs.Steps.{slot_of, GiveBetween, no_slot, one_slot, slots_between, pairs_at, IsGoodSlot}
use Rattle.ist_rest.proofs.WalkLemmas.{IsSplit, split, all_lie}
use Rattle.ist_rest.proofs.PublishedLemmas.{none_low, none_high, between-append}

module _ (words : List ℕ) (first last : ℕ) where
  -- no slot gives no pair
  no_walk : (rows : List Span) (pairs : List Pair) (zs : List Visit) → zs ≡ []
      → Walks words zs rows pairs → pairs ≡ []
  no_walk _ _ _ e ends = refl
  no_walk _ _ _ e (goes_on at w) = absurd (cc)

  -- the slots of a row from number i on, of those between two numbers
  abbrev part : ℕ → ℕ → ℕ → ℕ → List ℕ → List SlotLeft
  part base i from to slots = map (λ word. record { word = word; node = base })
      (take (to - i - (from - i)) (drop (from - i) slots))

  drop_nil : (n : ℕ) → drop {A = ℕ} n [] ≡ []
  drop_nil zero = refl
  drop_nil (suc n) = refl

  take_nil : (n : ℕ) → take {A = ℕ} n [] ≡ []
  take_nil zero = refl
  take_nil (suc n) = refl

  part_nil : (base i from to : ℕ) → part base i from to [] ≡ []
  part_nil base i from to = grind (arith, drop_nil, take_nil)

  -- a slot before the part is skipped
  part_skip : (base i from to word : ℕ) (ws : List ℕ) → i < from
      → part base i from to (word ∷ ws) ≡ part base (i + 1) from to ws
  part_skip base i from to word ws h = grind arith

  part_past : (base i from to : ℕ) (ws : List ℕ) → to ≤ i → part base i from to ws ≡ []
  part_past base i from to ws h = grind arith

  -- one of those
  part_take : (base i from to word : ℕ) (ws : List ℕ) → from ≤ i → i < to
      → part base i from to (word ∷ ws) ≡ record { word = word; node = base } ∷ part base (i + 1)
      from to ws
  part_take base i from to word ws h l = grind arith

  -- one slot more
  between_more : (base : ℕ) (ways : List Way) (keys : List ℕ) (i place word : ℕ) (ws : List ℕ)
      (rows : List Span) (pairs : List Pair)
      → (it : IsSplit words (record {
        place = place;
        word = word;
        node = base;
        ways = record { keys = keys; index = i } ∷ ways;
      } ∷ []) (visits_from base ways keys (i + 1)
      (place + 1) ws) rows pairs)
      → GiveBetween words first last (part base (i + 1) (child_count keys first)
      (child_count keys last + 1) ws) (pairs_between first last it.there)
      → GiveBetween words first last (part base i (child_count keys first)
      (child_count keys last + 1) (word ∷ ws)) (pairs_between first last pairs)
  between_more base ways keys i place word ws rows pairs it more =
      at (leb_tells (child_count keys first) i) (leb_tells (child_count keys last + 1) i)
    where
      visit : Visit
      visit = record {
        place = place;
        word = word;
        node = base;
        ways = record { keys = keys; index = i } ∷ ways;
      }

      lie : Each (λ pair. LeadsBy pair.key record { keys = keys; index = i }) it.here
      lie = all_lie words record { keys = keys; index = i } (visit ∷ []) it.rows_here it.here
          it.first (inl refl, tt)

      both : pairs_between first last pairs ≡ pairs_between first last it.here ++ pairs_between
          first last it.there
      both = ap (pairs_between first last) it.pairs_are ∙ between-append first last it.here it.there

      skip : pairs_between first last it.here ≡ []
          → part base i (child_count keys first) (child_count keys last + 1) (word ∷ ws) ≡ part
          base (i + 1) (child_count keys first) (child_count keys last + 1) ws
          → GiveBetween words first last (part base i (child_count keys first)
          (child_count keys last + 1) (word ∷ ws)) (pairs_between first last pairs)
      skip none same = grind (arith, both)

      at : ((nat_le (child_count keys first) i ≡ true) × (child_count keys first ≤ i)) ⊎
          ((nat_le (child_count keys first) i ≡ false) × (i < child_count keys first))
          → ((nat_le (child_count keys last + 1) i ≡ true) × (child_count keys last + 1 ≤ i)) ⊎
          ((nat_le (child_count keys last + 1) i ≡ false) × (i < child_count keys last + 1))
          → GiveBetween words first last (part base i (child_count keys first)
          (child_count keys last + 1) (word ∷ ws)) (pairs_between first last pairs)
      at (inr low) high = grind (arith, skip, none_low, lie, part_skip)
      at (inl low) (inl high) = grind (arith, skip, none_high, lie, part_past)
      at (inl low) (inr high) =
          subst (λ ss. GiveBetween words first last ss (pairs_between first last pairs))
          (sym (part_take base i (child_count keys first) (child_count keys last + 1) word ws
          low.1 high.1))
          (subst (λ ps. GiveBetween words first last (record { word = word; node = base } ∷ part
          base (i + 1) (child_count keys first) (child_count keys last + 1) ws) ps) (sym both)
          (one_slot visit it.first more))

  -- what the slots of a row give from number i on
  between_give : (base : ℕ) (ways : List Way) (keys : List ℕ) (i place : ℕ) (slots : List ℕ)
      (rows : List Span) (pairs : List Pair)
      → Walks words (visits_from base ways keys i place slots) rows pairs
      → GiveBetween words first last (part base i (child_count keys first)
      (child_count keys last + 1) slots) (pairs_between first last pairs)
  between_give base ways keys i place [] rows pairs w =
      subst (λ ss. GiveBetween words first last ss (pairs_between first last pairs))
      (sym (part_nil base i (child_count keys first) (child_count keys last + 1)))
      (subst (λ ps. GiveBetween words first last [] (pairs_between first last ps))
      (sym (no_walk rows pairs [] refl w)) no_slot)
  between_give base ways keys i place (word ∷ ws) rows pairs w =
      let it = split words (visits_from base ways keys i place (word ∷ ws)) rows pairs w
      (record {
        place = place;
        word = word;
        node = base;
        ways = record { keys = keys; index = i } ∷ ways;
      } ∷ []) (visits_from base ways keys (i + 1)
      (place + 1) ws) refl in
      between_more base ways keys i place word ws rows pairs it
      (between_give base ways keys (i + 1) (place + 1) ws it.rows_there it.there it.second)

  -- ---- one slot of those that are left

  gives_append : (xs : List SlotLeft) (ps : List Pair) → GiveBetween words first last xs ps
      → (ys : List SlotLeft) (qs : List Pair) → GiveBetween words first last ys qs
      → GiveBetween words first last (xs ++ ys) (ps ++ qs)
  gives_append _ _ no_slot ys qs h = h
  gives_append _ _ (one_slot {slots = slots} {pairs = pairs} {rest = rest} visit w more) ys qs h =
      subst (λ rs. GiveBetween words first last (slot_of visit ∷ (slots ++ ys)) rs)
      (sym (append_assoc (pairs_between first last pairs) rest qs))
      (one_slot visit w (gives_append slots rest more ys qs h))

  -- a walk from one slot
  record IsWalkedFrom (visit : Visit) (pairs : List Pair) : Type 0 where
    good : IsGood words visit
    rows : List Span
    more : List Pair
    walk : Walks words (visits_below words visit good.ref) rows more
    pairs_are : pairs ≡ pairs_read words good.ref ++ more

  opened : (zs : List Visit) (rows : List Span) (pairs : List Pair) → Walks words zs rows pairs
      → (visit : Visit) → zs ≡ visit ∷ [] → IsWalkedFrom visit pairs
  opened _ _ _ ends visit e = absurd (cc)
  opened _ _ _ (goes_on {visit = x} {visits = xs} {rows = rows} {pairs = pairs} at w) visit e =
      let same : x ≡ visit = cc in let none : xs ≡ [] = cc in
      subst (λ v. IsWalkedFrom v (pairs_read words at.ref ++ pairs)) same
      record {
        good = at;
        rows = rows;
        more = pairs;
        walk = subst (λ vs. Walks words vs rows pairs)
            (ap (λ vs. visits_below words x at.ref ++ vs) none
            ∙ append-nil (visits_below words x at.ref)) w;
        pairs_are = refl;
      }

  -- what the slots below give
  below_gives : (visit : Visit) (ref : Ref) (rows : List Span) (pairs : List Pair)
      → Walks words (visits_below words visit ref) rows pairs
      → GiveBetween words first last (slots_between words first last (Some ref))
      (pairs_between first last pairs)
  below_gives visit (InnerAt base) rows pairs w = grind (arith, between_give)
  below_gives visit Empty rows pairs w =
      subst (λ ps. GiveBetween words first last [] (pairs_between first last ps))
      (sym (no_walk rows pairs [] refl w)) no_slot
  below_gives visit Unset rows pairs w =
      subst (λ ps. GiveBetween words first last [] (pairs_between first last ps))
      (sym (no_walk rows pairs [] refl w)) no_slot
  below_gives visit (LeafAt base) rows pairs w =
      subst (λ ps. GiveBetween words first last [] (pairs_between first last ps))
      (sym (no_walk rows pairs [] refl w)) no_slot
  below_gives visit (ChangeAt base) rows pairs w =
      subst (λ ps. GiveBetween words first last [] (pairs_between first last ps))
      (sym (no_walk rows pairs [] refl w)) no_slot
  below_gives visit (RebuildAt base) rows pairs w =
      subst (λ ps. GiveBetween words first last [] (pairs_between first last ps))
      (sym (no_walk rows pairs [] refl w)) no_slot

  -- the slot is visited: what is found there, and what is left
  pub record IsVisited (slot : SlotLeft) (slots : List SlotLeft) (pairs : List Pair) : Type 0 where
    pub good : IsGoodSlot words slot
    pub rest : List Pair
    pub gives : GiveBetween words first last
        (slots_between words first last (reads_in words slot.word) ++ slots) rest
    pub pairs_are : pairs ≡ pairs_at words first last (reads_in words slot.word) ++ rest

  -- the pairs that some slots give are those of the first slot, and then those of the others
  pub visited : (zs : List SlotLeft) (pairs : List Pair) → GiveBetween words first last zs pairs
      → (slot : SlotLeft) (slots : List SlotLeft) → zs ≡ slot ∷ slots → IsVisited slot slots pairs
  visited _ _ no_slot slot slots e = absurd (cc)
  visited _ _ (one_slot {slots = xs} {rows = rows} {pairs = pairs} {rest = rest} visit w more)
      slot slots e =
      let same : slot_of visit ≡ slot = cc in let others : xs ≡ slots = cc in
      let it = opened (visit ∷ []) rows pairs w visit refl in
      let reads : Some it.good.ref ≡ reads_in words visit.word = sym it.good.reads.is in
      let gives = gives_append (slots_between words first last (Some it.good.ref))
      (pairs_between first last it.more) (below_gives visit it.good.ref it.rows it.more
      it.walk) xs rest more in
      let here : IsVisited (slot_of visit) xs (pairs_between first last pairs ++ rest) = record {
        good = record { visit = visit; slot_is = refl; good = it.good };
        rest = pairs_between first last it.more ++ rest;
        gives = subst (λ o. GiveBetween words first last (slots_between words first last o ++ xs)
            (pairs_between first last it.more ++ rest)) reads gives;
        pairs_are = ap (λ ps. pairs_between first last ps ++ rest) it.pairs_are
            ∙ ap (λ ps. ps ++ rest) (between-append first last (pairs_read words it.good.ref)
            it.more)
            ∙ append_assoc (pairs_between first last (pairs_read words it.good.ref))
            (pairs_between first last it.more) rest
            ∙ ap (λ o. pairs_at words first last o ++ (pairs_between first last it.more ++ rest))
            reads;
      } in
      subst (λ s. IsVisited s slots (pairs_between first last pairs ++ rest)) same
      (subst (λ ss. IsVisited (slot_of visit) ss (pairs_between first last pairs ++ rest))
      others here)
