-- Slots that were passed and counted. Serves `finish` and `mark_and_count`.
use Rattle.std.proofs.Common.{◌≡◌, ℕ, suc, ◌+◌, ◌*◌, ◌≤◌, List, [], ◌∷◌, length, get_or, drop, Option, refl, sym, ap, ap₂, subst, add_assoc, arith}
use Rattle.std.proofs.Math.Seq.{drop-cons}
use Rattle.ist_core.specs.declared.pairs.Pair.{Pair}
use Rattle.ist_core.specs.WordTerms.{place_limit, Ref, ref_of, start}
use Rattle.ist_core.specs.LogTerms.{Snapshot, Log, EachEnabled, CanOpen, state_of}
use Rattle.ist_core.specs.TreeTerms.{HasTarget, CountsFor, no_key, one_key, of_child, of_target, ArePassed, past_end, one_passed}
use Rattle.ist_core.proofs.AllLogLemmas.{passes_agree, finished_once}
use Rattle.ist_core.proofs.AllWordLemmas.{same_rebuild}
use Rattle.laws_links.proofs.ContentLemmas.{finished_few}
use Rattle.ist_mark.specs.Passing.{AreCounted, no_slot_yet, one_slot_more}

-- ---- one number

-- two targets of one rebuild are one
target_once : (t : Snapshot) (rebuild a b : ℕ) → HasTarget t rebuild a → HasTarget t rebuild b
    → a ≡ b
target_once t rebuild a b f g = grind (arith, same_rebuild)

-- a word counts for one number
counts_once : (t : Snapshot) (o q : Option Ref) (a b : ℕ) → CountsFor t o a → CountsFor t q b
    → o ≡ q → a ≡ b
counts_once t _ _ _ _ no_key no_key e = refl
counts_once t _ _ _ _ one_key one_key e = refl
counts_once t _ _ _ _ (of_child {child = child} {k = k} f) (of_child {child = other} {k = n} g) e =
    grind (arith, finished_once)
counts_once t _ _ _ _ (of_target {rebuild = rebuild} {target = target} {k = k} h f)
    (of_target {rebuild = other} {target = more} {k = n} j g) e =
    grind (arith, target_once, finished_once)
counts_once t _ _ _ _ no_key one_key e = absurd (cc)
counts_once t _ _ _ _ no_key (of_child g) e = absurd (cc)
counts_once t _ _ _ _ no_key (of_target j g) e = absurd (cc)
counts_once t _ _ _ _ one_key no_key e = absurd (cc)
counts_once t _ _ _ _ one_key (of_child g) e = absurd (cc)
counts_once t _ _ _ _ one_key (of_target j g) e = absurd (cc)
counts_once t _ _ _ _ (of_child f) no_key e = absurd (cc)
counts_once t _ _ _ _ (of_child f) one_key e = absurd (cc)
counts_once t _ _ _ _ (of_child f) (of_target j g) e = absurd (cc)
counts_once t _ _ _ _ (of_target h f) no_key e = absurd (cc)
counts_once t _ _ _ _ (of_target h f) one_key e = absurd (cc)
counts_once t _ _ _ _ (of_target h f) (of_child g) e = absurd (cc)

module _ (pairs : List Pair) (words : ℕ) (opens : CanOpen pairs words) (log : Log)
    (h : EachEnabled (start pairs words) log) where
  abbrev t : Snapshot
  t = state_of pairs words log

  -- passed slots count for one number
  pub passed_once : (node i a b : ℕ) (slots : List ℕ) → ArePassed t log node i slots a
      → ArePassed t log node i slots b → a ≡ b
  passed_once node i _ _ _ past_end past_end = refl
  passed_once node i _ _ _ (one_passed {here = here} {rest = rest} {slots = slots} word p c more)
      (one_passed {here = also} {rest = left} other q d following) =
      ap₂ (λ x y. x + y)
      (counts_once t (ref_of word) (ref_of other) here also c d
      (ap ref_of (passes_agree pairs words opens log h node i word other p q)))
      (passed_once node (i + 1) rest left slots more following)

  -- ---- what was counted slot by slot

  -- a word counts for few keys
  pub count_few : (o : Option Ref) (k : ℕ) → CountsFor t o k → k ≤ place_limit
  count_few _ _ no_key = omega arith
  count_few _ _ one_key = omega arith
  count_few _ _ (of_child {child = child} {k = k} f) =
      finished_few pairs words opens log h child k f
  count_few _ _ (of_target {target = target} {k = k} j f) =
      finished_few pairs words opens log h target k f

  -- so do some slots
  pub counted_few : (node i k : ℕ) → AreCounted t log node i k → k ≤ i * place_limit
  counted_few node _ _ no_slot_yet = omega arith
  counted_few node _ _ (one_slot_more {i = i} {k = k} {here = here} word a p c) =
      let few = counted_few node i k a in let less = count_few (ref_of word) here c in omega arith

  -- slots that were counted up to one that others go on from were passed
  counted_on : (node i k rest : ℕ) (slots : List ℕ) → AreCounted t log node i k → i ≤ length slots
      → ArePassed t log node i (drop i slots) rest → ArePassed t log node 0 slots (k + rest)
  counted_on node _ _ rest slots no_slot_yet inside more = grind arith
  counted_on node _ _ rest slots
      (one_slot_more {i = i} {k = k} {here = here} word a p c) inside more =
      let next : i + 1 ≡ suc i = omega arith in
      let following : ArePassed t log node (i + 1) (drop (suc i) slots) rest =
      subst (λ j. ArePassed t log node (i + 1) (drop j slots) rest) next more in
      subst (ArePassed t log node 0 slots) (sym (add_assoc k here rest))
      (counted_on node i k (here + rest) slots a (omega arith)
      (subst (λ xs. ArePassed t log node i xs (here + rest))
      (sym (drop-cons slots i 0 (omega arith)))
      (one_passed {slot = get_or slots i 0} word p c following)))

  -- all slots that were counted were passed
  pub counted_all : (node k : ℕ) (slots : List ℕ) → AreCounted t log node (length slots) k
      → ArePassed t log node 0 slots k
  counted_all node k slots a = let none : k + 0 ≡ k = omega arith in
      subst (ArePassed t log node 0 slots) none
      (counted_on node (length slots) k 0 slots a (omega arith)
      (subst (λ xs. ArePassed t log node (length slots) xs 0) (sym (drop_all slots)) past_end))
    where
      drop_all : (xs : List ℕ) → drop (length xs) xs ≡ []
      drop_all [] = refl
      drop_all (x ∷ xs) = drop_all xs
