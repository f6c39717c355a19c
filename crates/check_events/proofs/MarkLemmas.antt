-- What the code tests of a marked node is what the conditions say. Serves `marking.rt`.
use Rattle.std.proofs.Common.{◌≡◌, ◌↔◌, ◌<◌, ◌≤◌, ◌+◌, ◌-◌, ◌^◌, ℕ, List, [], ◌∷◌, length, take, drop, Option, Some, None, refl, sym, subst, arith}
use Rattle.std.proofs.lemmas.List.{take_all}
use Rattle.std.specs.Ordering.{nat_cmp}
use Rattle.std.specs.BTreeMap as tree
use Rattle.std.specs.BTreeMap.{BTreeMap}
use Rattle.ist_core.specs.declared.states.InnerRow.{InnerRow}
use Rattle.ist_core.specs.declared.states.RebuildRow.{RebuildRow}
use Rattle.ist_core.specs.WordTerms.{Inner, Rebuild, Ref, Empty, LeafAt, InnerAt, RebuildAt, ref_of, finished_word}
use Rattle.ist_core.specs.LogTerms.{Snapshot, Log}
use Rattle.ist_core.specs.TreeTerms.{IsFinishedWith, IsCalled, CanMark, CountsFor, no_key, one_key, of_child, of_target, ArePassed, past_end, one_passed}
use Rattle.ist_core.proofs.AllWordLemmas.{same_rebuild, same_inner}
use Rattle.check_events.specs.Passing.{PassCounts, TargetFinishedWith}
use Rattle.check_events.specs.Remembering.{KnowsPasses, pair_key}
use Rattle.ist_layout.specs.declared.references.Ref as layout
use Rattle.check_fairness.specs.Answers.{FindsOne}
use Rattle.check_fairness.proofs.AnswerLemmas.{finds_one, finds_same}

module _ (t : Snapshot) (caller node : ℕ) (r : InnerRow) (e : t.pieces node ≡ Some (Inner r))
    (known : caller < t.callers) where
  -- an open row may be marked exactly if there is a cause
  pub mark_is : (log : Log) → r.status ≡ 0 → IsCalled t log node ↔ CanMark t log caller node
  mark_is log open_ = (
    (λ c. record { known = known; row = r; published = e; row_open = open_; called = c }),
    (λ h. h.called),
  )

-- a row is finished with what its status says
pub finished_is : (t : Snapshot) (node k : ℕ) (r : InnerRow) → t.pieces node ≡ Some (Inner r)
    → (r.status ≡ finished_word k) ↔ IsFinishedWith t node k
finished_is t node k r e = grind (arith, same_inner)

-- a rebuild's target is the one that its row says
pub target_is : (t : Snapshot) (rebuild k : ℕ) (r : RebuildRow) → t.pieces rebuild
    ≡ Some (Rebuild r) → IsFinishedWith t r.target k ↔ TargetFinishedWith t rebuild k
target_is t rebuild k r e = (
  (λ f. record {
    target = r.target;
    of = record { row = r; published = e; target_is = refl };
    finished = f;
  }),
  (λ h. grind (arith, same_rebuild)),
)

-- ---- what a passed word counts for

-- an empty reference counts for 0 keys
pub counts_empty : (t : Snapshot) (ref : Option Ref) (k : ℕ) → ref ≡ Some Empty → CountsFor t ref k
    ↔ (k ≡ 0)
counts_empty t ref k e = (
  (λ c. out ref k e c),
  (λ z. subst (λ x. CountsFor t x k) (sym e)
      (subst (λ n. CountsFor t (Some Empty) n) (sym z) no_key)),
)
  where
    out : (ref : Option Ref) (k : ℕ) → ref ≡ Some Empty → CountsFor t ref k → k ≡ 0
    out _ _ i no_key = refl
    out _ _ i one_key = cc
    out _ _ i (of_child f) = cc
    out _ _ i (of_target h f) = cc

-- a leaf counts for one key
pub counts_leaf : (t : Snapshot) (ref : Option Ref) (leaf k : ℕ) → ref ≡ Some (LeafAt leaf)
    → CountsFor t ref k ↔ (k ≡ 1)
counts_leaf t ref leaf k e = (
  (λ c. out ref k e c),
  (λ z. subst (λ x. CountsFor t x k) (sym e)
      (subst (λ n. CountsFor t (Some (LeafAt leaf)) n) (sym z) one_key)),
)
  where
    out : (ref : Option Ref) (k : ℕ) → ref ≡ Some (LeafAt leaf) → CountsFor t ref k → k ≡ 1
    out _ _ i no_key = cc
    out _ _ i one_key = refl
    out _ _ i (of_child f) = cc
    out _ _ i (of_target h f) = cc

-- an inner row counts for the keys with which it is finished
pub counts_inner : (t : Snapshot) (ref : Option Ref) (child k : ℕ) → ref ≡ Some (InnerAt child)
    → IsFinishedWith t child k ↔ CountsFor t ref k
counts_inner t ref child k e = (
  (λ f. subst (λ x. CountsFor t x k) (sym e) (of_child f)),
  (λ c. out ref k e c),
)
  where
    out : (ref : Option Ref) (k : ℕ) → ref ≡ Some (InnerAt child) → CountsFor t ref k
        → IsFinishedWith t child k
    out _ _ i no_key = cc
    out _ _ i one_key = cc
    out _ k i (of_child {child = n} f) = grind arith
    out _ _ i (of_target h f) = cc

-- a rebuild counts for the keys with which its target is finished
pub counts_rebuild : (t : Snapshot) (ref : Option Ref) (rebuild k : ℕ) → ref
    ≡ Some (RebuildAt rebuild) → TargetFinishedWith t rebuild k ↔ CountsFor t ref k
counts_rebuild t ref rebuild k e =
    ((λ h. subst (λ x. CountsFor t x k) (sym e) (of_target h.of h.finished)), (λ c. out ref k e c))
  where
    out : (ref : Option Ref) (k : ℕ) → ref ≡ Some (RebuildAt rebuild) → CountsFor t ref k
        → TargetFinishedWith t rebuild k
    out _ _ i no_key = cc
    out _ _ i one_key = cc
    out _ _ i (of_child f) = cc
    out _ k i (of_target {rebuild = o} {target = n} h f) = grind arith

module _ (t : Snapshot) (ref : Option Ref) where
  -- an empty reference counts for 0 keys only
  pub finds_empty : ref ≡ Some Empty → FindsOne (λ k. CountsFor t ref k) (Some 0)
  finds_empty is = finds_one (λ k. CountsFor t ref k) 0 (λ k. counts_empty t ref k is)

  -- a leaf counts for one key only
  pub finds_leaf : (leaf : ℕ) → ref ≡ Some (LeafAt leaf)
      → FindsOne (λ k. CountsFor t ref k) (Some 1)
  finds_leaf leaf is = finds_one (λ k. CountsFor t ref k) 1 (λ k. counts_leaf t ref leaf k is)

  -- for how many keys an inner row counts is found by its status
  pub finds_inner : (base at : ℕ) (o : Option ℕ) → ref ≡ Some (InnerAt base) → at ≡ base
      → FindsOne (λ k. IsFinishedWith t at k) o → FindsOne (λ k. CountsFor t ref k) o
  finds_inner base at o is same = finds_same (λ k. IsFinishedWith t at k) (λ k. CountsFor t ref k) o
      (λ k. subst (λ b. IsFinishedWith t b k ↔ CountsFor t ref k) (sym same)
      (counts_inner t ref base k is))

  -- for how many keys a rebuild counts is found by its target's status
  pub finds_rebuild : (base at : ℕ) (o : Option ℕ) → ref ≡ Some (RebuildAt base) → at ≡ base
      → FindsOne (λ k. TargetFinishedWith t at k) o → FindsOne (λ k. CountsFor t ref k) o
  finds_rebuild base at o is same =
      finds_same (λ k. TargetFinishedWith t at k) (λ k. CountsFor t ref k) o
      (λ k. subst (λ b. TargetFinishedWith t b k ↔ CountsFor t ref k) (sym same)
      (counts_rebuild t ref base k is))

-- ---- passed slots

-- the one word with which a slot was passed says what it counts for
pub pass_counts : (t : Snapshot) (log : Log) (passed : BTreeMap ℕ ℕ) (node i word k : ℕ)
    → KnowsPasses passed log
    → node < 2 ^ 64 → i < 2 ^ 64 → tree.get nat_cmp passed (pair_key node i) ≡ Some word
    → CountsFor t (ref_of word) k ↔ PassCounts t log node i k
pass_counts t log passed node i word k h n m e = (
  (λ c. record { word = word; passed = (h node i word n m).0 e; counts = c }),
  (λ p. let there = (h node i p.word n m).1 p.passed in let same : p.word ≡ word = cc in
      subst (λ w. CountsFor t (ref_of w) k) same p.counts),
)

-- a slot that the map doesn't have was not passed
pub none_passed : (t : Snapshot) (log : Log) (passed : BTreeMap ℕ ℕ) (node i k : ℕ) → KnowsPasses
    passed log → node < 2 ^ 64 → i < 2 ^ 64 → tree.get nat_cmp passed (pair_key node i) ≡ None
    → ¬ (PassCounts t log node i k)
none_passed t log passed node i k h n m e p = let there = (h node i p.word n m).1 p.passed in cc

-- what follows the first of some numbers
abbrev pub after_first : List ℕ → List ℕ
after_first xs = take (length xs - 1) (drop 1 xs)

module _ (t : Snapshot) (log : Log) (node i : ℕ) where
  -- no slots count for 0 keys
  pub passed_none : (slots : List ℕ) (k : ℕ) → length slots < 1
      → (k ≡ 0) ↔ ArePassed t log node i slots k
  passed_none [] k n = (
    (λ z. subst (λ x. ArePassed t log node i [] x) (sym z) past_end),
    (λ p. out k p),
  )
    where
      out : (k : ℕ) → ArePassed t log node i [] k → k ≡ 0
      out _ past_end = refl
  passed_none (x ∷ xs) k n = absurd (omega arith)

  -- the first slot was passed, and so were the others
  pub passed_apart : (x : ℕ) (xs : List ℕ) (k : ℕ) → ArePassed t log node i (x ∷ xs) k
      → (here rest : ℕ) × PassCounts t log node i here × ArePassed t log node (i + 1) xs rest
      × (here + rest ≡ k)
  passed_apart x xs _ (one_passed {here = h} {rest = r} w p c more) = grind arith

  -- slots count for k keys exactly if the others count for what the first leaves
  pub passed_first : (slots : List ℕ) (here k : ℕ) → 1 ≤ length slots → PassCounts t log node i here
      → ((y : ℕ) → PassCounts t log node i y → y ≡ here) → here ≤ k
      → ArePassed t log node (i + 1) (after_first slots) (k - here) ↔ ArePassed t log node i slots k
  passed_first [] here k n p one fits = absurd (omega arith)
  passed_first (x ∷ xs) here k n p one fits =
      let front : after_first (x ∷ xs) ≡ xs = grind (arith, take_all) in
      let sum : here + (k - here) ≡ k = omega arith in (
        (λ m. subst (λ j. ArePassed t log node i (x ∷ xs) j) sum
            (one_passed p.word p.passed p.counts
            (subst (λ ys. ArePassed t log node (i + 1) ys (k - here)) front m))),
        (λ a. let s = passed_apart x xs k a in let same : s.0 ≡ here = one s.0 s.2 in
            let left : s.1 ≡ k - here = let all : s.0 + s.1 ≡ k = s.4 in omega arith in
            subst (λ ys. ArePassed t log node (i + 1) ys (k - here)) (sym front)
            (subst (λ j. ArePassed t log node (i + 1) xs j) left s.3)),
      )

  -- if the first slot counts for more than k keys, the slots don't count for k
  pub passed_beyond : (slots : List ℕ) (here k : ℕ) → 1 ≤ length slots
      → ((y : ℕ) → PassCounts t log node i y → y ≡ here) → k < here
      → ¬ (ArePassed t log node i slots k)
  passed_beyond [] here k n one far a = absurd (omega arith)
  passed_beyond (x ∷ xs) here k n one far a = let s = passed_apart x xs k a in
      let same : s.0 ≡ here = one s.0 s.2 in let all : s.0 + s.1 ≡ k = s.4 in absurd (omega arith)

  -- if the first slot counts for nothing, the slots don't count
  pub passed_without : (slots : List ℕ) (k : ℕ) → 1 ≤ length slots
      → ((y : ℕ) → ¬ (PassCounts t log node i y)) → ¬ (ArePassed t log node i slots k)
  passed_without [] k n none a = absurd (omega arith)
  passed_without (x ∷ xs) k n none a = let s = passed_apart x xs k a in none s.0 s.2
