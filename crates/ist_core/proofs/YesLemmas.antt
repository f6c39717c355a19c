-- Each change is decided once, so few are decided yes. Serves `laws.counts_are_low`.
use Rattle.std.proofs.Common.{◌≡◌, ◌≢◌, ℕ, zero, suc, ◌+◌, ◌<◌, ◌≤◌, ◌⊎◌, ◌==◌, if◌then◌else◌, Bool, true, false, not, List, [], ◌∷◌, length, Some, option_map, refl, sym, ap, ◌∙◌, inl, inr, arith}
use Rattle.std.proofs.lemmas.Bool.Decides.{eqb_tells}
use Rattle.ist_core.specs.Types.{Pair, InnerRow, ChangeRow, Event, Enter, Reserve, Install, Okay, Decide, Resolve, Count, Mark, Pass, Finish, Root, Draw, Place, Lose}
use Rattle.ist_core.specs.WordTerms.{place_limit, undecided, decided_yes, Pieces, Inner, Change, with_decision, start, decided_yes_in}
use Rattle.ist_core.specs.LogTerms.{Among, Each, Distinct, decision_word, Log, EachEnabled, CanOpen, state_of}
use Rattle.ist_core.proofs.OptionLemmas.{each-among, among-filter, changed_at-same, same_change}
use Rattle.ist_core.proofs.SoundLemmas.{sound}
use Rattle.ist_core.proofs.StepLemmas.{sound_start, grow_step}
use Rattle.ist_core.proofs.GrowingLemmas.{change_there}
use Rattle.ist_core.proofs.RoomLemmas.{published_good}
use Rattle.ist_core.proofs.CountLemmas.{drop_all, counts_few}
use Rattle.ist_core.proofs.TallyLemmas.{count_at_most}

-- ---- numbers without a repetition, all below a number

-- dropping keeps what is true of each, and repetitions out
drop_below : (x n : ℕ) (xs : List ℕ) → Each (λ y. y < n + 1) xs → (x ≡ n)
    → Each (λ y. y < n) (drop_all x xs)
drop_below x n [] h is = tt
drop_below x n (y ∷ ys) h is = at (drop_below x n ys h.1 is) (y == x) (eqb_tells y x)
  where
    at : Each (λ z. z < n) (drop_all x ys) → (v : Bool)
        → (((y == x) ≡ true) × (y ≡ x)) ⊎ (((y == x) ≡ false) × (y ≢ x))
        → Each (λ z. z < n) (if not (y == x) then y ∷ drop_all x ys else drop_all x ys)
    at rest v (inl k) = grind (arith, drop_all)
    at rest v (inr k) = grind (arith, drop_all)

drop_distinct : (x : ℕ) (xs : List ℕ) → Distinct xs → Distinct (drop_all x xs)
drop_distinct x [] h = tt
drop_distinct x (y ∷ ys) h = at (drop_distinct x ys h.1) (y == x)
  where
    at : Distinct (drop_all x ys) → (v : Bool)
        → Distinct (if not v then y ∷ drop_all x ys else drop_all x ys)
    at rest true = rest
    at rest false = ((λ i. h.0 (among-filter (λ z. not (z == x)) y ys i).0), rest)

drop_absent : (x : ℕ) (xs : List ℕ) → ¬ (Among x xs) → drop_all x xs ≡ xs
drop_absent x [] none = refl
drop_absent x (y ∷ ys) none = at (drop_absent x ys (λ i. none (inr i))) (y == x) (eqb_tells y x)
  where
    at : drop_all x ys ≡ ys → (v : Bool)
        → (((y == x) ≡ true) × (y ≡ x)) ⊎ (((y == x) ≡ false) × (y ≢ x))
        → (if not (y == x) then y ∷ drop_all x ys else drop_all x ys) ≡ y ∷ ys
    at rest v (inl k) = absurd (none (inl (sym k.1)))
    at rest v (inr k) = grind (arith, drop_all)

-- dropping one number shortens such a list by one at most
drop_few : (x : ℕ) (xs : List ℕ) → Distinct xs → length xs ≤ length (drop_all x xs) + 1
drop_few x [] h = omega arith
drop_few x (y ∷ ys) h = at (drop_few x ys h.1) (y == x) (eqb_tells y x)
  where
    at : length ys ≤ length (drop_all x ys) + 1 → (v : Bool)
        → (((y == x) ≡ true) × (y ≡ x)) ⊎ (((y == x) ≡ false) × (y ≢ x))
        → length (y ∷ ys) ≤ length (if not (y == x) then y ∷ drop_all x ys else drop_all x ys) + 1
    at rest v (inl k) = grind (arith, drop_absent, drop_all)
    at rest v (inr k) = grind (arith, drop_all)

-- there are at most n distinct numbers below n
pub distinct_below : (n : ℕ) (xs : List ℕ) → Distinct xs → Each (λ x. x < n) xs → length xs ≤ n
distinct_below zero [] d h = omega arith
distinct_below zero (x ∷ xs) d h = let low = h.0 in absurd (omega arith)
distinct_below (suc n) xs d h =
    let less = distinct_below n (drop_all n xs) (drop_distinct n xs d)
    (drop_below n n xs (suc_below xs h) refl) in
    let few = drop_few n xs d in omega arith
  where
    suc_below : (ys : List ℕ) → Each (λ x. x < suc n) ys → Each (λ x. x < n + 1) ys
    suc_below [] k = tt
    suc_below (y ∷ ys) k = let low = k.0 in (omega arith, suc_below ys k.1)

-- ---- changes that were decided yes

-- a word of a decision isn't undecided
pub said_something : (said : Bool) → decision_word said ≢ undecided
said_something true e = cc
said_something false e = cc

-- there is a decided change at the base
IsDecided : Pieces → ℕ → Type 0
IsDecided ps base = (r : ChangeRow) × (ps base ≡ Some (Change r)) × (r.decision ≢ undecided)

module _ (pairs : List Pair) (words : ℕ) where
  -- a decided change stays decided
  decided_on : (log : Log) (event : Event) → EachEnabled (start pairs words) (event ∷ log)
      → (bases : List ℕ) → Each (IsDecided (state_of pairs words log).pieces) bases
      → Each (IsDecided (state_of pairs words (event ∷ log)).pieces) bases
  unfolding IsDecided
  decided_on log event h [] all = tt
  decided_on log event h (base ∷ bases) all = let it = all.0 in
      let there = change_there (state_of pairs words log).pieces
      (state_of pairs words (event ∷ log)).pieces
      (grow_step (start pairs words) log event h.1
      (sound (start pairs words) log (sound_start pairs words) h.0)) base it.0 it.1 in (
        (there.0, there.1, (λ e. it.2 (sym (there.2.decided it.2) ∙ e))),
        decided_on log event h
            bases all.1,
      )

  -- the changes that were decided yes are decided rows, each of them once
  yes_once : (log : Log) → EachEnabled (start pairs words) log
      → Each (IsDecided (state_of pairs words log).pieces) (decided_yes_in log) × Distinct
      (decided_yes_in log)
  unfolding IsDecided
  yes_once [] h = (tt, tt)
  yes_once (Decide c base true ∷ log) h = let before = yes_once log h.0 in
      let change = h.1.change in let ps = (state_of pairs words log).pieces in
      let now : IsDecided (state_of pairs words (Decide c base true ∷ log)).pieces base = (
        record change { decision = decided_yes },
        changed_at-same ps base (with_decision decided_yes)
            ∙ ap (option_map (with_decision decided_yes)) h.1.pending.published,
        (λ e. omega arith),
      )
      in (
        (now, decided_on log (Decide c base true) h (decided_yes_in log) before.0),
        (
          (λ i. let it = each-among (IsDecided ps) base (decided_yes_in log) before.0 i in
              it.2 (ap (λ r. r.decision) (same_change (ps base) it.0 change it.1 h.1.pending.published) ∙
              h.1.pending.unset)),
          before.1,
        ),
      )
  yes_once (Decide c base false ∷ log) h = let before = yes_once log h.0 in
      (decided_on log (Decide c base false) h (decided_yes_in log) before.0, before.1)
  yes_once (Enter c ∷ log) h = let before = yes_once log h.0 in
      (decided_on log (Enter c) h (decided_yes_in log) before.0, before.1)
  yes_once (Reserve c b z ∷ log) h = let before = yes_once log h.0 in
      (decided_on log (Reserve c b z) h (decided_yes_in log) before.0, before.1)
  yes_once (Install c d rows ∷ log) h = let before = yes_once log h.0 in
      (decided_on log (Install c d rows) h (decided_yes_in log) before.0, before.1)
  yes_once (Okay c d ∷ log) h = let before = yes_once log h.0 in
      (decided_on log (Okay c d) h (decided_yes_in log) before.0, before.1)
  yes_once (Resolve c d ∷ log) h = let before = yes_once log h.0 in
      (decided_on log (Resolve c d) h (decided_yes_in log) before.0, before.1)
  yes_once (Count c n ∷ log) h = let before = yes_once log h.0 in
      (decided_on log (Count c n) h (decided_yes_in log) before.0, before.1)
  yes_once (Mark c n ∷ log) h = let before = yes_once log h.0 in
      (decided_on log (Mark c n) h (decided_yes_in log) before.0, before.1)
  yes_once (Pass c n i w ∷ log) h = let before = yes_once log h.0 in
      (decided_on log (Pass c n i w) h (decided_yes_in log) before.0, before.1)
  yes_once (Finish c n k ∷ log) h = let before = yes_once log h.0 in
      (decided_on log (Finish c n k) h (decided_yes_in log) before.0, before.1)
  yes_once (Root c o w rows ∷ log) h = let before = yes_once log h.0 in
      (decided_on log (Root c o w rows) h (decided_yes_in log) before.0, before.1)
  yes_once (Draw c o part ∷ log) h = let before = yes_once log h.0 in
      (decided_on log (Draw c o part) h (decided_yes_in log) before.0, before.1)
  yes_once (Place c o i w rows ∷ log) h = let before = yes_once log h.0 in
      (decided_on log (Place c o i w rows) h (decided_yes_in log) before.0, before.1)
  yes_once (Lose c bases ∷ log) h = let before = yes_once log h.0 in
      (decided_on log (Lose c bases) h (decided_yes_in log) before.0, before.1)

  -- the bases of decided changes lie within the table
  yes_below : CanOpen pairs words → (log : Log) → EachEnabled (start pairs words) log
      → (bases : List ℕ) → Each (IsDecided (state_of pairs words log).pieces) bases
      → Each (λ base. base < place_limit) bases
  unfolding IsDecided
  yes_below opens log h [] all = tt
  yes_below opens log h (base ∷ bases) all =
      let good = published_good pairs words opens log base (Change all.0.0) h all.0.1 in
      (good.below_limit, yes_below opens log h bases all.1)

  -- a row counts at most what was decided yes
  pub count_few : (log : Log) → EachEnabled (start pairs words) log → (node : ℕ) (r : InnerRow)
      → (state_of pairs words log).pieces node ≡ Some (Inner r)
      → r.count ≤ length (decided_yes_in log)
  count_few log h node r e = let most = count_at_most node pairs words log h (Inner r) e in
      let few = counts_few pairs words node log h in omega arith

  -- a count is at most the number of places
  pub count_low : CanOpen pairs words → (log : Log) → EachEnabled (start pairs words) log
      → (node : ℕ) (r : InnerRow) → (state_of pairs words log).pieces node ≡ Some (Inner r)
      → r.count ≤ place_limit
  count_low opens log h node r e = let few = count_few log h node r e in
      let once = yes_once log h in
      let low = distinct_below place_limit (decided_yes_in log) once.1
      (yes_below opens log h (decided_yes_in log) once.0) in
      omega arith
