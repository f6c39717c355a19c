-- What a look-up returns, carried from one term for it to another.
use Rattle.std.proofs.Common.{◌≡◌, ◌∙◌, ◌≤◌, ◌-◌, ℕ, zero, suc, List, [], ◌∷◌, length, take, drop, get_or, refl, sym, ap, inl, inr, arith, ◌↔◌, IsTrue, Bool, true, false, not, Option, Some, None, true≢false, nat_eq, eq-eqb, ◌≢◌, ◌+◌, ◌<◌, ◌⊎◌, ◌++◌, subst, ⊎_elim}
use Rattle.std.proofs.lemmas.List.{take_all, take_more}
use Rattle.ist_core.specs.LogTerms.{Among}
use Rattle.std.proofs.lemmas.Bool.Decides.{nat_tests}
use Rattle.std.specs.Ordering.{nat_cmp}
use Rattle.std.specs.Map.{lookup}
use Rattle.std.specs.BTreeMap.{BTreeMap, is_at}
use Rattle.check_fairness.specs.Answers.{FindsOne}
use Rattle.check_fairness.specs.declared.readings.SizeReading.{SizeReading}
use Rattle.check_fairness.specs.declared.spares.Spare.{Spare}
use Rattle.check_fairness.specs.Searching.{IsSpare, without_spare, Goes, all_read, leaves_out, goes_on, begins, is_full, TakesNext, BeginsOne, LeavesOut}
use Rattle.check_fairness.specs.Readings.{GoesFrom, SomeGoes, LeavesSame, IsLeftBefore}
use Rattle.std.specs.BTreeMap as tree

-- ---- some elements are the first one and those after it; the first ones are among them.

module _ {A : Type 0} where
  -- what follows the first of some elements
  abbrev pub following : List A → List A
  following xs = take (length xs - 1) (drop 1 xs)

  -- some elements are the first and those after it
  pub split_first : (xs : List A) (x : A) → 1 ≤ length xs → x ≡ get_or xs 0 x → xs ≡ x ∷ following xs
  split_first [] x n e = absurd (omega arith)
  split_first (y ∷ ys) x n e = grind (arith, take_all)

  -- one of the first elements is one of the elements
  pub among_first : (n : ℕ) (ys : List A) (y : A) → Among y (take n ys) → Among y ys
  among_first zero ys y a = absurd a
  among_first (suc n) [] y a = absurd a
  among_first (suc n) (z ∷ ys) y (inl k) = inl k
  among_first (suc n) (z ∷ ys) y (inr k) = inr (among_first n ys y k)

-- some numbers are the first and those after it
pub first_after : (xs : List ℕ) → 1 ≤ length xs → get_or xs 0 0 ∷ following xs ≡ xs
first_after [] n = absurd (omega arith)
first_after (y ∷ ys) n = sym (split_first (y ∷ ys) y n refl)

-- nothing is found in a map without entries
pub finds_none : {X : Type 0} (m : BTreeMap ℕ X) (x : ℕ) → m.entries ≡ [] → tree.get nat_cmp m x
    ≡ None
finds_none m x empty = ap (lookup (is_at (nat_cmp x))) empty

-- the same numbers are found by two facts that say the same
pub finds_same : (P Q : ℕ → Type 0) (o : Option ℕ) → ((x : ℕ) → P x ↔ Q x) → FindsOne P o
    → FindsOne Q o
finds_same P Q None same h = λ x q. h x ((same x).1 q)
finds_same P Q (Some x) same h = ((same x).0 h.0, λ y q. h.1 y ((same y).1 q))

-- a number that alone satisfies a fact is the one that is found
pub finds_one : (P : ℕ → Type 0) (x : ℕ) → ((k : ℕ) → P k ↔ (k ≡ x)) → FindsOne P (Some x)
finds_one P x is = ((is x).1 refl, λ y p. (is y).0 p)

-- a test that fails exactly if the fact fails
pub not_so : (b : Bool) (P : Type 0) → (IsTrue b ↔ P) → IsTrue (not b) ↔ (¬ P)
not_so true P i = ((λ y. absurd (true≢false (sym y))), (λ n. absurd (n (i.0 refl))))
not_so false P i = ((λ _ p. true≢false (sym (i.1 p))), (λ _. refl))

-- a test that returned no
pub is_not : (b : Bool) (P : Type 0) → (IsTrue b ↔ P) → b ≡ false → ¬ P
is_not true P i e = cc
is_not false P i e = λ p. true≢false (sym (i.1 p))

-- one fact says the same as a second, and that the same as a third
pub iff_trans : {P Q R : Type 0} → (P ↔ Q) → (Q ↔ R) → P ↔ R
iff_trans a b = ((λ p. b.0 (a.0 p)), (λ r. a.1 (b.1 r)))

-- a fact that never holds is decided by `false`
pub never : {P : Type 0} → ¬ P → IsTrue false ↔ P
never n = ((λ y. absurd (true≢false (sym y))), (λ p. absurd (n p)))

-- a fact that holds is decided by `true`
pub always : {P : Type 0} → P → IsTrue true ↔ P
always p = ((λ _. p), (λ _. refl))

-- the test for equal numbers
pub is_equal : (x y : ℕ) → IsTrue (nat_eq x y) → x ≡ y
is_equal x y e = grind (arith, nat_tests)

-- the test for 0
pub is_zero : (k : ℕ) → IsTrue (nat_eq k 0) ↔ (k ≡ 0)
is_zero k = ((λ y. is_equal k 0 y), (λ e. eq-eqb k 0 e))

-- ---- readings, one size further: what they leave goes on as they did. Serves `fairness.rt`.

-- ---- one size further

module _ (P : List ℕ → Type 0) (room : ℕ) (may : Spare) (rest : List ℕ) (x : ℕ) (xs : List ℕ) where
  -- the first size is left out, or the list goes on with it, or it begins one
  goes_apart : (free : Bool) → Goes P room may rest free (x ∷ xs)
      → LeavesOut P room may rest free x xs ⊎ (TakesNext P room may rest x xs
      ⊎ (IsTrue free × BeginsOne P room may x xs))
  goes_apart free g = at rest free g
    where
      at : (rest : List ℕ) (free : Bool) → Goes P room may rest free (x ∷ xs)
          → LeavesOut P room may rest free x xs ⊎ (TakesNext P room may rest x xs
          ⊎ (IsTrue free × BeginsOne P room may x xs))
      at rest free (leaves_out _ s g) = inl (s, g)
      at _ free (goes_on {rest = r} _ g) = inr (inl record { rest = r; list_is = refl; goes = g })
      at old _ (begins _ rest p g) = grind arith

  by_on : (free : Bool) → TakesNext P room may rest x xs → Goes P room may rest free (x ∷ xs)
  by_on free h = subst (λ r. Goes P room may r free (x ∷ xs)) (sym h.list_is) (goes_on x h.goes)

  -- if another list may be begun
  pub goes_free : (free : Bool) → free ≡ true → Goes P room may rest free (x ∷ xs)
      ↔ (LeavesOut P room may rest free x xs ⊎ (TakesNext P room may rest x xs ⊎ BeginsOne P room
      may x xs))
  goes_free free e = (
    (λ g. grind (arith, goes_apart)),
    (λ k. ⊎_elim (λ l. leaves_out x l.0 l.1)
        (λ h. ⊎_elim (by_on free) (λ b. subst (λ f. Goes P room may rest f (x ∷ xs)) (sym e)
        (begins x b.rest b.building b.goes)) h) k),
  )

  -- if none may
  pub goes_bound : (free : Bool) → free ≡ false → Goes P room may rest free (x ∷ xs)
      ↔ (LeavesOut P room may rest free x xs ⊎ TakesNext P room may rest x xs)
  goes_bound free e = (
    (λ g. grind (arith, goes_apart)),
    (λ k. ⊎_elim (λ l. leaves_out x l.0 l.1) (by_on free) k),
  )

  -- nothing goes on with a size if nothing is left, or another size comes first
  pub on_none : length rest < 1 → ¬ (TakesNext P room may rest x xs)
  on_none n h = let same = ap length h.list_is in absurd (omega arith)

  -- a list doesn't continue with a size other than its first
  pub on_other : get_or rest 0 0 ≢ x → ¬ (TakesNext P room may rest x xs)
  on_other ne h = ne (ap (λ ys. get_or ys 0 0) h.list_is)

-- a list continues with its first size
pub on_is : (P : List ℕ → Type 0) (room : ℕ) (may : Spare) (list : List ℕ) (x : ℕ) (xs : List ℕ)
    (full : Bool) → 1 ≤ length list → get_or list 0 0 ≡ x → full ≡ is_full room (following list)
    → Goes P room may (following list) full xs ↔ TakesNext P room may list x xs
on_is P room may list x xs full n i e = grind (arith, first_after)

-- a spare row is left out
pub out_is : (P : List ℕ → Type 0) (room : ℕ) (may less : Spare) (rest : List ℕ) (free : Bool)
    (x : ℕ) (xs : List ℕ) → IsSpare may x → less ≡ without_spare may x
    → Goes P room less rest free xs ↔ LeavesOut P room may rest free x xs
out_is P room may less rest free x xs s e = grind arith

-- ---- readings

module _ (lists : List (List ℕ)) (room : ℕ) (sizes : List ℕ) where
  some_left : (rs qs : List SizeReading) → SomeGoes lists room rs sizes
      → SomeGoes lists room (rs ++ qs) sizes
  some_left [] qs h = absurd h
  some_left (r ∷ rs) qs (inl g) = inl g
  some_left (r ∷ rs) qs (inr g) = inr (some_left rs qs g)

  some_right : (rs qs : List SizeReading) → SomeGoes lists room qs sizes
      → SomeGoes lists room (rs ++ qs) sizes
  some_right [] qs h = h
  some_right (r ∷ rs) qs h = inr (some_right rs qs h)

  some_apart : (rs qs : List SizeReading) → SomeGoes lists room (rs ++ qs) sizes
      → SomeGoes lists room rs sizes ⊎ SomeGoes lists room qs sizes
  some_apart [] qs h = inr h
  some_apart (r ∷ rs) qs (inl g) = inl (inl g)
  some_apart (r ∷ rs) qs (inr g) = ⊎_elim (λ k. inl (inr k)) (λ k. inr k) (some_apart rs qs g)

  -- one reading more
  pub some_pushed : (rs new : List SizeReading) (r : SizeReading) → new ≡ rs ++ r ∷ []
      → SomeGoes lists room new sizes ↔ (SomeGoes lists room rs sizes ⊎ GoesFrom lists room r sizes)
  some_pushed rs new r e = grind (arith, some_apart, some_left, some_right)

  -- the readings up to one more
  pub some_more : (rs : List SizeReading) (i : ℕ) (default : SizeReading) → i < length rs
      → SomeGoes lists room (take (i + 1) rs) sizes
      ↔ (SomeGoes lists room (take i rs) sizes ⊎ GoesFrom lists room (get_or rs i default) sizes)
  some_more rs i default h = some_pushed (take i rs) (take (i + 1) rs) (get_or rs i default)
      (take_more rs i default h)

  -- readings that leave the same go on in the same way
  pub reached_goes : (rs : List SizeReading) (r : SizeReading) → IsLeftBefore lists rs r
      → GoesFrom lists room r sizes → SomeGoes lists room rs sizes
  reached_goes [] r h g = absurd h
  reached_goes (q ∷ rs) r (inl s) g = grind arith
  reached_goes (q ∷ rs) r (inr h) g = inr (reached_goes rs r h g)

  -- a reading that leaves the same as another adds nothing
  pub reached_added : (rs : List SizeReading) (r : SizeReading) → IsLeftBefore lists rs r
      → SomeGoes lists room rs sizes ↔ (SomeGoes lists room rs sizes ⊎ GoesFrom lists room r sizes)
  reached_added rs r h = (inl, (λ k. ⊎_elim (λ a. a) (reached_goes rs r h) k))

-- at the end of the sizes each reading will do
pub end_read : (lists : List (List ℕ)) (room : ℕ) (rs : List SizeReading) (rest : List ℕ) (empty : Bool)
    → length rest < 1
    → empty ≡ nat_eq (length rs) 0 → IsTrue (not empty) ↔ SomeGoes lists room rs rest
end_read lists room rs (x ∷ rest) empty n e = absurd (omega arith)
end_read lists room [] [] empty n e = grind arith
end_read lists room (r ∷ rs) [] empty n e =
    let some : nat_eq (length (r ∷ rs)) 0 ≡ false = grind (arith, nat_tests) in
    ((λ y. inl all_read), (λ h. ap not (e ∙ some)))

-- ---- readings that leave the same

module _ (lists : List (List ℕ)) (r : SizeReading) where
  -- if the reading at some place leaves the same, one of the readings does
  pub reached_at : (rs : List SizeReading) (i : ℕ) (default : SizeReading) → i < length rs
      → LeavesSame lists (get_or rs i default) r → IsLeftBefore lists rs r
  reached_at [] i default h s = absurd (omega arith)
  reached_at (p ∷ rs) zero default h s = inl s
  reached_at (p ∷ rs) (suc i) default h s = inr (reached_at rs i default (omega arith) s)

  reached_apart : (rs : List SizeReading) (q : SizeReading) → IsLeftBefore lists (rs ++ q ∷ []) r
      → IsLeftBefore lists rs r ⊎ LeavesSame lists q r
  reached_apart [] q (inl s) = inr s
  reached_apart [] q (inr n) = absurd n
  reached_apart (p ∷ rs) q (inl s) = inl (inl s)
  reached_apart (p ∷ rs) q (inr h) = ⊎_elim (λ k. inl (inr k)) inr (reached_apart rs q h)

  -- if none of the first i readings leaves the same and the next doesn't, none of the first i + 1
  -- does
  pub reached_more : (rs : List SizeReading) (i : ℕ) (default : SizeReading) → i < length rs
      → ¬ (IsLeftBefore lists (take i rs) r) → ¬ (LeavesSame lists (get_or rs i default) r)
      → ¬ (IsLeftBefore lists (take (i + 1) rs) r)
  reached_more rs i default h none other k = grind (arith, reached_apart, take_more)
