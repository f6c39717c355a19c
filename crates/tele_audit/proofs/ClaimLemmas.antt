-- Which rows an audit claims at a slot. Serves `auditing.examine`.
use Rattle.std.proofs.Common.{◌≡◌, ℕ, Bool, List, [], ◌∷◌, ◌++◌, Result, Ok, Err, IfOk, refl, sym, ap, ◌∙◌, subst, IsTrue, reverse, zero, suc, ◌+◌, ◌-◌, ◌<◌, ◌≤◌, ◌⊎◌, nat_le, true, false, length, replicate, inl, inr, arith, length-append}
use Rattle.ist_core.specs.WordTerms.{Ref, ref_of, LeafAt, InnerAt, next_place, first_row, place_limit}
use Rattle.tele_audit.specs.declared.tasks.AuditTask.{AuditTask}
use Rattle.ist_rest.specs.WordRows.{Span, rows_on, word_at}
use Rattle.ist_rest.specs.Walks.{Visit, IsGood, IsGoodAs, Reads, row_read, AreApart, IsGoodLeaf, IsGoodRow, pairs_read, Walks, first_visit}
use Rattle.ist_rest.specs.RestingWords.{read_on, AreLawful, BreaksFirstAt}
use Rattle.tele_audit.specs.Auditing.{IsTaskOf, AreClaimed, AreRefused, FailsSlot, PassesSlot, tasks_in_row}
use Rattle.ist_rest.proofs.WalkLemmas.{apart_both, apart_first, apart_second}
use Rattle.std.proofs.lemmas.List.{append-nil, get_or_append_left, get_or-append_right, get_or_past, take-append-le, drop-append-le, length-drop, length-replicate}
use Rattle.ist_core.specs.declared.pairs.Pair.{Pair}
use Rattle.ist_layout.specs.Meanings.{ref_meant}
use Rattle.ist_rest.proofs.WholeLemmas.{if_ok_so}
use Rattle.std.proofs.lemmas.Bool.Decides.{leb_tells}
use Rattle.tele_audit.proofs.AlikeLemmas.{AreAlike, walk_same, break_same}
use Rattle.ist_layout.specs.declared.references.Ref as layout

-- ---- the rows of a slot

-- rows read one list after another are the joined list read at once
pub read_on_both : (seen xs ys : List Span) → read_on seen (xs ++ ys) ≡ read_on (read_on seen xs) ys
read_on_both seen [] ys = refl
read_on_both seen (x ∷ xs) ys = read_on_both (x ∷ seen) xs ys

-- rows are claimed one after another
pub claimed_both : (old mid new : List Bool) (xs ys : List Span) → AreClaimed old mid xs
    → AreClaimed mid new ys → AreClaimed old new (xs ++ ys)
claimed_both old mid new xs ys one two = grind (arith, apart_both, read_on_both)

-- a slot fails if the rows that it leads through are refused
pub fails_first : (words : List ℕ) (task : AuditTask) (old : List Bool)
    → ((visit : Visit) → visit.word ≡ task.word → IsGood words visit
    → AreRefused old (rows_on words (ref_of task.word)))
    → FailsSlot words task old
fails_first words task old h = record {
  none = λ visit is seen marked at apart. (h visit (sym is.word) at).none seen marked
      (subst (λ w. AreApart seen (rows_on words (ref_of w))) (sym is.word)
      (apart_first seen (rows_on words (ref_of visit.word)) (row_read words at.ref) apart));
}

-- a slot fails if the row that it reads as is refused
pub fails_second : (words : List ℕ) (task : AuditTask) (old mid : List Bool) (ref : Ref)
    → Reads words task.word ref → AreClaimed old mid (rows_on words (ref_of task.word))
    → ((visit : Visit) → IsTaskOf visit task → IsGoodAs words visit ref
    → AreRefused mid (row_read words ref))
    → FailsSlot words task old
fails_second words task old mid ref reads claimed h = grind (arith, apart_second)

-- what follows for a result from three facts on it
pub if_ok_three : {A E : Type 0} (P Q R S : A → Type 0) (r : Result A E)
    → ((x : A) → P x → Q x → R x → S x) → IfOk r P → IfOk r Q → IfOk r R → IfOk r S
if_ok_three P Q R S (Ok x) f a b c = f x a b c
if_ok_three P Q R S (Err e) f a b c = a

-- ---- what an audit makes of a slot that reads as a leaf or as an inner row. Serves `auditing.examine`.

-- a word that reads as a reference reads as the one that is meant by it
pub reads_meant : (words : List ℕ) (word : ℕ) {r x : layout.Ref} → r ≡ x
    → Reads words word (ref_meant r) → Reads words word (ref_meant x)
reads_meant words word is = subst (λ r. Reads words word (ref_meant r)) is

module _ {E : Type 0} (words : List ℕ) (task : AuditTask) (base : ℕ) (old mid : List Bool)
    (claimed : AreClaimed old mid (rows_on words (ref_of task.word))) where
  -- a leaf in good shape passes
  pub leaf_passes : (new : List Bool) (left : List AuditTask) (found more : List Pair)
      (r : Result Bool E) → Reads words task.word (LeafAt base)
      → IfOk r (λ b. IsTrue b → (visit : Visit) → IsTaskOf visit task → IsGoodLeaf words visit base)
      → IfOk r (λ b. IsTrue b → AreClaimed mid new (row_read words (LeafAt base)))
      → IfOk r (λ b. IsTrue b → more ≡ found ++ pairs_read words (LeafAt base))
      → IfOk r (λ b. IsTrue b → PassesSlot words task old new left left found more)
  leaf_passes new left found more r reads good here is = if_ok_three
      (λ b. IsTrue b → (visit : Visit) → IsTaskOf visit task → IsGoodLeaf words visit base)
      (λ b. IsTrue b → AreClaimed mid new (row_read words (LeafAt base)))
      (λ b. IsTrue b → more ≡ found ++ pairs_read words (LeafAt base))
      (λ b. IsTrue b → PassesSlot words task old new left left found more) r
      (λ b g k e yes.
      record {
        ref = LeafAt base;
        reads = reads;
        good = g yes;
        claimed = claimed_both old mid new (rows_on words (ref_of task.word))
            (row_read words (LeafAt base)) claimed (k yes);
        tasks = sym (append-nil left);
        pairs_are = e yes;
      })
      good here is

  -- another leaf fails
  pub leaf_fails : (r : Result Bool E) → Reads words task.word (LeafAt base)
      → IfOk r (λ b. (IsTrue b → ⊥) → (visit : Visit) → IsTaskOf visit task
      → IsGoodLeaf words visit base → AreRefused mid (row_read words (LeafAt base)))
      → IfOk r (λ b. (IsTrue b → ⊥) → FailsSlot words task old)
  leaf_fails r reads h = if_ok_so
      (λ b. (IsTrue b → ⊥) → (visit : Visit) → IsTaskOf visit task
      → IsGoodLeaf words visit base → AreRefused mid (row_read words (LeafAt base)))
      (λ b. (IsTrue b → ⊥) → FailsSlot words task old) r
      (λ b k no. fails_second words task old mid (LeafAt base) reads claimed
      (λ visit is good. k no visit is good)) h

  -- an inner row in good shape passes
  pub row_passes : (new : List Bool) (left tasks : List AuditTask) (found : List Pair)
      (r : Result Bool E) → Reads words task.word (InnerAt base)
      → IfOk r (λ b. IsTrue b → IsGoodRow words task.node base)
      → IfOk r (λ b. IsTrue b → AreClaimed mid new (row_read words (InnerAt base)))
      → IfOk r (λ b. IsTrue b → tasks ≡ left ++ reverse (tasks_in_row words base task))
      → IfOk r (λ b. IsTrue b → PassesSlot words task old new left tasks found found)
  row_passes new left tasks found r reads good here is =
      grind (arith, if_ok_three, claimed_both, append-nil)

  -- another row fails
  pub row_fails : (r : Result Bool E) → Reads words task.word (InnerAt base)
      → IfOk r (λ b. (IsTrue b → ⊥) → IsGoodRow words task.node base
      → AreRefused mid (row_read words (InnerAt base)))
      → IfOk r (λ b. (IsTrue b → ⊥) → FailsSlot words task old)
  row_fails r reads h = grind (arith, if_ok_so, fails_second)

-- ---- used words hold the same with zeros after them. Serves `laws.zeros_change_nothing`.

module _ (used : List ℕ) (zeros : ℕ) where
  word_same : (place : ℕ) → word_at used place ≡ word_at (used ++ replicate zeros 0) place
  word_same place = at (leb_tells (length used) place)
    where
      zero_at : (n i : ℕ) → word_at (replicate n 0) i ≡ 0
      zero_at zero i = refl
      zero_at (suc n) zero = refl
      zero_at (suc n) (suc i) = zero_at n i

      at : ((nat_le (length used) place ≡ true) × (length used ≤ place)) ⊎
          ((nat_le (length used) place ≡ false) × (place < length used))
          → word_at used place ≡ word_at (used ++ replicate zeros 0) place
      at (inl l) = grind (arith, get_or_past, get_or-append_right, zero_at)
      at (inr l) = sym (get_or_append_left used (replicate zeros 0) 0 place l.1)

  -- used words agree with themselves followed by zeros
  pub with_zeros : word_at used next_place ≡ length used → AreAlike used (used ++ replicate zeros 0)
  with_zeros full = grind (arith, word_same, leb_tells, length-drop, drop-append-le, take-append-le)

  -- lawful words stay lawful with zeros after them
  pub lawful_zeros : first_row ≤ length used → word_at used next_place ≡ length used
      → length used + zeros ≤ place_limit
      → (pairs : List Pair) → AreLawful used pairs → AreLawful (used ++ replicate zeros 0) pairs
  lawful_zeros least full most pairs h = let alike = with_zeros full in
      let long : length (used ++ replicate zeros 0) ≡ length used + zeros =
      length-append used (replicate zeros 0) ∙ ap (λ n. length used + n)
      (length-replicate zeros 0) in
      let n = word_same next_place in let b = h.holds.bounds in record {
        holds = record {
          bounds = record {
            least = omega arith;
            most = omega arith;
            low = omega arith;
            high = omega arith;
            anchor_status = sym (word_same 2) ∙ b.anchor_status;
            free = λ place l m. sym (word_same place) ∙ get_or_past used place 0 (omega arith);
          };
          rows = h.holds.rows;
          walk = subst (λ w. Walks (used ++ replicate zeros 0)
              (record { place = 3; word = w; node = 2; ways = [] } ∷ []) h.holds.rows pairs)
              (word_same 3)
              (walk_same used (used ++ replicate zeros 0) alike (first_visit used ∷ [])
              h.holds.rows pairs h.holds.walk);
        };
        apart = h.apart;
      }

  -- words with zeros after them break first where they did before
  pub break_zeros : word_at used next_place ≡ length used → (place : ℕ) → BreaksFirstAt used []
      (first_visit used ∷ []) place
      → BreaksFirstAt (used ++ replicate zeros 0) [] (first_visit (used ++ replicate zeros 0) ∷
      []) place
  break_zeros full place h = grind (arith, word_same, break_same, with_zeros)
