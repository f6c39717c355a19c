-- The tasks of an audit: which keys lead to a slot. Serves `auditing`.
use Rattle.std.proofs.Common.{◌≡◌, ℕ, ◌+◌, ◌-◌, ◌<◌, ◌≤◌, ◌⊎◌, ◌↔◌, nat_lt, true, false, List, [], ◌∷◌, ◌++◌, length, get_or, Option, Some, None, refl, sym, arith}
use Rattle.std.proofs.lemmas.Bool.Decides.{leb_tells, eqb_tells, nat_tests}
use Rattle.std.specs.List.Sorted.{IsStrictlyIncreasing}
use Rattle.ist_core.specs.WordTerms.{next_place, Ref, Empty, Unset, LeafAt, InnerAt, ChangeAt, RebuildAt}
use Rattle.ist_math.proofs.ChildLemmas.{child_count_is, key_before_child, key_after_child}
use Rattle.tele_audit.specs.declared.tasks.AuditTask.{AuditTask}
use Rattle.ist_rest.specs.WordRows.{word_at}
use Rattle.ist_rest.specs.Walks.{Visit, IsGoodAs, visits_from, visits_below}
use Rattle.tele_audit.specs.Auditing.{IsUnderBound, IsTaskOf, AreTasksOf, no_task, one_task, low_of, lower_of, high_of, child_task, tasks_from, tasks_below}
use Rattle.ist_rest.proofs.WordRowLemmas.{row_lengths}

-- a test by <
ltb_tells : (a b : ℕ) → ((nat_lt a b ≡ true) × (a < b)) ⊎ ((nat_lt a b ≡ false) × (b ≤ a))
ltb_tells a b = grind (arith, nat_tests)

-- ---- keys

-- the lower bound of a child
low_told : (low : ℕ) (keys : List ℕ) (i x : ℕ) → (low_of low keys i ≤ x) ↔
    ((low ≤ x) × (0 < i → get_or keys (i - 1) 0 ≤ x))
low_told low keys i x = grind (arith, eqb_tells, leb_tells)

lower_told : (high : Option ℕ) (k x : ℕ) → (x < lower_of high k) ↔ (IsUnderBound high x × (x < k))
lower_told None k x = ((λ h. (tt, h)), (λ h. h.1))
lower_told (Some high) k x = grind arith

high_told : (high : Option ℕ) (keys : List ℕ) (i x : ℕ) → IsUnderBound (high_of high keys i) x ↔
    (IsUnderBound high x × (i < length keys → x < get_or keys i 0))
high_told high keys i x = grind (arith, ltb_tells, lower_told)

-- ---- tasks

child_is_task : (visit : Visit) (task : AuditTask) (base : ℕ) (keys : List ℕ) (i place word : ℕ)
    → IsTaskOf visit task → IsStrictlyIncreasing keys
    → i ≤ length keys
    → IsTaskOf record {
      place = place;
      word = word;
      node = base;
      ways = record { keys = keys; index = i } ∷ visit.ways;
    } (child_task base task keys i place word)
child_is_task visit task base keys i place word h rises within = record {
  place = refl;
  word = refl;
  node = refl;
  leads = λ key. let low = low_told task.low keys i key in
      let high = high_told task.high keys i key in
      let up = h.leads key in (
        (λ in_it. let a = low.0 in_it.0 in let b = high.0 in_it.1 in
            (child_count_is keys key i rises within b.1 a.1, up.0 (a.0, b.0))),
        (λ led. let is = sym led.0 in let y = up.1 led.1 in (
          low.1 (y.0, key_before_child keys rises key i is),
          high.1 (y.1, key_after_child keys rises key i is),
        )),
      );
}

tasks_from_are : (visit : Visit) (task : AuditTask) (base : ℕ) (keys : List ℕ)
    → IsTaskOf visit task → IsStrictlyIncreasing keys
    → (i place : ℕ) (slots : List ℕ) → i + length slots ≡ length keys + 1
    → AreTasksOf (visits_from base visit.ways keys i place slots)
    (tasks_from base task keys i place slots)
tasks_from_are visit task base keys h rises i place [] e = no_task
tasks_from_are visit task base keys h rises i place (word ∷ words) e =
    one_task (child_is_task visit task base keys i place word h rises (omega arith))
    (tasks_from_are visit task base keys h rises (i + 1) (place + 1) words (omega arith))

-- tasks of joined slots are the joined tasks
pub tasks_append : (vs : List Visit) (ts : List AuditTask) → AreTasksOf vs ts
    → (ws : List Visit) (us : List AuditTask) → AreTasksOf ws us → AreTasksOf (vs ++ ws) (ts ++ us)
tasks_append _ _ no_task ws us h = h
tasks_append _ _ (one_task {visits = vs} {tasks = ts} one more) ws us h =
    one_task one (tasks_append vs ts more ws us h)

-- the tasks for the slots below a slot in good shape
pub below_tasks : (words : List ℕ) (visit : Visit) (task : AuditTask) (ref : Ref)
    → word_at words next_place ≤ length words → IsTaskOf visit task
    → IsGoodAs words visit ref → AreTasksOf (visits_below words visit ref)
    (tasks_below words task ref)
below_tasks words visit task Empty used h good = no_task
below_tasks words visit task Unset used h good = absurd good
below_tasks words visit task (LeafAt base) used h good = no_task
below_tasks words visit task (InnerAt base) used h good = grind (arith, row_lengths, tasks_from_are)
below_tasks words visit task (ChangeAt base) used h good = absurd good
below_tasks words visit task (RebuildAt base) used h good = absurd good
