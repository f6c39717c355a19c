-- How far an audit has come, slot by slot. Serves `auditing.audit_words`.
use Rattle.std.proofs.Common.{◌≡◌, ℕ, ◌+◌, ◌<◌, ◌≤◌, Bool, false, List, [], ◌∷◌, ◌++◌, length, map, reverse, replicate, get_or, Some, None, refl, sym, ap, ◌∙◌, subst, arith}
use Rattle.std.proofs.lemmas.List.{append_assoc, append-nil, get_or-replicate, length-replicate}
use Rattle.std.proofs.lemmas.List.Sums.{sum_by-append, sum_by-cons}
use Rattle.std.specs.List.{sum_by}
use Rattle.ist_core.specs.declared.pairs.Pair.{Pair}
use Rattle.ist_core.specs.WordTerms.{next_place, Ref, Empty, Unset, LeafAt, InnerAt, ChangeAt, RebuildAt, ref_of}
use Rattle.ist_rest.specs.declared.slots.SlotLeft.{SlotLeft}
use Rattle.tele_audit.specs.declared.tasks.AuditTask.{AuditTask}
use Rattle.ist_rest.specs.WordRows.{word_at, rows_on, reads_in}
use Rattle.ist_rest.specs.Walks.{Visit, IsGood, IsGoodAs, Reads, row_read, rows_read, pairs_read, visits_below, Walks, ends, goes_on, first_visit, AreApart}
use Rattle.ist_rest.specs.RestingWords.{HasGoodBounds, AreLawful, read_on, BreaksFirstAt, breaks, later}
use Rattle.tele_audit.specs.Auditing.{AreMarked, IsTaskOf, AreTasksOf, no_task, one_task, tasks_from, tasks_below, PassesSlot, FailsSlot, HasAudited, slot_of_task}
use Rattle.ist_rest.specs.Steps.{work_of, work_left}
use Rattle.ist_rest.proofs.ReverseLemmas.{turned, turned_back, sum_reverse}
use Rattle.ist_rest.proofs.WorkLemmas.{row_falls, slot_work}
use Rattle.ist_rest.proofs.WalkLemmas.{apart_both}
use Rattle.tele_audit.proofs.TaskLemmas.{tasks_append, below_tasks}

-- ---- how far the audit has come

-- the first task is for the first slot
record IsFirstTask (visits : List Visit) (task : AuditTask) (tasks : List AuditTask) : Type 0 where
  visit : Visit
  rest : List Visit
  visits_are : visits ≡ visit ∷ rest
  is : IsTaskOf visit task
  more : AreTasksOf rest tasks

next_task : (visits : List Visit) (ts : List AuditTask) → AreTasksOf visits ts
    → (task : AuditTask) (tasks : List AuditTask) → ts ≡ task ∷ tasks → IsFirstTask visits task tasks
next_task _ _ no_task task tasks e = absurd (cc)
next_task _ _ (one_task {visit = visit} {visits = vs} {task = t} {tasks = ts} one more) task tasks
    e =
    grind arith

no_visit : (visits : List Visit) (ts : List AuditTask) → AreTasksOf visits ts → ts ≡ []
    → visits ≡ []
no_visit _ _ no_task e = refl
no_visit _ _ (one_task one more) e = absurd (cc)

module _ (words : List ℕ) (bounds : HasGoodBounds words) where
  -- before the first task, an audit has found nothing and marked nothing
  pub audit_start : (marks : List Bool) (left none : List AuditTask) (found : List Pair)
      (used first node : ℕ)
      → used ≡ word_at words next_place → first ≡ word_at words 3 → node ≡ 2
      → marks ≡ replicate used false → none ≡ []
      → left ≡ none ++ record { place = 3; word = first; node = node; low = 0; high = None } ∷ []
      → found ≡ []
      → HasAudited words marks left found
  audit_start marks left none found used first node u w is n e given g =
      let m = n ∙ ap (λ k. replicate k false) u in
      let task : AuditTask = record {
        place = 3;
        word = word_at words 3;
        node = 2;
        low = 0;
        high = None;
      } in
      let f = given
      ∙ ap (λ k. none ++ record { place = 3; word = first; node = k; low = 0; high = None } ∷ []) is
      ∙ ap (λ k. none ++ record { place = 3; word = k; node = 2; low = 0; high = None } ∷ []) w in
      let r : reverse left ≡ task ∷ [] = turned left none task f
      ∙ ap (λ (xs : List AuditTask). task ∷ reverse xs) e in
      let one : IsTaskOf (first_visit words) task = record {
        place = refl;
        word = refl;
        node = refl;
        leads = λ key. ((λ h. tt), (λ h. (omega arith, tt)));
      } in
      let l : length marks ≡ word_at words next_place = ap length m
      ∙ length_same (word_at words next_place) in
      record {
        seen = [];
        visits = first_visit words ∷ [];
        long = l;
        marked = record {
          each = λ place less. (
            (λ marked. let out : get_or marks place false ≡ false =
                ap (λ ms. get_or ms place false) m ∙ get_or-replicate (word_at words next_place)
                place false false (omega arith) in cc),
            (λ c. absurd c),
          );
          some = tt;
        };
        tasks = subst (AreTasksOf (first_visit words ∷ [])) (sym r) (one_task one no_task);
        whole = λ rows pairs w apart. subst (λ (ps : List Pair). AreLawful words (ps ++ pairs))
            (sym g) record {
              holds = record { bounds = bounds; rows = rows; walk = w };
              apart = apart;
            };
        broken = λ place b. b;
      }
    where
      length_same : (n : ℕ) → length (replicate n false) ≡ n
      length_same n = length-replicate n false

  -- a task whose slot passes brings the audit one slot further
  pub audit_step : (marks new : List Bool) (left ys more : List AuditTask)
      (found pairs : List Pair) (task : AuditTask) → HasAudited words marks left found
      → left ≡ ys ++ task ∷ [] → PassesSlot words task marks new ys more found pairs
      → length new ≡ length marks → HasAudited words new more pairs
  audit_step marks new left ys more found pairs task h e p long =
      let it = next_task h.visits (reverse left) h.tasks task (reverse ys)
      (turned left ys task e) in
      let ref = p.ref in let visit = it.visit in
      let good : IsGood words visit =
      record {
        ref = ref;
        reads = subst (λ w. Reads words w ref) it.is.word p.reads;
        good = p.good visit it.is;
      } in
      let rows : rows_on words (ref_of task.word) ++ row_read words ref ≡ rows_read words visit
      ref = ap (λ w. rows_on words (ref_of w) ++ row_read words ref) it.is.word in
      let claimed = subst (λ rs. AreApart h.seen rs × AreMarked new (read_on h.seen rs)) rows
      (p.claimed.all h.seen h.marked) in
      let below_all = below_tasks words visit task ref bounds.high it.is good.good in record {
        seen = read_on h.seen (rows_read words visit ref);
        visits = visits_below words visit ref ++ it.rest;
        long = long ∙ h.long;
        marked = claimed.1;
        tasks = subst (AreTasksOf (visits_below words visit ref ++ it.rest))
            (sym (turned_back ys (tasks_below words task ref) more p.tasks))
            (tasks_append (visits_below words visit ref) (tasks_below words task ref) below_all
            it.rest (reverse ys) it.more);
        whole = λ rs ps w apart.
            let all : Walks words h.visits (rows_read words visit ref ++ rs)
            (pairs_read words ref ++ ps) =
            subst (λ vs. Walks words vs (rows_read words visit ref ++ rs)
            (pairs_read words ref ++ ps)) (sym it.visits_are) (goes_on good w) in
            let law = h.whole (rows_read words visit ref ++ rs) (pairs_read words ref ++ ps) all
            (apart_both h.seen (rows_read words visit ref) rs claimed.0 apart) in
            subst (AreLawful words) (sym (append_assoc found (pairs_read words ref) ps)
            ∙ ap (λ xs. xs ++ ps) (sym p.pairs_are)) law;
        broken = λ place b. h.broken place (subst (λ vs. BreaksFirstAt words h.seen vs place)
            (sym it.visits_are) (later good claimed.0 b));
      }

  -- a task whose slot fails is the first place where the words break
  pub audit_fail : (marks : List Bool) (left ys : List AuditTask) (found : List Pair)
      (task : AuditTask) → HasAudited words marks left found
      → left ≡ ys ++ task ∷ [] → FailsSlot words task marks → BreaksFirstAt words []
      (first_visit words ∷ []) task.place
  audit_fail marks left ys found task h e f =
      let it = next_task h.visits (reverse left) h.tasks task (reverse ys)
      (turned left ys task e) in
      let b : BreaksFirstAt words h.seen (it.visit ∷ it.rest) it.visit.place =
      breaks (λ at apart. f.none it.visit it.is h.seen h.marked at apart) in
      subst (BreaksFirstAt words [] (first_visit words ∷ [])) (sym it.is.place)
      (h.broken it.visit.place (subst (λ vs. BreaksFirstAt words h.seen vs it.visit.place)
      (sym it.visits_are) b))

  -- when no task is left, the words are lawful with the pairs that were found
  pub audit_end : (marks : List Bool) (left : List AuditTask) (found : List Pair)
      → HasAudited words marks left found → left ≡ [] → AreLawful words found
  audit_end marks left found h e =
      let none = no_visit h.visits (reverse left) h.tasks (ap reverse e) in
      subst (AreLawful words) (append-nil found)
      (h.whole [] [] (subst (λ vs. Walks words vs [] []) (sym none) ends) tt)

-- ---- the work that is left

slots_of_tasks : (base : ℕ) (task : AuditTask) (keys : List ℕ) (i place : ℕ) (slots : List ℕ)
    → map slot_of_task (tasks_from base task keys i place slots) ≡ map
    (λ w. record { word = w; node = base }) slots
slots_of_tasks base task keys i place [] = refl
slots_of_tasks base task keys i place (word ∷ words) =
    ap (λ (ss : List SlotLeft). record { word = word; node = base } ∷ ss)
    (slots_of_tasks base task keys (i + 1) (place + 1) words)

-- a sum over the slots of tasks
sum_map : (g : SlotLeft → ℕ) (xs : List AuditTask) → sum_by g (map slot_of_task xs) ≡ sum_by
    (λ task. g (slot_of_task task)) xs
sum_map g [] = refl
sum_map g (x ∷ xs) =
    sum_by-cons g (slot_of_task x) (map slot_of_task xs) ∙ ap (λ n. g (slot_of_task x) + n)
    (sum_map g xs) ∙ sym (sum_by-cons (λ task. g (slot_of_task task)) x xs)

below_less : (words : List ℕ) (visit : Visit) (task : AuditTask) (ref : Ref)
    → word_at words next_place ≤ length words → IsTaskOf visit task
    → IsGoodAs words visit ref → reads_in words task.word ≡ Some ref
    → work_left words (map slot_of_task (tasks_below words task ref)) < work_of words
    (slot_of_task task)
below_less words visit task (InnerAt base) used is good e = grind (arith, row_falls, slots_of_tasks)
below_less words visit task Empty used is good e = slot_work words (slot_of_task task)
below_less words visit task Unset used is good e = slot_work words (slot_of_task task)
below_less words visit task (LeafAt base) used is good e = slot_work words (slot_of_task task)
below_less words visit task (ChangeAt base) used is good e = slot_work words (slot_of_task task)
below_less words visit task (RebuildAt base) used is good e = slot_work words (slot_of_task task)

-- a task whose slot passes leaves less work
pub audit_less : (words : List ℕ) → HasGoodBounds words → (marks new : List Bool)
    (left ys more : List AuditTask) (found pairs : List Pair) (task : AuditTask)
    → HasAudited words marks left found → left ≡ ys ++ task ∷ [] → PassesSlot words task marks new
    ys more found pairs
    → work_left words (map slot_of_task more) < work_left words (map slot_of_task left)
audit_less words bounds marks new left ys more found pairs task h e p =
    let it = next_task h.visits (reverse left) h.tasks task (reverse ys) (turned left ys task e) in
    let less = below_less words it.visit task p.ref bounds.high it.is (p.good it.visit it.is)
    p.reads.is in
    let f : AuditTask → ℕ = λ t. work_of words (slot_of_task t) in
    let bs = tasks_below words task p.ref in let a = sum_by-append f ys (reverse bs) in
    let b = sum_reverse f bs in let c = sum_by-append f ys (task ∷ []) in
    let d = sum_by-cons f task [] in let n : sum_by f [] ≡ 0 = refl in let x = ap (sum_by f) e in
    let y = ap (sum_by f) p.tasks in let s = sum_map (work_of words) bs in
    let u = sum_map (work_of words) more in let v = sum_map (work_of words) left in omega arith
