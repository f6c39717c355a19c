-- The lines of lanes: of what they answered, and of what they left. Serves `gather` and
-- `open_tasks`.
use Rattle.std.proofs.Common.{◌≡◌, ◌+◌, ◌<◌, ℕ, List, [], ◌∷◌, ◌++◌, length, map, take, drop, get_or, eqb, sym, ap, subst, ◌∙◌, refl, arith, All, Result, Ok, Err, IfOk}
use Rattle.std.specs.List.{flat_map, IsDistinct}
use Rattle.std.specs.List.Sorted.{IsPermutation, IsNonDecreasingBy, IsStrictlyIncreasing}
use Rattle.std.proofs.lemmas.List.{get_or-map, get_or-take, length-map, length-take, map-append, take-append-drop, drop-map, append-nil}
use Rattle.std.proofs.lemmas.List.Sorted.{IsNonDecreasingBy-from_all_adjacent}
use Rattle.tele_lanes.specs.declared.task_lists.Task.{Task}
use Rattle.tele_lanes.specs.declared.answer_lists.Answer.{Answer}
use Rattle.tele_lanes.specs.Lines.{task_lines, answer_lines, AnswerInOrder}
use Rattle.tele_lanes.specs.Lanes.{HaveOwnLines, unanswered, InLineOrder, TasksInLineOrder}
use Rattle.tele_lanes.proofs.DistinctLemmas.{IsPieceOf, IsDistinct-pieces, sorted_rises}

-- what holds of a value on two counts
pub IfOk-both : {T E : Type 0} (r : Result T E) (P Q R : T → Type 0) → ((x : T) → P x → Q x → R x)
    → IfOk r P → IfOk r Q → IfOk r R
IfOk-both (Ok x) P Q R both p q = both x p q
IfOk-both (Err e) P Q R both p q = tt

-- the line of an answer
abbrev pub line_of : Answer → ℕ
line_of a = a.line

-- the line of a task
abbrev pub line_of_task : Task → ℕ
line_of_task t = t.line

-- the lines never decrease
abbrev pub Rise : List Answer → Type 0
Rise xs = IsNonDecreasingBy line_of xs

-- the first numbers of a strictly increasing list
pub IsStrictlyIncreasing-take : (n : ℕ) (xs : List ℕ) → IsStrictlyIncreasing xs
    → IsStrictlyIncreasing (take n xs)
IsStrictlyIncreasing-take n xs up k h = grind (arith, length-take, get_or-take)

-- answers with strictly increasing lines
pub Rise-from_increasing : (answers : List Answer) → IsStrictlyIncreasing (answer_lines answers)
    → Rise answers
Rise-from_increasing answers up =
    IsNonDecreasingBy-from_all_adjacent line_of answers (λ k d h.
    let one : get_or (answer_lines answers) k 0 ≡ line_of (get_or answers k d)
    = get_or-map line_of answers k d 0 (omega arith) in
    let next : get_or (answer_lines answers) (k + 1) 0 ≡ line_of (get_or answers (k + 1) d)
    = get_or-map line_of answers (k + 1) d 0 h in
    let less : get_or (answer_lines answers) k 0 < get_or (answer_lines answers) (k + 1) 0
    = up k (omega (arith, length-map answers line_of)) in
    omega arith)

-- a map over lists put one after another
pub map-flat_map : {X A B : Type 0} (g : A → B) (f : X → List A) (xs : List X)
    → map g (flat_map f xs) ≡ flat_map (λ x. map g (f x)) xs
map-flat_map g f [] = refl
map-flat_map g f (x ∷ xs) = map-append g (f x) (flat_map f xs)
    ∙ ap (λ l. map g (f x) ++ l) (map-flat_map g f xs)

-- a map before a flat_map
pub flat_map-map : {X A : Type 0} (f : X → List A) (xs : List X)
    → flat_map (λ l. l) (map f xs) ≡ flat_map f xs
flat_map-map f [] = refl
flat_map-map f (x ∷ xs) = ap (λ l. f x ++ l) (flat_map-map f xs)

-- ---- lanes of any kind, by their tasks and their answers

module _ {L : Type 0} (tasks_of : L → List Task) (answers_of : L → List Answer) (lanes : List L)
    (own : HaveOwnLines (map tasks_of lanes)) where
  -- the lines of all tasks, lane by lane
  abbrev lines : L → List ℕ
  lines l = task_lines (tasks_of l)

  -- no line comes twice
  IsDistinct-lines : IsDistinct eqb (flat_map lines lanes)
  IsDistinct-lines = grind (arith, flat_map-map, map-flat_map)

  -- no line of an answer comes twice
  pub IsDistinct-answered : All (λ l. AnswerInOrder (tasks_of l) (answers_of l)) lanes
      → IsDistinct eqb (map line_of (flat_map answers_of lanes))
  IsDistinct-answered first = subst (IsDistinct eqb) (sym (map-flat_map line_of answers_of lanes))
      (IsDistinct-pieces lines (λ l. answer_lines (answers_of l)) lanes
      (λ k d h. first_piece (get_or lanes k d) (first k d h)) IsDistinct-lines)
    where
      -- the answered lines are the first of all
      first_piece : (l : L) → AnswerInOrder (tasks_of l) (answers_of l)
          → IsPieceOf (answer_lines (answers_of l)) (lines l)
      first_piece l in_order = let n = length (answers_of l) in record {
        front = [];
        back = drop n (lines l);
        is = sym (ap (λ xs. xs ++ drop n (lines l)) in_order ∙ take-append-drop n (lines l));
      }

  -- no line of a task that was left comes twice
  pub IsDistinct-unanswered : IsDistinct eqb
      (map line_of_task (flat_map (λ l. unanswered (tasks_of l) (answers_of l)) lanes))
  IsDistinct-unanswered = subst (IsDistinct eqb)
      (sym (map-flat_map line_of_task (λ l. unanswered (tasks_of l) (answers_of l)) lanes))
      (IsDistinct-pieces lines (λ l. task_lines (unanswered (tasks_of l) (answers_of l))) lanes
      (λ k d h. last_piece (get_or lanes k d)) IsDistinct-lines)
    where
      -- the lines that were left are the last of all
      last_piece : (l : L) → IsPieceOf (task_lines (unanswered (tasks_of l) (answers_of l))) (lines l)
      last_piece l = let n = length (answers_of l) in record {
        front = take n (lines l);
        back = [];
        is = sym (append-nil _
            ∙ ap (λ xs. take n (lines l) ++ xs) (sym (drop-map line_of_task n (tasks_of l)))
            ∙ take-append-drop n (lines l));
      }

  -- the answers sorted by line are in line order
  pub gathered_answers : (all : List Answer)
      → All (λ l. AnswerInOrder (tasks_of l) (answers_of l)) lanes
      → IsPermutation (flat_map answers_of lanes) all → Rise all
      → InLineOrder (map answers_of lanes) all
  gathered_answers all first same up =
      grind (arith, flat_map-map, sorted_rises, IsDistinct-answered)

  -- the tasks that were left, sorted by line, are in line order
  pub gathered_tasks : (all : List Task)
      → IsPermutation (flat_map (λ l. unanswered (tasks_of l) (answers_of l)) lanes) all
      → IsNonDecreasingBy line_of_task all
      → TasksInLineOrder (map (λ l. unanswered (tasks_of l) (answers_of l)) lanes) all
  gathered_tasks all same up = grind (arith, flat_map-map, sorted_rises, IsDistinct-unanswered)
