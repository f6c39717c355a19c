-- The tasks of each lane, one task at a time. Serves `split`.
use Rattle.std.proofs.Common.{◌≡◌, ◌≢◌, inl, inr, ◌+◌, ◌<◌, ◌==◌, ℕ, Bool, List, [], ◌∷◌, ◌++◌, length, set, take, get_or, sym, ap, ◌∙◌, arith, ◌⊎◌, zero, suc, true, map, subst, refl, AllPairs, Contains, eqb}
use Rattle.std.proofs.lemmas.Bool.{cases_eq, ne_eqb, cases_lt, eqb-true}
use Rattle.std.proofs.lemmas.List.{same_lists, take_more, append-nil, length-set, get_or-set_same, get_or-set_other, get_or-map, get_or_default, length-map}
use Rattle.std.proofs.lemmas.List.Elements.{filter-append, All-contains, All-filter, All-contains_itself, filter_passes, Contains-get_or}
use Rattle.std.proofs.lemmas.List.FromFn.{get_or-map-range_with_len, length-map-range_with_len, get_or-range_with_len, length-range_with_len}
use Rattle.tele_lanes.specs.declared.task_lists.Task.{Task}
use Rattle.tele_lanes.specs.Lanes.{lane_of, lane_tasks, all_lane_tasks, HaveOwnLines}
use Rattle.std.specs.List.{range_with_len, IsDistinct}
use Rattle.std.specs.List.Sorted.{IsStrictlyIncreasing}
use Rattle.std.proofs.lemmas.List.Kept.{AllPairs-from_increasing, AllPairs-filter}
use Rattle.ist_core.specs.declared.commands.Command.TheVariants.{Get}
use Rattle.tele_lanes.specs.Lines.{task_lines, ShareNoLine}
use Rattle.tele_lanes.proofs.DistinctLemmas.{Contains-later, IsDistinct-flat_map}
use Rattle.tele_lanes.proofs.LineLemmas.{flat_map-map, map-flat_map}

-- whether a task goes to this lane
abbrev pub is_in : ℕ → ℕ → Task → Bool
is_in workers lane t = lane_of workers t.command == lane

-- one more task, in its lane
pub lane_tasks-push_here : (workers lane : ℕ) (tasks : List Task) (t : Task)
    → lane_of workers t.command ≡ lane
    → lane_tasks workers lane (tasks ++ t ∷ []) ≡ lane_tasks workers lane tasks ++ t ∷ []
lane_tasks-push_here workers lane tasks t here = grind (arith, filter-append)

-- one more task, in another lane
pub lane_tasks-push_other : (workers lane : ℕ) (tasks : List Task) (t : Task)
    → lane_of workers t.command ≢ lane
    → lane_tasks workers lane (tasks ++ t ∷ []) ≡ lane_tasks workers lane tasks
lane_tasks-push_other workers lane tasks t other = grind (arith, filter-append, ne_eqb, append-nil)

-- the tasks of the lane at a place
pub get_or-all_lane_tasks : (workers lane : ℕ) (tasks : List Task) (d : List Task) → lane < workers
    → get_or (all_lane_tasks workers tasks) lane d ≡ lane_tasks workers lane tasks
get_or-all_lane_tasks workers lane tasks d h = grind (arith, get_or-map-range_with_len)

-- there is a list for each worker
pub length-all_lane_tasks : (workers : ℕ) (tasks : List Task)
    → length (all_lane_tasks workers tasks) ≡ workers
length-all_lane_tasks workers tasks = grind (arith, length-map-range_with_len)

-- a task is added at the end of its lane
pub all_lane_tasks-push : (workers lane : ℕ) (tasks : List Task) (t : Task)
    → lane_of workers t.command ≡ lane → lane < workers
    → set (all_lane_tasks workers tasks) lane (lane_tasks workers lane tasks ++ t ∷ [])
    ≡ all_lane_tasks workers (tasks ++ t ∷ [])
all_lane_tasks-push workers lane tasks t here in_range =
    grind (
      arith,
      length-set,
      length-all_lane_tasks,
      same_lists,
      cases_eq,
      get_or-set_same,
      lane_tasks-push_here,
      get_or-all_lane_tasks,
      get_or-set_other,
      lane_tasks-push_other,
    )

-- a loop's step: the lists for the first tasks, with the next task put into its lane
pub all_lane_tasks-more : (workers lane : ℕ) (lists : List (List Task)) (tasks : List Task) (i : ℕ) (d : Task) (old new : List Task)
    → lists ≡ all_lane_tasks workers (take i tasks) → i < length tasks
    → lane ≡ lane_of workers (get_or tasks i d).command → lane < workers
    → old ≡ get_or lists lane old → new ≡ old ++ get_or tasks i d ∷ []
    → set lists lane new ≡ all_lane_tasks workers (take (i + 1) tasks)
all_lane_tasks-more workers lane lists tasks i d old new lists_is h here in_range old_is new_is =
    grind (arith, get_or-all_lane_tasks, all_lane_tasks-push, take_more)

-- ---- lists whose lines increase from each element to all later ones. Serves the laws of lanes.

-- the head or one of the rest
pub Contains-cons_cases : {X : Type 0} (y : X) (ys : List X) (x : X) → Contains (y ∷ ys) x
    → (y ≡ x) ⊎ Contains ys x
Contains-cons_cases y ys x (zero, h, e) = inl e
Contains-cons_cases y ys x (suc k, h, e) = inr (k, omega arith, e)

module _ {X : Type 0} (n : X → ℕ) where
  -- n of each element is below n of all later ones
  abbrev pub Climb : List X → Type 0
  Climb xs = AllPairs (λ a b. n a < n b) xs

  -- numbers that increase from one to the next increase to all later ones
  pub Climb-from_increasing : (xs : List X) → IsStrictlyIncreasing (map n xs) → Climb xs
  Climb-from_increasing xs up i j d lt h =
      let less : get_or (map n xs) i 0 < get_or (map n xs) j 0
      = AllPairs-from_increasing (map n xs) up i j 0 lt (omega (arith, length-map xs n)) in
      let low : get_or (map n xs) i 0 ≡ n (get_or xs i d) = get_or-map n xs i d 0 (omega arith) in
      let high : get_or (map n xs) j 0 ≡ n (get_or xs j d) = get_or-map n xs j d 0 h in omega arith

  -- numbers that increase to all later ones increase from one to the next
  pub IsStrictlyIncreasing-from_Climb : (d : X) (xs : List X) → Climb xs
      → IsStrictlyIncreasing (map n xs)
  IsStrictlyIncreasing-from_Climb d xs up k h =
      let h' : k + 1 < length xs = omega (arith, length-map xs n) in
      rw (get_or-map n xs k d 0 (omega arith), get_or-map n xs (k + 1) d 0 h')
      (up k (k + 1) d (omega arith) h')

  -- the rest climbs
  pub Climb-tail : (x : X) (xs : List X) → Climb (x ∷ xs) → Climb xs
  Climb-tail x xs up i j d lt h = up (suc i) (suc j) d (omega arith) (omega arith)

  -- the head lies below all of the rest
  pub Climb-head : (x : X) (xs : List X) (a : X) → Climb (x ∷ xs) → Contains xs a → n x < n a
  Climb-head x xs a up (k, h, e) = subst (λ b. n x < n b) e
      (up 0 (suc k) a (omega arith) (omega arith))

  -- elements with the same number are the same
  pub same_element : (xs : List X) (a b : X) → Climb xs → Contains xs a → Contains xs b → n a ≡ n b
      → a ≡ b
  same_element xs a b up (i, hi, ei) (j, hj, ej) same =
      elim (cases_lt i j) [
        | inl lt ↦ let less : n (get_or xs i a) < n (get_or xs j a) = up i j a lt hj in
            let low : n (get_or xs i a) ≡ n a = ap n ei in
            let high : n (get_or xs j a) ≡ n b = ap n (get_or_default xs j a b hj ∙ ej) in
            absurd (omega arith)
        | inr ge ↦ elim (cases_lt j i) [
          | inl lt ↦ let less : n (get_or xs j b) < n (get_or xs i b) = up j i b lt hi in
              let low : n (get_or xs j b) ≡ n b = ap n ej in
              let high : n (get_or xs i b) ≡ n a = ap n (get_or_default xs i b a hi ∙ ei) in
              absurd (omega arith)
          | inr le ↦ let at : i ≡ j = omega arith in
              sym ei ∙ ap (λ k. get_or xs k a) at ∙ get_or_default xs j a b hj ∙ ej
        ]
      ]

  -- what the rests of two lists have, if their heads are the same
  pub rest_members : (x y : X) (xs ys : List X) → x ≡ y → Climb (x ∷ xs)
      → ((a : X) → Contains (x ∷ xs) a → Contains (y ∷ ys) a) → (a : X) → Contains xs a
      → Contains ys a
  rest_members x y xs ys same up to a c =
      elim (Contains-cons_cases y ys a (to a (Contains-later x xs a c))) [
        | inl e ↦ let less : n x < n a = Climb-head x xs a up c in
            let tie : n x ≡ n a = ap n (same ∙ e) in absurd (omega arith)
        | inr d ↦ d
      ]

  -- lists that climb and have the same elements are the same
  pub same_climbing : (xs ys : List X) → Climb xs → Climb ys
      → ((a : X) → Contains xs a → Contains ys a)
      → ((a : X) → Contains ys a → Contains xs a) → xs ≡ ys
  same_climbing [] [] up_xs up_ys to back = refl
  same_climbing [] (y ∷ ys) up_xs up_ys to back = absurd (nowhere (back y (0, omega arith, refl)))
    where
      nowhere : Contains [] y → ⊥
      nowhere (k, h, e) = omega arith
  same_climbing (x ∷ xs) [] up_xs up_ys to back = absurd (nowhere (to x (0, omega arith, refl)))
    where
      nowhere : Contains [] x → ⊥
      nowhere (k, h, e) = omega arith
  same_climbing (x ∷ xs) (y ∷ ys) up_xs up_ys to back =
      let head : x ≡ y = elim (Contains-cons_cases y ys x (to x (0, omega arith, refl))) [
        | inl e ↦ sym e
        | inr c ↦ elim (Contains-cons_cases x xs y (back y (0, omega arith, refl))) [
          | inl e ↦ e
          | inr d ↦ let less : n y < n x = Climb-head y ys x up_ys c in
              let more : n x < n y = Climb-head x xs y up_xs d in absurd (omega arith)
        ]
      ] in
      let rest : xs ≡ ys = same_climbing xs ys (Climb-tail x xs up_xs) (Climb-tail y ys up_ys)
      (rest_members x y xs ys head up_xs to) (rest_members y x ys xs (sym head) up_ys back) in
      cc

-- the line of a task
abbrev pub line_of : Task → ℕ
line_of t = t.line

-- a task of a lane
pub record Chosen (workers lane : ℕ) (tasks : List Task) (line : ℕ) : Type 0 where
  pub task : Task
  pub line_is : task.line ≡ line
  pub member : Contains tasks task
  pub lane_is : lane_of workers task.command ≡ lane

-- a line of a lane is the line of a task of the lane
pub Chosen-from_lane : (workers lane : ℕ) (tasks : List Task) (line : ℕ)
    → Contains (task_lines (lane_tasks workers lane tasks)) line → Chosen workers lane tasks line
Chosen-from_lane workers lane tasks line (k, h, e) =
    let d : Task = record { line = 0; command = Get 0 } in
    let mine = lane_tasks workers lane tasks in
    let h' : k < length mine = omega (arith, length-map mine line_of) in
    let t : Task = get_or mine k d in let inside : Contains mine t = Contains-get_or mine k d h' in
    record {
      task = t;
      line_is = sym (get_or-map line_of mine k d line h') ∙ e;
      member = All-contains (Contains tasks) mine t (All-filter (is_in workers lane) (Contains tasks) tasks (All-contains_itself tasks)) inside;
      lane_is = eqb-true _ _ (All-contains (λ x. is_in workers lane x ≡ true) mine t (filter_passes (is_in workers lane) tasks) inside);
    }

-- two lanes have no line in common
pub lane_tasks-apart : (workers i j : ℕ) (tasks : List Task)
    → IsStrictlyIncreasing (task_lines tasks) → i ≢ j
    → ShareNoLine (lane_tasks workers i tasks) (lane_tasks workers j tasks)
lane_tasks-apart workers i j tasks up differ line here there =
    let one = Chosen-from_lane workers i tasks line here in
    let two = Chosen-from_lane workers j tasks line there in
    let same : one.task ≡ two.task
    = same_element line_of tasks one.task two.task (Climb-from_increasing line_of tasks up) one.member two.member (one.line_is ∙ sym two.line_is) in
    differ (sym one.lane_is ∙ ap (λ t. lane_of workers t.command) same ∙ two.lane_is)

-- the lines of a lane are strictly increasing
pub lane_tasks-rising : (workers lane : ℕ) (tasks : List Task)
    → IsStrictlyIncreasing (task_lines tasks)
    → IsStrictlyIncreasing (task_lines (lane_tasks workers lane tasks))
lane_tasks-rising workers lane tasks up =
    IsStrictlyIncreasing-from_Climb line_of (record { line = 0; command = Get 0 })
    (lane_tasks workers lane tasks)
    (AllPairs-filter (λ a b. line_of a < line_of b) (is_in workers lane) tasks (Climb-from_increasing line_of tasks up))

-- no two tasks of all lanes have the same line
pub HaveOwnLines-all_lane_tasks : (workers : ℕ) (tasks : List Task)
    → IsStrictlyIncreasing (task_lines tasks) → HaveOwnLines (all_lane_tasks workers tasks)
HaveOwnLines-all_lane_tasks workers tasks up = let range = range_with_len 0 workers in
    let mine : ℕ → List ℕ = λ lane. task_lines (lane_tasks workers lane tasks) in
    subst (IsDistinct eqb)
    (sym (ap (map (λ t. t.line)) (flat_map-map (λ lane. lane_tasks workers lane tasks) range)
    ∙ map-flat_map (λ t. t.line) (λ lane. lane_tasks workers lane tasks) range))
    (IsDistinct-flat_map mine range
    (λ k d h. lane_tasks-rising workers (get_or range k d) tasks up)
    (λ i j d lt h. let within : j < workers = omega (arith, length-range_with_len 0 workers) in
    lane_tasks-apart workers (get_or range i d) (get_or range j d) tasks up
    (λ same. omega (arith, same, get_or-range_with_len 0 workers i d, get_or-range_with_len 0 workers j d))))
