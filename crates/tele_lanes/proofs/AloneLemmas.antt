-- What one thread answers, and what the lanes answer as if alone. Serves the law of lanes.
use Rattle.std.proofs.Common.{◌≡◌, ◌≢◌, inl, inr, ◌+◌, ◌<◌, ◌≤◌, ◌%◌, ◌==◌, ℕ, zero, suc, Bool, true, false, cond, List, [], ◌∷◌, ◌++◌, Some, None, sym, ap, subst, ◌∙◌, refl, arith, map, get_or}
use Rattle.std.specs.List.{flat_map, range_with_len}
use Rattle.std.specs.List.Sorted.{IsPermutation, IsStrictlyIncreasing}
use Rattle.std.specs.Ordering.{nat_cmp, eq_by_cmp, is_eq}
use Rattle.std.specs.declared.cmp.Ordering.TheVariants.{Less, Greater}
use Rattle.std.specs.Cmp.{nat_cmp_total}
use Rattle.std.proofs.lemmas.Bool.{cases_eq, eqb-true, eqb-false, ne_eqb, eq-eqb}
use Rattle.std.proofs.lemmas.List.Sorted.{IsPermutation-refl, IsPermutation-trans, IsPermutation-append_right, IsPermutation-cons, IsPermutation-middle, IsPermutation-sym, Contains-permutation}
use Rattle.ist_core.specs.declared.commands.Command.{Command}
use Rattle.ist_core.specs.declared.commands.Command.TheVariants.{Put, Remove, Get}
use Rattle.ist_core.specs.TreeTerms.{Map, key_of, map_after, reply_to, replay}
use Rattle.tele_lanes.specs.declared.task_lists.Task.{Task}
use Rattle.tele_lanes.specs.declared.answer_lists.Answer.{Answer}
use Rattle.tele_lanes.specs.Lines.{answer_lines, replies_in, task_lines}
use Rattle.tele_lanes.specs.Lanes.{lane_of, lane_tasks, ArePlainAnswers, lane_commands, AnswerAlone, InLineOrder}
use Rattle.std.proofs.lemmas.List.{same_lists}
use Rattle.std.proofs.lemmas.List.FromFn.{get_or-map-range_with_len, length-map-range_with_len}
use Rattle.tele_lanes.proofs.LineLemmas.{flat_map-map, line_of}
use Rattle.tele_lanes.proofs.SplitLemmas.{Climb-from_increasing, same_climbing}
use Rattle.std.specs.FinMap as fin

-- if a number is less or greater, it isn't equal
less_or_greater : (b : Bool) → is_eq (cond b Less Greater) ≡ false
less_or_greater true = refl
less_or_greater false = refl

-- two numbers that differ don't tie
pub eq_by_cmp-differ : (q k : ℕ) → q ≢ k → eq_by_cmp nat_cmp q k ≡ false
eq_by_cmp-differ q k differ = grind (arith, ne_eqb, less_or_greater)

-- a command does the same to what two maps have at a key
pub get-map_after_same : (m n : Map) (c : Command) (q : ℕ) → fin.get m q ≡ fin.get n q
    → fin.get (map_after m c) q ≡ fin.get (map_after n c) q
get-map_after_same m n (Put key value) q same = fin.get-insert nat_cmp_total m key value q
    ∙ ap (λ o. cond (eq_by_cmp nat_cmp q key) (Some value) o) same
    ∙ sym (fin.get-insert nat_cmp_total n key value q)
get-map_after_same m n (Remove key) q same =
    fin.get-remove nat_cmp_total m key q ∙ ap (λ o. cond (eq_by_cmp nat_cmp q key) None o) same
    ∙ sym (fin.get-remove nat_cmp_total n key q)
get-map_after_same m n (Get key) q same = same

-- a command leaves the other keys
pub get-map_after_other : (m : Map) (c : Command) (q : ℕ) → q ≢ key_of c
    → fin.get (map_after m c) q ≡ fin.get m q
get-map_after_other m (Put key value) q other = fin.get-insert nat_cmp_total m key value q
    ∙ ap (λ b. cond b (Some value) (fin.get m q)) (eq_by_cmp-differ q key other)
get-map_after_other m (Remove key) q other = fin.get-remove nat_cmp_total m key q
    ∙ ap (λ b. cond b None (fin.get m q)) (eq_by_cmp-differ q key other)
get-map_after_other m (Get key) q other = refl

-- what one thread answers
abbrev pub answered : Map → List Task → List Answer
answered m [] = []
answered m (t ∷ ts) = record { line = t.line; reply = reply_to m t.command }
    ∷ answered (map_after m t.command) ts

-- the answers of one thread, as the law defines them
pub ArePlainAnswers-answered : (m : Map) (tasks : List Task)
    → ArePlainAnswers m tasks (answered m tasks)
ArePlainAnswers-answered m [] = record { lines = refl; replies = refl }
ArePlainAnswers-answered m (t ∷ ts) =
    let rest : ArePlainAnswers (map_after m t.command) ts (answered (map_after m t.command) ts)
    = ArePlainAnswers-answered (map_after m t.command) ts in
    record { lines = ap (λ l. t.line ∷ l) rest.lines; replies = ap (λ l. reply_to m t.command ∷ l) rest.replies }

-- answers are known by their lines and their replies
pub same_answers : (xs ys : List Answer) → answer_lines xs ≡ answer_lines ys
    → replies_in xs ≡ replies_in ys → xs ≡ ys
same_answers [] [] e f = refl
same_answers [] (y ∷ ys) e f = cc
same_answers (x ∷ xs) [] e f = cc
same_answers (x ∷ xs) (y ∷ ys) e f = let line : x.line ≡ y.line = cc in
    let reply : x.reply ≡ y.reply = cc in
    let head : x ≡ y = λ i. record { line = line i; reply = reply i } in
    let lines : answer_lines xs ≡ answer_lines ys = cc in
    let replies : replies_in xs ≡ replies_in ys = cc in
    let rest : xs ≡ ys = same_answers xs ys lines replies in cc

-- one thread answers in one way
pub answered-from_ArePlainAnswers : (m : Map) (tasks : List Task) (all : List Answer)
    → ArePlainAnswers m tasks all → all ≡ answered m tasks
answered-from_ArePlainAnswers m tasks all alone =
    let own : ArePlainAnswers m tasks (answered m tasks) = ArePlainAnswers-answered m tasks in
    same_answers all (answered m tasks) (alone.lines ∙ sym own.lines)
    (alone.replies ∙ sym own.replies)

-- one thread's answers to all tasks, picked for one lane
abbrev pub picked : ℕ → ℕ → Map → List Task → List Answer
picked workers lane m [] = []
picked workers lane m (t ∷ ts) = cond (lane_of workers t.command == lane)
    (record { line = t.line; reply = reply_to m t.command } ∷ picked workers lane (map_after m t.command) ts)
    (picked workers lane (map_after m t.command) ts)

-- two maps have the same at the keys of a lane
abbrev pub Agree : ℕ → ℕ → Map → Map → Type 0
Agree workers lane m n = (q : ℕ) → q % workers ≡ lane → fin.get m q ≡ fin.get n q

-- the picked answers are what the lane answers as if alone
pub picked_is : (workers lane : ℕ) (m n : Map) (tasks : List Task) → Agree workers lane m n
    → picked workers lane m tasks ≡ answered n (lane_tasks workers lane tasks)
picked_is workers lane m n [] agree = refl
picked_is workers lane m n (t ∷ ts) agree = go (lane_of workers t.command == lane) refl
    (λ p q. picked_is workers lane p q ts)
  where
    go : (b : Bool) → (lane_of workers t.command == lane) ≡ b
        → ((p q : Map) → Agree workers lane p q → picked workers lane p ts ≡ answered q (lane_tasks workers lane ts))
        → cond b (record { line = t.line; reply = reply_to m t.command } ∷ picked workers lane (map_after m t.command) ts)
        (picked workers lane (map_after m t.command) ts)
        ≡ answered n (cond b (t ∷ lane_tasks workers lane ts) (lane_tasks workers lane ts))
    go true e later = grind (arith, eqb-true, get-map_after_same)
    go false e later = grind (arith, get-map_after_other, eqb-false)

-- lists that differ nowhere in a range
pub flat_map-same : {A : Type 0} (f g : ℕ → List A) (from n : ℕ) → ((w : ℕ) → from ≤ w → f w ≡ g w)
    → flat_map f (range_with_len from n) ≡ flat_map g (range_with_len from n)
flat_map-same f g from zero same = refl
flat_map-same f g from (suc n) same = let one : f from ≡ g from = same from (omega arith) in
    let rest : flat_map f (range_with_len (from + 1) n) ≡ flat_map g (range_with_len (from + 1) n)
    = flat_map-same f g (from + 1) n (λ w h. same w (omega arith)) in
    cc

-- one more element in one list of a range
pub flat_map-more : {A : Type 0} (f g : ℕ → List A) (a : A) (at from n : ℕ) → from ≤ at
    → at < from + n → f at ≡ a ∷ g at → ((w : ℕ) → w ≢ at → f w ≡ g w)
    → IsPermutation (flat_map f (range_with_len from n)) (a ∷ flat_map g (range_with_len from n))
flat_map-more f g a at from zero low high here other = absurd (omega arith)
flat_map-more f g a at from (suc n) low high here other =
    elim (cases_eq from at) [
      | inl same ↦
          let one : f from ≡ a ∷ g from = ap f same ∙ here ∙ ap (λ w. a ∷ g w) (sym same) in
          let rest : flat_map f (range_with_len (from + 1) n)
          ≡ flat_map g (range_with_len (from + 1) n)
          = flat_map-same f g (from + 1) n (λ w h. other w (λ e. omega arith)) in
          subst (λ l. IsPermutation l (a ∷ (g from ++ flat_map g (range_with_len (from + 1) n))))
          (ap (λ l. (a ∷ g from) ++ l) (sym rest) ∙ ap (λ l. l ++ flat_map f (range_with_len (from + 1) n)) (sym one))
          (IsPermutation-refl _)
      | inr differ ↦
          subst (λ l. IsPermutation (l ++ flat_map f (range_with_len (from + 1) n)) (a ∷ (g from ++ flat_map g (range_with_len (from + 1) n))))
          (sym (other from differ))
          (IsPermutation-trans _ _ _
          (IsPermutation-append_right (g from) _ _
          (flat_map-more f g a at (from + 1) n (omega arith) (omega arith) here other))
          (IsPermutation-middle (g from) a (flat_map g (range_with_len (from + 1) n))))
    ]

-- nothing, for each of a list
pub flat_map-nil : {X A : Type 0} (xs : List X) → flat_map {A = A} (λ x. []) xs ≡ []
flat_map-nil [] = refl
flat_map-nil (x ∷ xs) = flat_map-nil xs

-- a remainder lies below
pub lane_below : (workers : ℕ) (c : Command) → 0 < workers → lane_of workers c < workers
lane_below workers c h = omega arith

-- the answers for all lanes are the answers of one thread
pub IsPermutation-picked : (workers : ℕ) (m : Map) (tasks : List Task) → 0 < workers
    → IsPermutation (flat_map (λ lane. picked workers lane m tasks) (range_with_len 0 workers))
    (answered m tasks)
IsPermutation-picked workers m [] h = subst (λ l. IsPermutation l [])
    (sym (flat_map-nil (range_with_len 0 workers))) (IsPermutation-refl [])
IsPermutation-picked workers m (t ∷ ts) h =
    let a : Answer = record { line = t.line; reply = reply_to m t.command } in
    let f : ℕ → List Answer = λ lane. picked workers lane m (t ∷ ts) in
    let g : ℕ → List Answer = λ lane. picked workers lane (map_after m t.command) ts in
    IsPermutation-trans _ _ _
    (flat_map-more f g a (lane_of workers t.command) 0 workers (omega arith) (omega (arith, lane_below workers t.command h))
    (ap (λ b. cond b (a ∷ g (lane_of workers t.command)) (g (lane_of workers t.command)))
    (eq-eqb (lane_of workers t.command) (lane_of workers t.command) refl))
    (λ w differ. ap (λ b. cond b (a ∷ g w) (g w)) (ne_eqb (lane_of workers t.command) w (λ e. differ (sym e)))))
    (IsPermutation-cons a _ _ (IsPermutation-picked workers (map_after m t.command) ts h))

-- ---- the lanes' answers, merged in line order, are one thread's. Serves the law of lanes.

-- lanes that answer alone have the answers that are picked for each from one thread's answers
pub picked-from_AnswerAlone : (m : Map) (workers : ℕ) (tasks : List Task) (lanes : List (List Answer)) → AnswerAlone m workers tasks lanes
    → lanes ≡ map (λ lane. picked workers lane m tasks) (range_with_len 0 workers)
picked-from_AnswerAlone m workers tasks lanes alone =
    let f : ℕ → List Answer = λ lane. picked workers lane m tasks in
    same_lists lanes (map f (range_with_len 0 workers))
    (alone.len ∙ sym (length-map-range_with_len f 0 workers))
    (λ k d h. let h' : k < workers = omega (arith, alone.len) in
    answered-from_ArePlainAnswers m (lane_tasks workers k tasks) (get_or lanes k d)
    (alone.each k d h')
    ∙ sym (picked_is workers k m m tasks (λ q e. refl))
    ∙ sym (get_or-map-range_with_len f 0 workers k k d h' (omega arith)))

-- the answers of all lanes are one thread's, in some order
pub IsPermutation-alone : (m : Map) (workers : ℕ) (tasks : List Task) (lanes : List (List Answer))
    → 0 < workers → AnswerAlone m workers tasks lanes
    → IsPermutation (flat_map (λ answers. answers) lanes) (answered m tasks)
IsPermutation-alone m workers tasks lanes h alone = subst (λ l. IsPermutation l (answered m tasks))
    (sym (ap (λ l. flat_map (λ answers. answers) l) (picked-from_AnswerAlone m workers tasks lanes alone)
    ∙ flat_map-map (λ lane. picked workers lane m tasks) (range_with_len 0 workers)))
    (IsPermutation-picked workers m tasks h)

-- the answers of one thread are the lanes' in line order
pub InLineOrder-answered : (m : Map) (workers : ℕ) (tasks : List Task) (lanes : List (List Answer))
    → 0 < workers → IsStrictlyIncreasing (task_lines tasks) → AnswerAlone m workers tasks lanes
    → InLineOrder lanes (answered m tasks)
InLineOrder-answered m workers tasks lanes h up alone =
    let own : ArePlainAnswers m tasks (answered m tasks) = ArePlainAnswers-answered m tasks in
    record {
      same = IsPermutation-alone m workers tasks lanes h alone;
      rising = subst IsStrictlyIncreasing (sym own.lines) up;
    }

-- lists have one line order
pub InLineOrder-one : (lanes : List (List Answer)) (xs ys : List Answer) → InLineOrder lanes xs
    → InLineOrder lanes ys → xs ≡ ys
InLineOrder-one lanes xs ys one two =
    let flat : List Answer = flat_map (λ answers. answers) lanes in
    same_climbing line_of xs ys (Climb-from_increasing line_of xs one.rising)
    (Climb-from_increasing line_of ys two.rising)
    (λ a c. Contains-permutation flat ys a two.same (Contains-permutation xs flat a (IsPermutation-sym flat xs one.same) c))
    (λ a c. Contains-permutation flat xs a one.same (Contains-permutation ys flat a (IsPermutation-sym flat ys two.same) c))

-- the value of a key at the end comes from its lane's commands only
pub get-replay_lane : (workers key : ℕ) (m n : Map) (commands : List Command)
    → fin.get m key ≡ fin.get n key → fin.get (replay m commands) key
    ≡ fin.get (replay n (lane_commands workers (key % workers) commands)) key
get-replay_lane workers key m n [] same = same
get-replay_lane workers key m n (c ∷ cs) same = go (lane_of workers c == key % workers) refl
    (λ p q. get-replay_lane workers key p q cs)
  where
    go : (b : Bool) → (lane_of workers c == key % workers) ≡ b
        → ((p q : Map) → fin.get p key ≡ fin.get q key
        → fin.get (replay p cs) key
        ≡ fin.get (replay q (lane_commands workers (key % workers) cs)) key)
        → fin.get (replay (map_after m c) cs) key
        ≡ fin.get (replay n (cond b (c ∷ lane_commands workers (key % workers) cs) (lane_commands workers (key % workers) cs))) key
    go true e later = later (map_after m c) (map_after n c) (get-map_after_same m n c key same)
    go false e later = grind (arith, get-map_after_other, eqb-false)
