-- How a round goes on after a table that ran full. Serves `run_round`.
use Rattle.std.proofs.Common.{◌≡◌, ℕ, suc, ◌+◌, ◌<◌, ◌≤◌, List, [], ◌∷◌, ◌++◌, length, Option, refl, sym, ap, subst, ◌∙◌, arith, slice_index, drop, get_or}
use Rattle.std.specs.List.Sorted.{IsStrictlyIncreasing}
use Rattle.std.proofs.lemmas.List.{length-append, nil_from_length}
use Rattle.std.proofs.lemmas.List.Elements.{All-push}
use Rattle.ist_core.specs.declared.pairs.Pair.{Pair}
use Rattle.ist_core.specs.declared.ports.Full.{Full}
use Rattle.ist_core.specs.WordTerms.{place_limit}
use Rattle.ist_core.specs.TreeTerms.{map_of, pairs_of, map_after, replay}
use Rattle.tele_lanes.specs.declared.task_lists.Task.{Task}
use Rattle.tele_lanes.specs.declared.answer_lists.Answer.{Answer}
use Rattle.tele_lanes.specs.Lines.{commands_of, task_lines}
use Rattle.tele_lanes.specs.Lanes.{TasksInLineOrder}
use Rattle.tele_generations.specs.Runs.{left_of_runs}
use Rattle.tele_generations.specs.Turns.{IsUnderWay, plain_answer}
use Rattle.tele_generations.specs.Suffixes.{LeavesSuffixes}
use Rattle.tele_generations.proofs.TurnLemmas.{round_begins, round_goes_on, one_line, tasks_counted}
use Rattle.tele_generations.proofs.WholeLemmas.{suffixes_begin, suffixes_go_on, line_leaves, table_map, turn, leaves, leads, answered_long, after_is, after_map, after_rises}
use Rattle.plain_map.specs.Rising.{IsRising}
use Rattle.plain_map.proofs.PlaceLemmas.{pairs_of-map_of, adds_few_pairs}
use Rattle.tele_generations.specs.Sizes.{least_words}
use Rattle.tele_generations.specs.Generations.{HandsOn, MayAsk, all_done}
use Rattle.tele_generations.specs.Generations.HandsOn.{some_done, none_done}
use Rattle.tele_generations.specs.Tables.{RanOnTable, HasPairs}
use Rattle.tele_generations.specs.Ways.{Rests, IsOnItsWay}
use Rattle.tele_generations.specs.Ways.Rests.{stays, rests_one}

-- before the first table
pub way_begins : (workers : ℕ) (pairs : List Pair) (tasks : List Task) (words : ℕ) → 1 ≤ workers
    → IsRising pairs → IsStrictlyIncreasing (task_lines tasks) → least_words (length pairs) ≤ words
    → words ≤ place_limit → IsOnItsWay workers pairs tasks [] [] pairs tasks words
way_begins workers pairs tasks words some rise up holds fits = record {
  some = some;
  way = round_begins (map_of pairs) tasks;
  rising = up;
  opens = record { rising = rise; room = holds; within = fits };
  suffixes = suffixes_begin workers tasks;
  at_once = λ e. (refl, refl);
  few = omega arith;
  count = omega arith;
  asked = λ k d h. absurd (omega arith);
}

-- a strictly increasing list without its head
tail_rises : (task : Task) (rest : List Task) → IsStrictlyIncreasing (task_lines (task ∷ rest))
    → IsStrictlyIncreasing (task_lines rest)
tail_rises task rest up k h = let next : suc k + 1 ≡ suc (k + 1) = omega arith in
    subst (λ i. slice_index (task_lines rest) k < slice_index (task_lines (task ∷ rest)) i) next
    (up (suc k) (omega arith))

-- a list with one more element at its end isn't empty
not_none : {X : Type 0} (xs : List X) (x : X) → xs ++ x ∷ [] ≡ [] → ⊥
not_none xs x e = let long = length-append xs (x ∷ []) in let none = ap length e in omega arith

module _ (workers words : ℕ) (now : List Pair) (left : List Task) (table : List ℕ)
    (more : List Answer) (rest : List Task) (full : Option Full)
    (r : RanOnTable workers words now left table more rest full) (some : 1 ≤ workers)
    (up : IsStrictlyIncreasing (task_lines left)) (following : List Pair)
    (h : HasPairs table following) where
  -- the result of a turn of lanes followed by one at rest
  pub record TurnEnds (given : List Answer) (after : List Task) (later : List Pair) : Type 0 where
    pub way : IsUnderWay (map_of now) left given after (map_of later)
    pub rising : IsStrictlyIncreasing (task_lines after)
    pub pairs_rise : IsRising later
    pub suffixes : LeavesSuffixes workers left after
    pub hands : HandsOn now r.runs later after
    pub some_given : 0 < length given

  -- the result if the lanes answered something
  turn_stays : 0 < length more → TurnEnds more rest following
  turn_stays given = record {
    way = subst (IsUnderWay (map_of now) left more rest)
        (sym (after_map workers words now left table more rest full r some up following h))
        (turn workers words now left table more rest full r some up);
    rising = r.left_are.rising;
    pairs_rise = after_rises workers words now left table more rest full r some up following h;
    suffixes = leaves workers words now left table more rest full r some up;
    hands = some_done
        (λ none. let long = answered_long workers words now left table more rest full r some up in
        let zero = ap length none in
        omega arith)
        (after_is workers words now left table more rest full r some up following h
        ∙ ap pairs_of (sym (leads workers words now left table more rest full r some up)))
        r.left_are;
    some_given = given;
  }

  -- the result if they answered nothing, and one thread answered the first line
  turn_rests : (task : Task) (after : List Task) (later : List Pair) → length more ≡ 0
      → rest ≡ task ∷ after → IsRising later
      → map_of later ≡ map_after (map_of following) task.command
      → TurnEnds (plain_answer (map_of following) task ∷ []) after later
  turn_rests task after later none first rise is =
      let m = table_map workers words now left table more rest full r some up in
      let order : TasksInLineOrder (left_of_runs r.runs) (task ∷ after)
      = subst (TasksInLineOrder (left_of_runs r.runs)) first r.left_are in
      let lanes : IsUnderWay (map_of now) left [] (task ∷ after) (map_of following)
      = subst (IsUnderWay (map_of now) left [] (task ∷ after))
      (sym (after_map workers words now left table more rest full r some up following h))
      (subst (λ xs. IsUnderWay (map_of now) left xs (task ∷ after) m) (nil_from_length more none)
      (subst (λ ts. IsUnderWay (map_of now) left more ts m) first
      (turn workers words now left table more rest full r some up))) in
      let no_done : all_done r.runs ≡ [] = nil_from_length (all_done r.runs)
      (answered_long workers words now left table more rest full r some up ∙ none) in
      let same_map : map_of following ≡ map_of now
      = after_map workers words now left table more rest full r some up following h
      ∙ sym (leads workers words now left table more rest full r some up)
      ∙ ap (λ ts. replay (map_of now) (commands_of ts)) no_done in
      record {
        way = round_goes_on (map_of now) (map_of following) (map_of later) left (task ∷ after) after []
            (plain_answer (map_of following) task ∷ []) lanes
            (subst (IsUnderWay (map_of following) (task ∷ after)
            (plain_answer (map_of following) task ∷ []) after)
            (sym is) (one_line (map_of following) task after));
        rising = tail_rises task after order.rising;
        pairs_rise = rise;
        suffixes = suffixes_go_on workers left (task ∷ after) after
            (subst (LeavesSuffixes workers left) first
            (leaves workers words now left table more rest full r some up))
            (line_leaves workers task after);
        hands = none_done task no_done
            (sym (pairs_of-map_of later rise) ∙ ap pairs_of is
            ∙ ap (λ m. pairs_of (map_after m task.command)) same_map)
            order;
        some_given = omega arith;
      }

  -- the result in both cases
  pub turn_ends : (given : List Answer) (after : List Task) (later : List Pair)
      → Rests more rest following given after later → TurnEnds given after later
  turn_ends given after later (stays some_more) = turn_stays some_more
  turn_ends given after later (rests_one task rest_is pairs_are none first rise is) =
      turn_rests task after later none first rise is

-- the round goes on
pub way_more : (workers : ℕ) (pairs : List Pair) (tasks : List Task) (fulls : List Full)
    (full : Full) (answers given : List Answer) (now later : List Pair) (left after : List Task)
    (words next : ℕ) → IsOnItsWay workers pairs tasks fulls answers now left words
    → IsUnderWay (map_of now) left given after (map_of later)
    → IsStrictlyIncreasing (task_lines after) → IsRising later
    → LeavesSuffixes workers left after → 0 < length given
    → MayAsk (length pairs + length tasks) full.asked
    → least_words (length later) ≤ next → next ≤ place_limit
    → IsOnItsWay workers pairs tasks (fulls ++ full ∷ []) (answers ++ given) later after next
way_more workers pairs tasks fulls full answers given now later left after words next o way up rise
    suffixes some asks holds fits =
    let counted = tasks_counted (map_of now) (map_of later) left after given way in
    let long = length-append fulls (full ∷ []) in let count = o.count in let keys = way.few in
    let old = ap length (pairs_of-map_of now o.opens.rising) in
    let new = ap length (pairs_of-map_of later rise) in let few = o.few in record {
      some = o.some;
      way = round_goes_on (map_of pairs) (map_of now) (map_of later) tasks left after answers given
          o.way way;
      rising = up;
      opens = record { rising = rise; room = holds; within = fits };
      suffixes = suffixes_go_on workers tasks left after o.suffixes suffixes;
      at_once = λ e. absurd (not_none fulls full e);
      few = omega arith;
      count = omega arith;
      asked = All-push (λ f. MayAsk (length pairs + length tasks) f.asked) fulls full o.asked asks;
    }

-- ---- a turn at rest. Serves `rest` and `go_on`.

-- a list from which the first was taken
first_of : (xs : List Task) (x : Task) (rest : List Task) → 0 < length xs → x ≡ get_or xs 0 x
    → rest ≡ drop 1 xs → xs ≡ x ∷ rest
first_of [] x rest h e f = absurd (omega arith)
first_of (y ∷ ys) x rest h e f = ap (λ z. z ∷ ys) (sym e) ∙ ap (λ zs. x ∷ zs) (sym f)

-- the first task was answered by one thread
pub rests_first : (answers given : List Answer) (left rest : List Task) (pairs after : List Pair)
    (task : Task) (answer : Answer)
    → length answers ≡ 0 → 0 < length left → task ≡ get_or left 0 task → rest ≡ drop 1 left
    → given ≡ answers ++ answer ∷ [] → answer ≡ plain_answer (map_of pairs) task
    → map_of after ≡ map_after (map_of pairs) task.command → IsRising after
    → Rests answers left pairs given rest after
rests_first [] given left rest pairs after task answer none some first others are is following rise =
    subst (λ xs. Rests [] left pairs xs rest after) (sym (are ∙ ap (λ a. a ∷ []) is))
    (rests_one task rest after none (first_of left task rest some first others) rise following)
rests_first (x ∷ xs) given left rest pairs after task answer none some first others are is following
    rise = absurd (omega arith)

-- no more keys come than tasks go
pub rests_few : (answers : List Answer) (left : List Task) (pairs : List Pair)
    (given : List Answer) (rest : List Task) (after : List Pair)
    → Rests answers left pairs given rest after → IsRising pairs
    → length after + length rest ≤ length pairs + length left
rests_few answers left pairs given rest after (stays some) rise = omega arith
rests_few answers left pairs given rest after (rests_one task others later none first up is) rise =
    let few = adds_few_pairs (map_of pairs) (task.command ∷ []) in
    let old = ap length (pairs_of-map_of pairs rise) in
    let new = ap length (pairs_of-map_of after up) in let same = ap (λ m. length (pairs_of m)) is in
    let long = ap length first in omega arith
