-- How many puts are among the changes of a log: at most as many as its callers had answered. Serves
-- `run_on_tree`.
use Rattle.std.proofs.Common.{◌≡◌, ◌≢◌, ℕ, zero, suc, ◌+◌, ◌<◌, ◌≤◌, ◌⊎◌, ◌==◌, Bool, true, false, List, [], ◌∷◌, ◌++◌, length, map, filter, refl, sym, ap, ◌∙◌, arith, inl, inr, if◌then◌else◌, All, count_by, take, subst, Option, IfSome}
use Rattle.std.proofs.lemmas.Bool.Decides.{eqb_tells}
use Rattle.std.proofs.lemmas.List.{map-append, append-nil, length-map}
use Rattle.std.proofs.lemmas.List.Elements.{All-head, All-tail}
use Rattle.std.proofs.lemmas.List.Recursion.{is_count_by}
use Rattle.std.proofs.lemmas.Simd.{map-map}
use Rattle.ist_core.specs.declared.calls.Call.{Call}
use Rattle.ist_core.specs.declared.commands.Command.{Command}
use Rattle.ist_core.specs.declared.pairs.Pair.{Pair}
use Rattle.ist_core.specs.declared.ports.Full.{Full}
use Rattle.ist_core.specs.LogTerms.{Each, Log, GoesOn}
use Rattle.ist_core.specs.TreeTerms.{Entry, changes_of, is_change, entry_by, entries_by, AllStandIn, told_by_call}
use Rattle.laws_calls.specs.Finishing.{is_put, puts_in}
use Rattle.tele_lanes.specs.declared.task_lists.Task.{Task}
use Rattle.tele_lanes.specs.Lines.{commands_of, task_lines}
use Rattle.tele_generations.specs.Runs.{HasRun}
use Rattle.tele_generations.proofs.StandLemmas.{own_entry, other_entry}
use Rattle.tele_generations.proofs.LaneLemmas.{run_asked}
use Rattle.tele_generations.specs.Generations.{puts_done, all_done}
use Rattle.tele_run.specs.Ends.{TreeLane, run_of, LaneHasEnded, AreMade, CameTo}
use Rattle.std.specs.List.{range_with_len}
use Rattle.std.specs.List.Sorted.{IsStrictlyIncreasing}
use Rattle.ist_tree.specs.CallTerms.{TreeFace, MakerFace, calls_in, PassWasRefused}
use Rattle.tele_lanes.specs.declared.answer_lists.Answer.{Answer}
use Rattle.tele_lanes.specs.Lanes.{HaveOwnLines, InLineOrder, TasksInLineOrder, unanswered, first_refusal, all_lane_tasks}
use Rattle.tele_lanes.proofs.SplitLemmas.{HaveOwnLines-all_lane_tasks, length-all_lane_tasks}
use Rattle.tele_run.proofs.LaneLemmas.{all_same}

-- ---- counting

-- one for a put
abbrev pub one_put : Command → ℕ
one_put c = if is_put c then 1 else 0

-- how many of the commands are puts
abbrev pub put_count : List Command → ℕ
put_count [] = 0
put_count (c ∷ cs) = one_put c + put_count cs

-- it counts the puts
put_count-is : (cs : List Command) → put_count cs ≡ count_by is_put cs
put_count-is = is_count_by put_count is_put refl (λ c cs. at (is_put c) (put_count cs))
  where
    at : (v : Bool) (n : ℕ) → (if v then 1 else 0) + n ≡ (if v then 1 + n else n)
    at true n = omega arith
    at false n = omega arith

-- the puts of two lists together
put_count-append : (cs ds : List Command) → put_count (cs ++ ds) ≡ put_count cs + put_count ds
put_count-append [] ds = omega arith
put_count-append (c ∷ cs) ds = let rest = put_count-append cs ds in omega arith

-- fewer calls have no more puts
put_count-filter : (test : Call → Bool) (calls : List Call)
    → put_count (map (λ c. c.command) (filter test calls)) ≤ put_count (map (λ c. c.command) calls)
put_count-filter test [] = omega arith
put_count-filter test (call ∷ calls) = at (test call) (put_count-filter test calls)
  where
    at : (v : Bool) → put_count (map (λ c. c.command) (filter test calls))
        ≤ put_count (map (λ c. c.command) calls)
        → put_count (map (λ c. c.command)
        (if v then call ∷ filter test calls else filter test calls))
        ≤ put_count (map (λ c. c.command) (call ∷ calls))
    at true rest = omega arith
    at false rest = omega arith

-- puts among entries are those among their commands
puts_in-is : (es : List Entry) → puts_in es ≡ put_count (map (λ e. e.command) es)
puts_in-is [] = refl
puts_in-is (e ∷ es) = at (is_put e.command) (puts_in-is es)
  where
    at : (v : Bool) → puts_in es ≡ put_count (map (λ x. x.command) es)
        → length (if v then e ∷ filter (λ x. is_put x.command) es
        else filter (λ x. is_put x.command) es)
        ≡ (if v then 1 else 0) + put_count (map (λ x. x.command) es)
    at true rest = omega arith
    at false rest = omega arith

-- the puts among entries, with one more entry
puts_cons : (e : Entry) (es : List Entry) → puts_in (e ∷ es) ≡ one_put e.command + puts_in es
puts_cons e es = let one = puts_in-is (e ∷ es) in let rest = puts_in-is es in omega arith

-- ---- by owners

-- the puts of this many owners, from this number on
abbrev spread : ℕ → ℕ → List Entry → ℕ
spread from zero es = 0
spread from (suc count) es = puts_in (entries_by from es) + spread (from + 1) count es

-- an owner's entries, with one entry more
puts_more : (number : ℕ) (e : Entry) (es : List Entry)
    → puts_in (entries_by number es) ≤ puts_in (entries_by number (e ∷ es))
puts_more number e es = grind (arith, puts_cons)

spread_more : (from count : ℕ) (e : Entry) (es : List Entry)
    → spread from count es ≤ spread from count (e ∷ es)
spread_more from zero e es = omega arith
spread_more from (suc count) e es =
    let mine = puts_more from e es in let rest = spread_more (from + 1) count e es in omega arith

-- an entry of one of the owners is counted
spread_own : (from count : ℕ) (e : Entry) (es : List Entry) → from ≤ e.owner
    → e.owner < from + count → one_put e.command + spread from count es ≤ spread from count (e ∷ es)
spread_own from zero e es low high = absurd (omega arith)
spread_own from (suc count) e es low high =
    at (eqb_tells e.owner from) (λ l h. spread_own (from + 1) count e es l h)
  where
    at : (((e.owner == from) ≡ true) × (e.owner ≡ from)) ⊎
        (((e.owner == from) ≡ false) × (e.owner ≢ from))
        → (from + 1 ≤ e.owner → e.owner < from + 1 + count
        → one_put e.command + spread (from + 1) count es ≤ spread (from + 1) count (e ∷ es))
        → one_put e.command + spread from (suc count) es ≤ spread from (suc count) (e ∷ es)
    at (inl t) later = grind (arith, own_entry, puts_cons, spread_more)
    at (inr f) later = grind (arith, other_entry)

-- all entries have one of these owners
puts_spread : (count : ℕ) (es : List Entry) → Each (λ e. e.owner < count) es
    → puts_in es ≤ spread 0 count es
puts_spread count [] h = omega arith
puts_spread count (e ∷ es) h = let one = puts_cons e es in let below = h.0 in
    let own = spread_own 0 count e es (omega arith) (omega arith) in
    let rest = puts_spread count es h.1 in omega arith

-- ---- by calls

-- the puts among calls
abbrev pub called_puts : List (List Call) → ℕ
called_puts [] = 0
called_puts (calls ∷ more) = put_count (map (λ c. c.command) calls) + called_puts more

-- calls that are in a log are at least as many as its entries
spread_few : (pairs : List Pair) (words : ℕ) (log : Log) (from : ℕ) (lists : List (List Call))
    → AllStandIn pairs words log from lists
    → spread from (length lists) (changes_of pairs words log) ≤ called_puts lists
spread_few pairs words log from [] h = omega arith
spread_few pairs words log from (calls ∷ more) h =
    let es : List Entry = changes_of pairs words log in let made = ap puts_in h.0.exactly in
    let are = puts_in-is (map (entry_by from) (filter is_change calls)) in
    let same = ap put_count
    (map-map (λ (e : Entry). e.command) (entry_by from) (filter is_change calls)) in
    let few = put_count-filter is_change calls in
    let rest = spread_few pairs words log (from + 1) more h.1 in omega arith

-- there are no more puts among the changes than calls with one
pub puts_few : (pairs : List Pair) (words : ℕ) (log : Log) (lists : List (List Call))
    → AllStandIn pairs words log 0 lists
    → Each (λ e. e.owner < length lists) (changes_of pairs words log)
    → puts_in (changes_of pairs words log) ≤ called_puts lists
puts_few pairs words log lists stand owners = grind (arith, puts_spread, spread_few)

-- ---- by lanes

-- a lane that was run, as its run
pub has_run : (e : TreeLane) → LaneHasEnded e → HasRun (run_of e)
has_run e h = record { calls = h.calls; answers = h.answers; replies = h.replies }

-- calls with a put are answered tasks with one
called_done : (ends : List TreeLane) → All LaneHasEnded ends
    → called_puts (map (λ e. e.port.pass.calls) ends)
    ≡ put_count (commands_of (all_done (map run_of ends)))
called_done [] h = refl
called_done (e ∷ ends) h = let rest = called_done ends (All-tail LaneHasEnded e ends h) in
    let done : List Task = take (length e.answers.list) e.tasks in
    let asked : map (λ c. c.command) e.port.pass.calls ≡ commands_of done
    = sym (map-map (λ t. t.command) told_by_call e.port.pass.calls)
    ∙ run_asked (run_of e) (has_run e (All-head LaneHasEnded e ends h)) in
    let both = ap put_count (map-append (λ (t : Task). t.command) done (all_done (map run_of ends)))
    ∙ put_count-append (commands_of done) (commands_of (all_done (map run_of ends))) in
    let mine = ap put_count asked in omega arith

-- the puts called are the answered puts
pub called_puts-done : (ends : List TreeLane) → All LaneHasEnded ends
    → called_puts (map (λ e. e.port.pass.calls) ends) ≡ puts_done (map run_of ends)
called_puts-done ends h = grind (arith, called_done, put_count-is)

-- ---- lanes that were made and run on a tree, and whose passes were taken back. Serves `run_tree`.

-- the tree and the number of a lane's pass
abbrev pub tie_of : TreeLane → TreeFace × ℕ
tie_of lane = (lane.port.pass.tree, lane.port.pass.number)

module _ (tree : TreeFace) (first made last : MakerFace) (count : ℕ) (tasks : List Task)
    (fresh lanes : List TreeLane) (m : AreMade tree first made fresh)
    (split : map (λ (l : TreeLane). l.tasks) fresh ≡ all_lane_tasks count tasks)
    (same : map (λ (l : TreeLane). l.tasks) lanes ≡ map (λ (l : TreeLane). l.tasks) fresh)
    (ties : map {B = TreeFace × ℕ} tie_of lanes ≡ map {B = TreeFace × ℕ} tie_of fresh) where
  -- there are as many lanes as were asked for
  many : length fresh ≡ count
  many = grind (arith, length-map, length-all_lane_tasks)

  -- no two lanes share a line
  pub own_lines : IsStrictlyIncreasing (task_lines tasks)
      → HaveOwnLines (map (λ (l : TreeLane). l.tasks) lanes)
  own_lines up = grind (arith, HaveOwnLines-all_lane_tasks)

  -- the passes are still of the tree
  pub its_tree : All (λ (l : TreeLane). l.port.pass.tree ≡ tree) lanes
  its_tree = all_same (λ (t : TreeFace × ℕ). t.0 ≡ tree) tie_of lanes fresh ties m.trees

  -- how the tasks ran
  pub came_to : (slice : List TreeLane) → slice ≡ lanes → All LaneHasEnded lanes → first.tree ≡ tree
      → first.taken ≡ [] → last.tree ≡ made.tree → last.made ≡ made.made
      → last.taken ≡ map (λ (l : TreeLane). calls_in l.port.pass) lanes ++ made.taken
      → All (λ (l : TreeLane). GoesOn l.port.pass.seen last.seen) lanes
      → All (λ (l : TreeLane). IfSome l.port.refused (PassWasRefused l.port.pass)) lanes
      → (answers : List Answer) (left : List Task) (full : Option Full)
      → InLineOrder (map (λ (l : TreeLane). l.answers.list) slice) answers
      → TasksInLineOrder (map (λ (l : TreeLane). unanswered l.tasks l.answers.list) slice) left
      → full ≡ first_refusal (map (λ (l : TreeLane). l.stopped) slice)
      → CameTo tree last count tasks answers left full
  came_to slice lent ran is_tree none same_tree back taken seen causes answers left full answered
      left_are full_is = record {
        ends = lanes;
        lanes = same ∙ split;
        ran = ran;
        trees = its_tree;
        numbers = sym (map-map (λ (t : TreeFace × ℕ). t.1) tie_of lanes)
            ∙ ap (map (λ (t : TreeFace × ℕ). t.1)) ties
            ∙ map-map (λ (t : TreeFace × ℕ). t.1) tie_of fresh ∙ m.numbers
            ∙ ap (range_with_len 0) many;
        same_tree = same_tree ∙ m.same_tree ∙ is_tree;
        made = back ∙ m.made ∙ many;
        taken = taken ∙ ap (λ ps. map (λ (l : TreeLane). calls_in l.port.pass) lanes ++ ps)
            (m.taken ∙ none) ∙ append-nil (map (λ (l : TreeLane). calls_in l.port.pass) lanes);
        seen = seen;
        causes = causes;
        answered = subst (λ ls. InLineOrder (map (λ (l : TreeLane). l.answers.list) ls) answers) lent
            answered;
        left_are = subst (λ ls. TasksInLineOrder
            (map (λ (l : TreeLane). unanswered l.tasks l.answers.list) ls) left) lent left_are;
        full_is = full_is ∙ ap (λ ls. first_refusal (map (λ (l : TreeLane). l.stopped) ls)) lent;
      }
