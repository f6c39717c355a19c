-- One more round was run, on its tables. Serves the closing of rounds and all above it.
use Rattle.std.proofs.Common.{◌≡◌, ℕ, ◌+◌, ◌<◌, ◌≤◌, List, [], ◌∷◌, ◌++◌, refl, sym, ◌∙◌, ap, subst, append_assoc, append-nil, length, arith}
use Rattle.std.specs.Prelude.{Option, Some, None}
use Rattle.std.specs.List.{flat_map}
use Rattle.std.proofs.lemmas.Grind.{flat_map-append}
use Rattle.ist_core.specs.declared.pairs.Pair.{Pair}
use Rattle.ist_core.specs.declared.ports.Full.{Full}
use Rattle.ist_core.specs.TreeTerms.{Map, no_pairs, map_of, replay, pairs_of}
use Rattle.tele_lanes.specs.declared.task_lists.Task.{Task}
use Rattle.tele_lanes.specs.declared.answer_lists.Answer.{Answer}
use Rattle.tele_lanes.specs.Lines.{commands_of}
use Rattle.tele_lanes.specs.Lanes.{ArePlainAnswers}
use Rattle.tele_generations.specs.Sizes.{first_words}
use Rattle.tele_generations.specs.Generations.{IsGenerations}
use Rattle.tele_generations.specs.Generations.IsGenerations.{whole, ran_full}
use Rattle.tele_generations.specs.Shelves.{IsShelved}
use Rattle.tele_generations.specs.Rounds.{RanInGenerations, EndsTheRound}
use Rattle.tele_jobs.specs.Rounds.{Team, lanes_of, map_after_rounds, AreTablesOf, AreTablesOfAll, if_any, RanRounds}
use Rattle.tele_jobs.specs.Open.{Open, ClosesRound, with_task, map_in, round_for, FollowsRounds, RunsOn}

-- the map after one more round
pub map_after_rounds-more : (m : Map) (rounds : List (List Task)) (tasks : List Task)
    → map_after_rounds m (rounds ++ tasks ∷ [])
    ≡ replay (map_after_rounds m rounds) (commands_of tasks)
map_after_rounds-more m [] tasks = refl
map_after_rounds-more m (first ∷ rounds) tasks =
    map_after_rounds-more (replay m (commands_of first)) rounds tasks

-- the tables of one more round
tables_more : (team : Team) (most : ℕ) (m : Map) (rounds : List (List Task))
    (lists : List (List (List ℕ))) (tasks : List Task) (tables : List (List ℕ))
    → AreTablesOfAll team most m rounds lists
    → AreTablesOf team most (map_after_rounds m rounds) tasks tables
    → AreTablesOfAll team most m (rounds ++ tasks ∷ []) (lists ++ tables ∷ [])
tables_more team most m [] [] tasks tables h one = (one, tt)
tables_more team most m [] (list ∷ lists) tasks tables h one = absurd h
tables_more team most m (round ∷ rounds) [] tasks tables h one = absurd h
tables_more team most m (round ∷ rounds) (list ∷ lists) tasks tables h one = (
  h.0,
  tables_more team most (replay m (commands_of round)) rounds lists tasks
      tables h.1 one,
)

-- there is one more table than tables that ran full
tables_long : (lanes : ℕ) (pairs : List Pair) (tasks : List Task) (tables : List (List ℕ))
    (fulls : List Full) → IsGenerations lanes pairs tasks tables fulls
    → length tables ≡ length fulls + 1
tables_long lanes pairs tasks tables fulls (whole runs is all) = refl
tables_long lanes pairs tasks tables fulls (ran_full {after = after} {left = left} {next = next}
    {more = more} {fulls = later} runs is full hands larger rest) =
    (let one = tables_long lanes after left (next ∷ more) later rest in omega arith)

-- tables on a shelf, and others after them
pub shelved_then : (before : Option (List (List ℕ))) (given : List (List ℕ))
    (middle : Option (List (List ℕ))) (others : List (List ℕ)) (after : Option (List (List ℕ)))
    → IsShelved before given middle → IsShelved middle others after
    → IsShelved before (given ++ others) after
shelved_then before given middle others None one two = tt
shelved_then before given None others (Some after) one two = absurd two
shelved_then None given (Some middle) others (Some after) one two = absurd one
shelved_then (Some before) given (Some middle) others (Some after) one two =
    two ∙ ap (λ l. l ++ others) one ∙ append_assoc before given others

-- no table was put on a shelf
pub none_shelved : (kept : Option (List (List ℕ))) → IsShelved kept [] kept
none_shelved None = tt
none_shelved (Some tables) = sym (append-nil tables)

-- if there are tasks, they are a round
pub round_for-some : (tasks : List Task) → 0 < length tasks → round_for tasks ≡ tasks ∷ []
round_for-some [] some = absurd (omega arith)
round_for-some (task ∷ tasks) some = refl

-- a round was closed, whichever name it goes by
pub closes_from : (old same new : Open) → old ≡ same → ClosesRound old new → ClosesRound same new
closes_from old same new is h = subst (λ (o : Open). ClosesRound o new) is h

-- the tasks of the open round were answered
pub closes_round : (old new : Open) (pairs : List Pair) (tasks : List Task)
    (found : List Answer) → pairs ≡ old.pairs → tasks ≡ old.tasks
    → ArePlainAnswers (map_of pairs) tasks found → new.answers ≡ found
    → map_in new ≡ replay (map_of pairs) (commands_of tasks) → new.tasks ≡ [] → ClosesRound old new
closes_round old new pairs tasks found same_pairs same_tasks plain is following none = grind arith

-- at most as many keys came as there were tasks, whichever name the round goes by
pub few_from : (old same : Open) (tasks : List Task) (now following : List Pair)
    → old ≡ same → tasks ≡ old.tasks → now ≡ following
    → length following ≤ length old.pairs + length tasks
    → length now ≤ length same.pairs + length same.tasks
few_from old same tasks now following is same_tasks is_following few = grind arith

-- the rounds that were run, whichever name the round goes by
pub runs_from : (old same new : Open) (kept later : Option (List (List ℕ))) → old ≡ same
    → RunsOn old kept new later (round_for old.tasks)
    → RunsOn same kept new later (round_for same.tasks)
runs_from old same new kept later is h =
    subst (λ o. RunsOn o kept new later (round_for o.tasks)) is h

-- before the first round
pub none_ran : (team : Team) (most : ℕ) (kept : Option (List (List ℕ)))
    → RanRounds team most [] kept kept None 0
none_ran team most kept = record {
  lists = [];
  given = [];
  shelved = none_shelved kept;
  together = refl;
  are = tt;
  ends = (refl, refl);
}

-- one more round, once the last table was put on the shelf
ran_more : (team : Team) (most : ℕ) (rounds : List (List Task))
    (before kept middle later : Option (List (List ℕ))) (last : Option (List ℕ)) (count : ℕ)
    (tasks : List Task) (closed : List ℕ) (fulls : List Full)
    → RanRounds team most rounds before kept last count → IsShelved kept (if_any last) middle
    → (let pairs = pairs_of (map_after_rounds no_pairs rounds) in RanInGenerations (lanes_of team)
    (first_words most team.workers (length pairs) (length tasks)) pairs tasks middle later closed
    fulls)
    → EndsTheRound (lanes_of team) (pairs_of (map_after_rounds no_pairs rounds)) tasks closed fulls
    → RanRounds team most (rounds ++ tasks ∷ []) before later (Some closed) (length fulls)
ran_more team most rounds before kept middle later last count tasks closed fulls h keeps runs
    ends =
    let tables = runs.given ++ closed ∷ [] in let given = h.given ++ if_any last in record {
      lists = h.lists ++ tables ∷ [];
      given = given ++ runs.given;
      shelved = shelved_then before given middle runs.given later
          (shelved_then before h.given kept (if_any last) middle h.shelved keeps) runs.shelved;
      together = flat_map-append (λ (ts : List (List ℕ)). ts) h.lists (tables ∷ [])
          ∙ ap (λ ts. flat_map (λ (ts : List (List ℕ)). ts) h.lists ++ ts) (append-nil tables)
          ∙ ap (λ ts. ts ++ tables) h.together ∙ sym (append_assoc given runs.given (closed ∷ []));
      are = tables_more team most no_pairs rounds h.lists tasks tables h.are
          (record { fulls = fulls; are = runs.are; first_is = runs.first_is });
      ends = record {
        earlier = rounds;
        tasks = tasks;
        others = h.lists;
        tables = tables;
        refusals = fulls;
        rounds_are = refl;
        lists_are = refl;
        count = refl;
        one_more = tables_long (lanes_of team) (pairs_of (map_after_rounds no_pairs rounds))
            tasks tables fulls runs.are;
        ends = ends;
      };
    }

-- nothing was run if a line was only taken into the open round
pub runs_none : (old new : Open) (task : Task) (kept : Option (List (List ℕ)))
    → new ≡ with_task old task → RunsOn old kept new kept []
runs_none old new task kept asks team most rounds before h =
    subst (λ o. FollowsRounds team most (rounds ++ []) before kept o) (sym asks)
    (subst (λ rs. FollowsRounds team most rs before kept (with_task old task))
    (sym (append-nil rounds))
    (record { ran = h.ran; begins = h.begins; team_is = h.team_is; most_is = h.most_is }))

-- the tasks of the open round were run
module _ (old new : Open) (kept middle later : Option (List (List ℕ)))
    (taken : Option (List ℕ)) (closed : List ℕ) (fulls : List Full) (pairs : List Pair) (tasks : List Task) (same_pairs : pairs ≡ old.pairs)
    (same_tasks : tasks ≡ old.tasks) (of_map : old.pairs ≡ pairs_of (map_in old))
    (same_last : taken ≡ old.last) (keeps : IsShelved kept (if_any taken) middle)
    (runs : RanInGenerations (lanes_of old.team)
    (first_words old.words old.team.workers (length pairs) (length tasks)) pairs tasks middle later
    closed fulls)
    (ends : EndsTheRound (lanes_of old.team) pairs tasks closed fulls)
    (following : map_in new ≡ replay (map_of pairs) (commands_of tasks)) where
  -- the map after them
  pub map_after_round : map_in new ≡ replay (map_in old) (commands_of old.tasks)
  map_after_round = grind arith

  -- the tables of the rounds, with the tables of this one
  pub runs_round : 0 < length old.tasks → new.last ≡ Some closed → new.fulls ≡ length fulls
      → new.team ≡ old.team → new.words ≡ old.words
      → RunsOn old kept new later (round_for old.tasks)
  runs_round some last count team_same words_same team most rounds before h =
      let now = pairs_of (map_after_rounds no_pairs rounds) in
      let pairs_are : pairs ≡ now = same_pairs ∙ of_map ∙ ap pairs_of h.begins in
      let Runs = λ (t : Team) (k : ℕ) (ps : List Pair) (ts : List Task).
      RanInGenerations (lanes_of t) (first_words k t.workers (length ps) (length ts)) ps ts
      middle later closed fulls in
      let Ends = λ (t : Team) (ps : List Pair) (ts : List Task).
      EndsTheRound (lanes_of t) ps ts closed fulls in
      let here : Runs team most now old.tasks =
      subst (λ ts. Runs team most now ts) same_tasks
      (subst (λ ps. Runs team most ps tasks) pairs_are
      (subst (λ k. Runs team k pairs tasks) h.most_is
      (subst (λ t. Runs t old.words pairs tasks) h.team_is runs))) in
      let so : Ends team now old.tasks = subst (λ ts. Ends team now ts) same_tasks
      (subst (λ ps. Ends team ps tasks) pairs_are
      (subst (λ t. Ends t pairs tasks) h.team_is ends)) in
      let all = rounds ++ old.tasks ∷ [] in
      let ran = ran_more team most rounds before kept middle later old.last old.fulls old.tasks
      closed fulls h.ran (subst (λ l. IsShelved kept (if_any l) middle) same_last keeps) here so in
      subst (λ rs. FollowsRounds team most (rounds ++ rs) before later new)
      (sym (round_for-some old.tasks some))
      (record {
        ran = subst (λ n. RanRounds team most all before later new.last n) (sym count)
            (subst (λ l. RanRounds team most all before later l (length fulls))
            (sym last) ran);
        begins = map_after_round ∙ ap (λ m. replay m (commands_of old.tasks)) h.begins
            ∙ sym (map_after_rounds-more no_pairs rounds old.tasks);
        team_is = team_same ∙ h.team_is;
        most_is = words_same ∙ h.most_is;
      })

-- some rounds, and others after them
pub runs_then : (first mid last : Open) (kept middle later : Option (List (List ℕ)))
    (more others : List (List Task)) → RunsOn first kept mid middle more
    → RunsOn mid middle last later others → RunsOn first kept last later (more ++ others)
runs_then first mid last kept middle later more others one two team most rounds before h =
    subst (λ rs. FollowsRounds team most rs before later last)
    (append_assoc {A = List Task} rounds more others)
    (two team most (rounds ++ more) before (one team most rounds before h))
