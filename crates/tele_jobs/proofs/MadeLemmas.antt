-- Made lines, answered in rounds. Serves the summing up of made lines.
use Rattle.std.proofs.Common.{◌≡◌, ℕ, ◌+◌, ◌-◌, ◌<◌, ◌≤◌, List, [], ◌∷◌, ◌++◌, refl, sym, ◌∙◌, ap, subst, append_assoc, length, arith}
use Rattle.std.specs.Prelude.{is_some}
use Rattle.std.specs.List.{count_by}
use Rattle.std.proofs.lemmas.List.{map-append, length-append, length-map}
use Rattle.std.proofs.lemmas.List.Sums.{sum_by-append}
use Rattle.ist_core.specs.declared.commands.Command.{Command}
use Rattle.ist_core.specs.declared.pairs.Pair.{Pair}
use Rattle.ist_core.specs.declared.ports.Full.{Full}
use Rattle.ist_core.specs.TreeTerms.{Map, no_pairs, map_after, reply_to, replay, replies, pairs_of, map_of}
use Rattle.tele_lanes.specs.declared.task_lists.Task.{Task}
use Rattle.tele_lanes.specs.Lines.{commands_of}
use Rattle.tele_jobs.specs.Rounds.{Team}
use Rattle.tele_jobs.specs.Open.{Open, fresh_round, with_task, map_in}
use Rattle.tele_jobs.specs.declared.summaries.Summary.{Summary}
use Rattle.tele_jobs.specs.Summaries.{summary_of, value_sum}
use Rattle.tele_jobs.specs.Made.{next_number, made_command, made_commands}
use Rattle.laws_histories.proofs.MapLemmas.{replay-append}
use Rattle.ist_core.proofs.AllPlaceLemmas.{map_of-pairs_of}
use Rattle.laws_histories.proofs.ContentLemmas.{pairs_rise_at}
use Rattle.plain_map.specs.Rising.{IsRising}
use Rattle.plain_map.proofs.PlaceLemmas.{adds_few_pairs}
use Rattle.tele_generations.specs.Runs.{told_of_runs}
use Rattle.tele_generations.specs.Tables.{HasPairs}
use Rattle.tele_generations.specs.Rounds.{EndsTheRound}

-- how many of the replies to some commands are values
abbrev pub values_in : Map → List Command → ℕ
values_in m commands = count_by is_some (replies m commands)

-- the replies to them
replies-append : (m : Map) (xs ys : List Command) → replies m (xs ++ ys) ≡ replies m xs ++ replies
    (replay m xs) ys
replies-append m [] ys = refl
replies-append m (x ∷ xs) ys = ap (λ rs. reply_to m x ∷ rs) (replies-append (map_after m x) xs ys)

values-append : (m : Map) (xs ys : List Command) → values_in m (xs ++ ys) ≡ values_in m xs +
    values_in (replay m xs) ys
values-append m xs ys = grind (arith, replies-append, sum_by-append)

-- with the open lines and the lines left to be made, the values found and the map are the values
-- and the map of all lines
pub record HasMadeLines (all : List Command) (m : Map) (tasks : List Task) (rest : List Command)
    (found : ℕ) : Type 0 where
  pub values : found + values_in m (commands_of tasks ++ rest) ≡ values_in no_pairs all
  pub following : replay m (commands_of tasks ++ rest) ≡ replay no_pairs all

-- before the first line
pub none_made : (all : List Command) (m : Map) (tasks : List Task) → m ≡ no_pairs → tasks ≡ [] →
    HasMadeLines all m tasks all 0
none_made all m tasks is none = grind arith

-- one more line is open
pub one_made : (all : List Command) (m : Map) (tasks now : List Task) (task : Task)
    (rest others : List Command) (found : ℕ)
    → rest ≡ task.command ∷ others → now ≡ tasks ++ task ∷ [] → HasMadeLines all m tasks rest found →
    HasMadeLines all m now others found
one_made all m tasks now task rest others found is more h =
    let same : commands_of now ++ others ≡ commands_of tasks ++ rest =
    ap (λ ts. commands_of ts ++ others) more ∙ ap (λ cs. cs ++ others)
    (map-append (λ t. t.command) tasks (task ∷ []))
    ∙ append_assoc {A = Command} (commands_of tasks) (task.command ∷ []) others
    ∙ ap (λ cs. commands_of tasks ++ cs) (sym is) in
    record {
      values = ap (λ cs. found + values_in m cs) same ∙ h.values;
      following = ap (replay m) same ∙ h.following;
    }

-- the open lines were answered
pub round_made : (all : List Command) (m n : Map) (tasks left : List Task) (rest : List Command)
    (found more later : ℕ)
    → more ≡ values_in m (commands_of tasks) → n ≡ replay m (commands_of tasks) → left ≡ [] → later
    ≡ found + more → HasMadeLines all m tasks rest found → HasMadeLines all n left rest later
round_made all m n tasks left rest found more later counts is none sum h =
    grind (arith, values-append, replay-append)

-- all lines were made and answered
pub all_found : (all : List Command) (m : Map) (tasks : List Task) (rest : List Command) (found : ℕ)
    → tasks ≡ [] → rest ≡ [] → HasMadeLines all m tasks rest found → found ≡ values_in no_pairs all
all_found all m tasks rest found none last h = grind arith

-- once all lines were made and answered, the map is the map after all lines
pub all_after : (all : List Command) (m : Map) (tasks : List Task) (rest : List Command)
    (found : ℕ) → tasks ≡ [] → rest ≡ []
    → HasMadeLines all m tasks rest found → m ≡ replay no_pairs all
all_after all m tasks rest found none last h = grind arith

-- the lines that are left begin with the next
pub next_made : (count line number : ℕ) → line < count → made_commands (count - line) number
    ≡ made_command (next_number number) ∷ made_commands (count - (line + 1)) (next_number number)
next_made count line number lt = grind arith

-- at a moment between two made lines: what was found and what is left are what all lines find, and
-- no more was found than made
pub record Sums (count seed line number found : ℕ) (now : Open) : Type 0 where
  pub made : HasMadeLines (made_commands count seed) (map_in now) now.tasks
      (made_commands (count - line) number) found
  pub few : found + length now.tasks ≤ line

-- before the first line
pub sums_first : (count seed number : ℕ) (team : Team) (words : ℕ) (now : Open)
    → number ≡ seed → now ≡ fresh_round team words → Sums count seed 0 number 0 now
sums_first count seed number team words now is empty = grind (arith, none_made)

-- one more line is open
pub sums_asked : (count seed line number next found : ℕ) (before now : Open) (task : Task) → line <
    count → task.command ≡ made_command (next_number number) → next ≡ next_number number
    → now ≡ with_task before task
    → Sums count seed line number found before → Sums count seed (line + 1) next found now
sums_asked count seed line number next found before now task lt command is asks h =
    let more = ap (λ (o : Open). o.tasks) asks in
    let rest = made_commands (count - (line + 1)) (next_number number) in
    let left : made_commands (count - line) number ≡ task.command ∷ rest =
    next_made count line number lt ∙ ap (λ c. c ∷ rest) (sym command) in
    let m : map_in before ≡ map_in now = ap map_in (sym asks) in record {
      made = subst (λ n. HasMadeLines (made_commands count seed) (map_in now) now.tasks
          (made_commands (count - (line + 1)) n) found) (sym is)
          (subst (λ m. HasMadeLines (made_commands count seed) m now.tasks rest found) m
          (one_made (made_commands count seed) (map_in before) before.tasks now.tasks task
          (made_commands (count - line) number) rest
          found left more h.made));
      few = omega (arith, h.few, ap length more, length-append before.tasks (task ∷ []));
    }

-- the open lines were answered
pub sums_closed : (count seed line number found more later : ℕ) (before now : Open)
    → more ≡ values_in (map_in before) (commands_of before.tasks) → more ≤ length before.tasks
    → map_in now ≡ replay (map_in before) (commands_of before.tasks) → now.tasks ≡ [] → later ≡
    found + more → Sums count seed line number found before → Sums count seed line number later now
sums_closed count seed line number found more later before now counts few is none sum h = record {
  made = round_made (made_commands count seed) (map_in before) (map_in now) before.tasks now.tasks
      (made_commands (count - line) number) found more later counts is none sum h.made;
  few = omega (arith, h.few, few, sum, ap length none);
}

-- all lines were made and answered
pub sums_last : (count seed line number found : ℕ) (now : Open) → count ≤ line → now.tasks ≡ [] →
    Sums count seed line number found now
    → (found ≡ values_in no_pairs (made_commands count seed)) ×
    (map_in now ≡ replay no_pairs (made_commands count seed))
sums_last count seed line number found now le none h = grind (arith, all_found, all_after)

-- the summary, by the map after all lines and by how many values were found
pub summary_is : (count seed keys found sum : ℕ) (m : Map) → m ≡ replay no_pairs
    (made_commands count seed)
    → keys ≡ length (pairs_of m) → found ≡ values_in no_pairs (made_commands count seed) → sum ≡
    value_sum (pairs_of m)
    → ◌≡◌ {A = Summary} (record { made = count; keys = keys; found = found; sum = sum })
    (summary_of count seed)
summary_is count seed keys found sum m is keys_is found_is sum_is = grind arith

-- ---- the pairs after a round, as the last table has them. Serves the closing of rounds.

module _ {workers : ℕ} {pairs : List Pair} {tasks : List Task} {table : List ℕ} {fulls : List Full}
    (ends : EndsTheRound workers pairs tasks table fulls) (following : List Pair)
    (has : HasPairs table following) where
  -- they are the pairs of the map after the tasks
  pub after_is : following ≡ pairs_of (replay (map_of pairs) (commands_of tasks))
  after_is = has ends.opening (told_of_runs ends.runs) ends.is.stands ∙ ap pairs_of ends.leaves

  -- the pairs make the map after the tasks
  pub after_map : map_of following ≡ replay (map_of pairs) (commands_of tasks)
  after_map = ap map_of after_is ∙ map_of-pairs_of (replay (map_of pairs) (commands_of tasks))

  -- the pairs are strictly increasing
  pub after_rises : IsRising following
  after_rises = let stands = ends.is.stands in
      subst (λ ps. IsRising ps) (sym (has ends.opening (told_of_runs ends.runs) stands))
      (pairs_rise_at ends.opening (length table) stands.lawful.opens stands.log
      stands.lawful.enabled)

  -- at most one pair came per task
  pub after_few : (first : List Pair) → pairs ≡ first → first ≡ pairs_of (map_of first)
      → length following ≤ length first + length tasks
  after_few first same of_map = grind (arith, adds_few_pairs, length-map, after_is)
