-- One generation of a round after another, and the last one. Serves `run_round`.
use Rattle.std.proofs.Common.{◌≡◌, ℕ, ◌+◌, ◌<◌, ◌≤◌, List, [], ◌∷◌, ◌++◌, length, Option, Some, None, sym, subst, arith}
use Rattle.std.specs.List.Sorted.{IsStrictlyIncreasing, IsPermutation, IsNonDecreasingBy}
use Rattle.ist_core.specs.declared.pairs.Pair.{Pair}
use Rattle.ist_core.specs.declared.ports.Full.{Full}
use Rattle.ist_core.specs.WordTerms.{place_limit}
use Rattle.ist_core.specs.TreeTerms.{map_of}
use Rattle.tele_lanes.specs.declared.task_lists.Task.{Task}
use Rattle.tele_lanes.specs.declared.answer_lists.Answer.{Answer}
use Rattle.tele_lanes.specs.Lines.{task_lines}
use Rattle.tele_lanes.specs.Lanes.{ArePlainAnswers}
use Rattle.tele_generations.specs.Turns.{IsUnderWay}
use Rattle.tele_generations.proofs.TurnLemmas.{round_goes_on, round_ends, tasks_counted}
use Rattle.plain_map.specs.Rising.{IsRising}
use Rattle.tele_generations.specs.Sizes.{least_words, next_words}
use Rattle.tele_generations.specs.Generations.{RanFull}
use Rattle.tele_generations.specs.Tables.{EndedWith, RanOnTable, HasPairs}
use Rattle.tele_generations.specs.Shelves.{IsShelved}
use Rattle.tele_generations.specs.Rounds.{RanInGenerations, EndsTheRound}
use Rattle.tele_generations.specs.declared.rests.Turn.{Turn}
use Rattle.tele_generations.specs.declared.ways.RoundState.{RoundState}
use Rattle.tele_generations.specs.Ways.{Rests, HasTables, IsOnItsWay, GoesOnAfter}
use Rattle.tele_generations.proofs.LeadLemmas.{tables_more, tables_end}
use Rattle.tele_generations.proofs.WholeLemmas.{asks_more, table_map, turn, puts_few, rest_some, rest_none, after_rises, few_following}
use Rattle.tele_generations.proofs.NextTableLemmas.{turn_ends, way_more}

module _ {workers words : ℕ} {pairs now : List Pair} {tasks left : List Task}
    {fulls : List Full} {answers : List Answer} {table : List ℕ} {more : List Answer}
    {rest : List Task} {ended : Option Full}
    (o : IsOnItsWay workers pairs tasks fulls answers now left words)
    (r : RanOnTable workers words now left table more rest ended) where
  -- the table ran full with the numbers that ended it
  ran_full : (full : Full) → ended ≡ Some full → RanFull now table r.runs full
  ran_full full is = subst (λ e. EndedWith now table r.runs e) is r.ended

  -- if the table ran full, something is left
  pub some_left : (full : Full) → ended ≡ Some full → 0 < length rest
  some_left full is =
      rest_some workers words now left table more rest ended r o.some o.rising full (ran_full full is)

  module _ (following : List Pair) (h : HasPairs table following) where
    -- the pairs after the table are strictly increasing
    pub after_rise : IsRising following
    after_rise = after_rises workers words now left table more rest ended r o.some o.rising following h

    -- there are no more pairs after the table, with what is left, than pairs and tasks at first
    pub after_few : length following + length rest ≤ length pairs + length tasks
    after_few = few_following workers words now left table more rest ended r o.some o.rising following h
        (length pairs + length tasks) o.opens.rising o.few

    -- the round goes on after the turn
    pub goes_on : (full : Full) (given : List Answer) (after : List Task) (later : List Pair)
        (next : ℕ) → ended ≡ Some full → Rests more rest following given after later
        → least_words (length later) ≤ next → next ≤ place_limit
        → IsOnItsWay workers pairs tasks (fulls ++ full ∷ []) (answers ++ given) later after next
    goes_on full given after later next is rests holds fits = let f = ran_full full is in
        let ends = turn_ends workers words now left table more rest ended r o.some o.rising following h
        given after later rests in
        let few = o.few in
        let puts = puts_few workers words now left table more rest ended r o.some o.rising in
        way_more workers pairs tasks fulls full answers given now later left after words next o
        ends.way ends.rising ends.pairs_rise ends.suffixes ends.some_given
        (asks_more _ _ full.asked (omega arith) f.may_ask) holds fits

    -- after the turn less is left
    pub less_left : (given : List Answer) (after : List Task) (later : List Pair)
        → Rests more rest following given after later → length after < length left
    less_left given after later rests =
        let ends = turn_ends workers words now left table more rest ended r o.some o.rising following h
        given after later rests in
        let counted = tasks_counted (map_of now) (map_of later) left after given ends.way in
        let given_some = ends.some_given in omega arith

  -- if the table answered all, the round is under way with nothing left
  ends_way : ended ≡ None → IsUnderWay (map_of pairs) tasks (answers ++ more) []
      (table_map workers words now left table more rest ended r o.some o.rising)
  ends_way is = let m = table_map workers words now left table more rest ended r o.some o.rising in
      let none : rest ≡ []
      = rest_none workers words now left table more rest ended r o.some o.rising
      (subst (λ e. EndedWith now table r.runs e) is r.ended) in
      round_goes_on (map_of pairs) (map_of now) m tasks left [] answers more o.way
      (subst (λ ts. IsUnderWay (map_of now) left more ts m) none
      (turn workers words now left table more rest ended r o.some o.rising))

  -- the answers are what one thread would answer
  pub ends_plain : ended ≡ None → IsStrictlyIncreasing (task_lines tasks) → (all : List Answer)
      → IsPermutation (answers ++ more) all → IsNonDecreasingBy (λ a. a.line) all
      → ArePlainAnswers (map_of pairs) tasks all
  ends_plain is up all same rise =
      (round_ends (map_of pairs)
      (table_map workers words now left table more rest ended r o.some o.rising) tasks
      (answers ++ more) all up (ends_way is) same rise).plain

  -- if the table answered all, it ends the round
  pub ends_round : ended ≡ None → EndsTheRound workers pairs tasks table fulls
  ends_round is = record {
    opening = now;
    left = left;
    runs = r.runs;
    is = r.is;
    whole = subst (λ e. EndedWith now table r.runs e) is r.ended;
    suffixes = o.suffixes;
    at_once = o.at_once;
    leaves = (ends_way is).leaves;
  }

module _ {workers first words : ℕ} {pairs now : List Pair} {tasks left : List Task}
    {before middle : Option (List (List ℕ))} {fulls : List Full} {answers : List Answer}
    (table : List ℕ) {more : List Answer} {rest : List Task} {ended : Option Full}
    (t : HasTables workers first pairs tasks before middle fulls now left words)
    (o : IsOnItsWay workers pairs tasks fulls answers now left words)
    (r : RanOnTable workers words now left table more rest ended) where
  -- if the table ran full, it is one more table on the shelf
  pub one_more_table : (full : Full) (after : Option (List (List ℕ))) → ended ≡ Some full
      → (following : List Pair) → HasPairs table following → IsShelved middle (table ∷ []) after
      → (given : List Answer) (later : List Pair) (rest_left : List Task) (next : ℕ)
      → Rests more rest following given rest_left later → next ≡ next_words words (length later)
      → HasTables workers first pairs tasks before after (fulls ++ full ∷ []) later rest_left next
  one_more_table full after is following h kept given later rest_left next rests sized =
      let ends = turn_ends workers words now left table more rest ended r o.some o.rising following h
      given rest_left later rests in
      tables_more workers first pairs tasks before middle after fulls full now later left
      rest_left words next table r.runs t r.sized r.is
      (subst (λ e. EndedWith now table r.runs e) is r.ended) ends.hands kept sized

  -- if the table answered all, it is the last one
  pub last_table : ended ≡ None
      → RanInGenerations workers first pairs tasks before middle table fulls
  last_table is =
      tables_end workers first pairs tasks before middle fulls now left words table r.runs t
      r.sized r.is (subst (λ e. EndedWith now table r.runs e) is r.ended)

-- ---- in the words of the code

-- the round goes on, and less is left
pub way_goes_on : {workers : ℕ} {pairs : List Pair} {tasks : List Task} {way next : RoundState}
    {made : Turn} {full : Full} {table : List ℕ} {ended : Option Full}
    → GoesOnAfter way made full next
    → IsOnItsWay workers pairs tasks way.fulls.items way.answers.items way.pairs.items
    way.left.items way.words
    → RanOnTable workers way.words way.pairs.items way.left.items table made.answers.items
    made.left.items ended
    → HasPairs table made.pairs.items → ended ≡ Some full
    → record {
      on : IsOnItsWay workers pairs tasks next.fulls.items next.answers.items next.pairs.items
          next.left.items next.words;
      less : length next.left.items < length way.left.items;
    }
way_goes_on {workers = workers} {pairs = pairs} {tasks = tasks} {way = way} {next = next}
    {made = made} {full = full} g o r h is =
    record {
      on = subst (λ fs. IsOnItsWay workers pairs tasks fs next.answers.items next.pairs.items
          next.left.items next.words) (sym g.fulls)
          (subst (λ xs. IsOnItsWay workers pairs tasks (way.fulls.items ++ full ∷ []) xs
          next.pairs.items next.left.items next.words) (sym g.answers)
          (goes_on o r made.pairs.items h full g.more next.left.items next.pairs.items
          next.words is g.rested g.holds g.fits));
      less = less_left o r made.pairs.items h g.more next.left.items next.pairs.items g.rested;
    }

-- the shelf has one more table
pub tables_go_on : {workers first : ℕ} {pairs : List Pair} {tasks : List Task}
    {before middle after : Option (List (List ℕ))} {way next : RoundState} {made : Turn} {full : Full}
    (table : List ℕ) {ended : Option Full} → GoesOnAfter way made full next
    → HasTables workers first pairs tasks before middle way.fulls.items way.pairs.items
    way.left.items way.words
    → IsOnItsWay workers pairs tasks way.fulls.items way.answers.items way.pairs.items
    way.left.items way.words
    → RanOnTable workers way.words way.pairs.items way.left.items table made.answers.items
    made.left.items ended
    → HasPairs table made.pairs.items → ended ≡ Some full → IsShelved middle (table ∷ []) after
    → HasTables workers first pairs tasks before after next.fulls.items next.pairs.items
    next.left.items next.words
tables_go_on {workers = workers} {first = first} {pairs = pairs} {tasks = tasks}
    {before = before} {after = after} {next = next} {made = made} {full = full} table g t o r h is
    kept =
    subst (λ fs. HasTables workers first pairs tasks before after fs next.pairs.items
    next.left.items next.words) (sym g.fulls)
    (one_more_table table t o r full after is made.pairs.items h kept g.more next.pairs.items
    next.left.items next.words g.rested g.words)

-- the round's end, of the very table and refusals that are handed out
pub ends_with : {workers first : ℕ} {pairs : List Pair} {tasks : List Task}
    {before after : Option (List (List ℕ))} {table last : List ℕ} {fulls all : List Full}
    → RanInGenerations workers first pairs tasks before after table fulls
    → last ≡ table → all ≡ fulls → RanInGenerations workers first pairs tasks before after last all
ends_with {workers = workers} {first = first} {pairs = pairs} {tasks = tasks} {before = before}
    {after = after} {last = last} {fulls = fulls} g same_table same_fulls =
    grind arith

-- the end of the round, in terms of the table and the refusals that are returned
pub ends_for : {workers : ℕ} {pairs : List Pair} {tasks : List Task} (table last : List ℕ)
    {fulls all : List Full} → EndsTheRound workers pairs tasks table fulls → last ≡ table
    → all ≡ fulls → EndsTheRound workers pairs tasks last all
ends_for {workers = workers} {pairs = pairs} {tasks = tasks} table last {fulls = fulls} e
    same_table same_fulls =
    grind arith
