-- How a round on one tree ended. Serves `run_on_tree`.
use Rattle.std.proofs.Common.{◌≡◌, ◌≢◌, inl, inr, ℕ, ◌+◌, ◌<◌, ◌≤◌, List, map, length, Contains, Option, Some, None, IfSome, IfNone, true, refl, sym, ap, subst, ◌∙◌, arith, slice_get, slice_index}
use Rattle.std.specs.List.{range_with_len}
use Rattle.std.proofs.lemmas.List.FromFn.{length-range_with_len}
use Rattle.std.proofs.lemmas.List.{length-map, get_or-map}
use Rattle.std.proofs.lemmas.List.Elements.{All-contains, All-map}
use Rattle.std.proofs.lemmas.Simd.{map-map}
use Rattle.ist_core.specs.declared.commands.Command.{Command}
use Rattle.ist_core.specs.declared.commands.Command.TheVariants.{Put, Remove, Get}
use Rattle.ist_core.specs.declared.pairs.Pair.{Pair}
use Rattle.ist_core.specs.declared.ports.Full.{Full}
use Rattle.ist_core.specs.LogTerms.{Each, Log, GoesOn, PassCalls, Refused, spent}
use Rattle.ist_core.specs.TreeTerms.{changes_of, StandsFor, told_by_call}
use Rattle.ist_core.specs.WordTerms.{next_place, start}
use Rattle.ist_core.proofs.AllLogLemmas.{words_are_spent, goes_on_more}
use Rattle.laws_calls.specs.Finishing.{puts_in}
use Rattle.laws_calls.proofs.NumberLemmas.{puts_rise}
use Rattle.laws_histories.proofs.ChangeLemmas.{changes_on}
use Rattle.ist_tree.specs.CallTerms.{TreeFace, MakerFace, calls_in, IsNewTree, ClosesWith, calls_taken, told_to, calls_from, PassWasRefused, MayBeAsked}
use Rattle.ist_tree.proofs.NumberLemmas.{calls_in_order}
use Rattle.tele_lanes.specs.declared.task_lists.Task.{Task}
use Rattle.tele_lanes.specs.declared.answer_lists.Answer.{Answer}
use Rattle.tele_lanes.specs.Lines.{commands_of}
use Rattle.tele_lanes.specs.Lanes.{first_refusal}
use Rattle.tele_generations.specs.Runs.{LaneRun, HasRun, LanesRan, AreWhole, told_of_runs}
use Rattle.tele_generations.specs.Generations.{RanFull, MayAsk, may_want_words, puts_done}
use Rattle.tele_generations.specs.Tables.{RanOnTable, EndedWith}
use Rattle.tele_run.specs.Ends.{TreeLane, run_of, LaneHasEnded, CameTo}
use Rattle.tele_run.proofs.PutLemmas.{puts_few, has_run, called_puts, called_puts-done}
use Rattle.tele_run.proofs.LogLemmas.{spent_rise, word_there}
use Rattle.tele_run.proofs.RefusalLemmas.{none_stopped, one_stopped, refused_with, task_there}

-- a command that isn't a get may need words
wants_words : (c : Command) → ((key : ℕ) → c ≢ Get key) → may_want_words c ≡ true
wants_words (Put key value) other = refl
wants_words (Remove key) other = refl
wants_words (Get key) other = absurd (other key refl)

-- a lane that didn't stop answered all
whole_of : (e : TreeLane) → LaneHasEnded e → e.stopped ≡ None → length (run_of e).told ≡ length e.tasks
whole_of e h none = subst (λ o. IfNone o (length (run_of e).told ≡ length e.tasks)) none h.whole

-- the image of an element is one of the images
contains_map : {A B : Type 0} (f : A → B) (xs : List A) (x : A) → Contains xs x
    → Contains (map f xs) (f x)
contains_map f xs x (k, lt, e) =
    (k, (let long = length-map xs f in omega arith), get_or-map f xs k x (f x) lt ∙ ap f e)

-- all passes were taken back
pub all_back : (tree : TreeFace) (maker : MakerFace) (workers : ℕ) (tasks : List Task)
    (answers : List Answer) (left : List Task) (full : Option Full)
    → CameTo tree maker workers tasks answers left full → length maker.taken ≡ maker.made
all_back tree maker workers tasks answers left full came =
    grind (arith, length-map, length-range_with_len)

module _ (workers words : ℕ) (pairs : List Pair) (tasks : List Task) (tree : TreeFace)
    (first maker : MakerFace) (table : List ℕ) (answers : List Answer) (left : List Task)
    (full : Option Full) (new : IsNewTree words pairs tree first)
    (came : CameTo tree maker workers tasks answers left full) (long : length table ≡ tree.words)
    (closes : ClosesWith maker table) where
  -- the ends of the lanes, as runs
  abbrev runs : List LaneRun
  runs = map run_of came.ends

  -- the log after all calls
  abbrev log : Log
  log = closes.stands.log

  -- the tree began with the pairs
  start_is : maker.tree.start ≡ pairs
  start_is = ap (λ t. t.start) came.same_tree ∙ new.start_is

  -- the calls of each pass, by its number, are the calls of each lane
  calls_are : calls_taken maker ≡ map (λ e. e.port.pass.calls) came.ends
  calls_are = let passes : List PassCalls = map (λ e. calls_in e.port.pass) came.ends in
      let many : length passes ≡ workers
      = length-map came.ends (λ e. calls_in e.port.pass)
      ∙ sym (length-map came.ends (λ e. e.port.pass.number)) ∙ ap length came.numbers
      ∙ length-range_with_len 0 workers in
      let numbers : map (λ p. p.number) passes ≡ range_with_len 0 (length passes)
      = map-map (λ (p : PassCalls). p.number) (λ e. calls_in e.port.pass) came.ends
      ∙ came.numbers ∙ ap (range_with_len 0) (sym many) in
      ap (calls_from 0 maker.made) came.taken
      ∙ ap (λ n. calls_from 0 n passes) (came.made ∙ sym many)
      ∙ calls_in_order 0 passes numbers
      ∙ map-map (λ (p : PassCalls). p.calls) (λ e. calls_in e.port.pass) came.ends

  -- what the passes were told is what the lanes were told
  told_are : told_to maker ≡ told_of_runs runs
  told_are = ap (map (map told_by_call)) calls_are
      ∙ map-map (map told_by_call) (λ (e : TreeLane). e.port.pass.calls) came.ends
      ∙ sym (map-map (λ (r : LaneRun). r.told) run_of came.ends)

  -- the words stand for the pairs and for what the lanes were told
  stands : StandsFor table pairs (told_of_runs runs)
  stands = grind (arith, start_is, told_are)

  -- the lanes are those of the tasks, and have run
  lanes_are : LanesRan workers tasks runs
  lanes_are = record {
    lanes = map-map (λ (r : LaneRun). r.tasks) run_of came.ends ∙ came.lanes;
    ran = All-map HasRun run_of came.ends (λ k d lt. has_run _ (came.ran k d lt));
  }

  -- if no lane stopped, each answered all
  ended_whole : first_refusal (map (λ e. e.stopped) came.ends) ≡ None → AreWhole runs
  ended_whole none = All-map (λ (r : LaneRun). length r.told ≡ length r.tasks) run_of came.ends
      (λ k d lt. whole_of _ (came.ran k d lt) (none_stopped came.ends none k d lt))

  -- there were no more puts in the log than the lanes answered
  puts_answered : puts_in (changes_of maker.tree.start (length table) log) ≤ puts_done runs
  puts_answered = let calls = closes.stands.calls in
      let are : calls ≡ map (λ e. e.port.pass.calls) came.ends = closes.calls_are ∙ calls_are in
      let many : maker.made ≡ length calls
      = came.made ∙ sym (length-range_with_len 0 workers) ∙ sym (ap length came.numbers)
      ∙ length-map came.ends (λ e. e.port.pass.number)
      ∙ sym (length-map came.ends (λ e. e.port.pass.calls)) ∙ sym (ap length are) in
      let few = puts_few maker.tree.start (length table) log calls closes.stands.stand
      (subst (λ n. Each (λ entry. entry.owner < n)
      (changes_of maker.tree.start (length table) log)) many closes.owners) in
      let done = ap called_puts are ∙ called_puts-done came.ends came.ran in omega arith

  -- a lane that its port refused
  module _ (e : TreeLane) (is_end : Contains came.ends e) (r : Refused)
      (was : e.port.refused ≡ Some r) where
    -- its pass is of the tree
    its_tree : e.port.pass.tree ≡ maker.tree
    its_tree = grind (arith, All-contains)

    its_words : e.port.pass.tree.words ≡ length table
    its_words = ap (λ t. t.words) its_tree ∙ ap (λ t. t.words) came.same_tree ∙ sym long

    its_start : e.port.pass.tree.start ≡ maker.tree.start
    its_start = ap (λ t. t.start) its_tree

    -- why it was refused
    cause : PassWasRefused e.port.pass r
    cause = grind (arith, All-contains)

    -- what its pass had seen is a prefix of the log
    seen : GoesOn e.port.pass.seen log
    seen = grind (arith, goes_on_more, All-contains)

    -- at most as many words were spent then as in the end
    next_few : r.full.next ≤ slice_index table next_place
    next_few = grind (arith, its_start, spent_rise, goes_on_more, seen, words_are_spent, word_there)

    -- it asked for a number that it may ask for
    asked_for : MayBeAsked e.port.pass r.full.asked
        → MayAsk (length pairs + puts_done runs) r.full.asked
    asked_for (inl two) = inl two
    asked_for (inr (inl seven)) = inr (inl seven)
    asked_for (inr (inr (inl nine))) = inr (inr (inl nine))
    asked_for (inr (inr (inr node))) =
        let changes : puts_in (changes_of e.port.pass.tree.start e.port.pass.tree.words
        e.port.pass.seen) ≡ puts_in (changes_of maker.tree.start (length table) e.port.pass.seen)
        = ap (λ ps. puts_in (changes_of ps e.port.pass.tree.words e.port.pass.seen)) its_start
        ∙ ap (λ n. puts_in (changes_of maker.tree.start n e.port.pass.seen)) its_words in
        let on = changes_on (start maker.tree.start (length table)) e.port.pass.seen log seen in
        let rise = puts_rise (changes_of maker.tree.start (length table) e.port.pass.seen) on.0
        (changes_of maker.tree.start (length table) log) on.1 in
        let most = node.most in let few = puts_answered in
        let began : length e.port.pass.tree.start ≡ length pairs
        = ap length (its_start ∙ start_is) in
        inr (inr (inr (node.some, node.least, omega arith, node.asked_is)))

    -- the table ran full before its next task
    ran_full : RanFull pairs table runs r.full
    ran_full = let ended = All-contains LaneHasEnded came.ends e came.ran is_end in
        let refused = subst (λ o. IfSome o (λ x. slice_get (commands_of e.tasks)
        (length (run_of e).told) ≡ Some x.command)) was ended.refused in
        let answered : length (run_of e).told ≡ length e.answers.list
        = sym (length-map (run_of e).told (λ t. t.reply)) ∙ sym (ap length ended.replies)
        ∙ length-map e.answers.list (λ a. a.reply) in
        let next = task_there e.tasks (length e.answers.list) r.command
        (subst (λ n. slice_get (commands_of e.tasks) n ≡ Some r.command) answered refused) in
        let few = cause.left.few.small in let its = its_words in
        let full_words = cause.left.few.words_is in record {
          words = full_words ∙ its;
          next = next_few;
          over = omega arith;
          may_ask = asked_for cause.left.few.asked;
          run = run_of e;
          is_run = contains_map run_of came.ends e is_end;
          task = next.0;
          is_next = next.1;
          wants = ap may_want_words next.2 ∙ wants_words r.command cause.update;
        }

  -- how the lanes ended, on the table
  ended : (o : Option Full) → o ≡ first_refusal (map (λ e. e.stopped) came.ends)
      → EndedWith pairs table runs o
  ended None is = ended_whole (sym is)
  ended (Some numbers) is = let it = one_stopped came.ends numbers (sym is) in
      let stop = All-contains LaneHasEnded came.ends it.0 came.ran it.1 in
      let r = refused_with it.0.port.refused numbers (sym stop.stopped ∙ it.2) in
      subst (RanFull pairs table runs) r.2 (ran_full it.0 it.1 r.0 r.1)

  -- the tasks ran on a table
  pub ran_on_table : RanOnTable workers words pairs tasks table answers left full
  ran_on_table = grind (arith, lanes_are, stands, map-map, ended)
