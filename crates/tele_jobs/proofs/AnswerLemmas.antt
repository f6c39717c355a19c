-- The text of tasks that were answered. Serves the rounds.
use Rattle.std.proofs.Common.{◌≡◌, ℕ, ◌<◌, length, arith, List, [], ◌∷◌, ◌++◌, refl, sym, ◌∙◌, ap, append_assoc}
use Rattle.ist_core.specs.TreeTerms.{Map, map_after, reply_to, replay, listed}
use Rattle.tele_lanes.specs.declared.task_lists.Task.{Task}
use Rattle.tele_lanes.specs.declared.answer_lists.Answer.{Answer}
use Rattle.tele_lanes.specs.Lines.{commands_of}
use Rattle.tele_lanes.specs.Lanes.{ArePlainAnswers}
use Rattle.tele_lines.specs.declared.items.Version.{Version}
use Rattle.tele_lines.specs.declared.items.Item.TheVariants.{Point, Interval}
use Rattle.tele_lines.specs.Answer.{Read, Good, Bad, text_of, exit_status, answer_text, interval_text}
use Rattle.tele_jobs.specs.Open.{asked, answers_text}

-- the text of some tasks is the text of their answers
pub text-answered : (version : Version) (m : Map) (tasks : List Task) (answers : List Answer) →
    ArePlainAnswers m tasks answers → answers_text version answers ≡ text_of m (asked version tasks)
text-answered version m [] [] h = refl
text-answered version m [] (answer ∷ answers) h = let e = h.lines in absurd (cc e)
text-answered version m (task ∷ tasks) [] h = let e = h.lines in absurd (cc e)
text-answered version m (task ∷ tasks) (answer ∷ answers) h = let lines_is = h.lines in
    let replies_is = h.replies in let line : answer.line ≡ task.line = cc (lines_is, replies_is) in
    let reply : answer.reply ≡ reply_to m task.command = cc (lines_is, replies_is) in
    let rest : ArePlainAnswers (map_after m task.command) tasks answers = record
    { lines = cc lines_is; replies = cc replies_is } in
    ap (λ n. answer_text version n answer.reply ++ answers_text version answers) line
    ∙ ap (λ r. answer_text version task.line r ++ answers_text version answers) reply
    ∙ ap (λ xs. answer_text version task.line (reply_to m task.command) ++ xs)
    (text-answered version (map_after m task.command) tasks answers rest)

-- the text of some tasks and of the lines after them
pub text-asked : (version : Version) (m : Map) (tasks : List Task) (more : List Read)
    → text_of m (asked version tasks ++ more)
    ≡ text_of m (asked version tasks) ++ text_of (replay m (commands_of tasks)) more
text-asked version m [] more = refl
text-asked version m (task ∷ tasks) more =
    let first = answer_text version task.line (reply_to m task.command) in
    let next = map_after m task.command in
    ap (λ xs. first ++ xs) (text-asked version next tasks more)
    ∙ sym (append_assoc {A = ℕ} first (text_of next (asked version tasks))
    (text_of (replay next (commands_of tasks)) more))

-- what follows the text of good lines
pub record FollowsGoodLines (m : Map) (lines more : List Read) : Type 0 where
  pub others : List ℕ
  pub same : text_of m (lines ++ more) ≡ text_of m lines ++ others

-- the text of good lines precedes the text of the lines after them
pub text-good : (m : Map) (lines more : List Read) → exit_status lines ≡ 0 → FollowsGoodLines m lines more
text-good m [] more good = record { others = text_of m more; same = refl }
text-good m (Good number version (Point command) ∷ lines) more good =
    let first = answer_text version number (reply_to m command) in
    let rest = text-good (map_after m command) lines more good in record {
      others = rest.others;
      same = ap (λ xs. first ++ xs) rest.same
          ∙ sym (append_assoc {A = ℕ} first (text_of (map_after m command) lines) rest.others);
    }
text-good m (Good number version (Interval low high) ∷ lines) more good =
    let first = interval_text version number (listed low high m) in
    let rest = text-good m lines more good in record {
      others = rest.others;
      same = ap (λ xs. first ++ xs) rest.same ∙ sym
          (append_assoc {A = ℕ} first (text_of m lines) rest.others);
    }
text-good m (Bad number cause ∷ lines) more good = absurd (cc good)

-- point lines are good
pub status-asked : (version : Version) (tasks : List Task) (more : List Read)
    → exit_status (asked version tasks ++ more) ≡ exit_status more
status-asked version [] more = refl
status-asked version (task ∷ tasks) more = status-asked version tasks more

-- a version counts only if there is a line
pub asked-version : (old new : Version) (tasks : List Task) → (0 < length tasks → new ≡ old) → asked
    old tasks ≡ asked new tasks
asked-version old new [] same = refl
asked-version old new (task ∷ tasks) same = grind arith
