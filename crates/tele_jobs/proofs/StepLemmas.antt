-- What the parts of a step say of the open round, joined. Serves the steps of a run.
use Rattle.std.proofs.Common.{◌≡◌, ℕ, ◌<◌, List, [], ◌∷◌, ◌++◌, sym, ◌∙◌, ap, subst, append_assoc, length, append-nil, arith}
use Rattle.std.specs.Prelude.{Option, IsSome}
use Rattle.std.proofs.lemmas.List.{map-append}
use Rattle.ist_core.specs.TreeTerms.{Map, replay, listed}
use Rattle.tele_io.specs.Bytes.{Appends, Keeps, AppendsPart}
use Rattle.tele_io.proofs.AppendsLemmas.{Appends-nothing, Appends-append, AppendsPart-append, AppendsPart-longer}
use Rattle.tele_io.proofs.KeepsLemmas.{appends_none}
use Rattle.tele_lanes.specs.declared.task_lists.Task.{Task}
use Rattle.tele_lanes.specs.Lines.{commands_of}
use Rattle.tele_lines.specs.declared.items.Item.TheVariants.{Point, Interval}
use Rattle.tele_lines.specs.declared.items.Version.{Version}
use Rattle.tele_lines.specs.Answer.{Read, Good, text_of, exit_status, interval_text}
use Rattle.tele_lines.specs.Rounds.{round_limit, in_whole_rounds}
use Rattle.tele_jobs.specs.Open.{asked}
use Rattle.tele_jobs.specs.Due.{Takes, whole_text}
use Rattle.tele_jobs.proofs.RoundLemmas.{in_whole-full, in_whole-interval}
use Rattle.tele_jobs.proofs.AnswerLemmas.{text-asked, status-asked, asked-version}
use Rattle.ist_core.specs.declared.commands.Command.{Command}
use Rattle.ist_core.specs.declared.pairs.Pair.{Pair}
use Rattle.tele_lines.specs.declared.items.Item.{Item}
use Rattle.tele_lines.specs.declared.reader.Lines.{Lines}
use Rattle.tele_lines.specs.Progress.{mode_of, version_of}

-- ---- what taking a line into the open round does to what is due. Serves the steps of a run.

-- lines that stay open
pub stay_open : (m : Map) (lines : List Read) (before : Option (List ℕ)) → Takes m lines before
    before m lines
stay_open m lines before = grind (arith, Appends-nothing)

-- lines that stay open, when what was written stays taken
pub stay_kept : (m : Map) (lines : List Read) (before now : Option (List ℕ)) → Keeps before now
    → Takes m lines before now m lines
stay_kept m lines before now kept = grind (arith, appends_none)

-- a full round was answered
pub answered_full : (version : Version) (m : Map) (tasks : List Task)
    (before written : Option (List ℕ))
    → length tasks ≡ round_limit → Appends before written (text_of m (asked version tasks))
    → Takes m (asked version tasks) before written (replay m (commands_of tasks)) []
answered_full version m tasks before written full writes =
    grind (arith, text-asked, status-asked, in_whole-full)

-- a round was answered, and the interval line that ends it
pub answered_interval : (version : Version) (number first last : ℕ) (m : Map) (tasks : List Task)
    (before mid written : Option (List ℕ))
    → length tasks < round_limit → Appends before mid (text_of m (asked version tasks))
    → Appends mid written (interval_text version number
    (listed first last (replay m (commands_of tasks))))
    → Takes m (asked version tasks ++ Good number version (Interval first last) ∷ []) before written
    (replay m (commands_of tasks)) []
answered_interval version number first last m tasks before mid written few writes more_writes =
    let line = Good number version (Interval first last) in
    let next = replay m (commands_of tasks) in let points = text_of m (asked version tasks) in
    let list = interval_text version number (listed first last next) in
    let text : (more : List Read) → text_of m ((asked version tasks ++ line ∷ []) ++ more) ≡
    (points ++ list) ++ text_of next more =
    λ more. ap (text_of m) (append_assoc {A = Read} (asked version tasks) (line ∷ []) more)
    ∙ text-asked version m tasks (line ∷ more)
    ∙ sym (append_assoc {A = ℕ} points list (text_of next more)) in
    record {
      printed = points ++ list;
      writes = Appends-append before mid written points list writes more_writes;
      text = text;
      status = λ more. ap exit_status (append_assoc {A = Read} (asked version tasks) (line ∷ []) more)
          ∙ status-asked version tasks (line ∷ more);
      whole = λ more. ap (whole_text m)
          (append_assoc {A = Read} (asked version tasks) (line ∷ []) more)
          ∙ ap (text_of m) (in_whole-interval version number first last tasks more few)
          ∙ text (in_whole_rounds more);
    }

-- one more task is one more line
pub asked-more : (version : Version) (old new : List Task) (task : Task) → new ≡ old ++ task ∷ []
    → asked version new ≡ asked version old ++ Good task.line version (Point task.command) ∷ []
asked-more version old new task is = grind (arith, map-append)

-- what was taken in, as other lines that are the same
pub takes_same : (m n : Map) (lines same : List Read) (before written : Option (List ℕ))
    (next others : List Read) → lines ≡ same → next ≡ others
    → Takes m lines before written n next → Takes m same before written n others
takes_same m n lines same before written next others is is_too h = grind arith

module _ (version : Version) (m : Map) (tasks : List Task) where
  -- a part of the text of a round is a part of its text and more
  pub part_before : (more : List Read) (before written : Option (List ℕ))
      → AppendsPart before written (text_of m (asked version tasks))
      → AppendsPart before written (text_of m (asked version tasks ++ more))
  part_before more before written part =
      subst (AppendsPart before written) (sym (text-asked version m tasks more))
      (AppendsPart-longer before written (text_of m (asked version tasks))
      (text_of (replay m (commands_of tasks)) more) part)

  -- the text of a round, and then that of what follows
  pub text_then : (more : List Read) (before mid written : Option (List ℕ)) → Appends before mid
      (text_of m (asked version tasks))
      → Appends mid written (text_of (replay m (commands_of tasks)) more)
      → Appends before written (text_of m (asked version tasks ++ more))
  text_then more before mid written first second = grind (arith, text-asked, Appends-append)

  -- the text of a round, and then a part of what follows
  pub part_then : (more : List Read) (before mid written : Option (List ℕ)) → Appends before mid
      (text_of m (asked version tasks))
      → AppendsPart mid written (text_of (replay m (commands_of tasks)) more)
      → AppendsPart before written (text_of m (asked version tasks ++ more))
  part_then more before mid written first second =
      subst (AppendsPart before written) (sym (text-asked version m tasks more))
      (AppendsPart-append before mid written (text_of m (asked version tasks))
      (text_of (replay m (commands_of tasks)) more) first second)

  module _ (number : ℕ) (item : Item) (command : Command) (now : List Task)
      (is : item ≡ Point command)
      (more : now ≡ tasks ++ record { line = number; command = command } ∷ []) where
    -- a point line is one more task
    pub taken_lines : asked version now ≡ asked version tasks ++ Good number version item ∷ []
    taken_lines = asked-more version tasks now (record { line = number; command = command }) more
        ∙ ap (λ i. asked version tasks ++ Good number version i ∷ []) (sym is)

    -- the line stays open, and nothing is written
    pub taken_open : (n : Map) (before : Option (List ℕ)) → n ≡ m
        → Takes m (asked version tasks ++ Good number version item ∷ []) before before n
        (asked version now)
    taken_open n before same = grind (arith, taken_lines, stay_open)

    -- if the line fills the round, the round is answered
    pub taken_full : (n later : Map) (left : List Task) (before written : Option (List ℕ)) → n ≡ m →
        length now ≡ round_limit
        → Appends before written (text_of n (asked version now)) → later ≡ replay n
        (commands_of now) → left ≡ []
        → Takes m (asked version tasks ++ Good number version item ∷ []) before written later
        (asked version left)
    taken_full n later left before written same full writes following none =
        grind (arith, taken_lines, answered_full)

    -- if printing fails, a part of the round's text was written
    pub taken_part : (n : Map) (before written : Option (List ℕ)) → n ≡ m → AppendsPart before
        written (text_of n (asked version now))
        → AppendsPart before written (text_of m
        (asked version tasks ++ Good number version item ∷ []))
    taken_part n before written same part = grind (arith, taken_lines)

  module _ (number first last : ℕ) (item : Item) (is : item ≡ Interval first last)
      (listing : List Pair) (n : Map)
      (following : n ≡ replay m (commands_of tasks)) (lists : listing ≡ listed first last n) where
    -- the pairs that are listed
    listing_is : listing ≡ listed first last (replay m (commands_of tasks))
    listing_is = lists ∙ ap (listed first last) following

    -- an interval line ends the round
    pub taken_interval : (left : List Task) (before mid written : Option (List ℕ)) → length tasks <
        round_limit → left ≡ []
        → Appends before mid (text_of m (asked version tasks)) → Appends mid written
        (interval_text version number listing)
        → Takes m (asked version tasks ++ Good number version item ∷ []) before written n
        (asked version left)
    taken_interval left before mid written few none writes more_writes =
        grind (arith, answered_interval, listing_is)

    -- if printing fails, a part of the listing was written
    pub interval_part : (before mid written : Option (List ℕ)) → Appends before mid
        (text_of m (asked version tasks))
        → AppendsPart mid written (interval_text version number listing)
        → AppendsPart before written (text_of m
        (asked version tasks ++ Good number version item ∷ []))
    interval_part before mid written writes part =
        subst (λ i. AppendsPart before written
        (text_of m (asked version tasks ++ Good number version i ∷ []))) (sym is)
        (part_then (Good number version (Interval first last) ∷ []) before mid written writes
        (AppendsPart-longer mid written
        (interval_text version number (listed first last (replay m (commands_of tasks)))) []
        (subst (λ ps. AppendsPart mid written (interval_text version number ps)) listing_is part)))

-- the lines of the open round are the same by the version after the lines that were read
pub same_lines : (old new : Lines) (version : Version) (tasks : List Task) → version ≡ version_of
    new
    → (0 < length tasks → IsSome (mode_of old)) → (IsSome (mode_of old) → mode_of new ≡ mode_of old)
    → asked (version_of old) tasks ≡ asked version tasks
same_lines old new version tasks is chosen steady = grind (arith, asked-version)

-- the open round at the end of the input
pub at_end : (version : Version) (m : Map) (tasks : List Task) → text_of m (asked version tasks) ≡
    text_of m (asked version tasks ++ [])
at_end version m tasks = ap (text_of m) (sym (append-nil (asked version tasks)))

-- open lines and a good one are good
pub status-taken : (version : Version) (tasks : List Task) (number : ℕ) (item : Item)
    → exit_status (asked version tasks ++ Good number version item ∷ []) ≡ 0
status-taken version tasks number item = status-asked version tasks (Good number version item ∷ [])
