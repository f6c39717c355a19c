-- What counts for progress has a word of the table, which no other such event has. Serves
-- `laws.progress_is_bounded`.
use Rattle.std.proofs.Common.{List, Option, Some, ⊎_elim, [], ap, arith, inl, inr, length, option_map, refl, subst, sym, ℕ, ◌+◌, ◌<◌, ◌≤◌, ◌∙◌, ◌∷◌, ◌≡◌, ◌≢◌}
use Rattle.ist_core.specs.declared.events.Event.{Event}
use Rattle.ist_core.specs.declared.events.Event.TheVariants.{Count, Decide, Draw, Enter, Finish, Install, Lose, Mark, Okay, Pass, Place, Reserve, Resolve, Root}
use Rattle.ist_core.specs.declared.lists.Row.{Row}
use Rattle.ist_core.specs.declared.pairs.Pair.{Pair}
use Rattle.ist_core.specs.declared.states.ChangeRow.{ChangeRow}
use Rattle.ist_core.specs.declared.states.InnerRow.{InnerRow}
use Rattle.ist_core.specs.LogTerms.{Distinct, Each, CanOpen, EachEnabled, state_of, Happened, Log, Resolves, Snapshot}
use Rattle.ist_core.specs.TreeTerms.{AllGrow}
use Rattle.ist_core.specs.WordTerms.{Change, Inner, Piece, size_of, with_status, start, marked_word, open_word}
use Rattle.ist_core.proofs.AllWordLemmas.{each-among, changed_at-same, no_value, same_inner}
use Rattle.ist_core.proofs.AllLogLemmas.{change_there, inner_there, next_within, words_same, distinct_below, closed_on, grow_after}
use Rattle.ist_core.proofs.AllPlaceLemmas.{Claimed, claimed_apart, claimed_within, placed, size_positive, install_stands}
use Rattle.ist_core.proofs.AllEventLemmas.{holds_installed}
use Rattle.laws_links.proofs.ChangeLemmas.{install_free}
use Rattle.laws_links.proofs.InductionLemmas.{sound_after}
use Rattle.laws_links.proofs.ResolvedLemmas.{resolved_gone}
use Rattle.laws_stability.specs.Progress.{most_progress, progress}

-- the words of the events that count: the first of a change is for its Install, the second for its Resolve, and the first
-- of an inner row for its Mark
unfoldable numbers : Log → List ℕ
numbers [] = []
numbers (Install caller base rows ∷ log) = base ∷ numbers log
numbers (Resolve caller base ∷ log) = (base + 1) ∷ numbers log
numbers (Mark caller node ∷ log) = node ∷ numbers log
numbers (_ ∷ log) = numbers log

-- why a number is counted: the change is installed, or was resolved, or the row isn't open
data Counted (t : Snapshot) (log : Log) (number : ℕ) : Type 0 where
  of_install : (base : ℕ) (r : ChangeRow) → t.pieces base ≡ Some (Change r) → number ≡ base
      → Counted t log number
  of_resolve : (base : ℕ) (r : ChangeRow) → t.pieces base ≡ Some (Change r)
      → Happened (Resolves base) log → number ≡ base + 1 → Counted t log number
  of_mark : (node : ℕ) (r : InnerRow) → t.pieces node ≡ Some (Inner r) → r.status ≢ open_word
      → number ≡ node → Counted t log number

counted_on : (t u : Snapshot) → AllGrow t.pieces u.pieces → (log : Log) (event : Event)
    (number : ℕ) → Counted t log number → Counted u (event ∷ log) number
counted_on t u g log event number (of_install base r e is) =
    let on = change_there t.pieces u.pieces g base r e in of_install base on.0 on.1 is
counted_on t u g log event number (of_resolve base r e before is) =
    let on = change_there t.pieces u.pieces g base r e in of_resolve base on.0 on.1 (inr before) is
counted_on t u g log event number (of_mark node r e shut is) =
    let on = inner_there t.pieces u.pieces g node r e in
    of_mark node on.0 on.1 (closed_on r.status on.0.status on.2.status shut) is

each_on : (t u : Snapshot) → AllGrow t.pieces u.pieces → (log : Log) (event : Event)
    (xs : List ℕ) → Each (Counted t log) xs → Each (Counted u (event ∷ log)) xs
each_on t u g log event [] all = tt
each_on t u g log event (x ∷ xs) all =
    (counted_on t u g log event x all.0, each_on t u g log event xs all.1)

-- no row is an inner row and a change
not_both : (o : Option Piece) (a : InnerRow) (b : ChangeRow) → o ≡ Some (Inner a)
    → o ≡ Some (Change b) → ⊥
not_both o a b e f = cc

module _ (pairs : List Pair) (words : ℕ) (opens : CanOpen pairs words) where
  -- what counts has its number, and no other has it
  Good : Log → Type 0
  Good log = Each (Counted (state_of pairs words log) log) (numbers log) × Distinct (numbers log)

  on : (log : Log) (event : Event) → EachEnabled (start pairs words) (event ∷ log)
      → Each (Counted (state_of pairs words log) log) (numbers log)
      → Each (Counted (state_of pairs words (event ∷ log)) (event ∷ log)) (numbers log)
  on log event h all = grind (arith, each_on, grow_after)

  -- no row begins at the second word of a change
  second_word : (log : Log) → EachEnabled (start pairs words) log → (base : ℕ) (r : ChangeRow)
      → (state_of pairs words log).pieces base ≡ Some (Change r) → (other size : ℕ)
      → Claimed pairs words log other size → other ≢ base + 1
  second_word log h base r e other size c is = ⊎_elim (λ same. let here = same.0 in omega arith)
      (λ apart. ⊎_elim (λ le. omega arith) (λ le. omega arith) apart.1)
      (claimed_apart pairs words log base (size_of (Change r)) other size h
      ((placed pairs words log h).published base (Change r) e) c)

  -- a change is installed in a row that had none
  fresh_install : (log : Log) (caller base : ℕ) (rows : List Row)
      → EachEnabled (start pairs words) (Install caller base rows ∷ log)
      → Counted (state_of pairs words log) log base → ⊥
  fresh_install log caller base rows h (of_install other r e is) =
      no_value ((state_of pairs words log).pieces base) (Change r)
      (install_free (start pairs words) log caller base rows h.1 (sound_after pairs words log h.0))
      (subst (λ b. (state_of pairs words log).pieces b ≡ Some (Change r))
      (sym is) e)
  fresh_install log caller base rows h (of_resolve other r e before is) =
      second_word log h.0 other r e base 9
      ((placed pairs words log h.0).held record { caller = caller; base = base; size = 9 }
      (holds_installed (start pairs words) log caller base rows h.1).0) is
  fresh_install log caller base rows h (of_mark node r e shut is) =
      no_value ((state_of pairs words log).pieces base) (Inner r)
      (install_free (start pairs words) log caller base rows h.1 (sound_after pairs words log h.0))
      (subst (λ b. (state_of pairs words log).pieces b ≡ Some (Inner r)) (sym is) e)

  -- one is resolved that wasn't
  fresh_resolve : (log : Log) (caller base : ℕ)
      → EachEnabled (start pairs words) (Resolve caller base ∷ log)
      → Counted (state_of pairs words log) log (base + 1) → ⊥
  fresh_resolve log caller base h (of_install other r e is) =
      second_word log h.0 base h.1.change h.1.published other (size_of (Change r))
      ((placed pairs words log h.0).published other (Change r) e) (sym is)
  fresh_resolve log caller base h (of_resolve other r e before is) =
      let same : other ≡ base = omega arith in resolved_gone pairs words opens log h.0 base
      (subst (λ b. Happened (Resolves b) log) same before) h.1.change.node h.1.change.index
      h.1.in_slot
  fresh_resolve log caller base h (of_mark node r e shut is) =
      second_word log h.0 base h.1.change h.1.published node (size_of (Inner r))
      ((placed pairs words log h.0).published node (Inner r) e) (sym is)

  -- a row is marked that was open
  fresh_mark : (log : Log) (caller node : ℕ)
      → EachEnabled (start pairs words) (Mark caller node ∷ log)
      → Counted (state_of pairs words log) log node → ⊥
  fresh_mark log caller node h (of_install other r e is) = grind (arith, not_both)
  fresh_mark log caller node h (of_resolve other r e before is) =
      second_word log h.0 other r e node (size_of (Inner h.1.row))
      ((placed pairs words log h.0).published node (Inner h.1.row) h.1.published) is
  fresh_mark log caller node h (of_mark other r e shut is) = grind (arith, same_inner)

  good : (log : Log) → EachEnabled (start pairs words) log → Good log
  unfolding Good numbers
  good [] h = (tt, tt)
  good (Install caller base rows ∷ log) h = let before = good log h.0 in
      let event = Install caller base rows in (
        (
          of_install base h.1.change (install_stands (start pairs words) log caller base rows h.1) refl,
          on log event h before.0,
        ),
        (
          (λ i. fresh_install log caller base rows h
              (each-among (Counted (state_of pairs words log) log) base (numbers log) before.0 i)),
          before.1,
        ),
      )
  good (Resolve caller base ∷ log) h = let before = good log h.0 in
      let event = Resolve caller base in
      let there = change_there (state_of pairs words log).pieces
      (state_of pairs words (event ∷ log)).pieces (grow_after pairs words log event h) base
      h.1.change h.1.published in (
        (of_resolve base there.0 there.1 (inl refl) refl, on log event h before.0),
        (
          (λ i. fresh_resolve log caller base h
              (each-among (Counted (state_of pairs words log) log) (base + 1) (numbers log)
              before.0 i)),
          before.1,
        ),
      )
  good (Mark caller node ∷ log) h = let before = good log h.0 in let event = Mark caller node in
      let ps = (state_of pairs words log).pieces in
      let there : (state_of pairs words (event ∷ log)).pieces node
      ≡ Some (Inner (record (h.1.row) { status = marked_word })) =
      changed_at-same ps node (with_status marked_word)
      ∙ ap (option_map (with_status marked_word)) h.1.published in (
        (
          of_mark node (record (h.1.row) { status = marked_word }) there (λ e. omega arith) refl,
          on log event h before.0,
        ),
        (
          (λ i. fresh_mark log caller node h
              (each-among (Counted (state_of pairs words log) log) node (numbers log)
              before.0 i)),
          before.1,
        ),
      )
  good (Enter c ∷ log) h = let before = good log h.0 in (on log (Enter c) h before.0, before.1)
  good (Reserve c b z ∷ log) h = let before = good log h.0 in
      (on log (Reserve c b z) h before.0, before.1)
  good (Okay c d ∷ log) h = let before = good log h.0 in (on log (Okay c d) h before.0, before.1)
  good (Decide c d said ∷ log) h = let before = good log h.0 in
      (on log (Decide c d said) h before.0, before.1)
  good (Count c n ∷ log) h = let before = good log h.0 in (on log (Count c n) h before.0, before.1)
  good (Pass c n j w ∷ log) h = let before = good log h.0 in
      (on log (Pass c n j w) h before.0, before.1)
  good (Finish c n k ∷ log) h = let before = good log h.0 in
      (on log (Finish c n k) h before.0, before.1)
  good (Root c o w rows ∷ log) h = let before = good log h.0 in
      (on log (Root c o w rows) h before.0, before.1)
  good (Draw c o part ∷ log) h = let before = good log h.0 in
      (on log (Draw c o part) h before.0, before.1)
  good (Place c o j w rows ∷ log) h = let before = good log h.0 in
      (on log (Place c o j w rows) h before.0, before.1)
  good (Lose c bases ∷ log) h = let before = good log h.0 in
      (on log (Lose c bases) h before.0, before.1)

  -- the words of a row are words of the table
  inside : (log : Log) → EachEnabled (start pairs words) log → (base : ℕ) (p : Piece)
      → (state_of pairs words log).pieces base ≡ Some p → base + size_of p ≤ words
  inside log h base p e =
      let row = claimed_within pairs words log base (size_of p) h
      ((placed pairs words log h).published base p e) in
      let high = row.below_next in let fits = next_within pairs words opens log h in
      let same = words_same pairs words opens log in omega arith

  -- each number is that of a word
  low : (log : Log) → EachEnabled (start pairs words) log → (number : ℕ)
      → Counted (state_of pairs words log) log number → number < words
  low log h number (of_install base r e is) = let most = inside log h base (Change r) e in
      omega arith
  low log h number (of_resolve base r e before is) = let most = inside log h base (Change r) e in
      omega arith
  low log h number (of_mark node r e shut is) = let most = inside log h node (Inner r) e in
      let some = size_positive (Inner r) in omega arith

  all_low : (log : Log) → EachEnabled (start pairs words) log → (xs : List ℕ)
      → Each (Counted (state_of pairs words log) log) xs → Each (λ x. x < words) xs
  all_low log h [] all = tt
  all_low log h (x ∷ xs) all = (low log h x all.0, all_low log h xs all.1)

  -- there are as many numbers as events that count
  as_many : (log : Log) → progress log ≡ length (numbers log)
  unfolding numbers
  as_many [] = refl
  as_many (Enter c ∷ log) = let before = as_many log in omega arith
  as_many (_ ∷ log) = let before = as_many log in omega arith

  -- progress is at most the number of words
  pub within_words : (log : Log) → EachEnabled (start pairs words) log → progress log ≤ words
  unfolding Good
  within_words log h = grind (arith, good, distinct_below, all_low, as_many)

  -- progress is at most `most_progress`, whatever number of words the table has
  pub bounded : (log : Log) → EachEnabled (start pairs words) log → progress log ≤ most_progress
  bounded log h = let few = within_words log h in let most = opens.within in omega arith
