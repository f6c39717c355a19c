-- An inner row is only ever the logical child of one slot. Serves `laws.parents_are_one`.
use Rattle.std.proofs.Common.{◌≡◌, ℕ, ◌+◌, ◌⊎◌, List, [], ◌∷◌, length, Option, Some, refl, sym, subst, inl, inr, arith, ◌≤◌, ⊎_elim}
use Rattle.ist_core.specs.Types.{Pair, Row, Event, Enter, Reserve, Install, Okay, Decide, Resolve, Count, Mark, Pass, Finish, Root, Draw, Place, Lose}
use Rattle.ist_core.specs.WordTerms.{anchor, first_row, ideal_words, Ref, InnerAt, ChangeAt, ref_of, word_of, marked_word, finished_word, Pieces, Piece, Change, row_at, with_slot, with_status, counted, with_decision, drawn, start, tree_at, rows_from}
use Rattle.ist_core.specs.LogTerms.{Among, Each, Distinct, after, decision_word, Log, EachEnabled, CanOpen, state_of}
use Rattle.ist_core.specs.TreeTerms.{CanInstall, new_leaf}
use Rattle.ist_core.proofs.OptionLemmas.{each-among, among-pieces_of}
use Rattle.ist_core.proofs.SoundLemmas.{sound}
use Rattle.ist_core.proofs.StepLemmas.{sound_start, IsInstalledWith, adds_install, holds_installed, known}
use Rattle.ist_core.proofs.InstallLemmas.{with_installed}
use Rattle.ist_core.proofs.FreshLemmas.{fresh_stands}
use Rattle.ist_core.proofs.PlaceLemmas.{anchor_free}
use Rattle.ist_core.proofs.RoomLemmas.{published_good, ref_of-change, anchor_slot}
use Rattle.ist_core.proofs.TreeLemmas.{IsTreeRow, tree_rows}
use Rattle.ist_core.proofs.StartTreeLemmas.{IsLeafRow, leaf_row, HangsAs, start_hangs, start_anchor, between_once}
use Rattle.ist_core.proofs.OrderLemmas.{names, install_good}
use Rattle.ist_core.proofs.BranchLemmas.{HangsIn, hangs_once}
use Rattle.ist_core.proofs.HomeLemmas.{Says, Mentions, HasOneHome, came_old, came_added, came-changed_at, came-with_slot, came-with_status, came-counted, came-drawn, came-with_decision, one_home_from, one_home_same, anchor_came}
use Rattle.ist_core.proofs.HomeStepLemmas.{one_home_changed, one_home_resolve, one_home_root, one_home_place, word_of_other}
use Rattle.ist_core.proofs.BornLemmas.{NewPair, pair_new, installed_says}
use Rattle.ist_core.proofs.FieldLemmas.{field_in, field_rare, rows_fresh, LeavesField, has_step}
use Rattle.std.proofs.lemmas.Bool.Decides.{eqb_tells}

module _ (pairs : List Pair) (words : ℕ) (opens : CanOpen pairs words) where
  -- ---- one home after each event

  one_home_install : (log : Log) → EachEnabled (start pairs words) log
      → (caller base : ℕ) (rows : List Row)
      (h : CanInstall (start pairs words) log caller base rows)
      → HasOneHome (state_of pairs words log)
      → HasOneHome (after (state_of pairs words log) (Install caller base rows))
  one_home_install log e caller base rows h home = let t = state_of pairs words log in
      let first = start pairs words in let s = sound first log (sound_start pairs words) e in
      let holds = holds_installed first log caller base rows h in
      let good = install_good pairs words opens log e caller base rows h in
      let qs = with_installed t.pieces base h.change h.fresh in
      let word = word_of (ChangeAt base) in let New = NewPair first log h.change h.fresh h.fits in
      let slot = word_of_other InnerAt t New h.change.node h.change.index (ref_of word)
      (ChangeAt base) (ref_of-change base good.0) (λ child k. cc) in
      let u = after t (Install caller base (row_at base (Change h.change) ∷ h.fresh)) in
      subst (λ xs. HasOneHome (after t (Install caller base xs))) (sym h.rows_are)
      (one_home_from t u New home (names pairs words opens log e)
      (pair_new first log caller base h.change h.fresh s holds h.in_slot h.fits)
      (came-changed_at InnerAt t New qs h.change.node (with_slot h.change.index word)
      (came_added InnerAt t New t.pieces qs (IsInstalledWith first log base h.change h.fresh h.fits)
      (adds_install first log caller base h.change h.fresh h.fits holds s) (came_old InnerAt t New)
      (λ at p born _. installed_says first log caller base h.change h.fresh s holds h.in_slot h.fits
      (λ leaf f. good.1 leaf (new_leaf h.change)
      (fresh_stands first log caller base h.change h.fresh s t.pieces h.fits holds leaf
      (new_leaf h.change) f))
      (λ other r there. published_good pairs words opens log other r e there) at p born))
      (λ p _ old. came-with_slot InnerAt t New h.change.node h.change.index word p slot old))
      (anchor_came InnerAt t u New h.change.node h.change.index word refl
      (anchor_slot t h.change.node h.change.index h.change.from (anchor_free pairs words log e)
      h.in_slot) slot))

  one_home_step : (log : Log) (event : Event) → EachEnabled (start pairs words) (event ∷ log)
      → HasOneHome (state_of pairs words log) → HasOneHome (state_of pairs words (event ∷ log))
  one_home_step log (Install caller base rows) h home = one_home_install log h.0 caller base rows
      h.1 home
  one_home_step log (Resolve caller base) h home = one_home_resolve (state_of pairs words log)
      caller base h.1 (anchor_free pairs words log h.0) (names pairs words opens log h.0) home
  one_home_step log (Root caller rebuild word rows) h home =
      one_home_root (state_of pairs words log) caller rebuild word rows h.1
      (sound (start pairs words) log (sound_start pairs words) h.0)
      (names pairs words opens log h.0) home
  one_home_step log (Place caller rebuild i word rows) h home =
      one_home_place (state_of pairs words log) caller rebuild i word rows h.1
      (sound (start pairs words) log (sound_start pairs words) h.0)
      (names pairs words opens log h.0) home
  one_home_step log (Decide caller base said) h home =
      one_home_changed _ _ base (with_decision (decision_word said)) refl refl
      (λ New p k. came-with_decision InnerAt (state_of pairs words log) New base
      (decision_word said) p k) (names pairs words opens log h.0) home
  one_home_step log (Count caller node) h home = one_home_changed _ _ node counted refl refl
      (λ New p k. came-counted InnerAt (state_of pairs words log) New node p k)
      (names pairs words opens log h.0) home
  one_home_step log (Mark caller node) h home =
      one_home_changed _ _ node (with_status marked_word) refl refl
      (λ New p k. came-with_status InnerAt (state_of pairs words log) New node marked_word p k)
      (names pairs words opens log h.0) home
  one_home_step log (Finish caller node keys) h home =
      one_home_changed _ _ node (with_status (finished_word keys)) refl refl
      (λ New p k. came-with_status InnerAt (state_of pairs words log) New node
      (finished_word keys) p k) (names pairs words opens log h.0) home
  one_home_step log (Draw caller rebuild part) h home = one_home_changed _ _ rebuild drawn refl refl
      (λ New p k. came-drawn InnerAt (state_of pairs words log) New rebuild p k)
      (names pairs words opens log h.0) home
  one_home_step log (Enter caller) h home = one_home_same _ _ home refl refl
  one_home_step log (Reserve caller base size) h home = one_home_same _ _ home refl refl
  one_home_step log (Okay caller change) h home = home
  one_home_step log (Pass caller node i word) h home = home
  one_home_step log (Lose caller bases) h home = one_home_same _ _ home refl refl

  -- ---- a new table

  start_says : (rows : List ℕ) → Each (IsTreeRow (start pairs words).pieces) rows
      → (base : ℕ) (p : Piece) → (start pairs words).pieces base ≡ Some p
      → IsLeafRow p ⊎ Among base rows → (node i child : ℕ) → Says base p node i (InnerAt child)
      → HangsIn (start pairs words).pieces anchor 0 (tree_at first_row pairs) rows node i child
  start_says rows all base _ e (inl (leaf_row r)) node i child says = absurd says
  start_says rows all base p e (inr k) node i child says =
      grind (arith, each-among, IsTreeRow, known, Says, HangsIn)

  one_home_start : HasOneHome (start pairs words)
  one_home_start = record {
    one = λ n i k j child x y. hangs_once ps anchor 0
        (tree_at first_row pairs) anchor hang.rows n i k j child hang.tree once (came n i child x)
        (came k j child y);
  }
    where
      ps : Pieces
      ps = (start pairs words).pieces

      hang : HangsAs (start pairs words).pieces (tree_at first_row pairs) pairs anchor
          (rows_from first_row pairs) first_row (first_row + ideal_words (length pairs))
      hang = start_hangs pairs words opens anchor (omega arith)

      once : Distinct hang.rows
      once = between_once first_row (first_row + ideal_words (length pairs)) hang.rows hang.between

      same_ref : (o : Option Ref) (a b : Ref) → o ≡ Some a → o ≡ Some b → a ≡ b
      same_ref o a b e f = cc

      came : (node i child : ℕ) → Mentions (start pairs words) node i (InnerAt child)
          → HangsIn (start pairs words).pieces anchor 0
          (tree_at first_row pairs) hang.rows node i child
      came node i child (inl h) = inl (
        h.0,
        h.1,
        same_ref (ref_of (start pairs words).anchor) (tree_at first_row pairs)
            (InnerAt child) (start_anchor pairs words opens) h.2,
      )
      came node i child (inr h) =
          start_says hang.rows (tree_rows (start pairs words).pieces (tree_at first_row pairs)
          anchor hang.rows hang.tree) h.0 h.1 h.2
          (hang.each h.0 h.1 (among-pieces_of (rows_from first_row pairs) h.0 h.1 h.2)) node i child
          h.3

  -- each inner row after a log from a new table has one home
  pub one_home : (log : Log) → EachEnabled (start pairs words) log
      → HasOneHome (state_of pairs words log)
  one_home [] h = one_home_start
  one_home (event ∷ log) h = one_home_step log event h (one_home log h.0)

-- ---- a number that a row has: its count, if it is an inner row, or its draw word, if it is a rebuild.
-- Fresh rows have 0, and only a Count or a Draw raises it. Serves `TallyLemmas` and `DrawnLemmas`.

-- what the functions make of an inner row's count and of a rebuild's draw word, and 0 of other rows
abbrev pub number_in : (ℕ → ℕ) → (ℕ → ℕ) → Piece → ℕ
number_in of_count of_draw = field_in (λ _ n. of_count n) (λ _ n. of_draw n) 0

-- the row at the place, if any, has at most this number
abbrev pub NumberAtMost : (Piece → ℕ) → ℕ → Pieces → ℕ → Type 0
NumberAtMost number place ps most = (q : Piece) → ps place ≡ Some q → number q ≤ most

module _ (of_count of_draw : ℕ → ℕ) (no_count : of_count 0 ≡ 0) (no_draw : of_draw 0 ≡ 0) where
  -- the number of a row
  abbrev number : Piece → ℕ
  number = number_in of_count of_draw

  -- what it is of an inner row
  abbrev by_count : ℕ → ℕ → ℕ
  by_count = λ _ n. of_count n

  -- what it is of a rebuild
  abbrev by_draw : ℕ → ℕ → ℕ
  by_draw = λ _ n. of_draw n

  -- each row of a new table has 0
  pub start_fresh : (pairs : List Pair) (words most place : ℕ)
      → NumberAtMost number place (start pairs words).pieces most
  start_fresh pairs words most place q e =
      let none = each-among (λ row. number row.1 ≡ 0) (place, q) (rows_from first_row pairs)
      (rows_fresh by_count by_draw 0 no_count no_draw (length pairs) first_row pairs)
      (among-pieces_of (rows_from first_row pairs) place q e) in
      omega arith

  -- an event that leaves the number keeps the bound
  pub number_kept : (pairs : List Pair) (words : ℕ) (log : Log) (place most : ℕ) (event : Event)
      → LeavesField number event → EachEnabled (start pairs words) (event ∷ log)
      → NumberAtMost number place (state_of pairs words log).pieces most
      → NumberAtMost number place (state_of pairs words (event ∷ log)).pieces most
  number_kept pairs words log place most event same h old q e =
      ⊎_elim (λ none. let zero = none.1 in omega arith)
      (λ set.
      let it = has_step number 0 (field_rare by_count by_draw 0 no_count no_draw)
      (start pairs words) log event h.1
      (sound (start pairs words) log (sound_start pairs words) h.0) same place (number q) set.1
      (q, e, refl) in
      let before = old it.0 it.1 in let is = it.2 in
      omega arith)
      (eqb_tells (number q) 0)
