-- After a lawful log each leaf lies where its key leads, and the keys of each inner row are
-- strictly increasing. Serves `laws.leaves_lie_by_key`.
use Rattle.std.proofs.Common.{◌≡◌, ℕ, zero, suc, ◌+◌, ◌<◌, ◌⊎◌, List, [], ◌∷◌, length, map, slice_index, Some, refl, sym, subst, inl, inr, arith}
use Rattle.std.specs.List.Sorted.{IsStrictlyIncreasing}
use Rattle.ist_core.specs.Types.{Pair, Row, Event, Enter, Reserve, Install, Okay, Decide, Resolve, Count, Mark, Pass, Finish, Root, Draw, Place, Lose}
use Rattle.ist_core.specs.WordTerms.{anchor, first_row, ideal_words, LeafAt, InnerAt, ChangeAt, ref_of, word_of, marked_word, finished_word, Piece, Inner, Change, row_at, with_slot, with_status, counted, with_decision, drawn, start, tree_at, rows_from, of_anchor}
use Rattle.ist_core.specs.LogTerms.{Among, Each, Snapshot, after, decision_word, Log, EachEnabled, CanOpen, state_of}
use Rattle.ist_core.specs.TreeTerms.{AllGrow}
use Rattle.ist_core.proofs.OptionLemmas.{each-among, among-pieces_of, same_value}
use Rattle.ist_core.proofs.SoundLemmas.{sound}
use Rattle.ist_core.proofs.StepLemmas.{sound_start, IsInstalledWith, adds_install, holds_installed, known}
use Rattle.ist_core.proofs.InstallLemmas.{with_installed}
use Rattle.ist_core.proofs.FreshLemmas.{fresh_stands}
use Rattle.ist_core.proofs.GrowingLemmas.{all_grow-changed_at, grows-with_slot}
use Rattle.ist_core.proofs.PlaceLemmas.{anchor_free}
use Rattle.ist_core.proofs.RoomLemmas.{ref_of-change, anchor_slot}
use Rattle.ist_core.proofs.SlotStepLemmas.{install_stands}
use Rattle.ist_core.proofs.TreeLemmas.{IsTreeRow, tree_rows}
use Rattle.ist_core.proofs.StartTreeLemmas.{IsLeafRow, leaf_row, HangsAs, start_hangs, start_anchor}
use Rattle.ist_core.proofs.OrderLemmas.{names, install_good}
use Rattle.ist_core.proofs.HomeLemmas.{Says, Mentions, came_old, came_added, came-changed_at, came-with_slot, came-with_status, came-counted, came-drawn, came-with_decision, anchor_came}
use Rattle.ist_core.proofs.HomeStepLemmas.{word_of_other}
use Rattle.ist_core.proofs.ParentLemmas.{one_home}
use Rattle.ist_core.proofs.MentionLemmas.{mentions_step}
use Rattle.ist_core.proofs.RisingLemmas.{AreRisingKeys, Rising}
use Rattle.ist_core.proofs.LeadingLemmas.{to_anchor, LiesIn, LeafLies, LeavesLie, lies_step, was_led, RowLies, split_lies}
use Rattle.ist_core.proofs.RootKeyLemmas.{roots_are_cut}
use Rattle.ist_core.proofs.LeafStepLemmas.{LiesOn, lies_from, lies_same, lies_changed, lies_resolve}
use Rattle.ist_core.proofs.LeafBuildLemmas.{lies_root, lies_place}
use Rattle.ist_core.proofs.LeafInstallLemmas.{installed_lies}
use Rattle.ist_core.proofs.FateLemmas.{grow_after}

-- ---- strictly increasing numbers in the words of the definitions

module _ {A : Type 0} (key : A → ℕ) where
  above_all : (low x : ℕ) (xs : List A) → low < x → Each (λ y. x < key y) xs
      → Each (λ y. low < key y) xs
  above_all low x [] less h = tt
  above_all low x (y ∷ ys) less h = let first = h.0 in (omega arith, above_all low x ys less h.1)

  -- in a list with strictly increasing keys, each key is below all later ones
  pub rises_from_next : (xs : List A) → IsStrictlyIncreasing (map key xs) → AreRisingKeys key xs
  rises_from_next [] h = tt
  rises_from_next (x ∷ []) h = (tt, tt)
  rises_from_next (x ∷ y ∷ ys) h = let less = h 0 (omega arith) in
      let rest = rises_from_next (y ∷ ys)
      (λ k short. subst (λ m. slice_index (map key (x ∷ y ∷ ys)) (suc k) < slice_index
      (map key (x ∷ y ∷ ys)) m) (let e : suc k + 1 ≡ suc (k + 1) = omega arith in e)
      (h (suc k) (omega arith))) in
      ((less, above_all (key x) (key y) ys less rest.0), rest)

-- if numbers are strictly increasing, each is below the next
pub next_from_rising : (xs : List ℕ) → Rising xs → IsStrictlyIncreasing xs
next_from_rising [] h k short = absurd (omega arith)
next_from_rising (x ∷ []) h k short = absurd (omega arith)
next_from_rising (x ∷ y ∷ ys) h zero short = h.0.0
next_from_rising (x ∷ y ∷ ys) h (suc k) short =
    subst (λ m. slice_index (x ∷ y ∷ ys) (suc k) < slice_index (x ∷ y ∷ ys) m)
    (let e : suc (k + 1) ≡ suc k + 1 = omega arith in e)
    (next_from_rising (y ∷ ys) h.1 k (omega arith))

-- if elements have strictly increasing keys, each key is below the next
pub next_from_rises : {A : Type 0} (key : A → ℕ) (xs : List A) → AreRisingKeys key xs → IsStrictlyIncreasing
    (map key xs)
next_from_rises {A = A} key xs h = next_from_rising (map key xs) (keys xs h)
  where
    mapped : (low : ℕ) (ys : List A) → Each (λ y. low < key y) ys → Each (λ k. low < k) (map key ys)
    mapped low [] h = tt
    mapped low (y ∷ ys) h = (h.0, mapped low ys h.1)

    keys : (ys : List A) → AreRisingKeys key ys → Rising (map key ys)
    keys [] h = tt
    keys (y ∷ ys) h = (mapped (key y) ys h.0, keys ys h.1)

module _ (pairs : List Pair) (words : ℕ) (opens : CanOpen pairs words) where
  -- ---- a new table

  -- the keys of the start pairs are strictly increasing
  pub pairs_rise : AreRisingKeys (λ pair. pair.key) pairs
  pairs_rise = rises_from_next (λ pair. pair.key) pairs opens.rising

  all_at_anchor : (xs : List Pair) → Each (λ x. LiesIn (start pairs words) x.key anchor 0) xs
  all_at_anchor [] = tt
  all_at_anchor (x ∷ xs) = (
    record { led = to_anchor; child_for = of_anchor refl refl },
    all_at_anchor xs,
  )

  lies_start : LeavesLie (start pairs words)
  lies_start = record { each = each }
    where
      t : Snapshot
      t = start pairs words

      hang : HangsAs (start pairs words).pieces (tree_at first_row pairs) pairs anchor
          (rows_from first_row pairs) first_row (first_row + ideal_words (length pairs))
      hang = start_hangs pairs words opens anchor (omega arith)

      lies : Each (RowLies t) hang.rows ×
          ((leaf : ℕ) → tree_at first_row pairs ≡ LeafAt leaf → LeafLies t anchor 0 leaf)
      lies = split_lies (λ pair. pair.key) t.pieces t (λ base r e. e) (tree_at first_row pairs)
          pairs hang.rows hang.splits (λ base r i e. e) pairs_rise anchor 0
          (inl (refl, refl, start_anchor pairs words opens)) (all_at_anchor pairs)

      by_row : (base : ℕ) (p : Piece) → t.pieces base ≡ Some p → IsLeafRow p ⊎ Among base hang.rows
          → (node i leaf : ℕ) → Says base p node i (LeafAt leaf) → LeafLies t node i leaf
      by_row base _ e (inl (leaf_row r)) node i leaf says = absurd says
      by_row base p e (inr k) node i leaf says =
          let it = each-among (IsTreeRow t.pieces) base hang.rows
          (tree_rows t.pieces (tree_at first_row pairs) anchor hang.rows hang.tree) k in
          known (λ x. Says base x node i (LeafAt leaf) → LeafLies t node i leaf) (t.pieces base) p
          (Inner it.row) e it.published
          (λ s. subst (λ n. LeafLies t n i leaf) (sym s.0)
          (each-among (RowLies t) base hang.rows lies.0 k it.row it.published i s.1 leaf s.2
          s.3)) says

      each : (node i leaf : ℕ) → Mentions t node i (LeafAt leaf) → LeafLies t node i leaf
      each node i leaf (inl h) = subst (λ n. LeafLies t n i leaf) (sym h.0)
          (subst (λ j. LeafLies t anchor j leaf) (sym h.1)
          (lies.1 leaf (same_value (ref_of t.anchor) (tree_at first_row pairs) (LeafAt leaf)
          (start_anchor pairs words opens) h.2)))
      each node i leaf (inr h) = by_row h.0 h.1 h.2
          (hang.each h.0 h.1 (among-pieces_of (rows_from first_row pairs) h.0 h.1 h.2)) node i leaf
          h.3

  -- ---- each event

  on : (log : Log) (event : Event) → EachEnabled (start pairs words) (event ∷ log)
      → LiesOn (state_of pairs words log) (state_of pairs words (event ∷ log))
  on log event h key node i lies = lies_step pairs words opens log event h key node i lies

  lies_install : (log : Log) (caller base : ℕ) (rows : List Row)
      (h : EachEnabled (start pairs words) (Install caller base rows ∷ log))
      → LeavesLie (state_of pairs words log)
      → LeavesLie (after (state_of pairs words log) (Install caller base rows))
  lies_install log caller base rows both lie = let h = both.1 in let e = both.0 in
      let t = state_of pairs words log in let first = start pairs words in
      let s = sound first log (sound_start pairs words) e in
      let holds = holds_installed first log caller base rows h in
      let good = install_good pairs words opens log e caller base rows h in
      let qs = with_installed t.pieces base h.change h.fresh in
      let adds = adds_install first log caller base h.change h.fresh h.fits holds s in
      let word = word_of (ChangeAt base) in
      let u = after t (Install caller base (row_at base (Change h.change) ∷ h.fresh)) in
      let New = LeafLies u in
      let growing = subst (λ xs. AllGrow t.pieces (after t (Install caller base xs)).pieces)
      h.rows_are (grow_after pairs words log (Install caller base rows) both) in
      let onward = subst (λ xs. LiesOn t (after t (Install caller base xs))) h.rows_are
      (on log (Install caller base rows) both) in
      let stands = subst (λ xs. (after t (Install caller base xs)).pieces base ≡ Some
      (Change h.change)) h.rows_are (install_stands first log caller base rows h) in
      let slot = word_of_other LeafAt t New h.change.node h.change.index (ref_of word)
      (ChangeAt base) (ref_of-change base good.0) (λ leaf k. cc) in
      subst (λ xs. LeavesLie (after t (Install caller base xs))) (sym h.rows_are)
      (lies_from t u growing onward (names pairs words opens log e) lie
      (came-changed_at LeafAt t New qs h.change.node (with_slot h.change.index word)
      (came_added LeafAt t New t.pieces qs (IsInstalledWith first log base h.change h.fresh h.fits) adds
      (came_old LeafAt t New)
      (λ at p born _. installed_lies first log base h.change h.fresh u qs
      (all_grow-changed_at qs h.change.node (with_slot h.change.index word)
      (λ x _. grows-with_slot h.change.index word x)) growing onward lie h.in_slot stands
      (λ by_key. onward h.change.key h.change.node h.change.index record {
        led = was_led pairs words opens log e h.change.key h.change.node by_key.led;
        child_for = by_key.index;
      })
      good.1 h.fits (λ b x f. fresh_stands first log caller base h.change h.fresh s t.pieces h.fits
      holds b x f) adds.keeps at p born))
      (λ p _ old. came-with_slot LeafAt t New h.change.node h.change.index word p slot old))
      (anchor_came LeafAt t u New h.change.node h.change.index word refl
      (anchor_slot t h.change.node h.change.index h.change.from (anchor_free pairs words log e)
      h.in_slot) slot))

  lies_after : (log : Log) (event : Event) → EachEnabled (start pairs words) (event ∷ log)
      → LeavesLie (state_of pairs words log) → LeavesLie (state_of pairs words (event ∷ log))
  lies_after log (Install caller base rows) h lie = lies_install log caller base rows h lie
  lies_after log (Resolve caller base) h lie =
      lies_resolve (state_of pairs words log) caller base h.1 (anchor_free pairs words log h.0)
      (names pairs words opens log h.0) (grow_after pairs words log (Resolve caller base) h)
      (on log (Resolve caller base) h) lie
  lies_after log (Root caller rebuild word rows) h lie =
      lies_root (state_of pairs words log) caller rebuild word rows h.1
      (sound (start pairs words) log (sound_start pairs words) h.0)
      (names pairs words opens log h.0) (one_home pairs words opens log h.0)
      (anchor_free pairs words log h.0) (grow_after pairs words log (Root caller rebuild word rows) h)
      (on log (Root caller rebuild word rows) h) lie
  lies_after log (Place caller rebuild i word rows) h lie =
      lies_place (state_of pairs words log) caller rebuild i word rows h.1
      (sound (start pairs words) log (sound_start pairs words) h.0)
      (names pairs words opens log h.0) (one_home pairs words opens log h.0)
      (anchor_free pairs words log h.0) (grow_after pairs words log (Place caller rebuild i word rows) h)
      (on log (Place caller rebuild i word rows) h)
      (λ node j m. mentions_step pairs words opens log (Place caller rebuild i word rows) h node j
      (InnerAt h.1.root) (λ base e. cc) (λ e. cc) m)
      (roots_are_cut pairs words opens log h.0 rebuild h.1.row h.1.root h.1.root_row h.1.published
      h.1.root_is h.1.root_published) lie
  lies_after log (Decide caller base said) h lie =
      let u = state_of pairs words (Decide caller base said ∷ log) in
      lies_changed (state_of pairs words log) u base (with_decision (decision_word said))
      (grow_after pairs words log (Decide caller base said) h) (on log (Decide caller base said) h)
      (names pairs words opens log h.0) lie refl refl
      (λ p k. came-with_decision LeafAt (state_of pairs words log) (LeafLies u) base
      (decision_word said) p k)
  lies_after log (Count caller node) h lie =
      let u = state_of pairs words (Count caller node ∷ log) in
      lies_changed (state_of pairs words log) u node counted (grow_after pairs words log (Count caller node) h)
      (on log (Count caller node) h) (names pairs words opens log h.0) lie refl refl
      (λ p k. came-counted LeafAt (state_of pairs words log) (LeafLies u) node p k)
  lies_after log (Mark caller node) h lie = let u = state_of pairs words (Mark caller node ∷ log) in
      lies_changed (state_of pairs words log) u node (with_status marked_word)
      (grow_after pairs words log (Mark caller node) h) (on log (Mark caller node) h)
      (names pairs words opens log h.0) lie refl refl
      (λ p k. came-with_status LeafAt (state_of pairs words log) (LeafLies u) node marked_word p k)
  lies_after log (Finish caller node keys) h lie =
      let u = state_of pairs words (Finish caller node keys ∷ log) in
      lies_changed (state_of pairs words log) u node (with_status (finished_word keys))
      (grow_after pairs words log (Finish caller node keys) h) (on log (Finish caller node keys) h)
      (names pairs words opens log h.0) lie refl refl
      (λ p k. came-with_status LeafAt (state_of pairs words log) (LeafLies u) node
      (finished_word keys) p k)
  lies_after log (Draw caller rebuild part) h lie =
      let u = state_of pairs words (Draw caller rebuild part ∷ log) in
      lies_changed (state_of pairs words log) u rebuild drawn
      (grow_after pairs words log (Draw caller rebuild part) h) (on log (Draw caller rebuild part) h)
      (names pairs words opens log h.0) lie refl refl
      (λ p k. came-drawn LeafAt (state_of pairs words log) (LeafLies u) rebuild p k)
  lies_after log (Enter caller) h lie = lies_same _ _ (grow_after pairs words log (Enter caller) h)
      (on log (Enter caller) h) (names pairs words opens log h.0) lie refl refl
  lies_after log (Reserve caller base size) h lie = lies_same _ _
      (grow_after pairs words log (Reserve caller base size) h) (on log (Reserve caller base size) h)
      (names pairs words opens log h.0) lie refl refl
  lies_after log (Okay caller change) h lie = lie
  lies_after log (Pass caller node i word) h lie = lie
  lies_after log (Lose caller bases) h lie = lies_same _ _ (grow_after pairs words log (Lose caller bases) h)
      (on log (Lose caller bases) h) (names pairs words opens log h.0) lie refl refl

  -- after a log from a new table each leaf lies where its key leads
  pub leaves_lie : (log : Log) → EachEnabled (start pairs words) log
      → LeavesLie (state_of pairs words log)
  leaves_lie [] h = lies_start
  leaves_lie (event ∷ log) h = lies_after log event h (leaves_lie log h.0)
