-- Where each row after an event comes from: it was there before and grew, or the event makes it.
-- Serves the conjuncts that growing keeps.
use Rattle.std.proofs.Common.{◌≡◌, ℕ, ◌⊎◌, List, ◌∷◌, Some, refl, sym, ap, subst, inl, inr, ⊎_elim, zero, suc, None, ◌∙◌, arith}
use Rattle.ist_core.specs.Types.{Row, Event, Install, Decide, Resolve, Count, Mark, Finish, Root, Draw, Place, ChangeRow}
use Rattle.ist_core.specs.WordTerms.{ChangeAt, word_of, marked_word, finished_word, Pieces, Piece, Rebuild, with_inners, changed_at, with_slot, with_status, counted, with_decision, with_root, drawn, Empty, LeafAt, InnerAt, RebuildAt, IsGoodBase, ref_of, Leaf, Change, row_at, SlotHolds}
use Rattle.ist_core.specs.LogTerms.{Among, Snapshot, bases_of, after, decision_word, side_of, Log, state, Enabled, HoldsRows}
use Rattle.ist_core.specs.TreeTerms.{CanInstall, Grows, AllGrow, new_leaf, pair_row, pair_over, FitsKind, a_put, a_pair, a_remove, a_start, a_finish}
use Rattle.ist_core.proofs.OptionLemmas.{changed_at-some, same_value}
use Rattle.ist_core.proofs.MoveLemmas.{HeldLieApart}
use Rattle.ist_core.proofs.InstallLemmas.{with_installed}
use Rattle.ist_core.proofs.StepLemmas.{IsInstalledWith, adds_install, adds-with_inners, grow_step, rows_resolved, rows_placed, holds_installed, known}
use Rattle.ist_core.proofs.GrowingLemmas.{grows_same, grows-with_slot, grows-with_root, all_grow-changed_at}
use Rattle.ist_core.proofs.ReferenceLemmas.{ref_of-unset, ref_of-word_of}
use Rattle.ist_core.proofs.FreshLemmas.{IsPublishedWith}
use Rattle.ist_core.proofs.HomeLemmas.{slot_mentions, WasNamedOrIsNew, SaysCame, WordCame, AreNew}
use Rattle.ist_core.proofs.HomeStepLemmas.{NoneNew, word_of_other, word_mentioned, word_new}

-- the row is published by the event
pub data Born (first : Snapshot) (log : Log) (base : ℕ) (p : Piece) : Event → Type 0 where
  by_install : {caller change : ℕ} {rows : List Row} (h : CanInstall first log caller change rows)
      → IsInstalledWith first log change h.change h.fresh h.fits base p
      → Born first log base p (Install caller change rows)
  by_root : {caller rebuild word : ℕ} {rows : List Row} → Among base (bases_of rows)
      → with_inners (state first log).pieces rows base ≡ Some p
      → Born first log base p (Root caller rebuild word rows)
  by_place : {caller rebuild i word : ℕ} {rows : List Row} → Among base (bases_of rows)
      → with_inners (state first log).pieces rows base ≡ Some p
      → Born first log base p (Place caller rebuild i word rows)

-- the row grew from one that was there before, or from one that the event makes
pub data Comes (first : Snapshot) (log : Log) (event : Event) (base : ℕ) (q : Piece) : Type 0 where
  from_old : (p : Piece) → (state first log).pieces base ≡ Some p → Grows p q
      → Comes first log event base q
  from_born : (p : Piece) → Born first log base p event → Grows p q → Comes first log event base q

-- if one row is changed, each row after the event comes from one before it
changed_comes : (first : Snapshot) (log : Log) (event : Event) (at : ℕ) (f : Piece → Piece)
    → AllGrow (state first log).pieces (state first (event ∷ log)).pieces
    → (state first (event ∷ log)).pieces ≡ changed_at (state first log).pieces at f
    → (base : ℕ) (q : Piece) → (state first (event ∷ log)).pieces base ≡ Some q
    → Comes first log event base q
changed_comes first log event at f grows pieces base q e =
    let it = changed_at-some (state first log).pieces at base f q
    (subst (λ ps. ps base ≡ Some q) pieces e) in
    let on = grows base it.0 it.1 in
    from_old it.0 it.1 (subst (λ x. Grows it.0 x)
    (same_value ((state first (event ∷ log)).pieces base) on.0 q on.1 e) on.2)

same_comes : (first : Snapshot) (log : Log) (event : Event)
    → (state first (event ∷ log)).pieces ≡ (state first log).pieces → (base : ℕ) (q : Piece)
    → (state first (event ∷ log)).pieces base ≡ Some q → Comes first log event base q
same_comes first log event pieces base q e = from_old q (subst (λ ps. ps base ≡ Some q) pieces e)
    (grows_same q)

-- if rows are added and one is changed, each row after the event comes from one before it or is new
added_comes : (first : Snapshot) (log : Log) (event : Event) (qs : Pieces) (at : ℕ)
    (f : Piece → Piece) → AllGrow qs (state first (event ∷ log)).pieces
    → (state first (event ∷ log)).pieces ≡ changed_at qs at f
    → ((base : ℕ) (p : Piece) → qs base ≡ Some p → ((state first log).pieces base ≡ Some p) ⊎ Born
    first log base p event)
    → (base : ℕ) (q : Piece) → (state first (event ∷ log)).pieces base ≡ Some q
    → Comes first log event base q
added_comes first log event qs at f grows pieces from base q e =
    let it = changed_at-some qs at base f q (subst (λ ps. ps base ≡ Some q) pieces e) in
    let on = grows base it.0 it.1 in
    let grew = subst (λ x. Grows it.0 x)
    (same_value ((state first (event ∷ log)).pieces base) on.0 q on.1 e) on.2 in
    ⊎_elim (λ old. from_old it.0 old grew) (λ born. from_born it.0 born grew) (from base it.0 it.1)

install_comes : (first : Snapshot) (log : Log) (caller change : ℕ) (rows : List Row)
    → CanInstall first log caller change rows → HeldLieApart (state first log) → (base : ℕ) (q : Piece)
    → (state first (Install caller change rows ∷ log)).pieces base ≡ Some q
    → Comes first log (Install caller change rows) base q
install_comes first log caller change rows h s base q e = let t = state first log in
    let qs = with_installed t.pieces change h.change h.fresh in
    let adds = adds_install first log caller change h.change h.fresh h.fits
    (holds_installed first log caller change rows h) s in
    let word = word_of (ChangeAt change) in let f = with_slot h.change.index word in
    let there : changed_at qs h.change.node f base ≡ Some q = subst
    (λ xs. (after t (Install caller change xs)).pieces base ≡ Some q) h.rows_are e in
    let it = changed_at-some qs h.change.node base f q there in
    let on = all_grow-changed_at qs h.change.node f (λ p _. grows-with_slot h.change.index word p)
    base it.0 it.1 in
    let grew = subst (λ x. Grows it.0 x)
    (same_value (changed_at qs h.change.node f base) on.0 q on.1 there) on.2 in
    ⊎_elim (λ old. from_old it.0 old grew) (λ born. from_born it.0 (by_install h born) grew)
    (adds.from base it.0 it.1)

-- each row after an enabled event was there before and grew, or is new
pub comes : (first : Snapshot) (log : Log) (event : Event) → Enabled first log event
    → HeldLieApart (state first log) → (base : ℕ) (q : Piece)
    → (state first (event ∷ log)).pieces base ≡ Some q → Comes first log event base q
comes first log (Install caller change rows) h s base q e = install_comes first log caller change
    rows h s base q e
comes first log (Resolve caller change) h s base q e = let t = state first log in
    changed_comes first log (Resolve caller change) h.change.node
    (with_slot h.change.index (side_of h.change)) (grow_step first log (Resolve caller change) h s)
    (ap (λ u. u.pieces) (rows_resolved t caller change h)) base q e
comes first log (Root caller rebuild word rows) h s base q e = let t = state first log in
    let qs = with_inners t.pieces rows in let adds = adds-with_inners t caller rows h.held s in
    let grows : AllGrow qs (changed_at qs rebuild (with_root word)) = all_grow-changed_at qs rebuild
    (with_root word)
    (λ p k. known (λ x. Grows x (with_root word x)) (qs rebuild) p (Rebuild h.row) k
    (adds.keeps rebuild (Rebuild h.row) h.published) (grows-with_root h.row word h.rootless)) in
    added_comes first log (Root caller rebuild word rows) qs rebuild (with_root word) grows refl
    (λ b p k. ⊎_elim (λ old. inl old) (λ i. inr (by_root i k)) (adds.from b p k)) base q e
comes first log (Place caller rebuild i word rows) h s base q e = let t = state first log in
    let qs = with_inners t.pieces rows in let adds = adds-with_inners t caller rows h.held s in
    let pieces = rows_placed t caller rebuild i word rows h in
    added_comes first log (Place caller rebuild i word rows) qs h.root (with_slot i word)
    (subst (λ ps. AllGrow qs ps) (sym pieces)
    (all_grow-changed_at qs h.root (with_slot i word) (λ p _. grows-with_slot i word p))) pieces
    (λ b p k. ⊎_elim (λ old. inl old) (λ j. inr (by_place j k)) (adds.from b p k)) base q e
comes first log (Decide caller change said) h s base q e = changed_comes first log
    (Decide caller change said) change (with_decision (decision_word said))
    (grow_step first log (Decide caller change said) h s) refl base q e
comes first log (Count caller node) h s base q e = changed_comes first log (Count caller node) node
    counted (grow_step first log (Count caller node) h s) refl base q e
comes first log (Mark caller node) h s base q e = changed_comes first log (Mark caller node) node
    (with_status marked_word) (grow_step first log (Mark caller node) h s) refl base q e
comes first log (Finish caller node keys) h s base q e = changed_comes first log
    (Finish caller node keys) node (with_status (finished_word keys))
    (grow_step first log (Finish caller node keys) h s) refl base q e
comes first log (Draw caller rebuild part) h s base q e = changed_comes first log
    (Draw caller rebuild part) rebuild drawn (grow_step first log (Draw caller rebuild part) h s)
    refl base q e
comes first log event h s base q e = same_comes first log event refl base q e

-- ---- an Install keeps the conjunct `one_home`: what its rows name is new, or was named already. Serves
-- the one-parent law.

-- the pair row of a put is named for the change's slot
abbrev pub NewPair : (first : Snapshot) (log : Log) (change : ChangeRow) (fresh : List Row)
    → FitsKind first log change fresh → ℕ → ℕ → ℕ → Type 0
NewPair first log change fresh (a_pair h) node i child = (node ≡ change.node) × (i ≡ change.index) × (child ≡ h.pair)
NewPair first log change fresh _ node i child = ⊥

module _ (first : Snapshot) (log : Log) (caller at : ℕ) (change : ChangeRow) (fresh : List Row) (sound : HeldLieApart (state first log))
    (holds : HoldsRows (state first log) caller (row_at at (Change change) ∷ fresh))
    (in_slot : SlotHolds (state first log) change.node change.index change.from) where
  -- the pair row of a put is new
  pub pair_new : (fits : FitsKind first log change fresh)
      → AreNew (state first log) (NewPair first log change fresh fits)
  pair_new (a_pair h) = record {
    unpublished = λ node i child x. subst (λ b. (state first log).pieces b ≡ None) (sym x.2)
        (let held = subst (λ rows. HoldsRows (state first log) caller (row_at at (Change change) ∷ rows)) h.fresh_are holds in
        sound.unpublished record { caller = caller; base = h.pair; size = _ } held.1.0);
    one = λ n i k j child x y. (x.0 ∙ sym y.0, x.1 ∙ sym y.1);
  }
  pair_new (a_put h) = record { unpublished = λ node i child x. absurd x; one = λ n i k j child x y. absurd x }
  pair_new (a_remove h) = record { unpublished = λ node i child x. absurd x; one = λ n i k j child x y. absurd x }
  pair_new (a_start h) = record { unpublished = λ node i child x. absurd x; one = λ n i k j child x y. absurd x }
  pair_new (a_finish h) = record { unpublished = λ node i child x. absurd x; one = λ n i k j child x y. absurd x }

  -- what a change takes out is named already
  from_came : (New : ℕ → ℕ → ℕ → Type 0)
      → WordCame InnerAt (state first log) New change.node change.index (ref_of change.from)
  from_came New = grind (arith, word_mentioned, slot_mentions)

  -- what a change puts in is a new pair row, or the root of its rebuild, or no inner row
  to_came : (fits : FitsKind first log change fresh)
      → WordCame InnerAt (state first log) (NewPair first log change fresh fits) change.node change.index
      (ref_of change.to)
  to_came (a_put h) = word_of_other InnerAt (state first log) NoneNew change.node change.index (ref_of change.to) (LeafAt h.leaf) h.to (λ child e. cc)
  to_came (a_pair h) = grind (arith, word_new)
  to_came (a_remove h) = word_of_other InnerAt (state first log) NoneNew change.node change.index (ref_of change.to) Empty h.to (λ child e. cc)
  to_came (a_start h) = word_of_other InnerAt (state first log) NoneNew change.node change.index
      (ref_of change.to) (RebuildAt h.rebuild) h.to (λ child e. cc)
  to_came (a_finish h) = grind (arith, word_mentioned, NoneNew)

  -- the slots of a pair row name leaves
  over_says : (New : ℕ → ℕ → ℕ → Type 0) (base key left right : ℕ) → IsGoodBase left
      → IsGoodBase right → SaysCame InnerAt (state first log) New base (pair_over key left right)
  unfolding SaysCame
  over_says New base key left right gl gr node zero child says =
      absurd (cc (sym (ref_of-word_of (LeafAt left) gl) ∙ ap ref_of (cc (says.2)) ∙ says.3))
  over_says New base key left right gl gr node (suc zero) child says =
      absurd (cc (sym (ref_of-word_of (LeafAt right) gr) ∙ ap ref_of (cc (says.2)) ∙ says.3))
  over_says New base key left right gl gr node (suc (suc i)) child says = absurd (let e = says.2 in cc)

  pair_says : (New : ℕ → ℕ → ℕ → Type 0) (base key leaf other_key other : ℕ) → IsGoodBase leaf
      → IsGoodBase other → SaysCame InnerAt (state first log) New base (pair_row key leaf other_key other)
  pair_says New base key leaf other_key other gl go = grind (arith, SaysCame, over_says)

  -- what all rows of an Install name
  pub installed_says : (fits : FitsKind first log change fresh)
      → (leaf_good : (base : ℕ) → IsPublishedWith first log change fresh fits base (new_leaf change) → IsGoodBase base)
      → (other_good : (base : ℕ) → (r : Piece) → (state first log).pieces base ≡ Some r → IsGoodBase base)
      → (base : ℕ) (p : Piece) → IsInstalledWith first log at change fresh fits base p
      → SaysCame InnerAt (state first log) (NewPair first log change fresh fits) base p
  unfolding SaysCame WordCame
  installed_says fits leaf_good other_good base p (inl (here, new)) =
      grind (arith, SaysCame, WasNamedOrIsNew, from_came, to_came)
  installed_says (a_put h) leaf_good other_good base p (inr (here, new)) =
      grind (arith, SaysCame, NoneNew)
  installed_says (a_pair h) leaf_good other_good base p (inr (inl (here, new))) =
      subst (λ x. SaysCame InnerAt (state first log) (NewPair first log change fresh (a_pair h)) base x) (sym new)
      (pair_says (NewPair first log change fresh (a_pair h)) base change.key h.leaf h.other_key
      h.other (leaf_good h.leaf (inr (refl, refl)))
      (other_good h.other (Leaf h.stands.row) h.stands.published))
  installed_says (a_pair h) leaf_good other_good base p (inr (inr (here, new))) =
      subst (λ x. SaysCame InnerAt (state first log) (NewPair first log change fresh (a_pair h)) base x) (sym new) (λ node i child says. absurd says)
  installed_says (a_remove h) leaf_good other_good base p (inr f) = absurd f
  installed_says (a_start h) leaf_good other_good base p (inr (here, new)) =
      grind (arith, SaysCame, NoneNew, WasNamedOrIsNew, from_came, ref_of-unset)
  installed_says (a_finish h) leaf_good other_good base p (inr f) = absurd f
