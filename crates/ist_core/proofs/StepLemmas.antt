-- Each event lets the rows grow. Serves `laws.rows_grow`, and each law about rows.
use Rattle.std.proofs.Common.{◌≡◌, ℕ, ◌⊎◌, List, ◌∷◌, length, Option, Some, None, refl, sym, subst, inl, inr, ⊎_elim, ap, zero, suc, ◌+◌, ◌<◌, ◌≤◌, [], take, drop, zip, arith, length-drop}
use Rattle.ist_core.specs.Types.{Row, ChangeRow, LeafRow, RebuildRow, Event, Install, Decide, Resolve, Count, Mark, Finish, Root, Draw, Place, Pair}
use Rattle.ist_core.specs.LogTerms.{Among, Snapshot, bases_of, HoldsRow, HoldsRows, Log, state, with_fresh, after, side_of, resolved, Enabled}
use Rattle.ist_core.specs.WordTerms.{unset_word, Pieces, Piece, Leaf, Change, Rebuild, row_at, with_inners, ChangeAt, word_of, finished_word, Inner, as_change, changed_at, with_slot, with_status, degree, part_lens, first_row, inner_words, ideal_words, cut, start, bases_from, placed_parts, rows_within, rows_from}
use Rattle.ist_core.specs.TreeTerms.{FitsKind, pair_row, pair_over, a_put, a_pair, a_remove, a_start, a_finish, CanInstall, CanResolve, CanRoot, CanPlace, Grows, AllGrow, is_finished}
use Rattle.ist_core.proofs.OptionLemmas.{each-among, among-append, with_row-some, with_inners-some, with_inners-other, among-pieces_of}
use Rattle.ist_core.proofs.SplitLemmas.{base_among, row_among}
use Rattle.ist_core.proofs.InstallLemmas.{with_installed, publishes_install}
use Rattle.ist_core.proofs.MoveLemmas.{HeldLieApart}
use Rattle.ist_core.proofs.FreshLemmas.{IsPublishedWith, fresh_from}
use Rattle.ist_core.proofs.GrowingLemmas.{all_grow_same, all_grow_on, all_grow_added, all_grow-changed_at, grows-with_slot, grows-with_status, grows-with_decision, grows-with_root, grows-counted, grows-drawn}
use Rattle.std.specs.List.{sum, sum_by, flat_map}
use Rattle.std.proofs.lemmas.List.{length-take-le}
use Rattle.std.proofs.lemmas.List.Sums.{sum_by-cons}
use Rattle.ist_core.proofs.ShapeLemmas.{ideal_words_many}
use Rattle.ist_core.proofs.PartLemmas.{sum-part_lens}
use Rattle.ist_core.proofs.WordLemmas.{ideal_words_one}

-- ---- events that publish rows: the rows before the event stay, and the other rows are new. Serves each
-- law about rows.

-- the second rows are the first, and some that are new
pub record Adds (ps qs : Pieces) (Born : ℕ → Piece → Type 0) : Type 0 where
  -- a row of the first is also in the second
  pub keeps : (base : ℕ) (p : Piece) → ps base ≡ Some p → qs base ≡ Some p
  -- a row of the second is in the first, or is new
  pub from : (base : ℕ) (p : Piece) → qs base ≡ Some p → (ps base ≡ Some p) ⊎ Born base p

-- no row is published at the base of a held row
pub held_free : (t : Snapshot) (caller : ℕ) (rows : List Row) → HoldsRows t caller rows → HeldLieApart t
    → (base : ℕ) → Among base (bases_of rows) → t.pieces base ≡ None
held_free t caller rows holds sound base i = let it = row_among base rows i in
    subst (λ b. t.pieces b ≡ None) it.2
    (sound.unpublished record { caller = caller; base = it.0.base; size = length it.0.words }
    (each-among (λ x. HoldsRow t caller x.base (length x.words)) it.0 rows holds it.1))

-- if held rows are published, the rows before stay
pub held_keeps : (t : Snapshot) (caller : ℕ) (rows : List Row) (qs : Pieces)
    → HoldsRows t caller rows → HeldLieApart t
    → ((base : ℕ) → ¬ (Among base (bases_of rows)) → qs base ≡ t.pieces base)
    → (base : ℕ) (p : Piece) → t.pieces base ≡ Some p → qs base ≡ Some p
held_keeps t caller rows qs holds sound others base p e = grind (arith, held_free)

-- inner rows that are published
pub adds-with_inners : (t : Snapshot) (caller : ℕ) (rows : List Row) → HoldsRows t caller rows
    → HeldLieApart t → Adds t.pieces (with_inners t.pieces rows) (λ base p. Among base (bases_of rows))
adds-with_inners t caller rows holds sound = record {
  keeps = held_keeps t caller rows (with_inners t.pieces rows) holds sound
      (with_inners-other t.pieces rows);
  from = λ base p e.
      ⊎_elim (λ w. inr (subst (λ b. Among b (bases_of rows)) w.2 (base_among w.0 rows w.1)))
      (λ w. inl w) (with_inners-some t.pieces rows base p e);
}

-- the row is the change's, or one that is published together with it
abbrev pub IsInstalledWith : (first : Snapshot) (log : Log) (at : ℕ) (change : ChangeRow)
    (fresh : List Row) → FitsKind first log change fresh → ℕ → Piece → Type 0
IsInstalledWith first log at change fresh fits base p = ((base ≡ at) × (p ≡ Change change)) ⊎ IsPublishedWith
    first log change fresh fits base p

-- what leaves, changes, pair rows and new rebuilds have, each row that an Install publishes has
module _ (P : Piece → Type 0) (leaf : (r : LeafRow) → P (Leaf r))
    (one_change : (r : ChangeRow) → P (Change r))
    (pair : (key left right : ℕ) → P (pair_over key left right))
    (rebuild : (r : RebuildRow) → r.root ≡ unset_word → r.draw ≡ 0 → P (Rebuild r)) where
  pair_has : (key base other_key other : ℕ) → P (pair_row key base other_key other)
  pair_has key base other_key other = grind arith

  -- a row that an Install publishes
  pub installed_has : (first : Snapshot) (log : Log) (at : ℕ) (change : ChangeRow)
      (fresh : List Row) (fits : FitsKind first log change fresh) (base : ℕ) (p : Piece)
      → IsInstalledWith first log at change fresh fits base p → P p
  installed_has first log at change fresh fits base p (inl h) = subst P (sym h.1) (one_change change)
  installed_has first log at change fresh (a_put f) base p (inr h) = subst P (sym h.1) (leaf _)
  installed_has first log at change fresh (a_pair f) base p (inr (inl h)) = grind (arith, pair_has)
  installed_has first log at change fresh (a_pair f) base p (inr (inr h)) = grind arith
  installed_has first log at change fresh (a_remove f) base p (inr h) = absurd h
  installed_has first log at change fresh (a_start f) base p (inr h) = grind arith
  installed_has first log at change fresh (a_finish f) base p (inr h) = absurd h

-- the rows of an Install
pub adds_install : (first : Snapshot) (log : Log) (caller at : ℕ) (change : ChangeRow)
    (fresh : List Row) (fits : FitsKind first log change fresh)
    → HoldsRows (state first log) caller (row_at at (Change change) ∷ fresh)
    → HeldLieApart (state first log)
    → Adds (state first log).pieces (with_installed (state first log).pieces at change fresh)
    (IsInstalledWith first log at change fresh fits)
adds_install first log caller at change fresh fits holds sound = let t = state first log in record {
  keeps = held_keeps t caller (row_at at (Change change) ∷ fresh)
      (with_installed t.pieces at change fresh) holds sound
      (publishes_install t.pieces first log at change fresh fits).others;
  from = λ base p e. ⊎_elim (λ w. inr (inl (w.0, (cc (w.1)))))
      (λ w. ⊎_elim (λ v. inr (inr v)) (λ v. inl v)
      (fresh_from t.pieces first log change fresh fits base p w))
      (with_row-some (with_fresh t.pieces change fresh) at base (Some (Change change)) p e);
}

-- ---- the rows after the events that write by what a row says

-- after a Resolve the change's slot holds its side
pub rows_resolved : (t : Snapshot) (caller base : ℕ) (h : CanResolve t caller base)
    → after t (Resolve caller base) ≡ resolved t (Some h.change)
rows_resolved t caller base h = ap (λ o. resolved t (as_change o)) h.published

-- after a Place the root's slot holds the word
pub rows_placed : (t : Snapshot) (caller rebuild i word : ℕ) (rows : List Row)
    (h : CanPlace t caller rebuild i word rows)
    → (after t (Place caller rebuild i word rows)).pieces ≡ changed_at
    (with_inners t.pieces rows) h.root (with_slot i word)
rows_placed t caller rebuild i word rows h = grind arith

-- the rows of an Install, as its condition names them
pub holds_installed : (first : Snapshot) (log : Log) (caller base : ℕ) (rows : List Row)
    (h : CanInstall first log caller base rows)
    → HoldsRows (state first log) caller (row_at base (Change h.change) ∷ h.fresh)
holds_installed first log caller base rows h = grind arith

-- ---- rows grow

-- one base has one row: what holds of it as q holds of it as p
pub known : (P : Piece → Type 0) (o : Option Piece) (p q : Piece) → o ≡ Some p → o ≡ Some q → P q
    → P p
known P o p q h k x = let same : q ≡ p = cc in subst P same x

grow_install : (first : Snapshot) (log : Log) (caller base : ℕ) (rows : List Row)
    → CanInstall first log caller base rows → HeldLieApart (state first log)
    → AllGrow (state first log).pieces (after (state first log) (Install caller base rows)).pieces
grow_install first log caller base rows h sound = let t = state first log in
    let adds = adds_install first log caller base h.change h.fresh h.fits
    (holds_installed first log caller base rows h) sound in
    let qs = with_installed t.pieces base h.change h.fresh in
    subst (λ rs. AllGrow t.pieces (after t (Install caller base rs)).pieces) (sym h.rows_are)
    (all_grow_on t.pieces qs (changed_at qs h.change.node
    (with_slot h.change.index (word_of (ChangeAt base))))
    (all_grow_added t.pieces qs adds.keeps)
    (all_grow-changed_at qs h.change.node (with_slot h.change.index (word_of (ChangeAt base)))
    (λ p _. grows-with_slot h.change.index (word_of (ChangeAt base)) p)))

grow_resolve : (t : Snapshot) (caller base : ℕ) → CanResolve t caller base
    → AllGrow t.pieces (after t (Resolve caller base)).pieces
grow_resolve t caller base h =
    subst (λ u. AllGrow t.pieces u.pieces) (sym (rows_resolved t caller base h))
    (all_grow-changed_at t.pieces h.change.node (with_slot h.change.index (side_of h.change))
    (λ p _. grows-with_slot h.change.index (side_of h.change) p))

grow_root : (t : Snapshot) (caller rebuild word : ℕ) (rows : List Row)
    → CanRoot t caller rebuild word rows → HeldLieApart t
    → AllGrow t.pieces (after t (Root caller rebuild word rows)).pieces
grow_root t caller rebuild word rows h sound =
    grind (
      arith,
      adds-with_inners,
      all_grow_on,
      all_grow_added,
      all_grow-changed_at,
      known,
      grows-with_root,
    )

grow_place : (t : Snapshot) (caller rebuild i word : ℕ) (rows : List Row)
    → CanPlace t caller rebuild i word rows → HeldLieApart t
    → AllGrow t.pieces (after t (Place caller rebuild i word rows)).pieces
grow_place t caller rebuild i word rows h sound = let qs = with_inners t.pieces rows in
    let adds = adds-with_inners t caller rows h.held sound in
    subst (λ ps. AllGrow t.pieces ps) (sym (rows_placed t caller rebuild i word rows h))
    (all_grow_on t.pieces qs (changed_at qs h.root (with_slot i word))
    (all_grow_added t.pieces qs adds.keeps)
    (all_grow-changed_at qs h.root (with_slot i word) (λ p _. grows-with_slot i word p)))

-- an enabled event lets the rows grow
pub grow_step : (first : Snapshot) (log : Log) (event : Event) → Enabled first log event
    → HeldLieApart (state first log)
    → AllGrow (state first log).pieces (state first (event ∷ log)).pieces
grow_step first log (Install caller change rows) h s = grow_install first log caller change rows h s
grow_step first log (Decide caller base said) h s =
    grind (arith, all_grow-changed_at, known, grows-with_decision)
grow_step first log (Resolve caller change) h s = grow_resolve (state first log) caller change h
grow_step first log (Count caller node) h s = grind (arith, all_grow-changed_at, grows-counted)
grow_step first log (Mark caller node) h s =
    grind (arith, all_grow-changed_at, known, grows-with_status)
grow_step first log (Finish caller node keys) h s =
    all_grow-changed_at _ node (with_status (finished_word keys))
    (λ p e. known (λ x. Grows x (with_status (finished_word keys) x)) _ p (Inner h.row) e
    h.published (grows-with_status h.row (finished_word keys) (is_finished keys h.marked refl)))
grow_step first log (Root caller rebuild word rows) h s = grow_root (state first log) caller rebuild
    word rows h s
grow_step first log (Draw caller rebuild part) h s = grind (arith, all_grow-changed_at, grows-drawn)
grow_step first log (Place caller rebuild i word rows) h s = grow_place (state first log) caller
    rebuild i word rows h s
grow_step first log _ h s = all_grow_same _

-- ---- the rows of a new table lie below its first free word. Serves `laws.rows_are_known`.

-- an element of joined lists is an element of one of them
among-flat_map : {A B : Type 0} (f : A → List B) (y : B) (xs : List A) → Among y (flat_map f xs)
    → (x : A) × Among x xs × Among y (f x)
among-flat_map f y [] i = absurd i
among-flat_map f y (x ∷ xs) i = ⊎_elim (λ here. (x, inl refl, here))
    (λ there. let it = among-flat_map f y xs there in (it.0, inr it.1, it.2))
    (among-append y (f x) (flat_map f xs) i)

-- the trees of the parts lie one after another, and end where their words end
placed_low : (lens : List ℕ) (from : ℕ) (xs : List Pair) (base : ℕ) (part : List Pair)
    → sum lens ≤ length xs → Among (base, part) (zip (bases_from from lens) (cut lens xs))
    → base + ideal_words (length part) ≤ from + sum_by ideal_words lens
placed_low [] from xs base part fits i = absurd i
placed_low (n ∷ ns) from xs base part fits (inl e) = let all = sum_by-cons (λ x. x) n ns in
    let words = sum_by-cons ideal_words n ns in let here : base ≡ from = ap (λ x. x.0) e in
    let is : part ≡ take n xs = ap (λ x. x.1) e in
    let long : length part ≡ n = subst (λ p. length p ≡ n) (sym is)
    (length-take-le n xs (omega arith)) in
    let same = ap ideal_words long in omega arith
placed_low (n ∷ ns) from xs base part fits (inr i) = let all = sum_by-cons (λ x. x) n ns in
    let words = sum_by-cons ideal_words n ns in let less = length-drop n xs in
    let rest = placed_low ns (from + ideal_words n) (drop n xs) base part (omega arith) i in
    omega arith

-- each row lies within the words of its tree
low_rows : (fuel base : ℕ) (pairs : List Pair) (at : ℕ) (p : Piece)
    → Among (at, p) (rows_within fuel base pairs) → at < base + ideal_words (length pairs)
unfolding rows_within
low_rows fuel base [] at p i = absurd i
low_rows fuel base (pair ∷ []) at p (inl e) = grind (arith, ideal_words_one)
low_rows fuel base (pair ∷ []) at p (inr i) = absurd i
low_rows zero base (pair ∷ more ∷ pairs) at p i = absurd i
low_rows (suc fuel) base (pair ∷ more ∷ pairs) at p (inl e) = grind (arith, ideal_words_many)
low_rows (suc fuel) base (pair ∷ more ∷ pairs) at p (inr i) =
    let it = among-flat_map (λ part. rows_within fuel part.0 part.1) (at, p)
    (placed_parts base (pair ∷ more ∷ pairs)) i in
    let inside = low_rows fuel it.0.0 it.0.1 at p it.2 in
    let words = ideal_words_many (length (pair ∷ more ∷ pairs)) (omega arith) in
    let fits = sum-part_lens (length (pair ∷ more ∷ pairs)) in
    let low = placed_low (part_lens (length (pair ∷ more ∷ pairs)))
    (base + inner_words (degree (length (pair ∷ more ∷ pairs)))) (pair ∷ more ∷ pairs) it.0.0
    it.0.1 (omega arith) it.1 in
    omega arith

-- the held rows of a new table lie apart
pub sound_start : (pairs : List Pair) (words : ℕ) → HeldLieApart (start pairs words)
sound_start pairs words = record {
  below = λ base p e. low_rows (length pairs) first_row pairs base p
      (among-pieces_of (rows_from first_row pairs) base p e);
  held_below = λ h i. absurd i;
  unpublished = λ h i. absurd i;
  once = λ g h i j e. absurd i;
}
