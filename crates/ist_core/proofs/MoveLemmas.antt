-- What one event does to rows: none vanishes, and what is held stays held, is published or is lost.
-- Serves `laws.rows_are_known`.
use Rattle.std.proofs.Common.{◌≡◌, ℕ, ◌<◌, ◌⊎◌, ◌==◌, Bool, true, false, not, if◌then◌else◌, List, Some, None, option_map, refl, sym, ap, subst, inl, inr, ⊎_elim, length, ◌∙◌, arith}
use Rattle.ist_core.specs.Types.{HeldRow, Event, Row}
use Rattle.ist_core.specs.LogTerms.{Among, Snapshot, without, Loses, bases_of, HoldsRow, HoldsRows}
use Rattle.ist_core.specs.WordTerms.{Pieces, Piece, size_of, changed_at}
use Rattle.ist_core.proofs.OptionLemmas.{among-filter, among_filter, each-among, changed_at-none, changed_at-some}
use Rattle.ist_core.proofs.SplitLemmas.{among_bases, tests_base, LiesAt, row_among, PublishesRows}

-- rows lie below the first free word, and what is held is not published, and is held once
pub record HeldLieApart (t : Snapshot) : Type 0 where
  -- a published row lies below the first free word
  pub below : (base : ℕ) (p : Piece) → t.pieces base ≡ Some p → base < t.next
  -- a held row lies below the first free word
  pub held_below : (h : HeldRow) → Among h t.held → h.base < t.next
  -- at the base of a held row nothing is published
  pub unpublished : (h : HeldRow) → Among h t.held → t.pieces h.base ≡ None
  -- two held rows with the same base are the same
  pub once : (g h : HeldRow) → Among g t.held → Among h t.held → g.base ≡ h.base → g ≡ h

-- there is a row of this size at the base
abbrev pub StandsWith : Pieces → ℕ → ℕ → Type 0
StandsWith ps base size = (p : Piece) × (ps base ≡ Some p) × (size_of p ≡ size)

-- an event that reserves nothing
pub record Moves (t u : Snapshot) (event : Event) : Type 0 where
  pub next : u.next ≡ t.next
  -- a row that is published after the event was published before, or was held
  pub from : (base : ℕ) (p : Piece) → u.pieces base ≡ Some p
      → LiesAt t.pieces base ⊎ ((h : HeldRow) × Among h t.held × (h.base ≡ base))
  -- a row that is held after the event was held before
  pub kept : (h : HeldRow) → Among h u.held → Among h t.held
  -- a row that is still held is still unpublished
  pub unpublished : (h : HeldRow) → Among h u.held → t.pieces h.base ≡ None → u.pieces h.base ≡ None
  -- a row that was published is still published, with its size
  pub stays : (base : ℕ) (p : Piece) → t.pieces base ≡ Some p → StandsWith u.pieces base (size_of p)
  -- a row that was held is still held, is published with its size, or is lost by the event
  pub fate : (h : HeldRow) → Among h t.held
      → (Among h u.held ⊎ StandsWith u.pieces h.base h.size) ⊎ Loses h.base event

-- ---- what is given up

-- a row that is still held was held, and isn't at these bases
pub without-kept : (bases : List ℕ) (held : List HeldRow) (h : HeldRow)
    → Among h (without bases held) → Among h held × ¬ (Among h.base bases)
without-kept bases held h i = grind (arith, among-filter, tests_base)

-- a row that was held is still held, or is at one of these bases
pub without-fate : (bases : List ℕ) (held : List HeldRow) (h : HeldRow) → Among h held
    → Among h (without bases held) ⊎ Among h.base bases
without-fate bases held h i = grind (arith, among_bases, among_filter)

-- ---- the shapes of events

-- an event that touches no row
pub moves_same : (t u : Snapshot) (event : Event) → u.next ≡ t.next → u.held ≡ t.held
    → u.pieces ≡ t.pieces → Moves t u event
moves_same t u event next held pieces = record {
  next = next;
  from = λ base p e. inl (p, subst (λ ps. ps base ≡ Some p) pieces e);
  kept = λ h i. subst (λ hs. Among h hs) held i;
  unpublished = λ h i e. subst (λ ps. ps h.base ≡ None) (sym pieces) e;
  stays = λ base p e. (p, subst (λ ps. ps base ≡ Some p) (sym pieces) e, refl);
  fate = λ h i. inl (inl (subst (λ hs. Among h hs) (sym held) i));
}

-- after a row is changed, each row has its size as before
pub stays-changed_at : (ps : Pieces) (at : ℕ) (f : Piece → Piece)
    → ((p : Piece) → size_of (f p) ≡ size_of p) → (base : ℕ) (p : Piece) → ps base ≡ Some p
    → StandsWith (changed_at ps at f) base (size_of p)
stays-changed_at ps at f same base p e = here (base == at)
  where
    here : (v : Bool) → StandsWith (λ b. if v then option_map f (ps b) else ps b) base (size_of p)
    here true = (f p, ap (option_map f) e, same p)
    here false = (p, e, refl)

-- an event that changes one row
pub moves_changed : (t u : Snapshot) (event : Event) (at : ℕ) (f : Piece → Piece)
    → ((p : Piece) → size_of (f p) ≡ size_of p) → u.next ≡ t.next → u.held ≡ t.held
    → u.pieces ≡ changed_at t.pieces at f → Moves t u event
moves_changed t u event at f same next held pieces = record {
  next = next;
  from = λ base p e. let it = changed_at-some t.pieces at base f p
      (subst (λ ps. ps base ≡ Some p) pieces e) in inl (it.0, it.1);
  kept = λ h i. subst (λ hs. Among h hs) held i;
  unpublished = λ h i e. subst (λ ps. ps h.base ≡ None) (sym pieces)
      (changed_at-none t.pieces at h.base f e);
  stays = λ base p e. subst (λ ps. StandsWith ps base (size_of p)) (sym pieces)
      (stays-changed_at t.pieces at f same base p e);
  fate = λ h i. inl (inl (subst (λ hs. Among h hs) (sym held) i));
}

-- an event that gives up held rows
pub moves_lost : (t u : Snapshot) (event : Event) (bases : List ℕ)
    → ((base : ℕ) → Among base bases → Loses base event) → u.next ≡ t.next
    → u.held ≡ without bases t.held → u.pieces ≡ t.pieces → Moves t u event
moves_lost t u event bases loses next held pieces = record {
  next = next;
  from = λ base p e. inl (p, subst (λ ps. ps base ≡ Some p) pieces e);
  kept = λ h i. (without-kept bases t.held h (subst (λ hs. Among h hs) held i)).0;
  unpublished = λ h i e. subst (λ ps. ps h.base ≡ None) (sym pieces) e;
  stays = λ base p e. (p, subst (λ ps. ps base ≡ Some p) (sym pieces) e, refl);
  fate = λ h i. ⊎_elim (λ k. inl (inl (subst (λ hs. Among h hs) (sym held) k)))
      (λ k. inr (loses h.base k)) (without-fate bases t.held h i);
}

-- ---- what an event that publishes rows does to the others. Serves `laws.rows_are_known`.

module _ (t : Snapshot) (caller : ℕ) (rows : List Row) (holds : HoldsRows t caller rows)
    (sound : HeldLieApart t) where
  -- the held row that is published
  held_row : Row → HeldRow
  held_row row = record { caller = caller; base = row.base; size = length row.words }

  is_held : (row : Row) → Among row rows → Among (held_row row) t.held
  unfolding held_row
  is_held row i = each-among (λ x. HoldsRow t caller x.base (length x.words)) row rows holds i

  -- no row is at the base of one that is being published
  is_free : (row : Row) → Among row rows → t.pieces row.base ≡ None
  unfolding held_row
  is_free row i = sound.unpublished (held_row row) (is_held row i)

  stood_elsewhere : (base : ℕ) (p : Piece) → t.pieces base ≡ Some p → ¬ (Among base (bases_of rows))
  stood_elsewhere base p e k = grind (arith, row_among, is_free)

  -- a row that is published has the size with which it was held
  same_size : (qs : Pieces) → PublishesRows t.pieces rows qs → (h : HeldRow) → Among h t.held
      → (p : Piece) → qs h.base ≡ Some p → Among h.base (bases_of rows) → size_of p ≡ h.size
  unfolding held_row
  same_size qs publishes h i p e k = ⊎_elim (λ stood. absurd (stood_elsewhere h.base p stood k))
      (λ it. it.3 ∙ ap (λ x. x.size) (sound.once (held_row it.0) h (is_held it.0 it.1) i it.2))
      (publishes.from h.base p e)

  -- an event that publishes held rows and changes one row moves rows as it may
  pub moves_published : (u : Snapshot) (event : Event) (qs : Pieces) (at : ℕ) (f : Piece → Piece)
      → ((p : Piece) → size_of (f p) ≡ size_of p) → PublishesRows t.pieces rows qs
      → u.next ≡ t.next → u.held ≡ without (bases_of rows) t.held → u.pieces ≡ changed_at qs at f
      → Moves t u event
  unfolding held_row
  moves_published u event qs at f same publishes next held pieces = record {
    next = next;
    from = λ base p e.
        let it = changed_at-some qs at base f p (subst (λ ps. ps base ≡ Some p) pieces e) in
        ⊎_elim (λ stood. inl (it.0, stood)) (λ w. inr (held_row w.0, is_held w.0 w.1, w.2))
        (publishes.from base it.0 it.1);
    kept = λ h i. (without-kept (bases_of rows) t.held h (subst (λ hs. Among h hs) held i)).0;
    unpublished = λ h i e.
        let out = (without-kept (bases_of rows) t.held h (subst (λ hs. Among h hs) held i)).1 in
        subst (λ ps. ps h.base ≡ None) (sym pieces)
        (changed_at-none qs at h.base f (publishes.others h.base out ∙ e));
    stays = λ base p e. subst (λ ps. StandsWith ps base (size_of p)) (sym pieces)
        (stays-changed_at qs at f same base p
        (publishes.others base (stood_elsewhere base p e) ∙ e));
    fate = λ h i. ⊎_elim (λ k. inl (inl (subst (λ hs. Among h hs) (sym held) k)))
        (λ k. let row = row_among h.base rows k in
        let there = subst (λ b. (p : Piece) × (qs b ≡ Some p)) row.2
        (publishes.named row.0 row.1) in
        let size = same_size qs publishes h i there.0 there.1 k in
        inl (inr (subst (λ ps. StandsWith ps h.base h.size) (sym pieces)
        (subst (λ n. StandsWith (changed_at qs at f) h.base n) size
        (stays-changed_at qs at f same h.base there.0 there.1)))))
        (without-fate (bases_of rows) t.held h i);
  }
