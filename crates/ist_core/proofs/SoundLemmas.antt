-- After a lawful log held rows lie apart, and each row that was reserved is known. Serves
-- `laws.rows_are_known`.
use Rattle.std.proofs.Common.{◌≡◌, ℕ, ◌+◌, ◌<◌, ◌⊎◌, [], ◌∷◌, None, refl, sym, ap, ◌∙◌, subst, inl, inr, ⊎_elim, arith}
use Rattle.ist_core.specs.Types.{HeldRow, Event, Reserve}
use Rattle.ist_core.specs.LogTerms.{Among, Snapshot, HoldsRow, after, Log, state, Happened, Reserves, Loses, Enabled, CanReserve, EachEnabled}
use Rattle.ist_core.proofs.OptionLemmas.{among-append, among_left, among_right}
use Rattle.ist_core.proofs.MoveLemmas.{HeldLieApart, Moves, StandsWith}
use Rattle.ist_core.proofs.HoldingLemmas.{reserve_positive, moves}

sound_moves : (t u : Snapshot) (event : Event) → HeldLieApart t → Moves t u event → HeldLieApart u
sound_moves t u event s m = record {
  below = λ base p e.
      let under = ⊎_elim (λ w. s.below base w.0 w.1)
      (λ w. subst (λ b. b < t.next) w.2 (s.held_below w.0 w.1)) (m.from base p e) in
      subst (λ n. base < n) (sym m.next) under;
  held_below = λ h i. subst (λ n. h.base < n) (sym m.next) (s.held_below h (m.kept h i));
  unpublished = λ h i. m.unpublished h i (s.unpublished h (m.kept h i));
  once = λ g h i j e. s.once g h (m.kept g i) (m.kept h j) e;
}

module _ (t : Snapshot) (caller base size : ℕ) (h : CanReserve t caller base size) (s : HeldLieApart t)
  where
    -- the row that is reserved
    new_row : HeldRow
    new_row = record { caller = caller; base = base; size = size }

    positive : 0 < size
    positive = reserve_positive t caller base size h

    -- a row that is held after the Reserve was held before, or is the new row
    held_or_new : (g : HeldRow) → Among g (after t (Reserve caller base size)).held
        → Among g t.held ⊎ (g ≡ new_row)
    unfolding new_row
    held_or_new g i = ⊎_elim (λ k. inl k) (λ k. ⊎_elim (λ e. inr e) (λ e. absurd e) k)
        (among-append g t.held (new_row ∷ []) i)

    -- no row lies at the first free word
    free_there : t.pieces base ≡ None
    free_there = grind arith

    sound_reserve : HeldLieApart (after t (Reserve caller base size))
    unfolding new_row
    sound_reserve = record {
      below = λ at p e. let low = s.below at p e in let is = h.base_is in omega arith;
      held_below = λ g i. ⊎_elim
          (λ k. let low = s.held_below g k in let is = h.base_is in let lower : g.base < base +
          size = omega arith in lower)
          (λ e. let some = positive in let same : g.base ≡ base = ap (λ x. x.base) e in let
          lower : g.base < base + size = omega arith in lower)
          (held_or_new g i);
      unpublished = λ g i. ⊎_elim (λ k. s.unpublished g k)
          (λ e. subst (λ x. t.pieces x.base ≡ None) (sym e) free_there) (held_or_new g i);
      once = λ f g i j e. both f g e (held_or_new f i) (held_or_new g j);
    }
      where
        both : (f g : HeldRow) → f.base ≡ g.base → Among f t.held ⊎ (f ≡ new_row)
            → Among g t.held ⊎ (g ≡ new_row) → f ≡ g
        both f g e (inl i) (inl j) = s.once f g i j e
        both f g e (inl i) (inr d) = let low = s.held_below f i in let is = h.base_is in let at :
            g.base ≡ base = ap (λ x. x.base) d in absurd (omega arith)
        both f g e (inr d) (inl j) = let low = s.held_below g j in let is = h.base_is in let at :
            f.base ≡ base = ap (λ x. x.base) d in absurd (omega arith)
        both f g e (inr c) (inr d) = c ∙ sym d

-- the row that an event reserves, if it reserves one
pub record IsReserve (first : Snapshot) (log : Log) (event : Event) : Type 0 where
  pub caller : ℕ
  pub base : ℕ
  pub size : ℕ
  pub is : event ≡ Reserve caller base size
  pub can : CanReserve (state first log) caller base size

-- each enabled event moves rows, or reserves one
pub moves_or_reserves : (first : Snapshot) (log : Log) (event : Event) → Enabled first log event
    → HeldLieApart (state first log)
    → Moves (state first log) (state first (event ∷ log)) event ⊎ IsReserve first log event
moves_or_reserves first log (Reserve caller base size) h s = grind arith
moves_or_reserves first log event h s = inl (moves first log event refl h s)

-- after an enabled event held rows still lie apart
sound_step : (first : Snapshot) (log : Log) (event : Event) → Enabled first log event
    → HeldLieApart (state first log) → HeldLieApart (state first (event ∷ log))
sound_step first log event h s = ⊎_elim
    (λ m. sound_moves (state first log) (state first (event ∷ log)) event s m)
    (λ r. subst (λ e. HeldLieApart (after (state first log) e)) (sym r.is)
    (sound_reserve (state first log) r.caller r.base r.size r.can s))
    (moves_or_reserves first log event h s)

-- held rows lie apart after a log from a state in which they do
pub sound : (first : Snapshot) (log : Log) → HeldLieApart first → EachEnabled first log
    → HeldLieApart (state first log)
sound first [] s h = s
sound first (event ∷ log) s h = sound_step first log event h.1 (sound first log s h.0)

-- ---- the fate of a reserved row

-- the row is held by the caller, or published, or was lost
abbrev pub Known : Snapshot → Log → ℕ → ℕ → ℕ → Type 0
Known t log caller base size = (HoldsRow t caller base size ⊎ StandsWith t.pieces base size) ⊎
    Happened (Loses base) log

-- a known row stays known
known_moves : (t u : Snapshot) (log : Log) (event : Event) (caller base size : ℕ) → Moves t u event
    → Known t log caller base size → Known u (event ∷ log) caller base size
known_moves t u log event caller base size m (inl (inl held)) =
    ⊎_elim (λ k. inl k) (λ lost. inr (inl lost))
    (m.fate record { caller = caller; base = base; size = size } held)
known_moves t u log event caller base size m (inl (inr stands)) = grind (arith, StandsWith)
known_moves t u log event caller base size m (inr lost) = inr (inr lost)

known_reserve : (t : Snapshot) (log : Log) (c b z caller base size : ℕ)
    → Known t log caller base size
    → Known (after t (Reserve c b z)) (Reserve c b z ∷ log) caller base size
known_reserve t log c b z caller base size (inl (inl held)) = grind (arith, among_left)
known_reserve t log c b z caller base size (inl (inr stands)) = inl (inr stands)
known_reserve t log c b z caller base size (inr lost) = inr (inr lost)

known_step : (first : Snapshot) (log : Log) (event : Event) (caller base size : ℕ)
    → Enabled first log event → HeldLieApart (state first log)
    → Known (state first log) log caller base size
    → Known (state first (event ∷ log)) (event ∷ log) caller base size
known_step first log event caller base size h s k = ⊎_elim
    (λ m. known_moves (state first log) (state first (event ∷ log)) log event caller base size m k)
    (λ r. subst (λ e. Known (after (state first log) e) (e ∷ log) caller base size) (sym r.is)
    (known_reserve (state first log) log r.caller r.base r.size caller base size k))
    (moves_or_reserves first log event h s)

-- the row that an event reserves is then held
held_now : (t : Snapshot) (event : Event) (caller base size : ℕ) → Reserves caller base size event
    → HoldsRow (after t event) caller base size
held_now t (Reserve c b z) caller base size h = grind (arith, among_right)
held_now t _ c b z h = absurd h

-- each row that was reserved is known
pub known : (first : Snapshot) (log : Log) (caller base size : ℕ) → HeldLieApart first
    → EachEnabled first log → Happened (Reserves caller base size) log
    → Known (state first log) log caller base size
known first [] caller base size s h r = absurd r
known first (event ∷ log) caller base size s h (inl now) = grind (arith, held_now)
known first (event ∷ log) caller base size s h (inr before) =
    known_step first log event caller base size h.1 (sound first log s h.0)
    (known first log caller base size s h.0 before)
