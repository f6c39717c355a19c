-- The draw word of a rebuild is low: at most its degree plus one draw for each caller. Serves
-- `laws.draws_are_low`.
use Rattle.std.proofs.Common.{◌≡◌, ◌≢◌, ℕ, ◌+◌, ◌<◌, ◌≤◌, ◌⊎◌, ◌==◌, nat_le, if◌then◌else◌, true, false, List, [], ◌∷◌, length, Some, option_map, refl, sym, ap, ◌∙◌, subst, inl, inr, ⊎_elim, arith}
use Rattle.std.proofs.lemmas.Bool.Decides.{eqb_tells, leb_tells}
use Rattle.ist_core.specs.Types.{Pair, RebuildRow, Event, Count, Mark, Finish, Root, Draw}
use Rattle.ist_core.specs.WordTerms.{Pieces, Piece, Rebuild, changed_at, drawn, start}
use Rattle.ist_core.specs.LogTerms.{Log, EachEnabled, state_of}
use Rattle.ist_core.proofs.OptionLemmas.{changed_at-same, changed_at-some, same_value}
use Rattle.ist_core.proofs.ParentLemmas.{NumberAtMost, number_in, number_kept, start_fresh}
use Rattle.ist_core.proofs.FieldLemmas.{LeavesField, status_same, root_same, count_same}

-- the draw word of a row, or 0 if it isn't a rebuild
abbrev draw_in : Piece → ℕ
draw_in = number_in (λ _. 0) (λ n. n)

module _ (rebuild last : ℕ) where
  -- the callers of the Draws that gave a part not below the last one, the newest first
  unfoldable pub past : Log → List ℕ
  past [] = []
  past (Draw caller at part ∷ log) = if at == rebuild then
      (if nat_le last part then caller ∷ past log else past log) else past log
  past (_ ∷ log) = past log

  -- the rebuild has drawn at most this much
  abbrev DrawnAtMost : Pieces → ℕ → Type 0
  DrawnAtMost ps most = NumberAtMost draw_in rebuild ps most

  -- a Draw of this rebuild gives the part that its draw word names
  most_drawn : (ps : Pieces) (at part caller : ℕ) (others : List ℕ) (r : RebuildRow)
      → ps at ≡ Some (Rebuild r) → part ≡ r.draw → DrawnAtMost ps (last + length others)
      → DrawnAtMost (changed_at ps at drawn)
      (last + length (if at == rebuild then (if nat_le last part then caller ∷ others else others)
      else others))
  most_drawn ps at part caller others r there is old q e = here (eqb_tells at rebuild)
      (leb_tells last part)
    where
      here : (((at == rebuild) ≡ true) × (at ≡ rebuild)) ⊎
          (((at == rebuild) ≡ false) × (at ≢ rebuild))
          → ((nat_le last part ≡ true) × (last ≤ part)) ⊎
          ((nat_le last part ≡ false) × (part < last))
          → draw_in q ≤ last + length
          (if at == rebuild then (if nat_le last part then caller ∷ others else others) else others)
      here (inr k) l = grind (arith, changed_at-some)
      here (inl k) l = let at_rebuild = subst (λ b. ps b ≡ Some (Rebuild r)) k.1 there in
          let before = old (Rebuild r) at_rebuild in
          let now = changed_at-same ps at drawn ∙ ap (option_map drawn) there in
          let same = ap draw_in (same_value (changed_at ps at drawn at) q (drawn (Rebuild r))
          (subst (λ b. changed_at ps at drawn b ≡ Some q) (sym k.1) e) now) in
          subst (λ b. draw_in q ≤ last + length
          (if b then (if nat_le last part then caller ∷ others else others) else others))
          (sym k.0)
          (⊎_elim
          (λ m. subst (λ b. draw_in q ≤ last + length (if b then caller ∷ others else others))
          (sym m.0) (let low = m.1 in omega arith))
          (λ m. subst (λ b. draw_in q ≤ last + length (if b then caller ∷ others else others))
          (sym m.0) (let low = m.1 in omega arith))
          l)

  -- an event other than a Draw keeps the bound
  kept : (pairs : List Pair) (words : ℕ) (event : Event) (log : Log)
      → LeavesField draw_in event → EachEnabled (start pairs words) (event ∷ log)
      → DrawnAtMost (state_of pairs words log).pieces (last + length (past log))
      → DrawnAtMost (state_of pairs words (event ∷ log)).pieces (last + length (past log))
  kept ps w event log = number_kept (λ _. 0) (λ n. n) refl refl ps w log rebuild
      (last + length (past log)) event

  most_step : (pairs : List Pair) (words : ℕ) (event : Event) (log : Log)
      → EachEnabled (start pairs words) (event ∷ log)
      → DrawnAtMost (state_of pairs words log).pieces (last + length (past log))
      → DrawnAtMost (state_of pairs words (event ∷ log)).pieces (last + length (past (event ∷ log)))
  unfolding past
  most_step ps w (Draw c at part) log h = most_drawn (state_of ps w log).pieces at part c (past log)
      h.1.row h.1.published h.1.part_is
  most_step ps w (Count c at) log h = grind (arith, kept, count_same)
  most_step ps w (Mark c at) log h = grind (arith, kept, status_same)
  most_step ps w (Finish c at keys) log h = grind (arith, kept, status_same)
  most_step ps w (Root c r word rows) log h = kept ps w (Root c r word rows) log
      (root_same (λ _ _. 0) (λ _ n. n) 0 (λ _ _ _. refl) word) h
  most_step ps w event log h = kept ps w event log tt h

  -- a draw word is at most the last part plus the number of Draws that gave a part past it
  pub drawn_at_most : (pairs : List Pair) (words : ℕ) (log : Log)
      → EachEnabled (start pairs words) log
      → DrawnAtMost (state_of pairs words log).pieces (last + length (past log))
  drawn_at_most ps w [] h =
      start_fresh (λ _. 0) (λ n. n) refl refl ps w (last + length (past [])) rebuild
  drawn_at_most ps w (event ∷ log) h = most_step ps w event log h (drawn_at_most ps w log h.0)
