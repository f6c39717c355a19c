-- A row that was lost is gone for good, and published rows grow. Serves `laws.fates_are_one` and
-- `laws.rows_grow`.
use Rattle.std.proofs.Common.{◌≡◌, ◌≢◌, ℕ, ◌<◌, List, [], ◌∷◌, None, refl, sym, ap, subst, inl, inr, ⊎_elim, arith, Some}
use Rattle.ist_core.specs.Types.{Pair, HeldRow, Event, Reserve, Lose, ChangeRow, Okay}
use Rattle.ist_core.specs.LogTerms.{Among, Snapshot, HoldsRow, after, Log, state, Happened, Loses, GoesOn, same_log, one_event, Enabled, EachEnabled, Lawful, state_of, Okays}
use Rattle.ist_core.specs.WordTerms.{start, Change}
use Rattle.ist_core.specs.TreeTerms.{HoldsSizes, CanLose, LosesPair, LosesBuild, AllGrow}
use Rattle.ist_core.proofs.OptionLemmas.{among-append, no_value}
use Rattle.ist_core.proofs.MoveLemmas.{HeldLieApart, Moves, without-kept}
use Rattle.ist_core.proofs.SoundLemmas.{IsReserve, moves_or_reserves, sound}
use Rattle.ist_core.proofs.StepLemmas.{sound_start, grow_step}
use Rattle.ist_core.proofs.GrowingLemmas.{all_grow_same, all_grow_on, change_there}
use Rattle.ist_core.proofs.PlaceLemmas.{absent}

-- no row lies at the base, none is held there, and none will be reserved there
record IsGoneForGood (t : Snapshot) (base : ℕ) : Type 0 where
  unpublished : t.pieces base ≡ None
  unheld : (h : HeldRow) → Among h t.held → h.base ≢ base
  used : base < t.next

-- the caller holds a row at each of the bases that it loses
held_at : (t : Snapshot) (caller base : ℕ) (bases sizes : List ℕ) → HoldsSizes t caller bases sizes
    → Among base bases → (size : ℕ) × HoldsRow t caller base size
held_at t caller base [] sizes h i = absurd i
held_at t caller base (b ∷ bases) [] h i = absurd h
held_at t caller base (b ∷ bases) (z ∷ sizes) h (inl e) =
    (z, subst (λ x. HoldsRow t caller x z) (sym e) h.0)
held_at t caller base (b ∷ bases) (z ∷ sizes) h (inr i) = held_at t caller base bases sizes h.1 i

lost_held : (t : Snapshot) (log : Log) (caller base : ℕ) (bases : List ℕ)
    → CanLose t log caller bases → Among base bases → (size : ℕ) × HoldsRow t caller base size
lost_held t log caller base bases h i = ⊎_elim pair build h.cause
  where
    pair : LosesPair t caller bases → (size : ℕ) × HoldsRow t caller base size
    pair c = ⊎_elim (λ e. (7, subst (λ x. HoldsRow t caller x 7) (sym e) c.held)) (λ n. absurd n)
        (subst (λ xs. Among base xs) c.bases_are i)

    build : LosesBuild t log caller bases → (size : ℕ) × HoldsRow t caller base size
    build c = held_at t caller base bases c.sizes c.held i

-- a row that is lost now is gone
gone_now : (first : Snapshot) (log : Log) (event : Event) (base : ℕ) → Enabled first log event
    → HeldLieApart (state first log) → Loses base event → IsGoneForGood (state first (event ∷ log)) base
gone_now first log (Lose caller bases) base h s l =
    let it = lost_held (state first log) log caller base bases h l in
    let row : HeldRow = record { caller = caller; base = base; size = it.0 } in record {
      unpublished = s.unpublished row it.1;
      unheld = λ g i e. (without-kept bases (state first log).held g i).1
          (subst (λ b. Among b bases) (sym e) l);
      used = s.held_below row it.1;
    }
gone_now first log _ base h s l = absurd l

-- what is gone stays gone
gone_moves : (t u : Snapshot) (event : Event) (base : ℕ) → Moves t u event → IsGoneForGood t base
    → IsGoneForGood u base
gone_moves t u event base m g = record {
  unpublished = absent (u.pieces base) (λ p e.
      ⊎_elim (λ q. no_value (t.pieces base) q.0 g.unpublished q.1) (λ h. g.unheld h.0 h.1 h.2)
      (m.from base p e));
  unheld = λ h i. g.unheld h (m.kept h i);
  used = subst (λ n. base < n) (sym m.next) g.used;
}

gone_reserve : (first : Snapshot) (log : Log) (event : Event) (r : IsReserve first log event)
    (base : ℕ) → IsGoneForGood (state first log) base
    → IsGoneForGood (after (state first log) (Reserve r.caller r.base r.size)) base
gone_reserve first log event r base g = let is = r.can.base_is in let low = g.used in record {
  unpublished = g.unpublished;
  unheld = λ h i e. ⊎_elim (λ a. g.unheld h a e)
      (λ a. ⊎_elim (λ f. let here : h.base ≡ r.base = ap (λ x. x.base) f in absurd
      (omega arith)) (λ n. absurd n) a)
      (among-append h (state first log).held
      (record { caller = r.caller; base = r.base; size = r.size } ∷ []) i);
  used = omega arith;
}

gone : (first : Snapshot) (log : Log) (base : ℕ) → HeldLieApart first → EachEnabled first log
    → Happened (Loses base) log → IsGoneForGood (state first log) base
gone first [] base s h l = absurd l
gone first (event ∷ log) base s h (inl now) = gone_now first log event base h.1
    (sound first log s h.0) now
gone first (event ∷ log) base s h (inr before) = let g = gone first log base s h.0 before in ⊎_elim
    (λ m. gone_moves (state first log) (state first (event ∷ log)) event base m g)
    (λ r. subst (λ e. IsGoneForGood (after (state first log) e) base) (sym r.is)
    (gone_reserve first log event r base g))
    (moves_or_reserves first log event h.1 (sound first log s h.0))

-- no row is published at the base of a lost row
pub lost_unpublished : (pairs : List Pair) (words : ℕ) (log : Log) → Lawful pairs words log
    → (base : ℕ) → Happened (Loses base) log → (state_of pairs words log).pieces base ≡ None
lost_unpublished pairs words log h base l = grind (arith, gone, sound_start)

-- a lost row isn't held
pub lost_unheld : (pairs : List Pair) (words : ℕ) (log : Log) → Lawful pairs words log
    → (h : HeldRow) → Happened (Loses h.base) log → ¬ (Among h (state_of pairs words log).held)
lost_unheld pairs words log lawful h l i =
    (gone (start pairs words) log h.base (sound_start pairs words) lawful.enabled l).unheld h i refl

-- ---- rows grow

-- a prefix of a lawful log is lawful
pub enabled_before : (first : Snapshot) (earlier log : Log) → GoesOn earlier log
    → EachEnabled first log → EachEnabled first earlier
enabled_before first earlier _ same_log h = h
enabled_before first earlier _ (one_event {log = log} event g) h = enabled_before first earlier log
    g h.0

-- rows grow from a prefix on
pub grow_between : (pairs : List Pair) (words : ℕ) (earlier log : Log)
    → EachEnabled (start pairs words) log → GoesOn earlier log
    → AllGrow (state_of pairs words earlier).pieces (state_of pairs words log).pieces
grow_between pairs words earlier _ h same_log = all_grow_same _
grow_between pairs words earlier _ h (one_event {log = log} event g) =
    all_grow_on _ (state_of pairs words log).pieces _ (grow_between pairs words earlier log h.0 g)
    (grow_step (start pairs words) log event h.1
    (sound (start pairs words) log (sound_start pairs words) h.0))

-- rows grow by an event
pub grow_after : (pairs : List Pair) (words : ℕ) (log : Log) (event : Event)
    → EachEnabled (start pairs words) (event ∷ log)
    → AllGrow (state_of pairs words log).pieces (state_of pairs words (event ∷ log)).pieces
grow_after pairs words log event h = grind (arith, grow_step, sound, sound_start)

-- ---- a change that got an Okay is a published row. Serves the frozen-slot law.

-- a change with an Okay is published
pub okay_published : (first : Snapshot) (log : Log) (base : ℕ) → HeldLieApart first
    → EachEnabled first log → Happened (Okays base) log
    → (r : ChangeRow) × ((state first log).pieces base ≡ Some (Change r))
okay_published first [] base s h k = absurd k
okay_published first (event ∷ log) base s h (inl now) = grind arith
okay_published first (event ∷ log) base s h (inr before) =
    let it = okay_published first log base s h.0 before in
    let there = change_there (state first log).pieces (state first (event ∷ log)).pieces
    (grow_step first log event h.1 (sound first log s h.0)) base it.0 it.1 in (there.0, there.1)
