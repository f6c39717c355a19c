-- Where the changes of a caller come from, and what an event does to its entries. Serves what the
-- rule says of calls.
use Rattle.std.proofs.Common.{◌≡◌, ℕ, List, [], ◌∷◌, Some, sym, subst, inl, inr, ⊎_elim, arith}
use Rattle.std.proofs.lemmas.Bool.Decides.{eqb_tells}
use Rattle.ist_core.specs.declared.states.ChangeRow.{ChangeRow}
use Rattle.ist_core.specs.declared.lists.Row.{Row}
use Rattle.ist_core.specs.declared.events.Event.{Event}
use Rattle.ist_core.specs.declared.events.Event.TheVariants.{Install}
use Rattle.ist_core.specs.WordTerms.{undecided, Piece, Change, inner_of}
use Rattle.ist_core.specs.LogTerms.{Snapshot, Log, state, Enabled}
use Rattle.ist_core.specs.TreeTerms.{Grows, ChangeGrows, change_grows, CanInstall, pair_row, FitsKind, a_put, a_pair, a_remove, a_start, a_finish}
use Rattle.ist_core.proofs.AllEventLemmas.{HeldLieApart, IsPublishedWith, Born, by_install, by_root, by_place, Comes, from_old, from_born, comes}
use Rattle.ist_core.proofs.AllWordLemmas.{with_inners-some}

-- words that are read as an inner row are no change
inner_no_change : (words : List ℕ) (r : ChangeRow) → inner_of words ≡ Some (Change r) → ⊥
inner_no_change [] r e = cc
inner_no_change (a ∷ []) r e = cc
inner_no_change (a ∷ b ∷ []) r e = cc
inner_no_change (a ∷ b ∷ c ∷ []) r e = cc
inner_no_change (a ∷ b ∷ c ∷ d ∷ rest) r e = cc

-- the row is no change
abbrev pub NoChange : Piece → Type 0
NoChange (Change r) = ⊥
NoChange _ = Unit {0}

pair_no_change : (key base other_key other : ℕ) → NoChange (pair_row key base other_key other)
pair_no_change key base other_key other = grind arith

-- a row that an Install publishes with the change's row is not a change
fresh_no_change : (first : Snapshot) (log : Log) (change : ChangeRow) (fresh : List Row)
    (fits : FitsKind first log change fresh) (base : ℕ) (p : Piece)
    → IsPublishedWith first log change fresh fits base p → NoChange p
fresh_no_change first log change fresh (a_put h) base p f = subst NoChange (sym f.1) tt
fresh_no_change first log change fresh (a_pair h) base p (inl f) = grind (arith, pair_no_change)
fresh_no_change first log change fresh (a_pair h) base p (inr f) = subst NoChange (sym f.1) tt
fresh_no_change first log change fresh (a_remove h) base p f = absurd f
fresh_no_change first log change fresh (a_start h) base p f = subst NoChange (sym f.1) tt
fresh_no_change first log change fresh (a_finish h) base p f = absurd f

-- a change after an event was there before, or is the one that the event installs
pub data ChangeComes (first : Snapshot) (log : Log) (base : ℕ) (r : ChangeRow) : Event
    → Type 0 where
  stood : {event : Event} (old : ChangeRow) → (state first log).pieces base ≡ Some (Change old)
      → ChangeGrows old r → ChangeComes first log base r event
  is_installed : {caller : ℕ} {rows : List Row} (h : CanInstall first log caller base rows)
      → ChangeGrows h.change r → ChangeComes first log base r (Install caller base rows)

-- what grows into a change is a change
grew : (first : Snapshot) (log : Log) (base : ℕ) (r : ChangeRow) (event : Event) (p : Piece)
    → (state first log).pieces base ≡ Some p → Grows p (Change r)
    → ChangeComes first log base r event
grew first log base r event _ e (change_grows {old = old} g) = stood old e g

born_change : (first : Snapshot) (log : Log) (base : ℕ) (r : ChangeRow) (event : Event) (p : Piece)
    → Born first log base p event → Grows p (Change r) → ChangeComes first log base r event
born_change first log base r _ p
    (by_install {caller = caller} {change = change} {rows = rows} h (inl is)) g =
    subst (λ b. ChangeComes first log b r (Install caller change rows)) (sym is.0)
    (at (subst (λ q. Grows q (Change r)) is.1 g))
  where
    at : Grows (Change h.change) (Change r)
        → ChangeComes first log change r (Install caller change rows)
    at (change_grows k) = is_installed h k
born_change first log base r _ _ (by_install h (inr fresh)) (change_grows {old = old} k) =
    absurd (fresh_no_change first log h.change h.fresh h.fits base (Change old) fresh)
born_change first log base r _ _ (by_root {rows = rows} i e) (change_grows {old = old} k) =
    ⊎_elim (λ w. absurd (inner_no_change w.0.words old w.3)) (λ w. stood old w k)
    (with_inners-some (state first log).pieces rows base (Change old) e)
born_change first log base r _ _ (by_place {rows = rows} i e) (change_grows {old = old} k) =
    ⊎_elim (λ w. absurd (inner_no_change w.0.words old w.3)) (λ w. stood old w k)
    (with_inners-some (state first log).pieces rows base (Change old) e)

-- where a change after an event comes from
pub change_comes : (first : Snapshot) (log : Log) (event : Event) → Enabled first log event
    → HeldLieApart (state first log)
    → (base : ℕ) (r : ChangeRow) → (state first (event ∷ log)).pieces base ≡ Some (Change r)
    → ChangeComes first log base r event
change_comes first log event h s base r e =
    grind (arith, comes, Comes, from_old, grew, from_born, born_change)

-- ---- what stays of a change

-- a change that grows keeps its kind, its owner, its key and its value
pub grows_same_change : {old new : ChangeRow} → ChangeGrows old new
    → (new.kind ≡ old.kind) × (new.owner ≡ old.owner) × (new.key ≡ old.key)
    × (new.value ≡ old.value)
grows_same_change g = grind arith

-- one that is undecided was undecided
pub grows_undecided : {old new : ChangeRow} → ChangeGrows old new → new.decision ≡ undecided
    → old.decision ≡ undecided
grows_undecided {old} {new} g e = grind (arith, eqb_tells)
