-- What the rows are that an event publishes. Serves each conjunct on changes, rebuilds and statuses.
use Rattle.std.proofs.Common.{List, Some, [], inl, inr, ℕ, ◌-◌, ◌∷◌, ◌≡◌, ◌⊎◌, arith}
use Rattle.ist_core.specs.declared.events.Event.{Event}
use Rattle.ist_core.specs.declared.lists.Row.{Row}
use Rattle.ist_core.specs.declared.states.ChangeRow.{ChangeRow}
use Rattle.ist_core.specs.declared.states.InnerRow.{InnerRow}
use Rattle.ist_core.specs.declared.states.RebuildRow.{RebuildRow}
use Rattle.ist_core.specs.LogTerms.{Among, Each, Enabled, Log, state, Snapshot, bases_of}
use Rattle.ist_core.specs.WordTerms.{IsTop, Change, Inner, Piece, Pieces, Rebuild, inner_of, with_inners, unset_word, open_word}
use Rattle.ist_core.specs.TreeTerms.{FitsKind, Starts, a_finish, a_pair, a_put, a_remove, a_start, new_rebuild, pair_row, PlacedLeaf}
use Rattle.ist_core.proofs.AllEventLemmas.{IsInstalledWith, Born, by_install, by_place, by_root}
use Rattle.ist_core.proofs.AllWordLemmas.{each-among, with_inners-some, same_inner}
use Rattle.laws_links.proofs.PassLemmas.{inner_is}
use Rattle.laws_links.proofs.ReadLemmas.{StandsAsTop, ideal_tops, root_tops}

-- these words are read as an inner row only
pub inner_only : (words : List ℕ) (p : Piece) → inner_of words ≡ Some p
    → (r : InnerRow) × (p ≡ Inner r)
inner_only [] p e = absurd (cc)
inner_only (a ∷ []) p e = absurd (cc)
inner_only (a ∷ b ∷ []) p e = absurd (cc)
inner_only (a ∷ b ∷ c ∷ []) p e = absurd (cc)
inner_only (a ∷ b ∷ c ∷ d ∷ rest) p e = grind arith

-- if inner rows are published, each other row was there before
pub published_inner : (ps : Pieces) (rows : List Row) (base : ℕ) (p : Piece)
    → with_inners ps rows base ≡ Some p → ((r : InnerRow) × (p ≡ Inner r)) ⊎ (ps base ≡ Some p)
published_inner ps rows base p e = grind (arith, inner_only, with_inners-some)

-- a pair row is open
pair_open : (key base other_key other : ℕ) (x : InnerRow)
    → Inner x ≡ pair_row key base other_key other → x.status ≡ open_word
pair_open key base other_key other x = grind (arith, inner_is)

-- a pair row is no change and no rebuild
pair_no_change : (key base other_key other : ℕ) (x : ChangeRow)
    → Change x ≡ pair_row key base other_key other → ⊥
pair_no_change key base other_key other x = grind arith

pair_no_rebuild : (key base other_key other : ℕ) (x : RebuildRow)
    → Rebuild x ≡ pair_row key base other_key other → ⊥
pair_no_rebuild key base other_key other x = grind arith

-- a change that an Install publishes is its own
pub installed_change : (first : Snapshot) (log : Log) (at : ℕ) (change : ChangeRow)
    (fresh : List Row) (fits : FitsKind first log change fresh) (base : ℕ) (x : ChangeRow)
    → IsInstalledWith first log at change fresh fits base (Change x) → (base ≡ at) × (x ≡ change)
installed_change first log at change fresh fits base x (inl (here, is)) = (here, (cc))
installed_change first log at change fresh (a_put f) base x (inr (here, is)) = absurd (cc)
installed_change first log at change fresh (a_pair f) base x (inr (inl (here, is))) =
    absurd (pair_no_change change.key f.leaf f.other_key f.other x is)
installed_change first log at change fresh (a_pair f) base x (inr (inr (here, is))) = absurd (cc)
installed_change first log at change fresh (a_remove f) base x (inr is) = absurd is
installed_change first log at change fresh (a_start f) base x (inr (here, is)) = absurd (cc)
installed_change first log at change fresh (a_finish f) base x (inr is) = absurd is

-- a rebuild that an Install publishes belongs to a start
pub record IsStartOf (first : Snapshot) (log : Log) (change : ChangeRow) (fresh : List Row) (base : ℕ) (x : RebuildRow) : Type 0 where
  pub starts : Starts (state first log) change fresh
  pub here : base ≡ starts.rebuild
  pub is : Rebuild x ≡ new_rebuild change starts.target

-- a rebuild that an Install publishes is its start's
pub installed_rebuild : (first : Snapshot) (log : Log) (at : ℕ) (change : ChangeRow)
    (fresh : List Row) (fits : FitsKind first log change fresh) (base : ℕ) (x : RebuildRow)
    → IsInstalledWith first log at change fresh fits base (Rebuild x)
    → IsStartOf first log change fresh base x
installed_rebuild first log at change fresh fits base x (inl (here, is)) = absurd (cc)
installed_rebuild first log at change fresh (a_put f) base x (inr (here, is)) = absurd (cc)
installed_rebuild first log at change fresh (a_pair f) base x (inr (inl (here, is))) =
    absurd (pair_no_rebuild change.key f.leaf f.other_key f.other x is)
installed_rebuild first log at change fresh (a_pair f) base x (inr (inr (here, is))) = absurd (cc)
installed_rebuild first log at change fresh (a_remove f) base x (inr is) = absurd is
installed_rebuild first log at change fresh (a_start f) base x (inr (here, is)) =
    record { starts = f; here = here; is = is }
installed_rebuild first log at change fresh (a_finish f) base x (inr is) = absurd is

-- an inner row that an Install publishes is open
pub installed_open : (first : Snapshot) (log : Log) (at : ℕ) (change : ChangeRow) (fresh : List Row)
    (fits : FitsKind first log change fresh) (base : ℕ) (x : InnerRow)
    → IsInstalledWith first log at change fresh fits base (Inner x) → x.status ≡ open_word
installed_open first log at change fresh fits base x (inl (here, is)) = absurd (cc)
installed_open first log at change fresh (a_put f) base x (inr (here, is)) = absurd (cc)
installed_open first log at change fresh (a_pair f) base x (inr (inl (here, is))) =
    pair_open change.key f.leaf f.other_key f.other x is
installed_open first log at change fresh (a_pair f) base x (inr (inr (here, is))) = absurd (cc)
installed_open first log at change fresh (a_remove f) base x (inr is) = absurd is
installed_open first log at change fresh (a_start f) base x (inr (here, is)) = absurd (cc)
installed_open first log at change fresh (a_finish f) base x (inr is) = absurd is

-- the row that a start publishes
abbrev pub new_rebuild_row : ChangeRow → ℕ → RebuildRow
new_rebuild_row change target =
    record { target = target; parent = change.node; index = change.index; root = unset_word; draw = 0 }

-- a row of a tree's rows is the top of an ideal subtree
pub top_among : (ps : Pieces) (rows : List ℕ) (base : ℕ) (x : InnerRow) → Each (StandsAsTop ps) rows
    → Among base rows → ps base ≡ Some (Inner x)
    → (leaves : List PlacedLeaf) × (above : ℕ) × IsTop ps base x leaves above
top_among ps rows base x all i e = grind (arith, each-among, StandsAsTop, same_inner)

-- each inner row that an event publishes is open
pub born_open : (first : Snapshot) (log : Log) (event : Event) (base : ℕ) (x : InnerRow)
    → Enabled first log event → Born first log base (Inner x) event → x.status ≡ open_word
born_open first log _ base x can (by_install {change = at} h new) = grind (arith, installed_open)
born_open first log _ base x can (by_root {word = word} {rows = rows} i e) =
    let qs = with_inners (state first log).pieces rows in
    (top_among qs (bases_of rows) base x (root_tops qs word can.k can.leaves can.row.target (bases_of rows) can.root) i e).2.status
born_open first log _ base x can (by_place {rows = rows} i e) =
    let qs = with_inners (state first log).pieces rows in
    (top_among qs (bases_of rows) base x (ideal_tops qs can.ref can.part can.root (bases_of rows) can.ideal) i e).2.status
