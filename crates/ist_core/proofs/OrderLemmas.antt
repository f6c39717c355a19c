-- What words name after a lawful log, and that children lie above their parents. Serves
-- `laws.children_lie_above`.
use Rattle.std.proofs.Common.{◌≡◌, ℕ, ◌<◌, ◌⊎◌, List, [], ◌∷◌, length, Option, Some, None, refl, sym, ap, ◌∙◌, subst, inl, inr, ⊎_elim, arith}
use Rattle.ist_core.specs.Types.{Pair, Row}
use Rattle.ist_core.specs.WordTerms.{Ref, Empty, Unset, LeafAt, InnerAt, ChangeAt, RebuildAt, IsGoodBase, ref_of, Piece, Change, Rebuild, row_at, start, change_reads, past_change, rebuild_reads, past_rebuild}
use Rattle.ist_core.specs.LogTerms.{Snapshot, HoldsRow, Log, side_of, EachEnabled, CanOpen, state_of}
use Rattle.ist_core.specs.Naming.{NamesRow, no_row, not_yet, a_leaf, an_inner_row, a_change, a_rebuild}
use Rattle.ist_core.specs.TreeTerms.{IsChild, CanInstall}
use Rattle.ist_core.proofs.OptionLemmas.{each-among}
use Rattle.ist_core.proofs.SoundLemmas.{sound}
use Rattle.ist_core.proofs.StepLemmas.{sound_start, holds_installed}
use Rattle.ist_core.proofs.InstallLemmas.{with_installed, publishes_install}
use Rattle.ist_core.proofs.PlaceLemmas.{anchor_free}
use Rattle.ist_core.proofs.RoomLemmas.{published_good, held_good}
use Rattle.ist_core.proofs.NamingLemmas.{SideNames, SlotNames, WordsName, slot_names}
use Rattle.ist_core.proofs.NamingStepLemmas.{names_step, side_names}
use Rattle.ist_core.proofs.StartTreeLemmas.{names_start}

module _ (pairs : List Pair) (words : ℕ) (opens : CanOpen pairs words) where
  -- the rows of an Install lie at good bases
  pub install_good : (log : Log) → EachEnabled (start pairs words) log
      → (caller base : ℕ) (rows : List Row)
      (h : CanInstall (start pairs words) log caller base rows) → IsGoodBase base ×
      ((at : ℕ) (p : Piece) → with_installed (state_of pairs words log).pieces base h.change h.fresh
      at ≡ Some p → IsGoodBase at)
  install_good log e caller base rows h = let t = state_of pairs words log in
      let holds = holds_installed (start pairs words) log caller base rows h in
      let all = row_at base (Change h.change) ∷ h.fresh in (
        held_good pairs words opens log caller base 9 e holds.0,
        λ at p there. ⊎_elim (λ old. published_good pairs words opens log at p e old)
            (λ new. subst IsGoodBase new.2
            (held_good pairs words opens log caller new.0.base (length new.0.words) e
            (each-among (λ row. HoldsRow t caller row.base (length row.words)) new.0 all holds
            new.1)))
            ((publishes_install t.pieces (start pairs words) log base h.change h.fresh h.fits).from
            at p there),
      )

  -- each word after a log from a new table names what it may
  pub names : (log : Log) → EachEnabled (start pairs words) log
      → WordsName (state_of pairs words log)
  names [] h = names_start pairs words opens
  names (event ∷ log) h = names_step (start pairs words) log event h.1
      (sound (start pairs words) log (sound_start pairs words) h.0)
      (anchor_free pairs words log h.0) (install_good log h.0) (names log h.0)

-- ---- what a slot reads as

-- what a slot reads as once changes are read away may be put into it, or isn't set yet
pub past_change_names : (t : Snapshot) (node i : ℕ) (ref : Option Ref) → WordsName t
    → SlotNames t.pieces node i ref
    → SideNames t.pieces node i (past_change t.pieces ref) ⊎ (past_change t.pieces ref ≡ Some Unset)
past_change_names t node i (Some Empty) o h = inl h
past_change_names t node i (Some Unset) o h = inr refl
past_change_names t node i (Some (LeafAt base)) o h = inl h
past_change_names t node i (Some (InnerAt base)) o h = inl h
past_change_names t node i (Some (RebuildAt base)) o h = inl h
past_change_names t node i None o h = inl h
past_change_names t node i (Some (ChangeAt base)) o h =
    let row = o.rows base (Change h.row) h.published in
    let side = side_names t.pieces h.row.node h.row.index h.row row.0 row.1 in
    let here = subst (λ n. SideNames t.pieces n i (ref_of (side_of h.row))) h.node_is
    (subst (λ j. SideNames t.pieces h.row.node j (ref_of (side_of h.row))) h.index side) in
    inl (subst (λ ref. SideNames t.pieces node i ref) (sym (ap change_reads h.published)) here)

-- what may be put into a slot reads as a row above its node, if as an inner row
pub past_rebuild_above : (t : Snapshot) (node i child : ℕ) (ref : Option Ref) → WordsName t
    → SideNames t.pieces node i ref → past_rebuild t.pieces ref ≡ Some (InnerAt child)
    → node < child
past_rebuild_above t node i child (Some Empty) o h e = absurd (cc)
past_rebuild_above t node i child (Some Unset) o h e = absurd h
past_rebuild_above t node i child (Some (LeafAt base)) o h e = absurd (cc)
past_rebuild_above t node i child (Some (InnerAt base)) o h e = grind arith
past_rebuild_above t node i child (Some (ChangeAt base)) o h e = absurd h
past_rebuild_above t node i child (Some (RebuildAt base)) o h e =
    let row = o.rows base (Rebuild h.row) h.published in
    let read : Some (InnerAt h.row.target) ≡ Some (InnerAt child) = sym
    (ap rebuild_reads h.published) ∙ e in
    let same : h.row.target ≡ child = cc in
    subst (λ b. node < b) same (subst (λ n. n < h.row.target) h.parent row.0)
past_rebuild_above t node i child None o h e = absurd h

-- an inner child lies above its parent
pub child_above : (t : Snapshot) (node i child : ℕ) → WordsName t → IsChild t node i child
    → node < child
child_above t node i child o c = ⊎_elim
    (λ side. past_rebuild_above t node i child (past_change t.pieces (ref_of c.word)) o side
    c.reads)
    (λ unset. absurd (clash (past_change t.pieces (ref_of c.word)) unset c.reads))
    (past_change_names t node i (ref_of c.word) o (slot_names t node i c.word o c.holds))
  where
    clash : (ref : Option Ref) → ref ≡ Some Unset → past_rebuild t.pieces ref ≡ Some (InnerAt child)
        → ⊥
    clash (Some Unset) e f = cc
    clash (Some Empty) e f = cc
    clash (Some (LeafAt base)) e f = cc
    clash (Some (InnerAt base)) e f = cc
    clash (Some (ChangeAt base)) e f = cc
    clash (Some (RebuildAt base)) e f = cc
    clash None e f = cc

-- ---- the same as a law

-- a word that may be in a slot names a row, as the law says it
pub names_row : (t : Snapshot) (node i word : ℕ) (ref : Option Ref) → ref_of word ≡ ref
    → SlotNames t.pieces node i ref → NamesRow t node i word
names_row t node i word (Some Empty) is h = no_row is
names_row t node i word (Some Unset) is h = not_yet is
names_row t node i word (Some (LeafAt base)) is h = a_leaf base h.0 is h.1
names_row t node i word (Some (InnerAt base)) is h = an_inner_row base h.1.0 is h.1.1 h.0
names_row t node i word (Some (ChangeAt base)) is h = a_change base h.row is h.published h.node_is
    h.index
names_row t node i word (Some (RebuildAt base)) is h = a_rebuild base h.row is h.published h.parent
    h.index
names_row t node i word None is h = absurd h
