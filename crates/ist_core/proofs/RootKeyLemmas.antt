-- The keys of a rebuild's root are the first keys of the parts of its target's leaves. Serves the order law at a Place.
use Rattle.std.proofs.Common.{◌≡◌, ℕ, List, refl, ◌≢◌, ◌≤◌, [], ◌∷◌, length, drop, Option, Some, sym, ap, ◌∙◌, subst, ⊎_elim, arith}
use Rattle.ist_core.specs.Types.{Pair, Row, InnerRow, RebuildRow, Event, Count, Mark, Finish, Root, Draw}
use Rattle.ist_core.specs.WordTerms.{unset_word, Piece, with_status, counted, drawn, rows_within, first_row, Ref, Unset, InnerAt, ref_of, marked_word, finished_word, parts, first_keys, Pieces, Leaf, Inner, Change, Rebuild, with_inners, changed_at, with_root, start, rows_from, IsTop, IsIdeal, of_none, of_one, of_more}
use Rattle.ist_core.specs.LogTerms.{Each, Snapshot, bases_of, Log, EachEnabled, CanOpen, state_of}
use Rattle.ist_core.proofs.FieldLemmas.{IsRare, LeavesField, Has, has_rooted, has_step, field_in}
use Rattle.ist_core.specs.TreeTerms.{PlacedLeaf, HasLeaves, IsRoot, root_whole, root_top}
use Rattle.ist_core.proofs.OptionLemmas.{each-among, changed_at-some, among-pieces_of, same_value, same_rebuild, same_inner}
use Rattle.ist_core.proofs.ReferenceLemmas.{ref_of-unset}
use Rattle.ist_core.proofs.SoundLemmas.{sound}
use Rattle.ist_core.proofs.StepLemmas.{sound_start, adds-with_inners}
use Rattle.ist_core.proofs.GrowingLemmas.{inner_there, rebuild_there}
use Rattle.ist_core.proofs.NamingLemmas.{InnerHere, RootNames}
use Rattle.ist_core.proofs.NamingStepLemmas.{changed_at-fixed}
use Rattle.ist_core.proofs.OrderLemmas.{names}
use Rattle.ist_core.proofs.DrawLemmas.{finished_grows}
use Rattle.ist_core.proofs.SplitLemmas.{key_of_leaf}
use Rattle.ist_core.proofs.KeepingLemmas.{IsFinishedNode, leaves_kept}
use Rattle.ist_core.proofs.FateLemmas.{grow_after}
use Rattle.ist_core.proofs.FieldLemmas as fields

-- ---- the root of a rebuild as a field that few events write. Serves the law on the keys of a root.

-- the word of a rebuild's root, and Unset of other rows
abbrev pub root_in : Piece → ℕ
root_in = field_in (λ _ _. unset_word) (λ root _. root) unset_word

-- a status leaves the root of a row
pub status_same : (word : ℕ) (p : Piece) → root_in (with_status word p) ≡ root_in p
status_same = fields.status_same (λ _ _. unset_word) (λ root _. root) unset_word (λ _ _ _. refl)

-- a Count leaves the root of a row
pub count_same : (p : Piece) → root_in (counted p) ≡ root_in p
count_same = fields.count_same (λ _ _. unset_word) (λ root _. root) unset_word (λ _ _. refl)

-- a Draw leaves the root of a row
pub draw_same : (p : Piece) → root_in (drawn p) ≡ root_in p
draw_same = fields.draw_same (λ _ _. unset_word) (λ root _. root) unset_word (λ _ _. refl)

-- few events write a root
pub root_rare : IsRare root_in unset_word
root_rare = fields.field_rare (λ _ _. unset_word) (λ root _. root) unset_word refl refl

-- the rows of a new tree have no root
pub start_rootless : (fuel base : ℕ) (pairs : List Pair)
    → Each (λ row. root_in row.1 ≡ unset_word) (rows_within fuel base pairs)
start_rootless = fields.rows_fresh (λ _ _. unset_word) (λ root _. root) unset_word refl refl

-- ---- the keys of a root

-- the target is finished, and the keys of the row are the first keys of the parts of its leaves but the first
pub record IsCutBy (t : Snapshot) (target : ℕ) (r : InnerRow) : Type 0 where
  pub finished : IsFinishedNode t target
  pub leaves : List PlacedLeaf
  pub reached : HasLeaves t.pieces (Some (InnerAt target)) leaves
  pub two : 2 ≤ length leaves
  pub keys : r.keys ≡ first_keys key_of_leaf (drop 1 (parts leaves))

-- the keys of each root that is an inner row are cut in this way
abbrev pub RootsAreCut : Snapshot → Type 0
RootsAreCut t =
    (base : ℕ) (row : RebuildRow) (root : ℕ) (r : InnerRow) → t.pieces base ≡ Some (Rebuild row)
    → ref_of row.root ≡ Some (InnerAt root) → t.pieces root ≡ Some (Inner r) → IsCutBy t row.target r

-- a root that names an inner row isn't Unset
pub root_set : (word root : ℕ) → ref_of word ≡ Some (InnerAt root) → word ≢ unset_word
root_set word root e f = cc (ap ref_of f ∙ ref_of-unset)

-- the top row of a root
top_of : (ps : Pieces) (word k : ℕ) (leaves : List PlacedLeaf) (target : ℕ) (rows : List ℕ)
    → IsRoot ps word k leaves target rows → (root : ℕ) → ref_of word ≡ Some (InnerAt root)
    → (r : InnerRow) × IsTop ps root r leaves target
top_of ps word k leaves target rows (root_whole ref few e ideal) root is = at ref leaves rows ideal (cc)
  where
    at : (ref : Ref) (leaves : List PlacedLeaf) (rows : List ℕ) → IsIdeal ps ref leaves target rows
        → ref ≡ InnerAt root → (r : InnerRow) × IsTop ps root r leaves target
    at _ _ _ of_none e = absurd (cc)
    at _ _ _ (of_one f g) e = absurd (cc)
    at _ leaves _ (of_more {base = base} r top below) e = let here : base ≡ root = cc in (r, subst (λ b. IsTop ps b r leaves target) here top)
top_of ps word k leaves target rows (root_top base row many e top unset one) root is = grind arith

module _ (pairs : List Pair) (words : ℕ) (opens : CanOpen pairs words) where
  -- the cut of a row stays as rows grow
  cut_stays : (log : Log) (event : Event) → EachEnabled (start pairs words) (event ∷ log)
      → (target : ℕ) (r s : InnerRow) → s.keys ≡ r.keys
      → IsCutBy (state_of pairs words log) target r
      → IsCutBy (state_of pairs words (event ∷ log)) target s
  cut_stays log event h target r s keys cut = record {
    finished = (
      cut.finished.0,
      finished_grows (state_of pairs words log)
          (state_of pairs words (event ∷ log)) target cut.finished.0 (grow_after pairs words log event h)
          cut.finished.1,
    );
    leaves = cut.leaves;
    reached = leaves_kept pairs words opens log event h target cut.leaves cut.finished cut.reached;
    two = cut.two;
    keys = keys ∙ cut.keys;
  }

  -- a root that was set before the event
  old_root : (log : Log) (event : Event) → EachEnabled (start pairs words) (event ∷ log)
      → RootsAreCut (state_of pairs words log) → (base : ℕ) (row : RebuildRow) (root : ℕ) (r : InnerRow)
      → (state_of pairs words (event ∷ log)).pieces base ≡ Some (Rebuild row)
      → ref_of row.root ≡ Some (InnerAt root)
      → (state_of pairs words (event ∷ log)).pieces root ≡ Some (Inner r)
      → Has root_in unset_word root_rare (state_of pairs words log).pieces base row.root
      → IsCutBy (state_of pairs words (event ∷ log)) row.target r
  old_root log event h cut base row root r there is published has = at has.0 has.1 has.2
    where
      t : Snapshot
      t = state_of pairs words log

      u : Snapshot
      u = state_of pairs words (event ∷ log)

      inner_root : (ref : Option Ref) (target : ℕ) → ref ≡ Some (InnerAt root)
          → RootNames t.pieces target ref → InnerHere t.pieces root
      inner_root ref target e n = let it : RootNames t.pieces target (Some (InnerAt root)) = subst (λ x. RootNames t.pieces target x) e n in it.1

      at : (p : Piece) → t.pieces base ≡ Some p → root_in p ≡ row.root → IsCutBy u row.target r
      at (Rebuild q) e same = let g = grow_after pairs words log event h in
          let it = rebuild_there t.pieces u.pieces g base q e in
          let now = same_rebuild (u.pieces base) it.0 row it.1 there in
          let names_root = ap ref_of same ∙ is in
          let old = inner_root (ref_of q.root) q.target names_root ((names pairs words opens log h.0).rows base (Rebuild q) e).2 in
          let grown = inner_there t.pieces u.pieces g root old.0 old.1 in
          let known = same_inner (u.pieces root) grown.0 r grown.1 published in
          subst (λ n. IsCutBy u n r) (sym it.2.target ∙ ap (λ x. x.target) now)
          (cut_stays log event h q.target old.0 r (ap (λ x. x.keys) (sym known) ∙ grown.2.keys) (cut base q root old.0 e names_root old.1))
      at (Leaf q) e same = absurd (root_set row.root root is (sym same))
      at (Inner q) e same = absurd (root_set row.root root is (sym same))
      at (Change q) e same = absurd (root_set row.root root is (sym same))

  -- roots are cut by key after a Root
  new_root : (log : Log) (caller rebuild word : ℕ) (rows : List Row)
      (h : EachEnabled (start pairs words) (Root caller rebuild word rows ∷ log)) (root : ℕ) (r : InnerRow)
      → ref_of word ≡ Some (InnerAt root)
      → (state_of pairs words (Root caller rebuild word rows ∷ log)).pieces root ≡ Some (Inner r)
      → IsCutBy (state_of pairs words (Root caller rebuild word rows ∷ log)) h.1.row.target r
  new_root log caller rebuild word rows h root r is published = let can = h.1 in
      let t = state_of pairs words log in let qs = with_inners t.pieces rows in
      let top = top_of qs word can.k can.leaves can.row.target (bases_of rows) can.root root is in
      let stands = changed_at-fixed qs rebuild root (with_root word) (Inner top.0) top.1.published refl in
      let same = same_inner (changed_at qs rebuild (with_root word) root) top.0 r stands published in
      cut_stays log (Root caller rebuild word rows) h can.row.target top.0 r (ap (λ x. x.keys) (sym same))
      record { finished = (can.k, can.finished); leaves = can.leaves; reached = can.reached; two = top.1.two; keys = top.1.keys }

  -- roots are cut by key after an event that gives no root
  by_step : (log : Log) (event : Event) → (h : EachEnabled (start pairs words) (event ∷ log))
      → LeavesField root_in event → RootsAreCut (state_of pairs words log)
      → RootsAreCut (state_of pairs words (event ∷ log))
  by_step log event h plain cut base row root r there is published =
      old_root log event h cut base row root r there is published
      (has_step root_in unset_word root_rare (start pairs words) log event h.1
      (sound (start pairs words) log (sound_start pairs words) h.0) plain base row.root
      (root_set row.root root is) (Rebuild row, there, refl))

  cut_step : (log : Log) (event : Event) → EachEnabled (start pairs words) (event ∷ log)
      → RootsAreCut (state_of pairs words log) → RootsAreCut (state_of pairs words (event ∷ log))
  cut_step log (Mark caller node) h cut base row root r there is published = by_step log
      (Mark caller node) h (status_same marked_word) cut base row root r there is published
  cut_step log (Finish caller node keys) h cut base row root r there is published = by_step log
      (Finish caller node keys) h (status_same (finished_word keys)) cut base row root r there is
      published
  cut_step log (Root caller rebuild word rows) h cut base row root r there is published =
      let t = state_of pairs words log in let qs = with_inners t.pieces rows in
      let s = sound (start pairs words) log (sound_start pairs words) h.0 in
      let it = changed_at-some qs rebuild base (with_root word) (Rebuild row) there in ⊎_elim
      (λ same. old_root log (Root caller rebuild word rows) h cut base row root r there is published
      (has_rooted root_in unset_word root_rare t caller rebuild word rows h.1 s base row.root
      (root_set row.root root is) (it.0, it.1, ap root_in (sym same))))
      (λ new.
      let stood = (adds-with_inners t caller rows h.1.held s).keeps rebuild (Rebuild h.1.row) h.1.published in
      let old = same_value (qs rebuild) it.0 (Rebuild h.1.row) (subst (λ b. qs b ≡ Some it.0) new.0 it.1) stood in
      let row_is : row ≡ record h.1.row { root = word } = cc (new.1 ∙ ap (with_root word) old) in
      subst (λ n. IsCutBy (state_of pairs words (Root caller rebuild word rows ∷ log)) n r) (sym (ap (λ x. x.target) row_is))
      (new_root log caller rebuild word rows h root r (ap (λ x. ref_of x.root) (sym row_is) ∙ is) published))
      it.2
  cut_step log (Count caller node) h cut base row root r there is published = by_step log
      (Count caller node) h count_same cut base row root r there is published
  cut_step log (Draw caller rebuild part) h cut base row root r there is published = by_step log
      (Draw caller rebuild part) h draw_same cut base row root r there is published
  cut_step log event h cut base row root r there is published =
      by_step log event h tt cut base row root r there is published

  -- the keys of each root are the first keys of the parts of its target's leaves
  pub roots_are_cut : (log : Log) → EachEnabled (start pairs words) log
      → RootsAreCut (state_of pairs words log)
  roots_are_cut [] h base row root r there is published =
      let none = each-among (λ x. root_in x.1 ≡ unset_word) (base, Rebuild row)
      (rows_from first_row pairs) (start_rootless (length pairs) first_row pairs)
      (among-pieces_of (rows_from first_row pairs) base (Rebuild row) there) in
      absurd (root_set row.root root is none)
  roots_are_cut (event ∷ log) h base row root r there is published = cut_step log event h (roots_are_cut log h.0) base row root r there is published
