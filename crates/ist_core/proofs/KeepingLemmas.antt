-- The leaves below a finished row stay. Serves the order law and the laws of rebuilds.
use Rattle.std.proofs.Common.{◌≡◌, ℕ, suc, List, [], ◌∷◌, length, slice_get, Option, Some, refl, sym, ap, ◌∙◌, subst, inr, arith}
use Rattle.ist_core.specs.Types.{Pair, LeafRow, InnerRow, Event}
use Rattle.ist_core.specs.WordTerms.{Ref, InnerAt, ref_of, Pieces, Leaf, Inner, start, in_row, rebuild_reads, past_rebuild, logical}
use Rattle.ist_core.specs.LogTerms.{Snapshot, Log, GoesOn, same_log, one_event, EachEnabled, CanOpen, state_of}
use Rattle.ist_core.specs.TreeTerms.{PlacedLeaf, HasLeaves, SlotsHaveLeaves, none_here, leaf_here, row_here, no_slot, one_slot, IsFinishedWith, CountsFor, no_key, one_key, of_child, of_target, AllGrow}
use Rattle.ist_core.proofs.SoundLemmas.{sound}
use Rattle.ist_core.proofs.StepLemmas.{sound_start, grow_step}
use Rattle.ist_core.proofs.GrowingLemmas.{leaf_there, inner_there, rebuild_there}
use Rattle.ist_core.proofs.FateLemmas.{grow_between}
use Rattle.ist_core.proofs.FrozenLemmas.{frozen_reads}
use Rattle.ist_core.proofs.DrawLemmas.{finished_grows}
use Rattle.ist_core.proofs.FinishedLemmas.{finished_passed}

-- a node that is finished with some number of keys
abbrev pub IsFinishedNode : Snapshot → ℕ → Type 0
IsFinishedNode t node = (k : ℕ) × IsFinishedWith t node k

-- an inner row that the reference names is done
abbrev pub NamesDoneRow : (ℕ → Type 0) → Option Ref → Type 0
NamesDoneRow Done ref = (child : ℕ) → ref ≡ Some (InnerAt child) → Done child

-- the words read alike, and what they read as is closed
abbrev pub ReadAlike : Pieces → Pieces → (ℕ → Type 0) → List ℕ → List ℕ → Type 0
ReadAlike ps qs Done [] [] = Unit {0}
ReadAlike ps qs Done (w ∷ ws) (v ∷ vs) = (logical ps w ≡ logical qs v) × NamesDoneRow Done
    (logical ps w) × ReadAlike ps qs Done ws vs
ReadAlike ps qs Done _ _ = ⊥

-- a row of the first is also in the second, with slots that read the same
pub record StandsAlike (ps qs : Pieces) (Done : ℕ → Type 0) (base : ℕ) (r : InnerRow) : Type 0 where
  pub row : InnerRow
  pub published : qs base ≡ Some (Inner row)
  pub slots : ReadAlike ps qs Done r.slots row.slots

module _ (ps qs : Pieces) (Done : ℕ → Type 0)
    (leaf : (base : ℕ) (r : LeafRow) → ps base ≡ Some (Leaf r) → qs base ≡ Some (Leaf r))
    (row : (base : ℕ) (r : InnerRow) → Done base → ps base ≡ Some (Inner r) → StandsAlike ps qs Done
    base r) where
  mutual
    -- the leaves below a reference stay if the inner row that it names, if any, is done
    pub leaves_stay : (ref : Option Ref) (leaves : List PlacedLeaf) → HasLeaves ps ref leaves
        → NamesDoneRow Done ref → HasLeaves qs ref leaves
    leaves_stay _ _ none_here closed = none_here
    leaves_stay _ _ (leaf_here {base = base} r e) closed = leaf_here r (leaf base r e)
    leaves_stay _ leaves (row_here {base = base} r e below) closed =
        let there = row base r (closed base refl) e in row_here there.row there.published
        (slots_stay r.slots leaves below there.row.slots there.slots)

    slots_stay : (words : List ℕ) (leaves : List PlacedLeaf) → SlotsHaveLeaves ps words leaves
        → (vs : List ℕ) → ReadAlike ps qs Done words vs → SlotsHaveLeaves qs vs leaves
    slots_stay _ _ no_slot [] alike = no_slot
    slots_stay _ _ no_slot (v ∷ vs) alike = absurd alike
    slots_stay _ _ (one_slot first more) [] alike = absurd alike
    slots_stay _ _ (one_slot {word = word} {words = words} {here = here} {rest = rest} first more)
        (v ∷ vs) alike =
        one_slot (subst (λ ref. HasLeaves qs ref here) alike.0
        (leaves_stay (logical ps word) here first alike.1))
        (slots_stay words rest more vs alike.2)

-- words of two lists of one length that read alike place by place
alike_from : (ps qs : Pieces) (Done : ℕ → Type 0) (ws vs : List ℕ) → length vs ≡ length ws
    → ((i w v : ℕ) → slice_get ws i ≡ Some w → slice_get vs i ≡ Some v →
    (logical ps w ≡ logical qs v) × NamesDoneRow Done (logical ps w))
    → ReadAlike ps qs Done ws vs
alike_from ps qs Done [] [] long each = tt
alike_from ps qs Done [] (v ∷ vs) long each = absurd (omega arith)
alike_from ps qs Done (w ∷ ws) [] long each = absurd (omega arith)
alike_from ps qs Done (w ∷ ws) (v ∷ vs) long each = let here = each 0 w v refl refl in
    (here.0, here.1, alike_from ps qs Done ws vs (omega arith) (λ i x y e f. each (suc i) x y e f))

-- what a passed word reads as stays, and is closed
passed_reads : (t u : Snapshot) → AllGrow t.pieces u.pieces → (ref : Option Ref) (k : ℕ)
    → CountsFor t ref k → (past_rebuild t.pieces ref ≡ past_rebuild u.pieces ref)
    × NamesDoneRow (IsFinishedNode t) (past_rebuild t.pieces ref)
passed_reads t u g _ _ no_key = (refl, λ child e. absurd (cc))
passed_reads t u g _ _ one_key = (refl, λ child e. absurd (cc))
passed_reads t u g _ k (of_child {child = child} f) = grind arith
passed_reads t u g _ k (of_target {rebuild = rebuild} {target = target} has f) =
    let it = rebuild_there t.pieces u.pieces g rebuild has.row has.published in
    let before : rebuild_reads (t.pieces rebuild) ≡ Some (InnerAt has.row.target) = ap rebuild_reads
    has.published in
    let following : rebuild_reads (u.pieces rebuild) ≡ Some (InnerAt it.0.target) = ap rebuild_reads
    it.1 in (
      before ∙ ap (λ n. Some (InnerAt n)) (sym it.2.target) ∙ sym following,
      λ other e. (
        k,
        subst (λ n. IsFinishedWith t n k) (sym has.target_is ∙ cc (sym before ∙ e)) f,
      ),
    )

module _ (pairs : List Pair) (words : ℕ) (opens : CanOpen pairs words) where
  -- an event leaves the leaves below a finished row
  pub leaves_kept : (log : Log) (event : Event) → EachEnabled (start pairs words) (event ∷ log)
      → (node : ℕ) (leaves : List PlacedLeaf) → IsFinishedNode (state_of pairs words log) node
      → HasLeaves (state_of pairs words log).pieces (Some (InnerAt node)) leaves
      → HasLeaves (state_of pairs words (event ∷ log)).pieces (Some (InnerAt node)) leaves
  leaves_kept log event h node leaves done has = leaves_stay t.pieces u.pieces (IsFinishedNode t)
      (λ base r e. leaf_there t.pieces u.pieces g base r e) stands (Some (InnerAt node)) leaves
      has (λ child e. subst (λ n. IsFinishedNode t n) (cc) done)
    where
      t : Snapshot
      t = state_of pairs words log

      u : Snapshot
      u = state_of pairs words (event ∷ log)

      g : AllGrow (state_of pairs words log).pieces (state_of pairs words (event ∷ log)).pieces
      g = grind (arith, grow_step, sound, sound_start)

      stands : (base : ℕ) (r : InnerRow) → IsFinishedNode t base → t.pieces base ≡ Some (Inner r)
          → StandsAlike t.pieces u.pieces (IsFinishedNode t) base r
      stands base r f e = let it = inner_there t.pieces u.pieces g base r e in record {
        row = it.0;
        published = it.1;
        slots = alike_from t.pieces u.pieces (IsFinishedNode t) r.slots it.0.slots it.2.slots
            (λ i w v there now.
            let p = finished_passed pairs words opens log h.0 base f.0 f.1 r e i w there in
            let before = frozen_reads pairs words opens log h.0 base i p.word w p.passed
            (in_row r e there) in
            let following = frozen_reads pairs words opens (event ∷ log) h base i p.word v
            (inr p.passed) (in_row it.0 it.1 now) in
            let read = passed_reads t u g (ref_of p.word) p.keys p.counts in (
              before ∙ read.0 ∙ sym following,
              subst (λ ref. NamesDoneRow (IsFinishedNode t) ref) (sym before) read.1,
            ));
      }

  -- the leaves below a finished row stay the same after all events of a longer log
  pub finished_leaves_stay : (earlier log : Log) → GoesOn earlier log
      → EachEnabled (start pairs words) log → (node : ℕ) (leaves : List PlacedLeaf)
      → IsFinishedNode (state_of pairs words earlier) node
      → HasLeaves (state_of pairs words earlier).pieces (Some (InnerAt node)) leaves
      → HasLeaves (state_of pairs words log).pieces (Some (InnerAt node)) leaves
  finished_leaves_stay earlier _ same_log h node leaves done has = has
  finished_leaves_stay earlier _ (one_event {log = log} event g) h node leaves done has =
      let grows = grow_between pairs words earlier log h.0 g in
      leaves_kept log event h node leaves (
        done.0,
        finished_grows (state_of pairs words earlier) (state_of pairs words log) node
            done.0 grows done.1,
      )
      (finished_leaves_stay earlier log g h.0 node leaves done has)
