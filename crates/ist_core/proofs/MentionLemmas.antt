-- What is named for a slot stays named for it, so a child is only ever in one slot. Serves
-- `laws.parents_are_one`.
use Rattle.std.proofs.Common.{◌≡◌, ◌≢◌, ℕ, ◌⊎◌, List, ◌∷◌, Option, Some, None, refl, sym, ap, ◌∙◌, subst, inl, inr, ⊎_elim, arith}
use Rattle.ist_core.specs.Types.{Pair, ChangeRow, Event, Install, Resolve, Place}
use Rattle.ist_core.specs.WordTerms.{Ref, Empty, Unset, LeafAt, InnerAt, ChangeAt, RebuildAt, ref_of, Piece, Leaf, Inner, Change, Rebuild, start, SlotHolds, in_anchor, in_row, past_change, rebuild_reads, past_rebuild}
use Rattle.ist_core.specs.LogTerms.{Snapshot, side_of, Log, GoesOn, same_log, one_event, EachEnabled, CanOpen, state_of}
use Rattle.ist_core.specs.TreeTerms.{IsChild, AllGrow}
use Rattle.ist_core.proofs.ReferenceLemmas.{ref_of-unset}
use Rattle.ist_core.proofs.SoundLemmas.{sound}
use Rattle.ist_core.proofs.StepLemmas.{sound_start, grow_step}
use Rattle.ist_core.proofs.GrowingLemmas.{change_there, rebuild_there}
use Rattle.ist_core.proofs.FateLemmas.{enabled_before}
use Rattle.ist_core.proofs.PlaceLemmas.{anchor_free}
use Rattle.ist_core.proofs.RoomLemmas.{published_good, ref_of-change}
use Rattle.ist_core.proofs.NamingLemmas.{SlotNames, SideNames, WordsName, slot_names}
use Rattle.ist_core.proofs.OrderLemmas.{names, past_change_names}
use Rattle.ist_core.proofs.SlotStepLemmas.{install_stands, install_writes, resolve_writes, place_writes, WritesNoSlot, slot_stays}
use Rattle.ist_core.proofs.HomeLemmas.{Says, Mentions, slot_mentions}
use Rattle.ist_core.proofs.ParentLemmas.{one_home}
use Rattle.ist_core.proofs.OptionLemmas.{same_value}

module _ (pairs : List Pair) (words : ℕ) (opens : CanOpen pairs words) where
  -- an event that writes no slot
  still : (log : Log) (event : Event) → EachEnabled (start pairs words) (event ∷ log)
      → WritesNoSlot event → (node i word : ℕ) (ref : Ref) → ref_of word ≡ Some ref
      → SlotHolds (state_of pairs words log) node i word
      → Mentions (state_of pairs words (event ∷ log)) node i ref
  still log event h none node i word ref is slot =
      slot_mentions (state_of pairs words (event ∷ log)) node i word ref
      (slot_stays (start pairs words) log event h.1
      (sound (start pairs words) log (sound_start pairs words) h.0) none node i word slot) is

  -- a slot that names a row keeps naming it, or a change of it does, which takes it out. The
  -- reference is neither a change nor Unset
  slot_step : (log : Log) (event : Event) → EachEnabled (start pairs words) (event ∷ log)
      → (node i word : ℕ) (ref : Ref) → ref_of word ≡ Some ref → ((base : ℕ) → ref ≢ ChangeAt base)
      → ref ≢ Unset → SlotHolds (state_of pairs words log) node i word
      → Mentions (state_of pairs words (event ∷ log)) node i ref
  slot_step log (Install caller base rows) h node i word ref is no_change set slot =
      let first = start pairs words in let s = sound first log (sound_start pairs words) h.0 in
      let writes = install_writes first log caller base rows h.1 s (anchor_free pairs words log h.0)
      in
      ⊎_elim
      (λ w. inr (
        base,
        Change h.1.change,
        install_stands first log caller base rows h.1,
        (w.1, w.2, inl (ap ref_of (sym w.0) ∙ is)),
      ))
      (λ stays. slot_mentions (state_of pairs words (Install caller base rows ∷ log)) node i word
      ref stays is)
      (writes.others node i word slot)
  slot_step log (Resolve caller base) h node i word ref is no_change set slot =
      let writes = resolve_writes (state_of pairs words log) caller base h.1
      (anchor_free pairs words log h.0) in
      ⊎_elim
      (λ w.
      let read = ref_of-change base (published_good pairs words opens log base (Change h.1.change)
      h.0 h.1.published) in
      absurd (no_change base (same_value (ref_of word) ref (ChangeAt base) is
      (ap ref_of w.0 ∙ read))))
      (λ stays. slot_mentions (state_of pairs words (Resolve caller base ∷ log)) node i word ref
      stays is)
      (writes.others node i word slot)
  slot_step log (Place caller rebuild j new rows) h node i word ref is no_change set slot =
      let s = sound (start pairs words) log (sound_start pairs words) h.0 in
      let writes = place_writes (state_of pairs words log) caller rebuild j new rows h.1 s
      (anchor_free pairs words log h.0) in
      ⊎_elim
      (λ w. absurd (set (same_value (ref_of word) ref Unset is (ap ref_of w.0 ∙ ref_of-unset))))
      (λ stays. slot_mentions (state_of pairs words (Place caller rebuild j new rows ∷ log)) node i
      word ref stays is)
      (writes.others node i word slot)
  slot_step log event h node i word ref is no_change set slot =
      still log event h tt node i word ref is slot

  -- what is named for a slot stays named for it
  pub mentions_step : (log : Log) (event : Event) → EachEnabled (start pairs words) (event ∷ log)
      → (node i : ℕ) (ref : Ref) → ((base : ℕ) → ref ≢ ChangeAt base) → ref ≢ Unset
      → Mentions (state_of pairs words log) node i ref
      → Mentions (state_of pairs words (event ∷ log)) node i ref
  mentions_step log event h node i ref no_change set (inl m) = slot_step log event h node i
      (state_of pairs words log).anchor ref m.2 no_change set (in_anchor m.0 m.1 refl)
  mentions_step log event h node i ref no_change set (inr m) = at m.1 m.2 m.3
    where
      grows : AllGrow (state_of pairs words log).pieces (state_of pairs words (event ∷ log)).pieces
      grows = grind (arith, grow_step, sound, sound_start)

      at : (p : Piece) → (state_of pairs words log).pieces m.0 ≡ Some p → Says m.0 p node i ref
          → Mentions (state_of pairs words (event ∷ log)) node i ref
      at (Leaf r) e says = absurd says
      at (Inner r) e says = slot_step log event h node i says.1 ref says.3 no_change set
          (in_row r (subst (λ b. (state_of pairs words log).pieces b ≡ Some (Inner r)) (sym says.0)
          e) says.2)
      at (Change r) e says =
          let it = change_there (state_of pairs words log).pieces
          (state_of pairs words (event ∷ log)).pieces grows m.0 r e in
          let same = it.2.others in
          inr (
            m.0,
            Change it.0,
            it.1,
            (
              says.0 ∙ ap (λ c. c.node) (sym same),
              says.1 ∙ ap (λ c. c.index) (sym same),
              ⊎_elim (λ f. inl (ap (λ c. ref_of c.from) same ∙ f))
                  (λ f. inr (ap (λ c. ref_of c.to) same ∙ f)) says.2,
            ),
          )
      at (Rebuild r) e says =
          let it = rebuild_there (state_of pairs words log).pieces
          (state_of pairs words (event ∷ log)).pieces grows m.0 r e in
          inr (
            m.0,
            Rebuild it.0,
            it.1,
            (
              says.0 ∙ sym it.2.parent,
              says.1 ∙ sym it.2.index,
              ⊎_elim (λ f. inl (ap InnerAt it.2.target ∙ f))
                  (λ f. inr (ap ref_of (it.2.rooted
                  (λ none. set (same_value (ref_of r.root) ref Unset f
                  (ap ref_of none ∙ ref_of-unset)))) ∙ f))
                  says.2,
            ),
          )

  -- what is named for a slot stays named for it over a whole log
  pub mentions_stay : (earlier log : Log) → GoesOn earlier log → EachEnabled (start pairs words) log
      → (node i : ℕ) (ref : Ref) → ((base : ℕ) → ref ≢ ChangeAt base) → ref ≢ Unset
      → Mentions (state_of pairs words earlier) node i ref
      → Mentions (state_of pairs words log) node i ref
  mentions_stay earlier _ same_log h node i ref no_change set m = m
  mentions_stay earlier _ (one_event {log = log} event g) h node i ref no_change set m =
      mentions_step log event h node i ref no_change set
      (mentions_stay earlier log g h.0 node i ref no_change set m)

-- ---- children

-- a side of a change is named
side_mentioned : (t : Snapshot) (base : ℕ) (r : ChangeRow) (ref : Ref)
    → t.pieces base ≡ Some (Change r) → ref_of (side_of r) ≡ Some ref
    → Mentions t r.node r.index ref
side_mentioned t base r ref e is = grind arith

-- what a slot reads as once changes are read away is named for it
pub past_change_mentioned : (t : Snapshot) (node i word : ℕ) (ref : Ref) → WordsName t
    → SlotHolds t node i word → past_change t.pieces (ref_of word) ≡ Some ref
    → Mentions t node i ref
past_change_mentioned t node i word ref o slot e = at (ref_of word) refl
    (slot_names t node i word o slot) e
  where
    at : (x : Option Ref) → ref_of word ≡ x → SlotNames t.pieces node i x
        → past_change t.pieces x ≡ Some ref → Mentions t node i ref
    at (Some (ChangeAt base)) is h f = grind (arith, Mentions, side_mentioned)
    at (Some Empty) is h f = slot_mentions t node i word ref slot (is ∙ f)
    at (Some Unset) is h f = slot_mentions t node i word ref slot (is ∙ f)
    at (Some (LeafAt base)) is h f = slot_mentions t node i word ref slot (is ∙ f)
    at (Some (InnerAt base)) is h f = slot_mentions t node i word ref slot (is ∙ f)
    at (Some (RebuildAt base)) is h f = slot_mentions t node i word ref slot (is ∙ f)
    at None is h f = absurd (cc)

-- the child in a slot is named for the slot
pub child_mentioned : (t : Snapshot) (node i child : ℕ) → WordsName t → IsChild t node i child
    → Mentions t node i (InnerAt child)
child_mentioned t node i child o c = at (past_change t.pieces (ref_of c.word)) refl c.reads
  where
    at : (x : Option Ref) → past_change t.pieces (ref_of c.word) ≡ x
        → past_rebuild t.pieces x ≡ Some (InnerAt child) → Mentions t node i (InnerAt child)
    at (Some (InnerAt base)) is e = past_change_mentioned t node i c.word (InnerAt child) o c.holds
        (is ∙ e)
    at (Some (RebuildAt base)) is e =
        -- the rebuild is one for this slot
        by_rebuild base is e (rebuild_here base is)
      where
        rebuild_here : (base : ℕ) → past_change t.pieces (ref_of c.word) ≡ Some (RebuildAt base)
            → SideNames t.pieces node i (Some (RebuildAt base))
        rebuild_here base is = ⊎_elim (λ side. subst (λ x. SideNames t.pieces node i x) is side)
            (λ unset. absurd (cc))
            (past_change_names t node i (ref_of c.word) o (slot_names t node i c.word o c.holds))

        by_rebuild : (base : ℕ) → past_change t.pieces (ref_of c.word) ≡ Some (RebuildAt base)
            → past_rebuild t.pieces (Some (RebuildAt base)) ≡ Some (InnerAt child)
            → SideNames t.pieces node i (Some (RebuildAt base)) → Mentions t node i (InnerAt child)
        by_rebuild base is e r =
            let read : Some (InnerAt r.row.target) ≡ Some (InnerAt child) = sym
            (ap rebuild_reads r.published) ∙ e in
            let same : InnerAt r.row.target ≡ InnerAt child = cc in
            inr (base, Rebuild r.row, r.published, (sym r.parent, sym r.index, inl same))
    at (Some Empty) is e = absurd (cc)
    at (Some Unset) is e = absurd (cc)
    at (Some (LeafAt base)) is e = absurd (cc)
    at (Some (ChangeAt base)) is e = grind (arith, past_change_mentioned)
    at None is e = absurd (cc)

-- an inner row is the child of one slot only, now and before
pub one_parent : (pairs : List Pair) (words : ℕ) → CanOpen pairs words → (earlier log : Log)
    → GoesOn earlier log → EachEnabled (start pairs words) log → (n i k j child : ℕ)
    → IsChild (state_of pairs words earlier) n i child
    → IsChild (state_of pairs words log) k j child → (n ≡ k) × (i ≡ j)
one_parent pairs words opens earlier log g h n i k j child c d =
    let before = names pairs words opens earlier
    (enabled_before (start pairs words) earlier log g h) in
    let now = names pairs words opens log h in (one_home pairs words opens log h).one n i k j child
    (mentions_stay pairs words opens earlier log g h n i (InnerAt child) (λ base e. cc) (λ e. cc)
    (child_mentioned (state_of pairs words earlier) n i child before c))
    (child_mentioned (state_of pairs words log) k j child now d)
