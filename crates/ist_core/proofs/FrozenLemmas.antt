-- A slot that was passed reads as its word from then on. Serves `laws.frozen_slots_stay`.
use Rattle.std.proofs.Common.{◌≡◌, ◌≢◌, ℕ, List, [], ◌∷◌, Option, Some, None, refl, sym, ap, ◌∙◌, inl, inr, arith}
use Rattle.ist_core.specs.Types.{Pair, Event, Pass}
use Rattle.ist_core.specs.WordTerms.{Ref, Empty, Unset, LeafAt, InnerAt, ChangeAt, RebuildAt, ref_of, unset_word, Pieces, start, SlotHolds, in_row, past_change, past_rebuild, logical}
use Rattle.ist_core.specs.LogTerms.{Snapshot, Log, state, Happened, Passes, Enabled, EachEnabled, CanOpen, state_of}
use Rattle.ist_core.specs.TreeTerms.{CanPass, KeepsWord, holds_it, holds_change, IsClosedOver}
use Rattle.ist_core.proofs.PlaceLemmas.{anchor_free}
use Rattle.ist_core.proofs.RoomLemmas.{slot_once}
use Rattle.ist_core.proofs.FreezingLemmas.{closed_step, change_read, side_not_yes}

-- a word with which a slot may be passed
pub record MayBePassed (word : ℕ) : Type 0 where
  pub set : word ≢ unset_word
  pub no_change : (change : ℕ) → ref_of word ≢ Some (ChangeAt change)

-- a caller may pass the slot with this word
abbrev pub PassedBy : Snapshot → ℕ → ℕ → ℕ → Type 0
PassedBy t node i word = (caller : ℕ) × CanPass t caller node i word

-- an event that passes a slot is a Pass
pub passed_now : (first : Snapshot) (log : Log) (event : Event) (node i word : ℕ)
    → Enabled first log event → Passes node i word event → PassedBy (state first log) node i word
passed_now first log (Pass caller n j w) node i word h is = grind arith
passed_now first log _ node i word h is = absurd is

-- a Pass writes nothing
pass_same : (t : Snapshot) (log : Log) (event : Event) (first : Snapshot) (node i word : ℕ)
    → Passes node i word event → state first (event ∷ log) ≡ state first log
pass_same t log (Pass caller n j w) first node i word is = refl
pass_same t log _ first node i word is = absurd is

-- a passed word is neither a change nor Unset
pub passed_plain : (first : Snapshot) (log : Log) (node i word : ℕ) → EachEnabled first log
    → Happened (Passes node i word) log → MayBePassed word
passed_plain first [] node i word h p = absurd p
passed_plain first (event ∷ log) node i word h (inl now) = grind (arith, passed_now)
passed_plain first (event ∷ log) node i word h (inr before) = passed_plain first log node i word h.0
    before

-- a node that is marked is closed
closed_now : (t : Snapshot) (log : Log) (caller node i word : ℕ) → CanPass t caller node i word
    → IsClosedOver t log node i word
closed_now t log caller node i word h = let one = h.marked in record {
  row = h.row;
  published = h.published;
  closed = λ e. omega arith;
  keeps = holds_it (in_row h.row h.published h.in_slot);
}

-- a change is read away
pub past_no_change : (ps : Pieces) (ref : Option Ref) → ((change : ℕ) → ref ≢ Some (ChangeAt change))
    → past_change ps ref ≡ ref
past_no_change ps (Some (ChangeAt base)) plain = absurd (plain base refl)
past_no_change ps (Some Empty) plain = refl
past_no_change ps (Some Unset) plain = refl
past_no_change ps (Some (LeafAt base)) plain = refl
past_no_change ps (Some (InnerAt base)) plain = refl
past_no_change ps (Some (RebuildAt base)) plain = refl
past_no_change ps None plain = refl

module _ (pairs : List Pair) (words : ℕ) (opens : CanOpen pairs words) where
  -- a slot that was passed keeps its word
  pub closed : (log : Log) → EachEnabled (start pairs words) log → (node i word : ℕ)
      → Happened (Passes node i word) log → IsClosedOver (state_of pairs words log) log node i word
  closed [] h node i word p = absurd p
  closed (event ∷ log) h node i word (inl now) = grind (arith, passed_now, pass_same, closed_now)
  closed (event ∷ log) h node i word (inr before) =
      let plain = passed_plain (start pairs words) log node i word h.0 before in
      closed_step pairs words opens log h.0 event h.1 node i word plain.set plain.no_change
      (closed log h.0 node i word before)

  -- what a closed slot holds if it holds no change
  held_word : (log : Log) → EachEnabled (start pairs words) log → (node i v w : ℕ)
      → IsClosedOver (state_of pairs words log) log node i v
      → SlotHolds (state_of pairs words log) node i w
      → ((change : ℕ) → ref_of w ≢ Some (ChangeAt change)) → w ≡ v
  held_word log h node i v w c slot plain = grind (arith, slot_once, anchor_free, change_read)

  -- all passes of a slot name one word
  pub passes_agree : (log : Log) → EachEnabled (start pairs words) log → (node i v w : ℕ)
      → Happened (Passes node i v) log → Happened (Passes node i w) log → v ≡ w
  passes_agree [] h node i v w p q = absurd p
  passes_agree (event ∷ log) h node i v w (inl p) (inl q) =
      grind (arith, passed_now, slot_once, anchor_free)
  passes_agree (event ∷ log) h node i v w (inl p) (inr q) =
      let can = passed_now (start pairs words) log event node i v h.1 p in
      held_word log h.0 node i w v (closed log h.0 node i w q)
      (in_row can.1.row can.1.published can.1.in_slot) can.1.no_change
  passes_agree (event ∷ log) h node i v w (inr p) (inl q) =
      let can = passed_now (start pairs words) log event node i w h.1 q in
      sym (held_word log h.0 node i v w (closed log h.0 node i v p)
      (in_row can.1.row can.1.published can.1.in_slot) can.1.no_change)
  passes_agree (event ∷ log) h node i v w (inr p) (inr q) = passes_agree log h.0 node i v w p q

  -- a frozen slot reads as its word
  pub frozen_reads : (log : Log) → EachEnabled (start pairs words) log → (node i v w : ℕ)
      → Happened (Passes node i v) log → SlotHolds (state_of pairs words log) node i w
      → logical (state_of pairs words log).pieces w ≡ past_rebuild (state_of pairs words log).pieces
      (ref_of v)
  frozen_reads log h node i v w p slot = at (closed log h node i v p).keeps
    where
      plain : MayBePassed v
      plain = passed_plain (start pairs words) log node i v h p

      at : KeepsWord (state_of pairs words log) log node i v
          → logical (state_of pairs words log).pieces w ≡ past_rebuild
          (state_of pairs words log).pieces (ref_of v)
      at (holds_it k) = let ps = (state_of pairs words log).pieces in
          ap (logical ps) (slot_once (state_of pairs words log) node i w v
          (anchor_free pairs words log h) slot k) ∙ ap (past_rebuild ps)
          (past_no_change ps (ref_of v) plain.no_change)
      at (holds_change x) = grind (arith, slot_once, anchor_free, change_read, side_not_yes)
