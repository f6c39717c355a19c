-- What the slot of an update holds, and the reply that it gives. Serves `carry_out` and
-- `change_slot`.
use Rattle.std.proofs.Common.{◌≡◌, ℕ, List, Option, Some, inl, inr, arith, ◌∷◌}
use Rattle.ist_core.specs.declared.states.ChangeRow.{ChangeRow}
use Rattle.ist_core.specs.declared.states.LeafRow.{LeafRow}
use Rattle.ist_core.specs.declared.lists.Row.{Row}
use Rattle.ist_core.specs.declared.events.Event.TheVariants.{Install}
use Rattle.ist_core.specs.declared.pairs.Pair.{Pair}
use Rattle.ist_core.specs.TreeTerms.{reply_of, value_at, AllGrow, FitsKind, a_put, a_pair, a_remove, a_start, a_finish, HasRoomFor, nothing, same_key, IsUpdate, CanInstall}
use Rattle.ist_core.specs.LogTerms.{Log, state, Snapshot, after, state_of}
use Rattle.ist_core.specs.WordTerms.{Leaf, Ref, Empty, LeafAt, ref_of, start_kind, finish_kind, Change, start}
use Rattle.ist_core.proofs.AllLogLemmas.{leaf_there}
use Rattle.ist_rule.specs.RuleTerms.{now}
use Rattle.ist_rule.specs.declared.view.View.{View}
use Rattle.ist_updates.specs.declared.plans.Fresh.TheVariants.{Leaf}
use Rattle.ist_updates.specs.declared.plans.SlotPlan.{SlotPlan}
use Rattle.ist_updates.specs.Changing.{MayReplace}
use Rattle.laws_links.proofs.FormLemmas.{leaf_of_grows, room_grows}
use Rattle.ist_rows.proofs.CallerGoingLemmas.{base_same}
use Rattle.ist_updates.specs.declared.plans.SlotPlan.TheVariants as way

-- ---- what stays

-- what a leaf gives a key stays
value_stays : (t u : Snapshot) → AllGrow t.pieces u.pieces → (key leaf : ℕ) (row : LeafRow) (ref : Option Ref)
    → ref ≡ Some (LeafAt leaf) → t.pieces leaf ≡ Some (Leaf row)
    → value_at t.pieces ref key ≡ value_at u.pieces ref key
value_stays t u g key leaf row ref is there = grind (arith, leaf_there)

-- what a slot that an update may change holds: nothing, or a leaf
pub data StandsInSlot (t : Snapshot) (word : ℕ) : Type 0 where
  nothing_there : ref_of word ≡ Some Empty → StandsInSlot t word
  leaf_there_is : (leaf : ℕ) (row : LeafRow) → ref_of word ≡ Some (LeafAt leaf)
      → t.pieces leaf ≡ Some (Leaf row) → StandsInSlot t word

-- a word that leaves room for a key names nothing or a leaf
pub room_stands : (t : Snapshot) (key word : ℕ) → HasRoomFor t key word → StandsInSlot t word
room_stands t key word (nothing e) = nothing_there e
room_stands t key word (same_key leaf e l) = leaf_there_is leaf l.row e l.published

-- an update is no start of a rebuild
pub no_start : {k : ℕ} → k ≡ start_kind → IsUpdate k → ⊥
no_start e (inl f) = omega arith
no_start e (inr f) = omega arith

-- nor a finish
pub no_finish : {k : ℕ} → k ≡ finish_kind → IsUpdate k → ⊥
no_finish e (inl f) = omega arith
no_finish e (inr f) = omega arith

-- the word that an update's change expects names nothing or a leaf
pub fits_stands : (first : Snapshot) (log : Log) (row : ChangeRow) (fresh : List Row)
    → FitsKind first log row fresh → IsUpdate row.kind → StandsInSlot (state first log) row.from
fits_stands first log row fresh (a_put h) update =
    room_stands (state first log) row.key row.from h.from
fits_stands first log row fresh (a_pair h) update =
    leaf_there_is h.other h.stands.row h.from h.stands.published
fits_stands first log row fresh (a_remove h) update =
    leaf_there_is h.leaf h.stands.row h.from h.stands.published
fits_stands first log row fresh (a_start h) update = absurd (no_start h.kind update)
fits_stands first log row fresh (a_finish h) update = absurd (no_finish h.kind update)

-- so the reply to it stays
pub reply_stays : (t u : Snapshot) → AllGrow t.pieces u.pieces → (key word : ℕ) → StandsInSlot t word
    → value_at t.pieces (ref_of word) key ≡ value_at u.pieces (ref_of word) key
reply_stays t u g key word (nothing_there e) = grind arith
reply_stays t u g key word (leaf_there_is leaf row e there) = grind (arith, value_stays)

-- ---- what the slot holds

-- what leaves room leaves it still
pub way_on : (v w : View) → AllGrow (now v).pieces (now w).pieces → (key word : ℕ) (x : SlotPlan)
    → MayReplace v key word x → MayReplace w key word x
way_on v w g key word (way.Leaf value) h = room_grows (now v) (now w) g key word h
way_on v w g key word (way.Pair value other other_key) h = grind (arith, leaf_of_grows)
way_on v w g key word way.Clear h = (h.0, h.1, leaf_of_grows (now v) (now w) g h.0 key h.2)

-- the slot holds nothing or a leaf
pub way_stands : (v : View) (key word : ℕ) (x : SlotPlan) → MayReplace v key word x → StandsInSlot (now v) word
way_stands v key word (way.Leaf value) h = room_stands (now v) key word h
way_stands v key word (way.Pair value other other_key) h =
    leaf_there_is other h.1.row h.0 h.1.published
way_stands v key word way.Clear h = leaf_there_is h.0 h.2.row h.1 h.2.published

-- the reply to the change is what the word of the slot gives the key
pub planned_reply : (v w : View) → AllGrow (now v).pieces (now w).pieces → (key word : ℕ) (x : SlotPlan)
    → MayReplace v key word x → (row : ChangeRow) → row.from ≡ word → row.key ≡ key
    → value_at (now v).pieces (ref_of word) key ≡ reply_of (now w).pieces row
planned_reply v w g key word x h row from key_is = grind (arith, reply_stays, way_stands)

-- ---- the row of a change that was installed. Serves what came of it.

-- after its Install the change is published as its row was filled
pub installed_row : (pairs : List Pair) (words : ℕ) (log : Log) (caller base : ℕ) (rows : List Row)
    → (h : CanInstall (start pairs words) log caller base rows)
    → (state_of pairs words (Install caller base rows ∷ log)).pieces base ≡ Some (Change h.change)
installed_row pairs words log caller base rows h = grind (arith, base_same)
