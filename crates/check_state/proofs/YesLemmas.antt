-- What says yes for a caller, read in an earlier and in a later state. Serves `updating.rt`.
use Rattle.std.proofs.Common.{◌≡◌, ◌↔◌, ℕ, true, false, [], ◌∷◌, ◌++◌, Some, refl, sym, ap, subst, inl, inr, ◌≤◌, List, None, ⊎_elim, arith}
use Rattle.ist_core.specs.declared.states.ChangeRow.{ChangeRow}
use Rattle.ist_core.specs.declared.events.Event.{Event}
use Rattle.ist_core.specs.declared.events.Event.TheVariants.{Decide}
use Rattle.ist_core.specs.declared.pairs.Pair.{Pair}
use Rattle.ist_core.specs.WordTerms.{Pieces, Change, anchor, start}
use Rattle.ist_core.specs.LogTerms.{Snapshot, Log, Happened, GoesOn, same_log, CanOpen, EachEnabled, state_of}
use Rattle.laws_links.proofs.DecisionLemmas.{Decides}
use Rattle.ist_core.specs.TreeTerms.{AllGrow, IsUpdateOf, SaysYes, IsChild, Linked, at_anchor, below}
use Rattle.ist_core.proofs.AllLogLemmas.{change_there, enabled_before, goes_on_more, ever_from}
use Rattle.ist_core.proofs.AllWordLemmas.{same_change}
use Rattle.check_events.specs.Remembering.{IsUncounted, WasChild, SlotsRise, KnowsSlots}
use Rattle.std.proofs.lemmas.Grind.{common_steps}
use Rattle.std.specs.Ordering.{nat_cmp}
use Rattle.std.specs.BTreeMap.{BTreeMap}
use Rattle.ist_core.proofs.AllPlaceLemmas.{mentioned_here, child_mentioned, one_parent, WordsName, names, child_above, anchor_free, anchor_slot}
use Rattle.check_events.specs.declared.pasts.Slot.{Slot}
use Rattle.check_state.specs.Hanging.{Hangs, hangs_here, HasSlot, AddsSlots, HangsOnce}
use Rattle.check_state.proofs.HangingLemmas.{hangs_child, hangs_linked, hangs_on}
use Rattle.std.specs.BTreeMap as tree

-- ---- logs

-- so did the event that the older part begins with
pub in_between : (P : Event → Type 0) (later : Log) (event : Event) (earlier : Log) → P event
    → Happened P (later ++ event ∷ earlier)
in_between P [] event earlier now = inl now
in_between P (other ∷ later) event earlier now = inr (in_between P later event earlier now)

-- ---- changes that were decided

-- there is a change at the base
abbrev pub ChangeHere : Pieces → ℕ → Type 0
ChangeHere ps base = (r : ChangeRow) × (ps base ≡ Some (Change r))

module _ (t u : Snapshot) (grows : AllGrow t.pieces u.pieces) (caller base : ℕ) where
  -- an update stays one
  pub update_stays : IsUpdateOf t caller base → IsUpdateOf u caller base
  update_stays it = grind (arith, change_there)

  -- and it was one before, if the change was published
  pub update_before : ChangeHere t.pieces base → IsUpdateOf u caller base → IsUpdateOf t caller base
  update_before here it = grind (arith, change_there, same_change)

-- ---- a yes

-- an event that says yes for a caller decides a change of the caller so
yes_decides : (t : Snapshot) (caller : ℕ) (event : Event) → SaysYes t caller event
    → (base : ℕ) × Decides base true event × IsUpdateOf t caller base
yes_decides t caller (Decide by base true) it = (base, (refl, refl), it)
yes_decides t caller event none = absurd none

-- an event that decides a change of a caller so says yes for it
decides_yes : (t : Snapshot) (caller : ℕ) (event : Event) (base : ℕ) → Decides base true event
    → IsUpdateOf t caller base → SaysYes t caller event
decides_yes t caller (Decide by b true) base d it = subst (IsUpdateOf t caller) (sym d.0) it
decides_yes t caller (Decide by b false) base d it = absurd (cc)
decides_yes t caller event base none it = absurd none

-- what says yes in the first state says yes in the second, if each update decided yes in the first
-- is an update in the second
pub yes_kept : (t u : Snapshot) (caller : ℕ) (log : Log)
    → ((base : ℕ) → Happened (Decides base true) log
    → IsUpdateOf t caller base → IsUpdateOf u caller base)
    → Happened (SaysYes t caller) log → Happened (SaysYes u caller) log
yes_kept t u caller [] same none = absurd none
yes_kept t u caller (event ∷ log) same (inl now) = grind (arith, yes_decides, decides_yes)
yes_kept t u caller (event ∷ log) same (inr before) =
    inr (yes_kept t u caller log (λ base d. same base (inr d)) before)

-- after a yes for a caller its last update is the change of the yes, and no node has been counted
-- since
pub last_is : (u : Snapshot) (log : Log) (by change caller node base : ℕ)
    → IsUpdateOf u caller change
    → (change ≡ base) ↔ IsUncounted u (Decide by change true ∷ log) caller node base
last_is u log by change caller node base update = (
  (λ same. record {
    later = [];
    by = by;
    earlier = log;
    log_is = ap (λ b. Decide by b true ∷ log) same;
    update = subst (IsUpdateOf u caller) same update;
    last = λ none. none;
    uncounted = λ none. none;
  }),
  (λ it. at it.by it.earlier it.later it.log_is it.last),
)
  where
    at : (c : ℕ) (earlier later : Log)
        → Decide by change true ∷ log ≡ later ++ Decide c base true ∷ earlier
        → ¬ (Happened (SaysYes u caller) later) → change ≡ base
    at c earlier [] is last = cc
    at c earlier (first ∷ later) is last = grind arith

-- ---- what a table of slots says of a lawful log, and what follows from its entries. Serves
-- `linking.rt`.

-- ---- no entries

-- an empty table has no slot
pub empty_table : (empty : BTreeMap ℕ Slot) → tree.IsEmpty empty → (child : ℕ)
    → tree.get nat_cmp empty child ≡ None
empty_table empty none child = grind (arith, common_steps)

-- ---- entries

module _ (pairs : List Pair) (words : ℕ) (opens : CanOpen pairs words) where
  -- the state after a log
  abbrev following : Log → Snapshot
  following log = state_of pairs words log

  -- each entry of the table is of a row that was linked
  abbrev pub AreOfLinked : BTreeMap ℕ Slot → Log → Type 0
  AreOfLinked slots log = (child : ℕ) (slot : Slot) → tree.get nat_cmp slots child ≡ Some slot
      → WasChild (start pairs words) log slot.node slot.index child

  -- each entry of the right table is for a row that was linked
  pub of_linked : (slots : BTreeMap ℕ Slot) (log : Log) → KnowsSlots slots (start pairs words) log
      → AreOfLinked slots log
  of_linked slots log known child slot e = (known.entries slot.node slot.index child).0 e

  -- after an enabled log logical children hang once, and a table of slots that is right for a
  -- prefix of it has no other slot for them
  pub hangs_once : (earlier log : Log) → GoesOn earlier log → EachEnabled (start pairs words) log
      → (slots : BTreeMap ℕ Slot) → AreOfLinked slots earlier → HangsOnce slots (following log)
  hangs_once earlier log on h slots of = record {
    anchor_free = anchor_free pairs words log h;
    rows = λ node i child c. mentioned_here t node i child o (child_mentioned t node i child o c);
    above = λ node i child c. child_above t node i child o c;
    one = one_parent pairs words opens log log same_log h;
    told = λ node i child slot c e.
        let was =
        ever_from (start pairs words)
        (λ u. Linked u slot.node × IsChild u slot.node slot.index child) earlier
        (of child slot e) in
        let same =
        one_parent pairs words opens was.0 log (goes_on_more was.1 on) h
        slot.node slot.index node i child was.2.1 c in
        at node i slot same.0 same.1;
  }
    where
      t : Snapshot
      t = following log

      o : WordsName (following log)
      o = names pairs words opens log h

      at : (n i : ℕ) (slot : Slot) → slot.node ≡ n → slot.index ≡ i
          → slot ≡ record { node = n; index = i }
      at n i slot a b = grind arith

  -- a linked node lies no lower than the anchor
  linked_high : (log : Log) → EachEnabled (start pairs words) log → (node : ℕ)
      → Linked (following log) node → anchor ≤ node
  linked_high log h _ at_anchor = omega arith
  linked_high log h _ (below {node = node} {child = child} i l c) =
      let low = linked_high log h node l in
      let up = child_above (following log) node i child (names pairs words opens log h) c in
      omega arith

  -- the slots of rows that were linked are of lower nodes
  rises : (log : Log) → EachEnabled (start pairs words) log → (slots : BTreeMap ℕ Slot)
      → AreOfLinked slots log → SlotsRise slots
  rises log h slots of child slot e =
      let was =
      ever_from (start pairs words)
      (λ u. Linked u slot.node × IsChild u slot.node slot.index child) log (of child slot e) in
      let all = enabled_before (start pairs words) was.0 log was.1 h in (
        linked_high was.0 all slot.node was.2.0,
        child_above (following was.0) slot.node slot.index child
            (names pairs words opens was.0 all) was.2.1,
      )

  -- a table with the right entries is the right one
  pub knows : (log : Log) → EachEnabled (start pairs words) log → (slots : BTreeMap ℕ Slot)
      → ((node i child : ℕ)
      → HasSlot slots node i child ↔ WasChild (start pairs words) log node i child)
      → KnowsSlots slots (start pairs words) log
  knows log h slots entries = grind (arith, rises)

  -- ---- a new table

  -- with no slots in the table the logical children of a new table hang once
  pub once_at_start : (empty : BTreeMap ℕ Slot)
      → ((child : ℕ) → tree.get nat_cmp empty child ≡ None) → HangsOnce empty (start pairs words)
  once_at_start empty none =
      hangs_once [] [] same_log tt empty (λ child slot e. absurd (cc (none child)))

  -- what is linked hangs below the anchor's slot
  hangs_from_anchor : (t : Snapshot) → t.pieces anchor ≡ None → (node i child : ℕ) → Linked t node
      → IsChild t node i child → Hangs t anchor 0 node i child
  hangs_from_anchor t free _ i child at_anchor c =
      let one = anchor_slot t anchor i c.word free c.holds refl in
      subst (λ j. Hangs t anchor 0 anchor j child) (sym one)
      (hangs_here (subst (λ j. IsChild t anchor j child) one c))
  hangs_from_anchor t free _ i child (below {node = node} {child = row} k l d) c =
      hangs_on t anchor 0 node k row i child (hangs_from_anchor t free node k row l d) c

  -- the slots below the anchor are the slots of a new table
  pub knows_start : (empty slots : BTreeMap ℕ Slot)
      → ((child : ℕ) → tree.get nat_cmp empty child ≡ None)
      → AddsSlots empty slots (Hangs (start pairs words) anchor 0)
      → KnowsSlots slots (start pairs words) []
  knows_start empty slots none adds = knows [] tt slots
      (λ node i child. (
        (λ e. ⊎_elim (λ o. absurd (cc (none child)))
            (λ p. linked node i child p) ((adds node i child).0 e)),
        (λ h. (adds node i child).1
            (inr (hangs_from_anchor t (anchor_free pairs words [] tt) node i child h.0 h.1))),
      ))
    where
      t : Snapshot
      t = start pairs words

      linked : (node i child : ℕ) → Hangs (start pairs words) anchor 0 node i child
          → Linked (start pairs words) node × IsChild (start pairs words) node i child
      linked node i child p = (
        hangs_linked t anchor 0 node i child at_anchor p,
        hangs_child t anchor 0 node i child p,
      )
