-- A search by its loads is a search by the logs at which it looked. Serves the search law.
use Rattle.std.proofs.Common.{◌≡◌, ◌≢◌, ℕ, ◌+◌, ◌<◌, ◌≤◌, ◌==◌, nat_le, true, false, List, [], ◌∷◌, length, slice_get, Option, Some, None, refl, sym, ap, ◌∙◌, subst, arith, le_refl}
use Rattle.std.proofs.lemmas.Bool.Decides.{nat_tests}
use Rattle.std.proofs.lemmas.List.Sums.{count_by-le-length}
use Rattle.ist_core.specs.declared.loads.Load.{Load}
use Rattle.ist_core.specs.declared.pairs.Pair.{Pair}
use Rattle.ist_core.specs.declared.states.InnerRow.{InnerRow}
use Rattle.ist_core.specs.declared.states.LeafRow.{LeafRow}
use Rattle.ist_core.specs.declared.states.ChangeRow.{ChangeRow}
use Rattle.ist_core.specs.WordTerms.{anchor, anchor_slot_place, slot_place, Ref, InnerAt, ChangeAt, ref_of, decided_yes, Piece, Leaf, Inner, Change, Rebuild, words_of, start, SlotHolds, in_anchor, in_row, IsChildFor, of_anchor, of_row, rebuild_reads, past_rebuild, logical}
use Rattle.ist_core.specs.LogTerms.{Snapshot, side_of, Log, GoesOn, EachEnabled, CanOpen, state_of}
use Rattle.ist_core.specs.TreeTerms.{place_of_slot, value_in, AllGrow}
use Rattle.ist_core.proofs.AllLogLemmas.{leaf_there, change_there, rebuild_there, enabled_before, grow_between, side_not_yes, shown_in_anchor, shown_in_row, goes_on_more, past_no_change}
use Rattle.ist_core.proofs.AllPlaceLemmas.{anchor_free, no_row, shaped, get-words_of_slot, has_word, IsChangeFor, IsRebuildFor, SideNames, SlotNames, slot_names, side_slot, side_names, names}
use Rattle.laws_links.proofs.ReadLemmas.{side_yes}
use Rattle.laws_histories.specs.Finding.{Finds, in_nothing, in_leaf}
use Rattle.laws_histories.specs.Loads.{log_at, IsLoad}
use Rattle.laws_histories.specs.Searching.{ReadsSide, no_change, by_to, by_from, ReadsTarget, no_rebuild, by_target, LooksAt, ComesTo, begins, goes_down, ReadsValue, of_nothing, of_other, of_key}
use Rattle.laws_histories.proofs.ReadLemmas.{change_logical}
use Rattle.laws_histories.proofs.ChangeLemmas.{at_on, at_rises}
use Rattle.laws_histories.proofs.SearchLemmas as search

-- ---- words of rows

-- a load from a published row
pub load_word : (pairs : List Pair) (words : ℕ) (log : Log) (place least : ℕ) (load : Load)
    → IsLoad pairs words log place least load → (base k word : ℕ) (p : Piece)
    → (state_of pairs words (log_at log load.length)).pieces base ≡ Some p → place ≡ base + k
    → slice_get (words_of p) k ≡ Some word → load.word ≡ word
load_word pairs words log place least load h base k word p e is read =
    h.tells word (shown_in_row base k p e (h.place_is ∙ is) read)

-- the place of a slot that isn't the anchor's
slot_of_row : (t : Snapshot) (node i : ℕ) (r : InnerRow) → node ≢ anchor
    → t.pieces node ≡ Some (Inner r) → place_of_slot t node i ≡ slot_place node r.degree i
slot_of_row t node i r out e = grind (arith, nat_tests)

-- the place of the anchor's slot
slot_of_anchor : (t : Snapshot) (node i : ℕ) → node ≡ anchor
    → place_of_slot t node i ≡ anchor_slot_place
slot_of_anchor t node i e = grind arith

-- the last word of a change that counts by its decision
to_word : (r : ChangeRow) (word : ℕ) → r.decision ≡ decided_yes → word ≡ r.to → word ≡ side_of r
to_word r word e is = is ∙ sym (side_yes r e)

-- the last word of a change that counts by a decision other than yes
from_word : (r : ChangeRow) (word : ℕ) → r.decision ≢ decided_yes → word ≡ r.from → word ≡ side_of r
from_word r word e is = is ∙ sym (side_not_yes r e)

module _ (pairs : List Pair) (words : ℕ) (opens : CanOpen pairs words) (log : Log)
    (h : EachEnabled (start pairs words) log) where
  -- the state when the log had n events
  abbrev At : ℕ → Snapshot
  At n = state_of pairs words (log_at log n)

  -- the log was enabled then
  pub enabled_at : (n : ℕ) → EachEnabled (start pairs words) (log_at log n)
  enabled_at n = enabled_before (start pairs words) (log_at log n) log (at_on log n) h

  -- rows grow from one length to a greater one
  grows_to : (m n : ℕ) → m ≤ n → AllGrow (At m).pieces (At n).pieces
  grows_to m n le =
      grow_between pairs words (log_at log m) (log_at log n) (enabled_at n) (at_rises log m n le)

  -- the slot held the word that was loaded
  pub slot_load : (key least node i : ℕ) (slot : Load) → IsChildFor (At slot.length) node key i
      → IsLoad pairs words log (place_of_slot (At slot.length) node i) least slot
      → SlotHolds (At slot.length) node i slot.word
  slot_load key least node i slot (of_anchor a b) load = in_anchor a b
      (sym (load.tells (At slot.length).anchor (shown_in_anchor (load.place_is ∙ slot_of_anchor (At slot.length) node i a) refl)))
  slot_load key least node i slot (of_row r e is) load = let t = At slot.length in
      let out : node ≢ anchor =
      λ a. no_row t.pieces node r (anchor_free pairs words (log_at log slot.length) (enabled_at slot.length)) a e in
      let shape =
      shaped pairs words (log_at log slot.length) (enabled_at slot.length) node (Inner r) e in
      let keys = shape.keys in let slots = shape.slots in
      let few = count_by-le-length (λ k. nat_le k key) r.keys in
      let word = has_word r.slots i (omega arith) in
      let place : place_of_slot t node i ≡ node + (4 + length r.keys + i) =
      slot_of_row t node i r out e ∙ number r keys in
      let same =
      load_word pairs words log (place_of_slot t node i) least slot load node
      (4 + length r.keys + i) word.0 (Inner r) e place (get-words_of_slot r i ∙ word.1) in
      in_row r e (word.1 ∙ ap (λ w. Some w) (sym same))
    where
      number : (r : InnerRow) → length r.keys + 1 ≡ r.degree
          → slot_place node r.degree i ≡ node + (4 + length r.keys + i)
      number r keys = omega arith

  -- what the loads of a side show: what the slot's word reads as at that moment
  record SideTold (node i : ℕ) (slot : Load) (side last : ℕ) : Type 0 where
    since : slot.length ≤ last
    reads : logical (At last).pieces slot.word ≡ past_rebuild (At last).pieces (ref_of side)
    names_it : SlotNames (At last).pieces node i (ref_of side)

  -- a side of a change, by its decision
  side_told : (node i : ℕ) (slot : Load) (base : ℕ) (decision side : Load) (k : ℕ)
      → SlotHolds (At slot.length) node i slot.word → ref_of slot.word ≡ Some (ChangeAt base)
      → IsLoad pairs words log (base + 0) slot.length decision
      → IsLoad pairs words log (base + k) slot.length side
      → ((x y : ChangeRow) → decision.word ≡ x.decision → y.from ≡ x.from → y.to ≡ x.to → slice_get (words_of (Change y)) k ≡ Some (side_of x))
      → SideTold node i slot side.word decision.length
  side_told node i slot base decision side k held is by with choice = let a = At slot.length in
      let t = At decision.length in let u = At side.length in
      let o = names pairs words opens (log_at log slot.length) (enabled_at slot.length) in
      let named = change_named (slot_names a node i slot.word o held) in
      let x =
      change_there a.pieces t.pieces
      (grows_to slot.length decision.length by.since) base named.row named.published in
      let y =
      change_there a.pieces u.pieces
      (grows_to slot.length side.length with.since) base named.row named.published in
      let dec =
      load_word pairs words log (base + 0) slot.length decision by base 0 x.0.decision
      (Change x.0) x.1 refl refl in
      let from = ap (λ c. c.from) y.2.others ∙ sym (ap (λ c. c.from) x.2.others) in
      let to = ap (λ c. c.to) y.2.others ∙ sym (ap (λ c. c.to) x.2.others) in
      let word =
      load_word pairs words log (base + k) slot.length side with base k (side_of x.0)
      (Change y.0) y.1 refl (choice x.0 y.0 dec from to) in
      let row =
      (names pairs words opens (log_at log decision.length) (enabled_at decision.length)).rows base
      (Change x.0) x.1 in
      let node_is : x.0.node ≡ node = ap (λ c. c.node) x.2.others ∙ named.node_is in
      let index : x.0.index ≡ i = ap (λ c. c.index) x.2.others ∙ named.index in
      let side_is = side_names t.pieces x.0.node x.0.index x.0 row.0 row.1 in record {
        since = by.since;
        reads = change_logical t.pieces slot.word base x.0 is x.1
            ∙ ap (λ w. past_rebuild t.pieces (ref_of w)) (sym word);
        names_it = subst (λ w. SlotNames t.pieces node i (ref_of w)) (sym word)
            (side_slot t.pieces node i (ref_of (side_of x.0)) (subst (λ n. SideNames t.pieces n i (ref_of (side_of x.0))) node_is (subst (λ j. SideNames t.pieces x.0.node j (ref_of (side_of x.0))) index side_is)));
      }
    where
      change_named : SlotNames (At slot.length).pieces node i (ref_of slot.word)
          → IsChangeFor (At slot.length).pieces node i base
      change_named n = subst (λ ref. SlotNames (At slot.length).pieces node i ref) is n

  -- what a slot read as, by its loads
  sided : (node i : ℕ) (slot : Load) (side last : ℕ) → SlotHolds (At slot.length) node i slot.word
      → ReadsSide pairs words log slot side last → SideTold node i slot side last
  sided node i slot _ _ held (no_change plain) = let t = At slot.length in record {
    since = le_refl slot.length;
    reads = ap (past_rebuild t.pieces) (past_no_change t.pieces (ref_of slot.word) plain);
    names_it = slot_names t node i slot.word
        (names pairs words opens (log_at log slot.length) (enabled_at slot.length)) held;
  }
  sided node i slot _ _ held (by_to base decision side is load yes_word other) =
      side_told node i slot base decision side 5 held is load other
      (λ x y dec from to. ap (λ w. Some w) (to_word x y.to (sym dec ∙ yes_word) to))
  sided node i slot _ _ held (by_from base decision side is load no_yes other) =
      side_told node i slot base decision side 4 held is load other
      (λ x y dec from to. ap (λ w. Some w) (from_word x y.from (λ e. no_yes (dec ∙ e)) from))

  -- a rebuild reads as the target that was loaded
  target_told : (node i side last : ℕ) (ref : Ref) → SlotNames (At last).pieces node i (ref_of side)
      → ReadsTarget pairs words log last side ref
      → past_rebuild (At last).pieces (ref_of side) ≡ Some ref
  target_told node i side last _ named (no_rebuild ref is plain) = grind arith
  target_told node i side last _ named (by_target base target is load) = let t = At last in
      let here : IsRebuildFor t.pieces node i base =
      subst (λ ref. SlotNames t.pieces node i ref) is named in
      let x =
      rebuild_there t.pieces (At target.length).pieces
      (grows_to last target.length load.since) base here.row here.published in
      let word =
      load_word pairs words log (base + 0) last target load base 0 x.0.target
      (Rebuild x.0) x.1 refl refl in
      ap (past_rebuild t.pieces) is ∙ ap rebuild_reads here.published
      ∙ ap (λ n. Some (InnerAt n)) (sym (word ∙ x.2.target))

  -- a look by its loads is a look by logs
  pub look_of : (key least last node : ℕ) (ref : Ref)
      → LooksAt pairs words log key least last node ref
      → search.Look pairs words key (log_at log least) (log_at log last) node (Some ref)
  look_of key least last node ref look = let slot = look.slot in
      let held = slot_load key least node look.index slot look.index_is look.is_load in
      let told = sided node look.index slot look.side last held look.side_is in record {
        index = look.index;
        word = slot.word;
        loaded = log_at log slot.length;
        after = at_rises log least slot.length look.is_load.since;
        index_is = look.index_is;
        held = held;
        later = at_rises log slot.length last told.since;
        reads =
            told.reads ∙ target_told node look.index look.side last ref told.names_it look.ref_is;
      }

  -- a search by loads is a search by the logs at which it looked
  pub comes_of : (key began last node : ℕ) → ComesTo pairs words log key began last node
      → search.Comes pairs words key (log_at log began) (log_at log last) node
  comes_of key began _ _ begins = search.begins
  comes_of key began _ _ (goes_down {least = least} {last = last} {node = node} {child = child} c look) =
      search.goes (comes_of key began least node c)
      (look_of key least last node (InnerAt child) look)

  -- ---- values

  -- what the loads of a leaf give is what is found there at an earlier moment
  pub value_of : (at : Log) (key least : ℕ) (ref : Ref) (value found : Option ℕ)
      → GoesOn at (log_at log least) → ReadsValue pairs words log key least ref value
      → Finds (state_of pairs words at).pieces key (Some ref) found → value ≡ found
  value_of at key least _ _ _ g of_nothing in_nothing = refl
  value_of at key least _ _ _ g (of_other {base = base} load is_load other) (in_leaf r e) =
      let there = leaf_there (state_of pairs words at).pieces (At load.length).pieces
      (grow_between pairs words at (log_at log load.length) (enabled_at load.length) (goes_on_more g (at_rises log least load.length is_load.since)))
      base r e in
      let word =
      load_word pairs words log (base + 0) least load is_load base 0 r.key
      (Leaf r) there refl refl in
      let differs : (r.key == key) ≡ false = grind (arith, nat_tests) in sym (leaf_none r differs)
    where
      leaf_none : (r : LeafRow) → (r.key == key) ≡ false → value_in (Some (Leaf r)) key ≡ None
      leaf_none r e = rw e refl
  value_of at key least _ _ _ g (of_key {base = base} load value is_load same is_value) (in_leaf r e) =
      let on : (x : Load) → least ≤ x.length → (At x.length).pieces base ≡ Some (Leaf r) =
      λ x since. leaf_there (state_of pairs words at).pieces (At x.length).pieces
      (grow_between pairs words at (log_at log x.length) (enabled_at x.length) (goes_on_more g (at_rises log least x.length since)))
      base r e in
      let word =
      load_word pairs words log (base + 0) least load is_load base 0 r.key (Leaf r)
      (on load is_load.since) refl refl in
      let read =
      load_word pairs words log (base + 1) least value is_value base 1 r.value (Leaf r)
      (on value is_value.since) refl refl in
      let equal : (r.key == key) ≡ true = grind (arith, nat_tests) in
      ap (λ w. Some w) read ∙ sym (leaf_some r equal)
    where
      leaf_some : (r : LeafRow) → (r.key == key) ≡ true
          → value_in (Some (Leaf r)) key ≡ Some r.value
      leaf_some r e = rw e refl
