-- The changes of a longer log, and the replies of the first ones. Serves each law of calls.
use Rattle.std.proofs.Common.{◌≡◌, ℕ, zero, suc, ◌≤◌, true, List, [], ◌∷◌, ◌++◌, length, slice_get, Some, refl, sym, ap, ◌∙◌, arith, length-append, append_assoc, append-nil, ◌-◌, drop, Option, subst, take}
use Rattle.std.proofs.lemmas.List.{take-append-le}
use Rattle.ist_core.specs.declared.calls.Call.{Call}
use Rattle.ist_core.specs.declared.events.Event.TheVariants.{Decide}
use Rattle.ist_core.specs.declared.loads.Load.{Load}
use Rattle.ist_core.specs.declared.pairs.Pair.{Pair}
use Rattle.ist_core.specs.TreeTerms.{Map, reply_to, Entry, entry_of, changes, map_after_entries, IsRead, place_of_slot, map_of, changes_of, map_at}
use Rattle.ist_core.specs.LogTerms.{Snapshot, Log, state, GoesOn, same_log, one_event, state_of, IsShown}
use Rattle.ist_core.proofs.AllLogLemmas.{goes_on_more, goes_on_length}
use Rattle.ist_core.specs.WordTerms.{Ref, IsChildFor, start}
use Rattle.laws_histories.specs.Loads.{log_at, IsLoad}
use Rattle.laws_histories.specs.Searching.{ReadsSide, no_change, by_to, by_from, ReadsTarget, no_rebuild, by_target, LooksAt, ComesTo, begins, goes_down, ReadsValue, of_nothing, of_other, of_key, Searched, HasPosition}
use Rattle.std.proofs.Math.Nat.{le_trans}
use Rattle.std.specs.FinMap as fin

-- a longer log has the changes of the shorter one, and more after them
pub changes_on : (first : Snapshot) (earlier log : Log) → GoesOn earlier log
    → (more : List Entry) × (changes first log ≡ changes first earlier ++ more)
changes_on first earlier _ same_log = ([], sym (append-nil (changes first earlier)))
changes_on first earlier _ (one_event {log = log} (Decide caller base true) g) =
    let before = changes_on first earlier log g in let ps = (state first log).pieces in
    let new = entry_of ps (ps base) in
    (before.0 ++ new, ap (λ es. es ++ new) before.1 ∙ append_assoc (changes first earlier) before.0 new)
changes_on first earlier _ (one_event {log = log} event g) = changes_on first earlier log g

-- a longer log has at least as many changes
pub changes_rise : (first : Snapshot) (earlier log : Log) → GoesOn earlier log
    → length (changes first earlier) ≤ length (changes first log)
changes_rise first earlier log g = let on = changes_on first earlier log g in
    let lengths = ap length on.1 ∙ length-append (changes first earlier) on.0 in omega arith

-- an element of the first list is one of both at the same place
pub get_left : {A : Type 0} (xs ys : List A) (i : ℕ) (x : A) → slice_get xs i ≡ Some x
    → slice_get (xs ++ ys) i ≡ Some x
get_left [] ys i x e = absurd (cc)
get_left (y ∷ xs) ys zero x e = e
get_left (y ∷ xs) ys (suc i) x e = get_left xs ys i x e

-- the first element of the second list is at the index that is the first list's length
pub get_at : {A : Type 0} (xs ys : List A) (x : A) → slice_get (xs ++ x ∷ ys) (length xs) ≡ Some x
get_at [] ys x = refl
get_at (y ∷ xs) ys x = get_at xs ys x

-- a call that has the reply of the map among some entries has it among more
pub read_on : (m : Map) (xs ys : List Entry) (call : Call) → IsRead m xs call
    → IsRead m (xs ++ ys) call
read_on m xs ys call h = record {
  within = (let a = h.within in let b = length-append xs ys in omega arith);
  reply = h.reply ∙ ap (λ es. reply_to (map_after_entries m es) call.command)
      (sym (take-append-le call.position xs ys h.within));
}

-- ---- what was loaded stays true as the log grows. Serves `laws.searches_go_on`.

-- ---- the log at a length

-- what is left of a log without its newest events is a prefix of it
drop_on : (k : ℕ) (log : Log) → GoesOn (drop k log) log
drop_on zero log = same_log
drop_on (suc k) [] = same_log
drop_on (suc k) (event ∷ log) = one_event event (drop_on k log)

-- the fewer newest events are dropped, the longer the prefix
drop_rises : (a b : ℕ) (log : Log) → b ≤ a → GoesOn (drop a log) (drop b log)
drop_rises a zero log h = drop_on a log
drop_rises zero (suc b) log h = absurd (omega arith)
drop_rises (suc a) (suc b) [] h = same_log
drop_rises (suc a) (suc b) (event ∷ log) h = drop_rises a b log (omega arith)

-- the log at an earlier length is a prefix of it
pub at_on : (log : Log) (n : ℕ) → GoesOn (log_at log n) log
at_on log n = drop_on (length log - n) log

-- with more events it is a longer one
pub at_rises : (log : Log) (m n : ℕ) → m ≤ n → GoesOn (log_at log m) (log_at log n)
at_rises log m n h = drop_rises (length log - m) (length log - n) log (omega arith)

-- a log keeps at each length what it was
pub at_same : (log longer : Log) → GoesOn log longer → (n : ℕ) → n ≤ length log
    → log_at longer n ≡ log_at log n
at_same log _ same_log n h = refl
at_same log _ (one_event {log = rest} event g) n h = let low = goes_on_length g in
    let more : suc (length rest) - n ≡ suc (length rest - n) = omega arith in
    ap (λ k. drop k (event ∷ rest)) more ∙ at_same log rest g n h

-- a prefix is the log at its length
pub at_prefix : (prefix log : Log) → GoesOn prefix log → log_at log (length prefix) ≡ prefix
at_prefix prefix log g = let none : length prefix - length prefix ≡ 0 = omega arith in
    at_same prefix log g (length prefix) (omega arith) ∙ ap (λ k. drop k prefix) none

module _ (pairs : List Pair) (words : ℕ) (log longer : Log) (g : GoesOn log longer) where
  -- a load reports the same in the longer log
  pub load_on : (place least : ℕ) (load : Load) → IsLoad pairs words log place least load
      → IsLoad pairs words longer place least load
  load_on place least load h = record {
    tells =
        subst (λ l. (word : ℕ) → IsShown (state_of pairs words l) load.place word → load.word ≡ word)
        (sym (at_same log longer g load.length h.within)) h.tells;
    place_is = h.place_is;
    since = h.since;
    within = (let low = goes_on_length g in let here = h.within in omega arith);
  }

  -- what a slot's word reads as stays
  pub side_on : (slot : Load) (side last : ℕ) → ReadsSide pairs words log slot side last
      → ReadsSide pairs words longer slot side last
  side_on slot _ _ (no_change plain) = no_change plain
  side_on slot _ _ (by_to base decision side is load said other) =
      by_to base decision side is (load_on _ _ decision load) said (load_on _ _ side other)
  side_on slot _ _ (by_from base decision side is load unsaid other) =
      by_from base decision side is (load_on _ _ decision load) unsaid (load_on _ _ side other)

  -- what a rebuild's word reads as stays
  pub target_on : (least word : ℕ) (ref : Ref) → ReadsTarget pairs words log least word ref
      → ReadsTarget pairs words longer least word ref
  target_on least word _ (no_rebuild ref is plain) = no_rebuild ref is plain
  target_on least word _ (by_target base target is load) =
      by_target base target is (load_on _ _ target load)

  -- a look at a slot is one there too
  pub look_on : (key least last node : ℕ) (ref : Ref)
      → LooksAt pairs words log key least last node ref
      → LooksAt pairs words longer key least last node ref
  look_on key least last node ref h =
      let same = sym (at_same log longer g h.slot.length h.is_load.within) in record {
        slot = h.slot;
        index = h.index;
        index_is =
            subst (λ l. IsChildFor (state_of pairs words l) node key h.index) same h.index_is;
        is_load =
            subst (λ l. IsLoad pairs words longer (place_of_slot (state_of pairs words l) node h.index) least h.slot) same
            (load_on _ _ h.slot h.is_load);
        side = h.side;
        side_is = side_on h.slot h.side last h.side_is;
        ref_is = target_on last h.side ref h.ref_is;
      }

  -- a search that reached a node reached it in the longer log too
  pub come_on : (key began last node : ℕ) → ComesTo pairs words log key began last node
      → ComesTo pairs words longer key began last node
  come_on key began _ _ begins = begins
  come_on key began _ _ (goes_down {least = least} {last = last} {node = node} {child = child} c look) =
      goes_down (come_on key began least node c) (look_on key least last node _ look)

  -- what a leaf gave stays
  value_on : (key least : ℕ) (ref : Ref) (value : Option ℕ)
      → ReadsValue pairs words log key least ref value
      → ReadsValue pairs words longer key least ref value
  value_on key least _ _ of_nothing = of_nothing
  value_on key least _ _ (of_other load is other) = of_other load (load_on _ _ load is) other
  value_on key least _ _ (of_key load value is same at) =
      of_key load value (load_on _ _ load is) same (load_on _ _ value at)

  -- a search that ended, ended so
  pub end_on : (key began node : ℕ) (value : Option ℕ)
      → Searched pairs words log key began node value
      → Searched pairs words longer key began node value
  end_on key began node value h = record {
    least = h.least;
    last = h.last;
    since = (let low = goes_on_length g in let here = h.since in omega arith);
    comes = come_on key began h.least node h.comes;
    ref = h.ref;
    look = look_on key h.least h.last node h.ref h.look;
    value_is = value_on key h.last h.ref value h.value_is;
  }

-- ---- a position of a key in a log is one in each longer log. Serves `positions_go_on`.

-- the map after a number of changes is the same in each longer log
pub map_at_on : (pairs : List Pair) (words : ℕ) (log longer : Log) (position : ℕ)
    → GoesOn log longer → position ≤ length (changes_of pairs words log)
    → map_at (map_of pairs) (changes_of pairs words longer) position
    ≡ map_at (map_of pairs) (changes_of pairs words log) position
map_at_on pairs words log longer position g low =
    let on = changes_on (start pairs words) log longer g in
    ap (λ entries. map_after_entries (map_of pairs) entries)
    (ap (take position) on.1
    ∙ take-append-le position (changes_of pairs words log) on.0 low)

-- so a value that a key had between two logs, it had between an earlier and a longer one
pub position_on : (pairs : List Pair) (words : ℕ) (seen began log longer : Log)
    → GoesOn seen began → GoesOn log longer → (key : ℕ) (value : Option ℕ)
    → HasPosition pairs words began log key value → HasPosition pairs words seen longer key value
position_on pairs words seen began log longer g on key value h =
    grind (arith, le_trans, changes_rise, map_at_on)
