-- A list of calls that belongs to the entries of a log, from one entry on. Serves
-- `laws.lists_answer_alone`.
use Rattle.std.proofs.Common.{◌≡◌, ◌≢◌, ℕ, suc, ◌+◌, ◌-◌, ◌≤◌, ◌⊎◌, ◌==◌, if◌then◌else◌, Bool, true, false, List, [], ◌∷◌, filter, length, slice_get, Some, refl, ap, inl, inr, arith}
use Rattle.std.proofs.lemmas.Bool.Decides.{eqb_tells}
use Rattle.ist_core.specs.declared.calls.Call.{Call}
use Rattle.ist_core.specs.TreeTerms.{Map, map_after, reply_to, Entry, map_at, is_change, entry_by, entries_by, position_after, Follows, AllFollow, StandAmong}
use Rattle.ist_core.specs.LogTerms.{Among}
use Rattle.ist_core.proofs.AllWordLemmas.{each-among}

-- ---- calls from a position on

-- the calls belong to the entries, the first of which has this position
pub record StandFrom (m : Map) (es : List Entry) (number from : ℕ)
    (calls : List Call) : Type 0 where
  -- no call is before that position
  pub low : (call : Call) → Among call calls → from ≤ call.position
  -- a call that changes the map is the entry at its position
  pub made : (call : Call) (j : ℕ) → Among call calls → is_change call ≡ true
      → call.position ≡ from + j → slice_get es j ≡ Some (entry_by number call)
  -- another call is at a position within the entries, and has the reply of the map there
  pub read : (call : Call) (j : ℕ) → Among call calls → is_change call ≡ false
      → call.position ≡ from + j
      → (j ≤ length es) × (call.reply ≡ reply_to (map_at m es j) call.command)
  pub order : AllFollow calls

-- calls that belong to all entries do so from the first one on
pub stand_from : (m : Map) (es : List Entry) (number : ℕ) (calls : List Call)
    → StandAmong m es number calls → StandFrom m es number 0 calls
stand_from m es number calls s = grind arith

-- the calls after the first one
pub stand_rest : (m : Map) (es : List Entry) (number from : ℕ) (call : Call) (calls : List Call)
    → StandFrom m es number from (call ∷ calls) → StandFrom m es number from calls
stand_rest m es number from call calls s = record {
  low = λ c i. s.low c (inr i);
  made = λ c j i e is. s.made c j (inr i) e is;
  read = λ c j i e is. s.read c j (inr i) e is;
  order = s.order.1;
}

-- calls after the first entry belong to the entries from the next one on
pub stand_after : (m : Map) (e : Entry) (es : List Entry) (number from : ℕ) (calls : List Call)
    → StandFrom m (e ∷ es) number from calls
    → ((call : Call) → Among call calls → from + 1 ≤ call.position)
    → StandFrom (map_after m e.command) es number (from + 1) calls
stand_after m e es number from calls s high = record {
  low = high;
  made = λ c j i x is. s.made c (suc j) i x (omega arith);
  read = λ c j i x is. (let r = s.read c (suc j) i x (omega arith) in let within = r.0 in
      (omega arith, r.1));
  order = s.order;
}

-- if the first call comes after the first entry, all do
pub all_after : (m : Map) (es : List Entry) (number from : ℕ) (call : Call) (calls : List Call)
    → StandFrom m es number from (call ∷ calls) → call.position ≢ from
    → (c : Call) → Among c (call ∷ calls) → from + 1 ≤ c.position
all_after m es number from call calls s differ c (inl e) =
    let low = s.low call (inl refl) in let same = ap (λ x. x.position) e in omega arith
all_after m es number from call calls s differ c (inr i) = let low = s.low call (inl refl) in
    let f = each-among (λ x. Follows call x) c calls s.order.0 i in let later = position_up call in
    let position = f.position in omega arith
  where
    position_up : (x : Call) → x.position ≤ position_after x
    position_up x = grind arith

-- after a call that makes the first entry, all come after that entry
pub rest_after : (m : Map) (es : List Entry) (number from : ℕ) (call : Call) (calls : List Call)
    → StandFrom m es number from (call ∷ calls) → is_change call ≡ true
    → (c : Call) → Among c calls → from + 1 ≤ c.position
rest_after m es number from call calls s changes c i = let low = s.low call (inl refl) in
    let f = each-among (λ x. Follows call x) c calls s.order.0 i in
    let following : position_after call ≡ call.position + 1 = rw changes refl in
    let position = f.position in omega arith

-- a call that changes the map, at the first entry, makes it
pub first_made : (m : Map) (e : Entry) (es : List Entry) (number from : ℕ) (call : Call)
    (calls : List Call) → StandFrom m (e ∷ es) number from (call ∷ calls) → is_change call ≡ true
    → call.position ≡ from → e ≡ entry_by number call
first_made m e es number from call calls s changes same =
    let made : slice_get (e ∷ es) 0 ≡ Some (entry_by number call)
    = s.made call 0 (inl refl) changes (omega arith) in cc

-- ---- as many changing calls as entries

-- the entries of an owner, with one of its own added in front
pub own_entry : (number : ℕ) (e : Entry) (es : List Entry) → e.owner ≡ number
    → entries_by number (e ∷ es) ≡ e ∷ entries_by number es
own_entry number e es own = grind (arith, eqb_tells)

-- the entries of an owner, with one of another owner added in front
pub other_entry : (number : ℕ) (e : Entry) (es : List Entry) → e.owner ≢ number
    → entries_by number (e ∷ es) ≡ entries_by number es
other_entry number e es other = grind (arith, eqb_tells)

-- one more entry doesn't reduce an owner's entries
pub entries_more : (number : ℕ) (e : Entry) (es : List Entry)
    → length (entries_by number es) ≤ length (entries_by number (e ∷ es))
entries_more number e es = grind arith

-- the two results of a test of two numbers
abbrev pub TestsAs : ℕ → ℕ → Type 0
TestsAs x y = (((x == y) ≡ true) × (x ≡ y)) ⊎ (((x == y) ≡ false) × (x ≢ y))

-- after the last entry no call changes the map
pub few_none : (number : ℕ) (m : Map) (from : ℕ) (calls : List Call)
    → StandFrom m [] number from calls → length (filter is_change calls) ≤ 0
few_none number m from [] s = omega arith
few_none number m from (call ∷ calls) s = at (is_change call) refl
    (few_none number m from calls (stand_rest m [] number from call calls s))
  where
    nowhere : (p : ℕ) → ((j : ℕ) → p ≡ from + j → slice_get [] j ≡ Some (entry_by number call))
        → from ≤ p → ⊥
    nowhere p none low = let made = none (p - from) (omega arith) in cc

    at : (v : Bool) → is_change call ≡ v → length (filter is_change calls) ≤ 0
        → length (if v then call ∷ filter is_change calls else filter is_change calls) ≤ 0
    at false e rest = rest
    at true e rest = absurd
        (nowhere call.position (λ j is. s.made call j (inl refl) e is) (s.low call (inl refl)))

-- at an entry the calls there come first, and then the calls after it
few_step : (number : ℕ) (e : Entry) (es : List Entry) (m : Map) (from : ℕ)
    → ((calls : List Call) → StandFrom (map_after m e.command) es number (from + 1) calls
    → length (filter is_change calls) ≤ length (entries_by number es))
    → (calls : List Call) → StandFrom m (e ∷ es) number from calls
    → length (filter is_change calls) ≤ length (entries_by number (e ∷ es))
few_step number e es m from later [] s = omega arith
few_step number e es m from later (call ∷ calls) s =
    at (eqb_tells call.position from) (is_change call) refl
    (few_step number e es m from later calls (stand_rest m (e ∷ es) number from call calls s))
  where
    at : TestsAs call.position from → (v : Bool) → is_change call ≡ v
        → length (filter is_change calls) ≤ length (entries_by number (e ∷ es))
        → length (if v then call ∷ filter is_change calls else filter is_change calls)
        ≤ length (entries_by number (e ∷ es))
    at (inl same) false c rest = rest
    at (inl same) true c rest = let first = first_made m e es number from call calls s c same.1 in
        let long = ap length (own_entry number e es (ap (λ x. x.owner) first)) in
        let few =
        later calls (stand_after m e es number from calls
        (stand_rest m (e ∷ es) number from call calls s)
        (rest_after m (e ∷ es) number from call calls s c)) in
        omega arith
    at (inr differ) v c rest =
        let few =
        later (call ∷ calls) (stand_after m e es number from (call ∷ calls) s
        (all_after m (e ∷ es) number from call calls s differ.1)) in
        let more = entries_more number e es in
        let same : filter is_change (call ∷ calls) ≡
        (if v then call ∷ filter is_change calls else filter is_change calls) = rw c refl in
        let long = ap length same in omega arith

-- there are at most as many changing calls as entries of their owner
pub changing_few : (number : ℕ) (es : List Entry) (m : Map) (from : ℕ) (calls : List Call)
    → StandFrom m es number from calls
    → length (filter is_change calls) ≤ length (entries_by number es)
changing_few number [] m from calls s = few_none number m from calls s
changing_few number (e ∷ es) m from calls s = few_step number e es m from
    (λ cs t. changing_few number es (map_after m e.command) (from + 1) cs t) calls s
