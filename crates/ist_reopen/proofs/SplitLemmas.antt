-- The calls of a pass at one position: readings first, and then the change there. Serves
-- `laws.histories_are_made_of_calls`.
use Rattle.std.proofs.Common.{◌≡◌, ◌≢◌, ◌⊎◌, ℕ, ◌+◌, ◌≤◌, ◌==◌, not, if◌then◌else◌, Bool, true, false, List, [], ◌∷◌, ◌++◌, filter, refl, ap, inl, inr, arith, ◌<◌, map, sym, subst, ◌∙◌}
use Rattle.std.proofs.lemmas.Bool.Decides.{nat_tests, eqb_tells}
use Rattle.ist_core.specs.declared.calls.Call.{Call}
use Rattle.ist_core.specs.LogTerms.{Each, Reading, comes_first, put_in, in_order, at_position, told_by_entry, told_by_reading, woven_from}
use Rattle.ist_core.specs.TreeTerms.{is_change, position_after, Follows, AllFollow, Entry}
use Rattle.std.proofs.lemmas.List.{map-append}
use Rattle.std.proofs.lemmas.List.Elements.{filter-append}
use Rattle.ist_reopen.specs.Interleaving.{Owned, told_to_pass}

module _ (number : ℕ) where
  -- the call as a reading of this pass
  abbrev pub read_by : Call → Reading
  read_by call = record { number = number; call = call }

  -- the readings among the calls at a position
  abbrev pub reads_at : ℕ → List Call → List Call
  reads_at position calls =
      filter (λ call. call.position == position) (filter (λ call. not (is_change call)) calls)

  -- ---- the calls at one position

  -- what is left after the readings at a position: later calls, or the change there and later calls
  pub data Rest (position : ℕ) : List Call → Type 0 where
    later : {calls : List Call} → Each (λ call. position + 1 ≤ call.position) calls
        → Rest position calls
    changes : {calls : List Call} (call : Call) → is_change call ≡ true
        → call.position ≡ position → Each (λ other. position + 1 ≤ other.position) calls
        → Rest position (call ∷ calls)

  -- the readings at a position come first
  pub record Splits (position : ℕ) (calls : List Call) : Type 0 where
    pub here : List Call
    pub rest : List Call
    pub is : calls ≡ here ++ rest
    pub reads : Each (λ call. (is_change call ≡ false) × (call.position ≡ position)) here
    pub following : Rest position rest

  -- calls that follow one that is at a position or later, or past a change there, are later
  all_later : (position : ℕ) (call : Call) → position + 1 ≤ position_after call
      → (calls : List Call) → Each (Follows call) calls
      → Each (λ other. position + 1 ≤ other.position) calls
  all_later position call low [] h = tt
  all_later position call low (other ∷ calls) h =
      (let past = h.0.position in omega arith, all_later position call low calls h.1)

  -- a call that isn't before the position is a reading there, the change there, or later
  pub splits : (position : ℕ) (calls : List Call) → AllFollow calls
      → Each (λ call. position ≤ call.position) calls → Splits position calls
  splits position [] order low =
      record { here = []; rest = []; is = refl; reads = tt; following = later tt }
  splits position (call ∷ calls) order low =
      at (splits position calls order.1 low.1) (eqb_tells call.position position) (is_change call) refl
    where
      at : Splits position calls
          → (((call.position == position) ≡ true) × (call.position ≡ position))
          ⊎ (((call.position == position) ≡ false) × (call.position ≢ position))
          → (v : Bool) → is_change call ≡ v → Splits position (call ∷ calls)
      at s (inl e) false f = record {
        here = call ∷ s.here;
        rest = s.rest;
        is = ap (λ cs. call ∷ cs) s.is;
        reads = ((f, e.1), s.reads);
        following = s.following;
      }
      at s (inl e) true f = record {
        here = [];
        rest = call ∷ calls;
        is = refl;
        reads = tt;
        following = changes call f e.1
            (all_later position call
            (let is = e.1 in rw f (omega arith)) calls order.0);
      }
      at s (inr e) v f =
          let above : position + 1 ≤ call.position
          = (let l = low.0 in let n = e.1 in grind arith) in
          let past : call.position ≤ position_after call
          = elim (is_change call) as (λ b. call.position ≤ (if b then call.position + 1 else call.position)) [
            | true ↦ omega arith
            | false ↦ omega arith
          ] in
          record {
            here = [];
            rest = call ∷ calls;
            is = refl;
            reads = tt;
            following = later (above, all_later position call (omega arith) calls order.0);
          }

  -- ---- the changes and the readings among the calls

  -- readings are no changes
  pub here_changes : (position : ℕ) (here rest : List Call)
      → Each (λ call. (is_change call ≡ false) × (call.position ≡ position)) here
      → filter is_change (here ++ rest) ≡ filter is_change rest
  here_changes position [] rest h = refl
  here_changes position (call ∷ here) rest h = rw h.0.0 (here_changes position here rest h.1)

  -- later calls have no readings here
  none_later : (position : ℕ) (calls : List Call)
      → Each (λ call. position + 1 ≤ call.position) calls → reads_at position calls ≡ []
  none_later position [] h = refl
  none_later position (call ∷ calls) h = at (none_later position calls h.1) (is_change call) refl
    where
      at : reads_at position calls ≡ [] → (v : Bool) → is_change call ≡ v
          → reads_at position (call ∷ calls) ≡ []
      at rest true e = rw e rest
      at rest false e = grind (arith, nat_tests)

  -- nor has what is left after them
  none_left : (position : ℕ) (rest : List Call) → Rest position rest → reads_at position rest ≡ []
  none_left position rest (later h) = none_later position rest h
  none_left position _ (changes {calls = calls} call e same h) = rw e (none_later position calls h)

  -- the readings at the position are the first calls
  pub here_reads : (position : ℕ) (here rest : List Call)
      → Each (λ call. (is_change call ≡ false) × (call.position ≡ position)) here
      → Rest position rest → reads_at position (here ++ rest) ≡ here
  here_reads position [] rest h r = none_left position rest r
  here_reads position (call ∷ here) rest h r = let same = h.0.1 in
      let is : (call.position == position) ≡ true = grind (arith, nat_tests) in
      rw h.0.0 (rw is (ap (λ cs. call ∷ cs) (here_reads position here rest h.1 r)))

  -- and at later positions they are those of the rest
  pub other_reads : (position other : ℕ) → position + 1 ≤ other → (here rest : List Call)
      → Each (λ call. (is_change call ≡ false) × (call.position ≡ position)) here
      → reads_at other (here ++ rest) ≡ reads_at other rest
  other_reads position other low [] rest h = refl
  other_reads position other low (call ∷ here) rest h = let same = h.0.1 in
      let no : (call.position == other) ≡ false = grind (arith, nat_tests) in
      rw h.0.0 (rw no (other_reads position other low here rest h.1))

-- ---- the woven history, with the owner of each call: what one pass made of it. Serves
-- `laws.histories_are_made_of_calls`.

-- an entry with its owner
abbrev pub own_entry : Entry → Owned
own_entry e = record { owner = e.owner; told = told_by_entry e }

-- a reading with its owner
abbrev pub own_reading : Reading → Owned
own_reading x = record { owner = x.number; told = told_by_reading x }

-- the woven history from a position on, with owners
abbrev pub owned_from : ℕ → List Entry → List Reading → List Owned
owned_from position [] xs = map own_reading (at_position position xs)
owned_from position (entry ∷ entries) xs = map own_reading (at_position position xs)
    ++ (own_entry entry ∷ owned_from (position + 1) entries xs)

-- without owners readings are what they tell
told_readings : (xs : List Reading) → map (λ x. x.told) (map own_reading xs) ≡ map told_by_reading xs
told_readings [] = refl
told_readings (x ∷ xs) = ap (λ ys. told_by_reading x ∷ ys) (told_readings xs)

-- and the history is the woven one
pub told_owned : (position : ℕ) (entries : List Entry) (xs : List Reading)
    → map (λ x. x.told) (owned_from position entries xs) ≡ woven_from position entries xs
told_owned position [] xs = told_readings (at_position position xs)
told_owned position (entry ∷ entries) xs =
    map-append (λ x. x.told) (map own_reading (at_position position xs))
    (own_entry entry ∷ owned_from (position + 1) entries xs)
    ∙ ap (λ ys. ys ++ (told_by_entry entry ∷ map (λ x. x.told) (owned_from (position + 1) entries xs)))
    (told_readings (at_position position xs))
    ∙ ap (λ ys. map told_by_reading (at_position position xs) ++ (told_by_entry entry ∷ ys))
    (told_owned (position + 1) entries xs)

-- what a pass was told in two parts
pub told_to-append : (number : ℕ) (xs ys : List Owned)
    → told_to_pass number (xs ++ ys) ≡ told_to_pass number xs ++ told_to_pass number ys
told_to-append number xs ys = grind (arith, filter-append, map-append)

-- the readings of the pass with this number
abbrev pub mine : ℕ → List Reading → List Reading
mine number xs = filter (λ x. x.number == number) xs

-- what a pass was told by the readings at a position
pub told_at_position : (number position : ℕ) (xs : List Reading)
    → told_to_pass number (map own_reading (at_position position xs))
    ≡ map told_by_reading (at_position position (mine number xs))
told_at_position number position [] = refl
told_at_position number position (x ∷ xs) =
    grind (arith, nat_tests, told_at_position number position xs)

-- ---- the readings of one pass, in order

-- the stamps rise
abbrev pub StampsClimb : List Reading → Type 0
StampsClimb [] = Unit {0}
StampsClimb (x ∷ xs) = Each (λ y. x.call.stamp < y.call.stamp) xs × StampsClimb xs

-- a lower stamp comes first
low_first : (x y : Reading) → x.call.stamp < y.call.stamp → comes_first x y ≡ true
low_first x y low = grind (arith, nat_tests)

-- a reading of another pass is put in, and those of this pass stay
put_other : (number : ℕ) (x : Reading) → (x.number == number) ≡ false → (ys : List Reading)
    → mine number (put_in x ys) ≡ mine number ys
put_other number x e [] = rw e refl
put_other number x e (y ∷ ys) = at (put_other number x e ys) (comes_first x y)
  where
    at : mine number (put_in x ys) ≡ mine number ys → (v : Bool)
        → mine number (if v then x ∷ y ∷ ys else y ∷ put_in x ys) ≡ mine number (y ∷ ys)
    at rest true = rw e refl
    at rest false = ap (λ zs. if y.number == number then y ∷ zs else zs) rest

-- a reading of this pass with a lower stamp than its others becomes its first
put_mine : (number : ℕ) (x : Reading) → (x.number == number) ≡ true → (ys : List Reading)
    → Each (λ y. x.call.stamp < y.call.stamp) (mine number ys)
    → mine number (put_in x ys) ≡ x ∷ mine number ys
put_mine number x e [] h = rw e refl
put_mine number x e (y ∷ ys) h = at (y.number == number) refl (comes_first x y) refl
    (λ k. put_mine number x e ys k)
  where
    at : (mineis : Bool) → (y.number == number) ≡ mineis → (v : Bool) → comes_first x y ≡ v
        → (Each (λ z. x.call.stamp < z.call.stamp) (mine number ys)
        → mine number (put_in x ys) ≡ x ∷ mine number ys)
        → mine number (if v then x ∷ y ∷ ys else y ∷ put_in x ys) ≡ x ∷ mine number (y ∷ ys)
    at mineis f true g rest = rw e refl
    at true f false g rest =
        let low : Each (λ z. x.call.stamp < z.call.stamp) (y ∷ mine number ys) = rw f at h in
        let first = low_first x y low.0 in absurd (cc)
    at false f false g rest =
        let low : Each (λ z. x.call.stamp < z.call.stamp) (mine number ys) = rw f at h in
        rw f (rest low)

-- in order the readings of a pass stay as they were
pub in_order_mine : (number : ℕ) (xs : List Reading) → StampsClimb (mine number xs)
    → mine number (in_order xs) ≡ mine number xs
in_order_mine number [] h = refl
in_order_mine number (x ∷ xs) h = at (x.number == number) refl (λ k. in_order_mine number xs k)
  where
    at : (v : Bool) → (x.number == number) ≡ v
        → (StampsClimb (mine number xs) → mine number (in_order xs) ≡ mine number xs)
        → mine number (put_in x (in_order xs)) ≡ mine number (x ∷ xs)
    at true e rest = let climb : StampsClimb (x ∷ mine number xs) = rw e at h in
        let same = rest climb.1 in
        let split : mine number (x ∷ xs) ≡ x ∷ mine number xs = rw e refl in
        put_mine number x e (in_order xs)
        (subst (Each (λ y. x.call.stamp < y.call.stamp)) (sym same) climb.0)
        ∙ ap (λ ys. x ∷ ys) same ∙ sym split
    at false e rest = let climb : StampsClimb (mine number xs) = rw e at h in
        let split : mine number (x ∷ xs) ≡ mine number xs = rw e refl in
        put_other number x e (in_order xs) ∙ rest climb ∙ sym split
