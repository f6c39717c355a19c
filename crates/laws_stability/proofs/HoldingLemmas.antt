-- What a caller holds stays while others make events. Serves each clause on events that take held
-- rows.
use Rattle.std.proofs.Common.{Some, ap, arith, if◌then◌else◌, length, slice_get, subst, ℕ, ◌+◌, ◌∙◌, ◌≡◌, ◌≢◌, List, Bool, [], false, filter, inr, map, not, refl, sym, true, ◌++◌, ◌==◌, ◌∷◌, None}
use Rattle.std.proofs.lemmas.Bool.Decides.{eqb_tells}
use Rattle.ist_core.specs.declared.pairs.Pair.{Pair}
use Rattle.ist_core.specs.declared.states.InnerRow.{InnerRow}
use Rattle.ist_core.specs.declared.events.Event.{Event}
use Rattle.ist_core.specs.declared.events.Event.TheVariants.{Install, Lose, Place, Reserve, Resolve, Root}
use Rattle.ist_core.specs.declared.events.Who.TheVariants.{Caller}
use Rattle.ist_core.specs.declared.lists.HeldRow.{HeldRow}
use Rattle.ist_core.specs.declared.lists.Row.{Row}
use Rattle.ist_core.specs.LogTerms.{EachEnabled, state_of, Log, IsShown, Among, Enabled, state, HoldsRow, HoldsRows, Snapshot, bases_of, sizes_held, without, Later, whose, no_more, one_more, GoesOn}
use Rattle.ist_core.specs.Naming.{HasDegree}
use Rattle.ist_core.specs.WordTerms.{Inner, words_of, anchor, SlotHolds, in_anchor, in_row, start, slot_place}
use Rattle.ist_core.specs.TreeTerms.{place_of_slot, HoldsSizes, AllGrow, Touch, touch_of}
use Rattle.ist_core.proofs.AllPlaceLemmas.{get-words_of_slot, anchor_free, shaped, no_row}
use Rattle.ist_core.proofs.AllLogLemmas.{anchor_word, row_word, rows_holder, lost_holder, held-resolved, enabled_before, grow_between, inner_there, get_alike}
use Rattle.std.specs.List.{list_any}
use Rattle.std.proofs.lemmas.Bool.{not-false, ne_eqb}
use Rattle.ist_core.proofs.AllWordLemmas.{among-filter, among_filter, same_inner}
use Rattle.ist_core.proofs.AllEventLemmas.{HeldLieApart, among_bases}
use Rattle.laws_links.proofs.InductionLemmas.{sound_after}
use Rattle.laws_stability.specs.Words.{FindsItsWord}

-- ---- which word a lawful state has in the slot of a node. Serves each clause about an event's word.

module _ (pairs : List Pair) (words : ℕ) (log : Log)
    (enabled : EachEnabled (start pairs words) log) where
  -- the place of a slot
  slot_at : (node i : ℕ) (r : InnerRow) → (state_of pairs words log).pieces node ≡ Some (Inner r)
      → place_of_slot (state_of pairs words log) node i ≡ node + (3 + r.degree + i)
  slot_at node i r e = grind (arith, no_row, anchor_free, eqb_tells)

  -- the word of a slot is shown at its place
  pub slot_word : (node i w : ℕ) → SlotHolds (state_of pairs words log) node i w → (v : ℕ)
      → IsShown (state_of pairs words log) (place_of_slot (state_of pairs words log) node i) v
      → v ≡ w
  slot_word node i w (in_anchor a b e) v has = grind (arith, anchor_word)
  slot_word node i w (in_row r e g) v has =
      let degree : HasDegree r = shaped pairs words log enabled node (Inner r) e in
      let keys = degree.keys in let same : 4 + length r.keys + i ≡ 3 + r.degree + i = omega arith in
      row_word pairs words log enabled node (3 + r.degree + i) w (Inner r) e
      (subst (λ k. slice_get (words_of (Inner r)) k ≡ Some w) same (get-words_of_slot r i ∙ g))
      _ v has (slot_at node i r e)

-- ---- who holds a held row

-- ---- lists

-- a filter keeps what it kept if another filter takes away only what it doesn't keep
filter_kept : {A : Type 0} (p q : A → Bool) (xs : List A)
    → ((x : A) → Among x xs → q x ≡ false → p x ≡ false) → filter p (filter q xs) ≡ filter p xs
filter_kept p q [] out = refl
filter_kept {A} p q (x ∷ xs) out = at (q x) refl (filter_kept p q xs (λ y i e. out y (inr i) e))
  where
    at : (v : Bool) → q x ≡ v → filter p (filter q xs) ≡ filter p xs
        → filter p (if v then x ∷ filter q xs else filter q xs)
        ≡ (if p x then x ∷ filter p xs else filter p xs)
    at true e rest = ap (λ ys. if p x then x ∷ ys else ys) rest
    at false e rest = grind arith

-- a filter drops a last element that it doesn't keep
filter_last : {A : Type 0} (p : A → Bool) (xs : List A) (x : A) → p x ≡ false
    → filter p (xs ++ x ∷ []) ≡ filter p xs
filter_last p [] x e = ap (λ b. if b then x ∷ [] else []) e
filter_last p (y ∷ xs) x e = ap (λ ys. if p y then y ∷ ys else ys) (filter_last p xs x e)

-- ---- what others leave

-- the rows of a caller are none of those at these bases, which are another's
own_kept : (t : Snapshot) (number caller : ℕ) (bases : List ℕ) → caller ≢ number
    → ((h : HeldRow) → Among h t.held → Among h.base bases → h.caller ≡ caller)
    → filter (λ h. h.caller == number) (without bases t.held) ≡ filter
    (λ h. h.caller == number) t.held
own_kept t number caller bases other holder =
    filter_kept (λ h. h.caller == number) (λ h. not (list_any (λ base. base == h.base) bases))
    t.held
    (λ h i out.
    let at = holder h i
    (among_bases h.base bases (not-false (list_any (λ base. base == h.base) bases) out)) in
    ne_eqb h.caller number (λ e. other (sym at ∙ e)))

-- an event of another leaves what a caller holds, in its order
own_step : (first : Snapshot) (log : Log) (event : Event) → Enabled first log event
    → HeldLieApart (state first log) → (number : ℕ) → whose event ≢ Caller number
    → filter (λ h. h.caller == number) (state first (event ∷ log)).held
    ≡ filter (λ h. h.caller == number) (state first log).held
own_step first log (Install caller change rows) can s number other =
    own_kept (state first log) number caller (bases_of rows) (λ e. other (ap Caller e))
    (rows_holder (state first log) caller rows s can.held)
own_step first log (Root caller rebuild word rows) can s number other =
    own_kept (state first log) number caller (bases_of rows) (λ e. other (ap Caller e))
    (rows_holder (state first log) caller rows s can.held)
own_step first log (Place caller rebuild part word rows) can s number other =
    own_kept (state first log) number caller (bases_of rows) (λ e. other (ap Caller e))
    (rows_holder (state first log) caller rows s can.held)
own_step first log (Lose caller bases) can s number other =
    own_kept (state first log) number caller bases (λ e. other (ap Caller e))
    (lost_holder (state first log) log caller bases s can)
own_step first log (Reserve caller base size) can s number other =
    grind (arith, filter_last, ne_eqb)
own_step first log (Resolve caller change) can s number other = grind (arith, held-resolved)
own_step first log _ can s number other = refl

module _ (pairs : List Pair) (words : ℕ) (number : ℕ) where
  -- all events of others leave the rows that a caller holds
  own_later : {earlier log : Log} → Later (Caller number) earlier log
      → EachEnabled (start pairs words) log
      → filter (λ h. h.caller == number) (state_of pairs words log).held
      ≡ filter (λ h. h.caller == number) (state_of pairs words earlier).held
  own_later no_more h = refl
  own_later (one_more {log = log} event later other) h =
      own_step (start pairs words) log event h.1 (sound_after pairs words log h.0) number other
      ∙ own_later later h.0

  -- the sizes that a caller holds stay
  pub sizes_later : {earlier log : Log} → Later (Caller number) earlier log
      → EachEnabled (start pairs words) log
      → sizes_held (state_of pairs words log) number ≡ sizes_held
      (state_of pairs words earlier) number
  sizes_later later h = ap (map (λ row. row.size)) (own_later later h)

  -- a row that a caller holds stays held
  pub holds_later : {earlier log : Log} → Later (Caller number) earlier log
      → EachEnabled (start pairs words) log → (base size : ℕ)
      → HoldsRow (state_of pairs words earlier) number base size
      → HoldsRow (state_of pairs words log) number base size
  holds_later {earlier = earlier} {log = log} later h base size i =
      grind (arith, eqb_tells, among-filter, own_later, among_filter)

  -- rows that a caller holds stay held
  pub rows_later : {earlier log : Log} → Later (Caller number) earlier log
      → EachEnabled (start pairs words) log → (rows : List Row)
      → HoldsRows (state_of pairs words earlier) number rows
      → HoldsRows (state_of pairs words log) number rows
  rows_later later h [] held = tt
  rows_later later h (row ∷ rows) held =
      (holds_later later h row.base (length row.words) held.0, rows_later later h rows held.1)

  -- rows that a caller holds, given by their bases and sizes, stay held
  pub bases_later : {earlier log : Log} → Later (Caller number) earlier log
      → EachEnabled (start pairs words) log → (bases sizes : List ℕ)
      → HoldsSizes (state_of pairs words earlier) number bases sizes
      → HoldsSizes (state_of pairs words log) number bases sizes
  bases_later later h [] [] held = tt
  bases_later later h [] (size ∷ sizes) held = absurd held
  bases_later later h (base ∷ bases) [] held = absurd held
  bases_later later h (base ∷ bases) (size ∷ sizes) held =
      (holds_later later h base size held.0, bases_later later h bases sizes held.1)

-- ---- the slots of a node, and its place, stay; what a slot holds is what the state has at its place.
-- Serves each clause on an event of a slot.

-- the word of an event, if its touch is known
pub finds : (t u : Snapshot) (event : Event) (a : Touch) → touch_of t event ≡ Some a
    → FindsItsWord t u event → IsShown u a.place a.found
finds t u event a is f = grind arith

-- if there is a row at the node, the place of its slot depends on the degree
pub place_of_row : (t : Snapshot) (node i : ℕ) (r : InnerRow) → t.pieces anchor ≡ None
    → t.pieces node ≡ Some (Inner r) → place_of_slot t node i ≡ slot_place node r.degree i
place_of_row t node i r free e = grind (arith, no_row, eqb_tells)

-- what slot i of a row holds
pub slot_of_row : (t : Snapshot) (node i word : ℕ) (r : InnerRow) → t.pieces anchor ≡ None
    → t.pieces node ≡ Some (Inner r) → SlotHolds t node i word → slice_get r.slots i ≡ Some word
slot_of_row t node i word r free e (in_anchor a b c) = absurd (no_row t.pieces node r free a e)
slot_of_row t node i word r free e (in_row s f at) = grind (arith, same_inner)

module _ (pairs : List Pair) (words : ℕ) (earlier log : Log) (on : GoesOn earlier log)
    (h : EachEnabled (start pairs words) log) where
  grows : AllGrow (state_of pairs words earlier).pieces (state_of pairs words log).pieces
  grows = grow_between pairs words earlier log h on

  -- a slot keeps its place
  pub place_later : (node i word : ℕ) → SlotHolds (state_of pairs words earlier) node i word
      → place_of_slot (state_of pairs words log) node i ≡ place_of_slot
      (state_of pairs words earlier) node i
  place_later node i word (in_anchor a b c) = grind arith
  place_later node i word (in_row r e at) =
      let it = inner_there (state_of pairs words earlier).pieces
      (state_of pairs words log).pieces grows node r e in
      let old = enabled_before (start pairs words) earlier log on h in
      place_of_row (state_of pairs words log) node i it.0 (anchor_free pairs words log h) it.1
      ∙ ap (λ d. slot_place node d i) it.2.degree
      ∙ sym (place_of_row (state_of pairs words earlier) node i r
      (anchor_free pairs words earlier old) e)

  -- a slot that held a word holds one in the longer log
  slot_stays : (node i word : ℕ) → SlotHolds (state_of pairs words earlier) node i word
      → (v : ℕ) × SlotHolds (state_of pairs words log) node i v
  slot_stays node i word (in_anchor a b c) = ((state_of pairs words log).anchor, in_anchor a b refl)
  slot_stays node i word (in_row r e at) =
      let it = inner_there (state_of pairs words earlier).pieces
      (state_of pairs words log).pieces grows node r e in
      let v = get_alike r.slots it.0.slots i word it.2.slots at in (v.0, in_row it.0 it.1 v.1)

  -- what a slot holds is the word that the state has at this place
  pub slot_later : (node i word : ℕ) → SlotHolds (state_of pairs words earlier) node i word
      → (now : ℕ) → IsShown (state_of pairs words log)
      (place_of_slot (state_of pairs words earlier) node i) now
      → SlotHolds (state_of pairs words log) node i now
  slot_later node i word holds now has = let it = slot_stays node i word holds in
      let there = subst (λ p. IsShown (state_of pairs words log) p now)
      (sym (place_later node i word holds)) has in
      subst (λ w. SlotHolds (state_of pairs words log) node i w)
      (sym (slot_word pairs words log h node i it.0 it.1 now there)) it.1
