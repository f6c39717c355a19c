-- What each write makes of a row. Serves `laws.rows_grow`.
use Rattle.std.proofs.Common.{◌≡◌, ℕ, zero, suc, ◌==◌, Bool, true, false, if◌then◌else◌, List, [], ◌∷◌, length, slice_get, Some, option_map, refl, sym, ap, ◌∙◌, subst, arith, le_refl}
use Rattle.std.proofs.lemmas.List.{length-set}
use Rattle.std.proofs.lemmas.Bool.Decides.{nat_tests}
use Rattle.ist_core.specs.Types.{LeafRow, InnerRow, ChangeRow, RebuildRow}
use Rattle.ist_core.specs.WordTerms.{child_count, unset_word, undecided, Pieces, Piece, Leaf, Inner, Change, Rebuild, changed_at, with_slot, with_status, counted, with_decision, with_root, drawn, SlotHolds, in_anchor, in_row, IsChildFor, of_anchor, of_row}
use Rattle.ist_core.specs.TreeTerms.{StatusGoesOn, status_stays, is_marked, is_finished, is_closed, InnerGrows, ChangeGrows, RebuildGrows, Grows, leaf_stays, inner_grows, change_grows, rebuild_grows, AllGrow, IsDue}
use Rattle.ist_core.specs.LogTerms.{Snapshot}

-- ---- growing is an order

-- an inner row may stay as it is
inner_same : (r : InnerRow) → InnerGrows r r
inner_same r = grind arith

-- each row may stay as it is
pub grows_same : (p : Piece) → Grows p p
grows_same (Leaf r) = leaf_stays
grows_same (Inner r) = inner_grows (inner_same r)
grows_same (Change r) = change_grows record { decided = λ _. refl; others = refl }
grows_same (Rebuild r) = rebuild_grows record
    { target = refl; parent = refl; index = refl; rooted = λ _. refl; draw = le_refl _ }

-- going on is transitive for statuses
status_on : (a b c : ℕ) → StatusGoesOn a b → StatusGoesOn b c → StatusGoesOn a c
status_on a b c (status_stays h) k = subst (λ x. StatusGoesOn x c) h k
status_on a b c (is_marked h i) (status_stays k) = is_marked h (k ∙ i)
status_on a b c (is_marked h i) (is_marked k l) = absurd (omega arith)
status_on a b c (is_marked h i) (is_finished n k l) = is_closed n h l
status_on a b c (is_marked h i) (is_closed n k l) = absurd (omega arith)
status_on a b c (is_finished n h i) (status_stays k) = is_finished n h (k ∙ i)
status_on a b c (is_finished n h i) (is_marked k l) = absurd (omega arith)
status_on a b c (is_finished n h i) (is_finished m k l) = absurd (omega arith)
status_on a b c (is_finished n h i) (is_closed m k l) = absurd (omega arith)
status_on a b c (is_closed n h i) (status_stays k) = is_closed n h (k ∙ i)
status_on a b c (is_closed n h i) (is_marked k l) = absurd (omega arith)
status_on a b c (is_closed n h i) (is_finished m k l) = absurd (omega arith)
status_on a b c (is_closed n h i) (is_closed m k l) = absurd (omega arith)

inner_on : (a b c : InnerRow) → InnerGrows a b → InnerGrows b c → InnerGrows a c
inner_on a b c h k = let first = h.count in let second = k.count in record {
  status = status_on a.status b.status c.status h.status k.status;
  count = omega arith;
  degree = k.degree ∙ h.degree;
  size = k.size ∙ h.size;
  keys = k.keys ∙ h.keys;
  slots = k.slots ∙ h.slots;
}

change_on : (a b c : ChangeRow) → ChangeGrows a b → ChangeGrows b c → ChangeGrows a c
change_on a b c h k = grind arith

rebuild_on : (a b c : RebuildRow) → RebuildGrows a b → RebuildGrows b c → RebuildGrows a c
rebuild_on a b c h k = grind arith

-- growing is transitive
pub grows_on : (p q r : Piece) → Grows p q → Grows q r → Grows p r
grows_on _ _ _ leaf_stays k = k
grows_on _ _ _ (inner_grows {old = a} {new = b} h) (inner_grows {new = c} k) = inner_grows
    (inner_on a b c h k)
grows_on _ _ _ (change_grows {old = a} {new = b} h) (change_grows {new = c} k) = change_grows
    (change_on a b c h k)
grows_on _ _ _ (rebuild_grows {old = a} {new = b} h) (rebuild_grows {new = c} k) = rebuild_grows
    (rebuild_on a b c h k)

-- ---- what each write makes of a row

-- a row grows if a slot of it is written
pub grows-with_slot : (i word : ℕ) (p : Piece) → Grows p (with_slot i word p)
grows-with_slot i word (Leaf r) = leaf_stays
grows-with_slot i word (Inner r) = inner_grows record {
  status = status_stays refl;
  count = le_refl _;
  degree = refl;
  size = refl;
  keys = refl;
  slots = length-set r.slots i word;
}
grows-with_slot i word (Change r) = grows_same (Change r)
grows-with_slot i word (Rebuild r) = grows_same (Rebuild r)

-- a row grows if a change is counted at it
pub grows-counted : (p : Piece) → Grows p (counted p)
grows-counted (Leaf r) = leaf_stays
grows-counted (Inner r) = inner_grows record {
  status = status_stays refl;
  count = omega arith;
  degree = refl;
  size = refl;
  keys = refl;
  slots = refl;
}
grows-counted (Change r) = grows_same (Change r)
grows-counted (Rebuild r) = grows_same (Rebuild r)

-- a row grows if a part of it is drawn
pub grows-drawn : (p : Piece) → Grows p (drawn p)
grows-drawn (Leaf r) = leaf_stays
grows-drawn (Inner r) = grows_same (Inner r)
grows-drawn (Change r) = grows_same (Change r)
grows-drawn (Rebuild r) = rebuild_grows record
    { target = refl; parent = refl; index = refl; rooted = λ _. refl; draw = omega arith }

-- an inner row grows if its status goes on
pub grows-with_status : (r : InnerRow) (status : ℕ) → StatusGoesOn r.status status
    → Grows (Inner r) (with_status status (Inner r))
grows-with_status r status h = inner_grows record
    { status = h; count = le_refl _; degree = refl; size = refl; keys = refl; slots = refl }

-- a pending change grows if it is decided
pub grows-with_decision : (r : ChangeRow) (decision : ℕ) → r.decision ≡ undecided
    → Grows (Change r) (with_decision decision (Change r))
grows-with_decision r decision e = change_grows record
    { decided = λ set. absurd (set e); others = refl }

-- a rebuild without a root grows if it gets one
pub grows-with_root : (r : RebuildRow) (word : ℕ) → r.root ≡ unset_word
    → Grows (Rebuild r) (with_root word (Rebuild r))
grows-with_root r word e = rebuild_grows record
    { target = refl; parent = refl; index = refl; rooted = λ set. absurd (set e); draw = le_refl _ }

-- ---- all rows

-- rows may stay as they are
pub all_grow_same : (ps : Pieces) → AllGrow ps ps
all_grow_same ps base p e = (p, e, grows_same p)

-- growing is transitive for all rows
pub all_grow_on : (ps qs rs : Pieces) → AllGrow ps qs → AllGrow qs rs → AllGrow ps rs
all_grow_on ps qs rs h k base p e = let first = h base p e in let second = k base first.0 first.1 in
    (second.0, second.1, grows_on p first.0 second.0 first.2 second.2)

-- all rows grow if one row is changed into what it may become
pub all_grow-changed_at : (ps : Pieces) (at : ℕ) (f : Piece → Piece)
    → ((p : Piece) → ps at ≡ Some p → Grows p (f p)) → AllGrow ps (changed_at ps at f)
all_grow-changed_at ps at f grows base p e = here (base == at) refl
  where
    here : (v : Bool) → (base == at) ≡ v
        → (q : Piece) × ((if v then option_map f (ps base) else ps base) ≡ Some q) × Grows p q
    here true same = (
      f p,
      ap (option_map f) e,
      grows p (subst (λ b. ps b ≡ Some p) (let is : base ≡ at = grind (arith, nat_tests) in is) e),
    )
    here false same = (p, e, grows_same p)

-- all rows grow if rows are only added
pub all_grow_added : (ps qs : Pieces)
    → ((base : ℕ) (p : Piece) → ps base ≡ Some p → qs base ≡ Some p) → AllGrow ps qs
all_grow_added ps qs stay base p e = (p, stay base p e, grows_same p)

-- ---- a row of a kind stays one

-- a leaf is still there when all rows have grown
pub leaf_there : (ps qs : Pieces) → AllGrow ps qs → (base : ℕ) (r : LeafRow)
    → ps base ≡ Some (Leaf r) → qs base ≡ Some (Leaf r)
leaf_there ps qs g base r e = grind arith

-- an inner row is still there when all rows have grown, possibly grown
pub inner_there : (ps qs : Pieces) → AllGrow ps qs → (base : ℕ) (r : InnerRow)
    → ps base ≡ Some (Inner r) → (s : InnerRow) × (qs base ≡ Some (Inner s)) × InnerGrows r s
inner_there ps qs g base r e = at (g base (Inner r) e).0 (g base (Inner r) e).1
    (g base (Inner r) e).2
  where
    at : (q : Piece) → qs base ≡ Some q → Grows (Inner r) q
        → (s : InnerRow) × (qs base ≡ Some (Inner s)) × InnerGrows r s
    at _ i (inner_grows {new = s} h) = (s, i, h)

-- a change is still there when all rows have grown, possibly decided
pub change_there : (ps qs : Pieces) → AllGrow ps qs → (base : ℕ) (r : ChangeRow)
    → ps base ≡ Some (Change r) → (s : ChangeRow) × (qs base ≡ Some (Change s)) × ChangeGrows r s
change_there ps qs g base r e = grind arith

-- a rebuild is still there when all rows have grown, possibly with a root and more draws
pub rebuild_there : (ps qs : Pieces) → AllGrow ps qs → (base : ℕ) (r : RebuildRow)
    → ps base ≡ Some (Rebuild r)
    → (s : RebuildRow) × (qs base ≡ Some (Rebuild s)) × RebuildGrows r s
rebuild_there ps qs g base r e = grind arith

-- ---- slots and children

-- a list of the same length has an element at each index at which the other has one
pub get_alike : (xs ys : List ℕ) (i x : ℕ) → length ys ≡ length xs → slice_get xs i ≡ Some x
    → (y : ℕ) × (slice_get ys i ≡ Some y)
get_alike [] ys i x e at = absurd (cc)
get_alike (a ∷ xs) [] i x e at = absurd (omega arith)
get_alike (a ∷ xs) (b ∷ ys) zero x e at = (b, refl)
get_alike (a ∷ xs) (b ∷ ys) (suc i) x e at = get_alike xs ys i x (omega arith) at

-- a slot is still one when all rows have grown, possibly with another word
pub slot_remains : (t u : Snapshot) → AllGrow t.pieces u.pieces → (node i word : ℕ)
    → SlotHolds t node i word → (w : ℕ) × SlotHolds u node i w
slot_remains t u g node i word (in_anchor a b e) = (u.anchor, in_anchor a b refl)
slot_remains t u g node i word (in_row r e at) =
    let it = inner_there t.pieces u.pieces g node r e in
    let w = get_alike r.slots it.0.slots i word it.2.slots at in (w.0, in_row it.0 it.1 w.1)

-- the child for a key is still the same when all rows have grown
pub child_remains : (t u : Snapshot) → AllGrow t.pieces u.pieces → (node key i : ℕ)
    → IsChildFor t node key i → IsChildFor u node key i
child_remains t u g node key i (of_anchor a b) = of_anchor a b
child_remains t u g node key i (of_row r e f) = let it = inner_there t.pieces u.pieces g node r e in
    of_row it.0 it.1 (f ∙ ap (λ keys. child_count keys key) (sym it.2.keys))

-- a row that is due is due as it grows
pub due_later : (old new : InnerRow) → InnerGrows old new → IsDue old → IsDue new
due_later old new g due = grind arith
