-- Loads that are events may be made as their conditions say. Serves `load_okay`, `load_pass` and
-- `load_past`.
use Rattle.std.proofs.Common.{◌≡◌, ◌≢◌, ℕ, zero, suc, List, [], ◌∷◌, length, Some, refl, sym, ap, ◌∙◌, subst, ⊎_elim, ◌+◌, ◌==◌, not, Bool, true, false, if◌then◌else◌, slice_get, Option, None, arith}
use Rattle.ist_core.specs.declared.pairs.Pair.{Pair}
use Rattle.ist_core.specs.declared.lists.HeldRow.{HeldRow}
use Rattle.ist_core.specs.declared.states.ChangeRow.{ChangeRow}
use Rattle.ist_core.specs.declared.events.Event.{Event}
use Rattle.ist_core.specs.declared.events.Event.TheVariants.{Reserve, Install, Resolve, Root, Place, Lose}
use Rattle.ist_core.specs.declared.events.Who.TheVariants.{Caller}
use Rattle.ist_core.specs.declared.states.InnerRow.{InnerRow}
use Rattle.ist_core.specs.LogTerms.{Among, Each, Snapshot, bases_of, Log, state, Enabled, EachEnabled, state_of, no_more, one_more, whose, Later, IsIdleIn, IsShown, shown_next, shown_callers, shown_status, shown_slot, shown_row, shown_free}
use Rattle.ist_core.specs.WordTerms.{Change, start, rows_within, rows_from, placed_parts, anchor, anchor_status_place, inner_status_offset, slot_place, Ref, ChangeAt, Piece, Inner, words_of, size_of, SlotHolds, in_anchor, in_row}
use Rattle.ist_core.proofs.AllWordLemmas.{among-append, among_left, each-among, among-pieces_of, same_value}
use Rattle.ist_core.proofs.AllEventLemmas.{HeldLieApart, without-fate, sound, moves_or_reserves, sound_start, grow_step}
use Rattle.ist_core.proofs.AllPlaceLemmas.{each-flat_map, get_below, placed, claimed_within, claimed_apart}
use Rattle.ist_rule.specs.RuleTerms.{IsBetween, IsNode, is_anchor, is_inner, is_change_ref}
use Rattle.ist_rule.proofs.ChangeLemmas.{NoChange, ChangeComes, stood, is_installed, change_comes}
use Rattle.ist_rule.proofs.CallLemmas.{installs_not, between_on}
use Rattle.ist_core.proofs.AllLogLemmas.{held-resolved, rows_holder, lost_holder, inner_there}
use Rattle.std.proofs.lemmas.Bool.Decides.{eqb_tells}
use Rattle.ist_core.specs.TreeTerms.{place_of_status, place_of_slot}

-- ---- what callers hold, when others make events. Serves the conjuncts `owns` and `unborn`, and stores.

-- ---- what others leave

-- a held row stays if another makes the event
pub held_by_others : (first : Snapshot) (log : Log) (event : Event) → Enabled first log event
    → HeldLieApart (state first log) → (h : HeldRow)
    → Among h (state first log).held → whose event ≢ Caller h.caller
    → Among h (state first (event ∷ log)).held
held_by_others first log (Install caller change rows) can s h i other =
    ⊎_elim (λ k. k) (λ b. absurd (other
    (ap Caller (sym (rows_holder (state first log) caller rows s can.held h i b)))))
    (without-fate (bases_of rows) (state first log).held h i)
held_by_others first log (Root caller rebuild word rows) can s h i other =
    ⊎_elim (λ k. k) (λ b. absurd (other
    (ap Caller (sym (rows_holder (state first log) caller rows s can.held h i b)))))
    (without-fate (bases_of rows) (state first log).held h i)
held_by_others first log (Place caller rebuild part word rows) can s h i other =
    ⊎_elim (λ k. k) (λ b. absurd (other
    (ap Caller (sym (rows_holder (state first log) caller rows s can.held h i b)))))
    (without-fate (bases_of rows) (state first log).held h i)
held_by_others first log (Lose caller bases) can s h i other =
    ⊎_elim (λ k. k) (λ b. absurd (other
    (ap Caller (sym (lost_holder (state first log) log caller bases s can h i b)))))
    (without-fate bases (state first log).held h i)
held_by_others first log (Reserve caller base size) can s h i other = grind (arith, among_left)
held_by_others first log (Resolve caller change) can s h i other = grind (arith, held-resolved)
held_by_others first log _ can s h i other = i

-- a held row stays along a log that goes on by others
pub held_later : (pairs : List Pair) (words : ℕ) (h : HeldRow) (old log : Log)
    → EachEnabled (start pairs words) log → Later (Caller h.caller) old log
    → Among h (state_of pairs words old).held → Among h (state_of pairs words log).held
held_later pairs words h old _ enabled no_more i = i
held_later pairs words h old _ enabled (one_more {log = log} event l other) i =
    held_by_others (start pairs words) log event enabled.1
    (sound (start pairs words) log (sound_start pairs words) enabled.0) h
    (held_later pairs words h old log enabled.0 l i) other

-- ---- callers without an event

-- who made no event holds no row
pub idle_holds : (pairs : List Pair) (words : ℕ) (log : Log) (number : ℕ)
    → EachEnabled (start pairs words) log → IsIdleIn (Caller number) log
    → (h : HeldRow) → Among h (state_of pairs words log).held → h.caller ≢ number
idle_holds pairs words [] number enabled idle h i is = absurd i
idle_holds pairs words (event ∷ log) number enabled idle h i is = ⊎_elim
    (λ m. idle_holds pairs words log number enabled.0 idle.1 h (m.kept h i) is)
    (λ r. ⊎_elim (λ old. idle_holds pairs words log number enabled.0 idle.1 h old is)
    (λ new. ⊎_elim (λ e. idle.0 (ap whose r.is ∙ ap Caller (sym (ap (λ x. x.caller) e) ∙ is)))
    (λ n. absurd n) new)
    (among-append h (state_of pairs words log).held
    (record { caller = r.caller; base = r.base; size = r.size } ∷ [])
    (subst (λ e. Among h (state_of pairs words (e ∷ log)).held) r.is i)))
    (moves_or_reserves (start pairs words) log event enabled.1
    (sound (start pairs words) log (sound_start pairs words) enabled.0))

-- a new table has no change
rows_no_change : (fuel base : ℕ) (pairs : List Pair)
    → Each (λ row. NoChange row.1) (rows_within fuel base pairs)
unfolding rows_within
rows_no_change fuel base [] = tt
rows_no_change fuel base (pair ∷ []) = (tt, tt)
rows_no_change zero base (pair ∷ more ∷ pairs) = tt
rows_no_change (suc fuel) base (pair ∷ more ∷ pairs) =
    let all = pair ∷ more ∷ pairs in (
      tt,
      each-flat_map (λ row. NoChange row.1) (λ part. rows_within fuel part.0 part.1)
          (placed_parts base all) (λ part. rows_no_change fuel part.0 part.1),
    )

-- the start layout has no change
pub start_no_change : (pairs : List Pair) (words base : ℕ) (r : ChangeRow)
    → (start pairs words).pieces base ≡ Some (Change r) → ⊥
start_no_change pairs words base r e =
    each-among (λ row. NoChange row.1) (base, Change r) (rows_from 4 pairs)
    (rows_no_change (length pairs) 4 pairs) (among-pieces_of (rows_from 4 pairs) base (Change r) e)

-- who made no event has made no entry, and has installed nothing
pub idle_between : (pairs : List Pair) (words : ℕ) (log : Log) (number : ℕ)
    → EachEnabled (start pairs words) log → IsIdleIn (Caller number) log
    → IsBetween pairs words log number []
idle_between pairs words [] number enabled idle =
    record { made = refl; resolved = λ base r e _. absurd (start_no_change pairs words base r e) }
idle_between pairs words (event ∷ log) number enabled idle =
    between_on pairs words number [] log event enabled (installs_not number event idle.0)
    (idle_between pairs words log number enabled.0 idle.1)

-- `Some` is injective
pub some_one : {A : Type 0} (a b : A) → Some a ≡ Some b → a ≡ b
some_one a b e = cc

-- ---- the word of a published row

module _ (pairs : List Pair) (words : ℕ) (log : Log) (enabled : EachEnabled (start pairs words) log)
  where
    -- the state after the log
    abbrev pub t : Snapshot
    t = state_of pairs words log

    -- what is shown at a place of a published row is the row's word
    pub shown_in_row : (base : ℕ) (p : Piece) (k word : ℕ) → t.pieces base ≡ Some p
        → slice_get (words_of p) k ≡ Some word
        → (place shown : ℕ) → IsShown t place shown → place ≡ base + k → shown ≡ word
    shown_in_row base p k word e at _ _ shown_next is = let low =
        (claimed_within pairs words log base (size_of p) enabled
        ((placed pairs words log enabled).published base p e)).after_fixed in absurd (omega arith)
    shown_in_row base p k word e at _ _ shown_callers is = let low =
        (claimed_within pairs words log base (size_of p) enabled
        ((placed pairs words log enabled).published base p e)).after_fixed in absurd (omega arith)
    shown_in_row base p k word e at _ _ shown_status is = let low =
        (claimed_within pairs words log base (size_of p) enabled
        ((placed pairs words log enabled).published base p e)).after_fixed in absurd (omega arith)
    shown_in_row base p k word e at _ _ shown_slot is = let low =
        (claimed_within pairs words log base (size_of p) enabled
        ((placed pairs words log enabled).published base p e)).after_fixed in absurd (omega arith)
    shown_in_row base p k word e at _ _ (shown_free far in_it) is =
        let high = (claimed_within pairs words log base (size_of p) enabled
        ((placed pairs words log enabled).published base p e)).below_next in
        let less = get_below (words_of p) k word at in absurd (omega arith)
    shown_in_row base p k word e at _ shown (shown_row other q j there got) is =
        let less = get_below (words_of p) k word at in
        let small = get_below (words_of q) j shown got in ⊎_elim
        (λ one. let same : j ≡ k = omega (arith, one.0) in
        let piece : q ≡ p = same_value (t.pieces other) q p there
        (subst (λ b. t.pieces b ≡ Some p) (sym one.0) e) in
        some_one shown word (sym got ∙ ap (λ x. slice_get (words_of x) j) piece ∙ ap
        (slice_get (words_of p)) same ∙ at))
        (λ two. ⊎_elim (λ le. absurd (omega arith)) (λ le. absurd (omega arith)) two.1)
        (claimed_apart pairs words log other (size_of q) base (size_of p) enabled
        ((placed pairs words log enabled).published other q there)
        ((placed pairs words log enabled).published base p e))

-- ---- the node of a change

module _ (pairs : List Pair) (words : ℕ) where
  node_on : (log : Log) (event : Event) → EachEnabled (start pairs words) (event ∷ log) → (node : ℕ)
      → IsNode (state_of pairs words log) node → IsNode (state_of pairs words (event ∷ log)) node
  node_on log event enabled node (is_anchor e) = is_anchor e
  node_on log event enabled node (is_inner r e) =
      let it = inner_there (state_of pairs words log).pieces
      (state_of pairs words (event ∷ log)).pieces
      (grow_step (start pairs words) log event enabled.1
      (sound (start pairs words) log (sound_start pairs words) enabled.0)) node r e in
      is_inner it.0 it.1

  holds_node : (t : Snapshot) (node i word : ℕ) → SlotHolds t node i word → IsNode t node
  holds_node t node i word (in_anchor e f g) = is_anchor e
  holds_node t node i word (in_row r e f) = is_inner r e

  -- the node of each published change is a node
  pub change_node : (log : Log) → EachEnabled (start pairs words) log → (base : ℕ) (r : ChangeRow)
      → (state_of pairs words log).pieces base ≡ Some (Change r)
      → IsNode (state_of pairs words log) r.node
  change_node [] enabled base r e = absurd (start_no_change pairs words base r e)
  change_node (event ∷ log) enabled base r e = node_on log event enabled r.node
      (at (λ old there. change_node log enabled.0 base old there)
      (change_comes (start pairs words) log event enabled.1
      (sound (start pairs words) log (sound_start pairs words) enabled.0) base r e))
    where
      at : ((old : ChangeRow) → (state_of pairs words log).pieces base ≡ Some (Change old)
          → IsNode (state_of pairs words log) old.node)
          → {ev : Event} → ChangeComes (start pairs words) log base r ev
          → IsNode (state_of pairs words log) r.node
      at before (stood old there g) =
          subst (IsNode (state_of pairs words log)) (sym (ap (λ x. x.node) g.others))
          (before old there)
      at before (is_installed h g) =
          subst (IsNode (state_of pairs words log)) (sym (ap (λ x. x.node) g.others))
          (holds_node (state_of pairs words log) h.change.node h.change.index h.change.from
          h.in_slot)

-- ---- tests

-- what a test names
pub if_some : {A : Type 0} (b : Bool) (x y : A) → (if b then Some x else None) ≡ Some y → (b ≡ true)
    × (x ≡ y)
if_some true x y e = (refl, some_one x y e)
if_some false x y e = absurd (cc)

-- if the negated test of two numbers is true, they differ
pub not_true : (m n : ℕ) → not (m == n) ≡ true → m ≢ n
not_true m n e = ⊎_elim (λ k. absurd (cc (sym e ∙ ap not k.0))) (λ k. k.1) (eqb_tells m n)

-- a word that is tested to be no change's is no change's
pub no_change : (o : Option Ref) → not (is_change_ref o) ≡ true → (base : ℕ) → o ≢ Some (ChangeAt base)
no_change o e base is = cc (sym e ∙ ap (λ x. not (is_change_ref x)) is)

-- the place of the status of an inner row
pub status_place_inner : (node : ℕ) → node ≢ anchor → place_of_status node ≡ node + inner_status_offset
status_place_inner node ne = grind (arith, eqb_tells)

-- the place of the anchor's status
pub status_place_anchor : (node : ℕ) → node ≡ anchor → place_of_status node ≡ anchor_status_place
status_place_anchor node e = ap place_of_status e

-- the place of a slot of an inner row
pub place_inner : (t : Snapshot) (node i : ℕ) (r : InnerRow) → t.pieces node ≡ Some (Inner r)
    → node ≢ anchor → place_of_slot t node i ≡ slot_place node r.degree i
place_inner t node i r e ne = grind (arith, eqb_tells)
