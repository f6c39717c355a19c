-- To which nodes the search for a key is led, from event to event: a node drops out only once it is finished. Serves the
-- search law and the changes law.
use Rattle.std.proofs.Common.{◌≡◌, ◌≢◌, ℕ, ◌<◌, List, [], ◌∷◌, Some, ◌⊎◌, Option, sym, ap, ◌∙◌, subst, inl, inr, ⊎_elim, arith}
use Rattle.ist_core.specs.declared.pairs.Pair.{Pair}
use Rattle.ist_core.specs.declared.states.InnerRow.{InnerRow}
use Rattle.ist_core.specs.declared.states.ChangeRow.{ChangeRow}
use Rattle.ist_core.specs.declared.states.RebuildRow.{RebuildRow}
use Rattle.ist_core.specs.declared.events.Event.{Event}
use Rattle.ist_core.specs.WordTerms.{Empty, LeafAt, InnerAt, ChangeAt, RebuildAt, ref_of, word_of, unset_word, put_kind, remove_kind, start_kind, finish_kind, Pieces, Inner, Rebuild, start, SlotHolds, past_rebuild, Ref, rebuild_reads}
use Rattle.ist_core.specs.LogTerms.{Snapshot, Log, Happened, Okays, Passes, EachEnabled, state_of, GoesOn, same_log, one_event, CanOpen}
use Rattle.ist_core.specs.TreeTerms.{IsChild, PlacedLeaf, HasLeaves, new_leaf, IsLeafOf, IsPending, HasTarget, Leads, from_anchor, down}
use Rattle.laws_links.specs.Linking.{IsFinished}
use Rattle.ist_core.proofs.AllLogLemmas.{child_remains, grow_after}
use Rattle.laws_histories.proofs.ReadLemmas.{reads_step}

-- ---- what the search law and the changes law take from the laws on linked rows, about the state after
-- a log.

-- an inner row over two leaves, with the key of the right one
pub record IsPair (ps : Pieces) (base key left right : ℕ) : Type 0 where
  pub row : InnerRow
  pub published : ps base ≡ Some (Inner row)
  pub keys : row.keys ≡ key ∷ []
  pub slots : row.slots ≡ word_of (LeafAt left) ∷ word_of (LeafAt right) ∷ []

-- what the sides of a pending change are, by its kind
pub data HasForm (t : Snapshot) (change : ChangeRow) : Type 0 where
  into_nothing : (leaf : ℕ) → change.kind ≡ put_kind → ref_of change.from ≡ Some Empty
      → ref_of change.to ≡ Some (LeafAt leaf) → t.pieces leaf ≡ Some (new_leaf change)
      → HasForm t change
  over_leaf : (old leaf : ℕ) → change.kind ≡ put_kind → ref_of change.from ≡ Some (LeafAt old)
      → IsLeafOf t old change.key
      → ref_of change.to ≡ Some (LeafAt leaf) → t.pieces leaf ≡ Some (new_leaf change)
      → HasForm t change
  beside_low : (other other_key leaf pair : ℕ) → change.kind ≡ put_kind
      → ref_of change.from ≡ Some (LeafAt other)
      → IsLeafOf t other other_key → other_key < change.key
      → ref_of change.to ≡ Some (InnerAt pair) → IsPair t.pieces pair change.key other leaf
      → t.pieces leaf ≡ Some (new_leaf change) → HasForm t change
  beside_high : (other other_key leaf pair : ℕ) → change.kind ≡ put_kind
      → ref_of change.from ≡ Some (LeafAt other)
      → IsLeafOf t other other_key → change.key < other_key
      → ref_of change.to ≡ Some (InnerAt pair) → IsPair t.pieces pair other_key leaf other
      → t.pieces leaf ≡ Some (new_leaf change) → HasForm t change
  takes_out : (leaf : ℕ) → change.kind ≡ remove_kind → ref_of change.from ≡ Some (LeafAt leaf)
      → IsLeafOf t leaf change.key → ref_of change.to ≡ Some Empty → HasForm t change
  begins : (target rebuild : ℕ) → change.kind ≡ start_kind
      → ref_of change.from ≡ Some (InnerAt target)
      → ref_of change.to ≡ Some (RebuildAt rebuild) → HasTarget t rebuild target → HasForm t change
  ends : (rebuild : ℕ) (row : RebuildRow) → change.kind ≡ finish_kind
      → ref_of change.from ≡ Some (RebuildAt rebuild)
      → t.pieces rebuild ≡ Some (Rebuild row) → change.to ≡ row.root → row.root ≢ unset_word
      → HasForm t change

-- what is needed of the state after a log
pub record Needs (pairs : List Pair) (words : ℕ) (log : Log) : Type 0 where
  -- a pending change has the form of its kind
  pub form : (base : ℕ) (change : ChangeRow) → IsPending (state_of pairs words log) base change
      → HasForm (state_of pairs words log) change
  -- a pending change is in its slot
  pub in_slot : (base : ℕ) (change : ChangeRow) → IsPending (state_of pairs words log) base change
      → SlotHolds (state_of pairs words log) change.node change.index (word_of (ChangeAt base))
  -- if a pending finish has an Okay, its root has the leaves of its rebuild's target
  pub same_leaves : (base : ℕ) (change : ChangeRow)
      → IsPending (state_of pairs words log) base change
      → Happened (Okays base) log → change.kind ≡ finish_kind → (leaves : List PlacedLeaf)
      × HasLeaves (state_of pairs words log).pieces
      (past_rebuild (state_of pairs words log).pieces (ref_of change.from)) leaves
      × HasLeaves (state_of pairs words log).pieces
      (past_rebuild (state_of pairs words log).pieces (ref_of change.to)) leaves
  -- the target of a rebuild with a root is finished
  pub target_finished : (rebuild : ℕ) (row : RebuildRow)
      → (state_of pairs words log).pieces rebuild ≡ Some (Rebuild row)
      → row.root ≢ unset_word → IsFinished (state_of pairs words log) row.target
  -- each slot of a finished row was passed
  pub passed : (node i word : ℕ) → IsFinished (state_of pairs words log) node
      → SlotHolds (state_of pairs words log) node i word → (v : ℕ) × Happened (Passes node i v) log
  -- the inner children of a finished row are finished
  pub finished_below : (node i child : ℕ) → IsFinished (state_of pairs words log) node
      → IsChild (state_of pairs words log) node i child
      → IsFinished (state_of pairs words log) child

-- each lawful log has what is needed
unfoldable pub AllNeeds : List Pair → ℕ → Type 0
AllNeeds pairs words = (log : Log) → EachEnabled (start pairs words) log → Needs pairs words log

-- ---- at an event

-- nothing and a leaf lead to no node
no_inner : (ps : Pieces) (ref : Option Ref) (child : ℕ)
    → (ref ≡ Some Empty) ⊎ ((base : ℕ) × (ref ≡ Some (LeafAt base)))
    → past_rebuild ps ref ≡ Some (InnerAt child) → ⊥
no_inner ps ref child (inl e) h = grind arith
no_inner ps ref child (inr e) h = grind arith

-- what a rebuild reads as
target_read : (t : Snapshot) (rebuild target : ℕ) → HasTarget t rebuild target
    → past_rebuild t.pieces (Some (RebuildAt rebuild)) ≡ Some (InnerAt target)
target_read t rebuild target h = grind arith

module _ (pairs : List Pair) (words : ℕ) where
  -- an inner row that a change takes out of its slot is put back by it, or is finished
  pub left_finished : (log : Log) (change : ChangeRow) → Needs pairs words log
      → HasForm (state_of pairs words log) change → (child : ℕ)
      → past_rebuild (state_of pairs words log).pieces (ref_of change.from) ≡ Some (InnerAt child)
      → (past_rebuild (state_of pairs words log).pieces (ref_of change.to) ≡ Some (InnerAt child))
      ⊎ IsFinished (state_of pairs words log) child
  left_finished log change n (into_nothing leaf kind from to new) child e = grind (arith, no_inner)
  left_finished log change n (over_leaf old leaf kind from is to new) child e =
      absurd (no_inner (state_of pairs words log).pieces _ child (inr (old, from)) e)
  left_finished log change n (beside_low other k leaf pair kind from is less to p new) child e =
      absurd (no_inner (state_of pairs words log).pieces _ child (inr (other, from)) e)
  left_finished log change n (beside_high other k leaf pair kind from is less to p new) child e =
      absurd (no_inner (state_of pairs words log).pieces _ child (inr (other, from)) e)
  left_finished log change n (takes_out leaf kind from is to) child e = grind (arith, no_inner)
  left_finished log change n (begins target rebuild kind from to h) child e =
      grind (arith, target_read)
  left_finished log change n (ends rebuild row kind from e f set) child h =
      let t = state_of pairs words log in
      let read : Some (InnerAt row.target) ≡ Some (InnerAt child) =
      sym (ap rebuild_reads e) ∙ sym (ap (past_rebuild t.pieces) from) ∙ h in
      let same : row.target ≡ child = cc in
      inr (subst (λ c. IsFinished t c) same (n.target_finished rebuild row e set))

module _ (pairs : List Pair) (words : ℕ) (opens : CanOpen pairs words) where
  -- after an event a child still hangs in its slot, or is finished
  child_step : (log : Log) (event : Event) → EachEnabled (start pairs words) (event ∷ log)
      → Needs pairs words log → (node i child : ℕ) → IsChild (state_of pairs words log) node i child
      → IsChild (state_of pairs words (event ∷ log)) node i child ⊎ IsFinished (state_of pairs words log) child
  child_step log event h n node i child c = ⊎_elim
      (λ r. inl record { word = r.word; holds = r.holds; reads = r.reads })
      (λ turn. ⊎_elim
      (λ same. inl record { word = turn.now.word; holds = turn.now.holds; reads = turn.now.reads ∙ same })
      (λ f. inr f)
      (left_finished pairs words log turn.change n (n.form turn.base turn.change turn.pending) child turn.from))
      (reads_step pairs words opens log event h node i (Some (InnerAt child)) (λ e. cc) record { word = c.word; holds = c.holds; reads = c.reads })

  -- after an event a node that was led to still is, or is finished
  pub led_step : (log : Log) (event : Event) → EachEnabled (start pairs words) (event ∷ log)
      → Needs pairs words log → (key node : ℕ) → Leads (state_of pairs words log) key node
      → Leads (state_of pairs words (event ∷ log)) key node ⊎ IsFinished (state_of pairs words log) node
  led_step log event h n key _ from_anchor = inl from_anchor
  led_step log event h n key _ (down {node = node} {child = child} i led index c) = ⊎_elim
      (λ still. ⊎_elim
      (λ d. inl (down i still (child_remains (state_of pairs words log) (state_of pairs words (event ∷ log)) (grow_after pairs words log event h) node key i index) d))
      (λ f. inr f)
      (child_step log event h n node i child c))
      (λ f. inr (n.finished_below node i child f c)) (led_step log event h n key node led)

-- ---- over a log

-- the node was led to after some log in between, and was finished by then
pub record WasLeft (pairs : List Pair) (words : ℕ) (key : ℕ) (earlier log : Log)
    (node : ℕ) : Type 0 where
  pub at : Log
  pub since : GoesOn earlier at
  pub until : GoesOn at log
  pub led : Leads (state_of pairs words at) key node
  pub finished : IsFinished (state_of pairs words at) node

module _ (pairs : List Pair) (words : ℕ) (opens : CanOpen pairs words)
    (needs : AllNeeds pairs words) where
  -- a node that was led to is led to, or was left when it was finished
  pub led_on : (earlier log : Log) → GoesOn earlier log → EachEnabled (start pairs words) log
      → (key node : ℕ) → Leads (state_of pairs words earlier) key node
      → Leads (state_of pairs words log) key node ⊎ WasLeft pairs words key earlier log node
  unfolding AllNeeds
  led_on earlier _ same_log h key node led = inl led
  led_on earlier _ (one_event {log = log} event g) h key node led = ⊎_elim
      (λ x. ⊎_elim
      (λ y. inl y)
      (λ f. inr record { at = log; since = g; until = one_event event same_log; led = x; finished = f })
      (led_step pairs words opens log event h (needs log h.0) key node x))
      (λ w. inr record { at = w.at; since = w.since; until = one_event event w.until; led = w.led; finished = w.finished })
      (led_on earlier log g h.0 key node led)
