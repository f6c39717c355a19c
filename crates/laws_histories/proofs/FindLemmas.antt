-- What the search for a key finds: one value, and what an event makes of it. Serves the changes law.
use Rattle.std.proofs.Common.{◌≡◌, ◌≢◌, ℕ, ◌<◌, List, ◌∷◌, Option, Some, None, slice_get, refl, sym, ap, ◌∙◌, subst, ⊎_elim, arith}
use Rattle.ist_core.specs.declared.pairs.Pair.{Pair}
use Rattle.ist_core.specs.declared.states.InnerRow.{InnerRow}
use Rattle.ist_core.specs.declared.events.Event.{Event}
use Rattle.ist_core.specs.WordTerms.{child_count, anchor, Ref, Unset, InnerAt, ref_of, Pieces, Inner, start, SlotHolds, in_anchor, in_row, IsChildFor, of_anchor, of_row, past_rebuild, logical}
use Rattle.ist_core.specs.LogTerms.{Snapshot, Log, EachEnabled, CanOpen, state_of}
use Rattle.ist_core.specs.TreeTerms.{Leads, from_anchor, down}
use Rattle.ist_core.proofs.AllLogLemmas.{leaf_there, inner_there, grow_after}
use Rattle.ist_core.proofs.AllPlaceLemmas.{anchor_free, no_row, names, child_above}
use Rattle.ist_core.proofs.AllWordLemmas.{same_leaf, same_inner}
use Rattle.laws_histories.specs.Finding.{Finds, in_nothing, in_leaf, in_node, Gives}
use Rattle.laws_histories.proofs.ReadLemmas.{ReadsAs, Turns, reads_step}
use Rattle.laws_histories.proofs.SeenLemmas.{row_holds}
use Rattle.laws_histories.proofs.SearchLemmas.{row_finds}

-- ---- one value

-- the search for a key finds one value
pub finds_once : (ps : Pieces) (key : ℕ) (ref : Option Ref) (v w : Option ℕ) → Finds ps key ref v
    → Finds ps key ref w → v ≡ w
finds_once ps key _ _ _ in_nothing in_nothing = refl
finds_once ps key _ _ _ (in_leaf {base = base} r e) (in_leaf x f) = grind (arith, same_leaf)
finds_once ps key _ _ w (in_node {base = base} {word = word} {value = v} r e g f) other =
    finds_once ps key (logical ps word) v w f
    (row_finds ps key base w r (child_count r.keys key) word other e refl g)

-- what is found from is set
pub finds_set : (ps : Pieces) (key : ℕ) (ref : Option Ref) (v : Option ℕ) → Finds ps key ref v
    → ref ≢ Some Unset
finds_set ps key _ _ in_nothing e = cc
finds_set ps key _ _ (in_leaf r f) e = cc
finds_set ps key _ _ (in_node r f g h) e = cc

-- ---- below a slot

-- what is found from a slot on to which the key leads is what the tree gives
pub finds_above : (t : Snapshot) (key node i word : ℕ) (value : Option ℕ) → t.pieces anchor ≡ None
    → Leads t key node → IsChildFor t node key i → SlotHolds t node i word
    → Finds t.pieces key (logical t.pieces word) value → Gives t key value
finds_above t key node i word value free led index (in_anchor a b e) f = grind arith
finds_above t key _ i word value free from_anchor index (in_row r p g) f = grind (arith, no_row)
finds_above t key _ i word value free (down {child = child} j led x c) (of_anchor a b) (in_row r p g) f =
    absurd (no_row t.pieces child r free a p)
finds_above t key _ i word value free (down {node = node} {child = child} j led x c) (of_row s q is) (in_row r p g) f =
    let one = same_inner (t.pieces child) s r q p in
    let here : i ≡ child_count r.keys key = is ∙ ap (λ y. child_count y.keys key) one in
    let found = in_node r p (subst (λ k. slice_get r.slots k ≡ Some word) here g) f in
    finds_above t key node j c.word value free led x c.holds
    (subst (λ ref. Finds t.pieces key ref value) (sym c.reads) found)

-- ---- at an event

module _ (pairs : List Pair) (words : ℕ) (opens : CanOpen pairs words) (log : Log) (event : Event)
    (h : EachEnabled (start pairs words) (event ∷ log)) where
  -- the states before and after the event
  abbrev Before : Snapshot
  Before = state_of pairs words log

  abbrev Following : Snapshot
  Following = state_of pairs words (event ∷ log)

  -- the search goes on through a slot that reads as this reference
  finds_through : (key base i : ℕ) (r : InnerRow) (ref : Option Ref) (value : Option ℕ)
      → Before.pieces base ≡ Some (Inner r)
      → i ≡ child_count r.keys key → ReadsAs Following base i ref → Finds Following.pieces key ref value
      → Finds Following.pieces key (Some (InnerAt base)) value
  finds_through key base i r ref value e is read f =
      let it =
      inner_there Before.pieces Following.pieces (grow_after pairs words log event h) base r e in
      let held =
      row_holds Following base i read.word it.0
      (anchor_free pairs words (event ∷ log) h) it.1 read.holds in
      in_node it.0 it.1
      (subst (λ k. slice_get it.0.slots k ≡ Some read.word) (is ∙ ap (λ ks. child_count ks key) (sym it.2.keys)) held)
      (subst (λ x. Finds Following.pieces key x value) (sym read.reads) f)

  -- if the event turns a slot to what gives the same value, each search gives the same value
  pub finds_step : (key : ℕ)
      → ((node i : ℕ) (ref : Option Ref) (value : Option ℕ) (turn : Turns Before Following event node i ref) → Finds Before.pieces key ref value
      → Finds Following.pieces key (past_rebuild Before.pieces (ref_of turn.change.to)) value)
      → (ref : Option Ref) (value : Option ℕ) → Finds Before.pieces key ref value
      → Finds Following.pieces key ref value
  finds_step key alike _ _ in_nothing = in_nothing
  finds_step key alike _ _ (in_leaf {base = base} r e) =
      in_leaf r (leaf_there Before.pieces Following.pieces (grow_after pairs words log event h) base r e)
  finds_step key alike _ value (in_node {base = base} {word = word} r e g f) =
      let ref = logical Before.pieces word in let i = child_count r.keys key in ⊎_elim
      (λ read. finds_through key base i r ref value e refl read (finds_step key alike ref value f))
      (λ turn. finds_through key base i r (past_rebuild Before.pieces (ref_of turn.change.to)) value e refl turn.now (alike base i ref value turn f))
      (reads_step pairs words opens log event h base i ref (finds_set Before.pieces key ref value f) record { word = word; holds = in_row r e g; reads = refl })

  -- what the anchor's slot reads as is what the tree reads as
  anchor_reads : (key : ℕ) (ref : Option Ref) (value : Option ℕ) → ReadsAs Following anchor 0 ref
      → Finds Following.pieces key ref value → Gives Following key value
  anchor_reads key ref value read f = subst (λ x. Finds Following.pieces key x value)
      (sym (ap (logical Following.pieces) (at read.holds) ∙ read.reads)) f
    where
      at : SlotHolds Following anchor 0 read.word → Following.anchor ≡ read.word
      at (in_anchor a b e) = e
      at (in_row r p g) =
          absurd (no_row Following.pieces anchor r (anchor_free pairs words (event ∷ log) h) refl p)

  -- if the event turns a slot to what gives the same value, the tree gives the same value
  pub gives_step : (key : ℕ)
      → ((node i : ℕ) (ref : Option Ref) (value : Option ℕ) (turn : Turns Before Following event node i ref) → Finds Before.pieces key ref value
      → Finds Following.pieces key (past_rebuild Before.pieces (ref_of turn.change.to)) value)
      → (value : Option ℕ) → Gives Before key value → Gives Following key value
  gives_step key alike value f = let ref = logical Before.pieces Before.anchor in ⊎_elim
      (λ read. anchor_reads key ref value read (finds_step key alike ref value f))
      (λ turn. anchor_reads key (past_rebuild Before.pieces (ref_of turn.change.to)) value turn.now (alike anchor 0 ref value turn f))
      (reads_step pairs words opens log event h anchor 0 ref (finds_set Before.pieces key ref value f) record { word = Before.anchor; holds = in_anchor refl refl refl; reads = refl })

  -- an inner row that the reference names lies above the node
  abbrev pub IsHigh : ℕ → Option Ref → Type 0
  IsHigh node ref = (child : ℕ) → ref ≡ Some (InnerAt child) → node < child

  -- above the node of the change that turns nothing is found otherwise
  pub finds_high : (key node : ℕ)
      → ((at i : ℕ) (ref : Option Ref) → Turns Before Following event at i ref → at ≡ node)
      → (ref : Option Ref) (value : Option ℕ) → IsHigh node ref → Finds Before.pieces key ref value
      → Finds Following.pieces key ref value
  finds_high key node here _ _ high in_nothing = in_nothing
  finds_high key node here _ _ high (in_leaf {base = base} r e) =
      in_leaf r (leaf_there Before.pieces Following.pieces (grow_after pairs words log event h) base r e)
  finds_high key node here _ value high (in_node {base = base} {word = word} r e g f) =
      let ref = logical Before.pieces word in let i = child_count r.keys key in
      let up = high base refl in let o = names pairs words opens log h.0 in
      let above : IsHigh node ref = λ child is.
      (let more = child_above Before base i child o record { word = word; holds = in_row r e g; reads = is } in omega arith) in
      ⊎_elim
      (λ read. finds_through key base i r ref value e refl read (finds_high key node here ref value above f))
      (λ turn. absurd (let same = here base i ref turn in omega arith))
      (reads_step pairs words opens log event h base i ref (finds_set Before.pieces key ref value f) record { word = word; holds = in_row r e g; reads = refl })
