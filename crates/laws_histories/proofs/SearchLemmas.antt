-- A search by the logs at which it looked: what holds at its node, that it goes up, and what it
-- finds. Serves the search law.
use Rattle.std.proofs.Common.{◌≡◌, ℕ, ◌<◌, ◌⊎◌, List, [], ◌∷◌, Option, Some, None, slice_get, refl, ap, ◌∙◌, subst, inl, inr, ⊎_elim, arith}
use Rattle.ist_core.specs.declared.pairs.Pair.{Pair}
use Rattle.ist_core.specs.declared.states.InnerRow.{InnerRow}
use Rattle.ist_core.specs.WordTerms.{child_count, anchor, Ref, InnerAt, Pieces, Inner, start, SlotHolds, in_anchor, in_row, IsChildFor, of_anchor, of_row, logical}
use Rattle.ist_core.specs.LogTerms.{Snapshot, Log, state, Ever, GoesOn, same_log, one_event, EachEnabled, CanOpen, state_of}
use Rattle.ist_core.specs.TreeTerms.{Leads, from_anchor, down}
use Rattle.ist_core.proofs.AllLogLemmas.{inner_there, enabled_before, grow_between, goes_on_more}
use Rattle.ist_core.proofs.AllPlaceLemmas.{no_row, names, child_above, mentioned_here, child_mentioned}
use Rattle.ist_core.proofs.AllWordLemmas.{same_inner}
use Rattle.laws_histories.specs.Finding.{Finds, in_node, Gives}
use Rattle.laws_histories.proofs.LedLemmas.{AllNeeds, WasLeft, led_on}
use Rattle.laws_histories.proofs.SeenLemmas.{Saw, saw_led, saw_left}

-- ---- looks

-- the slot of the node for the key held the word at the log `loaded`, and the word read so at the log `now`
pub record Look (pairs : List Pair) (words key : ℕ) (before now : Log) (node : ℕ)
    (ref : Option Ref) : Type 0 where
  pub index : ℕ
  pub word : ℕ
  pub loaded : Log
  pub after : GoesOn before loaded
  pub index_is : IsChildFor (state_of pairs words loaded) node key index
  pub held : SlotHolds (state_of pairs words loaded) node index word
  pub later : GoesOn loaded now
  pub reads : logical (state_of pairs words now).pieces word ≡ ref

-- a search that began at the log `first` has reached the node by the log `now`
pub data Comes (pairs : List Pair) (words key : ℕ) (first : Log) : Log → ℕ → Type 0 where
  begins : Comes pairs words key first first anchor
  goes : {before now : Log} {node child : ℕ} → Comes pairs words key first before node
      → Look pairs words key before now node (Some (InnerAt child))
      → Comes pairs words key first now child

-- a search reaches its nodes at later logs
pub comes_on : (pairs : List Pair) (words key : ℕ) (first now : Log) (node : ℕ)
    → Comes pairs words key first now node → GoesOn first now
comes_on pairs words key first _ _ begins = same_log
comes_on pairs words key first _ _ (goes {before = before} {now = now} {node = node} c look) =
    goes_on_more (comes_on pairs words key first before node c) (goes_on_more look.after look.later)

-- ---- the node that a search has reached

-- the node is led to, or was when it was finished
abbrev pub LedOrFinished : List Pair → ℕ → ℕ → Log → Log → ℕ → Type 0
LedOrFinished pairs words key first now node =
    Leads (state_of pairs words now) key node ⊎ WasLeft pairs words key first now node

module _ (pairs : List Pair) (words : ℕ) (opens : CanOpen pairs words)
    (needs : AllNeeds pairs words) (key : ℕ) where
  -- what a look saw was the tree's at one moment since the search began
  pub saw : (first before now : Log) → GoesOn first before → EachEnabled (start pairs words) now
      → (node : ℕ) (ref : Option Ref)
      → LedOrFinished pairs words key first before node → Look pairs words key before now node ref
      → Saw pairs words key first now node ref
  saw first before now g h node ref stands look =
      let l = enabled_before (start pairs words) look.loaded now look.later h in
      let on = goes_on_more g look.after in
      let left : WasLeft pairs words key first look.loaded node → Saw pairs words key first now node ref = λ w.
      saw_left pairs words opens needs key first look.loaded now look.later h node look.index look.word ref w look.index_is look.held look.reads in
      ⊎_elim
      (λ led. ⊎_elim
      (λ x.
      let s =
      saw_led pairs words opens needs key look.loaded now look.later h node look.index look.word ref x look.index_is look.held look.reads in
      record { at = s.at; since = goes_on_more on s.since; until = s.until; led = s.led; index = s.index; index_is = s.index_is; read = s.read })
      (λ w. left record { at = w.at; since = goes_on_more g w.since; until = w.until; led = w.led; finished = w.finished })
      (led_on pairs words opens needs before look.loaded look.after l key node led))
      (λ w. left record { at = w.at; since = w.since; until = goes_on_more w.until look.after; led = w.led; finished = w.finished })
      stands

  -- a child that was seen is led to at that moment
  pub saw_led_down : (first now : Log) (node child : ℕ)
      (s : Saw pairs words key first now node (Some (InnerAt child)))
      → Leads (state_of pairs words s.at) key child
  saw_led_down first now node child s =
      down s.index s.led s.index_is record { word = s.read.word; holds = s.read.holds; reads = s.read.reads }

  -- a node that a search has reached is led to, or was until it was finished
  pub standing : (first now : Log) (node : ℕ) → EachEnabled (start pairs words) now
      → Comes pairs words key first now node → LedOrFinished pairs words key first now node
  standing first _ _ h begins = inl from_anchor
  standing first _ _ h (goes {before = before} {now = now} {node = node} {child = child} c look) =
      let l =
      enabled_before (start pairs words) before now (goes_on_more look.after look.later) h in
      let s =
      saw first before now (comes_on pairs words key first before node c) h node
      (Some (InnerAt child)) (standing first before node l c) look in
      ⊎_elim (λ x. inl x)
      (λ w. inr record { at = w.at; since = goes_on_more s.since w.since; until = w.until; led = w.led; finished = w.finished })
      (led_on pairs words opens needs s.at now s.until h key child (saw_led_down first now node child s))

  -- what a look of a search saw
  pub seen : (first before now : Log) (node : ℕ) (ref : Option Ref)
      → EachEnabled (start pairs words) now
      → Comes pairs words key first before node → Look pairs words key before now node ref
      → Saw pairs words key first now node ref
  seen first before now node ref h c look =
      let l =
      enabled_before (start pairs words) before now (goes_on_more look.after look.later) h in
      saw first before now (comes_on pairs words key first before node c) h node ref
      (standing first before node l c) look

  -- a look that leads to a child leads up
  pub goes_up : (first before now : Log) (node child : ℕ) → EachEnabled (start pairs words) now
      → Comes pairs words key first before node
      → Look pairs words key before now node (Some (InnerAt child)) → node < child
  goes_up first before now node child h c look =
      let s = seen first before now node (Some (InnerAt child)) h c look in
      child_above (state_of pairs words s.at) node s.index child
      (names pairs words opens s.at (enabled_before (start pairs words) s.at now s.until h))
      record { word = s.read.word; holds = s.read.holds; reads = s.read.reads }

-- ---- the nodes on the way

-- what was true after a prefix was true at some moment
pub ever_at : (first : Snapshot) (P : Snapshot → Type 0) (at log : Log) → GoesOn at log
    → P (state first at) → Ever first P log
ever_at first P [] _ same_log h = h
ever_at first P (event ∷ log) _ same_log h = inl h
ever_at first P at _ (one_event {log = log} event g) h = inr (ever_at first P at log g h)

module _ (pairs : List Pair) (words : ℕ) (opens : CanOpen pairs words) (key : ℕ) where
  -- a node that is led to is the anchor, or a published inner row
  pub leads_there : (log : Log) → EachEnabled (start pairs words) log → (node : ℕ)
      → Leads (state_of pairs words log) key node
      → (node ≡ anchor) ⊎ ((r : InnerRow) × ((state_of pairs words log).pieces node ≡ Some (Inner r)))
  leads_there log h _ from_anchor = inl refl
  leads_there log h _ (down {node = node} {child = child} i led index c) =
      let o = names pairs words opens log h in
      inr (mentioned_here (state_of pairs words log) node i child o (child_mentioned (state_of pairs words log) node i child o c))

  -- a node that was there after a log is still there after a longer log
  pub there_on : (earlier log : Log) → GoesOn earlier log → EachEnabled (start pairs words) log
      → (node : ℕ)
      → (node ≡ anchor) ⊎ ((r : InnerRow) × ((state_of pairs words earlier).pieces node ≡ Some (Inner r)))
      → (node ≡ anchor) ⊎ ((r : InnerRow) × ((state_of pairs words log).pieces node ≡ Some (Inner r)))
  there_on earlier log g h node (inl e) = inl e
  there_on earlier log g h node (inr e) =
      let it =
      inner_there (state_of pairs words earlier).pieces (state_of pairs words log).pieces
      (grow_between pairs words earlier log h g) node e.0 e.1 in
      inr (it.0, it.1)

-- ---- what is found below a slot

-- what is found from an inner row on is found from its slot on
pub row_finds : (ps : Pieces) (key base : ℕ) (value : Option ℕ) (r : InnerRow) (i word : ℕ)
    → Finds ps key (Some (InnerAt base)) value
    → ps base ≡ Some (Inner r) → i ≡ child_count r.keys key → slice_get r.slots i ≡ Some word
    → Finds ps key (logical ps word) value
row_finds ps key base value r i word (in_node {word = other} x e g f) there is read =
    grind (arith, same_inner)

-- what the tree gives the key is found from a slot on to which the key leads
pub finds_below : (t : Snapshot) (key node i word : ℕ) (value : Option ℕ) → t.pieces anchor ≡ None
    → Leads t key node → IsChildFor t node key i → SlotHolds t node i word → Gives t key value
    → Finds t.pieces key (logical t.pieces word) value
finds_below t key node i word value free led index (in_anchor a b e) f = grind arith
finds_below t key _ i word value free from_anchor index (in_row r p g) f = grind (arith, no_row)
finds_below t key _ i word value free (down {child = child} j led x c) (of_anchor a b) (in_row r p g) f =
    absurd (no_row t.pieces child r free a p)
finds_below t key _ i word value free (down {node = node} {child = child} j led x c) (of_row s q is) (in_row r p g) f =
    let up = finds_below t key node j c.word value free led x c.holds f in
    let here = subst (λ ref. Finds t.pieces key ref value) c.reads up in
    row_finds t.pieces key child value r i word here p
    (is ∙ ap (λ y. child_count y.keys key) (same_inner (t.pieces child) s r q p)) g
