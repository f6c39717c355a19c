-- The keys of each inner row are strictly increasing, and so are the keys of the leaves below each
-- slot. Serves `laws.leaves_lie_by_key`.
use Rattle.std.proofs.Common.{◌≡◌, ℕ, ◌+◌, ◌≤◌, ◌⊎◌, List, [], ◌∷◌, length, map, Some, refl, sym, ap, subst, inl, inr, arith, ⊎_elim}
use Rattle.std.specs.List.Sorted.{IsStrictlyIncreasing}
use Rattle.ist_core.specs.Types.{Pair, Row, LeafRow, ChangeRow, Event}
use Rattle.ist_core.specs.WordTerms.{anchor, first_row, ideal_words, LeafAt, InnerAt, parts, Pieces, Piece, Leaf, Inner, with_inners, start, tree_at, rows_from, SlotHolds, in_anchor, IsChildFor, logical}
use Rattle.ist_core.specs.LogTerms.{Among, Each, Snapshot, bases_of, Log, Enabled, EachEnabled, CanOpen, state_of}
use Rattle.ist_core.specs.TreeTerms.{PlacedLeaf, pair_of, HasLeaves, HasContents, Linked, at_anchor, below, Leads, from_anchor, down, FitsKind, IsRoot, root_whole, root_top, Grows, leaf_stays, inner_grows, change_grows, rebuild_grows, IsChild, Chain, no_row, one_row, WasOnChain}
use Rattle.ist_core.proofs.OptionLemmas.{each-among, among-append, among-pieces_of}
use Rattle.ist_core.proofs.SoundLemmas.{sound}
use Rattle.ist_core.proofs.StepLemmas.{sound_start, known, grow_step, IsInstalledWith, installed_has}
use Rattle.ist_core.proofs.PlaceLemmas.{anchor_free}
use Rattle.ist_core.proofs.BornLemmas.{Born, by_install, by_root, by_place, Comes, from_old, from_born, comes}
use Rattle.ist_core.proofs.StartTreeLemmas.{IsLeafRow, leaf_row, HangsAs, start_hangs}
use Rattle.ist_core.proofs.OrderLemmas.{names}
use Rattle.ist_core.proofs.ParentLemmas.{one_home}
use Rattle.ist_core.proofs.MentionLemmas.{child_mentioned}
use Rattle.ist_core.proofs.LeadingLemmas.{LedTo, parent_of}
use Rattle.ist_core.proofs.UnderLemmas.{leaf_mentioned, slot_reads_as, leaves_under, same_leaves}
use Rattle.ist_core.proofs.RisingLemmas.{AreRisingKeys, Rising, parts_rise, part_rises, first_keys_after_rise}
use Rattle.ist_core.proofs.SplitLemmas.{key_of_leaf, ideal_splits, StandsRising, split_rises}
use Rattle.ist_core.proofs.RootKeyLemmas.{roots_are_cut}
use Rattle.ist_core.proofs.LeafBuildLemmas.{target_lies}
use Rattle.ist_core.proofs.LeafOrderLemmas.{next_from_rises, pairs_rise, leaves_lie}
use Rattle.ist_core.proofs.NamingLemmas.{InnerHere, WordsName, inner_here_grows}
use Rattle.ist_core.proofs.HomeLemmas.{mentioned_here}

-- the keys of the row are strictly increasing, if it is an inner row
abbrev pub HasRisingKeys : Piece → Type 0
HasRisingKeys (Inner r) = Rising r.keys
HasRisingKeys _ = Unit {0}

grows_rising : (p q : Piece) → Grows p q → HasRisingKeys p → HasRisingKeys q
grows_rising _ _ leaf_stays h = tt
grows_rising _ _ (inner_grows g) h = subst Rising (sym g.keys) h
grows_rising _ _ (change_grows g) h = tt
grows_rising _ _ (rebuild_grows g) h = tt

-- ---- fresh rows

installed_rising : (first : Snapshot) (log : Log) (at : ℕ) (change : ChangeRow) (fresh : List Row)
    (fits : FitsKind first log change fresh) (base : ℕ) (p : Piece)
    → IsInstalledWith first log at change fresh fits base p → HasRisingKeys p
installed_rising = grind (arith, installed_has)

-- the rows of a root over leaves with strictly increasing keys
root_rising : (ps : Pieces) (word k : ℕ) (leaves : List PlacedLeaf) (target : ℕ) (rows : List ℕ)
    → AreRisingKeys key_of_leaf leaves → IsRoot ps word k leaves target rows → Each (StandsRising ps) rows
root_rising ps word k leaves target rows rise (root_whole ref few e ideal) = split_rises key_of_leaf
    ps ref leaves rows (ideal_splits ps ref leaves target rows ideal) rise
root_rising ps word k leaves target rows rise (root_top base row many e top unset one) =
    grind (arith, StandsRising, Rising, first_keys_after_rise, key_of_leaf, parts_rise)

tree_rising : (ps : Pieces) (rows : List ℕ) (base : ℕ) (p : Piece) → Each (StandsRising ps) rows
    → Among base rows → ps base ≡ Some p → HasRisingKeys p
tree_rising ps rows base p all i e = grind (arith, each-among, StandsRising, known)

module _ (pairs : List Pair) (words : ℕ) (opens : CanOpen pairs words) where
  -- each row that an event publishes
  born_rising : (log : Log) (event : Event) (base : ℕ) (p : Piece)
      → EachEnabled (start pairs words) log → Enabled (start pairs words) log event
      → Born (start pairs words) log base p event → HasRisingKeys p
  born_rising log _ base p e can (by_install {change = at} h born) = grind (arith, installed_rising)
  born_rising log _ base p e can (by_root {rebuild = rebuild} {word = word} {rows = rows} i there) =
      let t = state_of pairs words log in
      let under = target_lies t rebuild can.row can.leaves can.published
      (names pairs words opens log e) (one_home pairs words opens log e)
      (anchor_free pairs words log e) (leaves_lie pairs words opens log e) can.reached in
      tree_rising (with_inners t.pieces rows) (bases_of rows) base p
      (root_rising (with_inners t.pieces rows) word can.k can.leaves can.row.target
      (bases_of rows) under.1 can.root) i there
  born_rising log _ base p e can (by_place {rebuild = rebuild} {i = j} {rows = rows} i there) =
      let t = state_of pairs words log in
      let under = target_lies t rebuild can.row can.leaves can.published
      (names pairs words opens log e) (one_home pairs words opens log e)
      (anchor_free pairs words log e) (leaves_lie pairs words opens log e) can.reached in
      let cut = roots_are_cut pairs words opens log e rebuild can.row can.root can.root_row
      can.published can.root_is can.root_published in
      let two = subst (λ xs. 2 ≤ length xs)
      (same_leaves t.pieces (Some (InnerAt can.row.target)) cut.leaves can.leaves cut.reached
      can.reached) cut.two in
      let rise = part_rises key_of_leaf (parts can.leaves) j can.part
      (parts_rise key_of_leaf can.leaves two under.1) can.part_is in
      tree_rising (with_inners t.pieces rows) (bases_of rows) base p
      (split_rises key_of_leaf (with_inners t.pieces rows) can.ref can.part (bases_of rows)
      (ideal_splits (with_inners t.pieces rows) can.ref can.part can.root (bases_of rows)
      can.ideal) rise) i there

  -- each row of a new table
  start_rising : (base : ℕ) (p : Piece) → (start pairs words).pieces base ≡ Some p → HasRisingKeys p
  start_rising base p e = at (hang.each base p
      (among-pieces_of (rows_from first_row pairs) base p e))
    where
      hang : HangsAs (start pairs words).pieces (tree_at first_row pairs) pairs anchor
          (rows_from first_row pairs) first_row (first_row + ideal_words (length pairs))
      hang = start_hangs pairs words opens anchor (omega arith)

      leaf_rising : (q : Piece) → IsLeafRow q → HasRisingKeys q
      leaf_rising _ (leaf_row r) = tt

      at : IsLeafRow p ⊎ Among base hang.rows → HasRisingKeys p
      at (inl leaf) = leaf_rising p leaf
      at (inr k) = tree_rising (start pairs words).pieces hang.rows base p
          (split_rises (λ pair. pair.key) (start pairs words).pieces (tree_at first_row pairs) pairs
          hang.rows hang.splits (pairs_rise pairs words opens)) k e

  -- after a log from a new table the keys of each inner row are strictly increasing
  pub keys_rising : (log : Log) → EachEnabled (start pairs words) log → (base : ℕ) (p : Piece)
      → (state_of pairs words log).pieces base ≡ Some p → HasRisingKeys p
  keys_rising [] h base p e = start_rising base p e
  keys_rising (event ∷ log) h base q e = at (λ p there. keys_rising log h.0 base p there)
      (comes (start pairs words) log event h.1
      (sound (start pairs words) log (sound_start pairs words) h.0) base q e)
    where
      at : ((p : Piece) → (state_of pairs words log).pieces base ≡ Some p → HasRisingKeys p)
          → Comes (start pairs words) log event base q → HasRisingKeys q
      at before (from_old p there g) = grows_rising p q g (before p there)
      at before (from_born p born g) = grind (arith, grows_rising, born_rising)

  -- ---- the laws

  -- if a key leads to a linked node by what is named, it leads to it by the children for the key
  led_leads : (log : Log) → EachEnabled (start pairs words) log → (key node : ℕ)
      → Linked (state_of pairs words log) node → LedTo (state_of pairs words log) key node
      → Leads (state_of pairs words log) key node
  led_leads log h key _ at_anchor led = from_anchor
  led_leads log h key child (below {node = node} i linked is) led =
      let t = state_of pairs words log in let o = names pairs words opens log h in
      let lies = parent_of t o (one_home pairs words opens log h) (anchor_free pairs words log h)
      child key led node i (child_mentioned t node i child o is) in
      down i (led_leads log h key node linked lies.led) lies.child_for is

  -- a leaf in a slot of a linked node lies where its key leads
  pub leaf_by_key : (log : Log) → EachEnabled (start pairs words) log → (node i word leaf : ℕ)
      (row : LeafRow) → Linked (state_of pairs words log) node
      → SlotHolds (state_of pairs words log) node i word
      → logical (state_of pairs words log).pieces word ≡ Some (LeafAt leaf)
      → (state_of pairs words log).pieces leaf ≡ Some (Leaf row)
      → Leads (state_of pairs words log) row.key node × IsChildFor (state_of pairs words log) node
      row.key i
  leaf_by_key log h node i word leaf row linked slot reads there =
      let t = state_of pairs words log in
      let lies = (leaves_lie pairs words opens log h).each node i leaf
      (leaf_mentioned t node i word leaf (names pairs words opens log h) slot reads) row there
      in (led_leads log h row.key node linked lies.led, lies.child_for)

  -- the leaves below a slot have strictly increasing keys
  leaves_rise : (log : Log) → EachEnabled (start pairs words) log → (node i word : ℕ)
      (leaves : List PlacedLeaf) → SlotHolds (state_of pairs words log) node i word
      → HasLeaves (state_of pairs words log).pieces (logical (state_of pairs words log).pieces word)
      leaves → AreRisingKeys key_of_leaf leaves
  leaves_rise log h node i word leaves slot has = let t = state_of pairs words log in
      let o = names pairs words opens log h in
      (leaves_under t (logical t.pieces word) leaves o (one_home pairs words opens log h)
      (anchor_free pairs words log h) (leaves_lie pairs words opens log h) has node i
      (slot_reads_as t node i word o slot)).1

  -- the keys of the leaves below a slot are strictly increasing, each below the next
  pub leaves_rising : (log : Log) → EachEnabled (start pairs words) log → (node i word : ℕ)
      (leaves : List PlacedLeaf) → SlotHolds (state_of pairs words log) node i word
      → HasLeaves (state_of pairs words log).pieces (logical (state_of pairs words log).pieces word)
      leaves → IsStrictlyIncreasing (map (λ leaf. leaf.row.key) leaves)
  leaves_rising log h node i word leaves slot has = next_from_rises key_of_leaf leaves
      (leaves_rise log h node i word leaves slot has)

  -- the contents have strictly increasing keys
  pub contents_rising : (log : Log) → EachEnabled (start pairs words) log → (contents : List Pair)
      → HasContents (state_of pairs words log) contents
      → IsStrictlyIncreasing (map (λ pair. pair.key) contents)
  contents_rising log h contents has = let t = state_of pairs words log in
      subst (λ xs. IsStrictlyIncreasing (map (λ pair. pair.key) xs)) (sym has.pairs_are)
      (subst IsStrictlyIncreasing (keys_of has.leaves)
      (leaves_rising log h anchor 0 t.anchor has.leaves (in_anchor refl refl refl) has.reached))
    where
      keys_of : (leaves : List PlacedLeaf) → map (λ leaf. leaf.row.key) leaves ≡ map
          (λ pair. pair.key) (map pair_of leaves)
      keys_of [] = refl
      keys_of (x ∷ xs) = ap (λ ks. x.row.key ∷ ks) (keys_of xs)

-- ---- a row on a chain is an inner row, now and later. Serves the image law, at a Count.

-- a row of a chain is the child of a node
chain_child : (t : Snapshot) (node : ℕ) (rows : List ℕ) → Chain t node rows → (row : ℕ)
    → Among row rows → (parent : ℕ) × (i : ℕ) × IsChild t parent i row
chain_child t _ _ no_row row k = absurd k
chain_child t _ _ (one_row {node = node} {child = child} {rows = rows} i chain is) row k = ⊎_elim
    (λ before. chain_child t node rows chain row before)
    (λ last. ⊎_elim (λ e. (node, i, subst (λ b. IsChild t node i b) (sym e) is))
    (λ none. absurd none) last)
    (among-append row rows (child ∷ []) k)

-- a row on a chain is an inner row
chain_inner : (t : Snapshot) (node row : ℕ) → WordsName t
    → (rows : List ℕ) × Chain t node rows × Among row rows → InnerHere t.pieces row
chain_inner t node row names h = let it = chain_child t node h.0 h.1 row h.2 in mentioned_here t
    it.0 it.1 row names (child_mentioned t it.0 it.1 row names it.2)

-- a row on a chain is an inner row after each longer log
pub on_chain_inner : (pairs : List Pair) (words : ℕ) → CanOpen pairs words → (log : Log)
    → EachEnabled (start pairs words) log → (node row : ℕ)
    → WasOnChain (start pairs words) log node row → InnerHere (state_of pairs words log).pieces row
on_chain_inner pairs words opens [] h node row was = chain_inner (start pairs words) node row
    (names pairs words opens [] h) was
on_chain_inner pairs words opens (event ∷ log) h node row (inl now) = chain_inner
    (state_of pairs words (event ∷ log)) node row (names pairs words opens (event ∷ log) h) now
on_chain_inner pairs words opens (event ∷ log) h node row (inr before) =
    inner_here_grows (state_of pairs words log).pieces (state_of pairs words (event ∷ log)).pieces
    (grow_step (start pairs words) log event h.1
    (sound (start pairs words) log (sound_start pairs words) h.0)) row
    (on_chain_inner pairs words opens log h.0 node row before)

-- a node with a chain is linked
pub chain_linked : (t : Snapshot) (node : ℕ) (rows : List ℕ) → Chain t node rows → Linked t node
chain_linked t _ _ no_row = at_anchor
chain_linked t _ _ (one_row {node = node} {rows = rows} i chain is) =
    below i (chain_linked t node rows chain) is

-- a node that is led to is linked
pub leads_linked : (t : Snapshot) (key node : ℕ) → Leads t key node → Linked t node
leads_linked t key _ from_anchor = at_anchor
leads_linked t key _ (down {node = node} i led index c) = below i (leads_linked t key node led) c
