-- By which slots a key leads to a node from the anchor, through what is named for slots: this only
-- grows. Serves the order law.
use Rattle.std.proofs.Common.{◌≡◌, ℕ, List, [], ◌∷◌, Some, None, refl, sym, ap, ◌∙◌, subst, inl, inr, zero, suc, ◌+◌, ◌≤◌, length, drop, slice_get, arith}
use Rattle.ist_core.specs.Types.{Pair, LeafRow, InnerRow, Event}
use Rattle.ist_core.specs.WordTerms.{child_count, anchor, LeafAt, InnerAt, Piece, Leaf, Inner, Change, Rebuild, start, IsChildFor, of_anchor, of_row, part_lens, Ref, ref_of, parts, first_keys, Pieces, in_row}
use Rattle.ist_core.specs.LogTerms.{Snapshot, Log, EachEnabled, CanOpen, state_of, Among, Each}
use Rattle.ist_core.specs.TreeTerms.{Leads, from_anchor, down, WasLedTo}
use Rattle.ist_core.proofs.SoundLemmas.{sound}
use Rattle.ist_core.proofs.StepLemmas.{sound_start, grow_step}
use Rattle.ist_core.proofs.GrowingLemmas.{inner_there}
use Rattle.ist_core.proofs.RoomLemmas.{no_row}
use Rattle.ist_core.proofs.NamingLemmas.{WordsName, LeafHere, SlotNames, RowNames, SideNames, RootNames}
use Rattle.ist_core.proofs.OrderLemmas.{names}
use Rattle.ist_core.proofs.HomeLemmas.{Says, Mentions, HasOneHome, mentioned_here, slot_mentions}
use Rattle.ist_core.proofs.MentionLemmas.{mentions_step, child_mentioned}
use Rattle.ist_core.proofs.OptionLemmas.{same_inner, same_value, same_leaf, each_append, each-among, among_left, among_right}
use Rattle.ist_core.proofs.RisingLemmas.{AreRisingKeys, PartsRise, each_of_cut, part_of_each, parts_rise, child_of_part}
use Rattle.ist_core.proofs.SplitLemmas.{Splits, split_none, split_leaf, split_row, SplitAll, no_split, one_split}

-- the key leads to the node, through slots for the key: the next row on the way is named for each
pub data LedTo (t : Snapshot) (key : ℕ) : ℕ → Type 0 where
  to_anchor : LedTo t key anchor
  to_child : {node child : ℕ} (i : ℕ) → LedTo t key node → IsChildFor t node key i
      → Mentions t node i (InnerAt child) → LedTo t key child

-- the key leads to slot i of the node
pub record LiesIn (t : Snapshot) (key node i : ℕ) : Type 0 where
  pub led : LedTo t key node
  pub child_for : IsChildFor t node key i

-- the leaf lies in slot i of the node as its key leads
abbrev pub LeafLies : Snapshot → ℕ → ℕ → ℕ → Type 0
LeafLies t node i leaf = (r : LeafRow) → t.pieces leaf ≡ Some (Leaf r) → LiesIn t r.key node i

-- all leaves of the table lie as their keys lead
pub record LeavesLie (t : Snapshot) : Type 0 where
  -- a leaf that is named for a slot lies where its key leads
  pub each : (node i leaf : ℕ) → Mentions t node i (LeafAt leaf) → LeafLies t node i leaf

-- ---- one step up

module _ (t : Snapshot) (names : WordsName t) (home : HasOneHome t) (free : t.pieces anchor ≡ None)
  where
    -- a row that is named isn't the anchor
    not_anchor : (node i child : ℕ) → Mentions t node i (InnerAt child) → child ≡ anchor → ⊥
    not_anchor node i child m e = let it = mentioned_here t node i child names m in no_row t.pieces
        child it.0 free e it.1

    -- a key that leads to a row leads to the slot that the row is named for
    pub parent_of : (child key : ℕ) → LedTo t key child → (node i : ℕ)
        → Mentions t node i (InnerAt child) → LiesIn t key node i
    parent_of _ key to_anchor node i m = absurd (not_anchor node i anchor m refl)
    parent_of child key (to_child {node = n} k led for here) node i m =
        let same = home.one n k node i child here m in record {
          led = subst (λ x. LedTo t key x) same.0 led;
          child_for = subst (λ j. IsChildFor t node key j) same.1
              (subst (λ x. IsChildFor t x key k) same.0 for);
        }

    -- what leads to a slot of a row leads to the slot that the row is named for
    pub lies_above : (node i child j key : ℕ) → Mentions t node i (InnerAt child)
        → LiesIn t key child j → LiesIn t key node i
    lies_above node i child j key m lies = parent_of child key lies.led node i m

-- the child for a key is what the keys of the row say
pub child_is : (t : Snapshot) (node key i : ℕ) (r : InnerRow) → t.pieces anchor ≡ None
    → t.pieces node ≡ Some (Inner r) → IsChildFor t node key i → i ≡ child_count r.keys key
child_is t node key i r free e (of_anchor here low) = absurd (no_row t.pieces node r free here e)
child_is t node key i r free e (of_row s f is) = grind (arith, same_inner)

-- a leaf that is named is published
pub mentioned_leaf : (t : Snapshot) (node i leaf : ℕ) → WordsName t → Mentions t node i
    (LeafAt leaf) → LeafHere t.pieces leaf
mentioned_leaf t node i leaf o (inl h) = grind (arith, SlotNames)
mentioned_leaf t node i leaf o (inr h) = at h.1 (o.rows h.0 h.1 h.2) h.3
  where
    at : (p : Piece) → RowNames t.pieces h.0 p → Says h.0 p node i (LeafAt leaf)
        → LeafHere t.pieces leaf
    at (Leaf r) says_names says = absurd says
    at (Inner r) says_names says = grind (arith, SlotNames)
    at (Change r) says_names says = grind (arith, SideNames)
    at (Rebuild r) says_names says = grind (arith, RootNames)

-- a way through logical slots is one through what is named for slots
pub leads_led : (t : Snapshot) (key node : ℕ) → WordsName t → Leads t key node → LedTo t key node
leads_led t key _ o from_anchor = to_anchor
leads_led t key _ o (down {node = node} {child = child} i way for is) = to_child i
    (leads_led t key node o way) for (child_mentioned t node i child o is)

-- ---- growth

module _ (pairs : List Pair) (words : ℕ) (opens : CanOpen pairs words) where
  -- the child for a key stays the same after an event
  pub child_for_step : (log : Log) (event : Event) → EachEnabled (start pairs words) (event ∷ log)
      → (node key i : ℕ) → IsChildFor (state_of pairs words log) node key i
      → IsChildFor (state_of pairs words (event ∷ log)) node key i
  child_for_step log event h node key i (of_anchor a b) = of_anchor a b
  child_for_step log event h node key i (of_row r e is) =
      let grows = grow_step (start pairs words) log event h.1
      (sound (start pairs words) log (sound_start pairs words) h.0) in
      let it = inner_there (state_of pairs words log).pieces
      (state_of pairs words (event ∷ log)).pieces grows node r e in
      of_row it.0 it.1 (is ∙ ap (λ ks. child_count ks key) (sym it.2.keys))

  -- a key that led to a node leads to it after an event
  pub led_step : (log : Log) (event : Event) → EachEnabled (start pairs words) (event ∷ log)
      → (key node : ℕ) → LedTo (state_of pairs words log) key node
      → LedTo (state_of pairs words (event ∷ log)) key node
  led_step log event h key _ to_anchor = to_anchor
  led_step log event h key child (to_child {node = node} i led for m) =
      to_child i (led_step log event h key node led) (child_for_step log event h node key i for)
      (mentions_step pairs words opens log event h node i (InnerAt child) (λ base e. cc)
      (λ e. cc) m)

  -- a key that led to a slot leads to it after an event
  pub lies_step : (log : Log) (event : Event) → EachEnabled (start pairs words) (event ∷ log)
      → (key node i : ℕ) → LiesIn (state_of pairs words log) key node i
      → LiesIn (state_of pairs words (event ∷ log)) key node i
  lies_step log event h key node i lies = record {
    led = led_step log event h key node lies.led;
    child_for = child_for_step log event h node key i lies.child_for;
  }

  -- a key that led to a node by children leads to it by what is named
  pub was_led : (log : Log) → EachEnabled (start pairs words) log → (key node : ℕ)
      → WasLedTo (start pairs words) log key node → LedTo (state_of pairs words log) key node
  was_led [] h key node way = leads_led (start pairs words) key node (names pairs words opens [] h)
      way
  was_led (event ∷ log) h key node (inl way) = leads_led (state_of pairs words (event ∷ log)) key
      node (names pairs words opens (event ∷ log) h) way
  was_led (event ∷ log) h key node (inr before) = led_step log event h key node
      (was_led log h.0 key node before)

-- ---- if the keys of a strictly increasing list lead to the slot of a tree over it, they lead to its
-- leaves. Serves the order law.

-- each leaf in a slot of the row lies there
abbrev pub RowLies : Snapshot → ℕ → Type 0
RowLies u base = (r : InnerRow) → u.pieces base ≡ Some (Inner r) → (i word leaf : ℕ) → slice_get
    r.slots i ≡ Some word → ref_of word ≡ Some (LeafAt leaf) → LeafLies u base i leaf

-- the reference lies there, if it is a leaf
abbrev pub RefLies : Snapshot → ℕ → ℕ → Ref → Type 0
RefLies u node i ref = (leaf : ℕ) → ref ≡ LeafAt leaf → LeafLies u node i leaf

module _ {A : Type 0} (key : A → ℕ) (ps : Pieces) (u : Snapshot)
    (leaf_stands : (base : ℕ) (r : LeafRow) → ps base ≡ Some (Leaf r) → u.pieces base ≡ Some
    (Leaf r)) where
  -- these rows are the same in the table as in the tree
  abbrev pub RowsLie : List ℕ → Type 0
  RowsLie rows = (base : ℕ) (r : InnerRow) → Among base rows → ps base ≡ Some (Inner r) → u.pieces
      base ≡ Some (Inner r)

  -- all keys lead to the slot
  abbrev pub AllLie : List A → ℕ → ℕ → Type 0
  AllLie xs node i = Each (λ x. LiesIn u (key x) node i) xs

  -- the keys that lead to the slot of a row lead to it, and on to the slot of each part
  pub parts_lie : (xs : List A) (node i base : ℕ) (r : InnerRow) → u.pieces base ≡ Some (Inner r)
      → Mentions u node i (InnerAt base) → 2 ≤ length xs
      → r.keys ≡ first_keys key (drop 1 (parts xs))
      → AreRisingKeys key xs → AllLie xs node i → (j : ℕ) (part : List A) → slice_get (parts xs) j ≡ Some
      part → AllLie part base j
  parts_lie xs node i base r e m two keys rise lie j part at =
      let all = part_of_each key (λ x. LiesIn u (key x) node i) (parts xs) j part
      (each_of_cut key (λ x. LiesIn u (key x) node i) (part_lens (length xs)) xs lie) at in
      each_from (λ x. LiesIn u (key x) base j) part
      (λ x k. let lies = each-among (λ y. LiesIn u (key y) node i) x part all k in record {
        led = to_child i lies.led lies.child_for m;
        child_for = of_row r e (sym (child_of_part key (parts xs) j part x
            (parts_rise key xs two rise) at k) ∙ ap (λ ks. child_count ks (key x)) (sym keys));
      })
    where
      each_from : (P : A → Type 0) (ys : List A) → ((x : A) → Among x ys → P x) → Each P ys
      each_from P [] f = tt
      each_from P (y ∷ ys) f = (f y (inl refl), each_from P ys (λ x k. f x (inr k)))

  mutual
    -- if the keys of a strictly increasing list lead to the slot that a tree over the list hangs
    -- in, they lead to the tree's leaves
    pub split_lies : (ref : Ref) (xs : List A) (rows : List ℕ) → Splits key ps ref xs rows
        → RowsLie rows → AreRisingKeys key xs → (node i : ℕ) → Mentions u node i ref
        → AllLie xs node i → Each (RowLies u) rows × RefLies u node i ref
    split_lies _ _ _ split_none stand rise node i m lie = (tt, λ leaf e. absurd (cc))
    split_lies _ _ _ (split_leaf {base = base} {x = x} r e is) stand rise node i m lie = (
      tt,
      λ leaf f s g. let here : base ≡ leaf = cc in
          let same = same_leaf (u.pieces leaf) r s
          (subst (λ b. u.pieces b ≡ Some (Leaf r)) here (leaf_stands base r e)) g in
          subst (λ k. LiesIn u k node i) (sym is ∙ ap (λ y. y.key) same) lie.0,
    )
    split_lies _ xs _ (split_row {base = base} {rows = rows} r e two keys below) stand rise node i m
        lie =
        let there = stand base r (inl refl) e in
        let it = split_all_lies r.slots (parts xs) rows below (λ b s k f. stand b s (inr k) f)
        (parts_rise key xs two rise) base 0
        (λ k j word ref is at named. slot_mentions u base j word ref
        (in_row r there (subst (λ n. slice_get r.slots n ≡ Some word)
        (let same : k ≡ j = omega arith in same) at)) named)
        (λ k j part is at. parts_lie xs node i base r there m two keys rise lie j part
        (subst (λ n. slice_get (parts xs) n ≡ Some part)
        (let same : k ≡ j = omega arith in same) at)) in (
          (
            λ s f j word leaf at named. it.1 j j word leaf (omega arith)
                (subst (λ q. slice_get q.slots j ≡ Some word) (same_inner (u.pieces base) s r f there)
                at) named,
            it.0,
          ),
          λ leaf f. absurd (cc),
        )

    split_all_lies : (words : List ℕ) (following : List (List A)) (rows : List ℕ)
        → SplitAll key ps words following rows → RowsLie rows → PartsRise key following → (base j : ℕ)
        → ((k m word : ℕ) (ref : Ref) → m ≡ j + k → slice_get words k ≡ Some word → ref_of word ≡
        Some ref → Mentions u base m ref)
        → ((k m : ℕ) (part : List A) → m ≡ j + k → slice_get following k ≡ Some part → AllLie part base
        m)
        → Each (RowLies u) rows
        × ((k m word leaf : ℕ) → m ≡ j + k → slice_get words k ≡ Some word → ref_of word ≡ Some
        (LeafAt leaf) → LeafLies u base m leaf)
    split_all_lies _ _ _ no_split stand rise base j named lie =
        (tt, λ k m word leaf is at e. absurd (cc))
    split_all_lies _ _ _ (one_split {word = word} {words = words} {here = here} {rest = rest}
        {part = part} {following = following} ref e first more) stand rise base j named lie =
        let one = split_lies ref part here first (λ b r k f. stand b r (among_left b here rest k) f)
        rise.1 base j (named 0 j word ref (omega arith) refl e) (lie 0 j part (omega arith) refl) in
        let others = split_all_lies words following rest more
        (λ b r k f. stand b r (among_right b here rest k) f) rise.3 base (suc j)
        (λ k m w x is at f. named (suc k) m w x (omega arith) at f)
        (λ k m p is at. lie (suc k) m p (omega arith) at) in (
          each_append (RowLies u) here rest one.0 others.0,
          λ k m w leaf is at f. by_place k m w leaf
              is at f one.1 others.1,
        )
      where
        by_place : (k m w leaf : ℕ) → m ≡ j + k → slice_get (word ∷ words) k ≡ Some w
            → ref_of w ≡ Some (LeafAt leaf) → RefLies u base j ref
            → ((k m w leaf : ℕ) → m ≡ suc j + k → slice_get words k ≡ Some w → ref_of w ≡ Some
            (LeafAt leaf) → LeafLies u base m leaf)
            → LeafLies u base m leaf
        by_place zero m w leaf is at f one others = let same : word ≡ w = cc in
            let here : j ≡ m = omega arith in subst (λ n. LeafLies u base n leaf) here
            (one leaf (same_value (ref_of word) ref (LeafAt leaf) e (ap ref_of same ∙ f)))
        by_place (suc k) m w leaf is at f one others = others k m w leaf (omega arith) at f
