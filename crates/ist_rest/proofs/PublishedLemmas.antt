-- The rows of a table at rest, as its words say them. Serves the law on standing words.
-- `laws.standing_words_hold_the_map`.
use Rattle.std.proofs.Common.{◌≡◌, ℕ, ◌+◌, ◌≤◌, List, length, is_some, Option, Some, None, refl, sym, ap, ◌∙◌, subst, arith, length-append, ◌<◌, ◌&&◌, nat_le, if◌then◌else◌, Bool, true, false, [], ◌∷◌, ◌++◌}
use Rattle.std.proofs.lemmas.Option.{get_or_from_slice_get}
use Rattle.std.specs.List.Sorted.{IsStrictlyIncreasing}
use Rattle.ist_core.specs.declared.pairs.Pair.{Pair}
use Rattle.ist_core.specs.declared.states.LeafRow.{LeafRow}
use Rattle.ist_core.specs.declared.states.InnerRow.{InnerRow}
use Rattle.ist_core.specs.WordTerms.{next_place, anchor, anchor_status_place, inner_words, leaf_words, rebuild_words, Ref, Empty, Unset, LeafAt, InnerAt, ChangeAt, RebuildAt, ref_of, open_word, status_of, Piece, Leaf, Inner, Rebuild, size_of, IsImage, StandsAt, SlotHolds, past_change, rebuild_reads, past_rebuild, logical, child_count}
use Rattle.ist_core.specs.LogTerms.{Each, Snapshot, Log, Lawful, state_of}
use Rattle.ist_core.specs.Naming.{HasDegree}
use Rattle.ist_core.specs.TreeTerms.{IsWithin, AllResolved, pairs_between}
use Rattle.ist_core.proofs.AllWordLemmas.{word_of-ref_of}
use Rattle.ist_core.proofs.AllPlaceLemmas.{next_after_fixed, claimed_within, placed, anchor_free, WordsName, SlotNames, slot_names, names, child_above, shaped, LiesIn, slot_reads_as, leaves_lie, next_from_rising, keys_rising, child_count_tells, each_mapped, low_key, high_key}
use Rattle.ist_core.proofs.AllLogLemmas.{next_within}
use Rattle.laws_links.proofs.ResolvedLemmas.{resolved_gone}
use Rattle.ist_rest.specs.WordRows.{word_at, leaf_key, row_degree, row_keys, row_slots, past_change_in, past_rebuild_in, rows_on, IsWithinUsed}
use Rattle.ist_rest.specs.Walks.{Visit, LeadsBy, HasDecision, IsGoodLeaf, IsGoodRow, Reads}
use Rattle.ist_rest.specs.RestingWords.{HasGoodBounds}
use Rattle.laws_calls.proofs.UpLemmas.{row_sized}
use Rattle.ist_rest.proofs.RowLemmas.{first_word, degree_is, size_word, keys_are, slots_are}
use Rattle.std.proofs.lemmas.Bool.Decides.{nat_tests}
use Rattle.std.proofs.lemmas.List.Elements.{filter-append}
use Rattle.std.specs.List.{filter}

-- the words are the image of the state after a lawful log, in which each installed change is
-- resolved
pub record IsStood (pairs : List Pair) (words : List ℕ) (log : Log) : Type 0 where
  pub lawful : Lawful pairs (length words) log
  pub image : IsImage (state_of pairs (length words) log) words
  pub resolved : AllResolved (state_of pairs (length words) log) log

module _ {pairs : List Pair} {words : List ℕ} {log : Log} (s : IsStood pairs words log) where
  abbrev t : Snapshot
  t = state_of pairs (length words) log

  -- each word of the state names what it should
  pub all_names : WordsName t
  all_names = names pairs (length words) s.lawful.opens log s.lawful.enabled

  -- no row is published at the anchor
  pub free : t.pieces anchor ≡ None
  free = anchor_free pairs (length words) log s.lawful.enabled

  -- ---- the fixed words

  next_is : word_at words next_place ≡ t.next
  next_is = get_or_from_slice_get words next_place t.next 0 s.image.next

  high : t.next ≤ length words
  high = grind (arith, next_within)

  -- the words are in bounds
  pub good_bounds : HasGoodBounds words
  good_bounds = let n = next_is in
      let low = next_after_fixed pairs (length words) log s.lawful.enabled in let h = high in
      record {
        least = omega arith;
        most = s.lawful.opens.within;
        low = omega arith;
        high = omega arith;
        anchor_status = get_or_from_slice_get words anchor_status_place open_word 0
            s.image.anchor_status;
        free = λ place k l. let z = s.image.size in get_or_from_slice_get words place 0 0
            (s.image.free place (omega arith) (omega arith));
      }

  -- ---- published rows

  in_table : (base : ℕ) (p : Piece) → t.pieces base ≡ Some p → IsWithin t base (size_of p)
  in_table base p e = claimed_within pairs (length words) log base (size_of p) s.lawful.enabled
      ((placed pairs (length words) log s.lawful.enabled).published base p e)

  within : (base size : ℕ) (p : Piece) → t.pieces base ≡ Some p → size ≡ size_of p
      → IsWithinUsed words record { base = base; size = size }
  within base size p e same = grind (arith, in_table, next_is)

  -- each published row lies within the words
  pub room : (base : ℕ) (p : Piece) → t.pieces base ≡ Some p → base + size_of p ≤ length words
  room base p e = let it = in_table base p e in let b = it.below_next in let h = high in omega arith

  -- ---- what a slot reads as

  -- the slot is one of the table, and a key that leads to it leads by its ways
  pub record IsVisitOfSlot (visit : Visit) (i : ℕ) : Type 0 where
    pub slot : SlotHolds t visit.node i visit.word
    -- a key that leads to this slot leads by each of the ways
    pub led : (key : ℕ) → LiesIn t key visit.node i → Each (LeadsBy key) visit.ways

  -- what is known of a reference in a slot
  abbrev IsToldOf : Option Ref → Type 0
  IsToldOf o = HasDecision words o × Each (IsWithinUsed words) (rows_on words o)
      × (past_rebuild_in words (past_change_in words o) ≡ past_rebuild t.pieces
      (past_change t.pieces o))

  -- a reference in a slot has a known decision, and its rows are within the used words
  pub told : (node i word : ℕ) (o : Option Ref) → SlotHolds t node i word → ref_of word ≡ o
      → SlotNames t.pieces node i o → IsToldOf o
  told node i word None slot e n = absurd n
  told node i word (Some Empty) slot e n = (tt, tt, refl)
  told node i word (Some Unset) slot e n = (tt, tt, refl)
  told node i word (Some (LeafAt base)) slot e n = (tt, tt, refl)
  told node i word (Some (InnerAt base)) slot e n = (tt, tt, refl)
  told node i word (Some (ChangeAt base)) slot e n =
      let same = (word_of-ref_of word (ChangeAt base) e).same_word in
      absurd (resolved_gone pairs (length words) s.lawful.opens log s.lawful.enabled base
      (s.resolved n.row.owner base n.row n.published refl) node i
      (subst (SlotHolds t node i) (sym same) slot))
  told node i word (Some (RebuildAt base)) slot e n = (
    tt,
    (within base rebuild_words (Rebuild n.row) n.published (omega arith), tt),
    ap (λ target. Some (InnerAt target)) (first_word words base (Rebuild n.row)
        (s.image.rows base (Rebuild n.row) n.published) (omega arith))
        ∙ sym (ap rebuild_reads n.published),
  )

  -- a slot reads, by the words, as its logical reference
  pub reading : (visit : Visit) (i : ℕ) (ref : Ref) → IsVisitOfSlot visit i
      → logical t.pieces visit.word ≡ Some ref → Reads words visit.word ref
  reading visit i ref at e =
      let it = told visit.node i visit.word (ref_of visit.word) at.slot refl
      (slot_names t visit.node i visit.word all_names at.slot) in
      record { decision = it.0; through = it.1; is = it.2 ∙ e }

  -- ---- what it reads as is in good shape

  -- a published leaf that a slot reads as is in good shape
  pub good_leaf : (visit : Visit) (i base : ℕ) (r : LeafRow) → IsVisitOfSlot visit i
      → logical t.pieces visit.word ≡ Some (LeafAt base)
      → t.pieces base ≡ Some (Leaf r) → leaf_key words base ≡ r.key → IsGoodLeaf words visit base
  good_leaf visit i base r at e p k =
      let mentions = (slot_reads_as t visit.node i visit.word all_names at.slot).a_leaf base e in
      let lies = (leaves_lie pairs (length words) s.lawful.opens log s.lawful.enabled).each
      visit.node
      i base mentions r p in
      record {
        within = within base leaf_words (Leaf r) p (omega arith);
        lies = subst (λ key. Each (LeadsBy key) visit.ways) (sym k) (at.led r.key lies);
      }

  -- the words of an inner row
  pub stands : (base : ℕ) (r : InnerRow) → t.pieces base ≡ Some (Inner r)
      → StandsAt words base (Inner r)
  stands base r e = s.image.rows base (Inner r) e

  -- a published inner row has a degree
  pub shape : (base : ℕ) (r : InnerRow) → t.pieces base ≡ Some (Inner r) → HasDegree r
  shape base r e = shaped pairs (length words) log s.lawful.enabled base (Inner r) e

  -- the words give a published inner row's keys
  pub keys_there : (base : ℕ) (r : InnerRow) → t.pieces base ≡ Some (Inner r)
      → row_keys words base ≡ r.keys
  keys_there base r e = keys_are words base r (stands base r e) (shape base r e)
      (room base (Inner r) e)

  -- the words give a published inner row's slots
  pub slots_there : (base : ℕ) (r : InnerRow) → t.pieces base ≡ Some (Inner r)
      → row_slots words base ≡ r.slots
  slots_there base r e = slots_are words base r (stands base r e) (shape base r e)
      (room base (Inner r) e)

  -- the words give a published inner row's degree
  pub degree_there : (base : ℕ) (r : InnerRow) → t.pieces base ≡ Some (Inner r)
      → row_degree words base ≡ r.degree
  degree_there base r e = degree_is words base r (stands base r e) (shape base r e)
      (room base (Inner r) e)

  -- a published inner row that a slot reads as is in good shape
  pub good_row : (visit : Visit) (i base : ℕ) (r : InnerRow) → IsVisitOfSlot visit i
      → logical t.pieces visit.word ≡ Some (InnerAt base)
      → t.pieces base ≡ Some (Inner r) → IsGoodRow words visit.node base
  good_row visit i base r at e p =
      let size = row_sized pairs (length words) s.lawful.opens log s.lawful.enabled base r p in
      let d = degree_there base r p in
      let z = size_word words base r (stands base r p) (shape base r p) (room base (Inner r) p) in
      let two = size.degree in let big = size.size in
      let word = first_word words base (Inner r) (stands base r p) (omega arith) in
      let ks = (shape base r p).keys in let ss = (shape base r p).slots in
      let long = length-append r.keys r.slots in record {
        within = within base (inner_words (row_degree words base)) (Inner r) p (omega arith);
        status = ap (λ w. is_some (status_of w)) word ∙ ap is_some size.status_is;
        degree = omega arith;
        size = omega arith;
        keys = subst IsStrictlyIncreasing (sym (keys_there base r p))
            (next_from_rising r.keys (keys_rising pairs (length words) s.lawful.opens log
            s.lawful.enabled base (Inner r) p));
        above = child_above t visit.node i base all_names record {
          word = visit.word;
          holds = at.slot;
          reads = e;
        };
      }

-- ---- which pairs lie between two keys. Serves `listing`.

-- ---- the interval

-- pairs whose keys are below the interval, or above it, are none of it
none_test : (p : Pair → Bool) (pairs : List Pair) → Each (λ pair. p pair ≡ false) pairs
    → filter p pairs ≡ []
none_test p [] h = refl
none_test p (x ∷ xs) h = at (none_test p xs h.1) (p x) refl
  where
    at : filter p xs ≡ [] → (b : Bool) → p x ≡ b → filter p (x ∷ xs) ≡ []
    at none true e = absurd (let f = h.0 in cc)
    at none false e = subst (λ b. (if b then x ∷ filter p xs else filter p xs) ≡ []) (sym e) none

-- a slot before the interval's slots has no pair of the interval
pub none_low : (keys : List ℕ) (first last i : ℕ) (pairs : List Pair) → i < child_count keys first
    → Each (λ pair. LeadsBy pair.key record { keys = keys; index = i }) pairs
    → pairs_between first last pairs ≡ []
none_low keys first last i pairs h lie =
    none_test (λ p. nat_le first p.key && nat_le p.key last) pairs
    (each_mapped (λ pair. LeadsBy pair.key record { keys = keys; index = i })
    (λ p. (nat_le first p.key && nat_le p.key last) ≡ false) pairs
    (λ p e. low_key first last p.key (child_count_tells keys p.key first (omega arith))) lie)

-- a slot after the interval's slots has no pair of the interval
pub none_high : (keys : List ℕ) (first last i : ℕ) (pairs : List Pair) → child_count keys last < i
    → Each (λ pair. LeadsBy pair.key record { keys = keys; index = i }) pairs
    → pairs_between first last pairs ≡ []
none_high keys first last i pairs h lie =
    none_test (λ p. nat_le first p.key && nat_le p.key last) pairs
    (each_mapped (λ pair. LeadsBy pair.key record { keys = keys; index = i })
    (λ p. (nat_le first p.key && nat_le p.key last) ≡ false) pairs
    (λ p e. high_key first last p.key (child_count_tells keys last p.key (omega arith))) lie)

-- the interval of two lists
pub between-append : (first last : ℕ) (xs ys : List Pair) → pairs_between first last
    (xs ++ ys) ≡ pairs_between first last xs ++ pairs_between first last ys
between-append first last xs ys = filter-append (λ p. nat_le first p.key && nat_le p.key last) xs ys

-- an interval that ends before it begins has no pair
pub no_pair : (first last : ℕ) (pairs : List Pair) → last < first → pairs_between first last
    pairs ≡ []
no_pair first last pairs less = none_test (λ p. nat_le first p.key && nat_le p.key last) pairs
    (all pairs)
  where
    all : (ps : List Pair) → Each (λ p. (nat_le first p.key && nat_le p.key last) ≡ false) ps
    all [] = tt
    all (p ∷ ps) = (out_of p.key, all ps)
      where
        out_of : (k : ℕ) → (nat_le first k && nat_le k last) ≡ false
        out_of k = grind (arith, nat_tests)
