-- The pairs that words hold have strictly increasing keys. Serves `audits.audit_bytes`.
use Rattle.std.proofs.Common.{ℕ, ◌+◌, ◌<◌, List, [], ◌∷◌, ◌++◌, refl, inl, inr, arith}
use Rattle.ist_core.specs.declared.pairs.Pair.{Pair}
use Rattle.ist_core.specs.WordTerms.{child_count, Ref, Empty, Unset, LeafAt, InnerAt, ChangeAt, RebuildAt}
use Rattle.ist_core.specs.LogTerms.{Among, Each}
use Rattle.ist_core.proofs.AllWordLemmas.{each_append, each-among}
use Rattle.ist_core.proofs.AllPlaceLemmas.{child_count_tells, AreRisingKeys, next_from_rises, each_mapped}
use Rattle.ist_rest.specs.WordRows.{Span, row_keys, row_slots, row_degree, leaf_key}
use Rattle.ist_rest.specs.Walks.{Way, Visit, LeadsBy, IsGoodAs, pairs_read, visits_from, visits_below, Walks, ends, goes_on}
use Rattle.ist_rest.specs.RestingWords.{HoldPairs}
use Rattle.plain_map.specs.Rising.{IsRising}

-- ---- slots after others

-- a key leads before the slot: by a way to it, into an earlier child
record IsAbove (key : ℕ) (visit : Visit) : Type 0 where
  pub way : Way
  pub among : Among way visit.ways
  pub less : child_count way.keys key < way.index

-- a slot precedes another: under one row, in an earlier child
record IsBefore (first second : Visit) : Type 0 where
  pub keys : List ℕ
  pub low : ℕ
  pub high : ℕ
  pub one : Among record { keys = keys; index = low } first.ways
  pub other : Among record { keys = keys; index = high } second.ways
  pub less : low < high

-- each slot precedes all later ones
abbrev AreOrdered : List Visit → Type 0
AreOrdered [] = Unit {0}
AreOrdered (visit ∷ visits) = Each (IsBefore visit) visits × AreOrdered visits

-- ---- the ways to the slots below

-- each slot below has the ways of the slot above, after one of its own
below_each : (P : Visit → Type 0) (visit : Visit) (node : ℕ) (keys : List ℕ) (i place : ℕ)
    (slots : List ℕ)
    → ((place word index : ℕ)
    → P record {
      place = place;
      word = word;
      node = node;
      ways = record { keys = keys; index = index } ∷ visit.ways;
    })
    → Each P (visits_from node visit.ways keys i place slots)
below_each P visit node keys i place [] h = tt
below_each P visit node keys i place (s ∷ slots) h =
    (h place s i, below_each P visit node keys (i + 1) (place + 1) slots h)

-- what follows from having the ways of a slot holds of the slots below it
each_below : (words : List ℕ) (visit : Visit) (ref : Ref) (P : Visit → Type 0)
    → ((v : Visit) → ((way : Way) → Among way visit.ways → Among way v.ways) → P v)
    → Each P (visits_below words visit ref)
each_below words visit (InnerAt base) P h =
    below_each P visit base (row_keys words base) 0 (base + 3 + row_degree words base)
    (row_slots words base)
    (λ place word index. h record {
      place = place;
      word = word;
      node = base;
      ways = record { keys = row_keys words base; index = index } ∷ visit.ways;
    } (λ way a. inr a))
each_below words visit Empty P h = tt
each_below words visit Unset P h = tt
each_below words visit (LeafAt base) P h = tt
each_below words visit (ChangeAt base) P h = tt
each_below words visit (RebuildAt base) P h = tt

-- a child precedes those after it
before_later : (node : ℕ) (ways : List Way) (keys : List ℕ) (first : Visit) (low : ℕ)
    → Among record { keys = keys; index = low } first.ways
    → (i place : ℕ) (slots : List ℕ) → low < i
    → Each (IsBefore first) (visits_from node ways keys i place slots)
before_later node ways keys first low a i place [] less = tt
before_later node ways keys first low a i place (s ∷ slots) less = (
  record { keys = keys; low = low; high = i; one = a; other = inl refl; less = less },
  before_later node ways keys first low a (i + 1) (place + 1) slots (omega arith),
)

-- the slots of a row are in order
ordered_from : (node : ℕ) (ways : List Way) (keys : List ℕ) (i place : ℕ) (slots : List ℕ)
    → AreOrdered (visits_from node ways keys i place slots)
ordered_from node ways keys i place [] = tt
ordered_from node ways keys i place (s ∷ slots) = (
  before_later node ways keys record {
    place = place;
    word = s;
    node = node;
    ways = record { keys = keys; index = i } ∷ ways;
  } i (inl refl) (i + 1) (place + 1) slots (omega arith),
  ordered_from node ways keys (i + 1) (place + 1) slots,
)

ordered_below : (words : List ℕ) (visit : Visit) (ref : Ref)
    → AreOrdered (visits_below words visit ref)
ordered_below words visit (InnerAt base) = grind (arith, ordered_from)
ordered_below words visit Empty = tt
ordered_below words visit Unset = tt
ordered_below words visit (LeafAt base) = tt
ordered_below words visit (ChangeAt base) = tt
ordered_below words visit (RebuildAt base) = tt

-- two ordered lists, the first before the second
ordered_append : (xs ys : List Visit) → AreOrdered xs → AreOrdered ys
    → Each (λ x. Each (IsBefore x) ys) xs → AreOrdered (xs ++ ys)
ordered_append [] ys h k b = k
ordered_append (x ∷ xs) ys h k b =
    (each_append (IsBefore x) xs ys h.0 b.0, ordered_append xs ys h.1 k b.1)

-- ---- keys

-- what is found in a slot that a key leads before has a greater key
above_here : (words : List ℕ) (visit : Visit) (key : ℕ) (ref : Ref) → IsGoodAs words visit ref
    → IsAbove key visit → Each (λ (pair : Pair). key < pair.key) (pairs_read words ref)
above_here words visit key (LeafAt base) good h =
    let leads = each-among (LeadsBy (leaf_key words base)) h.way visit.ways good.lies h.among in
    let less = h.less in (child_count_tells h.way.keys key (leaf_key words base) (omega arith), tt)
above_here words visit key Empty good h = tt
above_here words visit key Unset good h = tt
above_here words visit key (InnerAt base) good h = tt
above_here words visit key (ChangeAt base) good h = tt
above_here words visit key (RebuildAt base) good h = tt

-- what a walk finds in slots that a key leads before
all_above : (words : List ℕ) (key : ℕ) (visits : List Visit) (rows : List Span)
    (pairs : List Pair) → Walks words visits rows pairs → Each (IsAbove key) visits
    → Each (λ (pair : Pair). key < pair.key) pairs
all_above words key _ _ _ ends h = tt
all_above words key _ _ _ (goes_on {visit = visit} {visits = visits} {rows = rows}
    {pairs = pairs} at w) h =
    each_append (λ (pair : Pair). key < pair.key) (pairs_read words at.ref) pairs
    (above_here words visit key at.ref at.good h.0)
    (all_above words key (visits_below words visit at.ref ++ visits) rows pairs w
    (each_append (IsAbove key) (visits_below words visit at.ref) visits
    (each_below words visit at.ref (IsAbove key)
    (λ v on. record { way = h.0.way; among = on h.0.way h.0.among; less = h.0.less })) h.1))

-- the pair of a slot is below those that are found after it
here_rises : (words : List ℕ) (visit : Visit) (visits : List Visit) (rows : List Span)
    (pairs : List Pair) (ref : Ref) → IsGoodAs words visit ref
    → Walks words (visits_below words visit ref ++ visits) rows pairs
    → Each (IsBefore visit) visits → AreRisingKeys (λ (p : Pair). p.key) pairs
    → AreRisingKeys (λ (p : Pair). p.key) (pairs_read words ref ++ pairs)
here_rises words visit visits rows pairs (LeafAt base) good w before rises = (
  all_above words (leaf_key words base) visits rows pairs w
      (each_mapped (IsBefore visit) (IsAbove (leaf_key words base)) visits
      (λ v b. let way : Way = record { keys = b.keys; index = b.low } in
      let leads = each-among (LeadsBy (leaf_key words base)) way visit.ways good.lies b.one in
      let less = b.less in record {
        way = record { keys = b.keys; index = b.high };
        among = b.other;
        less = omega arith;
      }) before),
  rises,
)
here_rises words visit visits rows pairs Empty good w before rises = rises
here_rises words visit visits rows pairs Unset good w before rises = rises
here_rises words visit visits rows pairs (InnerAt base) good w before rises = rises
here_rises words visit visits rows pairs (ChangeAt base) good w before rises = rises
here_rises words visit visits rows pairs (RebuildAt base) good w before rises = rises

-- the pairs of a walk over slots in order have strictly increasing keys
walk_rises : (words : List ℕ) (visits : List Visit) (rows : List Span) (pairs : List Pair)
    → Walks words visits rows pairs → AreOrdered visits → AreRisingKeys (λ (p : Pair). p.key) pairs
walk_rises words _ _ _ ends ordered = tt
walk_rises words _ _ _ (goes_on {visit = visit} {visits = visits} {rows = rows} {pairs = pairs}
    at w) ordered =
    let below = visits_below words visit at.ref in
    let on = each_below words visit at.ref (λ v. Each (IsBefore v) visits)
    (λ v more. each_mapped (IsBefore visit) (IsBefore v) visits
    (λ u b. record {
      keys = b.keys;
      low = b.low;
      high = b.high;
      one = more record { keys = b.keys; index = b.low } b.one;
      other = b.other;
      less = b.less;
    }) ordered.0) in
    here_rises words visit visits rows pairs at.ref at.good w ordered.0
    (walk_rises words (below ++ visits) rows pairs w
    (ordered_append below visits (ordered_below words visit at.ref) ordered.1 on))

-- the pairs that words hold have strictly increasing keys
pub held_pairs_rise : (words : List ℕ) (pairs : List Pair) → HoldPairs words pairs → IsRising pairs
held_pairs_rise words pairs h = grind (arith, next_from_rises, walk_rises)
