-- The keys of leaves, as they were loaded before anything was stored: of all leaves, and of a part.
-- Serves `load_keys` and `build`.
use Rattle.std.proofs.Common.{◌≡◌, ℕ, zero, suc, ◌+◌, ◌<◌, ◌≤◌, List, [], ◌∷◌, ◌++◌, length, map, take, drop, Some, slice_index_or, slice_set, refl, sym, ap, ◌∙◌, subst, arith, inr}
use Rattle.std.proofs.lemmas.List.{take_all, take_more_set}
use Rattle.std.proofs.Math.Seq.{take-suc}
use Rattle.ist_core.specs.declared.states.LeafRow.{LeafRow}
use Rattle.ist_core.specs.declared.events.Event.{Event}
use Rattle.ist_core.specs.declared.events.Who.{Who}
use Rattle.ist_core.specs.LogTerms.{Each, Snapshot, one_more, LaterBy, Log}
use Rattle.ist_core.specs.TreeTerms.{AllGrow, PlacedLeaf}
use Rattle.ist_core.specs.WordTerms.{Leaf, start}
use Rattle.ist_core.proofs.AllLogLemmas.{leaf_there}
use Rattle.laws_calls.specs.Dividing.{share_of}
use Rattle.ist_rule.specs.RuleTerms.{now, GoesOnTo, IsSound, own_at}
use Rattle.ist_rule.specs.declared.view.View.{View}
use Rattle.ist_rows.specs.RowTerms.{reservings, ReservedAll}
use Rattle.ist_rows.specs.declared.callers.Caller.{Caller}
use Rattle.ist_build.specs.Laying.{ArePlaced, HaveLeaves, IsLeaf, IsKeyOf, AreKeysOf, LaidOn, BuiltOn, IsReservation}
use Rattle.ist_build.specs.Midway.{IsMidway}
use Rattle.ist_build.proofs.BuiltLemmas.{leaf_goes_on, built_grow, loads_built, built_more, next_between}
use Rattle.ist_build.proofs.PartLeafLemmas.{part_placed}
use Rattle.ist_rule.specs.Several.{with_events, made_after_all, LoggedAll}
use Rattle.ist_rule.proofs.ListLogLemmas.{enabled_before}
use Rattle.ist_rule.proofs.WentOnLemmas.{later_by}
use Rattle.ist_rows.proofs.BlockLemmas.{none_made, took_all}

-- keys stay as rows grow
pub keys_on : (t u : Snapshot) → AllGrow t.pieces u.pieces → (bases keys : List ℕ)
    → AreKeysOf t bases keys → AreKeysOf u bases keys
keys_on t u g [] [] h = tt
keys_on t u g (base ∷ bases) (key ∷ keys) h = (
  record {
    row = h.0.row;
    published = leaf_there t.pieces u.pieces g base h.0.row h.0.published;
    key_is = h.0.key_is;
  },
  keys_on t u g bases keys h.1,
)
keys_on t u g [] (key ∷ keys) h = h
keys_on t u g (base ∷ bases) [] h = h

-- one more comes last
pub keys_last : (t : Snapshot) (bases keys : List ℕ) (base key : ℕ) → AreKeysOf t bases keys
    → IsKeyOf t base key → AreKeysOf t (bases ++ base ∷ []) (keys ++ key ∷ [])
keys_last t [] [] base key h k = (k, tt)
keys_last t (b ∷ bases) (x ∷ keys) base key h k = (h.0, keys_last t bases keys base key h.1 k)
keys_last t [] (x ∷ keys) base key h k = absurd h
keys_last t (b ∷ bases) [] base key h k = absurd h

-- each of them
pub leaf_here : (t : Snapshot) (bases : List ℕ) (i : ℕ) → HaveLeaves t bases → i < length bases
    → IsLeaf t (slice_index_or bases i 0)
leaf_here t bases i have less = at bases have.0 have.1.bases_are have.1.published i less
  where
    at : (bases : List ℕ) (placed : List PlacedLeaf) → map (λ leaf. leaf.base) placed ≡ bases
        → Each (λ leaf. t.pieces leaf.base ≡ Some (Leaf leaf.row)) placed → (i : ℕ)
        → i < length bases → IsLeaf t (slice_index_or bases i 0)
    at bases [] is all i less = absurd (let none = ap length is in omega arith)
    at bases (leaf ∷ placed) is all zero less = subst (λ xs. IsLeaf t (slice_index_or xs 0 0)) is
        record { row = leaf.row; published = all.0 }
    at bases (leaf ∷ placed) is all (suc i) less =
        subst (λ xs. suc i < length xs → IsLeaf t (slice_index_or xs (suc i) 0)) is
        (λ l. at (map (λ x. x.base) placed) placed refl all.1 i (omega arith)) less

-- one more key is stored after those before it
pub keys_set : (t u : Snapshot) → AllGrow t.pieces u.pieces → (leaves keys : List ℕ) (i key : ℕ)
    → i < length leaves → length keys ≡ length leaves
    → AreKeysOf t (take i leaves) (take i keys) → IsKeyOf u (slice_index_or leaves i 0) key
    → AreKeysOf u (take (i + 1) leaves) (take (i + 1) (slice_set keys i key))
keys_set t u g leaves keys i key less many h k =
    subst (λ xs. AreKeysOf u xs (take (i + 1) (slice_set keys i key)))
    (sym (ap (λ n. take n leaves) (let q : i + 1 ≡ suc i = omega arith in q)
    ∙ take-suc leaves i 0 less))
    (subst (AreKeysOf u (take i leaves ++ slice_index_or leaves i 0 ∷ []))
    (sym (take_more_set keys i key (omega arith)))
    (keys_last u (take i leaves) (take i keys) (slice_index_or leaves i 0) key
    (keys_on t u g (take i leaves) (take i keys) h) k))

-- each of them is a leaf after loads too
pub leaf_after : (v w : View) (leaves : List ℕ) (i : ℕ) → HaveLeaves (now v) leaves
    → i < length leaves → GoesOnTo v w → IsLeaf (now w) (slice_index_or leaves i 0)
leaf_after v w leaves i have less g = let it = leaf_here (now v) leaves i have less in
    record { row = it.row; published = leaf_goes_on v w g (slice_index_or leaves i 0) it.row it.published }

-- the key of the next leaf was loaded, and is stored after those before it
pub keys_more : (v u w : View) (leaves keys : List ℕ) (i key : ℕ) → HaveLeaves (now v) leaves
    → i < length leaves → length keys ≡ length leaves → GoesOnTo v u → GoesOnTo u w
    → AreKeysOf (now u) (take i leaves) (take i keys)
    → ((row : LeafRow) → (now u).pieces (slice_index_or leaves i 0) ≡ Some (Leaf row)
    → key ≡ row.key)
    → AreKeysOf (now w) (take (i + 1) leaves) (take (i + 1) (slice_set keys i key))
keys_more v u w leaves keys i key have less many first second before told =
    let it = leaf_after v u leaves i have less first in
    keys_set (now u) (now w) (built_grow u w (loads_built u w second)) leaves keys i key less many before
    record {
      row = it.row;
      published = leaf_goes_on u w second (slice_index_or leaves i 0) it.row it.published;
      key_is = told it.row it.published;
    }

-- after the last leaf all are loaded
pub keys_all : (t : Snapshot) (leaves keys : List ℕ) (i : ℕ) → length leaves ≤ i
    → length keys ≡ length leaves → AreKeysOf t (take i leaves) (take i keys)
    → AreKeysOf t leaves keys
keys_all t leaves keys i end many h = grind (arith, take_all)

-- the first ones, and those after them
keys_take : (t : Snapshot) (n : ℕ) (bases keys : List ℕ) → AreKeysOf t bases keys
    → AreKeysOf t (take n bases) (take n keys)
keys_take t zero bases keys h = tt
keys_take t (suc n) [] [] h = tt
keys_take t (suc n) (base ∷ bases) (key ∷ keys) h = (h.0, keys_take t n bases keys h.1)
keys_take t (suc n) [] (key ∷ keys) h = absurd h
keys_take t (suc n) (base ∷ bases) [] h = absurd h

keys_drop : (t : Snapshot) (n : ℕ) (bases keys : List ℕ) → AreKeysOf t bases keys
    → AreKeysOf t (drop n bases) (drop n keys)
keys_drop t zero bases keys h = h
keys_drop t (suc n) [] [] h = tt
keys_drop t (suc n) (base ∷ bases) (key ∷ keys) h = keys_drop t n bases keys h.1
keys_drop t (suc n) [] (key ∷ keys) h = absurd h
keys_drop t (suc n) (base ∷ bases) [] h = absurd h

-- the keys of a part are its leaves' keys
pub keys_share : (t : Snapshot) (n j : ℕ) (bases keys : List ℕ) → AreKeysOf t bases keys
    → AreKeysOf t (share_of n j bases) (share_of n j keys)
keys_share t n j bases keys h = grind (arith, keys_take, keys_drop)

-- the first key is the first leaf's key
pub key_first : (t : Snapshot) (bases keys : List ℕ) → AreKeysOf t bases keys → (leaf : PlacedLeaf)
    (others : List PlacedLeaf) → leaf.base ∷ map (λ l. l.base) others ≡ bases
    → t.pieces leaf.base ≡ Some (Leaf leaf.row) → slice_index_or keys 0 0 ≡ leaf.row.key
key_first t (base ∷ bases) (key ∷ keys) h leaf others is there = grind arith
key_first t [] [] h leaf others is there = absurd (cc)
key_first t [] (key ∷ keys) h leaf others is there = absurd h
key_first t (base ∷ bases) [] h leaf others is there = absurd h

-- ---- a part

module _ (old who : Caller) (leaves keys : List ℕ) (base d j : ℕ)
    (m : IsMidway old leaves base d j who) (have : AreKeysOf (now old.token.view) leaves keys)
    (own_keys : List ℕ) (keys_are : own_keys ≡ share_of (length leaves) j keys) where
  abbrev n : ℕ
  n = length leaves

  shared : AreKeysOf (now who.token.view) (share_of n j leaves) (share_of n j keys)
  shared = grind (arith, keys_share, keys_on, built_grow)

  -- its keys are its leaves' keys
  pub part_keys : (own : List ℕ) → own ≡ share_of n j leaves
      → AreKeysOf (now who.token.view) own own_keys
  part_keys own own_is = grind (arith, shared)

  -- and the first is its first leaf's key
  pub part_key : (placed : List PlacedLeaf) → ArePlaced (now old.token.view) leaves placed
      → (leaf : PlacedLeaf) (others : List PlacedLeaf) → share_of n j placed ≡ leaf ∷ others
      → slice_index_or own_keys 0 0 ≡ leaf.row.key
  part_key placed a leaf others is =
      let it = subst (ArePlaced (now who.token.view) (share_of n j leaves)) is
      (part_placed old.token.view who.token.view m.built n j leaves placed a) in
      ap (λ xs. slice_index_or xs 0 0) keys_are
      ∙ key_first (now who.token.view) (share_of n j leaves) (share_of n j keys) shared leaf others
      it.bases_are it.published.0

-- ---- a caller that reserved rows at one step has built on, and where the rows lie. Serves
-- `build_at_once`.

-- a log that goes on by own events of which P is true
later_all : {who : Who} {P : Event → Type 0} {a : Log} (events : List Event) (log : Log)
    → LaterBy who P a log → Each P events → LaterBy who P a (with_events events log)
later_all [] log l h = l
later_all (event ∷ more) log l h = later_all more (event ∷ log) (one_more event l (inr h.0)) h.1

-- a caller laid on by several events
pub logged_all_laid : (P : Event → Type 0) (v : View) (events : List Event) (w : View)
    → LoggedAll v events w → Each P events → made_after_all events v.made ≡ v.made → LaidOn P v w
logged_all_laid P v events w l is made = grind (arith, later_all, later_by)

are_reservings : (number base : ℕ) (sizes : List ℕ) → Each IsReservation (reservings number base sizes)
are_reservings number base [] = tt
are_reservings number base (size ∷ more) = (tt, are_reservings number (base + size) more)

-- a caller that reserved rows at one step has built on
pub reserved_all_built : (v : View) (number base : ℕ) (sizes : List ℕ) (w : View)
    → ReservedAll v number base sizes w → BuiltOn v w
reserved_all_built v number base sizes w r = built_more v r.before w (loads_built v r.before r.seen)
    (logged_all_laid IsReservation r.before (reservings number base sizes) w r.reserved
    (are_reservings number base sizes) (none_made number base sizes r.before.made))

-- where the rows lie: from the first free word on, and their words are 0
pub record IsFreshBlock (v : View) (base : ℕ) (w : View) : Type 0 where
  pub high : (now v).next ≤ base
  -- the caller's own word at each place from the first row on is 0
  pub zero_words : (place : ℕ) → base ≤ place → own_at w.own place ≡ 0

-- rows reserved at one step are a fresh block
pub fresh_block : (v : View) → IsSound v → (number base : ℕ) (sizes : List ℕ) → 1 ≤ length sizes
    → (w : View) → ReservedAll v number base sizes w → IsFreshBlock v base w
fresh_block v s number base [] some w r = absurd (omega arith)
fresh_block v s number base (size ∷ more) some w r =
    let it = took_all v number base (size ∷ more) w r in
    let here = enabled_before (start v.start v.words) (reservings number (base + size) more) _
    it.lawful.enabled in
    let up = next_between v.start v.words v.who IsReservation v.log it.before here.0
    (later_by it.later) in
    let at_next = here.1.base_is in
    let own_is : w.own ≡ v.own = ap (λ x. x.own) r.reserved.view ∙ ap (λ x. x.own) r.seen.same in
    record {
      high = omega arith;
      zero_words = λ place le. ap (λ o. own_at o place) own_is
          ∙ s.is_true.fresh place (omega arith);
    }
