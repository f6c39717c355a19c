-- What a build requires and returns, from what it has built. Serves `build`.
use Rattle.std.proofs.Common.{◌≡◌, ◌≢◌, ℕ, ◌+◌, ◌-◌, ◌<◌, ◌≤◌, ◌==◌, true, false, List, [], ◌∷◌, ◌++◌, length, take, drop, Some, slice_index_or, refl, sym, ap, ◌∙◌, subst, append-nil, append_assoc, arith}
use Rattle.std.proofs.lemmas.Bool.Decides.{nat_tests}
use Rattle.std.proofs.lemmas.List.{length-map}
use Rattle.std.specs.List.{flat_map}
use Rattle.ist_core.specs.declared.ports.Full.{Full}
use Rattle.ist_core.specs.WordTerms.{degree, part_len, part_start, first_keys, InnerAt, IsGoodBase, ref_of, word_of, inner_words, shape}
use Rattle.ist_core.specs.TreeTerms.{PlacedLeaf}
use Rattle.ist_core.specs.LogTerms.{HoldsRow}
use Rattle.ist_core.proofs.AllPlaceLemmas.{placed, claimed_within}
use Rattle.ist_core.proofs.AllWordLemmas.{ref_of-word_of, least_degree-le, shape_few, shape_many}
use Rattle.ist_core.proofs.AllLogLemmas.{next_within, words_same}
use Rattle.laws_calls.specs.Dividing.{lens_to, parts_to, share_of}
use Rattle.laws_calls.proofs.PartLemmas.{parts_all, lens_all}
use Rattle.ist_rule.specs.RuleTerms.{IsSound, now}
use Rattle.ist_rule.specs.declared.view.View.{View}
use Rattle.ist_dcss.proofs.FieldLemmas.{good_base}
use Rattle.ist_rows.specs.RowTerms.{IsCaller, IsFull, spares_of, IsInBuild, IsNext, HasTaken, HasRefused}
use Rattle.ist_rows.specs.declared.callers.Caller.{Caller}
use Rattle.ist_build.specs.Laying.{BuiltOn, ArePlaced, HaveLeaves, IsLaid, AreNextRows, IsShort}
use Rattle.ist_build.specs.Midway.{words_at, AreLaid, lens_from, IsOpened, IsMidway, IsTopRowRefused}
use Rattle.ist_build.proofs.BuiltLemmas.{built_more, loads_built, short_for_more}
use Rattle.ist_build.proofs.JoinedSubtreeLemmas.{laid_top}
use Rattle.ist_build.proofs.PartLeafLemmas.{part_placed, length-share_of}
use Rattle.ist_build.proofs.PartsLemmas.{lens_first, lens_last, sizes_left}
use Rattle.ist_rows.proofs.ShortLemmas.{short_from, short_goes_on}

-- ---- few leaves

-- tests of the number of leaves
pub is_none : (n : ℕ) → (n == 0) ≡ true → n ≡ 0
is_none n e = grind (arith, nat_tests)

-- a number below 2 that isn't 0 is 1
pub is_one : (n : ℕ) → (n == 0) ≡ false → n < 2 → n ≡ 1
is_one n e less = let some : n ≢ 0 = grind (arith, nat_tests) in omega arith

-- one leaf
pub one_good : (v : View) → IsSound v → (leaves : List ℕ) → HaveLeaves (now v) leaves
    → length leaves ≡ 1 → IsGoodBase (slice_index_or leaves 0 0)
one_good v s leaves have one = at leaves have.0 have.1 one
  where
    at : (bases : List ℕ) (placed : List PlacedLeaf) → ArePlaced (now v) bases placed
        → length bases ≡ 1 → IsGoodBase (slice_index_or bases 0 0)
    at bases [] a e = absurd (let all = ap length a.bases_are in omega arith)
    at bases (leaf ∷ more) a e = grind (arith, good_base)

-- a build over at most one leaf takes no row
pub small_taken : (who : Caller) (leaves : List ℕ) → length leaves < 2
    → HasTaken who (shape (length leaves)) who
small_taken who leaves few stuck done rest h =
    let e : shape (length leaves) ≡ [] = shape_few (length leaves) few in
    subst (λ xs. IsInBuild who stuck (done ++ xs) rest) (sym e)
    (subst (λ xs. IsInBuild who stuck xs rest) (sym (append-nil done))
    (subst (λ xs. IsInBuild who stuck done (xs ++ rest)) e h))

-- ---- the row

-- its row is the next
pub next_row : (who : Caller) (n d : ℕ) → 2 ≤ n → d ≡ degree n → AreNextRows who n
    → IsNext who (inner_words d)
next_row who n d two same h = grind (arith, shape_many, lens_first)

-- for which too few words are left
pub row_short : (v : View) (words n d : ℕ) (full : Full) (w : View) → 2 ≤ n → d ≡ degree n
    → IsFull v words (inner_words d) full w → IsShort v words n full w
row_short v words n d full w two same f = grind (arith, short_from, loads_built)

-- a refused reservation only made loads, and so built on
pub full_built : (v : View) (words size : ℕ) (full : Full) (w : View) → IsFull v words size full w
    → BuiltOn v w
full_built v words size full w f = loads_built v w (short_goes_on v words full w f)

-- so no row of the build is there, and the caller is where it was
pub row_refused : (old new : Caller) (words n d : ℕ) (full : Full) → 2 ≤ n → d ≡ degree n
    → IsCaller new → new.number ≡ old.number → spares_of new ≡ spares_of old
    → IsFull old.token.view words (inner_words d) full new.token.view → HasRefused new
    → IsTopRowRefused old words n full new
row_refused old new words n d full two same caller number rows f refused = record {
  caller = caller;
  number = number;
  rows = rows;
  built = full_built old.token.view words (inner_words d) full new.token.view f;
  short = row_short old.token.view words n d full new.token.view two same f;
  refused = refused;
}

-- a held row lies at a good base
pub held_good : (v : View) → IsSound v → (number base size : ℕ) → HoldsRow (now v) number base size
    → IsGoodBase base
held_good v s number base size i =
    let it = claimed_within v.start v.words v.log base size s.lawful.enabled
    ((placed v.start v.words v.log s.lawful.enabled).held
    record { caller = number; base = base; size = size } i) in
    let low = it.below_next in let some = it.some in
    let next = next_within v.start v.words s.lawful.opens v.log s.lawful.enabled in
    let all = words_same v.start v.words s.lawful.opens v.log in
    let limit = s.lawful.opens.within in
    record { after_fixed = it.after_fixed; below_limit = omega arith }

-- ---- a part

-- the part as a slice
pub slice_part : (leaves : List ℕ) (n j start len : ℕ) → start ≡ part_start n j → len ≡ part_len n j
    → take (start + len - start) (drop start leaves) ≡ share_of n j leaves
slice_part leaves n j start len start_is len_is = grind arith

module _ (old who : Caller) (leaves : List ℕ) (base d j : ℕ) (m : IsMidway old leaves base d j who)
    (less : j < degree (length leaves)) (some : 1 ≤ part_len (length leaves) j) (own : List ℕ)
    (own_is : own ≡ share_of (length leaves) j leaves) where
  abbrev n : ℕ
  n = length leaves

  -- its leaves are published
  pub part_leaves : HaveLeaves (now old.token.view) leaves → HaveLeaves (now who.token.view) own
  part_leaves have = (
    share_of n j have.0,
    subst (λ bases. ArePlaced (now who.token.view) bases (share_of n j have.0)) (sym own_is)
        (part_placed old.token.view who.token.view m.built n j leaves have.0 have.1),
  )

  -- it has the length of the part
  pub length_own : length own ≡ part_len n j
  length_own = ap length own_is ∙ length-share_of n j leaves refl less

  -- its rows are due
  pub part_due : AreNextRows old n → AreNextRows who (length own)
  part_due h = record {
    stuck = h.stuck;
    done = h.done ++ inner_words d ∷ flat_map shape (lens_to n j);
    rest = flat_map shape (lens_from n (j + 1)) ++ h.rest;
    at = subst (λ k. IsInBuild who h.stuck
        (h.done ++ inner_words d ∷ flat_map shape (lens_to n j))
        (shape k ++ (flat_map shape (lens_from n (j + 1)) ++ h.rest))) (sym length_own)
        (subst (IsInBuild who h.stuck (h.done ++ inner_words d ∷ flat_map shape (lens_to n j)))
        (ap (λ xs. xs ++ h.rest) (sizes_left n j less)
        ∙ append_assoc (shape (part_len n j)) (flat_map shape (lens_from n (j + 1))) h.rest)
        (m.due h.stuck h.done h.rest h.at));
  }

  -- if too few words are left for one of them, too few are left for the whole
  pub part_short : (words : ℕ) (full : Full) (w : View) → length own ≤ n
      → IsShort who.token.view words (length own) full w → IsShort old.token.view words n full w
  part_short words full w le h = grind (arith, short_for_more, built_more)

-- ---- all parts

-- all parts are laid, by the number of leaves
record Facts (who : Caller) (base : ℕ) (placed : List PlacedLeaf) (n : ℕ) : Type 0 where
  held : HoldsRow (now who.token.view) who.number base (inner_words (degree n))
  opened : IsOpened who.token.view.own base (degree n) n
  keys : words_at who.token.view.own (base + 4) (degree n - 1)
      ≡ first_keys (λ leaf. leaf.row.key) (drop 1 (parts_to n (degree n) placed))
  laid : AreLaid who.token.view who.number (base + inner_words (degree n)) base
      (words_at who.token.view.own (base + 3 + degree n) (degree n)) (parts_to n (degree n) placed)
  two : 2 ≤ n

module _ (old who : Caller) (leaves : List ℕ) (base d j : ℕ) (m : IsMidway old leaves base d j who)
    (degree_is : d ≡ degree (length leaves)) (all : j ≡ d) (two : 2 ≤ length leaves) where
  whole : IsMidway old leaves base (degree (length leaves)) (degree (length leaves)) who
  whole = grind arith

  -- once all parts are set, the row is laid
  pub all_laid : (word : ℕ) → word ≡ word_of (InnerAt base) → (placed : List PlacedLeaf)
      → ArePlaced (now old.token.view) leaves placed
      → IsLaid who.token.view who.number (now old.token.view).next word placed
  all_laid word is placed a =
      let k : length placed ≡ length leaves =
      sym (length-map placed (λ (leaf : PlacedLeaf). leaf.base)) ∙ ap length a.bases_are in
      subst (λ n. Facts who base placed n → IsLaid who.token.view who.number (now old.token.view).next
      word placed) k by_length
      record {
        held = whole.held;
        opened = whole.opened;
        keys = whole.keys placed a;
        laid = whole.laid placed a;
        two = two;
      }
    where
      good : ref_of word ≡ Some (InnerAt base)
      good = ap ref_of is ∙ ref_of-word_of (InnerAt base)
          (held_good who.token.view m.built.sound who.number base (inner_words d) m.held)

      by_length : Facts who base placed (length placed)
          → IsLaid who.token.view who.number (now old.token.view).next word placed
      by_length f = grind (arith, laid_top, placed, parts_all, least_degree-le, good)

  -- and all its rows are taken
  pub all_taken : HasTaken old (shape (length leaves)) who
  all_taken stuck done rest h = let n = length leaves in
      let to : flat_map shape (lens_to n (degree n)) ≡ flat_map shape (lens_from n 0) =
      ap (flat_map shape) (lens_all n ∙ sym (lens_first n)) in
      let left : flat_map shape (lens_from n (degree n)) ++ rest ≡ rest =
      ap (λ xs. flat_map shape xs ++ rest) (lens_last n) in
      let done_is : inner_words (degree n) ∷ flat_map shape (lens_to n (degree n)) ≡ shape n =
      ap (λ xs. inner_words (degree n) ∷ flat_map shape xs) (lens_all n) ∙ sym (shape_many n two) in
      subst (λ xs. IsInBuild who stuck (done ++ xs) rest) done_is
      (subst (IsInBuild who stuck (done ++ inner_words (degree n) ∷ flat_map shape
      (lens_to n (degree n)))) left
      (whole.due stuck done rest h))
