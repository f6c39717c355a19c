-- The top row of a shared root as it gets its parts, each Unset, and whole. Serves `build_top`.
use Rattle.std.proofs.Common.{◌≡◌, ℕ, zero, suc, ◌+◌, ◌-◌, ◌<◌, ◌≤◌, List, [], ◌∷◌, ◌++◌, length, take, drop, replicate, Some, refl, sym, ap, ap₂, ◌∙◌, subst, arith}
use Rattle.ist_core.specs.declared.lists.Row.{Row}
use Rattle.ist_core.specs.declared.states.InnerRow.{InnerRow}
use Rattle.ist_core.specs.WordTerms.{degree, part_len, part_start, parts, first_keys, Inner, inner_of, with_row, InnerAt, ref_of, word_of, unset_word, inner_words}
use Rattle.ist_core.specs.TreeTerms.{PlacedLeaf, HasLeaves, IsFinishedWith}
use Rattle.ist_core.specs.LogTerms.{HoldsRow}
use Rattle.ist_core.proofs.AllWordLemmas.{ref_of-word_of, least_degree-le, with_row-same}
use Rattle.ist_rule.specs.RuleTerms.{IsSound, own_at, now}
use Rattle.ist_rule.specs.declared.view.View.{View}
use Rattle.ist_rule.specs.declared.view.OwnWord.{OwnWord}
use Rattle.ist_rows.specs.RowTerms.{IsCaller, sizes_built}
use Rattle.ist_rows.specs.declared.callers.Caller.{Caller}
use Rattle.ist_build.specs.Laying.{BuiltOn, IsTopLaid}
use Rattle.laws_calls.specs.Dividing.{parts_to, share_of}
use Rattle.laws_calls.proofs.PartLemmas.{parts_all, keys_next}
use Rattle.ist_build.specs.Midway.{words_at, IsOpened, IsTopMidway, setting}
use Rattle.ist_build.proofs.BuiltLemmas.{rewritten_built}
use Rattle.ist_build.proofs.BuildingLemmas.{held_good}
use Rattle.ist_build.proofs.RowOpenedLemmas.{opened_on, at_slot, at_key, elsewhere, setting_is}
use Rattle.ist_build.proofs.PartLeafLemmas.{some_first, length-share_of}
use Rattle.ist_build.proofs.LayingLemmas.{length-words_at, get-words_at, words_at_same, words_at_more, row_of_words, words_of_row, inner_of_row}
use Rattle.ist_build.proofs.ReadingLemmas.{leaves_number}
use Rattle.ist_build.proofs.TopBegunLemmas.{leaves_on}

-- ---- after a part

replicate_more : (n x : ℕ) → replicate n x ++ x ∷ [] ≡ replicate (n + 1) x
replicate_more zero x = refl
replicate_more (suc n) x = ap (λ xs. x ∷ xs) (replicate_more n x)
    ∙ ap (λ m. replicate m x) (let q : suc (n + 1) ≡ suc n + 1 = omega arith in q)

-- the first of some elements
take_first : {A : Type 0} (n : ℕ) (xs : List A) (y : A) (ys : List A) → take n xs ≡ y ∷ ys
    → (zs : List A) × (xs ≡ y ∷ zs)
take_first zero xs y ys e = cc
take_first (suc n) [] y ys e = cc
take_first (suc n) (x ∷ xs) y ys e = (xs, let same : x ≡ y = cc in ap (λ z. z ∷ xs) same)

module _ (old who : Caller) (target k base d j key : ℕ) (s : IsSound old.token.view)
    (finished : IsFinishedWith (now old.token.view) target k)
    (m : IsTopMidway old target k base d j who) (d_is : d ≡ degree k) (less : j < d)
    (some : 1 ≤ part_len k j)
    (key_is : (leaves : List PlacedLeaf)
    → HasLeaves (now old.token.view).pieces (Some (InnerAt target)) leaves
    → (leaf : PlacedLeaf) (others : List PlacedLeaf) → share_of k j leaves ≡ leaf ∷ others
    → key ≡ leaf.row.key) where
  abbrev v : View
  v = who.token.view

  abbrev words : List OwnWord
  words = (setting v base d j key unset_word).own

  abbrev w : View
  w = record v { own = words }

  abbrev set : Caller
  set = record who { token = record who.token { view = w } }

  slots_more : words_at words (base + 3 + d) (j + 1) ≡ replicate (j + 1) unset_word
  slots_more = grind (arith, words_at_more, words_at_same, elsewhere, at_slot, replicate_more)

  first_part : (leaves : List PlacedLeaf)
      → HasLeaves (now old.token.view).pieces (Some (InnerAt target)) leaves
      → (leaf : PlacedLeaf) × (others : List PlacedLeaf) × (share_of k j leaves ≡ leaf ∷ others)
  first_part leaves has = let many = leaves_number old.token.view s target k finished leaves has in
      let len = length-share_of k j leaves many (let q : j < degree k = omega (arith, d_is) in q) in
      let one = some in some_first (share_of k j leaves) (omega arith)

  keys_more : (leaves : List PlacedLeaf)
      → HasLeaves (now old.token.view).pieces (Some (InnerAt target)) leaves
      → words_at words (base + 4) (j + 1 - 1)
      ≡ first_keys (λ leaf. leaf.row.key) (drop 1 (parts_to k (j + 1) leaves))
  keys_more leaves has = at j refl
    where
      at : (i : ℕ) → i ≡ j → words_at words (base + 4) (i + 1 - 1)
          ≡ first_keys (λ (leaf : PlacedLeaf). leaf.row.key) (drop 1 (parts_to k (i + 1) leaves))
      at zero e = refl
      at (suc i) e = let one : 1 ≤ j = omega arith in let it = first_part leaves has in
          let place : base + 4 + (j - 1) ≡ base + 3 + j = omega arith in
          ap (words_at words (base + 4)) (let q : suc i + 1 - 1 ≡ j - 1 + 1 = omega arith in q)
          ∙ words_at_more words (base + 4) (j - 1)
          ∙ ap₂ (λ xs x. xs ++ x ∷ [])
          (words_at_same words v.own (base + 4) (j - 1)
          (λ p low high. elsewhere v base d j key unset_word less p (λ f. omega arith)
          (λ g f. omega arith))
          ∙ m.keys leaves has)
          (ap (own_at words) place ∙ at_key v base d j key unset_word less one
          ∙ key_is leaves has it.0 it.1 it.2)
          ∙ sym (keys_next k j leaves it.0 it.1 one it.2)
          ∙ ap (λ n. first_keys (λ (leaf : PlacedLeaf). leaf.row.key)
          (drop 1 (parts_to k (n + 1) leaves))) (sym e)

  top_more : IsCaller set → IsSound w → IsTopMidway old target k base d (j + 1) set
  top_more caller sound =
      grind (arith, rewritten_built, elsewhere, opened_on, slots_more, keys_more)

  -- when slot j is set to Unset with its key, the half-built top row has one slot more
  pub top_set : (last : Caller) (word : ℕ) → word ≡ unset_word
      → last ≡ record who { token = record who.token { view = setting v base d j key word } }
      → IsCaller last → IsSound last.token.view → IsTopMidway old target k base d (j + 1) last
  top_set last word unset is caller sound = grind (arith, setting_is, top_more)

-- the loaded key is the key of the part's first leaf
pub key_first : (old who : Caller) (target k j start key : ℕ) → BuiltOn old.token.view who.token.view
    → IsFinishedWith (now old.token.view) target k → start ≡ part_start k j
    → ((leaves : List PlacedLeaf)
    → HasLeaves (now who.token.view).pieces (Some (InnerAt target)) leaves
    → (leaf : PlacedLeaf) (others : List PlacedLeaf) → drop start leaves ≡ leaf ∷ others
    → key ≡ leaf.row.key)
    → (leaves : List PlacedLeaf)
    → HasLeaves (now old.token.view).pieces (Some (InnerAt target)) leaves
    → (leaf : PlacedLeaf) (others : List PlacedLeaf) → share_of k j leaves ≡ leaf ∷ others
    → key ≡ leaf.row.key
key_first old who target k j start key b f is told leaves has leaf others e =
    let it = take_first (part_len k j) (drop (part_start k j) leaves) leaf others e in
    told leaves (leaves_on old.token.view who.token.view b target k f leaves has) leaf it.0
    (ap (λ n. drop n leaves) is ∙ it.1)

-- ---- the whole

module _ (w : View) (number low base word : ℕ) (leaves : List PlacedLeaf)
    (two : 2 ≤ length leaves) (le : low ≤ base)
    (held : HoldsRow (now w) number base (inner_words (degree (length leaves))))
    (opened : IsOpened w.own base (degree (length leaves)) (length leaves))
    (keys : words_at w.own (base + 4) (degree (length leaves) - 1)
    ≡ first_keys (λ leaf. leaf.row.key) (drop 1 (parts leaves)))
    (slots : words_at w.own (base + 3 + degree (length leaves)) (degree (length leaves))
    ≡ replicate (degree (length leaves)) unset_word)
    (is : ref_of word ≡ Some (InnerAt base)) where
  abbrev d : ℕ
  d = degree (length leaves)

  abbrev r : InnerRow
  r = row_of_words w.own base d

  abbrev top_row : Row
  top_row = record { base = base; words = words_at w.own base (inner_words d) }

  read : inner_of top_row.words ≡ Some (Inner r)
  read = ap inner_of (words_of_row w.own base d (least_degree-le (length leaves)) opened.degree_is)
      ∙ inner_of_row r (length-words_at w.own (base + 4) (d - 1))

  size_is : length top_row.words ≡ inner_words d
  size_is = length-words_at w.own base (inner_words d)

  -- when all slots are Unset, with their keys, the word is the top row over the leaves
  pub top_laid : IsTopLaid w number low word leaves
  top_laid = record {
    rows = top_row ∷ [];
    owns = record {
      stored = (
        (λ n less. get-words_at w.own base (inner_words d) n (subst (λ m. n < m) size_is less)),
        tt,
      );
      held = (subst (HoldsRow (now w) number base) (sym size_is) held, tt);
      once = ((λ i. i), tt);
      rising = (tt, tt);
      high = (le, tt);
    };
    base = base;
    row = r;
    ref_is = is;
    top = λ above less. record {
      published = ap (λ o. with_row (now w).pieces base o base) read
          ∙ with_row-same (now w).pieces base (Inner r);
      two = two;
      higher = omega arith;
      status = opened.status;
      count = opened.count;
      degree = refl;
      size = opened.size_is;
      keys = keys;
    };
    unset = slots;
    one = refl;
  }

-- all slots are Unset, by the number of leaves
record Facts (who : Caller) (base : ℕ) (leaves : List PlacedLeaf) (n : ℕ) : Type 0 where
  held : HoldsRow (now who.token.view) who.number base (inner_words (degree n))
  opened : IsOpened who.token.view.own base (degree n) n
  keys : words_at who.token.view.own (base + 4) (degree n - 1)
      ≡ first_keys (λ leaf. leaf.row.key) (drop 1 (parts_to n (degree n) leaves))
  slots : words_at who.token.view.own (base + 3 + degree n) (degree n) ≡ replicate (degree n) unset_word
  pub two : 2 ≤ n

-- after the last slot the top row is built
pub all_top : (old who : Caller) (target k base d j word : ℕ) → IsSound old.token.view
    → IsFinishedWith (now old.token.view) target k → 2 ≤ k
    → IsTopMidway old target k base d j who → d ≡ degree k → j ≡ d
    → word ≡ word_of (InnerAt base) → (leaves : List PlacedLeaf)
    → HasLeaves (now old.token.view).pieces (Some (InnerAt target)) leaves
    → IsTopLaid who.token.view who.number (now old.token.view).next word leaves
all_top old who target k base d j word s f two m d_is all is leaves has =
    let many = leaves_number old.token.view s target k f leaves has in
    let whole = subst (λ n. IsTopMidway old target k base n (degree k) who) d_is
    (subst (λ n. IsTopMidway old target k base d n who) (all ∙ d_is) m) in
    by_length (subst (Facts who base leaves) (sym many)
    record {
      held = whole.held;
      opened = whole.opened;
      keys = whole.keys leaves has;
      slots = whole.slots;
      two = two;
    })
  where
    good : ref_of word ≡ Some (InnerAt base)
    good = ap ref_of is ∙ ref_of-word_of (InnerAt base)
        (held_good who.token.view m.built.sound who.number base (inner_words d) m.held)

    by_length : Facts who base leaves (length leaves)
        → IsTopLaid who.token.view who.number (now old.token.view).next word leaves
    by_length x =
        top_laid who.token.view who.number (now old.token.view).next base word leaves x.two m.high x.held
        x.opened
        (x.keys ∙ ap (λ ps. first_keys (λ (leaf : PlacedLeaf). leaf.row.key) (drop 1 ps))
        (parts_all leaves))
        x.slots good

-- a build of the top row took only this row
pub top_sizes : (old who : Caller) (target k base d j : ℕ) → IsTopMidway old target k base d j who
    → d ≡ degree k → sizes_built who ≡ sizes_built old ++ inner_words (degree k) ∷ []
top_sizes old who target k base d j m is = grind arith
