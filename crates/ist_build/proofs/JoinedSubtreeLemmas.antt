-- Built subtrees put together are a larger one. Serves `building`.
use Rattle.std.proofs.Common.{◌≡◌, ℕ, ◌+◌, ◌-◌, ◌<◌, ◌≤◌, ◌⊎◌, List, [], ◌∷◌, ◌++◌, length, drop, Some, None, slice_get, refl, sym, ap, ◌∙◌, subst, inl, inr, ⊎_elim, arith}
use Rattle.std.proofs.lemmas.List.{map-append}
use Rattle.ist_core.specs.declared.lists.Row.{Row}
use Rattle.ist_core.specs.declared.states.InnerRow.{InnerRow}
use Rattle.ist_core.specs.WordTerms.{degree, no_part, of_more, parts, first_keys, Inner, inner_of, words_of, with_inners, InnerAt, ref_of, inner_words}
use Rattle.ist_core.specs.LogTerms.{Among, Each, Distinct, bases_of, HoldsRow, HoldsRows}
use Rattle.ist_core.specs.TreeTerms.{PlacedLeaf}
use Rattle.ist_core.proofs.AllWordLemmas.{each_append, each-among, with_row-same}
use Rattle.ist_core.proofs.AllEventLemmas.{row_among}
use Rattle.laws_calls.proofs.IdealRowLemmas.{parts_over, right_leaf, right_inner, parts_joined}
use Rattle.ist_rule.specs.RuleTerms.{IsSound, own_at, now}
use Rattle.ist_rule.specs.declared.view.View.{View}
use Rattle.ist_build.specs.Laying.{Rises, OwnsRows, IsLaid}
use Rattle.ist_build.specs.Midway.{words_at, AreLaid, IsOpened}
use Rattle.ist_build.proofs.LayingLemmas.{length-words_at, get-words_at, row_of_words, words_of_row, inner_of_row, rows_free}

-- a base among the bases of rows that lie from a place on does so
high_base : (low base : ℕ) (rows : List Row) → Each (λ row. low ≤ row.base) rows
    → Among base (bases_of rows) → low ≤ base
high_base low base rows high i = grind (arith, row_among, each-among)

low_base : (mid base : ℕ) (rows : List Row) → Each (λ row. row.base < mid) rows
    → Among base (bases_of rows) → base < mid
low_base mid base rows low i = grind (arith, row_among, each-among)

-- rows that lie from a place on lie from a lower one on
pub high_more : (low mid : ℕ) (rows : List Row) → low ≤ mid → Each (λ row. mid ≤ row.base) rows
    → Each (λ row. low ≤ row.base) rows
high_more low mid [] le h = tt
high_more low mid (row ∷ rows) le h =
    let first = h.0 in (omega arith, high_more low mid rows le h.1)

distinct_both : (xs ys : List ℕ) → Distinct xs → Distinct ys
    → ((x : ℕ) → Among x xs → ¬ (Among x ys)) → Distinct (xs ++ ys)
distinct_both [] ys d e apart = e
distinct_both (x ∷ xs) ys d e apart = (
  (λ i. ⊎_elim (λ j. d.0 j) (λ j. apart x (inl refl) j) (split x xs ys i)),
  distinct_both xs ys d.1 e (λ y i. apart y (inr i)),
)
  where
    split : (z : ℕ) (ms bs : List ℕ) → Among z (ms ++ bs) → Among z ms ⊎ Among z bs
    split z [] bs i = inr i
    split z (m ∷ ms) bs (inl e) = inl (inl e)
    split z (m ∷ ms) bs (inr i) = ⊎_elim (λ j. inl (inr j)) (λ j. inr j) (split z ms bs i)

-- what rises below a place, and then from it on, rises
rises_both : (mid : ℕ) (xs ys : List ℕ) → Rises xs → Rises ys
    → ((x : ℕ) → Among x xs → x < mid) → ((y : ℕ) → Among y ys → mid ≤ y) → Rises (xs ++ ys)
rises_both mid [] ys d e low high = e
rises_both mid (x ∷ xs) ys d e low high = (
  each_append (λ y. x < y) xs ys d.0 (above ys high),
  rises_both mid xs ys d.1 e (λ y i. low y (inr i)) high,
)
  where
    above : (zs : List ℕ) → ((y : ℕ) → Among y zs → mid ≤ y) → Each (λ y. x < y) zs
    above [] h = tt
    above (z ∷ zs) h = let first = low x (inl refl) in let second = h z (inl refl) in
        (omega arith, above zs (λ y i. h y (inr i)))

module _ (w : View) (s : IsSound w) (number low mid : ℕ) (le : low ≤ mid) (xs ys : List Row)
    (a : OwnsRows w number low xs) (b : OwnsRows w number mid ys)
    (below : Each (λ row. row.base < mid) xs) where
  both_held : HoldsRows (now w) number (xs ++ ys)
  both_held = each_append (λ row. HoldsRow (now w) number row.base (length row.words)) xs ys a.held b.held

  apart : (base : ℕ) → Among base (bases_of xs) → ¬ (Among base (bases_of ys))
  apart base i j = grind (arith, low_base, high_base)

  -- rows below a place and rows from it on, which the caller owns, are rows that it owns together
  pub owns_both : OwnsRows w number low (xs ++ ys)
  owns_both = record {
    stored = each_append (λ row. (k : ℕ) → k < length row.words
        → slice_get row.words k ≡ Some (own_at w.own (row.base + k))) xs ys a.stored b.stored;
    held = both_held;
    once = subst Distinct (sym (map-append (λ (row : Row). row.base) xs ys))
        (distinct_both (bases_of xs) (bases_of ys) a.once b.once apart);
    rising = subst Rises (sym (map-append (λ (row : Row). row.base) xs ys))
        (rises_both mid (bases_of xs) (bases_of ys) a.rising b.rising
        (λ x i. low_base mid x xs below i) (λ y i. high_base mid y ys b.high i));
    high = each_append (λ row. low ≤ row.base) xs ys a.high (high_more low mid ys le b.high);
  }

  free_both : (base : ℕ) → Among base (bases_of (xs ++ ys)) → (now w).pieces base ≡ None
  free_both base i = rows_free w s number (xs ++ ys) both_held base i

-- one part more is laid
pub are_laid_more : (w : View) → IsSound w → (number low mid above : ℕ) → low ≤ mid → above < mid
    → (words : List ℕ) (following : List (List PlacedLeaf)) (word : ℕ) (part : List PlacedLeaf)
    → (h : AreLaid w number low above words following) → IsLaid w number mid word part
    → Each (λ row. row.base < mid) h.rows
    → AreLaid w number low above (words ++ word ∷ []) (following ++ part ∷ [])
are_laid_more w s number low mid above le less words following word part h p below = record {
  rows = h.rows ++ p.rows;
  owns = owns_both w s number low mid le h.rows p.rows h.owns p.owns below;
  ideal = parts_joined (now w).pieces h.rows p.rows
      (free_both w s number low mid le h.rows p.rows h.owns p.owns below)
      (apart w s number low mid le h.rows p.rows h.owns p.owns below)
      words following above word p.ref part h.ideal p.ref_is (p.ideal above less);
}

-- in the rows of both
pub more_rows : (w : View) (s : IsSound w) (number low mid above : ℕ) (le : low ≤ mid)
    (less : above < mid) (words : List ℕ) (following : List (List PlacedLeaf)) (word : ℕ)
    (part : List PlacedLeaf) (h : AreLaid w number low above words following)
    (p : IsLaid w number mid word part) (below : Each (λ row. row.base < mid) h.rows)
    → (are_laid_more w s number low mid above le less words following word part h p below).rows
    ≡ h.rows ++ p.rows
unfolding are_laid_more
more_rows w s number low mid above le less words following word part h p below = refl

-- nothing is laid
pub are_laid_none : (w : View) (number low above : ℕ) → AreLaid w number low above [] []
are_laid_none w number low above = record {
  rows = [];
  owns = record { stored = tt; held = tt; once = tt; rising = tt; high = tt };
  ideal = no_part;
}

-- the row over parts that were laid is laid
module _ (w : View) (s : IsSound w) (number first base word : ℕ) (leaves : List PlacedLeaf)
    (two : 2 ≤ length leaves) (le : first ≤ base)
    (held : HoldsRow (now w) number base (inner_words (degree (length leaves))))
    (opened : IsOpened w.own base (degree (length leaves)) (length leaves))
    (keys : words_at w.own (base + 4) (degree (length leaves) - 1)
    ≡ first_keys (λ leaf. leaf.row.key) (drop 1 (parts leaves)))
    (h : AreLaid w number (base + inner_words (degree (length leaves))) base
    (words_at w.own (base + 3 + degree (length leaves)) (degree (length leaves))) (parts leaves))
    (degree_two : 2 ≤ degree (length leaves)) (is : ref_of word ≡ Some (InnerAt base)) where
  abbrev d : ℕ
  d = degree (length leaves)

  abbrev r : InnerRow
  r = row_of_words w.own base d

  abbrev top_row : Row
  top_row = record { base = base; words = words_at w.own base (inner_words d) }

  words_are : words_at w.own base (inner_words d) ≡ words_of (Inner r)
  words_are = words_of_row w.own base d degree_two opened.degree_is

  read : inner_of top_row.words ≡ Some (Inner r)
  read = ap inner_of words_are ∙ inner_of_row r (length-words_at w.own (base + 4) (d - 1))

  size_is : length top_row.words ≡ inner_words d
  size_is = length-words_at w.own base (inner_words d)

  owns_top : OwnsRows w number first (top_row ∷ [])
  owns_top = grind (arith, get-words_at, size_is)

  below : Each (λ row. row.base < base + inner_words d) (top_row ∷ [])
  below = ((omega arith), tt)

  le_low : first ≤ base + inner_words d
  le_low = omega arith

  owns_all : OwnsRows w number first (top_row ∷ h.rows)
  owns_all =
      owns_both w s number first (base + inner_words d) le_low (top_row ∷ []) h.rows owns_top h.owns
      below

  free_all : (b : ℕ) → Among b (bases_of (top_row ∷ h.rows)) → (now w).pieces b ≡ None
  free_all =
      free_both w s number first (base + inner_words d) le_low (top_row ∷ []) h.rows owns_top h.owns
      below

  apart_all : (b : ℕ) → Among b (bases_of (top_row ∷ [])) → ¬ (Among b (bases_of h.rows))
  apart_all =
      apart w s number first (base + inner_words d) le_low (top_row ∷ []) h.rows owns_top h.owns
      below

  stands : with_inners (now w).pieces (top_row ∷ h.rows) base ≡ Some (Inner r)
  stands = grind (arith, read, with_row-same)

  -- a row whose first words, keys and slots are stored over laid parts is a laid ideal subtree
  pub laid_top : IsLaid w number first word leaves
  laid_top = record {
    rows = top_row ∷ h.rows;
    owns = owns_all;
    ref = InnerAt base;
    ref_is = is;
    ideal = λ above less. of_more r
        record {
          published = stands;
          two = two;
          higher = omega arith;
          status = opened.status;
          count = opened.count;
          degree = refl;
          size = opened.size_is;
          keys = keys;
        }
        (parts_over (with_inners (now w).pieces h.rows)
        (with_inners (now w).pieces (top_row ∷ h.rows)) (bases_of h.rows)
        (right_leaf (now w).pieces (top_row ∷ []) h.rows free_all apart_all)
        (right_inner (now w).pieces (top_row ∷ []) h.rows free_all apart_all) r.slots
        (parts leaves) base (bases_of h.rows) h.ideal (λ b i. i));
  }

  -- in the row and the rows of its parts
  pub top_rows : laid_top.rows ≡ record { base = base; words = words_at w.own base (inner_words d) } ∷ h.rows
  unfolding laid_top
  top_rows = refl
