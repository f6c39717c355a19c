-- A list cut into parts, one part at a time, and the first keys of the parts. Serves `ideals.rt`.
use Rattle.std.proofs.Common.{◌≡◌, ◌≢◌, ◌↔◌, ◌∙◌, ◌≤◌, ◌<◌, ◌-◌, ◌+◌, ℕ, zero, suc, min, List, [], ◌∷◌, length, take, drop, get_or, slice_get, IsTrue, Bool, refl, sym, ap, arith, length-drop, ◌++◌, Some, None, subst, append_assoc, length-append}
use Rattle.std.proofs.lemmas.List.{take_all, take_min, nil_from_length}
use Rattle.std.proofs.lemmas.Bool.{cases_lt}
use Rattle.std.proofs.Math.ListN.{drop_of_length-le}
use Rattle.ist_core.specs.WordTerms.{part_len, cut, first_keys, degree, part_lens, parts}
use Rattle.ist_core.specs.TreeTerms.{PlacedLeaf}
use Rattle.check_fairness.proofs.AnswerLemmas.{following}
use Rattle.check_builds.specs.Built.{part_lens_from, key_of_leaf, BuildsAll, builds_end, builds_part, BuildsAt, CountsRows}
use Rattle.check_builds.proofs.GatherLemmas.{first_word}
use Rattle.ist_core.specs.declared.lists.Row.{Row}
use Rattle.check_builds.proofs.BuiltLemmas.{both_taken}

module _ {A : Type 0} where
  -- what is left of a list from a place on
  abbrev pub from : List A → ℕ → List A
  from xs end = take (length xs - end) (drop end xs)

  -- it is the list without those before
  pub from-drop : (xs : List A) (end : ℕ) → from xs end ≡ drop end xs
  from-drop xs end = let l = length-drop end xs in take_all (length xs - end) (drop end xs)
      (omega arith)

  -- a list without more elements than it has
  pub drop_min : (n : ℕ) (xs : List A) → drop (min n (length xs)) xs ≡ drop n xs
  drop_min n xs = grind (arith, drop_of_length-le, cases_lt)

  -- a list cut from part j on is part j, followed by the rest cut from the next part on
  pub cut_first : (n j left end : ℕ) (xs : List A) → left ≢ 0 → end ≡ min (part_len n j) (length xs)
      → cut (part_lens_from n j left) xs ≡ take end xs ∷ cut (part_lens_from n (j + 1) (left - 1))
      (from xs end)
  cut_first n j zero end xs some is = absurd (some refl)
  cut_first n j (suc left) end xs some is = grind (arith, take_min, drop_min, from-drop)

  -- a later part is one of those after the first
  pub nth_more : (n j left end i : ℕ) (xs : List A) → left ≢ 0 → end ≡ min (part_len n j)
      (length xs) → i ≢ 0
      → slice_get (cut (part_lens_from n (j + 1) (left - 1)) (from xs end)) (i - 1)
      ≡ slice_get (cut (part_lens_from n j left) xs) i
  nth_more n j left end zero xs some is ne = absurd (ne refl)
  nth_more n j left end (suc i) xs some is ne = grind (arith, cut_first)

  -- a list cut into no part
  pub cut_last : (n j left : ℕ) (xs : List A) → left ≡ 0 → cut (part_lens_from n j left) xs ≡ []
  cut_last n j left xs e = ap (λ k. cut (part_lens_from n j k) xs) e

-- ---- first keys

module _ (n j left end : ℕ) (leaves : List PlacedLeaf) (some : left ≢ 0)
    (is : end ≡ min (part_len n j) (length leaves)) where
  -- the first keys of the parts after the first
  abbrev pub rest_keys : List ℕ
  rest_keys = first_keys key_of_leaf (cut (part_lens_from n (j + 1) (left - 1)) (from leaves end))

  -- an empty part has no first key
  pub keys_skip : end ≡ 0 → first_keys key_of_leaf (cut (part_lens_from n j left) leaves) ≡ rest_keys
  keys_skip e = ap (first_keys key_of_leaf) (cut_first n j left end leaves some is)
      ∙ ap (λ k. first_keys key_of_leaf (take k leaves ∷ cut (part_lens_from n (j + 1) (left - 1))
      (from leaves end))) e

  -- if there is a leaf, the first key is its key
  pub keys_first : (first : PlacedLeaf) → end ≢ 0 → first ≡ get_or leaves 0 first
      → first_keys key_of_leaf (cut (part_lens_from n j left) leaves) ≡ key_of_leaf first ∷ rest_keys
  keys_first first ne at = ap (first_keys key_of_leaf) (cut_first n j left end leaves some is)
      ∙ head end leaves ne (omega arith) at (cut (part_lens_from n (j + 1) (left - 1)) (from leaves end))
    where
      head : (k : ℕ) (xs : List PlacedLeaf) → k ≢ 0 → k ≤ length xs → first ≡ get_or xs 0 first
          → (parts : List (List PlacedLeaf))
          → first_keys key_of_leaf (take k xs ∷ parts) ≡ key_of_leaf first ∷ first_keys key_of_leaf
          parts
      head zero xs z h e parts = absurd (z refl)
      head (suc k) [] z h e parts = absurd (omega arith)
      head (suc k) (x ∷ xs) z h e parts = grind arith

  -- so a part that isn't empty has some first key
  pub keys_some : end ≢ 0
      → (k : ℕ) × (ks : List ℕ) × (first_keys key_of_leaf (cut (part_lens_from n j left) leaves)
      ≡ k ∷ ks)
  keys_some ne = at leaves refl
    where
      at : (xs : List PlacedLeaf) → leaves ≡ xs
          → (k : ℕ) × (ks : List ℕ) × (first_keys key_of_leaf (cut (part_lens_from n j left) leaves)
          ≡ k ∷ ks)
      at [] e = absurd (ne (let none = ap length e in omega arith))
      at (x ∷ xs) e = (key_of_leaf x, rest_keys, keys_first x ne (sym (ap (λ ys. get_or ys 0 x) e)))

-- keys that are none can't begin with one
pub none_begins : (keys : List ℕ) (k : ℕ) (ks : List ℕ) → length keys < 1 → ¬ (keys ≡ k ∷ ks)
none_begins [] k ks h e = cc
none_begins (x ∷ xs) k ks h e = omega arith

-- keys with this first one
pub begins_so : (keys : List ℕ) (k : ℕ) (ks : List ℕ) (b : Bool) → 1 ≤ length keys → get_or keys 0 0
    ≡ k → (IsTrue b ↔ (following keys ≡ ks)) → IsTrue b ↔ (keys ≡ k ∷ ks)
begins_so keys k ks b n e i = grind (arith, first_word, following)

-- ---- which rows are the rows of the parts of an ideal subtree, one part after another. Serves
-- `ideals.rt`.

-- parts of some leaves, whole
pub all_parts : (leaves : List PlacedLeaf)
    → cut (part_lens_from (length leaves) 0 (degree (length leaves))) leaves ≡ parts leaves
unfolding part_lens
all_parts leaves = refl

record IsBuiltPart (word : ℕ) (words : List ℕ) (part : List PlacedLeaf) (others : List (List PlacedLeaf))
    (above : ℕ) (rows : List Row) : Type 0 where
  here : List Row
  rest : List Row
  rows_are : rows ≡ here ++ rest
  first : BuildsAt word part above here
  more : BuildsAll words others above rest

-- what subtrees over parts are, by the first slot and the first part
abbrev AllInverted : List ℕ → List (List PlacedLeaf) → ℕ → List Row → Type 0
AllInverted [] [] above rows = rows ≡ []
AllInverted (word ∷ words) (part ∷ others) above rows = IsBuiltPart word words part others above rows
AllInverted _ _ above rows = ⊥

all_inverted : (words : List ℕ) (ps : List (List PlacedLeaf)) (above : ℕ) (rows : List Row)
    → BuildsAll words ps above rows → AllInverted words ps above rows
all_inverted _ _ _ _ builds_end = refl
all_inverted _ _ _ _ (builds_part {here = here} {rest = rest} ref e first more) = grind arith

module _ (n j left : ℕ) (slots : List ℕ) (leaves : List PlacedLeaf) (above : ℕ) (rows : List Row)
  where
    abbrev AllBuild : List Row → Type 0
    AllBuild rs = BuildsAll slots (cut (part_lens_from n j left) leaves) above rs

    -- if no slot and no part is left, none of the rows is needed
    pub parts_end : length slots < 1 → left ≡ 0 → CountsRows AllBuild rows (Some 0)
    parts_end none e = let no_slot = nil_from_length slots (omega arith) in
        let no_part = cut_last n j left leaves e in (
          subst (λ ws. BuildsAll ws (cut (part_lens_from n j left) leaves) above []) (sym no_slot)
              (subst (λ ps. BuildsAll [] ps above []) (sym no_part) builds_end),
          λ used rest is b. ap length (all_inverted [] [] above used
              (subst (λ ws. BuildsAll ws [] above used) no_slot
              (subst (λ ps. BuildsAll slots ps above used) no_part b))),
        )

    module _ (end : ℕ) (long : 1 ≤ length slots) (some : left ≢ 0) (end_is : end ≡ min (part_len n j)
        (length leaves)) where
      -- the rows are the rows of the parts after the first
      abbrev pub MoreBuild : List Row → Type 0
      MoreBuild rs = BuildsAll (following slots) (cut (part_lens_from n (j + 1) (left - 1)) (from leaves end))
          above rs

      inverted : (used : List Row) → AllBuild used
          → IsBuiltPart (get_or slots 0 0) (following slots) (take end leaves)
          (cut (part_lens_from n (j + 1) (left - 1)) (from leaves end)) above used
      inverted used b = all_inverted (get_or slots 0 0 ∷ following slots)
          (take end leaves ∷ cut (part_lens_from n (j + 1) (left - 1)) (from leaves end)) above used
          (subst (λ ws. BuildsAll ws (take end leaves ∷ cut (part_lens_from n (j + 1) (left - 1))
          (from leaves end)) above used) (first_word slots long)
          (subst (λ ps. BuildsAll slots ps above used) (cut_first n j left end leaves some end_is) b))

      -- if the first part isn't built, the parts aren't
      pub parts_no_first : CountsRows (λ rs. BuildsAt (get_or slots 0 0) (take end leaves) above rs)
          rows None → CountsRows AllBuild rows None
      parts_no_first none used rest is b = let it = inverted used b in
          none it.here (it.rest ++ rest) (is ∙ ap (λ xs. xs ++ rest) it.rows_are ∙ append_assoc
          it.here it.rest rest) it.first

      module _ (k : ℕ) (within : k ≤ length rows)
          (first : CountsRows (λ rs. BuildsAt (get_or slots 0 0) (take end leaves) above rs) rows
          (Some k)) where
        -- the rows after the rows of the first part
        split : (used rest : List Row) → rows ≡ used ++ rest
            → (it : IsBuiltPart (get_or slots 0 0) (following slots) (take end leaves)
            (cut (part_lens_from n (j + 1) (left - 1)) (from leaves end)) above used)
            → (length it.here ≡ k) × (from rows k ≡ it.rest ++ rest)
        split used rest is it =
            let whole : rows ≡ it.here ++ (it.rest ++ rest) = is ∙ ap (λ xs. xs ++ rest) it.rows_are
            ∙ append_assoc it.here it.rest rest in
            let same = first.1 it.here (it.rest ++ rest) whole it.first in
            (same, from-drop rows k ∙ ap (drop k) whole ∙ dropped it.here (it.rest ++ rest) k same)
          where
            dropped : (xs ys : List Row) (m : ℕ) → length xs ≡ m → drop m (xs ++ ys) ≡ ys
            dropped [] ys zero e = refl
            dropped [] ys (suc m) e = absurd (omega arith)
            dropped (x ∷ xs) ys zero e = absurd (omega arith)
            dropped (x ∷ xs) ys (suc m) e = dropped xs ys m (omega arith)

        -- if the parts after the first aren't built, the parts aren't
        pub parts_no_more : CountsRows MoreBuild (from rows k) None → CountsRows AllBuild rows None
        parts_no_more none used rest is b = let it = inverted used b in
            none it.rest rest (split used rest is it).1 it.more

        -- the parts use the rows of the first part and those of the others
        pub parts_more : (m : ℕ) → CountsRows MoreBuild (from rows k) (Some m) → CountsRows AllBuild
            rows (Some (k + m))
        parts_more m some_more = (
          subst (λ rs. AllBuild rs) (sym (taken rows k m within))
              (subst (λ ws. BuildsAll ws (cut (part_lens_from n j left) leaves) above
              (take k rows ++ take m (from rows k))) (sym (first_word slots long))
              (subst (λ ps. BuildsAll (get_or slots 0 0 ∷ following slots) ps above
              (take k rows ++ take m (from rows k)))
              (sym (cut_first n j left end leaves some end_is))
              (builds_part first.0.ref first.0.names first.0.builds some_more.0))),
          λ used rest is b. let it = inverted used b in let parts = split used rest is it in
              let more = some_more.1 it.rest rest parts.1 it.more in let same = parts.0 in
              let both = ap length it.rows_are ∙ length-append it.here it.rest in omega arith,
        )
          where
            taken : (xs : List Row) (a b : ℕ) → a ≤ length xs → take (a + b) xs ≡ take a xs ++ take b
                (from xs a)
            taken xs a b h = both_taken xs a b ∙ ap (λ ys. take a xs ++ take b ys)
                (sym (from-drop xs a))
