-- Which words and rows are a root, or an ideal subtree. Serves `roots.rt`.
use Rattle.std.proofs.Common.{◌≡◌, ◌↔◌, ◌∙◌, ◌≤◌, ◌<◌, ℕ, List, [], length, take, get_or, Some, None, IsTrue, nat_eq, sym, ap, subst, arith, ◌≢◌, ◌-◌, min, ◌∷◌, drop}
use Rattle.std.proofs.lemmas.Bool.Decides.{nat_tests}
use Rattle.std.proofs.lemmas.List.{append-nil, take_all, take_min}
use Rattle.ist_core.specs.declared.lists.Row.{Row}
use Rattle.ist_core.specs.declared.states.InnerRow.{InnerRow}
use Rattle.ist_core.specs.WordTerms.{share_from_is, degree, part_len, part_lens, cut, parts, first_keys, Inner, inner_of}
use Rattle.ist_core.specs.TreeTerms.{PlacedLeaf}
use Rattle.check_builds.specs.Built.{BuildsAt, CountsRows, HasTopSlots, IsTopAlone, IsRootOf, whole, top_alone, part_lens_from, key_of_leaf}
use Rattle.check_builds.proofs.PartCutLemmas.{from, from-drop, drop_min, cut_first}

module _ (P : List Row → Type 0) (rows : List Row) where
  -- no number of the rows has P, nor have all of them
  pub none_whole : CountsRows P rows None → ¬ (P rows)
  none_whole none p = none rows [] (sym (append-nil rows)) p

  -- the first k have P, and so all of them have it exactly if there are k
  pub some_whole : (k : ℕ) → CountsRows P rows (Some k) → IsTrue (nat_eq k (length rows)) ↔ P rows
  some_whole k some = (
    (λ y. grind (arith, nat_tests, take_all)),
    (λ p. let e : length rows ≡ k = some.1 rows [] (sym (append-nil rows)) p in grind
        (arith, nat_tests)),
  )

module _ (word k : ℕ) (leaves : List PlacedLeaf) (target : ℕ) (rows : List Row) where
  -- for fewer than 256 keys, the root is the whole subtree
  pub whole_is : k < 256 → BuildsAt word leaves target rows ↔ IsRootOf word k leaves target rows
  whole_is few = ((λ b. whole (let is = share_from_is in omega arith) b), (λ h. out h))
    where
      out : IsRootOf word k leaves target rows → BuildsAt word leaves target rows
      out (whole less b) = b
      out (top_alone many t) = let is = share_from_is in absurd (omega arith)

  -- for 256 keys or more, the root is only the top row
  pub top_is : 256 ≤ k → IsTopAlone word leaves target rows ↔ IsRootOf word k leaves target rows
  top_is many = ((λ t. top_alone (let is = share_from_is in omega arith) t), (λ h. out h))
    where
      out : IsRootOf word k leaves target rows → IsTopAlone word leaves target rows
      out (whole less b) = let is = share_from_is in absurd (omega arith)
      out (top_alone more t) = t

  -- the one row isn't a top row
  pub no_top_alone : (row : Row) → row ≡ get_or rows 0 row
      → ((slots : List ℕ) → ¬ (HasTopSlots row leaves target slots))
      → ¬ (IsTopAlone word leaves target rows)
  no_top_alone row at none h =
      let same : row ≡ h.row = at ∙ ap (λ xs. get_or xs 0 row) h.rows_are in
      none _ (subst (λ x. HasTopSlots x leaves target _) (sym same) h.top)

-- ---- the words of a top row, read field by field. Serves `ideals.rt`.

-- words of four fields and some more
four_fields : (ws : List ℕ) → 4 ≤ length ws
    → ws ≡ get_or ws 0 0 ∷ get_or ws 1 0 ∷ get_or ws 2 0 ∷ get_or ws 3 0 ∷ from ws 4
four_fields [] h = absurd (omega arith)
four_fields (a ∷ []) h = absurd (omega arith)
four_fields (a ∷ b ∷ []) h = absurd (omega arith)
four_fields (a ∷ b ∷ c ∷ []) h = absurd (omega arith)
four_fields (a ∷ b ∷ c ∷ d ∷ ws) h = ap (λ xs. a ∷ b ∷ c ∷ d ∷ xs)
    (sym (from-drop (a ∷ b ∷ c ∷ d ∷ ws) 4))

-- all parts but the first
parts_after : (leaves : List PlacedLeaf) (first : ℕ) → degree (length leaves) ≢ 0
    → first ≡ min (part_len (length leaves) 0) (length leaves)
    → drop 1 (parts leaves) ≡ cut (part_lens_from (length leaves) 1 (degree (length leaves) - 1))
    (from leaves first)
unfolding part_lens
parts_after leaves first some is = ap (drop 1) (cut_first (length leaves) 0
    (degree (length leaves)) first leaves some is)

-- the inner row of these words
abbrev read_row : List ℕ → InnerRow
read_row ws = record {
  status = get_or ws 0 0;
  count = get_or ws 1 0;
  degree = get_or ws 2 0;
  size = get_or ws 3 0;
  keys = take (get_or ws 2 0 - 1) (from ws 4);
  slots = drop (get_or ws 2 0 - 1) (from ws 4);
}

module _ (row : Row) (leaves : List PlacedLeaf) (above : ℕ) (ws : List ℕ) (is : ws ≡ row.words)
    (long : 4 ≤ length ws) (first end : ℕ)
    (first_is : first ≡ min (part_len (length leaves) 0) (length leaves))
    (end_is : end ≡ min (get_or ws 2 0 - 1) (length (from ws 4)))
    (some : degree (length leaves) ≢ 0) (degree_is : get_or ws 2 0 ≡ degree (length leaves)) where
  read : inner_of row.words ≡ Some (Inner (read_row ws))
  read = ap inner_of (sym is ∙ four_fields ws long)

  -- what the code takes for the keys that the row must have
  abbrev pub wanted_keys : List ℕ
  wanted_keys = first_keys key_of_leaf (cut (part_lens_from (length leaves) 1 (get_or ws 2 0 - 1))
      (from leaves first))

  wanted : wanted_keys ≡ first_keys key_of_leaf (drop 1 (parts leaves))
  wanted = grind (arith, from, parts_after)

  keys_are : take end (from ws 4) ≡ take (get_or ws 2 0 - 1) (from ws 4)
  keys_are = ap (λ k. take k (from ws 4)) end_is ∙ take_min (get_or ws 2 0 - 1) (from ws 4)

  slots_are : from (from ws 4) end ≡ drop (get_or ws 2 0 - 1) (from ws 4)
  slots_are = grind (arith, from-drop, from, drop_min)

  -- a row with these fields and keys is the top row
  pub has_top : 2 ≤ length leaves → above < row.base → get_or ws 0 0 ≡ 0 → get_or ws 1 0 ≡ 0
      → get_or ws 3 0 ≡ length leaves → take end (from ws 4) ≡ wanted_keys
      → HasTopSlots row leaves above (from (from ws 4) end)
  has_top two higher status count size keys = grind (arith, read, keys_are, wanted, slots_are)

  -- and a top row has these keys
  pub top_keys : (slots : List ℕ) → HasTopSlots row leaves above slots → take end (from ws 4)
      ≡ wanted_keys
  top_keys slots h = grind (arith, read, keys_are, wanted)
