-- Held rows by their bases and by their callers. Serves `held.rt`.
use Rattle.std.proofs.Common.{◌≡◌, ◌≢◌, ◌↔◌, ◌∙◌, ◌<◌, ◌⊎◌, ◌==◌, ◌++◌, ◌∷◌, [], ℕ, List, Bool, true, false, not, if◌then◌else◌, filter, Some, None, refl, sym, ap, inl, inr, arith}
use Rattle.std.proofs.lemmas.Cmp.{ranked}
use Rattle.std.specs.BTreeMap.{is_at, insert_entry}
use Rattle.std.specs.List.{list_any}
use Rattle.std.specs.Map.{lookup}
use Rattle.std.specs.declared.cmp.Ordering.TheVariants.{Greater}
use Rattle.std.specs.Ordering.{nat_cmp, match_ordering}
use Rattle.ist_core.specs.declared.lists.HeldRow.{HeldRow}
use Rattle.ist_core.specs.LogTerms.{Among, Each, without}
use Rattle.ist_core.proofs.AllWordLemmas.{each-among, each_append}
use Rattle.check_events.specs.Holding.{by_base, BasesRise}

-- a look-up at a number finds it, or passes it by
pub tells : (b k : ℕ) → ((is_at (nat_cmp b) k ≡ true) × (b ≡ k)) ⊎ ((is_at (nat_cmp b) k ≡ false) × (b ≢ k))
tells b k = grind (arith, ranked)

-- a number above another is ordered after it
greater_is : (b k : ℕ) → k < b → nat_cmp b k ≡ Greater
greater_is b k g = grind (arith, ranked)

-- ---- by base

-- a held row is found at its base
pub found_at : (held : List HeldRow) (row : HeldRow) → BasesRise held → Among row held
    → lookup (is_at (nat_cmp row.base)) (by_base held) ≡ Some row
found_at [] row r i = absurd i
found_at (h ∷ hs) row r i = at (found_at hs row r.1) (tells row.base h.base) i
  where
    rest : List (ℕ × HeldRow)
    rest = by_base hs

    at : (Among row hs → lookup (is_at (nat_cmp row.base)) (by_base hs) ≡ Some row)
        → ((is_at (nat_cmp row.base) h.base ≡ true) × (row.base ≡ h.base))
        ⊎ ((is_at (nat_cmp row.base) h.base ≡ false) × (row.base ≢ h.base)) → Among row (h ∷ hs)
        → lookup (is_at (nat_cmp row.base)) (by_base (h ∷ hs)) ≡ Some row
    at again (inl k) (inl e) = grind (arith, rest)
    at again (inl k) (inr i) = grind (arith, each-among)
    at again (inr k) (inl e) = absurd (k.1 (ap (λ x. x.base) e))
    at again (inr k) (inr i) = grind (arith, rest)

-- what is found at a base is held, and lies there
pub held_at : (held : List HeldRow) (b : ℕ) (row : HeldRow)
    → lookup (is_at (nat_cmp b)) (by_base held) ≡ Some row → Among row held × (row.base ≡ b)
held_at [] b row e = cc
held_at (h ∷ hs) b row e = at (held_at hs b row) (tells b h.base)
  where
    rest : List (ℕ × HeldRow)
    rest = by_base hs

    at : (lookup (is_at (nat_cmp b)) (by_base hs) ≡ Some row → Among row hs × (row.base ≡ b))
        → ((is_at (nat_cmp b) h.base ≡ true) × (b ≡ h.base))
        ⊎ ((is_at (nat_cmp b) h.base ≡ false) × (b ≢ h.base)) → Among row (h ∷ hs) × (row.base ≡ b)
    at again (inl k) = grind (arith, rest)
    at again (inr k) = grind (arith, rest)

-- if nothing is found at its base, a row isn't held
pub none_found : (held : List HeldRow) (row : HeldRow) → BasesRise held
    → lookup (is_at (nat_cmp row.base)) (by_base held) ≡ None → ¬ (Among row held)
none_found held row r none i = cc (sym none ∙ found_at held row r i)

-- if a row is found at its base, it is held exactly if it is that row
pub one_found : (held : List HeldRow) (row found : HeldRow) → BasesRise held
    → lookup (is_at (nat_cmp row.base)) (by_base held) ≡ Some found → (row ≡ found) ↔ Among row held
one_found held row found r e = grind (arith, held_at, found_at)

-- a row above all others comes last
pub put_last : (held : List HeldRow) (row : HeldRow) → Each (λ e. e.0 < row.base) (by_base held)
    → insert_entry nat_cmp (by_base held) row.base row ≡ by_base (held ++ row ∷ [])
put_last [] row below = refl
put_last (h ∷ hs) row below =
    ap (λ o. match_ordering o ((row.base, row) ∷ by_base (h ∷ hs)) ((h.base, row) ∷ by_base hs)
    ((h.base, h) ∷ insert_entry nat_cmp (by_base hs) row.base row)) (greater_is row.base h.base below.0)
    ∙ ap (λ xs. (h.base, h) ∷ xs) (put_last hs row below.1)

-- and the rows still increase with it
pub rises_last : (held : List HeldRow) (row : HeldRow) → BasesRise held
    → Each (λ e. e.0 < row.base) (by_base held) → BasesRise (held ++ row ∷ [])
rises_last [] row r below = (tt, tt)
rises_last (h ∷ hs) row r below =
    (each_append (λ g. h.base < g.base) hs (row ∷ []) r.0 (below.0, tt), rises_last hs row r.1 below.1)

-- ---- what is kept

module _ {A : Type 0} where
  -- what is so of each element is so of each that is kept
  each_kept : (P : A → Type 0) (test : A → Bool) (xs : List A) → Each P xs → Each P (filter test xs)
  each_kept P test [] h = tt
  each_kept P test (x ∷ xs) h = at (each_kept P test xs h.1) (test x)
    where
      at : Each P (filter test xs) → (b : Bool)
          → Each P (if b then x ∷ filter test xs else filter test xs)
      at again true = (h.0, again)
      at again false = again

  -- a filter keeps a first element that passes
  pub kept_yes : (test : A → Bool) (x : A) (xs : List A) → test x ≡ true
      → filter test (x ∷ xs) ≡ x ∷ filter test xs
  kept_yes test x xs e = ap (λ b. if b then x ∷ filter test xs else filter test xs) e

  -- a filter drops a first element that fails
  pub kept_no : (test : A → Bool) (x : A) (xs : List A) → test x ≡ false
      → filter test (x ∷ xs) ≡ filter test xs
  kept_no test x xs e = ap (λ b. if b then x ∷ filter test xs else filter test xs) e

  -- two tests may be made in either order
  pub kept_swap : (p q : A → Bool) (xs : List A) → filter p (filter q xs) ≡ filter q (filter p xs)
  kept_swap p q [] = refl
  kept_swap p q (x ∷ xs) = at (kept_swap p q xs) (p x) (q x) refl refl
    where
      at : filter p (filter q xs) ≡ filter q (filter p xs) → (a b : Bool) → p x ≡ a → q x ≡ b
          → filter p (filter q (x ∷ xs)) ≡ filter q (filter p (x ∷ xs))
      at again true true e f = grind (arith, kept_yes)
      at again true false e f = grind (arith, kept_no, kept_yes)
      at again false true e f = grind (arith, kept_yes, kept_no)
      at again false false e f = grind (arith, kept_no)

-- rows kept of increasing rows are increasing
pub rises_kept : (test : HeldRow → Bool) (held : List HeldRow) → BasesRise held
    → BasesRise (filter test held)
rises_kept test [] r = tt
rises_kept test (h ∷ hs) r = at (rises_kept test hs r.1) (test h)
  where
    at : BasesRise (filter test hs) → (b : Bool)
        → BasesRise (if b then h ∷ filter test hs else filter test hs)
    at again true = (each_kept (λ g. h.base < g.base) test hs r.0, again)
    at again false = again

-- increasing rows without the row at a base are increasing
pub rises_without : (b : ℕ) (held : List HeldRow) → BasesRise held → BasesRise (without (b ∷ []) held)
rises_without b held r = rises_kept (λ h. not (list_any (λ base. base == h.base) (b ∷ []))) held r
