-- Held rows without some of them, and their lists by callers. Serves `held.rt`.
use Rattle.std.proofs.Common.{◌≡◌, ◌≢◌, ◌∙◌, ◌⊎◌, ◌==◌, ◌++◌, ◌∷◌, [], ℕ, List, Bool, true, false, not, eqb, Some, None, refl, sym, ap, subst, inl, inr, arith}
use Rattle.std.proofs.lemmas.Bool.Decides.{eqb_tells}
use Rattle.std.proofs.lemmas.List.{append-nil}
use Rattle.std.proofs.lemmas.List.Elements.{filter-append}
use Rattle.std.specs.BTreeMap.{BTreeMap, is_at}
use Rattle.std.specs.Global.{Vec}
use Rattle.std.specs.List.{list_any}
use Rattle.std.specs.Map.{lookup, remove_entry, values_of}
use Rattle.std.specs.Ordering.{nat_cmp}
use Rattle.ist_core.specs.declared.lists.HeldRow.{HeldRow}
use Rattle.ist_core.specs.LogTerms.{Each, without}
use Rattle.ist_core.proofs.AllWordLemmas.{each-among, among-filter, each_of}
use Rattle.check_events.specs.declared.held.HeldTable.{HeldTable}
use Rattle.check_events.specs.Holding.{by_base, listed_rows, of_caller, BasesRise, TableHolds}
use Rattle.check_events.proofs.HeldLemmas.{tells, found_at, kept_yes, kept_no, kept_swap}

-- ---- without one base

module _ (b : ℕ) where
  -- is the row none at the base?
  abbrev pub stays : HeldRow → Bool
  stays h = not (list_any (λ base. base == h.base) (b ∷ []))

  other_stays : (h : HeldRow) → b ≢ h.base → stays h ≡ true
  other_stays h ne = grind (arith, eqb_tells)

  same_goes : (h : HeldRow) → b ≡ h.base → stays h ≡ false
  same_goes h same = grind (arith, eqb_tells)

  -- rows at other bases all stay
  pub all_stay : (held : List HeldRow) → Each (λ h. b ≢ h.base) held → without (b ∷ []) held ≡ held
  all_stay [] e = refl
  all_stay (h ∷ hs) e =
      kept_yes stays h hs (other_stays h e.0) ∙ ap (λ xs. h ∷ xs) (all_stay hs e.1)

  -- the entry at the base is taken out
  pub taken_out : (held : List HeldRow) → BasesRise held
      → remove_entry (is_at (nat_cmp b)) (by_base held) ≡ by_base (without (b ∷ []) held)
  taken_out [] r = refl
  taken_out (h ∷ hs) r = at (taken_out hs r.1) (tells b h.base)
    where
      out : ℕ → List (ℕ × HeldRow) → List (ℕ × HeldRow)
      out k es = remove_entry (is_at (nat_cmp k)) es

      at : remove_entry (is_at (nat_cmp b)) (by_base hs) ≡ by_base (without (b ∷ []) hs)
          → ((is_at (nat_cmp b) h.base ≡ true) × (b ≡ h.base))
          ⊎ ((is_at (nat_cmp b) h.base ≡ false) × (b ≢ h.base))
          → remove_entry (is_at (nat_cmp b)) (by_base (h ∷ hs)) ≡ by_base (without (b ∷ []) (h ∷ hs))
      at again (inl k) = grind (arith, each_of, each-among, out, kept_no, same_goes, all_stay)
      at again (inr k) = grind (arith, out, kept_yes, other_stays)

  -- if no row is found at the base, all stay
  pub none_goes : (held : List HeldRow) → BasesRise held
      → lookup (is_at (nat_cmp b)) (by_base held) ≡ None → without (b ∷ []) held ≡ held
  none_goes held r none = grind (arith, all_stay, each_of, found_at)

  -- if the row at the base is another caller's, all rows of the caller stay
  pub others_stay : (held : List HeldRow) (row : HeldRow) → BasesRise held
      → lookup (is_at (nat_cmp b)) (by_base held) ≡ Some row → (caller : ℕ) → caller ≢ row.caller
      → of_caller caller (without (b ∷ []) held) ≡ of_caller caller held
  others_stay held row r found caller ne =
      grind (arith, kept_swap, all_stay, each_of, among-filter, found_at, eqb_tells)

  -- a caller's rows without the base
  pub callers_rest : (held : List HeldRow) (caller : ℕ)
      → of_caller caller (without (b ∷ []) held) ≡ without (b ∷ []) (of_caller caller held)
  callers_rest held caller = kept_swap (λ h. h.caller == caller) stays held

-- ---- by callers

-- a caller's rows with one more
pub listed_last : (held : List HeldRow) (row : HeldRow) (old new : BTreeMap ℕ (Vec HeldRow))
    → ((caller : ℕ) → listed_rows old caller ≡ of_caller caller held)
    → listed_rows new row.caller ≡ listed_rows old row.caller ++ row ∷ []
    → ((caller : ℕ) → caller ≢ row.caller → listed_rows new caller ≡ listed_rows old caller)
    → (caller : ℕ) → listed_rows new caller ≡ of_caller caller (held ++ row ∷ [])
listed_last held row old new known here others caller =
    grind (arith, eqb_tells, filter-append, kept_yes, kept_no, append-nil)

-- the callers' rows without the row at a base
pub listed_without : (b : ℕ) (held : List HeldRow) (row : HeldRow) → BasesRise held
    → lookup (is_at (nat_cmp b)) (by_base held) ≡ Some row → (old new : BTreeMap ℕ (Vec HeldRow))
    → ((caller : ℕ) → listed_rows old caller ≡ of_caller caller held)
    → listed_rows new row.caller ≡ without (b ∷ []) (listed_rows old row.caller)
    → ((caller : ℕ) → caller ≢ row.caller → listed_rows new caller ≡ listed_rows old caller)
    → (caller : ℕ) → listed_rows new caller ≡ of_caller caller (without (b ∷ []) held)
listed_without b held row r found old new known here others caller = at (eqb_tells caller row.caller)
  where
    at : ((eqb caller row.caller ≡ true) × (caller ≡ row.caller))
        ⊎ ((eqb caller row.caller ≡ false) × (caller ≢ row.caller))
        → listed_rows new caller ≡ of_caller caller (without (b ∷ []) held)
    at (inl k) =
        subst (λ c. listed_rows new c ≡ without (b ∷ []) (listed_rows old c)) (sym k.1) here
        ∙ ap (without (b ∷ [])) (known caller) ∙ sym (callers_rest b held caller)
    at (inr k) = others caller k.1 ∙ known caller ∙ sym (others_stay b held row r found caller k.1)

-- ---- without several

-- without no base all stay
pub without_none : (held : List HeldRow) → without [] held ≡ held
without_none [] = refl
without_none (h ∷ hs) = ap (λ xs. h ∷ xs) (without_none hs)

-- without the first base, and then without the others
pub without_more : (b : ℕ) (bs : List ℕ) (held : List HeldRow)
    → without bs (without (b ∷ []) held) ≡ without (b ∷ bs) held
without_more b bs [] = refl
without_more b bs (h ∷ hs) = at (without_more b bs hs) (b == h.base) refl
    (list_any (λ base. base == h.base) bs) refl
  where
    at : without bs (without (b ∷ []) hs) ≡ without (b ∷ bs) hs → (x : Bool) → (b == h.base) ≡ x → (y : Bool) → list_any (λ base. base == h.base) bs ≡ y
        → without bs (without (b ∷ []) (h ∷ hs)) ≡ without (b ∷ bs) (h ∷ hs)
    at again true e y f = grind (arith, kept_no)
    at again false e true f = grind (arith, kept_yes, kept_no)
    at again false e false f = grind (arith, kept_yes)

-- without some bases, and then without one more
pub without_last : (bs : List ℕ) (b : ℕ) (held : List HeldRow)
    → without (b ∷ []) (without bs held) ≡ without (bs ++ b ∷ []) held
without_last [] b held = ap (without (b ∷ [])) (without_none held)
without_last (a ∷ bs) b held =
    ap (without (b ∷ [])) (sym (without_more a bs held)) ∙ without_last bs b (without (a ∷ []) held)
    ∙ without_more a (bs ++ b ∷ []) held

-- the rows by base, listed in order
pub values_by_base : (held : List HeldRow) → values_of (by_base held) ≡ held
values_by_base [] = refl
values_by_base (h ∷ hs) = ap (λ xs. h ∷ xs) (values_by_base hs)

-- if no base is named, the table keeps what it has
pub keeps_none : (table : HeldTable) (held : List HeldRow) → TableHolds table held
    → TableHolds table (without [] held)
keeps_none table held k = subst (TableHolds table) (sym (without_none held)) k

-- removing the rows at the bases so far, and then the row at the last base, removes the rows at all
-- of them
pub keeps_last : (table : HeldTable) (held : List HeldRow) (bs all : List ℕ) (b : ℕ)
    → all ≡ bs ++ b ∷ [] → TableHolds table (without (b ∷ []) (without bs held))
    → TableHolds table (without all held)
keeps_last table held bs all b is k = grind (arith, without_last)
