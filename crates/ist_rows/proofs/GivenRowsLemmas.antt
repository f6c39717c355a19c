-- A caller without rows of some kinds, which it has published or lost. Serves
-- `laws.given_rows_go`.
use Rattle.std.proofs.Common.{◌≡◌, ℕ, ◌⊎◌, ◌==◌, ◌||◌, not, Bool, true, false, List, [], ◌∷◌, map, filter, Some, None, refl, sym, ap, ◌∙◌, subst, inl, inr, ⊎_elim, arith}
use Rattle.std.specs.List.{list_any}
use Rattle.std.proofs.lemmas.Option.{none-some}
use Rattle.ist_core.specs.declared.events.Event.{Event}
use Rattle.ist_core.specs.declared.lists.HeldRow.{HeldRow}
use Rattle.ist_core.specs.declared.pairs.Pair.{Pair}
use Rattle.ist_core.specs.declared.events.Who.TheVariants.{Caller as CallerOf}
use Rattle.ist_core.specs.LogTerms.{Among, AreBuilds, Lawful, state_of, Log, same_log, one_event, without, HoldsRow, whose}
use Rattle.ist_core.specs.WordTerms.{start}
use Rattle.ist_core.proofs.AllWordLemmas.{among-filter, among_filter}
use Rattle.ist_core.proofs.AllEventLemmas.{among_bases, sound, sound_start}
use Rattle.ist_rows.specs.RowTerms.{Kind, Leaf, Pair as PairKind, Change, Rebuild, kind_words, Spares, row_of, is_base, is_spare, held_by, build_sizes, GivesUp, AreBasesOf, without_row, without_rows}
use Rattle.ist_rows.proofs.ReserveLemmas.{builds_on}
use Rattle.ist_rows.proofs.CallerLemmas.{IsCallerIn, kind_of_words}
use Rattle.ist_rows.proofs.CallerGoingLemmas.{base_same, or_any}
use Rattle.ist_rows.proofs.HeldAfterLemmas.{held_by_own, held_after-given, after_between}
use Rattle.ist_rows.proofs.ShortLemmas.{filter_here}

-- ---- rows of kinds

-- without the row of one kind there is no row of it, and the rows of the others are the same
row_without : (kind other : Kind) (own : Spares)
    → ((kind ≡ other) × (row_of other (without_row kind own) ≡ None))
    ⊎ (row_of other (without_row kind own) ≡ row_of other own)
row_without Leaf Leaf own = inl (refl, refl)
row_without PairKind PairKind own = inl (refl, refl)
row_without Change Change own = inl (refl, refl)
row_without Rebuild Rebuild own = inl (refl, refl)
row_without _ _ own = inr refl

none_here : (kind : Kind) (own : Spares) → row_of kind (without_row kind own) ≡ None
none_here Leaf own = refl
none_here PairKind own = refl
none_here Change own = refl
none_here Rebuild own = refl

-- the row of a kind, if the rows of some kinds are gone
row_left : (kinds : List Kind) (own : Spares) (other : Kind)
    → (row_of other (without_rows kinds own) ≡ None)
    ⊎ (row_of other (without_rows kinds own) ≡ row_of other own)
row_left [] own other = inr refl
row_left (kind ∷ kinds) own other = ⊎_elim (λ k. inl k.1)
    (λ same. ⊎_elim (λ e. inl (same ∙ e)) (λ e. inr (same ∙ e)) (row_left kinds own other))
    (row_without kind other (without_rows kinds own))

-- there is no row of these kinds
row_gone : (kinds : List Kind) (own : Spares) (other : Kind) → Among other kinds
    → row_of other (without_rows kinds own) ≡ None
row_gone [] own other i = absurd i
row_gone (kind ∷ kinds) own other (inl e) = grind (arith, none_here)
row_gone (kind ∷ kinds) own other (inr i) =
    ⊎_elim (λ k. k.1) (λ same. same ∙ row_gone kinds own other i)
    (row_without kind other (without_rows kinds own))

-- a base among the bases of some kinds is the base of the row of one
kind_given : (kinds : List Kind) (own : Spares) (bases : List ℕ) → AreBasesOf kinds own bases
    → (base : ℕ) → Among base bases
    → (kind : Kind) × Among kind kinds × (row_of kind own ≡ Some base)
kind_given [] own [] a base i = absurd i
kind_given [] own (b ∷ bases) a base i = absurd a
kind_given (kind ∷ kinds) own [] a base i = absurd i
kind_given (kind ∷ kinds) own (b ∷ bases) a base (inl e) = (kind, inl refl, a.0 ∙ ap Some (sym e))
kind_given (kind ∷ kinds) own (b ∷ bases) a base (inr i) =
    let it = kind_given kinds own bases a.1 base i in (it.0, inr it.1, it.2)

-- ---- spare rows

-- the row of a kind is spare
spare_of : (kind : Kind) (own : Spares) (base : ℕ) → row_of kind own ≡ Some base
    → is_spare own base ≡ true
spare_of kind own base e = grind (arith, base_same, or_any)

-- a row of another kind is as spare without the row of this kind
spare_less : (kind : Kind) (own : Spares) (base : ℕ) → is_base (row_of kind own) base ≡ false
    → is_spare (without_row kind own) base ≡ is_spare own base
spare_less Leaf own base f = grind arith
spare_less PairKind own base f = grind arith
spare_less Change own base f = grind arith
spare_less Rebuild own base f = grind arith

-- a row at none of the bases of some kinds is as spare without these
spare_left : (kinds : List Kind) (own : Spares) (bases : List ℕ) → AreBasesOf kinds own bases
    → (base : ℕ) → list_any (λ b. b == base) bases ≡ false
    → is_spare (without_rows kinds own) base ≡ is_spare own base
spare_left [] own bases a base out = refl
spare_left (kind ∷ kinds) own [] a base out = absurd a
spare_left (kind ∷ kinds) own (b ∷ bases) a base out = spare_less kind (without_rows kinds own) base
    (⊎_elim (λ e. ap (λ o. is_base o base) e)
    (λ e. ap (λ o. is_base o base) (e ∙ a.0) ∙ first (b == base) _ out)
    (row_left kinds own kind))
    ∙ spare_left kinds own bases a.1 base (second (b == base) _ out)
  where
    first : (x y : Bool) → (x || y) ≡ false → x ≡ false
    first true y e = e
    first false y e = refl

    second : (x y : Bool) → (x || y) ≡ false → y ≡ false
    second true y e = absurd (cc)
    second false y e = e

-- the rows of builds stay the same
builds_left : (kinds : List Kind) (own : Spares) (bases : List ℕ) → AreBasesOf kinds own bases
    → (held : List HeldRow)
    → filter (λ h. not (is_spare (without_rows kinds own) h.base)) (without bases held)
    ≡ filter (λ h. not (is_spare own h.base)) held
builds_left kinds own bases a [] = refl
builds_left kinds own bases a (h ∷ held) =
    at (builds_left kinds own bases a held) (list_any (λ b. b == h.base) bases) refl
  where
    at : filter (λ g. not (is_spare (without_rows kinds own) g.base)) (without bases held)
        ≡ filter (λ g. not (is_spare own g.base)) held
        → (b : Bool) → list_any (λ x. x == h.base) bases ≡ b
        → filter (λ g. not (is_spare (without_rows kinds own) g.base)) (without bases (h ∷ held))
        ≡ filter (λ g. not (is_spare own g.base)) (h ∷ held)
    at rest true e = let k = kind_given kinds own bases a h.base (among_bases h.base bases e) in
        ap (filter (λ g. not (is_spare (without_rows kinds own) g.base)))
        (filter_here (λ (g : HeldRow). not (list_any (λ x. x == g.base) bases)) h held false
        (ap not e))
        ∙ rest
        ∙ sym (filter_here (λ (g : HeldRow). not (is_spare own g.base)) h held false
        (ap not (spare_of k.0 own h.base k.2)))
    at rest false e = grind (arith, filter_here, spare_left)

-- ---- a caller that has given rows up

module _ (pairs : List Pair) (words : ℕ) (log : Log) (event : Event)
    (lawful : Lawful pairs words (event ∷ log)) (number : ℕ) (mine : whose event ≡ CallerOf number)
    (bases : List ℕ) (gives : GivesUp event bases) (kinds : List Kind) (own : Spares)
    (a : AreBasesOf kinds own bases) (c : IsCallerIn (state_of pairs words log) number own) where
  held_now : held_by (state_of pairs words (event ∷ log)) number
      ≡ without bases (held_by (state_of pairs words log) number)
  held_now = grind (arith, held_by_own, held_after-given)

  -- the sizes of its builds are the same
  pub sizes_given : build_sizes (state_of pairs words (event ∷ log)) number (without_rows kinds own)
      ≡ build_sizes (state_of pairs words log) number own
  sizes_given =
      ap (λ held. map (λ (h : HeldRow). h.size)
      (filter (λ h. not (is_spare (without_rows kinds own) h.base)) held)) held_now
      ∙ ap (map (λ (h : HeldRow). h.size))
      (builds_left kinds own bases a (held_by (state_of pairs words log) number))

  -- a row of another kind is not among those that are given up
  out : (kind : Kind) (base : ℕ) → row_of kind (without_rows kinds own) ≡ Some base
      → row_of kind own ≡ Some base → (b : Bool) → list_any (λ x. x == base) bases ≡ b → b ≡ false
  out kind base e was false f = refl
  out kind base e was true f =
      let k = kind_given kinds own bases a base (among_bases base bases f) in
      let s = sound (start pairs words) log (sound_start pairs words) lawful.enabled.0 in
      let same = s.once record { caller = number; base = base; size = kind_words k.0 }
      record { caller = number; base = base; size = kind_words kind }
      (c.rows k.0 base k.2) (c.rows kind base was) refl in
      let one : k.0 ≡ kind = kind_of_words k.0 kind (ap (λ (h : HeldRow). h.size) same) in
      absurd (none-some base
      (sym (row_gone kinds own kind (subst (λ x. Among x kinds) one k.1)) ∙ e))

  -- each row that is left is held
  row_held : (kind : Kind) (base : ℕ) → row_of kind (without_rows kinds own) ≡ Some base
      → row_of kind own ≡ Some base
      → HoldsRow (state_of pairs words (event ∷ log)) number base (kind_words kind)
  row_held kind base e was =
      let row : HeldRow = record { caller = number; base = base; size = kind_words kind } in
      let there = among_filter (λ (h : HeldRow). h.caller == number) row
      (state_of pairs words log).held (c.rows kind base was) (base_same number) in
      (among-filter (λ (h : HeldRow). h.caller == number) row
      (state_of pairs words (event ∷ log)).held
      (subst (Among row) (sym held_now)
      (among_filter (λ (h : HeldRow). not (list_any (λ x. x == h.base) bases)) row
      (held_by (state_of pairs words log) number) there
      (ap not (out kind base e was _ refl))))).0

  -- after the event it is a caller without the rows of these kinds
  pub caller_given : IsCallerIn (state_of pairs words (event ∷ log)) number (without_rows kinds own)
  caller_given = record {
    rows = λ kind base e. ⊎_elim (λ n. absurd (none-some base (sym n ∙ e)))
        (λ same. row_held kind base e (sym same ∙ e)) (row_left kinds own kind);
    builds = builds_on (state_of pairs words log) (state_of pairs words (event ∷ log))
        (after_between pairs words log (event ∷ log) lawful (one_event event same_log)) _
        (subst (AreBuilds (state_of pairs words log)) (sym sizes_given) c.builds);
  }
