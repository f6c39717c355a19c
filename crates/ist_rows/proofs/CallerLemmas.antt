-- Callers across the steps of their tokens. Serves `enter`, `reserve` and `fill`.
use Rattle.std.proofs.Common.{◌≡◌, ℕ, ◌≤◌, ◌⊎◌, ◌==◌, ◌||◌, not, Bool, true, false, List, [], ◌∷◌, ◌++◌, map, filter, Option, Some, None, refl, sym, ap, ◌∙◌, subst, le_refl, inl, inr, arith}
use Rattle.std.proofs.lemmas.Bool.Decides.{eqb_tells}
use Rattle.std.proofs.lemmas.Option.{same_Some}
use Rattle.ist_core.specs.declared.pairs.Pair.{Pair}
use Rattle.ist_core.specs.declared.lists.HeldRow.{HeldRow}
use Rattle.ist_core.specs.declared.events.Who.TheVariants.{Caller as CallerOf}
use Rattle.ist_core.specs.LogTerms.{Among, Each, Distinct, Snapshot, sizes_held, HoldsRow, AreBuilds, IsFair, spare_sizes, Log, EachEnabled, Lawful, state_of, no_more, one_more, Later}
use Rattle.ist_core.specs.WordTerms.{start}
use Rattle.ist_core.proofs.AllWordLemmas.{among-filter, each_append}
use Rattle.ist_core.proofs.AllEventLemmas.{sound, sound_start}
use Rattle.ist_core.proofs.AllLogLemmas.{words_same, next-state, grow_between}
use Rattle.ist_rule.specs.RuleTerms.{IsSound}
use Rattle.ist_rule.proofs.LaterLemmas.{later-goes_on}
use Rattle.ist_rule.proofs.WatchLemmas.{held_later}
use Rattle.ist_rows.specs.RowTerms.{Caller, Kind, Leaf, Pair as PairKind, Change, Rebuild, kind_words, Spares, spares_of, row_of, is_base, is_spare, held_by, build_sizes, IsCaller, MayTake}
use Rattle.ist_rows.proofs.ShortLemmas.{distinct_filter, distinct_more, held_distinct, held_by_later}
use Rattle.ist_rows.proofs.ReserveLemmas.{ComesAfter, builds_on, merge_filter, merge_more, merge_first}

-- the next word never falls along a longer log
next_later : (pairs : List Pair) (words : ℕ) (number : ℕ) (old log : Log)
    → EachEnabled (start pairs words) log → Later (CallerOf number) old log
    → (state_of pairs words old).next ≤ (state_of pairs words log).next
next_later pairs words number old _ enabled no_more = le_refl (state_of pairs words old).next
next_later pairs words number old _ enabled (one_more {log = log} event l other) =
    let before = next_later pairs words number old log enabled.0 l in
    let more = next-state (start pairs words) log event enabled.1 in omega arith

-- a later state comes after an earlier one
pub comes_after : (pairs : List Pair) (words : ℕ) (number : ℕ) (old log : Log)
    → Lawful pairs words log → Later (CallerOf number) old log
    → ComesAfter (state_of pairs words old) (state_of pairs words log)
comes_after pairs words number old log lawful l =
    grind (arith, words_same, next_later, grow_between, later-goes_on)

-- ---- a caller's rows after a longer log

-- what the rows of a caller are in a state
pub record IsCallerIn (t : Snapshot) (number : ℕ) (own : Spares) : Type 0 where
  -- the caller holds each of its spare rows, with the size of its kind
  pub rows : (kind : Kind) (base : ℕ) → row_of kind own ≡ Some base
      → HoldsRow t number base (kind_words kind)
  pub builds : AreBuilds t (build_sizes t number own)

-- a caller is a caller after each longer log
pub caller_later : (pairs : List Pair) (words : ℕ) (old log : Log) (number : ℕ) (own : Spares)
    → Lawful pairs words log → Later (CallerOf number) old log
    → IsCallerIn (state_of pairs words old) number own
    → IsCallerIn (state_of pairs words log) number own
caller_later pairs words old log number own lawful l c = record {
  rows = λ kind base e. held_later pairs words record {
    caller = number;
    base = base;
    size = kind_words kind;
  } old log lawful.enabled l (c.rows kind base e);
  builds = builds_on (state_of pairs words old) (state_of pairs words log)
      (comes_after pairs words number old log lawful l)
      (build_sizes (state_of pairs words log) number own)
      (subst (λ held. AreBuilds (state_of pairs words old)
      (map (λ h. h.size) (filter (λ h. not (is_spare own h.base)) held)))
      (sym (held_by_later pairs words number old log lawful.enabled l)) c.builds);
}

-- ---- spare rows

-- the row at the base is of this kind
is_base_some : (o : Option ℕ) (base : ℕ) → is_base o base ≡ true → o ≡ Some base
is_base_some None base e = cc
is_base_some (Some b) base e = grind (arith, eqb_tells)

-- one of two tests holds
or_true : (a b : Bool) → (a || b) ≡ true → (a ≡ true) ⊎ (b ≡ true)
or_true true b e = inl refl
or_true false b e = inr e

-- a spare row is of some kind
pub spare_kind : (own : Spares) (base : ℕ) → is_spare own base ≡ true → (kind : Kind)
    × (row_of kind own ≡ Some base)
spare_kind own base e = grind (arith, is_base_some, or_true)

-- each kind has words of its own number
pub kind_of_words : (a b : Kind) → kind_words a ≡ kind_words b → a ≡ b
kind_of_words Leaf Leaf e = refl
kind_of_words PairKind PairKind e = refl
kind_of_words Change Change e = refl
kind_of_words Rebuild Rebuild e = refl
kind_of_words _ _ e = absurd (omega arith)

-- the words of each kind are a spare size
kind_spare : (kind : Kind) → Among (kind_words kind) spare_sizes
kind_spare Leaf = inl refl
kind_spare Rebuild = inr (inl refl)
kind_spare PairKind = inr (inr (inl refl))
kind_spare Change = inr (inr (inr (inl refl)))

module _ (pairs : List Pair) (words : ℕ) (log : Log) (enabled : EachEnabled (start pairs words) log)
    (number : ℕ) (own : Spares) (c : IsCallerIn (state_of pairs words log) number own) where
  abbrev spares : List HeldRow
  spares = filter (λ h. is_spare own h.base) (held_by (state_of pairs words log) number)

  -- a spare row has the words of its kind
  pub spare_words : (h : HeldRow) → Among h spares → (kind : Kind) × (row_of kind own ≡ Some h.base)
      × (h.size ≡ kind_words kind)
  spare_words h i =
      let it = among-filter (λ (x : HeldRow). is_spare own x.base) h
      (held_by (state_of pairs words log) number) i in
      let held = among-filter (λ (x : HeldRow). x.caller == number) h
      (state_of pairs words log).held it.0 in
      let k = spare_kind own h.base it.1 in (
        k.0,
        k.1,
        ap (λ x. x.size) ((sound (start pairs words) log (sound_start pairs words)
            enabled).once h record {
              caller = number;
              base = h.base;
              size = kind_words k.0;
            } held.0 (c.rows k.0 h.base k.1) refl),
      )

  -- spare rows have the sizes of the kinds
  pub few_sizes : (xs : List HeldRow) → ((h : HeldRow) → Among h xs → Among h spares)
      → Each (λ size. Among size spare_sizes) (map (λ h. h.size) xs)
  few_sizes [] sub = tt
  few_sizes (h ∷ xs) sub =
      let it = spare_words h (sub h (inl refl)) in (
        subst (λ n. Among n spare_sizes) (sym it.2) (kind_spare it.0),
        few_sizes xs (λ g i. sub g (inr i)),
      )

  -- spare rows of one size are one
  one_size : (g h : HeldRow) → Among g spares → Among h spares → g.size ≡ h.size → g.base ≡ h.base
  one_size g h i j same = grind (arith, spare_words, kind_of_words, same_Some)

  -- spare rows with distinct bases have distinct sizes
  pub once_each : (xs : List HeldRow) → ((h : HeldRow) → Among h xs → Among h spares)
      → Distinct (map (λ h. h.base) xs) → Distinct (map (λ h. h.size) xs)
  once_each [] sub d = tt
  once_each (h ∷ xs) sub d = (
    (λ i. let it =
        with_size xs i in d.0 (at_base xs it.0 it.1
        (one_size h it.0 (sub h (inl refl)) (sub it.0 (inr it.1)) it.2))),
    once_each xs (λ g i. sub g (inr i)) d.1,
  )
    where
      with_size : (ys : List HeldRow) → Among h.size (map (λ x. x.size) ys) → (g : HeldRow)
          × Among g ys × (h.size ≡ g.size)
      with_size [] i = absurd i
      with_size (y ∷ ys) (inl e) = (y, inl refl, e)
      with_size (y ∷ ys) (inr i) = let it = with_size ys i in (it.0, inr it.1, it.2)

      at_base : (ys : List HeldRow) (g : HeldRow) → Among g ys → h.base ≡ g.base
          → Among h.base (map (λ x. x.base) ys)
      at_base [] g i e = absurd i
      at_base (y ∷ ys) g (inl same) e = inl (e ∙ ap (λ x. x.base) same)
      at_base (y ∷ ys) g (inr i) e = inr (at_base ys g i e)

  -- a row of another kind is fair together with what the caller holds
  pub fair_with : (kind : Kind) → row_of kind own ≡ None → IsFair (state_of pairs words log)
      (sizes_held (state_of pairs words log) number ++ kind_words kind ∷ [])
  fair_with kind none = let sizes = map (λ (h : HeldRow). h.size) spares in
      let bases = distinct_filter (λ (h : HeldRow). h.base) (λ h. is_spare own h.base)
      (held_by (state_of pairs words log) number)
      (distinct_filter (λ (h : HeldRow). h.base) (λ h. h.caller == number)
      (state_of pairs words log).held (held_distinct pairs words log enabled)) in
      record {
        building = build_sizes (state_of pairs words log) number own;
        spare = sizes ++ kind_words kind ∷ [];
        merge = merge_more (map (λ h. h.size) (held_by (state_of pairs words log) number))
            (build_sizes (state_of pairs words log) number own) sizes (kind_words kind)
            (merge_filter (λ (h : HeldRow). h.size) (λ h. is_spare own h.base)
            (held_by (state_of pairs words log) number));
        builds = c.builds;
        few = each_append (λ size. Among size spare_sizes) sizes (kind_words kind ∷ [])
            (few_sizes spares (λ h i. i)) (kind_spare kind, tt);
        one_each = distinct_more sizes (kind_words kind) (once_each spares (λ h i. i) bases)
            (λ i. out spares (λ h j. j) i);
      }
    where
      none_some : (b : ℕ) → None ≡ Some b → ⊥
      none_some b e = cc

      out : (xs : List HeldRow) → ((h : HeldRow) → Among h xs → Among h spares)
          → ¬ (Among (kind_words kind) (map (λ h. h.size) xs))
      out [] sub i = i
      out (h ∷ xs) sub (inl e) = let it = spare_words h (sub h (inl refl)) in
          none_some h.base (sym none ∙ ap (λ k. row_of k own) (kind_of_words kind it.0 (e ∙ it.2)) ∙
          it.1)
      out (h ∷ xs) sub (inr i) = out xs (λ g j. sub g (inr j)) i

  -- a row of a build is fair together with what the caller holds
  pub fair_inner : (size : ℕ) → AreBuilds (state_of pairs words log)
      (build_sizes (state_of pairs words log) number own ++ size ∷ [])
      → IsFair (state_of pairs words log)
      (sizes_held (state_of pairs words log) number ++ size ∷ [])
  fair_inner size builds = let sizes = map (λ (h : HeldRow). h.size) spares in
      let bases = distinct_filter (λ (h : HeldRow). h.base) (λ h. is_spare own h.base)
      (held_by (state_of pairs words log) number)
      (distinct_filter (λ (h : HeldRow). h.base) (λ h. h.caller == number)
      (state_of pairs words log).held (held_distinct pairs words log enabled)) in
      record {
        building = build_sizes (state_of pairs words log) number own ++ size ∷ [];
        spare = sizes;
        merge = merge_first (map (λ h. h.size) (held_by (state_of pairs words log) number))
            (build_sizes (state_of pairs words log) number own) sizes size
            (merge_filter (λ (h : HeldRow). h.size) (λ h. is_spare own h.base)
            (held_by (state_of pairs words log) number));
        builds = builds;
        few = few_sizes spares (λ h i. i);
        one_each = once_each spares (λ h i. i) bases;
      }

-- a caller without a row of the kind may take one, whatever others do meanwhile
pub may_take : (who : Caller) (kind : Kind) → IsSound who.token.view → IsCaller who
    → row_of kind (spares_of who) ≡ None → MayTake who.token.view who.number (kind_words kind)
may_take who kind s c none log m = let v = who.token.view in
    fair_with v.start v.words log m.lawful.enabled who.number (spares_of who)
    (caller_later v.start v.words v.log log who.number (spares_of who) m.lawful
    (subst (λ w. Later w v.log log) c.mine m.later) record { rows = c.rows; builds = c.builds })
    kind none
