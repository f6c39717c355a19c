-- What the code tests of an Install is what the condition says. Serves `installing.rt`.
use Rattle.std.proofs.Common.{◌≡◌, ◌↔◌, ◌∙◌, ◌<◌, ◌≤◌, ℕ, List, [], ◌∷◌, length, get_or, Option, Some, sym, ap, subst, inl, inr, arith}
use Rattle.ist_core.specs.declared.states.ChangeRow.{ChangeRow}
use Rattle.ist_core.specs.declared.lists.Row.{Row}
use Rattle.ist_core.specs.WordTerms.{Change, words_of, change_of, row_at, SlotHolds, undecided}
use Rattle.ist_core.specs.LogTerms.{Snapshot, HoldsRows, Log, state}
use Rattle.ist_core.specs.TreeTerms.{WasLinked, IsUnrefused, ComesByKey, PutsLeaf, PutsPair, Removes, Starts, Finishes, FitsKind, a_put, a_pair, a_remove, CanInstall}
use Rattle.check_events.specs.InstallRows.{MayStand, FitsByKey}
use Rattle.check_fairness.proofs.AnswerLemmas.{following, split_first}

-- words that are read as a change are its words
change_words_are : (ws : List ℕ) (c : ChangeRow) → change_of ws ≡ Some c → ws ≡ words_of (Change c)
change_words_are (a ∷ b ∷ d ∷ e ∷ f ∷ g ∷ h ∷ i ∷ j ∷ []) c k = grind arith
change_words_are [] c k = cc
change_words_are (a ∷ []) c k = cc
change_words_are (a ∷ b ∷ []) c k = cc
change_words_are (a ∷ b ∷ d ∷ []) c k = cc
change_words_are (a ∷ b ∷ d ∷ e ∷ []) c k = cc
change_words_are (a ∷ b ∷ d ∷ e ∷ f ∷ []) c k = cc
change_words_are (a ∷ b ∷ d ∷ e ∷ f ∷ g ∷ []) c k = cc
change_words_are (a ∷ b ∷ d ∷ e ∷ f ∷ g ∷ h ∷ []) c k = cc
change_words_are (a ∷ b ∷ d ∷ e ∷ f ∷ g ∷ h ∷ i ∷ []) c k = cc
change_words_are (a ∷ b ∷ d ∷ e ∷ f ∷ g ∷ h ∷ i ∷ j ∷ l ∷ ws) c k = cc

head_same : {a b : Row} {xs ys : List Row} → a ∷ xs ≡ b ∷ ys → a ≡ b
head_same e = cc

-- words from which a change is read are those of its row
pub reads_change : (words slice : List ℕ) (o : Option ChangeRow) (x : ChangeRow) → slice ≡ words
    → o ≡ change_of slice → o ≡ Some x → change_of words ≡ Some x
reads_change words slice o x same read is = ap change_of (sym same) ∙ sym read ∙ is

module _ (first : Snapshot) (log : Log) (caller base : ℕ) (rows : List Row) (row : Row)
    (change : ChangeRow) (n : 1 ≤ length rows) (e : row ≡ get_or rows 0 row) (at : row.base ≡ base)
    (reads : change_of row.words ≡ Some change) where
  whole : rows ≡ row ∷ following rows
  whole = split_first rows row n e

  same_change : (h : CanInstall first log caller base rows) → h.change ≡ change
  same_change h = grind (arith, head_same, whole)

  same_fresh : (h : CanInstall first log caller base rows) → h.fresh ≡ following rows
  same_fresh h = sym (cc (sym whole ∙ h.rows_are))

  rows_named : rows ≡ row_at base (Change change) ∷ following rows
  rows_named = grind (arith, change_words_are, whole, following)

  -- what remains to be checked is the condition of the kind
  pub install_is : caller < (state first log).callers → HoldsRows (state first log) caller rows
      → MayStand first log caller change
      → FitsKind first log change (following rows) ↔ CanInstall first log caller base rows
  install_is known held stand = (
    (λ fits.
        record {
          known = known;
          change = change;
          fresh = following rows;
          rows_are = rows_named;
          held = held;
          owned = stand.owned;
          unset = stand.unset;
          in_slot = stand.in_slot;
          linked = stand.linked;
          unrefused = stand.unrefused;
          fits = fits;
        }),
    (λ h. grind (arith, following, same_change, same_fresh)),
  )

  -- a change that may be installed meets what is required of any kind
  pub install_stands : CanInstall first log caller base rows → MayStand first log caller change
  install_stands h = subst (MayStand first log caller) (same_change h) record {
    owned = h.owned;
    unset = h.unset;
    in_slot = h.in_slot;
    linked = h.linked;
    unrefused = h.unrefused;
  }

-- a change of its caller that is undecided and in its slot, at a node that was linked, may stand
-- exactly if no change of its caller on this node was refused
pub stands_unrefused : (first : Snapshot) (log : Log) (caller : ℕ) (change : ChangeRow)
    → change.owner ≡ caller → change.decision ≡ undecided
    → SlotHolds (state first log) change.node change.index change.from
    → WasLinked first log change.node
    → IsUnrefused (state first log) caller change.node ↔ MayStand first log caller change
stands_unrefused first log caller change owned unset in_slot linked = (
  (λ none. record {
    owned = owned;
    unset = unset;
    in_slot = in_slot;
    linked = linked;
    unrefused = none;
  }),
  (λ stand. stand.unrefused),
)

-- ---- kinds

module _ (first : Snapshot) (log : Log) (change : ChangeRow) (fresh : List Row) where
  -- a put or a remove has its kind's condition
  pub fits_key : FitsByKey first log change fresh → FitsKind first log change fresh
  fits_key (inl h) = a_put h
  fits_key (inr (inl h)) = a_pair h
  fits_key (inr (inr h)) = a_remove h

  -- a put or a remove reaches its slot by its key
  pub key_leads : FitsByKey first log change fresh → ComesByKey first log change
  key_leads (inl h) = h.by_key
  key_leads (inr (inl h)) = h.by_key
  key_leads (inr (inr h)) = h.by_key

  -- a put or remove that puts neither a leaf nor a pair row must be a remove
  pub fits_remove : ¬ (PutsLeaf first log change fresh) → ¬ (PutsPair first log change fresh)
      → Removes first log change fresh ↔ FitsByKey first log change fresh
  fits_remove a b = ((λ r. inr (inr r)), back)
    where
      back : FitsByKey first log change fresh → Removes first log change fresh
      back (inl h) = absurd (a h)
      back (inr (inl h)) = absurd (b h)
      back (inr (inr h)) = h

  -- a change that is of no other kind must be a finish
  pub fits_finish : ¬ (FitsByKey first log change fresh) → ¬ (Starts (state first log) change fresh)
      → Finishes (state first log) change fresh ↔ FitsKind first log change fresh
  fits_finish a d = grind arith
