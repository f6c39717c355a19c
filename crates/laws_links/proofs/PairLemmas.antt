-- While a put of a pair row is undecided, the pair row was never linked, and is as it was filled. Serves the changes law.
use Rattle.std.proofs.Common.{List, None, Some, ap, arith, inl, inr, length, refl, slice_get, subst, sym, ℕ, ⊎_elim, ◌*◌, ◌+◌, ◌∙◌, ◌∷◌, ◌≡◌, ◌≢◌}
use Rattle.ist_core.specs.declared.events.Event.{Event}
use Rattle.ist_core.specs.declared.events.Event.TheVariants.{Install}
use Rattle.ist_core.specs.declared.lists.Row.{Row}
use Rattle.ist_core.specs.declared.pairs.Pair.{Pair}
use Rattle.ist_core.specs.declared.states.ChangeRow.{ChangeRow}
use Rattle.ist_core.specs.declared.states.InnerRow.{InnerRow}
use Rattle.ist_core.specs.LogTerms.{after, CanOpen, EachEnabled, state_of, Log, HoldsRows}
use Rattle.ist_core.specs.TreeTerms.{Grows, CanInstall, FitsKind, IsLeafOf, new_leaf, pair_over, pair_row, Linked, WasLinked, at_anchor, below}
use Rattle.ist_core.specs.WordTerms.{Change, Inner, Piece, row_at, with_slot, words_of, ChangeAt, InnerAt, LeafAt, ref_of, unset_word, word_of, anchor, SlotHolds, logical, past_rebuild, start, put_kind, undecided}
use Rattle.ist_core.proofs.AllEventLemmas.{IsPublishedWith, fresh_stands, with_installed, pair_is_inner, HeldLieApart, holds_installed}
use Rattle.ist_core.proofs.AllLogLemmas.{leaf_there, grow_after, said_something}
use Rattle.ist_core.proofs.AllPlaceLemmas.{child_mentioned, names, one_home, anchor_free, slot_once, install_stands}
use Rattle.ist_core.proofs.AllWordLemmas.{changed_at-other, no_value}
use Rattle.laws_links.proofs.ChangeLemmas.{undecided_stands}
use Rattle.laws_links.proofs.FormLemmas.{leaf_of_grows}
use Rattle.laws_links.proofs.FormedLemmas.{fresh_after, leaf_grown}
use Rattle.laws_links.proofs.InductionLemmas.{changes_by, sound_after}
use Rattle.laws_links.proofs.ReadEventLemmas.{change_past}
use Rattle.laws_links.proofs.ReadLemmas.{side_undecided}
use Rattle.laws_links.proofs.RowEventLemmas.{slot_stood}
use Rattle.laws_links.proofs.UntouchedLemmas.{inner_row, not_the_anchor, stays_whole, untouched, was_linked_here}
use Rattle.ist_core.specs.Installing as kinds

-- ---- what an undecided change would put in

module _ (pairs : List Pair) (words : ℕ) (opens : CanOpen pairs words) where
  -- an inner row that an undecided change would put in isn't linked, if what the change takes out
  -- doesn't lead to it
  pub to_unlinked : (log : Log) → EachEnabled (start pairs words) log → (base : ℕ) (x : ChangeRow)
      → (state_of pairs words log).pieces base ≡ Some (Change x) → x.decision ≡ undecided
      → (child : ℕ) → ref_of x.to ≡ Some (InnerAt child)
      → past_rebuild (state_of pairs words log).pieces (ref_of x.from) ≢ Some (InnerAt child)
      → child ≢ anchor → ¬ (Linked (state_of pairs words log) child)
  to_unlinked log h base x e none _ is ne apart at_anchor = apart refl
  to_unlinked log h base x e none _ is ne apart (below {node = node} {child = child} i l c) =
      let t = state_of pairs words log in
      let home = (one_home pairs words opens log h).one node i x.node x.index child
      (child_mentioned t node i child (names pairs words opens log h) c)
      (inr (base, Change x, e, (refl, refl, inr is))) in
      let stands = undecided_stands pairs words opens log h base x e none in
      let slot = subst (λ n. SlotHolds t n i c.word) home.0 c.holds in
      let same = slot_once t x.node x.index c.word (word_of (ChangeAt base)) (anchor_free pairs words log h) (subst (λ j. SlotHolds t x.node j c.word) home.1 slot) stands in
      ne
      (sym (ap (past_rebuild t.pieces) (change_past pairs words opens log h base x e ∙ ap ref_of (side_undecided x none))) ∙ ap (logical t.pieces) (sym same) ∙ c.reads)

-- ---- pair rows

-- the change puts in a pair row, which is as it was filled, over a new leaf and the leaf of another
-- key that it takes out
pub record IsFilledPair (pairs : List Pair) (words : ℕ) (log : Log) (change : ChangeRow) (pair : ℕ) : Type 0 where
  pub other : ℕ
  pub other_key : ℕ
  pub leaf : ℕ
  pub from : ref_of change.from ≡ Some (LeafAt other)
  pub stands : IsLeafOf (state_of pairs words log) other other_key
  pub differs : other_key ≢ change.key
  pub new : (state_of pairs words log).pieces leaf ≡ Some (new_leaf change)
  pub published : (state_of pairs words log).pieces pair ≡ Some (pair_row change.key leaf other_key other)
  pub never : ¬ (WasLinked (start pairs words) log pair)

-- a leaf's word isn't Unset
leaf_set : (base : ℕ) → word_of (LeafAt base) ≢ unset_word
leaf_set base e = let seven : base * 8 + 1 ≡ 7 = e in omega arith

-- no slot of a pair row is left to be set
over_set : (key left right i : ℕ) (r : InnerRow) → pair_over key left right ≡ Inner r
    → slice_get r.slots i ≢ Some unset_word
over_set key left right i r e k = grind (arith, inner_row, leaf_set)

pair_set : (key base other_key other i : ℕ) (r : InnerRow)
    → pair_row key base other_key other ≡ Inner r → slice_get r.slots i ≢ Some unset_word
pair_set key base other_key other i r = grind (arith, over_set)

module _ (pairs : List Pair) (words : ℕ) (opens : CanOpen pairs words) where
  -- if its change is still undecided after an event, a filled pair row isn't linked by it and stays
  -- filled
  filled_step : (log : Log) (event : Event) → EachEnabled (start pairs words) (event ∷ log)
      → (base : ℕ) (x : ChangeRow)
      → (state_of pairs words (event ∷ log)).pieces base ≡ Some (Change x) → x.decision ≡ undecided
      → (pair : ℕ) → ref_of x.to ≡ Some (InnerAt pair) → IsFilledPair pairs words log x pair
      → IsFilledPair pairs words (event ∷ log) x pair
  filled_step log event h base x there none pair to f = let t = state_of pairs words log in
      let u = state_of pairs words (event ∷ log) in let g = grow_after pairs words log event h in
      let row = pair_is_inner x.key f.leaf f.other_key f.other in
      let e : t.pieces pair ≡ Some (Inner row.0) = f.published ∙ ap (λ p. Some p) row.1 in
      let on = untouched pairs words opens log event h pair row.0 e f.never in
      let now : IsLeafOf u f.other f.other_key = leaf_of_grows t u g f.other f.other_key f.stands in
      record {
        other = f.other;
        other_key = f.other_key;
        leaf = f.leaf;
        from = f.from;
        stands = now;
        differs = f.differs;
        new = leaf_there t.pieces u.pieces g f.leaf record { key = x.key; value = x.value } f.new;
        published =
            on.1 ∙ ap (λ r. Some (Inner r)) (stays_whole (start pairs words) log event pair row.0 on.0 e (λ i. pair_set x.key f.leaf f.other_key f.other i row.0 row.1) on.2) ∙ ap (λ p. Some p) (sym row.1);
        never = λ was. ⊎_elim
            (λ linked. to_unlinked pairs words opens (event ∷ log) h base x there none pair to
            (λ k. leads k)
            (not_the_anchor pairs words opens (event ∷ log) h pair on.0 on.1) linked)
            (λ before. f.never before) was;
      }
    where
      leads : past_rebuild (state_of pairs words (event ∷ log)).pieces (ref_of x.from) ≡ Some (InnerAt pair) → ⊥
      leads k = grind arith

  -- a pair row is filled at its Install
  filled_install : (log : Log) (caller base : ℕ) (rows : List Row)
      → EachEnabled (start pairs words) (Install caller base rows ∷ log)
      → (can : CanInstall (start pairs words) log caller base rows) → can.change.kind ≡ put_kind
      → (pair : ℕ) → ref_of can.change.to ≡ Some (InnerAt pair)
      → IsFilledPair pairs words (Install caller base rows ∷ log) can.change pair
  filled_install log caller base rows h can kind pair to =
      at can.fits (fresh_after (start pairs words) log caller base rows can s)
      (fresh_stands (start pairs words) log caller base can.change can.fresh s (state_of pairs words log).pieces can.fits holds)
    where
      s : HeldLieApart (state_of pairs words log)
      s = sound_after pairs words log h.0

      holds : HoldsRows (state_of pairs words log) caller (row_at base (Change can.change) ∷ can.fresh)
      holds = holds_installed (start pairs words) log caller base rows can

      at : (fits : FitsKind (start pairs words) log can.change can.fresh)
          → ((b : ℕ) (p : Piece) → IsPublishedWith (start pairs words) log can.change can.fresh fits b p
          → (q : Piece)
          × ((state_of pairs words (Install caller base rows ∷ log)).pieces b ≡ Some q) × Grows p q)
          → ((b : ℕ) (p : Piece) → IsPublishedWith (start pairs words) log can.change can.fresh fits b p
          → with_installed (state_of pairs words log).pieces base can.change can.fresh b ≡ Some p)
          → IsFilledPair pairs words (Install caller base rows ∷ log) can.change pair
      at (kinds.a_put f) following stands = absurd (cc (sym f.to ∙ to))
      at (kinds.a_remove f) following stands = grind arith
      at (kinds.a_start f) following stands = grind arith
      at (kinds.a_finish f) following stands = grind arith
      at (kinds.a_pair f) following stands =
          subst (λ n. IsFilledPair pairs words (Install caller base rows ∷ log) can.change n)
          (cc (sym f.to ∙ to)) filled
        where
          none : (state_of pairs words log).pieces f.pair ≡ None
          none =
              let held = subst (λ xs. HoldsRows (state_of pairs words log) caller (row_at base (Change can.change) ∷ xs)) f.fresh_are holds in
              s.unpublished
              record { caller = caller; base = f.pair; size = length (words_of (pair_row can.change.key f.leaf f.other_key f.other)) } held.1.0

          grown : (q : Piece) ×
              ((state_of pairs words (Install caller base rows ∷ log)).pieces f.pair ≡ Some q) × Grows
              (pair_row can.change.key f.leaf f.other_key f.other) q
          grown =
              following f.pair (pair_row can.change.key f.leaf f.other_key f.other) (inl (refl, refl))

          apart : f.pair ≢ can.change.node
          apart e = slot_stood pairs words log
              (Install caller base rows) h can.change.node can.change.index can.change.from can.in_slot f.pair grown.0 grown.1 e none

          there : (state_of pairs words (Install caller base rows ∷ log)).pieces f.pair ≡ Some (pair_row can.change.key f.leaf f.other_key f.other)
          there =
              let qs = with_installed (state_of pairs words log).pieces base can.change can.fresh in
              subst
              (λ xs. (after (state_of pairs words log) (Install caller base xs)).pieces f.pair ≡ Some (pair_row can.change.key f.leaf f.other_key f.other))
              (sym can.rows_are)
              (changed_at-other qs can.change.node f.pair (with_slot can.change.index (word_of (ChangeAt base))) apart ∙ stands f.pair (pair_row can.change.key f.leaf f.other_key f.other) (inl (refl, refl)))

          ne : f.pair ≢ anchor
          ne e = no_value
              ((state_of pairs words (Install caller base rows ∷ log)).pieces f.pair) grown.0
              (subst (λ n. (state_of pairs words (Install caller base rows ∷ log)).pieces n ≡ None) (sym e) (anchor_free pairs words (Install caller base rows ∷ log) h)) grown.1

          leads : past_rebuild (state_of pairs words (Install caller base rows ∷ log)).pieces (ref_of can.change.from) ≡ Some (InnerAt f.pair) → ⊥
          leads k = clash
              (ap (past_rebuild (state_of pairs words (Install caller base rows ∷ log)).pieces) (sym f.from) ∙ k)
            where
              clash : Some (LeafAt f.other) ≡ Some (InnerAt f.pair) → ⊥
              clash q = cc

          filled : IsFilledPair pairs words (Install caller base rows ∷ log) can.change f.pair
          filled = let g = grow_after pairs words log (Install caller base rows) h in
              let leaf = following f.leaf (new_leaf can.change) (inr (refl, refl)) in
              let stood : IsLeafOf (state_of pairs words (Install caller base rows ∷ log)) f.other f.other_key = leaf_of_grows (state_of pairs words log) (state_of pairs words (Install caller base rows ∷ log)) g f.other f.other_key f.stands in
              record {
                other = f.other;
                other_key = f.other_key;
                leaf = f.leaf;
                from = f.from;
                stands = stood;
                differs = f.differs;
                new =
                    leaf.1 ∙ ap (λ x. Some x) (leaf_grown record { key = can.change.key; value = can.change.value } leaf.0 leaf.2);
                published = there;
                never = λ was. ⊎_elim
                    (λ linked. to_unlinked pairs words opens (Install caller base rows ∷ log) h base can.change (install_stands (start pairs words) log caller base rows can) can.unset f.pair f.to leads ne linked)
                    (λ before. let row_here = was_linked_here pairs words opens log h.0 f.pair ne before in no_value ((state_of pairs words log).pieces f.pair) (Inner row_here.0) none row_here.1)
                    was;
              }

  -- while a put of a pair row is undecided, the pair row is as it was filled, and was never linked
  pub pair_is_filled : (log : Log) → EachEnabled (start pairs words) log
      → (base : ℕ) (x : ChangeRow)
      → (state_of pairs words log).pieces base ≡ Some (Change x) → x.decision ≡ undecided
      → x.kind ≡ put_kind
      → (pair : ℕ) → ref_of x.to ≡ Some (InnerAt pair) → IsFilledPair pairs words log x pair
  pair_is_filled = changes_by pairs words
      (λ log base x. x.decision ≡ undecided → x.kind ≡ put_kind → (pair : ℕ) → ref_of x.to ≡ Some (InnerAt pair) → IsFilledPair pairs words log x pair)
      (λ log event h base x old there before none kind pair to. filled_step log event h base x there none pair to (before none kind pair to))
      (λ log caller base rows h can none kind pair to. filled_install log caller base rows h can kind pair to)
      (λ log caller base said h can before none kind pair to. absurd (said_something said none))
