-- Parts that are built only by stores, in rows that were reserved together. Serves `lay`.
use Rattle.std.proofs.Common.{◌≡◌, ℕ, ◌+◌, ◌<◌, ◌≤◌, List, [], ◌∷◌, ◌++◌, length, Some, sym, ap, ◌∙◌, subst, arith, false, Result, Ok, Err}
use Rattle.std.specs.List.{sum}
use Rattle.std.proofs.lemmas.List.Sums.{sum_by-cons}
use Rattle.ist_core.specs.declared.lists.Row.{Row}
use Rattle.ist_core.specs.declared.ports.Full.{Full}
use Rattle.ist_core.specs.LogTerms.{Each, Snapshot, HoldsRows}
use Rattle.ist_core.specs.TreeTerms.{PlacedLeaf}
use Rattle.ist_core.specs.WordTerms.{inner_words, degree, part_len, shape}
use Rattle.ist_core.proofs.AllWordLemmas.{each_append}
use Rattle.ist_core.proofs.AllPlaceLemmas.{placed, claimed_within}
use Rattle.ist_rule.specs.RuleTerms.{IsSound, own_at, now, StoredAll}
use Rattle.ist_rule.specs.declared.view.View.{View}
use Rattle.ist_rule.specs.declared.view.OwnWord.{OwnWord}
use Rattle.laws_calls.specs.Dividing.{parts_to, share_of}
use Rattle.laws_calls.proofs.PartLemmas.{parts_next}
use Rattle.ist_rows.specs.RowTerms.{HoldsBlock, HasRunOut, HasTakenFew, HasTakenFewIn, TakesNoWords}
use Rattle.ist_rows.specs.declared.callers.Caller.{Caller}
use Rattle.ist_build.specs.Laying.{IsLaidBelow, IsReservation}
use Rattle.ist_build.specs.Midway.{words_at, AreLaidBelow, setting}
use Rattle.ist_build.proofs.LayingLemmas.{words_at_same, words_at_more}
use Rattle.ist_build.proofs.RowOpenedLemmas.{at_slot, elsewhere}
use Rattle.ist_build.proofs.JoinedSubtreeLemmas.{are_laid_more, more_rows}
use Rattle.ist_rows.proofs.FewLemmas.{few_less, few_low, few_more, few_out_more, few_wider, out_wider}
use Rattle.ist_rows.proofs.FewStepLemmas.{few_kept, few_none, few_same}
use Rattle.ist_build.specs.declared.shared.SharedRoot.{SharedRoot}
use Rattle.ist_build.specs.Back.{HasBuilt, IsFreeToBuild, IsBack, IsSharedAs}
use Rattle.ist_build.specs.Calls.{parts_words}
use Rattle.ist_build.specs.Left.{left_for, slot_is_set}
use Rattle.ist_build.specs.Putting.{IsSlotSet}
use Rattle.ist_build.proofs.BackLemmas.{back_same, back_more, shared_back}
use Rattle.ist_build.proofs.FewLemmas.{after_back, after_laid}
use Rattle.ist_build.proofs.LeftLemmas.{left_has, left_less, left_most, left_on}

-- ---- a block

-- a block splits into a block of its first rows and a block of the others, which follow them
pub holds_split : (t : Snapshot) (number base : ℕ) (xs ys : List ℕ)
    → HoldsBlock t number base (xs ++ ys)
    → HoldsBlock t number base xs × HoldsBlock t number (base + sum xs) ys
holds_split t number base [] ys h = grind arith
holds_split t number base (x ∷ xs) ys h = let it = holds_split t number (base + x) xs ys h.1 in
    let all : sum (x ∷ xs) ≡ x + sum xs = sum_by-cons (λ n. n) x xs in (
      (h.0, it.0),
      subst (λ b. HoldsBlock t number b ys)
          (let q : base + x + sum xs ≡ base + sum (x ∷ xs) = omega arith in q) it.1,
    )

-- ---- rows that end at a place

ends_more : (high more : ℕ) → high ≤ more → (rows : List Row)
    → Each (λ row. row.base + length row.words ≤ high) rows
    → Each (λ row. row.base + length row.words ≤ more) rows
ends_more high more le [] h = tt
ends_more high more le (row ∷ rows) h =
    let first = h.0 in (omega arith, ends_more high more le rows h.1)

-- held rows that end there lie below it
ends_below : (v : View) → IsSound v → (number high : ℕ) (rows : List Row)
    → HoldsRows (now v) number rows → Each (λ row. row.base + length row.words ≤ high) rows
    → Each (λ row. row.base < high) rows
ends_below v s number high [] held h = tt
ends_below v s number high (row ∷ rows) held h =
    let it = claimed_within v.start v.words v.log row.base (length row.words) s.lawful.enabled
    ((placed v.start v.words v.log s.lawful.enabled).held
    record { caller = number; base = row.base; size = length row.words } held.0) in
    let some = it.some in let first = h.0 in
    (omega arith, ends_below v s number high rows held.1 h.1)

-- ---- stores elsewhere

module _ (v : View) (own : List OwnWord) (low high : ℕ)
    (same : (p : ℕ) → low ≤ p → p < high → own_at own p ≡ own_at v.own p) where
  abbrev w : View
  w = record v { own = own }

  stored_own : (rows : List Row) → Each (λ row. low ≤ row.base) rows
      → Each (λ row. row.base + length row.words ≤ high) rows → StoredAll v rows → StoredAll w rows
  stored_own [] above ends stored = tt
  stored_own (row ∷ rows) above ends stored = (
    (λ k less. let first = above.0 in let last = ends.0 in
        stored.0 k less ∙ ap (λ x. Some x) (sym (same (row.base + k) (omega arith) (omega arith)))),
    stored_own rows above.1 ends.1 stored.1,
  )

  -- what is built stays built if words are stored elsewhere
  pub are_laid_own : (number above : ℕ) (words : List ℕ) (parts : List (List PlacedLeaf))
      → AreLaidBelow v number low high above words parts
      → AreLaidBelow w number low high above words parts
  are_laid_own number above words parts h = record {
    laid = record {
      rows = h.laid.rows;
      owns = record {
        stored = stored_own h.laid.rows h.laid.owns.high h.ends h.laid.owns.stored;
        held = h.laid.owns.held;
        once = h.laid.owns.once;
        rising = h.laid.owns.rising;
        high = h.laid.owns.high;
      };
      ideal = h.laid.ideal;
    };
    ends = h.ends;
  }

-- ---- one part more

module _ (v : View) (number base d n j next end key word : ℕ) (set_own : List OwnWord)
    (less : j < d) (room : base + inner_words d ≤ next) (up : next ≤ end)
    (keeps : (p : ℕ) → p < next → own_at set_own p ≡ own_at v.own p)
    (sound : IsSound (record v { own = set_own })) (leaves : List PlacedLeaf)
    (before : AreLaidBelow v number (base + inner_words d) next base
    (words_at v.own (base + 3 + d) j) (parts_to n j leaves))
    (part : IsLaidBelow (record v { own = set_own }) number next end word (share_of n j leaves))
  where
    abbrev c : View
    c = record v { own = set_own }

    abbrev words : List OwnWord
    words = (setting c base d j key word).own

    on : AreLaidBelow c number (base + inner_words d) next base (words_at v.own (base + 3 + d) j)
        (parts_to n j leaves)
    on = are_laid_own v set_own (base + inner_words d) next (λ p low high. keeps p high) number base
        (words_at v.own (base + 3 + d) j) (parts_to n j leaves) before

    below : Each (λ row. row.base < next) on.laid.rows
    below = ends_below c sound number next on.laid.rows on.laid.owns.held on.ends

    joined : AreLaidBelow c number (base + inner_words d) end base
        (words_at v.own (base + 3 + d) j ++ word ∷ []) (parts_to n j leaves ++ share_of n j leaves ∷ [])
    joined = record {
      laid = are_laid_more c sound number (base + inner_words d) next base room (omega arith)
          (words_at v.own (base + 3 + d) j) (parts_to n j leaves) word (share_of n j leaves)
          on.laid part.laid below;
      ends = subst (Each (λ row. row.base + length row.words ≤ end))
          (sym (more_rows c sound number (base + inner_words d) next base room (omega arith)
          (words_at v.own (base + 3 + d) j) (parts_to n j leaves) word (share_of n j leaves)
          on.laid part.laid below))
          (each_append (λ row. row.base + length row.words ≤ end) on.laid.rows part.laid.rows
          (ends_more next end up on.laid.rows on.ends) part.ends);
    }

    words_now : words_at words (base + 3 + d) (j + 1) ≡ words_at v.own (base + 3 + d) j ++ word ∷ []
    words_now = grind (arith, words_at_more, words_at_same, elsewhere, at_slot)

    -- the part is built, with the parts before it, once its word and its key are stored
    pub part_laid_too : AreLaidBelow (record v { own = words }) number (base + inner_words d) end base
        (words_at words (base + 3 + d) (j + 1)) (parts_to n (j + 1) leaves)
    part_laid_too =
        subst (AreLaidBelow (record v { own = words }) number (base + inner_words d) end base
        (words_at words (base + 3 + d) (j + 1))) (sym (parts_next n j leaves))
        (subst (λ xs. AreLaidBelow (record v { own = words }) number (base + inner_words d) end base xs
        (parts_to n j leaves ++ share_of n j leaves ∷ [])) (sym words_now)
        (are_laid_own c words (base + inner_words d) end
        (λ p low high. elsewhere c base d j key word less p (λ e. omega arith)
        (λ one e. omega arith))
        number base (words_at v.own (base + 3 + d) j ++ word ∷ [])
        (parts_to n j leaves ++ share_of n j leaves ∷ []) joined))

-- ---- how few words a caller takes that fills a shared root: no more than the slots did that are set. Serves
-- `filling`.

-- the caller is back, and took no more words than the slots did that were set
abbrev pub FillsFew : Caller → SharedRoot → Caller → Type 0
FillsFew old s new = IsBack old new × HasTakenFew (left_for old s) (left_for new s) old new

-- it does so from the start
pub fills_same : (who : Caller) (s : SharedRoot) → IsFreeToBuild who → IsSound who.token.view → FillsFew who s who
fills_same who s r sound = (back_same who r sound, few_same (left_for who s) who)

module _ (old new : Caller) (s : SharedRoot) (b : IsBack old new)
    (was : IsSharedAs (now old.token.view) s) where
  sh : IsSharedAs (now new.token.view) s
  sh = shared_back old new s b was

  -- one that took no word
  pub fills_none : TakesNoWords old new → FillsFew old s new
  fills_none h = (
    b,
    few_low (left_for old s) (left_for old s) (left_for old s) (left_for new s) old new (omega arith)
        (left_on old.token.view new.token.view b.put s sh.is.node.row sh.is.node.published)
        (few_none (left_for old s) old new h),
  )

  module _ (i : ℕ) (low : i < s.degree)
      (vacant : slot_is_set ((now old.token.view).pieces s.root) i ≡ false) where
    abbrev cost : ℕ
    cost = sum (shape (part_len s.keys i))

    here : i < degree s.keys
    here = subst (λ n. i < n) sh.degree_is low

    -- one that set a slot and took only the words of its part
    pub fills_part : (made : Caller) → HasBuilt old made → HasTakenFew cost 0 old made
        → TakesNoWords made new → IsSlotSet (now new.token.view) s.root i → FillsFew old s new
    fills_part made a f none set =
        let fewer = left_less old.token.view new.token.view b.put s sh.is.node.row
        sh.is.node.published i here vacant set in
        let few = few_kept cost 0 old made new (after_laid IsReservation old made a.number a.built) none f
        in (
          b,
          few_low (cost + left_for new s) (0 + left_for new s) (left_for old s) (left_for new s) old new
              (omega arith) (omega arith) (few_wider cost 0 (left_for new s) old new few),
        )

    -- one for which the words ran out in a part
    pub fills_out : HasRunOut cost old new → HasRunOut (left_for old s) old new
    fills_out r = out_wider cost (left_for old s) old new
        (left_has (slot_is_set ((now old.token.view).pieces s.root)) s.keys i vacant (degree s.keys) here)
        r

module _ (old mid new : Caller) (s : SharedRoot) (f : FillsFew old s mid) (b : IsBack mid new) where
  -- one fill after another
  pub fills_more : HasTakenFew (left_for mid s) (left_for new s) mid new → FillsFew old s new
  fills_more g = (
    back_more old mid new f.0 b,
    few_more old mid new (after_back old mid f.0) (after_back mid new b) (left_for old s)
        (left_for mid s) (left_for new s) f.1 g,
  )

  -- a step that takes no word
  pub fills_idle : IsSharedAs (now old.token.view) s → TakesNoWords mid new → FillsFew old s new
  fills_idle was h = fills_more (fills_none mid new s b (shared_back old mid s f.0 was) h).1

  -- one for which the words ran out
  pub fills_out_more : HasRunOut (left_for mid s) mid new → HasRunOut (left_for old s) old new
  fills_out_more g =
      few_out_more old mid new (after_back old mid f.0) (after_back mid new b) (left_for old s)
      (left_for mid s) (left_for new s) f.1 g

  -- a call that fills
  pub fills_then : {A : Type 0} (r : Result A Full)
      → HasTakenFewIn r (left_for mid s) (left_for new s) mid new
      → HasTakenFewIn r (left_for old s) (left_for new s) old new
  fills_then (Ok x) g = (fills_more g).1
  fills_then (Err full) g = fills_out_more g

-- the slots take no more than all parts
pub fills_parts : {A : Type 0} (r : Result A Full) (old new : Caller) (s : SharedRoot)
    → IsSharedAs (now old.token.view) s → HasTakenFewIn r (left_for old s) (left_for new s) old new
    → HasTakenFewIn r (parts_words s.keys) 0 old new
fills_parts r old new s sh f = grind (arith, few_less, left_most)
