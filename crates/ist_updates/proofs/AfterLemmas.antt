-- What a longer log of the same table keeps, and what it keeps while the table comes no further.
-- Serves `FurtherLemmas`.
use Rattle.std.proofs.Common.{◌≡◌, ◌≢◌, ◌⊎◌, ℕ, ◌≤◌, sym, ap, ap₂, ◌∙◌, subst, arith, ◌+◌, ◌-◌, ◌^◌, ◌<◌, nat_le, false, ◌∷◌, Some, refl, None}
use Rattle.std.proofs.lemmas.Bool.Decides.{leb_tells, nat_tests, eqb_tells}
use Rattle.ist_core.specs.declared.events.Event.{Event}
use Rattle.ist_core.specs.declared.events.Event.TheVariants.{Count}
use Rattle.ist_core.specs.declared.states.InnerRow.{InnerRow}
use Rattle.ist_core.specs.declared.pairs.Pair.{Pair as APair}
use Rattle.ist_core.specs.declared.states.LeafRow.{LeafRow}
use Rattle.ist_core.specs.LogTerms.{Lawful, state_of, Snapshot, IsShown, shown_row}
use Rattle.ist_core.specs.WordTerms.{unset_word, IsOpen, SlotHolds, limit, Inner, anchor_slot_place, inner_count_offset, inner_size_offset, Leaf, Pieces, LeafAt, ref_of}
use Rattle.ist_core.proofs.AllLogLemmas.{goes_on_more, on_chain_inner, grow_between, inner_there, count_low, leaf_there}
use Rattle.ist_rule.specs.RuleTerms.{WentOn, now, GoesOnTo, IsSound, searching, Turned, CanAdd, Looked, LoggedAdd, number_of}
use Rattle.ist_rule.specs.declared.view.View.{View}
use Rattle.ist_rule.proofs.LaterLemmas.{later-goes_on}
use Rattle.ist_rule.proofs.WentOnLemmas.{later_by-goes_on, logged_went, looked_went, went_more, went_grow, goes_on_grow}
use Rattle.laws_stability.specs.Progress.{progress}
use Rattle.laws_stability.proofs.OwnLemmas.{never_falls, open_stands, slots_stand}
use Rattle.laws_coming.specs.Further.{CameFurther}
use Rattle.ist_updates.specs.Further.{IsAfter, HasWalkedFew}
use Rattle.ist_updates.specs.Asking.{Updates}
use Rattle.ist_core.specs.TreeTerms.{InnerGrows, value_at}
use Rattle.ist_dcss.proofs.FieldLemmas.{looked_row, row_above, row_low}
use Rattle.laws_coming.proofs.FurtherLemmas.{count_comes}
use Rattle.ist_updates.specs.Walking.{MayCount, counting, IsCountAt, HasCountedAt}
use Rattle.ist_find.specs.Spans.{IsPairOf}

-- ---- one view after another

-- a caller that went on by these events has seen no less
pub after_went : (P : Event → Type 0) (v w : View) → WentOn P v w → IsAfter v w
after_went P v w g = grind (arith, later_by-goes_on)

-- so has one that made loads
pub after_loads : (v w : View) → GoesOnTo v w → IsAfter v w
after_loads v w g = grind (arith, later-goes_on)

-- and one that has seen no less than one that has seen no less than a third
pub after_more : (u v w : View) → IsAfter u v → IsAfter v w → IsAfter u w
after_more u v w a b = grind (arith, goes_on_more)

-- a table that came further since a later view came further since the earlier one
pub further_after : (u v w : View) → IsAfter u v → CameFurther v w → CameFurther u w
further_after u v w b k = grind (arith, never_falls)

-- and for what goes on from it
pub further_on : (u v w : View) → CameFurther u v → IsAfter v w → CameFurther u w
further_on u v w k b = grind (arith, never_falls)

-- the later view's state, by the earlier view's table
pub now_is : (v w : View) → IsAfter v w → state_of v.start v.words w.log ≡ now w
now_is v w b = ap₂ (λ p n. state_of p n w.log) (sym b.start_is) (sym b.words_is)

-- the later view's log is lawful over the earlier view's table
pub lawful_is : (v w : View) → IsAfter v w → IsSound w → Lawful v.start v.words w.log
lawful_is v w b s = grind arith

-- the table has come further, or no further
pub further_or_not : (v w : View) → CameFurther v w ⊎ (progress w.log ≤ progress v.log)
further_or_not v w = grind (arith, leb_tells)

-- ---- if a table comes no further

-- a set slot holds its word
pub stands : (v w : View) → IsAfter v w → IsSound w → progress w.log ≤ progress v.log
    → (node i word : ℕ) → word ≢ unset_word → SlotHolds (now v) node i word
    → SlotHolds (now w) node i word
stands v w b s few node i word set here = let l = lawful_is v w b s in
    subst (λ (t : Snapshot). SlotHolds t node i word) (now_is v w b)
    (slots_stand v.start v.words l.opens v.log w.log l.enabled b.later few node i word set here)

-- an open node is open
pub stays_open : (v w : View) → IsAfter v w → IsSound w → progress w.log ≤ progress v.log
    → (node : ℕ) → IsOpen (now v) node → IsOpen (now w) node
stays_open v w b s few node is = let l = lawful_is v w b s in
    subst (λ (t : Snapshot). IsOpen t node) (now_is v w b)
    (open_stands v.start v.words l.opens v.log w.log l.enabled b.later few node is)

-- ---- how many walks a call begins, beside the progress that it saw. Serves `apply`.

-- the walks begun are at most the steps of progress, if one more walk saw progress
pub paid_on : (u v w x : View) → v.searches + progress u.log ≤ u.searches + progress v.log
    → Turned v (searching v) w → WentOn Updates w x → CameFurther v x
    → x.searches + progress u.log ≤ u.searches + progress x.log
paid_on u v w x paid t g k = grind arith

-- and at most one more if the last walk saw none
pub few_on : (u v w x : View) → v.searches + progress u.log ≤ u.searches + progress v.log
    → Turned v (searching v) w → WentOn Updates w x → HasWalkedFew u x
few_on u v w x paid t g = grind (arith, never_falls, goes_on_more, later-goes_on, later_by-goes_on)

-- ---- what an add to the count of a row shows, and then a load of its size. Serves `count_at`.

module _ (v : View) (s : IsSound v) (row : ℕ) (m : MayCount v row) where
  number_is : number_of v.who ≡ m.number
  number_is = ap number_of m.mine

  there : (r : InnerRow) × ((now v).pieces row ≡ Some (Inner r))
  there = grind (arith, on_chain_inner)

  -- the size of the row lies within the table
  pub size_low : row + inner_size_offset < v.words
  size_low = (row_low v s row (Inner there.0) there.1 3 (omega arith)).0

  -- and after the anchor's slot
  pub size_off : {from : ℕ} → from ≡ row → from + inner_size_offset ≢ anchor_slot_place
  size_off from_is same =
      let above = row_above v s row (Inner there.0) there.1 in absurd (omega arith)

  -- the add may be the Count
  pub can_count : {from : ℕ} → from ≡ row
      → CanAdd v (from + inner_count_offset) (counting v (from + inner_count_offset - inner_count_offset))
  can_count from_is =
      let back : row + inner_count_offset - inner_count_offset ≡ row = omega arith in
      subst (λ q. CanAdd v (q + inner_count_offset) (counting v (q + inner_count_offset - inner_count_offset)))
      (sym from_is)
      (subst (λ r. CanAdd v (row + inner_count_offset) (counting v r)) (sym back)
      (subst (λ n. CanAdd v (row + inner_count_offset) (λ found. Count n row)) (sym number_is)
      (count_comes v s m.number m.mine row m.resolved m.can)))

  module _ {from found : ℕ} (from_is : from ≡ row) {w : View}
      (l : LoggedAdd v (counting v (from + inner_count_offset - inner_count_offset))
      (from + inner_count_offset) found w) where
    abbrev place : ℕ
    place = from + inner_count_offset

    at : place ≡ row + inner_count_offset
    at = ap (λ n. n + inner_count_offset) from_is

    event_is : counting v (place - inner_count_offset) found ≡ Count (number_of v.who) row
    event_is = grind arith

    lawful_after : Lawful v.start v.words
        (counting v (place - inner_count_offset) found ∷ l.logged.before)
    lawful_after = (subst IsSound l.logged.view l.logged.sound).lawful

    -- the row before the Count
    row_before : (r : InnerRow)
        × ((state_of v.start v.words l.logged.before).pieces row ≡ Some (Inner r))
        × InnerGrows there.0 r
    row_before = inner_there (now v).pieces (state_of v.start v.words l.logged.before).pieces
        (grow_between v.start v.words v.log l.logged.before lawful_after.enabled.0
        (later-goes_on l.logged.later)) row there.0 there.1

    -- its count is what the add found
    found_is : found ≡ row_before.0.count
    found_is = l.stood row_before.0.count
        (subst (λ q. IsShown (state_of v.start v.words l.logged.before) q row_before.0.count) (sym at)
        (shown_row row (Inner row_before.0) 1 row_before.1 refl))

    -- the count with one more fits a word
    pub found_fits : found + 1 < 2 ^ 64
    found_fits = grind (arith, count_low, found_is)

    -- the caller went on by its Counts at the row only
    pub count_went : WentOn (IsCountAt (number_of v.who) row) v w
    count_went = logged_went (IsCountAt (number_of v.who) row) v
        (counting v (place - inner_count_offset) found) w l.logged event_is refl

    module _ {start size : ℕ} (start_is : start ≡ row) {u : View}
        (k : Looked w (start + inner_size_offset) size u) where
      -- and so it did with the load of the size
      pub all_went : WentOn (IsCountAt (number_of v.who) row) v u
      all_went = went_more (IsCountAt (number_of v.who) row) v w u count_went
          (looked_went (IsCountAt (number_of v.who) row) w (start + inner_size_offset) size u k)

      size_is : size ≡ row_before.0.size
      size_is =
          let r = inner_there (now v).pieces (now u).pieces
          (went_grow (IsCountAt (number_of v.who) row) v u all_went) row there.0 there.1 in
          looked_row w (start + inner_size_offset) size u k row (Inner r.0) 3 r.0.size r.1 refl
          (ap (λ n. n + inner_size_offset) start_is)
          ∙ r.2.size ∙ sym row_before.2.size

      -- the Count, and whether it brought the row to its limit
      pub counted_at : (most : ℕ) → most ≡ limit size
          → HasCountedAt v.start v.words v.log (number_of v.who) row (nat_le most (found + 1)) u.log
      counted_at most most_is = record {
        at = l.logged.before;
        later = grind arith;
        more = grind arith;
        inner = row_before.0;
        published = row_before.1;
        yes = λ e. subst (λ n. limit row_before.0.size ≤ n + 1) found_is
            (subst (λ n. n ≤ found + 1) limit_is (grind (arith, nat_tests)));
        no = λ e h. told e (subst (λ n. n ≤ found + 1) (sym limit_is)
            (subst (λ n. limit row_before.0.size ≤ n + 1) (sym found_is) h));
      }
        where
          limit_is : most ≡ limit row_before.0.size
          limit_is = most_is ∙ ap limit size_is

          told : nat_le most (found + 1) ≡ false → ¬ (most ≤ found + 1)
          told e h = grind (arith, nat_tests)

-- ---- a leaf that is read, and what it gives its key. Serves `read_leaf`, and each try at a leaf.

-- a pair that was read is the leaf's row, which is there still
pub leaf_read : (v w : View) (base : ℕ) (pair : APair) → GoesOnTo v w → IsPairOf (now v) base pair
    → (now w).pieces base ≡ Some (Leaf record { key = pair.key; value = pair.value })
leaf_read v w base pair g p =
    leaf_there (now v).pieces (now w).pieces (goes_on_grow v w g) base p.row p.published
    ∙ ap₂ (λ k x. Some (Leaf record { key = k; value = x })) (sym p.key_is) (sym p.value_is)

-- a leaf of the key gives it its value
pub own_value : (ps : Pieces) (word : ℕ) {base key : ℕ} {row : LeafRow} → ref_of word ≡ Some (LeafAt base)
    → ps base ≡ Some (Leaf row) → row.key ≡ key → value_at ps (ref_of word) key ≡ Some row.value
own_value ps word {base} {key} {row} is there same = grind (arith, eqb_tells)

-- and a leaf of another none
pub other_value : (ps : Pieces) (word : ℕ) {base key : ℕ} {row : LeafRow} → ref_of word ≡ Some (LeafAt base)
    → ps base ≡ Some (Leaf row) → row.key ≢ key → value_at ps (ref_of word) key ≡ None
other_value ps word {base} {key} {row} is there differs = grind (arith, eqb_tells)
