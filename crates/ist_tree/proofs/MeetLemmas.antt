-- What the word in the anchor's slot names is met. Serves `meet`.
use Rattle.std.proofs.Common.{◌≡◌, ℕ, Option, Some, None, option_map}
use Rattle.ist_core.specs.WordTerms.{ref_of, anchor, SlotHolds}
use Rattle.ist_find.specs.Searches.{SeesChange}
use Rattle.ist_layout.specs.Meanings.{ref_meant}
use Rattle.ist_layout.specs.declared.references.Ref.{Ref}
use Rattle.ist_layout.specs.declared.references.Ref.TheVariants as ref
use Rattle.ist_layout.proofs.MeaningLemmas.{word_names}
use Rattle.ist_mark.proofs.BelowLemmas.{read_none}
use Rattle.ist_rule.specs.RuleTerms.{now, IsSound}
use Rattle.ist_rule.proofs.EventLemmas.{goes_on_same}
use Rattle.ist_rows.specs.RowTerms.{IsReady}
use Rattle.ist_rows.specs.declared.callers.Caller.{Caller}
use Rattle.ist_tree.specs.CallTerms.{Still, no_key, HasMet, IsTopRebuild, IsAnchorsRow}
use Rattle.ist_tree.proofs.FurtherLemmas.{anchor_names, anchor_set}
use Rattle.ist_tree.proofs.FreezeLookLemmas.{change_seen, empty_no_row, leaf_no_row, leaf_still, looked_still, rebuild_below, rebuild_started, rebuild_top, row_held, row_may_start, row_top, still_top}

module _ (who : Caller) (s : IsSound who.token.view) {word : ℕ}
    (holds : SlotHolds (now who.token.view) anchor 0 word) {read : Option Ref}
    (means : option_map ref_meant read ≡ ref_of word) {found : Ref} (is : read ≡ Some found) where
  names : {r : Ref} → found ≡ r → ref_of word ≡ Some (ref_meant r)
  names {r} same = word_names word read found r means is same

  -- an inner row that the word names is the anchor's child
  pub top_row : {target : ℕ} → found ≡ ref.Inner target → IsAnchorsRow who.token.view target
  top_row {target} same = record {
    top = row_top who.token.view s word holds target (names same);
    may_start = row_may_start who.token.view s word holds target (names same);
    held = row_held who.token.view s word holds target (names same);
  }

  -- a rebuild that the word names is below the anchor
  pub top_rebuild : {rebuild : ℕ} → found ≡ ref.Rebuild rebuild → IsTopRebuild who.token.view rebuild
  top_rebuild {rebuild} same = record {
    started = rebuild_started who.token.view s word holds rebuild (names same);
    below = rebuild_below who.token.view s word holds rebuild (names same);
    top = rebuild_top who.token.view s word holds rebuild (names same);
  }

  -- a change that the word names is seen
  pub top_change : {change : ℕ} → found ≡ ref.Change change → SeesChange who.token.view change
  top_change {change} same = change_seen who.token.view s word holds change (names same)

  -- a leaf that the word names is met as a frozen tree
  pub met_leaf : IsReady who → {base : ℕ} → found ≡ ref.Leaf base
      → HasMet who who (Still record { root = ref.Leaf base; keys = 1 })
  met_leaf r {base} same = looked_still who who.token r (goes_on_same who.token.view s)
      record { root = ref.Leaf base; keys = 1 }
      (still_top who.token.view s word holds record { root = ref.Leaf base; keys = 1 } (names same)
      (leaf_still who.token.view s word holds base (names same))) (λ row e. leaf_no_row base row e)

  -- nothing is met as a frozen tree
  pub met_empty : IsReady who → found ≡ ref.Empty
      → HasMet who who (Still record { root = ref.Empty; keys = 0 })
  met_empty r same =
      looked_still who who.token r (goes_on_same who.token.view s) record { root = ref.Empty; keys = 0 }
      (still_top who.token.view s word holds record { root = ref.Empty; keys = 0 } (names same) no_key)
      (λ row e. empty_no_row row e)

  -- the slot is set
  pub never_unset : found ≡ ref.Unset → ⊥
  never_unset same = anchor_set who.token.view s word holds (names same)

-- and names something
pub never_none : (who : Caller) → IsSound who.token.view → {word : ℕ}
    → SlotHolds (now who.token.view) anchor 0 word → {read : Option Ref}
    → option_map ref_meant read ≡ ref_of word → read ≡ None → ⊥
never_none who s {word} holds {read} means none =
    anchor_names who.token.view s word holds (read_none word read means none)
