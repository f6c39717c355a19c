-- What hangs below a slot that was passed. Serves `pass_slot`.
use Rattle.std.proofs.Common.{◌≡◌, ◌≢◌, ℕ, Option, Some, None, option_map, sym, ap, ◌∙◌, subst, arith}
use Rattle.ist_core.specs.WordTerms.{Empty, Unset, LeafAt, InnerAt, ChangeAt, RebuildAt, ref_of}
use Rattle.ist_core.specs.LogTerms.{Passes}
use Rattle.ist_core.specs.TreeTerms.{HasTarget, as_child, after_rebuild, IsFrozen, CountsFor, no_key, one_key}
use Rattle.ist_core.proofs.AllPlaceLemmas.{SideNames, IsRebuildFor}
use Rattle.ist_core.proofs.AllWordLemmas.{same_rebuild}
use Rattle.ist_rule.specs.RuleTerms.{IsSound, now, GoesOnTo}
use Rattle.ist_rule.specs.declared.view.View.{View}
use Rattle.ist_rule.proofs.WentOnLemmas.{goes_on_went}
use Rattle.ist_layout.specs.declared.references.Ref as layout
use Rattle.ist_layout.specs.Meanings.{ref_meant}
use Rattle.ist_mark.specs.declared.below.PassedChild.TheVariants.{Keys, Node}
use Rattle.ist_mark.specs.Marking.{to_row, to_target}
use Rattle.ist_mark.specs.Passing.{HangsBelow, PassedWith}
use Rattle.ist_mark.proofs.KeepingLemmas.{happened_went, frozen_names, target_inner}

-- ---- words

-- what a passed word names
side_of_word : (v : View) → IsSound v → (node i word : ℕ) → IsFrozen v.log node i word
    → SideNames (now v).pieces node i (ref_of word)
side_of_word v s node i word p =
    frozen_names v.start v.words s.lawful.opens v.log s.lawful.enabled node i word p

-- an inner row that a passed word names hangs below
pub row_below : (v : View) → IsSound v → (node i word child : ℕ) → IsFrozen v.log node i word
    → ref_of word ≡ Some (InnerAt child) → HangsBelow v node word child
row_below v s node i word child p is =
    let names : SideNames (now v).pieces node i (Some (InnerAt child)) =
    subst (SideNames (now v).pieces node i) is (side_of_word v s node i word p) in
    record { above = names.0; called = as_child node i word p is; leads = to_row is }

-- a rebuild that a passed word names is published
pub rebuild_named : (v : View) → IsSound v → (node i word rebuild : ℕ) → IsFrozen v.log node i word
    → ref_of word ≡ Some (RebuildAt rebuild) → IsRebuildFor (now v).pieces node i rebuild
rebuild_named v s node i word rebuild p is =
    subst (SideNames (now v).pieces node i) is (side_of_word v s node i word p)

-- and its target hangs below
pub target_below : (v : View) → IsSound v → (node i word rebuild child : ℕ)
    → IsFrozen v.log node i word → ref_of word ≡ Some (RebuildAt rebuild)
    → HasTarget (now v) rebuild child → HangsBelow v node word child
target_below v s node i word rebuild child p is t =
    let named = rebuild_named v s node i word rebuild p is in
    let same = same_rebuild ((now v).pieces rebuild) named.row t.row named.published t.published in
    let high = (target_inner v.start v.words s.lawful.opens v.log s.lawful.enabled rebuild t.row
    t.published).0 in
    let parent : t.row.parent ≡ node = ap (λ r. r.parent) (sym same) ∙ named.parent in
    let target = t.target_is in record {
      above = omega arith;
      called = after_rebuild node i word rebuild p is t;
      leads = to_target rebuild is t;
    }

-- ---- the word as it is read

-- or as nothing
pub read_none : (word : ℕ) (o : Option layout.Ref) → option_map ref_meant o ≡ ref_of word
    → o ≡ None → ref_of word ≡ None
read_none word o e is = sym e ∙ ap (option_map ref_meant) is

-- a passed word that is read as an inner row leads to it
pub passed_row : (v : View) → IsSound v → (node i word child : ℕ) → IsFrozen v.log node i word
    → ref_of word ≡ Some (InnerAt child) → PassedWith v node i (Node child)
passed_row v s node i word child p is =
    record { word = word; frozen = p; is = row_below v s node i word child p is }

-- one that is read as a rebuild leads to its target
pub passed_target : (v w : View) → GoesOnTo v w → (node i word rebuild child : ℕ) → IsFrozen v.log node i word
    → HasTarget (now w) rebuild child → ref_of word ≡ Some (RebuildAt rebuild)
    → PassedWith w node i (Node child)
passed_target v w g node i word rebuild child p t is = let P = Passes node i word in
    let frozen = happened_went P v w (goes_on_went P v w g) P p in record {
      word = word;
      frozen = frozen;
      is = target_below w g.sound node i word rebuild child frozen is t;
    }

-- one that is read as a leaf counts for one key
pub passed_leaf : (v : View) (node i word base : ℕ) → IsFrozen v.log node i word
    → ref_of word ≡ Some (LeafAt base) → PassedWith v node i (Keys 1)
passed_leaf v node i word base p is =
    record { word = word; frozen = p; is = subst (λ o. CountsFor (now v) o 1) (sym is) one_key }

-- and one that is read as Empty for none
pub passed_empty : (v : View) (node i word : ℕ) → IsFrozen v.log node i word
    → ref_of word ≡ Some Empty → PassedWith v node i (Keys 0)
passed_empty v node i word p is =
    record { word = word; frozen = p; is = subst (λ o. CountsFor (now v) o 0) (sym is) no_key }

-- it is read as nothing else
pub passed_set : (v : View) → IsSound v → (node i word : ℕ) → IsFrozen v.log node i word
    → ref_of word ≢ Some Unset
passed_set v s node i word p is =
    subst (SideNames (now v).pieces node i) is (side_of_word v s node i word p)

-- a passed word names no change
pub passed_plain : (v : View) → IsSound v → (node i word change : ℕ) → IsFrozen v.log node i word
    → ref_of word ≢ Some (ChangeAt change)
passed_plain v s node i word change p is =
    subst (SideNames (now v).pieces node i) is (side_of_word v s node i word p)

-- a passed word names a reference
pub passed_some : (v : View) → IsSound v → (node i word : ℕ) → IsFrozen v.log node i word
    → ref_of word ≢ None
passed_some v s node i word p is =
    subst (SideNames (now v).pieces node i) is (side_of_word v s node i word p)
