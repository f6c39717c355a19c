-- What a word names instead of a row, and that it was helped. Serves `help_other`.
use Rattle.std.proofs.Common.{◌≡◌, ◌≢◌, ℕ, Option, Some, None, arith}
use Rattle.ist_core.specs.LogTerms.{Happened, Resolves}
use Rattle.ist_core.specs.WordTerms.{ChangeAt, Empty, InnerAt, LeafAt, RebuildAt, Ref, Unset, ref_of}
use Rattle.ist_rule.specs.RuleTerms.{now}
use Rattle.ist_rule.specs.declared.view.View.{View}
use Rattle.ist_build.specs.Calls.{IsBuildable}
use Rattle.ist_tree.specs.CallTerms.{Instead, Rebuild, Change, Other, IsHelpedWord, instead_of}

-- a rebuild's word
pub names_rebuild : {said : Instead} (ref : Option Ref) {base : ℕ} → said ≡ instead_of ref
    → said ≡ Rebuild base → ref ≡ Some (RebuildAt base)
names_rebuild (Some (RebuildAt other)) is e = cc
names_rebuild (Some (ChangeAt other)) is e = absurd (cc)
names_rebuild (Some (LeafAt other)) is e = absurd (cc)
names_rebuild (Some (InnerAt other)) is e = absurd (cc)
names_rebuild (Some Empty) is e = absurd (cc)
names_rebuild (Some Unset) is e = absurd (cc)
names_rebuild None is e = absurd (cc)

-- a change's word
pub names_change : {said : Instead} (ref : Option Ref) {base : ℕ} → said ≡ instead_of ref
    → said ≡ Change base → ref ≡ Some (ChangeAt base)
names_change (Some (RebuildAt other)) is e = absurd (cc)
names_change (Some (ChangeAt other)) is e = cc
names_change (Some (LeafAt other)) is e = absurd (cc)
names_change (Some (InnerAt other)) is e = absurd (cc)
names_change (Some Empty) is e = absurd (cc)
names_change (Some Unset) is e = absurd (cc)
names_change None is e = absurd (cc)

no_change_here : (a b : ℕ) → Some (RebuildAt a) ≢ Some (ChangeAt b)
no_change_here a b e = cc

-- a rebuild was helped
pub rebuild_helped : (w : View) (word base : ℕ) → ref_of word ≡ Some (RebuildAt base)
    → IsBuildable (now w) base → IsHelpedWord w word
rebuild_helped w word base is done = grind (arith, no_change_here)

-- a change was helped
pub change_helped : (w : View) (word base : ℕ) → ref_of word ≡ Some (ChangeAt base)
    → Happened (Resolves base) w.log → IsHelpedWord w word
change_helped w word base is done = grind (arith, no_change_here)

-- neither stood there
pub none_helped : (w : View) (word : ℕ) → instead_of (ref_of word) ≡ Other → IsHelpedWord w word
none_helped w word other = grind arith
