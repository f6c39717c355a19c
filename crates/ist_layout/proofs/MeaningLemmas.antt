-- What a word means that is read as a reference. Serves the readers of slots.
use Rattle.std.proofs.Common.{◌≡◌, ℕ, Option, Some, option_map, sym, ap, ◌∙◌}
use Rattle.ist_core.specs.WordTerms.{ref_of}
use Rattle.ist_layout.specs.Meanings.{ref_meant}
use Rattle.ist_layout.specs.declared.references.Ref as layout

-- a word that is read as a reference names the one that is meant
pub word_names : (word : ℕ) (o : Option layout.Ref) (x r : layout.Ref)
    → option_map ref_meant o ≡ ref_of word → o ≡ Some x → x ≡ r → ref_of word ≡ Some (ref_meant r)
word_names word o x r e is same =
    sym e ∙ ap (option_map ref_meant) is ∙ ap (λ y. Some (ref_meant y)) same
