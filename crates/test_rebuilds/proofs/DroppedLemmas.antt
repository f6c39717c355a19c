-- An inner row that stood in the anchor's slot lies above a lower pair row. Serves `give_up`.
use Rattle.std.proofs.Common.{◌≡◌, ℕ, ◌<◌, Some, sym, ap, ◌∙◌, subst}
use Rattle.ist_core.specs.WordTerms.{InnerAt, ref_of, anchor}
use Rattle.ist_core.specs.LogTerms.{shown_slot}
use Rattle.ist_core.proofs.AllPlaceLemmas.{SlotNames, names}
use Rattle.ist_rule.specs.RuleTerms.{TokenFace, now, Looked}
use Rattle.ist_rows.specs.RowTerms.{HasPairBelow}
use Rattle.ist_rows.specs.declared.callers.Caller.{Caller}

-- a caller whose load of the anchor's slot named a row above its pair row has a pair row below it
pub below_row_in_slot : (who : Caller) (token : TokenFace) (word pair base : ℕ)
    → Looked who.token.view 3 word token.view → ref_of word ≡ Some (InnerAt base)
    → who.pair ≡ Some pair → pair < base → HasPairBelow (record who { token = token }) base
below_row_in_slot who token word pair base l is held below = let t = now token.view in
    let reads : ref_of t.anchor ≡ Some (InnerAt base) =
    ap ref_of (sym (l.stood t.anchor shown_slot)) ∙ is in
    let row = (subst (SlotNames t.pieces anchor 0) reads
    (names token.view.start token.view.words l.sound.lawful.opens token.view.log
    l.sound.lawful.enabled).anchor_slot).1 in
    record {
      pair = pair;
      held = held;
      below = below;
      row = row.0;
      published = row.1;
    }
