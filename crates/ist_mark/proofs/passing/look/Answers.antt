use Rattle.ist_rule.proofs.ExchangeLemmas.{loaded_as_keeps}
use Rattle.ist_mark.proofs.PassLemmas.{can_look, degree_low, look_tells}
use Rattle.ist_mark.proofs.passing.look.Goals as goal

-- there are few slots
pub slot_place-place-requires-clause-fits : goal.slot_place-place-requires-clause-fits
slot_place-place-requires-clause-fits c =
    degree_low _ c.know.ensures.sound c.args.node c.args.degree c.requires.may_pass.0

-- the slot may be passed
pub load_pass-requires-clause-may_load : goal.load_pass-requires-clause-may_load
load_pass-requires-clause-may_load c =
    can_look _ c.args.node c.args.degree c.args.index _ c.requires.may_pass.0 c.requires.within
    c.slot_place-place.ensures.value

-- the word tells what was done
pub returns : goal.returns
returns c = let e = c.load_pass.ensures in
    let told = look_tells _ c.args.node c.args.degree c.args.index _ _ c.requires.may_pass.0
    c.requires.within c.slot_place-place.ensures.value _ e.seen in
    let kept = loaded_as_keeps _ _ _ _ _ e.seen in record {
      marked = record { went = told.went; search = kept };
      change = told.change;
      frozen = told.frozen;
    }
