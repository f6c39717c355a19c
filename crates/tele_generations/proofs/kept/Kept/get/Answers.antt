use Rattle.std.proofs.Common.{◌<◌, ◌≤◌, sym, ◌∙◌, subst, ap, length}
use Rattle.std.specs.List.{slice_index_or}
use Rattle.tele_generations.proofs.KeptLemmas.{slice_get-tables, slice_get-tables_past}
use Rattle.tele_generations.proofs.kept.Kept.get.Goals as goal

-- a place has the table of its number
pub returns-then-number-places : goal.returns-then-number-places
returns-then-number-places g c = let kept = c.args.self.now in
    let are = c.as_slice-places.ensures.value in
    let within = subst (λ places. c.args.number < length places) are c.if-number-places.true in
    let other = c.index-places-number.result in record {
      value = c.as_ref.ensures.value ∙ c.index-places-number.is
          ∙ ap (λ places. slice_index_or places c.args.number other) are
          ∙ slice_get-tables kept.places.items kept.present c.args.number other within;
    }

-- past the places there is no table
pub returns-else-number-places : goal.returns-else-number-places
returns-else-number-places g c = let kept = c.args.self.now in
    let past = subst (λ places. length places ≤ c.args.number) c.as_slice-places.ensures.value
    c.if-number-places.false in
    record {
      value = sym (slice_get-tables_past kept.places.items kept.present c.args.number past);
    }
