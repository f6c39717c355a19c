use Rattle.ist_core.specs.TreeTerms.{map_of}
use Rattle.tele_audit.proofs.PackLemmas.{point_few}
use Rattle.tele_audit.proofs.packing.take.Goals as goal

-- a command adds at most one key
pub returns-in-Ok-clause-few : goal.returns-in-Ok-clause-few
returns-in-Ok-clause-few c =
    point_few (map_of c.args.plain.now) (map_of c.apply.new.self) c.in-Point.command c.in-Ok.field-0
    c.in-Ok.ensures.step
