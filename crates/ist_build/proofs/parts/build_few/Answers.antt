use Rattle.std.proofs.Common.{◌≤◌, IfOk, subst, rules}
use Rattle.std.specs.List.{sum}
use Rattle.ist_core.specs.WordTerms.{shape}
use Rattle.ist_rows.specs.RowTerms.{HasTaken, HasTakenFewIn}
use Rattle.ist_build.proofs.parts.build_few.Goals as goal

pub returns-clause-taken : goal.returns-clause-taken
returns-clause-taken c =
    subst (λ n. IfOk c.build_read.result
    (λ word. HasTaken c.args.who.now (shape n) c.build_read.new.who))
    (let few = c.requires.few in search rules) c.build_read.ensures.taken

pub returns-clause-few : goal.returns-clause-few
returns-clause-few c =
    subst (λ n. 2 ≤ n → HasTakenFewIn c.build_read.result (sum (shape n)) 0 c.args.who.now
    c.build_read.new.who)
    (let few = c.requires.few in search rules) c.build_read.ensures.few
