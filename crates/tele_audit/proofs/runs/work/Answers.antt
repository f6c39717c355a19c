use Rattle.tele_audit.proofs.RunLemmas.{refused_part}
use Rattle.tele_audit.proofs.runs.work.Goals as goal

-- a part of the line that says that the arguments are wrong
pub returns-in-Refuse-clause-part : goal.returns-in-Refuse-clause-part
returns-in-Refuse-clause-part g c =
    refused_part _ _ (g.S.Source.left c.args.source.now) c.args.job c.in-Refuse.is c.refuse.result
    c.refuse.ensures.part
