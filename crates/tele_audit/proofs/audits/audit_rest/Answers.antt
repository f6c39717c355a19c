use Rattle.std.proofs.Common.{rules}
use Rattle.tele_io.proofs.OutcomeLemmas.{at_ok}
use Rattle.tele_audit.specs.Dumps.{IsLawfulDump}
use Rattle.tele_audit.specs.Flaws.{IsFirstFlaw}
use Rattle.tele_audit.proofs.FrontLemmas.{Reaches, reached_flaw, reached_so, reached_end, extended_head, extended_used}
use Rattle.tele_audit.proofs.audits.audit_rest.Goals as goal
use Rattle.tele_audit.proofs.audits.audit_rest.Goals.{After-length_flaw}
use Rattle.ist_rest.proofs.WholeLemmas.{if_ok_so}

pub length_flaw-requires-clause-used : goal.length_flaw-requires-clause-used
length_flaw-requires-clause-used g c =
    cc (extended_used _ _ c.in_ok-take_bytes.ensures.extends c.requires.head)

pub audit_bytes-requires-clause-head : goal.audit_bytes-requires-clause-head
audit_bytes-requires-clause-head g c = extended_head _ _ c.in_ok-take_bytes.ensures.extends c.requires.head

-- what was taken reaches the check of its length
reaches : (g : _) (c : After-length_flaw g) → Reaches (g.S.Source.left c.args.source.now)
    (g.S.Source.left c.take_bytes.new.source) c.args.bytes.items c.take_bytes.new.taken.items
    c.as_slice.result.now c.as_slice-2.result.now c.number_at-used.result c.length_flaw.result
reaches g c = search rules

-- the flaw of the length of what was taken
pub returns-in-Some-clause-flaw : goal.returns-in-Some-clause-flaw
returns-in-Some-clause-flaw g c flaw e =
    reached_flaw (reaches g (goal.at.returns-in-Some-clause-flaw g c).After-length_flaw) flaw (cc)

-- what was taken is all
pub returns-in-None : goal.returns-in-None
returns-in-None g c = let h = reaches g (goal.at.returns-in-None g c).After-length_flaw in record {
  lawful = if_ok_so _ _ c.audit_bytes.result
      (λ told. reached_so h (λ xs. IsLawfulDump xs told) c.in-None.is) c.audit_bytes.ensures.lawful;
  whole = at_ok c.audit_bytes.result (reached_end h c.in-None.is);
  flaw = λ f e. reached_so h (λ xs. IsFirstFlaw xs f) c.in-None.is (c.audit_bytes.ensures.flaw f e);
  failed = search rules;
  counted = search rules;
}
