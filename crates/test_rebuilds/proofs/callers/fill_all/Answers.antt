use Rattle.ist_rebuild.proofs.EventLemmas.{built_helped}
use Rattle.ist_rows.proofs.GoneLemmas.{still_ready}
use Rattle.test_rebuilds.proofs.callers.fill_all.Goals as goal

pub returns : goal.returns
returns c = record {
  ready = still_ready (built_helped c.args.who.now c.fill_parts.new.who c.requires.ready.0
      c.fill_parts.ensures.caller c.fill_parts.ensures.refused c.fill_parts.ensures.number
      c.fill_parts.ensures.rows c.fill_parts.ensures.went).on;
}
