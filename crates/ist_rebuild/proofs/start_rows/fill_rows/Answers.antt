use Rattle.ist_rebuild.proofs.StartReadyLemmas.{rebuild_good}
use Rattle.ist_rebuild.proofs.start_rows.fill_rows.Goals as goal

-- the rebuild's row is held, so it lies at a good base
pub to_word-to-requires : goal.to_word-to-requires
to_word-to-requires c = record {
  good = rebuild_good c.args.who.now c.args.rows.rebuild c.args.rows.change c.requires.rows
      c.requires.caller.0 c.know.ensures.sound;
}
