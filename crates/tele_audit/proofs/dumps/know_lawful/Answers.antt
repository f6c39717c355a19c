use Rattle.tele_audit.proofs.dumps.know_lawful.Goals as goal

-- standing words are lawful, with the pairs of the map
pub returns : goal.returns
returns c = let s = c.know.ensures.stands in record {
  lawful = (_, c.standing_words_hold_the_map.ensures.lawful c.args.closed.now s.0 s.1 s.2);
}
