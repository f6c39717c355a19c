use Rattle.ist_rule.specs.RuleTerms.{word_count_of}
use Rattle.ist_build.proofs.FilledLemmas.{put_went, stopped_out}
use Rattle.ist_build.proofs.ShareLemmas.{err_map}
use Rattle.ist_build.proofs.BuiltLemmas.{laid_words}
use Rattle.ist_build.proofs.calls.fill_parts.Goals as goal

pub returns-clause-went : goal.returns-clause-went
returns-clause-went c = put_went _ _ c.fill_root.ensures.back.put

-- what was refused
pub returns-clause-full : goal.returns-clause-full
returns-clause-full c = err_map _ _ c.fill_root.result
    (λ full. stopped_out c.args.who.now.token.view c.fill_root.new.who.token.view c.args.rebuild
    (word_count_of c.args.table.now) full) c.fill_root.ensures.full

-- the rows that the caller had keep their words
pub returns-clause-words : goal.returns-clause-words
returns-clause-words c = laid_words _ _ _ c.fill_root.ensures.back.put c.know.ensures.sound
