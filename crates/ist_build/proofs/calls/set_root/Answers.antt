use Rattle.std.proofs.Common.{rules}
use Rattle.ist_build.proofs.FilledLemmas.{put_went, root_named, stopped_out}
use Rattle.ist_build.proofs.BuiltLemmas.{laid_words}
use Rattle.ist_build.proofs.calls.set_root.Goals as goal

-- a build that was refused
pub returns-in_err-word-clause-went : goal.returns-in_err-word-clause-went
returns-in_err-word-clause-went c = put_went _ _ c.place_root.ensures.back.put

pub returns-in_err-word-clause-full : goal.returns-in_err-word-clause-full
returns-in_err-word-clause-full c = let full = stopped_out _ _ _ _ _ c.in_err-word.ensures.full in
    search rules

-- the word of the root names something
pub named-requires : goal.named-requires
named-requires c = record {
  named = root_named _ c.know-2.ensures.sound c.args.rebuild _ c.in_ok-word.ensures.root;
}

pub returns-clause-went : goal.returns-clause-went
returns-clause-went c = put_went _ _ c.place_root.ensures.back.put

-- the rows that the caller had keep their words
pub returns-in_err-word-clause-words : goal.returns-in_err-word-clause-words
returns-in_err-word-clause-words c =
    laid_words _ _ _ c.place_root.ensures.back.put c.know.ensures.sound

pub returns-clause-words : goal.returns-clause-words
returns-clause-words c = laid_words _ _ _ c.place_root.ensures.back.put c.know.ensures.sound
