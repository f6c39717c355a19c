use Rattle.std.proofs.Common.{rules}
use Rattle.ist_build.proofs.FilledLemmas.{built_went, laid_named, short_out}
use Rattle.ist_build.proofs.BuiltLemmas.{laid_words}
use Rattle.ist_build.proofs.calls.build_part.Goals as goal

-- a build that was refused
pub returns-in_err-word-clause-went : goal.returns-in_err-word-clause-went
returns-in_err-word-clause-went c = built_went _ _ c.build_share.ensures.built

pub returns-in_err-word-clause-full : goal.returns-in_err-word-clause-full
returns-in_err-word-clause-full c = let full = short_out _ _ _ _ _ c.in_err-word.ensures.full in
    search rules

-- the word of a build names something
pub named-requires : goal.named-requires
named-requires c = record {
  named = laid_named _ _ c.know.ensures.sound _ _ c.args.target c.args.start c.args.len _
      c.requires.share c.in_ok-word.ensures.laid;
}

pub returns-clause-went : goal.returns-clause-went
returns-clause-went c = built_went _ _ c.build_share.ensures.built

-- the rows that the caller had keep their words
pub returns-in_err-word-clause-words : goal.returns-in_err-word-clause-words
returns-in_err-word-clause-words c =
    laid_words _ _ _ c.build_share.ensures.built c.know.ensures.sound

pub returns-clause-words : goal.returns-clause-words
returns-clause-words c = laid_words _ _ _ c.build_share.ensures.built c.know.ensures.sound
