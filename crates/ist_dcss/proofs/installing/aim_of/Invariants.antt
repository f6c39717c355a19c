use Rattle.ist_core.specs.WordTerms.{Change, words_of}
use Rattle.ist_dcss.proofs.installing.aim_of.Given as goal

-- the words are the words of the change's row
abbrev pub ghost-own_word : goal.ghost-own_word
ghost-own_word g a = words_of (Change g.filling.change)
