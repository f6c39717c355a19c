-- An ideal tree takes two words for each leaf, and its inner rows.
use Rattle.std.proofs.Common.{arith}
use Rattle.ist_core.proofs.AllWordLemmas.{ideal_words_is}
use Rattle.ist_scan.proofs.room.shot_words.Goals as goal

pub overflow_sub-result : goal.overflow_sub-result
overflow_sub-result c = let is = ideal_words_is c.args.keys in omega arith

pub returns : goal.returns
returns c = let is = ideal_words_is c.args.keys in record { value = omega arith }
