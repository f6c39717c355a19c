use Rattle.ist_math.proofs.sizes.+words_of_both.Given as goal

abbrev pub decreases-words_of_both : goal.decreases-words_of_both
decreases-words_of_both l = l.n
