use Rattle.std.proofs.Common.{◌≡◌, ℕ, zero, suc, ◌*◌, ◌<◌, sym, arith}
use Rattle.ist_core.specs.WordTerms.{ideal_words}
use Rattle.ist_core.proofs.AllWordLemmas.{ideal_words_none, ideal_words_one}
use Rattle.ist_math.proofs.sizes.ideal_words.Goals as goal

-- no key takes no word, and one key takes a leaf
few : (n : ℕ) → n < 2 → n * 2 ≡ ideal_words n
few zero h = sym ideal_words_none
few (suc zero) h = sym ideal_words_one
few (suc (suc n)) h = absurd (omega arith)

pub returns-then-n-lt2-clause-value : goal.returns-then-n-lt2-clause-value
returns-then-n-lt2-clause-value c = few c.args.n c.if-n-lt2.true
