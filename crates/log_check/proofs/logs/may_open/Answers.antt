use Rattle.std.proofs.Common.{false, IsTrue, length, arith}
use Rattle.ist_core.proofs.AllWordLemmas.{ideal_words_is}
use Rattle.log_check.proofs.logs.may_open.Goals as goal
use Rattle.log_check.proofs.logs.may_open.Goals.{then-count-words-via-then-count-words, then-count-words-via-else-count-words+then-from-ideal_words}

clash : {A : Type 0} → IsTrue false → A
clash e = absurd (let none : ⊥ = cc in none)

pub returns-then-count-words : goal.returns-then-count-words
returns-then-count-words c =
    elim c.then-count-words.branch [
      | then-count-words-via-then-count-words w ↦ record {
        exact = (
          λ e. clash e,
          λ opens. let room = opens.room in let many = ideal_words_is (length c.args.pairs.now) in
              let h = w.if-count-words.true in absurd (let none : ⊥ = omega arith in none),
        );
      }
      | then-count-words-via-else-count-words+then-from-ideal_words w ↦ record {
        exact = (
          λ e. clash e,
          λ opens. let room = opens.room in let h = w.if-from-ideal_words.true in let is =
              w.ideal_words.ensures.value in absurd (let none : ⊥ = omega arith in none),
        );
      }
    ]
