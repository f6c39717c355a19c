use Rattle.std.proofs.Common.{drop, ap, length, arith, ⊎_elim}
use Rattle.std.proofs.lemmas.Bool.Decides.{leb_tells}
use Rattle.std.proofs.lemmas.List.{get_or_past}
use Rattle.tele_audit.proofs.NumberLemmas.{length_numbers_in}
use Rattle.tele_audit.proofs.tables.DumpWordsWordList.know_fit.Goals as goal

pub word-word-requires : goal.word-word-requires
word-word-requires c =
    let n = length_numbers_in c.self.inside.used (drop 16 c.self.inside.bytes.items) in
    let e = ap length c.self.view_is in let less = c.loop-place-test.true in
    record { within = omega arith }

-- a word past the end is 0
pub returns : goal.returns
returns c = let n = length_numbers_in c.self.inside.used (drop 16 c.self.inside.bytes.items) in
    let e = ap length c.self.view_is in let all = c.loop-place-test.false in record {
      fit = λ place. ⊎_elim
          (λ h. let past = get_or_past c.args.self.now place 0 (let m = h.1 in omega arith) in
          omega arith)
          (λ h. c.loop-place.invariant place (let m = h.1 in omega arith))
          (leb_tells (length c.args.self.now) place);
    }
