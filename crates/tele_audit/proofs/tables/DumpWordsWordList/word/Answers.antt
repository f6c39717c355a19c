use Rattle.std.proofs.Common.{◌+◌, ◌*◌, drop, ap, sym, ◌∙◌, arith}
use Rattle.tele_audit.specs.Flaws.{number_encoded}
use Rattle.tele_audit.proofs.NumberLemmas.{place_told, word_told}
use Rattle.tele_audit.proofs.tables.DumpWordsWordList.word.Goals as goal

pub overflow_mul-place : goal.overflow_mul-place
overflow_mul-place c =
    let less = place_told c.self.inside.used c.self.inside.bytes.items c.args.self.now c.args.place
    c.self.view_is c.requires.within in
    let few = c.self.invariant.1 in omega arith

pub overflow_add-place : goal.overflow_add-place
overflow_add-place c =
    let less = place_told c.self.inside.used c.self.inside.bytes.items c.args.self.now c.args.place
    c.self.view_is c.requires.within in
    let few = c.self.invariant.1 in omega arith

-- the words that are used lie within the bytes
pub number_at-requires : goal.number_at-requires
number_at-requires c =
    let less = place_told c.self.inside.used c.self.inside.bytes.items c.args.self.now c.args.place
    c.self.view_is c.requires.within in
    let whole = c.self.invariant.0 in let len = c.deref.ensures.len in
    record { within = omega arith }

-- each word is where its number says
pub returns : goal.returns
returns c = record {
  value = c.number_at.ensures.value
      ∙ ap (λ bytes. number_encoded (drop (16 + 8 * c.args.place) bytes)) c.deref.ensures.value
      ∙ sym (word_told c.self.inside.used c.self.inside.bytes.items c.args.self.now c.args.place
      c.self.view_is c.requires.within);
}
