use Rattle.ist_core.specs.WordTerms.{ref_of}
use Rattle.check_events.proofs.MarkLemmas.{finds_empty, finds_leaf, finds_inner, finds_rebuild}
use Rattle.check_events.proofs.marking.keys_of_word.Goals as goal
use Rattle.ist_layout.proofs.MeaningLemmas.{word_names}

pub returns-in-Some-Empty : goal.returns-in-Some-Empty
returns-in-Some-Empty c =
    let is = word_names c.args.word c.from_word.result _ _ c.from_word.ensures.value
    c.in-Some-Empty.is c.in-Some-Empty.field-0-is in
    record { exact = λ t h. finds_empty t (ref_of c.args.word) is }

pub returns-in-Some-Leaf : goal.returns-in-Some-Leaf
returns-in-Some-Leaf c =
    let is = word_names c.args.word c.from_word.result _ _ c.from_word.ensures.value
    c.in-Some-Leaf.is c.in-Some-Leaf.field-0-is in
    record { exact = λ t h. finds_leaf t (ref_of c.args.word) c.in-Some-Leaf.field-0-0 is }

pub returns-in-Some-Inner : goal.returns-in-Some-Inner
returns-in-Some-Inner c =
    let is = word_names c.args.word c.from_word.result _ _ c.from_word.ensures.value
    c.in-Some-Inner.is c.in-Some-Inner.field-0-is in
    record {
      exact = λ t h. finds_inner t (ref_of c.args.word) c.in-Some-Inner.base c.from.result
          c.finished_keys.result is c.from.ensures (c.finished_keys.ensures.exact t h);
    }

pub returns-in-Some-Rebuild : goal.returns-in-Some-Rebuild
returns-in-Some-Rebuild c =
    let is = word_names c.args.word c.from_word.result _ _ c.from_word.ensures.value
    c.in-Some-Rebuild.is c.in-Some-Rebuild.field-0-is in
    record {
      exact = λ t h. finds_rebuild t (ref_of c.args.word) c.in-Some-Rebuild.base
          c.from-in-Some-Rebuild.result c.target_keys.result is c.from-in-Some-Rebuild.ensures
          (c.target_keys.ensures.exact t h);
    }
