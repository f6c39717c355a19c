use Rattle.std.proofs.Common.{◌+◌, refl, sym, ap, arith}
use Rattle.ist_core.specs.WordTerms.{Leaf}
use Rattle.ist_rule.proofs.EventLemmas.{looked_goes_on}
use Rattle.ist_dcss.proofs.FieldLemmas.{looked_row, row_above, row_low}
use Rattle.ist_find.proofs.ReadLemmas.{leaf_on}
use Rattle.test_rebuilds.proofs.late.leaf_key.Goals as goal

-- the leaf lies within the table
pub load-requires-clause-within : goal.load-requires-clause-within
load-requires-clause-within c = let r = c.requires.leaf in
    let low = (row_low _ c.know.ensures.sound c.args.base (Leaf r.row) r.published 0
    (omega arith)).0 in
    let from = c.from.ensures in let known = c.know.ensures.words in
    let same = ap (λ t. t.words) c.requires.same_table in omega arith

pub load-requires-clause-no_walk : goal.load-requires-clause-no_walk
load-requires-clause-no_walk c at = let r = c.requires.leaf in
    let above = row_above _ c.know.ensures.sound c.args.base (Leaf r.row) r.published in
    let from = c.from.ensures in absurd (omega arith)

pub returns-clause-seen : goal.returns-clause-seen
returns-clause-seen c = looked_goes_on _ _ _ _ c.load.ensures.looked

-- and has the key that was loaded
pub returns-clause-key : goal.returns-clause-key
returns-clause-key c = let l = c.load.ensures.looked in
    let r = leaf_on _ _ (looked_goes_on _ _ _ _ l) c.args.base c.requires.leaf in record {
      row = r.row;
      published = r.published;
      key_is = sym (looked_row _ _ _ _ l c.args.base (Leaf r.row) 0 r.row.key r.published refl
          (ap (λ n. n + 0) c.from.ensures));
    }
