use Rattle.std.proofs.Common.{◌∙◌, ap, arith}
use Rattle.ist_find.proofs.LoadLemmas.{row_on, count_on}
use Rattle.ist_find.proofs.KeyLemmas.{child_at_start, child_at_end, guess_between, child_between}
use Rattle.ist_find.proofs.keys.child_among_many.Goals as goal

-- no key is at most the key, or each is
pub returns-then-key-ends : goal.returns-then-key-ends
returns-then-key-ends c = let e = c.end_keys-ends.ensures in
    record { finds = child_at_start c.know.ensures.sound e.seen e.loads c.requires.row.0 c.requires.count _ (omega arith) }

pub returns-then-ends-key : goal.returns-then-ends-key
returns-then-ends-key c = let e = c.end_keys-ends.ensures in
    record { finds = child_at_end c.know.ensures.sound e.seen e.loads c.requires.row.0 c.requires.count _ (omega arith) }

-- the key lies between the end keys, and so does the guess
pub gallop_from-child-requires : goal.gallop_from-child-requires
gallop_from-child-requires c = let e = c.end_keys-ends.ensures in
    let may = guess_between c.know.ensures.sound e.seen e.loads c.requires.row.0 c.requires.count c.args.key e.first e.last
    c.guess-from.ensures.value (omega arith) c.if-key-ends.false c.if-ends-key.false in
    record {
      row = (row_on _ _ e.seen c.args.node c.requires.row.0, ap (λ v. v.table) e.seen.same ∙ c.requires.row.1);
      count = count_on _ _ e.seen c.args.node c.requires.row.0 _ c.requires.count;
      fits = c.requires.fits;
      some = may.0;
      within = may.1;
      first = may.2;
      last = may.3;
    }

pub returns : goal.returns
returns c = let e = c.end_keys-ends.ensures in record {
  finds = child_between c.know.ensures.sound e.seen e.loads c.requires.row.0 c.requires.count _
      (cc (c.guess-from.ensures.value, e.first, e.last, c.requires.count)) c.gallop_from-child.ensures.finds;
}
