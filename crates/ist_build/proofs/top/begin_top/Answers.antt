use Rattle.std.proofs.Common.{rules, sym, ap, ◌∙◌}
use Rattle.ist_rows.proofs.FewStepLemmas.{few_reserved, full_out}
use Rattle.ist_build.proofs.BuildingLemmas.{row_refused}
use Rattle.ist_build.proofs.RowOpenedLemmas.{reserved_held}
use Rattle.ist_build.proofs.TopBegunLemmas.{top_next, top_opened}
use Rattle.ist_build.proofs.FewLemmas.{many_two}
use Rattle.ist_build.proofs.top.begin_top.Goals as goal

pub reserve_inner-requires-clause-next : goal.reserve_inner-requires-clause-next
reserve_inner-requires-clause-next c =
    top_next _ _ _ _ c.requires.refused c.requires.target c.requires.many c.requires.degree_is

-- the words of its row were taken, or too few were left
pub returns-in_err-base : goal.returns-in_err-base
returns-in_err-base c = let e = c.reserve_inner.ensures in let f = c.in_err-base.ensures in
    let r = row_refused c.args.who.now c.reserve_inner.new.who _ _ _ _ (many_two _ c.requires.many)
    c.requires.degree_is e.caller e.number e.rows f.full f.refused in
    let out = full_out _ c.reserve_inner.new.who c.requires.caller.0 _ _ _
    (sym (c.know.ensures.words ∙ ap (λ t. t.words) c.requires.caller.1)) f.full in
    record { begun = search rules; few = search rules; refused = search rules }

pub open_row-requires-clause-held : goal.open_row-requires-clause-held
open_row-requires-clause-held c =
    reserved_held c.args.who.now c.reserve_inner.new.who c.know.ensures.sound c.reserve_inner.ensures.number _ _
    c.in_ok-base.ensures.reserved

pub returns : goal.returns
returns c = let r = c.reserve_inner.ensures in let b = c.in_ok-base.ensures in
    let e = c.open_row.ensures in record {
      begun = top_opened _ c.reserve_inner.new.who c.args.target c.args.keys c.args.degree _
          c.know.ensures.sound c.requires.refused c.requires.target c.requires.many c.requires.degree_is
          r.number r.rows b.reserved b.taken c.open_row.new.who e.stored e.caller e.sound;
      few = rw e.stored (few_reserved c.args.who.now c.reserve_inner.new.who c.requires.caller.0 _ _ b.reserved);
      refused = tt;
    }
