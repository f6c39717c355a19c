use Rattle.std.proofs.Common.{rules}
use Rattle.ist_rows.proofs.GoneLemmas.{still_ready}
use Rattle.ist_rebuild.proofs.RefusalLemmas.{buildable_went, answer_short, passed_on, short_refused}
use Rattle.ist_rebuild.proofs.FewLemmas.{few_built, out_root}
use Rattle.ist_rebuild.proofs.EventLemmas.{built_helped, helped_more}
use Rattle.ist_rebuild.proofs.finishing.build_out.Goals as goal

-- a root that was refused
pub returns-in_err-set_root-clause-helped : goal.returns-in_err-set_root-clause-helped
returns-in_err-set_root-clause-helped c = search (rules, built_helped)

pub returns-in_err-set_root-clause-full : goal.returns-in_err-set_root-clause-full
returns-in_err-set_root-clause-full c =
    passed_on c.from_residual.result _ _ c.from_residual.ensures.1
    (short_refused _ _ c.args.rebuild _ _ c.in_err-set_root.ensures.full)

pub returns-in_err-set_root-clause-few : goal.returns-in_err-set_root-clause-few
returns-in_err-set_root-clause-few c k told =
    let out = out_root k c.args.who.now c.set_root.new.who (c.in_err-set_root.ensures.few k told) in
    search rules

-- the rebuild may still be built, and both halves are
pub fill_parts-requires-clause-buildable : goal.fill_parts-requires-clause-buildable
fill_parts-requires-clause-buildable c = search (rules, buildable_went)

pub returns : goal.returns
returns c = let e = c.set_root.ensures in let f = c.fill_parts.ensures in
    let root = built_helped _ _ c.requires.ready.0 e.caller e.refused e.number e.rows e.went in
    let parts = built_helped _ _ (still_ready root.on) f.caller f.refused f.number f.rows f.went in
    record {
      helped = helped_more _ _ _ root parts;
      few = few_built c.fill_parts.result c.args.who.now c.set_root.new.who c.fill_parts.new.who
          c.args.rebuild root parts c.in_ok-set_root.ensures.few f.few;
      built = search rules;
      full = answer_short _ _ _ _ c.args.rebuild _ root.on.gone.went f.full;
    }
