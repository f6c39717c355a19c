use Rattle.std.proofs.Common.{ap, sym, subst, ◌∙◌, arith, rules}
use Rattle.ist_rule.specs.declared.view.View.{View}
use Rattle.ist_rows.specs.declared.callers.Caller.{Caller}
use Rattle.ist_dcss.specs.Installing.{Filling, IsInstallable, IsInstalled}
use Rattle.test_parts.proofs.PutLemmas.{put_filled, put_helps}
use Rattle.test_parts.proofs.changes.install_put.Goals as goal

pub fill_row-requires-clause-row : goal.fill_row-requires-clause-row
fill_row-requires-clause-row g c = c.requires.1.1.0.0

pub fill_row-requires-2-clause-row : goal.fill_row-requires-2-clause-row
fill_row-requires-2-clause-row g c = ap (λ (x : Caller). x.change) c.fill_row.ensures.stored ∙ c.requires.1.1.0.1

pub install-requires : goal.install-requires
install-requires g c = (
  ap (λ (v : View). v.table) c.begin_call.ensures.begun.view
      ∙ ap (λ (x : Caller). x.token.view.table) c.fill_row-2.ensures.stored
      ∙ ap (λ (x : Caller). x.token.view.table) c.fill_row.ensures.stored ∙ c.requires.0.1,
  subst (λ (f : Filling). IsInstallable c.begin_call.new.token.view c.args.change f)
      (sym c.requires.1.0)
      (put_filled c.args.who.now c.fill_row.new.who c.fill_row-2.new.who _ _ _ _ _ _
      c.requires.1.1.1.0 c.requires.1.1.1.1.0.0 c.requires.1.1.1.1.0.1 c.to_word-from.ensures.value
      c.to_word-to.ensures.value c.from-owner.ensures c.requires.0.0 c.requires.1.1.0
      c.requires.1.1.1.1.1 c.fill_row.ensures.stored c.fill_row-2.ensures.stored
      c.fill_row-2.ensures.caller c.know.ensures.sound _ c.begin_call.ensures.begun),
)

pub returns : goal.returns
returns g c = record {
  may_help = λ is. (
    put_helps _ _ _ c.args.who.now.number c.args.leaf _ c.args.value
        (omega (arith, c.requires.1.1.1.0, c.requires.1.1.1.1.0.0)) c.requires.1.1.1.1.0.1
        (ap (λ (x : Caller). x.token.view.who) c.fill_row-2.ensures.stored
        ∙ ap (λ (x : Caller). x.token.view.who) c.fill_row.ensures.stored ∙ c.requires.0.0.mine)
        c.begin_call.ensures.begun
        (subst (λ (f : Filling). IsInstalled c.begin_call.new.token.view c.args.change f
        c.install.new.token.view) c.requires.1.0 (c.install.ensures.yes is)),
    search rules,
  );
}
