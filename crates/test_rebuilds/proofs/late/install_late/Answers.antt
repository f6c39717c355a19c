use Rattle.std.proofs.Common.{sym, subst, rules}
use Rattle.ist_dcss.specs.Installing.{Filling, IsInstallable, IsInstalled}
use Rattle.test_rebuilds.proofs.LateLemmas.{late_helps}
use Rattle.test_rebuilds.proofs.late.install_late.Goals as goal

-- the change of the put may be installed
pub install-requires : goal.install-requires
install-requires g c = (
  c.requires.1.1,
  subst (λ (f : Filling). IsInstallable c.args.who.now.token.view c.args.put.change f)
      (sym c.requires.0) c.requires.1.0.installable,
)

-- if it is installed, its caller may help it
pub returns : goal.returns
returns g c = record {
  may_help = λ is. (
    late_helps _ _ c.args.who.now.number c.args.put.change c.args.put.leaf c.args.put.row
        c.requires.1.0.caller.mine
        (subst (λ (f : Filling). IsInstalled c.args.who.now.token.view c.args.put.change f
        c.install.new.token.view) c.requires.0 (c.install.ensures.yes is)),
    search rules,
  );
}
