use Rattle.ist_rebuild.specs.Finishing.{filling_at}
use Rattle.ist_rebuild.proofs.finishing.carry.Given as goal

-- the change is the one that the caller has stored at the base
abbrev pub ghost-install : goal.ghost-install
ghost-install a = filling_at a.token.now.view a.change
