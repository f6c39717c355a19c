use Rattle.test_parts.specs.Samples.{sample_put}
use Rattle.test_parts.proofs.changes.begin_put.Given as goal

-- it installs the caller's put of the leaf
abbrev pub ghost-install_put : goal.ghost-install_put
ghost-install_put a = sample_put a.who.now.number a.leaf a.value
