use Rattle.test_rebuilds.specs.Late.{put_of}
use Rattle.test_rebuilds.proofs.frozen.may_install.Given as goal

-- what is installed is the put, with its leaf
abbrev pub ghost-install_late : goal.ghost-install_late
ghost-install_late a = put_of a.put.leaf a.put.row
