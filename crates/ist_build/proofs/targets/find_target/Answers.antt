use Rattle.std.proofs.Common.{rules}
use Rattle.ist_build.proofs.RootFewLemmas.{target_done, found_so}
use Rattle.ist_build.proofs.targets.find_target.Goals as goal

pub keys_of-keys-requires : goal.keys_of-keys-requires
keys_of-keys-requires c =
    let it = target_done _ _ c.target_of-base.ensures.seen c.args.rebuild _ c.requires.buildable.k
    c.requires.buildable.told c.target_of-base.ensures.target in
    search rules

-- the number of keys that was read is the one that is known
pub returns : goal.returns
returns c =
    let f = found_so c.args.who.now c.target_of-base.new.token c.keys_of-keys.new.token
    c.requires.ready.0 c.target_of-base.ensures.seen c.keys_of-keys.ensures.seen c.args.rebuild _
    c.requires.buildable.k _ c.requires.buildable.told c.target_of-base.ensures.target
    c.keys_of-keys.ensures.finished in
    record {
      back = f.back;
      seen = f.seen;
      told = f.told;
      target = f.target_is;
    }
