use Rattle.std.proofs.Common.{refl}
use Rattle.ist_rebuild.proofs.BegunLemmas.{other_begun, other_told_of, put_no, put_yes}
use Rattle.ist_rows.proofs.FewStepLemmas.{none_loads}
use Rattle.ist_rebuild.proofs.starting.put_in.Goals as goal

-- the slot held another word: the caller only made loads
pub returns-in-Other : goal.returns-in-Other
returns-in-Other g c = let other = c.in-Other.ensures.other c.in-Other.word refl in record {
  begun = other_begun c.args.who.now _ _ _ _ _ g.filling c.requires.1.0 c.requires.1.1
      c.know.ensures.sound c.install.new.token other.seen;
  none = none_loads c.args.who.now c.install.new.token c.requires.1.0.caller.mine other.seen;
  told = other_told_of c.args.who.now _ _ _ _ _ g.filling c.requires.1.0 c.requires.1.1
      c.know.ensures.sound c.install.new.token _ other;
}

-- it was decided yes
pub returns-in-Yes : goal.returns-in-Yes
returns-in-Yes g c =
    let it = put_yes c.args.who.now _ _ _ _ _ g.filling c.requires.1.0 c.requires.1.1 c.know.ensures.sound
    c.install.new.token (c.install.ensures.yes c.in_default.is) c.help.new.token c.help.ensures.went
    c.in-Yes.ensures.decided c.help.ensures.out in
    record { begun = it.0; none = it.1; told = it.2 }

-- it was decided no
pub returns-in-No : goal.returns-in-No
returns-in-No g c =
    let it = put_no c.args.who.now _ _ _ _ _ g.filling c.requires.1.0 c.requires.1.1 c.know.ensures.sound
    c.install.new.token (c.install.ensures.yes c.in_default.is) c.help.new.token c.help.ensures.went
    c.in-No.ensures.decided c.help.ensures.out in
    record { begun = it.0; none = it.1; told = it.2 }
