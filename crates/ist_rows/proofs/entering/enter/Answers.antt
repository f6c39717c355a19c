use Rattle.std.proofs.Common.{refl, ap, rules, arith}
use Rattle.ist_rows.proofs.EnterLemmas.{can_enter, new_caller, Parts, parts}
use Rattle.ist_rows.proofs.entering.enter.Goals as goal

-- the maker may enter a caller
pub add-number-requires : goal.add-number-requires
add-number-requires c = let room = c.know.ensures.sound.lawful.opens.room in
    let same = ap (λ t. t.words) c.requires.same_table in
    let can = can_enter _ c.know.ensures.sound c.requires.maker c.requires.given c.requires.few in
    (c.requires.same_table, (omega arith, can))

-- the token that the maker gives is a caller's
pub returns-clause-caller : goal.returns-clause-caller
returns-clause-caller c = (
  new_caller _ _ _ c.know.ensures.sound c.requires.maker c.requires.given c.add-number.ensures.added.logged
      c.know-2.ensures.sound _ c.split-token.ensures.new refl refl,
  search rules,
)

-- what both tokens are then
split : (c : goal.After-split-token)
    → Parts c.args.maker.now.view c.add-number.result c.split-token.new.token.view c.split-token.result.view
split c =
    parts _ _ _ c.know.ensures.sound c.requires.maker c.requires.given c.add-number.ensures.added.logged
    c.know-2.ensures.sound _ _ c.split-token.ensures.old c.split-token.ensures.new

pub returns-clause-holds_none : goal.returns-clause-holds_none
returns-clause-holds_none c = (split c).held

pub returns-clause-idle : goal.returns-clause-idle
returns-clause-idle c = (split c).idle

pub returns-clause-token : goal.returns-clause-token
returns-clause-token c = (split c).token

pub returns-clause-entered : goal.returns-clause-entered
returns-clause-entered c = (split c).entered
