use Rattle.std.proofs.Common.{length, rules, refl, ◌∙◌, sym}
use Rattle.ist_rule.specs.RuleTerms.{GoesOnTo}
use Rattle.ist_rule.specs.declared.view.View.{View}
use Rattle.ist_rule.proofs.EventLemmas.{goes_on_same}
use Rattle.ist_build.specs.Reading.{HasReadOut}
use Rattle.ist_build.proofs.TopBegunLemmas.{has_read_out}
use Rattle.ist_build.proofs.parts.read_out.Goals as goal
use Rattle.ist_build.proofs.parts.read_out.Goals.{After-know-2}

-- the leaves are read out, and stay so after further loads
read : (c : After-know-2) (w : View) → GoesOnTo c.read_leaves.new.token.view w
    → HasReadOut c.args.token.now.view c.args.target c.args.start (length c.args.leaves.now)
    c.read_leaves.new.into w
read c w on = has_read_out _ _ w c.know.ensures.sound c.args.target _ _ c.args.leaves.now _ refl
    c.requires.finished.0 c.read_leaves.ensures.seen on c.read_leaves.ensures.read

pub load_keys-requires-clause-leaves : goal.load_keys-requires-clause-leaves
load_keys-requires-clause-leaves c = (
  (read (goal.at.load_keys-requires-clause-leaves c).After-know-2 _
      (goes_on_same _ c.know-2.ensures.sound)).some,
  search rules,
)

pub load_keys-requires-clause-many : goal.load_keys-requires-clause-many
load_keys-requires-clause-many c =
    c.requires.many ∙ sym (read (goal.at.load_keys-requires-clause-many c).After-know-2 _
    (goes_on_same _ c.know-2.ensures.sound)).size

pub returns-clause-read : goal.returns-clause-read
returns-clause-read c = read (goal.at.returns-clause-read c).After-know-2 _ c.load_keys.ensures.seen
