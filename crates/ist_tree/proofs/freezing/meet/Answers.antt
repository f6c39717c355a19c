-- What the word in the anchor's slot names is met.
use Rattle.ist_layout.proofs.MeaningLemmas.{word_names}
use Rattle.laws_coming.proofs.FurtherLemmas.{helped_further}
use Rattle.ist_tree.proofs.MeetLemmas.{met_empty, met_leaf, never_none, never_unset, top_change, top_rebuild, top_row}
use Rattle.ist_tree.proofs.freezing.meet.Goals as goal

-- an inner row
pub met_row-requires-clause-row : goal.met_row-requires-clause-row
met_row-requires-clause-row c = let is = c.in-Some-Inner in
    top_row c.args.who.now c.know.ensures.sound c.requires.holds c.from_word.ensures.value is.is is.field-0-is

pub returns-in-Some-Inner-clause-further : goal.returns-in-Some-Inner-clause-further
returns-in-Some-Inner-clause-further c is =
    let names = word_names _ _ _ _ c.from_word.ensures.value c.in-Some-Inner.is c.in-Some-Inner.field-0-is in
    c.met_row.ensures.further is _ names c.requires.holds

-- a rebuild
pub met_rebuild-requires-clause-row : goal.met_rebuild-requires-clause-row
met_rebuild-requires-clause-row c = let is = c.in-Some-Rebuild in
    top_rebuild c.args.who.now c.know.ensures.sound c.requires.holds c.from_word.ensures.value is.is is.field-0-is

-- a change
pub met_change-requires-clause-row : goal.met_change-requires-clause-row
met_change-requires-clause-row c = let is = c.in-Some-Change in
    top_change c.args.who.now c.know.ensures.sound c.requires.holds c.from_word.ensures.value is.is is.field-0-is

pub returns-in-Some-Change-clause-further : goal.returns-in-Some-Change-clause-further
returns-in-Some-Change-clause-further c _ = let e = c.met_change.ensures in
    let names = word_names _ _ _ _ c.from_word.ensures.value c.in-Some-Change.is c.in-Some-Change.field-0-is in
    helped_further _ _ _ c.know.ensures.sound e.idle.on.gone.went _ _ _ _ c.requires.holds names e.out.resolved

-- a leaf, or nothing
pub returns-in-Some-Leaf-clause-met : goal.returns-in-Some-Leaf-clause-met
returns-in-Some-Leaf-clause-met c = let is = c.in-Some-Leaf in let r = c.requires in
    met_leaf c.args.who.now c.know.ensures.sound r.holds c.from_word.ensures.value is.is r.ready.0 is.field-0-is

pub returns-in-Some-Empty-clause-met : goal.returns-in-Some-Empty-clause-met
returns-in-Some-Empty-clause-met c = let is = c.in-Some-Empty in let r = c.requires in
    met_empty c.args.who.now c.know.ensures.sound r.holds c.from_word.ensures.value is.is r.ready.0 is.field-0-is

-- neither of these is ever there
pub returns-in-Some-Unset : goal.returns-in-Some-Unset
returns-in-Some-Unset c = let is = c.in-Some-Unset in
    absurd (never_unset c.args.who.now c.know.ensures.sound c.requires.holds c.from_word.ensures.value is.is
    is.field-0-is)

pub returns-in-None : goal.returns-in-None
returns-in-None c =
    absurd (never_none c.args.who.now c.know.ensures.sound c.requires.holds c.from_word.ensures.value c.in-None.is)
