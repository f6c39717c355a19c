use Rattle.std.proofs.Common.{◌+◌, ◌<◌, ◌^◌, ap, arith}
use Rattle.ist_rule.proofs.EventLemmas.{looked_goes_on}
use Rattle.ist_dcss.proofs.InstallLemmas.{own_low, own_above, own_tells}
use Rattle.ist_dcss.proofs.installing.own_word.Goals as goal

-- the row lies within the table, which is small
pub overflow_add-from : goal.overflow_add-from
overflow_add-from g c =
    let low = own_low _ c.know.ensures.sound c.args.base g.words c.requires.1.0 c.args.offset
    c.requires.1.1 in
    let all = c.know.ensures.sound.lawful.opens.within in let from = c.from.ensures in
    let h : c.from.result + c.args.offset < 2 ^ 64 = omega arith in record { fits = h }

pub load-requires-clause-within : goal.load-requires-clause-within
load-requires-clause-within g c =
    let low = own_low _ c.know.ensures.sound c.args.base g.words c.requires.1.0 c.args.offset
    c.requires.1.1 in
    let from = c.from.ensures in let known = c.know.ensures.words in
    let same = ap (λ t. t.words) c.requires.0 in omega arith

pub load-requires-clause-no_walk : goal.load-requires-clause-no_walk
load-requires-clause-no_walk g c at =
    let above = own_above _ c.know.ensures.sound c.args.base g.words c.requires.1.0 c.args.offset
    c.requires.1.1 in
    let from = c.from.ensures in absurd (omega arith)

-- one load was made
pub returns-clause-seen : goal.returns-clause-seen
returns-clause-seen g c = looked_goes_on _ _ _ _ c.load.ensures.looked

-- it gives what was stored
pub returns-clause-value : goal.returns-clause-value
returns-clause-value g c =
    own_tells _ _ _ _ c.load.ensures.looked c.args.base g.words c.requires.1.0 c.args.offset
    c.requires.1.1 (ap (λ n. n + c.args.offset) c.from.ensures)
