use Rattle.std.proofs.Common.{◌≡◌, IfOk, rules}
use Rattle.ist_check.proofs.EntryLemmas.{rising}
use Rattle.ist_check.proofs.stating.entries_of.Goals as goal

pub returns-clause-rising : goal.returns-clause-rising
returns-clause-rising g c =
    let same : IfOk c.collect.result (λ entries. entries.items ≡ c.args.map.entries) = search rules
    in
    rising c.collect.result (λ entries. entries.items) c.args.map
    c.into_iter.ensures.into_iter_gives.5 same
