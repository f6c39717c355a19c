use Rattle.std.proofs.Common.{ap, arith}
use Rattle.ist_rule.proofs.ExchangeLemmas.{known_low}
use Rattle.ist_updates.proofs.AfterLemmas.{size_low, size_off, can_count, found_fits, all_went, counted_at}
use Rattle.ist_updates.proofs.counting.count_at.Goals as goal

-- the add may be the Count
pub add-found-requires : goal.add-found-requires
add-found-requires c =
    let can = can_count _ c.know.ensures.sound _ c.requires.may_count c.from-place.ensures in
    let low = known_low _ _ c.know.ensures.sound can.known in let known = c.know.ensures.words in
    let same = ap (λ t. t.words) c.requires.same_table in
    (c.requires.same_table, (omega arith, can))

-- the size lies within the table
pub load-size-requires-clause-within : goal.load-size-requires-clause-within
load-size-requires-clause-within c =
    let low = size_low _ c.know.ensures.sound _ c.requires.may_count in let from = c.from.ensures in
    let known = c.know.ensures.words in let same = ap (λ t. t.words) c.requires.same_table in omega arith

pub load-size-requires-clause-no_walk : goal.load-size-requires-clause-no_walk
load-size-requires-clause-no_walk c =
    size_off _ c.know.ensures.sound _ c.requires.may_count c.from.ensures

-- the count is no great number
pub overflow_add-result : goal.overflow_add-result
overflow_add-result c = let can = c.requires.may_count in
    record { fits = found_fits _ c.know.ensures.sound _ can c.from-place.ensures c.add-found.ensures.added }

-- the step was the Count, and a load
pub returns-clause-went : goal.returns-clause-went
returns-clause-went c =
    all_went _ c.know.ensures.sound _ c.requires.may_count c.from-place.ensures c.add-found.ensures.added
    c.from.ensures c.load-size.ensures.looked

-- the result says whether the count reached the limit
pub returns-clause-counted : goal.returns-clause-counted
returns-clause-counted c =
    counted_at _ c.know.ensures.sound _ c.requires.may_count c.from-place.ensures c.add-found.ensures.added
    c.from.ensures c.load-size.ensures.looked _ c.limit.ensures.value
