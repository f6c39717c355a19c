use Rattle.std.proofs.Common.{◌∙◌, ap, arith}
use Rattle.ist_rows.proofs.ReserveLemmas.{read_again, read_first, read_table}
use Rattle.ist_rows.proofs.TakingLemmas.{fewer_free, has_reserved, is_full, may_reserve, next_fits}
use Rattle.ist_rows.proofs.reserving.take.Goals as goal

-- the first free word was loaded once
pub turns-init : goal.turns-init
turns-init c = read_first _ _ _ c.know.ensures.sound c.load-next.ensures.looked

pub overflow_add-next : goal.overflow_add-next
overflow_add-next c = record { fits = next_fits _ _ _ c.turns.invariant _ c.requires.small }

-- the exchange may be made, whatever others do
pub exchange-found-requires : goal.exchange-found-requires
exchange-found-requires c = let same = ap (λ t. t.words) c.requires.same_table in
    let may = may_reserve _ _ _ c.turns.invariant c.args.number c.requires.caller c.args.size c.requires.fair in
    (read_table _ _ _ c.turns.invariant ∙ c.requires.same_table, (omega arith, may (omega arith)))

-- too few words were left when the first free word was read
pub returns-then-next-size-clause-full : goal.returns-then-next-size-clause-full
returns-then-next-size-clause-full c =
    is_full _ _ _ c.turns.invariant _ _ _ c.word_count-words.ensures.value c.if-next-size.true

-- if the first free word was found, the row was reserved
pub returns-then-found-next-clause-reserved : goal.returns-then-found-next-clause-reserved
returns-then-found-next-clause-reserved c =
    has_reserved _ _ _ c.turns.invariant c.args.number c.requires.caller c.args.size _
    (c.exchange-found.ensures.exchanged.0 c.if-found-next.true)

-- if another was found, only loads were made
pub turns-preserved : goal.turns-preserved
turns-preserved c =
    read_again _ _ _ _ _ c.turns.invariant (c.exchange-found.ensures.exchanged.1 c.if-found-next.false)

-- then fewer words are free
pub turns-smaller : goal.turns-smaller
turns-smaller c = fewer_free _ _ _ c.turns.invariant _ _
    (c.exchange-found.ensures.exchanged.1 c.if-found-next.false) c.if-found-next.false
