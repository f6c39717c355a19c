use Rattle.std.proofs.Common.{◌∙◌, ap, arith}
use Rattle.ist_rows.proofs.ReserveLemmas.{read_again, read_first, read_table}
use Rattle.ist_rows.proofs.TakingLemmas.{fewer_free, have_reserved, is_full, may_reserve_all, next_fits}
use Rattle.ist_rows.proofs.block.take_all.Goals as goal

-- the first free word was loaded once
pub turns-init : goal.turns-init
turns-init g c = read_first _ _ _ c.know.ensures.sound c.load-next.ensures.looked

pub overflow_add-next : goal.overflow_add-next
overflow_add-next g c = record { fits = next_fits _ _ _ c.turns.invariant _ c.requires.1.1.1.1.1 }

-- the exchange may be made, whatever others do
pub exchange_all-found-requires : goal.exchange_all-found-requires
exchange_all-found-requires g c = let same = ap (λ t. t.words) c.requires.0 in
    let may = may_reserve_all _ _ _ c.turns.invariant c.args.number c.requires.1.0 g.sizes c.args.asked
    c.requires.1.1.1.1.0 c.requires.1.1.1.0 c.requires.1.1.0 in
    (read_table _ _ _ c.turns.invariant ∙ c.requires.0, (omega arith, may (omega arith)))

-- too few words were left when the first free word was read
pub returns-then-next-asked-clause-none : goal.returns-then-next-asked-clause-none
returns-then-next-asked-clause-none g c none =
    (_, is_full _ _ _ c.turns.invariant _ _ _ c.word_count-words.ensures.value c.if-next-asked.true)

-- if the first free word was found, the rows were reserved
pub returns-then-found-next-clause-reserved : goal.returns-then-found-next-clause-reserved
returns-then-found-next-clause-reserved g c =
    have_reserved _ _ _ c.turns.invariant c.args.number c.requires.1.0 g.sizes _
    (c.exchange_all-found.ensures.exchanged.0 c.if-found-next.true)

-- if another was found, only loads were made; then fewer words are free
pub turns-preserved : goal.turns-preserved
turns-preserved g c =
    read_again _ _ _ _ _ c.turns.invariant (c.exchange_all-found.ensures.exchanged.1 c.if-found-next.false)

pub turns-smaller : goal.turns-smaller
turns-smaller g c = fewer_free _ _ _ c.turns.invariant _ _
    (c.exchange_all-found.ensures.exchanged.1 c.if-found-next.false) c.if-found-next.false
