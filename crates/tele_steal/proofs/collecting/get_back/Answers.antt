use Rattle.std.proofs.Common.{◌≡◌, ◌≤◌, [], All, IsPermutation, map, length, vec_capacity, Vec, Global, sym, ap, ◌∙◌, subst, arith, rules, length-append}
use Rattle.std.proofs.lemmas.List.{length-map}
use Rattle.crossbeam_deque.specs.Handles.{view, IsPassOf, worker_deque, worker_view}
use Rattle.tele_lanes.specs.declared.lanes.Lane.{Lane}
use Rattle.tele_steal.specs.declared.tallies.DequeHand.{DequeHand}
use Rattle.tele_steal.specs.Runs.{IsRunLane, ticket}
use Rattle.tele_steal.specs.Tallies.{of_worker, taken_by}
use Rattle.tele_steal.proofs.RunLemmas.{All-rest, All-last, All-more, length_more, same_length, following}
use Rattle.tele_steal.proofs.OwnerLemmas.{is_owners, owner_step}
use Rattle.tele_steal.proofs.collecting.get_back.Goals as goal

-- the last hand is a worker's of this deque, and its bag has what it took and ran
pub take_hand-bag-requires : goal.take_hand-bag-requires
take_hand-bag-requires g c = let H = DequeHand g.row.P.Denot g.row.P-Tie.Denot in
    let t = ticket g.P.Port.tie in let old = c.loop-hand.invariant in
    let last : (Fits : H → Type 0) → All Fits c.loop-hand.hands.items → Fits c.in-Some.hand =
    λ Fits all. All-last Fits _ _ _ c.in-Some.ensures.items all in
    let put = ap (λ v. length v.put) old.owner in record {
      owner = is_owners _ _ _ _ old.owner;
      table = subst (λ d. IsPassOf d c.in-Some.hand.pass) (sym old.same.0)
          (last (λ h. IsPassOf (worker_deque c.args.owner.now) h.pass) old.tables);
      worker = last (λ h. view h.pass ≡ of_worker (taken_by (view h.pass))) old.workers;
      tickets = last (λ h. map t h.bag.items ≡ map t (taken_by (view h.pass))) old.tickets;
      ran = last (λ h. All (IsRunLane g.P.Port.calls g.P.Port.refused) h.bag.items) old.ran;
      room = omega (arith, put, old.room);
    }

-- one more hand was taken back
pub loop-hand-preserved : goal.loop-hand-preserved
loop-hand-preserved g c = let H = DequeHand g.row.P.Denot g.row.P-Tie.Denot in
    let L = Lane g.row.P.Denot g.row.P-Tie.Denot in let old = c.loop-hand.invariant in
    let now = c.take_hand-bag.ensures in let popped = c.in-Some.ensures.items in
    let pushed = c.push_reserved.ensures.items in let shorter = length_more _ _ _ popped in
    let longer = length_more _ _ _ pushed in let t = ticket g.P.Port.tie in
    let taken = taken_by (view c.in-Some.hand.pass) in
    let grown = same_length t c.loop-hand.lanes.items c.take_hand-bag.new.lanes.items
    (map t taken) now.tickets in
    let back = ap (λ v. v.back) now.owner in let sum = ap length back ∙ length-append _ taken in
    let counted = length-map taken t in
    let last = All-last (λ (h : H). 64 ≤ vec_capacity h.bag) _ _ _ popped old.wide in record {
      same = search (arith, rules);
      owner = owner_step _ _ _ _ _ taken old.owner now.owner shorter;
      lanes_tickets = following t t _ _ _ _ taken _ now.tickets old.lanes_tickets back;
      lanes_ran = now.ran old.lanes_ran;
      lane_room = omega (arith, old.lane_room, now.room);
      room = omega (arith, old.room, now.room, grown, sum, counted);
      tables = All-rest (λ (h : H). IsPassOf (worker_deque c.args.owner.now) h.pass) _ _ _ popped
          old.tables;
      workers = All-rest (λ (h : H). view h.pass ≡ of_worker (taken_by (view h.pass))) _ _ _ popped
          old.workers;
      tickets = All-rest (λ (h : H). map t h.bag.items ≡ map t (taken_by (view h.pass))) _ _ _
          popped old.tickets;
      ran = All-rest (λ (h : H). All (IsRunLane g.P.Port.calls g.P.Port.refused) h.bag.items) _ _ _
          popped old.ran;
      wide = All-rest (λ (h : H). 64 ≤ vec_capacity h.bag) _ _ _ popped old.wide;
      hand_room = c.pop.ensures.capacity ∙ old.hand_room;
      count = omega (arith, shorter, longer, old.count);
      bag_room = c.push_reserved.ensures.capacity ∙ old.bag_room;
      bags_empty = All-more (λ (b : Vec L Global). b.items ≡ []) _ _ _ pushed old.bags_empty
          now.empty;
      bags_wide = All-more (λ (b : Vec L Global). 64 ≤ vec_capacity b) _ _ _ pushed old.bags_wide
          (omega (arith, now.wide, last));
    }

-- all that was put in came back
pub returns-clause-settled : goal.returns-clause-settled
returns-clause-settled g c =
    let same = ap (λ v. v.put) c.draw_all.ensures.owner ∙ ap (λ v. v.put) c.loop-hand.invariant.owner in
    subst (λ put. IsPermutation put (worker_view c.draw_all.new.owner).back) same
    c.draw_all.ensures.settled

-- the lanes, and all that came back after them
pub returns-clause-tickets : goal.returns-clause-tickets
returns-clause-tickets g c =
    c.draw_all.ensures.tickets (map (ticket g.P.Port.tie) c.args.lanes.now.items)
    c.loop-hand.invariant.lanes_tickets
