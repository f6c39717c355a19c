use Rattle.std.proofs.Common.{◌++◌, All, map, length, IsPermutation, sym, ap, ◌∙◌, subst, arith}
use Rattle.crossbeam_deque.specs.Handles.{IsPassOf, worker_view}
use Rattle.tele_steal.specs.declared.tallies.DequeHand.{DequeHand}
use Rattle.tele_steal.specs.Runs.{ticket}
use Rattle.tele_steal.proofs.OwnerLemmas.{is_owners}
use Rattle.tele_steal.proofs.OrderLemmas.{all_home, as_many, as_many_ran}
use Rattle.tele_steal.proofs.stealing.run_shared.Goals as goal

-- the deque has room for all
pub put_in-requires-clause-few : goal.put_in-requires-clause-few
put_in-requires-clause-few g c =
    let put = ap (λ v. length v.put) c.hire_all.ensures.owner in omega (arith, put, c.requires.few)

-- what is kept isn't more than there was
pub run_kept-requires-clause-room : goal.run_kept-requires-clause-room
run_kept-requires-clause-room g c =
    let n = as_many (worker_view c.hire_all.new.owner).put c.args.lanes.items
    (worker_view c.put_in.new.owner).put
    c.put_in.new.kept.items (ap (λ v. v.put) c.hire_all.ensures.owner) c.put_in.ensures.shared in
    omega (arith, n, c.put_in.ensures.lane_room, c.args.lanes.ok)

-- the passes are of this deque
pub work_all-requires-clause-tables : goal.work_all-requires-clause-tables
work_all-requires-clause-tables g c κs within =
    subst (λ d. All (λ (h : DequeHand g.row.P.Denot g.row.P-Tie.Denot). IsPassOf d h.pass)
    c.hire_all.new.hands.items)
    (sym c.requires.ready.same) c.hire_all.ensures.tables

pub get_back-requires-clause-tables : goal.get_back-requires-clause-tables
get_back-requires-clause-tables g c κs within =
    subst (λ d. All (λ (h : DequeHand g.row.P.Denot g.row.P-Tie.Denot). IsPassOf d h.pass)
    c.work_all.new.hands.items)
    (c.requires.ready.same ∙ sym (c.put_in.ensures.same.0 ∙ c.hire_all.ensures.same.0))
    c.work_all.ensures.tables

-- there is room for all lanes
pub get_back-requires-clause-lane_room : goal.get_back-requires-clause-lane_room
get_back-requires-clause-lane_room g c =
    let n = as_many_ran (ticket g.P.Port.tie) (worker_view c.hire_all.new.owner).put
    c.args.lanes.items (worker_view c.put_in.new.owner).put c.put_in.new.kept.items
    c.run_kept.new.lanes.items (ap (λ v. v.put) c.hire_all.ensures.owner) c.put_in.ensures.shared
    c.run_kept.ensures.tickets in
    omega (arith, n, c.put_in.ensures.lane_room, c.run_kept.ensures.lane_room, c.args.lanes.ok)

-- the yard is ready again
pub returns-clause-ready : goal.returns-clause-ready
returns-clause-ready g c = let was = c.requires.ready in let hired = c.hire_all.ensures in
    let put = c.put_in.ensures in let worked = c.work_all.ensures in let got = c.get_back.ensures in
    let bags = got.bags ∙ worked.count ∙ hired.count in record {
      same = was.same ∙ sym (got.same.0 ∙ put.same.0 ∙ hired.same.0);
      owner_first = got.same.1 ∙ put.same.1 ∙ hired.same.1 ∙ was.owner_first;
      thief_first = was.thief_first;
      owners = is_owners _ _ _ _ got.owner;
      alone = ap (λ v. v.out) got.owner;
      settled = subst (λ l. IsPermutation l (worker_view c.get_back.new.owner).back)
          (sym (ap (λ v. v.put) got.owner)) got.settled;
      some = omega (arith, was.some, bags);
      empty = got.empty;
      wide = got.wide;
      no_hands = got.no_hands;
      seats = omega (arith, was.seats, got.hand_room, worked.seats, hired.hand_room, bags);
      no_kept = c.run_kept.ensures.none_kept;
      keeps = omega (arith, was.keeps, c.run_kept.ensures.room, put.room);
    }

-- all came back
pub returns-clause-tickets : goal.returns-clause-tickets
returns-clause-tickets g c = let put = (worker_view c.put_in.new.owner).put in
    let kept = c.put_in.new.kept.items in all_home (ticket g.P.Port.tie) c.args.lanes.items put kept
    (worker_view c.get_back.new.owner).back c.run_kept.new.lanes.items c.get_back.new.lanes.items
    (subst (λ z. IsPermutation (z ++ c.args.lanes.items) (put ++ kept))
    (ap (λ v. v.put) c.hire_all.ensures.owner) c.put_in.ensures.shared)
    c.run_kept.ensures.tickets c.get_back.ensures.settled c.get_back.ensures.tickets
