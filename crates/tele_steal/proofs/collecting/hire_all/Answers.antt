use Rattle.std.proofs.Common.{◌≡◌, ◌+◌, ◌≤◌, [], All, vec_capacity, Vec, IsPermutation, sym, ap, ◌∙◌, subst, arith, rules, Global}
use Rattle.std.proofs.lemmas.List.Sorted.{IsPermutation-refl}
use Rattle.crossbeam_deque.specs.Handles.{view, IsPassOf, worker_deque}
use Rattle.tele_lanes.specs.declared.lanes.Lane.{Lane}
use Rattle.tele_steal.specs.declared.tallies.DequeHand.{DequeHand}
use Rattle.tele_steal.specs.Tallies.{of_worker}
use Rattle.tele_steal.proofs.OwnerLemmas.{is_owners}
use Rattle.tele_steal.proofs.RunLemmas.{All-rest, All-last, All-more, length_more}
use Rattle.tele_steal.proofs.collecting.hire_all.Goals as goal

-- one more bag became a hand
pub loop-bag-preserved : goal.loop-bag-preserved
loop-bag-preserved g c = let L = Lane g.row.P.Denot g.row.P-Tie.Denot in
    let old = c.loop-bag.invariant in let now = c.hire-pass.ensures in
    let pushed = c.push_reserved.ensures.items in let popped = c.in-Some.ensures.items in
    let longer = length_more _ _ _ pushed in let shorter = length_more _ _ _ popped in
    let more : (Fits : DequeHand g.row.P.Denot g.row.P-Tie.Denot → Type 0) → All Fits c.loop-bag.hands.items
    → Fits (record { pass = c.hire-pass.result; bag = c.in-Some.bag })
    → All Fits c.push_reserved.new.self.items = λ Fits all one. All-more Fits _ _ _ pushed all one in
    record {
      same = search (arith, rules);
      owner = is_owners _ _ _ _ now.owner;
      out = ap (λ v. v.out) now.owner ∙ ap (λ n. n + 1) old.out ∙ sym longer;
      settled = subst (λ v. IsPermutation v.put v.back) (sym now.owner) (IsPermutation-refl []);
      anew = λ _. (ap (λ v. v.put) now.owner, ap (λ v. v.back) now.owner);
      count = omega (arith, longer, shorter, old.count);
      bags_empty = All-rest (λ (b : Vec L Global). b.items ≡ []) _ _ _ popped old.bags_empty;
      bags_wide = All-rest (λ (b : Vec L Global). 64 ≤ vec_capacity b) _ _ _ popped old.bags_wide;
      bag_room = c.pop.ensures.capacity ∙ old.bag_room;
      hand_room = c.push_reserved.ensures.capacity ∙ old.hand_room;
      tables = more (λ h. IsPassOf (worker_deque c.args.owner.now) h.pass) old.tables
          (subst (λ d. IsPassOf d c.hire-pass.result) old.same.0 now.table);
      workers = more (λ h. view h.pass ≡ of_worker []) old.workers now.worker;
      empty = more (λ h. h.bag.items ≡ []) old.empty (All-last (λ (b : Vec L Global). b.items ≡ []) _ _ _ popped old.bags_empty);
      wide = more (λ h. 64 ≤ vec_capacity h.bag) old.wide (All-last (λ (b : Vec L Global). 64 ≤ vec_capacity b) _ _ _ popped old.bags_wide);
    }
