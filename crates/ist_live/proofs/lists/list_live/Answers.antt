use Rattle.std.proofs.Common.{◌+◌, sym, subst}
use Rattle.ist_live.specs.Lists.{HasListedLive}
use Rattle.ist_live.specs.Reading.{HasOnlyRead}
use Rattle.ist_live.proofs.ReadLemmas.{read_not}
use Rattle.ist_live.proofs.ListLemmas.{all_live}
use Rattle.ist_live.proofs.JoinLemmas.{in_turn}
use Rattle.ist_live.proofs.MomentLemmas.{swept_up, has_listed, none_listed}
use Rattle.ist_live.proofs.lists.list_live.Goals as goal

-- there is nothing to read
pub returns-then-last-first-clause-read : goal.returns-then-last-first-clause-read
returns-then-last-first-clause-read c = read_not c.args.pass.now

pub returns-then-last-first-clause-spans : goal.returns-then-last-first-clause-spans
returns-then-last-first-clause-spans c =
    subst (HasListedLive c.args.pass.now c.args.pass.now c.args.first c.args.last) (sym c.new-found.ensures.items)
    (none_listed c.args.pass.now c.args.first c.args.last c.if-last-first.true)

-- all keys were swept
pub returns : goal.returns
returns c = let e = c.in_ok-sweep.ensures in let p = c.args.pass.now in let q = c.sweep.new.pass in
    let read : HasOnlyRead p q =
    record { seen = e.seen; calls = e.calls; stamp = e.stamp; refused = e.refused } in
    let none = c.new-found.ensures.items in
    let up = swept_up p q read c.args.first c.args.last _ _ none e.swept in record {
      read = read;
      live = all_live p q c.args.first c.args.last c.sweep.new.found.items up;
      in_turn = in_turn p c.args.first q (c.args.last + 1) c.sweep.new.found.items up;
      spans = has_listed p q c.args.first c.args.last _ _ none e.swept;
    }
