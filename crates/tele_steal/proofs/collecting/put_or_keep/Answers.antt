use Rattle.std.proofs.Common.{[], ◌∷◌, ◌++◌, All, IsPermutation, sym, ap, subst}
use Rattle.std.proofs.lemmas.List.Elements.{All-push}
use Rattle.std.proofs.lemmas.List.Sorted.{IsPermutation-refl}
use Rattle.crossbeam_deque.specs.Handles.{worker_view}
use Rattle.tele_steal.specs.Runs.{IsNewLane}
use Rattle.tele_steal.proofs.ShuffleLemmas.{joins_first}
use Rattle.tele_steal.proofs.collecting.put_or_keep.Goals as goal

-- the lane is in the deque
pub returns-in-None-clause-shared : goal.returns-in-None-clause-shared
returns-in-None-clause-shared g c = let put = (worker_view c.args.owner.now).put in
    let kept = c.args.kept.now.items in let one = c.args.lane ∷ [] in
    subst (λ z. IsPermutation ((put ++ kept) ++ one) (z ++ kept))
    (sym (ap (λ v. v.put) c.in-None.ensures.put))
    (joins_first (put ++ kept) put kept one (IsPermutation-refl (put ++ kept)))

-- the lane that is kept wasn't run
pub returns-in-Some-clause-fresh : goal.returns-in-Some-clause-fresh
returns-in-Some-clause-fresh g c before = let Fresh = IsNewLane g.P.Port.calls g.P.Port.refused in
    subst (All Fresh) (sym c.push_reserved.ensures.items)
    (All-push Fresh c.args.kept.now.items c.in-Some.lane before
    (subst Fresh (sym c.in-Some.ensures.refused) c.requires.fresh))
