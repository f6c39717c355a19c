use Rattle.std.proofs.Common.{◌↔◌, ◌≡◌, ◌∙◌, ◌∷◌, length, ap, map, refl, subst, arith}
use Rattle.check_fairness.specs.declared.keeping.KeptReadings.{KeptReadings}
use Rattle.check_fairness.specs.Keeping.{any_room, left_at}
use Rattle.check_fairness.specs.Readings.{SomeGoes}
use Rattle.check_fairness.proofs.KeepingLemmas.{kept_more, first_is, at}
use Rattle.check_fairness.proofs.keeping.add_size.Goals as goal

pub returns : goal.returns
returns c = let lists = map (λ v. v.items) c.args.lists.now in let kept = c.args.kept.now in
    let left : c.left_at-left.result.now ≡ left_at kept (length kept.sizes.items) =
    c.left_at-left.ensures.value ∙ ap (λ xs. at xs c.len.result) c.as_slice.ensures.value
    ∙ ap (at kept.left.items) (c.len.ensures ∙ omega (arith, kept.sizes.ok.0)) in
    let new : KeptReadings = record {
      lists = kept.lists;
      sizes = c.push-2.new.self;
      left = c.push.new.self;
    } in
    record {
      kept = λ k.
          let few = first_is c.args.lists.now c.args.lists.now c.first_lists-known.result.now
          kept.lists refl k.within c.first_lists-known.ensures.value in
          kept_more lists kept new c.args.size c.in_ok-next.next refl c.in_ok-push-2.ensures.items
          c.in_ok-push.ensures.items
          (λ more. subst (λ ls. SomeGoes ls any_room c.in_ok-next.next.items more
          ↔ SomeGoes ls any_room (left_at kept (length kept.sizes.items)) (c.args.size ∷ more)) few
          (subst (λ rs. SomeGoes (map (λ v. v.items) c.first_lists-known.result.now) any_room
          c.in_ok-next.next.items more
          ↔ SomeGoes (map (λ v. v.items) c.first_lists-known.result.now) any_room rs
          (c.args.size ∷ more)) left (c.in_ok-next.ensures.exact more))) k;
      sizes = c.in_ok-push-2.ensures.items;
      lists = refl;
    }
