use Rattle.std.proofs.Common.{◌≡◌, ◌∙◌, ◌-◌, ◌+◌, map, get_or, length, ap, arith}
use Rattle.std.specs.List.{range_with_len}
use Rattle.ist_core.specs.WordTerms.{degree, part_start}
use Rattle.ist_image.proofs.PlacingLemmas.{keys_of_parts_are, key_at}
use Rattle.check_state.proofs.LaidLemmas.{made_more}
use Rattle.check_state.proofs.opening.keys_of.Goals as goal

pub loop-j-preserved : goal.loop-j-preserved
loop-j-preserved c = let xs = c.args.pairs.now in let begun = c.loop-j.auto.j in
    let within = c.part-start.ensures.inside in let some = c.part-start.ensures.some in
    let last : 1 + (c.loop-j.j - 1) ≡ c.loop-j.j = omega arith in
    let next : c.loop-j.j - 1 + 1 ≡ c.loop-j.j + 1 - 1 = omega arith in
    made_more (λ i. get_or (map (λ pair. pair.key) xs) (part_start (length xs) i) 0) 1
    (c.loop-j.j - 1) c.loop-j.j _ c.loop-j.keys.items c.push.new.self.items
    c.loop-j.invariant c.in_ok-push.ensures.items last
    (key_at (λ pair. pair.key) xs c.part-start.result.start _ (omega arith)
    ∙ ap (λ s. get_or (map (λ pair. pair.key) xs) s 0) c.part-start.ensures.start)
    ∙ ap (λ k. map (λ i. get_or (map (λ pair. pair.key) xs) (part_start (length xs) i) 0)
    (range_with_len 1 k)) next

pub returns : goal.returns
returns c = let end : c.loop-j.j ≡ degree (length c.args.pairs.now) = omega arith in record {
  value = c.from_vec.ensures.value ∙ c.loop-j.invariant
      ∙ ap (λ d. map (λ i. get_or (map (λ pair. pair.key) c.args.pairs.now)
      (part_start (length c.args.pairs.now) i) 0) (range_with_len 1 (d - 1))) end
      ∙ keys_of_parts_are (λ pair. pair.key) c.args.pairs.now c.requires.several;
}
