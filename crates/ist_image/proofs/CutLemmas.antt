-- A part of the pairs of a row, cut out where it begins and the next one does. Serves `cuts.rt`.
use Rattle.std.proofs.Common.{◌≡◌, ◌∙◌, ◌+◌, ◌-◌, ◌<◌, ◌≤◌, ℕ, suc, List, length, take, drop, refl, ap, arith}
use Rattle.ist_core.specs.declared.pairs.Pair.{Pair}
use Rattle.ist_core.specs.WordTerms.{degree, part_len, part_start}
use Rattle.ist_core.proofs.AllWordLemmas.{part_start-suc, part_len-lt}
use Rattle.ist_image.specs.Placing.{IsPartOfPairs, part_of}
use Rattle.ist_image.proofs.PlacedLemmas.{length-part_of}

-- it is a part of them
pub part_cut : (pairs : List Pair) (m d j start end : ℕ) → 2 ≤ m → m ≡ length pairs → d ≡ degree m → j < d
    → start ≡ part_start (length pairs) j → end ≡ part_start m (j + 1) → end ≤ m
    → IsPartOfPairs pairs j start (take (end - start) (drop start pairs))
part_cut pairs m d j start end several same is less begin ends within = let n = length pairs in
    let count = is ∙ ap degree same in let next = part_start-suc n j in
    let later = ends ∙ ap (λ k. part_start k (j + 1)) same
    ∙ ap (part_start n) (let e : j + 1 ≡ suc j = omega arith in e) in
    let size : end - start ≡ part_len n j = omega arith in
    let whole : take (end - start) (drop start pairs) ≡ part_of pairs j =
    ap (λ k. take k (drop start pairs)) size ∙ ap (λ k. take (part_len n j) (drop k pairs)) begin in
    let long = ap length whole ∙ length-part_of pairs n j refl (omega arith) in
    let fewer = part_len-lt n j (omega arith) in
    let at = ends ∙ ap (λ k. part_start k (j + 1)) same in record {
      is = whole;
      long = long;
      fewer = omega arith;
      next = omega arith;
      end = omega arith;
    }
