use Rattle.std.proofs.Common.{◌≡◌, ◌≤◌, ◌<◌, ◌⊎◌, ℕ, true, false, length, get_or}
use Rattle.tele_audit.proofs.marks.claim.Given as goal

abbrev pub invariant-loop-place : goal.invariant-loop-place
invariant-loop-place l = (k : ℕ) → l.from ≤ k → k < l.place → get_or l.marks.items k false ≡ false

abbrev pub invariant-loop-place-2 : goal.invariant-loop-place-2
invariant-loop-place-2 l = record {
  same : length l.marks.items ≡ length l.initial.marks.items;
  inside : (k : ℕ) → l.from ≤ k → k < l.place → get_or l.marks.items k false ≡ true;
  outside : (k : ℕ) → (k < l.from) ⊎ (l.place ≤ k) → get_or l.marks.items k false ≡ get_or
      l.initial.marks.items k false;
}
