-- Bytes in the middle of an array. Serves the buffer.
use Rattle.std.proofs.Common.{◌≡◌, ℕ, ◌+◌, ◌-◌, ◌≤◌, List, ◌++◌, length, take, drop, sym, ◌∙◌, ap, arith, append_assoc}
use Rattle.std.specs.Prelude.{slice_range, Option, Some, None}
use Rattle.std.proofs.Math.Seq.{take-add}
use Rattle.std.proofs.lemmas.List.{drop-drop, drop-take, take-append-drop, length-drop, length-take, length-take-le}
use Rattle.tele_io.specs.Bytes.{GivesBytes}
use Rattle.tele_lines.specs.Buffers.{Fills}

-- letting the first go is beginning later
pub slice_range-later : (bytes : List ℕ) (start count end : ℕ) → start + count ≤ end
    → slice_range bytes (start + count) end ≡ drop count (slice_range bytes start end)
slice_range-later bytes start count end h =
    let e : count + (end - (start + count)) ≡ end - start = omega arith in
    ap (take (end - (start + count))) (sym (drop-drop count start bytes))
    ∙ sym (ap (λ n. drop count (take n (drop start bytes))) (sym e)
    ∙ drop-take count (end - (start + count)) (drop start bytes))

-- bytes that were read after the first k are the next ones
pub fills_after : (bytes : List ℕ) (k n : ℕ) (left now : Option (List ℕ)) → k + n ≤ length bytes
    → GivesBytes left now n (drop k bytes) → Fills left now (take k bytes) (take (k + n) bytes) n
fills_after bytes k n (Some given) now h g = record {
  longer = omega (arith, length-take-le (k + n) bytes h, length-take-le k bytes (omega arith));
  bytes = record {
    rest = drop n given;
    others = g.others;
    same =
        ap (λ xs. xs ++ drop n given) (take-add k n bytes ∙ ap (λ xs. take k bytes ++ xs) g.given)
        ∙ append_assoc {A = ℕ} (take k bytes) (take n given) (drop n given)
        ∙ ap (λ xs. take k bytes ++ xs) (take-append-drop n given);
    at_end = g.at_end;
  };
}
fills_after bytes k n None now h g = grind (arith, length-take-le)

-- the same, as the buffer sees its bytes
pub filled : (bytes old : List ℕ) (k n : ℕ) (left now : Option (List ℕ)) → take k bytes ≡ old
    → k + n ≤ length bytes → GivesBytes left now n (drop k bytes)
    → Fills left now old (slice_range bytes 0 (k + n)) n
filled bytes old k n left now is h g = grind (arith, fills_after)

-- as long as the range
pub length-slice_range : (bytes : List ℕ) (start end : ℕ) → start ≤ end → end ≤ length bytes
    → start + length (slice_range bytes start end) ≡ end
length-slice_range bytes start end h k =
    omega (arith, length-take (end - start) (drop start bytes), length-drop start bytes)
