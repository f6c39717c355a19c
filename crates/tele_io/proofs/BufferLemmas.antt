-- The known bytes of a sink, with bytes that are held back from it. Serves `BufferedSink`.
use Rattle.std.proofs.Common.{◌≡◌, ℕ, List, [], ◌++◌, length, take, drop, Option, Some, None, sym, ◌∙◌, ap, append_assoc, take-append-drop, arith}
use Rattle.std.proofs.lemmas.List.{length-append, take_all, take-append-le}
use Rattle.tele_io.specs.Bytes.{Appends, AppendsPart, Keeps}
use Rattle.tele_io.specs.Buffers.{with_held}

-- the first n of the bytes that were held are passed on, the others are held still
pub keeps_passed : (before now : Option (List ℕ)) (held left : List ℕ) (n : ℕ)
    → Appends before now (take n held) → left ≡ drop n held
    → Keeps (with_held before held) (with_held now left)
keeps_passed None now held left n passed is = tt
keeps_passed (Some xs) None held left n passed is = absurd (cc passed)
keeps_passed (Some xs) (Some ys) held left n passed is =
    let same : (xs ++ take n held) ++ drop n held ≡ xs ++ held =
    append_assoc {A = ℕ} xs (take n held) (drop n held) ∙ ap (λ l. xs ++ l) (take-append-drop n held) in
    let here : ys ≡ xs ++ take n held = cc passed in
    ap Some (ap (λ l. l ++ left) here ∙ ap (λ l. (xs ++ take n held) ++ l) is ∙ same)

-- if a sink's bytes are known and were none, they are now a prefix of what was taken
pub passed_part : (now : Option (List ℕ)) (held text : List ℕ)
    → AppendsPart (Some []) (with_held now held) text → AppendsPart (Some []) now text
passed_part None held text part = absurd (cc part.2)
passed_part (Some xs) held text part = let n = part.0 in
    let whole : xs ++ held ≡ take n text = cc part.2 in
    let text_is : text ≡ xs ++ (held ++ drop n text) =
    sym (take-append-drop n text) ∙ ap (λ l. l ++ drop n text) (sym whole)
    ∙ append_assoc {A = ℕ} xs held (drop n text) in (
      length xs,
      omega (arith, ap length text_is, length-append xs (held ++ drop n text)),
      ap Some (sym (take_all (length xs) xs (omega arith))
          ∙ sym (take-append-le (length xs) xs (held ++ drop n text) (omega arith))
          ∙ ap (take (length xs)) (sym text_is)),
    )
