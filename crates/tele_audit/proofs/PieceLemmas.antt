-- A dump that goes out piece by piece. Serves `pieces` and `dumps`.
use Rattle.std.proofs.Common.{◌≡◌, ℕ, ◌+◌, ◌<◌, ◌≤◌, List, [], ◌∷◌, ◌++◌, length, take, drop, Option, sym, ap, ◌∙◌, subst, arith}
use Rattle.std.specs.List.{flat_map}
use Rattle.std.proofs.lemmas.List.{append_assoc, append-nil, take_more, take-append-drop, take-take}
use Rattle.std.proofs.lemmas.List.Concat.{flat_map-append}
use Rattle.ist_core.specs.WordTerms.{next_place}
use Rattle.ist_rest.specs.WordRows.{word_at}
use Rattle.tele_io.specs.Bytes.{AppendsPart}
use Rattle.tele_io.proofs.AppendsLemmas.{Appends-append, AppendsPart-append, AppendsPart-longer}
use Rattle.tele_audit.specs.Dumps.{magic, number_bytes, used_words, dump_of}
use Rattle.tele_audit.specs.Pieces.{MovesOut, HasDumped}

module _ (before : Option (List ℕ)) (words : List ℕ) where
  -- a piece goes out
  pub dumped_out : (now later : Option (List ℕ)) (piece new : List ℕ) (place : ℕ)
      → HasDumped before now words piece place → MovesOut now later piece new
      → HasDumped before later words new place
  dumped_out now later piece new place h m = grind (arith, Appends-append, append_assoc)

  -- one more word
  pub dumped_word : (now : Option (List ℕ)) (piece new : List ℕ) (place word : ℕ)
      → HasDumped before now words piece place → place < length words
      → word ≡ word_at words place → new ≡ piece ++ number_bytes word
      → HasDumped before now words new (place + 1)
  dumped_word now piece new place word h within is e =
      let head = magic ++ number_bytes (length words) in
      let front = flat_map number_bytes (take place words) in
      let one : flat_map number_bytes (take (place + 1) words)
      ≡ front ++ number_bytes word =
      ap (flat_map number_bytes) (take_more words place 0 within)
      ∙ flat_map-append number_bytes (take place words) (word_at words place ∷ [])
      ∙ ap (λ xs. front ++ xs) (append-nil (number_bytes (word_at words place))
      ∙ ap number_bytes (sym is)) in
      record {
        written = h.written;
        writes = h.writes;
        so_far = ap (λ xs. h.written ++ xs) e ∙ sym (append_assoc h.written piece (number_bytes word))
            ∙ ap (λ (xs : List ℕ). xs ++ number_bytes word) h.so_far
            ∙ append_assoc magic (number_bytes (length words) ++ front) (number_bytes word)
            ∙ ap (λ xs. magic ++ xs) (append_assoc (number_bytes (length words)) front
            (number_bytes word) ∙ ap (λ xs. number_bytes (length words) ++ xs) (sym one));
      }

  -- the dump up to a place, followed by the rest
  pub rest_of : (place : ℕ) → place ≤ word_at words next_place
      → (rest : List ℕ) × (dump_of words
      ≡ (magic ++ number_bytes (length words) ++ flat_map number_bytes (take place words)) ++ rest)
  rest_of place le = let used = used_words words in
      let first = flat_map number_bytes (take place words) in
      let more = flat_map number_bytes (drop place used) in
      let split : flat_map number_bytes used ≡ first ++ more =
      ap (flat_map number_bytes) (sym (take-append-drop place used))
      ∙ flat_map-append number_bytes (take place used) (drop place used)
      ∙ ap (λ xs. flat_map number_bytes xs ++ more) (take-take place (word_at words next_place) words
      le) in (
        more,
        ap (λ xs. magic ++ number_bytes (length words) ++ xs) split
            ∙ ap (λ xs. magic ++ xs) (sym (append_assoc (number_bytes (length words)) first more))
            ∙ sym (append_assoc magic (number_bytes (length words) ++ first) more),
      )

  -- a part of a piece
  pub dumped_part : (now later : Option (List ℕ)) (piece : List ℕ) (place : ℕ)
      → HasDumped before now words piece place → place ≤ word_at words next_place
      → AppendsPart now later piece → AppendsPart before later (dump_of words)
  dumped_part now later piece place h le part = let rest = rest_of place le in
      subst (AppendsPart before later) (sym rest.1)
      (AppendsPart-longer before later
      (magic ++ number_bytes (length words) ++ flat_map number_bytes (take place words)) rest.0
      (subst (AppendsPart before later) h.so_far
      (AppendsPart-append before now later h.written piece h.writes part)))
