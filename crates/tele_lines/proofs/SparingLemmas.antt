-- When a reader takes bytes from its source. Serves the reader, and whoever calls it again and again.
use Rattle.std.proofs.Common.{◌≡◌, ℕ, ◌≤◌, Bool, true, false, List, [], ◌++◌, length, take, drop, refl, sym, ◌∙◌, ap, subst, arith, inl, inr, append-nil, append_assoc, length-append}
use Rattle.std.specs.Prelude.{Option, Some, None, IfSome, IsSome}
use Rattle.std.proofs.lemmas.List.{take-append-le, take-append-drop, append_cancel_left, append_cancel_right, length-drop, nil_from_length}
use Rattle.std.proofs.Math.Seq.{take-append_seam}
use Rattle.tele_io.specs.Bytes.{Keeps}
use Rattle.tele_lines.specs.Lines.{whole_lines}
use Rattle.tele_lines.specs.Buffers.{Fills, FillsFrom, IsUnbroken, RefillsOnly, TellsEndOf, unread_of, piece_limit}
use Rattle.tele_lines.specs.Progress.{Place, GoesTo, TakesLast, TakesAsNeeded, read_at}
use Rattle.tele_lines.proofs.CutLemmas.{no_whole}

-- ---- one filling of the buffer

-- bytes that were taken from a source lie in the buffer after those that were kept
pub record Took (kept bytes : List ℕ) (now : Option (List ℕ)) (buffer : List ℕ) : Type 0 where
  pub taken : List ℕ
  pub rest : List ℕ
  pub left : now ≡ Some rest
  pub same : bytes ≡ taken ++ rest
  pub here : buffer ≡ kept ++ taken

-- what a longer list has after the first bytes
record Longer (old new rest more : List ℕ) : Type 0 where
  begins : new ≡ old ++ drop (length old) new
  gives : rest ≡ drop (length old) new ++ more

longer : (old new rest more : List ℕ) → length old ≤ length new → new ++ more ≡ old ++ rest
    → Longer old new rest more
longer old new rest more le same = let n = length old in
    let front : take n new ≡ old =
    sym (take-append-le n new more le) ∙ ap (take n) same ∙ take-append_seam old rest in
    let begins : new ≡ old ++ drop n new = sym (take-append-drop n new) ∙ ap (λ xs. xs ++ drop n new) front in
    record {
      begins = begins;
      gives = sym (append_cancel_left old (drop n new ++ more) rest
          (sym (append_assoc {A = ℕ} old (drop n new) more) ∙ ap (λ xs. xs ++ more) (sym begins) ∙ same));
    }

-- a read that gave bytes
filled : (old new : List ℕ) (left now : Option (List ℕ)) (n : ℕ) (rest : List ℕ) → left ≡ Some rest
    → Fills left now old new n → FillsFrom rest now old new n
filled old new left now n rest is fills = grind arith

-- one read more
pub took_if : (all left now : Option (List ℕ)) (kept old new : List ℕ) (n : ℕ)
    → IfSome all (λ bytes. Took kept bytes left old) → Fills left now old new n
    → IfSome all (λ bytes. Took kept bytes now new)
took_if None left now kept old new n a fills = tt
took_if (Some bytes) left now kept old new n a fills =
    let given = filled old new left now n a.rest a.left fills in
    let parts = longer old new a.rest given.rest (omega (arith, fills.longer)) given.same in
    let piece = drop (length old) new in record {
      taken = a.taken ++ piece;
      rest = given.rest;
      left = given.others;
      same = a.same ∙ ap (λ xs. a.taken ++ xs) parts.gives
          ∙ sym (append_assoc {A = ℕ} a.taken piece given.rest);
      here = parts.begins ∙ ap (λ xs. xs ++ piece) a.here ∙ append_assoc {A = ℕ} kept a.taken piece;
    }

-- it was made when the end of the first line hadn't been taken
pub spared_if : (all left now : Option (List ℕ)) (kept old new : List ℕ) (n : ℕ) (was : Bool)
    → was ≡ false → IsUnbroken old → n ≤ piece_limit
    → IfSome all (λ bytes. Took kept bytes left old) → Fills left now old new n
    → IfSome all (λ bytes. RefillsOnly kept was bytes now)
spared_if None left now kept old new n was going waits few a fills = tt
spared_if (Some bytes) left now kept old new n was going waits few a fills =
    let given = filled old new left now n a.rest a.left fills in
    let parts = longer old new a.rest given.rest (omega (arith, fills.longer)) given.same in
    inr (
      going,
      record {
        before = a.taken;
        piece = drop (length old) new;
        rest = given.rest;
        left = given.others;
        same = a.same ∙ ap (λ xs. a.taken ++ xs) parts.gives;
        few = omega (arith, few, fills.longer, length-drop (length old) new);
        waits = subst IsUnbroken a.here waits;
      },
    )

-- a read that failed took nothing
pub still_if : (all left now : Option (List ℕ)) (kept old : List ℕ) (was : Bool)
    → IfSome all (λ bytes. Took kept bytes left old) → Keeps left now
    → IfSome all (λ bytes. RefillsOnly kept was bytes left)
    → IfSome all (λ bytes. RefillsOnly kept was bytes now)
still_if None left now kept old was a keeps spared = tt
still_if (Some bytes) (Some rest) now kept old was a keeps spared = grind arith
still_if (Some bytes) None now kept old was a keeps spared = let e = a.left in absurd (cc e)

-- a read that gave nothing is the end of the source
pub ends_if : (first mid : Bool) (all left now : Option (List ℕ)) (old new : List ℕ) (n : ℕ) → n ≡ 0
    → (TellsEndOf first all → TellsEndOf mid left) → Fills left now old new n
    → TellsEndOf first all → TellsEndOf true now
ends_if first mid all left now old new n none end fills told =
    ended_at left now old new n none (end told).told fills
  where
    ended_at : (left now : Option (List ℕ)) (old new : List ℕ) (n : ℕ) → n ≡ 0 → IsSome left
        → Fills left now old new n → TellsEndOf true now
    ended_at None now old new n none some fills = absurd (cc some)
    ended_at (Some bytes) now old new n none some fills =
        let given = filled old new (Some bytes) now n bytes refl fills in
        let parts = longer old new bytes given.rest (omega (arith, fills.longer)) given.same in
        let size = ap length (given.at_end none) in let all = ap length parts.gives in
        let both = length-append (drop (length old) new) given.rest in
        let empty : given.rest ≡ [] = nil_from_length given.rest (omega (arith, size, all, both)) in
        record {
          told = subst IsSome (sym given.others) refl;
          none = λ _. given.others ∙ ap Some empty;
        }

-- ---- one line, and lines one after another

-- the source was read only while no line whose end was taken said anything
pub needed_if : (place : Place) (kept : List ℕ) (was : Bool) (all now : Option (List ℕ))
    → IfSome all (λ bytes. RefillsOnly kept was bytes now)
    → IfSome all (λ bytes. TakesAsNeeded place kept was bytes now)
needed_if place kept was None now spared = tt
needed_if place kept was (Some bytes) now (inl none) = inl none
needed_if place kept was (Some bytes) now (inr some) = grind (arith, no_whole)

-- what was taken, and what is left
pub record Given (bytes : List ℕ) (now : Option (List ℕ)) : Type 0 where
  pub taken : List ℕ
  pub rest : List ℕ
  pub left : now ≡ Some rest
  pub same : bytes ≡ taken ++ rest

-- it is known after reads as needed
pub given : (place : Place) (kept : List ℕ) (was : Bool) (bytes : List ℕ) (now : Option (List ℕ))
    → TakesAsNeeded place kept was bytes now → Given bytes now
given place kept was bytes now (inl none) = record { taken = []; rest = bytes; left = none; same = refl }
given place kept was bytes now (inr some) = let a = some.1 in record {
  taken = a.before ++ a.piece;
  rest = a.rest;
  left = a.left;
  same = a.same ∙ sym (append_assoc {A = ℕ} a.before a.piece a.rest);
}

-- the bytes of the lines that were read and those in the buffer are those kept at first and those
-- taken since
pub taken_twice : (kept bytes buffer rest taken read left : List ℕ) → bytes ≡ taken ++ rest
    → kept ++ bytes ≡ read ++ left → Some (buffer ++ rest) ≡ Some left
    → kept ++ taken ≡ read ++ buffer
taken_twice kept bytes buffer rest taken read left same cut here =
    let whole : buffer ++ rest ≡ left = cc here in
    append_cancel_right (kept ++ taken) (read ++ buffer) rest
    (append_assoc {A = ℕ} kept taken rest ∙ ap (λ xs. kept ++ xs) (sym same) ∙ cut
    ∙ ap (λ xs. read ++ xs) (sym whole) ∙ sym (append_assoc {A = ℕ} read buffer rest))

-- lines that say nothing were skipped, and then the source was read as needed
later_needed : (one two : Place) (kept buffer bytes rest : List ℕ) (now : Option (List ℕ))
    → (was mid : Bool) → (was ≡ true → mid ≡ true) → (first : Given bytes (Some rest))
    → IfSome (unread_of kept was (Some bytes))
    (λ bytes. GoesTo one two mid [] bytes (unread_of buffer mid (Some rest)))
    → mid ≡ false → TakesLast two buffer rest now → TakesAsNeeded one kept was bytes now
later_needed one two kept buffer bytes rest now true mid lasts first goes going last = grind arith
later_needed one two kept buffer bytes rest now false true lasts first goes going last = grind arith
later_needed one two kept buffer bytes rest now false false lasts first goes going last =
    let is : rest ≡ first.rest = let e = first.left in cc e in
    let same : bytes ≡ first.taken ++ rest = first.same ∙ ap (λ xs. first.taken ++ xs) (sym is) in
    let twice = taken_twice kept bytes buffer rest first.taken goes.taken goes.rest same goes.same goes.left in
    inr (
      refl,
      record {
        before = first.taken ++ last.before;
        piece = last.piece;
        rest = last.rest;
        left = last.left;
        same = same ∙ ap (λ xs. first.taken ++ xs) last.same
            ∙ sym (append_assoc {A = ℕ} first.taken last.before (last.piece ++ last.rest));
        few = last.few;
        waits = ap (λ xs. read_at one (whole_lines xs))
            (sym (append_assoc {A = ℕ} kept first.taken last.before)
            ∙ ap (λ xs. xs ++ last.before) twice ∙ append_assoc {A = ℕ} goes.taken buffer last.before)
            ∙ goes.whole refl (buffer ++ last.before) ∙ last.waits;
      },
    )

-- one stretch and then another, also if the bytes aren't known
pub on_needed_if : (one two : Place) (kept buffer : List ℕ) (was mid : Bool)
    (all left now : Option (List ℕ)) → (was ≡ true → mid ≡ true)
    → IfSome (unread_of kept was all) (λ bytes. GoesTo one two mid [] bytes (unread_of buffer mid left))
    → IfSome all (λ bytes. TakesAsNeeded one kept was bytes left)
    → IfSome left (λ bytes. TakesAsNeeded two buffer mid bytes now)
    → IfSome all (λ bytes. TakesAsNeeded one kept was bytes now)
on_needed_if one two kept buffer was mid None left now lasts goes a b = tt
on_needed_if one two kept buffer was mid (Some bytes) None now lasts goes a b = grind (arith, given)
on_needed_if one two kept buffer was mid (Some bytes) (Some rest) now lasts goes a (inl none) =
    subst (TakesAsNeeded one kept was bytes) (sym none) a
on_needed_if one two kept buffer was mid (Some bytes) (Some rest) now lasts goes a (inr some) =
    later_needed one two kept buffer bytes rest now was mid lasts (given one kept was bytes (Some rest) a)
    goes some.0 some.1
