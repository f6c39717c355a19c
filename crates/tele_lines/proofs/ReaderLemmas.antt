-- What the first line of the unread bytes is. Serves the reader.
use Rattle.std.proofs.Common.{◌≡◌, ℕ, ◌+◌, ◌<◌, Bool, true, false, List, [], ◌++◌, length, take, drop, refl, sym, ◌∙◌, ap, subst, arith, inl, inr, length-append, append_assoc}
use Rattle.std.specs.Prelude.{Option, Some, None, IfSome, if◌then◌else◌, is_some, ◌⊎◌, ◌-◌, ◌≤◌, nat_le, option_map}
use Rattle.std.proofs.lemmas.List.{take_all, append-nil, nil_from_length, take-append-drop, length-take}
use Rattle.std.proofs.Math.ListN.{drop_of_length-le}
use Rattle.std.proofs.lemmas.Grind.{common_steps}
use Rattle.memchr.specs.Find.{IsFirstByte}
use Rattle.tele_lines.specs.declared.items.Said.{Said}
use Rattle.tele_lines.specs.declared.items.Said.TheVariants.{Fails}
use Rattle.tele_lines.specs.declared.items.Cause.TheVariants.{Long, Lines}
use Rattle.tele_lines.specs.Lines.{longest, lines_of, without_return}
use Rattle.tele_lines.specs.Readings.{reading}
use Rattle.tele_io.specs.Bytes.{Keeps}
use Rattle.tele_lines.specs.Buffers.{is_newline, IsUnbroken, BreaksAt, IsOpenEnded, EndsAt, Fills, unread_of}
use Rattle.tele_lines.specs.Progress.{Place, Continues, TakesLine, MeetsLine}
use Rattle.tele_lines.proofs.FirstLemmas.{first_place}
use Rattle.tele_lines.proofs.CutLemmas.{cut_first, cut_last, cut_long, whole_first}

-- a search for a newline gives where the first line ends, once that is known
pub ends_at : (buffer : List ℕ) (ended : Bool) (found : Option ℕ)
    → IsFirstByte is_newline buffer found
    → (is_some found ≡ true) ⊎ ((ended ≡ true) ⊎ (longest + 1 < length buffer))
    → EndsAt buffer ended found
ends_at buffer ended (Some place) h why =
    record { first = first_place is_newline buffer (Some place) h; within = h.0.high }
ends_at buffer ended None h why = record {
  unbroken = first_place is_newline buffer None h;
  why = elim why [ inl never ↦ absurd (cc) | inr w ↦ w ];
}

-- if a search finds no newline, the buffer has none
pub unbroken : (buffer : List ℕ) (found : Option ℕ) → IsFirstByte is_newline buffer found
    → is_some found ≡ false → IsUnbroken buffer
unbroken buffer (Some place) h none = absurd (cc)
unbroken buffer None h none = first_place is_newline buffer None h

-- and at the end of the input there are no others
pub unread-ends : (before : Option (List ℕ)) (old new : List ℕ) (n : ℕ) (left now : Option (List ℕ))
    → n ≡ 0 → Keeps before (unread_of old false left)
    → Fills left now old new n → Keeps before (unread_of new true now)
unread-ends None old new n left now none h f = tt
unread-ends (Some bytes) old new n (Some given) now none h f =
    let no_more : given ≡ [] = f.bytes.at_end none in
    let same : new ++ f.bytes.rest ≡ old ++ given = f.bytes.same in
    let short : length new + length f.bytes.rest ≡ length old + length given =
    sym (length-append new f.bytes.rest) ∙ ap length same ∙ length-append old given in
    let empty : length f.bytes.rest ≡ 0 = omega (arith, f.longer, none, short, ap length no_more) in
    ap Some (ap (λ xs. new ++ xs) (sym (nil_from_length f.bytes.rest empty)) ∙ same) ∙ h
unread-ends (Some bytes) old new n None now none h f = absurd (cc)

-- a line that ends at a newline
pub takes_line : (place : Place) (said : Said) (buffer : List ℕ) (ended : Bool)
    (left : Option (List ℕ)) (k : ℕ) → BreaksAt buffer k
    → reading place.limit (place.count + 1) place.mode (take k buffer) ≡ said
    → IfSome (option_map (λ bytes. buffer ++ bytes) left)
    (λ bytes. TakesLine place said bytes ended (option_map (λ bytes. drop (k + 1) buffer ++ bytes) left))
takes_line place said buffer ended None k b says = tt
takes_line place said buffer ended (Some others) k b says = record {
  line = take k buffer;
  taken = take (k + 1) buffer;
  rest = drop (k + 1) buffer ++ others;
  left = refl;
  same = ap (λ bytes. bytes ++ others) (sym (take-append-drop (k + 1) buffer))
      ∙ append_assoc {A = ℕ} (take (k + 1) buffer) (drop (k + 1) buffer) others;
  cut = cut_first buffer others k b.first b.within;
  says = says;
  whole = λ _ more. whole_first buffer more k b.first b.within;
}

-- it is the first of the unread lines
pub meets_line : (place : Place) (said : Said) (buffer : List ℕ) (left : Option (List ℕ)) (k : ℕ)
    → BreaksAt buffer k → reading place.limit (place.count + 1) place.mode (take k buffer) ≡ said
    → IfSome (option_map (λ bytes. buffer ++ bytes) left) (λ bytes. MeetsLine place said bytes)
meets_line place said buffer None k b says = tt
meets_line place said buffer (Some others) k b says = record {
  line = take k buffer;
  others = lines_of (drop (k + 1) buffer ++ others);
  cut = cut_first buffer others k b.first b.within;
  says = says;
}

-- without its last byte a line is shorter by one
length-without_return : (line : List ℕ) → length line ≤ length (without_return line) + 1
length-without_return line = grind (arith, length-take)

said_long : (place : Place) (line : List ℕ) → longest + 1 < length line
    → reading place.limit (place.count + 1) place.mode line ≡
    (if nat_le (place.count + 1) place.limit then Fails Long else Fails Lines)
said_long place line h = grind (arith, length-without_return, common_steps)

-- two lines that are too long say the same
pub too_long : (place : Place) (one two : List ℕ) → longest + 1 < length one
    → longest + 1 < length two
    → reading place.limit (place.count + 1) place.mode one ≡ reading place.limit
    (place.count + 1) place.mode two
too_long place one two h k = said_long place one h ∙ sym (said_long place two k)

-- the last line, which no newline ends
pub takes_last : (place : Place) (said : Said) (buffer : List ℕ) (ended : Bool) (left : Option (List ℕ))
    → ended ≡ true → IsUnbroken buffer → 0 < length buffer
    → reading place.limit (place.count + 1) place.mode (take (length buffer) buffer) ≡ said
    → IfSome (unread_of buffer ended left)
    (λ bytes. TakesLine place said bytes ended (unread_of (drop (length buffer) buffer) ended left))
takes_last place said buffer ended left at_end unbroken_all some says =
    grind (arith, take_all, drop_of_length-le, append-nil, cut_last)

meets_long : (place : Place) (said : Said) (buffer : List ℕ) (left : Option (List ℕ))
    → IsUnbroken buffer → 0 < length buffer
    → longest + 1 < length buffer → reading place.limit (place.count + 1) place.mode buffer ≡ said
    → IfSome (option_map (λ bytes. buffer ++ bytes) left) (λ bytes. MeetsLine place said bytes)
meets_long place said buffer None unbroken_all some long says = tt
meets_long place said buffer (Some others) unbroken_all some long says =
    let first = cut_long buffer others unbroken_all some in
    let longer : longest + 1 < length (buffer ++ first.0) = omega (arith, length-append buffer first.0) in
    record {
      line = buffer ++ first.0;
      others = first.1;
      cut = first.2;
      says = too_long place (buffer ++ first.0) buffer longer long ∙ says;
    }

-- the first of the unread lines begins with bytes without a newline that are too many, or are all
pub meets_last : (place : Place) (said : Said) (buffer : List ℕ) (ended : Bool) (left : Option (List ℕ))
    → IsOpenEnded buffer ended → 0 < length buffer
    → reading place.limit (place.count + 1) place.mode (take (length buffer) buffer) ≡ said
    → IfSome (unread_of buffer ended left) (λ bytes. MeetsLine place said bytes)
meets_last place said buffer ended left unended some says =
    grind (arith, take_all, append-nil, cut_last, meets_long)

-- one of the two ways in which a line that is too long is bad
fails_either : (b : Bool) (said : Said) → (if b then Fails Long else Fails Lines) ≡ said
    → Continues said → ⊥
fails_either true said is goes_on = subst Continues (sym is) goes_on
fails_either false said is goes_on = subst Continues (sym is) goes_on

-- after a line that is too long the reading doesn't continue
pub long_fails : (place : Place) (buffer : List ℕ) (said : Said) → longest + 1 < length buffer
    → reading place.limit (place.count + 1) place.mode (take (length buffer) buffer) ≡ said
    → Continues said → ⊥
long_fails place buffer said long says goes_on = grind (arith, take_all, fails_either, said_long)
