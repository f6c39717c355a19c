-- How a line that was read takes the reading from one place to the next. Serves the reader.
use Rattle.std.proofs.Common.{◌≡◌, ℕ, ◌+◌, Bool, true, false, List, [], ◌∷◌, ◌++◌, refl, sym, ◌∙◌, ap, subst, append_assoc, length, take, drop, arith, inl, inr, ◌<◌}
use Rattle.std.specs.Prelude.{Option, Some, None, IfSome, ◌==◌, if◌then◌else◌, not, cond}
use Rattle.tele_io.specs.Bytes.{Keeps}
use Rattle.tele_lines.specs.declared.items.Cause.{Cause}
use Rattle.tele_lines.specs.declared.items.Item.{Item}
use Rattle.tele_lines.specs.declared.items.Said.{Said}
use Rattle.tele_lines.specs.declared.items.Said.TheVariants.{Skips, Chooses, Asks, Fails}
use Rattle.tele_lines.specs.Lines.{lines_of, whole_lines, newline, onto_whole}
use Rattle.tele_lines.specs.Readings.{version_in, reading}
use Rattle.tele_lines.specs.Answer.{Read, Good, Bad, then_read, exit_status}
use Rattle.tele_lines.specs.Progress.{Place, Continues, following, reads_given, read_at, GoesTo, TakesLine, ShowsBad, place_of, unread, MeetsLine}
use Rattle.std.specs.List.{position_or_len}
use Rattle.std.proofs.lemmas.List.{take_all, take-append-drop}
use Rattle.tele_lines.specs.Buffers.{is_newline, IsUnbroken, BreaksAt, IsOpenEnded, unread_of}
use Rattle.tele_lines.proofs.CutLemmas.{whole_first}
use Rattle.tele_lines.specs.declared.reader.Lines.{Lines}
use Rattle.tele_lines.proofs.ReaderLemmas.{takes_line, meets_line, takes_last, meets_last, long_fails}

-- a line followed by those after it
then_given : (place : Place) (said : Said) (others : List Read) → Continues said
    → then_read (place.count + 1) place.mode said others ≡ reads_given place said ++ others
then_given place Skips others goes_on = refl
then_given place (Chooses version) others goes_on = refl
then_given place (Asks item) others goes_on = refl
then_given place (Fails cause) others goes_on = absurd goes_on

-- how lines are read whose first says this
reads_first : (place : Place) (said : Said) (line : List ℕ) (lines others : List (List ℕ))
    → lines ≡ line ∷ others
    → reading place.limit (place.count + 1) place.mode line ≡ said → Continues said
    → read_at place lines ≡ reads_given place said ++ read_at (following place said) others
reads_first place said line lines others cut says goes_on = grind (arith, then_given)

-- after a line the reading is at the next place
goes_after : (place : Place) (said : Said) (bytes : List ℕ) (ended : Bool) (now : Option (List ℕ))
    → Continues said → TakesLine place said bytes ended now
    → GoesTo place (following place said) ended (reads_given place said) bytes now
goes_after place said bytes ended now goes_on takes = grind (arith, reads_first)

-- one line was read
pub one_after : (place new : Place) (said : Said) (before here now : Option (List ℕ)) (ended : Bool)
    → Keeps before here → new ≡ following place said → Continues said
    → IfSome here (λ bytes. TakesLine place said bytes ended now)
    → IfSome before (λ bytes. GoesTo place new ended (reads_given place said) bytes now)
one_after place new said None here now ended keeps is goes_on takes = tt
one_after place new said (Some bytes) here now ended keeps is goes_on takes =
    grind (arith, goes_after)

-- what has not ended had not ended before
pub still_going : (ended now : Bool) → (ended ≡ true → now ≡ true) → now ≡ false → ended ≡ false
still_going true now lasts going = absurd (cc (lasts refl))
still_going false now lasts going = refl

-- one stretch, and then another
pub goes_on_to : (one two three : Place) (mid ended : Bool) (first second : List Read) (bytes : List ℕ) (here now : Option (List ℕ))
    → (mid ≡ true → ended ≡ true) → GoesTo one two mid first bytes here
    → IfSome here (λ bytes. GoesTo two three ended second bytes now)
    → GoesTo one three ended (first ++ second) bytes now
goes_on_to one two three mid ended first second bytes here now lasts a b =
    let next : GoesTo two three ended second a.rest now = subst (λ u. IfSome u (λ bytes. GoesTo two three ended second bytes now)) a.left b in
    let was : ended ≡ false → mid ≡ false = still_going mid ended lasts in record {
      taken = a.taken ++ next.taken;
      rest = next.rest;
      left = next.left;
      same = a.same ∙ ap (λ xs. a.taken ++ xs) next.same ∙ sym (append_assoc {A = ℕ} a.taken next.taken next.rest);
      reads = a.reads ∙ ap (λ rs. first ++ rs) next.reads ∙ sym (append_assoc {A = Read} first second (read_at three (lines_of next.rest)));
      whole = λ going more.
          ap (λ xs. read_at one (whole_lines xs)) (append_assoc {A = ℕ} a.taken next.taken more)
          ∙ a.whole (was going) (next.taken ++ more)
          ∙ ap (λ rs. first ++ rs) (next.whole going more)
          ∙ sym (append_assoc {A = Read} first second (read_at three (whole_lines more)));
    }

-- one stretch followed by another, also if the bytes aren't known
pub goes_on_if : (one two three : Place) (mid ended : Bool) (second : List Read)
    (before here now : Option (List ℕ)) → (mid ≡ true → ended ≡ true)
    → IfSome before (λ bytes. GoesTo one two mid [] bytes here)
    → IfSome here (λ bytes. GoesTo two three ended second bytes now)
    → IfSome before (λ bytes. GoesTo one three ended second bytes now)
goes_on_if one two three mid ended second None here now lasts a b = tt
goes_on_if one two three mid ended second (Some bytes) here now lasts a b = goes_on_to one two three mid ended [] second bytes here now lasts a b

-- what is read from a later place is what was read from the first
pub reads_if : (one two : Place) (mid : Bool) (found : List Read) (before here : Option (List ℕ))
    → IfSome before (λ bytes. GoesTo one two mid [] bytes here)
    → IfSome here (λ bytes. read_at two (lines_of bytes) ≡ found)
    → IfSome before (λ bytes. read_at one (lines_of bytes) ≡ found)
reads_if one two mid found None here a b = tt
reads_if one two mid found (Some bytes) here a b = grind arith

-- an item that was given, as its number and its version are then
pub item_if : (one two new : Place) (ended : Bool) (item : Item) (before now : Option (List ℕ))
    → new ≡ following two (Asks item)
    → IfSome before (λ bytes. GoesTo one new ended (reads_given two (Asks item)) bytes now)
    → IfSome before
    (λ bytes. GoesTo one new ended (Good new.count (version_in new.mode) item ∷ []) bytes now)
item_if one two new ended item before now is goes = grind arith

-- a bad line that was found, by its number
pub bad_if : (one : Place) (count now number : ℕ) (first cause : Cause) (before : Option (List ℕ))
    → now ≡ count → now + 1 ≡ number → first ≡ cause
    → IfSome before (λ bytes. read_at one (lines_of bytes) ≡ Bad (count + 1) first ∷ [])
    → IfSome before (λ bytes. read_at one (lines_of bytes) ≡ Bad number cause ∷ [])
bad_if one count now number first cause before same is named reads = grind arith

-- ---- that the bytes which a reader keeps show a bad line. Serves the reader.

-- lines of which the first is bad
first_bad : (place : Place) (cause : Cause) (line : List ℕ) (lines others : List (List ℕ))
    → lines ≡ line ∷ others → reading place.limit (place.count + 1) place.mode line ≡ Fails cause
    → exit_status (read_at place lines) ≡ 3
first_bad place cause line lines others cut says = grind arith

-- a bad line that a newline ends
pub shown_at : (place : Place) (cause : Cause) (said : Said) (buffer : List ℕ) (ended : Bool) (k : ℕ)
    → BreaksAt buffer k
    → said ≡ reading place.limit (place.count + 1) place.mode (take k buffer) → said ≡ Fails cause
    → ShowsBad place buffer ended
shown_at place cause said buffer ended k breaks says fails =
    let more = drop (k + 1) buffer ++ newline ∷ [] in
    let parts : buffer ++ newline ∷ [] ≡ take (k + 1) buffer ++ more =
    ap (λ xs. xs ++ newline ∷ []) (sym (take-append-drop (k + 1) buffer))
    ∙ append_assoc {A = ℕ} (take (k + 1) buffer) (drop (k + 1) buffer) (newline ∷ []) in
    inr (first_bad place cause (take k buffer) _ (whole_lines more)
    (ap whole_lines parts ∙ whole_first buffer more k breaks.first breaks.within)
    (sym says ∙ fails))

-- bytes without a newline, and then a newline
ended_line : (bytes : List ℕ) → IsUnbroken bytes → whole_lines (bytes ++ newline ∷ []) ≡ bytes ∷ []
ended_line [] is = refl
ended_line (byte ∷ bytes) is = elim (byte == newline) as
    (λ b. cond (not b) (1 + position_or_len is_newline bytes) 0 ≡ length (byte ∷ bytes)
    → (if b then [] ∷ whole_lines (bytes ++ newline ∷ [])
    else onto_whole byte (whole_lines (bytes ++ newline ∷ []))) ≡ (byte ∷ bytes) ∷ []) [
      | true ↦ λ e. absurd (omega arith)
      | false ↦ λ e. ap (onto_whole byte) (ended_line bytes (omega arith))
    ] is

-- a bad line that is too long, or the last one
pub shown_last : (place : Place) (cause : Cause) (said : Said) (buffer : List ℕ) (ended : Bool)
    (len : ℕ) → len ≡ length buffer → IsOpenEnded buffer ended
    → said ≡ reading place.limit (place.count + 1) place.mode (take len buffer)
    → said ≡ Fails cause → ShowsBad place buffer ended
shown_last place cause said buffer ended len all unended says fails =
    grind (arith, first_bad, ended_line, take_all)

-- what was skipped before a bad line, which stays unread
pub skipped_if : (one two new : Place) (mid ended : Bool) (before here now : Option (List ℕ))
    → new ≡ two → (mid ≡ true → ended ≡ true) → Keeps here now
    → IfSome before (λ bytes. GoesTo one two mid [] bytes here)
    → IfSome before (λ bytes. GoesTo one new ended [] bytes now)
skipped_if one two new mid ended None here now same lasts keeps goes = tt
skipped_if one two new mid ended (Some bytes) None now same lasts keeps goes = grind arith
skipped_if one two new mid ended (Some bytes) (Some unread) now same lasts keeps goes =
    grind (arith, still_going)

-- ---- what a read of the first line says of the unread bytes. Serves the reader.

-- a line of `len` bytes that lets `taken` go is the first of the unread ones
from_read : (old new : Lines) (taken : ℕ) (said : Said)
    → ((left : Option (List ℕ)) → IfSome (unread old left)
    (λ bytes. TakesLine (place_of old) said bytes old.ended (unread_of (drop taken old.buffer) old.ended left)))
    → new.buffer ≡ drop taken old.buffer → new.ended ≡ old.ended → (left : Option (List ℕ))
    → IfSome (unread old left)
    (λ bytes. TakesLine (place_of old) said bytes new.ended (unread new left))
from_read old new taken said takes rest ended left = grind arith

-- a line that ends at a newline
pub line_at : (old new : Lines) (k : ℕ) (said : Said) → BreaksAt old.buffer k
    → said ≡ reading old.limit (old.count + 1) old.mode (take k old.buffer)
    → (Continues said → new.buffer ≡ drop (k + 1) old.buffer) → new.ended ≡ old.ended
    → Continues said → (left : Option (List ℕ)) → IfSome (unread old left)
    (λ bytes. TakesLine (place_of old) said bytes new.ended (unread new left))
line_at old new k said breaks says rest ended goes_on =
    from_read old new (k + 1) said (λ left. takes_line (place_of old) said old.buffer old.ended _ k breaks (sym says)) (rest goes_on) ended

-- the last line, which is all that there is
pub line_last : (old new : Lines) (len : ℕ) (said : Said) → len ≡ length old.buffer → ¬ (len ≡ 0)
    → IsOpenEnded old.buffer old.ended
    → said ≡ reading old.limit (old.count + 1) old.mode (take len old.buffer)
    → (Continues said → new.buffer ≡ drop len old.buffer) → new.ended ≡ old.ended
    → Continues said → (left : Option (List ℕ)) → IfSome (unread old left)
    (λ bytes. TakesLine (place_of old) said bytes new.ended (unread new left))
line_last old new len said all some unended says rest ended goes_on =
    let more : 0 < length old.buffer = omega arith in
    let here : reading old.limit (old.count + 1) old.mode (take (length old.buffer) old.buffer) ≡ said =
    ap (λ n. reading old.limit (old.count + 1) old.mode (take n old.buffer)) (sym all) ∙ sym says in
    elim unended.why [
      | inl at_end ↦ from_read old new (length old.buffer) said
          (λ left. takes_last (place_of old) said old.buffer old.ended left at_end unended.unbroken more here)
          (rest goes_on ∙ ap (λ n. drop n old.buffer) all) ended
      | inr long ↦ absurd (long_fails (place_of old) old.buffer said long here goes_on)
    ]

-- the first of the unread lines
pub first_at : (old : Lines) (k : ℕ) (said : Said) (left : Option (List ℕ)) → BreaksAt old.buffer k
    → said ≡ reading old.limit (old.count + 1) old.mode (take k old.buffer)
    → IfSome (unread old left) (λ bytes. MeetsLine (place_of old) said bytes)
first_at old k said left breaks says = meets_line (place_of old) said old.buffer _ k breaks (sym says)

-- the first of the unread lines, which is all that there is, or begins with too many bytes
pub first_last : (old : Lines) (len : ℕ) (said : Said) (left : Option (List ℕ))
    → len ≡ length old.buffer → ¬ (len ≡ 0) → IsOpenEnded old.buffer old.ended
    → said ≡ reading old.limit (old.count + 1) old.mode (take len old.buffer)
    → IfSome (unread old left) (λ bytes. MeetsLine (place_of old) said bytes)
first_last old len said left all some unended says = grind (arith, meets_last)
