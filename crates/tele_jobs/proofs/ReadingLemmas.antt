-- What a run has read of its source. Serves the loop over lines.
use Rattle.std.proofs.Common.{◌≡◌, ℕ, Bool, true, false, List, [], ◌∷◌, ◌++◌, refl, sym, ◌∙◌, ap, subst, arith, inl, inr, append-nil, append_assoc}
use Rattle.std.specs.Prelude.{Option, Some, None, IfSome, IsSome}
use Rattle.tele_lines.specs.declared.reader.Lines.{Lines}
use Rattle.tele_lines.specs.Lines.{newline, whole_lines}
use Rattle.tele_lines.specs.Answer.{exit_status, input_lines}
use Rattle.tele_lines.specs.Buffers.{unread_of, TellsEndOf}
use Rattle.tele_lines.specs.Progress.{place_of, version_of, read_at, unread, GoesTo, ShowsBad, TakesLast, TakesAsNeeded}
use Rattle.tele_lines.proofs.PlaceLemmas.{still_going}
use Rattle.tele_lines.proofs.SparingLemmas.{taken_twice}
use Rattle.tele_jobs.specs.Causes.{ReachesBad, ReadsSparingly}
use Rattle.tele_jobs.specs.Open.{Open, asked}
use Rattle.tele_jobs.specs.Due.{Moment, moment_of, RunsTo}
use Rattle.tele_jobs.proofs.AnswerLemmas.{status-asked}
use Rattle.tele_jobs.proofs.ToldLemmas.{first_moment}

-- nothing was read
pub reads_none : (all : Option (List ℕ)) → IfSome all (λ bytes. ReadsSparingly bytes all)
reads_none None = tt
reads_none (Some bytes) = record {
  before = [];
  piece = [];
  rest = bytes;
  same = refl;
  leaves = refl;
  few = omega arith;
  good = refl;
}

module _ (bytes : List ℕ) (before written : Option (List ℕ)) (round : Open)
    (lines : Lines) (rest : List ℕ) (now : Option (List ℕ)) where
  -- a read of a reader that has kept these bytes
  reads_more : (ended : Bool)
      → RunsTo first_moment bytes before written ended (unread_of lines.buffer ended (Some rest))
      (moment_of lines round) → ReadsSparingly bytes (Some rest) → ended ≡ false
      → TakesLast (place_of lines) lines.buffer rest now → ReadsSparingly bytes now
  reads_more true one a going last = absurd (cc going)
  reads_more false one a going last = let is : rest ≡ a.rest = let e = a.leaves in cc e in
      let taken = a.before ++ a.piece in
      let same : bytes ≡ taken ++ rest =
      a.same ∙ sym (append_assoc {A = ℕ} a.before a.piece a.rest) ∙ ap (λ xs. taken ++ xs) (sym is) in
      let twice = taken_twice [] bytes lines.buffer rest taken one.taken one.bytes same one.same one.leaves in
      let more = lines.buffer ++ last.before in record {
        before = taken ++ last.before;
        piece = last.piece;
        rest = last.rest;
        same = same ∙ ap (λ xs. taken ++ xs) last.same
            ∙ sym (append_assoc {A = ℕ} taken last.before (last.piece ++ last.rest));
        leaves = last.left;
        few = last.few;
        good = ap (λ xs. exit_status (input_lines (whole_lines xs)))
            (ap (λ xs. xs ++ last.before) twice ∙ append_assoc {A = ℕ} one.taken lines.buffer last.before)
            ∙ one.whole_status refl more
            ∙ ap (λ ls. exit_status (asked (version_of lines) round.tasks ++ ls)) last.waits
            ∙ status-asked (version_of lines) round.tasks [];
      }

-- the source was read as the reader needed it, also if its bytes aren't known
pub reads_on_if : (all before written : Option (List ℕ)) (round : Open)
    (lines : Lines) (left now : Option (List ℕ))
    → IfSome all (λ bytes. RunsTo first_moment bytes before written lines.ended (unread lines left)
    (moment_of lines round))
    → IfSome all (λ bytes. ReadsSparingly bytes left)
    → IfSome left (λ bytes. TakesAsNeeded (place_of lines) lines.buffer lines.ended bytes now)
    → IfSome all (λ bytes. ReadsSparingly bytes now)
reads_on_if None before written round lines left now one a needed = tt
reads_on_if (Some bytes) before written round lines None now one a needed = grind arith
reads_on_if (Some bytes) before written round lines (Some rest) now one a (inl none) = grind arith
reads_on_if (Some bytes) before written round lines (Some rest) now one a (inr some) =
    reads_more bytes before written round lines rest now lines.ended one a some.0 some.1

-- a bad line that was met at a moment of the run
reached_at : (bytes : List ℕ) (before written : Option (List ℕ)) (round : Open)
    (lines new : Lines) (here now : Option (List ℕ)) (ended : Bool)
    → RunsTo first_moment bytes before written lines.ended (unread lines here) (moment_of lines round)
    → (lines.ended ≡ true → ended ≡ true) → IfSome (unread lines here)
    (λ unread. GoesTo (place_of lines) (place_of new) ended [] unread (unread_of new.buffer ended now))
    → ShowsBad (place_of new) new.buffer ended → TellsEndOf ended now → ReachesBad bytes now
reached_at bytes before written round lines new here None ended one lasts goes shown end =
    let told = end.told in absurd (cc told)
reached_at bytes before written round lines new here (Some rest) true one lasts goes shown end =
    let none : rest ≡ [] = let e = end.none refl in cc e in record {
      taken = bytes;
      rest = rest;
      same = sym (append-nil bytes) ∙ ap (λ xs. bytes ++ xs) (sym none);
      leaves = refl;
      shown = inl none;
    }
reached_at bytes before written round lines new here (Some rest) false one lasts goes (inl never) end =
    absurd (cc never)
reached_at bytes before written round lines new here (Some rest) false one lasts goes (inr bad) end =
    let met : GoesTo (place_of lines) (place_of new) false [] one.bytes (Some (new.buffer ++ rest)) =
    subst (λ u. IfSome u (λ unread. GoesTo (place_of lines) (place_of new) false [] unread
    (Some (new.buffer ++ rest)))) one.leaves goes in
    let left : new.buffer ++ rest ≡ met.rest = let e = met.left in cc e in
    let last = new.buffer ++ newline ∷ [] in
    let open_lines = asked (version_of lines) round.tasks in
    let going : lines.ended ≡ false = still_going lines.ended false lasts refl in
    let taken = one.taken ++ (met.taken ++ new.buffer) in record {
      taken = taken;
      rest = rest;
      same = one.same ∙ ap (λ xs. one.taken ++ xs) (met.same ∙ ap (λ xs. met.taken ++ xs) (sym left)
          ∙ sym (append_assoc {A = ℕ} met.taken new.buffer rest))
          ∙ sym (append_assoc {A = ℕ} one.taken (met.taken ++ new.buffer) rest);
      leaves = refl;
      shown = inr (ap (λ xs. exit_status (input_lines (whole_lines xs)))
          (append_assoc {A = ℕ} one.taken (met.taken ++ new.buffer) (newline ∷ [])
          ∙ ap (λ xs. one.taken ++ xs) (append_assoc {A = ℕ} met.taken new.buffer (newline ∷ [])))
          ∙ one.whole_status going (met.taken ++ last)
          ∙ ap (λ ls. exit_status (open_lines ++ ls)) (met.whole refl last)
          ∙ status-asked (version_of lines) round.tasks (read_at (place_of new) (whole_lines last))
          ∙ bad);
    }

-- also if the source's bytes aren't known
pub reached_if : (all before written : Option (List ℕ)) (round : Open)
    (lines new : Lines) (here now : Option (List ℕ)) (ended : Bool)
    → IfSome all (λ bytes. RunsTo first_moment bytes before written lines.ended (unread lines here)
    (moment_of lines round))
    → (lines.ended ≡ true → ended ≡ true) → IfSome (unread lines here)
    (λ unread. GoesTo (place_of lines) (place_of new) ended [] unread (unread_of new.buffer ended now))
    → ShowsBad (place_of new) new.buffer ended → (IsSome all → TellsEndOf ended now)
    → IfSome all (λ bytes. ReachesBad bytes now)
reached_if None before written round lines new here now ended one lasts goes shown end = tt
reached_if (Some bytes) before written round lines new here now ended one lasts goes shown end =
    reached_at bytes before written round lines new here now ended one lasts goes shown (end refl)
