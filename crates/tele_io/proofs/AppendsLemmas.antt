-- What is appended in parts. Serves `write_whole`, and whoever appends one text after another.
use Rattle.std.proofs.Common.{◌≡◌, ℕ, ◌+◌, ◌-◌, ◌≤◌, List, [], ◌++◌, length, take, drop, Option, Some, None, Result, Ok, Err, OnOk, sym, ◌∙◌, ap, subst, append_assoc, take_all, arith}
use Rattle.std.specs.Prelude.{OnErr}
use Rattle.std.proofs.lemmas.List.{take_rest, length-drop, append-nil, length-append, take-append-le}
use Rattle.std.proofs.Math.Seq.{take-add, take-append-add}
use Rattle.tele_io.specs.Bytes.{Appends, AppendsPart}

-- the first t bytes, and then n of those after them, are the first t + n
pub Appends-take-add : (before middle now : Option (List ℕ)) (bytes : List ℕ) (t n : ℕ)
    → Appends before middle (take t bytes)
    → Appends middle now (take n (take (length bytes - t) (drop t bytes)))
    → Appends before now (take (t + n) bytes)
Appends-take-add None middle now bytes t n first next = tt
Appends-take-add (Some xs) None now bytes t n first next = absurd (cc first)
Appends-take-add (Some xs) (Some ys) now bytes t n first next = let here = rw take_rest at next in
    rw (take-add t n bytes, ← append_assoc) (cc (first, here))

-- how many bytes follow the first t
pub length-take_rest : (bytes : List ℕ) (t : ℕ)
    → length (take (length bytes - t) (drop t bytes)) ≡ length bytes - t
length-take_rest bytes t = simp (take_rest, length-drop)

pub ruleset appends = (Appends-take-add, length-take_rest)

-- nothing was appended
pub Appends-nothing : (before : Option (List ℕ)) → Appends before before []
Appends-nothing (Some bytes) = ap Some (sym (append-nil bytes))
Appends-nothing None = tt

-- one piece, and then another
pub Appends-append : (before middle now : Option (List ℕ)) (first second : List ℕ)
    → Appends before middle first → Appends middle now second → Appends before now (first ++ second)
Appends-append None middle now first second a b = tt
Appends-append (Some bytes) middle now first second a b =
    let second_is : now ≡ Some ((bytes ++ first) ++ second) =
    subst (λ m. Appends m now second) a b in
    second_is ∙ ap Some (append_assoc {A = ℕ} bytes first second)

-- nothing is a part of anything
pub AppendsPart-nothing : (before : Option (List ℕ)) (bytes : List ℕ)
    → AppendsPart before before bytes
AppendsPart-nothing before bytes = (0, omega arith, Appends-nothing before)

-- one piece, and then a part of what follows it
pub AppendsPart-append : (before middle now : Option (List ℕ)) (first second : List ℕ)
    → Appends before middle first → AppendsPart middle now second
    → AppendsPart before now (first ++ second)
AppendsPart-append before middle now first second a part = let n = part.0 in
    let fits : length first + n ≤ length (first ++ second) =
    omega (arith, length-append first second, part.1) in (
      length first + n,
      fits,
      subst (Appends before now) (sym (take-append-add first second n))
          (Appends-append before middle now first (take n second) a part.2),
    )

-- a part of the front is a part of the whole
pub AppendsPart-longer : (before now : Option (List ℕ)) (first second : List ℕ)
    → AppendsPart before now first → AppendsPart before now (first ++ second)
AppendsPart-longer before now first second part = grind (arith, length-append, take-append-le)

-- all bytes of a piece were taken
pub whole_of_all : {E : Type 0} (r : Result Unit E) (before now : Option (List ℕ)) (bytes : List ℕ) (n : ℕ)
    → OnOk r (n ≡ length bytes) → Appends before now (take n bytes) → OnOk r (Appends before now bytes)
whole_of_all (Ok x) before now bytes n all taken =
    subst (Appends before now) (take_all n bytes (omega (arith, all))) taken
whole_of_all (Err e) before now bytes n all taken = tt

-- or some of them
pub part_of_some : {E : Type 0} (r : Result Unit E) (before now : Option (List ℕ)) (bytes : List ℕ) (n : ℕ)
    → n ≤ length bytes → Appends before now (take n bytes) → OnErr r (AppendsPart before now bytes)
part_of_some (Ok x) before now bytes n within taken = tt
part_of_some (Err e) before now bytes n within taken = (n, within, taken)

-- what was written whole was written in part
pub AppendsPart-whole : (before now : Option (List ℕ)) (bytes : List ℕ)
    → Appends before now bytes → AppendsPart before now bytes
AppendsPart-whole before now bytes whole = (
  length bytes,
  omega arith,
  subst (Appends before now) (sym (take_all (length bytes) bytes (omega arith))) whole,
)
