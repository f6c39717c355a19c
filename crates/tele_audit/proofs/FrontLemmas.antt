-- What the bytes that were taken from a source say of all that it had. Serves `audits.audit`.
use Rattle.std.proofs.Common.{◌≡◌, ℕ, ◌+◌, ◌*◌, ◌≤◌, nat_lt, Bool, true, false, if◌then◌else◌, List, [], ◌++◌, length, drop, Option, Some, None, IfSome, sym, ap, ◌∙◌, subst, arith, ⊎_elim}
use Rattle.std.proofs.lemmas.Bool.Decides.{nat_tests}
use Rattle.std.proofs.lemmas.Option.{IfSome_then}
use Rattle.std.proofs.lemmas.List.{take-append-le, length-append, append-nil}
use Rattle.tele_audit.specs.declared.flaws.Flaw.{Flaw}
use Rattle.tele_audit.specs.declared.flaws.Flaw.TheVariants.{Magic, Short, Size, Used, Long, Anchor, Row}
use Rattle.tele_audit.specs.Flaws.{number_encoded, used_told, dump_length, head_flaw, length_flaw, flaw_before_rows, IsFirstFlaw}
use Rattle.tele_audit.specs.Taking.{TakesBytes, AreEnough, Extends}
use Rattle.tele_audit.proofs.DumpLemmas.{count_front, used_front, good_head, good_length}

-- ---- flaws before the rows

-- the flaw names no row
abbrev pub NamesNoRow : Flaw → Type 0
NamesNoRow (Row place) = ⊥
NamesNoRow Magic = Unit {0}
NamesNoRow Short = Unit {0}
NamesNoRow Size = Unit {0}
NamesNoRow Used = Unit {0}
NamesNoRow Long = Unit {0}
NamesNoRow Anchor = Unit {0}

-- a flaw that some flaw is
plain_is : (flaw other : Flaw) → NamesNoRow flaw → Some flaw ≡ Some other → NamesNoRow other
plain_is flaw other p e = let same : flaw ≡ other = cc in subst NamesNoRow same p

-- what the tests of the head name
abbrev head_by : Bool → Bool → Bool → Bool → Bool → Option Flaw
head_by m s z t u =
    if m then (if s then Some Short else (if z then Some Size else (if t then Some Short else
    (if u then Some Used else None)))) else Some Magic

plain_head : (m s z t u : Bool) (flaw : Flaw) → head_by m s z t u ≡ Some flaw → NamesNoRow flaw
plain_head false s z t u flaw e = plain_is Magic flaw tt e
plain_head true true z t u flaw e = plain_is Short flaw tt e
plain_head true false true t u flaw e = plain_is Size flaw tt e
plain_head true false false true u flaw e = plain_is Short flaw tt e
plain_head true false false false true flaw e = plain_is Used flaw tt e
plain_head true false false false false flaw e = absurd (cc)

-- what the tests of the length name
abbrev length_by : Bool → Bool → Option Flaw
length_by a b = if a then Some Short else (if b then Some Long else None)

plain_length : (a b : Bool) (flaw : Flaw) → length_by a b ≡ Some flaw → NamesNoRow flaw
plain_length true b flaw e = plain_is Short flaw tt e
plain_length false true flaw e = plain_is Long flaw tt e
plain_length false false flaw e = absurd (cc)

-- a flaw before the rows is the first
first_is : (bytes : List ℕ) (flaw : Flaw) → NamesNoRow flaw → flaw_before_rows bytes ≡ Some flaw
    → IsFirstFlaw bytes flaw
first_is bytes Magic p e = e
first_is bytes Short p e = e
first_is bytes Size p e = e
first_is bytes Used p e = e
first_is bytes Long p e = e
first_is bytes Anchor p e = e
first_is bytes (Row place) p e = absurd p

first_of_head : (bytes : List ℕ) (flaw : Flaw) → head_flaw bytes ≡ Some flaw
    → IsFirstFlaw bytes flaw
first_of_head bytes flaw e = grind (arith, first_is, plain_head)

first_of_length : (bytes : List ℕ) (flaw : Flaw) → head_flaw bytes ≡ None
    → length_flaw bytes ≡ Some flaw → IsFirstFlaw bytes flaw
first_of_length bytes flaw h e = grind (arith, first_is, plain_length)

-- ---- more bytes

-- a number of a list and of a longer one are on one side of a bound
same_side : (n m bound : ℕ) → bound ≤ n → n ≤ m → nat_lt m bound ≡ nat_lt n bound
same_side n m bound a b = grind (arith, nat_tests)

-- the head is determined by its first 24 bytes
pub head_front : (xs ys : List ℕ) → 24 ≤ length xs → head_flaw (xs ++ ys) ≡ head_flaw xs
head_front xs ys long =
    grind (arith, length-append, take-append-le, same_side, count_front, used_front)

-- bytes past the end are too many, however many follow
long_front : (xs ys : List ℕ) → 24 ≤ length xs → dump_length (used_told xs) + 1 ≤ length xs
    → (length_flaw xs ≡ Some Long) × (length_flaw (xs ++ ys) ≡ Some Long)
long_front xs ys long more = grind (arith, length-append, used_front, nat_tests)

-- ---- from what was taken to all bytes

-- if nothing is left, all was taken
all_taken : (rest taken bytes : List ℕ) (now : Option (List ℕ)) → now ≡ Some rest
    → taken ++ rest ≡ bytes → now ≡ Some [] → taken ≡ bytes
all_taken rest taken bytes now is same end = grind (arith, append-nil)

-- a fact on the bytes taken first, followed by those left then, is a fact on all bytes
pub from_taken : (P : List ℕ → Type 0) (start mid : Option (List ℕ)) (taken : List ℕ)
    → TakesBytes start mid [] taken → IfSome mid (λ left. P (taken ++ left)) → IfSome start P
from_taken P None mid taken h k = tt
from_taken P (Some bytes) mid taken h k = grind arith

-- a flaw of the head of what was taken is the first flaw
pub head_flaw_of_all : (start now : Option (List ℕ)) (taken : List ℕ) (flaw : Flaw)
    → TakesBytes start now [] taken → IfSome start (λ _. AreEnough now 24 taken)
    → head_flaw taken ≡ Some flaw → IfSome start (λ bytes. IsFirstFlaw bytes flaw)
head_flaw_of_all None now taken flaw h enough e = tt
head_flaw_of_all (Some bytes) now taken flaw h enough e = ⊎_elim
    (λ long. subst (λ xs. IsFirstFlaw xs flaw) h.2
    (first_of_head (taken ++ h.0) flaw (head_front taken h.0 long ∙ e)))
    (λ end. subst (λ xs. IsFirstFlaw xs flaw) (all_taken h.0 taken bytes now h.1 h.2 end)
    (first_of_head taken flaw e))
    enough

-- a flaw of the length of what was taken is the first flaw
pub length_flaw_of_all : (mid now : Option (List ℕ)) (taken more : List ℕ) (flaw : Flaw)
    → TakesBytes mid now taken more
    → IfSome mid (λ _. AreEnough now (dump_length (used_told more) + 1) more)
    → head_flaw more ≡ None → length_flaw more ≡ Some flaw
    → IfSome mid (λ left. IsFirstFlaw (taken ++ left) flaw)
length_flaw_of_all None now taken more flaw k enough head e = tt
length_flaw_of_all (Some left) now taken more flaw k enough head e =
    let long = (good_head more head).long in ⊎_elim
    (λ past. let both = long_front more k.0 long past in
    let which : Some Long ≡ Some flaw = sym both.0 ∙ e in subst (λ xs. IsFirstFlaw xs flaw) k.2
    (first_of_length (more ++ k.0) flaw (head_front more k.0 long ∙ head)
    (both.1 ∙ which)))
    (λ end. subst (λ xs. IsFirstFlaw xs flaw)
    (all_taken k.0 more (taken ++ left) now k.1 k.2 end) (first_of_length more flaw head e))
    enough

-- bytes of the right length are all bytes
pub all_of_length : (mid now : Option (List ℕ)) (taken more : List ℕ)
    → TakesBytes mid now taken more
    → IfSome mid (λ _. AreEnough now (dump_length (used_told more) + 1) more)
    → length_flaw more ≡ None → IfSome mid (λ left. (more ≡ taken ++ left) × (now ≡ Some []))
all_of_length None now taken more k enough e = tt
all_of_length (Some left) now taken more k enough e = let exact = good_length more e in ⊎_elim
    (λ past. absurd (omega arith))
    (λ end. (all_taken k.0 more (taken ++ left) now k.1 k.2 end, end))
    enough

-- more bytes after a good head
module _ (taken more : List ℕ) (extends : Extends taken more) (head : head_flaw taken ≡ None) where
  -- the head of the longer bytes is good too
  pub extended_head : head_flaw more ≡ None
  extended_head = grind (arith, head_front, good_head)

  -- the longer bytes give the same number of used words
  pub extended_used : used_told more ≡ used_told taken
  extended_used = ap used_told extends.1 ∙ used_front taken extends.0 (good_head taken head).long

-- ---- the second step of an audit

-- what is known of bytes that were taken after a good head: the used words are read from the first
-- bytes, and the flaw of the length is found from all that were taken
pub record Reaches (mid now : Option (List ℕ)) (taken more first second : List ℕ) (used : ℕ)
    (found : Option Flaw) : Type 0 where
  pub head : head_flaw taken ≡ None
  pub takes : TakesBytes mid now taken more
  pub extends : Extends taken more
  pub enough : IfSome mid (λ _. AreEnough now (16 + 8 * used + 1) more)
  pub first_is : first ≡ taken
  pub used_is : used ≡ number_encoded (drop 16 first)
  pub second_is : second ≡ more
  pub found_is : found ≡ length_flaw second

module _ {mid now : Option (List ℕ)} {taken more first second : List ℕ} {used : ℕ}
    {found : Option Flaw} (h : Reaches mid now taken more first second used found) where
  head_more : head_flaw more ≡ None
  head_more = extended_head taken more h.extends h.head

  used_more : used ≡ used_told more
  used_more = h.used_is ∙ ap (λ xs. number_encoded (drop 16 xs)) h.first_is
      ∙ sym (extended_used taken more h.extends h.head)

  enough_more : IfSome mid (λ _. AreEnough now (dump_length (used_told more) + 1) more)
  enough_more = grind (arith, used_more)

  -- a flaw that was found is the first flaw of all bytes
  pub reached_flaw : (flaw : Flaw) → found ≡ Some flaw
      → IfSome mid (λ left. IsFirstFlaw (taken ++ left) flaw)
  reached_flaw flaw is = grind (arith, length_flaw_of_all, enough_more, head_more)

  -- if no flaw was found, all bytes were taken
  reached_all : found ≡ None → IfSome mid (λ left. (more ≡ taken ++ left) × (now ≡ Some []))
  reached_all is = grind (arith, all_of_length, enough_more)

  -- then what is so of the bytes that were taken is so of all
  pub reached_so : (Q : List ℕ → Type 0) → found ≡ None → Q more → IfSome mid (λ left. Q (taken ++ left))
  reached_so Q is q = grind (arith, IfSome_then, reached_all)

  -- and nothing is left
  pub reached_end : found ≡ None → IfSome mid (λ _. now ≡ Some [])
  reached_end is = IfSome_then _ {Q = λ _. now ≡ Some []} (reached_all is) (λ left p. p.1)
