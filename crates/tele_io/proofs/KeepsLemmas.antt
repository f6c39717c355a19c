-- The known bytes of a stream after two steps, the first of which kept them. Serves `read_on` and
-- `write_on`, and whoever passes on what was written.
use Rattle.std.proofs.Common.{ℕ, List, [], Option, Some, None, subst, arith}
use Rattle.tele_io.specs.Bytes.{Keeps, GivesBytes, Appends, AppendsPart}
use Rattle.tele_io.proofs.AppendsLemmas.{Appends-nothing, AppendsPart-nothing}

-- what was kept twice was kept
pub keeps_keeps : (before middle now : Option (List ℕ))
    → Keeps before middle → Keeps middle now → Keeps before now
keeps_keeps None middle now kept more = tt
keeps_keeps (Some bytes) middle now kept more = subst (λ m. Keeps m now) kept more

-- a read after a step that kept the bytes gives what a read from the start gives
pub keeps_gives : (before middle now : Option (List ℕ)) (n : ℕ) (buffer : List ℕ)
    → Keeps before middle → GivesBytes middle now n buffer → GivesBytes before now n buffer
keeps_gives None middle now n buffer kept given = tt
keeps_gives (Some bytes) middle now n buffer kept given = grind arith

-- a write after a step that kept the bytes appends to what was there at the start
pub keeps_appends : (before middle now : Option (List ℕ)) (bytes : List ℕ)
    → Keeps before middle → Appends middle now bytes → Appends before now bytes
keeps_appends None middle now bytes kept taken = tt
keeps_appends (Some start) middle now bytes kept taken = subst (λ m. Appends m now bytes) kept taken

-- what was appended before was kept
pub appends_keeps : (before middle now : Option (List ℕ)) (bytes : List ℕ)
    → Appends before middle bytes → Keeps middle now → Appends before now bytes
appends_keeps None middle now bytes taken kept = tt
appends_keeps (Some start) None now bytes taken kept = absurd (cc taken)
appends_keeps (Some start) (Some xs) now bytes taken kept = cc (taken, kept)

-- or a part of it
pub part_keeps : (before middle now : Option (List ℕ)) (bytes : List ℕ)
    → AppendsPart before middle bytes → Keeps middle now → AppendsPart before now bytes
part_keeps before middle now bytes part kept = grind (arith, appends_keeps)

-- nothing was written
pub appends_none : (before now : Option (List ℕ)) → Keeps before now → Appends before now []
appends_none before now kept = appends_keeps before before now [] (Appends-nothing before) kept

-- so a part of anything was
pub part_none : (before now : Option (List ℕ)) (bytes : List ℕ)
    → Keeps before now → AppendsPart before now bytes
part_none before now bytes kept =
    part_keeps before before now bytes (AppendsPart-nothing before bytes) kept
