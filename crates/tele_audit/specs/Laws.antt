-- The laws on dumps. `src/laws.rt` lists them.
use Rattle.std.specs.Prelude.{◌≡◌, ℕ, ◌<◌, ◌^◌, List}
use Rattle.std.specs.List.{flat_map}
use Rattle.ist_core.specs.declared.pairs.Pair.{Pair}
use Rattle.ist_core.specs.Map.{Map, pairs_of, pairs_between, listed}
use Rattle.ist_rest.specs.WordRows.{word_at}
use Rattle.ist_rest.specs.RestingWords.{AreListed}
use Rattle.tele_lines.specs.declared.items.Version.TheVariants.{One}
use Rattle.tele_lines.specs.Answer.{pair_text}
use Rattle.tele_audit.specs.declared.flaws.Flaw.{Flaw}
use Rattle.tele_audit.specs.declared.jobs.Job.TheVariants.{Pack, Tell}
use Rattle.tele_audit.specs.declared.jobs.Question.TheVariants.{Between}
use Rattle.tele_audit.specs.declared.outcomes.TheConstants.{DONE}
use Rattle.tele_audit.specs.Dumps.{DumpContent, IsLawfulDump, dump_of}
use Rattle.tele_audit.specs.Flaws.{IsFirstFlaw}
use Rattle.tele_audit.specs.Packing.{Holds, left_by}
use Rattle.tele_audit.specs.Runs.{IsOwed}

-- a dump of lawful words has no flaw
abbrev pub LawfulDumpsHaveNoFlaw : Type 0
LawfulDumpsHaveNoFlaw =
    (bytes : List ℕ) (told : DumpContent) (flaw : Flaw) → IsLawfulDump bytes told
    → ¬ (IsFirstFlaw bytes flaw)

-- bytes have at most one first flaw
abbrev pub FirstFlawsAreOne : Type 0
FirstFlawsAreOne =
    (bytes : List ℕ) (flaw other : Flaw) → IsFirstFlaw bytes flaw → IsFirstFlaw bytes other
    → flaw ≡ other

-- a dump has only one possible report
abbrev pub DumpsTellOneThing : Type 0
DumpsTellOneThing =
    (bytes : List ℕ) (told other : DumpContent) → IsLawfulDump bytes told → IsLawfulDump bytes other
    → told ≡ other

-- the pairs of an interval by the dump of some words are those that the words hold
abbrev pub DumpsTellTheList : Type 0
DumpsTellTheList =
    (words : List ℕ) (told : DumpContent) (first last : ℕ) (found : List Pair)
    → ((place : ℕ) → word_at words place < 2 ^ 64)
    → IsLawfulDump (dump_of words) told → AreListed words first last found
    → found ≡ pairs_between first last told.pairs

-- the dump that `pack` writes is one of lawful words, and its pairs are those of the map that the
-- lines leave
abbrev pub PackedDumpsTellTheMap : Type 0
PackedDumpsTellTheMap =
    (bytes dump : List ℕ) (m : Map) → left_by bytes ≡ Holds m → IsOwed Pack bytes dump DONE
    → (told : DumpContent) × IsLawfulDump dump told × (told.pairs ≡ pairs_of m)

-- what `list` writes for the output of `pack` is the interval of the map that the lines leave
abbrev pub PackedLinesAreListed : Type 0
PackedLinesAreListed =
    (bytes dump text : List ℕ) (m : Map) (first last status : ℕ) → left_by bytes ≡ Holds m
    → IsOwed Pack bytes dump DONE → IsOwed (Tell (Between first last)) dump text status
    → (status ≡ DONE) × (text ≡ flat_map (pair_text One) (listed first last m))
