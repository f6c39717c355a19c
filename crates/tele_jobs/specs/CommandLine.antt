-- The command line of the program, in `clap`'s terms: which arguments it rejects, and what the
-- others mean.
use Rattle.std.specs.Prelude.{ℕ, ◌-◌, ◌^◌, ◌==◌, Bool, not, List, [], ◌∷◌, length, codes, Option, Some, option_map, unwrap_or}
use Rattle.std.specs.Str.Parse.{digits_value, without_leading_plus}
use Rattle.clap.specs.Words.{App, Rule, Row, Text, new_app, new_rule, with_rule, matches_of, first_of, fault_of}
use Rattle.clap.specs.declared.builder.action.ArgAction.TheVariants.{Set}
use Rattle.clap.specs.declared.builder.value_parser.ValueParser.TheVariants.{Unsigned}
use Rattle.tele_jobs.specs.declared.options.Options.{Options}

-- an option with one value, a number from one to another, both included
abbrev pub number_option : Text → ℕ → ℕ → Rule
number_option name low high =
    record (new_rule name) { long = Some name; action = Some Set; parser = Some (Unsigned low high) }

-- the command, with its options on workers and words
abbrev pub sized : App
sized =
    with_rule (with_rule (new_app (codes "tele"))
    (number_option (codes "workers") 1 64))
    (number_option (codes "words") 64 268435456)

-- the command, with its five options
abbrev pub tele : App
tele =
    with_rule (with_rule (with_rule sized
    (number_option (codes "generate") 0 1048576))
    (number_option (codes "seed") 0 (2 ^ 64 - 1)))
    (number_option (codes "steal") 0 1)

-- the arguments with the program's name first; an empty list becomes only the name
abbrev pub with_name : List Text → List Text
with_name [] = codes "tele" ∷ []
with_name (word ∷ words) = word ∷ words

-- whether `clap` rejects the arguments for a cause other than lack of memory
abbrev pub are_refused : List Text → Bool
are_refused words = not (length (fault_of tele (with_name words)) == 0)

-- the number that a text gives in digits; a plus may precede them
abbrev pub number_said : Text → ℕ
number_said text = digits_value 10 (without_leading_plus text)

-- the number that was found for the option of this name
abbrev pub option_value : Text → List Row → Option ℕ
option_value name rows = option_map number_said (first_of name rows)

-- the options by what `clap` found in the arguments; workers steal if the number is 1
abbrev pub options_at : List Row → Options
options_at rows = record {
  workers = unwrap_or (option_value (codes "workers") rows) 4;
  words = unwrap_or (option_value (codes "words") rows) 33554432;
  generate = option_value (codes "generate") rows;
  seed = unwrap_or (option_value (codes "seed") rows) 1;
  steal = unwrap_or (option_value (codes "steal") rows) 0 == 1;
}

-- what the arguments ask for
abbrev pub options_in : List Text → Options
options_in words = options_at (matches_of tele (with_name words))
