-- What holds of the texts that the command accepts for its options.
use Rattle.std.specs.Prelude.{◌-◌, ◌^◌, ◌<◌, codes, IfSome}
use Rattle.std.specs.Str.Parse.{IsNumeral, digits_value, without_leading_plus}
use Rattle.clap.specs.Values.{IsUnsignedIn}
use Rattle.clap.specs.Words.{Text, first_value}
use Rattle.clap.specs.declared.parser.matches.Found.{Found}

-- digits of a number below 2 ^ 64; a plus may precede them
abbrev pub IsNumber : Text → Type 0
IsNumber text =
    IsNumeral 10 (without_leading_plus text) × (digits_value 10 (without_leading_plus text) < 2 ^ 64)

-- each option that was found has a number in its range
pub record AreNumbers (found : Found) : Type 0 where
  pub workers : IfSome (first_value found (codes "workers")) (IsUnsignedIn 1 64)
  pub words : IfSome (first_value found (codes "words")) (IsUnsignedIn 64 268435456)
  pub generate : IfSome (first_value found (codes "generate")) (IsUnsignedIn 0 1048576)
  pub seed : IfSome (first_value found (codes "seed")) (IsUnsignedIn 0 (2 ^ 64 - 1))
  pub steal : IfSome (first_value found (codes "steal")) (IsUnsignedIn 0 1)
