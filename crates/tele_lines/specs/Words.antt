-- Where a word begins.
use Rattle.std.specs.Prelude.{◌≡◌, ℕ, false, List, [], ◌∷◌}
use Rattle.tele_lines.specs.Lines.{is_blank}

-- there is no byte, or the first isn't blank
abbrev pub BeginsWord : List ℕ → Type 0
BeginsWord [] = Unit {0}
BeginsWord (byte ∷ bytes) = is_blank byte ≡ false
