-- The numbers of a line. A signed number of version 2 is kept as a natural number greater by 2 ^
-- 63, which preserves the order.
use Rattle.std.specs.Prelude.{ℕ, ℤ, pos, ◌-ℤ◌, ◌+◌, ◌-◌, ◌*◌, ◌^◌, nat_eq, nat_lt, nat_le, ◌&&◌, Bool, if◌then◌else◌, List, length, drop, fold, codes, Option, Some, None, decimal}
use Rattle.std.specs.List.{list_all, starts_with}
use Rattle.std.specs.Char.{is_ascii_digit}
use Rattle.std.specs.Fmt.{signed_decimal}
use Rattle.tele_lines.specs.declared.items.Version.{Version}
use Rattle.tele_lines.specs.declared.items.Version.TheVariants.{One, Two}

-- the number that digits denote in base ten
abbrev pub value_of : List ℕ → ℕ
value_of digits = fold (λ value digit. value * 10 + (digit - 48)) 0 digits

-- one or more ASCII digits
abbrev pub is_numeral : List ℕ → Bool
is_numeral digits = nat_lt 0 (length digits) && list_all is_ascii_digit digits

-- the number that some bytes are, if they are a numeral below 2 ^ 64
abbrev pub numeral_value : List ℕ → Option ℕ
numeral_value bytes = if is_numeral bytes && nat_lt (value_of bytes) (2 ^ 64) then Some (value_of bytes) else None

-- by how much a kept number exceeds the signed number that it encodes
abbrev pub shift : ℕ
shift = 2 ^ 63

-- the signed number that a kept one encodes
abbrev pub signed_of : ℕ → ℤ
signed_of kept = pos kept -ℤ pos shift

-- what a minus and this number are kept as, if the number is at most 2 ^ 63
abbrev pub kept_below : Option ℕ → Option ℕ
kept_below (Some value) = if nat_le value shift then Some (shift - value) else None
kept_below None = None

-- what a number without a sign is kept as, if it is below 2 ^ 63
abbrev pub kept_above : Option ℕ → Option ℕ
kept_above (Some value) = if nat_lt value shift then Some (shift + value) else None
kept_above None = None

-- what a signed numeral is kept as: a minus and digits, or only digits
abbrev pub kept_value : List ℕ → Option ℕ
kept_value bytes = if starts_with nat_eq bytes (codes "-") then kept_below (numeral_value (drop 1 bytes)) else kept_above (numeral_value bytes)

-- the number that a word is in a version
abbrev pub number_in : Version → List ℕ → Option ℕ
number_in One word = numeral_value word
number_in Two word = kept_value word

-- how a number is printed in a version
abbrev pub number_text : Version → ℕ → List ℕ
number_text One kept = decimal kept
number_text Two kept = signed_decimal (signed_of kept)
