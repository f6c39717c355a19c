-- Which version is in force after a line. Serves the reading of lines.
use Rattle.std.proofs.Common.{◌≡◌, ℕ, ◌&&◌, Bool, true, false, List, [], ◌∷◌, refl, sym, subst, ◌∙◌, arith}
use Rattle.std.specs.Prelude.{Option, Some, None, IsSome, Result, Ok, Err, if◌then◌else◌}
use Rattle.tele_lines.specs.declared.items.Cause.{Cause}
use Rattle.tele_lines.specs.declared.items.Item.{Item}
use Rattle.tele_lines.specs.declared.items.Version.{Version}
use Rattle.tele_lines.specs.declared.items.Said.{Said}
use Rattle.tele_lines.specs.Readings.{Mode, next_mode, by_letter, by_words, asks_one, asks_two, is_note, letter_of, reading}

-- a line leaves the version in force
abbrev KeepsVersion : Version → Said → Type 0
KeepsVersion version said = next_mode (Some version) said ≡ Some version

-- one of two lines
either : (v : Version) (b : Bool) (x y : Said) → KeepsVersion v x → KeepsVersion v y → KeepsVersion v (if b then x else y)
either v true x y one other = one
either v false x y one other = other

-- one of two lines, of which the first isn't chosen
second : (v : Version) (b : Bool) (x y : Said) → KeepsVersion v y → KeepsVersion v (if b && false then x else y)
second v true x y other = other
second v false x y other = other

asks_one-keeps : (v : Version) (item : ℕ → Item) (r : Result ℕ Cause) → KeepsVersion v (asks_one item r)
asks_one-keeps v item (Ok x) = refl
asks_one-keeps v item (Err cause) = refl

asks_two-keeps : (v : Version) (item : ℕ → ℕ → Item) (r : Result (ℕ × ℕ) Cause) → KeepsVersion v (asks_two item r)
asks_two-keeps v item (Ok p) = refl
asks_two-keeps v item (Err cause) = refl

by_letter-keeps : (v : Version) (letter : Option ℕ) (more : List (List ℕ)) → KeepsVersion v (by_letter (Some v) letter more)
by_letter-keeps v None more = refl
by_letter-keeps v (Some letter) more = grind (arith, either, asks_two-keeps, asks_one-keeps, second)

by_words-keeps : (v : Version) (words : List (List ℕ)) → KeepsVersion v (by_words (Some v) words)
by_words-keeps v [] = refl
by_words-keeps v (word ∷ more) = either v (is_note word) _ _ refl (by_letter-keeps v (letter_of word) more)

-- no line changes the version that is in force
pub reading-keeps : (limit number : ℕ) (mode : Mode) (line : List ℕ) → IsSome mode
    → next_mode mode (reading limit number mode line) ≡ mode
reading-keeps limit number None line some = absurd (cc some)
reading-keeps limit number (Some v) line some = grind (arith, either, by_words-keeps)

-- the version stays over two lines if it stays over each
pub steady_twice : (one two three : Mode) → (IsSome one → two ≡ one) → (IsSome two → three ≡ two) → IsSome one → three ≡ one
steady_twice one two three first second some = second (subst IsSome (sym (first some)) some) ∙ first some
