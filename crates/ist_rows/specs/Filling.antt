-- Words that a caller has stored into its rows.
use Rattle.std.specs.Prelude.{◌≡◌, ℕ, ◌+◌, ◌<◌, List, [], ◌∷◌, length, slice_get, Some}
use Rattle.ist_rule.specs.declared.view.OwnWord.{OwnWord}
use Rattle.ist_rule.specs.Rule.{own_at}
use Rattle.ist_rows.specs.declared.callers.Caller.{Caller}

-- the own words after these are stored one after another, from the place on
abbrev pub storing_all : List OwnWord → ℕ → List ℕ → List OwnWord
storing_all own place [] = own
storing_all own place (word ∷ words) =
    storing_all (record { place = place; word = word } ∷ own) (place + 1) words

-- the caller with other own words
abbrev pub with_own : Caller → List OwnWord → Caller
with_own who own =
    record who { token = record who.token { view = record who.token.view { own = own } } }

-- the caller once it has stored these words from the base on; nothing else of it has changed
abbrev pub filled_with : Caller → ℕ → List ℕ → Caller
filled_with who base words = with_own who (storing_all who.token.view.own base words)

-- the own words hold these words from the base on
abbrev pub StandAt : List OwnWord → ℕ → List ℕ → Type 0
StandAt own base words =
    (k : ℕ) → k < length words → slice_get words k ≡ Some (own_at own (base + k))
