-- How many words the trees of a map's life have, and why no further one is opened.
use Rattle.std.specs.Prelude.{◌≡◌, ℕ, ◌*◌, ◌<◌, ◌≤◌, max, min, if◌then◌else◌, nat_lt, List, [], ◌∷◌}
use Rattle.ist_core.specs.declared.pairs.Pair.{Pair}
use Rattle.ist_core.specs.RowLayout.{place_limit}
use Rattle.ist_rest.specs.RestingWords.{HoldPairs}
use Rattle.ist_tree.specs.declared.faults.OpenFault.{OpenFault}
use Rattle.ist_tree.specs.declared.faults.OpenFault.TheVariants as opening
use Rattle.ist_tree.specs.Opening.{words_for}
use Rattle.ist_reopen.specs.declared.faults.ReopenFault.{ReopenFault}
use Rattle.ist_reopen.specs.declared.faults.ReopenFault.TheVariants.{Beyond, Small, Memory}
use Rattle.ist_reopen.specs.Generations.{Generation}

-- how many words a tree of these pairs has if this many are asked for: as many, or as many as the
-- pairs take if these are more
abbrev pub words_for_tree : ℕ → List Pair → ℕ
words_for_tree asked pairs = max asked (words_for pairs)

-- how many words are asked for after a tree of this many: twice as many, or as many as a tree may
-- have if these are fewer; but after a tree of that many twice as many, which no tree has
abbrev pub words_after : ℕ → ℕ
words_after words = if nat_lt words place_limit then min place_limit (2 * words) else 2 * words

-- `asked` words are asked for the first tree, and for each other one what follows from the words of
-- the one before
abbrev pub HaveDoubled : ℕ → List Generation → Type 0
HaveDoubled asked [] = Unit {0}
HaveDoubled asked (g ∷ more) =
    (g.words ≡ words_for_tree asked g.start) × HaveDoubled (words_after g.words) more

-- how many words are asked for after these trees, or `asked` if there is none
abbrev pub asked_after : ℕ → List Generation → ℕ
asked_after asked [] = asked
asked_after asked (g ∷ more) = asked_after (words_after g.words) more

-- how many words the last of these trees has, or `asked` if there is none
abbrev pub last_words : ℕ → List Generation → ℕ
last_words asked [] = asked
last_words asked (g ∷ more) = last_words g.words more

-- why no tree is opened over the closed words if this many words are asked for: they are more than a
-- tree may have (`Beyond`), or the pairs take more than a tree may have (`Small`), or memory ran out
abbrev pub IsGrowFault : List ℕ → ℕ → ReopenFault → Type 0
IsGrowFault closed asked (Beyond given) = (given ≡ asked) × (place_limit < asked)
IsGrowFault closed asked (Small needed given) =
    (pairs : List Pair) × HoldPairs closed pairs × (needed ≡ words_for pairs) × (given ≡ asked)
    × (asked < needed) × (place_limit < needed)
IsGrowFault closed asked Memory = asked ≤ place_limit

-- why no tree of these pairs is opened: they take more words than a tree may have, or memory ran out
abbrev pub IsFirstFault : ℕ → List Pair → OpenFault → Type 0
IsFirstFault asked pairs (opening.Small needed given) =
    (needed ≡ words_for pairs) × (given ≡ asked) × (asked < needed) × (place_limit < needed)
IsFirstFault asked pairs opening.Memory = words_for_tree asked pairs ≤ place_limit
