-- How many words of a tree are left, for a pass that looks at them, and who took them.
use Rattle.std.specs.Prelude.{◌≡◌, ℕ, ◌+◌, ◌≤◌, ◌⊎◌}
use Rattle.ist_core.specs.declared.events.Who.TheVariants.{Caller}
use Rattle.ist_core.specs.Authors.{GoesOnBy, Later, whose}
use Rattle.ist_core.specs.Logs.{Log}
use Rattle.ist_core.specs.Spending.{reserved_by, spent}
use Rattle.ist_rows.specs.Taken.{taken_by}
use Rattle.ist_tree.specs.Faces.{PassFace}

-- in what the pass has seen, all words of the tree but this many are spent
abbrev pub HasLeft : PassFace → ℕ → Type 0
HasLeft p left = spent p.tree.start p.seen + left ≡ p.tree.words

-- the pass has made no event in the call: all that it has seen since is by others
abbrev pub HasMadeNone : PassFace → PassFace → Type 0
HasMadeNone p q = Later (Caller p.number) p.seen q.seen

-- between these logs only the pass took words: each event is its own, or takes none
abbrev pub TakesAlone : PassFace → Log → Log → Type 0
TakesAlone p = GoesOnBy (λ event. (whose event ≡ Caller p.number) ⊎ (reserved_by event ≡ 0))

-- between what these passes have seen the pass took at most this many words
abbrev pub TakesAtMost : PassFace → PassFace → ℕ → Type 0
TakesAtMost p q n = taken_by p.number q.seen ≤ taken_by p.number p.seen + n
