-- How many words a row of each kind has.
use Rattle.std.specs.Prelude.{ℕ}
use Rattle.ist_core.specs.RowLayout.{leaf_words, pair_words, change_words, rebuild_words}
use Rattle.ist_rows.specs.declared.kinds.Kind.{Kind}
use Rattle.ist_rows.specs.declared.kinds.Kind.TheVariants.{Leaf, Pair, Change, Rebuild}

-- how many words a row of this kind has
abbrev pub kind_words : Kind → ℕ
kind_words Leaf = leaf_words
kind_words Pair = pair_words
kind_words Change = change_words
kind_words Rebuild = rebuild_words
