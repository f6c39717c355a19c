-- The change that the samples install.
use Rattle.std.specs.Prelude.{ℕ, [], ◌∷◌}
use Rattle.ist_core.specs.Pieces.{Leaf, row_at}
use Rattle.ist_core.specs.References.{Empty, LeafAt, word_of}
use Rattle.ist_core.specs.RowLayout.{anchor}
use Rattle.ist_core.specs.Statuses.{undecided, put_kind}
use Rattle.ist_dcss.specs.Installing.{Filling}

-- a caller's put of a value at the key 1 into the anchor's empty slot, with its leaf at a base
abbrev pub sample_put : (owner leaf value : ℕ) → Filling
sample_put owner leaf value =
    record {
      change = record {
        decision = undecided;
        kind = put_kind;
        node = anchor;
        index = 0;
        from = word_of Empty;
        to = word_of (LeafAt leaf);
        owner = owner;
        key = 1;
        value = value;
      };
      fresh = row_at leaf (Leaf record { key = 1; value = value }) ∷ [];
    }
