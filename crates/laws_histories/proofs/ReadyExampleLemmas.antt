-- A table of three pairs, and what a put of it meets. Serves `examples`.
use Rattle.std.proofs.Common.{◌≡◌, ℕ, zero, suc, [], ◌∷◌, map, Some, arith, ◌<◌, ◌⊎◌, refl, inl, inr}
use Rattle.std.specs.List.Sorted.{IsStrictlyIncreasing}
use Rattle.ist_core.specs.declared.states.LeafRow.{LeafRow}
use Rattle.ist_core.specs.declared.states.InnerRow.{InnerRow}
use Rattle.ist_core.specs.declared.states.ChangeRow.{ChangeRow}
use Rattle.ist_core.specs.WordTerms.{degree, square_root, root_up_to, part_len, part_lens, ideal_words, ideal_words_within, LeafAt, ref_of, put_kind, Leaf, Inner, start}
use Rattle.ist_core.specs.LogTerms.{Snapshot, CanOpen, IsFair, at_end, from_right, no_build}
use Rattle.laws_histories.specs.ExampleRebuilds.{three_pairs}

-- the table at its start
abbrev pub three : Snapshot
three = start three_pairs 200

-- the keys are strictly increasing
rising : IsStrictlyIncreasing (map (λ pair. pair.key) three_pairs)
rising zero h = omega arith
rising (suc zero) h = omega arith
rising (suc (suc k)) h = absurd (omega arith)

-- the table may open
pub three_open : CanOpen three_pairs 200
unfolding ideal_words ideal_words_within degree square_root root_up_to part_len part_lens
three_open = record { rising = rising; room = omega arith; within = omega arith }

-- the put, with a decision
abbrev pub again : ℕ → ℕ → ℕ → ChangeRow
again from to decision = record {
  decision = decision;
  kind = put_kind;
  node = 11;
  index = 0;
  from = from;
  to = to;
  owner = 0;
  key = 10;
  value = 1;
}

-- the leaf of the put
abbrev pub ten : LeafRow
ten = record { key = 10; value = 1 }

-- the left row, with a status, a count and the word in its first slot
abbrev pub left : ℕ → ℕ → ℕ → InnerRow
left status count word = record {
  status = status;
  count = count;
  degree = 2;
  size = 2;
  keys = 20 ∷ [];
  slots = word ∷ 161 ∷ [];
}

-- the top row, with a status and the word in its first slot
abbrev pub top : ℕ → ℕ → InnerRow
top status word = record {
  status = status;
  count = 0;
  degree = 2;
  size = 3;
  keys = 30 ∷ [];
  slots = word ∷ 177 ∷ [];
}

-- the state before a put: both rows are as at the start, except for their counts, and the old leaf
-- is in the slot
pub record IsBeforePut (t : Snapshot) (leaf from old count : ℕ) : Type 0 where
  pub callers : t.callers ≡ 2
  pub next : t.next ≡ leaf
  pub words : t.words ≡ 200
  pub held : t.held ≡ []
  pub anchor : t.anchor ≡ 34
  pub top_row : t.pieces 4 ≡ Some (Inner (top 0 90))
  pub left_row : t.pieces 11 ≡ Some (Inner (left 0 count from))
  pub old_is : ref_of from ≡ Some (LeafAt old)
  pub old_leaf : t.pieces old ≡ Some (Leaf ten)

-- the state before a put, part by part
pub before_put : (t : Snapshot) (leaf from old count : ℕ) → t.callers ≡ 2 → t.next ≡ leaf
    → t.words ≡ 200 → t.held ≡ [] → t.anchor ≡ 34 → t.pieces 4 ≡ Some (Inner (top 0 90))
    → t.pieces 11 ≡ Some (Inner (left 0 count from)) → ref_of from ≡ Some (LeafAt old)
    → t.pieces old ≡ Some (Leaf ten) → IsBeforePut t leaf from old count
before_put t leaf from old count a b c d e f g h i = grind arith

-- ---- what the small logs' callers hold is fair. Serves `examples`.

-- two sizes differ
apart : (a b : ℕ) → a < b → (a ≡ b) ⊎ ⊥ → ⊥
apart a b h (inl e) = omega arith
apart a b h (inr e) = e

-- a leaf is fair
pub leaf_fair : (t : Snapshot) → IsFair t (2 ∷ [])
leaf_fair t = record {
  building = [];
  spare = 2 ∷ [];
  merge = from_right 2 at_end;
  builds = no_build;
  few = (inl refl, tt);
  one_each = ((λ k. k), tt);
}

-- a leaf and a change are fair
pub put_fair : (t : Snapshot) → IsFair t (2 ∷ 9 ∷ [])
put_fair t = record {
  building = [];
  spare = 2 ∷ 9 ∷ [];
  merge = from_right 2 (from_right 9 at_end);
  builds = no_build;
  few = (inl refl, (inr (inr (inr (inl refl))), tt));
  one_each = ((λ k. apart 2 9 (omega arith) k), ((λ k. k), tt));
}

-- a rebuild is fair
pub rebuild_fair : (t : Snapshot) → IsFair t (5 ∷ [])
rebuild_fair t = record {
  building = [];
  spare = 5 ∷ [];
  merge = from_right 5 at_end;
  builds = no_build;
  few = (inr (inl refl), tt);
  one_each = ((λ k. k), tt);
}

-- holding a pair row is fair
pub pair_fair : (t : Snapshot) → IsFair t (7 ∷ [])
pair_fair t = record {
  building = [];
  spare = 7 ∷ [];
  merge = from_right 7 at_end;
  builds = no_build;
  few = (inr (inr (inl refl)), tt);
  one_each = ((λ k. k), tt);
}

-- holding a change is fair
pub change_fair : (t : Snapshot) → IsFair t (9 ∷ [])
change_fair t = record {
  building = [];
  spare = 9 ∷ [];
  merge = from_right 9 at_end;
  builds = no_build;
  few = (inr (inr (inr (inl refl))), tt);
  one_each = ((λ k. k), tt);
}

-- holding a rebuild and a change is fair
pub start_fair : (t : Snapshot) → IsFair t (5 ∷ 9 ∷ [])
start_fair t = record {
  building = [];
  spare = 5 ∷ 9 ∷ [];
  merge = from_right 5 (from_right 9 at_end);
  builds = no_build;
  few = (inr (inl refl), (inr (inr (inr (inl refl))), tt));
  one_each = ((λ k. apart 5 9 (omega arith) k), ((λ k. k), tt));
}
