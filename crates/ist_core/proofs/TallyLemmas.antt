-- The count of a row is the number of its Counts, and few changes are decided yes. Serves
-- `laws.counts_are_low`.
use Rattle.std.proofs.Common.{ℕ, ◌+◌, ◌≤◌, ◌==◌, if◌then◌else◌, List, [], ◌∷◌, refl, arith}
use Rattle.std.proofs.lemmas.Bool.Decides.{eqb_tells}
use Rattle.ist_core.specs.Types.{Pair, Event, Count, Mark, Finish, Root, Draw}
use Rattle.ist_core.specs.WordTerms.{Pieces, Piece, Leaf, Inner, Change, Rebuild, changed_at, counted, start}
use Rattle.ist_core.specs.LogTerms.{Log, EachEnabled, state_of}
use Rattle.ist_core.proofs.OptionLemmas.{changed_at-some}
use Rattle.ist_core.proofs.ParentLemmas.{NumberAtMost, number_in, number_kept, start_fresh}
use Rattle.ist_core.proofs.FieldLemmas.{LeavesField, status_same, root_same, draw_same}
use Rattle.ist_core.proofs.CountLemmas.{counts}

-- the count of a row, or 0 if it isn't an inner row
abbrev count_in : Piece → ℕ
count_in = number_in (λ n. n) (λ _. 0)

counted_more : (p : Piece) → count_in (counted p) ≤ count_in p + 1
counted_more (Inner r) = omega arith
counted_more (Leaf r) = omega arith
counted_more (Change r) = omega arith
counted_more (Rebuild r) = omega arith

module _ (node : ℕ) where
  -- the row at the node counts at most this many
  abbrev CountsAtMost : Pieces → ℕ → Type 0
  CountsAtMost ps most = NumberAtMost count_in node ps most

  most_counted : (ps : Pieces) (at most : ℕ) → CountsAtMost ps most
      → CountsAtMost (changed_at ps at counted) (if at == node then most + 1 else most)
  most_counted ps at most old q e = grind (arith, eqb_tells, changed_at-some, counted_more)

  -- an event other than a Count keeps the bound
  kept : (pairs : List Pair) (words : ℕ) (event : Event) (log : Log)
      → LeavesField count_in event → EachEnabled (start pairs words) (event ∷ log)
      → CountsAtMost (state_of pairs words log).pieces (counts node log)
      → CountsAtMost (state_of pairs words (event ∷ log)).pieces (counts node log)
  kept ps w event log = number_kept (λ n. n) (λ _. 0) refl refl ps w log node (counts node log)
      event

  most_step : (pairs : List Pair) (words : ℕ) (event : Event) (log : Log)
      → EachEnabled (start pairs words) (event ∷ log)
      → CountsAtMost (state_of pairs words log).pieces (counts node log)
      → CountsAtMost (state_of pairs words (event ∷ log)).pieces (counts node (event ∷ log))
  unfolding counts
  most_step ps w (Count c at) log h = most_counted (state_of ps w log).pieces at (counts node log)
  most_step ps w (Draw c r i) log h = grind (arith, kept, draw_same)
  most_step ps w (Mark c at) log h = grind (arith, kept, status_same)
  most_step ps w (Finish c at keys) log h = grind (arith, kept, status_same)
  most_step ps w (Root c r word rows) log h = kept ps w (Root c r word rows) log
      (root_same (λ _ n. n) (λ _ _. 0) 0 (λ _ _ _. refl) word) h
  most_step ps w event log h = kept ps w event log tt h

  -- the count of a row is at most the number of its Counts
  pub count_at_most : (pairs : List Pair) (words : ℕ) (log : Log)
      → EachEnabled (start pairs words) log
      → CountsAtMost (state_of pairs words log).pieces (counts node log)
  count_at_most ps w [] h = start_fresh (λ n. n) (λ _. 0) refl refl ps w (counts node []) node
  count_at_most ps w (event ∷ log) h = most_step ps w event log h (count_at_most ps w log h.0)
