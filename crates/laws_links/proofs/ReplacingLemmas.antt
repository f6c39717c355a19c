-- What a finish that is decided yes puts in its slot, before the event and after it. Serves
-- `laws.roots_are_ideal`.
use Rattle.std.proofs.Common.{List, Some, ap, subst, sym, true, ℕ, ◌∙◌, ◌∷◌, ◌≡◌, ◌≢◌}
use Rattle.ist_core.specs.declared.events.Event.TheVariants.{Decide}
use Rattle.ist_core.specs.declared.pairs.Pair.{Pair}
use Rattle.ist_core.specs.declared.states.ChangeRow.{ChangeRow}
use Rattle.ist_core.specs.declared.states.RebuildRow.{RebuildRow}
use Rattle.ist_core.specs.LogTerms.{CanOpen, EachEnabled, state_of, Log}
use Rattle.ist_core.specs.WordTerms.{Change, Rebuild, RebuildAt, ref_of, unset_word, start, undecided}
use Rattle.ist_core.proofs.AllWordLemmas.{ref_of-unset, same_rebuild}
use Rattle.laws_links.proofs.LinkLemmas.{deciding}
use Rattle.laws_links.proofs.ReadLemmas.{decided_stands}
use Rattle.laws_links.proofs.NewTreeLemmas.{ideal_kept, ideal_set}
use Rattle.laws_links.proofs.WholeLemmas.{finish_is_whole, target_leaves_kept}
use Rattle.laws_links.specs.Replacing.{PutsIdealRoot}

module _ (pairs : List Pair) (words : ℕ) (opens : CanOpen pairs words) where
  -- the root of an undecided finish is ideal
  pub puts_ideal : (log : Log) → EachEnabled (start pairs words) log → (base : ℕ) (x : ChangeRow)
      → (state_of pairs words log).pieces base ≡ Some (Change x) → x.decision ≡ undecided
      → (rebuild : ℕ) (row : RebuildRow) → ref_of x.from ≡ Some (RebuildAt rebuild)
      → (state_of pairs words log).pieces rebuild ≡ Some (Rebuild row)
      → PutsIdealRoot (state_of pairs words log) x row
  puts_ideal log h base x e none rebuild row from there = let t = state_of pairs words log in
      let w = finish_is_whole pairs words opens log h base x e none rebuild from in
      let same = same_rebuild (t.pieces rebuild) w.row row w.published there in
      subst (λ r. PutsIdealRoot t x r) same
      record {
        root = w.to;
        ref = w.ref;
        root_is = ap ref_of (sym w.to) ∙ w.to_is;
        leaves = w.leaves;
        reached = w.reached;
        rows = w.rows;
        ideal = w.ideal;
      }

  -- this stays so after the yes
  pub puts_ideal_after : (log : Log) (caller base : ℕ)
      → EachEnabled (start pairs words) (Decide caller base true ∷ log)
      → (x : ChangeRow) (rebuild : ℕ) (row : RebuildRow)
      → (state_of pairs words log).pieces rebuild ≡ Some (Rebuild row)
      → row.root ≢ unset_word → PutsIdealRoot (state_of pairs words log) x row
      → PutsIdealRoot (state_of pairs words (Decide caller base true ∷ log)) x row
  puts_ideal_after log caller base h x rebuild row there set p = let t = state_of pairs words log in
      let u = state_of pairs words (Decide caller base true ∷ log) in record {
        root = p.root;
        ref = p.ref;
        root_is = p.root_is;
        leaves = p.leaves;
        reached =
            target_leaves_kept pairs words opens log (Decide caller base true) h rebuild row there set p.leaves p.reached;
        rows = p.rows;
        ideal =
            ideal_kept t.pieces u.pieces p.ref p.leaves row.target p.rows p.ideal (decided_stands pairs words log caller base true p.rows);
      }

  -- both hold when a finish is decided yes
  pub roots_are_ideal : (log : Log) (caller base : ℕ)
      → EachEnabled (start pairs words) (Decide caller base true ∷ log)
      → (x : ChangeRow) (rebuild : ℕ) (row : RebuildRow)
      → (state_of pairs words log).pieces base ≡ Some (Change x)
      → ref_of x.from ≡ Some (RebuildAt rebuild)
      → (state_of pairs words log).pieces rebuild ≡ Some (Rebuild row)
      → PutsIdealRoot (state_of pairs words log) x row × PutsIdealRoot (state_of pairs words (Decide caller base true ∷ log)) x row
  roots_are_ideal log caller base h x rebuild row e from there = let t = state_of pairs words log in
      let none = deciding pairs words opens log caller base true h x e in
      let p = puts_ideal log h.0 base x e none rebuild row from there in
      let set : row.root ≢ unset_word = λ k. ideal_set t.pieces p.ref p.leaves row.target p.rows p.ideal (cc (sym p.root_is ∙ ap ref_of k ∙ ref_of-unset)) in
      (p, puts_ideal_after log caller base h x rebuild row there set p)
