use Rattle.tele_run.proofs.RanLemmas.{all_back, ran_on_table}
use Rattle.tele_run.proofs.trees.run_on_tree.Goals as goal

-- each pass of each lane was taken back
pub close-closed-requires-clause-all_back : goal.close-closed-requires-clause-all_back
close-closed-requires-clause-all_back g c = all_back _ _ _ _ _ _ _ c.in_ok-came.ensures.came

-- the words of the closed tree are the table's
pub returns : goal.returns
returns g c = record {
  ran = rw (← c.deref.ensures.value, ← c.deref-2.ensures.value)
      (ran_on_table _ _ _ _ _ _ _ _ _ _ _ c.in_ok-tree.ensures.new c.in_ok-came.ensures.came
      c.close-closed.ensures.words c.close-closed.ensures.stands);
}
