-- Rebuilds by what their targets are finished with. Serves `single.rt`.
use Rattle.std.proofs.Common.{◌≡◌, ◌↔◌, ◌≤◌, ◌<◌, ◌⊎◌, ℕ, IsTrue, true, false, leb, Some, sym, subst, inl, inr, arith, map, ◌∙◌, List, [], ◌∷◌, ◌++◌}
use Rattle.std.proofs.lemmas.Bool.Decides.{leb_tells}
use Rattle.std.specs.Ordering.{nat_cmp}
use Rattle.ist_core.specs.declared.states.RebuildRow.{RebuildRow}
use Rattle.ist_core.specs.declared.pairs.Pair.{Pair}
use Rattle.ist_core.specs.declared.events.Event.{Event}
use Rattle.ist_core.specs.WordTerms.{Rebuild, share_from, share_from_is, Change, start}
use Rattle.ist_core.specs.LogTerms.{Snapshot, Among}
use Rattle.ist_core.specs.TreeTerms.{IsFinishedWith, PlacedLeaf, IsCalled, as_target, as_child, after_rebuild, IsStarted}
use Rattle.ist_core.proofs.AllWordLemmas.{same_rebuild}
use Rattle.check_fairness.specs.Answers.{FindsOne}
use Rattle.check_events.specs.declared.replicas.Replica.{Replica}
use Rattle.check_events.specs.Mirroring.{Mirrors}
use Rattle.check_events.proofs.DecisionLemmas.{rebuild_stands}
use Rattle.ist_check.specs.Published.{HasRebuild, IsFinishedSo}
use Rattle.std.specs.BTreeMap.{BTreeMap}
use Rattle.std.specs.BTreeSet.{BTreeSet}
use Rattle.std.specs.Global.{Vec}
use Rattle.check_events.specs.declared.pasts.BuildTable.{BuildTable}
use Rattle.check_events.specs.declared.pasts.LastUpdate.{LastUpdate}
use Rattle.check_fairness.specs.declared.lists.BuildingLists.{BuildingLists}
use Rattle.check_events.specs.Remembering.{LacksCount, KnowsOkays, KnowsCalls, KnowsDraws, KnowsPasses, KnowsUpdates, KnowsRefusals, KnowsStarts, KnowsBuilds, KnowsLeaves}
use Rattle.check_fairness.specs.Targets.{IsTargeted, KnowsTargets}
use Rattle.check_fairness.specs.Knowing.{KnowsLists, HasNone}
use Rattle.check_fairness.proofs.AnswerLemmas.{finds_none}
use Rattle.check_fairness.proofs.KeepingLemmas.{none_kept}
use Rattle.check_builds.proofs.TableLemmas.{holds_none}
use Rattle.laws_links.proofs.ComesLemmas.{start_quiet}
use Rattle.std.specs.BTreeMap as tree

-- the code's number of keys from which a root is shared is the definition's
pub shared_from : (k : ℕ) → IsTrue (leb 256 k) ↔ (share_from ≤ k)
shared_from k = at (leb_tells 256 k)
  where
    at : ((leb 256 k ≡ true) × (256 ≤ k)) ⊎ ((leb 256 k ≡ false) × (k < 256))
        → IsTrue (leb 256 k) ↔ (share_from ≤ k)
    at (inl p) = let from = share_from_is in let low = p.1 in ((λ _. omega arith), (λ _. p.0))
    at (inr p) = let from = share_from_is in let low = p.1 in
        ((λ y. absurd (cc (p.0))), (λ l. absurd (omega arith)))

-- the rebuild that the replica has at the base
module _ (s : Replica) (t : Snapshot) (base : ℕ) (row : RebuildRow) (mirrors : Mirrors s t)
    (found : Some row ≡ tree.get nat_cmp s.rebuilds base) (P : ℕ → Type 0) where
  -- it is published
  stands : t.pieces base ≡ Some (Rebuild row)
  stands = rebuild_stands s t base mirrors row (sym found)

  -- with what a rebuild's target is finished, this one's is
  finished : (it : HasRebuild t base (λ r. IsFinishedSo t r P)) → IsFinishedWith t row.target it.says.0
  finished it = grind (arith, same_rebuild, stands)

  -- if its target isn't finished, no number of keys is asked about
  pub unfinished : ((k : ℕ) → ¬ (IsFinishedWith t row.target k))
      → ¬ (HasRebuild t base (λ r. IsFinishedSo t r P))
  unfinished none it = none it.says.0 (finished it)

  -- if its target is finished with this number of keys, what remains is what is asked of the number
  pub finished_so : (keys : ℕ) → FindsOne (λ k. IsFinishedWith t row.target k) (Some keys)
      → P keys ↔ HasRebuild t base (λ r. IsFinishedSo t r P)
  finished_so keys one = grind (arith, stands, finished)

-- ---- the tables of a new table: nothing happened yet. Serves `remembering.rt`.

-- the empty set has the okays of the empty log
pub no_okays : (set : BTreeSet ℕ) → set.keys ≡ [] → KnowsOkays set []
no_okays set empty change = (λ h. holds_none set change empty h, λ h. absurd h)

-- the empty map has the draws of the empty log
pub no_draws : (m : BTreeMap ℕ ℕ) → m.entries ≡ [] → KnowsDraws m []
no_draws m empty caller rebuild _ _ = grind (arith, finds_none)

-- the empty map has the passes of the empty log
pub no_passes : (m : BTreeMap ℕ ℕ) → m.entries ≡ [] → KnowsPasses m []
no_passes m empty node i word _ _ = grind (arith, finds_none)

-- the empty table has the builds of the empty log
pub no_builds : (builds : BuildTable) → builds.last.entries ≡ [] → builds.since.entries ≡ []
    → KnowsBuilds builds []
no_builds builds none empty = grind (arith, finds_none)

module _ (pairs : List Pair) (words : ℕ) where
  unstarted : (rebuild : ℕ) → ¬ (IsStarted (start pairs words) rebuild)
  unstarted rebuild it = start_quiet pairs words it.base (Change it.change) it.published

  -- the empty set has the started rebuilds of a new table
  pub no_starts : (set : BTreeSet ℕ) → set.keys ≡ [] → KnowsStarts set (start pairs words)
  no_starts set empty rebuild = (
    λ h. absurd (holds_none set rebuild empty h),
    λ h. absurd (unstarted rebuild h),
  )

  untargeted : (node : ℕ) → ¬ (IsTargeted (start pairs words) node)
  untargeted node it = unstarted it.rebuild it.started

  -- the empty set has the targets of started rebuilds of a new table
  pub no_targets : (set : BTreeSet ℕ) → set.keys ≡ [] → KnowsTargets set (start pairs words)
  no_targets set empty node = (
    λ h. absurd (holds_none set node empty h),
    λ it. absurd (untargeted node it),
  )

  -- empty building lists are those of a new table
  pub no_lists : (building : BuildingLists) → HasNone building → KnowsLists building (start pairs words)
  no_lists building none = record {
    keys = λ k. (
      λ h. absurd (holds_none building.counts k none.counts h),
      λ it. absurd (untargeted it.node it.targeted),
    );
    lists = λ l. (
      λ b. absurd (unstarted b.rebuild b.started),
      λ a. absurd (subst (λ xs. Among l (map (λ v. v.items) xs)) none.lists a),
    );
    shapes = λ n h. absurd (holds_none building.shapes n none.shapes h);
    kept = none_kept building.kept (map (λ v. v.items) building.lists.items) none.kept;
  }

  -- the empty set has the refusals of a new table
  pub no_refusals : (set : BTreeSet ℕ) → set.keys ≡ [] → KnowsRefusals set (start pairs words)
  no_refusals set empty caller node _ _ = (
    λ h. absurd (holds_none set _ empty h),
    λ it. absurd (start_quiet pairs words it.base (Change it.change) it.published),
  )

  -- the empty set has the called nodes of a new table
  pub no_calls : (set : BTreeSet ℕ) → set.keys ≡ [] → KnowsCalls set (start pairs words) []
  no_calls set empty node = (λ h. absurd (holds_none set node empty h), λ h. absurd (uncalled h))
    where
      uncalled : ¬ (IsCalled (start pairs words) [] node)
      uncalled (as_target rebuild _ started) = unstarted rebuild started
      uncalled (as_child _ _ _ h _) = h
      uncalled (after_rebuild _ _ _ _ h _ _) = h

  -- the empty map has the last updates of a new table
  pub no_updates : (m : BTreeMap ℕ LastUpdate) → m.entries ≡ [] → KnowsUpdates m (start pairs words)
      []
  no_updates m empty caller node base = (
    λ h. absurd (subst (λ o. LacksCount o node base) (finds_none m caller empty) h),
    λ it. absurd (longer it.later _ it.earlier it.log_is),
  )
    where
      longer : (a : List Event) (e : Event) (b : List Event) → [] ≡ a ++ e ∷ b → ⊥
      longer [] e b is = cc
      longer (x ∷ a) e b is = cc

-- no leaves are kept
pub no_leaves : (m : BTreeMap ℕ (Vec PlacedLeaf)) → m.entries ≡ [] → (t : Snapshot) → KnowsLeaves m t
no_leaves m empty t node leaves e = absurd (cc (sym (finds_none m node empty) ∙ e))
