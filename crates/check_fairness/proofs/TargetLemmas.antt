-- The building lists of a state are those for the numbers of keys with which targets of started rebuilds are finished. Serves
-- `lists.rt`.
use Rattle.std.proofs.Common.{◌≡◌, ◌↔◌, ◌≤◌, ◌⊎◌, ℕ, true, cond, List, map, refl, subst, inl, inr, ⊎_elim, arith}
use Rattle.std.proofs.lemmas.Bool.Decides.{eqb_tells}
use Rattle.std.proofs.lemmas.Grind.{common_steps}
use Rattle.std.specs.Ordering.{nat_cmp}
use Rattle.std.specs.BTreeMap.{is_at}
use Rattle.std.specs.BTreeSet.{BTreeSet, contains}
use Rattle.ist_core.specs.WordTerms.{share_from}
use Rattle.ist_core.specs.LogTerms.{Snapshot, IsBuild, IsBuilding}
use Rattle.check_fairness.specs.Answers.{Holds}
use Rattle.check_fairness.specs.Targets.{HasFinishedTarget, GainsKeys}
use Rattle.check_fairness.specs.Knowing.{KnowsLists}
use Rattle.check_fairness.specs.declared.lists.BuildingLists.{BuildingLists}
use Rattle.check_fairness.proofs.KeepingLemmas.{readings_stay}
use Rattle.check_fairness.specs.Builds.{AddsLists, HasShapes}
use Rattle.check_fairness.proofs.BuildLemmas.{listed_build, build_listed}

-- a set after an insertion
pub held_after : (old new : BTreeSet ℕ) (k q : ℕ)
    → contains nat_cmp new q ≡ cond (is_at (nat_cmp k) q) true (contains nat_cmp old q)
    → Holds new q ↔ (Holds old q ⊎ (q ≡ k))
held_after old new k q u = grind (arith, eqb_tells, common_steps)

-- a building list belongs to a number of keys with which a target is finished
building_of : (t : Snapshot) (l : List ℕ) → IsBuilding t l
    → (k : ℕ) × HasFinishedTarget t k × IsBuild k l
building_of t l b = grind arith

is_building : (t : Snapshot) (l : List ℕ) (k : ℕ) → HasFinishedTarget t k → IsBuild k l
    → IsBuilding t l
is_building t l k h b = grind arith

module _ (t u : Snapshot) (P : ℕ → Type 0) (gains : GainsKeys t u P) where
  -- if all numbers that are gained were there already, the lists stay as they are
  pub lists_stay : (lists : BuildingLists) → ((k : ℕ) → P k → HasFinishedTarget t k)
      → KnowsLists lists t → KnowsLists lists u
  lists_stay lists there known = record {
    keys = grind (arith, before);
    lists = λ l. (
      (λ b. let it = building_of u l b in
          (known.lists l).0 (is_building t l it.0 (before it.0 it.1) it.2)),
      (λ a. let it = building_of t l ((known.lists l).1 a) in
          is_building u l it.0 ((gains it.0).1 (inl it.1)) it.2),
    );
    shapes = known.shapes;
    kept = known.kept;
  }
    where
      before : (k : ℕ) → HasFinishedTarget u k → HasFinishedTarget t k
      before k f = ⊎_elim (λ h. h) (λ new. there k new) ((gains k).0 f)

-- if one number is gained, its lists are added
module _ (t u : Snapshot) (keys : ℕ) (gains : GainsKeys t u (λ k. k ≡ keys)) where
  -- if the number is there already, the lists stay right
  pub lists_known : (lists : BuildingLists) → Holds lists.counts keys → KnowsLists lists t
      → KnowsLists lists u
  lists_known lists has known = lists_stay t u (λ k. k ≡ keys) gains lists
      (λ k is. grind arith) known

  -- if the number and its lists are added, the lists are right
  pub lists_more : (old new : BuildingLists) → 2 ≤ share_from
      → ((k : ℕ) → Holds new.counts k ↔ (Holds old.counts k ⊎ (k ≡ keys)))
      → (HasShapes old.shapes (map (λ v. v.items) old.lists.items)
      → (AddsLists (map (λ v. v.items) old.lists.items) (map (λ v. v.items) new.lists.items) keys
      × HasShapes new.shapes (map (λ v. v.items) new.lists.items)))
      → new.kept ≡ old.kept → KnowsLists old t → KnowsLists new u
  lists_more old new two held come same known = let adds = (come known.shapes).0 in record {
    keys = grind arith;
    lists = λ l. (
      (λ b. let it = building_of u l b in (adds.among l).1
          (⊎_elim (λ o. inl ((known.lists l).0 (is_building t l it.0 o it.2)))
          (λ is. inr (build_listed keys l two (subst (λ k. IsBuild k l) is it.2)))
          ((gains it.0).0 it.1))),
      (λ a. ⊎_elim
          (λ o. let it = building_of t l ((known.lists l).1 o) in
          is_building u l it.0 ((gains it.0).1 (inl it.1)) it.2)
          (λ x. is_building u l keys ((gains keys).1 (inr refl)) (listed_build keys l x))
          ((adds.among l).0 a)),
    );
    shapes = (come known.shapes).1;
    kept = grind (arith, readings_stay);
  }
