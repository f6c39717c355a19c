-- A tree that is frozen stays so, with its pairs; and which trees are frozen at a moment. Serves
-- the laws of this crate, `freeze` and `frozen_pair`.
use Rattle.std.proofs.Common.{◌≡◌, ℕ, List, [], ◌∷◌, length, map, Some, refl, sym, ap, ◌∙◌, subst, arith, le_refl}
use Rattle.std.specs.List.Sorted.{IsStrictlyIncreasing}
use Rattle.std.proofs.Math.Seq.{take-length}
use Rattle.std.proofs.lemmas.List.{length-map}
use Rattle.ist_core.specs.declared.pairs.Pair.{Pair}
use Rattle.ist_core.specs.TreeTerms.{changes_of, map_after_entries, AllGrow, HasLeaves, PlacedLeaf, leaf_here, none_here, pair_of, IsChild, map_of, pairs_of, IsFinishedWith}
use Rattle.ist_core.specs.LogTerms.{Lawful, state_of, GoesOn, Log, Snapshot}
use Rattle.ist_core.specs.WordTerms.{Ref, Empty, LeafAt, anchor, logical}
use Rattle.ist_core.proofs.AllLogLemmas.{grow_between, leaf_there, finished_leaves_stay}
use Rattle.ist_core.proofs.AllPlaceLemmas.{reached, same_leaves}
use Rattle.laws_calls.proofs.FinishLemmas.{finished_rise, frozen_pairs}
use Rattle.laws_histories.specs.Telling.{map_now}
use Rattle.laws_histories.proofs.ContentLemmas.{contents_at}
use Rattle.ist_layout.specs.Meanings.{ref_meant}
use Rattle.ist_layout.specs.declared.references.Ref.TheVariants.{Inner}
use Rattle.laws_links.proofs.FormLemmas.{finished_with_grows}
use Rattle.laws_links.proofs.ContentLemmas.{finished_leaves}
use Rattle.ist_tree.specs.CallTerms.{Frozen, HasFrozenPairs, HasItsPairs, IsFrozenIn, IsStill, WasFrozen, all_keys, no_key, one_key}
use Rattle.laws_histories.proofs.ChangeLemmas.{map_at_on}
use Rattle.ist_tree.proofs.FindingLemmas.{changes_rise}

-- ---- what is frozen stays so

-- what no step changes stays so while rows grow
pub still_stays : (t u : Snapshot) → AllGrow t.pieces u.pieces → (ref : Ref) (keys : ℕ)
    → IsStill t ref keys → IsStill u ref keys
still_stays t u g _ _ no_key = no_key
still_stays t u g _ _ (one_key base row e) =
    one_key base row (leaf_there t.pieces u.pieces g base row e)
still_stays t u g _ _ (all_keys base keys f) =
    all_keys base keys (finished_with_grows t u g base keys f)

-- so a frozen tree stays frozen
pub frozen_stays : (pairs : List Pair) (words : ℕ) (earlier log : Log) → Lawful pairs words log
    → GoesOn earlier log → (frozen : Frozen) → IsFrozenIn pairs words earlier frozen
    → IsFrozenIn pairs words log frozen
frozen_stays pairs words earlier log l on frozen f = grind (arith, still_stays, grow_between)

-- with its leaves
still_leaves_stay : (pairs : List Pair) (words : ℕ) (earlier log : Log) → Lawful pairs words log
    → GoesOn earlier log → (ref : Ref) (keys : ℕ) → IsStill (state_of pairs words earlier) ref keys
    → (leaves : List PlacedLeaf) → HasLeaves (state_of pairs words earlier).pieces (Some ref) leaves
    → HasLeaves (state_of pairs words log).pieces (Some ref) leaves
still_leaves_stay pairs words earlier log l on _ _ no_key leaves has =
    subst (HasLeaves (state_of pairs words log).pieces (Some Empty))
    (sym (reached (state_of pairs words earlier).pieces (Some Empty) leaves has)) none_here
still_leaves_stay pairs words earlier log l on _ _ (one_key base row e) leaves has =
    let ps = (state_of pairs words earlier).pieces in let qs = (state_of pairs words log).pieces in
    let grow = grow_between pairs words earlier log l.enabled on in
    let it = reached ps (Some (LeafAt base)) leaves has in
    subst (HasLeaves qs (Some (LeafAt base))) (sym it.2)
    (leaf_here it.0 (leaf_there ps qs grow base it.0 it.1))
still_leaves_stay pairs words earlier log l on _ _ (all_keys base keys f) leaves has =
    finished_leaves_stay pairs words l.opens earlier log on l.enabled base leaves (keys, f) has

-- so with its pairs
pub frozen_pairs_stay : (pairs : List Pair) (words : ℕ) (earlier log : Log)
    → Lawful pairs words log → GoesOn earlier log → (frozen : Frozen) (found : List Pair)
    → IsFrozenIn pairs words earlier frozen → HasFrozenPairs pairs words earlier frozen found
    → HasFrozenPairs pairs words log frozen found
frozen_pairs_stay pairs words earlier log l on frozen found f h =
    grind (arith, reached, still_leaves_stay)

-- ---- its pairs

-- mapping twice
map_twice : {A B C : Type 0} (f : A → B) (g : B → C) (xs : List A)
    → map g (map f xs) ≡ map (λ x. g (f x)) xs
map_twice f g [] = refl
map_twice f g (x ∷ xs) = ap (λ ys. g (f x) ∷ ys) (map_twice f g xs)

-- the leaves below what no step changes: as many as it has keys, rising by key
pub record HasItsLeaves (t : Snapshot) (ref : Ref) (keys : ℕ) : Type 0 where
  pub leaves : List PlacedLeaf
  pub below : HasLeaves t.pieces (Some ref) leaves
  pub number : length leaves ≡ keys
  pub rising : IsStrictlyIncreasing (map (λ leaf. leaf.row.key) leaves)

none_rise : IsStrictlyIncreasing []
none_rise k less = absurd (omega arith)

-- a reference that no step changes has its leaves
pub still_leaves : (pairs : List Pair) (words : ℕ) (log : Log) → Lawful pairs words log
    → (ref : Ref) (keys : ℕ) → IsStill (state_of pairs words log) ref keys
    → HasItsLeaves (state_of pairs words log) ref keys
still_leaves pairs words log l _ _ no_key =
    record { leaves = []; below = none_here; number = refl; rising = none_rise }
still_leaves pairs words log l _ _ (one_key base row e) = record {
  leaves = record { base = base; row = row } ∷ [];
  below = leaf_here row e;
  number = refl;
  rising = λ k less. absurd (omega arith);
}
still_leaves pairs words log l _ _ (all_keys base keys f) =
    let it = finished_leaves pairs words l.opens log l.enabled base keys f in record {
      leaves = it.0;
      below = it.1;
      number = it.2;
      rising = finished_rise pairs words l.opens log l.enabled base it.0 (keys, f) it.1;
    }

-- the pairs of rising leaves rise
pub pairs_rise : (leaves : List PlacedLeaf)
    → IsStrictlyIncreasing (map (λ leaf. leaf.row.key) leaves)
    → IsStrictlyIncreasing (map (λ (pair : Pair). pair.key) (map pair_of leaves))
pairs_rise leaves rise = grind (arith, map_twice)

-- a frozen tree has pairs
pub has_its_pairs : (pairs : List Pair) (words : ℕ) (log : Log) → Lawful pairs words log
    → (frozen : Frozen) → IsFrozenIn pairs words log frozen → HasItsPairs pairs words log frozen
has_its_pairs pairs words log l frozen f =
    let it = still_leaves pairs words log l (ref_meant frozen.root) frozen.keys f in record {
      found = map pair_of it.leaves;
      has = record { leaves = it.leaves; reached = it.below; pairs_are = refl };
      number = length-map it.leaves pair_of ∙ it.number;
      rising = pairs_rise it.leaves it.rising;
    }

-- a frozen tree has at most one list of pairs
pub frozen_pairs_are_one : (pairs : List Pair) (words : ℕ) (log : Log) (frozen : Frozen)
    (found others : List Pair) → HasFrozenPairs pairs words log frozen found
    → HasFrozenPairs pairs words log frozen others → found ≡ others
frozen_pairs_are_one pairs words log frozen found others a b = grind (arith, same_leaves)

-- ---- what was frozen

-- what was frozen between two logs was frozen between an earlier one and a later one
pub was_frozen_on : (pairs : List Pair) (words : ℕ) (first earlier log longer : Log)
    → Lawful pairs words longer → GoesOn first earlier → GoesOn log longer → (frozen : Frozen)
    → WasFrozen pairs words earlier log frozen → WasFrozen pairs words first longer frozen
was_frozen_on pairs words first earlier log longer l before following frozen w =
    grind (arith, changes_rise, frozen_stays, frozen_pairs_stay, map_at_on)

-- what the anchor's slot reads as, and no step changes, has the pairs of the map
pub top_was_frozen : (pairs : List Pair) (words : ℕ) (log : Log) → Lawful pairs words log
    → (frozen : Frozen)
    → logical (state_of pairs words log).pieces (state_of pairs words log).anchor
    ≡ Some (ref_meant frozen.root)
    → IsFrozenIn pairs words log frozen → WasFrozen pairs words log log frozen
top_was_frozen pairs words log l frozen reads f = let t = state_of pairs words log in
    let all = contents_at pairs words l.opens log l.enabled in
    let entries = changes_of pairs words log in record {
      frozen_is = f;
      found = pairs_of (map_now pairs words log);
      has = record {
        leaves = all.leaves;
        reached = subst (λ o. HasLeaves t.pieces o all.leaves) reads all.reached;
        pairs_are = all.pairs_are;
      };
      were = record {
        position = length entries;
        from = le_refl (length entries);
        to = le_refl (length entries);
        pairs_are = ap (λ es. pairs_of (map_after_entries (map_of pairs) es)) (sym (take-length entries));
      };
    }

-- a finished row that was the anchor's child in an earlier log has the pairs that the map had since
pub row_was_frozen : (pairs : List Pair) (words : ℕ) (at log : Log) → Lawful pairs words log
    → GoesOn at log → (frozen : Frozen) (target : ℕ)
    → IsChild (state_of pairs words at) anchor 0 target → frozen.root ≡ Inner target
    → IsFinishedWith (state_of pairs words log) target frozen.keys
    → WasFrozen pairs words at log frozen
row_was_frozen pairs words at log l on frozen target child root f =
    let t = state_of pairs words log in
    let it = finished_leaves pairs words l.opens log l.enabled target frozen.keys f in
    let meant = ap ref_meant root in record {
      frozen_is = subst (λ ref. IsStill t ref frozen.keys) (sym meant)
          (all_keys target frozen.keys f);
      found = map pair_of it.0;
      has = record {
        leaves = it.0;
        reached = subst (λ ref. HasLeaves t.pieces (Some ref) it.0) (sym meant) it.1;
        pairs_are = refl;
      };
      were = frozen_pairs pairs words l.opens at log on l.enabled target 0 it.0 child
          (frozen.keys, f) it.1;
    }
