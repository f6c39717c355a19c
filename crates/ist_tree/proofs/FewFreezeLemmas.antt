-- How few words a freeze takes. Serves the functions that freeze a tree.
use Rattle.std.proofs.Common.{ℕ, ◌+◌, Option, Some, None, Result, Ok, Err, sym, subst, arith, ◌≡◌, ◌≢◌, ◌<◌, List, [], ◌∷◌, map, slice_get, refl, ap, ◌∙◌, zero, suc}
use Rattle.std.specs.List.{sum}
use Rattle.std.specs.Result.{result_err}
use Rattle.ist_core.specs.declared.ports.Full.{Full}
use Rattle.ist_core.specs.declared.pairs.Pair.{Pair}
use Rattle.ist_core.specs.declared.states.LeafRow.{LeafRow}
use Rattle.ist_core.specs.TreeTerms.{IsFinishedWith, HasLeaves, PlacedLeaf, leaf_here, pair_of}
use Rattle.ist_core.specs.WordTerms.{change_words, shape, Leaf, InnerAt, LeafAt, Ref}
use Rattle.ist_core.specs.LogTerms.{Snapshot, Each}
use Rattle.ist_rows.specs.RowTerms.{StaysReady, HasTakenFew, HasTakenFewIn, IsLaterCaller, took_few}
use Rattle.ist_rows.specs.declared.callers.Caller.{Caller}
use Rattle.ist_rows.proofs.FewLemmas.{later_went, few_low, few_more, few_out_more, few_wider}
use Rattle.ist_build.specs.Calls.{IsTold, IsLeafAmong}
use Rattle.ist_rebuild.specs.Needs.{TakesNeeded, needed}
use Rattle.ist_rebuild.proofs.NeedLemmas.{needed_most}
use Rattle.ist_tree.specs.CallTerms.{words_of_freeze, HasTakenFewUnless, IsRebuildOf, Rebuilds, Frozen, HasSeenMore, PassFace, IsFrozenFor, IsPairAt, IsStill, all_keys, no_key, one_key, IsLeafNumber, IsPassWith, face_as, pass_face}
use Rattle.std.specs.Option.{option_map}
use Rattle.std.specs.List.Sorted.{IsStrictlyIncreasing}
use Rattle.std.proofs.lemmas.Option.{slice_get-map, same_Some}
use Rattle.ist_core.proofs.AllLogLemmas.{leaf_there}
use Rattle.ist_core.proofs.AllPlaceLemmas.{same_leaves}
use Rattle.ist_find.specs.Searches.{SeesLeaf}
use Rattle.ist_find.proofs.ReadLemmas.{leaf_on}
use Rattle.ist_layout.specs.Meanings.{ref_meant}
use Rattle.ist_layout.specs.declared.references.Ref.TheVariants.{Change, Empty, Inner, Leaf as LeafRef, Rebuild, Unset}
use Rattle.laws_links.proofs.FinishedLemmas.{leaves_stand}
use Rattle.ist_rule.specs.RuleTerms.{TokenFace, GoesOnTo, now, IsSound}
use Rattle.ist_rule.specs.declared.view.View.{View}
use Rattle.ist_rule.proofs.LaterLemmas.{later-goes_on}
use Rattle.ist_rule.proofs.WentOnLemmas.{goes_on_grow}
use Rattle.ist_find.specs.Spans.{IsPairOf}
use Rattle.ist_tree.proofs.FreezingLemmas.{pairs_rise, still_leaves, still_stays}
use Rattle.ist_tree.proofs.GoingLemmas.{IsLaterView, goes_later, pass_with_later}
use Rattle.ist_tree.proofs.HeardLemmas.{heard_same}
use Rattle.ist_layout.specs.declared.references.Ref as layouts

-- ---- one part after another

-- a caller that rebuilt is a later state
pub after_ready : (old new : Caller) → StaysReady Rebuilds old new → IsLaterCaller old new
after_ready old new on = later_went Rebuilds old new on.gone.number on.gone.went

-- what a start took after steps that took only for one
pub few_met : (a b c : Caller) → StaysReady Rebuilds a b → StaysReady Rebuilds b c → TakesNeeded a b
    → HasTakenFew (needed b) 0 b c → HasTakenFew (needed a) 0 a c
few_met a b c on next few f =
    few_more a b c (after_ready a b on) (after_ready b c next) (needed a) (needed b) 0
    (took_few few) f

-- a call with an error is one with a refusal
pub few_unless : {A : Type 0} (r : Result A Full) (n : ℕ) (old new : Caller)
    → HasTakenFewIn r n 0 old new → HasTakenFewUnless (result_err r) n old new
few_unless (Ok x) n old new f = f
few_unless (Err full) n old new f = f

-- the target of a started rebuild, once it is finished
pub told_of : (t : Snapshot) (rebuild target keys : ℕ) → IsRebuildOf t rebuild target
    → IsFinishedWith t target keys → IsTold t rebuild keys
told_of t rebuild target keys r f = grind arith

-- what was met as it is
pub few_still : (a c : Caller) (keys : ℕ) → HasTakenFew (needed a) 0 a c
    → HasTakenFew (words_of_freeze keys) 0 a c
few_still a c keys f = grind (arith, needed_most, few_low)

-- the help of a rebuild after it was met
pub few_helped : (a b c : Caller) (o : Option Full) (keys : ℕ) → StaysReady Rebuilds a b
    → StaysReady Rebuilds b c → HasTakenFew (needed a) 0 a b
    → HasTakenFewUnless o (sum (shape keys) + change_words) b c
    → HasTakenFewUnless o (words_of_freeze keys) a c
few_helped a b c o keys on next f g = by o g
  where
    met : HasTakenFew (words_of_freeze keys) (sum (shape keys) + change_words) a b
    met = grind (arith, needed_most, few_low, few_wider)

    by : (o : Option Full) → HasTakenFewUnless o (sum (shape keys) + change_words) b c
        → HasTakenFewUnless o (words_of_freeze keys) a c
    by None g = few_more a b c (after_ready a b on) (after_ready b c next) (words_of_freeze keys)
        (sum (shape keys) + change_words) 0 met g
    by (Some full) g =
        few_out_more a b c (after_ready a b on) (after_ready b c next) (words_of_freeze keys)
        (sum (shape keys) + change_words) 0 met g

-- ---- which leaf of a frozen tree has a number, and which pair it has. Serves `frozen_pair`.

-- ---- the leaf

-- a leaf among a row's leaves has its number
pub leaf_numbered : (v : View) → IsSound v → (ref : Ref) (keys target i base : ℕ) (found : Ref)
    → IsStill (now v) ref keys → ref ≡ InnerAt target
    → ((leaves : List PlacedLeaf) → HasLeaves (now v).pieces (Some (InnerAt target)) leaves
    → IsLeafAmong leaves i found)
    → ((b : ℕ) → found ≡ LeafAt b → base ≡ b) → IsLeafNumber (now v) ref i base
leaf_numbered v s ref keys target i base found still is told based = grind (arith, still_leaves)

-- only an inner row means one
inner_meant : (root : layouts.Ref) (base : ℕ) → ref_meant root ≡ InnerAt base → root ≡ Inner base
inner_meant Empty base e = absurd (cc)
inner_meant Unset base e = absurd (cc)
inner_meant (LeafRef other) base e = absurd (cc)
inner_meant (Inner other) base e = ap Inner (cc)
inner_meant (Change other) base e = absurd (cc)
inner_meant (Rebuild other) base e = absurd (cc)

-- a leaf that is the root is leaf number 0
pub leaf_itself : (t : Snapshot) (root : layouts.Ref) (keys i base : ℕ)
    → IsStill t (ref_meant root) keys → i < keys → ((b : ℕ) → root ≢ Inner b)
    → ((b : ℕ) → ref_meant root ≡ LeafAt b → base ≡ b) → IsLeafNumber t (ref_meant root) i base
leaf_itself t root keys i base still less other based = at (ref_meant root) keys still less refl
  where
    first : (leaf : PlacedLeaf) (n : ℕ) → n < 1 → slice_get (leaf ∷ []) n ≡ Some leaf
    first leaf zero low = refl
    first leaf (suc n) low = absurd (omega arith)

    at : (ref : Ref) (k : ℕ) → IsStill t ref k → i < k → ref_meant root ≡ ref
        → IsLeafNumber t ref i base
    at _ _ no_key low e = absurd (omega arith)
    at _ _ (one_key b row p) low e = record {
      leaves = record { base = b; row = row } ∷ [];
      reached = leaf_here row p;
      leaf = record { base = b; row = row };
      there = first record { base = b; row = row } i low;
      base_is = sym (based b e);
    }
    at _ _ (all_keys b k f) low e = absurd (other b (inner_meant root b e))

-- what is true of each leaf is true of that at a place
leaf_at_place : (P : PlacedLeaf → Type 0) (leaves : List PlacedLeaf) (i : ℕ) (leaf : PlacedLeaf)
    → Each P leaves → slice_get leaves i ≡ Some leaf → P leaf
leaf_at_place P [] i leaf all e = absurd (cc)
leaf_at_place P (first ∷ rest) zero leaf all e = subst P (same_Some first leaf e) all.0
leaf_at_place P (first ∷ rest) (suc i) leaf all e = leaf_at_place P rest i leaf all.1 e

-- it is published
pub number_seen : (v w : View) (ref : Ref) (i base : ℕ) → IsLeafNumber (now v) ref i base
    → GoesOnTo v w → SeesLeaf w base
number_seen v w ref i base n g = let row = n.leaf.row in
    let here = leaf_at_place (λ l. (now v).pieces l.base ≡ Some (Leaf l.row)) n.leaves i n.leaf
    (leaves_stand (now v).pieces (Some ref) n.leaves n.reached) n.there in
    leaf_on v w g base
    record {
      row = row;
      published = subst (λ b. (now v).pieces b ≡ Some (Leaf row)) n.base_is here;
    }

-- ---- its pair

-- so the pair has the number
pub numbered_pair : (v w : View) → IsSound v → (frozen : Frozen) (i base : ℕ) (pair : Pair)
    → IsStill (now v) (ref_meant frozen.root) frozen.keys
    → IsLeafNumber (now v) (ref_meant frozen.root) i base → GoesOnTo v w
    → IsPairOf (now w) base pair → IsPairAt v.start v.words v.log frozen i pair
numbered_pair v w s frozen i base pair still n g p =
    let all = still_leaves v.start v.words v.log s.lawful (ref_meant frozen.root) frozen.keys still in
    let same = same_leaves (now v).pieces (Some (ref_meant frozen.root)) all.leaves n.leaves all.below
    n.reached in
    let here = leaf_at_place (λ l. (now v).pieces l.base ≡ Some (Leaf l.row)) n.leaves i n.leaf
    (leaves_stand (now v).pieces (Some (ref_meant frozen.root)) n.leaves n.reached) n.there in
    let later = leaf_there (now v).pieces (now w).pieces (goes_on_grow v w g) n.leaf.base n.leaf.row
    here in
    let row_is : n.leaf.row ≡ p.row = cc (sym later ∙ ap (now w).pieces n.base_is ∙ p.published) in
    let key = ap (λ (r : LeafRow). r.key) row_is ∙ sym p.key_is in
    let value = ap (λ (r : LeafRow). r.value) row_is ∙ sym p.value_is in record {
      found = map pair_of n.leaves;
      has = record { leaves = n.leaves; reached = n.reached; pairs_are = refl };
      rising = pairs_rise n.leaves
          (subst (λ (ls : List PlacedLeaf). IsStrictlyIncreasing (map (λ l. l.row.key) ls)) same
          all.rising);
      there = slice_get-map pair_of n.leaves i ∙ ap (option_map pair_of) n.there
          ∙ ap (λ (x : Pair). Some x)
          (pair_is n.leaf.row.key n.leaf.row.value pair.key pair.value key value);
    }
  where
    pair_is : (a b c d : ℕ) → a ≡ c → b ≡ d
        → ◌≡◌ {A = Pair} (record { key = a; value = b }) (record { key = c; value = d })
    pair_is a b c d e f = cc

-- ---- the pass

-- the pass after the reading
pub record ReadEnds (old : PassFace) (who : Caller) (refused : Option Full) (token : TokenFace)
    (frozen : Frozen) : Type 0 where
  pub pass : IsPassWith (record who { token = token }) refused
  pub seen : HasSeenMore old (face_as token who.number refused)
  pub calls : token.view.calls ≡ old.calls
  pub still : IsFrozenFor (face_as token who.number refused) frozen

-- a pass that has only loaded ends the reading so
pub read_ends : (who : Caller) (refused : Option Full) (token : TokenFace) → IsPassWith who refused
    → GoesOnTo who.token.view token.view → (frozen : Frozen) (old : PassFace)
    → pass_face who refused ≡ old → IsFrozenFor old frozen → ReadEnds old who refused token frozen
read_ends who refused token all g frozen old view =
    subst (λ (o : PassFace). IsFrozenFor o frozen → ReadEnds o who refused token frozen) view from
  where
    v : View
    v = who.token.view

    w : View
    w = token.view

    later : IsLaterView v w
    later = goes_later v w g

    from : IsFrozenFor (pass_face who refused) frozen
        → ReadEnds (pass_face who refused) who refused token frozen
    from f = let stamps = ap (λ (y : View). y.stamp) g.same in record {
      pass = pass_with_later who token refused all later
          (ap (λ (y : View). y.pending) g.same ∙ all.pass.in_none);
      seen = record {
        tree = ap (λ (y : View). record { table = y.table; start = y.start; words = y.words })
            g.same;
        number = refl;
        seen = later-goes_on g.later;
        heard = heard_same (ap (λ (y : View). y.moments) g.same);
        stamp = omega arith;
      };
      calls = ap (λ (y : View). y.calls) g.same;
      still = still_stays (now v) (now w) (goes_on_grow v w g) (ref_meant frozen.root)
          frozen.keys f;
    }
