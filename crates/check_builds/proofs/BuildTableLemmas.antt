-- What the table of builds says after a build and after a loss. Serves `remembering.rt`.
use Rattle.std.proofs.Common.{◌≡◌, ◌∙◌, ℕ, List, [], ◌∷◌, Bool, true, false, cond, Option, Some, refl, sym, ap, ◌≢◌, ◌↔◌, ◌+◌, ◌≤◌, ◌⊎◌, eqb, None, inl, inr, arith}
use Rattle.std.proofs.lemmas.Map.Lookups.{exact_bytes}
use Rattle.std.proofs.lemmas.Map.Text.{is_eq-slice_cmp}
use Rattle.std.proofs.lemmas.Slice.Eq.{bytes_eq-Decides}
use Rattle.std.specs.BTreeMap.{is_at, insert_entry, BTreeMap}
use Rattle.std.specs.Cmp.Lexicographic.{slice_cmp}
use Rattle.std.specs.Map.{lookup}
use Rattle.std.specs.Ordering.{nat_cmp, is_eq, match_ordering}
use Rattle.std.specs.declared.cmp.Ordering.{Ordering}
use Rattle.std.specs.declared.cmp.Ordering.TheVariants.{Less, Equal, Greater}
use Rattle.std.proofs.lemmas.Bool.Decides.{eqb_tells}
use Rattle.std.specs.Global.{Vec}
use Rattle.ist_core.specs.declared.lists.Row.{Row}
use Rattle.ist_core.specs.declared.events.Event.{Event}
use Rattle.ist_core.specs.declared.events.Event.TheVariants.{Enter, Install, Okay, Decide, Resolve, Count, Mark, Pass, Finish, Root, Draw, Place, Lose}
use Rattle.ist_core.specs.declared.pairs.Pair.{Pair}
use Rattle.ist_core.specs.LogTerms.{sizes_of, Log, Lawful, state_of}
use Rattle.ist_core.specs.TreeTerms.{IsBeaten, PlacedLeaf}
use Rattle.check_events.specs.declared.pasts.BuildTable.{BuildTable}
use Rattle.check_events.specs.Remembering.{CameAfter, KnowsBuilds, last_with, seen_builds, KnowsLeaves}
use Rattle.check_fairness.proofs.AnswerLemmas.{iff_trans}
use Rattle.check_builds.proofs.TableLemmas.{updated_here, updated_other}
use Rattle.ist_core.specs.WordTerms.{start}
use Rattle.ist_core.proofs.AllLogLemmas.{leaves_kept, finished_grows}
use Rattle.ist_core.proofs.AllEventLemmas.{grow_step, sound, sound_start}
use Rattle.std.specs.BTreeMap as tree

-- ---- what is found by sizes in a map once one is put in. Serves the table of builds.

-- the two are the same sizes
abbrev pub are_sizes : List ℕ → List ℕ → Bool
are_sizes xs ys = is_eq (slice_cmp nat_cmp xs ys)

-- lists of sizes that the test takes for the same are the same
pub sizes_same : (xs ys : List ℕ) → are_sizes xs ys ≡ true → xs ≡ ys
sizes_same xs ys e = (bytes_eq-Decides xs ys).0 (sym (is_eq-slice_cmp xs ys) ∙ e)

-- the test takes the same lists of sizes for the same
pub sizes_are : (xs ys : List ℕ) → xs ≡ ys → are_sizes xs ys ≡ true
sizes_are xs ys e = is_eq-slice_cmp xs ys ∙ (bytes_eq-Decides xs ys).1 e

module _ {X : Type 0} (one other : X) (rest : X) where
  cond_twice : (b : Bool) → cond b one rest ≡ cond b one (cond b other rest)
  cond_twice true = refl
  cond_twice false = refl

module _ {K X : Type 0} (items : K → List ℕ) (xs : List ℕ) where
  -- the value that a look-up by these sizes finds among the entries
  abbrev pub there : List (K × X) → Option X
  there es = lookup (is_at (λ v. slice_cmp nat_cmp xs (items v))) es

  -- the new value is found by the sizes at which it was put in, and others find what they found
  pub found_after : (es : List (K × X)) (k : K) (v : X)
      → there (insert_entry (λ x y. slice_cmp nat_cmp (items x) (items y)) es k v)
      ≡ cond (are_sizes xs (items k)) (Some v) (there es)
  found_after [] k v = refl
  found_after (e ∷ es) k v = at (slice_cmp nat_cmp (items k) (items e.0)) refl (found_after es k v)
    where
      at : (o : Ordering) → slice_cmp nat_cmp (items k) (items e.0) ≡ o
          → there (insert_entry (λ x y. slice_cmp nat_cmp (items x) (items y)) es k v)
          ≡ cond (are_sizes xs (items k)) (Some v) (there es)
          → there (match_ordering o ((k, v) ∷ e ∷ es) ((e.0, v) ∷ es)
          (e ∷ insert_entry (λ x y. slice_cmp nat_cmp (items x) (items y)) es k v))
          ≡ cond (are_sizes xs (items k)) (Some v) (there (e ∷ es))
      at Less p again = refl
      at Equal p again = let same = exact_bytes (items k) (items e.0) p in
          cond_twice (Some v) (Some e.1) (there es) (are_sizes xs (items e.0))
          ∙ ap (λ ys. cond (are_sizes xs ys) (Some v) (there (e ∷ es))) (sym same)
      at Greater p again = grind (arith, sizes_are, sizes_same)

-- a count doesn't come after one that is at least as large
not_after : (found : Option ℕ) (seen : ℕ) → ((at : ℕ) → found ≡ Some at → at ≤ seen)
    → ¬ (CameAfter found seen)
not_after None seen most h = h
not_after (Some at) seen most h = let l = most at refl in omega arith

module _ (old : BuildTable) (log : Log) (caller count : ℕ) (since : BTreeMap ℕ ℕ)
    (known : KnowsBuilds old log) (most : old.count ≤ count)
    (u : tree.Updates nat_cmp old.since since caller (Some count)) where
  -- the count of builds seen is the new one for the caller, and unchanged for each other caller
  seen_here : seen_builds (tree.get nat_cmp since caller) ≡ count
  seen_here = ap seen_builds (updated_here old.since since caller count u)

  seen_other : (c : ℕ) → c ≢ caller
      → seen_builds (tree.get nat_cmp since c) ≡ seen_builds (tree.get nat_cmp old.since c)
  seen_other c ne = ap seen_builds (updated_other old.since since caller count u c ne)

  seen_most : (c : ℕ) → seen_builds (tree.get nat_cmp since c) ≤ count
  seen_most c = grind (arith, eqb_tells, seen_here, seen_other)

  -- after a build
  module _ (rebuild word : ℕ) (rows : List Row) (last : BTreeMap (Vec ℕ) ℕ)
      (more : old.count + 1 ≡ count)
      (found : (xs : List ℕ) → tree.get_by (λ v. slice_cmp nat_cmp xs v.items) last
      ≡ cond (are_sizes xs (sizes_of rows)) (Some count) (last_with old xs)) where
    -- the table after the build
    abbrev pub new : BuildTable
    new = record { count = count; last = last; since = since }

    came : (xs : List ℕ) (at : ℕ) → last_with new xs ≡ Some at → at ≤ count
    came xs at e = grind arith

    -- the table is right after the build
    pub build_known : KnowsBuilds new (Root caller rebuild word rows ∷ log)
    build_known =
        record { beaten = λ c xs. beaten c xs (eqb_tells c caller); came = came; seen = seen_most }
      where
        -- another caller has seen fewer builds
        others : (c : ℕ) (xs : List ℕ) → c ≢ caller → (b : Bool) → are_sizes xs (sizes_of rows) ≡ b
            → CameAfter (cond b (Some count) (last_with old xs))
            (seen_builds (tree.get nat_cmp old.since c))
            ↔ IsBeaten c xs (Root caller rebuild word rows ∷ log)
        others c xs ne true is = (
          (λ h. ((λ e. ne (sym e)), inl (sym (sizes_same xs (sizes_of rows) is)))),
          (λ b. let before = known.seen c in omega arith),
        )
        others c xs ne false is = grind (arith, sizes_are)

        beaten : (c : ℕ) (xs : List ℕ) → ◌⊎◌ ((eqb c caller ≡ true) × (c ≡ caller))
            ((eqb c caller ≡ false) × (c ≢ caller))
            → CameAfter (last_with new xs) (seen_builds (tree.get nat_cmp since c))
            ↔ IsBeaten c xs (Root caller rebuild word rows ∷ log)
        beaten c xs (inl k) = grind (arith, not_after, came)
        beaten c xs (inr k) = grind (arith, others)

  -- after a loss
  module _ (bases : List ℕ) (none : count ≡ old.count) where
    -- the table after the loss
    abbrev pub left : BuildTable
    left = record { count = old.count; last = old.last; since = since }

    -- the table is right after the loss
    pub loss_known : KnowsBuilds left (Lose caller bases ∷ log)
    loss_known = grind (arith, eqb_tells, not_after)

-- the same is known after another log by which the same callers are beaten
pub as_well : (builds : BuildTable) (log other : Log) → KnowsBuilds builds log
    → ((c : ℕ) (xs : List ℕ) → IsBeaten c xs log ↔ IsBeaten c xs other) → KnowsBuilds builds other
as_well builds log other k same = grind (arith, iff_trans)

-- a Place is as a Root
pub place_known : (builds : BuildTable) (log : Log) (c o i w : ℕ) (r : List Row)
    → KnowsBuilds builds (Root c o w r ∷ log) → KnowsBuilds builds (Place c o i w r ∷ log)
place_known builds log c o i w r k = as_well builds _ _ k (λ n xs. ((λ b. b), (λ b. b)))

-- after any other event
pub builds_kept : (builds : BuildTable) (log : Log) (event : Event) → ((c o w : ℕ) (r : List Row)
    → event ≢ Root c o w r) → ((c o i w : ℕ) (r : List Row) → event ≢ Place c o i w r)
    → ((c : ℕ) (b : List ℕ) → event ≢ Lose c b) → KnowsBuilds builds log
    → KnowsBuilds builds (event ∷ log)
builds_kept builds log event ro pl lo k = grind (arith, as_well)

-- ---- leaves that are kept are the leaves of a finished row, after each event. Serves `placing.rt`.

-- they still are after one more event
pub kept_on : (pairs : List Pair) (words : ℕ) (log : Log) (event : Event)
    → Lawful pairs words (event ∷ log) → (kept : BTreeMap ℕ (Vec PlacedLeaf))
    → KnowsLeaves kept (state_of pairs words log)
    → KnowsLeaves kept (state_of pairs words (event ∷ log))
kept_on pairs words log event law kept known node leaves is = let it = known node leaves is in
    let g = grow_step (start pairs words) log event law.enabled.1
    (sound (start pairs words) log (sound_start pairs words) law.enabled.0) in
    record {
      keys = it.keys;
      finished = grind (arith, finished_grows);
      reached = grind (arith, leaves_kept);
    }
