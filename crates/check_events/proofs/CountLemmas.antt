-- What the code tests of a count is what the condition says. Serves `counting.rt`.
use Rattle.std.proofs.Common.{◌≡◌, ◌↔◌, ◌<◌, ℕ, Option, Some, None, refl, sym, subst, ◌≢◌, suc, List, [], ◌∷◌, slice_get, ap, arith, inl, inr}
use Rattle.std.specs.Ordering.{nat_cmp}
use Rattle.std.specs.BTreeMap.{BTreeMap}
use Rattle.ist_core.specs.declared.states.ChangeRow.{ChangeRow}
use Rattle.ist_core.specs.declared.states.InnerRow.{InnerRow}
use Rattle.ist_core.specs.declared.states.RebuildRow.{RebuildRow}
use Rattle.ist_core.specs.declared.lists.Row.{Row}
use Rattle.ist_core.specs.WordTerms.{Change, anchor, InnerAt, RebuildAt, ref_of, unset_word, Inner, Rebuild, row_at, SlotHolds, in_anchor, in_row}
use Rattle.ist_core.specs.LogTerms.{Snapshot, Log, state, Among}
use Rattle.ist_core.specs.TreeTerms.{WasOnChain, CanCount, IsStarted, IsBuilt, Starts, Finishes, new_rebuild}
use Rattle.ist_core.proofs.AllWordLemmas.{same_change, word_of-ref_of, same_rebuild, same_inner, get_among}
use Rattle.check_fairness.specs.Answers.{Holds}
use Rattle.check_events.specs.declared.pasts.LastUpdate.{LastUpdate}
use Rattle.check_events.specs.declared.replicas.Replica.{Replica}
use Rattle.check_events.specs.Mirroring.{Mirrors}
use Rattle.check_events.specs.Remembering.{IsUncounted, LacksCount, KnowsUpdates}
use Rattle.check_events.proofs.DecisionLemmas.{change_stands, no_change}
use Rattle.check_events.specs.Kinds.{MayBeRebuilt, IsFinishOf}
use Rattle.check_events.proofs.KindLemmas.{one_target}
use Rattle.std.specs.BTreeMap as tree

module _ (first : Snapshot) (log : Log) (caller node : ℕ) where
  -- the part of the condition that is about the log
  pub count_uncounted : (h : CanCount first log caller node)
      → IsUncounted (state first log) log caller node h.base
  count_uncounted h = grind arith

  -- if one change may be counted, what remains is whether the node is on its chain
  pub count_is : (base : ℕ) (change : ChangeRow) → (state first log).pieces base
      ≡ Some (Change change) → caller < (state first log).callers
      → ((b : ℕ) → IsUncounted (state first log) log caller node b → base ≡ b)
      → IsUncounted (state first log) log caller node base
      → WasOnChain first log change.node node ↔ CanCount first log caller node
  count_is base change e known one u = (
    (λ w.
        record {
          known = known;
          later = u.later;
          by = u.by;
          base = base;
          earlier = u.earlier;
          log_is = u.log_is;
          update = u.update;
          last = u.last;
          uncounted = u.uncounted;
          on_chain = grind (arith, same_change);
        }),
    (λ h. let same = one h.base (count_uncounted h) in
        let there = subst (λ b. (state first log).pieces b ≡ Some (Change h.update.change))
        (sym same) h.update.published in
        subst (λ c. WasOnChain first log c.node node) (same_change ((state first log).pieces base)
        h.update.change change there e) h.on_chain),
  )

-- ---- the entry for the caller's last change

module _ (first : Snapshot) (log : Log) (caller node : ℕ) (updates : BTreeMap ℕ LastUpdate)
    (known : KnowsUpdates updates (state first log) log) where
  -- a change that may be counted is the entry's, which lacks the node
  pub counted_lacks : (o : Option LastUpdate) → o ≡ tree.get nat_cmp updates caller
      → (h : CanCount first log caller node) → LacksCount o node h.base
  counted_lacks o is h = grind arith

  -- if the replica lacks the entry's change, nothing may be counted
  pub no_change_counts : (s : Replica) (last : LastUpdate) → Mirrors s (state first log)
      → Some last ≡ tree.get nat_cmp updates caller → None ≡ tree.get nat_cmp s.changes last.change
      → ¬ (CanCount first log caller node)
  no_change_counts s last h is none x = let same = (counted_lacks (Some last) is x).0 in
      no_change s (state first log) x.base h
      (subst (λ b. tree.get nat_cmp s.changes b ≡ None) same (sym none)) x.update.change
      x.update.published

  -- if the entry lacks the node, what remains is whether the node is on its change's chain
  pub count_of_last : (s : Replica) (last : LastUpdate) (row : ChangeRow)
      → Mirrors s (state first log) → Some last ≡ tree.get nat_cmp updates caller
      → ¬ (Holds last.counted node) → Some row ≡ tree.get nat_cmp s.changes last.change
      → caller < (state first log).callers
      → WasOnChain first log row.node node ↔ CanCount first log caller node
  count_of_last s last row h is free there caller_known =
      count_is first log caller node last.change row
      (change_stands s (state first log) last.change h row (sym there)) caller_known
      (λ b x. (subst (λ o. LacksCount o node b) (sym is) ((known caller node b).1 x)).0)
      ((known caller node last.change).0
      (subst (λ o. LacksCount o node last.change) is (refl, free)))

-- ---- what the code tests of a change that starts or finishes a rebuild is what the conditions say. Serves `kinds.rt`.

module _ (t : Snapshot) (change : ChangeRow) (fresh : List Row) where
  -- a change from a target to a rebuild is a start exactly if its fresh row is the new rebuild
  pub starts_is : (target rebuild : ℕ) → change.kind ≡ 3 → change.key ≡ 0 → change.value ≡ 0
      → ref_of change.from ≡ Some (InnerAt target) → MayBeRebuilt t change.node target
      → ref_of change.to ≡ Some (RebuildAt rebuild)
      → (fresh ≡ row_at rebuild (new_rebuild change target) ∷ []) ↔ Starts t change fresh
  starts_is target rebuild kind key value from may to = grind (arith, one_target)

  -- if the target may not be rebuilt, the change isn't a start
  pub starts_not : (target : ℕ) → ref_of change.from ≡ Some (InnerAt target)
      → ¬ (MayBeRebuilt t change.node target) → ¬ (Starts t change fresh)
  starts_not target from not_due h = grind (arith, one_target)

  -- a change from a rebuild is a finish exactly if it puts in the rebuild's root
  pub finishes_is : (rebuild : ℕ) → change.kind ≡ 4 → change.key ≡ 0 → change.value ≡ 0 → fresh ≡ []
      → ref_of change.from ≡ Some (RebuildAt rebuild)
      → IsFinishOf t change rebuild ↔ Finishes t change fresh
  finishes_is rebuild kind key value none from = grind arith

  -- the change is the finish of its rebuild exactly if the root is built
  pub finish_of_is : (rebuild : ℕ) (r : RebuildRow) → t.pieces rebuild ≡ Some (Rebuild r)
      → IsStarted t rebuild → r.parent ≡ change.node → r.index ≡ change.index → r.root ≡ change.to
      → IsBuilt t r.root ↔ IsFinishOf t change rebuild
  finish_of_is rebuild r e started parent index root = grind (arith, same_rebuild)

-- ---- built roots

among_get : (xs : List ℕ) (x : ℕ) → Among x xs → (i : ℕ) × (slice_get xs i ≡ Some x)
among_get [] x a = absurd a
among_get (y ∷ ys) x (inl e) = (0, ap Some (sym e))
among_get (y ∷ ys) x (inr a) = let r = among_get ys x a in (suc r.0, r.1)

module _ (t : Snapshot) (root base : ℕ) (e : ref_of root ≡ Some (InnerAt base)) where
  -- a row that a word names is not the anchor
  no_anchor : base ≢ anchor
  no_anchor i = let good = (word_of-ref_of root (InnerAt base) e).good in let low =
      good.after_fixed in absurd (omega arith)

  row_slots : (r : InnerRow) → t.pieces base ≡ Some (Inner r) → (i word : ℕ) → SlotHolds t base i
      word → Among word r.slots
  row_slots r p i word (in_anchor a b c) = absurd (no_anchor a)
  row_slots r p i word (in_row s q g) = grind (arith, get_among, same_inner)

  -- a root is built exactly if no slot of its row is Unset
  pub built_is : (r : InnerRow) → t.pieces base ≡ Some (Inner r) → root ≢ unset_word
      → (¬ (Among unset_word r.slots)) ↔ IsBuilt t root
  built_is r p set = (
    (λ none.
        record {
          set = set;
          whole = λ b i word n h is. let same = one_target (ref_of root) b base n e in
              none (subst (λ w. Among w r.slots) is
              (row_slots r p i word (subst (λ x. SlotHolds t x i word) same h)));
        }),
    (λ h a. let g = among_get r.slots unset_word a in h.whole base g.0 unset_word e (in_row r p g.1)
        refl),
  )

  no_slots : ((r : InnerRow) → ¬ (t.pieces base ≡ Some (Inner r))) → (i word : ℕ)
      → ¬ (SlotHolds t base i word)
  no_slots none i word (in_anchor a b c) = no_anchor a
  no_slots none i word (in_row s q g) = none s q

  -- a set root that isn't an inner row is built
  pub built_alone : ((r : InnerRow) → ¬ (t.pieces base ≡ Some (Inner r))) → root ≢ unset_word
      → IsBuilt t root
  built_alone none set = record {
    set = set;
    whole = λ b i word n h is. no_slots none i word
        (subst (λ x. SlotHolds t x i word) (one_target (ref_of root) b base n e) h);
  }
