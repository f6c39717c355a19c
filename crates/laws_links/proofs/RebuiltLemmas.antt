-- A started rebuild is replaced, or its slot reads as it; once replaced, never again. Serves the replacement law.
use Rattle.std.proofs.Common.{Bool, List, None, Option, Some, ap, arith, false, inl, inr, option_map, refl, subst, sym, true, ℕ, ⊎_elim, ◌∙◌, ◌∷◌, ◌≡◌, ◌≢◌, ◌⊎◌}
use Rattle.ist_core.specs.declared.events.Event.{Event}
use Rattle.ist_core.specs.declared.events.Event.TheVariants.{Decide}
use Rattle.ist_core.specs.declared.pairs.Pair.{Pair}
use Rattle.ist_core.specs.declared.states.ChangeRow.{ChangeRow}
use Rattle.ist_core.specs.declared.states.RebuildRow.{RebuildRow}
use Rattle.ist_core.specs.TreeTerms.{CanDecide, IsReplaced, IsStarted}
use Rattle.ist_core.specs.LogTerms.{CanOpen, EachEnabled, state_of, Log}
use Rattle.ist_core.specs.WordTerms.{Change, Rebuild, with_decision, ChangeAt, Empty, InnerAt, LeafAt, RebuildAt, Ref, Unset, ref_of, start, decided_yes, undecided}
use Rattle.ist_core.proofs.AllPlaceLemmas.{SideNames, names, anchor_free}
use Rattle.ist_core.proofs.AllWordLemmas.{changed_at-same, same_rebuild}
use Rattle.ist_core.proofs.AllLogLemmas.{grow_after}
use Rattle.laws_links.proofs.ChangeLemmas.{said_yes}
use Rattle.laws_links.proofs.FormLemmas.{replaced_grows}
use Rattle.laws_links.proofs.FormedLemmas.{changes_are_formed}
use Rattle.laws_links.proofs.InductionLemmas.{changes_by}
use Rattle.laws_links.proofs.ReadEventLemmas.{decide_reads}
use Rattle.laws_links.proofs.ReadLemmas.{ReadsAs, Turns, reads_once, turned_by}
use Rattle.laws_links.proofs.ReadStepLemmas.{reads_step}
use Rattle.laws_links.proofs.StartingLemmas.{finish_of, side_rebuild, undecided_reads, undecided_unstarted}

module _ (pairs : List Pair) (words : ℕ) (opens : CanOpen pairs words) where
  -- a rebuild that isn't replaced after an event wasn't before
  pub unreplaced_before : (log : Log) (event : Event)
      → EachEnabled (start pairs words) (event ∷ log) → (rebuild : ℕ)
      → ¬ (IsReplaced (state_of pairs words (event ∷ log)) rebuild)
      → ¬ (IsReplaced (state_of pairs words log) rebuild)
  unreplaced_before log event h rebuild unr k = unr
      (replaced_grows (state_of pairs words log) (state_of pairs words (event ∷ log)) (grow_after pairs words log event h) rebuild k)

  -- if the slot's change takes the rebuild out and is decided yes, the rebuild is replaced
  turned_replaced : (log : Log) (event : Event) → EachEnabled (start pairs words) (event ∷ log)
      → (rebuild node i : ℕ) → Turns (start pairs words) log node i (RebuildAt rebuild) event
      → IsReplaced (state_of pairs words (event ∷ log)) rebuild
  turned_replaced log _ h rebuild node i (turned_by {base = base} can n j from) =
      let t = state_of pairs words log in let f = with_decision decided_yes in record {
        base = base;
        change = record (can.change) { decision = decided_yes };
        published = changed_at-same t.pieces base f ∙ ap (option_map f) can.pending.published;
        kind =
            (finish_of t can.change rebuild (changes_are_formed pairs words log h.0 base can.change can.pending.published) from).form.kind;
        decision = refl;
        from = from;
      }

  -- a rebuild that a change which was decided yes put in is replaced, or the slot reads as it
  start_reads : (log : Log) → EachEnabled (start pairs words) log → (base : ℕ) (x : ChangeRow)
      → (state_of pairs words log).pieces base ≡ Some (Change x) → x.decision ≡ decided_yes
      → (rebuild : ℕ) → ref_of x.to ≡ Some (RebuildAt rebuild)
      → IsReplaced (state_of pairs words log) rebuild
      ⊎ ReadsAs (state_of pairs words log) x.node x.index (RebuildAt rebuild)
  start_reads = changes_by pairs words
      (λ log base x. x.decision ≡ decided_yes → (rebuild : ℕ) → ref_of x.to ≡ Some (RebuildAt rebuild)
      → IsReplaced (state_of pairs words log) rebuild
      ⊎ ReadsAs (state_of pairs words log) x.node x.index (RebuildAt rebuild))
      (λ log event h base x old there before is rebuild to. ⊎_elim
      (λ k. inl (replaced_grows (state_of pairs words log) (state_of pairs words (event ∷ log))
      (grow_after pairs words log event h) rebuild k))
      (λ r. ⊎_elim
      (λ still. inr still) (λ k. inl (turned_replaced log event h rebuild x.node x.index k))
      (reads_step pairs words opens log event h x.node x.index (RebuildAt rebuild) (λ e. cc) r))
      (before is rebuild to))
      (λ log caller base rows h can is. let none = can.unset in absurd (omega arith))
      (λ log caller base said h can before is rebuild to.
      inr (at log caller base said h can (said_yes said is) rebuild to))
    where
      at : (log : Log) (caller base : ℕ) (said : Bool)
          → EachEnabled (start pairs words) (Decide caller base said ∷ log)
          → (can : CanDecide (state_of pairs words log) log caller base said) → said ≡ true
          → (rebuild : ℕ) → ref_of can.change.to ≡ Some (RebuildAt rebuild)
          → ReadsAs (state_of pairs words (Decide caller base said ∷ log)) can.change.node can.change.index (RebuildAt rebuild)
      at log caller base true h can is rebuild to =
          decide_reads pairs words opens log caller base h can.change can.pending.published
          (RebuildAt rebuild) to
      at log caller base false h can is rebuild to = absurd (cc)

  -- a started rebuild is replaced, or its slot reads as it
  pub started_reads : (log : Log) → EachEnabled (start pairs words) log
      → (rebuild : ℕ) (r : RebuildRow)
      → (state_of pairs words log).pieces rebuild ≡ Some (Rebuild r)
      → IsStarted (state_of pairs words log) rebuild → IsReplaced (state_of pairs words log) rebuild
      ⊎ ReadsAs (state_of pairs words log) r.parent r.index (RebuildAt rebuild)
  started_reads log h rebuild r e s = let t = state_of pairs words log in
      let it = side_rebuild t (names pairs words opens log h) s.base s.change s.published rebuild (inr s.to) in
      let row = same_rebuild (t.pieces rebuild) it.row r it.published e in ⊎_elim (λ k. inl k)
      (λ here. inr
      (subst (λ n. ReadsAs t n r.index (RebuildAt rebuild)) (sym it.parent ∙ ap (λ x. x.parent) row)
      (subst (λ j. ReadsAs t s.change.node j (RebuildAt rebuild))
      (sym it.index ∙ ap (λ x. x.index) row) here)))
      (start_reads log h s.base s.change s.published s.decision rebuild s.to)

  -- the slot reads as something else than the rebuild
  pub record ReadsElse (log : Log) (node i rebuild : ℕ) : Type 0 where
    pub ref : Ref
    pub reads : ReadsAs (state_of pairs words log) node i ref
    pub set : ref ≢ Unset
    pub other : ref ≢ RebuildAt rebuild

  -- an undecided change that takes out a started rebuild puts in another reference
  other_to : (log : Log) → EachEnabled (start pairs words) log → (base : ℕ) (x : ChangeRow)
      → (state_of pairs words log).pieces base ≡ Some (Change x) → x.decision ≡ undecided
      → (rebuild : ℕ) → IsStarted (state_of pairs words log) rebuild
      → (ref : Ref) × (ref_of x.to ≡ Some ref) × (ref ≢ Unset) × (ref ≢ RebuildAt rebuild)
  other_to log h base x e none rebuild s =
      at (ref_of x.to) refl ((names pairs words opens log h).rows base (Change x) e).1
    where
      at : (o : Option Ref) → ref_of x.to ≡ o
          → SideNames (state_of pairs words log).pieces x.node x.index o
          → (ref : Ref) × (ref_of x.to ≡ Some ref) × (ref ≢ Unset) × (ref ≢ RebuildAt rebuild)
      at (Some Empty) is k = (Empty, is, λ q. cc, λ q. cc)
      at (Some (LeafAt b)) is k = (LeafAt b, is, λ q. cc, λ q. cc)
      at (Some (InnerAt b)) is k = (InnerAt b, is, λ q. cc, λ q. cc)
      at (Some (RebuildAt b)) is k =
          (RebuildAt b, is, λ q. cc, λ q. undecided_unstarted pairs words opens log h base x e none rebuild (is ∙ ap (λ y. Some y) q) s)
      at (Some Unset) is k = absurd k
      at (Some (ChangeAt b)) is k = absurd k
      at None is k = absurd k

  -- the slot of a finish that was decided yes reads as something else
  finish_reads : (log : Log) → EachEnabled (start pairs words) log → (base : ℕ) (x : ChangeRow)
      → (state_of pairs words log).pieces base ≡ Some (Change x) → x.decision ≡ decided_yes
      → (rebuild : ℕ)
      → ref_of x.from ≡ Some (RebuildAt rebuild) → ReadsElse log x.node x.index rebuild
  finish_reads = changes_by pairs words
      (λ log base x. x.decision ≡ decided_yes → (rebuild : ℕ) → ref_of x.from ≡ Some (RebuildAt rebuild) → ReadsElse log x.node x.index rebuild)
      (λ log event h base x old there before is rebuild from. let it = before is rebuild from in
      ⊎_elim (λ r. record { ref = it.ref; reads = r; set = it.set; other = it.other })
      (λ k. turned log event h x.node x.index it.ref rebuild (started log h.0 base x old rebuild from) k)
      (reads_step pairs words opens log event h x.node x.index it.ref it.set it.reads))
      (λ log caller base rows h can is. let none = can.unset in absurd (omega arith))
      (λ log caller base said h can before is rebuild from. at log caller base said h can (said_yes said is) rebuild from)
    where
      -- the rebuild of a finish was started
      started : (log : Log) → EachEnabled (start pairs words) log → (base : ℕ) (x : ChangeRow)
          → (state_of pairs words log).pieces base ≡ Some (Change x) → (rebuild : ℕ)
          → ref_of x.from ≡ Some (RebuildAt rebuild) → IsStarted (state_of pairs words log) rebuild
      started log h base x e rebuild from =
          let it = finish_of (state_of pairs words log) x rebuild (changes_are_formed pairs words log h base x e) from in
          subst (λ b. IsStarted (state_of pairs words log) b) it.same it.form.started

      turned : (log : Log) (event : Event) → EachEnabled (start pairs words) (event ∷ log)
          → (node i : ℕ) (ref : Ref) (rebuild : ℕ) → IsStarted (state_of pairs words log) rebuild
          → Turns (start pairs words) log node i ref event → ReadsElse (event ∷ log) node i rebuild
      turned log _ h node i ref rebuild s (turned_by {caller = caller} {base = base} can n j from) =
          let it =
          other_to log h.0 base can.change can.pending.published can.pending.unset rebuild s in
          let r = decide_reads pairs words opens log caller base h can.change can.pending.published it.0 it.1 in
          let u = state_of pairs words (Decide caller base true ∷ log) in record {
            ref = it.0;
            reads =
                subst (λ m. ReadsAs u m i it.0) n (subst (λ m. ReadsAs u can.change.node m it.0) j r);
            set = it.2;
            other = it.3;
          }

      at : (log : Log) (caller base : ℕ) (said : Bool)
          → EachEnabled (start pairs words) (Decide caller base said ∷ log)
          → (can : CanDecide (state_of pairs words log) log caller base said) → said ≡ true
          → (rebuild : ℕ) → ref_of can.change.from ≡ Some (RebuildAt rebuild)
          → ReadsElse (Decide caller base said ∷ log) can.change.node can.change.index rebuild
      at log caller base false h can is rebuild from = absurd (cc)
      at log caller base true h can is rebuild from =
          let it = other_to log h.0 base can.change can.pending.published can.pending.unset rebuild (started log h.0 base can.change can.pending.published rebuild from) in
          record {
            ref = it.0;
            reads =
                decide_reads pairs words opens log caller base h can.change can.pending.published it.0 it.1;
            set = it.2;
            other = it.3;
          }

  -- a rebuild that its slot reads as wasn't replaced
  pub read_unreplaced : (log : Log) → EachEnabled (start pairs words) log
      → (rebuild : ℕ) (r : RebuildRow)
      → (state_of pairs words log).pieces rebuild ≡ Some (Rebuild r)
      → ReadsAs (state_of pairs words log) r.parent r.index (RebuildAt rebuild)
      → ¬ (IsReplaced (state_of pairs words log) rebuild)
  read_unreplaced log h rebuild r e reads k = let t = state_of pairs words log in
      let elsewhere = finish_reads log h k.base k.change k.published k.decision rebuild k.from in
      let it = side_rebuild t (names pairs words opens log h) k.base k.change k.published rebuild (inl k.from) in
      let row = same_rebuild (t.pieces rebuild) it.row r it.published e in
      let there =
      subst (λ n. ReadsAs t n r.index elsewhere.ref) (sym it.parent ∙ ap (λ x. x.parent) row)
      (subst (λ j. ReadsAs t k.change.node j elsewhere.ref) (sym it.index ∙ ap (λ x. x.index) row) elsewhere.reads) in
      elsewhere.other
      (reads_once t r.parent r.index elsewhere.ref (RebuildAt rebuild) (anchor_free pairs words log h) there reads)

  -- while a finish is undecided its rebuild wasn't replaced
  pub finish_unreplaced : (log : Log) → EachEnabled (start pairs words) log
      → (base : ℕ) (x : ChangeRow)
      → (state_of pairs words log).pieces base ≡ Some (Change x) → x.decision ≡ undecided
      → (rebuild : ℕ)
      → ref_of x.from ≡ Some (RebuildAt rebuild) → ¬ (IsReplaced (state_of pairs words log) rebuild)
  finish_unreplaced log h base x e none rebuild from = let t = state_of pairs words log in
      let it = side_rebuild t (names pairs words opens log h) base x e rebuild (inl from) in
      read_unreplaced log h rebuild it.row it.published
      (subst (λ n. ReadsAs t n it.row.index (RebuildAt rebuild)) (sym it.parent)
      (subst (λ j. ReadsAs t x.node j (RebuildAt rebuild)) (sym it.index) (undecided_reads pairs words opens log h base x e none (RebuildAt rebuild) from)))
