-- When a change is decided yes, and that none is at a finished node. Serves the search law and the changes law.
use Rattle.std.proofs.Common.{◌≡◌, ◌≢◌, ◌⊎◌, Bool, ℕ, true, List, ◌∷◌, Some, refl, sym, ap, option_map, ◌∙◌, subst, inl, inr, ⊎_elim, arith}
use Rattle.ist_core.specs.declared.pairs.Pair.{Pair}
use Rattle.ist_core.specs.declared.states.ChangeRow.{ChangeRow}
use Rattle.ist_core.specs.declared.events.Event.{Event}
use Rattle.ist_core.specs.declared.events.Event.TheVariants.{Okay, Decide}
use Rattle.ist_core.specs.WordTerms.{ChangeAt, ref_of, word_of, decided_yes, Change, with_decision, start, SlotHolds, IsOpen}
use Rattle.ist_core.specs.LogTerms.{Snapshot, Log, Happened, Okays, Passes, GoesOn, same_log, one_event, EachEnabled, CanOpen, state_of}
use Rattle.ist_core.specs.TreeTerms.{IsPending, CanOkay, KeepsWord, holds_it, holds_change}
use Rattle.ist_core.proofs.AllWordLemmas.{changed_at-same, same_change}
use Rattle.ist_core.proofs.AllLogLemmas.{change_there, enabled_before, grow_between, change_read, same_change_word, goes_on_more}
use Rattle.ist_core.proofs.AllPlaceLemmas.{anchor_free, slot_once}
use Rattle.ist_core.proofs.FrozenLemmas as frozen
use Rattle.laws_links.specs.Linking.{IsFinished}
use Rattle.laws_links.proofs.FormLemmas.{finished_grows}
use Rattle.laws_links.proofs.ChangeLemmas.{said_yes}
use Rattle.laws_links.proofs.PassLemmas.{passed_no_change}
use Rattle.laws_links.proofs.InductionLemmas.{changes_by}
use Rattle.laws_links.proofs.LinkLemmas.{open_unfinished}
use Rattle.laws_histories.proofs.LedLemmas.{Needs}

module _ (pairs : List Pair) (words : ℕ) (opens : CanOpen pairs words) where
  -- if a pending change has an Okay, its node isn't finished
  pub unfinished : (log : Log) → EachEnabled (start pairs words) log → Needs pairs words log
      → (base : ℕ) (change : ChangeRow)
      → IsPending (state_of pairs words log) base change → Happened (Okays base) log
      → IsFinished (state_of pairs words log) change.node → ⊥
  unfinished log h n base change p okay f =
      at (frozen.closed pairs words opens log h change.node change.index v.0 v.1).keeps
    where
      t : Snapshot
      t = state_of pairs words log

      slot : SlotHolds t change.node change.index (word_of (ChangeAt base))
      slot = n.in_slot base change p

      v : (w : ℕ) × Happened (Passes change.node change.index w) log
      v = n.passed change.node change.index (word_of (ChangeAt base)) f slot

      at : KeepsWord t log change.node change.index v.0 → ⊥
      at (holds_it k) =
          let same =
          slot_once t change.node change.index (word_of (ChangeAt base)) v.0
          (anchor_free pairs words log h) slot k in
          passed_no_change (start pairs words) log change.node change.index v.0 h v.1 base
          (ap ref_of (sym same) ∙ change_read pairs words opens log h base change p.published)
      at (holds_change x) = grind (arith, slot_once, t, anchor_free, slot, same_change_word)

-- ---- when a change is decided

-- of two prefixes of one log, one is a prefix of the other
pub prefixes : (a b log : Log) → GoesOn a log → GoesOn b log → GoesOn a b ⊎ GoesOn b a
prefixes a b _ same_log k = inr k
prefixes a b _ (one_event event g) same_log = inl (one_event event g)
prefixes a b _ (one_event {log = log} event g) (one_event other k) = prefixes a b log g k

-- the log after which the change was decided yes
pub record Decided (log : Log) (base : ℕ) : Type 0 where
  pub caller : ℕ
  pub earlier : Log
  pub decided : GoesOn (Decide caller base true ∷ earlier) log

-- the same, if the Decide came after an earlier log
pub record Turning (earlier log : Log) (base : ℕ) : Type 0 where
  pub caller : ℕ
  pub at : Log
  pub since : GoesOn earlier at
  pub until : GoesOn (Decide caller base true ∷ at) log

module _ (pairs : List Pair) (words : ℕ) where
  -- a change that was decided yes was decided so at some moment
  pub yes_decided : (log : Log) → EachEnabled (start pairs words) log
      → (base : ℕ) (change : ChangeRow)
      → (state_of pairs words log).pieces base ≡ Some (Change change)
      → change.decision ≡ decided_yes → Decided log base
  yes_decided =
      changes_by pairs words (λ log base change. change.decision ≡ decided_yes → Decided log base)
      (λ log event h base change old there before said. (let it = before said in record { caller = it.caller; earlier = it.earlier; decided = one_event event it.decided }))
      (λ log caller base rows h can said. (let none = can.unset in absurd (omega arith)))
      (λ log caller base said h can before is. at log caller base said (said_yes said is))
    where
      at : (log : Log) (caller base : ℕ) (said : Bool) → said ≡ true
          → Decided (Decide caller base said ∷ log) base
      at log caller base said is = subst (λ v. Decided (Decide caller base v ∷ log) base)
          (sym is) record { caller = caller; earlier = log; decided = same_log }

  -- after its Decide with yes a change is decided yes
  pub decided_after : (caller base : ℕ) (a log : Log) → GoesOn (Decide caller base true ∷ a) log
      → EachEnabled (start pairs words) log → (change : ChangeRow)
      → (state_of pairs words log).pieces base ≡ Some (Change change)
      → change.decision ≡ decided_yes
  decided_after caller base a log g h change e =
      let m = enabled_before (start pairs words) (Decide caller base true ∷ a) log g h in
      let now = state_of pairs words (Decide caller base true ∷ a) in
      let turned : ChangeRow = record (m.1.change) { decision = decided_yes } in
      let there : now.pieces base ≡ Some (Change turned) =
      changed_at-same (state_of pairs words a).pieces base (with_decision decided_yes)
      ∙ ap (option_map (with_decision decided_yes)) m.1.pending.published in
      let it =
      change_there now.pieces (state_of pairs words log).pieces
      (grow_between pairs words (Decide caller base true ∷ a) log h g) base turned there in
      ap (λ c. c.decision) (same_change ((state_of pairs words log).pieces base) change it.0 e it.1)
      ∙ it.2.decided (λ none. omega arith)

  -- a change that wasn't decided yes earlier, and is, was decided so in between
  pub turns_since : (earlier log : Log) → GoesOn earlier log → EachEnabled (start pairs words) log
      → (base : ℕ) (new : ChangeRow)
      → ((old : ChangeRow) → (state_of pairs words earlier).pieces base ≡ Some (Change old) → old.decision ≢ decided_yes)
      → (state_of pairs words log).pieces base ≡ Some (Change new) → new.decision ≡ decided_yes
      → Turning earlier log base
  turns_since earlier log g h base new not_yet f said =
      ⊎_elim (λ x. following x) (λ x. absurd (before x))
      (prefixes earlier (Decide d.caller base true ∷ d.earlier) log g d.decided)
    where
      d : Decided log base
      d = yes_decided log h base new f said

      before : ¬ (GoesOn (Decide d.caller base true ∷ d.earlier) earlier)
      before x = let a = enabled_before (start pairs words) earlier log g h in
          let m =
          enabled_before (start pairs words) (Decide d.caller base true ∷ d.earlier) earlier x a in
          let it =
          change_there (state_of pairs words d.earlier).pieces (state_of pairs words earlier).pieces
          (grow_between pairs words d.earlier earlier a (goes_on_more (one_event (Decide d.caller base true) same_log) x)) base m.1.change m.1.pending.published in
          not_yet it.0 it.1 (decided_after d.caller base d.earlier earlier x a it.0 it.1)

      following : GoesOn earlier (Decide d.caller base true ∷ d.earlier) → Turning earlier log base
      following x = at (Decide d.caller base true ∷ d.earlier) refl x
        where
          at : (whole : Log) → whole ≡ Decide d.caller base true ∷ d.earlier → GoesOn earlier whole
              → Turning earlier log base
          at _ z same_log =
              absurd (before (subst (λ l. GoesOn (Decide d.caller base true ∷ d.earlier) l) (sym z) same_log))
          at _ z (one_event {log = rest} event y) =
              record { caller = d.caller; at = d.earlier; since = subst (λ r. GoesOn earlier r) (cc) y; until = d.decided }

  -- a change that turned to yes was decided so in between
  pub turning : (earlier log : Log) → GoesOn earlier log → EachEnabled (start pairs words) log
      → (base : ℕ) (old new : ChangeRow)
      → (state_of pairs words earlier).pieces base ≡ Some (Change old)
      → old.decision ≢ decided_yes → (state_of pairs words log).pieces base ≡ Some (Change new)
      → new.decision ≡ decided_yes → Turning earlier log base
  turning earlier log g h base old new e not_yet f said = grind (arith, turns_since, same_change)

module _ (pairs : List Pair) (words : ℕ) (opens : CanOpen pairs words) where
  -- a change at a finished node gets no Okay any more
  no_okay_on : (earlier log : Log) → GoesOn earlier log → EachEnabled (start pairs words) log
      → (base : ℕ) (change : ChangeRow)
      → (state_of pairs words earlier).pieces base ≡ Some (Change change)
      → IsFinished (state_of pairs words earlier) change.node → ¬ (Happened (Okays base) earlier)
      → ¬ (Happened (Okays base) log)
  no_okay_on earlier _ same_log h base change e f unseen k = unseen k
  no_okay_on earlier _ (one_event {log = log} event g) h base change e f unseen (inr k) =
      no_okay_on earlier log g h.0 base change e f unseen k
  no_okay_on earlier _ (one_event {log = log} event g) h base change e f unseen (inl k) =
      at event h k
    where
      t : Snapshot
      t = state_of pairs words log

      at : (ev : Event) → EachEnabled (start pairs words) (ev ∷ log) → Okays base ev → ⊥
      at (Okay caller b) j same = let grows = grow_between pairs words earlier log h.0 g in
          let it =
          change_there (state_of pairs words earlier).pieces t.pieces grows base change e in
          let can : CanOkay t caller base = subst (λ x. CanOkay t caller x) same j.1 in
          let one = same_change (t.pieces base) can.change it.0 can.pending.published it.1 in
          let node : can.change.node ≡ change.node =
          ap (λ c. c.node) one ∙ ap (λ c. c.node) it.2.others in
          open_unfinished pairs words opens log h.0 change.node
          (subst (λ x. IsOpen t x) node can.node_open)
          (finished_grows (state_of pairs words earlier) t grows change.node f)
      at _ j same = same

  -- a change without an Okay at a finished node is never decided yes
  pub never_yes : (earlier log : Log) → GoesOn earlier log → EachEnabled (start pairs words) log
      → (base : ℕ) (old new : ChangeRow)
      → (state_of pairs words earlier).pieces base ≡ Some (Change old)
      → IsFinished (state_of pairs words earlier) old.node → ¬ (Happened (Okays base) earlier)
      → old.decision ≢ decided_yes → (state_of pairs words log).pieces base ≡ Some (Change new)
      → new.decision ≢ decided_yes
  never_yes earlier log g h base old new e f unseen not_yet k said =
      let t = turning pairs words earlier log g h base old new e not_yet k said in
      let m = enabled_before (start pairs words) (Decide t.caller base true ∷ t.at) log t.until h in
      no_okay_on earlier t.at t.since m.0 base old e f unseen m.1.outcome
