-- What a look at a slot saw was the tree's at one moment, on the way of the search for the key. Serves the search law.
use Rattle.std.proofs.Common.{◌≡◌, ℕ, true, List, [], ◌∷◌, slice_get, Option, Some, None, option_map, refl, sym, ap, ◌∙◌, subst, inr, ⊎_elim, arith}
use Rattle.ist_core.specs.declared.pairs.Pair.{Pair}
use Rattle.ist_core.specs.declared.states.InnerRow.{InnerRow}
use Rattle.ist_core.specs.declared.states.ChangeRow.{ChangeRow}
use Rattle.ist_core.specs.declared.events.Event.TheVariants.{Decide}
use Rattle.ist_core.specs.WordTerms.{child_count, Ref, ChangeAt, ref_of, word_of, decided_yes, Inner, Change, with_decision, start, SlotHolds, in_anchor, in_row, IsChildFor, of_anchor, of_row, past_rebuild, logical}
use Rattle.ist_core.specs.LogTerms.{Snapshot, Log, Happened, Passes, GoesOn, same_log, one_event, EachEnabled, CanOpen, state_of}
use Rattle.ist_core.specs.TreeTerms.{Leads, KeepsWord, holds_it, holds_change}
use Rattle.ist_core.proofs.AllWordLemmas.{changed_at-same, same_change, same_inner}
use Rattle.ist_core.proofs.AllLogLemmas.{inner_there, change_there, child_remains, get_alike, enabled_before, grow_between, change_read, side_not_yes, goes_on_more, past_no_change}
use Rattle.ist_core.proofs.AllPlaceLemmas.{anchor_free, slot_once, no_row, SideNames, SlotNames, IsChangeFor, slot_names, names, slot_stays}
use Rattle.ist_core.proofs.FrozenLemmas as frozen
use Rattle.laws_links.specs.Linking.{IsFinished}
use Rattle.laws_links.proofs.FormLemmas.{finished_grows}
use Rattle.laws_links.proofs.InductionLemmas.{sound_after}
use Rattle.laws_links.proofs.ReadLemmas.{side_yes, plain_side}
use Rattle.laws_histories.proofs.PassLemmas.{passed_plain}
use Rattle.laws_histories.proofs.LedLemmas.{AllNeeds, led_step, WasLeft, led_on}
use Rattle.laws_histories.proofs.ReadLemmas.{side_reads, change_logical, IsTurned, word_reads, ReadsAs}
use Rattle.laws_histories.proofs.DecisionLemmas.{unfinished, turning, never_yes}

-- after some log in between the node was led to, and its slot for the key read as this reference
pub record Saw (pairs : List Pair) (words key : ℕ) (earlier log : Log) (node : ℕ)
    (ref : Option Ref) : Type 0 where
  pub at : Log
  pub since : GoesOn earlier at
  pub until : GoesOn at log
  pub led : Leads (state_of pairs words at) key node
  pub index : ℕ
  pub index_is : IsChildFor (state_of pairs words at) node key index
  pub read : ReadsAs (state_of pairs words at) node index ref

-- what a slot of an inner row holds is in its list
pub row_holds : (t : Snapshot) (node i word : ℕ) (r : InnerRow) → t.pieces 2 ≡ None
    → t.pieces node ≡ Some (Inner r) → SlotHolds t node i word → slice_get r.slots i ≡ Some word
row_holds t node i word r free e (in_row s f g) = grind (arith, same_inner)
row_holds t node i word r free e (in_anchor a b c) = absurd (no_row t.pieces node r free a e)

module _ (pairs : List Pair) (words : ℕ) (opens : CanOpen pairs words)
    (needs : AllNeeds pairs words) where
  -- a change of the slot was decided yes while the node was led to: after the Decide it still is,
  -- and the slot reads as `to`
  saw_turned : (key : ℕ) (loaded now : Log) → GoesOn loaded now
      → EachEnabled (start pairs words) now
      → (node i word : ℕ) (ref : Option Ref) → Leads (state_of pairs words loaded) key node
      → IsChildFor (state_of pairs words loaded) node key i
      → IsTurned (state_of pairs words loaded) (state_of pairs words now) node i (ref_of word)
      → logical (state_of pairs words now).pieces word ≡ ref
      → Saw pairs words key loaded now node ref
  unfolding AllNeeds
  saw_turned key loaded now g h node i word ref led index it reads =
      let turn =
      turning pairs words loaded now g h it.base it.old it.new it.published it.not_yet it.later it.yes in
      let mid = turn.at in let log = Decide turn.caller it.base true ∷ mid in
      let m = enabled_before (start pairs words) log now turn.until h in
      let first = state_of pairs words loaded in let t = state_of pairs words mid in
      let u = state_of pairs words log in let last = state_of pairs words now in let can = m.1 in
      let n = needs mid m.0 in let to_mid = grow_between pairs words loaded mid m.0 turn.since in
      let old = change_there first.pieces t.pieces to_mid it.base it.old it.published in
      let same = same_change (t.pieces it.base) old.0 can.change old.1 can.pending.published in
      let node_is : can.change.node ≡ node =
      sym (ap (λ c. c.node) same) ∙ ap (λ c. c.node) old.2.others ∙ it.node_is in
      let index_is : can.change.index ≡ i =
      sym (ap (λ c. c.index) same) ∙ ap (λ c. c.index) old.2.others ∙ it.index in
      let never : IsFinished t node → ⊥ =
      λ f. unfinished pairs words opens mid m.0 n it.base can.change can.pending can.outcome (subst (λ x. IsFinished t x) (sym node_is) f) in
      let led_mid : Leads t key node =
      ⊎_elim (λ x. x)
      (λ w. absurd (never (finished_grows (state_of pairs words w.at) t (grow_between pairs words w.at mid m.0 w.until) node w.finished)))
      (led_on pairs words opens needs loaded mid turn.since m.0 key node led) in
      let led_now : Leads u key node =
      ⊎_elim (λ x. x) (λ f. absurd (never f))
      (led_step pairs words opens mid (Decide turn.caller it.base true) m n key node led_mid) in
      let slot : SlotHolds t node i (word_of (ChangeAt it.base)) =
      subst (λ j. SlotHolds t node j (word_of (ChangeAt it.base))) index_is
      (subst (λ x. SlotHolds t x can.change.index (word_of (ChangeAt it.base))) node_is (n.in_slot it.base can.change can.pending)) in
      let turned : ChangeRow = record (can.change) { decision = decided_yes } in
      let there : u.pieces it.base ≡ Some (Change turned) =
      changed_at-same t.pieces it.base (with_decision decided_yes)
      ∙ ap (option_map (with_decision decided_yes)) can.pending.published in
      let on = grow_between pairs words log now h turn.until in
      let later = change_there u.pieces last.pieces on it.base turned there in
      let to : it.new.to ≡ can.change.to =
      ap (λ c. c.to) (same_change (last.pieces it.base) it.new later.0 it.later later.1)
      ∙ ap (λ c. c.to) later.2.others in
      let row = (names pairs words opens log m).rows it.base (Change turned) there in record {
        at = log;
        since = one_event (Decide turn.caller it.base true) turn.since;
        until = turn.until;
        led = led_now;
        index = i;
        index_is = child_remains first u
            (grow_between pairs words loaded log m (one_event (Decide turn.caller it.base true) turn.since)) node key i index;
        read = record {
          word = word_of (ChangeAt it.base);
          holds = slot_stays (start pairs words) mid (Decide turn.caller it.base true) can
              (sound_after pairs words mid m.0) tt node i (word_of (ChangeAt it.base)) slot;
          reads = change_logical u.pieces (word_of (ChangeAt it.base)) it.base turned
              (change_read pairs words opens log m it.base turned there) there
              ∙ ap (λ w. past_rebuild u.pieces (ref_of w)) (side_yes turned refl)
              ∙ sym (side_reads u.pieces last.pieces on turned.node turned.index (ref_of turned.to) row.1)
              ∙ ap (λ w. past_rebuild last.pieces (ref_of w)) (sym (side_yes it.new it.yes ∙ to))
              ∙ sym (change_logical last.pieces word it.base it.new it.is it.later) ∙ reads;
        };
      }

  -- the node is led to when the slot is loaded
  pub saw_led : (key : ℕ) (loaded now : Log) → GoesOn loaded now
      → EachEnabled (start pairs words) now
      → (node i word : ℕ) (ref : Option Ref) → Leads (state_of pairs words loaded) key node
      → IsChildFor (state_of pairs words loaded) node key i
      → SlotHolds (state_of pairs words loaded) node i word
      → logical (state_of pairs words now).pieces word ≡ ref
      → Saw pairs words key loaded now node ref
  saw_led key loaded now g h node i word ref led index slot reads =
      let o = names pairs words opens loaded (enabled_before (start pairs words) loaded now g h) in
      let first = state_of pairs words loaded in ⊎_elim
      (λ same. record { at = loaded; since = same_log; until = g; led = led; index = i; index_is = index; read = record { word = word; holds = slot; reads = sym same ∙ reads } })
      (λ it. saw_turned key loaded now g h node i word ref led index it reads)
      (word_reads first (state_of pairs words now) (grow_between pairs words loaded now h g) o node i (ref_of word) (slot_names first node i word o slot))

module _ (pairs : List Pair) (words : ℕ) (opens : CanOpen pairs words) where
  -- what a slot was passed with may be put into it
  passed_side : (log : Log) → EachEnabled (start pairs words) log → (node i v : ℕ)
      → Happened (Passes node i v) log
      → SideNames (state_of pairs words log).pieces node i (ref_of v)
  passed_side log h node i v p = at (frozen.closed pairs words opens log h node i v p).keeps
    where
      t : Snapshot
      t = state_of pairs words log

      at : KeepsWord t log node i v → SideNames t.pieces node i (ref_of v)
      at (holds_it k) = let plain = passed_plain (start pairs words) log node i v h p in
          plain_side t.pieces node i (ref_of v)
          (slot_names t node i v (names pairs words opens log h) k) plain.set plain.no_change
      at (holds_change x) = let o = names pairs words opens log h in
          let here : IsChangeFor t.pieces node i x.base =
          subst (λ ref. SlotNames t.pieces node i ref)
          (change_read pairs words opens log h x.base x.change x.published)
          (slot_names t node i (word_of (ChangeAt x.base)) o x.in_slot) in
          let same = same_change (t.pieces x.base) here.row x.change here.published x.published in
          let row = o.rows x.base (Change x.change) x.published in
          subst (λ w. SideNames t.pieces node i (ref_of w)) x.from
          (subst (λ j. SideNames t.pieces node j (ref_of x.change.from)) (sym (ap (λ c. c.index) same) ∙ here.index)
          (subst (λ b. SideNames t.pieces b x.change.index (ref_of x.change.from)) (sym (ap (λ c. c.node) same) ∙ here.node_is) row.0))

  -- a word that was loaded from a slot of a finished node always reads as what the slot was passed
  -- with
  reads_passed : (loaded now : Log) → GoesOn loaded now → EachEnabled (start pairs words) now
      → (node i word v : ℕ) → IsFinished (state_of pairs words loaded) node
      → SlotHolds (state_of pairs words loaded) node i word → Happened (Passes node i v) loaded
      → logical (state_of pairs words now).pieces word ≡ past_rebuild (state_of pairs words now).pieces (ref_of v)
  reads_passed loaded now g h node i word v f slot p =
      at (frozen.closed pairs words opens loaded l node i v p).keeps
    where
      t : Snapshot
      t = state_of pairs words loaded

      u : Snapshot
      u = state_of pairs words now

      l : EachEnabled (start pairs words) loaded
      l = enabled_before (start pairs words) loaded now g h

      at : KeepsWord t loaded node i v → logical u.pieces word ≡ past_rebuild u.pieces (ref_of v)
      at (holds_it k) = ap (logical u.pieces)
          (slot_once t node i word v (anchor_free pairs words loaded l) slot k)
          ∙ ap (past_rebuild u.pieces)
          (past_no_change u.pieces (ref_of v) (passed_plain (start pairs words) loaded node i v l p).no_change)
      at (holds_change x) =
          let same =
          slot_once t node i word (word_of (ChangeAt x.base))
          (anchor_free pairs words loaded l) slot x.in_slot in
          let is = change_read pairs words opens loaded l x.base x.change x.published in
          let here : IsChangeFor t.pieces node i x.base =
          subst (λ ref. SlotNames t.pieces node i ref) is
          (slot_names t node i (word_of (ChangeAt x.base)) (names pairs words opens loaded l) x.in_slot) in
          let one = same_change (t.pieces x.base) here.row x.change here.published x.published in
          let node_is : x.change.node ≡ node = sym (ap (λ c. c.node) one) ∙ here.node_is in
          let it =
          change_there t.pieces u.pieces
          (grow_between pairs words loaded now h g) x.base x.change x.published in
          let none =
          never_yes pairs words opens loaded now g h x.base x.change it.0 x.published
          (subst (λ b. IsFinished t b) (sym node_is) f) x.unseen x.not_yes it.1 in
          change_logical u.pieces word x.base it.0 (ap ref_of same ∙ is) it.1
          ∙ ap (λ w. past_rebuild u.pieces (ref_of w))
          (side_not_yes it.0 none ∙ ap (λ c. c.from) it.2.others ∙ x.from)

module _ (pairs : List Pair) (words : ℕ) (opens : CanOpen pairs words)
    (needs : AllNeeds pairs words) where
  -- the node was finished before the slot is loaded
  pub saw_left : (key : ℕ) (first loaded now : Log) → GoesOn loaded now
      → EachEnabled (start pairs words) now
      → (node i word : ℕ) (ref : Option Ref) → WasLeft pairs words key first loaded node
      → IsChildFor (state_of pairs words loaded) node key i
      → SlotHolds (state_of pairs words loaded) node i word
      → logical (state_of pairs words now).pieces word ≡ ref
      → Saw pairs words key first now node ref
  unfolding AllNeeds
  saw_left key first loaded now g h node i word ref was index slot reads =
      let l = enabled_before (start pairs words) loaded now g h in let at = was.at in
      let m = enabled_before (start pairs words) at loaded was.until l in
      let a = state_of pairs words at in let t = state_of pairs words loaded in
      let u = state_of pairs words now in let row = was.finished.1.row in
      let grows = grow_between pairs words at loaded l was.until in
      let all = goes_on_more was.until g in
      let it = inner_there a.pieces t.pieces grows node row was.finished.1.published in
      let here = row_holds t node i word it.0 (anchor_free pairs words loaded l) it.1 slot in
      let old = get_alike it.0.slots row.slots i word (sym it.2.slots) here in
      let held : SlotHolds a node i old.0 = in_row row was.finished.1.published old.1 in
      let v = (needs at m).passed node i old.0 was.finished held in let p = v.1 in record {
        at = at;
        since = was.since;
        until = all;
        led = was.led;
        index = i;
        index_is = of_row row was.finished.1.published
            (index_back it.0 it.1 it.2.keys (anchor_free pairs words loaded l) index);
        read = record {
          word = old.0;
          holds = held;
          reads = frozen.frozen_reads pairs words opens at m node i v.0 old.0 p held
              ∙ sym (side_reads a.pieces u.pieces (grow_between pairs words at now h all) node i (ref_of v.0) (passed_side pairs words opens at m node i v.0 p))
              ∙ sym (reads_passed pairs words opens loaded now g h node i word v.0 (finished_grows a t grows node was.finished) slot (on_happened v.0 at loaded was.until p))
              ∙ reads;
        };
      }
    where
      index_back : (x : InnerRow) → (state_of pairs words loaded).pieces node ≡ Some (Inner x)
          → x.keys ≡ was.finished.1.row.keys → (state_of pairs words loaded).pieces 2 ≡ None
          → IsChildFor (state_of pairs words loaded) node key i
          → i ≡ child_count was.finished.1.row.keys key
      index_back x e same free (of_anchor a b) = grind (arith, no_row)
      index_back x e same free (of_row r k b) = grind (arith, same_inner)

      on_happened : (v : ℕ) (a b : Log) → GoesOn a b → Happened (Passes node i v) a
          → Happened (Passes node i v) b
      on_happened v a _ same_log p = p
      on_happened v a _ (one_event {log = log} event g) p = inr (on_happened v a log g p)
