-- What follows if all conditions of an event hold, and which conditions are never the first that is
-- false. Serves `explaining.rt`.
use Rattle.std.proofs.Common.{◌≡◌, ◌≢◌, ◌∙◌, ◌⊎◌, ◌+◌, ◌*◌, ℕ, Bool, true, false, List, Some, None, refl, sym, ap, ⊎_elim, arith, ◌<◌, suc, [], ◌∷◌, ◌++◌, length, get_or, take, drop, reverse, Option, subst, drop-cons}
use Rattle.std.proofs.lemmas.Bool.{false≢true}
use Rattle.ist_core.specs.declared.events.Event.{Event}
use Rattle.ist_core.specs.declared.events.Event.TheVariants.{Enter, Install, Count, Pass, Root, Draw, Place, Lose}
use Rattle.ist_core.specs.declared.pairs.Pair.{Pair}
use Rattle.ist_core.specs.declared.states.InnerRow.{InnerRow}
use Rattle.ist_core.specs.LogTerms.{Enabled, Lawful, state_of, Log, Snapshot, CanOpen}
use Rattle.ist_core.specs.WordTerms.{Inner, unset_word, SlotHolds, in_row, logical, past_change, past_rebuild, start, marked_word}
use Rattle.ist_core.proofs.AllWordLemmas.{ref_of-unset}
use Rattle.laws_links.proofs.ClosedLemmas.{closed_was_linked}
use Rattle.laws_links.proofs.FormedLemmas.{rooted_is_finished}
use Rattle.laws_links.proofs.LinkLemmas.{linked_or_finished}
use Rattle.laws_links.proofs.ContentLemmas.{linked_set}
use Rattle.ist_check.specs.declared.conditions.Condition.{Condition}
use Rattle.ist_check.specs.declared.conditions.Condition.TheVariants.{Finished, InSlot, Known, Marked, NoChange, Published, Set}
use Rattle.ist_check.specs.Conditions.{says_of, pass_says, draw_says}
use Rattle.ist_check.specs.Failing.{TellsCondition}
use Rattle.ist_check.specs.Verdicts.{IsCovered, IsFirstUnlawful, FailsAt}
use Rattle.std.proofs.lemmas.List.{take_more, take-append-drop, reverse-append, length-take-le}
use Rattle.std.specs.BTreeMap.{BTreeMap}
use Rattle.check_events.specs.declared.replicas.Replica.{Replica}
use Rattle.check_events.specs.Mirroring.{Mirrors}
use Rattle.check_events.specs.Remembering.{KnowsSlots, KnowsWays}
use Rattle.check_events.specs.declared.pasts.Past.{Past}
use Rattle.check_events.specs.declared.pasts.Slot.{Slot}
use Rattle.check_events.specs.declared.pasts.RowWay.{RowWay}
use Rattle.ist_check.specs.Knowing.{Knows, Remembers}

-- ---- if all hold

-- an event of which all conditions hold may come
pub all_hold : (first : Snapshot) (log : Log) (event : Event) → TellsCondition (says_of first log event) None
    → Enabled first log event
all_hold first log (Enter caller) t = t.1.0
all_hold first log (Install caller change rows) t = t.1.1.1.1.1.1.1.1.0
all_hold first log (Count caller node) t = t.1.1.0
all_hold first log (Pass caller node i word) t = t.1.1.1.1.1.0
all_hold first log (Root caller rebuild word rows) t = t.1.1.1.1.1.1.0
all_hold first log (Draw caller rebuild part) t = t.1.1.1.1.1.1.0
all_hold first log (Place caller rebuild part word rows) t = t.1.1.1.1.1.0
all_hold first log (Lose caller bases) t = t.1.0
all_hold first log _ t = t.1.1.1.0

-- ---- conditions that those before them cover

-- conditions that a test distinguishes are different
differ : (test : Condition → Bool) (a b : Condition) → test a ≡ true → test b ≡ false → ¬ (a ≡ b)
differ test a b here there e = false≢true (sym there ∙ ap test (sym e) ∙ here)

abbrev is_set : Condition → Bool
is_set Set = true
is_set _ = false

-- if it isn't the one, it is the other
other : {A B : Type 0} → A ⊎ B → ¬ A → B
other t isnt = ⊎_elim (λ a. absurd (isnt a)) (λ b. b) t

module _ (pairs : List Pair) (words : ℕ) (log : Log) (law : Lawful pairs words log) where
  abbrev t : Snapshot
  t = state_of pairs words log

  -- no slot of a marked row is Unset: the row is linked
  marked_set : (node i word : ℕ) (row : InnerRow) → t.pieces node ≡ Some (Inner row)
      → SlotHolds t node i word → row.status ≡ marked_word → word ≢ unset_word
  marked_set node i word row published slot marked unset = ⊎_elim
      (λ linked. linked_set pairs words law.opens log law.enabled node i word linked slot
      (ap (logical t.pieces) unset
      ∙ ap (λ o. past_rebuild t.pieces (past_change t.pieces o)) ref_of-unset))
      (λ f. let same : f.1.row ≡ row = cc (f.1.published) in
      let odd : f.1.row.status ≡ 4 * f.0 + 3 = f.1.status in
      let one : f.1.row.status ≡ 1 = ap (λ r. r.status) same ∙ marked in
      omega arith)
      (linked_or_finished pairs words law.opens log law.enabled node
      (closed_was_linked pairs words law.opens log law.enabled node row published
      (λ e. let one : row.status ≡ 1 = marked in omega arith)))

  -- if the other conditions of a Pass hold, its word is set
  pass_set : (caller node i word : ℕ) → ¬ (TellsCondition (pass_says t caller node i word) (Some Set))
  pass_set caller node i word t0 =
      let t1 = other t0 (λ here. differ is_set Set Known refl refl here.0) in
      let t2 = other t1.1 (λ here. differ is_set Set Published refl refl here.0) in
      let t3 = other t2.1 (λ here. differ is_set Set Marked refl refl here.0) in
      let t4 = other t3.1 (λ here. differ is_set Set InSlot refl refl here.0) in
      let t5 = other t4.1 (λ here. differ is_set Set NoChange refl refl here.0) in
      let marked = t3.0 in let in_slot = t4.0 in
      let same : in_slot.row ≡ marked.row = cc (in_slot.published, marked.published) in
      let status = ap (λ r. r.status) same ∙ marked.says in ⊎_elim
      (λ here. here.1 record {
        known = t1.0;
        row = in_slot.row;
        published = in_slot.published;
        marked = status;
        in_slot = in_slot.says;
        no_change = t5.0;
        set = marked_set node i word in_slot.row in_slot.published
            (in_row in_slot.row in_slot.published in_slot.says) status;
      })
      (λ rest. rest.1)
      t5.1

  -- if a rebuild has a root, its target is finished
  draw_finished : (caller rebuild part : ℕ)
      → ¬ (TellsCondition (draw_says t log caller rebuild part) (Some Finished))
  draw_finished caller rebuild part t0 = grind (arith, differ, rooted_is_finished)

  -- so neither is the first that is false
  pub not_covered : (event : Event) (condition : Condition)
      → TellsCondition (says_of (start pairs words) log event) (Some condition)
      → ¬ (IsCovered event condition)
  not_covered (Pass caller node i word) Set tells k = pass_set caller node i word tells
  not_covered (Draw caller rebuild part) Finished tells k = draw_finished caller rebuild part tells
  not_covered _ _ tells k = absurd k

-- ---- the events that were checked so far, and those that are left. Serves `judging.rt`.

module _ (events : List Event) (at : ℕ) (event : Event) (below : at < length events)
    (is : event ≡ get_or events at event) where
  -- the log after the event is the log before it with the event added
  pub reverse_more : reverse (take (at + 1) events) ≡ event ∷ reverse (take at events)
  reverse_more =
      ap reverse (take_more events at event below ∙ ap (λ e. take at events ++ e ∷ []) (sym is))
      ∙ reverse-append (take at events) (event ∷ [])

  -- the event precedes those after it
  rest : drop at events ≡ event ∷ drop (at + 1) events
  rest = drop-cons events at event below ∙ ap (λ e. e ∷ drop (suc at) events) (sym is)
      ∙ (let next : suc at ≡ at + 1 = omega arith in ap (λ n. event ∷ drop n events) next)

  -- an event that may not come after a lawful log of those before it is the first such event, and fails in
  -- the way of the first of its conditions that is false
  pub refused_at : (pairs : List Pair) (words : ℕ) (condition : Condition)
      → Lawful pairs words (reverse (take at events))
      → ¬ (Enabled (start pairs words) (reverse (take at events)) event)
      × TellsCondition (says_of (start pairs words) (reverse (take at events)) event) (Some condition)
      → IsFirstUnlawful pairs words events at × FailsAt pairs words events at condition
  refused_at pairs words condition lawful why =
      let events_are = sym (take-append-drop at events) ∙ ap (λ es. take at events ++ es) rest in
      let at_is = sym (length-take-le at events (omega arith)) in (
        record {
          before = take at events;
          event = event;
          after_it = drop (at + 1) events;
          events_are = events_are;
          at_is = at_is;
          lawful = lawful;
          refused = why.0;
        },
        record {
          before = take at events;
          event = event;
          after_it = drop (at + 1) events;
          events_are = events_are;
          at_is = at_is;
          lawful = lawful;
          fails = why.1;
          uncovered = not_covered pairs words (reverse (take at events)) lawful event condition why.1;
        },
      )

-- what the other tables hold doesn't depend on the slots and the ways
slots_apart : (past : Past) (slots : BTreeMap ℕ Slot) (ways : BTreeMap ℕ RowWay) (pairs : List Pair) (words : ℕ) (log : Log)
    → Remembers past pairs words log → Remembers (record past { slots = slots; ways = ways }) pairs words log
slots_apart past slots ways pairs words log it = grind arith

module _ (replica : Replica) (past : Past) (pairs : List Pair) (words : ℕ) (log : Log)
    (event : Event)
    (knows : Knows replica past pairs words log) (may : Enabled (start pairs words) log event) where
  -- an event that may come makes the log longer
  pub lawful_more : Lawful pairs words (event ∷ log)
  lawful_more = record { opens = knows.lawful.opens; enabled = (knows.lawful.enabled, may) }

  -- the checker knows what it should after the event, if the replica and the tables are brought forward
  pub known_more : {following : Replica} {after_it : Past} {slots : BTreeMap ℕ Slot} {ways : BTreeMap ℕ RowWay}
      {more : Log} → more ≡ event ∷ log
      → (Mirrors replica (state_of pairs words log) → Mirrors following (state_of pairs words (event ∷ log)))
      → (Lawful pairs words (event ∷ log) → Mirrors replica (state_of pairs words log)
      → Remembers past pairs words log → Remembers after_it pairs words (event ∷ log))
      → after_it.slots ≡ past.slots → after_it.ways ≡ past.ways
      → (Lawful pairs words (event ∷ log) → Mirrors following (state_of pairs words (event ∷ log))
      → KnowsSlots after_it.slots (start pairs words) log → KnowsSlots slots (start pairs words) (event ∷ log))
      → (Lawful pairs words (event ∷ log) → Mirrors following (state_of pairs words (event ∷ log))
      → KnowsSlots slots (start pairs words) (event ∷ log) → KnowsWays after_it.ways (start pairs words) log
      → KnowsWays ways (start pairs words) (event ∷ log))
      → Knows following (record after_it { slots = slots; ways = ways }) pairs words more
  known_more {following = following} {after_it = after_it} {slots = slots} {ways = ways} is advanced remembered
      same_slots same_ways linked led =
      let mirrors = advanced knows.mirrors in
      let now = linked lawful_more mirrors
      (subst (λ m. KnowsSlots m (start pairs words) log) (sym same_slots) knows.slots) in
      subst (Knows following (record after_it { slots = slots; ways = ways }) pairs words) (sym is) record {
        lawful = lawful_more;
        mirrors = mirrors;
        slots = now;
        ways = led lawful_more mirrors now
            (subst (λ m. KnowsWays m (start pairs words) log) (sym same_ways) knows.ways);
        remembers = slots_apart after_it slots ways pairs words (event ∷ log)
            (remembered lawful_more knows.mirrors knows.remembers);
      }

-- what the checker knows of a new table
pub first_known : {replica : Replica} {past : Past} {pairs : List Pair} {words : ℕ} → CanOpen pairs words
    → Mirrors replica (start pairs words)
    → (CanOpen pairs words → Mirrors replica (start pairs words) → KnowsSlots past.slots (start pairs words) [])
    → (CanOpen pairs words → Mirrors replica (start pairs words) → KnowsWays past.ways (start pairs words) [])
    → (CanOpen pairs words → Mirrors replica (start pairs words) → Remembers past pairs words [])
    → Knows replica past pairs words []
first_known opens mirrors slots ways exact = grind arith

-- an option that is no `Some` is `None`
pub is_none : {A : Type 0} (o : Option A) → ((x : A) → o ≢ Some x) → o ≡ None
is_none None other = refl
is_none (Some x) other = absurd (other x refl)
