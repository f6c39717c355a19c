-- The state after an event, in the cases of the code. Serves `advancing.rt`.
use Rattle.std.proofs.Common.{◌≡◌, ◌≢◌, ◌∙◌, ℕ, Bool, true, false, List, [], ◌∷◌, Option, Some, refl, sym, ap, subst, arith}
use Rattle.std.specs.Prelude.{Result, OnOk}
use Rattle.ist_core.specs.declared.pairs.Pair.{Pair}
use Rattle.ist_core.specs.declared.lists.Row.{Row}
use Rattle.ist_core.specs.declared.states.RebuildRow.{RebuildRow}
use Rattle.ist_core.specs.declared.events.Event.{Event}
use Rattle.ist_core.specs.declared.events.Event.TheVariants.{Enter, Reserve, Install, Okay, Decide, Resolve, Count, Mark, Pass, Finish, Root, Draw, Place, Lose}
use Rattle.ist_core.specs.WordTerms.{InnerAt, ref_of, Pieces, changed_at, with_slot, with_decision}
use Rattle.ist_core.specs.LogTerms.{Snapshot, bases_of, without, after, decision_word, installed, placed, Log, Lawful, state_of}
use Rattle.check_events.specs.declared.replicas.Replica.{Replica}
use Rattle.check_events.specs.Mirroring.{Mirrors}
use Rattle.check_state.specs.Advancing.{TakesNoRows}
use Rattle.std.specs.Ordering.{nat_cmp}
use Rattle.std.specs.BTreeMap.{BTreeMap}
use Rattle.check_events.specs.declared.pasts.LastUpdate.{LastUpdate}
use Rattle.check_state.specs.Entries.{CountsIn, Renews}
use Rattle.check_state.proofs.UpdateLemmas.{RightUpdates, updates_refused, updates_renewed, updates_counted, updates_kept}
use Rattle.std.specs.BTreeMap as tree

-- the event is the one that was matched
pub by_event : (r : Replica) (t : Snapshot) (e f : Event) → e ≡ f → Mirrors r (after t f)
    → Mirrors r (after t e)
by_event r t e f is h = subst (λ x. Mirrors r (after t x)) (sym is) h

-- what brings a replica forward by the event that was matched does so by the event
pub done_by : {E : Type 0} (r s : Replica) {e f : Event} (result : Result (Unit {0}) E) → e ≡ f
    → OnOk result ((t : Snapshot) → Mirrors r t → Mirrors s (after t f))
    → OnOk result ((t : Snapshot) → Mirrors r t → Mirrors s (after t e))
done_by r s result is = grind arith

-- what is right after the event that was matched is right after the event
pub at_event : (pairs : List Pair) (words : ℕ) (log : Log) (Right : Log → Type 0) (e f : Event) → e
    ≡ f → Lawful pairs words (e ∷ log) → (Lawful pairs words (f ∷ log) → Right (f ∷ log))
    → Right (e ∷ log)
at_event pairs words log Right e f is law right = grind arith

-- an event that isn't one of those that take rows takes none
pub takes_none : (e : Event) → ((c b n : ℕ) → e ≢ Reserve c b n)
    → ((c x : ℕ) (rows : List Row) → e ≢ Install c x rows)
    → ((c r w : ℕ) (rows : List Row) → e ≢ Root c r w rows)
    → ((c r i w : ℕ) (rows : List Row) → e ≢ Place c r i w rows)
    → ((c : ℕ) (bases : List ℕ) → e ≢ Lose c bases) → TakesNoRows e
takes_none (Reserve c b n) reserve install root place lose = absurd (reserve c b n refl)
takes_none (Install c x rows) reserve install root place lose = absurd (install c x rows refl)
takes_none (Root c r w rows) reserve install root place lose = absurd (root c r w rows refl)
takes_none (Place c r i w rows) reserve install root place lose = absurd (place c r i w rows refl)
takes_none (Lose c bases) reserve install root place lose = absurd (lose c bases refl)
takes_none _ reserve install root place lose = tt

-- of those that take no rows, an Okay and a Pass write nothing
module _ (r : Replica) (t : Snapshot) where
  -- an event of no kind that writes leaves the replica right
  pub nothing_written : (e : Event) → ((c : ℕ) → e ≢ Enter c)
      → ((c x : ℕ) (said : Bool) → e ≢ Decide c x said) → ((c x : ℕ) → e ≢ Resolve c x)
      → ((c n : ℕ) → e ≢ Count c n) → ((c n : ℕ) → e ≢ Mark c n)
      → ((c n k : ℕ) → e ≢ Finish c n k) → ((c b i : ℕ) → e ≢ Draw c b i)
      → TakesNoRows e → Mirrors r t → Mirrors r (after t e)
  nothing_written (Enter c) enter decide resolve count mark finish draw none h = absurd (enter c refl)
  nothing_written (Decide c x said) enter decide resolve count mark finish draw none h =
      absurd (decide c x said refl)
  nothing_written (Resolve c x) enter decide resolve count mark finish draw none h =
      absurd (resolve c x refl)
  nothing_written (Count c n) enter decide resolve count mark finish draw none h =
      absurd (count c n refl)
  nothing_written (Mark c n) enter decide resolve count mark finish draw none h =
      absurd (mark c n refl)
  nothing_written (Finish c n k) enter decide resolve count mark finish draw none h =
      absurd (finish c n k refl)
  nothing_written (Draw c b i) enter decide resolve count mark finish draw none h =
      absurd (draw c b i refl)
  nothing_written (Okay c x) enter decide resolve count mark finish draw none h = h
  nothing_written (Pass c n i w) enter decide resolve count mark finish draw none h = h
  nothing_written _ enter decide resolve count mark finish draw none h = absurd none

-- an Install holds as much as before, until its rows are taken away
pub held_installed : (t : Snapshot) (base : ℕ) (rows : List Row) → (installed t base rows).held
    ≡ t.held
held_installed t base [] = refl
held_installed t base (row ∷ fresh) = grind arith

-- an Install is done once its rows are published, and then given up
pub installed_given_up : {r s u : Replica} (base : ℕ) {rows fresh gone : List Row} → fresh ≡ rows → gone ≡ rows
    → ((t : Snapshot) → Mirrors r t → Mirrors s (installed t base fresh))
    → ((t : Snapshot) → Mirrors s t → Mirrors u (record t { held = without (bases_of gone) t.held }))
    → (t : Snapshot) → Mirrors r t
    → Mirrors u (record (installed t base rows) { held = without (bases_of rows) t.held })
installed_given_up {s = s} {u = u} base {rows = rows} same out put give t h =
    let there = subst (λ xs. Mirrors s (installed t base xs)) same (put t h) in
    subst (λ held. Mirrors u (record (installed t base rows) { held = without (bases_of rows) held }))
    (held_installed t base rows)
    (subst (λ xs. Mirrors u (record (installed t base rows) {
      held = without (bases_of xs) (installed t base rows).held;
    })) out (give (installed t base rows) there))

-- the word of a decision
pub decided_so : (r : Replica) (t : Snapshot) (base word : ℕ) (said : Bool) → word ≡ decision_word
    said
    → Mirrors r (record t { pieces = changed_at t.pieces base (with_decision word) })
    → Mirrors r (record t {
      pieces = changed_at t.pieces base (with_decision (decision_word said));
    })
decided_so r t base word said e h = grind arith

-- the word of a yes
pub yes_word : (word : ℕ) (said : Bool) → said ≡ true → word ≡ 1 → word ≡ decision_word said
yes_word word said e is = is ∙ ap decision_word (sym e)

-- the word of a no
pub no_word : (word : ℕ) (said : Bool) → said ≡ false → word ≡ 2 → word ≡ decision_word said
no_word word said e is = is ∙ ap decision_word (sym e)

-- ---- a Place

module _ (r : Replica) (t : Snapshot) (qs : Pieces) (part word : ℕ) (o : Option RebuildRow) where
  -- the word is in the slot of the root
  pub placed_some : (row : RebuildRow) (root : ℕ) → o ≡ Some row → ref_of row.root
      ≡ Some (InnerAt root)
      → Mirrors r (record t { pieces = changed_at qs root (with_slot part word) })
      → Mirrors r (record t { pieces = placed qs o part word })
  placed_some row root e names h = grind arith

-- ---- the callers' last updates are right after each kind of event, in the cases of the code. Serves
-- `updating.rt`.

module _ (replica : Replica) (e : Event) (old new : BTreeMap ℕ LastUpdate) where
  -- the event takes the map from the old one to the new one; the replica shows the state before it
  abbrev pub RemembersUpdate : Type 0
  RemembersUpdate = (pairs : List Pair) (words : ℕ) (log : Log) → Lawful pairs words (e ∷ log)
      → Mirrors replica (state_of pairs words log) → RightUpdates pairs words old log
      → RightUpdates pairs words new (e ∷ log)

  -- a yes starts a new entry for the change's owner
  pub yes_renews : (by base : ℕ) (said : Bool) → e ≡ Decide by base said → said ≡ true
      → ((t : Snapshot) → Mirrors replica t → (caller : ℕ)
      → Renews t base caller (tree.get nat_cmp old caller) (tree.get nat_cmp new caller))
      → RemembersUpdate
  yes_renews by base said is so renews pairs words log law mirrors known =
      at_event pairs words log (RightUpdates pairs words new) e (Decide by base true)
      (is ∙ ap (Decide by base) so) law
      (λ lawful. updates_renewed pairs words log by base lawful old new
      (renews (state_of pairs words log) mirrors) known)

  -- a Count adds its node to the entry of who counts
  pub count_adds : (by node : ℕ) → e ≡ Count by node
      → ((other : ℕ)
      → CountsIn by node other (tree.get nat_cmp old other) (tree.get nat_cmp new other))
      → RemembersUpdate
  count_adds by node is counts pairs words log law mirrors known =
      at_event pairs words log (RightUpdates pairs words new) e (Count by node) is law
      (λ lawful. updates_counted pairs words log by node lawful old new counts known)

module _ (replica : Replica) (e : Event) (updates : BTreeMap ℕ LastUpdate) where
  -- a no leaves the map
  pub no_leaves : (by base : ℕ) (said : Bool) → e ≡ Decide by base said → said ≡ false
      → RemembersUpdate replica e updates updates
  no_leaves by base said is so pairs words log law mirrors known =
      at_event pairs words log (RightUpdates pairs words updates) e (Decide by base false)
      (is ∙ ap (Decide by base) so) law
      (λ lawful. updates_refused pairs words log by base lawful updates known)

  -- any other event leaves the map too
  pub others_leave : ((c b : ℕ) (x : Bool) → e ≢ Decide c b x) → ((c n : ℕ) → e ≢ Count c n)
      → RemembersUpdate replica e updates updates
  others_leave no_decide no_count pairs words log law mirrors known = grind (arith, updates_kept)
