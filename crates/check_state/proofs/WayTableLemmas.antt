-- The ways that a table has stay right after a longer log; and which keys lead to one child of a
-- node. Serves `ways.rt`.
use Rattle.std.proofs.Common.{◌≡◌, ◌↔◌, ◌≢◌, ◌∙◌, ◌⊎◌, ◌≤◌, ◌<◌, ◌+◌, ◌-◌, ◌^◌, ℕ, List, ◌∷◌, length, get_or, Some, sym, ap, subst, inl, inr, ⊎_elim, arith, true, false, eqb, Option}
use Rattle.std.proofs.lemmas.Grind.{common_steps}
use Rattle.std.specs.Ordering.{nat_cmp}
use Rattle.std.specs.BTreeMap.{BTreeMap}
use Rattle.std.specs.List.Sorted.{IsStrictlyIncreasing}
use Rattle.ist_core.specs.declared.events.Event.{Event}
use Rattle.ist_core.specs.declared.states.ChangeRow.{ChangeRow}
use Rattle.ist_core.specs.declared.pairs.Pair.{Pair}
use Rattle.ist_core.specs.WordTerms.{child_count, Change, start}
use Rattle.ist_core.specs.LogTerms.{Snapshot, Log, Lawful}
use Rattle.ist_core.specs.TreeTerms.{Linked, Leads, WasLinked, WasLedTo, IsUpdate, IsUpdateOf}
use Rattle.ist_core.proofs.AllPlaceLemmas.{child_count_tells}
use Rattle.ist_math.proofs.ChildLemmas.{child_count_is}
use Rattle.check_events.specs.declared.pasts.Slot.{Slot}
use Rattle.check_events.specs.declared.pasts.RowWay.{RowWay}
use Rattle.check_events.specs.Remembering.{KnowsSlots, KnowsWays, IsWay}
use Rattle.check_events.specs.Ways.{KeysStay}
use Rattle.check_events.proofs.WayUpLemmas.{ever_at, at_ever, linked_leads, climbs_is}
use Rattle.check_builds.proofs.TableLemmas.{updated_here, updated_other}
use Rattle.std.proofs.lemmas.Bool.Decides.{eqb_tells}
use Rattle.std.specs.BTreeSet.{BTreeSet}
use Rattle.ist_core.proofs.AllWordLemmas.{same_change}
use Rattle.check_fairness.specs.Answers.{Holds}
use Rattle.check_events.specs.declared.pasts.LastUpdate.{LastUpdate}
use Rattle.check_state.specs.Entries.{BeginsAt, Renews, CountsIn}
use Rattle.ist_core.proofs.AllLogLemmas.{ever_from, grow_between, inner_there}
use Rattle.std.specs.BTreeMap as tree
use Rattle.std.specs.BTreeSet as set

-- ---- a longer log

module _ (first : Snapshot) (log : Log) (event : Event) (slots : BTreeMap ℕ Slot)
    (k : KnowsSlots slots first (event ∷ log)) (stay : KeysStay first (event ∷ log)) where
  -- a key that leads to a node that was linked before led there before
  led_before : (key node : ℕ) → WasLinked first log node → WasLedTo first (event ∷ log) key node
      → WasLedTo first log key node
  led_before key node linked led =
      let climbs = (climbs_is first (event ∷ log) slots k stay key node).1 led in
      let was = ever_at first (λ t. Linked t node) log linked in
      at_ever first (λ t. Leads t key node) log was.0 was.1
      (linked_leads first (event ∷ log) slots k stay was.0 (inr was.1) key node was.2 climbs)

  -- the ways stay
  pub ways_stay : (ways : BTreeMap ℕ RowWay) → KnowsWays ways first log
      → KnowsWays ways first (event ∷ log)
  ways_stay ways h node way e = let it = h node way e in record {
    linked = inr it.linked;
    led = λ key low. (
      (λ led. (it.led key low).0 (led_before key node it.linked led)),
      (λ span. inr ((it.led key low).1 span)),
    );
    jump = ⊎_elim (λ a. inl a) (λ on. inr (inr on)) it.jump;
  }

-- two numbers are the same or not
pub same_or_not : (a b : ℕ) → (a ≡ b) ⊎ (a ≢ b)
same_or_not a b = grind arith

-- an empty table has no way
pub no_ways : (first : Snapshot) (log : Log) (empty : BTreeMap ℕ RowWay) → tree.IsEmpty empty
    → KnowsWays empty first log
no_ways first log empty none node way e = grind (arith, common_steps)

-- one more way in the table
pub way_added : (first : Snapshot) (log : Log) (old new : BTreeMap ℕ RowWay) (row : ℕ) (way : RowWay)
    → tree.Updates nat_cmp old new row (Some way) → IsWay first log row way
    → KnowsWays old first log → KnowsWays new first log
way_added first log old new row way u is h node found e = ⊎_elim
    (λ s.
    let there : Some way ≡ Some found = sym (updated_here old new row way u) ∙ sym (ap (tree.get nat_cmp new) s) ∙ e in
    let same : way ≡ found = cc in
    subst (λ w. IsWay first log node w) same (subst (λ n. IsWay first log n way) (sym s) is))
    (λ s. h node found (sym (updated_other old new row way u node s) ∙ e)) (same_or_not node row)

-- ---- the keys of one child

module _ (keys : List ℕ) (rise : IsStrictlyIncreasing keys) where
  -- the key before a child leads there or further on, and a smaller one doesn't
  from_low : (index key : ℕ) → index ≤ length keys → 0 < index → index ≡ child_count keys key
      → get_or keys (index - 1) 0 ≤ key
  from_low index key within some is = ⊎_elim (λ z. omega arith) (λ z. up z) zero_or_not
    where
      at : ℕ
      at = get_or keys (index - 1) 0

      zero_or_not : (at ≡ 0) ⊎ (0 < at)
      zero_or_not = grind arith

      up : 0 < at → at ≤ key
      up z =
          let before = child_count_is keys (at - 1) (index - 1) rise (omega arith) (λ _. omega arith)
          (λ more. let step = rise (index - 1 - 1) (omega arith) in
          let next : index - 1 - 1 + 1 ≡ index - 1 = omega arith in
          let lower = subst (λ i. get_or keys (index - 1 - 1) 0 < get_or keys i 0) next step in
          omega arith) in
          let less = child_count_tells keys (at - 1) key (omega arith) in omega arith

  -- a key for a child is below the key after the child
  below_next : (index key : ℕ) → index < length keys → index ≡ child_count keys key
      → key < get_or keys index 0
  below_next index key within is =
      let following = child_count_is keys (get_or keys index 0) (index + 1) rise (omega arith)
      (λ more. rise index more)
      (λ some. let next : index + 1 - 1 ≡ index = omega arith in
      let same = ap (λ i. get_or keys i 0) next in omega arith) in
      child_count_tells keys key (get_or keys index 0) (omega arith)

  -- the keys for one child are those from the key before it on and below the key after it
  pub span_is : (index low high : ℕ) → index ≤ length keys
      → (0 < index → low ≡ get_or keys (index - 1) 0) → (index ≡ 0 → low ≡ 0)
      → (index < length keys → high + 1 ≡ get_or keys index 0)
      → (index ≡ length keys → high + 1 ≡ 2 ^ 64) → (key : ℕ) → key < 2 ^ 64
      → (index ≡ child_count keys key) ↔ ((low ≤ key) × (key ≤ high))
  span_is index low high within from none to end key word = (
    (λ is. (
      ⊎_elim (λ z. let a = none z in omega arith)
          (λ some. let a = from some in let b = from_low index key within some is in omega arith)
          (first_or_later index),
      ⊎_elim (λ e. let a = end e in omega arith)
          (λ less. let a = to less in let b = below_next index key less is in omega arith)
          (last_or_less index within),
    )),
    (λ h. let l = h.0 in let u = h.1 in
        sym (child_count_is keys key index rise within
        (λ less. let a = to less in omega arith) (λ some. let a = from some in omega arith))),
  )
    where
      first_or_later : (i : ℕ) → (i ≡ 0) ⊎ (0 < i)
      first_or_later i = grind arith

      last_or_less : (i : ℕ) → i ≤ length keys → (i ≡ length keys) ⊎ (i < length keys)
      last_or_less i h = grind arith

-- ---- what becomes of the entries of the table of updates. Serves `updating.rt`.

-- a number is another one, or isn't
abbrev SameOrNot : ℕ → ℕ → Type 0
SameOrNot x y = ◌⊎◌ ((eqb x y ≡ true) × (x ≡ y)) ((eqb x y ≡ false) × (x ≢ y))

-- the caller's entry, if there is one
abbrev entry : BTreeMap ℕ LastUpdate → ℕ → Option LastUpdate
entry updates caller = tree.get nat_cmp updates caller

-- a set with one more number holds it, and what it held
pub inserted_more : (old new : BTreeSet ℕ) (k : ℕ) → set.Updates nat_cmp old new k true → (x : ℕ)
    → Holds new x ↔ (Holds old x ⊎ (x ≡ k))
inserted_more old new k u x = grind (arith, eqb_tells, common_steps)

-- ---- a yes

-- an entry of the change that has no node begins there
begins_at : (last : LastUpdate) (change : ℕ) → last.change ≡ change → ((x : ℕ) → ¬ (Holds last.counted x))
    → BeginsAt (Some last) change
begins_at last change is none node base = ((λ l. sym is ∙ l.0), (λ e. (is ∙ e, none node)))

module _ (t : Snapshot) (change : ℕ) (row : ChangeRow) (e : t.pieces change ≡ Some (Change row))
  where
    -- a published change is an update of its owner only
    owner_is : (caller : ℕ) → IsUpdateOf t caller change → caller ≡ row.owner
    owner_is caller it = grind (arith, same_change)

    -- if a new entry is put under the owner of a put or remove, the entries are as a yes makes them
    pub renewed : (old new : BTreeMap ℕ LastUpdate) (last : LastUpdate) → IsUpdate row.kind
        → last.change ≡ change → ((x : ℕ) → ¬ (Holds last.counted x))
        → tree.Updates nat_cmp old new row.owner (Some last) → (caller : ℕ)
        → Renews t change caller (tree.get nat_cmp old caller) (tree.get nat_cmp new caller)
    renewed old new last kind is none u caller = at (eqb_tells caller row.owner)
      where
        at : SameOrNot caller row.owner → Renews t change caller (entry old caller) (entry new caller)
        at (inl k) =
            let here : entry new caller ≡ Some last =
            ap (entry new) k.1 ∙ updated_here old new row.owner last u in
            inl (
              record { change = row; published = e; owned = sym k.1; update = kind },
              subst (λ o. BeginsAt o change) (sym here) (begins_at last change is none),
            )
        at (inr k) =
            inr ((λ it. k.1 (owner_is caller it)), updated_other old new row.owner last u caller k.1)

-- ---- a Count

module _ (caller node : ℕ) where
  -- an entry of the caller gets the node
  entry_counted : (other : ℕ) (last next : LastUpdate) → caller ≡ other → next.change ≡ last.change
      → ((x : ℕ) → Holds next.counted x ↔ (Holds last.counted x ⊎ (x ≡ node)))
      → CountsIn caller node other (Some last) (Some next)
  entry_counted other last next same change more at base = grind arith

  -- an entry of another stays
  entry_kept : (other : ℕ) → caller ≢ other → (o : Option LastUpdate) → CountsIn caller node other o
      o
  entry_kept other ne o at base = ((λ l. (l, λ both. ne both.0)), (λ k. k.0))

  -- if the caller's entry gets the node, the entries are as a Count makes them
  pub counted_in : (old new : BTreeMap ℕ LastUpdate) (last next : LastUpdate)
      → tree.get nat_cmp old caller ≡ Some last → next.change ≡ last.change
      → ((x : ℕ) → Holds next.counted x ↔ (Holds last.counted x ⊎ (x ≡ node)))
      → tree.Updates nat_cmp old new caller (Some next) → (other : ℕ)
      → CountsIn caller node other (tree.get nat_cmp old other) (tree.get nat_cmp new other)
  counted_in old new last next had change more u other = at (eqb_tells other caller)
    where
      at : SameOrNot other caller → CountsIn caller node other (entry old other) (entry new other)
      at (inl k) = grind (arith, updated_here, entry_counted)
      at (inr k) = let stays = updated_other old new caller next u other k.1 in
          subst (λ o. CountsIn caller node other (entry old other) o) (sym stays)
          (entry_kept other (λ e. k.1 (sym e)) (entry old other))

-- ---- after a lawful log an inner row keeps its keys. Serves `ways.rt`.

module _ (pairs : List Pair) (words : ℕ) (log : Log) (lawful : Lawful pairs words log) where
  -- an inner row keeps its keys
  pub keys_stay : KeysStay (start pairs words) log
  keys_stay node r ever = grind (arith, ever_from, inner_there, grow_between)
