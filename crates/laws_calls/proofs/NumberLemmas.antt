-- There are at most as many leaves as pairs at the start plus puts since. Serves the finish law.
use Rattle.std.proofs.Common.{List, Option, Some, T, [], ap, arith, false, filter, inl, inr, length, length-append, map, refl, slice_get, subst, suc, sym, true, zero, ℕ, if◌then◌else◌, ◌*◌, ◌++◌, ◌+◌, ◌-◌, ◌==◌, ◌∙◌, ◌∷◌, ◌≡◌, ◌≢◌, ◌≤◌, ◌⊎◌}
use Rattle.std.proofs.lemmas.Bool.Decides.{eqb_tells}
use Rattle.std.proofs.lemmas.List.Elements.{filter-append}
use Rattle.std.proofs.lemmas.List.{length-map}
use Rattle.std.specs.Cmp.{nat_cmp_total}
use Rattle.std.specs.FinMap.{nat_cmp-IsAntisymmetric, same_map}
use Rattle.std.specs.List.Sorted.{IsStrictlyIncreasing}
use Rattle.std.specs.Ordering.{nat_cmp}
use Rattle.ist_core.specs.declared.commands.Command.TheVariants.{Get, Put, Remove}
use Rattle.ist_core.specs.declared.commands.Command.{Command}
use Rattle.ist_core.specs.declared.events.Event.TheVariants.{Finish}
use Rattle.ist_core.specs.declared.events.Event.{Event}
use Rattle.ist_core.specs.declared.pairs.Pair.{Pair}
use Rattle.ist_core.specs.declared.states.InnerRow.{InnerRow}
use Rattle.ist_core.specs.TreeTerms.{Entry, changes_of, map_after_entries, HasLeaves, PlacedLeaf, SlotsHaveLeaves, no_slot, one_slot, row_here, Linked, at_anchor, below, Map, map_after, map_of}
use Rattle.ist_core.specs.LogTerms.{CanOpen, EachEnabled, state_of, Log, Snapshot}
use Rattle.ist_core.specs.WordTerms.{Inner, Pieces, InnerAt, Ref, anchor, SlotHolds, in_anchor, in_row, logical, start, finished_word}
use Rattle.ist_core.proofs.AllPlaceLemmas.{is_sorted-rising, anchor_free, no_row, one_kept, one_less, length-pairs_of}
use Rattle.ist_core.proofs.AllWordLemmas.{same_inner}
use Rattle.laws_links.proofs.ComesLemmas.{status_comes, start_quiet}
use Rattle.laws_links.proofs.PassLemmas.{StatusComes, finished_now, is_new, marked_now, status_was}
use Rattle.laws_links.proofs.UntouchedLemmas.{not_the_anchor}
use Rattle.laws_links.proofs.ContentLemmas.{finishing_linked}
use Rattle.laws_links.proofs.KeepingContentLemmas.{leaves_step}
use Rattle.laws_links.proofs.NumberLemmas.{number_is}
use Rattle.laws_histories.proofs.ChangeLemmas.{changes_on}
use Rattle.laws_histories.proofs.ContentLemmas.{contents_at}
use Rattle.laws_calls.specs.Finishing.{is_put, puts_in}
use Rattle.std.specs.FinMap as fin

-- ---- parts of the tree

-- a slot has at most as many leaves as all slots together
record HasFew (ps : Pieces) (ref : Option Ref) (most : ℕ) : Type 0 where
  leaves : List PlacedLeaf
  reached : HasLeaves ps ref leaves
  few : length leaves ≤ most

slot_few : (ps : Pieces) (words : List ℕ) (leaves : List PlacedLeaf)
    → SlotsHaveLeaves ps words leaves
    → (i word : ℕ) → slice_get words i ≡ Some word → HasFew ps (logical ps word) (length leaves)
slot_few ps _ _ no_slot i word e = absurd (cc)
slot_few ps _ _ (one_slot {word = w} {here = here} {rest = rest} first more) zero word e =
    let same : w ≡ word = cc in let long = length-append here rest in
    subst (λ x. HasFew ps (logical ps x) (length (here ++ rest))) same record {
      leaves = here;
      reached = first;
      few = omega arith;
    }
slot_few ps _ _ (one_slot {words = words} {here = here} {rest = rest} first more) (suc i) word e =
    let it = slot_few ps words rest more i word e in let long = length-append here rest in
    let low = it.few in record { leaves = it.leaves; reached = it.reached; few = omega arith }

-- the leaves below a slot of an inner row
row_few : (t : Snapshot) (node i word : ℕ) (leaves : List PlacedLeaf) → node ≢ anchor
    → HasLeaves t.pieces (Some (InnerAt node)) leaves → SlotHolds t node i word
    → HasFew t.pieces (logical t.pieces word) (length leaves)
row_few t node i word leaves ne has (in_anchor a b e) = absurd (ne a)
row_few t node i word leaves ne (row_here r e slots) (in_row s f g) =
    grind (arith, same_inner, slot_few)

-- ---- maps

len_after : (m : Map) (entries : List Entry)
    → fin.len (map_after_entries m entries) ≤ fin.len m + puts_in entries
len_after m [] = omega arith
len_after m (e ∷ es) = at e.command refl (len_after (map_after m e.command) es)
  where
    at : (c : Command) → e.command ≡ c
        → fin.len (map_after_entries (map_after m e.command) es) ≤ fin.len (map_after m e.command)
        + puts_in es
        → fin.len (map_after_entries (map_after m e.command) es) ≤ fin.len m + puts_in (e ∷ es)
    at (Put key value) is rest =
        let long = ap (λ c. length (if is_put c then e ∷ filter (λ x. is_put x.command) es else
        filter (λ x. is_put x.command) es)) is in
        let map_is = ap (λ c. fin.len (map_after m c)) is ∙ fin.len-insert nat_cmp_total m key
        value in
        let low = one_kept (fin.contains_key m key) (fin.len m) in omega arith
    at (Remove key) is rest =
        let long = ap (λ c. length (if is_put c then e ∷ filter (λ x. is_put x.command) es else
        filter (λ x. is_put x.command) es)) is in
        let map_is = ap (λ c. fin.len (map_after m c)) is ∙ fin.len-remove nat_cmp_total m key in
        let low = one_less (fin.contains_key m key) (fin.len m) in omega arith
    at (Get key) is rest = grind arith

-- the map of pairs with strictly increasing keys has one entry for each pair
abbrev entry : Pair → ℕ × ℕ
entry p = (p.key, p.value)

keys-entries : (pairs : List Pair) → map (λ (e : ℕ × ℕ). e.0) (map entry pairs) ≡ map (λ p. p.key)
    pairs
keys-entries [] = refl
keys-entries (p ∷ pairs) = ap (λ ks. p.key ∷ ks) (keys-entries pairs)

map_long : (pairs : List Pair) → IsStrictlyIncreasing (map (λ p. p.key) pairs)
    → fin.len (map_of pairs) ≡ length pairs
map_long pairs rise = let es = map entry pairs in
    let sorted = is_sorted-rising es (subst IsStrictlyIncreasing (sym (keys-entries pairs)) rise) in
    let holds : T (fin.is_sorted nat_cmp es) = subst T (sym sorted) tt in
    let same : map_of pairs ≡ fin.from_sorted es =
    fin.same_map nat_cmp_total fin.nat_cmp-IsAntisymmetric _ _
    (λ q. fin.get-from_entries nat_cmp_total es q ∙ sym (fin.get-from_sorted nat_cmp es q holds)) in
    ap (λ m. fin.len m) same ∙ fin.len-entries (fin.from_sorted es)
    ∙ ap length (fin.entries-from_sorted nat_cmp es holds) ∙ length-map pairs _

-- more entries have at least as many puts
pub puts_rise : (old more new : List Entry) → new ≡ old ++ more → puts_in old ≤ puts_in new
puts_rise old more new e =
    let parts = ap (λ xs. length (filter (λ x. is_put x.command) xs)) e
    ∙ ap length (filter-append (λ x. is_put x.command) old more)
    ∙ length-append (filter (λ x. is_put x.command) old) (filter (λ x. is_put x.command) more) in
    omega arith

module _ (pairs : List Pair) (words : ℕ) (opens : CanOpen pairs words) where
  -- the tree has at most as many leaves as there were pairs at the start plus puts since
  contents_few : (log : Log) → EachEnabled (start pairs words) log
      → HasFew (state_of pairs words log).pieces (logical (state_of pairs words log).pieces
      (state_of pairs words log).anchor)
      (length pairs + puts_in (changes_of pairs words log))
  contents_few log h = grind (arith, contents_at, length-map, length-pairs_of, len_after, map_long)

  -- a linked row has at most as many leaves below it as the tree
  linked_few : (log : Log) → EachEnabled (start pairs words) log → (most : ℕ)
      → HasFew (state_of pairs words log).pieces (logical (state_of pairs words log).pieces
      (state_of pairs words log).anchor) most
      → (node : ℕ) → Linked (state_of pairs words log) node → node ≢ anchor
      → HasFew (state_of pairs words log).pieces (Some (InnerAt node)) most
  linked_few log h most all _ at_anchor ne = absurd (ne refl)
  linked_few log h most all _ (below {node = node} {child = child} i l c) ne =
      subst (λ o. HasFew (state_of pairs words log).pieces o most) c.reads
      (slot node c.holds (eqb_tells node anchor) (λ apart. linked_few log h most all node l apart))
    where
      slot : (node : ℕ) → SlotHolds (state_of pairs words log) node i c.word
          → (((node == anchor) ≡ true) × (node ≡ anchor)) ⊎ (((node == anchor) ≡ false)
          × (node ≢ anchor))
          → (node ≢ anchor → HasFew (state_of pairs words log).pieces (Some (InnerAt node)) most)
          → HasFew (state_of pairs words log).pieces (logical (state_of pairs words log).pieces
          c.word) most
      slot node (in_anchor a b e) k up = grind arith
      slot node (in_row r p g) (inl k) up = grind (arith, no_row, anchor_free)
      slot node (in_row r p g) (inr k) up = let above = up k.1 in
          let it = row_few (state_of pairs words log) node i c.word above.leaves k.1 above.reached
          (in_row r p g) in
          let low = it.few in let lower = above.few in
          record { leaves = it.leaves; reached = it.reached; few = omega arith }

  -- a row is finished with at most as many keys as there were pairs at the start plus puts since
  pub finished_few : (log : Log) → EachEnabled (start pairs words) log → (node k : ℕ) (r : InnerRow)
      → (state_of pairs words log).pieces node ≡ Some (Inner r) → r.status ≡ finished_word k
      → k ≤ length pairs + puts_in (changes_of pairs words log)
  finished_few [] h node k r e is =
      let open_status : r.status ≡ 0 = start_quiet pairs words node (Inner r) e in
      let odd : r.status ≡ 4 * k + 3 = is in absurd (omega arith)
  finished_few (event ∷ log) h node k r e is =
      by_origin event h e (status_comes pairs words log event h node r e)
      (λ s old same. finished_few log h.0 node k s old same)
    where
      rise : (event : Event) → puts_in (changes_of pairs words log) ≤ puts_in
          (changes_of pairs words (event ∷ log))
      rise event = grind (arith, changes_on, puts_rise)

      by_origin : (event : Event) → EachEnabled (start pairs words) (event ∷ log)
          → (state_of pairs words (event ∷ log)).pieces node ≡ Some (Inner r)
          → StatusComes (start pairs words) log node r.status event
          → ((s : InnerRow) → (state_of pairs words log).pieces node ≡ Some (Inner s)
          → s.status ≡ finished_word k
          → k ≤ length pairs + puts_in (changes_of pairs words log))
          → k ≤ length pairs + puts_in (changes_of pairs words (event ∷ log))
      by_origin event all there (status_was s old same) before =
          let low = before s old (sym same ∙ is) in let more = rise event in omega arith
      by_origin event all there (is_new none same) before = grind arith
      by_origin _ all there (marked_now can same) before = grind arith
      by_origin _ all there (finished_now {caller = caller} {keys = keys} can same) before =
          let apart = not_the_anchor pairs words opens log all.0 node can.row can.published in
          let it = linked_few log all.0 (length pairs + puts_in (changes_of pairs words log))
          (contents_few log all.0) node (finishing_linked pairs words opens log all.0 caller node
          keys can) apart in
          let later = leaves_step pairs words opens log (Finish caller node keys) all tt
          (Some (InnerAt node)) it.leaves it.reached in
          let number = number_is pairs words opens (Finish caller node keys ∷ log) all node k
          it.leaves record { row = r; published = there; status = is } later in
          let low = it.few in let more = rise (Finish caller node keys) in omega arith
