-- What the code tests of a draw is what the condition says. Serves `drawing.rt`.
use Rattle.std.proofs.Common.{◌≡◌, ◌↔◌, ◌<◌, ◌≤◌, ◌≢◌, ℕ, IsTrue, true, nat_lt, Some, None, refl, sym, subst, arith, Bool, false, List, [], length, slice_get, ◌-◌, ◌+◌, ◌*◌, ◌^◌, min, take, Option, length-take}
use Rattle.std.proofs.lemmas.Bool.Decides.{nat_tests}
use Rattle.std.specs.Ordering.{nat_cmp}
use Rattle.ist_core.specs.declared.states.RebuildRow.{RebuildRow}
use Rattle.ist_core.specs.declared.lists.Row.{Row}
use Rattle.ist_core.specs.WordTerms.{degree, share_from, unset_word, Rebuild, InnerAt, ref_of, parts, part_len, cut}
use Rattle.ist_core.specs.LogTerms.{Snapshot, Log, Happened, Draws}
use Rattle.ist_core.specs.TreeTerms.{IsFinishedWith, CanDraw, PlacedLeaf, HasLeaves, CanPlace}
use Rattle.ist_core.proofs.AllWordLemmas.{same_rebuild, part_len-lt}
use Rattle.check_fairness.specs.Answers.{FindsGreatest}
use Rattle.check_events.specs.declared.replicas.Replica.{Replica}
use Rattle.check_events.specs.Mirroring.{Mirrors, RowHolds}
use Rattle.check_events.proofs.DecisionLemmas.{rebuild_stands}
use Rattle.ist_core.proofs.AllPlaceLemmas.{same_leaves, each_of_cut, part_of_each}
use Rattle.check_builds.specs.HeldRows.{HeldAreFree}
use Rattle.check_builds.specs.Reading.{Gathers}
use Rattle.check_builds.specs.Publishing.{MayPublish, HasPart, IsPartOf}
use Rattle.check_builds.specs.Built.{BuildsAt, part_lens_from, BuildsAll, CountsRows}
use Rattle.check_builds.proofs.PublishLemmas.{LeafStands, builds_ideal, ideal_builds}
use Rattle.check_builds.proofs.FitLemmas.{rows_there, leaves_there}
use Rattle.check_builds.proofs.PartCutLemmas.{all_parts}
use Rattle.std.specs.BTreeMap as tree

-- if nothing has P, everything with P is below the limit
pub none_below : (P : ℕ → Type 0) (limit : ℕ) → FindsGreatest P None
    → IsTrue true ↔ ((x : ℕ) → P x → x < limit)
none_below P limit h = ((λ _ x p. absurd (h x p)), (λ _. refl))

-- the greatest number with P is below the limit exactly if all with P are
pub most_below : (P : ℕ → Type 0) (limit most : ℕ) → FindsGreatest P (Some most)
    → IsTrue (nat_lt most limit) ↔ ((x : ℕ) → P x → x < limit)
most_below P limit most h = grind (arith, nat_tests)

-- the rebuild that the replica has is published
module _ (s : Replica) (t : Snapshot) (log : Log) (caller rebuild part : ℕ) (r : RebuildRow)
    (mirrors : Mirrors s t) (found : Some r ≡ tree.get nat_cmp s.rebuilds rebuild) where
  -- the row of the rebuild in the state
  e : t.pieces rebuild ≡ Some (Rebuild r)
  e = rebuild_stands s t rebuild mirrors r (sym found)

  -- the row of a draw is the published one
  same_row : (h : CanDraw t log caller rebuild part) → h.row ≡ r
  same_row h = same_rebuild (t.pieces rebuild) h.row r h.published e

  target_finished : (h : CanDraw t log caller rebuild part) → IsFinishedWith t r.target h.k
  target_finished h = subst (λ x. IsFinishedWith t x.target h.k) (same_row h) h.finished

  -- an unfinished target has no parts to draw
  pub draw_unfinished : ((k : ℕ) → ¬ (IsFinishedWith t r.target k))
      → ¬ (CanDraw t log caller rebuild part)
  draw_unfinished none h = none h.k (target_finished h)

  -- nor has one with few keys
  pub draw_unshared : (keys : ℕ) → ((k : ℕ) → IsFinishedWith t r.target k → k ≡ keys)
      → keys < share_from → ¬ (CanDraw t log caller rebuild part)
  draw_unshared keys one few h = let same = one h.k (target_finished h) in let many = h.shared in
      absurd (omega arith)

  -- what remains to be checked of a draw
  pub draw_is : (keys : ℕ) → caller < t.callers → r.root ≢ unset_word → r.draw ≡ part
      → IsFinishedWith t r.target keys
      → ((k : ℕ) → IsFinishedWith t r.target k → k ≡ keys) → share_from ≤ keys
      → ((x : ℕ) → Happened (Draws caller rebuild x) log → x < degree keys) ↔ CanDraw t log caller
      rebuild part
  draw_is keys known rooted is finished one many = (
    (λ below. grind (arith, e)),
    (λ h x d. subst (λ k. x < degree k) (one h.k (target_finished h)) (h.not_past x d)),
  )

-- ---- what is tested of the rows of a Place is what its condition says. Serves `building.rt`.

module _ (t : Snapshot) (word i target above : ℕ) (rows : List Row) where
  -- the leaves below the target
  abbrev Below : List PlacedLeaf → Type 0
  Below ls = HasLeaves t.pieces (Some (InnerAt target)) ls

  -- if no leaves were found below the target, there is no part over them
  pub no_part_found : (old new : List PlacedLeaf) (found : Bool) → found ≡ false
      → Gathers Below old found new → ¬ (HasPart t word i target above rows)
  no_part_found old new found none g h = grind arith

  -- the part over these leaves, which lie below the target, is the part over the target's leaves
  pub part_over : (leaves : List PlacedLeaf) → Below leaves
      → IsPartOf word i leaves above rows ↔ HasPart t word i target above rows
  part_over leaves reached = grind (arith, same_leaves)

  -- the part over the leaves that were found is the part over the target's leaves
  pub part_found : (old leaves : List PlacedLeaf) (found : Bool) → found ≡ true → old ≡ []
      → Gathers Below old found leaves
      → IsPartOf word i leaves above rows ↔ HasPart t word i target above rows
  part_found old leaves found some empty g = grind (arith, part_over)

module _ (word i above : ℕ) (leaves : List PlacedLeaf) (rows : List Row) where
  -- if there is no part i, nothing is built over it
  pub no_such_part : slice_get (parts leaves) i ≡ None → ¬ (IsPartOf word i leaves above rows)
  no_such_part none h = cc (h.part_is)

  -- the subtree over part i is the part
  pub such_part : (part : List PlacedLeaf) → slice_get (parts leaves) i ≡ Some part
      → BuildsAt word part above rows ↔ IsPartOf word i leaves above rows
  such_part part is = grind arith

-- a part that the rows are is one that may be placed
module _ (t : Snapshot) (caller : ℕ) (rows : List Row) (publish : MayPublish t caller rows)
    (free : HeldAreFree t) where
  -- a part may be placed exactly if the rows are the subtree over it
  pub part_fits : (rebuild i word root : ℕ) (row : RebuildRow) → caller < t.callers
      → t.pieces rebuild ≡ Some (Rebuild row) → ref_of row.root ≡ Some (InnerAt root)
      → RowHolds t root i unset_word
      → HasPart t word i row.target root rows ↔ CanPlace t caller rebuild i word rows
  part_fits rebuild i word root row known published root_is holds = (
    (λ h.
        let all = leaves_there t caller rows publish free (Some (InnerAt row.target)) h.leaves
        h.reached in
        record {
          known = known;
          row = row;
          published = published;
          root = root;
          root_is = root_is;
          root_row = holds.row;
          root_published = holds.published;
          free = holds.in_slot;
          leaves = h.leaves;
          reached = h.reached;
          part = h.part.part;
          part_is = h.part.part_is;
          ref = h.part.builds.ref;
          ref_is = h.part.builds.names;
          ideal = grind (arith, builds_ideal, rows_there, part_of_each, LeafStands, each_of_cut);
          once = publish.once;
          held = publish.held;
        }),
    (λ c. grind (arith, same_rebuild, ideal_builds, rows_there)),
  )

-- what a part that may be placed requires of its rows, and of the slot
module _ (t : Snapshot) (caller rebuild i word : ℕ) (rows : List Row) (c : CanPlace t caller rebuild
    i word rows) where
  -- rows that may be placed are held by the caller, each once
  pub place_publishes : MayPublish t caller rows
  place_publishes = record { held = c.held; once = c.once }

  module _ (row : RebuildRow) (published : t.pieces rebuild ≡ Some (Rebuild row)) where
    -- if the rebuild's root is this row, and the slot isn't Unset in it, no part may be placed
    pub no_free_root : (root : ℕ) → ((n : ℕ) → ref_of row.root ≡ Some (InnerAt n) → n ≡ root)
        → ¬ (RowHolds t root i unset_word) → ⊥
    no_free_root root one taken = grind (arith, same_rebuild)

-- ---- sizes of parts, and parts by a degree that was computed. Serves `leaves` and `building`.

-- ---- sizes

-- a part is smaller than the whole
pub part_smaller : (n j end : ℕ) (leaves : List PlacedLeaf) (more : ℕ) → 2 ≤ n → end
    ≡ min (part_len n j) (length leaves)
    → length (take end leaves) * 2 ^ 66 < (n - 1) * 2 ^ 66 + 1 + more
part_smaller n j end leaves more two is = let less = part_len-lt n j two in
    let long = length-take end leaves in omega arith

-- the parts of some leaves, by a degree that was computed
pub parts_by_degree : (leaves : List PlacedLeaf) (d : ℕ) (slots : List ℕ) (base : ℕ)
    (rows : List Row) (o : Option ℕ) → d ≡ degree (length leaves)
    → CountsRows (λ rs. BuildsAll slots (cut (part_lens_from (length leaves) 0 d) leaves) base rs) rows o
    → CountsRows (λ rs. BuildsAll slots (parts leaves) base rs) rows o
parts_by_degree leaves d slots base rows o e h = grind (arith, all_parts)

-- the same of one part
pub nth_by_degree : (leaves : List PlacedLeaf) (d i : ℕ) → d ≡ degree (length leaves)
    → slice_get (cut (part_lens_from (length leaves) 0 d) leaves) i ≡ slice_get (parts leaves) i
nth_by_degree leaves d i e = grind (arith, all_parts)
