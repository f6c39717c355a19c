-- What is tested of the rows of a Root is what its condition says. Serves `building.rt`.
use Rattle.std.proofs.Common.{◌≡◌, ◌↔◌, ◌∙◌, ◌<◌, ℕ, List, [], ◌∷◌, Option, Some, true, sym, ap, subst, arith}
use Rattle.ist_core.specs.declared.lists.Row.{Row}
use Rattle.ist_core.specs.declared.states.RebuildRow.{RebuildRow}
use Rattle.ist_core.specs.WordTerms.{Ref, InnerAt, unset_word, finished_word, Pieces, Rebuild, with_inners}
use Rattle.ist_core.specs.LogTerms.{Each, Snapshot, bases_of}
use Rattle.ist_core.specs.TreeTerms.{PlacedLeaf, HasLeaves, IsStarted, IsFinishedWith, IsRoot, root_whole, root_top, CanRoot}
use Rattle.ist_core.proofs.AllPlaceLemmas.{same_leaves, each_mapped}
use Rattle.ist_core.proofs.AllWordLemmas.{same_rebuild, same_inner}
use Rattle.check_builds.specs.HeldRows.{HeldAreFree}
use Rattle.check_builds.specs.Reading.{Gathers}
use Rattle.check_builds.specs.Publishing.{MayPublish, HasRootOf}
use Rattle.check_builds.specs.Built.{IsRootOf, whole, top_alone}
use Rattle.check_builds.proofs.PublishLemmas.{StandsAsSaid, LeafStands, leaf_kept, held_is_free, rows_stand, leaves_stand, builds_ideal, ideal_builds}

-- ---- roots

module _ (qs : Pieces) (word k : ℕ) (leaves : List PlacedLeaf) (target : ℕ) (rows : List Row)
    (stand : Each (StandsAsSaid qs) rows) where
  root_by_rows : IsRoot qs word k leaves target (bases_of rows) → IsRootOf word k leaves target rows
  root_by_rows (root_whole ref few e ideal) = grind (arith, ideal_builds)
  root_by_rows (root_top base row many e top unset one) = alone rows one stand
    where
      alone : (rs : List Row) → bases_of rs ≡ base ∷ [] → Each (StandsAsSaid qs) rs → IsRootOf word k
          leaves target rs
      alone [] one stands = absurd (cc)
      alone (x ∷ y ∷ rs) one stands = absurd (cc)
      alone (x ∷ []) one stands = grind arith

  root_by_bases : Each (LeafStands qs) leaves → IsRootOf word k leaves target rows
      → IsRoot qs word k leaves target (bases_of rows)
  root_by_bases there (whole few b) = root_whole b.ref few b.names (builds_ideal qs b.ref leaves
      target rows b.builds stand there)
  root_by_bases there (top_alone many t) =
      let stands = subst (λ rs. Each (StandsAsSaid qs) rs) t.rows_are stand in
      let top = t.top.is_top in root_top t.row.base t.top.top many t.names
      record {
        published = stands.0 ∙ top.read;
        two = top.two;
        higher = top.higher;
        status = top.status;
        count = top.count;
        degree = top.degree;
        size = top.size;
        keys = top.keys;
      } t.top.slots_are (ap bases_of t.rows_are)

-- the rows and the leaves, published
module _ (t : Snapshot) (caller : ℕ) (rows : List Row) (publish : MayPublish t caller rows)
    (free : HeldAreFree t) where
  -- each of the rows is published as its words say
  pub rows_there : Each (StandsAsSaid (with_inners t.pieces rows)) rows
  rows_there = rows_stand t.pieces rows publish.once (held_is_free t caller rows publish.held free)

  -- the leaves below a reference are still published
  pub leaves_there : (ref : Option Ref) (leaves : List PlacedLeaf) → HasLeaves t.pieces ref leaves
      → Each (LeafStands (with_inners t.pieces rows)) leaves
  leaves_there ref leaves has = grind (arith, each_mapped, LeafStands, leaf_kept, leaves_stand)

  -- a root that the rows are is one that may be published
  pub root_is : (rebuild word k : ℕ) (row : RebuildRow) → caller < t.callers
      → t.pieces rebuild ≡ Some (Rebuild row) → IsStarted t rebuild → row.root ≡ unset_word
      → IsFinishedWith t row.target k
      → HasRootOf t word k row.target rows ↔ CanRoot t caller rebuild word rows
  root_is rebuild word k row known published started rootless finished = (
    (λ h. record {
      known = known;
      row = row;
      published = published;
      started = started;
      rootless = rootless;
      k = k;
      finished = finished;
      leaves = h.leaves;
      reached = h.reached;
      root = root_by_bases (with_inners t.pieces rows) word k h.leaves row.target rows rows_there
          (leaves_there (Some (InnerAt row.target)) h.leaves h.reached) h.root;
      once = publish.once;
      held = publish.held;
    }),
    (λ c. let same = same_rebuild (t.pieces rebuild) c.row row c.published published in
        let target : c.row.target ≡ row.target = ap (λ r. r.target) same in
        let inner = same_inner (t.pieces row.target) (subst (λ n. IsFinishedWith t n c.k) target
        c.finished).row finished.row (subst (λ n. IsFinishedWith t n c.k) target
        c.finished).published finished.published in
        let words : finished_word c.k ≡ finished_word k = sym (subst (λ n. IsFinishedWith t n c.k)
        target c.finished).status ∙ ap (λ r. r.status) inner ∙ finished.status in
        let keys : c.k ≡ k = omega arith in record {
          leaves = c.leaves;
          reached = grind arith;
          root = subst (λ m. IsRootOf word m c.leaves row.target rows) keys
              (subst (λ n. IsRootOf word c.k c.leaves n rows) target
              (root_by_rows (with_inners t.pieces rows) word c.k c.leaves c.row.target rows
              rows_there c.root));
        }),
  )

-- what may not be published may not be a root
pub root_publishes : (t : Snapshot) (caller rebuild word : ℕ) (rows : List Row)
    → CanRoot t caller rebuild word rows → MayPublish t caller rows
root_publishes t caller rebuild word rows c = record { held = c.held; once = c.once }

-- a rebuild whose target isn't finished gets no root
pub root_unfinished : (t : Snapshot) (caller rebuild word : ℕ) (rows : List Row) (row : RebuildRow)
    → t.pieces rebuild ≡ Some (Rebuild row) → ((k : ℕ) → ¬ (IsFinishedWith t row.target k))
    → ¬ (CanRoot t caller rebuild word rows)
root_unfinished t caller rebuild word rows row published none c =
    none c.k (subst (λ r. IsFinishedWith t r.target c.k) (same_rebuild (t.pieces rebuild) c.row row
    c.published published) c.finished)

-- ---- leaves that were gathered

module _ (t : Snapshot) (word k target : ℕ) (rows : List Row) where
  -- these leaves lie below the target
  abbrev pub Below : List PlacedLeaf → Type 0
  Below ls = HasLeaves t.pieces (Some (InnerAt target)) ls

  -- if the target has no leaves, there is no root over them
  pub no_root : ((ls : List PlacedLeaf) → ¬ (Below ls)) → ¬ (HasRootOf t word k target rows)
  no_root none h = none h.leaves h.reached

  -- the root over the leaves that were found is the root over the target's leaves
  pub root_over : (found : List PlacedLeaf) → Gathers Below [] true found
      → IsRootOf word k found target rows ↔ HasRootOf t word k target rows
  root_over found g = grind (arith, same_leaves)
