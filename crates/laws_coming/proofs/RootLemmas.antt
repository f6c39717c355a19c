-- What was built for a root may be put in place, or lost. Serves `laws.builds_come`.
use Rattle.std.proofs.Common.{◌≡◌, ◌≢◌, ℕ, ◌+◌, ◌≤◌, List, [], ◌∷◌, Some, refl, sym, ◌∙◌, subst, inr, ⊎_elim, arith}
use Rattle.std.proofs.lemmas.Bool.Decides.{eqb_tells}
use Rattle.ist_core.specs.declared.events.Event.TheVariants.{Root, Lose}
use Rattle.ist_core.specs.declared.lists.Row.{Row}
use Rattle.ist_core.specs.declared.states.RebuildRow.{RebuildRow}
use Rattle.ist_core.specs.declared.events.Who.TheVariants.{Caller}
use Rattle.ist_core.specs.WordTerms.{rebuild_root_offset, shape, unset_word, Rebuild, start}
use Rattle.ist_core.specs.LogTerms.{Snapshot, bases_of, sizes_of, HoldsRows, Log, IsBuild, build_whole, build_top, Distinct, state_of, IsShown}
use Rattle.ist_core.specs.TreeTerms.{HoldsSizes, IsBeaten, CanRoot, RebuildGrows, IsStarted, IsFinishedWith}
use Rattle.ist_core.proofs.AllEventLemmas.{held_free}
use Rattle.ist_core.proofs.AllLogLemmas.{enabled_before, rebuild_there, goes_on_by}
use Rattle.ist_core.proofs.AllWordLemmas.{shape_none, shape_one}
use Rattle.laws_links.proofs.FormLemmas.{finished_with_grows, started_grows}
use Rattle.laws_links.proofs.InductionLemmas.{sound_after}
use Rattle.laws_links.proofs.NumberLemmas.{number_is}
use Rattle.ist_rule.specs.RuleTerms.{IsSound, now, MayCome, CanMake, StoredAll, CanExchange, LeavesAt, CanExchangeOrLose}
use Rattle.ist_rule.specs.declared.view.View.{View}
use Rattle.ist_rule.proofs.EventLemmas.{callers_later}
use Rattle.ist_rule.proofs.WatchLemmas.{shown_in_row}
use Rattle.laws_stability.proofs.HoldingLemmas.{rows_later}
use Rattle.laws_coming.specs.Builds.{IsRootBuilt, WasUnset}
use Rattle.laws_coming.proofs.BeatenLemmas.{beaten_root, without_later}
use Rattle.laws_coming.proofs.KnownLemmas.{exchange_comes, grow, in_piece, fast_known, gone_missed}
use Rattle.laws_coming.proofs.SizeLemmas.{IsRootSizes, of_whole, of_top, root_sizes}

-- ---- rows of a build

-- rows that a caller holds it holds by their bases and sizes
pub holds_sizes : (t : Snapshot) (caller : ℕ) (rows : List Row) → HoldsRows t caller rows
    → HoldsSizes t caller (bases_of rows) (sizes_of rows)
holds_sizes t caller [] held = tt
holds_sizes t caller (row ∷ rows) held = (held.0, holds_sizes t caller rows held.1)

-- the rows of a build for a started rebuild are lost if another's build of their sizes came first
pub rows_lost : (v : View) (s : IsSound v) (number rebuild k : ℕ) (rows : List Row)
    → v.who ≡ Caller number → (row : RebuildRow)
    → (now v).pieces rebuild ≡ Some (Rebuild row) → IsStarted (now v) rebuild
    → IsFinishedWith (now v) row.target k → Distinct (bases_of rows) → HoldsRows (now v) number rows
    → IsBuild k (sizes_of rows) → (log : Log) → MayCome v log → (place found : ℕ)
    → ((r : RebuildRow) → (state_of v.start v.words log).pieces rebuild ≡ Some (Rebuild r)
    → RebuildGrows row r → IsFinishedWith (state_of v.start v.words log) r.target k
    → IsBeaten number (sizes_of rows) log)
    → LeavesAt v log (Lose number (bases_of rows)) place found
rows_lost v s number rebuild k rows mine row there started finished once held build log m place
    found beaten =
    let u = state_of v.start v.words log in let g = grow v log m in
    let low = s.is_true.low number mine in
    let more = callers_later v.start v.words v.log log m.later in
    let on = rebuild_there (now v).pieces u.pieces g rebuild row there in
    let done = subst (λ n. IsFinishedWith u n k) (sym on.2.target)
    (finished_with_grows (now v) u g row.target k finished) in
    record {
      enabled = record {
        known = omega arith;
        cause = inr record {
          sizes = sizes_of rows;
          held = grind (arith, holds_sizes, rows_later);
          once = once;
          building = grind (arith, started_grows);
          beaten = beaten on.0 on.1 on.2 done;
        };
      };
      leaves = inr refl;
    }

-- if there are rows, a shape is a shape of two keys or more
pub shape_some : (k : ℕ) (rows : List Row) → rows ≢ [] → sizes_of rows ≡ shape k → 2 ≤ k
shape_some k rows some e = at k e
  where
    no_rows : (xs : List Row) → sizes_of xs ≡ [] → xs ≡ []
    no_rows [] f = refl
    no_rows (x ∷ xs) f = absurd (cc)

    at : (n : ℕ) → sizes_of rows ≡ shape n → 2 ≤ n
    at n f = grind (arith, no_rows, shape_none, shape_one, eqb_tells)

-- a root of some rows is a build
root_build : (k : ℕ) (rows : List Row) → rows ≢ [] → IsRootSizes k (sizes_of rows)
    → IsBuild k (sizes_of rows)
root_build k rows some (of_whole few e) =
    subst (IsBuild k) (sym e) (build_whole (shape_some k rows some e) few)
root_build k rows some (of_top many e) = subst (IsBuild k) (sym e) (build_top many)

-- ---- a root

module _ (v : View) (s : IsSound v) (number rebuild word : ℕ) (rows : List Row)
    (mine : v.who ≡ Caller number) (stored : StoredAll v rows)
    (b : IsRootBuilt (now v) number rebuild word rows) where
  -- the caller may make the Root
  make_root : CanMake v (Root number rebuild word rows)
  make_root = record { mine = sym mine; stored = stored; allowed = tt }

  -- the root word after a log that may come
  root_after : (log : Log) → MayCome v log → (found : ℕ)
      → IsShown (state_of v.start v.words log) (rebuild + rebuild_root_offset) found
      → (r : RebuildRow) × ((state_of v.start v.words log).pieces rebuild ≡ Some (Rebuild r))
      × (found ≡ r.root) × (b.row.root ≢ unset_word → r.root ≡ b.row.root)
  root_after log m found shown = let u = state_of v.start v.words log in
      let on = rebuild_there (now v).pieces u.pieces (grow v log m) rebuild b.row b.published in (
        on.0,
        on.1,
        shown_in_row v.start v.words log m.lawful.enabled rebuild (Rebuild on.0) 3 on.0.root on.1
            refl (rebuild + rebuild_root_offset) found shown refl,
        on.2.rooted,
      )

  -- the exchange of the root word may be the Root
  pub root_comes : CanExchange v (rebuild + rebuild_root_offset) unset_word word
      (Root number rebuild word rows)
  root_comes =
      ⊎_elim (λ none. exchange_comes v s (Root number rebuild word rows) tt make_root _ _ _
      record { enabled = can none.1; touches = refl })
      (λ set. grind (arith, gone_missed, make_root, fast_known, in_piece, root_after))
      (eqb_tells b.row.root unset_word)
    where
      can : b.row.root ≡ unset_word → CanRoot (now v) number rebuild word rows
      can none = record {
        known = s.is_true.low number mine;
        row = b.row;
        published = b.published;
        started = b.started;
        rootless = none;
        k = b.k;
        finished = b.finished;
        leaves = b.leaves;
        reached = b.reached;
        root = b.root;
        once = b.once;
        held = b.held;
      }

  -- the rows have the sizes of a root over this many keys
  sizes_fit : IsRootSizes b.k (sizes_of rows)
  sizes_fit = root_sizes (now v).pieces rows word b.k b.leaves b.row.target b.once
      (held_free (now v) number rows b.held (sound_after v.start v.words v.log s.lawful.enabled))
      (number_is v.start v.words s.lawful.opens v.log s.lawful.enabled b.row.target b.k b.leaves
      b.finished b.reached)
      b.root

  -- the rows are lost if the root isn't Unset any more
  root_loses : rows ≢ [] → WasUnset v number (rebuild + rebuild_root_offset) → (log : Log)
      → MayCome v log → (found : ℕ)
      → IsShown (state_of v.start v.words log) (rebuild + rebuild_root_offset) found
      → found ≢ unset_word
      → LeavesAt v log (Lose number (bases_of rows)) (rebuild + rebuild_root_offset) found
  root_loses some was log m found shown differs =
      let since = without_later number mine was.since m.later in
      rows_lost v s number rebuild b.k rows mine b.row b.published b.started b.finished b.once
      b.held (root_build b.k rows some sizes_fit) log m (rebuild + rebuild_root_offset) found
      (λ r there grows done.
      beaten_root v.start v.words s.lawful.opens number rebuild b.k (sizes_of rows) sizes_fit
      was.prefix
      (λ p e. sym (shown_in_row v.start v.words was.prefix
      (enabled_before (start v.start v.words) was.prefix log (goes_on_by since) m.lawful.enabled)
      rebuild (Rebuild p) 3 p.root e refl (rebuild + rebuild_root_offset) unset_word was.shown
      refl))
      log since m.lawful.enabled r there
      (λ e. differs (shown_in_row v.start v.words log m.lawful.enabled rebuild (Rebuild r) 3 r.root
      there refl (rebuild + rebuild_root_offset) found shown refl ∙ e)) done)

  -- the exchange of the root word may be the Root, or the Lose if it fails
  pub root_comes_or_loses : rows ≢ [] → WasUnset v number (rebuild + rebuild_root_offset)
      → CanExchangeOrLose v (rebuild + rebuild_root_offset) unset_word word
      (Root number rebuild word rows) (Lose number (bases_of rows))
  root_comes_or_loses some was = grind (arith, root_comes, root_loses)
