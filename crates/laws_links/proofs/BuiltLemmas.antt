-- Until it is replaced, a rebuild with a root is built over the leaves of its target, in part or whole. Serves the
-- replacement law.
use Rattle.std.proofs.Common.{List, None, Some, [], ap, refl, slice_get, slice_set, subst, sym, ℕ, ◌∙◌, ◌∷◌, ◌≡◌}
use Rattle.ist_core.specs.declared.events.Event.{Event}
use Rattle.ist_core.specs.declared.events.Event.TheVariants.{Place, Root}
use Rattle.ist_core.specs.declared.lists.Row.{Row}
use Rattle.ist_core.specs.declared.pairs.Pair.{Pair}
use Rattle.ist_core.specs.declared.states.InnerRow.{InnerRow}
use Rattle.ist_core.specs.declared.states.RebuildRow.{RebuildRow}
use Rattle.ist_core.specs.TreeTerms.{CanPlace, HasLeaves, PlacedLeaf, WasLinked, IsReplaced}
use Rattle.ist_core.specs.WordTerms.{IsIdeal, IsTop, parts, Inner, Leaf, Pieces, Rebuild, with_inners, with_slot, InnerAt, Ref, ref_of, unset_word, start}
use Rattle.ist_core.specs.LogTerms.{CanOpen, EachEnabled, state_of, Log, Snapshot, bases_of}
use Rattle.ist_core.proofs.AllEventLemmas.{held_free, rows_placed}
use Rattle.ist_core.proofs.AllPlaceLemmas.{mentioned_here, same_leaves, changed_at-fixed, names}
use Rattle.ist_core.proofs.AllWordLemmas.{changed_at-other, no_value, same_rebuild, same_inner}
use Rattle.laws_links.proofs.ComesLemmas.{rebuild_comes, start_quiet}
use Rattle.laws_links.proofs.InductionLemmas.{sound_after}
use Rattle.laws_links.proofs.PassLemmas.{RebuildComes, is_begun, is_drawn, is_rooted, rebuild_was}
use Rattle.laws_links.proofs.UntouchedLemmas.{Stays, is_filled, stays_so, untouched}
use Rattle.laws_links.proofs.NewTreeLemmas.{ArePartly, IsPartly, StandInOther, ideal_each, ideal_kept, ideal_whole, in_parts, partly_each, partly_kept, partly_placed, partly_whole, top_kept, whole}
use Rattle.laws_links.proofs.UnlinkedLemmas.{inner_set, never_down, never_stand, root_among, root_named, root_never_linked}

-- ---- one rebuild a root

-- how a rebuild got this root
data RootCame (pairs : List Pair) (words : ℕ) (log : Log) (event : Event) (rebuild base : ℕ) : Type 0 where
  root_was : (s : RebuildRow) → (state_of pairs words log).pieces rebuild ≡ Some (Rebuild s)
      → ref_of s.root ≡ Some (InnerAt base) → RootCame pairs words log event rebuild base
  root_new : (caller word : ℕ) (rows : List Row) → event ≡ Root caller rebuild word rows
      → (state_of pairs words log).pieces base ≡ None → RootCame pairs words log event rebuild base

same_root : (a b c d v w : ℕ) (xs ys : List Row) (event : Event) → event ≡ Root a b v xs
    → event ≡ Root c d w ys → b ≡ d
same_root a b c d v w xs ys event e f = cc

module _ (pairs : List Pair) (words : ℕ) (opens : CanOpen pairs words) where
  root_came : (log : Log) (event : Event) → EachEnabled (start pairs words) (event ∷ log)
      → (rebuild base : ℕ) (r : RebuildRow)
      → ref_of r.root ≡ Some (InnerAt base) → RebuildComes (start pairs words) log rebuild r event
      → RootCame pairs words log event rebuild base
  root_came log event h rebuild base r is (rebuild_was old) = root_was r old is
  root_came log _ h rebuild base r is (is_begun can s here same) =
      absurd (inner_set pairs words opens r.root base is (ap (λ x. x.root) same))
  root_came log _ h rebuild base r is
      (is_rooted {caller = caller} {word = word} {rows = rows} can same) =
      let t = state_of pairs words log in
      let named : ref_of word ≡ Some (InnerAt base) = ap (λ x. ref_of x.root) (sym same) ∙ is in
      let among = root_among (with_inners t.pieces rows) word can.k can.leaves can.row.target (bases_of rows) base can.root named in
      root_new caller word rows refl
      (held_free t caller rows can.held (sound_after pairs words log h.0) base among)
  root_came log _ h rebuild base r is (is_drawn can same) =
      root_was can.row can.published (ap (λ x. ref_of x.root) (sym same) ∙ is)

  -- two rebuilds have two roots
  pub root_once : (log : Log) → EachEnabled (start pairs words) log
      → (a b base : ℕ) (r s : RebuildRow) → (state_of pairs words log).pieces a ≡ Some (Rebuild r)
      → (state_of pairs words log).pieces b ≡ Some (Rebuild s)
      → ref_of r.root ≡ Some (InnerAt base) → ref_of s.root ≡ Some (InnerAt base) → a ≡ b
  root_once [] h a b base r s e f x y = absurd (start_quiet pairs words a (Rebuild r) e)
  root_once (event ∷ log) h a b base r s e f x y =
      both (root_came log event h a base r x (rebuild_comes pairs words log event h a r e))
      (root_came log event h b base s y (rebuild_comes pairs words log event h b s f))
      (λ p q i j k l. root_once log h.0 a b base p q i j k l)
    where
      clash : (rebuild : ℕ) (q : RebuildRow)
          → (state_of pairs words log).pieces rebuild ≡ Some (Rebuild q)
          → ref_of q.root ≡ Some (InnerAt base) → (state_of pairs words log).pieces base ≡ None → ⊥
      clash rebuild q k named none =
          let it = mentioned_here (state_of pairs words log) q.parent q.index base (names pairs words opens log h.0) (root_named pairs words opens log rebuild base q k named) in
          no_value ((state_of pairs words log).pieces base) (Inner it.0) none it.1

      both : RootCame pairs words log event a base → RootCame pairs words log event b base
          → ((p q : RebuildRow) → (state_of pairs words log).pieces a ≡ Some (Rebuild p)
          → (state_of pairs words log).pieces b ≡ Some (Rebuild q)
          → ref_of p.root ≡ Some (InnerAt base) → ref_of q.root ≡ Some (InnerAt base) → a ≡ b)
          → a ≡ b
      both (root_was p i k) (root_was q j l) before = before p q i j k l
      both (root_was p i k) (root_new c w rows is none) before = absurd (clash a p i k none)
      both (root_new c w rows is none) (root_was q j l) before = absurd (clash b q j l none)
      both (root_new c w rows is none) (root_new d v more also free) before =
          same_root c a d b w v rows more event is also

-- ---- what is built

-- the rebuild's root is built over the leaves of its target, in part or whole
pub record IsBuiltOver (t : Snapshot) (r : RebuildRow) : Type 0 where
  pub leaves : List PlacedLeaf
  pub reached : HasLeaves t.pieces (Some (InnerAt r.target)) leaves
  pub ref : Ref
  pub root_is : ref_of r.root ≡ Some ref
  pub rows : List ℕ
  pub built : IsPartly t.pieces ref leaves r.target rows

-- some rows with which a reference is partly built
abbrev SomeBuilt : Pieces → Ref → List PlacedLeaf → ℕ → Type 0
SomeBuilt ps ref leaves above = (rows : List ℕ) × IsPartly ps ref leaves above rows

module _ (pairs : List Pair) (words : ℕ) (opens : CanOpen pairs words) where
  -- the whole root of a rebuild that wasn't replaced stays so
  pub whole_step : (log : Log) (event : Event) → EachEnabled (start pairs words) (event ∷ log)
      → (at : ℕ) (r : RebuildRow) → (state_of pairs words log).pieces at ≡ Some (Rebuild r)
      → ¬ (IsReplaced (state_of pairs words log) at) → (leaves : List PlacedLeaf) → (ref : Ref)
      → ref_of r.root ≡ Some ref → (rows : List ℕ)
      → IsIdeal (state_of pairs words log).pieces ref leaves r.target rows
      → IsIdeal (state_of pairs words (event ∷ log)).pieces ref leaves r.target rows
  whole_step log event h at r e unr leaves ref is rows ideal = let t = state_of pairs words log in
      let u = state_of pairs words (event ∷ log) in
      let never = ideal_each t.pieces (λ b. ¬ (WasLinked (start pairs words) log b)) (never_down pairs words opens log h.0) ref leaves r.target rows ideal
      (λ base same. root_never_linked pairs words opens log h.0 at base r e (is ∙ ap (λ x. Some x) same) unr) in
      ideal_kept t.pieces u.pieces ref leaves r.target rows ideal
      (never_stand pairs words opens log event h rows never (ideal_whole t.pieces ref leaves r.target rows ideal))

  -- the top of a tree in parts, when a part is placed in it
  fill : (log : Log) (caller rebuild i word : ℕ) (rows : List Row)
      → EachEnabled (start pairs words) (Place caller rebuild i word rows ∷ log)
      → (can : CanPlace (state_of pairs words log) caller rebuild i word rows)
      → (at : ℕ) (r : RebuildRow) → (state_of pairs words log).pieces at ≡ Some (Rebuild r)
      → (leaves : List PlacedLeaf)
      → HasLeaves (state_of pairs words log).pieces (Some (InnerAt r.target)) leaves
      → ref_of r.root ≡ Some (InnerAt can.root) → (row : InnerRow)
      → IsTop (state_of pairs words log).pieces can.root row leaves r.target
      → (built : List ℕ)
      → ArePartly (state_of pairs words (Place caller rebuild i word rows ∷ log)).pieces row.slots (parts leaves) can.root built
      → (state_of pairs words (Place caller rebuild i word rows ∷ log)).pieces can.root ≡ Some (Inner record row { slots = slice_set row.slots i word })
      → SomeBuilt (state_of pairs words (Place caller rebuild i word rows ∷ log)).pieces (InnerAt can.root) leaves r.target
  fill log caller rebuild i word rows h can at r e leaves reached is row top built under there =
      let t = state_of pairs words log in
      let u = state_of pairs words (Place caller rebuild i word rows ∷ log) in
      let qs = with_inners t.pieces rows in
      let one : rebuild ≡ at = root_once pairs words opens log h.0 rebuild at can.root can.row r can.published e can.root_is is in
      let same = same_rebuild (t.pieces at) can.row r (subst (λ b. t.pieces b ≡ Some (Rebuild can.row)) one can.published) e in
      let all : can.leaves ≡ leaves = same_leaves t.pieces (Some (InnerAt r.target)) can.leaves leaves (subst (λ x. HasLeaves t.pieces (Some (InnerAt x.target)) can.leaves) same can.reached) reached in
      let part : slice_get (parts leaves) i ≡ Some can.part =
      subst (λ ls. slice_get (parts ls) i ≡ Some can.part) all can.part_is in
      let free : slice_get row.slots i ≡ Some unset_word = subst (λ x. slice_get x.slots i ≡ Some unset_word) (same_inner (t.pieces can.root) can.root_row row can.root_published top.published) can.free in
      let written = rows_placed t caller rebuild i word rows can in
      let stand : StandInOther qs u.pieces (bases_of rows) = record {
        leaf =
            λ b x k. subst (λ ps. ps b ≡ Some (Leaf x)) (sym written) (changed_at-fixed qs can.root b (with_slot i word) (Leaf x) k refl);
        inner = λ b x among k. subst (λ ps. ps b ≡ Some (Inner x)) (sym written)
            (changed_at-other qs can.root b (with_slot i word)
            (λ z. no_value (t.pieces can.root) (Inner can.root_row) (subst (λ n. t.pieces n ≡ None) z (held_free t caller rows can.held (sound_after pairs words log h.0) b among)) can.root_published) ∙ k);
      } in
      let ideal =
      ideal_kept qs u.pieces can.ref can.part can.root (bases_of rows) can.ideal stand in
      let it = partly_placed u.pieces row.slots (parts leaves) can.root built under i word can.part can.ref (bases_of rows) free part can.ref_is ideal in (
        it.0,
        in_parts {rows = it.0} (record row { slots = slice_set row.slots i word })
            record {
              published = there;
              two = top.two;
              higher = top.higher;
              status = top.status;
              count = top.count;
              degree = top.degree;
              size = top.size;
              keys = top.keys;
            } it.1,
      )

  -- the top row of a tree in parts after an event
  top_step : (log : Log) (event : Event) → EachEnabled (start pairs words) (event ∷ log)
      → (at : ℕ) (r : RebuildRow) → (state_of pairs words log).pieces at ≡ Some (Rebuild r)
      → (leaves : List PlacedLeaf)
      → HasLeaves (state_of pairs words log).pieces (Some (InnerAt r.target)) leaves
      → (base : ℕ) → ref_of r.root ≡ Some (InnerAt base) → (row now : InnerRow)
      → IsTop (state_of pairs words log).pieces base row leaves r.target → (built : List ℕ)
      → ArePartly (state_of pairs words (event ∷ log)).pieces row.slots (parts leaves) base built
      → (state_of pairs words (event ∷ log)).pieces base ≡ Some (Inner now)
      → Stays (start pairs words) log base row now event
      → SomeBuilt (state_of pairs words (event ∷ log)).pieces (InnerAt base) leaves r.target
  top_step log event h at r e leaves reached base is row _ top built under there stays_so =
      (built, in_parts row (top_kept (state_of pairs words log).pieces (state_of pairs words (event ∷ log)).pieces base row leaves r.target top there) under)
  top_step log _ h at r e leaves reached base is row _ top built under there
      (is_filled {caller = caller} {rebuild = rebuild} {i = i} {word = word} {rows = rows} can here) =
      let u = state_of pairs words (Place caller rebuild i word rows ∷ log) in
      subst (λ b. SomeBuilt u.pieces (InnerAt b) leaves r.target) (sym here)
      (fill log caller rebuild i word rows h can at r e leaves reached (subst (λ b. ref_of r.root ≡ Some (InnerAt b)) here is) row
      (subst (λ b. IsTop (state_of pairs words log).pieces b row leaves r.target) here top) built
      (subst (λ b. ArePartly u.pieces row.slots (parts leaves) b built) here under)
      (subst (λ b. u.pieces b ≡ Some (Inner record row { slots = slice_set row.slots i word })) here there))

  -- what is built of a root stays so, except for the part that a Place adds
  pub partly_step : (log : Log) (event : Event) → EachEnabled (start pairs words) (event ∷ log)
      → (at : ℕ) (r : RebuildRow) → (state_of pairs words log).pieces at ≡ Some (Rebuild r)
      → ¬ (IsReplaced (state_of pairs words log) at) → (leaves : List PlacedLeaf)
      → HasLeaves (state_of pairs words log).pieces (Some (InnerAt r.target)) leaves
      → (ref : Ref) → ref_of r.root ≡ Some ref → (rows : List ℕ)
      → IsPartly (state_of pairs words log).pieces ref leaves r.target rows
      → SomeBuilt (state_of pairs words (event ∷ log)).pieces ref leaves r.target
  partly_step log event h at r e unr leaves reached _ is rows (whole {ref = ref} ideal) =
      (rows, whole (whole_step log event h at r e unr leaves ref is rows ideal))
  partly_step log event h at r e unr leaves reached _ is rows
      (in_parts {base = base} row top under) =
      let t = state_of pairs words log in let u = state_of pairs words (event ∷ log) in
      let never = root_never_linked pairs words opens log h.0 at base r e is unr in
      let all = partly_each t.pieces (λ b. ¬ (WasLinked (start pairs words) log b)) (never_down pairs words opens log h.0) row.slots (parts leaves) base rows under
      (λ k word child at_k named. never_down pairs words opens log h.0 base row never top.published k word child at_k named) in
      let stand = never_stand pairs words opens log event h rows all (partly_whole t.pieces row.slots (parts leaves) base rows under) in
      let on = untouched pairs words opens log event h base row top.published never in
      top_step log event h at r e leaves reached base is row on.0 top rows
      (partly_kept t.pieces u.pieces row.slots (parts leaves) base rows under stand) on.1 on.2
