-- The tree of a rebuild that wasn't replaced was never linked, so it stays as it was built. Serves
-- the replacement law.
use Rattle.std.proofs.Common.{List, Some, [], ap, arith, inl, inr, refl, slice_get, subst, sym, ℕ, ⊎_elim, ◌<◌, ◌∙◌, ◌∷◌, ◌≡◌, ◌≢◌}
use Rattle.ist_core.specs.declared.events.Event.{Event}
use Rattle.ist_core.specs.declared.events.Event.TheVariants.{Draw, Root}
use Rattle.ist_core.specs.declared.pairs.Pair.{Pair}
use Rattle.ist_core.specs.declared.states.RebuildRow.{RebuildRow}
use Rattle.ist_core.specs.TreeTerms.{IsRoot, root_top, root_whole, PlacedLeaf, Linked, WasLinked, at_anchor, below, IsReplaced, IsStarted}
use Rattle.ist_core.specs.LogTerms.{Among, Each, CanOpen, EachEnabled, state_of, Log, bases_of}
use Rattle.ist_core.specs.WordTerms.{IsIdeal, of_more, of_none, of_one, Inner, Pieces, Rebuild, with_inners, InnerAt, Ref, ref_of, unset_word, anchor, SlotHolds, in_row, logical, past_rebuild, rebuild_reads, start}
use Rattle.ist_core.proofs.AllEventLemmas.{held_free}
use Rattle.ist_core.proofs.AllWordLemmas.{each-among, ref_of-unset, no_value, same_inner}
use Rattle.ist_core.proofs.AllLogLemmas.{leaf_there, grow_after}
use Rattle.ist_core.proofs.AllPlaceLemmas.{Mentions, mentioned_here, slot_mentions, child_mentioned, InnerHere, RootNames, names, one_home, anchor_free, slot_once}
use Rattle.laws_links.proofs.ComesLemmas.{rebuild_comes, start_quiet}
use Rattle.laws_links.proofs.FormLemmas.{started_grows}
use Rattle.laws_links.proofs.InductionLemmas.{rebuilds_by, sound_after}
use Rattle.laws_links.proofs.PassLemmas.{RebuildComes, is_begun, is_drawn, is_rooted, rebuild_was}
use Rattle.laws_links.proofs.UntouchedLemmas.{not_the_anchor, stays_whole, untouched, was_linked_here, was_linked_parent}
use Rattle.laws_links.proofs.NewTreeLemmas.{GoesDown, StandInOther, StandsWhole}
use Rattle.laws_links.proofs.RebuiltLemmas.{started_reads, unreplaced_before}

-- the top of an ideal subtree is one of its rows
pub ideal_among : (ps : Pieces) (ref : Ref) (leaves : List PlacedLeaf) (above : ℕ) (rows : List ℕ)
    (base : ℕ) → IsIdeal ps ref leaves above rows → ref ≡ InnerAt base → Among base rows
ideal_among ps _ _ _ _ base of_none e = absurd (cc)
ideal_among ps _ _ _ _ base (of_one same k) e = absurd (cc)
ideal_among ps _ _ _ _ base (of_more {base = b} r top under) e = grind arith

-- the base of a root is among the bases of its rows
pub root_among : (ps : Pieces) (word k : ℕ) (leaves : List PlacedLeaf) (target : ℕ) (rows : List ℕ)
    (base : ℕ)
    → IsRoot ps word k leaves target rows → ref_of word ≡ Some (InnerAt base) → Among base rows
root_among ps word k leaves target rows base (root_whole ref few is ideal) e =
    ideal_among ps ref leaves target rows base ideal (cc)
root_among ps word k leaves target rows base (root_top b row many is top unset all) e = grind arith

module _ (pairs : List Pair) (words : ℕ) (opens : CanOpen pairs words) where
  -- a rebuild with a root was started
  pub rooted_is_started : (log : Log) → EachEnabled (start pairs words) log
      → (base : ℕ) (r : RebuildRow)
      → (state_of pairs words log).pieces base ≡ Some (Rebuild r) → r.root ≢ unset_word
      → IsStarted (state_of pairs words log) base
  rooted_is_started = rebuilds_by pairs words
      (λ log base r. r.root ≢ unset_word → IsStarted (state_of pairs words log) base)
      (λ log event h base r old there before set. started_grows (state_of pairs words log) (state_of pairs words (event ∷ log)) (grow_after pairs words log event h) base (before set))
      (λ log caller change rows h can s set. absurd (set refl))
      (λ log caller base word rows h can before set. started_grows (state_of pairs words log) (state_of pairs words (Root caller base word rows ∷ log)) (grow_after pairs words log (Root caller base word rows) h) base can.started)
      (λ log caller base part h can before set. started_grows (state_of pairs words log) (state_of pairs words (Draw caller base part ∷ log)) (grow_after pairs words log (Draw caller base part) h) base (before set))

  -- a root that is an inner row is named for the slot of its rebuild
  pub root_named : (log : Log) (rebuild base : ℕ) (r : RebuildRow)
      → (state_of pairs words log).pieces rebuild ≡ Some (Rebuild r)
      → ref_of r.root ≡ Some (InnerAt base)
      → Mentions (state_of pairs words log) r.parent r.index (InnerAt base)
  root_named log rebuild base r e is = inr (rebuild, Rebuild r, e, (refl, refl, inr is))

  -- the root of a rebuild isn't the anchor
  root_apart : (log : Log) → EachEnabled (start pairs words) log
      → (rebuild base : ℕ) (r : RebuildRow)
      → (state_of pairs words log).pieces rebuild ≡ Some (Rebuild r)
      → ref_of r.root ≡ Some (InnerAt base) → base ≢ anchor
  root_apart log h rebuild base r e is =
      let it = mentioned_here (state_of pairs words log) r.parent r.index base (names pairs words opens log h) (root_named log rebuild base r e is) in
      not_the_anchor pairs words opens log h base it.0 it.1

  -- a word that names an inner row is set
  pub inner_set : (word base : ℕ) → ref_of word ≡ Some (InnerAt base) → word ≢ unset_word
  inner_set word base is e = cc (sym ref_of-unset ∙ ap ref_of (sym e) ∙ is)

  -- the root of a rebuild that wasn't replaced isn't linked
  root_unlinked : (log : Log) → EachEnabled (start pairs words) log
      → (rebuild base : ℕ) (r : RebuildRow)
      → (state_of pairs words log).pieces rebuild ≡ Some (Rebuild r)
      → ref_of r.root ≡ Some (InnerAt base) → ¬ (IsReplaced (state_of pairs words log) rebuild)
      → ¬ (Linked (state_of pairs words log) base)
  root_unlinked log h rebuild _ r e is unr at_anchor = root_apart log h rebuild anchor r e is refl
  root_unlinked log h rebuild _ r e is unr (below {node = node} {child = base} i l c) =
      let t = state_of pairs words log in let o = names pairs words opens log h in
      let home = (one_home pairs words opens log h).one node i r.parent r.index base (child_mentioned t node i base o c) (root_named log rebuild base r e is) in
      let reads =
      ⊎_elim (λ k. absurd (unr k)) (λ r. r)
      (started_reads pairs words opens log h rebuild r e
      (rooted_is_started log h rebuild r e (inner_set r.root base is))) in
      let slot = subst (λ j. SlotHolds t r.parent j c.word) home.1 (subst (λ n. SlotHolds t n i c.word) home.0 c.holds) in
      let same = slot_once t r.parent r.index c.word reads.word (anchor_free pairs words log h) slot reads.holds in
      let target : r.target ≡ base = cc (sym (ap rebuild_reads e) ∙ sym (ap (past_rebuild t.pieces) reads.reads) ∙ ap (logical t.pieces) (sym same) ∙ c.reads) in
      let high : (r.target < base) × InnerHere t.pieces base =
      subst (λ x. RootNames t.pieces r.target x) is (o.rows rebuild (Rebuild r) e).2 in
      let higher = high.0 in omega arith

  -- the root of a rebuild that wasn't replaced was never linked
  pub root_never_linked : (log : Log) → EachEnabled (start pairs words) log
      → (rebuild base : ℕ) (r : RebuildRow)
      → (state_of pairs words log).pieces rebuild ≡ Some (Rebuild r)
      → ref_of r.root ≡ Some (InnerAt base) → ¬ (IsReplaced (state_of pairs words log) rebuild)
      → ¬ (WasLinked (start pairs words) log base)
  root_never_linked [] h rebuild base r e is unr was = start_quiet pairs words rebuild (Rebuild r) e
  root_never_linked (event ∷ log) h rebuild base r e is unr (inl now) =
      root_unlinked (event ∷ log) h rebuild base r e is unr now
  root_never_linked (event ∷ log) h rebuild base r e is unr (inr before) =
      at event h (root_apart (event ∷ log) h rebuild base r e is)
      (rebuild_comes pairs words log event h rebuild r e)
      (unreplaced_before pairs words opens log event h rebuild unr)
      (λ s old named k. root_never_linked log h.0 rebuild base s old named k before)
    where
      at : (event : Event) → EachEnabled (start pairs words) (event ∷ log) → base ≢ anchor
          → RebuildComes (start pairs words) log rebuild r event
          → ¬ (IsReplaced (state_of pairs words log) rebuild)
          → ((s : RebuildRow) → (state_of pairs words log).pieces rebuild ≡ Some (Rebuild s)
          → ref_of s.root ≡ Some (InnerAt base)
          → ¬ (IsReplaced (state_of pairs words log) rebuild) → ⊥)
          → ⊥
      at event all ne (rebuild_was old) k again = again r old is k
      at _ all ne (is_begun can s here same) k again = grind (arith, inner_set)
      at _ all ne (is_rooted {caller = caller} {word = word} {rows = rows} can same) k again =
          let t = state_of pairs words log in
          let named : ref_of word ≡ Some (InnerAt base) = ap (λ x. ref_of x.root) (sym same) ∙ is in
          let among = root_among (with_inners t.pieces rows) word can.k can.leaves can.row.target (bases_of rows) base can.root named in
          let none =
          held_free t caller rows can.held (sound_after pairs words log all.0) base among in
          let there = was_linked_here pairs words opens log all.0 base ne before in
          no_value (t.pieces base) (Inner there.0) none there.1
      at _ all ne (is_drawn can same) k again =
          again can.row can.published (ap (λ x. ref_of x.root) (sym same) ∙ is) k

  -- a row that hangs in a slot of a row that was never linked wasn't either
  child_never : (log : Log) → EachEnabled (start pairs words) log → (node i word child : ℕ)
      → SlotHolds (state_of pairs words log) node i word → ref_of word ≡ Some (InnerAt child)
      → ¬ (WasLinked (start pairs words) log node) → ¬ (WasLinked (start pairs words) log child)
  child_never log h node i word child slot is never was = let t = state_of pairs words log in
      let named = slot_mentions t node i word (InnerAt child) slot is in
      let row = mentioned_here t node i child (names pairs words opens log h) named in
      let it = was_linked_parent pairs words opens log h child (not_the_anchor pairs words opens log h child row.0 row.1) was in
      let home =
      (one_home pairs words opens log h).one it.parent it.i node i child it.named named in
      never (subst (λ n. WasLinked (start pairs words) log n) home.0 it.linked)

  -- what hangs in a row that was never linked wasn't either
  pub never_down : (log : Log) → EachEnabled (start pairs words) log
      → GoesDown (state_of pairs words log).pieces (λ node. ¬ (WasLinked (start pairs words) log node))
  never_down log h node r never e j word child at is =
      child_never log h node j word child (in_row r e at) is never

  -- whole rows that were never linked stay at an event
  pub never_stand : (log : Log) (event : Event) → EachEnabled (start pairs words) (event ∷ log)
      → (rows : List ℕ) → Each (λ base. ¬ (WasLinked (start pairs words) log base)) rows
      → Each (StandsWhole (state_of pairs words log).pieces) rows
      → StandInOther (state_of pairs words log).pieces (state_of pairs words (event ∷ log)).pieces rows
  never_stand log event h rows never whole_rows = let t = state_of pairs words log in
      let u = state_of pairs words (event ∷ log) in record {
        leaf =
            λ base r e. leaf_there t.pieces u.pieces (grow_after pairs words log event h) base r e;
        inner = λ base r i e. let it = each-among (StandsWhole t.pieces) base rows whole_rows i in
            let same = same_inner (t.pieces base) it.row r it.published e in
            let on = untouched pairs words opens log event h base r e (each-among (λ b. ¬ (WasLinked (start pairs words) log b)) base rows never i) in
            on.1 ∙ ap (λ x. Some (Inner x)) (stays_whole (start pairs words) log event base r on.0 e (λ j. subst (λ x. slice_get x.slots j ≢ Some unset_word) same (it.set j)) on.2);
      }
