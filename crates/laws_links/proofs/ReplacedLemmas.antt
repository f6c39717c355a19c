-- The target of a rebuild that was replaced isn't linked. Serves the rest law.
use Rattle.std.proofs.Common.{Bool, List, Some, ap, arith, false, inl, inr, refl, subst, sym, true, ℕ, ◌∙◌, ◌∷◌, ◌≡◌, None, Option, [], ⊎_elim, ◌≢◌, ◌≤◌, ◌⊎◌}
use Rattle.ist_core.specs.declared.events.Event.{Event}
use Rattle.ist_core.specs.declared.events.Event.TheVariants.{Decide}
use Rattle.ist_core.specs.declared.pairs.Pair.{Pair}
use Rattle.ist_core.specs.declared.states.ChangeRow.{ChangeRow}
use Rattle.ist_core.specs.declared.states.RebuildRow.{RebuildRow}
use Rattle.ist_core.specs.TreeTerms.{CanDecide, Linked, at_anchor, below, IsStarted, new_leaf, pair_row, HasLeaves, leaf_here, none_here, IsUpdate}
use Rattle.ist_core.specs.LogTerms.{CanOpen, EachEnabled, state_of, Log}
use Rattle.ist_core.specs.WordTerms.{Change, Rebuild, InnerAt, RebuildAt, ref_of, SlotHolds, logical, past_rebuild, start, decided_yes, Leaf, with_decision, Empty, LeafAt, Ref, Unset, anchor, in_anchor, in_row, past_change, finish_kind, start_kind, undecided}
use Rattle.ist_core.proofs.AllLogLemmas.{rebuild_there, grow_after, inner_there, leaf_there, published_good}
use Rattle.ist_core.proofs.AllPlaceLemmas.{Mentions, child_mentioned, InnerHere, names, one_home, anchor_free, slot_once, SideNames, changed_at-fixed}
use Rattle.ist_core.proofs.AllWordLemmas.{same_rebuild, same_change}
use Rattle.laws_links.proofs.ChangeLemmas.{said_yes}
use Rattle.laws_links.proofs.ClosedLemmas.{started_target_linked}
use Rattle.laws_links.proofs.FormedLemmas.{changes_are_formed}
use Rattle.laws_links.proofs.InductionLemmas.{changes_by}
use Rattle.laws_links.proofs.LinkLemmas.{deciding}
use Rattle.laws_links.proofs.ReadEventLemmas.{decide_reads}
use Rattle.laws_links.proofs.UntouchedLemmas.{not_the_anchor}
use Rattle.laws_links.proofs.ReadLemmas.{ideal_above, ideal_plain_in, decided_stands, ReadsAs, Turns, turned_by}
use Rattle.laws_links.proofs.ReplacingLemmas.{puts_ideal}
use Rattle.laws_links.proofs.ReturnLemmas.{unlinked_step}
use Rattle.laws_links.proofs.StartingLemmas.{finish_of, side_rebuild}
use Rattle.ist_core.proofs.AllEventLemmas.{pair_is_inner}
use Rattle.laws_links.proofs.FormLemmas.{IsFormed, of_finish, of_leaf_put, of_pair_put, of_remove, of_start}
use Rattle.laws_links.proofs.PairLemmas.{pair_is_filled}
use Rattle.laws_links.proofs.ReadStepLemmas.{reads_step}
use Rattle.laws_links.proofs.ExistLemmas.{HasSome, IsAlikeEnough, pair_some, plain_to, some_move}
use Rattle.laws_links.proofs.KeepingContentLemmas.{no_leaves, past_rebuild_grows, unset_leaves}
use Rattle.laws_links.proofs.NewTreeLemmas.{StandInOther}

module _ (pairs : List Pair) (words : ℕ) (opens : CanOpen pairs words) where
  -- the slot that an inner row hangs in is the one that a rebuild of it is for
  pub target_named : (log : Log) (rebuild : ℕ) (r : RebuildRow)
      → (state_of pairs words log).pieces rebuild ≡ Some (Rebuild r)
      → Mentions (state_of pairs words log) r.parent r.index (InnerAt r.target)
  target_named log rebuild r e = inr (rebuild, Rebuild r, e, (refl, refl, inl refl))

  -- after the yes of a finish its slot leads to no row with the target's base
  finish_apart : (log : Log) (caller base : ℕ)
      → EachEnabled (start pairs words) (Decide caller base true ∷ log)
      → (x : ChangeRow) (rebuild : ℕ) (r : RebuildRow)
      → (state_of pairs words log).pieces base ≡ Some (Change x)
      → ref_of x.from ≡ Some (RebuildAt rebuild)
      → (state_of pairs words log).pieces rebuild ≡ Some (Rebuild r)
      → ¬ (Linked (state_of pairs words (Decide caller base true ∷ log)) r.target)
  finish_apart log caller base h x rebuild r e from there l = at r.target refl l
    where
      row : InnerHere (state_of pairs words log).pieces r.target
      row = ((names pairs words opens log h.0).rows rebuild (Rebuild r) there).1

      at : (child : ℕ) → child ≡ r.target
          → Linked (state_of pairs words (Decide caller base true ∷ log)) child → ⊥
      at _ is at_anchor = not_the_anchor pairs words opens log h.0 r.target row.0 row.1 (sym is)
      at _ is (below {node = node} {child = child} i k c) = let t = state_of pairs words log in
          let u = state_of pairs words (Decide caller base true ∷ log) in
          let o = names pairs words opens (Decide caller base true ∷ log) h in
          let p = puts_ideal pairs words opens log h.0 base x e (deciding pairs words opens log caller base true h x e) rebuild r from there in
          let now = rebuild_there t.pieces u.pieces (grow_after pairs words log (Decide caller base true) h) rebuild r there in
          let named : Mentions u r.parent r.index (InnerAt r.target) =
          subst (λ n. Mentions u n r.index (InnerAt r.target)) now.2.parent
          (subst (λ j. Mentions u now.0.parent j (InnerAt r.target)) now.2.index
          (subst (λ m. Mentions u now.0.parent now.0.index (InnerAt m)) now.2.target (target_named (Decide caller base true ∷ log) rebuild now.0 now.1))) in
          let home = (one_home pairs words opens (Decide caller base true ∷ log) h).one node i r.parent r.index r.target
          (subst (λ m. Mentions u node i (InnerAt m)) is (child_mentioned u node i child o c)) named in
          let side = side_rebuild t (names pairs words opens log h.0) base x e rebuild (inl from) in
          let same_row = same_rebuild (t.pieces rebuild) side.row r side.published there in
          let reads = decide_reads pairs words opens log caller base h x e p.ref (ap ref_of p.root ∙ p.root_is) in
          let n : r.parent ≡ x.node = ap (λ y. y.parent) (sym same_row) ∙ side.parent in
          let j : r.index ≡ x.index = ap (λ y. y.index) (sym same_row) ∙ side.index in
          let slot = subst (λ m. SlotHolds u m x.index c.word) (home.0 ∙ n) (subst (λ m. SlotHolds u node m c.word) (home.1 ∙ j) c.holds) in
          let same = slot_once u x.node x.index c.word reads.word (anchor_free pairs words (Decide caller base true ∷ log) h) slot reads.holds in
          let lead : past_rebuild u.pieces (Some p.ref) ≡ Some (InnerAt child) = ap (past_rebuild u.pieces) (sym reads.reads) ∙ ap (logical u.pieces) (sym same) ∙ c.reads in
          let is_ref : p.ref ≡ InnerAt r.target = cc (sym (ideal_plain_in u.pieces t.pieces p.ref p.leaves r.target p.rows p.ideal) ∙ lead ∙ ap (λ m. Some (InnerAt m)) is) in
          let high = ideal_above t.pieces p.ref p.leaves r.target p.rows r.target p.ideal is_ref in
          omega arith

  -- the target of a rebuild that was replaced isn't linked
  pub replaced_unlinked : (log : Log) → EachEnabled (start pairs words) log
      → (base : ℕ) (x : ChangeRow)
      → (state_of pairs words log).pieces base ≡ Some (Change x) → x.decision ≡ decided_yes
      → (rebuild : ℕ) (r : RebuildRow) → ref_of x.from ≡ Some (RebuildAt rebuild)
      → (state_of pairs words log).pieces rebuild ≡ Some (Rebuild r)
      → ¬ (Linked (state_of pairs words log) r.target)
  replaced_unlinked = changes_by pairs words
      (λ log base x. x.decision ≡ decided_yes → (rebuild : ℕ) (r : RebuildRow) → ref_of x.from ≡ Some (RebuildAt rebuild) → (state_of pairs words log).pieces rebuild ≡ Some (Rebuild r) → ¬ (Linked (state_of pairs words log) r.target))
      (λ log event h base x old there before is rebuild r from e.
      let it = finish_of (state_of pairs words log) x rebuild (changes_are_formed pairs words log h.0 base x old) from in
      let was = subst (λ b. (state_of pairs words log).pieces b ≡ Some (Rebuild it.form.row)) it.same it.form.published in
      let target = same_target log event h rebuild it.form.row r was e in
      subst (λ n. ¬ (Linked (state_of pairs words (event ∷ log)) n)) (sym target)
      (unlinked_step pairs words opens log event h it.form.row.target
      (started_target_linked pairs words opens log h.0 rebuild it.form.row was (subst (λ b. IsStarted (state_of pairs words log) b) it.same it.form.started))
      (before is rebuild it.form.row from was)))
      (λ log caller base rows h can is. let none = can.unset in absurd (omega arith))
      (λ log caller base said h can before is rebuild r from e.
      decided log caller base said h can (said_yes said is) rebuild r from e)
    where
      -- a rebuild keeps its target
      same_target : (log : Log) (event : Event) → EachEnabled (start pairs words) (event ∷ log)
          → (rebuild : ℕ) (r s : RebuildRow)
          → (state_of pairs words log).pieces rebuild ≡ Some (Rebuild r)
          → (state_of pairs words (event ∷ log)).pieces rebuild ≡ Some (Rebuild s)
          → s.target ≡ r.target
      same_target log event h rebuild r s e f =
          let it = rebuild_there (state_of pairs words log).pieces (state_of pairs words (event ∷ log)).pieces (grow_after pairs words log event h) rebuild r e in
          ap (λ x. x.target)
          (same_rebuild ((state_of pairs words (event ∷ log)).pieces rebuild) s it.0 f it.1)
          ∙ it.2.target

      decided : (log : Log) (caller base : ℕ) (said : Bool)
          → EachEnabled (start pairs words) (Decide caller base said ∷ log)
          → (can : CanDecide (state_of pairs words log) log caller base said) → said ≡ true
          → (rebuild : ℕ) (r : RebuildRow) → ref_of can.change.from ≡ Some (RebuildAt rebuild)
          → (state_of pairs words (Decide caller base said ∷ log)).pieces rebuild ≡ Some (Rebuild r)
          → ¬ (Linked (state_of pairs words (Decide caller base said ∷ log)) r.target)
      decided log caller base false h can is rebuild r from e = absurd (cc)
      decided log caller base true h can is rebuild r from e =
          let it = finish_of (state_of pairs words log) can.change rebuild (changes_are_formed pairs words log h.0 base can.change can.pending.published) from in
          let was = subst (λ b. (state_of pairs words log).pieces b ≡ Some (Rebuild it.form.row)) it.same it.form.published in
          let target = same_target log (Decide caller base true) h rebuild it.form.row r was e in
          subst (λ n. ¬ (Linked (state_of pairs words (Decide caller base true ∷ log)) n))
          (sym target)
          (finish_apart log caller base h can.change rebuild it.form.row can.pending.published from was)

-- ---- contents exist after a put or remove is decided yes, if they did before. Serves
-- `laws.updates_alone_change`.

module _ (pairs : List Pair) (words : ℕ) (opens : CanOpen pairs words) where
  -- what an undecided put or remove puts in has some leaves after its yes
  update_some : (log : Log) (caller base : ℕ)
      → EachEnabled (start pairs words) (Decide caller base true ∷ log)
      → (x : ChangeRow) → (state_of pairs words log).pieces base ≡ Some (Change x)
      → x.decision ≡ undecided → IsUpdate x.kind → (to : Ref) → ref_of x.to ≡ Some to
      → HasSome (state_of pairs words (Decide caller base true ∷ log)).pieces (Some to)
  update_some log caller base h x e none update to is =
      by_form (changes_are_formed pairs words log h.0 base x e)
    where
      same : (a : Ref) → ref_of x.to ≡ Some a → Some a ≡ Some to
      same a k = sym k ∙ is

      stand : StandInOther (state_of pairs words log).pieces (state_of pairs words (Decide caller base true ∷ log)).pieces []
      stand = decided_stands pairs words log caller base true []

      not_three : (k : ℕ) → x.kind ≡ k → 3 ≤ k → ⊥
      not_three k kind high = grind arith

      by_form : IsFormed (state_of pairs words log) x
          → HasSome (state_of pairs words (Decide caller base true ∷ log)).pieces (Some to)
      by_form (of_leaf_put f) = let u = state_of pairs words (Decide caller base true ∷ log) in
          subst (λ o. HasSome u.pieces o) (same (LeafAt f.leaf) f.to)
          record { leaves = _; reached = leaf_here _ (stand.leaf f.leaf _ f.new) }
      by_form (of_remove f) =
          subst (λ o. HasSome (state_of pairs words (Decide caller base true ∷ log)).pieces o)
          (same Empty f.to) record { leaves = []; reached = none_here }
      by_form (of_start f) = absurd (not_three start_kind f.kind (omega arith))
      by_form (of_finish f) = absurd (not_three finish_kind f.kind (omega arith))
      by_form (of_pair_put f) = let t = state_of pairs words log in
          let u = state_of pairs words (Decide caller base true ∷ log) in
          let p = pair_is_filled pairs words opens log h.0 base x e none f.kind f.pair f.to in
          let row = pair_is_inner x.key p.leaf p.other_key p.other in
          let there : u.pieces f.pair ≡ Some (pair_row x.key p.leaf p.other_key p.other) =
          changed_at-fixed t.pieces base f.pair (with_decision decided_yes)
          (pair_row x.key p.leaf p.other_key p.other) p.published
          (subst (λ q. with_decision decided_yes q ≡ q) (sym row.1) refl) in
          subst (λ o. HasSome u.pieces o) (same (InnerAt f.pair) f.to)
          (pair_some u.pieces f.pair x.key p.leaf p.other_key p.other record { key = x.key; value = x.value } p.stands.row there
          (published_good pairs words opens log p.leaf (new_leaf x) h.0 p.new)
          (published_good pairs words opens log p.other (Leaf p.stands.row) h.0 p.stands.published)
          (stand.leaf p.leaf record { key = x.key; value = x.value } p.new) (stand.leaf p.other p.stands.row p.stands.published))

  -- what a change puts in is a reference
  undecided_to : (log : Log) → EachEnabled (start pairs words) log → (base : ℕ) (x : ChangeRow)
      → (state_of pairs words log).pieces base ≡ Some (Change x)
      → (ref : Ref) × (ref_of x.to ≡ Some ref)
  undecided_to log h base x e =
      at (ref_of x.to) refl ((names pairs words opens log h).rows base (Change x) e).1
    where
      at : (o : Option Ref) → ref_of x.to ≡ o
          → SideNames (state_of pairs words log).pieces x.node x.index o
          → (ref : Ref) × (ref_of x.to ≡ Some ref)
      at (Some ref) is k = (ref, is)
      at None is k = absurd k

  -- each slot that had leaves has some after the yes of a put or remove
  slot_enough : (log : Log) (caller base : ℕ)
      → (h : EachEnabled (start pairs words) (Decide caller base true ∷ log))
      → IsUpdate (h.1).change.kind → (node i w v : ℕ)
      → SlotHolds (state_of pairs words log) node i w
      → SlotHolds (state_of pairs words (Decide caller base true ∷ log)) node i v
      → HasSome (state_of pairs words log).pieces (logical (state_of pairs words log).pieces w)
      → (logical (state_of pairs words (Decide caller base true ∷ log)).pieces v ≡ logical (state_of pairs words log).pieces w)
      ⊎ HasSome (state_of pairs words (Decide caller base true ∷ log)).pieces
      (logical (state_of pairs words (Decide caller base true ∷ log)).pieces v)
  slot_enough log caller base h update node i w v old now some =
      at (past_change (state_of pairs words log).pieces (ref_of w)) refl some
    where
      at : (o : Option Ref) → past_change (state_of pairs words log).pieces (ref_of w) ≡ o
          → HasSome (state_of pairs words log).pieces (past_rebuild (state_of pairs words log).pieces o)
          → (logical (state_of pairs words (Decide caller base true ∷ log)).pieces v ≡ logical (state_of pairs words log).pieces w)
          ⊎ HasSome (state_of pairs words (Decide caller base true ∷ log)).pieces
          (logical (state_of pairs words (Decide caller base true ∷ log)).pieces v)
      at None is k = absurd (no_leaves (state_of pairs words log).pieces k.leaves k.reached)
      at (Some ref) is k = let t = state_of pairs words log in
          let u = state_of pairs words (Decide caller base true ∷ log) in
          let set : ref ≢ Unset = λ none. unset_leaves t.pieces k.leaves (subst (λ r. HasLeaves t.pieces (past_rebuild t.pieces (Some r)) k.leaves) none k.reached) in
          let back : past_rebuild t.pieces (Some ref) ≡ logical t.pieces w =
          ap (past_rebuild t.pieces) (sym is) in
          ⊎_elim
          (λ r.
          let same = slot_once u node i v r.word (anchor_free pairs words (Decide caller base true ∷ log) h) now r.holds in
          inl (ap (logical u.pieces) same ∙ ap (past_rebuild u.pieces) r.reads ∙ past_rebuild_grows t u (grow_after pairs words log (Decide caller base true) h) ref k.leaves k.reached ∙ back))
          (λ turn. inr (turned (Decide caller base true) refl turn))
          (reads_step pairs words opens log (Decide caller base true) h node i ref set record { word = w; holds = old; reads = is })
        where
          turned : (event : Event) → Decide caller base true ≡ event
              → Turns (start pairs words) log node i ref event
              → HasSome (state_of pairs words (Decide caller base true ∷ log)).pieces (logical (state_of pairs words (Decide caller base true ∷ log)).pieces v)
          turned _ one (turned_by {caller = c} {base = b} can n j from) =
              let t = state_of pairs words log in
              let u = state_of pairs words (Decide caller base true ∷ log) in
              let here : b ≡ base = cc in let mine = h.1 in
              let row : can.change ≡ mine.change = same_change (t.pieces base) can.change mine.change (subst (λ m. t.pieces m ≡ Some (Change can.change)) here can.pending.published) mine.pending.published in
              let to = undecided_to log h.0 base mine.change mine.pending.published in
              let r = decide_reads pairs words opens log caller base h mine.change mine.pending.published to.0 to.1 in
              let there = subst (λ m. ReadsAs u m i to.0) (ap (λ x. x.node) (sym row) ∙ n) (subst (λ m. ReadsAs u mine.change.node m to.0) (ap (λ x. x.index) (sym row) ∙ j) r) in
              let same = slot_once u node i v there.word (anchor_free pairs words (Decide caller base true ∷ log) h) now there.holds in
              let some_to = update_some log caller base h mine.change mine.pending.published mine.pending.unset update to.0 to.1 in
              subst (λ o. HasSome u.pieces o)
              (sym (ap (logical u.pieces) same ∙ ap (past_rebuild u.pieces) there.reads ∙ plain_to u.pieces to.0 some_to)) some_to

  -- contents exist after an update is decided yes
  pub update_contents : (log : Log) (caller base : ℕ)
      → (h : EachEnabled (start pairs words) (Decide caller base true ∷ log))
      → IsUpdate (h.1).change.kind
      → HasSome (state_of pairs words log).pieces (logical (state_of pairs words log).pieces (state_of pairs words log).anchor)
      → HasSome (state_of pairs words (Decide caller base true ∷ log)).pieces
      (logical (state_of pairs words (Decide caller base true ∷ log)).pieces (state_of pairs words (Decide caller base true ∷ log)).anchor)
  update_contents log caller base h update some = let t = state_of pairs words log in
      let u = state_of pairs words (Decide caller base true ∷ log) in
      let g = grow_after pairs words log (Decide caller base true) h in
      let alike : IsAlikeEnough t.pieces u.pieces = record {
        leaf = λ b r e. leaf_there t.pieces u.pieces g b r e;
        row = λ b r e. let it = inner_there t.pieces u.pieces g b r e in
            (it.0, it.1, it.2.slots, λ i w v at now k. slot_enough log caller base h update b i w v (in_row r e at) (in_row it.0 it.1 now) k);
      } in
      let moved =
      some_move t.pieces u.pieces alike (logical t.pieces t.anchor) some.leaves some.reached in
      ⊎_elim (λ same. subst (λ o. HasSome u.pieces o) (sym same) moved) (λ anyhow. anyhow)
      (slot_enough log caller base h update anchor 0 t.anchor u.anchor (in_anchor refl refl refl) (in_anchor refl refl refl) some)
