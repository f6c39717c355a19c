-- Each published change has the form of its kind, and a rebuild with a root has a finished target. Serves the linked law and the
-- replacement law.
use Rattle.std.proofs.Common.{List, Some, ap, inl, inr, refl, subst, sym, ℕ, ◌∙◌, ◌∷◌, ◌≡◌, ◌≢◌}
use Rattle.ist_core.specs.declared.events.Event.{Event}
use Rattle.ist_core.specs.declared.events.Event.TheVariants.{Decide, Draw, Install, Root}
use Rattle.ist_core.specs.declared.lists.Row.{Row}
use Rattle.ist_core.specs.declared.pairs.Pair.{Pair}
use Rattle.ist_core.specs.declared.states.ChangeRow.{ChangeRow}
use Rattle.ist_core.specs.declared.states.InnerRow.{InnerRow}
use Rattle.ist_core.specs.declared.states.LeafRow.{LeafRow}
use Rattle.ist_core.specs.declared.states.RebuildRow.{RebuildRow}
use Rattle.ist_core.specs.LogTerms.{after, decision_word, EachEnabled, state_of, Log, state, Snapshot}
use Rattle.ist_core.specs.TreeTerms.{AllGrow, Grows, RebuildGrows, change_grows, inner_grows, leaf_stays, rebuild_grows, CanInstall, FitsKind, new_leaf, new_rebuild, pair_row}
use Rattle.ist_core.specs.WordTerms.{Change, Inner, Leaf, Piece, Rebuild, with_slot, ChangeAt, InnerAt, unset_word, word_of, start}
use Rattle.laws_links.specs.Linking.{IsFinished}
use Rattle.ist_core.proofs.AllEventLemmas.{IsPublishedWith, fresh_stands, with_installed, pair_is_inner, HeldLieApart, holds_installed}
use Rattle.ist_core.proofs.AllLogLemmas.{all_grow-changed_at, grows-with_slot, grow_after}
use Rattle.laws_links.proofs.FormLemmas.{IsFormed, finished_grows, formed_decided, formed_grows, leaf_of_grows, of_finish, of_leaf_put, of_pair_put, of_remove, of_start, room_grows}
use Rattle.laws_links.proofs.InductionLemmas.{changes_by, rebuilds_by, sound_after}
use Rattle.laws_links.proofs.PublishedLemmas.{new_rebuild_row}
use Rattle.ist_core.specs.Installing as kinds

-- a fresh row of an Install is published by it, and may have grown
pub fresh_after : (first : Snapshot) (log : Log) (caller base : ℕ) (rows : List Row)
    (h : CanInstall first log caller base rows)
    → HeldLieApart (state first log) → (at : ℕ) (p : Piece)
    → IsPublishedWith first log h.change h.fresh h.fits at p
    → (q : Piece) × ((state first (Install caller base rows ∷ log)).pieces at ≡ Some q) × Grows p q
fresh_after first log caller base rows h s at p is = let t = state first log in
    let qs = with_installed t.pieces base h.change h.fresh in
    let f = with_slot h.change.index (word_of (ChangeAt base)) in
    let there = fresh_stands first log caller base h.change h.fresh s t.pieces h.fits (holds_installed first log caller base rows h) at p is in
    subst (λ xs. (q : Piece) × ((after t (Install caller base xs)).pieces at ≡ Some q) × Grows p q)
    (sym h.rows_are)
    (all_grow-changed_at qs h.change.node f (λ x _. grows-with_slot h.change.index (word_of (ChangeAt base)) x) at p there)

-- a leaf doesn't grow
pub leaf_grown : (r : LeafRow) (q : Piece) → Grows (Leaf r) q → q ≡ Leaf r
leaf_grown r _ leaf_stays = refl

-- an inner row grows into an inner row
inner_grown : (p q : Piece) (r : InnerRow) → p ≡ Inner r → Grows p q
    → (s : InnerRow) × (q ≡ Inner s)
inner_grown _ _ r e leaf_stays = absurd (cc)
inner_grown _ _ r e (inner_grows {new = s} g) = (s, refl)
inner_grown _ _ r e (change_grows g) = absurd (cc)
inner_grown _ _ r e (rebuild_grows g) = absurd (cc)

rebuild_grown : (r : RebuildRow) (q : Piece) → Grows (Rebuild r) q
    → (s : RebuildRow) × (q ≡ Rebuild s) × RebuildGrows r s
rebuild_grown r _ (rebuild_grows {new = s} g) = (s, refl, g)

-- the form of a change after its Install. A finish has a finished target if rebuilds with roots
-- have
formed_installed : (first : Snapshot) (log : Log) (caller base : ℕ) (rows : List Row)
    → ((rebuild : ℕ) (r : RebuildRow) → (state first log).pieces rebuild ≡ Some (Rebuild r)
    → r.root ≢ unset_word → IsFinished (state first log) r.target)
    → AllGrow (state first log).pieces (state first (Install caller base rows ∷ log)).pieces
    → (change : ChangeRow) (fresh : List Row) (fits : FitsKind first log change fresh)
    → ((at : ℕ) (p : Piece) → IsPublishedWith first log change fresh fits at p
    → (q : Piece)
    × ((state first (Install caller base rows ∷ log)).pieces at ≡ Some q) × Grows p q)
    → IsFormed (state first (Install caller base rows ∷ log)) change
formed_installed first log caller base rows done g change fresh (kinds.a_put h) following =
    let u = state first (Install caller base rows ∷ log) in
    let it = following h.leaf (new_leaf change) (refl, refl) in of_leaf_put record {
      kind = h.kind;
      from = room_grows (state first log) u g change.key change.from h.from;
      leaf = h.leaf;
      to = h.to;
      new =
          it.1 ∙ ap (λ x. Some x) (leaf_grown record { key = change.key; value = change.value } it.0 it.2);
    }
formed_installed first log caller base rows done g change fresh (kinds.a_pair h) following =
    let u = state first (Install caller base rows ∷ log) in
    let p = pair_row change.key h.leaf h.other_key h.other in
    let leaf = following h.leaf (new_leaf change) (inr (refl, refl)) in
    let pair = following h.pair p (inl (refl, refl)) in
    let inner = pair_is_inner change.key h.leaf h.other_key h.other in
    let row = inner_grown p pair.0 inner.0 inner.1 pair.2 in of_pair_put record {
      kind = h.kind;
      other = h.other;
      other_key = h.other_key;
      from = h.from;
      stands = leaf_of_grows (state first log) u g h.other h.other_key h.stands;
      differs = h.differs;
      leaf = h.leaf;
      new =
          leaf.1 ∙ ap (λ x. Some x) (leaf_grown record { key = change.key; value = change.value } leaf.0 leaf.2);
      pair = h.pair;
      to = h.to;
      above = h.above;
      row = row.0;
      published = pair.1 ∙ ap (λ x. Some x) row.1;
      grew = subst (λ q. Grows p q) row.1 pair.2;
    }
formed_installed first log caller base rows done g change fresh (kinds.a_remove h) following =
    of_remove record {
      kind = h.kind;
      leaf = h.leaf;
      from = h.from;
      stands =
          leaf_of_grows (state first log) (state first (Install caller base rows ∷ log)) g h.leaf change.key h.stands;
      to = h.to;
    }
formed_installed first log caller base rows done g change fresh (kinds.a_start h) following =
    let it = following h.rebuild (new_rebuild change h.target) (refl, refl) in
    let row = rebuild_grown (new_rebuild_row change h.target) it.0 it.2 in of_start record {
      kind = h.kind;
      rebuild = h.rebuild;
      row = row.0;
      from = h.from ∙ ap (λ n. Some (InnerAt n)) (sym row.2.target);
      to = h.to;
      published = it.1 ∙ ap (λ x. Some x) row.1;
      parent = row.2.parent;
      index = row.2.index;
    }
formed_installed first log caller base rows done g change fresh (kinds.a_finish h) following =
    formed_grows (state first log) (state first (Install caller base rows ∷ log)) g change
    (of_finish record {
      kind = h.kind;
      rebuild = h.rebuild;
      row = h.row;
      from = h.from;
      published = h.published;
      to = h.to;
      set = h.built.set;
      parent = h.parent;
      index = h.index;
      started = h.started;
      finished = done h.rebuild h.row h.published h.built.set;
    })

module _ (pairs : List Pair) (words : ℕ) where
  -- what is finished stays so
  pub finished_step : (log : Log) (event : Event) → EachEnabled (start pairs words) (event ∷ log)
      → (node : ℕ) → IsFinished (state_of pairs words log) node
      → IsFinished (state_of pairs words (event ∷ log)) node
  finished_step log event h node f =
      finished_grows (state_of pairs words log) (state_of pairs words (event ∷ log))
      (grow_after pairs words log event h) node f

  -- a rebuild with a root has a finished target
  pub rooted_is_finished : (log : Log) → EachEnabled (start pairs words) log
      → (base : ℕ) (r : RebuildRow)
      → (state_of pairs words log).pieces base ≡ Some (Rebuild r) → r.root ≢ unset_word
      → IsFinished (state_of pairs words log) r.target
  rooted_is_finished = rebuilds_by pairs words
      (λ log base r. r.root ≢ unset_word → IsFinished (state_of pairs words log) r.target)
      (λ log event h base r old there before set. finished_step log event h r.target (before set))
      (λ log caller change rows h can s set. absurd (set refl))
      (λ log caller base word rows h can before set. finished_step log (Root caller base word rows) h can.row.target (can.k, can.finished))
      (λ log caller base part h can before set. finished_step log (Draw caller base part) h can.row.target (can.k, can.finished))

  -- each change has the form of its kind
  pub changes_are_formed : (log : Log) → EachEnabled (start pairs words) log
      → (base : ℕ) (x : ChangeRow) → (state_of pairs words log).pieces base ≡ Some (Change x)
      → IsFormed (state_of pairs words log) x
  changes_are_formed = changes_by pairs words (λ log base x. IsFormed (state_of pairs words log) x)
      (λ log event h base x old there formed. formed_grows (state_of pairs words log) (state_of pairs words (event ∷ log)) (grow_after pairs words log event h) x formed)
      (λ log caller base rows h can.
      formed_installed (start pairs words) log caller base rows (rooted_is_finished log h.0)
      (grow_after pairs words log (Install caller base rows) h) can.change can.fresh can.fits
      (fresh_after (start pairs words) log caller base rows can (sound_after pairs words log h.0)))
      (λ log caller base said h can formed.
      formed_decided (state_of pairs words (Decide caller base said ∷ log)) can.change
      (decision_word said)
      (formed_grows (state_of pairs words log) (state_of pairs words (Decide caller base said ∷ log)) (grow_after pairs words log (Decide caller base said) h) can.change formed))
