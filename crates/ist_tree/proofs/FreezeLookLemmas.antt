-- What is below the anchor, by the word in its slot. Serves `look` and what it calls.
use Rattle.std.proofs.Common.{◌≡◌, ◌≢◌, ℕ, Some, refl, sym, ap, ◌∙◌, subst, inr, arith}
use Rattle.ist_rows.specs.RowTerms.{took_few, IsReady}
use Rattle.ist_rows.specs.declared.callers.Caller.{Caller}
use Rattle.ist_core.specs.declared.states.RebuildRow.{RebuildRow}
use Rattle.ist_core.specs.TreeTerms.{Linked, at_anchor, HasTarget, IsStarted}
use Rattle.ist_core.specs.LogTerms.{same_log}
use Rattle.ist_core.specs.WordTerms.{ChangeAt, Empty, InnerAt, LeafAt, RebuildAt, Ref, ref_of, anchor, SlotHolds, logical, past_change, start}
use Rattle.ist_core.proofs.AllLogLemmas.{rebuild_there, ever_now}
use Rattle.ist_core.proofs.AllPlaceLemmas.{SlotNames, slot_names, names, anchor_free, no_row}
use Rattle.ist_core.proofs.AllWordLemmas.{word_of-ref_of, same_rebuild}
use Rattle.ist_find.specs.Searches.{SeesChange}
use Rattle.ist_layout.specs.Meanings.{ref_meant}
use Rattle.laws_links.proofs.FormLemmas.{started_grows}
use Rattle.ist_rebuild.specs.Starting.{MayStart}
use Rattle.ist_dcss.proofs.FieldLemmas.{started_rebuild}
use Rattle.laws_calls.proofs.ReadLemmas.{read_started}
use Rattle.ist_rule.specs.RuleTerms.{TokenFace, WentOn, GoesOnTo, now, IsSound}
use Rattle.ist_rule.specs.declared.view.View.{View}
use Rattle.ist_rule.proofs.LaterLemmas.{goes_on_more, later-goes_on}
use Rattle.ist_rule.proofs.WentOnLemmas.{goes_on_grow, goes_on_went, later_by-goes_on}
use Rattle.ist_tree.specs.CallTerms.{Frozen, Rebuilt, Still, HeldInnerRow, IsStill, WasFrozen, all_keys, no_key, one_key, GoesIdle, HasStarted, HasMet, HasNoRow, IsBelowAnchor, WasTop}
use Rattle.ist_tree.proofs.FreezeGoingLemmas.{all_but, below_grows, frozen_more, plain_idle}
use Rattle.ist_tree.proofs.FreezingLemmas.{top_was_frozen}
use Rattle.ist_tree.proofs.FurtherLemmas.{load_plain, plain_done, plain_on}

module _ (v : View) (s : IsSound v) (word : ℕ) (holds : SlotHolds (now v) anchor 0 word) where
  -- the word is in the anchor's slot
  anchor_is : (now v).anchor ≡ word
  anchor_is = grind (arith, no_row, anchor_free)

  -- a row that it reads as is the anchor's child
  child_top : (target : ℕ) → logical (now v).pieces word ≡ Some (InnerAt target)
      → WasTop v v.log target
  child_top target reads = record {
    at = v.log;
    since = same_log;
    until = same_log;
    child = record { word = word; holds = holds; reads = reads };
  }

  -- ---- an inner row

  -- an inner row that the word names was the anchor's child
  pub row_top : (target : ℕ) → ref_of word ≡ Some (InnerAt target) → WasTop v v.log target
  row_top target is = grind (arith, child_top)

  -- a rebuild of an inner row that the word names may be started
  pub row_may_start : (target : ℕ) → ref_of word ≡ Some (InnerAt target) → MayStart v anchor 0 target
  row_may_start target is =
      let named = subst (SlotNames (now v).pieces anchor 0) is
      (slot_names (now v) anchor 0 word (names v.start v.words s.lawful.opens v.log s.lawful.enabled)
      holds) in
      record {
        prefix = v.log;
        goes_on = same_log;
        stood = subst (SlotHolds (now v) anchor 0)
            (sym (word_of-ref_of word (InnerAt target) is).same_word) holds;
        linked = ever_now (start v.start v.words) (λ t. Linked t anchor) v.log at_anchor;
        row = named.1.0;
        published = named.1.1;
        due = inr refl;
      }

  -- so the anchor's slot holds an inner row
  pub row_held : (target : ℕ) → ref_of word ≡ Some (InnerAt target)
      → HeldInnerRow v.start v.words v.log v.log
  row_held target is = record {
    at = v.log;
    since = same_log;
    until = same_log;
    row = target;
    holds = subst (SlotHolds (now v) anchor 0)
        (sym (word_of-ref_of word (InnerAt target) is).same_word) holds;
  }

  -- ---- a rebuild

  -- a rebuild that the word names is started
  pub rebuild_started : (rebuild : ℕ) → ref_of word ≡ Some (RebuildAt rebuild)
      → IsStarted (now v) rebuild
  rebuild_started rebuild is =
      read_started v.start v.words s.lawful.opens v.log s.lawful.enabled anchor 0 rebuild
      record { word = word; holds = holds; reads = ap (past_change (now v).pieces) is }

  -- and is below the anchor
  pub rebuild_below : (rebuild : ℕ) → ref_of word ≡ Some (RebuildAt rebuild)
      → IsBelowAnchor (now v) rebuild
  rebuild_below rebuild is =
      let named = subst (SlotNames (now v).pieces anchor 0) is
      (slot_names (now v) anchor 0 word (names v.start v.words s.lawful.opens v.log s.lawful.enabled)
      holds) in
      record { row = named.row; published = named.published; parent_is = named.parent }

  -- the target of a rebuild that the word names was the anchor's child
  pub rebuild_top : (rebuild : ℕ) → ref_of word ≡ Some (RebuildAt rebuild) → (target : ℕ)
      → HasTarget (now v) rebuild target → WasTop v v.log target
  rebuild_top rebuild is target h = grind (arith, child_top)

  -- ---- a change

  -- a change that the word names is seen
  pub change_seen : (base : ℕ) → ref_of word ≡ Some (ChangeAt base) → SeesChange v base
  change_seen base is =
      let named = subst (SlotNames (now v).pieces anchor 0) is
      (slot_names (now v) anchor 0 word (names v.start v.words s.lawful.opens v.log s.lawful.enabled)
      holds) in
      record { row = named.row; published = named.published }

  -- ---- nothing, or a leaf

  still_reads : (ref : Ref) (keys : ℕ) → IsStill (now v) ref keys → ref_of word ≡ Some ref
      → logical (now v).pieces (now v).anchor ≡ Some ref
  still_reads _ _ no_key is = grind (arith, anchor_is)
  still_reads _ _ (one_key base row e) is = grind (arith, anchor_is)
  still_reads _ _ (all_keys base keys f) is = grind (arith, anchor_is)

  -- a tree that the word names is frozen now if no step changes it
  pub still_top : (frozen : Frozen) → ref_of word ≡ Some (ref_meant frozen.root)
      → IsStill (now v) (ref_meant frozen.root) frozen.keys
      → WasFrozen v.start v.words v.log v.log frozen
  still_top frozen is still = grind (arith, top_was_frozen, still_reads)

  -- a leaf that the word names is a frozen tree with one key
  pub leaf_still : (base : ℕ) → ref_of word ≡ Some (LeafAt base) → IsStill (now v) (LeafAt base) 1
  leaf_still base is =
      let named = subst (SlotNames (now v).pieces anchor 0) is
      (slot_names (now v) anchor 0 word (names v.start v.words s.lawful.opens v.log s.lawful.enabled)
      holds) in
      one_key base named.0 named.1

-- a caller that looked goes on, and has met such a tree
module _ (who : Caller) (token : TokenFace) (ready : IsReady who)
    (seen : GoesOnTo who.token.view token.view) where
  went : WentOn (λ event. ⊥) who.token.view token.view
  went = goes_on_went (λ event. ⊥) who.token.view token.view seen

  -- the caller started no rebuild
  pub looked_idle : GoesIdle who (record who { token = token })
  looked_idle = plain_idle (λ event. ⊥) load_plain who token ready went

  -- the caller has met the frozen tree
  pub looked_still : (frozen : Frozen)
      → WasFrozen token.view.start token.view.words token.view.log token.view.log frozen
      → HasNoRow frozen → HasMet who (record who { token = token }) (Still frozen)
  looked_still frozen was none = record {
    on = looked_idle.on;
    is = (
      frozen_more (λ event. ⊥) who.token.view token.view token.view.log went frozen
          seen.sound.lawful was,
      none,
    );
    done = looked_idle.done;
    few = let few = looked_idle.few in took_few (omega arith);
  }

-- a leaf is no inner row
pub leaf_no_row : (base row : ℕ) → LeafAt base ≢ InnerAt row
leaf_no_row base row e = cc

-- nor is nothing
pub empty_no_row : (row : ℕ) → Empty ≢ InnerAt row
empty_no_row row e = cc

-- ---- rebuilds that were met

-- one that was started
pub begun_met : (old new : Caller) (target rebuild : ℕ)
    → WasTop old.token.view old.token.view.log target → HasStarted old new target (Some rebuild)
    → HasMet old new (Rebuilt rebuild target)
begun_met old new target rebuild top b = grind (arith, goes_on_more, later_by-goes_on)

-- one that stood there
pub stood_met : (who : Caller) (token : TokenFace) (rebuild target : ℕ) → IsSound who.token.view
    → IsReady who → GoesOnTo who.token.view token.view → IsStarted (now who.token.view) rebuild
    → HasTarget (now token.view) rebuild target → IsBelowAnchor (now who.token.view) rebuild
    → ((n : ℕ) → HasTarget (now who.token.view) rebuild n
    → WasTop who.token.view who.token.view.log n)
    → HasMet who (record who { token = token }) (Rebuilt rebuild target)
stood_met who token rebuild target s ready seen started h below top = let v = who.token.view in
    let w = token.view in let went = goes_on_went (λ event. ⊥) v w seen in
    let grow = goes_on_grow v w seen in let row = started_rebuild v s rebuild started in
    let later = rebuild_there (now v).pieces (now w).pieces grow rebuild row.row row.published in
    let one = same_rebuild ((now w).pieces rebuild) later.0 h.row later.1 h.published in
    let target_was : HasTarget (now v) rebuild target =
    record {
      row = row.row;
      published = row.published;
      target_is = sym later.2.target ∙ ap (λ (x : RebuildRow). x.target) one ∙ h.target_is;
    } in
    let was = top target target_was in record {
      on = plain_on (λ event. ⊥) load_plain who token ready went;
      is = (
        record {
          started = started_grows (now v) (now w) grow rebuild started;
          target_is = h;
          below = below_grows (now v) (now w) grow rebuild below;
        },
        record {
          at = was.at;
          since = was.since;
          until = goes_on_more was.until (later-goes_on seen.later);
          child = was.child;
        },
      );
      done = all_but who (record who { token = token }) rebuild
          (plain_done (λ event. ⊥) load_plain who token ready went);
      few = let few = (looked_idle who token ready seen).few in took_few (omega arith);
    }
