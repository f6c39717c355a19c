-- What the row of a started rebuild says, and what becomes of it. Serves `field` and `plan_of`.
use Rattle.std.proofs.Common.{◌≡◌, ℕ, ◌+◌, ◌^◌, ◌<◌, [], slice_get, Some, refl, sym, ap, ◌∙◌, subst, arith}
use Rattle.std.proofs.lemmas.Option.{slice_get-get_or, same_Some}
use Rattle.std.specs.Prelude.{get_or}
use Rattle.ist_core.specs.declared.events.Event.{Event}
use Rattle.ist_core.specs.declared.states.RebuildRow.{RebuildRow}
use Rattle.ist_core.specs.TreeTerms.{RebuildGrows, FitsKind, a_finish, WasLinked, IsStarted, IsBuilt}
use Rattle.ist_core.specs.WordTerms.{Rebuild, words_of, RebuildAt, IsGoodBase, rebuild_words, SlotHolds, start}
use Rattle.ist_core.proofs.AllLogLemmas.{rebuild_there, published_good}
use Rattle.ist_core.proofs.AllPlaceLemmas.{IsRebuildFor}
use Rattle.ist_core.proofs.AllWordLemmas.{ref_of-word_of, same_rebuild}
use Rattle.laws_links.proofs.ChangeLemmas.{node_was_linked}
use Rattle.ist_rule.specs.RuleTerms.{WentOn, now, GoesOnTo, Looked, IsSound, IsNode}
use Rattle.ist_rule.specs.declared.view.View.{View}
use Rattle.ist_rule.proofs.EventLemmas.{goes_on_more, looked_goes_on}
use Rattle.ist_rule.proofs.WatchLemmas.{change_node}
use Rattle.ist_rule.proofs.WentOnLemmas.{goes_on_grow, goes_on_went, later_by-goes_on, went_grow, went_lawful}
use Rattle.ist_dcss.specs.HelpEvents.{IsSlot}
use Rattle.ist_dcss.specs.Reading.{IsRebuildRow}
use Rattle.ist_dcss.proofs.FieldLemmas.{looked_row, started_row, started_rebuild, fields_low}
use Rattle.ist_dcss.proofs.SlotPlaceLemmas.{fits_later, change_slot}
use Rattle.ist_build.specs.Calls.{IsBuiltOut}
use Rattle.ist_rebuild.specs.declared.sites.PlannedFinish.{PlannedFinish}
use Rattle.ist_rebuild.specs.Finishing.{IsWordOf, IsPlan, finish_row}
use Rattle.ist_rebuild.proofs.EventLemmas.{started_went}

-- ---- a published rebuild

-- the base of a rebuild is good
pub rebuild_good : (v : View) → IsSound v → (rebuild : ℕ) → IsRebuildRow (now v) rebuild
    → IsGoodBase rebuild
rebuild_good v s rebuild h = grind (arith, published_good)

-- so is that of a plan's rebuild
pub plan_good : (v : View) → IsSound v → (plan : PlannedFinish) → IsPlan v plan → IsGoodBase plan.rebuild
plan_good v s plan p = rebuild_good v s plan.rebuild record { row = p.row; published = p.published }

-- ---- words of its row

-- a published rebuild is still published after loads
pub rebuild_on : (v w : View) → GoesOnTo v w → (rebuild : ℕ) (row : RebuildRow)
    → (now v).pieces rebuild ≡ Some (Rebuild row)
    → (r : RebuildRow) × ((now w).pieces rebuild ≡ Some (Rebuild r)) × RebuildGrows row r
rebuild_on v w g rebuild row e =
    rebuild_there (now v).pieces (now w).pieces (goes_on_grow v w g) rebuild row e

-- a load of same_Some gives it
pub looked_word : (v : View) (place word : ℕ) (w : View) → Looked v place word w
    → (rebuild offset : ℕ) → IsRebuildRow (now v) rebuild → offset < rebuild_words
    → place ≡ rebuild + offset → IsWordOf (now w) rebuild offset word
looked_word v place word w l rebuild offset h less at =
    let on = rebuild_on v w (looked_goes_on v place word w l) rebuild h.row h.published in
    let words = words_of (Rebuild on.0) in
    let got : slice_get words offset ≡ Some (get_or words offset 0) =
    slice_get-get_or words offset 0 less in
    let same = looked_row v place word w l rebuild (Rebuild on.0) offset (get_or words offset 0)
    on.1 got at in
    record { row = on.0; published = on.1; is = got ∙ ap (λ n. Some n) (sym same) }

-- the parent's word of a rebuild fits in 32 bits
pub parent_small : (v : View) → IsSound v → (rebuild word : ℕ) → IsWordOf (now v) rebuild 1 word
    → word < 2 ^ 32
parent_small v s rebuild word h = grind (arith, same_Some, fields_low)

-- ---- the plan of a finish

-- the words that were loaded same_Some after another
pub record HasReadSite (v w : View) (rebuild parent index root : ℕ) : Type 0 where
  pub a : View
  pub b : View
  pub to_parent : GoesOnTo v a
  pub to_index : GoesOnTo a b
  pub to_root : GoesOnTo b w
  pub parent_is : IsWordOf (now a) rebuild 1 parent
  pub index_is : IsWordOf (now b) rebuild 2 index
  pub root_is : IsWordOf (now w) rebuild 3 root

-- the change that they make up fits, if they are the row's, and its root is built
fits_first : (v : View) → IsSound v → (plan : PlannedFinish) (row : RebuildRow)
    → (now v).pieces plan.rebuild ≡ Some (Rebuild row) → IsStarted (now v) plan.rebuild
    → (b : IsBuiltOut (now v) plan.rebuild) → row.parent ≡ plan.parent → row.index ≡ plan.index
    → row.root ≡ plan.root → (owner : ℕ)
    → FitsKind (start v.start v.words) v.log (finish_row plan owner) []
fits_first v s plan row e started b parent index root owner =
    let same : b.row ≡ row =
    same_rebuild ((now v).pieces plan.rebuild) b.row row b.published e in
    a_finish record {
      kind = refl;
      key = refl;
      value = refl;
      rebuild = plan.rebuild;
      row = row;
      from = ref_of-word_of (RebuildAt plan.rebuild)
          (rebuild_good v s plan.rebuild record { row = row; published = e });
      published = e;
      started = started;
      parent = parent;
      index = index;
      to = sym root;
      built = subst (λ (r : RebuildRow). IsBuilt (now v) r.root) same b.built;
      fresh_are = refl;
    }

-- a plan stays same_Some
pub plan_went : (P : Event → Type 0) (v w : View) → WentOn P v w → (plan : PlannedFinish) → IsPlan v plan
    → IsPlan w plan
plan_went P v w g plan p =
    let it = rebuild_there (now v).pieces (now w).pieces (went_grow P v w g) plan.rebuild p.row
    p.published in
    record {
      row = it.0;
      published = it.1;
      parent_is = it.2.parent ∙ p.parent_is;
      index_is = it.2.index ∙ p.index_is;
      started = started_went P v w g plan.rebuild p.started;
      fits = λ owner. subst (λ x. FitsKind (start x w.words) w.log (finish_row plan owner) [])
          (sym (ap (λ x. x.start) g.same))
          (subst (λ n. FitsKind (start v.start n) w.log (finish_row plan owner) [])
          (sym (ap (λ x. x.words) g.same))
          (fits_later v.start v.words (went_lawful P v w g).opens v.log w.log
          (went_lawful P v w g).enabled (later_by-goes_on g.later) (finish_row plan owner) []
          (p.fits owner)));
    }

-- a plan is still a plan after loads
pub plan_on : (v w : View) → GoesOnTo v w → (plan : PlannedFinish) → IsPlan v plan → IsPlan w plan
plan_on v w g plan p = plan_went (λ event. ⊥) v w (goes_on_went (λ event. ⊥) v w g) plan p

-- the words that were loaded make a plan
pub planned : (v w : View) → IsSound v → (plan : PlannedFinish) → IsStarted (now v) plan.rebuild
    → IsBuiltOut (now v) plan.rebuild → HasReadSite v w plan.rebuild plan.parent plan.index plan.root
    → IsPlan w plan
planned v w s plan started b r = let first = started_rebuild v s plan.rebuild started in
    let ga = r.to_parent in let gb = goes_on_more v r.a r.b r.to_parent r.to_index in
    let gw = goes_on_more v r.b w gb r.to_root in
    let at_a = rebuild_on v r.a ga plan.rebuild first.row first.published in
    let at_b = rebuild_on v r.b gb plan.rebuild first.row first.published in
    let at_w = rebuild_on v w gw plan.rebuild first.row first.published in
    let same_a = same_rebuild ((now r.a).pieces plan.rebuild) at_a.0 r.parent_is.row at_a.1
    r.parent_is.published in
    let same_b = same_rebuild ((now r.b).pieces plan.rebuild) at_b.0 r.index_is.row at_b.1
    r.index_is.published in
    let same_w = same_rebuild ((now w).pieces plan.rebuild) at_w.0 r.root_is.row at_w.1
    r.root_is.published in
    let same_v = same_rebuild ((now v).pieces plan.rebuild) b.row first.row b.published
    first.published in
    let parent : first.row.parent ≡ plan.parent =
    sym at_a.2.parent ∙ ap (λ x. x.parent) same_a
    ∙ same_Some r.parent_is.row.parent plan.parent r.parent_is.is in
    let index : first.row.index ≡ plan.index =
    sym at_b.2.index ∙ ap (λ x. x.index) same_b
    ∙ same_Some r.index_is.row.index plan.index r.index_is.is in
    let root : first.row.root ≡ plan.root =
    sym (at_w.2.rooted (λ e. b.built.set (ap (λ x. x.root) same_v ∙ e)))
    ∙ ap (λ x. x.root) same_w ∙ same_Some r.root_is.row.root plan.root r.root_is.is in
    plan_on v w gw plan record {
      row = first.row;
      published = first.published;
      parent_is = parent;
      index_is = index;
      started = started;
      fits = fits_first v s plan first.row first.published started b parent index root;
    }

-- ---- the slot of a plan

module _ (v : View) (s : IsSound v) (plan : PlannedFinish) (p : IsPlan v plan) where
  here : IsRebuildFor (now v).pieces p.started.change.node p.started.change.index plan.rebuild
  here = started_row v s plan.rebuild p.started

  same_row : here.row ≡ p.row
  same_row = same_rebuild ((now v).pieces plan.rebuild) here.row p.row here.published p.published

  node_is : p.started.change.node ≡ plan.parent
  node_is = sym here.parent ∙ ap (λ x. x.parent) same_row ∙ p.parent_is

  index_is : p.started.change.index ≡ plan.index
  index_is = sym here.index ∙ ap (λ x. x.index) same_row ∙ p.index_is

  -- the parent is a node
  pub parent_node : IsNode (now v) plan.parent
  parent_node = subst (IsNode (now v)) node_is
      (change_node v.start v.words v.log s.lawful.enabled p.started.base p.started.change
      p.started.published)

  -- which was linked
  pub parent_linked : WasLinked (start v.start v.words) v.log plan.parent
  parent_linked = grind (arith, node_is, node_was_linked)

  -- the parent has the slot
  pub parent_slot : IsSlot v plan.parent plan.index
  parent_slot =
      let it = change_slot v.start v.words v.log s.lawful.enabled p.started.base p.started.change
      p.started.published in
      record {
        word = it.0;
        holds = subst (λ n. SlotHolds (now v) n plan.index it.0) node_is
            (subst (λ i. SlotHolds (now v) p.started.change.node i it.0) index_is it.1);
      }
