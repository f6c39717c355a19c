-- When a caller has seen its table make progress, and that it sees that only so often. Serves the
-- loops of the crates above.
use Rattle.std.proofs.Common.{◌≡◌, ℕ, ◌-◌, ◌<◌, Some, sym, subst, arith, ◌+◌, refl}
use Rattle.ist_core.specs.declared.events.Event.{Event}
use Rattle.ist_core.specs.declared.events.Event.TheVariants.{Count, Draw}
use Rattle.ist_core.specs.declared.states.InnerRow.{InnerRow}
use Rattle.ist_core.specs.declared.states.RebuildRow.{RebuildRow}
use Rattle.ist_core.specs.declared.events.Who.TheVariants.{Caller}
use Rattle.ist_core.specs.LogTerms.{GoesOn, Happened, Resolves, Later, Log, state_of, IsShown}
use Rattle.ist_core.specs.WordTerms.{ChangeAt, ref_of, SlotHolds, inner_count_offset, rebuild_draw_offset, Inner, Rebuild, start}
use Rattle.ist_core.proofs.AllWordLemmas.{word_of-ref_of}
use Rattle.ist_core.proofs.AllLogLemmas.{goes_on_by, on_chain_inner, count_low, inner_there, rebuild_there}
use Rattle.laws_links.proofs.ResolvedLemmas.{resolved_gone, draw_low}
use Rattle.ist_rule.specs.RuleTerms.{WentOn, now, GoesOnTo, IsSound, MayCome, IsResolved, CanAdd}
use Rattle.ist_rule.specs.declared.view.View.{View}
use Rattle.laws_stability.specs.Progress.{progress, most_progress}
use Rattle.laws_stability.proofs.BoundLemmas.{bounded}
use Rattle.laws_stability.proofs.OwnLemmas.{never_falls, resolving}
use Rattle.laws_coming.specs.Further.{CameFurther}
use Rattle.ist_core.specs.TreeTerms.{CanDraw, CanCount}
use Rattle.ist_rule.proofs.WatchLemmas.{shown_in_row}
use Rattle.laws_stability.proofs.IdealLemmas.{next_draw_stays}
use Rattle.laws_stability.proofs.CountEventLemmas.{count_stays}
use Rattle.laws_stability.proofs.ChangeEventLemmas.{none_accepted}
use Rattle.laws_coming.proofs.KnownLemmas.{in_piece, fast_known, grow}

-- progress after an earlier log is progress
pub later_further : (u v w : View) → GoesOn u.log v.log → CameFurther v w → CameFurther u w
later_further u v w g k = grind (arith, never_falls)

-- steps before it take nothing away
pub no_less : (P : Event → Type 0) (u v w : View) → WentOn P u v → CameFurther v w → CameFurther u w
no_less P u v w g = later_further u v w (goes_on_by g.later)

-- loads before it keep it
pub after_load : (u v w : View) → GoesOnTo u v → CameFurther v w → CameFurther u w
after_load u v w g = later_further u v w (goes_on_by g.later)

-- steps after it keep it
pub and_on : (P : Event → Type 0) (u v w : View) → CameFurther u v → WentOn P v w → CameFurther u w
and_on P u v w k g = grind (arith, never_falls, goes_on_by)

-- a change that wasn't resolved before is resolved after
pub resolved_further : (P : Event → Type 0) (v w : View) → WentOn P v w → (change : ℕ)
    → ¬ (Happened (Resolves change) v.log) → Happened (Resolves change) w.log → CameFurther v w
resolved_further P v w g change before out =
    record { more = resolving v.log w.log (goes_on_by g.later) change before out }

-- a change that was in a slot before is resolved after
pub helped_further : (P : Event → Type 0) (v w : View) → IsSound v → WentOn P v w
    → (node i word change : ℕ) → SlotHolds (now v) node i word
    → ref_of word ≡ Some (ChangeAt change) → Happened (Resolves change) w.log → CameFurther v w
helped_further P v w s g node i word change here is out = resolved_further P v w g change
    (λ before. resolved_gone v.start v.words s.lawful.opens v.log s.lawful.enabled change before node
    i
    (subst (SlotHolds (now v) node i) (sym (word_of-ref_of word (ChangeAt change) is).same_word)
    here))
    out

-- less progress is left then
pub fewer_left : (v w : View) → IsSound w → CameFurther v w
    → most_progress - progress w.log < most_progress - progress v.log
fewer_left v w s k = grind (arith, bounded)

-- ---- an add may be the event that it is named for, whatever others do meanwhile. Serves
-- `laws.enabled_events_come`.

module _ (v : View) (s : IsSound v) (number : ℕ) (mine : v.who ≡ Caller number) where
  -- ---- counts

  -- the count after a log that may come
  count_after : (node : ℕ) (row : InnerRow) → (now v).pieces node ≡ Some (Inner row) → (log : Log)
      → MayCome v log → (found : ℕ)
      → IsShown (state_of v.start v.words log) (node + inner_count_offset) found
      → (r : InnerRow) × ((state_of v.start v.words log).pieces node ≡ Some (Inner r))
      × (found ≡ r.count)
  count_after node row e log m found shown = let u = state_of v.start v.words log in
      let on = inner_there (now v).pieces u.pieces (grow v log m) node row e in (
        on.0,
        on.1,
        shown_in_row v.start v.words log m.lawful.enabled node (Inner on.0) 1 on.0.count on.1 refl
            (node + inner_count_offset) found shown refl,
      )

  -- an add to the count may be the Count
  pub count_comes : (node : ℕ) → IsResolved v number
      → CanCount (start v.start v.words) v.log number node
      → CanAdd v (node + inner_count_offset) (λ found. Count number node)
  count_comes node all can =
      let it = on_chain_inner v.start v.words s.lawful.opens v.log s.lawful.enabled
      can.update.change.node node can.on_chain in
      record {
        make = grind arith;
        known = fast_known v _ (in_piece node 1 (Inner it.0) it.1 (omega arith));
        comes = λ log m found shown. let u = state_of v.start v.words log in
            let r = count_after node it.0 it.1 log m found shown in record {
              enabled = count_stays v.start v.words number
                  (subst (λ who. Later who v.log log) mine m.later) m.lawful.enabled node can
                  (none_accepted v.start v.words s.lawful.opens v.log s.lawful.enabled number all
                  u);
              touches = grind arith;
            };
        fits = grind (arith, count_after, count_low);
      }

  -- ---- draws

  -- the draw word after a log that may come
  draw_after : (rebuild : ℕ) (row : RebuildRow) → (now v).pieces rebuild ≡ Some (Rebuild row)
      → (log : Log) → MayCome v log → (found : ℕ)
      → IsShown (state_of v.start v.words log) (rebuild + rebuild_draw_offset) found
      → (r : RebuildRow) × ((state_of v.start v.words log).pieces rebuild ≡ Some (Rebuild r))
      × (found ≡ r.draw)
  draw_after rebuild row e log m found shown = let u = state_of v.start v.words log in
      let on = rebuild_there (now v).pieces u.pieces (grow v log m) rebuild row e in (
        on.0,
        on.1,
        shown_in_row v.start v.words log m.lawful.enabled rebuild (Rebuild on.0) 4 on.0.draw on.1
            refl (rebuild + rebuild_draw_offset) found shown refl,
      )

  -- an add to the draw word may be a Draw
  pub draw_comes : (rebuild part : ℕ) → CanDraw (now v) v.log number rebuild part
      → CanAdd v (rebuild + rebuild_draw_offset) (λ found. Draw number rebuild found)
  draw_comes rebuild part can =
      grind (arith, fast_known, in_piece, draw_after, next_draw_stays, draw_low)
