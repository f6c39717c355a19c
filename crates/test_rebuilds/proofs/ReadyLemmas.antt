-- What a caller knows of a rebuild over further steps. Serves the steps of the tests.
use Rattle.std.proofs.Common.{ℕ, ◌+◌, ◌<◌, ◌≤◌, arith}
use Rattle.ist_core.specs.TreeTerms.{HasTarget, IsFinishedWith, IsStarted}
use Rattle.ist_core.specs.WordTerms.{Rebuild, first_row}
use Rattle.laws_links.proofs.FinishedLemmas.{target_grows}
use Rattle.laws_links.proofs.FormLemmas.{finished_with_grows}
use Rattle.test_rebuilds.specs.Races.{HasLaid}
use Rattle.test_rebuilds.specs.Steps.{HasMarkedTarget}
use Rattle.ist_dcss.proofs.FieldLemmas.{row_above, row_low}
use Rattle.ist_mark.specs.Marking.{Marks}
use Rattle.ist_rows.specs.RowTerms.{IsReady}
use Rattle.ist_rows.specs.declared.callers.Caller.{Caller}
use Rattle.ist_rebuild.specs.Going.{ServesRebuild}
use Rattle.ist_rebuild.proofs.EventLemmas.{started_went}
use Rattle.ist_rebuild.proofs.RefusalLemmas.{has_marked}
use Rattle.ist_rule.specs.RuleTerms.{TokenFace, WentOn, GoesOnTo, now, IsSound}
use Rattle.ist_rule.specs.declared.view.View.{View}
use Rattle.ist_rule.proofs.WentOnLemmas.{goes_on_went, went_grow}

-- the target that it marked is finished
pub is_marked : (who : Caller) (mid token : TokenFace) (rebuild target keys : ℕ) → IsReady who
    → IsStarted (now who.token.view) rebuild → GoesOnTo who.token.view mid.view
    → HasTarget (now mid.view) rebuild target → WentOn (Marks token.view target) mid.view token.view
    → IsFinishedWith (now token.view) target keys → HasMarkedTarget (now token.view) rebuild target keys
is_marked who mid token rebuild target keys ready started seen h marks finished =
    let m = has_marked who mid token rebuild target keys ready started seen h marks finished in
    record {
      started = started_went ServesRebuild who.token.view token.view m.helped.on.gone.went rebuild started;
      target_is = target_grows (now mid.view) (now token.view)
          (went_grow (Marks token.view target) mid.view token.view marks) rebuild target h;
      finished = finished;
    }

-- and stays so after loads
pub marked_loads : (v w : View) → GoesOnTo v w → (rebuild target keys : ℕ)
    → HasMarkedTarget (now v) rebuild target keys → HasMarkedTarget (now w) rebuild target keys
marked_loads v w g rebuild target keys m = let went = goes_on_went (λ event. ⊥) v w g in
    let grow = went_grow (λ event. ⊥) v w went in record {
      started = started_went (λ event. ⊥) v w went rebuild m.started;
      target_is = target_grows (now v) (now w) grow rebuild target m.target_is;
      finished = finished_with_grows (now v) (now w) grow target keys m.finished;
    }

-- the root word of a rebuild for which a root was built lies within the table
pub laid_low : (v : View) (number rebuild word : ℕ) → IsSound v → HasLaid v number rebuild word
    → rebuild + 3 < v.words
laid_low v number rebuild word s h =
    (row_low v s rebuild (Rebuild h.built.row) h.built.published 3 (omega arith)).0

-- and after the anchor's slot
pub laid_above : (v : View) (number rebuild word : ℕ) → IsSound v → HasLaid v number rebuild word
    → first_row ≤ rebuild
laid_above v number rebuild word s h = row_above v s rebuild (Rebuild h.built.row) h.built.published
