-- Drawing parts, and filling slot by slot. Serves `filling`.
use Rattle.std.proofs.Common.{◌≤◌, ◌≡◌, ℕ, ◌+◌, ◌-◌, ◌<◌, List, [], ◌∷◌, Some, option_map, refl, sym, ap, ◌∙◌, subst, append-nil, inl, inr, ⊎_elim, arith}
use Rattle.std.proofs.lemmas.Bool.{cases_lt}
use Rattle.ist_core.specs.declared.events.Event.{Event}
use Rattle.ist_core.specs.declared.events.Event.TheVariants.{Draw}
use Rattle.ist_core.specs.declared.pairs.Pair.{Pair}
use Rattle.ist_core.specs.declared.states.RebuildRow.{RebuildRow}
use Rattle.ist_core.specs.declared.events.Who.TheVariants.{Caller as CallerOf}
use Rattle.ist_core.specs.LogTerms.{after, EachEnabled, state_of, Log, Happened, Draws, same_log, one_event, Snapshot, without}
use Rattle.ist_core.specs.TreeTerms.{CanDraw, IsFinishedWith}
use Rattle.ist_core.specs.WordTerms.{Rebuild, drawn, rebuild_draw_offset, start, SlotHolds}
use Rattle.ist_core.proofs.AllLogLemmas.{grow_between, rebuild_there, set_by}
use Rattle.ist_core.proofs.AllWordLemmas.{changed_at-same, same_rebuild}
use Rattle.ist_rule.specs.RuleTerms.{CanAdd, TokenFace, IsSound, now, Looked, Logged, GoesOnTo}
use Rattle.ist_rule.specs.declared.view.View.{View}
use Rattle.ist_rule.proofs.EventLemmas.{looked_goes_on}
use Rattle.ist_dcss.proofs.FieldLemmas.{looked_row}
use Rattle.ist_rows.specs.RowTerms.{sizes_built, TakesNoWords}
use Rattle.ist_rows.specs.declared.callers.Caller.{Caller}
use Rattle.ist_rows.proofs.FewStepLemmas.{none_loads}
use Rattle.ist_build.proofs.FewLemmas.{none_then}
use Rattle.laws_stability.proofs.SetLemmas.{set_later}
use Rattle.laws_coming.proofs.FurtherLemmas.{draw_comes}
use Rattle.ist_rule.proofs.WentOnLemmas.{later_by-goes_on}
use Rattle.ist_build.specs.BuildEvents.{drawing}
use Rattle.ist_build.specs.Calls.{IsBuiltOut}
use Rattle.ist_build.specs.declared.shared.SharedRoot.{SharedRoot}
use Rattle.ist_build.specs.Putting.{PutOn, IsShared, IsSlotSet}
use Rattle.ist_build.specs.Back.{IsFreeToBuild, IsBack, IsSharedAs, IsFilling}
use Rattle.ist_build.proofs.RisingListLemmas.{keeps_all}
use Rattle.ist_build.proofs.BackLemmas.{back_logged, back_loads, back_same, back_more, shared_back}
use Rattle.ist_build.proofs.BuiltLemmas.{loads_built, put_now, put_lawful}
use Rattle.ist_build.proofs.FilledLemmas.{many_filled}
use Rattle.ist_build.proofs.PartPutLemmas.{shared_now}
use Rattle.ist_build.proofs.TopBegunLemmas.{sizes_on}

-- ---- draws

-- a part that was drawn lies below the draw word
pub record WasDrawn (t : Snapshot) (rebuild part : ℕ) : Type 0 where
  pub row : RebuildRow
  pub published : t.pieces rebuild ≡ Some (Rebuild row)
  pub below : part < row.draw

module _ (pairs : List Pair) (words caller rebuild part : ℕ) where
  on_later : (log : Log) (event : Event) → EachEnabled (start pairs words) (event ∷ log)
      → WasDrawn (state_of pairs words log) rebuild part
      → WasDrawn (state_of pairs words (event ∷ log)) rebuild part
  on_later log event h it =
      let on = rebuild_there (state_of pairs words log).pieces
      (state_of pairs words (event ∷ log)).pieces
      (grow_between pairs words log (event ∷ log) h (one_event event same_log)) rebuild it.row
      it.published in
      let below = it.below in let more = on.2.draw in
      record { row = on.0; published = on.1; below = omega arith }

  here : (log : Log) (event : Event) → EachEnabled (start pairs words) (event ∷ log)
      → Draws caller rebuild part event → WasDrawn (state_of pairs words (event ∷ log)) rebuild part
  here log (Draw c o p) h (x, y, z) =
      subst (λ n. WasDrawn (state_of pairs words (Draw c o p ∷ log)) n part) y
      (subst (λ n. WasDrawn (state_of pairs words (Draw c o p ∷ log)) o n) z
      (let can = h.1 in let is = can.part_is in record {
        row = record (can.row) { draw = can.row.draw + 1 };
        published = changed_at-same (state_of pairs words log).pieces o drawn
            ∙ ap (option_map drawn) can.published;
        below = omega arith;
      }))
  here log _ h is = absurd is

  -- if a caller drew a part of a rebuild, the rebuild's draw word is beyond this part
  pub was_drawn : (log : Log) → EachEnabled (start pairs words) log
      → Happened (Draws caller rebuild part) log → WasDrawn (state_of pairs words log) rebuild part
  was_drawn [] h i = absurd i
  was_drawn (event ∷ log) h (inl is) = here log event h is
  was_drawn (event ∷ log) h (inr i) = on_later log event h (was_drawn log h.0 i)

drawing_drops : (number rebuild part : ℕ) (t : Snapshot)
    → (after t (Draw number rebuild part)).held ≡ without [] t.held
drawing_drops number rebuild part t = grind (arith, keeps_all)

-- the next part may be drawn, and where the caller is then
pub record MayDraw (old : Caller) (token : TokenFace) (place word d : ℕ) : Type 0 where
  pub looked : IsBack old (record old { token = token })
  pub idle : TakesNoWords old (record old { token = token })
  pub allowed : word < d → CanAdd token.view place (drawing token.view place)
  pub back : (last : TokenFace) (part : ℕ)
      → Logged token.view (drawing token.view place part) last.view
      → IsBack old (record old { token = last })
  pub none : (last : TokenFace) (part : ℕ)
      → Logged token.view (drawing token.view place part) last.view
      → TakesNoWords old (record old { token = last })

module _ (old : Caller) (token : TokenFace) (r : IsFreeToBuild old) (s : IsSound old.token.view)
    (shared : SharedRoot) (sh : IsSharedAs (now old.token.view) shared) (place word : ℕ)
    (place_is : place ≡ shared.rebuild + rebuild_draw_offset)
    (l : Looked old.token.view place word token.view) where
  gone : GoesOnTo old.token.view token.view
  gone = looked_goes_on old.token.view place word token.view l

  there : IsShared (now token.view) shared.rebuild shared.target shared.root shared.keys
  there =
      shared_now old.token.view token.view gone shared.rebuild shared.target shared.root shared.keys sh.is

  mine : token.view.who ≡ CallerOf old.number
  mine = ap (λ x. x.who) gone.same ∙ r.caller.mine

  told_draw : word ≡ there.row.draw
  told_draw =
      looked_row old.token.view place word token.view l shared.rebuild (Rebuild there.row) 4 there.row.draw
      there.published refl place_is

  can : word < shared.degree
      → CanDraw (now token.view) token.view.log old.number shared.rebuild there.row.draw
  can less = record {
    known = gone.sound.is_true.low old.number mine;
    row = there.row;
    published = there.published;
    rooted = set_by there.row.root _ there.root_is (λ q. cc);
    k = shared.keys;
    finished = subst (λ n. IsFinishedWith (now token.view) n shared.keys) (sym there.target_is)
        there.finished;
    shared = there.shared;
    part_is = refl;
    not_past = λ earlier i.
        let it = was_drawn token.view.start token.view.words old.number shared.rebuild earlier
        token.view.log
        gone.sound.lawful.enabled i in
        let below = it.below in
        let same = ap (λ r. r.draw) (same_rebuild ((now token.view).pieces shared.rebuild) it.row
        there.row
        it.published there.published) in
        let is = told_draw in let slots = sh.degree_is in omega arith;
  }

  drawing_is : drawing token.view place ≡ (λ found. Draw old.number shared.rebuild found)
  drawing_is = grind (arith, mine)

  -- the part may be drawn
  draw_allowed : word < shared.degree → CanAdd token.view place (drawing token.view place)
  draw_allowed less = grind (arith, drawing_is, draw_comes, mine, can)

  -- and the caller is where it was
  draw_back : (last : TokenFace) (part : ℕ)
      → Logged token.view (drawing token.view place part) last.view
      → IsBack old (record old { token = last })
  draw_back last part x = let event = Draw old.number shared.rebuild part in
      let logged = subst (λ (e : Event). Logged token.view e last.view)
      (ap (λ f. f part) drawing_is) x in
      back_logged old (record old { token = token })
      record {
        ready = r;
        sound = s;
        number = refl;
        rows = refl;
        built = loads_built old.token.view token.view gone;
      } []
      record { stored = tt; held = tt; once = tt; rising = tt; high = tt }
      (sizes_on old token r.caller gone ∙ sym (append-nil (sizes_built old))) event tt (λ n. refl)
      (drawing_drops old.number shared.rebuild part) last logged

  -- the next part may be drawn
  pub may_draw : MayDraw old token place word shared.degree
  may_draw = record {
    looked = back_loads old token r gone;
    idle = none_loads old token r.caller.mine gone;
    allowed = draw_allowed;
    back = draw_back;
    none = λ last part x. none_then old token last r.caller.mine gone (drawing token.view place part)
        x refl;
  }

-- ---- slot by slot

-- a set slot stays set
pub set_on : (v w : View) → PutOn v w → (node j : ℕ) → IsSlotSet (now v) node j → IsSlotSet (now w)
    node j
set_on v w b node j h =
    let later = set_later v.start v.words (put_lawful v w b).opens (later_by-goes_on b.later)
    (put_lawful v w b).enabled node j record { word = h.word; holds = h.holds; set = h.set } in
    record {
      word = later.word;
      holds = subst (λ t. SlotHolds t node j later.word) (sym (put_now v w b)) later.holds;
      set = later.set;
    }

-- at first no slot is filled
pub filling_begun : (who : Caller) (s : SharedRoot) → IsFreeToBuild who → IsSound who.token.view
    → IsSharedAs (now who.token.view) s → IsFilling who s 0 who
filling_begun who s r sound sh = grind (arith, back_same)

-- once slot i is set, one more slot is filled
pub filling_more : (old who new : Caller) (s : SharedRoot) (i : ℕ) → IsFilling old s i who
    → IsBack who new → IsSlotSet (now new.token.view) s.root i → IsFilling old s (i + 1) new
filling_more old who new s i f b set = record {
  back = back_more old who new f.back b;
  shared = shared_back who new s b f.shared;
  filled = λ j less. ⊎_elim
      (λ low. set_on who.token.view new.token.view b.put s.root j (f.filled j low))
      (λ high. subst (IsSlotSet (now new.token.view) s.root) (let q : i ≡ j = omega arith in q)
      set)
      (cases_lt j i);
}

-- once all are set, the rebuild is built out
pub filling_done : (old who : Caller) (s : SharedRoot) (i : ℕ) → IsFilling old s i who → s.degree ≤ i
    → IsBuiltOut (now who.token.view) s.rebuild
filling_done old who s i f all =
    many_filled who.token.view f.back.put.sound s.rebuild s.target s.root s.keys f.shared.is
    (λ j less. f.filled j (let q = f.shared.degree_is in omega arith))
