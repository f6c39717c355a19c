-- A finish that was installed, and helped. Serves `carry`.
use Rattle.std.proofs.Common.{◌≡◌, ◌≢◌, ℕ, true, [], ◌∷◌, Some, None, refl, sym, ap, ◌∙◌, subst, ◌+◌, ◌<◌, slice_get, arith}
use Rattle.std.proofs.lemmas.Option.{same_Some}
use Rattle.ist_core.specs.declared.events.Event.{Event}
use Rattle.ist_core.specs.declared.events.Event.TheVariants.{Install}
use Rattle.ist_core.specs.declared.states.ChangeRow.{ChangeRow}
use Rattle.ist_core.specs.declared.events.Who.TheVariants.{Caller as CallerOf}
use Rattle.ist_core.specs.TreeTerms.{ChangeGrows, IsReplaced}
use Rattle.ist_core.specs.LogTerms.{state_of}
use Rattle.ist_core.specs.WordTerms.{Pieces, Change, with_row, changed_at, with_slot, ChangeAt, RebuildAt, ref_of, word_of, IsOpen, SlotHolds, start, words_of}
use Rattle.ist_core.proofs.AllLogLemmas.{grow_between, enabled_before, change_there}
use Rattle.ist_core.proofs.AllWordLemmas.{ref_of-word_of, same_value}
use Rattle.ist_rule.specs.RuleTerms.{TokenFace, WentOn, now, IsSound, number_of, own_at}
use Rattle.ist_rule.specs.declared.view.View.{View}
use Rattle.ist_rule.proofs.EventLemmas.{goes_on_who}
use Rattle.ist_rule.proofs.WatchLemmas.{change_node}
use Rattle.ist_rule.proofs.WentOnLemmas.{goes_on_went, logged_went, went_all, went_more}
use Rattle.ist_rows.specs.RowTerms.{HasRefused, KeepsRows, IsCaller, IsReady, storing_all}
use Rattle.ist_rows.specs.declared.callers.Caller.{Caller}
use Rattle.ist_rows.specs.declared.kinds.Kind.TheVariants.{Change as ChangeKind}
use Rattle.ist_rows.proofs.CallerGoingLemmas.{caller_goes_on, base_same}
use Rattle.ist_rows.proofs.CallerLawLemmas.{caller_made, caller_went, logged_made, refused_made, refused_went}
use Rattle.ist_dcss.specs.Helping.{Serves as HelpsWith, IsDecided, IsOut, MayHelp, WasClosed}
use Rattle.ist_dcss.specs.Installing.{IsInstalled, IsOther, rows_of}
use Rattle.ist_dcss.proofs.ResolvedLemmas.{serves_keep, went_row, resolved_helped}
use Rattle.ist_dcss.proofs.DecideLemmas.{closed_node_stays}
use Rattle.ist_dcss.proofs.FieldLemmas.{one_change}
use Rattle.ist_rebuild.specs.declared.finishing.Tried.TheVariants.{Other}
use Rattle.ist_rebuild.specs.declared.sites.PlannedFinish.{PlannedFinish}
use Rattle.ist_rebuild.specs.Finishing.{IsPlan, IsPrepared, filling_at, finish_row}
use Rattle.ist_rebuild.specs.Helping.{HasHelped}
use Rattle.ist_rebuild.specs.Going.{ServesRebuild}
use Rattle.ist_rebuild.proofs.EventLemmas.{change_serves}
use Rattle.ist_rebuild.proofs.SiteLemmas.{rebuild_good}
use Rattle.ist_rows.proofs.FillingLemmas.{stored_at}

-- a change that was put among the rows is there, also after a write of a slot
there_after : (ps : Pieces) (base node i word : ℕ) (r : ChangeRow)
    → changed_at (with_row ps base (Some (Change r))) node (with_slot i word) base ≡ Some (Change r)
there_after ps base node i word r = grind (arith, base_same)

-- the caller after its Install
pub record HasInstalled (who : Caller) (plan : PlannedFinish) (change : ℕ) (token : TokenFace) : Type 0 where
  pub caller : IsCaller (record who { token = token; change = None })
  pub refused : HasRefused (record who { token = token; change = None })
  pub went : WentOn ServesRebuild who.token.view token.view
  pub published : (now token.view).pieces change ≡ Some (Change (finish_row plan who.number))
  pub may_help : MayHelp token.view change

module _ (who : Caller) (plan : PlannedFinish) (change : ℕ) (ready : IsReady who)
    (p : IsPrepared who plan change) (token : TokenFace)
    (i : IsInstalled who.token.view change (filling_at who.token.view change) token.view) where
  abbrev event : Event
  event = Install i.number change (rows_of (filling_at who.token.view change) change)

  abbrev before : Caller
  before = record who { token = record who.token { view = i.before } }

  abbrev following : Caller
  following = record who { token = token; change = None }

  number_is : i.number ≡ who.number
  number_is = ap number_of (sym i.mine ∙ ready.caller.mine)

  serves : ServesRebuild event
  serves r e = grind (arith, same_Some)

  refused_before : HasRefused before
  refused_before =
      refused_went who (record who.token { view = i.before }) ready.caller ready.refused
      (goes_on_went KeepsRows who.token.view i.before i.seen)

  caller_before : IsCaller before
  caller_before = caller_goes_on who (record who.token { view = i.before }) ready.caller i.seen

  -- the caller after its Install
  pub has_installed : HasInstalled who plan change token
  has_installed = let made = logged_made i.before event token.view i.logged in
      let mine = ap (λ x. x.who) i.logged.view ∙ goes_on_who i.seen ∙ ready.caller.mine in
      let published : (now token.view).pieces change
      ≡ Some (Change (filling_at who.token.view change).change) =
      ap (λ t. t.pieces change) (ap now i.logged.view)
      ∙ there_after (state_of i.before.start i.before.words i.logged.before).pieces change
      (filling_at who.token.view change).change.node (filling_at who.token.view change).change.index
      (word_of (ChangeAt change)) (filling_at who.token.view change).change in
      let there = published ∙ ap (λ r. Some (Change r)) p.is in record {
        caller = caller_made before following (ChangeKind ∷ []) event (change ∷ []) caller_before
            i.logged.before made (ap CallerOf number_is) refl (p.row, tt)
            record { number = refl; rows = refl };
        refused = refused_made before following (ChangeKind ∷ []) event (change ∷ []) caller_before
            i.logged.before made (ap CallerOf number_is) refl (p.row, tt)
            record { number = refl; rows = refl } refused_before;
        went = went_more ServesRebuild who.token.view i.before token.view
            (goes_on_went ServesRebuild who.token.view i.before i.seen)
            (logged_went ServesRebuild i.before event token.view i.logged serves refl);
        published = there;
        may_help = record {
          number = who.number;
          mine = mine;
          row = finish_row plan who.number;
          installed = there;
        };
      }

  -- ---- after the help

  module _ (last : TokenFace) (g : WentOn (HelpsWith change) token.view last.view) where
    -- the caller has helped
    pub carried_helped : IsOut last.view change
        → HasHelped who (record who { token = last; change = None })
    carried_helped out = let h = has_installed in
        let kept = went_all (HelpsWith change) KeepsRows (serves_keep change) token.view last.view g
        in
        record {
          on = record {
            gone = record {
              caller = caller_went following last h.caller kept;
              number = refl;
              refused = refused_went following last h.caller h.refused kept;
              went = went_more ServesRebuild who.token.view token.view last.view h.went
                  (went_all (HelpsWith change) ServesRebuild (change_serves change) token.view last.view g);
            };
            quiet = record {
              pending = ready.quiet.pending;
              in_call = ap (λ x. x.pending) g.same ∙ ap (λ x. x.pending) h.went.same
                  ∙ ready.quiet.in_call;
              resolved = resolved_helped who.token.view token.view last.view who.number change
                  (filling_at who.token.view change) ready.caller.mine ready.quiet.resolved i g out;
            };
          };
          fresh = (refl, refl);
        }

    -- the change is what was installed, except for its decision
    the_change : (r : ChangeRow) × ((now last.view).pieces change ≡ Some (Change r))
        × ChangeGrows (finish_row plan who.number) r
    the_change =
        went_row (HelpsWith change) change token.view last.view g (finish_row plan who.number)
        has_installed.published

    same_row : (r : ChangeRow) → (now last.view).pieces change ≡ Some (Change r) → the_change.0 ≡ r
    same_row r e = grind (arith, one_change, same_value)

    -- if it was decided yes, the rebuild was replaced
    pub carried_yes : IsSound who.token.view → IsPlan who.token.view plan
        → IsDecided last.view change true → IsReplaced (now last.view) plan.rebuild
    carried_yes s q d = let same = same_row d.row d.published in record {
      base = change;
      change = d.row;
      published = d.published;
      kind = ap (λ r. r.kind) (sym same) ∙ ap (λ r. r.kind) the_change.2.others;
      decision = d.decision;
      from = ap (λ r. ref_of r.from) (sym same) ∙ ap (λ r. ref_of r.from) the_change.2.others
          ∙ ref_of-word_of (RebuildAt plan.rebuild)
          (rebuild_good who.token.view s plan.rebuild
          record { row = q.row; published = q.published });
    }

    -- if it was decided no, the parent isn't open
    pub carried_no : WasClosed last.view change → ¬ (IsOpen (now last.view) plan.parent)
    carried_no c = let v = last.view in let lawful = g.sound.lawful in
        let grow = grow_between v.start v.words c.prefix v.log lawful.enabled c.goes_on in
        let on = change_there (state_of v.start v.words c.prefix).pieces (now v).pieces grow change
        c.row c.installed in
        let same = same_row on.0 on.1 in
        let node_is : c.row.node ≡ plan.parent =
        sym (ap (λ r. r.node) on.2.others) ∙ ap (λ r. r.node) (sym same)
        ∙ ap (λ r. r.node) the_change.2.others in
        subst (λ n. ¬ (IsOpen (now v) n)) node_is
        (closed_node_stays v.start v.words c.prefix v.log lawful c.goes_on c.row.node
        (change_node v.start v.words c.prefix
        (enabled_before (start v.start v.words) c.prefix v.log c.goes_on lawful.enabled) change
        c.row c.installed) c.node)

-- ---- another word

-- the slot held the word that was answered
pub other_holds : (who : Caller) (plan : PlannedFinish) (change found : ℕ) (w : View)
    → IsPrepared who plan change
    → IsOther who.token.view change (filling_at who.token.view change) found w
    → (word : ℕ) → Other found ≡ Other word → SlotHolds (now w) plan.parent plan.index word
other_holds who plan change found w p o word e =
    subst (SlotHolds (now w) plan.parent plan.index) (cc)
    (subst (λ (r : ChangeRow). SlotHolds (now w) r.node r.index found) p.is o.in_slot)

-- the other word isn't the rebuild's
pub other_differs : (who : Caller) (plan : PlannedFinish) (change found : ℕ) (w : View)
    → IsPrepared who plan change
    → IsOther who.token.view change (filling_at who.token.view change) found w
    → (word : ℕ) → Other found ≡ Other word → word ≢ word_of (RebuildAt plan.rebuild)
other_differs who plan change found w p o word e is = grind arith

-- ---- the change that a caller has stored into a row, read back. Serves `prepare`.

module _ (v : View) (base : ℕ) (row : ChangeRow) where
  abbrev w : View
  w = record v { own = storing_all v.own base (words_of (Change row)) }

  word_at : (k word : ℕ) → k < 9 → slice_get (words_of (Change row)) k ≡ Some word
      → own_at w.own (base + k) ≡ word
  word_at k word less got = cc (sym (stored_at v.own base (words_of (Change row)) k less) ∙ got)

  same : (a b c d e f g h i : ℕ) → a ≡ row.decision → b ≡ row.kind → c ≡ row.node → d ≡ row.index
      → e ≡ row.from → f ≡ row.to → g ≡ row.owner → h ≡ row.key → i ≡ row.value
      → ◌≡◌ {A = ChangeRow} record {
        decision = a;
        kind = b;
        node = c;
        index = d;
        from = e;
        to = f;
        owner = g;
        key = h;
        value = i;
      } record {
        decision = row.decision;
        kind = row.kind;
        node = row.node;
        index = row.index;
        from = row.from;
        to = row.to;
        owner = row.owner;
        key = row.key;
        value = row.value;
      }
  same a b c d e f g h i p q r s t u x y z = cc

  -- the stored words of a change are read back as that change
  pub read_back : (filling_at w base).change ≡ row
  read_back = same _ _ _ _ _ _ _ _ _
      (ap (own_at w.own) (let here : base ≡ base + 0 = omega arith in here)
      ∙ word_at 0 row.decision (omega arith) refl)
      (word_at 1 row.kind (omega arith) refl) (word_at 2 row.node (omega arith) refl)
      (word_at 3 row.index (omega arith) refl) (word_at 4 row.from (omega arith) refl)
      (word_at 5 row.to (omega arith) refl) (word_at 6 row.owner (omega arith) refl)
      (word_at 7 row.key (omega arith) refl) (word_at 8 row.value (omega arith) refl)
