-- Each further look below the anchor has seen the table come further. Serves `look_below`.
use Rattle.std.proofs.Common.{◌≡◌, ◌≢◌, ℕ, ◌≤◌, Some, None, ap, sym, ◌∙◌, subst, ⊎_elim, ◌⊎◌, inl, inr, refl, Bool, true, false, not, IsTrue, ◌↔◌, arith}
use Rattle.std.proofs.lemmas.Bool.Decides.{leb_tells}
use Rattle.ist_core.specs.declared.events.Event.{Event}
use Rattle.ist_core.specs.declared.states.InnerRow.{InnerRow}
use Rattle.ist_core.specs.declared.events.Who.TheVariants.{Caller as CallerOf}
use Rattle.ist_core.specs.declared.states.RebuildRow.{RebuildRow}
use Rattle.ist_core.specs.TreeTerms.{at_anchor, InnerGrows, Linked, WasLinked, IsDue, IsStarted, IsReplaced}
use Rattle.ist_core.specs.WordTerms.{InnerAt, Unset, ref_of, anchor, SlotHolds, past_change, past_rebuild, word_of, start, Rebuild, ChangeAt, RebuildAt, IsOpen}
use Rattle.ist_core.specs.LogTerms.{Snapshot, state_of, LaterBy}
use Rattle.ist_core.proofs.AllPlaceLemmas.{SlotNames, slot_names, names, anchor_free, slot_once, root_set}
use Rattle.ist_core.proofs.AllWordLemmas.{word_of-ref_of, same_rebuild}
use Rattle.laws_links.proofs.ContentLemmas.{linked_set}
use Rattle.ist_rule.specs.RuleTerms.{WentOn, now, IsSound, IsResolved, TokenFace}
use Rattle.ist_rule.specs.declared.view.View.{View}
use Rattle.ist_rule.proofs.WentOnLemmas.{later_by-goes_on, went_lawful, went_now, went_grow}
use Rattle.ist_rebuild.specs.Starting.{StoodInstead, MayStart, StartsDoneSince, IsStartedAt, StartsDoneBut}
use Rattle.laws_stability.specs.Progress.{progress}
use Rattle.laws_stability.proofs.OwnLemmas.{slots_stand}
use Rattle.laws_coming.specs.Further.{CameFurther}
use Rattle.std.proofs.Math.Nat.{le_trans}
use Rattle.ist_core.proofs.AllLogLemmas.{inner_there, rebuild_there}
use Rattle.laws_calls.specs.Settling.{CountsNothing, DueRowsAreClosed, InstallsNoStart, IsDoneStart}
use Rattle.laws_calls.proofs.ClosedLemmas.{done_stays, due_stay, others_count_nothing}
use Rattle.laws_stability.proofs.LaterLemmas.{ever_later}
use Rattle.ist_rule.proofs.LaterLemmas.{goes_on_more}
use Rattle.ist_rows.specs.RowTerms.{IsReady, StaysReady}
use Rattle.ist_rows.specs.declared.callers.Caller.{Caller}
use Rattle.ist_tree.specs.CallTerms.{Rebuilds, KeepsDone, IsShut}
use Rattle.ist_tree.proofs.EventLemmas.{IsPlainHelp, none_starts_none, serves_start_none}
use Rattle.ist_rows.proofs.GoneLemmas.{kept_ready, ready_all}
use Rattle.ist_tree.proofs.GoingLemmas.{own_start_was}
use Rattle.laws_links.specs.Linking.{IsFinished}
use Rattle.laws_links.proofs.FormedLemmas.{changes_are_formed}
use Rattle.laws_links.proofs.LinkLemmas.{open_unfinished}
use Rattle.laws_links.proofs.StartingLemmas.{finish_of, side_rebuild}
use Rattle.laws_calls.proofs.ReadLemmas.{read_started}
use Rattle.ist_rebuild.specs.Going.{ServesRebuild}
use Rattle.ist_rebuild.specs.Helping.{IsLeftToParent}
use Rattle.ist_dcss.specs.Helping as dcss

-- the slot held a row, and holds another word
pub slot_further : (P : Event → Type 0) (v w : View) → WentOn P v w → (node i word other row : ℕ)
    → ref_of word ≡ Some (InnerAt row) → SlotHolds (now v) node i word
    → StoodInstead w node i row other → CameFurther v w
slot_further P v w g node i word other row is here stood =
    ⊎_elim (λ k. absurd (still k.1)) (λ k. record { more = k.1 })
    (leb_tells (progress w.log) (progress v.log))
  where
    still : progress w.log ≤ progress v.log → ⊥
    still few = let l = went_lawful P v w g in
        let there = subst (λ (t : Snapshot). SlotHolds t node i word) (sym (went_now P v w g))
        (slots_stand v.start v.words l.opens v.log w.log l.enabled (later_by-goes_on g.later) few node
        i word (root_set word row is) here) in
        stood.differs (slot_once (now w) node i other word
        (anchor_free w.start w.words w.log g.sound.lawful.enabled) stood.holds there
        ∙ sym (word_of-ref_of word (InnerAt row) is).same_word)

-- the anchor's slot is set
pub anchor_set : (v : View) → IsSound v → (word : ℕ) → SlotHolds (now v) anchor 0 word
    → ref_of word ≢ Some Unset
anchor_set v s word here is =
    linked_set v.start v.words s.lawful.opens v.log s.lawful.enabled anchor 0 word at_anchor here
    (ap (λ o. past_rebuild (now v).pieces (past_change (now v).pieces o)) is)

-- the word in the anchor's slot names something
pub anchor_names : (v : View) → IsSound v → (word : ℕ) → SlotHolds (now v) anchor 0 word
    → ref_of word ≢ None
anchor_names v s word here is = subst (SlotNames (now v).pieces anchor 0) is
    (slot_names (now v) anchor 0 word (names v.start v.words s.lawful.opens v.log s.lawful.enabled)
    here)

-- ---- a caller that starts and helps rebuilds, over steps. Serves `rebuild_due` and `freeze`.

-- ---- starts and due rows along a view that went on

module _ (P : Event → Type 0) (number : ℕ) (v w : View) (mine : v.who ≡ CallerOf number)
    (went : WentOn P v w) where
  by_caller : LaterBy (CallerOf number) P v.log w.log
  by_caller = subst (λ x. LaterBy x P v.log w.log) mine went.later

  -- starts stay done, if none was started
  pub starts_went : ((event : Event) → P event → InstallsNoStart number event)
      → IsResolved v number → (first : Snapshot) → StartsDoneSince first (now v) number
      → StartsDoneSince first (now w) number
  starts_went none resolved first done base change e own kind said rebuild to =
      let lawful = went_lawful P v w went in
      let old = own_start_was P number none v w mine resolved went base change e own kind in
      ⊎_elim (λ was. inl was)
      (λ d. inr (subst (λ t. IsDoneStart t change rebuild) (sym (went_now P v w went))
      (done_stays v.start v.words lawful.opens v.log w.log (later_by-goes_on went.later)
      lawful.enabled base change rebuild old d)))
      (done base change old own kind said rebuild to)

  -- rows that were made due keep a closed row above, if nothing was counted
  pub due_went : ((event : Event) → P event → CountsNothing number event)
      → DueRowsAreClosed (start v.start v.words) v.log number
      → DueRowsAreClosed (start v.start v.words) w.log number
  due_went none closed = grind (arith, went_lawful, due_stay, others_count_nothing, by_caller)

-- ---- what may be started, over steps

-- a row that may be started may be so later
pub may_start_went : (P : Event → Type 0) (v w : View) → WentOn P v w → (parent index target : ℕ)
    → MayStart v parent index target → MayStart w parent index target
may_start_went P v w went parent index target m = let on = later_by-goes_on went.later in
    let it = inner_there (now v).pieces (now w).pieces (went_grow P v w went) target m.row
    m.published in
    let start_is = ap (λ (x : View). x.start) went.same in
    let words_is = ap (λ (x : View). x.words) went.same in record {
      prefix = m.prefix;
      goes_on = goes_on_more m.goes_on on;
      stood =
          subst (λ pairs. SlotHolds (state_of pairs w.words m.prefix) parent index (word_of (InnerAt target))) (sym start_is)
          (subst (λ words. SlotHolds (state_of v.start words m.prefix) parent index (word_of (InnerAt target))) (sym words_is)
          m.stood);
      linked = subst (λ pairs. WasLinked (start pairs w.words) w.log parent) (sym start_is)
          (subst (λ words. WasLinked (start v.start words) w.log parent) (sym words_is)
          (ever_later (start v.start v.words) (λ t. Linked t parent) on m.linked));
      row = it.0;
      published = it.1;
      due = ⊎_elim (λ d. inl (still m.row it.0 it.2 d)) (λ a. inr a) m.due;
    }
  where
    still : (old new : InnerRow) → InnerGrows old new → IsDue old → IsDue new
    still old new g d = grind (arith, le_trans)

-- ---- steps that leave rows and install nothing

module _ (P : Event → Type 0) (all : (event : Event) → P event → IsPlainHelp event) (who : Caller)
    (token : TokenFace) (r : IsReady who) (went : WentOn P who.token.view token.view) where
  -- the caller goes on
  pub plain_on : StaysReady Rebuilds who (record who { token = token })
  plain_on =
      ready_all P Rebuilds (λ event p. (all event p).rebuilds) who (record who { token = token })
      (kept_ready P (λ event p. (all event p).keeps) who token r went)

  -- and its starts stay done
  pub plain_done : KeepsDone who (record who { token = token })
  plain_done = starts_went P who.number who.token.view token.view r.caller.mine went
      (λ event p. none_starts_none who.number event (all event p).installs) r.quiet.resolved

-- a load is no such step, and none at all
pub load_plain : (event : Event) → ⊥ → IsPlainHelp event
load_plain event never = absurd never

-- ---- what a rebuild that was helped leaves closed and done, and what a slot holds instead of a row.
-- Serves `try_due` and `help_other`.

-- ---- what is closed

-- the target of a replaced rebuild isn't open
pub replaced_shut : (v : View) → IsSound v → (rebuild : ℕ) (row : RebuildRow)
    → (now v).pieces rebuild ≡ Some (Rebuild row) → IsReplaced (now v) rebuild
    → ¬ (IsOpen (now v) row.target)
replaced_shut v s rebuild row e r opened = let enabled = s.lawful.enabled in
    let f = finish_of (now v) r.change rebuild
    (changes_are_formed v.start v.words v.log enabled r.base r.change r.published)
    r.from in
    let there = subst (λ b. (now v).pieces b ≡ Some (Rebuild f.form.row)) f.same f.form.published in
    let one = same_rebuild ((now v).pieces rebuild) f.form.row row there e in
    open_unfinished v.start v.words s.lawful.opens v.log enabled row.target opened
    (subst (λ (x : RebuildRow). IsFinished (now v) x.target) one f.form.finished)

-- so the target or the parent of a rebuild that was helped isn't open, if the rebuild was replaced
pub replaced_is_shut : (P : Event → Type 0) (v w : View) → WentOn P v w → (rebuild parent index target : ℕ)
    → IsStartedAt (now v) rebuild parent index target → IsReplaced (now w) rebuild
    → IsShut (now w) parent target
replaced_is_shut P v w went rebuild parent index target s r =
    let it = rebuild_there (now v).pieces (now w).pieces (went_grow P v w went) rebuild s.row
    s.published in
    inl (subst (λ n. ¬ (IsOpen (now w) n)) (it.2.target ∙ s.target_is)
    (replaced_shut w went.sound rebuild it.0 it.1 r))

-- and if the rebuild was left to its parent
pub left_is_shut : (P : Event → Type 0) (v w : View) → WentOn P v w → (rebuild parent index target : ℕ)
    → IsStartedAt (now v) rebuild parent index target → IsLeftToParent (now w) rebuild
    → IsShut (now w) parent target
left_is_shut P v w went rebuild parent index target s l =
    let it = rebuild_there (now v).pieces (now w).pieces (went_grow P v w went) rebuild s.row
    s.published in
    let one = same_rebuild ((now w).pieces rebuild) l.row it.0 l.published it.1 in
    inr (subst (λ n. ¬ (IsOpen (now w) n))
    (ap (λ (x : RebuildRow). x.parent) one ∙ it.2.parent ∙ s.parent_is) l.closed)

-- ---- starts that were helped

-- if a rebuild is done after its help, all starts of the caller since a state are, if the others were
pub all_done : (number : ℕ) (v w : View) → v.who ≡ CallerOf number → IsResolved v number
    → WentOn ServesRebuild v w → (rebuild : ℕ) (first : Snapshot)
    → StartsDoneBut first (now v) number rebuild
    → IsReplaced (now w) rebuild ⊎ IsLeftToParent (now w) rebuild
    → StartsDoneSince first (now w) number
all_done number v w mine resolved went rebuild first but done base change e own kind said other to =
    let lawful = went_lawful ServesRebuild v w went in
    let now_is = went_now ServesRebuild v w went in
    let old = own_start_was ServesRebuild number (serves_start_none number) v w mine resolved went base
    change e own kind in
    ⊎_elim
    (λ same. inr (subst (IsDoneStart (now w) change) (sym same)
    (this_done (subst (λ n. ref_of change.to ≡ Some (RebuildAt n)) same to))))
    (λ rest. ⊎_elim (λ was. inl was)
    (λ k. inr (subst (λ t. IsDoneStart t change other) (sym now_is)
    (done_stays v.start v.words lawful.opens v.log w.log (later_by-goes_on went.later)
    lawful.enabled base change other old k))) rest)
    (but base change old own kind said other to)
  where
    this_done : ref_of change.to ≡ Some (RebuildAt rebuild) → IsDoneStart (now w) change rebuild
    this_done named = ⊎_elim (λ k. inl k)
        (λ l.
        let it = side_rebuild (now w)
        (names w.start w.words went.sound.lawful.opens w.log went.sound.lawful.enabled) base change e
        rebuild (inr named) in
        let one = same_rebuild ((now w).pieces rebuild) l.row it.row l.published it.published in
        inr (subst (λ n. ¬ (IsOpen (now w) n)) (ap (λ (x : RebuildRow). x.parent) one ∙ it.parent)
        l.closed))
        done

-- ---- what a slot holds instead of a row

module _ (v : View) (s : IsSound v) (parent index target word base : ℕ)
    (stood : StoodInstead v parent index target word) where
  -- a rebuild that the slot holds is started
  pub other_started : ref_of word ≡ Some (RebuildAt base) → IsStarted (now v) base
  other_started is =
      read_started v.start v.words s.lawful.opens v.log s.lawful.enabled parent index base
      record { word = word; holds = stood.holds; reads = ap (past_change (now v).pieces) is }

  -- and a change that the slot holds may be helped
  pub other_helped : (number : ℕ) → v.who ≡ CallerOf number → ref_of word ≡ Some (ChangeAt base)
      → dcss.MayHelp v base
  other_helped number mine is =
      let named = subst (SlotNames (now v).pieces parent index) is
      (slot_names (now v) parent index word (names v.start v.words s.lawful.opens v.log s.lawful.enabled)
      stood.holds) in
      record { number = number; mine = mine; row = named.row; installed = named.published }

-- ---- results

-- if a node is reported shut, it isn't open
pub not_open_shut : (b : Bool) (P : Type 0) → IsTrue b ↔ P → not b ≡ true → ¬ P
not_open_shut true P iff is p = cc
not_open_shut false P iff is p = cc (iff.1 p)

-- and if it is reported open, it was open
pub not_shut_open : (b : Bool) (P : Type 0) → IsTrue b ↔ P → not b ≡ false → P
not_shut_open true P iff is = iff.0 refl
not_shut_open false P iff is = absurd (cc)
