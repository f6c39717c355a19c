-- Each walk that is to begin again has seen the table come further. Serves `try_slot` and `apply`.
use Rattle.std.proofs.Common.{◌≡◌, ◌≢◌, ℕ, List, Some, sym, ap, ◌∙◌, subst, inl, inr, ⊎_elim, refl, arith}
use Rattle.ist_core.specs.declared.events.Event.{Event}
use Rattle.ist_core.specs.declared.states.ChangeRow.{ChangeRow}
use Rattle.ist_core.specs.declared.pairs.Pair.{Pair}
use Rattle.ist_core.specs.LogTerms.{state_of, GoesOn, Happened, Resolves, same_log, Snapshot, EachEnabled, CanOpen, Log}
use Rattle.ist_core.specs.TreeTerms.{WasLinked, IsReplaced, reply_of, ChangeGrows}
use Rattle.ist_core.specs.WordTerms.{Rebuild, ChangeAt, InnerAt, RebuildAt, ref_of, anchor, IsOpen, SlotHolds, anchor_is, past_change, start, Change, decided_yes}
use Rattle.ist_core.proofs.AllLogLemmas.{grow_between, rebuild_there, goes_on_more, change_there}
use Rattle.ist_core.proofs.AllPlaceLemmas.{IsRebuildFor, SlotNames, slot_names, names, anchor_free, slot_once}
use Rattle.ist_core.proofs.AllWordLemmas.{ref_of-unset, same_rebuild}
use Rattle.laws_links.proofs.LinkLemmas.{open_linked}
use Rattle.laws_links.proofs.ReadLemmas.{ReadsAs}
use Rattle.laws_links.proofs.RebuiltLemmas.{read_unreplaced}
use Rattle.ist_rule.specs.RuleTerms.{WentOn, now, searching, Turned, IsSound}
use Rattle.ist_rule.specs.declared.view.View.{View}
use Rattle.ist_rule.proofs.LaterLemmas.{later-goes_on}
use Rattle.ist_dcss.specs.Installing.{Filling, IsInstalled}
use Rattle.laws_stability.proofs.OwnLemmas.{installing, child_open}
use Rattle.laws_coming.specs.Further.{CameFurther}
use Rattle.ist_rebuild.specs.Helping.{IsLeftToParent}
use Rattle.laws_coming.proofs.FurtherLemmas.{helped_further}
use Rattle.ist_updates.specs.declared.plans.Aim.{Aim}
use Rattle.ist_rebuild.specs.declared.answers.Helped.{Helped}
use Rattle.ist_rebuild.specs.declared.answers.Helped.TheVariants.{ParentMarked, Replaced}
use Rattle.ist_find.specs.Searches.{HasCome}
use Rattle.laws_histories.proofs.PositionLemmas.{node_met}
use Rattle.laws_calls.proofs.WalkLemmas.{meeting_comes}
use Rattle.ist_updates.specs.Trying.{IsAtSlot}
use Rattle.ist_updates.specs.Further.{HasAimed, IsAfter, IsFreshNode}
use Rattle.ist_updates.proofs.AfterLemmas.{after_more, further_after, further_on, further_or_not, lawful_is, now_is, stands, stays_open}
use Rattle.laws_histories.proofs.EntryLemmas.{value_stays}

-- ---- the way down

-- a walk begins at the anchor
pub anchor_fresh : (first v : View) → IsAfter first v → IsFreshNode first v anchor
anchor_fresh first v b = record { following = b; is = inl (anchor_is refl) }

-- a node that was fresh is still fresh
pub fresh_on : (first v w : View) (node : ℕ) → IsFreshNode first v node → IsAfter v w → IsSound w
    → IsFreshNode first w node
fresh_on first v w node f b s = record {
  following = after_more first v w f.following b;
  is = ⊎_elim
      (λ is. ⊎_elim (λ k. inr (further_after first v w f.following k))
      (λ few. inl (stays_open v w b s few node is)) (further_or_not v w))
      (λ k. inr (further_on first v w k b)) f.is;
}

-- and so is a row that one of its slots holds
pub down_fresh : (first w : View) (node i word child : ℕ) → IsFreshNode first w node → IsSound w
    → WasLinked (start w.start w.words) w.log node → SlotHolds (now w) node i word
    → ref_of word ≡ Some (InnerAt child) → IsFreshNode first w child
down_fresh first w node i word child f s was here is = record {
  following = f.following;
  is = ⊎_elim
      (λ o. inl (child_open w.start w.words s.lawful.opens w.log s.lawful.enabled node i word
      child (open_linked w.start w.words s.lawful.opens w.log s.lawful.enabled node was o) o here
      is))
      (λ k. inr k) f.is;
}

-- ---- each cause to begin again

module _ (first v w : View) (node i word : ℕ) (a : HasAimed first v node i word)
    (b : IsAfter v w) (s : IsSound w) where
  abbrev whole : IsAfter a.at w
  whole = after_more a.at v w a.following b

  -- what is further since the look is further since the walk began
  since : CameFurther a.at w → CameFurther first w
  since k = further_after first a.at w a.fresh.following k

  -- the node isn't open
  pub shut_further : ¬ (IsOpen (now w) node) → CameFurther first w
  shut_further shut = ⊎_elim
      (λ is. ⊎_elim since
      (λ few. absurd (shut (stays_open a.at w whole s few node is))) (further_or_not a.at w))
      (λ k. further_on first a.at w k whole) a.fresh.is

  -- the slot doesn't hold the word
  pub gone_further : ¬ (SlotHolds (now w) node i word) → CameFurther first w
  gone_further gone = ⊎_elim since
      (λ few. absurd (gone (stands a.at w whole s few node i word a.set a.holds)))
      (further_or_not a.at w)

  -- it holds another one
  pub other_further : (other : ℕ) → SlotHolds (now w) node i other → other ≢ word
      → CameFurther first w
  other_further other there ne = grind (arith, gone_further, slot_once, anchor_free)

  -- the rebuild that stood there was replaced
  pub replaced_further : (rebuild : ℕ) → ref_of word ≡ Some (RebuildAt rebuild)
      → IsReplaced (now w) rebuild → CameFurther first w
  replaced_further rebuild is replaced = gone_further standing
    where
      standing : ¬ (SlotHolds (now w) node i word)
      standing here =
          let it : IsRebuildFor (now w).pieces node i rebuild =
          subst (SlotNames (now w).pieces node i) is
          (slot_names (now w) node i word
          (names w.start w.words s.lawful.opens w.log s.lawful.enabled) here) in
          let reads : ReadsAs (now w) node i (RebuildAt rebuild) =
          record { word = word; holds = here; reads = ap (past_change (now w).pieces) is } in
          read_unreplaced w.start w.words s.lawful.opens w.log s.lawful.enabled rebuild it.row
          it.published
          (subst (λ n. ReadsAs (now w) n it.row.index (RebuildAt rebuild)) (sym it.parent)
          (subst (λ j. ReadsAs (now w) node j (RebuildAt rebuild)) (sym it.index) reads))
          replaced

  -- or its parent isn't open
  pub left_further : (rebuild : ℕ) → ref_of word ≡ Some (RebuildAt rebuild)
      → IsLeftToParent (now w) rebuild → CameFurther first w
  left_further rebuild is left = let l = lawful_is a.at w whole s in
      let it : IsRebuildFor (now a.at).pieces node i rebuild =
      subst (SlotNames (now a.at).pieces node i) is
      (slot_names (now a.at) node i word (names a.at.start a.at.words a.sound.lawful.opens a.at.log
      a.sound.lawful.enabled) a.holds) in
      let on = rebuild_there (now a.at).pieces (state_of a.at.start a.at.words w.log).pieces
      (grow_between a.at.start a.at.words a.at.log w.log l.enabled whole.later) rebuild it.row
      it.published in
      let there = subst (λ (t : Snapshot). t.pieces rebuild ≡ Some (Rebuild on.0))
      (now_is a.at w whole) on.1 in
      let same = same_rebuild ((now w).pieces rebuild) left.row on.0 left.published there in
      let parent : left.row.parent ≡ node = ap (λ r. r.parent) same ∙ on.2.parent ∙ it.parent in
      shut_further (subst (λ n. ¬ (IsOpen (now w) n)) parent left.closed)

-- a change was installed since
pub installed_further : (first v w x : View) (node i word base : ℕ) (f : Filling)
    → HasAimed first v node i word → IsInstalled v base f w → IsAfter w x → CameFurther first x
installed_further first v w x node i word base f a k b =
    grind (arith, goes_on_more, later-goes_on, further_after, installing)

-- ---- aims

-- a walk that has aimed has aimed still
pub aimed_on : (first v w : View) (node i word : ℕ) → HasAimed first v node i word → IsAfter v w
    → HasAimed first w node i word
aimed_on first v w node i word a b = record {
  at = a.at;
  sound = a.sound;
  fresh = a.fresh;
  holds = a.holds;
  set = a.set;
  following = after_more a.at v w a.following b;
}

-- the change of a plan has the aim
pub planned_aim : (first v w : View) (aim : Aim) (row : ChangeRow)
    → HasAimed first v aim.node aim.index aim.word → IsAfter v w → row.node ≡ aim.node
    → row.index ≡ aim.index → row.from ≡ aim.word → HasAimed first w row.node row.index row.from
planned_aim first v w aim row a b n i f = grind (arith, aimed_on)

-- a walk that has come to a slot has aimed
pub slot_aimed : (first v : View) (key node i word : ℕ) → IsSound v → IsAtSlot v key node i word
    → IsFreshNode first v node → HasAimed first v node i word
slot_aimed first v key node i word s at f = record {
  at = v;
  sound = s;
  fresh = f;
  holds = at.holds;
  set = λ e. at.set (ap ref_of e ∙ ref_of-unset);
  following = record { later = same_log; start_is = refl; words_is = refl };
}

-- a change that stood in the slot is resolved
pub change_further : (P : Event → Type 0) (first v w : View) (node i word change : ℕ) → IsSound v
    → HasAimed first v node i word → SlotHolds (now v) node i word → WentOn P v w
    → ref_of word ≡ Some (ChangeAt change) → Happened (Resolves change) w.log → CameFurther first w
change_further P first v w node i word change s a here g is out =
    further_after first v w (after_more first a.at v a.fresh.following a.following)
    (helped_further P v w s g node i word change here is out)

-- a rebuild that stood in the slot was replaced, or its parent is marked
pub target_further : (first v w : View) (node i word : ℕ) → HasAimed first v node i word
    → IsAfter v w → IsSound w → (rebuild : ℕ) → ref_of word ≡ Some (RebuildAt rebuild) → (h : Helped)
    → (h ≡ Replaced → IsReplaced (now w) rebuild)
    → (h ≡ ParentMarked → IsLeftToParent (now w) rebuild) → CameFurther first w
target_further first v w node i word a b s rebuild is Replaced replaced left =
    replaced_further first v w node i word a b s rebuild is (replaced refl)
target_further first v w node i word a b s rebuild is ParentMarked replaced left =
    left_further first v w node i word a b s rebuild is (left refl)

-- a node to which a search came was linked
pub come_linked : (v : View) → IsSound v → (key node : ℕ) (rows : List ℕ) → HasCome v key node rows
    → WasLinked (start v.start v.words) v.log node
come_linked v s key node rows h = grind (arith, node_met, meeting_comes)

-- a walk begins
pub begun_fresh : (v w : View) → Turned v (searching v) w → IsFreshNode v w anchor
begun_fresh v w t = grind (arith, anchor_fresh, later-goes_on)

-- ---- the row of an update that was decided yes stays as it is, and its reply the same. Serves the walk and
-- its Counts.

-- a decided change stays as it is
same_decided : (old new : ChangeRow) → ChangeGrows old new → old.decision ≡ decided_yes → new ≡ old
same_decided old new g said = grind arith

module _ (pairs : List Pair) (words : ℕ) (opens : CanOpen pairs words) (log longer : Log)
    (h : EachEnabled (start pairs words) longer) (g : GoesOn log longer) where
  -- the row of a change that was decided yes stays
  pub yes_stays : (base : ℕ) (change : ChangeRow)
      → (state_of pairs words log).pieces base ≡ Some (Change change)
      → change.decision ≡ decided_yes
      → (state_of pairs words longer).pieces base ≡ Some (Change change)
  yes_stays base change e said = grind (arith, change_there, grow_between, same_decided)

  -- and its reply is the same
  pub reply_stays : EachEnabled (start pairs words) log → (base : ℕ) (change : ChangeRow)
      → (state_of pairs words log).pieces base ≡ Some (Change change)
      → reply_of (state_of pairs words longer).pieces change
      ≡ reply_of (state_of pairs words log).pieces change
  reply_stays before base change e = let t = state_of pairs words log in
      let row = (names pairs words opens log before).rows base (Change change) e in
      value_stays t.pieces (state_of pairs words longer).pieces
      (grow_between pairs words log longer h g) change.node change.index (ref_of change.from)
      change.key row.0
