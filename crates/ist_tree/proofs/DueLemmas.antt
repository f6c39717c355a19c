-- What an attempt to rebuild a row results in. Serves `try_due` and `rebuild_due`.
use Rattle.std.proofs.Common.{◌≡◌, ℕ, ◌⊎◌, Result, Ok, refl, sym, subst, inl, inr, ⊎_elim, Some, ap, ◌∙◌, arith}
use Rattle.ist_core.specs.declared.events.Event.{Event}
use Rattle.ist_core.specs.declared.ports.Full.{Full}
use Rattle.ist_core.specs.declared.states.InnerRow.{InnerRow}
use Rattle.ist_core.specs.declared.states.RebuildRow.{RebuildRow}
use Rattle.ist_core.specs.TreeTerms.{IsReplaced, Linked, WasLinked, at_anchor, below, HasTarget, IsDue, IsFinishedWith}
use Rattle.ist_core.specs.LogTerms.{Snapshot, state_of}
use Rattle.ist_rule.specs.RuleTerms.{WentOn, TokenFace, GoesOnTo, now, IsSound, is_inner}
use Rattle.ist_rule.specs.declared.view.View.{View}
use Rattle.ist_rule.proofs.WentOnLemmas.{goes_on_went, went_all, went_more, went_same, went_grow}
use Rattle.ist_rows.specs.RowTerms.{HasRefused, IsCaller, IsQuiet, IsReady, StaysReady}
use Rattle.ist_rows.specs.declared.callers.Caller.{Caller}
use Rattle.ist_rebuild.specs.declared.answers.Helped.{Helped}
use Rattle.ist_rebuild.specs.declared.answers.Helped.TheVariants.{Replaced, ParentMarked}
use Rattle.ist_rebuild.specs.declared.answers.Started.{Started}
use Rattle.ist_rebuild.specs.declared.answers.Started.TheVariants.{Yes, Other, Marked}
use Rattle.ist_rebuild.specs.Going.{Begins, ServesRebuild, StartsAt}
use Rattle.ist_rebuild.specs.Helping.{HasHelped, IsLeftToParent}
use Rattle.ist_rebuild.specs.Starting.{IsStartedAt, LeavesDone, StartsDoneBut, StartsDoneSince, MayStart, StoodInstead}
use Rattle.ist_tree.specs.Attempts.{GoesFor}
use Rattle.ist_tree.specs.CallTerms.{Rebuilds, IsShut, KeepsDone, IsHelpedWord}
use Rattle.ist_tree.proofs.EventLemmas.{IsPlainHelp, begins_rebuild, serves_aims, serves_rebuild}
use Rattle.ist_tree.proofs.FurtherLemmas.{load_plain, plain_on, may_start_went, left_is_shut, replaced_is_shut}
use Rattle.ist_rows.proofs.GoneLemmas.{ready_all, ready_more, ready_same}
use Rattle.ist_core.specs.WordTerms.{Inner, InnerAt, ref_of, word_of, anchor, IsOpen, past_change, past_rebuild, start}
use Rattle.ist_core.proofs.AllLogLemmas.{published_good}
use Rattle.ist_core.proofs.AllWordLemmas.{ref_of-word_of, word_of-ref_of, same_rebuild}
use Rattle.laws_links.proofs.ClosedLemmas.{linked_now}
use Rattle.laws_links.proofs.LinkLemmas.{open_unfinished}
use Rattle.laws_links.proofs.FinishedLemmas.{target_grows}
use Rattle.laws_calls.proofs.DueLemmas.{due_was_linked}
use Rattle.laws_stability.proofs.LaterLemmas.{ever_later}
use Rattle.laws_stability.specs.OpenRows.{StandsAtRow, by_change, by_rebuild, its_own}
use Rattle.laws_stability.proofs.StandingLemmas.{open_stands_for}
use Rattle.ist_dcss.proofs.DecideLemmas.{open_before}
use Rattle.laws_coming.specs.Further.{CameFurther}
use Rattle.laws_coming.proofs.FurtherLemmas.{and_on, helped_further, no_less}
use Rattle.ist_build.specs.Calls.{IsBuildable}

-- ---- going on

-- a caller that began a rebuild went on
pub begins_on : (old new : Caller) → IsReady old → IsCaller new → (HasRefused old → HasRefused new)
    → IsQuiet new → WentOn Begins old.token.view new.token.view → new.number ≡ old.number
    → StaysReady Rebuilds old new
begins_on old new r c refused quiet went number = grind (arith, ready_all, begins_rebuild)

-- so did one that helped one
pub serves_on : (old new : Caller) → HasHelped old new → StaysReady Rebuilds old new
serves_on old new h = ready_all ServesRebuild Rebuilds serves_rebuild old new h.on

-- a caller that began a rebuild of the target went on for it
pub begins_for : (old new : Caller) (target : ℕ) → IsReady old → IsCaller new
    → (HasRefused old → HasRefused new) → IsQuiet new → WentOn Begins old.token.view new.token.view
    → new.number ≡ old.number → WentOn (StartsAt target) old.token.view new.token.view
    → GoesFor old new target
begins_for old new target r c refused quiet went number aims = grind (arith, begins_on)

-- a caller that helped a rebuild started none
pub helped_for : (old new : Caller) (target : ℕ) → HasHelped old new → GoesFor old new target
helped_for old new target h = grind (arith, serves_on, went_all, serves_aims)

-- nor did one that made only plain steps of help
pub plain_for : (P : Event → Type 0) → ((event : Event) → P event → IsPlainHelp event)
    → (target : ℕ) → ((event : Event) → P event → StartsAt target event) → (who : Caller)
    → (token : TokenFace) → IsReady who → WentOn P who.token.view token.view
    → GoesFor who (record who { token = token }) target
plain_for P all target aims who token r went = grind (arith, plain_on, went_all)

-- nor one that loaded a word
pub loaded_for : (who : Caller) (token : TokenFace) (target : ℕ) → IsReady who
    → GoesOnTo who.token.view token.view → GoesFor who (record who { token = token }) target
loaded_for who token target r seen =
    plain_for (λ event. ⊥) load_plain target (λ event never. absurd never) who token r
    (goes_on_went (λ event. ⊥) who.token.view token.view seen)

-- nor one that did nothing
pub goes_none : (who : Caller) (target : ℕ) → IsSound who.token.view → IsReady who
    → GoesFor who who target
goes_none who target s r = grind (arith, ready_same, went_same)

-- two such steps are one
pub goes_more : (a b c : Caller) (target : ℕ) → GoesFor a b target → GoesFor b c target
    → GoesFor a c target
goes_more a b c target one two = record {
  on = ready_more Rebuilds a b c one.on two.on;
  aims = went_more (StartsAt target) a.token.view b.token.view c.token.view one.aims two.aims;
}

-- ---- what starting left done

-- what starting returns
abbrev pub started : Started → Result Started Full
started answer = Ok answer

-- if a rebuild was started, all starts are done except its own
pub yes_leaves : (first t : Snapshot) (number : ℕ) (answer : Started) (rebuild : ℕ)
    → answer ≡ Yes rebuild → LeavesDone first t number (Ok answer)
    → StartsDoneBut first t number rebuild
yes_leaves first t number answer rebuild is done = grind arith

-- if the slot held another word, all starts are done
pub other_leaves : (first t : Snapshot) (number : ℕ) (answer : Started) (word : ℕ)
    → answer ≡ Other word → LeavesDone first t number (Ok answer) → StartsDoneSince first t number
other_leaves first t number answer word is done = grind arith

-- if the parent was marked, all starts are done
pub marked_leaves : (first t : Snapshot) (number : ℕ) (answer : Started) → answer ≡ Marked
    → LeavesDone first t number (Ok answer) → StartsDoneSince first t number
marked_leaves first t number answer is done = subst (λ a. LeavesDone first t number (Ok a)) is done

-- ---- a rebuild that was helped

-- what helping returns
abbrev pub said : Helped → Result Helped Full
said answer = Ok answer

-- it was replaced, or left to its parent
pub helped_either : (answer : Helped) (t : Snapshot) (rebuild : ℕ)
    → (said answer ≡ said Replaced → IsReplaced t rebuild)
    → (said answer ≡ said ParentMarked → IsLeftToParent t rebuild)
    → IsReplaced t rebuild ⊎ IsLeftToParent t rebuild
helped_either Replaced t rebuild a b = inl (a refl)
helped_either ParentMarked t rebuild a b = inr (b refl)

-- so the row or its parent isn't open
pub helped_shut : (v w : View) → WentOn ServesRebuild v w → (rebuild parent index target : ℕ)
    → IsStartedAt (now v) rebuild parent index target
    → IsReplaced (now w) rebuild ⊎ IsLeftToParent (now w) rebuild → IsShut (now w) parent target
helped_shut v w went rebuild parent index target s either =
    ⊎_elim (replaced_is_shut ServesRebuild v w went rebuild parent index target s)
    (left_is_shut ServesRebuild v w went rebuild parent index target s) either

-- ---- starts done, twice

-- two steps that keep starts done keep them done together
pub done_more : (a b c : Caller) → b.number ≡ a.number → KeepsDone a b → KeepsDone b c
    → KeepsDone a c
done_more a b c number one two first done = subst (StartsDoneSince first (now c.token.view)) number
    (two first (subst (StartsDoneSince first (now b.token.view)) (sym number) (one first done)))

-- ---- each further attempt to rebuild a due row has seen the table make progress. Serves `rebuild_due`.

-- ---- the row was linked

-- its word names it
names_itself : (v : View) → IsSound v → (parent index target : ℕ) → MayStart v parent index target
    → ref_of (word_of (InnerAt target)) ≡ Some (InnerAt target)
names_itself v s parent index target m = ref_of-word_of (InnerAt target)
    (published_good v.start v.words s.lawful.opens v.log target (Inner m.row) s.lawful.enabled m.published)

-- a row of which a rebuild may be started was linked: it is due, or it stood below the anchor
may_start_linked : (v : View) → IsSound v → (parent index target : ℕ) → MayStart v parent index target
    → WasLinked (start v.start v.words) v.log target
may_start_linked v s parent index target m = ⊎_elim when_due below_anchor m.due
  where
    when_due : IsDue m.row → WasLinked (start v.start v.words) v.log target
    when_due = grind (arith, due_was_linked)

    below_anchor : parent ≡ anchor → WasLinked (start v.start v.words) v.log target
    below_anchor e = let t = state_of v.start v.words m.prefix in
        ever_later (start v.start v.words) (λ t. Linked t target) m.goes_on
        (linked_now (start v.start v.words) m.prefix target
        (below index (subst (Linked t) (sym e) at_anchor) record {
          word = word_of (InnerAt target);
          holds = m.stood;
          reads = ap (λ r. past_rebuild t.pieces (past_change t.pieces r)) (names_itself v s parent index target m);
        }))

-- ---- what stood in its place

-- the row was open before, if it is open later
open_earlier : (P : Event → Type 0) (v w : View) → WentOn P v w → (node : ℕ) (row : InnerRow)
    → (now v).pieces node ≡ Some (Inner row) → IsOpen (now w) node → IsOpen (now v) node
open_earlier P v w g node row e = open_before (now v) (now w) (went_grow P v w g) node (is_inner row e)

-- a row isn't open once the rebuild of it was helped
helped_closes : (P : Event → Type 0) (w x : View) → WentOn P w x → (rebuild target : ℕ)
    → HasTarget (now w) rebuild target → IsBuildable (now x) rebuild → ¬ (IsOpen (now x) target)
helped_closes P w x g rebuild target h b opened =
    let on = target_grows (now w) (now x) (went_grow P w x g) rebuild target h in
    let one = same_rebuild ((now x).pieces rebuild) b.told.row on.row b.told.published on.published in
    open_unfinished x.start x.words g.sound.lawful.opens x.log g.sound.lawful.enabled target opened (
      b.k,
      subst (λ n. IsFinishedWith (now x) n b.k) (ap (λ (r : RebuildRow). r.target) one ∙ on.target_is)
          b.told.finished,
    )

-- an attempt that found another word in the row's place, helped it, and found the row open, helped
-- a change of another
pub due_further : (P Q : Event → Type 0) (v w x y : View) (parent index target word : ℕ)
    → MayStart v parent index target → WentOn P v w → StoodInstead w parent index target word
    → WentOn Q w x → IsHelpedWord x word → GoesOnTo x y → IsOpen (now y) target → CameFurther v y
due_further P Q v w x y parent index target word m first stood then helped last opened =
    no_less P v w y first (and_on (λ event. ⊥) w x y (at stands) (goes_on_went (λ event. ⊥) x y last))
  where
    n : MayStart w parent index target
    n = may_start_went P v w first parent index target m

    k : MayStart x parent index target
    k = may_start_went Q w x then parent index target n

    open_x : IsOpen (now x) target
    open_x = open_earlier (λ event. ⊥) x y (goes_on_went (λ event. ⊥) x y last) target k.row k.published opened

    stands : StandsAtRow (now w) word target
    stands = open_stands_for w.start w.words first.sound.lawful.opens n.prefix w.log
        first.sound.lawful.enabled n.goes_on parent index target (word_of (InnerAt target)) word n.stood
        (names_itself w first.sound parent index target n)
        (may_start_linked w first.sound parent index target n)
        (open_earlier Q w x then target n.row n.published open_x) stood.holds

    at : StandsAtRow (now w) word target → CameFurther w x
    at (its_own is) = absurd (stood.differs (sym (word_of-ref_of word (InnerAt target) is).same_word))
    at (by_change base is) =
        helped_further Q w x first.sound then parent index word base stood.holds is
        (helped.change base is)
    at (by_rebuild base is of) =
        absurd (helped_closes Q w x then base target of (helped.rebuild base is) open_x)
