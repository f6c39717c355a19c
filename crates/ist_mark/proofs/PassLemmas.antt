-- Passing a slot: what is known after a load of it. Serves `look` and `pass`.
use Rattle.std.proofs.Common.{◌≡◌, ◌≢◌, ℕ, ◌+◌, ◌*◌, ◌<◌, ◌&&◌, ◌==◌, not, Bool, true, false, List, length, get_or, Option, Some, None, refl, sym, ap, ◌∙◌, subst, inl, ⊎_elim, length-append, arith}
use Rattle.std.proofs.lemmas.Option.{slice_get-get_or}
use Rattle.std.proofs.lemmas.Bool.{eqb-true}
use Rattle.ist_core.specs.declared.events.Event.{Event}
use Rattle.ist_core.specs.declared.events.Event.TheVariants.{Pass}
use Rattle.ist_core.specs.declared.pairs.Pair.{Pair}
use Rattle.ist_core.specs.declared.states.InnerRow.{InnerRow}
use Rattle.ist_core.specs.WordTerms.{place_limit, slot_place, Ref, Empty, Unset, LeafAt, InnerAt, ChangeAt, RebuildAt, ref_of, word_of, unset_word, marked_word, finished_word, Inner, Change, as_inner, start, SlotHolds, in_row, past_change, past_rebuild, logical}
use Rattle.ist_core.specs.LogTerms.{Snapshot, Log, EachEnabled, CanOpen, state_of, IsShown}
use Rattle.ist_core.specs.TreeTerms.{KeepsWord, holds_it, holds_change, IsFrozen, place_of_slot}
use Rattle.ist_core.proofs.AllLogLemmas.{closed, published_good, ref_of-change}
use Rattle.ist_core.proofs.AllPlaceLemmas.{slot_names, SlotNames, names, anchor_free, shaped, slot_once, both_true}
use Rattle.ist_core.proofs.AllWordLemmas.{ref_of-unset, word_of-ref_of}
use Rattle.laws_links.proofs.FinishedLemmas.{finished_slot}
use Rattle.ist_rule.specs.RuleTerms.{IsSound, now, Looked, LoggedLoad, LoadedAs, as_event, as_load, number_of, is_marked, is_change_ref, pass_of, CanLoadPass, WentOn}
use Rattle.ist_rule.specs.declared.view.View.{View}
use Rattle.ist_rule.proofs.WatchLemmas.{if_some, no_change, place_inner}
use Rattle.ist_dcss.proofs.FieldLemmas.{row_low}
use Rattle.ist_dcss.proofs.SlotPlaceLemmas.{slot_shown, no_anchor}
use Rattle.ist_rule.proofs.WentOnLemmas.{logged_load_went, looked_went, went_now}
use Rattle.ist_mark.specs.Marking.{the_node, Marks}
use Rattle.ist_dcss.specs.Reading.{IsNoChange}
use Rattle.ist_dcss.proofs.DecideLemmas.{not_named}
use Rattle.ist_mark.specs.Passing.{MayPass, IsMetAt}
use Rattle.ist_mark.proofs.KeepingLemmas.{may_pass_went, closed_status}
use Rattle.laws_links.proofs.ClosedLemmas.{closed_was_linked}
use Rattle.laws_links.proofs.LinkLemmas.{linked_or_finished}
use Rattle.laws_links.proofs.ResolvedLemmas.{resolved_gone}
use Rattle.laws_links.proofs.ContentLemmas.{linked_set}

-- ---- the slots of a node that isn't open

module _ (pairs : List Pair) (words : ℕ) (opens : CanOpen pairs words) (log : Log)
    (h : EachEnabled (start pairs words) log) (node i word : ℕ) (row : InnerRow)
    (published : (state_of pairs words log).pieces node ≡ Some (Inner row))
    (slot : SlotHolds (state_of pairs words log) node i word) where
  abbrev t : Snapshot
  t = state_of pairs words log

  -- each slot of a finished node was passed, with the word that it holds, if that is no change's
  frozen_if_finished : (k : ℕ) → row.status ≡ finished_word k → IsNoChange word
      → IsFrozen log node i word
  frozen_if_finished k is plain =
      let p = finished_slot pairs words log h node i word
      (k, record { row = row; published = published; status = is }) slot in
      let keeps = (closed pairs words opens log h node i p.word p.passed).keeps in
      at p.word p.passed keeps
    where
      at : (v : ℕ) → IsFrozen log node i v → KeepsWord t log node i v → IsFrozen log node i word
      at v p (holds_it k) = grind (arith, slot_once, anchor_free)
      at v p (holds_change x) =
          let same = slot_once t node i word (word_of (ChangeAt x.base))
          (anchor_free pairs words log h) slot x.in_slot in
          absurd (plain x.base (ap ref_of same
          ∙ ref_of-change x.base (published_good pairs words opens log x.base (Change x.change) h
          x.published)))

  -- no slot of a marked node is Unset: the node is linked
  set_if_marked : row.status ≡ marked_word → word ≢ unset_word
  set_if_marked marked unset =
      let was = closed_was_linked pairs words opens log h node row published
      (λ e. let one : row.status ≡ 1 = marked in omega arith) in ⊎_elim
      (λ linked. linked_set pairs words opens log h node i word linked slot
      (ap (logical t.pieces) unset ∙ ap (λ o. past_rebuild t.pieces (past_change t.pieces o))
      ref_of-unset))
      (λ f. let same : f.1.row ≡ row = cc (f.1.published) in
      let odd : f.1.row.status ≡ 4 * f.0 + 3 = f.1.status in
      let one : f.1.row.status ≡ 1 = ap (λ r. r.status) same ∙ marked in
      omega arith)
      (linked_or_finished pairs words opens log h node was)

-- ---- what is known after a load

-- a test of a word that is no change's
plain_test : (o : Option Ref) → ((change : ℕ) → o ≢ Some (ChangeAt change)) → is_change_ref o ≡ false
plain_test (Some (ChangeAt base)) plain = absurd (plain base refl)
plain_test (Some Empty) plain = refl
plain_test (Some Unset) plain = refl
plain_test (Some (LeafAt base)) plain = refl
plain_test (Some (InnerAt base)) plain = refl
plain_test (Some (RebuildAt base)) plain = refl
plain_test None plain = refl

-- a load of a slot that is no Pass, of a marked node and no change's, gives Unset
unset_by_test : (a b c : Bool) → (a && (not b && not c)) ≡ false → a ≡ true → b ≡ false → c ≡ true
unset_by_test true false true e f g = refl
unset_by_test true false false e f g = absurd (cc)
unset_by_test true true c e f g = absurd (cc)
unset_by_test false b c e f g = absurd (cc)

-- what is known of a slot after a load of it
pub record LookTells (v w : View) (node i word : ℕ) : Type 0 where
  pub went : WentOn (Marks w node) v w
  -- a change that the word names is met in a slot of the node, so that it may be helped
  pub change : (change : ℕ) → ref_of word ≡ Some (ChangeAt change) → IsMetAt w node change
  -- if the word is no change, the slot is frozen with it
  pub frozen : IsNoChange word → IsFrozen w.log node i word

module _ (v : View) (node degree i place word : ℕ) (m : MayPass v node degree) (less : i < degree)
    (at : place ≡ slot_place node degree i) (w : View) where
  -- a load that is a Pass froze the slot
  passed_now : (event : Event) (l : LoggedLoad v event place word w)
      → pass_of v node i l.before word ≡ Some event → LookTells v w node i word
  passed_now event l named = let u = state_of v.start v.words l.before in
      let test = is_marked (as_inner (u.pieces node))
      && (not (is_change_ref (ref_of word)) && not (word == unset_word)) in
      let pass : Event = Pass (number_of v.who) node i word in
      let is = if_some test pass event named in
      let both = both_true (is_marked (as_inner (u.pieces node)))
      (not (is_change_ref (ref_of word)) && not (word == unset_word)) is.0 in
      let plain = both_true (not (is_change_ref (ref_of word))) (not (word == unset_word)) both.1 in
      let logged : LoggedLoad v pass place word w =
      subst (λ (e : Event). LoggedLoad v e place word w) (sym is.1) l in
      record {
        went = logged_load_went (Marks w node) v pass place word w logged the_node refl;
        change = λ c e. absurd (no_change (ref_of word) plain.0 c e);
        frozen = λ k. subst (λ log. IsFrozen log node i word)
            (sym (ap (λ (x : View). x.log) logged.view)) (inl (refl, refl, refl));
      }

  -- a load that isn't a Pass met a change, or came after another Pass
  passed_before : Looked v place word w → pass_of v node i w.log word ≡ None
      → LookTells v w node i word
  passed_before l none = record {
    went = went;
    change = λ c e.
        let named : SlotNames (now w).pieces node i (Some (ChangeAt c)) =
        subst (SlotNames (now w).pieces node i) e
        (slot_names (now w) node i word
        (names w.start w.words l.sound.lawful.opens w.log enabled) holds) in
        record {
          may_help = record {
            number = here.number;
            mine = here.mine;
            row = named.row;
            installed = named.published;
          };
          node_is = named.node_is;
          unresolved = λ before.
              resolved_gone w.start w.words l.sound.lawful.opens w.log enabled c before node i
              (subst (SlotHolds (now w) node i)
              (sym (word_of-ref_of word (ChangeAt c) e).same_word) holds);
        };
    frozen = λ plain. ⊎_elim
        (λ marked.
        absurd (set_if_marked w.start w.words l.sound.lawful.opens w.log enabled node i word
        here.row here.published holds marked (unset marked plain)))
        (λ f. frozen_if_finished w.start w.words l.sound.lawful.opens w.log enabled node i word
        here.row here.published holds f.0 f.1 plain)
        (closed_status w.start w.words w.log enabled node here.row here.published here.closed);
  }
    where
      went : WentOn (Marks w node) v w
      went = looked_went (Marks w node) v place word w l

      here : MayPass w node degree
      here = may_pass_went (Marks w node) v w went node degree m

      enabled : EachEnabled (start w.start w.words) w.log
      enabled = l.sound.lawful.enabled

      in_slot : (x : ℕ) × SlotHolds (now w) node i x
      in_slot =
          let slots = (shaped w.start w.words w.log enabled node (Inner here.row)
          here.published).slots in
          let same = here.degree_is in
          let low = less in (
            get_or here.row.slots i 0,
            in_row here.row here.published (slice_get-get_or here.row.slots i 0 (omega arith)),
          )

      place_is : place_of_slot (now w) node i ≡ place
      place_is = place_inner (now w) node i here.row here.published
          (no_anchor w.start w.words w.log enabled node here.row here.published)
          ∙ ap (λ d. slot_place node d i) here.degree_is ∙ sym at

      holds : SlotHolds (now w) node i word
      holds = subst (SlotHolds (now w) node i)
          (sym (l.stood in_slot.0 (subst (λ p. IsShown (now w) p in_slot.0) place_is
          (slot_shown w.start w.words w.log enabled node i in_slot.0 in_slot.1)))) in_slot.1

      unset : here.row.status ≡ marked_word → IsNoChange word → word ≡ unset_word
      unset marked plain =
          grind (arith, went_now, went, unset_by_test, not_named, plain_test, eqb-true)

  -- after the load of a slot of a marked node the change found is known, or the slot is frozen
  pub look_tells : LoadedAs v (pass_of v node i) place word w → LookTells v w node i word
  look_tells (as_event event l named) = passed_now event l named
  look_tells (as_load l none) = passed_before l none

-- a caller that may pass a slot may load it so
pub can_look : (v : View) (node degree i place : ℕ) → MayPass v node degree → i < degree
    → place ≡ slot_place node degree i → CanLoadPass v node i place
can_look v node degree i place m less at = grind arith

-- a node has fewer slots than a table has places
pub degree_low : (v : View) → IsSound v → (node degree : ℕ) → MayPass v node degree
    → degree < place_limit
degree_low v s node degree m =
    let d = shaped v.start v.words v.log s.lawful.enabled node (Inner m.row) m.published in
    let slots = d.slots in let both = length-append m.row.keys m.row.slots in
    let same = m.degree_is in
    let low = row_low v s node (Inner m.row) m.published (3 + length m.row.keys + length m.row.slots)
    (omega arith) in
    let place = low.0 in let all = low.1 in omega arith
