-- A part that was built, put in its slot or lost. Serves `filling`.
use Rattle.std.proofs.Common.{Result, Ok, Err, IfOk, IfErr, ◌≡◌, ◌≢◌, ℕ, ◌/◌, ◌<◌, ◌≤◌, List, [], ◌++◌, length, take, drop, Some, slice_get, refl, sym, ap, ap₂, ◌∙◌, subst, ⊎_elim, arith}
use Rattle.std.specs.List.{sum}
use Rattle.ist_core.specs.declared.events.Event.{Event}
use Rattle.ist_core.specs.declared.events.Event.TheVariants.{Place, Lose}
use Rattle.ist_core.specs.declared.ports.Full.{Full}
use Rattle.ist_core.specs.declared.events.Who.TheVariants.{Caller as CallerOf}
use Rattle.ist_core.specs.WordTerms.{degree, part_len, part_start, Inner, with_inners, InnerAt, unset_word, tag_count, slot_place, shape, share_from_fits, start, parts}
use Rattle.ist_core.specs.TreeTerms.{root_whole, PlacedLeaf, HasLeaves, IsFinishedWith, place_of_slot}
use Rattle.ist_core.specs.LogTerms.{bases_of, sizes_of}
use Rattle.ist_core.proofs.AllPlaceLemmas.{placed, claimed_within}
use Rattle.laws_links.proofs.ContentLemmas.{finished_leaves}
use Rattle.ist_rule.specs.RuleTerms.{CanExchangeOrLose, TokenFace, now, Logged, LoggedLoad, ExchangedOrLost, GoesOnTo, number_of}
use Rattle.ist_rule.specs.declared.view.View.{View}
use Rattle.ist_rows.specs.RowTerms.{IsCaller, IsInBuild, HasRefused, sizes_built, HasRunOut, HasTakenFewIn}
use Rattle.ist_rows.specs.declared.callers.Caller.{Caller}
use Rattle.laws_coming.specs.Builds.{IsPartBuilt, WasUnset}
use Rattle.laws_coming.proofs.SeenLemmas.{part_comes_or_loses}
use Rattle.laws_coming.proofs.FilledLemmas.{part_sizes}
use Rattle.ist_build.specs.Laying.{IsLaid, IsShort}
use Rattle.ist_build.specs.BuildEvents.{placing, losing, held_rows_from}
use Rattle.ist_build.specs.declared.shared.SharedRoot.{SharedRoot}
use Rattle.ist_build.specs.Putting.{IsRowOfDegree, IsShared, IsStopped}
use Rattle.ist_build.specs.Back.{IsBack, HasBuilt, IsSharedAs, IsPartMade, IsFilledAt}
use Rattle.ist_build.proofs.BackLemmas.{back_logged, back_lost, back_refused, shared_told}
use Rattle.ist_build.proofs.BuiltLemmas.{put_same, short_stopped, built_grow, loads_built}
use Rattle.ist_build.proofs.ShareLemmas.{short_more}
use Rattle.laws_calls.specs.Dividing.{share_of}
use Rattle.laws_calls.proofs.PartLemmas.{part_is}
use Rattle.ist_build.proofs.PartLeafLemmas.{length-share_of}
use Rattle.ist_build.proofs.LayingLemmas.{rows_free}
use Rattle.std.proofs.lemmas.Bool.Decides.{eqb_tells}
use Rattle.ist_build.proofs.RootReadyLemmas.{IsTopped, root_topped, topped_set}
use Rattle.ist_build.proofs.RootPutLemmas.{rows_of_topped}
use Rattle.ist_build.proofs.TopBegunLemmas.{leaves_on}
use Rattle.ist_build.proofs.PartSlotLemmas.{unset_built, part_lost, part_put, part_two, shared_on, slot_is_place}

-- ---- what was built

-- the exchange may be made, and what is known after it
pub record MayPut (old mid : Caller) (s : SharedRoot) (i place word : ℕ) : Type 0 where
  pub allowed : CanExchangeOrLose mid.token.view place unset_word word
      (placing mid.token.view s.rebuild i word) (losing mid.token.view word)
  -- after the exchange, whatever word it found, the slot is set
  pub following : (token : TokenFace) (found : ℕ)
      → ExchangedOrLost mid.token.view (placing mid.token.view s.rebuild i word)
      (losing mid.token.view word) place unset_word found token.view
      → IsFilledAt old (record mid { token = token }) s.root i

module _ (old mid : Caller) (s : SharedRoot) (i word : ℕ) (m : IsPartMade old mid s i word) where
  abbrev a : HasBuilt old mid
  a = m.has_built

  abbrev sh : IsShared (now old.token.view) s.rebuild s.target s.root s.keys
  sh = m.shared.is

  less : i < degree s.keys
  less = subst (λ n. i < n) m.shared.degree_is m.within

  abbrev v : View
  v = old.token.view

  abbrev w : View
  w = mid.token.view

  some : (leaves : List PlacedLeaf) × HasLeaves (now v).pieces (Some (InnerAt s.target)) leaves
      × (length leaves ≡ s.keys)
  some = grind (arith, finished_leaves)

  abbrev part : List PlacedLeaf
  part = take (part_len s.keys i) (drop (part_start s.keys i) some.0)

  long : length part ≡ part_len s.keys i
  long = length-share_of s.keys i some.0 some.2 less

  h : IsLaid w mid.number (now v).next word part
  h = m.laid some.0 some.1

  on : IsShared (now w) s.rebuild s.target s.root s.keys
  on = shared_on (now v) (now w) (built_grow v w a.built) s.rebuild s.target s.root s.keys sh

  root_low : s.root < (now v).next
  root_low =
      let it = claimed_within v.start v.words v.log s.root _ a.sound.lawful.enabled
      ((placed v.start v.words v.log a.sound.lawful.enabled).published s.root (Inner sh.node.row)
      sh.node.published) in
      let low = it.below_next in let more = it.some in omega arith

  abbrev ready : IsPartBuilt (now w) mid.number s.rebuild i word h.rows
  ready = record {
    row = on.row;
    published = on.published;
    started = on.started;
    k = s.keys;
    finished = subst (λ n. IsFinishedWith (now w) n s.keys) (sym on.target_is) on.finished;
    shared = on.shared;
    root = s.root;
    root_is = on.root_is;
    root_row = on.node.row;
    root_published = on.node.published;
    within = subst (λ n. i < n) (sym on.node.degree_is) less;
    leaves = some.0;
    reached = subst (λ n. HasLeaves (now w).pieces (Some (InnerAt n)) some.0) (sym on.target_is)
        (leaves_on v w a.built s.target s.keys sh.finished some.0 some.1);
    part = part;
    part_is = subst (λ n. slice_get (parts some.0) i ≡ Some (share_of n i some.0)) some.2
        (part_is some.0 i (subst (λ n. i < degree n) (sym some.2) less));
    ref = h.ref;
    ref_is = h.ref_is;
    ideal = h.ideal s.root root_low;
    once = h.owns.once;
    held = h.owns.held;
  }

  sizes : sizes_built mid ≡ sizes_built old ++ sizes_of h.rows
  sizes = grind (arith, long, part_sizes, rows_free, root_low)

  topped : IsTopped word (bases_of h.rows)
  topped = let two = part_two s.keys i sh.shared in let fits = share_from_fits in
      root_topped (with_inners (now w).pieces h.rows) word 0 part s.root (bases_of h.rows)
      (let len = long in omega arith)
      (root_whole h.ref (omega arith) h.ref_is (h.ideal s.root root_low))

  named : held_rows_from w (word / tag_count) ≡ h.rows
  named = grind (arith, rows_of_topped, sizes, topped)

  mine_now : number_of w.who ≡ mid.number
  mine_now = ap number_of (ap (λ x. x.who) a.built.same ∙ a.ready.caller.mine) ∙ sym a.number

  placing_is : placing w s.rebuild i word ≡ Place mid.number s.rebuild i word h.rows
  placing_is = ap₂ (λ n rows. Place n s.rebuild i word rows) mine_now named

  losing_is : losing w word ≡ Lose mid.number (bases_of h.rows)
  losing_is = ap₂ (λ n rows. Lose n (bases_of rows)) mine_now named

  -- the root has its slots still
  pub made_slots : IsRowOfDegree (now w) s.root s.degree
  made_slots = subst (IsRowOfDegree (now w) s.root) (sym m.shared.degree_is) on.node

  module _ (place : ℕ) (here : place ≡ slot_place s.root s.degree i) where
    is_place : place ≡ slot_place s.root (degree s.keys) i
    is_place = here ∙ ap (λ n. slot_place s.root n i) m.shared.degree_is

    -- the exchange may be made
    part_allowed : CanExchangeOrLose w place unset_word word (placing w s.rebuild i word) (losing w word)
    part_allowed =
        let was = unset_built v w old.number (slot_place s.root s.degree i) a.ready.caller.mine a.built
        m.unset in
        let there : WasUnset w mid.number place =
        subst (λ p. WasUnset w mid.number p) (sym here)
        (subst (λ n. WasUnset w n (slot_place s.root s.degree i)) (sym a.number) was) in
        let at_slot : place ≡ place_of_slot (now w) s.root i =
        is_place ∙ slot_is_place w.start w.words w.log a.built.sound.lawful.enabled s.root
        (degree s.keys) i on.node less in
        let can = part_comes_or_loses w a.built.sound mid.number s.rebuild i word h.rows
        (ap (λ x. x.who) a.built.same ∙ a.ready.caller.mine ∙ ap CallerOf (sym a.number)) h.owns.stored
        ready place at_slot there in
        subst (λ (e : Event). CanExchangeOrLose w place unset_word word (placing w s.rebuild i word) e)
        (sym losing_is)
        (subst (λ (e : Event). CanExchangeOrLose w place unset_word word e
        (Lose mid.number (bases_of h.rows))) (sym placing_is) can)

    -- after it the slot is set, whoever was first
    part_after : (token : TokenFace) (found : ℕ)
        → ExchangedOrLost w (placing w s.rebuild i word) (losing w word) place unset_word found token.view
        → IsFilledAt old (record mid { token = token }) s.root i
    part_after token found x =
        ⊎_elim (λ same. hit (x.0 same.1)) (λ other. miss other.1 (x.1 other.1))
        (eqb_tells found unset_word)
      where
        hit : Logged w (placing w s.rebuild i word) token.view
            → IsFilledAt old (record mid { token = token }) s.root i
        hit l = let event = Place mid.number s.rebuild i word h.rows in
            let logged = subst (λ (e : Event). Logged w e token.view) placing_is l in record {
              back = back_logged old mid a h.rows h.owns sizes event tt (λ n. refl) (λ t. refl) token
                  logged;
              set = part_put w token.view mid.number s.rebuild i word h.rows s.root on.row on.published
                  on.root_is (topped_set word (bases_of h.rows) topped) logged;
            }

        miss : found ≢ unset_word → LoggedLoad w (losing w word) place found token.view
            → IsFilledAt old (record mid { token = token }) s.root i
        miss differs l = let event = Lose mid.number (bases_of h.rows) in
            let lost = subst (λ (e : Event). LoggedLoad w e place found token.view) losing_is l in
            record {
              back = back_lost old mid a h.rows h.owns sizes event tt (λ n. refl) (λ t. refl) token place
                  found lost;
              set = part_lost w token.view mid.number place found (bases_of h.rows) s.root
                  (degree s.keys) i on.node less is_place differs lost;
            }

    -- a part that was made may be put in place
    pub may_put : MayPut old mid s i place word
    may_put = record { allowed = part_allowed; following = part_after }

-- ---- in the form of the functions' clauses

-- a shared root stays shared after loads
pub shared_now : (v w : View) → GoesOnTo v w → (rebuild target root k : ℕ)
    → IsShared (now v) rebuild target root k → IsShared (now w) rebuild target root k
shared_now v w g rebuild target root k h =
    shared_on (now v) (now w) (built_grow v w (loads_built v w g)) rebuild target root k h

-- ---- what a build of a part gives

-- the part was made, or the build was refused, and the caller is back
pub record SlotBuilt (old new : Caller) (s : SharedRoot) (i words : ℕ) (answer : Result ℕ Full) : Type 0 where
  pub made : IfOk answer (λ word. IsPartMade old new s i word)
  pub few : HasTakenFewIn answer (sum (shape (part_len s.keys i))) 0 old new
  pub back : IfErr answer (λ full. IsBack old new)
  pub full : IfErr answer (λ full. IsStopped old.token.view s.rebuild words full new.token.view)

-- a build over the share of a slot that was Unset
pub slot_built : (old new : Caller) (s : SharedRoot) (i len start words : ℕ) → HasBuilt old new
    → IsCaller new → IsSharedAs (now old.token.view) s → i < s.degree
    → WasUnset old.token.view old.number (slot_place s.root s.degree i)
    → start ≡ part_start s.keys i → len ≡ part_len s.keys i → len < s.keys
    → (answer : Result ℕ Full)
    → IfOk answer (λ word. (all : List PlacedLeaf)
    → HasLeaves (now old.token.view).pieces (Some (InnerAt s.target)) all
    → IsLaid new.token.view new.number (now old.token.view).next word (take len (drop start all)))
    → IfOk answer (λ word. 2 ≤ len → IsInBuild new (sizes_built old) (shape len) [])
    → (2 ≤ len → HasTakenFewIn answer (sum (shape len)) 0 old new)
    → IfErr answer (λ full. IsShort old.token.view words len full new.token.view)
    → IfErr answer (λ full. HasRefused new) → SlotBuilt old new s i words answer
slot_built old new s i len start words b c sh within unset start_is len_is fewer (Ok word) laid at few
    full refused =
    grind (arith, part_two)
slot_built old new s i len start words b c sh within unset start_is len_is fewer (Err full) laid at few
    short refused =
    let v = old.token.view in
    let two : 2 ≤ len = let t = part_two s.keys i sh.is.shared in omega arith in record {
      made = tt;
      few = subst (λ n. HasRunOut (sum (shape n)) old new) len_is (few two);
      back = back_refused old new b.number b.rows b.built c refused;
      full = short_stopped v v new.token.view s.rebuild words s.keys full (shared_told (now v) s sh)
          (put_same v b.sound)
          (short_more v words len s.keys full new.token.view (let q = fewer in omega arith) short);
    }
