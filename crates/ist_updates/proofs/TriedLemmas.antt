-- What a try shows: that the key was or wasn't found, and why the update is refused.
-- Serves the functions of `trying`.
use Rattle.std.proofs.Common.{◌≡◌, ◌≢◌, ◌⊎◌, ℕ, ◌+◌, ◌≤◌, length, Result, Ok, Err, IfOk, IfErr, Option, Some, None, refl, ◌∙◌, subst, ⊎_elim, arith}
use Rattle.std.proofs.Math.Nat.{le_trans}
use Rattle.ist_core.specs.declared.loads.Load.{Load}
use Rattle.ist_core.specs.declared.ports.Full.{Full}
use Rattle.ist_core.specs.declared.states.LeafRow.{LeafRow}
use Rattle.ist_core.specs.LogTerms.{GoesOn, shown_row}
use Rattle.ist_core.specs.WordTerms.{Leaf, Empty, LeafAt, ref_of, leaf_words, pair_words, change_words, next_place, start}
use Rattle.ist_core.proofs.AllLogLemmas.{one_word}
use Rattle.ist_rule.specs.RuleTerms.{now, GoesOnTo, TokenFace, WentOn}
use Rattle.ist_rule.specs.declared.view.View.{View}
use Rattle.ist_rule.proofs.EventLemmas.{goes_on_same}
use Rattle.ist_rule.proofs.WentOnLemmas.{later_by-goes_on, goes_on_went, went_more, went_lawful, looked_went}
use Rattle.laws_histories.specs.Loads.{IsLoad, log_at}
use Rattle.laws_histories.specs.Searching.{Searched, of_nothing, of_other, of_key}
use Rattle.laws_histories.proofs.ChangeLemmas.{changes_rise, at_prefix, at_rises, end_on}
use Rattle.laws_histories.proofs.PositionLemmas.{search_position}
use Rattle.ist_find.specs.Searches.{SeesLeaf, Names}
use Rattle.ist_find.proofs.ReadLemmas.{leaf_on}
use Rattle.ist_find.specs.Reads.{HasLooked, TellsValue}
use Rattle.ist_find.proofs.LoadLemmas.{goes_length, shown_load}
use Rattle.ist_find.proofs.LookLemmas.{word_looked}
use Rattle.ist_find.proofs.SearchLemmas.{has_found}
use Rattle.ist_rows.specs.RowTerms.{RanShort}
use Rattle.ist_rows.specs.declared.callers.Caller.{Caller}
use Rattle.ist_rebuild.specs.Lacking.{LacksNow}
use Rattle.ist_updates.specs.declared.plans.Aim.{Aim}
use Rattle.ist_updates.specs.declared.updates.Outcome.{Outcome}
use Rattle.ist_updates.specs.declared.updates.Outcome.TheVariants.{Took, Nothing, Unmet}
use Rattle.ist_updates.specs.Answering.{IsTried, IsTryRefused}
use Rattle.ist_updates.specs.Asking.{command_for, IsAsked, Updates}
use Rattle.ist_updates.specs.Changing.{IsRowShort, WasAtSlot, Prepares}
use Rattle.ist_updates.specs.Refusals.{IsUpdateRefused, MetOtherLeaf, for_leaf, for_pair, for_put, for_remove}
use Rattle.ist_updates.specs.Trying.{BeganSince, HasFoundNone}
use Rattle.ist_updates.proofs.StepLemmas.{asked_gone, prepares_none, prepares_updates, taken_since}
use Rattle.ist_updates.proofs.PlanLemmas.{short_wider}
use Rattle.ist_rows.proofs.GoneLemmas.{loads_gone}

-- ---- what a leaf shows

module _ (v : View) (aim : Aim) (at : WasAtSlot v aim) where
  abbrev b : View
  b = at.before

  -- nothing in the slot gives the key no value
  pub found_nothing : ref_of aim.word ≡ Some Empty → HasFoundNone v aim.key
  found_nothing is =
      let looked = word_looked b b (goes_on_same b at.sound) aim.key aim.node aim.index aim.word Empty
      at.at.came.0 at.at.came.1 at.at.child at.at.holds is (λ base e. cc) (λ base e. cc) in
      let tells : TellsValue b v aim.key Empty None =
      record { seen = at.seen; has = λ least low. of_nothing } in
      record {
        node = aim.node;
        searched = (has_found b v aim.key aim.node aim.index at.at.came.0 Empty None looked
            tells).searched;
      }

  module _ (base : ℕ) (row : LeafRow) (is : ref_of aim.word ≡ Some (LeafAt base))
      (there : (now v).pieces base ≡ Some (Leaf row)) where
    looked : HasLooked b aim.key aim.node aim.index at.at.came.0 (LeafAt base)
    looked =
        word_looked b b (goes_on_same b at.sound) aim.key aim.node aim.index aim.word (LeafAt base)
        at.at.came.0 at.at.came.1 at.at.child at.at.holds is (λ base e. cc) (λ base e. cc)

    -- the words of the leaf may be loaded
    abbrev key_load : Load
    key_load = record { place = base + 0; word = row.key; length = length v.log }

    abbrev value_load : Load
    value_load = record { place = base + 1; word = row.value; length = length v.log }

    key_loaded : (least : ℕ) → least ≤ length b.log
        → IsLoad v.start v.words v.log (base + 0) least key_load
    key_loaded least low = shown_load v.start v.words v.log (base + 0) row.key least
        (λ x shown. one_word v.start v.words v.log at.seen.sound.lawful.enabled (base + 0) row.key x
        (shown_row base (Leaf row) 0 there refl) shown)
        (le_trans low (goes_length b v at.seen))

    value_loaded : (least : ℕ) → least ≤ length b.log
        → IsLoad v.start v.words v.log (base + 1) least value_load
    value_loaded least low = shown_load v.start v.words v.log (base + 1) row.value least
        (λ x shown. one_word v.start v.words v.log at.seen.sound.lawful.enabled (base + 1) row.value x
        (shown_row base (Leaf row) 1 there refl) shown)
        (le_trans low (goes_length b v at.seen))

    -- so a leaf of another key gives none
    pub found_other : row.key ≢ aim.key → HasFoundNone v aim.key
    found_other differs =
        let tells : TellsValue b v aim.key (LeafAt base) None =
        record {
          seen = at.seen;
          has = λ least low. of_other key_load (key_loaded least low) differs;
        } in
        record {
          node = aim.node;
          searched = (has_found b v aim.key aim.node aim.index at.at.came.0 (LeafAt base) None looked
              tells).searched;
        }

    -- and a leaf of the key its value
    pub found_key : row.key ≡ aim.key
        → Searched v.start v.words v.log aim.key v.loads.since aim.node (Some row.value)
    found_key same =
        let tells : TellsValue b v aim.key (LeafAt base) (Some row.value) =
        record {
          seen = at.seen;
          has = λ least low. of_key key_load value_load (key_loaded least low) same
              (value_loaded least low);
        } in
        (has_found b v aim.key aim.node aim.index at.at.came.0 (LeafAt base) (Some row.value) looked
        tells).searched

-- ---- too few words

-- a put asks for a leaf, for a pair row after it met a leaf of another key, or for a change
abbrev pub IsPutFor : View → View → ℕ → ℕ → Type 0
IsPutFor first w key asked = (asked ≡ leaf_words)
    ⊎ (((asked ≡ pair_words) × MetOtherLeaf first.start first.words first.log w.log key)
    ⊎ (asked ≡ change_words))

module _ (first v w : View) (words : ℕ) (full : Full) (began : BeganSince first v) {A : ℕ → Type 0}
    (short : IsRowShort A v words full w) where
  lacks : LacksNow w full.asked
  lacks = short.few.asked.1

  -- it was refused since the search began, for what an update asks for
  short_since : {B : ℕ → Type 0} → B full.asked → RanShort (WentOn Updates) B first words full w
  short_since asked = grind (arith, short_wider, prepares_updates)

  -- a put is refused
  pub put_refused : (key value : ℕ) → IsPutFor first w key full.asked
      → IsUpdateRefused first key (Some value) words full w
  put_refused key value asked =
      short_since (⊎_elim (λ e. for_leaf e lacks)
      (λ k. ⊎_elim (λ e. for_pair e.0 lacks e.1) (λ e. for_put e lacks) k) asked)

  -- a remove of a key that was found is refused
  pub remove_refused : (key node found : ℕ) → full.asked ≡ change_words
      → Searched v.start v.words v.log key v.loads.since node (Some found)
      → IsUpdateRefused first key None words full w
  remove_refused key node found asked searched =
      let ran : RanShort (WentOn Updates) (λ n. n ≡ change_words) first words full w
      = short_since asked in
      let went = went_more Updates first ran.before w ran.seen
      (looked_went Updates ran.before next_place full.next w ran.looked) in
      let lawful = went_lawful Updates first w went in
      let last = went_more Prepares v short.before w short.seen
      (looked_went Prepares short.before next_place full.next w short.looked) in
      let on = later_by-goes_on last.later in
      let here = subst (λ (y : View). Searched y.start y.words v.log key v.loads.since node
      (Some found)) began.went.same searched in
      let there = end_on first.start first.words v.log w.log on key v.loads.since node (Some found)
      here in
      let position = search_position first.start first.words lawful.opens w.log lawful.enabled key
      v.loads.since node (Some found) there in
      let since : GoesOn first.log (log_at w.log v.loads.since) =
      subst (λ l. GoesOn l (log_at w.log v.loads.since))
      (at_prefix first.log w.log (later_by-goes_on went.later))
      (at_rises w.log (length first.log) v.loads.since began.since) in
      short_since (for_remove found record {
        position = position.position;
        from = grind (arith, le_trans, changes_rise);
        to = position.to;
        value_is = position.value_is;
      } asked lacks)

-- ---- after loads

-- the leaf that the word of the slot names is published
pub slot_leaf : (v : View) (aim : Aim) → WasAtSlot v aim → (base : ℕ)
    → ref_of aim.word ≡ Some (LeafAt base) → SeesLeaf v base
slot_leaf v aim at base is = leaf_on at.before v at.seen base (subst (Names at.before) is at.at.names)

module _ (old : Caller) (token : TokenFace) (key : ℕ) (value : Option ℕ)
    (a : IsAsked old (command_for key value)) (g : GoesOnTo old.token.view token.view) where
  abbrev mid : Caller
  mid = record old { token = token }

  -- loads leave the caller asked
  pub loads_asked : IsAsked mid (command_for key value)
  loads_asked = asked_gone Prepares old mid (command_for key value) a
      (loads_gone Prepares old token a.caller a.refused g) prepares_none

  -- the result of a try after loads is the result of a try that makes them first
  pub tried_after : (node : ℕ) (new : Caller) (tried : Option Outcome)
      → IsTried mid key value node new tried → IsTried old key value node new tried
  tried_after node new (Some (Took done)) t = (
    taken_since old mid (command_for key value) a loads_asked
        (loads_gone Prepares old token a.caller a.refused g) new.token.view node done.reply done.reply
        refl t.0,
    t.1,
  )
  tried_after node new (Some Nothing) t = (t.0, t.1, t.2, t.3 ∙ g.since)
  tried_after node new (Some Unmet) t = t
  tried_after node new None t = t

  -- a try that was refused after loads was refused with them
  pub refused_loads : (words : ℕ) (full : Full) (new : Caller)
      → IsTryRefused mid key value words full new → IsTryRefused old key value words full new
  refused_loads words full new r = grind (arith, went_more, goes_on_went)

  -- any result but `Full` after loads is a result of the try with them
  pub ok_after : (node : ℕ) (new : Caller) (r : Result (Option Outcome) Full)
      → IfOk r (λ t. IsTried mid key value node new t) → IfOk r (λ t. IsTried old key value node new t)
  ok_after node new (Ok t) h = tried_after node new t h
  ok_after node new (Err full) h = tt

  -- and so is a `Full` after loads
  pub err_after : (words : ℕ) (new : Caller) (r : Result (Option Outcome) Full)
      → IfErr r (λ full. IsTryRefused mid key value words full new)
      → IfErr r (λ full. IsTryRefused old key value words full new)
  err_after words new (Ok t) h = tt
  err_after words new (Err full) h = refused_loads words full new h
