-- Steps that leave the word at their place, and are events: loads, and failed exchanges. Serves the
-- plays.
use Rattle.std.proofs.Common.{◌≡◌, ◌≢◌, ℕ, ◌+◌, ◌⊎◌, inl, inr, eqb, slice_index, slice_set, Option, Some, None, refl, sym, ap, ◌∙◌, subst, ⊎_elim, ◌<◌, Bool, true, false, if◌then◌else◌, [], ◌∷◌, ◌++◌, arith}
use Rattle.std.proofs.lemmas.List.{set-get_or}
use Rattle.std.proofs.lemmas.Bool.Decides.{eqb_tells, nat_tests}
use mathlib.Core.Option.{some}
use prog.Atomic.{either}
use Rattle.atomic_table.specs.Table.{step, keeps, Allows, Splits}
use Rattle.atomic_table.proofs.Lists.{exchanged}
use Rattle.ist_core.specs.declared.events.Event.{Event}
use Rattle.ist_core.specs.declared.events.Who.TheVariants.{Spent, Maker, Caller, Note}
use Rattle.ist_core.specs.declared.events.Who.{Who}
use Rattle.ist_core.specs.WordTerms.{start}
use Rattle.ist_core.specs.TreeTerms.{Touch, touch_of, touched}
use Rattle.ist_core.specs.LogTerms.{Enabled, state_of, IsShown}
use Rattle.ist_rule.specs.RuleTerms.{View, About, HasView, Kept, IsSound, Seated, loads_as, exchanges_or_loses, logging_load, LoggedLoad, Naming, LoadedAs, as_event, as_load, ExchangedOrLost, CanMake, LeavesAt, CanLoadAs, CanExchangeOrLose, is_maker, awaits_seat, noted_by, plain, split_left, split_right}
use Rattle.ist_rule.proofs.FrameLemmas.{Table}
use Rattle.ist_rule.proofs.LookLemmas.{as_table, GoesAtStep, sees}
use Rattle.ist_rule.proofs.LogLemmas.{sound_now, kept, logs}
use Rattle.ist_rule.proofs.ExchangeLemmas.{shown_here, shown_there, comes_here, may_come}
use Rattle.ist_core.proofs.AllPlaceLemmas.{both_true}
use Rattle.ist_rule.proofs.SplitLemmas.{note_spent, caller_spent, note_well_made, note_true, born_well_made, born_true, giving_well_made, giving_true, splits_note, splits_caller}
use mathlib.Core.Option as maybe

-- ---- steps that leave the word, and are events

-- the event leaves all words as they were
words_stay : (s : Table) (place : ℕ) (o : Option Touch)
    → (o ≡ Some record {
      place = place;
      found = slice_index s.words place;
      left = slice_index s.words place;
    }) ⊎ (o ≡ None)
    → touched s.words o ≡ s.words
words_stay s place o (inl e) = ap (touched s.words) e ∙ set-get_or s.words place 0
words_stay s place o (inr e) = ap (touched s.words) e

-- an event at a step that leaves the word
module _ (k : About) (s : Table) (r : Kept k s) (id : ℕ) (me : Seated) (live : me.0.who ≢ Spent)
    (mine : HasView s id me.0) (place : ℕ) (event : Event) (make : CanMake me.0 event)
    (l : LeavesAt me.0 r.log event place (slice_index s.words place)) where
  abbrev u : View
  u = logging_load me.0 r.log event

  there : Enabled (start k.start.value.items k.words) r.log event
      × ((touch_of (state_of k.start.value.items k.words r.log) event ≡ Some record {
        place = place;
        found = slice_index s.words place;
        left = slice_index s.words place;
      })
      ⊎ (touch_of (state_of k.start.value.items k.words r.log) event ≡ None))
  there = as_table k r.log s.words me.0 (r.seats id me.0 mine live)
      (λ p n. Enabled (start p n) r.log event
      × ((touch_of (state_of p n r.log) event ≡ Some record {
        place = place;
        found = slice_index s.words place;
        left = slice_index s.words place;
      })
      ⊎ (touch_of (state_of p n r.log) event ≡ None)))
      (l.enabled, l.leaves)

  abbrev logged_load : LoggedLoad me.0 event place (slice_index s.words place) u
  logged_load = let f = r.seats id me.0 mine live in record {
    before = r.log;
    later = f.later;
    view = refl;
    sound = sound_now k s r id me live mine event make there.0 s.words (me.0.loaded + 1)
        (words_stay s place _ there.1);
    stood = shown_here k s r me.0 place f;
  }

  -- a load that is this event keeps the rule
  pub stays : (tells : ℕ → Seated → Type 0)
      → ((l : LoggedLoad me.0 event place (slice_index s.words place) u) → l.before ≡ r.log
      → tells (slice_index s.words place) (u, me.1))
      → GoesAtStep k s place id me tells (slice_index s.words place)
  stays tells told = (
    u,
    keeps,
    tt,
    subst (λ ws. Kept k (record { words = ws; homes = s.homes; views = slice_set s.views id u }))
        (sym (set-get_or s.words place 0))
        (kept k s r id me live mine event make there.0 s.words (me.0.loaded + 1)
        (words_stay s place _ there.1)),
    told logged_load refl,
  )

-- a load that is an event if it is named so keeps the rule
pub loads_as_moves : (k : About) (slots id : ℕ) (me : Seated) (place : ℕ) (named : Naming)
    → me.0.who ≢ Spent → CanLoadAs me.0 place named → Allows (Kept k) slots id me place (λ n. n)
    (loads_as named (step slots place 0 0 maybe.none) me)
loads_as_moves k slots id me place named live can s r _ mine fits =
    at (named r.log (slice_index s.words place)) refl
  where
    tells : ℕ → Seated → Type 0
    tells = loads_as named (step slots place 0 0 maybe.none) me

    at : (o : Option Event) → named r.log (slice_index s.words place) ≡ o
        → GoesAtStep k s place id me tells (slice_index s.words place)
    at (Some event) e = let f = r.seats id me.0 mine live in
        let it = can.comes r.log (may_come k s r me.0 f) (slice_index s.words place)
        (shown_there k s r me.0 place f can.known) event e in
        stays k s r id me live mine place event it.0 it.1 tells
        (λ l at_log. (
          as_event event l (ap (λ log. named log (slice_index s.words place)) at_log
              ∙ e),
          refl,
        ))
    at None e = sees k s r id me place tells live mine fits (λ l. (as_load l e, refl))

-- an exchange that is an event either way keeps the rule
pub exchanges_or_loses_moves : (k : About) (slots id : ℕ) (me : Seated) (place old new : ℕ)
    (events : Event × Event) → me.0.who ≢ Spent
    → CanExchangeOrLose me.0 place old new events.0 events.1
    → Allows (Kept k) slots id me place (λ n. either (eqb n old) new n)
    (exchanges_or_loses events (step slots place old new maybe.none) me)
exchanges_or_loses_moves k slots id me place old new events live can s r _ mine fits =
    let x : ℕ = slice_index s.words place in let v = me.0 in let f = r.seats id v mine live in
    let shown = shown_there k s r v place f can.hit.known in
    let tells : ℕ → Seated → Type 0 =
    exchanges_or_loses events (step slots place old new maybe.none) me in
    exchanged x old new (λ y. GoesAtStep k s place id me tells y)
    (λ hit.
    let it = comes_here k s r v f events.0 place old new
    (can.hit.comes r.log (may_come k s r v f)
    (subst (IsShown (state_of v.start v.words r.log) place) hit shown)) in
    logs k s r id me live mine events.0 can.hit.make it.0 place old new it.1 tells
    (λ l _. (((λ _. l), (λ miss. absurd (miss hit))), refl)))
    (λ miss. stays k s r id me live mine place events.1 can.make
    (can.miss r.log (may_come k s r v f) x shown miss) tells
    (λ l at_log. (((λ hit. absurd (miss hit)), (λ _. l)), refl)))

-- a seat that made an exchange that is an event either way is sound, of the same table
pub exchanged_or_lost_sound : (v : View) (event lost : Event) (place old found : ℕ) (w : View)
    → ExchangedOrLost v event lost place old found w
    → IsSound w × (w.words ≡ v.words) × (w.table ≡ v.table)
exchanged_or_lost_sound v event lost place old found w e = ⊎_elim
    (λ hit. let l = e.0 hit.1 in (l.sound, ap (λ y. y.words) l.view, ap (λ y. y.table) l.view))
    (λ miss. let l = e.1 miss.1 in (l.sound, ap (λ y. y.words) l.view, ap (λ y. y.table) l.view))
    (eqb_tells found old)

-- a seat that made a load that may be an event stays sound
pub loaded_as_sound : (v : View) (named : Naming) (place word : ℕ) (w : View)
    → LoadedAs v named place word w → IsSound w × (w.words ≡ v.words) × (w.table ≡ v.table)
loaded_as_sound v named place word w (as_event event l e) = (l.sound, ap (λ y. y.words) l.view, ap (λ y. y.table) l.view)
loaded_as_sound v named place word w (as_load l e) = (l.sound, ap (λ y. y.words) l.view, ap (λ y. y.table) l.view)

-- ---- splitting keeps the rule in both its cases, and both seats are sound. Serves the plays.

-- ---- both cases

maker_is : (w : Who) → is_maker w ≡ true → w ≡ Maker
maker_is Maker e = refl
maker_is (Caller number) e = absurd (cc)
maker_is (Note of) e = absurd (cc)
maker_is Spent e = absurd (cc)

-- a seat that awaits another is the maker's, and entered a caller that has no seat
pub awaits_is : (v : View) → awaits_seat v ≡ true → (v.who ≡ Maker) × (v.given < v.made)
awaits_is v e = grind (arith, both_true, nat_tests, maker_is)

split_cases : (k : About) (s : Table) (r : Kept k s) (id : ℕ) (v : View) → v.who ≢ Spent
    → HasView s id v → (b : Bool) → awaits_seat v ≡ b
    → Kept k (record {
      words = s.words;
      homes = s.homes;
      views = slice_set s.views id (if b then record v { given = v.given + 1 } else v)
          ++ (if b then plain v (Caller v.given) [] else plain v (Note (noted_by v.who)) v.calls)
          ∷ [];
    })
split_cases k s r id v live mine true is = grind (arith, awaits_is, splits_caller)
split_cases k s r id v live mine false is = splits_note k s r id v live mine

-- a split keeps the rule
pub splits : (k : About) (id : ℕ) (v : View) → v.who ≢ Spent
    → Splits (Kept k) id v (split_left v) (split_right v)
splits k id v live s r mine = split_cases k s r id v live mine (awaits_seat v) refl

-- ---- what both seats know of themselves

left_cases : (v : View) → IsSound v → (b : Bool) → awaits_seat v ≡ b
    → IsSound (if b then record v { given = v.given + 1 } else v)
left_cases v s false is = s
left_cases v s true is = let t = awaits_is v is in record {
  lawful = s.lawful;
  live = s.live;
  well_made = giving_well_made v.start v.words v.log v s.well_made;
  is_true = giving_true v.start v.words v.log v s.is_true t.0 t.1;
}

-- the seat that another was split from is sound
pub left_sound : (v : View) → IsSound v → IsSound (split_left v)
left_sound v s = left_cases v s (awaits_seat v) refl

right_cases : (v : View) → IsSound v → (b : Bool) → awaits_seat v ≡ b
    → IsSound (if b then plain v (Caller v.given) [] else plain v (Note (noted_by v.who)) v.calls)
right_cases v s false is = let of = noted_by v.who in record {
  lawful = s.lawful;
  live = note_spent of;
  well_made = note_well_made v.start v.words v.log v s.well_made;
  is_true = note_true v.start v.words v.log v of;
}
right_cases v s true is = let t = awaits_is v is in record {
  lawful = s.lawful;
  live = caller_spent v.given;
  well_made = born_well_made v.start v.words v.log v s.well_made t.0;
  is_true = born_true v.start v.words v.log v s.lawful.enabled s.is_true t.0 t.1;
}

-- the seat that was split from it is sound
pub right_sound : (v : View) → IsSound v → IsSound (split_right v)
right_sound v s = right_cases v s (awaits_seat v) refl

-- the two views are of one table
abbrev pub IsOfTable : View → View → Type 0
IsOfTable w v = (w.words ≡ v.words) × (w.table ≡ v.table)

left_of : (v : View) (b : Bool) → IsOfTable (if b then record v { given = v.given + 1 } else v) v
left_of v true = (refl, refl)
left_of v false = (refl, refl)

-- a split keeps the table
pub left_table : (v : View) → IsOfTable (split_left v) v
left_table v = left_of v (awaits_seat v)

right_of : (v : View) (b : Bool)
    → IsOfTable (if b then plain v (Caller v.given) [] else plain v (Note (noted_by v.who)) v.calls) v
right_of v true = (refl, refl)
right_of v false = (refl, refl)

-- the new seat is of the same table
pub right_table : (v : View) → IsOfTable (split_right v) v
right_table v = right_of v (awaits_seat v)
