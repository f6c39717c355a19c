-- A step that changes no word: the seat sees the whole log, and takes a view that fits. Serves
-- loads and the turns of a call.
use Rattle.std.proofs.Common.{◌≢◌, ℕ, List, sym, subst, ◌≡◌, ◌^◌, ◌<◌, ◌≤◌, length, slice_index, slice_set, refl, ap, ◌∙◌, le_refl, arith}
use Rattle.ist_core.specs.declared.pairs.Pair.{Pair}
use Rattle.ist_core.specs.declared.events.Who.TheVariants.{Spent}
use Rattle.ist_core.specs.declared.loads.Load.{Load}
use Rattle.ist_core.specs.LogTerms.{Log, Lawful, Each, same_log, state_of, Later, IsShown}
use Rattle.ist_rule.specs.RuleTerms.{View, About, IsSound, Fits, Recalls, IsRetired, IsTimed, HasView, Kept, Seated, looks, seeing, Looked, Turned}
use Rattle.std.proofs.lemmas.List.{set-get_or}
use Rattle.std.proofs.lemmas.Option.{get_or_from_slice_get}
use Rattle.atomic_table.specs.Table.{step, Act, keeps, Valid, carried_after, stepped, Allows}
use Rattle.ist_core.proofs.AllLogLemmas.{image_shows, goes_on_length, goes_on_by}
use Rattle.ist_rule.proofs.FitLemmas.{each_map, well_made_on}
use Rattle.ist_rule.proofs.ViewPartLemmas.{fits_loads}
use Rattle.ist_rule.proofs.FrameLemmas.{Table, moved, timed_view, heard_same}
use Rattle.laws_real_time.specs.Moments.{Moments}
use mathlib.Core.Option as maybe

-- ---- what a seat learns of its own view if it has seen the whole log. Serves the invariant of
-- `TreeToken`.

-- what is true of the table's start and number of words is true of those of a view that fits
module _ (k : About) (log : Log) (image : List ℕ) (v : View) (f : Fits k log image v) (P : List Pair
    → ℕ → Type 0) where
  -- from the table to the view
  pub as_view : P k.start.value.items k.words → P v.start v.words
  as_view h = grind arith

  -- from the view to the table
  pub as_table : P v.start v.words → P k.start.value.items k.words
  as_table h = subst (P k.start.value.items) f.words_is (subst (λ p. P p v.words) f.start_is h)

-- a view that has seen the whole log and fits is sound
pub sound_of : (k : About) (image : List ℕ) (w : View) → Lawful k.start.value.items k.words w.log
    → w.who ≢ Spent → Fits k w.log image w → IsSound w
sound_of k image w lawful live f = grind arith

-- what to show at a step that finds a word at the place and leaves y: a new view under the rule,
-- and what it learns
abbrev pub GoesAtStep : About → Table → ℕ → ℕ → Seated → (ℕ → Seated → Type 0) → ℕ → Type 0
GoesAtStep k s place id me then y = (w : View) × (a : Act (Unit {0})) × Valid s.homes me.1 a
    × Kept k (stepped s place y id me.1 w a)
    × then (slice_index s.words place) (w, carried_after me.1 a)

-- the seat takes a view that fits, and no word changes
pub quiet : (k : About) (s : Table) (r : Kept k s) (id : ℕ) (v w : View) → HasView s id v
    → v.who ≢ Spent
    → w.who ≡ v.who → w.given ≡ v.given → w.taken ≡ v.taken → Fits k r.log s.words w
    → (moments : Moments) → IsTimed k r.log moments (slice_set s.views id w)
    → (place : ℕ)
    → Kept k (record {
      words = slice_set s.words place (slice_index s.words place);
      homes = s.homes;
      views = slice_set s.views id w;
    })
quiet k s r id v w mine live who given taken f moments timed place =
    subst (λ ws. Kept k (record { words = ws; homes = s.homes; views = slice_set s.views id w }))
    (sym (set-get_or s.words place 0))
    (moved k s r id v w s.homes mine live who
    (subst (λ n. v.given ≤ n) (sym given) (le_refl v.given)) r.log s.words r.lawful
    r.image (λ i u at alive _ g. g) f
    (subst (Each (IsRetired s)) (sym taken) (r.retired id v mine live)) moments timed)

-- ---- a load

module _ (k : About) (s : Table) (r : Kept k s) (v : View) (f : Fits k r.log s.words v) (place : ℕ)
  where
    abbrev word : ℕ
    word = slice_index s.words place

    abbrev w : View
    w = seeing v r.log place word

    -- the word at the place is the image's
    stood : (shown : ℕ) → IsShown (state_of k.start.value.items k.words r.log) place shown
        → word ≡ shown
    stood shown is = get_or_from_slice_get s.words place shown 0
        (image_shows (state_of k.start.value.items k.words r.log) s.words r.image is)

    -- the lengths of the loads are at most the log's
    lengths : (loads : List Load) → Each (Recalls k.start.value.items k.words r.log) loads
        → Each (λ l. l.length ≤ length r.log) loads
    lengths loads all = grind (arith, each_map, goes_on_length)

    fits_seeing : Fits k r.log s.words w
    fits_seeing =
        let m = well_made_on k.start.value.items k.words v r.log (goes_on_by f.later)
        f.well_made in
        fits_loads k r.log s.words v w.loads w.loaded v.searches f
        (record { prefix = r.log; goes_on = same_log; length_is = refl; stood = stood }, m.recalls)
        (m.since, lengths v.loads.list m.recalls, m.in_order) m.since

    -- what the load learns
    pub looked : v.who ≢ Spent → word < 2 ^ 64 → Looked v place word w
    looked live fits = grind (arith, sound_of, fits_seeing, stood, get_or_from_slice_get)

-- a load is allowed, and learns the word at the place
pub sees : (k : About) (s : Table) (r : Kept k s) (id : ℕ) (me : Seated) (place : ℕ) (then : ℕ
    → Seated → Type 0) → me.0.who ≢ Spent
    → HasView s id me.0 → slice_index s.words place < 2 ^ 64
    → (Looked me.0 place (slice_index s.words place)
    (seeing me.0 r.log place (slice_index s.words place))
    → then (slice_index s.words place) (seeing me.0 r.log place (slice_index s.words place), me.1))
    → GoesAtStep k s place id me then (slice_index s.words place)
sees k s r id me place then live mine fits told =
    let f = r.seats id me.0 mine live in (
      w k s r me.0 f place,
      keeps,
      tt,
      quiet k s r id me.0 (w k s r me.0 f place) mine live refl refl refl
          (fits_seeing k s r me.0 f place) r.moments
          (timed_view k r.log r.moments s.views id (w k s r me.0 f place) r.timed
          (r.timed.heard id me.0 mine live)) place,
      told (looked k s r me.0 f place live fits),
    )

-- a load keeps the rule
pub looks_moves : (k : About) (slots id : ℕ) (me : Seated) (place : ℕ) → me.0.who ≢ Spent
    → Allows (Kept k) slots id me place (λ n. n) (looks (step slots place 0 0 maybe.none) me)
looks_moves k slots id me place live s r _ mine fits =
    sees k s r id me place (looks (step slots place 0 0 maybe.none) me) live mine fits
    (λ l. (l, refl))

-- ---- a turn of a call

-- the view that the seat takes fits, whatever it then sees
pub record CanTurn (v : View) (turn : Log → View) : Type 0 where
  -- it is still the same seat's
  pub who : (log : Log) → (turn log).who ≡ v.who
  -- the number of callers that have their seats is as before
  pub given : (log : Log) → (turn log).given ≡ v.given
  -- the calls that were taken back are as before
  pub taken : (log : Log) → (turn log).taken ≡ v.taken
  -- it has seen the whole log
  pub log_is : (log : Log) → (turn log).log ≡ log
  -- it has heard of no more calls
  pub moments : (log : Log) → (turn log).moments ≡ v.moments
  -- if the view before fits the words and a lawful log, the new one does too
  pub fits : (k : About) (log : Log) (image : List ℕ) → Lawful k.start.value.items k.words log
      → Fits k log image v → Fits k log image (turn log)

-- a load that changes the view is allowed, and learns so
pub turns_moves : (k : About) (slots id : ℕ) (me : Seated) (turn : Log → View) (then : ℕ → Seated
    → Type 0) → me.0.who ≢ Spent → CanTurn me.0 turn
    → ((found : ℕ) (w : View) → Turned me.0 turn w → then found (w, me.1))
    → Allows (Kept k) slots id me 0 (λ n. n) then
turns_moves k slots id me turn then live can told s r _ mine fits = let v = me.0 in
    let f = r.seats id v mine live in let g = can.fits k r.log s.words r.lawful f in
    let w : View = turn r.log in let log : w.log ≡ r.log = can.log_is r.log in
    let lawful : Lawful k.start.value.items k.words w.log =
    subst (Lawful k.start.value.items k.words) (sym log) r.lawful in
    let alive : w.who ≢ Spent = λ e. live (sym (can.who r.log) ∙ e) in
    let sound : IsSound w = sound_of k s.words w lawful alive
    (subst (λ l. Fits k l s.words w) (sym log) g) in (
      w,
      keeps,
      tt,
      quiet k s r id v w mine live (can.who r.log) (can.given r.log) (can.taken r.log) g r.moments
          (timed_view k r.log r.moments s.views id w r.timed
          (heard_same r.moments v w (can.who r.log) (can.moments r.log) (can.given r.log)
          (can.taken r.log) (r.timed.heard id v mine live))) 0,
      told (slice_index s.words 0) w record {
        later = subst (Later v.who v.log) (sym log) f.later;
        view = ap turn (sym log);
        sound = sound;
      },
    )
