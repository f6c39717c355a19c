-- A step that is several events of its seat, on one word: the rule is kept after each, and the
-- words after the last are what the step leaves. Serves exchanges that are several events.
use Rattle.std.proofs.Common.{◌≡◌, ◌≢◌, ℕ, zero, suc, ◌≤◌, eqb, List, [], ◌∷◌, length, slice_index, slice_set, refl, sym, ap, ◌∙◌, subst, ⊎_elim, arith}
use Rattle.std.proofs.lemmas.Bool.Decides.{eqb_tells}
use mathlib.Core.Option as maybe
use mathlib.Core.Option.{some}
use lib.ListN.{get_elem?}
use prog.Atomic.{either}
use Rattle.atomic_table.specs.Table.{step, keeps, Allows}
use Rattle.atomic_table.proofs.Lists.{exchanged}
use Rattle.ist_core.specs.declared.events.Event.{Event}
use Rattle.ist_core.specs.declared.events.Who.TheVariants.{Spent}
use Rattle.ist_core.specs.LogTerms.{Each, Log, Snapshot, EachEnabled, state_of, IsShown}
use Rattle.ist_core.specs.TreeTerms.{touched}
use Rattle.ist_rule.specs.RuleTerms.{View, About, HasView, Kept, IsSound, Seated, exchanges_all, logging, CanMake}
use Rattle.ist_rule.specs.Several.{with_events, logging_all, LoggedAll, ExchangedAll, ComeAt, CanExchangeAll}
use Rattle.ist_rule.proofs.FrameLemmas.{Table}
use Rattle.ist_rule.proofs.LookLemmas.{as_table, GoesAtStep, sees}
use Rattle.ist_rule.proofs.LogLemmas.{sound_now, kept, kept_log}
use Rattle.ist_rule.proofs.ExchangeLemmas.{shown_there, may_come}

-- ---- lists

-- what is set is there
pub here_set : {A : Type 0} (xs : List A) (i : ℕ) (a b : A) → get_elem? xs i ≡ some a
    → get_elem? (slice_set xs i b) i ≡ some b
here_set [] i a b e = absurd (cc)
here_set (x ∷ xs) zero a b e = refl
here_set (x ∷ xs) (suc i) a b e = here_set xs i a b e

-- what is set twice is set once
set_again : {A : Type 0} (xs : List A) (i : ℕ) (a b : A)
    → slice_set (slice_set xs i a) i b ≡ slice_set xs i b
set_again [] i a b = refl
set_again (x ∷ xs) zero a b = refl
set_again (x ∷ xs) (suc i) a b = ap (λ ys. x ∷ ys) (set_again xs i a b)

-- ---- several events

-- the rule is kept after all the events, and the seat is sound
kept_all : (k : About) (s : Table) (r : Kept k s) (id : ℕ) (me : Seated) → me.0.who ≢ Spent
    → HasView s id me.0 → (event : Event) (more : List Event)
    → Each (λ e. (w : View) → w.who ≡ me.0.who → CanMake w e) (event ∷ more)
    → (place found left : ℕ)
    → ComeAt k.start.value.items k.words r.log (event ∷ more) place found left
    → Kept k (record {
      words = slice_set s.words place left;
      homes = s.homes;
      views = slice_set s.views id (logging_all me.0 r.log (event ∷ more));
    })
    × IsSound (logging_all me.0 r.log (event ∷ more))
kept_all k s r id me live mine event [] make place found left come = let v = me.0 in
    let words_after = ap (touched s.words) come.2 ∙ ap (slice_set s.words place) come.3 in (
      kept k s r id me live mine event (make.0 v refl) come.0 (slice_set s.words place left)
          v.loaded words_after,
      sound_now k s r id me live mine event (make.0 v refl) come.0
          (slice_set s.words place left) v.loaded words_after,
    )
kept_all k s r id me live mine event (next ∷ rest) make place found left come = let v = me.0 in
    let words' = slice_set s.words place come.1 in let w : View = logging v r.log event in
    let s' : Table = record { words = words'; homes = s.homes; views = slice_set s.views id w } in
    let r' : Kept k s' = kept k s r id me live mine event (make.0 v refl) come.0 words' v.loaded
    (ap (touched s.words) come.2) in
    let last : View = logging_all v r.log (event ∷ next ∷ rest) in
    let log : r'.log ≡ event ∷ r.log =
    kept_log k s r id me live mine event (make.0 v refl) come.0 words' v.loaded
    (ap (touched s.words) come.2) in
    let here = kept_all k s' r' id (w, me.1) live (here_set s.views id v w mine) next rest make.1
    place come.1 left
    (subst (λ l. ComeAt k.start.value.items k.words l (next ∷ rest) place come.1 left) (sym log)
    come.3) in
    let it = subst
    (λ l. Kept k (record {
      words = slice_set words' place left;
      homes = s.homes;
      views = slice_set s'.views id (logging_all w l (next ∷ rest));
    })
    × IsSound (logging_all w l (next ∷ rest))) log here in (
      subst
          (λ ws. Kept k (record { words = ws; homes = s.homes; views = slice_set s.views id last }))
          (set_again s.words place come.1 left)
          (subst
          (λ vs. Kept k (record {
            words = slice_set words' place left;
            homes = s.homes;
            views = vs;
          }))
          (set_again s.views id w last) it.0),
      it.1,
    )

-- the events come at a step that finds their first word
logs_all : (k : About) (s : Table) (r : Kept k s) (id : ℕ) (me : Seated) → me.0.who ≢ Spent
    → HasView s id me.0 → (events : List Event) → 1 ≤ length events
    → Each (λ e. (w : View) → w.who ≡ me.0.who → CanMake w e) events → (place found left : ℕ)
    → ComeAt k.start.value.items k.words r.log events place found left
    → (tells : ℕ → Seated → Type 0)
    → (LoggedAll me.0 events (logging_all me.0 r.log events)
    → tells (slice_index s.words place) (logging_all me.0 r.log events, me.1))
    → GoesAtStep k s place id me tells left
logs_all k s r id me live mine [] one make place found left come tells told = absurd (omega arith)
logs_all k s r id me live mine (event ∷ more) one make place found left come tells told =
    let it = kept_all k s r id me live mine event more make place found left come in (
      logging_all me.0 r.log (event ∷ more),
      keeps,
      tt,
      it.0,
      told record {
        before = r.log;
        later = (r.seats id me.0 mine live).later;
        view = refl;
        sound = it.1;
      },
    )

-- an exchange that may be all the events keeps the rule
pub exchanges_all_moves : (k : About) (slots id : ℕ) (me : Seated) (place old new : ℕ)
    (events : List Event) → me.0.who ≢ Spent → CanExchangeAll me.0 place old new events
    → Allows (Kept k) slots id me place (λ n. either (eqb n old) new n)
    (exchanges_all events (step slots place old new maybe.none) me)
exchanges_all_moves k slots id me place old new events live can s r _ mine fits =
    let x : ℕ = slice_index s.words place in let v = me.0 in let f = r.seats id v mine live in
    let tells : ℕ → Seated → Type 0 =
    exchanges_all events (step slots place old new maybe.none) me in
    exchanged x old new (λ y. GoesAtStep k s place id me tells y)
    (λ hit.
    let come = as_table k r.log s.words v f (λ p n. ComeAt p n r.log events place old new)
    (can.comes r.log (may_come k s r v f)
    (subst (IsShown (state_of v.start v.words r.log) place) hit
    (shown_there k s r v place f can.known))) in
    logs_all k s r id me live mine events can.some can.make place old new come tells
    (λ l. (((λ _. l), (λ miss. absurd (miss hit))), refl)))
    (λ miss. sees k s r id me place tells live mine fits
    (λ l. (((λ hit. absurd (miss hit)), (λ _. l)), refl)))

-- the log before such events was enabled too
pub enabled_before : (first : Snapshot) (events : List Event) (log : Log)
    → EachEnabled first (with_events events log) → EachEnabled first log
enabled_before first [] log h = h
enabled_before first (event ∷ more) log h = (enabled_before first more (event ∷ log) h).0

-- a seat that made such an exchange is sound, of the same table
pub exchanged_all_sound : (v : View) (events : List Event) (place old found : ℕ) (w : View)
    → ExchangedAll v events place old found w → IsSound w × (w.words ≡ v.words) × (w.table ≡ v.table)
exchanged_all_sound v events place old found w e = ⊎_elim
    (λ hit. let l = e.0 hit.1 in
    (l.sound, ap (λ y. y.words) l.view, ap (λ y. y.table) l.view))
    (λ miss. let l = e.1 miss.1 in (l.sound, ap (λ y. y.words) l.view, ap (λ y. y.table) l.view))
    (eqb_tells found old)
