-- Exchanges and adds: each is its event, or a load if it doesn't find its word. Serves the steps
-- `exchange_as` and `add_as`.
use Rattle.std.proofs.Common.{◌≡◌, ◌≢◌, ℕ, ◌+◌, ◌%◌, ◌^◌, eqb, slice_index, Some, refl, sym, ap, subst, ⊎_elim, [], ◌++◌, ◌∙◌, append_assoc, ◌<◌, arith}
use Rattle.std.proofs.Math.Nat.{mod-eq_of_lt}
use Rattle.std.proofs.lemmas.Bool.Decides.{eqb_tells}
use Rattle.std.proofs.lemmas.Option.{get_or_from_slice_get}
use prog.Atomic.{either}
use Rattle.atomic_table.specs.Table.{step, Allows}
use Rattle.atomic_table.proofs.Lists.{exchanged}
use Rattle.ist_core.specs.declared.events.Event.{Event}
use Rattle.ist_core.specs.declared.events.Who.TheVariants.{Spent}
use Rattle.ist_core.specs.WordTerms.{start, words_of, size_of}
use Rattle.ist_core.specs.TreeTerms.{touch_of}
use Rattle.ist_core.specs.LogTerms.{Enabled, Lawful, state_of, IsShown, no_more, shown_next, shown_callers, shown_status, shown_slot, shown_row, shown_free}
use Rattle.ist_rule.specs.RuleTerms.{View, About, Fits, Kept, IsSound, Seated, adds, exchanges, seeing, logging, LoggedAdd, Exchanged, MayCome, ComesAt, IsKnown, CanExchange, CanAdd, GoesOnTo, Looked, Logged, LoggedLoad, Naming, LoadedAs, as_event, as_load, KeepsSearch, now}
use Rattle.ist_core.proofs.AllLogLemmas.{image_shows, next_within, words_same}
use Rattle.ist_rule.proofs.FrameLemmas.{Table}
use Rattle.ist_rule.proofs.LookLemmas.{as_view, as_table, GoesAtStep, sees}
use Rattle.ist_rule.proofs.LogLemmas.{logs}
use Rattle.ist_rule.proofs.EventLemmas.{looked_goes_on}
use Rattle.ist_core.proofs.AllPlaceLemmas.{get_below, placed, claimed_within}
use mathlib.Core.Option as maybe

-- what the image shows at a place is the word there
pub shown_here : (k : About) (s : Table) (r : Kept k s) (v : View) (place : ℕ)
    → Fits k r.log s.words v → (shown : ℕ)
    → IsShown (state_of v.start v.words r.log) place shown → slice_index s.words place ≡ shown
shown_here k s r v place f = as_view k r.log s.words v f
    (λ p n. (shown : ℕ) → IsShown (state_of p n r.log) place shown
    → slice_index s.words place ≡ shown)
    (λ shown is. get_or_from_slice_get s.words place shown 0
    (image_shows (state_of k.start.value.items k.words r.log) s.words r.image is))

-- the word at a known place is what the image shows there
pub shown_there : (k : About) (s : Table) (r : Kept k s) (v : View) (place : ℕ) → Fits k r.log s.words v
    → IsKnown v place → IsShown (state_of v.start v.words r.log) place (slice_index s.words place)
shown_there k s r v place f known =
    let it = known r.log record {
      later = f.later;
      lawful = as_view k r.log s.words v f (λ p n. Lawful p n r.log) r.lawful;
    } in
    subst (IsShown (state_of v.start v.words r.log) place)
    (sym (shown_here k s r v place f it.0 it.1)) it.1

-- the event is enabled after the longest log
pub comes_here : (k : About) (s : Table) (r : Kept k s) (v : View) (f : Fits k r.log s.words v)
    (event : Event) (place found left : ℕ)
    → ComesAt v r.log event place found left
    → Enabled (start k.start.value.items k.words) r.log event
    × (touch_of (state_of k.start.value.items k.words r.log) event ≡ Some record {
      place = place;
      found = found;
      left = left;
    })
comes_here k s r v f event place found left c = grind (arith, as_table)

-- the longest log may come
pub may_come : (k : About) (s : Table) (r : Kept k s) (v : View) → Fits k r.log s.words v
    → MayCome v r.log
may_come k s r v f = grind (arith, as_view)

-- an exchange is its event if it finds the word, and a load if it doesn't
pub exchange_moves : (k : About) (slots id : ℕ) (me : Seated) (place old new : ℕ) (event : Event)
    (then : ℕ → Seated → Type 0) → me.0.who ≢ Spent → CanExchange me.0 place old new event
    → ((found : ℕ) (w : View) → Exchanged me.0 event place old found w → then found (w, me.1))
    → Allows (Kept k) slots id me place (λ n. either (eqb n old) new n) then
exchange_moves k slots id me place old new event then live can told s r _ mine fits =
    let x : ℕ = slice_index s.words place in let v = me.0 in let f = r.seats id v mine live in
    exchanged x old new (λ y. GoesAtStep k s place id me then y)
    (λ hit.
    let it = comes_here k s r v f event place old new
    (can.comes r.log (may_come k s r v f)
    (subst (IsShown (state_of v.start v.words r.log) place) hit
    (shown_there k s r v place f can.known))) in
    logs k s r id me live mine event can.make it.0 place old new it.1 then
    (λ l _. told x (logging v r.log event) ((λ _. l), (λ miss. absurd (miss hit)))))
    (λ miss. sees k s r id me place then live mine fits
    (λ l. told x (seeing v r.log place x) ((λ hit. absurd (miss hit)), (λ _. l))))

-- an add is the event that is named for the word that it finds
pub add_moves : (k : About) (slots id : ℕ) (me : Seated) (place : ℕ) (named : ℕ → Event) (then : ℕ
    → Seated → Type 0)
    → me.0.who ≢ Spent → CanAdd me.0 place named
    → ((found : ℕ) (w : View) → LoggedAdd me.0 named place found w → then found (w, me.1))
    → Allows (Kept k) slots id me place (λ n. (n + 1) % 2 ^ 64) then
add_moves k slots id me place named then live can told s r _ mine fits =
    let x : ℕ = slice_index s.words place in let v = me.0 in let f = r.seats id v mine live in
    let shows = shown_there k s r v place f can.known in
    let it = comes_here k s r v f (named x) place x (x + 1)
    (can.comes r.log (may_come k s r v f) x shows) in
    subst (λ y. GoesAtStep k s place id me then y)
    (sym (mod-eq_of_lt (can.fits r.log (may_come k s r v f) x shows)))
    (logs k s r id me live mine (named x) (can.make x) it.0 place x (x + 1) it.1 then
    (λ l at_log. told x (logging v r.log (named x)) record {
      logged = l;
      stood = subst (λ log. (shown : ℕ) → IsShown (state_of v.start v.words log) place shown
          → x ≡ shown) (sym at_log) (shown_here k s r v place f);
    }))

-- an add that may be made keeps the rule
pub adds_moves : (k : About) (slots id : ℕ) (me : Seated) (place : ℕ) (named : ℕ → Event)
    → me.0.who ≢ Spent → CanAdd me.0 place named
    → Allows (Kept k) slots id me place (λ n. (n + 1) % 2 ^ 64)
    (adds named (step slots place 1 0 maybe.none) me)
adds_moves k slots id me place named live can =
    add_moves k slots id me place named (adds named (step slots place 1 0 maybe.none) me) live can
    (λ found w l. (l, refl))

-- an exchange that may be made keeps the rule
pub exchanges_moves : (k : About) (slots id : ℕ) (me : Seated) (place old new : ℕ) (event : Event)
    → me.0.who ≢ Spent → CanExchange me.0 place old new event
    → Allows (Kept k) slots id me place (λ n. either (eqb n old) new n)
    (exchanges event (step slots place old new maybe.none) me)
exchanges_moves k slots id me place old new event live can =
    exchange_moves k slots id me place old new event
    (exchanges event (step slots place old new maybe.none) me) live can (λ found w l. (l, refl))

-- a seat that made an exchange is sound, of the same table
pub exchanged_sound : (v : View) (event : Event) (place old found : ℕ) (w : View)
    → Exchanged v event place old found w → IsSound w × (w.words ≡ v.words) × (w.table ≡ v.table)
exchanged_sound v event place old found w e = ⊎_elim
    (λ hit. let l = e.0 hit.1 in (l.sound, ap (λ y. y.words) l.view, ap (λ y. y.table) l.view))
    (λ miss. let l = e.1 miss.1 in (l.sound, ap (λ y. y.words) l.view, ap (λ y. y.table) l.view))
    (eqb_tells found old)

-- ---- seats that store nothing and begin no search. Serves the crates above.

-- a seat that made loads keeps its search
pub goes_on_keeps : (v w : View) → GoesOnTo v w → KeepsSearch v w
goes_on_keeps v w g = grind arith

-- a seat that made one load keeps its search
pub looked_keeps : (v : View) (place word : ℕ) (w : View) → Looked v place word w → KeepsSearch v w
looked_keeps v place word w l = goes_on_keeps v w (looked_goes_on v place word w l)

-- a seat that made an event keeps its search
pub logged_keeps : (v : View) (event : Event) (w : View) → Logged v event w → KeepsSearch v w
logged_keeps v event w l = grind arith

-- a seat that made a load which is an event keeps its search
pub logged_load_keeps : (v : View) (event : Event) (place word : ℕ) (w : View)
    → LoggedLoad v event place word w → KeepsSearch v w
logged_load_keeps v event place word w l = grind arith

-- a seat that made an exchange keeps its search
pub exchanged_keeps : (v : View) (event : Event) (place old found : ℕ) (w : View)
    → Exchanged v event place old found w → KeepsSearch v w
exchanged_keeps v event place old found w e =
    ⊎_elim (λ k. logged_keeps v event w (e.0 k.1)) (λ k. looked_keeps v place found w (e.1 k.1))
    (eqb_tells found old)

-- a seat that made a load which may be an event keeps its search
pub loaded_as_keeps : (v : View) (named : Naming) (place word : ℕ) (w : View)
    → LoadedAs v named place word w → KeepsSearch v w
loaded_as_keeps v named place word w (as_event event l is) = grind (arith, logged_load_keeps)
loaded_as_keeps v named place word w (as_load l none) = looked_keeps v place word w l

-- one that does nothing keeps it
pub keeps_same : (v : View) → KeepsSearch v v
keeps_same v = record { own = refl; since = refl; more = []; loads = refl }

-- keeping it twice
pub keeps_more : (u v w : View) → KeepsSearch u v → KeepsSearch v w → KeepsSearch u w
keeps_more u v w a b = record {
  own = b.own ∙ a.own;
  since = b.since ∙ a.since;
  more = b.more ++ a.more;
  loads = b.loads ∙ ap (λ xs. b.more ++ xs) a.loads ∙ sym (append_assoc b.more a.more u.loads.list);
}

-- ---- a place whose word all know lies in the table. Serves `watching`.

-- a place that is known lies within the table
pub known_low : (v : View) (place : ℕ) → IsSound v → IsKnown v place → place < v.words
known_low v place s known = let it = known v.log record { later = no_more; lawful = s.lawful } in
    at place it.0 it.1
  where
    at : (q word : ℕ) → IsShown (now v) q word → q < v.words
    at _ _ shown_next = let room = s.lawful.opens.room in omega arith
    at _ _ shown_callers = let room = s.lawful.opens.room in omega arith
    at _ _ shown_status = let room = s.lawful.opens.room in omega arith
    at _ _ shown_slot = let room = s.lawful.opens.room in omega arith
    at _ word (shown_row base p k there got) =
        let high = (claimed_within v.start v.words v.log base (size_of p) s.lawful.enabled
        ((placed v.start v.words v.log s.lawful.enabled).published base p
        there)).below_next in
        let less = get_below (words_of p) k word got in
        let low = next_within v.start v.words s.lawful.opens v.log s.lawful.enabled in
        let all = words_same v.start v.words s.lawful.opens v.log in omega arith
    at _ _ (shown_free far in_it) = grind (arith, words_same)
