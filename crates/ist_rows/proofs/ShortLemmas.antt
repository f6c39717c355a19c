-- Too few words, seen from an earlier view or log on, and for something else that was asked for.
-- Serves the crates above.
use Rattle.std.proofs.Common.{ℕ, List, ◌≡◌, ◌≢◌, ◌<◌, ◌⊎◌, ◌==◌, not, Bool, true, false, if◌then◌else◌, [], ◌∷◌, ◌++◌, map, filter, refl, sym, ap, ◌∙◌, subst, inl, inr, ⊎_elim, append-nil, arith}
use Rattle.ist_core.specs.declared.pairs.Pair.{Pair}
use Rattle.ist_core.specs.declared.ports.Full.{Full}
use Rattle.ist_core.specs.declared.lists.HeldRow.{HeldRow}
use Rattle.ist_core.specs.declared.events.Event.{Event}
use Rattle.ist_core.specs.declared.events.Event.TheVariants.{Reserve, Install, Resolve, Root, Place, Lose}
use Rattle.ist_core.specs.declared.events.Who.TheVariants.{Caller}
use Rattle.ist_core.specs.LogTerms.{GoesOn, Log, Among, Distinct, Snapshot, bases_of, without, Enabled, EachEnabled, state_of, no_more, one_more, whose, Later}
use Rattle.ist_core.specs.WordTerms.{next_place, start}
use Rattle.ist_core.proofs.AllLogLemmas.{goes_on_more as prefix_more, rows_holder, lost_holder, held-resolved}
use Rattle.ist_rule.specs.RuleTerms.{GoesOnTo}
use Rattle.ist_rule.specs.declared.view.View.{View}
use Rattle.ist_rule.proofs.EventLemmas.{goes_on_more, looked_goes_on}
use Rattle.ist_rows.specs.RowTerms.{AreTooFew, LeavesTooFew, LeftTooFew, RanShort, held_by}
use Rattle.std.specs.List.{list_any}
use Rattle.std.proofs.lemmas.Bool.Decides.{eqb_tells}
use Rattle.std.proofs.lemmas.List.Elements.{filter-append}
use Rattle.std.proofs.lemmas.List.{map-append}
use Rattle.ist_core.proofs.AllEventLemmas.{among_bases, HeldLieApart, sound, sound_start}

-- words that are too few for one thing are too few for another for which as many were asked
few_as : {A B : ℕ → Type 0} {words : ℕ} (full : Full) → AreTooFew A words full
    → (A full.asked → B full.asked) → AreTooFew B words full
few_as full f to = record { words_is = f.words_is; small = f.small; asked = to f.asked }

-- too few words were left since one view, so they were since another from which the token came there
pub short_from : (S T : View → View → Type 0) {A B : ℕ → Type 0} (u v : View)
    → ((x : View) → S v x → T u x) → (words : ℕ) (full : Full) (w : View)
    → RanShort S A v words full w → (A full.asked → B full.asked) → RanShort T B u words full w
short_from S T u v on words full w s to = grind (arith, few_as)

-- if too few words were left after loads only, the token went on by loads
pub short_goes_on : {A : ℕ → Type 0} (v : View) (words : ℕ) (full : Full) (w : View)
    → RanShort GoesOnTo A v words full w → GoesOnTo v w
short_goes_on v words full w s =
    goes_on_more v s.before w s.seen (looked_goes_on s.before next_place full.next w s.looked)

-- too few words were left after a log for one thing, so they were for another
pub left_as : {A B : ℕ → Type 0} {pairs : List Pair} {words : ℕ} {at : Log} (full : Full)
    → LeavesTooFew A pairs words at full → (A full.asked → B full.asked)
    → LeavesTooFew B pairs words at full
left_as full l to = record { next_is = l.next_is; few = few_as full l.few to }

-- too few words were left between two logs, so they were between an earlier and a later one
pub left_between : {A B : Log → ℕ → Type 0} {pairs : List Pair} {words : ℕ} {a b c d : Log}
    → GoesOn a b → GoesOn c d → (full : Full) → LeftTooFew A pairs words b c full
    → ((at : Log) → GoesOn b at → GoesOn at c → A at full.asked → B at full.asked)
    → LeftTooFew B pairs words a d full
left_between on more full l to = grind (arith, prefix_more, left_as)

-- ---- the list of rows that one caller holds. Serves the condition `builds` of callers.

-- ---- lists

-- an element that the test keeps, before others
pub filter_here : {A : Type 0} (test : A → Bool) (x : A) (xs : List A) (b : Bool) → test x ≡ b
    → filter test (x ∷ xs) ≡ (if b then x ∷ filter test xs else filter test xs)
filter_here test x xs b e = ap (λ v. if v then x ∷ filter test xs else filter test xs) e

-- a filter that keeps all that another keeps changes nothing of it
filter_filter : {A : Type 0} (p q : A → Bool) (xs : List A)
    → ((x : A) → Among x xs → p x ≡ true → q x ≡ true) → filter p (filter q xs) ≡ filter p xs
filter_filter p q [] h = refl
filter_filter p q (x ∷ xs) h = at (filter_filter p q xs (λ y i. h y (inr i))) (p x) refl (q x) refl
  where
    at : filter p (filter q xs) ≡ filter p xs → (a : Bool) → p x ≡ a → (b : Bool) → q x ≡ b
        → filter p (filter q (x ∷ xs)) ≡ filter p (x ∷ xs)
    at rest true e true f = grind (arith, filter_here)
    at rest true e false f = absurd (cc (sym (h x (inl refl) e) ∙ f))
    at rest false e true f = grind (arith, filter_here)
    at rest false e false f = grind (arith, filter_here)

-- what is made of an element that a filter keeps was made of an element
filter_out : {A B : Type 0} (f : A → B) (p : A → Bool) (z : B) (ys : List A)
    → Among z (map f (filter p ys)) → Among z (map f ys)
filter_out f p z [] i = i
filter_out f p z (y ∷ ys) i = at (filter_out f p z ys) (p y) refl
  where
    at : (Among z (map f (filter p ys)) → Among z (map f ys)) → (b : Bool) → p y ≡ b
        → Among z (map f (y ∷ ys))
    at rest true e = grind (arith, filter_here)
    at rest false e = inr (rest (subst (λ zs. Among z (map f zs)) (filter_here p y ys false e) i))

-- a filter of a list without repetitions has no repetitions
pub distinct_filter : {A B : Type 0} (f : A → B) (p : A → Bool) (xs : List A) → Distinct (map f xs)
    → Distinct (map f (filter p xs))
distinct_filter f p [] d = tt
distinct_filter f p (x ∷ xs) d = at (distinct_filter f p xs d.1) (p x) refl
  where
    at : Distinct (map f (filter p xs)) → (b : Bool) → p x ≡ b
        → Distinct (map f (filter p (x ∷ xs)))
    at rest true e = subst (λ zs. Distinct (map f zs)) (sym (filter_here p x xs true e))
        ((λ i. d.0 (filter_out f p (f x) xs i)), rest)
    at rest false e = subst (λ zs. Distinct (map f zs)) (sym (filter_here p x xs false e)) rest

-- distinct elements with one more that is not among them
pub distinct_more : {A : Type 0} (xs : List A) (y : A) → Distinct xs → ¬ (Among y xs)
    → Distinct (xs ++ y ∷ [])
distinct_more [] y d out = ((λ i. i), tt)
distinct_more (x ∷ xs) y d out = (
  (λ i. ⊎_elim d.0 (λ e. ⊎_elim (λ same. out (inl (sym same))) (λ n. n) e) (split xs i)),
  distinct_more xs y d.1 (λ i. out (inr i)),
)
  where
    split : (zs : List _) → Among x (zs ++ y ∷ []) → Among x zs ⊎ Among x (y ∷ [])
    split [] i = inr i
    split (z ∷ zs) (inl e) = inl (inl e)
    split (z ∷ zs) (inr i) = ⊎_elim (λ a. inl (inr a)) (λ b. inr b) (split zs i)

-- ---- held rows

-- no row is held twice
pub held_distinct : (pairs : List Pair) (words : ℕ) (log : Log)
    → EachEnabled (start pairs words) log
    → Distinct (map (λ h. h.base) (state_of pairs words log).held)
held_distinct pairs words [] enabled = tt
held_distinct pairs words (event ∷ log) enabled =
    at (held_distinct pairs words log enabled.0) event enabled.1
  where
    s : HeldLieApart (state_of pairs words log)
    s = sound (start pairs words) log (sound_start pairs words) enabled.0

    P : List HeldRow → Type 0
    P held = Distinct (map (λ h. h.base) held)

    below : (held : List HeldRow) (base : ℕ) → ((h : HeldRow) → Among h held → h.base < base)
        → ¬ (Among base (map (λ h. h.base) held))
    below [] base low i = i
    below (h ∷ held) base low (inl e) = let less = low h (inl refl) in omega arith
    below (h ∷ held) base low (inr i) = below held base (λ g j. low g (inr j)) i

    at : P (state_of pairs words log).held → (e : Event) → Enabled (start pairs words) log e
        → P (state_of pairs words (e ∷ log)).held
    at before (Reserve caller base size) can =
        subst Distinct (sym (map-append (λ h. h.base) (state_of pairs words log).held
        (record { caller = caller; base = base; size = size } ∷ [])))
        (distinct_more (map (λ h. h.base) (state_of pairs words log).held) base before
        (below (state_of pairs words log).held base
        (λ h i. subst (λ n. h.base < n) (sym can.base_is) (s.held_below h i))))
    at before (Install caller change rows) can = grind (arith, distinct_filter)
    at before (Root caller rebuild word rows) can = grind (arith, distinct_filter)
    at before (Place caller rebuild i word rows) can = grind (arith, distinct_filter)
    at before (Lose caller bases) can = grind (arith, distinct_filter)
    at before (Resolve caller change) can = grind (arith, P, held-resolved)
    at before _ can = before

-- what others publish or lose is not a row of this caller
others_without : (t : Snapshot) (number : ℕ) (bases : List ℕ)
    → ((h : HeldRow) → Among h t.held → Among h.base bases → h.caller ≢ number)
    → filter (λ h. h.caller == number) (without bases t.held) ≡ held_by t number
others_without t number bases apart =
    filter_filter (λ h. h.caller == number) (λ h. not (list_any (λ base. base == h.base) bases))
    t.held (λ h i mine. at h i mine (list_any (λ base. base == h.base) bases) refl)
  where
    is_number : (h : HeldRow) → (h.caller == number) ≡ true → h.caller ≡ number
    is_number h e = ⊎_elim (λ k. k.1) (λ k. absurd (cc (sym e ∙ k.0))) (eqb_tells h.caller number)

    at : (h : HeldRow) → Among h t.held → (h.caller == number) ≡ true → (b : Bool)
        → list_any (λ base. base == h.base) bases ≡ b
        → not (list_any (λ base. base == h.base) bases) ≡ true
    at h i mine true e = absurd (apart h i (among_bases h.base bases e) (is_number h mine))
    at h i mine false e = ap not e

-- what a caller holds stays as a list, if another makes the event
pub held_by_step : (pairs : List Pair) (words : ℕ) (log : Log) (event : Event) (number : ℕ)
    → EachEnabled (start pairs words) (event ∷ log)
    → whose event ≢ Caller number → held_by (state_of pairs words (event ∷ log)) number
    ≡ held_by (state_of pairs words log) number
held_by_step pairs words log event number enabled other = at event enabled.1 other
  where
    t : Snapshot
    t = state_of pairs words log

    s : HeldLieApart (state_of pairs words log)
    s = sound (start pairs words) log (sound_start pairs words) enabled.0

    -- a caller that isn't the number's
    apart : (caller : ℕ) → Caller caller ≢ Caller number → (h : HeldRow) → h.caller ≡ caller
        → h.caller ≢ number
    apart caller differ h is same = differ (ap Caller (sym is ∙ same))

    new_row : (caller base size : ℕ) → Caller caller ≢ Caller number
        → filter (λ (h : HeldRow). h.caller == number)
        (record { caller = caller; base = base; size = size } ∷ []) ≡ []
    new_row caller base size differ = grind (arith, filter_here, eqb_tells)

    at : (e : Event) → Enabled (start pairs words) log e → whose e ≢ Caller number
        → held_by (state_of pairs words (e ∷ log)) number ≡ held_by (state_of pairs words log)
        number
    at (Reserve caller base size) can differ =
        filter-append (λ (h : HeldRow). h.caller == number) (state_of pairs words log).held
        (record { caller = caller; base = base; size = size } ∷ [])
        ∙ ap (λ xs. held_by (state_of pairs words log) number ++ xs)
        (new_row caller base size differ) ∙ append-nil (held_by (state_of pairs words log) number)
    at (Install caller change rows) can differ =
        others_without (state_of pairs words log) number (bases_of rows)
        (λ h i b. apart caller differ h
        (rows_holder (state_of pairs words log) caller rows s can.held h i b))
    at (Root caller rebuild word rows) can differ =
        others_without (state_of pairs words log) number (bases_of rows)
        (λ h i b. apart caller differ h
        (rows_holder (state_of pairs words log) caller rows s can.held h i b))
    at (Place caller rebuild part word rows) can differ =
        others_without (state_of pairs words log) number (bases_of rows)
        (λ h i b. apart caller differ h
        (rows_holder (state_of pairs words log) caller rows s can.held h i b))
    at (Lose caller bases) can differ = others_without (state_of pairs words log) number bases
        (λ h i b. apart caller differ h
        (lost_holder (state_of pairs words log) log caller bases s can h i b))
    at (Resolve caller change) can differ = grind (arith, held-resolved)
    at _ can differ = refl

-- what a caller holds stays, along a log that goes on by others
pub held_by_later : (pairs : List Pair) (words : ℕ) (number : ℕ) (old log : Log)
    → EachEnabled (start pairs words) log → Later (Caller number) old log
    → held_by (state_of pairs words log) number ≡ held_by (state_of pairs words old) number
held_by_later pairs words number old _ enabled no_more = refl
held_by_later pairs words number old _ enabled (one_more {log = log} event l other) =
    held_by_step pairs words log event number enabled other ∙ held_by_later pairs words number old
    log enabled.0 l
