-- Steps that take few words, or none, or for which too few are left. Serves the crates above.
use Rattle.std.proofs.lemmas.Bool.{ne_eqb}
use Rattle.std.proofs.Common.{◌≡◌, ◌≢◌, ℕ, ◌+◌, ◌≤◌, Bool, if◌then◌else◌, ◌∷◌, refl, ap, ◌∙◌, subst, inl, inr, arith, ◌<◌, List, [], Result, sym}
use Rattle.ist_core.specs.declared.events.Event.{Event}
use Rattle.ist_core.specs.declared.events.Event.TheVariants.{Reserve}
use Rattle.ist_core.specs.declared.events.Who.TheVariants.{Caller as CallerOf}
use Rattle.ist_core.specs.declared.ports.Full.{Full}
use Rattle.ist_core.specs.LogTerms.{Later, LaterBy, no_more, one_more, whose, GoesOn, Log, one_event, same_log, spent}
use Rattle.ist_rule.specs.RuleTerms.{WentOn, TokenFace, GoesOnTo, Logged, LoggedLoad, Looked}
use Rattle.ist_rule.specs.declared.view.View.{View}
use Rattle.ist_rule.proofs.EventLemmas.{goes_on_who, looked_goes_on}
use Rattle.ist_rule.proofs.LaterLemmas.{later_more}
use Rattle.ist_rows.specs.RowTerms.{KeepsRows, Reserved, taken_at, taken_by, Caller, HasNoRoom, ReservedAll, reservings, IsCaller, IsFull, HasRunOut, HasTakenFew, HasTakenFewIn, TakesNoWords, IsLaterCaller, RanOut, took_few}
use Rattle.ist_rows.proofs.CallerGoingLemmas.{base_same}
use Rattle.std.specs.List.{sum}
use Rattle.std.proofs.lemmas.List.Sums.{sum_by-cons}
use Rattle.ist_core.specs.WordTerms.{next_place}
use Rattle.ist_core.proofs.AllLogLemmas.{goes_on_by, words_are_spent}
use Rattle.ist_rule.specs.Several.{with_events}
use Rattle.ist_rule.proofs.WentOnLemmas.{goes_on_went}
use Rattle.ist_rows.proofs.ReserveLemmas.{looked_next}
use Rattle.ist_rows.proofs.FewLemmas.{later_went, later_twice, few_more, few_then}

-- ---- what a caller has taken as its log goes on. Serves the crates above.

-- ---- one event

-- an event of another takes no word for the caller
pub other_takes : (number : ℕ) (event : Event) → whose event ≢ CallerOf number
    → taken_at number event ≡ 0
other_takes number (Reserve caller base size) other = grind (arith, ne_eqb)
other_takes number _ other = refl

-- nor does one that reserves nothing
pub keeps_takes : (number : ℕ) (event : Event) → KeepsRows event → taken_at number event ≡ 0
keeps_takes number (Reserve caller base size) keeps = absurd keeps
keeps_takes number _ keeps = refl

-- a reserving of the caller takes its words
pub own_takes : (number base size : ℕ) → taken_at number (Reserve number base size) ≡ size
own_takes number base size = ap (λ (b : Bool). if b then size else 0) (base_same number)

-- ---- logs

-- what the caller took only grows
pub taken_grows : (number : ℕ) {a b : Log} → GoesOn a b → taken_by number a ≤ taken_by number b
taken_grows number same_log = omega arith
taken_grows number (one_event event g) = let before = taken_grows number g in omega arith

-- by events of others it took none
pub taken_later : (number : ℕ) {a b : Log} → Later (CallerOf number) a b
    → taken_by number b ≡ taken_by number a
taken_later number no_more = refl
taken_later number (one_more event l other) = let before = taken_later number l in
    let none = other_takes number event other in omega arith

-- nor by events that reserve nothing
pub taken_keeps : {P : Event → Type 0} (number : ℕ)
    → ((event : Event) → P event → KeepsRows event) → {a b : Log} → LaterBy (CallerOf number) P a b
    → taken_by number b ≡ taken_by number a
taken_keeps number all no_more = refl
taken_keeps number all (one_more event l (inl other)) = let before = taken_keeps number all l in
    let none = other_takes number event other in omega arith
taken_keeps number all (one_more event l (inr is)) = let before = taken_keeps number all l in
    let none = keeps_takes number event (all event is) in omega arith

-- by the reserving of a row it took the row's words
pub taken_reserved : (v : View) (number base size : ℕ) (w : View) → v.who ≡ CallerOf number
    → Reserved v number base size w → taken_by number w.log ≡ taken_by number v.log + size
taken_reserved v number base size w mine r =
    grind (arith, later_more, goes_on_who, taken_later, own_takes)

-- ---- steps that take none

-- then all that the caller may take is left
pub few_none : (n : ℕ) (old new : Caller) → TakesNoWords old new → HasTakenFew n n old new
few_none n old new h = let none = h.none in took_few (omega arith)

-- and none of it is too many
pub few_any : (n : ℕ) (old new : Caller) → TakesNoWords old new → HasTakenFew n 0 old new
few_any n old new h = let none = h.none in took_few (omega arith)

-- nothing was done
pub few_same : (n : ℕ) (who : Caller) → HasTakenFew n n who who
few_same n who = took_few (omega arith)

-- after other steps as few words were taken
pub few_kept : (n left : ℕ) (old mid new : Caller) → IsLaterCaller old mid → TakesNoWords mid new
    → HasTakenFew n left old mid → HasTakenFew n left old new
few_kept n left old mid new a h f =
    few_more old mid new a h.later n left left f (few_none left mid new h)

-- before a call too
pub few_call : {A : Type 0} (r : Result A Full) (n left : ℕ) (old mid new : Caller)
    → TakesNoWords old mid → IsLaterCaller mid new → HasTakenFewIn r n left mid new
    → HasTakenFewIn r n left old new
few_call r n left old mid new h b f = grind (arith, few_then, few_none)

-- twice
pub none_more : (old mid new : Caller) → TakesNoWords old mid → TakesNoWords mid new
    → TakesNoWords old new
none_more old mid new a b = grind (arith, later_twice)

-- nothing was done
pub none_same : (who : Caller) → TakesNoWords who who
none_same who = record {
  later = record { number = refl; start = refl; words = refl; on = same_log };
  none = refl;
}

-- by events that reserve nothing
pub none_kept : (P : Event → Type 0) → ((event : Event) → P event → KeepsRows event)
    → (old new : Caller) → new.number ≡ old.number → old.token.view.who ≡ CallerOf old.number
    → WentOn P old.token.view new.token.view → TakesNoWords old new
none_kept P keeps old new number mine went = grind (arith, later_went, taken_keeps)

-- by loads
pub none_seen : (old new : Caller) → new.number ≡ old.number
    → old.token.view.who ≡ CallerOf old.number → GoesOnTo old.token.view new.token.view
    → TakesNoWords old new
none_seen old new number mine g = none_kept (λ event. ⊥) (λ event is. absurd is) old new number mine
    (goes_on_went (λ event. ⊥) old.token.view new.token.view g)

-- by loads of its token
pub none_loads : (who : Caller) (token : TokenFace) → who.token.view.who ≡ CallerOf who.number
    → GoesOnTo who.token.view token.view → TakesNoWords who (record who { token = token })
none_loads who token mine g = none_seen who (record who { token = token }) refl mine g

module _ (who : Caller) (token : TokenFace) (mine : who.token.view.who ≡ CallerOf who.number)
    (event : Event) where
  by_event : taken_at who.number event ≡ 0 → (before : Log)
      → Later who.token.view.who who.token.view.log before
      → token.view.log ≡ event ∷ before → token.view.start ≡ who.token.view.start
      → token.view.words ≡ who.token.view.words → TakesNoWords who (record who { token = token })
  by_event nothing before later log_is start_is words_is =
      let others = taken_later who.number
      (subst (λ x. Later x who.token.view.log before) mine later) in
      let all = ap (taken_by who.number) log_is in record {
        later = record {
          number = refl;
          start = start_is;
          words = words_is;
          on = subst (GoesOn who.token.view.log) (sym log_is) (one_event event (goes_on_by later));
        };
        none = omega arith;
      }

  -- by an event that reserves nothing
  pub none_logged : Logged who.token.view event token.view → taken_at who.number event ≡ 0
      → TakesNoWords who (record who { token = token })
  none_logged l nothing = grind (arith, by_event)

  -- by one that came at a load
  pub none_logged_load : (place word : ℕ) → LoggedLoad who.token.view event place word token.view
      → taken_at who.number event ≡ 0 → TakesNoWords who (record who { token = token })
  none_logged_load place word l nothing = grind (arith, by_event)

-- ---- reservings

-- the words of a row
pub few_reserved : (old new : Caller) → IsCaller old → (base size : ℕ)
    → Reserved old.token.view old.number base size new.token.view → HasTakenFew size 0 old new
few_reserved old new c base size r =
    let is = taken_reserved old.token.view old.number base size new.token.view c.mine r in
    took_few (omega arith)

-- the words of several rows
taken_all : (number base : ℕ) (sizes : List ℕ) (log : Log)
    → taken_by number (with_events (reservings number base sizes) log)
    ≡ taken_by number log + sum sizes
taken_all number base [] log = let h : taken_by number log ≡ taken_by number log + 0 = omega arith in h
taken_all number base (size ∷ more) log =
    let rest = taken_all number (base + size) more (Reserve number base size ∷ log) in
    let here = own_takes number base size in
    let all : sum (size ∷ more) ≡ size + sum more = sum_by-cons (λ x. x) size more in omega arith

pub few_reserved_all : (old new : Caller) → IsCaller old → (base : ℕ) (sizes : List ℕ)
    → ReservedAll old.token.view old.number base sizes new.token.view
    → HasTakenFew (sum sizes) 0 old new
few_reserved_all old new c base sizes r =
    grind (arith, later_more, goes_on_who, taken_later, taken_all)

-- ---- refusals

-- a load of the first free word that left too few words
looked_out : (who : Caller) → IsCaller who → (u : View) (next asked : ℕ) (w : View)
    → GoesOnTo who.token.view u → Looked u next_place next w → who.token.view.words < next + asked
    → RanOut who.number asked who.token.view.words who.token.view.start who.token.view.log w.log
looked_out who c u next asked w g looked small = let v = who.token.view in
    let to = looked_goes_on u next_place next w looked in
    let later = later_more g.later (subst (λ x. Later x u.log w.log) (goes_on_who g) to.later) in
    let none = taken_later who.number (subst (λ x. Later x v.log w.log) c.mine later) in
    let start_is : w.start ≡ v.start = ap (λ x. x.start) to.same ∙ ap (λ x. x.start) g.same in
    let next_is : next ≡ spent v.start w.log =
    looked_next u next w looked ∙ words_are_spent w.start w.words w.log to.sound.lawful
    ∙ ap (λ p. spent p w.log) start_is in (
      record { next = next; asked = asked; words = v.words },
      record {
        at = w.log;
        since = goes_on_by later;
        until = same_log;
        left = record {
          next_is = next_is;
          few = record { words_is = refl; small = small; asked = omega arith };
        };
      },
    )

-- a reserving that was refused
pub full_out : (old new : Caller) → IsCaller old → (words size : ℕ) (full : Full)
    → words ≡ old.token.view.words → IsFull old.token.view words size full new.token.view
    → HasRunOut size old new
full_out old new c words size full words_is f = let small = f.few.small in
    let asked = f.few.asked in
    looked_out old c f.before full.next size new.token.view f.seen f.looked (omega arith)

-- one of several rows
pub no_room_out : (old new : Caller) → IsCaller old → (words asked : ℕ)
    → words ≡ old.token.view.words → HasNoRoom old.token.view words asked new.token.view
    → HasRunOut asked old new
no_room_out old new c words asked words_is h = full_out old new c words asked h.0 words_is h.1
