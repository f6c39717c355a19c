-- How many changes of the map there were at each moment. Serves linearizability.
-- how many changes there were at a time
use Rattle.std.proofs.Common.{◌≡◌, ◌≢◌, ◌⊎◌, ℕ, ◌<◌, ◌≤◌, ◌==◌, Bool, true, false, if◌then◌else◌, [], ◌∷◌, length, refl, inl, inr, arith, suc, ◌+◌, not, List, filter, slice_get, Some, None, sym, ap, subst, ⊎_elim}
use Rattle.std.proofs.lemmas.Bool.Decides.{eqb_tells}
use Rattle.ist_core.specs.LogTerms.{Each, Among}
use Rattle.laws_real_time.specs.declared.moments.Moment.{Moment}
use Rattle.laws_real_time.specs.Moments.{Moments, Ended, ended}
use Rattle.laws_real_time.specs.Timing.{NumbersNeverFall, IsInTime, IsOfEnded, IsOfBegun, AreInTime}
use Rattle.ist_core.specs.TreeTerms.{Map, Entry, is_change, entry_by}
use Rattle.ist_core.proofs.AllWordLemmas.{each-among, among-filter}
use Rattle.laws_real_time.specs.RealTime.{TimedCall, timed}
use Rattle.laws_real_time.proofs.WeaveLemmas.{AllOwn}
use Rattle.laws_real_time.proofs.ReplyLemmas.{AreTold}
use Rattle.std.proofs.lemmas.Bool.{not-true}

abbrev pub changes_at : Moments → ℕ → ℕ
changes_at [] time = 0
changes_at (moment ∷ moments) time =
    if time == length moments then moment.changes else changes_at moments time

-- at the last moment
pub changes_here : (moment : Moment) (moments : Moments) (time : ℕ) → time ≡ length moments
    → changes_at (moment ∷ moments) time ≡ moment.changes
changes_here moment moments time e = grind (arith, eqb_tells)

-- at an earlier one
pub changes_before : (moment : Moment) (moments : Moments) (time : ℕ) → time < length moments
    → changes_at (moment ∷ moments) time ≡ changes_at moments time
changes_before moment moments time e = grind (arith, eqb_tells)

-- no moment has more changes than a bound of all
pub changes_low : (bound : ℕ) (moments : Moments) → Each (λ m. m.changes ≤ bound) moments
    → (time : ℕ) → changes_at moments time ≤ bound
changes_low bound [] h time = omega arith
changes_low bound (moment ∷ moments) h time =
    at (changes_low bound moments h.1 time) (time == length moments)
  where
    at : changes_at moments time ≤ bound → (b : Bool)
        → (if b then moment.changes else changes_at moments time) ≤ bound
    at rest true = h.0
    at rest false = rest

-- the numbers rise with time
pub changes_rise : (moments : Moments) → NumbersNeverFall moments → (early late : ℕ) → early ≤ late
    → late < length moments → changes_at moments early ≤ changes_at moments late
changes_rise [] h early late e l = absurd (omega arith)
changes_rise (moment ∷ moments) h early late e l =
    at (changes_rise moments h.1 early late) (eqb_tells late (length moments)) (eqb_tells early (length moments))
  where
    at : (early ≤ late → late < length moments → changes_at moments early ≤ changes_at moments late)
        → (((late == length moments) ≡ true) × (late ≡ length moments)) ⊎ (((late == length moments) ≡ false) × (late ≢ length moments))
        → (((early == length moments) ≡ true) × (early ≡ length moments)) ⊎ (((early == length moments) ≡ false) × (early ≢ length moments))
        → changes_at (moment ∷ moments) early ≤ changes_at (moment ∷ moments) late
    at again (inl s) (inl t) = grind (arith, changes_here)
    at again (inl s) (inr t) = let late_is = s.1 in let apart = t.1 in
        let older : early < length moments = omega arith in
        let a = changes_here moment moments late s.1 in
        let b = changes_before moment moments early older in
        let c = changes_low moment.changes moments h.0 early in omega arith
    at again (inr s) t = grind (arith, changes_before)

-- ---- which call made a change of the map, and which calls changed nothing. Serves
-- `laws.placed_calls_are_linearizable`.
-- the calls that returned and changed nothing, in the order of their returns

abbrev pub readings : Moments → List Ended
readings moments = filter (λ x. not (is_change x.call)) (ended moments)

module _ (m : Map) (entries : List Entry) (moments : Moments)
    (all : AreInTime m entries moments) where
  -- ---- which call owns a change

  -- a change of a returned call
  pub record IsByEnded (position : ℕ) (t : TimedCall) : Type 0 where
    pub call : Ended
    pub among : Among call (ended moments)
    pub change : is_change call.call ≡ true
    pub position_is : call.call.position ≡ position
    pub is : t ≡ timed call

  -- a change of a call in progress
  pub record IsByBegun (position : ℕ) (entry : Entry) (t : TimedCall) : Type 0 where
    pub of : IsOfBegun moments position entry
    pub is : t ≡ record {
      caller = entry.owner;
      command = entry.command;
      reply = entry.reply;
      began = of.begun.time;
      returned = None;
    }

  -- the call made the change at the position
  pub record OwnsChange (position : ℕ) (t : TimedCall) : Type 0 where
    pub entry : Entry
    pub at : slice_get entries position ≡ Some entry
    pub command : t.command ≡ entry.command
    pub reply : t.reply ≡ entry.reply
    pub by : IsByEnded position t ⊎ IsByBegun position entry t

  -- what holds of a returned call
  pub placed_of : (x : Ended) → Among x (ended moments) → IsInTime m entries x
  placed_of x i = each-among (IsInTime m entries) x (ended moments) all.placed i

  -- each change has its call
  owner_of : (position : ℕ) (entry : Entry) → slice_get entries position ≡ Some entry
      → (t : TimedCall) × OwnsChange position t × (t.command ≡ entry.command) × (t.reply ≡ entry.reply)
  owner_of position entry at = ⊎_elim returned progress (all.owned position entry at)
    where
      Found : Type 0
      Found = (t : TimedCall) × OwnsChange position t × (t.command ≡ entry.command)
          × (t.reply ≡ entry.reply)

      returned : IsOfEnded moments position
          → (t : TimedCall) × OwnsChange position t × (t.command ≡ entry.command)
          × (t.reply ≡ entry.reply)
      returned o = let x = o.call in let made = (placed_of x o.among).made o.change in
          let same : entry ≡ entry_by x.caller x.call =
          cc (subst (λ p. slice_get entries p ≡ Some (entry_by x.caller x.call)) o.position_is made) in
          let command : x.call.command ≡ entry.command = ap (λ (e : Entry). e.command) (sym same) in
          let reply : x.call.reply ≡ entry.reply = ap (λ (e : Entry). e.reply) (sym same) in (
            timed x,
            record {
              entry = entry;
              at = at;
              command = command;
              reply = reply;
              by = inl record {
                call = x;
                among = o.among;
                change = o.change;
                position_is = o.position_is;
                is = refl;
              };
            },
            command,
            reply,
          )

      progress : IsOfBegun moments position entry
          → (t : TimedCall) × OwnsChange position t × (t.command ≡ entry.command)
          × (t.reply ≡ entry.reply)
      progress o = (
        record {
          caller = entry.owner;
          command = entry.command;
          reply = entry.reply;
          began = o.begun.time;
          returned = None;
        },
        record {
          entry = entry;
          at = at;
          command = refl;
          reply = refl;
          by = inr record { of = o; is = refl };
        },
        refl,
        refl,
      )

  -- the calls of all changes from a position on
  pub record HasOwners (position : ℕ) (rest : List Entry) : Type 0 where
    pub calls : List TimedCall
    pub own : AllOwn OwnsChange (readings moments) position calls
    pub told : AreTold rest calls
    pub long : length calls ≡ length rest

  owners_of : (position : ℕ) (rest : List Entry)
      → ((i : ℕ) (entry : Entry) → slice_get rest i ≡ Some entry
      → slice_get entries (position + i) ≡ Some entry)
      → HasOwners position rest
  owners_of position [] on = record { calls = []; own = tt; told = tt; long = refl }
  owners_of position (entry ∷ rest) on = let zeroth : position + 0 ≡ position = omega arith in
      let one =
      owner_of position entry
      (subst (λ p. slice_get entries p ≡ Some entry) zeroth (on 0 entry refl)) in
      let more =
      owners_of (position + 1) rest
      (λ i e h. (let next : position + suc i ≡ (position + 1) + i = omega arith in
      subst (λ p. slice_get entries p ≡ Some e) next (on (suc i) e h))) in
      record {
        calls = one.0 ∷ more.calls;
        own = (one.1, more.own);
        told = (one.2, one.3, more.told);
        long = omega (arith, more.long);
      }

  pub the_owners : HasOwners 0 entries
  the_owners = grind (arith, owners_of)

  -- ---- what a reading has

  pub record IsReadingCall (x : Ended) : Type 0 where
    pub among : Among x (ended moments)
    pub plain : is_change x.call ≡ false

  pub reading_of : (x : Ended) → Among x (readings moments) → IsReadingCall x
  reading_of x i = grind (arith, among-filter, not-true)
