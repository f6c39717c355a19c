-- There are at least as many entries of a pass as changes among its calls. Serves
-- `laws.histories_are_made_of_calls`.
use Rattle.std.proofs.Common.{◌≡◌, ℕ, zero, suc, ◌+◌, ◌≤◌, if◌then◌else◌, Bool, true, false, List, [], ◌∷◌, filter, length, slice_get, Some, refl, arith}
use Rattle.std.proofs.lemmas.Bool.Decides.{nat_tests}
use Rattle.ist_core.specs.declared.calls.Call.{Call}
use Rattle.ist_core.specs.LogTerms.{Each}
use Rattle.ist_core.specs.TreeTerms.{Entry, is_change, entry_by, entries_by, AllFollow}
use Rattle.laws_real_time.proofs.CountLemmas.{count_rises}

module _ (number : ℕ) where
  -- the call is the entry at its position, where the entries begin at this position
  pub record MadeAt (first : ℕ) (entries : List Entry) (call : Call) : Type 0 where
    pub step : ℕ
    pub position_is : call.position ≡ first + step
    pub entry_is : slice_get entries step ≡ Some (entry_by number call)

  -- ---- there is no entry of the pass without a call

  -- each changes at a higher position than those before it
  Climbs : List Call → Type 0
  Climbs [] = Unit {0}
  Climbs (call ∷ calls) = Each (λ other. call.position + 1 ≤ other.position) calls × Climbs calls

  -- placed among the later entries
  pub shift_made : (first : ℕ) (entry : Entry) (entries : List Entry) (call : Call)
      → first + 1 ≤ call.position → MadeAt first (entry ∷ entries) call
      → MadeAt (first + 1) entries call
  shift_made first entry entries call low m = grind arith

  -- what holds of calls holds of each in a weaker form
  pub each_map : (P Q : Call → Type 0) → ((call : Call) → P call → Q call) → (calls : List Call)
      → Each P calls → Each Q calls
  each_map P Q f [] h = tt
  each_map P Q f (call ∷ calls) h = (f call h.0, each_map P Q f calls h.1)

  -- calls above a call that is at a position or later are later
  above : (first : ℕ) (call : Call) → first ≤ call.position → (calls : List Call)
      → Each (λ other. call.position + 1 ≤ other.position) calls
      → Each (λ other. first + 1 ≤ other.position) calls
  above first call low calls h = grind (arith, each_map)

  -- all of them are
  shift_all : (first : ℕ) (entry : Entry) (entries : List Entry) (calls : List Call)
      → Each (λ call. first + 1 ≤ call.position) calls
      → Each (MadeAt first (entry ∷ entries)) calls → Each (MadeAt (first + 1) entries) calls
  shift_all first entry entries [] low made = tt
  shift_all first entry entries (call ∷ calls) low made = (
    shift_made first entry entries call low.0 made.0,
    shift_all first entry entries calls low.1 made.1,
  )

  -- there are at least as many entries of the pass as changes
  count_changes : (first : ℕ) (entries : List Entry) (calls : List Call) → Climbs calls
      → Each (λ call. first ≤ call.position) calls → Each (MadeAt first entries) calls
      → length calls ≤ length (entries_by number entries)
  unfolding Climbs
  count_changes first entries [] climb low made = omega arith
  count_changes first [] (call ∷ calls) climb low made = grind arith
  count_changes first (entry ∷ entries) (call ∷ calls) climb low made =
      at made.0.step made.0.position_is made.0.entry_is
      (λ k m. count_changes (first + 1) entries calls climb.1 k m)
      (λ k m. count_changes (first + 1) entries (call ∷ calls) climb k m)
    where
      at : (step : ℕ) → call.position ≡ first + step
          → slice_get (entry ∷ entries) step ≡ Some (entry_by number call)
          → (Each (λ other. first + 1 ≤ other.position) calls
          → Each (MadeAt (first + 1) entries) calls
          → length calls ≤ length (entries_by number entries))
          → (Each (λ other. first + 1 ≤ other.position) (call ∷ calls)
          → Each (MadeAt (first + 1) entries) (call ∷ calls)
          → length (call ∷ calls) ≤ length (entries_by number entries))
          → length (call ∷ calls) ≤ length (entries_by number (entry ∷ entries))
      at zero same is one both = grind (arith, nat_tests, above, shift_all)
      at (suc step) same is one both = grind (arith, above, shift_all, count_rises)

  -- ---- the changes among the calls, as such

  -- what holds of all calls holds of those that pass a test
  each_kept : (P : Call → Type 0) (p : Call → Bool) (calls : List Call) → Each P calls
      → Each P (filter p calls)
  each_kept P p [] h = tt
  each_kept P p (call ∷ calls) h = at (each_kept P p calls h.1) (p call)
    where
      at : Each P (filter p calls) → (v : Bool)
          → Each P (if v then call ∷ filter p calls else filter p calls)
      at rest true = (h.0, rest)
      at rest false = rest

  -- changes climb
  changes_climb : (calls : List Call) → AllFollow calls → Climbs (filter is_change calls)
  unfolding Climbs
  changes_climb [] order = tt
  changes_climb (call ∷ calls) order = at (changes_climb calls order.1) (is_change call) refl
    where
      at : Climbs (filter is_change calls) → (v : Bool) → is_change call ≡ v
          → Climbs (filter is_change (call ∷ calls))
      at rest false e = rw e rest
      at rest true e = grind (arith, each_map, each_kept)

  -- the changes among the calls are entries
  changes_made : (first : ℕ) (entries : List Entry) (calls : List Call)
      → Each (λ call. is_change call ≡ true → MadeAt first entries call) calls
      → Each (MadeAt first entries) (filter is_change calls)
  changes_made first entries [] h = tt
  changes_made first entries (call ∷ calls) h =
      at (changes_made first entries calls h.1) (is_change call) refl
    where
      at : Each (MadeAt first entries) (filter is_change calls) → (v : Bool) → is_change call ≡ v
          → Each (MadeAt first entries) (filter is_change (call ∷ calls))
      at rest true e = rw e (h.0 e, rest)
      at rest false e = rw e rest

  -- there are at least as many entries of the pass as changes among its calls
  pub changes_few : (first : ℕ) (entries : List Entry) (calls : List Call) → AllFollow calls
      → Each (λ call. first ≤ call.position) calls
      → Each (λ call. is_change call ≡ true → MadeAt first entries call) calls
      → length (filter is_change calls) ≤ length (entries_by number entries)
  changes_few first entries calls order low made =
      grind (arith, count_changes, changes_climb, each_kept, changes_made)
