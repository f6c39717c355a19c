-- The changes that each caller made, by its returned calls and the call that it is in.
use Rattle.std.specs.Prelude.{◌≡◌, ℕ, ◌==◌, List, [], ◌∷◌, ◌++◌, map, filter, take, Option, Some}
use Rattle.ist_core.specs.declared.calls.Call.{Call}
use Rattle.ist_core.specs.Map.{Map}
use Rattle.ist_core.specs.Elements.{Each}
use Rattle.ist_core.specs.Changes.{Entry}
use Rattle.ist_core.specs.Standing.{is_change, entry_by, entries_by}
use Rattle.ist_core.specs.Histories.{told_by_entry, IsLegal}
use Rattle.laws_real_time.specs.Moments.{Moments, Begun, in_call, ended, IsWellFormed}
use Rattle.laws_real_time.specs.RealTime.{IsLinearizable}
use Rattle.laws_real_time.specs.Timing.{NumbersNeverFall, IsInTime}

-- the calls of one caller that returned, in their order
abbrev pub calls_returned : ℕ → Moments → List Call
calls_returned number moments =
    map (λ x. x.call) (filter (λ x. x.caller == number) (ended moments))

-- the changes that calls of the caller make
abbrev pub changes_by : ℕ → List Call → List Entry
changes_by number calls = map (entry_by number) (filter is_change calls)

-- the changes of the caller are those of its calls, and perhaps one more of the call that it is in,
-- with that call's command
pub data HasMadeChanges (entries : List Entry) (number : ℕ) (calls : List Call) : Option Begun → Type 0 where
  none_since : {o : Option Begun} → entries_by number entries ≡ changes_by number calls
      → HasMadeChanges entries number calls o
  one_since : {begun : Begun} (entry : Entry)
      → entries_by number entries ≡ changes_by number calls ++ entry ∷ []
      → begun.command ≡ Some entry.command
      → HasMadeChanges entries number calls (Some begun)

-- what a caller made: now, and when the call that it is in began
pub record IsAccounted (entries : List Entry) (moments : Moments) (number : ℕ) : Type 0 where
  pub made : HasMadeChanges entries number (calls_returned number moments) (in_call number moments)
  pub began : (begun : Begun) → in_call number moments ≡ Some begun
      → entries_by number (take begun.changes entries)
      ≡ changes_by number (calls_returned number moments)

-- the calls of the moments are placed in their time, and each caller's changes are accounted for
pub record AreAccounted (m : Map) (entries : List Entry) (moments : Moments) : Type 0 where
  pub well_formed : IsWellFormed moments
  pub never_fall : NumbersNeverFall moments
  pub legal : IsLegal m (map told_by_entry entries)
  pub placed : Each (IsInTime m entries) (ended moments)
  pub callers : (number : ℕ) → IsAccounted entries moments number

-- then the history is linearizable
abbrev pub MadeCallsAreLinearizable : Type 0
MadeCallsAreLinearizable =
    (m : Map) (entries : List Entry) (moments : Moments) → AreAccounted m entries moments
    → IsLinearizable m moments
