-- Calls that are placed in their time, among the changes of the map.
use Rattle.std.specs.Prelude.{◌≡◌, ◌⊎◌, ℕ, ◌≤◌, true, false, List, [], ◌∷◌, map, slice_get, Some}
use Rattle.ist_core.specs.Map.{Map}
use Rattle.ist_core.specs.Elements.{Among, Each}
use Rattle.ist_core.specs.Changes.{Entry}
use Rattle.ist_core.specs.Standing.{is_change, entry_by, IsRead, position_after}
use Rattle.ist_core.specs.Histories.{told_by_entry, IsLegal}
use Rattle.laws_real_time.specs.Moments.{Moments, Begun, in_call, Ended, ended, IsWellFormed}
use Rattle.laws_real_time.specs.RealTime.{IsLinearizable}

-- the number of changes never falls from one moment to a later one
abbrev pub NumbersNeverFall : Moments → Type 0
NumbersNeverFall [] = Unit {0}
NumbersNeverFall (moment ∷ moments) = Each (λ earlier. earlier.changes ≤ moment.changes) moments
    × NumbersNeverFall moments

-- a call that returned has its position in its time: no lower than the number of changes when it
-- began, and below the number when it returned if it is a change, else not above it. It is the change
-- at its position, or has the map's reply there
pub record IsInTime (m : Map) (entries : List Entry) (x : Ended) : Type 0 where
  pub from : x.begun.changes ≤ x.call.position
  pub to : position_after x.call ≤ x.changes
  pub made : is_change x.call ≡ true
      → slice_get entries x.call.position ≡ Some (entry_by x.caller x.call)
  pub read : is_change x.call ≡ false → IsRead m entries x.call

-- the change at the position is that of a call that returned
pub record IsOfEnded (moments : Moments) (position : ℕ) : Type 0 where
  pub call : Ended
  pub among : Among call (ended moments)
  pub change : is_change call.call ≡ true
  pub position_is : call.call.position ≡ position

-- the change at the position is that of a call in progress, made after it began
pub record IsOfBegun (moments : Moments) (position : ℕ) (entry : Entry) : Type 0 where
  pub begun : Begun
  pub in_it : in_call entry.owner moments ≡ Some begun
  pub command : begun.command ≡ Some entry.command
  pub from : begun.changes ≤ position

-- each change is that of a call
abbrev pub AreOfCalls : Moments → List Entry → Type 0
AreOfCalls moments entries =
    (position : ℕ) (entry : Entry) → slice_get entries position ≡ Some entry
    → IsOfEnded moments position ⊎ IsOfBegun moments position entry

-- two changes of one owner are not both of its call in progress
abbrev pub AreOfOneCall : Moments → List Entry → Type 0
AreOfOneCall moments entries =
    (p q : ℕ) (e f : Entry) → slice_get entries p ≡ Some e → slice_get entries q ≡ Some f
    → e.owner ≡ f.owner → IsOfBegun moments p e → IsOfBegun moments q f → p ≡ q

-- the calls of the moments are placed in their time among these changes of the map
pub record AreInTime (m : Map) (entries : List Entry) (moments : Moments) : Type 0 where
  pub well_formed : IsWellFormed moments
  pub never_fall : NumbersNeverFall moments
  pub legal : IsLegal m (map told_by_entry entries)
  pub placed : Each (IsInTime m entries) (ended moments)
  pub owned : AreOfCalls moments entries
  pub once : AreOfOneCall moments entries

-- then the history is linearizable
abbrev pub PlacedCallsAreLinearizable : Type 0
PlacedCallsAreLinearizable =
    (m : Map) (entries : List Entry) (moments : Moments) → AreInTime m entries moments
    → IsLinearizable m moments
