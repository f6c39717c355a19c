-- Reading keys in order: each at a position of its own, and none at an earlier one than a lesser
-- key.
use Rattle.std.specs.Prelude.{◌≡◌, ℕ, ◌+◌, ◌<◌, ◌≤◌, ◌⊎◌, ◌==◌, if◌then◌else◌, List, [], ◌∷◌, ◌++◌, length, Option, Some, None, IfSome}
use Rattle.ist_core.specs.declared.pairs.Pair.{Pair}
use Rattle.ist_core.specs.declared.states.InnerRow.{InnerRow}
use Rattle.ist_core.specs.Arithmetic.{child_count}
use Rattle.ist_core.specs.Elements.{Among}
use Rattle.ist_core.specs.Lawful.{state_of}
use Rattle.ist_core.specs.Links.{IsChild, Leads}
use Rattle.ist_core.specs.Logs.{Log, GoesOn}
use Rattle.ist_core.specs.Pieces.{Inner, as_inner}
use Rattle.ist_core.specs.RowLayout.{anchor}
use Rattle.ist_core.specs.References.{Ref}
use Rattle.ist_core.specs.Slots.{IsChildFor}
use Rattle.ist_core.specs.Snapshots.{Snapshot}
use Rattle.ist_math.specs.Guess.{guess_in, distance}
use Rattle.ist_rule.specs.declared.view.View.{View}
use Rattle.laws_histories.specs.Searching.{HasPosition, LooksAt}
use Rattle.ist_find.specs.Searches.{keys_at, keys_in}
use Rattle.ist_find.specs.Spans.{pair_value, IsEdge}

-- the pair as a list
abbrev pub one_of : Option Pair → List Pair
one_of (Some pair) = pair ∷ []
one_of None = []

-- ---- slot after slot

-- how many loads it takes at most to read the slot of an inner row, and to find its child for the
-- key
abbrev pub entering_loads : List ℕ → ℕ → ℕ
entering_loads keys key = distance (guess_in keys key) (child_count keys key) + 11

-- the keys of one slot, from the first up to its end, were read between these logs: each had what
-- the pair gives it at a position of its own
pub record SlotWasRead (opened : List Pair) (words : ℕ) (earlier later : Log) (first following : ℕ)
    (pair : Option Pair) : Type 0 where
  pub on : GoesOn earlier later
  pub some : first < following
  pub within : IfSome pair (λ x. (first ≤ x.key) × (x.key < following))
  pub values : (k : ℕ) → first ≤ k → k < following
      → HasPosition opened words earlier later k (pair_value pair k)

-- the row is entered at the key on the key's way: the key leads to its parent, and the row is in the
-- parent's slot for the key. The parent was entered last, or this slot begins at the key: so a sweep
-- enters no row again
pub record IsEnteredAt (t : Snapshot) (key last row : ℕ) : Type 0 where
  pub parent : ℕ
  pub led : Leads t key parent
  pub index : ℕ
  pub for : IsChildFor t parent key index
  pub child : IsChild t parent index row
  pub begins : (last ≡ parent) ⊎ Among key (keys_in (as_inner (t.pieces parent)))

-- the keys from the first up to a slot's end were read upwards, slot after slot, and the pairs were
-- found, by this many loads at most: 7 for each slot that held no row, and for each row that was
-- entered 11 and the distance of the guess from the child. What a later slot held isn't older than
-- what an earlier one held, and a slot begins at the first key or at an edge. `row` is the last row
-- that was entered since the last such slot: below it only greater ones are entered, each on the way
-- of the next slot's key, and none twice
pub data Swept (opened : List Pair) (words first above : ℕ) (from : Log)
    : Log → ℕ → ℕ → ℕ → List Pair → Type 0 where
  none_swept : Swept opened words first above from from first above 0 []
  later_swept : {at later : Log} {low row loads : ℕ} {found : List Pair}
      → Swept opened words first above from at low row loads found → GoesOn at later
      → Swept opened words first above from later low row loads found
  row_swept : {at : Log} {low row loads : ℕ} {found : List Pair} (base : ℕ) (r : InnerRow)
      → Swept opened words first above from at low row loads found
      → (state_of opened words at).pieces base ≡ Some (Inner r) → row < base
      → IsEnteredAt (state_of opened words at) low row base
      → Swept opened words first above from at low base (loads + entering_loads r.keys low) found
  slot_swept : {at later : Log} {low following row loads : ℕ} {found : List Pair} (pair : Option Pair)
      → Swept opened words first above from at low row loads found
      → (low ≡ first) ⊎ IsEdge (state_of opened words at) low
      → SlotWasRead opened words at later low following pair
      → Swept opened words first above from later following 0 (loads + 7) (found ++ one_of pair)

-- ---- where a sweep is

-- after this log each of the keys led to the node
abbrev pub AllLed : View → Log → ℕ → ℕ → ℕ → Type 0
AllLed v at first last node =
    (k : ℕ) → first ≤ k → k ≤ last → Leads (state_of v.start v.words at) k node

-- after some log that the caller has seen each of the keys led to the node
pub record WereLed (v : View) (first last node : ℕ) : Type 0 where
  pub at : Log
  pub until : GoesOn at v.log
  pub led : AllLed v at first last node

-- how many loads it takes at most to find the first slot of a node: none at the anchor, which has one
abbrev pub starting : View → ℕ → ℕ → ℕ
starting v node key =
    if node == anchor then 0
    else let keys = keys_at v node in distance (guess_in keys key) (child_count keys key) + 6

-- since the first view the caller has swept the keys from the first up to a slot's end, beginning
-- at this log, and found the pairs, by no more loads than the sweep says and some spent apart. At
-- the end the keys up to the last led to the node
pub record Sweeps (v w : View) (from : Log) (first following last node limit spent : ℕ)
    (found : List Pair) : Type 0 where
  pub at : Log
  pub until : GoesOn at w.log
  pub led : AllLed w at first last node
  pub row : ℕ
  pub under : row ≤ limit
  pub loads : ℕ
  pub few : w.loaded ≤ v.loaded + spent + loads
  pub swept : Swept w.start w.words first node from at following row loads found

-- between both views it has done so, from whichever log on, and appended the pairs
pub record HasSwept (v w : View) (first following last node limit spent : ℕ)
    (old new : List Pair) : Type 0 where
  pub found : List Pair
  pub are : new ≡ old ++ found
  pub sweeps : (from : Log) → GoesOn from v.log → AllLed v from first last node
      → Sweeps v w from first following last node limit spent found

-- ---- a slot

-- the slot of the node for the key was loaded when the log had at least `least` events, and read as
-- the reference
pub record LookedSince (v : View) (key least node index : ℕ) (ref : Ref) : Type 0 where
  pub last : ℕ
  pub until : last ≤ length v.log
  pub look : LooksAt v.start v.words v.log key least last node ref
  pub index_is : look.index ≡ index

-- ---- a whole sweep

-- the keys from the first to the last were read upwards from the first view on, up to a log that
-- the second one has seen, and the pairs were appended
pub record SweptBetween (v w : View) (first last : ℕ) (old new : List Pair) : Type 0 where
  pub found : List Pair
  pub are : new ≡ old ++ found
  pub at : Log
  pub until : GoesOn at w.log
  pub loads : ℕ
  pub few : w.loaded ≤ v.loaded + loads
  pub swept : Swept w.start w.words first anchor v.log at (last + 1) 0 loads found
