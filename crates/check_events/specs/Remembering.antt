-- What the checker's tables hold of the log: a look-up in each gives what a condition needs from
-- the events so far.
use Rattle.std.specs.Prelude.{◌≡◌, ◌↔◌, ◌<◌, ◌≤◌, ◌+◌, ◌*◌, ◌^◌, ◌⊎◌, ℕ, true, ◌∷◌, ◌++◌, Option, Some, None, List}
use Rattle.std.specs.Ordering.{nat_cmp}
use Rattle.std.specs.BTreeMap as tree
use Rattle.std.specs.BTreeMap.{BTreeMap}
use Rattle.std.specs.BTreeSet.{BTreeSet}
use Rattle.std.specs.Global.{Vec}
use Rattle.std.specs.Cmp.Lexicographic.{slice_cmp}
use Rattle.ist_core.specs.Snapshots.{Snapshot}
use Rattle.ist_core.specs.declared.states.ChangeRow.{ChangeRow}
use Rattle.ist_core.specs.declared.events.Event.TheVariants.{Decide}
use Rattle.ist_core.specs.RowLayout.{anchor}
use Rattle.ist_core.specs.Statuses.{decided_no}
use Rattle.ist_core.specs.Pieces.{Change}
use Rattle.ist_core.specs.Logs.{Log, Ever, Happened, Okays, Passes, Draws, Counts}
use Rattle.ist_core.specs.Links.{IsChild, Linked, WasLinked, WasLedTo, WasOnChain}
use Rattle.ist_core.specs.References.{InnerAt}
use Rattle.ist_core.specs.Leaves.{PlacedLeaf, HasLeaves}
use Rattle.ist_core.specs.Rebuilding.{IsStarted, IsFinishedWith}
use Rattle.ist_core.specs.Deciding.{IsUpdateOf, SaysYes}
use Rattle.ist_core.specs.Building.{IsBeaten}
use Rattle.ist_core.specs.Marking.{IsCalled}
use Rattle.check_events.specs.declared.pasts.BuildTable.{BuildTable}
use Rattle.check_events.specs.declared.pasts.LastUpdate.{LastUpdate}
use Rattle.check_events.specs.declared.pasts.Slot.{Slot}
use Rattle.check_events.specs.declared.pasts.RowWay.{RowWay}
use Rattle.check_fairness.specs.Answers.{FindsGreatest, Holds}

-- two words as one key
abbrev pub pair_key : ℕ → ℕ → ℕ
pair_key x y = x * 2 ^ 64 + y

-- the set holds exactly the changes that an Okay named
abbrev pub KnowsOkays : BTreeSet ℕ → Log → Type 0
KnowsOkays okayed log = (change : ℕ) → Holds okayed change ↔ Happened (Okays change) log

-- the set holds exactly the nodes that there is a cause to mark
abbrev pub KnowsCalls : BTreeSet ℕ → Snapshot → Log → Type 0
KnowsCalls called t log = (node : ℕ) → Holds called node ↔ IsCalled t log node

-- the map has the greatest part that each caller drew of each rebuild
abbrev pub KnowsDraws : BTreeMap ℕ ℕ → Log → Type 0
KnowsDraws drawn log =
    (caller rebuild : ℕ) → caller < 2 ^ 64 → rebuild < 2 ^ 64
    → FindsGreatest (λ part. Happened (Draws caller rebuild part) log)
    (tree.get nat_cmp drawn (pair_key caller rebuild))

-- the map has the word with which each slot was passed
abbrev pub KnowsPasses : BTreeMap ℕ ℕ → Log → Type 0
KnowsPasses passed log =
    (node i word : ℕ) → node < 2 ^ 64 → i < 2 ^ 64
    → (tree.get nat_cmp passed (pair_key node i) ≡ Some word) ↔ Happened (Passes node i word) log

-- ---- counts

-- the change is the last put or remove of the caller that was decided yes, and was not counted at the node since
pub record IsUncounted (t : Snapshot) (log : Log) (caller node base : ℕ) : Type 0 where
  pub later : Log
  pub by : ℕ
  pub earlier : Log
  pub log_is : log ≡ later ++ Decide by base true ∷ earlier
  pub update : IsUpdateOf t caller base
  pub last : ¬ (Happened (SaysYes t caller) later)
  pub uncounted : ¬ (Happened (Counts caller node) later)

-- the entry, if there is one, is for this change, and doesn't have the node
abbrev pub LacksCount : Option LastUpdate → ℕ → ℕ → Type 0
LacksCount None node base = ⊥
LacksCount (Some last) node base = (last.change ≡ base) × ¬ (Holds last.counted node)

-- the map has the last put or remove of each caller that was decided yes, with the nodes at which it was counted since
abbrev pub KnowsUpdates : BTreeMap ℕ LastUpdate → Snapshot → Log → Type 0
KnowsUpdates updates t log =
    (caller node base : ℕ)
    → LacksCount (tree.get nat_cmp updates caller) node base ↔ IsUncounted t log caller node base

-- ---- ways

-- the inner row was the logical child in slot i of a linked node
abbrev pub WasChild : Snapshot → Log → ℕ → ℕ → ℕ → Type 0
WasChild first log node i child = Ever first (λ t. Linked t node × IsChild t node i child) log

-- the node of each slot in the map is lower than the slot's child, and not below the anchor
abbrev pub SlotsRise : BTreeMap ℕ Slot → Type 0
SlotsRise slots =
    (child : ℕ) (slot : Slot) → tree.get nat_cmp slots child ≡ Some slot
    → (anchor ≤ slot.node) × (slot.node < child)

-- for each node that was linked below the anchor the map has the one slot in which it hung
pub record KnowsSlots (slots : BTreeMap ℕ Slot) (first : Snapshot) (log : Log) : Type 0 where
  pub entries : (node i child : ℕ)
      → (tree.get nat_cmp slots child ≡ Some record { node = node; index = i }) ↔ WasChild first log node i child
  pub rises : SlotsRise slots

-- the node is linked or was; the keys that lead to it are those from low to high; and the jump is
-- on its chain or is the anchor
pub record IsWay (first : Snapshot) (log : Log) (node : ℕ) (way : RowWay) : Type 0 where
  pub linked : WasLinked first log node
  pub led : (key : ℕ) → key < 2 ^ 64
      → WasLedTo first log key node ↔ ((way.low ≤ key) × (key ≤ way.high))
  pub jump : (way.jump ≡ anchor) ⊎ WasOnChain first log node way.jump

-- each way in the map is right
abbrev pub KnowsWays : BTreeMap ℕ RowWay → Snapshot → Log → Type 0
KnowsWays ways first log =
    (node : ℕ) (way : RowWay) → tree.get nat_cmp ways node ≡ Some way → IsWay first log node way

-- ---- changes

-- a change of the caller on the node was decided no
pub record HasRefusal (t : Snapshot) (caller node : ℕ) : Type 0 where
  pub base : ℕ
  pub change : ChangeRow
  pub published : t.pieces base ≡ Some (Change change)
  pub owned : change.owner ≡ caller
  pub on : change.node ≡ node
  pub refused : change.decision ≡ decided_no

-- the set holds exactly the callers and nodes for which a change was decided no
abbrev pub KnowsRefusals : BTreeSet ℕ → Snapshot → Type 0
KnowsRefusals refused t =
    (caller node : ℕ) → caller < 2 ^ 64 → node < 2 ^ 64
    → Holds refused (pair_key caller node) ↔ HasRefusal t caller node

-- the set holds exactly the started rebuilds
abbrev pub KnowsStarts : BTreeSet ℕ → Snapshot → Type 0
KnowsStarts started t = (rebuild : ℕ) → Holds started rebuild ↔ IsStarted t rebuild

-- ---- builds

-- how many builds there were up to the caller's last Root, Place or Lose
abbrev pub seen_builds : Option ℕ → ℕ
seen_builds None = 0
seen_builds (Some n) = n

-- how many builds there were up to the last one whose rows have these sizes, if there was one
abbrev pub last_with : BuildTable → List ℕ → Option ℕ
last_with builds sizes = tree.get_by (λ v. slice_cmp nat_cmp sizes v.items) builds.last

-- there was such a build, and more than this many builds up to it
abbrev pub CameAfter : Option ℕ → ℕ → Type 0
CameAfter None seen = ⊥
CameAfter (Some at) seen = seen < at

-- the table says which builds came after a caller's last Root, Place or Lose; none counts more
-- builds than there were
pub record KnowsBuilds (builds : BuildTable) (log : Log) : Type 0 where
  pub beaten : (caller : ℕ) (sizes : List ℕ)
      → CameAfter (last_with builds sizes) (seen_builds (tree.get nat_cmp builds.since caller))
      ↔ IsBeaten caller sizes log
  pub came : (sizes : List ℕ) (at : ℕ) → last_with builds sizes ≡ Some at → at ≤ builds.count
  pub seen : (caller : ℕ) → seen_builds (tree.get nat_cmp builds.since caller) ≤ builds.count

-- ---- leaves

-- the row is finished, and these are the leaves below it
pub record HasFinishedLeaves (t : Snapshot) (node : ℕ) (leaves : List PlacedLeaf) : Type 0 where
  pub keys : ℕ
  pub finished : IsFinishedWith t node keys
  pub reached : HasLeaves t.pieces (Some (InnerAt node)) leaves

-- the leaves that are kept for a row are those of a finished row
abbrev pub KnowsLeaves : BTreeMap ℕ (Vec PlacedLeaf) → Snapshot → Type 0
KnowsLeaves kept t =
    (node : ℕ) (leaves : Vec PlacedLeaf) → tree.get nat_cmp kept node ≡ Some leaves
    → HasFinishedLeaves t node leaves.items
