-- How one change of a slot is planned, filled and carried out: what these steps promise each other.
use Rattle.std.specs.Prelude.{◌≡◌, ◌≢◌, ℕ, ◌⊎◌, List, [], ◌∷◌, Some}
use Rattle.ist_core.specs.declared.commands.Command.{Command}
use Rattle.ist_core.specs.declared.commands.Command.TheVariants.{Put, Remove}
use Rattle.ist_core.specs.declared.events.Event.{Event}
use Rattle.ist_core.specs.declared.events.Event.TheVariants.{Reserve, Lose}
use Rattle.ist_core.specs.declared.lists.Row.{Row}
use Rattle.ist_core.specs.declared.ports.Full.{Full}
use Rattle.ist_core.specs.declared.states.ChangeRow.{ChangeRow}
use Rattle.ist_core.specs.Changes.{command_of}
use Rattle.ist_core.specs.Installing.{HasRoomFor, IsLeafOf, FitsKind, new_leaf, pair_row}
use Rattle.ist_core.specs.Pieces.{row_at}
use Rattle.ist_core.specs.Rebuilding.{IsUpdate}
use Rattle.ist_core.specs.References.{LeafAt, IsGoodBase, ref_of}
use Rattle.ist_core.specs.RowLayout.{leaf_words, pair_words, change_words}
use Rattle.ist_core.specs.Snapshots.{bases_of}
use Rattle.ist_core.specs.StartLayout.{start}
use Rattle.ist_core.specs.Statuses.{undecided}
use Rattle.ist_rule.specs.declared.view.View.{View}
use Rattle.ist_rule.specs.Going.{WentOn}
use Rattle.ist_rule.specs.Learning.{now, GoesOnTo}
use Rattle.ist_rule.specs.Rule.{IsSound}
use Rattle.ist_rows.specs.declared.callers.Caller.{Caller}
use Rattle.ist_rows.specs.declared.kinds.Kind.{Kind}
use Rattle.ist_rows.specs.declared.kinds.Kind.TheVariants as kind
use Rattle.ist_rows.specs.CallerLaws.{AreBasesOf}
use Rattle.ist_rows.specs.Rows.{spares_of}
use Rattle.ist_rows.specs.Shortage.{RanShort}
use Rattle.ist_dcss.specs.Installing.{Filling, rows_of}
use Rattle.ist_rebuild.specs.Lacking.{LacksNow}
use Rattle.ist_updates.specs.Trying.{IsAtSlot}
use Rattle.ist_updates.specs.declared.plans.Aim.{Aim}
use Rattle.ist_updates.specs.declared.plans.Fresh.{Fresh}
use Rattle.ist_updates.specs.declared.plans.Fresh.TheVariants.{Nothing, Leaf, Pair}
use Rattle.ist_updates.specs.declared.plans.PlannedChange.{PlannedChange}
use Rattle.ist_updates.specs.declared.plans.SlotPlan.{SlotPlan}
use Rattle.ist_updates.specs.declared.plans.SlotPlan.TheVariants as way

-- ---- at the slot

-- the caller has made only loads since it was at the slot, which held the word then
pub record WasAtSlot (v : View) (aim : Aim) : Type 0 where
  pub before : View
  pub at : IsAtSlot before aim.key aim.node aim.index aim.word
  pub sound : IsSound before
  pub seen : GoesOnTo before v

-- ---- how a caller goes on

-- the event takes a row, or gives one up
abbrev pub Prepares : Event → Type 0
Prepares (Reserve caller base size) = Unit {0}
Prepares (Lose caller bases) = Unit {0}
Prepares _ = ⊥

-- ---- what is put into the slot

-- the command that this change of the slot carries out
abbrev pub command_by : ℕ → SlotPlan → Command
command_by key (way.Leaf value) = Put key value
command_by key (way.Pair value other other_key) = Put key value
command_by key way.Clear = Remove key

-- the slot holds what such a change may replace
abbrev pub MayReplace : View → ℕ → ℕ → SlotPlan → Type 0
MayReplace v key word (way.Leaf value) = HasRoomFor (now v) key word
MayReplace v key word (way.Pair value other other_key) =
    (ref_of word ≡ Some (LeafAt other)) × IsLeafOf (now v) other other_key × (other_key ≢ key)
MayReplace v key word way.Clear =
    (leaf : ℕ) × (ref_of word ≡ Some (LeafAt leaf)) × IsLeafOf (now v) leaf key

-- such a change may ask for this number of words
abbrev pub MayAskFor : SlotPlan → ℕ → Type 0
MayAskFor way.Clear asked = asked ≡ change_words
MayAskFor (way.Leaf value) asked = (asked ≡ leaf_words) ⊎ (asked ≡ change_words)
MayAskFor (way.Pair value other other_key) asked =
    (asked ≡ leaf_words) ⊎ ((asked ≡ pair_words) ⊎ (asked ≡ change_words))

-- too few words were left for a row that the caller lacks, of whose size `For` holds; until then the
-- caller took rows or gave them up
abbrev pub IsRowShort : (ℕ → Type 0) → View → ℕ → Full → View → Type 0
IsRowShort For v words full x =
    RanShort (WentOn Prepares) (λ asked. For asked × LacksNow x asked) v words full x

-- ---- plans

-- the change that puts a word into the slot
abbrev pub row_for : Aim → ℕ → ℕ → ℕ → ℕ → ChangeRow
row_for aim kind value to owner =
    record {
      decision = undecided;
      kind = kind;
      node = aim.node;
      index = aim.index;
      from = aim.word;
      to = to;
      owner = owner;
      key = aim.key;
      value = value;
    }

-- the rows that are published with the change
abbrev pub fresh_rows : ChangeRow → Fresh → List Row
fresh_rows row Nothing = []
fresh_rows row (Leaf base) = row_at base (new_leaf row) ∷ []
fresh_rows row (Pair base leaf other other_key) =
    row_at base (pair_row row.key leaf other_key other) ∷ row_at leaf (new_leaf row) ∷ []

-- the change together with these rows
abbrev pub filling_of : PlannedChange → Filling
filling_of plan = record { change = plan.row; fresh = fresh_rows plan.row plan.fresh }

-- the kinds of these rows
abbrev pub kinds_of : Fresh → List Kind
kinds_of Nothing = []
kinds_of (Leaf base) = kind.Leaf ∷ []
kinds_of (Pair base leaf other other_key) = kind.Pair ∷ kind.Leaf ∷ []

-- the caller has the row of the change and those that are published with it
abbrev pub HasRows : Caller → PlannedChange → Type 0
HasRows who plan =
    AreBasesOf (kind.Change ∷ kinds_of plan.fresh) (spares_of who)
    (bases_of (rows_of (filling_of plan) plan.base))

-- the leaves of a pair row lie at good bases
abbrev pub AreGood : Fresh → Type 0
AreGood (Pair base leaf other other_key) = IsGoodBase leaf × IsGoodBase other
AreGood _ = Unit {0}

-- the plan is for this slot, and its change carries out this command for the caller of this number
pub record IsPlanFor (number : ℕ) (aim : Aim) (w : SlotPlan) (plan : PlannedChange) : Type 0 where
  pub node : plan.row.node ≡ aim.node
  pub index : plan.row.index ≡ aim.index
  pub from : plan.row.from ≡ aim.word
  pub owner : plan.row.owner ≡ number
  pub unset : plan.row.decision ≡ undecided
  pub key : plan.row.key ≡ aim.key
  pub update : IsUpdate plan.row.kind
  pub command : command_of plan.row ≡ Some (command_by aim.key w)

-- the caller holds the rows of such a plan, and the change fits its kind in its log
pub record IsPlanned (who : Caller) (aim : Aim) (w : SlotPlan) (plan : PlannedChange) : Type 0 where
  pub rows : HasRows who plan
  pub good : AreGood plan.fresh
  pub is_for : IsPlanFor who.number aim w plan
  pub fits : let v = who.token.view in
      FitsKind (start v.start v.words) v.log plan.row (fresh_rows plan.row plan.fresh)
