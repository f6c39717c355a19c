-- A put that is filled while its node is open, and installed later: what its steps promise each other.
use Rattle.std.specs.Prelude.{◌≡◌, ℕ, [], ◌∷◌, Some}
use Rattle.ist_core.specs.declared.states.ChangeRow.{ChangeRow}
use Rattle.ist_core.specs.Installing.{new_leaf}
use Rattle.ist_core.specs.Pieces.{row_at}
use Rattle.ist_core.specs.References.{LeafAt, word_of}
use Rattle.ist_core.specs.Statuses.{put_kind, undecided}
use Rattle.ist_dcss.specs.Installing.{Filling, IsInstallable}
use Rattle.ist_rows.specs.declared.callers.Caller.{Caller}
use Rattle.ist_rows.specs.Rows.{IsCaller}
use Rattle.ist_rule.specs.declared.view.View.{View}
use Rattle.ist_rule.specs.Going.{SearchedOn}
use Rattle.ist_updates.specs.Changing.{WasAtSlot}
use Rattle.ist_updates.specs.Trying.{IsAtSlot}

-- ---- the slot

-- the token has begun a search, made loads, and reached this slot, which held the word then
pub record HasReachedSlot (v : View) (key node index word : ℕ) (w : View) : Type 0 where
  pub went : SearchedOn (λ event. ⊥) v w
  pub at : IsAtSlot w key node index word

-- the token has only made loads since it was at the slot, which held the word then
abbrev pub WasAt : View → ℕ → ℕ → ℕ → ℕ → Type 0
WasAt v key node index word =
    WasAtSlot v record { node = node; index = index; word = word; key = key }

-- ---- the put

-- the put of a value at the key, by this caller, which puts a leaf into the slot
abbrev pub row_of_put : ℕ → ℕ → ℕ → ℕ → ℕ → ℕ → ℕ → ChangeRow
row_of_put key value node index word leaf owner =
    record {
      decision = undecided;
      kind = put_kind;
      node = node;
      index = index;
      from = word;
      to = word_of (LeafAt leaf);
      owner = owner;
      key = key;
      value = value;
    }

-- a put's change, with the leaf that is installed with it
abbrev pub put_of : ℕ → ChangeRow → Filling
put_of leaf row = record { change = row; fresh = row_at leaf (new_leaf row) ∷ [] }

-- the caller has the rows of the put
pub record HasBoth (who : Caller) (change leaf : ℕ) : Type 0 where
  pub leaf_is : who.leaf ≡ Some leaf
  pub change_is : who.change ≡ Some change

-- the rows are filled, and the change may be installed
pub record IsFilled (who : Caller) (change leaf : ℕ) (row : ChangeRow) : Type 0 where
  pub caller : IsCaller who
  pub installable : IsInstallable who.token.view change (put_of leaf row)
