-- The checker's tables of held rows, and the list of rows that they represent.
use Rattle.std.specs.Prelude.{◌≡◌, ◌<◌, ◌==◌, ℕ, List, [], ◌∷◌, map, filter}
use Rattle.std.specs.Option.{option_map, unwrap_or}
use Rattle.std.specs.Ordering.{nat_cmp}
use Rattle.std.specs.BTreeMap as tree
use Rattle.std.specs.BTreeMap.{BTreeMap}
use Rattle.std.specs.Global.{Vec}
use Rattle.ist_core.specs.declared.lists.HeldRow.{HeldRow}
use Rattle.ist_core.specs.Elements.{Each}
use Rattle.check_events.specs.declared.held.HeldTable.{HeldTable}

-- some rows, each under its base
abbrev pub by_base : List HeldRow → List (ℕ × HeldRow)
by_base held = map (λ h. (h.base, h)) held

-- the rows that are the caller's
abbrev pub of_caller : ℕ → List HeldRow → List HeldRow
of_caller caller held = filter (λ h. h.caller == caller) held

-- the rows that are listed for the caller
abbrev pub listed_rows : BTreeMap ℕ (Vec HeldRow) → ℕ → List HeldRow
listed_rows of caller = unwrap_or (option_map (λ v. v.items) (tree.get nat_cmp of caller)) []

-- each row has a higher base than those before it
abbrev pub BasesRise : List HeldRow → Type 0
BasesRise [] = Unit {0}
BasesRise (h ∷ hs) = Each (λ g. h.base < g.base) hs × BasesRise hs

-- each row of the table has a lower base than this
abbrev pub LiesBelow : HeldTable → ℕ → Type 0
LiesBelow table base = Each (λ e. e.0 < base) table.rows.entries

-- the table has these rows, whose bases increase
pub record TableHolds (table : HeldTable) (held : List HeldRow) : Type 0 where
  pub rows : table.rows.entries ≡ by_base held
  pub rising : BasesRise held
  pub callers : (caller : ℕ) → listed_rows table.of caller ≡ of_caller caller held
