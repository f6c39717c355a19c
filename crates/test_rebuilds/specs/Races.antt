-- A root of one row that a caller has built, and the exchange that puts it in place or loses it.
use Rattle.std.specs.Prelude.{◌≡◌, ℕ, ◌+◌, ◌-◌, ◌/◌, List, [], ◌∷◌}
use Rattle.ist_core.specs.declared.events.Event.{Event}
use Rattle.ist_core.specs.declared.events.Event.TheVariants.{Root, Lose}
use Rattle.ist_core.specs.declared.events.Who.TheVariants.{Caller as CallerOf}
use Rattle.ist_core.specs.declared.lists.Row.{Row}
use Rattle.ist_core.specs.References.{tag_count}
use Rattle.ist_core.specs.RowLayout.{pair_words, rebuild_root_offset}
use Rattle.ist_core.specs.Snapshots.{bases_of, sizes_of}
use Rattle.ist_rule.specs.declared.view.View.{View}
use Rattle.ist_rule.specs.Conditions.{StoredAll}
use Rattle.ist_rule.specs.Learning.{now}
use Rattle.ist_rule.specs.Watching.{number_of}
use Rattle.laws_coming.specs.Builds.{IsRootBuilt, WasUnset}
use Rattle.ist_build.specs.BuildEvents.{row_stored}

-- the one row of the root that the word names, with the words that the token stored there
abbrev pub row_named : View → ℕ → List Row
row_named v word =
    row_stored v record { caller = number_of v.who; base = word / tag_count; size = pair_words } ∷ []

-- the Root and the Lose event of an exchange that would set the root word at the place to this word
abbrev pub racing_at : View → ℕ → ℕ → Event × Event
racing_at v place word =
    let number = number_of v.who in
    (Root number (place - rebuild_root_offset) word (row_named v word), Lose number (word / tag_count ∷ []))

-- the caller holds the one row of a root that it has built for the rebuild
pub record HasLaid (v : View) (number rebuild word : ℕ) : Type 0 where
  pub mine : v.who ≡ CallerOf number
  pub rows : List Row
  pub bases : bases_of rows ≡ word / tag_count ∷ []
  pub sizes : sizes_of rows ≡ pair_words ∷ []
  pub stored : StoredAll v rows
  pub built : IsRootBuilt (now v) number rebuild word rows

-- the caller holds such a row, and has seen that the rebuild had no root yet
pub record HoldsRoot (v : View) (number rebuild word : ℕ) : Type 0 where
  pub laid : HasLaid v number rebuild word
  pub unset : WasUnset v number (rebuild + rebuild_root_offset)
