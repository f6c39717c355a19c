-- How to prove a thing of each published change and of each published rebuild: from their first moment on.
-- Serves each conjunct on them.
use Rattle.std.proofs.Common.{Bool, List, Some, [], subst, sym, ℕ, ◌+◌, ◌∷◌, ◌≡◌, arith}
use Rattle.ist_core.specs.declared.events.Event.{Event}
use Rattle.ist_core.specs.declared.events.Event.TheVariants.{Decide, Draw, Install, Root}
use Rattle.ist_core.specs.declared.lists.Row.{Row}
use Rattle.ist_core.specs.declared.pairs.Pair.{Pair}
use Rattle.ist_core.specs.declared.states.ChangeRow.{ChangeRow}
use Rattle.ist_core.specs.declared.states.RebuildRow.{RebuildRow}
use Rattle.ist_core.specs.LogTerms.{decision_word, EachEnabled, state_of, Log}
use Rattle.ist_core.specs.TreeTerms.{CanDraw, CanRoot, CanDecide, CanInstall, Starts}
use Rattle.ist_core.specs.WordTerms.{Change, Rebuild, start}
use Rattle.ist_core.proofs.AllEventLemmas.{HeldLieApart, sound, sound_start}
use Rattle.laws_links.proofs.ComesLemmas.{change_comes, rebuild_comes, start_quiet}
use Rattle.laws_links.proofs.PassLemmas.{ChangeComes, RebuildComes, change_was, is_begun, is_decided, is_drawn, is_installed, is_rooted, rebuild_was}
use Rattle.laws_links.proofs.PublishedLemmas.{new_rebuild_row}

module _ (pairs : List Pair) (words : ℕ) where
  -- held rows lie apart after a lawful log
  pub sound_after : (log : Log) → EachEnabled (start pairs words) log
      → HeldLieApart (state_of pairs words log)
  sound_after log h = sound (start pairs words) log (sound_start pairs words) h

  -- there is no change at the start
  no_change_first : (base : ℕ) (x : ChangeRow) → (start pairs words).pieces base ≡ Some (Change x)
      → ⊥
  no_change_first base x e = start_quiet pairs words base (Change x) e

  -- there is no rebuild at the start
  no_rebuild_first : (base : ℕ) (x : RebuildRow)
      → (start pairs words).pieces base ≡ Some (Rebuild x) → ⊥
  no_rebuild_first base x e = start_quiet pairs words base (Rebuild x) e

  -- what holds of each published change: it holds when one is installed, and both events that leave
  -- the change and its decision keep it
  pub changes_by : (P : Log → ℕ → ChangeRow → Type 0)
      → ((log : Log) (event : Event) → EachEnabled (start pairs words) (event ∷ log)
      → (base : ℕ) (x : ChangeRow) → (state_of pairs words log).pieces base ≡ Some (Change x)
      → (state_of pairs words (event ∷ log)).pieces base ≡ Some (Change x) → P log base x
      → P (event ∷ log) base x)
      → ((log : Log) (caller base : ℕ) (rows : List Row)
      → EachEnabled (start pairs words) (Install caller base rows ∷ log)
      → (h : CanInstall (start pairs words) log caller base rows)
      → P (Install caller base rows ∷ log) base h.change)
      → ((log : Log) (caller base : ℕ) (said : Bool)
      → EachEnabled (start pairs words) (Decide caller base said ∷ log)
      → (h : CanDecide (state_of pairs words log) log caller base said) → P log base h.change
      → P (Decide caller base said ∷ log) base (record (h.change) { decision = decision_word said }))
      → (log : Log) → EachEnabled (start pairs words) log → (base : ℕ) (x : ChangeRow)
      → (state_of pairs words log).pieces base ≡ Some (Change x) → P log base x
  changes_by P keep new decide [] h base x e = absurd (no_change_first base x e)
  changes_by P keep new decide (event ∷ log) h base x e =
      at event h e (change_comes pairs words log event h base x e)
      (changes_by P keep new decide log h.0)
    where
      at : (event : Event) → EachEnabled (start pairs words) (event ∷ log)
          → (state_of pairs words (event ∷ log)).pieces base ≡ Some (Change x)
          → ChangeComes (start pairs words) log base x event
          → ((b : ℕ) (y : ChangeRow) → (state_of pairs words log).pieces b ≡ Some (Change y)
          → P log b y)
          → P (event ∷ log) base x
      at event all there (change_was old) before =
          keep log event all base x old there (before base x old)
      at _ all there (is_installed {caller = caller} {rows = rows} k is) before =
          subst (λ y. P (Install caller base rows ∷ log) base y) (sym is)
          (new log caller base rows all k)
      at _ all there (is_decided {caller = caller} {said = said} k is) before =
          subst (λ y. P (Decide caller base said ∷ log) base y) (sym is)
          (decide log caller base said all k (before base k.change k.pending.published))

  -- what holds of each published rebuild: it holds when one is begun, and a root, a Draw and each
  -- other event keep it
  pub rebuilds_by : (P : Log → ℕ → RebuildRow → Type 0)
      → ((log : Log) (event : Event) → EachEnabled (start pairs words) (event ∷ log)
      → (base : ℕ) (x : RebuildRow) → (state_of pairs words log).pieces base ≡ Some (Rebuild x)
      → (state_of pairs words (event ∷ log)).pieces base ≡ Some (Rebuild x) → P log base x
      → P (event ∷ log) base x)
      → ((log : Log) (caller change : ℕ) (rows : List Row)
      → EachEnabled (start pairs words) (Install caller change rows ∷ log)
      → (h : CanInstall (start pairs words) log caller change rows)
      → (s : Starts (state_of pairs words log) h.change h.fresh)
      → P (Install caller change rows ∷ log) s.rebuild (new_rebuild_row h.change s.target))
      → ((log : Log) (caller base word : ℕ) (rows : List Row)
      → EachEnabled (start pairs words) (Root caller base word rows ∷ log)
      → (h : CanRoot (state_of pairs words log) caller base word rows) → P log base h.row
      → P (Root caller base word rows ∷ log) base (record (h.row) { root = word }))
      → ((log : Log) (caller base part : ℕ)
      → EachEnabled (start pairs words) (Draw caller base part ∷ log)
      → (h : CanDraw (state_of pairs words log) log caller base part) → P log base h.row
      → P (Draw caller base part ∷ log) base (record (h.row) { draw = h.row.draw + 1 }))
      → (log : Log) → EachEnabled (start pairs words) log → (base : ℕ) (x : RebuildRow)
      → (state_of pairs words log).pieces base ≡ Some (Rebuild x) → P log base x
  rebuilds_by P keep new root draw [] h base x e = absurd (no_rebuild_first base x e)
  rebuilds_by P keep new root draw (event ∷ log) h base x e =
      at event h e (rebuild_comes pairs words log event h base x e)
      (rebuilds_by P keep new root draw log h.0)
    where
      at : (event : Event) → EachEnabled (start pairs words) (event ∷ log)
          → (state_of pairs words (event ∷ log)).pieces base ≡ Some (Rebuild x)
          → RebuildComes (start pairs words) log base x event
          → ((b : ℕ) (y : RebuildRow) → (state_of pairs words log).pieces b ≡ Some (Rebuild y)
          → P log b y)
          → P (event ∷ log) base x
      at event all there (rebuild_was old) before =
          keep log event all base x old there (before base x old)
      at _ all there
          (is_begun {caller = caller} {change = change} {rows = rows} k s here is) before =
          grind (arith, new_rebuild_row)
      at _ all there (is_rooted {caller = caller} {word = word} {rows = rows} k is) before =
          subst (λ y. P (Root caller base word rows ∷ log) base y) (sym is)
          (root log caller base word rows all k (before base k.row k.published))
      at _ all there (is_drawn {caller = caller} {part = part} k is) before =
          subst (λ y. P (Draw caller base part ∷ log) base y) (sym is)
          (draw log caller base part all k (before base k.row k.published))
