-- The numbers after an event that may come fit into words. Serves `checking.rt`.
use Rattle.std.proofs.Common.{◌≡◌, ◌∙◌, ◌+◌, ◌<◌, ◌^◌, ℕ, List, [], ◌∷◌, Some, refl, sym, ap, subst, inl, inr, arith, option_map}
use Rattle.std.specs.Ordering.{nat_cmp}
use Rattle.std.specs.BTreeMap as tree
use Rattle.ist_core.specs.declared.pairs.Pair.{Pair}
use Rattle.ist_core.specs.declared.states.InnerRow.{InnerRow}
use Rattle.ist_core.specs.declared.states.RebuildRow.{RebuildRow}
use Rattle.ist_core.specs.declared.lists.HeldRow.{HeldRow}
use Rattle.ist_core.specs.declared.lists.Row.{Row}
use Rattle.ist_core.specs.declared.events.Event.{Event}
use Rattle.ist_core.specs.declared.events.Event.TheVariants.{Enter, Reserve, Install, Count, Finish, Draw}
use Rattle.ist_core.specs.LogTerms.{Among, Each, Log, Lawful, state_of}
use Rattle.ist_core.specs.WordTerms.{with_status, finished_word, start}
use Rattle.ist_core.proofs.AllLogLemmas.{words_same, held_good, count_low}
use Rattle.ist_core.proofs.AllWordLemmas.{changed_at-same}
use Rattle.ist_core.proofs.AllEventLemmas.{sound, sound_start}
use Rattle.laws_links.proofs.ContentLemmas.{finished_few}
use Rattle.laws_links.proofs.ResolvedLemmas.{draw_low}
use Rattle.check_events.specs.declared.replicas.Replica.{Replica}
use Rattle.check_events.specs.Holding.{by_base, LiesBelow}
use Rattle.check_events.specs.Mirroring.{Mirrors}
use Rattle.check_events.proofs.DecisionLemmas.{inner_stands, rebuild_stands}
use Rattle.check_state.specs.Room.{HasRoom}

-- rows that lie below a base do so by their bases too
each_below : (base : ℕ) (held : List HeldRow) → ((h : HeldRow) → Among h held → h.base < base)
    → Each (λ e. e.0 < base) (by_base held)
each_below base [] below = tt
each_below base (h ∷ hs) below = (below h (inl refl), each_below base hs (λ g i. below g (inr i)))

module _ (pairs : List Pair) (words : ℕ) (log : Log) (replica : Replica)
    (mirrors : Mirrors replica (state_of pairs words log)) where
  -- the row of an installed change lies within the table
  install_low : (caller base : ℕ) (rows : List Row) → Lawful pairs words
      (Install caller base rows ∷ log) → base < 2 ^ 28
  install_low caller base rows lawful = grind (arith, held_good)

  -- what a caller reserves lies within the table
  reserve_low : (caller base size : ℕ) → Lawful pairs words (Reserve caller base size ∷ log)
      → base + size < 2 ^ 64
  reserve_low caller base size lawful = grind (arith, words_same)

  -- and above all that is held
  reserve_above : (caller base size : ℕ) → Lawful pairs words (Reserve caller base size ∷ log)
      → LiesBelow replica.held base
  reserve_above caller base size lawful =
      let rows = sound (start pairs words) log (sound_start pairs words) lawful.enabled.0 in
      let is = lawful.enabled.1.base_is in subst (Each (λ e. e.0 < base)) (sym mirrors.held.rows)
      (each_below base (state_of pairs words log).held
      (λ h i. let low = rows.held_below h i in omega arith))

  -- a caller's number is low
  enter_low : (caller : ℕ) → Lawful pairs words (Enter caller ∷ log) → replica.callers + 1 < 2 ^ 64
  enter_low caller lawful = grind arith

  -- a finished row has no more keys than the table has places
  finish_low : (caller node keys : ℕ) → Lawful pairs words (Finish caller node keys ∷ log)
      → keys < 2 ^ 61
  finish_low caller node keys lawful = let can = lawful.enabled.1 in
      let is = changed_at-same (state_of pairs words log).pieces node
      (with_status (finished_word keys)) ∙ ap (option_map (with_status (finished_word keys)))
      can.published in
      let few = finished_few pairs words lawful.opens (Finish caller node keys ∷ log) lawful.enabled
      node keys
      record {
        row = record (can.row) { status = finished_word keys };
        published = is;
        status = refl;
      } in
      omega arith

  count_room : (caller node : ℕ) → Lawful pairs words (Count caller node ∷ log)
      → (r : InnerRow) → tree.get nat_cmp replica.inners node ≡ Some r → r.count < 2 ^ 63
  count_room caller node lawful r found = grind (arith, count_low, inner_stands)

  draw_room : (caller rebuild part : ℕ) → Lawful pairs words (Draw caller rebuild part ∷ log)
      → (r : RebuildRow) → tree.get nat_cmp replica.rebuilds rebuild ≡ Some r → r.draw < 2 ^ 63
  draw_room caller rebuild part lawful r found = grind (arith, draw_low, rebuild_stands)

  -- the numbers after the event fit into words
  pub has_room : (event : Event) → Lawful pairs words (event ∷ log) → HasRoom replica event
  has_room (Enter caller) lawful = enter_low caller lawful
  has_room (Reserve caller base size) lawful = (
    reserve_low caller base size lawful,
    reserve_above caller base size lawful,
  )
  has_room (Install caller change rows) lawful = install_low caller change rows lawful
  has_room (Count caller node) lawful = count_room caller node lawful
  has_room (Finish caller node keys) lawful = finish_low caller node keys lawful
  has_room (Draw caller rebuild part) lawful = draw_room caller rebuild part lawful
  has_room _ lawful = tt
