-- Stuck builds, and a caller in a build: it may take the next row, and has it then. Serves
-- `reserve_inner` and the crates above.
use Rattle.std.proofs.Common.{◌≡◌, ℕ, Bool, true, false, List, [], ◌∷◌, ◌++◌, refl, sym, ap, ◌∙◌, subst, append_assoc, append-nil, arith}
use Rattle.std.proofs.lemmas.List.{map-append}
use Rattle.std.proofs.lemmas.List.Elements.{filter-append}
use Rattle.ist_core.specs.declared.pairs.Pair.{Pair}
use Rattle.ist_core.specs.declared.lists.HeldRow.{HeldRow}
use Rattle.ist_core.specs.declared.events.Event.TheVariants.{Reserve}
use Rattle.ist_core.specs.declared.events.Who.TheVariants.{Caller as CallerOf}
use Rattle.ist_core.specs.LogTerms.{Snapshot, IsBuilding, IsStuck, AreBuilds, last_build, stuck_build, Log, EachEnabled, Lawful, state_of, Later}
use Rattle.ist_core.specs.WordTerms.{start}
use Rattle.ist_core.proofs.AllWordLemmas.{among_left}
use Rattle.ist_core.proofs.AllLogLemmas.{all_grow_same}
use Rattle.ist_core.proofs.AllEventLemmas.{sound, sound_start}
use Rattle.ist_rule.specs.RuleTerms.{IsSound}
use Rattle.ist_rows.specs.RowTerms.{Caller, kind_words, Spares, spares_of, is_spare, held_by, build_sizes, IsCaller, AreStuck, none_stuck, stuck_more, IsNext, MayTake}
use Rattle.ist_rows.proofs.ReserveLemmas.{ComesAfter, building_on, stuck_on, builds_on}
use Rattle.ist_rows.proofs.CallerLemmas.{IsCallerIn, caller_later, comes_after, spare_kind, fair_inner}
use Rattle.ist_rows.proofs.CallerGoingLemmas.{base_same}
use Rattle.ist_rows.proofs.ShortLemmas.{held_by_later}

-- ---- stuck builds

-- stuck builds stay stuck
pub all_stuck_on : (t u : Snapshot) → ComesAfter t u → (sizes : List ℕ) → AreStuck t sizes
    → AreStuck u sizes
all_stuck_on t u b _ none_stuck = none_stuck
all_stuck_on t u b _ (stuck_more {sizes = sizes} {more = more} s rest) =
    stuck_more (stuck_on t u b sizes s) (all_stuck_on t u b more rest)

-- builds after stuck ones are builds
pub builds_after : (t : Snapshot) (sizes more : List ℕ) → AreStuck t sizes → AreBuilds t more
    → AreBuilds t (sizes ++ more)
builds_after t _ more none_stuck b = b
builds_after t _ more (stuck_more {sizes = sizes} {more = others} s rest) b =
    subst (AreBuilds t) (sym (append_assoc sizes others more))
    (stuck_build s (builds_after t others more rest b))

-- one more stuck build after stuck ones
pub stuck_last : (t : Snapshot) (sizes last : List ℕ) → AreStuck t sizes → IsStuck t last
    → AreStuck t (sizes ++ last)
stuck_last t _ last none_stuck s = subst (AreStuck t) (append-nil last) (stuck_more s none_stuck)
stuck_last t _ last (stuck_more {sizes = sizes} {more = others} first rest) s =
    subst (AreStuck t) (sym (append_assoc sizes others last))
    (stuck_more first (stuck_last t others last rest s))

-- ---- a caller in a build, in a state

-- the place of a caller in a build, in a state
pub record IsInBuildIn (t : Snapshot) (number : ℕ) (own : Spares) (stuck done rest : List ℕ) :
    Type 0 where
  pub sizes : build_sizes t number own ≡ stuck ++ done
  pub all_stuck : AreStuck t stuck
  pub building : IsBuilding t (done ++ rest)

-- the caller is at that place after each longer log
pub at_later : (pairs : List Pair) (words : ℕ) (old log : Log) (number : ℕ) (own : Spares)
    (stuck done rest : List ℕ) → Lawful pairs words log → Later (CallerOf number) old log
    → IsInBuildIn (state_of pairs words old) number own stuck done rest
    → IsInBuildIn (state_of pairs words log) number own stuck done rest
at_later pairs words old log number own stuck done rest lawful l h =
    grind (arith, comes_after, held_by_later, all_stuck_on, building_on)

-- the next row is fair
pub next_fair : (pairs : List Pair) (words : ℕ) (log : Log) → EachEnabled (start pairs words) log
    → (number : ℕ) (own : Spares) (stuck done rest : List ℕ) (size : ℕ)
    → IsCallerIn (state_of pairs words log) number own
    → IsInBuildIn (state_of pairs words log) number own stuck done (size ∷ rest)
    → AreBuilds (state_of pairs words log)
    (build_sizes (state_of pairs words log) number own ++ size ∷ [])
next_fair pairs words log enabled number own stuck done rest size c h =
    let t = state_of pairs words log in
    let whole : (done ++ size ∷ []) ++ rest ≡ done ++ size ∷ rest =
    append_assoc done (size ∷ []) rest in
    let last = last_build rest (subst (IsBuilding t) (sym whole) h.building) in
    subst (λ sizes. AreBuilds t (sizes ++ size ∷ [])) (sym h.sizes)
    (subst (AreBuilds t) (sym (append_assoc stuck done (size ∷ [])))
    (builds_after t stuck (done ++ size ∷ []) h.all_stuck last))

-- a caller may take the next row of its build, whatever others do meanwhile
pub may_take_inner : (who : Caller) (size : ℕ) → IsSound who.token.view → IsCaller who
    → IsNext who size → MayTake who.token.view who.number size
may_take_inner who size s c n log m = let v = who.token.view in
    let l = subst (λ w. Later w v.log log) c.mine m.later in
    let h = at_later v.start v.words v.log log who.number (spares_of who) n.stuck n.done
    (size ∷ n.rest) m.lawful l
    record { sizes = n.at.sizes; all_stuck = n.at.all_stuck; building = n.at.building } in
    let in_it = caller_later v.start v.words v.log log who.number (spares_of who) m.lawful l
    record { rows = c.rows; builds = c.builds } in
    fair_inner v.start v.words log m.lawful.enabled who.number (spares_of who) in_it size
    (next_fair v.start v.words log m.lawful.enabled who.number (spares_of who) n.stuck n.done n.rest
    size in_it h)

-- ---- a row is taken

module _ (pairs : List Pair) (words : ℕ) (log : Log) (number : ℕ) (own : Spares) (size base : ℕ)
    (enabled : EachEnabled (start pairs words) (Reserve number base size ∷ log))
    (c : IsCallerIn (state_of pairs words log) number own) where
  abbrev t : Snapshot
  t = state_of pairs words log

  abbrev u : Snapshot
  u = state_of pairs words (Reserve number base size ∷ log)

  abbrev new_row : HeldRow
  new_row = record { caller = number; base = base; size = size }

  following : ComesAfter t u
  following = grind (arith, all_grow_same)

  held_now : held_by u number ≡ held_by t number ++ new_row ∷ []
  held_now = grind (arith, filter-append, base_same)

  -- the new row is no spare one: it lies above all that is held
  new_base : is_spare own base ≡ false
  new_base = at (is_spare own base) refl
    where
      at : (b : Bool) → is_spare own base ≡ b → is_spare own base ≡ false
      at false e = e
      at true e = let k = spare_kind own base e in
          let low = (sound (start pairs words) log (sound_start pairs words) enabled.0).held_below
          record { caller = number; base = base; size = kind_words k.0 } (c.rows k.0 base k.1) in
          let at_next = enabled.1.base_is in absurd (omega arith)

  sizes_now : build_sizes u number own ≡ build_sizes t number own ++ size ∷ []
  sizes_now = grind (arith, held_now, filter-append, new_base, map-append)

  -- the caller is still a caller, if what it holds then are builds
  pub taken_inner : AreBuilds t (build_sizes t number own ++ size ∷ []) → IsCallerIn u number own
  taken_inner builds = grind (arith, among_left, builds_on, following, sizes_now)

  -- the caller is at the row after that one
  pub taken_at : (stuck done rest : List ℕ) → IsInBuildIn t number own stuck done (size ∷ rest)
      → IsInBuildIn u number own stuck (done ++ size ∷ []) rest
  taken_at stuck done rest h = record {
    sizes = sizes_now ∙ ap (λ xs. xs ++ size ∷ []) h.sizes ∙ append_assoc stuck done (size ∷ []);
    all_stuck = all_stuck_on t u following stuck h.all_stuck;
    building = building_on t u following ((done ++ size ∷ []) ++ rest)
        (subst (IsBuilding t) (sym (append_assoc done (size ∷ []) rest)) h.building);
  }
