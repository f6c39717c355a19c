-- After the Root, Place or Lose of what it built a caller holds what it held before the build.
-- Serves the calls that put a build in place.
use Rattle.std.proofs.Common.{◌≡◌, ℕ, ◌<◌, ◌≤◌, ◌==◌, not, nat_lt, Bool, true, false, List, ◌∷◌, ◌++◌, length, map, filter, Some, refl, sym, ap, ap₂, ◌∙◌, subst, inr, ⊎_elim, append-nil, arith}
use Rattle.std.specs.List.{list_any}
use Rattle.std.proofs.lemmas.Bool.Decides.{nat_tests}
use Rattle.std.proofs.lemmas.List.{map-append, length-map}
use Rattle.std.proofs.lemmas.List.Elements.{filter-append}
use Rattle.ist_core.specs.declared.events.Event.{Event}
use Rattle.ist_core.specs.declared.lists.HeldRow.{HeldRow}
use Rattle.ist_core.specs.declared.lists.Row.{Row}
use Rattle.ist_core.specs.declared.events.Who.TheVariants.{Caller as CallerOf}
use Rattle.ist_core.specs.LogTerms.{after, Among, Lawful, state_of, Log, Snapshot, bases_of, sizes_of, without, HoldsRow, Later, LaterBy, one_more}
use Rattle.ist_core.specs.WordTerms.{start}
use Rattle.ist_core.proofs.AllWordLemmas.{among-append, among_right, among-filter, among_filter, each-among}
use Rattle.ist_core.proofs.AllLogLemmas.{grow_between, words_same}
use Rattle.ist_core.proofs.AllEventLemmas.{among_bases, tests_base, row_among, sound, sound_start}
use Rattle.ist_rule.specs.RuleTerms.{IsSound, now}
use Rattle.ist_rule.specs.declared.view.View.{View}
use Rattle.ist_rows.specs.RowTerms.{kind_words, spares_of, row_of, is_spare, held_by, build_sizes, IsCaller, sizes_built, HasRefused}
use Rattle.ist_rows.specs.declared.callers.Caller.{Caller}
use Rattle.ist_rows.specs.declared.kinds.Kind.{Kind}
use Rattle.ist_rows.proofs.ReserveLemmas.{ComesAfter, builds_on}
use Rattle.ist_rows.proofs.BuildingLemmas.{all_stuck_on}
use Rattle.ist_rows.proofs.CallerLemmas.{spare_kind}
use Rattle.ist_rows.proofs.CallerGoingLemmas.{base_same}
use Rattle.ist_rows.proofs.ShortLemmas.{held_by_later}
use Rattle.ist_rule.proofs.WentOnLemmas.{later_by, later_by_more, later_by_all, later_by-goes_on}
use Rattle.ist_build.specs.BuildEvents.{is_from, row_stored, held_rows_from}
use Rattle.ist_build.specs.Laying.{BuiltOn, OwnsRows}
use Rattle.ist_rows.proofs.HeldAfterLemmas.{filter_swap}
use Rattle.ist_build.proofs.BuiltLemmas.{built_now, built_lawful, next_between}
use Rattle.ist_build.proofs.RisingListLemmas.{among_map, covers, keeps_all, keeps_none, of_map, one_rising}
use Rattle.ist_build.proofs.HeldMoreLemmas.{AnyEvent, HoldsMore, cancel, holds_more, stored_rows}

module _ (who : Caller) (c : IsCaller who) (s : IsSound who.token.view) (w : View)
    (b : BuiltOn who.token.view w) (sizes : List ℕ)
    (built : build_sizes (now w) who.number (spares_of who) ≡ sizes_built who ++ sizes)
    (rows : List Row) (owns : OwnsRows w who.number (now who.token.view).next rows)
    (sizes_are : sizes_of rows ≡ sizes) where
  abbrev v : View
  v = who.token.view

  abbrev number : ℕ
  number = who.number

  abbrev held : List HeldRow
  held = held_by (now v) number

  abbrev is_other : HeldRow → Bool
  is_other h = not (list_any (λ base. base == h.base) (bases_of rows))

  more : HoldsMore v.start v.words number v.log w.log
  more = grind (arith, holds_more, built_lawful)

  held_is : held_by (now w) number ≡ held ++ more.fresh
  held_is = ap (λ t. held_by t number) (built_now v w b) ∙ more.is

  held_low : (h : HeldRow) → Among h (now v).held → h.base < (now v).next
  held_low h i = (sound (start v.start v.words) v.log (sound_start v.start v.words) s.lawful.enabled).held_below h i

  old_low : (h : HeldRow) → Among h held → h.base < (now v).next
  old_low h i = held_low h (among-filter (λ (x : HeldRow). x.caller == number) h (now v).held i).0

  -- the new rows are no spare ones
  fresh_other : (h : HeldRow) → Among h more.fresh → not (is_spare (spares_of who) h.base) ≡ true
  fresh_other h i = at (is_spare (spares_of who) h.base) refl
    where
      at : (x : Bool) → is_spare (spares_of who) h.base ≡ x
          → not (is_spare (spares_of who) h.base) ≡ true
      at false e = ap not e
      at true e = let k = spare_kind (spares_of who) h.base e in
          let low = held_low record { caller = number; base = h.base; size = kind_words k.0 }
          (c.rows k.0 h.base k.1) in
          let high = more.high h i in absurd (omega arith)

  fresh_sizes : map (λ h. h.size) more.fresh ≡ sizes
  fresh_sizes = grind (arith, cancel, held_is, filter-append, keeps_all, fresh_other, map-append)

  -- they are as many as the rows that were built
  few : length (map (λ h. h.base) more.fresh) ≤ length (bases_of rows)
  few = grind (arith, length-map, fresh_sizes)

  high_row : (base : ℕ) → Among base (bases_of rows) → (now v).next ≤ base
  high_row base i = grind (arith, row_among, each-among)

  row_fresh : (base : ℕ) → Among base (bases_of rows) → Among base (map (λ h. h.base) more.fresh)
  row_fresh base i = let it = row_among base rows i in
      let h : HeldRow = record { caller = number; base = it.0.base; size = length it.0.words } in
      let there = among_filter (λ (x : HeldRow). x.caller == number) h (now w).held
      (each-among (λ (row : Row). HoldsRow (now w) number row.base (length row.words)) it.0 rows
      owns.held it.1) (base_same number) in
      ⊎_elim
      (λ old. let low = old_low h old in
      let high = each-among (λ (row : Row). (now v).next ≤ row.base) it.0 rows owns.high it.1 in
      absurd (omega arith))
      (λ new. subst (λ x. Among x (map (λ h. h.base) more.fresh)) it.2 (among_map h more.fresh new))
      (among-append h held more.fresh (subst (Among h) held_is there))

  fresh_row : (h : HeldRow) → Among h more.fresh → Among h.base (bases_of rows)
  fresh_row h i = grind (arith, covers, row_fresh, few, among_map)

  -- without the rows that were built it holds what it held
  left : filter is_other (held_by (now w) number) ≡ held
  left = ap (filter is_other) held_is ∙ filter-append is_other held more.fresh
      ∙ ap₂ (λ xs ys. xs ++ ys) (keeps_all is_other held stays) (keeps_none is_other more.fresh goes)
      ∙ append-nil held
    where
      goes : (h : HeldRow) → Among h more.fresh → is_other h ≡ false
      goes h i = ap not (tests_base h.base (bases_of rows) (fresh_row h i))

      stays : (h : HeldRow) → Among h held → is_other h ≡ true
      stays h i = at (list_any (λ base. base == h.base) (bases_of rows)) refl
        where
          at : (x : Bool) → list_any (λ base. base == h.base) (bases_of rows) ≡ x → is_other h ≡ true
          at false e = ap not e
          at true e = let high = high_row h.base (among_bases h.base (bases_of rows) e) in
              let low = old_low h i in absurd (omega arith)

  -- the rows that were built are those that it holds from the first of them on
  named_rows : (base : ℕ) → (now v).next ≤ base → ((b : ℕ) → Among b (bases_of rows) → base ≤ b)
      → map (row_stored w) (filter (is_from base) (held_by (now w) number)) ≡ rows
  named_rows base le first = ap (λ hs. map (row_stored w) (filter (is_from base) hs)) held_is
      ∙ ap (map (row_stored w))
      (filter-append (is_from base) held more.fresh
      ∙ ap₂ (λ xs ys. xs ++ ys)
      (keeps_none (is_from base) held
      (λ h i. let low = old_low h i in lies_below base h (omega arith)))
      (keeps_all (is_from base) more.fresh
      (λ h i. lies_from base h (first h.base (fresh_row h i)))))
      ∙ stored_rows w number s_w rows more.fresh
      (one_rising (bases_of rows) (map (λ h. h.base) more.fresh) owns.rising more.rising row_fresh
      (λ b i. let it = of_map b more.fresh i in
      subst (λ x. Among x (bases_of rows)) it.2 (fresh_row it.0 it.1)))
      owns.stored owns.held
      (λ h i. (among-filter (λ (x : HeldRow). x.caller == number) h (now w).held
      (subst (Among h) (sym held_is) (among_right h held more.fresh i))).0)
    where
      s_w : IsSound w
      s_w = b.sound

      lies_below : (low : ℕ) (h : HeldRow) → h.base < low → is_from low h ≡ false
      lies_below low h less = grind (arith, nat_tests)

      lies_from : (low : ℕ) (h : HeldRow) → low ≤ h.base → is_from low h ≡ true
      lies_from low h over = at (nat_lt h.base low) refl
        where
          at : (x : Bool) → nat_lt h.base low ≡ x → is_from low h ≡ true
          at false e = ap not e
          at true e = absurd (let under : h.base < low = grind (arith, nat_tests) in omega arith)

  -- the rows that the caller holds from the first built one on are exactly those that were built
  pub rows_named : (base : ℕ) → (now v).next ≤ base
      → ((b : ℕ) → Among b (bases_of rows) → base ≤ b) → held_rows_from w base ≡ rows
  rows_named base le first = grind (arith, named_rows)

  -- ---- after the event by which they are no longer held

  module _ (new : Caller) (event : Event) (before : Log) (later : Later w.who w.log before)
      (log_is : new.token.view.log ≡ event ∷ before) (start_is : new.token.view.start ≡ v.start)
      (words_is : new.token.view.words ≡ v.words) (who_is : new.token.view.who ≡ v.who)
      (r : IsSound new.token.view) (number_is : new.number ≡ who.number)
      (spares_is : spares_of new ≡ spares_of who)
      (drops : (t : Snapshot) → (after t event).held ≡ without (bases_of rows) t.held) where
    abbrev x : View
    x = new.token.view

    lawful : Lawful v.start v.words (event ∷ before)
    lawful = grind arith

    now_x : now x ≡ state_of v.start v.words (event ∷ before)
    now_x = ap₂ (λ p n. state_of p n x.log) start_is words_is ∙ ap (state_of v.start v.words) log_is

    mine_later : Later (CallerOf number) w.log before
    mine_later = subst (λ k. Later k w.log before) (ap (λ y. y.who) b.same ∙ c.mine) later

    -- after the event the caller holds what it held before the build
    pub held_back : held_by (now x) number ≡ held
    held_back = ap (λ t. held_by t number) now_x
        ∙ ap (filter (λ (h : HeldRow). h.caller == number)) (drops (state_of v.start v.words before))
        ∙ filter_swap (λ (h : HeldRow). h.caller == number) is_other
        (state_of v.start v.words before).held ∙ ap (filter is_other)
        (held_by_later v.start v.words number w.log before lawful.enabled.0 mine_later
        ∙ ap (λ t. held_by t number) (sym (built_now v w b)))
        ∙ left

    on : LaterBy v.who AnyEvent v.log (event ∷ before)
    on =
        one_more event (later_by_more (later_by_all (λ e i. tt) b.later)
        (subst (λ k. LaterBy k AnyEvent w.log before) (ap (λ y. y.who) b.same) (later_by later))) (inr tt)

    comes : ComesAfter (now v) (now x)
    comes =
        grind (
          arith,
          ComesAfter,
          now_x,
          words_same,
          next_between,
          AnyEvent,
          on,
          grow_between,
          later_by-goes_on,
        )

    sizes_back : sizes_built new ≡ sizes_built who
    sizes_back = grind (arith, held_back)

    -- each build that it holds rows of was refused, if that was so before the build
    pub refused_back : HasRefused who → HasRefused new
    refused_back refused = grind (arith, sizes_back, all_stuck_on, comes)

    rows_back : (kind : Kind) (base : ℕ) → row_of kind (spares_of who) ≡ Some base
        → HoldsRow (now x) number base (kind_words kind)
    rows_back kind base e =
        let h : HeldRow = record { caller = number; base = base; size = kind_words kind } in
        let there = among_filter (λ (y : HeldRow). y.caller == number) h (now v).held
        (c.rows kind base e) (base_same number) in
        (among-filter (λ (y : HeldRow). y.caller == number) h (now x).held
        (subst (Among h) (sym held_back) there)).0

    -- it is a caller
    pub caller_back : IsCaller new
    caller_back = grind (arith, rows_back, builds_on, comes, sizes_back)
