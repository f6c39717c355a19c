-- What one pass made of the woven history is its calls, in their order. Serves
-- `laws.histories_are_made_of_calls`.
use Rattle.std.proofs.Common.{◌≡◌, ℕ, zero, suc, ◌+◌, ◌≤◌, ◌==◌, Bool, true, false, List, [], ◌∷◌, ◌++◌, map, filter, length, slice_get, Some, refl, sym, ap, subst, ◌∙◌, arith}
use Rattle.std.proofs.lemmas.Bool.Decides.{nat_tests}
use Rattle.std.proofs.lemmas.List.{map-append, append-nil, length-map}
use Rattle.ist_core.specs.declared.calls.Call.{Call}
use Rattle.ist_core.specs.LogTerms.{Each, Reading, at_position, told_by_entry, told_by_reading}
use Rattle.ist_core.specs.TreeTerms.{Entry, is_change, entry_by, entries_by, AllFollow, told_by_call}
use Rattle.ist_reopen.specs.Interleaving.{told_to_pass}
use Rattle.ist_reopen.proofs.SplitLemmas.{own_entry, own_reading, owned_from, mine, told_to-append, told_at_position, read_by, reads_at, Rest, Splits, splits, here_changes, here_reads, other_reads}
use Rattle.ist_reopen.proofs.SplitLemmas.Rest.{later, changes}
use Rattle.ist_reopen.proofs.CountLemmas.{MadeAt, shift_made, changes_few}

module _ (number : ℕ) where
  -- the calls are placed among the entries and readings from this position on
  pub record ArePlacedAmong (first : ℕ) (entries : List Entry) (xs : List Reading) (calls : List Call)
      : Type 0 where
    pub order : AllFollow calls
    pub low : Each (λ call. first ≤ call.position) calls
    pub high : Each (λ call. call.position ≤ first + length entries) calls
    -- a call that changes the map is the entry at its position
    pub made : Each (λ call. is_change call ≡ true → MadeAt number first entries call) calls
    pub exactly : entries_by number entries ≡ map (entry_by number) (filter is_change calls)
    -- its readings at a position are its calls there that change nothing, in their order
    pub reads : (position : ℕ) → first ≤ position
        → at_position position (mine number xs) ≡ map (read_by number) (reads_at number position calls)

  -- what a pass was told by its readings
  told_read : (calls : List Call)
      → map told_by_reading (map (read_by number) calls) ≡ map told_by_call calls
  told_read [] = refl
  told_read (call ∷ calls) = ap (λ ts. told_by_call call ∷ ts) (told_read calls)

  -- what holds of all holds of the last ones
  each_back : (P : Call → Type 0) (here rest : List Call) → Each P (here ++ rest) → Each P rest
  each_back P [] rest h = h
  each_back P (call ∷ here) rest h = each_back P here rest h.1

  -- and so do the calls of the rest follow one another
  order_back : (here rest : List Call) → AllFollow (here ++ rest) → AllFollow rest
  order_back [] rest h = h
  order_back (call ∷ here) rest h = order_back here rest h.1

  -- what the pass was told by the readings at the first position
  here_told : (first : ℕ) (entries : List Entry) (xs : List Reading) (calls : List Call)
      → ArePlacedAmong first entries xs calls → (s : Splits number first calls)
      → told_to_pass number (map own_reading (at_position first xs)) ≡ map told_by_call s.here
  here_told first entries xs calls h s =
      grind (arith, told_at_position, read_by, reads_at, here_reads, told_read)

  -- after the last entry there are readings only
  nothing_left : (first : ℕ) (rest : List Call) → Rest number first rest
      → Each (λ call. call.position ≤ first + 0) rest
      → Each (λ call. is_change call ≡ true → MadeAt number first [] call) rest → rest ≡ []
  nothing_left first _ (later {calls = []} low) high made = refl
  nothing_left first _ (later {calls = call ∷ calls} low) high made = grind arith
  nothing_left first _ (changes call e same low) high made = grind arith

  -- later calls are placed among the later entries
  shift_when : (first : ℕ) (entry : Entry) (entries : List Entry) (calls : List Call)
      → Each (λ call. first + 1 ≤ call.position) calls
      → Each (λ call. is_change call ≡ true → MadeAt number first (entry ∷ entries) call) calls
      → Each (λ call. is_change call ≡ true → MadeAt number (first + 1) entries call) calls
  shift_when first entry entries [] low made = tt
  shift_when first entry entries (call ∷ calls) low made = (
    (λ e. shift_made number first entry entries call low.0 (made.0 e)),
    shift_when first entry entries calls low.1 made.1,
  )

  -- positions up to the end, as counted from the next one
  shift_high : (first count : ℕ) (calls : List Call)
      → Each (λ call. call.position ≤ first + suc count) calls
      → Each (λ call. call.position ≤ first + 1 + count) calls
  shift_high first count [] high = tt
  shift_high first count (call ∷ calls) high =
      (let low = high.0 in omega arith, shift_high first count calls high.1)

  -- later calls, if they and the later entries are known
  laid_later : (first : ℕ) (entry : Entry) (entries : List Entry) (xs : List Reading)
      (here rest : List Call) → ArePlacedAmong first (entry ∷ entries) xs (here ++ rest)
      → Each (λ call. (is_change call ≡ false) × (call.position ≡ first)) here
      → (calls : List Call) → AllFollow calls → Each (λ call. first + 1 ≤ call.position) calls
      → Each (λ call. call.position ≤ first + suc (length entries)) calls
      → Each (λ call. is_change call ≡ true → MadeAt number first (entry ∷ entries) call) calls
      → entries_by number entries ≡ map (entry_by number) (filter is_change calls)
      → ((position : ℕ) → reads_at number position rest ≡ reads_at number position calls)
      → ArePlacedAmong (first + 1) entries xs calls
  laid_later first entry entries xs here rest h reads calls order low high made exactly same =
      grind (arith, shift_high, shift_when, read_by, other_reads)

  -- what the pass was told after the readings at the first position
  after_told : (first : ℕ) (entry : Entry) (entries : List Entry) (xs : List Reading)
      (here rest : List Call) → ArePlacedAmong first (entry ∷ entries) xs (here ++ rest)
      → Each (λ call. (is_change call ≡ false) × (call.position ≡ first)) here
      → Rest number first rest
      → ((calls : List Call) → ArePlacedAmong (first + 1) entries xs calls
      → told_to_pass number (owned_from (first + 1) entries xs) ≡ map told_by_call calls)
      → told_to_pass number (own_entry entry ∷ owned_from (first + 1) entries xs)
      ≡ map told_by_call rest
  after_told first entry entries xs here rest h reads (later low) more =
      at (entry.owner == number) refl
    where
      exactly : entries_by number (entry ∷ entries) ≡ map (entry_by number) (filter is_change rest)
      exactly = h.exactly ∙ ap (map (entry_by number)) (here_changes number first here rest reads)

      order : AllFollow rest
      order = order_back here rest h.order

      high : Each (λ call. call.position ≤ first + suc (length entries)) rest
      high = each_back (λ call. call.position ≤ first + suc (length entries)) here rest h.high

      made : Each (λ call. is_change call ≡ true → MadeAt number first (entry ∷ entries) call) rest
      made = grind (arith, each_back, MadeAt)

      at : (v : Bool) → (entry.owner == number) ≡ v
          → told_to_pass number (own_entry entry ∷ owned_from (first + 1) entries xs)
          ≡ map told_by_call rest
      at true e =
          let all : entry ∷ entries_by number entries ≡ map (entry_by number) (filter is_change rest)
          = rw e at exactly in
          let few = changes_few number (first + 1) entries rest order low
          (shift_when first entry entries rest low made) in
          let long = ap length all in
          let same = length-map (filter is_change rest) (entry_by number) in absurd (omega arith)
      at false e =
          let all : entries_by number entries ≡ map (entry_by number) (filter is_change rest)
          = rw e at exactly in
          rw e (more rest (laid_later first entry entries xs here rest h reads rest order low high made
          all (λ position. refl)))
  after_told first entry entries xs here _ h reads (changes {calls = calls} call e same low) more =
      rw owner (ap (λ ts. told_by_entry entry ∷ ts)
      (more calls (laid_later first entry entries xs here (call ∷ calls) h reads calls
      (order_back here (call ∷ calls) h.order).1 low high.1 made.1 (cc (all))
      (λ position. rw e refl)))
      ∙ ap (λ (x : Entry). told_by_entry x ∷ map told_by_call calls) is)
    where
      high : Each (λ call. call.position ≤ first + suc (length entries)) (call ∷ calls)
      high = grind (arith, each_back)

      made : Each (λ call. is_change call ≡ true → MadeAt number first (entry ∷ entries) call)
          (call ∷ calls)
      made = each_back (λ call. is_change call ≡ true → MadeAt number first (entry ∷ entries) call)
          here (call ∷ calls) h.made

      head : (step : ℕ) → call.position ≡ first + step
          → slice_get (entry ∷ entries) step ≡ Some (entry_by number call)
          → entry ≡ entry_by number call
      head zero s k = cc
      head (suc step) s k = absurd (omega arith)

      is : entry ≡ entry_by number call
      is = let m = made.0 e in head m.step m.position_is m.entry_is

      owner : (entry.owner == number) ≡ true
      owner = grind (arith, is, nat_tests)

      exactly : entries_by number (entry ∷ entries)
          ≡ map (entry_by number) (filter is_change (call ∷ calls))
      exactly = grind (arith, here_changes)

      all : entry ∷ entries_by number entries
          ≡ entry_by number call ∷ map (entry_by number) (filter is_change calls)
      all = rw e at (rw owner at exactly)

  -- what the pass was told from a position on is its calls from there on
  pub laid : (first : ℕ) (entries : List Entry) (xs : List Reading) (calls : List Call)
      → ArePlacedAmong first entries xs calls
      → told_to_pass number (owned_from first entries xs) ≡ map told_by_call calls
  laid first [] xs calls h = let s = splits number first calls h.order h.low in
      let high = each_back (λ call. call.position ≤ first + 0) s.here s.rest
      (subst (Each (λ call. call.position ≤ first + 0)) s.is h.high) in
      let made = each_back (λ call. is_change call ≡ true → MadeAt number first [] call) s.here
      s.rest (subst (Each (λ call. is_change call ≡ true → MadeAt number first [] call)) s.is h.made)
      in
      let none = nothing_left first s.rest s.following high made in here_told first [] xs calls h s
      ∙ ap (map told_by_call) (sym (s.is ∙ ap (λ cs. s.here ++ cs) none ∙ append-nil s.here))
  laid first (entry ∷ entries) xs calls h = let s = splits number first calls h.order h.low in
      let tail = own_entry entry ∷ owned_from (first + 1) entries xs in
      told_to-append number (map own_reading (at_position first xs)) tail
      ∙ ap (λ ts. ts ++ told_to_pass number tail) (here_told first (entry ∷ entries) xs calls h s)
      ∙ ap (λ ts. map told_by_call s.here ++ ts)
      (after_told first entry entries xs s.here s.rest
      (subst (ArePlacedAmong first (entry ∷ entries) xs) s.is h) s.reads s.following
      (λ cs k. laid (first + 1) entries xs cs k))
      ∙ sym (map-append told_by_call s.here s.rest)
      ∙ ap (map told_by_call) (sym s.is)
