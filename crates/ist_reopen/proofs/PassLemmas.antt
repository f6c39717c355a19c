-- The calls of each pass of a generation are placed among its changes and readings, and the history
-- is made of them. Serves `laws.histories_are_made_of_calls`.
use Rattle.std.proofs.Common.{◌≡◌, ◌⊎◌, ℕ, zero, suc, ◌+◌, ◌<◌, ◌≤◌, ◌==◌, not, Bool, true, false, List, [], ◌∷◌, ◌++◌, map, filter, length, slice_get, slice_index_or, Some, refl, sym, ap, subst, ◌∙◌, ⊎_elim, arith}
use Rattle.std.proofs.lemmas.Bool.Decides.{nat_tests}
use Rattle.std.proofs.lemmas.List.{map-append, append-nil}
use Rattle.std.proofs.lemmas.List.Elements.{filter-append}
use Rattle.ist_core.specs.declared.calls.Call.{Call}
use Rattle.ist_core.specs.declared.pairs.Pair.{Pair}
use Rattle.ist_core.specs.LogTerms.{Among, Each, Log, Reading, readings, in_order, at_position}
use Rattle.ist_core.specs.TreeTerms.{Entry, is_change, entry_by, entries_by, StandsIn, AllFollow, Follows, AllStandIn, told_by_call}
use Rattle.ist_core.proofs.AllWordLemmas.{each_of}
use Rattle.laws_histories.specs.Weaving.{numbered}
use Rattle.ist_reopen.specs.Generations.{Generation, IsGeneration, FollowOn, changes_in, history_in, history, pairs_left, calls_of}
use Rattle.ist_reopen.specs.Interleaving.{IsMadeOf, told_over, told_to_pass}
use Rattle.ist_reopen.proofs.SplitLemmas.{owned_from, told_owned, told_to-append, mine, StampsClimb, in_order_mine, read_by}
use Rattle.ist_reopen.proofs.CountLemmas.{MadeAt}
use Rattle.ist_reopen.proofs.LaidLemmas.{ArePlacedAmong, laid}

-- the calls that change nothing
abbrev pub plain : List Call → List Call
plain calls = filter (λ call. not (is_change call)) calls

-- ---- the readings of one pass among those of all

module _ (number : ℕ) where
  -- all readings of this pass are its own
  own_all : (calls : List Call)
      → mine number (map (read_by number) calls) ≡ map (read_by number) calls
  own_all [] = refl
  own_all (call ∷ calls) = let same : (number == number) ≡ true = grind (arith, nat_tests) in
      rw same (ap (λ xs. read_by number call ∷ xs) (own_all calls))

  -- none of another pass is
  own_none : (other : ℕ) → (other == number) ≡ false → (calls : List Call)
      → mine number (map (read_by other) calls) ≡ []
  own_none other e [] = refl
  own_none other e (call ∷ calls) = rw e (own_none other e calls)

  -- passes with higher numbers have none
  none_of : (first : ℕ) (lists : List (List Call)) → number < first
      → mine number (readings (numbered first lists)) ≡ []
  none_of first [] low = refl
  none_of first (calls ∷ more) low =
      let no : (first == number) ≡ false = grind (arith, nat_tests) in
      filter-append (λ x. x.number == number) (map (read_by first) (plain calls))
      (readings (numbered (first + 1) more))
      ∙ ap (λ xs. xs ++ mine number (readings (numbered (first + 1) more)))
      (own_none first no (plain calls))
      ∙ none_of (first + 1) more (omega arith)

  -- the readings of this pass are those of its list
  one_of : (first : ℕ) (lists : List (List Call)) (k : ℕ) → number ≡ first + k
      → mine number (readings (numbered first lists))
      ≡ map (read_by number) (plain (slice_index_or lists k []))
  one_of first [] zero same = refl
  one_of first [] (suc k) same = refl
  one_of first (calls ∷ more) zero same =
      grind (arith, filter-append, read_by, mine, none_of, append-nil, own_all)
  one_of first (calls ∷ more) (suc k) same =
      let no : (first == number) ≡ false = grind (arith, nat_tests) in
      filter-append (λ x. x.number == number) (map (read_by first) (plain calls))
      (readings (numbered (first + 1) more))
      ∙ ap (λ xs. xs ++ mine number (readings (numbered (first + 1) more)))
      (own_none first no (plain calls))
      ∙ one_of (first + 1) more k (omega arith)

  -- readings at a position, by their calls
  at_read : (position : ℕ) (calls : List Call) → at_position position (map (read_by number) calls)
      ≡ map (read_by number) (filter (λ call. call.position == position) calls)
  at_read position [] = refl
  at_read position (call ∷ calls) = at (at_read position calls) (call.position == position) refl
    where
      at : at_position position (map (read_by number) calls)
          ≡ map (read_by number) (filter (λ call. call.position == position) calls)
          → (v : Bool) → (call.position == position) ≡ v
          → at_position position (map (read_by number) (call ∷ calls))
          ≡ map (read_by number) (filter (λ call. call.position == position) (call ∷ calls))
      at rest true e = rw e (ap (λ xs. read_by number call ∷ xs) rest)
      at rest false e = rw e rest

  -- the stamps of later readings are higher
  stamps_above : (call : Call) (calls : List Call) → Each (Follows call) calls
      → Each (λ x. call.stamp < x.call.stamp) (map (read_by number) (plain calls))
  stamps_above call [] h = tt
  stamps_above call (other ∷ calls) h = at (stamps_above call calls h.1) (is_change other) refl
    where
      at : Each (λ x. call.stamp < x.call.stamp) (map (read_by number) (plain calls))
          → (v : Bool) → is_change other ≡ v
          → Each (λ x. call.stamp < x.call.stamp) (map (read_by number) (plain (other ∷ calls)))
      at rest true e = rw e rest
      at rest false e = rw e (h.0.stamp, rest)

  -- the stamps of a pass's readings rise
  pub stamps_climb : (calls : List Call) → AllFollow calls
      → StampsClimb (map (read_by number) (plain calls))
  stamps_climb [] order = tt
  stamps_climb (call ∷ calls) order = at (stamps_climb calls order.1) (is_change call) refl
    where
      at : StampsClimb (map (read_by number) (plain calls)) → (v : Bool) → is_change call ≡ v
          → StampsClimb (map (read_by number) (plain (call ∷ calls)))
      at rest true e = rw e rest
      at rest false e = rw e (stamps_above call calls order.0, rest)

-- ---- the calls of each pass of a generation

-- an entry that is there is below the length
get_below : (entries : List Entry) (i : ℕ) (entry : Entry) → slice_get entries i ≡ Some entry
    → i < length entries
get_below [] zero entry e = absurd (cc)
get_below [] (suc i) entry e = absurd (cc)
get_below (x ∷ entries) zero entry e = omega arith
get_below (x ∷ entries) (suc i) entry e = let low = get_below entries i entry e in omega arith

-- the list with this number is placed in the log
stand_of : (pairs : List Pair) (words : ℕ) (log : Log) (first : ℕ) (lists : List (List Call))
    → AllStandIn pairs words log first lists → (k : ℕ) → k < length lists
    → StandsIn pairs words log (first + k) (slice_index_or lists k [])
stand_of pairs words log first [] h k low = absurd (omega arith)
stand_of pairs words log first (calls ∷ more) h zero low = grind arith
stand_of pairs words log first (calls ∷ more) h (suc k) low =
    let same : first + 1 + k ≡ first + suc k = omega arith in
    subst (λ n. StandsIn pairs words log n (slice_index_or more k [])) same
    (stand_of pairs words log (first + 1) more h.1 k (omega arith))

-- there is no list past the last
index_past : (lists : List (List Call)) (k : ℕ) → length lists ≤ k → slice_index_or lists k [] ≡ []
index_past [] zero low = refl
index_past [] (suc k) low = refl
index_past (calls ∷ more) zero low = absurd (omega arith)
index_past (calls ∷ more) (suc k) low = index_past more k (omega arith)

-- nor an entry of a pass with a number past the last
none_past : (count number : ℕ) → count ≤ number → (entries : List Entry)
    → Each (λ entry. entry.owner < count) entries → entries_by number entries ≡ []
none_past count number past [] h = refl
none_past count number past (entry ∷ entries) h = let low = h.0 in
    let no : (entry.owner == number) ≡ false = grind (arith, nat_tests) in
    rw no (none_past count number past entries h.1)

either : (m n : ℕ) → (m ≤ n) ⊎ (n < m)
either m n = grind arith

-- the calls with each number are placed in the log, also if there is no such pass
stand_each : (g : Generation) → IsGeneration g → (number : ℕ)
    → StandsIn g.start g.words g.log number (calls_of g number)
stand_each g h number = ⊎_elim
    (λ past. subst (StandsIn g.start g.words g.log number) (sym (index_past g.calls number past))
    record {
      made = λ call i e. absurd i;
      exactly = none_past (length g.calls) number past (changes_in g) h.owners;
      read = λ call i e. absurd i;
      in_order = tt;
    })
    (λ low. let same : 0 + number ≡ number = omega arith in
    subst (λ n. StandsIn g.start g.words g.log n (calls_of g number)) same
    (stand_of g.start g.words g.log 0 g.calls h.stand number low))
    (either (length g.calls) number)

-- so they are placed among the changes and the readings
laid_all : (g : Generation) → IsGeneration g → (number : ℕ)
    → ArePlacedAmong number 0 (changes_in g) (in_order (readings (numbered 0 g.calls))) (calls_of g number)
laid_all g h number = record {
  order = stands.in_order;
  low = each_of (λ call. 0 ≤ call.position) calls (λ call i. omega arith);
  high = each_of (λ call. call.position ≤ 0 + length (changes_in g)) calls
      (λ call i. high call i (is_change call) refl);
  made = each_of (λ call. is_change call ≡ true → MadeAt number 0 (changes_in g) call) calls
      (λ call i e.
      record { step = call.position; position_is = omega arith; entry_is = stands.made call i e });
  exactly = stands.exactly;
  reads = λ position from. ap (at_position position)
      (in_order_mine number xs
      (subst StampsClimb (sym one) (stamps_climb number calls stands.in_order)) ∙ one)
      ∙ at_read number position (plain calls);
}
  where
    calls : List Call
    calls = calls_of g number

    xs : List Reading
    xs = readings (numbered 0 g.calls)

    stands : StandsIn g.start g.words g.log number calls
    stands = stand_each g h number

    one : mine number xs ≡ map (read_by number) (plain calls)
    one = one_of number 0 g.calls number (omega arith)

    high : (call : Call) → Among call calls → (v : Bool) → is_change call ≡ v
        → call.position ≤ 0 + length (changes_in g)
    high call i true e =
        let low = get_below (changes_in g) call.position (entry_by number call)
        (stands.made call i e) in
        omega arith
    high call i false e = let low = (stands.read call i e).within in omega arith

-- ---- one history

-- the history of a generation is made of the calls of its passes
pub generation_made : (g : Generation) → IsGeneration g
    → IsMadeOf (λ number. map told_by_call (calls_of g number)) (history_in g)
generation_made g h = let xs = in_order (readings (numbered 0 g.calls)) in record {
  owned = owned_from 0 (changes_in g) xs;
  told_are = told_owned 0 (changes_in g) xs;
  each = λ number. laid number 0 (changes_in g) xs (calls_of g number) (laid_all g h number);
}

-- the history over all trees is made of the calls over all trees
pub made_over : (first last : List Pair) (gs : List Generation) → FollowOn first gs last
    → IsMadeOf (told_over gs) (history gs)
made_over first last [] h = record { owned = []; told_are = refl; each = λ number. refl }
made_over first last (g ∷ gs) h = let one = generation_made g h.1 in
    let more = made_over (pairs_left g) last gs h.2 in record {
      owned = one.owned ++ more.owned;
      told_are = map-append (λ x. x.told) one.owned more.owned
          ∙ ap (λ ts. ts ++ map (λ x. x.told) more.owned) one.told_are
          ∙ ap (λ ts. history_in g ++ ts) more.told_are;
      each = λ number. told_to-append number one.owned more.owned
          ∙ ap (λ ts. ts ++ told_to_pass number more.owned) (one.each number)
          ∙ ap (λ ts. map told_by_call (calls_of g number) ++ ts) (more.each number);
    }
