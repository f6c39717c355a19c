-- As many changes of one owner as it has calls at their positions: each is the change of such a call.
-- Serves `laws.made_calls_are_linearizable`.
use Rattle.std.proofs.Common.{◌≡◌, ◌≢◌, ◌⊎◌, ℕ, zero, suc, ◌+◌, ◌<◌, ◌≤◌, List, [], ◌∷◌, length, slice_get, Some, refl, ap, ◌∙◌, ⊎_elim, arith}
use Rattle.std.proofs.lemmas.Bool.Decides.{eqb_tells}
use Rattle.std.proofs.lemmas.Option.{same_Some}
use Rattle.ist_core.specs.declared.calls.Call.{Call}
use Rattle.ist_core.specs.LogTerms.{Among, Each}
use Rattle.ist_core.specs.TreeTerms.{Entry, entry_by, entries_by}
use Rattle.ist_core.proofs.AllWordLemmas.{each-among, each_of}
use Rattle.laws_real_time.proofs.PairLemmas.{Pairwise}

module _ (number : ℕ) where
  -- the call's entry is at its position, in entries that begin at an offset
  pub record IsAtIndex (entries : List Entry) (offset : ℕ) (call : Call) : Type 0 where
    pub index : ℕ
    pub position_is : call.position ≡ offset + index
    pub entry : slice_get entries index ≡ Some (entry_by number call)

  -- the first entry is the owner's, or not
  owner_cases : (entry : Entry) (entries : List Entry)
      → ((entry.owner ≡ number)
      × (length (entries_by number (entry ∷ entries)) ≡ length (entries_by number entries) + 1))
      ⊎ ((entry.owner ≢ number)
      × (length (entries_by number (entry ∷ entries)) ≡ length (entries_by number entries)))
  owner_cases entry entries = grind (arith, eqb_tells)

  -- no fewer with one more entry
  pub count_rises : (entry : Entry) (entries : List Entry)
      → length (entries_by number entries) ≤ length (entries_by number (entry ∷ entries))
  count_rises entry entries = grind (arith, owner_cases)

  -- a call past the first entry is at its place among the others
  past_first : (entry : Entry) (entries : List Entry) (offset : ℕ) (call : Call)
      → IsAtIndex (entry ∷ entries) offset call → offset < call.position
      → IsAtIndex entries (offset + 1) call
  past_first entry entries offset call a l = grind arith

  -- calls after the first one are past the entries up to its own
  rest_past : (entry : Entry) (entries : List Entry) (offset : ℕ) (call : Call) (calls : List Call)
      → offset ≤ call.position → Each (λ later. call.position < later.position) calls
      → Each (IsAtIndex (entry ∷ entries) offset) calls
      → Each (IsAtIndex entries (offset + 1)) calls
  rest_past entry entries offset call calls low rise all =
      grind (arith, each_of, each-among, past_first)

  -- there are as many entries as calls
  pub calls_fit : (entries : List Entry) (offset : ℕ) (calls : List Call)
      → Pairwise (λ a b. a.position < b.position) calls → Each (IsAtIndex entries offset) calls
      → length calls ≤ length (entries_by number entries)
  calls_fit entries offset [] rise all = omega arith
  calls_fit [] offset (call ∷ calls) rise all = absurd (cc (all.0.entry))
  calls_fit (entry ∷ entries) offset (call ∷ calls) rise all =
      at all.0.index refl (calls_fit entries (offset + 1) calls rise.1)
      (calls_fit entries (offset + 1) (call ∷ calls) rise)
    where
      low : offset ≤ call.position
      low = let position = all.0.position_is in omega arith

      rest : Each (IsAtIndex entries (offset + 1)) calls
      rest = rest_past entry entries offset call calls low rise.0 all.1

      at : (index : ℕ) → all.0.index ≡ index
          → (Each (IsAtIndex entries (offset + 1)) calls
          → length calls ≤ length (entries_by number entries))
          → (Each (IsAtIndex entries (offset + 1)) (call ∷ calls)
          → length (call ∷ calls) ≤ length (entries_by number entries))
          → length (call ∷ calls) ≤ length (entries_by number (entry ∷ entries))
      at zero e one both = grind (arith, rest, same_Some, owner_cases)
      at (suc i) e one both = grind (arith, past_first, rest, count_rises)

  -- a call at a place
  pub record IsFound (calls : List Call) (place : ℕ) : Type 0 where
    pub call : Call
    pub among : Among call calls
    pub position_is : call.position ≡ place

  -- an entry of the owner is one
  pub has_one : (entries : List Entry) (i : ℕ) (e : Entry) → slice_get entries i ≡ Some e
      → e.owner ≡ number → 1 ≤ length (entries_by number entries)
  has_one [] i e h o = absurd (cc)
  has_one (entry ∷ entries) zero e h o = grind (arith, same_Some, owner_cases)
  has_one (entry ∷ entries) (suc i) e h o = let some = has_one entries i e h o in
      let more = count_rises entry entries in omega arith

  -- two entries of the owner are one, if it has only one
  pub only_one : (entries : List Entry) → length (entries_by number entries) ≤ 1
      → (i j : ℕ) (e f : Entry) → slice_get entries i ≡ Some e → slice_get entries j ≡ Some f
      → e.owner ≡ number → f.owner ≡ number → i ≡ j
  only_one [] few i j e f h k o q = absurd (cc)
  only_one (entry ∷ entries) few zero zero e f h k o q = refl
  only_one (entry ∷ entries) few zero (suc j) e f h k o q =
      grind (arith, has_one, same_Some, owner_cases)
  only_one (entry ∷ entries) few (suc i) zero e f h k o q =
      grind (arith, has_one, same_Some, owner_cases)
  only_one (entry ∷ entries) few (suc i) (suc j) e f h k o q =
      let more = count_rises entry entries in
      ap suc (only_one entries (omega arith) i j e f h k o q)

  -- if there are no more entries than calls, each entry is the change of a call
  pub entry_found : (entries : List Entry) (offset : ℕ) (calls : List Call)
      → Pairwise (λ a b. a.position < b.position) calls → Each (IsAtIndex entries offset) calls
      → length (entries_by number entries) ≤ length calls
      → (i : ℕ) (e : Entry) → slice_get entries i ≡ Some e → e.owner ≡ number
      → IsFound calls (offset + i)
  entry_found entries offset [] rise all few i e h o = grind (arith, has_one)
  entry_found [] offset (call ∷ calls) rise all few i e h o = absurd (cc)
  entry_found (entry ∷ entries) offset (call ∷ calls) rise all few i e h o = at all.0.index i refl h
      (entry_found entries (offset + 1) calls rise.1)
      (entry_found entries (offset + 1) (call ∷ calls) rise)
    where
      low : offset ≤ call.position
      low = let position = all.0.position_is in omega arith

      rest : Each (IsAtIndex entries (offset + 1)) calls
      rest = rest_past entry entries offset call calls low rise.0 all.1

      later : (i : ℕ) → IsFound calls ((offset + 1) + i) → IsFound (call ∷ calls) (offset + suc i)
      later i f = grind arith

      same : (i : ℕ) → IsFound (call ∷ calls) ((offset + 1) + i)
          → IsFound (call ∷ calls) (offset + suc i)
      same i f = grind arith

      at : (index i : ℕ) → all.0.index ≡ index → slice_get (entry ∷ entries) i ≡ Some e
          → (Each (IsAtIndex entries (offset + 1)) calls
          → length (entries_by number entries) ≤ length calls
          → (i : ℕ) (e : Entry) → slice_get entries i ≡ Some e → e.owner ≡ number
          → IsFound calls ((offset + 1) + i))
          → (Each (IsAtIndex entries (offset + 1)) (call ∷ calls)
          → length (entries_by number entries) ≤ length (call ∷ calls)
          → (i : ℕ) (e : Entry) → slice_get entries i ≡ Some e → e.owner ≡ number
          → IsFound (call ∷ calls) ((offset + 1) + i))
          → IsFound (call ∷ calls) (offset + i)
      at zero zero is k one both = grind arith
      at zero (suc j) is k one both = grind (arith, same_Some, later, rest, owner_cases)
      at (suc n) zero is k one both = let position = all.0.position_is in
          let past = past_first entry entries offset call all.0 (omega arith) in
          let fit = calls_fit entries (offset + 1) (call ∷ calls) rise (past, rest) in ⊎_elim
          (λ t. absurd (omega (arith, t.1, few, fit)))
          (λ t. absurd (t.0 (ap (λ (x : Entry). x.owner) (same_Some entry e k) ∙ o)))
          (owner_cases entry entries)
      at (suc n) (suc j) is k one both =
          grind (arith, past_first, calls_fit, rest, same, owner_cases)
