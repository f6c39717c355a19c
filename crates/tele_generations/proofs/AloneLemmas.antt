-- A list of calls whose commands have only keys of its own lane is answered as if it were alone.
-- Serves `laws.lists_answer_alone`.
use Rattle.std.proofs.Common.{◌≡◌, ℕ, ◌+◌, ◌-◌, ◌≤◌, ◌%◌, Bool, true, false, List, [], ◌∷◌, map, filter, length, refl, sym, ap, ◌∙◌, subst, inl, inr, arith}
use Rattle.std.proofs.lemmas.Bool.Decides.{eqb_tells}
use Rattle.std.proofs.lemmas.List.{length-map}
use Rattle.ist_core.specs.declared.calls.Call.{Call}
use Rattle.ist_core.specs.TreeTerms.{Map, key_of, map_after, reply_to, Entry, map_after_entries, is_change, entry_by, entries_by, told_by_call}
use Rattle.ist_core.specs.LogTerms.{Among, Each, IsLegal}
use Rattle.laws_histories.specs.Telling.{AreLegal}
use Rattle.laws_histories.proofs.MapLemmas.{same_head, same_tail, same_cons, map_told, no_entry_leaves}
use Rattle.tele_lanes.specs.Lanes.{lane_of}
use Rattle.tele_lanes.proofs.AloneLemmas.{Agree, get-map_after_same, get-map_after_other}
use Rattle.tele_generations.proofs.StandLemmas.{StandFrom, stand_rest, stand_after, all_after, rest_after, first_made, own_entry, other_entry, TestsAs, few_none, changing_few}

-- the calls of the lane belong to the entries, in which each owner keeps to its lane; and `n` has
-- what the lane sees of `m`
pub record OnItsLane (workers number : ℕ) (m n : Map) (es : List Entry) (from : ℕ)
    (calls : List Call) : Type 0 where
  pub stand : StandFrom m es number from calls
  pub exactly : entries_by number es ≡ map (entry_by number) (filter is_change calls)
  pub legal : AreLegal m es
  pub lanes : Each (λ e. lane_of workers e.command ≡ e.owner) es
  pub agree : Agree workers number m n

-- the commands of the calls have the keys of this lane
abbrev pub OfLane : ℕ → ℕ → List Call → Type 0
OfLane workers number calls = Each (λ c. lane_of workers c.command ≡ number) calls

-- the replies of the lane come from `n`, and after all entries it sees what its commands leave
pub record IsAlone (workers number : ℕ) (m n : Map) (es : List Entry)
    (calls : List Call) : Type 0 where
  pub legal : IsLegal n (map told_by_call calls)
  pub agree : Agree workers number (map_after_entries m es) (map_told n (map told_by_call calls))

-- a reading before calls that are answered as if alone
reading_alone : (workers number : ℕ) (m n : Map) (es : List Entry) (call : Call) (calls : List Call)
    → call.reply ≡ reply_to n call.command → is_change call ≡ false
    → IsAlone workers number m n es calls → IsAlone workers number m n es (call ∷ calls)
reading_alone workers number m n es call calls reply plain a =
    grind (arith, no_entry_leaves, same_cons, Agree, map_told)

-- the calls after a reading
rest_on : (workers number : ℕ) (m n : Map) (es : List Entry) (from : ℕ) (call : Call)
    (calls : List Call)
    → is_change call ≡ false → OnItsLane workers number m n es from (call ∷ calls)
    → OnItsLane workers number m n es from calls
rest_on workers number m n es from call calls plain x =
    let same : filter is_change (call ∷ calls) ≡ filter is_change calls = rw plain refl in record {
      stand = stand_rest m es number from call calls x.stand;
      exactly = x.exactly ∙ ap (map (entry_by number)) same;
      legal = x.legal;
      lanes = x.lanes;
      agree = x.agree;
    }

-- the first call, if it is a reading, has the reply of what the lane sees
reading_first : (workers number : ℕ) (m n : Map) (es : List Entry) (from : ℕ) (call : Call)
    (calls : List Call)
    → OnItsLane workers number m n es from (call ∷ calls) → lane_of workers call.command ≡ number
    → is_change call ≡ false → call.position ≡ from → call.reply ≡ reply_to n call.command
reading_first workers number m n es from call calls x here plain same =
    let read = x.stand.read call 0 (inl refl) plain (omega arith) in
    read.1 ∙ x.agree (key_of call.command) here

-- after the last entry only readings are left
alone_none : (workers number : ℕ) (m n : Map) (from : ℕ) (calls : List Call)
    → OnItsLane workers number m n [] from calls → OfLane workers number calls
    → IsAlone workers number m n [] calls
alone_none workers number m n from [] x kept = record { legal = refl; agree = x.agree }
alone_none workers number m n from (call ∷ calls) x kept = at (is_change call) refl
    (λ y. alone_none workers number m n from calls y kept.1)
  where
    at : (v : Bool) → is_change call ≡ v
        → (OnItsLane workers number m n [] from calls → IsAlone workers number m n [] calls)
        → IsAlone workers number m n [] (call ∷ calls)
    at true e rest = grind (arith, few_none)
    at false e rest = let low = x.stand.low call (inl refl) in
        let within = (x.stand.read call (call.position - from) (inl refl) e (omega arith)).0 in
        reading_alone workers number m n [] call calls
        (reading_first workers number m n [] from call calls x kept.0 e (omega arith)) e
        (rest (rest_on workers number m n [] from call calls e x))

module _ (workers number : ℕ) (m : Map) (from : ℕ) where
  -- what is known of the calls after an entry
  Later : Entry → List Entry → Type 0
  Later e es = (n : Map) (calls : List Call)
      → OnItsLane workers number (map_after m e.command) n es (from + 1) calls
      → OfLane workers number calls → IsAlone workers number (map_after m e.command) n es calls

  -- an entry that precedes all calls is another lane's
  alone_skip : (e : Entry) (es : List Entry) → Later e es → (n : Map) (calls : List Call)
      → OnItsLane workers number m n (e ∷ es) from calls → OfLane workers number calls
      → ((call : Call) → Among call calls → from + 1 ≤ call.position)
      → IsAlone workers number m n (e ∷ es) calls
  unfolding Later
  alone_skip e es later n calls x kept high = at (eqb_tells e.owner number)
    where
      following : StandFrom (map_after m e.command) es number (from + 1) calls
      following = stand_after m e es number from calls x.stand high

      at : TestsAs e.owner number → IsAlone workers number m n (e ∷ es) calls
      at (inl own) =
          let few = changing_few number es (map_after m e.command) (from + 1) calls following in
          let long = ap length (own_entry number e es own.1) in let all = ap length x.exactly in
          let same = length-map (filter is_change calls) (entry_by number) in absurd (omega arith)
      at (inr other) =
          let a = later n calls record {
            stand = following;
            exactly = sym (other_entry number e es other.1) ∙ x.exactly;
            legal = same_tail _ _ _ _ x.legal;
            lanes = x.lanes.1;
            agree = λ q here. get-map_after_other m e.command q
                (λ key. other.1 (sym x.lanes.0 ∙ ap (λ k. k % workers) (sym key) ∙ here))
                ∙ x.agree q here;
          } kept in
          record { legal = a.legal; agree = a.agree }

  -- a call that makes the entry
  alone_change : (call : Call) (es : List Entry) → Later (entry_by number call) es
      → (n : Map) (calls : List Call)
      → OnItsLane workers number m n (entry_by number call ∷ es) from (call ∷ calls)
      → OfLane workers number (call ∷ calls)
      → is_change call ≡ true → IsAlone workers number m n (entry_by number call ∷ es)
      (call ∷ calls)
  unfolding Later
  alone_change call es later n calls x kept changes = let e = entry_by number call in
      let rest = stand_rest m (e ∷ es) number from call calls x.stand in
      let same : filter is_change (call ∷ calls)
      ≡ call ∷ filter is_change calls = rw changes refl in
      let a = later (map_after n call.command) calls record {
        stand = stand_after m e es number from calls rest
            (rest_after m (e ∷ es) number from call calls x.stand changes);
        exactly = entries_tail
            (sym (own_entry number e es refl) ∙ x.exactly ∙ ap (map (entry_by number)) same);
        legal = same_tail _ _ _ _ x.legal;
        lanes = x.lanes.1;
        agree = λ q here. get-map_after_same m n call.command q (x.agree q here);
      } kept.1 in
      record {
        legal = same_cons _ _ _ _
            (sym (x.agree (key_of call.command) kept.0) ∙ same_head _ _ _ _ x.legal) a.legal;
        agree = a.agree;
      }
    where
      entries_tail : {d : Entry} {xs ys : List Entry} → d ∷ xs ≡ d ∷ ys → xs ≡ ys
      entries_tail e = cc

  -- at an entry the calls there come first, and then the calls after it
  alone_step : (e : Entry) (es : List Entry) → Later e es → (n : Map) (calls : List Call)
      → OnItsLane workers number m n (e ∷ es) from calls → OfLane workers number calls
      → IsAlone workers number m n (e ∷ es) calls
  alone_step e es later n [] x kept = alone_skip e es later n [] x kept (λ call i. absurd i)
  alone_step e es later n (call ∷ calls) x kept =
      at (eqb_tells call.position from) (is_change call) refl
      (λ y. alone_step e es later n calls y kept.1)
    where
      at : TestsAs call.position from → (v : Bool) → is_change call ≡ v
          → (OnItsLane workers number m n (e ∷ es) from calls → IsAlone workers number m n
          (e ∷ es) calls)
          → IsAlone workers number m n (e ∷ es) (call ∷ calls)
      at (inr differ) v c rest = alone_skip e es later n (call ∷ calls) x kept
          (all_after m (e ∷ es) number from call calls x.stand differ.1)
      at (inl same) false c rest = reading_alone workers number m n (e ∷ es) call calls
          (reading_first workers number m n (e ∷ es) from call calls x kept.0 c same.1) c
          (rest (rest_on workers number m n (e ∷ es) from call calls c x))
      at (inl same) true c rest =
          let first = first_made m e es number from call calls x.stand c same.1 in
          subst (λ d. Later d es → OnItsLane workers number m n (d ∷ es) from (call ∷ calls)
          → IsAlone workers number m n (d ∷ es) (call ∷ calls)) (sym first)
          (λ l y. alone_change call es l n calls y kept c) later x

-- a list of calls is answered as if alone, if the entries that it doesn't make are other lanes'
pub alone : (workers number : ℕ) (es : List Entry) (m n : Map) (from : ℕ) (calls : List Call)
    → OnItsLane workers number m n es from calls → OfLane workers number calls
    → IsAlone workers number m n es calls
unfolding Later
alone workers number [] m n from calls x kept = alone_none workers number m n from calls x kept
alone workers number (e ∷ es) m n from calls x kept = alone_step workers number m from e es
    (λ k cs y kp. alone workers number es (map_after m e.command) k (from + 1) cs y kp)
    n calls x kept
