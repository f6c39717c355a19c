-- The lists of calls of a log at rest, each on its own lane. Serves `laws.lists_answer_alone`.
use Rattle.std.proofs.Common.{◌≡◌, ℕ, zero, suc, ◌+◌, ◌<◌, ◌%◌, ◌==◌, List, [], ◌∷◌, map, filter, length, get_or, slice_get, Option, Some, refl, sym, ap, ◌∙◌, subst, inl, inr, arith}
use Rattle.std.proofs.lemmas.List.{length-map, get_or-map}
use Rattle.std.proofs.lemmas.Bool.{eq-eqb}
use Rattle.std.specs.FinMap as fin
use Rattle.ist_core.specs.declared.calls.Call.{Call}
use Rattle.ist_core.specs.declared.pairs.Pair.{Pair}
use Rattle.ist_core.specs.TreeTerms.{map_of, replay, Entry, changes_of, is_change, entry_by, StandsIn, AllStandIn, told_by_call}
use Rattle.ist_core.specs.LogTerms.{Answered, Among, Each, Log, IsLegal}
use Rattle.ist_core.proofs.AllWordLemmas.{each-among, among-filter, among_filter, get_among}
use Rattle.laws_histories.specs.Telling.{map_now}
use Rattle.laws_histories.proofs.ContentLemmas.{told_at}
use Rattle.laws_histories.proofs.EntryLemmas.{entry_update}
use Rattle.tele_lanes.specs.Lanes.{lane_of}
use Rattle.tele_generations.specs.Alone.{RestsWith, KeepToLanes, commands_told}
use Rattle.tele_generations.proofs.StandLemmas.{stand_from}
use Rattle.tele_generations.proofs.AloneLemmas.{OfLane, IsAlone, alone}
use Rattle.laws_links.proofs.StartingLemmas.{owner_known}

-- ---- lists

module _ {A : Type 0} where
  -- what holds at each place holds of each element
  pub each_get : (P : A → Type 0) (xs : List A)
      → ((i : ℕ) (x : A) → slice_get xs i ≡ Some x → P x) → Each P xs
  each_get P [] h = tt
  each_get P (x ∷ xs) h = (h 0 x refl, each_get P xs (λ i y e. h (suc i) y e))

  -- an element of an image is the image of an element
  pub from_map : {B : Type 0} (f : A → B) (y : B) (xs : List A) → Among y (map f xs)
      → (x : A) × Among x xs × (y ≡ f x)
  from_map f y [] h = absurd h
  from_map f y (x ∷ xs) (inl e) = (x, inl refl, e)
  from_map f y (x ∷ xs) (inr h) = (let it = from_map f y xs h in (it.0, inr it.1, it.2))

  -- what holds of each image holds through the map
  pub each_from_map : {B : Type 0} (P : B → Type 0) (f : A → B) (xs : List A) → Each P (map f xs)
      → Each (λ x. P (f x)) xs
  each_from_map P f [] h = tt
  each_from_map P f (x ∷ xs) h = (h.0, each_from_map P f xs h.1)

-- the list at a place is in the log with its number
stand_at : (pairs : List Pair) (words : ℕ) (log : Log) (number : ℕ) (lists : List (List Call))
    → AllStandIn pairs words log number lists → (k : ℕ) (d : List Call) → k < length lists
    → StandsIn pairs words log (number + k) (get_or lists k d)
stand_at pairs words log number [] h k d lt = absurd (omega arith)
stand_at pairs words log number (calls ∷ more) h zero d lt = grind arith
stand_at pairs words log number (calls ∷ more) h (suc k) d lt =
    subst (λ n. StandsIn pairs words log n (get_or more k d)) (omega arith)
    (stand_at pairs words log (number + 1) more h.1 k d (omega arith))

-- the list at a place has the keys of its lane
kept_at : (workers number : ℕ) (lists : List (List Call))
    → KeepToLanes workers number (map (map told_by_call) lists)
    → (k : ℕ) (d : List Call) → k < length lists → OfLane workers (number + k) (get_or lists k d)
kept_at workers number [] h k d lt = absurd (omega arith)
kept_at workers number (calls ∷ more) h zero d lt =
    subst (λ n. OfLane workers n calls) (omega arith)
    (each_from_map (λ t. lane_of workers t.command ≡ number) told_by_call calls h.0)
kept_at workers number (calls ∷ more) h (suc k) d lt =
    subst (λ n. OfLane workers n (get_or more k d)) (omega arith)
    (kept_at workers (number + 1) more h.1 k d (omega arith))

-- what holds of each list of calls holds of each list of what was told
each_told : (P : List Answered → Type 0) (lists : List (List Call))
    → ((k : ℕ) (d : List Call) → k < length lists → P (map told_by_call (get_or lists k d)))
    → Each P (map (map told_by_call) lists)
each_told P [] h = tt
each_told P (calls ∷ more) h =
    (h 0 [] (omega arith), each_told P more (λ k d lt. h (suc k) d (omega arith)))

-- one place has one entry, of one owner
same_owner : (o : Option Entry) (x y : Entry) → o ≡ Some x → o ≡ Some y → x.owner ≡ y.owner
same_owner o x y e f = let same : x ≡ y = cc in ap (λ z. z.owner) same

-- ---- a log at rest

module _ (pairs : List Pair) (words : ℕ) (log : Log) (told : List (List Answered))
    (r : RestsWith pairs words log told) (keeps : KeepToLanes (length told) 0 told) where
  -- there are as many lists as callers
  pub told_long : length told ≡ length r.calls
  told_long = sym (ap length r.told_are) ∙ length-map r.calls (map told_by_call)

  -- the list at a place is in the log
  stands : (k : ℕ) (d : List Call) → k < length r.calls
      → StandsIn pairs words log k (get_or r.calls k d)
  stands k d lt = subst (λ n. StandsIn pairs words log n (get_or r.calls k d)) (omega arith)
      (stand_at pairs words log 0 r.calls r.stand k d lt)

  -- the list at a place has only keys of its lane
  kept : (k : ℕ) (d : List Call) → k < length r.calls → OfLane (length told) k (get_or r.calls k d)
  kept k d lt = grind (arith, OfLane, kept_at)

  -- each change is of the lane of its owner
  lanes : Each (λ e. lane_of (length told) e.command ≡ e.owner) (changes_of pairs words log)
  lanes = each_get (λ e. lane_of (length told) e.command ≡ e.owner) es
      (λ i e is. at e (get_among es i e is)
      (known i e is))
    where
      es : List Entry
      es = changes_of pairs words log

      known : (i : ℕ) (e : Entry) → slice_get es i ≡ Some e → e.owner < length r.calls
      known i e is = grind (arith, entry_update, owner_known, same_owner)

      at : (e : Entry) → Among e es → e.owner < length r.calls
          → lane_of (length told) e.command ≡ e.owner
      at e i low = let s = stands e.owner [] low in let kept_here = kept e.owner [] low in
          let own = among_filter (λ x. x.owner == e.owner) e es i (eq-eqb e.owner e.owner refl) in
          let it = from_map (entry_by e.owner) e (filter is_change (get_or r.calls e.owner []))
          (subst (Among e) s.exactly own) in
          let call = among-filter is_change it.0 (get_or r.calls e.owner []) it.1 in
          ap (λ x. lane_of (length told) x.command) it.2
          ∙ each-among (λ c. lane_of (length told) c.command ≡ e.owner) it.0
          (get_or r.calls e.owner []) kept_here call.0

  -- each list is answered as if it were alone
  pub list_alone : (k : ℕ) (d : List Call) → k < length r.calls
      → IsAlone (length told) k (map_of pairs) (map_of pairs) (changes_of pairs words log)
      (get_or r.calls k d)
  list_alone k d lt = let s = stands k d lt in let m = map_of pairs in
      let es = changes_of pairs words log in alone (length told) k es m m 0 (get_or r.calls k d)
      record {
        stand = stand_from m es k (get_or r.calls k d) s;
        exactly = s.exactly;
        legal = (told_at pairs words r.lawful.opens log r.lawful.enabled).legal;
        lanes = lanes;
        agree = λ q here. refl;
      }
      (kept k d lt)

  -- each list has the replies of its own commands
  pub lists_alone : Each (IsLegal (map_of pairs)) told
  lists_alone = subst (Each (IsLegal (map_of pairs))) r.told_are
      (each_told (IsLegal (map_of pairs)) r.calls (λ k d lt. (list_alone k d lt).legal))

  -- each key has what its list leaves it
  pub keys_alone : 0 < length told → (key : ℕ) (d : List Answered)
      → fin.get (map_now pairs words log) key
      ≡ fin.get (replay (map_of pairs) (commands_told (get_or told (key % length told) d))) key
  keys_alone some key d = let k = key % length told in
      let lt : k < length r.calls = omega (arith, told_long) in let a = list_alone k [] lt in
      let list : map told_by_call (get_or r.calls k []) ≡ get_or told k d =
      sym (get_or-map (map told_by_call) r.calls k [] d lt) ∙ ap (λ ts. get_or ts k d) r.told_are in
      a.agree key refl ∙ ap (λ t. fin.get (replay (map_of pairs) (commands_told t)) key) list
