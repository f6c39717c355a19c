-- The calls of passes that were given back in the order of their numbers, and which workers stopped by request. Serves
-- `Map::run`.
use Rattle.std.proofs.Common.{◌≡◌, ◌≢◌, ◌∙◌, ℕ, zero, suc, ◌+◌, ◌<◌, List, [], ◌∷◌, ◌++◌, length, map, slice_index_or, refl, sym, ap, subst, arith, Option, Some, None, All, Any, IsSome, ◌||◌, true, is_some, ◌≤◌, Result, Ok, Err, IsErrAnd, IfOk, IfErr}
use Rattle.std.proofs.lemmas.List.{append-nil, length-map}
use Rattle.std.proofs.lemmas.List.Elements.{All-nil, All-cons, All-head, All-tail}
use Rattle.std.proofs.lemmas.Option.{none-some}
use Rattle.std.specs.List.{range_with_len, list_any}
use Rattle.ist_core.specs.declared.calls.Call.{Call}
use Rattle.ist_core.specs.declared.pairs.Pair.{Pair}
use Rattle.ist_core.specs.declared.ports.Full.{Full}
use Rattle.ist_core.specs.LogTerms.{PassCalls, Answered}
use Rattle.ist_core.specs.TreeTerms.{told_by_call}
use Rattle.ist_tree.specs.CallTerms.{MakerFace, calls_taken, TreeFace, words_for}
use Rattle.ist_tree.proofs.NumberLemmas.{calls_in_order}
use Rattle.ist_map.specs.declared.stops.StopRequest.{StopRequest}
use Rattle.ist_map.specs.Hands.{HaveWorked, first_stop}
use Rattle.std.proofs.lemmas.List.Folds.{Any-from_list_any}
use Rattle.std.proofs.lemmas.Result.{IfOk-weaker, IfErr-weaker}
use Rattle.ist_core.specs.WordTerms.{place_limit}
use Rattle.ist_rest.specs.RestingWords.{HoldPairs}
use Rattle.ist_rest.proofs.WholeLemmas.{same_pairs}
use Rattle.ist_reopen.specs.declared.faults.ReopenFault.{ReopenFault}
use Rattle.ist_reopen.specs.declared.faults.ReopenFault.TheVariants.{Beyond, Small, Memory}
use Rattle.ist_map.specs.Growing.{IsGrowFault, words_for_tree}
use Rattle.ist_reopen.specs.Reopening.{OpensAfter, IsReopenFaultOf}
use Rattle.ist_map.specs.Running.{HasStopped, IsUnderway, OpensEnough}

-- a maker that took back all of its passes, in the order of their numbers, has their calls in it
pub taken_in_order : (m : MakerFace) (passes : List PassCalls) → m.made ≡ length passes
    → m.taken ≡ passes → map (λ p. p.number) passes ≡ range_with_len 0 (length passes)
    → calls_taken m ≡ map (λ p. p.calls) passes
taken_in_order m passes many taken numbers = grind (arith, calls_in_order)

-- ---- lists of workers

-- what all have, all have afterwards if the first one has and the others have
pub all_again : {H : Type 0} (P Q : H → Type 0) (hands rest now : List H) (first last : H)
    → hands ≡ first ∷ rest → (P first → Q last) → (All P rest → All Q now) → All P hands
    → All Q (last ∷ now)
all_again P Q hands rest now first last is one others all = let same = subst (All P) is all in
    All-cons Q last now (one (All-head P first rest same)) (others (All-tail P first rest same))

module _ {H : Type 0} where
  -- what f sees of what g sees
  map_map : {Y Z : Type 0} (f : Y → Z) (g : H → Y) (xs : List H)
      → map f (map g xs) ≡ map (λ x. f (g x)) xs
  map_map f g [] = refl
  map_map f g (x ∷ xs) = ap (λ ys. f (g x) ∷ ys) (map_map f g xs)

  -- if each worker of the second list was told what it had been told in the first, and then what its
  -- calls told it, all have worked
  pub have_worked : (told : H → List Answered) (calls : H → List Call) (xs ys : List H)
      → length ys ≡ length xs
      → ((k : ℕ) (d : H) → k < length xs → told (slice_index_or ys k d)
      ≡ told (slice_index_or xs k d) ++ map told_by_call (calls (slice_index_or ys k d)))
      → HaveWorked (map told xs) (map calls ys) (map told ys)
  have_worked told calls [] [] long each number = refl
  have_worked told calls [] (y ∷ ys) long each number = absurd (omega arith)
  have_worked told calls (x ∷ xs) [] long each number = absurd (omega arith)
  have_worked told calls (x ∷ xs) (y ∷ ys) long each zero = each 0 x (omega arith)
  have_worked told calls (x ∷ xs) (y ∷ ys) long each (suc number) =
      have_worked told calls xs ys (omega arith) (λ k d h. each (suc k) d (omega arith)) number

  -- workers that were given passes in the order of their numbers, worked and gave them back have
  -- made the calls that their maker took
  pub all_worked : (told : H → List Answered) (passes : H → PassCalls)
      (old hired worked done : List H) (n many : ℕ) (ts taken : List PassCalls) (m : MakerFace) → map told hired ≡ map told old
      → map told done ≡ map told worked
      → HaveWorked (map told hired) (map (λ h. (passes h).calls) worked) (map told worked)
      → length worked ≡ length old → n ≡ 0 → ts ≡ []
      → many ≡ n + length old → taken ≡ ts → m.made ≡ many → m.taken ≡ map passes worked ++ taken
      → map (λ h. (passes h).number) hired ≡ range_with_len n (length old)
      → map (λ h. (passes h).number) worked ≡ map (λ h. (passes h).number) hired
      → HaveWorked (map told old) (calls_taken m) (map told done)
  all_worked told passes old hired worked done n many ts taken m before last each same none empty made still made_all all numbers kept number =
      grind (arith, length-map, taken_in_order, append-nil, map_map)

-- ---- workers that stopped by request

-- if there is no first one of several, there is none of the others either
unasked_head : (t : Option StopRequest) (ts : List (Option StopRequest)) → first_stop (t ∷ ts) ≡ None
    → (t ≡ None) × (first_stop ts ≡ None)
unasked_head None ts none = (refl, none)
unasked_head (Some asked) ts none = absurd (none-some asked (sym none))

module _ {H : Type 0} (stopped : H → Option StopRequest) where
  -- if none can stop by request, there is no first one
  pub none_asked : (xs : List H) {P : Type 0} → All (λ h. P → stopped h ≡ None) xs → P
      → first_stop (map stopped xs) ≡ None
  none_asked [] all p = refl
  none_asked (x ∷ xs) {P} all p =
      ap (λ t. first_stop (t ∷ map stopped xs)) (All-head (λ h. P → stopped h ≡ None) x xs all p)
      ∙ none_asked xs (All-tail (λ h. P → stopped h ≡ None) x xs all) p

  -- if there is no first one, none stopped so
  pub all_unasked : (xs : List H) → first_stop (map stopped xs) ≡ None → All (λ h. stopped h ≡ None) xs
  all_unasked [] none = All-nil (λ h. stopped h ≡ None)
  all_unasked (x ∷ xs) none = let here = unasked_head (stopped x) (map stopped xs) none in
      All-cons (λ h. stopped h ≡ None) x xs here.0 (all_unasked xs here.1)

  -- if there is a first one, it is one of them
  pub one_asked : (xs : List H) → first_stop (map stopped xs) ≢ None → Any (λ h. IsSome (stopped h)) xs
  one_asked [] some = absurd (some refl)
  one_asked (x ∷ xs) some = from_first (stopped x) refl (one_asked xs)
    where
      from_first : (t : Option StopRequest) → stopped x ≡ t
          → (first_stop (map stopped xs) ≢ None → Any (λ h. IsSome (stopped h)) xs)
          → Any (λ h. IsSome (stopped h)) (x ∷ xs)
      from_first (Some _) is later = (0, x, omega arith, refl, subst IsSome (sym is) refl)
      from_first None is later =
          let more = later (λ none. some (ap (λ t. first_stop (t ∷ map stopped xs)) is ∙ none)) in
          (suc more.0, more.1, omega arith, more.3, more.4)

-- ---- how a run goes on, how it ends, and how many words a tree has. Serves `Map::run`.

-- ---- how many words a tree has

-- otherwise it has as many as the pairs take, which the closed words hold
pub words_needed : (closed : List ℕ) (asked needed : ℕ) (pairs start : List Pair)
    → HoldPairs closed pairs → HoldPairs closed start → needed ≡ words_for pairs → asked < needed
    → needed ≡ words_for_tree asked start
words_needed closed asked needed pairs start held begun is low =
    let same : words_for pairs ≡ words_for start
    = ap words_for (same_pairs closed pairs start held begun) in
    omega arith

-- if the closed words hold pairs that take this many words, they hold none that take more
pub none_larger : (closed : List ℕ) (needed more : ℕ) (pairs other : List Pair)
    → HoldPairs closed pairs → HoldPairs closed other → needed ≡ words_for pairs
    → more ≡ words_for other → ¬ (needed < more)
none_larger closed needed more pairs other held hold is are low =
    let same : words_for pairs ≡ words_for other
    = ap words_for (same_pairs closed pairs other held hold) in
    omega arith

-- a tree that is opened with as many words as the pairs take, since these are more than were asked for
pub enough_opened : (closed : List ℕ) (asked needed given : ℕ)
    (r : Result (TreeFace × MakerFace) ReopenFault)
    → IsReopenFaultOf closed asked (Small needed given) → needed ≤ place_limit
    → IfOk r (λ t. OpensAfter closed needed t.0 t.1)
    → IfOk r (λ t. OpensEnough closed asked t.0 t.1)
enough_opened closed asked needed given r f within =
    IfOk-weaker r _ _ (λ t o. record {
      words = needed;
      words_is = words_needed closed asked needed f.0 t.0.start f.1 o.holds f.2 f.4;
      within = within;
      opens = o;
    })

-- and why it isn't opened
pub not_enough_opened : (closed : List ℕ) (asked needed given : ℕ)
    (r : Result (TreeFace × MakerFace) ReopenFault)
    → IsReopenFaultOf closed asked (Small needed given) → needed ≤ place_limit
    → IfErr r (IsReopenFaultOf closed needed) → IfErr r (IsGrowFault closed asked)
not_enough_opened closed asked needed given r f within = IfErr-weaker r _ _ grows
  where
    grows : (fault : ReopenFault) → IsReopenFaultOf closed needed fault
        → IsGrowFault closed asked fault
    grows (Beyond more) g = let high = g.1 in absurd (omega arith)
    grows (Small more words) g = absurd (none_larger closed needed more f.0 g.0 f.1 g.1 f.2 g.2 g.4)
    grows Memory g = let low = f.4 in omega arith

-- ---- a run goes on and ends

-- if the test finds one that was refused, one was
pub any_refused : {H : Type 0} (refused : H → Option Full) (hands : List H)
    → list_any (λ h. is_some (refused h)) hands ≡ true → Any IsSome (map refused hands)
any_refused {H = H} refused hands found =
    Any-from_list_any is_some (map refused hands) (as_seen hands ∙ found)
  where
    as_seen : (xs : List H) → list_any is_some (map refused xs) ≡ list_any (λ h. is_some (refused h)) xs
    as_seen [] = refl
    as_seen (x ∷ xs) = ap (λ b. is_some (refused x) || b) (as_seen xs)

-- what is true of the fault that is passed on is true of the result
pub passed_on : {A F : Type 0} (r : Result A F) (fault : F) (P : F → Type 0)
    → IsErrAnd r (λ x. x ≡ fault) → P fault → IfErr r P
passed_on (Ok a) fault P same p = tt
passed_on (Err e) fault P same p = subst P (sym same) p

-- no tree follows
pub stops : (first last : List ℕ) (asked left next : ℕ) (before after : List (List Answered))
    (refused : List (Option Full)) (fault : ReopenFault)
    → IsUnderway first last asked left next before after refused → IsGrowFault last next fault
    → HasStopped first last asked left before after refused fault
stops first last asked left next before after refused fault u cause = record {
  ran = u.ran;
  one_refused = u.one_refused;
  refusals = u.refusals;
  cause = subst (λ n. IsGrowFault last n fault) (sym u.next_is) cause;
}

-- the same, seen from words and hands that are as they were
module _ {H : Type 0} (told : H → List Answered) (refused : H → Option Full) where
  pub stops_here : (first last now_last : List ℕ) (asked left now_left next : ℕ)
      (before : List (List Answered)) (hands now : List H) (fault : ReopenFault)
      → IsUnderway first last asked left next before (map told hands) (map refused hands)
      → IsGrowFault last next fault → now_last ≡ last → now_left ≡ left → now ≡ hands
      → HasStopped first now_last asked now_left before (map told now) (map refused now) fault
  stops_here first last now_last asked left now_left next before hands now fault u cause same kept as_before =
      subst (λ n. HasStopped first now_last asked n before (map told now) (map refused now) fault)
      (sym kept)
      (subst (λ ws. HasStopped first ws asked left before (map told now) (map refused now) fault)
      (sym same)
      (subst (λ hs. HasStopped first last asked left before (map told hs) (map refused hs) fault)
      (sym as_before)
      (stops first last asked left next before (map told hands) (map refused hands) fault u cause)))
