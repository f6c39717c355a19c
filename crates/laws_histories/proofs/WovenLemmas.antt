-- The woven history is legal: a reading leaves the map, and has the reply of the map at its position. Serves
-- `laws.calls_are_woven`.
use Rattle.std.proofs.Common.{◌≡◌, ℕ, suc, ◌+◌, ◌≤◌, ◌⊎◌, ◌≢◌, ◌==◌, not, if◌then◌else◌, Bool, true, false, List, [], ◌∷◌, map, filter, refl, sym, ap, ◌∙◌, subst, inl, inr, ⊎_elim, arith}
use Rattle.std.proofs.lemmas.Bool.Decides.{eqb_tells}
use Rattle.ist_core.specs.declared.calls.Call.{Call}
use Rattle.ist_core.specs.declared.pairs.Pair.{Pair}
use Rattle.ist_core.specs.TreeTerms.{Map, map_of, map_after, reply_to, Entry, changes_of, map_at, is_change, IsRead, Follows, StandsIn, IsFresh, AllStandIn}
use Rattle.ist_core.specs.LogTerms.{Among, Each, Log, GoesOn, same_log, PassCalls, StandInPrefixes, Reading, readings_of, readings, comes_first, put_in, in_order, at_position, told_by_entry, told_by_reading, woven_from, woven, IsLegal}
use Rattle.ist_core.specs.WordTerms.{start}
use Rattle.ist_core.proofs.AllWordLemmas.{among-append, each-among, among-filter, each_of}
use Rattle.laws_histories.specs.Calls.{HasCalls}
use Rattle.laws_histories.specs.Telling.{AreLegal}
use Rattle.laws_histories.specs.Weaving.{numbered}
use Rattle.laws_histories.proofs.ChangeLemmas.{changes_on, changes_rise, read_on}
use Rattle.laws_histories.proofs.CallLemmas.{fresh_follows}
use Rattle.laws_histories.proofs.MapLemmas.{same_head, same_tail, same_cons, map_told, legal_append, no_entry_leaves}

-- ---- readings on a map

-- the call leaves the map, and has its reply
record LeavesMap (m : Map) (call : Call) : Type 0 where
  reply : call.reply ≡ reply_to m call.command
  leaves : map_after m call.command ≡ m

-- readings that leave the map are a legal history, which leaves it
readings_legal : (m : Map) (xs : List Reading) → Each (λ x. LeavesMap m x.call) xs
    → IsLegal m (map told_by_reading xs) × (map_told m (map told_by_reading xs) ≡ m)
readings_legal m [] h = (refl, refl)
readings_legal m (x ∷ xs) h = let rest = readings_legal m xs h.1 in
    let read = h.0 in (
      same_cons _ _ _ _ (sym read.reply)
          (subst (λ n. IsLegal n (map told_by_reading xs)) (sym read.leaves) rest.0),
      ap (λ n. map_told n (map told_by_reading xs)) read.leaves ∙ rest.1,
    )

-- what the readings at a position have
each_at : (P : Reading → Type 0) (position : ℕ) (xs : List Reading)
    → ((x : Reading) → Among x xs → x.call.position ≡ position → P x)
    → Each P (at_position position xs)
each_at P position [] h = tt
each_at P position (x ∷ xs) h =
    at (each_at P position xs (λ y i e. h y (inr i) e)) (eqb_tells x.call.position position)
  where
    at : Each P (at_position position xs)
        → (((x.call.position == position) ≡ true) × (x.call.position ≡ position)) ⊎ (((x.call.position == position) ≡ false) × (x.call.position ≢ position))
        → Each P (at_position position (x ∷ xs))
    at rest (inl e) = rw e.0 (h x (inl refl) e.1, rest)
    at rest (inr e) = rw e.0 rest

-- legal entries, with readings that leave the maps at their positions, are a legal history
legal_from : (position : ℕ) (entries : List Entry) (xs : List Reading) (m : Map)
    → AreLegal m entries
    → ((x : Reading) → Among x xs → (j : ℕ) → x.call.position ≡ position + j → LeavesMap (map_at m entries j) x.call)
    → IsLegal m (woven_from position entries xs)
legal_from position [] xs m r h =
    (readings_legal m (at_position position xs) (each_at (λ x. LeavesMap m x.call) position xs (λ x i e. h x i 0 (omega arith)))).0
legal_from position (entry ∷ entries) xs m r h =
    let here =
    readings_legal m (at_position position xs)
    (each_at (λ x. LeavesMap m x.call) position xs (λ x i e. h x i 0 (omega arith))) in
    let later =
    legal_from (position + 1) entries xs (map_after m entry.command) (same_tail _ _ _ _ r)
    (λ x i j e. h x i (suc j) (omega arith)) in
    let rest : IsLegal m (told_by_entry entry ∷ woven_from (position + 1) entries xs) =
    same_cons _ _ _ _ (same_head _ _ _ _ r) later in
    legal_append m (map told_by_reading (at_position position xs))
    (told_by_entry entry ∷ woven_from (position + 1) entries xs) here.0
    (subst (λ n. IsLegal n (told_by_entry entry ∷ woven_from (position + 1) entries xs)) (sym here.1) rest)

-- ---- the readings of passes

-- what is put in is the only new one
among-put_in : (x y : Reading) (ys : List Reading) → Among x (put_in y ys) → (x ≡ y) ⊎ Among x ys
among-put_in x y [] (inl e) = inl e
among-put_in x y [] (inr h) = absurd h
among-put_in x y (z ∷ ys) h = at (among-put_in x y ys) (comes_first y z) h
  where
    at : (Among x (put_in y ys) → (x ≡ y) ⊎ Among x ys) → (v : Bool)
        → Among x (if v then y ∷ z ∷ ys else z ∷ put_in y ys) → (x ≡ y) ⊎ Among x (z ∷ ys)
    at again true h = h
    at again false (inl e) = inr (inl e)
    at again false (inr h) = ⊎_elim (λ e. inl e) (λ i. inr (inr i)) (again h)

-- readings in order are the same readings
pub among-in_order : (x : Reading) (xs : List Reading) → Among x (in_order xs) → Among x xs
among-in_order x [] h = h
among-in_order x (y ∷ xs) h =
    ⊎_elim (λ e. inl e) (λ i. inr (among-in_order x xs i)) (among-put_in x y (in_order xs) h)

-- a reading is a call of its pass that changes nothing
pub record IsReadingOfPass (pass : PassCalls) (x : Reading) : Type 0 where
  pub call : Among x.call pass.calls
  pub plain : is_change x.call ≡ false

-- a numbered call is one of the calls
among_numbered : (number : ℕ) (calls : List Call) (x : Reading)
    → Among x (map (λ call. record { number = number; call = call }) calls) → Among x.call calls
among_numbered number [] x h = h
among_numbered number (call ∷ calls) x (inl e) = inl (ap (λ y. y.call) e)
among_numbered number (call ∷ calls) x (inr h) = inr (among_numbered number calls x h)

-- a reading of a pass is one of its calls
of_pass : (pass : PassCalls) (x : Reading) → Among x (readings_of pass) → IsReadingOfPass pass x
of_pass pass x h =
    let kept =
    among-filter (λ call. not (is_change call)) x.call pass.calls
    (among_numbered pass.number (filter (λ call. not (is_change call)) pass.calls) x h) in
    record { call = kept.0; plain = untold (is_change x.call) kept.1 }
  where
    untold : (v : Bool) → not v ≡ true → v ≡ false
    untold false e = refl
    untold true e = absurd (cc)

-- a reading of some passes is a call of one
pub of_passes : (passes : List PassCalls) (x : Reading) → Among x (readings passes)
    → (pass : PassCalls) × Among pass passes × IsReadingOfPass pass x
of_passes [] x h = absurd h
of_passes (pass ∷ passes) x h = ⊎_elim (λ i. (pass, inl refl, of_pass pass x i))
    (λ i. let it = of_passes passes x i in (it.0, inr it.1, it.2))
    (among-append x (readings_of pass) (readings passes) h)

-- ---- the woven history

-- passes that are placed in prefixes of one log are woven into a legal history
pub woven_legal : (pairs : List Pair) (words : ℕ) (log : Log) (passes : List PassCalls)
    → AreLegal (map_of pairs) (changes_of pairs words log) → StandInPrefixes pairs words log passes
    → IsLegal (map_of pairs) (woven (changes_of pairs words log) passes)
woven_legal pairs words log passes legal all =
    legal_from 0 entries (in_order (readings passes)) m legal
    (λ x i j e. let same : x.call.position ≡ j = omega arith in subst (λ p. LeavesMap (map_at m entries p) x.call) same (leaves x (among-in_order x (readings passes) i)))
  where
    m : Map
    m = map_of pairs

    entries : List Entry
    entries = changes_of pairs words log

    leaves : (x : Reading) → Among x (readings passes)
        → LeavesMap (map_at m entries x.call.position) x.call
    leaves x i = let it = of_passes passes x i in
        let stands =
        each-among (λ pass. (prefix : Log) × GoesOn prefix log × StandsIn pairs words prefix pass.number pass.calls) it.0 passes all it.1 in
        let on = changes_on (start pairs words) stands.0 log stands.1 in
        let read : IsRead m entries x.call =
        subst (λ es. IsRead m es x.call) (sym on.1)
        (read_on m (changes_of pairs words stands.0) on.0 x.call (stands.2.read x.call it.2.call it.2.plain)) in
        record { reply = read.reply; leaves = no_entry_leaves (map_at m entries x.call.position) x.call.command x.call.reply it.2.plain read.reply }

-- passes that were taken back are placed in the whole log
taken_stand : (pairs : List Pair) (words : ℕ) (log : Log) (number : ℕ) (taken : List (List Call))
    → AllStandIn pairs words log number taken
    → StandInPrefixes pairs words log (numbered number taken)
taken_stand pairs words log number [] h = tt
taken_stand pairs words log number (calls ∷ more) h =
    ((log, same_log, h.0), taken_stand pairs words log (number + 1) more h.1)

-- passes that were taken back are woven into a legal history
pub taken_legal : (pairs : List Pair) (words : ℕ) (log : Log) (taken : List (List Call))
    → AreLegal (map_of pairs) (changes_of pairs words log) → AllStandIn pairs words log 0 taken
    → IsLegal (map_of pairs) (woven (changes_of pairs words log) (numbered 0 taken))
taken_legal pairs words log taken legal h = grind (arith, woven_legal, taken_stand)

-- ---- calls that were learnt of

-- calls that a pass has learnt of come before a fresh call
pub learnt_first : (pairs : List Pair) (words : ℕ) (earlier seen : Log) (number told stamp : ℕ)
    (calls : List Call) (call : Call) → HasCalls pairs words earlier number told calls
    → GoesOn earlier seen → told ≤ stamp → IsFresh pairs words seen stamp call
    → Each (λ learnt. Follows learnt call) calls
learnt_first pairs words earlier seen number told stamp calls call has on low fresh =
    each_of (λ learnt. Follows learnt call) calls
    (λ learnt i. fresh_follows pairs words earlier number stamp calls call has.stand
    record {
      position =
          (let a = fresh.position in let b = changes_rise (start pairs words) earlier seen on in omega arith);
      later = fresh.later;
    }
    learnt i (let c = each-among (λ x. x.stamp ≤ told) learnt calls has.stamps i in omega arith))
