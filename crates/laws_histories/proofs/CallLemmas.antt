-- The calls of a pass as the log grows: those that are placed, and one more. Serves
-- `laws.calls_stand_on` and `laws.calls_are_added`.
use Rattle.std.proofs.Common.{◌≡◌, ℕ, ◌+◌, ◌<◌, ◌≤◌, ◌⊎◌, true, false, List, [], ◌∷◌, ◌++◌, map, filter, length, slice_get, Some, refl, sym, ap, ◌∙◌, subst, inl, inr, ⊎_elim, arith, length-append, append_assoc, append-nil}
use Rattle.std.proofs.lemmas.List.{map-append}
use Rattle.std.proofs.lemmas.List.Elements.{filter-append}
use Rattle.std.proofs.lemmas.Option.{slice_get_within}
use Rattle.ist_core.specs.declared.calls.Call.{Call}
use Rattle.ist_core.specs.declared.pairs.Pair.{Pair}
use Rattle.ist_core.specs.declared.events.Event.TheVariants.{Decide}
use Rattle.ist_core.specs.TreeTerms.{Map, map_of, Entry, changes_of, is_change, entry_by, entries_by, IsRead, position_after, Follows, AllFollow, StandAmong, StandsIn, IsFresh}
use Rattle.ist_core.specs.LogTerms.{Among, Each, Log, GoesOn}
use Rattle.ist_core.specs.WordTerms.{start}
use Rattle.ist_core.proofs.AllWordLemmas.{among-append, each-among, each_append}
use Rattle.laws_histories.specs.Calls.{MadeNoEntry, HasCalls, TookEffect, IsAdded}
use Rattle.laws_histories.proofs.ChangeLemmas.{changes_on, get_left, get_at, read_on}

-- calls that are placed among some entries are placed among more, if none of the new ones is their
-- owner's
pub stand_more : (m : Map) (xs ys : List Entry) (number : ℕ) (calls : List Call)
    → entries_by number (xs ++ ys) ≡ entries_by number xs → StandAmong m xs number calls
    → StandAmong m (xs ++ ys) number calls
stand_more m xs ys number calls none h = record {
  made = λ call i e. get_left xs ys call.position (entry_by number call) (h.made call i e);
  exactly = none ∙ h.exactly;
  read = λ call i e. read_on m xs ys call (h.read call i e);
  in_order = h.in_order;
}

-- calls that are placed in a log are placed in each longer log
pub stand_on : (pairs : List Pair) (words : ℕ) (earlier log : Log) (number : ℕ) (calls : List Call)
    → GoesOn earlier log → MadeNoEntry pairs words number earlier log
    → StandsIn pairs words earlier number calls → StandsIn pairs words log number calls
stand_on pairs words earlier log number calls g none h =
    let on = changes_on (start pairs words) earlier log g in
    let old = changes_of pairs words earlier in
    subst (λ es. StandAmong (map_of pairs) es number calls) (sym on.1)
    (stand_more (map_of pairs) old on.0 number calls (subst (λ es. entries_by number es ≡ entries_by number old) on.1 none) h)

-- stamps up to one are up to a higher one
stamps_up : (told stamp : ℕ) (calls : List Call) → told ≤ stamp → Each (λ call. call.stamp ≤ told) calls
    → Each (λ call. call.stamp ≤ stamp) calls
stamps_up told stamp [] h all = tt
stamps_up told stamp (call ∷ calls) h all =
    let low = all.0 in (omega arith, stamps_up told stamp calls h all.1)

-- a pass keeps its calls in a longer log
pub keep_calls : (pairs : List Pair) (words : ℕ) (earlier log : Log) (number told stamp : ℕ) (calls : List Call)
    → GoesOn earlier log → MadeNoEntry pairs words number earlier log → told ≤ stamp
    → HasCalls pairs words earlier number told calls → HasCalls pairs words log number stamp calls
keep_calls pairs words earlier log number told stamp calls g none low has =
    grind (arith, stand_on, stamps_up)

-- ---- order

-- the position after a placed call is at most the number of entries
pub after_within : (m : Map) (entries : List Entry) (number : ℕ) (calls : List Call)
    → StandAmong m entries number calls → (call : Call) → Among call calls
    → position_after call ≤ length entries
after_within m entries number calls s call i = grind (arith, slice_get_within)

-- calls that follow each other, with one that follows them all
follow_more : (calls : List Call) (last : Call) → AllFollow calls
    → ((call : Call) → Among call calls → Follows call last) → AllFollow (calls ++ last ∷ [])
follow_more [] last h f = (tt, tt)
follow_more (call ∷ calls) last h f = (
  each_append (Follows call) calls (last ∷ []) h.0 (f call (inl refl), tt),
  follow_more calls last h.1 (λ x i. f x (inr i)),
)

-- a fresh call follows each call of the pass
pub fresh_follows : (pairs : List Pair) (words : ℕ) (seen : Log) (number stamp : ℕ)
    (calls : List Call) (last : Call)
    → StandsIn pairs words seen number calls → IsFresh pairs words seen stamp last
    → (call : Call) → Among call calls → call.stamp ≤ stamp → Follows call last
fresh_follows pairs words seen number stamp calls last s fresh call i low =
    let following = after_within (map_of pairs) (changes_of pairs words seen) number calls s call i in
    let position = fresh.position in let later = fresh.later in
    record { position = omega arith; stamp = omega arith }

-- ---- lists with one more call

-- an element of a list with one more is one of the list, or the last
among_last : (call last : Call) (calls : List Call) → Among call (calls ++ last ∷ [])
    → Among call calls ⊎ (call ≡ last)
among_last call last calls h = ⊎_elim (λ i. inl i) (λ i. ⊎_elim (λ e. inr e) (λ e. absurd e) i)
    (among-append call calls (last ∷ []) h)

-- the entries that are due for calls with one more that changes nothing
due_reading : (number : ℕ) (calls : List Call) (last : Call) → is_change last ≡ false
    → map (entry_by number) (filter is_change (calls ++ last ∷ [])) ≡ map (entry_by number)
    (filter is_change calls)
due_reading number calls last plain = ap (map (entry_by number))
    (filter-append is_change calls (last ∷ []) ∙ ap (λ xs. filter is_change calls ++ xs) (none last plain) ∙ append-nil (filter is_change calls))
  where
    none : (call : Call) → is_change call ≡ false → filter is_change (call ∷ []) ≡ []
    none call e = rw e refl

-- the entries that are due for calls with one more that changes the map
due_update : (number : ℕ) (calls : List Call) (last : Call) → is_change last ≡ true
    → map (entry_by number) (filter is_change (calls ++ last ∷ []))
    ≡ map (entry_by number) (filter is_change calls) ++ entry_by number last ∷ []
due_update number calls last changing = grind (arith, filter-append, map-append)

-- if one more call has a higher stamp, all stamps are up to this one
stamps_last : (stamp : ℕ) (calls : List Call) (last : Call) → stamp < last.stamp
    → Each (λ call. call.stamp ≤ stamp) calls
    → Each (λ call. call.stamp ≤ last.stamp) (calls ++ last ∷ [])
stamps_last stamp [] last h all = (omega arith, tt)
stamps_last stamp (call ∷ calls) last h all =
    let low = all.0 in (omega arith, stamps_last stamp calls last h all.1)

-- ---- one more call

-- a call that changes nothing is added
pub add_reading : (pairs : List Pair) (words : ℕ) (seen log : Log) (number stamp : ℕ)
    (calls : List Call) (call : Call) → HasCalls pairs words seen number stamp calls
    → GoesOn seen log → MadeNoEntry pairs words number seen log
    → is_change call ≡ false → IsFresh pairs words seen stamp call
    → IsRead (map_of pairs) (changes_of pairs words log) call
    → HasCalls pairs words log number call.stamp (calls ++ call ∷ [])
add_reading pairs words seen log number stamp calls last has g none plain fresh read =
    let s = stand_on pairs words seen log number calls g none has.stand in
    let entries = changes_of pairs words log in record {
      stand = record {
        made = λ call i e. ⊎_elim (λ j. s.made call j e)
            (λ z. absurd (cc (ap is_change z ∙ plain))) (among_last call last calls i);
        exactly = s.exactly ∙ sym (due_reading number calls last plain);
        read = λ call i e. ⊎_elim (λ j. s.read call j e)
            (λ z. subst (λ x. IsRead (map_of pairs) entries x) (sym z) read)
            (among_last call last calls i);
        in_order = follow_more calls last s.in_order
            (λ call i. fresh_follows pairs words seen number stamp calls last has.stand fresh call i (each-among (λ x. x.stamp ≤ stamp) call calls has.stamps i));
      };
      stamps = stamps_last stamp calls last fresh.later has.stamps;
    }

-- a call that changes the map is added at its entry
pub add_update : (pairs : List Pair) (words : ℕ) (seen log : Log) (number stamp : ℕ)
    (calls : List Call) (call : Call) → HasCalls pairs words seen number stamp calls
    → TookEffect pairs words seen log number call → is_change call ≡ true → stamp < call.stamp
    → IsAdded pairs words seen log number stamp calls call
add_update pairs words seen log number stamp calls last has took changing later =
    let m = map_of pairs in let old = changes_of pairs words seen in
    let entries = changes_of pairs words log in let first = start pairs words in
    let one = entry_by number last in let since = changes_on first seen took.earlier took.since in
    let until =
    changes_on first (Decide took.caller took.base true ∷ took.earlier) log took.until in
    let front = changes_of pairs words took.earlier in
    let are : entries ≡ front ++ (one ∷ until.0) =
    until.1 ∙ ap (λ es. (front ++ es) ++ until.0) took.entry
    ∙ append_assoc front (one ∷ []) until.0 in
    let all : entries ≡ old ++ (since.0 ++ (one ∷ until.0)) =
    are ∙ ap (λ es. es ++ (one ∷ until.0)) since.1 ∙ append_assoc old since.0 (one ∷ until.0) in
    let lengths = ap length since.1 ∙ length-append old since.0 in let position = took.position in
    let fresh : IsFresh pairs words seen stamp last =
    record { position = omega arith; later = later } in
    let s = has.stand in record {
      has_calls = record {
        stand = record {
          made = λ call i e. ⊎_elim
              (λ j. subst (λ es. slice_get es call.position ≡ Some (entry_by number call)) (sym all) (get_left old (since.0 ++ (one ∷ until.0)) call.position (entry_by number call) (s.made call j e)))
              (λ z. subst (λ x. slice_get entries x.position ≡ Some (entry_by number x)) (sym z)
              (subst (λ p. slice_get entries p ≡ Some one) (sym position) (subst (λ es. slice_get es (length front) ≡ Some one) (sym are) (get_at front until.0 one))))
              (among_last call last calls i);
          exactly = took.alone ∙ ap (λ es. es ++ one ∷ []) s.exactly
              ∙ sym (due_update number calls last changing);
          read = λ call i e. ⊎_elim
              (λ j. subst (λ es. IsRead m es call) (sym all) (read_on m old (since.0 ++ (one ∷ until.0)) call (s.read call j e)))
              (λ z. absurd (cc (ap is_change z ∙ changing))) (among_last call last calls i);
          in_order = follow_more calls last s.in_order
              (λ call i. fresh_follows pairs words seen number stamp calls last s fresh call i (each-among (λ x. x.stamp ≤ stamp) call calls has.stamps i));
        };
        stamps = stamps_last stamp calls last later has.stamps;
      };
      fresh = fresh;
    }
