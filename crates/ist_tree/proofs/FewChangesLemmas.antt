-- A lawful log has few changes of the map, and a value that a key had and has no longer is one more
-- of them. Serves `run_rounds`.
use Rattle.std.proofs.Common.{◌≡◌, ◌≢◌, ◌⊎◌, ◌-◌, ℕ, ◌<◌, ◌≤◌, zero, suc, List, [], ◌∷◌, length, slice_get, Option, Some, refl, sym, ap, ◌∙◌, subst, ⊎_elim, arith, ◌+◌, if◌then◌else◌, map, inl, inr}
use Rattle.ist_core.specs.declared.pairs.Pair.{Pair}
use Rattle.ist_core.specs.TreeTerms.{Entry, changes_of, AllStandIn, StandsIn}
use Rattle.ist_core.specs.LogTerms.{Distinct, Each, EachEnabled, CanOpen, Lawful, GoesOn, Log, Among, PassCalls, caller_limit}
use Rattle.ist_core.specs.WordTerms.{Change, place_limit, start}
use Rattle.ist_core.proofs.AllWordLemmas.{each-among}
use Rattle.ist_core.proofs.AllLogLemmas.{published_good, distinct_below, callers_low}
use Rattle.laws_histories.specs.Searching.{HasPosition}
use Rattle.laws_histories.specs.Telling.{IsEntryOf}
use Rattle.laws_histories.proofs.EntryLemmas.{entry_update}
use Rattle.laws_histories.proofs.ItemLemmas.{entries_once}
use Rattle.ist_updates.specs.declared.updates.When.TheVariants.{Had}
use Rattle.ist_tree.specs.CallTerms.{HasSeenMore, PassFace, TreeFace, changes_seen, HadMissed, HadValue, calls_from, calls_numbered, taken_pass, IsMaker}
use Rattle.laws_histories.proofs.ChangeLemmas.{map_at_on}
use Rattle.std.proofs.lemmas.Bool.Decides.{eqb_tells}
use Rattle.ist_rule.specs.RuleTerms.{IsSound}
use Rattle.ist_rule.specs.declared.view.Taken.{Taken}
use Rattle.ist_rule.specs.declared.view.View.{View}
use Rattle.std.specs.FinMap as fin

module _ (pairs : List Pair) (words : ℕ) (opens : CanOpen pairs words) (log : Log)
    (h : EachEnabled (start pairs words) log) where
  abbrev all : ℕ
  all = length (changes_of pairs words log)

  -- the row at the base belongs to an entry at a position below the limit
  EntryBelow : ℕ → ℕ → Type 0
  EntryBelow limit base = (position : ℕ) × (position < limit) × IsEntryOf pairs words log position base

  -- rows of the entries below the limit, each one once
  record Bases (limit : ℕ) : Type 0 where
    pub bases : List ℕ
    pub length_is : length bases ≡ limit
    pub distinct : Distinct bases
    pub entries : Each (EntryBelow limit) bases

  still : (limit : ℕ) (xs : List ℕ) → Each (EntryBelow limit) xs → Each (EntryBelow (suc limit)) xs
  unfolding EntryBelow
  still limit [] e = tt
  still limit (x ∷ xs) e = let low = e.0.1 in ((e.0.0, (omega arith), e.0.2), still limit xs e.1)

  bases_of : (limit : ℕ) → limit ≤ all → Bases limit
  unfolding EntryBelow
  bases_of zero low = record { bases = []; length_is = refl; distinct = tt; entries = tt }
  bases_of (suc limit) low = let before = bases_of limit (omega arith) in
      let got = got_below (changes_of pairs words log) limit (omega arith) in
      let one = entry_update pairs words opens log h limit got.0 got.1 in record {
        bases = one.0 ∷ before.bases;
        length_is = ap suc before.length_is;
        distinct = (
          (λ i. let it = each-among (EntryBelow limit) one.0 before.bases before.entries i in
              let same = entries_once pairs words opens log h one.0 it.0 limit it.2 one.1 in
              let low = it.1 in
              absurd (omega arith)),
          before.distinct,
        );
        entries = ((limit, (omega arith), one.1), still limit before.bases before.entries);
      }
    where
      got_below : (xs : List Entry) (i : ℕ) → i < length xs
          → (entry : Entry) × (slice_get xs i ≡ Some entry)
      got_below [] i k = absurd (omega arith)
      got_below (x ∷ xs) zero k = (x, refl)
      got_below (x ∷ xs) (suc i) k = got_below xs i (omega arith)

  in_places : (limit : ℕ) (xs : List ℕ) → Each (EntryBelow limit) xs → Each (λ x. x < place_limit) xs
  unfolding EntryBelow
  in_places limit [] e = tt
  in_places limit (x ∷ xs) e = (
    (published_good pairs words opens log x (Change e.0.2.change) h e.0.2.published).below_limit,
    in_places limit xs e.1,
  )

  -- there are no more changes than places
  pub few_changes : all ≤ place_limit
  few_changes = let b = bases_of all (omega arith) in
      let few = distinct_below place_limit b.bases b.distinct (in_places all b.bases b.entries) in
      let same = b.length_is in omega arith

-- ---- a value that the key had no longer

-- if a key had one value and then another, the map was changed since the first one's log
pub changed_between : (pairs : List Pair) (words : ℕ) (a b c : Log) → GoesOn b c → (key : ℕ)
    (had value : Option ℕ) → had ≢ value → HasPosition pairs words a b key had
    → HasPosition pairs words b c key value
    → length (changes_of pairs words a) < length (changes_of pairs words c)
changed_between pairs words a b c on key had value differs x y = grind (arith, map_at_on)

-- so fewer changes are left
pub fewer_left : (pairs : List Pair) (words : ℕ) (a c : Log) → Lawful pairs words c
    → length (changes_of pairs words a) < length (changes_of pairs words c)
    → place_limit - length (changes_of pairs words c) < place_limit - length (changes_of pairs words a)
fewer_left pairs words a c lawful more =
    let few = few_changes pairs words lawful.opens c lawful.enabled in omega arith

-- a round that missed the value, and then found it, saw one change more
pub round_smaller : (p m q : PassFace) → HasSeenMore p m → HasSeenMore m q → (key : ℕ)
    (value : Option ℕ) → HadMissed p m key (Had value) → HadValue m q key value
    → Lawful q.tree.start q.tree.words q.seen
    → place_limit - length (changes_seen q) < place_limit - length (changes_seen p)
round_smaller p m q a b key value x y lawful = let t = b.tree ∙ a.tree in
    subst (λ (t : TreeFace). place_limit - length (changes_of t.start t.words q.seen)
    < place_limit - length (changes_seen p)) (sym t)
    (fewer_left p.tree.start p.tree.words p.seen q.seen
    (subst (λ (t : TreeFace). Lawful t.start t.words q.seen) t lawful)
    (changed_between p.tree.start p.tree.words p.seen m.seen q.seen b.seen key x.had value x.missed
    x.position
    (subst (λ (t : TreeFace). HasPosition t.start t.words m.seen q.seen key value) a.tree y)))

-- ---- the passes that a maker took back: all that it made, each with its calls. Serves `close`
-- and `take_back`.

-- ---- numbers

-- a number is in a list, or it isn't
among_or_not : (x : ℕ) (xs : List ℕ) → Among x xs ⊎ ¬ (Among x xs)
among_or_not x [] = inr (λ i. i)
among_or_not x (y ∷ ys) = ⊎_elim (λ k. inl (inl k.1))
    (λ k. ⊎_elim (λ i. inl (inr i)) (λ no. inr (λ i. ⊎_elim k.1 no i)) (among_or_not x ys))
    (eqb_tells x y)

-- as many different numbers below one as it says are all of them
pub all_below : (n : ℕ) (xs : List ℕ) → Distinct xs → Each (λ x. x < n) xs → length xs ≡ n
    → (x : ℕ) → x < n → Among x xs
all_below n xs distinct low long x lt = ⊎_elim (λ i. i)
    (λ no. let few = distinct_below n (x ∷ xs) (no, distinct) (lt, low) in absurd (omega arith))
    (among_or_not x xs)

-- ---- the passes that were taken back

-- what is true of the number of each is true of each number
pub each_number : (P : ℕ → Type 0) (ts : List Taken) → Each (λ (t : Taken). P t.number) ts
    → Each P (map (λ (t : Taken). t.number) ts)
each_number P [] h = tt
each_number P (t ∷ ts) h = (h.0, each_number P ts h.1)

-- there are as many numbers as passes
pub numbers_long : (ts : List Taken)
    → length (map (λ (t : Taken). t.number) ts) ≡ length (map taken_pass ts)
numbers_long [] = refl
numbers_long (t ∷ ts) = ap suc (numbers_long ts)

-- one of these has this number, and its calls are the calls with the number
pub record IsNumbered (number : ℕ) (ts : List Taken) : Type 0 where
  pub taken : Taken
  pub among : Among taken ts
  pub number_is : taken.number ≡ number
  pub calls_are : calls_numbered number (map taken_pass ts) ≡ taken.calls

-- a number among theirs has its caller and its calls
pub numbered_is : (number : ℕ) (ts : List Taken) → Among number (map (λ (t : Taken). t.number) ts)
    → IsNumbered number ts
numbered_is number [] i = absurd i
numbered_is number (t ∷ ts) i = ⊎_elim
    (λ k. record {
      taken = t;
      among = inl refl;
      number_is = k.1;
      calls_are = ap (λ b. if b then t.calls else calls_numbered number (map taken_pass ts)) k.0;
    })
    (λ k. let rest = numbered_is number ts (following k.1 i) in record {
      taken = rest.taken;
      among = inr rest.among;
      number_is = rest.number_is;
      calls_are = ap (λ b. if b then t.calls else calls_numbered number (map taken_pass ts)) k.0
          ∙ rest.calls_are;
    })
    (eqb_tells t.number number)
  where
    following : t.number ≢ number → (number ≡ t.number) ⊎ Among number (map (λ (x : Taken). x.number) ts)
        → Among number (map (λ (x : Taken). x.number) ts)
    following ne (inl e) = absurd (ne (sym e))
    following ne (inr h) = h

-- ---- lists of calls by numbers

-- there are as many as are asked for
pub lists_long : (number count : ℕ) (taken : List PassCalls)
    → length (calls_from number count taken) ≡ count
lists_long number zero taken = refl
lists_long number (suc count) taken = ap suc (lists_long (number + 1) count taken)

-- the lists are placed in the log if each of them is
pub lists_stand : (pairs : List Pair) (words : ℕ) (log : Log) (taken : List PassCalls)
    (number count : ℕ)
    → ((w : ℕ) → w < number + count → StandsIn pairs words log w (calls_numbered w taken))
    → AllStandIn pairs words log number (calls_from number count taken)
lists_stand pairs words log taken number zero stands = tt
lists_stand pairs words log taken number (suc count) stands = (
  stands number (omega arith),
  lists_stand pairs words log taken (number + 1) count (λ w lt. stands w (omega arith)),
)

-- what is true of the element at each index is true of each element
pub each_get : {A : Type 0} (P : A → Type 0) (xs : List A)
    → ((i : ℕ) (x : A) → slice_get xs i ≡ Some x → P x) → Each P xs
each_get P [] h = tt
each_get P (x ∷ xs) h = (h 0 x refl, each_get P xs (λ i y e. h (suc i) y e))

-- ---- how many there are

-- a maker took back no more passes than it made, and made no more than the limit
pub taken_few : (v : View) → IsSound v → IsMaker v
    → (length (map taken_pass v.taken) ≤ v.made) × (v.made ≤ caller_limit)
taken_few v s m =
    let low = distinct_below v.given (map (λ (t : Taken). t.number) v.taken) s.well_made.taken_once
    (each_number (λ n. n < v.given) v.taken s.well_made.taken_given) in
    let long = numbers_long v.taken in
    let given = m.given in (
      omega (arith, low, long, given),
      subst (λ n. n ≤ caller_limit) (sym (s.is_true.made m.maker).0)
          (callers_low v.start v.words v.log s.lawful.enabled),
    )
