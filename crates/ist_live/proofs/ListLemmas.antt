-- The pairs that were read upwards, as one list. Serves `lists` and `ends`.
use Rattle.std.proofs.Common.{◌≡◌, ◌≢◌, ℕ, zero, suc, ◌+◌, ◌<◌, ◌≤◌, ◌==◌, if◌then◌else◌, List, [], ◌∷◌, ◌++◌, length, map, get_or, Option, Some, None, ⊎_elim, refl, sym, ap, ◌∙◌, subst, length-append, append-nil, arith}
use Rattle.std.proofs.lemmas.Bool.{cases_lt}
use Rattle.std.proofs.lemmas.Bool.Decides.{eqb_tells}
use Rattle.std.proofs.lemmas.List.{get_or_append_left, get_or_push, map-append}
use Rattle.std.specs.List.Sorted.{IsStrictlyIncreasing}
use Rattle.ist_core.specs.declared.pairs.Pair.{Pair}
use Rattle.ist_core.specs.LogTerms.{Each}
use Rattle.ist_core.proofs.AllWordLemmas.{each_append}
use Rattle.ist_tree.specs.CallTerms.{PassFace}
use Rattle.ist_find.specs.Sweeps.{one_of}
use Rattle.ist_live.specs.Reading.{HasOnlyRead, Had, ReadsUp}
use Rattle.ist_live.specs.Lists.{value_among, AreLive}
use Rattle.ist_live.proofs.SlotLemmas.{HasReadKeysOfSlot, SweepsUp, none_up, later_up, slot_up, slots_of}
use Rattle.ist_live.proofs.ReadLemmas.{read_not, read_more, had_after}

-- a pair of another key gives the key nothing
pub other_first : (pair : Pair) (pairs : List Pair) (k : ℕ) → pair.key ≢ k
    → value_among (pair ∷ pairs) k ≡ value_among pairs k
other_first pair pairs k ne = grind (arith, eqb_tells)

-- pairs below a key give it nothing
pub among_none : (pairs : List Pair) (from k : ℕ) → Each (λ p. p.key < from) pairs → from ≤ k
    → value_among pairs k ≡ None
among_none [] from k low h = refl
among_none (p ∷ pairs) from k low h = let less = low.0 in
    other_first p pairs k (λ e. omega arith) ∙ among_none pairs from k low.1 h

-- one more pair above a key gives it nothing
pub among_old : (pairs : List Pair) (pair : Pair) (k : ℕ) → k < pair.key
    → value_among (pairs ++ pair ∷ []) k ≡ value_among pairs k
among_old [] pair k high = other_first pair [] k (λ e. omega arith)
among_old (p ∷ pairs) pair k high =
    ap (λ o. if p.key == k then Some p.value else o) (among_old pairs pair k high)

-- and gives what it gives to a key above the others
pub among_new : (pairs : List Pair) (pair : Pair) (from k : ℕ) → Each (λ p. p.key < from) pairs
    → from ≤ k → value_among (pairs ++ pair ∷ []) k ≡ value_among (pair ∷ []) k
among_new [] pair from k low h = refl
among_new (p ∷ pairs) pair from k low h = let less = low.0 in
    other_first p (pairs ++ pair ∷ []) k (λ e. omega arith) ∙ among_new pairs pair from k low.1 h

-- the keys rise still
keys_low : (pairs : List Pair) (from : ℕ) → Each (λ p. p.key < from) pairs → (k : ℕ)
    → k < length (map (λ (p : Pair). p.key) pairs) → get_or (map (λ (p : Pair). p.key) pairs) k 0 < from
keys_low [] from low k less = absurd (omega arith)
keys_low (p ∷ pairs) from low zero less = low.0
keys_low (p ∷ pairs) from low (suc k) less = keys_low pairs from low.1 k (omega arith)

push_rises : (xs : List ℕ) (y : ℕ) → IsStrictlyIncreasing xs
    → ((k : ℕ) → k < length xs → get_or xs k 0 < y) → IsStrictlyIncreasing (xs ++ y ∷ [])
push_rises xs y rises low k within =
    let long : length (xs ++ y ∷ []) ≡ length xs + 1 = length-append xs (y ∷ []) in
    let left : get_or (xs ++ y ∷ []) k 0 ≡ get_or xs k 0 =
    get_or_append_left xs (y ∷ []) 0 k (omega arith) in
    ⊎_elim (λ (l : k + 1 < length xs).
    let right : get_or (xs ++ y ∷ []) (k + 1) 0 ≡ get_or xs (k + 1) 0 =
    get_or_append_left xs (y ∷ []) 0 (k + 1) l in
    let up = rises k l in
    omega arith)
    (λ (l : length xs ≤ k + 1).
    let right : get_or (xs ++ y ∷ []) (k + 1) 0 ≡ y = get_or_push xs y 0 (k + 1) (omega arith) in
    let up = low k (omega arith) in
    omega arith)
    (cases_lt (k + 1) (length xs))

-- appending a pair with a greater key keeps the keys strictly increasing
pub rises_on : (pairs : List Pair) (pair : Pair) (from : ℕ) → Each (λ p. p.key < from) pairs
    → from ≤ pair.key → IsStrictlyIncreasing (map (λ (p : Pair). p.key) pairs)
    → IsStrictlyIncreasing (map (λ (p : Pair). p.key) (pairs ++ pair ∷ []))
rises_on pairs pair from low h rises = grind (arith, map-append, push_rises, keys_low)

-- ---- what was read upwards

-- each key before `following` had what the pairs give it, at a position of its own
pub record Listed (p q : PassFace) (first following : ℕ) (pairs : List Pair) : Type 0 where
  pub read : HasOnlyRead p q
  pub above : first ≤ following
  pub rise : IsStrictlyIncreasing (map (λ (x : Pair). x.key) pairs)
  pub low : Each (λ x. x.key < following) pairs
  pub within : Each (λ x. first ≤ x.key) pairs
  -- each key of the range had the value that the pairs give it, at a position of its own
  pub values : (k : ℕ) → first ≤ k → k < following → Had p q k (value_among pairs k)

-- no key yet
listed_none : (p : PassFace) (first : ℕ) → Listed p p first first []
listed_none p first = record {
  read = read_not p;
  above = omega arith;
  rise = λ k less. absurd (omega arith);
  low = tt;
  within = tt;
  values = λ k low high. absurd (omega arith);
}

-- pairs below a key are below a greater one
pub each_higher : (pairs : List Pair) (from to : ℕ) → from ≤ to → Each (λ x. x.key < from) pairs
    → Each (λ x. x.key < to) pairs
each_higher [] from to h e = tt
each_higher (x ∷ pairs) from to h e = let less = e.0 in (omega arith, each_higher pairs from to h e.1)

-- those of one span more
module _ (p m q : PassFace) (first from following : ℕ) (pairs : List Pair)
    (h : Listed p m first from pairs) where
  before : HasOnlyRead m q → (k : ℕ) → first ≤ k → k < from → Had p q k (value_among pairs k)
  before r k low high = had_after p m q r k (value_among pairs k) (h.values k low high)

  listed_on : (pair : Option Pair) → HasReadKeysOfSlot p m q from following pair
      → Listed p q first following (pairs ++ one_of pair)
  listed_on None s = let above = h.above in let some = s.some in
      subst (Listed p q first following) (sym (append-nil pairs)) record {
        read = read_more p m q h.read s.read;
        above = omega arith;
        rise = h.rise;
        low = each_higher pairs from following (omega arith) h.low;
        within = h.within;
        values = λ k least most. ⊎_elim (λ (l : k < from). before s.read k least l)
            (λ (l : from ≤ k). subst (Had p q k) (sym (among_none pairs from k h.low l))
            (s.values k l most))
            (cases_lt k from);
      }
  listed_on (Some x) s = let above = h.above in let some = s.some in let least = s.within.0 in
      let most = s.within.1 in record {
        read = read_more p m q h.read s.read;
        above = omega arith;
        rise = rises_on pairs x from h.low least h.rise;
        low = each_append (λ (y : Pair). y.key < following) pairs (x ∷ [])
            (each_higher pairs from following (omega arith) h.low) (most, tt);
        within = each_append (λ (y : Pair). first ≤ y.key) pairs (x ∷ []) h.within (omega arith, tt);
        values = λ k a b. ⊎_elim (λ (l : k < from).
            subst (Had p q k) (sym (among_old pairs x k (omega arith))) (before s.read k a l))
            (λ (l : from ≤ k). subst (Had p q k) (sym (among_new pairs x from k h.low l))
            (s.values k l b))
            (cases_lt k from);
      }

-- the same keys at a later moment
listed_later : (p m q : PassFace) (first following : ℕ) (pairs : List Pair)
    → Listed p m first following pairs → HasOnlyRead m q → Listed p q first following pairs
listed_later p m q first following pairs h r = record {
  read = read_more p m q h.read r;
  above = h.above;
  rise = h.rise;
  low = h.low;
  within = h.within;
  values = λ k low high. had_after p m q r k (value_among pairs k) (h.values k low high);
}

-- those of all slots
pub all_swept : (p : PassFace) (first : ℕ) (q : PassFace) (following : ℕ) (pairs : List Pair)
    → SweepsUp p first q following pairs → Listed p q first following pairs
all_swept p first _ _ _ none_up = listed_none p first
all_swept p first q following pairs (later_up {m = m} s r) =
    listed_later p m q first following pairs (all_swept p first m following pairs s) r
all_swept p first q following _ (slot_up {m = m} {from = from} {pairs = pairs} pair s r) =
    listed_on p m q first from following pairs (all_swept p first m from pairs s) pair r

-- those of all spans
pub all_up : (p : PassFace) (first : ℕ) (q : PassFace) (following : ℕ) (pairs : List Pair)
    → ReadsUp p first q following pairs → Listed p q first following pairs
all_up p first q following pairs r = grind (arith, all_swept, slots_of)

-- the pairs lie between both ends
each_both : (pairs : List Pair) (first last : ℕ) → Each (λ x. first ≤ x.key) pairs
    → Each (λ x. x.key < last + 1) pairs → Each (λ x. (first ≤ x.key) × (x.key ≤ last)) pairs
each_both [] first last a b = tt
each_both (x ∷ pairs) first last a b =
    let less = b.0 in ((a.0, omega arith), each_both pairs first last a.1 b.1)

-- all keys up to the last one were read
pub all_live : (p q : PassFace) (first last : ℕ) (pairs : List Pair)
    → SweepsUp p first q (last + 1) pairs → AreLive p q first last pairs
all_live p q first last pairs r = grind (arith, all_swept, each_both)

-- where there are none, nothing needs to be read
pub none_live : (p : PassFace) (first last : ℕ) → last < first → AreLive p p first last []
none_live p first last less = grind arith
