-- A caller that took few words, or ran out of words: one part after another. Serves the crates above.
use Rattle.std.proofs.Common.{◌≡◌, ℕ, ◌+◌, ◌≤◌, List, Result, Ok, Err, arith}
use Rattle.std.proofs.Math.Nat.{le_trans}
use Rattle.ist_core.specs.declared.events.Event.{Event}
use Rattle.ist_core.specs.declared.pairs.Pair.{Pair}
use Rattle.ist_core.specs.declared.ports.Full.{Full}
use Rattle.ist_core.specs.LogTerms.{GoesOn, Log, same_log}
use Rattle.ist_core.proofs.AllLogLemmas.{goes_on_by, goes_on_more}
use Rattle.ist_rule.specs.RuleTerms.{WentOn}
use Rattle.ist_rule.specs.declared.view.View.{View}
use Rattle.ist_rows.specs.RowTerms.{Caller, HasRunOut, HasTakenFew, HasTakenFewIn, IsLaterCaller, RanOut, TakesFew, ran_out, taken_by, took_few}
use Rattle.ist_rows.proofs.ShortLemmas.{left_between}

-- ---- how a caller goes on

-- a caller whose token went on is a later state
pub later_went : (P : Event → Type 0) (old new : Caller) → new.number ≡ old.number
    → WentOn P old.token.view new.token.view → IsLaterCaller old new
later_went P old new number went = grind (arith, goes_on_by)

-- a state after a later one is a later one
pub later_twice : (old mid new : Caller) → IsLaterCaller old mid → IsLaterCaller mid new → IsLaterCaller old new
later_twice old mid new a b = grind (arith, goes_on_more)

-- ---- one log after another

module _ (number words : ℕ) (pairs : List Pair) {a b c : Log} (on : GoesOn a b) (more : GoesOn b c)
    (n m left : ℕ) where
  -- what ran out has run out
  out_longer : RanOut number n words pairs a b → RanOut number n words pairs a c
  out_longer r = (r.0, left_between same_log more r.0 r.1 (λ at since until few. few))

  -- what runs out after few words were taken
  out_later : taken_by number b + m ≤ taken_by number a + n → RanOut number m words pairs b c
      → RanOut number n words pairs a c
  out_later took r =
      (r.0, left_between on same_log r.0 r.1 (λ at since until few. le_trans few took))

  few_both : TakesFew number n m words pairs a b → TakesFew number m left words pairs b c
      → TakesFew number n left words pairs a c
  few_both (ran_out r) f = ran_out (out_longer r)
  few_both (took_few took) (ran_out r) = ran_out (out_later took r)
  few_both (took_few took) (took_few next) = took_few (omega arith)

  few_out : TakesFew number n m words pairs a b → RanOut number m words pairs b c
      → RanOut number n words pairs a c
  few_out (ran_out r) f = out_longer r
  few_out (took_few took) f = out_later took f

-- ---- one call after another

module _ (old mid new : Caller) (a : IsLaterCaller old mid) (b : IsLaterCaller mid new) (n m left : ℕ) where
  abbrev v : View
  v = old.token.view

  -- few words from the middle on, in terms of the earlier state
  few_here : HasTakenFew m left mid new
      → TakesFew old.number m left v.words v.start mid.token.view.log new.token.view.log
  few_here f = grind arith

  out_here : HasRunOut m mid new
      → RanOut old.number m v.words v.start mid.token.view.log new.token.view.log
  out_here f = grind arith

  -- few words, and then few
  pub few_more : HasTakenFew n m old mid → HasTakenFew m left mid new → HasTakenFew n left old new
  few_more f g = few_both old.number v.words v.start a.on b.on n m left f (few_here g)

  -- few words, and then the words ran out
  pub few_out_more : HasTakenFew n m old mid → HasRunOut m mid new → HasRunOut n old new
  few_out_more f g = few_out old.number v.words v.start a.on b.on n m left f (out_here g)

  -- few words, and then a call
  pub few_then : {A : Type 0} (r : Result A Full) → HasTakenFew n m old mid
      → HasTakenFewIn r m left mid new → HasTakenFewIn r n left old new
  few_then (Ok x) f g = few_more f g
  few_then (Err full) f g = few_out_more f g

-- if the words ran out, a call may have any result
pub out_in : {A : Type 0} (r : Result A Full) (n left : ℕ) (old new : Caller) → HasRunOut n old new
    → HasTakenFewIn r n left old new
out_in (Ok x) n left old new r = ran_out r
out_in (Err full) n left old new r = r

-- what ran out has run out
pub out_on : (n : ℕ) (old mid new : Caller) → GoesOn mid.token.view.log new.token.view.log
    → HasRunOut n old mid → HasRunOut n old new
out_on n old mid new on r = (r.0, left_between same_log on r.0 r.1 (λ at since until few. few))

-- of more words they ran out too
pub out_wider : (n m : ℕ) (old new : Caller) → n ≤ m → HasRunOut n old new → HasRunOut m old new
out_wider n m old new le r = grind (arith, left_between, le_trans)

-- of more words, more are left
pub few_wider : (n left k : ℕ) (old new : Caller) → HasTakenFew n left old new
    → HasTakenFew (n + k) (left + k) old new
few_wider n left k old new (took_few took) = took_few (omega arith)
few_wider n left k old new (ran_out r) = ran_out (out_wider n (n + k) old new (omega arith) r)

-- fewer words are few
pub few_low : (n left m less : ℕ) (old new : Caller) → n ≤ m → less ≤ left
    → HasTakenFew n left old new → HasTakenFew m less old new
few_low n left m less old new le low (took_few took) = took_few (omega arith)
few_low n left m less old new le low (ran_out r) = ran_out (out_wider n m old new le r)

-- in a call too
pub few_less : {A : Type 0} (r : Result A Full) (n left m less : ℕ) (old new : Caller) → n ≤ m
    → less ≤ left → HasTakenFewIn r n left old new → HasTakenFewIn r m less old new
few_less (Ok x) n left m less old new le low f = few_low n left m less old new le low f
few_less (Err full) n left m less old new le low r = out_wider n m old new le r
