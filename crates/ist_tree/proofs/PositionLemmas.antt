-- The first position at which a map replies so: the position that a call gets if it changes
-- nothing. Serves `find`.
use Rattle.std.proofs.Common.{◌≡◌, ℕ, ◌+◌, ◌<◌, ◌≤◌, ◌==◌, ◌⊎◌, Bool, true, false, if◌then◌else◌, List, length, Option, Some, None, refl, subst, ⊎_elim, zero, suc, arith}
use Rattle.std.specs.FinMap as fin
use Rattle.std.proofs.lemmas.Bool.Decides.{eqb_tells}
use Rattle.std.proofs.lemmas.Bool.{false≢true}
use Rattle.ist_core.specs.declared.calls.Call.{Call}
use Rattle.ist_core.specs.declared.commands.Command.{Command}
use Rattle.ist_core.specs.declared.commands.Command.TheVariants.{Get}
use Rattle.ist_core.specs.declared.pairs.Pair.{Pair}
use Rattle.ist_core.specs.TreeTerms.{map_of, key_of, changes_of, map_at}
use Rattle.ist_core.specs.LogTerms.{Log}
use Rattle.laws_histories.specs.Loads.{log_at}
use Rattle.laws_histories.specs.Searching.{HasPosition}
use Rattle.ist_rule.specs.declared.view.View.{View}
use Rattle.ist_rule.specs.declared.view.Pending.{Pending}

-- ---- the first number of which a test is true

-- the first of `more` numbers from this one on that passes the test, or else the number after them
abbrev pub first_from : (ℕ → Bool) → ℕ → ℕ → ℕ
first_from test from zero = from
first_from test from (suc more) = if test from then from else first_from test (from + 1) more

-- if one of the numbers passes the test, the first does too, and is no greater
pub record IsFirst (test : ℕ → Bool) (from first last : ℕ) : Type 0 where
  pub low : from ≤ first
  pub high : first ≤ last
  pub passes : test first ≡ true

at_or_above : (a b : ℕ) → a ≤ b → (a ≡ b) ⊎ (a + 1 ≤ b)
at_or_above a b le = grind arith

-- the first is such a one, if this holds of the later numbers when this number fails the test
first_or_more : (test : ℕ → Bool) (from more last : ℕ) (b : Bool) → test from ≡ b → from ≤ last
    → test last ≡ true → (from + 1 ≤ last → IsFirst test (from + 1)
    (first_from test (from + 1) more) last)
    → IsFirst test from (if b then from else first_from test (from + 1) more) last
first_or_more test from more last true is low t rest = grind arith
first_or_more test from more last false is low t rest = grind (arith, false≢true, at_or_above)

-- if a number passes the test, the first that passes is no greater
pub first_is : (test : ℕ → Bool) (from more last : ℕ) → from ≤ last → last < from + more
    → test last ≡ true → IsFirst test from (first_from test from more) last
first_is test from zero last low high t = absurd (omega arith)
first_is test from (suc more) last low high t =
    first_or_more test from more last (test from) refl low t
    (λ above. first_is test (from + 1) more last above (omega arith) t)

-- ---- replies

-- are both replies the same
abbrev pub same_reply : Option ℕ → Option ℕ → Bool
same_reply None None = true
same_reply (Some a) (Some b) = a == b
same_reply _ _ = false

-- a reply is the same as itself
same_itself : (x : Option ℕ) → same_reply x x ≡ true
same_itself None = refl
same_itself (Some n) = ⊎_elim (λ k. k.0) (λ k. absurd (k.1 refl)) (eqb_tells n n)

-- equal replies are the same
pub same_reply_of : (a b : Option ℕ) → a ≡ b → same_reply a b ≡ true
same_reply_of a b e = subst (λ x. same_reply a x ≡ true) e (same_itself a)

-- replies that are the same are equal
pub reply_is_same : (a b : Option ℕ) → same_reply a b ≡ true → a ≡ b
reply_is_same None None e = refl
reply_is_same (Some a) (Some b) e = grind (arith, false≢true, eqb_tells)
reply_is_same None (Some b) e = absurd (false≢true e)
reply_is_same (Some a) None e = absurd (false≢true e)

-- ---- the position of a reading

-- does the map after this many changes of the log have this value for the key
abbrev pub has_value : List Pair → ℕ → Log → ℕ → Option ℕ → ℕ → Bool
has_value pairs words log key value position =
    same_reply value (fin.get (map_at (map_of pairs) (changes_of pairs words log) position) key)

-- the first position from the changes of the earlier log on at which it does
abbrev pub position_of : List Pair → ℕ → Log → Log → ℕ → Option ℕ → ℕ
position_of pairs words earlier log key value =
    first_from (has_value pairs words log key value) (length (changes_of pairs words earlier))
    (length (changes_of pairs words log) + 1)

-- the position is no lower than the changes of the earlier log, and the map there has the value
pub record IsPlace (pairs : List Pair) (words : ℕ) (earlier log : Log) (key : ℕ)
    (value : Option ℕ) (position : ℕ) : Type 0 where
  pub from : length (changes_of pairs words earlier) ≤ position
  pub to : position ≤ length (changes_of pairs words log)
  pub value_is : value ≡ fin.get (map_at (map_of pairs) (changes_of pairs words log) position) key

-- if there is such a position, the first is one
pub first_place : (pairs : List Pair) (words : ℕ) (earlier log : Log) (key : ℕ) (value : Option ℕ)
    → HasPosition pairs words earlier log key value
    → IsPlace pairs words earlier log key value (position_of pairs words earlier log key value)
first_place pairs words earlier log key value h = let from = h.from in let to = h.to in
    let first = first_is (has_value pairs words log key value)
    (length (changes_of pairs words earlier)) (length (changes_of pairs words log) + 1)
    h.position from (omega arith) (same_reply_of value _ h.value_is) in
    let high = first.high in record {
      from = first.low;
      to = omega arith;
      value_is = reply_is_same value _ first.passes;
    }

-- ---- the call that a find makes

-- the command of a call in progress
abbrev pub command_in : Option Command → Command
command_in (Some command) = command
command_in None = Get 0

-- the call that the view may end with this reply: at the first position at which it is right
abbrev pub call_in : View → Option Pending → Option ℕ → Call
call_in v None reply = record { command = Get 0; reply = reply; position = 0; stamp = 0 }
call_in v (Some pending) reply = let command = command_in pending.command in record {
  command = command;
  reply = reply;
  position = position_of v.start v.words (log_at v.log pending.length) v.log (key_of command) reply;
  stamp = v.stamp + 1;
}

-- the call with which a get ends
abbrev pub found_call : View → Option ℕ → Call
found_call v reply = call_in v v.pending reply
