-- The moments of a caller, when others speak and when it does. Serves the conjunct `timed`.
use Rattle.std.proofs.Common.{◌≡◌, ◌≢◌, ◌⊎◌, ℕ, ◌≤◌, List, [], ◌∷◌, ◌++◌, length, Option, Some, None, refl, ap, ◌∙◌, subst, inl, inr, arith}
use Rattle.std.proofs.lemmas.Bool.Decides.{eqb_tells}
use Rattle.ist_core.specs.declared.calls.Call.{Call}
use Rattle.ist_core.specs.declared.commands.Command.{Command}
use Rattle.ist_core.specs.declared.events.Who.{Who}
use Rattle.ist_core.specs.declared.events.Who.TheVariants.{Maker, Caller, Note, Spent}
use Rattle.ist_core.specs.declared.pairs.Pair.{Pair}
use Rattle.ist_core.specs.TreeTerms.{Map, map_of, changes_of, map_after_entries}
use Rattle.ist_core.specs.LogTerms.{Log, Lawful}
use Rattle.laws_real_time.specs.declared.moments.Deed.{Deed}
use Rattle.laws_real_time.specs.declared.moments.Deed.TheVariants.{Begins, Returns, GivesUp}
use Rattle.laws_real_time.specs.declared.moments.Moment.{Moment}
use Rattle.laws_real_time.specs.Moments.{Moments, Begun, in_call}
use Rattle.laws_real_time.specs.Making.{calls_returned, HasMadeChanges, none_since, one_since}
use Rattle.laws_real_time.specs.Keeping.{moment_now, KeepsTime}
use Rattle.laws_real_time.specs.Joining.{LinearizesTo}
use Rattle.laws_real_time.specs.RealTime.{IsLinearizable}
use Rattle.laws_real_time.proofs.DeedLemmas.{in_call_own, in_call_other, begins_ends_none, gives_up_ends_none, calls_of_other, calls_of_same, calls_of_own}
use Rattle.laws_real_time.proofs.KeepLemmas.{kept_linearizes}
use Rattle.ist_rule.specs.RuleTerms.{View, Pending, CallStands, pending_of, HasSpoken, IsSilent, MomentsGoOn, same_moments, one_moment, MomentsLater, no_later, one_later, HasMoments, IsHeard}

-- it is the caller with this number, or not
pub caller_or : (w : Who) (number : ℕ) → (w ≡ Caller number) ⊎ (w ≢ Caller number)
caller_or Maker number = inr (λ e. absurd (cc))
caller_or (Note of) number = inr (λ e. absurd (cc))
caller_or Spent number = inr (λ e. absurd (cc))
caller_or (Caller n) number = grind (arith, eqb_tells)

-- no moments are linearizable
pub none_linear : (m : Map) → IsLinearizable m []
none_linear m = grind arith

-- moments of any follow those of one who makes none
pub later_any : {who other : Who} {earlier moments : Moments}
    → ((number : ℕ) → Caller number ≢ who) → MomentsLater other earlier moments
    → MomentsLater who earlier moments
later_any none no_later = no_later
later_any none (one_later moment l other) = one_later moment (later_any none l) (none moment.caller)

-- or of a silent caller
pub later_silent : {other : Who} (number : ℕ) {earlier moments : Moments}
    → MomentsLater other earlier moments → IsSilent number moments
    → MomentsLater (Caller number) earlier moments
later_silent number no_later h = no_later
later_silent number (one_later moment l other) h =
    one_later moment (later_silent number l h.1) (λ e. h.0 (cc))

-- ---- lists of moments that go on

-- a prefix of a prefix is a prefix
pub go_on_more : (a b c : Moments) → MomentsGoOn a b → MomentsGoOn b c → MomentsGoOn a c
go_on_more a b _ p same_moments = p
go_on_more a b _ p (one_moment {moments = c} moment q) = one_moment moment (go_on_more a b c p q)

-- a prefix is no longer
pub go_on_length : {a b : Moments} → MomentsGoOn a b → length a ≤ length b
go_on_length same_moments = omega arith
go_on_length (one_moment moment p) = let le = go_on_length p in omega arith

-- moments of others go on
pub later_goes_on : {who : Who} {a b : Moments} → MomentsLater who a b → MomentsGoOn a b
later_goes_on no_later = same_moments
later_goes_on (one_later moment l other) = one_moment moment (later_goes_on l)

-- of two prefixes the shorter is a prefix of the longer
pub moments_between : {a b all : Moments} → MomentsGoOn a all → MomentsGoOn b all
    → length a ≤ length b → MomentsGoOn a b
moments_between p same_moments le = p
moments_between same_moments (one_moment moment q) le = grind (arith, go_on_length)
moments_between (one_moment moment p) (one_moment _ q) le = moments_between p q le

-- who went on by moments of others did so to each prefix between
pub moments_before : {who : Who} {a b all : Moments} → MomentsLater who a all → MomentsGoOn a b
    → MomentsGoOn b all → MomentsLater who a b
moments_before p on same_moments = p
moments_before no_later on (one_moment moment q) = grind (arith, go_on_length)
moments_before (one_later moment p other) on (one_moment _ q) = moments_before p on q

-- a longer prefix has the moments of this one too
pub moments_longer : {who : Who} {a b all : Moments} → MomentsLater who a all → MomentsGoOn b all
    → length a ≤ length b → MomentsLater who b all
moments_longer p same_moments le = no_later
moments_longer no_later (one_moment moment q) le = grind (arith, go_on_length)
moments_longer (one_later moment p other) (one_moment _ q) le =
    one_later moment (moments_longer p q le) other

-- a silent caller is silent in each prefix
pub silent_before : (number : ℕ) {a all : Moments} → MomentsGoOn a all → IsSilent number all
    → IsSilent number a
silent_before number same_moments h = h
silent_before number (one_moment moment p) h = silent_before number p h.1

-- another caller's moment leaves what a caller has spoken
pub spoken_other : (moment : Moment) (moments : Moments) (number : ℕ) (calls : List Call)
    (pending : Option Pending) → moment.caller ≢ number → HasSpoken moments number calls pending
    → HasSpoken (moment ∷ moments) number calls pending
spoken_other moment moments number calls pending other s =
    grind (arith, calls_of_other, in_call_other)

-- so do moments of others
pub spoken_later : (number : ℕ) (earlier moments : Moments) (calls : List Call)
    (pending : Option Pending)
    → MomentsLater (Caller number) earlier moments → HasSpoken earlier number calls pending
    → HasSpoken moments number calls pending
spoken_later number earlier _ calls pending no_later s = s
spoken_later number earlier _ calls pending (one_later {moments = moments} moment l other) s =
    spoken_other moment moments number calls pending (λ e. other (ap Caller e))
    (spoken_later number earlier moments calls pending l s)

-- a silent caller has no calls
pub silent_spoken : (number : ℕ) (moments : Moments) → IsSilent number moments
    → HasSpoken moments number [] None
silent_spoken number [] h = record { calls_are = refl; pending_is = refl }
silent_spoken number (moment ∷ moments) h =
    spoken_other moment moments number [] None h.0 (silent_spoken number moments h.1)

-- what a seat's caller has spoken, it has spoken in all moments
pub heard_spoken : (pairs : List Pair) (moments : Moments) (v : View) (number : ℕ)
    → v.who ≡ Caller number
    → HasMoments pairs v.who v.given v.moments v.calls v.pending → IsHeard moments v
    → HasSpoken moments number v.calls v.pending
heard_spoken pairs moments v number is m h = spoken_later number v.moments moments v.calls v.pending
    (subst (λ w. MomentsLater w v.moments moments) is h.later) (m.spoken number is)

-- what became of a caller's changes, told by the moments
pub spoken_stands : (pairs : List Pair) (words : ℕ) (log : Log) (moments : Moments) (number : ℕ)
    (calls : List Call) (pending : Option Pending)
    → HasSpoken moments number calls pending → CallStands pairs words log number calls pending
    → CallStands pairs words log number (calls_returned number moments)
    (pending_of (in_call number moments))
spoken_stands pairs words log moments number calls pending s c = grind arith

-- what a caller made, by what became of its changes
made_of : (pairs : List Pair) (words : ℕ) (log : Log) (number : ℕ) (calls : List Call)
    (o : Option Begun) → CallStands pairs words log number calls (pending_of o)
    → HasMadeChanges (changes_of pairs words log) number calls o
made_of pairs words log number calls None b = none_since b.made
made_of pairs words log number calls (Some begun) (inl w) = none_since w.made
made_of pairs words log number calls (Some begun) (inr w) = one_since w.entry w.made w.its_command

-- so the moments are linearizable, and lead to the map after the changes
pub working_linear : (pairs : List Pair) (words : ℕ) (log : Log) (moments : Moments)
    → Lawful pairs words log → KeepsTime pairs words log moments
    → ((number : ℕ) → CallStands pairs words log number (calls_returned number moments)
    (pending_of (in_call number moments)))
    → LinearizesTo (map_of pairs) moments (map_after_entries (map_of pairs) (changes_of pairs words log))
working_linear pairs words log moments lawful kept working = grind (arith, kept_linearizes, made_of)

-- ---- the caller's own moments

-- a caller in no call is in none by the moments
pub out_of_call : (o : Option Begun) → pending_of o ≡ None → o ≡ None
out_of_call None e = refl
out_of_call (Some begun) e = absurd (cc)

-- the call that a caller is in, as the moments have it
pub record IsBegunAs (o : Option Begun) (pending : Pending) : Type 0 where
  pub begun : Begun
  pub in_it : o ≡ Some begun
  pub command : begun.command ≡ pending.command
  pub length_is : begun.length ≡ pending.length

pub begun_as : (o : Option Begun) (pending : Pending) → pending_of o ≡ Some pending
    → IsBegunAs o pending
begun_as None pending e = absurd (cc)
begun_as (Some begun) pending e = grind arith

module _ (pairs : List Pair) (words : ℕ) (log : Log) (moments : Moments) (number : ℕ)
    (calls : List Call) where
  -- what the caller did now
  abbrev now_did : Deed → Moment
  now_did deed = moment_now pairs words log number deed

  -- it began a call
  pub spoken_begins : (command : Option Command) → HasSpoken moments number calls None
      → HasSpoken (now_did (Begins command) ∷ moments) number calls
      (Some record { command = command; length = length log })
  spoken_begins command s = record {
    calls_are = calls_of_same number (now_did (Begins command)) moments
        (begins_ends_none (in_call number moments) (length moments) (now_did (Begins command)) command)
        ∙ s.calls_are;
    pending_is = ap pending_of (in_call_own number (now_did (Begins command)) moments refl);
  }

  -- it gave its call up
  pub spoken_gives_up : (pending : Option Pending) → HasSpoken moments number calls pending
      → HasSpoken (now_did GivesUp ∷ moments) number calls None
  spoken_gives_up pending s = record {
    calls_are = calls_of_same number (now_did GivesUp) moments
        (gives_up_ends_none (in_call number moments) (length moments) (now_did GivesUp))
        ∙ s.calls_are;
    pending_is = ap pending_of (in_call_own number (now_did GivesUp) moments refl);
  }

  -- its call returned
  pub spoken_returns : (begun : Begun) (call : Call) (pending : Option Pending)
      → in_call number moments ≡ Some begun → HasSpoken moments number calls pending
      → HasSpoken (now_did (Returns call) ∷ moments) number (calls ++ call ∷ []) None
  spoken_returns begun call pending in_it s = record {
    calls_are = calls_of_own number (now_did (Returns call)) moments begun call refl refl in_it
        ∙ ap (λ cs. cs ++ call ∷ []) s.calls_are;
    pending_is = ap pending_of (in_call_own number (now_did (Returns call)) moments refl);
  }
