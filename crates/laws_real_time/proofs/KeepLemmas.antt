-- Moments beside a log stay kept. Serves `laws.kept_calls_are_linearizable`.
use Rattle.std.proofs.Common.{◌≡◌, ◌≢◌, ◌⊎◌, ℕ, ◌≤◌, ◌==◌, Bool, true, false, List, [], ◌∷◌, take, length, Option, Some, None, refl, sym, ap, ◌∙◌, subst, inl, inr, arith}
use Rattle.std.proofs.lemmas.Bool.Decides.{eqb_tells}
use Rattle.std.proofs.lemmas.List.{take-append-le, take_all}
use Rattle.std.proofs.lemmas.Option.{slice_get_within, none-some}
use Rattle.ist_core.specs.declared.calls.Call.{Call}
use Rattle.ist_core.specs.declared.commands.Command.{Command}
use Rattle.ist_core.specs.declared.pairs.Pair.{Pair}
use Rattle.ist_core.specs.TreeTerms.{map_of, Entry, changes_of, map_after_entries, is_change, entry_by, entries_by, position_after}
use Rattle.ist_core.specs.LogTerms.{Each, Log, GoesOn, same_log, Lawful}
use Rattle.ist_core.specs.WordTerms.{start}
use Rattle.ist_core.proofs.AllWordLemmas.{each_append, each-among, each_of}
use Rattle.ist_core.proofs.AllLogLemmas.{goes_on_more}
use Rattle.laws_histories.proofs.ChangeLemmas.{changes_on, changes_rise, get_left, read_on}
use Rattle.laws_histories.proofs.ContentLemmas.{told_at}
use Rattle.laws_real_time.specs.declared.moments.Deed.{Deed}
use Rattle.laws_real_time.specs.declared.moments.Deed.TheVariants.{Begins, Returns, GivesUp}
use Rattle.laws_real_time.specs.declared.moments.Moment.{Moment}
use Rattle.laws_real_time.specs.Moments.{Moments, Begun, begun_by, in_call, Ended, ended_by, ended, MayDo}
use Rattle.laws_real_time.specs.Joining.{LinearizesTo}
use Rattle.laws_real_time.specs.Timing.{IsInTime}
use Rattle.laws_real_time.specs.Making.{calls_returned, changes_by, HasMadeChanges}
use Rattle.laws_real_time.specs.Keeping.{moment_now, NotesPrefix, KeepsTime, IsPlacedCall}
use Rattle.laws_real_time.proofs.MomentLemmas.{ended_in, begun_in, IsInCall, begun_now, begun_before, in_call_cases}
use Rattle.laws_real_time.proofs.AccountLemmas.{accounted_linearizes}
use Rattle.laws_real_time.proofs.ChangeCountLemmas.{changes_low}
use Rattle.laws_real_time.proofs.DeedLemmas.{in_call_own, in_call_other, ended_same, begins_ends_none, gives_up_ends_none, calls_of_other, calls_of_same, ended_now, ended_last}

-- no moment notes more changes than a bound of all
module _ (pairs : List Pair) (words : ℕ) where
  -- the changes of a log
  abbrev told : Log → List Entry
  told log = changes_of pairs words log

  -- no moment notes more changes than the log has
  pub noted_low : (log : Log) (moments : Moments) → Each (NotesPrefix pairs words log) moments
      → Each (λ m. m.changes ≤ length (told log)) moments
  noted_low log moments all = grind (arith, each_of, each-among, changes_rise)

  -- nor does the beginning of a call
  pub begun_low : (log : Log) (moments : Moments) → Each (NotesPrefix pairs words log) moments
      → (number : ℕ) (begun : Begun) → in_call number moments ≡ Some begun
      → begun.changes ≤ length (told log)
  begun_low log moments all number begun i = let b = begun_in number moments begun i in
      let low = changes_low (length (told log)) moments (noted_low log moments all) begun.time in
      omega (arith, b.changes, low)

  -- nor does a call that returned, so its position is among them
  pub ended_low : (log : Log) (moments : Moments) → KeepsTime pairs words log moments
      → Each (λ x. position_after x.call ≤ length (told log)) (ended moments)
  ended_low log moments k = each_of (λ x. position_after x.call ≤ length (told log)) (ended moments)
      (λ x i. (let t = each-among (IsInTime (map_of pairs) (told log)) x (ended moments) k.placed i in
      let e = ended_in moments x i in
      let low = changes_low (length (told log)) moments (noted_low log moments k.counted) x.time in
      omega (arith, t.to, e.changes, low)))

  -- a call in progress notes the prefix at which it began
  pub begun_counted : (log : Log) (moments : Moments) → Each (NotesPrefix pairs words log) moments
      → (number : ℕ) (begun : Begun) → in_call number moments ≡ Some begun
      → (prefix : Log) × GoesOn prefix log × (begun.length ≡ length prefix)
      × (begun.changes ≡ length (told prefix))
  begun_counted log [] all number begun i = absurd (cc)
  begun_counted log (moment ∷ moments) all number begun i =
      at (begun_counted log moments all.1 number begun) (in_call_cases number begun moment moments i)
    where
      at : (in_call number moments ≡ Some begun
          → (prefix : Log) × GoesOn prefix log × (begun.length ≡ length prefix)
          × (begun.changes ≡ length (told prefix)))
          → IsInCall number begun moment moments
          → (prefix : Log) × GoesOn prefix log × (begun.length ≡ length prefix)
          × (begun.changes ≡ length (told prefix))
      at again (begun_now command mine is time changes long) = grind arith
      at again (begun_before other j) = again j

  -- a call is in its time in a longer log too
  in_time_on : (log longer : Log) → GoesOn log longer → (x : Ended)
      → IsInTime (map_of pairs) (told log) x → IsInTime (map_of pairs) (told longer) x
  in_time_on log longer on x t = let more = changes_on (start pairs words) log longer on in
      subst (λ es. IsInTime (map_of pairs) es x) (sym more.1)
      record {
        from = t.from;
        to = t.to;
        made = λ e. get_left (told log) more.0 x.call.position (entry_by x.caller x.call)
            (t.made e);
        read = λ e. read_on (map_of pairs) (told log) more.0 x.call (t.read e);
      }

  -- a longer log keeps the moments
  pub kept_on : (log longer : Log) (moments : Moments) → GoesOn log longer
      → KeepsTime pairs words log moments → KeepsTime pairs words longer moments
  kept_on log longer moments on k = record {
    well_formed = k.well_formed;
    never_fall = k.never_fall;
    counted = each_of (NotesPrefix pairs words longer) moments
        (λ m i. (let c = each-among (NotesPrefix pairs words log) m moments k.counted i in record {
          prefix = c.prefix;
          goes_on = goes_on_more c.goes_on on;
          length_is = c.length_is;
          changes_is = c.changes_is;
        }));
    placed = each_of (IsInTime (map_of pairs) (told longer)) (ended moments)
        (λ x i. in_time_on log longer on x
        (each-among (IsInTime (map_of pairs) (told log)) x (ended moments) k.placed i));
    began = λ number begun i.
        (let more = changes_on (start pairs words) log longer on in
        let low = begun_low log moments k.counted number begun i in ap (entries_by number)
        (ap (take begun.changes) more.1 ∙ take-append-le begun.changes (told log) more.0 low)
        ∙ k.began number begun i);
  }

  -- one more moment
  module _ (log : Log) (moments : Moments) (caller : ℕ) (deed : Deed)
      (k : KeepsTime pairs words log moments) where
    abbrev moment : Moment
    moment = moment_now pairs words log caller deed

    -- callers that are in a call after the moment, and not by it
    began_other : (number : ℕ) (begun : Begun) → caller ≢ number
        → in_call number (moment ∷ moments) ≡ Some begun
        → entries_by number (take begun.changes (told log))
        ≡ changes_by number (calls_returned number (moment ∷ moments))
    began_other number begun other i =
        k.began number begun (sym (in_call_other number moment moments other) ∙ i)
        ∙ ap (changes_by number) (sym (calls_of_other number moment moments other))

    -- what the moment keeps
    adds : MayDo (in_call caller moments) deed
        → Each (IsInTime (map_of pairs) (told log)) (ended (moment ∷ moments))
        → ((begun : Begun) → begun_by (length moments) moment deed ≡ Some begun
        → entries_by caller (take begun.changes (told log))
        ≡ changes_by caller (calls_returned caller (moment ∷ moments)))
        → KeepsTime pairs words log (moment ∷ moments)
    adds may placed own = record {
      well_formed = (may, k.well_formed);
      never_fall = (noted_low log moments k.counted, k.never_fall);
      counted = (
        record { prefix = log; goes_on = same_log; length_is = refl; changes_is = refl },
        k.counted,
      );
      placed = placed;
      began = λ number begun i. at number begun i (eqb_tells caller number);
    }
      where
        at : (number : ℕ) (begun : Begun) → in_call number (moment ∷ moments) ≡ Some begun
            → (((caller == number) ≡ true) × (caller ≡ number)) ⊎ (((caller == number) ≡ false) × (caller ≢ number))
            → entries_by number (take begun.changes (told log))
            ≡ changes_by number (calls_returned number (moment ∷ moments))
        at number begun i (inl t) = grind (arith, in_call_own)
        at number begun i (inr t) = began_other number begun t.1 i

  -- a call begins
  pub begins_keep : (log : Log) (moments : Moments) (caller : ℕ) (command : Option Command)
      → in_call caller moments ≡ None
      → entries_by caller (told log) ≡ changes_by caller (calls_returned caller moments)
      → KeepsTime pairs words log moments
      → KeepsTime pairs words log (moment_now pairs words log caller (Begins command) ∷ moments)
  begins_keep log moments caller command out made k = adds log moments caller (Begins command) k
      (subst (λ o. MayDo o (Begins command)) (sym out) tt)
      (subst (Each (IsInTime (map_of pairs) (told log))) (sym (ended_same now moments none)) k.placed)
      (λ begun e.
      (let changes : begun.changes ≡ length (told log) = changes_in begun e in
      ap (entries_by caller)
      (ap (λ n. take n (told log)) changes ∙ take_all (length (told log)) (told log) (omega arith))
      ∙ made ∙ ap (changes_by caller) (sym (calls_of_same caller now moments none))))
    where
      now : Moment
      now = moment_now pairs words log caller (Begins command)

      none : ended_by (in_call caller moments) (length moments) now (Begins command) ≡ []
      none = begins_ends_none (in_call caller moments) (length moments) now command

      changes_in : (begun : Begun) → begun_by (length moments) now (Begins command) ≡ Some begun
          → begun.changes ≡ length (told log)
      changes_in begun e = grind arith

  -- a call is given up
  pub gives_up_keeps : (log : Log) (moments : Moments) (caller : ℕ) (begun : Begun)
      → in_call caller moments ≡ Some begun → KeepsTime pairs words log moments
      → KeepsTime pairs words log (moment_now pairs words log caller GivesUp ∷ moments)
  gives_up_keeps log moments caller begun in_it k = adds log moments caller GivesUp k
      (subst (λ o. MayDo o GivesUp) (sym in_it) tt)
      (subst (Each (IsInTime (map_of pairs) (told log)))
      (sym (ended_same now moments (gives_up_ends_none (in_call caller moments) (length moments) now)))
      k.placed)
      (λ b e. absurd (none-some b e))
    where
      now : Moment
      now = moment_now pairs words log caller GivesUp

  -- a call returns
  pub returns_keep : (log : Log) (moments : Moments) (caller : ℕ) (begun : Begun) (call : Call)
      → in_call caller moments ≡ Some begun → begun.command ≡ Some call.command
      → begun.changes ≤ call.position → IsPlacedCall (map_of pairs) (told log) caller call
      → KeepsTime pairs words log moments
      → KeepsTime pairs words log (moment_now pairs words log caller (Returns call) ∷ moments)
  returns_keep log moments caller begun call in_it command from placed k =
      adds log moments caller (Returns call) k
      (subst (λ o. MayDo o (Returns call)) (sym in_it) command)
      (subst (Each (IsInTime (map_of pairs) (told log)))
      (sym (ended_last now moments begun call refl in_it))
      (each_append (IsInTime (map_of pairs) (told log)) (ended moments)
      (ended_now now moments begun call ∷ []) k.placed (
        record {
          from = from;
          to = to (is_change call) refl;
          made = placed.made;
          read = placed.read;
        },
        tt,
      )))
      (λ b e. absurd (none-some b e))
    where
      now : Moment
      now = moment_now pairs words log caller (Returns call)

      to : (b : Bool) → is_change call ≡ b → position_after call ≤ length (told log)
      to true e = grind (arith, slice_get_within)
      to false e = let low = (placed.read e).within in rw e (omega arith)

  -- moments beside a lawful log are linearizable
  pub kept_linearizes : (log : Log) (moments : Moments) → Lawful pairs words log
      → KeepsTime pairs words log moments
      → ((number : ℕ) → HasMadeChanges (told log) number (calls_returned number moments)
      (in_call number moments))
      → LinearizesTo (map_of pairs) moments (map_after_entries (map_of pairs) (told log))
  kept_linearizes log moments lawful k made = grind (arith, accounted_linearizes, told_at)
