-- How a caller goes on that starts a rebuild, and what the result tells. Serves `put_in` and
-- `start`.
use Rattle.std.proofs.Common.{◌≡◌, ℕ, Bool, true, false, Result, Ok, Err, None, refl, subst, arith}
use Rattle.std.specs.Result.{IsErr}
use Rattle.ist_build.specs.Laying.{IsReservation}
use Rattle.ist_core.specs.declared.ports.Full.{Full}
use Rattle.ist_core.specs.WordTerms.{IsOpen}
use Rattle.ist_core.specs.LogTerms.{Snapshot}
use Rattle.ist_rule.specs.RuleTerms.{TokenFace, WentOn, now, GoesOnTo, IsSound}
use Rattle.ist_rule.proofs.WentOnLemmas.{went_all, went_more}
use Rattle.ist_rows.specs.RowTerms.{IsQuiet, IsCaller, TakesNoWords}
use Rattle.ist_rows.specs.declared.callers.Caller.{Caller}
use Rattle.ist_dcss.specs.Helping.{Serves, IsDecided, IsOut}
use Rattle.ist_dcss.specs.Installing.{Filling, IsInstalled, IsOther}
use Rattle.ist_rebuild.specs.declared.answers.Started.{Started}
use Rattle.ist_rebuild.specs.declared.answers.Started.TheVariants.{Yes, Other, Marked}
use Rattle.ist_rebuild.specs.Starting.{ReservesNeeded, StartsDoneSince, StartsNone, StoodInstead}
use Rattle.ist_rebuild.specs.StartSteps.{HasBegun, HasReserved, IsStartReady, TellsStart, start_filling}
use Rattle.ist_rebuild.proofs.FewLemmas.{none_installed}
use Rattle.ist_rebuild.proofs.StartAnswerLemmas.{after_done, after_uninstalled, after_unstarted, has_put, no_closed, no_done, no_start, put_aims, put_begins, yes_done, yes_started}
use Rattle.ist_rebuild.proofs.NeedLemmas.{HasPutIn, aims_reserving, begins_reserving}
use Rattle.ist_rebuild.proofs.StartOwnLemmas.{starts_none_reserving, starts_reserving, other_stood}
use Rattle.ist_rebuild.proofs.StartReservedLemmas.{put_caller, put_quiet, put_refused, start_bases, loads_reserved}

-- ---- how the caller goes on

-- a caller that made at most reservings has begun
pub reserved_begun : (target : ℕ) (old new : Caller) → HasReserved old new → HasBegun target old new
reserved_begun target old new r = grind (arith, went_all, begins_reserving, aims_reserving)

-- beginning twice
pub begun_more : (target : ℕ) (old mid new : Caller) → HasBegun target old mid
    → HasBegun target mid new → HasBegun target old new
begun_more target old mid new a b = grind (arith, went_more)

-- ---- what is told after reservings

module _ (old new : Caller) (c : IsCaller old) (q : IsQuiet old) (r : HasReserved old new)
    (parent index target : ℕ) where
  abbrev g : WentOn IsReservation old.token.view new.token.view
  g = r.went

  own : ReservesNeeded old new
  own = record { went = r.went; few = r.few }

  done : (first : Snapshot) → StartsDoneSince first (now old.token.view) old.number
      → StartsDoneSince first (now new.token.view) old.number
  done = starts_reserving old.token.view new.token.view g old.number c.mine q.resolved

  none : StartsNone (now old.token.view) (now new.token.view) old.number
  none = starts_none_reserving old.token.view new.token.view g old.number c.mine q.resolved

  -- the slot held another word
  pub other_told : (word : ℕ) → StoodInstead new.token.view parent index target word
      → TellsStart old new parent index target (Ok (Other word))
  other_told word stood = record {
    yes = λ rebuild e. absurd (cc e);
    other = λ other e. subst (StoodInstead new.token.view parent index target) (cc) stood;
    marked = λ e. absurd (cc e);
    done = done;
    unstarted = none;
    uninstalled = own;
  }

  -- the parent isn't open
  pub closed_told : ¬ (IsOpen (now new.token.view) parent)
      → TellsStart old new parent index target (Ok Marked)
  closed_told closed = record {
    yes = λ rebuild e. absurd (cc e);
    other = λ word e. absurd (cc e);
    marked = λ e. closed;
    done = done;
    unstarted = none;
    uninstalled = tt;
  }

  -- a row was refused
  pub refused_told : (answer : Result Started Full) → IsErr answer
      → TellsStart old new parent index target answer
  refused_told (Ok a) is = absurd (cc is)
  refused_told (Err full) is = record {
    yes = λ rebuild e. absurd (cc e);
    other = λ word e. absurd (cc e);
    marked = λ e. absurd (cc e);
    done = done;
    unstarted = none;
    uninstalled = own;
  }

  -- what a start tells that follows them
  pub told_after : (last : Caller) (answer : Result Started Full)
      → TellsStart new last parent index target answer
      → TellsStart old last parent index target answer
  told_after last answer t = record {
    yes = t.yes;
    other = t.other;
    marked = t.marked;
    done = after_done old.token.view new.token.view last.token.view g old.number new.number
        c.mine q.resolved r.number answer t.done;
    unstarted = after_unstarted old.token.view new.token.view last.token.view g old.number
        new.number c.mine q.resolved r.number answer t.unstarted;
    uninstalled = after_uninstalled old new last r.number own answer t.uninstalled;
  }

-- ---- a start that was put in

module _ (who : Caller) (parent index target rebuild change : ℕ) (f : Filling)
    (ready : IsStartReady who rebuild change f)
    (is : f ≡ start_filling who.number parent index target rebuild) (s : IsSound who.token.view)
    (token : TokenFace) where
  -- the slot held another word: the caller only made loads
  pub other_begun : GoesOnTo who.token.view token.view → HasBegun target who (record who { token = token })
  other_begun g = reserved_begun target who (record who { token = token })
      (loads_reserved who token ready.caller ready.quiet g)

  -- and that is told
  pub other_told_of : (word : ℕ) → IsOther who.token.view change f word token.view
      → TellsStart who (record who { token = token }) parent index target (Ok (Other word))
  other_told_of word o = other_told who (record who { token = token }) ready.caller ready.quiet
      (loads_reserved who token ready.caller ready.quiet o.seen) parent index target word
      (other_stood f who.number parent index target rebuild change who.token.view word token.view is
      o)

  module _ (i : IsInstalled who.token.view change f token.view) (last : TokenFace)
      (helped : WentOn (Serves change) token.view last.view) where
    abbrev bare : Caller
    bare = record who { token = last; change = None; rebuild = None }

    put : (said : Bool) → IsDecided last.view change said → HasPutIn who.token.view change
        (start_filling who.number parent index target rebuild) said last.view
    put said d = grind (arith, has_put)

    -- it was installed and is out of its slot
    put_begun : (said : Bool) → IsDecided last.view change said → IsOut last.view change
        → HasBegun target who bare × TakesNoWords who bare
    put_begun said d out =
        let bases = start_bases who.number parent index target rebuild change f is in (
          record {
            caller = put_caller who rebuild change ready.rows ready.caller f bases token i last helped;
            number = refl;
            fresh = (refl, refl);
            went = put_begins who parent index target rebuild change f ready s last.view said
                (put said d);
            aims = put_aims who parent index target rebuild change f ready s last.view said
                (put said d);
            quiet = put_quiet who rebuild change ready.rows ready.caller f bases token i last helped
                ready.quiet out;
            refused = put_refused who rebuild change ready.rows ready.caller f bases token i last
                helped;
          },
          none_installed who f change token bare ready.caller.mine i helped refl,
        )

    -- it was decided yes
    pub put_yes : IsDecided last.view change true → IsOut last.view change
        → HasBegun target who bare × TakesNoWords who bare
        × TellsStart who bare parent index target (Ok (Yes rebuild))
    put_yes d out =
        let begun = put_begun true d out in (
          begun.0,
          begun.1,
          record {
            yes = λ other e. yes_started who parent index target rebuild change f ready s last.view
                (put true d) other (cc);
            other = λ word e. absurd (cc e);
            marked = λ e. absurd (cc e);
            done = yes_done who parent index target rebuild change f ready s last.view (put true d);
            unstarted = tt;
            uninstalled = tt;
          },
        )

    -- it was decided no
    pub put_no : IsDecided last.view change false → IsOut last.view change
        → HasBegun target who bare × TakesNoWords who bare
        × TellsStart who bare parent index target (Ok Marked)
    put_no d out =
        let begun = put_begun false d out in (
          begun.0,
          begun.1,
          record {
            yes = λ other e. absurd (cc e);
            other = λ word e. absurd (cc e);
            marked = λ e. no_closed who parent index target rebuild change f ready s last.view
                (put false d);
            done = no_done who parent index target rebuild change f ready s last.view (put false d);
            unstarted = no_start who parent index target rebuild change f ready s last.view
                (put false d);
            uninstalled = tt;
          },
        )
